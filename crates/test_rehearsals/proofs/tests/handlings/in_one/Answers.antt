use Rattle.std.specs.List.{enumerate_from}
use Rattle.std.specs.Prelude.{All, IfOk, List, ◌≡◌}
use Rattle.std.proofs.Common.{arith, subst, sym}
use Rattle.std.proofs.lemmas.List.Elements.{All-weaker}
use Rattle.sim_partition.specs.Sites.{IsPart}
use Rattle.sim_partition.proofs.Moments.{all_later}
use Rattle.sim_windows.proofs.Whole.{world_part}
use Rattle.sqs_redrive.specs.declared.transfers.Outbound.{Outbound}
use Rattle.sqs_model.specs.Conditions.{IsOfPast, sqs_conditions}
use Rattle.sqs_model.specs.Progress.{WasEnqueuedBy}
use Rattle.sqs_model.specs.Scenario.{Scenario, opening}
use Rattle.sqs_model.specs.Site.{Site}
use Rattle.sqs_model.specs.Sqs.{sqs}
use Rattle.sqs_model.proofs.Instance.{sqs_laws}
use Rattle.sqs_model.proofs.Sites.{past_from}
use Rattle.test_rehearsals.proofs.tests.handlings.in_one.Goals as goal

pub new-requires : goal.new-requires
new-requires c = subst (IsPart sqs sqs_conditions) (sym (λ k. (c.world.view_is k).opening)) (world_part sqs_laws c.in_ok-world.world c.in_ok-world.ensures.simulated)

-- what is there at first is of the beginning, so it is from no later than any arrival
pub deliver-requires-clause-past : goal.deliver-requires-clause-past
deliver-requires-clause-past c =
    let s : Scenario = c.args.scenario in
    let sites : List Site = c.in_ok-world.world.opening in
    let same : sites ≡ opening s = λ k. (c.in_ok-world.ensures.setting k).opening in
    let first : All (IsOfPast 0) sites = subst (All (IsOfPast 0)) (sym same) (past_from s (enumerate_from 0 s.queues)) in
    let transfers = c.args.transfers.items in
    let later : All (λ (o : Outbound). All (IsOfPast o.at) sites) transfers =
    All-weaker (λ (o : Outbound). WasEnqueuedBy o.at o.load) (λ (o : Outbound). All (IsOfPast o.at) sites) (λ o t. all_later sqs_laws 0 o.at sites (omega arith) first) transfers c.requires in
    subst (λ w. IfOk w (λ x. All (λ (o : Outbound). All (IsOfPast o.at) x) transfers)) (sym c.in_ok-partition.ensures)
    (subst (λ x. All (λ (o : Outbound). All (IsOfPast o.at) x) transfers) (sym (λ k. (c.world.view_is k).opening)) later)
