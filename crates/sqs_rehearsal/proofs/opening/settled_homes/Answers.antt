use Rattle.std.proofs.Common.{◌≡◌, ◌+◌, [], ap, arith, length, map, subst, sym, ℕ}
use Rattle.std.specs.List.{enumerate_from}
use Rattle.sqs_redrive.specs.declared.settings.TaskSettings.{TaskSettings}
use Rattle.sqs_model.specs.declared.agents.ActorSettings.{ActorSettings}
use Rattle.sqs_rehearsal.specs.Homes.{AtHome, actors_in, tasks_in}
use Rattle.sqs_rehearsal.proofs.Openings.{vacant_at_home}
use Rattle.sqs_rehearsal.proofs.opening.settled_homes.Goals as goal

pub returns-clause-settled : goal.returns-clause-settled
returns-clause-settled c =
    let vacant = c.in_ok-homes.ensures.vacant in
    let actors = c.in_ok-settle_actors.ensures.settled (vacant_at_home (λ (a : ActorSettings). a.home) actors_in (λ h v. v.actors) 0 c.in_ok-homes.homes.items vacant) in
    let none : AtHome (λ (t : TaskSettings). t.home) 0 (map tasks_in c.settle_actors.new.homes.items) [] =
    subst (λ heres. AtHome (λ (t : TaskSettings). t.home) 0 heres []) (sym c.in_ok-settle_actors.ensures.tasks) (vacant_at_home (λ (t : TaskSettings). t.home) tasks_in (λ h v. v.tasks) 0 c.in_ok-homes.homes.items vacant) in
    let count : c.len.result ≡ length c.args.actors.items = omega (arith, c.len.ensures) in
    let tasks = c.in_ok-settle_tasks.ensures.settled none in
    record {
      actors = subst (λ heres. AtHome (λ (a : ActorSettings). a.home) 0 heres (enumerate_from c.args.queues c.args.actors.items)) (sym c.in_ok-settle_tasks.ensures.actors) actors;
      tasks = subst (λ (first : ℕ). AtHome (λ (t : TaskSettings). t.home) 0 (map tasks_in c.settle_tasks.new.homes.items) (enumerate_from first c.args.tasks.items)) (ap (λ n. c.args.queues + n) count) tasks;
    }
