use Rattle.std.proofs.Common.{◌∙◌, ◌++◌, ◌∷◌, [], ap, map, sym, take}
use Rattle.std.proofs.lemmas.List.{map_more}
use Rattle.sqs_model.specs.Scenario.{opening_task}
use Rattle.sim_site.proofs.opening.open_tasks.Goals as goal

pub loop-i-preserved : goal.loop-i-preserved
loop-i-preserved c =
    c.in_ok-push.ensures.items ∙ ap (λ ts. ts ++ c.new.result ∷ []) c.loop-i.invariant
    ∙ ap (λ t. map (opening_task c.args.seed) (take c.loop-i.i c.args.tasks.now) ++ t ∷ []) c.new.ensures
    ∙ sym (map_more (opening_task c.args.seed) c.args.tasks.now c.loop-i.i _ c.loop-i-test.true)
