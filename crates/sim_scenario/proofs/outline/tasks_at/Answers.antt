use Rattle.std.proofs.Common.{◌∙◌, ◌++◌, ap, sym, arith, append-nil, List, rules}
use Rattle.std.proofs.lemmas.Grind.{common_steps}
use Rattle.sqs_formats.specs.declared.home.HomeTask.{HomeTask}
use Rattle.sim_scenario.proofs.HomeTasks.{behind_elsewhere, behind_none}
use Rattle.sim_scenario.proofs.outline.tasks_at.Goals as goal

pub loop-i-preserved-then-ne : goal.loop-i-preserved-then-ne
loop-i-preserved-then-ne c =
    c.loop-i.invariant ∙ ap (λ (ts : List HomeTask). c.loop-i.tasks.items ++ ts)
    (behind_elsewhere c.args.home.now c.args.first c.loop-i.i c.args.names.now c.args.homes.now c.index-homes-i.result (omega arith) (omega arith) (sym c.index-homes-i.is) (search rules))

pub returns : goal.returns
returns c =
    sym (c.loop-i.invariant ∙ ap (λ (ts : List HomeTask). c.loop-i.tasks.items ++ ts) (behind_none c.args.home.now c.args.first c.loop-i.i c.args.names.now c.args.homes.now (λ a b. omega arith)) ∙ append-nil c.loop-i.tasks.items)

pub loop-i-preserved : goal.loop-i-preserved
loop-i-preserved c = grind (arith, common_steps)
