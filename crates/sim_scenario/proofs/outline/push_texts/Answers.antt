use Rattle.std.proofs.Common.{◌∙◌, rules, sym, arith}
use Rattle.std.proofs.lemmas.Grind.{common_steps}
use Rattle.sim_scenario.proofs.ListItems.{text_read}
use Rattle.sim_scenario.proofs.outline.push_texts.Goals as goal

pub loop-item-preserved : goal.loop-item-preserved
loop-item-preserved c =
    rw c.in_ok-push.ensures.items
    (c.loop-item.invariant ∙ text_read c.args.key.now c.args.items.now c.loop-item.item-index c.item-item.result c.loop-item.texts.items c.new.result c.loop-item-test.true (sym c.item-item.is) (search rules))

pub returns : goal.returns
returns c = grind (arith, common_steps)
