use Rattle.std.proofs.Common.{◌∙◌, length, sym, arith}
use Rattle.std.proofs.lemmas.Grind.{common_steps}
use Rattle.std.proofs.lemmas.Result.{err_from_is_err_and}
use Rattle.sqs_formats.specs.Keys.{place_of}
use Rattle.sim_scenario.specs.Sections.{table_of}
use Rattle.sim_scenario.proofs.ListsRead.{item_faulty, next_item, one_more, place_in}
use Rattle.sim_scenario.proofs.lists.items.Goals as goal

pub loop-i-preserved : goal.loop-i-preserved
loop-i-preserved g c =
    let type = g.T.ListItem.says c.args.of.now (length c.args.values.now) in
    let place = place_of (table_of c.args.section.now) c.args.key.now in
    let here = c.as_str.ensures.value ∙ c.in_ok-place.ensures in
    let read = rw (c.as_slice.ensures.value, here, place_in (table_of c.args.section.now) c.args.key.now c.loop-i.i) at c.in_ok-item.ensures in
    rw c.in_ok-push.ensures.items (
      one_more c.loop-i.items.items c.in_ok-item.item c.loop-i.i c.loop-i.invariant.0,
      c.loop-i.invariant.1
          ∙ next_item type place c.args.values.now c.loop-i.i c.index-values-i.result c.loop-i.items.items c.in_ok-item.item c.loop-i-test.true (sym c.index-values-i.is) c.loop-i.invariant.0 read,
    )

pub returns-in_err-item : goal.returns-in_err-item
returns-in_err-item g c =
    let type = g.T.ListItem.says c.args.of.now (length c.args.values.now) in
    let place = place_of (table_of c.args.section.now) c.args.key.now in
    let here = c.as_str.ensures.value ∙ c.in_ok-place.ensures in
    let read = rw (c.as_slice.ensures.value, here, place_in (table_of c.args.section.now) c.args.key.now c.loop-i.i) at c.in_err-item.ensures in
    let err = err_from_is_err_and c.from_residual-in_err-item.result c.from_residual-in_err-item.ensures.1 in
    let fails = item_faulty type place c.args.values.now c.loop-i.i c.index-values-i.result c.loop-i.items.items c.in_err-item.field-0.0 c.loop-i-test.true (sym c.index-values-i.is) c.loop-i.invariant.0 read in
    rw (err.1, err.2, c.loop-i.invariant.1) fails

pub returns : goal.returns
returns g c = grind (arith, common_steps)
