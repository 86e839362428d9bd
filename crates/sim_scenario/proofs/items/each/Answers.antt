use Rattle.std.proofs.Common.{◌∙◌, arith, map, sym}
use Rattle.std.proofs.lemmas.Result.{err_from_is_err_and}
use Rattle.toml.specs.View.{view}
use Rattle.sqs_formats.specs.Keys.{each}
use Rattle.sqs_formats.proofs.Readings.{behind_none}
use Rattle.sim_scenario.specs.Sections.{table_of}
use Rattle.sim_scenario.proofs.ListItems.{item_fails, item_read, items_end, no_table}
use Rattle.sim_scenario.proofs.items.each.Goals as goal

pub loop-i-init : goal.loop-i-init
loop-i-init g c = rw c.in_ok-items.ensures.items (behind_none (each c.args.list.now (g.T.ItemType.says c.args.of.now) 0 (map view c.args.values.now)))

pub loop-i-preserved : goal.loop-i-preserved
loop-i-preserved g c =
    rw c.in_ok-push.ensures.items
    (c.loop-i.invariant ∙ item_read c.args.list.now (g.T.ItemType.says c.args.of.now) c.args.values.now c.loop-i.i c.index-values-i.result c.loop-i.items.items (table_of c.in_ok-section.section) c.in_ok-read.field-0 c.loop-i-test.true (sym c.index-values-i.is) c.in_ok-section.ensures c.in_ok-read.ensures)

pub returns-in_err-section : goal.returns-in_err-section
returns-in_err-section g c =
    let err = err_from_is_err_and c.from_residual-in_err-section.result c.from_residual-in_err-section.ensures.1 in
    let fails = no_table c.args.list.now (g.T.ItemType.says c.args.of.now) c.args.values.now c.loop-i.i c.index-values-i.result c.loop-i.items.items c.in_err-section.field-0.0 c.loop-i-test.true (sym c.index-values-i.is) c.in_err-section.ensures in
    rw (err.1, err.2, c.loop-i.invariant) fails

pub returns-in_err-read : goal.returns-in_err-read
returns-in_err-read g c =
    let err = err_from_is_err_and c.from_residual-in_err-read.result c.from_residual-in_err-read.ensures.1 in
    let fails = item_fails c.args.list.now (g.T.ItemType.says c.args.of.now) c.args.values.now c.loop-i.i c.index-values-i.result c.loop-i.items.items (table_of c.in_ok-section.section) c.in_err-read.field-0.0 c.loop-i-test.true (sym c.index-values-i.is) c.in_ok-section.ensures c.in_err-read.ensures in
    rw (err.1, err.2, c.loop-i.invariant) fails

pub returns : goal.returns
returns g c = c.loop-i.invariant ∙ items_end c.args.list.now (g.T.ItemType.says c.args.of.now) c.args.values.now c.loop-i.i c.loop-i.items.items (omega arith)
