use Rattle.std.proofs.Common.{◌∙◌, ◌+◌, arith, map, sym}
use Rattle.std.proofs.lemmas.Result.{err_from_is_err_and}
use Rattle.csv.specs.Records.{fields_of}
use Rattle.sqs_formats.specs.Script.{calls_from}
use Rattle.sqs_formats.proofs.Readings.{behind_none}
use Rattle.sim_script.proofs.ScriptRanges.{call_in_range}
use Rattle.sim_script.proofs.RecordCalls.{row_fails, row_read, rows_end}
use Rattle.sim_script.proofs.script.calls.Goals as goal

pub loop-i-init : goal.loop-i-init
loop-i-init c = rw c.new-calls.ensures.items (behind_none (calls_from c.args.home.now 2 0 (map fields_of c.args.rows.now)))

pub loop-i-preserved : goal.loop-i-preserved
loop-i-preserved c =
    rw (c.in_ok-push.ensures.items, c.free_after-free.ensures)
    (c.loop-i.invariant ∙ row_read c.args.home.now c.args.rows.now c.loop-i.i c.index-rows-i.result c.loop-i.free c.loop-i.calls.items c.in_ok-call.call c.loop-i-test.true (sym c.index-rows-i.is) c.in_ok-call.ensures)

pub returns-in_err-call : goal.returns-in_err-call
returns-in_err-call c =
    let err = err_from_is_err_and c.from_residual.result c.from_residual.ensures.1 in
    let fails = row_fails c.args.home.now c.args.rows.now c.loop-i.i c.index-rows-i.result c.loop-i.free c.loop-i.calls.items c.in_err-call.field-0.0 c.loop-i-test.true (sym c.index-rows-i.is) c.in_err-call.ensures in
    rw (err.1, err.2, c.loop-i.invariant) fails

pub returns : goal.returns
returns c = c.loop-i.invariant ∙ rows_end c.args.home.now c.args.rows.now c.loop-i.i _ c.loop-i.free c.loop-i.calls.items (omega arith)

pub free_after-free-requires : goal.free_after-free-requires
free_after-free-requires c =
    let range = call_in_range c.args.home.now (c.loop-i.i + 2) c.loop-i.free (fields_of c.index-rows-i.result) c.in_ok-call.call c.in_ok-call.ensures in
    record { at = range.0; most = omega (arith, range.1) }
