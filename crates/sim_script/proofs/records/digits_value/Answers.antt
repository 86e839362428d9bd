use Rattle.std.proofs.Common.{◌≡◌, ◌+◌, ◌*◌, arith, drop}
use Rattle.std.proofs.lemmas.Grind.{common_steps}
use Rattle.sqs_formats.specs.Script.{digits_value}
use Rattle.sim_script.proofs.Digits.{too_great, value_from}
use Rattle.sim_script.proofs.records.digits_value.Goals as goal

pub returns-then-value-gt4294967295 : goal.returns-then-value-gt4294967295
returns-then-value-gt4294967295 c =
    let s = c.args.field.now in
    let n = 10 * c.loop-byte.value + c.saturating_sub.result in
    let rest = drop (c.loop-byte.byte-index + 1) s in
    let e : digits_value s ≡ value_from n rest = grind (arith, common_steps) in
    too_great s n rest e c.if-value-gt4294967295.true
