use Rattle.std.proofs.Common.{◌≡◌, ◌≤◌, drop}
use Rattle.sqs_formats.specs.Script.{digits_value}
use Rattle.sim_script.proofs.Digits.{value_from}
use Rattle.sim_script.proofs.records.digits_value.Given as goal

-- the value so far, with the digits that are left, makes the whole
abbrev pub invariant-loop-byte : goal.invariant-loop-byte
invariant-loop-byte l = record { small : l.value ≤ 4294967295; whole : digits_value l.field ≡ value_from l.value (drop l.byte-index l.field) }
