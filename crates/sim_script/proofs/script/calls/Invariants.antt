use Rattle.std.proofs.Common.{◌≡◌, ◌+◌, drop, map}
use Rattle.csv.specs.Records.{fields_of}
use Rattle.sqs_formats.specs.Script.{calls_from}
use Rattle.sqs_formats.proofs.Readings.{behind}
use Rattle.sim_script.proofs.script.calls.Given as goal

-- the calls so far, with those that are left, are all
abbrev pub invariant-loop-i : goal.invariant-loop-i
invariant-loop-i l = calls_from l.home 2 0 (map fields_of l.rows) ≡ behind l.calls.items (calls_from l.home (l.i + 2) l.free (map fields_of (drop l.i l.rows)))
