use Rattle.std.proofs.Common.{◌≡◌, ◌++◌}
use Rattle.sqs_formats.specs.Copies.{copy_names}
use Rattle.sim_scenario.proofs.copies.push_copy_names.Given as goal

-- the names of the copies so far stand behind the others
abbrev pub invariant-loop-n : goal.invariant-loop-n
invariant-loop-n l = l.names.items ≡ l.initial.names.items ++ copy_names l.name l.n
