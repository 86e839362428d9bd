use Rattle.std.proofs.Common.{◌≡◌, ◌+◌, ◌++◌, drop, map}
use Rattle.toml.specs.View.{view}
use Rattle.sqs_formats.specs.Outline.{scalers_from}
use Rattle.sim_scenario.proofs.outline.scalers_from.Given as goal

-- those found so far, with those that are left, are all
abbrev pub invariant-loop-i : goal.invariant-loop-i
invariant-loop-i l = scalers_from l.first (map view l.actors) ≡ l.scalers.items ++ scalers_from (l.first + l.i) (map view (drop l.i l.actors))
