use Rattle.std.proofs.Common.{◌≡◌, drop, map}
use Rattle.toml.specs.View.{view}
use Rattle.sqs_formats.specs.Keys.{each}
use Rattle.sqs_formats.proofs.Readings.{behind}
use Rattle.sim_scenario.proofs.items.each.Given as goal

-- what was read so far, with what is left, is the whole
abbrev pub invariant-loop-i : goal.invariant-loop-i
invariant-loop-i g l = each l.list (g.T.ItemType.says l.of) 0 (map view l.values) ≡ behind l.items.items (each l.list (g.T.ItemType.says l.of) l.i (map view (drop l.i l.values)))
