use Rattle.std.proofs.Common.{◌≡◌, [], drop, length, map}
use Rattle.toml.specs.View.{view}
use Rattle.sqs_formats.specs.Keys.{place_of}
use Rattle.sqs_formats.specs.Lists.{items}
use Rattle.sim_scenario.specs.Sections.{table_of}
use Rattle.sim_scenario.proofs.lists.items.Given as goal

-- what was read so far, and then what is left, is the whole
abbrev pub invariant-loop-i : goal.invariant-loop-i
invariant-loop-i g l =
    (length l.items.items ≡ l.i)
    × (items (g.T.ListItem.says l.of (length l.values)) (place_of (table_of l.section) l.key) [] (map view l.values)
    ≡ items (g.T.ListItem.says l.of (length l.values)) (place_of (table_of l.section) l.key) l.items.items (map view (drop l.i l.values)))
