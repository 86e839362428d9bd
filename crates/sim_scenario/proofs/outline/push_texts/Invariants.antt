use Rattle.std.proofs.Common.{◌≡◌, ◌++◌, drop, map}
use Rattle.toml.specs.View.{view}
use Rattle.sqs_formats.specs.Keys.{text_in}
use Rattle.sim_scenario.proofs.outline.push_texts.Given as goal

-- the texts so far, with those of the items that are left, are all
abbrev pub invariant-loop-item : goal.invariant-loop-item
invariant-loop-item l = l.initial.texts.items ++ map (text_in l.key) (map view l.items) ≡ l.texts.items ++ map (text_in l.key) (map view (drop l.item-index l.items))
