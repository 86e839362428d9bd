use Rattle.std.proofs.Common.{◌≡◌, ◌++◌, drop, map}
use Rattle.std.specs.List.{filter_map}
use Rattle.toml.specs.View.{view}
use Rattle.sqs_formats.specs.Scenario.{script_name}
use Rattle.sim_scenario.proofs.script_files.names_in.Given as goal

-- the names so far, with those that the items left ask for, are all
abbrev pub invariant-loop-item : goal.invariant-loop-item
invariant-loop-item l = filter_map script_name (map view l.items) ≡ l.names.items ++ filter_map script_name (map view (drop l.item-index l.items))
