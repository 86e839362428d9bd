use Rattle.std.proofs.Common.{◌≡◌, ◌++◌, drop, take}
use Rattle.std.specs.List.{flat_map}
use Rattle.sim_scenario.proofs.reader.by_number.Given as goal

-- the agents so far, with those of the actors that are left, are all
abbrev pub invariant-loop-agents : goal.invariant-loop-agents
invariant-loop-agents l =
    record {
      firsts : flat_map (take 1) l.fn.actors.items ≡ l.firsts.items ++ flat_map (take 1) l.agents-iterator.rest.items;
      others : flat_map (drop 1) l.fn.actors.items ≡ l.others.items ++ flat_map (drop 1) l.agents-iterator.rest.items;
    }
