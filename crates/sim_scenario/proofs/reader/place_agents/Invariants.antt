use Rattle.std.proofs.Common.{◌≡◌, ◌++◌}
use Rattle.sim_scenario.proofs.reader.place_agents.Given as goal

-- the others so far, with those that are left, are all
abbrev pub invariant-loop-agent : goal.invariant-loop-agent
invariant-loop-agent l = l.initial.others.items ++ l.initial.agent-iterator.rest.items ≡ l.others.items ++ l.agent-iterator.rest.items
