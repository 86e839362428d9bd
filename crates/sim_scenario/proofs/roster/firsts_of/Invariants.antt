use Rattle.std.proofs.Common.{take}
use Rattle.sim_scenario.specs.Firsts.{AreFirsts}
use Rattle.sim_scenario.proofs.roster.firsts_of.Given as goal

-- the first places of the texts so far
abbrev pub invariant-loop-place : goal.invariant-loop-place
invariant-loop-place l = AreFirsts l.firsts.entries (take l.place l.texts)
