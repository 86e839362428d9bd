use Rattle.std.proofs.Common.{◌≡◌, take}
use Rattle.sim_engine.specs.World.{delivered, world_due}
use Rattle.sim_partition.proofs.roster.Roster.least_due_after.Given as goal

-- what is due next once those so far are delivered
abbrev pub invariant-loop-transfer : goal.invariant-loop-transfer
invariant-loop-transfer g l = l.due ≡ world_due g.S.Site.engine (delivered g.S.Site.engine (take l.transfer-index l.transfers) l.self-inside.sites.values)
