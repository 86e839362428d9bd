use Rattle.std.proofs.Common.{◌≡◌, ◌-◌, ◌≤◌, replicate}
use Rattle.sim_handoff.specs.declared.records.Slot.TheVariants.{Nothing}
use Rattle.sim_handoff.proofs.handoff.empty_slots.Given as goal

abbrev pub invariant-loop-i : goal.invariant-loop-i
invariant-loop-i g l = (l.i ≤ l.count) × (l.slots.items ≡ replicate l.i Nothing)

abbrev pub decreases-loop-i : goal.decreases-loop-i
decreases-loop-i g l = l.count - l.i
