use Rattle.std.proofs.Common.{◌≡◌, ℕ, ◌-◌, ◌<◌, ◌≤◌, false, get_or, length, vec_capacity}
use Rattle.std.specs.Slots.{slots_items, slots_filled, slots_len}
use Rattle.std.specs.Slots.Ownership.{Filled}
use Rattle.sim_handoff.specs.Ends.{Says}
use Rattle.sim_handoff.specs.declared.records.Slot.TheVariants.{Nothing}
use Rattle.sim_handoff.specs.declared.ends.Left.TheVariants.{Empty}
use Rattle.sim_handoff.proofs.ends.unload.Given as goal

abbrev pub invariant-loop-i : goal.invariant-loop-i
invariant-loop-i g l =
    (l.i ≤ l.places) × (l.closed.words ≡ l.fn.closed.words) × (slots_items l.closed.slots ≡ slots_items l.fn.closed.slots) × (slots_len l.closed.slots ≡ l.places)
    × Filled (slots_filled l.closed.slots) l.i (slots_len l.closed.slots) × ((k : ℕ) → k < l.i → get_or (slots_filled l.closed.slots) k false ≡ false)
    × (length l.all.items ≡ l.i) × (l.places ≤ vec_capacity l.all)
    × ((p : ℕ) → p < l.i → Says (get_or (slots_items l.fn.closed.words) p 0) (get_or (slots_items l.fn.closed.slots) p Nothing) (get_or l.all.items p Empty))

abbrev pub decreases-loop-i : goal.decreases-loop-i
decreases-loop-i g l = l.places - l.i
