-- What every shelf keeps.
use Rattle.std.specs.Prelude.{◌≡◌, All, ℕ, ◌<◌, ◌^◌}
use Rattle.std.specs.List.{AllZip}
use Rattle.sim_index.specs.Marked.{Marked}
use Rattle.sqs_messages.specs.Counted.{counts_of}
use Rattle.sqs_messages.specs.Heads.{told}
use Rattle.sqs_messages.specs.Slots.{AreOrdered, Holding, IsNamed, shelved}
use Rattle.sqs_messages.specs.declared.slot.Slot.{Slot}
use Rattle.sqs_messages.specs.declared.shelf.Shelf.TheInside.{Inside}

-- places in order, all below a number, each with its mark
pub record AreShelf (list : Marked Slot) (next : ℕ) : Type 0 where
  pub ordered : AreOrdered list.values
  pub named : AllZip IsNamed list.values list.marks
  pub below : All (λ s. s.number < next) list.values

-- what every shelf keeps: its places, the range of its next number, and the counts of its messages
pub record IsShelf (s : Inside) : Type 0 where
  pub places : AreShelf s.slots s.next
  pub in_range : s.next < 2 ^ 64
  pub counted : s.counts ≡ counts_of (told (shelved s.slots.values s.slots.marks))

-- what contracts see of a shelf
abbrev pub holding_of : Inside → Holding
holding_of s = record { items = shelved s.slots.values s.slots.marks; next = s.next; ready = s.slots.ready }
