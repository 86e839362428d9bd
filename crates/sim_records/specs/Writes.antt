-- The state of a writer, and what a write leaves of it.
use Rattle.std.specs.Prelude.{◌≡◌, ℕ, ◌≤◌, List, Option, Bool, true, false, Result, Ok, Err, length, take}
use Rattle.std.specs.Io.KnownBytes.{Appends}
use Rattle.sim_clock.specs.declared.refusal.Refusal.{Refusal}
use Rattle.sim_clock.specs.declared.refusal.Refusal.TheVariants as refusal

-- the bytes that a writer has taken, if it shows them, whether it has failed, and whether it has been flushed and has taken
-- nothing since
pub record WriterState : Type 0 where
  pub held : Option (List ℕ)
  pub failed : Bool
  pub flushed : Bool

-- known bytes grow by some prefix of these
abbrev pub AppendsPrefix : Option (List ℕ) → Option (List ℕ) → List ℕ → Type 0
AppendsPrefix old new bytes = (n : ℕ) × (n ≤ length bytes) × Appends old new (take n bytes)

-- one record: all of its bytes at Ok; none if memory runs out; a prefix of them if the writer fails
abbrev pub Wrote : WriterState → WriterState → List ℕ → Result (Unit {0}) Refusal → Type 0
Wrote old new bytes (Ok u) = Appends old.held new.held bytes × (new.failed ≡ false)
Wrote old new bytes (Err refusal.Memory) = (new.held ≡ old.held) × (new.failed ≡ false)
Wrote old new bytes (Err refusal.Write) = AppendsPrefix old.held new.held bytes × (new.failed ≡ true)
Wrote old new bytes (Err r) = ⊥

-- several records: all of their bytes at Ok; a prefix of them if memory runs out or the writer fails
abbrev pub WroteSeveral : WriterState → WriterState → List ℕ → Result (Unit {0}) Refusal → Type 0
WroteSeveral old new bytes (Ok u) = Appends old.held new.held bytes × (new.failed ≡ false)
WroteSeveral old new bytes (Err refusal.Memory) = AppendsPrefix old.held new.held bytes × (new.failed ≡ false)
WroteSeveral old new bytes (Err refusal.Write) = AppendsPrefix old.held new.held bytes × (new.failed ≡ true)
WroteSeveral old new bytes (Err r) = ⊥
