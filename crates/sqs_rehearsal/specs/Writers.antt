-- What writers got.
use Rattle.std.specs.Prelude.{Bool, List, false, ℕ, ◌≡◌}
use Rattle.std.specs.Io.KnownBytes.{Appends}
use Rattle.sim_records.specs.Writes.{AppendsPrefix, WriterState}

-- a writer before and after
pub record Writer : Type 0 where
  pub before : WriterState
  pub after : WriterState

-- the same, by what a writer's kind shows of it before and after
abbrev pub seen : {W : Type 0} → (W → WriterState) → W → W → Writer
seen state before after = record { before = state before; after = state after }

-- a writer that got just this text
pub record Got (w : Writer) (text : List ℕ) : Type 0 where
  pub bytes : Appends w.before.held w.after.held text
  pub whole : w.after.failed ≡ false

-- a writer that got a prefix of this text, and whether it failed
pub record GotPrefix (w : Writer) (text : List ℕ) (failed : Bool) : Type 0 where
  pub bytes : AppendsPrefix w.before.held w.after.held text
  pub fails : w.after.failed ≡ failed

-- a writer that got nothing
pub record GotNothing (w : Writer) : Type 0 where
  pub nothing : w.after.held ≡ w.before.held
  pub whole : w.after.failed ≡ false
