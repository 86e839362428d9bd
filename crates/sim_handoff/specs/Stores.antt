-- Steps by which a party stores a word of a hand-off.
use Rattle.std.specs.Prelude.{ℕ}
use mathlib.Core.Option.{none}
use Rattle.atomic_table.specs.Table.{Allows, step}
use Rattle.sim_handoff.specs.Place.{IsHandoff}
use Rattle.sim_handoff.specs.Steps.{Party, Tells}
use Rattle.sim_handoff.specs.declared.handoff.Handoff.{Handoff}

module _ {W P D : Type 0} (handoff : Handoff W P D) where
  -- what is known after a step stored this number in a word: of what it reports, and of the party before and after
  abbrev pub HasStored : Tells P D → ℕ → ℕ → Party P D → Party P D → Type 0
  HasStored tells word new before after = tells (step handoff.table.shared.table_id.slots word new 0 none) before new after

  -- the rule of the hand-off lets the party of this number store it so
  abbrev pub MayStore : (P → D → Type 0) → Tells P D → ℕ → ℕ → ℕ → Party P D → Type 0
  MayStore does tells word new id party =
      Allows (IsHandoff does handoff.table.shared.key) handoff.table.shared.table_id.slots id party word
      (λ _. new) (λ _. HasStored tells word new party)
