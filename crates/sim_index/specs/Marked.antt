-- Values, each with its mark.
use Rattle.std.specs.Prelude.{◌&&◌, ◌≡◌, ◌≤◌, Bool, List, length, map, nat_lt, set, ℕ}
use Rattle.std.specs.List.{AllZip, items_where_true}
use Rattle.sim_index.specs.declared.mark.Mark.{Mark}
use Rattle.sim_index.specs.Marks.{no_mark, node}

-- values, the mark of each, and whether one more certainly finds room
pub record Marked (A : Type 0) : Type 0 where
  pub values : List A
  pub marks : List Mark
  pub ready : Bool

-- whether a list of values has room for one more, and a tree has a leaf for its mark
abbrev pub is_ready : ℕ → ℕ → ℕ → Bool
is_ready values capacity leaves = nat_lt values capacity && nat_lt values leaves

-- a tree has a leaf for each of the values, and the leaves past them are empty
pub record HasLeaves (values : ℕ) (leaves : List Mark) : Type 0 where
  pub room : values ≤ length leaves
  pub rest : (i : ℕ) → values ≤ i → node leaves i ≡ no_mark

-- each value has the mark that is its own
abbrev pub AreMarked : {A : Type 0} → (A → Mark) → Marked A → Type 0
AreMarked mark list = list.marks ≡ map mark list.values

-- another value at a place
abbrev pub with_value : {A : Type 0} → Marked A → ℕ → A → Marked A
with_value m place value = record m { values = set m.values place value }

-- the values, with their marks, for which a test that was asked about each value returned `true`
pub record IsPicked {A : Type 0} (answers : A → Bool → Type 0) (old new : Marked A) : Type 0 where
  pub told : List Bool
  pub asked : AllZip answers old.values told
  pub values : new.values ≡ items_where_true told old.values
  pub marks : new.marks ≡ items_where_true told old.marks

-- the values, with their marks, for which a list has `true`
pub record IsPickedBy {A : Type 0} (told : List Bool) (old new : Marked A) : Type 0 where
  pub values : new.values ≡ items_where_true told old.values
  pub marks : new.marks ≡ items_where_true told old.marks
