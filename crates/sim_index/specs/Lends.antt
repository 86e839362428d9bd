-- What a list of values with their marks becomes when a `&mut` to one of them is returned.
use Rattle.std.specs.Prelude.{ℕ}
use Rattle.std.specs.Borrow.{Fml, Lends, MutBor, RattleType}
use Rattle.sim_index.specs.Marked.{Marked, with_value}
use Rattle.sim_index.specs.contracts.marked.MarkedList.{the_row}

-- once the borrow r ends, the value at a place is what r shows last
abbrev pub LendsValue : (T : RattleType) → MutBor (Marked T.Denot) → ℕ → MutBor T.Denot → Fml
LendsValue T list place r = Lends (the_row T) T list r (with_value list.now place)
