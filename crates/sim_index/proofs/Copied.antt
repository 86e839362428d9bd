-- Marks with empty places behind them.
use Rattle.std.proofs.Common.{arith, inl, inr, replicate, ℕ, ◌≡◌}
use Rattle.std.proofs.lemmas.Bool.{cases_lt}
use Rattle.std.proofs.lemmas.List.{get_or-replicate, get_or_past, length-replicate}
use Rattle.sim_index.specs.Marks.{no_mark, node}

blank : (n i : ℕ) → node (replicate n no_mark) i ≡ no_mark
blank n i =
    elim (cases_lt i n) [
      | inl l ↦ get_or-replicate n i no_mark no_mark l
      | inr l ↦ get_or_past (replicate n no_mark) i no_mark (omega (arith, length-replicate n no_mark, l))
    ]
