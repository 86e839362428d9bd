use Rattle.std.proofs.Common.{◌≡◌}
use Rattle.std.specs.List.{sum_by}
use Rattle.std.specs.Prelude.{length, take}
use Rattle.sim_workers.specs.Paces.{word_of}
use Rattle.sim_workers.proofs.rounds.rows_made.Given as goal

-- the rows of those so far
abbrev pub invariant-loop-one : goal.invariant-loop-one
invariant-loop-one g l = l.rows ≡ word_of (sum_by (λ one. length one.made.rows.items) (take l.one-index l.came))
