use Rattle.std.proofs.Common.{[], map, ◌≡◌}
use Rattle.std.specs.List.{range_with_len}
use Rattle.sim_windows.proofs.kept.no_rows.Given as goal

-- those so far
abbrev pub invariant-loop : goal.invariant-loop
invariant-loop given l = l.lists.items ≡ map (λ p. []) (range_with_len 0 l.counter)
