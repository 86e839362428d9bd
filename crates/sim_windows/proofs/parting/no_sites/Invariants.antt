use Rattle.std.proofs.Common.{[], map, ◌≡◌}
use Rattle.std.specs.List.{range_with_len}
use Rattle.sim_windows.proofs.parting.no_sites.Given as goal

abbrev pub invariant-loop : goal.invariant-loop
invariant-loop given l = map (λ x. x.items) l.lists.items ≡ map (λ p. []) (range_with_len 0 l.counter)
