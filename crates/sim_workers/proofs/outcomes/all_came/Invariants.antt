use Rattle.std.proofs.Common.{◌≡◌, ◌≤◌, ◌+◌, length, map, vec_capacity, MatchOption, Ok}
use Rattle.std.specs.Vec.Iter.{into_iter_len}
use Rattle.sim_workers.specs.Rounds.{gravest}
use Rattle.sim_workers.proofs.outcomes.all_came.Given as goal

abbrev pub invariant-loop-outcome : goal.invariant-loop-outcome
invariant-loop-outcome g l = record {
  can : (goal.iterator-loop-outcome g).can_next l.outcome-iterator;
  ends : (goal.iterator-loop-outcome g).is_finite l.outcome-iterator;
  count : length l.all.items ≤ length l.yielded;
  rest : length l.yielded + into_iter_len l.outcome-iterator ≡ length l.fn.outcomes.items;
  room : length l.fn.outcomes.items ≤ vec_capacity l.all;
  so_far : gravest l.yielded ≡ l.refused;
  came : MatchOption l.refused (l.yielded ≡ map (λ c. Ok c) l.all.items) (λ _. Unit {0});
}
