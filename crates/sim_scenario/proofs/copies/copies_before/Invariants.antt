use Rattle.std.proofs.Common.{◌≡◌, ◌+◌, drop, map, take}
use Rattle.std.specs.List.{range_with_len, sum, sum_by}
use Rattle.sim_scenario.proofs.copies.copies_before.Given as goal

-- those counted so far are with the rest all of them, and each actor so far has those before it
abbrev pub invariant-loop-count : goal.invariant-loop-count
invariant-loop-count l =
    record {
      total : l.total + sum_by (λ n. n) (drop l.count-index l.copies) ≡ sum_by (λ n. n) l.copies;
      before : l.before.items ≡ map (λ n. sum (take n l.copies)) (range_with_len 0 l.count-index);
    }
