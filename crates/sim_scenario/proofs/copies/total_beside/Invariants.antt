use Rattle.std.proofs.Common.{◌≡◌, ◌+◌, ◌-◌, drop}
use Rattle.std.specs.List.{sum_by}
use Rattle.sim_scenario.proofs.copies.total_beside.Given as goal

-- those counted so far are with the rest all of them
abbrev pub invariant-loop-count : goal.invariant-loop-count
invariant-loop-count l = l.total + sum_by (λ n. n - 1) (drop l.count-index l.copies) ≡ sum_by (λ n. n - 1) l.copies
