-- The ages at which messages were deleted, each once with its count.
use Rattle.std.specs.Prelude.{ℕ, ◌<◌, List, All, flat_map, map, replicate}
use Rattle.std.specs.List.Sorted.{IsStrictlyIncreasing}
use Rattle.sim_report.specs.declared.age_counts.AgeCount.{AgeCount}

-- the age of a count, as often as it counts
abbrev pub ages_of : AgeCount → List ℕ
ages_of c = replicate c.count c.age

-- the ages, each as often as its count
abbrev pub expanded : List AgeCount → List ℕ
expanded counts = flat_map ages_of counts

-- each age stands once, in ascending order, and is counted
pub record EachOnce (counts : List AgeCount) : Type 0 where
  pub ascends : IsStrictlyIncreasing (map (λ c. c.age) counts)
  pub some : All (λ c. 0 < c.count) counts
