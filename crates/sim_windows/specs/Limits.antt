-- What a sink that takes a limited number of rows took, or at which rows it broke.
use Rattle.std.specs.Prelude.{List, length, ◌+◌, ◌<◌, ◌≡◌}
use Rattle.sim_clock.specs.declared.refusal.Refusal.{Refusal}
use Rattle.sim_clock.specs.declared.refusal.Refusal.TheVariants as refusals
use Rattle.sim_windows.specs.declared.limit.Limit.{Limit}

-- it takes that many rows fewer
abbrev pub Took : {R : Type 0} → Limit → List R → Limit → Type 0
Took before rows after = after.left + length rows ≡ before.left

-- they are more than it still took
abbrev pub Broke : {R : Type 0} → Limit → List R → Refusal → Type 0
Broke before rows refusal = (before.left < length rows) × (refusal ≡ refusals.Write)
