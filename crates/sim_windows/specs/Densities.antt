-- How many rows a run makes in a stretch of time, and whether rounds of partitions would pay.
use Rattle.std.specs.Prelude.{Bool, if◌then◌else◌, min, nat_le, ℕ, ◌&&◌, ◌+◌, ◌-◌, ◌^◌, ◌||◌}
use Rattle.sim_engine.specs.declared.edge.Edge.{Edge}
use Rattle.sim_windows.specs.declared.density.Density.{Density}

-- a count as far as a word goes
abbrev pub up_to_word : ℕ → ℕ
up_to_word n = min n (2 ^ 64 - 1)

-- a run at its beginning: its first stretch begins with the first entry
abbrev pub begun_with : ℕ → Density
begun_with length = record { length = length; end = 0; made = 0; dense = 0 }

-- whether a stretch is over when something is handled at a moment: its time is, or it has made 16,384 rows
abbrev pub is_over : Density → ℕ → Bool
is_over d at = nat_le d.end at || nat_le 16384 d.made

-- how many stretches, one after another, have made enough rows for a round, with this one as the last
abbrev pub dense_stretches : Density → ℕ
dense_stretches d = if nat_le 1024 d.made then up_to_word (d.dense + 1) else 0

-- the stretch in which something is handled at a moment
abbrev pub next_stretch : Density → ℕ → Density
next_stretch d at = if is_over d at then record d { end = up_to_word (at + d.length); made = 0; dense = dense_stretches d } else d

-- whether rounds would pay from a moment on: a stretch is over, and it and the seven before were dense
abbrev pub pays : Density → ℕ → Bool
pays d at = is_over d at && nat_le 8 (dense_stretches d)

-- with this many more rows
abbrev pub with_rows : Density → ℕ → Density
with_rows d rows = record d { made = up_to_word (d.made + rows) }
