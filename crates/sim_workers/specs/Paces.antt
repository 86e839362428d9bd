-- Where rounds are cut, and when rows are settled.
use Rattle.std.specs.Prelude.{Bool, None, Option, Some, if◌then◌else◌, max, min, nat_le, nat_lt, ℕ, ◌&&◌, ◌*◌, ◌+◌, ◌-◌, ◌/◌, ◌^◌, ◌||◌}
use Rattle.sim_workers.specs.declared.pace.Pace.{Pace}

-- a count as far as a word goes
abbrev pub word_of : ℕ → ℕ
word_of n = min n (2 ^ 64 - 1)

-- the length of the next stretch: twice as long after few rows, half as long after many, from a millisecond to a minute
abbrev pub span_after : Pace → ℕ
span_after p =
    if nat_lt p.made 16384 then min (p.span * 2) 60000
    else if nat_lt 65536 p.made then max (p.span / 2) 1
    else p.span

-- whether a stretch is over when something is handled at a moment: it is not before its end, or more than a whole
-- stretch before it
abbrev pub is_over : Pace → ℕ → Bool
is_over p at = nat_le p.cut at || nat_lt (word_of (at + p.span)) p.cut

-- the stretch in which something is handled at a moment
abbrev pub next_stretch : Pace → ℕ → Pace
next_stretch p at = if is_over p at then record p { span = span_after p; cut = word_of (at + span_after p); made = 0 } else p

-- with this many more rows
abbrev pub added : Pace → ℕ → Pace
added p rows = record p { made = word_of (p.made + rows); fresh = word_of (p.fresh + rows) }

-- whether enough rows of these partitions wait
abbrev pub is_full : Pace → ℕ → Bool
is_full p parts = nat_le (64 * min 16 parts) p.fresh && nat_le p.kept p.fresh

-- with this many of the waiting rows settled
abbrev pub settled_after : Pace → ℕ → Pace
settled_after p rows = record p { fresh = 0; kept = word_of (p.kept + p.fresh) - rows }

-- the same, if rows were to be settled
abbrev pub settled_if : Pace → Option ℕ → Pace
settled_if p None = p
settled_if p (Some rows) = settled_after p rows
