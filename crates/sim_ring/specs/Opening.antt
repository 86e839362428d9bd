-- What a ring begins with.
use Rattle.std.specs.List.{range_with_len}
use Rattle.std.specs.Prelude.{[], map, ℕ, ◌%◌, ◌+◌, ◌∷◌}
use Rattle.sim_clock.specs.declared.key.Class.TheVariants.{Arrival}
use Rattle.sim_engine.specs.Setting.{Setting}
use Rattle.sim_engine.specs.declared.edge.Edge.{Edge}
use Rattle.sim_ring.specs.declared.counter.Counter.{Counter}

-- the number of the next counter in a ring: after the last comes the first
abbrev pub next_of : ℕ → ℕ → ℕ
next_of counters number = (number + 1) % counters

-- a counter that has counted nothing, and that a token reaches at the beginning
abbrev pub opening_counter : ℕ → ℕ → ℕ → Counter
opening_counter counters apart number =
    record {
      number = number;
      next = next_of counters number;
      way = apart;
      count = 0;
      arriving = record { at = 0; agent = number; class = Arrival; number = 0 } ∷ [];
    }

-- the way from a counter to the next one
abbrev pub way_from : ℕ → ℕ → ℕ → Edge
way_from counters apart number = record { from = number; to = next_of counters number; least = apart }

-- a ring of counters, whose ways take `apart` milliseconds
abbrev pub ring_setting : ℕ → ℕ → ℕ → Setting Counter
ring_setting counters apart horizon =
    record {
      horizon = horizon;
      opening = map (opening_counter counters apart) (range_with_len 0 counters);
      edges = map (way_from counters apart) (range_with_len 0 counters);
    }
