-- What a run of PHOLD begins with.
use Rattle.std.specs.List.{range_with_len}
use Rattle.std.specs.Prelude.{List, [], flat_map, map, suc, zero, ℕ, ◌-◌}
use Rattle.rand_pcg.specs.Lcg.{increment_of, started}
use Rattle.rand_pcg.specs.Pcg.{multiplier_64}
use Rattle.sim_clock.specs.declared.key.Key.{Key}
use Rattle.sim_clock.specs.declared.key.Class.TheVariants.{Arrival}
use Rattle.sim_clock.specs.Order.{inserted}
use Rattle.sim_engine.specs.Setting.{Setting}
use Rattle.sim_engine.specs.declared.edge.Edge.{Edge}
use Rattle.sim_phold.specs.declared.opening.Workload.{Workload}
use Rattle.sim_phold.specs.declared.process.Process.{Process}

-- the events with which a process begins: so many at the beginning, as if it had sent them to itself
unfoldable pub opening_events : ℕ → ℕ → List Key
opening_events number zero = []
opening_events number (suc n) =
    inserted (record { at = 0; agent = number; class = Arrival; number = n }) (opening_events number n)

-- a process that has handled nothing: its words are a stream of its own
abbrev pub opening_process : Workload → ℕ → Process
opening_process w number =
    record {
      number = number;
      last = w.processes - 1;
      lookahead = w.lookahead;
      hold = w.hold;
      words = started 64 multiplier_64 w.seed (increment_of 64 number);
      count = 0;
      arriving = opening_events number w.events;
    }

-- the numbers of the processes
abbrev pub numbers : Workload → List ℕ
numbers w = range_with_len 0 w.processes

-- the ways from a process, to each one
abbrev pub way : Workload → ℕ → ℕ → Edge
way w from to = record { from = from; to = to; least = w.lookahead }

abbrev pub ways_from : Workload → ℕ → List Edge
ways_from w from = map (way w from) (numbers w)

abbrev pub phold_setting : Workload → ℕ → Setting Process
phold_setting w horizon =
    record {
      horizon = horizon;
      opening = map (opening_process w) (numbers w);
      edges = flat_map (ways_from w) (numbers w);
    }
