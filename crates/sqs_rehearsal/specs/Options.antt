-- How a rehearsal is split into partitions, windows and workers, and what is wrong with that.
use Rattle.std.specs.List.{range_with_len}
use Rattle.std.specs.Prelude.{Bool, List, None, Option, Some, fold, if◌then◌else◌, length, map, max, nat_le, nat_lt, unwrap_or, ℕ, ◌%◌, ◌&&◌, ◌+◌}
use Rattle.sim_clock.specs.declared.refusal.Refusal.{Refusal}
use Rattle.sim_report.specs.declared.asked.Wanted.{Wanted}
use Rattle.sim_exchange.specs.Layout.{Layout, is_layout}
use Rattle.sqs_model.specs.Scenario.{Scenario, least_latency}
use Rattle.sim_clock.specs.declared.refusal.Refusal.TheVariants as refusals

-- the options: the window in milliseconds, the number of partitions, the partition of each queue, the number of
-- workers, and what is wanted of figures, if they are
pub record Options : Type 0 where
  pub window : Option ℕ
  pub parts : Option ℕ
  pub map : Option (List ℕ)
  pub workers : ℕ
  pub figures : Option Wanted

-- those of a run on one list, with figures if they are wanted
abbrev pub unsplit : Option Wanted → Options
unsplit figures = record { window = None; parts = None; map = None; workers = 1; figures = figures }

-- one more than the greatest of some partitions; none for an empty list
abbrev pub partitions_in : List ℕ → ℕ
partitions_in ps = fold (λ n p. max n (p + 1)) 0 ps

-- how many partitions there are: as many as were asked for, or as the map needs, or one
abbrev pub parts_of : Option ℕ → Option (List ℕ) → ℕ
parts_of (Some n) map = n
parts_of None (Some ps) = partitions_in ps
parts_of None None = 1

-- the partitions of queues that are assigned in turn
abbrev pub in_turn : ℕ → ℕ → List ℕ
in_turn parts queues = map (λ q. q % parts) (range_with_len 0 queues)

-- the number of partitions, and the partition of each queue
abbrev pub layout_of : ℕ → Options → Layout
layout_of queues o =
    let parts = parts_of o.parts o.map in
    record { parts = parts; owners = unwrap_or o.map (in_turn parts queues) }

-- whether a number is in a range, both ends included
abbrev pub is_within : ℕ → ℕ → ℕ → Bool
is_within low high n = nat_le low n && nat_le n high

-- a window that is longer than the least latency
abbrev pub window_fault : ℕ → Option ℕ → Option Refusal
window_fault least None = None
window_fault least (Some w) = if nat_lt least w then Some (refusals.WindowTooLong w least) else None

-- workers that are not 1 to 64
abbrev pub workers_fault : ℕ → Option Refusal
workers_fault n = if is_within 1 64 n then None else Some refusals.BadWorkers

-- a fault before others
abbrev pub or_else : Option Refusal → Option Refusal → Option Refusal
or_else None other = other
or_else (Some r) other = Some r

-- what is wrong with what was asked for: the map first, then the window, then the workers
abbrev pub split_fault : Scenario → Options → Option Refusal
split_fault s o =
    if is_layout (length s.queues) (layout_of (length s.queues) o)
    then or_else (window_fault (least_latency s) o.window) (workers_fault o.workers)
    else Some refusals.BadMap
