-- How a scenario is split as asked, or why it can't be.
use Rattle.std.specs.Prelude.{Err, None, Ok, Option, Result, Some, length, true, unwrap_or, ◌≡◌, ◌≤◌, ◌⊎◌, false, ◌<◌, Bool, ℕ}
use Rattle.sim_clock.specs.declared.refusal.Refusal.{Refusal}
use Rattle.sqs_model.specs.Scenario.{Scenario, least_latency}
use Rattle.sqs_rehearsal.specs.Options.{Options, is_within, layout_of, split_fault}
use Rattle.sqs_rehearsal.specs.declared.options.Split.{Split}
use Rattle.sim_clock.specs.declared.refusal.Refusal.TheVariants as refusals
use Rattle.sim_exchange.specs.Layout.{is_layout}

-- an error, if there is one
abbrev pub unless : Option Refusal → Result (Unit {0}) Refusal
unless None = Ok tt
unless (Some r) = Err r

-- why a scenario can't be split so: that, or out of memory
abbrev pub IsUnsplit : Scenario → Options → Refusal → Type 0
IsUnsplit s o e = (e ≡ refusals.Memory) ⊎ (split_fault s o ≡ Some e)

-- how a scenario is split: without a window it has the greatest that it may have
abbrev pub split_of : Scenario → Options → Split
split_of s o =
    record { layout = layout_of (length s.queues) o; window = unwrap_or o.window (least_latency s); workers = o.workers }

-- what holds if the window of a split is allowed
abbrev pub IfFits : Split → Scenario → Type 0 → Type 0
IfFits split s P = split.window ≤ least_latency s → P

-- and its number of workers
abbrev pub IfAllowed : Split → Scenario → Type 0 → Type 0
IfAllowed split s P = IfFits split s (is_within 1 64 split.workers ≡ true → P)

-- whether the window of a split, or its number of workers, is not allowed
abbrev pub IsBarred : Split → Scenario → Type 0
IsBarred split s = (least_latency s < split.window) ⊎ (is_within 1 64 split.workers ≡ false)

-- whether the partitions that are asked for are a layout of so many queues
abbrev pub can_lay : ℕ → Options → Bool
can_lay queues o = is_layout queues (layout_of queues o)
