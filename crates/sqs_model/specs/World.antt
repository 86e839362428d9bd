-- Worlds of sites of SQS, by the engine's definitions.
use Rattle.std.specs.Prelude.{List, Option, false, ℕ, ◌∷◌, ◌≡◌}
use Rattle.sim_clock.specs.declared.key.Key.{Key}
use Rattle.sim_clock.specs.Order.{same_key}
use Rattle.sim_engine.specs.World as engine
pub use Rattle.sim_engine.specs.World.{due_by, is_due}
use Rattle.sqs_message.specs.declared.row.Row.{Row}
use Rattle.sqs_redrive.specs.declared.transfers.Outbound.{Outbound}
use Rattle.sqs_redrive.specs.Transfers.{transfer_key}
use Rattle.sqs_model.specs.Progress.{IsSoundScenario}
use Rattle.sqs_model.specs.Run.{IsRunOf, Run}
use Rattle.sqs_model.specs.Scenario.{Scenario}
use Rattle.sqs_model.specs.Site.{Site}
use Rattle.sqs_model.specs.Sqs.{sqs}
use Rattle.sqs_model.specs.Step.{Handled}

-- the least due of all sites
abbrev pub world_due : List Site → Option Key
world_due = engine.world_due sqs

-- the next due of a world by the horizon
abbrev pub next_due : ℕ → List Site → Option Key
next_due = engine.next_due sqs

-- a transfer goes to the site of its destination
abbrev pub delivered_one : Outbound → Site → Site
delivered_one = engine.delivered_one sqs

-- transfers go to their sites, one after another
abbrev pub delivered : List Outbound → List Site → List Site
delivered = engine.delivered sqs

-- two transfers of different keys are delivered in either order
abbrev pub DeliveryInAnyOrder : Type 0
DeliveryInAnyOrder =
    (o p : Outbound) (os : List Outbound) (sites : List Site)
    → same_key (transfer_key p) (transfer_key o) ≡ false
    → delivered (o ∷ (p ∷ os)) sites ≡ delivered (p ∷ (o ∷ os)) sites

-- a world after a handling, the rows made, and what was sent and is not delivered yet
abbrev pub Stepped : Type 0
Stepped = engine.Stepped sqs

-- the first site handles its due
abbrev pub handled_here : Handled → List Site → Stepped
handled_here = engine.handled_here sqs

-- one of the others does
abbrev pub handled_there : Site → Stepped → Stepped
handled_there = engine.handled_there sqs

-- the site whose least due this key is handles it
abbrev pub handled_among : Key → List Site → Stepped
handled_among = engine.handled_among sqs

-- a handling with its rows, and what it sent delivered
abbrev pub run_on : List Row → Stepped → Run
run_on = engine.run_on sqs

-- a run after the handling of a due, if there is one
abbrev pub stepped_at : Run → Option Key → Run
stepped_at = engine.stepped_at sqs

-- a run after one more handling
abbrev pub stepped : ℕ → Run → Run
stepped = engine.stepped sqs

-- these are the last world and all rows of the run from an opening
abbrev pub IsWholeRun : ℕ → List Site → Run → Type 0
IsWholeRun = engine.IsWholeRun sqs

-- every sound scenario has a whole run
abbrev pub RunEnds : Type 0
RunEnds = (s : Scenario) → IsSoundScenario s → (r : Run) × IsRunOf s r
