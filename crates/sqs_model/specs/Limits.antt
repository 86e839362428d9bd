-- The greatest count that a run has reached. Counts only grow, and the code refuses one that would pass `most_count`.
use Rattle.std.specs.Prelude.{List, max, ℕ, ◌<◌, ◌≤◌}
use Rattle.sim_clock.specs.declared.key.Key.{Key}
use Rattle.sim_engine.specs.Counts as engine
use Rattle.sqs_message.specs.declared.row.Row.{Row}
use Rattle.sqs_model.specs.Answers.{most_count}
use Rattle.sqs_model.specs.Counts.{site_count}
use Rattle.sqs_model.specs.Run.{Run, after}
use Rattle.sqs_model.specs.Scenario.{Scenario, opening}
use Rattle.sqs_model.specs.Site.{Effect, Site}
use Rattle.sqs_model.specs.Sqs.{sqs}
use Rattle.sqs_model.specs.Step.{Handled, handled}

-- how often a message was received at most, by some rows; the message may have gone
abbrev pub rows_count : List Row → ℕ
rows_count = engine.rows_count sqs

-- whether an effect takes a count past the limit
abbrev pub PassesCount : Effect → Type 0
PassesCount e = most_count < max (site_count e.core) (rows_count e.rows)

-- what a handling did
abbrev pub effect_of : Handled → Effect
effect_of h = record { core = h.site.core; rows = h.rows; sent = h.sent }

-- that of some sites
abbrev pub sites_count : List Site → ℕ
sites_count = engine.sites_count sqs

-- the greatest count that a run has reached: in a site, or in the receive count of a row
abbrev pub run_count : Run → ℕ
run_count = engine.run_count sqs

-- a scenario whose one-list run takes a count past the limit
abbrev pub IsOver : Scenario → Type 0
IsOver s = (n : ℕ) × most_count < run_count (after s.horizon n (opening s))

-- the counts of a site only grow
abbrev pub CountsOnlyGrow : Type 0
CountsOnlyGrow = (key : Key) (s : Site) → site_count s.core ≤ site_count (handled key s).site.core
