-- How a run of a scenario ends, and what its sink took.
use Rattle.std.specs.Prelude.{Err, List, Result, ℕ, ◌<◌, ◌≡◌}
use Rattle.sim_clock.specs.declared.refusal.Refusal.{Refusal}
use Rattle.sim_clock.specs.declared.refusal.Refusal.TheVariants as refusals
use Rattle.sim_windows.specs.Sinks.{HasStopped, HasTaken}
use Rattle.sim_workers.specs.Runs.{StopsAnyhow}
use Rattle.sqs_message.specs.declared.row.Row.{Row}
use Rattle.sqs_model.specs.Run.{setting_of}
use Rattle.sqs_model.specs.Scenario.{Scenario, least_latency}
use Rattle.sqs_model.specs.Site.{Site}
use Rattle.sqs_model.specs.Sqs.{sqs}

-- a sink took all rows of a scenario's run, which leaves these sites
abbrev pub TookRun : {K : Type 0} → (K → List Row → K → Type 0) → Scenario → K → K → List Site → Type 0
TookRun took s before after sites = HasTaken sqs took (setting_of s) before after sites

-- a run of a scenario stopped, and its sink took a prefix of its rows
abbrev pub RunStops : {K : Type 0} → (K → List Row → K → Type 0) → (K → List Row → Refusal → K → Type 0) → Scenario → K → K → Refusal → Type 0
RunStops took broke s before after refusal = HasStopped sqs took broke (setting_of s) before refusal after

-- the same of several workers, which may not have started
abbrev pub RunStopsAnyhow : {K : Type 0} → (K → Type 0) → (K → List Row → K → Type 0) → (K → List Row → Refusal → K → Type 0) → Scenario → K → K → Refusal → Type 0
RunStopsAnyhow ready took broke s before after refusal =
    StopsAnyhow sqs ready took broke (setting_of s) before refusal after

-- a window that is longer than the least latency of a scenario's transfers is refused
abbrev pub RefusesLonger : {A : Type 0} → Scenario → ℕ → Result A Refusal → Type 0
RefusesLonger s window result = least_latency s < window → result ≡ Err (refusals.WindowTooLong window (least_latency s))
