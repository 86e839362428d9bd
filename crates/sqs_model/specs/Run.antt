-- The one-list run of a scenario: the engine's, with sites of SQS.
use Rattle.std.specs.Prelude.{List, ℕ}
use Rattle.sim_engine.specs.Setting.{IsRunOf as IsRun, Setting}
use Rattle.sim_engine.specs.World as engine
use Rattle.sqs_model.specs.Scenario.{Scenario, edges, opening}
use Rattle.sqs_model.specs.Site.{Site}
use Rattle.sqs_model.specs.Sqs.{sqs}

-- what the run of a scenario begins with
abbrev pub setting_of : Scenario → Setting Site
setting_of s = record { horizon = s.horizon; opening = opening s; edges = edges s }

-- a world and the rows so far
abbrev pub Run : Type 0
Run = engine.Run sqs

-- the run from an opening after n handlings
abbrev pub after : ℕ → ℕ → List Site → Run
after = engine.after sqs

-- these are the last world and all rows of a scenario's one-list run
abbrev pub IsRunOf : Scenario → Run → Type 0
IsRunOf s = IsRun sqs (setting_of s)
