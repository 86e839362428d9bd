-- Sound scenarios are among those that the engine runs.
use Rattle.sim_engine.specs.Simulated.{IsSimulated}
use Rattle.sqs_model.specs.Conditions.{sqs_conditions}
use Rattle.sqs_model.specs.Progress.{IsSoundScenario}
use Rattle.sqs_model.specs.Run.{setting_of}
use Rattle.sqs_model.specs.Scenario.{Scenario}
use Rattle.sqs_model.specs.Sqs.{sqs}

-- the one-list run of every sound scenario ends, with its rows in order, and every run of it in partitions gives its
-- result
abbrev pub ScenariosAreSimulated : Type 0
ScenariosAreSimulated = (s : Scenario) → IsSoundScenario s → IsSimulated sqs sqs_conditions (setting_of s)
