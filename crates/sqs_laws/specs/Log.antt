-- Of which scenarios the log keeps the rules.
use Rattle.std.specs.Prelude.{All}
use Rattle.sqs_model.specs.Finals.{finals_of}
use Rattle.sqs_model.specs.Progress.{IsSoundScenario}
use Rattle.sqs_model.specs.Run.{IsRunOf, Run}
use Rattle.sqs_model.specs.Scenario.{Scenario}
use Rattle.sqs_model.specs.Valid.{IsQueueSettings}
use Rattle.sqs_laws.specs.Laws.{Journeys, KeepsTheRules, WhatIsLeft}

-- the log of every sound scenario whose queues are in their ranges keeps the rules
abbrev pub LogKeepsTheRules : Type 0
LogKeepsTheRules =
    (s : Scenario) → IsSoundScenario s → All IsQueueSettings s.queues
    → (r : Run) → IsRunOf s r → KeepsTheRules s r.rows

-- and it says what is left at the end
abbrev pub LogSaysWhatIsLeft : Type 0
LogSaysWhatIsLeft =
    (s : Scenario) → All IsQueueSettings s.queues
    → (r : Run) → IsRunOf s r → WhatIsLeft s r.rows (finals_of r.sites).messages

-- and it tells each journey of a message from queue to queue
abbrev pub LogTellsJourneys : Type 0
LogTellsJourneys =
    (s : Scenario) → IsSoundScenario s
    → (r : Run) → IsRunOf s r → Journeys s r.rows (finals_of r.sites).transfers
