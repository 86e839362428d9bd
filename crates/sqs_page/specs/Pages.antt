-- What a page gets for a scenario's text and its script files.
use Rattle.std.specs.Prelude.{Bool, Err, List, MatchBool, length, ℕ, ◌++◌, ◌<◌, ◌==◌, ◌||◌, ◌≡◌, ◌≤◌}
use Rattle.sim_clock.specs.declared.refusal.Refusal.TheVariants as refusals
use Rattle.sim_scenario.specs.Drafts.{newest_of}
use Rattle.sqs_formats.specs.Actors.{Files}
use Rattle.sqs_formats.specs.Output.{log_of}
use Rattle.sqs_formats.specs.Scenario.{scenario_upto}
use Rattle.sqs_model.specs.Limits.{IsOver}
use Rattle.sqs_page.specs.declared.asked.Asked.{Asked}
use Rattle.sqs_rehearsal.specs.Endings.{ending_with}
use Rattle.sqs_rehearsal.specs.FaultLines.{refusal_line}
use Rattle.sqs_rehearsal.specs.Options.{unsplit}
use Rattle.sqs_rehearsal.specs.Rehearsals.{Rehearsed, Request, Stated, request_upto}
use Rattle.sqs_rehearsal.specs.declared.rehearsal.Fault.{Fault}
use Rattle.sqs_rehearsal.specs.declared.rehearsal.Fault.TheVariants as faults

-- what a page requests: this text, of a version up to the newest one, with these script files, on one list, and with
-- figures if they are wanted
abbrev pub requested : Asked → List ℕ → Files → Request
requested asked text files = request_upto (newest_of asked.newest) text files (unsplit asked.figures)

-- the scenario that the text states has a one-list run, which takes no count past the limit, and these are its log, final
-- queues and report, and the figures that are wanted
pub record IsOutputOf (asked : Asked) (text : List ℕ) (files : Files) (output : List ℕ) : Type 0 where
  pub of : Rehearsed (requested asked text files)
  pub not_over : ¬ IsOver of.scenario
  pub whole : output ≡ log_of of.scenario of.run ++ ending_with of.scenario asked.figures of.run

module _ (asked : Asked) (text : List ℕ) (files : Files) where
  -- why the text is refused: nothing is written but to memory, so no write fails
  abbrev pub IsRefusedFor : Fault → Type 0
  IsRefusedFor (faults.Scenario f) = scenario_upto (newest_of asked.newest) files text ≡ Err f
  IsRefusedFor (faults.Refused refusals.CountLimit) = (s : Stated (requested asked text files)) × IsOver s.scenario
  IsRefusedFor (faults.Refused refusals.Memory) = Unit {0}
  IsRefusedFor (faults.Refused r) = ⊥

-- the line of a fault of which this holds
pub record IsLineOf (Holds : Fault → Type 0) (line : List ℕ) : Type 0 where
  pub fault : Fault
  pub why : Holds fault
  pub line_is : line ≡ refusal_line fault

-- whether a code says that the room has an answer
abbrev pub has_answer : ℕ → Bool
has_answer code = code == 0 || code == 1 || code == 6

-- an answer that a code speaks of fits into the room; without one the room is as before
abbrev pub IsRoomAfter : ℕ → ℕ → List ℕ → List ℕ → Type 0
IsRoomAfter code needed before after = MatchBool (has_answer code) (needed ≤ length after) (after ≡ before)

-- an answer of which this holds is of the length that is needed, for which the room is too short
pub record IsTooShort (room : List ℕ) (needed : ℕ) (Holds : List ℕ → Type 0) : Type 0 where
  pub answer : List ℕ
  pub is : Holds answer
  pub needed_is : needed ≡ length answer
  pub longer : length room < needed
