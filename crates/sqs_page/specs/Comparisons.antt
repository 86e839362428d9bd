-- What a page gets for two scenarios of versions up to the newest one, with the same script files.
use Rattle.std.specs.Prelude.{Err, List, Ok, ℕ, ◌≡◌, ◌⊎◌}
use Rattle.sim_clock.specs.declared.refusal.Refusal.TheVariants as refusals
use Rattle.sim_scenario.specs.Drafts.{newest_of}
use Rattle.sim_scenario.specs.declared.draft.Newest.{Newest}
use Rattle.sqs_formats.specs.Actors.{Files}
use Rattle.sqs_formats.specs.Comparison.{comparison}
use Rattle.sqs_formats.specs.Output.{report_of}
use Rattle.sqs_formats.specs.Scenario.{scenario_upto}
use Rattle.sqs_model.specs.Limits.{IsOver}
use Rattle.sqs_model.specs.Run.{IsRunOf, Run}
use Rattle.sqs_model.specs.Scenario.{Scenario}
use Rattle.sqs_page.specs.declared.comparison.Stop.{Stop}
use Rattle.sqs_page.specs.declared.comparison.Stop.TheVariants as stops
use Rattle.sqs_rehearsal.specs.declared.rehearsal.Fault.{Fault}
use Rattle.sqs_rehearsal.specs.declared.rehearsal.Fault.TheVariants as faults

-- a text, of a version up to the newest one, states a scenario
abbrev pub States : Newest → Files → List ℕ → Scenario → Type 0
States newest files text s = scenario_upto (newest_of newest) files text ≡ Ok s

-- the scenario that a text states, and its one-list run, which takes no count past the limit
pub record HasRun (newest : Newest) (text : List ℕ) (files : Files) : Type 0 where
  pub scenario : Scenario
  pub run : Run
  pub stated : States newest files text scenario
  pub is_run : IsRunOf scenario run
  pub not_over : ¬ IsOver scenario

-- the comparison of the reports of two runs
pub record IsComparisonOf (newest : Newest) (first second : List ℕ) (files : Files) (output : List ℕ) : Type 0 where
  pub a : HasRun newest first files
  pub b : HasRun newest second files
  pub whole : output ≡ comparison (report_of a.scenario a.run) (report_of b.scenario b.run)

-- the scenarios that two texts state
pub record AreStated (newest : Newest) (first second : List ℕ) (files : Files) : Type 0 where
  pub a : Scenario
  pub b : Scenario
  pub first_states : States newest files first a
  pub second_states : States newest files second b

module _ (newest : Newest) (first second : List ℕ) (files : Files) where
  -- why the first of two scenarios is refused; both are read before it is run
  abbrev pub IsFirstFault : Fault → Type 0
  IsFirstFault (faults.Scenario f) = scenario_upto (newest_of newest) files first ≡ Err f
  IsFirstFault (faults.Refused refusals.CountLimit) = (s : AreStated newest first second files) × IsOver s.a
  IsFirstFault (faults.Refused refusals.Memory) = Unit {0}
  IsFirstFault (faults.Refused r) = ⊥

  -- why the second one is refused, if the first one is not
  abbrev pub IsSecondFault : Fault → Type 0
  IsSecondFault (faults.Scenario f) = (a : Scenario) × (States newest files first a × (scenario_upto (newest_of newest) files second ≡ Err f))
  IsSecondFault (faults.Refused refusals.CountLimit) = (s : AreStated newest first second files) × ((¬ IsOver s.a) × IsOver s.b)
  IsSecondFault (faults.Refused refusals.Memory) = Unit {0}
  IsSecondFault (faults.Refused r) = ⊥

  -- why either is
  abbrev pub IsEitherFault : Fault → Type 0
  IsEitherFault fault = IsFirstFault fault ⊎ IsSecondFault fault

  -- the same, by which of the two it is
  abbrev pub Stops : Stop → Type 0
  Stops (stops.First fault) = IsFirstFault fault
  Stops (stops.Second fault) = IsSecondFault fault

-- what holds of any texts that state two scenarios
abbrev pub OfTexts : Scenario → Scenario → (Newest → List ℕ → List ℕ → Files → Type 0) → Type 0
OfTexts a b P =
    (newest : Newest) (first second : List ℕ) (files : Files)
    → States newest files first a → States newest files second b → P newest first second files
