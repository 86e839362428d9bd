-- What a whole run leaves.
use Rattle.std.specs.Prelude.{List, None, Option, ℕ, ◌≡◌, Result, []}
use Rattle.sim_clock.specs.declared.refusal.Refusal.{Refusal}
use Rattle.sim_report.specs.Reports.{Counts, running}
use Rattle.sim_report.specs.declared.asked.Wanted.{Wanted}
use Rattle.sim_engine.specs.Limits.{StopsWhere}
use Rattle.sqs_model.specs.Finals.{finals_of}
use Rattle.sqs_model.specs.Limits.{IsOver}
use Rattle.sqs_model.specs.Run.{IsRunOf, Run}
use Rattle.sqs_model.specs.Scenario.{Scenario}
use Rattle.sqs_formats.specs.Output.{queue_names, report_of}
use Rattle.sqs_model.specs.Site.{Site}
use Rattle.sqs_rehearsal.specs.Asked.{asked_of}
use Rattle.sqs_rehearsal.specs.declared.outcome.Outcome.{Outcome}
use Rattle.sqs_rehearsal.specs.Left.{Wrote}
use Rattle.sqs_rehearsal.specs.Writers.{Writer}
use Rattle.sqs_rehearsal.specs.Wanted.{figures_of}
use Rattle.sim_report.specs.Figured.{figured, FiguresState}
use Rattle.sqs_formats.specs.Comparison.{comparison}

-- a scenario's one-list run has reached its end and taken no count past the limit; its rows are counted, and these are
-- the sites of its last world
pub record HasCounted (s : Scenario) (counts : Counts) (sites : List Site) : Type 0 where
  pub run : Run
  pub is_run : IsRunOf s run
  pub not_over : ¬ IsOver s
  pub counted : counts ≡ running (asked_of s None) run.rows
  pub sites_are : sites ≡ run.sites

-- what the run of a scenario leaves: the counts of all its rows, and what is in its last world
pub record IsLeftBy (s : Scenario) (r : Run) (o : Outcome) : Type 0 where
  pub counted : o.report ≡ running (asked_of s None) r.rows
  pub finals : o.finals ≡ finals_of r.sites

-- what a scenario's one-list run leaves, which takes no count past the limit
pub record IsOutcomeOf (s : Scenario) (o : Outcome) : Type 0 where
  pub run : Run
  pub is_run : IsRunOf s run
  pub not_over : ¬ IsOver s
  pub left : IsLeftBy s run o

-- why a scenario is not run to its end: out of memory, or a count that its one-list run takes past the limit
abbrev pub Stops : Scenario → Refusal → Type 0
Stops s = StopsWhere (IsOver s)

-- what holds of a scenario and its run, by its names, the counts of its rows with the figures that were asked for, and
-- the sites that are left
abbrev pub OfEnd : List (List ℕ) → Counts → List Site → (Scenario → Run → Option Wanted → Type 0) → Type 0
OfEnd names counts sites P =
    (s : Scenario) (r : Run) (figures : Option Wanted)
    → names ≡ s.names → counts ≡ running (asked_of s figures) r.rows → sites ≡ r.sites → P s r figures

-- what holds of two scenarios and their runs, which leave these outcomes
abbrev pub OfBoth : Outcome → Outcome → (Scenario → Run → Scenario → Run → Type 0) → Type 0
OfBoth first second P = (s t : Scenario) (r u : Run) → IsLeftBy s r first → IsLeftBy t u second → P s r t u

-- a text that a scenario and its run give is written at the end of the run
abbrev pub WroteEnd : (Scenario → Option Wanted → Run → List ℕ) → List (List ℕ) → Counts → List Site → Writer → Result (Unit {0}) Refusal → Type 0
WroteEnd text names counts sites w result = OfEnd names counts sites (λ s r figures. Wrote w (text s figures r) result)

-- the comparison of two outcomes is written
abbrev pub WroteComparison : Outcome → Outcome → Writer → Result (Unit {0}) Refusal → Type 0
WroteComparison first second w result = OfBoth first second (λ s r t u. Wrote w (comparison (report_of s r) (report_of t u)) result)

-- the figures of no rows of a scenario
abbrev pub no_figures : Scenario → Wanted → FiguresState
no_figures s wanted = figured (figures_of s wanted) []
