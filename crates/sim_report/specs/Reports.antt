-- A report during a run: the running counts of queues, and figures if they are asked for.
use Rattle.std.specs.Prelude.{ℕ, ◌≡◌, List, [], Option, None, fold, option_map, unwrap_or}
use Rattle.sqs_message.specs.declared.row.Row.{Row}
use Rattle.sqs_model.specs.declared.finals.Finals.{Finals}
use Rattle.sqs_formats.specs.Report.{Column, report}
use Rattle.sim_report.specs.declared.left.Left.{Left}
use Rattle.sim_report.specs.Left.{lefts}
use Rattle.sim_report.specs.declared.fact.Fact.{Fact}
use Rattle.sim_report.specs.declared.queue.QueueCounts.{QueueCounts}
use Rattle.sim_report.specs.Facts.{fact_of}
use Rattle.sim_report.specs.Figured.{FiguresState, figured, figures_with}
use Rattle.sim_report.specs.Figures.{FiguresAsked}
use Rattle.sim_report.specs.Written.{figures_text}
use Rattle.sim_report.specs.Running.{count_added, queues_running}

-- what a report is to have: the names of the queues, and figures if they are wanted
pub record Asked : Type 0 where
  pub queues : List (List ℕ)
  pub figures : Option FiguresAsked

-- a report of queues with these names, without figures
abbrev pub asked_plain : List (List ℕ) → Asked
asked_plain queues = record { queues = queues; figures = None }

-- a report so far
pub record Counts : Type 0 where
  pub queues : List QueueCounts
  pub figures : Option FiguresState

-- a report of no rows of queues with these names, and with these figures
abbrev pub begun_with : List (List ℕ) → Option FiguresState → Counts
begun_with names figures = record { queues = queues_running names []; figures = figures }

-- the running figures after these rows, if figures are asked for
abbrev pub figures_asked : Asked → List Row → Option FiguresState
figures_asked asked rows = option_map (λ f. figured f rows) asked.figures

-- the report after these rows
abbrev pub running : Asked → List Row → Counts
running asked rows = record { queues = queues_running asked.queues rows; figures = figures_asked asked rows }

-- with what one more row says
abbrev pub fact_added : Counts → Fact → Counts
fact_added c f = record { queues = count_added c.queues f.count; figures = option_map (figures_with f) c.figures }

-- with what more rows say
abbrev pub facts_added : Counts → List Row → Counts
facts_added c rows = fold (λ c row. fact_added c (fact_of row)) c rows

-- what holds of the report that these counts become with the finals of a run
abbrev pub OfReport : Counts → Finals → (List Column → Type 0) → Type 0
OfReport counts finals P = (asked : Asked) (rows : List Row) → counts ≡ running asked rows → P (report asked.queues rows finals)

-- what holds of the reports of two runs
abbrev pub OfReports : Counts → Finals → Counts → Finals → (List Column → List Column → Type 0) → Type 0
OfReports counts finals other_counts other_finals P =
    (asked other : Asked) (rows other_rows : List Row)
    → counts ≡ running asked rows → other_counts ≡ running other other_rows → P (report asked.queues rows finals) (report other.queues other_rows other_finals)

-- what holds of the report that these counts become with what is left
abbrev pub OfLeft : Counts → List Left → (List Column → Type 0) → Type 0
OfLeft counts left P =
    (asked : Asked) (rows : List Row) (finals : Finals)
    → counts ≡ running asked rows → left ≡ lefts counts.queues finals.messages → P (report asked.queues rows finals)

-- the figures over these rows as text, if they are asked for
abbrev pub figures_if : Asked → List Row → List ℕ
figures_if asked rows = unwrap_or (option_map (λ f. figures_text f rows) asked.figures) []

-- what holds of the figures of the rows that are counted so
abbrev pub OfFigures : Counts → (List ℕ → Type 0) → Type 0
OfFigures counts P = (asked : Asked) (rows : List Row) → counts ≡ running asked rows → P (figures_if asked rows)
