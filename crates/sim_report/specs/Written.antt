-- The figures of a run as text.
use Rattle.std.specs.Prelude.{ℕ, codes, List, [], ◌∷◌, ◌++◌, flat_map, length, map}
use Rattle.std.specs.List.{enumerate_from}
use Rattle.sqs_message.specs.declared.row.Row.{Row}
use Rattle.sqs_formats.specs.Report.{rows_of}
use Rattle.sqs_formats.specs.Rows.{lines}
use Rattle.sim_report.specs.declared.asked.QueueAsked.{QueueAsked}
use Rattle.sim_report.specs.declared.asked.Wanted.{Wanted}
use Rattle.sim_report.specs.declared.stretch.Stretch.{Stretch}
use Rattle.sim_report.specs.Doors.{doors, doors_records}
use Rattle.sim_report.specs.Figures.{FiguresAsked, actor_figures, figure_fields, queue_figures, rows_by, rows_until}

-- the header of figures
abbrev pub figures_header : List (List ℕ)
figures_header = codes "figure" ∷ codes "of" ∷ codes "name" ∷ codes "value" ∷ []

-- the records of a queue's figures, and of an actor's, by its number
abbrev pub figures_of_queue : ℕ → Wanted → List Row → ℕ × QueueAsked → List (List (List ℕ))
figures_of_queue queues w rows q = map (figure_fields q.1.name) (queue_figures queues w q.1 (rows_of q.0 rows))

abbrev pub figures_of_actor : ℕ → Stretch → List Row → ℕ × List ℕ → List (List (List ℕ))
figures_of_actor queues s rows a = map (figure_fields a.1) (actor_figures queues s (rows_by a.0 rows))

-- the records of the figures of doors
abbrev pub figures_of_doors : FiguresAsked → List Row → List (List (List ℕ))
figures_of_doors asked rows =
    doors_records asked.wanted (map (λ (q : QueueAsked). q.name) asked.queues) asked.actors (doors asked rows)

-- the records of the figures that are asked for, over rows before the end of the stretch
abbrev pub figures_records : FiguresAsked → List Row → List (List (List ℕ))
figures_records asked rows =
    let queues = length asked.queues in
    figures_header
    ∷ (flat_map (figures_of_queue queues asked.wanted rows) (enumerate_from 0 asked.queues)
    ++ (flat_map (figures_of_actor queues asked.wanted.stretch rows) (enumerate_from queues asked.actors)
    ++ figures_of_doors asked rows))

-- the figures of a run
abbrev pub figures_text : FiguresAsked → List Row → List ℕ
figures_text asked rows = lines (figures_records asked (rows_until asked.wanted.stretch rows))
