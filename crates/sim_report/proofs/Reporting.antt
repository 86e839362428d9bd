-- What a report has after more rows.
use Rattle.std.proofs.Common.{◌≡◌, ◌++◌, ◌∷◌, ◌∙◌, [], List, None, Option, Some, ap, refl, sym}
use Rattle.std.specs.Prelude.{option_map}
use Rattle.std.proofs.lemmas.List.{append-nil, append_assoc}
use Rattle.sqs_message.specs.declared.row.Row.{Row}
use Rattle.sim_report.specs.declared.queue.QueueCounts.{QueueCounts}
use Rattle.sim_report.specs.Facts.{fact_of}
use Rattle.sim_report.specs.Figures.{FiguresAsked}
use Rattle.sim_report.specs.Figured.{FiguresState, figured, figures_with}
use Rattle.sim_report.specs.Reports.{Asked, Counts, fact_added, facts_added, figures_asked, running}
use Rattle.sim_report.specs.Running.{queues_running}
use Rattle.sim_report.proofs.Figuring.{figured-push}
use Rattle.sim_report.proofs.Groups.{running-push}

figures-push : (figures : Option FiguresAsked) (rows : List Row) (row : Row)
    → option_map (figures_with (fact_of row)) (option_map (λ f. figured f rows) figures) ≡ option_map (λ f. figured f (rows ++ row ∷ [])) figures
figures-push None rows row = refl
figures-push (Some asked) rows row = ap Some (figured-push asked rows row)

-- with what one more row says
fact-push : (asked : Asked) (rows : List Row) (row : Row) → fact_added (running asked rows) (fact_of row) ≡ running asked (rows ++ row ∷ [])
fact-push asked rows row =
    let made : List QueueCounts → Option FiguresState → Counts = λ qs fs. record { queues = qs; figures = fs } in
    ap (λ (qs : List QueueCounts). made qs (option_map (figures_with (fact_of row)) (figures_asked asked rows))) (running-push asked.queues rows row)
    ∙ ap (made (queues_running asked.queues (rows ++ row ∷ []))) (figures-push asked.figures rows row)

-- with what more rows say
pub facts-append : (asked : Asked) (before rows : List Row) → facts_added (running asked before) rows ≡ running asked (before ++ rows)
facts-append asked before [] = ap (running asked) (sym (append-nil before))
facts-append asked before (row ∷ rows) =
    ap (λ (c : Counts). facts_added c rows) (fact-push asked before row)
    ∙ facts-append asked (before ++ row ∷ []) rows
    ∙ ap (running asked) (append_assoc before (row ∷ []) rows)
