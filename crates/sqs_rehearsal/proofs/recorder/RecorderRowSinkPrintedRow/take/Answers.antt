use Rattle.std.specs.List.{list_all}
use Rattle.std.proofs.Common.{[], ap, sym, inr, refl, ◌∙◌}
use Rattle.std.proofs.lemmas.Result.{on_ok_weaker}
use Rattle.sqs_rehearsal.proofs.PrintedRows.{on_ok_each, within_printed}
use Rattle.sqs_rehearsal.specs.LimitLaws.{all_within, some_past}
use Rattle.sqs_rehearsal.specs.SinkLaws.{recorded_none}
use Rattle.sqs_rehearsal.proofs.recorder.RecorderRowSinkPrintedRow.take.Goals as goal

pub returns-then-not-are_printed_within-clause-broke : goal.returns-then-not-are_printed_within-clause-broke
returns-then-not-are_printed_within-clause-broke g c rows are =
    let past = sym (within_printed c.args.self.now.names.now rows) ∙ sym (ap (list_all _) are) ∙ sym c.are_printed_within.ensures ∙ c.if-not-are_printed_within.true in
    inr (record { limit = refl; prefix = []; rest = rows; rows_are = refl; taken = recorded_none g.W.Out.state c.args.self.now; past = some_past rows past })

pub returns-clause-took : goal.returns-clause-took
returns-clause-took g c =
    on_ok_each _ _ c.take_printed.result
    (λ rows are.
    let few = sym (within_printed c.args.self.now.names.now rows) ∙ sym (ap (list_all _) are) ∙ sym c.are_printed_within.ensures ∙ c.if-not-are_printed_within.false in
    on_ok_weaker c.take_printed.result (λ took. record { taken = took; within = all_within rows few }) (c.take_printed.ensures.took rows are))
