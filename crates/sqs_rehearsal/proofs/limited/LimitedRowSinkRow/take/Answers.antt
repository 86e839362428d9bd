use Rattle.std.proofs.Common.{inl, refl, sym, ◌∙◌}
use Rattle.std.proofs.lemmas.Result.{IfErr-weaker, on_ok_weaker}
use Rattle.sqs_rehearsal.specs.LimitLaws.{all_within, past_refused}
use Rattle.sqs_rehearsal.proofs.limited.LimitedRowSinkRow.take.Goals as goal

pub returns-then-not-are_within-clause-broke : goal.returns-then-not-are_within-clause-broke
returns-then-not-are_within-clause-broke g c =
    past_refused g.K.RowSink.took g.met.K.RowSink.unchanged g.K.RowSink.broke c.args.self.now c.args.rows.now (sym c.are_within.ensures ∙ c.if-not-are_within.true)

pub returns-clause-took : goal.returns-clause-took
returns-clause-took g c =
    on_ok_weaker c.take.result (λ took. record { same = refl; taken = took; within = all_within c.args.rows.now (sym c.are_within.ensures ∙ c.if-not-are_within.false) }) c.take.ensures.took

pub returns-clause-broke : goal.returns-clause-broke
returns-clause-broke g c = IfErr-weaker c.take.result _ _ (λ refusal broke. record { same = refl; why = inl broke }) c.take.ensures.broke
