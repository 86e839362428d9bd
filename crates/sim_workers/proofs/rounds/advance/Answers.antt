use Rattle.std.specs.Prelude.{[], ◌++◌, ◌∷◌}
use Rattle.sim_engine.specs.declared.picks.Pick.TheVariants.{Barrier}
use Rattle.std.proofs.Common.{arith, refl, sym, ◌∙◌}
use Rattle.std.proofs.lemmas.Result.{err_from_is_err_and}
use Rattle.sim_workers.proofs.Prefixes.{memory_stops}
use Rattle.sim_workers.proofs.Handing.{stops_before, tells_none}
use Rattle.sim_workers.proofs.rounds.advance.Goals as goal

pub returns-in_ok-meet-in-None-clause-on : goal.returns-in_ok-meet-in-None-clause-on
returns-in_ok-meet-in-None-clause-on g c =
    let met = c.in_ok-meet-in-None.ensures.met in
    record { on = λ s on. record { picks = on.picks ++ Barrier ∷ []; stands = met.stands s on.picks on.stands }; count = met.count }

pub returns-in_ok-meet-in-None-clause-told : goal.returns-in_ok-meet-in-None-clause-told
returns-in_ok-meet-in-None-clause-told g c =
    tells_none g.met.S.Site.laws g.K.RowSink.took c.args.stage c.in_ok-meet-in-None.field-0 c.args.sink.now c.args.sink.now c.in_ok-meet-in-None.ensures.settled (g.met.K.RowSink.unchanged c.args.sink.now)

pub returns-then-is_finished-clause-told : goal.returns-then-is_finished-clause-told
returns-then-is_finished-clause-told g c =
    tells_none g.met.S.Site.laws g.K.RowSink.took c.args.stage c.args.stage c.args.sink.now c.args.sink.now refl (g.met.K.RowSink.unchanged c.args.sink.now)

pub returns-in_err-meet-in-None-clause-stops : goal.returns-in_err-meet-in-None-clause-stops
returns-in_err-meet-in-None-clause-stops g c =
    let told = err_from_is_err_and c.from_residual-in_err-meet-in-None.result c.from_residual-in_err-meet-in-None.ensures.1 in
    let refusal = c.in_err-meet-in-None.field-0.0 in
    rw (told.1, told.2) (stops_before g.met.S.Site.laws g.K.RowSink.took g.K.RowSink.broke c.args.sink.now refusal c.args.sink.now c.args.stage
    (g.met.K.RowSink.unchanged c.args.sink.now) (λ s on. memory_stops g.met.S.Site.laws s refusal c.in_err-meet-in-None.ensures.memory))

pub returns-in_ok-stage-in-Some-clause-less : goal.returns-in_ok-stage-in-Some-clause-less
returns-in_ok-stage-in-Some-clause-less g c = λ going.
    c.in_ok-stage-in-Some.ensures.less c.in-Some.next (sym c.next_ready.ensures ∙ c.in-Some.is) (λ small. c.cut_at-cut.ensures.later c.requires.span (omega (arith, small)))
