use Rattle.std.specs.Prelude.{filter}
use Rattle.std.proofs.Common.{arith, ap, subst, sym, ◌∙◌}
use Rattle.std.proofs.lemmas.Result.{err_from_is_err_and}
use Rattle.sim_engine.specs.Prefixes.{is_before}
use Rattle.sim_windows.proofs.Beginning.{none_before_zero}
use Rattle.sim_workers.specs.declared.pace.Pace.{Pace}
use Rattle.sim_workers.specs.Teams.{HasPlaces}
use Rattle.sim_workers.proofs.Prefixes.{stopped_next, told_next}
use Rattle.sim_workers.proofs.rounds.run_rounds.Goals as goal

pub loop-next-init : goal.loop-next-init
loop-next-init g c = record {
  places = c.requires.places;
  span = omega (arith, ap (λ (p : Pace). p.span) c.new-pace.ensures);
  ready = c.requires.ready;
  leads = λ s on. on;
  told = λ s on r w.
      subst (λ rows. g.K.RowSink.took c.args.sink.now rows c.args.sink.now)
      (sym (ap (λ k. filter (is_before g.S.Site.engine k) r.rows) c.requires.fresh ∙ none_before_zero g.met.S.Site.laws r.rows))
      (g.met.K.RowSink.unchanged c.args.sink.now);
}

pub returns-in_err-next-clause-stops : goal.returns-in_err-next-clause-stops
returns-in_err-next-clause-stops g c =
    let i = c.loop-next.invariant in
    let told = err_from_is_err_and c.from_residual.result c.from_residual.ensures.1 in
    rw (told.1, told.2) (λ s on.
    stopped_next g.met.S.Site.laws g.K.RowSink.took g.met.K.RowSink.took_both s c.loop-next.stage (i.leads s on) c.args.sink.now c.loop-next.sink (i.told s on) g.K.RowSink.broke g.met.K.RowSink.broke_later c.in_err-next.field-0.0 c.advance.new.sink
    c.in_err-next.ensures.stops)

pub returns-then-over-clause-on : goal.returns-then-over-clause-on
returns-then-over-clause-on g c = λ s on. c.in_ok-next.ensures.on.on s (c.loop-next.invariant.leads s on)

pub returns-then-over-clause-told : goal.returns-then-over-clause-told
returns-then-over-clause-told g c = λ s on.
    let i = c.loop-next.invariant in
    told_next g.met.S.Site.laws g.K.RowSink.took g.met.K.RowSink.took_both s c.loop-next.stage (i.leads s on) c.args.sink.now c.loop-next.sink (i.told s on) c.in_ok-next.next c.advance.new.sink c.in_ok-next.ensures.told

pub loop-next-preserved : goal.loop-next-preserved
loop-next-preserved g c =
    let i = c.loop-next.invariant in
    record {
      places = subst (λ n. HasPlaces n c.advance.new.team) (sym c.in_ok-next.ensures.on.count) c.in_ok-next.ensures.places;
      span = c.in_ok-next.ensures.span;
      ready = c.in_ok-next.ensures.ready;
      leads = λ s on. c.in_ok-next.ensures.on.on s (i.leads s on);
      told = λ s on.
          told_next g.met.S.Site.laws g.K.RowSink.took g.met.K.RowSink.took_both s c.loop-next.stage (i.leads s on) c.args.sink.now c.loop-next.sink (i.told s on) c.in_ok-next.next c.advance.new.sink c.in_ok-next.ensures.told;
    }
