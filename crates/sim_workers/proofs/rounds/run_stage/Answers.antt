use Rattle.std.proofs.Common.{subst}
use Rattle.std.proofs.lemmas.Result.{err_from_is_err_and}
use Rattle.sim_windows.specs.Stages.{HasRest}
use Rattle.sim_workers.proofs.Prefixes.{breaks_last, memory_stops, stops_so}
use Rattle.sim_workers.proofs.rounds.run_stage.Goals as goal

pub returns-in_err-ended-clause-stops : goal.returns-in_err-ended-clause-stops
returns-in_err-ended-clause-stops g c =
    let laws = g.met.S.Site.laws in
    let ran = c.in_ok-stage.ensures in
    let told = err_from_is_err_and c.from_residual-in_err-ended.result c.from_residual-in_err-ended.ensures.1 in
    rw (told.1, told.2) (λ s on.
    stops_so laws g.K.RowSink.took g.K.RowSink.broke s c.in_ok-stage.stage (ran.on s on) c.in_ok-stage.stage.settled c.args.sink.now c.run_rounds.new.sink (ran.told s on) c.in_err-ended.field-0.0
    (memory_stops laws s c.in_err-ended.field-0.0 c.in_err-ended.ensures.memory))

pub returns-in_err-take-clause-stops : goal.returns-in_err-take-clause-stops
returns-in_err-take-clause-stops g c =
    let laws = g.met.S.Site.laws in
    let ran = c.in_ok-stage.ensures in
    let broken = subst (λ rows. g.K.RowSink.broke c.run_rounds.new.sink rows c.in_err-take.field-0.0 c.take.new.self) c.deref.ensures.value c.in_err-take.ensures.broke in
    let told = err_from_is_err_and c.from_residual-in_err-take.result c.from_residual-in_err-take.ensures.1 in
    rw (told.1, told.2) (λ s on.
    let rest : HasRest g.S.Site.engine s c.in_ok-stage.stage.settled c.in_ok-ended.ended.rows.items c.in_ok-ended.ended.sites.items = c.in_ok-ended.ensures.ended ran.ended s (ran.on s on) in
    breaks_last laws g.K.RowSink.took g.K.RowSink.broke s c.in_ok-stage.stage (ran.on s on) c.in_ok-stage.stage.settled c.args.sink.now c.run_rounds.new.sink (ran.told s on) g.met.K.RowSink.broke_later c.in_ok-ended.ended.rows.items c.in_err-take.field-0.0 c.take.new.self broken rest.run rest.is rest.rows_are)

pub returns-clause-whole : goal.returns-clause-whole
returns-clause-whole g c = λ s on.
    let ran = c.in_ok-stage.ensures in
    let rest : HasRest g.S.Site.engine s c.in_ok-stage.stage.settled c.in_ok-ended.ended.rows.items c.in_ok-ended.ended.sites.items = c.in_ok-ended.ensures.ended ran.ended s (ran.on s on) in
    let taken = subst (λ rows. g.K.RowSink.took c.run_rounds.new.sink rows c.take.new.self) c.deref.ensures.value c.in_ok-take.ensures.took in
    record {
      run = rest.run;
      is = rest.is;
      taken = subst (λ rows. g.K.RowSink.took c.args.sink.now rows c.take.new.self) rest.rows_are (g.met.K.RowSink.took_both _ _ _ _ _ (ran.told s on rest.run rest.is) taken);
      sites_are = rest.sites_are;
    }
