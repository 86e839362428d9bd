use Rattle.std.proofs.Common.{ap, subst, sym, ◌∙◌}
use Rattle.std.specs.Prelude.{All, [], length, ◌≡◌, ◌≤◌}
use Rattle.std.proofs.lemmas.Result.{IfErr-weaker, IfOk-weaker, err_from_is_err_and}
use Rattle.sim_engine.specs.Limits.{most_count}
use Rattle.sim_engine.specs.Setting.{Setting}
use Rattle.sim_exchange.specs.Layout.{Layout}
use Rattle.sim_windows.specs.Sinks.{HasTaken}
use Rattle.sim_windows.specs.Stages.{StandsOn}
use Rattle.sim_windows.proofs.Continued.{stopped_on, stopped_there, taken_all, taken_on}
use Rattle.sim_windows.proofs.Standing.{many_parts}
use Rattle.sim_workers.proofs.start.run_start.Goals as goal

pub open-requires-clause-horizon : goal.open-requires-clause-horizon
open-requires-clause-horizon g c = subst (λ (x : Setting _). x.horizon ≤ most_count) c.in_ok-begun.ensures.begun.is c.requires.horizon

pub open-requires-clause-ways : goal.open-requires-clause-ways
open-requires-clause-ways g c = subst (λ (x : Setting _). All (λ e. (1 ≤ e.least) × (e.least ≤ 900000)) x.edges) c.in_ok-begun.ensures.begun.is c.requires.ways

pub run_stage-requires-clause-places : goal.run_stage-requires-clause-places
run_stage-requires-clause-places g c _ _ =
    many_parts g.met.S.Site.laws c.in_ok-begun.begun.world [] c.in_ok-stage.stage c.in_ok-stage.ensures.stands ∙ ap (λ (l : Layout). l.parts) c.in_ok-stage.ensures.layout ∙ c.requires.places

pub returns-in_err-begun-clause-stops : goal.returns-in_err-begun-clause-stops
returns-in_err-begun-clause-stops g c =
    let told = err_from_is_err_and c.from_residual.result c.from_residual.ensures.1 in rw (told.1, told.2) c.in_err-begun.ensures.stops

pub returns-in_err-stage-clause-stops : goal.returns-in_err-stage-clause-stops
returns-in_err-stage-clause-stops g c =
    let told = err_from_is_err_and c.from_residual-in_err-stage.result c.from_residual-in_err-stage.ensures.1 in
    rw told.1 (stopped_there g.met.S.Site.laws g.K.RowSink.took c.args.start.world c.args.sink.now c.begin.new.sink g.K.RowSink.broke c.in_ok-begun.begun.world told.0 told.2 c.in_ok-begun.ensures.begun)

pub returns-clause-whole : goal.returns-clause-whole
returns-clause-whole g c =
    let on : StandsOn g.S.Site.engine g.S.Site.conditions c.in_ok-begun.begun.world c.in_ok-stage.stage = record { picks = []; stands = c.in_ok-stage.ensures.stands } in
    IfOk-weaker c.run_stage.result _ _
    (λ sites taken. taken_on g.met.S.Site.laws g.K.RowSink.took g.met.K.RowSink.took_both c.args.start.world c.args.sink.now c.begin.new.sink c.run_stage.new.sink c.in_ok-begun.begun.world sites.items c.in_ok-begun.ensures.begun taken)
    (c.run_stage.ensures.whole c.in_ok-begun.begun.world on)

pub returns-clause-stops : goal.returns-clause-stops
returns-clause-stops g c =
    let on : StandsOn g.S.Site.engine g.S.Site.conditions c.in_ok-begun.begun.world c.in_ok-stage.stage = record { picks = []; stands = c.in_ok-stage.ensures.stands } in
    IfErr-weaker c.run_stage.result _ _
    (λ e stopped.
    stopped_on g.met.S.Site.laws g.K.RowSink.took g.met.K.RowSink.took_both c.args.start.world c.args.sink.now c.begin.new.sink c.run_stage.new.sink g.K.RowSink.broke g.met.K.RowSink.broke_later c.in_ok-begun.begun.world e c.in_ok-begun.ensures.begun (stopped c.in_ok-begun.begun.world on))
    c.run_stage.ensures.stops

pub returns-then-begun-clause-whole : goal.returns-then-begun-clause-whole
returns-then-begun-clause-whole g c =
    let took = g.K.RowSink.took in
    let s = c.args.start.world in
    subst (HasTaken g.S.Site.engine took s c.args.sink.now c.begin.new.sink) (sym (λ k. (c.begun.view_is k).world.opening))
    (taken_all g.met.S.Site.laws took s c.args.sink.now c.begin.new.sink c.in_ok-begun.begun.world c.in_ok-begun.ensures.begun (c.in_ok-begun.ensures.over (sym (λ k. (c.begun.view_is k).over) ∙ c.if-begun.true)))
