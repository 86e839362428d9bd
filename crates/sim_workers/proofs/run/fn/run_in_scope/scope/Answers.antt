use Rattle.std.proofs.Common.{refl, subst, sym, ◌∙◌}
use Rattle.sim_workers.specs.Runs.{RanOn}
use Rattle.sim_engine.specs.Laws.{SiteLaws}
use Rattle.sim_workers.proofs.Ended.{ran_not, ran_so}
use Rattle.sim_workers.proofs.run.fn.run_in_scope.scope.Goals.{else-ready, then-ready}
use Rattle.sim_workers.proofs.run.fn.run_in_scope.scope.Goals as goal

pub returns : goal.returns
returns g c =
    let laws : SiteLaws g.S.Site.engine g.S.Site.conditions = g.met.S.Site.laws in
    let s = c.captures.start.world in
    record {
      same_sink = refl;
      same_outcome = refl;
      ran =
          elim c.if-ready.branch [
            | then-ready w ↦
                let ran = ran_so laws g.K.RowSink.ready g.K.RowSink.took g.K.RowSink.broke s c.captures.sink.now w.run_start.result w.run_start.new.sink w.run_start.ensures.ready w.run_start.ensures.whole w.run_start.ensures.stops in
                subst (λ o. RanOn g.S.Site.engine g.K.RowSink.ready g.K.RowSink.took g.K.RowSink.broke s c.captures.sink.now o c.if-ready.sink) (sym w.outcome-is)
                (subst (λ k. RanOn g.S.Site.engine g.K.RowSink.ready g.K.RowSink.took g.K.RowSink.broke s c.captures.sink.now w.run_start.result k) (sym w.sink-is) ran)
            | else-ready w ↦
                ran_not laws g.K.RowSink.ready g.K.RowSink.took g.K.RowSink.broke s c.captures.sink.now c.if-ready.outcome c.if-ready.sink (w.outcome-is ∙ c.requires.none) w.sink-is (g.met.K.RowSink.unchanged c.captures.sink.now)
          ];
    }
