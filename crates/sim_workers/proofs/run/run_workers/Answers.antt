use Rattle.std.proofs.lemmas.Result.{err_from_is_err_and}
use Rattle.sim_engine.specs.Laws.{SiteLaws}
use Rattle.sim_workers.proofs.Ended.{ran_none, ran_ready, ran_stops, ran_whole}
use Rattle.sim_workers.proofs.run.run_workers.Goals as goal

pub returns-in_err-handoff-clause-stops : goal.returns-in_err-handoff-clause-stops
returns-in_err-handoff-clause-stops g c =
    let laws : SiteLaws g.S.Site.engine g.S.Site.conditions = (g.met.S.Site g.world.𝓛 g.world.𝓜 g.world.𝓡 ((λ s x. x), (λ x. x), (λ x. x), λ x. x)).laws in
    let told = err_from_is_err_and c.from_residual.result c.from_residual.ensures.1 in
    rw (told.1, told.2) (ran_none laws g.K.RowSink.ready g.K.RowSink.took g.K.RowSink.broke c.args.world c.args.sink.now c.in_err-handoff.field-0.0 c.in_err-handoff.ensures.memory_only (g.met.K.RowSink.unchanged c.args.sink.now))

pub returns-in_err-handles-clause-stops : goal.returns-in_err-handles-clause-stops
returns-in_err-handles-clause-stops g c =
    let laws : SiteLaws g.S.Site.engine g.S.Site.conditions = (g.met.S.Site g.world.𝓛 g.world.𝓜 g.world.𝓡 ((λ s x. x), (λ x. x), (λ x. x), λ x. x)).laws in
    let told = err_from_is_err_and c.from_residual-in_err-handles.result c.from_residual-in_err-handles.ensures.1 in
    rw told.1 (ran_none laws g.K.RowSink.ready g.K.RowSink.took g.K.RowSink.broke c.args.world c.args.sink.now told.0 told.2 (g.met.K.RowSink.unchanged c.args.sink.now))

pub returns-clause-ready : goal.returns-clause-ready
returns-clause-ready g c =
    let laws : SiteLaws g.S.Site.engine g.S.Site.conditions = (g.met.S.Site g.world.𝓛 g.world.𝓜 g.world.𝓡 ((λ s x. x), (λ x. x), (λ x. x), λ x. x)).laws in
    ran_ready laws g.K.RowSink.ready g.K.RowSink.took g.K.RowSink.broke c.args.world c.args.sink.now c.run_threads.result c.run_threads.new.sink
    c.run_threads.ensures.ran

pub returns-clause-whole : goal.returns-clause-whole
returns-clause-whole g c =
    let laws : SiteLaws g.S.Site.engine g.S.Site.conditions = (g.met.S.Site g.world.𝓛 g.world.𝓜 g.world.𝓡 ((λ s x. x), (λ x. x), (λ x. x), λ x. x)).laws in
    ran_whole laws g.K.RowSink.ready g.K.RowSink.took g.K.RowSink.broke c.args.world c.args.sink.now c.run_threads.result c.run_threads.new.sink
    c.run_threads.ensures.ran

pub returns-clause-stops : goal.returns-clause-stops
returns-clause-stops g c =
    let laws : SiteLaws g.S.Site.engine g.S.Site.conditions = (g.met.S.Site g.world.𝓛 g.world.𝓜 g.world.𝓡 ((λ s x. x), (λ x. x), (λ x. x), λ x. x)).laws in
    ran_stops laws g.K.RowSink.ready g.K.RowSink.took g.K.RowSink.broke c.args.world c.args.sink.now c.run_threads.result c.run_threads.new.sink
    c.run_threads.ensures.ran
