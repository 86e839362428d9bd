use Rattle.std.proofs.Common.{ap, subst, sym, ◌≡◌, ◌∙◌}
use Rattle.std.proofs.lemmas.Result.{err_from_is_err_and}
use Rattle.std.specs.Prelude.{IsNone}
use Rattle.sim_engine.specs.Setting.{Setting}
use Rattle.sim_engine.specs.World.{next_due}
use Rattle.sim_partition.specs.Sites.{IsPart}
use Rattle.sim_windows.specs.Worlds.{sites_in}
use Rattle.sim_windows.proofs.Continued.{begun_at, simulated_on}
use Rattle.sim_windows.proofs.Gathering.{stops_gathering, stops_last}
use Rattle.sim_windows.proofs.Whole.{items_of, world_part}
use Rattle.sim_windows.proofs.begun.begin_gathered.Goals as goal

pub new-requires : goal.new-requires
new-requires g c =
    subst (IsPart g.S.Site.engine g.S.Site.conditions) (sym (λ k. (c.world.view_is k).opening)) (world_part g.met.S.Site.laws c.args.world c.requires.simulated)

pub returns-clause-begun : goal.returns-clause-begun
returns-clause-begun g c =
    let took = g.K.RowSink.took in
    let inside = c.world.inside in
    let x : Setting _ = record { horizon = inside.horizon; opening = inside.sites.items; edges = inside.edges.items } in
    let did = c.in_ok-over.ensures in
    let v = c.run_sparse.new.roster in
    begun_at g.met.S.Site.laws took g.met.K.RowSink.took_both c.args.world x (sites_in c.in_ok-roster.roster) (sites_in v) c.into_sites-sites.result.items c.args.sink.now c.run_sparse.new.sink c.hand_rest.new.sink c.new-effects.result.rows.items
    c.run_sparse.new.effects.rows.items c.world.view_is (ap sites_in c.in_ok-roster.ensures) c.new-effects.ensures.rows did.ran
    (subst (λ xs. took c.run_sparse.new.sink xs c.hand_rest.new.sink) c.deref-2.ensures.value c.in_ok-hand_rest.ensures.took) (items_of v c.into_sites-sites.result.items did.lives c.into_sites-sites.ensures)

pub returns-clause-simulated : goal.returns-clause-simulated
returns-clause-simulated g c =
    let took = g.K.RowSink.took in
    let inside = c.world.inside in
    let x : Setting _ = record { horizon = inside.horizon; opening = inside.sites.items; edges = inside.edges.items } in
    let did = c.in_ok-over.ensures in
    let v = c.run_sparse.new.roster in
    simulated_on g.met.S.Site.laws took g.met.K.RowSink.took_both c.args.world (record x { opening = c.into_sites-sites.result.items }) c.args.sink.now c.hand_rest.new.sink
    (begun_at g.met.S.Site.laws took g.met.K.RowSink.took_both c.args.world x (sites_in c.in_ok-roster.roster) (sites_in v) c.into_sites-sites.result.items c.args.sink.now c.run_sparse.new.sink c.hand_rest.new.sink c.new-effects.result.rows.items
    c.run_sparse.new.effects.rows.items c.world.view_is (ap sites_in c.in_ok-roster.ensures) c.new-effects.ensures.rows did.ran
    (subst (λ xs. took c.run_sparse.new.sink xs c.hand_rest.new.sink) c.deref-2.ensures.value c.in_ok-hand_rest.ensures.took) (items_of v c.into_sites-sites.result.items did.lives c.into_sites-sites.ensures))
    c.requires.simulated

pub returns-clause-over : goal.returns-clause-over
returns-clause-over g c =
    let e = g.S.Site.engine in
    let items = c.into_sites-sites.result.items in
    let did = c.in_ok-over.ensures in
    let v = c.run_sparse.new.roster in
    λ over. subst (λ h. IsNone (next_due e h items)) (λ k. (c.world.view_is k).horizon) (subst (λ w. IsNone (next_due e c.world.inside.horizon w)) (sym (items_of v items did.lives c.into_sites-sites.ensures)) (did.over over))

pub returns-in_err-over-clause-stops : goal.returns-in_err-over-clause-stops
returns-in_err-over-clause-stops g c =
    let s = c.args.world in
    let refusal = c.in_err-over.field-0.0 in
    let horizon = c.world.inside.horizon in
    let first : sites_in c.in_ok-roster.roster ≡ s.opening = ap sites_in c.in_ok-roster.ensures ∙ (λ k. (c.world.view_is k).opening) in
    let told = err_from_is_err_and c.from_residual-in_err-over.result c.from_residual-in_err-over.ensures.1 in
    rw (told.1, told.2)
    (stops_gathering g.met.S.Site.laws g.K.RowSink.took g.K.RowSink.broke s horizon (sites_in c.in_ok-roster.roster) c.args.sink.now c.run_sparse.new.sink c.new-effects.result.rows.items refusal c.new-effects.ensures.rows (λ k. (c.world.view_is k).horizon) first
    c.in_err-over.ensures.stops)

pub returns-in_err-hand_rest-clause-stops : goal.returns-in_err-hand_rest-clause-stops
returns-in_err-hand_rest-clause-stops g c =
    let s = c.args.world in
    let refusal = c.in_err-hand_rest.field-0.0 in
    let horizon = c.world.inside.horizon in
    let v = c.run_sparse.new.roster in
    let first : sites_in c.in_ok-roster.roster ≡ s.opening = ap sites_in c.in_ok-roster.ensures ∙ (λ k. (c.world.view_is k).opening) in
    let told = err_from_is_err_and c.from_residual-in_err-hand_rest.result c.from_residual-in_err-hand_rest.ensures.1 in
    rw (told.1, told.2)
    (stops_last g.met.S.Site.laws g.K.RowSink.took g.K.RowSink.broke s g.met.K.RowSink.took_both g.met.K.RowSink.broke_later horizon (sites_in c.in_ok-roster.roster) (sites_in v) c.args.sink.now c.run_sparse.new.sink c.hand_rest.new.sink c.new-effects.result.rows.items
    c.run_sparse.new.effects.rows.items refusal c.new-effects.ensures.rows (λ k. (c.world.view_is k).horizon) first c.in_ok-over.ensures.ran
    (subst (λ xs. g.K.RowSink.broke c.run_sparse.new.sink xs refusal c.hand_rest.new.sink) c.deref-2.ensures.value c.in_err-hand_rest.ensures.broke))
