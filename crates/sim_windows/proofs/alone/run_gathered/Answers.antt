use Rattle.std.proofs.Common.{ap, subst, sym, ◌≡◌, ◌∙◌}
use Rattle.std.proofs.lemmas.Result.{err_from_is_err_and}
use Rattle.sim_partition.specs.Sites.{IsPart}
use Rattle.sim_windows.specs.Sinks.{HasRun, HasTaken}
use Rattle.sim_windows.specs.Worlds.{sites_in}
use Rattle.sim_windows.proofs.Gathering.{all_handed, stops_gathering, stops_last}
use Rattle.sim_windows.proofs.Whole.{items_of, world_part}
use Rattle.sim_windows.proofs.Sinking.{taken_whole}
use Rattle.sim_windows.proofs.alone.run_gathered.Goals as goal

pub new-requires : goal.new-requires
new-requires g c =
    subst (IsPart g.S.Site.engine g.S.Site.conditions) (sym (λ k. (c.world.view_is k).opening)) (world_part g.met.S.Site.laws c.args.world c.requires.simulated)

pub returns-clause-whole : goal.returns-clause-whole
returns-clause-whole g c =
    let e = g.S.Site.engine in
    let took = g.K.RowSink.took in
    let s = c.args.world in
    let did = c.in_ok-run_by.ensures in
    let v = c.run_by.new.roster in
    let horizon = c.world.inside.horizon in
    let first : sites_in c.in_ok-roster.roster ≡ s.opening = ap sites_in c.in_ok-roster.ensures ∙ (λ k. (c.world.view_is k).opening) in
    let items = items_of v c.into_sites.result.items did.lives c.into_sites.ensures in
    let all =
    all_handed g.met.S.Site.laws took g.met.K.RowSink.took_both horizon (sites_in c.in_ok-roster.roster) (sites_in v) c.args.sink.now c.run_by.new.sink c.hand_rest.new.sink c.new-effects.result.rows.items c.run_by.new.effects.rows.items c.new-effects.ensures.rows did.ran
    (subst (λ xs. took c.run_by.new.sink xs c.hand_rest.new.sink) c.deref.ensures.value c.in_ok-hand_rest.ensures.took) in
    let ran = subst (λ w. HasRun e took horizon w c.args.sink.now (sites_in v) c.hand_rest.new.sink) first all in
    subst (HasTaken e took s c.args.sink.now c.hand_rest.new.sink) (sym items)
    (taken_whole g.met.S.Site.laws took s horizon (sites_in v) c.args.sink.now c.hand_rest.new.sink (λ k. (c.world.view_is k).horizon) ran did.ended)

pub returns-in_err-run_by-clause-stops : goal.returns-in_err-run_by-clause-stops
returns-in_err-run_by-clause-stops g c =
    let s = c.args.world in
    let refusal = c.in_err-run_by.field-0.0 in
    let horizon = c.world.inside.horizon in
    let first : sites_in c.in_ok-roster.roster ≡ s.opening = ap sites_in c.in_ok-roster.ensures ∙ (λ k. (c.world.view_is k).opening) in
    let told = err_from_is_err_and c.from_residual-in_err-run_by.result c.from_residual-in_err-run_by.ensures.1 in
    rw (told.1, told.2)
    (stops_gathering g.met.S.Site.laws g.K.RowSink.took g.K.RowSink.broke s horizon (sites_in c.in_ok-roster.roster) c.args.sink.now c.run_by.new.sink c.new-effects.result.rows.items refusal c.new-effects.ensures.rows (λ k. (c.world.view_is k).horizon) first
    c.in_err-run_by.ensures.stops)

pub returns-in_err-hand_rest-clause-stops : goal.returns-in_err-hand_rest-clause-stops
returns-in_err-hand_rest-clause-stops g c =
    let s = c.args.world in
    let refusal = c.in_err-hand_rest.field-0.0 in
    let horizon = c.world.inside.horizon in
    let v = c.run_by.new.roster in
    let first : sites_in c.in_ok-roster.roster ≡ s.opening = ap sites_in c.in_ok-roster.ensures ∙ (λ k. (c.world.view_is k).opening) in
    let told = err_from_is_err_and c.from_residual-in_err-hand_rest.result c.from_residual-in_err-hand_rest.ensures.1 in
    rw (told.1, told.2)
    (stops_last g.met.S.Site.laws g.K.RowSink.took g.K.RowSink.broke s g.met.K.RowSink.took_both g.met.K.RowSink.broke_later horizon (sites_in c.in_ok-roster.roster) (sites_in v) c.args.sink.now c.run_by.new.sink c.hand_rest.new.sink c.new-effects.result.rows.items
    c.run_by.new.effects.rows.items refusal c.new-effects.ensures.rows (λ k. (c.world.view_is k).horizon) first c.in_ok-run_by.ensures.ran
    (subst (λ xs. g.K.RowSink.broke c.run_by.new.sink xs refusal c.hand_rest.new.sink) c.deref.ensures.value c.in_err-hand_rest.ensures.broke))
