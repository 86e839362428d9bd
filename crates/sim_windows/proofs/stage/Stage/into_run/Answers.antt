use Rattle.std.specs.Prelude.{filter, ◌++◌, ◌≡◌, true}
use Rattle.std.proofs.Common.{ap, refl, subst, sym, ◌∙◌}
use Rattle.std.proofs.lemmas.Result.{err_from_is_err_and}
use Rattle.sim_engine.specs.Machine.{flushed, is_finished}
use Rattle.sim_engine.specs.Merge.{merged_all, row_cmp}
use Rattle.sim_engine.specs.Prefixes.{is_before}
use Rattle.sim_windows.specs.Stages.{HasRest, Standing, Stands, delivered_by, is_finished_in, machine_at, standing_of}
use Rattle.sim_windows.proofs.Ending.{ends_numbered, is_whole, parts_whole, rows_whole, whole}
use Rattle.sim_windows.proofs.Meetings.{are_reached, live, parts_in}
use Rattle.sim_windows.proofs.Reading.{finished_is}
use Rattle.sim_windows.proofs.stage.Stage.into_run.Goals as goal

pub deliver-requires : goal.deliver-requires
deliver-requires g c =
    let i = c.self.inside in
    let st = c.self.invariant in
    record { reached = are_reached g.met.S.Site.laws st.setting st.picks (standing_of i.kept i.parts.items) st.stands }

pub returns-in_err-deliver-clause-memory : goal.returns-in_err-deliver-clause-memory
returns-in_err-deliver-clause-memory g c =
    let i = c.self.inside in
    let st = c.self.invariant in
    let k : Standing _ _ _ = standing_of i.kept i.parts.items in
    let told = err_from_is_err_and c.from_residual.result c.from_residual.ensures.1 in
    rw (told.1, told.2, c.in_err-deliver.ensures.memory (parts_in g.met.S.Site.laws st.setting st.picks k st.stands) (live g.met.S.Site.laws st.setting st.picks k st.stands)) refl

pub returns-clause-ended : goal.returns-clause-ended
returns-clause-ended g c = λ finished s on.
    let engine = g.S.Site.engine in
    let laws = g.met.S.Site.laws in
    let i = c.self.inside in
    let k : Standing _ _ _ = standing_of i.kept i.parts.items in
    let st : Stands engine g.S.Site.conditions s on.picks k = subst (Stands engine g.S.Site.conditions s on.picks) (sym c.self.view_is) on.stands in
    let over : is_finished engine s.horizon (machine_at engine k s on.picks) ≡ true =
    sym (finished_is laws s on.picks k st) ∙ ap (λ (x : Standing _ _ _). is_finished_in engine x) c.self.view_is ∙ finished in
    let h : Standing _ _ _ = standing_of c.deliver.new.self c.deliver.new.parts.items in
    let e : h ≡ delivered_by engine k (parts_in laws s on.picks k st) = c.in_ok-deliver.ensures.delivered (parts_in laws s on.picks k st) (live laws s on.picks k st) in
    let rest : HasRest engine s k.settled c.in_ok-rows.rows.items c.in_ok-sites.sites.items = record {
      run = whole laws s on.picks k st over;
      is = is_whole laws s on.picks k st over;
      rows_are =
          ap (λ z. filter (is_before engine k.settled) (whole laws s on.picks k st over).rows ++ z) (c.in_ok-rows.ensures ∙ ap (λ (x : Standing _ _ _). merged_all (row_cmp engine) x.rows) e)
          ∙ rows_whole laws s on.picks k st over;
      sites_are = c.in_ok-sites.ensures (flushed engine (machine_at engine k s on.picks)) (ends_numbered laws s st.sound (whole laws s on.picks k st over) (is_whole laws s on.picks k st over)) (parts_whole laws s on.picks k st over h e);
    } in
    subst (λ (x : Standing _ _ _). HasRest engine s x.settled c.in_ok-rows.rows.items c.in_ok-sites.sites.items) c.self.view_is rest
