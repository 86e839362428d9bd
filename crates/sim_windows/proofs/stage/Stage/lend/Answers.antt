use Rattle.std.specs.Prelude.{[], map, min, ◌≡◌}
use Rattle.std.proofs.Common.{ap, subst, ◌∙◌}
use Rattle.std.proofs.lemmas.List.{take_all}
use Rattle.sim_windows.specs.Stages.{IsStanding, Standing, standing_of, with_parts}
use Rattle.sim_windows.proofs.Ranges.{short_ends}
use Rattle.sim_windows.proofs.stage.Stage.lend.Goals as goal

pub returns : goal.returns
returns g c =
    let i = c.self.inside in
    let st = c.self.invariant in
    let k : Standing _ _ _ = standing_of i.kept i.parts.items in
    let ends : c.loop-bound.ends.items ≡ map (λ bound. min bound c.args.cut) k.bounds =
    c.loop-bound.invariant ∙ ap (λ bs. map (λ bound. min bound c.args.cut) bs) (take_all c.loop-bound.bound-index c.deref-bound-items.result.now c.loop-bound-test.false ∙ c.deref-bound-items.ensures.value) in
    record {
      stands = subst (IsStanding g.S.Site.engine g.S.Site.conditions) c.self.view_is st;
      lent_is = c.new.ensures ∙ ap (λ (x : Standing _ _ _). with_parts [] x) c.self.view_is;
      parts_are = ap (λ (x : Standing _ _ _). x.parts) c.self.view_is;
      ends_are = ends ∙ ap (λ (x : Standing _ _ _). map (λ bound. min bound c.args.cut) x.bounds) c.self.view_is;
      range = short_ends g.met.S.Site.laws st.setting st.picks k st.stands c.args.cut c.loop-bound.ends.items ends;
    }
