use Rattle.std.specs.Prelude.{[]}
use Rattle.std.proofs.Common.{ap, subst, sym, ◌∙◌}
use Rattle.sim_engine.specs.Merge.{merged_all, row_cmp}
use Rattle.sim_windows.specs.Stages.{Settles, Standing, lower_bound_in, standing_of}
use Rattle.sim_windows.proofs.Stepped.{on, settled}
use Rattle.sim_windows.proofs.stage.Stage.settle.Goals as goal

pub invariant_of-result : goal.invariant_of-result
invariant_of-result g c =
    let i = c.self.inside in
    let k : Standing _ _ _ = standing_of i.kept i.parts.items in
    let h : Standing _ _ _ = standing_of c.settle_before.new.self i.parts.items in
    let made = settled g.met.S.Site.laws k h c.lower_bound-moment.result c.in_ok-rows.rows.items
    (c.lower_bound-moment.ensures ∙ ap (λ (x : Standing _ _ _). lower_bound_in g.S.Site.engine x) (sym c.self.view_is)) (c.in_ok-prefixes.ensures.settled i.parts.items) (c.in_ok-rows.ensures ∙ ap (merged_all (row_cmp g.S.Site.engine)) c.in_ok-prefixes.ensures.rows) in
    on g.met.S.Site.laws k h [] made.follows c.self.invariant

pub returns : goal.returns
returns g c =
    let i = c.self.inside in
    let k : Standing _ _ _ = standing_of i.kept i.parts.items in
    let h : Standing _ _ _ = standing_of c.settle_before.new.self i.parts.items in
    subst (λ (x : Standing _ _ _). Settles g.S.Site.engine g.S.Site.conditions x h c.in_ok-rows.rows.items) c.self.view_is
    (settled g.met.S.Site.laws k h c.lower_bound-moment.result c.in_ok-rows.rows.items
    (c.lower_bound-moment.ensures ∙ ap (λ (x : Standing _ _ _). lower_bound_in g.S.Site.engine x) (sym c.self.view_is)) (c.in_ok-prefixes.ensures.settled i.parts.items) (c.in_ok-rows.ensures ∙ ap (merged_all (row_cmp g.S.Site.engine)) c.in_ok-prefixes.ensures.rows))
