use Rattle.std.proofs.Common.{ap, subst, sym, ◌∙◌}
use Rattle.std.specs.Prelude.{[], filter, map}
use Rattle.sim_engine.specs.Prefixes.{is_before}
use Rattle.sim_engine.specs.Merge.{merged_all, row_cmp}
use Rattle.sim_windows.specs.Stages.{Settles, Standing, lower_bound_in, settled_by, standing_of, with_parts}
use Rattle.sim_windows.proofs.Stepped.{settled}
use Rattle.sim_windows.proofs.lent.Lent.settle.Goals as goal

pub returns-clause-settled : goal.returns-clause-settled
returns-clause-settled g c =
    c.in_ok-prefixes.ensures.settled [] ∙ ap (λ (x : Standing _ _ _). settled_by g.S.Site.engine x c.args.moment) c.self.view_is

pub returns-clause-rows : goal.returns-clause-rows
returns-clause-rows g c =
    c.in_ok-prefixes.ensures.rows ∙ ap (λ (x : Standing _ _ _). map (filter (is_before g.S.Site.engine c.args.moment)) x.rows) c.self.view_is

pub returns-clause-next : goal.returns-clause-next
returns-clause-next g c = λ parts at.
    let k : Standing _ _ _ = standing_of c.self.inside.kept parts in
    let h : Standing _ _ _ = standing_of c.settle_before.new.self parts in
    subst (λ (x : Standing _ _ _). Settles g.S.Site.engine g.S.Site.conditions (with_parts parts x) h (merged_all (row_cmp g.S.Site.engine) c.in_ok-prefixes.prefixes.items)) c.self.view_is
    (settled g.met.S.Site.laws k h c.args.moment (merged_all (row_cmp g.S.Site.engine) c.in_ok-prefixes.prefixes.items)
    (at ∙ sym (ap (λ (x : Standing _ _ _). lower_bound_in g.S.Site.engine (with_parts parts x)) c.self.view_is)) (c.in_ok-prefixes.ensures.settled parts) (ap (merged_all (row_cmp g.S.Site.engine)) c.in_ok-prefixes.ensures.rows))
