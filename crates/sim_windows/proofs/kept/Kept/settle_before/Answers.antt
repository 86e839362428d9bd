use Rattle.std.specs.Prelude.{List, Vec, filter, map, ◌≡◌}
use Rattle.std.proofs.Common.{Global, ap, ◌∙◌}
use Rattle.sim_engine.specs.Prefixes.{is_before}
use Rattle.sim_windows.specs.Stages.{Standing, is_from, standing_of}
use Rattle.sim_windows.proofs.kept.Kept.settle_before.Goals as goal

pub returns-clause-settled : goal.returns-clause-settled
returns-clause-settled given c = λ parts.
    let engine = given.S.Site.engine in
    let g : Standing _ _ _ = standing_of c.args.self.now parts in
    let moment = c.args.moment in
    let kept : c.in_ok-settled.settled.kept.items ≡ map (filter (is_from engine moment)) g.rows =
    c.in_ok-settled.ensures.kept ∙ ap (λ (v : Vec (List _) Global). map (filter (is_from engine moment)) v.items) c.replace-rows.ensures.value in
    ap (λ (z : List (List _)). let x : Standing _ _ _ = record g { rows = z; settled = moment } in x) kept

pub returns-clause-rows : goal.returns-clause-rows
returns-clause-rows given c =
    c.in_ok-settled.ensures.prefixes ∙ ap (λ (v : Vec (List _) Global). map (filter (is_before given.S.Site.engine c.args.moment)) v.items) c.replace-rows.ensures.value
