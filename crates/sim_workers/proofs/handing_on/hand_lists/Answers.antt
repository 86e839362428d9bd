use Rattle.std.proofs.Common.{List, arith, flat_map, length, rules, subst, ◌≡◌, ◌∙◌}
use Rattle.std.specs.Prelude.{IfErr, IfOk, OnOk}
use Rattle.sim_clock.specs.declared.refusal.Refusal.TheVariants as refusals
use Rattle.sim_engine.specs.Merge.{merged_all, row_cmp}
use Rattle.sim_workers.specs.Paces.{word_of}
use Rattle.sim_workers.specs.Runs.{StopsAmong}
use Rattle.sim_workers.proofs.Handing.{alone}
use Rattle.sim_workers.proofs.handing_on.hand_lists.Given.{Over}
use Rattle.sim_workers.proofs.handing_on.hand_lists.Goals.{After-drop-lists}
use Rattle.sim_workers.proofs.handing_on.hand_lists.Goals as goal

-- the only list has all rows
only : (g : Over) (c : After-drop-lists g) → flat_map (λ v. v.items) c.as_lists.result.now ≡ merged_all (row_cmp g.S.Site.engine) c.args.lists.items
only g c =
    c.as_lists.ensures
    ∙ alone (row_cmp g.S.Site.engine) c.args.lists.items c.index.result.now (omega (arith, c.if-len-ne1.false, c.len.ensures, c.args.lists.ok.0)) (search rules)

pub returns-clause-took : goal.returns-clause-took
returns-clause-took g c = subst (λ z. OnOk c.hand_each.result (g.K.RowSink.took c.args.sink.now z c.hand_each.new.sink)) (only g c) c.hand_each.ensures.took

pub returns-clause-count : goal.returns-clause-count
returns-clause-count g c = subst (λ (z : List _). IfOk c.hand_each.result (λ n. n ≡ word_of (length z))) (only g c) c.hand_each.ensures.count

pub returns-clause-stops : goal.returns-clause-stops
returns-clause-stops g c =
    subst (λ z. IfErr c.hand_each.result (λ refusal. StopsAmong g.S.Site.engine g.K.RowSink.took g.K.RowSink.broke (λ e. e ≡ refusals.Memory) z c.args.sink.now refusal c.hand_each.new.sink)) (only g c)
    c.hand_each.ensures.stops
