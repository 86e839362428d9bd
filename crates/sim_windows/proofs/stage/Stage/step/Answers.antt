use Rattle.std.specs.Option.{is_some}
use Rattle.std.specs.Prelude.{Bool, Option, false, get_or, not, set, true, ℕ, ◌∷◌, ◌++◌, ◌≡◌, [], Ok, IfOk}
use Rattle.std.proofs.Common.{ap, subst, sym, ◌∙◌}
use Rattle.std.proofs.lemmas.Result.{err_from_is_err_and}
use Rattle.sim_clock.specs.declared.key.Key.{Key}
use Rattle.sim_engine.specs.Engine.{Engine}
use Rattle.sim_engine.specs.World.{world_due}
use Rattle.sim_engine.specs.declared.picks.Pick.TheVariants.{Part}
use Rattle.sim_engine.proofs.Machines.{not_some}
use Rattle.sim_partition.specs.Sites.{AreOfPast}
use Rattle.sim_windows.specs.Stages.{Standing, Stands, Took, ready_in, standing_of}
use Rattle.sim_windows.proofs.Stepped.{can_step, over, stays, stepped}
use Rattle.sim_windows.proofs.stage.Stage.step.Goals as goal

-- a partition that was found to have something may step
may_step :
    {Site Row Transfer : Type 0} (engine : Engine Site Row Transfer) (inside self : Standing Site Row Transfer) (part : ℕ) (found : Option Key) (none : Bool)
    → inside ≡ self → found ≡ ready_in engine self part → is_some found ≡ not none → none ≡ false → is_some (ready_in engine inside part) ≡ true
may_step engine inside self part found none is ready tested may = ap is_some (ap (λ x. ready_in engine x part) is ∙ sym ready) ∙ tested ∙ ap not may

pub returns-then-is_none-clause-took : goal.returns-then-is_none-clause-took
returns-then-is_none-clause-took g c =
    stays g.met.S.Site.laws c.args.self c.args.part (sym c.ready_at.ensures.ready ∙ not_some c.ready_at.result (c.is_none.ensures ∙ ap not c.if-is_none.true))

pub step-requires : goal.step-requires
step-requires g c =
    let i = c.self.inside in
    let st = c.self.invariant in
    let some = may_step g.S.Site.engine (standing_of i.kept i.parts.items) c.args.self c.args.part _ _ c.self.view_is c.ready_at.ensures.ready c.is_none.ensures c.if-is_none.false in
    record { due = can_step g.met.S.Site.laws i.kept i.parts.items c.args.part c.index_mut.result.now c.index_mut.ensures.value some st.setting st.picks st.stands }

pub returns-in_err-handled-clause-stops : goal.returns-in_err-handled-clause-stops
returns-in_err-handled-clause-stops g c =
    let i = c.self.inside in
    let some = may_step g.S.Site.engine (standing_of i.kept i.parts.items) c.args.self c.args.part _ _ c.self.view_is c.ready_at.ensures.ready c.is_none.ensures c.if-is_none.false in
    let told = err_from_is_err_and c.from_residual.result c.from_residual.ensures.1 in
    rw (told.1, told.2) (λ s on.
    over g.met.S.Site.laws i.kept i.parts.items c.args.part c.index_mut.result.now c.index_mut.ensures.value some s on.picks
    (subst (Stands g.S.Site.engine g.S.Site.conditions s on.picks) (sym c.self.view_is) on.stands) c.in_err-handled.field-0.0 c.in_err-handled.ensures.stops)

pub invariant_of-result : goal.invariant_of-result
invariant_of-result g c =
    let i = c.self.inside in
    let st = c.self.invariant in
    let some = may_step g.S.Site.engine (standing_of i.kept i.parts.items) c.args.self c.args.part _ _ c.self.view_is c.ready_at.ensures.ready c.is_none.ensures c.if-is_none.false in
    let past : IfOk (get_or i.parts.items c.args.part (Ok [])) (λ v. AreOfPast g.S.Site.conditions v (world_due g.S.Site.engine v)) =
    subst (λ (x : Standing _ _ _). IfOk (get_or x.parts c.args.part (Ok [])) (λ v. AreOfPast g.S.Site.conditions v (world_due g.S.Site.engine v))) (sym c.self.view_is) c.ready_at.ensures.past in
    let took = stepped g.met.S.Site.laws i.kept i.parts.items c.args.part c.index_mut.result.now c.index_mut.ensures.value some st.setting st.picks st.stands
    c.step.new.self c.in_ok-handled.handled.rows.items c.in_ok-handled.handled.sent.items c.add-2.new.self c.index_mut-2.result.now c.add.new.self
    c.in_ok-handled.ensures.handled past c.index_mut-2.ensures.value c.in_ok-add.ensures c.in_ok-add-2.ensures in
    record { setting = st.setting; picks = st.picks ++ Part c.args.part ∷ []; stands = took.stands }

pub returns-clause-took : goal.returns-clause-took
returns-clause-took g c = λ s done st.
    let i = c.self.inside in
    let some = may_step g.S.Site.engine (standing_of i.kept i.parts.items) c.args.self c.args.part _ _ c.self.view_is c.ready_at.ensures.ready c.is_none.ensures c.if-is_none.false in
    let past : IfOk (get_or i.parts.items c.args.part (Ok [])) (λ v. AreOfPast g.S.Site.conditions v (world_due g.S.Site.engine v)) =
    subst (λ (x : Standing _ _ _). IfOk (get_or x.parts c.args.part (Ok [])) (λ v. AreOfPast g.S.Site.conditions v (world_due g.S.Site.engine v))) (sym c.self.view_is) c.ready_at.ensures.past in
    let h : Standing _ _ _ = record (standing_of i.kept i.parts.items) { parts = set i.parts.items c.args.part c.step.new.self; rows = set i.kept.rows.items c.args.part c.add.new.self; waiting = c.add-2.new.self } in
    subst (λ (x : Standing _ _ _). Took g.S.Site.engine g.S.Site.conditions x h s done (Part c.args.part) true) c.self.view_is
    (stepped g.met.S.Site.laws i.kept i.parts.items c.args.part c.index_mut.result.now c.index_mut.ensures.value some s done
    (subst (Stands g.S.Site.engine g.S.Site.conditions s done) (sym c.self.view_is) st)
    c.step.new.self c.in_ok-handled.handled.rows.items c.in_ok-handled.handled.sent.items c.add-2.new.self c.index_mut-2.result.now c.add.new.self
    c.in_ok-handled.ensures.handled past c.index_mut-2.ensures.value c.in_ok-add.ensures c.in_ok-add-2.ensures)
