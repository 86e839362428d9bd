use Rattle.std.specs.Prelude.{List, Result, [], length, ◌<◌, ◌∷◌, ◌≡◌}
use Rattle.std.proofs.Common.{ap, arith, subst, ◌∙◌, refl}
use Rattle.std.proofs.lemmas.Result.{err_from_is_err_and}
use Rattle.sim_clock.specs.declared.refusal.Refusal.{Refusal}
use Rattle.sim_engine.specs.Engine.{Engine}
use Rattle.sim_engine.specs.declared.picks.Pick.TheVariants.{Barrier}
use Rattle.sim_windows.specs.Stages.{Follows, IsStanding, Standing, bounded_by, bounds_by, left_in, standing_of}
use Rattle.sim_windows.specs.declared.kept.Kept.{Kept}
use Rattle.sim_windows.proofs.Meetings.{are_reached, live, parts_in}
use Rattle.sim_windows.proofs.Stepped.{few_parts, has_parts, meets_so, short}
use Rattle.sim_windows.proofs.stage.Stage.meet.Given.{Over}
use Rattle.sim_windows.proofs.stage.Stage.meet.Goals as goal

module _ {Site Row Transfer : Type 0} (engine : Engine Site Row Transfer) where
  -- the bounds that were set, of the partitions themselves
  bounds_set_so :
      (after set : Kept Site Row Transfer) (now parts : List (Result (List Site) Refusal)) → now ≡ parts → standing_of set now ≡ bounded_by (standing_of after now) (bounds_by engine after.distances after.horizon now)
      → standing_of set parts ≡ bounded_by (standing_of after parts) (bounds_by engine after.distances after.horizon parts)
  bounds_set_so after set now parts e h = subst (λ ps. standing_of set ps ≡ bounded_by (standing_of after ps) (bounds_by engine after.distances after.horizon ps)) e h

pub deliver-requires : goal.deliver-requires
deliver-requires g c =
    let i = c.self.inside in
    let st = c.self.invariant in
    record { reached = are_reached g.met.S.Site.laws st.setting st.picks (standing_of i.kept i.parts.items) st.stands }

pub returns-in_err-deliver-clause-memory : goal.returns-in_err-deliver-clause-memory
returns-in_err-deliver-clause-memory g c =
    let i = c.self.inside in
    let st = c.self.invariant in
    let k : Standing _ _ _ = standing_of i.kept i.parts.items in
    let told = err_from_is_err_and c.from_residual.result c.from_residual.ensures.1 in
    rw (told.1, told.2, c.in_err-deliver.ensures.memory (parts_in g.met.S.Site.laws st.setting st.picks k st.stands) (live g.met.S.Site.laws st.setting st.picks k st.stands)) refl

pub set_bounds-requires-clause-parts : goal.set_bounds-requires-clause-parts
set_bounds-requires-clause-parts g c =
    let i = c.self.inside in
    let st = c.self.invariant in
    ap (λ xs. length xs) c.deref.ensures.value
    ∙ has_parts g.met.S.Site.laws (standing_of i.kept i.parts.items) (standing_of c.deliver.new.self c.deliver.new.parts.items) c.in_ok-deliver.ensures.delivered st.setting st.picks st.stands

pub set_bounds-requires-clause-range : goal.set_bounds-requires-clause-range
set_bounds-requires-clause-range g c =
    let i = c.self.inside in
    let st = c.self.invariant in
    omega (arith, few_parts g.met.S.Site.laws (standing_of i.kept i.parts.items) (standing_of c.deliver.new.self c.deliver.new.parts.items) c.in_ok-deliver.ensures.delivered st.setting st.picks st.stands)

pub set_bounds-requires-clause-horizon : goal.set_bounds-requires-clause-horizon
set_bounds-requires-clause-horizon g c =
    let i = c.self.inside in
    let st = c.self.invariant in
    omega (arith, short g.met.S.Site.laws (standing_of i.kept i.parts.items) (standing_of c.deliver.new.self c.deliver.new.parts.items) c.in_ok-deliver.ensures.delivered st.setting st.picks st.stands)

-- the stage that met stands, and follows the one before
met :
    (g : Over) (c : goal.In_ok-set_bounds g)
    → (let h = standing_of c.set_bounds.new.self c.deliver.new.parts.items in
    IsStanding g.S.Site.engine g.S.Site.conditions h × Follows g.S.Site.engine g.S.Site.conditions c.args.self h (Barrier ∷ [])
    × (h.settled ≡ c.args.self.settled) × (left_in g.S.Site.engine h < left_in g.S.Site.engine c.args.self))
met g c =
    let i = c.self.inside in
    meets_so g.met.S.Site.laws c.args.self (standing_of i.kept i.parts.items) (standing_of c.deliver.new.self c.deliver.new.parts.items) (standing_of c.set_bounds.new.self c.deliver.new.parts.items) c.self.view_is c.in_ok-deliver.ensures.delivered
    (bounds_set_so g.S.Site.engine c.deliver.new.self c.set_bounds.new.self c.deref.result.now c.deliver.new.parts.items c.deref.ensures.value c.in_ok-set_bounds.ensures) c.requires.rests c.requires.left c.self.invariant

pub invariant_of-result : goal.invariant_of-result
invariant_of-result g c = (met g c).0

pub returns-clause-met : goal.returns-clause-met
returns-clause-met g c = (met g c).1

pub returns-clause-settled : goal.returns-clause-settled
returns-clause-settled g c = (met g c).2

pub returns-clause-further : goal.returns-clause-further
returns-clause-further g c = (met g c).3
