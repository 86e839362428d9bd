use Rattle.std.specs.Prelude.{Bool, List, false, take, true, ℕ, ◌+◌, ◌≡◌, ◌≤◌, ◌⊎◌}
use Rattle.std.proofs.Common.{ap, arith, inl, inr, subst, sym, ◌∙◌}
use Rattle.std.proofs.lemmas.List.{take_all, take_more}
use Rattle.std.proofs.lemmas.Result.{err_from_is_err_and}
use Rattle.sim_engine.specs.declared.picks.Pick.{Pick}
use Rattle.sim_windows.specs.Stages.{Plays}
use Rattle.sim_windows.proofs.Playing.{begin_with, one_more, plays_on, stops_on, tells_on}
use Rattle.sim_windows.proofs.stage.Stage.play.Goals.{else-took, then-took}
use Rattle.sim_windows.proofs.stage.Stage.play.Goals as goal

pub returns-in_err-next-clause-stops : goal.returns-in_err-next-clause-stops
returns-in_err-next-clause-stops g c =
    let told = err_from_is_err_and c.from_residual.result c.from_residual.ensures.1 in
    rw (told.1, told.2)
    (stops_on g.met.S.Site.laws c.args.self c.loop-pick.stage (take c.loop-pick.pick-index c.args.picks.now) c.loop-pick.effects c.in_err-next.field-0.0 c.loop-pick.invariant.plays c.in_err-next.ensures.stops)

-- how many have taken effect
counted : (took : Bool) (n m : ℕ) → ((took ≡ true) × (m ≡ n + 1)) ⊎ ((took ≡ false) × (m ≡ n)) → one_more took n ≡ m
counted took n m (inl h) = ap (λ b. one_more b n) h.0 ∙ sym h.1
counted took n m (inr h) = ap (λ b. one_more b n) h.0 ∙ sym h.1

pub loop-pick-preserved : goal.loop-pick-preserved
loop-pick-preserved g c =
    let l = c.loop-pick in
    let i = l.pick-index in
    let picks : List Pick = c.args.picks.now in
    let count = c.if-took.effects in
    let took : Bool = c.in_ok-next.took in
    let branches : ((took ≡ true) × (count ≡ l.effects + 1)) ⊎ ((took ≡ false) × (count ≡ l.effects)) =
    elim c.if-took.branch [ then-took w ↦ inl (w.if-took.true, w.effects-is) | else-took w ↦ inr (w.if-took.false, w.effects-is) ] in
    let plays : Plays g.S.Site.engine g.S.Site.conditions c.args.self c.in_ok-next.next (take (i + 1) picks) (one_more took l.effects) =
    subst (λ ps. Plays g.S.Site.engine g.S.Site.conditions c.args.self c.in_ok-next.next ps (one_more took l.effects)) (sym (take_more picks i _ c.loop-pick-test.true))
    (plays_on g.met.S.Site.laws c.args.self l.stage c.in_ok-next.next (take i picks) _ l.effects took l.invariant.plays c.in_ok-next.ensures.took) in
    record {
      plays = subst (λ n. Plays g.S.Site.engine g.S.Site.conditions c.args.self c.in_ok-next.next (take (i + 1) picks) n) (counted took l.effects count branches) plays;
      tells = tells_on g.met.S.Site.laws c.args.self l.stage c.in_ok-next.next (take i picks) l.effects c.args.told.now.items l.told.items c.take.new.told.items l.invariant.plays l.invariant.tells c.in_ok-next.ensures.tells;
      keeps = begin_with c.args.told.now.items l.told.items c.take.new.told.items l.invariant.keeps c.take.ensures.keeps;
      few = elim branches as (λ _. count ≤ i + 1) [ inl h ↦ omega (arith, h.1, l.invariant.few) | inr h ↦ omega (arith, h.1, l.invariant.few) ];
    }

pub returns-in_err-next-clause-keeps : goal.returns-in_err-next-clause-keeps
returns-in_err-next-clause-keeps g c = begin_with c.args.told.now.items c.loop-pick.told.items c.take.new.told.items c.loop-pick.invariant.keeps c.take.ensures.keeps

pub returns-clause-played : goal.returns-clause-played
returns-clause-played g c =
    subst (λ ps. Plays g.S.Site.engine g.S.Site.conditions c.args.self c.loop-pick.stage ps c.loop-pick.effects)
    (take_all c.loop-pick.pick-index c.args.picks.now c.loop-pick-test.false) c.loop-pick.invariant.plays
