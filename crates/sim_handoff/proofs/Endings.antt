-- What is left at a place once no hand is out.
use Rattle.std.proofs.Common.{◌≡◌, ◌≢◌, ℕ, zero, suc, ◌<◌, Bool, true, false, cond, List, [], ◌∷◌, map, get_or, sym, refl, ap, subst, ◌∙◌, arith, None, Some}
use mathlib.Core.Option.{none, some, some-injective, some-ne-none}
use mathlib.Core.Logic.{dite}
use native.Mathlib.Decide.{ℕ_discrete}
use lib.ListN.{get_elem?}
use Rattle.atomic_table.specs.Table.{State, Final, Seen}
use Rattle.sim_handoff.specs.declared.records.Slot.{Slot}
use Rattle.sim_handoff.specs.declared.records.Slot.TheVariants.{Nothing, Piece, Answer}
use Rattle.sim_handoff.specs.declared.records.PlaceRecord.{PlaceRecord}
use Rattle.sim_handoff.specs.declared.records.PartyRecord.{PartyRecord}
use Rattle.sim_handoff.specs.declared.ends.Left.{Left}
use Rattle.sim_handoff.specs.declared.ends.Left.TheVariants.{Empty}
use Rattle.sim_handoff.specs.Place.{blank, last_of, place_record, column, counted, Stands, IsHandoff}
use Rattle.sim_handoff.specs.Ends.{Says, IsLeft}
use Rattle.sim_handoff.proofs.Lists.{read, one}
use Rattle.sim_handoff.proofs.Moves.{owner_place_record, home_is}
use Rattle.sim_handoff.proofs.Comings.{none_counted}

-- what a mapped list has comes from one of the list
from_map : {A B : Type 0} (f : A → B) (l : List A) (i : ℕ) (b : B) → get_elem? (map f l) i ≡ some b → (a : A) × (get_elem? l i ≡ some a) × (f a ≡ b)
from_map f [] i b e = absurd (some-ne-none b (sym e))
from_map f (x ∷ xs) zero b e = (x, refl, some-injective (f x) b e)
from_map f (x ∷ xs) (suc i) b e = from_map f xs i b e

-- where a party counts 0 it is no hand
none_set : (b : Bool) (n : ℕ) → n ≡ cond b 1 0 → n ≡ 0 → b ≡ false
none_set true n e z = absurd (omega arith)
none_set false n e z = refl

module _ {P D : Type 0} (does : P → D → Type 0) (places : ℕ) (v : PartyRecord P) (s : State (Slot P D) (PartyRecord P)) (H : IsHandoff does places s) (at_id : get_elem? s.views 0 ≡ some v) (nobody : v.hands ≡ 0) (p : ℕ) (low : p < places) where
  -- where no hand is out no place is claimed
  unclaimed : get_or s.words p 0 ≢ 2
  unclaimed e =
      let S = H.stands p low in let c = S.claimed e in
      let same : v ≡ H.head = one s.views 0 v H.head at_id H.at_head in
      let y = from_map (λ (w : PartyRecord P). place_record w p) s.views S.holder c.0 c.2 in
      let empty : Rattle.sim_handoff.specs.Place.total s.views ≡ 0 = H.hands ∙ ap (λ (w : PartyRecord P). w.hands) (sym same) ∙ nobody in
      let away : S.holder ≢ 0 = λ z. let here : c.0 ≡ S.owner = one (column p s.views) 0 c.0 S.owner (subst (λ k. get_elem? (column p s.views) k ≡ some c.0) z c.2) S.at_owner in
      let f : None ≡ Some c.1 = sym S.idle.0 ∙ ap (λ (w : PlaceRecord P). w.held) (sym here) ∙ c.3 in cc in
      let gone : y.0.by_place ≡ [] = H.spent S.holder y.0 y.1 away (none_set y.0.is_hand (counted y.0) refl (none_counted s.views S.holder y.0 empty y.1)) in
      let f : None ≡ Some c.1 = ap (λ ss. (get_or ss p blank).held) (sym gone) ∙ ap (λ (w : PlaceRecord P). w.held) y.2 ∙ c.3 in
      cc

  -- what a place's word and slot say is what is left there
  pub ends_at : (x : Slot P D) (l : Left P D) → ((y : Slot P D) → get_or s.homes p none ≡ some y → x ≡ y) → Says (get_or s.words p 0) x l → IsLeft does (place_record v p) l
  ends_at x l is says =
      let n = get_or s.words p 0 in let S = H.stands p low in let e : S.owner ≡ place_record v p = owner_place_record does places s H p low v at_id in
      subst (λ (o : PlaceRecord P). IsLeft does o l) e
      (dite (ℕ_discrete n 1)
      (λ one_is. let t = S.offered one_is in subst (λ (k : Left P D). IsLeft does S.owner k) (sym (says.offered t.0 one_is (is (Piece t.0) t.2))) ((S.opened (λ z. omega arith)).0, t.1))
      (λ no_one. dite (ℕ_discrete n 3)
      (λ three. let t = S.done three in subst (λ (k : Left P D). IsLeft does S.owner k) (sym (says.done t.1 three (is (Answer t.1) t.3))) ((S.opened (λ z. omega arith)).0, (t.0, t.2, t.4)))
      (λ no_three. let small = S.small in let free = unclaimed in
      let z : n ≡ 0 = dite (ℕ_discrete n 0) (λ k. k) (λ nz. dite (ℕ_discrete n 2) (λ two. absurd (free two)) (λ no_two. absurd (omega arith))) in
      subst (λ (k : Left P D). IsLeft does S.owner k) (sym (says.empty no_one no_three)) (S.shut z))))

-- what is left at all places of a closed table
pub ends : {P D : Type 0} (does : P → D → Type 0) (places id : ℕ) (v : PartyRecord P) (ws : List ℕ) (xs : List (Slot P D)) (ls : List (Left P D)) → id ≡ 0 → v.hands ≡ 0 → Final (Seen (IsHandoff does places) id v) ws xs
    → ((p : ℕ) → p < places → Says (get_or ws p 0) (get_or xs p Nothing) (get_or ls p Empty)) → (p : ℕ) → p < places → IsLeft does (place_record v p) (get_or ls p Empty)
ends does places id v ws xs ls first nobody fin says p low =
    let s = fin.0 in let H = fin.1.0 in
    ends_at does places v s H (subst (λ k. get_elem? s.views k ≡ some v) first fin.1.1) nobody p low (get_or xs p Nothing) (get_or ls p Empty)
    (λ y e. read xs p y Nothing (fin.4 p y (home_is does places s H p y low e)))
    (subst (λ w. Says (get_or w p 0) (get_or xs p Nothing) (get_or ls p Empty)) (sym fin.2) (says p low))
