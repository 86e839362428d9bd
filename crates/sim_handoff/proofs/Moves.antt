-- A step that changes one place at most keeps the rule where it keeps what stands of that place.
use Rattle.std.proofs.Common.{◌≡◌, ◌≢◌, ℕ, zero, suc, ◌+◌, ◌<◌, true, false, cond, List, [], ◌∷◌, length, set, get_or, sym, refl, ap, subst, ◌∙◌, ⊎_elim, arith, length-set, get_or-set_same, get_or-set_other}
use mathlib.Core.Option.{Option as Maybe, none, some, some-injective}
use mathlib.Core.Logic.{dite}
use native.Mathlib.Decide.{ℕ_discrete}
use lib.ListN.{get_elem?}
use Rattle.std.proofs.lemmas.List.{map-set, set-get_or}
use Rattle.std.proofs.Math.Seq.{map-set_same}
use Rattle.atomic_table.specs.Table.{State}
use Rattle.atomic_table.proofs.Lists.{at_set, at_map, set_here, set_else, set_again}
use Rattle.sim_handoff.specs.declared.records.Slot.{Slot}
use Rattle.sim_handoff.specs.declared.records.PlaceRecord.{PlaceRecord}
use Rattle.sim_handoff.specs.declared.records.PartyRecord.{PartyRecord}
use Rattle.sim_handoff.specs.Place.{blank, place_record, with_place_record, column, counted, total, Stands, IsHandoff}
use Rattle.sim_handoff.proofs.Lists.{within, read, there, one}

module _ {P : Type 0} where
  -- a change that makes or ends no hand leaves how many are out
  pub total_same : (l : List (PartyRecord P)) (i : ℕ) (v w : PartyRecord P) → get_elem? l i ≡ some v → counted w ≡ counted v → total (set l i w) ≡ total l
  total_same [] i v w e c = refl
  total_same (x ∷ xs) zero v w e c = ap (λ k. k + total xs) (c ∙ ap (λ (y : PartyRecord P). counted y) (sym (some-injective x v e)))
  total_same (x ∷ xs) (suc i) v w e c = ap (λ k. counted x + k) (total_same xs i v w e c)

  -- the views w and v differ in their by_place alone
  abbrev pub Alike : PartyRecord P → PartyRecord P → Type 0
  Alike w v = (w.is_hand ≡ v.is_hand) × (w.hands ≡ v.hands) × (w.stopped ≡ v.stopped)

  -- the owner's record after a change of one party's places
  pub head_after : (l : List (PartyRecord P)) (id : ℕ) (v w head : PartyRecord P) → get_elem? l id ≡ some v → get_elem? l 0 ≡ some head → Alike w v
      → (it : PartyRecord P) × (get_elem? (set l id w) 0 ≡ some it) × Alike it head
  head_after l id v w head at_id at_head like = dite (ℕ_discrete id 0)
      (λ z. let e : v ≡ head = one l 0 v head (subst (λ k. get_elem? l k ≡ some v) z at_id) at_head in
      (w, subst (λ k. get_elem? (set l k w) 0 ≡ some w) (sym z) (set_here l 0 w (within l 0 head at_head)), subst (λ (y : PartyRecord P). Alike w y) e like))
      (λ z. (head, set_else l id 0 w (λ g. z (sym g)) ∙ at_head, (refl, refl, refl)))

  -- what all know of a place after one party's change there
  pub column_here : (p id : ℕ) (l : List (PartyRecord P)) (v : PartyRecord P) (t : PlaceRecord P) → p < length v.by_place → column p (set l id (with_place_record v p t)) ≡ set (column p l) id t
  column_here p id l v t h = map-set (λ (y : PartyRecord P). place_record y p) l id (with_place_record v p t) ∙ ap (λ (y : PlaceRecord P). set (column p l) id y) (get_or-set_same v.by_place p t blank h)

  -- what all know of a place after one party's change elsewhere
  pub column_else : (p q id : ℕ) (l : List (PartyRecord P)) (v : PartyRecord P) (t : PlaceRecord P) → q ≢ p → get_elem? l id ≡ some v → column q (set l id (with_place_record v p t)) ≡ column q l
  column_else p q id l v t ne at_id = map-set_same (λ (y : PartyRecord P). place_record y q) l id (with_place_record v p t) v
      (get_or-set_other v.by_place p q t blank ne ∙ ap (λ (y : PartyRecord P). place_record y q) (sym (read l id v v at_id)))

module _ {P D : Type 0} (does : P → D → Type 0) (places : ℕ) (s : State (Slot P D) (PartyRecord P)) (H : IsHandoff does places s) where
  -- where one place's word, slot and record with one party change and its clause stands, the whole rule stands
  pub moves : (p id n' : ℕ) (v : PartyRecord P) (t : PlaceRecord P) (h' : Maybe (Slot P D)) → p < places → get_elem? s.views id ≡ some v → length v.by_place ≡ places
      → Stands does n' h' (set (column p s.views) id t)
      → IsHandoff does places record { words = set s.words p n'; homes = set s.homes p h'; views = set s.views id (with_place_record v p t) }
  moves p id n' v t h' low at_id wide S =
      let w : PartyRecord P = with_place_record v p t in
      let head = head_after s.views id v w H.head at_id H.at_head (refl, refl, refl) in
      let nw = H.words in let nh = H.homes in
      let lw : p < length s.words = omega arith in let lh : p < length s.homes = omega arith in let lp : p < length v.by_place = omega arith in
      let far : places ≢ p = λ g. omega arith in
      record {
        head = head.0;
        at_head = head.1;
        no_hand = head.2.0 ∙ H.no_hand;
        words = length-set s.words p n' ∙ H.words;
        homes = length-set s.homes p h' ∙ H.homes;
        stands = λ q lq. dite (ℕ_discrete q p)
            (λ e. subst (λ k. Stands does (get_or (set s.words p n') k 0) (get_or (set s.homes p h') k none) (column k (set s.views id w))) (sym e)
            (subst (λ (y : ℕ × Maybe (Slot P D) × List (PlaceRecord P)). Stands does y.0 y.1 y.2)
            (λ i. (sym (get_or-set_same s.words p n' 0 lw) i, sym (get_or-set_same s.homes p h' none lh) i, sym (column_here p id s.views v t lp) i)) S))
            (λ ne. subst (λ (y : ℕ × Maybe (Slot P D) × List (PlaceRecord P)). Stands does y.0 y.1 y.2)
            (λ i. (sym (get_or-set_other s.words p q n' 0 ne) i, sym (get_or-set_other s.homes p q h' none ne) i, sym (column_else p q id s.views v t ne at_id) i)) (H.stands q lq));
        flag = get_or-set_other s.words p places n' 0 far ∙ H.flag ∙ ap (λ b. cond b 1 0) (sym head.2.2);
        saw = λ j y e st. head.2.2 ∙ ⊎_elim (λ (m : (j ≡ id) × (w ≡ y)). H.saw id v at_id (ap (λ (z : PartyRecord P). z.stopped) m.1 ∙ st)) (λ (m : (j ≢ id) × (get_elem? s.views j ≡ some y)). H.saw j y m.1 st) (at_set s.views id j w y e);
        hands = total_same s.views id v w at_id refl ∙ H.hands ∙ sym head.2.1;
        spent = λ j y e nz no_hand. ⊎_elim
            (λ (m : (j ≡ id) × (w ≡ y)). let gone : v.by_place ≡ [] = H.spent id v at_id (λ g. nz (m.0 ∙ g)) (ap (λ (z : PartyRecord P). z.is_hand) m.1 ∙ no_hand) in let lg = ap length gone in absurd (omega arith))
            (λ (m : (j ≢ id) × (get_elem? s.views j ≡ some y)). H.spent j y m.1 nz no_hand) (at_set s.views id j w y e);
      }

  -- the owner's view is the first
  pub owner_place_record : (p : ℕ) (low : p < places) (v : PartyRecord P) → get_elem? s.views 0 ≡ some v → (H.stands p low).owner ≡ place_record v p
  owner_place_record p low v at_id = one (column p s.views) 0 (H.stands p low).owner (place_record v p) (H.stands p low).at_owner (at_map (λ (y : PartyRecord P). place_record y p) s.views 0 v at_id)

  -- a hand is not the owner
  pub not_owner : (id : ℕ) (v : PartyRecord P) → get_elem? s.views id ≡ some v → v.is_hand ≡ true → id ≢ 0
  not_owner id v at_id hand z = let e : v ≡ H.head = one s.views 0 v H.head (subst (λ k. get_elem? s.views k ≡ some v) z at_id) H.at_head in let f : false ≡ true = sym H.no_hand ∙ ap (λ (y : PartyRecord P). y.is_hand) (sym e) ∙ hand in cc

  -- a step that changes nothing
  pub still : (i id : ℕ) (v : PartyRecord P) → get_elem? s.views id ≡ some v → IsHandoff does places record { words = set s.words i (get_or s.words i 0); homes = s.homes; views = set s.views id v }
  still i id v at_id = subst (λ (y : List ℕ × List (PartyRecord P)). IsHandoff does places record { words = y.0; homes = s.homes; views = y.1 }) (λ k. (sym (set-get_or s.words i 0) k, sym (set_again s.views id v at_id) k)) H

  -- the slot is where it was
  pub views_alone : (p id : ℕ) (v : PartyRecord P) (t : PlaceRecord P) → p < places → get_elem? s.views id ≡ some v → length v.by_place ≡ places
      → Stands does (get_or s.words p 0) (get_or s.homes p none) (set (column p s.views) id t)
      → IsHandoff does places record { words = set s.words p (get_or s.words p 0); homes = s.homes; views = set s.views id (with_place_record v p t) }
  views_alone p id v t low at_id wide S = subst (λ hs. IsHandoff does places record { words = set s.words p (get_or s.words p 0); homes = hs; views = set s.views id (with_place_record v p t) }) (set-get_or s.homes p none)
      (moves p id (get_or s.words p 0) v t (get_or s.homes p none) low at_id wide S)

  -- what a party knows of a place stands in the column of the place
  pub place_record_at : (p id : ℕ) (v : PartyRecord P) → get_elem? s.views id ≡ some v → get_elem? (column p s.views) id ≡ some (place_record v p)
  place_record_at p id v at_id = at_map (λ (y : PartyRecord P). place_record y p) s.views id v at_id

  -- the slot is at home with this in it
  pub home_is : (p : ℕ) (x : Slot P D) → p < places → get_or s.homes p none ≡ some x → get_elem? s.homes p ≡ some (some x)
  home_is p x low e = let nh = H.homes in there s.homes p none (omega arith) ∙ ap some e
