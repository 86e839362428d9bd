-- Each step may be made, and tells what it tells.
use Rattle.std.proofs.Common.{◌≡◌, ◌≢◌, ℕ, ◌<◌, true, false, List, [], ◌∷◌, length, set, get_or, sym, refl, ap, subst, ◌∙◌, Some}
use mathlib.Core.Option.{none, some}
use prog.Atomic.{either}
use Rattle.std.specs.Prelude.{◌==◌}
use Rattle.atomic_table.specs.Table.{Act, keeps, takes, gives, step, stepped, Valid, carried_after, Allows}
use Rattle.atomic_table.proofs.Lists.{exchanged}
use Rattle.sim_handoff.specs.declared.records.Slot.{Slot}
use Rattle.sim_handoff.specs.declared.records.Slot.TheVariants.{Nothing, Piece, Answer}
use Rattle.sim_handoff.specs.declared.records.PlaceRecord.{PlaceRecord}
use Rattle.sim_handoff.specs.declared.records.PartyRecord.{PartyRecord}
use Rattle.sim_handoff.specs.Place.{last_of, place_record, column, vacant, Stands, IsHandoff}
use Rattle.sim_handoff.specs.Steps.{at, raised, lowered, offered, taken, claimed, set_down, picked_up, returned, knowing, takes_up, puts_down, offering, collecting, claiming}
use Rattle.sim_handoff.proofs.Places.{unpending, raises, lowers, offers, collects, claims, notes, is_home, sets_down, picks_up, gives_back}
use Rattle.sim_handoff.proofs.Moves.{moves, owner_place_record, not_owner, still, views_alone, place_record_at, home_is}

-- the piece in a slot
abbrev piece_of : {P D : Type 0} → P → Slot P D → P
piece_of z Nothing = z
piece_of z (Piece x) = x
piece_of z (Answer d) = z

-- the piece in the slot that was taken last
abbrev first_piece : {P D : Type 0} → P → List (ℕ × Slot P D) → P
first_piece z [] = z
first_piece z (x ∷ xs) = piece_of z x.1

module _ {P D : Type 0} (does : P → D → Type 0) (places slots p : ℕ) (low : p < places) (v : PartyRecord P) (wide : length v.by_place ≡ places) where
  -- the owner may take the slot of a place where it has nothing to collect
  pub owner_raises : (c : List (ℕ × Slot P D)) → (place_record v p).pending ≡ false → (place_record v p).lifted ≡ false
      → Allows (IsHandoff does places) slots 0 (v, c) p (λ n. n) (takes_up raised (step slots p 0 0 none) (v, c))
  owner_raises c shut down s H _ at_id _ =
      let n = get_or s.words p 0 in let h = get_or s.homes p none in let S = H.stands p low in let e : S.owner ≡ place_record v p = owner_place_record does places s H p low v at_id in
      let shut' : S.owner.pending ≡ false = ap (λ (o : PlaceRecord P). o.pending) e ∙ shut in
      let home : h ≡ some Nothing = S.empty (unpending does n h (column p s.views) S shut') ∙ ap (λ (o : PlaceRecord P). vacant o.lifted) e ∙ ap vacant down in (
        at p raised v,
        takes p Nothing,
        home_is does places s H p Nothing low home,
        moves does places s H p 0 n v (raised (place_record v p)) none low at_id wide (subst (λ o. Stands does n none (set (column p s.views) 0 (raised o))) e (raises does n h (column p s.views) S shut')),
        refl,
      )

  -- the owner may put back the slot of an empty place
  pub owner_lowers : (more : List (ℕ × Slot P D)) → (place_record v p).lifted ≡ true
      → Allows (IsHandoff does places) slots 0 (v, (p, Nothing) ∷ more) p (λ n. n) (puts_down lowered (step slots p 0 0 none) (v, (p, Nothing) ∷ more))
  owner_lowers more up s H _ at_id _ =
      let n = get_or s.words p 0 in let h = get_or s.homes p none in let S = H.stands p low in let e : S.owner ≡ place_record v p = owner_place_record does places s H p low v at_id in (
        at p lowered v,
        gives,
        tt,
        moves does places s H p 0 n v (lowered (place_record v p)) (some Nothing) low at_id wide
            (subst (λ o. Stands does n (some Nothing) (set (column p s.views) 0 (lowered o))) e (lowers does n h (column p s.views) S (ap (λ (o : PlaceRecord P). o.lifted) e ∙ up))),
        refl,
      )

  -- the owner may give back the slot with a piece
  pub owner_offers : (x : P) (more : List (ℕ × Slot P D)) → (place_record v p).lifted ≡ true
      → Allows (IsHandoff does places) slots 0 (v, (p, Piece x) ∷ more) p (λ _. 1) (λ _. offering (step slots p 1 0 none) (v, (p, Piece x) ∷ more) 1)
  owner_offers x more up s H _ at_id _ =
      let n = get_or s.words p 0 in let h = get_or s.homes p none in let S = H.stands p low in let e : S.owner ≡ place_record v p = owner_place_record does places s H p low v at_id in (
        at p (offered x) v,
        gives,
        tt,
        moves does places s H p 0 1 v (offered x (place_record v p)) (some (Piece x)) low at_id wide
            (subst (λ o. Stands does 1 (some (Piece x)) (set (column p s.views) 0 (offered x o))) e (offers does n h (column p s.views) S x (ap (λ (o : PlaceRecord P). o.lifted) e ∙ up))),
        λ y g. let same : x ≡ y = ap (first_piece x) g in ap (λ z. (at p (offered z) v, more)) same,
      )

  -- the owner may collect at a done place, and do nothing at any other
  pub owner_collects : (c : List (ℕ × Slot P D))
      → Allows (IsHandoff does places) slots 0 (v, c) p (λ n. either (n == 3) 0 n) (collecting does (step slots p 3 0 none) (v, c))
  owner_collects c s H _ at_id _ =
      let n = get_or s.words p 0 in let h = get_or s.homes p none in let S = H.stands p low in let e : S.owner ≡ place_record v p = owner_place_record does places s H p low v at_id in
      let F : ℕ → Type 0 = λ k. (w : PartyRecord P) × (a : Act (Slot P D)) × Valid s.homes c a × IsHandoff does places (stepped s p k 0 c w a) × collecting does (step slots p 3 0 none) (v, c) n (w, carried_after c a) in
      exchanged n 3 0 F
      (λ (three : n ≡ 3). let it = S.done three in (
        at p taken v,
        takes p (Answer it.1),
        home_is does places s H p (Answer it.1) low it.3,
        moves does places s H p 0 0 v (taken (place_record v p)) none low at_id wide (subst (λ o. Stands does 0 none (set (column p s.views) 0 (taken o))) e (collects does n h (column p s.views) S three)),
        ((λ _. (it.0, it.1, ap (λ (o : PlaceRecord P). last_of o.offers) (sym e) ∙ it.2, it.4, refl)), (λ ne. absurd (ne three))),
      ))
      (λ (ne : n ≢ 3). (v, keeps, tt, still does places s H p 0 v at_id, ((λ three. absurd (ne three)), (λ _. refl))))

  module _ (id : ℕ) (hand : v.is_hand ≡ true) where
    -- a hand may claim at an offered place, and note the offers so far at any other
    pub hand_claims : (c : List (ℕ × Slot P D)) → Allows (IsHandoff does places) slots id (v, c) p (λ n. either (n == 1) 2 n) (claiming (step slots p 1 2 none) (v, c))
    hand_claims c s H _ at_id _ =
        let n = get_or s.words p 0 in let h = get_or s.homes p none in let S = H.stands p low in let nz = not_owner does places s H id v at_id hand in let here = place_record_at does places s H p id v at_id in
        let F : ℕ → Type 0 = λ k. (w : PartyRecord P) × (a : Act (Slot P D)) × Valid s.homes c a × IsHandoff does places (stepped s p k id c w a) × claiming (step slots p 1 2 none) (v, c) n (w, carried_after c a) in
        exchanged n 1 2 F
        (λ (one : n ≡ 1). let it = S.offered one in (
          at p (claimed it.0) v,
          takes p (Piece it.0),
          home_is does places s H p (Piece it.0) low it.2,
          moves does places s H p id 2 v (claimed it.0 (place_record v p)) none low at_id wide (claims does n h (column p s.views) S id (place_record v p) nz here one it.0 it.1),
          ((λ _. (it.0, refl)), (λ ne. absurd (ne one))),
        ))
        (λ (ne : n ≢ 1). let k : ℕ = length S.owner.offers in (
          at p (knowing k) v,
          keeps,
          tt,
          views_alone does places s H p id v (knowing k (place_record v p)) low at_id wide (notes does n h (column p s.views) S id (place_record v p) nz here ne),
          ((λ one. absurd (ne one)), (λ _. (k, (S.all id (place_record v p) here).known, refl))),
        ))

    -- a hand may put back the slot of a place that it claimed
    pub hand_sets_down : (x : P) (more : List (ℕ × Slot P D)) → (place_record v p).held ≡ Some x
        → Allows (IsHandoff does places) slots id (v, (p, Nothing) ∷ more) p (λ n. n) (puts_down set_down (step slots p 0 0 none) (v, (p, Nothing) ∷ more))
    hand_sets_down x more holds s H _ at_id _ =
        let n = get_or s.words p 0 in let h = get_or s.homes p none in let S = H.stands p low in let nz = not_owner does places s H id v at_id hand in (
          at p set_down v,
          gives,
          tt,
          moves does places s H p id n v (set_down (place_record v p)) (some Nothing) low at_id wide
              (sets_down does n h (column p s.views) S id (place_record v p) nz (place_record_at does places s H p id v at_id) x holds),
          refl,
        )

    -- a hand may take the slot of a place that it claimed
    pub hand_picks_up : (x : P) (c : List (ℕ × Slot P D)) → (place_record v p).held ≡ Some x → (place_record v p).out ≡ false
        → Allows (IsHandoff does places) slots id (v, c) p (λ n. n) (takes_up picked_up (step slots p 0 0 none) (v, c))
    hand_picks_up x c holds inn s H _ at_id _ =
        let n = get_or s.words p 0 in let h = get_or s.homes p none in let S = H.stands p low in let nz = not_owner does places s H id v at_id hand in let here = place_record_at does places s H p id v at_id in (
          at p picked_up v,
          takes p Nothing,
          home_is does places s H p Nothing low (is_home does n h (column p s.views) S id (place_record v p) nz here x holds ∙ ap vacant inn),
          moves does places s H p id n v (picked_up (place_record v p)) none low at_id wide (picks_up does n h (column p s.views) S id (place_record v p) nz here x holds),
          refl,
        )

    -- a hand may give back the slot with an answer to what it holds
    pub hand_gives_back : (x : P) (d : D) (more : List (ℕ × Slot P D)) → (place_record v p).held ≡ Some x → does x d
        → Allows (IsHandoff does places) slots id (v, (p, Answer d) ∷ more) p (λ _. 3) (λ _. puts_down returned (step slots p 3 0 none) (v, (p, Answer d) ∷ more) 3)
    hand_gives_back x d more holds ok s H _ at_id _ =
        let n = get_or s.words p 0 in let h = get_or s.homes p none in let S = H.stands p low in let nz = not_owner does places s H id v at_id hand in (
          at p returned v,
          gives,
          tt,
          moves does places s H p id 3 v (returned (place_record v p)) (some (Answer d)) low at_id wide
              (gives_back does n h (column p s.views) S id (place_record v p) nz (place_record_at does places s H p id v at_id) x holds d ok),
          refl,
        )
