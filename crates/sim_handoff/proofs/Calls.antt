-- What the calls cite: a seat's views and slots from step to step.
use Rattle.std.proofs.Common.{◌≡◌, ℕ, zero, suc, ◌<◌, Bool, true, false, List, [], ◌∷◌, length, get_or, sym, ap, subst, ◌∙◌, arith, Some, length-set, get_or-set_same, get_or-set_other, set-set}
use mathlib.Core.Option.{none}
use mathlib.Core.Logic.{dite}
use native.Mathlib.Decide.{ℕ_discrete}
use prog.Atomic.{either}
use Rattle.std.specs.Prelude.{◌==◌}
use Rattle.atomic_table.specs.Table.{Me, step, rest, Allows}
use Rattle.sim_handoff.specs.declared.records.Slot.{Slot}
use Rattle.sim_handoff.specs.declared.records.Slot.TheVariants.{Nothing, Piece, Answer}
use Rattle.sim_handoff.specs.declared.records.PlaceRecord.{PlaceRecord}
use Rattle.sim_handoff.specs.declared.records.PartyRecord.{PartyRecord}
use Rattle.sim_handoff.specs.Place.{blank, place_record, with_place_record, IsHandoff}
use Rattle.sim_handoff.specs.Steps.{Party, at, raised, lowered, offered, taken, claimed, set_down, picked_up, returned, takes_up, puts_down, offering, collecting}
use Rattle.sim_handoff.proofs.Keeps.{owner_raises, owner_lowers, owner_offers, owner_collects, hand_sets_down, hand_gives_back}

module _ {P : Type 0} (p : ℕ) (v : PartyRecord P) (low : p < length v.by_place) where
  -- what is known of the place after a change there
  pub place_record_after : (t : PlaceRecord P) → place_record (with_place_record v p t) p ≡ t
  place_record_after t = get_or-set_same v.by_place p t blank low

  -- two changes at one place are one
  pub twice : (f g : PlaceRecord P → PlaceRecord P) → at p g (at p f v) ≡ at p (λ s. g (f s)) v
  twice f g = ap (λ (t : PlaceRecord P). with_place_record (at p f v) p (g t)) (place_record_after (f (place_record v p))) ∙ ap (λ ss. record v { by_place = ss }) (set-set v.by_place p (f (place_record v p)) (g (f (place_record v p))))

  -- a mark that no place has, no place has after a change that does not set it
  pub rests_at : (flag : PlaceRecord P → Bool) (f : PlaceRecord P → PlaceRecord P) → ((q : ℕ) → flag (place_record v q) ≡ false) → flag (f (place_record v p)) ≡ false → (q : ℕ) → flag (place_record (at p f v) q) ≡ false
  rests_at flag f all here q = dite (ℕ_discrete q p)
      (λ e. subst (λ k. flag (place_record (at p f v) k) ≡ false) (sym e) (ap flag (place_record_after (f (place_record v p))) ∙ here))
      (λ ne. ap flag (get_or-set_other v.by_place p q (f (place_record v p)) blank ne) ∙ all q)

-- a list where a place holds a piece reaches that far
held_inside : {P : Type 0} (l : List (PlaceRecord P)) (p : ℕ) (x : P) → (get_or l p blank).held ≡ Some x → p < length l
held_inside [] p x e = absurd (cc)
held_inside (s ∷ l) zero x e = omega arith
held_inside (s ∷ l) (suc p) x e = let h = held_inside l p x e in omega arith

-- a hand holds a piece at a place of its hand-off alone
pub held_within : {P : Type 0} (v : PartyRecord P) (p places : ℕ) (x : P) → (place_record v p).held ≡ Some x → length v.by_place ≡ places → p < places
held_within v p places x e wide = let h = held_inside v.by_place p x e in omega arith

module _ {P D : Type 0} (does : P → D → Type 0) (places slots p : ℕ) (low : p < places) (v : PartyRecord P) (wide : length v.by_place ≡ places) (id : ℕ) where
  -- a change at a place leaves the number of places
  wide_at : (t : PlaceRecord P) → length (with_place_record v p t).by_place ≡ places
  wide_at t = length-set v.by_place p t ∙ wide

  -- the place is one of those known
  inside : p < length v.by_place
  inside = omega arith

  module _ (first : id ≡ 0) where
    -- the owner may take the slot of a place where it has nothing to collect
    pub raise_step : (c : List (ℕ × Slot P D)) → (place_record v p).pending ≡ false → (place_record v p).lifted ≡ false
        → Allows (IsHandoff does places) slots id (v, c) p (λ n. n) (takes_up raised (step slots p 0 0 none) (v, c))
    raise_step c shut down = subst (λ i. Allows (IsHandoff does places) slots i (v, c) p (λ n. n) (takes_up raised (step slots p 0 0 none) (v, c))) (sym first) (owner_raises does places slots p low v wide c shut down)

    -- the owner may offer the piece that it put into the slot
    pub offer_step : (x : P) (c : List (ℕ × Slot P D)) (m : Party P D) → m ≡ (at p raised v, (p, Piece x) ∷ c)
        → Allows (IsHandoff does places) slots id m p (λ _. 1) (λ _. offering (step slots p 1 0 none) m 1)
    offer_step x c m is = subst (λ (y : ℕ × Party P D). Allows (IsHandoff does places) slots y.0 y.1 p (λ _. 1) (λ _. offering (step slots p 1 0 none) y.1 1)) (λ i. (sym first i, sym is i))
        (owner_offers does places slots p low (at p raised v) (wide_at (raised (place_record v p))) x c (ap (λ (o : PlaceRecord P). o.lifted) (place_record_after p v inside (raised (place_record v p)))))

    -- the owner may try to collect
    pub collect_step : (c : List (ℕ × Slot P D)) → Allows (IsHandoff does places) slots id (v, c) p (λ n. either (n == 3) 0 n) (collecting does (step slots p 3 0 none) (v, c))
    collect_step c = subst (λ i. Allows (IsHandoff does places) slots i (v, c) p (λ n. either (n == 3) 0 n) (collecting does (step slots p 3 0 none) (v, c))) (sym first) (owner_collects does places slots p low v wide c)

    -- the owner may put back the slot after it collected
    pub lower_step : (c : List (ℕ × Slot P D)) (m : Party P D) → m ≡ (at p taken v, (p, Nothing) ∷ c)
        → Allows (IsHandoff does places) slots id m p (λ n. n) (puts_down lowered (step slots p 0 0 none) m)
    lower_step c m is = subst (λ (y : ℕ × Party P D). Allows (IsHandoff does places) slots y.0 y.1 p (λ n. n) (puts_down lowered (step slots p 0 0 none) y.1)) (λ i. (sym first i, sym is i))
        (owner_lowers does places slots p low (at p taken v) (wide_at (taken (place_record v p))) c (ap (λ (o : PlaceRecord P). o.lifted) (place_record_after p v inside (taken (place_record v p)))))

  module _ (hand : v.is_hand ≡ true) where
    -- the hand may put back the slot after it claimed
    pub set_down_step : (x : P) (c : List (ℕ × Slot P D)) (m : Party P D) → m ≡ (at p (claimed x) v, (p, Nothing) ∷ c)
        → Allows (IsHandoff does places) slots id m p (λ n. n) (puts_down set_down (step slots p 0 0 none) m)
    set_down_step x c m is = subst (λ (y : Party P D). Allows (IsHandoff does places) slots id y p (λ n. n) (puts_down set_down (step slots p 0 0 none) y)) (sym is)
        (hand_sets_down does places slots p low (at p (claimed x) v) (wide_at (claimed x (place_record v p))) id hand x c (ap (λ (o : PlaceRecord P). o.held) (place_record_after p v inside (claimed x (place_record v p)))))

    -- the hand may give back the answer that it put into the slot
    pub give_back_step : (x : P) (d : D) (c : List (ℕ × Slot P D)) (m : Party P D) → (place_record v p).held ≡ Some x → does x d → m ≡ (at p picked_up v, (p, Answer d) ∷ c)
        → Allows (IsHandoff does places) slots id m p (λ _. 3) (λ _. puts_down returned (step slots p 3 0 none) m 3)
    give_back_step x d c m holds ok is = subst (λ (y : Party P D). Allows (IsHandoff does places) slots id y p (λ _. 3) (λ _. puts_down returned (step slots p 3 0 none) y 3)) (sym is)
        (hand_gives_back does places slots p low (at p picked_up v) (wide_at (picked_up (place_record v p))) id hand x d c (ap (λ (o : PlaceRecord P). o.held) (place_record_after p v inside (picked_up (place_record v p))) ∙ holds) ok)

-- what is in the slot that was taken last
abbrev front : {P D : Type 0} → List (ℕ × Slot P D) → Slot P D
front [] = Nothing
front (x ∷ xs) = x.1

-- the value that the seat has is the one that it took
pub took : {P D V : Type 0} (p : ℕ) (w : V) (x y : Slot P D) (c : List (ℕ × Slot P D)) (m : Me (Slot P D) V) → m ≡ (w, (p, x) ∷ c) → m.1 ≡ (p, y) ∷ rest m.1 → x ≡ y
took {P} {D} {V} p w x y c m is e =
    let first : List (ℕ × Slot P D) → Slot P D = λ l. front l in
    sym (ap (λ (z : Me (Slot P D) V). first z.1) is) ∙ ap first e

module _ {P D : Type 0} (p : ℕ) (w : PartyRecord P) (x y : Slot P D) (c : List (ℕ × Slot P D)) (m m' : Party P D) where
  -- after a plain read and write of the slot that the seat took last
  pub swapped : m ≡ (w, (p, x) ∷ c) → m' ≡ (m.0, (p, y) ∷ rest m.1) → m' ≡ (w, (p, y) ∷ c)
  swapped is e = e ∙ ap (λ (z : Party P D). (z.0, (p, y) ∷ rest z.1)) is

module _ {P D : Type 0} (p : ℕ) (v : PartyRecord P) (low : p < length v.by_place) (c : List (ℕ × Slot P D)) (m m' : Party P D) where
  -- after a step that gives the slot back
  pub put : (f h : PlaceRecord P → PlaceRecord P) (x : Slot P D) → m ≡ (at p f v, (p, x) ∷ c) → m' ≡ (at p h m.0, rest m.1) → m' ≡ (at p (λ s. h (f s)) v, c)
  put f h x is e = e ∙ ap (λ (z : Party P D). (at p h z.0, rest z.1)) is ∙ ap (λ (w : PartyRecord P). (w, c)) (twice p v low f h)

  -- the owner after it offered the piece that it put into the slot
  pub offered_after : (slots : ℕ) (x : P) → m ≡ (at p raised v, (p, Piece x) ∷ c) → offering (step slots p 1 0 none) m 1 m' → m' ≡ (at p (offered x) v, c)
  offered_after slots x is e = put raised (offered x) (Piece x) is
      (e x (ap (λ (z : Party P D). z.1) is ∙ ap (λ (l : List (ℕ × Slot P D)). (p, Piece x) ∷ l) (sym (ap (λ (z : Party P D). rest z.1) is))))

-- a seat after a call that changed its view at one place
pub record Sits {P D : Type 0} (v w : PartyRecord P) (m : Party P D) : Type 0 where
  pub carries : m.1 ≡ []
  pub knows : m.0 ≡ w
  pub wide : length m.0.by_place ≡ length v.by_place
  pub hand : m.0.is_hand ≡ v.is_hand
  pub lifted : ((q : ℕ) → (place_record v q).lifted ≡ false) → (q : ℕ) → (place_record m.0 q).lifted ≡ false
  pub out : ((q : ℕ) → (place_record v q).out ≡ false) → (q : ℕ) → (place_record m.0 q).out ≡ false

module _ {P D : Type 0} (p : ℕ) (v : PartyRecord P) (low : p < length v.by_place) where
  -- only an owner's call may leave `lifted` as it is, and only a hand's `out`
  pub sits : (f : PlaceRecord P → PlaceRecord P) (c : List (ℕ × Slot P D)) (m : Party P D) → m ≡ (at p f v, c) → c ≡ [] → (((place_record v p).lifted ≡ false) → (f (place_record v p)).lifted ≡ false) → (((place_record v p).out ≡ false) → (f (place_record v p)).out ≡ false) → Sits v (at p f v) m
  sits f c m is none_out lift out = record {
    carries = ap (λ (z : Party P D). z.1) is ∙ none_out;
    knows = ap (λ (z : Party P D). z.0) is;
    wide = ap (λ (z : Party P D). length z.0.by_place) is ∙ length-set v.by_place p (f (place_record v p));
    hand = ap (λ (z : Party P D). z.0.is_hand) is;
    lifted = λ all q. ap (λ (z : Party P D). (place_record z.0 q).lifted) is ∙ rests_at p v low (λ (s : PlaceRecord P). s.lifted) f all (lift (all p)) q;
    out = λ all q. ap (λ (z : Party P D). (place_record z.0 q).out) is ∙ rests_at p v low (λ (s : PlaceRecord P). s.out) f all (out (all p)) q;
  }

-- the slot that the seat took last is in front
pub fronted : {P D : Type 0} (p : ℕ) (w : PartyRecord P) (x : Slot P D) (c : List (ℕ × Slot P D)) (m : Party P D) → m ≡ (w, (p, x) ∷ c) → m.1 ≡ (p, x) ∷ rest m.1
fronted p w x c m is = ap (λ (z : Party _ _). z.1) is ∙ ap (λ (l : List (ℕ × Slot _ _)). (p, x) ∷ l) (sym (ap (λ (z : Party _ _). rest z.1) is))

-- the piece in a slot
abbrev piece_in : {P D : Type 0} → P → Slot P D → P
piece_in z Nothing = z
piece_in z (Piece x) = x
piece_in z (Answer d) = z

-- the answer in a slot
abbrev done_in : {P D : Type 0} → D → Slot P D → D
done_in z Nothing = z
done_in z (Piece x) = z
done_in z (Answer d) = d

-- a slot has one piece
pub one_piece : {P D : Type 0} (x y : P) (s : Slot P D) → Piece x ≡ s → s ≡ Piece y → x ≡ y
one_piece x y s a b = ap (piece_in x) (a ∙ b)

-- a slot has one answer
pub one_done : {P D : Type 0} (x y : D) (s : Slot P D) → Answer x ≡ s → s ≡ Answer y → x ≡ y
one_done x y s a b = ap (done_in x) (a ∙ b)
