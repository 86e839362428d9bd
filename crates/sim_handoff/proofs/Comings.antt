-- Hands that come and go, the flag, and the first state.
use Rattle.std.proofs.Common.{◌≡◌, ◌≢◌, ℕ, zero, suc, ◌+◌, ◌<◌, Bool, true, false, cond, List, [], ◌∷◌, ◌++◌, length, set, map, replicate, get_or, sym, refl, ap, subst, ◌∙◌, ⊎_elim, arith, None, Some, length-set, get_or-set_same, get_or-set_other}
use mathlib.Core.Option.{Option as Maybe, none, some, some-injective, some-ne-none}
use mathlib.Core.Logic.{dite}
use native.Mathlib.Decide.{ℕ_discrete}
use lib.ListN.{get_elem?}
use Rattle.std.proofs.lemmas.List.{map-set, set-get_or, map-append, get_or-replicate, length-replicate, length-map}
use Rattle.std.proofs.Math.Seq.{map-set_same}
use Rattle.atomic_table.specs.Table.{keeps, step, Allows, Splits, Joins, opening}
use Rattle.atomic_table.proofs.Lists.{at_set, at_map, at_longer, at_snoc, set_here, set_else}
use Rattle.sim_handoff.specs.declared.records.Slot.{Slot}
use Rattle.sim_handoff.specs.declared.records.Slot.TheVariants.{Nothing}
use Rattle.sim_handoff.specs.declared.records.PlaceRecord.{PlaceRecord}
use Rattle.sim_handoff.specs.declared.records.PartyRecord.{PartyRecord}
use Rattle.sim_handoff.proofs.Places.{owned_empty}
use Rattle.sim_handoff.specs.Place.{blank, last_of, place_record, HoldsNothing, column, counted, total, Fits, Stands, IsHandoff}
use Rattle.sim_handoff.specs.Steps.{stopped, stopping, looking, opening_record, with_hand, new_hand, without_hand, spent_record}
use Rattle.sim_handoff.proofs.Lists.{within, read, there, one}
use Rattle.sim_handoff.proofs.Moves.{total_same, not_owner, still}

-- a list of one has that one
alone : {A : Type 0} (a b : A) (j : ℕ) → get_elem? (a ∷ []) j ≡ some b → (j ≡ 0) × (a ≡ b)
alone a b zero e = (refl, some-injective a b e)
alone a b (suc j) e = absurd (some-ne-none b (sym e))

-- a bool that is not true is false
not_true : (b : Bool) → ¬ (b ≡ true) → b ≡ false
not_true true n = absurd (n refl)
not_true false n = refl

-- where the word of the flag is not 0 the flag is set
cond_one : (b : Bool) (n : ℕ) → n ≡ cond b 1 0 → n ≢ 0 → b ≡ true
cond_one true n e z = refl
cond_one false n e z = absurd (z e)

module _ {P : Type 0} where
  -- a place with a last offer was offered something
  some_offer : (l : List P) (x : P) → last_of l ≡ Some x → 0 < length l
  some_offer [] x e = absurd (cc)
  some_offer (y ∷ ys) x e = omega arith

  -- one more party counts as what it is
  total_snoc : (l : List (PartyRecord P)) (v : PartyRecord P) → total (l ++ v ∷ []) ≡ total l + counted v
  total_snoc [] v = omega arith
  total_snoc (x ∷ xs) v = let h = total_snoc xs v in omega arith

  -- where a hand gives way to a party that is none, one hand less is out
  total_less : (l : List (PartyRecord P)) (i : ℕ) (v w : PartyRecord P) → get_elem? l i ≡ some v → counted v ≡ 1 → counted w ≡ 0 → total l ≡ suc (total (set l i w))
  total_less [] i v w e once nil = absurd (some-ne-none v (sym e))
  total_less (x ∷ xs) zero v w e once nil = let a : counted x ≡ counted v = ap (λ (y : PartyRecord P). counted y) (some-injective x v e) in omega arith
  total_less (x ∷ xs) (suc i) v w e once nil = let h = total_less xs i v w e once nil in omega arith

  -- where no hand is out no party is a hand
  pub none_counted : (l : List (PartyRecord P)) (i : ℕ) (v : PartyRecord P) → total l ≡ 0 → get_elem? l i ≡ some v → counted v ≡ 0
  none_counted [] i v z e = absurd (some-ne-none v (sym e))
  none_counted (x ∷ xs) zero v z e = let a : counted x ≡ counted v = ap (λ (y : PartyRecord P). counted y) (some-injective x v e) in omega arith
  none_counted (x ∷ xs) (suc i) v z e = none_counted xs i v (omega arith) e

  -- of a blank list each place is blank
  pub blanks : (l : List (PlaceRecord P)) (q : ℕ) → get_or (map (λ _. blank {P = P}) l) q blank ≡ blank {P = P}
  blanks [] q = refl
  blanks (x ∷ xs) zero = refl
  blanks (x ∷ xs) (suc q) = blanks xs q

module _ {P D : Type 0} (does : P → D → Type 0) (n : ℕ) (h : Maybe (Slot P D)) (col : List (PlaceRecord P)) (S : Stands does n h col) where
  -- a party that knows nothing fits
  blank_fits : (id : ℕ) → Fits n S.holder (length S.owner.offers) id (blank {P = P})
  blank_fits id = record { held = λ y g. absurd (cc); out = λ g. absurd (cc); known = omega arith; seen = λ g. let t = S.offered g in some_offer S.owner.offers t.0 t.1 }

  -- a new party, which knows nothing, keeps what stands of a place
  pub comes : Stands does n h (col ++ blank ∷ [])
  comes = record {
    owner = S.owner;
    holder = S.holder;
    at_owner = at_longer col (blank ∷ []) 0 S.owner S.at_owner;
    owned = S.owned;
    claimed = λ e. let c = S.claimed e in (c.0, c.1, at_longer col (blank ∷ []) S.holder c.0 c.2, c.3, c.4, c.5);
    all = λ j s e. ⊎_elim (λ (o : get_elem? col j ≡ some s). S.all j s o) (λ (o : blank ≡ s). subst (λ (t : PlaceRecord P). Fits n S.holder (length S.owner.offers) j t) o (blank_fits j)) (at_snoc col blank s j e);
  }

  -- a party that holds nothing may forget what it knows of a place
  pub leaves : (id : ℕ) (s : PlaceRecord P) → id ≢ 0 → get_elem? col id ≡ some s → s.held ≡ None → Stands does n h (set col id blank)
  leaves id s nz at_id free = record {
    owner = S.owner;
    holder = S.holder;
    at_owner = set_else col id 0 blank (λ g. nz (sym g)) ∙ S.at_owner;
    owned = S.owned;
    claimed = λ e. let c = S.claimed e in
        let other : S.holder ≢ id = λ g. let same : c.0 ≡ s = one col id c.0 s (subst (λ k. get_elem? col k ≡ some c.0) g c.2) at_id in let f : None ≡ Some c.1 = sym free ∙ ap (λ (w : PlaceRecord P). w.held) (sym same) ∙ c.3 in cc in
        (c.0, c.1, set_else col id S.holder blank other ∙ c.2, c.3, c.4, c.5);
    all = λ j t e. ⊎_elim (λ (m : (j ≡ id) × (blank ≡ t)). subst (λ (w : PlaceRecord P). Fits n S.holder (length S.owner.offers) j w) m.1 (blank_fits j)) (λ (m : (j ≢ id) × (get_elem? col j ≡ some t)). S.all j t m.1) (at_set col id j blank t e);
  }

module _ {P D : Type 0} (does : P → D → Type 0) (places slots : ℕ) where
  -- a change of a party that leaves its places leaves what is known of each
  column_same : (q id : ℕ) (l : List (PartyRecord P)) (v w : PartyRecord P) → w.by_place ≡ v.by_place → get_elem? l id ≡ some v → column q (set l id w) ≡ column q l
  column_same q id l v w e at_id = map-set_same (λ (y : PartyRecord P). place_record y q) l id w v (ap (λ ss. get_or ss q blank) e ∙ ap (λ (y : PartyRecord P). place_record y q) (sym (read l id v v at_id)))

  -- the owner may set the flag
  pub stops : (v : PartyRecord P) (c : List (ℕ × Slot P D)) → Allows (IsHandoff does places) slots 0 (v, c) places (λ _. 1) (λ _. stopping (step slots places 1 0 none) (v, c) 1)
  stops v c s H _ at_id _ =
      let nw = H.words in let same : v ≡ H.head = one s.views 0 v H.head at_id H.at_head in let w : PartyRecord P = stopped v in (
        w,
        keeps,
        tt,
        record {
          head = w;
          at_head = set_here s.views 0 w (within s.views 0 v at_id);
          no_hand = ap (λ (y : PartyRecord P). y.is_hand) same ∙ H.no_hand;
          words = length-set s.words places 1 ∙ H.words;
          homes = H.homes;
          stands = λ q low. subst (λ (y : ℕ × List (PlaceRecord P)). Stands does y.0 (get_or s.homes q none) y.1)
              (λ i. (sym (get_or-set_other s.words places q 1 0 (λ g. omega arith)) i, sym (column_same q 0 s.views v w refl at_id) i)) (H.stands q low);
          flag = get_or-set_same s.words places 1 0 (omega arith);
          saw = λ j y e st. refl;
          hands = total_same s.views 0 v w at_id refl ∙ H.hands ∙ ap (λ (y : PartyRecord P). y.hands) (sym same);
          spent = λ j y e nz no_hand. ⊎_elim (λ (m : (j ≡ 0) × (w ≡ y)). absurd (nz m.0)) (λ (m : (j ≢ 0) × (get_elem? s.views j ≡ some y)). H.spent j y m.1 nz no_hand) (at_set s.views 0 j w y e);
        },
        refl,
      )

  -- a hand may look at the flag
  pub looks : (id : ℕ) (v : PartyRecord P) (c : List (ℕ × Slot P D)) → v.is_hand ≡ true → Allows (IsHandoff does places) slots id (v, c) places (λ n. n) (looking (step slots places 0 0 none) (v, c))
  looks id v c hand s H _ at_id _ =
      let n : ℕ = get_or s.words places 0 in let nz = not_owner does places s H id v at_id hand in let w : PartyRecord P = stopped v in
      dite (ℕ_discrete n 0)
      (λ z. (v, keeps, tt, still does places s H places id v at_id, ((λ g. absurd (g z)), (λ _. (refl, not_true v.stopped (λ t. let f : n ≡ 1 = H.flag ∙ ap (λ b. cond b 1 0) (H.saw id v at_id t) in absurd (omega arith)))))))
      (λ g. let set_flag : H.head.stopped ≡ true = cond_one H.head.stopped n H.flag g in (
        w,
        keeps,
        tt,
        record {
          head = H.head;
          at_head = set_else s.views id 0 w (λ q. nz (sym q)) ∙ H.at_head;
          no_hand = H.no_hand;
          words = length-set s.words places n ∙ H.words;
          homes = H.homes;
          stands = λ q low. subst (λ (y : List ℕ × List (PlaceRecord P)). Stands does (get_or y.0 q 0) (get_or s.homes q none) y.1)
              (λ i. (sym (set-get_or s.words places 0) i, sym (column_same q id s.views v w refl at_id) i)) (H.stands q low);
          flag = ap (λ ws. get_or ws places 0) (set-get_or s.words places 0) ∙ H.flag;
          saw = λ j y e st. set_flag;
          hands = total_same s.views id v w at_id refl ∙ H.hands;
          spent = λ j y e no_owner no_hand. ⊎_elim (λ (m : (j ≡ id) × (w ≡ y)). let f : true ≡ false = sym hand ∙ ap (λ (z : PartyRecord P). z.is_hand) m.1 ∙ no_hand in absurd (cc)) (λ (m : (j ≢ id) × (get_elem? s.views j ≡ some y)). H.spent j y m.1 no_owner no_hand) (at_set s.views id j w y e);
        },
        ((λ _. refl), (λ z. absurd (g z))),
      ))

  -- the owner may make a hand
  pub splits : (v : PartyRecord P) → Splits {S = Slot P D} (IsHandoff does places) 0 v (with_hand v) (new_hand v)
  splits v s H at_id =
      let same : v ≡ H.head = one s.views 0 v H.head at_id H.at_head in let w : PartyRecord P = with_hand v in let fresh : PartyRecord P = new_hand v in let mid = set s.views 0 w in
      let still_stopped : H.head.stopped ≡ v.stopped = ap (λ (y : PartyRecord P). y.stopped) (sym same) in
      record {
        head = w;
        at_head = at_longer mid (fresh ∷ []) 0 w (set_here s.views 0 w (within s.views 0 v at_id));
        no_hand = ap (λ (y : PartyRecord P). y.is_hand) same ∙ H.no_hand;
        words = H.words;
        homes = H.homes;
        stands = λ q low. let n = get_or s.words q 0 in let h = get_or s.homes q none in
            subst (λ (col : List (PlaceRecord P)). Stands does n h col)
            (sym (map-append (λ (y : PartyRecord P). place_record y q) mid (fresh ∷ []) ∙ ap (λ (l : List (PlaceRecord P)). l ++ place_record fresh q ∷ []) (column_same q 0 s.views v w refl at_id) ∙ ap (λ (t : PlaceRecord P). column q s.views ++ t ∷ []) (blanks v.by_place q)))
            (comes does n h (column q s.views) (H.stands q low));
        flag = H.flag ∙ ap (λ b. cond b 1 0) still_stopped;
        saw = λ j y e st. ⊎_elim
            (λ (o : get_elem? mid j ≡ some y). ⊎_elim (λ (m : (j ≡ 0) × (w ≡ y)). ap (λ (z : PartyRecord P). z.stopped) m.1 ∙ st) (λ (m : (j ≢ 0) × (get_elem? s.views j ≡ some y)). sym still_stopped ∙ H.saw j y m.1 st) (at_set s.views 0 j w y o))
            (λ (o : fresh ≡ y). let f : false ≡ true = ap (λ (z : PartyRecord P). z.stopped) o ∙ st in absurd (cc)) (at_snoc mid fresh y j e);
        hands = let t : total mid ≡ v.hands = total_same s.views 0 v w at_id refl ∙ H.hands ∙ ap (λ (y : PartyRecord P). y.hands) (sym same) in total_snoc mid fresh ∙ ap (λ k. k + 1) t;
        spent = λ j y e nz no_hand. ⊎_elim
            (λ (o : get_elem? mid j ≡ some y). ⊎_elim (λ (m : (j ≡ 0) × (w ≡ y)). absurd (nz m.0)) (λ (m : (j ≢ 0) × (get_elem? s.views j ≡ some y)). H.spent j y m.1 nz no_hand) (at_set s.views 0 j w y o))
            (λ (o : fresh ≡ y). let f : true ≡ false = ap (λ (z : PartyRecord P). z.is_hand) o ∙ no_hand in absurd (cc)) (at_snoc mid fresh y j e);
      }

  -- the owner may take in a hand that holds nothing
  pub joins : (other : ℕ) (v w : PartyRecord P) → w.is_hand ≡ true → ((q : ℕ) → (place_record w q).held ≡ None) → Joins {S = Slot P D} (IsHandoff does places) 0 v other w (without_hand v w) spent_record
  joins other v w hand free s H at_id ne at_other =
      let same : v ≡ H.head = one s.views 0 v H.head at_id H.at_head in let u : PartyRecord P = without_hand v w in let mid = set s.views 0 u in let gone : PartyRecord P = spent_record in
      let there_before : get_elem? s.views other ≡ some w = sym (set_else s.views 0 other u ne) ∙ at_other in
      let still_stopped : H.head.stopped ≡ v.stopped = ap (λ (y : PartyRecord P). y.stopped) (sym same) in
      record {
        head = u;
        at_head = set_else mid other 0 gone (λ g. ne (sym g)) ∙ set_here s.views 0 u (within s.views 0 v at_id);
        no_hand = ap (λ (y : PartyRecord P). y.is_hand) same ∙ H.no_hand;
        words = H.words;
        homes = H.homes;
        stands = λ q low. let n = get_or s.words q 0 in let h = get_or s.homes q none in
            subst (λ (col : List (PlaceRecord P)). Stands does n h col)
            (sym (map-set (λ (y : PartyRecord P). place_record y q) mid other gone ∙ ap (λ (l : List (PlaceRecord P)). set l other blank) (column_same q 0 s.views v u refl at_id)))
            (leaves does n h (column q s.views) (H.stands q low) other (place_record w q) ne (at_map (λ (y : PartyRecord P). place_record y q) s.views other w there_before) (free q));
        flag = H.flag ∙ ap (λ b. cond b 1 0) still_stopped;
        saw = λ j y e st. ⊎_elim
            (λ (m : (j ≡ other) × (gone ≡ y)). let f : false ≡ true = ap (λ (z : PartyRecord P). z.stopped) m.1 ∙ st in absurd (cc))
            (λ (o : (j ≢ other) × (get_elem? mid j ≡ some y)). ⊎_elim (λ (m : (j ≡ 0) × (u ≡ y)). ap (λ (z : PartyRecord P). z.stopped) m.1 ∙ st) (λ (m : (j ≢ 0) × (get_elem? s.views j ≡ some y)). sym still_stopped ∙ H.saw j y m.1 st) (at_set s.views 0 j u y o.1))
            (at_set mid other j gone y e);
        hands = let t : total mid ≡ v.hands = total_same s.views 0 v u at_id refl ∙ H.hands ∙ ap (λ (y : PartyRecord P). y.hands) (sym same) in
            let less : total mid ≡ suc (total (set mid other gone)) = total_less mid other w gone at_other (ap (λ b. cond b 1 0) hand) refl in omega arith;
        spent = λ j y e nz no_hand. ⊎_elim
            (λ (m : (j ≡ other) × (gone ≡ y)). ap (λ (z : PartyRecord P). z.by_place) (sym m.1))
            (λ (o : (j ≢ other) × (get_elem? mid j ≡ some y)). ⊎_elim (λ (m : (j ≡ 0) × (u ≡ y)). absurd (nz m.0)) (λ (m : (j ≢ 0) × (get_elem? s.views j ≡ some y)). H.spent j y m.1 nz no_hand) (at_set s.views 0 j u y o.1))
            (at_set mid other j gone y e);
      }

  -- an empty place that nobody knows anything of
  fresh_place : Stands does 0 (some Nothing) (blank ∷ [])
  fresh_place = record {
    owner = blank;
    holder = 0;
    at_owner = refl;
    owned = owned_empty 0 (some Nothing) blank refl refl (refl, refl) refl;
    claimed = λ g. absurd (omega arith);
    all = λ j t e. subst (λ (w : PlaceRecord P). Fits 0 0 0 j w) (alone blank t j e).1 record { held = λ y g. absurd (cc); out = λ g. absurd (cc); known = omega arith; seen = λ g. absurd (omega arith) };
  }

  -- the first state of a hand-off
  pub starts : (ws : List ℕ) (xs : List (Slot P D)) → ws ≡ replicate (places + 1) 0 → xs ≡ replicate places Nothing → IsHandoff does places (opening ws xs (opening_record places))
  starts ws xs e f =
      let v : PartyRecord P = opening_record places in let empties : List (Slot P D) = replicate places Nothing in
      subst (λ (y : List ℕ × List (Slot P D)). IsHandoff does places (opening y.0 y.1 (opening_record places))) (λ i. (sym e i, sym f i)) record {
        head = v;
        at_head = refl;
        no_hand = refl;
        words = length-replicate (places + 1) 0;
        homes = length-map empties some ∙ length-replicate places Nothing;
        stands = λ q low.
            let n : get_or (replicate (places + 1) 0) q 0 ≡ 0 = get_or-replicate (places + 1) q 0 0 (omega arith) in
            let len : length empties ≡ places = length-replicate places Nothing in
            let h : get_or (map some empties) q none ≡ some Nothing = read (map some empties) q (some Nothing) none (at_map some empties q Nothing (there empties q Nothing (omega arith) ∙ ap some (get_or-replicate places q Nothing Nothing low))) in
            let b : place_record v q ≡ blank = get_or-replicate places q blank blank low in
            subst (λ (y : ℕ × Maybe (Slot P D) × PlaceRecord P). Stands does y.0 y.1 (y.2 ∷ [])) (λ i. (sym n i, sym h i, sym b i)) fresh_place;
        flag = get_or-replicate (places + 1) places 0 0 (omega arith);
        saw = λ j y g st. let t : v ≡ y = (alone v y j g).1 in ap (λ (z : PartyRecord P). z.stopped) t ∙ st;
        hands = refl;
        spent = λ j y g nz no_hand. absurd (nz (alone v y j g).0);
      }

  -- `stops` at the flag's word by another name
  pub stops_at : (w id : ℕ) (v : PartyRecord P) (c : List (ℕ × Slot P D)) → w ≡ places → id ≡ 0 → Allows (IsHandoff does places) slots id (v, c) w (λ _. 1) (λ _. stopping (step slots w 1 0 none) (v, c) 1)
  stops_at w id v c e first = subst (λ (y : ℕ × ℕ). Allows (IsHandoff does places) slots y.1 (v, c) y.0 (λ _. 1) (λ _. stopping (step slots y.0 1 0 none) (v, c) 1)) (λ i. (sym e i, sym first i)) (stops v c)

  -- `looks` at the flag's word by another name
  pub looks_at : (w id : ℕ) (v : PartyRecord P) (c : List (ℕ × Slot P D)) → w ≡ places → v.is_hand ≡ true → Allows (IsHandoff does places) slots id (v, c) w (λ n. n) (looking (step slots w 0 0 none) (v, c))
  looks_at w id v c e hand = subst (λ y. Allows (IsHandoff does places) slots id (v, c) y (λ n. n) (looking (step slots y 0 0 none) (v, c))) (sym e) (looks id v c hand)

  -- `splits` at the owner's number by another name
  pub splits_at : (id : ℕ) (v : PartyRecord P) → id ≡ 0 → Splits {S = Slot P D} (IsHandoff does places) id v (with_hand v) (new_hand v)
  splits_at id v first = subst (λ y. Splits {S = Slot P D} (IsHandoff does places) y v (with_hand v) (new_hand v)) (sym first) (splits v)

  -- `joins` at the owner's number by another name
  pub joins_at : (id other : ℕ) (v w : PartyRecord P) → id ≡ 0 → w.is_hand ≡ true → ((q : ℕ) → (place_record w q).held ≡ None) → Joins {S = Slot P D} (IsHandoff does places) id v other w (without_hand v w) spent_record
  joins_at id other v w first hand free = subst (λ y. Joins {S = Slot P D} (IsHandoff does places) y v other w (without_hand v w) spent_record) (sym first) (joins other v w hand free)

-- a new hand has no slot
pub none_out : {P : Type 0} (v : PartyRecord P) (q : ℕ) → (place_record (new_hand v) q).out ≡ false
none_out v q = ap (λ (s : PlaceRecord _). s.out) (blanks v.by_place q)

-- a new hand holds nothing
pub none_held : {P : Type 0} (v : PartyRecord P) → HoldsNothing (new_hand v)
none_held v q = ap (λ (s : PlaceRecord _). s.held) (blanks v.by_place q)
