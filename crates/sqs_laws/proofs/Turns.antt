-- A FIFO queue gives the messages of a group in the order in which they came, all that may be given, and none of a group of which
-- one is in flight.
use Rattle.sqs_laws.proofs.Terms.{All-cons, All-nil, all_above, and_parts, available_at, Climbs, Fifo, firsts, In, is_delayed, is_in_flight, is_open, is_visible, kept_when, Kind, list_any, Message, of_all, open_from, or_parts, Place, same_group, same_text_decides, Standard}
use Rattle.std.specs.Prelude.{All, Bool, List, [], cond, false, filter, not, suc, take, true, zero, ℕ, ◌&&◌, ◌+◌, ◌++◌, ◌<◌, ◌∷◌, ◌≡◌, ◌≤◌, ◌⊎◌}
use Rattle.std.proofs.Common.{ap, arith, inl, inr, refl, subst, sym, true≢false, ◌∙◌}
use Rattle.sqs_message.specs.declared.message.Place.TheVariants as places
use Rattle.sqs_model.proofs.Grouped.{Leaders, climbs_open, firsts_led, groups}
use Rattle.sqs_laws.specs.Laws.{is_fifo}

-- groups are alike or apart
pub same_as : (x y z : Message) → same_group x y ≡ true → same_group x z ≡ true → same_group y z ≡ true
same_as x y z a b =
    let one : y.group ≡ z.group = sym ((same_text_decides x.group y.group).0 a) ∙ (same_text_decides x.group z.group).0 b in
    (same_text_decides y.group z.group).1 one

same_back : (x y : Message) → same_group x y ≡ true → same_group y x ≡ true
same_back x y a = (same_text_decides y.group x.group).1 (sym ((same_text_decides x.group y.group).0 a))

-- tests of lists
both_false : (a b : Bool) → (a ≡ true → b ≡ false) → (a && b) ≡ false
both_false true b h = h refl
both_false false b h = refl

none_any : (p : Message → Bool) (xs : List Message) (z : Message) → list_any p xs ≡ false → In xs z → p z ≡ false
none_any p [] z e i = absurd i
none_any p (x ∷ xs) z e (inl is) = subst (λ y. p y ≡ false) is (or_parts (p x) (list_any p xs) e).0
none_any p (x ∷ xs) z e (inr i) = none_any p xs z (or_parts (p x) (list_any p xs) e).1 i

any_none : (p : Message → Bool) (xs : List Message) → ((z : Message) → In xs z → p z ≡ false) → list_any p xs ≡ false
any_none p [] h = refl
any_none p (x ∷ xs) h = rw (h x (inl refl)) (any_none p xs (λ z i. h z (inr i)))

is_not : (b : Bool) → not b ≡ true → b ≡ false
is_not true e = cc
is_not false e = refl

pub kept_by : (P : Message → Type 0) (b : Bool) (m : Message) (ms : List Message) → (b ≡ true → P m) → All P ms → All P (kept_when b m ms)
kept_by P true m ms v h = All-cons P m ms (v refl) h
kept_by P false m ms v h = h

into_kept : (b : Bool) (x m : Message) (ms : List Message) → In ms m → In (kept_when b x ms) m
into_kept true x m ms i = inr i
into_kept false x m ms i = i

-- whether a FIFO queue of these messages may give one of them: it is visible, none of its group is in flight, and none of its
-- group that came before it is delayed
record MayGo (all : List Message) (m : Message) : Type 0 where
  pub seen : is_visible m ≡ true
  pub alone : (z : Message) → In all z → same_group m z ≡ true → is_in_flight z ≡ false
  pub ready : (z : Message) → In all z → same_group m z ≡ true → z.number < m.number → is_delayed z ≡ false

-- one that is not there any more, behind numbers that go up
not_behind : (n : ℕ) (ms : List Message) (z : Message) → Climbs n ms → In ms z → z.number < n → ⊥
not_behind n ms z c i l = let low : n ≤ z.number = of_all (λ m. n ≤ m.number) ms z (all_above n ms c) i in absurd (omega (arith, low, l))

module _ (all : List Message) where
  open_may : (earlier : List Message) (a : ℕ) (ms : List Message) → ((z : Message) → In all z → In earlier z ⊎ In ms z) → Climbs a ms → All (MayGo all) (open_from all earlier ms)
  open_may earlier a [] h c = All-nil (MayGo all)
  open_may earlier a (m ∷ ms) h c =
      let flies : Message → Bool = λ z. same_group m z && is_in_flight z in
      let waits : Message → Bool = λ z. same_group m z && is_delayed z in
      let before : (z : Message) → In all z → z.number < m.number → In earlier z =
      λ z i l. elim (h z i) as (λ _. In earlier z) [ inl k ↦ k | inr k ↦ absurd (not_behind m.number (m ∷ ms) z (omega arith, c.1) k l) ] in
      kept_by (MayGo all) (is_open all earlier m) m (open_from all (m ∷ earlier) ms)
      (λ e.
      let parts = and_parts (is_visible m && not (list_any flies all)) (not (list_any waits earlier)) e in
      let first = and_parts (is_visible m) (not (list_any flies all)) parts.0 in
      record {
        seen = first.0;
        alone = λ z i t. sym (ap (λ b. b && is_in_flight z) t) ∙ none_any flies all z (is_not (list_any flies all) first.1) i;
        ready = λ z i t l. sym (ap (λ b. b && is_delayed z) t) ∙ none_any waits earlier z (is_not (list_any waits earlier) parts.1) (before z i l);
      })
      (open_may (m ∷ earlier) (m.number + 1) ms
      (λ z i. elim (h z i) as (λ _. In (m ∷ earlier) z ⊎ In ms z) [ inl k ↦ inl (inr k) | inr k ↦ elim k as (λ _. In (m ∷ earlier) z ⊎ In ms z) [ inl is ↦ inl (inl is) | inr j ↦ inr j ] ]) c.1)

  opens : (earlier : List Message) (m : Message) → MayGo all m → ((z : Message) → In earlier z → In all z × (z.number < m.number)) → is_open all earlier m ≡ true
  opens earlier m g h =
      let flies : Message → Bool = λ z. same_group m z && is_in_flight z in
      let waits : Message → Bool = λ z. same_group m z && is_delayed z in
      let a : list_any flies all ≡ false = any_none flies all (λ z i. both_false (same_group m z) (is_in_flight z) (g.alone z i)) in
      let b : list_any waits earlier ≡ false = any_none waits earlier (λ z i. both_false (same_group m z) (is_delayed z) (λ t. g.ready z (h z i).0 t (h z i).1)) in
      rw (g.seen, a, b) refl

  may_open : (earlier : List Message) (a : ℕ) (ms : List Message) (m : Message) → MayGo all m → ((z : Message) → In earlier z → In all z × (z.number < a)) → ((z : Message) → In ms z → In all z) → Climbs a ms → In ms m → In (open_from all earlier ms) m
  may_open earlier a [] m g h k c i = absurd i
  may_open earlier a (x ∷ ms) m g h k c (inl is) =
      let own : is_open all earlier x ≡ true = opens earlier x (subst (MayGo all) (sym is) g) (λ z i. ((h z i).0, let l : z.number < a = (h z i).1 in omega (arith, l, c.0))) in
      subst (λ b. In (kept_when b x (open_from all (x ∷ earlier) ms)) m) (sym own) (inl is)
  may_open earlier a (x ∷ ms) m g h k c (inr i) =
      into_kept (is_open all earlier x) x m (open_from all (x ∷ earlier) ms)
      (may_open (x ∷ earlier) (x.number + 1) ms m g
      (λ z j. elim j as (λ _. In all z × (z.number < x.number + 1)) [
        | inl e ↦ (subst (In all) e (k x (inl refl)), subst (λ (y : Message). y.number < x.number + 1) e (omega arith))
        | inr e ↦ ((h z e).0, let l : z.number < a = (h z e).1 in omega (arith, l, c.0))
      ])
      (λ z j. k z (inr j)) c.1 i)

  -- those of its group that came before one that may be given may be given
  seen_by : (p : Place) → elim p as (λ _. Bool) [ places.Delayed ↦ true | places.Visible ↦ false | places.InFlight ↦ false ] ≡ false → elim p as (λ _. Bool) [ places.Delayed ↦ false | places.Visible ↦ false | places.InFlight ↦ true ] ≡ false → elim p as (λ _. Bool) [ places.Delayed ↦ false | places.Visible ↦ true | places.InFlight ↦ false ] ≡ true
  seen_by places.Delayed a b = cc
  seen_by places.Visible a b = refl
  seen_by places.InFlight a b = cc

  may_before : (m z : Message) → MayGo all m → In all z → same_group m z ≡ true → z.number < m.number → MayGo all z
  may_before m z g i t l =
      record {
        seen = seen_by z.place (g.ready z i t l) (g.alone z i t);
        alone = λ y j s. g.alone y j (same_as z m y (same_back m z t) s);
        ready = λ y j s k. g.ready y j (same_as z m y (same_back m z t) s) (omega (arith, k, l));
      }

  -- whether the turn of a message has come when some were given: all of its group that came before it were, none that came
  -- after it was, and none of it is in flight otherwise
  pub record IsTurn (done : List Message) (m : Message) : Type 0 where
    pub alone : (z : Message) → In all z → same_group m z ≡ true → is_in_flight z ≡ false
    pub before : (z : Message) → In all z → same_group m z ≡ true → z.number < m.number → In done z
    pub after : (z : Message) → In done z → same_group m z ≡ true → z.number < m.number

  abbrev pub EachTurn : List Message → List Message → Type 0
  EachTurn done [] = Unit {0}
  EachTurn done (m ∷ ms) = IsTurn done m × EachTurn (m ∷ done) ms

  turns_take : (n : ℕ) (done ms : List Message) → EachTurn done ms → EachTurn done (take n ms)
  turns_take zero done ms h = tt
  turns_take (suc n) done [] h = tt
  turns_take (suc n) done (m ∷ ms) h = (h.0, turns_take n (m ∷ done) ms h.1)

  module _ (sorted : Climbs 0 all) where
    abbrev opened : List Message
    opened = open_from all [] all

    may : All (MayGo all) opened
    may = open_may [] 0 all (λ z i. inr i) sorted

    is_opened : (z : Message) → MayGo all z → In all z → In opened z
    is_opened z g i = may_open [] 0 all z g (λ y j. absurd j) (λ y j. j) sorted i

    -- the messages of one group, and then those of others
    run : (l : Message) (done ms rest : List Message) (a : ℕ)
        → ((z : Message) → In ms z → In opened z) → Climbs a ms
        → ((z : Message) → In opened z → same_group l z ≡ true → In done z ⊎ In ms z)
        → ((z : Message) → In done z → same_group l z ≡ true → z.number < a)
        → ((d : List Message) → ((z : Message) → In d z → In done z ⊎ (same_group l z ≡ true)) → EachTurn d rest)
        → EachTurn done (filter (same_group l) ms ++ rest)
    run l done [] rest a k c h o f = f done (λ z i. inl i)
    run l done (m ∷ ms) rest a k c h o f =
        elim (same_group l m) as (λ b. same_group l m ≡ b → EachTurn done (cond b (m ∷ filter (same_group l) ms) (filter (same_group l) ms) ++ rest)) [
          | true ↦ λ t.
              let g : MayGo all m = of_all (MayGo all) opened m may (k m (inl refl)) in (
                record {
                  alone = g.alone;
                  before = λ z i s b.
                      elim (h z (is_opened z (may_before m z g i s b) i) (same_as m l z (same_back l m t) s)) as (λ _. In done z) [
                        | inl j ↦ j
                        | inr j ↦ absurd (not_behind m.number (m ∷ ms) z (omega arith, c.1) j b)
                      ];
                  after = λ z i s. let low : z.number < a = o z i (same_as m l z (same_back l m t) s) in omega (arith, low, c.0);
                },
                run l (m ∷ done) ms rest (m.number + 1) (λ z i. k z (inr i)) c.1
                    (λ z i s. elim (h z i s) as (λ _. In (m ∷ done) z ⊎ In ms z) [ inl j ↦ inl (inr j) | inr j ↦ elim j as (λ _. In (m ∷ done) z ⊎ In ms z) [ inl e ↦ inl (inl e) | inr e ↦ inr e ] ])
                    (λ z i s. elim i as (λ _. z.number < m.number + 1) [ inl e ↦ subst (λ (y : Message). y.number < m.number + 1) e (omega arith) | inr e ↦ let low : z.number < a = o z e s in omega (arith, low, c.0) ])
                    (λ d x. f d (λ z i. elim (x z i) as (λ _. In done z ⊎ (same_group l z ≡ true)) [ inl j ↦ elim j as (λ _. In done z ⊎ (same_group l z ≡ true)) [ inl e ↦ inr (subst (λ y. same_group l y ≡ true) e t) | inr e ↦ inl e ] | inr j ↦ inr j ])),
              )
          | false ↦ λ t.
              run l done ms rest (m.number + 1) (λ z i. k z (inr i)) c.1
              (λ z i s. elim (h z i s) as (λ _. In done z ⊎ In ms z) [ inl j ↦ inl j | inr j ↦ elim j as (λ _. In done z ⊎ In ms z) [ inl e ↦ absurd (true≢false (sym s ∙ subst (λ y. same_group l y ≡ false) e t)) | inr e ↦ inr e ] ])
              (λ z i s. let low : z.number < a = o z i s in omega (arith, low, c.0)) f
        ] refl

    apart_then : (k l z : Message) → same_group k l ≡ false → same_group l z ≡ true → same_group k z ≡ false
    apart_then k l z a b =
        elim (same_group k z) as (λ x. same_group k z ≡ x → x ≡ false) [
          | true ↦ λ e. absurd (true≢false (sym (same_back l k (same_as z l k (same_back l z b) (same_back k z e))) ∙ a))
          | false ↦ λ e. refl
        ] refl

    groups_turn : (ls done : List Message) → Leaders ls → ((z l : Message) → In done z → In ls l → same_group l z ≡ false) → EachTurn done (groups opened ls)
    groups_turn [] done h o = tt
    groups_turn (l ∷ ls) done h o =
        run l done opened (groups opened ls) 0 (λ z i. i) (climbs_open all [] 0 all sorted) (λ z i s. inr i)
        (λ z i s. absurd (true≢false (sym s ∙ o z l i (inl refl))))
        (λ d x. groups_turn ls d h.1
        (λ z k i j. elim (x z i) as (λ _. same_group k z ≡ false) [
          | inl e ↦ o z k e (inr j)
          | inr e ↦ apart_then k l z (of_all (λ y. same_group y l ≡ false) ls k h.0 j) e
        ]))

-- what a FIFO queue gives, each in its turn
pub available_turns : (k : Kind) (set n : ℕ) (all : List Message) → is_fifo k ≡ true → Climbs 0 all → EachTurn all [] (take n (available_at k set all))
available_turns (Standard hosts sampled) set n all e c = cc
available_turns (Fifo content scope) set n all e c =
    let ms : List Message = open_from all [] all in
    turns_take all n [] (groups ms (firsts [] ms)) (groups_turn all c (firsts [] ms) [] (firsts_led [] ms).leaders (λ z l i j. absurd i))
