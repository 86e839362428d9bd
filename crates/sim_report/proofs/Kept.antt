-- Keys in an order, of which some are kept by other keys: what a key more or less does to those.
use Rattle.std.proofs.Common.{Ordering, Less, Equal, Greater, ◌≡◌, ◌||◌, Bool, true, false, cond, Option, Some, None, All, List, [], ◌∷◌, filter_map, refl, sym, ap, ◌∙◌}
use Rattle.std.specs.Prelude.{⊤}
use Rattle.std.specs.BTreeMap.{is_at}
use Rattle.std.specs.BTreeSet.{insert_key}
use Rattle.std.specs.Cmp.{IsTotalOrder}
use Rattle.std.specs.List.{cons_option, list_any}
use Rattle.std.specs.Ordering.{is_eq, match_ordering, ordering_reverse}
use Rattle.std.specs.Set.{remove_key}
use Rattle.std.proofs.lemmas.List.Elements.{All-cons, All-head, All-nil, All-tail, All-weaker}
use Rattle.std.proofs.lemmas.Map.Views.{All-insert_key, All-remove_key}

-- each key is below those after it
abbrev pub AreOrdered : {K : Type 0} → (K → K → Ordering) → List K → Type 0
AreOrdered R [] = ⊤
AreOrdered R (k ∷ ks) = All (λ q. R k q ≡ Less) ks × AreOrdered R ks

pub ordered-insert : {K : Type 0} (R : K → K → Ordering) → IsTotalOrder R → (ks : List K) (k : K) → AreOrdered R ks → AreOrdered R (insert_key R ks k)
ordered-insert R total [] k o = (All-nil (λ q. R k q ≡ Less), tt)
ordered-insert R total (x ∷ ks) k o = by (R k x) refl (ordered-insert R total ks k o.1)
  where
    by : (r : Ordering) → R k x ≡ r → AreOrdered R (insert_key R ks k) → AreOrdered R (match_ordering r (k ∷ x ∷ ks) (x ∷ ks) (x ∷ insert_key R ks k))
    by Less e rest = (All-cons (λ q. R k q ≡ Less) x ks e (All-weaker (λ q. R x q ≡ Less) (λ q. R k q ≡ Less) (λ q f. total.trans k x q e f) ks o.0), o)
    by Equal e rest = o
    by Greater e rest = (All-insert_key R k (λ q. R x q ≡ Less) ks o.0 (total.antisymm x k ∙ ap ordering_reverse e), rest)

pub ordered-remove : {K : Type 0} (R : K → K → Ordering) (test : K → Bool) (ks : List K) → AreOrdered R ks → AreOrdered R (remove_key test ks)
ordered-remove R test [] o = tt
ordered-remove R test (x ∷ ks) o = by (test x) (ordered-remove R test ks o.1)
  where
    by : (b : Bool) → AreOrdered R (remove_key test ks) → AreOrdered R (cond b ks (x ∷ remove_key test ks))
    by true rest = o.1
    by false rest = (All-remove_key test (λ q. R x q ≡ Less) ks o.0, rest)

-- those keys are kept to which there is another one; keys that are equal have the same, and the orders of both agree
pub record Keeps {K J : Type 0} (R : K → K → Ordering) (S : J → J → Ordering) (pick : K → Option J) : Type 0 where
  pub total : IsTotalOrder R
  pub agree : (k q : K) (j i : J) → pick k ≡ Some j → pick q ≡ Some i → R k q ≡ S j i
  pub alike : (k q : K) → R k q ≡ Equal → pick k ≡ pick q

module _ {K J : Type 0} {R : K → K → Ordering} {S : J → J → Ordering} {pick : K → Option J} (keeps : Keeps R S pick) where
  -- a key that is not kept
  pub insert-skips : (ks : List K) (k : K) → pick k ≡ None → filter_map pick (insert_key R ks k) ≡ filter_map pick ks
  insert-skips [] k e = rw e refl
  insert-skips (x ∷ ks) k e = by (R k x) (insert-skips ks k e)
    where
      by : (r : Ordering) → filter_map pick (insert_key R ks k) ≡ filter_map pick ks
          → filter_map pick (match_ordering r (k ∷ x ∷ ks) (x ∷ ks) (x ∷ insert_key R ks k)) ≡ filter_map pick (x ∷ ks)
      by Less rest = ap (λ p. cons_option p (filter_map pick (x ∷ ks))) e
      by Equal rest = refl
      by Greater rest = ap (cons_option (pick x)) rest

  pub remove-skips : (ks : List K) (k : K) → pick k ≡ None → filter_map pick (remove_key (is_at (R k)) ks) ≡ filter_map pick ks
  remove-skips [] k e = refl
  remove-skips (x ∷ ks) k e = by (R k x) refl (remove-skips ks k e)
    where
      by : (r : Ordering) → R k x ≡ r → filter_map pick (remove_key (is_at (R k)) ks) ≡ filter_map pick ks
          → filter_map pick (cond (is_eq r) ks (x ∷ remove_key (is_at (R k)) ks)) ≡ filter_map pick (x ∷ ks)
      by Less f rest = ap (cons_option (pick x)) rest
      by Equal f rest = ap (λ p. cons_option p (filter_map pick ks)) (sym e ∙ keeps.alike k x f)
      by Greater f rest = ap (cons_option (pick x)) rest

  -- a key that is kept, below all others
  insert-below : (ks : List K) (k : K) (j : J) → pick k ≡ Some j → All (λ q. R k q ≡ Less) ks → insert_key S (filter_map pick ks) j ≡ j ∷ filter_map pick ks
  insert-below [] k j e a = refl
  insert-below (x ∷ ks) k j e a = by (pick x) refl (insert-below ks k j e (All-tail (λ q. R k q ≡ Less) x ks a))
    where
      by : (p : Option J) → pick x ≡ p → insert_key S (filter_map pick ks) j ≡ j ∷ filter_map pick ks
          → insert_key S (cons_option p (filter_map pick ks)) j ≡ j ∷ cons_option p (filter_map pick ks)
      by None f rest = rest
      by (Some i) f rest =
          let less : S j i ≡ Less = sym (keeps.agree k x j i e f) ∙ All-head (λ q. R k q ≡ Less) x ks a in
          rw less refl

  -- and in its place
  pub insert-keeps : (ks : List K) (k : K) (j : J) → pick k ≡ Some j → AreOrdered R ks → filter_map pick (insert_key R ks k) ≡ insert_key S (filter_map pick ks) j
  insert-keeps [] k j e o = rw e refl
  insert-keeps (x ∷ ks) k j e o = by (R k x) refl (insert-keeps ks k j e o.1)
    where
      later : (p : Option J) → pick x ≡ p → R k x ≡ Greater → filter_map pick (insert_key R ks k) ≡ insert_key S (filter_map pick ks) j
          → cons_option p (filter_map pick (insert_key R ks k)) ≡ insert_key S (cons_option p (filter_map pick ks)) j
      later None g f rest = rest
      later (Some i) g f rest =
          let more : S j i ≡ Greater = sym (keeps.agree k x j i e g) ∙ f in
          rw (more, rest) refl

      by : (r : Ordering) → R k x ≡ r → filter_map pick (insert_key R ks k) ≡ insert_key S (filter_map pick ks) j
          → filter_map pick (match_ordering r (k ∷ x ∷ ks) (x ∷ ks) (x ∷ insert_key R ks k)) ≡ insert_key S (cons_option (pick x) (filter_map pick ks)) j
      by Less f rest =
          ap (λ p. cons_option p (filter_map pick (x ∷ ks))) e
          ∙ sym (insert-below (x ∷ ks) k j e (All-cons (λ q. R k q ≡ Less) x ks f (All-weaker (λ q. R x q ≡ Less) (λ q. R k q ≡ Less) (λ q g. keeps.total.trans k x q f g) ks o.0)))
      by Equal f rest =
          let is : pick x ≡ Some j = sym (keeps.alike k x f) ∙ e in
          let same : S j j ≡ Equal = sym (keeps.agree k x j j e is) ∙ f in
          rw (is, same) refl
      by Greater f rest = later (pick x) refl f rest

  pub remove-keeps : (ks : List K) (k : K) (j : J) → pick k ≡ Some j → filter_map pick (remove_key (is_at (R k)) ks) ≡ remove_key (is_at (S j)) (filter_map pick ks)
  remove-keeps [] k j e = refl
  remove-keeps (x ∷ ks) k j e = by (R k x) refl (remove-keeps ks k j e)
    where
      later : (p : Option J) → pick x ≡ p → is_eq (R k x) ≡ false → filter_map pick (remove_key (is_at (R k)) ks) ≡ remove_key (is_at (S j)) (filter_map pick ks)
          → cons_option p (filter_map pick (remove_key (is_at (R k)) ks)) ≡ remove_key (is_at (S j)) (cons_option p (filter_map pick ks))
      later None g f rest = rest
      later (Some i) g f rest =
          let other : is_eq (S j i) ≡ false = ap is_eq (sym (keeps.agree k x j i e g)) ∙ f in
          rw (other, rest) refl

      by : (r : Ordering) → R k x ≡ r → filter_map pick (remove_key (is_at (R k)) ks) ≡ remove_key (is_at (S j)) (filter_map pick ks)
          → filter_map pick (cond (is_eq r) ks (x ∷ remove_key (is_at (R k)) ks)) ≡ remove_key (is_at (S j)) (cons_option (pick x) (filter_map pick ks))
      by Less f rest = later (pick x) refl (ap is_eq f) rest
      by Equal f rest =
          let is : pick x ≡ Some j = sym (keeps.alike k x f) ∙ e in
          let same : S j j ≡ Equal = sym (keeps.agree k x j j e is) ∙ f in
          rw (is, same) refl
      by Greater f rest = later (pick x) refl (ap is_eq f) rest

  -- whether it is there
  pub any-keeps : (ks : List K) (k : K) (j : J) → pick k ≡ Some j → list_any (is_at (R k)) ks ≡ list_any (is_at (S j)) (filter_map pick ks)
  any-keeps [] k j e = refl
  any-keeps (x ∷ ks) k j e = by (pick x) refl (any-keeps ks k j e)
    where
      other : (r : Ordering) → R k x ≡ r → pick x ≡ None → is_eq r ≡ false
      other Less f g = refl
      other Equal f g = absurd (cc (keeps.alike k x f))
      other Greater f g = refl

      by : (p : Option J) → pick x ≡ p → list_any (is_at (R k)) ks ≡ list_any (is_at (S j)) (filter_map pick ks)
          → (is_eq (R k x) || list_any (is_at (R k)) ks) ≡ list_any (is_at (S j)) (cons_option p (filter_map pick ks))
      by None f rest = ap (λ b. b || list_any (is_at (R k)) ks) (other (R k x) refl f) ∙ rest
      by (Some i) f rest = rw (keeps.agree k x j i e f, rest) refl
