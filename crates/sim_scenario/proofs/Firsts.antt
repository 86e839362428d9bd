-- First places of texts, as one more text comes.
use Rattle.std.proofs.Common.{◌≡◌, ℕ, suc, ◌+◌, ◌<◌, ◌≤◌, Bool, true, false, cond, not, eqb, List, [], ◌∷◌, ◌++◌, length, Vec, Option, Some, None, is_some, nat_lt, position, arith, refl, sym, ap, subst, ◌∙◌, true≢false}
use Rattle.std.specs.Global.{Global}
use Rattle.std.specs.Cmp.Lexicographic.{bytes_decides, nat_list_eq_equiv}
use Rattle.std.specs.List.{list_any, position_or_len}
use Rattle.std.specs.Map.{lookup}
use Rattle.std.specs.Option.{option_or}
use Rattle.std.specs.Str.{bytes_eq}
use Rattle.std.proofs.lemmas.Bool.Decides.{nat_tests}
use Rattle.std.proofs.lemmas.List.{length-append}
use Rattle.std.proofs.lemmas.List.Folds.{position_or_len_push, prefix_len-append}
use Rattle.std.proofs.lemmas.List.Sums.{prefix_len-le-length}
use Rattle.sqs_formats.specs.Keys.{is_among}
use Rattle.sqs_formats.specs.Outline.{place_among}
use Rattle.sim_scenario.specs.Firsts.{AreFirsts}

place_by : (b : Bool) (n after l longer : ℕ) → n ≤ l → after ≡ cond (eqb n l) (l + cond b 0 1) n → longer ≡ l + 1
    → cond (nat_lt after longer) (Some after) None ≡ option_or (cond (nat_lt n l) (Some n) None) (cond b (Some l) None)
place_by true n after l longer h e f = grind (arith, nat_tests)
place_by false n after l longer h e f = grind (arith, nat_tests)

-- the first place, with one more that may be it
place_push : {X : Type 0} (p : X → Bool) (xs : List X) (y : X) → position p (xs ++ y ∷ []) ≡ option_or (position p xs) (cond (p y) (Some (length xs)) None)
place_push p xs y =
    place_by (p y) (position_or_len p xs) (position_or_len p (xs ++ y ∷ [])) (length xs) (length (xs ++ y ∷ [])) (prefix_len-le-length (λ x. not (p x)) xs) (position_or_len_push p xs y) (length-append xs (y ∷ []))

-- what is looked up, with one more entry that may be it
lookup_push : {K X : Type 0} (test : K → Bool) (es : List (K × X)) (k : K) (v : X) → lookup test (es ++ (k, v) ∷ []) ≡ option_or (lookup test es) (cond (test k) (Some v) None)
lookup_push test [] k v = refl
lookup_push test (e ∷ es) k v = by (test e.0) (lookup_push test es k v)
  where
    by : (b : Bool) → lookup test (es ++ (k, v) ∷ []) ≡ option_or (lookup test es) (cond (test k) (Some v) None)
        → cond b (Some e.1) (lookup test (es ++ (k, v) ∷ [])) ≡ option_or (cond b (Some e.1) (lookup test es)) (cond (test k) (Some v) None)
    by true h = refl
    by false h = h

-- a text that is there
pub firsts_known : (entries : List (Vec ℕ Global × ℕ)) (texts : List (List ℕ)) (t : List ℕ) → AreFirsts entries texts → is_some (lookup (λ k. bytes_eq t k.items) entries) ≡ true
    → AreFirsts entries (texts ++ t ∷ [])
firsts_known entries texts t firsts known s = firsts s ∙ sym (place_push (λ x. bytes_eq x s) texts t ∙ by (bytes_eq t s) refl)
  where
    kept : (r : Option ℕ) → is_some r ≡ true → option_or r (Some (length texts)) ≡ r
    kept None h = absurd (true≢false (sym h))
    kept (Some n) h = refl

    alone : (r : Option ℕ) → option_or r None ≡ r
    alone None = refl
    alone (Some n) = refl

    by : (b : Bool) → bytes_eq t s ≡ b → option_or (place_among texts s) (cond (bytes_eq t s) (Some (length texts)) None) ≡ place_among texts s
    by true e =
        ap (λ c. option_or (place_among texts s) (cond c (Some (length texts)) None)) e
        ∙ kept (place_among texts s) (subst (λ (x : List ℕ). is_some (place_among texts x) ≡ true) ((bytes_decides t s).0 e) (sym (ap is_some (firsts t)) ∙ known))
    by false e = ap (λ c. option_or (place_among texts s) (cond c (Some (length texts)) None)) e ∙ alone (place_among texts s)

-- a text that is new, with its place
pub firsts_new : (entries : List (Vec ℕ Global × ℕ)) (texts : List (List ℕ)) (t : List ℕ) (key : Vec ℕ Global) → AreFirsts entries texts → key.items ≡ t
    → AreFirsts (entries ++ (key, length texts) ∷ []) (texts ++ t ∷ [])
firsts_new entries texts t key firsts is s =
    let turned : bytes_eq s key.items ≡ bytes_eq t s = ap (bytes_eq s) is ∙ nat_list_eq_equiv.symm s t in
    lookup_push (λ k. bytes_eq s k.items) entries key (length texts)
    ∙ (λ j. option_or (firsts s j) (cond (turned j) (Some (length texts)) None))
    ∙ sym (place_push (λ x. bytes_eq x s) texts t)

-- a test that some pass has a first place
pub some_place : {X : Type 0} (p : X → Bool) (xs : List X) → is_some (position p xs) ≡ list_any p xs
some_place p [] = refl
some_place p (x ∷ xs) = by (p x) refl (some_place p xs)
  where
    front : (l : ℕ) → is_some {T = ℕ} (cond (nat_lt 0 (suc l)) (Some 0) None) ≡ true
    front l = grind (arith, nat_tests)

    later : (n l : ℕ) → is_some (cond (nat_lt (1 + n) (suc l)) (Some (1 + n)) None) ≡ is_some (cond (nat_lt n l) (Some n) None)
    later n l = grind (arith, nat_tests)

    by : (b : Bool) → p x ≡ b → is_some (position p xs) ≡ list_any p xs → is_some (position p (x ∷ xs)) ≡ list_any p (x ∷ xs)
    by true e h = rw e (front (length xs))
    by false e h = rw e (later (position_or_len p xs) (length xs) ∙ h)

-- whether a text is there, as the map tells it
pub firsts_among : (entries : List (Vec ℕ Global × ℕ)) (texts : List (List ℕ)) (s : List ℕ) → AreFirsts entries texts → is_some (lookup (λ k. bytes_eq s k.items) entries) ≡ is_among texts s
firsts_among entries texts s firsts = ap is_some (firsts s) ∙ some_place (λ t. bytes_eq t s) texts

none_by : (a l b w m k : ℕ) → a ≤ l → w ≡ cond (eqb a l) (l + b) a → m ≡ l + k → b ≤ k → cond (nat_lt w m) (Some w) None ≡ None → cond (nat_lt a l) (Some a) None ≡ None
none_by a l b w m k h e f g i = grind (arith, nat_tests)

some_by : (a l b w m k n : ℕ) → a ≤ l → w ≡ cond (eqb a l) (l + b) a → m ≡ l + k → b ≤ k → cond (nat_lt w m) (Some w) None ≡ Some n → n < l → cond (nat_lt a l) (Some a) None ≡ Some n
some_by a l b w m k n h e f g i j = grind (arith, nat_tests)

later_by : (a l b w m k n : ℕ) → a ≤ l → w ≡ cond (eqb a l) (l + b) a → m ≡ l + k → b ≤ k → cond (nat_lt w m) (Some w) None ≡ Some n → l ≤ n → cond (nat_lt a l) (Some a) None ≡ None
later_by a l b w m k n h e f g i j = grind (arith, nat_tests)

module _ {X : Type 0} (p : X → Bool) (xs ys : List X) where
  -- what has no place among all has none among those in front
  pub front_lacks : position p (xs ++ ys) ≡ None → position p xs ≡ None
  front_lacks e =
      none_by (position_or_len p xs) (length xs) (position_or_len p ys) (position_or_len p (xs ++ ys)) (length (xs ++ ys)) (length ys) (prefix_len-le-length (λ x. not (p x)) xs) (prefix_len-append (λ x. not (p x)) xs ys) (length-append xs ys) (prefix_len-le-length (λ x. not (p x)) ys) e

  -- a first place in front is the first place of those in front
  pub front_has : (n : ℕ) → position p (xs ++ ys) ≡ Some n → n < length xs → position p xs ≡ Some n
  front_has n e h =
      some_by (position_or_len p xs) (length xs) (position_or_len p ys) (position_or_len p (xs ++ ys)) (length (xs ++ ys)) (length ys) n (prefix_len-le-length (λ x. not (p x)) xs) (prefix_len-append (λ x. not (p x)) xs ys) (length-append xs ys) (prefix_len-le-length (λ x. not (p x)) ys) e h

  -- and one behind means that those in front have none
  pub front_misses : (n : ℕ) → position p (xs ++ ys) ≡ Some n → length xs ≤ n → position p xs ≡ None
  front_misses n e h =
      later_by (position_or_len p xs) (length xs) (position_or_len p ys) (position_or_len p (xs ++ ys)) (length (xs ++ ys)) (length ys) n (prefix_len-le-length (λ x. not (p x)) xs) (prefix_len-append (λ x. not (p x)) xs ys) (length-append xs ys) (prefix_len-le-length (λ x. not (p x)) ys) e h

pub lacks : (r : Option ℕ) → is_some r ≡ false → r ≡ None
lacks None h = refl
lacks (Some n) h = absurd (true≢false h)
