-- Texts of which no two are the same.
use Rattle.std.proofs.Common.{◌≡◌, ◌∙◌, ℕ, zero, suc, ◌+◌, ◌<◌, ◌≤◌, ◌⊎◌, inl, inr, Bool, true, false, ◌||◌, cond, List, [], ◌∷◌, ◌++◌, append_assoc, append-nil, length, length-append, map, Option, Some, None, is_some, refl, sym, ap, subst, arith, true≢false}
use Rattle.std.specs.Prelude.{All, codes, ◌≢◌}
use Rattle.std.specs.Fmt.{decimal}
use Rattle.std.specs.List.{AllPairs, count_by, enumerate_from, list_any, range_with_len}
use Rattle.std.specs.Str.{bytes_eq}
use Rattle.std.proofs.lemmas.Bool.Decides.{nat_tests}
use Rattle.std.proofs.lemmas.Fmt.{decimal_injective}
use Rattle.std.proofs.lemmas.List.Elements.{All-cons, All-head, All-nil, All-tail}
use Rattle.std.proofs.lemmas.List.Kept.{AllPairs-cons}
use Rattle.std.proofs.lemmas.List.Sums.{sum_by-append, sum_by-cons}
use Rattle.std.proofs.lemmas.Slice.Eq.{bytes_eq-Decides}
use Rattle.sqs_formats.specs.Copies.{copy_name, copy_names}
use Rattle.sqs_formats.specs.Outline.{Outline, is_fresh, is_not_before, place_among}
use Rattle.sim_scenario.proofs.Firsts.{front_lacks, front_misses, some_place}

abbrev pub tick : Bool → ℕ
tick b = cond b 1 0

-- how often a text stands in a list
abbrev pub times : List ℕ → List (List ℕ) → ℕ
times s texts = count_by (λ t. bytes_eq t s) texts

abbrev pub Once : List (List ℕ) → Type 0
Once texts = (s : List ℕ) → times s texts ≤ 1

pub times_cons : (s t : List ℕ) (ts : List (List ℕ)) → times s (t ∷ ts) ≡ tick (bytes_eq t s) + times s ts
times_cons s t ts = sum_by-cons (λ t. tick (bytes_eq t s)) t ts

pub times_append : (s : List ℕ) (ts us : List (List ℕ)) → times s (ts ++ us) ≡ times s ts + times s us
times_append s ts us = sum_by-append (λ t. tick (bytes_eq t s)) ts us

same_once : (t : List ℕ) → tick (bytes_eq t t) ≡ 1
same_once t = ap tick ((bytes_eq-Decides t t).1 refl)

-- a text before others of which none is it
differ_by : (b : Bool) (t u : List ℕ) (us : List (List ℕ)) → bytes_eq u t ≡ b → times t (u ∷ us) ≡ 0 → (t ≢ u) × (times t us ≡ 0)
differ_by true t u us e h = let one : tick (bytes_eq u t) ≡ 1 = ap tick e in absurd (omega (arith, times_cons t u us))
differ_by false t u us e h = (λ same. true≢false (sym ((bytes_eq-Decides u t).1 (sym same)) ∙ e), omega (arith, times_cons t u us))

all_differ : (t : List ℕ) (us : List (List ℕ)) → times t us ≡ 0 → All (λ u. t ≢ u) us
all_differ t [] h = All-nil (λ u. t ≢ u)
all_differ t (u ∷ us) h = let both = differ_by (bytes_eq u t) t u us refl h in All-cons (λ u. t ≢ u) u us both.0 (all_differ t us both.1)

once_tail : (t : List ℕ) (ts : List (List ℕ)) → Once (t ∷ ts) → Once ts
once_tail t ts h s = omega (arith, h s, times_cons s t ts)

-- texts that stand once are all different
pub once_differ : (ts : List (List ℕ)) → Once ts → AllPairs (λ m n. m ≢ n) ts
once_differ [] h = λ i j d lt within. absurd (omega (arith, within))
once_differ (t ∷ ts) h =
    let none : times t ts ≡ 0 = omega (arith, h t, times_cons t t ts, same_once t) in
    AllPairs-cons (λ m n. m ≢ n) t ts (all_differ t ts none) (once_differ ts (once_tail t ts h))

-- one more text in front
pub once_cons : (t : List ℕ) (ts : List (List ℕ)) → times t ts ≡ 0 → Once ts → Once (t ∷ ts)
once_cons t ts none h s = by (bytes_eq t s) refl
  where
    by : (b : Bool) → bytes_eq t s ≡ b → times s (t ∷ ts) ≤ 1
    by true e =
        let same : t ≡ s = (bytes_eq-Decides t s).0 e in
        let zero : times s ts ≡ 0 = ap (λ x. times x ts) (sym same) ∙ none in
        let one : tick (bytes_eq t s) ≡ 1 = ap tick e in omega (arith, times_cons s t ts)
    by false e = let no : tick (bytes_eq t s) ≡ 0 = ap tick e in omega (arith, times_cons s t ts, h s)

-- texts behind others among which none of them is
meet : (s : List ℕ) (ts us : List (List ℕ)) → All (λ u. times u ts ≡ 0) us → (times s us ≡ 0) ⊎ (times s ts ≡ 0)
meet s ts [] h = inl refl
meet s ts (u ∷ us) h = by (bytes_eq u s) refl (meet s ts us (All-tail (λ u. times u ts ≡ 0) u us h))
  where
    by : (b : Bool) → bytes_eq u s ≡ b → (times s us ≡ 0) ⊎ (times s ts ≡ 0) → (times s (u ∷ us) ≡ 0) ⊎ (times s ts ≡ 0)
    by true e more = inr (ap (λ x. times x ts) (sym ((bytes_eq-Decides u s).0 e)) ∙ All-head (λ u. times u ts ≡ 0) u us h)
    by false e (inl none) = let no : tick (bytes_eq u s) ≡ 0 = ap tick e in inl (omega (arith, times_cons s u us))
    by false e (inr none) = inr none

pub once_append : (ts us : List (List ℕ)) → Once ts → Once us → All (λ u. times u ts ≡ 0) us → Once (ts ++ us)
once_append ts us h k apart s = by (meet s ts us apart)
  where
    by : (times s us ≡ 0) ⊎ (times s ts ≡ 0) → times s (ts ++ us) ≤ 1
    by (inl none) = omega (arith, times_append s ts us, h s)
    by (inr none) = omega (arith, times_append s ts us, k s)

-- a text that has no place among others is none of them
none_by : (b : Bool) (s t : List ℕ) (ts : List (List ℕ)) → bytes_eq t s ≡ b → (list_any (λ t. bytes_eq t s) ts ≡ false → times s ts ≡ 0) → (b || list_any (λ t. bytes_eq t s) ts) ≡ false → times s (t ∷ ts) ≡ 0
none_by true s t ts e more h = absurd (true≢false h)
none_by false s t ts e more h = let no : tick (bytes_eq t s) ≡ 0 = ap tick e in omega (arith, times_cons s t ts, more h)

none_any : (s : List ℕ) (ts : List (List ℕ)) → list_any (λ t. bytes_eq t s) ts ≡ false → times s ts ≡ 0
none_any s [] h = refl
none_any s (t ∷ ts) h = none_by (bytes_eq t s) s t ts refl (λ k. none_any s ts k) h

no_place : (s : List ℕ) (ts : List (List ℕ)) → place_among ts s ≡ None → times s ts ≡ 0
no_place s ts e = none_any s ts (sym (some_place (λ t. bytes_eq t s) ts) ∙ ap is_some e)

-- a text that does not stand before others is none of those there
not_before : (ts rest : List (List ℕ)) (s : List ℕ) (first : Option ℕ) → place_among (ts ++ rest) s ≡ first → is_not_before (length ts) first ≡ true → times s ts ≡ 0
not_before ts rest s None e h = no_place s ts (front_lacks (λ t. bytes_eq t s) ts rest e)
not_before ts rest s (Some n) e h =
    let behind : length ts ≤ n = grind (arith, nat_tests) in
    no_place s ts (front_misses (λ t. bytes_eq t s) ts rest n e behind)

pub fresh_apart : (o : Outline) (ts rest : List (List ℕ)) (place : ℕ) (s : List ℕ) → o.names ≡ ts ++ rest → place ≡ length ts → is_fresh o place s ≡ true → times s ts ≡ 0
fresh_apart o ts rest place s names at fresh =
    not_before ts rest s (place_among (ts ++ rest) s) refl (ap (λ n. is_not_before n (place_among (ts ++ rest) s)) (sym at) ∙ ap (λ ns. is_not_before place (place_among ns s)) (sym names) ∙ fresh)

-- names that are given one after another, none of which is given before
pub once_listed : (o : Outline) (ts us rest : List (List ℕ)) → o.names ≡ ts ++ (us ++ rest) → All (λ p. is_fresh o p.0 p.1 ≡ true) (enumerate_from (length ts) us) → Once ts → Once (ts ++ us)
once_listed o ts [] rest names fresh h = rw (append-nil ts) h
once_listed o ts (u ∷ us) rest names fresh h =
    let P : ℕ × List ℕ → Type 0 = λ p. is_fresh o p.0 p.1 ≡ true in
    let apart : times u ts ≡ 0 = fresh_apart o ts ((u ∷ us) ++ rest) (length ts) u names refl (All-head P (length ts, u) (enumerate_from (length ts + 1) us) fresh) in
    let alone : Once (u ∷ []) = once_cons u [] refl (λ s. omega arith) in
    let more : Once (ts ++ u ∷ []) = once_append ts (u ∷ []) h alone (All-cons (λ u. times u ts ≡ 0) u [] apart (All-nil (λ u. times u ts ≡ 0))) in
    let count : length ts + 1 ≡ length (ts ++ u ∷ []) = omega (arith, length-append ts (u ∷ [])) in
    let others : All P (enumerate_from (length (ts ++ u ∷ [])) us) = subst (λ n. All P (enumerate_from n us)) count (All-tail P (length ts, u) (enumerate_from (length ts + 1) us) fresh) in
    let all : Once ((ts ++ u ∷ []) ++ us) = once_listed o (ts ++ u ∷ []) us rest (names ∙ sym (append_assoc ts (u ∷ []) (us ++ rest))) others more in
    rw (append_assoc ts (u ∷ []) us) at all

-- the names of copies are all different, and none is that of the actor
length_not : (a b : List ℕ) → length a < length b → bytes_eq b a ≡ false
length_not a b h = by (bytes_eq b a) refl
  where
    by : (c : Bool) → bytes_eq b a ≡ c → c ≡ false
    by true e = let same : length b ≡ length a = ap length ((bytes_eq-Decides b a).0 e) in absurd (omega arith)
    by false e = refl

cut_front : (name xs ys : List ℕ) → name ++ xs ≡ name ++ ys → xs ≡ ys
cut_front [] xs ys e = e
cut_front (a ∷ name) xs ys e = cut_front name xs ys cc

copy_differs : (name : List ℕ) (m n : ℕ) → m < n → n < 2000 → bytes_eq (copy_name name n) (copy_name name m) ≡ false
copy_differs name m n less few = by (bytes_eq (copy_name name n) (copy_name name m)) refl
  where
    by : (c : Bool) → bytes_eq (copy_name name n) (copy_name name m) ≡ c → c ≡ false
    by true e =
        let both : codes "-" ++ decimal n ≡ codes "-" ++ decimal m = cut_front name (codes "-" ++ decimal n) (codes "-" ++ decimal m) ((bytes_eq-Decides (copy_name name n) (copy_name name m)).0 e) in
        let same : decimal n ≡ decimal m = cut_front (codes "-") (decimal n) (decimal m) both in
        let number : n ≡ m = decimal_injective n m (omega arith) (omega arith) same in absurd (omega arith)
    by false e = refl

later_apart : (name : List ℕ) (m n more : ℕ) → m < n → n + more ≤ 2000 → times (copy_name name m) (map (copy_name name) (range_with_len n more)) ≡ 0
later_apart name m n zero less few = refl
later_apart name m n (suc more) less few =
    let no : tick (bytes_eq (copy_name name n) (copy_name name m)) ≡ 0 = ap tick (copy_differs name m n less (omega arith)) in
    let rest = later_apart name m (n + 1) more (omega arith) (omega arith) in
    omega (arith, times_cons (copy_name name m) (copy_name name n) (map (copy_name name) (range_with_len (n + 1) more)))

copies_once : (name : List ℕ) (n more : ℕ) → n + more ≤ 2000 → Once (map (copy_name name) (range_with_len n more))
copies_once name n zero few = λ s. omega arith
copies_once name n (suc more) few =
    once_cons (copy_name name n) (map (copy_name name) (range_with_len (n + 1) more)) (later_apart name n (n + 1) more (omega arith) (omega arith)) (copies_once name (n + 1) more (omega arith))

name_apart : (name : List ℕ) (n more : ℕ) → times name (map (copy_name name) (range_with_len n more)) ≡ 0
name_apart name n zero = refl
name_apart name n (suc more) =
    let size : length (copy_name name n) ≡ length name + length (codes "-" ++ decimal n) = length-append name (codes "-" ++ decimal n) in
    let no : tick (bytes_eq (copy_name name n) name) ≡ 0 = ap tick (length_not name (copy_name name n) (omega arith)) in
    omega (arith, times_cons name (copy_name name n) (map (copy_name name) (range_with_len (n + 1) more)), name_apart name (n + 1) more)

pub taken_once : (name : List ℕ) (copies : ℕ) → copies ≤ 1000 → Once (name ∷ copy_names name copies)
taken_once name copies few = once_cons name (copy_names name copies) (name_apart name 1 copies) (copies_once name 1 copies (omega arith))
