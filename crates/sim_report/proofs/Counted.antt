-- Ages that are counted, each once.
use Rattle.std.proofs.Common.{◌≡◌, ℕ, zero, suc, ◌+◌, ◌-◌, ◌*◌, ◌^◌, ◌<◌, ◌≤◌, Bool, true, false, cond, Some, List, [], ◌∷◌, ◌++◌, length, get_or, take, drop, set, map, replicate, refl, sym, ap, ◌∙◌, arith, inl, inr}
use Rattle.std.specs.Prelude.{nat_lt, slice_get}
use Rattle.std.specs.List.{prefix_len}
use Rattle.std.specs.List.Sorted.{IsNonDecreasing, IsStrictlyIncreasing}
use Rattle.std.proofs.Math.Nat.{mul-le-mul_left}
use Rattle.std.proofs.lemmas.Bool.Decides.{nat_tests}
use Rattle.std.proofs.lemmas.List.{append-nil, append_assoc, drop_all, drop_more, get_or_default, get_or-drop, get_or-map, get_or_append_left, get_or_push, drop-map, length_push, map-set, map_push, set-get_or, length-drop, length-map, replicate-append-replicate, take-append-drop}
use Rattle.std.proofs.lemmas.Bool.{cases_lt}
use Rattle.std.proofs.lemmas.List.Elements.{All-append, All-cons, All-nil, All-set}
use Rattle.std.proofs.lemmas.List.Sums.{sum_by-append, sum_by-take-drop}
use Rattle.std.proofs.lemmas.List.Kept.{AllPairs-from_increasing}
use Rattle.sqs_formats.specs.Report.{ascending}
use Rattle.sim_report.specs.declared.age_counts.AgeCount.{AgeCount}
use Rattle.sim_report.specs.Ages.{EachOnce, ages_of, expanded}
use Rattle.sim_report.proofs.Ascending.{Ascends, Ascends-ascending, Ascends-from, IsBelow, IsNonDecreasing-from, ascending-is, IsBelow-less, IsBelow-put, ascending_from_sums, sum_by-ascending}

IsBelow-append : (n : ℕ) (ms ks : List ℕ) → IsBelow n ms → IsBelow n ks → IsBelow n (ms ++ ks)
IsBelow-append n [] ks b h = h
IsBelow-append n (m ∷ ms) ks b h = (b.0, IsBelow-append n ms ks b.1 h)

IsBelow-prefix : (n : ℕ) (ms ks : List ℕ) → IsBelow n (ms ++ ks) → IsBelow n ms
IsBelow-prefix n [] ks b = tt
IsBelow-prefix n (m ∷ ms) ks b = (b.0, IsBelow-prefix n ms ks b.1)

IsBelow-suffix : (n : ℕ) (ms ks : List ℕ) → IsBelow n (ms ++ ks) → IsBelow n ks
IsBelow-suffix n [] ks b = b
IsBelow-suffix n (m ∷ ms) ks b = IsBelow-suffix n ms ks b.1

IsBelow-replicate : (n k m : ℕ) → n ≤ m → IsBelow n (replicate k m)
IsBelow-replicate n zero m h = tt
IsBelow-replicate n (suc k) m h = (h, IsBelow-replicate n k m h)

IsBelow-ascending : (n : ℕ) (ms : List ℕ) → IsBelow n ms → IsBelow n (ascending ms)
IsBelow-ascending n [] b = tt
IsBelow-ascending n (m ∷ ms) b = IsBelow-put n m (ascending ms) b.0 (IsBelow-ascending n ms b.1)

-- the first of ascending numbers ascend
Ascends-prefix : (ms ks : List ℕ) → Ascends (ms ++ ks) → Ascends ms
Ascends-prefix [] ks up = tt
Ascends-prefix (m ∷ ms) ks up = (IsBelow-prefix m ms ks up.0, Ascends-prefix ms ks up.1)

-- the last of them too
Ascends-suffix : (ms ks : List ℕ) → Ascends (ms ++ ks) → Ascends ks
Ascends-suffix [] ks up = up
Ascends-suffix (m ∷ ms) ks up = Ascends-suffix ms ks up.1

-- a number again and again, before numbers that are not below it
Ascends-replicate : (k n : ℕ) (ms : List ℕ) → IsBelow n ms → Ascends ms → Ascends (replicate k n ++ ms)
Ascends-replicate zero n ms b up = up
Ascends-replicate (suc k) n ms b up =
    (IsBelow-append n (replicate k n) ms (IsBelow-replicate n k n (omega arith)) b, Ascends-replicate k n ms b up)

-- the number of numbers, from the first on, that are below another one
abbrev pub below : ℕ → List ℕ → ℕ
below n ms = prefix_len (λ m. nat_lt m n) ms

-- the numbers below another one, and then others that are not
Ascends-below_by : (n m : ℕ) (ms ks : List ℕ) (t : Bool) → t ≡ nat_lt m n → IsBelow m ms → IsBelow n ks → Ascends ks → Ascends (take (below n ms) ms ++ ks)
    → Ascends (take (cond t (1 + below n ms) 0) (m ∷ ms) ++ ks)
Ascends-below_by n m ms ks true e b h last rest =
    let one : 1 + below n ms ≡ suc (below n ms) = omega arith in
    let under : m ≤ n = grind (arith, nat_tests) in
    let first = IsBelow-append m (take (below n ms) ms) ks (IsBelow-prefix m (take (below n ms) ms) (drop (below n ms) ms) (rw take-append-drop b)) (IsBelow-less m n ks under h) in
    rw one (first, rest)
Ascends-below_by n m ms ks false e b h last rest = last

Ascends-below : (n : ℕ) (ms ks : List ℕ) → Ascends ms → IsBelow n ks → Ascends ks → Ascends (take (below n ms) ms ++ ks)
Ascends-below n [] ks up h last = last
Ascends-below n (m ∷ ms) ks up h last = Ascends-below_by n m ms ks (nat_lt m n) refl up.0 h last (Ascends-below n ms ks up.1 h last)

IsBelow-behind_by : (n m : ℕ) (ms : List ℕ) (t : Bool) → t ≡ nat_lt m n → IsBelow m ms → IsBelow n (drop (below n ms) ms) → IsBelow n (drop (cond t (1 + below n ms) 0) (m ∷ ms))
IsBelow-behind_by n m ms true e b rest =
    let one : 1 + below n ms ≡ suc (below n ms) = omega arith in
    rw one rest
IsBelow-behind_by n m ms false e b rest =
    let over : n ≤ m = grind (arith, nat_tests) in
    (over, IsBelow-less n m ms over b)

-- the first number that is not below another, and those behind it
IsBelow-behind : (n : ℕ) (ms : List ℕ) → Ascends ms → IsBelow n (drop (below n ms) ms)
IsBelow-behind n [] up = tt
IsBelow-behind n (m ∷ ms) up = IsBelow-behind_by n m ms (nat_lt m n) refl up.0 (IsBelow-behind n ms up.1)

-- a number as often as it counts, in its place among others
ascending-next : (n k : ℕ) (later rest : List ℕ) → Ascends rest → IsBelow n later
    → ascending ((replicate k n ++ later) ++ rest) ≡ take (below n rest) rest ++ (replicate k n ++ ascending (later ++ drop (below n rest) rest))
ascending-next n k later rest up b =
    let before = take (below n rest) rest in
    let behind = drop (below n rest) rest in
    let last = later ++ behind in
    let bound = IsBelow-ascending n last (IsBelow-append n later behind b (IsBelow-behind n rest up)) in
    let ordered = Ascends-replicate k n (ascending last) bound (Ascends-ascending last) in
    let bounded = IsBelow-append n (replicate k n) (ascending last) (IsBelow-replicate n k n (omega arith)) bound in
    ascending_from_sums ((replicate k n ++ later) ++ rest) (before ++ (replicate k n ++ ascending last)) (Ascends-below n rest (replicate k n ++ ascending last) up bounded ordered)
    (λ f. omega (
      arith,
      sum_by-append f before (replicate k n ++ ascending last),
      sum_by-append f (replicate k n) (ascending last),
      sum_by-ascending f last,
      sum_by-append f later behind,
      sum_by-take-drop f rest (below n rest),
      sum_by-append f (replicate k n ++ later) rest,
      sum_by-append f (replicate k n) later,
    ))

-- an age that is not above any of some counts
IsBelow-expanded : (n : ℕ) (counts : List AgeCount) → ((k : ℕ) → k < length counts → n ≤ get_or (map (λ c. c.age) counts) k 0) → IsBelow n (expanded counts)
IsBelow-expanded n [] h = tt
IsBelow-expanded n (c ∷ cs) h =
    IsBelow-append n (ages_of c) (expanded cs) (IsBelow-replicate n c.count c.age (h 0 (omega arith))) (IsBelow-expanded n cs (λ k l. h (suc k) (omega arith)))

-- an age is not above those of the counts behind it
IsBelow-later : (counts : List AgeCount) (i : ℕ) (c : AgeCount) → IsStrictlyIncreasing (map (λ c. c.age) counts) → i < length counts → c ≡ get_or counts i c
    → IsBelow c.age (expanded (drop (i + 1) counts))
IsBelow-later counts i c once within is =
    let ages = map (λ (c : AgeCount). c.age) counts in
    let long : length ages ≡ length counts = length-map counts (λ (c : AgeCount). c.age) in
    let here : get_or ages i 0 ≡ c.age = get_or-map (λ (c : AgeCount). c.age) counts i c 0 within ∙ ap (λ (c : AgeCount). c.age) (sym is) in
    IsBelow-expanded c.age (drop (i + 1) counts)
    (λ k l.
    let above = AllPairs-from_increasing ages once i (i + 1 + k) 0 (omega arith) (omega (arith, length-drop (i + 1) counts)) in
    let there : get_or (map (λ (c : AgeCount). c.age) (drop (i + 1) counts)) k 0 ≡ get_or ages (i + 1 + k) 0 = ap (λ (ns : List ℕ). get_or ns k 0) (sym (drop-map (λ (c : AgeCount). c.age) (i + 1) counts)) ∙ get_or-drop (i + 1) ages k 0 in
    omega arith)

-- the counts from one on, expanded
expanded-drop : (counts : List AgeCount) (i : ℕ) (d : AgeCount) → i < length counts → expanded (drop i counts) ≡ ages_of (get_or counts i d) ++ expanded (drop (i + 1) counts)
expanded-drop counts i d within = ap expanded (drop_more counts i d within)

-- a merge that has come to a count: what it adds next
pub merge-next : (counts : List AgeCount) (i : ℕ) (d : AgeCount) (all rest before whole : List ℕ) (n : ℕ) → EachOnce counts → i < length counts → IsNonDecreasing rest
    → all ++ ascending (expanded (drop i counts) ++ rest) ≡ whole → n ≡ below (get_or counts i d).age rest → before ≡ take n rest
    → ((all ++ before) ++ ages_of (get_or counts i d)) ++ ascending (expanded (drop (i + 1) counts) ++ drop n rest) ≡ whole
merge-next counts i d all rest before whole n once within up so_far few first =
    let c = get_or counts i d in
    let is : c ≡ get_or counts i c = get_or_default counts i d c within in
    let later = expanded (drop (i + 1) counts) in
    let under = below c.age rest in
    let last = ascending (later ++ drop under rest) in
    let next = ascending-next c.age c.count later rest (Ascends-from rest up) (IsBelow-later counts i c once.ascends within is) in
    rw (first, few)
    (append_assoc (all ++ take under rest) (ages_of c) last ∙ append_assoc all (take under rest) (ages_of c ++ last) ∙ ap (λ (ns : List ℕ). all ++ ns) (sym next)
    ∙ ap (λ (ns : List ℕ). all ++ ascending (ns ++ rest)) (sym (expanded-drop counts i d within)) ∙ so_far)

-- a merge that has come to the end of the counts
pub merge-done : (counts : List AgeCount) (i : ℕ) (all rest whole : List ℕ) → length counts ≤ i → IsNonDecreasing rest → all ++ ascending (expanded (drop i counts) ++ rest) ≡ whole
    → all ++ rest ≡ whole
merge-done counts i all rest whole past up so_far =
    ap (λ (ns : List ℕ). all ++ ns) (sym (ascending-is rest (Ascends-from rest up))) ∙ ap (λ (cs : List AgeCount). all ++ ascending (expanded cs ++ rest)) (sym (drop_all i counts past)) ∙ so_far

-- the last count, made larger
pub expanded-set : (i : ℕ) (counts : List AgeCount) (last more : AgeCount) → suc i ≡ length counts → last ≡ get_or counts i last → last.age ≡ more.age
    → expanded (set counts i (record { age = last.age; count = last.count + more.count })) ≡ expanded counts ++ ages_of more
expanded-set i [] last more long is same = absurd (omega arith)
expanded-set zero (c ∷ []) last more long is same =
    append-nil (replicate (last.count + more.count) last.age) ∙ sym (replicate-append-replicate last.count more.count last.age)
    ∙ ap (λ (n : ℕ). replicate last.count last.age ++ replicate more.count n) same
    ∙ ap (λ (ns : List ℕ). ns ++ ages_of more) (sym (append-nil (ages_of last)))
    ∙ ap (λ (x : AgeCount). (ages_of x ++ []) ++ ages_of more) is
expanded-set zero (c ∷ d ∷ ds) last more long is same = absurd (omega arith)
expanded-set (suc i) (c ∷ cs) last more long is same =
    ap (λ (ns : List ℕ). ages_of c ++ ns) (expanded-set i cs last more (omega arith) is same) ∙ sym (append_assoc (ages_of c) (expanded cs) (ages_of more))

-- a count that is changed at its place keeps each age once
pub EachOnce-set : (counts : List AgeCount) (i n : ℕ) (c : AgeCount) → EachOnce counts → i < length counts → c ≡ get_or counts i c → 0 < n
    → EachOnce (set counts i (record { age = c.age; count = n }))
EachOnce-set counts i n c once within is some =
    let new : AgeCount = record { age = c.age; count = n } in
    let age = λ (x : AgeCount). x.age in
    let here : c.age ≡ get_or (map age counts) i 0 = ap age is ∙ sym (get_or-map age counts i c 0 within) in
    let kept : map age (set counts i new) ≡ map age counts = map-set age counts i new ∙ ap (λ (n : ℕ). set (map age counts) i n) here ∙ set-get_or (map age counts) i 0 in
    record { ascends = rw kept once.ascends; some = All-set (λ (x : AgeCount). 0 < x.count) counts i new some once.some }

IsStrictlyIncreasing-push : (ns : List ℕ) (n : ℕ) → IsStrictlyIncreasing ns → ((i : ℕ) → suc i ≡ length ns → get_or ns i 0 < n) → IsStrictlyIncreasing (ns ++ n ∷ [])
IsStrictlyIncreasing-push ns n up last =
    λ k l.
    let long = length_push ns n in
    let first : get_or (ns ++ n ∷ []) k 0 ≡ get_or ns k 0 = get_or_append_left ns (n ∷ []) 0 k (omega arith) in
    elim (cases_lt (k + 1) (length ns)) [
      | inl h ↦
          let second : get_or (ns ++ n ∷ []) (k + 1) 0 ≡ get_or ns (k + 1) 0 = get_or_append_left ns (n ∷ []) 0 (k + 1) h in
          let below = up k h in
          omega arith
      | inr h ↦
          let second : get_or (ns ++ n ∷ []) (k + 1) 0 ≡ n = get_or_push ns n 0 (k + 1) (omega arith) in
          let below = last k (omega arith) in
          omega arith
    ]

-- a count behind the others, of a larger age
pub EachOnce-push : (counts : List AgeCount) (more : AgeCount) → EachOnce counts → 0 < more.count → ((i : ℕ) → suc i ≡ length counts → (get_or counts i more).age < more.age)
    → EachOnce (counts ++ more ∷ [])
EachOnce-push counts more once some larger =
    let age = λ (x : AgeCount). x.age in
    let long : length (map age counts) ≡ length counts = length-map counts age in
    let pushed : map age (counts ++ more ∷ []) ≡ map age counts ++ more.age ∷ [] = map_push age counts more in
    let P = λ (x : AgeCount). 0 < x.count in
    record {
      ascends = rw pushed (IsStrictlyIncreasing-push (map age counts) more.age once.ascends
          (λ i e.
          let there : get_or (map age counts) i 0 ≡ (get_or counts i more).age = get_or-map age counts i more 0 (omega arith) in
          let above = larger i (omega arith) in
          omega arith));
      some = All-append P counts (more ∷ []) once.some (All-cons P more [] some (All-nil P));
    }

first-le-second : (m n a b : ℕ) → 0 < m → 0 < n → Ascends ((replicate m a ++ []) ++ replicate n b) → a ≤ b
first-le-second zero n a b p q up = absurd (omega arith)
first-le-second (suc m) zero a b p q up = absurd (omega arith)
first-le-second (suc m) (suc n) a b p q up = (IsBelow-suffix a (replicate m a ++ []) (replicate (suc n) b) up.0).0

last-le : (i : ℕ) (counts : List AgeCount) (d more : AgeCount) → suc i ≡ length counts → 0 < (get_or counts i d).count → 0 < more.count
    → Ascends (expanded counts ++ ages_of more) → (get_or counts i d).age ≤ more.age
last-le i [] d more long some much up = absurd (omega arith)
last-le zero (c ∷ []) d more long some much up = first-le-second c.count more.count c.age more.age some much up
last-le zero (c ∷ e ∷ es) d more long some much up = absurd (omega arith)
last-le (suc i) (c ∷ cs) d more long some much up =
    last-le i cs d more (omega arith) some much (Ascends-suffix (ages_of c) (expanded cs ++ ages_of more) (rw append_assoc at up))

-- an age that is counted behind others is not below the last of them
pub last-le-more : (i : ℕ) (counts : List AgeCount) (d more : AgeCount) → suc i ≡ length counts → 0 < (get_or counts i d).count → 0 < more.count
    → IsNonDecreasing (expanded counts ++ ages_of more) → (get_or counts i d).age ≤ more.age
last-le-more i counts d more long some much up = last-le i counts d more long some much (Ascends-from (expanded counts ++ ages_of more) up)

slice_get-within : (k n i : ℕ) (ms : List ℕ) → i < k → slice_get (replicate k n ++ ms) i ≡ Some n
slice_get-within zero n i ms h = absurd (omega arith)
slice_get-within (suc k) n zero ms h = refl
slice_get-within (suc k) n (suc i) ms h = slice_get-within k n i ms (omega arith)

slice_get-behind : (k n i : ℕ) (ms : List ℕ) → k ≤ i → slice_get (replicate k n ++ ms) i ≡ slice_get ms (i - k)
slice_get-behind zero n i ms h = ap (slice_get ms) (omega arith)
slice_get-behind (suc k) n zero ms h = absurd (omega arith)
slice_get-behind (suc k) n (suc i) ms h = slice_get-behind k n i ms (omega arith) ∙ ap (slice_get ms) (omega arith)

-- the age at a place among those of a count
pub age-within : (counts : List AgeCount) (i left : ℕ) (d : AgeCount) → i < length counts → left < (get_or counts i d).count
    → slice_get (expanded (drop i counts)) left ≡ Some (get_or counts i d).age
age-within counts i left d within few =
    ap (λ (ns : List ℕ). slice_get ns left) (expanded-drop counts i d within)
    ∙ slice_get-within (get_or counts i d).count (get_or counts i d).age left (expanded (drop (i + 1) counts)) few

-- the age at a place behind them
pub age-behind : (counts : List AgeCount) (i left : ℕ) (d : AgeCount) → i < length counts → (get_or counts i d).count ≤ left
    → slice_get (expanded (drop i counts)) left ≡ slice_get (expanded (drop (i + 1) counts)) (left - (get_or counts i d).count)
age-behind counts i left d within many =
    ap (λ (ns : List ℕ). slice_get ns left) (expanded-drop counts i d within)
    ∙ slice_get-behind (get_or counts i d).count (get_or counts i d).age left (expanded (drop (i + 1) counts)) many

-- the first of ascending numbers that are two lists
pub IsNonDecreasing-taken : (ms ns : List ℕ) (i : ℕ) → IsNonDecreasing (ms ++ ns) → IsNonDecreasing (ms ++ take i ns)
IsNonDecreasing-taken ms ns i up =
    let whole : (ms ++ take i ns) ++ drop i ns ≡ ms ++ ns = append_assoc ms (take i ns) (drop i ns) ∙ ap (λ (ks : List ℕ). ms ++ ks) (take-append-drop i ns) in
    IsNonDecreasing-from (ms ++ take i ns) (Ascends-prefix (ms ++ take i ns) (drop i ns) (rw whole (Ascends-from (ms ++ ns) up)))

-- what a merge adds is in order
pub merge-ascends : (ms ks ns : List ℕ) → ms ++ ks ≡ ascending ns → IsNonDecreasing ms
merge-ascends ms ks ns e = IsNonDecreasing-from ms (Ascends-prefix ms ks (rw e (Ascends-ascending ns)))

-- a sum of so many ages fits 128 bits
pub total-fits : (total before age count all : ℕ) → total ≤ before * 2 ^ 64 → age < 2 ^ 64 → before + count ≤ all → all < 2 ^ 64 → total + age * count < 2 ^ 128
total-fits total before age count all so_far small few many =
    let most : age ≤ 2 ^ 64 = omega arith in
    omega (arith, mul-le-mul_left count most)
