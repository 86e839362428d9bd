-- A sorted list of numbers is the only one of its kind.
use Rattle.std.proofs.Common.{◌≡◌, ℕ, zero, suc, ◌+◌, ◌<◌, ◌≤◌, Bool, true, false, cond, List, [], ◌∷◌, ◌++◌, length, get_or, refl, sym, ap, ◌∙◌, arith, inl, inr}
use Rattle.std.proofs.lemmas.List.Sums.{sum_by-append, sum_by-cons}
use Rattle.std.proofs.lemmas.List.Sorted.{IsNonDecreasingBy-from_sort, sum_by-IsPermutation}
use Rattle.std.proofs.lemmas.Bool.{cases_lt}
use Rattle.std.proofs.lemmas.Bool.Decides.{nat_tests}
use Rattle.std.specs.List.{sum_by}
use Rattle.std.specs.List.Sorted.{IsNonDecreasing, IsPermutation, IsSorted}
use Rattle.std.specs.Ordering.{nat_cmp}
use Rattle.std.specs.Prelude.{nat_le}
use Rattle.sqs_formats.specs.Report.{ascending, put}

-- no number of a list is below this one
abbrev pub IsBelow : ℕ → List ℕ → Type 0
IsBelow n [] = Unit {0}
IsBelow n (m ∷ ms) = (n ≤ m) × IsBelow n ms

-- no number is above one that follows it
abbrev pub Ascends : List ℕ → Type 0
Ascends [] = Unit {0}
Ascends (n ∷ ns) = IsBelow n ns × Ascends ns

pub IsBelow-less : (m n : ℕ) (ns : List ℕ) → m ≤ n → IsBelow n ns → IsBelow m ns
IsBelow-less m n [] h b = tt
IsBelow-less m n (k ∷ ks) h b = (omega arith, IsBelow-less m n ks h b.1)

pub IsBelow-put : (m n : ℕ) (ns : List ℕ) → m ≤ n → IsBelow m ns → IsBelow m (put n ns)
IsBelow-put m n [] h b = (h, tt)
IsBelow-put m n (k ∷ ks) h b =
    elim (nat_le n k) as (λ t. IsBelow m (cond t (n ∷ k ∷ ks) (k ∷ put n ks))) [ true ↦ (h, b) | false ↦ (b.0, IsBelow-put m n ks h b.1) ]

Ascends-put_by : (n k : ℕ) (ks : List ℕ) (t : Bool) → t ≡ nat_le n k → Ascends (k ∷ ks) → Ascends (put n ks) → Ascends (cond t (n ∷ k ∷ ks) (k ∷ put n ks))
Ascends-put_by n k ks true e up rest = ((grind (arith, nat_tests), IsBelow-less n k ks (grind (arith, nat_tests)) up.0), up)
Ascends-put_by n k ks false e up rest = (IsBelow-put k n ks (grind (arith, nat_tests)) up.0, rest)

Ascends-put : (n : ℕ) (ns : List ℕ) → Ascends ns → Ascends (put n ns)
Ascends-put n [] up = (tt, tt)
Ascends-put n (k ∷ ks) up = Ascends-put_by n k ks (nat_le n k) refl up (Ascends-put n ks up.1)

-- sorting gives an ascending list
pub Ascends-ascending : (ns : List ℕ) → Ascends (ascending ns)
Ascends-ascending [] = tt
Ascends-ascending (n ∷ ns) = Ascends-put n (ascending ns) (Ascends-ascending ns)

sum_by-put : (f : ℕ → ℕ) (n : ℕ) (ns : List ℕ) → sum_by f (put n ns) ≡ f n + sum_by f ns
sum_by-put f n [] = sum_by-cons f n []
sum_by-put f n (k ∷ ks) =
    let whole = sum_by-cons f n (k ∷ ks) in
    let last = sum_by-cons f k ks in
    let other = sum_by-cons f k (put n ks) in
    let rest = sum_by-put f n ks in
    elim (nat_le n k) as (λ t. sum_by f (cond t (n ∷ k ∷ ks) (k ∷ put n ks)) ≡ f n + sum_by f (k ∷ ks)) [ true ↦ whole | false ↦ omega arith ]

-- sorting changes no sum
pub sum_by-ascending : (f : ℕ → ℕ) (ns : List ℕ) → sum_by f (ascending ns) ≡ sum_by f ns
sum_by-ascending f [] = refl
sum_by-ascending f (n ∷ ns) =
    let here = sum_by-put f n (ascending ns) in
    let rest = sum_by-ascending f ns in
    let whole = sum_by-cons f n ns in
    omega arith

-- 1 for a number up to this one
up_to : ℕ → ℕ → ℕ
up_to m n = cond (nat_le n m) 1 0

up_to-low : (m n : ℕ) → n ≤ m → up_to m n ≡ 1
unfolding up_to
up_to-low m n h = grind (arith, nat_tests)

up_to-high : (m n : ℕ) → m < n → up_to m n ≡ 0
unfolding up_to
up_to-high m n h = grind (arith, nat_tests)

sum_by-high : (m n : ℕ) (ns : List ℕ) → m < n → IsBelow n ns → sum_by (up_to m) ns ≡ 0
sum_by-high m n [] h b = refl
sum_by-high m n (k ∷ ks) h b =
    let here = sum_by-cons (up_to m) k ks in
    let rest = sum_by-high m n ks h b.1 in
    let this = up_to-high m k (omega arith) in
    omega arith

head-at_least : (n m : ℕ) (ns ms : List ℕ) → IsBelow m ms → sum_by (up_to n) (n ∷ ns) ≡ sum_by (up_to n) (m ∷ ms) → m ≤ n
head-at_least n m ns ms b e =
    let one = up_to-low n n (omega arith) in
    let first = sum_by-cons (up_to n) n ns in
    let second = sum_by-cons (up_to n) m ms in
    elim (cases_lt n m) [ inl h ↦ absurd (omega (arith, up_to-high n m h, sum_by-high n m ms h b)) | inr h ↦ h ]

-- two lists with the same head and the same sums have tails with the same sums
tail_sums : (f : ℕ → ℕ) (n m : ℕ) (ns ms : List ℕ) → n ≡ m → sum_by f (n ∷ ns) ≡ sum_by f (m ∷ ms) → sum_by f ns ≡ sum_by f ms
tail_sums f n m ns ms h e =
    let heads : f n ≡ f m = ap f h in
    let first = sum_by-cons f n ns in
    let second = sum_by-cons f m ms in
    omega arith

-- two ascending lists with the same sums are one
pub same_ascending : (ns ms : List ℕ) → Ascends ns → Ascends ms → ((f : ℕ → ℕ) → sum_by f ns ≡ sum_by f ms) → ns ≡ ms
same_ascending [] [] p q e = refl
same_ascending [] (m ∷ ms) p q e = absurd (omega (arith, e (λ _. 1), sum_by-cons (λ _. 1) m ms))
same_ascending (n ∷ ns) [] p q e = absurd (omega (arith, e (λ _. 1), sum_by-cons (λ _. 1) n ns))
same_ascending (n ∷ ns) (m ∷ ms) p q e =
    let low = head-at_least n m ns ms q.0 (e (up_to n)) in
    let high = head-at_least m n ms ns p.0 (sym (e (up_to m))) in
    let heads : n ≡ m = omega arith in
    let tails = same_ascending ns ms p.1 q.1 (λ f. tail_sums f n m ns ms heads (e f)) in
    cc

IsBelow-from : (n : ℕ) (ns : List ℕ) → ((j d : ℕ) → j < length ns → n ≤ get_or ns j d) → IsBelow n ns
IsBelow-from n [] h = tt
IsBelow-from n (m ∷ ms) h = (h 0 0 (omega arith), IsBelow-from n ms (λ j d k. h (suc j) d (omega arith)))

-- by std's word
pub Ascends-from : (ns : List ℕ) → IsNonDecreasing ns → Ascends ns
Ascends-from [] up = tt
Ascends-from (n ∷ ns) up =
    (IsBelow-from n ns (λ j d k. up 0 (suc j) d (omega arith) (omega arith)), Ascends-from ns (λ i j d h k. up (suc i) (suc j) d (omega arith) (omega arith)))

IsBelow-at : (n : ℕ) (ns : List ℕ) (j d : ℕ) → IsBelow n ns → j < length ns → n ≤ get_or ns j d
IsBelow-at n [] j d b k = absurd (omega arith)
IsBelow-at n (m ∷ ms) zero d b k = b.0
IsBelow-at n (m ∷ ms) (suc j) d b k = IsBelow-at n ms j d b.1 (omega arith)

Ascends-at : (ns : List ℕ) (i j d : ℕ) → Ascends ns → i ≤ j → j < length ns → get_or ns i d ≤ get_or ns j d
Ascends-at [] i j d up h k = absurd (omega arith)
Ascends-at (n ∷ ns) zero zero d up h k = omega arith
Ascends-at (n ∷ ns) zero (suc j) d up h k = IsBelow-at n ns j d up.0 (omega arith)
Ascends-at (n ∷ ns) (suc i) zero d up h k = absurd (omega arith)
Ascends-at (n ∷ ns) (suc i) (suc j) d up h k = Ascends-at ns i j d up.1 (omega arith) (omega arith)

-- and back to it
pub IsNonDecreasing-from : (ns : List ℕ) → Ascends ns → IsNonDecreasing ns
IsNonDecreasing-from ns up = λ i j d h k. Ascends-at ns i j d up h k

-- numbers with the sums of others, and in order, are those in ascending order
pub ascending_from_sums : (ns ms : List ℕ) → Ascends ms → ((f : ℕ → ℕ) → sum_by f ms ≡ sum_by f ns) → ascending ns ≡ ms
ascending_from_sums ns ms up same =
    same_ascending (ascending ns) ms (Ascends-ascending ns) up (λ f. sum_by-ascending f ns ∙ sym (same f))

-- numbers with the same sums are the same in ascending order
pub ascending-same : (ns ms : List ℕ) → ((f : ℕ → ℕ) → sum_by f ms ≡ sum_by f ns) → ascending ns ≡ ascending ms
ascending-same ns ms same =
    ascending_from_sums ns (ascending ms) (Ascends-ascending ms) (λ f. sum_by-ascending f ms ∙ same f)

-- ascending numbers are in ascending order already
pub ascending-is : (ns : List ℕ) → Ascends ns → ascending ns ≡ ns
ascending-is ns up = ascending_from_sums ns ns up (λ f. refl)

-- one more number, put in its place
pub ascending-push : (ns : List ℕ) (n : ℕ) → ascending (ns ++ n ∷ []) ≡ put n (ascending ns)
ascending-push ns n =
    ascending_from_sums (ns ++ n ∷ []) (put n (ascending ns)) (Ascends-put n (ascending ns) (Ascends-ascending ns))
    (λ f. omega (arith, sum_by-put f n (ascending ns), sum_by-ascending f ns, sum_by-append f ns (n ∷ []), sum_by-cons f n []))

length-put : (n : ℕ) (ns : List ℕ) → length (put n ns) ≡ length ns + 1
length-put n [] = refl
length-put n (k ∷ ks) =
    let rest = length-put n ks in
    elim (nat_le n k) as (λ t. length (cond t (n ∷ k ∷ ks) (k ∷ put n ks)) ≡ length (k ∷ ks) + 1) [ true ↦ omega arith | false ↦ omega arith ]

-- sorting changes no length
pub length-ascending : (ns : List ℕ) → length (ascending ns) ≡ length ns
length-ascending [] = refl
length-ascending (n ∷ ns) = omega (arith, length-put n (ascending ns), length-ascending ns)

-- a sorted permutation of some numbers is these numbers in ascending order
pub ascending_from_sort : (ns ms : List ℕ) → IsPermutation ns ms → IsSorted nat_cmp ms → ms ≡ ascending ns
ascending_from_sort ns ms moved sorted =
    let up = Ascends-from ms (IsNonDecreasingBy-from_sort (λ x. x) ms sorted) in
    same_ascending ms (ascending ns) up (Ascends-ascending ns) (λ f. sum_by-IsPermutation f ns ms moved ∙ sym (sum_by-ascending f ns))
