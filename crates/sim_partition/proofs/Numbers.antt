-- Numbers of sites, which ascend.
use Rattle.std.specs.List.Sorted.{IsBinarySearchResult}
use Rattle.std.specs.Ordering.{nat_cmp}
use Rattle.std.specs.Prelude.{Err, List, MatchResult, Ok, Result, [], false, get_or, if◌then◌else◌, length, map, set, suc, zero, ℕ, ◌+◌, ◌<◌, ◌==◌, ◌∷◌, ◌≡◌, ◌≢◌, ◌≤◌}
use Rattle.std.proofs.Common.{ap, arith, inl, inr, refl, subst, sym, true}
use Rattle.std.proofs.lemmas.Bool.{cases_lt}
use Rattle.std.proofs.lemmas.Bool.Decides.{nat_tests}
use Rattle.std.proofs.lemmas.List.{length-map}
use Rattle.std.proofs.lemmas.List.Sorted.{searched}
use Rattle.sim_engine.specs.Engine.{Engine}
use Rattle.sim_engine.specs.Members.{Ascends}
use Rattle.sim_engine.specs.World.{delivered_one}

pub same_number : (a b : ℕ) → a ≡ b → (a == b) ≡ true
same_number a b h = grind (arith, nat_tests, h)

other_number : (a b : ℕ) → b ≢ a → (a == b) ≡ false
other_number a b h = grind (arith, nat_tests, h)

module _ {Site Row Transfer : Type 0} (engine : Engine Site Row Transfer) where
  open engine use {number, accepted, to}

  -- the number at a place
  abbrev pub number_there : List Site → ℕ → ℕ
  number_there w i = get_or (map number w) i 0

  -- none is less than the first may be
  at_least : (from i : ℕ) (w : List Site) → Ascends number from w → i < length w → from ≤ number_there w i
  at_least from i [] h l = absurd (omega arith)
  at_least from zero (s ∷ ss) h l = h.0
  at_least from (suc i) (s ∷ ss) h l = let n : number s + 1 ≤ number_there ss i = at_least (number s + 1) i ss h.1 (omega arith) in omega (arith, h.0, n)

  -- of two places the later has the greater number
  pub rises : (from i k : ℕ) (w : List Site) → Ascends number from w → i ≤ k → k < length w → number_there w i ≤ number_there w k
  rises from i k [] h l u = absurd (omega arith)
  rises from zero zero (s ∷ ss) h l u = omega arith
  rises from zero (suc k) (s ∷ ss) h l u = let n : number s + 1 ≤ number_there ss k = at_least (number s + 1) k ss h.1 (omega arith) in omega (arith, n)
  rises from (suc i) zero (s ∷ ss) h l u = absurd (omega arith)
  rises from (suc i) (suc k) (s ∷ ss) h l u = rises (number s + 1) i k ss h.1 (omega arith) (omega arith)

  -- a search among the numbers of sites, which are a list of their own
  module _ (x from : ℕ) (w : List Site) (h : Ascends number from w) (ns : List ℕ) (are : ns ≡ map number w) (r : Result ℕ ℕ) (s : IsBinarySearchResult (λ y. nat_cmp y x) ns r) where
    abbrev told : Result ℕ ℕ → Type 0
    told q = MatchResult q (λ i. (i < length (map number w)) × (number_there w i ≡ x)) (λ i. (i ≤ length (map number w)) × ((k : ℕ) → k < i → number_there w k < x) × ((k : ℕ) → i ≤ k → k < length (map number w) → x < number_there w k))

    found : told r
    found =
        searched (map number w) x r (subst (λ ms. IsBinarySearchResult (λ y. nat_cmp y x) ms r) are s)
        (λ i j l u. rises from i j w h l (omega (arith, u, length-map w number)))

    -- the place of the one that it finds
    pub found_there : (i : ℕ) → r ≡ Ok i → (i < length w) × (number_there w i ≡ x)
    found_there i e = let f : told (Ok i) = subst told e found in (omega (arith, f.0, length-map w number), f.1)

    -- where it finds none there is none
    pub found_nowhere : (i : ℕ) → r ≡ Err i → (k : ℕ) → k < length w → number_there w k ≢ x
    found_nowhere i e k l q =
        let f : told (Err i) = subst told e found in
        elim (cases_lt k i) [
          | inl b ↦ absurd (let n : number_there w k < x = f.1 k b in omega (arith, n, q))
          | inr a ↦ absurd (let n : x < number_there w k = f.2 k a (omega (arith, l, length-map w number)) in omega (arith, n, q))
        ]

  -- deliveries
  arrives : (o : Transfer) (s : Site) → number s ≡ to o → delivered_one engine o s ≡ accepted o s
  arrives o s h = ap (λ b. if b then accepted o s else s) (same_number (to o) (number s) (sym h))

  passes : (o : Transfer) (s : Site) → number s ≢ to o → delivered_one engine o s ≡ s
  passes o s h = ap (λ b. if b then accepted o s else s) (other_number (to o) (number s) h)

  -- a transfer to no number that is there
  pub absent : (o : Transfer) (w : List Site) → ((k : ℕ) → k < length w → number_there w k ≢ to o) → map (delivered_one engine o) w ≡ w
  absent o [] h = refl
  absent o (s ∷ ss) h = rw (passes o s (h 0 (omega arith)), absent o ss (λ k l. h (suc k) (omega arith))) refl

  -- one to a number less than those of some sites
  before : (o : Transfer) (from : ℕ) (w : List Site) → Ascends number from w → to o < from → map (delivered_one engine o) w ≡ w
  before o from w h l = absent o w (λ k u e. absurd (let n : from ≤ number_there w k = at_least from k w h u in omega (arith, n, e)))

  -- one to the number at a place
  pub handed :
      (o : Transfer) (from i : ℕ) (w : List Site) (x d : Site) → Ascends number from w → i < length w → number_there w i ≡ to o
      → x ≡ accepted o (get_or w i d) → set w i x ≡ map (delivered_one engine o) w
  handed o from i [] x d h l e f = absurd (omega arith)
  handed o from zero (s ∷ ss) x d h l e f =
      rw (f, arrives o s e, before o (number s + 1) ss h.1 (omega (arith, e))) refl
  handed o from (suc i) (s ∷ ss) x d h l e f =
      let n : number s + 1 ≤ number_there ss i = at_least (number s + 1) i ss h.1 (omega arith) in
      let not : number s ≢ to o = λ q. absurd (omega (arith, n, e, q)) in
      rw (passes o s not) (ap (λ t. s ∷ t) (handed o (number s + 1) i ss x d h.1 (omega arith) e f))
