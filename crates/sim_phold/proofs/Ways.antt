-- The ways of PHOLD: one leads from each process to each one, and each takes the lookahead.
use Rattle.std.specs.List.{range_with_len}
use Rattle.std.specs.Prelude.{All, List, [], flat_map, map, suc, zero, ℕ, ◌+◌, ◌++◌, ◌<◌, ◌∷◌, ◌≡◌, ◌≤◌, ◌⊎◌}
use Rattle.std.proofs.Common.{ap, arith, inl, inr, subst, sym}
use Rattle.std.proofs.Math.Nat.{eq-or-lt_of_le}
use Rattle.std.proofs.lemmas.List.Elements.{All-append, All-cons, All-nil}
use Rattle.sim_engine.specs.Members.{In}
use Rattle.sim_engine.specs.declared.edge.Edge.{Edge}
use Rattle.sim_phold.specs.declared.opening.Workload.{Workload}
use Rattle.sim_phold.specs.Opening.{numbers, way, ways_from}

in_left : (xs ys : List Edge) (e : Edge) → In xs e → In (xs ++ ys) e
in_left [] ys e i = absurd i
in_left (x ∷ xs) ys e (inl h) = inl h
in_left (x ∷ xs) ys e (inr i) = inr (in_left xs ys e i)

in_right : (xs ys : List Edge) (e : Edge) → In ys e → In (xs ++ ys) e
in_right [] ys e i = i
in_right (x ∷ xs) ys e i = inr (in_right xs ys e i)

either_in : (xs ys : List Edge) (e : Edge) → In (xs ++ ys) e → In xs e ⊎ In ys e
either_in [] ys e i = inr i
either_in (x ∷ xs) ys e (inl h) = inl (inl h)
either_in (x ∷ xs) ys e (inr i) =
    elim (either_in xs ys e i) as (λ _. In (x ∷ xs) e ⊎ In ys e) [ inl h ↦ inl (inr h) | inr h ↦ inr h ]

-- what is made of a number is among what is made of a row of numbers with it
in_mapped :
    (f : ℕ → Edge) (from n k : ℕ) → from ≤ k → k < from + n → In (map f (range_with_len from n)) (f k)
in_mapped f from zero k l m = absurd (omega arith)
in_mapped f from (suc n) k l m =
    elim (eq-or-lt_of_le l) as (λ _. In (map f (range_with_len from (suc n))) (f k)) [
      | inl e ↦ inl (ap f e)
      | inr h ↦ inr (in_mapped f (from + 1) n k (omega arith) (omega arith))
    ]

in_joined :
    (f : ℕ → List Edge) (e : Edge) (from n k : ℕ) → from ≤ k → k < from + n → In (f k) e
    → In (flat_map f (range_with_len from n)) e
in_joined f e from zero k l m i = absurd (omega arith)
in_joined f e from (suc n) k l m i =
    let rest = flat_map f (range_with_len (from + 1) n) in
    elim (eq-or-lt_of_le l) as (λ _. In (flat_map f (range_with_len from (suc n))) e) [
      | inl h ↦ in_left (f from) rest e (subst (λ j. In (f j) e) (sym h) i)
      | inr h ↦ in_right (f from) rest e (in_joined f e (from + 1) n k (omega arith) (omega arith) i)
    ]

module _ (w : Workload) where
  pub way_in :
      (from to : ℕ) → from < w.processes → to < w.processes
      → In (flat_map (ways_from w) (numbers w)) (way w from to)
  way_in from to l m =
      let i = in_mapped (way w from) 0 w.processes to (omega arith) (omega arith) in
      in_joined (ways_from w) (way w from to) 0 w.processes from (omega arith) (omega arith) i

  -- each takes the lookahead
  least_among : (from : ℕ) (ns : List ℕ) (e : Edge) → In (map (way w from) ns) e → w.lookahead ≡ e.least
  least_among from [] e i = absurd i
  least_among from (n ∷ ns) e (inl h) = ap (λ x. x.least) h
  least_among from (n ∷ ns) e (inr i) = least_among from ns e i

  pub least_in : (ns : List ℕ) (e : Edge) → In (flat_map (ways_from w) ns) e → w.lookahead ≡ e.least
  least_in [] e i = absurd i
  least_in (n ∷ ns) e i =
      elim (either_in (ways_from w n) (flat_map (ways_from w) ns) e i) as (λ _. w.lookahead ≡ e.least) [
        | inl h ↦ least_among n (numbers w) e h
        | inr h ↦ least_in ns e h
      ]

  -- ways that a run in partitions takes
  abbrev IsInRange : Edge → Type 0
  IsInRange e = (1 ≤ e.least) × (e.least ≤ 900000)

  in_range_from : (from : ℕ) (ns : List ℕ) → 1 ≤ w.lookahead → w.lookahead ≤ 900000 → All IsInRange (map (way w from) ns)
  in_range_from from [] l m = All-nil IsInRange
  in_range_from from (n ∷ ns) l m =
      All-cons IsInRange (way w from n) (map (way w from) ns) (l, m) (in_range_from from ns l m)

  pub ways_in_range :
      (ns : List ℕ) → 1 ≤ w.lookahead → w.lookahead ≤ 900000 → All IsInRange (flat_map (ways_from w) ns)
  ways_in_range [] l m = All-nil IsInRange
  ways_in_range (n ∷ ns) l m =
      All-append IsInRange (ways_from w n) (flat_map (ways_from w) ns)
      (in_range_from n (numbers w) l m) (ways_in_range ns l m)
