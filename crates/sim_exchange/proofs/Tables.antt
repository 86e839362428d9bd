-- A table of distances, row by row.
use Rattle.std.specs.Prelude.{Bool, List, None, Option, [], false, get_or, if◌then◌else◌, length, nat_lt, true, ℕ, ◌&&◌, ◌*◌, ◌+◌, ◌++◌, ◌-◌, ◌<◌, ◌∷◌, ◌≡◌, ◌≤◌, ◌⊎◌}
use Rattle.std.proofs.Common.{ap, arith, inl, inr, refl, subst, sym, ◌∙◌}
use Rattle.std.proofs.Math.Nat.{mul-le-mul_right}
use Rattle.std.proofs.lemmas.Bool.{ltb-false, ltb-true}
use Rattle.std.proofs.lemmas.List.{get_or-append_right, get_or_append_left}
use Rattle.sim_engine.specs.declared.edge.Edge.{Edge}
use Rattle.sim_engine.specs.Bounds.{AreDistances, IsDistance, IsWalk}
use Rattle.sim_exchange.specs.Table.{Table, distance_in}

-- a cell stands in an earlier row than those of a later partition
pub earlier : (parts q start p : ℕ) → q < start → p < parts → q * parts + p < start * parts
earlier parts q start p h l =
    let n : q + 1 ≤ start = omega arith in
    let m : (q + 1) * parts ≤ start * parts = mul-le-mul_right parts n in omega arith

less_or_same : (q start : ℕ) → q < start + 1 → (q < start) ⊎ (q ≡ start)
less_or_same q start h = grind arith

module _ (owner : ℕ → ℕ) (ways : List Edge) where
  -- the rows of so many partitions
  abbrev pub AreRows : ℕ → ℕ → List (Option ℕ) → Type 0
  AreRows parts start cells = (q p : ℕ) → q < start → p < parts → IsDistance owner ways q p (get_or cells (q * parts + p) None)

  row_by :
      (parts start : ℕ) (cells line : List (Option ℕ)) → length cells ≡ start * parts → AreRows parts start cells → ((p : ℕ) → IsDistance owner ways start p (get_or line p None))
      → (q p : ℕ) → p < parts → (q < start) ⊎ (q ≡ start) → IsDistance owner ways q p (get_or (cells ++ line) (q * parts + p) None)
  row_by parts start cells line m h d q p l (inl k) = subst (IsDistance owner ways q p) (sym (get_or_append_left cells line None (q * parts + p) (omega (arith, earlier parts q start p k l)))) (h q p k l)
  row_by parts start cells line m h d q p l (inr k) =
      let e : q * parts ≡ start * parts = ap (λ (r : ℕ). r * parts) k in
      let n : q * parts + p - start * parts ≡ p = omega arith in
      let at : get_or (cells ++ line) (q * parts + p) None ≡ get_or line p None = get_or-append_right cells line (start * parts) (q * parts + p) None m (omega arith) ∙ ap (λ (i : ℕ). get_or line i None) n in
      subst (IsDistance owner ways q p) (sym at) (subst (λ (r : ℕ). IsDistance owner ways r p (get_or line p None)) (sym k) (d p))

  -- one more row
  pub rows_more :
      (parts start : ℕ) (cells line : List (Option ℕ)) → length cells ≡ start * parts → AreRows parts start cells → ((p : ℕ) → IsDistance owner ways start p (get_or line p None))
      → AreRows parts (start + 1) (cells ++ line)
  rows_more parts start cells line m h d q p k l = row_by parts start cells line m h d q p l (less_or_same q start k)

  -- a walk begins and ends at partitions
  begins : (q p : ℕ) (es : List Edge) → IsWalk owner ways q p es → (n : ℕ) × (owner n ≡ q)
  begins q p [] w = absurd w
  begins q p (e ∷ []) w = (e.from, w.1)
  begins q p (e ∷ (f ∷ es)) w = (e.from, w.1)

  ends : (q p : ℕ) (es : List Edge) → IsWalk owner ways q p es → (n : ℕ) × (owner n ≡ p)
  ends q p [] w = absurd w
  ends q p (e ∷ []) w = (e.to, w.2)
  ends q p (e ∷ (f ∷ es)) w = ends (owner e.to) p (f ∷ es) w.2

  cell_by :
      (t : Table) → ((n : ℕ) → owner n < t.parts) → AreRows t.parts t.parts t.cells → (q p : ℕ) (a b : Bool) → nat_lt q t.parts ≡ a → nat_lt p t.parts ≡ b
      → IsDistance owner ways q p (if a && b then get_or t.cells (q * t.parts + p) None else None)
  cell_by t below h q p true true e f = h q p (ltb-true q t.parts e) (ltb-true p t.parts f)
  cell_by t below h q p true false e f = λ es w.
      let n : (n : ℕ) × (owner n ≡ p) = ends q p es w in
      let l : owner n.0 < t.parts = below n.0 in
      let m : t.parts ≤ p = ltb-false p t.parts f in absurd (omega (arith, n.1))
  cell_by t below h q p false b e f = λ es w.
      let n : (n : ℕ) × (owner n ≡ q) = begins q p es w in
      let l : owner n.0 < t.parts = below n.0 in
      let m : t.parts ≤ q = ltb-false q t.parts e in absurd (omega (arith, n.1))

  -- a table of all rows has the distances
  pub table_distances : (t : Table) → ((n : ℕ) → owner n < t.parts) → AreRows t.parts t.parts t.cells → AreDistances owner ways (distance_in t)
  table_distances t below h q p = cell_by t below h q p _ _ refl refl
