-- Distances by walks: what is shortened by one way after another until nothing is shortened.
use Rattle.std.specs.Prelude.{All, Bool, List, None, Option, Some, [], false, get_or, if◌then◌else◌, length, set, suc, true, zero, ℕ, ◌*◌, ◌+◌, ◌++◌, ◌<◌, ◌==◌, ◌^◌, ◌∷◌, ◌≡◌, ◌≢◌, ◌≤◌}
use Rattle.std.proofs.Common.{ap, arith, eq-eqb, eqb-true, get_or-set_other, get_or-set_same, inl, inr, refl, subst, sym, ◌∙◌}
use Rattle.std.proofs.lemmas.Bool.{eqb-false}
use Rattle.std.proofs.lemmas.List.Elements.{All-head, All-tail}
use Rattle.std.proofs.lemmas.List.Sums.{sum_by-le, sum_by-set}
use Rattle.sim_engine.specs.Members.{In}
use Rattle.sim_engine.specs.declared.edge.Edge.{Edge}
use Rattle.sim_engine.specs.Bounds.{IsDistance, IsWalk, latency_of}
use Rattle.sim_exchange.specs.Line.{AreShort, AreWalked, IsNearer, IsSettled, IsWithin, distance_or_far, one_if_some, reached_count, so_far, total_of}

module _ (owner : ℕ → ℕ) (ways : List Edge) where
  -- a walk with one more way behind it
  pub walk_more : (s m p : ℕ) (es : List Edge) (e : Edge) → IsWalk owner ways s m es → In ways e → owner e.from ≡ m → owner e.to ≡ p → IsWalk owner ways s p (es ++ e ∷ [])
  walk_more s m p [] e w i f t = absurd w
  walk_more s m p (g ∷ []) e w i f t = (w.0, w.1, (i, f ∙ sym w.2, t))
  walk_more s m p (g ∷ (h ∷ hs)) e w i f t = (w.0, w.1, walk_more (owner g.to) m p (h ∷ hs) e w.2 i f t)

-- its latency
pub latency_more : (es : List Edge) (e : Edge) → latency_of (es ++ e ∷ []) ≡ latency_of es + e.least
latency_more [] e = omega arith
latency_more (f ∷ es) e = omega (arith, latency_more es e)

-- where a distance is known, so is one so far, and no greater
so_far_by : (d : Option ℕ) (y : ℕ) (b : Bool) → d ≡ Some y → (z : ℕ) × ((if b then Some 0 else d) ≡ Some z) × (z ≤ y)
so_far_by d y true e = (0, refl, omega arith)
so_far_by d y false e = (y, e, omega arith)

so_far_known : (start p y : ℕ) (line : List (Option ℕ)) → get_or line p None ≡ Some y → (z : ℕ) × (so_far start line p ≡ Some z) × (z ≤ y)
so_far_known start p y line e = so_far_by (get_or line p None) y (p == start) e

known_within : (d : Option ℕ) (x least : ℕ) → IsWithin d (Some x) least → (y : ℕ) × (d ≡ Some y) × (y ≤ x + least)
known_within None x least h = absurd h
known_within (Some y) x least h = (y, refl, h)

within_more : (d : Option ℕ) (x z first rest : ℕ) → IsWithin d (Some z) rest → z ≤ x + first → IsWithin d (Some x) (first + rest)
within_more None x z first rest h l = h
within_more (Some y) x z first rest h l = omega arith

module _ (owner : ℕ → ℕ) (ways : List Edge) (start : ℕ) (line : List (Option ℕ)) (settled : (e : Edge) → In ways e → IsSettled owner start line e) where
  -- a way from where the distance so far is known
  way_within : (q p x : ℕ) (e : Edge) → In ways e → owner e.from ≡ q → owner e.to ≡ p → so_far start line q ≡ Some x → IsWithin (get_or line p None) (Some x) e.least
  way_within q p x e i f t k =
      let a : IsWithin (get_or line p None) (so_far start line (owner e.from)) e.least = subst (λ (r : ℕ). IsWithin (get_or line r None) (so_far start line (owner e.from)) e.least) t (settled e i) in
      let b : IsWithin (get_or line p None) (so_far start line q) e.least = subst (λ (r : ℕ). IsWithin (get_or line p None) (so_far start line r) e.least) f a in
      subst (λ (s : Option ℕ). IsWithin (get_or line p None) s e.least) k b

  -- no walk is shorter than the distance where it leads
  walk_within : (q p x : ℕ) (es : List Edge) → IsWalk owner ways q p es → so_far start line q ≡ Some x → IsWithin (get_or line p None) (Some x) (latency_of es)
  walk_within q p x [] w k = absurd w
  walk_within q p x (e ∷ []) w k = subst (IsWithin (get_or line p None) (Some x)) (let n : e.least ≡ e.least + 0 = omega arith in n) (way_within q p x e w.0 w.1 w.2 k)
  walk_within q p x (e ∷ (f ∷ es)) w k =
      let a : (y : ℕ) × (get_or line (owner e.to) None ≡ Some y) × (y ≤ x + e.least) = known_within (get_or line (owner e.to) None) x e.least (way_within q (owner e.to) x e w.0 w.1 refl k) in
      let b : (z : ℕ) × (so_far start line (owner e.to) ≡ Some z) × (z ≤ a.0) = so_far_known start (owner e.to) a.0 line a.1 in
      within_more (get_or line p None) x b.0 e.least (latency_of (f ∷ es)) (walk_within (owner e.to) p b.0 (f ∷ es) w.2 b.1) (omega (arith, a.2, b.2))

  starts : so_far start line start ≡ Some 0
  starts = rw (eq-eqb start start refl) refl

  distance_by : AreWalked owner ways start line → (p : ℕ) (d : Option ℕ) → get_or line p None ≡ d → IsDistance owner ways start p d
  distance_by walked p None e = λ es w. subst (λ (s : Option ℕ). IsWithin s (Some 0) (latency_of es)) e (walk_within start p 0 es w starts)
  distance_by walked p (Some d) e =
      (walked p d e, λ es w. let h : d ≤ 0 + latency_of es = subst (λ (s : Option ℕ). IsWithin s (Some 0) (latency_of es)) e (walk_within start p 0 es w starts) in omega arith)

  -- what no way shortens are the distances
  pub are_distances : AreWalked owner ways start line → (p : ℕ) → IsDistance owner ways start p (get_or line p None)
  are_distances walked p = distance_by walked p _ refl

at_most_one : (d : Option ℕ) → one_if_some d ≤ 1
at_most_one None = omega arith
at_most_one (Some d) = omega arith

-- no more partitions are reached than there are
pub reached_le : (line : List (Option ℕ)) → reached_count line ≤ length line
reached_le line = omega (arith, sum_by-le one_if_some 1 line (λ p d h. at_most_one (get_or line p d)))

-- a distance so far is no greater than those known may be
short_by : (x n : ℕ) (d : Option ℕ) (b : Bool) → ((y : ℕ) → d ≡ Some y → y ≤ n) → (if b then Some 0 else d) ≡ Some x → x ≤ n
short_by x n d true h e = let z : 0 ≡ x = cc in omega arith
short_by x n d false h e = h x e

pub so_far_short : (start p x : ℕ) (line : List (Option ℕ)) → AreShort line → so_far start line p ≡ Some x → x ≤ 900000 * reached_count line
so_far_short start p x line h e = short_by x (900000 * reached_count line) (get_or line p None) (p == start) (h p) e

-- a place of a list that is set: there, and elsewhere
at_set : (line : List (Option ℕ)) (to p : ℕ) (v : Option ℕ) → to < length line → (b : Bool) → (p == to) ≡ b → get_or (set line to v) p None ≡ (if b then v else get_or line p None)
at_set line to p v l true e = let q : p ≡ to = eqb-true p to e in rw q (get_or-set_same line to v None l)
at_set line to p v l false e = let q : p ≢ to = eqb-false p to e in get_or-set_other line to p v None q

-- one place is set to a distance
module _ (line : List (Option ℕ)) (to d : ℕ) (within : to < length line) where
  set_by : (P : ℕ → ℕ → Type 0) → P to d → ((p k : ℕ) → get_or line p None ≡ Some k → P p k) → (p k : ℕ) → (b : Bool) → (p == to) ≡ b → get_or (set line to (Some d)) p None ≡ Some k → P p k
  set_by P here there p k true f e =
      let q : p ≡ to = eqb-true p to f in
      let v : Some d ≡ Some k = sym (at_set line to p (Some d) within true f) ∙ e in
      let dk : d ≡ k = cc in
      subst (λ (r : ℕ). P r k) (sym q) (subst (P to) dk here)
  set_by P here there p k false f e = there p k (sym (at_set line to p (Some d) within false f) ∙ e)

  set_each : (P : ℕ → ℕ → Type 0) → P to d → ((p k : ℕ) → get_or line p None ≡ Some k → P p k) → (p k : ℕ) → get_or (set line to (Some d)) p None ≡ Some k → P p k
  set_each P here there p k e = set_by P here there p k _ refl e

  count_set : reached_count (set line to (Some d)) + one_if_some (get_or line to None) ≡ reached_count line + 1
  count_set = sum_by-set one_if_some line to (Some d) None within

  short_at : (old : Option ℕ) → get_or line to None ≡ old → IsNearer d old → AreShort line → d ≤ 900000 * reached_count line + 900000 → AreShort (set line to (Some d))
  short_at None e n h l =
      let c : reached_count (set line to (Some d)) ≡ reached_count line + 1 = omega (arith, subst (λ (o : Option ℕ). reached_count (set line to (Some d)) + one_if_some o ≡ reached_count line + 1) e count_set) in
      set_each (λ p k. k ≤ 900000 * reached_count (set line to (Some d))) (omega arith) (λ p k f. let m : k ≤ 900000 * reached_count line = h p k f in omega arith)
  short_at (Some old) e n h l =
      let c : reached_count (set line to (Some d)) ≡ reached_count line = omega (arith, subst (λ (o : Option ℕ). reached_count (set line to (Some d)) + one_if_some o ≡ reached_count line + 1) e count_set) in
      let o : old ≤ 900000 * reached_count line = h to old e in
      set_each (λ p k. k ≤ 900000 * reached_count (set line to (Some d))) (omega arith) (λ p k f. let m : k ≤ 900000 * reached_count line = h p k f in omega arith)

  pub short_set : IsNearer d (get_or line to None) → AreShort line → d ≤ 900000 * reached_count line + 900000 → AreShort (set line to (Some d))
  short_set n h l = short_at _ refl n h l

  total_at : (old : Option ℕ) → get_or line to None ≡ old → IsNearer d old → d < 2 ^ 32 → total_of (set line to (Some d)) < total_of line
  total_at None e n l =
      let c : total_of (set line to (Some d)) + 2 ^ 32 ≡ total_of line + d = subst (λ (o : Option ℕ). total_of (set line to (Some d)) + distance_or_far o ≡ total_of line + d) e (sum_by-set distance_or_far line to (Some d) None within) in
      omega arith
  total_at (Some old) e n l =
      let c : total_of (set line to (Some d)) + old ≡ total_of line + d = subst (λ (o : Option ℕ). total_of (set line to (Some d)) + distance_or_far o ≡ total_of line + d) e (sum_by-set distance_or_far line to (Some d) None within) in
      omega arith

  -- all distances together fall
  pub total_falls : IsNearer d (get_or line to None) → d < 2 ^ 32 → total_of (set line to (Some d)) < total_of line
  total_falls n l = total_at _ refl n l

-- one place is set to the distance over one way more
module _ (owner : ℕ → ℕ) (ways : List Edge) (start x : ℕ) (line : List (Option ℕ)) (e : Edge) (there : In ways e) (walked : AreWalked owner ways start line) where
  walk_by : (b : Bool) → (owner e.from == start) ≡ b → (if b then Some 0 else get_or line (owner e.from) None) ≡ Some x → (es : List Edge) × IsWalk owner ways start (owner e.to) es × (latency_of es ≡ x + e.least)
  walk_by true f k = let z : 0 ≡ x = cc in (e ∷ [], (there, eqb-true (owner e.from) start f, refl), omega arith)
  walk_by false f k =
      let w : (es : List Edge) × IsWalk owner ways start (owner e.from) es × (latency_of es ≡ x) = walked (owner e.from) x k in
      (w.0 ++ e ∷ [], walk_more owner ways start (owner e.from) (owner e.to) w.0 e w.1 there refl refl, omega (arith, latency_more w.0 e, w.2))

  pub walked_set : so_far start line (owner e.from) ≡ Some x → owner e.to < length line → AreWalked owner ways start (set line (owner e.to) (Some (x + e.least)))
  walked_set k l =
      set_each line (owner e.to) (x + e.least) l (λ p d. (es : List Edge) × IsWalk owner ways start p es × (latency_of es ≡ d)) (walk_by _ refl k) walked

-- a test of each of some ways holds of each that is one of them
pub all_in : (P : Edge → Type 0) (ways : List Edge) → All P ways → (e : Edge) → In ways e → P e
all_in P [] h e i = absurd i
all_in P (w ∷ ws) h e (inl i) = subst P i (All-head P w ws h)
all_in P (w ∷ ws) h e (inr i) = all_in P ws (All-tail P w ws h) e i

pub in_get_or : (ways : List Edge) (k : ℕ) (d : Edge) → k < length ways → In ways (get_or ways k d)
in_get_or [] k d l = absurd (omega arith)
in_get_or (w ∷ ws) zero d l = inl refl
in_get_or (w ∷ ws) (suc k) d l = inr (in_get_or ws k d (omega arith))

-- a total that falls, or stays where nothing is changed
pub total_upto : (line more : List (Option ℕ)) (b : Bool) → (b ≡ true → total_of more < total_of line) → (b ≡ false → more ≡ line) → total_of more ≤ total_of line
total_upto line more true h k = let l : total_of more < total_of line = h refl in omega arith
total_upto line more false h k = let e : total_of more ≡ total_of line = ap total_of (k refl) in omega arith
