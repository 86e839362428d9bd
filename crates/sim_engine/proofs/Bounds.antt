-- The bounds of each partition's own are safe.
use Rattle.std.specs.Prelude.{List, None, Option, Some, [], suc, zero, ℕ, ◌+◌, ◌++◌, ◌<◌, ◌∷◌, ◌≡◌, ◌≤◌, ◌⊎◌}
use Rattle.std.proofs.Common.{arith, inl, inr, refl, subst, sym}
use Rattle.std.proofs.lemmas.Bool.{cases_lt}
use Rattle.sim_clock.specs.declared.key.Key.{Key}
use Rattle.sim_clock.specs.Order.{due_before, least}
use Rattle.sim_engine.specs.declared.edge.Edge.{Edge}
use Rattle.sim_engine.specs.Members.{In}
use Rattle.sim_engine.specs.Bounds.{AreDistances, IsDistance, IsWalk, latency_of, moment_of, own_bound, reached}
use Rattle.sim_engine.specs.Parts.{part_due}
use Rattle.sim_engine.proofs.Landing.{HoldsOff}
use Rattle.sim_engine.proofs.Machines.{IsRule}
use Rattle.sim_engine.proofs.Worlds.{not_before}
use Rattle.sim_engine.specs.Laws.{Conditions}
use Rattle.sim_engine.specs.Engine.{Engine}
use Rattle.sim_engine.proofs.Premises.{Premises}
use Rattle.sim_engine.proofs.Branches.{by_either}

-- nothing, or at most so much
abbrev IsWithinOf : ℕ → Option ℕ → Type 0
IsWithinOf most None = ⊥
IsWithinOf most (Some d) = d ≤ most

-- what is asked of distances past one more edge
abbrev GoesOnFrom : Option ℕ → ℕ → Option ℕ → Type 0
GoesOnFrom None least far = Unit {0}
GoesOnFrom (Some d) least far = IsWithinOf (d + least) far

-- nothing, or a millisecond at least
abbrev pub TakesOne : Option ℕ → Type 0
TakesOne None = Unit {0}
TakesOne (Some d) = 1 ≤ d

module _ {Site Row Transfer : Type 0} {engine : Engine Site Row Transfer} {conditions : Conditions Site Transfer} (given : Premises engine conditions) where
  open given use {setting, sound, owner, parts, owned}

  -- the bound of a partition by the dues of so many in a world
  abbrev pub bound_among : (ℕ → ℕ → Option ℕ) → List Site → ℕ → ℕ → ℕ
  bound_among distance sites p n = own_bound engine owner distance n setting.horizon sites p

  -- by the dues of all
  abbrev pub bound_rule : (ℕ → ℕ → Option ℕ) → List Site → ℕ → ℕ
  bound_rule distance = own_bound engine owner distance parts setting.horizon

  reached_on : (d : Option Key) (l : ℕ) (x y : Option ℕ) → GoesOnFrom x l y → reached setting.horizon (moment_of d) y ≤ reached setting.horizon (moment_of d) x + l ⊎ ((setting.horizon + 1) ≤ reached setting.horizon (moment_of d) x)
  reached_on None l x y h = inl (omega arith)
  reached_on (Some k) l None y h = inr (omega arith)
  reached_on (Some k) l (Some a) None h = absurd h
  reached_on (Some k) l (Some a) (Some b) h = inl (omega (arith, h))

  capped : (distance : ℕ → ℕ → Option ℕ) (sites : List Site) (p n : ℕ) → bound_among distance sites p n ≤ setting.horizon + 1
  capped distance sites p zero = omega arith
  capped distance sites p (suc q) = omega (arith, capped distance sites p q)

  bound_on :
      (distance : ℕ → ℕ → Option ℕ) (sites : List Site) (r p l : ℕ) → ((q : ℕ) → GoesOnFrom (distance q r) l (distance q p)) → (n : ℕ)
      → bound_among distance sites p n ≤ bound_among distance sites r n + l
  bound_on distance sites r p l h zero = omega arith
  bound_on distance sites r p l h (suc q) =
      let i : bound_among distance sites p q ≤ bound_among distance sites r q + l = bound_on distance sites r p l h q in
      let c : bound_among distance sites p q ≤ setting.horizon + 1 = capped distance sites p q in
      by_either (reached_on (part_due engine owner q sites) l (distance q r) (distance q p) (h q)) (λ k. omega (arith, i, k)) (λ k. omega (arith, i, k, c))

  least_reached : (distance : ℕ → ℕ → Option ℕ) (sites : List Site) (r p n : ℕ) → r < n → bound_among distance sites p n ≤ reached setting.horizon (moment_of (part_due engine owner r sites)) (distance r p)
  least_reached distance sites r p zero l = absurd (omega arith)
  least_reached distance sites r p (suc q) l =
      by_either (cases_lt r q) (λ e. omega (arith, least_reached distance sites r p q e))
      (λ n. let e : q ≡ r = omega arith in subst (λ k. bound_among distance sites p (suc q) ≤ reached setting.horizon (moment_of (part_due engine owner k sites)) (distance k p)) e (omega arith))

  due_off : (bound l : ℕ) (d : Option Key) (x : Option ℕ) → IsWithinOf l x → bound ≤ reached setting.horizon (moment_of d) x → HoldsOff bound l d
  due_off bound l None x h k = tt
  due_off bound l (Some j) None h k = absurd h
  due_off bound l (Some j) (Some a) h k = omega (arith, h, k)

  -- distances and edges
  one_edge : (e : Edge) (d : Option ℕ) → In setting.edges e → IsDistance owner setting.edges (owner e.from) (owner e.to) d → IsWithinOf e.least d
  one_edge e None i h = h (e ∷ []) (i, refl, refl)
  one_edge e (Some d) i h = let k : d ≤ latency_of (e ∷ []) = h.1 (e ∷ []) (i, refl, refl) in omega arith

  walk_on : (q : ℕ) (es : List Edge) (e : Edge) → In setting.edges e → IsWalk owner setting.edges q (owner e.from) es → IsWalk owner setting.edges q (owner e.to) (es ++ e ∷ [])
  walk_on q [] e i h = absurd h
  walk_on q (x ∷ []) e i h = (h.0, h.1, (i, sym h.2, refl))
  walk_on q (x ∷ (y ∷ ys)) e i h = (h.0, h.1, walk_on (owner x.to) (y ∷ ys) e i h.2)

  latency_push : (es : List Edge) (e : Edge) → latency_of (es ++ e ∷ []) ≡ latency_of es + e.least
  latency_push [] e = omega arith
  latency_push (x ∷ xs) e = omega (arith, latency_push xs e)

  more_edge : (q : ℕ) (e : Edge) (near far : Option ℕ) → In setting.edges e → IsDistance owner setting.edges q (owner e.from) near → IsDistance owner setting.edges q (owner e.to) far → GoesOnFrom near e.least far
  more_edge q e None far i h k = tt
  more_edge q e (Some d) None i h k = k (h.0.0 ++ e ∷ []) (walk_on q h.0.0 e i h.0.1)
  more_edge q e (Some d) (Some f) i h k =
      let l : f ≤ latency_of (h.0.0 ++ e ∷ []) = k.1 (h.0.0 ++ e ∷ []) (walk_on q h.0.0 e i h.0.1) in omega (arith, latency_push h.0.0 e, h.0.2)

  walk_long : (q p : ℕ) (es : List Edge) → IsWalk owner setting.edges q p es → 1 ≤ latency_of es
  walk_long q p [] h = absurd h
  walk_long q p (x ∷ []) h = let l : 1 ≤ x.least = sound.laws.takes_time x h.0 in omega arith
  walk_long q p (x ∷ (y ∷ ys)) h = let l : 1 ≤ x.least = sound.laws.takes_time x h.0 in omega arith

  pub takes_one : (q p : ℕ) (d : Option ℕ) → IsDistance owner setting.edges q p d → TakesOne d
  takes_one q p None h = tt
  takes_one q p (Some d) h = omega (arith, walk_long q p h.0.0 h.0.1, h.0.2)

  -- two walks, one after the other
  walk_join : (q r p : ℕ) (es fs : List Edge) → IsWalk owner setting.edges q r es → IsWalk owner setting.edges r p fs → IsWalk owner setting.edges q p (es ++ fs)
  walk_join q r p [] fs h k = absurd h
  walk_join q r p (x ∷ []) [] h k = absurd k
  walk_join q r p (x ∷ []) (f ∷ fs) h k = (h.0, h.1, subst (λ n. IsWalk owner setting.edges n p (f ∷ fs)) (sym h.2) k)
  walk_join q r p (x ∷ (y ∷ ys)) fs h k = (h.0, h.1, walk_join (owner x.to) r p (y ∷ ys) fs h.2 k)

  latency_join : (es fs : List Edge) → latency_of (es ++ fs) ≡ latency_of es + latency_of fs
  latency_join [] fs = omega arith
  latency_join (x ∷ xs) fs = omega (arith, latency_join xs fs)

  more_walk : (q r p : ℕ) (near far : Option ℕ) (d : ℕ) → IsDistance owner setting.edges q r near → IsDistance owner setting.edges r p (Some d) → IsDistance owner setting.edges q p far → GoesOnFrom near d far
  more_walk q r p None far d h i k = tt
  more_walk q r p (Some a) None d h i k = k (h.0.0 ++ i.0.0) (walk_join q r p h.0.0 i.0.0 h.0.1 i.0.1)
  more_walk q r p (Some a) (Some f) d h i k =
      let l : f ≤ latency_of (h.0.0 ++ i.0.0) = k.1 (h.0.0 ++ i.0.0) (walk_join q r p h.0.0 i.0.0 h.0.1 i.0.1) in omega (arith, latency_join h.0.0 i.0.0, h.0.2, i.0.2)

  -- a bound is no later than another and the distance from there
  pub bound_apart :
      (distance : ℕ → ℕ → Option ℕ) → AreDistances owner setting.edges distance → (w : List Site) (q p d : ℕ) → distance q p ≡ Some d
      → bound_rule distance w p ≤ bound_rule distance w q + d
  bound_apart distance a w q p d e =
      bound_on distance w q p d (λ r. more_walk r q p (distance r q) (distance r p) d (a r q) (subst (IsDistance owner setting.edges q p) e (a q p)) (a r p)) parts

  reached_from : (low near : ℕ) (d : Option Key) (x : Option ℕ) → low ≤ setting.horizon + 1 → due_before near d ≡ None → ((l : ℕ) → x ≡ Some l → low ≤ near + l) → low ≤ reached setting.horizon (moment_of d) x
  reached_from low near None x c n f = c
  reached_from low near (Some k) None c n f = c
  reached_from low near (Some k) (Some l) c n f = let a : near ≤ k.at = not_before near k n in let b : low ≤ near + l = f l refl in omega arith

  -- where nothing is due before some bounds, of which each is no later than another and the distance from there, new bounds are no earlier
  pub bound_grows :
      (distance : ℕ → ℕ → Option ℕ) (old : ℕ → ℕ) (w : List Site) (p n : ℕ) → old p ≤ setting.horizon + 1 → ((q : ℕ) → due_before (old q) (part_due engine owner q w) ≡ None)
      → ((q l : ℕ) → distance q p ≡ Some l → old p ≤ old q + l) → old p ≤ bound_among distance w p n
  bound_grows distance old w p zero c h f = c
  bound_grows distance old w p (suc q) c h f =
      let a : old p ≤ reached setting.horizon (moment_of (part_due engine owner q w)) (distance q p) = reached_from (old p) (old q) (part_due engine owner q w) (distance q p) c (h q) (f q) in
      let b : old p ≤ bound_among distance w p q = bound_grows distance old w p q c h f in omega arith

  pub own_rule : (distance : ℕ → ℕ → Option ℕ) → AreDistances owner setting.edges distance → IsRule given (bound_rule distance)
  own_rule distance d =
      record {
        safe = λ sites fine e i.
            record {
              due =
                  due_off (bound_among distance sites (owner e.to) parts) e.least (part_due engine owner (owner e.from) sites) (distance (owner e.from) (owner e.to)) (one_edge e (distance (owner e.from) (owner e.to)) i (d (owner e.from) (owner e.to)))
                  (least_reached distance sites (owner e.from) (owner e.to) parts (owned e.from));
              later = bound_on distance sites (owner e.from) (owner e.to) e.least (λ q. more_edge q e (distance q (owner e.from)) (distance q (owner e.to)) i (d q (owner e.from)) (d q (owner e.to))) parts;
            };
        capped = λ sites p. capped distance sites p parts;
      }
