-- What a sink and the rows that wait take in turn they take together.
use Rattle.std.specs.Prelude.{List, [], zero, ◌++◌, ◌≡◌, ℕ}
use Rattle.std.proofs.Common.{ap, append_assoc, inl, inr, refl, subst, sym, ◌∙◌}
use Rattle.std.proofs.lemmas.List.{append-nil}
use Rattle.sim_clock.specs.declared.refusal.Refusal.{Refusal}
use Rattle.sim_engine.specs.Engine.{Engine}
use Rattle.sim_engine.specs.Laws.{Conditions, SiteLaws}
use Rattle.sim_engine.specs.Setting.{Setting}
use Rattle.sim_engine.specs.World.{after}
use Rattle.sim_windows.specs.Gathered.{Breaks, Gathered, Gathers, HaltsGathering, HandsFirst, HasGathered, gathered}
use Rattle.sim_windows.specs.Sinks.{HasHalted, HasRun, HasStopped, IsPrefixOfRun}
use Rattle.sim_windows.proofs.Sinking.{halts_on, prefix_after, runs_on}

module _ {K Row : Type 0} (took : K → List Row → K → Type 0) where
  -- rows that wait after some that the sink took
  abbrev behind : (a b c h xs ys w : List Row) → a ++ xs ≡ h ++ b → b ++ ys ≡ c ++ w → a ++ (xs ++ ys) ≡ (h ++ c) ++ w
  behind a b c h xs ys w e f = sym (append_assoc a xs ys) ∙ ap (λ z. z ++ ys) e ∙ append_assoc h b ys ∙ ap (λ z. h ++ z) f ∙ sym (append_assoc h c w)

  pub gathers_none : ((k : K) → took k [] k) → (x : Gathered K Row) → Gathers took x [] x
  gathers_none none x = ([], (append-nil x.waiting, none x.sink))

  module _ (took_both : (x y z : K) (xs ys : List Row) → took x xs y → took y ys z → took x (xs ++ ys) z) where
    pub gathers_both : (x y z : Gathered K Row) (xs ys : List Row) → Gathers took x xs y → Gathers took y ys z → Gathers took x (xs ++ ys) z
    gathers_both x y z xs ys (h, p) (c, q) = (h ++ c, (behind x.waiting y.waiting c h xs ys z.waiting p.0 q.0, took_both x.sink y.sink z.sink h c p.1 q.1))

    module _ (broke : K → List Row → Refusal → K → Type 0) (broke_later : (x y z : K) (xs ys : List Row) (e : Refusal) → took x xs y → broke y ys e z → broke x (xs ++ ys) e z) where
      pub breaks_later : (x y z : Gathered K Row) (xs ys : List Row) (e : Refusal) → Gathers took x xs y → Breaks broke y ys e z → Breaks broke x (xs ++ ys) e z
      breaks_later x y z xs ys e (h, p) (c, q) = (h ++ c, (q.0, (behind x.waiting y.waiting c h xs ys q.0 p.0 q.1.0, broke_later x.sink y.sink z.sink h c e p.1 q.1.1)))

module _ {Site Row Transfer : Type 0} {engine : Engine Site Row Transfer} {conditions : Conditions Site Transfer} (basics : SiteLaws engine conditions) where
  module _ {K : Type 0} (took : K → List Row → K → Type 0) (took_both : (x y z : K) (xs ys : List Row) → took x xs y → took y ys z → took x (xs ++ ys) z) where
    -- some handlings after others
    pub gathered_on : (horizon : ℕ) (start w end : List Site) (a b c : Gathered K Row) → HasGathered engine took horizon start a w b → HasGathered engine took horizon w b end c → HasGathered engine took horizon start a end c
    gathered_on horizon start w end a b c p q = runs_on basics (Gathers took) horizon (gathers_both took took_both) start w end a b c p q

    -- some rows that waited are handed on, and nothing is handled
    pub handed_on : (horizon : ℕ) (w : List Site) (a b : K) (rows left : List Row) → HandsFirst took a rows b left → HasGathered engine took horizon w (gathered a rows) w (gathered b left)
    handed_on horizon w a b rows left h = record { steps = zero; reached = refl; taken = (h.0, (append-nil rows ∙ h.1.0, h.1.1)) }

    -- once the sink takes what waits, it has taken all
    pub all_handed :
        (horizon : ℕ) (start sites : List Site) (a b c : K) (begun left : List Row) → begun ≡ [] → HasGathered engine took horizon start (gathered a begun) sites (gathered b left) → took b left c
        → HasRun engine took horizon start a sites c
    all_handed horizon start sites a b c begun left none ran last =
        let rows : List Row = (after engine horizon ran.steps start).rows in
        let first : List Row = ran.taken.0 in
        let whole : first ++ left ≡ rows = sym ran.taken.1.0 ∙ ap (λ z. z ++ rows) none in
        record { steps = ran.steps; reached = ran.reached; taken = subst (λ z. took a z c) whole (took_both a b c first left ran.taken.1.1 last) }

    module _ (broke : K → List Row → Refusal → K → Type 0) (broke_later : (x y z : K) (xs ys : List Row) (e : Refusal) → took x xs y → broke y ys e z → broke x (xs ++ ys) e z) where
      -- the sink breaks at rows that waited
      pub handing_halts : (horizon : ℕ) (w : List Site) (a b : K) (rows : List Row) (e : Refusal) → broke a rows e b → HaltsGathering engine took broke horizon w (gathered a rows) e b
      handing_halts horizon w a b rows e broken = ([], record { steps = zero; at_rows = inr (rows, ([], (refl, broken))) })

      -- a run stops where what it has come to does
      pub gathering_halts : (horizon : ℕ) (start w : List Site) (a b : Gathered K Row) (c : K) (e : Refusal) → HasGathered engine took horizon start a w b → HaltsGathering engine took broke horizon w b e c → HaltsGathering engine took broke horizon start a e c
      gathering_halts horizon start w a b c e p (left, q) =
          (left, halts_on basics (Gathers took) horizon (Breaks broke) (gathers_both took took_both) (breaks_later took took_both broke broke_later) start w a b (gathered c left) e p q)

  module _ {K : Type 0} (took : K → List Row → K → Type 0) (broke : K → List Row → Refusal → K → Type 0) (s : Setting Site) where
    -- the first rows of a run are some that it begins with
    first_of : (n : ℕ) (first left : List Row) → (after engine s.horizon n s.opening).rows ≡ first ++ left → IsPrefixOfRun engine s first
    first_of n first left e r is =
        let more : (rest : List Row) × ((after engine s.horizon n s.opening).rows ++ rest ≡ r.rows) = prefix_after basics s n r is in
        (left ++ more.0, sym (append_assoc first left more.0) ∙ ap (λ z. z ++ more.0) (sym e) ∙ more.1)

    -- a run that stops while rows wait
    pub stops_gathering : (horizon : ℕ) (start : List Site) (a b : K) (begun : List Row) (e : Refusal) → begun ≡ [] → horizon ≡ s.horizon → start ≡ s.opening → HaltsGathering engine took broke horizon start (gathered a begun) e b → HasStopped engine took broke s a e b
    stops_gathering horizon start a b begun e none h o halts =
        let here = subst (λ w. HaltsGathering engine took broke s.horizon w (gathered a begun) e b) o (subst (λ n. HaltsGathering engine took broke n start (gathered a begun) e b) h halts) in
        let halted : HasHalted engine (Gathers took) (Breaks broke) s.horizon s.opening (gathered a begun) e (gathered b here.0) = here.1 in
        let rows : List Row = (after engine s.horizon halted.steps s.opening).rows in
        elim halted.at_rows as (λ _. HasStopped engine took broke s a e b) [
          | inl k ↦ record { rows = k.0.0; prefix = first_of halted.steps k.0.0 here.0 (ap (λ z. z ++ rows) (sym none) ∙ k.0.1.0); at_rows = inl (k.0.1.1, k.1) }
          | inr k ↦ record { rows = k.0; prefix = first_of halted.steps k.0 k.1.0 (ap (λ z. z ++ rows) (sym none) ∙ k.1.1.0); at_rows = inr k.1.1.1 }
        ]

    module _ (took_both : (x y z : K) (xs ys : List Row) → took x xs y → took y ys z → took x (xs ++ ys) z) (broke_later : (x y z : K) (xs ys : List Row) (e : Refusal) → took x xs y → broke y ys e z → broke x (xs ++ ys) e z) where
      -- one whose sink breaks at the last rows
      pub stops_last : (horizon : ℕ) (start sites : List Site) (a b c : K) (begun left : List Row) (e : Refusal) → begun ≡ [] → horizon ≡ s.horizon → start ≡ s.opening → HasGathered engine took horizon start (gathered a begun) sites (gathered b left) → broke b left e c → HasStopped engine took broke s a e c
      stops_last horizon start sites a b c begun left e none h o ran last =
          let here : HasGathered engine took s.horizon s.opening (gathered a begun) sites (gathered b left) = subst (λ w. HasGathered engine took s.horizon w (gathered a begun) sites (gathered b left)) o (subst (λ n. HasGathered engine took n start (gathered a begun) sites (gathered b left)) h ran) in
          let rows : List Row = (after engine s.horizon here.steps s.opening).rows in
          let first : List Row = here.taken.0 in
          let whole : first ++ left ≡ rows = sym here.taken.1.0 ∙ ap (λ z. z ++ rows) none in
          record { rows = rows; prefix = prefix_after basics s here.steps; at_rows = inr (subst (λ z. broke a z e c) whole (broke_later a b c first left e here.taken.1.1 last)) }
