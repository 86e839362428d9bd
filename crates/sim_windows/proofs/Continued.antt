-- A run that goes on from the setting to which it has come.
use Rattle.std.specs.Prelude.{IsNone, List, [], ℕ, ◌+◌, ◌++◌, ◌≡◌}
use Rattle.std.proofs.Common.{ap, append_assoc, arith, inl, inr, refl, subst, sym, ◌∙◌}
use Rattle.sim_clock.specs.declared.refusal.Refusal.{Refusal}
use Rattle.sim_clock.specs.declared.refusal.Refusal.TheVariants as refusals
use Rattle.sim_engine.specs.Engine.{Engine}
use Rattle.sim_engine.specs.Laws.{Conditions, SiteLaws}
use Rattle.sim_engine.specs.Limits.{IsOver, StopsWhere}
use Rattle.sim_engine.specs.Setting.{IsRunOf, Setting}
use Rattle.sim_engine.specs.Simulated.{IsSimulated, later}
use Rattle.sim_engine.specs.World.{Run, after, next_due}
use Rattle.sim_windows.specs.Gathered.{HasGathered, gathered}
use Rattle.sim_windows.specs.Sinks.{HasBegun, HasRun, HasStopped, HasTaken, StopsAt}
use Rattle.sim_windows.proofs.Gathering.{all_handed}
use Rattle.sim_windows.proofs.Later.{simulated_later}
use Rattle.sim_windows.proofs.Runs.{behind, joined, stays}
use Rattle.sim_windows.proofs.Sinking.{prefix_after}
use Rattle.sim_windows.proofs.Stopping.{stops_later}

module _ {Site Row Transfer : Type 0} {engine : Engine Site Row Transfer} {conditions : Conditions Site Transfer} (basics : SiteLaws engine conditions) where
  module _ (s : Setting Site) (n : ℕ) where
    -- the rows of the first handlings
    abbrev first : List Row
    first = (after engine s.horizon n s.opening).rows

    -- the run from there, after these rows, is the whole run
    whole_run : (r : Run engine) → IsRunOf engine (later engine n s) r → IsRunOf engine s (behind basics first r)
    whole_run r is =
        record { steps = is.steps + n; reached = joined basics s.horizon is.steps n s.opening ∙ ap (behind basics first) is.reached; ended = is.ended }

    -- and the whole run is such a one
    run_on_from : (r : Run engine) → IsRunOf engine s r → (x : Run engine) × (IsRunOf engine (later engine n s) x × (behind basics first x ≡ r))
    run_on_from r is =
        let start : List Site = s.opening in
        let k : ℕ = is.steps in
        let x : Run engine = after engine s.horizon k (after engine s.horizon n start).sites in
        let ended : IsNone (next_due engine s.horizon (after engine s.horizon k start).sites) = subst (λ (y : Run engine). IsNone (next_due engine s.horizon y.sites)) (sym is.reached) is.ended in
        let swap : k + n ≡ n + k = omega arith in
        let whole : after engine s.horizon (k + n) start ≡ r = ap (λ i. after engine s.horizon i start) swap ∙ stays basics s.horizon n k start ended ∙ is.reached in
        let same : behind basics first x ≡ r = sym (joined basics s.horizon k n start) ∙ whole in
        (x, (record { steps = k; reached = refl; ended = subst (λ (y : Run engine). IsNone (next_due engine s.horizon y.sites)) (sym same) is.ended }, same))

  module _ {K : Type 0} (took : K → List Row → K → Type 0) (took_both : (x y z : K) (xs ys : List Row) → took x xs y → took y ys z → took x (xs ++ ys) z) (s : Setting Site) (a b c : K) where
    taken_later : (n : ℕ) (sites : List Site) → took a (after engine s.horizon n s.opening).rows b → HasTaken engine took (later engine n s) b c sites → HasTaken engine took s a c sites
    taken_later n sites t h =
        record {
          run = behind basics (first s n) h.run;
          is = whole_run s n h.run h.is;
          taken = took_both a b c (first s n) h.run.rows t h.taken;
          sites_are = h.sites_are;
        }

    -- what was taken from there on, after what was taken before
    pub taken_on : (w : Setting Site) (sites : List Site) → HasBegun engine took s a w b → HasTaken engine took w b c sites → HasTaken engine took s a c sites
    taken_on w sites begun h = taken_later begun.steps sites begun.taken (subst (λ (x : Setting Site). HasTaken engine took x b c sites) (sym begun.is) h)

    module _ (broke : K → List Row → Refusal → K → Type 0) (broke_later : (x y z : K) (xs ys : List Row) (e : Refusal) → took x xs y → broke y ys e z → broke x (xs ++ ys) e z) where
      stopped_later : (n : ℕ) (e : Refusal) → took a (after engine s.horizon n s.opening).rows b → HasStopped engine took broke (later engine n s) b e c → HasStopped engine took broke s a e c
      stopped_later n e t h =
          let rows : List Row = first s n ++ h.rows in
          record {
            rows = rows;
            prefix = λ r is.
                let x = run_on_from s n r is in
                let more = h.prefix x.0 x.1.0 in
                (more.0, append_assoc (first s n) h.rows more.0 ∙ ap (λ z. first s n ++ z) more.1 ∙ ap (λ (y : Run engine). y.rows) x.1.1);
            at_rows =
                elim h.at_rows as (λ _. StopsAt engine took broke (StopsWhere (IsOver engine s)) rows a e c) [
                  | inl k ↦ inl (took_both a b c (first s n) h.rows t k.0, stops_later basics s.horizon n s.opening (after engine s.horizon n s.opening).sites e refl k.1)
                  | inr k ↦ inr (broke_later a b c (first s n) h.rows e t k)
                ];
          }

      -- a run that stops from there on
      pub stopped_on : (w : Setting Site) (e : Refusal) → HasBegun engine took s a w b → HasStopped engine took broke w b e c → HasStopped engine took broke s a e c
      stopped_on w e begun h = stopped_later begun.steps e begun.taken (subst (λ (x : Setting Site). HasStopped engine took broke x b e c) (sym begun.is) h)

  module _ {K : Type 0} (took : K → List Row → K → Type 0) (s : Setting Site) (a b : K) where
    -- a run that has come to its end
    pub taken_all : (w : Setting Site) → HasBegun engine took s a w b → IsNone (next_due engine s.horizon w.opening) → HasTaken engine took s a b w.opening
    taken_all w begun none =
        let sites : (after engine s.horizon begun.steps s.opening).sites ≡ w.opening = ap (λ (x : Setting Site). x.opening) begun.is in
        record {
          run = after engine s.horizon begun.steps s.opening;
          is = record { steps = begun.steps; reached = refl; ended = subst (λ v. IsNone (next_due engine s.horizon v)) (sym sites) none };
          taken = begun.taken;
          sites_are = sym sites;
        }

    -- a run that has done nothing
    pub begun_none : took a [] a → HasBegun engine took s a s a
    begun_none none = record { steps = 0; is = refl; taken = none }

    -- a run that stops there, since memory ran out
    pub stopped_there : (broke : K → List Row → Refusal → K → Type 0) (w : Setting Site) (e : Refusal) → e ≡ refusals.Memory → HasBegun engine took s a w b → HasStopped engine took broke s a e b
    stopped_there broke w e memory begun =
        record {
          rows = (after engine s.horizon begun.steps s.opening).rows;
          prefix = prefix_after basics s begun.steps;
          at_rows = inl (begun.taken, subst (StopsWhere (IsOver engine s)) (sym memory) tt);
        }

  module _ {K : Type 0} (took : K → List Row → K → Type 0) (took_both : (x y z : K) (xs ys : List Row) → took x xs y → took y ys z → took x (xs ++ ys) z) where
    -- a run that has come to some sites, once the sink takes what waits
    pub begun_at :
        (s x : Setting Site) (start sites items : List Site) (a b c : K) (none left : List Row) → x ≡ s → start ≡ x.opening → none ≡ [] → HasGathered engine took x.horizon start (gathered a none) sites (gathered b left)
        → took b left c → items ≡ sites → HasBegun engine took s a (record x { opening = items }) c
    begun_at s x start sites items a b c none left view opens empty ran last are =
        let here : HasRun engine took x.horizon x.opening a sites c =
        subst (λ w. HasRun engine took x.horizon w a sites c) opens (all_handed basics took took_both x.horizon start sites a b c none left empty ran last) in
        subst (λ (y : Setting Site). HasBegun engine took y a (record x { opening = items }) c) view
        (record { steps = here.steps; is = ap (λ (v : List Site). let y : Setting Site = record x { opening = v } in y) (here.reached ∙ sym are); taken = here.taken })

    -- the setting to which a run has come is simulated
    pub simulated_on : (s w : Setting Site) (a b : K) → HasBegun engine took s a w b → IsSimulated engine conditions s → IsSimulated engine conditions w
    simulated_on s w a b begun h = subst (IsSimulated engine conditions) begun.is (simulated_later basics s begun.steps h)
