-- Counts that only grow and are within a limit at the end of a run are within it all the way.
use Rattle.std.specs.Prelude.{IsNone, List, None, Option, Some, [], map, max, suc, zero, ℕ, ◌++◌, ◌+◌, ◌<◌, ◌==◌, ◌∷◌, ◌≡◌, ◌≤◌}
use Rattle.std.proofs.Common.{ap, arith, refl, subst, sym, true≢false, ◌∙◌}
use Rattle.std.proofs.Math.Nat.{le-max_left, le-max_right, max-le}
use Rattle.sim_clock.specs.declared.key.Key.{Key}
use Rattle.sim_engine.specs.Counts.{greatest, run_count, sites_count}
use Rattle.sim_engine.specs.Engine.{Engine}
use Rattle.sim_engine.specs.Limits.{IsOver, most_count}
use Rattle.sim_engine.specs.Setting.{IsRunOf, Setting}
use Rattle.sim_engine.specs.World.{IsWholeRun, Run, after, delivered, delivered_one, handled_among, is_due, least_due, next_due, stepped, stepped_at}
use Rattle.sim_engine.proofs.Branches.{by_cases}

-- the greater of greater numbers is greater
pub max_up : (a b c d : ℕ) → a ≤ b → c ≤ d → max a c ≤ max b d
max_up a b c d h k = max-le (omega (arith, h, le-max_left b d)) (omega (arith, k, le-max_right b d))

-- so many more
abbrev later : ℕ → ℕ → ℕ
later zero n = n
later (suc more) n = suc (later more n)

later_is : (more n : ℕ) → later more n ≡ more + n
later_is zero n = omega arith
later_is (suc more) n = omega (arith, later_is more n)

-- the greatest of some numbers is no greater than that of them and others
greatest_more : {A : Type 0} (f : A → ℕ) (xs ys : List A) → greatest (map f xs) ≤ greatest (map f (xs ++ ys))
greatest_more f [] ys = omega arith
greatest_more f (x ∷ xs) ys = max_up (f x) (f x) _ _ (omega arith) (greatest_more f xs ys)

module _ {Site Row Transfer : Type 0} (engine : Engine Site Row Transfer) where
  open engine use {accepted, core, handled, number, site_count, to}

  -- what is asked of sites: a handling lowers no count, and a transfer on its way changes none
  module _ (grows : (key : Key) (s : Site) → site_count (core s) ≤ site_count (core (handled key s).site)) (kept : (o : Transfer) (s : Site) → core (accepted o s) ≡ core s) where
    among_up : (key : Key) (sites : List Site) → sites_count engine sites ≤ sites_count engine (handled_among engine key sites).sites
    among_up key [] = omega arith
    among_up key (s ∷ ss) =
        by_cases (is_due key (least_due engine s)) (λ e. rw e (max_up _ _ _ _ (grows key s) (omega arith))) (λ e. rw e (max_up _ _ _ _ (omega arith) (among_up key ss)))

    one_same : (o : Transfer) (sites : List Site) → sites_count engine (map (delivered_one engine o) sites) ≡ sites_count engine sites
    one_same o [] = refl
    one_same o (s ∷ ss) =
        by_cases (to o == number s) (λ e. rw (e, kept o s, one_same o ss) refl) (λ e. rw (e, one_same o ss) refl)

    delivered_same : (os : List Transfer) (sites : List Site) → sites_count engine (delivered engine os sites) ≡ sites_count engine sites
    delivered_same [] sites = refl
    delivered_same (o ∷ os) sites = delivered_same os (map (delivered_one engine o) sites) ∙ one_same o sites

    step_up : (r : Run engine) (due : Option Key) → run_count engine r ≤ run_count engine (stepped_at engine r due)
    step_up r None = omega arith
    step_up r (Some key) =
        let same = delivered_same (handled_among engine key r.sites).sent (handled_among engine key r.sites).sites in
        max_up _ _ _ _ (omega (arith, same, among_up key r.sites)) (greatest_more engine.row_count r.rows (handled_among engine key r.sites).rows)

    after_up : (horizon n more : ℕ) (start : List Site) → run_count engine (after engine horizon n start) ≤ run_count engine (after engine horizon (later more n) start)
    after_up horizon n zero start = omega arith
    after_up horizon n (suc more) start =
        let r : Run engine = after engine horizon (later more n) start in
        omega (arith, after_up horizon n more start, step_up r (next_due engine horizon r.sites))

    -- where nothing is left to handle, a run stays as it is
    at_none : (r : Run engine) (due : Option Key) → IsNone due → stepped_at engine r due ≡ r
    at_none r None none = refl
    at_none r (Some key) none = absurd (true≢false none)

    rests : (horizon : ℕ) (r : Run engine) → IsNone (next_due engine horizon r.sites) → stepped engine horizon r ≡ r
    rests horizon r none = at_none r (next_due engine horizon r.sites) none

    stays : (horizon n more : ℕ) (start : List Site) (r : Run engine) → after engine horizon n start ≡ r → IsNone (next_due engine horizon r.sites) → after engine horizon (later more n) start ≡ r
    stays horizon n zero start r e none = e
    stays horizon n (suc more) start r e none = ap (stepped engine horizon) (stays horizon n more start r e none) ∙ rests horizon r none

    -- no run on the way has come to a greater count than the whole one
    pub whole_most : (horizon : ℕ) (start : List Site) (r : Run engine) → IsWholeRun engine horizon start r → (n : ℕ) → run_count engine (after engine horizon n start) ≤ run_count engine r
    whole_most horizon start r whole n =
        let same : later n whole.steps ≡ later whole.steps n = omega (arith, later_is n whole.steps, later_is whole.steps n) in
        let turned : after engine horizon (later whole.steps n) start ≡ r =
        subst (λ k. after engine horizon k start ≡ r) same (stays horizon whole.steps n start r whole.reached whole.ended) in
        subst (λ x. run_count engine (after engine horizon n start) ≤ run_count engine x) turned (after_up horizon n whole.steps start)

    -- where a whole run has passed no limit of counts, it passes none on its way
    pub not_over : (s : Setting Site) (r : Run engine) → IsRunOf engine s r → run_count engine r ≤ most_count → IsOver engine s → ⊥
    not_over s r is within (n, past) = let most : run_count engine (after engine s.horizon n s.opening) ≤ run_count engine r = whole_most s.horizon s.opening r is n in absurd (omega arith)

  -- where a whole run has passed the limit of counts, it has so after its handlings
  pub over_by : (s : Setting Site) (r : Run engine) → IsRunOf engine s r → most_count < run_count engine r → IsOver engine s
  over_by s r is past = (is.steps, subst (λ (x : Run engine). most_count < run_count engine x) (sym is.reached) past)
