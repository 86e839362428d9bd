-- The run of sound sites ends: what is due at a moment is handled to the last before anything later, and moments before the horizon are finitely many.
use Rattle.std.specs.Prelude.{All, IsNone, List, None, Option, Some, [], suc, zero, ℕ, ◌+◌, ◌<◌, ◌≡◌, ◌≤◌}
use Rattle.std.proofs.Common.{ap, arith, refl, subst, ◌∙◌}
use Rattle.std.proofs.lemmas.Bool.{cases_lt, le-leb, lt-leb}
use Rattle.std.proofs.lemmas.List.Elements.{All-weaker}
use Rattle.sim_clock.specs.declared.key.Key.{Key}
use Rattle.sim_engine.specs.World.{world_due, IsWholeRun, Run, Stepped, after, delivered, due_by, handled_among, next_due, run_on, stepped, stepped_at}
use Rattle.sim_engine.proofs.Counts.{tick_now, tick_past, tick}
use Rattle.sim_engine.proofs.WorldMoves.{FallsAmong, IsSoundWorld, among_falls, delivered_count, delivered_sound, tick_key, world_count, world_in, world_none}
use Rattle.sim_engine.specs.Engine.{Engine}
use Rattle.sim_engine.specs.Laws.{Conditions, SiteLaws}
use Rattle.sim_engine.proofs.Branches.{by_either}

module _ {Site Row Transfer : Type 0} {engine : Engine Site Row Transfer} {conditions : Conditions Site Transfer} (basics : SiteLaws engine conditions) where
  open engine use {transfer_key}

  -- a world after the handling of its least due, by a moment
  pub record Stepping (key : Key) (e : ℕ) (sites late : List Site) : Type 0 where
    pub sound : IsSoundWorld basics late
    pub fewer : world_count basics e late + tick e key.at ≤ world_count basics e sites

  pub step_falls : (key : Key) (e : ℕ) (sites : List Site) → e ≤ key.at → IsSoundWorld basics sites → world_due engine sites ≡ Some key → Stepping key e sites (delivered engine (handled_among engine key sites).sent (handled_among engine key sites).sites)
  step_falls key e sites l h d =
      let t : Stepped engine = handled_among engine key sites in
      let f : FallsAmong basics key e sites t = among_falls basics key e sites l h (world_in basics key sites d) in
      let later : All (λ (o : Transfer). e < (transfer_key o).at) t.sent = All-weaker (λ (o : Transfer). key.at < (transfer_key o).at) (λ (o : Transfer). e < (transfer_key o).at) (λ o k. omega arith) t.sent f.later in
      let n : world_count basics e (delivered engine t.sent t.sites) ≤ world_count basics e t.sites = delivered_count basics e t.sent t.sites later in
      let m : world_count basics e t.sites + tick e key.at ≤ world_count basics e sites = f.fewer in
      record { sound = delivered_sound basics t.sent t.sites f.sound; fewer = omega arith }

  -- the least due of a world is one that it has
  pub least_counts : (key : Key) (sites : List Site) → IsSoundWorld basics sites → world_due engine sites ≡ Some key → 1 ≤ world_count basics key.at sites
  least_counts key sites h d =
      let f : FallsAmong basics key key.at sites (handled_among engine key sites) = among_falls basics key key.at sites (omega arith) h (world_in basics key sites d) in
      let m : world_count basics key.at (handled_among engine key sites).sites + tick key.at key.at ≤ world_count basics key.at sites = f.fewer in
      omega (arith, tick_now key.at key.at (omega arith))

  module _ (horizon : ℕ) (start : List Site) where
    -- a world that the run reaches
    record Reached (r : Run engine) : Type 0 where
      pub steps : ℕ
      pub reached : after engine horizon steps start ≡ r
      pub sound : IsSoundWorld basics r.sites

    -- whether nothing is due before a moment
    abbrev IsFrom : ℕ → Run engine → Type 0
    IsFrom m r = (e : ℕ) → e < m → world_count basics e r.sites ≡ 0

    -- whether the run ends from each world with nothing due before a moment
    abbrev EndsFrom : ℕ → Type 0
    EndsFrom m = (r : Run engine) → Reached r → IsFrom m r → (x : Run engine) × IsWholeRun engine horizon start x

    ends_by : (m : ℕ) (r : Run engine) (o : Option Key) → Reached r → IsFrom m r → horizon < m → world_due engine r.sites ≡ o → IsNone (due_by horizon o)
    ends_by m r None c h l d = refl
    ends_by m r (Some key) c h l d =
        by_either (cases_lt horizon key.at) (λ k. rw (lt-leb key.at horizon k) refl)
        (λ k.
        let none : world_count basics key.at r.sites ≡ 0 = h key.at (omega arith) in absurd (omega (arith, least_counts key r.sites c.sound d)))

    -- past the horizon
    ended : (m : ℕ) → horizon < m → EndsFrom m
    ended m l r c h = (r, record { steps = c.steps; reached = c.reached; ended = ends_by m r (world_due engine r.sites) c h l refl })

    -- one more handling
    pub next_is : (key : Key) (r : Run engine) → world_due engine r.sites ≡ Some key → key.at ≤ horizon → stepped engine horizon r ≡ run_on engine r.rows (handled_among engine key r.sites)
    next_is key r d l =
        let n : next_due engine horizon r.sites ≡ Some key = rw (d, le-leb key.at horizon l) refl in ap (stepped_at engine r) n

    reached_next : (key : Key) (r : Run engine) → Reached r → world_due engine r.sites ≡ Some key → key.at ≤ horizon → Reached (run_on engine r.rows (handled_among engine key r.sites))
    reached_next key r c d l =
        record {
          steps = suc c.steps;
          reached = ap (stepped engine horizon) c.reached ∙ next_is key r d l;
          sound = (step_falls key 0 r.sites (omega arith) c.sound d).sound;
        }

    past_moment : (m : ℕ) (r : Run engine) → IsFrom m r → world_count basics m r.sites ≡ 0 → IsFrom (m + 1) r
    past_moment m r h z e l =
        by_either (cases_lt e m) (λ k. h e k) (λ k. let s : m ≡ e = omega arith in subst (λ (j : ℕ). world_count basics j r.sites ≡ 0) s z)

    due_handled :
        (m n : ℕ) (r : Run engine) (o : Option Key) → EndsFrom (m + 1) → m ≤ horizon → Reached r → IsFrom m r → world_count basics m r.sites ≤ suc n → world_due engine r.sites ≡ o
        → ((x : Run engine) → Reached x → IsFrom m x → world_count basics m x.sites ≤ n → (y : Run engine) × IsWholeRun engine horizon start y)
        → (x : Run engine) × IsWholeRun engine horizon start x
    due_handled m n r None later l c h b d again =
        let z : world_count basics m r.sites ≡ 0 = world_none basics m r.sites (ap (tick_key m) d) in later r c (past_moment m r h z)
    due_handled m n r (Some key) later l c h b d again =
        by_either (cases_lt m key.at) (λ k. later r c (past_moment m r h (world_none basics m r.sites (ap (tick_key m) d ∙ tick_past m key.at k))))
        (λ k.
        by_either (cases_lt key.at m)
        (λ j. let none : world_count basics key.at r.sites ≡ 0 = h key.at j in absurd (omega (arith, least_counts key r.sites c.sound d)))
        (λ j.
        let x : Run engine = run_on engine r.rows (handled_among engine key r.sites) in
        let f : Stepping key m r.sites x.sites = step_falls key m r.sites j c.sound d in
        again x (reached_next key r c d (omega arith))
        (λ e i.
        let v : world_count basics e r.sites ≡ 0 = h e i in
        let w : Stepping key e r.sites x.sites = step_falls key e r.sites (omega arith) c.sound d in omega (arith, w.fewer))
        (omega (arith, f.fewer, tick_now m key.at k))))

    -- all that is due at a moment is handled
    moment_ends : (m n : ℕ) → EndsFrom (m + 1) → m ≤ horizon → (r : Run engine) → Reached r → IsFrom m r → world_count basics m r.sites ≤ n → (x : Run engine) × IsWholeRun engine horizon start x
    moment_ends m zero later l r c h b = later r c (past_moment m r h (omega arith))
    moment_ends m (suc n) later l r c h b = due_handled m n r (world_due engine r.sites) later l c h b refl (moment_ends m n later l)

    -- moment after moment, to the horizon
    ends_from : (left m : ℕ) → horizon < m + left → EndsFrom m
    ends_from zero m l r c h = ended m (omega arith) r c h
    ends_from (suc left) m l r c h =
        by_either (cases_lt horizon m) (λ k. ended m k r c h) (λ k. moment_ends m (world_count basics m r.sites) (ends_from left (m + 1) (omega arith)) k r c h (omega arith))

  -- every run of sound sites ends
  pub ends : (horizon : ℕ) (start : List Site) → IsSoundWorld basics start → (r : Run engine) × IsWholeRun engine horizon start r
  ends horizon start h =
      let r : Run engine = record { sites = start; rows = [] } in
      let c : Reached horizon start r = record { steps = 0; reached = refl; sound = h } in
      ends_from horizon start (horizon + 1) 0 (omega arith) r c (λ e l. absurd (omega arith))
