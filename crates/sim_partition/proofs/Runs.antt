-- How a partition goes on, handling by handling.
use Rattle.std.specs.Prelude.{All, List, None, Option, Some, map, max, suc, zero, ℕ, ◌+◌, ◌-◌, ◌++◌, ◌<◌, ◌≡◌, ◌≤◌}
use Rattle.std.proofs.Common.{ap, arith, refl, subst, sym, ◌∙◌}
use Rattle.std.proofs.lemmas.Bool.{le-ltb, lt-ltb}
use Rattle.sim_clock.specs.declared.key.Key.{Key}
use Rattle.sim_clock.specs.declared.refusal.Refusal.{Refusal}
use Rattle.sim_clock.specs.Order.{due_before}
use Rattle.sim_engine.specs.Rounds.{PartRun, part_after, part_begun, part_on, part_ran, part_ran_at}
use Rattle.sim_clock.specs.Firsts.{changed}
use Rattle.sim_engine.specs.World.{world_due, Stepped, handled_among}
use Rattle.sim_engine.specs.Counts.{rows_count, sites_count}
use Rattle.sim_partition.specs.Sites.{AreOfPast, IsLater}
use Rattle.sim_partition.specs.Steps.{Continues, StaysOfPast, StopsFrom, StopsRun, StopsStep, due_at, part_more, ran_count}
use Rattle.sim_partition.proofs.Handled.{due_here, numbers_among, past_sites, site_after}
use Rattle.sim_partition.proofs.Moments.{all_later}
use Rattle.sim_engine.specs.Limits.{Stops, StopsWhere, PassesCount, most_count}
use Rattle.sim_partition.proofs.Passing.{more_passes, rows_after, stops_for}
use Rattle.sim_engine.specs.Engine.{Engine}
use Rattle.sim_engine.specs.Laws.{Conditions, SiteLaws}

-- what is due later is sooner to a bound
sooner_by : (bound : ℕ) (key : Key) (o : Option Key) → key.at < bound → IsLater key.at o → bound - due_at bound o < bound - key.at
sooner_by bound key None l h = omega arith
sooner_by bound key (Some k) l h = omega (arith, h)

module _ {Site Row Transfer : Type 0} {engine : Engine Site Row Transfer} {conditions : Conditions Site Transfer} (basics : SiteLaws engine conditions) where
  open engine use {handled, core, number, site_count}
  open conditions use {Past}

  -- the sites of a run keep their numbers
  numbers_ran : (r : PartRun engine) (d : Option Key) → map number (part_ran_at engine r d).sites ≡ map number r.sites
  numbers_ran r None = refl
  numbers_ran r (Some key) = numbers_among basics key r.sites

  pub numbers_more : (bound n : ℕ) (r : PartRun engine) → map number (part_more engine bound n r).sites ≡ map number r.sites
  numbers_more bound zero r = refl
  numbers_more bound (suc n) r =
      let x : PartRun engine = part_more engine bound n r in
      numbers_ran x (due_before bound (world_due engine x.sites)) ∙ numbers_more bound n r

  -- one more handling
  next_is : (bound : ℕ) (key : Key) (r : PartRun engine) → world_due engine r.sites ≡ Some key → key.at < bound → part_ran engine bound r ≡ part_on engine r (handled_among engine key r.sites)
  next_is bound key r d l =
      let n : due_before bound (world_due engine r.sites) ≡ Some key = rw (d, lt-ltb key.at bound l) refl in ap (part_ran_at engine r) n

  pub goes_on : (bound : ℕ) (key : Key) (start r x : PartRun engine) → Continues engine bound start r → world_due engine r.sites ≡ Some key → key.at < bound → x ≡ part_on engine r (handled_among engine key r.sites) → Continues engine bound start x
  goes_on bound key start r x c d l e =
      record { steps = suc c.steps; reached = ap (part_ran engine bound) c.reached ∙ next_is bound key r d l ∙ sym e }

  -- handlings after handlings
  joined : (bound m n : ℕ) (r : PartRun engine) → part_more engine bound m (part_more engine bound n r) ≡ part_more engine bound (m + n) r
  joined bound zero n r = let e : n ≡ 0 + n = omega arith in ap (λ k. part_more engine bound k r) e
  joined bound (suc m) n r =
      let e : suc (m + n) ≡ suc m + n = omega arith in
      ap (part_ran engine bound) (joined bound m n r) ∙ ap (λ k. part_more engine bound k r) e

  pub continues_on : (bound : ℕ) (a b c : PartRun engine) → Continues engine bound a b → Continues engine bound b c → Continues engine bound a c
  continues_on bound a b c f g =
      record { steps = g.steps + f.steps; reached = sym (joined bound g.steps f.steps a) ∙ ap (part_more engine bound g.steps) f.reached ∙ g.reached }

  -- a partition that begins goes on so
  pub after_more : (bound n : ℕ) (sites : List Site) → part_after engine bound n sites ≡ part_more engine bound n (part_begun engine sites)
  after_more bound zero sites = refl
  after_more bound (suc n) sites = ap (part_ran engine bound) (after_more bound n sites)

  -- nothing is due before a moment that is not later
  pub none_due : (bound : ℕ) (key : Key) (w : List Site) → world_due engine w ≡ Some key → bound ≤ key.at → due_before bound (world_due engine w) ≡ None
  none_due bound key w d l = rw (d, le-ltb key.at bound l) refl

  -- a handling that stops at its site
  pub stops_here : (key : Key) (w : List Site) (s : Site) (e : Refusal)
      → handled_among engine key w ≡ record { sites = changed (due_here basics key) (site_after basics key) w; rows = (handled key s).rows; sent = (handled key s).sent }
      → site_count (core (site_after basics key s)) ≤ sites_count engine (changed (due_here basics key) (site_after basics key) w)
      → Stops engine (handled key s) e → StopsStep engine (handled_among engine key w) e
  stops_here key w s e among counted p =
      let t : Stepped engine = record { sites = changed (due_here basics key) (site_after basics key) w; rows = (handled key s).rows; sent = (handled key s).sent } in
      let n : ℕ = sites_count engine t.sites in
      let k : ℕ = rows_count engine t.rows in
      rw among
      (stops_for (PassesCount engine (handled key s)) (most_count < max n k) e
      (more_passes (site_count (core (site_after basics key s))) k n k counted (omega arith)) p)

  -- with rows before it too
  pub stops_after : (r : PartRun engine) (t : Stepped engine) (e : Refusal) → StopsStep engine t e → StopsWhere (most_count < ran_count engine (part_on engine r t)) e
  stops_after r t e p =
      let n : ℕ = sites_count engine t.sites in
      stops_for (most_count < max n (rows_count engine t.rows)) (most_count < ran_count engine (part_on engine r t)) e
      (more_passes n (rows_count engine t.rows) n (rows_count engine (r.rows ++ t.rows)) (omega arith) (rows_after basics r.rows t.rows)) p

  -- a run that has come so far stops where its next handling does
  pub stops_on : (bound : ℕ) (start x : PartRun engine) (e : Refusal) → Continues engine bound start x → StopsWhere (most_count < ran_count engine x) e → StopsFrom engine bound start e
  stops_on bound start x e c p =
      stops_for (most_count < ran_count engine x) ((n : ℕ) × (most_count < ran_count engine (part_more engine bound n start))) e
      (λ passes. (c.steps, subst (λ (r : PartRun engine). most_count < ran_count engine r) (sym c.reached) passes)) p

  -- where a run that another has come to stops, the other does
  pub stops_later : (bound : ℕ) (start x : PartRun engine) (e : Refusal) → Continues engine bound start x → StopsFrom engine bound x e → StopsFrom engine bound start e
  stops_later bound start x e c p =
      let reached : (n : ℕ) → part_more engine bound (n + c.steps) start ≡ part_more engine bound n x = λ n. sym (joined bound n c.steps start) ∙ ap (part_more engine bound n) c.reached in
      stops_for ((n : ℕ) × (most_count < ran_count engine (part_more engine bound n x))) ((n : ℕ) × (most_count < ran_count engine (part_more engine bound n start))) e
      (λ passes. (passes.0 + c.steps, subst (λ (r : PartRun engine). most_count < ran_count engine r) (sym (reached passes.0)) passes.1)) p

  -- from its beginning
  pub stops_run : (bound : ℕ) (sites : List Site) (e : Refusal) → StopsFrom engine bound (part_begun engine sites) e → StopsRun engine bound sites e
  stops_run bound sites e p =
      stops_for ((n : ℕ) × (most_count < ran_count engine (part_more engine bound n (part_begun engine sites)))) ((n : ℕ) × (most_count < ran_count engine (part_after engine bound n sites))) e
      (λ passes. (passes.0, subst (λ (r : PartRun engine). most_count < ran_count engine r) (sym (after_more bound passes.0 sites)) passes.1)) p

  -- a handling leaves nothing from after a later moment
  pub stays_handled : (key : Key) (from : ℕ) (w v : List Site) → key.at ≤ from → AreOfPast conditions w (Some key) → v ≡ (handled_among engine key w).sites → StaysOfPast conditions from w v
  stays_handled key from w v l h e moment m p = subst (All (Past moment)) (sym e) (all_later basics key.at moment (handled_among engine key w).sites (omega arith) (past_sites basics key w h))

  pub sooner : (bound : ℕ) (key : Key) (w : List Site) (o : Option Key) → world_due engine w ≡ Some key → key.at < bound → IsLater key.at o → bound - due_at bound o < bound - due_at bound (world_due engine w)
  sooner bound key w o d l h = rw d (sooner_by bound key o l h)
