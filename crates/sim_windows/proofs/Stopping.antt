-- Where a handling takes a count past the limit, the run does.
use Rattle.std.specs.Prelude.{List, Some, max, suc, zero, ℕ, ◌+◌, ◌<◌, ◌≡◌, ◌≤◌}
use Rattle.std.proofs.Common.{ap, arith, subst, sym, ◌∙◌}
use Rattle.sim_clock.specs.declared.key.Key.{Key}
use Rattle.sim_clock.specs.declared.refusal.Refusal.{Refusal}
use Rattle.sim_engine.specs.Engine.{Engine}
use Rattle.sim_engine.specs.Laws.{Conditions, SiteLaws}
use Rattle.sim_engine.specs.Counts.{rows_count, run_count, sites_count}
use Rattle.sim_engine.specs.Limits.{most_count}
use Rattle.sim_engine.specs.World.{Run, Stepped, after, delivered, handled_among, world_due}
use Rattle.sim_engine.proofs.Prefixes.{delivered_cores}
use Rattle.sim_engine.proofs.RunCounts.{cores_count, sites_cores}
use Rattle.sim_partition.specs.Steps.{StopsStep}
use Rattle.sim_partition.proofs.Passing.{more_passes, rows_after, stops_for}
use Rattle.sim_windows.specs.Sinks.{StopsRun}
use Rattle.sim_windows.proofs.Runs.{behind, joined, one_after}

module _ {Site Row Transfer : Type 0} {engine : Engine Site Row Transfer} {conditions : Conditions Site Transfer} (basics : SiteLaws engine conditions) where
  open engine use {number, accepted, to, core, site_count}
  open basics use {kept_core}

  -- what is delivered counts nothing
  delivered_counts : (os : List Transfer) (w : List Site) → sites_count engine (delivered engine os w) ≡ sites_count engine w
  delivered_counts os w =
      sites_cores basics (delivered engine os w) ∙ ap (cores_count basics) (delivered_cores basics os w) ∙ sym (sites_cores basics w)

  -- a handling that stops its partition stops the run
  pub stops_at : (horizon : ℕ) (key : Key) (w : List Site) (e : Refusal) → world_due engine w ≡ Some key → key.at ≤ horizon → StopsStep engine (handled_among engine key w) e → StopsRun engine horizon w e
  stops_at horizon key w e d l p =
      let t : Stepped engine = handled_among engine key w in
      let same : max (sites_count engine t.sites) (rows_count engine t.rows) ≡ run_count engine (after engine horizon (suc zero) w) = ap (λ n. max n (rows_count engine t.rows)) (sym (delivered_counts t.sent t.sites)) ∙ ap (run_count engine) (sym (one_after basics horizon key w d l)) in
      stops_for (most_count < max (sites_count engine t.sites) (rows_count engine t.rows)) ((n : ℕ) × (most_count < run_count engine (after engine horizon n w))) e
      (λ passes. (suc zero, subst (λ n. most_count < n) same passes)) p

  -- where a run stops that another has come to, the other does
  pub stops_later : (horizon n : ℕ) (start w : List Site) (e : Refusal) → (after engine horizon n start).sites ≡ w → StopsRun engine horizon w e → StopsRun engine horizon start e
  stops_later horizon n start w e reached p =
      let x : Run engine = after engine horizon n start in
      let passes : (m : ℕ) → most_count < run_count engine (after engine horizon m x.sites) → most_count < run_count engine (after engine horizon (m + n) start) =
      λ m h.
      let y : Run engine = after engine horizon m x.sites in
      subst (λ (r : Run engine). most_count < run_count engine r) (sym (joined basics horizon m n start))
      (more_passes (sites_count engine y.sites) (rows_count engine y.rows) (sites_count engine y.sites) (rows_count engine (behind basics x.rows y).rows) (omega arith) (rows_after basics x.rows y.rows) h) in
      stops_for ((m : ℕ) × (most_count < run_count engine (after engine horizon m x.sites))) ((m : ℕ) × (most_count < run_count engine (after engine horizon m start))) e
      (λ over. (over.0 + n, passes over.0 over.1)) (subst (λ (sites : List Site). StopsRun engine horizon sites e) (sym reached) p)
