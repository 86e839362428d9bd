-- The counts of a partition of a machine are within those of the one-list run.
use Rattle.std.specs.Prelude.{List, [], map, max, ℕ, ◌++◌, ◌==◌, ◌∷◌, ◌≡◌, ◌≤◌}
use Rattle.std.proofs.Common.{ap, arith, refl, sym, ◌∙◌}
use Rattle.sim_engine.specs.Counts.{greatest, rows_count, run_count, sites_count}
use Rattle.sim_engine.specs.World.{Run}
use Rattle.sim_engine.specs.Machine.{Machine, of_name}
use Rattle.sim_engine.specs.Parts.{Entry, part_of}
use Rattle.sim_engine.specs.Prefixes.{IsAsAfter, part_count}
use Rattle.sim_engine.specs.Theorems.{rows_by, rows_of}
use Rattle.sim_engine.proofs.OneList.{IsTurns, run_after, run_told, turns}
use Rattle.sim_engine.specs.Laws.{Conditions, SiteLaws}
use Rattle.sim_engine.specs.Engine.{Engine}
use Rattle.sim_engine.proofs.Premises.{Premises}
use Rattle.sim_engine.proofs.Branches.{by_cases}

module _ {Site Row Transfer : Type 0} {engine : Engine Site Row Transfer} {conditions : Conditions Site Transfer} (basics : SiteLaws engine conditions) where
  open engine use {number, Core, core, site_count}

  -- counts of sites are counts of their cores
  abbrev pub cores_count : List Core → ℕ
  cores_count cs = greatest (map site_count cs)

  pub sites_cores : (w : List Site) → sites_count engine w ≡ cores_count (map core w)
  sites_cores [] = refl
  sites_cores (s ∷ ss) = ap (max (site_count (core s))) (sites_cores ss)

  part_less : (owner : ℕ → ℕ) (p : ℕ) (w : List Site) → sites_count engine (part_of engine owner p w) ≤ sites_count engine w
  part_less owner p [] = omega arith
  part_less owner p (s ∷ ss) =
      let i : sites_count engine (part_of engine owner p ss) ≤ sites_count engine ss = part_less owner p ss in
      by_cases (owner (number s) == p) (λ e. rw e (omega (arith, i))) (λ e. rw e (omega (arith, i)))

  rows_joined : (xs ys : List Row) → rows_count engine (xs ++ ys) ≡ max (rows_count engine xs) (rows_count engine ys)
  rows_joined [] ys = omega arith
  rows_joined (x ∷ xs) ys = omega (arith, rows_joined xs ys)

  name_less : (p : ℕ) (l : List (ℕ × Entry engine)) → rows_count engine (rows_of engine (of_name p l)) ≤ rows_count engine (rows_of engine l)
  name_less p [] = omega arith
  name_less p (x ∷ xs) =
      let i : rows_count engine (rows_of engine (of_name p xs)) ≤ rows_count engine (rows_of engine xs) = name_less p xs in
      by_cases (x.0 == p)
      (λ e. rw e (omega (arith, i, rows_joined x.1.rows (rows_of engine (of_name p xs)), rows_joined x.1.rows (rows_of engine xs))))
      (λ e. rw e (omega (arith, i, rows_joined x.1.rows (rows_of engine xs))))

module _ {Site Row Transfer : Type 0} {engine : Engine Site Row Transfer} {conditions : Conditions Site Transfer} (given : Premises engine conditions) where
  open engine use {number, Core, core, site_count}
  open given use {basics, setting, Fine, owner}

  pub run_counts : (m : Machine engine) (p : ℕ) (a : IsAsAfter engine owner setting.horizon setting.opening p m) → part_count engine owner p m ≤ run_count engine (run_after given a.steps)
  run_counts m p a =
      let r : Run engine = run_after given a.steps in
      let old : List (ℕ × Entry engine) = run_told given a.steps in
      let t : IsTurns given old r = turns given a.steps in
      let same : sites_count engine (part_of engine owner p m.sites) ≡ sites_count engine (part_of engine owner p r.sites) = sites_cores basics (part_of engine owner p m.sites) ∙ ap (cores_count basics) (sym a.cores) ∙ sym (sites_cores basics (part_of engine owner p r.sites)) in
      let own : rows_count engine (rows_by engine m.told p) ≡ rows_count engine (rows_by engine old p) = ap (λ l. rows_count engine (rows_of engine l)) (sym a.told) in
      let all : rows_count engine (rows_of engine old) ≡ rows_count engine r.rows = ap (rows_count engine) (ap (rows_of engine) (sym t.told) ∙ t.rows) in
      omega (arith, same, own, all, part_less basics owner p r.sites, name_less basics p old)
