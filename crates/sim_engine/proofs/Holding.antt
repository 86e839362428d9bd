-- The laws on machines in every state.
use Rattle.sim_engine.proofs.Parts.{and_first}
use Rattle.sim_engine.proofs.Merged.{rows_ordered}
use Rattle.std.specs.Prelude.{List, Option, ℕ, not, ◌++◌, filter, true, ◌<◌, ◌≤◌, ◌≡◌}
use Rattle.std.proofs.Common.{◌∙◌, ap, arith, refl}
use Rattle.sim_engine.specs.World.{Run}
use Rattle.sim_engine.specs.Bounds.{AreDistances}
use Rattle.sim_engine.specs.Prefixes.{ComesToEnd, Holds, is_before, is_between, IsAsAfter}
use Rattle.sim_engine.proofs.Bounds.{own_rule, bound_rule}
use Rattle.sim_engine.proofs.EarlyRows.{rows_split, picked_whole, keep_all, picked_rows}
use Rattle.sim_engine.proofs.Finished.{machine_follows, a_run, machine, machine_whole}
use Rattle.sim_engine.proofs.Prefixes.{as_after}
use Rattle.sim_engine.proofs.Progress.{comes_to_end, own_live}
use Rattle.sim_engine.proofs.RunCounts.{run_counts}
use Rattle.sim_engine.specs.Setting.{IsRunOf}
use Rattle.sim_engine.specs.Laws.{Conditions}
use Rattle.sim_engine.specs.Engine.{Engine}
use Rattle.sim_engine.proofs.Premises.{Premises}
use Rattle.sim_engine.proofs.Machines.{Follows}
use Rattle.sim_engine.specs.Machine.{Machine}
use Rattle.sim_engine.specs.declared.picks.Pick.{Pick}
use Rattle.std.proofs.lemmas.Bool.{lt-ltb, ltb-true}

module _ {Site Row Transfer : Type 0} {engine : Engine Site Row Transfer} {conditions : Conditions Site Transfer} (given : Premises engine conditions) where
  open engine use {row_key}
  open given use {basics, setting, owner, parts}

  before_later : (from to : ℕ) (r : Row) → from ≤ to → is_before engine from r ≡ true → is_before engine to r ≡ true
  before_later from to r l e = let n : (row_key r).at < from = ltb-true (row_key r).at from e in lt-ltb (row_key r).at to (omega arith)

  module _ (distance : ℕ → ℕ → Option ℕ) (are : AreDistances owner setting.edges distance) where
    pub holds : Holds engine setting owner parts (bound_rule given distance)
    holds =
        let m : List Pick → Machine engine = machine given distance are in
        let follow : (picks : List Pick) → Follows given (m picks) = machine_follows given distance are in
        let run : (r : Run engine) × IsRunOf engine setting r = a_run given in
        record {
          first = λ picks p. as_after given run.0 run.1 (m picks) (follow picks) p;
          early = λ picks moment x w through. picked_rows given moment (is_before engine moment) (λ y e. e) x w (m picks) (follow picks) through;
          last = λ picks from x w f.
              ap (λ z. filter (is_before engine from) x.rows ++ z) (picked_whole given (λ y. not (is_before engine from y)) x w (m picks) (machine_whole given distance are picks f x w))
              ∙ rows_split basics from (λ y. true) (λ y e. refl) x.rows (rows_ordered given x w) ∙ keep_all basics x.rows;
          counts = λ picks p.
              let a : IsAsAfter engine owner setting.horizon setting.opening p (m picks) = as_after given run.0 run.1 (m picks) (follow picks) p in
              (a.steps, run_counts given (m picks) p a);
          next = λ picks from to x w l through.
              ap (λ z. filter (is_before engine from) x.rows ++ z)
              (picked_rows given to (is_between engine from to) (λ y e. and_first basics owner (is_before engine to y) (not (is_before engine from y)) e) x w (m picks) (follow picks) through)
              ∙ rows_split basics from (is_before engine to) (λ y e. before_later from to y l e) x.rows (rows_ordered given x w);
        }

    pub comes : ComesToEnd engine setting owner (bound_rule given distance)
    comes picks = comes_to_end given (bound_rule given distance) (own_rule given distance are) (own_live given distance are) (a_run given).0 (a_run given).1 (machine given distance are picks) (machine_follows given distance are picks)
