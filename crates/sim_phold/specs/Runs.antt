-- How many events a run of PHOLD handles.
use Rattle.std.specs.Prelude.{List, length, ℕ, ◌+◌, ◌++◌, ◌≡◌}
use Rattle.std.proofs.Common.{arith}
use Rattle.std.proofs.lemmas.List.{length-append}
use Rattle.sim_engine.specs.Setting.{IsRunOf}
use Rattle.sim_engine.specs.World.{Run}
use Rattle.sim_phold.specs.declared.opening.Workload.{Workload}
use Rattle.sim_phold.specs.declared.process.Handling.{Handling}
use Rattle.sim_phold.specs.Opening.{phold_setting}
use Rattle.sim_phold.specs.Phold.{phold}

-- the run of a workload on one list, to a horizon, handles so many events: it has a row of each
pub record HandlesSoMany (w : Workload) (horizon events : ℕ) : Type 0 where
  pub run : Run phold
  pub is : IsRunOf phold (phold_setting w horizon) run
  pub events_are : events ≡ length run.rows

-- counts of some rows and then of others
pub counted_both :
    (a b c : ℕ) (xs ys : List Handling) → b ≡ a + length xs → c ≡ b + length ys → c ≡ a + length (xs ++ ys)
counted_both a b c xs ys h k = omega (arith, h, k, length-append xs ys)
