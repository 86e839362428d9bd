-- A change of the task of a number among a site's tasks.
use Rattle.std.specs.Prelude.{List, Some, find, ℕ, ◌≡◌}
use Rattle.sim_clock.specs.Firsts.{changed}
use Rattle.sqs_model.specs.Site.{is_task}
use Rattle.sqs_model.specs.Task.{Task}

-- the task of a number is rewritten
pub record Rewritten (n : ℕ) (change : Task → Task) (old new : List Task) : Type 0 where
  pub before : Task
  pub found : find (is_task n) old ≡ Some before
  pub list : new ≡ changed (is_task before.number) (λ _. change before) old
