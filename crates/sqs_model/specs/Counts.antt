-- The greatest count that an actor, a task or a site has reached.
use Rattle.std.specs.Prelude.{[], map, ℕ, ◌∷◌}
pub use Rattle.sim_engine.specs.Counts.{greatest}
use Rattle.sqs_message.specs.declared.row.RowReceipt.{RowReceipt}
use Rattle.sqs_message.specs.declared.row.RowReceipt.TheVariants as receipts
use Rattle.sqs_model.specs.Actor.{Actor}
use Rattle.sqs_model.specs.Site.{Core}
use Rattle.sqs_model.specs.Task.{Task}

-- the greatest count of an actor: of its wakes, polls, transfers and words
abbrev pub actor_count : Actor → ℕ
actor_count a = greatest (a.wakes ∷ a.polls ∷ a.sent ∷ a.draws.taken ∷ [])

-- that of a move task: of its steps, transfers and words
abbrev pub task_count : Task → ℕ
task_count t = greatest (t.move.steps ∷ t.sent ∷ t.draws.taken ∷ [])

-- that of a site: of its queue's arrivals, transfers, words and samples, and of its actors and tasks
abbrev pub site_count : Core → ℕ
site_count c =
    greatest (c.queue.arrivals ∷ c.sent ∷ c.draws.taken ∷ c.samples ∷ greatest (map actor_count c.actors) ∷ greatest (map task_count c.tasks) ∷ [])

-- how often a message was received, by the receipt of a row
abbrev pub receipt_count : RowReceipt → ℕ
receipt_count receipts.Absent = 0
receipt_count (receipts.Given text) = 0
receipt_count (receipts.Made r) = r.count
