-- Of acts but receives an actor is told that they are done.
use Rattle.std.specs.List.{list_any}
use Rattle.std.specs.Prelude.{Bool, Err, List, None, Ok, Option, Result, Some, false, true, ℕ, ◌≡◌}
use Rattle.std.proofs.Common.{refl}
use Rattle.sim_clock.specs.declared.key.Key.{Key}
use Rattle.sim_clock.specs.declared.refusal.Refusal.{Refusal}
use Rattle.sqs_message.specs.declared.ids.MessageId.{MessageId}
use Rattle.sqs_message.specs.declared.ids.Receipt.{Receipt}
use Rattle.sqs_redrive.specs.MoveTasks.{MoveTask, task_cancelled}
use Rattle.sqs_redrive.specs.declared.transfers.Load.{Load}
use Rattle.sqs_redrive.specs.declared.transfers.Outbound.{Outbound}
use Rattle.sqs_model.specs.declared.acts.Answer.TheVariants.{Other}
use Rattle.sqs_model.specs.Actor.{Actor}
use Rattle.sqs_model.specs.Acts.{Made, cancel_done, cancel_made, change_answered, change_made, delete_made, runs, serve_made, start_made}
use Rattle.sqs_model.specs.Calls.{change}
use Rattle.sqs_model.specs.Queue.{Queue}
use Rattle.sqs_model.specs.Site.{Core}
use Rattle.sqs_model.specs.Task.{Task}
use Rattle.sqs_model.proofs.Branches.{either}

-- it is told that it is done
abbrev pub IsDone : Made → Type 0
IsDone m = Some Other ≡ Some m.answer

module _ (key : Key) (a : Actor) (c : Core) where
  pub delete_done_is : (text : List ℕ) (o : Option Receipt) → IsDone (delete_made key a c text o)
  delete_done_is text None = refl
  delete_done_is text (Some r) = refl

  answered_done : (text : List ℕ) (timeout : ℕ) (r : Receipt) (x : Result (Option Load) Refusal × Queue) → IsDone (change_answered key a c text timeout r x)
  answered_done text timeout r (Err e, q) = refl
  answered_done text timeout r (Ok left, q) = refl

  pub change_done_is : (text : List ℕ) (timeout : ℕ) (o : Option Receipt) → IsDone (change_made key a c text timeout o)
  change_done_is text timeout None = refl
  change_done_is text timeout (Some r) = answered_done text timeout r (change c.queue key.at r timeout)

  pub start_done_is : (task : ℕ) (o : Option Task) → IsDone (start_made key a c task o)
  start_done_is task None = refl
  start_done_is task (Some t) = either IsDone (list_any runs c.tasks) _ _ refl refl

  cancelled_done : (task : ℕ) (t : Task) (x : Result (Unit {0}) Refusal × MoveTask) → IsDone (cancel_done key a c task t x)
  cancelled_done task t (Ok u, m) = refl
  cancelled_done task t (Err e, m) = refl

  pub cancel_done_is : (task : ℕ) (o : Option Task) → IsDone (cancel_made key a c task o)
  cancel_done_is task None = refl
  cancel_done_is task (Some t) = cancelled_done task t (task_cancelled t.move)

  pub serve_done_is : (id : MessageId) (r : Receipt) (failed : Bool) (forwards : List Outbound) → IsDone (serve_made key a c id r failed forwards)
  serve_done_is id r true forwards = refl
  serve_done_is id r false forwards = refl
