-- What becomes of a message at the end of its delay or visibility timeout.
use Rattle.std.specs.Prelude.{Bool, None, Option, Some, false, true, ℕ}
use Rattle.sqs_message.specs.declared.message.Message.{Message}
use Rattle.sqs_redrive.specs.declared.settings.Policy.{Policy}
use Rattle.sqs_redrive.specs.declared.transfers.Load.{Load}
use Rattle.sqs_model.specs.Queue.{Queue, id_of, numbered, taken_out, with_change}
use Rattle.sqs_redrive.specs.MoveTasks.{is_worn}
use Rattle.sqs_redrive.specs.declared.transfers.Load.TheVariants as loads
use Rattle.sqs_message.specs.declared.message.Place.TheVariants as places

-- whether it has been received as often as the policy allows
abbrev pub leaves : Option Policy → Message → Bool
leaves None m = false
leaves (Some p) m = is_worn p m

-- a message that may be received again
abbrev pub visible_again : Message → Message
visible_again m = record m { place = places.Visible; release = None }

-- what goes to the dead-letter queue
abbrev pub redrive_of : Queue → Message → Load
redrive_of q m = loads.Redrive (id_of q m.number) m.group m.origin m.body m.enqueued

-- message n leaves, or is visible again
abbrev pub released_when : Bool → Queue → ℕ → Message → Queue × Option Load
released_when true q n m = (taken_out q n, Some (redrive_of q m))
released_when false q n m = (with_change q n visible_again, None)

-- the same if it is there
abbrev pub released_found : Queue → ℕ → Option Message → Queue × Option Load
released_found q n None = (q, None)
released_found q n (Some m) = released_when (leaves q.settings.policy m) q n m

-- the queue after message n comes back, and its load if it left
abbrev pub released : Queue → ℕ → Queue × Option Load
released q n = released_found q n (numbered n q.records)
