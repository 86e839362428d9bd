-- Words for the calls of a queue of either kind.
use Rattle.std.specs.Prelude.{Any, Bool, List, Ok, Option, Result, ℕ, ◌<◌, ◌≡◌, IsOk}
use Rattle.sim_clock.specs.declared.refusal.Refusal.{Refusal}
use Rattle.sqs_message.specs.declared.message.Message.{Message}
use Rattle.sqs_model.specs.Acts.{sends}
use Rattle.sqs_model.specs.Answers.{Meets, most_count}
use Rattle.sqs_model.specs.Arrive.{arrived, settle}
use Rattle.sqs_model.specs.Queue.{Queue}
use Rattle.sqs_model.specs.Receive.{receive, to_give}
use Rattle.sqs_redrive.specs.declared.answers.Got.{Got}
use Rattle.sqs_redrive.specs.declared.answers.Sent.{Sent}
use Rattle.sqs_redrive.specs.declared.transfers.Load.{Load}
use Rattle.std.specs.Result.{result_map_both}
use Rattle.sqs_model.specs.Task.{take_movable}
use Rattle.sqs_redrive.specs.declared.answers.Rest.{Rest}

-- an answer that is no error, before the queue
abbrev pub never_refused : {A : Type 0} → A × Queue → Result A Refusal × Queue
never_refused (a, q) = (Ok a, q)

-- a send to a queue, of its kind
abbrev pub send_to : Queue → ℕ → List ℕ → Option ℕ → Option (List ℕ) → Option (List ℕ) → Result Sent Refusal × Queue
send_to q now body delay group id = sends q.settings.kind q now body delay group id

-- whether one of some messages has been received as often as counts reach
abbrev pub HasAllReceives : List Message → Type 0
HasAllReceives messages = Any (λ m. m.receives ≡ most_count) messages

-- a call after which a queue has one message more is the definition's; it is refused at the limit of numbers
abbrev pub MeetsOneMore : {A : Type 0} → Queue → Result A Refusal → Queue → Result A Refusal × Queue → Type 0
MeetsOneMore old result new model = Meets (old.arrivals ≡ most_count) result new model

-- so is a send, and the arrival of a load
abbrev pub MeetsSend : Queue → Result Sent Refusal → Queue → ℕ → List ℕ → Option ℕ → Option (List ℕ) → Option (List ℕ) → Type 0
MeetsSend old result new now body delay group id = MeetsOneMore old result new (send_to old now body delay group id)

-- and the coming in of a message
abbrev pub MeetsComing : Queue → Result (Sent × Bool) Refusal → Queue → ℕ → Message → Type 0
MeetsComing old result new now m = MeetsOneMore old result new (never_refused (settle old now m))

abbrev pub MeetsArrival : Queue → Result (Sent × Bool) Refusal → Queue → ℕ → Load → Type 0
MeetsArrival old result new now load = MeetsOneMore old result new (never_refused (arrived old now load))

-- a send takes a number past the limit
abbrev pub PassesSend : Queue → ℕ → List ℕ → Option ℕ → Option (List ℕ) → Option (List ℕ) → Type 0
PassesSend q now body delay group id = most_count < (send_to q now body delay group id).1.arrivals

-- a receive takes a count of receives past the limit
abbrev pub PassesReceive : Queue → ℕ → ℕ → Option ℕ → ℕ → Bool → Type 0
PassesReceive q now max timeout hosts short = HasAllReceives (to_give q max hosts) × IsOk (receive q now max timeout hosts short).0

-- an answer as the definitions see it, or the refusal
abbrev pub seen_as : {A B : Type 0} → (A → B) → Result A Refusal → Result B Refusal
seen_as see result = result_map_both see (λ refusal. refusal) result

-- a receive, whose answer has these messages, is the definition's; it is refused at the limit of receives
abbrev pub MeetsReceive : {A : Type 0} → (A → List Got) → Queue → Result A Refusal → Queue → ℕ → ℕ → Option ℕ → ℕ → Bool → Type 0
MeetsReceive gots old result new now max timeout hosts short =
    Meets (HasAllReceives (to_give old max hosts)) (seen_as gots result) new (receive old now max timeout hosts short)

-- a step of a move task is the definition's: what it takes, and what is left
abbrev pub TakesMovable : Queue → Queue → ℕ → Option ℕ → List (ℕ × Load) → Rest → Type 0
TakesMovable old new max to loads rest = take_movable old max to ≡ ((loads, rest), new)
