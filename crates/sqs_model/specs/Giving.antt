-- Messages given one by one are given as if all were received first and then all came back.
use Rattle.std.specs.List.{zip}
use Rattle.std.specs.Prelude.{List, None, Option, [], map, ℕ, ◌<◌, ◌∷◌, ◌≡◌}
use Rattle.sqs_message.specs.declared.message.Message.{Message}
use Rattle.sqs_redrive.specs.declared.answers.Got.{Got}
use Rattle.sqs_redrive.specs.declared.transfers.Load.{Load}
use Rattle.sqs_model.specs.Progress.{Differ, IsSoundQueue}
use Rattle.sqs_model.specs.Queue.{Queue, with_change}
use Rattle.sqs_model.specs.Receive.{give, got_of, received, to_give}
use Rattle.sqs_model.specs.Return.{released}

-- a queue after all of these messages are received, one after another
abbrev pub all_received : ℕ → ℕ → List Message → Queue → Queue
all_received now timeout [] q = q
all_received now timeout (m ∷ ms) q =
    all_received now timeout ms (with_change q m.number (received now timeout))

-- a queue after all of these messages come back, one after another
abbrev pub all_released : List Message → Queue → Queue
all_released [] q = q
all_released (m ∷ ms) q = all_released ms (released q m.number).0

-- for each of them its load, if it leaves as it comes back
abbrev pub all_left : List Message → Queue → List (Option Load)
all_left [] q = []
all_left (m ∷ ms) q = (released q m.number).1 ∷ all_left ms (released q m.number).0

-- what a receive reports of messages, each with its load if it leaves
abbrev pub all_got : Queue → List Message → List (Option Load) → List Got
all_got q ms lefts = map (λ x. got_of q x.0 x.1) (zip ms lefts)

-- a queue after all of them are received and then all come back, and what it reports of each
abbrev pub given_then_returned : ℕ → List Message → Queue → Queue × List Got
given_then_returned now ms q =
    let taken = all_received now 0 ms q in
    (all_released ms taken, all_got q ms (all_left ms taken))

-- a queue after all of them are received, and what it reports of each
abbrev pub given_and_kept : ℕ → ℕ → List Message → Queue → Queue × List Got
given_and_kept now timeout ms q = (all_received now timeout ms q, map (λ m. got_of q m None) ms)

-- how a queue gives messages at a moment
pub record GivesThenReturns (now : ℕ) (q : Queue) : Type 0 where
  -- with a timeout of 0, if numbers differ: as if all were received first and then all came back
  pub at_once :
      (ms : List Message) → Differ (λ m. m.number) ms
      → give now 0 ms q ≡ given_then_returned now ms q
  -- with a longer timeout: all are received, and none comes back
  pub later :
      (timeout : ℕ) (ms : List Message) → 0 < timeout
      → give now timeout ms q ≡ given_and_kept now timeout ms q
  -- no two that one receive gives have one number, if the queue is sound
  pub differ : IsSoundQueue q → (max set : ℕ) → Differ (λ m. m.number) (to_give q max set)

-- every queue does so at every moment
abbrev pub GivingIsGivingThenReturning : Type 0
GivingIsGivingThenReturning = (now : ℕ) (q : Queue) → GivesThenReturns now q
