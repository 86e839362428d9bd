-- Giving in two passes: first what is returned for each message, then giving them one after another.
use Rattle.std.specs.Prelude.{All, IfSome, List, None, Option, [], if◌then◌else◌, ℕ, ◌++◌, ◌+◌, ◌<◌, ◌==◌, ◌∷◌, map, take}
use Rattle.sqs_message.specs.declared.message.Message.{Message}
use Rattle.sqs_redrive.specs.declared.answers.Got.{Got}
use Rattle.sqs_redrive.specs.declared.transfers.Load.{Load}
use Rattle.sqs_model.specs.Answers.{most_count}
use Rattle.sqs_model.specs.Progress.{Differ}
use Rattle.sqs_model.specs.Queue.{Queue, numbered, with_change}
use Rattle.sqs_model.specs.Receive.{received}
use Rattle.sqs_model.specs.Return.{released}
use Rattle.sqs_model.specs.Available.{available}

-- what a receive returns for a message, before it gives it
abbrev pub told_of : ℕ → Message → Got
told_of site m =
    record {
      id = record { site = site; number = m.number };
      receipt = record { site = site; number = m.number; count = m.receives + 1 };
      origin = m.origin;
      group = m.group;
      body = m.body;
      left = None;
    }

-- the same for each of a queue's messages
abbrev pub told_by : Queue → List Message → List Got
told_by q ms = map (told_of q.site) ms

-- and for the first ones that it may give to a receive that sees some hosts
abbrev pub told_first : Queue → ℕ → ℕ → List Got
told_first q hosts most = told_by q (take most (available q hosts))

-- what is returned, with the load of a message that left
abbrev pub with_left : Got → Option Load → Got
with_left g left = record g { left = left }

-- a queue that gives the message of a number
abbrev pub gives : Queue → ℕ → ℕ → ℕ → Queue × Option Load
gives q now timeout n =
    let taken = with_change q n (received now timeout) in
    if timeout == 0 then released taken n else (taken, None)

-- more answers, before the others
abbrev pub after : List Got → Queue × List Got → Queue × List Got
after gots (q, others) = (q, gots ++ others)

-- the first that was given, and those that are given after it
abbrev pub gives_next : (Queue → Queue × List Got) → Got → Queue × Option Load → Queue × List Got
gives_next others g (q, left) = after (with_left g left ∷ []) (others q)

-- the queue after it gives the messages of a batch, one after another, and the batch with what left
abbrev pub gives_all : ℕ → ℕ → List Got → Queue → Queue × List Got
gives_all now timeout [] q = (q, [])
gives_all now timeout (g ∷ gots) q = gives_next (gives_all now timeout gots) g (gives q now timeout g.id.number)

-- a batch of different messages, each of which may be received once more
pub record CanBeGiven (q : Queue) (gots : List Got) : Type 0 where
  pub apart : Differ (λ g. g.id.number) gots
  pub counted : All (λ g. IfSome (numbered g.id.number q.records) (λ m. m.receives < most_count)) gots
