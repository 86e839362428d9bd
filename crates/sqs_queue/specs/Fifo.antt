-- What the kind of a queue says of deduplication.
use Rattle.std.specs.Prelude.{Bool, List, None, Option, false, ℕ, Result, ◌<◌}
use Rattle.sqs_redrive.specs.declared.settings.Kind.{Kind}
use Rattle.sqs_redrive.specs.declared.settings.Kind.TheVariants.{Fifo, Standard}
use Rattle.sqs_model.specs.Calls.{scope_of, send_in}
use Rattle.sim_clock.specs.declared.refusal.Refusal.{Refusal}
use Rattle.sqs_model.specs.Queue.{Queue}
use Rattle.sqs_redrive.specs.declared.answers.Sent.{Sent}
use Rattle.sqs_model.specs.Answers.{most_count}

-- whether bodies replace ids that are absent
abbrev pub compares_bodies : Kind → Bool
compares_bodies (Standard hosts sampled) = false
compares_bodies (Fifo content_dedup scope) = content_dedup

-- the scope of the deduplication ids of a group's messages
abbrev pub scope_in : Kind → List ℕ → Option (List ℕ)
scope_in (Standard hosts sampled) group = None
scope_in (Fifo content_dedup scope) group = scope_of scope group

-- a send with a group and a deduplication id, whose scope the queue's kind gives
abbrev pub send_scoped : Queue → ℕ → List ℕ → List ℕ → List ℕ → Result Sent Refusal × Queue
send_scoped q now body group id = send_in q now body group (scope_in q.settings.kind group) id

-- whether that send takes a number past the limit
abbrev pub PassesScoped : Queue → ℕ → List ℕ → List ℕ → List ℕ → Type 0
PassesScoped q now body group id = most_count < (send_scoped q now body group id).1.arrivals
