-- What the definitions say of a queue whose kind is FIFO.
use Rattle.std.proofs.lemmas.Bool.Decides.{nat_tests}
use Rattle.std.proofs.Common.{◌≡◌, ◌<◌, ◌≤◌, arith, unwrap_or, ℕ, List, Option, None, Some, Bool, false, true, if◌then◌else◌, ap, refl, sym, ◌∙◌}
use Rattle.std.specs.Prelude.{Err, Result}
use Rattle.sqs_redrive.specs.declared.settings.Kind.{Kind}
use Rattle.sqs_redrive.specs.declared.settings.Kind.TheVariants.{Fifo, Standard}
use Rattle.sqs_redrive.specs.declared.settings.Scope.{Scope}
use Rattle.sqs_redrive.specs.declared.settings.Scope.TheVariants as scopes
use Rattle.sqs_redrive.specs.declared.answers.Sent.{Sent}
use Rattle.sim_clock.specs.declared.refusal.Refusal.{Refusal}
use Rattle.sqs_model.specs.Acts.{sends}
use Rattle.sqs_model.specs.Arrive.{enqueued_at}
use Rattle.sqs_model.specs.Calls.{deduplication_id, is_bad_delay, send_in, send_with}
use Rattle.sqs_model.specs.Queue.{Queue}
use Rattle.sqs_model.specs.Valid.{IsFifo}
use Rattle.sqs_queue.specs.Fifo.{compares_bodies, scope_in}
use Rattle.sim_clock.specs.declared.refusal.Refusal.TheVariants as refusals

-- the enqueue time of what it gets as a dead letter
pub fifo_enqueued : (k : Kind) → IsFifo k → (now before : ℕ) → enqueued_at k now before ≡ now
fifo_enqueued (Standard hosts sampled) h now before = absurd h
fifo_enqueued (Fifo content scope) h now before = refl

-- a delay of a message's own
pub own_delay : (delay : Option ℕ) (n : ℕ) → n ≡ unwrap_or delay 0 → 0 < n → is_bad_delay 0 delay ≡ true
own_delay None n e l = absurd (omega (arith, e, l))
own_delay (Some seconds) n e l = grind (arith, nat_tests)

pub no_delay : (delay : Option ℕ) (n : ℕ) → n ≡ unwrap_or delay 0 → n ≤ 0 → is_bad_delay 0 delay ≡ false
no_delay None n e l = refl
no_delay (Some seconds) n e l = grind (arith, nat_tests)

-- where its ids count
abbrev scope_at : Kind → Scope
scope_at (Standard hosts sampled) = scopes.Queue
scope_at (Fifo content scope) = scope

fifo_kind : (k : Kind) → IsFifo k → k ≡ Fifo (compares_bodies k) (scope_at k)
fifo_kind (Standard hosts sampled) h = absurd h
fifo_kind (Fifo content scope) h = refl

-- the answers of a send
module _ (k : Kind) (h : IsFifo k) (q : Queue) (now : ℕ) (body : List ℕ) (delay : Option ℕ) (id : Option (List ℕ)) where
  abbrev by_kind : Option (List ℕ) → Bool → Result Sent Refusal × Queue
  by_kind group b = if b then (Err refusals.BadDelay, q) else send_with q (scope_at k) now body group (deduplication_id (compares_bodies k) body id)

  fifo_sends : (group : Option (List ℕ)) (b : Bool) → is_bad_delay 0 delay ≡ b → sends k q now body delay group id ≡ by_kind group b
  fifo_sends group b bad = ap (λ (j : Kind). sends j q now body delay group id) (fifo_kind k h) ∙ ap (by_kind group) bad

  pub send_delayed : (group : Option (List ℕ)) → is_bad_delay 0 delay ≡ true → sends k q now body delay group id ≡ (Err refusals.BadDelay, q)
  send_delayed group bad = fifo_sends group true bad

  pub send_groupless : (group : Option (List ℕ)) → is_bad_delay 0 delay ≡ false → group ≡ None → sends k q now body delay group id ≡ (Err refusals.MissingGroup, q)
  send_groupless group good none = fifo_sends group false good ∙ ap (λ g. by_kind g false) none

  module _
      (group found : Option (List ℕ)) (g : List ℕ) (good : is_bad_delay 0 delay ≡ false) (some : group ≡ Some g) (content : Bool) (compared : content ≡ compares_bodies k)
      (is : found ≡ deduplication_id content body id) where
    by_id : sends k q now body delay group id ≡ send_with q (scope_at k) now body (Some g) found
    by_id =
        fifo_sends group false good ∙ ap (λ o. by_kind o false) some
        ∙ ap (send_with q (scope_at k) now body (Some g)) (sym (is ∙ ap (λ b. deduplication_id b body id) compared))

    pub send_idless : found ≡ None → sends k q now body delay group id ≡ (Err refusals.MissingDeduplication, q)
    send_idless none = by_id ∙ ap (send_with q (scope_at k) now body (Some g)) none

    pub send_whole : (i : List ℕ) → found ≡ Some i → send_in q now body g (scope_in k g) i ≡ sends k q now body delay group id
    send_whole i one =
        ap (λ (j : Kind). send_in q now body g (scope_in j g) i) (fifo_kind k h)
        ∙ sym (by_id ∙ ap (send_with q (scope_at k) now body (Some g)) one)
