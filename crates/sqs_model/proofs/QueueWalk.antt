-- Laws of a queue by its single changes, and the one walk over the definitions of its calls.
use Rattle.std.specs.Prelude.{Bool, Err, List, None, Ok, Option, Result, Some, [], false, true, ℕ, ◌*◌, ◌+◌, ◌==◌, ◌∷◌, ◌≡◌}
use Rattle.std.proofs.Common.{refl}
use Rattle.sim_clock.specs.declared.refusal.Refusal.{Refusal}
use Rattle.sqs_message.specs.declared.ids.MessageId.{MessageId}
use Rattle.sqs_message.specs.declared.ids.Origin.{Origin}
use Rattle.sqs_message.specs.declared.ids.Receipt.{Receipt}
use Rattle.sqs_message.specs.declared.message.Message.{Message}
use Rattle.sqs_message.specs.Ids.{id_text}
use Rattle.sqs_redrive.specs.declared.answers.Sent.{Sent}
use Rattle.sqs_redrive.specs.declared.settings.Kind.{Kind}
use Rattle.sqs_redrive.specs.declared.settings.Kind.TheVariants.{Fifo, Standard}
use Rattle.sqs_redrive.specs.declared.settings.Scope.{Scope}
use Rattle.sqs_redrive.specs.declared.transfers.Load.{Load}
use Rattle.sqs_redrive.specs.declared.transfers.Load.TheVariants.{Forward, Move, Redrive}
use Rattle.sqs_model.specs.Acts.{sends}
use Rattle.sqs_model.specs.Arrive.{arrived, brought, enqueued_at, expired, expired_found, forwarded, forwarded_group, sent_of, settled_when}
use Rattle.sqs_model.specs.Calls.{change, delete_as, in_flight_until, living, scope_of, send_standard, send_unless, send_with, with_entry, with_message}
use Rattle.sqs_model.specs.Queue.{Entry, Queue, numbered, taken_out, with_change}
use Rattle.sqs_model.specs.Receive.{give, given_one, receive, received, timeout_of, to_give}
use Rattle.sqs_model.specs.Return.{leaves, redrive_of, released, released_found, released_when, visible_again}
use Rattle.sqs_model.specs.Task.{Taken, destination, take_each, taken_one}
use Rattle.sqs_model.proofs.Answered.{change_by, delete_by, receive_by}
use Rattle.sqs_model.proofs.Branches.{either}
use Rattle.sqs_model.proofs.Walk.{lefts}

-- a change of a message that leaves its enqueue time and where it came from
pub record Alters (f : Message → Message) : Type 0 where
  pub enqueued : (m : Message) → (f m).enqueued ≡ m.enqueued
  pub source : (m : Message) → (f m).source ≡ m.source

-- A law of a queue at a moment: what holds of the queue (`At`), of a message that may come in (`In`), of a load that leaves the
-- queue (`Out`) and of one that arrives (`Comes`). Each other field is one single change, and says that it keeps the law.
pub record QueueLaw (now : ℕ) : Type 1 where
  pub At : Queue → Type 0
  pub In : Message → Type 0
  pub Out : Load → Type 0
  pub Comes : Load → Type 0
  pub alters : (q : Queue) (n : ℕ) (f : Message → Message) → Alters f → At q → At (with_change q n f)
  pub less : (q : Queue) (n : ℕ) → At q → At (taken_out q n)
  pub leaving : (q : Queue) (n : ℕ) (m : Message) → numbered n q.records ≡ Some m → At q → Out (redrive_of q m)
  pub more : (q : Queue) (m : Message) → In m → At q → At (with_message q m)
  pub enters : (q : Queue) (scope : Option (List ℕ)) (id : List ℕ) → At q → At (with_entry q now scope id)
  pub spends : (q : Queue) → At q → At (record q { arrivals = q.arrivals + 1 })
  pub fresh : (m : Message) → m.enqueued ≡ now → m.source ≡ None → In m
  pub redriven : (q : Queue) (id : MessageId) (group : Option (List ℕ)) (origin : Origin) (body : List ℕ) (enqueued : ℕ) → Comes (Redrive id group origin body enqueued) → In (brought q now origin body group (enqueued_at q.settings.kind now enqueued) (Some id.site))

-- a load that a move task's step sends
abbrev pub IsMove : Load → Type 0
IsMove (Redrive id group origin body enqueued) = ⊥
IsMove (Move id group origin body) = Unit {0}
IsMove (Forward id group body) = ⊥

abbrev pub AreMoves : List (ℕ × Load) → Type 0
AreMoves [] = Unit {0}
AreMoves (x ∷ xs) = IsMove x.1 × AreMoves xs

pub take_moves : (to : Option ℕ) (ms : List Message) (q : Queue) → AreMoves (take_each q to ms).loads
take_moves to [] q = tt
take_moves to (m ∷ ms) q =
    elim (destination to m) as
    (λ o. AreMoves (elim o as (λ _. Taken) [ None ↦ record { queue = q; loads = []; stuck = true } | Some d ↦ taken_one q m d (take_each (taken_out q m.number) to ms) ]).loads) [
      | None ↦ tt
      | Some d ↦ (tt, take_moves to ms (taken_out q m.number))
    ]

module _ (now : ℕ) (law : QueueLaw now) where
  open law use {At, Out, Comes}

  abbrev Leaves : {A : Type 0} → A × Queue → Type 0
  Leaves x = At x.1

  -- loads that leave, if any
  abbrev pub MayLeave : Option Load → Type 0
  MayLeave None = Unit {0}
  MayLeave (Some load) = Out load

  abbrev pub AllLeave : List (Option Load) → Type 0
  AllLeave [] = Unit {0}
  AllLeave (l ∷ ls) = MayLeave l × AllLeave ls

  abbrev Parts : Queue × Option Load → Type 0
  Parts x = At x.0 × MayLeave x.1

  -- returns
  released_by : (b : Bool) (q : Queue) (n : ℕ) (m : Message) → Out (redrive_of q m) → At q → Parts (released_when b q n m)
  released_by true q n m k h = (law.less q n h, k)
  released_by false q n m k h = (law.alters q n visible_again (record { enqueued = λ m. refl; source = λ m. refl }) h, tt)

  released_of : (q : Queue) (n : ℕ) (o : Option Message) → numbered n q.records ≡ o → At q → Parts (released_found q n o)
  released_of q n None e h = (h, tt)
  released_of q n (Some m) e h = released_by (leaves q.settings.policy m) q n m (law.leaving q n m e h) h

  pub released_keeps : (q : Queue) (n : ℕ) → At q → Parts (released q n)
  released_keeps q n h = released_of q n (numbered n q.records) refl h

  expired_of : (q : Queue) (at n : ℕ) (o : Option Message) → At q → Leaves (expired_found q at n o)
  expired_of q at n None h = h
  expired_of q at n (Some m) h = law.less q n h

  pub expired_keeps : (q : Queue) (at n : ℕ) → At q → Leaves (expired q at n)
  expired_keeps q at n h = expired_of q at n (numbered n q.records) h

  -- receives
  one_keeps : (q : Queue) (at timeout : ℕ) (m : Message) → At q → Parts (given_one q at timeout m)
  one_keeps q at timeout m h =
      let taken : Queue = with_change q m.number (received at timeout) in
      let k : At taken = law.alters q m.number (received at timeout) (record { enqueued = λ m. refl; source = λ m. refl }) h in
      either Parts (timeout == 0) (released taken m.number) (taken, None) (released_keeps taken m.number k) (k, tt)

  pub give_keeps : (at timeout : ℕ) (ms : List Message) (q : Queue) → At q → At (give at timeout ms q).0 × AllLeave (lefts (give at timeout ms q).1)
  give_keeps at timeout [] q h = (h, tt)
  give_keeps at timeout (m ∷ ms) q h =
      let one = one_keeps q at timeout m h in
      let others = give_keeps at timeout ms (given_one q at timeout m).0 one.0 in
      (others.0, (one.1, others.1))

  pub receive_keeps : (q : Queue) (at max : ℕ) (timeout : Option ℕ) (set : ℕ) (short : Bool) → At q → Leaves (receive q at max timeout set short)
  receive_keeps q at max timeout set short h =
      receive_by (λ x. Leaves x) q at max timeout set short (λ e. h) (λ _. (give_keeps at (timeout_of q timeout) (to_give q max set) q h).0)

  -- sends
  standard_keeps : (q : Queue) (body : List ℕ) (delay : Option ℕ) → At q → Leaves (send_standard q now body delay)
  standard_keeps q body delay h = either (λ (x : Result Sent Refusal × Queue). Leaves x) _ _ _ h (law.more q _ (law.fresh _ refl refl) h)

  unless_keeps : (q : Queue) (body group : List ℕ) (scope : Option (List ℕ)) (id : List ℕ) (o : Option Entry) → At q → Leaves (send_unless q now body group scope id o)
  unless_keeps q body group scope id None h = law.more (with_entry q now scope id) _ (law.fresh _ refl refl) (law.enters q scope id h)
  unless_keeps q body group scope id (Some e) h = h

  with_keeps : (q : Queue) (scope : Scope) (body : List ℕ) (group id : Option (List ℕ)) → At q → Leaves (send_with q scope now body group id)
  with_keeps q scope body None id h = h
  with_keeps q scope body (Some g) None h = h
  with_keeps q scope body (Some g) (Some i) h = unless_keeps q body g _ i _ h

  pub sends_keep : (k : Kind) (q : Queue) (body : List ℕ) (delay : Option ℕ) (group id : Option (List ℕ)) → At q → Leaves (sends k q now body delay group id)
  sends_keep (Standard hosts sampled) q body delay group id h = standard_keeps q body delay h
  sends_keep (Fifo content scope) q body delay group id h = either (λ (x : Result Sent Refusal × Queue). Leaves x) _ _ _ h (with_keeps q scope body group _ h)

  -- deletes and changes
  pub delete_keeps : (k : Kind) (q : Queue) (at : ℕ) (r : Receipt) → At q → Leaves (delete_as k q at r)
  delete_keeps k q at r h = delete_by (λ x. Leaves x) q at r (record { refused = h; gone = λ _ _. h; kept = λ _ _. h; taken = λ m e. law.less q r.number h }) k

  abbrev pub Changes : Result (Option Load) Refusal × Queue → Type 0
  Changes (Ok left, q) = At q × MayLeave left
  Changes (Err e, q) = At q

  pub change_keeps : (q : Queue) (at : ℕ) (r : Receipt) (timeout : ℕ) → At q → Changes (change q at r timeout)
  change_keeps q at r timeout h =
      change_by Changes q at r timeout
      (record {
        refused = λ e. h;
        back = λ _ _ _ e. released_keeps q r.number h;
        kept = λ _ _ _ e. (law.alters q r.number (in_flight_until (at + 1000 * timeout)) (record { enqueued = λ m. refl; source = λ m. refl }) h, tt);
      })

  pub changed_keeps : (x : Result (Option Load) Refusal × Queue) → Changes x → Leaves x
  changed_keeps (Ok left, q) h = h.0
  changed_keeps (Err e, q) h = h

  -- arrivals
  settled_keeps : (b : Bool) (q : Queue) (m : Message) → law.In m → At q → Leaves (settled_when b q m)
  settled_keeps true q m k h = law.spends q h
  settled_keeps false q m k h = law.more q m k h

  sent_of_keeps : (before : Queue) (x : Result Sent Refusal × Queue) → Leaves x → Leaves (sent_of before x)
  sent_of_keeps before (Ok a, q) h = h
  sent_of_keeps before (Err e, q) h = h

  forwarded_keeps : (k : Kind) (q : Queue) (id : MessageId) (body : List ℕ) (group : Option (List ℕ)) → At q → Leaves (forwarded k q now id body group)
  forwarded_keeps (Standard hosts sampled) q id body group h = sent_of_keeps q (send_standard q now body None) (standard_keeps q body None h)
  forwarded_keeps (Fifo content scope) q id body group h =
      let g : List ℕ = forwarded_group group in
      let o : Option Entry = living q now (scope_of scope g) (id_text id) in
      sent_of_keeps q (send_unless q now body g (scope_of scope g) (id_text id) o) (unless_keeps q body g (scope_of scope g) (id_text id) o h)

  pub arrived_keeps : (q : Queue) (x : Load) → Comes x → At q → Leaves (arrived q now x)
  arrived_keeps q (Redrive id group origin body enqueued) l h = settled_keeps _ q _ (law.redriven q id group origin body enqueued l) h
  arrived_keeps q (Move id group origin body) l h = settled_keeps _ q _ (law.fresh _ refl refl) h
  arrived_keeps q (Forward id group body) l h = forwarded_keeps q.settings.kind q id body group h

  -- moves
  pub take_keeps : (to : Option ℕ) (ms : List Message) (q : Queue) → At q → At (take_each q to ms).queue
  take_keeps to [] q h = h
  take_keeps to (m ∷ ms) q h =
      elim (destination to m) as
      (λ o. At (elim o as (λ _. Taken) [ None ↦ record { queue = q; loads = []; stuck = true } | Some d ↦ taken_one q m d (take_each (taken_out q m.number) to ms) ]).queue) [
        | None ↦ h
        | Some d ↦ take_keeps to ms (taken_out q m.number) (law.less q m.number h)
      ]
