-- Laws of a handling by the calls at its site, and the one walk over the definitions of a handling. A new act, call or class of
-- events has its case here, and a law that is an instance of the records below needs none of its own.
use Rattle.std.specs.List.{list_any}
use Rattle.std.specs.Prelude.{Bool, Err, List, None, Ok, Option, Result, Some, [], false, find, suc, true, unwrap_or, zero, ℕ, ◌-◌, ◌/◌, ◌+◌, ◌==◌, ◌∷◌, ◌≡◌}
use Rattle.std.proofs.Common.{refl, subst, true≢false, ◌∙◌}
use Rattle.std.proofs.lemmas.Bool.{eqb-true}
use Rattle.sim_clock.specs.declared.key.Class.{Class}
use Rattle.sim_clock.specs.declared.key.Class.TheVariants as classes
use Rattle.sim_clock.specs.declared.key.Key.{Key}
use Rattle.sim_clock.specs.declared.refusal.Refusal.{Refusal}
use Rattle.sim_clock.specs.declared.refusal.Refusal.TheVariants as refusals
use Rattle.sim_clock.specs.Firsts.{without}
use Rattle.sim_engine.specs.Members.{Each}
use Rattle.sqs_message.specs.declared.ids.MessageId.{MessageId}
use Rattle.sqs_message.specs.declared.ids.Origin.{Origin}
use Rattle.sqs_message.specs.declared.ids.Receipt.{Receipt}
use Rattle.sqs_message.specs.declared.row.Row.{Row}
use Rattle.sqs_message.specs.declared.row.RowAnswer.{RowAnswer}
use Rattle.sqs_message.specs.declared.row.RowAnswer.TheVariants as answers
use Rattle.sqs_message.specs.declared.row.RowKind.{RowKind}
use Rattle.sqs_message.specs.declared.row.RowKind.TheVariants as kinds
use Rattle.sqs_message.specs.Ids.{read_receipt}
use Rattle.sqs_redrive.specs.MoveTasks.{MoveTask, is_running, task_started}
use Rattle.sqs_redrive.specs.declared.answers.Got.{Got}
use Rattle.sqs_redrive.specs.declared.settings.Kind.{Kind}
use Rattle.sqs_redrive.specs.declared.settings.Kind.TheVariants.{Fifo, Standard}
use Rattle.sqs_redrive.specs.declared.settings.TaskStatus.TheVariants.{Cancelled}
use Rattle.sqs_redrive.specs.declared.transfers.Load.{Load}
use Rattle.sqs_redrive.specs.declared.transfers.Outbound.{Outbound}
use Rattle.sqs_model.specs.declared.acts.Act.{Act}
use Rattle.sqs_model.specs.declared.acts.Act.TheVariants as acts
use Rattle.sqs_model.specs.declared.acts.Answer.{Answer}
use Rattle.sqs_model.specs.declared.acts.Answer.TheVariants as told_by
use Rattle.sqs_model.specs.Actor.{Actor, next}
use Rattle.sqs_model.specs.Acts.{Made, act_made, cancel_done, cancel_made, change_answered, change_made, delete_made, given, long_poll, made, receive_as, receive_made, receive_none, receive_row, receive_some, runs, send_made, sends, serve_made, short_poll, start_made, task_row, with_poll}
use Rattle.sqs_model.specs.Arrive.{arrived}
use Rattle.sqs_model.specs.Available.{all_hosts}
use Rattle.sqs_model.specs.Calls.{change}
use Rattle.sqs_model.specs.Draw.{Draws, drawn_uniform}
use Rattle.sqs_model.specs.Polls.{acts_found, acts_most, acts_next, answer_polls, answer_when, can_give, poll_answered, poll_given, told, without_poll}
use Rattle.sqs_model.specs.Queue.{Queue}
use Rattle.sqs_model.specs.Receive.{give_most, is_bad_timeout, receive}
use Rattle.sqs_model.specs.Return.{released}
use Rattle.sqs_model.specs.Site.{Core, Effect, Poll, Site, actor_numbered, and_then, has_key, is_actor, no_effect, number_of, says, task_numbered, with_actor, with_task}
use Rattle.sqs_model.specs.Step.{Handled, arrival_done, ends_at, handle_arrival, handle_class, handle_expiry, handle_step, handled, handled_when, is_arrival, release_done, with_polls, woken_by}
use Rattle.sqs_model.specs.Task.{Task}
use Rattle.sqs_model.proofs.Answered.{receive_by}
use Rattle.sqs_model.proofs.Branches.{either, either_by}
use Rattle.sqs_model.proofs.Counts.{find_picked}
use Rattle.sqs_model.proofs.Decisions.{next_decides}
use Rattle.sqs_model.proofs.Ledger.{marks}

-- whether a row of a kind with an answer tells of no message: that of a receive that gives none, of a task, a scaler or a sample
abbrev pub TellsOfNone : RowKind → RowAnswer → Type 0
TellsOfNone kinds.Receive answers.Empty = Unit {0}
TellsOfNone kinds.Receive answers.Wait = Unit {0}
TellsOfNone kinds.Receive (answers.Refused e) = Unit {0}
TellsOfNone kinds.Start answers.Ok = Unit {0}
TellsOfNone kinds.Start (answers.Refused e) = Unit {0}
TellsOfNone kinds.Cancel answers.Ok = Unit {0}
TellsOfNone kinds.Cancel (answers.Refused e) = Unit {0}
TellsOfNone kinds.Scale answers.Ok = Unit {0}
TellsOfNone kinds.Sample answers.Ok = Unit {0}
TellsOfNone kind answer = ⊥

-- a row of this handling at this site that names no message
pub record IsNameless (key : Key) (c : Core) (r : Row) : Type 0 where
  pub at_key : r.key ≡ key
  pub at_site : r.queue ≡ number_of c
  pub silent : (o : Origin) → marks o r ≡ false
  pub nameless : r.message ≡ None
  pub kind : TellsOfNone r.kind r.answer

-- what an answer tells an actor: of messages that were received, if it is that of a receive, or that it wakes
abbrev pub IsTold : (Core → List Got → Type 0) → (Core → ℕ → Type 0) → (Core → ℕ → Type 0) → Core → ℕ → Answer → Type 0
IsTold Hears Woken Acted c n (told_by.Got gots) = Hears c gots
IsTold Hears Woken Acted c n (told_by.Wake st) = Woken c n
IsTold Hears Woken Acted c n told_by.Waiting = Unit {0}
IsTold Hears Woken Acted c n told_by.Other = Acted c n

-- an answer of an act that tells of no message
abbrev IsBare : Answer → Type 0
IsBare (told_by.Got []) = Unit {0}
IsBare (told_by.Got (g ∷ gs)) = ⊥
IsBare (told_by.Wake st) = ⊥
IsBare answer = Unit {0}

-- what the answer of an act tells of messages
abbrev IsHeard : (Core → List Got → Type 0) → Core → Answer → Type 0
IsHeard Hears c (told_by.Got gots) = Hears c gots
IsHeard Hears c (told_by.Wake st) = ⊥
IsHeard Hears c answer = Unit {0}

bare_heard : (Hears : Core → List Got → Type 0) → ((c : Core) → Hears c []) → (c : Core) (answer : Answer) → IsBare answer → IsHeard Hears c answer
bare_heard Hears none c (told_by.Got []) b = none c
bare_heard Hears none c (told_by.Got (g ∷ gs)) b = absurd b
bare_heard Hears none c (told_by.Wake st) b = absurd b
bare_heard Hears none c told_by.Waiting b = tt
bare_heard Hears none c told_by.Other b = tt

heard_told : (Hears : Core → List Got → Type 0) (Woken Acted : Core → ℕ → Type 0) (c : Core) (n : ℕ) (answer : Answer) → IsHeard Hears c answer → Acted c n → IsTold Hears Woken Acted c n answer
heard_told Hears Woken Acted c n (told_by.Got gots) h a = h
heard_told Hears Woken Acted c n (told_by.Wake st) h a = absurd h
heard_told Hears Woken Acted c n told_by.Waiting h a = tt
heard_told Hears Woken Acted c n told_by.Other h a = a

-- an act that does something
abbrev pub IsDone : Act → Type 0
IsDone acts.Nothing = ⊥
IsDone act = Unit {0}

-- an act that changes the timeout of a receipt's message to so many seconds
abbrev pub ChangesTo : Queue → Act → List ℕ → ℕ → Type 0
ChangesTo q (acts.Change own seconds) text timeout = (own ≡ text) × (seconds ≡ timeout)
ChangesTo q (acts.Prolong own seconds) text timeout = (own ≡ text) × (unwrap_or seconds (q.settings.visibility / 1000) ≡ timeout)
ChangesTo q act text timeout = ⊥

-- A law of turns. `At past site` is what holds of a site after what was done so far. `Goes past effect` is what holds of an
-- effect that began after what was done so far. Each other field is one call, or one way in which a turn changes a site, and
-- says that it keeps the law.
pub record CallLaw (key : Key) : Type 1 where
  -- what was done so far; an effect leaves a site at which the law holds, and effects follow one another
  pub Past : Type 0
  pub At : Past → Core → Type 0
  pub Goes : Past → Effect → Type 0
  pub after : Past → Effect → Past
  pub done : (p : Past) (e : Effect) → Goes p e → At (after p e) e.core
  pub joins : (p : Past) (e : Effect) (f : Core → Effect) → Goes p e → Goes (after p e) (f e.core) → Goes p (and_then e f)
  -- nothing happens; a row that names no message, with any change of the site that keeps the law
  pub nothing : (p : Past) (c : Core) → At p c → Goes p (no_effect c)
  pub quiet : (p : Past) (c d : Core) (r : Row) → IsNameless key c r → At p c → At p d → Goes p (says d r)
  -- what a consumer learns of messages that it received
  pub Hears : Core → List Got → Type 0
  pub hears_none : (c : Core) → Hears c []
  -- what holds of an actor that wakes, and of one that has acted
  pub Woken : Core → ℕ → Type 0
  pub Acted : Core → ℕ → Type 0
  -- what holds of an actor after its turn among the actors of its site, and of its act
  pub Stands : Queue → List Actor → Actor → Type 0
  pub May : Core → Actor → Act → Type 0
  -- the timeout of a receive that is not refused
  pub Fine : Option ℕ → Type 0
  pub fine : (timeout : Option ℕ) → is_bad_timeout timeout ≡ false → Fine timeout
  -- a receive with a timeout that an actor asks for, or that waits
  pub Asks : Past → ℕ → Option ℕ → Type 0
  pub later : (p : Past) (e : Effect) (agent : ℕ) (timeout : Option ℕ) → Asks p agent timeout → Asks (after p e) agent timeout
  pub asked : (p : Past) (a : Actor) (c : Core) (max wait : ℕ) (timeout : Option ℕ) → Fine timeout → Stands c.queue c.actors a → May c a (acts.Receive max wait timeout) → At p c → Asks p a.number timeout
  pub waiting : (p : Past) (c : Core) → At p c → Each (λ x. Asks p x.actor x.timeout) c.polls
  -- calls of a queue, each with its rows
  pub gives :
      (p : Past) (c : Core) (agent max : ℕ) (timeout : Option ℕ) (set : ℕ) → Asks p agent timeout → At p c
      → Goes p (given key c agent timeout (give_most c.queue key.at max timeout set)) × Hears (given key c agent timeout (give_most c.queue key.at max timeout set)).core (give_most c.queue key.at max timeout set).1
  pub changes : (p : Past) (a : Actor) (c : Core) (x : Act) (text : List ℕ) (timeout : ℕ) → ChangesTo c.queue x text timeout → May c a x → At p c → Goes p (change_made key a c text timeout (read_receipt text)).effect
  pub deletes : (p : Past) (a : Actor) (c : Core) (text : List ℕ) → At p c → Goes p (delete_made key a c text (read_receipt text)).effect
  pub sends :
      (p : Past) (a : Actor) (c : Core) (body : List ℕ) (delay : Option ℕ) (group id : Option (List ℕ)) → May c a (acts.Send body delay group id) → At p c
      → Goes p (send_made key a c body (sends c.queue.settings.kind c.queue key.at body delay group id)).effect
  -- words drawn
  pub draws : (p : Past) (c : Core) (hosts : ℕ) → At p c → At p (record c { draws = (drawn_uniform 0 hosts c.draws).1 })
  -- tasks
  pub starts : (p : Past) (c : Core) (n : ℕ) (t : Task) → task_numbered n c ≡ Some t → At p c → At p (with_task c (record t { move = task_started t.move key.at }))
  pub cancels : (p : Past) (c : Core) (n : ℕ) (t : Task) → task_numbered n c ≡ Some t → At p c → At p (with_task c (record t { move = record t.move { status = Cancelled } }))
  -- actors: one has its turn; its poll begins to wait; its service ends
  pub turns :
      (p : Past) (n : ℕ) (c : Core) (a : Actor) (w : Answer) → actor_numbered n c ≡ Some a → IsTold Hears Woken Acted c n w → At p c
      → At p (with_actor c (next a key.at w).1) × Stands c.queue (with_actor c (next a key.at w).1).actors (next a key.at w).1 × May (with_actor c (next a key.at w).1) (next a key.at w).1 (next a key.at w).0
  pub acted : (p : Past) (a : Actor) (c : Core) (x : Act) → IsDone x → Stands c.queue c.actors a → May c a x → At p c → Goes p (act_made key a c x).effect → Acted (act_made key a c x).effect.core a.number
  pub polls :
      (p : Past) (a : Actor) (c : Core) (max wait : ℕ) (timeout : Option ℕ) → (wait == 0) ≡ false → Fine timeout → Stands c.queue c.actors a → May c a (acts.Receive max wait timeout)
      → IsNameless key c (receive_row key c a.number answers.Wait) → At p c → Goes p (says (with_poll key a c max wait timeout) (receive_row key c a.number answers.Wait))
  pub serves : (p : Past) (a : Actor) (c : Core) (id : MessageId) (r : Receipt) (failed : Bool) (forwards : List Outbound) → May c a (acts.Serve id r failed forwards) → At p c → Goes p (serve_made key a c id r failed forwards).effect

module _ (key : Key) (law : CallLaw key) where
  open law use {Past, At, Goes, Hears, Woken, Acted, after, done, joins, quiet, nothing, Stands, May, Asks}

  abbrev pub Told : Core → ℕ → Answer → Type 0
  Told = IsTold Hears Woken Acted

  says_so : (p : Past) (c d : Core) (r : Row) → IsNameless key c r → At p c → At p d → Goes p (says d r)
  says_so p c d r i h k = quiet p c d r i h k

  says_only : (p : Past) (c : Core) (r : Row) → IsNameless key c r → At p c → Goes p (says c r)
  says_only p c r i h = quiet p c c r i h h

  -- an effect, and what follows it
  follows : (p : Past) (e : Effect) (f : Core → Effect) → ((q : Past) → At q e.core → Goes q (f e.core)) → Goes p e → Goes p (and_then e f)
  follows p e f k h = joins p e f h (k (after p e) (done p e h))

  -- acts
  pub record Makes (p : Past) (m : Made) : Type 0 where
    pub goes : Goes p m.effect
    pub told : IsHeard Hears m.effect.core m.answer

  plainly : (p : Past) (m : Made) → IsBare m.answer → Goes p m.effect → Makes p m
  plainly p m b g = record { goes = g; told = bare_heard Hears law.hears_none m.effect.core m.answer b }

  none_goes : (p : Past) (a : Actor) (c : Core) (max wait : ℕ) (timeout : Option ℕ) → Stands c.queue c.actors a → ((wait == 0) ≡ false → law.Fine timeout × May c a (acts.Receive max wait timeout)) → At p c → Makes p (receive_none key a c max wait timeout)
  none_goes p a c max wait timeout s m h =
      either_by (Makes p) (wait == 0) (made (says c (receive_row key c a.number answers.Empty)) (told_by.Got []))
      (made (says (with_poll key a c max wait timeout) (receive_row key c a.number answers.Wait)) told_by.Waiting)
      (λ e. plainly p _ tt (says_only p c _ (record { at_key = refl; at_site = refl; silent = λ o. refl; nameless = refl; kind = tt }) h))
      (λ e. plainly p _ tt (law.polls p a c max wait timeout e (m e).0 s (m e).1 (record { at_key = refl; at_site = refl; silent = λ o. refl; nameless = refl; kind = tt }) h))

  pub some_goes :
      (p : Past) (a : Actor) (c : Core) (max wait : ℕ) (timeout : Option ℕ) (x : Queue × List Got) → Stands c.queue c.actors a → ((wait == 0) ≡ false → law.Fine timeout × May c a (acts.Receive max wait timeout)) → At p c
      → Goes p (given key c a.number timeout x) × Hears (given key c a.number timeout x).core x.1 → Makes p (receive_some key a c max wait timeout x.0 x.1)
  some_goes p a c max wait timeout (q, []) s m h k = none_goes p a c max wait timeout s m h
  some_goes p a c max wait timeout (q, g ∷ gs) s m h k = record { goes = k.0; told = k.1 }

  receive_goes : (p : Past) (a : Actor) (c d : Core) (max wait : ℕ) (timeout : Option ℕ) (set : ℕ) (short : Bool) → d.queue ≡ c.queue → Stands d.queue d.actors a → ((wait == 0) ≡ false → May d a (acts.Receive max wait timeout)) → (law.Fine timeout → Asks p a.number timeout) → At p c → At p d → Makes p (receive_made key a c d max wait timeout (receive d.queue key.at max timeout set short))
  receive_goes p a c d max wait timeout set short e s m q h k =
      receive_by (λ x. Makes p (receive_made key a c d max wait timeout x)) d.queue key.at max timeout set short
      (λ r. plainly p _ tt (says_only p c _ (record { at_key = refl; at_site = refl; silent = λ o. refl; nameless = refl; kind = tt }) h))
      (λ b. let f : law.Fine timeout = law.fine timeout b in some_goes p a d max wait timeout (give_most d.queue key.at max timeout set) s (λ e. (f, m e)) k (law.gives p d a.number max timeout set (q f) k))

  as_goes : (k : Kind) (p : Past) (a : Actor) (c : Core) (max wait : ℕ) (timeout : Option ℕ) → Stands c.queue c.actors a → May c a (acts.Receive max wait timeout) → At p c → Makes p (receive_as k key a c max wait timeout)
  as_goes (Fifo content scope) p a c max wait timeout s m h = receive_goes p a c c max wait timeout (all_hosts c.queue.settings.kind) false refl s (λ _. m) (λ f. law.asked p a c max wait timeout f s m h) h h
  as_goes (Standard hosts sampled) p a c max wait timeout s m h =
      let drawn : ℕ × Draws = drawn_uniform 0 (hosts - 1) c.draws in
      either (Makes p) (wait == 0) (short_poll key a c max timeout hosts sampled drawn) (long_poll key a c max wait timeout)
      (receive_goes p a c (record c { draws = drawn.1 }) max 0 timeout _ true refl s (λ e. absurd (true≢false e)) (λ f. law.asked p a c max wait timeout f s m h) h (law.draws p c (hosts - 1) h))
      (receive_goes p a c c max wait timeout (all_hosts c.queue.settings.kind) false refl s (λ _. m) (λ f. law.asked p a c max wait timeout f s m h) h h)

  start_goes : (p : Past) (a : Actor) (c : Core) (task : ℕ) (o : Option Task) → task_numbered task c ≡ o → At p c → Makes p (start_made key a c task o)
  start_goes p a c task None e h = plainly p _ tt (nothing p c h)
  start_goes p a c task (Some t) e h =
      let begun : Core = with_task c (record t { move = task_started t.move key.at }) in
      either (Makes p) (list_any runs c.tasks) (made (says c (task_row key a c task kinds.Start (answers.Refused refusals.TaskRunning))) told_by.Other)
      (made (says begun (task_row key a c task kinds.Start answers.Ok)) told_by.Other)
      (plainly p _ tt (says_only p c _ (record { at_key = refl; at_site = refl; silent = λ o. refl; nameless = refl; kind = tt }) h))
      (plainly p _ tt (says_so p c begun _ (record { at_key = refl; at_site = refl; silent = λ o. refl; nameless = refl; kind = tt }) h (law.starts p c task t e h)))

  cancel_goes : (p : Past) (a : Actor) (c : Core) (task : ℕ) (o : Option Task) → task_numbered task c ≡ o → At p c → Makes p (cancel_made key a c task o)
  cancel_goes p a c task None e h = plainly p _ tt (nothing p c h)
  cancel_goes p a c task (Some t) e h =
      let stopped : MoveTask = record t.move { status = Cancelled } in
      either (λ (x : Result (Unit {0}) Refusal × MoveTask). Makes p (cancel_done key a c task t x)) (is_running t.move.status) (Ok tt, stopped) (Err refusals.NoTask, t.move)
      (plainly p _ tt (says_so p c (with_task c (record t { move = stopped })) _ (record { at_key = refl; at_site = refl; silent = λ o. refl; nameless = refl; kind = tt }) h (law.cancels p c task t e h)))
      (plainly p _ tt (says_only p c _ (record { at_key = refl; at_site = refl; silent = λ o. refl; nameless = refl; kind = tt }) h))

  -- the answers of other acts tell of no message
  change_bare : (a : Actor) (c : Core) (text : List ℕ) (timeout : ℕ) (r : Receipt) (x : Result (Option Load) Refusal × Queue) → IsBare (change_answered key a c text timeout r x).answer
  change_bare a c text timeout r (Err e, q) = tt
  change_bare a c text timeout r (Ok left, q) = tt

  changes_goes : (p : Past) (a : Actor) (c : Core) (text : List ℕ) (timeout : ℕ) (o : Option Receipt) → Goes p (change_made key a c text timeout o).effect → Makes p (change_made key a c text timeout o)
  changes_goes p a c text timeout None g = plainly p _ tt g
  changes_goes p a c text timeout (Some r) g = plainly p _ (change_bare a c text timeout r (change c.queue key.at r timeout)) g

  deletes_goes : (p : Past) (a : Actor) (c : Core) (text : List ℕ) (o : Option Receipt) → Goes p (delete_made key a c text o).effect → Makes p (delete_made key a c text o)
  deletes_goes p a c text None g = plainly p _ tt g
  deletes_goes p a c text (Some r) g = plainly p _ tt g

  serves_goes : (p : Past) (a : Actor) (c : Core) (id : MessageId) (r : Receipt) (failed : Bool) (os : List Outbound) → Goes p (serve_made key a c id r failed os).effect → Makes p (serve_made key a c id r failed os)
  serves_goes p a c id r true os g = plainly p _ tt g
  serves_goes p a c id r false os g = plainly p _ tt g

  pub act_goes : (p : Past) (a : Actor) (c : Core) (x : Act) → Stands c.queue c.actors a → May c a x → At p c → Makes p (act_made key a c x)
  unfolding act_made
  act_goes p a c (acts.Send body delay group id) s m h = plainly p _ tt (law.sends p a c body delay group id m h)
  act_goes p a c (acts.Receive max wait timeout) s m h = as_goes c.queue.settings.kind p a c max wait timeout s m h
  act_goes p a c (acts.Delete text) s m h = deletes_goes p a c text (read_receipt text) (law.deletes p a c text h)
  act_goes p a c (acts.Change text timeout) s m h = changes_goes p a c text timeout (read_receipt text) (law.changes p a c (acts.Change text timeout) text timeout (refl, refl) m h)
  act_goes p a c (acts.Prolong text timeout) s m h =
      let seconds : ℕ = unwrap_or timeout (c.queue.settings.visibility / 1000) in
      changes_goes p a c text seconds (read_receipt text) (law.changes p a c (acts.Prolong text timeout) text seconds (refl, refl) m h)
  act_goes p a c (acts.Start task) s m h = start_goes p a c task (task_numbered task c) refl h
  act_goes p a c (acts.Cancel task) s m h = cancel_goes p a c task (task_numbered task c) refl h
  act_goes p a c (acts.Serve id r failed forwards) s m h = serves_goes p a c id r failed forwards (law.serves p a c id r failed forwards m h)
  act_goes p a c (acts.Scale from to) s m h = plainly p _ tt (says_only p c _ (record { at_key = refl; at_site = refl; silent = λ o. refl; nameless = refl; kind = tt }) h)
  act_goes p a c acts.Nothing s m h = plainly p _ tt (nothing p c h)

  -- turns
  abbrev pub Follows : (Core → Effect) → Type 0
  Follows f = (p : Past) (c : Core) → At p c → Goes p (f c)

  abbrev pub FollowsOn : ℕ → Answer → (Core → Effect) → Type 0
  FollowsOn n w f = (p : Past) (c : Core) → Told c n w → At p c → Goes p (f c)

  on : (more : Answer → Core → Effect) (n : ℕ) (p : Past) (a : Actor) (c : Core) (x : Act) → IsDone x → a.number ≡ n → ((w : Answer) → FollowsOn n w (more w)) → Stands c.queue c.actors a → May c a x → At p c → Goes p (and_then (act_made key a c x).effect (more (act_made key a c x).answer))
  on more n p a c x i e f s m h =
      let did : Makes p (act_made key a c x) = act_goes p a c x s m h in
      follows p (act_made key a c x).effect (more (act_made key a c x).answer)
      (λ q k. f (act_made key a c x).answer q (act_made key a c x).effect.core (heard_told Hears Woken Acted (act_made key a c x).effect.core n (act_made key a c x).answer did.told (subst (λ j. Acted (act_made key a c x).effect.core j) e (law.acted p a c x i s m h did.goes))) k) did.goes

  pub next_goes : (more : Answer → Core → Effect) (n : ℕ) (p : Past) (c : Core) (x : Act) (a : Actor) → a.number ≡ n → ((w : Answer) → FollowsOn n w (more w)) → Stands c.queue (with_actor c a).actors a → May (with_actor c a) a x → At p (with_actor c a) → Goes p (acts_next more key c (x, a))
  next_goes more n p c acts.Nothing a e f s m h = nothing p (with_actor c a) h
  next_goes more n p c x a e f s m h = on more n p a (with_actor c a) x tt e f s m h

  found_goes : (more : Answer → Core → Effect) (p : Past) (n : ℕ) (w : Answer) (c : Core) (o : Option Actor) → actor_numbered n c ≡ o → ((v : Answer) → FollowsOn n v (more v)) → Told c n w → At p c → Goes p (acts_found more key w c o)
  found_goes more p n w c None e f t h = nothing p c h
  found_goes more p n w c (Some a) e f t h =
      let x = law.turns p n c a w e t h in
      let own : (next a key.at w).1.number ≡ n = (next_decides key.at a w).number ∙ eqb-true a.number n (find_picked (is_actor n) c.actors a e) in
      next_goes more n p c (next a key.at w).0 (next a key.at w).1 own f x.1 x.2 x.0

  pub most_goes : (most n : ℕ) (w : Answer) → FollowsOn n w (acts_most most key n w)
  most_goes zero n w p c t h = nothing p c h
  most_goes (suc most) n w p c t h = found_goes (acts_most most key n) p n w c (actor_numbered n c) refl (most_goes most n) t h

  -- a poll that is answered has left those that wait
  pub poll_goes :
      (p : Past) (poll : Poll) (c : Core) (x : Queue × List Got)
      → Goes p (given key (without_poll c) poll.actor poll.timeout x) × Hears (given key (without_poll c) poll.actor poll.timeout x).core x.1 → Goes p (poll_answered key poll c x)
  poll_goes p poll c (q, gots) k =
      let e : Effect = given key (without_poll c) poll.actor poll.timeout (q, gots) in
      follows p e (told key poll.actor (told_by.Got gots)) (λ r h. most_goes 3 poll.actor (told_by.Got gots) r e.core k.1 h) k.0

-- A law of handlings: a law of turns that all else keeps which may be due at a site.
pub record DueLaw (key : Key) (law : CallLaw key) : Type 1 where
  -- what may be said of a site at which something of this class is due
  pub IsDue : Class → Core → Type 0
  -- an actor wakes
  pub woken : (c : Core) → IsDue classes.Wake c → law.Woken c key.agent
  -- waiting polls: the first is answered, and one ends
  pub answers : (p : law.Past) (c : Core) → law.At p c → law.At p (without_poll c)
  pub ends : (p : law.Past) (c : Core) → law.At p c → law.At p (record c { polls = without (ends_at key) c.polls })
  -- messages: one expires, one is released, a transfer comes
  pub expires : (p : law.Past) (c : Core) → IsDue classes.Expiry c → law.At p c → law.Goes p (handle_expiry key c)
  pub releases : (p : law.Past) (c : Core) → IsDue classes.Release c → law.At p c → law.Goes p (release_done key c (released c.queue key.number))
  pub Comes : law.Past → Option Outbound → Core → Type 0
  pub absent : (p : law.Past) (c : Core) → Comes p None c → law.At p c
  pub arrives : (p : law.Past) (o : Outbound) (c : Core) → Comes p (Some o) c → law.Goes p (arrival_done key o.load c (arrived c.queue key.at o.load))
  -- samples and steps
  pub samples : (p : law.Past) (c : Core) → law.At p c → law.At p (record c { samples = c.samples + 1 })
  pub steps : (p : law.Past) (c : Core) (t : Task) → task_numbered key.agent c ≡ Some t → law.At p c → law.Goes p (handle_step key c (Some t))

-- the answers to waiting polls, where a poll that leaves keeps the law
module _ (key : Key) (law : CallLaw key) (answers : (p : law.Past) (c : Core) → law.At p c → law.At p (without_poll c)) where
  open law use {Past, At, Goes, Asks, after, done, joins}

  abbrev AreAsked : Past → List Poll → Type 0
  AreAsked p polls = Each (λ x. Asks p x.actor x.timeout) polls

  asked_later : (p : Past) (e : Effect) (polls : List Poll) → AreAsked p polls → AreAsked (after p e) polls
  asked_later p e [] a = tt
  asked_later p e (x ∷ xs) a = (law.later p e x.actor x.timeout a.0, asked_later p e xs a.1)

  abbrev Answers : (Core → Effect) → List Poll → Type 0
  Answers f polls = (p : Past) (c : Core) → AreAsked p polls → At p c → Goes p (f c)

  when_goes : (b : Bool) (poll : Poll) (polls : List Poll) → Answers (answer_polls key polls) polls → Answers (answer_when b key poll (answer_polls key polls)) (poll ∷ polls)
  when_goes true poll polls f p c a h =
      let e : Effect = poll_answered key poll c (poll_given key poll c.queue) in
      let one : Goes p e = poll_goes key law p poll c (poll_given key poll c.queue) (law.gives p (without_poll c) poll.actor poll.max poll.timeout (all_hosts c.queue.settings.kind) a.0 (answers p c h)) in
      joins p e (answer_polls key polls) one (f (after p e) e.core (asked_later p e polls a.1) (done p e one))
  when_goes false poll polls f p c a h = law.nothing p c h

  pub polls_go : (polls : List Poll) → Answers (answer_polls key polls) polls
  polls_go [] p c a h = law.nothing p c h
  polls_go (poll ∷ polls) p c a h = when_goes (can_give c.queue) poll polls (polls_go polls) p c a h

  pub polled : (p : Past) (e : Effect) → Goes p e → Goes p (with_polls key e)
  polled p e h = joins p e (λ c. answer_polls key c.polls c) h (polls_go e.core.polls (after p e) e.core (law.waiting (after p e) e.core (done p e h)) (done p e h))

-- what is due, by its class
module _ (key : Key) (law : CallLaw key) (due : DueLaw key law) where
  open law use {Past, At, Goes}

  pub arrival_goes : (p : Past) (o : Option Outbound) (c : Core) → due.Comes p o c → Goes p (handle_arrival key o c)
  arrival_goes p None c h = law.nothing p c (due.absent p c h)
  arrival_goes p (Some o) c h = due.arrives p o c h

  step_goes : (p : Past) (c : Core) (o : Option Task) → task_numbered key.agent c ≡ o → At p c → Goes p (handle_step key c o)
  step_goes p c None e h = law.nothing p c h
  step_goes p c (Some t) e h = due.steps p c t e h

  pub class_goes : (k : Class) (p : Past) (c : Core) → due.IsDue k c → At p c → Goes p (handle_class k key c)
  unfolding handle_class
  class_goes classes.Expiry p c d h = due.expires p c d h
  class_goes classes.Release p c d h = due.releases p c d h
  class_goes classes.Arrival p c d h = law.nothing p c h
  class_goes classes.PollEnd p c d h =
      let left : Core = record c { polls = without (ends_at key) c.polls } in
      let e : Effect = says left (receive_row key c key.agent answers.Empty) in
      follows key law p e (told key key.agent (told_by.Got [])) (λ q k. most_goes key law 3 key.agent (told_by.Got []) q left (law.hears_none left) k)
      (says_so key law p c left _ (record { at_key = refl; at_site = refl; silent = λ o. refl; nameless = refl; kind = tt }) h (due.ends p c h))
  class_goes classes.Wake p c d h = most_goes key law 3 key.agent (told_by.Wake (woken_by c (actor_numbered key.agent c))) p c (due.woken c d) h
  class_goes classes.Sample p c d h = says_so key law p c (record c { samples = c.samples + 1 }) _ (record { at_key = refl; at_site = refl; silent = λ o. refl; nameless = refl; kind = tt }) h (due.samples p c h)
  class_goes classes.Step p c d h = step_goes p c (task_numbered key.agent c) refl h

-- what a handling did, without what is on its way
abbrev pub effect_of : Handled → Effect
effect_of h = record { core = h.site.core; rows = h.rows; sent = h.sent }

module _ (key : Key) (law : CallLaw key) (due : DueLaw key law) (p : law.Past) (s : Site) where
  when_handled : (b : Bool) → (b ≡ false → due.IsDue key.class s.core × law.At p s.core) → (b ≡ true → due.Comes p (find (has_key key) s.arriving) s.core) → law.Goes p (effect_of (handled_when b key s))
  when_handled true m a = polled key law due.answers p (handle_arrival key (find (has_key key) s.arriving) s.core) (arrival_goes key law due p (find (has_key key) s.arriving) s.core (a refl))
  when_handled false m a = polled key law due.answers p (handle_class key.class key s.core) (class_goes key law due key.class p s.core (m refl).0 (m refl).1)

  -- the law holds of each handling
  pub handled_goes :
      (is_arrival key.class ≡ false → due.IsDue key.class s.core × law.At p s.core)
      → (is_arrival key.class ≡ true → due.Comes p (find (has_key key) s.arriving) s.core) → law.Goes p (effect_of (handled key s))
  unfolding handled
  handled_goes m a = when_handled (is_arrival key.class) m a
