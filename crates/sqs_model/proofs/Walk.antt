-- Laws of a handling by single changes of a site: a call gives its rows one after another, and each row is a change.
-- Each such law is a law by calls, so one walk serves them all.
use Rattle.std.specs.Prelude.{Bool, Err, List, None, Ok, Option, Result, Some, [], false, find, if◌then◌else◌, map, true, ℕ, ◌+◌, ◌==◌, ◌∷◌, ◌≡◌}
use Rattle.std.proofs.Common.{refl}
use Rattle.sim_clock.specs.declared.key.Class.{Class}
use Rattle.sim_clock.specs.declared.key.Class.TheVariants as classes
use Rattle.sim_clock.specs.declared.key.Key.{Key}
use Rattle.sim_clock.specs.declared.refusal.Refusal.{Refusal}
use Rattle.sim_clock.specs.Firsts.{without}
use Rattle.sim_engine.specs.Members.{Each}
use Rattle.sqs_message.specs.declared.ids.MessageId.{MessageId}
use Rattle.sqs_message.specs.declared.ids.Origin.{Origin}
use Rattle.sqs_message.specs.declared.ids.Receipt.{Receipt}
use Rattle.sqs_message.specs.declared.row.Detail.TheVariants as details
use Rattle.sqs_message.specs.declared.row.Row.{Row}
use Rattle.sqs_message.specs.declared.row.RowAnswer.TheVariants as answers
use Rattle.sqs_message.specs.Ids.{read_receipt}
use Rattle.sqs_redrive.specs.MoveTasks.{task_started}
use Rattle.sqs_redrive.specs.declared.answers.Got.{Got}
use Rattle.sqs_redrive.specs.declared.settings.TaskStatus.TheVariants.{Cancelled}
use Rattle.sqs_redrive.specs.declared.transfers.Load.{Load}
use Rattle.sqs_redrive.specs.declared.transfers.Outbound.{Outbound}
use Rattle.sqs_model.specs.declared.acts.Act.{Act}
use Rattle.sqs_model.specs.declared.acts.Answer.{Answer}
use Rattle.sqs_model.specs.declared.acts.Answer.TheVariants as told_by
use Rattle.sqs_model.specs.Actor.{Actor, next}
use Rattle.sqs_model.specs.Acts.{act_made, all_came_back, came_back, change_answered, change_made, change_row, delete_done, delete_made, forward_made, forwards_made, given, got_row, receive_some, redrive_by, send_made, sends, serve_made, with_poll}
use Rattle.sqs_model.specs.Arrive.{arrived}
use Rattle.sqs_model.specs.Calls.{change, delete}
use Rattle.sqs_model.specs.Draw.{drawn_uniform}
use Rattle.sqs_model.specs.Polls.{acts_most, acts_next, answer_polls, poll_answered, without_poll}
use Rattle.sqs_model.specs.Queue.{Queue, id_of}
use Rattle.sqs_model.specs.Receive.{give_most, timeout_of}
use Rattle.sqs_model.specs.Return.{released}
use Rattle.sqs_model.specs.Site.{Core, Effect, Poll, Site, actor_numbered, and_then, has_key, no_effect, number_of, says, task_numbered, with_actor, with_queue, with_task}
use Rattle.sqs_model.specs.Step.{release_done, arrival_done, ends_at, handle_arrival, handle_class, handle_expiry, handle_step, handled, is_arrival, with_polls}
use Rattle.sqs_model.specs.Task.{Task}
use Rattle.sqs_model.proofs.Ledger.{marks}
use Rattle.sqs_model.proofs.Sending.{Sends, always_each}
use Rattle.sqs_model.proofs.CallWalk as walk
use Rattle.sqs_model.proofs.CallWalk.{CallLaw, DueLaw, IsTold}
pub use Rattle.sqs_model.proofs.CallWalk.{effect_of}

-- a row of this handling at this site that tells of no message that came or went
pub record IsPlain (key : Key) (c : Core) (r : Row) : Type 0 where
  pub at_key : r.key ≡ key
  pub at_site : r.queue ≡ number_of c
  pub silent : (o : Origin) → marks o r ≡ false

abbrev pub ArePlain : Key → Core → List Row → Type 0
ArePlain key c [] = Unit {0}
ArePlain key c (r ∷ rs) = IsPlain key c r × ArePlain key c rs

-- of each message that a receive gave, the load that left the queue at once, if it did
abbrev pub lefts : List Got → List (Option Load)
lefts [] = []
lefts (g ∷ gs) = g.left ∷ lefts gs

-- what holds of a site while these loads are still to be told, or none of them where nothing came back
abbrev pub Leaves : (List (Option Load) → Core → Type 0) → Core → Bool → List (Option Load) → Type 0
Leaves P c true ls = P ls c
Leaves P c false ls = P [] c

pub leaves_by : (P : List (Option Load) → Core → Type 0) (c : Core) (b : Bool) (ls : List (Option Load)) → (b ≡ true → P ls c) → (b ≡ false → P [] c) → Leaves P c b ls
leaves_by P c true ls h k = h refl
leaves_by P c false ls h k = k refl

-- the same after a receive that gave messages, and after a change of visibility: with a timeout of 0 they come back at once
abbrev pub Gives : (List (Option Load) → Core → Type 0) → Core → Option ℕ → Queue × List Got → Type 0
Gives P c timeout (q, gots) = Leaves P (with_queue c q) (timeout_of q timeout == 0) (lefts gots)

abbrev pub Changes : (List (Option Load) → Core → Type 0) → Core → ℕ → Result (Option Load) Refusal × Queue → Type 0
Changes P c timeout (Err e, q) = Unit {0}
Changes P c timeout (Ok left, q) = Leaves P (with_queue c q) (timeout == 0) (left ∷ [])

-- A law of turns. `At past loads site` is what holds of a site after what was done so far, while these loads have left its queue
-- and no row has told of them yet. `Goes past loads effect` is what holds of an effect that began after what was done so far, and
-- leaves these loads to be told. Each other field is one way in which a turn changes a site, and says that it keeps the law.
pub record TurnLaw (key : Key) : Type 1 where
  -- what was done so far; an effect leaves a site at which the law holds, and effects follow one another
  pub Past : Type 0
  pub At : Past → List (Option Load) → Core → Type 0
  pub Goes : Past → List (Option Load) → Effect → Type 0
  pub after : Past → Effect → Past
  pub done : (p : Past) (ls : List (Option Load)) (e : Effect) → Goes p ls e → At (after p e) ls e.core
  pub joins :
      (p : Past) (ls ms : List (Option Load)) (e : Effect) (f : Core → Effect) → Goes p ls e → Goes (after p e) ms (f e.core) → Goes p ms (and_then e f)
  -- rows that tell of no message that came or went, with any change of the site that keeps the law
  pub quiet :
      (p : Past) (ls ms : List (Option Load)) (c d : Core) (rows : List Row) → At p ls c → ArePlain key c rows → At p ms d
      → Goes p ms (record { core = d; rows = rows; sent = [] })
  -- a message that came back stays, or leaves for the dead-letter queue
  pub stays : (p : Past) (ls : List (Option Load)) (c : Core) → At p (None ∷ ls) c → At p ls c
  pub leaves : (p : Past) (ls : List (Option Load)) (c : Core) (n : ℕ) (load : Load) → At p (Some load ∷ ls) c → Goes p ls (redrive_by c.queue.settings.policy key c n load)
  -- calls of a queue, each as a whole
  pub gives : (p : Past) (c : Core) (max : ℕ) (timeout : Option ℕ) (set : ℕ) → At p [] c → Gives (At p) c timeout (give_most c.queue key.at max timeout set)
  pub changes : (p : Past) (c : Core) (r : Receipt) (timeout : ℕ) → At p [] c → Changes (At p) c timeout (change c.queue key.at r timeout)
  pub deletes : (p : Past) (a : Actor) (c : Core) (text : List ℕ) (r : Receipt) → At p [] c → Goes p [] (delete_done key a c text r (delete c.queue key.at r)).effect
  pub sends :
      (p : Past) (a : Actor) (c : Core) (body : List ℕ) (delay : Option ℕ) (group id : Option (List ℕ)) → At p [] c
      → Goes p [] (send_made key a c body (sends c.queue.settings.kind c.queue key.at body delay group id)).effect
  -- words drawn
  pub draws : (p : Past) (c : Core) (hosts : ℕ) → At p [] c → At p [] (record c { draws = (drawn_uniform 0 hosts c.draws).1 })
  -- tasks
  pub starts : (p : Past) (c : Core) (n : ℕ) (t : Task) → task_numbered n c ≡ Some t → At p [] c → At p [] (with_task c (record t { move = task_started t.move key.at }))
  pub cancels : (p : Past) (c : Core) (n : ℕ) (t : Task) → task_numbered n c ≡ Some t → At p [] c → At p [] (with_task c (record t { move = record t.move { status = Cancelled } }))
  -- actors: what holds of one after its turn among the actors of its site, and of what its act may send; its poll begins to wait;
  -- what it forwards is sent
  pub Stands : List Actor → Actor → Type 0
  pub Sent : Outbound → Type 0
  pub turns :
      (p : Past) (n : ℕ) (c : Core) (a : Actor) (w : Answer) → actor_numbered n c ≡ Some a → At p [] c
      → At p [] (with_actor c (next a key.at w).1) × Stands (with_actor c (next a key.at w).1).actors (next a key.at w).1 × Sends Sent (next a key.at w).0
  pub polls : (p : Past) (a : Actor) (c : Core) (max wait : ℕ) (timeout : Option ℕ) → (wait == 0) ≡ false → Stands c.actors a → At p [] c → At p [] (with_poll key a c max wait timeout)
  pub forwards : (p : Past) (a : Actor) (c : Core) (id : MessageId) (o : Outbound) → Sent o → At p [] c → Goes p [] (forward_made key a id o c)

module _ (key : Key) (law : TurnLaw key) where
  open law use {Past, At, Goes, after, done, joins, quiet, Stands, Sent}

  -- nothing happens; there is one plain row
  pub nothing : (p : Past) (ls : List (Option Load)) (c : Core) → At p ls c → Goes p ls (no_effect c)
  nothing p ls c h = quiet p ls ls c c [] h tt h

  says_only : (p : Past) (c : Core) (r : Row) → IsPlain key c r → At p [] c → Goes p [] (says c r)
  says_only p c r i h = quiet p [] [] c c (r ∷ []) h (i, tt) h

  -- an effect, and what follows it
  follows : (p : Past) (ls : List (Option Load)) (e : Effect) (f : Core → Effect) → ((q : Past) (d : Core) → At q ls d → Goes q [] (f d)) → Goes p ls e → Goes p [] (and_then e f)
  follows p ls e f k h = joins p ls [] e f h (k (after p e) e.core (done p ls e h))

  -- messages that come back
  back_goes : (p : Past) (ls : List (Option Load)) (c : Core) (n : ℕ) (o : Option Load) → At p (o ∷ ls) c → Goes p ls (came_back key c n o)
  back_goes p ls c n None h = quiet p (None ∷ ls) ls c c _ h (record { at_key = refl; at_site = refl; silent = λ o. refl }, tt) (law.stays p ls c h)
  back_goes p ls c n (Some load) h = law.leaves p ls c n load h

  pub all_back_goes : (gs : List Got) (p : Past) (c : Core) → At p (lefts gs) c → Goes p [] (all_came_back key gs c)
  all_back_goes [] p c h = nothing p [] c h
  all_back_goes (g ∷ gs) p c h =
      follows p (lefts gs) (came_back key c g.id.number g.left) (all_came_back key gs) (all_back_goes gs) (back_goes p (lefts gs) c g.id.number g.left h)

  got_plain : (c : Core) (agent : ℕ) (gots : List Got) → ArePlain key c (map (got_row key c agent) gots)
  got_plain c agent [] = tt
  got_plain c agent (g ∷ gs) = (record { at_key = refl; at_site = refl; silent = λ o. refl }, got_plain c agent gs)

  pub given_goes : (p : Past) (c : Core) (agent : ℕ) (timeout : Option ℕ) (x : Queue × List Got) → At p [] c → Gives (At p) c timeout x → Goes p [] (given key c agent timeout x)
  given_goes p c agent timeout (q, gots) h k =
      let e : Effect = record { core = with_queue c q; rows = map (got_row key c agent) gots; sent = [] } in
      elim (timeout_of q timeout == 0) as (λ b. Leaves (At p) (with_queue c q) b (lefts gots) → Goes p [] (if b then and_then e (all_came_back key gots) else e)) [
        | true ↦ λ k. follows p (lefts gots) e (all_came_back key gots) (all_back_goes gots) (quiet p [] (lefts gots) c (with_queue c q) e.rows h (got_plain c agent gots) k)
        | false ↦ λ k. quiet p [] [] c (with_queue c q) e.rows h (got_plain c agent gots) k
      ] k

  -- calls
  pub deletes_by : (p : Past) (a : Actor) (c : Core) (text : List ℕ) (o : Option Receipt) → At p [] c → Goes p [] (delete_made key a c text o).effect
  deletes_by p a c text None h = says_only p c _ (record { at_key = refl; at_site = refl; silent = λ o. refl }) h
  deletes_by p a c text (Some r) h = law.deletes p a c text r h

  answered_goes : (p : Past) (a : Actor) (c : Core) (text : List ℕ) (timeout : ℕ) (r : Receipt) (x : Result (Option Load) Refusal × Queue) → At p [] c → Changes (At p) c timeout x → Goes p [] (change_answered key a c text timeout r x).effect
  answered_goes p a c text timeout r (Err e, q) h k = says_only p c _ (record { at_key = refl; at_site = refl; silent = λ o. refl }) h
  answered_goes p a c text timeout r (Ok left, q) h k =
      let row : Row = change_row key a c text answers.Ok (Some (id_of c.queue r.number)) (details.Timeout timeout) in
      let e : Effect = says (with_queue c q) row in
      let plain : ArePlain key c (row ∷ []) = (record { at_key = refl; at_site = refl; silent = λ o. refl }, tt) in
      elim (timeout == 0) as (λ b. Leaves (At p) (with_queue c q) b (left ∷ []) → Goes p [] (if b then and_then e (λ d. came_back key d r.number left) else e)) [
        | true ↦ λ k. follows p (left ∷ []) e (λ d. came_back key d r.number left) (λ n d i. back_goes n [] d r.number left i) (quiet p [] (left ∷ []) c (with_queue c q) e.rows h plain k)
        | false ↦ λ k. quiet p [] [] c (with_queue c q) e.rows h plain k
      ] k

  pub changes_by : (p : Past) (a : Actor) (c : Core) (text : List ℕ) (timeout : ℕ) (o : Option Receipt) → At p [] c → Goes p [] (change_made key a c text timeout o).effect
  changes_by p a c text timeout None h = says_only p c _ (record { at_key = refl; at_site = refl; silent = λ o. refl }) h
  changes_by p a c text timeout (Some r) h = answered_goes p a c text timeout r _ h (law.changes p c r timeout h)

  forwards_go : (a : Actor) (id : MessageId) (os : List Outbound) (p : Past) (c : Core) → Each Sent os → At p [] c → Goes p [] (forwards_made key a id os c)
  forwards_go a id [] p c s h = nothing p [] c h
  forwards_go a id (o ∷ os) p c s h =
      follows p [] (forward_made key a id o c) (forwards_made key a id os) (λ q d k. forwards_go a id os q d s.1 k) (law.forwards p a c id o s.0 h)

  pub serves_by : (p : Past) (a : Actor) (c : Core) (id : MessageId) (r : Receipt) (b : Bool) (os : List Outbound) → Each Sent os → At p [] c → Goes p [] (serve_made key a c id r b os).effect
  serves_by p a c id r true os s h = says_only p c _ (record { at_key = refl; at_site = refl; silent = λ o. refl }) h
  serves_by p a c id r false os s h = forwards_go a id os p c s h

  -- the law by calls; what an answer tells is nothing to it, nor who asks
  abbrev pub by_calls : CallLaw key
  by_calls =
      record {
        Past = Past;
        At = λ p c. At p [] c;
        Goes = λ p e. Goes p [] e;
        after = after;
        done = λ p e g. done p [] e g;
        joins = λ p e f g h. joins p [] [] e f g h;
        nothing = λ p c h. nothing p [] c h;
        quiet = λ p c d r i h k. quiet p [] [] c d (r ∷ []) h (record { at_key = i.at_key; at_site = i.at_site; silent = i.silent }, tt) k;
        Hears = λ c gots. Unit {0};
        hears_none = λ c. tt;
        Woken = λ c n. Unit {0};
        Acted = λ c n. Unit {0};
        Asks = λ p agent timeout. Unit {0};
        later = λ p e agent timeout a. tt;
        Fine = λ timeout. Unit {0};
        fine = λ timeout b. tt;
        asked = λ p a c max wait timeout f s m h. tt;
        waiting = λ p c h. always_each (λ x. Unit {0}) (λ x. tt) c.polls;
        gives = λ p c agent max timeout set a h. (given_goes p c agent timeout (give_most c.queue key.at max timeout set) h (law.gives p c max timeout set h), tt);
        changes = λ p a c x text timeout i m h. changes_by p a c text timeout (read_receipt text) h;
        deletes = λ p a c text h. deletes_by p a c text (read_receipt text) h;
        sends = λ p a c body delay group id m h. law.sends p a c body delay group id h;
        draws = law.draws;
        starts = law.starts;
        cancels = law.cancels;
        Stands = λ q actors a. Stands actors a;
        May = λ c a x. Sends Sent x;
        turns = λ p n c a w e t h. law.turns p n c a w e h;
        acted = λ p a c x i s m h g. tt;
        polls = λ p a c max wait timeout e f s m i h. quiet p [] [] c (with_poll key a c max wait timeout) (_ ∷ []) h (record { at_key = i.at_key; at_site = i.at_site; silent = i.silent }, tt) (law.polls p a c max wait timeout e s h);
        serves = λ p a c id r b os m h. serves_by p a c id r b os m h;
      }

  told_any : (c : Core) (n : ℕ) (w : Answer) → IsTold (λ _ _. Unit {0}) (λ _ _. Unit {0}) (λ _ _. Unit {0}) c n w
  told_any c n (told_by.Got gots) = tt
  told_any c n (told_by.Wake st) = tt
  told_any c n told_by.Waiting = tt
  told_any c n told_by.Other = tt

  -- what calls.. the walk by calls says
  abbrev pub Follows : (Core → Effect) → Type 0
  Follows f = (p : Past) (c : Core) → At p [] c → Goes p [] (f c)

  pub some_goes : (p : Past) (a : Actor) (c : Core) (max wait : ℕ) (timeout : Option ℕ) (x : Queue × List Got) → Stands c.actors a → At p [] c → Gives (At p) c timeout x → Goes p [] (receive_some key a c max wait timeout x.0 x.1).effect
  some_goes p a c max wait timeout x s h k = (walk.some_goes key by_calls p a c max wait timeout x s (λ _. (tt, tt)) h (given_goes p c a.number timeout x h k, tt)).goes

  pub act_goes : (p : Past) (a : Actor) (c : Core) (x : Act) → Stands c.actors a → Sends Sent x → At p [] c → Goes p [] (act_made key a c x).effect
  act_goes p a c x s o h = (walk.act_goes key by_calls p a c x s o h).goes

  pub next_goes : (more : Answer → Core → Effect) (p : Past) (c : Core) (x : Act) (a : Actor) → ((w : Answer) → Follows (more w)) → Stands (with_actor c a).actors a → Sends Sent x → At p [] (with_actor c a) → Goes p [] (acts_next more key c (x, a))
  next_goes more p c x a f s o h = walk.next_goes key by_calls more a.number p c x a refl (λ w q d t k. f w q d k) s o h

  pub most_goes : (most n : ℕ) (w : Answer) → Follows (acts_most most key n w)
  most_goes most n w p c h = walk.most_goes key by_calls most n w p c (told_any c n w) h

  pub poll_goes : (p : Past) (poll : Poll) (c : Core) (x : Queue × List Got) → At p [] (without_poll c) → Gives (At p) (without_poll c) poll.timeout x → Goes p [] (poll_answered key poll c x)
  poll_goes p poll c x h k = walk.poll_goes key by_calls p poll c x (given_goes p (without_poll c) poll.actor poll.timeout x h k, tt)

-- A law of handlings: a law of turns that all else keeps which may be due at a site.
pub record HandlingLaw (key : Key) (law : TurnLaw key) : Type 1 where
  -- waiting polls: the first is answered, and one ends
  pub answers : (p : law.Past) (c : Core) → law.At p [] c → law.At p [] (without_poll c)
  pub ends : (p : law.Past) (c : Core) → law.At p [] c → law.At p [] (record c { polls = without (ends_at key) c.polls })
  -- messages: one may expire, one is released, a transfer comes
  pub MayExpire : Core → Type 0
  pub expires : (p : law.Past) (c : Core) → MayExpire c → law.At p [] c → law.Goes p [] (handle_expiry key c)
  pub releases : (p : law.Past) (c : Core) → law.At p [] c → law.At p ((released c.queue key.number).1 ∷ []) (with_queue c (released c.queue key.number).0)
  pub Comes : law.Past → Option Outbound → Core → Type 0
  pub absent : (p : law.Past) (c : Core) → Comes p None c → law.At p [] c
  pub arrives : (p : law.Past) (o : Outbound) (c : Core) → Comes p (Some o) c → law.Goes p [] (arrival_done key o.load c (arrived c.queue key.at o.load))
  -- samples and steps
  pub samples : (p : law.Past) (c : Core) → law.At p [] c → law.At p [] (record c { samples = c.samples + 1 })
  pub steps : (p : law.Past) (c : Core) (t : Task) → task_numbered key.agent c ≡ Some t → law.At p [] c → law.Goes p [] (handle_step key c (Some t))

-- what may be said of a site at which something of a class is due
abbrev pub IsDue : (key : Key) (law : TurnLaw key) → HandlingLaw key law → Class → Core → Type 0
IsDue key law due classes.Expiry c = due.MayExpire c
IsDue key law due class c = Unit {0}

module _ (key : Key) (law : TurnLaw key) (answers : (p : law.Past) (c : Core) → law.At p [] c → law.At p [] (without_poll c)) where
  pub polls_go : (polls : List Poll) → Follows key law (answer_polls key polls)
  polls_go polls p c h = walk.polls_go key (by_calls key law) answers polls p c (always_each (λ x. Unit {0}) (λ x. tt) polls) h

  pub polled : (p : law.Past) (e : Effect) → law.Goes p [] e → law.Goes p [] (with_polls key e)
  polled p e h = walk.polled key (by_calls key law) answers p e h

module _ (key : Key) (law : TurnLaw key) (due : HandlingLaw key law) where
  open law use {Past, At, Goes}

  pub releases_by : (p : Past) (c : Core) → At p [] c → Goes p [] (release_done key c (released c.queue key.number))
  releases_by p c h =
      let r : Queue × Option Load = released c.queue key.number in
      back_goes key law p [] (with_queue c r.0) key.number r.1 (due.releases p c h)

  abbrev due_by_calls : DueLaw key (by_calls key law)
  due_by_calls =
      record {
        IsDue = IsDue key law due;
        woken = λ c d. tt;
        answers = due.answers;
        ends = due.ends;
        expires = due.expires;
        releases = λ p c d h. releases_by p c h;
        Comes = due.Comes;
        absent = due.absent;
        arrives = due.arrives;
        samples = due.samples;
        steps = due.steps;
      }

  is_due : (k : Class) (c : Core) → (k ≡ classes.Expiry → due.MayExpire c) → IsDue key law due k c
  is_due classes.Expiry c m = m refl
  is_due k c m = tt

  pub arrival_goes : (p : Past) (o : Option Outbound) (c : Core) → due.Comes p o c → Goes p [] (handle_arrival key o c)
  arrival_goes p o c h = walk.arrival_goes key (by_calls key law) due_by_calls p o c h

  pub class_goes : (k : Class) (p : Past) (c : Core) → (k ≡ classes.Expiry → due.MayExpire c) → At p [] c → Goes p [] (handle_class k key c)
  class_goes k p c m h = walk.class_goes key (by_calls key law) due_by_calls k p c (is_due k c m) h

-- the law holds of each handling
pub handled_goes :
    (key : Key) (law : TurnLaw key) (due : HandlingLaw key law) (p : law.Past) (s : Site)
    → (is_arrival key.class ≡ false → (key.class ≡ classes.Expiry → due.MayExpire s.core) × law.At p [] s.core)
    → (is_arrival key.class ≡ true → due.Comes p (find (has_key key) s.arriving) s.core) → law.Goes p [] (effect_of (handled key s))
handled_goes key law due p s m a =
    walk.handled_goes key (by_calls key law) (due_by_calls key law due) p s (λ e. (is_due key law due key.class s.core (m e).0, (m e).1)) a
