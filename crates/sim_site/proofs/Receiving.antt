-- A receive, whose queue is the site's before its rows are made.
use Rattle.std.proofs.Common.{◌≡◌, ◌≤◌, ℕ, ◌==◌, arith, length, suc, Bool, true, false, List, [], ◌∷◌, ◌++◌, Option, refl, ap, sym, subst, ◌∙◌, map, take, min, if◌then◌else◌, nat_le, ◌&&◌}
use Rattle.std.specs.Prelude.{Err, Ok, Result}
use Rattle.std.proofs.lemmas.List.{length-take}
use Rattle.sim_clock.specs.declared.key.Key.{Key}
use Rattle.sim_clock.specs.declared.refusal.Refusal.{Refusal}
use Rattle.sim_clock.specs.declared.refusal.Refusal.TheVariants as refusals
use Rattle.sqs_message.specs.declared.message.Message.{Message}
use Rattle.sqs_redrive.specs.declared.answers.Got.{Got}
use Rattle.sqs_message.specs.declared.row.Row.{Row}
use Rattle.sqs_model.specs.declared.acts.Answer.TheVariants as told_by
use Rattle.sqs_model.specs.Actor.{Actor}
use Rattle.sqs_message.specs.declared.row.RowAnswer.TheVariants as answers
use Rattle.sqs_model.specs.Acts.{all_came_back, given, got_row, hosts_from, long_poll, made, receive_made, receive_none, receive_row, receive_some, short_poll}
use Rattle.sqs_model.specs.Draw.{Draws}
use Rattle.sim_site.proofs.Carried.{did_say}
use Rattle.sqs_model.specs.Available.{all_hosts, available}
use Rattle.sqs_model.specs.Queue.{Queue, in_flight, room}
use Rattle.sqs_model.specs.Receive.{answered, give, given_one, is_bad_timeout, receive, timeout_of, to_give}
use Rattle.sqs_model.specs.Site.{Core, Effect, and_then, with_queue}
use Rattle.sqs_model.proofs.Branches.{either}
use Rattle.sim_site.specs.Effects.{DidMake, Effects}

-- a receive that gives nothing leaves the queue as it was
abbrev StillOnNone : Queue → Result (List Got) Refusal × Queue → Type 0
StillOnNone q x = x.0 ≡ Ok [] → x.1 ≡ q

give_still : (now timeout : ℕ) (ms : List Message) (q : Queue) → StillOnNone q (answered (give now timeout ms q))
give_still now timeout [] q = λ e. refl
give_still now timeout (m ∷ ms) q = λ e. cc

receive_still : (q : Queue) (now max : ℕ) (timeout : Option ℕ) (set : ℕ) (short : Bool) → StillOnNone q (receive q now max timeout set short)
receive_still q now max timeout set short =
    either (StillOnNone q) (is_bad_timeout timeout) (Err refusals.BadTimeout, q) _ (λ e. refl)
    (either (StillOnNone q) (short && nat_le q.settings.in_flight_limit (in_flight q)) (Err refusals.OverLimit, q) _ (λ e. refl)
    (give_still now (timeout_of q timeout) (take (min max (room q)) (available q set)) q))

pub nothing_given : (q new : Queue) (now max : ℕ) (timeout : Option ℕ) (set : ℕ) (short : Bool) (gots : List Got) → receive q now max timeout set short ≡ (Ok gots, new) → gots ≡ [] → new ≡ q
nothing_given q new now max timeout set short gots h e =
    let still : StillOnNone q (Ok gots, new) = subst (StillOnNone q) h (receive_still q now max timeout set short) in
    still (ap (λ g. Ok g) e)

rows_same : (key : Key) (d : Core) (q : Queue) (n : ℕ) (gots : List Got) → q.site ≡ d.queue.site → map (got_row key (with_queue d q) n) gots ≡ map (got_row key d n) gots
rows_same key d q n gots h = ap (λ (s : ℕ). map (got_row key (with_queue d (record q { site = s })) n) gots) h

given_with : Key → Core → Option ℕ → Queue → List Got → List Row → Effect
given_with key d timeout q gots rows =
    let e : Effect = record { core = with_queue d q; rows = rows; sent = [] } in
    if timeout_of q timeout == 0 then and_then e (all_came_back key gots) else e

pub given_same : (key : Key) (d : Core) (q : Queue) (n : ℕ) (timeout : Option ℕ) (gots : List Got) → q.site ≡ d.queue.site → given key (with_queue d q) n timeout (q, gots) ≡ given key d n timeout (q, gots)
unfolding given_with
given_same key d q n timeout gots h = ap (given_with key d timeout q gots) (rows_same key d q n gots h)

pub some_same :
    (key : Key) (a : Actor) (d : Core) (q : Queue) (max wait : ℕ) (timeout : Option ℕ) (gots : List Got) → q.site ≡ d.queue.site → (gots ≡ [] → q ≡ d.queue)
    → receive_some key a (with_queue d q) max wait timeout q gots ≡ receive_some key a d max wait timeout q gots
some_same key a d q max wait timeout [] site still = ap (λ y. receive_none key a (with_queue d y) max wait timeout) (still refl)
some_same key a d q max wait timeout (g ∷ gs) site still = ap (λ e. made e (told_by.Got (g ∷ gs))) (given_same key d q a.number timeout (g ∷ gs) site)

module _ (key : Key) (a : Actor) (c : Core) (max : ℕ) (timeout : Option ℕ) where
  pub long_is :
      (wait set : ℕ) (q : Queue) (gots : List Got) → all_hosts c.queue.settings.kind ≡ set → receive c.queue key.at max timeout set false ≡ (Ok gots, q) → q.site ≡ c.queue.site
      → receive_some key a (with_queue c q) max wait timeout q gots ≡ long_poll key a c max wait timeout
  long_is wait set q gots all h site =
      some_same key a c q max wait timeout gots site (nothing_given c.queue q key.at max timeout set false gots h)
      ∙ sym (ap (λ s. receive_made key a c c max wait timeout (receive c.queue key.at max timeout s false)) all ∙ ap (receive_made key a c c max wait timeout) h)

  pub long_refused :
      (before after : Effects) (wait set : ℕ) (q : Queue) (e : Refusal) (x : Row) → all_hosts c.queue.settings.kind ≡ set → receive c.queue key.at max timeout set false ≡ (Err e, q) → q ≡ c.queue
      → after.rows.items ≡ before.rows.items ++ x ∷ [] → after.sent ≡ before.sent → x ≡ receive_row key c a.number (answers.Refused e)
      → DidMake before after (with_queue c q) told_by.Other (long_poll key a c max wait timeout)
  long_refused before after wait set q e x all h same rows sent row =
      rw (ap (λ s. receive_made key a c c max wait timeout (receive c.queue key.at max timeout s false)) all ∙ ap (receive_made key a c c max wait timeout) h)
      (record { effect = did_say before after (with_queue c q) c x (receive_row key c a.number (answers.Refused e)) rows sent (ap (with_queue c) same) row; answer = refl })

  pub short_is :
      (hosts sampled set start : ℕ) (q : Queue) (draws : Draws) (gots : List Got) → set ≡ hosts_from hosts sampled start → receive c.queue key.at max timeout set true ≡ (Ok gots, q) → q.site ≡ c.queue.site
      → receive_some key a (with_queue (record c { draws = draws }) q) max 0 timeout q gots ≡ short_poll key a c max timeout hosts sampled (start, draws)
  short_is hosts sampled set start q draws gots some h site =
      some_same key a (record c { draws = draws }) q max 0 timeout gots site (nothing_given c.queue q key.at max timeout set true gots h)
      ∙ sym (ap (λ s. receive_made key a c (record c { draws = draws }) max 0 timeout (receive c.queue key.at max timeout s true)) (sym some) ∙ ap (receive_made key a c (record c { draws = draws }) max 0 timeout) h)

  pub short_refused :
      (before after : Effects) (hosts sampled start : ℕ) (draws : Draws) (e : Refusal) (x : Row) → receive c.queue key.at max timeout (hosts_from hosts sampled start) true ≡ (Err e, c.queue)
      → after.rows.items ≡ before.rows.items ++ x ∷ [] → after.sent ≡ before.sent → x ≡ receive_row key c a.number (answers.Refused e)
      → DidMake before after c told_by.Other (short_poll key a c max timeout hosts sampled (start, draws))
  short_refused before after hosts sampled start draws e x h rows sent row =
      rw (ap (receive_made key a c (record c { draws = draws }) max 0 timeout) h)
      (record { effect = did_say before after c c x (receive_row key c a.number (answers.Refused e)) rows sent refl row; answer = refl })

-- a receive returns as many messages as it gives
gives_each : (now timeout : ℕ) (ms : List Message) (q : Queue) → length (give now timeout ms q).1 ≡ length ms
gives_each now timeout [] q = refl
gives_each now timeout (m ∷ ms) q = ap suc (gives_each now timeout ms (given_one q now timeout m).0)

-- no more than the in-flight limit of the queue lets it
abbrev IsFew : Queue → Result (List Got) Refusal × Queue → Type 0
IsFew q x = (gots : List Got) → x.0 ≡ Ok gots → length gots ≤ q.settings.in_flight_limit

few_given : (q : Queue) (now timeout max set : ℕ) → IsFew q (answered (give now timeout (to_give q max set) q))
few_given q now timeout max set gots e =
    let same : (give now timeout (to_give q max set) q).1 ≡ gots = cc in
    omega (arith, ap length same, gives_each now timeout (to_give q max set) q, length-take (min max (room q)) (available q set))

pub receive_few : (q : Queue) (now max : ℕ) (timeout : Option ℕ) (set : ℕ) (short : Bool) → IsFew q (receive q now max timeout set short)
receive_few q now max timeout set short =
    either (IsFew q) (is_bad_timeout timeout) _ _ (λ gots e. cc) (either (IsFew q) (short && nat_le q.settings.in_flight_limit (in_flight q)) _ _ (λ gots e. cc) (few_given q now (timeout_of q timeout) max set))
