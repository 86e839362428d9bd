-- Who asks for what is received: an actor by its call, or by a poll of its that waits.
use Rattle.std.specs.Prelude.{All, List, Option, Some, false, flat_map, length, map, slice_get, unwrap_or, ℕ, ◌*◌, ◌+◌, ◌++◌, ◌-◌, ◌/◌, ◌≡◌, ◌≤◌}
use Rattle.std.proofs.Common.{ap, arith, inl, inr, subst, sym, ◌∙◌}
use Rattle.sqs_model.specs.Receive.{is_bad_timeout}
use Rattle.sqs_laws.proofs.Terms.{Act, Actor, actor_dues, ActorSettings, all_in, Consumer, Core, In, in_left, in_right, into_map, Key, least_due, Poll, poll_key, Producer, Queue, queue_dues, QueueSettings, Role, Row, sample_dues, Scaler, Scenario, Script, ScriptCall, Site, task_dues, transfer_key}
use Rattle.sqs_message.specs.declared.calls.Call.TheVariants as calls
use Rattle.sqs_model.specs.Dues.{core_dues, dues}
use Rattle.sqs_laws.specs.Sends.{AsksBy, AsksToChange, AsksToChangeAs, BacksOff}
use Rattle.sqs_model.proofs.CallWalk.{ChangesTo}
use Rattle.sqs_model.specs.declared.acts.Act.TheVariants as acts
use Rattle.sqs_laws.proofs.Gives.{IsNoProducer, IsOwnCall, IsOwnChange, MayGive}
use Rattle.sqs_laws.proofs.Holding.{AsksOwn, ServesKnown}
use Rattle.sqs_laws.proofs.Moments.{IsFrom, from_each}
use Rattle.sqs_laws.proofs.Moves.{IsAskedFor, IsCalled, asks_as}

-- a poll that waits is a call of a script, or of a consumer; a row tells that it has begun
pub record IsWaiting (past : List Row) (p : Poll) (c : ScriptCall) : Type 0 where
  pub most : ℕ
  pub wait : ℕ
  pub call : c.call ≡ calls.Receive most wait p.timeout
  pub begun : (w : Row) × In past w × (w.key.at ≡ c.at)
  pub ends : p.end ≡ c.at + 1000 * wait

abbrev pub IsPolled : Scenario → List Row → Poll → Type 0
IsPolled u past p = (a : ActorSettings) × (slice_get u.actors (p.actor - length u.queues) ≡ Some a) × AsksBy (IsWaiting past p) a.role p.timeout × (is_bad_timeout p.timeout ≡ false)

pub polled_later : (u : Scenario) (past more : List Row) (p : Poll) → IsPolled u past p → IsPolled u (past ++ more) p
polled_later u past more p (a, e, x, b) =
    (a, e, asks_as (IsWaiting past p) (IsWaiting (past ++ more) p) (λ c y. record { most = y.most; wait = y.wait; call = y.call; ends = y.ends; begun = (y.begun.0, in_left past more y.begun.0 y.begun.1, y.begun.2) }) a.role p.timeout x, b)

-- it asks for what it gives, by its end
pub polled_asks : (u : Scenario) (past : List Row) (at : ℕ) (p : Poll) → at ≤ p.end → IsPolled u past p → IsAskedFor u past p.actor at p.timeout
polled_asks u past at p l (a, e, x, b) =
    (a, e, asks_as (IsWaiting past p) (IsCalled past at p.timeout) (λ c y. record { most = y.most; wait = y.wait; call = y.call; begun = inr y.begun; waits = omega (arith, l, y.ends) }) a.role p.timeout x, b)

-- an actor asks by a call of its own, and waits by it
own_asks : (C : ScriptCall → Type 0) (role : Role) (at max wait : ℕ) (timeout : Option ℕ) → ((c : ScriptCall) → c.at ≡ at → c.call ≡ calls.Receive max wait timeout → C c) → AsksOwn role (acts.Receive max wait timeout) → IsOwnCall role at max wait timeout → AsksBy C role timeout
own_asks C (Script cs) at max wait timeout f o i = (i.0, i.1, f i.0 i.2 i.3)
own_asks C (Consumer c) at max wait timeout f o i = o
own_asks C (Producer p) at max wait timeout f o i = absurd o
own_asks C (Scaler s) at max wait timeout f o i = absurd o

pub asks_now : (u : Scenario) (past : List Row) (agent at max wait : ℕ) (timeout : Option ℕ) (a : ActorSettings) → slice_get u.actors (agent - length u.queues) ≡ Some a → AsksOwn a.role (acts.Receive max wait timeout) → IsOwnCall a.role at max wait timeout → is_bad_timeout timeout ≡ false → IsAskedFor u past agent at timeout
asks_now u past agent at max wait timeout a e o i b =
    (a, e, own_asks (IsCalled past at timeout) a.role at max wait timeout (λ c n y. record { most = max; wait = wait; call = y; begun = inl n; waits = omega (arith, n) }) o i, b)

pub waits_now : (u : Scenario) (past : List Row) (at max wait : ℕ) (p : Poll) (a : ActorSettings) → slice_get u.actors (p.actor - length u.queues) ≡ Some a → AsksOwn a.role (acts.Receive max wait p.timeout) → IsOwnCall a.role at max wait p.timeout → is_bad_timeout p.timeout ≡ false → (w : Row) → In past w → w.key.at ≡ at → p.end ≡ at + 1000 * wait → IsPolled u past p
waits_now u past at max wait p a e o i b w j n f =
    (a, e, own_asks (IsWaiting past p) a.role at max wait p.timeout (λ c m y. record { most = max; wait = wait; call = y; begun = (w, j, n ∙ sym m); ends = omega (arith, f, m) }) o i, b)

-- a change asks for what the actor's call or settings say
change_by : (q : Queue) (role : Role) (at site arrivals : ℕ) (x : Act) (text : List ℕ) (timeout : ℕ) → ChangesTo q x text timeout → ServesKnown site arrivals (AsksOwn role) x → IsNoProducer role → ((own : List ℕ) (seconds : ℕ) → ChangesTo q x own seconds → IsOwnChange role at own seconds) → AsksToChange q.settings role at text timeout
change_by q (Script cs) at site arrivals x text timeout i s n m = m text timeout i
change_by q (Producer p) at site arrivals x text timeout i s n m = absurd n
change_by q (Consumer c) at site arrivals (acts.Change own seconds) text timeout i s n m = inr (subst (λ t. BacksOff c t timeout) i.0 (subst (BacksOff c own) i.1 s))
change_by q (Consumer c) at site arrivals (acts.Prolong own seconds) text timeout i s n m = inl (sym i.1 ∙ ap (λ t. unwrap_or t (q.settings.visibility / 1000)) s)
change_by q (Consumer c) at site arrivals x text timeout i s n m = absurd i
change_by q (Scaler c) at site arrivals (acts.Change own seconds) text timeout i s n m = absurd s
change_by q (Scaler c) at site arrivals (acts.Prolong own seconds) text timeout i s n m = absurd s
change_by q (Scaler c) at site arrivals x text timeout i s n m = absurd i

as_asked : (u : Scenario) (q : QueueSettings) (a : Actor) (at : ℕ) (text : List ℕ) (timeout : ℕ) → slice_get u.actors (a.number - length u.queues) ≡ Some a.settings → AsksToChange q a.settings.role at text timeout → AsksToChangeAs u q a.number at text timeout
as_asked u q a at text timeout f h y e = let is : a.settings ≡ y = let both : Some a.settings ≡ Some y = sym f ∙ e in cc in subst (λ (z : ActorSettings). AsksToChange q z.role at text timeout) is h

pub change_asked : (u : Scenario) (at site arrivals : ℕ) (a : Actor) (q : Queue) (x : Act) (text : List ℕ) (timeout : ℕ) → ChangesTo q x text timeout → ServesKnown site arrivals (AsksOwn a.settings.role) x → MayGive u at a x → AsksToChangeAs u q.settings a.number at text timeout
change_asked u at site arrivals a q (acts.Change own seconds) text timeout i s m =
    as_asked u q.settings a at text timeout m.1
    (change_by q a.settings.role at site arrivals (acts.Change own seconds) text timeout i s m.0
    (λ t n j. subst (λ y. IsOwnChange a.settings.role at y n) j.0 (subst (IsOwnChange a.settings.role at own) j.1 m.2)))
change_asked u at site arrivals a q (acts.Prolong own seconds) text timeout i s m =
    as_asked u q.settings a at text timeout m.1 (change_by q a.settings.role at site arrivals (acts.Prolong own seconds) text timeout i s m.0 (λ t n j. m.2 t n))
change_asked u at site arrivals a q x text timeout i s m = absurd i

-- no poll should have ended before a moment from which on all is due
core_ends : (c : Core) (p : Poll) → In c.polls p → In (core_dues c) (poll_key p)
unfolding core_dues
core_ends c p i =
    let k : Key = poll_key p in
    in_left _ (flat_map task_dues c.tasks) k (in_left _ (sample_dues c) k (in_left _ (flat_map actor_dues c.actors) k (in_right (queue_dues c.queue) (map poll_key c.polls) k (into_map poll_key c.polls p i))))

site_ends : (s : Site) (p : Poll) → In s.core.polls p → In (dues s) (poll_key p)
unfolding dues
site_ends s p i = in_right (map transfer_key s.arriving) (core_dues s.core) (poll_key p) (core_ends s.core p i)

pub due_polls : (at : ℕ) (s : Site) → IsFrom at (least_due s) → All (λ p. at ≤ p.end) s.core.polls
due_polls at s h = all_in (λ p. at ≤ p.end) s.core.polls (λ p i. from_each at (dues s) h (poll_key p) (site_ends s p i))
