-- An actor holds only messages that it was told of, and serves no other.
use Rattle.std.specs.Prelude.{Bool, List, None, Option, Some, [], drop, false, length, nat_lt, true, ℕ, ◌+◌, ◌++◌, ◌<◌, ◌==◌, ◌∷◌, ◌≡◌, ◌≤◌}
use Rattle.std.proofs.Common.{arith, refl}
use Rattle.sqs_message.specs.declared.calls.Call.{Call}
use Rattle.sqs_message.specs.declared.calls.Call.TheVariants as calls
use Rattle.sqs_laws.proofs.Terms.{Act, act_of, Actor, after_failure, Answer, Asked, Beat, begins_by, begins_next, changed_at, Consumer, consumer_told, consumer_wake, copies_after, copies_by, copy_rests, copy_wake, drawn_time, Draws, either, Ended, ends_by, ends_service, ends_well, ends_whole, Failed, Gathered, gathers_on, goes_on, Got, got_more, has_come, has_failed, has_forwarded, has_nothing, is_gathered, is_gathering, is_parked, is_wanted, LastAct, next_as, outcome, Producer, producer_sent, producer_wake, read_before, reads_or_scales, receipt_text, rest_after, rests, Role, Scaler, scales, Script, script_wake, ScriptCall, sent_one, Served, served_all, serves, serves_on, service_of, serving, settles, Standing, wanted_for, woken}
use Rattle.sqs_model.specs.declared.acts.Act.TheVariants as acts
use Rattle.sqs_model.specs.declared.acts.Answer.TheVariants as told_by
use Rattle.sqs_model.specs.declared.agents.ConsumerSettings.{ConsumerSettings}
use Rattle.sqs_model.specs.declared.agents.Forwarding.{Forwarding}
use Rattle.sqs_model.specs.declared.agents.ProducerSettings.{ProducerSettings}
use Rattle.sqs_model.specs.declared.agents.ScalerSettings.{ScalerSettings}
use Rattle.sqs_model.specs.declared.agents.Scaling.{Scaling}
use Rattle.sqs_model.specs.declared.agents.Serving.{Serving}
use Rattle.sqs_model.specs.declared.agents.Serving.TheVariants.{Each, Once}
use Rattle.sqs_model.specs.Actor.{backoff_at, backoff_drawn, next}
use Rattle.sqs_redrive.specs.declared.settings.Latency.{Latency}
use Rattle.sqs_laws.specs.Sends.{BacksOff}
use Rattle.sqs_laws.proofs.Giving.{AreKnown, IsKnown}

-- the timeouts that an actor of a role asks for, but a script
abbrev pub AsksOwn : Role → Act → Type 0
AsksOwn (Script script) x = Unit {0}
AsksOwn (Producer p) x = ⊥
AsksOwn (Consumer c) (acts.Receive max wait timeout) = timeout ≡ c.timeout
AsksOwn (Consumer c) (acts.Change text timeout) = BacksOff c text timeout
AsksOwn (Consumer c) (acts.Prolong text timeout) = timeout ≡ c.timeout
AsksOwn (Consumer c) x = Unit {0}
AsksOwn (Scaler s) x = ⊥

-- a consumer may receive, prolong a timeout and give another one so
record MayAsk (Own : Act → Type 0) (c : ConsumerSettings) : Type 0 where
  pub receives : (max wait : ℕ) → Own (acts.Receive max wait c.timeout)
  pub prolongs : (text : List ℕ) → Own (acts.Prolong text c.timeout)
  pub backs_off : (g : Got) (d : Draws) → Own (acts.Change (receipt_text g.receipt) (backoff_drawn c.jitter (backoff_at c.backoff g.receipt.count) d).0)

may_ask : (c : ConsumerSettings) → MayAsk (AsksOwn (Consumer c)) c
may_ask c = record { receives = λ max wait. refl; prolongs = λ text. refl; backs_off = λ g d. record { receipt = g.receipt; shown = refl; draws = d; timeout = refl } }

module _ (site arrivals : ℕ) where
  -- messages of which an actor was told
  pub record IsInformed (a : Actor) : Type 0 where
    pub held : AreKnown site arrivals a.held
    pub done : AreKnown site arrivals a.done
    pub failed : AreKnown site arrivals a.failed

  -- an act that serves no other message, and receives with such a timeout
  abbrev pub ServesKnown : (Act → Type 0) → Act → Type 0
  ServesKnown Own (acts.Serve id receipt failed forwards) = (id.site ≡ site) × (id.number < arrivals)
  ServesKnown Own (acts.Receive max wait timeout) = Own (acts.Receive max wait timeout)
  ServesKnown Own (acts.Change text timeout) = Own (acts.Change text timeout)
  ServesKnown Own (acts.Prolong text timeout) = Own (acts.Prolong text timeout)
  ServesKnown Own act = Unit {0}

  abbrev pub HearsOfKnown : Answer → Type 0
  HearsOfKnown (told_by.Got gots) = AreKnown site arrivals gots
  HearsOfKnown answer = Unit {0}

  pub record Acts (Own : Act → Type 0) (x : Act × Actor) : Type 0 where
    pub informed : IsInformed x.1
    pub serves : ServesKnown Own x.0

  known_append : (gs hs : List Got) → AreKnown site arrivals gs → AreKnown site arrivals hs → AreKnown site arrivals (gs ++ hs)
  known_append [] hs k l = l
  known_append (g ∷ gs) hs k l = (k.0, known_append gs hs k.1 l)

  module _ (Own : Act → Type 0) (now : ℕ) where
    idles : (a : Actor) → IsInformed a → Acts Own (acts.Nothing, a)
    idles a h = record { informed = h; serves = tt }

    with_lists : (a : Actor) → AreKnown site arrivals a.held → AreKnown site arrivals a.done → AreKnown site arrivals a.failed → IsInformed a
    with_lists a h d f = record { held = h; done = d; failed = f }

    call_serves : ((x : Act) → Own x) → (c : Call) → ServesKnown Own (act_of c)
    call_serves any (calls.Send body delay group id) = tt
    call_serves any (calls.Receive max wait timeout) = any (acts.Receive max wait timeout)
    call_serves any (calls.Delete receipt) = tt
    call_serves any (calls.Change receipt timeout) = any (acts.Change receipt timeout)
    call_serves any (calls.Start task) = tt
    call_serves any (calls.Cancel task) = tt

    script_acts : ((x : Act) → Own x) → (a : Actor) (cs : List ScriptCall) → IsInformed a → Acts Own (script_wake a cs)
    script_acts any a [] h = record { informed = with_lists _ h.held h.done h.failed; serves = tt }
    script_acts any a (c ∷ cs) h = record { informed = with_lists _ h.held h.done h.failed; serves = call_serves any c.call }

    producer_acts : (a : Actor) (p : ProducerSettings) → IsInformed a → Acts Own (producer_wake a p now)
    producer_acts a p h =
        either (Acts Own) (has_come p.stop now) _ _ (record { informed = with_lists _ h.held h.done h.failed; serves = tt }) (record { informed = with_lists _ h.held h.done h.failed; serves = tt })

    sent_acts : (a : Actor) (p : ProducerSettings) → IsInformed a → Acts Own (producer_sent a p now)
    sent_acts a p h = either (Acts Own) (nat_lt a.wakes p.count) _ _ (record { informed = with_lists _ h.held h.done h.failed; serves = tt }) (idles a h)

    forwarded_informed : (l : Latency) (tos : List ℕ) (a : Actor) → IsInformed a → IsInformed (has_forwarded l tos a)
    forwarded_informed l [] a h = h
    forwarded_informed l (to ∷ tos) a h = forwarded_informed l tos (sent_one l a) (with_lists _ h.held h.done h.failed)

    serves_acts : (a : Actor) (g : Got) (f : Option Forwarding) → IsInformed a → IsKnown site arrivals g → Acts Own (serves a now g f)
    serves_acts a g None h k = record { informed = h; serves = (k.here, k.old) }
    serves_acts a g (Some f) h k = record { informed = forwarded_informed f.latency f.to a h; serves = (k.here, k.old) }

    settles_acts : (a : Actor) (c : ConsumerSettings) (g : Got) (gs : List Got) → IsInformed a → IsKnown site arrivals g → AreKnown site arrivals gs → Acts Own (settles a c now g gs)
    settles_acts a c g gs h k l = serves_acts (record a { done = gs; last_act = Served g.receipt }) g c.forward (with_lists _ h.held l h.failed) k

    all_acts : (a : Actor) (c : ConsumerSettings) (gs : List Got) → IsInformed a → AreKnown site arrivals gs → Acts Own (served_all a c now gs)
    all_acts a c [] h k = idles a h
    all_acts a c (g ∷ gs) h k = settles_acts a c g gs h k.0 k.1

    whole_acts : (serving : Serving) (a : Actor) (c : ConsumerSettings) (g : Got) (gs : List Got) → IsInformed a → IsKnown site arrivals g → AreKnown site arrivals gs → Acts Own (ends_whole serving a c now g gs)
    whole_acts Each a c g [] h k l = all_acts a c (a.done ++ g ∷ []) h (known_append a.done (g ∷ []) h.done (k, tt))
    whole_acts Each a c g (x ∷ xs) h k l = record { informed = with_lists _ h.held (known_append a.done (g ∷ []) h.done (k, tt)) h.failed; serves = (k.here, k.old) }
    whole_acts (Once each) a c g gs h k l = settles_acts (record a { held = [] }) c g gs (with_lists _ tt h.done h.failed) k l

    well_acts : (whole : Bool) (a : Actor) (c : ConsumerSettings) (g : Got) (gs : List Got) → IsInformed a → IsKnown site arrivals g → AreKnown site arrivals gs → Acts Own (ends_well whole a c now g gs)
    well_acts false a c g gs h k l = serves_acts (record a { last_act = Served g.receipt }) g c.forward (with_lists _ h.held h.done h.failed) k
    well_acts true a c g gs h k l = whole_acts c.serving a c g gs h k l

    failure_informed : (timeouts : List ℕ) (whole : Bool) (c : ConsumerSettings) (a : Actor) (g : Got) → c.whole ≡ whole → IsInformed a → IsKnown site arrivals g → IsInformed (record (after_failure timeouts c a g) { last_act = Failed })
    failure_informed [] false c a g e h k = rw e (with_lists _ h.held h.done h.failed)
    failure_informed [] true c a g e h k = rw e (with_lists _ tt tt h.failed)
    failure_informed (t ∷ ts) false c a g e h k = rw e (with_lists _ h.held tt (known_append a.failed (a.done ++ g ∷ []) h.failed (known_append a.done (g ∷ []) h.done (k, tt))))
    failure_informed (t ∷ ts) true c a g e h k = rw e (with_lists _ tt tt (known_append a.failed (a.done ++ g ∷ a.held) h.failed (known_append a.done (g ∷ a.held) h.done (k, h.held))))

    ends_acts : (a : Actor) (c : ConsumerSettings) (g : Got) (failed : Bool) → IsInformed a → IsKnown site arrivals g → Acts Own (ends_service a c now g failed)
    ends_acts a c g true h k = record { informed = failure_informed c.backoff c.whole c a g refl h k; serves = (k.here, k.old) }
    ends_acts a c g false h k = well_acts c.whole a c g a.held h k h.held

    outcome_acts : (a : Actor) (c : ConsumerSettings) (g : Got) (outcome : Bool × Draws) → IsInformed a → IsKnown site arrivals g → Acts Own (ends_by a c now g outcome)
    outcome_acts a c g (failed, draws) h k = ends_acts (record a { draws = draws }) c g failed (with_lists _ h.held h.done h.failed) k

    rests_acts : (a : Actor) (c : ConsumerSettings) (failed done : List Got) → MayAsk Own c → IsInformed a → AreKnown site arrivals failed → AreKnown site arrivals done → Acts Own (rests a c now failed done)
    rests_acts a c (g ∷ gs) done o h f d = record { informed = with_lists _ h.held h.done f.1; serves = o.backs_off g a.draws }
    rests_acts a c [] (g ∷ gs) o h f d = settles_acts a c g gs h d.0 d.1
    rests_acts a c [] [] o h f d = either (Acts Own) (has_come c.stop now) _ _ (idles a h) (record { informed = with_lists _ h.held h.done h.failed; serves = o.receives c.batch c.wait })

    serves_on_acts : (a : Actor) (c : ConsumerSettings) (g : Got) (gs : List Got) → MayAsk Own c → IsInformed a → AreKnown site arrivals (g ∷ gs) → Acts Own (serves_on a c now g gs)
    serves_on_acts a c g gs o h k =
        either (Acts Own) (goes_on c.heartbeat a.ends now) _ _ (record { informed = with_lists _ h.held h.done h.failed; serves = o.prolongs (receipt_text g.receipt) })
        (outcome_acts (record a { held = gs }) c g (outcome c.fail_service (record a { held = g ∷ gs }) c now) (with_lists _ k.1 h.done h.failed) k.0)

    begins_acts : (failed : Option ℕ) (a : Actor) (c : ConsumerSettings) (drawn : ℕ × Draws) → IsInformed a → Acts Own (acts.Nothing, begins_by failed a c now drawn)
    begins_acts None a c (time, draws) h = record { informed = with_lists _ h.held h.done h.failed; serves = tt }
    begins_acts (Some failed) a c (time, draws) h = record { informed = with_lists _ h.held h.done h.failed; serves = tt }

    gathers_acts : (a : Actor) (c : ConsumerSettings) (after : ℕ) → IsInformed a → Acts Own (acts.Nothing, gathers_on a c now after)
    gathers_acts a c after h =
        either (λ (b : Actor). Acts Own (acts.Nothing, b)) (is_gathered a c now after) _ _
        (begins_acts c.fail_service (record a { last_act = Ended }) c (service_of c.serving (length a.held) (drawn_time c.service a.draws)) (with_lists _ h.held h.done h.failed))
        (record { informed = with_lists _ h.held h.done h.failed; serves = tt })

    wake_acts : (a : Actor) (c : ConsumerSettings) (gs : List Got) → MayAsk Own c → IsInformed a → AreKnown site arrivals gs → Acts Own (consumer_wake a c now gs)
    wake_acts a c [] o h k = rests_acts a c a.failed a.done o h h.failed h.done
    wake_acts a c (g ∷ gs) o h k = either (Acts Own) (is_gathering a.last_act) _ _ (record { informed = h; serves = o.receives _ _ }) (serves_on_acts a c g gs o h k)

    next_one_acts : (s : Serving) (a : Actor) (c : ConsumerSettings) (gs : List Got) → IsInformed a → AreKnown site arrivals gs → Acts Own (acts.Nothing, begins_next s (record a { held = gs }) c now)
    next_one_acts Each a c gs h k = begins_acts c.fail_service (record a { held = gs }) c (drawn_time c.service a.draws) (with_lists _ k h.done h.failed)
    next_one_acts (Once each) a c gs h k = record { informed = with_lists _ k h.done h.failed; serves = tt }

    serving_acts : (a : Actor) (c : ConsumerSettings) (gs : List Got) → IsInformed a → AreKnown site arrivals gs → Acts Own (acts.Nothing, serving a c now gs)
    serving_acts a c [] h k = record { informed = with_lists _ tt h.done h.failed; serves = tt }
    serving_acts a c (g ∷ gs) h k = next_one_acts c.serving a c (g ∷ gs) h k

    got_acts : (held : List Got) (a : Actor) (c : ConsumerSettings) (gs : List Got) → AreKnown site arrivals held → IsInformed a → AreKnown site arrivals gs → Acts Own (got_more held a c now gs)
    got_acts [] a c [] l h k = record { informed = with_lists _ h.held h.done h.failed; serves = tt }
    got_acts [] a c (g ∷ gs) l h k = gathers_acts (record a { held = g ∷ gs; done = []; failed = []; ends = now + c.gather }) c 0 (with_lists _ k tt tt)
    got_acts (x ∷ xs) a c gs l h k = gathers_acts (record a { held = x ∷ xs ++ gs }) c (rest_after c.idle gs) (with_lists _ (known_append (x ∷ xs) gs l k) h.done h.failed)

    failed_acts : (a : Actor) (c : ConsumerSettings) (gs : List Got) → MayAsk Own c → IsInformed a → AreKnown site arrivals gs → Acts Own (has_failed a c now gs)
    failed_acts a c [] o h k = serving_acts a c a.held h h.held
    failed_acts a c (g ∷ gs) o h k = record { informed = with_lists _ h.held h.done k.1; serves = o.backs_off g a.draws }

    told_acts : (a : Actor) (c : ConsumerSettings) (last : LastAct) → MayAsk Own c → IsInformed a → Acts Own (consumer_told a c now last)
    told_acts a c Asked o h = record { informed = with_lists _ h.held h.done h.failed; serves = tt }
    told_acts a c Gathered o h = gathers_acts a c c.idle h
    told_acts a c (Served receipt) o h = record { informed = with_lists _ h.held h.done h.failed; serves = tt }
    told_acts a c Ended o h = serving_acts a c a.held h h.held
    told_acts a c Failed o h = failed_acts a c a.failed o h h.failed
    told_acts a c Beat o h = record { informed = with_lists _ h.held h.done h.failed; serves = tt }
    told_acts a c last o h = idles a h

    copy_rests_acts : (wanted : Bool) (s : Scaling) (a : Actor) (c : ConsumerSettings) (next : Option ℕ) → MayAsk Own c → IsInformed a → Acts Own (copy_rests wanted s a c now next)
    copy_rests_acts false s a c next o h = record { informed = with_lists _ h.held h.done h.failed; serves = tt }
    copy_rests_acts true s a c next o h = either (Acts Own) (is_parked a.last_act) _ _ (record { informed = with_lists _ h.held h.done h.failed; serves = tt }) (wake_acts a c a.held o h h.held)

    copy_acts : (scaling : Option Scaling) (a : Actor) (c : ConsumerSettings) (st : Standing) → MayAsk Own c → IsInformed a → Acts Own (copy_wake scaling a c now st)
    copy_acts None a c st o h = wake_acts a c a.held o h h.held
    copy_acts (Some s) a c st o h = either (Acts Own) (has_nothing a) _ _ (copy_rests_acts (is_wanted s st.number a) s a c st.next o h) (wake_acts a c a.held o h h.held)

    scales_acts : (a : Actor) (s : ScalerSettings) (copies changed to : ℕ) → IsInformed a → Acts Own (scales a s now copies changed to)
    scales_acts a s copies changed to h =
        either (Acts Own) (to == copies) _ _ (record { informed = with_lists _ h.held h.done h.failed; serves = tt }) (record { informed = with_lists _ h.held h.done h.failed; serves = tt })

    scaler_acts : (o : Option ℕ) (a : Actor) (s : ScalerSettings) (copies changed visible : ℕ) → IsInformed a → Acts Own (reads_or_scales o a s now copies changed visible)
    scaler_acts (Some before) a s copies changed visible h = scales_acts a s copies changed (copies_after s now copies changed (wanted_for s before)) h
    scaler_acts None a s copies changed visible h =
        either (Acts Own) (s.reading == 0) _ _ (scales_acts a s copies changed (copies_after s now copies changed (wanted_for s visible)) h)
        (record { informed = with_lists _ h.held h.done h.failed; serves = tt })

  as_acts : (now : ℕ) (r : Role) (a : Actor) (w : Answer) → IsInformed a → HearsOfKnown w → Acts (AsksOwn r) (next_as r a now w)
  as_acts now (Script script) a (told_by.Wake st) h k = script_acts (AsksOwn (Script script)) now (λ _. tt) a (drop a.wakes script) h
  as_acts now (Script script) a w h k = idles (AsksOwn (Script script)) now a h
  as_acts now (Producer p) a (told_by.Wake st) h k = producer_acts (AsksOwn (Producer p)) now a p h
  as_acts now (Producer p) a told_by.Other h k = sent_acts (AsksOwn (Producer p)) now a p h
  as_acts now (Producer p) a w h k = idles (AsksOwn (Producer p)) now a h
  as_acts now (Consumer c) a (told_by.Wake st) h k = copy_acts (AsksOwn (Consumer c)) now c.scaling (woken a) c st (may_ask c) (with_lists (AsksOwn (Consumer c)) now _ h.held h.done h.failed)
  as_acts now (Consumer c) a (told_by.Got gots) h k = got_acts (AsksOwn (Consumer c)) now a.held a c gots h.held h k
  as_acts now (Consumer c) a told_by.Waiting h k = idles (AsksOwn (Consumer c)) now a h
  as_acts now (Consumer c) a told_by.Other h k = told_acts (AsksOwn (Consumer c)) now a c a.last_act (may_ask c) h
  as_acts now (Scaler s) a (told_by.Wake st) h k = scaler_acts (AsksOwn (Scaler s)) now (read_before a.last_act) (woken a) s (copies_by s a.last_act) (changed_at a.last_act) st.number (with_lists (AsksOwn (Scaler s)) now _ h.held h.done h.failed)
  as_acts now (Scaler s) a w h k = idles (AsksOwn (Scaler s)) now a h

  pub next_acts : (now : ℕ) (a : Actor) (w : Answer) → IsInformed a → HearsOfKnown w → Acts (AsksOwn a.settings.role) (next a now w)
  unfolding next
  next_acts now a w h k = as_acts now a.settings.role a w h k

-- what was known stays known, as messages come
pub known_later : (site m n : ℕ) → m ≤ n → (gs : List Got) → AreKnown site m gs → AreKnown site n gs
known_later site m n l [] k = tt
known_later site m n l (g ∷ gs) k = (record { here = k.0.here; old = let o : g.id.number < m = k.0.old in omega arith }, known_later site m n l gs k.1)

pub informed_later : (site m n : ℕ) → m ≤ n → (a : Actor) → IsInformed site m a → IsInformed site n a
informed_later site m n l a h = record { held = known_later site m n l a.held h.held; done = known_later site m n l a.done h.done; failed = known_later site m n l a.failed h.failed }
