-- What a consumer does when it wakes, and what that leaves as it was.
use Rattle.std.specs.Prelude.{Bool, List, None, Option, Some, [], false, true, ℕ, ◌++◌, ◌+◌, ◌∷◌, ◌≡◌, ◌≤◌}
use Rattle.std.proofs.Common.{ap, arith, inl, inr, refl}
use Rattle.sim_engine.proofs.Parts.{each_weaker}
use Rattle.sim_engine.specs.Members.{Each as EachOf, In}
use Rattle.sqs_redrive.specs.declared.settings.Latency.{Latency}
use Rattle.sqs_model.specs.declared.acts.Act.{Act}
use Rattle.sqs_model.specs.declared.acts.Act.TheVariants as acts
use Rattle.sqs_model.specs.declared.agents.ActorSettings.{ActorSettings}
use Rattle.sqs_model.specs.declared.agents.ConsumerSettings.{ConsumerSettings}
use Rattle.sqs_model.specs.declared.agents.Forwarding.{Forwarding}
use Rattle.sqs_model.specs.declared.agents.Serving.{Serving}
use Rattle.sqs_model.specs.declared.agents.Serving.TheVariants.{Each, Once}
use Rattle.sqs_redrive.specs.declared.answers.Got.{Got}
use Rattle.sqs_redrive.specs.declared.transfers.Outbound.{Outbound}
use Rattle.sqs_model.specs.Actor.{Actor, Asked, Beat, Ended, Failed, LastAct, Served, after_failure, backoff_at, backoff_drawn, consumer_wake, ends_by, ends_service, ends_well, ends_whole, forwards, goes_on, has_come, has_forwarded, is_gathering, outcome, rests, sent_one, served_all, serves, serves_on, settles}
use Rattle.sqs_model.specs.Draw.{Draws, drawn_latency}
use Rattle.sqs_model.proofs.Branches.{either}
use Rattle.sqs_model.proofs.Effects.{backoff_words, latency_least, latency_words, outcome_words}
use Rattle.sqs_model.proofs.Sending.{IsForward, Sends}

-- an actor that keeps its number, its settings, its wake and its counts but for transfers and words, which are no fewer
pub record Stays (b d : Actor) : Type 0 where
  pub number : d.number ≡ b.number
  pub settings : d.settings ≡ b.settings
  pub wake : d.wake ≡ b.wake
  pub wakes : d.wakes ≡ b.wakes
  pub polls : d.polls ≡ b.polls
  pub sent : b.sent ≤ d.sent
  pub words : b.draws.taken ≤ d.draws.taken

-- a forward of an actor, to one of the queues to which it forwards
pub record IsForwardBy (now : ℕ) (b : Actor) (f : Forwarding) (o : Outbound) : Type 0 where
  pub sender : o.sender ≡ b.number
  pub from : o.from ≡ b.settings.home
  pub to : In f.to o.to
  pub late : now + f.latency.least ≤ o.at
  pub load : IsForward o.load

abbrev pub MayForwardBy : ℕ → Actor → Option Forwarding → Outbound → Type 0
MayForwardBy now b None o = ⊥
MayForwardBy now b (Some f) o = IsForwardBy now b f o

-- how a consumer with a wait and a forward may ask for messages and end a service when it wakes
abbrev pub IsServiceAct : ℕ → Actor → ℕ → Option Forwarding → Act → Type 0
IsServiceAct now b wait f (acts.Receive most waits timeout) = waits ≤ wait
IsServiceAct now b wait f (acts.Serve id receipt failed forwards) = EachOf (MayForwardBy now b f) forwards
IsServiceAct now b wait f act = Unit {0}

-- what holds of each forward holds of what such an act sends
module _ (now : ℕ) (b : Actor) (wait : ℕ) (P : Outbound → Type 0) where
  forward_has : (f : Option Forwarding) (o : Outbound) → ((x : Forwarding) (y : Outbound) → f ≡ Some x → IsForwardBy now b x y → P y) → MayForwardBy now b f o → P o
  forward_has None o one h = absurd h
  forward_has (Some x) o one h = one x o refl h

  pub service_sends : (f : Option Forwarding) (act : Act) → ((x : Forwarding) (y : Outbound) → f ≡ Some x → IsForwardBy now b x y → P y) → IsServiceAct now b wait f act → Sends P act
  service_sends f (acts.Serve id receipt failed forwards) one h = each_weaker (MayForwardBy now b f) P (λ o k. forward_has f o one k) forwards h
  service_sends f act one h = tt

-- what a consumer does when it wakes
pub record Woke (now : ℕ) (b : Actor) (wait : ℕ) (f : Option Forwarding) (x : Act × Actor) : Type 0 where
  pub stays : Stays b x.1
  pub act : IsServiceAct now b wait f x.0

module _ (now : ℕ) (b : Actor) where
  same_stays : Stays b b
  same_stays = record { number = refl; settings = refl; wake = refl; wakes = refl; polls = refl; sent = omega arith; words = omega arith }

  -- what it holds, when its service ends and what it did last may change
  held_stays : (d : Actor) (held done failed : List Got) (ends : ℕ) (last_act : LastAct) → Stays b d → Stays b (record d { held = held; done = done; failed = failed; ends = ends; last_act = last_act })
  held_stays d held done failed ends last_act s =
      record { number = s.number; settings = s.settings; wake = s.wake; wakes = s.wakes; polls = s.polls; sent = s.sent; words = s.words }

  drawn_stays : (d : Actor) (draws : Draws) → d.draws.taken ≤ draws.taken → Stays b d → Stays b (record d { draws = draws })
  drawn_stays d draws more s =
      record { number = s.number; settings = s.settings; wake = s.wake; wakes = s.wakes; polls = s.polls; sent = s.sent; words = omega (arith, s.words, more) }

  one_stays : (l : Latency) (d : Actor) → Stays b d → Stays b (sent_one l d)
  one_stays l d s =
      record {
        number = s.number;
        settings = s.settings;
        wake = s.wake;
        wakes = s.wakes;
        polls = s.polls;
        sent = omega (arith, s.sent);
        words = latency_words l b.draws.taken d.draws s.words;
      }

  -- after transfers to some queues it stays so, and each is a forward to one of those to which it forwards
  forwards_stay : (l : Latency) (tos : List ℕ) (d : Actor) → Stays b d → Stays b (has_forwarded l tos d)
  forwards_stay l [] d s = s
  forwards_stay l (to ∷ tos) d s = forwards_stay l tos (sent_one l d) (one_stays l d s)

  each_forward : (f : Forwarding) (tos : List ℕ) (d : Actor) (g : Got) → ((to : ℕ) → In tos to → In f.to to) → Stays b d → EachOf (IsForwardBy now b f) (forwards d now g f.latency tos)
  each_forward f [] d g within s = tt
  each_forward f (to ∷ tos) d g within s =
      let later : f.latency.least ≤ (drawn_latency f.latency d.draws).0 = latency_least f.latency d.draws in (
        record { sender = s.number; from = ap (λ (x : ActorSettings). x.home) s.settings; to = within to (inl refl); late = omega arith; load = tt },
        each_forward f tos (sent_one f.latency d) g (λ x h. within x (inr h)) (one_stays f.latency d s),
      )

  pub serves_woke : (wait : ℕ) (d : Actor) (g : Got) (f : Option Forwarding) → Stays b d → Woke now b wait f (serves d now g f)
  serves_woke wait d g None s = record { stays = s; act = tt }
  serves_woke wait d g (Some f) s = record { stays = forwards_stay f.latency f.to d s; act = each_forward f f.to d g (λ x h. h) s }

  module _ (c : ConsumerSettings) where
    -- what it does is what such a consumer may do
    abbrev Wakes : Act × Actor → Type 0
    Wakes x = Woke now b c.wait c.forward x

    settles_woke : (d : Actor) (g : Got) (gs : List Got) → Stays b d → Wakes (settles d c now g gs)
    settles_woke d g gs s = serves_woke c.wait _ g c.forward (held_stays d d.held gs d.failed d.ends (Served g.receipt) s)

    all_woke : (d : Actor) (gs : List Got) → Stays b d → Wakes (served_all d c now gs)
    all_woke d [] s = record { stays = s; act = tt }
    all_woke d (g ∷ gs) s = settles_woke d g gs s

    whole_woke : (serving : Serving) (d : Actor) (g : Got) (gs : List Got) → Stays b d → Wakes (ends_whole serving d c now g gs)
    whole_woke Each d g [] s = all_woke d (d.done ++ g ∷ []) s
    whole_woke Each d g (h ∷ hs) s = record { stays = held_stays d d.held (d.done ++ g ∷ []) d.failed d.ends Ended s; act = tt }
    whole_woke (Once each) d g gs s = settles_woke (record d { held = [] }) g gs (held_stays d [] d.done d.failed d.ends d.last_act s)

    well_woke : (whole : Bool) (d : Actor) (g : Got) (gs : List Got) → Stays b d → Wakes (ends_well whole d c now g gs)
    well_woke false d g gs s = serves_woke c.wait _ g c.forward (held_stays d d.held d.done d.failed d.ends (Served g.receipt) s)
    well_woke true d g gs s = whole_woke c.serving d g gs s

    failed_stays : (timeouts : List ℕ) (whole : Bool) (d : Actor) (g : Got) → c.whole ≡ whole → Stays b d → Stays b (record (after_failure timeouts c d g) { last_act = Failed })
    failed_stays [] false d g e s = rw e (held_stays d d.held d.done d.failed d.ends Failed s)
    failed_stays [] true d g e s = rw e (held_stays d [] [] d.failed d.ends Failed s)
    failed_stays (t ∷ ts) false d g e s = rw e (held_stays d d.held [] (d.failed ++ (d.done ++ g ∷ [])) d.ends Failed s)
    failed_stays (t ∷ ts) true d g e s = rw e (held_stays d [] [] (d.failed ++ (d.done ++ g ∷ d.held)) d.ends Failed s)

    pub ends_woke : (d : Actor) (g : Got) (failed : Bool) → Stays b d → Wakes (ends_service d c now g failed)
    ends_woke d g true s = record { stays = failed_stays c.backoff c.whole d g refl s; act = tt }
    ends_woke d g false s = well_woke c.whole d g d.held s

    outcome_woke : (d : Actor) (g : Got) (outcome : Bool × Draws) → d.draws.taken ≤ outcome.1.taken → Stays b d → Wakes (ends_by d c now g outcome)
    outcome_woke d g (failed, draws) more s = ends_woke (record d { draws = draws }) g failed (drawn_stays d draws more s)

    rests_woke : (d : Actor) (failed done : List Got) → Stays b d → Wakes (rests d c now failed done)
    rests_woke d (g ∷ gs) done s =
        let drawn : ℕ × Draws = backoff_drawn c.jitter (backoff_at c.backoff g.receipt.count) d.draws in
        let words : d.draws.taken ≤ drawn.1.taken = backoff_words c.jitter (backoff_at c.backoff g.receipt.count) d.draws in
        record { stays = held_stays (record d { draws = drawn.1 }) d.held d.done gs d.ends Ended (drawn_stays d drawn.1 words s); act = tt }
    rests_woke d [] (g ∷ gs) s = settles_woke d g gs s
    rests_woke d [] [] s =
        either Wakes (has_come c.stop now) _ _ (record { stays = s; act = tt })
        (record { stays = held_stays d d.held d.done d.failed d.ends Asked s; act = omega arith })

    serves_on_woke : (d : Actor) (g : Got) (gs : List Got) → Stays b d → Wakes (serves_on d c now g gs)
    serves_on_woke d g gs s =
        either Wakes (goes_on c.heartbeat d.ends now) _ _
        (record { stays = held_stays d d.held d.done d.failed d.ends Beat s; act = tt })
        (outcome_woke (record d { held = gs }) g (outcome c.fail_service (record d { held = g ∷ gs }) c now)
        (outcome_words c.fail_service (record d { held = g ∷ gs }) c now) (held_stays d gs d.done d.failed d.ends d.last_act s))

    woke_from : (d : Actor) (gs : List Got) → Stays b d → Wakes (consumer_wake d c now gs)
    woke_from d [] s = rests_woke d d.failed d.done s
    woke_from d (g ∷ gs) s = either Wakes (is_gathering d.last_act) _ _ (record { stays = s; act = omega arith }) (serves_on_woke d g gs s)

    pub consumer_woke : (gs : List Got) → Wakes (consumer_wake b c now gs)
    consumer_woke gs = woke_from b gs same_stays

-- the end of a service takes no word back
pub ends_words : (now : ℕ) (c : ConsumerSettings) (d : Actor) (g : Got) (x : Bool × Draws) → x.1.taken ≤ (ends_by d c now g x).1.draws.taken
ends_words now c d g (failed, draws) = let b : Actor = record d { draws = draws } in (ends_woke now b c b g failed (same_stays now b)).stays.words
