-- What an actor does next leaves it sound, makes it wake later or as before, and sends only what arrives later.
use Rattle.std.proofs.lemmas.Bool.{eqb-false}
use Rattle.std.specs.Prelude.{Bool, List, None, Option, Some, [], drop, if◌then◌else◌, length, max, nat_lt, suc, zero, ℕ, ◌++◌, ◌+◌, ◌<◌, ◌∷◌, ◌==◌, ◌-◌, ◌≡◌, ◌≢◌, ◌≤◌, ◌⊎◌, false, true}
use Rattle.std.proofs.Common.{add-one, ap, arith, inl, inr, refl, subst, sym, ◌∙◌}
use Rattle.sqs_message.specs.declared.calls.ScriptCall.{ScriptCall}
use Rattle.sqs_model.specs.declared.acts.Act.{Act}
use Rattle.sqs_model.specs.declared.acts.Act.TheVariants as acts
use Rattle.sqs_model.specs.declared.acts.Answer.{Answer}
use Rattle.sqs_model.specs.declared.acts.Answer.TheVariants as told_by
use Rattle.sqs_model.specs.declared.agents.ActorSettings.{ActorSettings}
use Rattle.sqs_model.specs.declared.agents.ConsumerSettings.{ConsumerSettings}
use Rattle.sqs_model.specs.declared.agents.Forwarding.{Forwarding}
use Rattle.sqs_model.specs.declared.agents.ProducerSettings.{ProducerSettings}
use Rattle.sqs_model.specs.declared.agents.Role.{Role}
use Rattle.sqs_model.specs.declared.agents.Role.TheVariants.{Consumer, Producer, Scaler, Script}
use Rattle.sqs_model.specs.declared.acts.Standing.{Standing}
use Rattle.sqs_model.specs.declared.agents.ScalerSettings.{ScalerSettings}
use Rattle.sqs_model.specs.declared.agents.Scaling.{Scaling}
use Rattle.sqs_model.specs.declared.agents.Serving.{Serving}
use Rattle.sqs_model.specs.declared.agents.Serving.TheVariants.{Each, Once}
use Rattle.sqs_redrive.specs.declared.answers.Got.{Got}
use Rattle.sqs_redrive.specs.declared.transfers.Outbound.{Outbound}
use Rattle.sqs_model.specs.Actor.{Actor, Asked, Beat, Ended, Failed, Gathered, Parked, Served, LastAct, asks_again, begins_by, begins_first, begins_next, consumer_told, consumer_wake, changed_at, copies_after, copies_by, copy_rests, copy_wake, drawn_failure, first_at, gathers_on, got_more, has_come, has_failed, has_nothing, idle, in_service, is_gathered, is_parked, is_wanted, looks_again, next, next_as, next_beat, producer_sent, producer_wake, read_before, reads, reads_or_scales, rest_after, scales, scales_for, script_wake, service_of, serving, wakes_after, wanted_for, woken}
use Rattle.sqs_model.specs.Draw.{Draws, drawn_time}
use Rattle.sqs_model.specs.Progress.{Ascends, IsSoundActor, IsSoundDistribution, IsSoundForward, IsSoundRole, WakesFor}
use Rattle.sqs_model.proofs.Counts.{ascends_lower}
use Rattle.sqs_model.proofs.ConsumerWakes.{IsForwardBy, consumer_woke, service_sends}
use Rattle.sqs_model.proofs.Effects.{time_least}
use Rattle.sqs_model.proofs.EachDue.{wake_key}
use Rattle.sqs_model.proofs.Weights.{Weight, actor_weight, weigh_if}
use Rattle.sqs_model.proofs.Branches.{either, either_by}
use Rattle.sqs_model.proofs.Sending.{Sends, call_sends}

-- the rest of a list in order is in order
pub drop_ascends : (n k : ℕ) (xs : List ScriptCall) → Ascends (λ c. c.at) n xs → Ascends (λ c. c.at) 0 (drop k xs)
drop_ascends n zero xs a = ascends_lower (λ c. c.at) 0 n xs (omega arith) a
drop_ascends n (suc k) [] a = tt
drop_ascends n (suc k) (c ∷ cs) a = drop_ascends (c.at + 1) k cs a.1

drop_suc : (k : ℕ) (xs : List ScriptCall) (c : ScriptCall) (cs : List ScriptCall) → drop k xs ≡ c ∷ cs → drop (suc k) xs ≡ cs
drop_suc zero [] c cs h = cc
drop_suc zero (x ∷ xs) c cs h = cc
drop_suc (suc k) [] c cs h = cc
drop_suc (suc k) (x ∷ xs) c cs h = drop_suc k xs c cs h

pub drop_next : (k : ℕ) (xs : List ScriptCall) (c : ScriptCall) (cs : List ScriptCall) → drop k xs ≡ c ∷ cs → drop (k + 1) xs ≡ cs
drop_next k xs c cs h = rw add-one (drop_suc k xs c cs h)

-- whether a transfer, if any, arrives later
abbrev pub IsLater : ℕ → Outbound → Type 0
IsLater now o = now < o.at

-- whether what an act sends arrives later
abbrev pub SendsLater : ℕ → Act → Type 0
SendsLater now act = Sends (IsLater now) act

-- an act of an actor of a role, and the actor after it, with so many dues gone
pub record Steps (now : ℕ) (w : Weight now) (gone : ℕ) (r : Role) (a : Actor) (x : Act × Actor) : Type 0 where
  pub number : x.1.number ≡ a.number
  pub settings : x.1.settings ≡ a.settings
  pub wakes : WakesFor r x.1
  pub wake : actor_weight w x.1 + gone ≤ actor_weight w a
  pub sends : SendsLater now x.0

module _ (now : ℕ) (w : Weight now) where
  -- whether nothing is gone, or a wake at the present
  abbrev pub IsGone : ℕ → Actor → Type 0
  IsGone gone a = (gone ≡ 0) ⊎ ((a.wake ≡ Some now) × (gone ≡ w.of (wake_key now a)))

  -- whether an answer is a wake, where dues are gone
  abbrev pub IsWakeWhere : ℕ → Actor → Answer → Type 0
  IsWakeWhere gone a (told_by.Wake st) = IsGone gone a
  IsWakeWhere gone a (told_by.Got gots) = gone ≡ 0
  IsWakeWhere gone a told_by.Waiting = gone ≡ 0
  IsWakeWhere gone a told_by.Other = gone ≡ 0

-- the next act of a sound actor, which stays sound
pub record Acts (now : ℕ) (w : Weight now) (gone : ℕ) (a : Actor) (x : Act × Actor) : Type 0 where
  pub number : x.1.number ≡ a.number
  pub sound : IsSoundActor x.1
  pub wake : actor_weight w x.1 + gone ≤ actor_weight w a
  pub sends : SendsLater now x.0

module _ (now : ℕ) (w : Weight now) where
  gone_at_most : (gone : ℕ) (a : Actor) → IsGone now w gone a → gone ≤ actor_weight w a
  gone_at_most gone a (inl z) = omega arith
  gone_at_most gone a (inr h) = let t : actor_weight w a ≡ w.of (wake_key now a) = ap (weigh_if (λ at. w.of (wake_key at a))) h.0 in let u : gone ≡ w.of (wake_key now a) = h.1 in omega arith

  -- scripts
  script_later : (gone at : ℕ) (a : Actor) (cs : List ScriptCall) → a.wake ≡ Some at → Ascends (λ c. c.at) (at + 1) cs → IsGone now w gone a → weigh_if (λ n. w.of (wake_key n (woken a))) (first_at cs) + gone ≤ actor_weight w a
  script_later gone at a [] e h g = omega (arith, gone_at_most gone a g)
  script_later gone at a (c ∷ cs) e h (inl z) =
      let m : at + 1 ≤ c.at = h.0 in
      let t : w.of (wake_key c.at (woken a)) ≤ w.of (wake_key at a) = w.less (wake_key c.at (woken a)) (wake_key at a) (omega arith) in
      let u : actor_weight w a ≡ w.of (wake_key at a) = ap (weigh_if (λ n. w.of (wake_key n a))) e in omega arith
  script_later gone at a (c ∷ cs) e h (inr k) =
      let m : at + 1 ≤ c.at = h.0 in
      let n : Some at ≡ Some now = sym e ∙ k.0 in
      let o : at ≡ now = cc in
      let t : w.of (wake_key c.at (woken a)) ≡ 0 = w.past (wake_key c.at (woken a)) (omega arith) in
      omega (arith, gone_at_most gone a (inr k))

  script_steps :
      (gone : ℕ) (script : List ScriptCall) (a : Actor) (cs : List ScriptCall) → drop a.wakes script ≡ cs → Ascends (λ c. c.at) 0 cs
      → a.wake ≡ first_at cs → IsGone now w gone a → Steps now w gone (Script script) a (script_wake a cs)
  script_steps gone script a [] h s k g =
      record { number = refl; settings = refl; wakes = rw h refl; wake = omega (arith, gone_at_most gone a g); sends = tt }
  script_steps gone script a (c ∷ cs) h s k g =
      record {
        number = refl;
        settings = refl;
        wakes = rw (drop_next a.wakes script c cs h) refl;
        wake = script_later gone c.at a cs k s.1 g;
        sends = call_sends (IsLater now) c.call;
      }

  -- an actor as it was
  same_steps : (r : Role) (a : Actor) → WakesFor r a → Steps now w 0 r a (acts.Nothing, a)
  same_steps r a k = record { number = refl; settings = refl; wakes = k; wake = omega arith; sends = tt }

  -- producers
  producer_wake_steps : (gone : ℕ) (p : ProducerSettings) (a : Actor) → IsGone now w gone a → Steps now w gone (Producer p) a (producer_wake a p now)
  producer_wake_steps gone p a g =
      either (Steps now w gone (Producer p) a) (has_come p.stop now) _ _
      (record { number = refl; settings = refl; wakes = tt; wake = omega (arith, gone_at_most gone a g); sends = tt })
      (record { number = refl; settings = refl; wakes = tt; wake = omega (arith, gone_at_most gone a g); sends = tt })

  late_wake : (at gap : ℕ) (a : Actor) → 1 ≤ gap → w.of (wake_key (now + gap) a) + 0 ≤ at
  late_wake at gap a h = omega (arith, w.past (wake_key (now + gap) a) (omega arith))

  producer_sent_steps : (p : ProducerSettings) (a : Actor) → IsSoundDistribution p.gap → Steps now w 0 (Producer p) a (producer_sent a p now)
  producer_sent_steps p a h =
      either (λ (x : Act × Actor). Steps now w 0 (Producer p) a x) (nat_lt a.wakes p.count)
      (acts.Nothing, wakes_after a now (drawn_time p.gap a.draws)) (acts.Nothing, a)
      (record { number = refl; settings = refl; wakes = tt; wake = late_wake (actor_weight w a) (drawn_time p.gap a.draws).0 a (time_least p.gap a.draws h); sends = tt })
      (same_steps (Producer p) a tt)

  -- consumers
  consumer_wake_steps :
      (gone : ℕ) (c : ConsumerSettings) (a : Actor) (gs : List Got) → IsSoundForward c.forward → IsGone now w gone a
      → Steps now w gone (Consumer c) a (consumer_wake (woken a) c now gs)
  consumer_wake_steps gone c a gs s g =
      let x = consumer_woke now (woken a) c gs in
      let none : actor_weight w (consumer_wake (woken a) c now gs).1 ≡ 0 = ap (weigh_if (λ at. w.of (wake_key at (consumer_wake (woken a) c now gs).1))) x.stays.wake in
      record {
        number = x.stays.number;
        settings = x.stays.settings;
        wakes = tt;
        wake = omega (arith, gone_at_most gone a g);
        sends = service_sends now (woken a) c.wait (IsLater now) c.forward _ (λ f o is by. forward_later f o (subst IsSoundForward is s) by) x.act;
      }
    where
      forward_later : (f : Forwarding) (o : Outbound) → IsSoundForward (Some f) → IsForwardBy now (woken a) f o → now < o.at
      forward_later f o one by = let late : now + f.latency.least ≤ o.at = by.late in omega arith

  -- copies
  sleeps_steps : (gone : ℕ) (c : ConsumerSettings) (a : Actor) (next : Option ℕ) → IsGone now w gone a → Steps now w gone (Consumer c) a (acts.Nothing, record (woken a) { wake = looks_again now next; last_act = Parked })
  sleeps_steps gone c a None g = record { number = refl; settings = refl; wakes = tt; wake = omega (arith, gone_at_most gone a g); sends = tt }
  sleeps_steps gone c a (Some next) g =
      let past : w.of (wake_key (max (now + 1) next) (woken a)) ≡ 0 = w.past (wake_key (max (now + 1) next) (woken a)) (omega arith) in
      record { number = refl; settings = refl; wakes = tt; wake = omega (arith, gone_at_most gone a g); sends = tt }

  copy_rests_steps :
      (gone : ℕ) (wanted : Bool) (s : Scaling) (c : ConsumerSettings) (a : Actor) (next : Option ℕ) → IsSoundForward c.forward → IsGone now w gone a
      → Steps now w gone (Consumer c) a (copy_rests wanted s (woken a) c now next)
  copy_rests_steps gone false s c a next f g = sleeps_steps gone c a next g
  copy_rests_steps gone true s c a next f g =
      let past : w.of (wake_key (max (now + 1) (now + s.start)) (woken a)) ≡ 0 = w.past (wake_key (max (now + 1) (now + s.start)) (woken a)) (omega arith) in
      either (Steps now w gone (Consumer c) a) (is_parked a.last_act) _ _
      (record { number = refl; settings = refl; wakes = tt; wake = omega (arith, gone_at_most gone a g); sends = tt })
      (consumer_wake_steps gone c a a.held f g)

  copy_wake_steps :
      (gone : ℕ) (o : Option Scaling) (c : ConsumerSettings) (a : Actor) (st : Standing) → IsSoundForward c.forward → IsGone now w gone a
      → Steps now w gone (Consumer c) a (copy_wake o (woken a) c now st)
  copy_wake_steps gone None c a st f g = consumer_wake_steps gone c a a.held f g
  copy_wake_steps gone (Some s) c a st f g =
      either (Steps now w gone (Consumer c) a) (has_nothing (woken a)) _ _ (copy_rests_steps gone (is_wanted s st.number (woken a)) s c a st.next f g)
      (consumer_wake_steps gone c a a.held f g)

  -- scalers
  scales_steps : (gone : ℕ) (s : ScalerSettings) (a : Actor) (copies changed to : ℕ) → s.reading < s.every → IsGone now w gone a → Steps now w gone (Scaler s) a (scales (woken a) s now copies changed to)
  scales_steps gone s a copies changed to h g =
      let past : w.of (wake_key (now + (s.every - s.reading)) (woken a)) ≡ 0 = w.past (wake_key (now + (s.every - s.reading)) (woken a)) (omega (arith, h)) in
      either (Steps now w gone (Scaler s) a) (to == copies) _ _
      (record { number = refl; settings = refl; wakes = tt; wake = omega (arith, gone_at_most gone a g); sends = tt })
      (record { number = refl; settings = refl; wakes = tt; wake = omega (arith, gone_at_most gone a g); sends = tt })

  scales_for_steps : (gone : ℕ) (s : ScalerSettings) (a : Actor) (copies changed visible : ℕ) → s.reading < s.every → IsGone now w gone a → Steps now w gone (Scaler s) a (scales_for (woken a) s now copies changed visible)
  scales_for_steps gone s a copies changed visible h g = scales_steps gone s a copies changed (copies_after s now copies changed (wanted_for s visible)) h g

  reads_steps : (gone : ℕ) (s : ScalerSettings) (a : Actor) (copies changed visible : ℕ) → s.reading < s.every → IsGone now w gone a → Steps now w gone (Scaler s) a (reads (woken a) s now copies changed visible)
  reads_steps gone s a copies changed visible h g =
      either_by (Steps now w gone (Scaler s) a) (s.reading == 0) _ _ (λ e. scales_for_steps gone s a copies changed visible h g)
      (λ e.
      let some : s.reading ≢ 0 = eqb-false s.reading 0 e in
      let past : w.of (wake_key (now + s.reading) (woken a)) ≡ 0 = w.past (wake_key (now + s.reading) (woken a)) (omega (arith, some)) in
      record { number = refl; settings = refl; wakes = tt; wake = omega (arith, gone_at_most gone a g); sends = tt })

  scaler_wake_steps : (gone : ℕ) (o : Option ℕ) (s : ScalerSettings) (a : Actor) (copies changed visible : ℕ) → s.reading < s.every → IsGone now w gone a → Steps now w gone (Scaler s) a (reads_or_scales o (woken a) s now copies changed visible)
  scaler_wake_steps gone (Some before) s a copies changed visible h g = scales_for_steps gone s a copies changed before h g
  scaler_wake_steps gone None s a copies changed visible h g = reads_steps gone s a copies changed visible h g

  in_service_steps : (c : ConsumerSettings) (a b : Actor) → b.number ≡ a.number → b.settings ≡ a.settings → Steps now w 0 (Consumer c) a (acts.Nothing, in_service b c now)
  in_service_steps c a b n s =
      let past : w.of (wake_key (max (now + 1) (next_beat c.heartbeat now b.ends)) b) ≡ 0 = w.past (wake_key (max (now + 1) (next_beat c.heartbeat now b.ends)) b) (omega arith) in
      record { number = n; settings = s; wakes = tt; wake = omega arith; sends = tt }

  begins_steps :
      (failed : Option ℕ) (c : ConsumerSettings) (a b : Actor) (drawn : ℕ × Draws) → b.number ≡ a.number → b.settings ≡ a.settings
      → Steps now w 0 (Consumer c) a (acts.Nothing, begins_by failed b c now drawn)
  begins_steps None c a b (time, draws) n s = in_service_steps c a (record b { ends = now + time; draws = draws }) n s
  begins_steps (Some failed) c a b (time, draws) n s =
      let decided : Bool × Draws = drawn_failure c now b.held draws in
      in_service_steps c a (record b { ends = now + (if decided.0 then failed else time); will_fail = decided.0; draws = decided.1 }) n s

  next_one_steps : (s : Serving) (c : ConsumerSettings) (a : Actor) (gs : List Got) → Steps now w 0 (Consumer c) a (acts.Nothing, begins_next s (record a { held = gs }) c now)
  next_one_steps Each c a gs = begins_steps c.fail_service c a (record a { held = gs }) (drawn_time c.service a.draws) refl refl
  next_one_steps (Once each) c a gs = in_service_steps c a (record a { held = gs; ends = now }) refl refl

  serving_steps : (c : ConsumerSettings) (a : Actor) (gs : List Got) → Steps now w 0 (Consumer c) a (acts.Nothing, serving a c now gs)
  serving_steps c a [] = record { number = refl; settings = refl; wakes = tt; wake = late_wake (actor_weight w a) 1 a (omega arith); sends = tt }
  serving_steps c a (g ∷ gs) = next_one_steps c.serving c a (g ∷ gs)

  idle_steps : (c : ConsumerSettings) (a : Actor) → 1 ≤ c.idle → Steps now w 0 (Consumer c) a (idle a c now)
  idle_steps c a h = record { number = refl; settings = refl; wakes = tt; wake = late_wake (actor_weight w a) c.idle a h; sends = tt }

  first_steps : (c : ConsumerSettings) (a b : Actor) → b.number ≡ a.number → b.settings ≡ a.settings → Steps now w 0 (Consumer c) a (acts.Nothing, begins_first b c now)
  first_steps c a b n s = begins_steps c.fail_service c a b (service_of c.serving (length b.held) (drawn_time c.service b.draws)) n s

  gathers_steps : (c : ConsumerSettings) (a b : Actor) (after : ℕ) → b.number ≡ a.number → b.settings ≡ a.settings → Steps now w 0 (Consumer c) a (acts.Nothing, gathers_on b c now after)
  gathers_steps c a b after n s =
      let past : w.of (wake_key (asks_again b now after) b) ≡ 0 = w.past (wake_key (asks_again b now after) b) (omega arith) in
      either (λ (x : Actor). Steps now w 0 (Consumer c) a (acts.Nothing, x)) (is_gathered b c now after) _ _
      (first_steps c a (record b { last_act = Ended }) n s)
      (record { number = n; settings = s; wakes = tt; wake = omega arith; sends = tt })

  consumer_got_steps : (c : ConsumerSettings) (a : Actor) (held gs : List Got) → IsSoundRole (Consumer c) → Steps now w 0 (Consumer c) a (got_more held a c now gs)
  consumer_got_steps c a [] [] s = idle_steps c a s.1
  consumer_got_steps c a [] (g ∷ gs) s = gathers_steps c a (record a { held = g ∷ gs; done = []; failed = []; ends = now + c.gather }) 0 refl refl
  consumer_got_steps c a (h ∷ hs) gs s = gathers_steps c a (record a { held = h ∷ hs ++ gs }) (rest_after c.idle gs) refl refl

  failed_steps : (c : ConsumerSettings) (a : Actor) (gs : List Got) → Steps now w 0 (Consumer c) a (has_failed a c now gs)
  failed_steps c a [] = serving_steps c a a.held
  failed_steps c a (g ∷ gs) = record { number = refl; settings = refl; wakes = tt; wake = omega arith; sends = tt }

  consumer_told_steps : (c : ConsumerSettings) (a : Actor) (last_act : LastAct) → IsSoundRole (Consumer c) → Steps now w 0 (Consumer c) a (consumer_told a c now last_act)
  consumer_told_steps c a Asked s = idle_steps c a s.1
  consumer_told_steps c a Gathered s = gathers_steps c a a c.idle refl refl
  consumer_told_steps c a (Served receipt) s = record { number = refl; settings = refl; wakes = tt; wake = omega arith; sends = tt }
  consumer_told_steps c a Ended s = serving_steps c a a.held
  consumer_told_steps c a Failed s = failed_steps c a a.failed
  consumer_told_steps c a Beat s = in_service_steps c a a refl refl
  consumer_told_steps c a last s = same_steps (Consumer c) a tt

  role_steps : (gone : ℕ) (r : Role) (a : Actor) (answer : Answer) → IsSoundRole r → WakesFor r a → IsWakeWhere now w gone a answer → Steps now w gone r a (next_as r a now answer)
  role_steps gone (Script script) a (told_by.Wake st) s k g = script_steps gone script a (drop a.wakes script) refl (drop_ascends 0 a.wakes script s) k g
  role_steps gone (Script script) a (told_by.Got gots) s k g = rw g (same_steps (Script script) a k)
  role_steps gone (Script script) a told_by.Waiting s k g = rw g (same_steps (Script script) a k)
  role_steps gone (Script script) a told_by.Other s k g = rw g (same_steps (Script script) a k)
  role_steps gone (Producer p) a (told_by.Wake st) s k g = producer_wake_steps gone p a g
  role_steps gone (Producer p) a (told_by.Got gots) s k g = rw g (same_steps (Producer p) a k)
  role_steps gone (Producer p) a told_by.Waiting s k g = rw g (same_steps (Producer p) a k)
  role_steps gone (Producer p) a told_by.Other s k g = rw g (producer_sent_steps p a s)
  role_steps gone (Consumer c) a (told_by.Wake st) s k g = copy_wake_steps gone c.scaling c a st s.2 g
  role_steps gone (Consumer c) a (told_by.Got gots) s k g = rw g (consumer_got_steps c a a.held gots s)
  role_steps gone (Consumer c) a told_by.Waiting s k g = rw g (same_steps (Consumer c) a k)
  role_steps gone (Consumer c) a told_by.Other s k g = rw g (consumer_told_steps c a a.last_act s)
  role_steps gone (Scaler s) a (told_by.Wake st) h k g = scaler_wake_steps gone (read_before a.last_act) s a (copies_by s a.last_act) (changed_at a.last_act) st.number h g
  role_steps gone (Scaler s) a (told_by.Got gots) h k g = rw g (same_steps (Scaler s) a k)
  role_steps gone (Scaler s) a told_by.Waiting h k g = rw g (same_steps (Scaler s) a k)
  role_steps gone (Scaler s) a told_by.Other h k g = rw g (same_steps (Scaler s) a k)

  acts_from : (gone : ℕ) (a : Actor) (x : Act × Actor) → IsSoundActor a → Steps now w gone a.settings.role a x → Acts now w gone a x
  acts_from gone a x s h =
      record {
        number = h.number;
        sound = record { role = rw h.settings s.role; wakes = subst (λ (t : ActorSettings). WakesFor t.role x.1) (sym h.settings) h.wakes };
        wake = h.wake;
        sends = h.sends;
      }

  pub next_acts : (gone : ℕ) (a : Actor) (answer : Answer) → IsSoundActor a → IsWakeWhere now w gone a answer → Acts now w gone a (next a now answer)
  unfolding next
  next_acts gone a answer s g = acts_from gone a (next_as a.settings.role a now answer) s (role_steps gone a.settings.role a answer s.role s.wakes g)
