-- No act of an actor waits for longer than its settings let it.
use Rattle.std.proofs.Common.{arith, ℕ, ◌≤◌, List, [], ◌∷◌, Option}
use Rattle.std.specs.Prelude.{All, Bool, None, Some, drop, false, nat_lt, true, ◌==◌}
use Rattle.std.proofs.lemmas.List.Elements.{All-head, All-drop}
use Rattle.sqs_message.specs.declared.calls.ScriptCall.{ScriptCall}
use Rattle.sqs_model.specs.declared.acts.Act.{Act}
use Rattle.sqs_model.specs.declared.acts.Act.TheVariants as acts
use Rattle.sqs_model.specs.declared.acts.Answer.{Answer}
use Rattle.sqs_model.specs.declared.acts.Answer.TheVariants as told_by
use Rattle.sqs_model.specs.declared.agents.ConsumerSettings.{ConsumerSettings}
use Rattle.sqs_model.specs.declared.agents.Forwarding.{Forwarding}
use Rattle.sqs_model.specs.declared.agents.ProducerSettings.{ProducerSettings}
use Rattle.sqs_model.specs.declared.acts.Standing.{Standing}
use Rattle.sqs_model.specs.declared.agents.Role.{Role}
use Rattle.sqs_model.specs.declared.agents.ScalerSettings.{ScalerSettings}
use Rattle.sqs_model.specs.declared.agents.Scaling.{Scaling}
use Rattle.sqs_model.specs.declared.agents.Role.TheVariants.{Consumer, Producer, Scaler, Script}
use Rattle.sqs_redrive.specs.declared.answers.Got.{Got}
use Rattle.sqs_model.specs.Actor.{Actor, Asked, Beat, Ended, Failed, Gathered, Served, LastAct, changed_at, consumer_told, consumer_wake, copies_after, copies_by, copy_rests, copy_wake, got_more, has_come, has_failed, has_nothing, is_parked, is_wanted, next, next_as, producer_sent, read_before, reads_or_scales, scales, script_wake, wakes_after, wanted_for, woken}
use Rattle.sqs_model.specs.Draw.{drawn_time}
use Rattle.sqs_model.proofs.Branches.{either}
use Rattle.sqs_model.proofs.ConsumerWakes.{IsServiceAct, consumer_woke}
use Rattle.sim_site.specs.Kept.{HasShortWaits, WaitsShortly, WaitsWithin, most_wait}

script_waits : (a : Actor) (cs : List ScriptCall) → All (λ c. WaitsWithin c.call) cs → WaitsShortly (script_wake a cs).0
script_waits a [] h = tt
script_waits a (c ∷ cs) h = All-head (λ (x : ScriptCall). WaitsWithin x.call) c cs h

producer_waits : (a : Actor) (p : ProducerSettings) (now : ℕ) → WaitsShortly (producer_sent a p now).0
producer_waits a p now =
    either (λ (x : Act × Actor). WaitsShortly x.0) (nat_lt a.wakes p.count) (acts.Nothing, wakes_after a now (drawn_time p.gap a.draws)) (acts.Nothing, a) tt tt

-- what a consumer does when it wakes waits for no longer than its settings say
service_waits : (now : ℕ) (b : Actor) (wait : ℕ) (f : Option Forwarding) (act : Act) → wait ≤ most_wait → IsServiceAct now b wait f act → WaitsShortly act
service_waits now b wait f (acts.Receive most waits timeout) h k = omega (arith, h, k)
service_waits now b wait f act h k = tt

wake_waits : (a : Actor) (c : ConsumerSettings) (now : ℕ) (gs : List Got) → HasShortWaits (Consumer c) → WaitsShortly (consumer_wake a c now gs).0
wake_waits a c now gs h = service_waits now a c.wait c.forward (consumer_wake a c now gs).0 h (consumer_woke now a c gs).act

got_waits : (held : List Got) (a : Actor) (c : ConsumerSettings) (now : ℕ) (gs : List Got) → WaitsShortly (got_more held a c now gs).0
got_waits [] a c now [] = tt
got_waits [] a c now (g ∷ gs) = tt
got_waits (h ∷ hs) a c now gs = tt

failed_waits : (a : Actor) (c : ConsumerSettings) (now : ℕ) (gs : List Got) → WaitsShortly (has_failed a c now gs).0
failed_waits a c now [] = tt
failed_waits a c now (g ∷ gs) = tt

told_waits : (a : Actor) (c : ConsumerSettings) (now : ℕ) (last_act : LastAct) → WaitsShortly (consumer_told a c now last_act).0
told_waits a c now Asked = tt
told_waits a c now Gathered = tt
told_waits a c now (Served receipt) = tt
told_waits a c now Ended = tt
told_waits a c now Failed = failed_waits a c now a.failed
told_waits a c now Beat = tt
told_waits a c now last = tt

copy_rests_waits : (wanted : Bool) (s : Scaling) (a : Actor) (c : ConsumerSettings) (now : ℕ) (next : Option ℕ) → HasShortWaits (Consumer c) → WaitsShortly (copy_rests wanted s a c now next).0
copy_rests_waits false s a c now next h = tt
copy_rests_waits true s a c now next h = either (λ (x : Act × Actor). WaitsShortly x.0) (is_parked a.last_act) _ _ tt (wake_waits a c now a.held h)

copy_waits : (o : Option Scaling) (a : Actor) (c : ConsumerSettings) (now : ℕ) (st : Standing) → HasShortWaits (Consumer c) → WaitsShortly (copy_wake o a c now st).0
copy_waits None a c now st h = wake_waits a c now a.held h
copy_waits (Some s) a c now st h =
    either (λ (x : Act × Actor). WaitsShortly x.0) (has_nothing a) _ _ (copy_rests_waits (is_wanted s st.number a) s a c now st.next h) (wake_waits a c now a.held h)

scales_waits : (a : Actor) (s : ScalerSettings) (now copies changed to : ℕ) → WaitsShortly (scales a s now copies changed to).0
scales_waits a s now copies changed to = either (λ (x : Act × Actor). WaitsShortly x.0) (to == copies) _ _ tt tt

scaler_waits : (o : Option ℕ) (a : Actor) (s : ScalerSettings) (now copies changed visible : ℕ) → WaitsShortly (reads_or_scales o a s now copies changed visible).0
scaler_waits (Some before) a s now copies changed visible = scales_waits a s now copies changed (copies_after s now copies changed (wanted_for s before))
scaler_waits None a s now copies changed visible =
    either (λ (x : Act × Actor). WaitsShortly x.0) (s.reading == 0) _ _ (scales_waits a s now copies changed (copies_after s now copies changed (wanted_for s visible))) tt

role_waits : (r : Role) (a : Actor) (now : ℕ) (answer : Answer) → HasShortWaits r → WaitsShortly (next_as r a now answer).0
role_waits (Script script) a now (told_by.Wake st) h = script_waits a (drop a.wakes script) (All-drop (λ (x : ScriptCall). WaitsWithin x.call) a.wakes script h)
role_waits (Script script) a now answer h = tt
role_waits (Producer p) a now (told_by.Wake st) h = either (λ (x : Act × Actor). WaitsShortly x.0) (has_come p.stop now) _ _ tt tt
role_waits (Producer p) a now told_by.Other h = producer_waits a p now
role_waits (Producer p) a now answer h = tt
role_waits (Consumer c) a now (told_by.Wake st) h = copy_waits c.scaling (woken a) c now st h
role_waits (Consumer c) a now (told_by.Got gots) h = got_waits a.held a c now gots
role_waits (Consumer c) a now told_by.Waiting h = tt
role_waits (Consumer c) a now told_by.Other h = told_waits a c now a.last_act
role_waits (Scaler s) a now (told_by.Wake st) h = scaler_waits (read_before a.last_act) (woken a) s now (copies_by s a.last_act) (changed_at a.last_act) st.number
role_waits (Scaler s) a now answer h = tt

pub next_waits : (a : Actor) (now : ℕ) (answer : Answer) → HasShortWaits a.settings.role → WaitsShortly (next a now answer).0
unfolding next
next_waits a now answer h = role_waits a.settings.role a now answer h
