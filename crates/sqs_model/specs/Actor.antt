-- Scripts, producers and consumers: what an actor does next, and when it wakes.
use Rattle.std.specs.Fmt.{decimal}
use Rattle.std.specs.Int.{div_ceil}
use Rattle.std.specs.List.{list_any}
use Rattle.sim_clock.specs.Firsts.{is_empty}
use Rattle.std.specs.Prelude.{Bool, List, None, Option, Some, [], drop, false, get_or, if◌then◌else◌, length, max, min, nat_le, nat_lt, take, true, ℕ, ◌%◌, ◌&&◌, ◌*◌, ◌++◌, ◌+◌, ◌-◌, ◌/◌, ◌==◌, ◌||◌, ◌∷◌}
use Rattle.sqs_message.specs.Bodies.{contains, filled}
use Rattle.sqs_message.specs.declared.calls.Call.{Call}
use Rattle.sqs_message.specs.declared.calls.ScriptCall.{ScriptCall}
use Rattle.sqs_message.specs.declared.ids.Receipt.{Receipt}
use Rattle.sqs_model.specs.declared.acts.Act.{Act}
use Rattle.sqs_model.specs.declared.acts.Answer.{Answer}
use Rattle.sqs_model.specs.declared.agents.ActorSettings.{ActorSettings}
use Rattle.sqs_model.specs.declared.agents.ConsumerSettings.{ConsumerSettings}
use Rattle.sqs_model.specs.declared.agents.Forwarding.{Forwarding}
use Rattle.sqs_model.specs.declared.agents.Groups.{Groups}
use Rattle.sqs_model.specs.declared.agents.Groups.TheVariants.{ByWeight, InTurn}
use Rattle.sqs_model.specs.declared.agents.ProducerSettings.{ProducerSettings}
use Rattle.sqs_model.specs.declared.agents.Role.{Role}
use Rattle.sqs_model.specs.declared.agents.Outage.{Outage}
use Rattle.sqs_model.specs.declared.acts.Standing.{Standing}
use Rattle.sqs_model.specs.declared.agents.ScalerSettings.{ScalerSettings}
use Rattle.sqs_model.specs.declared.agents.Scaling.{Scaling}
use Rattle.sqs_model.specs.declared.agents.ScalingStep.{ScalingStep}
use Rattle.sqs_model.specs.declared.agents.Serving.{Serving}
use Rattle.sqs_model.specs.declared.agents.Serving.TheVariants.{Each, Once}
use Rattle.sqs_model.specs.declared.agents.Target.{Target}
use Rattle.sqs_model.specs.declared.agents.Target.TheVariants.{PerCopy, Steps}
use Rattle.sqs_model.specs.declared.agents.Stretch.{Stretch}
use Rattle.sqs_model.specs.declared.agents.Role.TheVariants.{Consumer, Producer, Scaler, Script}
use Rattle.sqs_redrive.specs.declared.answers.Got.{Got}
use Rattle.sqs_redrive.specs.declared.settings.Latency.{Latency}
use Rattle.sqs_redrive.specs.declared.transfers.Outbound.{Outbound}
use Rattle.sqs_message.specs.Ids.{receipt_text}
use Rattle.sqs_model.specs.Draw.{Draws, drawn_chance, drawn_group, drawn_latency, drawn_time, drawn_uniform}
use Rattle.sqs_model.specs.declared.acts.Act.TheVariants as acts
use Rattle.sqs_message.specs.declared.calls.Call.TheVariants as calls
use Rattle.sqs_redrive.specs.declared.transfers.Load.TheVariants as loads
use Rattle.sqs_model.specs.declared.acts.Answer.TheVariants as told_by

-- what a consumer did last: it asked for messages, asked for more while it holds some, served one, ended a service or did
-- what follows one, failed to serve one, set a visibility timeout anew while it serves, or asks no more until its scaler
-- says so; what a scaler did last: it decided that so many copies ask, which last changed at that moment, or read how
-- many messages are visible and waits to decide by that
pub data LastAct : Type 0 where
  Asked : LastAct
  Gathered : LastAct
  Served : Receipt → LastAct
  Ended : LastAct
  Failed : LastAct
  Beat : LastAct
  Parked : LastAct
  Decided : ℕ → ℕ → LastAct
  Read : ℕ → ℕ → ℕ → LastAct

-- an actor: the messages that it holds and has not served; those that it served and will delete when all of their
-- receive are served; those whose timeouts it will change since a service failed; when the service ends, or before it the
-- time to gather messages; whether that service will fail, if that was decided when it began; its numbers of wakes,
-- waiting polls and transfers; its draws
pub record Actor : Type 0 where
  pub number : ℕ
  pub settings : ActorSettings
  pub held : List Got
  pub done : List Got
  pub failed : List Got
  pub ends : ℕ
  pub will_fail : Bool
  pub last_act : LastAct
  pub wake : Option ℕ
  pub wakes : ℕ
  pub polls : ℕ
  pub sent : ℕ
  pub draws : Draws

-- the act that makes a call
abbrev pub act_of : Call → Act
act_of (calls.Send body delay group id) = acts.Send body delay group id
act_of (calls.Receive max wait timeout) = acts.Receive max wait timeout
act_of (calls.Delete receipt) = acts.Delete receipt
act_of (calls.Change receipt timeout) = acts.Change receipt timeout
act_of (calls.Start task) = acts.Start task
act_of (calls.Cancel task) = acts.Cancel task

-- when the first of some calls is made
abbrev pub first_at : List ScriptCall → Option ℕ
first_at [] = None
first_at (c ∷ cs) = Some c.at

-- an actor whose wake has come
abbrev pub woken : Actor → Actor
woken a = record a { wake = None; wakes = a.wakes + 1 }

-- a script makes its next call, and wakes for the one after it
abbrev pub script_wake : Actor → List ScriptCall → Act × Actor
script_wake a [] = (acts.Nothing, record a { wake = None })
script_wake a (c ∷ cs) = (act_of c.call, record (woken a) { wake = first_at cs })

-- a group that was drawn
abbrev pub some_group : List ℕ × Draws → Option (List ℕ) × Draws
some_group (group, draws) = (Some group, draws)

-- the group of a producer's message n: in turn, as g1, or by weight
abbrev pub group_of : Option Groups → ℕ → Draws → Option (List ℕ) × Draws
group_of None n draws = (None, draws)
group_of (Some (InTurn groups)) n draws = (Some (103 ∷ decimal (n % groups)), draws)
group_of (Some (ByWeight groups)) n draws = some_group (drawn_group groups draws)

-- the deduplication id that a producer gives its message n, as 4-17
abbrev pub id_given : ProducerSettings → ℕ → ℕ → Option (List ℕ)
id_given p agent n = if p.ids then Some (decimal agent ++ 45 ∷ decimal n) else None

-- whether a stop, if there is one, has come
abbrev pub has_come : Option ℕ → ℕ → Bool
has_come None now = false
has_come (Some stop) now = nat_le stop now

-- a producer's next message, with its group
abbrev pub producer_sends : Actor → ProducerSettings → Option (List ℕ) × Draws → Act × Actor
producer_sends a p (group, draws) =
    (acts.Send (filled (decimal a.wakes) p.body) p.delay group (id_given p a.number a.wakes), record (woken a) { draws = draws })

-- a producer sends at each wake, until it stops
abbrev pub producer_wake : Actor → ProducerSettings → ℕ → Act × Actor
producer_wake a p now =
    if has_come p.stop now then (acts.Nothing, woken a) else producer_sends a p (group_of p.groups a.wakes a.draws)

-- an actor that wakes after a time drawn
abbrev pub wakes_after : Actor → ℕ → ℕ × Draws → Actor
wakes_after a now (gap, draws) = record a { wake = Some (now + gap); draws = draws }

-- after its send a producer wakes again, while there is a message to send
abbrev pub producer_sent : Actor → ProducerSettings → ℕ → Act × Actor
producer_sent a p now =
    if nat_lt a.wakes p.count then (acts.Nothing, wakes_after a now (drawn_time p.gap a.draws)) else (acts.Nothing, a)

-- a service goes on to its end, or to the heartbeat before it
abbrev pub next_beat : Option ℕ → ℕ → ℕ → ℕ
next_beat None now ends = ends
next_beat (Some every) now ends = min ends (now + every)

-- a consumer that serves wakes then, and never at once
abbrev pub in_service : Actor → ConsumerSettings → ℕ → Actor
in_service a c now = record a { wake = Some (max (now + 1) (next_beat c.heartbeat now a.ends)) }

-- whether a message is one that a consumer fails to serve
abbrev pub is_poison : Option (List ℕ) → List ℕ → Bool
is_poison None body = false
is_poison (Some part) body = contains part body

-- of some messages held, those that fail together: the first, or all if they are served at once and end as a whole
abbrev pub at_stake : Serving → Bool → List Got → List Got
at_stake Each whole gots = take 1 gots
at_stake (Once each) false gots = take 1 gots
at_stake (Once each) true gots = gots

-- whether a service of some messages fails: by chance, or by one of them
abbrev pub fails : ConsumerSettings → List Got → Bool → Bool
fails c gs by_chance = by_chance || list_any (λ g. is_poison c.fails_on g.body) gs

-- whether a moment is in a stretch of time, whose end is not in it
abbrev pub is_in : Stretch → ℕ → Bool
is_in s now = nat_le s.from now && nat_lt now s.to

-- of a thousand services that are decided at a moment, how many fail: as the first outage says that it is in, else as
-- at any other
abbrev pub failing_at : List Outage → ℕ → ℕ → ℕ
failing_at [] otherwise now = otherwise
failing_at (o ∷ os) otherwise now = if is_in o.stretch now then o.permille else failing_at os otherwise now

-- whether a service fails, of a consumer that holds these messages, after a draw
abbrev pub failure_after : ConsumerSettings → List Got → Bool × Draws → Bool × Draws
failure_after c gots (by_chance, draws) = (fails c (at_stake c.serving c.whole gots) by_chance, draws)

-- whether it fails, decided at a moment
abbrev pub drawn_failure : ConsumerSettings → ℕ → List Got → Draws → Bool × Draws
drawn_failure c now gots draws = failure_after c gots (drawn_chance (failing_at c.outages c.fail_permille now) draws)

-- a consumer that begins a service of which it is decided whether it fails; a failed one takes another time
abbrev pub begins_decided : Actor → ConsumerSettings → ℕ → ℕ → ℕ → Bool × Draws → Actor
begins_decided a c now time other (failed, draws) =
    in_service (record a { ends = now + (if failed then other else time); will_fail = failed; draws = draws }) c now

-- one whose service takes this time, or another if it fails; without another it is decided at the end whether it fails
abbrev pub begins_by : Option ℕ → Actor → ConsumerSettings → ℕ → ℕ × Draws → Actor
begins_by None a c now (time, draws) = in_service (record a { ends = now + time; draws = draws }) c now
begins_by (Some other) a c now (time, draws) = begins_decided a c now time other (drawn_failure c now a.held draws)

-- a consumer that begins a service, whose time was drawn
abbrev pub begins : Actor → ConsumerSettings → ℕ → ℕ × Draws → Actor
begins a c now drawn = begins_by c.fail_service a c now drawn

-- one that goes on with the next message of a receive: its service begins, or it was served with those before it
abbrev pub begins_next : Serving → Actor → ConsumerSettings → ℕ → Actor
begins_next Each a c now = begins a c now (drawn_time c.service a.draws)
begins_next (Once each) a c now = in_service (record a { ends = now }) c now

-- a consumer that serves the next of the messages that it holds; without any it wakes 1 ms later
abbrev pub serving : Actor → ConsumerSettings → ℕ → List Got → Actor
serving a c now [] = record a { held = []; wake = Some (now + 1) }
serving a c now (g ∷ gs) = begins_next c.serving (record a { held = g ∷ gs }) c now

-- how long a service takes of so many messages, by the time that was drawn
abbrev pub service_of : Serving → ℕ → ℕ × Draws → ℕ × Draws
service_of Each messages drawn = drawn
service_of (Once each) messages (time, draws) = (time + messages * each, draws)

-- a consumer that got messages, and begins to serve
abbrev pub begins_first : Actor → ConsumerSettings → ℕ → Actor
begins_first a c now = begins a c now (service_of c.serving (length a.held) (drawn_time c.service a.draws))

-- a consumer that rests
abbrev pub idle : Actor → ConsumerSettings → ℕ → Act × Actor
idle a c now = (acts.Nothing, record a { wake = Some (now + c.idle) })

-- a transfer of a served message
abbrev pub forward_of : Actor → ℕ → Got → ℕ → ℕ → Outbound
forward_of a now g to latency =
    record { at = now + latency; sender = a.number; number = a.sent; from = a.settings.home; to = to; load = loads.Forward g.id g.group g.body }

-- an actor that sent one transfer more, whose latency was drawn
abbrev pub sent_one : Latency → Actor → Actor
sent_one l a = record a { sent = a.sent + 1; draws = (drawn_latency l a.draws).1 }

-- the transfers of a served message to some queues, one after another; the latency of each is drawn by itself
abbrev pub forwards : Actor → ℕ → Got → Latency → List ℕ → List Outbound
forwards a now g l [] = []
forwards a now g l (to ∷ tos) = forward_of a now g to (drawn_latency l a.draws).0 ∷ forwards (sent_one l a) now g l tos

-- the actor that sent them
abbrev pub has_forwarded : Latency → List ℕ → Actor → Actor
has_forwarded l [] a = a
has_forwarded l (to ∷ tos) a = has_forwarded l tos (sent_one l a)

-- a service that ended well; the message goes to each queue to which the actor forwards
abbrev pub serves : Actor → ℕ → Got → Option Forwarding → Act × Actor
serves a now g None = (acts.Serve g.id g.receipt false [], a)
serves a now g (Some f) = (acts.Serve g.id g.receipt false (forwards a now g f.latency f.to), has_forwarded f.latency f.to a)

-- a consumer that does nothing more of a failed service; if its receives fail as a whole, it lets all of this one go
abbrev pub lets_go : Bool → Actor → Actor
lets_go false a = a
lets_go true a = record a { held = []; done = [] }

-- one that will change the timeout of the message; if its receives fail as a whole, those of all messages of this one
abbrev pub will_back_off : Bool → Actor → Got → Actor
will_back_off false a g = record a { done = []; failed = a.failed ++ (a.done ++ g ∷ []) }
will_back_off true a g = record a { held = []; done = []; failed = a.failed ++ (a.done ++ g ∷ a.held) }

-- a consumer after a failed service, by its timeouts
abbrev pub after_failure : List ℕ → ConsumerSettings → Actor → Got → Actor
after_failure [] c a g = lets_go c.whole a
after_failure (s ∷ timeouts) c a g = will_back_off c.whole a g

-- the end of a service that failed
abbrev pub fails_service : Actor → ConsumerSettings → Got → Act × Actor
fails_service a c g = (acts.Serve g.id g.receipt true [], record (after_failure c.backoff c a g) { last_act = Failed })

-- the first of the messages that were served is forwarded and then deleted
abbrev pub settles : Actor → ConsumerSettings → ℕ → Got → List Got → Act × Actor
settles a c now g gs = serves (record a { done = gs; last_act = Served g.receipt }) now g c.forward

-- a message of a receive was served well, and others of it are to be served
abbrev pub served_one : Actor → Got → Act × Actor
served_one a g = (acts.Serve g.id g.receipt false [], record a { done = a.done ++ g ∷ []; last_act = Ended })

-- the last message of a receive was served well
abbrev pub served_all : Actor → ConsumerSettings → ℕ → List Got → Act × Actor
served_all a c now [] = (acts.Nothing, a)
served_all a c now (g ∷ gs) = settles a c now g gs

-- the end of a service that ended well, of a receive that ends as a whole: of one message after another, or of all
abbrev pub ends_whole : Serving → Actor → ConsumerSettings → ℕ → Got → List Got → Act × Actor
ends_whole Each a c now g [] = served_all a c now (a.done ++ g ∷ [])
ends_whole Each a c now g (h ∷ hs) = served_one a g
ends_whole (Once each) a c now g gs = settles (record a { held = [] }) c now g gs

-- the end of a service that ended well, of a consumer whose receives end well as a whole or not
abbrev pub ends_well : Bool → Actor → ConsumerSettings → ℕ → Got → List Got → Act × Actor
ends_well false a c now g gs = serves (record a { last_act = Served g.receipt }) now g c.forward
ends_well true a c now g gs = ends_whole c.serving a c now g gs

-- the end of the service of the first message held, which fails or not
abbrev pub ends_service : Actor → ConsumerSettings → ℕ → Got → Bool → Act × Actor
ends_service a c now g true = fails_service a c g
ends_service a c now g false = ends_well c.whole a c now g a.held

-- whether the service that ends fails: as decided when it began, or else decided now
abbrev pub outcome : Option ℕ → Actor → ConsumerSettings → ℕ → Bool × Draws
outcome None a c now = drawn_failure c now a.held a.draws
outcome (Some other) a c now = (a.will_fail, a.draws)

-- the end of the service of the first message held, by its outcome
abbrev pub ends_by : Actor → ConsumerSettings → ℕ → Got → Bool × Draws → Act × Actor
ends_by a c now g (failed, draws) = ends_service (record a { draws = draws }) c now g failed

-- whether a service goes on, of a consumer that has a heartbeat
abbrev pub goes_on : Option ℕ → ℕ → ℕ → Bool
goes_on None ends now = false
goes_on (Some every) ends now = nat_lt now ends

-- the timeout that follows a failed service: the entry of the receive, or else the last
abbrev pub backoff_at : List ℕ → ℕ → ℕ
backoff_at timeouts count = get_or timeouts (min count (length timeouts) - 1) 0

-- the timeout of a message by the greatest that it may have: drawn from 0 to it, or itself
abbrev pub backoff_drawn : Bool → ℕ → Draws → ℕ × Draws
backoff_drawn true greatest draws = drawn_uniform 0 greatest draws
backoff_drawn false greatest draws = (greatest, draws)

-- a message of a failed service gets this visibility timeout; those of its receive that wait for theirs stay
abbrev pub changes : Actor → Got → List Got → ℕ × Draws → Act × Actor
changes a g gs (timeout, draws) =
    (acts.Change (receipt_text g.receipt) timeout, record a { failed = gs; last_act = Ended; draws = draws })

-- the first of the messages of a failed service gets another visibility timeout
abbrev pub backs_off : Actor → ConsumerSettings → Got → List Got → Act × Actor
backs_off a c g gs = changes a g gs (backoff_drawn c.jitter (backoff_at c.backoff g.receipt.count) a.draws)

-- a consumer that holds nothing to serve changes a timeout, deletes a message, or asks for messages until it stops
abbrev pub rests : Actor → ConsumerSettings → ℕ → List Got → List Got → Act × Actor
rests a c now (g ∷ gs) done = backs_off a c g gs
rests a c now [] (g ∷ gs) = settles a c now g gs
rests a c now [] [] =
    if has_come c.stop now then (acts.Nothing, a) else (acts.Receive c.batch c.wait c.timeout, record a { last_act = Asked })

-- a consumer that wakes while it serves sets the timeout of the message anew, or the service ends
abbrev pub serves_on : Actor → ConsumerSettings → ℕ → Got → List Got → Act × Actor
serves_on a c now g gs =
    if goes_on c.heartbeat a.ends now then (acts.Prolong (receipt_text g.receipt) c.timeout, record a { last_act = Beat })
    else ends_by (record a { held = gs }) c now g (outcome c.fail_service (record a { held = g ∷ gs }) c now)

-- when a consumer that gathers messages would ask again, after a while: no later than at the end of its time to gather
abbrev pub asks_again : Actor → ℕ → ℕ → ℕ
asks_again a now after = max (now + 1) (min a.ends (now + after))

-- whether it gathers no more: it holds a whole batch, its time is over, or it stops before it would ask again
abbrev pub is_gathered : Actor → ConsumerSettings → ℕ → ℕ → Bool
is_gathered a c now after = (nat_le c.batch (length a.held) || nat_le a.ends now) || has_come c.stop (asks_again a now after)

-- one that holds messages begins to serve them, or wakes after a while to ask for more
abbrev pub gathers_on : Actor → ConsumerSettings → ℕ → ℕ → Actor
gathers_on a c now after =
    if is_gathered a c now after then begins_first (record a { last_act = Ended }) c now
    else record a { wake = Some (asks_again a now after); last_act = Gathered }

-- one that wakes while it gathers asks for those that its batch lacks, and waits no longer than it gathers
abbrev pub asks_for_more : Actor → ConsumerSettings → ℕ → Act × Actor
asks_for_more a c now = (acts.Receive (c.batch - length a.held) (min c.wait ((a.ends - now) / 1000)) c.timeout, a)

-- whether a consumer gathers messages, by what it did last
abbrev pub is_gathering : LastAct → Bool
is_gathering Gathered = true
is_gathering last = false

-- a consumer that wakes
abbrev pub consumer_wake : Actor → ConsumerSettings → ℕ → List Got → Act × Actor
consumer_wake a c now [] = rests a c now a.failed a.done
consumer_wake a c now (g ∷ gs) = if is_gathering a.last_act then asks_for_more a c now else serves_on a c now g gs

-- whether a copy is one of so many that are to ask
abbrev pub is_wanted : Scaling → ℕ → Actor → Bool
is_wanted s copies a = nat_lt (a.number + 1 - s.second) copies

-- whether a consumer has nothing to serve, to delete or to change
abbrev pub has_nothing : Actor → Bool
has_nothing a = (is_empty a.held && is_empty a.failed) && is_empty a.done

-- whether a copy asks no more, by what it did last
abbrev pub is_parked : LastAct → Bool
is_parked Parked = true
is_parked last = false

-- when a copy that is not to ask looks again: when its scaler wakes next, and never at once
abbrev pub looks_again : ℕ → Option ℕ → Option ℕ
looks_again now None = None
looks_again now (Some next) = Some (max (now + 1) next)

-- a copy that has nothing to do: if it is not to ask it sleeps; else it asks, at once or when it has started
abbrev pub copy_rests : Bool → Scaling → Actor → ConsumerSettings → ℕ → Option ℕ → Act × Actor
copy_rests false s a c now next = (acts.Nothing, record a { wake = looks_again now next; last_act = Parked })
copy_rests true s a c now next =
    if is_parked a.last_act then (acts.Nothing, record a { wake = Some (max (now + 1) (now + s.start)); last_act = Asked })
    else consumer_wake a c now a.held

-- a consumer that wakes goes by its scaler if it has one and nothing else to do
abbrev pub copy_wake : Option Scaling → Actor → ConsumerSettings → ℕ → Standing → Act × Actor
copy_wake None a c now st = consumer_wake a c now a.held
copy_wake (Some s) a c now st =
    if has_nothing a then copy_rests (is_wanted s st.number a) s a c now st.next else consumer_wake a c now a.held

-- how many copies steps ask for: as many as the first that has so many visible messages, and past the last one the most
abbrev pub copies_up_to : List ScalingStep → ℕ → ℕ → ℕ
copies_up_to [] most visible = most
copies_up_to (s ∷ ss) most visible = if nat_le visible s.visible then s.copies else copies_up_to ss most visible

-- how many copies so many visible messages ask for: one for each so many of them, or by steps
abbrev pub asked_for : Target → ℕ → ℕ → ℕ
asked_for (PerCopy messages) most visible = div_ceil visible messages
asked_for (Steps steps) most visible = copies_up_to steps most visible

-- how many copies a scaler wants for so many visible messages, within its bounds
abbrev pub wanted_for : ScalerSettings → ℕ → ℕ
wanted_for s visible = min s.most (max s.least (asked_for s.target s.most visible))

-- how many copies it adds or takes away of those that it lacks or has too many: none in a cooldown after the last change
abbrev pub changed_by : ℕ → Bool → ℕ → ℕ
changed_by most too_early copies = if too_early then 0 else min most copies

-- how many copies there are after a decision, by how many are wanted
abbrev pub copies_after : ScalerSettings → ℕ → ℕ → ℕ → ℕ → ℕ
copies_after s now copies changed wanted =
    if nat_lt copies wanted then copies + changed_by s.most_added (nat_lt (now - changed) s.cooldown_out) (wanted - copies)
    else copies - changed_by s.most_taken (nat_lt (now - changed) s.cooldown_in) (copies - wanted)

-- a scaler that decided; it reads again after its time
abbrev pub has_decided : Actor → ScalerSettings → ℕ → ℕ → ℕ → Actor
has_decided a s now copies changed = record a { wake = Some (now + (s.every - s.reading)); last_act = Decided copies changed }

-- one that says how many copies are to ask: a change is an act
abbrev pub scales : Actor → ScalerSettings → ℕ → ℕ → ℕ → ℕ → Act × Actor
scales a s now copies changed to =
    if to == copies then (acts.Nothing, has_decided a s now copies changed) else (acts.Scale copies to, has_decided a s now to now)

-- one that goes by so many visible messages
abbrev pub scales_for : Actor → ScalerSettings → ℕ → ℕ → ℕ → ℕ → Act × Actor
scales_for a s now copies changed visible = scales a s now copies changed (copies_after s now copies changed (wanted_for s visible))

-- one that reads how many are visible: it decides by that at once, or when the number is old enough
abbrev pub reads : Actor → ScalerSettings → ℕ → ℕ → ℕ → ℕ → Act × Actor
reads a s now copies changed visible =
    if s.reading == 0 then scales_for a s now copies changed visible
    else (acts.Nothing, record a { wake = Some (now + s.reading); last_act = Read copies changed visible })

-- how many copies are to ask, by what their scaler did last; at first it is the least
abbrev pub copies_by : ScalerSettings → LastAct → ℕ
copies_by s (Decided copies changed) = copies
copies_by s (Read copies changed visible) = copies
copies_by s last = s.least

-- when that last changed; at first as if at the start of the run
abbrev pub changed_at : LastAct → ℕ
changed_at (Decided copies changed) = changed
changed_at (Read copies changed visible) = changed
changed_at last = 0

-- the number that it read and waits to decide by, if it does
abbrev pub read_before : LastAct → Option ℕ
read_before (Read copies changed visible) = Some visible
read_before last = None

-- one that decides by what it read before, or reads
abbrev pub reads_or_scales : Option ℕ → Actor → ScalerSettings → ℕ → ℕ → ℕ → ℕ → Act × Actor
reads_or_scales (Some before) a s now copies changed visible = scales_for a s now copies changed before
reads_or_scales None a s now copies changed visible = reads a s now copies changed visible

-- one that wakes
abbrev pub scaler_wake : Actor → ScalerSettings → ℕ → ℕ → LastAct → Act × Actor
scaler_wake a s now visible last = reads_or_scales (read_before last) a s now (copies_by s last) (changed_at last) visible

-- how long a consumer that gathers rests after a receive: not at all if it gave messages
abbrev pub rest_after : ℕ → List Got → ℕ
rest_after idle [] = idle
rest_after idle (g ∷ gs) = 0

-- what a consumer does with the first messages of a batch, for which it may gather others from now on
abbrev pub begins_batch : Actor → ConsumerSettings → ℕ → List Got → Act × Actor
begins_batch a c now gots =
    (acts.Nothing, gathers_on (record a { held = gots; done = []; failed = []; ends = now + c.gather }) c now 0)

-- what it does with others that it got for those that it holds
abbrev pub adds_to_batch : List Got → Actor → ConsumerSettings → ℕ → List Got → Act × Actor
adds_to_batch held a c now gots =
    (acts.Nothing, gathers_on (record a { held = held ++ gots }) c now (rest_after c.idle gots))

-- a consumer that got messages, of which it holds none or some, serves or gathers more; without any it rests
abbrev pub got_more : List Got → Actor → ConsumerSettings → ℕ → List Got → Act × Actor
got_more [] a c now [] = idle a c now
got_more [] a c now (g ∷ gs) = begins_batch a c now (g ∷ gs)
got_more (h ∷ hs) a c now gs = adds_to_batch (h ∷ hs) a c now gs

abbrev pub consumer_got : Actor → ConsumerSettings → ℕ → List Got → Act × Actor
consumer_got a c now gots = got_more a.held a c now gots

-- after a failed service the first of its messages gets another timeout, if it is to have one
abbrev pub has_failed : Actor → ConsumerSettings → ℕ → List Got → Act × Actor
has_failed a c now [] = (acts.Nothing, serving a c now a.held)
has_failed a c now (g ∷ gs) = backs_off a c g gs

-- after a refused receive a consumer waits; a message served is deleted; after a service comes the next one
abbrev pub consumer_told : Actor → ConsumerSettings → ℕ → LastAct → Act × Actor
consumer_told a c now Asked = idle a c now
consumer_told a c now Gathered = (acts.Nothing, gathers_on a c now c.idle)
consumer_told a c now (Served receipt) = (acts.Delete (receipt_text receipt), record a { last_act = Ended })
consumer_told a c now Ended = (acts.Nothing, serving a c now a.held)
consumer_told a c now Failed = has_failed a c now a.failed
consumer_told a c now Beat = (acts.Nothing, in_service a c now)
consumer_told a c now last = (acts.Nothing, a)

-- what an actor of a role does when it gets an answer
abbrev pub next_as : Role → Actor → ℕ → Answer → Act × Actor
next_as (Script script) a now (told_by.Wake st) = script_wake a (drop a.wakes script)
next_as (Script script) a now (told_by.Got gots) = (acts.Nothing, a)
next_as (Script script) a now told_by.Waiting = (acts.Nothing, a)
next_as (Script script) a now told_by.Other = (acts.Nothing, a)
next_as (Producer p) a now (told_by.Wake st) = producer_wake a p now
next_as (Producer p) a now (told_by.Got gots) = (acts.Nothing, a)
next_as (Producer p) a now told_by.Waiting = (acts.Nothing, a)
next_as (Producer p) a now told_by.Other = producer_sent a p now
next_as (Consumer c) a now (told_by.Wake st) = copy_wake c.scaling (woken a) c now st
next_as (Consumer c) a now (told_by.Got gots) = consumer_got a c now gots
next_as (Consumer c) a now told_by.Waiting = (acts.Nothing, a)
next_as (Consumer c) a now told_by.Other = consumer_told a c now a.last_act
next_as (Scaler s) a now (told_by.Wake st) = scaler_wake (woken a) s now st.number a.last_act
next_as (Scaler s) a now (told_by.Got gots) = (acts.Nothing, a)
next_as (Scaler s) a now told_by.Waiting = (acts.Nothing, a)
next_as (Scaler s) a now told_by.Other = (acts.Nothing, a)

-- the next act of an actor that gets an answer, and the actor after it
unfoldable pub next : Actor → ℕ → Answer → Act × Actor
next a now answer = next_as a.settings.role a now answer
