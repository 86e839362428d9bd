-- What each actor of a text says: its name, its ranges, its home, and what it does there.
use Rattle.std.proofs.Common.{◌≡◌, ◌∙◌, ℕ, zero, suc, ◌<◌, ◌≤◌, Bool, true, false, codes, List, [], ◌∷◌, length, get_or, map, Option, Some, None, Result, Ok, Err, refl, sym, subst, ap, arith, lit≤}
use Rattle.std.specs.Prelude.{All, nat_le, ◌&&◌, ◌*◌, ◌-◌}
use Rattle.std.specs.Option.{is_some}
use Rattle.toml.specs.Data.{as_array}
use Rattle.std.proofs.lemmas.Bool.Decides.{Decides-eqb}
use Rattle.std.proofs.lemmas.List.Elements.{All-append, All-cons, All-head, All-nil, All-tail}
use Rattle.std.proofs.lemmas.List.FromFn.{length-map-range_with_len}
use Rattle.std.proofs.lemmas.List.Sums.{AllPass-from_list_all}
use Rattle.std.specs.Result.{result_map_both}
use Rattle.sqs_message.specs.declared.calls.ScriptCall.{ScriptCall}
use Rattle.sqs_formats.specs.declared.actor_kind.ActorKind.{ActorKind}
use Rattle.sqs_formats.specs.declared.actor_kind.ActorKind.TheVariants as kinds
use Rattle.sqs_formats.specs.declared.failing.Failing.{Failing}
use Rattle.sqs_formats.specs.declared.home.Home.{Home}
use Rattle.sqs_formats.specs.Keys.{Table, at, has, integer, newer, optional, place_of, seconds, text_when}
use Rattle.sqs_formats.specs.Copies.{copy_name, copy_names}
use Rattle.sqs_formats.specs.Names.{is_agent_name}
use Rattle.sqs_formats.specs.Outline.{Outline, actor_place, is_fresh, kin_named, kins_by, kins_named, kind_at, queue_named, queue_number}
use Rattle.sqs_model.specs.declared.agents.Scaling.{Scaling}
use Rattle.sqs_formats.specs.Actors.{Files, actor, agents_of, copies, calls, calls_by, calls_in, consuming, failing, forward, gap, home_of, producing, role, scaler, scaling, script_fault, script_file, scripted, sending, service, serving, serving_of, stopping}
use Rattle.sqs_formats.specs.Script.{script}
use Rattle.sqs_formats.specs.Targets.{target_by}
use Rattle.sqs_model.specs.declared.agents.ActorSettings.{ActorSettings}
use Rattle.sqs_model.specs.declared.agents.Distribution.{Distribution}
use Rattle.sqs_model.specs.declared.agents.Forwarding.{Forwarding}
use Rattle.sqs_model.specs.declared.agents.Groups.{Groups}
use Rattle.sqs_model.specs.declared.agents.ProducerSettings.{ProducerSettings}
use Rattle.sqs_model.specs.declared.agents.Role.{Role}
use Rattle.sqs_model.specs.declared.agents.Role.TheVariants.{Consumer, Producer, Scaler, Script}
use Rattle.sqs_model.specs.declared.agents.Serving.{Serving}
use Rattle.sqs_model.specs.declared.agents.Target.{Target}
use Rattle.sqs_model.specs.Longest.{longest_delay, longest_timeout}
use Rattle.sqs_model.specs.Valid.{Between, IsDistribution, IsOutage, IsServing, IsTarget, MayBeFailService, MayBeForward, MayBeGroups, MayBeHeartbeat, MayBeMoment, MayBeScaling, MayBeTimeout}
use Rattle.sqs_formats.specs.Lists.{integers}
use Rattle.sim_script.specs.Ranges.{IsCallAt, IsScriptOf}
use Rattle.sim_scenario.specs.AtHome.{IsSendingAt, MayDelay}
use Rattle.sim_scenario.specs.Ranges.{IsRoleInRange}
use Rattle.sim_scenario.proofs.KinRead.{name_says, queue_says_number, same_kind_says}
use Rattle.sim_scenario.proofs.Links.{below}
use Rattle.sqs_formats.proofs.Readings.{parts, picked, same_ok}
use Rattle.sim_scenario.proofs.Admits.{Admits, integer_admits, maybe_admits, maybe_within, optional_admits, optional_within, required_admits, required_read, required_within, seconds_admits, seconds_within}
use Rattle.sim_scenario.proofs.QueueRanges.{latency_in_range}
use Rattle.sim_scenario.proofs.GroupsRead.{groups_in_range}
use Rattle.sim_scenario.proofs.OutagesRead.{outages_in_range}
use Rattle.sim_scenario.proofs.QuantilesRead.{integers_hold, list_holds, time_in_range}
use Rattle.sim_script.proofs.ScriptRanges.{script_in_range}

-- a script in the scenario
faults_of : {F G X : Type 0} (f : F → G) (r : Result X F) (x : X) → result_map_both (λ x. x) f r ≡ Ok x → r ≡ Ok x
faults_of f (Ok x) y e = ap (λ x. Ok x) (same_ok _ _ e)
faults_of f (Err g) y e = cc e

calls_in_range : (home : Home) (place s : List ℕ) (cs : List ScriptCall) → calls_in home place s ≡ Ok cs → IsScriptOf home cs
calls_in_range home place s cs e = script_in_range home s cs (faults_of (script_fault place) (script home s) cs e)

own_in_range : (home : Home) → Admits (IsScriptOf home) (calls home)
unfolding calls
own_in_range home place d cs e = let s = parts _ _ _ e in calls_in_range home place s.0 cs s.2

file_in_range : (files : Files) (home : Home) → Admits (IsScriptOf home) (script_file files home)
unfolding script_file
file_in_range files home place d cs e =
    let s = parts _ _ _ e in
    let named = parts _ _ _ s.2 in
    let file = parts _ _ _ named.2 in
    calls_in_range home place file.0.1 cs file.2

pub calls_by_in_range : (b : Bool) (files : Files) (home : Home) (t : Table) (cs : List ScriptCall) → calls_by b files home t ≡ Ok cs → IsScriptOf home cs
unfolding calls_by
calls_by_in_range false files home t cs e = required_admits (IsScriptOf home) (calls home) (own_in_range home) t (codes "calls") cs e
calls_by_in_range true files home t cs e = required_admits (IsScriptOf home) (script_file files home) (file_in_range files home) t (codes "script") cs e

-- a queue of the home's kind
abbrev pub IsKin : Outline → ℕ → ℕ → Type 0
IsKin o home n = (n < length o.queues) × (kind_at o n ≡ kind_at o home)

-- a consumer forwards to queues of its home's kind
abbrev pub ForwardKin : Outline → ℕ → Option Forwarding → Type 0
ForwardKin o home None = Unit {0}
ForwardKin o home (Some f) = All (IsKin o home) f.to

-- a role fits its home
abbrev pub RoleSays : Outline → ℕ → Role → Type 0
RoleSays o home (Script calls) = All (λ c. IsCallAt (kind_at o home) (map (λ t. t.number) (home_of o home).tasks) c.call) calls
RoleSays o home (Producer p) = IsSendingAt (kind_at o home) p
RoleSays o home (Consumer c) = ForwardKin o home c.forward
RoleSays o home (Scaler s) = Unit {0}

-- and is in range
abbrev RoleReads : Outline → ℕ → Role → Type 0
RoleReads o home r = RoleSays o home r × IsRoleInRange r

-- an agent of an actor: its home, what it does there, and its ranges
pub record AgentSays (o : Outline) (t : Table) (a : ActorSettings) : Type 0 where
  pub home : queue_number o (text_when (at t (codes "queue"))) ≡ Some a.home
  pub role : RoleSays o a.home a.role
  pub range : IsRoleInRange a.role

-- the name of an actor's table
abbrev pub own_name : Table → List ℕ
own_name t = text_when (at t (codes "name"))

-- the names of an actor's agents: its own, or those of its copies
abbrev pub agent_names : List ℕ → ℕ → List (List ℕ)
agent_names name zero = name ∷ []
agent_names name (suc copies) = copy_names name (suc copies)

-- an actor: its name and those of its copies, which are fresh, and its agents
pub record ActorSays (o : Outline) (index : ℕ) (t : Table) (agents : List (List ℕ × ActorSettings)) : Type 0 where
  pub few : get_or o.copies index 0 ≤ 1000
  pub fresh : All (λ s. is_fresh o (actor_place o index) s ≡ true) (own_name t ∷ copy_names (own_name t) (get_or o.copies index 0))
  pub names : map (λ a. a.0) agents ≡ agent_names (own_name t) (get_or o.copies index 0)
  pub formed : All (λ a. is_agent_name a.0 ≡ true) agents
  pub each : All (λ a. AgentSays o t a.1) agents

kin_says : (o : Outline) (home : ℕ) → Admits (IsKin o home) (kin_named o home)
unfolding kin_named
kin_says o home place d n e =
    let m = parts _ _ _ e in
    let kin = same_kind_says o home place m.0 n m.2 in
    let here = below o (text_when (Some d)) m.0 (queue_says_number o place d m.0 m.1) in
    rw (← kin.1) (here, kin.0)

-- 1 to 10 of them
abbrev AreKins : Outline → ℕ → List ℕ → Type 0
AreKins o home tos = All (IsKin o home) tos × Between 1 10 (length tos)

kins_by_says : (o : Outline) (home : ℕ) (b : Bool) → Admits (AreKins o home) (kins_by b o home)
kins_by_says o home true place d tos e =
    list_holds (All (IsKin o home)) 1 10 (λ count before. kin_named o home) (All-nil (IsKin o home))
    (λ n xs at d x p e. All-append (IsKin o home) xs (x ∷ []) p (All-cons (IsKin o home) x [] (kin_says o home at d x e) (All-nil (IsKin o home)))) place d tos e
kins_by_says o home false place d tos e =
    let one = parts _ _ _ e in
    rw (← same_ok _ _ one.2) (All-cons (IsKin o home) one.0 [] (kin_says o home place d one.0 one.1) (All-nil (IsKin o home)), (lit≤ tt, lit≤ tt))

kins_says : (o : Outline) (home : ℕ) → Admits (AreKins o home) (kins_named o home)
unfolding kins_named
kins_says o home place d tos e = kins_by_says o home (nat_le 3 o.version && is_some (as_array d)) place d tos e

forward_reads : (o : Outline) (home : ℕ) (b : Bool) (t : Table) (f : Option Forwarding) → forward b o home t ≡ Ok f → ForwardKin o home f × MayBeForward f
unfolding forward
forward_reads o home false t f e = rw (← same_ok _ _ e) (tt, tt)
forward_reads o home true t f e =
    let to = parts _ _ _ e in
    let within = parts _ _ _ to.2 in
    let says = required_admits (AreKins o home) (kins_named o home) (kins_says o home) t (codes "forward") to.0 to.1 in
    rw (← same_ok _ _ within.2) (says.0, record { count = says.1; latency = latency_in_range o.version t within.0 within.1 })

-- an actor stops within the longest run
stop_reads : (start : ℕ) (t : Table) (s : Option ℕ) → stopping start t ≡ Ok s → MayBeMoment s
unfolding stopping
stop_reads start t s e =
    maybe_admits MayBeMoment (integer start 2592000000) tt (λ place d n e. (integer_admits start 2592000000 place d n e).1) t (codes "stop_ms") s e

-- the outages, the backoff and the heartbeat of a consumer
record FailsInRange (f : Failing) : Type 0 where
  outages : All IsOutage f.outages
  backoff : All (λ s. s ≤ longest_timeout) f.backoff
  heartbeat : MayBeHeartbeat f.heartbeat

failing_reads : (t : Table) (f : Failing) → failing t ≡ Ok f → FailsInRange f
unfolding failing
failing_reads t f e =
    let fails_on = parts _ _ _ e in
    let outages = parts _ _ _ fails_on.2 in
    let whole = parts _ _ _ outages.2 in
    let backoff = parts _ _ _ whole.2 in
    let jitter = parts _ _ _ backoff.2 in
    let heartbeat = parts _ _ _ jitter.2 in
    let waits = integers_hold (λ s. s ≤ longest_timeout) 1 12 0 43200 (λ n h. h.1) in
    rw (← same_ok _ _ heartbeat.2) (record {
      outages = outages_in_range t outages.0 outages.1;
      backoff = optional_admits (All (λ s. s ≤ longest_timeout)) [] (integers 1 12 0 43200) (All-nil (λ s. s ≤ longest_timeout)) waits t (codes "backoff_s") backoff.0 backoff.1;
      heartbeat = maybe_admits MayBeHeartbeat (seconds 1 43200) tt (seconds_admits 1 43200) t (codes "heartbeat_s") heartbeat.0 heartbeat.1;
    })

-- what one service is of
serving_in_range : (once : Bool) (each : ℕ) → each ≤ 86400000 → IsServing (serving_of once each)
serving_in_range true each h = h
serving_in_range false each h = tt

serving_reads : (t : Table) (s : Serving) → serving t ≡ Ok s → IsServing s
unfolding serving
serving_reads t s e =
    let once = parts _ _ _ e in
    let each = parts _ _ _ once.2 in
    rw (← same_ok _ _ each.2) (serving_in_range once.0 each.0 (optional_within 0 86400000 0 t (codes "service_each_ms") each.0 (lit≤ tt, lit≤ tt) each.1).1)

service_reads : (version : ℕ) (t : Table) (d : Distribution) → service version t ≡ Ok d → IsDistribution d
unfolding service
service_reads version t d e = time_in_range (has (newer version t) (codes "service")) (codes "service") (codes "service_min_ms") (codes "service_max_ms") t d e

gap_reads : (version : ℕ) (t : Table) (d : Distribution) → gap version t ≡ Ok d → IsDistribution d
unfolding gap
gap_reads version t d e = time_in_range (has (newer version t) (codes "gap")) (codes "gap") (codes "gap_min_ms") (codes "gap_max_ms") t d e

scaling_reads : (b : Bool) (o : Outline) (home index : ℕ) (t : Table) (s : Option Scaling) → scaling b o home index t ≡ Ok s → MayBeScaling s
unfolding scaling
scaling_reads false o home index t s e = rw (← same_ok _ _ e) tt
scaling_reads true o home index t s e =
    let scaler = parts _ _ _ e in
    let start = parts _ _ _ scaler.2 in
    rw (← same_ok _ _ start.2) (optional_within 0 86400000 0 t (codes "scaler_start_ms") start.0 (lit≤ tt, lit≤ tt) start.1).1

none_old : (every : ℕ) → Between 0 (every - 1) 0
none_old every = (omega arith, omega arith)

-- a thousand times as much
thousand_within : (low high n : ℕ) → Between low high n → Between (1000 * low) (1000 * high) (1000 * n)
thousand_within low high n h = (omega (arith, h.0), omega (arith, h.1))

thousand_less : (every reading : ℕ) → 1 ≤ every → reading ≤ every - 1 → 1000 * reading < 1000 * every
thousand_less every reading some within = omega (arith, some, within)

target_reads : (by_steps : Bool) (t : Table) (x : Target) → target_by by_steps t ≡ Ok x → IsTarget x
unfolding target_by
target_reads true t x e = let steps = parts _ _ _ e in rw (← same_ok _ _ steps.2) tt
target_reads false t x e =
    let messages = parts _ _ _ e in
    rw (← same_ok _ _ messages.2) (required_within 1 1000000 t (codes "visible_per_copy") messages.0 messages.1)

scaler_reads : (o : Outline) (home : ℕ) (t : Table) (r : Role) → scaler t ≡ Ok r → RoleReads o home r
scaler_reads o home t r e =
    let known = parts _ _ _ e in
    let start = parts _ _ _ known.2 in
    let every = parts _ _ _ start.2 in
    let reading = parts _ _ _ every.2 in
    let target = parts _ _ _ reading.2 in
    let least = parts _ _ _ target.2 in
    let most = parts _ _ _ least.2 in
    let added = parts _ _ _ most.2 in
    let taken = parts _ _ _ added.2 in
    let out = parts _ _ _ taken.2 in
    let back = parts _ _ _ out.2 in
    let often : Between 1 86400 every.0 = required_within 1 86400 t (codes "every_s") every.0 every.1 in
    let old : Between 0 (every.0 - 1) reading.0 = optional_within 0 (every.0 - 1) 0 t (codes "reading_s") reading.0 (none_old every.0) reading.1 in
    let bounds : Between least.0 1000 most.0 = required_within least.0 1000 t (codes "copies_max") most.0 most.1 in
    rw (← same_ok _ _ back.2) (
      tt,
      record {
        start = (optional_within 0 2592000000 0 t (codes "start_ms") start.0 (lit≤ tt, lit≤ tt) start.1).1;
        every = thousand_within 1 86400 every.0 often;
        reading = thousand_less every.0 reading.0 often.0 old.1;
        target = target_reads (has t (codes "steps")) t target.0 target.1;
        ordered = bounds.0;
        most = bounds.1;
        most_added = optional_within 1 1000 1000 t (codes "added_max") added.0 (lit≤ tt, lit≤ tt) added.1;
        most_taken = optional_within 1 1000 1000 t (codes "taken_max") taken.0 (lit≤ tt, lit≤ tt) taken.1;
        cooldown_out = (seconds_within 0 86400 0 t (codes "cooldown_out_s") out.0 (lit≤ tt, lit≤ tt) out.1).1;
        cooldown_in = (seconds_within 0 86400 0 t (codes "cooldown_in_s") back.0 (lit≤ tt, lit≤ tt) back.1).1;
      },
    )

consumer_reads : (o : Outline) (home index : ℕ) (t : Table) (r : Role) → consuming o home index t ≡ Ok r → RoleReads o home r
consumer_reads o home index t r e =
    let known = parts _ _ _ e in
    let start = parts _ _ _ known.2 in
    let batch = parts _ _ _ start.2 in
    let gather = parts _ _ _ batch.2 in
    let wait = parts _ _ _ gather.2 in
    let timeout = parts _ _ _ wait.2 in
    let service = parts _ _ _ timeout.2 in
    let serving = parts _ _ _ service.2 in
    let fail_service = parts _ _ _ serving.2 in
    let failures = parts _ _ _ fail_service.2 in
    let idle = parts _ _ _ failures.2 in
    let forward = parts _ _ _ idle.2 in
    let stop = parts _ _ _ forward.2 in
    let scaled = parts _ _ _ stop.2 in
    let fails = parts _ _ _ scaled.2 in
    let new = newer o.version t in
    let lasting = failing_reads new fails.0 fails.1 in
    let onward = forward_reads o home (has t (codes "forward")) t forward.0 forward.1 in
    rw (← same_ok _ _ fails.2) (
      onward.0,
      record {
        start = (optional_within 0 2592000000 0 t (codes "start_ms") start.0 (lit≤ tt, lit≤ tt) start.1).1;
        batch = optional_within 1 10 1 t (codes "batch") batch.0 (lit≤ tt, lit≤ tt) batch.1;
        gather = (optional_within 0 300000 0 new (codes "gather_ms") gather.0 (lit≤ tt, lit≤ tt) gather.1).1;
        wait = (optional_within 0 20 0 t (codes "wait_s") wait.0 (lit≤ tt, lit≤ tt) wait.1).1;
        timeout = maybe_within MayBeTimeout longest_timeout t (codes "timeout_s") timeout.0 tt (λ n h. h) timeout.1;
        service = service_reads o.version t service.0 service.1;
        serving = serving_reads new serving.0 serving.1;
        fail_service = maybe_within MayBeFailService 43200000 new (codes "fail_service_ms") fail_service.0 tt (λ n h. h) fail_service.1;
        failures = (optional_within 0 1000 0 t (codes "fail_permille") failures.0 (lit≤ tt, lit≤ tt) failures.1).1;
        idle = optional_within 1 86400000 1000 t (codes "idle_ms") idle.0 (lit≤ tt, lit≤ tt) idle.1;
        forward = onward.1;
        stop = stop_reads start.0 new stop.0 stop.1;
        scaling = scaling_reads (has new (codes "scaler")) o home index new scaled.0 scaled.1;
        outages = lasting.outages;
        backoff = lasting.backoff;
        heartbeat = lasting.heartbeat;
      },
    )

-- what a producer gives at a home of its kind
sending_says : (b by_weight : Bool) (t : Table) (own : Option Groups × Bool × Option ℕ) (p : ProducerSettings) → p.groups ≡ own.0 → p.ids ≡ own.1 → p.delay ≡ own.2 → sending b by_weight t ≡ Ok own → IsSendingAt b p
unfolding sending
sending_says true by_weight t own p g i d e =
    let groups = parts _ _ _ e in
    let ids = parts _ _ _ groups.2 in
    let is = same_ok _ _ ids.2 in
    let same : p.groups ≡ Some groups.0 = g ∙ ap (λ (x : Option Groups × Bool × Option ℕ). x.0) (sym is) in
    (rw same tt, d ∙ ap (λ (x : Option Groups × Bool × Option ℕ). x.2) (sym is))
sending_says false by_weight t own p g i d e =
    let delay = parts _ _ _ e in
    let is = same_ok _ _ delay.2 in
    let same : p.delay ≡ delay.0 = d ∙ ap (λ (x : Option Groups × Bool × Option ℕ). x.2) (sym is) in (
      g ∙ ap (λ (x : Option Groups × Bool × Option ℕ). x.0) (sym is),
      i ∙ ap (λ (x : Option Groups × Bool × Option ℕ). x.1) (sym is),
      rw same (maybe_within MayDelay longest_delay t (codes "delay_s") delay.0 tt (λ n h. h) delay.1),
    )

sending_in_range : (b by_weight : Bool) (t : Table) (own : Option Groups × Bool × Option ℕ) → sending b by_weight t ≡ Ok own → MayBeGroups own.0
unfolding sending
sending_in_range true by_weight t own e =
    let groups = parts _ _ _ e in
    let ids = parts _ _ _ groups.2 in
    rw (← same_ok _ _ ids.2) (groups_in_range by_weight t groups.0 groups.1)
sending_in_range false by_weight t own e = let delay = parts _ _ _ e in rw (← same_ok _ _ delay.2) tt

producer_reads : (o : Outline) (home : ℕ) (t : Table) (r : Role) → producing o.version (kind_at o home) t ≡ Ok r → RoleReads o home r
producer_reads o home t r e =
    let known = parts _ _ _ e in
    let count = parts _ _ _ known.2 in
    let start = parts _ _ _ count.2 in
    let gap = parts _ _ _ start.2 in
    let body = parts _ _ _ gap.2 in
    let own = parts _ _ _ body.2 in
    let stop = parts _ _ _ own.2 in
    let by_weight = has (newer o.version t) (codes "key_groups") in
    rw (← same_ok _ _ stop.2) (
      sending_says (kind_at o home) by_weight t own.0 _ refl refl refl own.1,
      record {
        count = required_within 1 1000000 t (codes "count") count.0 count.1;
        start = (optional_within 0 2592000000 0 t (codes "start_ms") start.0 (lit≤ tt, lit≤ tt) start.1).1;
        gap = gap_reads o.version t gap.0 gap.1;
        groups = sending_in_range (kind_at o home) by_weight t own.0 own.1;
        stop = stop_reads start.0 (newer o.version t) stop.0 stop.1;
      },
    )

scripted_reads : (files : Files) (o : Outline) (home : ℕ) (t : Table) (r : Role) → scripted files o home t ≡ Ok r → RoleReads o home r
scripted_reads files o home t r e =
    let known = parts _ _ _ e in
    let calls = parts _ _ _ known.2 in
    let script = calls_by_in_range (has t (codes "script")) files (home_of o home) t calls.0 calls.1 in
    rw (← same_ok _ _ calls.2) (script.fits, script.script)

role_reads : (kind : ActorKind) (files : Files) (o : Outline) (home index : ℕ) (t : Table) (r : Role) → role kind files o home index t ≡ Ok r → RoleReads o home r
role_reads kinds.Script files o home index t r e = scripted_reads files o home t r e
role_reads kinds.Producer files o home index t r e = producer_reads o home t r e
role_reads kinds.Consumer files o home index t r e = consumer_reads o home index t r e
role_reads kinds.Scaler files o home index t r e = scaler_reads o home t r e

-- the names of copies are well-formed and fresh, and have room
record CopiesSay (o : Outline) (index : ℕ) (name : List ℕ) (names : List (List ℕ)) : Type 0 where
  is : names ≡ copy_names name (get_or o.copies index 0)
  few : get_or o.copies index 0 ≤ 1000
  formed : All (λ s. is_agent_name s ≡ true) names
  fresh : All (λ s. is_fresh o (actor_place o index) s ≡ true) names

pub copies_most : (t : Table) (n : ℕ) → optional 0 (integer 1 1000) t (codes "copies") ≡ Ok n → n ≤ 1000
copies_most t n e = optional_admits (λ n. n ≤ 1000) 0 (integer 1 1000) (omega arith) (λ place d n e. (integer_admits 1 1000 place d n e).1) t (codes "copies") n e

copies_say : (o : Outline) (index : ℕ) (name : List ℕ) (t : Table) (names : List (List ℕ)) → copies o index name t ≡ Ok names → CopiesSay o index name names
unfolding copies
copies_say o index name t names e =
    let n = parts _ _ _ e in
    let formed = parts _ _ _ n.2 in
    let fresh = parts _ _ _ formed.2 in
    let all : List (List ℕ) = copy_names name n.0 in
    let well = picked _ _ all formed.0 formed.1 in
    let new = picked _ _ all fresh.0 fresh.1 in
    let room = picked _ _ all names fresh.2 in
    let most : n.0 ≤ 1000 = copies_most (newer o.version t) n.0 n.1 in
    let count : get_or o.copies index 0 ≡ n.0 = (Decides-eqb (get_or o.copies index 0) (length all)).0 room.0 ∙ length-map-range_with_len (copy_name name) 1 n.0 in
    rw (← room.1) (record {
      is = ap (copy_names name) (sym count);
      few = omega arith;
      formed = AllPass-from_list_all is_agent_name all well.0;
      fresh = AllPass-from_list_all (is_fresh o (actor_place o index)) all new.0;
    })

-- what holds of each name with an actor's settings holds of its agents
named_all : (P : List ℕ × ActorSettings → Type 0) (settings : ActorSettings) (names : List (List ℕ)) → All (λ n. P (n, settings)) names → All P (map (λ n. (n, settings)) names)
named_all P settings [] h = All-nil P
named_all P settings (n ∷ ns) h =
    All-cons P (n, settings) (map (λ n. (n, settings)) ns) (All-head (λ n. P (n, settings)) n ns h) (named_all P settings ns (All-tail (λ n. P (n, settings)) n ns h))

agents_all : (P : List ℕ × ActorSettings → Type 0) (name : List ℕ) (settings : ActorSettings) (names : List (List ℕ)) → P (name, settings) → All (λ n. P (n, settings)) names → All P (agents_of name settings names)
agents_all P name settings [] own h = All-cons P (name, settings) [] own (All-nil P)
agents_all P name settings (n ∷ ns) own h = named_all P settings (n ∷ ns) h

names_back : (settings : ActorSettings) (names : List (List ℕ)) → map (λ (a : List ℕ × ActorSettings). a.0) (map (λ n. (n, settings)) names) ≡ names
names_back settings [] = refl
names_back settings (n ∷ ns) = ap (λ ns. n ∷ ns) (names_back settings ns)

agents_named : (name : List ℕ) (settings : ActorSettings) (copies : ℕ) (names : List (List ℕ)) → names ≡ copy_names name copies → map (λ a. a.0) (agents_of name settings names) ≡ agent_names name copies
agents_named name settings zero names e = rw e refl
agents_named name settings (suc copies) names e = rw e (names_back settings (copy_names name (suc copies)))

same_for_all : (P : Type 0) (names : List (List ℕ)) → P → All (λ n. P) names
same_for_all P [] h = All-nil (λ n. P)
same_for_all P (n ∷ ns) h = All-cons (λ n. P) n ns h (same_for_all P ns h)

pub actor_says : (files : Files) (o : Outline) (index : ℕ) (t : Table) (agents : List (List ℕ × ActorSettings)) → actor files o index t ≡ Ok agents → ActorSays o index t agents
unfolding actor
actor_says files o index t agents e =
    let name = parts _ _ _ e in
    let kind = parts _ _ _ name.2 in
    let home = parts _ _ _ kind.2 in
    let role = parts _ _ _ home.2 in
    let names = parts _ _ _ role.2 in
    let settings : ActorSettings = record { home = home.0; role = role.0 } in
    let named = required_read (queue_named o) t (codes "queue") home.0 home.1 in
    let reads = role_reads kind.0 files o home.0 index t role.0 role.1 in
    let own = name_says is_agent_name o (actor_place o index) t name.0 name.1 in
    let copied = copies_say o index name.0 t names.0 names.1 in
    let says : AgentSays o t settings = record {
      home = ap (λ x. queue_number o (text_when x)) named.1 ∙ queue_says_number o (place_of t (codes "queue")) named.0 home.0 named.2;
      role = reads.0;
      range = reads.1;
    } in
    let F : List ℕ → Type 0 = λ s. is_fresh o (actor_place o index) s ≡ true in
    rw (← same_ok _ _ names.2) (record {
      few = copied.few;
      fresh = subst (λ s. All F (s ∷ copy_names s (get_or o.copies index 0))) own.text (All-cons F name.0 (copy_names name.0 (get_or o.copies index 0)) own.first (subst (All F) copied.is copied.fresh));
      names = agents_named name.0 settings (get_or o.copies index 0) names.0 copied.is ∙ ap (λ s. agent_names s (get_or o.copies index 0)) own.text;
      formed = agents_all (λ a. is_agent_name a.0 ≡ true) name.0 settings names.0 own.form copied.formed;
      each = agents_all (λ a. AgentSays o t a.1) name.0 settings names.0 says (same_for_all (AgentSays o t settings) names.0 says);
    })
