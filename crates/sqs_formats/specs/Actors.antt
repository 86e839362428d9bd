-- An actor of a scenario's text.
use Rattle.std.specs.Prelude.{ℕ, ◌*◌, ◌-◌, ◌==◌, ◌&&◌, nat_le, get_or, Bool, true, false, codes, if◌then◌else◌, List, [], ◌∷◌, ◌++◌, length, find, filter, map, zip, Option, None, Some, Ok, ok_or}
use Rattle.std.specs.List.{enumerate_from, list_all}
use Rattle.std.specs.Fmt.{decimal}
use Rattle.std.specs.Result.{result_map_both}
use Rattle.std.specs.Str.{bytes_eq}
use Rattle.sim_clock.specs.declared.refusal.Refusal.TheVariants.{OutOfRange, BadName, NameTwice, BadScript, TooMany}
use Rattle.sqs_message.specs.declared.calls.ScriptCall.{ScriptCall}
use Rattle.sqs_formats.specs.declared.actor_kind.ActorKind.{ActorKind}
use Rattle.sqs_formats.specs.declared.actor_kind.ActorKind.TheVariants as kinds
use Rattle.sqs_formats.specs.declared.failing.Failing.{Failing}
use Rattle.sqs_formats.specs.declared.faults.ScenarioFault.{ScenarioFault}
use Rattle.sqs_formats.specs.declared.faults.ScriptFault.{ScriptFault}
use Rattle.sqs_formats.specs.declared.home.Home.{Home}
use Rattle.sqs_formats.specs.declared.home.HomeTask.{HomeTask}
use Rattle.sqs_model.specs.declared.agents.ActorSettings.{ActorSettings}
use Rattle.sqs_model.specs.declared.agents.Distribution.{Distribution}
use Rattle.sqs_model.specs.declared.agents.Forwarding.{Forwarding}
use Rattle.sqs_model.specs.declared.agents.Groups.{Groups}
use Rattle.sqs_model.specs.declared.agents.Role.{Role}
use Rattle.sqs_model.specs.declared.agents.Role.TheVariants.{Script, Producer, Consumer, Scaler}
use Rattle.sqs_model.specs.declared.agents.Scaling.{Scaling}
use Rattle.sqs_model.specs.declared.agents.Serving.{Serving}
use Rattle.sqs_model.specs.declared.agents.Serving.TheVariants.{Each, Once}
use Rattle.sqs_formats.specs.Reading.{needs, ◌>>=◌}
use Rattle.sqs_formats.specs.Keys.{Says, Table, KeyType, fault_at, place_of, has, newer, only, says, text, sized_text, boolean, integer, seconds, one_of, required, optional, maybe}
use Rattle.sqs_formats.specs.Lists.{integers}
use Rattle.sqs_formats.specs.Distributions.{time, time_keys}
use Rattle.sqs_formats.specs.Groups.{groups, groups_key}
use Rattle.sqs_formats.specs.Names.{is_agent_name, is_script_name}
use Rattle.sqs_formats.specs.Copies.{copy_names}
use Rattle.sqs_formats.specs.Outages.{outage_keys, outages}
use Rattle.sqs_formats.specs.Targets.{target, target_keys}
use Rattle.sqs_formats.specs.Outline.{Outline, actor_place, first_task, is_fresh, name_of, queue_named, kins_named, scaler_named, second_copy, kind_at, queue_text}
use Rattle.sqs_formats.specs.Queues.{latency_keys, latency}
use Rattle.sqs_formats.specs.Script.{script}
use Rattle.sqs_message.specs.Bodies.{filled}

-- the files that scripts may be in, each with its name
abbrev pub Files : Type 0
Files = List (List ℕ × List ℕ)

-- whether a task names this queue as its own, by their texts alone
abbrev pub task_there : List ℕ → ℕ × (List ℕ × List ℕ) → Bool
task_there home task = bytes_eq task.1.1 home

-- the move tasks among some that name a queue as theirs
abbrev pub tasks_at : List ℕ → List (ℕ × (List ℕ × List ℕ)) → List HomeTask
tasks_at home tasks = map (λ t. record { number = t.0; name = t.1.0 }) (filter (task_there home) tasks)

-- a home: its kind, and the tasks that name it as their queue
abbrev pub home_of : Outline → ℕ → Home
home_of o home =
    record {
      is_fifo = kind_at o home;
      tasks = tasks_at (queue_text o home) (enumerate_from (first_task o) (zip o.tasks o.task_homes));
    }

-- the place of a script's fault, as in actor[0].calls:3
abbrev pub record_place : List ℕ → Option ℕ → List ℕ
record_place place None = place
record_place place (Some n) = place ++ (codes ":" ++ decimal n)

-- a script's fault as the scenario's
abbrev pub script_fault : List ℕ → ScriptFault → ScenarioFault
script_fault place f = fault_at f.refusal (record_place place f.number)

-- a script, whose faults get a place
abbrev pub calls_in : Home → List ℕ → List ℕ → Says (List ScriptCall)
calls_in home place s = result_map_both (λ calls. calls) (script_fault place) (script home s)

-- a script in the scenario's own text
unfoldable pub calls : Home → KeyType (List ScriptCall)
calls home place d = text place d >>= calls_in home place

-- a script in a file, by its name
unfoldable pub script_file : Files → Home → KeyType (List ScriptCall)
script_file files home place d = do
  s ← text place d
  named ← needs (is_script_name s) (fault_at OutOfRange place) s
  file ← ok_or (find (λ file. bytes_eq file.0 s) files) (fault_at BadScript place)
  calls_in home place file.1

-- a script is in its table or in a file, and in the table if both are there
abbrev pub script_keys : Bool → List (List ℕ)
script_keys true = codes "calls" ∷ []
script_keys false = codes "calls" ∷ codes "script" ∷ []

-- a script in either
unfoldable pub calls_by : Bool → Files → Home → Table → Says (List ScriptCall)
calls_by false files home t = required (calls home) t (codes "calls")
calls_by true files home t = required (script_file files home) t (codes "script")

-- the keys of every actor
abbrev pub actor_keys : List (List ℕ)
actor_keys = codes "name" ∷ codes "kind" ∷ codes "queue" ∷ []

-- an actor that follows a script
abbrev pub scripted : Files → Outline → ℕ → Table → Says Role
scripted files o home t = do
  known ← only (actor_keys ++ script_keys (has t (codes "calls"))) t
  calls ← calls_by (has t (codes "script")) files (home_of o home) t
  Ok (Script calls)

-- whether a body has 1 to 1,024 bytes for the first message and for the last
abbrev pub is_producer_body : ℕ → List ℕ → Bool
is_producer_body count s = nat_le 1 (length (filled (decimal 0) s)) && nat_le (length (filled (decimal (count - 1)) s)) 1024

-- the body of a producer
unfoldable pub producer_body : ℕ → KeyType (List ℕ)
producer_body count place d = text place d >>= (λ s. needs (is_producer_body count s) (fault_at OutOfRange place) s)

-- what a producer has at one kind of home alone: groups, ids, delay
abbrev pub sending_keys : Bool → Bool → List (List ℕ)
sending_keys true by_weight = groups_key by_weight ∷ codes "ids" ∷ []
sending_keys false by_weight = codes "delay_s" ∷ []

-- those keys of a producer
unfoldable pub sending : Bool → Bool → Table → Says (Option Groups × Bool × Option ℕ)
sending true by_weight t = do
  groups ← groups by_weight t
  ids ← optional true boolean t (codes "ids")
  Ok (Some groups, ids, None)
sending false by_weight t = do
  delay ← maybe (integer 0 900) t (codes "delay_s")
  Ok (None, false, delay)

-- the keys of every producer
abbrev pub producer_keys : List (List ℕ)
producer_keys = codes "count" ∷ codes "start_ms" ∷ codes "body" ∷ []

-- the time from one send to the next, and its keys
unfoldable pub gap : ℕ → Table → Says Distribution
gap version t = time (has (newer version t) (codes "gap")) (codes "gap") (codes "gap_min_ms") (codes "gap_max_ms") t

abbrev pub gap_keys : Bool → List (List ℕ)
gap_keys by_quantiles = time_keys by_quantiles (codes "gap") (codes "gap_min_ms") (codes "gap_max_ms")

-- the moment from which on an actor does nothing new, if there is one
unfoldable pub stopping : ℕ → Table → Says (Option ℕ)
stopping start t = maybe (integer start 2592000000) t (codes "stop_ms")

-- the keys that producers have from version 3 on
abbrev pub newer_producer_keys : ℕ → List (List ℕ)
newer_producer_keys version = if nat_le 3 version then codes "stop_ms" ∷ codes "copies" ∷ [] else []

-- all keys of a producer
abbrev pub all_producer_keys : ℕ → Bool → Table → List (List ℕ)
all_producer_keys version fifo t =
    actor_keys
    ++ (producer_keys
    ++ (gap_keys (has (newer version t) (codes "gap"))
    ++ (sending_keys fifo (has (newer version t) (codes "key_groups"))
    ++ newer_producer_keys version)))

-- an actor that sends messages of its own
abbrev pub producing : ℕ → Bool → Table → Says Role
producing version fifo t = do
  known ← only (all_producer_keys version fifo t) t
  count ← required (integer 1 1000000) t (codes "count")
  start ← optional 0 (integer 0 2592000000) t (codes "start_ms")
  gap ← gap version t
  body ← required (producer_body count) t (codes "body")
  own ← sending fifo (has (newer version t) (codes "key_groups")) t
  stop ← stopping start (newer version t)
  Ok (Producer (record {
    count = count;
    start = start;
    gap = gap;
    body = body;
    groups = own.0;
    ids = own.1;
    delay = own.2;
    stop = stop;
  }))

-- a consumer's forward, with the latency that goes with it
abbrev pub forward_keys : ℕ → Bool → List (List ℕ)
forward_keys version true = latency_keys version
forward_keys version false = []

-- the queues to which a consumer forwards
unfoldable pub forward : Bool → Outline → ℕ → Table → Says (Option Forwarding)
forward false o home t = Ok None
forward true o home t = do
  to ← required (kins_named o home) t (codes "forward")
  within ← latency o.version t
  Ok (Some (record { to = to; latency = within }))

-- the keys of every consumer
abbrev pub consumer_keys : List (List ℕ)
consumer_keys =
    codes "start_ms" ∷ codes "batch" ∷ codes "wait_s" ∷ codes "timeout_s" ∷ codes "fail_permille" ∷ codes "idle_ms" ∷ codes "forward"
    ∷ []

-- the time of a service, and its keys
unfoldable pub service : ℕ → Table → Says Distribution
service version t =
    time (has (newer version t) (codes "service")) (codes "service") (codes "service_min_ms") (codes "service_max_ms") t

abbrev pub service_keys : Bool → List (List ℕ)
service_keys by_quantiles = time_keys by_quantiles (codes "service") (codes "service_min_ms") (codes "service_max_ms")

-- the keys that consumers have from version 3 on
abbrev pub newer_consumer_keys : ℕ → List (List ℕ)
newer_consumer_keys version =
    if nat_le 3 version then codes "gather_ms" ∷ codes "stop_ms" ∷ codes "batch_service" ∷ codes "fails_on" ∷ codes "batch_fails" ∷ codes "backoff_s" ∷ codes "copies" ∷ codes "scaler" ∷ [] else []

-- the time that a copy takes to start goes with its scaler
abbrev pub scaling_keys : Bool → List (List ℕ)
scaling_keys true = codes "scaler_start_ms" ∷ []
scaling_keys false = []

-- by whom a consumer is scaled, if it is
unfoldable pub scaling : Bool → Outline → ℕ → ℕ → Table → Says (Option Scaling)
scaling false o home index t = Ok None
scaling true o home index t = do
  scaler ← required (scaler_named o home) t (codes "scaler")
  start ← optional 0 (integer 0 86400000) t (codes "scaler_start_ms")
  Ok (Some (record { scaler = scaler; second = second_copy o index; start = start }))

-- a time for each message goes with what one service is of; only a consumer that does not say it may have heartbeats
abbrev pub serving_keys : ℕ → Bool → List (List ℕ)
serving_keys version true = codes "service_each_ms" ∷ []
serving_keys version false = if nat_le 3 version then codes "heartbeat_s" ∷ [] else []

-- whether a batch is served at once, and whether it fails as a whole
abbrev pub is_once : Table → Bool
is_once t = says t (codes "batch_service") (codes "once")

abbrev pub is_whole : Table → Bool
is_whole t = says t (codes "batch_fails") (codes "whole")

-- failed services may take a time of their own, but not those of a batch served at once whose messages fail each
abbrev pub fail_service_keys : ℕ → Bool → Bool → List (List ℕ)
fail_service_keys version true false = []
fail_service_keys version once whole = if nat_le 3 version then codes "fail_service_ms" ∷ [] else []

-- a jitter goes with its backoff
abbrev pub jitter_keys : Bool → List (List ℕ)
jitter_keys true = codes "backoff_jitter" ∷ []
jitter_keys false = []

-- the keys that go with others from version 3 on, by the table in which these are looked for
abbrev pub following_keys : ℕ → Table → List (List ℕ)
following_keys version t =
    serving_keys version (has t (codes "batch_service"))
    ++ (fail_service_keys version (is_once t) (is_whole t)
    ++ (outage_keys (has t (codes "fails_between_ms")) (has t (codes "fails_from_ms"))
    ++ (jitter_keys (has t (codes "backoff_s")) ++ scaling_keys (has t (codes "scaler")))))

-- all keys of a consumer
abbrev pub all_consumer_keys : ℕ → Table → List (List ℕ)
all_consumer_keys version t =
    actor_keys
    ++ (consumer_keys
    ++ (service_keys (has (newer version t) (codes "service"))
    ++ (forward_keys version (has t (codes "forward"))
    ++ (newer_consumer_keys version ++ following_keys version (newer version t)))))

-- whether one service is of a whole batch
abbrev pub servings_named : List (List ℕ × Bool)
servings_named = (codes "each", false) ∷ (codes "once", true) ∷ []

-- services of each message, or of a batch, with a time for each message
abbrev pub serving_of : Bool → ℕ → Serving
serving_of false each = Each
serving_of true each = Once each

-- what one service is of
unfoldable pub serving : Table → Says Serving
serving t = do
  once ← optional false (one_of servings_named) t (codes "batch_service")
  each ← optional 0 (integer 0 86400000) t (codes "service_each_ms")
  Ok (serving_of once each)

-- whether a failed service fails its batch as a whole
abbrev pub failures_named : List (List ℕ × Bool)
failures_named = (codes "each", false) ∷ (codes "whole", true) ∷ []

-- whether a timeout of the backoff is drawn
abbrev pub jitters_named : List (List ℕ × Bool)
jitters_named = (codes "none", false) ∷ (codes "full", true) ∷ []

-- which services fail, and what follows
unfoldable pub failing : Table → Says Failing
failing t = do
  fails_on ← maybe (sized_text 1 128) t (codes "fails_on")
  outages ← outages t
  whole ← optional false (one_of failures_named) t (codes "batch_fails")
  backoff ← optional [] (integers 1 12 0 43200) t (codes "backoff_s")
  jitter ← optional false (one_of jitters_named) t (codes "backoff_jitter")
  heartbeat ← maybe (seconds 1 43200) t (codes "heartbeat_s")
  Ok (record { fails_on = fails_on; outages = outages; whole = whole; backoff = backoff; jitter = jitter; heartbeat = heartbeat })

-- an actor that receives, serves and deletes
abbrev pub consuming : Outline → ℕ → ℕ → Table → Says Role
consuming o home index t = do
  known ← only (all_consumer_keys o.version t) t
  start ← optional 0 (integer 0 2592000000) t (codes "start_ms")
  batch ← optional 1 (integer 1 10) t (codes "batch")
  gather ← optional 0 (integer 0 300000) (newer o.version t) (codes "gather_ms")
  wait ← optional 0 (integer 0 20) t (codes "wait_s")
  timeout ← maybe (integer 0 43200) t (codes "timeout_s")
  service ← service o.version t
  serving ← serving (newer o.version t)
  fail_service ← maybe (integer 0 43200000) (newer o.version t) (codes "fail_service_ms")
  fail_permille ← optional 0 (integer 0 1000) t (codes "fail_permille")
  idle ← optional 1000 (integer 1 86400000) t (codes "idle_ms")
  forward ← forward (has t (codes "forward")) o home t
  stop ← stopping start (newer o.version t)
  scaling ← scaling (has (newer o.version t) (codes "scaler")) o home index (newer o.version t)
  fails ← failing (newer o.version t)
  Ok (Consumer (record {
    start = start;
    batch = batch;
    gather = gather;
    wait = wait;
    timeout = timeout;
    service = service;
    serving = serving;
    fail_service = fail_service;
    fail_permille = fail_permille;
    idle = idle;
    forward = forward;
    stop = stop;
    scaling = scaling;
    fails_on = fails.fails_on;
    outages = fails.outages;
    whole = fails.whole;
    backoff = fails.backoff;
    jitter = fails.jitter;
    heartbeat = fails.heartbeat;
  }))

-- the keys of every scaler
abbrev pub scaler_keys : List (List ℕ)
scaler_keys =
    codes "start_ms" ∷ codes "every_s" ∷ codes "reading_s" ∷ codes "copies_min" ∷ codes "copies_max" ∷ codes "added_max" ∷ codes "taken_max" ∷ codes "cooldown_out_s" ∷ codes "cooldown_in_s"
    ∷ []

-- all keys of a scaler
abbrev pub all_scaler_keys : Table → List (List ℕ)
all_scaler_keys t = actor_keys ++ (scaler_keys ++ target_keys (has t (codes "steps")))

-- an actor that says how many copies of consumers ask for messages
abbrev pub scaler : Table → Says Role
scaler t = do
  known ← only (all_scaler_keys t) t
  start ← optional 0 (integer 0 2592000000) t (codes "start_ms")
  every ← required (integer 1 86400) t (codes "every_s")
  reading ← optional 0 (integer 0 (every - 1)) t (codes "reading_s")
  target ← target t
  least ← optional 1 (integer 0 1000) t (codes "copies_min")
  most ← required (integer least 1000) t (codes "copies_max")
  most_added ← optional 1000 (integer 1 1000) t (codes "added_max")
  most_taken ← optional 1000 (integer 1 1000) t (codes "taken_max")
  cooldown_out ← optional 0 (seconds 0 86400) t (codes "cooldown_out_s")
  cooldown_in ← optional 0 (seconds 0 86400) t (codes "cooldown_in_s")
  Ok (Scaler (record {
    start = start;
    every = 1000 * every;
    reading = 1000 * reading;
    target = target;
    least = least;
    most = most;
    most_added = most_added;
    most_taken = most_taken;
    cooldown_out = cooldown_out;
    cooldown_in = cooldown_in;
  }))

-- the kinds of actors of a version, by their names
abbrev pub kinds_named : List (List ℕ × ActorKind)
kinds_named = (codes "script", kinds.Script) ∷ (codes "producer", kinds.Producer) ∷ (codes "consumer", kinds.Consumer) ∷ []

abbrev pub kinds_of : ℕ → List (List ℕ × ActorKind)
kinds_of version = if nat_le 3 version then kinds_named ++ (codes "scaler", kinds.Scaler) ∷ [] else kinds_named

-- what an actor of a kind does
abbrev pub role : ActorKind → Files → Outline → ℕ → ℕ → Table → Says Role
role kinds.Script files o home index t = scripted files o home t
role kinds.Producer files o home index t = producing o.version (kind_at o home) t
role kinds.Consumer files o home index t = consuming o home index t
role kinds.Scaler files o home index t = scaler t

-- the names of copies have to be well-formed, no name before that of their actor may be one of them, and they have to
-- have room
abbrev pub fresh_names : Outline → ℕ → List ℕ → List (List ℕ) → Says (List (List ℕ))
fresh_names o index place names = do
  formed ← needs (list_all is_agent_name names) (fault_at BadName place) names
  fresh ← needs (list_all (is_fresh o (actor_place o index)) names) (fault_at NameTwice place) names
  needs (get_or o.copies index 0 == length names) (fault_at TooMany place) names

-- the names of an actor's copies; none if it has no copies
unfoldable pub copies : Outline → ℕ → List ℕ → Table → Says (List (List ℕ))
copies o index name t = do
  copies ← optional 0 (integer 1 1000) (newer o.version t) (codes "copies")
  fresh_names o index (place_of t (codes "copies")) (copy_names name copies)

-- the agents of an actor: itself, or its copies
abbrev pub agents_of : List ℕ → ActorSettings → List (List ℕ) → List (List ℕ × ActorSettings)
agents_of name settings [] = (name, settings) ∷ []
agents_of name settings (n ∷ ns) = map (λ name. (name, settings)) (n ∷ ns)

-- an actor: its agents, each with its name and its settings
unfoldable pub actor : Files → Outline → ℕ → Table → Says (List (List ℕ × ActorSettings))
actor files o index t = do
  name ← required (name_of is_agent_name o (actor_place o index)) t (codes "name")
  kind ← required (one_of (kinds_of o.version)) t (codes "kind")
  home ← required (queue_named o) t (codes "queue")
  role ← role kind files o home index t
  copies ← copies o index name t
  Ok (agents_of name (record { home = home; role = role }) copies)
