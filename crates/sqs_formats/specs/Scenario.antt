-- The scenario of a text, or the first fault in it. Versions 1 and 2 are always read; a caller may ask for a newer one.
use Rattle.std.specs.Prelude.{map, take, drop, flat_map, ◌++◌, ℕ, ◌+◌, nat_le, Bool, true, false, codes, if◌then◌else◌, List, [], ◌∷◌, length, filter_map, Option, Some, None, Result, Ok, ok_or}
use Rattle.std.specs.Str.{is_utf8}
use Rattle.toml.specs.Data.{Data, Items, Members, get_member, as_array}
use Rattle.toml.specs.Parse.{parse_document}
use Rattle.sim_clock.specs.declared.refusal.Refusal.TheVariants.{NotToml, OutOfRange, TooMany}
use Rattle.sqs_formats.specs.declared.faults.ScenarioFault.{ScenarioFault}
use Rattle.sqs_model.specs.declared.agents.ActorSettings.{ActorSettings}
use Rattle.sqs_model.specs.Scenario.{Scenario}
use Rattle.sqs_redrive.specs.declared.settings.QueueSettings.{QueueSettings}
use Rattle.sqs_redrive.specs.declared.settings.TaskSettings.{TaskSettings}
use Rattle.sqs_formats.specs.Reading.{needs, ◌>>=◌}
use Rattle.sqs_formats.specs.Keys.{Says, Table, fault_at, place_of, only, integer, list, in_order, required, optional, each, text_in}
use Rattle.sqs_formats.specs.Names.{is_script_name}
use Rattle.sqs_formats.specs.Outline.{Outline, outline_of}
use Rattle.sqs_formats.specs.Queues.{queue, dead_letter}
use Rattle.sqs_formats.specs.Actors.{Files, actor}
use Rattle.sqs_formats.specs.Tasks.{task}

-- the top table
pub record Top : Type 0 where
  pub version : ℕ
  pub horizon : ℕ
  pub seed : ℕ
  pub sample : ℕ
  pub queues : List Data
  pub actors : List Data
  pub tasks : List Data

-- the keys of the top table
abbrev pub top_keys : List (List ℕ)
top_keys = codes "version" ∷ codes "horizon" ∷ codes "seed" ∷ codes "sample" ∷ codes "queue" ∷ codes "actor" ∷ codes "task" ∷ []

-- there are 1 to 1,000 queues
unfoldable pub queue_list : Table → Says (List Data)
queue_list t = do
  ds ← required list t (codes "queue")
  some ← needs (nat_le 1 (length ds)) (fault_at OutOfRange (place_of t (codes "queue"))) ds
  needs (nat_le (length ds) 1000) (fault_at TooMany (place_of t (codes "queue"))) ds

-- actors and tasks together, with those before the list, are at most 10,000
unfoldable pub agent_list : ℕ → Table → List ℕ → Says (List Data)
agent_list before t key = do
  ds ← optional [] list t key
  needs (nat_le (before + length ds) 10000) (fault_at TooMany (place_of t key)) ds

-- what the top table says, if versions up to the newest one may be read
unfoldable pub top : ℕ → Table → Says Top
top newest t = do
  known ← only top_keys t
  version ← required (integer 1 newest) t (codes "version")
  horizon ← required (integer 1 2592000000) t (codes "horizon")
  seed ← optional 0 (integer 0 9223372036854775807) t (codes "seed")
  sample ← optional 0 (integer 0 2592000000) t (codes "sample")
  queues ← queue_list t
  actors ← agent_list 0 t (codes "actor")
  tasks ← agent_list (length actors) t (codes "task")
  Ok (record { version = version; horizon = horizon; seed = seed; sample = sample; queues = queues; actors = actors; tasks = tasks })

-- the scenario of a top table with its agents, each with its name
abbrev pub whole : Top → List (List ℕ × QueueSettings) → List (List ℕ × ActorSettings) → List (List ℕ × TaskSettings) → Scenario
whole top queues actors tasks =
    record {
      horizon = top.horizon;
      seed = top.seed;
      sample = top.sample;
      queues = map (λ x. x.1) queues;
      actors = map (λ x. x.1) actors;
      tasks = map (λ x. x.1) tasks;
      names = map (λ x. x.0) queues ++ (map (λ x. x.0) actors ++ map (λ x. x.0) tasks);
    }

-- the agents of all actors: the first of each, and behind them the others
abbrev pub by_number : List (List (List ℕ × ActorSettings)) → List (List ℕ × ActorSettings)
by_number actors = flat_map (take 1) actors ++ flat_map (drop 1) actors

-- all queues, then their dead-letter queues, then all actors, then all tasks
unfoldable pub agents : Files → Top → Outline → Says Scenario
agents files top o = do
  queues ← each (codes "queue") (queue o) 0 top.queues
  judged ← each (codes "queue") (dead_letter o) 0 top.queues
  actors ← each (codes "actor") (actor files o) 0 top.actors
  tasks ← each (codes "task") (task o) 0 top.tasks
  Ok (whole top queues (by_number actors) tasks)

-- what the whole document says
unfoldable pub scenario_in : ℕ → Files → Members → Says Scenario
scenario_in newest files ms = do
  top ← top newest (record { prefix = []; members = ms })
  agents files top (outline_of top.version top.queues top.actors top.tasks)

-- the document of a text that isn't too long
abbrev pub document_when : Bool → List ℕ → Option Members
document_when false text = None
document_when true text = parse_document text

-- the document of a text, if it is one
abbrev pub document : List ℕ → Option Members
document text = document_when (is_utf8 text) text

-- whether a text has at most 16 MiB
abbrev pub is_small : List ℕ → Bool
is_small text = nat_le (length text) 16777216

-- the scenario of a text of a version up to the newest one, with its script files, or its first fault
unfoldable pub scenario_upto : ℕ → Files → List ℕ → Result Scenario ScenarioFault
scenario_upto newest files text = do
  small ← needs (is_small text) (fault_at TooMany []) text
  ms ← ok_or (document text) (fault_at NotToml [])
  scenario_in newest files ms

-- the newest version that is read if no caller asks for a newer one
abbrev pub newest_unasked : ℕ
newest_unasked = 2

-- the scenario of a text of such a version
abbrev pub scenario_of : Files → List ℕ → Result Scenario ScenarioFault
scenario_of = scenario_upto newest_unasked

-- the names of script files that a text asks for
abbrev pub list_or_none : Option Items → List Data
list_or_none None = []
list_or_none (Some ds) = in_order ds

-- the items at `actor`
abbrev pub actors_in : Option Data → List Data
actors_in None = []
actors_in (Some d) = list_or_none (as_array d)

-- the name of the script file that an actor asks for
abbrev pub script_name : Data → Option (List ℕ)
script_name d = let s = text_in (codes "script") d in if is_script_name s then Some s else None

-- the names in a document
abbrev pub names_when : Option Members → List (List ℕ)
names_when None = []
names_when (Some ms) = filter_map script_name (actors_in (get_member (codes "actor") ms))

-- the names of the script files that a text asks for, in order
unfoldable pub script_names : List ℕ → List (List ℕ)
script_names text = if is_small text then names_when (document text) else []
