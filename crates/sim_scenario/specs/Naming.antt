-- The names of a scenario's agents.
use Rattle.std.specs.List.{AllPairs, zip}
use Rattle.std.specs.Prelude.{All, List, codes, drop, length, map, true, ℕ, ◌≡◌, ◌≢◌, ◌++◌}
use Rattle.toml.specs.View.{view}
use Rattle.toml.specs.declared.value.Value.{Value}
use Rattle.sqs_formats.specs.Keys.{text_in}
use Rattle.sqs_formats.specs.Names.{is_agent_name, is_fifo, is_queue_name}
use Rattle.sqs_model.specs.Scenario.{Scenario}
use Rattle.sqs_redrive.specs.declared.settings.QueueSettings.{QueueSettings}
use Rattle.sim_scenario.specs.Kinds.{is_fifo_kind}
use Rattle.sqs_formats.specs.Copies.{names_taken}
use Rattle.sqs_formats.specs.Outline.{Outline, outline_of}

-- a queue's name is well-formed, and ends in `.fifo` exactly if the queue is FIFO
pub record IsNameOf (q : QueueSettings) (name : List ℕ) : Type 0 where
  pub form : is_queue_name name ≡ true
  pub suffix : is_fifo name ≡ is_fifo_kind q.kind

-- no two agents have one name, and each name is well-formed
pub record AreNamed (s : Scenario) : Type 0 where
  pub distinct : AllPairs (λ m n. m ≢ n) s.names
  pub queues : All (λ x. IsNameOf x.0 x.1) (zip s.queues s.names)
  pub others : All (λ n. is_agent_name n ≡ true) (drop (length s.queues) s.names)

-- the texts that are given as names in some items, well-formed or not
abbrev pub names_in : List Value → List (List ℕ)
names_in items = map (text_in (codes "name")) (map view items)

-- the names of queues and actors, and of their copies, which stand before those of tasks
abbrev pub names_before_tasks : List Value → List Value → List ℕ → List (List ℕ)
names_before_tasks queues actors copies = names_in queues ++ names_taken (names_in actors) copies

-- all names, in the order of the text
abbrev pub all_names : List Value → List Value → List ℕ → List Value → List (List ℕ)
all_names queues actors copies tasks = names_before_tasks queues actors copies ++ names_in tasks

-- the outline of three lists of items
abbrev pub outline_in : ℕ → List Value → List Value → List Value → Outline
outline_in version queues actors tasks = outline_of version (map view queues) (map view actors) (map view tasks)
