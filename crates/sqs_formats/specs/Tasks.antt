-- A move task of a scenario's text.
use Rattle.std.specs.Prelude.{ℕ, codes, List, ◌∷◌, Ok}
use Rattle.sqs_redrive.specs.declared.settings.TaskSettings.{TaskSettings}
use Rattle.sqs_formats.specs.Reading.{◌>>=◌}
use Rattle.sqs_formats.specs.Keys.{Says, Table, only, integer, required, optional, maybe}
use Rattle.sqs_formats.specs.Names.{is_agent_name}
use Rattle.sqs_formats.specs.Outline.{Outline, task_place, name_of, source_named, other_kin_named}
use Rattle.sqs_formats.specs.Queues.{latency_keys, latency}

-- the keys of a task
abbrev pub task_keys : ℕ → List (List ℕ)
task_keys version = codes "name" ∷ codes "queue" ∷ codes "to" ∷ codes "per_second" ∷ latency_keys version

-- a move task: its name and its settings
unfoldable pub task : Outline → ℕ → Table → Says (List ℕ × TaskSettings)
task o index t = do
  name ← required (name_of is_agent_name o (task_place o index)) t (codes "name")
  home ← required (source_named o) t (codes "queue")
  known ← only (task_keys o.version) t
  to ← maybe (other_kin_named o home) t (codes "to")
  per_second ← optional 500 (integer 1 500) t (codes "per_second")
  within ← latency o.version t
  Ok (name, record { home = home; to = to; per_second = per_second; latency = within })
