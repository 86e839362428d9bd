-- A queue of a scenario's text.
use Rattle.std.specs.Prelude.{ℕ, ◌==◌, Bool, true, false, codes, if◌then◌else◌, List, [], ◌∷◌, ◌++◌, Option, Some, None, Ok}
use Rattle.sqs_redrive.specs.declared.settings.Kind.{Kind}
use Rattle.sqs_redrive.specs.declared.settings.Kind.TheVariants.{Standard, Fifo}
use Rattle.sqs_redrive.specs.declared.settings.Scope.{Scope}
use Rattle.sqs_redrive.specs.declared.settings.Scope.TheVariants as scopes
use Rattle.sqs_redrive.specs.declared.settings.Latency.{Latency}
use Rattle.sqs_redrive.specs.declared.settings.Policy.{Policy}
use Rattle.sqs_redrive.specs.declared.settings.QueueSettings.{QueueSettings}
use Rattle.sqs_formats.specs.Reading.{◌>>=◌}
use Rattle.sqs_formats.specs.Keys.{Says, Table, bounds, has, only, boolean, integer, seconds, one_of, required, optional, maybe}
use Rattle.sqs_formats.specs.Names.{is_queue_name, is_fifo}
use Rattle.sqs_formats.specs.Outline.{Outline, name_of, dead_letter_named, other_kin_named}

-- a latency: one number in version 1, two bounds from version 2 on
abbrev pub latency_keys : ℕ → List (List ℕ)
latency_keys version =
    if version == 1 then codes "latency_ms" ∷ [] else codes "latency_min_ms" ∷ codes "latency_max_ms" ∷ []

-- the one latency of version 1, which is both bounds
abbrev pub one_latency : Table → Says Latency
one_latency t = do
  both ← required (integer 1 900000) t (codes "latency_ms")
  Ok (record { least = both; greatest = both })

-- the two bounds from version 2 on
abbrev pub two_bounds : Table → Says Latency
two_bounds t = do
  both ← bounds 900000 t (codes "latency_min_ms") (codes "latency_max_ms")
  Ok (record { least = both.0; greatest = both.1 })

-- the latency of a version
unfoldable pub latency : ℕ → Table → Says Latency
latency version t = if version == 1 then one_latency t else two_bounds t

-- what only one kind of queue has
abbrev pub kind_keys : Bool → List (List ℕ)
kind_keys true = codes "content_dedup" ∷ codes "dedup_scope" ∷ []
kind_keys false = codes "hosts" ∷ codes "sampled" ∷ []

-- the names of scopes
abbrev pub scopes_named : List (List ℕ × Scope)
scopes_named = (codes "queue", scopes.Queue) ∷ (codes "group", scopes.Group) ∷ []

-- the kind of a queue
unfoldable pub kind : Bool → Table → Says Kind
kind true t = do
  content ← optional false boolean t (codes "content_dedup")
  scope ← optional scopes.Queue (one_of scopes_named) t (codes "dedup_scope")
  Ok (Fifo content scope)
kind false t = do
  hosts ← optional 1 (integer 1 16) t (codes "hosts")
  sampled ← optional hosts (integer 1 hosts) t (codes "sampled")
  Ok (Standard hosts sampled)

-- the policy goes with the dead-letter queue, which is judged when all queues are read
abbrev pub policy_keys : ℕ → Bool → List (List ℕ)
policy_keys version true = codes "max_receives" ∷ latency_keys version
policy_keys version false = []

-- the policy of a queue that has a dead-letter queue
unfoldable pub policy : Outline → Bool → Table → Says (Option Policy)
policy o false t = Ok None
policy o true t = do
  dead_letter ← required (dead_letter_named o) t (codes "dead_letter")
  max_receives ← required (integer 1 1000) t (codes "max_receives")
  within ← latency o.version t
  Ok (Some (record { dead_letter = dead_letter; max_receives = max_receives; latency = within }))

-- the keys of a queue
abbrev pub queue_keys : ℕ → Bool → Bool → List (List ℕ)
queue_keys version fifo leads =
    codes "name" ∷ codes "visibility_s" ∷ codes "delay_s" ∷ codes "retention_s" ∷ codes "in_flight" ∷ codes "dead_letter"
    ∷ kind_keys fifo ++ policy_keys version leads

-- a queue: its name and its settings, times in milliseconds
unfoldable pub queue : Outline → ℕ → Table → Says (List ℕ × QueueSettings)
queue o number t = do
  name ← required (name_of is_queue_name o number) t (codes "name")
  known ← only (queue_keys o.version (is_fifo name) (has t (codes "dead_letter"))) t
  visibility ← optional 30000 (seconds 0 43200) t (codes "visibility_s")
  delay ← optional 0 (seconds 0 900) t (codes "delay_s")
  retention ← optional 345600000 (seconds 60 1209600) t (codes "retention_s")
  in_flight_limit ← optional 120000 (integer 1 120000) t (codes "in_flight")
  kind ← kind (is_fifo name) t
  policy ← policy o (has t (codes "dead_letter")) t
  Ok (
    name,
    record {
      kind = kind;
      visibility = visibility;
      delay = delay;
      retention = retention;
      in_flight_limit = in_flight_limit;
      policy = policy;
    },
  )

-- its dead-letter queue is another queue of its kind
unfoldable pub dead_letter : Outline → ℕ → Table → Says (Option ℕ)
dead_letter o number t = maybe (other_kin_named o number) t (codes "dead_letter")
