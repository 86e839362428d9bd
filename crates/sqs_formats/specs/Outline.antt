-- What every part of a scenario's text may refer to: all names, and who has them.
use Rattle.sqs_formats.specs.declared.scaler_text.ScalerText.{ScalerText}
use Rattle.std.specs.Prelude.{ℕ, ◌+◌, ◌-◌, nat_le, Bool, false, true, not, ◌==◌, ◌&&◌, ◌∷◌, codes, find, if◌then◌else◌, option_map, List, [], ◌++◌, length, map, position, take, Option, Some, None, Ok, get_or, ok_or, unwrap_or}
use Rattle.std.specs.List.{sum, sum_by}
use Rattle.std.specs.Str.{bytes_eq}
use Rattle.std.specs.Option.{is_some}
use Rattle.toml.specs.Data.{Data, as_array}
use Rattle.sim_clock.specs.declared.refusal.Refusal.TheVariants.{BadName, NameTwice, UnknownQueue, KindMismatch}
use Rattle.sqs_formats.specs.Reading.{needs, ◌>>=◌}
use Rattle.sqs_formats.specs.Keys.{Says, KeyType, fault_at, is_among, text, text_in}
use Rattle.sqs_formats.specs.Lists.{list_of}
use Rattle.sqs_formats.specs.Names.{is_fifo}
use Rattle.sqs_formats.specs.Copies.{copies_asked, copies_within, names_taken}

-- The texts that are given as names, well-formed or not. All names are in the order of the text, which is that of faults.
-- Agents are numbered: queues, then the first of each actor's copies, then all other copies, then tasks.
pub record Outline : Type 0 where
  pub version : ℕ
  pub names : List (List ℕ)
  pub queues : List (List ℕ)
  pub copies : List ℕ
  pub tasks : List (List ℕ)
  pub task_homes : List (List ℕ)
  pub dead_letters : List (List ℕ)
  pub scalers : List ScalerText

-- whether an actor is given as a scaler
abbrev pub is_scaler : Data → Bool
is_scaler d = bytes_eq (text_in (codes "kind") d) (codes "scaler")

-- the scaler of a number by its text
abbrev pub scaler_text : ℕ → Data → ScalerText
scaler_text n d = record { number = n; name = text_in (codes "name") d; home = text_in (codes "queue") d }

-- the scalers among some actors, the first of which has this number
abbrev pub scalers_from : ℕ → List Data → List ScalerText
scalers_from n [] = []
scalers_from n (d ∷ ds) = if is_scaler d then scaler_text n d ∷ scalers_from (n + 1) ds else scalers_from (n + 1) ds

-- the outline of three lists of items, where actors have so many copies
abbrev pub outline_with : ℕ → List Data → List Data → List Data → List ℕ → Outline
outline_with version queues actors tasks copies =
    record {
      version = version;
      names =
          map (text_in (codes "name")) queues
          ++ (names_taken (map (text_in (codes "name")) actors) copies ++ map (text_in (codes "name")) tasks);
      queues = map (text_in (codes "name")) queues;
      copies = copies;
      tasks = map (text_in (codes "name")) tasks;
      task_homes = map (text_in (codes "queue")) tasks;
      dead_letters = map (text_in (codes "dead_letter")) queues;
      scalers = if nat_le 3 version then scalers_from (length queues) actors else [];
    }

-- how many copies besides the first ones there may be, since actors and tasks are at most 10,000
abbrev pub room_beside : List Data → List Data → ℕ
room_beside actors tasks = 10000 - (length actors + length tasks)

-- the outline of three lists of items
abbrev pub outline_of : ℕ → List Data → List Data → List Data → Outline
outline_of version queues actors tasks =
    outline_with version queues actors tasks (copies_within (room_beside actors tasks) (map (copies_asked version) actors))

-- the place of an actor's name among all names: those of the queues, of earlier actors and of their copies are before it
abbrev pub actor_place : Outline → ℕ → ℕ
actor_place o index = length o.queues + (index + sum (take index o.copies))

-- the place of a task's name among all names
abbrev pub task_place : Outline → ℕ → ℕ
task_place o index = length o.queues + (length o.copies + sum o.copies) + index

-- the number of the first task
abbrev pub first_task : Outline → ℕ
first_task o = length o.queues + (length o.copies + sum_by (λ n. n - 1) o.copies)

-- the number that the second copy of an actor has, or would have
abbrev pub second_copy : Outline → ℕ → ℕ
second_copy o index = length o.queues + (length o.copies + sum_by (λ n. n - 1) (take index o.copies))

-- the first place of a text
abbrev pub place_among : List (List ℕ) → List ℕ → Option ℕ
place_among texts s = position (λ t. bytes_eq t s) texts

-- the queue of a name
abbrev pub queue_number : Outline → List ℕ → Option ℕ
queue_number o s = place_among o.queues s

-- the name of a queue
abbrev pub queue_text : Outline → ℕ → List ℕ
queue_text o n = get_or o.queues n []

-- whether a scaler has this name and is at a queue of that name
abbrev pub is_scaler_at : List ℕ → List ℕ → ScalerText → Bool
is_scaler_at name home s = bytes_eq s.name name && bytes_eq s.home home

-- the number of the scaler of a name at a queue
abbrev pub scaler_number : Outline → ℕ → List ℕ → Option ℕ
scaler_number o home name = option_map (λ (s : ScalerText). s.number) (find (is_scaler_at name (queue_text o home)) o.scalers)

-- whether a queue is FIFO
abbrev pub kind_at : Outline → ℕ → Bool
kind_at o n = is_fifo (queue_text o n)

-- whether a text that first stands at one place, if at all, does not stand before another
abbrev pub is_not_before : ℕ → Option ℕ → Bool
is_not_before place None = true
is_not_before place (Some first) = nat_le place first

-- whether no name before a place is this text
abbrev pub is_fresh : Outline → ℕ → List ℕ → Bool
is_fresh o place s = is_not_before place (place_among o.names s)

-- a name has to be well-formed, and none before it may be the same
abbrev pub fresh_name : Bool → Outline → ℕ → List ℕ → List ℕ → Says (List ℕ)
fresh_name is_well_formed o number place s = do
  formed ← needs is_well_formed (fault_at BadName place) s
  needs (is_fresh o number s) (fault_at NameTwice place) s

-- a key whose value is such a name, with its place among all names
unfoldable pub name_of : (List ℕ → Bool) → Outline → ℕ → KeyType (List ℕ)
name_of is_well_formed o number place d = text place d >>= (λ s. fresh_name (is_well_formed s) o number place s)

-- a key whose value is the name of a queue
unfoldable pub queue_named : Outline → KeyType ℕ
queue_named o place d = text place d >>= (λ s. ok_or (queue_number o s) (fault_at UnknownQueue place))

-- a queue has to be of the home's kind
abbrev pub same_kind : Outline → ℕ → List ℕ → ℕ → Says ℕ
same_kind o home place n = needs (if kind_at o n then kind_at o home else not (kind_at o home)) (fault_at KindMismatch place) n

-- a key whose value is the name of a queue of the home's kind
unfoldable pub kin_named : Outline → ℕ → KeyType ℕ
kin_named o home place d = queue_named o place d >>= same_kind o home place

-- the names of 1 to 10 of them in a list, or one without a list
abbrev pub kins_by : Bool → Outline → ℕ → KeyType (List ℕ)
kins_by true o home place d = list_of 1 10 (λ count before. kin_named o home) place d
kins_by false o home place d = do
  n ← kin_named o home place d
  Ok (n ∷ [])

-- a key whose value is one of them, or from version 3 on a list
unfoldable pub kins_named : Outline → ℕ → KeyType (List ℕ)
kins_named o home place d = kins_by (nat_le 3 o.version && is_some (as_array d)) o home place d

-- the name of another queue of the home's kind than the home
unfoldable pub other_kin_named : Outline → ℕ → KeyType ℕ
other_kin_named o home place d = do
  n ← queue_named o place d
  other ← needs (not (n == home)) (fault_at UnknownQueue place) n
  same_kind o home place n

-- a key whose value is the name of a queue that is the dead-letter queue of some queue
unfoldable pub source_named : Outline → KeyType ℕ
source_named o place d = do
  s ← text place d
  n ← queue_named o place d
  needs (is_among o.dead_letters s) (fault_at UnknownQueue place) n

-- a key whose value is the name of a scaler of the home
unfoldable pub scaler_named : Outline → ℕ → KeyType ℕ
scaler_named o home place d = text place d >>= (λ s. ok_or (scaler_number o home s) (fault_at UnknownQueue place))

-- a dead-letter queue, whose name is judged once all queues are read
unfoldable pub dead_letter_named : Outline → KeyType ℕ
dead_letter_named o place d = text place d >>= (λ s. Ok (unwrap_or (queue_number o s) 0))
