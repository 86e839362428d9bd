-- The table of a scenario's text that the code reads by its keys.
use Rattle.std.specs.Prelude.{List, Result, [], find, length, map, ok_or, option_map, ℕ, Bool, codes}
use Rattle.toml.specs.View.{table_view, view}
use Rattle.toml.specs.declared.value.Value.{Value}
use Rattle.sqs_formats.specs.Keys.{KeyType, Table, fault_at, has, members_or_none, only, place_of, Says}
use Rattle.std.specs.Str.{bytes_eq}
use Rattle.sim_clock.specs.declared.refusal.Refusal.TheVariants.{BadScript}
use Rattle.sqs_formats.specs.Lists.{items}
use Rattle.sim_scenario.specs.declared.section.Section.{Section}
use Rattle.sim_scenario.specs.declared.fault.ReadError.{ReadError}
use Rattle.sim_scenario.specs.Gives.{Gives, Returns, table}
use Rattle.sqs_formats.specs.Queues.{queue_keys}

-- as the definitions have it
abbrev pub table_of : Section → Table
table_of s = table s.place (members_or_none (option_map (λ t. table_view t.now) s.table))

-- the place of one of its keys
abbrev pub key_place : Section → List ℕ → List ℕ
key_place s key = place_of (table_of s) key

-- what a function returned, which reads the value at a key of a section, is what the text says there
abbrev pub GivesAt : {X Y : Type 0} → (X → Y) → Result X ReadError → Section → List ℕ → Value → KeyType Y → Type 0
GivesAt see result s key value says = Gives see result (says (key_place s key) (view value))

-- a section has these keys and no others, or that is its fault
abbrev pub HasOnly : List (List ℕ) → Section → Result (Unit {0}) ReadError → Type 0
HasOnly keys s result = Returns result (only keys (table_of s))

-- the items of a list at a place
abbrev pub items_at : {X : Type 0} → (ℕ → List X → KeyType X) → List ℕ → List Value → Says (List X)
items_at says place values = items (says (length values)) place [] (map view values)

-- the script file of a name, which must exist
abbrev pub file_of_name : List (List ℕ × List ℕ) → List ℕ → List ℕ → Says (List ℕ × List ℕ)
file_of_name files name place = ok_or (find (λ file. bytes_eq file.0 name) files) (fault_at BadScript place)

-- the keys that the table of a queue may have
abbrev pub all_queue_keys : ℕ → Bool → Table → List (List ℕ)
all_queue_keys version is_fifo t = queue_keys version is_fifo (has t (codes "dead_letter"))
