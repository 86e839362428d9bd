-- Tables of a scenario's text and the values at their keys, each with its place.
use Rattle.std.specs.Prelude.{ℕ, ◌+◌, ◌*◌, ◌&&◌, not, nat_le, ℤ, pos, negsuc, Bool, true, false, codes, if◌then◌else◌, List, [], ◌∷◌, ◌++◌, length, filter, Option, Some, None, Result, Ok, Err, ok_or}
use Rattle.std.specs.List.{list_any}
use Rattle.std.specs.Fmt.{decimal}
use Rattle.std.specs.Str.{bytes_eq}
use Rattle.toml.specs.Data.{Data, Items, no_items, item, Members, no_members, member, get_member, as_integer, as_bool, as_str, as_array, as_table}
use Rattle.sim_clock.specs.declared.refusal.Refusal.{Refusal}
use Rattle.sim_clock.specs.declared.refusal.Refusal.TheVariants.{UnknownKey, MissingKey, WrongType, OutOfRange}
use Rattle.sqs_formats.specs.declared.faults.ScenarioFault.{ScenarioFault}
use Rattle.sqs_formats.specs.Reading.{needs, ◌>>=◌}

-- a fault at a place
abbrev pub fault_at : Refusal → List ℕ → ScenarioFault
fault_at r place = record { refusal = r; place = place }

-- what a part of a scenario's text says, or the first fault in it
abbrev pub Says : Type 0 → Type 0
Says X = Result X ScenarioFault

-- a table, and the text before its keys in their places
pub record Table : Type 0 where
  pub prefix : List ℕ
  pub members : Members

-- the place of a key
abbrev pub place_of : Table → List ℕ → List ℕ
place_of t key = t.prefix ++ key

-- the value at a key
abbrev pub at : Table → List ℕ → Option Data
at t key = get_member key t.members

-- whether there is a value
abbrev pub is_there : Option Data → Bool
is_there None = false
is_there (Some d) = true

-- whether there is one at a key
abbrev pub has : Table → List ℕ → Bool
has t key = is_there (at t key)

-- the table in which keys are looked for that are known from version 3 on alone: before, it has none
abbrev pub newer : ℕ → Table → Table
newer version t = if nat_le 3 version then t else record { prefix = t.prefix; members = no_members }

-- whether a list has a text
abbrev pub is_among : List (List ℕ) → List ℕ → Bool
is_among texts text = list_any (λ t. bytes_eq t text) texts

-- the keys of a table, in the order of their bytes
abbrev pub keys_in : Members → List (List ℕ)
keys_in no_members = []
keys_in (member k d ms) = k ∷ keys_in ms

-- the first key that there should not be is a fault
abbrev pub none_of : Table → List (List ℕ) → Says (Unit {0})
none_of t [] = Ok tt
none_of t (key ∷ keys) = Err (fault_at UnknownKey (place_of t key))

-- a table has known keys alone
abbrev pub only : List (List ℕ) → Table → Says (Unit {0})
only known t = none_of t (filter (λ key. not (is_among known key)) (keys_in t.members))

-- a type of key: how a value of it is read at a place
abbrev pub KeyType : Type 0 → Type 0
KeyType X = List ℕ → Data → Says X

-- a value of one of TOML's own types
abbrev pub typed : {X : Type 0} → List ℕ → Option X → Says X
typed place o = ok_or o (fault_at WrongType place)

-- a text
abbrev pub text : KeyType (List ℕ)
text place d = typed place (as_str d)

-- whether a number is from the one to the other
abbrev pub within : ℕ → ℕ → ℕ → Bool
within low high n = nat_le low n && nat_le n high

-- a text of a number of bytes from the one to the other
unfoldable pub sized_text : ℕ → ℕ → KeyType (List ℕ)
sized_text low high place d = text place d >>= (λ s. needs (within low high (length s)) (fault_at OutOfRange place) s)

-- true or false
abbrev pub boolean : KeyType Bool
boolean place d = typed place (as_bool d)

-- a number between two
abbrev pub ranged : ℕ → ℕ → List ℕ → ℤ → Says ℕ
ranged low high place (pos n) = needs (within low high n) (fault_at OutOfRange place) n
ranged low high place (negsuc n) = Err (fault_at OutOfRange place)

-- an integer between two numbers
unfoldable pub integer : ℕ → ℕ → KeyType ℕ
integer low high place d = typed place (as_integer d) >>= ranged low high place

-- a time in seconds between two numbers, as milliseconds
unfoldable pub seconds : ℕ → ℕ → KeyType ℕ
seconds low high place d = do
  n ← integer low high place d
  Ok (1000 * n)

-- one of some texts, each of which means something
abbrev pub meaning : {X : Type 0} → List (List ℕ × X) → List ℕ → List ℕ → Says X
meaning [] place s = Err (fault_at OutOfRange place)
meaning ((t, x) ∷ others) place s = if bytes_eq t s then Ok x else meaning others place s

-- a key whose value is one of them
unfoldable pub one_of : {X : Type 0} → List (List ℕ × X) → KeyType X
one_of meanings place d = text place d >>= meaning meanings place

-- the items of a list, in their order
abbrev pub in_order : Items → List Data
in_order no_items = []
in_order (item d ds) = d ∷ in_order ds

-- a list
abbrev pub list : KeyType (List Data)
list place d = do
  ds ← typed place (as_array d)
  Ok (in_order ds)

-- what a table says at a key that has to be there
unfoldable pub required : {X : Type 0} → KeyType X → Table → List ℕ → Says X
required type t key = ok_or (at t key) (fault_at MissingKey (place_of t key)) >>= type (place_of t key)

-- a value that may be left out
abbrev pub optional_when : {X : Type 0} → X → KeyType X → List ℕ → Option Data → Says X
optional_when default type place None = Ok default
optional_when default type place (Some d) = type place d

-- what a table says at a key that may be left out, and then has a default
unfoldable pub optional : {X : Type 0} → X → KeyType X → Table → List ℕ → Says X
optional default type t key = optional_when default type (place_of t key) (at t key)

-- what a table says at a key that may be left out, and then says nothing
abbrev pub maybe : {X : Type 0} → KeyType X → Table → List ℕ → Says (Option X)
maybe type t key = optional None (λ place d. type place d >>= (λ x. Ok (Some x))) t key

-- two bounds from 1 to the most, of which the second is no less than the first
unfoldable pub bounds : ℕ → Table → List ℕ → List ℕ → Says (ℕ × ℕ)
bounds most t low high = do
  least ← required (integer 1 most) t low
  greatest ← required (integer least most) t high
  Ok (least, greatest)

-- the place of an item of a list, as queue[2]
abbrev pub item_place : List ℕ → ℕ → List ℕ
item_place key n = key ++ (codes "[" ++ (decimal n ++ codes "]"))

-- an item of a list has to be a table; the places of its keys are as queue[2].name
abbrev pub item_table : List ℕ → Option Members → Says Table
item_table place None = Err (fault_at WrongType place)
item_table place (Some ms) = Ok (record { prefix = place ++ codes "."; members = ms })

-- each item of a list, numbered from n on
abbrev pub each : {X : Type 0} → List ℕ → (ℕ → Table → Says X) → ℕ → List Data → Says (List X)
each key read n [] = Ok []
each key read n (d ∷ ds) = do
  t ← item_table (item_place key n) (as_table d)
  x ← read n t
  xs ← each key read (n + 1) ds
  Ok (x ∷ xs)

-- the text at a key, whatever else may be wrong, and the keys of an item that may be no table
abbrev pub text_or_none : Option (List ℕ) → List ℕ
text_or_none None = []
text_or_none (Some s) = s

-- the text that a value is, or none
abbrev pub text_when : Option Data → List ℕ
text_when None = []
text_when (Some d) = text_or_none (as_str d)

-- whether the value at a key is this word
abbrev pub says : Table → List ℕ → List ℕ → Bool
says t key word = bytes_eq (text_when (at t key)) word

-- the keys of a table, or none
abbrev pub members_or_none : Option Members → Members
members_or_none None = no_members
members_or_none (Some ms) = ms

-- the text at a key of an item, or none
abbrev pub text_in : List ℕ → Data → List ℕ
text_in key d = text_when (get_member key (members_or_none (as_table d)))
