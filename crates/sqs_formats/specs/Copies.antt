-- The copies of actors: how many there are, and their names.
use Rattle.std.specs.Prelude.{ℕ, ◌-◌, nat_le, ℤ, pos, negsuc, codes, if◌then◌else◌, List, [], ◌∷◌, ◌++◌, map, Option, Some, None}
use Rattle.std.specs.List.{flat_map, range_with_len, zip}
use Rattle.std.specs.Fmt.{decimal}
use Rattle.toml.specs.Data.{Data, as_integer, as_table, get_member}
use Rattle.sqs_formats.specs.Keys.{members_or_none, within}

-- the number of copies that an integer asks for, which is from 1 to 1,000; otherwise none
abbrev pub number_asked : Option ℤ → ℕ
number_asked None = 0
number_asked (Some (pos n)) = if within 1 1000 n then n else 0
number_asked (Some (negsuc n)) = 0

-- the number that a value asks for
abbrev pub value_asks : Option Data → ℕ
value_asks None = 0
value_asks (Some d) = number_asked (as_integer d)

-- the number that the item of an actor asks for; there are copies from version 3 on
abbrev pub copies_asked : ℕ → Data → ℕ
copies_asked version d = if nat_le 3 version then value_asks (get_member (codes "copies") (members_or_none (as_table d))) else 0

-- so many copies if all but the first have room; otherwise none
abbrev pub fitting : ℕ → ℕ → ℕ
fitting room asked = if nat_le (asked - 1) room then asked else 0

-- the copies that actors have, one after another, if there is room for so many agents besides the first copies
abbrev pub copies_within : ℕ → List ℕ → List ℕ
copies_within room [] = []
copies_within room (asked ∷ others) = fitting room asked ∷ copies_within (room - (fitting room asked - 1)) others

-- the name of a copy, as NAME-2
abbrev pub copy_name : List ℕ → ℕ → List ℕ
copy_name name n = name ++ (codes "-" ++ decimal n)

-- the names of copies, from NAME-1 on
abbrev pub copy_names : List ℕ → ℕ → List (List ℕ)
copy_names name copies = map (copy_name name) (range_with_len 1 copies)

-- the names that actors take: each its own, and then those of its copies
abbrev pub names_taken : List (List ℕ) → List ℕ → List (List ℕ)
names_taken names copies = flat_map (λ a. a.0 ∷ copy_names a.0 a.1) (zip names copies)
