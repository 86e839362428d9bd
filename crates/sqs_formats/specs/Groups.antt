-- The groups of a producer in a scenario's text: a number of them in turn, or each with its weight in their place.
use Rattle.std.specs.Prelude.{ℕ, Bool, true, false, codes, List, Ok}
use Rattle.sim_clock.specs.declared.refusal.Refusal.TheVariants.{OutOfRange}
use Rattle.sqs_model.specs.declared.agents.Groups.{Groups}
use Rattle.sqs_model.specs.declared.agents.Groups.TheVariants.{ByWeight, InTurn}
use Rattle.sqs_model.specs.declared.agents.WeightedGroup.{WeightedGroup}
use Rattle.sqs_formats.specs.Reading.{needs, ◌>>=◌}
use Rattle.sqs_formats.specs.Keys.{Says, Table, KeyType, fault_at, integer, required, text}
use Rattle.sqs_formats.specs.Lists.{list_of, pair}
use Rattle.sqs_formats.specs.Script.{is_token}

-- a group, as in scripts
unfoldable pub group : KeyType (List ℕ)
group place d = text place d >>= (λ s. needs (is_token 128 s) (fault_at OutOfRange place) s)

-- a group with its weight, as ["customer-7", 90]
unfoldable pub weighted_group : KeyType WeightedGroup
weighted_group place d = do
  both ← pair place d
  group ← group place both.0
  weight ← integer 1 1000000 place both.1
  Ok (record { group = group; weight = weight })

-- 1 to 100 of them, as [["customer-7", 90], ["others", 10]]
abbrev pub weighted_groups : KeyType (List WeightedGroup)
weighted_groups = list_of 1 100 (λ count before. weighted_group)

-- the key of groups: their weights if they are there, else their number
abbrev pub groups_key : Bool → List ℕ
groups_key true = codes "key_groups"
groups_key false = codes "groups"

-- the groups
unfoldable pub groups : Bool → Table → Says Groups
groups true t = do
  weighted ← required weighted_groups t (groups_key true)
  Ok (ByWeight weighted)
groups false t = do
  count ← required (integer 1 1000) t (groups_key false)
  Ok (InTurn count)
