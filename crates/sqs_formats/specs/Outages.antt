-- The outages of a consumer in a scenario's text: a list of stretches of time, or one by its two keys.
use Rattle.std.specs.List.{enumerate_from}
use Rattle.std.specs.Option.{is_some}
use Rattle.std.specs.Prelude.{ℕ, Bool, true, false, codes, if◌then◌else◌, List, [], ◌∷◌, ◌==◌, ◌&&◌, get_or, length, map, Ok}
use Rattle.sim_clock.specs.declared.refusal.Refusal.TheVariants.{OutOfRange}
use Rattle.toml.specs.Data.{as_array}
use Rattle.sqs_model.specs.declared.agents.Outage.{Outage}
use Rattle.sqs_model.specs.declared.agents.Stretch.{Stretch}
use Rattle.sqs_formats.specs.Reading.{needs, ◌>>=◌}
use Rattle.sqs_formats.specs.Keys.{Says, Table, KeyType, fault_at, has, integer, list, optional, required}
use Rattle.sqs_formats.specs.Lists.{items, list_of, pair}

-- a stretch of time, as [600000, 1800000]
unfoldable pub stretch : KeyType Stretch
stretch place d = do
  both ← pair place d
  from ← integer 0 2592000000 place both.0
  to ← integer from 2592000000 place both.1
  Ok (record { from = from; to = to })

-- 1 to 32 of them
abbrev pub stretches : KeyType (List Stretch)
stretches = list_of 1 32 (λ count before. stretch)

-- one of them, by its begin and its end
unfoldable pub one_stretch : Table → Says Stretch
one_stretch t = do
  from ← required (integer 0 2592000000) t (codes "fails_from_ms")
  to ← required (integer from 2592000000) t (codes "fails_to_ms")
  Ok (record { from = from; to = to })

-- the stretches of a consumer: a list, or one, or none
unfoldable pub stretches_by : Bool → Bool → Table → Says (List Stretch)
stretches_by true one t = required stretches t (codes "fails_between_ms")
stretches_by false true t = do
  stretch ← one_stretch t
  Ok (stretch ∷ [])
stretches_by false false t = Ok []

-- of 1,000 services how many fail in each of so many outages, by a list of as many numbers
unfoldable pub one_each : ℕ → KeyType (List ℕ)
one_each outages place d = do
  ds ← list place d
  as_many ← needs (length ds == outages) (fault_at OutOfRange place) ds
  items (λ before. integer 0 1000) place [] as_many

-- the same by one number for all
unfoldable pub one_for_all : KeyType (List ℕ)
one_for_all place d = do
  permille ← integer 0 1000 place d
  Ok (permille ∷ [])

-- by a list only if the outages are a list
unfoldable pub permilles : Bool → ℕ → KeyType (List ℕ)
permilles listed outages place d =
    if listed && is_some (as_array d) then one_each outages place d else one_for_all place d

-- the chance of the outage at a place of their list: its own, or that of all; all services fail if a text gives none
abbrev pub permille_at : List ℕ → ℕ → ℕ
permille_at permilles i = get_or permilles i (get_or permilles 0 1000)

-- outages in these stretches with their chances
abbrev pub outages_in : List ℕ → List Stretch → List Outage
outages_in permilles stretches =
    map (λ x. record { stretch = x.1; permille = permille_at permilles x.0 }) (enumerate_from 0 stretches)

-- the outages of a consumer
unfoldable pub outages : Table → Says (List Outage)
outages t = do
  stretches ← stretches_by (has t (codes "fails_between_ms")) (has t (codes "fails_from_ms")) t
  permilles ← optional [] (permilles (has t (codes "fails_between_ms")) (length stretches)) t (codes "fails_permille")
  Ok (outages_in permilles stretches)

-- the keys of outages: a list takes the place of the keys of one, and either has a chance
abbrev pub outage_keys : Bool → Bool → List (List ℕ)
outage_keys true one = codes "fails_between_ms" ∷ codes "fails_permille" ∷ []
outage_keys false true = codes "fails_from_ms" ∷ codes "fails_to_ms" ∷ codes "fails_permille" ∷ []
outage_keys false false = []
