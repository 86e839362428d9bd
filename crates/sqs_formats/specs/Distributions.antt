-- A time in a scenario's text: two bounds, or quantiles in their place.
use Rattle.std.specs.Prelude.{ℕ, ◌+◌, ◌==◌, nat_lt, Bool, true, false, List, [], ◌∷◌, length, Option, Some, None, Ok}
use Rattle.sim_clock.specs.declared.refusal.Refusal.TheVariants.{OutOfRange}
use Rattle.sqs_model.specs.declared.agents.Distribution.{Distribution}
use Rattle.sqs_model.specs.declared.agents.Distribution.TheVariants.{Quantiles, Uniform}
use Rattle.sqs_model.specs.declared.agents.Quantile.{Quantile}
use Rattle.sqs_formats.specs.Reading.{needs, ◌>>=◌}
use Rattle.sqs_formats.specs.Keys.{Says, Table, KeyType, bounds, fault_at, integer, required}
use Rattle.sqs_formats.specs.Lists.{list_of, pair}

-- the last of some quantiles, the first of which is given
abbrev pub last_from : Quantile → List Quantile → Quantile
last_from q [] = q
last_from q (r ∷ rs) = last_from r rs

-- the last of some quantiles, if there is one
abbrev pub last_of : List Quantile → Option Quantile
last_of [] = None
last_of (q ∷ qs) = Some (last_from q qs)

-- the permilles of a quantile, by whether it is the first and whether it is the last
abbrev pub permilles : Bool → Bool → ℕ × ℕ
permilles true last = (0, 0)
permilles false true = (1000, 1000)
permilles false false = (1, 999)

-- an integer from the first of two numbers to the second
abbrev pub integer_in : ℕ × ℕ → KeyType ℕ
integer_in range = integer range.0 range.1

-- whether a permille is greater than that of the quantile before it
abbrev pub rises : Option Quantile → ℕ → Bool
rises None permille = true
rises (Some q) permille = nat_lt q.permille permille

-- the least time of a quantile, by the one before it
abbrev pub least_time : Option Quantile → ℕ
least_time None = 1
least_time (Some q) = q.time

-- a quantile, as [500, 120], by their number and those before it
unfoldable pub quantile : ℕ → List Quantile → KeyType Quantile
quantile count before place d = do
  both ← pair place d
  permille ← integer_in (permilles (length before == 0) (length before + 1 == count)) place both.0
  greater ← needs (rises (last_of before) permille) (fault_at OutOfRange place) permille
  time ← integer (least_time (last_of before)) 86400000 place both.1
  Ok (record { permille = permille; time = time })

-- 2 to 32 quantiles, as [[0, 80], [500, 120], [1000, 900]]
abbrev pub quantiles : KeyType (List Quantile)
quantiles = list_of 2 32 quantile

-- the keys of a time: its quantiles if they are there, else its two bounds
abbrev pub time_keys : Bool → List ℕ → List ℕ → List ℕ → List (List ℕ)
time_keys true key low high = key ∷ []
time_keys false key low high = low ∷ high ∷ []

-- a time
unfoldable pub time : Bool → List ℕ → List ℕ → List ℕ → Table → Says Distribution
time true key low high t = do
  quantiles ← required quantiles t key
  Ok (Quantiles quantiles)
time false key low high t = do
  both ← bounds 86400000 t low high
  Ok (Uniform both.0 both.1)
