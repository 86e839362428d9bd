-- What a type of key admits.
use Rattle.std.proofs.Common.{◌≡◌, ℕ, ◌≤◌, ◌*◌, ℤ, pos, negsuc, Bool, true, false, List, Option, Some, None, Result, Ok, Err, ok_or, refl, arith, ap}
use Rattle.std.proofs.lemmas.Bool.Decides.{nat_tests}
use Rattle.toml.specs.Data.{Data}
use Rattle.sqs_formats.specs.declared.faults.ScenarioFault.{ScenarioFault}
use Rattle.sqs_formats.specs.Reading.{and_then, needs}
use Rattle.sqs_formats.proofs.Readings.{parts, same_ok}
use Rattle.sqs_formats.specs.Keys.{KeyType, Table, at, bounds, integer, maybe, optional, optional_when, place_of, ranged, required, seconds, within}
use Rattle.sqs_model.specs.Valid.{Between}
use Rattle.sim_scenario.specs.Gives.{Fails, Names}
use Rattle.sim_scenario.specs.declared.fault.ReadError.{ReadError}
use Rattle.sim_scenario.specs.declared.fault.ReadError.TheVariants as errors

-- what holds of each value that a type of key reads
abbrev pub Admits : {X : Type 0} → (X → Type 0) → KeyType X → Type 0
Admits {X} P type = (place : List ℕ) (d : Data) (x : X) → type place d ≡ Ok x → P x

-- it holds of what a table says at a key of the type
there : (o : Option Data) (f : ScenarioFault) (d : Data) → ok_or o f ≡ Ok d → o ≡ Some d
there None f d e = cc e
there (Some v) f d e = ap (λ d. Some d) (same_ok _ _ e)

pub required_read : {X : Type 0} (type : KeyType X) (t : Table) (key : List ℕ) (x : X) → required type t key ≡ Ok x → (d : Data) × (at t key ≡ Some d) × (type (place_of t key) d ≡ Ok x)
unfolding required
required_read type t key x e = let d = parts _ _ _ e in (d.0, there (at t key) _ d.0 d.1, d.2)

pub required_admits : {X : Type 0} (P : X → Type 0) (type : KeyType X) → Admits P type → (t : Table) (key : List ℕ) (x : X) → required type t key ≡ Ok x → P x
required_admits P type h t key x e = let read = required_read type t key x e in h (place_of t key) read.0 x read.2

optional_when_admits : {X : Type 0} (P : X → Type 0) (default : X) (type : KeyType X) → P default → Admits P type → (place : List ℕ) (o : Option Data) (x : X) → optional_when default type place o ≡ Ok x → P x
optional_when_admits P default type d h place None x e = rw (← same_ok _ _ e) d
optional_when_admits P default type d h place (Some v) x e = h place v x e

pub optional_admits : {X : Type 0} (P : X → Type 0) (default : X) (type : KeyType X) → P default → Admits P type → (t : Table) (key : List ℕ) (x : X) → optional default type t key ≡ Ok x → P x
unfolding optional
optional_admits P default type d h t key x e = optional_when_admits P default type d h (place_of t key) (at t key) x e

pub maybe_admits : {X : Type 0} (P : Option X → Type 0) (type : KeyType X) → P None → Admits (λ x. P (Some x)) type → (t : Table) (key : List ℕ) (x : Option X) → maybe type t key ≡ Ok x → P x
maybe_admits P type none h t key x e =
    optional_admits P None (λ place d. and_then (type place d) (λ x. Ok (Some x))) none (λ place d v e. let read = parts _ _ _ e in rw (← same_ok (Some read.0) v read.2) (h place d read.0 read.1)) t key x e

-- numbers, times and texts
in_range : (low high m n : ℕ) (b : Bool) (f : ScenarioFault) → within low high m ≡ b → needs b f m ≡ Ok n → Between low high n
in_range low high m n true f w e = let inside : Between low high m = grind (arith, nat_tests) in rw (← same_ok _ _ e) inside
in_range low high m n false f w e = cc e

ranged_within : (low high : ℕ) (place : List ℕ) (z : ℤ) (n : ℕ) → ranged low high place z ≡ Ok n → Between low high n
ranged_within low high place (pos m) n e = in_range low high m n (within low high m) _ refl e
ranged_within low high place (negsuc m) n e = cc e

pub integer_admits : (low high : ℕ) → Admits (Between low high) (integer low high)
unfolding integer
integer_admits low high place d n e = let z = parts _ _ _ e in ranged_within low high place z.0 n z.2

pub seconds_admits : (low high : ℕ) → Admits (Between (1000 * low) (1000 * high)) (seconds low high)
unfolding seconds
seconds_admits low high place d n e =
    let read = parts _ _ _ e in
    let within = integer_admits low high place d read.0 read.1 in
    rw (← same_ok _ _ read.2) (omega (arith, within.0), omega (arith, within.1))

-- an error that is a fault's is that of a reading that ends with the fault
pub names_fails : {Y : Type 0} (e : ReadError) (f : ScenarioFault) (read : Result Y ScenarioFault) → read ≡ Err f → Names e f → Fails e read
names_fails errors.Memory f read r h = tt
names_fails (errors.Fault g) f read r h = rw (r, h) refl

-- the same of numbers
pub required_within : (low high : ℕ) (t : Table) (key : List ℕ) (n : ℕ) → required (integer low high) t key ≡ Ok n → Between low high n
required_within low high t key n e = required_admits (Between low high) (integer low high) (integer_admits low high) t key n e

pub optional_within : (low high default : ℕ) (t : Table) (key : List ℕ) (n : ℕ) → Between low high default → optional default (integer low high) t key ≡ Ok n → Between low high n
optional_within low high default t key n h e = optional_admits (Between low high) default (integer low high) h (integer_admits low high) t key n e

pub seconds_within : (low high default : ℕ) (t : Table) (key : List ℕ) (n : ℕ) → Between (1000 * low) (1000 * high) default → optional default (seconds low high) t key ≡ Ok n → Between (1000 * low) (1000 * high) n
seconds_within low high default t key n h e = optional_admits (Between (1000 * low) (1000 * high)) default (seconds low high) h (seconds_admits low high) t key n e

pub maybe_within : (P : Option ℕ → Type 0) (high : ℕ) (t : Table) (key : List ℕ) (v : Option ℕ) → P None → ((n : ℕ) → n ≤ high → P (Some n)) → maybe (integer 0 high) t key ≡ Ok v → P v
maybe_within P high t key v none h e = maybe_admits P (integer 0 high) none (λ place d n e. h n (integer_admits 0 high place d n e).1) t key v e

pub bounds_within : (most : ℕ) (t : Table) (low high : List ℕ) (b : ℕ × ℕ) → bounds most t low high ≡ Ok b → (1 ≤ b.0) × (b.0 ≤ b.1) × (b.1 ≤ most)
unfolding bounds
bounds_within most t low high b e =
    let least = parts _ _ _ e in
    let greatest = parts _ _ _ least.2 in
    let w = required_within 1 most t low least.0 least.1 in
    let v = required_within least.0 most t high greatest.0 greatest.1 in
    rw (← same_ok _ _ greatest.2) (w.0, v.0, v.1)
