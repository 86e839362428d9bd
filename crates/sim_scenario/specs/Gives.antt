-- What a reader of a part returns: what the text says there, or out of memory.
use Rattle.std.specs.Prelude.{◌≡◌, ℕ, List, Result, Ok, Err}
use Rattle.toml.specs.Data.{Members}
use Rattle.sqs_formats.specs.declared.faults.ScenarioFault.{ScenarioFault}
use Rattle.sqs_formats.specs.Keys.{Table}
use Rattle.sim_scenario.specs.declared.fault.ReadError.{ReadError}
use Rattle.sim_scenario.specs.declared.fault.ReadError.TheVariants as errors

-- the table of some members, whose keys have a prefix before them
abbrev pub table : List ℕ → Members → Table
table prefix ms = record { prefix = prefix; members = ms }

-- an error is this fault, or only reports that memory ran out
abbrev pub Names : ReadError → ScenarioFault → Type 0
Names errors.Memory f = Unit {0}
Names (errors.Fault g) f = g ≡ f

-- an error is that of the reading, or only reports that memory ran out
abbrev pub Fails : {Y : Type 0} → ReadError → Result Y ScenarioFault → Type 0
Fails errors.Memory read = Unit {0}
Fails (errors.Fault f) read = read ≡ Err f

-- what a function returned, seen by view, is what the text says, unless memory ran out
abbrev pub Gives : {X Y : Type 0} → (X → Y) → Result X ReadError → Result Y ScenarioFault → Type 0
Gives view (Ok x) read = read ≡ Ok (view x)
Gives view (Err e) read = Fails e read

-- what a function returned is what the text says, unless memory ran out
abbrev pub Returns : {X : Type 0} → Result X ReadError → Result X ScenarioFault → Type 0
Returns result read = Gives (λ x. x) result read
