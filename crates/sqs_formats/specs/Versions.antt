-- Versions stay: who may read newer versions reads what is written in older ones as before.
use Rattle.std.specs.Prelude.{ℕ, ◌≡◌, ◌≤◌, codes, List, Err}
use Rattle.sim_clock.specs.declared.refusal.Refusal.TheVariants.{OutOfRange}
use Rattle.sqs_formats.specs.declared.faults.ScenarioFault.{ScenarioFault}
use Rattle.sqs_formats.specs.Keys.{fault_at}
use Rattle.sqs_formats.specs.Actors.{Files}
use Rattle.sqs_formats.specs.Scenario.{scenario_upto}

-- the fault of a text whose version may not be read
abbrev pub version_fault : ScenarioFault
version_fault = fault_at OutOfRange (codes "version")

-- if more versions may be read, a text is the same scenario or has the same first fault, unless its version was the fault
abbrev pub VersionsStay : Type 0
VersionsStay =
    (newest newer : ℕ) → newest ≤ newer → (files : Files) (text : List ℕ)
    → ¬ (scenario_upto newest files text ≡ Err version_fault)
    → scenario_upto newer files text ≡ scenario_upto newest files text
