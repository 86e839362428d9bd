use Rattle.std.proofs.Common.{◌≡◌, drop, map}
use Rattle.sqs_formats.specs.Keys.{meaning, place_of}
use Rattle.sim_scenario.specs.Sections.{table_of}
use Rattle.sim_scenario.proofs.key_type.OneOfKeyType.read.Given as goal

-- the texts that are left mean what all of them mean
abbrev pub invariant-loop-text : goal.invariant-loop-text
invariant-loop-text g l =
    let place = place_of (table_of l.section) l.key in
    meaning (map (λ m. (m.0.now, m.1)) l.self.0.now) place l.name ≡ meaning (map (λ m. (m.0.now, m.1)) (drop l.text-index l.self.0.now)) place l.name
