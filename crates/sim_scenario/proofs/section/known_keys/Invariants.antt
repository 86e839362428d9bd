use Rattle.std.proofs.Common.{◌≡◌, flat_map, map, string_bytes}
use Rattle.toml.specs.View.{table_view}
use Rattle.sqs_formats.specs.Keys.{keys_in}
use Rattle.sim_scenario.proofs.UnknownKeys.{unknown}
use Rattle.sim_scenario.proofs.section.known_keys.Given as goal

-- the unknown keys that are left are all of them
abbrev pub invariant-loop-key : goal.invariant-loop-key
invariant-loop-key l =
    unknown (flat_map (λ ks. map (λ k. k.now) ks.now) l.known) (keys_in (table_view l.table)) ≡ unknown (flat_map (λ ks. map (λ k. k.now) ks.now) l.known) (map string_bytes l.key-iterator)
