-- The top table is in range.
use Rattle.std.proofs.Common.{codes, ℕ, ◌≡◌, Ok, arith, length}
use Rattle.sqs_formats.specs.Keys.{Table}
use Rattle.sqs_formats.specs.Scenario.{Top, top}
use Rattle.sim_scenario.specs.Tops.{IsTop}
use Rattle.sim_scenario.proofs.Links.{agents_few, queues_few}
use Rattle.sqs_formats.proofs.Readings.{parts, same_ok}
use Rattle.sim_scenario.proofs.Admits.{optional_within, required_within}

pub top_in_range : (newest : ℕ) (t : Table) (top_read : Top) → top newest t ≡ Ok top_read → IsTop top_read
unfolding top
top_in_range newest t top_read e =
    let known = parts _ _ _ e in
    let version = parts _ _ _ known.2 in
    let horizon = parts _ _ _ version.2 in
    let seed = parts _ _ _ horizon.2 in
    let sample = parts _ _ _ seed.2 in
    let queues = parts _ _ _ sample.2 in
    let actors = parts _ _ _ queues.2 in
    let tasks = parts _ _ _ actors.2 in
    rw (← same_ok _ _ tasks.2) (record {
      horizon = required_within 1 2592000000 t (codes "horizon") horizon.0 horizon.1;
      seed = (optional_within 0 9223372036854775807 0 t (codes "seed") seed.0 (omega arith, omega arith) seed.1).1;
      sample = (optional_within 0 2592000000 0 t (codes "sample") sample.0 (omega arith, omega arith) sample.1).1;
      few_queues = queues_few t queues.0 queues.1;
      few_agents = agents_few (length actors.0) t (codes "task") tasks.0 tasks.1;
    })
