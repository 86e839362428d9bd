-- Whether workers have places for some partitions.
use Rattle.std.specs.Prelude.{ℕ, ◌≡◌}
use Rattle.sim_handoff.specs.Seats.{places_of}
use Rattle.sim_workers.specs.declared.together.Together.{Together}

-- workers share a hand-off of as many places
abbrev pub HasPlaces : {W G R P D : Type 0} {k : _} → ℕ → Together W G R P D k → Type 0
HasPlaces count team = count ≡ places_of team.handoff.now
