-- An actor's turn ends: after an answer it does at most two acts and then nothing.
use Rattle.std.specs.Prelude.{ℕ, ◌+◌, ◌≡◌}
use Rattle.sim_clock.specs.declared.key.Key.{Key}
use Rattle.sqs_model.specs.declared.acts.Answer.{Answer}
use Rattle.sqs_model.specs.Polls.{acts_most, told}
use Rattle.sqs_model.specs.Site.{Core}

-- however many more acts an actor might do in a turn, the same comes of it: it has nothing left to do
abbrev pub TurnsEnd : Type 0
TurnsEnd = (more : ℕ) (key : Key) (n : ℕ) (answer : Answer) (c : Core) → acts_most (3 + more) key n answer c ≡ told key n answer c
