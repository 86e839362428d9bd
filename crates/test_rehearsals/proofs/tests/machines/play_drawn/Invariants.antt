use Rattle.std.proofs.Common.{◌≡◌}
use Rattle.test_rehearsals.proofs.tests.machines.play_drawn.Given as goal

-- a word was taken for each pick
abbrev pub invariant-loop : goal.invariant-loop
invariant-loop l = l.draws.taken ≡ l.counter
