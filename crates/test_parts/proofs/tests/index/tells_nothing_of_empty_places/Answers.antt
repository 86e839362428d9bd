use Rattle.std.proofs.Common.{refl}
use Rattle.test_parts.proofs.tests.index.tells_nothing_of_empty_places.Goals as goal

pub of-requires-clause-power : goal.of-requires-clause-power
of-requires-clause-power g c = (0, refl)
