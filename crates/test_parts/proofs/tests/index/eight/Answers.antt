use Rattle.std.proofs.Common.{refl}
use Rattle.test_parts.proofs.tests.index.eight.Goals as goal

pub of-requires-clause-power : goal.of-requires-clause-power
of-requires-clause-power c = (3, refl)
