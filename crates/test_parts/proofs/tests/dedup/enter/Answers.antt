use Rattle.std.proofs.Common.{refl}
use Rattle.sqs_model.proofs.Kept.{none_later}
use Rattle.test_parts.proofs.tests.dedup.enter.Goals as goal

pub returns : goal.returns
returns c = record { after = rw c.in_ok-enter.ensures.entered (none_later c.args.now c.args.window.now _ refl c.requires.before) }
