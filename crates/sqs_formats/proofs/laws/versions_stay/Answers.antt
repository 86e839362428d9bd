use Rattle.sqs_formats.proofs.Versions.{versions_stay}
use Rattle.sqs_formats.proofs.laws.versions_stay.Goals as goal

pub returns : goal.returns
returns c = versions_stay
