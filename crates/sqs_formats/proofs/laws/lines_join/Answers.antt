use Rattle.std.proofs.lemmas.Grind.{flat_map-append}
use Rattle.sqs_formats.specs.Rows.{line}
use Rattle.sqs_formats.proofs.laws.lines_join.Goals as goal

pub returns : goal.returns
returns c = flat_map-append line
