use Rattle.std.specs.Prelude.{drop}
use Rattle.sqs_page.proofs.Taken.{Taken}
use Rattle.sqs_page.proofs.files.scripts_in.Given as goal

abbrev pub invariant-loop-one : goal.invariant-loop-one
invariant-loop-one l = Taken l.bytes l.lengths l.files.items l.left (drop l.one-index l.lengths)
