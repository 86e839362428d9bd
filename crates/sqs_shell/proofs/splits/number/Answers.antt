use Rattle.std.proofs.Common.{◌∙◌}
use Rattle.sqs_shell.proofs.Numbers.{parsed}
use Rattle.sqs_shell.proofs.splits.number.Goals as goal

pub returns : goal.returns
returns c = c.ok.ensures.value ∙ parsed c.args.text.now c.parse.result c.parse.ensures.value.0
