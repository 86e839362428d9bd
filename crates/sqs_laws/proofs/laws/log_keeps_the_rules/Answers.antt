use Rattle.sqs_laws.proofs.laws.log_keeps_the_rules.Goals as goal
use Rattle.sqs_laws.proofs.Rules.{keeps_the_rules}

pub returns : goal.returns
returns c = keeps_the_rules
