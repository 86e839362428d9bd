use Rattle.sqs_page.proofs.Compared.{first_stopped, second_stopped}
use Rattle.sqs_page.proofs.comparison.run_both.Goals as goal

pub returns-in-Err-of-clause-stops : goal.returns-in-Err-of-clause-stops
returns-in-Err-of-clause-stops c newest a b files first second =
    second_stopped newest a b files c.args.first c.args.second first second c.in-Err-of.refusal c.in-Ok.ensures.whole.not_over c.in-Err-of.ensures.stops

pub returns-in-Err-clause-stops : goal.returns-in-Err-clause-stops
returns-in-Err-clause-stops c newest a b files first second =
    first_stopped newest a b files c.args.first c.args.second first second c.in-Err.refusal c.in-Err.ensures.stops
