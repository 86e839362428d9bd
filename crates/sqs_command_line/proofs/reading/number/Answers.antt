use Rattle.std.proofs.Common.{Err, Ok}
use Rattle.clap.specs.Words.{found_of}
use Rattle.sqs_command_line.proofs.Answered.{told_number}
use Rattle.sqs_command_line.proofs.reading.number.Goals as goal

pub returns-in-Ok : goal.returns-in-Ok
returns-in-Ok c = told_number 32 (found_of c.args.matches.now) c.args.id.now (Ok c.in-Ok.number) c.in-Ok.ensures.none c.in-Ok.ensures.value

pub returns-in-Err : goal.returns-in-Err
returns-in-Err c = told_number 32 (found_of c.args.matches.now) c.args.id.now (Err c.in-Err.field-0) c.in-Err.ensures.none c.in-Err.ensures.value
