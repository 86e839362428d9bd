use Rattle.std.proofs.Common.{rules, take}
use Rattle.sqs_page.specs.Pages.{IsOutputOf}
use Rattle.sqs_page.proofs.Both.{in_room}
use Rattle.sqs_page.proofs.rehearse.Goals as goal

pub returns-in-Ok-clause-output : goal.returns-in-Ok-clause-output
returns-in-Ok-clause-output c done =
    in_room (IsOutputOf c.args.asked c.args.text.now c.args.scripts.now) c.in-Ok.output.items c.as_slice.result.now
    (take c.put_output.new.needed c.put_output.new.room) (search rules) (search rules) c.in-Ok.ensures.written
