use Rattle.std.proofs.Common.{◌∙◌}
use Rattle.std.specs.Prelude.{find}
use Rattle.sqs_messages.proofs.Calls.{some_read}
use Rattle.sqs_messages.proofs.Gone.{some_told}
use Rattle.sqs_messages.specs.Slots.{is_numbered}
use Rattle.sqs_messages.proofs.groups.room.is_there.Goals as goal

pub returns : goal.returns
returns c =
    let found = find (is_numbered c.args.number) c.args.shelf.now.items in
    c.is_some.ensures ∙ some_read c.get.result found c.get.ensures ∙ some_told found
