use Rattle.std.proofs.Common.{List, map, ◌∷◌, ◌++◌, Ok, Err, subst}
use Rattle.sqs_model.specs.declared.finals.FinalMessage.{FinalMessage}
use Rattle.sqs_model.specs.declared.finals.FinalTransfer.{FinalTransfer}
use Rattle.sqs_model.specs.declared.finals.FinalTask.{FinalTask}
use Rattle.sqs_formats.specs.Rows.{lines}
use Rattle.sqs_formats.specs.Finals.{message_fields, message_header, transfer_fields, transfer_header, task_fields, task_header}
use Rattle.sim_records.specs.Writes.{WroteSeveral}
use Rattle.sim_records.proofs.Writes.{part_and_more, part_stopped}
use Rattle.sim_records.proofs.finals.write_finals.Goals as goal

pub returns-in_err-write_part : goal.returns-in_err-write_part
returns-in_err-write_part g c =
    let names = c.args.names.now in
    let finals = c.args.finals.now in
    let messages = λ (xs : List FinalMessage). message_header ∷ map (message_fields names) xs in
    let transfers = transfer_header ∷ map (transfer_fields names) finals.transfers in
    let tasks = task_header ∷ map (task_fields names) finals.tasks in
    let old = g.W.Out.state c.args.out.now in
    let new = g.W.Out.state c.write_part.new.out in
    let met = c.in_err-write_part.field-0.0 in
    let first = subst (λ (xs : List FinalMessage). WroteSeveral old new (lines (messages xs)) (Err met)) c.as_slice-messages.ensures c.in_err-write_part.ensures in
    part_stopped old new (messages finals.messages) (transfers ++ tasks) met c.from_residual.result c.from_residual.ensures.1 first

pub returns : goal.returns
returns g c =
    let names = c.args.names.now in
    let finals = c.args.finals.now in
    let messages = λ (xs : List FinalMessage). message_header ∷ map (message_fields names) xs in
    let transfers = λ (xs : List FinalTransfer). transfer_header ∷ map (transfer_fields names) xs in
    let tasks = λ (xs : List FinalTask). task_header ∷ map (task_fields names) xs in
    let old = g.W.Out.state c.args.out.now in
    let middle = g.W.Out.state c.write_part.new.out in
    let new = g.W.Out.state c.write_transfers_and_tasks.new.out in
    let result = c.write_transfers_and_tasks.result in
    let done = c.in_ok-write_part.field-0 in
    let first = subst (λ (xs : List FinalMessage). WroteSeveral old middle (lines (messages xs)) (Ok done)) c.as_slice-messages.ensures c.in_ok-write_part.ensures in
    let both = subst (λ (xs : List FinalTransfer). WroteSeveral middle new (lines (transfers xs ++ tasks c.as_slice-tasks.result.now)) result) c.as_slice-transfers.ensures c.write_transfers_and_tasks.ensures in
    let others = subst (λ (xs : List FinalTask). WroteSeveral middle new (lines (transfers finals.transfers ++ tasks xs)) result) c.as_slice-tasks.ensures both in
    part_and_more old middle new (messages finals.messages) (transfers finals.transfers ++ tasks finals.tasks) done result first others
