use Rattle.std.proofs.Common.{◌∙◌, ◌∷◌, ◌++◌, List, map, subst}
use Rattle.sim_records.specs.Writes.{WroteSeveral}
use Rattle.sqs_formats.specs.Finals.{task_fields, task_header, transfer_fields, transfer_header}
use Rattle.sqs_formats.specs.Rows.{lines}
use Rattle.sqs_model.specs.Finals.{finals_of}
use Rattle.sqs_model.specs.declared.finals.FinalTask.{FinalTask}
use Rattle.sqs_model.specs.declared.finals.FinalTransfer.{FinalTransfer}
use Rattle.sqs_rehearsal.proofs.ending.write_other_parts.Goals as goal

pub returns : goal.returns
unfolding finals_of
returns g c =
    let names = c.args.names.now in
    let old = g.W.Out.state c.args.out.now in
    let new = g.W.Out.state c.write_transfers_and_tasks.new.out in
    let result = c.write_transfers_and_tasks.result in
    let transfers = λ (xs : List FinalTransfer). transfer_header ∷ map (transfer_fields names) xs in
    let tasks = λ (xs : List FinalTask). task_header ∷ map (task_fields names) xs in
    let one = subst (λ (xs : List FinalTransfer). WroteSeveral old new (lines (transfers xs ++ tasks c.as_slice-2.result.now)) result) (c.as_slice.ensures.value ∙ c.in_ok-transfers.ensures) c.write_transfers_and_tasks.ensures in
    subst (λ (xs : List FinalTask). WroteSeveral old new (lines (transfers (finals_of c.args.sites.now).transfers ++ tasks xs)) result) (c.as_slice-2.ensures.value ∙ c.in_ok-tasks.ensures) one
