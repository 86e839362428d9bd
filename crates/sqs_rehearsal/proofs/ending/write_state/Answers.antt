use Rattle.std.proofs.Common.{◌∷◌, ◌++◌, map}
use Rattle.sim_records.proofs.Writes.{part_and_more, part_stopped}
use Rattle.sqs_formats.specs.Finals.{message_fields, message_header, task_fields, task_header, transfer_fields, transfer_header}
use Rattle.sqs_model.specs.Finals.{finals_of}
use Rattle.sqs_rehearsal.proofs.ending.write_state.Goals as goal

pub returns-in_err-write_message_part-clause-written : goal.returns-in_err-write_message_part-clause-written
returns-in_err-write_message_part-clause-written g c =
    let names = c.args.names.now in
    let f = finals_of c.args.sites.now in
    part_stopped (g.W.Out.state c.args.out.now) (g.W.Out.state c.write_message_part.new.out) (message_header ∷ map (message_fields names) f.messages)
    ((transfer_header ∷ map (transfer_fields names) f.transfers) ++ (task_header ∷ map (task_fields names) f.tasks))
    c.in_err-write_message_part.field-0.0 c.from_residual.result c.from_residual.ensures.1 c.in_err-write_message_part.ensures.written

pub returns-clause-written : goal.returns-clause-written
returns-clause-written g c =
    let names = c.args.names.now in
    let f = finals_of c.args.sites.now in
    part_and_more (g.W.Out.state c.args.out.now) (g.W.Out.state c.write_message_part.new.out) (g.W.Out.state c.write_other_parts.new.out) (message_header ∷ map (message_fields names) f.messages)
    ((transfer_header ∷ map (transfer_fields names) f.transfers) ++ (task_header ∷ map (task_fields names) f.tasks))
    c.in_ok-write_message_part.field-0 c.write_other_parts.result c.in_ok-write_message_part.ensures.written c.write_other_parts.ensures
