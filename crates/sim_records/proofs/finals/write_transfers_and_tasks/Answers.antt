use Rattle.std.proofs.Common.{map, ◌∷◌}
use Rattle.sqs_formats.specs.Finals.{task_fields, task_header, transfer_fields, transfer_header}
use Rattle.sim_records.proofs.Writes.{part_and_more, part_stopped}
use Rattle.sim_records.proofs.finals.write_transfers_and_tasks.Goals as goal

pub returns-in_err-write_part : goal.returns-in_err-write_part
returns-in_err-write_part g c =
    let transfers = transfer_header ∷ map (transfer_fields c.args.names.now) c.args.transfers.now in
    let tasks = task_header ∷ map (task_fields c.args.names.now) c.args.tasks.now in
    part_stopped (g.W.Out.state c.args.out.now) (g.W.Out.state c.write_part.new.out) transfers tasks c.in_err-write_part.field-0.0 c.from_residual.result c.from_residual.ensures.1 c.in_err-write_part.ensures

pub returns : goal.returns
returns g c =
    let transfers = transfer_header ∷ map (transfer_fields c.args.names.now) c.args.transfers.now in
    let tasks = task_header ∷ map (task_fields c.args.names.now) c.args.tasks.now in
    part_and_more (g.W.Out.state c.args.out.now) (g.W.Out.state c.write_part.new.out) (g.W.Out.state c.write_part-2.new.out) transfers tasks c.in_ok-write_part.field-0 c.write_part-2.result c.in_ok-write_part.ensures c.write_part-2.ensures
