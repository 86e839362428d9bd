use Rattle.std.proofs.Common.{map}
use Rattle.sim_records.proofs.Writes.{header_and_more, header_stopped}
use Rattle.sqs_formats.specs.Finals.{message_fields, message_header}
use Rattle.sqs_model.specs.Finals.{finals_of}
use Rattle.sqs_rehearsal.proofs.ending.write_message_part.Goals as goal

pub returns-in_err-write_message_header-clause-written : goal.returns-in_err-write_message_header-clause-written
returns-in_err-write_message_header-clause-written g c =
    let rows = map (message_fields c.args.names.now) (finals_of c.args.sites.now).messages in
    header_stopped (g.W.Out.state c.args.out.now) (g.W.Out.state c.write_message_header.new.out) message_header rows c.in_err-write_message_header.field-0.0 c.from_residual.result c.from_residual.ensures.1 c.in_err-write_message_header.ensures

pub returns-clause-written : goal.returns-clause-written
unfolding finals_of
returns-clause-written g c =
    let rows = map (message_fields c.args.names.now) (finals_of c.args.sites.now).messages in
    header_and_more (g.W.Out.state c.args.out.now) (g.W.Out.state c.write_message_header.new.out) (g.W.Out.state c.write_queues.new.out) message_header rows c.in_ok-write_message_header.field-0 c.write_queues.result c.in_ok-write_message_header.ensures c.write_queues.ensures.written

pub returns-clause-counted : goal.returns-clause-counted
unfolding finals_of
returns-clause-counted g c = c.write_queues.ensures.counted
