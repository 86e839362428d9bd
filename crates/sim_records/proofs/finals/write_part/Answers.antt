use Rattle.std.proofs.Common.{map}
use Rattle.sim_records.proofs.Writes.{header_and_more, header_stopped}
use Rattle.sim_records.proofs.finals.write_part.Goals as goal

pub returns-in_err-write_record : goal.returns-in_err-write_record
returns-in_err-write_record g c =
    let header = map (λ f. f.now) c.args.header.now in
    let rows = map (g.T.Record.columns c.args.names.now) c.args.records.now in
    header_stopped (g.W.Out.state c.args.out.now) (g.W.Out.state c.write_record.new.out) header rows _ c.from_residual.result c.from_residual.ensures.1 c.in_err-write_record.ensures

pub returns : goal.returns
returns g c =
    let header = map (λ f. f.now) c.args.header.now in
    let rows = map (g.T.Record.columns c.args.names.now) c.args.records.now in
    header_and_more (g.W.Out.state c.args.out.now) (g.W.Out.state c.write_record.new.out) (g.W.Out.state c.write_records.new.out) header rows _ c.write_records.result c.in_ok-write_record.ensures c.write_records.ensures
