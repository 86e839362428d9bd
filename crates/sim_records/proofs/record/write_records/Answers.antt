use Rattle.sim_records.proofs.Writes.{next_stopped, next_written}
use Rattle.sim_records.proofs.record.write_records.Goals as goal

pub returns-in_err-write_at_once : goal.returns-in_err-write_at_once
returns-in_err-write_at_once g c =
    let so_far = c.loop-rest.invariant.prefix in
    next_stopped (g.T.Record.columns c.args.names.now) c.loop-rest.rest.now c.split_at.result.0.now c.split_at.result.1.now (g.W.Out.state c.args.out.now) (g.W.Out.state c.loop-rest.out) (g.W.Out.state c.write_at_once.new.out) so_far.0 _ c.in_err-write_at_once.field-0.0
    c.from_residual.result c.split_at.ensures.by_index.0 so_far.2 so_far.1 c.in_err-write_at_once.ensures c.from_residual.ensures.1

pub loop-rest-preserved : goal.loop-rest-preserved
loop-rest-preserved g c =
    let so_far = c.loop-rest.invariant.prefix in
    record {
      whole = c.in_ok-write_at_once.ensures.1;
      prefix = next_written (g.T.Record.columns c.args.names.now) c.loop-rest.rest.now c.split_at.result.0.now c.split_at.result.1.now (g.W.Out.state c.args.out.now) (g.W.Out.state c.loop-rest.out) (g.W.Out.state c.write_at_once.new.out) so_far.0 _ _
          c.split_at.ensures.by_index.0 so_far.2 so_far.1 c.in_ok-write_at_once.ensures;
    }
