use Rattle.std.proofs.KnownBytes.{Consumes-more}
use Rattle.std.proofs.Transfers.{starts_with_trans}
use Rattle.sim_logs.proofs.lines.close_quotes.Goals as goal

pub returns-in_err-read_on-clause-read : goal.returns-in_err-read_on-clause-read
returns-in_err-read_on-clause-read g c =
    Consumes-more _ _ _ _ _ _ c.loop.invariant.appends c.read_on.ensures.appends c.loop.invariant.read c.read_on.ensures.read

pub returns-then-not-branch-clause-read : goal.returns-then-not-branch-clause-read
returns-then-not-branch-clause-read g c =
    Consumes-more _ _ _ _ _ _ c.loop.invariant.appends c.read_on.ensures.appends c.loop.invariant.read c.read_on.ensures.read

pub loop-preserved : goal.loop-preserved
loop-preserved g c =
    record {
      appends = starts_with_trans _ _ _ c.read_on.ensures.appends c.loop.invariant.appends;
      read = Consumes-more _ _ _ _ _ _ c.loop.invariant.appends c.read_on.ensures.appends c.loop.invariant.read c.read_on.ensures.read;
    }
