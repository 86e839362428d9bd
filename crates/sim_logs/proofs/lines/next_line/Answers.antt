use Rattle.std.proofs.KnownBytes.{Consumes-more}
use Rattle.sim_logs.proofs.lines.next_line.Goals as goal

pub returns-clause-read : goal.returns-clause-read
returns-clause-read g c =
    let whole = Consumes-more _ _ _ _ _ _ c.read_on.ensures.appends c.close_quotes.ensures.appends c.read_on.ensures.read c.close_quotes.ensures.read in
    rw c.clear.ensures.items at whole
