use Rattle.std.proofs.Common.{◌≡◌, ◌++◌, ℕ, List, false, length, map}
use Rattle.std.specs.Io.KnownBytes.{Appends}
use Rattle.sqs_formats.specs.Rows.{lines}
use Rattle.sim_records.proofs.record.write_records.Given as goal

abbrev pub invariant-loop-rest : goal.invariant-loop-rest
invariant-loop-rest g l = record {
  whole : (g.W.Out.state l.out).failed ≡ false;
  prefix : (written : List ℕ) × Appends (g.W.Out.state l.initial.out).held (g.W.Out.state l.out).held written
      × (written ++ lines (map (g.T.Record.columns l.names) l.rest) ≡ lines (map (g.T.Record.columns l.names) l.records));
}

abbrev pub decreases-loop-rest : goal.decreases-loop-rest
decreases-loop-rest g l = length l.rest
