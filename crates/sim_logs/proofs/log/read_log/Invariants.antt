use Rattle.std.proofs.Common.{◌≡◌}
use Rattle.sqs_formats.specs.Finals.{message_header}
use Rattle.sqs_formats.specs.Rows.{line}
use Rattle.sim_logs.proofs.LogReads.{Reads}
use Rattle.sim_logs.proofs.log.read_log.Given as goal

-- the lines before this one are read, and the reader has taken their rows
abbrev pub invariant-loop-line : goal.invariant-loop-line
invariant-loop-line g l = record {
  reads : Reads l.fn.names l.fn.figures (g.R.Read.remaining l.fn.log) (g.R.Read.remaining l.log) l.line l.reading;
  last : l.last.items ≡ line message_header;
}
