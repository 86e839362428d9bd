use Rattle.std.specs.Io.{StartsWith, appended_bytes}
use Rattle.std.specs.Io.KnownBytes.{Consumes}
use Rattle.sim_logs.proofs.lines.close_quotes.Given as goal

abbrev pub invariant-loop : goal.invariant-loop
invariant-loop g l = record {
  appends : StartsWith l.text.items l.initial.text.items;
  read : Consumes (g.R.Read.remaining l.initial.log) (g.R.Read.remaining l.log) (appended_bytes l.initial.text.items l.text.items);
}
