use Rattle.std.proofs.Common.{◌≡◌, ◌≤◌, ◌*◌}
use Rattle.sqs_model.specs.Acts.{hosts_from}
use Rattle.sim_site.proofs.state.receives.hosts_from.Given as goal

-- those so far
abbrev pub invariant-loop-i : goal.invariant-loop-i
invariant-loop-i l = record {
  set : l.set ≡ hosts_from l.hosts l.i l.start;
  bound : l.set ≤ l.i * 32768;
}
