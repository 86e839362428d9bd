use Rattle.std.proofs.Common.{length, ◌-◌, ◌≡◌, ◌≤◌, false, take}
use Rattle.std.specs.Io.KnownBytes.{Appends}
use Rattle.sim_records.proofs.sink.write_all.Given as goal

abbrev pub invariant-loop-done : goal.invariant-loop-done
invariant-loop-done g l = record {
  within : l.done ≤ length l.bytes;
  whole : (g.W.Out.state l.out).failed ≡ false;
  prefix : Appends (g.W.Out.state l.initial.out).held (g.W.Out.state l.out).held (take l.done l.bytes);
}

abbrev pub decreases-loop-done : goal.decreases-loop-done
decreases-loop-done g l = length l.bytes - l.done
