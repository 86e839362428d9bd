use Rattle.std.proofs.Common.{◌≡◌, take}
use Rattle.sqs_formats.specs.Outages.{outages_in}
use Rattle.sim_scenario.proofs.outages.outages_in.Given as goal

-- the outages in the stretches so far
abbrev pub invariant-loop-place : goal.invariant-loop-place
invariant-loop-place l = l.outages.items ≡ outages_in l.permilles (take l.place l.stretches)
