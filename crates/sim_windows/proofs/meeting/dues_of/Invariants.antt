use Rattle.std.proofs.Common.{◌≡◌}
use Rattle.std.specs.Prelude.{map, take}
use Rattle.sim_engine.specs.Bounds.{moment_of}
use Rattle.sim_partition.specs.Sites.{due_in}
use Rattle.sim_windows.proofs.meeting.dues_of.Given as goal

-- those so far
abbrev pub invariant-loop-part : goal.invariant-loop-part
invariant-loop-part given l = l.dues.items ≡ map (λ p. moment_of (due_in given.S.Site.engine p)) (take l.part-index l.parts)
