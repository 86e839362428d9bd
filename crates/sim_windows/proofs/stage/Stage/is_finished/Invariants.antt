use Rattle.std.proofs.Common.{not, take, true, ◌≡◌}
use Rattle.std.specs.List.{list_all}
use Rattle.std.specs.Option.{is_some}
use Rattle.sim_engine.specs.World.{due_by}
use Rattle.sim_partition.specs.Sites.{due_in}
use Rattle.sim_windows.proofs.stage.Stage.is_finished.Given as goal

-- those so far have nothing by the horizon
abbrev pub invariant-loop-part : goal.invariant-loop-part
invariant-loop-part g l = list_all (λ part. not (is_some (due_by l.horizon (due_in g.S.Site.engine part)))) (take l.part-index l.part-items) ≡ true
