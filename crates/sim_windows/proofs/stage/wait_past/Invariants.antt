use Rattle.std.proofs.Common.{flat_map, not, take, true, ◌≡◌}
use Rattle.std.specs.List.{list_all}
use Rattle.std.specs.Prelude.{nat_le}
use Rattle.sim_engine.specs.World.{arrival}
use Rattle.sim_windows.proofs.stage.wait_past.Given as goal

-- those so far do
abbrev pub invariant-loop-list : goal.invariant-loop-list
invariant-loop-list g l = list_all (λ o. not (nat_le (arrival g.S.Site.engine o) l.horizon)) (flat_map (λ v. v.items) (take l.list-index l.list-items)) ≡ true
