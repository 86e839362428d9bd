use Rattle.std.proofs.Common.{filter, map, not, ◌≡◌}
use Rattle.sim_engine.specs.Prefixes.{is_before}
use Rattle.sim_windows.proofs.settling.settle.Given as goal

-- those so far
abbrev pub invariant-loop-rows : goal.invariant-loop-rows
invariant-loop-rows given l = record {
  prefixes : l.prefixes.items ≡ map (filter (is_before given.S.Site.engine l.moment)) l.yielded;
  kept : l.kept.items ≡ map (filter (λ r. not (is_before given.S.Site.engine l.moment r))) l.yielded;
}
