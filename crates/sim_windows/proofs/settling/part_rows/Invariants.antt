use Rattle.std.proofs.Common.{filter, flat_map, not, ◌≡◌}
use Rattle.sim_engine.specs.Prefixes.{is_before}
use Rattle.sim_windows.proofs.settling.part_rows.Given as goal

-- those so far
abbrev pub invariant-loop-list : goal.invariant-loop-list
invariant-loop-list given l = record {
  before : l.before ≡ filter (is_before given.S.Site.engine l.moment) (flat_map (λ v. v.items) l.yielded);
  others : l.others ≡ filter (λ r. not (is_before given.S.Site.engine l.moment r)) (flat_map (λ v. v.items) l.yielded);
}
