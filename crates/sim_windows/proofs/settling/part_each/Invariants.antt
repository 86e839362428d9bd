use Rattle.std.proofs.Common.{filter, not, ◌≡◌}
use Rattle.sim_engine.specs.Prefixes.{is_before}
use Rattle.sim_windows.proofs.settling.part_each.Given as goal

-- those so far
abbrev pub invariant-loop-row : goal.invariant-loop-row
invariant-loop-row given l = record {
  before : l.before.items ≡ filter (is_before given.S.Site.engine l.moment) l.yielded;
  others : l.others.items ≡ filter (λ r. not (is_before given.S.Site.engine l.moment r)) l.yielded;
}
