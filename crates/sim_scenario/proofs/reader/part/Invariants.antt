use Rattle.std.proofs.Common.{◌≡◌, ◌++◌, map}
use Rattle.sim_scenario.proofs.reader.part.Given as goal

-- the parts so far, with those of the rest, are those of all
abbrev pub invariant-loop-item : goal.invariant-loop-item
invariant-loop-item g l = record {
  settings : map (λ x. x.1) l.fn.items.items ≡ l.settings.items ++ map (λ x. x.1) l.item-iterator.rest.items;
  names : l.initial.names.items ++ map (λ x. x.0) l.fn.items.items ≡ l.names.items ++ map (λ x. x.0) l.item-iterator.rest.items;
}
