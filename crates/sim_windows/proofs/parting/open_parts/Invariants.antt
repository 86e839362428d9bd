use Rattle.std.proofs.Common.{All, Ok, map, ◌++◌, ◌≡◌}
use Rattle.sim_partition.specs.Sites.{IsPart}
use Rattle.sim_windows.proofs.parting.open_parts.Given as goal

-- the partitions so far are those of the lists so far
abbrev pub invariant-loop-sites : goal.invariant-loop-sites
invariant-loop-sites given l = record {
  rest : l.yielded ++ l.sites-iterator.rest.items ≡ l.fn.lists.items;
  fit : All (λ x. IsPart given.S.Site.engine given.S.Site.conditions x.items) l.sites-iterator.rest.items;
  made : l.parts.items ≡ map (λ x. Ok x.items) l.yielded;
}
