use Rattle.std.proofs.Common.{length, map, ◌++◌, ◌≡◌}
use Rattle.sim_exchange.specs.Layout.{owner_of}
use Rattle.sim_engine.specs.Setting.{IsNumbered}
use Rattle.sim_windows.proofs.Joined.{lists_so_far}
use Rattle.sim_windows.proofs.parting.split_sites.Given as goal

-- the sites so far are in the lists of their partitions
abbrev pub invariant-loop-site : goal.invariant-loop-site
invariant-loop-site given l = record {
  number : l.number ≡ length l.yielded;
  rest : l.yielded ++ l.site-iterator.rest.items ≡ l.fn.sites.items;
  count : length l.lists.items ≡ l.layout.parts;
  split : IsNumbered given.S.Site.engine 0 l.fn.sites.items → map (λ x. x.items) l.lists.items ≡ lists_so_far given.S.Site.engine (owner_of l.layout) l.layout.parts l.number l.fn.sites.items;
}
