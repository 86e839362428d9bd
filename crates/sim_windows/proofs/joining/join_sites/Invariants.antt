use Rattle.std.proofs.Common.{List, Ok, length, map, take, ◌≡◌}
use Rattle.std.specs.List.{range_with_len}
use Rattle.sim_exchange.specs.Layout.{owner_of}
use Rattle.sim_engine.specs.Parts.{part_of}
use Rattle.sim_engine.specs.Setting.{IsNumbered}
use Rattle.sim_windows.proofs.Joined.{lists_left}
use Rattle.sim_windows.proofs.joining.join_sites.Given as goal

-- the sites so far are the first of the world, and the lists have those that are left
abbrev pub invariant-loop-number : goal.invariant-loop-number
invariant-loop-number given l = record {
  count : length l.lists.items ≡ l.layout.parts;
  joined : (w : List _) → IsNumbered given.S.Site.engine 0 w → l.fn.parts.items ≡ map (λ p. Ok (part_of given.S.Site.engine (owner_of l.layout) p w)) (range_with_len 0 l.layout.parts) → l.sites.items ≡ (take l.number w);
  left : (w : List _) → IsNumbered given.S.Site.engine 0 w → l.fn.parts.items ≡ map (λ p. Ok (part_of given.S.Site.engine (owner_of l.layout) p w)) (range_with_len 0 l.layout.parts) → map (λ x. x.items) l.lists.items ≡ lists_left given.S.Site.engine (owner_of l.layout) l.layout.parts l.number w;
}
