use Rattle.std.proofs.Common.{List, Ok, map, reverse, ◌++◌, ◌≡◌}
use Rattle.sim_windows.proofs.joining.turned_sites.Given as goal

-- the lists so far are those of the partitions so far
abbrev pub invariant-loop-part : goal.invariant-loop-part
invariant-loop-part given l = record {
  rest : l.yielded ++ l.part-iterator.rest.items ≡ l.fn.parts.items;
  turned : (ws : List (List _)) → l.yielded ≡ map (λ w. Ok w) ws → map (λ x. x.items) l.lists.items ≡ map (λ w. reverse w) ws;
}
