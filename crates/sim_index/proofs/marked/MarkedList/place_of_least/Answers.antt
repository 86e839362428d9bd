use Rattle.std.proofs.Common.{None, length, subst, ◌≡◌}
use Rattle.std.specs.Prelude.{MatchOption}
use Rattle.sim_index.specs.Marked.{Marked}
use Rattle.sim_index.specs.Marks.{IsPlaceOfLeast, least_of}
use Rattle.sim_index.proofs.Leaves.{place_of_taken}
use Rattle.sim_index.proofs.marked.MarkedList.place_of_least.Goals as goal

pub returns-clause-first : goal.returns-clause-first
returns-clause-first g c =
    subst (λ (m : Marked _). MatchOption c.place_of_least.result (least_of m.marks ≡ None) (IsPlaceOfLeast m.marks)) c.self.view_is
    (place_of_taken (length c.self.inside.values.items) c.self.inside.tree c.self.invariant c.place_of_least.result c.place_of_least.ensures)
