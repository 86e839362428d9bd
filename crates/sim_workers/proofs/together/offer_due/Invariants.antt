use Rattle.std.proofs.Common.{◌≡◌, ◌≤◌, ℕ, ◌+◌, length, vec_capacity}
use Rattle.std.specs.Vec.Iter.{into_iter_len}
use Rattle.sim_handoff.specs.Place.{IsFree}
use Rattle.sim_handoff.specs.Seats.{table_of, owner_table, owner_record}
use Rattle.sim_workers.specs.Owners.{AreSentOut}
use Rattle.sim_workers.proofs.together.offer_due.Given as goal

abbrev pub invariant-loop-part : goal.invariant-loop-part
invariant-loop-part g l = record {
  can : (goal.iterator-loop-part g).can_next l.part-iterator;
  ends : (goal.iterator-loop-part g).is_finite l.part-iterator;
  here : owner_table l.owner ≡ table_of l.handoff;
  count : length l.homes.items ≡ length l.yielded;
  rest : length l.yielded + into_iter_len l.part-iterator ≡ length l.fn.parts.items;
  room : length l.fn.parts.items ≤ vec_capacity l.homes;
  sent : AreSentOut g.S.Site.engine g.S.Site.conditions g.W.Packs.packed (owner_record l.owner) 0 l.bounds l.yielded l.homes.items;
  after : (place : ℕ) → length l.yielded ≤ place → IsFree (owner_record l.owner) place;
}
