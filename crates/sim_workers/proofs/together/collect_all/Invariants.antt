use Rattle.std.proofs.Common.{◌≡◌, ◌≤◌, ◌<◌, ℕ, ◌+◌, length, vec_capacity}
use Rattle.std.specs.Vec.Iter.{into_iter_len, into_iter_items}
use Rattle.sim_handoff.specs.Place.{IsFree, place_record}
use Rattle.sim_handoff.specs.Seats.{table_of, owner_table, owner_record, IsIdleHand}
use Rattle.sim_workers.specs.Owners.{AreResting, AreCollected}
use Rattle.sim_workers.proofs.together.collect_all.Given as goal

abbrev pub invariant-loop-home : goal.invariant-loop-home
invariant-loop-home g l = record {
  can : (goal.iterator-loop-home g).can_next l.home-iterator;
  ends : (goal.iterator-loop-home g).is_finite l.home-iterator;
  here : owner_table l.owner ≡ table_of l.handoff;
  idle : IsIdleHand (table_of l.handoff) l.hand;
  count : length l.came.items ≡ length l.yielded;
  rest : length l.yielded + into_iter_len l.home-iterator ≡ length l.fn.homes.items;
  room : length l.fn.homes.items ≤ vec_capacity l.came;
  same : (place : ℕ) → length l.yielded ≤ place
      → place_record (owner_record l.owner) place ≡ place_record (owner_record l.fn.owner) place;
  resting : AreResting (owner_record l.owner) (length l.yielded) (into_iter_items l.home-iterator);
  free : (place : ℕ) → place < length l.yielded → IsFree (owner_record l.owner) place;
  collected : AreCollected g.S.Site.engine g.S.Site.conditions g.W.Packs.packed (owner_record l.fn.owner) 0 l.yielded l.came.items;
}
