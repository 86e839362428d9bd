use Rattle.std.proofs.Common.{List, Ok, drop, length, map, ◌≡◌}
use Rattle.sim_windows.specs.Meeting.{AreReached, delivered_each}
use Rattle.sim_windows.proofs.meeting.deliver_each.Given as goal

-- those so far have got theirs, and the others may get theirs
abbrev pub invariant-loop-transfers : goal.invariant-loop-transfers
invariant-loop-transfers given l = record {
  place : l.place ≡ length l.yielded;
  reached : AreReached given.S.Site.engine given.S.Site.conditions (drop l.place l.parts.items) (map (λ v. v.items) l.transfers-iterator.rest.items);
  delivered : (ws : List (List _)) → l.initial.parts.items ≡ map (λ w. Ok w) ws → l.parts.items ≡ map (λ w. Ok w) (delivered_each given.S.Site.engine (map (λ v. v.items) l.yielded) ws);
}
