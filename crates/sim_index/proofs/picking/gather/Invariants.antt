use Rattle.std.proofs.Common.{◌≡◌, ◌-◌, ◌≤◌, drop, length, take}
use Rattle.std.specs.List.{items_where_true}
use Rattle.sim_index.proofs.picking.gather.Given as goal

abbrev pub invariant-loop-place : goal.invariant-loop-place
invariant-loop-place g l =
    record {
      within : l.place ≤ length l.told;
      before : l.kept ≤ l.place;
      long : length l.values ≡ length l.told;
      kept : take l.kept l.values ≡ items_where_true (take l.place l.told) l.fn.values;
      rest : drop l.place l.values ≡ drop l.place l.fn.values;
    }

abbrev pub decreases-loop-place : goal.decreases-loop-place
decreases-loop-place g l = length l.told - l.place
