use Rattle.std.proofs.Common.{length, ◌++◌, ◌≡◌}
use Rattle.sim_engine.specs.Merge.{merged_all, row_cmp}
use Rattle.sim_exchange.proofs.rows.merge_rows.Given as goal

-- the rows so far, and those that are left
abbrev pub invariant-loop-row : goal.invariant-loop-row
invariant-loop-row g l = merged_all (row_cmp g.S.Site.engine) l.fn.lists.items ≡ l.rows.items ++ l.merged

abbrev pub decreases-loop-row : goal.decreases-loop-row
decreases-loop-row g l = length l.merged
