use Rattle.std.proofs.Common.{length, ◌++◌}
use Rattle.sim_engine.specs.Merge.{merged_all, row_cmp}
use Rattle.sim_workers.proofs.Handing.{IsCounted, IsHanding}
use Rattle.sim_workers.proofs.handing_on.hand_merged.Given as goal

-- the sink took the rows that came before those at hand
abbrev pub invariant-loop-row : goal.invariant-loop-row
invariant-loop-row g l = record {
  ready : g.K.RowSink.ready l.sink;
  handing : IsHanding g.K.RowSink.took (merged_all (row_cmp g.S.Site.engine) l.fn.lists.items) l.initial.sink l.sink (l.rows.items ++ l.merged);
  counted : IsCounted (merged_all (row_cmp g.S.Site.engine) l.fn.lists.items) l.handed (l.rows.items ++ l.merged);
}

abbrev pub decreases-loop-row : goal.decreases-loop-row
decreases-loop-row g l = length l.merged
