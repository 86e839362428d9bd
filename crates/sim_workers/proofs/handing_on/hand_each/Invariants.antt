use Rattle.std.proofs.Common.{drop, flat_map}
use Rattle.sim_workers.proofs.Handing.{IsCounted, IsHanding}
use Rattle.sim_workers.proofs.handing_on.hand_each.Given as goal

-- the sink took the rows of the lists so far
abbrev pub invariant-loop-rows : goal.invariant-loop-rows
invariant-loop-rows g l = record {
  ready : g.K.RowSink.ready l.sink;
  handing : IsHanding g.K.RowSink.took (flat_map (λ v. v.items) l.lists) l.initial.sink l.sink (flat_map (λ v. v.items) (drop l.rows-index l.lists));
  counted : IsCounted (flat_map (λ v. v.items) l.lists) l.handed (flat_map (λ v. v.items) (drop l.rows-index l.lists));
}
