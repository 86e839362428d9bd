use Rattle.std.proofs.Common.{◌≡◌, ◌++◌, map, take}
use Rattle.sim_engine.proofs.mapped.map_each.Given as goal

abbrev pub invariant-loop-row : goal.invariant-loop-row
invariant-loop-row g l =
    record {
      made : l.made.items ≡ l.fn.made.items ++ map (g.M.RowMapper.mapping.made l.fn.mapper) (take l.row-index l.rows);
      same : l.mapper ≡ l.fn.mapper;
    }
