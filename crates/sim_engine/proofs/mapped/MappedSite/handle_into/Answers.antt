use Rattle.std.proofs.lemmas.Result.{err_from_is_err_and}
use Rattle.sim_engine.proofs.Mapping.{stops_mapped}
use Rattle.sim_engine.proofs.mapped.MappedSite.handle_into.Goals as goal

pub returns-in_err-handle_into-clause-stops : goal.returns-in_err-handle_into-clause-stops
returns-in_err-handle_into-clause-stops g c =
    let inner = c.self.inside in
    let told = err_from_is_err_and c.from_residual.result c.from_residual.ensures.1 in
    rw (told.1, told.2, ← c.self.view_is)
    (stops_mapped g.S.Site.engine g.M.RowMapper.mapping inner.mapper g.met.M.RowMapper.keeps (g.S.Site.engine.handled c.args.key inner.site) c.in_err-handle_into.field-0.0 c.in_err-handle_into.ensures.stops)
