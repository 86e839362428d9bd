use Rattle.sim_logs.proofs.columns.has_its_columns.Goals as goal

pub returns : goal.returns
returns c = rw (c.by-columns.ensures, c.of.ensures) at c.are_these.ensures
