use Rattle.sim_scenario.proofs.Suffixes.{stripped, stem_whole}
use Rattle.sim_scenario.proofs.names.before_suffix.Goals as goal

pub returns-clause-fifo : goal.returns-clause-fifo
returns-clause-fifo c = (stripped c.args.name.now c.strip_suffix.result c.strip_suffix.ensures.cases).0

pub returns-clause-front : goal.returns-clause-front
returns-clause-front c = (stripped c.args.name.now c.strip_suffix.result c.strip_suffix.ensures.cases).1

pub returns-clause-whole : goal.returns-clause-whole
returns-clause-whole c = stem_whole c.args.name.now
