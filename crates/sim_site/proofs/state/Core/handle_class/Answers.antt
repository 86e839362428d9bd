use Rattle.sim_site.proofs.Due.{due_sample}
use Rattle.sim_site.proofs.state.Core.handle_class.Goals as goal

pub handle_sample-requires-clause-sampled : goal.handle_sample-requires-clause-sampled
handle_sample-requires-clause-sampled c = (due_sample c.args.self.now c.args.handling.now.key c.in-Sample.is c.requires.due).sampled

pub handle_sample-requires-clause-due : goal.handle_sample-requires-clause-due
handle_sample-requires-clause-due c = (due_sample c.args.self.now c.args.handling.now.key c.in-Sample.is c.requires.due).at
