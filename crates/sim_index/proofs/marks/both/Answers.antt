use Rattle.std.proofs.Common.{rules}
use Rattle.std.proofs.lemmas.Nat.{or_comm}
use Rattle.sim_index.proofs.marks.both.Goals as goal

pub returns-then-is_others-clause-second : goal.returns-then-is_others-clause-second
returns-then-is_others-clause-second c = rw (or_comm c.args.this.now.flags c.args.other.now.flags) (search rules)

pub returns-else-is_others-clause-second : goal.returns-else-is_others-clause-second
returns-else-is_others-clause-second c = rw (or_comm c.args.this.now.flags c.args.other.now.flags) (search rules)

pub returns-then-other-this-2-clause-second : goal.returns-then-other-this-2-clause-second
returns-then-other-this-2-clause-second c = rw (or_comm c.args.this.now.flags c.args.other.now.flags) (search rules)

pub returns-else-other-this-2-clause-second : goal.returns-else-other-this-2-clause-second
returns-else-other-this-2-clause-second c = rw (or_comm c.args.this.now.flags c.args.other.now.flags) (search rules)
