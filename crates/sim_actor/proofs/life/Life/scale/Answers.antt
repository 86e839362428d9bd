use Rattle.std.proofs.Common.{refl}
use Rattle.std.proofs.lemmas.Bool.{eq-eqb, ne_eqb}
use Rattle.sim_actor.proofs.life.Life.scale.Goals as goal

pub returns-then-to-copies-clause-decision : goal.returns-then-to-copies-clause-decision
returns-then-to-copies-clause-decision c s = rw (eq-eqb c.args.to c.args.copies c.if-to-copies.true, ← c.has_decided.ensures.decided s) refl

pub returns-clause-decision : goal.returns-clause-decision
returns-clause-decision c s = rw (ne_eqb c.args.to c.args.copies c.if-to-copies.false, ← c.has_decided-2.ensures.decided s) refl
