use Rattle.std.proofs.Common.{drop}
use Rattle.sqs_model.specs.Acts.{all_came_back}
use Rattle.sim_site.specs.Effects.{GoesOn, Remains}
use Rattle.sim_site.proofs.state.Core.all_come_back.Given as goal

-- the others have yet to come back
abbrev pub invariant-loop-i : goal.invariant-loop-i
invariant-loop-i l = record {
  on : GoesOn l.initial.handling l.handling;
  remains : Remains l.initial.handling.effects.now l.handling.effects.now (all_came_back l.initial.handling.key (drop l.i l.gots) l.self) (all_came_back l.initial.handling.key l.gots l.initial.self);
}
