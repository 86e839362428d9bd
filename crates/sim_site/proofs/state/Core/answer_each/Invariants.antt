use Rattle.std.proofs.Common.{drop}
use Rattle.sqs_model.specs.Polls.{answer_polls}
use Rattle.sqs_model.specs.Progress.{IsRecent}
use Rattle.sim_site.specs.Effects.{GoesOn, Remains}
use Rattle.sim_site.proofs.Grown.{BeginWith}
use Rattle.sim_site.proofs.state.Core.answer_each.Given as goal

-- the others have yet to be answered and wait before any that came since, and no entry is from later than now
abbrev pub invariant-loop : goal.invariant-loop
invariant-loop l = record {
  on : GoesOn l.initial.handling l.handling;
  remains : Remains l.initial.handling.effects.now l.handling.effects.now (answer_polls l.initial.handling.key (drop l.counter l.initial.self.polls) l.self) (answer_polls l.initial.handling.key l.initial.self.polls l.initial.self);
  recent : IsRecent l.handling.key.at l.self.queue;
  waits : BeginWith (drop l.counter l.initial.self.polls) l.self.polls;
}
