use Rattle.sqs_model.specs.Limits.{PassesCount}
use Rattle.sqs_model.proofs.Growth.{polls_up, same}
use Rattle.sqs_model.proofs.Kept.{class_recent}
use Rattle.sqs_model.specs.Polls.{answer_polls}
use Rattle.sqs_model.specs.Site.{Core, Effect}
use Rattle.sqs_model.specs.Step.{handle_class, with_polls}
use Rattle.sim_site.proofs.Going.{does_then}
use Rattle.sim_site.proofs.Passing.{passes_before, stops_up}
use Rattle.sim_site.proofs.Recent.{goes_recent}
use Rattle.sim_site.proofs.state.Core.handle.Goals as goal

pub returns : goal.returns
returns c =
    let handling = c.args.handling.now in
    does_then c.answer_polls.result handling c.handle_class.new.handling c.answer_polls.new.handling c.handle_class.new.self c.answer_polls.new.self
    (handle_class handling.key.class handling.key c.args.self.now) (λ k n x. answer_polls k x.polls x) c.in_ok-handle_class.ensures c.answer_polls.ensures

pub answer_polls-requires : goal.answer_polls-requires
answer_polls-requires c =
    let handling = c.args.handling.now in
    goes_recent handling c.handle_class.new.handling c.handle_class.new.self (handle_class handling.key.class handling.key c.args.self.now) c.in_ok-handle_class.ensures (class_recent handling.key.class handling.key c.args.self.now c.requires.recent)

pub returns-in_err-handle_class : goal.returns-in_err-handle_class
returns-in_err-handle_class c =
    let handling = c.args.handling.now in
    let e : Effect = handle_class handling.key.class handling.key c.args.self.now in
    stops_up _ _ (PassesCount (with_polls handling.key e)) c.from_residual.result c.in_err-handle_class.field-0.0 c.from_residual.ensures.1
    (passes_before e (λ (x : Core). answer_polls handling.key x.polls x) (polls_up e.core handling.key e.core.polls e.core (same e.core))) c.in_err-handle_class.ensures
