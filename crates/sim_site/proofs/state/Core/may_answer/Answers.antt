use Rattle.std.proofs.Common.{◌≡◌, false, ap, sym, ◌∙◌}
use Rattle.sqs_model.specs.Polls.{can_give}
use Rattle.sqs_model.specs.Site.{Core}
use Rattle.sim_site.proofs.Polling.{polls_stop}
use Rattle.sim_site.proofs.state.Core.may_answer.Goals as goal

pub returns-then-not-is_empty : goal.returns-then-not-is_empty
returns-then-not-is_empty c =
    λ none key.
    let stops : can_give c.args.self.now.queue ≡ false = ap (λ (x : Core). can_give x.queue) (sym c.self.view_is) ∙ sym c.can_give.ensures ∙ none in
    polls_stop key c.args.self.now c.args.self.now.polls stops
