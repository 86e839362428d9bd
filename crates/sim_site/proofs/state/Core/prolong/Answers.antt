use Rattle.std.specs.Prelude.{unwrap_or, ◌/◌, ◌≡◌}
use Rattle.std.proofs.Common.{ap, subst, ◌∙◌}
use Rattle.sqs_redrive.specs.declared.settings.QueueSettings.{QueueSettings}
use Rattle.sqs_model.specs.Acts.{act_made}
use Rattle.sqs_model.specs.Site.{Core}
use Rattle.sqs_model.specs.declared.acts.Act.TheVariants as acts
use Rattle.sim_site.specs.Effects.{Does}
use Rattle.sim_site.proofs.state.Core.prolong.Goals as goal

pub returns : goal.returns
unfolding act_made
returns c a e =
    let settings : c.settings.result.now ≡ c.args.self.now.queue.settings = c.settings.ensures ∙ ap (λ (x : Core). x.queue.settings) c.self.view_is in
    let own : c.unwrap_or.result ≡ unwrap_or c.args.timeout (c.args.self.now.queue.settings.visibility / 1000) =
    c.unwrap_or.ensures ∙ ap (λ (s : QueueSettings). unwrap_or c.args.timeout (s.visibility / 1000)) settings in
    subst (λ t. Does c.change.result c.args.handling.now c.change.new.handling c.change.new.self (act_made c.args.handling.now.key a c.args.self.now (acts.Change c.args.handle t)).effect) own (c.change.ensures a e)
