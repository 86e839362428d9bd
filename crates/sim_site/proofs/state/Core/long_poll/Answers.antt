use Rattle.std.proofs.Common.{◌≡◌, ◌∙◌, ap, refl, subst, sym}
use Rattle.std.specs.Prelude.{OnErr, Some, false}
use Rattle.std.specs.Result.{result_map_both}
use Rattle.sqs_message.specs.declared.row.RowAnswer.TheVariants as answers
use Rattle.sqs_model.specs.Acts.{long_poll, receive_made, receive_row}
use Rattle.sqs_model.specs.Available.{all_hosts}
use Rattle.sqs_model.specs.Limits.{PassesCount}
use Rattle.sqs_model.specs.Receive.{receive}
use Rattle.sqs_model.specs.Site.{Core, actor_numbered, with_queue}
use Rattle.sqs_model.specs.declared.acts.Answer.TheVariants as told_by
use Rattle.sim_site.specs.Effects.{DidMake, HasMade}
use Rattle.sim_site.specs.contracts.state.Core.{the_view}
use Rattle.sim_site.proofs.Limiting.{receive_passes}
use Rattle.sim_site.proofs.Passing.{stops_up}
use Rattle.sim_site.proofs.Receiving.{long_is, long_refused}
use Rattle.sim_site.proofs.state.Core.long_poll.Goals as goal

pub returns-in-Ok : goal.returns-in-Ok
returns-in-Ok c a e =
    let key = c.args.handling.now.key in
    let all = ap (λ (x : Core). all_hosts x.queue.settings.kind) c.self.view_is ∙ c.requires.hosts.all ∙ sym c.all_hosts_of-set.ensures in
    let received = c.in_ok-gots.ensures.received ∙ ap (λ r. (result_map_both (λ b. b.items) (λ x. x) r, c.received_by.new.queue)) c.in-Ok.is in
    let is = long_is key a (the_view c.self.inside) c.args.max c.args.timeout c.args.wait c.all_hosts_of-set.result c.received_by.new.queue c.in-Ok.gots.items all received c.in_ok-gots.ensures.framed.site in
    subst
    (λ (x : Core). actor_numbered c.args.handling.now.agent x ≡ Some a → HasMade c.receive_some.result c.args.handling.now c.receive_some.new.handling c.receive_some.new.self (long_poll key a x c.args.max c.args.wait c.args.timeout))
    c.self.view_is
    (λ f. subst (HasMade c.receive_some.result c.args.handling.now c.receive_some.new.handling c.receive_some.new.self) is (c.receive_some.ensures a e f))

pub returns-in_ok-say-in-Err : goal.returns-in_ok-say-in-Err
returns-in_ok-say-in-Err c a e =
    let key = c.args.handling.now.key in
    let all = ap (λ (x : Core). all_hosts x.queue.settings.kind) c.self.view_is ∙ c.requires.hosts.all ∙ sym c.all_hosts_of-set.ensures in
    let received = c.in_ok-gots.ensures.received ∙ ap (λ r. (result_map_both (λ b. b.items) (λ x. x) r, c.received_by.new.queue)) c.in-Err.is in
    let same = subst (λ r. OnErr r (c.received_by.new.queue ≡ c.self.inside.queue)) c.in-Err.is c.in_ok-gots.ensures.unchanged in
    λ f. (
      record { key = refl; agent = refl; effects = refl },
      subst
          (λ (x : Core). DidMake c.args.handling.now.effects.now c.say.new.self (with_queue (the_view c.self.inside) c.received_by.new.queue) told_by.Other (long_poll key a x c.args.max c.args.wait c.args.timeout))
          c.self.view_is
          (long_refused key a (the_view c.self.inside) c.args.max c.args.timeout c.args.handling.now.effects.now c.say.new.self c.args.wait c.all_hosts_of-set.result c.received_by.new.queue c.in-Err.refusal c.receive_row-row.result
          all received same c.in_ok-say-in-Err.ensures.rows c.in_ok-say-in-Err.ensures.sent (c.receive_row-row.ensures (the_view c.self.inside) (sym c.site-site.ensures) ∙ ap (λ n. receive_row key (the_view c.self.inside) n (answers.Refused c.in-Err.refusal)) (sym e))),
    )

pub returns-in_err-gots : goal.returns-in_err-gots
returns-in_err-gots c a e f =
    let key = c.args.handling.now.key in
    let core : Core = the_view c.self.inside in
    let all = ap (λ (x : Core). all_hosts x.queue.settings.kind) c.self.view_is ∙ c.requires.hosts.all ∙ sym c.all_hosts_of-set.ensures in
    stops_up _ _ (PassesCount (long_poll key a c.args.self.now c.args.max c.args.wait c.args.timeout).effect) c.from_residual.result c.in_err-gots.field-0.0 c.from_residual.ensures.1
    (λ h. subst (λ (x : Core). PassesCount (long_poll key a x c.args.max c.args.wait c.args.timeout).effect) c.self.view_is
    (subst (λ s. PassesCount (receive_made key a core core c.args.max c.args.wait c.args.timeout (receive core.queue key.at c.args.max c.args.timeout s false)).effect) (sym all)
    (receive_passes key a core core c.args.max c.args.wait c.args.timeout c.all_hosts_of-set.result false h))) c.in_err-gots.ensures.stops
