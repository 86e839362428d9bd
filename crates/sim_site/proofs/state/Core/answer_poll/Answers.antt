use Rattle.std.proofs.Common.{Ok, ◌∙◌, ap, false, refl, subst, sym}
use Rattle.std.specs.Result.{result_map_both}
use Rattle.sqs_model.proofs.Kept.{given_recent}
use Rattle.sqs_model.specs.Acts.{given}
use Rattle.sqs_model.specs.Limits.{PassesCount}
use Rattle.sqs_model.specs.Polls.{poll_answered, poll_given}
use Rattle.sqs_model.specs.Progress.{IsRecent}
use Rattle.sqs_model.specs.Queue.{Queue}
use Rattle.sqs_model.specs.Site.{Core, Poll}
use Rattle.sim_site.specs.Effects.{Did, GoesOn}
use Rattle.sim_site.specs.declared.handling.Handling.{Handling}
use Rattle.sim_site.specs.contracts.agents.Poll.{the_view as the_poll}
use Rattle.sim_site.specs.contracts.state.Core.{the_view}
use Rattle.sim_site.proofs.Answering.{poll_passes}
use Rattle.sim_site.proofs.Passing.{stops_up}
use Rattle.sim_site.proofs.Polling.{giving_limited, poll_does, telling_limited}
use Rattle.sim_site.proofs.Recent.{goes_recent, received_recent}
use Rattle.sim_site.proofs.state.Core.answer_poll.Goals as goal

pub returns : goal.returns
returns c =
    let handling = c.args.handling.now in
    let acting : Handling = record handling { agent = c.poll.inside.actor } in
    let core : Core = the_view c.self.inside in
    let p : Poll = the_poll c.poll.inside in
    let went = c.in_ok-give.ensures in
    let received = c.in_ok-gots.ensures.received ∙ ap (λ r. (result_map_both (λ b. b.items) (λ x. x) r, c.received_by.new.queue)) c.in-Ok.is in
    let done : GoesOn acting c.told.new.handling × Did handling.effects.now c.told.new.handling.effects.now c.told.new.self (poll_answered handling.key p core (poll_given handling.key p core.queue)) =
    poll_does acting p core c.all_hosts_of-set.result c.received_by.new.queue c.drop_first.new.self c.in-Ok.gots.items c.as_slice.result.now refl
    (c.host_count.ensures.all ∙ sym c.all_hosts_of-set.ensures) received c.in_ok-gots.ensures.framed.site c.drop_first.ensures c.as_slice.ensures.value
    (Ok (tt {0})) c.give.new.handling c.told.new.handling c.give.new.self c.told.new.self c.new.result c.new.ensures (record { key = went.0.key; agent = went.0.agent; effects = went.0.effects }, went.1) c.in_ok-told.ensures in (
      record { key = done.0.key; agent = refl; effects = done.0.effects },
      subst (λ (y : Poll). Did handling.effects.now c.told.new.handling.effects.now c.told.new.self (poll_answered handling.key y c.args.self.now (poll_given handling.key y c.args.self.now.queue))) c.poll.view_is
          (subst (λ (x : Core). Did handling.effects.now c.told.new.handling.effects.now c.told.new.self (poll_answered handling.key p x (poll_given handling.key p x.queue))) c.self.view_is done.1),
    )

pub told-requires : goal.told-requires
told-requires c =
    let handling = c.args.handling.now in
    let acting : Handling = record handling { agent = c.poll.inside.actor } in
    let q : Queue = c.received_by.new.queue in
    let went = c.in_ok-give.ensures in
    let before : IsRecent handling.key.at c.self.inside.queue = subst (λ (x : Core). IsRecent handling.key.at x.queue) (sym c.self.view_is) c.requires.recent in
    let after : IsRecent handling.key.at q = received_recent c.self.inside.queue q handling.key.at c.poll.inside.max c.poll.inside.timeout c.all_hosts_of-set.result false _ c.in_ok-gots.ensures.received before in
    let mid : Core = record (the_view c.self.inside) { queue = q; polls = c.drop_first.new.self } in
    goes_recent acting c.give.new.handling c.give.new.self (given handling.key mid c.poll.inside.actor c.poll.inside.timeout (q, c.as_slice.result.now)) (record { key = went.0.key; agent = went.0.agent; effects = went.0.effects }, went.1)
    (given_recent handling.key mid c.poll.inside.actor c.poll.inside.timeout (q, c.as_slice.result.now) after after)

pub returns-in_err-gots : goal.returns-in_err-gots
returns-in_err-gots c =
    let handling = c.args.handling.now in
    let core : Core = the_view c.self.inside in
    let p : Poll = the_poll c.poll.inside in
    stops_up _ _ (PassesCount (poll_answered handling.key c.args.poll c.args.self.now (poll_given handling.key c.args.poll c.args.self.now.queue))) c.from_residual.result c.in_err-gots.field-0.0 c.from_residual.ensures.1
    (λ h. subst (λ (y : Poll). PassesCount (poll_answered handling.key y c.args.self.now (poll_given handling.key y c.args.self.now.queue))) c.poll.view_is
    (subst (λ (x : Core). PassesCount (poll_answered handling.key p x (poll_given handling.key p x.queue))) c.self.view_is
    (poll_passes handling.key p core c.all_hosts_of-set.result (c.host_count.ensures.all ∙ sym c.all_hosts_of-set.ensures) h))) c.in_err-gots.ensures.stops

pub returns-in_err-give : goal.returns-in_err-give
returns-in_err-give c =
    let handling = c.args.handling.now in
    let acting : Handling = record handling { agent = c.poll.inside.actor } in
    let core : Core = the_view c.self.inside in
    let p : Poll = the_poll c.poll.inside in
    let received = c.in_ok-gots.ensures.received ∙ ap (λ r. (result_map_both (λ b. b.items) (λ x. x) r, c.received_by.new.queue)) c.in-Ok.is in
    stops_up _ _ (PassesCount (poll_answered handling.key c.args.poll c.args.self.now (poll_given handling.key c.args.poll c.args.self.now.queue))) c.from_residual-in_err-give.result c.in_err-give.field-0.0 c.from_residual-in_err-give.ensures.1
    (λ h. subst (λ (y : Poll). PassesCount (poll_answered handling.key y c.args.self.now (poll_given handling.key y c.args.self.now.queue))) c.poll.view_is
    (subst (λ (x : Core). PassesCount (poll_answered handling.key p x (poll_given handling.key p x.queue))) c.self.view_is
    (giving_limited acting p core c.all_hosts_of-set.result c.received_by.new.queue c.drop_first.new.self c.in-Ok.gots.items c.as_slice.result.now refl
    (c.host_count.ensures.all ∙ sym c.all_hosts_of-set.ensures) received c.in_ok-gots.ensures.framed.site c.drop_first.ensures c.as_slice.ensures.value h))) c.in_err-give.ensures

pub returns-in_err-told : goal.returns-in_err-told
returns-in_err-told c =
    let handling = c.args.handling.now in
    let acting : Handling = record handling { agent = c.poll.inside.actor } in
    let core : Core = the_view c.self.inside in
    let p : Poll = the_poll c.poll.inside in
    let went = c.in_ok-give.ensures in
    let received = c.in_ok-gots.ensures.received ∙ ap (λ r. (result_map_both (λ b. b.items) (λ x. x) r, c.received_by.new.queue)) c.in-Ok.is in
    stops_up _ _ (PassesCount (poll_answered handling.key c.args.poll c.args.self.now (poll_given handling.key c.args.poll c.args.self.now.queue))) c.from_residual-in_err-told.result c.in_err-told.field-0.0 c.from_residual-in_err-told.ensures.1
    (λ h. subst (λ (y : Poll). PassesCount (poll_answered handling.key y c.args.self.now (poll_given handling.key y c.args.self.now.queue))) c.poll.view_is
    (subst (λ (x : Core). PassesCount (poll_answered handling.key p x (poll_given handling.key p x.queue))) c.self.view_is
    (telling_limited acting p core c.all_hosts_of-set.result c.received_by.new.queue c.drop_first.new.self c.in-Ok.gots.items c.as_slice.result.now refl
    (c.host_count.ensures.all ∙ sym c.all_hosts_of-set.ensures) received c.in_ok-gots.ensures.framed.site c.drop_first.ensures c.as_slice.ensures.value
    c.give.new.handling c.give.new.self c.new.result c.new.ensures (record { key = went.0.key; agent = went.0.agent; effects = went.0.effects }, went.1) h))) c.in_err-told.ensures
