use Rattle.std.proofs.Common.{Ok, subst, sym, true}
use Rattle.sim_actor.specs.Lives.{act_following}
use Rattle.sim_actor.specs.declared.replies.FollowUp.{FollowUp}
use Rattle.sqs_message.specs.Ids.{read_receipt}
use Rattle.sqs_model.specs.Acts.{act_made}
use Rattle.sqs_model.specs.declared.acts.Act.TheVariants as acts
use Rattle.sim_site.specs.Turns.{Takes, answer_if, turn_by}
use Rattle.sim_site.proofs.Passing.{stops_up}
use Rattle.sim_site.proofs.Told.{change_done_is, delete_done_is}
use Rattle.sim_site.proofs.state.Core.follow_up.Goals as goal

pub returns-in_err-delete-in-Delete : goal.returns-in_err-delete-in-Delete
unfolding act_made
returns-in_err-delete-in-Delete c a e f =
    let key = c.args.handling.now.key in
    let core = c.args.self.now in
    let ends = Takes answer_if c.from_residual.result c.args.handling.now c.delete.new.handling c.delete.new.self in
    subst (λ (x : FollowUp). ends (turn_by (act_following x) (act_made key a core (act_following x)))) (sym c.in-Delete.is)
    (subst (λ text. ends (turn_by (acts.Delete text) (act_made key a core (acts.Delete text)))) c.from.ensures
    (stops_up _ _ _ c.from_residual.result c.in_err-delete-in-Delete.field-0.0 c.from_residual.ensures.1 (λ h. h) (c.in_err-delete-in-Delete.ensures a e)))

pub returns-in_err-change-in-Change : goal.returns-in_err-change-in-Change
unfolding act_made
returns-in_err-change-in-Change c a e f =
    let key = c.args.handling.now.key in
    let core = c.args.self.now in
    let ends = Takes answer_if c.from_residual-in_err-change-in-Change.result c.args.handling.now c.change.new.handling c.change.new.self in
    subst (λ (x : FollowUp). ends (turn_by (act_following x) (act_made key a core (act_following x)))) (sym c.in-Change.is)
    (subst (λ text. ends (turn_by (acts.Change text c.in-Change.timeout) (act_made key a core (acts.Change text c.in-Change.timeout)))) c.from-in-Change.ensures
    (stops_up _ _ _ c.from_residual-in_err-change-in-Change.result c.in_err-change-in-Change.field-0.0 c.from_residual-in_err-change-in-Change.ensures.1 (λ h. h) (c.in_err-change-in-Change.ensures a e)))

pub returns-in_ok-delete-in-Delete : goal.returns-in_ok-delete-in-Delete
unfolding act_made
returns-in_ok-delete-in-Delete c a e f =
    let key = c.args.handling.now.key in
    let core = c.args.self.now in
    let text = c.from.result in
    let did = c.in_ok-delete-in-Delete.ensures a e in
    let ends = Takes answer_if (Ok true) c.args.handling.now c.delete.new.handling c.delete.new.self in
    subst (λ (x : FollowUp). ends (turn_by (act_following x) (act_made key a core (act_following x)))) (sym c.in-Delete.is)
    (subst (λ t. ends (turn_by (acts.Delete t) (act_made key a core (acts.Delete t)))) c.from.ensures
    (did.0, record { effect = did.1; answer = delete_done_is key a core text (read_receipt text) }))

pub returns-in_ok-change-in-Change : goal.returns-in_ok-change-in-Change
unfolding act_made
returns-in_ok-change-in-Change c a e f =
    let key = c.args.handling.now.key in
    let core = c.args.self.now in
    let text = c.from-in-Change.result in
    let timeout = c.in-Change.timeout in
    let did = c.in_ok-change-in-Change.ensures a e in
    let ends = Takes answer_if (Ok true) c.args.handling.now c.change.new.handling c.change.new.self in
    subst (λ (x : FollowUp). ends (turn_by (act_following x) (act_made key a core (act_following x)))) (sym c.in-Change.is)
    (subst (λ t. ends (turn_by (acts.Change t timeout) (act_made key a core (acts.Change t timeout)))) c.from-in-Change.ensures
    (did.0, record { effect = did.1; answer = change_done_is key a core text timeout (read_receipt text) }))
