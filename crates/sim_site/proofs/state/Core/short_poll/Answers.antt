use Rattle.std.proofs.Common.{◌≡◌, ◌∙◌, ◌-◌, ap, arith, refl, subst, sym}
use Rattle.std.specs.Prelude.{Some, true, ℕ, ◌<◌}
use Rattle.std.specs.Result.{result_map_both}
use Rattle.sqs_message.specs.declared.row.RowAnswer.TheVariants as answers
use Rattle.sqs_model.specs.Acts.{hosts_from, receive_made, receive_row, short_poll}
use Rattle.sqs_model.specs.Answers.{most_count}
use Rattle.sqs_model.specs.Draw.{Draws, drawn_uniform, next_word, uniform}
use Rattle.sqs_model.specs.Limits.{PassesCount}
use Rattle.sqs_model.specs.Receive.{receive}
use Rattle.sqs_model.specs.Site.{Core, actor_numbered}
use Rattle.sqs_model.specs.declared.acts.Answer.TheVariants as told_by
use Rattle.sim_site.specs.Effects.{DidMake, HasMade}
use Rattle.sim_site.specs.contracts.state.Core.{the_view}
use Rattle.sim_site.proofs.Limiting.{receive_passes, words_pass}
use Rattle.sim_site.proofs.Passing.{stops_up}
use Rattle.sim_site.proofs.Receiving.{short_is, short_refused}
use Rattle.sim_site.proofs.state.Core.short_poll.Goals as goal

pub returns-in-Some : goal.returns-in-Some
returns-in-Some c a e f =
    let key = c.args.handling.now.key in (
      record { key = refl; agent = refl; effects = refl },
      subst
          (λ (x : Core). DidMake c.args.handling.now.effects.now c.say.new.self x told_by.Other (short_poll key a x c.args.max c.args.timeout c.args.hosts c.args.sampled (drawn_uniform 0 (c.args.hosts - 1) x.draws)))
          c.self.view_is
          (short_refused key a (the_view c.self.inside) c.args.max c.args.timeout c.args.handling.now.effects.now c.say.new.self c.args.hosts c.args.sampled (drawn_uniform 0 (c.args.hosts - 1) c.self.inside.draws).0 (drawn_uniform 0 (c.args.hosts - 1) c.self.inside.draws).1 c.in-Some.refusal c.receive_row-row.result
          (c.in-Some.ensures.refused key.at c.args.max (hosts_from c.args.hosts c.args.sampled (drawn_uniform 0 (c.args.hosts - 1) c.self.inside.draws).0)) c.in_ok-say.ensures.rows c.in_ok-say.ensures.sent (c.receive_row-row.ensures (the_view c.self.inside) (sym c.site-site.ensures) ∙ ap (λ n. receive_row key (the_view c.self.inside) n (answers.Refused c.in-Some.refusal)) (sym e))),
    )

pub returns : goal.returns
returns c a e =
    let key = c.args.handling.now.key in
    let set = c.hosts_from-set.ensures ∙ ap (hosts_from c.args.hosts c.args.sampled) c.uniform-start.ensures.number in
    let received = c.in_ok-gots.ensures.received ∙ ap (λ r. (result_map_both (λ b. b.items) (λ x. x) r, c.received_by.new.queue)) c.in-Ok.is in
    -- what the rest of the poll makes is what the poll makes
    let made =
    short_is key a (the_view c.self.inside) c.args.max c.args.timeout c.args.hosts c.args.sampled c.hosts_from-set.result (uniform 0 (c.args.hosts - 1) (next_word c.self.inside.draws)) c.received_by.new.queue c.uniform-start.new.self c.in-Ok.gots.items set received c.in_ok-gots.ensures.framed.site
    ∙ ap (λ d. short_poll key a (the_view c.self.inside) c.args.max c.args.timeout c.args.hosts c.args.sampled (uniform 0 (c.args.hosts - 1) (next_word c.self.inside.draws), d)) c.uniform-start.ensures.after in
    subst
    (λ (x : Core). actor_numbered c.args.handling.now.agent x ≡ Some a → HasMade c.receive_some.result c.args.handling.now c.receive_some.new.handling c.receive_some.new.self (short_poll key a x c.args.max c.args.timeout c.args.hosts c.args.sampled (drawn_uniform 0 (c.args.hosts - 1) x.draws)))
    c.self.view_is
    (λ f. subst (HasMade c.receive_some.result c.args.handling.now c.receive_some.new.handling c.receive_some.new.self) made (c.receive_some.ensures a e f))

pub returns-then-taken-ge-MOST_COUNT : goal.returns-then-taken-ge-MOST_COUNT
returns-then-taken-ge-MOST_COUNT c a e =
    let key = c.args.handling.now.key in
    let core : Core = the_view c.self.inside in
    let drawn : ℕ × Draws = drawn_uniform 0 (c.args.hosts - 1) core.draws in
    let past : most_count < drawn.1.taken = omega (arith, c.taken.ensures, c.if-taken-ge-MOST_COUNT.true) in
    subst (λ (x : Core). actor_numbered c.args.handling.now.agent x ≡ Some a → PassesCount (short_poll key a x c.args.max c.args.timeout c.args.hosts c.args.sampled (drawn_uniform 0 (c.args.hosts - 1) x.draws)).effect) c.self.view_is
    (λ f. words_pass key core c.args.handling.now.agent c.args.max c.args.timeout c.args.hosts c.args.sampled drawn.0 drawn.1 a e f (c.short_refusal.ensures.allowed c.in_default.is key.at c.args.max (hosts_from c.args.hosts c.args.sampled drawn.0)) past)

pub returns-in_err-gots : goal.returns-in_err-gots
returns-in_err-gots c a e f =
    let key = c.args.handling.now.key in
    let core : Core = the_view c.self.inside in
    let drawn : ℕ × Draws = drawn_uniform 0 (c.args.hosts - 1) core.draws in
    let set = c.hosts_from-set.ensures ∙ ap (hosts_from c.args.hosts c.args.sampled) c.uniform-start.ensures.number in
    stops_up _ _ (PassesCount (short_poll key a c.args.self.now c.args.max c.args.timeout c.args.hosts c.args.sampled (drawn_uniform 0 (c.args.hosts - 1) c.args.self.now.draws)).effect) c.from_residual-in_err-gots.result c.in_err-gots.field-0.0 c.from_residual-in_err-gots.ensures.1
    (λ h. subst (λ (x : Core). PassesCount (short_poll key a x c.args.max c.args.timeout c.args.hosts c.args.sampled (drawn_uniform 0 (c.args.hosts - 1) x.draws)).effect) c.self.view_is
    (subst (λ s. PassesCount (receive_made key a core (record core { draws = drawn.1 }) c.args.max 0 c.args.timeout (receive core.queue key.at c.args.max c.args.timeout s true)).effect) set
    (receive_passes key a core (record core { draws = drawn.1 }) c.args.max 0 c.args.timeout c.hosts_from-set.result true h))) c.in_err-gots.ensures.stops
