use Rattle.sqs_model.specs.Limits.{PassesCount}
use Rattle.std.proofs.Common.{refl, sym, ◌∙◌}
use Rattle.sqs_model.specs.Acts.{receive_none}
use Rattle.sim_site.specs.contracts.state.Core.{the_view}
use Rattle.sim_site.proofs.Limiting.{polls_pass}
use Rattle.sim_site.proofs.Passing.{stops_up}
use Rattle.sim_site.proofs.Waiting.{finds_nothing, waits_on}
use Rattle.sim_site.proofs.state.Core.receive_none.Goals as goal

pub returns-then-wait-eq0 : goal.returns-then-wait-eq0
returns-then-wait-eq0 c a e f = (
  record { key = refl; agent = refl; effects = refl },
  rw (← c.self.view_is)
      (finds_nothing c.args.handling.now.key a (the_view c.self.inside) c.args.handling.now.effects.now c.say.new.self c.args.handling.now.agent c.args.max c.args.wait c.args.timeout c.receive_row-row.result e c.in_ok-say.ensures.rows c.in_ok-say.ensures.sent
      c.new-then-wait-eq0.result (c.new-then-wait-eq0.ensures ∙ c.new.ensures.items) c.if-wait-eq0.true (c.receive_row-row.ensures (the_view c.self.inside) (sym c.site-site.ensures))),
)

pub returns : goal.returns
returns c a e =
    rw (← c.self.view_is)
    (λ f. (
      record { key = refl; agent = refl; effects = refl },
      waits_on c.args.handling.now.key a (the_view c.self.inside) c.args.handling.now.effects.now c.say-2.new.self c.args.handling.now.agent c.args.max c.args.wait c.args.timeout c.receive_row-row-2.result e c.in_ok-say-2.ensures.rows c.in_ok-say-2.ensures.sent
          c.polled_at.new.self c.push.new.self _ c.in_ok-number.number f c.in_ok-number.ensures.polled c.if-wait-eq0.false c.in_ok-push.ensures.added refl (c.receive_row-row-2.ensures (the_view c.self.inside) (sym c.site-site.ensures)),
    ))

pub returns-in_err-number : goal.returns-in_err-number
returns-in_err-number c a e =
    rw (← c.self.view_is)
    (λ f. stops_up _ _ (PassesCount (receive_none c.args.handling.now.key a (the_view c.self.inside) c.args.max c.args.wait c.args.timeout).effect) c.from_residual-in_err-number.result c.in_err-number.field-0.0 c.from_residual-in_err-number.ensures.1
    (λ h. polls_pass c.args.handling.now.key (the_view c.self.inside) c.args.handling.now.agent c.args.max c.args.wait c.args.timeout a e f c.if-wait-eq0.false (h a f)) c.in_err-number.ensures.stops)
