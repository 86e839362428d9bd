use Rattle.std.proofs.Common.{Global, Vec, [], ap, append-nil, arith, map, refl, sym, true, ◌*◌, ◌==◌, ◌≡◌, ◌∙◌}
use Rattle.std.proofs.lemmas.Bool.Decides.{nat_tests}
use Rattle.sqs_redrive.specs.declared.settings.QueueSettings.{QueueSettings}
use Rattle.sqs_model.specs.Receive.{timeout_of}
use Rattle.sqs_redrive.specs.declared.transfers.Outbound.{Outbound}
use Rattle.sqs_model.specs.Acts.{all_came_back, got_row}
use Rattle.sqs_model.specs.Site.{Core, Effect}
use Rattle.sim_site.specs.Effects.{Did}
use Rattle.sim_site.proofs.Going.{does_then}
use Rattle.sim_site.proofs.state.Core.give.Goals as goal
use Rattle.sim_site.proofs.state.Core.give.Goals.{in-None, in-Some}

pub returns-then-at_once : goal.returns-then-at_once
returns-then-at_once c =
    let core : Core = c.args.self.now in
    let zero : (timeout_of core.queue c.args.timeout == 0) ≡ true =
    elim c.match-timeout.branch as (λ _. (timeout_of core.queue c.args.timeout == 0) ≡ true) [
      | in-None w ↦
          ap (λ o. timeout_of core.queue o == 0) w.in-None.is ∙ ap (λ (x : Core). x.queue.settings.visibility == 0) (sym c.self.view_is)
          ∙ ap (λ (s : QueueSettings). s.visibility == 0) (sym w.settings.ensures) ∙ sym w.at_once-is ∙ c.if-at_once.true
      | in-Some w ↦
          let none : (w.in-Some.seconds == 0) ≡ true = sym w.at_once-is ∙ c.if-at_once.true in
          let zero : (1000 * w.in-Some.seconds == 0) ≡ true = grind (arith, nat_tests) in
          ap (λ o. timeout_of core.queue o == 0) w.in-Some.is ∙ zero
    ] in
    let handling = c.args.handling.now in
    let rows : Effect = record { core = core; rows = map (got_row handling.key core handling.agent) c.args.gots.now; sent = [] } in
    let did : Did handling.effects.now c.say_gots.new.handling.effects.now core rows =
    record { core = refl; rows = c.in_ok-say_gots.ensures.rows; sent = ap (λ (v : Vec Outbound Global). v.items) c.in_ok-say_gots.ensures.sent ∙ sym (append-nil handling.effects.now.sent.items) } in
    rw zero
    (does_then c.all_come_back.result handling c.say_gots.new.handling c.all_come_back.new.handling core c.all_come_back.new.self rows (λ k n x. all_came_back k c.args.gots.now x)
    (c.in_ok-say_gots.ensures.on, did) c.all_come_back.ensures)
