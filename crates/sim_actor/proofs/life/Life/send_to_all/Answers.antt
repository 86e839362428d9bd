use Rattle.std.proofs.Common.{ap, arith, length, refl, subst, sym, ◌++◌, ◌+◌, ◌∙◌}
use Rattle.sqs_model.specs.Actor.{forwards}
use Rattle.sim_actor.specs.Lives.{HasRoom, lived}
use Rattle.sim_actor.proofs.Forwarding.{IsSending, sends_next, sent_all}
use Rattle.sim_actor.proofs.life.Life.send_to_all.Goals as goal

pub loop-to-init : goal.loop-to-init
loop-to-init c =
    let room = subst (λ n. HasRoom n c.args.forwarding.now.latency c.args.self.now) (ap length (sym c.as_slice-queues.ensures)) c.requires.room in
    record {
      told = λ s at_home. ap (λ xs. xs ++ forwards (lived s c.args.self.now) c.args.now c.args.got.now c.args.forwarding.now.latency c.as_slice-queues.result.now) c.in_ok-sent.ensures.items;
      rest = λ s at_home. refl;
      room = (omega (arith, room.0), λ h. omega (arith, room.1 h));
      number = refl;
    }

pub returns-in_err-load-clause-framed : goal.returns-in_err-load-clause-framed
returns-in_err-load-clause-framed c = c.loop-to.invariant.number

pub send_to-requires-clause-room : goal.send_to-requires-clause-room
send_to-requires-clause-room c = (omega (arith, c.loop-to.invariant.room.0, c.loop-to-test.true), λ h. omega (arith, c.loop-to.invariant.room.1 h, c.loop-to-test.true))

pub returns-in_err-push-clause-framed : goal.returns-in_err-push-clause-framed
returns-in_err-push-clause-framed c = c.send_to.ensures.framed ∙ c.loop-to.invariant.number

pub loop-to-preserved : goal.loop-to-preserved
loop-to-preserved c =
    let old = c.loop-to in
    let load = c.in_ok-load.ensures in
    let one = rw load at c.send_to.ensures.sent in
    let next = sends_next c.args.home c.args.now c.args.got.now c.args.forwarding.now.latency c.as_slice-queues.result.now old.to-index _ old.sent.items c.send_to.result c.args.self.now old.self c.send_to.new.self c.loop-to-test.true refl one c.send_to.ensures.framed old.invariant in
    subst (λ sent. IsSending c.args.home c.args.now c.args.got.now c.args.forwarding.now.latency c.as_slice-queues.result.now (old.to-index + 1) sent c.args.self.now c.send_to.new.self) (sym c.in_ok-push.ensures.items) next

pub returns-clause-sent : goal.returns-clause-sent
returns-clause-sent c = sent_all _ _ _ _ _ c.loop-to.to-index _ _ _ c.as_slice-queues.ensures (omega (arith, c.loop-to-test.false)) c.loop-to.invariant

pub returns-clause-framed : goal.returns-clause-framed
returns-clause-framed c = c.loop-to.invariant.number
