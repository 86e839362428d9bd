use Rattle.sim_actor.proofs.Forwarding.{IsSending}
use Rattle.sim_actor.proofs.life.Life.send_to_all.Given as goal

abbrev pub invariant-loop-to : goal.invariant-loop-to
invariant-loop-to l = IsSending l.home l.now l.got l.forwarding.latency l.queues l.to-index l.sent.items l.fn.self l.self
