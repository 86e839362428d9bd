use Rattle.std.proofs.Common.{drop, flat_map}
use Rattle.sqs_model.specs.Finals.{messages_at}
use Rattle.sqs_rehearsal.proofs.Messages.{IsWriting}
use Rattle.sqs_rehearsal.proofs.ending.write_queues.Given as goal

-- the messages of the sites so far are written and counted
abbrev pub invariant-loop-site : goal.invariant-loop-site
invariant-loop-site g l =
    IsWriting l.names (flat_map messages_at l.sites) (g.W.Out.state l.initial.out) l.initial.left
    (flat_map messages_at (drop l.site-index l.sites)) (g.W.Out.state l.out) l.left
