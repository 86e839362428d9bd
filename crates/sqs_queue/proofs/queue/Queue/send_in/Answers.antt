use Rattle.std.proofs.Common.{refl, subst, sym}
use Rattle.sqs_model.specs.Progress.{IsRecent}
use Rattle.sqs_model.specs.Queue.{Entry, Queue}
use Rattle.sqs_model.proofs.Kept.{none_later}
use Rattle.std.specs.Prelude.{List}
use Rattle.sqs_queue.proofs.queue.Queue.send_in.Goals as goal

pub returns-clause-recent : goal.returns-clause-recent
returns-clause-recent c =
    let before = subst (IsRecent c.args.now) (sym c.self.view_is) c.requires.recent in
    let q : Queue = c.args.self.now in
    subst (λ (es : List Entry). IsRecent c.args.now (record q { entries = es })) (sym c.in_ok-push_once.ensures.entered) (none_later c.args.now c.self.inside.entries _ refl before)
