use Rattle.std.proofs.Common.{sym, ◌∙◌}
use Rattle.sqs_rehearsal.proofs.Settings.{tasks_decide}
use Rattle.sqs_rehearsal.proofs.alike.has_same_tasks.Goals as goal

pub returns : goal.returns
returns c =
    let same = tasks_decide c.in_ok-tasks.tasks.items c.in_ok-others.others.items in
    rw (← c.in_ok-tasks.ensures, ← c.in_ok-others.ensures) (λ h. same.0 (sym c.eq.ensures ∙ h), λ h. c.eq.ensures ∙ same.1 h)
