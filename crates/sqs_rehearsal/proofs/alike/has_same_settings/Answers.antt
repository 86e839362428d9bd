use Rattle.std.proofs.Common.{sym, ◌∙◌}
use Rattle.sqs_rehearsal.proofs.Settings.{settings_decide}
use Rattle.sqs_rehearsal.proofs.alike.has_same_settings.Goals as goal

pub returns : goal.returns
returns c =
    let same = settings_decide c.settings_at.result c.settings_at-2.result in
    rw (← c.settings_at.ensures, ← c.settings_at-2.ensures) (λ h. same.0 (sym c.eq.ensures ∙ h), λ h. c.eq.ensures ∙ same.1 h)
