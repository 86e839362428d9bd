use Rattle.std.proofs.Common.{false, true, ◌≡◌}
use Rattle.sqs_rehearsal.proofs.running.open_machine.Goals as goal

pub returns-in_err-check_window-clause-memory : goal.returns-in_err-check_window-clause-memory
returns-in_err-check_window-clause-memory c = λ short. absurd (let k : false ≡ true = c.in_err-check_window.ensures.short short in cc)
