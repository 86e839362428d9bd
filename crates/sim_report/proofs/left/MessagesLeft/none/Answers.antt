use Rattle.std.proofs.Common.{◌∙◌}
use Rattle.sim_report.proofs.Groups.{lefts-none}
use Rattle.sim_report.proofs.left.MessagesLeft.none.Goals as goal

pub returns : goal.returns
returns c = c.in_ok-from_elem.ensures.items_if_clones_equal (λ y e. e) ∙ lefts-none c.args.queues.now
