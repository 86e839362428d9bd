use Rattle.std.proofs.Common.{◌≡◌, ap, ◌∙◌}
use Rattle.sim_clock.specs.Firsts.{without}
use Rattle.sqs_model.specs.Queue.{Queue, has_number, numbered, taken_out}
use Rattle.sqs_messages.proofs.Calls.{dues_kept}
use Rattle.sqs_messages.proofs.Grouped.{find_told}
use Rattle.sqs_messages.proofs.Kept.{still_kept}
use Rattle.sqs_messages.proofs.Led.{all_without, told_without}
use Rattle.sqs_messages.proofs.Settled.{told_kept}
use Rattle.sqs_messages.specs.Heads.{told}
use Rattle.sqs_messages.specs.Marked.{IsDue}
use Rattle.sqs_messages.specs.Slots.{is_numbered}
use Rattle.sqs_messages.specs.Tables.{queue_of}
use Rattle.sqs_messages.proofs.table.MessageTable.remove.Goals as goal

pub invariant_of-self : goal.invariant_of-self
invariant_of-self c =
    let inside = c.self.inside in
    still_kept _ _ _ _ _ _ _ _ c.self.invariant c.remove.ensures.next
    (dues_kept inside.site inside.settings.retention (without (is_numbered c.args.number) inside.shelf.items) c.remove.new.shelf.items c.remove.ensures.rest
    (all_without (IsDue inside.site inside.settings.retention) (is_numbered c.args.number) inside.shelf.items c.self.invariant.dues))
    (c.remove.ensures.kind inside.settings.kind c.self.invariant.order_of) c.remove.ensures.ordered

pub returns-clause-found : goal.returns-clause-found
returns-clause-found c = c.remove.ensures.found ∙ find_told c.args.number c.self.inside.shelf.items ∙ ap (λ (q : Queue). numbered c.args.number q.records) c.self.view_is

pub returns-clause-rest : goal.returns-clause-rest
returns-clause-rest c =
    let inside = c.self.inside in
    let records : told c.remove.new.shelf.items ≡ without (has_number c.args.number) (told inside.shelf.items) =
    told_kept (without (is_numbered c.args.number) inside.shelf.items) c.remove.new.shelf.items c.remove.ensures.rest ∙ told_without c.args.number inside.shelf.items in
    (λ j. let q : Queue = record (queue_of inside) { records = records j; arrivals = c.remove.ensures.next j } in q)
    ∙ ap (λ (q : Queue). taken_out q c.args.number) c.self.view_is
