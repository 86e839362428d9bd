use Rattle.std.proofs.Common.{◌≡◌, None, ap, arith, sym, ◌∙◌}
use Rattle.std.specs.Prelude.{find}
use Rattle.sim_clock.specs.Firsts.{changed}
use Rattle.sqs_model.proofs.Counts.{changed_none}
use Rattle.sqs_model.specs.Queue.{Queue, has_number, with_change}
use Rattle.sqs_messages.proofs.Calls.{dues_kept, found_counted, put_dues}
use Rattle.sqs_messages.proofs.Grouped.{find_told}
use Rattle.sqs_messages.proofs.Kept.{restamped_told, still_kept}
use Rattle.sqs_messages.specs.Heads.{told}
use Rattle.sqs_messages.specs.Marked.{restamped}
use Rattle.sqs_messages.specs.Slots.{is_numbered, restated}
use Rattle.sqs_messages.specs.Tables.{queue_of}
use Rattle.sqs_messages.proofs.table.MessageTable.put.Goals as goal

pub returns-in_default : goal.returns-in_default
returns-in_default c =
    let inside = c.self.inside in
    let gone : find (has_number c.args.number) (told inside.shelf.items) ≡ None = sym (find_told c.args.number inside.shelf.items) ∙ sym c.in_default.ensures in
    sym c.self.view_is
    ∙ (λ j. let q : Queue = record (queue_of inside) { records = sym (changed_none (has_number c.args.number) (restated c.args.state) (told inside.shelf.items) gone) j } in q)
    ∙ ap (λ (q : Queue). with_change q c.args.number (restated c.args.state)) c.self.view_is

pub due_of-due-requires : goal.due_of-due-requires
due_of-due-requires c =
    let inside = c.self.inside in
    omega (arith, (found_counted inside.site inside.settings.retention c.args.number inside.shelf.items c.in-Some.message.now c.in-Some.ensures c.self.invariant.dues).enqueued, c.self.invariant.settings_in_range.retention.1)

pub invariant_of-self : goal.invariant_of-self
invariant_of-self c =
    let inside = c.self.inside in
    still_kept _ _ _ _ _ _ _ _ c.self.invariant c.put.ensures.next
    (dues_kept inside.site inside.settings.retention (changed (is_numbered c.args.number) (restamped c.args.state c.due_of-due.result) inside.shelf.items) c.put.new.shelf.items c.put.ensures.changed
    (put_dues inside.site inside.settings.retention c.args.number inside.shelf.items c.in-Some.message.now c.args.state c.due_of-due.result c.in-Some.ensures c.due_of-due.ensures c.requires.receives c.requires.received c.self.invariant.dues))
    (c.put.ensures.kind inside.settings.kind c.self.invariant.order_of) c.put.ensures.ordered

pub returns : goal.returns
returns c =
    let inside = c.self.inside in
    let records : told c.put.new.shelf.items ≡ changed (has_number c.args.number) (restated c.args.state) (told inside.shelf.items) =
    restamped_told c.args.number c.args.state c.due_of-due.result inside.shelf.items c.put.new.shelf.items c.put.ensures.changed in
    (λ j. let q : Queue = record (queue_of inside) { records = records j; arrivals = c.put.ensures.next j } in q)
    ∙ ap (λ (q : Queue). with_change q c.args.number (restated c.args.state)) c.self.view_is
