use Rattle.std.proofs.Common.{◌≡◌, List, ap, set, sym, ◌∙◌}
use Rattle.std.proofs.lemmas.List.{set-get_or}
use Rattle.sim_clock.specs.Firsts.{changed}
use Rattle.sim_index.specs.declared.mark.Mark.{Mark}
use Rattle.sim_index.specs.Marked.{Marked}
use Rattle.sim_index.specs.Marks.{no_mark, node}
use Rattle.sqs_messages.specs.declared.slot.Slot.{Slot}
use Rattle.sqs_messages.specs.Counted.{counts_of}
use Rattle.sqs_messages.specs.Heads.{told}
use Rattle.sqs_messages.specs.Slots.{Holding, is_numbered, shelved, with_hosts}
use Rattle.sqs_messages.proofs.Counting.{told_marked}
use Rattle.sqs_messages.proofs.Firsts.{none_changed}
use Rattle.sqs_messages.proofs.Shelves.{marked_items, marked_shelf, none_numbered}
use Rattle.sqs_messages.proofs.shelf.Shelf.mark.Goals as goal

pub returns-in_default-clause-items : goal.returns-in_default-clause-items
returns-in_default-clause-items c =
    let list = c.self.inside.slots in
    let same = none_changed (is_numbered c.args.number) (with_hosts c.args.hosts) (shelved list.values list.marks) (none_numbered c.self.invariant.places c.in_default.ensures c.values.ensures.values) in
    ap (λ (h : Holding). h.items) (sym c.self.view_is) ∙ sym same ∙ ap (λ (h : Holding). changed (is_numbered c.args.number) (with_hosts c.args.hosts) h.items) c.self.view_is

pub returns-then-mark-hosts-clause-items : goal.returns-then-mark-hosts-clause-items
returns-then-mark-hosts-clause-items c =
    let list = c.self.inside.slots in
    let place = c.in-Some.place in
    let same : list ≡ record list { marks = set list.marks place (node list.marks place) } = ap (λ (ms : List Mark). let l : Marked Slot = record list { marks = ms } in l) (sym (set-get_or list.marks place no_mark)) in
    let hosts : (node list.marks place).flags ≡ c.args.hosts = ap (λ (m : Mark). m.flags) (sym c.mark_at-mark.ensures) ∙ c.if-mark-hosts.true in
    ap (λ (h : Holding). h.items) (sym c.self.view_is)
    ∙ marked_items (node list.marks place) c.self.invariant.places c.in-Some.ensures c.values.ensures.values same c.args.hosts (λ j. let m : Mark = record { due = (node list.marks place).due; flags = hosts j } in m)
    ∙ ap (λ (h : Holding). changed (is_numbered c.args.number) (with_hosts c.args.hosts) h.items) c.self.view_is

pub invariant_of-self : goal.invariant_of-self
invariant_of-self c =
    let list = c.self.inside.slots in
    let mark : Mark = record { due = c.mark_at-mark.result.due; flags = c.args.hosts } in
    let due = ap (λ (m : Mark). let n : Mark = record { due = m.due; flags = c.args.hosts } in n) c.mark_at-mark.ensures in
    let items = marked_items mark c.self.invariant.places c.in-Some.ensures c.values.ensures.values c.set_mark.ensures c.args.hosts due in
    record {
      places = marked_shelf mark c.self.invariant.places c.in-Some.ensures c.values.ensures.values c.set_mark.ensures;
      in_range = c.self.invariant.in_range;
      counted = c.self.invariant.counted ∙ ap counts_of (sym (ap told items ∙ told_marked (is_numbered c.args.number) c.args.hosts (shelved list.values list.marks)));
    }

pub returns-clause-items : goal.returns-clause-items
returns-clause-items c =
    let mark : Mark = record { due = c.mark_at-mark.result.due; flags = c.args.hosts } in
    let due = ap (λ (m : Mark). let n : Mark = record { due = m.due; flags = c.args.hosts } in n) c.mark_at-mark.ensures in
    marked_items mark c.self.invariant.places c.in-Some.ensures c.values.ensures.values c.set_mark.ensures c.args.hosts due
    ∙ ap (λ (h : Holding). changed (is_numbered c.args.number) (with_hosts c.args.hosts) h.items) c.self.view_is
