use Rattle.std.proofs.Common.{subst, sym}
use Rattle.std.specs.Prelude.{All}
use Rattle.sqs_messages.proofs.Led.{all_without}
use Rattle.sqs_messages.specs.Marked.{IsHosted}
use Rattle.sqs_messages.specs.Orders.{AreInOrder, AreOnHosts}
use Rattle.sqs_messages.specs.Slots.{is_numbered}
use Rattle.sqs_messages.proofs.order.Order.remove.Goals as goal

pub returns-in-Hosts-clause-ordered : goal.returns-in-Hosts-clause-ordered
returns-in-Hosts-clause-ordered c =
    let before : AreOnHosts c.in-Hosts.field-0 c.args.shelf.now.items = subst (AreInOrder c.args.shelf.now.items c.args.shelf.now.next) c.in-Hosts.is c.requires in
    let after : AreOnHosts c.in-Hosts.field-0 c.remove.new.self.items =
    record {
      some = before.some;
      few = before.few;
      hosted = subst (All (IsHosted c.in-Hosts.field-0)) (sym c.remove.ensures.items) (all_without (IsHosted c.in-Hosts.field-0) (is_numbered c.args.number) c.args.shelf.now.items before.hosted);
    } in
    subst (AreInOrder c.remove.new.self.items c.remove.new.self.next) (sym c.in-Hosts.is) after
