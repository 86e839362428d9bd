use Rattle.std.proofs.Common.{List, ap, arith, subst, sym, ℕ}
use Rattle.std.specs.Prelude.{All}
use Rattle.sqs_model.specs.Queue.{Queue}
use Rattle.sqs_messages.specs.Marked.{IsDue}
use Rattle.sqs_messages.specs.Orders.{AreInOrder}
use Rattle.sqs_messages.specs.Slots.{Shelved}
use Rattle.sqs_messages.proofs.Skipped.{skipped}
use Rattle.sqs_messages.proofs.table.MessageTable.skip.Goals as goal

pub invariant_of-self : goal.invariant_of-self
invariant_of-self c =
    let inside = c.self.inside in
    record {
      settings_in_range = c.self.invariant.settings_in_range;
      arrivals_in_range = omega (arith, c.skip.ensures.next, c.requires, ap (λ (q : Queue). q.arrivals) c.self.view_is);
      dues = subst (All (IsDue inside.site inside.settings.retention)) (sym c.skip.ensures.items) c.self.invariant.dues;
      order_of = c.self.invariant.order_of;
      ordered = subst (λ (items : List Shelved). AreInOrder items c.skip.new.self.next inside.order) (sym c.skip.ensures.items)
          (subst (λ (n : ℕ). AreInOrder inside.shelf.items n inside.order) (sym c.skip.ensures.next) (skipped inside.shelf.items inside.shelf.next inside.order c.self.invariant.ordered));
    }
