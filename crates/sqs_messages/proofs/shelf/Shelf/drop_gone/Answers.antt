use Rattle.std.proofs.Common.{ap, rules, sym, ◌∙◌}
use Rattle.sqs_messages.specs.Counted.{counts_of}
use Rattle.sqs_messages.specs.Heads.{told}
use Rattle.sqs_messages.specs.Slots.{Holding}
use Rattle.sqs_messages.proofs.Pushed.{kept}
use Rattle.sqs_messages.proofs.shelf.Shelf.drop_gone.Goals as goal

pub invariant_of-self : goal.invariant_of-self
invariant_of-self c =
    let after = kept _ (λ s b k. search rules) c.retain.result c.self.inside.slots c.retain.new.self c.self.inside.next c.self.invariant.places c.retain.ensures.picked c.retain.ensures.unchanged in
    record {
      in_range = c.self.invariant.in_range;
      places = after.0;
      counted = c.self.invariant.counted ∙ ap (λ items. counts_of (told items)) (sym after.1);
    }

pub returns-clause-items : goal.returns-clause-items
returns-clause-items c =
    let after = kept _ (λ s b k. search rules) c.retain.result c.self.inside.slots c.retain.new.self c.self.inside.next c.self.invariant.places c.retain.ensures.picked c.retain.ensures.unchanged in
    after.1 ∙ ap (λ (h : Holding). h.items) c.self.view_is
