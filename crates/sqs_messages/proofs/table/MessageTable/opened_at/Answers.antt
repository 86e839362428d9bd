use Rattle.std.proofs.Common.{ap, subst, sym, ◌≤◌}
use Rattle.std.specs.Prelude.{All}
use Rattle.std.proofs.lemmas.List.Elements.{All-nil}
use Rattle.sqs_model.specs.Answers.{most_count}
use Rattle.sqs_messages.specs.Marked.{IsDue}
use Rattle.sqs_messages.specs.Slots.{Holding}
use Rattle.sqs_messages.proofs.table.MessageTable.opened_at.Goals as goal

pub invariant_of-result : goal.invariant_of-result
invariant_of-result c =
    record {
      settings_in_range = c.requires.settings;
      arrivals_in_range = subst (λ (h : Holding). h.next ≤ most_count) (sym c.opened_at.ensures) c.requires.arrivals;
      dues = subst (λ (h : Holding). All (IsDue c.args.site c.args.settings.retention) h.items) (sym c.opened_at.ensures) (All-nil (IsDue c.args.site c.args.settings.retention));
      order_of = c.opened.ensures.kind;
      ordered = c.opened.ensures.empty c.opened_at.result.items c.opened_at.result.next (ap (λ (h : Holding). h.items) c.opened_at.ensures);
    }
