-- The least of what is due, by marks.
use Rattle.std.proofs.Common.{◌≡◌, ℕ, List, [], ◌∷◌, flat_map, map, refl, sym, ◌∙◌}
use Rattle.std.specs.Prelude.{All}
use Rattle.std.proofs.lemmas.List.Elements.{All-head, All-tail}
use Rattle.sim_clock.specs.Order.{least, lesser}
use Rattle.sim_index.specs.Marks.{least_of}
use Rattle.sim_index.proofs.Kept.{least_append}
use Rattle.sqs_model.specs.Dues.{message_dues}
use Rattle.sqs_messages.specs.Heads.{told}
use Rattle.sqs_messages.specs.Slots.{Shelved}
use Rattle.sqs_messages.specs.Marked.{IsDue}

pub least_marked : (site retention : ℕ) (items : List Shelved) → All (IsDue site retention) items → least_of (map (λ s. s.mark) items) ≡ least (flat_map (message_dues site retention) (told items))
least_marked site retention [] h = refl
least_marked site retention (s ∷ items) h =
    (λ j. lesser ((All-head (IsDue site retention) s items h).due j) (least_marked site retention items (All-tail (IsDue site retention) s items h) j))
    ∙ sym (least_append (message_dues site retention s.message) (flat_map (message_dues site retention) (told items)))
