use Rattle.std.proofs.Common.{◌≡◌, ◌<◌, ap, filter, rules, sym, subst, ◌∙◌}
use Rattle.std.specs.Prelude.{All, is_some}
use Rattle.std.proofs.lemmas.Fn.{filter_same}
use Rattle.sqs_messages.proofs.Gone.{all_filter, held_there}
use Rattle.sqs_messages.specs.Slots.{held, message_of}
use Rattle.sqs_messages.proofs.groups.room.room_in.Goals as goal

pub returns-clause-held : goal.returns-clause-held
returns-clause-held c =
    let left : c.retain.new.self.items ≡ filter (λ n. is_some (message_of c.args.shelf.now.items n)) c.args.numbers.now.items = filter_same _ _ _ (λ x b f' k. search rules) _ _ c.retain.ensures.filtered in
    ap (held c.args.shelf.now.items) (c.reserve.ensures.items ∙ left) ∙ held_there c.args.shelf.now.items c.args.numbers.now.items

pub returns-clause-below : goal.returns-clause-below
returns-clause-below c n h =
    let left : c.retain.new.self.items ≡ filter (λ n. is_some (message_of c.args.shelf.now.items n)) c.args.numbers.now.items = filter_same _ _ _ (λ x b f' k. search rules) _ _ c.retain.ensures.filtered in
    subst (All (λ k. k < n)) (sym (c.reserve.ensures.items ∙ left)) (all_filter (λ k. k < n) (λ k. is_some (message_of c.args.shelf.now.items k)) c.args.numbers.now.items h)
