-- A walk over the numbers of a group.
use Rattle.std.proofs.Common.{◌≡◌, ℕ, ◌+◌, ◌<◌, ◌≤◌, true, false, List, [], ◌∷◌, ◌++◌, Some, None, map, take, drop, length, get_or, arith, ap, sym, subst, ◌∙◌, append_assoc, append-nil}
use Rattle.std.specs.List.{cons_option}
use Rattle.std.proofs.lemmas.List.{drop_all, drop_more, length-append, take_all, take_at}
use Rattle.sqs_message.specs.declared.message.Message.{Message}
use Rattle.sqs_model.specs.Queue.{is_delayed}
use Rattle.sqs_messages.specs.Heads.{kept_until, until_delayed}
use Rattle.sqs_messages.specs.Slots.{Shelved, held, message_of}

-- what was chosen so far, and what the rest of a group adds
pub record IsWalk (items : List Shelved) (most : ℕ) (whole : List ℕ) (numbers : List ℕ) (i : ℕ) (chosen : List ℕ) : Type 0 where
  pub so_far : take most (chosen ++ map (λ m. m.number) (until_delayed (held items (drop i numbers)))) ≡ whole
  pub short : length chosen ≤ most

rest : (items : List Shelved) (numbers : List ℕ) (i n : ℕ) → i < length numbers → n ≡ get_or numbers i 0 → held items (drop i numbers) ≡ cons_option (message_of items n) (held items (drop (i + 1) numbers))
rest items numbers i n l e = ap (held items) (drop_more numbers i 0 l) ∙ ap (λ k. cons_option (message_of items k) (held items (drop (i + 1) numbers))) (sym e)

done : (most : ℕ) (chosen whole : List ℕ) (ms : List Message) → length chosen ≤ most → ms ≡ [] → take most (chosen ++ map (λ m. m.number) ms) ≡ whole → chosen ≡ whole
done most chosen whole ms l e h =
    sym (take_all most chosen l) ∙ ap (take most) (sym (append-nil chosen)) ∙ sym (ap (λ (ys : List Message). take most (chosen ++ map (λ m. m.number) ys)) e) ∙ h

pub walk_more : (items : List Shelved) (most : ℕ) (whole numbers : List ℕ) (i n : ℕ) (chosen after : List ℕ) (m : Message) → IsWalk items most whole numbers i chosen → i < length numbers → n ≡ get_or numbers i 0 → Some m ≡ message_of items n → is_delayed m ≡ false
    → length chosen < most → after ≡ chosen ++ m.number ∷ [] → IsWalk items most whole numbers (i + 1) after
walk_more items most whole numbers i n chosen after m h l at e d few is =
    let next : List Message = until_delayed (held items (drop (i + 1) numbers)) in
    let one : until_delayed (held items (drop i numbers)) ≡ m ∷ next =
    ap until_delayed (rest items numbers i n l at ∙ ap (λ o. cons_option o (held items (drop (i + 1) numbers))) (sym e)) ∙ ap (λ b. kept_until b m next) d in
    record {
      so_far =
          ap (λ (c : List ℕ). take most (c ++ map (λ x. x.number) next)) is
          ∙ ap (take most) (append_assoc chosen (m.number ∷ []) (map (λ x. x.number) next))
          ∙ sym (ap (λ (ms : List Message). take most (chosen ++ map (λ x. x.number) ms)) one)
          ∙ h.so_far;
      short = subst (λ (c : List ℕ). length c ≤ most) (sym is) (omega (arith, few, length-append chosen (m.number ∷ [])));
    }
