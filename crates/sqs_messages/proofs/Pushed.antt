-- A shelf with one more place, and one without its empty places.
use Rattle.std.proofs.Common.{◌≡◌, ℕ, zero, suc, ◌+◌, ◌<◌, Bool, true, false, List, [], ◌∷◌, ◌++◌, Option, Some, None, arith, refl, ap, subst, sym, ◌∙◌}
use Rattle.std.specs.Prelude.{Err, Ok, OnErr, OnOk, Result, is_some}
use Rattle.std.specs.List.{AllZip, cons_option, items_where_true}
use Rattle.std.specs.Option.{option_map}
use Rattle.std.proofs.lemmas.List.Elements.{All-filter, All-push, All-weaker}
use Rattle.sim_index.specs.declared.mark.Mark.{Mark}
use Rattle.sim_index.specs.Marked.{IsPicked, Marked}
use Rattle.sim_index.specs.Marks.{no_mark, node}
use Rattle.sim_index.proofs.Picked.{asked_more, picked_values}
use Rattle.sqs_message.specs.declared.message.Message.{Message}
use Rattle.sqs_model.proofs.Counts.{ascends_lower, ascends_push}
use Rattle.sqs_model.specs.Progress.{Ascends}
use Rattle.sqs_messages.specs.declared.slot.Slot.{Slot}
use Rattle.sqs_messages.specs.Shelves.{AreShelf}
use Rattle.sqs_messages.specs.Slots.{IsNamed, Shelved, item_of, shelved, shown}

items_push : (slots : List Slot) (marks : List Mark) (y : Slot) (m : Mark) → AllZip IsNamed slots marks → shelved (slots ++ y ∷ []) (marks ++ m ∷ []) ≡ shelved slots marks ++ cons_option (shown m y) []
items_push [] [] y m h = refl
items_push [] (k ∷ marks) y m h = absurd h
items_push (s ∷ slots) [] y m h = absurd h
items_push (s ∷ slots) (k ∷ marks) y m h = by (shown k s) (items_push slots marks y m h.1)
  where
    by : (o : Option Shelved) → shelved (slots ++ y ∷ []) (marks ++ m ∷ []) ≡ shelved slots marks ++ cons_option (shown m y) []
        → cons_option o (shelved (slots ++ y ∷ []) (marks ++ m ∷ [])) ≡ cons_option o (shelved slots marks) ++ cons_option (shown m y) []
    by None e = e
    by (Some b) e = ap (λ items. b ∷ items) e

-- one more place
module _ (list news : Marked Slot) (next : ℕ) (y : Slot) (m : Mark) (h : AreShelf list next) (values : news.values ≡ list.values ++ y ∷ []) (marks : news.marks ≡ list.marks ++ m ∷ []) where
  pub pushed_shelf : y.number ≡ next → IsNamed y m → AreShelf news (next + 1)
  pushed_shelf e named =
      record {
        ordered = rw values (ascends_push (λ (s : Slot). s.number) 0 list.values y h.ordered (omega arith) (All-weaker (λ (s : Slot). s.number < next) (λ (s : Slot). s.number < y.number) (λ s l. omega (arith, e)) list.values h.below));
        named = rw (values, marks) (asked_more IsNamed list.values list.marks y m h.named named);
        below = rw values (All-push (λ (s : Slot). s.number < next + 1) list.values y (All-weaker (λ (s : Slot). s.number < next) (λ (s : Slot). s.number < next + 1) (λ s l. omega arith) list.values h.below) (omega (arith, e)));
      }

  pub pushed_items : shelved news.values news.marks ≡ shelved list.values list.marks ++ cons_option (shown m y) []
  pushed_items = (λ j. shelved (values j) (marks j)) ∙ items_push list.values list.marks y m h.named

none_shown : (o : Option Message) (mark : Mark) (group : ℕ) (items : List Shelved) → false ≡ is_some o → items ≡ cons_option (option_map (item_of mark group) o) items
none_shown None mark group items e = refl
none_shown (Some m) mark group items e = cc

no_message : (o : Option Message) (mark : Mark) (group : ℕ) (items : List Shelved) → cons_option (option_map (item_of mark group) o) items ≡ [] → o ≡ None
no_message None mark group items e = refl
no_message (Some m) mark group items e = cc

none_behind : (o : Option Shelved) (items : List Shelved) → cons_option o items ≡ [] → items ≡ []
none_behind None items e = e
none_behind (Some s) items e = cc

-- places in which no message stands have no marks
pub unmarked : (slots : List Slot) (marks : List Mark) → AllZip IsNamed slots marks → shelved slots marks ≡ [] → (i : ℕ) → node marks i ≡ no_mark
unmarked [] [] h e i = refl
unmarked [] (m ∷ marks) h e i = absurd h
unmarked (s ∷ slots) [] h e i = absurd h
unmarked (s ∷ slots) (m ∷ marks) h e zero = h.0.empty (no_message s.message m s.group (shelved slots marks) e)
unmarked (s ∷ slots) (m ∷ marks) h e (suc i) = unmarked slots marks h.1 (none_behind (shown m s) (shelved slots marks) e) i

-- the places that stay, where each is asked whether a message stands there
module _ (answers : Slot → Bool → Type 0) (told : (s : Slot) (b : Bool) → answers s b → b ≡ is_some s.message) where
  kept_ordered : (low : ℕ) (bs : List Bool) (slots : List Slot) → Ascends (λ s. s.number) low slots → Ascends (λ s. s.number) low (items_where_true bs slots)
  kept_ordered low [] slots h = tt
  kept_ordered low (b ∷ bs) [] h = tt
  kept_ordered low (true ∷ bs) (s ∷ slots) h = (h.0, kept_ordered (s.number + 1) bs slots h.1)
  kept_ordered low (false ∷ bs) (s ∷ slots) h = ascends_lower (λ (t : Slot). t.number) low (s.number + 1) (items_where_true bs slots) (omega (arith, h.0)) (kept_ordered (s.number + 1) bs slots h.1)

  kept_named : (bs : List Bool) (slots : List Slot) (marks : List Mark) → AllZip IsNamed slots marks → AllZip IsNamed (items_where_true bs slots) (items_where_true bs marks)
  kept_named [] slots marks h = tt
  kept_named (b ∷ bs) [] [] h = tt
  kept_named (b ∷ bs) [] (m ∷ marks) h = absurd h
  kept_named (b ∷ bs) (s ∷ slots) [] h = absurd h
  kept_named (true ∷ bs) (s ∷ slots) (m ∷ marks) h = (h.0, kept_named bs slots marks h.1)
  kept_named (false ∷ bs) (s ∷ slots) (m ∷ marks) h = kept_named bs slots marks h.1

  kept_shelved : (bs : List Bool) (slots : List Slot) (marks : List Mark) → AllZip answers slots bs → AllZip IsNamed slots marks → shelved (items_where_true bs slots) (items_where_true bs marks) ≡ shelved slots marks
  kept_shelved [] [] [] a h = refl
  kept_shelved (b ∷ bs) [] marks a h = absurd a
  kept_shelved [] (s ∷ slots) marks a h = absurd a
  kept_shelved bs [] (m ∷ marks) a h = absurd h
  kept_shelved bs (s ∷ slots) [] a h = absurd h
  kept_shelved (true ∷ bs) (s ∷ slots) (m ∷ marks) a h = ap (cons_option (shown m s)) (kept_shelved bs slots marks a.1 h.1)
  kept_shelved (false ∷ bs) (s ∷ slots) (m ∷ marks) a h = kept_shelved bs slots marks a.1 h.1 ∙ none_shown s.message m s.group (shelved slots marks) (told s false a.0)

  -- or nothing is changed
  pub kept : {T E : Type 0} (result : Result T E) (old new : Marked Slot) (next : ℕ) → AreShelf old next → OnOk result (IsPicked answers old new) → OnErr result (new ≡ old)
      → AreShelf new next × (shelved new.values new.marks ≡ shelved old.values old.marks)
  kept (Err x) old new next h picked same = (subst (λ (l : Marked Slot). AreShelf l next) (sym same) h, λ j. shelved (same j).values (same j).marks)
  kept (Ok x) old new next h picked same = (
    record {
      ordered = rw picked.values (kept_ordered 0 picked.told old.values h.ordered);
      named = rw (picked.values, picked.marks) (kept_named picked.told old.values old.marks h.named);
      below =
          rw (picked_values answers (λ s. is_some s.message) told old new picked)
          (All-filter (λ (s : Slot). is_some s.message) (λ (s : Slot). s.number < next) old.values h.below);
    },
    (λ j. shelved (picked.values j) (picked.marks j)) ∙ kept_shelved picked.told old.values old.marks picked.asked h.named,
  )
