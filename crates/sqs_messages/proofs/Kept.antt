-- What a change of one message keeps of what is due and of what is told of the others.
use Rattle.std.proofs.Common.{◌≡◌, ◌≤◌, ℕ, ◌+◌, ◌<◌, arith, Bool, true, false, List, [], ◌∷◌, ◌++◌, Option, if◌then◌else◌, map, refl, ap, sym, subst, ◌∙◌}
use Rattle.std.specs.Prelude.{All}
use Rattle.std.proofs.lemmas.List.{map-append}
use Rattle.std.proofs.lemmas.List.Elements.{All-push}
use Rattle.sim_clock.specs.Firsts.{changed}
use Rattle.sim_clock.specs.Order.{least}
use Rattle.sim_clock.specs.declared.key.Key.{Key}
use Rattle.sqs_message.specs.declared.message.Message.{Message}
use Rattle.sqs_model.specs.Answers.{most_count}
use Rattle.sqs_model.specs.Calls.{with_message}
use Rattle.sqs_model.specs.Dues.{message_dues}
use Rattle.sqs_model.specs.Queue.{Queue, has_number}
use Rattle.sqs_messages.proofs.Calls.{dues_kept}
use Rattle.sqs_messages.proofs.Led.{told_changed}
use Rattle.sqs_messages.proofs.Settled.{told_kept}
use Rattle.sqs_messages.specs.declared.order.Order.{Order}
use Rattle.sqs_messages.specs.declared.slot.State.{State}
use Rattle.sqs_messages.specs.Heads.{told}
use Rattle.sqs_messages.specs.Marked.{IsDue, restamped, unhosted}
use Rattle.sqs_messages.specs.Orders.{AreInOrder, IsOrderOf}
use Rattle.sqs_messages.specs.Slots.{Shelved, is_numbered, item_of, restated}
use Rattle.sqs_messages.specs.Stored.{IsCounted}
use Rattle.sqs_redrive.specs.declared.settings.QueueSettings.{QueueSettings}
use Rattle.sqs_messages.specs.Tables.{AreKept, IsTable, queue_of}
use Rattle.sqs_messages.specs.declared.table.MessageTable.TheInside.{Inside}

-- a change in which hosts alone differ
pub unhosted_alike : (p : Shelved → Bool) (f g : Shelved → Shelved) → ((s : Shelved) → unhosted (f s) ≡ unhosted (g s)) → (items : List Shelved) → map unhosted (changed p f items) ≡ map unhosted (changed p g items)
unhosted_alike p f g e [] = refl
unhosted_alike p f g e (s ∷ items) = by (p s) (unhosted_alike p f g e items)
  where
    by : (b : Bool) → map unhosted (changed p f items) ≡ map unhosted (changed p g items) → map unhosted (if b then f s ∷ items else s ∷ changed p f items) ≡ map unhosted (if b then g s ∷ items else s ∷ changed p g items)
    by true ih = ap (λ x. x ∷ map unhosted items) (e s)
    by false ih = ap (λ xs. unhosted s ∷ xs) ih

-- the messages after one took another state
pub restamped_told : (n : ℕ) (state : State) (due : Option Key) (items after : List Shelved) → map unhosted after ≡ map unhosted (changed (is_numbered n) (restamped state due) items) → told after ≡ changed (has_number n) (restated state) (told items)
restamped_told n state due items after e = told_kept (changed (is_numbered n) (restamped state due) items) after e ∙ told_changed n (restamped state due) (restated state) (λ s. refl) items

-- one more message, with what is due of it
pub added_told : (items after : List Shelved) (m : Message) (due : Option Key) (place : ℕ) → map unhosted after ≡ map unhosted items ++ (m, due, place) ∷ [] → told after ≡ told items ++ m ∷ []
added_told items after m due place e =
    let s : Shelved = item_of (record { due = due; flags = 0 }) place m in
    told_kept (items ++ s ∷ []) after (e ∙ sym (map-append unhosted items (s ∷ []))) ∙ map-append (λ (x : Shelved). x.message) items (s ∷ [])

pub added_dues : (site retention : ℕ) (items after : List Shelved) (m : Message) (due : Option Key) (place : ℕ) → map unhosted after ≡ map unhosted items ++ (m, due, place) ∷ []
    → ((s : Shelved) → s.message ≡ m → s.mark.due ≡ due → IsDue site retention s) → All (IsDue site retention) items → All (IsDue site retention) after
added_dues site retention items after m due place e is h =
    let s : Shelved = item_of (record { due = due; flags = 0 }) place m in
    dues_kept site retention (items ++ s ∷ []) after (e ∙ sym (map-append unhosted items (s ∷ []))) (All-push (IsDue site retention) items s h (is s refl refl))

-- a table whose messages changed
pub still_kept : (site : ℕ) (settings : QueueSettings) (items after : List Shelved) (next end : ℕ) (before order : Order) → AreKept site settings items next before → end ≡ next → All (IsDue site settings.retention) after
    → IsOrderOf settings.kind order → AreInOrder after end order → AreKept site settings after end order
still_kept site settings items after next end before order h same dues kind ordered =
    record { settings_in_range = h.settings_in_range; arrivals_in_range = subst (λ n. n ≤ most_count) (sym same) h.arrivals_in_range; dues = dues; order_of = kind; ordered = ordered }

-- a table for which room was made, and to which one more message came
module _
    (inside : Inside) (q : Queue) (between after : List Shelved) (middle end : ℕ) (m : Message) (due : Option Key) (place : ℕ) (shows : queue_of inside ≡ q) (e : between ≡ inside.shelf.items) (f : middle ≡ inside.shelf.next)
    (added : map unhosted after ≡ map unhosted between ++ (m, due, place) ∷ []) (g : end ≡ middle + 1)
  where
    pub added_kept : (order : Order) → IsTable inside → IsCounted m → q.arrivals < most_count → due ≡ least (message_dues inside.site inside.settings.retention m) → IsOrderOf inside.settings.kind order → AreInOrder after end order
        → AreKept inside.site inside.settings after end order
    added_kept order h counted below first kind ordered =
        record {
          settings_in_range = h.settings_in_range;
          arrivals_in_range = omega (arith, f, g, ap (λ (p : Queue). p.arrivals) shows, below);
          dues = added_dues inside.site inside.settings.retention between after m due place added
              (λ s is d. record {
                due = d ∙ first ∙ ap (λ (x : Message). least (message_dues inside.site inside.settings.retention x)) (sym is);
                counted = subst IsCounted (sym is) counted;
              })
              (subst (All (IsDue inside.site inside.settings.retention)) (sym e) h.dues);
          order_of = kind;
          ordered = ordered;
        }

    -- and what contracts see of it
    pub added_queue : record (queue_of inside) { records = told after; arrivals = end } ≡ with_message q m
    added_queue =
        let records : told after ≡ told inside.shelf.items ++ m ∷ [] = added_told between after m due place added ∙ ap (λ (xs : List Shelved). told xs ++ m ∷ []) e in
        let next : end ≡ inside.shelf.next + 1 = g ∙ ap (λ n. n + 1) f in
        (λ j. let p : Queue = record (queue_of inside) { records = records j; arrivals = next j } in p)
        ∙ ap (λ (p : Queue). with_message p m) shows
