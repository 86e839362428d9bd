-- What the marks of a shelf tell of its messages.
use Rattle.std.proofs.Common.{◌≡◌, ℕ, ◌<◌, ◌≤◌, Bool, true, false, List, [], ◌∷◌, Option, Some, None, length, map, get_or, inl, inr, ◌⊎◌, ◌&&◌, ◌||◌, arith, refl, ap, sym, subst, ◌∙◌}
use Rattle.std.specs.Prelude.{IfSome, IsSome, find, nat_le}
use Rattle.std.specs.List.{AllZip, cons_option, list_any}
use Rattle.std.specs.Option.{option_map}
use Rattle.std.proofs.lemmas.Bool.{cases_lt}
use Rattle.std.proofs.lemmas.Bool.Decides.{nat_tests}
use Rattle.std.proofs.lemmas.Slice.Zip.{AllZip-long}
use Rattle.sim_clock.specs.declared.key.Key.{Key}
use Rattle.sim_clock.specs.Order.{lesser}
use Rattle.sim_index.specs.declared.mark.Mark.{Mark}
use Rattle.sim_index.specs.Marked.{Marked}
use Rattle.sim_index.specs.Marks.{IsNextIn, NoneIn, least_of, meets, no_mark, node}
use Rattle.sim_index.proofs.Rows.{no_meets}
use Rattle.sqs_message.specs.declared.message.Message.{Message}
use Rattle.sqs_message.specs.declared.message.Place.{Place}
use Rattle.sqs_messages.specs.declared.slot.Slot.{Slot}
use Rattle.sqs_messages.specs.Heads.{told}
use Rattle.sqs_messages.specs.Shelves.{AreShelf}
use Rattle.sqs_messages.specs.Slots.{IsNamed, Shelved, item_of, message_and_group, number_and_group, place_and_group, shelved, shown, standing}
use Rattle.sqs_messages.proofs.Firsts.{none_find}
use Rattle.sqs_messages.proofs.Shelves.{IsFrom, all_shelved, find_first, named_some, some_in, zip_at}
use Rattle.sqs_messages.specs.Marked.{wanted}

told_one : (o : Option Message) (mark : Mark) (group : ℕ) (items : List Shelved) → told (cons_option (option_map (item_of mark group) o) items) ≡ cons_option o (told items)
told_one None mark group items = refl
told_one (Some m) mark group items = refl

-- the messages on a shelf are those that stand in its places
pub told_shelved : (slots : List Slot) (marks : List Mark) → AllZip IsNamed slots marks → told (shelved slots marks) ≡ standing slots
told_shelved [] marks h = refl
told_shelved (s ∷ slots) [] h = absurd h
told_shelved (s ∷ slots) (m ∷ marks) h = told_one s.message m s.group (shelved slots marks) ∙ ap (cons_option s.message) (told_shelved slots marks h.1)

none_due : (m : Mark) (o : Option Key) → m ≡ no_mark → lesser m.due o ≡ o
none_due m o e = ap (λ (k : Mark). lesser k.due o) e

least_one : (o : Option Message) (mark : Mark) (group : ℕ) (items : List Shelved) → (o ≡ None → mark ≡ no_mark) → lesser mark.due (least_of (map (λ s. s.mark) items)) ≡ least_of (map (λ s. s.mark) (cons_option (option_map (item_of mark group) o) items))
least_one None mark group items h = none_due mark (least_of (map (λ s. s.mark) items)) (h refl)
least_one (Some m) mark group items h = refl

-- the least of the marks is that of the messages'
pub least_shelved : (slots : List Slot) (marks : List Mark) → AllZip IsNamed slots marks → least_of marks ≡ least_of (map (λ s. s.mark) (shelved slots marks))
least_shelved [] [] h = refl
least_shelved [] (m ∷ marks) h = absurd h
least_shelved (s ∷ slots) [] h = absurd h
least_shelved (s ∷ slots) (m ∷ marks) h = ap (lesser m.due) (least_shelved slots marks h.1) ∙ least_one s.message m s.group (shelved slots marks) h.0.empty

any_one : (hosts : ℕ) (o : Option Message) (mark : Mark) (group : ℕ) (items : List Shelved) → (o ≡ None → mark ≡ no_mark)
    → (meets hosts mark || list_any (λ s. meets hosts s.mark) items) ≡ list_any (λ s. meets hosts s.mark) (cons_option (option_map (item_of mark group) o) items)
any_one hosts None mark group items h = let none : meets hosts mark ≡ false = ap (meets hosts) (h refl) ∙ no_meets hosts in ap (λ b. b || list_any (λ (s : Shelved). meets hosts s.mark) items) none
any_one hosts (Some m) mark group items h = refl

-- whether any of the marks tells of one of these hosts is whether any of the messages' does
pub any_shelved : (hosts : ℕ) (slots : List Slot) (marks : List Mark) → AllZip IsNamed slots marks → list_any (meets hosts) marks ≡ list_any (λ s. meets hosts s.mark) (shelved slots marks)
any_shelved hosts [] [] h = refl
any_shelved hosts [] (m ∷ marks) h = absurd h
any_shelved hosts (s ∷ slots) [] h = absurd h
any_shelved hosts (s ∷ slots) (m ∷ marks) h = ap (λ b. meets hosts m || b) (any_shelved hosts slots marks h.1) ∙ any_one hosts s.message m s.group (shelved slots marks) h.0.empty

unwanted_by : (from hosts n : ℕ) (mark : Mark) (group : ℕ) (o : Option Message) → IfSome o (λ m. m.number ≡ n) → (n < from) ⊎ (meets hosts mark ≡ false)
    → IfSome (option_map (item_of mark group) o) (λ b. wanted from hosts b ≡ false)
unwanted_by from hosts n mark group None h k = tt
unwanted_by from hosts n mark group (Some m) h (inl l) = let t : nat_le from m.number ≡ false = grind (arith, nat_tests) in ap (λ b. b && meets hosts mark) t
unwanted_by from hosts n mark group (Some m) h (inr e) = ap (λ b. nat_le from m.number && b) e ∙ and_false (nat_le from m.number)
  where
    and_false : (b : Bool) → (b && false) ≡ false
    and_false true = refl
    and_false false = refl

there_by : (hosts : ℕ) (mark : Mark) (o : Option Message) → (o ≡ None → mark ≡ no_mark) → meets hosts mark ≡ true → IsSome o
there_by hosts mark None h e = let f : meets hosts mark ≡ false = ap (meets hosts) (h refl) ∙ no_meets hosts in cc
there_by hosts mark (Some m) h e = refl

wanted_some : (from hosts n : ℕ) (mark : Mark) (o : Option Message) (m : Message) → o ≡ Some m → IfSome o (λ m. m.number ≡ n) → from ≤ n → meets hosts mark ≡ true → (nat_le from m.number && meets hosts mark) ≡ true
wanted_some from hosts n mark None m is h l e = cc
wanted_some from hosts n mark (Some o) m is h l e = let same : o ≡ m = cc in let k : m.number ≡ n = ap (λ (m : Message). m.number) (sym same) ∙ h in let t : nat_le from m.number ≡ true = grind (arith, nat_tests, k) in (λ j. t j && e j)

module _ (list : Marked Slot) (next from hosts q : ℕ) (h : AreShelf list next) (f : IsFrom list.values from q) where
  unwanted : (i : ℕ) (d : Slot) → i < length list.values → (q ≤ i → meets hosts (node list.marks i) ≡ false) → IfSome (shown (node list.marks i) (get_or list.values i d)) (λ b. wanted from hosts b ≡ false)
  unwanted i d l none =
      let s : Slot = get_or list.values i d in
      let number : IfSome s.message (λ m. m.number ≡ s.number) = (zip_at IsNamed list.values list.marks i d no_mark h.named l).number in
      elim (cases_lt i q) [
        | inl low ↦ unwanted_by from hosts s.number (node list.marks i) s.group s.message number (inl (f.below i d low))
        | inr high ↦ unwanted_by from hosts s.number (node list.marks i) s.group s.message number (inr (none high))
      ]

  pub next_found : (p : ℕ) (s : Slot) → IsNextIn list.marks hosts q (length list.marks) p → p < length list.values → s ≡ get_or list.values p s → Some (s.number, s.group) ≡ option_map number_and_group (find (wanted from hosts) (shelved list.values list.marks))
  next_found p s n l at =
      let named : IsNamed s (node list.marks p) = subst (λ (x : Slot). IsNamed x (node list.marks p)) (sym at) (zip_at IsNamed list.values list.marks p s no_mark h.named l) in
      let above : from ≤ s.number = subst (λ (x : Slot). from ≤ x.number) (sym at) (f.above p s n.past l) in
      let some = some_in s.message (there_by hosts (node list.marks p) s.message named.empty n.found) in
      let here : Shelved = item_of (node list.marks p) s.group some.0 in
      let shows : shown (node list.marks p) s ≡ Some here = ap (option_map (item_of (node list.marks p) s.group)) some.1 in
      let number : some.0.number ≡ s.number = named_some s.message some.0 s.number some.1 named.number in
      (λ j. Some (sym number j, s.group))
      ∙ ap (option_map number_and_group)
      (sym (find_first (wanted from hosts) list.values list.marks p s here l n.within (sym at) shows (wanted_some from hosts s.number (node list.marks p) s.message some.0 some.1 named.number above n.found)
      (λ i d m u. unwanted i d u (λ high. n.none_before i high m))))

  pub next_none : NoneIn list.marks hosts q (length list.marks) → find (wanted from hosts) (shelved list.values list.marks) ≡ None
  next_none none =
      none_find (wanted from hosts) (shelved list.values list.marks)
      (all_shelved (λ b. wanted from hosts b ≡ false) list.values list.marks (λ i d l. unwanted i d l (λ high. none i high (omega (arith, l, AllZip-long IsNamed list.values list.marks h.named)))))

-- what is shown of a message that is told whole, or of which its place is told
pub shown_with_group : (o : Option Message) (m : Message) (mark : Mark) (group : ℕ) → Some m ≡ o → Some (m, group) ≡ option_map message_and_group (option_map (item_of mark group) o)
shown_with_group None m mark group e = cc
shown_with_group (Some o) m mark group e = ap (option_map (λ (m : Message). message_and_group (item_of mark group m))) e

pub shown_place : (o : Option Message) (was : Place) (mark : Mark) (group : ℕ) → Some was ≡ option_map (λ (m : Message). m.place) o → Some (was, group) ≡ option_map place_and_group (option_map (item_of mark group) o)
shown_place None was mark group e = cc
shown_place (Some o) was mark group e = let same : was ≡ o.place = cc in (λ j. Some (same j, group))

pub shown_message : (o : Option Message) (mark : Mark) (group : ℕ) → o ≡ option_map (λ (s : Shelved). s.message) (option_map (item_of mark group) o)
shown_message None mark group = refl
shown_message (Some m) mark group = refl
