-- What stands in the places of a shelf: at a place, before it and after it.
use Rattle.std.proofs.Common.{◌≡◌, ℕ, zero, suc, ◌+◌, ◌<◌, ◌≤◌, true, false, Bool, List, [], ◌∷◌, ◌++◌, Option, Some, None, cond, if◌then◌else◌, length, set, take, drop, get_or, inl, inr, arith, refl, ap, sym, subst, ◌∙◌}
use Rattle.std.specs.Prelude.{All, IfSome, IsSome, find, ◌≢◌}
use Rattle.std.specs.List.{AllZip, cons_option}
use Rattle.std.specs.List.Sorted.{IsNonDecreasingBy}
use Rattle.std.specs.Option.{option_map}
use Rattle.std.proofs.lemmas.Bool.{cases_eq, cases_lt}
use Rattle.std.proofs.lemmas.Bool.Decides.{nat_tests}
use Rattle.std.proofs.lemmas.List.{get_or_default, set-get_or}
use Rattle.std.proofs.lemmas.List.Elements.{All-cons, All-nil, All-set, All-weaker}
use Rattle.std.proofs.lemmas.Slice.Zip.{AllZip-long}
use Rattle.sim_clock.specs.Firsts.{changed, without}
use Rattle.sim_index.specs.declared.mark.Mark.{Mark}
use Rattle.sim_index.specs.Marked.{Marked}
use Rattle.sim_index.specs.Marks.{no_mark, node}
use Rattle.sqs_message.specs.declared.message.Message.{Message}
use Rattle.sqs_model.specs.Progress.{Ascends}
use Rattle.sqs_messages.specs.declared.slot.Slot.{Slot}
use Rattle.sqs_messages.specs.Shelves.{AreShelf}
use Rattle.sqs_messages.specs.Slots.{AreOrdered, IsNamed, IsOff, IsOn, Shelved, is_numbered, item_of, shelved, shown, with_hosts}
use Rattle.sqs_messages.proofs.Firsts.{skip_changed, skip_find, skip_without}

-- two lists whose elements are alike place by place: at one, and with others there
module _ {A B : Type 0} (R : A → B → Type 0) where
  pub zip_at : (xs : List A) (ys : List B) (i : ℕ) (d : A) (e : B) → AllZip R xs ys → i < length xs → R (get_or xs i d) (get_or ys i e)
  zip_at [] ys i d e h l = absurd (omega arith)
  zip_at (x ∷ xs) [] i d e h l = absurd h
  zip_at (x ∷ xs) (y ∷ ys) zero d e h l = h.0
  zip_at (x ∷ xs) (y ∷ ys) (suc i) d e h l = zip_at xs ys i d e h.1 (omega arith)

  zip_set : (xs : List A) (ys : List B) (i : ℕ) (x : A) (y : B) → AllZip R xs ys → R x y → AllZip R (set xs i x) (set ys i y)
  zip_set [] [] i x y h r = h
  zip_set [] (b ∷ ys) i x y h r = absurd h
  zip_set (a ∷ xs) [] i x y h r = absurd h
  zip_set (a ∷ xs) (b ∷ ys) zero x y h r = (r, h.1)
  zip_set (a ∷ xs) (b ∷ ys) (suc i) x y h r = (h.0, zip_set xs ys i x y h.1 r)

-- what places show, each that is shown has
module _ (P : Shelved → Type 0) where
  pub all_one : (o : Option Shelved) (items : List Shelved) → IfSome o P → All P items → All P (cons_option o items)
  all_one None items h k = k
  all_one (Some s) items h k = All-cons P s items h k

  pub all_shelved : (slots : List Slot) (marks : List Mark) → ((k : ℕ) (d : Slot) → k < length slots → IfSome (shown (node marks k) (get_or slots k d)) P) → All P (shelved slots marks)
  all_shelved [] marks h = All-nil P
  all_shelved (s ∷ slots) [] h = All-nil P
  all_shelved (s ∷ slots) (m ∷ marks) h = all_one (shown m s) (shelved slots marks) (h 0 s (omega arith)) (all_shelved slots marks (λ k d l. h (suc k) d (omega arith)))

  all_before : (i : ℕ) (slots : List Slot) (marks : List Mark) → ((k : ℕ) (d : Slot) → k < i → k < length slots → IfSome (shown (node marks k) (get_or slots k d)) P) → All P (shelved (take i slots) (take i marks))
  all_before zero slots marks h = All-nil P
  all_before (suc i) [] marks h = All-nil P
  all_before (suc i) (s ∷ slots) [] h = All-nil P
  all_before (suc i) (s ∷ slots) (m ∷ marks) h =
      all_one (shown m s) (shelved (take i slots) (take i marks)) (h 0 s (omega arith) (omega arith)) (all_before i slots marks (λ k d l n. h (suc k) d (omega arith) (omega arith)))

append_option : (o : Option Shelved) (xs ys : List Shelved) → cons_option o (xs ++ ys) ≡ cons_option o xs ++ ys
append_option None xs ys = refl
append_option (Some x) xs ys = refl

-- what is shown with another place and mark
shown_with : (i : ℕ) (slots : List Slot) (marks : List Mark) (y : Slot) (m : Mark) → i < length slots → i < length marks
    → shelved (set slots i y) (set marks i m) ≡ shelved (take i slots) (take i marks) ++ cons_option (shown m y) (shelved (drop (suc i) slots) (drop (suc i) marks))
shown_with i [] marks y m l k = absurd (omega arith)
shown_with i (s ∷ slots) [] y m l k = absurd (omega arith)
shown_with zero (s ∷ slots) (n ∷ marks) y m l k = refl
shown_with (suc i) (s ∷ slots) (n ∷ marks) y m l k =
    ap (cons_option (shown n s)) (shown_with i slots marks y m (omega arith) (omega arith))
    ∙ append_option (shown n s) (shelved (take i slots) (take i marks)) (cons_option (shown m y) (shelved (drop (suc i) slots) (drop (suc i) marks)))

-- the first place that shows what a test picks
module _ (picks : Shelved → Bool) (slots : List Slot) (marks : List Mark) (i : ℕ) (x : Slot) (s : Shelved) (l : i < length slots) (k : i < length marks) (read : get_or slots i x ≡ x)
    (shows : shown (node marks i) x ≡ Some s) (picked : picks s ≡ true)
    (before : (j : ℕ) (d : Slot) → j < i → j < length slots → IfSome (shown (node marks j) (get_or slots j d)) (λ b. picks b ≡ false)) where
  abbrev front : List Shelved
  front = shelved (take i slots) (take i marks)

  abbrev back : List Shelved
  back = shelved (drop (suc i) slots) (drop (suc i) marks)

  none : All (λ b. picks b ≡ false) (shelved (take i slots) (take i marks))
  none = all_before (λ b. picks b ≡ false) i slots marks before

  whole : shelved slots marks ≡ shelved (take i slots) (take i marks) ++ s ∷ shelved (drop (suc i) slots) (drop (suc i) marks)
  whole =
      (λ j. shelved (sym (ap (set slots i) (sym read) ∙ set-get_or slots i x) j) (sym (set-get_or marks i no_mark) j))
      ∙ shown_with i slots marks x (node marks i) l k
      ∙ ap (λ o. front ++ cons_option o back) shows

  pub find_first : find picks (shelved slots marks) ≡ Some s
  find_first = ap (find picks) whole ∙ skip_find picks front (s ∷ back) none ∙ ap (λ b. cond b (Some s) (find picks back)) picked

  pub rest_first : (y : Slot) (m : Mark) → y.message ≡ None → shelved (set slots i y) (set marks i m) ≡ without picks (shelved slots marks)
  rest_first y m e =
      shown_with i slots marks y m l k
      ∙ ap (λ (o : Option Message). front ++ cons_option (option_map (item_of m y.group) o) back) e
      ∙ sym (ap (without picks) whole ∙ skip_without picks front (s ∷ back) none ∙ ap (λ b. front ++ (if b then back else s ∷ without picks back)) picked)

  pub change_first : (f : Shelved → Shelved) (y : Slot) (m : Mark) → shown m y ≡ Some (f s) → shelved (set slots i y) (set marks i m) ≡ changed picks f (shelved slots marks)
  change_first f y m e =
      shown_with i slots marks y m l k
      ∙ ap (λ o. front ++ cons_option o back) e
      ∙ sym (ap (changed picks f) whole ∙ skip_changed picks f front (s ∷ back) none ∙ ap (λ b. front ++ (if b then f s ∷ back else s ∷ changed picks f back)) picked)

-- a message that stands in a place, but not in one of this number
other_by : (n k : ℕ) (mark : Mark) (group : ℕ) (o : Option Message) → IfSome o (λ m. m.number ≡ k) → (k ≡ n → o ≡ None) → IfSome (option_map (item_of mark group) o) (λ s. is_numbered n s ≡ false)
other_by n k mark group None h e = tt
other_by n k mark group (Some m) h e = let other : m.number ≢ n = λ same. let none : Some m ≡ None = e (sym h ∙ same) in cc in grind (arith, nat_tests, other)

pub some_in : (o : Option Message) → IsSome o → (m : Message) × (o ≡ Some m)
some_in None h = cc
some_in (Some m) h = (m, refl)

pub named_some : (o : Option Message) (m : Message) (k : ℕ) → o ≡ Some m → IfSome o (λ m. m.number ≡ k) → m.number ≡ k
named_some None m k e h = cc
named_some (Some o) m k e h = let same : o ≡ m = cc in ap (λ (m : Message). m.number) (sym same) ∙ h

-- places with another in place of one of them, of the same number
ascends_set : (low i : ℕ) (slots : List Slot) (y : Slot) → ((d : Slot) → i < length slots → y.number ≡ (get_or slots i d).number) → Ascends (λ s. s.number) low slots → Ascends (λ s. s.number) low (set slots i y)
ascends_set low i [] y e h = h
ascends_set low zero (s ∷ slots) y e h = let same : y.number ≡ s.number = e s (omega arith) in (omega (arith, same, h.0), subst (λ k. Ascends (λ (t : Slot). t.number) (k + 1) slots) (sym same) h.1)
ascends_set low (suc i) (s ∷ slots) y e h = (h.0, ascends_set (s.number + 1) i slots y (λ d l. e d (omega arith)) h.1)

-- the message of a number, which stands in a place
module _ {list : Marked Slot} {next n i : ℕ} {x : Slot} {slots : List Slot} (h : AreShelf list next) (on : IsOn slots n i) (told : slots ≡ list.values) (read : x ≡ get_or list.values i x) where
  at : IsOn list.values n i
  at = subst (λ (xs : List Slot). IsOn xs n i) told on

  there : (m : Message) × (x.message ≡ Some m)
  there = some_in x.message (subst (λ (s : Slot). IsSome s.message) (sym read) (at.there x))

  abbrev here : Shelved
  here = item_of (node list.marks i) x.group there.0

  shows : shown (node list.marks i) x ≡ Some here
  shows = ap (option_map (item_of (node list.marks i) x.group)) there.1

  named : IsNamed x (node list.marks i)
  named = subst (λ (s : Slot). IsNamed s (node list.marks i)) (sym read) (zip_at IsNamed list.values list.marks i x no_mark h.named at.within)

  marked : i < length list.marks
  marked = omega (arith, at.within, AllZip-long IsNamed list.values list.marks h.named)

  picked : is_numbered n here ≡ true
  picked =
      let k : here.message.number ≡ x.number = named_some x.message here.message x.number there.1 named.number in
      let e : x.number ≡ n = ap (λ (s : Slot). s.number) read ∙ at.number x in
      grind (arith, nat_tests, k, e)

  before : (j : ℕ) (d : Slot) → j < i → j < length list.values → IfSome (shown (node list.marks j) (get_or list.values j d)) (λ b. is_numbered n b ≡ false)
  before j d l u =
      let s : Slot = get_or list.values j d in
      let other : s.number ≢ n = at.first j d l in
      other_by n s.number (node list.marks j) s.group s.message (zip_at IsNamed list.values list.marks j d no_mark h.named u).number (λ e. absurd (other e))

  pub found : find (is_numbered n) (shelved list.values list.marks) ≡ shown (node list.marks i) x
  found = find_first (is_numbered n) list.values list.marks i x here at.within marked (sym read) shows picked before ∙ sym shows

  -- and another in place of it
  module _ {news : Marked Slot} {y : Slot} (m : Mark) (same : y.number ≡ x.number) (group : y.group ≡ x.group) (is : news ≡ record list { values = set list.values i y; marks = set list.marks i m }) where
    set_shelf : IsNamed y m → AreShelf news next
    set_shelf whole =
        let number : (d : Slot) → i < length list.values → y.number ≡ (get_or list.values i d).number = λ d l. same ∙ ap (λ (s : Slot). s.number) read ∙ at.number x ∙ sym (at.number d) in
        subst (λ (l : Marked Slot). AreShelf l next) (sym is)
        (record {
          ordered = ascends_set 0 i list.values y number h.ordered;
          named = zip_set IsNamed list.values list.marks i y m h.named whole;
          below = All-set (λ (s : Slot). s.number < next) list.values i y (omega (arith, number y at.within, h.below i y at.within)) h.below;
        })

    pub removed_shelf : y.message ≡ None → m ≡ no_mark → AreShelf news next
    removed_shelf e k = set_shelf (record { number = rw e tt; empty = λ _. k })

    pub removed_items : y.message ≡ None → shelved news.values news.marks ≡ without (is_numbered n) (shelved list.values list.marks)
    removed_items e = (λ j. shelved (is j).values (is j).marks) ∙ rest_first (is_numbered n) list.values list.marks i x here at.within marked (sym read) shows picked before y m e

    some : (g : Message → Message) → y.message ≡ option_map g x.message → y.message ≡ Some (g there.0)
    some g e = e ∙ ap (option_map g) there.1

    pub changed_shelf : (g : Message → Message) → ((o : Message) → (g o).number ≡ o.number) → y.message ≡ option_map g x.message → AreShelf news next
    changed_shelf g kept e =
        set_shelf (record {
          number = rw (some g e) (kept there.0 ∙ named_some x.message there.0 x.number there.1 named.number ∙ sym same);
          empty = λ none. let no : Some (g there.0) ≡ None = sym (some g e) ∙ none in cc;
        })

    pub changed_items : (g : Message → Message) (f : Shelved → Shelved) → ((o : Message) → f (item_of (node list.marks i) x.group o) ≡ item_of m x.group (g o)) → y.message ≡ option_map g x.message
        → shelved news.values news.marks ≡ changed (is_numbered n) f (shelved list.values list.marks)
    changed_items g f alike e =
        (λ j. shelved (is j).values (is j).marks)
        ∙ change_first (is_numbered n) list.values list.marks i x here at.within marked (sym read) shows picked before f y m
        ((λ j. option_map (item_of m (group j)) (some g e j)) ∙ ap Some (sym (alike there.0)))

same_message : (o : Option Message) → o ≡ option_map (λ m. m) o
same_message None = refl
same_message (Some o) = refl

-- the message of a number, with other hosts in its mark
module _ {list news : Marked Slot} {next n i : ℕ} {slots : List Slot} (m : Mark) (h : AreShelf list next) (on : IsOn slots n i) (told : slots ≡ list.values) (is : news ≡ record list { marks = set list.marks i m }) where
  abbrev nothing : Slot
  nothing = record { number = 0; group = 0; message = None }

  read : get_or list.values i nothing ≡ get_or list.values i (get_or list.values i nothing)
  read = get_or_default list.values i nothing (get_or list.values i nothing) (subst (λ (xs : List Slot). i < length xs) told on.within)

  put : news ≡ record list { values = set list.values i (get_or list.values i nothing); marks = set list.marks i m }
  put = is ∙ ap (λ (xs : List Slot). let l : Marked Slot = record list { values = xs; marks = set list.marks i m } in l) (sym (set-get_or list.values i nothing))

  pub marked_shelf : AreShelf news next
  marked_shelf = changed_shelf h on told read m refl refl put (λ o. o) (λ o. refl) (same_message (get_or list.values i nothing).message)

  pub marked_items : (hosts : ℕ) → m ≡ record { due = (node list.marks i).due; flags = hosts } → shelved news.values news.marks ≡ changed (is_numbered n) (with_hosts hosts) (shelved list.values list.marks)
  marked_items hosts e =
      changed_items h on told read m refl refl put (λ o. o) (with_hosts hosts) (λ o. ap (λ (k : Mark). item_of k (get_or list.values i nothing).group o) (sym e)) (same_message (get_or list.values i nothing).message)

-- numbers that go up, place by place
above : (low : ℕ) (slots : List Slot) → Ascends (λ s. s.number) low slots → All (λ s. low ≤ s.number) slots
above low [] h = All-nil (λ (x : Slot). low ≤ x.number)
above low (s ∷ slots) h =
    All-cons (λ (x : Slot). low ≤ x.number) s slots h.0 (All-weaker (λ (x : Slot). s.number + 1 ≤ x.number) (λ (x : Slot). low ≤ x.number) (λ x l. omega (arith, h.0)) slots (above (s.number + 1) slots h.1))

pub rises : (low : ℕ) (slots : List Slot) → Ascends (λ s. s.number) low slots → (i j : ℕ) (d e : Slot) → i < j → j < length slots → (get_or slots i d).number < (get_or slots j e).number
rises low [] h i j d e a b = absurd (omega arith)
rises low (s ∷ slots) h zero zero d e a b = absurd (omega arith)
rises low (s ∷ slots) h (suc i) zero d e a b = absurd (omega arith)
rises low (s ∷ slots) h zero (suc j) d e a b = let l : s.number + 1 ≤ (get_or slots j e).number = above (s.number + 1) slots h.1 j e (omega arith) in omega (arith, l)
rises low (s ∷ slots) h (suc i) (suc j) d e a b = rises (s.number + 1) slots h.1 i j d e (omega arith) (omega arith)

-- what the first place from a number on tells
pub record IsFrom (slots : List Slot) (n p : ℕ) : Type 0 where
  pub bound : p ≤ length slots
  pub below : (k : ℕ) (d : Slot) → k < p → (get_or slots k d).number < n
  pub above : (k : ℕ) (d : Slot) → p ≤ k → k < length slots → n ≤ (get_or slots k d).number

-- a place that has the number is the first
pub from_place : (slots : List Slot) (n p : ℕ) → AreOrdered slots → p < length slots → ((d : Slot) → (get_or slots p d).number ≡ n) → IsFrom slots n p
from_place slots n p o l e =
    record {
      bound = omega arith;
      below = λ k d b. let less : (get_or slots k d).number < (get_or slots p d).number = rises 0 slots o k p d d b l in omega (arith, less, e d);
      above = λ k d b u.
          elim (cases_eq k p) [
            | inl is ↦ rw is (omega (arith, e d))
            | inr other ↦ let more : (get_or slots p d).number < (get_or slots k d).number = rises 0 slots o p k d d (omega arith) u in omega (arith, more, e d)
          ];
    }

-- numbers that go up do not fall
pub rising : (slots : List Slot) → AreOrdered slots → IsNonDecreasingBy (λ s. s.number) slots
rising slots h i j d l m =
    elim (cases_eq i j) [
      | inl e ↦ let same : (get_or slots i d).number ≡ (get_or slots j d).number = ap (λ k. (get_or slots k d).number) e in omega (arith, same)
      | inr n ↦ let less : (get_or slots i d).number < (get_or slots j d).number = rises 0 slots h i j d d (omega arith) m in omega (arith, less)
    ]

pub off_from : (slots : List Slot) (n p : ℕ) → AreOrdered slots → IsFrom slots n p → ((d : Slot) → p < length slots → (get_or slots p d).number ≡ n → (get_or slots p d).message ≡ None) → IsOff slots n
off_from slots n p o f here k d l e =
    elim (cases_eq k p) [
      | inl is ↦ rw is (here d (omega (arith, is, l)) (ap (λ j. (get_or slots j d).number) (sym is) ∙ e))
      | inr other ↦
          elim (cases_lt k p) [
            | inl low ↦ absurd (omega (arith, e, f.below k d low))
            | inr high ↦
                let more : (get_or slots p d).number < (get_or slots k d).number = rises 0 slots o p k d d (omega arith) l in
                absurd (omega (arith, more, e, f.above p d (omega arith) (omega arith)))
          ]
    ]

-- on a shelf that has no message of a number in its places none is found
pub none_numbered : {list : Marked Slot} {next n : ℕ} {slots : List Slot} → AreShelf list next → IsOff slots n → slots ≡ list.values → All (λ b. is_numbered n b ≡ false) (shelved list.values list.marks)
none_numbered {list = list} {n = n} h off told =
    all_shelved (λ b. is_numbered n b ≡ false) list.values list.marks
    (λ k d l. let s : Slot = get_or list.values k d in other_by n s.number (node list.marks k) s.group s.message (zip_at IsNamed list.values list.marks k d no_mark h.named l).number
    (subst (λ (xs : List Slot). IsOff xs n) told off k d l))
