-- Groups' lists and counts, as a message leaves, changes or comes.
use Rattle.std.proofs.Common.{◌≡◌, ℕ, ◌+◌, ◌<◌, ◌≤◌, Bool, true, false, List, [], ◌∷◌, ◌++◌, Option, Some, None, cond, filter, if◌then◌else◌, length, map, not, ◌||◌, get_or, arith, refl, ap, sym, subst, ◌∙◌, append-nil}
use Rattle.std.specs.Prelude.{All, find, ◌==◌}
use Rattle.std.specs.List.{cons_option, filter_map, list_any}
use Rattle.std.specs.Option.{option_map, option_or}
use Rattle.std.proofs.lemmas.Bool.Decides.{nat_tests}
use Rattle.std.proofs.lemmas.List.{length-append, map-append}
use Rattle.std.proofs.lemmas.List.Elements.{All-cons, All-head, All-nil, All-push, All-tail, All-weaker, filter-append, filter_map-append}
use Rattle.std.proofs.lemmas.List.Folds.{find-append}
use Rattle.sim_clock.specs.Firsts.{changed, without}
use Rattle.sqs_message.specs.declared.message.Message.{Message}
use Rattle.sqs_model.specs.Progress.{Ascends}
use Rattle.sqs_model.specs.Queue.{has_number, same_text}
use Rattle.sqs_messages.specs.Heads.{in_group, of_group, told}
use Rattle.sqs_messages.specs.Slots.{Shelved, held, is_numbered, message_of, number_of}
use Rattle.sqs_messages.proofs.Firsts.{none_find}
use Rattle.sqs_messages.proofs.Led.{told_changed, told_find, told_without}
use Rattle.sqs_messages.proofs.Listed.{listed_without}
use Rattle.sqs_messages.specs.Groups.{IsGrouped, Kept, bit, is_out, out_of}

-- how many pass a test, as one leaves, changes or comes
pub one : (b : Bool) (x : Message) (ys : List Message) → length (cond b (x ∷ ys) ys) ≡ length ys + bit b
one true x ys = omega arith
one false x ys = omega arith

pub count_without : (p q : Message → Bool) (ms : List Message) (m : Message) → find q ms ≡ Some m → length (filter p (without q ms)) + bit (p m) ≡ length (filter p ms)
count_without p q [] m e = cc
count_without p q (x ∷ ms) m e = by (count_without p q ms m) (q x) refl
  where
    by : (find q ms ≡ Some m → length (filter p (without q ms)) + bit (p m) ≡ length (filter p ms)) → (b : Bool) → q x ≡ b
        → length (filter p (if q x then ms else x ∷ without q ms)) + bit (p m) ≡ length (cond (p x) (x ∷ filter p ms) (filter p ms))
    by ih true t =
        let found : Some x ≡ Some m = sym (ap (λ b. cond b (Some x) (find q ms)) t) ∙ e in
        let same : x ≡ m = cc in
        ap (λ b. length (filter p (if b then ms else x ∷ without q ms)) + bit (p m)) t
        ∙ ap (λ (y : Message). length (filter p ms) + bit (p y)) (sym same)
        ∙ sym (one (p x) x (filter p ms))
    by ih false t =
        let found : find q ms ≡ Some m = sym (ap (λ b. cond b (Some x) (find q ms)) t) ∙ e in
        let rest : length (filter p (without q ms)) + bit (p m) ≡ length (filter p ms) = ih found in
        ap (λ b. length (filter p (if b then ms else x ∷ without q ms)) + bit (p m)) t
        ∙ omega (arith, one (p x) x (filter p (without q ms)), one (p x) x (filter p ms), rest)

pub count_changed : (p q : Message → Bool) (f : Message → Message) (ms : List Message) (m : Message) → find q ms ≡ Some m → length (filter p (changed q f ms)) + bit (p m) ≡ length (filter p ms) + bit (p (f m))
count_changed p q f [] m e = cc
count_changed p q f (x ∷ ms) m e = by (count_changed p q f ms m) (q x) refl
  where
    by : (find q ms ≡ Some m → length (filter p (changed q f ms)) + bit (p m) ≡ length (filter p ms) + bit (p (f m))) → (b : Bool) → q x ≡ b
        → length (filter p (if q x then f x ∷ ms else x ∷ changed q f ms)) + bit (p m) ≡ length (cond (p x) (x ∷ filter p ms) (filter p ms)) + bit (p (f m))
    by ih true t =
        let found : Some x ≡ Some m = sym (ap (λ b. cond b (Some x) (find q ms)) t) ∙ e in
        let same : x ≡ m = cc in
        let new : length (filter p (if q x then f x ∷ ms else x ∷ changed q f ms)) ≡ length (cond (p (f x)) (f x ∷ filter p ms) (filter p ms)) = ap (λ b. length (filter p (if b then f x ∷ ms else x ∷ changed q f ms))) t in
        omega (arith, new, one (p (f x)) (f x) (filter p ms), one (p x) x (filter p ms), ap (λ (y : Message). bit (p y)) same, ap (λ (y : Message). bit (p (f y))) same)
    by ih false t =
        let found : find q ms ≡ Some m = sym (ap (λ b. cond b (Some x) (find q ms)) t) ∙ e in
        let rest : length (filter p (changed q f ms)) + bit (p m) ≡ length (filter p ms) + bit (p (f m)) = ih found in
        let new : length (filter p (if q x then f x ∷ ms else x ∷ changed q f ms)) ≡ length (cond (p x) (x ∷ filter p (changed q f ms)) (filter p (changed q f ms))) = ap (λ b. length (filter p (if b then f x ∷ ms else x ∷ changed q f ms))) t in
        omega (arith, new, one (p x) x (filter p (changed q f ms)), one (p x) x (filter p ms), rest)

pub count_pushed : (p : Message → Bool) (ms : List Message) (m : Message) → length (filter p (ms ++ m ∷ [])) ≡ length (filter p ms) + bit (p m)
count_pushed p ms m = ap length (filter-append p ms (m ∷ [])) ∙ length-append (filter p ms) (cond (p m) (m ∷ []) []) ∙ (let l : length (cond (p m) (m ∷ []) []) ≡ 0 + bit (p m) = one (p m) m [] in omega (arith, l))

-- none passes a test where none is counted
pub count_none : (p : Message → Bool) (ms : List Message) → (length (filter p ms) == 0) ≡ not (list_any p ms)
count_none p [] = refl
count_none p (x ∷ ms) = by (p x) (count_none p ms)
  where
    by : (b : Bool) → (length (filter p ms) == 0) ≡ not (list_any p ms) → (length (cond b (x ∷ filter p ms) (filter p ms)) == 0) ≡ not (b || list_any p ms)
    by true ih = grind (arith, nat_tests)
    by false ih = ih

-- what is held of messages by numbers
abbrev pub held_in : List Message → List ℕ → List Message
held_in ms ns = filter_map (λ n. find (has_number n) ms) ns

pub find_told : (n : ℕ) (items : List Shelved) → message_of items n ≡ find (has_number n) (told items)
find_told n [] = refl
find_told n (s ∷ items) = by (is_numbered n s) (find_told n items)
  where
    by : (b : Bool) → option_map (λ (x : Shelved). x.message) (find (is_numbered n) items) ≡ find (has_number n) (told items)
        → option_map (λ (x : Shelved). x.message) (cond b (Some s) (find (is_numbered n) items)) ≡ cond b (Some s.message) (find (has_number n) (told items))
    by true ih = refl
    by false ih = ih

pub held_told : (items : List Shelved) (ns : List ℕ) → held items ns ≡ held_in (told items) ns
held_told items [] = refl
held_told items (n ∷ ns) = (λ j. cons_option (find_told n items j) (held_told items ns j))

-- a change of the messages of a number
abbrev pub altered : ℕ → (Message → Message) → Message → Message
altered n f m = cond (has_number n m) (f m) m

module _ (n : ℕ) (f : Message → Message) (number : (m : Message) → (f m).number ≡ m.number) where
  alter_number : (m : Message) → (altered n f m).number ≡ m.number
  alter_number m = elim (has_number n m) as (λ b. (cond b (f m) m).number ≡ m.number) [ true ↦ number m | false ↦ refl ]

  find_altered : (k : ℕ) (ms : List Message) → find (has_number k) (map (altered n f) ms) ≡ option_map (altered n f) (find (has_number k) ms)
  find_altered k [] = refl
  find_altered k (x ∷ ms) = (λ j. cond (alter_number x j == k) (Some (altered n f x)) (find_altered k ms j)) ∙ by (has_number k x)
    where
      by : (b : Bool) → cond b (Some (altered n f x)) (option_map (altered n f) (find (has_number k) ms)) ≡ option_map (altered n f) (cond b (Some x) (find (has_number k) ms))
      by true = refl
      by false = refl

  held_altered : (ms : List Message) (ns : List ℕ) → held_in (map (altered n f) ms) ns ≡ map (altered n f) (held_in ms ns)
  held_altered ms [] = refl
  held_altered ms (k ∷ ns) = (λ j. cons_option (find_altered k ms j) (held_altered ms ns j)) ∙ by (find (has_number k) ms)
    where
      by : (o : Option Message) → cons_option (option_map (altered n f) o) (map (altered n f) (held_in ms ns)) ≡ map (altered n f) (cons_option o (held_in ms ns))
      by None = refl
      by (Some m) = refl

  filter_altered : (q : Message → Bool) → ((m : Message) → q (f m) ≡ q m) → (ms : List Message) → filter q (map (altered n f) ms) ≡ map (altered n f) (filter q ms)
  filter_altered q same [] = refl
  filter_altered q same (x ∷ ms) = (λ j. cond (here j) (altered n f x ∷ filter_altered q same ms j) (filter_altered q same ms j)) ∙ by (q x)
    where
      here : q (altered n f x) ≡ q x
      here = elim (has_number n x) as (λ b. q (cond b (f x) x) ≡ q x) [ true ↦ same x | false ↦ refl ]

      by : (b : Bool) → cond b (altered n f x ∷ map (altered n f) (filter q ms)) (map (altered n f) (filter q ms)) ≡ map (altered n f) (cond b (x ∷ filter q ms) (filter q ms))
      by true = refl
      by false = refl

  altered_above : (low : ℕ) (ms : List Message) → Ascends (λ m. m.number) low ms → n < low → map (altered n f) ms ≡ ms
  altered_above low [] h l = refl
  altered_above low (x ∷ ms) h l =
      let t : has_number n x ≡ false = let from : low ≤ x.number = h.0 in grind (arith, nat_tests, from) in
      (λ j. cond (t j) (f x) x ∷ altered_above (x.number + 1) ms h.1 (omega (arith, h.0)) j)

  changed_is : (low : ℕ) (ms : List Message) → Ascends (λ m. m.number) low ms → changed (has_number n) f ms ≡ map (altered n f) ms
  changed_is low [] h = refl
  changed_is low (x ∷ ms) h = by (changed_is (x.number + 1) ms h.1) (has_number n x) refl
    where
      by : changed (has_number n) f ms ≡ map (altered n f) ms → (b : Bool) → has_number n x ≡ b → (if b then f x ∷ ms else x ∷ changed (has_number n) f ms) ≡ cond b (f x) x ∷ map (altered n f) ms
      by ih true e = let here : x.number ≡ n = grind (arith, nat_tests, e) in ap (λ ys. f x ∷ ys) (sym (altered_above (x.number + 1) ms h.1 (omega (arith, here))))
      by ih false e = ap (λ ys. x ∷ ys) ih

  -- a group's list needs no change as a message changes
  pub held_changed : (g : Option (List ℕ)) (ms : List Message) (ns : List ℕ) → Ascends (λ m. m.number) 0 ms → ((m : Message) → (f m).group ≡ m.group) → held_in ms ns ≡ of_group g ms
      → held_in (changed (has_number n) f ms) ns ≡ of_group g (changed (has_number n) f ms)
  held_changed g ms ns a group e =
      ap (λ ys. held_in ys ns) (changed_is 0 ms a)
      ∙ held_altered ms ns
      ∙ ap (map (altered n f)) e
      ∙ sym (filter_altered (in_group g) (λ m. ap (same_text g) (group m)) ms)
      ∙ ap (of_group g) (sym (changed_is 0 ms a))

or_none : (o : Option Message) → option_or o None ≡ o
or_none None = refl
or_none (Some m) = refl

held_other : (ms : List Message) (m : Message) (ns : List ℕ) → All (λ k. k < m.number) ns → held_in (ms ++ m ∷ []) ns ≡ held_in ms ns
held_other ms m [] h = refl
held_other ms m (k ∷ ns) h =
    let less : k < m.number = All-head (λ j. j < m.number) k ns h in
    let away : has_number k m ≡ false = grind (arith, nat_tests, less) in
    let found : find (has_number k) (ms ++ m ∷ []) ≡ find (has_number k) ms =
    find-append (has_number k) ms (m ∷ []) ∙ ap (λ b. option_or (find (has_number k) ms) (cond b (Some m) None)) away ∙ or_none (find (has_number k) ms) in
    (λ j. cons_option (found j) (held_other ms m ns (All-tail (λ j. j < m.number) k ns h) j))

find_new : (ms : List Message) (m : Message) → All (λ x. x.number < m.number) ms → find (has_number m.number) (ms ++ m ∷ []) ≡ Some m
find_new ms m h =
    let self : has_number m.number m ≡ true = grind (arith, nat_tests) in
    find-append (has_number m.number) ms (m ∷ [])
    ∙ ap (λ o. option_or o (cond (has_number m.number m) (Some m) None)) (none_find (has_number m.number) ms (λ k d l. let less : (get_or ms k d).number < m.number = h k d l in grind (arith, nat_tests, less)))
    ∙ ap (λ b. cond b (Some m) None) self

held_new : (ms : List Message) (m : Message) (ns : List ℕ) → All (λ x. x.number < m.number) ms → All (λ k. k < m.number) ns → held_in (ms ++ m ∷ []) (ns ++ m.number ∷ []) ≡ held_in ms ns ++ m ∷ []
held_new ms m ns h k =
    filter_map-append (λ n. find (has_number n) (ms ++ m ∷ [])) ns (m.number ∷ [])
    ∙ (λ j. held_other ms m ns k j ++ cons_option (find_new ms m h j) [])

-- a group's list after a message came, with its number where it is of the group
pub held_pushed : (g : Option (List ℕ)) (ms : List Message) (m : Message) (ns : List ℕ) → All (λ x. x.number < m.number) ms → All (λ k. k < m.number) ns → held_in ms ns ≡ of_group g ms
    → held_in (ms ++ m ∷ []) (cond (in_group g m) (ns ++ m.number ∷ []) ns) ≡ of_group g (ms ++ m ∷ [])
held_pushed g ms m ns h k e = by (in_group g m) ∙ sym (filter-append (in_group g) ms (m ∷ []))
  where
    by : (b : Bool) → held_in (ms ++ m ∷ []) (cond b (ns ++ m.number ∷ []) ns) ≡ of_group g ms ++ cond b (m ∷ []) []
    by true = held_new ms m ns h k ∙ ap (λ ys. ys ++ m ∷ []) e
    by false = held_other ms m ns k ∙ e ∙ sym (append-nil (of_group g ms))

pub told_ascends : (low : ℕ) (items : List Shelved) → Ascends number_of low items → Ascends (λ m. m.number) low (told items)
told_ascends low [] h = tt
told_ascends low (x ∷ items) h = (h.0, told_ascends (number_of x + 1) items h.1)

pub told_all : (P : Message → Type 0) (items : List Shelved) → All (λ s. P s.message) items → All P (told items)
told_all P [] h = All-nil P
told_all P (x ∷ items) h = All-cons P x.message (told items) (All-head (λ (s : Shelved). P s.message) x items h) (told_all P items (All-tail (λ (s : Shelved). P s.message) x items h))

-- a group after a message left
pub grouped_without : (g : Option (List ℕ)) (n next : ℕ) (items : List Shelved) (s : Shelved) (k l : Kept) → Ascends number_of 0 items → find (is_numbered n) items ≡ Some s → IsGrouped items next g k
    → l.numbers ≡ k.numbers → l.out + bit (is_out g s.message) ≡ k.out → IsGrouped (without (is_numbered n) items) next g l
grouped_without g n next items s k l a e h same less =
    let count : length (filter (is_out g) (without (has_number n) (told items))) + bit (is_out g s.message) ≡ length (filter (is_out g) (told items)) =
    count_without (is_out g) (has_number n) (told items) s.message (told_find n items s e) in
    let left : out_of g (told (without (is_numbered n) items)) ≡ out_of g (without (has_number n) (told items)) = ap (out_of g) (told_without n items) in
    record {
      listed = ap (held (without (is_numbered n) items)) same ∙ listed_without g n items k.numbers a h.listed;
      counted = omega (arith, count, left, less, h.counted);
      below = subst (λ (ns : List ℕ). All (λ j. j < next) ns) (sym same) h.below;
    }

-- after one changed
pub grouped_changed : (g : Option (List ℕ)) (n next : ℕ) (items : List Shelved) (s : Shelved) (h : Shelved → Shelved) (f : Message → Message) (k l : Kept) → Ascends number_of 0 items → find (is_numbered n) items ≡ Some s
    → ((x : Shelved) → (h x).message ≡ f x.message) → ((m : Message) → (f m).number ≡ m.number) → ((m : Message) → (f m).group ≡ m.group) → IsGrouped items next g k
    → l.numbers ≡ k.numbers → l.out + bit (is_out g s.message) ≡ k.out + bit (is_out g (f s.message)) → IsGrouped (changed (is_numbered n) h items) next g l
grouped_changed g n next items s h f k l a e is number group was same less =
    let new : told (changed (is_numbered n) h items) ≡ changed (has_number n) f (told items) = told_changed n h f is items in
    let count : length (filter (is_out g) (changed (has_number n) f (told items))) + bit (is_out g s.message) ≡ length (filter (is_out g) (told items)) + bit (is_out g (f s.message)) =
    count_changed (is_out g) (has_number n) f (told items) s.message (told_find n items s e) in
    let left : out_of g (told (changed (is_numbered n) h items)) ≡ out_of g (changed (has_number n) f (told items)) = ap (out_of g) new in
    record {
      listed =
          held_told (changed (is_numbered n) h items) l.numbers
          ∙ (λ j. held_in (new j) (same j))
          ∙ held_changed n f number g (told items) k.numbers (told_ascends 0 items a) group (sym (held_told items k.numbers) ∙ was.listed)
          ∙ ap (of_group g) (sym new);
      counted = omega (arith, count, left, less, was.counted);
      below = subst (λ (ns : List ℕ). All (λ j. j < next) ns) (sym same) was.below;
    }

-- after one came, with the next number
pub grouped_pushed : (g : Option (List ℕ)) (next : ℕ) (items : List Shelved) (s : Shelved) (k l : Kept) → s.message.number ≡ next → All (λ x. number_of x < next) items → IsGrouped items next g k
    → l.numbers ≡ cond (in_group g s.message) (k.numbers ++ s.message.number ∷ []) k.numbers → l.out ≡ k.out + bit (is_out g s.message) → IsGrouped (items ++ s ∷ []) (next + 1) g l
grouped_pushed g next items s k l e all was same more =
    let new : told (items ++ s ∷ []) ≡ told items ++ s.message ∷ [] = map-append (λ (x : Shelved). x.message) items (s ∷ []) in
    let low : All (λ (x : Message). x.number < s.message.number) (told items) = told_all (λ (x : Message). x.number < s.message.number) items (subst (λ j. All (λ (x : Shelved). number_of x < j) items) (sym e) all) in
    let few : All (λ j. j < s.message.number) k.numbers = subst (λ i. All (λ j. j < i) k.numbers) (sym e) was.below in
    record {
      listed =
          held_told (items ++ s ∷ []) l.numbers
          ∙ (λ j. held_in (new j) (same j))
          ∙ held_pushed g (told items) s.message k.numbers low few (sym (held_told items k.numbers) ∙ was.listed)
          ∙ ap (of_group g) (sym new);
      counted = more ∙ ap (λ j. j + bit (is_out g s.message)) was.counted ∙ sym (ap (out_of g) new ∙ count_pushed (is_out g) (told items) s.message);
      below =
          subst (λ (ns : List ℕ). All (λ j. j < next + 1) ns) (sym same)
          (elim (in_group g s.message) as (λ b. All (λ j. j < next + 1) (cond b (k.numbers ++ s.message.number ∷ []) k.numbers)) [
            | true ↦ All-push (λ j. j < next + 1) k.numbers s.message.number (All-weaker (λ j. j < next) (λ j. j < next + 1) (λ j l. omega arith) k.numbers was.below) (omega (arith, e))
            | false ↦ All-weaker (λ j. j < next) (λ j. j < next + 1) (λ j l. omega arith) k.numbers was.below
          ]);
    }

-- as long as the messages and what a group's list holds stay
pub grouped_same : (g : Option (List ℕ)) (next : ℕ) (items after : List Shelved) (k l : Kept) → told after ≡ told items → IsGrouped items next g k → held items l.numbers ≡ held items k.numbers → All (λ n. n < next) l.numbers → l.out ≡ k.out → IsGrouped after next g l
grouped_same g next items after k l e h same below out =
    record {
      listed = held_told after l.numbers ∙ ap (λ ms. held_in ms l.numbers) e ∙ sym (held_told items l.numbers) ∙ same ∙ h.listed ∙ ap (of_group g) (sym e);
      counted = out ∙ h.counted ∙ ap (out_of g) (sym e);
      below = below;
    }

-- there are no more messages than numbers
pub few : (low next : ℕ) (items : List Shelved) → Ascends number_of low items → All (λ s. number_of s < next) items → low ≤ next → low + length items ≤ next
few low next [] a h l = omega arith
few low next (x ∷ items) a h l =
    let less : number_of x < next = All-head (λ (s : Shelved). number_of s < next) x items h in
    let rest : (number_of x + 1) + length items ≤ next = few (number_of x + 1) next items a.1 (All-tail (λ (s : Shelved). number_of s < next) x items h) (omega (arith, less)) in
    omega (arith, rest, a.0)
