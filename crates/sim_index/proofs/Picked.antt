-- Values that stay, each by the answer about it, and their marks.
use Rattle.std.proofs.Common.{ℕ, zero, suc, ◌≡◌, ◌+◌, ◌<◌, ◌≤◌, Bool, true, false, true≢false, cond, if◌then◌else◌, List, [], ◌∷◌, ◌++◌, drop, filter, get_or, inl, inr, length, map, set, take, append-nil, arith, refl, ap, sym, ◌∙◌}
use Rattle.std.proofs.lemmas.Bool.{cases_lt}
use Rattle.std.proofs.lemmas.Grind.{take-set_at}
use Rattle.std.proofs.lemmas.List.{drop-drop, drop-set-lt, get_or-drop, get_or_past, length-set, length-take-le, take-set, take-set-le, take_all}
use Rattle.std.proofs.lemmas.List.Edits.{swap_is}
use Rattle.std.specs.List.{AllZip, items_where_true, swap}
use Rattle.sim_index.specs.declared.mark.Mark.{Mark}
use Rattle.sim_index.specs.Marked.{HasLeaves, IsPicked, Marked}
use Rattle.sim_index.specs.Marks.{no_mark, node}
use Rattle.sim_index.proofs.Leaves.{same_taken}

pub asked_more : {A B : Type 0} (R : A → B → Type 0) (xs : List A) (ys : List B) (x : A) (y : B) → AllZip R xs ys → R x y → AllZip R (xs ++ x ∷ []) (ys ++ y ∷ [])
asked_more R [] [] x y h k = (k, tt)
asked_more R [] (b ∷ ys) x y h k = absurd h
asked_more R (a ∷ xs) [] x y h k = absurd h
asked_more R (a ∷ xs) (b ∷ ys) x y h k = (h.0, asked_more R xs ys x y h.1 k)

-- as many values stay as marks
pub picked_long : {A B : Type 0} (bs : List Bool) (xs : List A) (ys : List B) → length xs ≡ length ys → length (items_where_true bs xs) ≡ length (items_where_true bs ys)
picked_long [] xs ys e = refl
picked_long (b ∷ bs) [] [] e = refl
picked_long (b ∷ bs) [] (y ∷ ys) e = absurd (omega arith)
picked_long (b ∷ bs) (x ∷ xs) [] e = absurd (omega arith)
picked_long (true ∷ bs) (x ∷ xs) (y ∷ ys) e = let rest : length (items_where_true bs xs) ≡ length (items_where_true bs ys) = picked_long bs xs ys (omega arith) in omega arith
picked_long (false ∷ bs) (x ∷ xs) (y ∷ ys) e = picked_long bs xs ys (omega arith)

-- values that stay, beside a tree of the marks that do
pub record AreKept {A : Type 0} (told : List Bool) (all : List A) (leaves : List Mark) (kept : List A) (tree : List Mark) : Type 0 where
  pub values : kept ≡ items_where_true told all
  pub marks : take (length kept) tree ≡ items_where_true told (take (length all) leaves)
  pub more : length kept < length tree
  pub fits : HasLeaves (length kept) tree

pub are_kept : {A : Type 0} (told bs : List Bool) (values kept : List A) (leaves ms tree : List Mark) → length values ≤ length leaves → length told ≡ length values → bs ≡ told → ms ≡ leaves → kept ≡ items_where_true told values
    → length (items_where_true bs (take (length bs) ms)) < length tree → ((i : ℕ) → node tree i ≡ node (items_where_true bs (take (length bs) ms)) i) → AreKept told values leaves kept tree
are_kept told bs values kept leaves ms tree room all answers marked picked more same =
    let marks : List Mark = items_where_true bs (take (length bs) ms) in
    let stay : marks ≡ items_where_true told (take (length values) leaves) = (λ j. items_where_true (answers j) (take (length (answers j)) (marked j))) ∙ ap (λ k. items_where_true told (take k leaves)) all in
    let long : length kept ≡ length marks = ap length picked ∙ picked_long told values (take (length values) leaves) (sym (length-take-le (length values) leaves room)) ∙ ap length (sym stay) in
    record {
      values = picked;
      marks = same_taken (length kept) tree marks (omega (arith, long, more)) (omega (arith, long)) same ∙ take_all (length kept) marks (omega (arith, long)) ∙ stay;
      more = omega (arith, long, more);
      fits = record { room = omega (arith, long, more); rest = λ i l. same i ∙ get_or_past marks i no_mark (omega (arith, long, l)) };
    }

module _ {A : Type 0} (mark : A → Mark) where
  -- the marks of the values that stay
  pub picked_marks : (bs : List Bool) (xs : List A) → items_where_true bs (map mark xs) ≡ map mark (items_where_true bs xs)
  picked_marks [] xs = refl
  picked_marks (b ∷ bs) [] = refl
  picked_marks (true ∷ bs) (x ∷ xs) = ap (λ rest. mark x ∷ rest) (picked_marks bs xs)
  picked_marks (false ∷ bs) (x ∷ xs) = picked_marks bs xs

module _ {A : Type 0} (answers : A → Bool → Type 0) (test : A → Bool) (told : (x : A) (b : Bool) → answers x b → b ≡ test x) where
  first_picked : (x : A) (xs : List A) (bs : List Bool) (b : Bool) → b ≡ test x → items_where_true bs xs ≡ filter test xs → items_where_true (b ∷ bs) (x ∷ xs) ≡ filter test (x ∷ xs)
  first_picked x xs bs true e rest = ap (λ l. x ∷ l) rest ∙ ap (λ a. cond a (x ∷ filter test xs) (filter test xs)) e
  first_picked x xs bs false e rest = rest ∙ ap (λ a. cond a (x ∷ filter test xs) (filter test xs)) e

  -- where the answers are those of a test, the values stay that it picks
  pub picked_filter : (xs : List A) (bs : List Bool) → AllZip answers xs bs → items_where_true bs xs ≡ filter test xs
  picked_filter [] [] h = refl
  picked_filter [] (b ∷ bs) h = refl
  picked_filter (x ∷ xs) [] h = absurd h
  picked_filter (x ∷ xs) (b ∷ bs) h = first_picked x xs bs b (told x b h.0) (picked_filter xs bs h.1)

  pub picked_values : (old new : Marked A) → IsPicked answers old new → new.values ≡ filter test old.values
  picked_values old new h = h.values ∙ picked_filter old.values h.told h.asked

-- each value keeps its mark
pub picked_marked : {A : Type 0} (mark : A → Mark) (answers : A → Bool → Type 0) (old new : Marked A) → IsPicked answers old new → old.marks ≡ map mark old.values → new.marks ≡ map mark new.values
picked_marked mark answers old new h e = h.marks ∙ ap (items_where_true h.told) e ∙ picked_marks mark h.told old.values ∙ ap (map mark) (sym h.values)

-- the answers about one value more, which stays or leaves
pub picked_more : {X : Type 0} (told : List Bool) (xs : List X) (place : ℕ) (b d : Bool) (x : X) → place < length told → length told ≡ length xs → get_or told place d ≡ b
    → items_where_true (take (suc place) told) xs ≡ items_where_true (take place told) xs ++ (if b then get_or xs place x ∷ [] else [])
picked_more [] xs place b d x within long is = absurd (omega arith)
picked_more (t ∷ told) [] place b d x within long is = absurd (omega arith)
picked_more (true ∷ told) (y ∷ xs) zero true d x within long is = refl
picked_more (true ∷ told) (y ∷ xs) zero false d x within long is = absurd (true≢false is)
picked_more (false ∷ told) (y ∷ xs) zero true d x within long is = absurd (true≢false (sym is))
picked_more (false ∷ told) (y ∷ xs) zero false d x within long is = refl
picked_more (true ∷ told) (y ∷ xs) (suc place) b d x within long is = ap (λ (ys : List _). y ∷ ys) (picked_more told xs place b d x (omega arith) (omega arith) is)
picked_more (false ∷ told) (y ∷ xs) (suc place) b d x within long is = picked_more told xs place b d x (omega arith) (omega arith) is

-- a value that comes to the end of those before it, in return for the one there
pub taken_swap : {X : Type 0} (xs : List X) (k place : ℕ) (x : X) → k ≤ place → place < length xs → take (k + 1) (swap xs k place) ≡ take k xs ++ get_or xs place x ∷ []
taken_swap {X} xs k place x before within =
    let first = set xs k (get_or xs place x) in
    let is : swap xs k place ≡ set first place (get_or xs k x) = sym (swap_is xs k place x (omega (arith, before, within)) within) in
    ap (take (k + 1)) is
    ∙ elim (cases_lt k place) [
      | inl l ↦ take-set-le (k + 1) first place (get_or xs k x) (omega (arith, l)) ∙ take-set_at xs k (k + 1) (get_or xs place x) refl (omega (arith, before, within))
      | inr l ↦
          let same : place ≡ k = omega (arith, before, l) in
          ap (λ (p : ℕ). take (k + 1) (set first p (get_or xs k x))) same
          ∙ take-set_at first k (k + 1) (get_or xs k x) refl (omega (arith, length-set xs k (get_or xs place x), before, within))
          ∙ ap (λ (ys : List X). ys ++ get_or xs k x ∷ []) (take-set xs k (get_or xs place x))
          ∙ ap (λ (p : ℕ). take k xs ++ get_or xs p x ∷ []) (sym same)
    ]

pub dropped_swap : {X : Type 0} (xs : List X) (k place : ℕ) (x : X) → k ≤ place → place < length xs → drop (place + 1) (swap xs k place) ≡ drop (place + 1) xs
dropped_swap xs k place x before within =
    let first = set xs k (get_or xs place x) in
    ap (drop (place + 1)) (sym (swap_is xs k place x (omega (arith, before, within)) within))
    ∙ drop-set-lt (place + 1) first place (get_or xs k x) (omega arith)
    ∙ drop-set-lt (place + 1) xs k (get_or xs place x) (omega (arith, before))

-- what is left behind a place, one value on
rest_more : {X : Type 0} (now old : List X) (place : ℕ) → drop place now ≡ drop place old → drop (place + 1) now ≡ drop (place + 1) old
rest_more now old place rest = sym (drop-drop 1 place now) ∙ ap (drop 1) rest ∙ drop-drop 1 place old

-- a value that stays comes to the front, and one that leaves stays where it is
pub gathered : {X : Type 0} (told : List Bool) (old now : List X) (kept place : ℕ) → place < length told → length now ≡ length told → length told ≡ length old → kept ≤ place
    → take kept now ≡ items_where_true (take place told) old → drop place now ≡ drop place old → get_or told place false ≡ true
    → (take (kept + 1) (swap now kept place) ≡ items_where_true (take (place + 1) told) old) × (drop (place + 1) (swap now kept place) ≡ drop (place + 1) old)
gathered told old [] kept place within long all before front rest is = absurd (omega (arith, within, long))
gathered {X} told old (x ∷ now) kept place within long all before front rest is =
    let at : place + 0 ≡ place = omega arith in
    let next : place + 1 ≡ suc place = omega arith in
    let here : get_or (x ∷ now) place x ≡ get_or old place x =
    ap (λ (n : ℕ). get_or (x ∷ now) n x) (sym at) ∙ sym (get_or-drop place (x ∷ now) 0 x) ∙ ap (λ (ys : List X). get_or ys 0 x) rest ∙ get_or-drop place old 0 x ∙ ap (λ (n : ℕ). get_or old n x) at in (
      taken_swap (x ∷ now) kept place x before (omega (arith, within, long))
          ∙ (λ j. front j ++ here j ∷ [])
          ∙ sym (picked_more told old place true false x within all is)
          ∙ ap (λ (n : ℕ). items_where_true (take n told) old) (sym next),
      dropped_swap (x ∷ now) kept place x before (omega (arith, within, long)) ∙ rest_more (x ∷ now) old place rest,
    )

pub left_out : {X : Type 0} (told : List Bool) (old now : List X) (kept place : ℕ) → place < length told → length now ≡ length told → length told ≡ length old
    → take kept now ≡ items_where_true (take place told) old → drop place now ≡ drop place old → get_or told place false ≡ false
    → (take kept now ≡ items_where_true (take (place + 1) told) old) × (drop (place + 1) now ≡ drop (place + 1) old)
left_out told old [] kept place within long all front rest is = absurd (omega (arith, within, long))
left_out told old (x ∷ now) kept place within long all front rest is =
    let next : place + 1 ≡ suc place = omega arith in (
      front
          ∙ sym (append-nil (items_where_true (take place told) old))
          ∙ sym (picked_more told old place false false x within all is)
          ∙ ap (λ (n : ℕ). items_where_true (take n told) old) (sym next),
      rest_more (x ∷ now) old place rest,
    )

-- as many values stay as there are answers that they do
pub picked_count : {X : Type 0} (told : List Bool) (xs : List X) → length told ≡ length xs → length (items_where_true told xs) ≡ length (filter (λ stays. stays) told)
picked_count [] xs e = refl
picked_count (b ∷ told) [] e = absurd (omega arith)
picked_count (true ∷ told) (x ∷ xs) e = let rest = picked_count told xs (omega arith) in omega (arith, rest)
picked_count (false ∷ told) (x ∷ xs) e = picked_count told xs (omega arith)
