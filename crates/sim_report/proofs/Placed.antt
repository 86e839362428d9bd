-- Numbers with values by slots: what a slot more or less does to them.
use Rattle.std.proofs.Common.{Less, Equal, Greater, Ordering, ◌≡◌, ◌==◌, ℕ, zero, suc, ◌+◌, ◌<◌, ◌≤◌, Bool, true, false, Option, Some, None, cond, get_or, nat_lt, take, All, List, [], ◌∷◌, ◌++◌, length, set, replicate, refl, sym, ap, ◌∙◌, arith}
use Rattle.std.specs.BTreeMap.{insert_entry, is_at}
use Rattle.std.specs.Map.{keys_of, remove_entry}
use Rattle.std.specs.Ordering.{match_ordering, nat_cmp}
use Rattle.std.proofs.lemmas.Bool.Decides.{nat_tests}
use Rattle.std.proofs.lemmas.List.{append-nil, append_assoc}
use Rattle.std.proofs.lemmas.Map.Views.{All-keys-insert_entry}
use Rattle.std.proofs.lemmas.List.Elements.{All-head, All-tail, All-weaker}
use Rattle.sim_report.specs.Numbered.{placed, tabled}

-- slots without values, behind the others
placed-none : (more first : ℕ) → placed first (replicate more None) ≡ []
placed-none zero first = refl
placed-none (suc more) first = placed-none more (first + 1)

pub placed-trail : (more first : ℕ) (slots : List (Option ℕ)) → placed first (slots ++ replicate more None) ≡ placed first slots
placed-trail more first [] = placed-none more first
placed-trail more first (Some v ∷ slots) = ap (λ (ms : List (ℕ × ℕ)). (first, v) ∷ ms) (placed-trail more (first + 1) slots)
placed-trail more first (None ∷ slots) = placed-trail more (first + 1) slots

-- a number before all of them
insert-before : (n v first : ℕ) (slots : List (Option ℕ)) → n < first → insert_entry nat_cmp (placed first slots) n v ≡ (n, v) ∷ placed first slots
insert-before n v first [] h = refl
insert-before n v first (Some w ∷ slots) h =
    let less : nat_lt n first ≡ true = grind (arith, nat_tests) in
    rw less refl
insert-before n v first (None ∷ slots) h = insert-before n v (first + 1) slots (omega arith)

remove-before : (n first : ℕ) (slots : List (Option ℕ)) → n < first → remove_entry (is_at (nat_cmp n)) (placed first slots) ≡ placed first slots
remove-before n first [] h = refl
remove-before n first (Some w ∷ slots) h =
    let less : nat_lt n first ≡ true = grind (arith, nat_tests) in
    let rest = remove-before n (first + 1) slots (omega arith) in
    rw (less, rest) refl
remove-before n first (None ∷ slots) h = remove-before n (first + 1) slots (omega arith)

-- a number at a place
pub insert-at : (i n v first : ℕ) (slots : List (Option ℕ)) → n ≡ first + i → i < length slots
    → insert_entry nat_cmp (placed first slots) n v ≡ placed first (set slots i (Some v))
insert-at i n v first [] e h = absurd (omega arith)
insert-at zero n v first (Some w ∷ slots) e h =
    let no : nat_lt n first ≡ false = grind (arith, nat_tests) in
    let same : (n == first) ≡ true = grind (arith, nat_tests) in
    rw (no, same) refl
insert-at zero n v first (None ∷ slots) e h =
    insert-before n v (first + 1) slots (omega arith) ∙ ap (λ (m : ℕ). (m, v) ∷ placed (first + 1) slots) (omega arith)
insert-at (suc i) n v first (Some w ∷ slots) e h =
    let no : nat_lt n first ≡ false = grind (arith, nat_tests) in
    let other : (n == first) ≡ false = grind (arith, nat_tests) in
    let rest = insert-at i n v (first + 1) slots (omega arith) (omega arith) in
    rw (no, other, rest) refl
insert-at (suc i) n v first (None ∷ slots) e h = insert-at i n v (first + 1) slots (omega arith) (omega arith)

remove-at : (i n first : ℕ) (slots : List (Option ℕ)) → n ≡ first + i → i < length slots
    → remove_entry (is_at (nat_cmp n)) (placed first slots) ≡ placed first (set slots i None)
remove-at i n first [] e h = absurd (omega arith)
remove-at zero n first (Some w ∷ slots) e h =
    let no : nat_lt n first ≡ false = grind (arith, nat_tests) in
    let same : (n == first) ≡ true = grind (arith, nat_tests) in
    rw (no, same) refl
remove-at zero n first (None ∷ slots) e h = remove-before n (first + 1) slots (omega arith)
remove-at (suc i) n first (Some w ∷ slots) e h =
    let no : nat_lt n first ≡ false = grind (arith, nat_tests) in
    let other : (n == first) ≡ false = grind (arith, nat_tests) in
    let rest = remove-at i n (first + 1) slots (omega arith) (omega arith) in
    rw (no, other, rest) refl
remove-at (suc i) n first (None ∷ slots) e h = remove-at i n (first + 1) slots (omega arith) (omega arith)

-- a number past all of them
remove-past : (n first : ℕ) (slots : List (Option ℕ)) → first + length slots ≤ n → remove_entry (is_at (nat_cmp n)) (placed first slots) ≡ placed first slots
remove-past n first [] h = refl
remove-past n first (Some w ∷ slots) h =
    let no : nat_lt n first ≡ false = grind (arith, nat_tests) in
    let other : (n == first) ≡ false = grind (arith, nat_tests) in
    let rest = remove-past n (first + 1) slots (omega arith) in
    rw (no, other, rest) refl
remove-past n first (None ∷ slots) h = remove-past n (first + 1) slots (omega arith)

pub insert-past : (n v first : ℕ) (slots : List (Option ℕ)) → n ≡ first + length slots
    → insert_entry nat_cmp (placed first slots) n v ≡ placed first (slots ++ Some v ∷ [])
insert-past n v first [] e = ap (λ (m : ℕ). (m, v) ∷ []) (omega arith)
insert-past n v first (Some w ∷ slots) e =
    let no : nat_lt n first ≡ false = grind (arith, nat_tests) in
    let other : (n == first) ≡ false = grind (arith, nat_tests) in
    let rest = insert-past n v (first + 1) slots (omega arith) in
    rw (no, other, rest) refl
insert-past n v first (None ∷ slots) e = insert-past n v (first + 1) slots (omega arith)

-- numbers below a first one, and others from it on
pub insert-low : (n v first : ℕ) (low : List (ℕ × ℕ)) (slots : List (Option ℕ)) → n < first
    → insert_entry nat_cmp (tabled low first slots) n v ≡ tabled (insert_entry nat_cmp low n v) first slots
insert-low n v first [] slots h = insert-before n v first slots h
insert-low n v first (m ∷ low) slots h = go (nat_cmp n m.0) (insert-low n v first low slots h)
  where
    go : (o : Ordering) → insert_entry nat_cmp (low ++ placed first slots) n v ≡ insert_entry nat_cmp low n v ++ placed first slots
        → match_ordering o ((n, v) ∷ m ∷ (low ++ placed first slots)) ((m.0, v) ∷ (low ++ placed first slots)) (m ∷ insert_entry nat_cmp (low ++ placed first slots) n v)
        ≡ match_ordering o ((n, v) ∷ m ∷ low) ((m.0, v) ∷ low) (m ∷ insert_entry nat_cmp low n v) ++ placed first slots
    go Less rest = refl
    go Equal rest = refl
    go Greater rest = ap (λ (ms : List (ℕ × ℕ)). m ∷ ms) rest

pub remove-low : (n first : ℕ) (low : List (ℕ × ℕ)) (slots : List (Option ℕ)) → n < first
    → remove_entry (is_at (nat_cmp n)) (tabled low first slots) ≡ tabled (remove_entry (is_at (nat_cmp n)) low) first slots
remove-low n first [] slots h = remove-before n first slots h
remove-low n first (m ∷ low) slots h = go (is_at (nat_cmp n) m.0) (remove-low n first low slots h)
  where
    go : (b : Bool) → remove_entry (is_at (nat_cmp n)) (low ++ placed first slots) ≡ remove_entry (is_at (nat_cmp n)) low ++ placed first slots
        → cond b (low ++ placed first slots) (m ∷ remove_entry (is_at (nat_cmp n)) (low ++ placed first slots)) ≡ cond b low (m ∷ remove_entry (is_at (nat_cmp n)) low) ++ placed first slots
    go true rest = refl
    go false rest = ap (λ (ms : List (ℕ × ℕ)). m ∷ ms) rest

-- a number past the low ones
insert-past_low : (n v : ℕ) (low ms : List (ℕ × ℕ)) → All (λ m. m < n) (keys_of low) → insert_entry nat_cmp (low ++ ms) n v ≡ low ++ insert_entry nat_cmp ms n v
insert-past_low n v [] ms a = refl
insert-past_low n v (m ∷ low) ms a =
    let h = All-head (λ m. m < n) m.0 (keys_of low) a in
    let no : nat_lt n m.0 ≡ false = grind (arith, nat_tests) in
    let other : (n == m.0) ≡ false = grind (arith, nat_tests) in
    let rest = insert-past_low n v low ms (All-tail (λ m. m < n) m.0 (keys_of low) a) in
    rw (no, other, rest) refl

remove-past_low : (n : ℕ) (low ms : List (ℕ × ℕ)) → All (λ m. m < n) (keys_of low) → remove_entry (is_at (nat_cmp n)) (low ++ ms) ≡ low ++ remove_entry (is_at (nat_cmp n)) ms
remove-past_low n [] ms a = refl
remove-past_low n (m ∷ low) ms a =
    let h = All-head (λ m. m < n) m.0 (keys_of low) a in
    let no : nat_lt n m.0 ≡ false = grind (arith, nat_tests) in
    let other : (n == m.0) ≡ false = grind (arith, nat_tests) in
    let rest = remove-past_low n low ms (All-tail (λ m. m < n) m.0 (keys_of low) a) in
    rw (no, other, rest) refl

pub lower : (n first : ℕ) (low : List (ℕ × ℕ)) → first ≤ n → All (λ m. m < first) (keys_of low) → All (λ m. m < n) (keys_of low)
lower n first low h a = All-weaker (λ m. m < first) (λ m. m < n) (λ m k. omega arith) (keys_of low) a

-- a number behind those of a list
pub insert-last : (n v : ℕ) (low : List (ℕ × ℕ)) → All (λ m. m < n) (keys_of low) → insert_entry nat_cmp low n v ≡ low ++ (n, v) ∷ []
insert-last n v low a = ap (λ (ms : List (ℕ × ℕ)). insert_entry nat_cmp ms n v) (sym (append-nil low)) ∙ insert-past_low n v low [] a

-- a number in the slots, where the low ones are below the first
pub insert-slot : (n v first : ℕ) (low ms : List (ℕ × ℕ)) (slots : List (Option ℕ)) → All (λ m. m < first) (keys_of low) → first ≤ n
    → ms ≡ insert_entry nat_cmp (placed first slots) n v → low ++ ms ≡ insert_entry nat_cmp (tabled low first slots) n v
insert-slot n v first low ms slots a h is =
    ap (λ (xs : List (ℕ × ℕ)). low ++ xs) is ∙ sym (insert-past_low n v low (placed first slots) (lower n first low h a))

pub remove-slot : (i n first : ℕ) (low : List (ℕ × ℕ)) (slots : List (Option ℕ)) → All (λ m. m < first) (keys_of low) → n ≡ first + i → i < length slots
    → remove_entry (is_at (nat_cmp n)) (tabled low first slots) ≡ tabled low first (set slots i None)
remove-slot i n first low slots a e h =
    remove-past_low n low (placed first slots) (lower n first low (omega arith) a) ∙ ap (λ (ms : List (ℕ × ℕ)). low ++ ms) (remove-at i n first slots e h)

pub remove-behind : (n first : ℕ) (low : List (ℕ × ℕ)) (slots : List (Option ℕ)) → All (λ m. m < first) (keys_of low) → first ≤ n → first + length slots ≤ n
    → remove_entry (is_at (nat_cmp n)) (tabled low first slots) ≡ tabled low first slots
remove-behind n first low slots a f h =
    remove-past_low n low (placed first slots) (lower n first low f a) ∙ ap (λ (ms : List (ℕ × ℕ)). low ++ ms) (remove-past n first slots h)

-- one more of the slots
pub placed-some : (i first : ℕ) (slots : List (Option ℕ)) (v : ℕ) (d : Option ℕ) → i < length slots → get_or slots i d ≡ Some v
    → placed first (take (suc i) slots) ≡ placed first (take i slots) ++ (first + i, v) ∷ []
placed-some i first [] v d h e = absurd (omega arith)
placed-some zero first (Some w ∷ slots) v d h e =
    let one : first ≡ first + 0 = omega arith in
    let is : w ≡ v = cc in
    ap (λ (x : ℕ). (first, x) ∷ []) is ∙ ap (λ (n : ℕ). (n, v) ∷ []) one
placed-some zero first (None ∷ slots) v d h e = absurd (cc)
placed-some (suc i) first (Some w ∷ slots) v d h e =
    ap (λ (ms : List (ℕ × ℕ)). (first, w) ∷ ms)
    (placed-some i (first + 1) slots v d (omega arith) e ∙ ap (λ (n : ℕ). placed (first + 1) (take i slots) ++ (n, v) ∷ []) (omega arith))
placed-some (suc i) first (None ∷ slots) v d h e =
    placed-some i (first + 1) slots v d (omega arith) e ∙ ap (λ (n : ℕ). placed (first + 1) (take i slots) ++ (n, v) ∷ []) (omega arith)

pub placed-empty : (i first : ℕ) (slots : List (Option ℕ)) (d : Option ℕ) → i < length slots → get_or slots i d ≡ None
    → placed first (take (suc i) slots) ≡ placed first (take i slots)
placed-empty i first [] d h e = absurd (omega arith)
placed-empty zero first (Some w ∷ slots) d h e = absurd (cc)
placed-empty zero first (None ∷ slots) d h e = refl
placed-empty (suc i) first (Some w ∷ slots) d h e = ap (λ (ms : List (ℕ × ℕ)). (first, w) ∷ ms) (placed-empty i (first + 1) slots d (omega arith) e)
placed-empty (suc i) first (None ∷ slots) d h e = placed-empty i (first + 1) slots d (omega arith) e

-- the first slot's number with its value is put behind the low ones
pub retired : (first v : ℕ) (low after : List (ℕ × ℕ)) (rest : List (Option ℕ)) → All (λ n. n < first) (keys_of low) → after ≡ insert_entry nat_cmp low first v
    → (after ++ placed (first + 1) rest ≡ low ++ placed first (Some v ∷ rest)) × All (λ n. n < first + 1) (keys_of after)
retired first v low after rest a is =
    let last = is ∙ insert-last first v low a in (
      ap (λ (ms : List (ℕ × ℕ)). ms ++ placed (first + 1) rest) last ∙ append_assoc low ((first, v) ∷ []) (placed (first + 1) rest),
      rw is (All-keys-insert_entry nat_cmp first v (λ n. n < first + 1) low (lower (first + 1) first low (omega arith) a) (omega arith)),
    )

-- without slots they can begin anywhere
pub tabled-none : (n first : ℕ) (low : List (ℕ × ℕ)) (slots : List (Option ℕ)) → length slots ≡ 0 → tabled low n slots ≡ tabled low first slots
tabled-none n first low [] e = refl
tabled-none n first low (slot ∷ slots) e = absurd (omega arith)
