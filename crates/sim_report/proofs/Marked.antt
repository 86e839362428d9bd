-- Numbers by flags: what a flag more or less does to them.
use Rattle.std.proofs.Common.{Less, Equal, Greater, Ordering, ◌≡◌, ◌==◌, ℕ, zero, suc, ◌+◌, ◌<◌, ◌≤◌, Bool, true, false, cond, nat_lt, All, List, [], ◌∷◌, ◌++◌, length, set, get_or, replicate, take, refl, sym, ap, ◌∙◌, arith}
use Rattle.std.specs.BTreeMap.{is_at}
use Rattle.std.specs.BTreeSet.{insert_key}
use Rattle.std.specs.List.{list_any}
use Rattle.std.specs.Ordering.{is_eq, match_ordering, nat_cmp}
use Rattle.std.specs.Set.{remove_key}
use Rattle.std.proofs.lemmas.Bool.Decides.{nat_tests}
use Rattle.std.proofs.lemmas.List.{append-nil, append_assoc}
use Rattle.std.proofs.lemmas.List.Elements.{All-append, All-cons, All-head, All-nil, All-tail, All-weaker}
use Rattle.sim_report.specs.Numbered.{marked, numbered}

-- flags that are not set, behind the others
marked-none : (more first : ℕ) → marked first (replicate more false) ≡ []
marked-none zero first = refl
marked-none (suc more) first = marked-none more (first + 1)

pub marked-trail : (more first : ℕ) (bs : List Bool) → marked first (bs ++ replicate more false) ≡ marked first bs
marked-trail more first [] = marked-none more first
marked-trail more first (true ∷ bs) = ap (λ (ns : List ℕ). first ∷ ns) (marked-trail more (first + 1) bs)
marked-trail more first (false ∷ bs) = marked-trail more (first + 1) bs

-- one more of the flags
marked-more : (i first : ℕ) (bs : List Bool) (d : Bool) → i < length bs
    → marked first (take (suc i) bs) ≡ marked first (take i bs) ++ cond (get_or bs i d) ((first + i) ∷ []) []
marked-more i first [] d h = absurd (omega arith)
marked-more zero first (true ∷ bs) d h = ap (λ (n : ℕ). n ∷ []) (omega arith)
marked-more zero first (false ∷ bs) d h = refl
marked-more (suc i) first (true ∷ bs) d h =
    ap (λ (ns : List ℕ). first ∷ ns)
    (marked-more i (first + 1) bs d (omega arith) ∙ ap (λ (n : ℕ). marked (first + 1) (take i bs) ++ cond (get_or bs i d) (n ∷ []) []) (omega arith))
marked-more (suc i) first (false ∷ bs) d h =
    marked-more i (first + 1) bs d (omega arith) ∙ ap (λ (n : ℕ). marked (first + 1) (take i bs) ++ cond (get_or bs i d) (n ∷ []) []) (omega arith)

-- the numbers are below that behind the last flag
pub marked-below : (n first : ℕ) (bs : List Bool) → first + length bs ≤ n → All (λ m. m < n) (marked first bs)
marked-below n first [] h = All-nil (λ m. m < n)
marked-below n first (true ∷ bs) h = All-cons (λ m. m < n) first (marked (first + 1) bs) (omega arith) (marked-below n (first + 1) bs (omega arith))
marked-below n first (false ∷ bs) h = marked-below n (first + 1) bs (omega arith)

marked-taken : (i n first : ℕ) (bs : List Bool) → first + i ≤ n → All (λ m. m < n) (marked first (take i bs))
marked-taken zero n first bs h = All-nil (λ m. m < n)
marked-taken (suc i) n first [] h = All-nil (λ m. m < n)
marked-taken (suc i) n first (true ∷ bs) h = All-cons (λ m. m < n) first (marked (first + 1) (take i bs)) (omega arith) (marked-taken i n (first + 1) bs (omega arith))
marked-taken (suc i) n first (false ∷ bs) h = marked-taken i n (first + 1) bs (omega arith)

-- without numbers the flags can begin anywhere
marked-empty : (i n first : ℕ) (bs : List Bool) → length (marked first bs) ≡ 0 → marked n (take i bs) ≡ []
marked-empty zero n first bs e = refl
marked-empty (suc i) n first [] e = refl
marked-empty (suc i) n first (true ∷ bs) e = absurd (omega arith)
marked-empty (suc i) n first (false ∷ bs) e = marked-empty i (n + 1) (first + 1) bs e

pub numbered-none : (i n first : ℕ) (low : List ℕ) (bs : List Bool) → length (numbered low first bs) ≡ 0 → numbered low n (take i bs) ≡ []
numbered-none i n first [] bs e = marked-empty i n first bs e
numbered-none i n first (m ∷ low) bs e = absurd (omega arith)

pub low-none : (n first : ℕ) (low : List ℕ) (bs : List Bool) → length (numbered low first bs) ≡ 0 → All (λ m. m < n) low
low-none n first [] bs e = All-nil (λ m. m < n)
low-none n first (m ∷ low) bs e = absurd (omega arith)

-- a number before all of them
insert-before : (n first : ℕ) (bs : List Bool) → n < first → insert_key nat_cmp (marked first bs) n ≡ n ∷ marked first bs
insert-before n first [] h = refl
insert-before n first (true ∷ bs) h =
    let less : nat_lt n first ≡ true = grind (arith, nat_tests) in
    rw less refl
insert-before n first (false ∷ bs) h = insert-before n (first + 1) bs (omega arith)

remove-before : (n first : ℕ) (bs : List Bool) → n < first → remove_key (is_at (nat_cmp n)) (marked first bs) ≡ marked first bs
remove-before n first [] h = refl
remove-before n first (true ∷ bs) h =
    let less : nat_lt n first ≡ true = grind (arith, nat_tests) in
    let rest = remove-before n (first + 1) bs (omega arith) in
    rw (less, rest) refl
remove-before n first (false ∷ bs) h = remove-before n (first + 1) bs (omega arith)

any-before : (n first : ℕ) (bs : List Bool) → n < first → list_any (λ m. m == n) (marked first bs) ≡ false
any-before n first [] h = refl
any-before n first (true ∷ bs) h =
    let other : (first == n) ≡ false = grind (arith, nat_tests) in
    let rest = any-before n (first + 1) bs (omega arith) in
    rw (other, rest) refl
any-before n first (false ∷ bs) h = any-before n (first + 1) bs (omega arith)

-- a number at a place
insert-at : (i n first : ℕ) (bs : List Bool) → n ≡ first + i → i < length bs → insert_key nat_cmp (marked first bs) n ≡ marked first (set bs i true)
insert-at i n first [] e h = absurd (omega arith)
insert-at zero n first (true ∷ bs) e h =
    let no : nat_lt n first ≡ false = grind (arith, nat_tests) in
    let same : (n == first) ≡ true = grind (arith, nat_tests) in
    rw (no, same) refl
insert-at zero n first (false ∷ bs) e h =
    insert-before n (first + 1) bs (omega arith) ∙ ap (λ (m : ℕ). m ∷ marked (first + 1) bs) (omega arith)
insert-at (suc i) n first (true ∷ bs) e h =
    let no : nat_lt n first ≡ false = grind (arith, nat_tests) in
    let other : (n == first) ≡ false = grind (arith, nat_tests) in
    let rest = insert-at i n (first + 1) bs (omega arith) (omega arith) in
    rw (no, other, rest) refl
insert-at (suc i) n first (false ∷ bs) e h = insert-at i n (first + 1) bs (omega arith) (omega arith)

remove-at : (i n first : ℕ) (bs : List Bool) → n ≡ first + i → i < length bs → remove_key (is_at (nat_cmp n)) (marked first bs) ≡ marked first (set bs i false)
remove-at i n first [] e h = absurd (omega arith)
remove-at zero n first (true ∷ bs) e h =
    let no : nat_lt n first ≡ false = grind (arith, nat_tests) in
    let same : (n == first) ≡ true = grind (arith, nat_tests) in
    rw (no, same) refl
remove-at zero n first (false ∷ bs) e h = remove-before n (first + 1) bs (omega arith)
remove-at (suc i) n first (true ∷ bs) e h =
    let no : nat_lt n first ≡ false = grind (arith, nat_tests) in
    let other : (n == first) ≡ false = grind (arith, nat_tests) in
    let rest = remove-at i n (first + 1) bs (omega arith) (omega arith) in
    rw (no, other, rest) refl
remove-at (suc i) n first (false ∷ bs) e h = remove-at i n (first + 1) bs (omega arith) (omega arith)

any-at : (i n first : ℕ) (bs : List Bool) (d : Bool) → n ≡ first + i → i < length bs → list_any (λ m. m == n) (marked first bs) ≡ get_or bs i d
any-at i n first [] d e h = absurd (omega arith)
any-at zero n first (true ∷ bs) d e h =
    let same : (first == n) ≡ true = grind (arith, nat_tests) in
    rw same refl
any-at zero n first (false ∷ bs) d e h = any-before n (first + 1) bs (omega arith)
any-at (suc i) n first (true ∷ bs) d e h =
    let other : (first == n) ≡ false = grind (arith, nat_tests) in
    let rest = any-at i n (first + 1) bs d (omega arith) (omega arith) in
    rw (other, rest) refl
any-at (suc i) n first (false ∷ bs) d e h = any-at i n (first + 1) bs d (omega arith) (omega arith)

-- a number past all of them
remove-past : (n first : ℕ) (bs : List Bool) → first + length bs ≤ n → remove_key (is_at (nat_cmp n)) (marked first bs) ≡ marked first bs
remove-past n first [] h = refl
remove-past n first (true ∷ bs) h =
    let no : nat_lt n first ≡ false = grind (arith, nat_tests) in
    let other : (n == first) ≡ false = grind (arith, nat_tests) in
    let rest = remove-past n (first + 1) bs (omega arith) in
    rw (no, other, rest) refl
remove-past n first (false ∷ bs) h = remove-past n (first + 1) bs (omega arith)

any-past : (n first : ℕ) (bs : List Bool) → first + length bs ≤ n → list_any (λ m. m == n) (marked first bs) ≡ false
any-past n first [] h = refl
any-past n first (true ∷ bs) h =
    let other : (first == n) ≡ false = grind (arith, nat_tests) in
    let rest = any-past n (first + 1) bs (omega arith) in
    rw (other, rest) refl
any-past n first (false ∷ bs) h = any-past n (first + 1) bs (omega arith)

-- a flag that is set as it was changes nothing
pub set-same : (i : ℕ) (bs : List Bool) (b d : Bool) → i < length bs → get_or bs i d ≡ b → set bs i b ≡ bs
set-same i [] b d h e = refl
set-same zero (c ∷ bs) b d h e = ap (λ x. x ∷ bs) (sym e)
set-same (suc i) (c ∷ bs) b d h e = ap (λ (rest : List Bool). c ∷ rest) (set-same i bs b d (omega arith) e)

-- how many they are with a flag that is changed
pub length-set : (i first : ℕ) (bs : List Bool) (b d : Bool) → i < length bs
    → length (marked first (set bs i b)) + cond (get_or bs i d) 1 0 ≡ length (marked first bs) + cond b 1 0
length-set i first [] b d h = absurd (omega arith)
length-set zero first (true ∷ bs) true d h = refl
length-set zero first (true ∷ bs) false d h = omega arith
length-set zero first (false ∷ bs) true d h = omega arith
length-set zero first (false ∷ bs) false d h = refl
length-set (suc i) first (true ∷ bs) b d h =
    let rest = length-set i (first + 1) bs b d (omega arith) in
    omega arith
length-set (suc i) first (false ∷ bs) b d h = length-set i (first + 1) bs b d (omega arith)

-- no numbers are none
pub none-is : (ns : List ℕ) → length ns ≡ 0 → [] ≡ ns
none-is [] e = refl
none-is (n ∷ ns) e = absurd (omega arith)

-- numbers below a first one, and others from it on
pub insert-low : (n first : ℕ) (low : List ℕ) (bs : List Bool) → n < first → insert_key nat_cmp (numbered low first bs) n ≡ numbered (insert_key nat_cmp low n) first bs
insert-low n first [] bs h = insert-before n first bs h
insert-low n first (m ∷ low) bs h = go (nat_cmp n m) (insert-low n first low bs h)
  where
    go : (o : Ordering) → insert_key nat_cmp (low ++ marked first bs) n ≡ insert_key nat_cmp low n ++ marked first bs
        → match_ordering o (n ∷ m ∷ (low ++ marked first bs)) (m ∷ (low ++ marked first bs)) (m ∷ insert_key nat_cmp (low ++ marked first bs) n)
        ≡ match_ordering o (n ∷ m ∷ low) (m ∷ low) (m ∷ insert_key nat_cmp low n) ++ marked first bs
    go Less rest = refl
    go Equal rest = refl
    go Greater rest = ap (λ (ns : List ℕ). m ∷ ns) rest

pub remove-low : (n first : ℕ) (low : List ℕ) (bs : List Bool) → n < first
    → remove_key (is_at (nat_cmp n)) (numbered low first bs) ≡ numbered (remove_key (is_at (nat_cmp n)) low) first bs
remove-low n first [] bs h = remove-before n first bs h
remove-low n first (m ∷ low) bs h = go (is_at (nat_cmp n) m) (remove-low n first low bs h)
  where
    go : (b : Bool) → remove_key (is_at (nat_cmp n)) (low ++ marked first bs) ≡ remove_key (is_at (nat_cmp n)) low ++ marked first bs
        → cond b (low ++ marked first bs) (m ∷ remove_key (is_at (nat_cmp n)) (low ++ marked first bs)) ≡ cond b low (m ∷ remove_key (is_at (nat_cmp n)) low) ++ marked first bs
    go true rest = refl
    go false rest = ap (λ (ns : List ℕ). m ∷ ns) rest

-- the two tests of a number are one
is_at-is : (n m : ℕ) → is_at (nat_cmp n) m ≡ (m == n)
is_at-is n m = go (nat_lt n m) (n == m) refl refl
  where
    go : (p q : Bool) → nat_lt n m ≡ p → (n == m) ≡ q → is_eq (cond p Less (cond q Equal Greater)) ≡ (m == n)
    go true q e f = grind (arith, nat_tests)
    go false true e f = grind (arith, nat_tests)
    go false false e f = grind (arith, nat_tests)

pub any-is : (n : ℕ) (ns : List ℕ) → list_any (is_at (nat_cmp n)) ns ≡ list_any (λ m. m == n) ns
any-is n [] = refl
any-is n (m ∷ ns) = rw (is_at-is n m, any-is n ns) refl

pub any-low : (n first : ℕ) (low : List ℕ) (bs : List Bool) → n < first
    → list_any (is_at (nat_cmp n)) low ≡ list_any (λ m. m == n) (numbered low first bs)
any-low n first [] bs h = sym (any-before n first bs h)
any-low n first (m ∷ low) bs h = rw (is_at-is n m, any-low n first low bs h) refl

-- a number past the low ones
insert-past_low : (n : ℕ) (low ns : List ℕ) → All (λ m. m < n) low → insert_key nat_cmp (low ++ ns) n ≡ low ++ insert_key nat_cmp ns n
insert-past_low n [] ns a = refl
insert-past_low n (m ∷ low) ns a =
    let h = All-head (λ m. m < n) m low a in
    let no : nat_lt n m ≡ false = grind (arith, nat_tests) in
    let other : (n == m) ≡ false = grind (arith, nat_tests) in
    let rest = insert-past_low n low ns (All-tail (λ m. m < n) m low a) in
    rw (no, other, rest) refl

remove-past_low : (n : ℕ) (low ns : List ℕ) → All (λ m. m < n) low → remove_key (is_at (nat_cmp n)) (low ++ ns) ≡ low ++ remove_key (is_at (nat_cmp n)) ns
remove-past_low n [] ns a = refl
remove-past_low n (m ∷ low) ns a =
    let h = All-head (λ m. m < n) m low a in
    let no : nat_lt n m ≡ false = grind (arith, nat_tests) in
    let other : (n == m) ≡ false = grind (arith, nat_tests) in
    let rest = remove-past_low n low ns (All-tail (λ m. m < n) m low a) in
    rw (no, other, rest) refl

any-past_low : (n : ℕ) (low ns : List ℕ) → All (λ m. m < n) low → list_any (λ m. m == n) (low ++ ns) ≡ list_any (λ m. m == n) ns
any-past_low n [] ns a = refl
any-past_low n (m ∷ low) ns a =
    let h = All-head (λ m. m < n) m low a in
    let other : (m == n) ≡ false = grind (arith, nat_tests) in
    let rest = any-past_low n low ns (All-tail (λ m. m < n) m low a) in
    rw (other, rest) refl

-- a number at a place of the flags, where the low ones are below the first
lower : (n first : ℕ) (low : List ℕ) → first ≤ n → All (λ m. m < first) low → All (λ m. m < n) low
lower n first low h a = All-weaker (λ m. m < first) (λ m. m < n) (λ m k. omega arith) low a

pub insert-flag : (i n first : ℕ) (low : List ℕ) (bs : List Bool) → All (λ m. m < first) low → n ≡ first + i → i < length bs
    → insert_key nat_cmp (numbered low first bs) n ≡ numbered low first (set bs i true)
insert-flag i n first low bs a e h =
    insert-past_low n low (marked first bs) (lower n first low (omega arith) a) ∙ ap (λ (ns : List ℕ). low ++ ns) (insert-at i n first bs e h)

pub remove-flag : (i n first : ℕ) (low : List ℕ) (bs : List Bool) → All (λ m. m < first) low → n ≡ first + i → i < length bs
    → remove_key (is_at (nat_cmp n)) (numbered low first bs) ≡ numbered low first (set bs i false)
remove-flag i n first low bs a e h =
    remove-past_low n low (marked first bs) (lower n first low (omega arith) a) ∙ ap (λ (ns : List ℕ). low ++ ns) (remove-at i n first bs e h)

pub remove-behind : (n first : ℕ) (low : List ℕ) (bs : List Bool) → All (λ m. m < first) low → first ≤ n → first + length bs ≤ n
    → remove_key (is_at (nat_cmp n)) (numbered low first bs) ≡ numbered low first bs
remove-behind n first low bs a f h =
    remove-past_low n low (marked first bs) (lower n first low f a) ∙ ap (λ (ns : List ℕ). low ++ ns) (remove-past n first bs h)

pub any-flag : (i n first : ℕ) (low : List ℕ) (bs : List Bool) (d : Bool) → All (λ m. m < first) low → n ≡ first + i → i < length bs
    → list_any (λ m. m == n) (numbered low first bs) ≡ get_or bs i d
any-flag i n first low bs d a e h =
    any-past_low n low (marked first bs) (lower n first low (omega arith) a) ∙ any-at i n first bs d e h

pub any-behind : (n first : ℕ) (low : List ℕ) (bs : List Bool) → All (λ m. m < first) low → first ≤ n → first + length bs ≤ n
    → list_any (λ m. m == n) (numbered low first bs) ≡ false
any-behind n first low bs a f h =
    any-past_low n low (marked first bs) (lower n first low f a) ∙ any-past n first bs h

-- a number behind all others
insert-last : (n : ℕ) (ns : List ℕ) → All (λ m. m < n) ns → insert_key nat_cmp ns n ≡ ns ++ n ∷ []
insert-last n ns a = ap (λ (ms : List ℕ). insert_key nat_cmp ms n) (sym (append-nil ns)) ∙ insert-past_low n ns [] a

-- the numbers of some flags are put among the low ones, one after another
pub retire-set : (i n first : ℕ) (low ks : List ℕ) (bs : List Bool) (d : Bool) → All (λ m. m < first) low → n ≡ first + i → i < length bs
    → get_or bs i d ≡ true → ks ≡ low ++ marked first (take i bs) → insert_key nat_cmp ks n ≡ low ++ marked first (take (i + 1) bs)
retire-set i n first low ks bs d a e h on is =
    let before = marked first (take i bs) in
    let all : All (λ m. m < n) (low ++ before) =
    All-append (λ m. m < n) low before (lower n first low (omega arith) a) (marked-taken i n first bs (omega arith)) in
    let next : i + 1 ≡ suc i = omega arith in
    let pushed : marked first (take (i + 1) bs) ≡ before ++ n ∷ [] =
    ap (λ k. marked first (take k bs)) next ∙ marked-more i first bs d h ∙ ap (λ b. before ++ cond b ((first + i) ∷ []) []) on ∙ ap (λ (m : ℕ). before ++ m ∷ []) (sym e) in
    ap (λ (ms : List ℕ). insert_key nat_cmp ms n) is ∙ insert-last n (low ++ before) all ∙ append_assoc low before (n ∷ [])
    ∙ ap (λ (ms : List ℕ). low ++ ms) (sym pushed)

pub retire-clear : (i first : ℕ) (low ks : List ℕ) (bs : List Bool) (d : Bool) → i < length bs
    → get_or bs i d ≡ false → ks ≡ low ++ marked first (take i bs) → ks ≡ low ++ marked first (take (i + 1) bs)
retire-clear i first low ks bs d h off is =
    let before = marked first (take i bs) in
    let next : i + 1 ≡ suc i = omega arith in
    let same : marked first (take (i + 1) bs) ≡ before =
    ap (λ k. marked first (take k bs)) next ∙ marked-more i first bs d h ∙ ap (λ b. before ++ cond b ((first + i) ∷ []) []) off ∙ append-nil before in
    is ∙ ap (λ (ms : List ℕ). low ++ ms) (sym same)

-- with all of them there the flags can begin behind
pub lifted : (n first : ℕ) (low ks : List ℕ) (bs cs : List Bool) → ks ≡ low ++ marked first bs → cs ≡ [] → numbered ks n cs ≡ numbered low first bs
lifted n first low ks bs cs is none = ap (λ (ds : List Bool). numbered ks n ds) none ∙ append-nil ks ∙ is

pub lifted-below : (n first : ℕ) (low : List ℕ) (bs : List Bool) → All (λ m. m < first) low → first + length bs ≤ n → All (λ m. m < n) (low ++ marked first bs)
lifted-below n first low bs a h =
    All-append (λ m. m < n) low (marked first bs) (lower n first low (omega arith) a) (marked-below n first bs h)
