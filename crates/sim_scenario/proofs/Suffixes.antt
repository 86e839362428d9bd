-- The suffix of a FIFO queue's name.
use Rattle.std.proofs.Common.{◌≡◌, ◌≢◌, ℕ, suc, ◌+◌, ◌-◌, ◌<◌, ◌≤◌, ◌||◌, Bool, true, false, codes, cond, List, [], ◌∷◌, length, drop, take, refl, ap, sym, ◌∙◌, arith, inl, inr, nat_le, Option, Some, None, Bor, MatchOption, is_some, IfSome}
use Rattle.std.specs.Str.{bytes_eq}
use Rattle.std.proofs.lemmas.Slice.Eq.{bytes_eq-Decides}
use Rattle.std.proofs.lemmas.List.{length-drop}
use Rattle.std.proofs.lemmas.Bool.{cases_Bool}
use Rattle.std.proofs.lemmas.Bool.Decides.{nat_tests}
use Rattle.sqs_formats.specs.Names.{is_fifo, stem}

abbrev pub suffix : List ℕ
suffix = codes ".fifo"

same_length : (xs : List ℕ) → bytes_eq xs suffix ≡ true → length xs ≡ 5
same_length xs h = ap length ((bytes_eq-Decides xs suffix).0 h)

differs : (xs : List ℕ) → length xs ≢ 5 → bytes_eq xs suffix ≡ false
differs xs other =
    elim (cases_Bool (bytes_eq xs suffix)) [
      | inl same ↦ absurd (other (same_length xs same))
      | inr not_same ↦ not_same
    ]

or_false : (b : Bool) → (b || false) ≡ b
or_false true = refl
or_false false = refl

step : (b : ℕ) (bs : List ℕ) (is : Bool) → nat_le 5 (length bs) ≡ is → is_fifo bs ≡ bytes_eq (drop (length bs - 5) bs) suffix
    → is_fifo (b ∷ bs) ≡ bytes_eq (drop (suc (length bs) - 5) (b ∷ bs)) suffix
step b bs true long more =
    let within : 5 ≤ length bs = grind (arith, nat_tests) in
    let other : length (b ∷ bs) ≢ 5 = λ e. let e2 : suc (length bs) ≡ 5 = e in absurd (omega arith) in
    let place : suc (length bs) - 5 ≡ suc (length bs - 5) = omega arith in
    rw (place, differs (b ∷ bs) other) more
step b bs false short more =
    let within : length bs < 5 = grind (arith, nat_tests) in
    let other : length bs ≢ 5 = λ e. absurd (omega arith) in
    let place : suc (length bs) - 5 ≡ 0 = omega arith in
    let at_front : length bs - 5 ≡ 0 = omega arith in
    let none : is_fifo bs ≡ false = rw at_front at more ∙ differs bs other in
    rw (place, none) (or_false _)

-- the test looks at the last five bytes
pub is_suffix : (s : List ℕ) → is_fifo s ≡ bytes_eq (drop (length s - 5) s) suffix
is_suffix [] = refl
is_suffix (b ∷ bs) = step b bs (nat_le 5 (length bs)) refl (is_suffix bs)

long_enough : (s : List ℕ) → is_fifo s ≡ true → 5 ≤ length s
long_enough s h =
    let e = same_length (drop (length s - 5) s) (sym (is_suffix s) ∙ h) in
    omega (arith, e, length-drop (length s - 5) s)

cut_more : (b : ℕ) (bs : List ℕ) (here : Bool) → bytes_eq (b ∷ bs) suffix ≡ here → (here || is_fifo bs) ≡ true
    → (is_fifo bs ≡ true → stem bs ≡ take (length bs - 5) bs) → cond here [] (b ∷ stem bs) ≡ take (suc (length bs) - 5) (b ∷ bs)
cut_more b bs true same h more =
    let e : suc (length bs) ≡ 5 = same_length (b ∷ bs) same in
    let place : suc (length bs) - 5 ≡ 0 = omega arith in
    rw place refl
cut_more b bs false same h more =
    let long = long_enough bs h in
    let place : suc (length bs) - 5 ≡ suc (length bs - 5) = omega arith in
    rw place (ap (λ t. b ∷ t) (more h))

-- what stands before the suffix
pub stem_cut : (s : List ℕ) → is_fifo s ≡ true → stem s ≡ take (length s - 5) s
stem_cut [] h = refl
stem_cut (b ∷ bs) h = cut_more b bs (bytes_eq (b ∷ bs) suffix) refl h (stem_cut bs)

whole_more : (b : ℕ) (bs : List ℕ) (here : Bool) → (here || is_fifo bs) ≡ false → (is_fifo bs ≡ false → stem bs ≡ bs) → cond here [] (b ∷ stem bs) ≡ b ∷ bs
whole_more b bs true h more = cc h
whole_more b bs false h more = ap (λ t. b ∷ t) (more h)

-- a name without the suffix is its own stem
pub stem_whole : (s : List ℕ) → is_fifo s ≡ false → stem s ≡ s
stem_whole [] h = refl
stem_whole (b ∷ bs) h = whole_more b bs (bytes_eq (b ∷ bs) suffix) h (stem_whole bs)

-- what the code finds
pub stripped : (s : List ℕ) (r : Option (Bor (List ℕ))) → MatchOption r (bytes_eq (drop (length s - 5) s) suffix ≡ false) (λ x. (bytes_eq (drop (length s - 5) s) suffix ≡ true) × (x.now ≡ take (length s - 5) s) × (length x.now + 5 ≡ length s))
    → (is_some r ≡ is_fifo s) × IfSome r (λ x. x.now ≡ stem s)
stripped s None h = (sym (is_suffix s ∙ h), tt)
stripped s (Some x) h = (sym (is_suffix s ∙ h.0), h.1 ∙ sym (stem_cut s (is_suffix s ∙ h.0)))
