-- The receipt that a text is, by its own numbers.
use Rattle.std.proofs.Common.{◌≡◌, ℕ, ◌<◌, ◌≤◌, ◌^◌, Bool, true, false, List, ◌∷◌, ◌++◌, Option, Some, None, IfSome, refl, ap, sym, ◌∙◌, subst, arith, if◌then◌else◌, ◌&&◌}
use Rattle.std.specs.Prelude.{codes, drop, nat_lt, nat_le}
use Rattle.std.specs.Str.{IsAscii, IsUtf8, bytes_eq}
use Rattle.std.specs.List.{before_first, after_first}
use Rattle.std.specs.Fmt.{decimal}
use Rattle.std.specs.Str.Parse.{digits_value}
use Rattle.std.proofs.lemmas.Fmt.{IsAscii-decimal, decimal_is_IsNumeral}
use Rattle.std.proofs.lemmas.Bool.{and_parts, lt-ltb, ltb-true}
use Rattle.std.proofs.lemmas.Bool.Decides.{nat_tests}
use Rattle.std.proofs.lemmas.Slice.Eq.{bytes_eq-Decides}
use Rattle.std.proofs.lemmas.Str.{IsAscii-append, IsUtf8-from_ascii}
use Rattle.std.proofs.lemmas.Str.Ascii.{IsAscii-cons}
use Rattle.std.proofs.Math.Seq.{take-append_seam, drop-append-add}
use Rattle.sqs_message.specs.declared.ids.Receipt.{Receipt}
use Rattle.sqs_message.specs.Ids.{Fits, fits, is_dash, numbers_in, numbers_between, receipt_if, read_receipt, receipt_text, HasNoDash}
use Rattle.sqs_message.proofs.Dashes.{first_is, decimal_no_dash}

-- a number and what follows its dash
before_dash : (front back : List ℕ) → HasNoDash front → before_first is_dash (front ++ 45 ∷ back) ≡ front
before_dash front back h = rw (first_is front back h) (take-append_seam front (45 ∷ back))

after_dash : (front back : List ℕ) → HasNoDash front → after_first is_dash (front ++ 45 ∷ back) ≡ back
after_dash front back h = rw (first_is front back h) (drop-append-add front (45 ∷ back) 1)

value : (n : ℕ) → n < 2 ^ 64 → digits_value 10 (decimal n) ≡ n
value n h = (decimal_is_IsNumeral n h).1

abbrev receipt_of : ℕ → ℕ → ℕ → Receipt
receipt_of site number count = record { site = site; number = number; count = count }

-- the numbers that stand in a receipt's text are the receipt's
numbers_back : (r : Receipt) → r.site < 2 ^ 64 → r.number < 2 ^ 64 → r.count < 2 ^ 64 → numbers_in (drop 2 (receipt_text r)) ≡ r
numbers_back r s n c =
    let rest : List ℕ = decimal r.number ++ 45 ∷ decimal r.count in
    let a = before_dash (decimal r.site) rest (decimal_no_dash r.site s) in
    let b = after_dash (decimal r.site) rest (decimal_no_dash r.site s) in
    let d = before_dash (decimal r.number) (decimal r.count) (decimal_no_dash r.number n) in
    let e = after_dash (decimal r.number) (decimal r.count) (decimal_no_dash r.number n) in
    let site : digits_value 10 (before_first is_dash (decimal r.site ++ 45 ∷ rest)) ≡ r.site = ap (digits_value 10) a ∙ value r.site s in
    let number : digits_value 10 (before_first is_dash rest) ≡ r.number = ap (digits_value 10) d ∙ value r.number n in
    let count : digits_value 10 (after_first is_dash rest) ≡ r.count = ap (digits_value 10) e ∙ value r.count c in
    ap (λ (w : List ℕ). numbers_between (decimal r.site ++ 45 ∷ rest) w) b ∙ ap (λ (k : ℕ). receipt_of k (digits_value 10 (before_first is_dash rest)) (digits_value 10 (after_first is_dash rest))) site
    ∙ ap (λ (k : ℕ). receipt_of r.site k (digits_value 10 (after_first is_dash rest))) number ∙ ap (λ (k : ℕ). receipt_of r.site r.number k) count

fitting_back : (r : Receipt) → Fits r → numbers_in (drop 2 (receipt_text r)) ≡ r
fitting_back r f = numbers_back r (omega (arith, f.site)) (omega (arith, f.number)) (omega (arith, f.count))

all_true : (a b c d : Bool) → a ≡ true → b ≡ true → c ≡ true → d ≡ true → (a && b && c && d) ≡ true
all_true a b c d h i j k = rw (h, i, j, k) refl

fits_true : (r : Receipt) → Fits r → fits r ≡ true
fits_true r f =
    all_true _ _ _ _ (lt-ltb r.site (2 ^ 32) f.site) (lt-ltb r.number (2 ^ 62) f.number) (lt-ltb r.count (2 ^ 62) f.count) (grind (arith, nat_tests, f.first))

le_true : (b : ℕ) → nat_le 1 b ≡ true → 1 ≤ b
le_true b h = grind (arith, nat_tests, h)

true_fits : (r : Receipt) → fits r ≡ true → Fits r
true_fits r h =
    let first = and_parts (nat_lt r.site (2 ^ 32) && nat_lt r.number (2 ^ 62) && nat_lt r.count (2 ^ 62)) (nat_le 1 r.count) h in
    let count = and_parts (nat_lt r.site (2 ^ 32) && nat_lt r.number (2 ^ 62)) (nat_lt r.count (2 ^ 62)) first.0 in
    let number = and_parts (nat_lt r.site (2 ^ 32)) (nat_lt r.number (2 ^ 62)) count.0 in
    record { site = ltb-true _ _ number.0; number = ltb-true _ _ number.1; count = ltb-true _ _ count.1; first = le_true r.count first.1 }

two_true : (a b : Bool) → a ≡ true → b ≡ true → (a && b) ≡ true
two_true a b h k = rw (h, k) refl

chosen : (b : Bool) (r : Receipt) → b ≡ true → (if b then Some r else None) ≡ Some r
chosen b r h = rw h refl

chosen_back : (b : Bool) (q r : Receipt) → (if b then Some q else None) ≡ Some r → (b ≡ true) × (q ≡ r)
chosen_back true q r h = (refl, cc)
chosen_back false q r h = cc

-- a text that is a receipt's is read as that receipt
pub read_text : (r : Receipt) (text : List ℕ) → Fits r → text ≡ receipt_text r → read_receipt text ≡ Some r
read_text r text f e =
    let back : numbers_in (drop 2 text) ≡ r = ap (λ (t : List ℕ). numbers_in (drop 2 t)) e ∙ fitting_back r f in
    let same : bytes_eq (receipt_text r) text ≡ true = (bytes_eq-Decides (receipt_text r) text).1 (sym e) in
    ap (λ (q : Receipt). receipt_if q text) back ∙ chosen (fits r && bytes_eq (receipt_text r) text) r (two_true _ _ (fits_true r f) same)

-- what is read is a receipt whose text this is
pub text_read : (text : List ℕ) (r : Receipt) → read_receipt text ≡ Some r → Fits r × (text ≡ receipt_text r)
text_read text r e =
    let q : Receipt = numbers_in (drop 2 text) in
    let h = chosen_back (fits (numbers_in (drop 2 text)) && bytes_eq (receipt_text (numbers_in (drop 2 text))) text) (numbers_in (drop 2 text)) r e in
    let k = and_parts (fits (numbers_in (drop 2 text))) (bytes_eq (receipt_text (numbers_in (drop 2 text))) text) h.0 in
    let f : Fits r = subst Fits h.1 (true_fits (numbers_in (drop 2 text)) k.0) in
    let t : receipt_text (numbers_in (drop 2 text)) ≡ text = (bytes_eq-Decides (receipt_text (numbers_in (drop 2 text))) text).0 k.1 in
    (f, sym t ∙ ap receipt_text h.1)

none_by :
    (text : List ℕ) (x : Option Receipt) → read_receipt text ≡ x
    → ((r : Receipt) → Fits r → text ≡ receipt_text r → None ≡ Some r) → None ≡ x
none_by text None e complete = refl
none_by text (Some r) e complete = let h = text_read text r e in complete r h.0 h.1

-- the one answer that is sound and complete
pub read_answer :
    (text : List ℕ) (o : Option Receipt) → IfSome o (λ r. Fits r × (text ≡ receipt_text r))
    → ((r : Receipt) → Fits r → text ≡ receipt_text r → o ≡ Some r) → o ≡ read_receipt text
read_answer text None sound complete = none_by text (read_receipt text) refl complete
read_answer text (Some r) sound complete = sym (read_text r text sound.0 sound.1)

-- a receipt that fits, with the numbers of another
abbrev FitsFor : Receipt → Receipt → Type 0
FitsFor r q = Fits q × (q.site ≡ r.site) × (q.number ≡ r.number) × (q.count ≡ r.count)

same_text : (r : Receipt) (o : Option Receipt) → IfSome o (FitsFor r) → IfSome o (λ q. Fits q × (receipt_text r ≡ receipt_text q))
same_text r None h = tt
same_text r (Some q) h = (h.0, rw (h.1, h.2, h.3) refl)

-- the receipt that a receipt's text is: this one, where it fits
pub own_answer :
    (r : Receipt) (o : Option Receipt) → r.site < 2 ^ 64 → r.number < 2 ^ 64 → r.count < 2 ^ 64 → IfSome o (FitsFor r)
    → ((q : Receipt) → Fits q → q.site ≡ r.site → q.number ≡ r.number → q.count ≡ r.count → o ≡ Some q) → o ≡ read_receipt (receipt_text r)
own_answer r o s n c sound complete = read_answer (receipt_text r) o (same_text r o sound) (λ q f e.
    let same : q ≡ r = sym (fitting_back q f) ∙ ap (λ (t : List ℕ). numbers_in (drop 2 t)) (sym e) ∙ numbers_back r s n c in
    complete q f (ap (λ (x : Receipt). x.site) same) (ap (λ (x : Receipt). x.number) same) (ap (λ (x : Receipt). x.count) same))

dash : (bs : List ℕ) → IsAscii bs → IsAscii (codes "-" ++ bs)
dash bs h = IsAscii-cons 45 bs (omega arith) h

text_is_ascii : (r : Receipt) → Fits r → IsAscii (receipt_text r)
text_is_ascii r f =
    let site : IsAscii (decimal r.site) = IsAscii-decimal r.site (omega (arith, f.site)) in
    let number : IsAscii (decimal r.number) = IsAscii-decimal r.number (omega (arith, f.number)) in
    let count : IsAscii (decimal r.count) = IsAscii-decimal r.count (omega (arith, f.count)) in
    let last : List ℕ = decimal r.count in
    let middle : List ℕ = decimal r.number ++ (codes "-" ++ last) in
    let first : List ℕ = decimal r.site ++ (codes "-" ++ middle) in
    let ends : IsAscii (codes "-" ++ last) = dash last count in
    let goes : IsAscii (codes "-" ++ middle) = dash middle (IsAscii-append (decimal r.number) (codes "-" ++ last) number ends) in
    let begins : IsAscii first = IsAscii-append (decimal r.site) (codes "-" ++ middle) site goes in
    IsAscii-cons 114 (codes "-" ++ first) (omega arith) (dash first begins)

-- a text that is not UTF-8 is no receipt
pub not_a_receipt : (text : List ℕ) → ¬ (IsUtf8 text) → None ≡ read_receipt text
not_a_receipt text h = none_by text (read_receipt text) refl (λ r f e. absurd (h (subst IsUtf8 (sym e) (IsUtf8-from_ascii (receipt_text r) (text_is_ascii r f)))))
