-- Fields that need no quotes: numbers, ids, receipts, digests and counts.
use Rattle.std.proofs.Common.{Bool, ◌+◌, not, true≢false, ◌&&◌, List, [], arith, ap, false, get_or, length, drop, slice_set, refl, slice_index, suc, sym, ◌-◌, true, zero, ℕ, ◌++◌, ◌/◌, ◌%◌, ◌<◌, ◌==◌, ◌^◌, ◌∙◌, ◌∷◌, ◌≡◌, ◌≤◌, ◌||◌, append_assoc, if◌then◌else◌}
use Rattle.std.specs.Fmt.{decimal}
use Rattle.std.specs.List.{list_any}
use Rattle.std.proofs.lemmas.Fmt.{decimal_is_IsNumeral, length-decimal-le}
use Rattle.std.proofs.lemmas.Grind.{common_steps}
use Rattle.std.proofs.lemmas.List.{drop-append-le, drop-drop, drop-set, length-append, length-drop}
use Rattle.std.proofs.lemmas.List.Folds.{list_any-append}
use Rattle.std.proofs.lemmas.Str.Parse.{digit_at}
use Rattle.sim_clock.proofs.Booleans.{or_first, or_second}
use Rattle.csv.specs.Writing.{comma, default_writer, field_text, needs_byte, needs_quotes, quoted}
use Rattle.hex.specs.Hex.{encode_lower, encode_with, lower_digits}
use Rattle.sim_records.specs.Lines.{IsPlain, dashed, none_quoted, with_field}
use Rattle.sqs_message.specs.Ids.{receipt_text}

-- such a field is written as it is
pub field_plain : (f : List ℕ) → IsPlain f → field_text default_writer f ≡ f
field_plain f h = ap (λ b. if b then quoted default_writer f else f) h

-- and so it is a field of a line
pub plain_put : (f rest : List ℕ) → IsPlain f → comma ∷ (f ++ rest) ≡ with_field rest f
plain_put f rest h = ap (λ t. comma ∷ (t ++ rest)) (sym (field_plain f h))

pub plain_append : (a b : List ℕ) → IsPlain a → IsPlain b → IsPlain (a ++ b)
plain_append a b h k = list_any-append (needs_byte default_writer) a b ∙ ap (λ x. x || list_any (needs_byte default_writer) b) h ∙ k

-- digits
digit_plain : (d : ℕ) → 48 ≤ d → d ≤ 57 → needs_byte default_writer d ≡ false
digit_plain d l h =
    let comma : (d == 44) ≡ false = grind (arith, common_steps) in
    let quote : (d == 34) ≡ false = grind (arith, common_steps) in
    let return : (d == 13) ≡ false = grind (arith, common_steps) in
    let feed : (d == 10) ≡ false = grind (arith, common_steps) in
    rw (comma, quote, return, feed) refl

digits_plain : (ds : List ℕ) → ((i : ℕ) → i < length ds → needs_byte default_writer (get_or ds i 0) ≡ false) → IsPlain ds
digits_plain [] h = refl
digits_plain (d ∷ ds) h = ap (λ x. x || list_any (needs_byte default_writer) ds) (h zero (omega arith)) ∙ digits_plain ds (λ i l. h (suc i) (omega arith))

pub plain_decimal : (n : ℕ) → n < 2 ^ 64 → IsPlain (decimal n)
plain_decimal n h =
    digits_plain (decimal n) (λ i l. let d = digit_at (decimal n) i (decimal_is_IsNumeral n h).0.1 l in digit_plain (get_or (decimal n) i 0) d.0 d.1)

pub decimal_short : (n : ℕ) → n < 2 ^ 64 → length (decimal n) ≤ 20
decimal_short n h = length-decimal-le 20 n (omega arith) (omega arith) h

one_of : (xs : List ℕ) → IsPlain xs → (k : ℕ) → needs_byte default_writer (get_or xs k 0) ≡ false
one_of [] h k = refl
one_of (x ∷ xs) h zero = or_first (needs_byte default_writer x) (list_any (needs_byte default_writer) xs) h
one_of (x ∷ xs) h (suc k) = one_of xs (or_second (needs_byte default_writer x) (list_any (needs_byte default_writer) xs) h) k

pub plain_hex : (xs : List ℕ) → IsPlain (encode_lower xs)
unfolding encode_with
plain_hex [] = refl
plain_hex (b ∷ bs) =
    ap (λ x. x || (needs_byte default_writer (slice_index lower_digits (b % 16)) || list_any (needs_byte default_writer) (encode_with lower_digits bs))) (one_of lower_digits refl (b / 16))
    ∙ ap (λ x. x || list_any (needs_byte default_writer) (encode_with lower_digits bs)) (one_of lower_digits refl (b % 16))
    ∙ plain_hex bs

-- a mark, and a mark and a number, before what needs no quotes either
pub plain_more : (mark : ℕ) (rest : List ℕ) → needs_byte default_writer mark ≡ false → IsPlain rest → IsPlain (mark ∷ rest)
plain_more mark rest h plain = ap (λ x. x || list_any (needs_byte default_writer) rest) h ∙ plain

pub plain_marked : (mark n : ℕ) (rest : List ℕ) → needs_byte default_writer mark ≡ false → n < 2 ^ 64 → IsPlain rest → IsPlain (mark ∷ (decimal n ++ rest))
plain_marked mark n rest h k plain = plain_more mark (decimal n ++ rest) h (plain_append (decimal n) rest (plain_decimal n k) plain)

-- a receipt, and an id, by the numbers in both
pub receipt_put : (site number count : ℕ) (rest : List ℕ) → site < 2 ^ 64 → number < 2 ^ 64 → count < 2 ^ 64
    → comma ∷ 114 ∷ (dashed site number ++ 45 ∷ (decimal count ++ rest)) ≡ with_field rest (receipt_text (record { site = site; number = number; count = count }))
receipt_put site number count rest h k l =
    let last = 45 ∷ decimal count in
    let tail = 45 ∷ (decimal number ++ last) in
    let field = 114 ∷ 45 ∷ (decimal site ++ tail) in
    let parts : comma ∷ 114 ∷ (dashed site number ++ 45 ∷ (decimal count ++ rest)) ≡ comma ∷ (field ++ rest) = simp append_assoc in
    let plain : IsPlain field = plain_more 114 (45 ∷ (decimal site ++ tail)) refl (plain_marked 45 site tail refl h (plain_marked 45 number last refl k (plain_more 45 (decimal count) refl (plain_decimal count l)))) in
    parts ∙ plain_put field rest plain

pub id_put : (site number : ℕ) (rest : List ℕ) → site < 2 ^ 64 → number < 2 ^ 64 → comma ∷ 109 ∷ (dashed site number ++ rest) ≡ with_field rest (109 ∷ dashed site number)
id_put site number rest h k =
    let tail = 45 ∷ decimal number in
    plain_put (109 ∷ dashed site number) rest (plain_more 109 (dashed site number) refl (plain_marked 45 site tail refl h (plain_more 45 (decimal number) refl (plain_decimal number k))))

-- a mark before what stands in a text from a place on
pub set_before : (text : List ℕ) (k mark : ℕ) → 1 ≤ k → k ≤ length text → drop (k - 1) (slice_set text (k - 1) mark) ≡ mark ∷ drop k text
set_before text k mark h l = drop-set text (k - 1) mark (omega arith) ∙ ap (λ i. mark ∷ drop i text) (omega arith)

-- the last of sixteen bytes that were put before a place
pub put_tail : (text new put : List ℕ) (end len : ℕ) → 16 ≤ end → len ≤ 16 → length put ≡ 16 → drop (end - 16) new ≡ put ++ drop end text
    → drop (end - len) new ≡ drop (16 - len) put ++ drop end text
put_tail text new put end len h k long is =
    let place : end - len ≡ (end - 16) + (16 - len) = omega arith in
    ap (λ (n : ℕ). drop n new) place ∙ sym (drop-drop (16 - len) (end - 16) new) ∙ ap (drop (16 - len)) is ∙ drop-append-le (16 - len) put (drop end text) (omega arith)

put_long : (text new put : List ℕ) (end : ℕ) → 16 ≤ end → end ≤ length text → length put ≡ 16 → drop (end - 16) new ≡ put ++ drop end text → end ≤ length new
put_long text new put end h l long is =
    let seam = ap length is in
    let prefix = length-drop (end - 16) new in
    let back = length-append put (drop end text) in
    omega arith

-- and a comma before them
pub word_put : (text new put : List ℕ) (end len : ℕ) → 16 < end → end ≤ length text → len ≤ 16 → length put ≡ 16 → drop (end - 16) new ≡ put ++ drop end text
    → drop (end - len - 1) (slice_set new (end - len - 1) comma) ≡ comma ∷ (drop (16 - len) put ++ drop end text)
word_put text new put end len h l k long is =
    let whole = put_long text new put end (omega arith) l long is in
    set_before new (end - len) comma (omega arith) (omega arith) ∙ ap (λ t. comma ∷ t) (put_tail text new put end len (omega arith) k long is)

-- of names that need no quotes none does
first_plain : (needs others : Bool) → (not needs && others) ≡ true → needs ≡ false
first_plain false others h = refl
first_plain true others h = absurd (true≢false (sym h))

others_plain : (needs others : Bool) → (not needs && others) ≡ true → others ≡ true
others_plain false others h = h
others_plain true others h = absurd (true≢false (sym h))

pub name_plain : (names : List (List ℕ)) (n : ℕ) → none_quoted names ≡ true → IsPlain (get_or names n [])
name_plain [] n h = refl
name_plain (f ∷ fs) zero h = first_plain (needs_quotes default_writer f) (none_quoted fs) h
name_plain (f ∷ fs) (suc n) h = name_plain fs n (others_plain (needs_quotes default_writer f) (none_quoted fs) h)
