-- A line that is made from its end on is the record's, but for the comma before its first field.
use Rattle.std.proofs.Common.{◌≡◌, ◌+◌, ◌-◌, ◌<◌, ◌≤◌, ◌==◌, if◌then◌else◌, ℕ, List, [], ◌∷◌, ◌++◌, length, drop, arith, false, Bool, refl, sym, ap, ◌∙◌, append-nil, append_assoc}
use Rattle.std.proofs.lemmas.Grind.{common_steps}
use Rattle.std.proofs.lemmas.List.{drop-append-le, length-append}
use Rattle.std.proofs.Math.Seq.{drop-append_seam}
use Rattle.csv.specs.Machine.{line_feed}
use Rattle.csv.specs.Writing.{comma, default_writer, field_text, fields_text, is_blank, quote_mark}
use Rattle.sqs_formats.specs.Rows.{line}
use Rattle.sim_records.specs.Lines.{IsPlain, with_fields}
use Rattle.sim_records.proofs.Plain.{field_plain}

-- its fields are those of `csv`
made : (fs : List (List ℕ)) → with_fields (line_feed ∷ []) fs ≡ fields_text default_writer fs ++ line_feed ∷ []
unfolding fields_text
made [] = refl
made (f ∷ fs) = ap (λ t. comma ∷ (field_text default_writer f ++ t)) (made fs) ∙ simp append_assoc

has_end : (fs : List (List ℕ)) → 1 ≤ length (with_fields (line_feed ∷ []) fs)
has_end [] = omega arith
has_end (f ∷ fs) = omega arith

-- the end of a record of one field with this text
end_of_one : List ℕ → List ℕ
end_of_one t = (if length t == 0 then quote_mark ∷ quote_mark ∷ [] else []) ++ line_feed ∷ []

one_blank : (t : List ℕ) → length (t ++ line_feed ∷ []) < 2 → quote_mark ∷ quote_mark ∷ line_feed ∷ [] ≡ (t ++ []) ++ end_of_one t
unfolding end_of_one
one_blank [] h = refl
one_blank (b ∷ t) h = absurd (grind (arith, common_steps))

one_shown : (t : List ℕ) → 2 ≤ length (t ++ line_feed ∷ []) → t ++ line_feed ∷ [] ≡ (t ++ []) ++ end_of_one t
unfolding end_of_one
one_shown [] h = absurd (omega (arith, h))
one_shown (b ∷ t) h =
    let some : (length (b ∷ t) == 0) ≡ false = grind (arith, common_steps) in
    let ended : end_of_one (b ∷ t) ≡ line_feed ∷ [] = ap (λ (x : Bool). (if x then quote_mark ∷ quote_mark ∷ [] else []) ++ line_feed ∷ []) some in
    ap (λ s. s ++ line_feed ∷ []) (sym (append-nil (b ∷ t))) ∙ ap (λ e. ((b ∷ t) ++ []) ++ e) (sym ended)

-- that of a record that shows no byte
line_blank : (fs : List (List ℕ)) → length (with_fields (line_feed ∷ []) fs) < 3 → quote_mark ∷ quote_mark ∷ line_feed ∷ [] ≡ line fs
unfolding fields_text is_blank end_of_one
line_blank [] h = refl
line_blank (f ∷ []) h = one_blank (field_text default_writer f) (omega arith)
line_blank (f ∷ g ∷ fs) h = let ended = has_end fs in absurd (grind (arith, common_steps))

-- that of any other
line_ended : (fs : List (List ℕ)) → 3 ≤ length (with_fields (line_feed ∷ []) fs) → drop 1 (with_fields (line_feed ∷ []) fs) ≡ line fs
unfolding fields_text is_blank end_of_one
line_ended [] h = absurd (omega (arith, h))
line_ended (f ∷ []) h = one_shown (field_text default_writer f) (omega arith)
line_ended (f ∷ g ∷ fs) h = ap (λ t. field_text default_writer f ++ t) (made (g ∷ fs)) ∙ simp append_assoc

-- fields before others
pub fields_join : (rest : List ℕ) (fs others : List (List ℕ)) → with_fields (with_fields rest others) fs ≡ with_fields rest (fs ++ others)
fields_join rest [] others = refl
fields_join rest (f ∷ fs) others = ap (λ t. comma ∷ (field_text default_writer f ++ t)) (fields_join rest fs others)

-- what is behind a line stays behind it
apart : (rest : List ℕ) (fs : List (List ℕ)) → with_fields (line_feed ∷ rest) fs ≡ with_fields (line_feed ∷ []) fs ++ rest
apart rest [] = refl
apart rest (f ∷ fs) = ap (λ t. comma ∷ (field_text default_writer f ++ t)) (apart rest fs) ∙ simp append_assoc

pub behind_within : (n : ℕ) (old begun new : List ℕ) (fs : List (List ℕ)) → n ≡ length old → begun ≡ line_feed ∷ old → new ≡ with_fields begun fs → n ≤ length new
behind_within n old begun new fs same begin is =
    let parts = ap length (is ∙ ap (λ t. with_fields t fs) begin ∙ apart old fs) ∙ length-append (with_fields (line_feed ∷ []) fs) old in
    omega arith

pub blank_ended : (old rest : List ℕ) (fs : List (List ℕ)) (behind : ℕ) → old ≡ with_fields (line_feed ∷ rest) fs → behind ≡ length rest → length old - behind < 3
    → quote_mark ∷ quote_mark ∷ line_feed ∷ drop (length old - behind) old ≡ line fs ++ rest
blank_ended old rest fs behind is same h =
    let made_alone = with_fields (line_feed ∷ []) fs in
    let parts : old ≡ made_alone ++ rest = is ∙ apart rest fs in
    let n : length old ≡ length made_alone + length rest = ap length parts ∙ length-append made_alone rest in
    let others : drop (length old - behind) old ≡ rest =
    ap (λ (k : ℕ). drop k old) (omega arith) ∙ ap (drop (length made_alone)) parts ∙ drop-append_seam made_alone rest in
    ap (λ t. quote_mark ∷ quote_mark ∷ line_feed ∷ t) others ∙ ap (λ t. t ++ rest) (line_blank fs (omega arith))

pub shown_ended : (old rest : List ℕ) (fs : List (List ℕ)) (behind : ℕ) → old ≡ with_fields (line_feed ∷ rest) fs → behind ≡ length rest → 3 ≤ length old - behind
    → drop 1 old ≡ line fs ++ rest
shown_ended old rest fs behind is same h =
    let made_alone = with_fields (line_feed ∷ []) fs in
    let parts : old ≡ made_alone ++ rest = is ∙ apart rest fs in
    let n : length old ≡ length made_alone + length rest = ap length parts ∙ length-append made_alone rest in
    ap (drop 1) parts ∙ drop-append-le 1 made_alone rest (omega arith) ∙ ap (λ t. t ++ rest) (line_ended fs (omega arith))

-- the line of a record of two fields and more, the first of which is written as it is
pub line_of_two : (f g : List ℕ) (fs : List (List ℕ)) (rest : List ℕ) → IsPlain f → f ++ with_fields (line_feed ∷ rest) (g ∷ fs) ≡ line (f ∷ g ∷ fs) ++ rest
unfolding fields_text is_blank
line_of_two f g fs rest plain =
    let ended : field_text default_writer f ++ with_fields (line_feed ∷ []) (g ∷ fs) ≡ line (f ∷ g ∷ fs) = ap (λ t. field_text default_writer f ++ t) (made (g ∷ fs)) ∙ simp append_assoc in
    ap (λ t. t ++ with_fields (line_feed ∷ rest) (g ∷ fs)) (sym (field_plain f plain))
    ∙ ap (λ t. field_text default_writer f ++ t) (apart rest (g ∷ fs))
    ∙ sym (append_assoc (field_text default_writer f) (with_fields (line_feed ∷ []) (g ∷ fs)) rest)
    ∙ ap (λ t. t ++ rest) ended

-- the first columns of a row before those behind them, each of them known by its text
pub columns_are : (is at t u q queue a agent k w answer : List ℕ) → is ≡ at ++ with_fields t (q ∷ a ∷ k ∷ w ∷ []) → q ≡ queue → a ≡ agent → w ≡ answer → t ≡ u
    → is ≡ at ++ with_fields u (queue ∷ agent ∷ k ∷ answer ∷ [])
columns_are is at t u q queue a agent k w answer h queued acted answered behind =
    h ∙ ap (λ x. at ++ with_fields t (x ∷ a ∷ k ∷ w ∷ [])) queued
    ∙ ap (λ x. at ++ with_fields t (queue ∷ x ∷ k ∷ w ∷ [])) acted
    ∙ ap (λ x. at ++ with_fields t (queue ∷ agent ∷ k ∷ x ∷ [])) answered
    ∙ ap (λ x. at ++ with_fields x (queue ∷ agent ∷ k ∷ answer ∷ [])) behind
