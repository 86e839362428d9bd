-- The records that are reached are those of the whole text.
use Rattle.std.proofs.Common.{◌≡◌, ℕ, zero, suc, ◌+◌, ◌<◌, ◌≤◌, Bool, true, false, cond, List, [], ◌∷◌, ◌++◌, length, Option, Some, None, refl, ap, ◌==◌, arith}
use Rattle.std.proofs.lemmas.Option.{same_Some}
use Rattle.csv.specs.Machine.{Read, next_record, step, in_field, start_field, start_record, is_end, ends_at_end, after_end, fields_after, field_after}
use Rattle.csv.specs.Reading.{Reached, AreRecords, records, records_from}
use Rattle.csv.specs.declared.parser.Config.{Config}
use Rattle.csv.specs.declared.parser.Terminator.{Terminator}
use Rattle.csv.specs.declared.parser.Terminator.TheVariants as term
use Rattle.csv.specs.declared.parser.State.{State}
use Rattle.csv.specs.declared.parser.State.TheVariants as st
use Rattle.csv.specs.declared.parser.Action.{Action}
use Rattle.csv.specs.declared.parser.Action.TheVariants as act

-- what ends a record leaves no record open
record Rests (p : State × Action) : Type 0 where
  rests : is_end p.1 ≡ true → ends_at_end p.0 ≡ false

choose : (b : Bool) (p q : State × Action) → Rests p → Rests q → Rests (cond b p q)
choose true p q x y = x
choose false p q x y = y

after_end_rests : (t : Terminator) (c : ℕ) → ends_at_end (after_end t c) ≡ false
after_end_rests (term.Any t) c = refl
after_end_rests term.CRLF c = elim (c == 13) as (λ b. ends_at_end (cond b st.AfterCr st.StartRecord) ≡ false) [ true ↦ refl | false ↦ refl ]

skips : (s : State) → Rests (s, act.Skip)
skips s = record { rests = λ e. cc e }

copies : (s : State) → Rests (s, act.Copy)
copies s = record { rests = λ e. cc e }

ends_field : (s : State) → Rests (s, act.EndField)
ends_field s = record { rests = λ e. cc e }

in_field_rests : (cfg : Config) (c : ℕ) → Rests (in_field cfg c)
in_field_rests cfg c = choose _ _ _ (ends_field st.StartField) (choose _ _ _ (record { rests = λ e. after_end_rests cfg.terminator c }) (copies st.InField))

start_field_rests : (cfg : Config) (c : ℕ) → Rests (start_field cfg c)
start_field_rests cfg c = choose _ _ _ (skips st.InQuoted) (in_field_rests cfg c)

start_record_rests : (cfg : Config) (c : ℕ) → Rests (start_record cfg c)
start_record_rests cfg c = choose _ _ _ (skips st.StartRecord) (choose _ _ _ (skips st.InComment) (start_field_rests cfg c))

step_rests : (cfg : Config) (s : State) (c : ℕ) → Rests (step cfg s c)
step_rests cfg st.StartRecord c = start_record_rests cfg c
step_rests cfg st.StartField c = start_field_rests cfg c
step_rests cfg st.InField c = in_field_rests cfg c
step_rests cfg st.InQuoted c = choose _ _ _ (skips st.AfterQuote) (choose _ _ _ (skips st.InEscape) (copies st.InQuoted))
step_rests cfg st.InEscape c = copies st.InQuoted
step_rests cfg st.AfterQuote c = choose _ _ _ (copies st.InQuoted) (in_field_rests cfg c)
step_rests cfg st.InComment c = choose _ _ _ (skips st.StartRecord) (skips st.InComment)
step_rests cfg st.AfterCr c = choose _ _ _ (skips st.StartRecord) (start_record_rests cfg c)

-- the two ways in which a choice gives a record
given : {P : Type 0} (b : Bool) (here : Read) (there : Option Read) (p : Read) → cond b (Some here) there ≡ Some p
    → (b ≡ true → here ≡ p → P) → (b ≡ false → there ≡ Some p → P) → P
given true here there p e f g = f refl (same_Some _ _ e)
given false here there p e f g = g refl e

-- a record takes no more than there is, and leaves no record open
abbrev Within : List ℕ → Read → Type 0
Within xs p = (length p.2 ≤ length xs) × (ends_at_end p.1 ≡ false)

next_within : (cfg : Config) (s : State) (fields : List (List ℕ)) (field : List ℕ) (xs : List ℕ) (p : Read)
    → next_record cfg s fields field xs ≡ Some p → Within xs p
unfolding next_record
next_within cfg s fields field [] p e =
    given (ends_at_end s) (fields ++ (field ∷ []), st.StartRecord, []) None p e (λ t same. rw (← same) (omega arith, refl)) (λ t none. cc none)
next_within cfg s fields field (c ∷ rest) p e =
    given (is_end (step cfg s c).1) (fields_after (step cfg s c).1 fields field, (step cfg s c).0, rest) _ p e
    (λ t same. rw (← same) (omega arith, (step_rests cfg s c).rests t))
    (λ t more.
    let w = next_within cfg (step cfg s c).0 (fields_after (step cfg s c).1 fields field) (field_after (step cfg s c).1 c field) rest p more in
    (omega (arith, w.0), w.1))

-- where no record was open, it takes a byte
next_shrinks : (cfg : Config) (s : State) (fields : List (List ℕ)) (field : List ℕ) (xs : List ℕ) (p : Read)
    → ends_at_end s ≡ false → next_record cfg s fields field xs ≡ Some p → length p.2 < length xs
unfolding next_record
next_shrinks cfg s fields field [] p r e = let none : None ≡ Some p = rw r at e in cc none
next_shrinks cfg s fields field (c ∷ rest) p r e =
    given (is_end (step cfg s c).1) (fields_after (step cfg s c).1 fields field, (step cfg s c).0, rest) _ p e
    (λ t same. rw (← same) (omega arith))
    (λ t more. let w = next_within cfg _ _ _ rest p more in omega (arith, w.0))

-- each record takes a byte
rows_fit : (cfg : Config) (s s2 : State) (xs ys : List ℕ) (rows : List (List (List ℕ)))
    → ends_at_end s ≡ false → Reached cfg s xs rows s2 ys → length rows ≤ length xs
unfolding Reached
rows_fit cfg s s2 xs ys [] r h = omega arith
rows_fit cfg s s2 xs ys (row ∷ rows) r h =
    let shrinks = next_shrinks cfg s [] [] xs h.0 r h.1 in
    let within = next_within cfg s [] [] xs h.0 h.1 in
    let more = rows_fit cfg h.0.1 s2 h.0.2 ys rows within.1 h.3 in
    omega arith

rows_are : (cfg : Config) (n : ℕ) (s s2 : State) (xs ys : List ℕ) (rows : List (List (List ℕ)))
    → length rows < n → Reached cfg s xs rows s2 ys → next_record cfg s2 [] [] ys ≡ None → records_from cfg n s xs ≡ rows
unfolding Reached records_from
rows_are cfg zero s s2 xs ys rows fits h e = absurd (omega arith)
rows_are cfg (suc n) s s2 xs ys [] fits h e = rw (h.0, h.1, e)
rows_are cfg (suc n) s s2 xs ys (row ∷ rows) fits h e =
    rw (h.1, h.2) (ap (λ t. h.0.0 ∷ t) (rows_are cfg n h.0.1 s2 h.0.2 ys rows (omega arith) h.3 e))

-- all the records of a text are `records`
pub records_are : (cfg : Config) (xs : List ℕ) (rows : List (List (List ℕ))) → AreRecords cfg st.StartRecord xs rows → records cfg xs ≡ rows
records_are cfg xs rows h =
    let fits = rows_fit cfg st.StartRecord h.0 xs h.1 rows refl h.2 in
    rows_are cfg (length xs + 1) st.StartRecord h.0 xs h.1 rows (omega arith) h.2 h.3
