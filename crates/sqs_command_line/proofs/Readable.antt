-- Where the rules find no fault in words, they have a subcommand of the program, and its numbers can be read.
use Rattle.std.proofs.Common.{[], Bool, List, None, Option, Some, ap, arith, cond, drop, false, inl, inr, refl, subst, sym, true, ℕ, ◌<◌, ◌^◌, ◌||◌, ◌∙◌, ◌∷◌, ◌≡◌, ◌⊎◌, ◌==◌}
use Rattle.std.specs.Prelude.{codes, find, is_some, option_and_then, option_map, pos, slice_get, unwrap_or}
use Rattle.std.specs.Option.{option_map_or}
use Rattle.std.specs.Str.{bytes_eq}
use Rattle.std.specs.Str.Parse.{IsNumeral, digits_value, starts_with_minus, without_leading_plus}
use Rattle.std.proofs.lemmas.Bool.{ne_eqb}
use Rattle.std.proofs.lemmas.Int.{ints}
use Rattle.std.proofs.lemmas.Slice.Eq.{bytes_eq-Decides}
use Rattle.std.proofs.lemmas.Str.Parse.{digit_from_value}
use Rattle.clap.specs.Facts.{parser_of_value}
use Rattle.clap.specs.Faults.{check_fault, defaults_fault, entered_fault, fault_of, level_fault, settle_fault, values_fault, walk_fault}
use Rattle.clap.specs.Kinds.{Kinds, or_else}
use Rattle.clap.specs.Lexer.{without_minus}
use Rattle.clap.specs.Simple.{Shape, argument_words, built, entered, label_of, names_of, rows_at, subcommand_of}
use Rattle.clap.specs.Values.{IsSignedIn, read_as, refused_kind}
use Rattle.clap.specs.ValueTests.{accepts}
use Rattle.clap.specs.Walk.{Row, Rule, Text, answers_to, arg_by_id, finished, nothing_held, one_of, reading_by, row_text, rows_after, settled, stop_after, walk, walk_from}
use Rattle.clap.specs.declared.builder.value_parser.Reading.{Reading}
use Rattle.clap.specs.declared.builder.value_parser.ValueParser.TheVariants as parsers
use Rattle.clap.proofs.ValueTestLemmas.{accepts-Accepts}
use Rattle.sqs_command_line.specs.Lines.{IsNumber, IsReadable, IsReadableOf}
use Rattle.sqs_command_line.specs.Programs.{program}
use Rattle.sqs_command_line.proofs.Passed.{Each, IsOwn, IsPassed, each_found, level_passed, none_of}
use Rattle.sqs_command_line.proofs.Stopped.{IsNoHelp, walk_on}

-- ---- numbers

without_minus-cond : (t : Text) → without_minus t ≡ cond (starts_with_minus t) (drop 1 t) t
without_minus-cond [] = refl
without_minus-cond (x ∷ xs) = go (x == 45)
  where
    go : (b : Bool) → unwrap_or (cond b (Some xs) None) (x ∷ xs) ≡ cond b xs (x ∷ xs)
    go true = refl
    go false = refl

no_plus : (ds : Text) → IsNumeral 10 ds → without_leading_plus ds ≡ ds
no_plus [] h = refl
no_plus (d ∷ ds) h =
    let plus : (d == 43) ≡ false = ne_eqb _ _ (λ e. omega (arith, digit_from_value d h.1.0)) in
    ap (λ (b : Bool). drop (cond b 1 0) (d ∷ ds)) plus

-- a text that passed a range with no number below zero tells a number of k bits
signed_number : (k high : ℕ) (t : Text) → high < 2 ^ k → IsSignedIn (pos 0) (pos high) t → IsNumber k (Some (without_minus t))
signed_number k high t fits passed = subst (λ (u : Text). IsNumber k (Some u)) (sym (without_minus-cond t)) (go (starts_with_minus t) refl)
  where
    go : (b : Bool) → starts_with_minus t ≡ b → IsNumber k (Some (cond (starts_with_minus t) (drop 1 t) t))
    go true minus =
        let low_ok = rw minus at passed.2 in
        let numeral : IsNumeral 10 (drop 1 t) = rw minus at passed.0 in
        let same = no_plus (drop 1 t) numeral in
        let small : digits_value 10 (drop 1 t) < 2 ^ k = omega (arith, ints) in
        rw minus (rw same numeral, rw same small)
    go false minus =
        let low_ok = rw minus at passed.2 in
        let high_ok = rw minus at passed.3 in
        let numeral = rw minus at passed.0 in
        rw minus (numeral, omega (arith, ints))

-- what an argument tells, where each text that passes its test tells a number
number_read : (k : ℕ) (c : List Rule) (rows : List Row) (id : Text) (a : Rule) → Each (IsPassed c) rows → arg_by_id c id ≡ Some a
    → ((t : Text) → accepts a.ignore_case (parser_of_value a.parser) t ≡ true → IsNumber k (Some (read_as (reading_by a) t)))
    → IsNumber k (one_of id rows)
number_read k c rows id a passed here reads = go (find (λ r. bytes_eq r.id id) rows) refl
  where
    accepted : (b : Bool) (ks : Kinds) → or_else (cond b [] (refused_kind (parser_of_value a.parser) ∷ [])) ks ≡ [] → b ≡ true
    accepted true ks e = refl
    accepted false ks e = cc

    first : (how : Reading) (vs : List Text) → reading_by a ≡ how → values_fault a vs ≡ [] → IsNumber k (option_map (read_as how) (slice_get vs 0))
    first how [] same e = tt
    first how (v ∷ vs) same e = subst (λ (r : Reading). IsNumber k (Some (read_as r v))) same (reads v (accepted (accepts a.ignore_case (parser_of_value a.parser) v) _ e))

    go : (o : Option Row) → find (λ r. bytes_eq r.id id) rows ≡ o → IsNumber k (option_and_then row_text o)
    go None is = tt
    go (Some r) is =
        let f = each_found (IsPassed c) (λ (x : Row). bytes_eq x.id id) rows r passed is in
        let p = f.0 a (subst (λ (x : Text). arg_by_id c x ≡ Some a) (sym ((bytes_eq-Decides r.id id).0 f.1)) here) in
        first r.reading r.values (sym p.0) p.1

-- ---- subcommands

-- words in which a subcommand finds no fault can be read, or it is `help`
abbrev Reads : Shape → Type 0
Reads s = ((words : List Text) → level_fault s [] nothing_held words false [] ≡ [] → IsReadable (rows_at s words)) ⊎ ((s.name ≡ codes "help") × (s.aliases ≡ []))

abbrev head : List Shape → Shape
head [] = program.top
head (s ∷ rest) = s

abbrev run_built : Shape
run_built = head (built program).subs

abbrev figures_built : Shape
figures_built = head (drop 3 (built program).subs)

run_owns : Each (IsOwn run_built.rules) run_built.rules
run_owns = (refl, (refl, (refl, (refl, (refl, (refl, (refl, (refl, (refl, (refl, (refl, (refl, (refl, (refl, (refl, (refl, tt))))))))))))))))

figures_owns : Each (IsOwn figures_built.rules) figures_built.rules
figures_owns = (refl, (refl, (refl, (refl, (refl, (refl, (refl, (refl, (refl, (refl, tt))))))))))

-- the numbers that passed a range from a first one on
passed_range : (least : ℕ) (t : Text) → accepts false (parsers.Unsigned least 18446744073709551615) t ≡ true → IsNumber 64 (Some t)
passed_range least t h = let a = accepts-Accepts false (parsers.Unsigned least 18446744073709551615) t h in (a.0, a.1)

run_reads : (words : List Text) → level_fault run_built [] nothing_held words false [] ≡ [] → IsReadable (rows_at run_built words)
run_reads words e =
    let passed = level_passed run_built run_owns words e in
    let rows = rows_after run_built.rules [] words in
    let number = λ (t : Text) (h : accepts false (parsers.Signed (pos 0) (pos 4294967295)) t ≡ true). signed_number 32 4294967295 t (omega arith) (accepts-Accepts false (parsers.Signed (pos 0) (pos 4294967295)) t h) in
    inl (
      refl,
      (
        number_read 64 run_built.rules rows (codes "window") _ passed refl (passed_range 1),
        number_read 32 run_built.rules rows (codes "parts") _ passed refl number,
        number_read 32 run_built.rules rows (codes "workers") _ passed refl number,
        (
          number_read 64 run_built.rules rows (codes "from") _ passed refl (passed_range 0),
          number_read 64 run_built.rules rows (codes "to") _ passed refl (passed_range 0),
          number_read 64 run_built.rules rows (codes "backlog") _ passed refl (passed_range 0),
          number_read 64 run_built.rules rows (codes "window-figures") _ passed refl (passed_range 1),
        ),
      ),
    )

figures_reads : (words : List Text) → level_fault figures_built [] nothing_held words false [] ≡ [] → IsReadable (rows_at figures_built words)
figures_reads words e =
    let passed = level_passed figures_built figures_owns words e in
    let rows = rows_after figures_built.rules [] words in
    inr (inl (
      refl,
      (
        number_read 64 figures_built.rules rows (codes "from") _ passed refl (passed_range 0),
        number_read 64 figures_built.rules rows (codes "to") _ passed refl (passed_range 0),
        number_read 64 figures_built.rules rows (codes "backlog") _ passed refl (passed_range 0),
        number_read 64 figures_built.rules rows (codes "window-figures") _ passed refl (passed_range 1),
      ),
    ))

program_reads : Each Reads (built program).subs
program_reads =
    (inl run_reads, (inl (λ words e. inr (inr (inl refl))), (inl (λ words e. inr (inr (inr refl))), (inl figures_reads, (inr (refl, refl), tt)))))

entered_reads : (stop : Option (Text × List Text)) → IsNoHelp stop → entered_fault (built program) stop ≡ [] → is_some (entered (built program) stop) ≡ true
    → IsReadableOf (entered (built program) stop)
entered_reads None no_help e has = cc
entered_reads (Some p) no_help e has = go (find (λ s. answers_to p.0 (label_of s)) (built program).subs) refl e has
  where
    is_help : (b : Bool) → (b || false) ≡ true → b ≡ true
    is_help true t = refl
    is_help false t = t

    go : (o : Option Shape) → find (λ s. answers_to p.0 (label_of s)) (built program).subs ≡ o → option_map_or (λ s. level_fault s [] nothing_held p.1 false []) o [] ≡ []
        → is_some (option_map (λ s. rows_at s p.1) o) ≡ true → IsReadableOf (option_map (λ s. rows_at s p.1) o)
    go None is e has = cc
    go (Some s) is e has =
        let f = each_found Reads (λ (x : Shape). answers_to p.0 (label_of x)) (built program).subs s program_reads is in
        elim f.0 [
          | inl reads ↦ reads p.1 e
          | inr help ↦
              let named : answers_to p.0 (codes "help", []) ≡ true = subst (λ (l : Text × List Text). answers_to p.0 l ≡ true) (λ i. (help.0 i, help.1 i)) f.1 in
              let same : codes "help" ≡ p.0 = (bytes_eq-Decides (codes "help") p.0).0 (is_help (bytes_eq (codes "help") p.0) named) in
              let bad : bytes_eq p.0 (codes "help") ≡ true = (bytes_eq-Decides p.0 (codes "help")).1 (sym same) in
              absurd (let no = sym no_help ∙ bad in cc)
        ]

-- the program asks for a subcommand
has_entered : (rows : List Row) (has : Bool) → check_fault (built program).top rows has ≡ [] → has ≡ true
has_entered rows true e = refl
has_entered rows false e = cc

pub readable : (words : List Text) → fault_of program words ≡ [] → IsReadableOf (subcommand_of program words)
readable words e =
    let app = built program in
    let given = argument_words program words in
    let stop = stop_after app.top.rules (names_of app) given in
    let end = (walk app.top.rules (names_of app) nothing_held given).held in
    let p = none_of (walk_fault app.top (names_of app) (walk_from nothing_held) given) _ e in
    let q = none_of (entered_fault app stop) _ p.1 in
    let r = none_of (settle_fault app.top.rules app.top.args_override_self end) _ q.1 in
    let t = none_of (defaults_fault (settled app.top.rules end).rows app.top.rules) _ r.1 in
    entered_reads stop (walk_on app.top refl (names_of app) given (walk_from nothing_held) tt p.0) q.0 (has_entered (finished app.top.rules end) (is_some (entered app stop)) t.1)
