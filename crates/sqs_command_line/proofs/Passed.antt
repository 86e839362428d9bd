-- Where the rules find no fault in words, each value that they find passed the test of its argument.
use Rattle.std.proofs.Common.{[], Bool, arith, List, None, Option, Some, ap, ap₂, cond, drop, false, length, min, refl, subst, suc, sym, true, zero, ℕ, ◌++◌, ◌&&◌, ◌+◌, ◌||◌, ◌∙◌, ◌∷◌, ◌≡◌}
use Rattle.std.specs.Prelude.{encode_utf8, find, fold, is_some, slice_get, ⊤}
use Rattle.std.specs.Option.{option_map_or}
use Rattle.std.specs.Str.{bytes_eq, chars}
use Rattle.std.proofs.lemmas.Bool.{ne_eqb}
use Rattle.std.proofs.lemmas.Slice.Eq.{bytes_eq-Decides}
use Rattle.clap.specs.Facts.{parser_of_value}
use Rattle.clap.specs.Faults.{action_fault, bundle_fault, bundle_step_fault, default_fault, defaults_fault, flag_word_fault, flags_fault, level_fault, long_fault, option_fault, other_fault, positional_fault, react_fault, repeat_fault, settle_fault, short_fault, step_fault, stray_fault, turn_fault, use_fault, values_fault, walk_fault, word_fault}
use Rattle.clap.specs.Kinds.{Kinds, or_else, request_kinds, value_kinds}
use Rattle.clap.specs.Lexer.{long_of, short_of}
use Rattle.clap.specs.Matches.{count_text}
use Rattle.clap.specs.Simple.{Shape}
use Rattle.clap.specs.Walk.{Held, Names, Outcome, Row, Rule, Step, Text, Waiting, Walk, action_of, after_flag, after_step, arg_by_id, arg_by_index, arg_by_long, arg_by_short, at_row, attached_value, bundle_met, bundle_step, count_of, default_rows, done, flag_met, has_row, idle, is_empty, is_pending, long_met, long_or_other, next, nothing_held, option, option_met, plain, plain_word, positional, reacted, reading_by, refused, rows_after, settled, settled_rows, short_met, short_or_plain, option_word, subcommand, subcommand_met, subcommand_or_other, takes_several, takes_values, to_positional, trailing, used, used_as, used_by_id, value, values_or_missing, waits, walk_from, walked, walked_from, with_count, with_default, with_values, without, word_met}
use Rattle.clap.specs.declared.builder.action.ArgAction.{ArgAction}
use Rattle.clap.specs.declared.builder.action.ArgAction.TheVariants as action
use Rattle.clap.specs.declared.error.kind.ErrorKind.TheVariants.{TooManyValues}
use Rattle.clap.specs.declared.parser.matches.ValueSource.{ValueSource}
use Rattle.clap.specs.declared.parser.matches.ValueSource.TheVariants.{CommandLine, DefaultValue}

-- each element of a list has a property
abbrev pub Each : {X : Type 0} → (X → Type 0) → List X → Type 0
Each P [] = ⊤
Each P (x ∷ xs) = P x × Each P xs

each_append : {X : Type 0} (P : X → Type 0) (xs ys : List X) → Each P xs → Each P ys → Each P (xs ++ ys)
each_append P [] ys hx hy = hy
each_append P (x ∷ xs) ys hx hy = (hx.0, each_append P xs ys hx.1 hy)

-- an element that is found has the property, and passes the test
pub each_found : {X : Type 0} (P : X → Type 0) (p : X → Bool) (xs : List X) (x : X) → Each P xs → find p xs ≡ Some x → P x × (p x ≡ true)
each_found P p [] x h e = cc
each_found P p (y ∷ ys) x h e = go (p y) refl e (each_found P p ys x h.1)
  where
    go : (b : Bool) → p y ≡ b → cond b (Some y) (find p ys) ≡ Some x → (find p ys ≡ Some x → P x × (p x ≡ true)) → P x × (p x ≡ true)
    go true t is rest =
        let same : y ≡ x = cc in
        (subst P same h.0, subst (λ z. p z ≡ true) same t)
    go false t is rest = rest is

-- no kind comes of two steps only where none comes of either
pub none_of : (a b : Kinds) → or_else a b ≡ [] → (a ≡ []) × (b ≡ [])
none_of [] b e = (refl, e)
none_of (k ∷ ks) b e = cc

each_at_row : (P : Row → Type 0) (id : Text) (change : Row → List Row) (missing rows : List Row)
    → ((r : Row) → bytes_eq r.id id ≡ true → P r → Each P (change r)) → Each P missing → Each P rows → Each P (at_row id change missing rows)
each_at_row P id change missing [] changed new h = new
each_at_row P id change missing (r ∷ rs) changed new h = go (bytes_eq r.id id) refl (each_at_row P id change missing rs changed new h.1)
  where
    go : (b : Bool) → bytes_eq r.id id ≡ b → Each P (at_row id change missing rs) → Each P (cond b (change r ++ rs) (r ∷ at_row id change missing rs))
    go true same rest = each_append P (change r) rs (changed r same h.0) h.1
    go false same rest = (h.0, rest)

-- the argument is the first with its id
abbrev pub IsOwn : List Rule → Rule → Type 0
IsOwn c a = arg_by_id c a.id ≡ Some a

-- the values of a row passed the test of the argument with its id, which says how they are read
abbrev pub IsPassed : List Rule → Row → Type 0
IsPassed c r = (a : Rule) → arg_by_id c r.id ≡ Some a → (r.reading ≡ reading_by a) × (values_fault a r.values ≡ [])

values_append : (a : Rule) (xs ys : List Text) → values_fault a xs ≡ [] → values_fault a ys ≡ [] → values_fault a (xs ++ ys) ≡ []
values_append a [] ys x y = y
values_append a (v ∷ vs) ys x y =
    let p = none_of (value_kinds a.ignore_case (parser_of_value a.parser) v) (values_fault a vs) x in
    ap₂ or_else p.0 (values_append a vs ys p.1 y)

module _ (c : List Rule) where
  without_passed : (id : Text) (rows : List Row) → Each (IsPassed c) rows → Each (IsPassed c) (without id rows)
  without_passed id rows h = each_at_row (IsPassed c) id (λ r. []) [] rows (λ r same g. tt) tt h

  -- rows to which values of an argument are added
  added_passed : (a : Rule) (vs : List Text) (count : Row → Option ℕ) (source : Row → Option ValueSource) (n : Option ℕ) (s : Option ValueSource) (rows : List Row)
      → IsOwn c a → values_fault a vs ≡ [] → Each (IsPassed c) rows
      → Each (IsPassed c)
      (at_row a.id (λ r. record r { values = r.values ++ vs; count = count r; source = source r } ∷ [])
      (record { id = a.id; values = vs; count = n; source = s; reading = reading_by a } ∷ []) rows)
  added_passed a vs count source n s rows own none h =
      each_at_row (IsPassed c) a.id (λ r. record r { values = r.values ++ vs; count = count r; source = source r } ∷ [])
      (record { id = a.id; values = vs; count = n; source = s; reading = reading_by a } ∷ []) rows more (new, tt) h
    where
      new : (b : Rule) → arg_by_id c a.id ≡ Some b → (reading_by a ≡ reading_by b) × (values_fault b vs ≡ [])
      new b found =
          let both : Some a ≡ Some b = sym own ∙ found in
          let same : a ≡ b = cc in
          (ap reading_by same, subst (λ (x : Rule). values_fault x vs ≡ []) same none)

      more : (r : Row) → bytes_eq r.id a.id ≡ true → IsPassed c r → Each (IsPassed c) (record r { values = r.values ++ vs; count = count r; source = source r } ∷ [])
      more r same g = (
        (λ b found.
            let old = g b found in
            let here : arg_by_id c a.id ≡ Some b = subst (λ (id : Text). arg_by_id c id ≡ Some b) ((bytes_eq-Decides r.id a.id).0 same) found in
            (old.0, values_append b r.values vs old.1 (new b here).1)),
        tt,
      )

  values_passed : (a : Rule) (s : ValueSource) (vs : List Text) (rows : List Row) → IsOwn c a → values_fault a vs ≡ [] → Each (IsPassed c) rows
      → Each (IsPassed c) (with_values a.id (reading_by a) s vs rows)
  values_passed a s vs rows own none h = added_passed a vs _ _ _ _ rows own none h

  count_passed : (a : Rule) (s : ValueSource) (n : ℕ) (rows : List Row) → IsOwn c a → value_kinds a.ignore_case (parser_of_value a.parser) (count_text n) ≡ [] → Each (IsPassed c) rows
      → Each (IsPassed c) (with_count a.id (reading_by a) s n rows)
  count_passed a s n rows own none h = added_passed a (count_text n ∷ []) _ _ _ _ rows own (ap (λ k. or_else k []) none) h

  -- one use of an argument
  used_passed : (again : Bool) (a : Rule) (values : List Text) (rows : List Row) → IsOwn c a → Each (IsPassed c) rows → use_fault again a values rows ≡ []
      → Each (IsPassed c) (used a values rows)
  used_passed again a values rows own h e = go (action_of a) (values_or_missing a values) (none_of _ _ e).1
    where
      fresh : Each (IsPassed c) (without a.id rows)
      fresh = without_passed a.id rows h

      set : (vs : List Text) → or_else (repeat_fault again a.id rows) (values_fault a vs) ≡ [] → Each (IsPassed c) (with_values a.id (reading_by a) CommandLine vs (without a.id rows))
      set vs e = values_passed a CommandLine vs (without a.id rows) own (none_of (repeat_fault again a.id rows) (values_fault a vs) e).1 fresh

      go : (x : ArgAction) (vs : List Text) → action_fault x again a vs rows ≡ [] → Each (IsPassed c) (used_as x a.id (reading_by a) vs rows)
      go action.Set vs e = set vs e
      go action.SetTrue vs e = set vs e
      go action.SetFalse vs e = set vs e
      go action.Append vs e = values_passed a CommandLine vs rows own e h
      go action.Count [] e = count_passed a CommandLine (min (count_of a.id rows + 1) 255) (without a.id rows) own e fresh
      go action.Count (v ∷ vs) e = values_passed a CommandLine (v ∷ vs) (without a.id rows) own e fresh
      go action.Help vs e = h
      go action.HelpShort vs e = h
      go action.HelpLong vs e = h
      go action.Version vs e = h

-- ---- the walk over the words

module _ (c : List Rule) (again : Bool) (own : Each (IsOwn c) c) where
  found_own : (p : Rule → Bool) (a : Rule) → find p c ≡ Some a → IsOwn c a
  found_own p a e = (each_found (IsOwn c) p c a own e).0

  settled_passed : (h : Held) → Each (IsPassed c) h.rows → settle_fault c again h ≡ [] → Each (IsPassed c) (settled c h).rows
  settled_passed h good e = go h.pending e
    where
      one : (p : Text × List Text) (o : Option Rule) → arg_by_id c p.0 ≡ o → option_map_or (λ a. use_fault again a p.1 h.rows) o [] ≡ [] → Each (IsPassed c) (used_by_id o p.1 h.rows)
      one p None found e = good
      one p (Some a) found e = used_passed c again a p.1 h.rows (found_own (λ x. bytes_eq x.id p.0) a found) good e

      go : (o : Option (Text × List Text)) → option_map_or (λ p. option_map_or (λ a. use_fault again a p.1 h.rows) (arg_by_id c p.0) []) o [] ≡ [] → Each (IsPassed c) (settled_rows c o h.rows)
      go None e = good
      go (Some p) e = one p (arg_by_id c p.0) refl e

  reacted_passed : (a : Rule) (values : List Text) (h : Held) → IsOwn c a → Each (IsPassed c) h.rows → react_fault c again a values h ≡ [] → Each (IsPassed c) (reacted c a values h).rows
  reacted_passed a values h is good e =
      let p = none_of (settle_fault c again h) (use_fault again a values (settled c h).rows) e in
      used_passed c again a values (settled c h).rows is (settled_passed h good p.0) p.1

  option_passed : (a : Rule) (v : Option Text) (h : Held) → IsOwn c a → Each (IsPassed c) h.rows → option_fault c again a v h ≡ [] → Each (IsPassed c) (option_met c a v h).0.rows
  option_passed a (Some v) h is good e = reacted_passed a (v ∷ []) h is good e
  option_passed a None h is good e = settled_passed h good e

  long_passed : (o : Option Rule) (v : Option Text) (h : Held) → ((a : Rule) → o ≡ Some a → IsOwn c a) → Each (IsPassed c) h.rows → long_fault c again o v h ≡ []
      → Each (IsPassed c) (long_met c o v h).0.rows
  long_passed None v h is good e = good
  long_passed (Some a) v h is good e = go (takes_values a) v e
    where
      go : (b : Bool) (w : Option Text) → cond b (option_fault c again a w h) (cond (is_some w) (TooManyValues ∷ []) (react_fault c again a [] h)) ≡ []
          → Each (IsPassed c) (cond b (option_met c a w h) (flag_met c a w h)).0.rows
      go true w e = option_passed a w h (is a refl) good e
      go false (Some w) e = good
      go false None e = reacted_passed a [] h (is a refl) good e

  short_passed : (o : Option Rule) (rest : Text) (h : Held) (after : Held → Held × Outcome) (fault : Held → Kinds) → ((a : Rule) → o ≡ Some a → IsOwn c a) → Each (IsPassed c) h.rows
      → ((g : Held) → Each (IsPassed c) g.rows → fault g ≡ [] → Each (IsPassed c) (after g).0.rows) → short_fault c again o rest h fault ≡ []
      → Each (IsPassed c) (short_met c o rest h after).0.rows
  short_passed None rest h after fault is good then e = good
  short_passed (Some a) rest h after fault is good then e = go (takes_values a) e
    where
      go : (b : Bool) → cond b (option_fault c again a (attached_value rest) h) (or_else (react_fault c again a [] h) (fault (reacted c a [] h))) ≡ []
          → Each (IsPassed c) (cond b (option_met c a (attached_value rest) h) (after (reacted c a [] h))).0.rows
      go true e = option_passed a (attached_value rest) h (is a refl) good e
      go false e =
          let p = none_of (react_fault c again a [] h) (fault (reacted c a [] h)) e in
          then (reacted c a [] h) (reacted_passed a [] h (is a refl) good p.0) p.1

  bundle_passed : (k : ℕ) (flags : Text) (skip : ℕ) (so_far : Outcome) (h : Held) → Each (IsPassed c) h.rows → flags_fault c again k flags skip h ≡ []
      → Each (IsPassed c) (bundle_met c k flags skip so_far h).0.rows
  unfolding bundle_met flags_fault
  bundle_passed zero flags skip so_far h good e = good
  bundle_passed (suc k) flags skip so_far h good e = go (slice_get (chars flags) 0) skip e (λ t n o g. bundle_passed k t n o g)
    where
      go : (o : Option ℕ) (skip : ℕ) → bundle_step_fault c again o flags skip h (flags_fault c again k) ≡ []
          → ((t : Text) (n : ℕ) (so_far : Outcome) (g : Held) → Each (IsPassed c) g.rows → flags_fault c again k t n g ≡ [] → Each (IsPassed c) (bundle_met c k t n so_far g).0.rows)
          → Each (IsPassed c) (bundle_step c o flags skip so_far h (bundle_met c k)).0.rows
      go None skip e rest = good
      go (Some x) (suc skip) e rest = rest (drop (length (encode_utf8 x)) flags) skip so_far h good e
      go (Some x) zero e rest =
          let left = drop (length (encode_utf8 x)) flags in
          short_passed (arg_by_short c x) left h (bundle_met c k left 0 done) (flags_fault c again k left 0) (λ a found. found_own _ a found) good (rest left 0 done) e

  plain_passed : (waiting : Waiting) (word : Text) (h : Held) → Each (IsPassed c) h.rows → Each (IsPassed c) (plain_word c waiting word h).0.rows
  plain_passed idle word h good = good
  plain_passed positional word h good = good
  plain_passed (option id) word h good = go (arg_by_id c id)
    where
      go : (o : Option Rule) → Each (IsPassed c) (option_word o id word h).0.rows
      go None = good
      go (Some a) = good

  after_passed : (waiting : Waiting) (word : Text) (h : Held) (o : Outcome) → Each (IsPassed c) h.rows → Each (IsPassed c) (after_flag c waiting word h o).0.rows
  after_passed waiting word h done good = good
  after_passed waiting word h (waits id) good = good
  after_passed waiting word h plain good = plain_passed waiting word h good
  after_passed waiting word h refused good = plain_passed waiting word h good

  -- the defaults
  default_passed : (rows : List Row) (a : Rule) → IsOwn c a → Each (IsPassed c) rows → default_fault rows a ≡ [] → Each (IsPassed c) (with_default rows a)
  default_passed rows a is good e = go (has_row a.id rows) e
    where
      given : (ds : List Text) → cond (is_empty ds) [] (or_else (request_kinds (action_of a)) (values_fault a ds)) ≡ [] → Each (IsPassed c) (default_rows a.id (reading_by a) ds rows)
      given [] e = good
      given (d ∷ ds) e =
          let some : is_empty (d ∷ ds) ≡ false = ne_eqb (length (d ∷ ds)) 0 (λ z. omega arith) in
          let none = subst (λ (b : Bool). cond b [] (or_else (request_kinds (action_of a)) (values_fault a (d ∷ ds))) ≡ []) some e in
          values_passed c a DefaultValue (d ∷ ds) rows is (none_of (request_kinds (action_of a)) (values_fault a (d ∷ ds)) none).1 good

      go : (b : Bool) → cond (b || is_empty a.defaults) [] (or_else (request_kinds (action_of a)) (values_fault a a.defaults)) ≡ []
          → Each (IsPassed c) (cond b rows (default_rows a.id (reading_by a) a.defaults rows))
      go true e = good
      go false e = given a.defaults e

  defaults_passed : (cs : List Rule) (rows : List Row) → Each (IsOwn c) cs → Each (IsPassed c) rows → defaults_fault rows cs ≡ [] → Each (IsPassed c) (fold with_default rows cs)
  unfolding defaults_fault
  defaults_passed [] rows are good e = good
  defaults_passed (a ∷ rest) rows are good e =
      let p = none_of (default_fault rows a) (defaults_fault (with_default rows a) rest) e in
      defaults_passed rest (with_default rows a) are.1 (default_passed rows a are.0 good p.0) p.1

module _ (s : Shape) (own : Each (IsOwn s.rules) s.rules) where
  word_passed : (names : Names) (is_trailing : Bool) (waiting : Waiting) (position : ℕ) (word : Text) (h : Held) → Each (IsPassed s.rules) h.rows
      → word_fault s names is_trailing waiting word h ≡ [] → Each (IsPassed s.rules) (word_met s.rules names is_trailing waiting position word h).0.rows
  word_passed names true waiting position word h good e = good
  word_passed names false waiting position word h good e = go (subcommand_met names waiting word) e
    where
      short : (o : Option Text) → option_map_or (λ flags. bundle_fault s.rules s.args_override_self flags h) o [] ≡ [] → Each (IsPassed s.rules) (short_or_plain s.rules waiting word o h).0.rows
      short (Some flags) e =
          after_passed s.rules s.args_override_self own waiting word _ _
          (bundle_passed s.rules s.args_override_self own (length flags) flags h.skip plain (record h { skip = 0 }) good e)
      short None e = plain_passed s.rules s.args_override_self own waiting word h good

      long : (o : Option (Text × Option Text)) → flag_word_fault s.rules s.args_override_self o word h ≡ [] → Each (IsPassed s.rules) (long_or_other s.rules waiting word o h).0.rows
      long (Some p) e =
          after_passed s.rules s.args_override_self own waiting word _ _
          (long_passed s.rules s.args_override_self own (arg_by_long s.rules p.0) p.1 h (λ a found. found_own s.rules s.args_override_self own _ a found) good e)
      long None e = short (short_of word) e

      other : (b : Bool) → cond b [] (flag_word_fault s.rules s.args_override_self (long_of word) word h) ≡ []
          → Each (IsPassed s.rules) (cond b (h, trailing position) (long_or_other s.rules waiting word (long_of word) h)).0.rows
      other true e = good
      other false e = long (long_of word) e

      go : (o : Option Text) → other_fault s o word h ≡ [] → Each (IsPassed s.rules) (subcommand_or_other s.rules o waiting position word h).0.rows
      go (Some name) e = good
      go None e = other (bytes_eq word (45 ∷ 45 ∷ [])) e

  step_passed : (w : Walk) (word : Text) (h : Held) (step : Step) → Each (IsPassed s.rules) h.rows → step_fault s w.position h step ≡ []
      → Each (IsPassed s.rules) (after_step s.rules word w h step).held.rows
  step_passed w word h (next waiting) good e = good
  step_passed w word h (trailing position) good e = good
  step_passed w word h (subcommand name) good e = good
  step_passed w word h value good e = go (arg_by_index s.rules w.position) e
    where
      kept : (b : Bool) → cond b [] (settle_fault s.rules s.args_override_self h) ≡ [] → Each (IsPassed s.rules) (cond b h (settled s.rules h)).rows
      kept true e = good
      kept false e = settled_passed s.rules s.args_override_self own h good e

      go : (o : Option Rule) → option_map_or (λ a. positional_fault s.rules s.args_override_self a h) o (stray_fault s) ≡ [] → Each (IsPassed s.rules) (to_positional s.rules o word w h).held.rows
      go None e = good
      go (Some a) e = kept (is_pending a h.pending && takes_several a) e

  turn_passed : (names : Names) (w : Walk) (word : Text) → Each (IsPassed s.rules) w.held.rows → turn_fault s names w word ≡ [] → Each (IsPassed s.rules) (walked s.rules names w word).held.rows
  unfolding walked
  turn_passed names w word good e = go w.stopped e
    where
      met : Held × Step
      met = word_met s.rules names w.is_trailing w.waiting w.position word w.held

      go : (o : Option (Text × List Text)) → cond (is_some o) [] (or_else (word_fault s names w.is_trailing w.waiting word w.held) (step_fault s w.position met.0 met.1)) ≡ []
          → Each (IsPassed s.rules) (walked_from s.rules names o w word).held.rows
      go (Some p) e = good
      go None e =
          let p = none_of (word_fault s names w.is_trailing w.waiting word w.held) (step_fault s w.position met.0 met.1) e in
          step_passed w word met.0 met.1 (word_passed names w.is_trailing w.waiting w.position word w.held good p.0) p.1

  walk_passed : (names : Names) (words : List Text) (w : Walk) → Each (IsPassed s.rules) w.held.rows → walk_fault s names w words ≡ []
      → Each (IsPassed s.rules) (fold (walked s.rules names) w words).held.rows
  unfolding walk_fault
  walk_passed names [] w good e = good
  walk_passed names (word ∷ rest) w good e =
      let p = none_of (turn_fault s names w word) (walk_fault s names (walked s.rules names w word) rest) e in
      walk_passed names rest (walked s.rules names w word) (turn_passed names w word good p.0) p.1

  -- a level without subcommands
  pub level_passed : (words : List Text) → level_fault s [] nothing_held words false [] ≡ [] → Each (IsPassed s.rules) (rows_after s.rules [] words)
  level_passed words e =
      let end = (fold (walked s.rules []) (walk_from nothing_held) words).held in
      let p = none_of (walk_fault s [] (walk_from nothing_held) words) _ e in
      let q = none_of (settle_fault s.rules s.args_override_self end) _ p.1 in
      let r = none_of (defaults_fault (settled s.rules end).rows s.rules) _ q.1 in
      let good = walk_passed [] words (walk_from nothing_held) tt p.0 in
      defaults_passed s.rules s.args_override_self own s.rules (settled s.rules end).rows own (settled_passed s.rules s.args_override_self own end good q.0) r.0
