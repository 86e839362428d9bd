-- What a window shows as moments pass and entries come in.
use Rattle.std.proofs.Common.{◌≡◌, ℕ, ◌+◌, ◌<◌, ◌≤◌, Bool, true, false, List, [], ◌∷◌, ◌++◌, Option, Some, None, cond, if◌then◌else◌, arith, refl, ap, sym, ◌∙◌, map, nat_lt, max, subst, ◌&&◌, append_assoc}
use Rattle.std.specs.Prelude.{All}
use Rattle.std.specs.List.{AllByRecursion, IsDistinct}
use Rattle.std.specs.Map.{keys_of, lookup}
use Rattle.std.specs.Cmp.{first_so, second_so}
use Rattle.std.specs.Cmp.Lexicographic.{bytes_decides, nat_list_eq_equiv}
use Rattle.std.specs.Option.{option_eq, option_map, option_or}
use Rattle.std.proofs.lemmas.Bool.Decides.{nat_tests}
use Rattle.std.proofs.lemmas.List.{map-append}
use Rattle.std.proofs.lemmas.List.Elements.{All-contains, All-cons, All-head, All-nil, All-push, All-tail, All-weaker, Contains-push, filter-append}
use Rattle.std.proofs.lemmas.List.Folds.{find-append}
use Rattle.std.proofs.lemmas.Map.Keys.{IsDistinct-head, IsDistinct-tail}
use Rattle.sqs_model.specs.Calls.{living_entries}
use Rattle.std.specs.Str.{bytes_eq}
use Rattle.sqs_model.specs.Queue.{Entry, same_text}
use Rattle.sqs_model.specs.Texts.{same_text_decides}
use Rattle.sqs_dedup.specs.Window.{IsWindow, entry_of, living_among, number_at, same_key, shown, window}
use Rattle.sqs_dedup.specs.declared.key.ScopedId.{ScopedId}
use Rattle.sqs_dedup.specs.declared.held.Held.{Held}

-- the number of the entry of a key that lives at a moment
abbrev pub number_among : ℕ → ScopedId → List Entry → Option ℕ
number_among now k entries = option_map (λ e. e.number) (living_among now k.scope k.id entries)

lt_max : (a b n : ℕ) → nat_lt b n ≡ true → nat_lt (max a b) n ≡ nat_lt a n
lt_max a b n h = grind (arith, nat_tests)

lt_max_not : (a b n : ℕ) → nat_lt b n ≡ false → nat_lt (max a b) n ≡ false
lt_max_not a b n h = grind (arith, nat_tests)

-- what lives later of what lived at a moment
living_shown : (now last : ℕ) (k : ScopedId) (held : List (ScopedId × Held)) → living_among now k.scope k.id (shown last held) ≡ living_among (max now last) k.scope k.id (map entry_of held)
living_shown now last k [] = refl
living_shown now last k (p ∷ held) = by (nat_lt last p.1.end) refl (living_shown now last k held)
  where
    by : (b : Bool) → nat_lt last p.1.end ≡ b → living_among now k.scope k.id (shown last held) ≡ living_among (max now last) k.scope k.id (map entry_of held) → living_among now k.scope k.id (shown last (p ∷ held)) ≡ living_among (max now last) k.scope k.id (map entry_of (p ∷ held))
    by true e h = rw (e, lt_max now last p.1.end e, h) refl
    by false e h = rw (e, lt_max_not now last p.1.end e) h

-- a key is one with another as the other is with it
scope_turned : (a b : Option (List ℕ)) → option_eq bytes_eq a b ≡ same_text b a
scope_turned None None = refl
scope_turned None (Some b) = refl
scope_turned (Some a) None = refl
scope_turned (Some a) (Some b) = nat_list_eq_equiv.symm a b

key_turned : (a b : ScopedId) → same_key a b ≡ (same_text b.scope a.scope && bytes_eq b.id a.id)
key_turned a b = λ j. scope_turned a.scope b.scope j && nat_list_eq_equiv.symm a.id b.id j

-- keys that are one are equal
key_equal : (a b : ScopedId) → same_key a b ≡ true → b ≡ a
key_equal a b e =
    let h : (same_text b.scope a.scope && bytes_eq b.id a.id) ≡ true = sym (key_turned a b) ∙ e in
    let scopes : b.scope ≡ a.scope = (same_text_decides b.scope a.scope).0 (first_so (same_text b.scope a.scope) (bytes_eq b.id a.id) h) in
    let ids : b.id ≡ a.id = (bytes_decides b.id a.id).0 (second_so (same_text b.scope a.scope) (bytes_eq b.id a.id) h) in
    (λ j. record { scope = scopes j; id = ids j })

-- whether an entry that is of a key lives
test_of_key : (a s i : Bool) → (s && i) ≡ true → (a && s && i) ≡ a
test_of_key true s i h = h
test_of_key false s i h = refl

test_of_other : (a s i : Bool) → (s && i) ≡ false → (a && s && i) ≡ false
test_of_other true s i h = h
test_of_other false s i h = refl

is_key : (now : ℕ) (k : ScopedId) (p : ScopedId × Held) → same_key k p.0 ≡ true → (nat_lt now p.1.end && same_text p.0.scope k.scope && bytes_eq p.0.id k.id) ≡ nat_lt now p.1.end
is_key now k p h = test_of_key (nat_lt now p.1.end) (same_text p.0.scope k.scope) (bytes_eq p.0.id k.id) (sym (key_turned k p.0) ∙ h)

is_other : (now : ℕ) (k : ScopedId) (p : ScopedId × Held) → same_key k p.0 ≡ false → (nat_lt now p.1.end && same_text p.0.scope k.scope && bytes_eq p.0.id k.id) ≡ false
is_other now k p h = test_of_other (nat_lt now p.1.end) (same_text p.0.scope k.scope) (bytes_eq p.0.id k.id) (sym (key_turned k p.0) ∙ h)

none_of_others : (now : ℕ) (k : ScopedId) (held : List (ScopedId × Held)) → AllByRecursion (λ q. same_key k q ≡ false) (keys_of held) → living_among now k.scope k.id (map entry_of held) ≡ None
none_of_others now k [] h = refl
none_of_others now k (p ∷ held) h =
    ap (λ b. cond b (Some (entry_of p)) (living_among now k.scope k.id (map entry_of held))) (is_other now k p h.0) ∙ none_of_others now k held h.1

-- among distinct keys, what lives of a key is what is held of it, if that lives
number_held : (now : ℕ) (k : ScopedId) (held : List (ScopedId × Held)) → IsDistinct same_key (keys_of held) → number_among now k (map entry_of held) ≡ number_at now (lookup (same_key k) held)
number_held now k [] h = refl
number_held now k (p ∷ held) h = by (same_key k p.0) refl (number_held now k held (IsDistinct-tail same_key p.0 (keys_of held) h))
  where
    alive : (b : Bool) → p.0 ≡ k → option_map (λ e. e.number) (cond b (Some (entry_of p)) (living_among now k.scope k.id (map entry_of held))) ≡ (if b then Some p.1.number else None)
    alive true s = refl
    alive false s = ap (option_map (λ e. e.number)) (none_of_others now k held (subst (λ (q : ScopedId). AllByRecursion (λ o. same_key q o ≡ false) (keys_of held)) s (IsDistinct-head same_key p.0 (keys_of held) h)))

    by : (b : Bool) → same_key k p.0 ≡ b → number_among now k (map entry_of held) ≡ number_at now (lookup (same_key k) held) → number_among now k (map entry_of (p ∷ held)) ≡ number_at now (cond b (Some p.1) (lookup (same_key k) held))
    by true e i =
        ap (λ b. option_map (λ e. e.number) (cond b (Some (entry_of p)) (living_among now k.scope k.id (map entry_of held)))) (is_key now k p e)
        ∙ alive (nat_lt now p.1.end) (key_equal k p.0 e)
    by false e i =
        ap (λ b. option_map (λ e. e.number) (cond b (Some (entry_of p)) (living_among now k.scope k.id (map entry_of held)))) (is_other now k p e) ∙ i

option_map-or : (a b : Option Entry) → option_map (λ e. e.number) (option_or a b) ≡ option_or (option_map (λ e. e.number) a) (option_map (λ e. e.number) b)
option_map-or None b = refl
option_map-or (Some a) b = refl

-- what lives of a key in a window
pub number_in_window : (now last : ℕ) (k : ScopedId) (earlier recent : List (ScopedId × Held)) (began : ℕ) → IsWindow earlier recent began last
    → number_among now k (window earlier recent last) ≡ option_or (number_at (max now last) (lookup (same_key k) earlier)) (number_at (max now last) (lookup (same_key k) recent))
number_in_window now last k earlier recent began w =
    let n : Option Entry → Option ℕ = option_map (λ e. e.number) in
    ap n (find-append (λ e. nat_lt now e.end && same_text e.scope k.scope && bytes_eq e.id k.id) (shown last earlier) (shown last recent))
    ∙ option_map-or (living_among now k.scope k.id (shown last earlier)) (living_among now k.scope k.id (shown last recent))
    ∙ (λ j. option_or (n (living_shown now last k earlier j)) (n (living_shown now last k recent j)))
    ∙ (λ j. option_or (number_held (max now last) k earlier w.earlier_keys j) (number_held (max now last) k recent w.recent_keys j))

-- the same, as it is looked up map by map
pub number_looked_up : (now last moment : ℕ) (k : ScopedId) (earlier recent : List (ScopedId × Held)) (began : ℕ) (entries : List Entry) (a : Option ℕ) → IsWindow earlier recent began last
    → window earlier recent last ≡ entries → moment ≡ max now last → a ≡ number_at moment (lookup (same_key k) earlier)
    → option_or a (number_at moment (lookup (same_key k) recent)) ≡ number_among now k entries
number_looked_up now last moment k earlier recent began entries a w shows m first =
    (λ j. option_or (first j) (number_at moment (lookup (same_key k) recent)))
    ∙ (λ j. option_or (number_at (m j) (lookup (same_key k) earlier)) (number_at (m j) (lookup (same_key k) recent)))
    ∙ sym (number_in_window now last k earlier recent began w)
    ∙ ap (number_among now k) shows

lt_yes : (a b : ℕ) → a < b → nat_lt a b ≡ true
lt_yes a b h = grind (arith, nat_tests)

lt_no : (a b : ℕ) → b ≤ a → nat_lt a b ≡ false
lt_no a b h = grind (arith, nat_tests)

lt_later : (a b n : ℕ) → a ≤ b → nat_lt a n ≡ false → nat_lt b n ≡ false
lt_later a b n h e = grind (arith, nat_tests)

-- of those that lived at a moment, those that live later
living_later : (now last : ℕ) (held : List (ScopedId × Held)) → last ≤ now → living_entries now (shown last held) ≡ shown now held
living_later now last [] h = refl
living_later now last (p ∷ held) h = by (nat_lt last p.1.end) refl (living_later now last held h)
  where
    by : (b : Bool) → nat_lt last p.1.end ≡ b → living_entries now (shown last held) ≡ shown now held → living_entries now (shown last (p ∷ held)) ≡ shown now (p ∷ held)
    by true e i = rw (e, i) refl
    by false e i = rw (e, lt_later last now p.1.end h e) i

-- those that have all ended
all_over : (now : ℕ) (held : List (ScopedId × Held)) → All (λ p. p.1.end ≤ now) held → shown now held ≡ []
all_over now [] h = refl
all_over now (p ∷ held) h =
    let P : ScopedId × Held → Type 0 = λ q. q.1.end ≤ now in
    ap (λ b. cond b (entry_of p ∷ shown now held) (shown now held)) (lt_no now p.1.end (All-head P p held h))
    ∙ all_over now held (All-tail P p held h)

-- where all live, what is not found alive is not held
absent : (now last : ℕ) (k : ScopedId) (held : List (ScopedId × Held)) → last ≤ now → All (λ p. now < p.1.end) held → living_among now k.scope k.id (shown last held) ≡ None → lookup (same_key k) held ≡ None
absent now last k [] l h n = refl
absent now last k (p ∷ held) l h n = by (same_key k p.0) refl (absent now last k held l (All-tail P p held h))
  where
    P : ScopedId × Held → Type 0
    P q = now < q.1.end

    alive : now < p.1.end
    alive = All-head P p held h

    test : Bool
    test = nat_lt now p.1.end && same_text p.0.scope k.scope && bytes_eq p.0.id k.id

    looked : cond test (Some (entry_of p)) (living_among now k.scope k.id (shown last held)) ≡ None
    looked = sym (ap (λ b. living_among now k.scope k.id (cond b (entry_of p ∷ shown last held) (shown last held))) (lt_yes last p.1.end (omega (arith, alive)))) ∙ n

    by : (b : Bool) → same_key k p.0 ≡ b → (living_among now k.scope k.id (shown last held) ≡ None → lookup (same_key k) held ≡ None) → cond b (Some p.1) (lookup (same_key k) held) ≡ None
    by true e i =
        let found : test ≡ true = is_key now k p e ∙ lt_yes now p.1.end alive in
        let clash : Some (entry_of p) ≡ None = sym (ap (λ b. cond b (Some (entry_of p)) (living_among now k.scope k.id (shown last held))) found) ∙ looked in
        cc
    by false e i = i (sym (ap (λ b. cond b (Some (entry_of p)) (living_among now k.scope k.id (shown last held))) (is_other now k p e)) ∙ looked)

option_or_none : (a b : Option Entry) → option_or a b ≡ None → b ≡ None
option_or_none None b h = h
option_or_none (Some a) b h = cc

-- a key that nothing living has is none of the recent ones, which all live
pub recent_lacks : (now last began : ℕ) (k : ScopedId) (earlier recent : List (ScopedId × Held)) (entries : List Entry) → IsWindow earlier recent began last → window earlier recent last ≡ entries → last ≤ now → now < began + 300000
    → living_among now k.scope k.id entries ≡ None → lookup (same_key k) recent ≡ None
recent_lacks now last began k earlier recent entries w shows l b none =
    let P : ScopedId × Held → Type 0 = λ p. began + 300000 ≤ p.1.end in
    let Q : ScopedId × Held → Type 0 = λ p. now < p.1.end in
    let both : option_or (living_among now k.scope k.id (shown last earlier)) (living_among now k.scope k.id (shown last recent)) ≡ None =
    sym (find-append (λ e. nat_lt now e.end && same_text e.scope k.scope && bytes_eq e.id k.id) (shown last earlier) (shown last recent))
    ∙ ap (living_among now k.scope k.id) shows ∙ none in
    absent now last k recent l (All-weaker P Q (λ p h. omega (arith, h, b)) recent w.recent_begins)
    (option_or_none (living_among now k.scope k.id (shown last earlier)) (living_among now k.scope k.id (shown last recent)) both)

-- the last entry came no later than a moment, if none is from later
pub last_by : (now last began : ℕ) (earlier recent : List (ScopedId × Held)) (entries : List Entry) → IsWindow earlier recent began last → window earlier recent last ≡ entries → All (λ e. e.end ≤ now + 300000) entries → last ≤ now
last_by now last began earlier recent entries w shows h = w.newest now (subst (All (λ e. e.end ≤ now + 300000)) (sym shows) h)

-- one more that lives
shown_push : (now : ℕ) (held : List (ScopedId × Held)) (p : ScopedId × Held) → now < p.1.end → shown now (held ++ p ∷ []) ≡ shown now held ++ entry_of p ∷ []
shown_push now held p h =
    ap (living_entries now) (map-append entry_of held (p ∷ []))
    ∙ filter-append (λ e. nat_lt now e.end) (map entry_of held) (entry_of p ∷ [])
    ∙ ap (λ b. shown now held ++ cond b (entry_of p ∷ []) []) (lt_yes now p.1.end h)

-- what is newest, where one came last
newest_after : (now : ℕ) (entries before : List Entry) (e : Entry) → entries ≡ before ++ e ∷ [] → e.end ≡ now + 300000 → (n : ℕ) → All (λ x. x.end ≤ n + 300000) entries → now ≤ n
newest_after now entries before e shows at n h =
    let P : Entry → Type 0 = λ x. x.end ≤ n + 300000 in
    let last : e.end ≤ n + 300000 = All-contains P (before ++ e ∷ []) e (subst (All P) shows h) (Contains-push before e) in
    omega (arith, last, at)

-- a window after an entry
pub record IsEntered (entries : List Entry) (now : ℕ) (e : Entry) (earlier recent : List (ScopedId × Held)) (began : ℕ) : Type 0 where
  pub kept : IsWindow earlier recent began now
  pub shows : window earlier recent now ≡ living_entries now entries ++ e ∷ []

-- an entry among the recent ones
pub entered_recent : (now last began : ℕ) (earlier recent after : List (ScopedId × Held)) (entries : List Entry) (p : ScopedId × Held) → IsWindow earlier recent began last → window earlier recent last ≡ entries → last ≤ now → p.1.end ≡ now + 300000
    → after ≡ recent ++ p ∷ [] → IsDistinct same_key (keys_of after) → IsEntered entries now (entry_of p) earlier after began
entered_recent now last began earlier recent after entries p w shows l at is distinct =
    let lives : now < p.1.end = omega (arith, at) in
    let old : living_entries now entries ≡ shown now earlier ++ shown now recent =
    ap (living_entries now) (sym shows) ∙ filter-append (λ e. nat_lt now e.end) (shown last earlier) (shown last recent)
    ∙ (λ j. living_later now last earlier l j ++ living_later now last recent l j) in
    let new : window earlier after now ≡ living_entries now entries ++ entry_of p ∷ [] =
    ap (λ r. window earlier r now) is ∙ ap (λ r. shown now earlier ++ r) (shown_push now recent p lives)
    ∙ sym (append_assoc (shown now earlier) (shown now recent) (entry_of p ∷ [])) ∙ ap (λ r. r ++ entry_of p ∷ []) (sym old) in
    let B : ScopedId × Held → Type 0 = λ q. began + 300000 ≤ q.1.end in
    let L : ScopedId × Held → Type 0 = λ q. q.1.end ≤ last + 300000 in
    let N : ScopedId × Held → Type 0 = λ q. q.1.end ≤ now + 300000 in
    record {
      shows = new;
      kept =
          record {
            earlier_keys = w.earlier_keys;
            recent_keys = distinct;
            begun = omega (arith, w.begun, l);
            earlier_ends = w.earlier_ends;
            recent_begins = subst (All B) (sym is) (All-push B recent p w.recent_begins (omega (arith, w.begun, l, at)));
            recent_ends = subst (All N) (sym is) (All-push N recent p (All-weaker L N (λ q h. omega (arith, h, l)) recent w.recent_ends) (omega (arith, at)));
            newest = newest_after now (window earlier after now) (living_entries now entries) (entry_of p) new at;
          };
    }

-- an entry that begins anew, once all earlier ones have ended
pub entered_anew : (now last began : ℕ) (earlier recent after : List (ScopedId × Held)) (entries : List Entry) (p : ScopedId × Held) → IsWindow earlier recent began last → window earlier recent last ≡ entries → last ≤ now → p.1.end ≡ now + 300000 → began + 300000 ≤ now
    → after ≡ p ∷ [] → IsDistinct same_key (keys_of after) → IsEntered entries now (entry_of p) recent after now
entered_anew now last began earlier recent after entries p w shows l at over is distinct =
    let lives : now < p.1.end = omega (arith, at) in
    let E : ScopedId × Held → Type 0 = λ q. q.1.end ≤ began + 300000 in
    let O : ScopedId × Held → Type 0 = λ q. q.1.end ≤ now in
    let old : living_entries now entries ≡ shown now recent =
    ap (living_entries now) (sym shows) ∙ filter-append (λ e. nat_lt now e.end) (shown last earlier) (shown last recent)
    ∙ (λ j. living_later now last earlier l j ++ living_later now last recent l j)
    ∙ ap (λ r. r ++ shown now recent) (all_over now earlier (All-weaker E O (λ q h. omega (arith, h, over)) earlier w.earlier_ends)) in
    let new : window recent after now ≡ living_entries now entries ++ entry_of p ∷ [] =
    ap (λ r. window recent r now) is ∙ ap (λ b. shown now recent ++ cond b (entry_of p ∷ []) []) (lt_yes now p.1.end lives) ∙ ap (λ r. r ++ entry_of p ∷ []) (sym old) in
    let L : ScopedId × Held → Type 0 = λ q. q.1.end ≤ last + 300000 in
    let N : ScopedId × Held → Type 0 = λ q. q.1.end ≤ now + 300000 in
    let B : ScopedId × Held → Type 0 = λ q. now + 300000 ≤ q.1.end in
    record {
      shows = new;
      kept =
          record {
            earlier_keys = w.recent_keys;
            recent_keys = distinct;
            begun = omega arith;
            earlier_ends = All-weaker L N (λ q h. omega (arith, h, l)) recent w.recent_ends;
            recent_begins = subst (All B) (sym is) (All-cons B p [] (omega (arith, at)) (All-nil B));
            recent_ends = subst (All N) (sym is) (All-cons N p [] (omega (arith, at)) (All-nil N));
            newest = newest_after now (window recent after now) (living_entries now entries) (entry_of p) new at;
          };
    }
