-- The copies of actors, as they are counted and named one actor after another.
use Rattle.std.proofs.Common.{◌≡◌, ◌∙◌, ℕ, ◌+◌, ◌-◌, ◌<◌, ◌≤◌, Bool, true, false, codes, nat_le, List, [], ◌∷◌, ◌++◌, append_assoc, append-nil, length, length-append, get_or, nat_lt, drop, take, map, refl, ap, sym, arith, if◌then◌else◌}
use Rattle.std.specs.List.{sum, sum_by}
use Rattle.std.proofs.lemmas.Bool.{ltb-true}
use Rattle.std.proofs.lemmas.Bool.Decides.{nat_tests}
use Rattle.std.proofs.lemmas.List.{drop_all, drop_more, length-map}
use Rattle.std.proofs.lemmas.List.FromFn.{get_or-map-range_with_len, length-map-range_with_len}
use Rattle.std.proofs.lemmas.List.Sums.{sum_by-cons, sum_by-drop_more, sum_by-take-drop}
use Rattle.std.proofs.Math.Seq.{drop-append_seam, take-append_seam}
use Rattle.toml.specs.View.{view}
use Rattle.toml.specs.declared.value.Value.{Value}
use Rattle.sqs_formats.specs.Copies.{copies_asked, copies_within, copy_name, copy_names, fitting, names_taken}
use Rattle.sqs_formats.specs.Keys.{text_in}
use Rattle.sim_scenario.specs.Counted.{AreCounted, copies_before}

-- there are so many copies besides the first ones
abbrev pub beside : List ℕ → ℕ
beside copies = sum_by (λ n. n - 1) copies

-- no more copies are besides the first ones than there are
pub beside_fewer : (cs : List ℕ) → beside cs ≤ sum cs
beside_fewer [] = omega arith
beside_fewer (c ∷ cs) = omega (arith, beside_fewer cs, sum_by-cons (λ n. n - 1) c cs, sum_by-cons (λ n. n) c cs)

pub total_fewer : (cs : List ℕ) → sum cs ≤ beside cs + length cs
total_fewer [] = let none : sum [] ≡ 0 = refl in omega arith
total_fewer (c ∷ cs) = omega (arith, total_fewer cs, sum_by-cons (λ n. n - 1) c cs, sum_by-cons (λ n. n) c cs)

-- copies keep to the room
fits : (room asked : ℕ) (b : Bool) → nat_le (asked - 1) room ≡ b → (if b then asked else 0) - 1 ≤ room
fits room asked true e = grind (arith, nat_tests)
fits room asked false e = omega arith

pub within_room : (room : ℕ) (xs : List ℕ) → beside (copies_within room xs) ≤ room
within_room room [] = omega arith
within_room room (x ∷ xs) =
    let c : ℕ = fitting room x in
    let first : c - 1 ≤ room = fits room x (nat_le (x - 1) room) refl in
    let rest : beside (copies_within (room - (c - 1)) xs) ≤ room - (c - 1) = within_room (room - (c - 1)) xs in
    omega (arith, sum_by-cons (λ n. n - 1) c (copies_within (room - (c - 1)) xs))

pub within_length : (room : ℕ) (xs : List ℕ) → length (copies_within room xs) ≡ length xs
within_length room [] = refl
within_length room (x ∷ xs) = let rest = within_length (room - (fitting room x - 1)) xs in omega arith

-- as many names as actors and copies
pub taken_length : (names : List (List ℕ)) (cs : List ℕ) → length names ≡ length cs → length (names_taken names cs) ≡ length cs + sum cs
taken_length [] [] e = let none : sum [] ≡ 0 = refl in omega arith
taken_length [] (c ∷ cs) e = absurd (omega arith)
taken_length (name ∷ names) [] e = absurd (omega arith)
taken_length (name ∷ names) (c ∷ cs) e =
    let rest = taken_length names cs (omega arith) in
    let copies : length (copy_names name c) ≡ c = length-map-range_with_len (copy_name name) 1 c in
    let all : length (copy_names name c ++ names_taken names cs) ≡ length (copy_names name c) + length (names_taken names cs) = length-append (copy_names name c) (names_taken names cs) in
    omega (arith, sum_by-cons (λ n. n) c cs)

-- the items from an index on
from_value : (vs : List Value) (i : ℕ) (v : Value) → i < length vs → v ≡ get_or vs i v → drop i vs ≡ v ∷ drop (i + 1) vs
from_value vs i v h e = drop_more vs i v h ∙ ap (λ x. x ∷ drop (i + 1) vs) (sym e)

-- what actors from an index on ask for, within the room that is left
abbrev pub within_from : ℕ → ℕ → List Value → ℕ → List ℕ
within_from version room vs i = copies_within room (map (copies_asked version) (map view (drop i vs)))

pub next_within : (version room : ℕ) (vs : List Value) (i : ℕ) (v : Value) (c : ℕ) (whole done : List ℕ) → i < length vs → v ≡ get_or vs i v → c ≡ fitting room (copies_asked version (view v))
    → whole ≡ done ++ within_from version room vs i → whole ≡ (done ++ c ∷ []) ++ within_from version (room - (c - 1)) vs (i + 1)
next_within version room vs i v c whole done h e is w =
    rw is (w ∙ ap (λ (rest : List Value). done ++ copies_within room (map (copies_asked version) (map view rest))) (from_value vs i v h e) ∙ sym (append_assoc done (_ ∷ []) _))

pub none_within : (version room : ℕ) (vs : List Value) (i : ℕ) (whole done : List ℕ) → length vs ≤ i → whole ≡ done ++ within_from version room vs i → done ≡ whole
none_within version room vs i whole done h w =
    sym (w ∙ ap (λ (rest : List Value). done ++ copies_within room (map (copies_asked version) (map view rest))) (drop_all i vs h) ∙ append-nil done)

pub fits_room : (room asked c : ℕ) → c ≡ fitting room asked → c - 1 ≤ room
fits_room room asked c is = rw is (fits room asked (nat_le (asked - 1) room) refl)

-- the names that actors from an index on take
abbrev pub taken_from : List Value → List ℕ → ℕ → List (List ℕ)
taken_from vs cs i = names_taken (map (text_in (codes "name")) (map view (drop i vs))) (drop i cs)

pub next_taken : (vs : List Value) (cs : List ℕ) (i : ℕ) (v : Value) (c : ℕ) (whole done one more : List (List ℕ)) (name : List ℕ) → i < length vs → i < length cs → v ≡ get_or vs i v → c ≡ get_or cs i c
    → name ≡ text_in (codes "name") (view v) → one ≡ done ++ name ∷ [] → more ≡ one ++ copy_names name c
    → whole ≡ done ++ taken_from vs cs i → whole ≡ more ++ taken_from vs cs (i + 1)
next_taken vs cs i v c whole done one more name h k e f is first others w =
    let here : taken_from vs cs i ≡ (name ∷ copy_names name c) ++ taken_from vs cs (i + 1) =
    (λ j. names_taken (map (text_in (codes "name")) (map view (from_value vs i v h e j))) ((drop_more cs i c k ∙ ap (λ x. x ∷ drop (i + 1) cs) (sym f)) j))
    ∙ ap (λ (n : List ℕ). (n ∷ copy_names n c) ++ taken_from vs cs (i + 1)) (sym is) in
    w
    ∙ ap (λ rest. done ++ rest) here
    ∙ sym (rw (others, first, append_assoc (done ++ name ∷ []) (copy_names name c) (taken_from vs cs (i + 1)), append_assoc done (name ∷ []) (copy_names name c ++ taken_from vs cs (i + 1))) refl)

pub none_taken : (vs : List Value) (cs : List ℕ) (i : ℕ) (whole done : List (List ℕ)) → length vs ≤ i → whole ≡ done ++ taken_from vs cs i → done ≡ whole
none_taken vs cs i whole done h w =
    sym (w ∙ ap (λ (rest : List Value). done ++ names_taken (map (text_in (codes "name")) (map view rest)) (drop i cs)) (drop_all i vs h) ∙ append-nil done)

-- copies that were counted up to an index are with the rest all of them
pub next_total : (f : ℕ → ℕ) (cs : List ℕ) (i total c : ℕ) → i < length cs → c ≡ get_or cs i c → total + sum_by f (drop i cs) ≡ sum_by f cs → (total + f c) + sum_by f (drop (i + 1) cs) ≡ sum_by f cs
next_total f cs i total c h e t = let more : sum_by f (drop i cs) ≡ f c + sum_by f (drop (i + 1) cs) = sum_by-drop_more f cs i c h ∙ ap (λ n. f n + sum_by f (drop (i + 1) cs)) (sym e) in omega arith

pub all_total : (f : ℕ → ℕ) (cs : List ℕ) (i total : ℕ) → length cs ≤ i → total + sum_by f (drop i cs) ≡ sum_by f cs → total ≡ sum_by f cs
all_total f cs i total h t = let none : sum_by f (drop i cs) ≡ 0 = ap (sum_by f) (drop_all i cs h) in omega arith

-- the copies of the first actors are no more than all
pub first_total : (cs : List ℕ) (i : ℕ) → sum (take i cs) ≤ sum cs
first_total cs i = omega (arith, sum_by-take-drop (λ n. n) cs i)

pub all_taken : (cs : List ℕ) (i : ℕ) → length cs ≤ i → sum (take i cs) ≡ sum cs
all_taken cs i h = let none : sum (drop i cs) ≡ 0 = ap sum (drop_all i cs h) in omega (arith, sum_by-take-drop (λ n. n) cs i)

-- what is read of the copies before each actor, at an actor and past all of them
long_before : (cs sums seen : List ℕ) → sums ≡ copies_before cs → seen ≡ sums → length seen ≡ length cs
long_before cs sums seen is same = ap length (same ∙ is) ∙ length-map-range_with_len (λ n. sum (take n cs)) 0 (length cs)

pub before_read : (cs sums seen : List ℕ) (i before : ℕ) → sums ≡ copies_before cs → seen ≡ sums → (true ≡ nat_lt i (length seen)) × (before ≡ get_or seen i before) → before ≡ sum (take i cs)
before_read cs sums seen i before is same (within, here) =
    here
    ∙ ap (λ (ns : List ℕ). get_or ns i before) (same ∙ is)
    ∙ get_or-map-range_with_len (λ n. sum (take n cs)) 0 (length cs) i i before (omega (arith, ltb-true i (length seen) (sym within), long_before cs sums seen is same)) (omega arith)

pub past_read : (cs sums seen : List ℕ) (i : ℕ) → sums ≡ copies_before cs → seen ≡ sums → length seen ≤ i → length cs ≤ i
past_read cs sums seen i is same past = omega (arith, long_before cs sums seen is same)

-- the copies of actors are as many as the actors, and not too many
pub record AreFew (actors : ℕ) (copies : List ℕ) : Type 0 where
  pub each : length copies ≡ actors
  pub few : sum copies ≤ 21000

pub within_few : (version room : ℕ) (vs : List Value) (copies : List ℕ) → copies ≡ copies_within room (map (copies_asked version) (map view vs)) → room ≤ 10000 → length vs ≤ 11000 → AreFew (length vs) copies
within_few version room vs copies is r few =
    let asked : List ℕ = map (copies_asked version) (map view vs) in
    let size : length asked ≡ length vs = length-map (map view vs) (copies_asked version) ∙ length-map vs view in
    let each : length (copies_within room asked) ≡ length vs = within_length room asked ∙ size in
    let most = within_room room asked in
    rw is (record { each = each; few = omega (arith, total_fewer (copies_within room asked)) })

-- all names, made of those of queues, of actors with their copies, and of tasks
pub record AreLaid (queues : ℕ) (copies : List ℕ) (place : ℕ) (names firsts nexts lasts : List (List ℕ)) : Type 0 where
  pub whole : names ≡ firsts ++ (nexts ++ lasts)
  pub front : take queues names ≡ firsts
  pub back : drop place names ≡ lasts
  pub counted : AreCounted queues copies place (length names)

pub are_laid : (queues actors place : ℕ) (copies : List ℕ) (names firsts own lasts : List (List ℕ)) → AreFew actors copies
    → names ≡ (firsts ++ names_taken own copies) ++ lasts → place ≡ length (firsts ++ names_taken own copies) → length firsts ≡ queues → length own ≡ actors → queues + actors + length lasts ≤ 11000
    → AreLaid queues copies place names firsts (names_taken own copies) lasts
are_laid queues actors place copies names firsts own lasts c is at long wide few =
    let nexts : List (List ℕ) = names_taken own copies in
    let whole : names ≡ firsts ++ (nexts ++ lasts) = is ∙ append_assoc firsts nexts lasts in
    let next : length nexts ≡ length copies + sum copies = taken_length own copies (wide ∙ sym c.each) in
    let all : length names ≡ length (firsts ++ nexts) + length lasts = ap length is ∙ length-append (firsts ++ nexts) lasts in
    let both : length (firsts ++ nexts) ≡ length firsts + length nexts = length-append firsts nexts in
    record {
      whole = whole;
      front = rw (whole, ← long) (take-append_seam firsts (nexts ++ lasts));
      back = rw (is, at) (drop-append_seam (firsts ++ nexts) lasts);
      counted = record { place = omega arith; within = omega arith; few = omega (arith, c.each, c.few) };
    }
