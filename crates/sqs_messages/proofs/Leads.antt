-- A queue's open messages group by group are what the heads' groups may give; a head is known by its group alone.
use Rattle.std.proofs.Common.{◌≡◌, ℕ, ◌+◌, ◌<◌, Bool, true, false, List, [], ◌∷◌, ◌++◌, Option, Some, None, cond, filter, flat_map, ◌||◌, ◌&&◌, not, get_or, arith, refl, ap, sym, subst, ◌∙◌, append_assoc}
use Rattle.std.specs.Prelude.{All, find, ◌==◌}
use Rattle.std.specs.List.{list_any}
use Rattle.std.specs.Option.{option_or}
use Rattle.std.proofs.lemmas.Bool.Decides.{nat_tests}
use Rattle.std.proofs.lemmas.List.Elements.{All-head, All-nil, All-push, All-tail, All-weaker}
use Rattle.std.proofs.lemmas.List.Folds.{find-append, list_any-append, list_any_at}
use Rattle.sim_clock.specs.Firsts.{kept_when}
use Rattle.sqs_message.specs.declared.message.Message.{Message}
use Rattle.sqs_model.specs.Available.{by_group, open_from}
use Rattle.sqs_model.specs.Progress.{Ascends}
use Rattle.sqs_model.specs.Queue.{is_in_flight, is_visible, same_group}
use Rattle.sqs_model.specs.Texts.{same_text_decides}
use Rattle.sqs_messages.specs.Heads.{any_in, any_out, given_by, heads_from, in_group, is_first, is_head, leads}
use Rattle.sqs_messages.proofs.Heads.{IsSeen, Told, given, heads}

itself : (m : Message) → in_group m.group m ≡ true
itself m = (same_text_decides m.group m.group).1 refl

pub told_all : (all : List Message) → Told all all
told_all all k d l e =
    let m : Message = get_or all k d in
    list_any_at (λ x. in_group m.group x && is_in_flight x) all k d l (λ j. itself m j && e j)

not_three : (a b c : Bool) → (a && not b && not c) ≡ true → b ≡ false
not_three false b c e = cc
not_three true true c e = cc
not_three true false c e = refl

given_one : {A : Type 0} (f h : Message → List A) (b : Bool) (m : Message) (xs : List Message) → (b ≡ true → f m ≡ h m) → flat_map f xs ≡ flat_map h xs → flat_map f (kept_when b m xs) ≡ flat_map h (kept_when b m xs)
given_one f h true m xs e ih = (λ j. e refl j ++ ih j)
given_one f h false m xs e ih = ih

same_given : (all earlier ms : List Message) (f h : Message → List Message) → ((m : Message) → any_out m.group all ≡ false → f m ≡ h m) → flat_map f (heads_from all earlier ms) ≡ flat_map h (heads_from all earlier ms)
same_given all earlier [] f h e = refl
same_given all earlier (m ∷ ms) f h e =
    given_one f h (is_head all earlier m) m (heads_from all (m ∷ earlier) ms) (λ t. e m (not_three (is_visible m) (any_out m.group all) (any_in m.group earlier) t)) (same_given all (m ∷ earlier) ms f h e)

-- what a queue gives, group by group
pub by_heads : (all : List Message) → by_group (open_from all [] all) ≡ flat_map (given_by all) (heads_from all [] all)
by_heads all =
    let told : Told all all = told_all all in
    let none : IsSeen all [] [] = record { was = λ g e. e; shows = λ g e o d. e } in
    ap (flat_map (λ leader. filter (same_group leader) (open_from all [] all))) (heads all [] [] all told none)
    ∙ same_given all [] all (λ leader. filter (same_group leader) (open_from all [] all)) (given_by all) (λ m o. given all [] all m.group told o refl)

or_turn : (a b : Bool) → (a || (b || false)) ≡ (b || a)
or_turn true true = refl
or_turn true false = refl
or_turn false true = refl
or_turn false false = refl

pub find_has : {A : Type 0} (P : A → Type 0) (p : A → Bool) (xs : List A) (x : A) → All P xs → find p xs ≡ Some x → P x
find_has P p [] x h e = cc
find_has P p (y ∷ ys) x h e = by (find_has P p ys x (All-tail P y ys h)) (p y) refl
  where
    by : (find p ys ≡ Some x → P x) → (b : Bool) → p y ≡ b → P x
    by ih true k =
        let found : Some y ≡ Some x = sym (ap (λ b. cond b (Some y) (find p ys)) k) ∙ e in
        let same : y ≡ x = cc in
        subst P same (All-head P y ys h)
    by ih false k = ih (sym (ap (λ b. cond b (Some y) (find p ys)) k) ∙ e)

find_any : {A : Type 0} (p : A → Bool) (xs : List A) → list_any p xs ≡ true → (x : A) × (find p xs ≡ Some x)
find_any p [] e = cc
find_any p (y ∷ ys) e = by (find_any p ys) (p y) refl
  where
    by : (list_any p ys ≡ true → (x : _) × (find p ys ≡ Some x)) → (b : Bool) → p y ≡ b → (x : _) × (find p (y ∷ ys) ≡ Some x)
    by ih true k = (y, ap (λ b. cond b (Some y) (find p ys)) k)
    by ih false k = let rest = ih (sym (ap (λ b. b || list_any p ys) k) ∙ e) in (rest.0, ap (λ b. cond b (Some y) (find p ys)) k ∙ rest.1)

find_no : {A : Type 0} (p : A → Bool) (xs : List A) → list_any p xs ≡ false → find p xs ≡ None
find_no p [] e = refl
find_no p (y ∷ ys) e = by (find_no p ys) (p y) refl
  where
    by : (list_any p ys ≡ false → find p ys ≡ None) → (b : Bool) → p y ≡ b → find p (y ∷ ys) ≡ None
    by ih true k = let t : true ≡ false = sym (ap (λ b. b || list_any p ys) k) ∙ e in cc
    by ih false k = ap (λ b. cond b (Some y) (find p ys)) k ∙ ih (sym (ap (λ b. b || list_any p ys) k) ∙ e)

-- the first of a group stands where none of it stands before
first_here : (front ms : List Message) (m : Message) → All (λ x. x.number < m.number) front → is_first (front ++ m ∷ ms) m ≡ not (any_in m.group front)
first_here front ms m below = by (any_in m.group front) refl
  where
    split : find (in_group m.group) (front ++ m ∷ ms) ≡ option_or (find (in_group m.group) front) (find (in_group m.group) (m ∷ ms))
    split = find-append (in_group m.group) front (m ∷ ms)

    by : (b : Bool) → any_in m.group front ≡ b → is_first (front ++ m ∷ ms) m ≡ not (any_in m.group front)
    by true e =
        let x = find_any (in_group m.group) front e in
        let l : x.0.number < m.number = find_has (λ y. y.number < m.number) (in_group m.group) front x.0 below x.1 in
        let other : (x.0.number == m.number) ≡ false = grind (arith, nat_tests, l) in
        let found : find (in_group m.group) (front ++ m ∷ ms) ≡ Some x.0 = split ∙ ap (λ o. option_or o (find (in_group m.group) (m ∷ ms))) x.1 in
        ap (λ (o : Option Message). elim o as (λ _. Bool) [ None ↦ false | Some y ↦ y.number == m.number ]) found ∙ other ∙ sym (ap not e)
    by false e =
        let self : (m.number == m.number) ≡ true = grind (arith, nat_tests) in
        let found : find (in_group m.group) (front ++ m ∷ ms) ≡ Some m =
        split ∙ ap (λ o. option_or o (find (in_group m.group) (m ∷ ms))) (find_no (in_group m.group) front e) ∙ ap (λ b. cond b (Some m) (find (in_group m.group) ms)) (itself m) in
        ap (λ (o : Option Message). elim o as (λ _. Bool) [ None ↦ false | Some y ↦ y.number == m.number ]) found ∙ self ∙ sym (ap not e)

filter_kept : (p : Message → Bool) (b : Bool) (m : Message) (xs : List Message) → p m ≡ b → kept_when b m (filter p xs) ≡ filter p (m ∷ xs)
filter_kept p true m xs e = sym (ap (λ c. cond c (m ∷ filter p xs) (filter p xs)) e)
filter_kept p false m xs e = sym (ap (λ c. cond c (m ∷ filter p xs) (filter p xs)) e)

leads_from : (all front earlier ms : List Message) (low : ℕ) → all ≡ front ++ ms → ((g : Option (List ℕ)) → any_in g earlier ≡ any_in g front) → All (λ x. x.number < low) front → Ascends (λ m. m.number) low ms
    → heads_from all earlier ms ≡ filter (leads all) ms
leads_from all front earlier [] low is same below h = refl
leads_from all front earlier (m ∷ ms) low is same below h =
    let less : All (λ x. x.number < m.number) front = All-weaker (λ (x : Message). x.number < low) (λ (x : Message). x.number < m.number) (λ x l. omega (arith, h.0)) front below in
    let first : is_first all m ≡ not (any_in m.group front) = ap (λ ys. is_first ys m) is ∙ first_here front ms m less in
    let lead : leads all m ≡ is_head all earlier m = ap (λ b. (is_visible m && not (any_out m.group all)) && b) (first ∙ ap not (sym (same m.group))) in
    let next : All (λ x. x.number < m.number + 1) (front ++ m ∷ []) =
    All-push (λ (x : Message). x.number < m.number + 1) front m (All-weaker (λ (x : Message). x.number < m.number) (λ (x : Message). x.number < m.number + 1) (λ x l. omega arith) front less) (omega arith) in
    ap (kept_when (is_head all earlier m) m)
    (leads_from all (front ++ m ∷ []) (m ∷ earlier) ms (m.number + 1) (is ∙ sym (append_assoc front (m ∷ []) ms))
    (λ g. ap (λ b. in_group g m || b) (same g) ∙ sym (list_any-append (in_group g) front (m ∷ []) ∙ or_turn (any_in g front) (in_group g m))) next h.1)
    ∙ filter_kept (leads all) (is_head all earlier m) m ms lead

-- what a FIFO queue may give: of each head, in order, what its group has before the first that is delayed
pub by_leads : (all : List Message) → Ascends (λ m. m.number) 0 all → by_group (open_from all [] all) ≡ flat_map (given_by all) (filter (leads all) all)
by_leads all h = by_heads all ∙ ap (flat_map (given_by all)) (leads_from all [] [] all 0 refl (λ g. refl) (All-nil (λ (x : Message). x.number < 0)) h)
