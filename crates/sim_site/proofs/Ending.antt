-- The polls that wait at a site, by the places where they wait.
use Rattle.std.specs.Prelude.{Bool, IfSome, List, MatchOption, None, Option, Some, [], cond, drop, false, filter, get_or, if◌then◌else◌, length, map, nat_lt, position, remove, set, suc, true, zero, ℕ, ◌++◌, ◌+◌, ◌-◌, ◌<◌, ◌∷◌, ◌≡◌, ◌≢◌, ◌≤◌}
use Rattle.std.specs.List.{position_or_len}
use Rattle.std.specs.Option.{is_some}
use Rattle.std.proofs.Common.{ap, arith, refl, subst, sym, ◌∙◌}
use Rattle.std.proofs.lemmas.Bool.{lt-ltb}
use Rattle.std.proofs.lemmas.List.{get_or_default, length-map, length_push}
use Rattle.std.proofs.lemmas.List.Sums.{position_or_len_is}
use Rattle.sim_clock.specs.declared.key.Key.{Key}
use Rattle.sim_clock.specs.Firsts.{without}
use Rattle.sim_clock.specs.Order.{least, lesser}
use Rattle.sim_index.specs.declared.mark.Mark.{Mark}
use Rattle.sim_index.specs.Marks.{IsNextIn, IsPlaceOfLeast, NoneIn, least_of, no_mark, node, tells}
use Rattle.sim_index.specs.Marked.{AreMarked, Marked}
use Rattle.sim_index.proofs.Kept.{node_kept}
use Rattle.sqs_model.proofs.Counts.{find_picked}
use Rattle.sqs_model.proofs.WorldMoves.{is_due_least}
use Rattle.sqs_model.specs.Dues.{poll_key}
use Rattle.sim_clock.specs.Places.{IsAbsent, Stands, place_from_position}
use Rattle.sim_clock.proofs.Orderings.{key_self}
use Rattle.sqs_model.specs.World.{is_due}
use Rattle.sqs_model.specs.Site.{Poll}
use Rattle.sqs_model.specs.Step.{ends_at}
use Rattle.sim_site.specs.Marked.{AreWaiting, IsFirstAt, LeavesOne, end_mark, place_ends_at, waiting}

nothing : {A : Type 0} (xs : List A) → 0 ≡ length xs → xs ≡ []
nothing [] h = refl
nothing (x ∷ xs) h = absurd (omega (arith, h))

abbrev Places : Type 0
Places = List (Option Poll)

none_some : {A : Type 0} {a : A} → None ≡ Some a → ⊥
none_some h = cc

true_false : true ≡ false → ⊥
true_false h = cc

pub waiting-append : (xs ys : Places) → waiting (xs ++ ys) ≡ waiting xs ++ waiting ys
waiting-append [] ys = refl
waiting-append (None ∷ xs) ys = waiting-append xs ys
waiting-append (Some p ∷ xs) ys = ap (λ l. p ∷ l) (waiting-append xs ys)

-- the least of the marks is the least end
ends_least : (xs : Places) → least_of (map end_mark xs) ≡ least (map poll_key (waiting xs))
ends_least [] = refl
ends_least (None ∷ xs) = ends_least xs
ends_least (Some p ∷ xs) = ap (lesser (Some (poll_key p))) (ends_least xs)

pub marked_ends : (list : Marked (Option Poll)) → AreMarked end_mark list → least_of list.marks ≡ least (map poll_key (waiting list.values))
marked_ends list h = ap least_of h ∙ ends_least list.values

-- a place that is emptied, in place of one that is taken out
pub emptied : (xs : Places) (i : ℕ) → waiting (remove xs i) ≡ waiting (set xs i None)
emptied [] zero = refl
emptied [] (suc i) = refl
emptied (x ∷ xs) zero = refl
emptied (None ∷ xs) (suc i) = emptied xs i
emptied (Some p ∷ xs) (suc i) = ap (λ l. p ∷ l) (emptied xs i)

pub without_waiting : (key : Key) (xs : Places) → without (ends_at key) (waiting xs) ≡ waiting (without (place_ends_at key) xs)
without_waiting key [] = refl
without_waiting key (None ∷ xs) = without_waiting key xs
without_waiting key (Some p ∷ xs) =
    elim (ends_at key p) as (λ b. (if b then waiting xs else p ∷ without (ends_at key) (waiting xs)) ≡ waiting (if b then xs else Some p ∷ without (place_ends_at key) xs)) [
      | true ↦ refl
      | false ↦ ap (λ l. p ∷ l) (without_waiting key xs)
    ]

pub leaving_one : (xs : Places) (i : ℕ) (p : Poll) → get_or xs i None ≡ Some p → length (waiting xs) ≡ suc (length (waiting (set xs i None)))
leaving_one [] i p h = absurd (none_some h)
leaving_one (None ∷ xs) zero p h = absurd (none_some h)
leaving_one (Some q ∷ xs) zero p h = refl
leaving_one (None ∷ xs) (suc i) p h = leaving_one xs i p h
leaving_one (Some q ∷ xs) (suc i) p h = ap suc (leaving_one xs i p h)

-- whether a poll waits at a place, by the marks
abbrev told_at : Places → ℕ → Bool
told_at xs i = tells (map end_mark xs) 1 i

first_there : (xs : Places) (i : ℕ) → ((k : ℕ) → k < i → told_at xs k ≡ false) → told_at xs i ≡ true → IsFirstAt xs i
first_there [] i before here = absurd (true_false (sym here))
first_there (None ∷ xs) zero before here = absurd (true_false (sym here))
first_there (Some p ∷ xs) zero before here = record { poll = p; within = omega arith; is = refl; first = refl }
first_there (None ∷ xs) (suc i) before here =
    let f : IsFirstAt xs i = first_there xs i (λ k l. before (suc k) (omega (arith, l))) here in
    record { poll = f.poll; within = omega (arith, f.within); is = f.is; first = f.first }
first_there (Some p ∷ xs) (suc i) before here = absurd (true_false (before 0 (omega arith)))

none_there : (xs : Places) → ((k : ℕ) → k < length xs → told_at xs k ≡ false) → waiting xs ≡ []
none_there [] h = refl
none_there (None ∷ xs) h = none_there xs (λ k l. h (suc k) (omega (arith, l)))
none_there (Some p ∷ xs) h = absurd (true_false (h 0 (omega arith)))

module _ (list : Marked (Option Poll)) (h : AreMarked end_mark list) where
  told_same : (i : ℕ) (b : Bool) → tells list.marks 1 i ≡ b → told_at list.values i ≡ b
  told_same i b e = ap (λ ms. tells ms 1 i) (sym h) ∙ e

  long : length list.marks ≡ length list.values
  long = ap length h ∙ length-map list.values end_mark

  first_marked : (i : ℕ) → IsNextIn list.marks 1 0 (length list.marks) i → IsFirstAt list.values i
  first_marked i n = first_there list.values i (λ k l. told_same k false (n.none_before k (omega arith) l)) (told_same i true n.found)

  none_marked : NoneIn list.marks 1 0 (length list.marks) → waiting list.values ≡ []
  none_marked n = none_there list.values (λ k l. told_same k false (n k (omega arith) (omega (arith, l, long))))

  -- the first poll, by its place
  pub first_matched : (r : Option ℕ) → MatchOption r (NoneIn list.marks 1 0 (length list.marks)) (IsNextIn list.marks 1 0 (length list.marks)) → MatchOption r (waiting list.values ≡ []) (IsFirstAt list.values)
  first_matched None m = none_marked m
  first_matched (Some i) m = first_marked i m

ends_due : (key : Key) (o : Option Poll) → place_ends_at key o ≡ is_due key (end_mark o).due
ends_due key None = refl
ends_due key (Some p) = refl

ends_not_by : (key : Key) (o : Option Poll) (b : Bool) → place_ends_at key o ≡ b → (end_mark o).due ≢ Some key → b ≡ false
ends_not_by key o true e n = absurd (n (is_due_least key (end_mark o).due (sym (ends_due key o) ∙ e)))
ends_not_by key o false e n = refl

ends_not : (key : Key) (o : Option Poll) → (end_mark o).due ≢ Some key → place_ends_at key o ≡ false
ends_not key o n = ends_not_by key o (place_ends_at key o) refl n

ends_so : (key : Key) (o : Option Poll) → (end_mark o).due ≡ Some key → place_ends_at key o ≡ true
ends_so key o e = ends_due key o ∙ ap (is_due key) e ∙ key_self key

module _ (key : Key) (list : Marked (Option Poll)) (h : AreMarked end_mark list) where
  due_there : (i : ℕ) → i < length list.values → (node list.marks i).due ≡ (end_mark (get_or list.values i None)).due
  due_there i l = ap (λ (m : Mark). m.due) (node_kept end_mark list.values list.marks i None h l)

  -- the first place of the least is that of the first poll that ends by it
  stands_end : (i : ℕ) → IsPlaceOfLeast list.marks i → i < length list.values → least_of list.marks ≡ Some key → Stands (place_ends_at key) list.values i
  stands_end i p within e =
      let xs : Places = list.values in
      let test : Option Poll → Bool = place_ends_at key in
      let first : position_or_len test xs ≡ i =
      position_or_len_is test xs i None (omega arith)
      (λ k l. ends_not key (get_or xs k None) (λ f. p.first k l (due_there k (omega arith) ∙ f ∙ sym e)))
      (λ l. ends_so key (get_or xs i None) (sym (due_there i within) ∙ p.due ∙ e)) in
      let found : Some i ≡ position test xs = ap (λ b. cond b (Some i) None) (sym (lt-ltb i (length xs) within)) ∙ ap (λ n. cond (nat_lt n (length xs)) (Some n) None) (sym first) in
      place_from_position test xs (Some i) found

  pub least_matched :
      (r : Option ℕ) → least_of list.marks ≡ Some key → MatchOption r (least_of list.marks ≡ None) (IsPlaceOfLeast list.marks) → IfSome r (λ i. i < length list.values)
      → MatchOption r (IsAbsent (place_ends_at key) list.values) (Stands (place_ends_at key) list.values)
  least_matched None e m l = absurd (none_some (sym m ∙ e))
  least_matched (Some i) e m l = stands_end i m l e

-- the places where a poll waits, alone
pub waiting_kept : (xs : Places) → waiting (filter is_some xs) ≡ waiting xs
waiting_kept [] = refl
waiting_kept (None ∷ xs) = waiting_kept xs
waiting_kept (Some p ∷ xs) = ap (λ ps. p ∷ ps) (waiting_kept xs)

pub few_waiting : (xs : Places) → length (waiting xs) ≤ length xs
few_waiting [] = omega arith
few_waiting (None ∷ xs) = omega (arith, few_waiting xs)
few_waiting (Some p ∷ xs) = omega (arith, few_waiting xs)

module _ (xs : Places) (i : ℕ) (f : IsFirstAt xs i) where
  pub first_leaves : waiting (set xs i None) ≡ drop 1 (waiting xs)
  first_leaves = sym (ap (drop 1) f.first)

  pub first_one : LeavesOne xs i
  first_one = record { within = f.within; one = ap length f.first }

  pub first_is : (r : Option Poll) → r ≡ get_or xs i r → MatchOption r (waiting xs ≡ []) (λ p. waiting xs ≡ p ∷ drop 1 (waiting xs))
  first_is r e =
      let some : r ≡ Some f.poll = e ∙ get_or_default xs i r None f.within ∙ f.is in
      subst (λ o. MatchOption o (waiting xs ≡ []) (λ p. waiting xs ≡ p ∷ drop 1 (waiting xs))) (sym some) (f.first ∙ ap (λ l. f.poll ∷ l) first_leaves)

-- the first poll that ends by a key, by its place
one_by : (key : Key) (o : Option Poll) (xs : Places) (i : ℕ) → place_ends_at key o ≡ true → get_or xs i None ≡ o → length (waiting xs) ≡ suc (length (waiting (set xs i None)))
one_by key None xs i h e = absurd (true_false (sym h))
one_by key (Some p) xs i h e = leaving_one xs i p e

module _ (key : Key) (xs : Places) (i : ℕ) (s : Stands (place_ends_at key) xs i) where
  pub end_leaves : waiting (set xs i None) ≡ without (ends_at key) (waiting xs)
  end_leaves = sym (without_waiting key xs ∙ ap waiting s.rest ∙ emptied xs i)

  pub end_one : LeavesOne xs i
  end_one = record { within = s.within; one = one_by key (get_or xs i None) xs i (find_picked (place_ends_at key) xs (get_or xs i None) (s.found None)) refl }

pub end_absent : (key : Key) (xs : Places) → IsAbsent (place_ends_at key) xs → waiting xs ≡ without (ends_at key) (waiting xs)
end_absent key xs a = sym (without_waiting key xs ∙ ap waiting a.rest)

-- places of which one is emptied
pub leaves_waiting : (old new : Marked (Option Poll)) (i count : ℕ) → AreWaiting old count → LeavesOne old.values i → new.values ≡ set old.values i None → AreMarked end_mark new → AreWaiting new (count - 1)
leaves_waiting old new i count h o left m =
    record { marked = m; counted = omega (arith, h.counted, o.one, ap (λ ys. length (waiting ys)) left) }

pub one_counted : (old : Marked (Option Poll)) (i count : ℕ) → AreWaiting old count → LeavesOne old.values i → 1 ≤ count
one_counted old i count h o = omega (arith, h.counted, o.one)

-- places with one more
pub added_waits : (xs mid news : Places) (p : Poll) → waiting mid ≡ waiting xs → news ≡ mid ++ Some p ∷ [] → waiting news ≡ waiting xs ++ p ∷ []
added_waits xs mid news p same added = ap waiting added ∙ waiting-append mid (Some p ∷ []) ∙ ap (λ ps. ps ++ p ∷ []) same

pub added_waiting : (xs : Places) (new : Marked (Option Poll)) (p : Poll) (count : ℕ) → count ≡ length (waiting xs) → waiting new.values ≡ waiting xs ++ p ∷ [] → AreMarked end_mark new → AreWaiting new (count + 1)
added_waiting xs new p count h added m =
    record { marked = m; counted = omega (arith, h, ap length added, length_push (waiting xs) p) }

-- where no poll waits, each place is empty
none_kept : (xs : Places) → 0 ≡ length (waiting xs) → (i : ℕ) → node (map end_mark xs) i ≡ no_mark
none_kept [] h i = refl
none_kept (None ∷ xs) h zero = refl
none_kept (None ∷ xs) h (suc i) = none_kept xs h i
none_kept (Some p ∷ xs) h i = absurd (omega (arith, h))

-- and may be forgotten
pub none_marked_there : (list : Marked (Option Poll)) (count : ℕ) → AreWaiting list count → count ≡ 0 → (i : ℕ) → node list.marks i ≡ no_mark
none_marked_there list count h none i = ap (λ ms. node ms i) h.marked ∙ none_kept list.values (sym none ∙ h.counted) i

pub none_waiting : (xs : Places) → 0 ≡ length (waiting xs) → waiting xs ≡ []
none_waiting xs h = nothing (waiting xs) h
