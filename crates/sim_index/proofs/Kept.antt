-- Marks that are each what a function gives of its value, and the least of what they tell.
use Rattle.std.proofs.Common.{◌≡◌, ℕ, ◌<◌, List, [], ◌∷◌, ◌++◌, Err, Ok, Result, Some, flat_map, get_or, length, map, set, refl, ap, sym, ◌∙◌}
use Rattle.std.specs.List.{AllZip}
use Rattle.std.specs.Prelude.{IfOk}
use Rattle.std.proofs.lemmas.List.{get_or-map, get_or-set_same, map-append, map-set}
use Rattle.sim_clock.specs.declared.key.Key.{Key}
use Rattle.sim_clock.specs.Order.{least, lesser}
use Rattle.sim_index.specs.declared.mark.Mark.{Mark}
use Rattle.sim_index.specs.Marked.{AreMarked, Marked}
use Rattle.sim_index.specs.Marks.{least_of, no_mark, node}
use Rattle.sim_index.proofs.Spans.{lesser_assoc}

pub least_append : (xs ys : List Key) → least (xs ++ ys) ≡ lesser (least xs) (least ys)
least_append [] ys = refl
least_append (x ∷ xs) ys = ap (lesser (Some x)) (least_append xs ys) ∙ sym (lesser_assoc (Some x) (least xs) (least ys))

module _ {A : Type 0} (mark : A → Mark) where
  -- a value that is replaced, and marked anew
  pub set_kept : (values : List A) (marks : List Mark) (place : ℕ) (value : A) (m : Mark) → marks ≡ map mark values → m ≡ mark value → set marks place m ≡ map mark (set values place value)
  set_kept values marks place value m e is = (λ j. set (e j) place (is j)) ∙ sym (map-set mark values place value)

  -- one more value
  pub push_kept : (values : List A) (marks : List Mark) (value : A) (m : Mark) → marks ≡ map mark values → m ≡ mark value → marks ++ m ∷ [] ≡ map mark (values ++ value ∷ [])
  push_kept values marks value m e is = (λ j. e j ++ is j ∷ []) ∙ sym (map-append mark values (value ∷ []))

  -- the mark at the place of a value
  pub node_kept : (values : List A) (marks : List Mark) (place : ℕ) (d : A) → marks ≡ map mark values → place < length values → node marks place ≡ mark (get_or values place d)
  node_kept values marks place d e l = ap (λ ms. node ms place) e ∙ get_or-map mark values place d no_mark l

  -- another value at a place, with its mark
  pub marked_with : (list news : Marked A) (i : ℕ) (x : A) (m : Mark) → AreMarked mark list → m ≡ mark x → news ≡ record list { values = set list.values i x; marks = set list.marks i m } → AreMarked mark news
  marked_with list news i x m h told put =
      ap (λ (s : Marked A). s.marks) put ∙ set_kept list.values list.marks i x m h told ∙ ap (λ (s : Marked A). map mark s.values) (sym put)

  -- a value that is changed where it is, looked at there, and marked anew
  pub marked_anew :
      (list news : Marked A) (i : ℕ) (x y : A) (m : Mark) (shown : List A) → AreMarked mark list → i < length list.values → shown ≡ set list.values i x → y ≡ get_or shown i y → m ≡ mark y
      → news ≡ record list { values = set list.values i x; marks = set list.marks i m } → AreMarked mark news
  marked_anew list news i x y m shown h l is there told put =
      let same : y ≡ x = there ∙ ap (λ xs. get_or xs i y) is ∙ get_or-set_same list.values i x y l in
      marked_with list news i x m h (told ∙ ap mark same) put

  -- one more value with its mark
  pub marked_more : (old new : Marked A) (x : A) (m : Mark) → AreMarked mark old → new.values ≡ old.values ++ x ∷ [] → new.marks ≡ old.marks ++ m ∷ [] → m ≡ mark x → AreMarked mark new
  marked_more old new x m h values marks told = marks ∙ push_kept old.values old.marks x m h told ∙ ap (map mark) (sym values)

  -- marks that were each told of their value
  told_kept : (answers : A → Mark → Type 0) → ((x : A) (m : Mark) → answers x m → m ≡ mark x) → (values : List A) (marks : List Mark) → AllZip answers values marks → marks ≡ map mark values
  told_kept answers told [] [] h = refl
  told_kept answers told [] (m ∷ ms) h = absurd h
  told_kept answers told (x ∷ xs) [] h = absurd h
  told_kept answers told (x ∷ xs) (m ∷ ms) h = λ j. told x m h.0 j ∷ told_kept answers told xs ms h.1 j

  -- a list that was made of values, if there was memory
  pub made_kept :
      {E : Type 0} (answers : A → Mark → Type 0) → ((x : A) (m : Mark) → answers x m → m ≡ mark x) → (values : List A) (made : Result (Marked A) E)
      → IfOk made (λ list. list.values ≡ values) → IfOk made (λ list. AllZip answers values list.marks) → IfOk made (AreMarked mark)
  made_kept answers told values (Err e) same marked = tt
  made_kept answers told values (Ok list) same marked = told_kept answers told values list.marks marked ∙ ap (map mark) (sym same)

  -- the least of the marks is the least of what is due
  pub least_kept : (dues : A → List Key) → ((x : A) → (mark x).due ≡ least (dues x)) → (values : List A) → least_of (map mark values) ≡ least (flat_map dues values)
  least_kept dues h [] = refl
  least_kept dues h (x ∷ xs) = (λ j. lesser (h x j) (least_kept dues h xs j)) ∙ sym (least_append (dues x) (flat_map dues xs))
