-- Marks of sites.
use Rattle.std.specs.Prelude.{Bool, List, None, Option, Some, [], cond, false, get_or, length, map, nat_lt, position, true, ℕ, ◌<◌, ◌∷◌, ◌≡◌, ◌≢◌}
use Rattle.std.specs.List.{position_or_len}
use Rattle.std.proofs.Common.{ap, arith, refl, sym, ◌∙◌}
use Rattle.std.proofs.lemmas.Bool.{lt-ltb}
use Rattle.std.proofs.lemmas.List.Sums.{position_or_len_is}
use Rattle.sim_clock.specs.declared.key.Key.{Key}
use Rattle.sim_clock.specs.Order.{lesser}
use Rattle.sim_engine.specs.Engine.{Engine}
use Rattle.sim_clock.specs.Places.{Stands, place_from_position}
use Rattle.sim_clock.proofs.Orderings.{key_self}
use Rattle.sim_engine.specs.World.{is_due, least_due, world_due}
use Rattle.sim_engine.proofs.WorldMoves.{is_due_least}
use Rattle.sim_partition.specs.Sites.{is_due_there, mark_of}
use Rattle.sim_index.specs.declared.mark.Mark.{Mark}
use Rattle.sim_index.specs.Marked.{AreMarked, Marked}
use Rattle.sim_index.proofs.Kept.{node_kept}
use Rattle.sim_index.specs.Marks.{IsPlaceOfLeast, least_of}

not_due_by : (key : Key) (o : Option Key) (b : Bool) → is_due key o ≡ b → o ≢ Some key → b ≡ false
not_due_by key o true h n = absurd (n (is_due_least key o h))
not_due_by key o false h n = refl

not_due : (key : Key) (o : Option Key) → o ≢ Some key → is_due key o ≡ false
not_due key o n = not_due_by key o (is_due key o) refl n

is_due_at : (key : Key) (o : Option Key) → o ≡ Some key → is_due key o ≡ true
is_due_at key o e = ap (is_due key) e ∙ key_self key

none_some : {A : Type 0} {a : A} → None ≡ Some a → ⊥
none_some h = cc

module _ {Site Row Transfer : Type 0} (engine : Engine Site Row Transfer) where
  marks_least : (xs : List Site) → least_of (map (mark_of engine) xs) ≡ world_due engine xs
  marks_least [] = refl
  marks_least (x ∷ xs) = ap (lesser (least_due engine x)) (marks_least xs)

  -- the least of the marks is what is due next
  pub marked_least : (sites : Marked Site) → AreMarked (mark_of engine) sites → least_of sites.marks ≡ world_due engine sites.values
  marked_least sites h = ap least_of h ∙ marks_least sites.values

  pub told_least : (sites : Marked Site) (told : Option Key) (key : Key) → AreMarked (mark_of engine) sites → told ≡ least_of sites.marks → told ≡ Some key → world_due engine sites.values ≡ Some key
  told_least sites told key h e f = sym (marked_least sites h) ∙ sym e ∙ f

  pub none_least : (sites : Marked Site) (told : Option Key) → AreMarked (mark_of engine) sites → told ≡ least_of sites.marks → told ≡ None → world_due engine sites.values ≡ None
  none_least sites told h e f = sym (marked_least sites h) ∙ sym e ∙ f

  -- the first place of the least is that of the first site at which it is due
  stands_first : (key : Key) (d : Site) (sites : Marked Site) (i : ℕ) → AreMarked (mark_of engine) sites → IsPlaceOfLeast sites.marks i → i < length sites.values → least_of sites.marks ≡ Some key → Stands (is_due_there engine key) sites.values i
  stands_first key d sites i h p within e =
      let xs : List Site = sites.values in
      let test : Site → Bool = is_due_there engine key in
      let first : position_or_len test xs ≡ i =
      position_or_len_is test xs i d (omega arith)
      (λ k l. not_due key (least_due engine (get_or xs k d)) (λ f. p.first k l (ap (λ (m : Mark). m.due) (node_kept (mark_of engine) sites.values sites.marks k d h (omega arith)) ∙ f ∙ sym e)))
      (λ l. is_due_at key (least_due engine (get_or xs i d)) (sym (ap (λ (m : Mark). m.due) (node_kept (mark_of engine) sites.values sites.marks i d h within)) ∙ p.due ∙ e)) in
      let found : Some i ≡ position test xs = ap (λ b. cond b (Some i) None) (sym (lt-ltb i (length xs) within)) ∙ ap (λ n. cond (nat_lt n (length xs)) (Some n) None) (sym first) in
      place_from_position test xs (Some i) found

  some_site : (xs : List Site) (i : ℕ) → i < length xs → Site
  some_site [] i l = absurd (omega arith)
  some_site (x ∷ xs) i l = x

  pub stands_least : (key : Key) (sites : Marked Site) (i : ℕ) → AreMarked (mark_of engine) sites → IsPlaceOfLeast sites.marks i → i < length sites.values → least_of sites.marks ≡ Some key → Stands (is_due_there engine key) sites.values i
  stands_least key sites i h p l e = stands_first key (some_site sites.values i l) sites i h p l e
