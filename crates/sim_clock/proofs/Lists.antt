-- Lists with one less or one more.
use Rattle.std.specs.Prelude.{All, Bool, List, None, Option, Some, [], cond, false, find, if◌then◌else◌, true, ◌∷◌, ◌≡◌}
use Rattle.std.specs.Ordering.{is_lt}
use Rattle.std.specs.declared.cmp.Ordering.{Ordering}
use Rattle.std.proofs.Common.{ap, refl, sym, ◌∙◌}
use Rattle.std.proofs.lemmas.List.Elements.{All-cons, All-head, All-tail}
use Rattle.sim_clock.specs.Firsts.{without}
use Rattle.sim_clock.specs.Order.{inserted_by}

pub absent_without : {A : Type 0} (p : A → Bool) (xs : List A) → find p xs ≡ None → without p xs ≡ xs
absent_without p [] e = refl
absent_without p (y ∷ ys) e = by (absent_without p ys) (p y) refl
  where
    by : (find p ys ≡ None → without p ys ≡ ys) → (b : Bool) → p y ≡ b → (if p y then ys else y ∷ without p ys) ≡ y ∷ ys
    by ih true t = let no : Some y ≡ None = sym (ap (λ b. cond b (Some y) (find p ys)) t) ∙ e in cc
    by ih false t = ap (λ b. if b then ys else y ∷ without p ys) t ∙ ap (λ zs. y ∷ zs) (ih (sym (ap (λ b. cond b (Some y) (find p ys)) t) ∙ e))

pub all_inserted : {A : Type 0} (P : A → Type 0) (R : A → A → Ordering) (x : A) (xs : List A) → P x → All P xs → All P (inserted_by R x xs)
all_inserted P R x [] p h = All-cons P x [] p h
all_inserted P R x (y ∷ ys) p h =
    elim (is_lt (R x y)) as (λ b. All P (if b then x ∷ (y ∷ ys) else y ∷ inserted_by R x ys)) [
      | true ↦ All-cons P x (y ∷ ys) p h
      | false ↦ All-cons P y (inserted_by R x ys) (All-head P y ys h) (all_inserted P R x ys p (All-tail P y ys h))
    ]
