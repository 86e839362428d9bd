-- Partitions that live, or that a refusal spent.
use Rattle.std.specs.Option.{is_some}
use Rattle.std.specs.Prelude.{IfOk, List, None, Ok, Option, Result, Some, false, map, true, ℕ, ◌≡◌}
use Rattle.std.proofs.Common.{[], ap, ap₂, refl, subst, sym, ◌∙◌}
use Rattle.sim_clock.specs.declared.refusal.Refusal.{Refusal}
use Rattle.sim_engine.specs.declared.effects.Effects.{Effects}
use Rattle.sim_engine.specs.Engine.{Engine}
use Rattle.sim_engine.specs.Laws.{Conditions}
use Rattle.sim_engine.specs.Rounds.{PartRun, part_begun}
use Rattle.sim_partition.specs.Sites.{AreNumbersUnless, IsKept, IsKeptUnless, due_in, spent_or}
use Rattle.sim_partition.specs.Steps.{part_made}
use Rattle.sim_partition.proofs.Marked.{marked_least}
use Rattle.sim_index.specs.Marked.{Marked}
use Rattle.sim_index.specs.Marks.{least_of}

pub not_spent : (spent : Option Refusal) → is_some spent ≡ false → spent ≡ None
not_spent None h = refl
not_spent (Some r) h = let t : true ≡ false = h in cc

-- one that is not spent lives
pub now_lives : {A : Type 0} (spent : Option Refusal) (xs : A) (v : Result A Refusal) → spent ≡ None → spent_or spent xs ≡ v → v ≡ Ok xs
now_lives spent xs v none view = sym view ∙ ap (λ s. spent_or s xs) none

pub lives_as : {A : Type 0} (P : A → Type 0) (v : Result A Refusal) (w : A) → v ≡ Ok w → P w → IfOk v P
lives_as P v w e p = subst (λ x. IfOk x P) (sym e) p

module _ {Site Row Transfer : Type 0} (engine : Engine Site Row Transfer) where
  open engine use {number}

  -- its least due is told by its marks
  pub due_now : (conditions : Conditions Site Transfer) (spent : Option Refusal) (sites : Marked Site) (v : Result (List Site) Refusal) → is_some spent ≡ false → IsKeptUnless engine conditions spent sites → spent_or spent sites.values ≡ v → least_of sites.marks ≡ due_in engine v
  due_now conditions None sites v n k e = marked_least engine sites k.marked ∙ ap (due_in engine) e
  due_now conditions (Some r) sites v n k e = let t : true ≡ false = n in cc

  -- one that is not spent is kept, and its numbers are those of its sites
  pub held : (conditions : Conditions Site Transfer) (spent : Option Refusal) (sites : Marked Site) → is_some spent ≡ false → IsKeptUnless engine conditions spent sites → IsKept engine conditions sites
  held conditions None sites n k = k
  held conditions (Some r) sites n k = let t : true ≡ false = n in cc

  pub numbered : (spent : Option Refusal) (numbers : List ℕ) (sites : Marked Site) → is_some spent ≡ false → AreNumbersUnless engine spent numbers sites → numbers ≡ map number sites.values
  numbered None numbers sites n are = are
  numbered (Some r) numbers sites n are = let t : true ≡ false = n in cc

  -- one goes on with sites of the same numbers
  pub goes_on_with :
      (conditions : Conditions Site Transfer) (spent : Option Refusal) (numbers : List ℕ) (before after : Marked Site) → AreNumbersUnless engine spent numbers before
      → IsKept engine conditions after → map number after.values ≡ map number before.values → IsKeptUnless engine conditions spent after × AreNumbersUnless engine spent numbers after
  goes_on_with conditions None numbers before after are kept same = (kept, are ∙ sym same)
  goes_on_with conditions (Some r) numbers before after are kept same = (tt, tt)

  -- what has done nothing has begun
  pub begins : (w : List Site) (made : Effects Row Transfer) → made.rows.items ≡ [] → made.sent.items ≡ [] → part_made engine w made ≡ part_begun engine w
  begins w made e f =
      let run : List Row → List Transfer → PartRun engine = λ r s. record { sites = w; rows = r; sent = s } in ap₂ run e f
