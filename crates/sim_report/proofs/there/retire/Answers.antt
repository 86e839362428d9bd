use Rattle.std.proofs.Common.{rules, ◌≡◌, ◌+◌, ◌<◌, ◌∙◌, ◌++◌, ◌∷◌, ℕ, List, All, Option, length, refl, ap, sym, arith}
use Rattle.std.specs.Map.{keys_of}
use Rattle.sim_report.specs.Numbered.{placed}
use Rattle.sim_report.proofs.Placed.{lower, retired}
use Rattle.sim_report.proofs.there.retire.Goals as goal
use Rattle.sim_report.proofs.there.retire.Goals.{in-Some-slot+in_ok-insert, in_default-slot}

pub loop-slot-preserved : goal.loop-slot-preserved
loop-slot-preserved c =
    let low = c.loop-slot.low.entries in
    let first = c.loop-slot.first in
    let rest = c.pop_front.new.self.items in
    let after = c.match-slot.low.entries in
    let below = c.loop-slot.invariant.below in
    let popped : c.loop-slot.slots.items ≡ c.in-Some.slot ∷ rest = search rules in
    let whole = ap (λ (xs : List (Option ℕ)). low ++ placed first xs) (sym popped) ∙ c.loop-slot.invariant.same in
    let kept : (after ++ placed (first + 1) rest ≡ low ++ placed first (c.in-Some.slot ∷ rest)) × All (λ n. n < first + 1) (keys_of after) =
    elim c.match-slot.branch as (λ b. (after ++ placed (first + 1) rest ≡ low ++ placed first (c.in-Some.slot ∷ rest)) × All (λ n. n < first + 1) (keys_of after)) [
      | in-Some-slot+in_ok-insert w ↦
          rw (w.low-is, w.in-Some-slot.is) (retired first w.in-Some-slot.came low w.insert.new.self.entries rest below w.in_ok-insert.ensures.entries)
      | in_default-slot w ↦ rw (w.low-is, w.in_default-slot.is) (refl, lower (first + 1) first low (omega arith) below)
    ] in
    record { same = kept.0 ∙ whole; below = kept.1; fits = omega (arith, ap (λ (xs : List (Option ℕ)). length xs) popped, c.loop-slot.invariant.fits) }
