use Rattle.std.proofs.Common.{◌≡◌, ◌+◌, ◌<◌, ◌++◌, ◌∷◌, ◌∙◌, [], ℕ, suc, List, ap, append_assoc, length, sym, take, arith}
use Rattle.sim_report.specs.Numbered.{placed}
use Rattle.sim_report.proofs.Placed.{placed-empty, placed-some}
use Rattle.sim_report.proofs.there.entries_of.Goals as goal
use Rattle.sim_report.proofs.there.entries_of.Goals.{in-Some+in_ok-push, in_default}

pub loop-place-preserved : goal.loop-place-preserved
loop-place-preserved c =
    let low = c.args.low.now.entries in
    let first = c.args.first in
    let slots = c.args.slots.now.items in
    let place = c.loop-place.place in
    let within : place < length slots = omega arith in
    let next : place + 1 ≡ suc place = omega arith in
    let kept : c.match-index.entries.items ≡ low ++ placed first (take (suc place) slots) =
    elim c.match-index.branch as (λ b. c.match-index.entries.items ≡ low ++ placed first (take (suc place) slots)) [
      | in-Some+in_ok-push w ↦
          let pushed : w.push.new.self.items ≡ c.loop-place.entries.items ++ (first + place, w.in-Some.came) ∷ [] = w.in_ok-push.ensures.items in
          rw w.entries-is
          (pushed ∙ ap (λ (ms : List (ℕ × ℕ)). ms ++ (first + place, w.in-Some.came) ∷ []) c.loop-place.invariant
          ∙ append_assoc low (placed first (take place slots)) ((first + place, w.in-Some.came) ∷ [])
          ∙ ap (λ (ms : List (ℕ × ℕ)). low ++ ms) (sym (placed-some place first slots w.in-Some.came c.index.result.now within (sym c.index.ensures ∙ w.in-Some.is))))
      | in_default w ↦
          rw w.entries-is
          (c.loop-place.invariant ∙ ap (λ (ms : List (ℕ × ℕ)). low ++ ms) (sym (placed-empty place first slots c.index.result.now within (sym c.index.ensures ∙ w.in_default.is))))
    ] in
    kept ∙ ap (λ k. low ++ placed first (take k slots)) (sym next)
