use Rattle.std.proofs.Common.{◌≡◌, ◌+◌, ◌-◌, ◌<◌, ◌≤◌, ◌∙◌, ℕ, List, All, ap, sym, length, arith}
use Rattle.std.specs.BTreeMap.{insert_entry}
use Rattle.std.specs.Map.{keys_of}
use Rattle.std.specs.Ordering.{nat_cmp}
use Rattle.std.proofs.lemmas.Bool.Decides.{nat_tests}
use Rattle.std.proofs.lemmas.Map.Views.{All-keys-insert_entry}
use Rattle.sim_report.specs.Numbered.{placed, tabled}
use Rattle.sim_report.proofs.Placed.{insert-low, insert-slot, lower, tabled-none}
use Rattle.sim_report.proofs.there.There.put.Goals as goal
use Rattle.sim_report.proofs.there.There.put.Goals.{then-is_empty, else-is_empty}

pub invariant_of-self-then-number-self : goal.invariant_of-self-then-number-self
invariant_of-self-then-number-self c =
    let first = c.self.inside.first in
    let there : c.args.number < first = omega (arith, c.if-number-self.true) in
    record {
      below = rw c.in_ok-insert.ensures.entries (All-keys-insert_entry nat_cmp c.args.number c.args.came (λ n. n < first) c.self.inside.low.entries c.self.invariant.below there);
      filled = c.self.invariant.filled;
      fits = c.self.invariant.fits;
    }

pub returns-then-number-self : goal.returns-then-number-self
returns-then-number-self c =
    let first = c.self.inside.first in
    let slots = c.self.inside.slots.items in
    ap (λ (ms : List (ℕ × ℕ)). tabled ms first slots) c.in_ok-insert.ensures.entries
    ∙ sym (insert-low c.args.number c.args.came first c.self.inside.low.entries slots (omega (arith, c.if-number-self.true)))
    ∙ ap (λ (ms : List (ℕ × ℕ)). insert_entry nat_cmp ms c.args.number c.args.came) c.self.view_is

pub returns : goal.returns
returns c =
    let inside = c.if-is_empty.self-inside in
    let low = inside.low.entries in
    let first = inside.first in
    let slots = inside.slots.items in
    let number = c.args.number in
    let begun : All (λ n. n < first) (keys_of low) × ((first ≤ number) × (tabled low first slots ≡ c.args.self.now)) =
    elim c.if-is_empty.branch as (λ b. All (λ n. n < first) (keys_of low) × ((first ≤ number) × (tabled low first slots ≡ c.args.self.now))) [
      | then-is_empty w ↦
          let none : length c.self.inside.slots.items ≡ 0 = grind (arith, nat_tests, w.if-is_empty.ensures) in
          rw w.self-inside-is (
            lower number c.self.inside.first c.self.inside.low.entries c.if-number-self.false c.self.invariant.below,
            (omega arith, tabled-none number c.self.inside.first c.self.inside.low.entries c.self.inside.slots.items none ∙ c.self.view_is),
          )
      | else-is_empty w ↦ rw w.self-inside-is (c.self.invariant.below, (c.if-number-self.false, c.self.view_is))
    ] in
    let place : first + (number - first) ≡ number = omega (arith, begun.1.0) in
    insert-slot number c.args.came first low (placed first c.put_slot.new.slots.items) slots begun.0 begun.1.0
    (c.in_ok-put_slot.ensures.put first ∙ ap (λ (m : ℕ). insert_entry nat_cmp (placed first slots) m c.args.came) place)
    ∙ ap (λ (ms : List (ℕ × ℕ)). insert_entry nat_cmp ms number c.args.came) begun.1.1
