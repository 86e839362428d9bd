use Rattle.std.proofs.Common.{◌-◌, ◌<◌, ◌++◌, ◌∙◌, ℕ, List, ap, sym, arith}
use Rattle.std.specs.BTreeMap.{is_at}
use Rattle.std.specs.Map.{remove_entry}
use Rattle.std.specs.Ordering.{nat_cmp}
use Rattle.std.proofs.lemmas.Map.Views.{All-map-remove_entry}
use Rattle.sim_report.specs.Numbered.{tabled}
use Rattle.sim_report.proofs.Placed.{remove-behind, remove-low, remove-slot}
use Rattle.sim_report.proofs.there.There.remove.Goals as goal

pub invariant_of-self : goal.invariant_of-self
invariant_of-self c =
    record {
      below = rw c.remove_low.ensures (All-map-remove_entry (is_at (nat_cmp c.args.number)) (λ (m : ℕ × ℕ). m.0) (λ n. n < c.self.inside.first) c.self.inside.low.entries c.self.invariant.below);
      filled = c.self.invariant.filled;
      fits = c.self.invariant.fits;
    }

pub returns-then-number-self : goal.returns-then-number-self
returns-then-number-self c =
    let slots = c.self.inside.slots.items in
    let first = c.self.inside.first in
    ap (λ (ms : List (ℕ × ℕ)). tabled ms first slots) c.remove_low.ensures
    ∙ sym (remove-low c.args.number first c.self.inside.low.entries slots (omega (arith, c.if-number-self.true)))
    ∙ ap (remove_entry (is_at (nat_cmp c.args.number))) c.self.view_is

pub returns-then-place-len : goal.returns-then-place-len
returns-then-place-len c =
    let low = c.self.inside.low.entries in
    let first = c.self.inside.first in
    let slots = c.self.inside.slots.items in
    let number = c.args.number in
    ap (λ (ms : List (ℕ × ℕ)). low ++ ms) c.drop_empty.ensures.same
    ∙ sym (remove-slot (number - first) number first low slots c.self.invariant.below (omega (arith, c.if-number-self.false)) (omega (arith, c.if-place-len.true, c.len.ensures)))
    ∙ ap (remove_entry (is_at (nat_cmp number))) c.self.view_is

pub returns-else-place-len : goal.returns-else-place-len
returns-else-place-len c =
    let low = c.self.inside.low.entries in
    let first = c.self.inside.first in
    let slots = c.self.inside.slots.items in
    let number = c.args.number in
    sym c.self.view_is
    ∙ sym (remove-behind number first low slots c.self.invariant.below c.if-number-self.false (omega (arith, c.if-place-len.false, c.if-number-self.false, c.len.ensures)))
    ∙ ap (remove_entry (is_at (nat_cmp number))) c.self.view_is
