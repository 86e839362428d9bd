use Rattle.std.proofs.Common.{◌≡◌, ◌+◌, ◌-◌, ◌<◌, ◌∙◌, Bool, false, cond, List, ℕ, length, set, ap, sym, arith}
use Rattle.std.specs.BTreeMap.{is_at}
use Rattle.std.specs.Ordering.{nat_cmp}
use Rattle.std.specs.Set.{remove_key}
use Rattle.std.proofs.lemmas.List.{length-append}
use Rattle.std.proofs.lemmas.Map.Views.{All-remove_key}
use Rattle.sim_report.specs.Numbered.{marked, numbered}
use Rattle.sim_report.proofs.Marked.{length-set, remove-behind, remove-flag, remove-low, set-same}
use Rattle.sim_report.proofs.numbers.Numbers.remove.Goals as goal
use Rattle.sim_report.proofs.numbers.Numbers.remove.Goals.{else-place-len-via-then-place-len+else-index, else-place-len-via-else-place-len}

pub invariant_of-self : goal.invariant_of-self
invariant_of-self c =
    let low = c.self.inside.low.keys in
    let first = c.self.inside.first in
    let flags = c.self.inside.flags.items in
    let one : length c.remove_low.new.low.keys + 1 ≡ length low = rw c.if-remove_low.true at c.remove_low.ensures.len in
    record {
      counted = omega (arith, one, c.self.invariant.counted, length-append low (marked first flags), length-append c.remove_low.new.low.keys (marked first flags));
      below = rw c.remove_low.ensures.keys (All-remove_key (is_at (nat_cmp c.args.number)) (λ m. m < first) low c.self.invariant.below);
    }

pub invariant_of-self-else-remove_low : goal.invariant_of-self-else-remove_low
invariant_of-self-else-remove_low c =
    let low = c.self.inside.low.keys in
    let first = c.self.inside.first in
    let flags = c.self.inside.flags.items in
    let same : length c.remove_low.new.low.keys + 0 ≡ length low = rw c.if-remove_low.false at c.remove_low.ensures.len in
    record {
      counted = omega (arith, same, c.self.invariant.counted, length-append low (marked first flags), length-append c.remove_low.new.low.keys (marked first flags));
      below = rw c.remove_low.ensures.keys (All-remove_key (is_at (nat_cmp c.args.number)) (λ m. m < first) low c.self.invariant.below);
    }

pub returns-then-remove_low : goal.returns-then-remove_low
returns-then-remove_low c =
    let first = c.self.inside.first in
    let flags = c.self.inside.flags.items in
    ap (λ (ks : List ℕ). numbered ks first flags) c.remove_low.ensures.keys
    ∙ sym (remove-low c.args.number first c.self.inside.low.keys flags (omega (arith, c.if-number-self.true)))
    ∙ ap (remove_key (is_at (nat_cmp c.args.number))) c.self.view_is

pub returns-else-remove_low : goal.returns-else-remove_low
returns-else-remove_low c =
    let first = c.self.inside.first in
    let flags = c.self.inside.flags.items in
    ap (λ (ks : List ℕ). numbered ks first flags) c.remove_low.ensures.keys
    ∙ sym (remove-low c.args.number first c.self.inside.low.keys flags (omega (arith, c.if-number-self.true)))
    ∙ ap (remove_key (is_at (nat_cmp c.args.number))) c.self.view_is

pub invariant_of-self-then-index : goal.invariant_of-self-then-index
invariant_of-self-then-index c =
    let low = c.self.inside.low.keys in
    let first = c.self.inside.first in
    let flags = c.self.inside.flags.items in
    let place = c.args.number - first in
    let within : place < length flags = omega (arith, c.if-place-len.true, c.len.ensures) in
    let one : length (marked first (set flags place false)) + 1 ≡ length (marked first flags) + 0 =
    ap (λ b. length (marked first (set flags place false)) + cond b 1 0) (sym (sym c.index.ensures ∙ c.if-index.true))
    ∙ length-set place first flags false c.index.result.now within in
    record {
      counted = omega (arith, one, c.self.invariant.counted, length-append low (marked first flags), length-append low (marked first (set flags place false)));
      below = c.self.invariant.below;
    }

pub returns-then-index : goal.returns-then-index
returns-then-index c =
    let first = c.self.inside.first in
    let flags = c.self.inside.flags.items in
    let within : c.args.number - first < length flags = omega (arith, c.if-place-len.true, c.len.ensures) in
    sym (remove-flag (c.args.number - first) c.args.number first c.self.inside.low.keys flags c.self.invariant.below (omega (arith, c.if-number-self.false)) within)
    ∙ ap (remove_key (is_at (nat_cmp c.args.number))) c.self.view_is

pub returns-else-place-len : goal.returns-else-place-len
returns-else-place-len c =
    let low = c.self.inside.low.keys in
    let first = c.self.inside.first in
    let flags = c.self.inside.flags.items in
    let number = c.args.number in
    let keys = remove_key (is_at (nat_cmp number)) in
    let below = c.self.invariant.below in
    let kept : numbered low first flags ≡ keys (numbered low first flags) = elim c.else-place-len.branch as (λ b. numbered low first flags ≡ keys (numbered low first flags)) [
      | else-place-len-via-then-place-len+else-index w ↦
          let within : number - first < length flags = omega (arith, w.if-place-len.true, c.len.ensures) in
          let off = set-same (number - first) flags false w.index.result.now within (sym w.index.ensures ∙ w.if-index.false) in
          sym (ap (λ (bs : List Bool). numbered low first bs) off) ∙ sym (remove-flag (number - first) number first low flags below (omega (arith, c.if-number-self.false)) within)
      | else-place-len-via-else-place-len w ↦
          sym (remove-behind number first low flags below (omega (arith, c.if-number-self.false)) (omega (arith, w.if-place-len.false, c.if-number-self.false, c.len.ensures)))
    ] in
    sym c.self.view_is ∙ kept ∙ ap keys c.self.view_is
