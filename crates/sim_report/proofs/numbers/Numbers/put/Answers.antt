use Rattle.std.proofs.Common.{rules, ◌≡◌, ◌+◌, ◌-◌, ◌<◌, ◌++◌, ◌∙◌, Bool, true, false, cond, List, ℕ, length, set, ap, sym, arith}
use Rattle.std.specs.BTreeSet.{insert_key}
use Rattle.std.specs.Ordering.{nat_cmp}
use Rattle.std.proofs.lemmas.List.{length-append}
use Rattle.std.proofs.lemmas.Map.Views.{All-insert_key}
use Rattle.sim_report.specs.Numbered.{marked, numbered}
use Rattle.sim_report.proofs.Marked.{insert-flag, insert-low, length-set, set-same}
use Rattle.sim_report.proofs.numbers.Numbers.put.Goals as goal

pub invariant_of-self-then-branch : goal.invariant_of-self-then-branch
invariant_of-self-then-branch c =
    let low = c.self.inside.low.keys in
    let first = c.self.inside.first in
    let flags = c.self.inside.flags.items in
    let more : c.in_ok-more.more ≡ c.self.inside.count + 1 = search rules in
    let one : length c.insert.new.self.keys ≡ length low + 1 = rw c.if-branch.true at c.in_ok-insert.ensures.len in
    let there : c.args.number < first = omega (arith, c.if-number-self.true) in
    record {
      counted = omega (arith, more, one, c.self.invariant.counted, length-append low (marked first flags), length-append c.insert.new.self.keys (marked first flags));
      below = rw c.in_ok-insert.ensures.keys (All-insert_key nat_cmp c.args.number (λ m. m < first) low c.self.invariant.below there);
    }

pub returns-then-branch : goal.returns-then-branch
returns-then-branch c =
    let first = c.self.inside.first in
    let flags = c.self.inside.flags.items in
    ap (λ (ks : List ℕ). numbered ks first flags) c.in_ok-insert.ensures.keys
    ∙ sym (insert-low c.args.number first c.self.inside.low.keys flags (omega (arith, c.if-number-self.true)))
    ∙ ap (λ (ns : List ℕ). insert_key nat_cmp ns c.args.number) c.self.view_is

pub returns-else-branch : goal.returns-else-branch
returns-else-branch c =
    let first = c.self.inside.first in
    let flags = c.self.inside.flags.items in
    ap (λ (ks : List ℕ). numbered ks first flags) c.in_ok-insert.ensures.keys
    ∙ sym (insert-low c.args.number first c.self.inside.low.keys flags (omega (arith, c.if-number-self.true)))
    ∙ ap (λ (ns : List ℕ). insert_key nat_cmp ns c.args.number) c.self.view_is

pub invariant_of-self-then-not-index : goal.invariant_of-self-then-not-index
invariant_of-self-then-not-index c =
    let low = c.self.inside.low.keys in
    let first = c.self.inside.first in
    let flags = c.reach.new.flags.items in
    let place = c.args.number - first in
    let off : c.index.result.now ≡ false = search rules in
    let one : length (marked first (set flags place true)) + 0 ≡ length (marked first flags) + 1 =
    ap (λ b. length (marked first (set flags place true)) + cond b 1 0) (sym (sym c.index.ensures ∙ off))
    ∙ length-set place first flags true c.index.result.now c.in_ok-reach.ensures.to in
    let same = ap (λ (ns : List ℕ). length ns) (c.in_ok-reach.ensures.same first) in
    let more : c.in_ok-more.more ≡ c.self.inside.count + 1 = search rules in
    record {
      counted = omega (arith, more, one, same, c.self.invariant.counted, length-append low (marked first c.self.inside.flags.items), length-append low (marked first (set flags place true)));
      below = c.self.invariant.below;
    }

pub returns-then-not-index : goal.returns-then-not-index
returns-then-not-index c =
    let low = c.self.inside.low.keys in
    let first = c.self.inside.first in
    let flags = c.reach.new.flags.items in
    let place = c.args.number - first in
    sym (insert-flag place c.args.number first low flags c.self.invariant.below (omega (arith, c.if-number-self.false)) c.in_ok-reach.ensures.to)
    ∙ ap (λ (ns : List ℕ). insert_key nat_cmp (low ++ ns) c.args.number) (c.in_ok-reach.ensures.same first)
    ∙ ap (λ (ns : List ℕ). insert_key nat_cmp ns c.args.number) c.self.view_is

pub returns-else-not-index : goal.returns-else-not-index
returns-else-not-index c =
    let low = c.self.inside.low.keys in
    let first = c.self.inside.first in
    let flags = c.reach.new.flags.items in
    let place = c.args.number - first in
    let on : c.index.result.now ≡ true = search rules in
    sym (ap (λ (bs : List Bool). numbered low first bs) (set-same place flags true c.index.result.now c.in_ok-reach.ensures.to (sym c.index.ensures ∙ on)))
    ∙ sym (insert-flag place c.args.number first low flags c.self.invariant.below (omega (arith, c.if-number-self.false)) c.in_ok-reach.ensures.to)
    ∙ ap (λ (ns : List ℕ). insert_key nat_cmp (low ++ ns) c.args.number) (c.in_ok-reach.ensures.same first)
    ∙ ap (λ (ns : List ℕ). insert_key nat_cmp ns c.args.number) c.self.view_is
