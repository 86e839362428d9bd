use Rattle.std.proofs.Common.{rules, ◌≡◌, ◌++◌, ◌∙◌, List, ℕ, length, ap, sym, arith}
use Rattle.sim_report.specs.Numbered.{marked}
use Rattle.sim_report.proofs.Marked.{lifted, lifted-below}
use Rattle.sim_report.proofs.numbers.Numbers.lift.Goals as goal

pub invariant_of-self-2 : goal.invariant_of-self-2
invariant_of-self-2 c =
    let low = c.self.inside.low.keys in
    let first = c.self.inside.first in
    let flags = c.self.inside.flags.items in
    let number = c.args.number in
    let keys : c.retire.new.low.keys ≡ low ++ marked first flags = search rules in
    let same = lifted number first low c.retire.new.low.keys flags c.clear-2.new.self.items keys c.clear-2.ensures.items in
    record {
      counted = c.self.invariant.counted ∙ sym (ap (λ (ns : List ℕ). length ns) same);
      below = rw keys (lifted-below number first low flags c.self.invariant.below (omega (arith, c.if-number-self.false, c.if-place-len.false, c.len.ensures)));
    }
