use Rattle.std.proofs.Common.{◌∙◌, Bool, List, ℕ, length, ap, sym}
use Rattle.sim_report.specs.Numbered.{numbered}
use Rattle.sim_report.proofs.Marked.{low-none, none-is, numbered-none}
use Rattle.sim_report.proofs.numbers.Numbers.begin.Goals as goal

pub invariant_of-self : goal.invariant_of-self
invariant_of-self c =
    let low = c.self.inside.low.keys in
    let first = c.self.inside.first in
    let flags = c.self.inside.flags.items in
    let number = c.args.number in
    let none = sym c.self.invariant.counted ∙ c.if-self-eq0.true in
    let same = ap (λ (bs : List Bool). numbered low number bs) c.truncate.ensures.items ∙ numbered-none 64 number first low flags none in
    record {
      counted = c.if-self-eq0.true ∙ sym (ap (λ (ns : List ℕ). length ns) same);
      below = low-none number first low flags none;
    }

pub returns-then-self-eq0 : goal.returns-then-self-eq0
returns-then-self-eq0 c =
    let low = c.self.inside.low.keys in
    let first = c.self.inside.first in
    let flags = c.self.inside.flags.items in
    let number = c.args.number in
    let none = sym c.self.invariant.counted ∙ c.if-self-eq0.true in
    ap (λ (bs : List Bool). numbered low number bs) c.truncate.ensures.items ∙ numbered-none 64 number first low flags none
    ∙ none-is (numbered low first flags) none ∙ c.self.view_is
