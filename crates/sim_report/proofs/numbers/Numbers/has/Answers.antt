use Rattle.std.proofs.Common.{◌≡◌, ◌==◌, ◌-◌, ◌<◌, ◌∙◌, ℕ, false, nat_lt, length, ap, sym, arith}
use Rattle.std.proofs.lemmas.Bool.Decides.{nat_tests}
use Rattle.std.specs.List.{list_any}
use Rattle.sim_report.proofs.Marked.{any-behind, any-flag, any-low}
use Rattle.sim_report.proofs.numbers.Numbers.has.Goals as goal

pub returns-then-number-self : goal.returns-then-number-self
returns-then-number-self c =
    c.contains.ensures
    ∙ any-low c.args.number c.self.inside.first c.self.inside.low.keys c.self.inside.flags.items (omega (arith, c.if-number-self.true))
    ∙ ap (list_any (λ (n : ℕ). n == c.args.number)) c.self.view_is

pub returns-then-place-len : goal.returns-then-place-len
returns-then-place-len c =
    let flags = c.self.inside.flags.items in
    let first = c.self.inside.first in
    let number = c.args.number in
    let within : number - first < length flags = omega (arith, c.if-place-len.true, c.len.ensures) in
    c.index.ensures
    ∙ sym (any-flag (number - first) number first c.self.inside.low.keys flags c.index.result.now c.self.invariant.below (omega (arith, c.if-number-self.false)) within)
    ∙ ap (list_any (λ (n : ℕ). n == number)) c.self.view_is

pub returns-else-place-len : goal.returns-else-place-len
returns-else-place-len c =
    let flags = c.self.inside.flags.items in
    let first = c.self.inside.first in
    let number = c.args.number in
    let past : nat_lt (number - first) c.len.result ≡ false = grind (arith, nat_tests, c.if-place-len.false) in
    past
    ∙ sym (any-behind number first c.self.inside.low.keys flags c.self.invariant.below (omega (arith, c.if-number-self.false)) (omega (arith, c.if-place-len.false, c.if-number-self.false, c.len.ensures)))
    ∙ ap (list_any (λ (n : ℕ). n == number)) c.self.view_is
