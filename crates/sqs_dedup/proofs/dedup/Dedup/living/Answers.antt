use Rattle.std.proofs.Common.{◌∙◌, Option, ap, sym, ℕ}
use Rattle.std.specs.Option.{option_or}
use Rattle.std.specs.Map.{lookup}
use Rattle.sqs_dedup.specs.Window.{number_at, same_key}
use Rattle.sqs_dedup.proofs.Windows.{number_looked_up}
use Rattle.sqs_dedup.proofs.dedup.Dedup.living.Goals as goal

pub returns-in-Some : goal.returns-in-Some
returns-in-Some c =
    let later : Option ℕ = number_at c.max-moment.result (lookup (same_key c.args.key.now) c.self.inside.recent.entries) in
    ap (λ a. option_or a later) (sym c.in-Some.is)
    ∙ number_looked_up c.args.now c.self.inside.last c.max-moment.result c.args.key.now c.self.inside.earlier.entries c.self.inside.recent.entries c.self.inside.began c.args.self.now c.number_at.result
    c.self.invariant c.self.view_is c.max-moment.ensures c.number_at.ensures

pub returns-in-None : goal.returns-in-None
returns-in-None c =
    let later : Option ℕ = number_at c.max-moment.result (lookup (same_key c.args.key.now) c.self.inside.recent.entries) in
    c.number_at-in-None.ensures
    ∙ ap (λ a. option_or a later) (sym c.in-None.is)
    ∙ number_looked_up c.args.now c.self.inside.last c.max-moment.result c.args.key.now c.self.inside.earlier.entries c.self.inside.recent.entries c.self.inside.began c.args.self.now c.number_at.result
    c.self.invariant c.self.view_is c.max-moment.ensures c.number_at.ensures
