use Rattle.std.proofs.Common.{[], arith, List, subst, sym, ◌≡◌}
use Rattle.std.proofs.lemmas.Bool.{eqb-true}
use Rattle.std.proofs.lemmas.List.{nil_from_length}
use Rattle.sqs_redrive.specs.declared.answers.Got.{Got}
use Rattle.sqs_model.specs.Acts.{receive_some}
use Rattle.sim_site.specs.Effects.{HasMade}
use Rattle.sim_site.proofs.state.Core.receive_some.Goals as goal

pub returns-then-is_empty : goal.returns-then-is_empty
returns-then-is_empty c a e f =
    let core = c.args.self.now in
    let zero : c.args.gots.len ≡ 0 = eqb-true c.args.gots.len 0 (sym c.if-is_empty.ensures) in
    let none : c.args.gots.items ≡ [] = nil_from_length c.args.gots.items (omega (arith, zero, c.args.gots.ok.0)) in
    subst
    (λ (gots : List Got). HasMade c.receive_none.result c.args.handling.now c.receive_none.new.handling c.receive_none.new.self (receive_some c.args.handling.now.key a core c.args.max c.args.wait c.args.timeout core.queue gots))
    (sym none) (c.receive_none.ensures a e f)
