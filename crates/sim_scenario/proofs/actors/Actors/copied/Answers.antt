use Rattle.std.proofs.Common.{◌≡◌, ◌∙◌, ◌++◌, ◌∷◌, [], List, ℕ, Ok, append_assoc, append-nil, ap, arith, length, map, sym}
use Rattle.sqs_formats.proofs.Readings.{same_ok}
use Rattle.sqs_model.specs.declared.agents.ActorSettings.{ActorSettings}
use Rattle.sim_scenario.proofs.CopiesRead.{none_left}
use Rattle.sim_scenario.proofs.actors.Actors.copied.Goals as goal

pub loop-name-preserved : goal.loop-name-preserved
loop-name-preserved c = λ r e.
    let pair : List ℕ → List ℕ × ActorSettings = λ n. (n, record { home = c.args.home; role = r }) in
    let same : c.in_ok-role.role ≡ r = same_ok _ _ (sym c.in_ok-role.ensures ∙ e) in
    rw (c.in_ok-push.ensures.items, same)
    (c.loop-name.invariant r e
    ∙ ap (λ rest. c.loop-name.agents.items ++ map pair rest) c.in-Some.ensures.steps.0
    ∙ sym (append_assoc c.loop-name.agents.items (pair c.in-Some.name ∷ []) (map pair c.next.new.self.rest.items)))

pub returns : goal.returns
returns c = λ r e.
    let pair : List ℕ → List ℕ × ActorSettings = λ n. (n, record { home = c.args.home; role = r }) in
    let left = c.loop-name.name-iterator.rest in
    let zero : length left.items ≡ 0 = omega (arith, left.ok.0, c.in-None.ensures.steps.0) in
    let all = c.loop-name.invariant r e ∙ ap (λ rest. c.loop-name.agents.items ++ map pair rest) (none_left left.items zero) ∙ append-nil c.loop-name.agents.items in
    ap Ok (all ∙ sym c.new.ensures)
