use Rattle.std.proofs.Common.{◌≡◌, ◌∙◌, ◌++◌, ◌∷◌, [], List, ℕ, ap, append_assoc, subst, sym}
use Rattle.std.specs.Prelude.{All}
use Rattle.std.proofs.lemmas.List.Elements.{All-tail}
use Rattle.sqs_model.specs.declared.agents.ActorSettings.{ActorSettings}
use Rattle.sim_actor.specs.Lives.{IsRole}
use Rattle.sqs_model.specs.Scenario.{opening_actor}
use Rattle.sim_site.proofs.Openings.{made_more}
use Rattle.sim_site.proofs.opening.open_actors.Goals as goal

pub loop-number-preserved : goal.loop-number-preserved
loop-number-preserved c =
    let x : ℕ × ActorSettings = (c.in-Some.number, c.in-Some.settings) in
    let more : List (ℕ × ActorSettings) = c.next.new.self.rest.items in
    let steps : c.loop-number.number-iterator.rest.items ≡ x ∷ more = c.in-Some.ensures.steps.0 in
    record {
      opened =
          made_more (opening_actor c.args.seed) c.loop-number.opened.items c.push.new.self.items c.new.result c.loop-number.yielded x
          c.in_ok-push.ensures.items c.loop-number.invariant.opened c.new.ensures;
      rest = append_assoc c.loop-number.yielded (x ∷ []) more ∙ ap (λ r. c.loop-number.yielded ++ r) (sym steps) ∙ c.loop-number.invariant.rest;
      roles = All-tail (λ (y : ℕ × ActorSettings). IsRole y.1.role) x more (subst (All (λ (y : ℕ × ActorSettings). IsRole y.1.role)) steps c.loop-number.invariant.roles);
    }
