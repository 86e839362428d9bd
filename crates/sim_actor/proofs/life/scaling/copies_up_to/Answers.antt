use Rattle.std.proofs.Common.{List, None, Option, Some, [], ap, refl, rules, tests, ℕ, ◌∙◌, ◌∷◌, ◌≡◌}
use Rattle.std.proofs.lemmas.Iterator.{YieldsList-from_slice}
use Rattle.std.proofs.lemmas.Iterator.Search.{find_from_yields_List}
use Rattle.std.specs.List.{find}
use Rattle.std.specs.Prelude.{nat_le}
use Rattle.sqs_model.proofs.Branches.{by_cases}
use Rattle.sqs_model.specs.Actor.{copies_up_to}
use Rattle.sqs_model.specs.declared.agents.ScalingStep.{ScalingStep}
use Rattle.sim_actor.proofs.life.scaling.copies_up_to.Goals as goal

-- how many copies a step that was found asks for, or none
abbrev copies_at : ℕ → Option ScalingStep → ℕ
copies_at most None = most
copies_at most (Some s) = s.copies

by_found : (visible most : ℕ) (ss : List ScalingStep) → copies_at most (find (λ s. nat_le visible s.visible) ss) ≡ copies_up_to ss most visible
by_found visible most [] = refl
by_found visible most (s ∷ ss) = by_cases (nat_le visible s.visible) (λ e. rw e refl) (λ e. rw e (by_found visible most ss))

pub returns-in-None : goal.returns-in-None
returns-in-None c =
    let found = find_from_yields_List (λ s. nat_le c.args.visible s.visible) _ _ _ c.find.ensures.ran (YieldsList-from_slice c.args.steps.now cc) (λ x r q k. search (rules, tests)) in
    ap (copies_at c.args.most) (rw c.in-None.is at found) ∙ by_found c.args.visible c.args.most c.args.steps.now

pub returns-in-Some : goal.returns-in-Some
returns-in-Some c =
    let found = find_from_yields_List (λ s. nat_le c.args.visible s.visible) _ _ _ c.find.ensures.ran (YieldsList-from_slice c.args.steps.now cc) (λ x r q k. search (rules, tests)) in
    ap (copies_at c.args.most) (rw c.in-Some.is at found) ∙ by_found c.args.visible c.args.most c.args.steps.now
