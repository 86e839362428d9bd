use Rattle.std.proofs.Common.{List, None, Option, Some, [], ap, refl, rules, tests, ℕ, ◌∙◌, ◌∷◌, ◌≡◌}
use Rattle.std.proofs.lemmas.Iterator.{YieldsList-from_slice}
use Rattle.std.proofs.lemmas.Iterator.Search.{find_from_yields_List}
use Rattle.std.specs.List.{find}
use Rattle.sqs_model.proofs.Branches.{by_cases}
use Rattle.sqs_model.specs.Actor.{failing_at, is_in}
use Rattle.sqs_model.specs.declared.agents.Outage.{Outage}
use Rattle.sim_actor.proofs.life.failing.failing_at.Goals as goal

-- how many fail in an outage that was found, or in none
abbrev permille_of : ℕ → Option Outage → ℕ
permille_of otherwise None = otherwise
permille_of otherwise (Some o) = o.permille

by_found : (now otherwise : ℕ) (os : List Outage) → permille_of otherwise (find (λ o. is_in o.stretch now) os) ≡ failing_at os otherwise now
by_found now otherwise [] = refl
by_found now otherwise (o ∷ os) = by_cases (is_in o.stretch now) (λ e. rw e refl) (λ e. rw e (by_found now otherwise os))

pub returns-in-None : goal.returns-in-None
returns-in-None c =
    let found = find_from_yields_List (λ o. is_in o.stretch c.args.now) _ _ _ c.find.ensures.ran (YieldsList-from_slice c.args.outages.now cc) (λ x r q k. search (rules, tests)) in
    ap (permille_of c.args.otherwise) (rw c.in-None.is at found) ∙ by_found c.args.now c.args.otherwise c.args.outages.now

pub returns-in-Some : goal.returns-in-Some
returns-in-Some c =
    let found = find_from_yields_List (λ o. is_in o.stretch c.args.now) _ _ _ c.find.ensures.ran (YieldsList-from_slice c.args.outages.now cc) (λ x r q k. search (rules, tests)) in
    ap (permille_of c.args.otherwise) (rw c.in-Some.is at found) ∙ by_found c.args.now c.args.otherwise c.args.outages.now
