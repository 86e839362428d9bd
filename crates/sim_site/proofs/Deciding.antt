-- Where an actor would decide on and count past the limit, its turn takes that count past it.
use Rattle.std.specs.Prelude.{Some, find, max, ℕ, ◌<◌, ◌∷◌, ◌≡◌, ◌≤◌, []}
use Rattle.std.proofs.Common.{arith, subst, sym, ◌∙◌}
use Rattle.std.proofs.Math.Nat.{le-max_left, le-max_right, max-le}
use Rattle.sim_clock.specs.declared.key.Key.{Key}
use Rattle.sim_actor.specs.Lives.{greatest_count}
use Rattle.sqs_model.specs.declared.acts.Act.{Act}
use Rattle.sqs_model.specs.declared.acts.Answer.{Answer}
use Rattle.sqs_model.specs.Actor.{Actor, next}
use Rattle.sqs_model.specs.Acts.{Made, act_made}
use Rattle.sqs_model.specs.Answers.{most_count}
use Rattle.sqs_model.specs.Limits.{PassesCount}
use Rattle.sqs_model.specs.Counts.{actor_count, greatest, site_count}
use Rattle.sim_clock.specs.Places.{Stands}
use Rattle.sqs_model.specs.Site.{Core, actor_numbered, is_actor, with_actor}
use Rattle.sqs_model.proofs.Counts.{find_picked}
use Rattle.sqs_model.proofs.Growth.{Grows, act_up, next_up, same, stands}
use Rattle.sim_site.specs.Turns.{turn_next, turn_of}
use Rattle.sim_site.proofs.Passing.{actor_passes, passes_site}
use Rattle.sim_site.proofs.Recent.{turn_by_made}
use Rattle.sim_site.proofs.Tasking.{Found, stands_found}
use Rattle.sim_site.proofs.Turning.{is_its_number}

-- what decisions count is counted
decided_within : (a : Actor) → greatest_count a ≤ actor_count a
decided_within a =
    let words : a.draws.taken ≤ greatest (a.draws.taken ∷ []) = le-max_left _ _ in
    let more : greatest (a.draws.taken ∷ []) ≤ greatest (a.sent ∷ a.draws.taken ∷ []) = le-max_right _ _ in
    let sent : a.sent ≤ greatest (a.sent ∷ a.draws.taken ∷ []) = le-max_left _ _ in
    let both : max a.sent a.draws.taken ≤ greatest (a.sent ∷ a.draws.taken ∷ []) = max-le sent (omega (arith, words, more)) in
    let polls : greatest (a.sent ∷ a.draws.taken ∷ []) ≤ greatest (a.polls ∷ a.sent ∷ a.draws.taken ∷ []) = le-max_right _ _ in
    let rest : greatest (a.polls ∷ a.sent ∷ a.draws.taken ∷ []) ≤ actor_count a = le-max_right _ _ in
    max-le (le-max_left _ _) (omega (arith, both, polls, rest))

-- an actor that stands in its place with more counted acts on it
next_limited : (key : Key) (c : Core) (a b : Actor) (act : Act) → actor_numbered b.number c ≡ Some a → most_count < greatest_count b → PassesCount (turn_next key c (act, b)).effect
next_limited key c a b act found p =
    let m : Made = act_made key b (with_actor c b) act in
    let past : most_count < site_count (with_actor c b) = actor_passes c a b found (omega (arith, p, decided_within b)) in
    let up : Grows (with_actor c b) m.effect.core = act_up (with_actor c b) key b (with_actor c b) act (stands c b) (same (with_actor c b)) in
    subst PassesCount (sym (turn_by_made act m)) (passes_site (with_actor c b) m.effect up past)

pub turn_passes :
    (key : Key) (n : ℕ) (answer : Answer) (c : Core) (place : ℕ) → Stands (is_actor n) c.actors place
    → ((a : Actor) → find (is_actor n) c.actors ≡ Some a → most_count < greatest_count (next a key.at answer).1) → PassesCount (turn_of key answer c (actor_numbered n c)).effect
turn_passes key n answer c place s passes =
    let f : Found (is_actor n) c.actors = stands_found (is_actor n) c.actors place s in
    let a : Actor = f.one in
    let x : Act × Actor = next a key.at answer in
    let number : x.1.number ≡ n = (next_up a key.at answer).number ∙ is_its_number n a (find_picked (is_actor n) c.actors a f.is) in
    let found : actor_numbered x.1.number c ≡ Some a = subst (λ i. actor_numbered i c ≡ Some a) (sym number) f.is in
    subst (λ o. PassesCount (turn_of key answer c o).effect) (sym f.is) (next_limited key c a x.1 x.0 found (passes a f.is))
