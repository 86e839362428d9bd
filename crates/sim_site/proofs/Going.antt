-- A handling that goes on by one effect after another.
use Rattle.std.specs.Prelude.{Err, Ok, Result}
use Rattle.std.proofs.Common.{refl, subst, ℕ, ◌∙◌}
use Rattle.sim_clock.specs.declared.key.Key.{Key}
use Rattle.sim_clock.specs.declared.refusal.Refusal.{Refusal}
use Rattle.sqs_model.specs.Site.{Core, Effect, and_then}
use Rattle.sim_site.specs.Effects.{Did, Does, GoesOn}
use Rattle.sim_site.specs.declared.handling.Handling.{Handling}
use Rattle.sim_site.proofs.Carried.{did_then}
use Rattle.sim_site.proofs.Passing.{stops_then}

-- one that has not gone on yet
pub stays : (a : Handling) → GoesOn a a
stays a = record { key = refl; agent = refl; effects = refl }

-- one that went on twice
pub goes_both : (a b d : Handling) → GoesOn a b → GoesOn b d → GoesOn a d
goes_both a b d p q = record { key = q.key ∙ p.key; agent = q.agent ∙ p.agent; effects = q.effects ∙ p.effects }

-- one effect, and then what comes of the site that it leaves
then_same :
    {A : Type 0} (r : Result A Refusal) (a b d : Handling) (c e : Core) (f : Effect) (g : Core → Effect)
    → GoesOn a b × Did a.effects.now b.effects.now c f → Does r b d e (g c) → Does r a d e (and_then f g)
then_same (Ok u) a b d c e f g p q =
    (goes_both a b d p.0 q.0, did_then a.effects.now b.effects.now d.effects.now c e f g p.1 q.1)
then_same {A = A} (Err x) a b d c e f g p q = stops_then {A = A} (Err x) a.effects.now b.effects.now c f g p.1 q

pub does_then :
    {A : Type 0} (r : Result A Refusal) (a b d : Handling) (c e : Core) (f : Effect) (g : Key → ℕ → Core → Effect)
    → GoesOn a b × Did a.effects.now b.effects.now c f → Does r b d e (g b.key b.agent c) → Does r a d e (and_then f (g a.key a.agent))
does_then r a b d c e f g p q =
    then_same r a b d c e f (g a.key a.agent) p
    (subst (λ n. Does r b d e (g a.key n c)) p.0.agent (subst (λ k. Does r b d e (g k b.agent c)) p.0.key q))
