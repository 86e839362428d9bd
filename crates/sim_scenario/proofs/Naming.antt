-- Queues and others with their names.
use Rattle.std.proofs.Common.{◌≡◌, ℕ, List, [], ◌∷◌, ◌++◌, length, refl}
use Rattle.std.specs.Prelude.{All, drop, map}
use Rattle.std.specs.List.{zip}
use Rattle.std.proofs.lemmas.List.Elements.{All-cons, All-head, All-nil, All-tail}
use Rattle.sqs_redrive.specs.declared.settings.QueueSettings.{QueueSettings}
use Rattle.sim_scenario.specs.Naming.{IsNameOf}

-- queues with the names that stand first
pub zip_named : (qs : List (List ℕ × QueueSettings)) (others : List (List ℕ)) → All (λ q. IsNameOf q.1 q.0) qs → All (λ x. IsNameOf x.0 x.1) (zip (map (λ q. q.1) qs) (map (λ q. q.0) qs ++ others))
zip_named [] others h = All-nil (λ (x : QueueSettings × List ℕ). IsNameOf x.0 x.1)
zip_named (q ∷ qs) others h =
    All-cons (λ (x : QueueSettings × List ℕ). IsNameOf x.0 x.1) (q.1, q.0) _ (All-head (λ (q : List ℕ × QueueSettings). IsNameOf q.1 q.0) q qs h) (zip_named qs others (All-tail (λ (q : List ℕ × QueueSettings). IsNameOf q.1 q.0) q qs h))

-- and those behind them
pub drop_named : {X : Type 0} (qs : List (List ℕ × X)) (others : List (List ℕ)) → drop (length (map (λ q. q.1) qs)) (map (λ q. q.0) qs ++ others) ≡ others
drop_named [] others = refl
drop_named (q ∷ qs) others = drop_named qs others
