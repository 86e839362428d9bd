-- The least latency of a list of ways, found one by one.
use Rattle.std.proofs.Common.{◌≡◌, ℕ, List, [], ◌∷◌, fold, map, min, unwrap_or, refl, arith, ◌∙◌}
use Rattle.std.specs.List.{reduce}
use Rattle.sqs_model.specs.Scenario.{least_among, least_of}
use Rattle.sim_engine.specs.declared.edge.Edge.{Edge}

least_min : (m a : ℕ) (es : List Edge) → least_of (min m a) es ≡ min a (least_of m es)
least_min m a [] = omega arith
least_min m a (e ∷ es) = omega (arith, least_min m a es)

lowered : (m : ℕ) (es : List Edge) → fold min m (map (λ e. e.least) es) ≡ least_of m es
lowered m [] = refl
lowered m (e ∷ es) = lowered (min m e.least) es ∙ least_min m e.least es

pub least_found : (past : ℕ) (es : List Edge) → unwrap_or (reduce min (map (λ e. e.least) es)) past ≡ least_among past es
least_found past [] = refl
least_found past (e ∷ es) = lowered e.least es
