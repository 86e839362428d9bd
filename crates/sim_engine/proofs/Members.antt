-- What is each of a list.
use Rattle.std.specs.Prelude.{All, List, [], ◌∷◌}
use Rattle.std.proofs.lemmas.List.Elements.{All-cons, All-nil}
use Rattle.sim_engine.specs.Members.{Each}

pub all_each : {A : Type 0} (P Q : A → Type 0) → ((x : A) → P x → Q x) → (xs : List A) → Each P xs → All Q xs
all_each P Q f [] h = All-nil Q
all_each P Q f (x ∷ xs) h = All-cons Q x xs (f x h.0) (all_each P Q f xs h.1)
