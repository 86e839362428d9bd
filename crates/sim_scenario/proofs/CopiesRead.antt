-- What is read of an actor with copies.
use Rattle.std.proofs.Common.{◌≡◌, ℕ, ◌<◌, codes, List, [], ◌∷◌, length, map, Result, Ok, refl, arith}
use Rattle.sqs_model.specs.declared.agents.ActorSettings.{ActorSettings}
use Rattle.sqs_model.specs.declared.agents.Role.{Role}
use Rattle.sqs_formats.specs.declared.actor_kind.ActorKind.{ActorKind}
use Rattle.sqs_formats.specs.Keys.{Table, one_of, required}
use Rattle.sqs_formats.specs.Names.{is_agent_name}
use Rattle.sqs_formats.specs.Outline.{Outline, actor_place, name_of, queue_named}
use Rattle.sqs_formats.specs.Actors.{Files, actor, copies, kinds_of, role}
use Rattle.sqs_formats.specs.Reading.{and_then}
use Rattle.sim_scenario.specs.Gives.{Gives}
use Rattle.sim_scenario.specs.declared.fault.ReadError.{ReadError}

-- an actor whose parts are read, and which has copies
pub copies_read :
    (files : Files) (o : Outline) (index : ℕ) (t : Table) (name : List ℕ) (kind : ActorKind) (home : ℕ) (r : Role) (names : List (List ℕ)) (result : Result (List (List ℕ × ActorSettings)) ReadError)
    → required (name_of is_agent_name o (actor_place o index)) t (codes "name") ≡ Ok name → required (one_of (kinds_of o.version)) t (codes "kind") ≡ Ok kind → required (queue_named o) t (codes "queue") ≡ Ok home
    → role kind files o home index t ≡ Ok r → copies o index name t ≡ Ok names → 0 < length names → Gives (λ v. v) result (Ok (map (λ n. (n, record { home = home; role = r })) names)) → Gives (λ v. v) result (actor files o index t)
unfolding actor and_then
copies_read files o index t name kind home r [] result a b c d e some h = absurd (omega (arith, some))
copies_read files o index t name kind home r (n ∷ ns) result a b c d e some h = rw (a, b, c, d, e) h

-- a list of no items
pub none_left : {X : Type 0} (xs : List X) → length xs ≡ 0 → xs ≡ []
none_left [] e = refl
none_left (x ∷ xs) e = absurd (omega (arith, e))
