-- What a site opens with.
use Rattle.std.proofs.Common.{◌≡◌, ℕ, List, [], ◌∷◌, ◌++◌, map, refl, ap, sym}
use Rattle.std.proofs.lemmas.List.{map-append}
use Rattle.sqs_model.specs.declared.agents.ActorSettings.{ActorSettings}
use Rattle.sqs_redrive.specs.declared.settings.TaskSettings.{TaskSettings}
use Rattle.sqs_model.specs.Actor.{Actor}
use Rattle.sqs_model.specs.Scenario.{opening_actor, opening_task}
use Rattle.sim_site.specs.Kept.{numbered_settings}

-- what was made of one more element is put at the end
pub made_more : {A B : Type 0} (f : A → B) (made new : List B) (y : B) (xs : List A) (x : A) → new ≡ made ++ y ∷ [] → made ≡ map f xs → y ≡ f x → new ≡ map f (xs ++ x ∷ [])
made_more f made new y xs x pushed so_far is = rw (pushed, so_far, is) (sym (map-append f xs (x ∷ [])))

-- an opening keeps settings
pub settings_open : (seed : ℕ) (xs : List (ℕ × ActorSettings)) → map (λ (a : Actor). a.settings) (map (opening_actor seed) xs) ≡ map (λ x. x.1) xs
settings_open seed [] = refl
settings_open seed (x ∷ xs) = ap (λ t. x.1 ∷ t) (settings_open seed xs)

pub numbers_open : (seed : ℕ) (xs : List (ℕ × TaskSettings)) → map numbered_settings (map (opening_task seed) xs) ≡ xs
numbers_open seed [] = refl
numbers_open seed (x ∷ xs) = ap (λ t. x ∷ t) (numbers_open seed xs)
