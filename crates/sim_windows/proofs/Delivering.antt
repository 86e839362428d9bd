-- Partitions that get what is sent to them, one after another.
use Rattle.std.specs.Prelude.{List, Ok, Result, [], drop, get_or, length, map, set, suc, zero, ℕ, ◌++◌, ◌<◌, ◌∷◌, ◌≡◌}
use Rattle.std.proofs.Common.{ap, arith, refl}
use Rattle.sim_clock.specs.declared.refusal.Refusal.{Refusal}
use Rattle.sim_windows.specs.Meeting.{AreReached, IsReached, delivered_each}
use Rattle.sim_engine.specs.World.{delivered}
use Rattle.sim_engine.specs.Engine.{Engine}
use Rattle.sim_engine.specs.Laws.{Conditions, SiteLaws}

pub drop_set : {A : Type 0} (xs : List A) (i : ℕ) (y : A) → drop (suc i) (set xs i y) ≡ drop (suc i) xs
drop_set [] zero y = refl
drop_set [] (suc i) y = refl
drop_set (x ∷ xs) zero y = refl
drop_set (x ∷ xs) (suc i) y = drop_set xs i y

module _ {Site Row Transfer : Type 0} {engine : Engine Site Row Transfer} {conditions : Conditions Site Transfer} (basics : SiteLaws engine conditions) where
  -- the next partition, to which something is sent
  pub record Next (xs : List (Result (List Site) Refusal)) (i : ℕ) (os : List Transfer) (rest : List (List Transfer)) : Type 0 where
    pub within : i < length xs
    pub reached : (d : Result (List Site) Refusal) → IsReached engine conditions (get_or xs i d) os
    pub others : AreReached engine conditions (drop (suc i) xs) rest

  pub next_of : (xs : List (Result (List Site) Refusal)) (i : ℕ) (os : List Transfer) (rest : List (List Transfer)) → AreReached engine conditions (drop i xs) (os ∷ rest) → Next xs i os rest
  next_of [] zero os rest h = absurd h
  next_of [] (suc i) os rest h = absurd h
  next_of (x ∷ xs) zero os rest h = record { within = omega arith; reached = λ d. h.0; others = h.1 }
  next_of (x ∷ xs) (suc i) os rest h = let n : Next xs i os rest = next_of xs i os rest h in let w : i < length xs = n.within in record { within = omega arith; reached = n.reached; others = n.others }

  -- the partition at the next place lives
  pub lives_at : (before : List (List Transfer)) (ws : List (List Site)) (d : Result (List Site) Refusal) → length before < length (map (λ w. let x : Result (List Site) Refusal = Ok w in x) (delivered_each engine before ws)) → (w : List Site) × (get_or (map (λ w. let x : Result (List Site) Refusal = Ok w in x) (delivered_each engine before ws)) (length before) d ≡ Ok w)
  lives_at [] [] d l = absurd (omega arith)
  lives_at [] (w ∷ ws) d l = (w, refl)
  lives_at (x ∷ before) [] d l = absurd (omega arith)
  lives_at (x ∷ before) (w ∷ ws) d l = lives_at before ws d (omega arith)

  pub set_next :
      (before : List (List Transfer)) (os : List Transfer) (ws : List (List Site)) (y d : Result (List Site) Refusal)
      → length before < length (map (λ w. let x : Result (List Site) Refusal = Ok w in x) (delivered_each engine before ws))
      → ((w : List Site) → get_or (map (λ w. let x : Result (List Site) Refusal = Ok w in x) (delivered_each engine before ws)) (length before) d ≡ Ok w → y ≡ Ok (delivered engine os w))
      → set (map (λ w. let x : Result (List Site) Refusal = Ok w in x) (delivered_each engine before ws)) (length before) y ≡ map (λ w. Ok w) (delivered_each engine (before ++ os ∷ []) ws)
  set_next [] os [] y d l h = absurd (omega arith)
  set_next [] os (w ∷ ws) y d l h = ap (λ z. z ∷ map (λ w. let x : Result (List Site) Refusal = Ok w in x) ws) (h w refl)
  set_next (x ∷ before) os [] y d l h = absurd (omega arith)
  set_next (x ∷ before) os (w ∷ ws) y d l h = ap (λ z. let v : Result (List Site) Refusal = Ok (delivered engine x w) in v ∷ z) (set_next before os ws y d (omega arith) h)
