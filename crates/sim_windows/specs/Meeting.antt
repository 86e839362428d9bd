-- Partitions of a world, by their numbers.
use Rattle.std.specs.List.{range_with_len}
use Rattle.std.specs.Prelude.{All, IfOk, List, None, Ok, Option, Result, [], get_or, map, ℕ, ◌∷◌, ◌≡◌}
use Rattle.sim_clock.specs.declared.refusal.Refusal.{Refusal}
use Rattle.sim_engine.specs.Bounds.{bound_by, moment_of}
use Rattle.sim_engine.specs.Parts.{part_of}
use Rattle.sim_engine.specs.Engine.{Engine}
use Rattle.sim_engine.specs.Laws.{Conditions}
use Rattle.sim_engine.specs.World.{arrival, delivered}
use Rattle.sim_exchange.specs.Table.{Table, distance_in}
use Rattle.sim_exchange.specs.Layout.{Layout, owner_of}
use Rattle.sim_partition.specs.Sites.{due_in}

-- the bounds of partitions, by the distances between them and the moments of what is due next in each
abbrev pub bounds_from : Table → ℕ → List (Option ℕ) → List ℕ
bounds_from table horizon dues = map (λ p. bound_by (distance_in table) horizon (λ q. get_or dues q None) p table.parts) (range_with_len 0 table.parts)

-- what holds of the sites of some partitions, if all live
abbrev pub OfLiving : {Site : Type 0} → List (Result (List Site) Refusal) → (List (List Site) → Type 0) → Type 0
OfLiving {Site = Site} parts P = (ws : List (List Site)) → parts ≡ map (λ w. Ok w) ws → P ws

module _ {Site Row Transfer : Type 0} (engine : Engine Site Row Transfer) where
  -- the sites of each partition, and the partitions that live with them
  abbrev pub parts_in : Layout → List Site → List (List Site)
  parts_in layout sites = map (λ p. part_of engine (owner_of layout) p sites) (range_with_len 0 layout.parts)

  abbrev pub living_in : Layout → List Site → List (Result (List Site) Refusal)
  living_in layout sites = map (λ p. Ok (part_of engine (owner_of layout) p sites)) (range_with_len 0 layout.parts)

  -- the moment of what is due next in each of some partitions
  abbrev pub due_moments : List (Result (List Site) Refusal) → List (Option ℕ)
  due_moments parts = map (λ p. moment_of (due_in engine p)) parts

  -- each of some partitions with what is delivered to it
  abbrev pub delivered_each : List (List Transfer) → List (List Site) → List (List Site)
  delivered_each [] ws = ws
  delivered_each (os ∷ rest) [] = []
  delivered_each (os ∷ rest) (w ∷ ws) = delivered engine os w ∷ delivered_each rest ws

module _ {Site Row Transfer : Type 0} (engine : Engine Site Row Transfer) (conditions : Conditions Site Transfer) where
  open conditions use {Past, Timely}

  -- what is to be delivered to a partition comes from before nothing there, and was sent by its arrival
  pub record IsReached (part : Result (List Site) Refusal) (os : List Transfer) : Type 0 where
    pub past : IfOk part (λ w. All (λ o. All (Past (arrival engine o)) w) os)
    pub timely : All Timely os

  -- so it is of each of some partitions, of which there are as many as lists
  abbrev pub AreReached : List (Result (List Site) Refusal) → List (List Transfer) → Type 0
  AreReached [] [] = Unit {0}
  AreReached [] (os ∷ rest) = ⊥
  AreReached (p ∷ ps) [] = ⊥
  AreReached (p ∷ ps) (os ∷ rest) = IsReached p os × AreReached ps rest
