-- Delivery of a transfer, beside other deliveries.
use Rattle.std.proofs.Common.{◌≡◌, ℕ, ◌≤◌, Bool, true, false, List, [], ◌∷◌, refl, ap, map, if◌then◌else◌, ◌∙◌}
use Rattle.std.specs.Prelude.{◌==◌}
use Rattle.sim_clock.specs.Order.{same_key, due_before}
use Rattle.sim_clock.proofs.Least.{due_before_lesser}
use Rattle.sim_engine.specs.Engine.{Engine}
use Rattle.sim_engine.specs.Laws.{Conditions}
use Rattle.sim_engine.specs.Laws.{SiteLaws}
use Rattle.sim_engine.specs.World.{delivered_one, least_due}

module _ {Site Row Transfer : Type 0} {engine : Engine Site Row Transfer} {conditions : Conditions Site Transfer} (basics : SiteLaws engine conditions) where
  open engine use {number, accepted, transfer_key, to}
  open basics use {number_accepted, swapped, due_accepted}

  -- a site that has accepted one transfer gets another, or not, as before
  still : (o p : Transfer) (s : Site) (a : Bool) → (to o == number s) ≡ a → delivered_one engine o (accepted p s) ≡ (if a then accepted o (accepted p s) else accepted p s)
  still o p s a h = rw (number_accepted p s, h) refl

  swap_when :
      (o p : Transfer) (s : Site) (a b : Bool) → same_key (transfer_key o) (transfer_key p) ≡ false
      → (to o == number s) ≡ a → (to p == number s) ≡ b
      → delivered_one engine o (if b then accepted p s else s) ≡ delivered_one engine p (if a then accepted o s else s)
  swap_when o p s true true n h k = rw (still o p s true h, still p o s true k) (swapped o p s n)
  swap_when o p s true false n h k = rw (still p o s false k, h) refl
  swap_when o p s false true n h k = rw (still o p s false h, k) refl
  swap_when o p s false false n h k = rw (h, k) refl

  delivered_one_swap : (o p : Transfer) (s : Site) → same_key (transfer_key o) (transfer_key p) ≡ false → delivered_one engine o (delivered_one engine p s) ≡ delivered_one engine p (delivered_one engine o s)
  delivered_one_swap o p s n = swap_when o p s _ _ n refl refl

  pub sites_swap : (o p : Transfer) (sites : List Site) → same_key (transfer_key o) (transfer_key p) ≡ false → map (delivered_one engine o) (map (delivered_one engine p) sites) ≡ map (delivered_one engine p) (map (delivered_one engine o) sites)
  sites_swap o p [] n = refl
  sites_swap o p (s ∷ ss) n = rw (delivered_one_swap o p s n, sites_swap o p ss n) refl

  -- a transfer that arrives at a moment or later changes nothing of what is due before it
  pub due_before_accepted : (e : ℕ) (o : Transfer) (s : Site) → e ≤ (transfer_key o).at → due_before e (least_due engine (accepted o s)) ≡ due_before e (least_due engine s)
  due_before_accepted e o s l = ap (due_before e) (due_accepted o s) ∙ due_before_lesser e (transfer_key o) (least_due engine s) l
