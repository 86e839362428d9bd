-- The heads of lists: of each that has a row its first one, by key, site and the place of the list.
use Rattle.std.specs.Ordering.{is_lt, nat_cmp, on, then_cmp}
use Rattle.std.specs.Prelude.{List, [], cond, false, get_or, if◌then◌else◌, length, true, ℕ, ◌*◌, ◌+◌, ◌<◌, ◌∷◌, ◌≡◌, ◌≢◌, ◌≤◌}
use Rattle.std.specs.declared.cmp.Ordering.{Ordering}
use Rattle.sim_clock.specs.declared.key.Class.TheVariants.{Arrival}
use Rattle.sim_clock.specs.Order.{key_cmp}
use Rattle.sim_engine.specs.Engine.{Engine}
use Rattle.sim_exchange.specs.declared.heads.Head.{Head}

-- the head of a list with no rows
abbrev pub no_head : ℕ → Head
no_head place = record { is_done = true; key = record { at = 0; agent = 0; class = Arrival; number = 0 }; site = 0; place = place }

-- rows compare by key, then by site, then by the places of their lists
abbrev pub first_cmp : Head → Head → Ordering
first_cmp = then_cmp (then_cmp (on (λ h. h.key) key_cmp) (on (λ h. h.site) nat_cmp)) (on (λ h. h.place) nat_cmp)

-- so do heads, but those of lists with no rows come last
abbrev pub head_cmp : Head → Head → Ordering
head_cmp = then_cmp (on (λ h. cond h.is_done 1 0) nat_cmp) first_cmp

-- the lesser of two heads
abbrev pub lesser : Head → Head → Head
lesser head other = if is_lt (head_cmp other head) then other else head

-- the head of a place
abbrev pub head_in : List Head → ℕ → Head
head_in heads place = get_or heads place (no_head 0)

-- whether a head does not come after another one
abbrev pub IsUpto : Head → Head → Type 0
IsUpto head other = is_lt (head_cmp other head) ≡ false

-- the least of some heads
pub record IsLeast (heads : List Head) (head : Head) : Type 0 where
  pub there : (place : ℕ) × (place < length heads) × (head_in heads place ≡ head)
  pub upto : (place : ℕ) → place < length heads → IsUpto head (head_in heads place)

-- whether a node has the lesser of the heads at the two below it
abbrev pub IsLesser : List Head → ℕ → Type 0
IsLesser nodes i = head_in nodes i ≡ lesser (head_in nodes (2 * i)) (head_in nodes (2 * i + 1))

-- whether each node but one has, of those that have two below them
abbrev pub AreLesserBut : List Head → ℕ → Type 0
AreLesserBut nodes but = (i : ℕ) → 1 ≤ i → 2 * i + 1 < length nodes → i ≢ but → IsLesser nodes i

-- a tree over the heads of lists, which are the second half of its nodes
pub record IsTree (nodes : List Head) (width : ℕ) : Type 0 where
  pub long : length nodes ≡ 2 * width
  pub lesser : AreLesserBut nodes 0

module _ {Site Row Transfer : Type 0} (engine : Engine Site Row Transfer) where
  open engine use {row_key, row_site}

  -- the head of a list at a place
  abbrev pub head_of : ℕ → List Row → Head
  head_of place [] = no_head place
  head_of place (x ∷ xs) = record { is_done = false; key = row_key x; site = row_site x; place = place }

  -- the heads of some lists
  pub record AreHeads (lists : List (List Row)) (heads : List Head) : Type 0 where
    pub many : length heads ≡ length lists
    pub each : (place : ℕ) → place < length lists → head_in heads place ≡ head_of place (get_or lists place [])
