-- The transfers on their way to a site: those in a tree, each under its key and the number of its insertion, and where one comes in.
use Rattle.std.specs.Prelude.{Bool, List, [], false, true, ℕ, ◌<◌, ◌≡◌, ◌≤◌, ◌∷◌}
use Rattle.std.specs.declared.cmp.Ordering.{Ordering}
use Rattle.std.specs.List.{AllByRecursion, insert}
use Rattle.std.specs.List.Sorted.{IsStrictlySortedBy}
use Rattle.std.specs.Map.{keys_of}
use Rattle.std.specs.Ordering.{is_lt, nat_cmp, on, then_cmp}
use Rattle.sim_clock.specs.declared.key.Key.{Key}
use Rattle.sim_clock.specs.Order.{inserted_by, key_cmp}
use Rattle.sqs_redrive.specs.declared.transfers.Outbound.{Outbound}
use Rattle.sqs_redrive.specs.Transfers.{transfer_key}

-- by their keys, and of one key by their numbers
abbrev pub arriving_cmp : Key × ℕ → Key × ℕ → Ordering
arriving_cmp = then_cmp (on (λ k. k.0) key_cmp) (on (λ k. k.1) nat_cmp)

-- transfers in the order of their keys, with one more
abbrev pub with_transfer : Outbound → List Outbound → List Outbound
with_transfer t transfers = inserted_by (on transfer_key key_cmp) t transfers

-- the place at which a transfer with a key comes in among others
abbrev pub IsPlaceFor : Key → List Outbound → ℕ → Type 0
IsPlaceFor key transfers place = (t : Outbound) → transfer_key t ≡ key → insert transfers place t ≡ with_transfer t transfers

-- a transfer under its key and a number from the first one on, below the next
pub record IsArriving (first next : ℕ) (entry : (Key × ℕ) × Outbound) : Type 0 where
  pub key : entry.0.0 ≡ transfer_key entry.1
  pub from : first ≤ entry.0.1
  pub number : entry.0.1 < next

-- such transfers, in their order
pub record AreArriving (first next : ℕ) (entries : List ((Key × ℕ) × Outbound)) : Type 0 where
  pub bounds : first ≤ next
  pub each : AllByRecursion (IsArriving first next) entries
  pub order : IsStrictlySortedBy arriving_cmp (keys_of entries)

-- whether a key comes before the first of some transfers, if there is one
abbrev pub ComesFirst : Key → List Outbound → Type 0
ComesFirst key [] = Unit {0}
ComesFirst key (t ∷ ts) = is_lt (key_cmp key (transfer_key t)) ≡ true

-- whether there is a first, and a key does not come before it
abbrev pub ComesBehind : Key → List Outbound → Type 0
ComesBehind key [] = ⊥
ComesBehind key (t ∷ ts) = is_lt (key_cmp key (transfer_key t)) ≡ false

-- whether a key comes before all of some transfers; if it does not, it comes behind the first
pub record ReportsFirst (key : Key) (later : List Outbound) (result : Bool) : Type 0 where
  pub first : result ≡ true → ComesFirst key later
  pub behind : result ≡ false → ComesBehind key later
