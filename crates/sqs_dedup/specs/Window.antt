-- The entries that a window holds by their keys, and which of them it shows.
use Rattle.std.specs.Prelude.{All, Bool, List, None, Option, Some, find, if◌then◌else◌, map, nat_lt, ℕ, ◌&&◌, ◌++◌, ◌+◌, ◌≤◌, [], ◌∷◌}
use Rattle.std.specs.List.{IsDistinct}
use Rattle.std.specs.Map.{keys_of}
use Rattle.std.specs.Option.{option_eq}
use Rattle.std.specs.Str.{bytes_eq}
use Rattle.sqs_model.specs.Calls.{living_entries}
use Rattle.sqs_model.specs.Longest.{deduplication_interval}
use Rattle.sqs_model.specs.Queue.{Entry, same_text}
use Rattle.sqs_dedup.specs.declared.held.Held.{Held}
use Rattle.sqs_dedup.specs.declared.key.ScopedId.{ScopedId}

-- whether two ids with their scopes are one
abbrev pub same_key : ScopedId → ScopedId → Bool
same_key a b = option_eq bytes_eq a.scope b.scope && bytes_eq a.id b.id

-- the entry with this scope and id that lives at a moment, as a queue finds it among its entries
abbrev pub living_among : ℕ → Option (List ℕ) → List ℕ → List Entry → Option Entry
living_among now scope id entries =
    find (λ e. nat_lt now e.end && same_text e.scope scope && bytes_eq e.id id) entries

-- entries with one more, of the message with this number, which lives for 5 minutes; those that have ended go
abbrev pub with_entry_of : ℕ → ScopedId → ℕ → List Entry → List Entry
with_entry_of now key number entries =
    living_entries now entries ++ record { scope = key.scope; id = key.id; end = now + deduplication_interval; number = number } ∷ []

-- the entry of a key
abbrev pub entry_of : ScopedId × Held → Entry
entry_of p = record { scope = p.0.scope; id = p.0.id; end = p.1.end; number = p.1.number }

-- the entries of a map that lived at a moment
abbrev pub shown : ℕ → List (ScopedId × Held) → List Entry
shown last held = living_entries last (map entry_of held)

-- the entries of two maps that lived at a moment
abbrev pub window : List (ScopedId × Held) → List (ScopedId × Held) → ℕ → List Entry
window earlier recent last = shown last earlier ++ shown last recent

-- the number of an entry that is held, if it lives at a moment
abbrev pub number_at : ℕ → Option Held → Option ℕ
number_at now None = None
number_at now (Some h) = if nat_lt now h.end then Some h.number else None

-- what every window keeps: each map's keys are distinct; earlier entries came up to a moment and recent ones from then
-- on; and the last entry came by a moment after which none of those shown came
pub record IsWindow (earlier recent : List (ScopedId × Held)) (began last : ℕ) : Type 0 where
  pub earlier_keys : IsDistinct same_key (keys_of earlier)
  pub recent_keys : IsDistinct same_key (keys_of recent)
  pub begun : began ≤ last
  pub earlier_ends : All (λ p. p.1.end ≤ began + deduplication_interval) earlier
  pub recent_begins : All (λ p. began + deduplication_interval ≤ p.1.end) recent
  pub recent_ends : All (λ p. p.1.end ≤ last + deduplication_interval) recent
  pub newest : (n : ℕ) → All (λ e. e.end ≤ n + deduplication_interval) (window earlier recent last) → last ≤ n
