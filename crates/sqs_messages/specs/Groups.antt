-- A table of groups, and what it keeps of the messages on a shelf.
use Rattle.std.specs.List.{position_or_len}
use Rattle.std.specs.VecDeque.{deque_capacity, deque_len}
use Rattle.std.specs.Prelude.{◌≡◌, All, Bool, List, None, Option, Some, [], ◌∷◌, cond, false, true, filter, get_or, length, map, ℕ, ◌&&◌, ◌<◌}
use Rattle.sqs_message.specs.declared.message.Message.{Message}
use Rattle.sqs_message.specs.declared.message.Place.{Place}
use Rattle.sqs_message.specs.declared.message.Place.TheVariants as places
use Rattle.sqs_model.specs.Queue.{is_in_flight, is_visible, same_text}
use Rattle.sqs_messages.specs.Heads.{AreLed, in_group, of_group, told, IsLedBut}
use Rattle.sqs_messages.specs.Slots.{Shelved, held}
use Rattle.sqs_messages.specs.declared.groups.members.Members.{Members}

-- the numbers of a group's messages, some of which may have left, and how many are in flight
pub record Kept : Type 0 where
  pub numbers : List ℕ
  pub out : ℕ

abbrev pub kept : Members → Kept
kept m = record { numbers = m.numbers.items; out = m.out }

-- a group that has no message
abbrev pub nobody : Kept
nobody = record { numbers = []; out = 0 }

-- the group at a place
abbrev pub group_at : List Members → ℕ → Kept
group_at groups i = get_or (map kept groups) i nobody

-- its numbers
abbrev pub numbers_at : List Members → ℕ → List ℕ
numbers_at groups i = (group_at groups i).numbers

-- how many of its messages are in flight
abbrev pub out_at : List Members → ℕ → ℕ
out_at groups i = (group_at groups i).out

-- two lists of numbers have the same messages of a shelf
abbrev pub HoldSame : List Shelved → List ℕ → List ℕ → Type 0
HoldSame items old new = held items new ≡ held items old

-- numbers that are below whatever the old ones were below
abbrev pub StayBelow : List ℕ → List ℕ → Type 0
StayBelow old new = (n : ℕ) → All (λ k. k < n) old → All (λ k. k < n) new

-- the place of a group by its name
abbrev pub place_by : List (Option (List ℕ)) → Option (List ℕ) → ℕ
place_by names g = position_or_len (same_text g) names

-- the group of a name
abbrev pub group_by : List (Option (List ℕ)) → List Members → Option (List ℕ) → Kept
group_by names groups g = group_at groups (place_by names g)

-- each group has the numbers that it had, and as many messages in flight
abbrev pub KeepGroups : List (Option (List ℕ)) → List Members → List (Option (List ℕ)) → List Members → Type 0
KeepGroups old_names old names groups = (g : Option (List ℕ)) → group_by names groups g ≡ group_by old_names old g

-- whether a message is of a group and in flight
abbrev pub is_out : Option (List ℕ) → Message → Bool
is_out g m = in_group g m && is_in_flight m

-- 1 if a fact holds
abbrev pub bit : Bool → ℕ
bit b = cond b 1 0

-- how many of a group's messages are in flight
abbrev pub out_of : Option (List ℕ) → List Message → ℕ
out_of g ms = length (filter (is_out g) ms)

-- the first message of a group with these numbers, of which so many are in flight, is marked if it leads: if all
-- messages but that group's were marked rightly, all are
abbrev pub MarksLeader : List Shelved → List ℕ → ℕ → List Shelved → Type 0
MarksLeader old numbers out new =
    (g : Option (List ℕ)) → All (IsLedBut old g) old → held old numbers ≡ of_group g (told old)
    → out ≡ out_of g (told old) → AreLed new

-- a group's list has its messages, in order, and its count those that are in flight
pub record IsGrouped (items : List Shelved) (next : ℕ) (g : Option (List ℕ)) (k : Kept) : Type 0 where
  pub listed : held items k.numbers ≡ of_group g (told items)
  pub counted : k.out ≡ out_of g (told items)
  pub below : All (λ n. n < next) k.numbers

-- the same of every group, in the table or not
abbrev pub AreGrouped : List Shelved → ℕ → List (Option (List ℕ)) → List Members → Type 0
AreGrouped items next names groups = (g : Option (List ℕ)) → IsGrouped items next g (group_by names groups g)

-- the index of a group's name
pub record IsPlaceOf (names : List (Option (List ℕ))) (g : Option (List ℕ)) (i : ℕ) : Type 0 where
  pub at : i ≡ place_by names g
  pub within : i < length names

-- each first message that leads is marked, each message has the index of its group, and the table is right for each
-- group
pub record AreInGroups (items : List Shelved) (next : ℕ) (names : List (Option (List ℕ))) (groups : List Members) : Type 0 where
  pub led : AreLed items
  pub placed : All (λ s. IsPlaceOf names s.message.group s.group) items
  pub same : length names ≡ length groups
  pub grouped : AreGrouped items next names groups

-- the number of the first of some messages, and whether it may be received
abbrev pub front_of : List Message → Option (ℕ × Bool)
front_of [] = None
front_of (m ∷ ms) = Some (m.number, is_visible m)

-- whether a place is that of a message in flight
abbrev pub in_flight_at : Place → Bool
in_flight_at p = elim p as (λ _. Bool) [ places.Delayed ↦ false | places.Visible ↦ false | places.InFlight ↦ true ]

-- whether the list of the group at a place has room for one more number
abbrev pub HasRoomAt : List Members → ℕ → Type 0
HasRoomAt groups i = (d : Members) → deque_len (get_or groups i d).numbers < deque_capacity (get_or groups i d).numbers
