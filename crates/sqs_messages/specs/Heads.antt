-- Which messages lead their groups: the first of a group, if it may be given.
use Rattle.std.specs.List.{list_any}
use Rattle.std.specs.Prelude.{◌≡◌, All, map, Bool, None, Some, false, filter, find, true, List, Option, [], not, ℕ, ◌&&◌, ◌==◌, ◌∷◌}
use Rattle.sim_index.specs.Marks.{meets}
use Rattle.sqs_message.specs.declared.message.Message.{Message}
use Rattle.sqs_messages.specs.Slots.{Shelved, held}
use Rattle.sim_clock.specs.Firsts.{kept_when}
use Rattle.sqs_model.specs.Queue.{is_delayed, is_in_flight, is_visible, same_text}

-- whether a message is of a group
abbrev pub in_group : Option (List ℕ) → Message → Bool
in_group g m = same_text g m.group

-- whether any message of a group is among some, is in flight among some, or is delayed among some
abbrev pub any_in : Option (List ℕ) → List Message → Bool
any_in g ms = list_any (in_group g) ms

abbrev pub any_out : Option (List ℕ) → List Message → Bool
any_out g ms = list_any (λ x. in_group g x && is_in_flight x) ms

abbrev pub any_delayed : Option (List ℕ) → List Message → Bool
any_delayed g ms = list_any (λ x. in_group g x && is_delayed x) ms

-- whether a message is the first of its group, may be received, and none of its group is in flight
abbrev pub is_head : List Message → List Message → Message → Bool
is_head all earlier m = is_visible m && not (any_out m.group all) && not (any_in m.group earlier)

-- the heads of groups, in order of arrival
abbrev pub heads_from : List Message → List Message → List Message → List Message
heads_from all earlier [] = []
heads_from all earlier (m ∷ ms) = kept_when (is_head all earlier m) m (heads_from all (m ∷ earlier) ms)

-- a list with one more in front, or none
abbrev pub kept_until : Bool → Message → List Message → List Message
kept_until true m ms = []
kept_until false m ms = m ∷ ms

-- the messages before the first delayed one
abbrev pub until_delayed : List Message → List Message
until_delayed [] = []
until_delayed (m ∷ ms) = kept_until (is_delayed m) m (until_delayed ms)

-- the messages of a group
abbrev pub of_group : Option (List ℕ) → List Message → List Message
of_group g ms = filter (in_group g) ms

-- what a head's group may give
abbrev pub given_by : List Message → Message → List Message
given_by all h = until_delayed (of_group h.group all)

-- what a group with these numbers may give
abbrev pub given_of : List Shelved → List ℕ → List Message
given_of items numbers = until_delayed (held items numbers)

-- whether a message is the first of its group, by its number
abbrev pub is_first : List Message → Message → Bool
is_first all m = elim (find (in_group m.group) all) as (λ _. Bool) [ None ↦ false | Some x ↦ x.number == m.number ]

-- whether a message heads its group, whatever its place in the list
abbrev pub leads : List Message → Message → Bool
leads all m = is_visible m && not (any_out m.group all) && is_first all m

-- whether a message is the first of some, by its number
abbrev pub begins : List Message → Message → Bool
begins [] m = false
begins (x ∷ xs) m = x.number == m.number

-- whether a message leads its group, by the group's messages alone
abbrev pub leads_in : List Message → Message → Bool
leads_in ms m = is_visible m && not (list_any is_in_flight ms) && begins ms m

-- the messages on a shelf
abbrev pub told : List Shelved → List Message
told items = map (λ s. s.message) items

-- whether each message on a shelf is marked if it leads
abbrev pub AreLed : List Shelved → Type 0
AreLed items = All (λ s. meets 1 s.mark ≡ leads (told items) s.message) items

-- the same but for one group, of which only the first may be marked wrongly
pub record IsLedBut (items : List Shelved) (g : Option (List ℕ)) (s : Shelved) : Type 0 where
  pub other : in_group g s.message ≡ false → meets 1 s.mark ≡ leads (told items) s.message
  pub later : begins (of_group s.message.group (told items)) s.message ≡ false → meets 1 s.mark ≡ false
