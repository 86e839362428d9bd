-- A message that is found by its number, among the messages of its group, and the table after it left or changed.
use Rattle.std.proofs.Common.{◌≡◌, ℕ, ◌+◌, ◌<◌, Bool, List, None, Option, Some, ap, arith, length, map, subst, sym, ◌∙◌}
use Rattle.std.specs.Option.{option_map}
use Rattle.std.specs.Prelude.{All, find, ◌≢◌}
use Rattle.sqs_message.specs.declared.message.Message.{Message}
use Rattle.sqs_message.specs.declared.message.Place.{Place}
use Rattle.sqs_model.specs.Queue.{is_in_flight}
use Rattle.sqs_messages.proofs.Calls.{settle_at}
use Rattle.sqs_messages.proofs.Firsts.{some_of}
use Rattle.sqs_messages.proofs.Leads.{find_has}
use Rattle.sqs_messages.proofs.Settled.{IsSettled}
use Rattle.sqs_messages.specs.declared.groups.members.Members.{Members}
use Rattle.sqs_messages.specs.Groups.{AreInGroups, IsGrouped, IsPlaceOf, bit, group_at, group_by, in_flight_at, out_of, place_by}
use Rattle.sqs_messages.specs.Heads.{AreLed, IsLedBut, of_group, told}
use Rattle.sqs_messages.specs.Marked.{unhosted}
use Rattle.sqs_messages.specs.Slots.{Shelved, held, is_numbered, message_and_group, place_and_group}

-- a message of a number, where it stands, and the place of its group
pub record IsMember (items : List Shelved) (next : ℕ) (names : List (Option (List ℕ))) (groups : List Members) (number index : ℕ) (place : Place) : Type 0 where
  pub shelved : Shelved
  pub found : find (is_numbered number) items ≡ Some shelved
  pub is : shelved.message.place ≡ place
  pub at : index ≡ place_by names shelved.message.group
  pub within : index < length groups
  pub grouped : IsGrouped items next shelved.message.group (group_at groups index)
  pub table : AreInGroups items next names groups

pub member : (items : List Shelved) (next : ℕ) (names : List (Option (List ℕ))) (members groups : List Members) (number index : ℕ) (place : Place) → groups ≡ members → AreInGroups items next names members
    → Some (place, index) ≡ option_map place_and_group (find (is_numbered number) items) → IsMember items next names groups number index place
member items next names members groups number index place same h e =
    let s = some_of place_and_group (find (is_numbered number) items) (place, index) e in
    let table : AreInGroups items next names groups = subst (λ (gs : List Members). AreInGroups items next names gs) (sym same) h in
    let own : IsPlaceOf names s.0.message.group index =
    subst (IsPlaceOf names s.0.message.group) (ap (λ (p : Place × ℕ). p.1) s.2) (find_has (λ (x : Shelved). IsPlaceOf names x.message.group x.group) (is_numbered number) items s.0 h.placed s.1) in
    record {
      shelved = s.0;
      found = s.1;
      is = ap (λ (p : Place × ℕ). p.0) s.2;
      at = own.at;
      within = omega (arith, own.within, table.same);
      grouped = subst (λ i. IsGrouped items next s.0.message.group (group_at groups i)) (sym own.at) (table.grouped s.0.message.group);
      table = table;
    }

-- where a message stood that is told whole
pub stood : (o : Option Shelved) (m : Message) (i : ℕ) → Some (m, i) ≡ option_map message_and_group o → Some (m.place, i) ≡ option_map place_and_group o
stood None m i e = cc
stood (Some s) m i e = ap (option_map (λ (p : Message × ℕ). (p.0.place, p.1))) e

-- what a change of a message that is found leaves at its group
pub settle_here : (items : List Shelved) (next : ℕ) (names : List (Option (List ℕ))) (groups groups2 : List Members) (number index : ℕ) (place : Place) (between wanted after : List Shelved) (was is : Bool)
    → (m : IsMember items next names groups number index place) → between ≡ wanted → was ≡ in_flight_at place
    → map unhosted after ≡ map unhosted between → ((j : ℕ) → j ≢ index → group_at groups2 j ≡ group_at groups j) → (group_at groups2 index).out + bit was ≡ (group_at groups index).out + bit is
    → held between (group_at groups2 index).numbers ≡ held between (group_at groups index).numbers → ((n : ℕ) → All (λ k. k < n) (group_at groups index).numbers → All (λ k. k < n) (group_at groups2 index).numbers)
    → ((h : Option (List ℕ)) → All (IsLedBut between h) between → held between (group_at groups index).numbers ≡ of_group h (told between) → (group_at groups2 index).out ≡ out_of h (told between) → AreLed after)
    → IsSettled wanted after m.shelved.message.group (is_in_flight m.shelved.message) is (group_by names groups) (group_by names groups2)
settle_here items next names groups groups2 number index place between wanted after was is m e w kept others out same below led =
    let g = m.shelved.message.group in
    subst (λ (xs : List Shelved). IsSettled xs after g (is_in_flight m.shelved.message) is (group_by names groups) (group_by names groups2)) e
    (subst (λ b. IsSettled between after g b is (group_by names groups) (group_by names groups2)) (w ∙ ap in_flight_at (sym m.is))
    (settle_at names groups groups2 between after g index was is m.at (omega (arith, m.within, m.table.same)) kept others out same below led))

-- the table as it is written back
pub written_back : (after : List Shelved) (next next2 : ℕ) (names : List (Option (List ℕ))) (groups written : List Members) → next2 ≡ next → written ≡ groups → AreInGroups after next names groups → AreInGroups after next2 names written
written_back after next next2 names groups written e w h =
    subst (λ n. AreInGroups after n names written) (sym e) (subst (λ (gs : List Members). AreInGroups after next names gs) (sym w) h)
