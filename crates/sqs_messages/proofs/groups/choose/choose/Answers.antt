use Rattle.std.proofs.Common.{◌≡◌, List, Option, Some, ℕ, ◌+◌, ◌++◌, ◌<◌, ◌≤◌, [], ap, arith, flat_map, filter, length, map, subst, sym, take, ◌∙◌}
use Rattle.std.specs.Prelude.{All, find}
use Rattle.std.proofs.lemmas.List.{length-map}
use Rattle.sqs_message.specs.declared.message.Message.{Message}
use Rattle.sqs_model.specs.Available.{by_group, open_from}
use Rattle.sqs_messages.specs.Heads.{given_by, of_group, told, until_delayed}
use Rattle.sqs_messages.specs.Slots.{Shelved, held, number_and_group, number_of, numbers_of}
use Rattle.sqs_messages.specs.declared.groups.members.Members.{Members}
use Rattle.std.specs.Option.{option_map}
use Rattle.sqs_messages.specs.Marked.{wanted}
use Rattle.sqs_messages.proofs.Places.{group_at_is}
use Rattle.sqs_messages.specs.Groups.{IsPlaceOf, Kept, group_at}
use Rattle.sqs_messages.proofs.Firsts.{none_of, some_of}
use Rattle.sqs_messages.proofs.Leaders.{IsChoice, choice_end, choice_full, choice_more, choice_start}
use Rattle.sqs_messages.proofs.Leading.{leader_from, leader_gives, take_more, take_short}
use Rattle.sqs_messages.proofs.Leads.{find_has}
use Rattle.sqs_messages.proofs.groups.choose.choose.Goals as goal

pub loop-number-init : goal.loop-number-init
loop-number-init c =
    record {
      chosen =
          record {
            so_far = ap (λ ns. take c.args.most (ns ++ numbers_of (flat_map (given_by (told c.args.shelf.now.items)) (told (filter (wanted 0 1) c.args.shelf.now.items))))) c.new.ensures.items ∙ choice_start c.args.shelf.now.items c.args.most c.number-next.ensures.ordered c.requires.grouped.led;
            short = subst (λ ns. length ns ≤ c.args.most) (sym c.new.ensures.items) (omega arith);
          };
      looked = omega arith;
      read = omega (arith, ap length c.new.ensures.items);
    }

pub returns-in_default-clause-numbers : goal.returns-in_default-clause-numbers
returns-in_default-clause-numbers c =
    choice_end c.args.shelf.now.items c.args.most c.loop-number.from (map (λ m. m.number) (take c.args.most (by_group (open_from (told c.args.shelf.now.items) [] (told c.args.shelf.now.items))))) c.loop-number.choice.numbers.items (none_of number_and_group (find (wanted c.loop-number.from 1) c.args.shelf.now.items) c.in_default.ensures.found) c.loop-number.invariant.chosen

pub returns-in_default-clause-looked : goal.returns-in_default-clause-looked
returns-in_default-clause-looked c = omega (arith, c.loop-number.invariant.looked, c.loop-number.invariant.chosen.short)

-- a leader that is found, and the place of its group
record IsLeader (items : List Shelved) (names : List (Option (List ℕ))) (from number place : ℕ) : Type 0 where
  shelved : Shelved
  found : find (wanted from 1) items ≡ Some shelved
  is : number_of shelved ≡ number
  placed : IsPlaceOf names shelved.message.group place

leader : (items : List Shelved) (names : List (Option (List ℕ))) (from number place : ℕ) → All (λ s. IsPlaceOf names s.message.group s.group) items → Some (number, place) ≡ option_map number_and_group (find (wanted from 1) items) → IsLeader items names from number place
leader items names from number place placed e =
    let s = some_of number_and_group (find (wanted from 1) items) (number, place) e in
    record {
      shelved = s.0;
      found = s.1;
      is = ap (λ (p : ℕ × ℕ). p.0) s.2;
      placed = subst (IsPlaceOf names s.0.message.group) (ap (λ (p : ℕ × ℕ). p.1) s.2) (find_has (λ (x : Shelved). IsPlaceOf names x.message.group x.group) (wanted from 1) items s.0 placed s.1);
    }

pub index-requires : goal.index-requires
index-requires c =
    let own = (leader _ _ _ _ _ c.requires.grouped.placed c.in-Some.ensures.found).placed in
    omega (arith, own.within, c.requires.grouped.same)

pub loop-number-smaller : goal.loop-number-smaller
loop-number-smaller c =
    let s = leader _ _ _ _ _ c.requires.grouped.placed c.in-Some.ensures.found in
    let late : c.loop-number.from ≤ number_of s.shelved = leader_from c.loop-number.from c.args.shelf.now.items s.shelved c.number-next.ensures.ordered s.found in
    omega (arith, late, s.is, c.in-Some.ensures.bound)

pub loop-number-preserved : goal.loop-number-preserved
loop-number-preserved c =
    let s = leader _ _ _ _ _ c.requires.grouped.placed c.in-Some.ensures.found in
    let groups = c.args.groups.now.members.items in
    let within : c.in-Some.place < length groups = omega (arith, s.placed.within, c.requires.grouped.same) in
    let listed : held c.args.shelf.now.items c.index.result.now.numbers.items ≡ of_group s.shelved.message.group (told c.args.shelf.now.items) =
    ap (λ (m : Members). held c.args.shelf.now.items m.numbers.items) c.index.ensures
    ∙ ap (λ (k : Kept). held c.args.shelf.now.items k.numbers) (sym (group_at_is groups c.in-Some.place c.index.result.now within) ∙ ap (group_at groups) s.placed.at) ∙ (c.requires.grouped.grouped s.shelved.message.group).listed in
    let is : c.give.new.choice.numbers.items ≡ take c.args.most (c.loop-number.choice.numbers.items ++ numbers_of (given_by (told c.args.shelf.now.items) s.shelved.message)) =
    c.in_ok-give.ensures.walked ∙ ap (λ ms. take c.args.most (c.loop-number.choice.numbers.items ++ numbers_of (until_delayed ms))) listed in
    let short : length c.give.new.choice.numbers.items ≤ c.args.most = subst (λ ns. length ns ≤ c.args.most) (sym is) (take_short c.args.most (c.loop-number.choice.numbers.items ++ numbers_of (given_by (told c.args.shelf.now.items) s.shelved.message))) in
    let some : 1 ≤ length (given_by (told c.args.shelf.now.items) s.shelved.message) = leader_gives c.loop-number.from c.args.shelf.now.items s.shelved c.number-next.ensures.ordered c.requires.grouped.led s.found in
    let room : length c.loop-number.choice.numbers.items < c.args.most = omega (arith, c.loop-number-test.true, c.len.ensures) in
    let more : length c.loop-number.choice.numbers.items + 1 ≤ length c.give.new.choice.numbers.items =
    subst (λ ns. length c.loop-number.choice.numbers.items + 1 ≤ length ns) (sym is) (take_more c.args.most c.loop-number.choice.numbers.items (numbers_of (given_by (told c.args.shelf.now.items) s.shelved.message)) room (omega (arith, some, length-map (given_by (told c.args.shelf.now.items) s.shelved.message) (λ (m : Message). m.number)))) in
    record {
      chosen = subst (λ n. IsChoice c.args.shelf.now.items c.args.most (map (λ m. m.number) (take c.args.most (by_group (open_from (told c.args.shelf.now.items) [] (told c.args.shelf.now.items))))) (n + 1) c.give.new.choice.numbers.items) s.is
          (choice_more c.args.shelf.now.items c.args.most c.loop-number.from (map (λ m. m.number) (take c.args.most (by_group (open_from (told c.args.shelf.now.items) [] (told c.args.shelf.now.items))))) c.loop-number.choice.numbers.items c.give.new.choice.numbers.items s.shelved c.number-next.ensures.ordered s.found c.loop-number.invariant.chosen is short);
      looked = omega (arith, c.loop-number.invariant.looked, c.in_ok-give.ensures.looked, more);
      read = omega (arith, c.loop-number.invariant.read, c.in_ok-give.ensures.read);
    }

pub returns-clause-numbers : goal.returns-clause-numbers
returns-clause-numbers c =
    choice_full c.args.shelf.now.items c.args.most c.loop-number.from (map (λ m. m.number) (take c.args.most (by_group (open_from (told c.args.shelf.now.items) [] (told c.args.shelf.now.items))))) c.loop-number.choice.numbers.items (omega (arith, c.loop-number-test.false, c.len.ensures, c.loop-number.invariant.chosen.short)) c.loop-number.invariant.chosen

pub returns-clause-looked : goal.returns-clause-looked
returns-clause-looked c = omega (arith, c.loop-number.invariant.looked, c.loop-number.invariant.chosen.short)
