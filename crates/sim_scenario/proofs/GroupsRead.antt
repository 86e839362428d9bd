-- Groups of a text are in range.
use Rattle.std.proofs.Common.{◌≡◌, ℕ, Bool, true, false, List, [], ◌∷◌, ◌++◌, length, Ok, arith}
use Rattle.std.specs.Prelude.{All}
use Rattle.std.proofs.lemmas.Bool.Decides.{nat_tests}
use Rattle.std.proofs.lemmas.List.Elements.{All-append, All-cons, All-nil}
use Rattle.toml.specs.Data.{Data}
use Rattle.sqs_model.specs.declared.agents.Groups.{Groups}
use Rattle.sqs_model.specs.declared.agents.WeightedGroup.{WeightedGroup}
use Rattle.sqs_model.specs.Valid.{AreGroups, AreWeighted, Between}
use Rattle.sqs_formats.specs.Groups.{group, groups, groups_key, weighted_group, weighted_groups}
use Rattle.sqs_formats.specs.Keys.{Table}
use Rattle.sqs_formats.specs.Script.{is_token}
use Rattle.sqs_formats.proofs.Readings.{parts, picked, same_ok}
use Rattle.sim_scenario.proofs.Admits.{Admits, integer_admits, required_admits, required_within}
use Rattle.sim_scenario.proofs.QuantilesRead.{list_holds}

-- a group has 1 to 128 bytes
token_length : (s : List ℕ) → is_token 128 s ≡ true → Between 1 128 (length s)
token_length s h = grind (arith, nat_tests)

group_admits : Admits (λ s. Between 1 128 (length s)) group
unfolding group
group_admits place d s e =
    let read = parts _ _ _ e in
    let token = picked _ _ _ _ read.2 in
    rw (← token.1) (token_length read.0 token.0)

-- what holds of a group and of its weight
record IsInRange (g : WeightedGroup) : Type 0 where
  text : Between 1 128 (length g.group)
  weight : Between 1 1000000 g.weight

pair_admits : Admits IsInRange weighted_group
unfolding weighted_group
pair_admits place d g e =
    let both = parts _ _ _ e in
    let text = parts _ _ _ both.2 in
    let weight = parts _ _ _ text.2 in
    rw (← same_ok _ _ weight.2) (record {
      text = group_admits place both.0.0 text.0 text.1;
      weight = integer_admits 1 1000000 place both.0.1 weight.0 weight.1;
    })

-- groups that were read so far
record AreRead (gs : List WeightedGroup) : Type 0 where
  texts : All (λ g. Between 1 128 (length g.group)) gs
  weights : All (λ g. Between 1 1000000 g.weight) gs

read_more : (n : ℕ) (gs : List WeightedGroup) (place : List ℕ) (d : Data) (g : WeightedGroup) → AreRead gs → weighted_group place d ≡ Ok g → AreRead (gs ++ (g ∷ []))
read_more n gs place d g h e =
    let range = pair_admits place d g e in
    record {
      texts = All-append (λ (g : WeightedGroup). Between 1 128 (length g.group)) gs _ h.texts (All-cons (λ (g : WeightedGroup). Between 1 128 (length g.group)) g [] range.text (All-nil (λ (g : WeightedGroup). Between 1 128 (length g.group))));
      weights = All-append (λ (g : WeightedGroup). Between 1 1000000 g.weight) gs _ h.weights (All-cons (λ (g : WeightedGroup). Between 1 1000000 g.weight) g [] range.weight (All-nil (λ (g : WeightedGroup). Between 1 1000000 g.weight)));
    }

weighted_admit : Admits AreWeighted weighted_groups
weighted_admit place d gs e =
    let none : AreRead [] = record { texts = All-nil (λ (g : WeightedGroup). Between 1 128 (length g.group)); weights = All-nil (λ (g : WeightedGroup). Between 1 1000000 g.weight) } in
    let all = list_holds AreRead 1 100 (λ count before. weighted_group) none read_more place d gs e in
    record { count = all.1; groups = all.0.texts; weights = all.0.weights }

-- the groups of a producer are in range
pub groups_in_range : (b : Bool) (t : Table) (g : Groups) → groups b t ≡ Ok g → AreGroups g
unfolding groups
groups_in_range true t g e =
    let read = parts _ _ _ e in
    rw (← same_ok _ _ read.2) (required_admits AreWeighted weighted_groups weighted_admit t (groups_key true) read.0 read.1)
groups_in_range false t g e =
    let read = parts _ _ _ e in
    rw (← same_ok _ _ read.2) (required_within 1 1000 t (groups_key false) read.0 read.1)
