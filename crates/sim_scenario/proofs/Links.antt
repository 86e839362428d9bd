-- Whatever a text names as a queue is a queue of it.
use Rattle.std.proofs.Common.{◌≡◌, ℕ, ◌+◌, ◌<◌, ◌≤◌, List, [], ◌∷◌, length, nat_le, Option, Some, None, Ok, ok_or, refl, ap, arith}
use Rattle.std.specs.Str.{bytes_eq}
use Rattle.std.proofs.lemmas.List.Quantifiers.{position-Some}
use Rattle.std.proofs.lemmas.Bool.Decides.{nat_tests}
use Rattle.toml.specs.Data.{Data}
use Rattle.sqs_formats.specs.Keys.{Says, Table, each}
use Rattle.sqs_formats.specs.Outline.{Outline, queue_number}
use Rattle.sqs_formats.specs.Scenario.{agent_list, queue_list}
use Rattle.sqs_model.specs.Valid.{Between}
use Rattle.sqs_formats.proofs.Readings.{parts, picked, same_ok}
use Rattle.sqs_formats.specs.declared.faults.ScenarioFault.{ScenarioFault}

-- a queue that is found is one of them
pub below : (o : Outline) (s : List ℕ) (n : ℕ) → queue_number o s ≡ Some n → n < length o.queues
below o s n e = (position-Some (λ (t : List ℕ). bytes_eq t s) o.queues n [] e).0

pub found : (x : Option ℕ) (f : ScenarioFault) (n : ℕ) → ok_or x f ≡ Ok n → x ≡ Some n
found None f n e = cc e
found (Some m) f n e = let same : m ≡ n = cc e in ap (λ (k : ℕ). Some k) same

-- as many are read as there are items
pub each_length : {X : Type 0} (key : List ℕ) (read : ℕ → Table → Says X) (n : ℕ) (ds : List Data) (xs : List X) → each key read n ds ≡ Ok xs → length xs ≡ length ds
each_length key read n [] xs e = rw (← same_ok _ _ e) refl
each_length key read n (d ∷ ds) xs e =
    let t = parts _ _ _ e in
    let x = parts _ _ _ t.2 in
    let rest = parts _ _ _ x.2 in
    let below = each_length key read (n + 1) ds rest.0 rest.1 in
    rw (← same_ok _ _ rest.2) (omega arith)

-- the lists of the top table are not too long
pub queues_few : (t : Table) (v : List Data) → queue_list t ≡ Ok v → Between 1 1000 (length v)
unfolding queue_list
queues_few t v e =
    let ds = parts _ _ _ e in
    let some = parts _ _ _ ds.2 in
    let a = picked (nat_le 1 (length ds.0)) _ ds.0 some.0 some.1 in
    let b = picked (nat_le (length ds.0) 1000) _ ds.0 v some.2 in
    let least : 1 ≤ length ds.0 = grind (arith, nat_tests, a.0) in
    let most : length ds.0 ≤ 1000 = grind (arith, nat_tests, b.0) in
    rw (← b.1) (least, most)

pub agents_few : (before : ℕ) (t : Table) (key : List ℕ) (v : List Data) → agent_list before t key ≡ Ok v → before + length v ≤ 10000
unfolding agent_list
agents_few before t key v e =
    let ds = parts _ _ _ e in
    let a = picked (nat_le (before + length ds.0) 10000) _ ds.0 v ds.2 in
    let most : before + length ds.0 ≤ 10000 = grind (arith, nat_tests, a.0) in
    rw (← a.1) most
