-- Lists whose items are no tables, one item after another.
use Rattle.std.proofs.Common.{◌≡◌, ℕ, ◌+◌, ◌<◌, ◌≤◌, List, [], ◌∷◌, ◌++◌, Ok, length, get_or, drop, map, length-append, refl, sym, append_assoc}
use Rattle.std.proofs.lemmas.List.{drop_more}
use Rattle.std.proofs.Math.ListN.{drop_of_length-le}
use Rattle.toml.specs.View.{view}
use Rattle.toml.specs.declared.value.Value.{Value}
use Rattle.sqs_formats.specs.Reading.{and_then}
use Rattle.sqs_formats.specs.Keys.{KeyType, Table, item_place, place_of}
use Rattle.sqs_formats.specs.Lists.{items}
use Rattle.sim_scenario.specs.Gives.{Fails}
use Rattle.sim_scenario.specs.declared.fault.ReadError.{ReadError}
use Rattle.sim_scenario.proofs.ListItems.{fails_first}

-- the place of an item of a list at a key
pub place_in : (t : Table) (key : List ℕ) (n : ℕ) → place_of t (item_place key n) ≡ item_place (place_of t key) n
place_in t key n = sym (append_assoc t.prefix key _)

-- an item that is read
pub next_item : {X : Type 0} (type : List X → KeyType X) (place : List ℕ) (vs : List Value) (i : ℕ) (v : Value) (xs : List X) (x : X) → i < length vs → get_or vs i v ≡ v → length xs ≡ i
    → type xs (item_place place i) (view v) ≡ Ok x → items type place xs (map view (drop i vs)) ≡ items type place (xs ++ (x ∷ [])) (map view (drop (i + 1) vs))
unfolding and_then
next_item type place vs i v xs x within here count ok = rw (drop_more vs i v within, here, count, ok) refl

-- an item that has a fault
pub item_faulty : {X : Type 0} (type : List X → KeyType X) (place : List ℕ) (vs : List Value) (i : ℕ) (v : Value) (xs : List X) (e : ReadError) → i < length vs → get_or vs i v ≡ v → length xs ≡ i
    → Fails e (type xs (item_place place i) (view v)) → Fails e (items type place xs (map view (drop i vs)))
item_faulty type place vs i v xs e within here count h = rw (drop_more vs i v within, here, count) (fails_first e _ _ h)

-- all items are read
pub all_items : {X : Type 0} (type : List X → KeyType X) (place : List ℕ) (vs : List Value) (i : ℕ) (xs : List X) → length vs ≤ i → items type place xs (map view (drop i vs)) ≡ Ok xs
all_items type place vs i xs h = rw (drop_of_length-le vs h) refl

-- the number of items that were read
pub one_more : {X : Type 0} (xs : List X) (x : X) (i : ℕ) → length xs ≡ i → length (xs ++ (x ∷ [])) ≡ i + 1
one_more xs x i e = rw (length-append xs (x ∷ []), e) refl
