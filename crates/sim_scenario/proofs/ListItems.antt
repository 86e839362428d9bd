-- Items of a list, one by one.
use Rattle.std.proofs.Common.{◌≡◌, ℕ, ◌+◌, ◌<◌, ◌≤◌, List, [], ◌∷◌, ◌++◌, Ok, length, get_or, drop, map, refl, ap, append-nil, append_assoc, sym}
use Rattle.std.proofs.lemmas.List.{drop_more}
use Rattle.std.proofs.Math.ListN.{drop_of_length-le}
use Rattle.toml.specs.Data.{as_table}
use Rattle.toml.specs.View.{view, items_view}
use Rattle.toml.specs.declared.value.Value.{Value}
use Rattle.sqs_formats.specs.Reading.{and_then}
use Rattle.sqs_formats.proofs.Readings.{behind, behind_more}
use Rattle.sqs_formats.specs.Keys.{Says, Table, each, in_order, item_place, item_table, text_in}
use Rattle.sim_scenario.specs.Gives.{Fails}
use Rattle.sim_scenario.specs.declared.fault.ReadError.{ReadError}
use Rattle.sim_scenario.specs.declared.fault.ReadError.TheVariants as errors

-- the items of an array, in their order
pub in_order_is : (vs : List Value) → in_order (items_view vs) ≡ map view vs
in_order_is [] = refl
in_order_is (v ∷ vs) = ap (λ ds. view v ∷ ds) (in_order_is vs)

-- an item that is read
pub item_read : {X : Type 0} (key : List ℕ) (read : ℕ → Table → Says X) (vs : List Value) (i : ℕ) (v : Value) (xs : List X) (t : Table) (x : X) → i < length vs → get_or vs i v ≡ v
    → item_table (item_place key i) (as_table (view v)) ≡ Ok t → read i t ≡ Ok x
    → behind xs (each key read i (map view (drop i vs))) ≡ behind (xs ++ (x ∷ [])) (each key read (i + 1) (map view (drop (i + 1) vs)))
unfolding and_then
item_read key read vs i v xs t x within here table ok = rw (drop_more vs i v within, here, table, ok) (behind_more xs x (each key read (i + 1) (map view (drop (i + 1) vs))))

-- a part that has a fault
pub fails_first : {X Y : Type 0} (e : ReadError) (part : Says X) (rest : X → Says Y) → Fails e part → Fails e (and_then part rest)
unfolding and_then
fails_first errors.Memory part rest h = tt
fails_first (errors.Fault f) part rest h = rw h refl

-- an item that is no table, and one that has a fault
pub no_table : {X : Type 0} (key : List ℕ) (read : ℕ → Table → Says X) (vs : List Value) (i : ℕ) (v : Value) (xs : List X) (e : ReadError) → i < length vs → get_or vs i v ≡ v
    → Fails e (item_table (item_place key i) (as_table (view v))) → Fails e (behind xs (each key read i (map view (drop i vs))))
no_table key read vs i v xs e within here h = rw (drop_more vs i v within, here) (fails_first e _ (λ ys. Ok (xs ++ ys)) (fails_first e _ _ h))

pub item_fails : {X : Type 0} (key : List ℕ) (read : ℕ → Table → Says X) (vs : List Value) (i : ℕ) (v : Value) (xs : List X) (t : Table) (e : ReadError) → i < length vs → get_or vs i v ≡ v
    → item_table (item_place key i) (as_table (view v)) ≡ Ok t → Fails e (read i t) → Fails e (behind xs (each key read i (map view (drop i vs))))
unfolding and_then
item_fails key read vs i v xs t e within here table h = rw (drop_more vs i v within, here, table) (fails_first e _ (λ ys. Ok (xs ++ ys)) (fails_first e _ _ h))

-- all items are read
pub items_end : {X : Type 0} (key : List ℕ) (read : ℕ → Table → Says X) (vs : List Value) (i : ℕ) (xs : List X) → length vs ≤ i → behind xs (each key read i (map view (drop i vs))) ≡ Ok xs
unfolding and_then
items_end key read vs i xs h = rw (drop_of_length-le vs h) (ap Ok (append-nil xs))

-- an item whose text stands behind others
pub text_read : (key : List ℕ) (vs : List Value) (i : ℕ) (v : Value) (texts : List (List ℕ)) (s : List ℕ) → i < length vs → get_or vs i v ≡ v → s ≡ text_in key (view v)
    → texts ++ map (text_in key) (map view (drop i vs)) ≡ (texts ++ s ∷ []) ++ map (text_in key) (map view (drop (i + 1) vs))
text_read key vs i v texts s within here e = rw (drop_more vs i v within, here, e) (sym (append_assoc texts (text_in key (view v) ∷ []) _))
