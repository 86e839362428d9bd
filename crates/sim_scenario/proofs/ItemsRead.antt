-- What is read at the keys of an item, and of all items of a list.
use Rattle.std.proofs.Common.{◌≡◌, ℕ, ◌+◌, codes, List, [], ◌∷◌, map, Option, Some, None, Ok, refl, subst, ap, sym, ◌∙◌}
use Rattle.std.specs.List.{enumerate_from}
use Rattle.std.specs.Prelude.{All}
use Rattle.std.proofs.lemmas.List.Elements.{All-cons, All-nil}
use Rattle.toml.specs.Data.{Data, Members, as_str, as_table, get_member}
use Rattle.sqs_formats.specs.Keys.{Says, Table, at, each, item_place, item_table, members_or_none, text, text_in, text_or_none, text_when, typed}
use Rattle.sqs_formats.proofs.Readings.{parts, same_ok}

-- a text that is read is that of the value
pub text_is : (place : List ℕ) (d : Data) (s : List ℕ) → text place d ≡ Ok s → text_when (Some d) ≡ s
text_is place d s e = typed_text place (as_str d) s e
  where
    typed_text : (place : List ℕ) (o : Option (List ℕ)) (s : List ℕ) → typed place o ≡ Ok s → text_or_none o ≡ s
    typed_text place None s e = cc e
    typed_text place (Some x) s e = same_ok _ _ e

-- the keys of an item are those of its table
pub item_members : (place : List ℕ) (o : Option Members) (t : Table) → item_table place o ≡ Ok t → t.members ≡ members_or_none o
item_members place None t e = cc e
item_members place (Some ms) t e = ap (λ (t : Table). t.members) (sym (same_ok _ _ e))

pub item_text : (key place : List ℕ) (d : Data) (t : Table) → item_table place (as_table d) ≡ Ok t → text_when (at t key) ≡ text_in key d
item_text key place d t e = ap (λ (ms : Members). text_when (get_member key ms)) (item_members place (as_table d) t e)

-- the names of all items
pub each_named : {X : Type 0} (key : List ℕ) (read : ℕ → Table → Says (List ℕ × X)) (n : ℕ) (ds : List Data) (xs : List (List ℕ × X))
    → ((n : ℕ) (t : Table) (x : List ℕ × X) → read n t ≡ Ok x → x.0 ≡ text_when (at t (codes "name"))) → each key read n ds ≡ Ok xs
    → map (λ x. x.0) xs ≡ map (text_in (codes "name")) ds
each_named key read n [] xs h e = rw (← same_ok _ _ e) refl
each_named key read n (d ∷ ds) xs h e =
    let t = parts _ _ _ e in
    let x = parts _ _ _ t.2 in
    let rest = parts _ _ _ x.2 in
    let name = h n t.0 x.0 x.1 ∙ item_text (codes "name") (item_place key n) d t.0 t.1 in
    rw (← same_ok _ _ rest.2, name, each_named key read (n + 1) ds rest.0 h rest.1) refl

-- what holds of each item by its number, read in two ways
pub each_both : {X Y Z : Type 0} (P : ℕ → Z → Type 0) (f : X → Z) (shift : ℕ → ℕ) (key : List ℕ) (read : ℕ → Table → Says X) (check : ℕ → Table → Says Y) (n : ℕ) (ds : List Data) (xs : List X) (ys : List Y)
    → ((n : ℕ) → shift (n + 1) ≡ shift n + 1) → ((n : ℕ) (t : Table) (x : X) (y : Y) → read n t ≡ Ok x → check n t ≡ Ok y → P (shift n) (f x))
    → each key read n ds ≡ Ok xs → each key check n ds ≡ Ok ys → All (λ p. P p.0 p.1) (enumerate_from (shift n) (map f xs))
each_both {Z = Z} P f shift key read check n [] xs ys steps h e k = rw (← same_ok _ _ e) (All-nil (λ (p : ℕ × Z). P p.0 p.1))
each_both {X = X} {Y = Y} {Z = Z} P f shift key read check n (d ∷ ds) xs ys steps h e k =
    let t = parts _ _ _ e in
    let x = parts _ _ _ t.2 in
    let rest = parts _ _ _ x.2 in
    let u = parts _ _ _ k in
    let y = parts _ _ _ u.2 in
    let others = parts _ _ _ y.2 in
    let same : t.0 ≡ u.0 = same_ok _ _ (sym t.1 ∙ u.1) in
    let here = h n t.0 x.0 y.0 x.1 (rw same y.1) in
    let more = each_both {X = X} {Y = Y} {Z = Z} P f shift key read check (n + 1) ds rest.0 others.0 steps h rest.1 others.1 in
    let behind = subst (λ (m : ℕ). All (λ (p : ℕ × Z). P p.0 p.1) (enumerate_from m (map f rest.0))) (steps n) more in
    rw (← same_ok _ _ rest.2) (All-cons (λ (p : ℕ × Z). P p.0 p.1) (shift n, f x.0) (enumerate_from (shift n + 1) (map f rest.0)) here behind)

-- the same of one reading, whose items are numbered behind others
pub each_numbered : {X Z : Type 0} (P : ℕ → Z → Type 0) (f : X → Z) (shift : ℕ → ℕ) (first : ℕ) (key : List ℕ) (read : ℕ → Table → Says X) (ds : List Data) (xs : List X)
    → shift 0 ≡ first → ((n : ℕ) → shift (n + 1) ≡ shift n + 1) → ((n : ℕ) (t : Table) (x : X) → read n t ≡ Ok x → P (shift n) (f x))
    → each key read 0 ds ≡ Ok xs → All (λ p. P p.0 p.1) (enumerate_from first (map f xs))
each_numbered {X = X} {Z = Z} P f shift first key read ds xs start steps h e =
    subst (λ (m : ℕ). All (λ (p : ℕ × Z). P p.0 p.1) (enumerate_from m (map f xs))) start (each_both {X = X} {Y = X} {Z = Z} P f shift key read read 0 ds xs xs steps (λ n t x y e k. h n t x e) e e)
