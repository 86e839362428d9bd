-- The keys of a table, in their order.
use Rattle.std.proofs.Common.{◌≡◌, ℕ, Bool, true, false, Bor, List, [], ◌∷◌, map, filter, flat_map, not, String, Global, string_bytes, refl, ap, sym, ◌∙◌, ◌||◌}
use Rattle.std.specs.List.{list_any}
use Rattle.std.proofs.lemmas.List.Folds.{list_any-append}
use Rattle.std.specs.Map.{keys_of}
use Rattle.std.specs.Str.{bytes_eq}
use Rattle.toml.specs.View.{members_view}
use Rattle.toml.specs.declared.value.Value.{Value}
use Rattle.sqs_formats.specs.Keys.{is_among, keys_in}

-- the keys that are not among these
abbrev pub unknown : List (List ℕ) → List (List ℕ) → List (List ℕ)
unknown known keys = filter (λ key. not (is_among known key)) keys

pub any-map : {X Y : Type 0} (p : Y → Bool) (f : X → Y) (xs : List X) → list_any p (map f xs) ≡ list_any (λ x. p (f x)) xs
any-map p f [] = refl
any-map p f (x ∷ xs) = ap (λ b. p (f x) || b) (any-map p f xs)

-- the names of some lists
abbrev pub names_of : List (Bor (List (Bor (List ℕ)))) → List (List ℕ)
names_of known = flat_map (λ ks. map (λ k. k.now) ks.now) known

-- a key is among all names where it is in one of the lists
pub any-names : (p : List ℕ → Bool) (known : List (Bor (List (Bor (List ℕ))))) → list_any p (names_of known) ≡ list_any (λ ks. list_any (λ k. p k.now) ks.now) known
any-names p [] = refl
any-names p (ks ∷ more) =
    let names : List (List ℕ) = map (λ k. k.now) ks.now in
    list_any-append p names (names_of more) ∙ ap (λ b. b || list_any p (names_of more)) (any-map p (λ k. k.now) ks.now)
    ∙ ap (λ b. list_any (λ k. p k.now) ks.now || b) (any-names p more)

pub keys_in-view : (es : List (String Global × Value)) → keys_in (members_view es) ≡ map string_bytes (keys_of es)
keys_in-view [] = refl
keys_in-view (e ∷ es) = ap (λ ks. string_bytes e.0 ∷ ks) (keys_in-view es)

-- what the test of a key says
pub known_here : (known : List (Bor (List (Bor (List ℕ))))) (key shown : List ℕ) (b c : Bool) → shown ≡ key
    → b ≡ list_any (λ ks. list_any (λ k. bytes_eq k.now shown) ks.now) known → b ≡ c → is_among (names_of known) key ≡ c
known_here known key shown b c same test is = any-names (λ k. bytes_eq k key) known ∙ rw same at (sym test) ∙ is

-- a key that is known, and one that is not
pub step_known : (known : List (List ℕ)) (key : List ℕ) (keys : List (List ℕ)) → is_among known key ≡ true → unknown known (key ∷ keys) ≡ unknown known keys
step_known known key keys e = rw e

pub step_unknown : (known : List (List ℕ)) (key : List ℕ) (keys : List (List ℕ)) → is_among known key ≡ false → unknown known (key ∷ keys) ≡ key ∷ unknown known keys
step_unknown known key keys e = rw e
