-- Lines that are added for one of a list after another.
use Rattle.std.proofs.Common.{Err, List, Ok, Result, [], ap, append-nil, flat_map, get_or, length, take, ℕ, ◌+◌, ◌++◌, ◌<◌, ◌∙◌, ◌∷◌, ◌≡◌}
use Rattle.std.specs.Result.{IfOk}
use Rattle.std.proofs.lemmas.Grind.{flat_map-append}
use Rattle.std.proofs.lemmas.List.{take_more}
use Rattle.sqs_formats.specs.Rows.{line, lines}

pub said_more : {X : Type 0} (f : X → List (List (List ℕ))) (xs : List X) (n : ℕ) (d : X) → n < length xs
    → lines (flat_map f (take (n + 1) xs)) ≡ lines (flat_map f (take n xs)) ++ lines (f (get_or xs n d))
said_more {X} f xs n d l =
    let x = get_or xs n d in
    ap (λ (ys : List X). lines (flat_map f ys)) (take_more xs n d l)
    ∙ ap lines (flat_map-append f (take n xs) (x ∷ []) ∙ ap (λ rows. flat_map f (take n xs) ++ rows) (append-nil (f x)))
    ∙ flat_map-append line (flat_map f (take n xs)) (f x)

pub if_ok : {V E : Type 0} (P Q : V → Type 0) → ((v : V) → P v → Q v) → (r : Result V E) → IfOk r P → IfOk r Q
if_ok P Q f (Ok v) h = f v h
if_ok P Q f (Err e) h = tt
