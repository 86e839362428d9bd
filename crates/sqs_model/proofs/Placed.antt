-- Places in lists, and the messages that they choose.
use Rattle.std.proofs.Common.{◌≡◌, ℕ, ◌+◌, ◌<◌, List, ◌∷◌, Some, drop, get_or, length, map, ap, sym, ◌∙◌}
use Rattle.std.specs.Prelude.{All, slice_get}
use Rattle.std.proofs.lemmas.List.{drop_more, length-map}
use Rattle.sqs_message.specs.declared.message.Message.{Message}
use Rattle.sqs_model.specs.Available.{at_places}

-- what is left from a place on
pub rest_at : {A : Type 0} (xs : List A) (i : ℕ) (x : A) → i < length xs → x ≡ get_or xs i x → drop i xs ≡ x ∷ drop (i + 1) xs
rest_at xs i x l e = drop_more xs i x l ∙ ap (λ y. y ∷ drop (i + 1) xs) (sym e)

-- there are as many places as messages
pub as_many : (records ms : List Message) (places : List ℕ) → map (slice_get records) places ≡ map Some ms → length places ≡ length ms
as_many records ms places e = sym (length-map places (slice_get records)) ∙ ap length e ∙ length-map ms Some

-- what places of messages choose, and that they are within the list
pub record IsChoice (records : List Message) (places : List ℕ) (ms : List Message) : Type 0 where
  pub chosen : at_places records places ≡ ms
  pub within : All (λ place. place < length records) places
