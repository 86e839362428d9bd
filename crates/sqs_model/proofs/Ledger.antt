-- What the rows of a run tell of one origin: which ids have it, how many of them ended, and whether it was accepted.
use Rattle.std.specs.List.{list_any}
use Rattle.std.specs.Prelude.{All, Bool, List, None, Option, Some, [], cond, false, true, ℕ, ◌&&◌, ◌+◌, ◌++◌, ◌==◌, ◌∷◌, ◌≡◌, ◌≤◌, ◌||◌}
use Rattle.std.proofs.Common.{ap, arith, refl, ◌∙◌}
use Rattle.std.proofs.Math.Bool.{or-false}
use Rattle.std.proofs.lemmas.List.Elements.{All-head, All-tail}
use Rattle.std.proofs.lemmas.List.Folds.{list_any-append}
use Rattle.sqs_message.specs.declared.ids.MessageId.{MessageId}
use Rattle.sqs_message.specs.declared.ids.Origin.{Origin}
use Rattle.sqs_message.specs.declared.row.Row.{Row}
use Rattle.sqs_model.specs.Accounts.{is_deleted, is_expired, is_first, same_id, same_origin, tells}
use Rattle.sqs_model.proofs.Counts.{total, total_push}

-- 1 for what holds, else 0
abbrev pub bit : Bool → ℕ
bit b = cond b 1 0

-- an id that may be absent, of a site and a number
abbrev pub id_at : ℕ → ℕ → Option MessageId
id_at site number = Some (record { site = site; number = number })

-- sums whose terms are the same
pub total_same : {A : Type 0} (f g : A → ℕ) (xs : List A) → All (λ x. f x ≡ g x) xs → total f xs ≡ total g xs
total_same f g [] h = refl
total_same f g (x ∷ xs) h =
    let k : f x ≡ g x = All-head (λ y. f y ≡ g y) x xs h in
    omega (arith, k, total_same f g xs (All-tail (λ y. f y ≡ g y) x xs h))

-- a number tested either way round
eqb_swap : (m n : ℕ) → (m == n) ≡ (n == m)
eqb_swap m n = grind (arith)

-- two ids tested either way round
pub same_id_swap : (a b : Option MessageId) → same_id a b ≡ same_id b a
same_id_swap None None = refl
same_id_swap None (Some b) = refl
same_id_swap (Some a) None = refl
same_id_swap (Some a) (Some b) = rw (eqb_swap a.site b.site, eqb_swap a.number b.number) refl

-- what a row that ends a message counts, where the message may have the origin or another
abbrev pub ends_by : Bool → Bool → Bool → ℕ
ends_by d e t = bit (d && t) + bit (e && t)

pub ends_same : (d e t u : Bool) → (d || e ≡ true → t ≡ u) → ends_by d e t ≡ ends_by d e u
ends_same true e t u h = rw (h refl) refl
ends_same false true t u h = rw (h refl) refl
ends_same false false t u h = refl

or_or_false : (x y : Bool) → y ≡ false → (x || (y || false)) ≡ x
or_or_false x y h = rw h (or-false x)

module _ (o : Origin) where
  -- whether some row gives an id the origin
  abbrev pub given_by : List Row → Option MessageId → Bool
  given_by rows id = list_any (λ r. tells o r && same_id r.message id) rows

  -- whether some row gives an id its own origin, as a number
  abbrev pub first_in : List Row → ℕ
  first_in rows = bit (list_any (is_first o) rows)

  -- what a row ends, by what all rows tell
  abbrev pub end_of : List Row → Row → ℕ
  end_of all r = ends_by (is_deleted r.answer) (is_expired r.answer) (given_by all r.message)

  -- how many messages of the origin ended
  abbrev pub ended : List Row → ℕ
  ended rows = total (end_of rows) rows

  -- whether a row gives or ends
  abbrev pub marks : Row → Bool
  marks r = tells o r || (is_deleted r.answer || is_expired r.answer)

  -- whether a row says nothing of a site's ids from a number on
  abbrev pub IsPast : ℕ → ℕ → Row → Type 0
  IsPast site n r = (k : ℕ) → n ≤ k → marks r ≡ true → same_id r.message (id_at site k) ≡ false

  -- a row that gives an id an origin
  pub record IsNews (r : Row) (site number : ℕ) (p : Origin) : Type 0 where
    pub told : tells o r ≡ same_origin o p
    pub message : r.message ≡ id_at site number
    pub lasts : (is_deleted r.answer || is_expired r.answer) ≡ false

  -- a row that ends a message
  pub record IsEnd (r : Row) (site number : ℕ) : Type 0 where
    pub silent : tells o r ≡ false
    pub message : r.message ≡ id_at site number
    pub once : (ends : Bool) → ends_by (is_deleted r.answer) (is_expired r.answer) ends ≡ bit ends

  -- one more row
  pub given_push : (rows : List Row) (r : Row) (id : Option MessageId) → (tells o r && same_id r.message id) ≡ false → given_by (rows ++ r ∷ []) id ≡ given_by rows id
  given_push rows r id h =
      list_any-append (λ x. tells o x && same_id x.message id) rows (r ∷ []) ∙ or_or_false (given_by rows id) (tells o r && same_id r.message id) h

  pub given_silent : (rows : List Row) (r : Row) (id : Option MessageId) → tells o r ≡ false → given_by (rows ++ r ∷ []) id ≡ given_by rows id
  given_silent rows r id h = given_push rows r id (ap (λ b. b && same_id r.message id) h)

  pub first_push : (rows : List Row) (r : Row) → is_first o r ≡ false → first_in (rows ++ r ∷ []) ≡ first_in rows
  first_push rows r h = ap bit (list_any-append (is_first o) rows (r ∷ []) ∙ or_or_false (list_any (is_first o) rows) (is_first o r) h)

  pub first_or : (rows : List Row) (r : Row) → first_in (rows ++ r ∷ []) ≡ bit (list_any (is_first o) rows || is_first o r)
  first_or rows r = ap bit (list_any-append (is_first o) rows (r ∷ []) ∙ ap (λ b. list_any (is_first o) rows || b) (or-false (is_first o r)))

  pub first_silent : (rows : List Row) (r : Row) → tells o r ≡ false → first_in (rows ++ r ∷ []) ≡ first_in rows
  first_silent rows r h = first_push rows r (ap (λ b. b && same_id r.message (id_at o.site o.number)) h)

  pub ended_push :
      (rows : List Row) (r : Row) → All (λ x. end_of (rows ++ r ∷ []) x ≡ end_of rows x) rows
      → ended (rows ++ r ∷ []) ≡ ended rows + end_of (rows ++ r ∷ []) r
  ended_push rows r h =
      omega (arith, total_push (end_of (rows ++ r ∷ [])) rows r, total_same (end_of (rows ++ r ∷ [])) (end_of rows) rows h)
