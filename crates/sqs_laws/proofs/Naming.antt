-- Rows that name a message, and what one more row makes of its flight.
use Rattle.std.specs.Prelude.{Bool, List, None, Option, Some, [], cond, false, find, if◌then◌else◌, not, true, ◌&&◌, ◌++◌, ◌==◌, ◌∷◌, ◌≡◌, ◌≢◌, ◌||◌, All, slice_get, ℕ}
use Rattle.std.proofs.Common.{ap, inl, inr, refl, ◌∙◌, sym, subst}
use Rattle.sqs_laws.proofs.Terms.{All-get_or, and-false, eq-eqb, fold-append, get_or_from_slice_get, In, MessageId, ne_eqb, origin_in, Row, same_id, slice_get_within}
use Rattle.sqs_laws.specs.Words.{changed, flight, is_release, leaves, names, received, last_naming, origin_of, comes}

-- a row that names one message names no other
pub names_id : (m i : MessageId) (r : Row) → r.message ≡ Some i → names m r ≡ (m.site == i.site && m.number == i.number)
names_id m i r e = ap (same_id (Some m)) e

pub names_same : (m : MessageId) (r : Row) → r.message ≡ Some m → names m r ≡ true
names_same m r e = names_id m m r e ∙ (rw (eq-eqb m.site m.site refl, eq-eqb m.number m.number refl) refl)

pub names_other : (m i : MessageId) (r : Row) → r.message ≡ Some i → m.number ≢ i.number → names m r ≡ false
names_other m i r e d = names_id m i r e ∙ ap (λ b. (m.site == i.site) && b) (ne_eqb m.number i.number d) ∙ and-false (m.site == i.site)

-- the last row of some that names a message, with one more row
pub last_as : (such : Row → Bool) (m : MessageId) (rows : List Row) (r : Row) (b : Bool) → (such r && names m r) ≡ b → last_naming such m (rows ++ r ∷ []) ≡ (if b then Some r else last_naming such m rows)
last_as such m rows r b e =
    fold-append (λ t x. if such x && names m x then Some x else t) None rows (r ∷ [])
    ∙ ap (λ c. if c then Some r else last_naming such m rows) e

-- the origin of a message with one more row
pub origin_as : (m : MessageId) (rows : List Row) (r : Row) (b : Bool) → (comes r && names m r) ≡ b → origin_of m (rows ++ r ∷ []) ≡ (if b then origin_in r (Some m) else origin_of m rows)
origin_as m rows r b e =
    fold-append (λ o x. if comes x && names m x then origin_in x (Some m) else o) None rows (r ∷ [])
    ∙ ap (λ c. if c then origin_in r (Some m) else origin_of m rows) e

-- a row names no message of another queue
abbrev pub NamesOwn : Row → Type 0
NamesOwn r = (m : MessageId) → r.message ≡ Some m → m.site ≡ r.queue

-- a row of another queue names no message of this one
names_apart_by : (m : MessageId) (r : Row) (o : Option MessageId) → r.message ≡ o → NamesOwn r → r.queue ≢ m.site → names m r ≡ false
names_apart_by m r None e own d = ap (same_id (Some m)) e
names_apart_by m r (Some i) e own d =
    let far : m.site ≢ i.site = λ s. d (sym (own i e) ∙ sym s) in
    names_id m i r e ∙ ap (λ b. b && (m.number == i.number)) (ne_eqb m.site i.site far)

pub names_apart : (m : MessageId) (r : Row) → NamesOwn r → r.queue ≢ m.site → names m r ≡ false
names_apart m r own d = names_apart_by m r r.message refl own d

-- the flight of a message with one more row
abbrev pub flight_on : Bool → Bool → Bool → Option Row → Row → Option Row
flight_on named begins over f r = if not named then f else (if begins then Some r else (if over then None else f))

pub flight_push : (m : MessageId) (rows : List Row) (r : Row) → flight m (rows ++ r ∷ []) ≡ flight_on (names m r) (received r || changed r) (is_release r.kind || leaves r) (flight m rows) r
flight_push m rows r = fold-append (λ f x. flight_on (names m x) (received x || changed x) (is_release x.kind || leaves x) f x) None rows (r ∷ [])

-- it begins by a receive that names it; a row that names another leaves it
pub flight_begins : (m : MessageId) (rows : List Row) (r : Row) → r.message ≡ Some m → received r ≡ true → flight m (rows ++ r ∷ []) ≡ Some r
flight_begins m rows r e f = flight_push m rows r ∙ (rw (names_same m r e, f) refl)

pub flight_stays : (m : MessageId) (rows : List Row) (r : Row) → names m r ≡ false → flight m (rows ++ r ∷ []) ≡ flight m rows
flight_stays m rows r e = flight_push m rows r ∙ (rw e refl)

-- what is found is one of them
pub found_in : {A : Type 0} (p : A → Bool) (xs : List A) (y : A) → find p xs ≡ Some y → In xs y
found_in p [] y e = cc
found_in p (x ∷ xs) y e =
    elim (p x) as (λ b. cond b (Some x) (find p xs) ≡ Some y → In (x ∷ xs) y) [
      | true ↦ λ f. inl cc
      | false ↦ λ f. inr (found_in p xs y f)
    ] e

-- what holds of all holds of the one at a place
pub at_place : {A : Type 0} (P : A → Type 0) (xs : List A) (n : ℕ) (x : A) → All P xs → slice_get xs n ≡ Some x → P x
at_place P xs n x a e = subst P (get_or_from_slice_get xs n x x e) (All-get_or P xs n x (slice_get_within xs n x e) a)
