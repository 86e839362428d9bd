-- Which messages are in flight, by the rows so far.
use Rattle.std.specs.Prelude.{Bool, List, None, Some, [], false, is_some, nat_lt, true, ℕ, ◌++◌, ◌∷◌, ◌≡◌, ◌||◌}
use Rattle.std.proofs.Common.{ap, refl, sym, ◌∙◌}
use Rattle.sqs_laws.proofs.Terms.{id_of, is_in_flight, Message, MessageId, numbered, Queue, Row, Scenario}
use Rattle.sqs_laws.specs.Words.{changed, flight, flying, is_release, leaves, names}
use Rattle.sqs_laws.specs.Words as words
use Rattle.sqs_laws.proofs.Moves.{waits_rest, Tells}
use Rattle.sqs_laws.proofs.Naming.{flight_on, flight_push, flight_stays}
use Rattle.sqs_laws.proofs.Said.{names_same}
use Rattle.sqs_laws.proofs.Slots.{Holds, MessageLaw, Slot, by_messages, of_there, slot_of, there}
use Rattle.sqs_laws.proofs.Worlds.{RowLaw}

flight_as : (m : MessageId) (rows : List Row) (r : Row) (a b c : Bool) → names m r ≡ a → (words.received r || changed r) ≡ b → (is_release r.kind || leaves r) ≡ c → flight m (rows ++ r ∷ []) ≡ flight_on a b c (flight m rows) r
flight_as m rows r a b c e f g =
    flight_push m rows r ∙ ap (λ x. flight_on x (words.received r || changed r) (is_release r.kind || leaves r) (flight m rows) r) e
    ∙ ap (λ x. flight_on a x (is_release r.kind || leaves r) (flight m rows) r) f ∙ ap (λ x. flight_on a b x (flight m rows) r) g

flight_still : (b : Bool) (m : MessageId) (rows : List Row) (r : Row) → names m r ≡ b → (words.received r || changed r) ≡ false → (is_release r.kind || leaves r) ≡ false → flight m (rows ++ r ∷ []) ≡ flight m rows
flight_still true m rows r e f g = flight_as m rows r true false false e f g
flight_still false m rows r e f g = flight_stays m rows r e

pub flight_quiet : (rows : List Row) (r : Row) (i : MessageId) (c : Bool) → Tells r c false false false false → flight i (rows ++ r ∷ []) ≡ flight i rows
flight_quiet rows r i c t = flight_still (names i r) i rows r refl (rw (t.received_so, t.changed_so) refl) (rw (t.released_so, t.leaves_so) refl)

-- it begins to fly by a row, or flies no more
pub flight_now : (rows : List Row) (r : Row) (i : MessageId) → r.message ≡ Some i → (words.received r || changed r) ≡ true → flight i (rows ++ r ∷ []) ≡ Some r
flight_now rows r i e f = flight_as i rows r true true (is_release r.kind || leaves r) (names_same i r e) f refl

pub flight_over : (rows : List Row) (r : Row) (i : MessageId) → r.message ≡ Some i → (words.received r || changed r) ≡ false → (is_release r.kind || leaves r) ≡ true → flight i (rows ++ r ∷ []) ≡ None
flight_over rows r i e a b = flight_as i rows r true false true (names_same i r e) a b

-- what the rows so far say of a queue: those of its messages that fly are in flight, and none flies that is not there
abbrev pub flies : Slot → Bool
flies (there m) = is_in_flight m
flies x = false

abbrev pub flight_law : (s : Scenario) → MessageLaw s
flight_law s =
    record {
      Said = λ q rows i x. flying i rows ≡ flies x;
      opens = λ q i. refl;
      other = λ q rows r i x e h. ap is_some (flight_stays i rows r e) ∙ h;
      stays = λ rows key q r p a t n e x y h. ap is_some (flight_quiet rows r (id_of q n) false t) ∙ h;
      comes = λ rows key q r p a d e h. ap is_some (flight_quiet rows r (id_of q q.arrivals) true d.tells) ∙ h ∙ sym (waits_rest key.at d.delay d.one d.waits);
      receives = λ rows key q r p a d e h. ap is_some (flight_now rows r (id_of q d.number) d.names.message (rw d.tells.received_so refl));
      changes = λ rows key q r p a d h. ap is_some (flight_now rows r (id_of q d.number) d.names.message (rw (d.tells.received_so, d.tells.changed_so) refl));
      releases = λ rows key q r p a d h. ap is_some (flight_over rows r (id_of q d.number) d.names.message (rw (d.tells.received_so, d.tells.changed_so) refl) (rw d.tells.released_so refl));
      leaves = λ rows key q r p a t one n d h. ap is_some (flight_over rows r (id_of q n) d.message (rw (t.received_so, t.changed_so) refl) (rw (t.released_so, t.leaves_so) refl));
    }

-- the law that the rows say which messages are in flight
abbrev pub flights : (s : Scenario) → RowLaw s
flights s = by_messages s (flight_law s)

abbrev pub Says : (s : Scenario) → List Row → Queue → Type 0
Says s rows q = Holds s (flight_law s) rows q

pub flies_of : (s : Scenario) (rows : List Row) (q : Queue) → Says s rows q → (n : ℕ) (m : Message) → numbered n q.records ≡ Some m → flying (id_of q n) rows ≡ is_in_flight m
flies_of s rows q h n m e = of_there s (flight_law s) rows q h n m e

rests_by : (b : Bool) → flies (slot_of None b) ≡ false
rests_by true = refl
rests_by false = refl

pub rests_of : (s : Scenario) (rows : List Row) (q : Queue) → Says s rows q → (n : ℕ) → numbered n q.records ≡ None → flying (id_of q n) rows ≡ false
rests_of s rows q h n e = h.each n ∙ ap (λ o. flies (slot_of o (nat_lt n q.arrivals))) e ∙ rests_by (nat_lt n q.arrivals)
