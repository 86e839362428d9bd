-- In flight: no message is received or moved that is in flight, and only such a message is changed or leaves for the dead-letter
-- queue.
use Rattle.std.specs.Prelude.{All, Bool, List, Some, [], false, slice_get, true, ℕ, ◌++◌, ◌<◌, ◌∷◌, ◌≡◌, ◌≤◌, ◌⊎◌, ◌||◌}
use Rattle.std.proofs.Common.{ap, arith, inl, inr, refl, subst, sym, true≢false, ◌∙◌}
use Rattle.sqs_laws.proofs.Terms.{id_of, in_flight, is_in_flight, IsQueueSettings, IsRunOf, Key, leb-true, Message, MessageId, Queue, QueueSettings, Row, RowKind, Run, Scenario}
use Rattle.sqs_message.specs.declared.row.RowKind.TheVariants as kinds
use Rattle.sqs_laws.specs.Laws.{InFlight}
use Rattle.sqs_laws.specs.Words.{changed, comings, flying, in_flight_at, is_move, is_redrive}
use Rattle.sqs_laws.specs.Words as words
use Rattle.sqs_laws.proofs.Calls.{visible_rests}
use Rattle.sqs_laws.proofs.End as end
use Rattle.sqs_laws.proofs.Letters as letter
use Rattle.sqs_laws.proofs.Limit.{flying_count, limits}
use Rattle.sqs_laws.proofs.Flights.{flies_of, flights}
use Rattle.sqs_laws.proofs.Moves.{does_keep, Keeps, Does, IsStocked, Move, Names, changes, comes, ends, receives, redrives, releases, stays}
use Rattle.sqs_laws.proofs.Slots.{of_there}
use Rattle.sqs_laws.proofs.Said.{none_leaves}
use Rattle.sqs_laws.proofs.Worlds.{RowLaw, both, every_row_by}

-- a redrive is no move
no_move : (k : RowKind) → is_redrive k ≡ true → is_move k ≡ false
no_move kinds.Move e = cc
no_move k e = refl

or_either : (a b : Bool) → (a || b) ≡ true → (a ≡ true) ⊎ (b ≡ true)
or_either true b e = inl refl
or_either false b e = inr e

module _ (s : Scenario) (v : All IsQueueSettings s.queues) where
  abbrev told : RowLaw s
  told = both s (letter.letters s v) (both s (end.the_end s) (both s (flights s) (limits s)))

  module _ (rows : List Row) (key : Key) (q : Queue) (r : Row) (p : Queue) (d : Move key q r p) (k : IsStocked q) (h : told.Holds rows q) where
    names_flight : (one : Message) (n : ℕ) (m : MessageId) (b : Bool) → Names key q r p one n → r.message ≡ Some m → is_in_flight one ≡ b → flying m rows ≡ b
    names_flight one n m b x e f =
        let i : id_of q n ≡ m = cc in
        subst (λ y. flying y rows ≡ b) i (flies_of s rows q h.1.1.0 n one x.there ∙ f)

    neither : words.received r ≡ false → is_move r.kind ≡ false → (words.received r || is_move r.kind) ≡ true → ⊥
    neither a b t = true≢false (sym t ∙ (rw (a, b) refl))

    none_changed : changed r ≡ false → is_redrive r.kind ≡ false → (changed r || is_redrive r.kind) ≡ true → ⊥
    none_changed a b t = true≢false (sym t ∙ (rw (a, b) refl))

    once_by : Does key q r p → (m : MessageId) → r.message ≡ Some m → (words.received r || is_move r.kind) ≡ true → flying m rows ≡ false
    once_by (receives x) m e t = names_flight x.one x.number m false x.names e (visible_rests x.one.place x.rested)
    once_by (ends x) m e t =
        elim (or_either (words.received r) (is_move r.kind) t) as (λ _. flying m rows ≡ false) [
          | inl y ↦ absurd (true≢false (sym y ∙ x.tells.received_so))
          | inr y ↦ names_flight x.one x.number m false x.names e (visible_rests x.one.place (x.rested y))
        ]
    once_by (redrives x) m e t = absurd (neither x.tells.received_so (no_move r.kind x.kind) t)
    once_by (stays x) m e t = absurd (neither x.tells.received_so (none_leaves r x.tells.leaves_so).1 t)
    once_by (comes x) m e t = absurd (neither x.tells.received_so (none_leaves r x.tells.leaves_so).1 t)
    once_by (changes x) m e t = absurd (neither x.tells.received_so (none_leaves r x.tells.leaves_so).1 t)
    once_by (releases x) m e t = absurd (neither x.tells.received_so (none_leaves r x.tells.leaves_so).1 t)

    -- a message that was received too often is in flight
    worn_flies : (b : Bool) (one : Message) (most : ℕ) → letter.IsWithin most one → most ≤ one.receives → is_in_flight one ≡ b → b ≡ true
    worn_flies true one most w l e = refl
    worn_flies false one most w l e = absurd (let f : one.receives < most = w.rested e in omega (arith, f, l))

    flies_by : Does key q r p → (m : MessageId) → r.message ≡ Some m → (changed r || is_redrive r.kind) ≡ true → flying m rows ≡ true
    flies_by (changes x) m e t = names_flight x.one x.number m true x.names e x.flies
    flies_by (redrives x) m e t =
        let least : x.policy.max_receives ≤ x.one.receives = leb-true x.policy.max_receives x.one.receives x.worn in
        names_flight x.one x.number m true x.names e (worn_flies (is_in_flight x.one) x.one x.policy.max_receives ((of_there s (letter.letter_law s v) rows q h.0 x.number x.one x.names.there).1 x.policy x.by) least refl)
    flies_by (ends x) m e t = absurd (none_changed x.tells.changed_so x.kind t)
    flies_by (stays x) m e t = absurd (none_changed x.tells.changed_so (none_leaves r x.tells.leaves_so).0 t)
    flies_by (comes x) m e t = absurd (none_changed x.tells.changed_so (none_leaves r x.tells.leaves_so).0 t)
    flies_by (receives x) m e t = absurd (none_changed x.tells.changed_so (none_leaves r x.tells.leaves_so).0 t)
    flies_by (releases x) m e t = absurd (none_changed x.tells.changed_so (none_leaves r x.tells.leaves_so).0 t)

    -- how many are in flight after it
    limit_by : told.Holds (rows ++ r ∷ []) p → (settings : QueueSettings) → slice_get s.queues r.queue ≡ Some settings → in_flight_at r.queue (rows ++ r ∷ []) ≤ settings.in_flight_limit
    limit_by j settings e =
        let all : List Row = rows ++ r ∷ [] in
        let keeps : Keeps q p = does_keep key q r p d.does k in
        let site : r.queue ≡ p.site = d.at_site ∙ keeps.site in
        let same : slice_get s.queues r.queue ≡ Some p.settings = ap (λ n. slice_get s.queues n) site ∙ j.0.settings in
        let is : settings ≡ p.settings = cc in
        let came : comings r.queue all ≡ p.arrivals = ap (λ n. comings n all) site ∙ j.1.0.0 in
        let counted : in_flight_at p.site all ≡ in_flight p = flying_count s all p keeps.stocked j.1.1.0 (sym (ap (λ n. comings n all) site) ∙ came) in
        let here : in_flight_at r.queue all ≡ in_flight_at p.site all = ap (λ n. in_flight_at n all) site in
        let most : p.settings.in_flight_limit ≡ settings.in_flight_limit = ap (λ (x : QueueSettings). x.in_flight_limit) (sym is) in
        omega (arith, here, counted, j.1.1.1, most)

  -- the law
  pub flights_are_told : (x : Run) → IsRunOf s x → InFlight s x.rows
  flights_are_told x is =
      record {
        once = every_row_by s told _ (λ rows key q r p now d g k h j. once_by rows key q r p d k h d.does) x is;
        flies = every_row_by s told _ (λ rows key q r p now d g k h j. flies_by rows key q r p d k h d.does) x is;
        limit = every_row_by s told _ (λ rows key q r p now d g k h j. limit_by rows key q r p d k h j) x is;
      }
