-- What is left: the final queues have just the messages that came and have not left, as the rows tell of them.
use Rattle.sqs_laws.proofs.Terms.{after, All-append, All-head, All-map, All-nil, All-tail, All-weaker, Climbs, delivered, delivered_one, either, enumerate_from, eqb-false, eqb-true, final_message, handled, handled_among, handled_here, handled_there, has_number, id_of, is_due, IsQueueSettings, IsRunOf, Key, least_due, length-map, map-append, Message, MessageId, messages_at, next_due, number_of, numbered, opening, opening_site, Outbound, Queue, range_with_len, Row, Run, Scenario, Site, Stepped, stepped_at}
use Rattle.std.specs.Prelude.{All, Bool, List, None, Option, Some, [], cond, false, filter, flat_map, is_none, is_some, length, map, not, suc, true, zero, ℕ, ◌+◌, ◌++◌, ◌<◌, ◌==◌, ◌∷◌, ◌≡◌, ◌≤◌}
use Rattle.std.proofs.Common.{ap, arith, refl, subst, sym, ◌∙◌}
use Rattle.std.proofs.lemmas.List.FromFn.{length-enumerate_from}
use Rattle.sqs_model.specs.declared.finals.FinalMessage.{FinalMessage}
use Rattle.sqs_model.specs.Finals.{finals_of}
use Rattle.sqs_model.specs.Queue.{is_in_flight as flies_there}
use Rattle.sqs_laws.specs.Laws.{WhatIsLeft}
use Rattle.sqs_laws.specs.Words.{flying, has_left, is_in_flight, origin_of, that_stay, times}
use Rattle.sqs_laws.proofs.End as end
use Rattle.sqs_laws.proofs.Flights as fly
use Rattle.sqs_laws.proofs.Letters as letters
use Rattle.sqs_laws.proofs.Moves.{IsStocked}
use Rattle.sqs_laws.proofs.Numbers.{found_all, found_by, none_below}
use Rattle.sqs_laws.proofs.Slots.{of_there}
use Rattle.sqs_laws.proofs.Worlds.{AreNumbered, IsGood, RowLaw, both, every_site, traces}
use Rattle.sqs_laws.proofs.Traces.{traced_of}

-- a run has as many sites at its end as at its opening
pub same_among : (key : Key) (sites : List Site) → length (handled_among key sites).sites ≡ length sites
same_among key [] = refl
same_among key (s ∷ ss) =
    either (λ (t : Stepped). length t.sites ≡ suc (length ss)) (is_due key (least_due s)) (handled_here (handled key s) ss)
    (handled_there s (handled_among key ss)) refl (ap suc (same_among key ss))

pub same_delivered : (os : List Outbound) (sites : List Site) → length (delivered os sites) ≡ length sites
same_delivered [] sites = refl
same_delivered (o ∷ os) sites = same_delivered os (map (delivered_one o) sites) ∙ length-map sites (delivered_one o)

same_stepped : (r : Run) (due : Option Key) → length (stepped_at r due).sites ≡ length r.sites
same_stepped r None = refl
same_stepped r (Some key) = let t : Stepped = handled_among key r.sites in same_delivered t.sent t.sites ∙ same_among key r.sites

same_after : (horizon n : ℕ) (start : List Site) → length (after horizon n start).sites ≡ length start
same_after horizon zero start = refl
same_after horizon (suc n) start =
    let r : Run = after horizon n start in same_stepped r (next_due horizon r.sites) ∙ same_after horizon n start

pub all_sites : (s : Scenario) (r : Run) → IsRunOf s r → length r.sites ≡ length s.queues
all_sites s r is =
    let many : length (after s.horizon is.steps (opening s)).sites ≡ length s.queues =
    same_after s.horizon is.steps (opening s) ∙ length-map (enumerate_from 0 s.queues) (opening_site s) ∙ length-enumerate_from 0 s.queues in
    subst (λ (x : Run). length x.sites ≡ length s.queues) is.reached many

-- the numbers from one on at which there is a message are those of the messages, if these go up from there
module _ (q : Queue) (g : MessageId → Bool) where
  abbrev pub id : ℕ → MessageId
  id i = record { site = q.site; number = i }

  abbrev pub Agrees : ℕ → ℕ → List Message → Type 0
  Agrees low many ms = (i : ℕ) → low ≤ i → i < low + many → g (id i) ≡ is_some (numbered i ms)

  kept_at : (b : Bool) (many low : ℕ) → g (id low) ≡ b → filter g (map id (range_with_len low (suc many))) ≡ cond b (id low ∷ filter g (map id (range_with_len (low + 1) many))) (filter g (map id (range_with_len (low + 1) many)))
  kept_at true many low e = rw e refl
  kept_at false many low e = rw e refl

  -- that this is so
  abbrev pub Stays : ℕ → ℕ → Type 0
  Stays low many = (ms : List Message) → Climbs low ms → All (λ m. m.number < low + many) ms → Agrees low many ms → map (λ m. id_of q m.number) ms ≡ filter g (map id (range_with_len low many))

  fewer : (many low : ℕ) (ms : List Message) → All (λ m. m.number < low + suc many) ms → All (λ m. m.number < low + 1 + many) ms
  fewer many low ms l = All-weaker (λ m. m.number < low + suc many) (λ m. m.number < low + 1 + many) (λ m k. omega (arith, k)) ms l

  stays_at : (b : Bool) (many low : ℕ) (m : Message) (ms : List Message) → Stays (low + 1) many → Climbs low (m ∷ ms) → All (λ x. x.number < low + suc many) (m ∷ ms) → Agrees low (suc many) (m ∷ ms) → (m.number == low) ≡ b → map (λ x. id_of q x.number) (m ∷ ms) ≡ filter g (map id (range_with_len low (suc many)))
  stays_at true many low m ms on c l h e =
      let is : m.number ≡ low = eqb-true m.number low e in
      let kept : g (id low) ≡ true = h low (omega arith) (omega arith) ∙ found_by true low m ms e in
      let rest : map (λ x. id_of q x.number) ms ≡ filter g (map id (range_with_len (low + 1) many)) =
      on ms (subst (λ n. Climbs (n + 1) ms) is c.1) (fewer many low ms (All-tail (λ x. x.number < low + suc many) m ms l))
      (λ i a b. h i (omega (arith, a)) (omega (arith, b)) ∙ found_by false i m ms (let far : has_number i m ≡ false = grind (arith, is, a) in far)) in
      ap (λ n. id n ∷ map (λ x. id_of q x.number) ms) is ∙ ap (λ xs. id low ∷ xs) rest ∙ sym (kept_at true many low kept)
  stays_at false many low m ms on c l h e =
      let more : low + 1 ≤ m.number = grind (arith, eqb-false m.number low e, c.0) in
      let up : Climbs (low + 1) (m ∷ ms) = (more, c.1) in
      let none : g (id low) ≡ false = h low (omega arith) (omega arith) ∙ none_below low (m ∷ ms) up in
      on (m ∷ ms) up (fewer many low (m ∷ ms) l) (λ i a b. h i (omega (arith, a)) (omega (arith, b))) ∙ sym (kept_at false many low none)

  pub stays_from : (many low : ℕ) → Stays low many
  stays_from zero low [] c l h = refl
  stays_from zero low (m ∷ ms) c l h =
      let less : m.number < low + 0 = All-head (λ x. x.number < low + 0) m ms l in absurd (omega (arith, c.0, less))
  stays_from (suc many) low [] c l h =
      let none : g (id low) ≡ false = h low (omega arith) (omega arith) in
      stays_from many (low + 1) [] tt (fewer many low [] l) (λ i a b. h i (omega (arith, a)) (omega (arith, b))) ∙ sym (kept_at false many low none)
  stays_from (suc many) low (m ∷ ms) c l h = stays_at (m.number == low) many low m ms (stays_from many (low + 1)) c l h refl

pub from_none : (many : ℕ) (ms : List Message) → All (λ m. m.number < many) ms → All (λ m. m.number < 0 + many) ms
from_none many ms l = All-weaker (λ m. m.number < many) (λ m. m.number < 0 + many) (λ m k. omega (arith, k)) ms l

map_finals : (q : Queue) (ms : List Message) → map (λ (m : FinalMessage). m.id) (map (final_message q) ms) ≡ map (λ m. id_of q m.number) ms
map_finals q [] = refl
map_finals q (m ∷ ms) = ap (λ ids. id_of q m.number ∷ ids) (map_finals q ms)

not_none : (o : Option Message) → not (is_none o) ≡ is_some o
not_none None = refl
not_none (Some m) = refl

module _ (s : Scenario) (valid : All IsQueueSettings s.queues) where
  abbrev told : RowLaw s
  told = both s (both s (end.the_end s) (fly.flights s)) (both s (letters.letters s valid) (traces s))

  module _ (rows : List Row) where
    -- what the rows tell of a message that is left
    abbrev Flies : FinalMessage → Type 0
    Flies m = is_in_flight m.place ≡ flying m.id rows

    abbrev Received : FinalMessage → Type 0
    Received m = m.receives ≡ times m.id rows

    abbrev HasOrigin : FinalMessage → Type 0
    HasOrigin m = origin_of m.id rows ≡ Some m.origin

    -- each message of a site is told
    tells_all : (q : Queue) (Q : FinalMessage → Type 0) → IsStocked q → ((n : ℕ) (m : Message) → numbered n q.records ≡ Some m → n ≡ m.number → Q (final_message q m)) → All Q (map (final_message q) q.records)
    tells_all q Q k h = All-map Q (final_message q) q.records (found_all (λ m. Q (final_message q m)) 0 q.records k.ordered h)

    -- the messages of one site, and so of all
    site_ids : (x : Site) → IsGood s told rows x → map (λ (m : FinalMessage). m.id) (messages_at x) ≡ that_stay (number_of x.core) rows
    site_ids x g =
        let q : Queue = x.core.queue in
        let k : IsStocked q = g.order.stocked in
        let stays : (i : ℕ) → 0 ≤ i → i < 0 + q.arrivals → not (has_left (id_of q i) rows) ≡ is_some (numbered i q.records) =
        λ i a b. ap not (end.left_of s rows q g.holds.0.0.1 i (omega (arith, b))) ∙ not_none (numbered i q.records) in
        map_finals q q.records ∙ stays_from q (λ m. not (has_left m rows)) q.arrivals 0 q.records k.ordered (from_none q.arrivals q.records k.given_out) stays
        ∙ ap (λ n. filter (λ m. not (has_left m rows)) (map (id q (λ m. true)) (range_with_len 0 n))) (sym g.holds.0.0.0)

    all_ids : (n : ℕ) (sites : List Site) → All (IsGood s told rows) sites → AreNumbered n sites → map (λ (m : FinalMessage). m.id) (flat_map messages_at sites) ≡ flat_map (λ i. that_stay i rows) (range_with_len n (length sites))
    all_ids n [] g a = refl
    all_ids n (x ∷ xs) g a =
        map-append (λ (m : FinalMessage). m.id) (messages_at x) (flat_map messages_at xs)
        ∙ ap (λ ids. ids ++ map (λ (m : FinalMessage). m.id) (flat_map messages_at xs)) (site_ids x (All-head (IsGood s told rows) x xs g) ∙ ap (λ i. that_stay i rows) a.0)
        ∙ ap (λ ids. that_stay n rows ++ ids) (all_ids (n + 1) xs (All-tail (IsGood s told rows) x xs g) a.1)

    all_told : (Q : FinalMessage → Type 0) → ((x : Site) → IsGood s told rows x → (n : ℕ) (m : Message) → numbered n x.core.queue.records ≡ Some m → n ≡ m.number → Q (final_message x.core.queue m)) → (sites : List Site) → All (IsGood s told rows) sites → All Q (flat_map messages_at sites)
    all_told Q f [] g = All-nil Q
    all_told Q f (x ∷ xs) g =
        let one : IsGood s told rows x = All-head (IsGood s told rows) x xs g in
        All-append Q (messages_at x) (flat_map messages_at xs) (tells_all x.core.queue Q one.order.stocked (f x one)) (all_told Q f xs (All-tail (IsGood s told rows) x xs g))

  pub left_is_told : (r : Run) → IsRunOf s r → WhatIsLeft s r.rows (finals_of r.sites).messages
  unfolding finals_of
  left_is_told r is =
      let every = every_site s told r is in
      let rows : List Row = r.rows in
      record {
        messages = all_ids rows 0 r.sites every.0 every.1 ∙ ap (λ n. flat_map (λ i. that_stay i rows) (range_with_len 0 n)) (all_sites s r is);
        in_flight = all_told rows (Flies rows) (λ x g n m e o. let q : Queue = x.core.queue in sym (subst (λ j. flying (id_of q j) rows ≡ flies_there m) o (fly.flies_of s rows q g.holds.0.1 n m e))) r.sites every.0;
        received = all_told rows (Received rows) (λ x g n m e o. let q : Queue = x.core.queue in sym (subst (λ j. times (id_of q j) rows ≡ m.receives) o ((of_there s (letters.letter_law s valid) rows q g.holds.1.0 n m e).0))) r.sites every.0;
        origins = all_told rows (HasOrigin rows) (λ x g n m e o. let q : Queue = x.core.queue in subst (λ j. origin_of (id_of q j) rows ≡ Some m.origin) o (traced_of s rows q g.holds.1.1.1 n m e).origin) r.sites every.0;
      }
