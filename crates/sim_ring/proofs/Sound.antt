-- A ring is a sound setting, so every run of it comes to its run on one list.
use Rattle.std.specs.List.{range_with_len}
use Rattle.std.specs.Prelude.{All, List, [], map, suc, zero, ℕ, ◌+◌, ◌<◌, ◌∷◌, ◌≡◌, ◌≤◌}
use Rattle.std.proofs.Common.{ap, arith, inl, inr, refl}
use Rattle.std.proofs.Math.Nat.{eq-or-lt_of_le}
use Rattle.std.proofs.lemmas.List.Elements.{All-cons, All-nil}
use Rattle.sim_clock.specs.declared.key.Key.{Key}
use Rattle.sim_clock.specs.Order.{IsInOrder, key_cmp, key_cmp_total, same_key}
use Rattle.sim_clock.proofs.Inserted.{ordered_inserted, ordered_without}
use Rattle.sim_engine.specs.Laws.{IsSentBy, IsSoundSetting, RunLaws}
use Rattle.sim_engine.specs.Members.{Each, In}
use Rattle.sim_engine.specs.Setting.{IsNumbered, Setting}
use Rattle.sim_engine.specs.Simulated.{IsSimulated}
use Rattle.sim_engine.specs.declared.edge.Edge.{Edge}
use Rattle.sim_engine.proofs.Simulated.{simulated}
use Rattle.sim_ring.specs.declared.counter.Counter.{Counter}
use Rattle.sim_ring.specs.declared.counter.Token.{Token}
use Rattle.sim_ring.specs.Opening.{opening_counter, ring_setting, way_from}
use Rattle.sim_ring.specs.Ring.{handed_on, ring, ring_conditions}
use Rattle.sim_ring.specs.Laws.{ring_laws}
use Rattle.sim_ring.specs.Keys.{without_in}

-- a counter is at home at itself
abbrev home : ℕ → ℕ
home n = n

module _ (edges : List Edge) where
  -- a counter that a run over some ways comes to: tokens are kept in order, and handed on along one of the ways
  pub record IsFine (c : Counter) : Type 0 where
    pub sorted : IsInOrder key_cmp c.arriving
    pub takes_time : 1 ≤ c.way
    pub leads : In edges (record { from = c.number; to = c.next; least = c.way })

  -- any token fits
  abbrev Fits : Token → Type 0
  Fits o = Unit {0}

  -- what it hands on goes along its way, and takes as long as that says
  sent_along : (key : Key) (c : Counter) → IsFine c → IsSentBy ring edges home key c.number (handed_on key c)
  sent_along key c h =
      record {
        sender = refl;
        way = record { from = c.number; to = c.next; least = c.way };
        there = h.leads;
        from = refl;
        to = refl;
        late = omega arith;
      }

  run_laws : ((e : Edge) → In edges e → 1 ≤ e.least) → RunLaws ring ring_conditions edges home IsFine Fits
  run_laws least =
      record {
        sorted = λ s h. h.sorted;
        sound = λ s h. h.takes_time;
        handling = λ key s h i.
            record {
              sorted = ordered_without key_cmp_total (same_key key) s.arriving h.sorted;
              takes_time = h.takes_time;
              leads = h.leads;
            };
        accepting = λ o s h f e.
            record {
              sorted = ordered_inserted key_cmp_total o.key s.arriving h.sorted;
              takes_time = h.takes_time;
              leads = h.leads;
            };
        sending = λ key s h i. (sent_along key s h, tt);
        fitting = λ key s h i. (tt, tt);
        rows = λ key s h. (record { key_is = refl; site_is = refl }, tt);
        remaining = λ key s h f j i. f j (without_in key s.arriving j i);
        takes_time = least;
      }

module _ (counters apart : ℕ) where
  -- each way takes as long as they are apart
  least_in : (ns : List ℕ) (e : Edge) → In (map (way_from counters apart) ns) e → apart ≡ e.least
  least_in [] e i = absurd i
  least_in (n ∷ ns) e (inl h) = let t : (way_from counters apart n).least ≡ e.least = ap (λ w. w.least) h in t
  least_in (n ∷ ns) e (inr i) = least_in ns e i

  -- ways that a run in partitions takes
  abbrev IsInRange : Edge → Type 0
  IsInRange e = (1 ≤ e.least) × (e.least ≤ 900000)

  pub ways_in_range : (ns : List ℕ) → 1 ≤ apart → apart ≤ 900000 → All IsInRange (map (way_from counters apart) ns)
  ways_in_range [] l m = All-nil IsInRange
  ways_in_range (n ∷ ns) l m =
      All-cons IsInRange (way_from counters apart n) (map (way_from counters apart) ns) (l, m) (ways_in_range ns l m)

  -- there is a way from each counter
  way_in :
      (from n k : ℕ) → from ≤ k → k < from + n
      → In (map (way_from counters apart) (range_with_len from n)) (way_from counters apart k)
  way_in from zero k l m = absurd (omega arith)
  way_in from (suc n) k l m =
      let ways = map (way_from counters apart) (range_with_len from (suc n)) in
      elim (eq-or-lt_of_le l) as (λ _. In ways (way_from counters apart k)) [
        | inl e ↦ inl (ap (way_from counters apart) e)
        | inr h ↦ inr (way_in (from + 1) n k (omega arith) (omega arith))
      ]

  -- counters in a row are fine, if there is a way from each
  fine_from :
      (edges : List Edge) (from n : ℕ) → 1 ≤ apart → ((k : ℕ) → from ≤ k → k < from + n → In edges (way_from counters apart k))
      → Each (IsFine edges) (map (opening_counter counters apart) (range_with_len from n))
  fine_from edges from zero l f = tt
  fine_from edges from (suc n) l f =
      let leads : In edges (way_from counters apart from) = f from (omega arith) (omega arith) in
      let one : IsFine edges (opening_counter counters apart from) = record { sorted = (tt, tt); takes_time = l; leads = leads } in
      (one, fine_from edges (from + 1) n l (λ k h m. f k (omega arith) (omega arith)))

  -- they are numbered, and hold nothing from after the beginning
  numbered_from : (from n : ℕ) → IsNumbered ring from (map (opening_counter counters apart) (range_with_len from n))
  numbered_from from zero = tt
  numbered_from from (suc n) = (refl, numbered_from (from + 1) n)

  past_from : (ns : List ℕ) → All (ring_conditions.Past 0) (map (opening_counter counters apart) ns)
  past_from [] = All-nil (ring_conditions.Past 0)
  past_from (n ∷ ns) =
      let rest = map (opening_counter counters apart) ns in
      All-cons (ring_conditions.Past 0) (opening_counter counters apart n) rest tt (past_from ns)

  module _ (horizon : ℕ) (takes_time : 1 ≤ apart) where
    abbrev edges : List Edge
    edges = (ring_setting counters apart horizon).edges

    abbrev setting : Setting Counter
    setting = ring_setting counters apart horizon

    ring_sound : IsSoundSetting ring ring_conditions home (IsFine edges) (Fits edges) setting
    ring_sound =
        record {
          laws = run_laws edges (λ e i. omega (arith, takes_time, least_in (range_with_len 0 counters) e i));
          opens = fine_from edges 0 counters takes_time (λ k l m. way_in 0 counters k l m);
          numbered = numbered_from 0 counters;
          past = past_from (range_with_len 0 counters);
        }

    pub ring_simulated : IsSimulated ring ring_conditions (ring_setting counters apart horizon)
    ring_simulated = simulated ring_laws setting home (IsFine edges) (Fits edges) ring_sound
