-- PHOLD is a sound setting, so every run of it comes to its run on one list.
use Rattle.std.specs.List.{range_with_len}
use Rattle.std.specs.Prelude.{All, List, [], map, suc, zero, ℕ, ◌%◌, ◌+◌, ◌-◌, ◌<◌, ◌∷◌, ◌≤◌}
use Rattle.std.proofs.Common.{arith, refl}
use Rattle.std.proofs.Math.Nat.{mod-lt}
use Rattle.std.proofs.lemmas.List.Elements.{All-cons, All-nil}
use Rattle.sim_clock.specs.declared.key.Key.{Key}
use Rattle.sim_clock.specs.declared.key.Class.TheVariants.{Arrival}
use Rattle.sim_clock.specs.Order.{IsInOrder, key_cmp, key_cmp_total, same_key}
use Rattle.sim_clock.proofs.Inserted.{ordered_inserted, ordered_without}
use Rattle.sim_engine.specs.Laws.{IsSentBy, IsSoundSetting, RunLaws}
use Rattle.sim_engine.specs.Members.{Each, In}
use Rattle.sim_engine.specs.Setting.{IsNumbered, Setting}
use Rattle.sim_engine.specs.Simulated.{IsSimulated}
use Rattle.sim_engine.specs.declared.edge.Edge.{Edge}
use Rattle.sim_engine.proofs.Simulated.{simulated}
use Rattle.sim_ring.specs.Keys.{without_in}
use Rattle.sim_phold.specs.declared.opening.Workload.{Workload}
use Rattle.sim_phold.specs.declared.process.Event.{Event}
use Rattle.sim_phold.specs.declared.process.Process.{Process}
use Rattle.sim_phold.specs.Laws.{phold_laws}
use Rattle.sim_phold.specs.Opening.{numbers, opening_events, opening_process, phold_setting}
use Rattle.sim_phold.specs.Phold.{phold, phold_conditions, sent_on, up_to}
use Rattle.sim_phold.proofs.Ways.{least_in, way_in}

-- a process is at home at itself
abbrev home : ℕ → ℕ
home n = n

-- a drawn number is at most the greatest one
drawn_within : (greatest word : ℕ) → up_to greatest word ≤ greatest
drawn_within greatest word =
    let less : word % (greatest + 1) < greatest + 1 = mod-lt word (omega arith) in
    omega (arith, less)

module _ (edges : List Edge) where
  -- a process that a run over some ways comes to: events are kept in order, and one of the ways leads to each process
  pub record IsFine (p : Process) : Type 0 where
    pub sorted : IsInOrder key_cmp p.arriving
    pub takes_time : 1 ≤ p.lookahead
    pub leads : (to : ℕ) → to ≤ p.last → In edges (record { from = p.number; to = to; least = p.lookahead })

  -- any event fits
  abbrev Fits : Event → Type 0
  Fits o = Unit {0}

  -- what it sends goes along a way, and takes the lookahead at least
  sent_along :
      (key : Key) (p : Process) (target hold : ℕ) → IsFine p
      → IsSentBy phold edges home key p.number (sent_on key p target hold)
  sent_along key p target hold h =
      record {
        sender = refl;
        way = record { from = p.number; to = up_to p.last target; least = p.lookahead };
        there = h.leads (up_to p.last target) (drawn_within p.last target);
        from = refl;
        to = refl;
        late = omega arith;
      }

  run_laws : ((e : Edge) → In edges e → 1 ≤ e.least) → RunLaws phold phold_conditions edges home IsFine Fits
  run_laws least =
      record {
        sorted = λ s h. h.sorted;
        sound = λ s h. h.takes_time;
        handling = λ key s h i.
            record {
              sorted = ordered_without key_cmp_total (same_key key) s.arriving h.sorted;
              takes_time = h.takes_time;
              leads = h.leads;
            };
        accepting = λ o s h f e.
            record {
              sorted = ordered_inserted key_cmp_total o.key s.arriving h.sorted;
              takes_time = h.takes_time;
              leads = h.leads;
            };
        sending = λ key s h i. (sent_along key s _ _ h, tt);
        fitting = λ key s h i. (tt, tt);
        rows = λ key s h. (record { key_is = refl; site_is = refl }, tt);
        remaining = λ key s h f j i. f j (without_in key s.arriving j i);
        takes_time = least;
      }

-- the events at the beginning are in order
opening_sorted : (number n : ℕ) → IsInOrder key_cmp (opening_events number n)
unfolding opening_events
opening_sorted number zero = tt
opening_sorted number (suc n) =
    ordered_inserted key_cmp_total (record { at = 0; agent = number; class = Arrival; number = n })
    (opening_events number n) (opening_sorted number n)

module _ (w : Workload) where
  -- processes in a row are fine, if the ways lead from each to each one
  fine_from :
      (edges : List Edge) (from n : ℕ) → 1 ≤ w.lookahead
      → ((k to : ℕ) → k < from + n → to ≤ w.processes - 1 → In edges (record { from = k; to = to; least = w.lookahead }))
      → Each (IsFine edges) (map (opening_process w) (range_with_len from n))
  fine_from edges from zero l f = tt
  fine_from edges from (suc n) l f =
      let one : IsFine edges (opening_process w from) =
      record { sorted = opening_sorted from w.events; takes_time = l; leads = λ to m. f from to (omega arith) m } in
      (one, fine_from edges (from + 1) n l (λ k to h m. f k to (omega arith) m))

  -- they are numbered, and hold nothing from after the beginning
  numbered_from : (from n : ℕ) → IsNumbered phold from (map (opening_process w) (range_with_len from n))
  numbered_from from zero = tt
  numbered_from from (suc n) = (refl, numbered_from (from + 1) n)

  past_from : (ns : List ℕ) → All (phold_conditions.Past 0) (map (opening_process w) ns)
  past_from [] = All-nil (phold_conditions.Past 0)
  past_from (n ∷ ns) =
      All-cons (phold_conditions.Past 0) (opening_process w n) (map (opening_process w) ns) tt (past_from ns)

  module _ (horizon : ℕ) (some : 1 ≤ w.processes) (takes_time : 1 ≤ w.lookahead) where
    abbrev setting : Setting Process
    setting = phold_setting w horizon

    phold_sound : IsSoundSetting phold phold_conditions home (IsFine setting.edges) (Fits setting.edges) setting
    phold_sound =
        record {
          laws = run_laws setting.edges (λ e i. omega (arith, takes_time, least_in w (numbers w) e i));
          opens = fine_from setting.edges 0 w.processes takes_time
              (λ k to l m. way_in w k to (omega arith) (omega (arith, some)));
          numbered = numbered_from 0 w.processes;
          past = past_from (numbers w);
        }

    pub phold_simulated : IsSimulated phold phold_conditions (phold_setting w horizon)
    phold_simulated = simulated phold_laws setting home (IsFine setting.edges) (Fits setting.edges) phold_sound
