-- The laws of every site, of processes of PHOLD.
use Rattle.std.specs.Prelude.{All, List, [], ◌+◌, ◌<◌, ◌≤◌}
use Rattle.std.proofs.Common.{ap, arith, refl}
use Rattle.std.proofs.lemmas.List.Elements.{All-cons, All-nil}
use Rattle.rand_pcg.specs.Pcg.{pcg32}
use Rattle.sim_clock.specs.declared.key.Key.{Key}
use Rattle.sim_clock.specs.Order.{key_cmp_total, same_key}
use Rattle.sim_clock.proofs.Inserted.{inserted_swap, ordered_inserted, ordered_without, without_inserted}
use Rattle.sim_engine.specs.Engine.{Handled}
use Rattle.sim_engine.specs.Laws.{SiteLaws}
use Rattle.sim_engine.proofs.Counts.{tick_now}
use Rattle.sim_ring.specs.Keys.{due_inserted, fewer_due, inserted_in, no_more_due}
use Rattle.sim_phold.specs.declared.process.Event.{Event}
use Rattle.sim_phold.specs.declared.process.Handling.{Handling}
use Rattle.sim_phold.specs.declared.process.Process.{Process}
use Rattle.sim_phold.specs.Phold.{handled_event, phold, phold_conditions, sent_on}

-- a handling sends one event: what holds of that holds of all
sent_alone : (P : Event → Type 0) (key : Key) (p : Process) → ((o : Event) → key.at + p.lookahead ≤ o.key.at → P o) → All P (handled_event key p).sent
sent_alone P key p f =
    let target = pcg32 p.words in
    let o = sent_on key p target.0 (pcg32 target.1).0 in
    All-cons P o [] (f o (omega arith)) (All-nil P)

-- the handling of a key after which these are on their way to the process
abbrev handled_leaving : Key → Process → List Key → Handled Process Handling Event
handled_leaving key p keys =
    let h = handled_event key p in
    record h { site = record h.site { arriving = keys } }

pub phold_laws : SiteLaws phold phold_conditions
phold_laws =
    record {
      number_handled = λ key s. refl;
      number_accepted = λ o s. refl;
      sorted_handled = λ key s w. ordered_without key_cmp_total (same_key key) s.arriving w;
      sorted_accepted = λ o s w. ordered_inserted key_cmp_total o.key s.arriving w;
      swapped = λ o p s n. ap (λ w. record s { arriving = w }) (inserted_swap key_cmp_total o.key p.key s.arriving n);
      handled_apart = λ key o s n w.
          ap (handled_leaving key s) (without_inserted key_cmp_total (same_key key) o.key s.arriving n w);
      due_accepted = λ o s. due_inserted o.key s.arriving;
      in_accepted = λ o s j h. inserted_in o.key s.arriving j h;
      count_accepted = λ e o s l. no_more_due e o.key s.arriving l;
      kept_core = λ o s. refl;
      moving = λ key s h i.
          record {
            sound = h;
            before = λ e l. omega (arith, fewer_due e key s.arriving i);
            falls = omega (arith, fewer_due key.at key s.arriving i, tick_now key.at key.at (omega arith));
            sent_later = sent_alone (λ o. key.at < o.key.at) key s (λ o l. omega (arith, h, l));
          };
      sound_accepted = λ o s h. h;
      past_later = λ a b s l p. tt;
      past_handled = λ key s h. tt;
      sent_timely = λ key s h. sent_alone phold_conditions.Timely key s (λ o l. tt);
      past_accepted = λ now o s t h. tt;
    }
