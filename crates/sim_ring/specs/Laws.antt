-- The laws of every site, of counters.
use Rattle.std.specs.Prelude.{All, List, [], ◌+◌, ◌<◌, ◌≤◌}
use Rattle.std.proofs.Common.{ap, arith, refl}
use Rattle.std.proofs.lemmas.List.Elements.{All-cons, All-nil}
use Rattle.sim_clock.specs.declared.key.Key.{Key}
use Rattle.sim_clock.specs.Order.{key_cmp_total, same_key}
use Rattle.sim_clock.proofs.Inserted.{inserted_swap, ordered_inserted, ordered_without, without_inserted}
use Rattle.sim_engine.specs.Engine.{Handled}
use Rattle.sim_engine.specs.Laws.{SiteLaws}
use Rattle.sim_engine.proofs.Counts.{tick_now}
use Rattle.sim_ring.specs.declared.counter.Counter.{Counter}
use Rattle.sim_ring.specs.declared.counter.Told.{Told}
use Rattle.sim_ring.specs.declared.counter.Token.{Token}
use Rattle.sim_ring.specs.Keys.{due_inserted, fewer_due, inserted_in, no_more_due}
use Rattle.sim_ring.specs.Ring.{counted, handed_on, ring, ring_conditions}

-- what is handed on arrives later, and holds nothing from after that
later : (key : Key) (c : Counter) → 1 ≤ c.way → All (λ (o : Token). key.at < o.key.at) (counted key c).sent
later key c h =
    let P : Token → Type 0 = λ o. key.at < o.key.at in
    All-cons P (handed_on key c) [] (omega (arith, h)) (All-nil P)

timely : (key : Key) (c : Counter) → All ring_conditions.Timely (counted key c).sent
timely key c = All-cons ring_conditions.Timely (handed_on key c) [] tt (All-nil ring_conditions.Timely)

-- the handling of a key after which these are on their way to the counter
abbrev counted_leaving : Key → Counter → List Key → Handled Counter Told Token
counted_leaving key c keys = record (counted key c) { site = record c { count = c.count + 1; arriving = keys } }

pub ring_laws : SiteLaws ring ring_conditions
ring_laws =
    record {
      number_handled = λ key s. refl;
      number_accepted = λ o s. refl;
      sorted_handled = λ key s w. ordered_without key_cmp_total (same_key key) s.arriving w;
      sorted_accepted = λ o s w. ordered_inserted key_cmp_total o.key s.arriving w;
      swapped = λ o p s n. ap (λ w. record s { arriving = w }) (inserted_swap key_cmp_total o.key p.key s.arriving n);
      handled_apart = λ key o s n w.
          ap (counted_leaving key s) (without_inserted key_cmp_total (same_key key) o.key s.arriving n w);
      due_accepted = λ o s. due_inserted o.key s.arriving;
      in_accepted = λ o s j h. inserted_in o.key s.arriving j h;
      count_accepted = λ e o s l. no_more_due e o.key s.arriving l;
      kept_core = λ o s. refl;
      moving = λ key s h i.
          record {
            sound = h;
            before = λ e l. omega (arith, fewer_due e key s.arriving i);
            falls = omega (arith, fewer_due key.at key s.arriving i, tick_now key.at key.at (omega arith));
            sent_later = later key s h;
          };
      sound_accepted = λ o s h. h;
      past_later = λ a b s l p. tt;
      past_handled = λ key s h. tt;
      sent_timely = λ key s h. timely key s;
      past_accepted = λ now o s t h. tt;
    }
