-- Counters that hand tokens on, as an engine: what is done with them, and what they are like at every step of a run.
use Rattle.std.specs.Prelude.{[], ℕ, ◌+◌, ◌∷◌, ◌≤◌}
use Rattle.sim_clock.specs.declared.key.Key.{Key}
use Rattle.sim_clock.specs.declared.key.Class.TheVariants.{Arrival}
use Rattle.sim_clock.specs.Firsts.{without}
use Rattle.sim_clock.specs.Order.{IsInOrder, inserted, key_cmp, same_key}
use Rattle.sim_engine.specs.Engine.{Engine, Handled}
use Rattle.sim_engine.specs.Laws.{Conditions}
use Rattle.sim_ring.specs.declared.counter.Counter.{Counter}
use Rattle.sim_ring.specs.declared.counter.Told.{Told}
use Rattle.sim_ring.specs.declared.counter.Token.{Token}

-- a counter but for the tokens on their way to it
pub record Core : Type 0 where
  pub number : ℕ
  pub next : ℕ
  pub way : ℕ
  pub count : ℕ

-- the token that a counter sends on when one reaches it: it arrives at the next counter when the time of the way has
-- passed
abbrev pub handed_on : Key → Counter → Token
handed_on key c =
    record {
      key = record { at = key.at + c.way; agent = c.number; class = Arrival; number = c.count };
      to = c.next;
    }

-- a counter that a token reaches counts it, reports it, and sends it on
abbrev pub counted : Key → Counter → Handled Counter Told Token
counted key c =
    record {
      site = record c { count = c.count + 1; arriving = without (same_key key) c.arriving };
      rows = record { key = key; number = c.number; count = c.count + 1 } ∷ [];
      sent = handed_on key c ∷ [];
    }

-- counters as an engine
abbrev pub ring : Engine Counter Told Token
ring =
    record {
      number = λ c. c.number;
      dues = λ c. c.arriving;
      handled = counted;
      accepted = λ o c. record c { arriving = inserted o.key c.arriving };
      transfer_key = λ o. o.key;
      to = λ o. o.to;
      row_key = λ r. r.key;
      row_site = λ r. r.number;
      Core = Core;
      core = λ c. record { number = c.number; next = c.next; way = c.way; count = c.count };
      site_count = λ c. c.count;
      row_count = λ r. r.count;
    }

-- tokens on their way to a counter are kept in order, and those that it sends on take time;
-- counters and tokens have nothing else with a moment that could be later
abbrev pub ring_conditions : Conditions Counter Token
ring_conditions =
    record {
      Sorted = λ c. IsInOrder key_cmp c.arriving;
      Sound = λ c. 1 ≤ c.way;
      Past = λ now c. Unit {0};
      Timely = λ o. Unit {0};
    }
