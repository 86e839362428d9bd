-- PHOLD: processes that send events to one another, as an engine. It says what is done with them, and what they are like
-- at every step of a run.
use Rattle.std.specs.Prelude.{[], ℕ, ◌%◌, ◌+◌, ◌∷◌, ◌≤◌}
use Rattle.rand_pcg.specs.Lcg.{Lcg}
use Rattle.rand_pcg.specs.Pcg.{pcg32}
use Rattle.sim_clock.specs.declared.key.Key.{Key}
use Rattle.sim_clock.specs.declared.key.Class.TheVariants.{Arrival}
use Rattle.sim_clock.specs.Firsts.{without}
use Rattle.sim_clock.specs.Order.{IsInOrder, inserted, key_cmp, same_key}
use Rattle.sim_engine.specs.Engine.{Engine, Handled}
use Rattle.sim_engine.specs.Laws.{Conditions}
use Rattle.sim_phold.specs.declared.process.Event.{Event}
use Rattle.sim_phold.specs.declared.process.Handling.{Handling}
use Rattle.sim_phold.specs.declared.process.Process.{Process}

-- a process but for the events on their way to it
pub record Core : Type 0 where
  pub number : ℕ
  pub last : ℕ
  pub lookahead : ℕ
  pub hold : ℕ
  pub words : Lcg
  pub count : ℕ

-- a number from 0 to a greatest one, by a word that was drawn
abbrev pub up_to : ℕ → ℕ → ℕ
up_to greatest word = word % (greatest + 1)

-- what a process sends when it handles an event, by two words: the first says to which process, the second after what
-- time beyond the lookahead it arrives there
abbrev pub sent_on : Key → Process → ℕ → ℕ → Event
sent_on key p target hold =
    record {
      key = record { at = key.at + p.lookahead + up_to p.hold hold; agent = p.number; class = Arrival; number = p.count };
      to = up_to p.last target;
    }

-- a process that handles an event: it draws two words, counts the event, reports it, and sends one
abbrev pub handled_event : Key → Process → Handled Process Handling Event
handled_event key p =
    let target = pcg32 p.words in
    let hold = pcg32 target.1 in
    record {
      site = record p { words = hold.1; count = p.count + 1; arriving = without (same_key key) p.arriving };
      rows = record { key = key; number = p.number; count = p.count + 1 } ∷ [];
      sent = sent_on key p target.0 hold.0 ∷ [];
    }

-- processes as an engine
abbrev pub phold : Engine Process Handling Event
phold =
    record {
      number = λ p. p.number;
      dues = λ p. p.arriving;
      handled = handled_event;
      accepted = λ e p. record p { arriving = inserted e.key p.arriving };
      transfer_key = λ e. e.key;
      to = λ e. e.to;
      row_key = λ r. r.key;
      row_site = λ r. r.number;
      Core = Core;
      core = λ p.
          record {
            number = p.number;
            last = p.last;
            lookahead = p.lookahead;
            hold = p.hold;
            words = p.words;
            count = p.count;
          };
      site_count = λ p. p.count;
      row_count = λ r. r.count;
    }

-- events on their way to a process are kept in order, and those that it sends take time; processes and events have
-- nothing else with a moment that could be later
abbrev pub phold_conditions : Conditions Process Event
phold_conditions =
    record {
      Sorted = λ p. IsInOrder key_cmp p.arriving;
      Sound = λ p. 1 ≤ p.lookahead;
      Past = λ now p. Unit {0};
      Timely = λ e. Unit {0};
    }
