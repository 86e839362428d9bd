-- A law of a site alone, whatever was done before it and whatever is told or sent, is a law of handlings.
use Rattle.std.specs.Prelude.{Bool, Err, List, None, Ok, Option, Result, Some, [], false, true, ℕ, ◌+◌, ◌==◌, ◌∷◌, ◌≡◌}
use Rattle.sim_clock.specs.declared.key.Key.{Key}
use Rattle.sim_clock.specs.declared.refusal.Refusal.{Refusal}
use Rattle.sim_clock.specs.Firsts.{without}
use Rattle.sqs_message.specs.declared.ids.Receipt.{Receipt}
use Rattle.sqs_redrive.specs.MoveTasks.{task_started}
use Rattle.sqs_redrive.specs.declared.answers.Got.{Got}
use Rattle.sqs_redrive.specs.declared.settings.Latency.{Latency}
use Rattle.sqs_redrive.specs.declared.settings.Policy.{Policy}
use Rattle.sqs_redrive.specs.declared.settings.TaskStatus.TheVariants.{Cancelled}
use Rattle.sqs_redrive.specs.declared.transfers.Load.{Load}
use Rattle.sqs_model.specs.declared.acts.Answer.{Answer}
use Rattle.sqs_model.specs.Actor.{Actor, next}
use Rattle.sqs_model.specs.Acts.{redrive_by, sends, with_poll}
use Rattle.sqs_model.specs.Arrive.{arrived, expired}
use Rattle.sqs_model.specs.Calls.{change, delete}
use Rattle.sqs_model.specs.Draw.{drawn_latency, drawn_uniform}
use Rattle.sqs_model.specs.Polls.{without_poll}
use Rattle.sqs_model.specs.Queue.{Queue}
use Rattle.sqs_model.specs.Receive.{give_most, timeout_of}
use Rattle.sqs_model.specs.Return.{released}
use Rattle.sqs_model.specs.Site.{Core, actor_numbered, task_numbered, with_actor, with_queue, with_task}
use Rattle.sqs_model.specs.Step.{ends_at, handle_step}
use Rattle.sqs_model.specs.Task.{Task}
use Rattle.sqs_model.proofs.Sending.{always_sends}
use Rattle.sqs_model.proofs.Walk.{Changes, Gives, HandlingLaw, Leaves, TurnLaw, lefts}

-- A law of turns that speaks of a site alone. Each field is one way in which a turn changes a site, and says that it keeps the law.
pub record CoreTurnLaw (key : Key) : Type 1 where
  pub At : Core → Type 0
  pub redrives : (c : Core) (l : Latency) → At c → At (record c { sent = c.sent + 1; draws = (drawn_latency l c.draws).1 })
  pub gives : (c : Core) (max : ℕ) (timeout : Option ℕ) (set : ℕ) → At c → At (with_queue c (give_most c.queue key.at max timeout set).0)
  pub changes : (c : Core) (r : Receipt) (timeout : ℕ) → At c → At (with_queue c (change c.queue key.at r timeout).1)
  pub deletes : (c : Core) (r : Receipt) → At c → At (with_queue c (delete c.queue key.at r).1)
  pub sends : (c : Core) (body : List ℕ) (delay : Option ℕ) (group id : Option (List ℕ)) → At c → At (with_queue c (sends c.queue.settings.kind c.queue key.at body delay group id).1)
  pub draws : (c : Core) (hosts : ℕ) → At c → At (record c { draws = (drawn_uniform 0 hosts c.draws).1 })
  pub starts : (c : Core) (n : ℕ) (t : Task) → task_numbered n c ≡ Some t → At c → At (with_task c (record t { move = task_started t.move key.at }))
  pub cancels : (c : Core) (n : ℕ) (t : Task) → task_numbered n c ≡ Some t → At c → At (with_task c (record t { move = record t.move { status = Cancelled } }))
  pub Stands : List Actor → Actor → Type 0
  pub turns : (n : ℕ) (c : Core) (a : Actor) (w : Answer) → actor_numbered n c ≡ Some a → At c → At (with_actor c (next a key.at w).1) × Stands (with_actor c (next a key.at w).1).actors (next a key.at w).1
  pub polls : (a : Actor) (c : Core) (max wait : ℕ) (timeout : Option ℕ) → (wait == 0) ≡ false → Stands c.actors a → At c → At (with_poll key a c max wait timeout)

-- whatever leaves the queue
module _ (P : Core → Type 0) (c : Core) where
  leaves_same : (d : Core) (b : Bool) (ls : List (Option Load)) → P d → Leaves (λ _ x. P x) d b ls
  leaves_same d true ls h = h
  leaves_same d false ls h = h

  pub changed_same : (timeout : ℕ) (x : Result (Option Load) Refusal × Queue) → P (with_queue c x.1) → Changes (λ _ d. P d) c timeout x
  changed_same timeout (Err e, q) h = tt
  changed_same timeout (Ok left, q) h = leaves_same (with_queue c q) (timeout == 0) (left ∷ []) h

  pub given_same : (timeout : Option ℕ) (x : Queue × List Got) → P (with_queue c x.0) → Gives (λ _ d. P d) c timeout x
  given_same timeout (q, gots) h = leaves_same (with_queue c q) (timeout_of q timeout == 0) (lefts gots) h

module _ (key : Key) (core : CoreTurnLaw key) where
  abbrev At : List (Option Load) → Core → Type 0
  At ls c = core.At c

  pub redriven_at : (c : Core) (n : ℕ) (load : Load) (o : Option Policy) → core.At c → core.At (redrive_by o key c n load).core
  redriven_at c n load None h = h
  redriven_at c n load (Some p) h = core.redrives c p.latency h

  pub given_at : (c : Core) (timeout : Option ℕ) (x : Queue × List Got) → core.At (with_queue c x.0) → Gives At c timeout x
  given_at c timeout x h = given_same core.At c timeout x h

  abbrev pub turns : TurnLaw key
  turns =
      record {
        Past = Unit {0};
        At = λ _ ls c. core.At c;
        Goes = λ _ ls e. core.At e.core;
        after = λ _ _. tt;
        done = λ _ ls e h. h;
        joins = λ _ ls ms e f h k. k;
        quiet = λ _ ls ms c d rows h r k. k;
        stays = λ _ ls c h. h;
        leaves = λ _ ls c n load h. redriven_at c n load c.queue.settings.policy h;
        gives = λ _ c max timeout set h. given_at c timeout (give_most c.queue key.at max timeout set) (core.gives c max timeout set h);
        changes = λ _ c r timeout h. changed_same core.At c timeout (change c.queue key.at r timeout) (core.changes c r timeout h);
        deletes = λ _ a c text r h. core.deletes c r h;
        sends = λ _ a c body delay group id h. core.sends c body delay group id h;
        draws = λ _ c hosts h. core.draws c hosts h;
        starts = λ _ c n t e h. core.starts c n t e h;
        cancels = λ _ c n t e h. core.cancels c n t e h;
        Stands = core.Stands;
        Sent = λ _. Unit {0};
        turns = λ _ n c a w e h. let t = core.turns n c a w e h in (t.0, t.1, always_sends (λ _. Unit {0}) (λ _. tt) (next a key.at w).0);
        polls = λ _ a c max wait timeout e s h. core.polls a c max wait timeout e s h;
        forwards = λ _ a c id o s h. h;
      }

-- a law of handlings that speaks of a site alone
pub record CoreHandlingLaw (key : Key) (core : CoreTurnLaw key) : Type 0 where
  pub answers : (c : Core) → core.At c → core.At (without_poll c)
  pub ends : (c : Core) → core.At c → core.At (record c { polls = without (ends_at key) c.polls })
  pub expires : (c : Core) → core.At c → core.At (with_queue c (expired c.queue key.at key.number).1)
  pub releases : (c : Core) → core.At c → core.At (with_queue c (released c.queue key.number).0)
  pub arrives : (load : Load) (c : Core) → core.At c → core.At (with_queue c (arrived c.queue key.at load).1)
  pub samples : (c : Core) → core.At c → core.At (record c { samples = c.samples + 1 })
  pub steps : (c : Core) (t : Task) → task_numbered key.agent c ≡ Some t → core.At c → core.At (handle_step key c (Some t)).core

module _ (key : Key) (core : CoreTurnLaw key) (due : CoreHandlingLaw key core) where
  abbrev pub handles : HandlingLaw key (turns key core)
  handles =
      record {
        answers = λ _ c h. due.answers c h;
        ends = λ _ c h. due.ends c h;
        MayExpire = λ _. Unit {0};
        expires = λ _ c m h. due.expires c h;
        releases = λ _ c h. due.releases c h;
        Comes = λ _ o c. core.At c;
        absent = λ _ c h. h;
        arrives = λ _ o c h. due.arrives o.load c h;
        samples = λ _ c h. due.samples c h;
        steps = λ _ c t e h. due.steps c t e h;
      }
