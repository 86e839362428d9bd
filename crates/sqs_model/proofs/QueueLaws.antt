-- A law of a queue, with what may be sent, is a law of handlings.
use Rattle.std.specs.Prelude.{All, Bool, Err, IfSome, List, None, Ok, Option, Result, Some, [], false, take, true, ℕ, ◌==◌, ◌∷◌, ◌≤◌}
use Rattle.std.proofs.Common.{arith}
use Rattle.std.proofs.lemmas.List.Elements.{All-append, All-cons, All-nil}
use Rattle.sim_clock.specs.declared.key.Key.{Key}
use Rattle.sim_clock.specs.declared.refusal.Refusal.{Refusal}
use Rattle.sqs_redrive.specs.declared.answers.Got.{Got}
use Rattle.sqs_redrive.specs.declared.settings.Policy.{Policy}
use Rattle.sqs_redrive.specs.declared.transfers.Load.{Load}
use Rattle.sqs_redrive.specs.declared.transfers.Outbound.{Outbound}
use Rattle.sqs_model.specs.declared.acts.Answer.{Answer}
use Rattle.sqs_model.specs.Actor.{next, Actor}
use Rattle.sqs_model.specs.Acts.{redrive_by}
use Rattle.sqs_model.specs.Available.{all_available}
use Rattle.sqs_model.specs.Calls.{change}
use Rattle.sqs_model.specs.Draw.{drawn_latency}
use Rattle.sqs_model.specs.Queue.{Queue}
use Rattle.sqs_model.specs.Receive.{timeout_of, to_give}
use Rattle.sqs_model.specs.Site.{Core, Effect, with_queue}
use Rattle.sqs_model.specs.Step.{handle_step, moves, one_sent}
use Rattle.sqs_model.specs.Task.{Task, take_movable}
use Rattle.sqs_model.proofs.QueueWalk.{AllLeave, AreMoves, IsMove, QueueLaw, arrived_keeps, change_keeps, delete_keeps, expired_keeps, give_keeps, released_keeps, sends_keep, take_keeps, take_moves}
use Rattle.sqs_model.proofs.QueueWalk as calls
use Rattle.sqs_model.proofs.Sending.{Sends}
use Rattle.sqs_model.proofs.Walk.{Changes, Gives, HandlingLaw, Leaves, TurnLaw, lefts}

-- What may be sent (`May`) beside a law of a queue: a load that left the queue, from this moment on; what a move task sends; and what
-- an actor sends, of which `Sent` holds.
pub record SendLaw (now : ℕ) (queue : QueueLaw now) (May : Outbound → Type 0) : Type 1 where
  pub redriven : (o : Outbound) → now ≤ o.at → queue.Out o.load → May o
  pub moved : (o : Outbound) → IsMove o.load → May o
  pub Sent : Outbound → Type 0
  pub sends : (a : Actor) (w : Answer) → Sends Sent (next a now w).0
  pub forwarded : (o : Outbound) → Sent o → May o

-- what holds of a site and of the loads that are still to be told
module _ (now : ℕ) (queue : QueueLaw now) (P : Core → Type 0) where
  abbrev pub Before : List (Option Load) → Core → Type 0
  Before ls c = P c × AllLeave now queue ls

  leaves_all : (c : Core) (b : Bool) (ls : List (Option Load)) → Before ls c → Leaves Before c b ls
  leaves_all c true ls h = h
  leaves_all c false ls h = (h.0, tt)

  pub gives_all : (c : Core) (timeout : Option ℕ) (x : Queue × List Got) → P (with_queue c x.0) → AllLeave now queue (lefts x.1) → Gives Before c timeout x
  gives_all c timeout (q, gots) h l = leaves_all (with_queue c q) (timeout_of q timeout == 0) (lefts gots) (h, l)

  pub changes_all : (c : Core) (timeout : ℕ) (x : Result (Option Load) Refusal × Queue) → ((q : Queue) → queue.At q → P (with_queue c q)) → calls.Changes now queue x → Changes Before c timeout x
  changes_all c timeout (Err e, q) f h = tt
  changes_all c timeout (Ok left, q) f h = leaves_all (with_queue c q) (timeout == 0) (left ∷ []) (f q h.0, (h.1, tt))

module _ (key : Key) (queue : QueueLaw key.at) (May : Outbound → Type 0) (fits : SendLaw key.at queue May) where
  abbrev Holds : Core → Type 0
  Holds c = queue.At c.queue

  abbrev At : List (Option Load) → Core → Type 0
  At = Before key.at queue Holds

  pub record Goes (ls : List (Option Load)) (e : Effect) : Type 0 where
    pub at : queue.At e.core.queue
    pub left : AllLeave key.at queue ls
    pub sent : All May e.sent

  pub leaves_by : (ls : List (Option Load)) (c : Core) (n : ℕ) (load : Load) (o : Option Policy) → At (Some load ∷ ls) c → Goes ls (redrive_by o key c n load)
  leaves_by ls c n load None h = record { at = h.0; left = h.1.1; sent = All-nil May }
  leaves_by ls c n load (Some p) h = record { at = h.0; left = h.1.1; sent = All-cons May _ [] (fits.redriven _ (omega arith) h.1.0) (All-nil May) }

  -- the law of turns
  abbrev pub turns : TurnLaw key
  turns =
      record {
        Past = Unit {0};
        At = λ _ ls c. At ls c;
        Goes = λ _ ls e. Goes ls e;
        after = λ _ _. tt;
        done = λ _ ls e g. (g.at, g.left);
        joins = λ _ ls ms e f g h. record { at = h.at; left = h.left; sent = All-append May e.sent (f e.core).sent g.sent h.sent };
        quiet = λ _ ls ms c d rows h r k. record { at = k.0; left = k.1; sent = All-nil May };
        stays = λ _ ls c h. (h.0, h.1.1);
        leaves = λ _ ls c n load h. leaves_by ls c n load c.queue.settings.policy h;
        gives = λ _ c max timeout set h. let g = give_keeps key.at queue key.at (timeout_of c.queue timeout) (to_give c.queue max set) c.queue h.0 in gives_all key.at queue Holds c timeout _ g.0 g.1;
        changes = λ _ c r timeout h. changes_all key.at queue Holds c timeout (change c.queue key.at r timeout) (λ q k. k) (change_keeps key.at queue c.queue key.at r timeout h.0);
        deletes = λ _ a c text r h. record { at = delete_keeps key.at queue c.queue.settings.kind c.queue key.at r h.0; left = tt; sent = All-nil May };
        sends = λ _ a c body delay group id h. record { at = sends_keep key.at queue c.queue.settings.kind c.queue body delay group id h.0; left = tt; sent = All-nil May };
        draws = λ _ c hosts h. h;
        starts = λ _ c n t e h. h;
        cancels = λ _ c n t e h. h;
        Stands = λ _ _. Unit {0};
        Sent = fits.Sent;
        turns = λ _ n c a w e h. (h, tt, fits.sends a w);
        polls = λ _ a c max wait timeout e s h. h;
        forwards = λ _ a c id o s h. record { at = h.0; left = tt; sent = All-cons May o [] (fits.forwarded o s) (All-nil May) };
      }

  moved_fit : (c : Core) (t : Task) (loads : List (ℕ × Load)) → AreMoves loads → All May (moves key c t loads).sent
  moved_fit c t [] l = All-nil May
  moved_fit c t (x ∷ rest) l = All-cons May _ _ (fits.moved _ l.0) (moved_fit c (one_sent t (drawn_latency t.move.settings.latency t.draws).1) rest l.1)

  pub step_goes : (c : Core) (t : Task) → At [] c → Goes [] (handle_step key c (Some t))
  step_goes c t h =
      let to : Option ℕ = t.move.settings.to in
      let ms : List _ = take t.move.settings.per_second (all_available c.queue) in
      record {
        at = take_keeps key.at queue to ms c.queue h.0;
        left = tt;
        sent = moved_fit (with_queue c (take_movable c.queue t.move.settings.per_second to).1) t _ (take_moves to ms c.queue);
      }

  -- the law of handlings
  abbrev pub handles : HandlingLaw key turns
  handles =
      record {
        answers = λ _ c h. h;
        ends = λ _ c h. h;
        MayExpire = λ _. Unit {0};
        expires = λ _ c m h. record { at = expired_keeps key.at queue c.queue key.at key.number h.0; left = tt; sent = All-nil May };
        releases = λ _ c h. let r = released_keeps key.at queue c.queue key.number h.0 in (r.0, (r.1, tt));
        Comes = λ _ o c. IfSome o (λ x. queue.Comes x.load) × queue.At c.queue;
        absent = λ _ c h. (h.1, tt);
        arrives = λ _ o c h. record { at = arrived_keeps key.at queue c.queue o.load h.0 h.1; left = tt; sent = All-nil May };
        samples = λ _ c h. h;
        steps = λ _ c t e h. step_goes c t h;
      }
