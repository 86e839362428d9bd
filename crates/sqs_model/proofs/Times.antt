-- Nothing at a site was enqueued after the present.
use Rattle.std.specs.Prelude.{Bool, IfSome, None, Option, Some, false, find, true, ℕ, ◌≡◌, ◌≤◌}
use Rattle.std.proofs.Common.{ap, arith, refl}
use Rattle.std.proofs.lemmas.List.Elements.{All-push}
use Rattle.sim_clock.specs.declared.key.Key.{Key}
use Rattle.sim_clock.proofs.Least.{key_tied}
use Rattle.sqs_message.specs.declared.message.Message.{Message}
use Rattle.sqs_redrive.specs.declared.settings.Kind.{Kind}
use Rattle.sqs_redrive.specs.declared.settings.Kind.TheVariants.{Fifo, Standard}
use Rattle.sqs_redrive.specs.declared.transfers.Load.{Load}
use Rattle.sqs_redrive.specs.declared.transfers.Load.TheVariants.{Forward, Move, Redrive}
use Rattle.sqs_redrive.specs.declared.transfers.Outbound.{Outbound}
use Rattle.sqs_redrive.specs.Transfers.{transfer_key}
use Rattle.sqs_model.specs.Arrive.{enqueued_at}
use Rattle.sqs_model.specs.Progress.{AreTimely, HandlingKeepsTime, IsFilledBy, WasEnqueuedBy}
use Rattle.sqs_model.specs.Queue.{has_number}
use Rattle.sqs_model.specs.Site.{Site, has_key}
use Rattle.sqs_model.specs.Step.{handled, handled_when, is_arrival}
use Rattle.sqs_model.proofs.Counts.{all_changed, all_without, find_all, find_picked}
use Rattle.sqs_model.proofs.Forwards.{CarriesForward, next_forwards}
use Rattle.sqs_model.proofs.QueueLaws.{SendLaw, handles, turns}
use Rattle.sqs_model.proofs.QueueWalk.{IsMove, QueueLaw}
use Rattle.sqs_model.proofs.Sending.{IsForward}
use Rattle.sqs_model.proofs.Walk.{handled_goes}

-- what was enqueued by a moment was so later
later : (now at : ℕ) (load : Load) → now ≤ at → WasEnqueuedBy now load → WasEnqueuedBy at load
later now at (Redrive id group origin body enqueued) l h = omega (arith, l, h)
later now at (Move id group origin body) l h = tt
later now at (Forward id group body) l h = tt

abbrev Timely : Outbound → Type 0
Timely o = WasEnqueuedBy o.at o.load

-- a forward was not enqueued yet, and neither was what a task moves
forward_timely : (now : ℕ) (load : Load) → IsForward load → WasEnqueuedBy now load
forward_timely now (Redrive id group origin body enqueued) f = absurd f
forward_timely now (Move id group origin body) f = tt
forward_timely now (Forward id group body) f = tt

move_timely : (now : ℕ) (load : Load) → IsMove load → WasEnqueuedBy now load
move_timely now (Redrive id group origin body enqueued) f = absurd f
move_timely now (Move id group origin body) f = tt
move_timely now (Forward id group body) f = tt

module _ (now : ℕ) where
  abbrev By : Message → Type 0
  By m = m.enqueued ≤ now

  enqueued_by : (k : Kind) (before : ℕ) → before ≤ now → enqueued_at k now before ≤ now
  enqueued_by (Standard hosts sampled) before h = h
  enqueued_by (Fifo content scope) before h = omega arith

  -- no message of a queue was enqueued after the present, nor is one that leaves it or comes
  abbrev filled : QueueLaw now
  filled =
      record {
        At = IsFilledBy now;
        In = By;
        Out = WasEnqueuedBy now;
        Comes = WasEnqueuedBy now;
        alters = λ q n f k h. all_changed (has_number n) By f (λ m b. rw (k.enqueued m) b) q.records h;
        less = λ q n h. all_without (has_number n) By q.records h;
        leaving = λ q n m e h. find_all (has_number n) By q.records m h e;
        more = λ q m k h. All-push By q.records m h k;
        enters = λ q scope id h. h;
        spends = λ q h. h;
        fresh = λ m e s. omega (arith, e);
        redriven = λ q id group origin body enqueued l. enqueued_by q.settings.kind enqueued l;
      }

  -- nor is what is sent enqueued after its arrival
  abbrev timely : SendLaw now filled Timely
  timely =
      record {
        redriven = λ o l k. later now o.at o.load l k;
        moved = λ o k. move_timely o.at o.load k;
        Sent = CarriesForward;
        sends = λ a w. next_forwards a now w;
        forwarded = λ o k. forward_timely o.at o.load k;
      }

-- what stays on its way to a site
left_timely : (b : Bool) (key : Key) (s : Site) → AreTimely s.arriving → AreTimely (handled_when b key s).site.arriving
left_timely true key s a = all_without (has_key key) Timely s.arriving a
left_timely false key s a = a

-- a transfer that arrives was enqueued by then
comes_timely : (key : Key) (s : Site) (o : Option Outbound) → find (has_key key) s.arriving ≡ o → AreTimely s.arriving → IfSome o (λ x. WasEnqueuedBy key.at x.load)
comes_timely key s None e a = tt
comes_timely key s (Some o) e a =
    let due : WasEnqueuedBy o.at o.load = find_all (has_key key) Timely s.arriving o a e in
    let is : key ≡ transfer_key o = key_tied key (transfer_key o) (find_picked (has_key key) s.arriving o e) in
    rw (ap (λ (k : Key). k.at) is) due

-- a handling keeps it so
pub handled_timely : HandlingKeepsTime
unfolding handled
handled_timely key s h a =
    let came = comes_timely key s (find (has_key key) s.arriving) refl a in
    let g = handled_goes key (turns key (filled key.at) Timely (timely key.at)) (handles key (filled key.at) Timely (timely key.at)) tt s (λ _. (λ _. tt, (h, tt))) (λ _. (came, h)) in
    record { filled = g.at; arriving = left_timely (is_arrival key.class) key s a; sent = g.sent }
