-- A handling changes a queue's number never, and its entries only by entering one at its own moment: what such an entry keeps, a handling keeps.
use Rattle.std.specs.Prelude.{All, Bool, IfSome, List, None, Option, Some, [], nat_lt, ℕ, ◌+◌, ◌∷◌, ◌≡◌}
use Rattle.std.proofs.Common.{arith, refl, ◌++◌, ◌≤◌}
use Rattle.std.proofs.lemmas.List.Elements.{All-filter, All-push}
use Rattle.sim_clock.specs.declared.key.Class.{Class}
use Rattle.sim_clock.specs.declared.key.Key.{Key}
use Rattle.sqs_message.specs.declared.message.Message.{Message}
use Rattle.sqs_redrive.specs.declared.answers.Got.{Got}
use Rattle.sqs_redrive.specs.declared.transfers.Load.{Load}
use Rattle.sqs_redrive.specs.declared.transfers.Outbound.{Outbound}
use Rattle.sqs_model.specs.declared.acts.Act.{Act}
use Rattle.sqs_model.specs.Actor.{Actor, next}
use Rattle.sqs_model.specs.Acts.{act_made, given}
use Rattle.sqs_model.specs.Calls.{living_entries}
use Rattle.sqs_model.specs.Polls.{answer_polls}
use Rattle.sqs_model.specs.Progress.{HandlingStaysRecent, IsRecent}
use Rattle.sqs_model.specs.Queue.{Entry, Queue}
use Rattle.sqs_model.specs.Receive.{give, receive}
use Rattle.sqs_model.specs.Site.{Core, Poll, Site, number_of}
use Rattle.sqs_model.specs.Step.{handle_arrival, handle_class, handled}
use Rattle.sqs_model.proofs.QueueLaws.{SendLaw, gives_all, handles, turns}
use Rattle.sqs_model.proofs.QueueWalk.{AllLeave, QueueLaw, give_keeps, receive_keeps}
use Rattle.sqs_model.proofs.Sending.{always_sends}
use Rattle.sqs_model.proofs.Walk.{act_goes, arrival_goes, class_goes, given_goes, handled_goes, lefts, polls_go}

-- any transfer may be sent, and any may come
abbrev AnySent : Outbound → Type 0
AnySent o = Unit {0}

any_comes : (o : Option Outbound) → IfSome o AnySent
any_comes None = tt
any_comes (Some o) = tt

module _ (Q : ℕ → ℕ → List Entry → ℕ → Type 0)
    (enters : (now site : ℕ) (entries : List Entry) (e : Entry) (n : ℕ) → e.end ≡ now + 300000 → Q now site entries n → Q now site (living_entries now entries ++ e ∷ []) n)
    (comes : (now site : ℕ) (entries : List Entry) (n : ℕ) → Q now site entries n → Q now site entries (n + 1)) where
  -- what is kept, of a queue
  abbrev kept : (now : ℕ) → QueueLaw now
  kept now =
      record {
        At = λ q. Q now q.site q.entries q.arrivals;
        In = λ _. Unit {0};
        Out = λ _. Unit {0};
        Comes = λ _. Unit {0};
        alters = λ q n f k h. h;
        less = λ q n h. h;
        leaving = λ q n m e h. tt;
        more = λ q m k h. comes now q.site q.entries q.arrivals h;
        enters = λ q scope id h. enters now q.site q.entries _ q.arrivals refl h;
        spends = λ q h. comes now q.site q.entries q.arrivals h;
        fresh = λ m e s. tt;
        redriven = λ q id group origin body enqueued l. tt;
      }

  abbrev fits : (now : ℕ) → SendLaw now (kept now) AnySent
  fits now =
      record {
        redriven = λ o l k. tt;
        moved = λ o k. tt;
        Sent = λ _. Unit {0};
        sends = λ a w. always_sends (λ _. Unit {0}) (λ _. tt) (next a now w).0;
        forwarded = λ o k. tt;
      }

  abbrev Keeps : ℕ → Queue → Type 0
  Keeps now q = Q now q.site q.entries q.arrivals

  all_leave : (now : ℕ) (ls : List (Option Load)) → AllLeave now (kept now) ls
  all_leave now [] = tt
  all_leave now (None ∷ ls) = (tt, all_leave now ls)
  all_leave now (Some load ∷ ls) = (tt, all_leave now ls)

  -- so it is kept by an act, the giving of messages, the answers to polls, and by what is due
  act_keeps : (key : Key) (a : Actor) (c : Core) (x : Act) → Keeps key.at c.queue → Keeps key.at (act_made key a c x).effect.core.queue
  act_keeps key a c x h = (act_goes key (turns key (kept key.at) AnySent (fits key.at)) tt a c x tt (always_sends (λ _. Unit {0}) (λ _. tt) x) (h, tt)).at

  given_keeps : (key : Key) (c : Core) (agent : ℕ) (timeout : Option ℕ) (x : Queue × List Got) → Keeps key.at c.queue → Keeps key.at x.0 → Keeps key.at (given key c agent timeout x).core.queue
  given_keeps key c agent timeout x h k =
      (given_goes key (turns key (kept key.at) AnySent (fits key.at)) tt c agent timeout x (h, tt) (gives_all key.at (kept key.at) (λ d. Keeps key.at d.queue) c timeout x k (all_leave key.at (lefts x.1)))).at

  polls_keep : (key : Key) (ps : List Poll) (c : Core) → Keeps key.at c.queue → Keeps key.at (answer_polls key ps c).core.queue
  polls_keep key ps c h = (polls_go key (turns key (kept key.at) AnySent (fits key.at)) (λ _ c h. h) ps tt c (h, tt)).at

  arrival_keeps : (key : Key) (o : Option Outbound) (c : Core) → Keeps key.at c.queue → Keeps key.at (handle_arrival key o c).core.queue
  arrival_keeps key o c h = (arrival_goes key (turns key (kept key.at) AnySent (fits key.at)) (handles key (kept key.at) AnySent (fits key.at)) tt o c (any_comes o, h)).at

  class_keeps : (k : Class) (key : Key) (c : Core) → Keeps key.at c.queue → Keeps key.at (handle_class k key c).core.queue
  class_keeps k key c h = (class_goes key (turns key (kept key.at) AnySent (fits key.at)) (handles key (kept key.at) AnySent (fits key.at)) k tt c (λ _. tt) (h, tt)).at

  handled_keeps : (key : Key) (s : Site) → Keeps key.at s.core.queue → Keeps key.at (handled key s).site.core.queue
  handled_keeps key s h =
      (handled_goes key (turns key (kept key.at) AnySent (fits key.at)) (handles key (kept key.at) AnySent (fits key.at)) tt s (λ _. (λ _. tt, (h, tt))) (λ _. (any_comes _, h))).at

-- a site keeps its number
pub handled_number : (key : Key) (s : Site) → number_of (handled key s).site.core ≡ number_of s.core
handled_number key s = handled_keeps (λ now site entries n. site ≡ number_of s.core) (λ now site entries e n at h. h) (λ now site entries n h. h) key s refl

-- after an entry, as before it, no entry is from after its moment
pub none_later : (now : ℕ) (entries : List Entry) (e : Entry) → e.end ≡ now + 300000 → All (λ x. x.end ≤ now + 300000) entries → All (λ x. x.end ≤ now + 300000) (living_entries now entries ++ e ∷ [])
none_later now entries e at h =
    let P : Entry → Type 0 = λ x. x.end ≤ now + 300000 in
    All-push P (living_entries now entries) e (All-filter (λ x. nat_lt now x.end) P entries h) (omega (arith, at))

-- no entry is from after a moment
abbrev Recent : ℕ → ℕ → List Entry → ℕ → Type 0
Recent now site entries n = All (λ e. e.end ≤ now + 300000) entries

entered : (now site : ℕ) (entries : List Entry) (e : Entry) (n : ℕ) → e.end ≡ now + 300000 → Recent now site entries n → Recent now site (living_entries now entries ++ e ∷ []) n
entered now site entries e n at h = none_later now entries e at h

counted : (now site : ℕ) (entries : List Entry) (n : ℕ) → Recent now site entries n → Recent now site entries (n + 1)
counted now site entries n h = h

pub receive_recent :
    (q : Queue) (now max : ℕ) (timeout : Option ℕ) (set : ℕ) (short : Bool)
    → IsRecent now q → IsRecent now (receive q now max timeout set short).1
receive_recent q now max timeout set short h = receive_keeps now (kept Recent entered counted now) q now max timeout set short h

-- nor does an act, or what an actor does that is told something
pub act_recent : (key : Key) (a : Actor) (c : Core) (x : Act) → IsRecent key.at c.queue → IsRecent key.at (act_made key a c x).effect.core.queue
act_recent = act_keeps Recent entered counted

-- nor does the giving of messages, or the answers to waiting polls
pub given_recent :
    (key : Key) (c : Core) (agent : ℕ) (timeout : Option ℕ) (x : Queue × List Got)
    → IsRecent key.at c.queue → IsRecent key.at x.0 → IsRecent key.at (given key c agent timeout x).core.queue
given_recent = given_keeps Recent entered counted

pub polls_recent : (key : Key) (ps : List Poll) (c : Core) → IsRecent key.at c.queue → IsRecent key.at (answer_polls key ps c).core.queue
polls_recent = polls_keep Recent entered counted

-- nor does what is due at a site
pub arrival_recent : (key : Key) (o : Option Outbound) (c : Core) → IsRecent key.at c.queue → IsRecent key.at (handle_arrival key o c).core.queue
arrival_recent = arrival_keeps Recent entered counted

pub class_recent : (k : Class) (key : Key) (c : Core) → IsRecent key.at c.queue → IsRecent key.at (handle_class k key c).core.queue
class_recent = class_keeps Recent entered counted

pub handled_recent : HandlingStaysRecent
handled_recent = handled_keeps Recent entered counted

-- a count of messages that came is at least a number
module _ (least : ℕ) where
  abbrev AtLeast : ℕ → ℕ → List Entry → ℕ → Type 0
  AtLeast now site entries n = least ≤ n

  pub more : (now site : ℕ) (entries : List Entry) (n : ℕ) → AtLeast now site entries n → AtLeast now site entries (n + 1)
  more now site entries n h = omega (arith, h)

  abbrev pub up : (now : ℕ) → QueueLaw now
  up = kept AtLeast (λ now site entries e n at h. h) more

  -- so what a receive leaves counts no fewer than before
  pub give_up : (now timeout : ℕ) (ms : List Message) (q : Queue) → least ≤ q.arrivals → least ≤ (give now timeout ms q).0.arrivals
  give_up now timeout ms q h = (give_keeps now (up now) now timeout ms q h).0
