-- The rows of each call of a queue are a chain of single moves.
use Rattle.std.specs.Prelude.{All, Bool, List, None, Option, Some, [], false, get_or, length, map, true, ℕ, ◌+◌, ◌-◌, ◌++◌, ◌<◌, ◌==◌, ◌∷◌, ◌≡◌, ◌≢◌, ◌≤◌, slice_get, nat_lt, if◌then◌else◌}
use Rattle.std.proofs.Common.{ap, arith, refl, subst, sym, ◌∙◌}
use Rattle.sqs_laws.proofs.Terms.{All-append, All-cons, All-head, All-nil, All-tail, all_came_back, Apart, append_assoc, bit, came_back, changed, Core, drawn_latency, drawn_uniform, Draws, Effect, eqb-true, find_all, find_changed, find_picked, Got, got_of, got_row, has_number, id_of, in_flight, is_in_flight, is_visible, Key, leaves, Load, Message, MessageId, nat_tests, numbered, one_number, other_without, Outbound, Place, Policy, Queue, QueueSettings, received, redrive_by, redrive_of, redrive_row, released, released_found, released_when, Row, Scenario, slice_get_within, Stand, taken_out, total_changed, visible_again, with_change, without}
use Rattle.sqs_message.specs.declared.message.Place.TheVariants as places
use Rattle.sqs_message.specs.declared.row.Detail.TheVariants as details
use Rattle.sqs_message.specs.declared.row.RowReceipt.TheVariants as receipts
use Rattle.sqs_model.specs.Giving.{all_got, all_left, all_received, all_released}
use Rattle.sqs_model.proofs.Giving.{find_apart}
use Rattle.sqs_laws.specs.Laws.{is_fifo, MayArrive}
use Rattle.sqs_laws.specs.Words as words
use Rattle.sqs_laws.specs.Sends.{milliseconds_or}
use Rattle.sqs_laws.proofs.Moves.{FitsSender, IsAskedFor, Chain, IsNext, IsBehind, IsStocked, Move, Tells, chain_append, of_none, one_move, receives, redrives, releases, actors_of, asks_later, IsTraced, IsUnderWay, AreTraced, chain_keeps}
use Rattle.sqs_laws.proofs.Said.{count_total}
use Rattle.sqs_laws.proofs.Traces.{chain_traces, sent_later, group_later}
use Rattle.sqs_model.proofs.Effects.{latency_least}
use Rattle.sqs_redrive.specs.declared.settings.Latency.{Latency}

-- what a row tells, each as it computes
pub tells : (r : Row) (a b c d e : Bool) → words.comes r ≡ a → words.received r ≡ b → words.changed r ≡ c → words.is_release r.kind ≡ d → words.leaves r ≡ e → Tells r a b c d e
tells r a b c d e ca cb cc cd ce = record { comes_so = ca; received_so = cb; changed_so = cc; released_so = cd; leaves_so = ce }

-- the other messages of a queue, after a change of one
pub other_changed : (n k : ℕ) (f : Message → Message) → ((m : Message) → (f m).number ≡ m.number) → n ≢ k → (ms : List Message) → numbered n (changed (has_number k) f ms) ≡ numbered n ms
other_changed n k f same d ms =
    find_apart (has_number k) (has_number n) f (λ x e. one_number k n x d e) (λ x. ap (λ i. i == n) (same x)) ms

pub own_changed : (n : ℕ) (f : Message → Message) → ((m : Message) → (f m).number ≡ m.number) → (ms : List Message) (m : Message) → numbered n ms ≡ Some m → numbered n (changed (has_number n) f ms) ≡ Some (f m)
own_changed n f same ms m e =
    find_changed (has_number n) f ms m e (ap (λ i. i == n) (same m) ∙ find_picked (has_number n) ms m e)

-- the number of a message that is there, or has gone, was given out
pub found_old : (q : Queue) (n : ℕ) (m : Message) → IsStocked q → numbered n q.records ≡ Some m → n < q.arrivals
found_old q n m s f =
    let is : m.number ≡ n = eqb-true m.number n (find_picked (has_number n) q.records m f) in
    let l : m.number < q.arrivals = find_all (has_number n) (λ x. x.number < q.arrivals) q.records m s.given_out f in
    omega (arith, is, l)

-- a message that comes too old leaves at once
pub pushed_out : (n : ℕ) (ms : List Message) (m : Message) → m.number ≡ n → All (λ x. x.number < n) ms → without (has_number n) (ms ++ m ∷ []) ≡ ms
pushed_out n [] m e h = let is : has_number n m ≡ true = grind (arith, nat_tests, e) in rw is refl
pushed_out n (x ∷ xs) m e h =
    let other : has_number n x ≡ false = let l : x.number < n = All-head (λ y. y.number < n) x xs h in grind (arith, nat_tests) in
    rw other (ap (λ t. x ∷ t) (pushed_out n xs m e (All-tail (λ y. y.number < n) x xs h)))

-- what a consumer learns of messages that it receives, one for each
pub record IsToldOf (site : ℕ) (m : Message) (g : Got) : Type 0 where
  pub id : g.id ≡ record { site = site; number = m.number }
  pub receipt : g.receipt ≡ record { site = site; number = m.number; count = m.receives + 1 }
  pub origin : g.origin ≡ m.origin

abbrev pub AreToldOf : ℕ → List Message → List Got → Type 0
AreToldOf site [] [] = Unit {0}
AreToldOf site (m ∷ ms) (g ∷ gs) = IsToldOf site m g × AreToldOf site ms gs
AreToldOf site ms gs = ⊥

pub told_got : (q t : Queue) (ms : List Message) → AreToldOf q.site ms (all_got q ms (all_left ms t))
told_got q t [] = tt
told_got q t (m ∷ ms) = (record { id = refl; receipt = refl; origin = refl }, told_got q (released t m.number).0 ms)

pub told_kept : (q : Queue) (ms : List Message) → AreToldOf q.site ms (map (λ m. got_of q m None) ms)
told_kept q [] = tt
told_kept q (m ∷ ms) = (record { id = refl; receipt = refl; origin = refl }, told_kept q ms)

-- what is visible is not in flight
pub visible_rests : (p : Place) → elim p as (λ _. Bool) [ places.Delayed ↦ false | places.Visible ↦ true | places.InFlight ↦ false ] ≡ true → elim p as (λ _. Bool) [ places.Delayed ↦ false | places.Visible ↦ false | places.InFlight ↦ true ] ≡ false
visible_rests places.Delayed e = cc
visible_rests places.Visible e = refl
visible_rests places.InFlight e = cc

-- how many messages of a queue are in flight
flights_changed : (q : Queue) (n : ℕ) (f : Message → Message) (m : Message) → numbered n q.records ≡ Some m → is_in_flight m ≡ false → is_in_flight (f m) ≡ true → in_flight (with_change q n f) ≡ in_flight q + 1
flights_changed q n f m s a b =
    let before : bit (is_in_flight m) ≡ 0 = ap bit a in
    let now : bit (is_in_flight (f m)) ≡ 1 = ap bit b in
    omega (arith, count_total is_in_flight q.records, count_total is_in_flight (changed (has_number n) f q.records), total_changed (has_number n) (λ (x : Message). bit (is_in_flight x)) f q.records m s, before, now)

-- what leaves arrives after a latency that is drawn
may_arrive : (l : Latency) (d : Draws) (left : ℕ) → MayArrive l left (left + (drawn_latency l d).0)
may_arrive l d left = (
  let least : l.least ≤ (drawn_latency l d).0 = latency_least l d in omega (arith, least),
  λ w. let only : nat_lt l.least l.greatest ≡ false = grind (arith, nat_tests, w) in ap (λ b. left + (if b then drawn_uniform l.least l.greatest d else (l.least, d)).0) only,
)

module _ (key : Key) where
  -- messages that are received
  pub received_stand : (timeout : ℕ) (q : Queue) (m : Message) (ms : List Message) → All (λ x. x.number ≢ m.number) ms → Stand q ms → Stand (with_change q m.number (received key.at timeout)) ms
  received_stand timeout q m ms d s =
      λ i e l.
      let x : Message = get_or ms i e in
      other_changed x.number m.number (received key.at timeout) (λ y. refl) (d i e l) q.records ∙ s i e l

  one_received : (c : Core) (agent timeout : ℕ) (q : Queue) (m : Message) (g : Got) → c.queue.site ≡ q.site → IsToldOf q.site m g → numbered m.number q.records ≡ Some m → is_visible m ≡ true → in_flight q < q.settings.in_flight_limit → Move key q (got_row key c agent g) (with_change q m.number (received key.at timeout))
  one_received c agent timeout q m g e t s v l =
      record {
        at_key = refl;
        at_site = e;
        asked = tt;
        does =
            receives
            (record {
              one = m;
              number = m.number;
              timeout = timeout;
              tells = tells _ false true false false false refl refl refl refl refl;
              names = record { there = s; message = ap (λ i. Some i) t.id; sure = refl };
              rested = v;
              room = l;
              receipt = ap (λ r. receipts.Made r) t.receipt;
              origin = ap (λ o. details.From o) t.origin;
              after = refl;
            });
      }

  -- one more is in flight then
  received_more : (timeout : ℕ) (q : Queue) (m : Message) → numbered m.number q.records ≡ Some m → is_visible m ≡ true → in_flight (with_change q m.number (received key.at timeout)) ≡ in_flight q + 1
  received_more timeout q m s v = flights_changed q m.number (received key.at timeout) m s (visible_rests m.place v) refl

  -- of messages received one after another each is the next of its group, behind the rows of those before it
  abbrev pub AreNext : Core → ℕ → ℕ → List Row → List Message → List Got → Queue → Type 0
  AreNext c agent timeout past [] gots q = Unit {0}
  AreNext c agent timeout past ms [] q = Unit {0}
  AreNext c agent timeout past (m ∷ ms) (g ∷ gs) q =
      (is_fifo q.settings.kind ≡ true → IsNext past q (got_row key c agent g) m.number m)
      × AreNext c agent timeout (past ++ got_row key c agent g ∷ []) ms gs (with_change q m.number (received key.at timeout))

  -- a timeout that an actor asks for
  abbrev pub AsksTimeout : Scenario → List Row → ℕ → Queue → ℕ → Type 0
  AsksTimeout u past agent q timeout = (own : Option ℕ) × IsAskedFor u past agent key.at own × (timeout ≡ milliseconds_or q.settings.visibility own)

  of_next : (u : Scenario) (past : List Row) (c : Core) (agent timeout : ℕ) (q : Queue) (m : Message) (g : Got) → AsksTimeout u past agent q timeout → IsToldOf q.site m g → numbered m.number q.records ≡ Some m → (is_fifo q.settings.kind ≡ true → IsNext past q (got_row key c agent g) m.number m) → IsBehind u past q (got_row key c agent g) (with_change q m.number (received key.at timeout))
  of_next u past c agent timeout q m g a t s o =
      record {
        given = λ e. cc;
        sends = λ e. cc;
        enters = λ e. cc;
        anew = λ e. cc;
        asks = λ e. cc;
        repeats = λ e. cc;
        brought = λ e. cc;
        ends = λ _ e. cc;
        timed = λ e n one i h.
            let id : g.id ≡ id_of q n = cc in
            let is : m.number ≡ n = sym (ap (λ (y : MessageId). y.number) t.id) ∙ ap (λ (y : MessageId). y.number) id in
            let now : numbered m.number (with_change q m.number (received key.at timeout)).records ≡ Some (received key.at timeout m) = own_changed m.number (received key.at timeout) (λ y. refl) q.records m s in
            let same : received key.at timeout m ≡ one = let found : Some (received key.at timeout m) ≡ Some one = sym now ∙ ap (λ k. numbered k (with_change q m.number (received key.at timeout)).records) is ∙ h in cc in
            record { timeout = a.0; asked = a.1; release = ap (λ (y : Message). y.release) (sym same) ∙ ap (λ n. Some (key.at + n)) a.2 };
        next = λ e f n one i h.
            let id : g.id ≡ id_of q n = cc in
            let is : m.number ≡ n = sym (ap (λ (y : MessageId). y.number) t.id) ∙ ap (λ (y : MessageId). y.number) id in
            let same : m ≡ one = let found : Some m ≡ Some one = sym s ∙ ap (λ k. numbered k q.records) is ∙ h in cc in
            subst (λ k. IsNext past q (got_row key c agent g) k one) is (subst (IsNext past q (got_row key c agent g) m.number) same (o f));
      }

  pub received_chain :
      (u : Scenario) (past : List Row) (c : Core) (agent timeout : ℕ) (ms : List Message) (gots : List Got) (q : Queue) → AsksTimeout u past agent q timeout → c.queue.site ≡ q.site → AreToldOf q.site ms gots → Apart ms → Stand q ms
      → All (λ m. is_visible m ≡ true) ms → length ms ≤ q.settings.in_flight_limit - in_flight q → AreNext c agent timeout past ms gots q → Chain u past key q (map (got_row key c agent) gots) (all_received key.at timeout ms q)
  received_chain u past c agent timeout [] [] q a e t d s v l o = refl
  received_chain u past c agent timeout (m ∷ ms) (g ∷ gs) q a e t d s v l o =
      let x : Queue = with_change q m.number (received key.at timeout) in (
        x,
        one_received c agent timeout q m g e t.0 (All-head (λ y. numbered y.number q.records ≡ Some y) m ms s) (All-head (λ y. is_visible y ≡ true) m ms v) (omega (arith, l)),
        of_next u past c agent timeout q m g a t.0 (All-head (λ y. numbered y.number q.records ≡ Some y) m ms s) o.0,
        received_chain u (past ++ got_row key c agent g ∷ []) c agent timeout ms gs x (a.0, asks_later u past (got_row key c agent g ∷ []) agent key.at a.0 a.1, a.2) e t.1 d.1 (received_stand timeout q m ms d.0 (All-tail (λ y. numbered y.number q.records ≡ Some y) m ms s)) (All-tail (λ y. is_visible y ≡ true) m ms v) (omega (arith, l, received_more timeout q m (All-head (λ y. numbered y.number q.records ≡ Some y) m ms s) (All-head (λ y. is_visible y ≡ true) m ms v))) o.1,
      )
  received_chain u past c agent timeout [] (g ∷ gs) q a e t d s v l o = absurd t
  received_chain u past c agent timeout (m ∷ ms) [] q a e t d s v l o = absurd t

  -- what comes back: its rows are a chain, and what it sends is under way
  pub record Returns (u : Scenario) (past : List Row) (q p : Queue) (e : Effect) : Type 0 where
    pub chain : Chain u past key q e.rows p
    pub sent : All (FitsSender u (past ++ e.rows)) e.sent

  -- a dead letter that leaves by a row
  leaves_by : (u : Scenario) (past : List Row) (q : Queue) (d : Core) (n : ℕ) (m : Message) (p : Policy) → slice_get u.queues q.site ≡ Some q.settings → d.queue.site ≡ q.site → q.settings.policy ≡ Some p → m.number ≡ n → IsTraced u past (id_of q m.number) m
      → IsUnderWay u (past ++ redrive_row key d n p.dead_letter ∷ []) (record { at = key.at + (drawn_latency p.latency d.draws).0; sender = d.queue.site; number = d.sent; from = d.queue.site; to = p.dead_letter; load = redrive_of q m }) (id_of q m.number) m.group m.origin m.enqueued
  leaves_by u past q d n m p home e b i t =
      record {
        sender = let inside : q.site < length u.queues = slice_get_within u.queues q.site q.settings home in omega (arith, inside, e);
        left = redrive_row key d n p.dead_letter;
        before = past;
        after = [];
        split = refl;
        redriven = refl;
        named = ap (λ s. Some (record { site = s; number = n })) e ∙ ap (λ k. Some (id_of q k)) (sym i);
        from = refl;
        to = refl;
        late = λ x (s, f, g).
            let own : Some q.settings ≡ Some s = sym home ∙ ap (λ k. slice_get u.queues k) (sym e) ∙ f in
            let is : q.settings ≡ s = cc in
            let same : Some p ≡ Some x = sym b ∙ ap (λ (y : QueueSettings). y.policy) is ∙ g in
            let one : p ≡ x = cc in
            subst (λ (y : Policy). MayArrive y.latency key.at (key.at + (drawn_latency p.latency d.draws).0)) one (may_arrive p.latency d.draws key.at);
        told = t.origin;
        since = t.enqueued;
        of_group = group_later u past (redrive_row key d n p.dead_letter ∷ []) m.origin m.group t.group;
      }

  -- a message that comes back
  back_when :
      (u : Scenario) (past : List Row) (b : Bool) (o : Option Policy) (q : Queue) (d : Core) (n : ℕ) (m : Message) → slice_get u.queues q.site ≡ Some q.settings → m.number ≡ n → IsTraced u past (id_of q m.number) m → d.queue.site ≡ q.site → q.settings.policy ≡ o → d.queue.settings.policy ≡ o → leaves o m ≡ b → numbered n q.records ≡ Some m → m.release ≡ Some key.at
      → Returns u past q (released_when b q n m).0 (came_back key d n (released_when b q n m).1)
  back_when u past false o q d n m home i t e p k l f w =
      record {
        sent = All-nil (FitsSender u (past ++ _));
        chain =
            one_move u past key q _ _
            (record {
              at_key = refl;
              at_site = e;
              asked = tt;
              does =
                  releases
                  (record {
                    one = m;
                    number = n;
                    tells = tells _ false false false true false refl refl refl refl refl;
                    names = record { there = f; message = ap (λ s. Some (record { site = s; number = n })) e; sure = refl };
                    due = w;
                    lasts = ap (λ x. leaves x m) p ∙ l;
                    after = refl;
                  });
            }) (of_none u past q _ _ (λ e. cc) refl refl refl refl);
      }
  back_when u past true None q d n m home i t e p k l f w = cc
  back_when u past true (Some policy) q d n m home i t e p k l f w =
      subst (λ x. Returns u past q (taken_out q n) (redrive_by x key d n (redrive_of q m))) (sym k)
      (record {
        sent = All-cons (FitsSender u (past ++ _)) _ [] (leaves_by u past q d n m policy home e p i t) (All-nil (FitsSender u (past ++ _)));
        chain = one_move u past key q _ _
            (record {
              at_key = refl;
              at_site = e;
              asked = tt;
              does =
                  redrives
                  (record {
                    one = m;
                    number = n;
                    policy = policy;
                    tells = tells _ false false false false true refl refl refl refl refl;
                    names = record { there = f; message = ap (λ s. Some (record { site = s; number = n })) e; sure = refl };
                    due = w;
                    by = p;
                    worn = l;
                    out = refl;
                    kind = refl;
                    to = refl;
                    after = refl;
                  });
            }) (of_none u past q _ _ (λ e. cc) refl refl refl refl);
      })

  -- a row about it leaves the site's queue, actors and polls as they are
  pub record Told (d e : Core) : Type 0 where
    pub queue : e.queue ≡ d.queue
    pub actors : actors_of e ≡ actors_of d

  redriven_told : (d : Core) (n : ℕ) (load : Load) (o : Option Policy) → Told d (redrive_by o key d n load).core
  redriven_told d n load None = record { queue = refl; actors = refl }
  redriven_told d n load (Some p) = record { queue = refl; actors = refl }

  pub back_told : (d : Core) (n : ℕ) (o : Option Load) → Told d (came_back key d n o).core
  back_told d n None = record { queue = refl; actors = refl }
  back_told d n (Some load) = redriven_told d n load d.queue.settings.policy

  pub one_back :
      (u : Scenario) (past : List Row) (q : Queue) (d : Core) (n : ℕ) (m : Message) → slice_get u.queues q.site ≡ Some q.settings → AreTraced u past q → d.queue.site ≡ q.site → d.queue.settings ≡ q.settings → numbered n q.records ≡ Some m → m.release ≡ Some key.at
      → Returns u past q (released q n).0 (came_back key d n (released q n).1)
  one_back u past q d n m home h e s f w =
      let same : d.queue.settings.policy ≡ q.settings.policy = ap (λ (x : QueueSettings). x.policy) s in
      let back : Queue × Option Load = released_when (leaves q.settings.policy m) q n m in
      let number : m.number ≡ n = eqb-true m.number n (find_picked (has_number n) q.records m f) in
      let traced : IsTraced u past (id_of q m.number) m = find_all (has_number n) (λ x. IsTraced u past (id_of q x.number) x) q.records m h.each f in
      subst (λ x. Returns u past q (released_found q n x).0 (came_back key d n (released_found q n x).1)) (sym f)
      (back_when u past (leaves q.settings.policy m) q.settings.policy q d n m home number traced e refl same refl f w)

  -- messages that come back one after another, each told with what left
  abbrev pub AreBack : Queue → List Message → List Got → Type 0
  AreBack q [] [] = Unit {0}
  AreBack q (m ∷ ms) (g ∷ gs) = (g.id.number ≡ m.number) × (g.left ≡ (released q m.number).1) × AreBack (released q m.number).0 ms gs
  AreBack q ms gs = ⊥

  pub back_got : (q t : Queue) (ms : List Message) → AreBack t ms (all_got q ms (all_left ms t))
  back_got q t [] = tt
  back_got q t (m ∷ ms) = (refl, refl, back_got q (released t m.number).0 ms)

  -- each of them stands in the queue, and is due now
  abbrev pub IsDueNow : Option Message → Type 0
  IsDueNow None = ⊥
  IsDueNow (Some m) = m.release ≡ Some key.at

  abbrev pub AreThere : Queue → List Message → Type 0
  AreThere q ms = All (λ m. IsDueNow (numbered m.number q.records)) ms

  other_back_when : (b : Bool) (q : Queue) (n k : ℕ) (m : Message) → n ≢ k → numbered n (released_when b q k m).0.records ≡ numbered n q.records
  other_back_when true q n k m d = other_without k n q.records d
  other_back_when false q n k m d = other_changed n k visible_again (λ x. refl) d q.records

  other_back_found : (o : Option Message) (q : Queue) (n k : ℕ) → n ≢ k → numbered n (released_found q k o).0.records ≡ numbered n q.records
  other_back_found None q n k d = refl
  other_back_found (Some m) q n k d = other_back_when (leaves q.settings.policy m) q n k m d

  frame_when : (b : Bool) (q : Queue) (k : ℕ) (m : Message) → ((released_when b q k m).0.site ≡ q.site) × ((released_when b q k m).0.settings ≡ q.settings)
  frame_when true q k m = (refl, refl)
  frame_when false q k m = (refl, refl)

  frame_found : (o : Option Message) (q : Queue) (k : ℕ) → ((released_found q k o).0.site ≡ q.site) × ((released_found q k o).0.settings ≡ q.settings)
  frame_found None q k = (refl, refl)
  frame_found (Some m) q k = frame_when (leaves q.settings.policy m) q k m

  back_there : (q : Queue) (m : Message) (ms : List Message) → All (λ x. x.number ≢ m.number) ms → AreThere q ms → AreThere (released q m.number).0 ms
  back_there q m ms d s =
      λ i e l.
      let x : Message = get_or ms i e in
      subst IsDueNow (sym (other_back_found (numbered m.number q.records) q x.number m.number (d i e l))) (s i e l)

  found_by : (u : Scenario) (past : List Row) (q : Queue) (d : Core) (n : ℕ) (o : Option Message) → slice_get u.queues q.site ≡ Some q.settings → AreTraced u past q → numbered n q.records ≡ o → IsDueNow o → d.queue.site ≡ q.site → d.queue.settings ≡ q.settings → Returns u past q (released q n).0 (came_back key d n (released q n).1)
  found_by u past q d n None home h f t e s = absurd t
  found_by u past q d n (Some m) home h f t e s = one_back u past q d n m home h e s f t

  pub back_chain :
      (u : Scenario) (past : List Row) (ms : List Message) (gots : List Got) (q : Queue) (d : Core) → slice_get u.queues q.site ≡ Some q.settings → IsStocked q → AreTraced u past q → d.queue.site ≡ q.site → d.queue.settings ≡ q.settings → AreBack q ms gots → Apart ms → AreThere q ms
      → Returns u past q (all_released ms q) (all_came_back key gots d)
  back_chain u past [] [] q d home k h e s b a t = record { chain = refl; sent = All-nil (FitsSender u (past ++ [])) }
  back_chain u past (m ∷ ms) (g ∷ gs) q d home k h e s b a t =
      let x : Queue = (released q m.number).0 in
      let f : Effect = came_back key d g.id.number g.left in
      let same : Told d f.core = back_told d g.id.number g.left in
      let frame = frame_found (numbered m.number q.records) q m.number in
      let one : Returns u past q x (came_back key d m.number (released q m.number).1) = found_by u past q d m.number (numbered m.number q.records) home h refl (All-head (λ y. IsDueNow (numbered y.number q.records)) m ms t) e s in
      let here : Returns u past q x f = subst (λ n. Returns u past q x (came_back key d n g.left)) (sym b.0) (subst (λ l. Returns u past q x (came_back key d m.number l)) (sym b.1) one) in
      let site : f.core.queue.site ≡ x.site = ap (λ (y : Queue). y.site) same.queue ∙ e ∙ sym frame.0 in
      let settings : f.core.queue.settings ≡ x.settings = ap (λ (y : Queue). y.settings) same.queue ∙ s ∙ sym frame.1 in
      let place : slice_get u.queues x.site ≡ Some x.settings = ap (λ n. slice_get u.queues n) frame.0 ∙ home ∙ ap (λ y. Some y) (sym frame.1) in
      let behind : List Row = past ++ f.rows in
      let rest : Returns u behind x (all_released ms x) (all_came_back key gs f.core) =
      back_chain u behind ms gs x f.core place (chain_keeps u past key f.rows q x here.chain k).stocked (chain_traces u past key f.rows q x home k here.chain h) site settings b.2 a.1 (back_there q m ms a.0 (All-tail (λ y. IsDueNow (numbered y.number q.records)) m ms t)) in
      let last : List Row = (all_came_back key gs f.core).rows in
      let more : (os : List Outbound) → All (FitsSender u (behind ++ last)) os → All (FitsSender u (past ++ (f.rows ++ last))) os = λ os. subst (λ r. All (FitsSender u r) os) (append_assoc past f.rows last) in
      record {
        chain = chain_append u past key f.rows last q x (all_released ms x) here.chain rest.chain;
        sent = All-append (FitsSender u (past ++ (f.rows ++ last))) f.sent (all_came_back key gs f.core).sent (more f.sent (sent_later u behind last f.sent here.sent)) (more (all_came_back key gs f.core).sent rest.sent);
      }
  back_chain u past [] (g ∷ gs) q d home k h e s b a t = absurd b
  back_chain u past (m ∷ ms) [] q d home k h e s b a t = absurd b

  pub all_told : (gots : List Got) (d : Core) → Told d (all_came_back key gots d).core
  all_told [] d = record { queue = refl; actors = refl }
  all_told (g ∷ gs) d =
      let f : Effect = came_back key d g.id.number g.left in
      let one : Told d f.core = back_told d g.id.number g.left in
      let rest : Told f.core (all_came_back key gs f.core).core = all_told gs f.core in
      record { queue = rest.queue ∙ one.queue; actors = rest.actors ∙ one.actors }
