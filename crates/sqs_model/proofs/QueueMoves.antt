-- Nothing that happens to a sound queue makes anything due by the present, and the queue stays sound.
use Rattle.std.specs.Prelude.{All, Bool, Err, List, None, Ok, Option, Result, Some, [], false, if◌then◌else◌, true, ℕ, ◌*◌, ◌+◌, ◌-◌, ◌<◌, ◌==◌, ◌∷◌, ◌≡◌, ◌≤◌}
use Rattle.std.proofs.Common.{ap, arith, refl}
use Rattle.std.proofs.lemmas.Bool.{eqb-false, eqb-true, leb-false}
use Rattle.std.proofs.lemmas.List.Elements.{All-append, All-cons, All-nil, All-weaker}
use Rattle.sim_clock.specs.declared.refusal.Refusal.{Refusal}
use Rattle.sqs_message.specs.declared.ids.MessageId.{MessageId}
use Rattle.sqs_message.specs.declared.ids.Receipt.{Receipt}
use Rattle.sqs_message.specs.declared.message.Message.{Message}
use Rattle.sqs_redrive.specs.declared.answers.Sent.{Sent}
use Rattle.sqs_redrive.specs.declared.settings.Kind.{Kind}
use Rattle.sqs_redrive.specs.declared.settings.Kind.TheVariants.{Fifo, Standard}
use Rattle.sqs_redrive.specs.declared.settings.Scope.{Scope}
use Rattle.sqs_redrive.specs.declared.transfers.Load.{Load}
use Rattle.sqs_redrive.specs.declared.transfers.Load.TheVariants.{Forward, Move, Redrive}
use Rattle.sqs_model.specs.Arrive.{arrived, expired, expired_found, forwarded, is_too_old, sent_of, settled_when}
use Rattle.sqs_model.specs.Calls.{change, delete_as, in_flight_until, new_message, send_fifo, send_standard, send_unless, send_with, with_entry, with_message}
use Rattle.sqs_model.specs.Dues.{expiry_key}
use Rattle.sqs_model.specs.Progress.{IsSoundQueue}
use Rattle.sqs_model.specs.Queue.{Entry, Queue, has_number, numbered, taken_out, with_change}
use Rattle.sqs_model.specs.Receive.{give, given_one, received}
use Rattle.sqs_model.specs.Return.{leaves, released, released_found, released_when, visible_again}
use Rattle.sqs_model.specs.Task.{Taken, destination, take_each, taken_one}
use Rattle.sqs_model.proofs.Answered.{change_by, delete_by}
use Rattle.sqs_model.proofs.Branches.{either}
use Rattle.sqs_model.proofs.Counts.{all_changed, all_without, ascends_changed, ascends_push, ascends_without, changed_none, changed_twice, find_changed, find_picked, less_changed, less_without, total_changed, total_push, total_without, without_changed}
use Rattle.sqs_model.proofs.EachDue.{release_key}
use Rattle.sqs_model.proofs.Weights.{Weight, message_weight, queue_weight, release_weight, weigh_if}

-- a queue that came of another is sound, and so much of what is due is gone
pub record Keeps {now : ℕ} (w : Weight now) (gone : ℕ) (q r : Queue) : Type 0 where
  pub sound : IsSoundQueue r
  pub fewer : queue_weight w r + gone ≤ queue_weight w q

module _ {now : ℕ} (w : Weight now) where
  pub stays : (q : Queue) → IsSoundQueue q → Keeps w 0 q q
  stays q s = record { sound = s; fewer = omega arith }

  keeps_on : (gone : ℕ) (q r u : Queue) → Keeps w gone q r → Keeps w 0 r u → Keeps w gone q u
  keeps_on gone q r u h k = record { sound = k.sound; fewer = omega arith }

  pub keeps_less : (gone less : ℕ) (q r : Queue) → less ≤ gone → Keeps w gone q r → Keeps w less q r
  keeps_less gone less q r m h = record { sound = h.sound; fewer = omega arith }

  sound_without : (q : Queue) (n : ℕ) → IsSoundQueue q → IsSoundQueue (taken_out q n)
  sound_without q n s =
      record {
        settings = s.settings;
        ordered = ascends_without (λ m. m.number) (has_number n) 0 q.records s.ordered;
        given_out = all_without (has_number n) (λ m. m.number < q.arrivals) q.records s.given_out;
      }

  sound_changed : (q : Queue) (n : ℕ) (f : Message → Message) → ((m : Message) → (f m).number ≡ m.number) → IsSoundQueue q → IsSoundQueue (with_change q n f)
  sound_changed q n f h s =
      record {
        settings = s.settings;
        ordered = ascends_changed (λ m. m.number) (has_number n) f (λ m _. h m) 0 q.records s.ordered;
        given_out = all_changed (has_number n) (λ m. m.number < q.arrivals) f (λ m k. rw (h m) k) q.records s.given_out;
      }

  taken_keeps : (q : Queue) (n : ℕ) → IsSoundQueue q → Keeps w 0 q (taken_out q n)
  taken_keeps q n s =
      record { sound = sound_without q n s; fewer = omega (arith, less_without (has_number n) (message_weight w q.settings.retention) q.records) }

  -- a message that leaves takes its dues with it
  pub taken_found : (q : Queue) (n : ℕ) (m : Message) → IsSoundQueue q → numbered n q.records ≡ Some m → Keeps w (message_weight w q.settings.retention m) q (taken_out q n)
  taken_found q n m s h =
      record { sound = sound_without q n s; fewer = omega (arith, total_without (has_number n) (message_weight w q.settings.retention) q.records m h) }

  changed_keeps :
      (q : Queue) (n : ℕ) (f : Message → Message) → IsSoundQueue q → ((m : Message) → (f m).number ≡ m.number)
      → ((m : Message) → message_weight w q.settings.retention (f m) ≤ message_weight w q.settings.retention m)
      → Keeps w 0 q (with_change q n f)
  changed_keeps q n f s h less =
      record { sound = sound_changed q n f h s; fewer = omega (arith, less_changed (has_number n) (message_weight w q.settings.retention) f less q.records) }

  visible_found : (q : Queue) (n : ℕ) (m : Message) → IsSoundQueue q → numbered n q.records ≡ Some m → Keeps w (release_weight w m) q (with_change q n visible_again)
  visible_found q n m s h =
      record {
        sound = sound_changed q n visible_again (λ m. refl) s;
        fewer = omega (arith, total_changed (has_number n) (message_weight w q.settings.retention) visible_again q.records m h);
      }

  -- a message that comes in and weighs nothing
  pushed_keeps : (q : Queue) (m : Message) → IsSoundQueue q → m.number ≡ q.arrivals → message_weight w q.settings.retention m ≡ 0 → Keeps w 0 q (with_message q m)
  pushed_keeps q m s h k =
      let before : All (λ x. x.number < m.number) q.records = rw h s.given_out in
      let after : All (λ x. x.number < q.arrivals + 1) q.records = All-weaker (λ x. x.number < q.arrivals) (λ x. x.number < q.arrivals + 1) (λ x b. omega arith) q.records s.given_out in
      let own : m.number < q.arrivals + 1 = omega arith in
      record {
        sound = record {
          settings = s.settings;
          ordered = ascends_push (λ m. m.number) 0 q.records m s.ordered (omega arith) before;
          given_out = All-append (λ x. x.number < q.arrivals + 1) q.records (m ∷ []) after (All-cons (λ x. x.number < q.arrivals + 1) m [] own (All-nil (λ (x : Message). x.number < q.arrivals + 1)));
        };
        fewer = omega (arith, total_push (message_weight w q.settings.retention) q.records m);
      }

  spent_keeps : (q : Queue) → IsSoundQueue q → Keeps w 0 q (record q { arrivals = q.arrivals + 1 })
  spent_keeps q s =
      record {
        sound = record {
          settings = s.settings;
          ordered = s.ordered;
          given_out = All-weaker (λ x. x.number < q.arrivals) (λ x. x.number < q.arrivals + 1) (λ x b. omega arith) q.records s.given_out;
        };
        fewer = omega arith;
      }

  entry_sound : (now : ℕ) (q : Queue) (scope : Option (List ℕ)) (id : List ℕ) → IsSoundQueue q → IsSoundQueue (with_entry q now scope id)
  entry_sound now q scope id s = record { settings = s.settings; ordered = s.ordered; given_out = s.given_out }

  -- a message comes back or leaves
  pub released_one : (q : Queue) (n : ℕ) (m : Message) (b : Bool) → IsSoundQueue q → numbered n q.records ≡ Some m → Keeps w (release_weight w m) q (released_when b q n m).0
  released_one q n m true s h = keeps_less (message_weight w q.settings.retention m) (release_weight w m) q (taken_out q n) (omega arith) (taken_found q n m s h)
  released_one q n m false s h = visible_found q n m s h

  released_keeps_found : (q : Queue) (n : ℕ) (o : Option Message) → IsSoundQueue q → numbered n q.records ≡ o → Keeps w 0 q (released_found q n o).0
  released_keeps_found q n None s h = stays q s
  released_keeps_found q n (Some m) s h =
      keeps_less (release_weight w m) 0 q (released_found q n (Some m)).0 (omega arith) (released_one q n m (leaves q.settings.policy m) s h)

  pub released_keeps : (q : Queue) (n : ℕ) → IsSoundQueue q → Keeps w 0 q (released q n).0
  released_keeps q n s = released_keeps_found q n _ s refl

  expired_of : (q : Queue) (at n : ℕ) (o : Option Message) → IsSoundQueue q → Keeps w 0 q (expired_found q at n o).1
  expired_of q at n None s = stays q s
  expired_of q at n (Some m) s = taken_keeps q n s

  pub expired_keeps : (q : Queue) (at n : ℕ) → IsSoundQueue q → Keeps w 0 q (expired q at n).1
  expired_keeps q at n s = expired_of q at n (numbered n q.records) s

  -- steps of a task
  pub take_keeps : (to : Option ℕ) (ms : List Message) (q : Queue) → IsSoundQueue q → Keeps w 0 q (take_each q to ms).queue
  take_keeps to [] q s = stays q s
  take_keeps to (m ∷ ms) q s =
      elim (destination to m) as
      (λ o. Keeps w 0 q (elim o as (λ _. Taken) [ None ↦ record { queue = q; loads = []; stuck = true } | Some d ↦ taken_one q m d (take_each (taken_out q m.number) to ms) ]).queue) [
        | None ↦ stays q s
        | Some d ↦
            let one : Keeps w 0 q (taken_out q m.number) = taken_keeps q m.number s in
            keeps_on 0 q (taken_out q m.number) (take_each (taken_out q m.number) to ms).queue one (take_keeps to ms (taken_out q m.number) one.sound)
      ]

module _ (now : ℕ) (w : Weight now) where
  -- a message is given: it comes back later, or at once
  received_later : (retention timeout : ℕ) (m : Message) → 0 < timeout → message_weight w retention (received now timeout m) ≤ message_weight w retention m
  received_later retention timeout m h = let t : w.of (release_key w.site (now + timeout) m) ≡ 0 = w.past (release_key w.site (now + timeout) m) (omega arith) in omega arith

  back_when : (q : Queue) (m y : Message) (b : Bool) → IsSoundQueue q → Keeps w 0 q (released_when b (with_change q m.number (received now 0)) m.number y).0
  back_when q m y true s =
      rw (without_changed (has_number m.number) (received now 0) (λ x. refl) q.records) (taken_keeps w q m.number s)
  back_when q m y false s =
      rw (changed_twice (has_number m.number) (received now 0) visible_again (λ x. refl) q.records)
      (changed_keeps w q m.number (λ x. visible_again (received now 0 x)) s (λ x. refl) (λ x. omega arith))

  back_found :
      (q : Queue) (m : Message) (o : Option Message) → IsSoundQueue q → numbered m.number q.records ≡ o
      → Keeps w 0 q (released (with_change q m.number (received now 0)) m.number).0
  back_found q m None s h = rw (changed_none (has_number m.number) (received now 0) q.records h) (released_keeps w q m.number s)
  back_found q m (Some y) s h =
      let t : (y.number == m.number) ≡ true = find_picked (has_number m.number) q.records y h in
      rw (find_changed (has_number m.number) (received now 0) q.records y h t) (back_when q m (received now 0 y) (leaves q.settings.policy (received now 0 y)) s)

  given_when : (q : Queue) (timeout : ℕ) (m : Message) (b : Bool) → IsSoundQueue q → (timeout == 0) ≡ b → Keeps w 0 q (if b then released (with_change q m.number (received now timeout)) m.number else (with_change q m.number (received now timeout), None)).0
  given_when q timeout m true s h = let z : timeout ≡ 0 = eqb-true timeout 0 h in rw z (back_found q m _ s refl)
  given_when q timeout m false s h =
      let z : 0 < timeout = grind (arith, eqb-false timeout 0 h) in
      changed_keeps w q m.number (received now timeout) s (λ x. refl) (λ x. received_later q.settings.retention timeout x z)

  pub give_keeps : (timeout : ℕ) (ms : List Message) (q : Queue) → IsSoundQueue q → Keeps w 0 q (give now timeout ms q).0
  give_keeps timeout [] q s = stays w q s
  give_keeps timeout (m ∷ ms) q s =
      let one : Keeps w 0 q (given_one q now timeout m).0 = given_when q timeout m _ s refl in
      keeps_on w 0 q (given_one q now timeout m).0 (give now timeout ms (given_one q now timeout m).0).0 one (give_keeps timeout ms (given_one q now timeout m).0 one.sound)

  -- sends
  delayed_when : (m : Message) (delay : ℕ) (b : Bool) → (delay == 0) ≡ b → weigh_if (λ at. w.of (release_key w.site at m)) (if b then None else Some (now + delay)) ≡ 0
  delayed_when m delay true h = refl
  delayed_when m delay false h = let z : 0 < delay = grind (arith, eqb-false delay 0 h) in w.past (release_key w.site (now + delay) m) (omega arith)

  new_early : (q : Queue) (body : List ℕ) (group : Option (List ℕ)) (delay : ℕ) → IsSoundQueue q → message_weight w q.settings.retention (new_message q now body group delay) ≡ 0
  new_early q body group delay s =
      let r : 1 ≤ q.settings.retention = s.settings.retention in
      let m : Message = new_message q now body group delay in
      omega (arith, w.past (expiry_key w.site q.settings.retention m) (omega arith), delayed_when m delay (delay == 0) refl)

  pub send_standard_keeps : (q : Queue) (body : List ℕ) (delay : Option ℕ) → IsSoundQueue q → Keeps w 0 q (send_standard q now body delay).1
  send_standard_keeps q body delay s =
      either (λ (r : Result Sent Refusal × Queue). Keeps w 0 q r.1) _ _ _ (stays w q s) (pushed_keeps w q _ s refl (new_early q body None _ s))

  send_unless_keeps :
      (q : Queue) (body group : List ℕ) (scope : Option (List ℕ)) (id : List ℕ) (o : Option Entry) → IsSoundQueue q
      → Keeps w 0 q (send_unless q now body group scope id o).1
  send_unless_keeps q body group scope id (Some x) s = stays w q s
  send_unless_keeps q body group scope id None s =
      let k : Keeps w 0 (with_entry q now scope id) (with_message (with_entry q now scope id) (new_message q now body (Some group) q.settings.delay)) =
      pushed_keeps w (with_entry q now scope id) (new_message q now body (Some group) q.settings.delay) (entry_sound w now q scope id s) refl (new_early q body (Some group) q.settings.delay s) in
      record { sound = k.sound; fewer = k.fewer }

  send_with_keeps : (q : Queue) (scope : Scope) (body : List ℕ) (group id : Option (List ℕ)) → IsSoundQueue q → Keeps w 0 q (send_with q scope now body group id).1
  send_with_keeps q scope body None id s = stays w q s
  send_with_keeps q scope body (Some group) None s = stays w q s
  send_with_keeps q scope body (Some group) (Some id) s = send_unless_keeps q body group _ id _ s

  pub send_fifo_keeps :
      (q : Queue) (content : Bool) (scope : Scope) (body : List ℕ) (group id : Option (List ℕ)) (delay : Option ℕ) → IsSoundQueue q
      → Keeps w 0 q (send_fifo q content scope now body group id delay).1
  send_fifo_keeps q content scope body group id delay s =
      either (λ (r : Result Sent Refusal × Queue). Keeps w 0 q r.1) _ _ _ (stays w q s) (send_with_keeps q scope body group _ s)

  -- deletes
  pub delete_keeps : (q : Queue) (k : Kind) (r : Receipt) → IsSoundQueue q → Keeps w 0 q (delete_as k q now r).1
  delete_keeps q k r s =
      delete_by (λ x. Keeps w 0 q x.1) q now r (record { refused = stays w q s; gone = λ _ _. stays w q s; kept = λ _ _. stays w q s; taken = λ m f. taken_keeps w q r.number s }) k

  -- changes
  later_keeps : (q : Queue) (n timeout : ℕ) → IsSoundQueue q → (timeout == 0) ≡ false → Keeps w 0 q (with_change q n (in_flight_until (now + 1000 * timeout)))
  later_keeps q n timeout s h =
      let z : 0 < timeout = grind (arith, eqb-false timeout 0 h) in
      changed_keeps w q n (in_flight_until (now + 1000 * timeout)) s (λ x. refl) (λ x. omega (arith, w.past (release_key w.site (now + 1000 * timeout) x) (omega arith)))

  pub change_keeps : (q : Queue) (r : Receipt) (timeout : ℕ) → IsSoundQueue q → Keeps w 0 q (change q now r timeout).1
  change_keeps q r timeout s =
      change_by (λ x. Keeps w 0 q x.1) q now r timeout
      (record { refused = λ x. stays w q s; back = λ _ _ _ h. released_keeps w q r.number s; kept = λ _ _ _ h. later_keeps q r.number timeout s h })

  -- arrivals
  settled_keeps : (q : Queue) (m : Message) (b : Bool) → IsSoundQueue q → m.number ≡ q.arrivals → m.release ≡ None → is_too_old q now m ≡ b → Keeps w 0 q (settled_when b q m).1
  settled_keeps q m true s h k o = spent_keeps w q s
  settled_keeps q m false s h k o =
      let young : now - m.enqueued < q.settings.retention = leb-false q.settings.retention (now - m.enqueued) o in
      let t : w.of (expiry_key w.site q.settings.retention m) ≡ 0 = w.past (expiry_key w.site q.settings.retention m) (omega arith) in
      let u : release_weight w m ≡ 0 = ap (weigh_if (λ at. w.of (release_key w.site at m))) k in
      pushed_keeps w q m s h (omega arith)

  sent_of_keeps : (q before : Queue) (x : Result Sent Refusal × Queue) → Keeps w 0 q x.1 → Keeps w 0 q (sent_of before x).1
  sent_of_keeps q before (Ok a, r) h = h
  sent_of_keeps q before (Err a, r) h = h

  forwarded_keeps : (q : Queue) (k : Kind) (id : MessageId) (body : List ℕ) (group : Option (List ℕ)) → IsSoundQueue q → Keeps w 0 q (forwarded k q now id body group).1
  forwarded_keeps q (Standard hosts sampled) id body group s = sent_of_keeps q q (send_standard q now body None) (send_standard_keeps q body None s)
  forwarded_keeps q (Fifo content scope) id body group s = sent_of_keeps q q _ (send_unless_keeps q body _ _ _ _ s)

  pub arrived_keeps : (q : Queue) (x : Load) → IsSoundQueue q → Keeps w 0 q (arrived q now x).1
  arrived_keeps q (Redrive id group origin body enqueued) s = settled_keeps q _ _ s refl refl refl
  arrived_keeps q (Move id group origin body) s = settled_keeps q _ _ s refl refl refl
  arrived_keeps q (Forward id group body) s = forwarded_keeps q q.settings.kind id body group s
