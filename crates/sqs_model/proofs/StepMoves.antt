-- The handling of a due takes it away, and makes nothing else due by the present.
use Rattle.std.specs.Prelude.{All, Bool, List, None, Option, Some, [], false, find, length, take, true, ℕ, ◌*◌, ◌+◌, ◌<◌, ◌==◌, ◌∷◌, ◌≡◌, ◌≤◌}
use Rattle.std.proofs.Common.{ap, arith, refl, subst, sym, ◌∙◌}
use Rattle.std.proofs.Math.Nat.{mul-add}
use Rattle.std.proofs.lemmas.Bool.{eqb-false}
use Rattle.std.proofs.lemmas.List.Elements.{All-cons, All-nil}
use Rattle.sim_clock.specs.declared.key.Key.{Key}
use Rattle.sim_clock.specs.Firsts.{without}
use Rattle.sim_clock.specs.Order.{same_key}
use Rattle.sim_clock.proofs.Least.{key_tied}
use Rattle.sim_clock.proofs.Orderings.{key_self}
use Rattle.sqs_message.specs.declared.message.Message.{Message}
use Rattle.sqs_redrive.specs.declared.answers.Rest.{Rest}
use Rattle.sqs_redrive.specs.declared.transfers.Load.{Load}
use Rattle.sqs_redrive.specs.declared.transfers.Outbound.{Outbound}
use Rattle.sqs_model.specs.Acts.{receive_row}
use Rattle.sqs_message.specs.declared.row.RowAnswer.TheVariants as answers
use Rattle.sqs_model.specs.declared.acts.Answer.TheVariants as told_by
use Rattle.sqs_model.specs.Actor.{Actor}
use Rattle.sqs_model.specs.Arrive.{arrived, expired_found, expired}
use Rattle.sqs_model.specs.Available.{all_available}
use Rattle.sqs_model.specs.Draw.{Draws, drawn_latency}
use Rattle.sqs_model.specs.Dues.{poll_key, expiry_key}
use Rattle.sqs_model.specs.Polls.{answer_polls, told}
use Rattle.sqs_model.specs.Progress.{IsSound, TakesTime}
use Rattle.sqs_model.specs.Queue.{Queue, numbered, taken_out}
use Rattle.sqs_model.specs.Return.{leaves, released_found, released_when}
use Rattle.sqs_model.specs.Site.{Core, Effect, Poll, actor_numbered, task_numbered, with_queue, with_task, Site}
use Rattle.sqs_model.specs.Step.{Moved, ends_at, expiry_done, handle_arrival, handle_expiry, handle_poll_end, handle_release, handle_sample, handle_step, handle_taken, handle_wake, move_out, moves, one_sent, release_done, with_polls, handled, woken_by}
use Rattle.sqs_redrive.specs.MoveTasks.{MoveTask, is_running, task_stepped}
use Rattle.sqs_model.specs.Task.{Task, take_movable}
use Rattle.sqs_model.proofs.Counts.{find_picked, total_without, less_without}
use Rattle.sqs_model.proofs.Members.{From, In, found_by_number, in_found}
use Rattle.sqs_model.proofs.EachDue.{release_key, sample_key, step_key, wake_key}
use Rattle.sqs_model.proofs.Weights.{Weight, message_weight, poll_weight, release_weight, sample_weight, task_weight, weigh_if}
use Rattle.sqs_model.proofs.Effects.{KeepsCore, KeepsEffect, after_core, and_then_keeps, came_back_keeps, latency_least, no_effect_keeps, polls_keep, queue_keeps, task_keeps, with_rows, same_core}
use Rattle.sqs_model.proofs.QueueMoves.{Keeps, arrived_keeps, keeps_less, released_one, take_keeps, taken_found, expired_keeps, released_keeps}
use Rattle.sqs_model.proofs.TurnMoves.{polls_answered_keep, task_own, task_time, then_core, then_queue, told_keeps, wake_keeps, without_keeps, moves as moves_of}
use Rattle.sqs_model.proofs.Walk.{HandlingLaw, effect_of, handled_goes}
use Rattle.sqs_model.proofs.Branches.{either, by_cases}

-- messages that a task moves leave its number and settings, and arrive later
record Sends (key : Key) (t : Task) (m : Moved) : Type 0 where
  pub number : m.task.number ≡ t.number
  pub move : m.task.move ≡ t.move
  pub later : All (λ o. key.at < o.at) m.sent

module _ (key : Key) (w : Weight key.at) where
  -- expiries
  pub expiry_falls : (c : Core) (m : Message) → IsSound c → In c.queue.records m → key ≡ expiry_key w.site c.queue.settings.retention m → KeepsEffect key w (w.of key) c (handle_expiry key c)
  expiry_falls c m s h is =
      let own : numbered m.number c.queue.records ≡ Some m = found_by_number (λ (x : Message). x.number) 0 c.queue.records m s.queue.ordered h in
      let found : numbered key.number c.queue.records ≡ Some m = subst (λ (k : Key). numbered k.number c.queue.records ≡ Some m) (sym is) own in
      let k : Keeps w (w.of key) c.queue (taken_out c.queue key.number) =
      keeps_less w (message_weight w c.queue.settings.retention m) (w.of key) c.queue (taken_out c.queue key.number) (omega (arith, ap w.of is)) (taken_found w c.queue key.number m s.queue found) in
      subst (λ (o : Option Message). KeepsEffect key w (w.of key) c (expiry_done key c (expired_found c.queue key.at key.number o))) (sym found)
      (with_rows key w (w.of key) c (with_queue c (taken_out c.queue key.number)) _ (queue_keeps w (w.of key) c (taken_out c.queue key.number) s k))

  -- releases
  back_falls : (c : Core) (m : Message) (b : Bool) → IsSound c → numbered key.number c.queue.records ≡ Some m → key ≡ release_key w.site key.at m → m.release ≡ Some key.at → KeepsEffect key w (w.of key) c (release_done key c (released_when b c.queue key.number m))
  back_falls c m b s h is r =
      let x : Queue × Option Load = released_when b c.queue key.number m in
      let k : Keeps w (release_weight w m) c.queue x.0 = released_one w c.queue key.number m b s.queue h in
      let u : release_weight w m ≡ w.of key = ap (weigh_if (λ at. w.of (release_key w.site at m))) r ∙ ap w.of (sym is) in
      let d : KeepsCore w (w.of key) c (with_queue c x.0) = queue_keeps w (w.of key) c x.0 s (record { sound = k.sound; fewer = omega (arith, k.fewer, u) }) in
      after_core key w (w.of key) c (with_queue c x.0) (release_done key c x) d (came_back_keeps key w (with_queue c x.0) key.number x.1 d.sound)

  pub release_falls : (c : Core) (m : Message) → IsSound c → In c.queue.records m → key ≡ release_key w.site key.at m → m.release ≡ Some key.at → KeepsEffect key w (w.of key) c (handle_release key c)
  release_falls c m s h is r =
      let own : numbered m.number c.queue.records ≡ Some m = found_by_number (λ (x : Message). x.number) 0 c.queue.records m s.queue.ordered h in
      let found : numbered key.number c.queue.records ≡ Some m = subst (λ (k : Key). numbered k.number c.queue.records ≡ Some m) (sym is) own in
      subst (λ (o : Option Message). KeepsEffect key w (w.of key) c (release_done key c (released_found c.queue key.number o))) (sym found)
      (back_falls c m (leaves c.queue.settings.policy m) s found is r)

  -- arrivals, which are counted elsewhere
  pub arrival_keeps : (c : Core) (o : Option Outbound) → IsSound c → KeepsEffect key w 0 c (handle_arrival key o c)
  arrival_keeps c None s = no_effect_keeps key w c s
  arrival_keeps c (Some o) s =
      with_rows key w 0 c (with_queue c (arrived c.queue key.at o.load).1) _
      (queue_keeps w 0 c (arrived c.queue key.at o.load).1 s (arrived_keeps key.at w c.queue o.load s.queue))

  -- ends of polls
  pub poll_end_falls : (c : Core) (p : Poll) → IsSound c → In c.polls p → poll_key p ≡ key → KeepsEffect key w (w.of key) c (handle_poll_end key c)
  poll_end_falls c p s h k =
      let picked : ends_at key p ≡ true = subst (λ (x : Key). same_key key x ≡ true) (sym k) (key_self key) in
      let f : From c.polls (λ x. find (ends_at key) c.polls ≡ Some x) = in_found (ends_at key) c.polls p h picked in
      let u : w.of key ≡ poll_weight w f.one = ap w.of (key_tied key (poll_key f.one) (find_picked (ends_at key) c.polls f.one f.gives)) in
      let d : KeepsCore w (w.of key) c (record c { polls = without (ends_at key) c.polls }) =
      polls_keep w (w.of key) c (without (ends_at key) c.polls) s (omega (arith, u, total_without (ends_at key) (poll_weight w) c.polls f.one f.gives)) in
      and_then_keeps key w (w.of key) c _ (told key key.agent (told_by.Got []))
      (with_rows key w (w.of key) c (record c { polls = without (ends_at key) c.polls }) (receive_row key c key.agent answers.Empty ∷ []) d)
      (told_keeps key w key.agent (told_by.Got []))

  -- wakes
  pub wake_falls : (c : Core) (a : Actor) → IsSound c → In c.actors a → key ≡ wake_key key.at a → a.wake ≡ Some key.at → KeepsEffect key w (w.of key) c (handle_wake key c)
  wake_falls c a s h is at =
      let own : actor_numbered a.number c ≡ Some a = found_by_number (λ (x : Actor). x.number) 0 c.actors a s.actors_ordered h in
      subst (λ n. KeepsEffect key w n c (handle_wake key c)) (ap w.of (sym is)) (wake_keeps key w key.agent (woken_by c (actor_numbered key.agent c)) c a s (subst (λ (k : Key). actor_numbered k.agent c ≡ Some a) (sym is) own) at)

  -- the next sample is later
  sample_core : (gone : ℕ) (c : Core) → IsSound c → sample_weight w c.sample (c.samples + 1) + gone ≤ sample_weight w c.sample c.samples → KeepsCore w gone c (record c { samples = c.samples + 1 })
  sample_core gone c s m =
      record {
        sound = record { queue = s.queue; actors = s.actors; actors_ordered = s.actors_ordered; tasks = s.tasks; tasks_ordered = s.tasks_ordered };
        fewer = omega (arith, m);
      }

  sample_later : (c : Core) → (c.sample == 0) ≡ false → c.sample * (c.samples + 1) < c.sample * (c.samples + 1 + 1)
  sample_later c z = let some : 0 < c.sample = grind (arith, eqb-false c.sample 0 z) in omega (arith, mul-add c.sample (c.samples + 1) 1)

  pub sample_falls : (c : Core) → IsSound c → (c.sample == 0) ≡ false → key ≡ sample_key w.site c.sample c.samples → KeepsEffect key w (w.of key) c (handle_sample key c)
  sample_falls c s z is =
      let late : w.of (sample_key w.site c.sample (c.samples + 1)) ≡ 0 = w.past (sample_key w.site c.sample (c.samples + 1)) (omega (arith, ap (λ (k : Key). k.at) is, sample_later c z)) in
      with_rows key w (w.of key) c (record c { samples = c.samples + 1 }) _
      (sample_core (w.of key) c s (rw z (omega (arith, late, ap w.of is))))

  -- steps of a task
  moves_send : (c : Core) (t : Task) (xs : List (ℕ × Load)) → TakesTime t.move.settings.latency → Sends key t (moves key c t xs)
  moves_send c t [] h = record { number = refl; move = refl; later = All-nil (λ (o : Outbound). key.at < o.at) }
  moves_send c t (x ∷ xs) h =
      let drawn : ℕ × Draws = drawn_latency t.move.settings.latency t.draws in
      let v : t.move.settings.latency.least ≤ drawn.0 = latency_least t.move.settings.latency t.draws in
      let rest : Sends key (one_sent t drawn.1) (moves key c (one_sent t drawn.1) xs) = moves_send c (one_sent t drawn.1) xs h in
      record {
        number = rest.number;
        move = rest.move;
        later = All-cons (λ (o : Outbound). key.at < o.at) (move_out key c t x.0 x.1 drawn.0) (moves key c (one_sent t drawn.1) xs).sent (omega arith) rest.later;
      }

  -- a task whose next step, if it runs, is later
  later_weight : (t : Task) → key.at < t.move.step_at → task_weight w t ≡ 0
  later_weight t h = either (λ n. n ≡ 0) (is_running t.move.status) (w.of (step_key t)) 0 (w.past (step_key t) h) refl

  taken_falls :
      (gone : ℕ) (c : Core) (t : Task) (x : (List (ℕ × Load) × Rest) × Queue) → IsSound c → task_numbered t.number c ≡ Some t → gone ≤ task_weight w t
      → Keeps w 0 c.queue x.1 → KeepsEffect key w gone c (handle_taken key c t x)
  taken_falls gone c t ((loads, rest), q) s h m k =
      let c' : KeepsCore w 0 c (with_queue c q) = queue_keeps w 0 c q s k in
      let time : TakesTime t.move.settings.latency = task_time c t.number t s h in
      let n : Sends key t (moves key (with_queue c q) t loads) = moves_send (with_queue c q) t loads time in
      let after : Task = (moves key (with_queue c q) t loads).task in
      let u : Task = record after { move = task_stepped after.move key.at (length loads) rest } in
      let own : task_numbered u.number (with_queue c q) ≡ Some t = subst (λ (j : ℕ). task_numbered j c ≡ Some t) (sym n.number) h in
      let later : TakesTime u.move.settings.latency = subst (λ (v : MoveTask). TakesTime v.settings.latency) (sym n.move) time in
      let d : KeepsCore w gone (with_queue c q) (with_task (with_queue c q) u) = task_keeps w gone (with_queue c q) u t c'.sound own later (omega (arith, m, later_weight u (omega arith))) in
      record { sound = d.sound; fewer = omega arith; later = n.later }

  pub step_weighs : (gone : ℕ) (c : Core) (t : Task) → IsSound c → task_numbered t.number c ≡ Some t → gone ≤ task_weight w t → KeepsEffect key w gone c (handle_step key c (Some t))
  step_weighs gone c t s h m =
      taken_falls gone c t (take_movable c.queue t.move.settings.per_second t.move.settings.to) s h m
      (take_keeps w t.move.settings.to (take t.move.settings.per_second (all_available c.queue)) c.queue s.queue)

  pub step_falls :
      (c : Core) (t : Task) → IsSound c → In c.tasks t → key ≡ step_key t → is_running t.move.status ≡ true → KeepsEffect key w (w.of key) c (handle_step key c (task_numbered key.agent c))
  step_falls c t s h is r =
      let own : task_numbered t.number c ≡ Some t = found_by_number (λ (x : Task). x.number) 0 c.tasks t s.tasks_ordered h in
      let found : task_numbered key.agent c ≡ Some t = subst (λ (k : Key). task_numbered k.agent c ≡ Some t) (sym is) own in
      let weighs : task_weight w t ≡ w.of (step_key t) = rw r refl in
      subst (λ (o : Option Task). KeepsEffect key w (w.of key) c (handle_step key c o)) (sym found) (step_weighs (w.of key) c t s own (omega (arith, weighs, ap w.of is)))

  -- and then the waiting polls are answered
  pub with_polls_keep : (gone : ℕ) (c : Core) (f : Effect) → KeepsEffect key w gone c f → KeepsEffect key w gone c (with_polls key f)
  with_polls_keep gone c f k = and_then_keeps key w gone c f (λ d. answer_polls key d.polls d) k (λ d s. polls_answered_keep key w d.polls d s)

  -- the law of handlings, whether the key is due or not
  module _ (from : Core) where
    abbrev due : HandlingLaw key (moves_of key w from 0)
    due =
        record {
          answers = λ _ c h. without_keeps key w from 0 c h;
          ends = λ _ c h. then_core key w from 0 c _ h (polls_keep w 0 c (without (ends_at key) c.polls) h.sound (omega (arith, less_without (ends_at key) (poll_weight w) c.polls)));
          MayExpire = λ _. Unit {0};
          expires = λ _ c m h. with_rows key w 0 from (with_queue c (expired c.queue key.at key.number).1) _ (then_queue key w from 0 c _ h (expired_keeps w c.queue key.at key.number h.sound.queue));
          releases = λ _ c h. then_queue key w from 0 c _ h (released_keeps w c.queue key.number h.sound.queue);
          Comes = λ _ o c. KeepsCore w 0 from c;
          absent = λ _ c h. h;
          arrives = λ _ o c h. after_core key w 0 from c _ h (arrival_keeps c (Some o) h.sound);
          samples = λ _ c h. then_core key w from 0 c _ h (sample_core 0 c h.sound (next_sample c));
          steps = λ _ c t e h. after_core key w 0 from c _ h (step_weighs 0 c t h.sound (task_own c key.agent t e) (omega arith));
        }
      where
        next_sample : (c : Core) → sample_weight w c.sample (c.samples + 1) + 0 ≤ sample_weight w c.sample c.samples
        next_sample c = by_cases (c.sample == 0) (λ z. rw z (omega arith)) (λ z. rw z (omega (arith, w.less (sample_key w.site c.sample (c.samples + 1)) (sample_key w.site c.sample c.samples) (sample_later c z))))

  pub handled_keeps : (s : Site) → IsSound s.core → KeepsEffect key w 0 s.core (effect_of (handled key s))
  handled_keeps s h = handled_goes key (moves_of key w s.core 0) (due s.core) tt s (λ _. (λ _. tt, same_core w s.core h)) (λ _. same_core w s.core h)
