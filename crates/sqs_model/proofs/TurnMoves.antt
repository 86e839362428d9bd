-- An actor's turn, act after act, and the answers to waiting polls make nothing due by the present, and send only what arrives later.
use Rattle.sim_clock.specs.declared.key.Key.{Key}
use Rattle.sqs_model.proofs.ActorMoves.{Acts, IsWakeWhere, next_acts, IsLater}
use Rattle.sqs_model.proofs.CoreLaws.{changed_same, given_same}
use Rattle.sqs_model.proofs.Counts.{find_all, find_changed, find_picked, total_drop, total, total_push}
use Rattle.sqs_model.proofs.EachDue.{step_key, wake_key}
use Rattle.sqs_model.proofs.Weights.{Weight, poll_weight, task_weight}
use Rattle.sqs_model.proofs.Effects.{KeepsCore, KeepsEffect, actor_keeps, after_core, came_back_keeps, polls_keep, queue_keeps, sound_drawn, task_keeps, with_rows, same_core}
use Rattle.sqs_model.proofs.QueueMoves.{Keeps, change_keeps, delete_keeps, send_fifo_keeps, send_standard_keeps, give_keeps}
use Rattle.sqs_model.proofs.Sending.{Sends}
use Rattle.sqs_model.proofs.Walk.{TurnLaw, most_goes, next_goes, polls_go}
use Rattle.sqs_model.specs.Actor.{Actor, next}
use Rattle.sqs_model.specs.Acts.{came_back, sends, with_poll}
use Rattle.sqs_model.specs.Calls.{change, delete}
use Rattle.sqs_model.specs.Draw.{drawn_uniform}
use Rattle.sqs_model.specs.Polls.{acts_found, acts_most, answer_polls, told, without_poll}
use Rattle.sqs_model.specs.Progress.{IsSound, IsSoundActor, IsSoundQueue, TakesTime, WakesFor}
use Rattle.sqs_model.specs.Queue.{Queue}
use Rattle.sqs_model.specs.Receive.{timeout_of, to_give, give_most}
use Rattle.sqs_model.specs.Site.{Core, Poll, actor_numbered, is_task, task_numbered, with_actor, with_queue, with_task, is_actor}
use Rattle.sqs_model.specs.Task.{Task}
use Rattle.sqs_model.specs.declared.acts.Act.{Act}
use Rattle.sqs_model.specs.declared.acts.Answer.{Answer}
use Rattle.sqs_model.specs.declared.agents.Role.{Role}
use Rattle.sqs_model.specs.declared.acts.Standing.{Standing}
use Rattle.sqs_model.specs.declared.agents.Role.TheVariants.{Consumer, Producer, Scaler, Script}
use Rattle.sqs_redrive.specs.MoveTasks.{task_started}
use Rattle.sqs_redrive.specs.declared.settings.Kind.{Kind}
use Rattle.sqs_redrive.specs.declared.settings.Kind.TheVariants.{Fifo, Standard}
use Rattle.sqs_redrive.specs.declared.settings.TaskStatus.TheVariants.{Cancelled}
use Rattle.sqs_redrive.specs.declared.transfers.Outbound.{Outbound}
use Rattle.std.proofs.Common.{arith, inl, inr, refl, subst, sym}
use Rattle.std.proofs.lemmas.Bool.{eq-eqb, eqb-true, eqb-false}
use Rattle.std.proofs.lemmas.List.Elements.{All-append, All-cons, All-nil}
use Rattle.std.specs.Prelude.{find, List, Option, Some, [], false, ℕ, ◌*◌, ◌+◌, ◌++◌, ◌<◌, ◌==◌, ◌∷◌, ◌≡◌, drop}
use Rattle.sqs_model.specs.declared.acts.Answer.TheVariants as told_by
use Rattle.sqs_model.specs.Dues.{poll_key}

-- a script's wake is for its next call, however many polls it had
pub polls_wake : (r : Role) (a : Actor) (n : ℕ) → WakesFor r a → WakesFor r (record a { polls = n })
polls_wake (Script script) a n w = w
polls_wake (Producer p) a n w = w
polls_wake (Consumer c) a n w = w
polls_wake (Scaler s) a n w = w

-- a task that was found by a number is the one of its own number
pub task_own : (c : Core) (n : ℕ) (t : Task) → task_numbered n c ≡ Some t → task_numbered t.number c ≡ Some t
task_own c n t h = let k : t.number ≡ n = eqb-true t.number n (find_picked (is_task n) c.tasks t h) in subst (λ (j : ℕ). task_numbered j c ≡ Some t) (sym k) h

pub task_time : (c : Core) (n : ℕ) (t : Task) → IsSound c → task_numbered n c ≡ Some t → TakesTime t.move.settings.latency
task_time c n t s h = find_all (is_task n) (λ x. TakesTime x.move.settings.latency) c.tasks t s.tasks h

-- an actor that was found by a number is the one of its own number
actor_own : (c : Core) (n : ℕ) (a : Actor) → actor_numbered n c ≡ Some a → actor_numbered a.number c ≡ Some a
actor_own c n a h = let k : a.number ≡ n = eqb-true a.number n (find_picked (is_actor n) c.actors a h) in subst (λ (j : ℕ). actor_numbered j c ≡ Some a) (sym k) h

-- an actor that is put back is found
actor_back : (c : Core) (a b : Actor) → actor_numbered a.number c ≡ Some a → b.number ≡ a.number → actor_numbered b.number (with_actor c b) ≡ Some b
actor_back c a b h n =
    let k : actor_numbered b.number c ≡ Some a = subst (λ (j : ℕ). actor_numbered j c ≡ Some a) (sym n) h in
    find_changed (is_actor b.number) (λ _. b) c.actors a k (eq-eqb b.number b.number refl)

module _ (key : Key) (w : Weight key.at) where
  pub sends_keeps :
      (k : Kind) (q : Queue) (body : List ℕ) (delay : Option ℕ) (group id : Option (List ℕ)) → IsSoundQueue q
      → Keeps w 0 q (sends k q key.at body delay group id).1
  sends_keeps (Standard hosts sampled) q body delay group id s = send_standard_keeps key.at w q body delay s
  sends_keeps (Fifo content scope) q body delay group id s = send_fifo_keeps key.at w q content scope body group id delay s

  pub with_poll_keeps :
      (a : Actor) (c : Core) (max wait : ℕ) (timeout : Option ℕ) → IsSound c → IsSoundActor a → actor_numbered a.number c ≡ Some a → (wait == 0) ≡ false
      → KeepsCore w 0 c (with_poll key a c max wait timeout)
  with_poll_keeps a c max wait timeout s k h z =
      let some : 0 < wait = grind (arith, eqb-false wait 0 z) in
      let p : Poll = record { actor = a.number; number = a.polls; max = max; timeout = timeout; end = key.at + 1000 * wait } in
      let b : Actor = record a { polls = a.polls + 1 } in
      let j : IsSoundActor b = record { role = k.role; wakes = polls_wake a.settings.role a (a.polls + 1) k.wakes } in
      let d : KeepsCore w 0 c (with_actor c b) = actor_keeps w 0 c b a s h j (omega arith) in
      let t : poll_weight w p ≡ 0 = w.past (poll_key p) (omega arith) in
      let u : total (poll_weight w) (c.polls ++ p ∷ []) ≡ total (poll_weight w) c.polls + poll_weight w p = total_push (poll_weight w) c.polls p in
      let f : KeepsCore w 0 (with_actor c b) (record (with_actor c b) { polls = c.polls ++ p ∷ [] }) = polls_keep w 0 (with_actor c b) (c.polls ++ p ∷ []) d.sound (omega arith) in
      record { sound = f.sound; fewer = omega arith }

  pub tasks_keep : (c : Core) (n : ℕ) (t u : Task) → IsSound c → task_numbered n c ≡ Some t → u.number ≡ t.number → u.move.settings ≡ t.move.settings → task_weight w u ≡ 0 → KeepsCore w 0 c (with_task c u)
  tasks_keep c n t u s h i j z =
      let own : task_numbered u.number c ≡ Some t = subst (λ (k : ℕ). task_numbered k c ≡ Some t) (sym i) (task_own c n t h) in
      let time : TakesTime u.move.settings.latency = subst (λ (x : _). TakesTime x.latency) (sym j) (task_time c n t s h) in
      task_keeps w 0 c u t s own time (omega arith)

  pub turn_keeps : (gone n : ℕ) (answer : Answer) (c : Core) (a : Actor) → IsSound c → actor_numbered n c ≡ Some a → IsWakeWhere key.at w gone a answer → KeepsCore w gone c (with_actor c (next a key.at answer).1)
  turn_keeps gone n answer c a s h g =
      let sound : IsSoundActor a = find_all (is_actor n) IsSoundActor c.actors a s.actors h in
      let x : Acts key.at w gone a (next a key.at answer) = next_acts key.at w gone a answer sound g in
      let same : actor_numbered (next a key.at answer).1.number c ≡ Some a = subst (λ (j : ℕ). actor_numbered j c ≡ Some a) (sym x.number) (actor_own c n a h) in
      actor_keeps w gone c (next a key.at answer).1 a s same x.sound x.wake

  pub none_gone : (a : Actor) (answer : Answer) → IsWakeWhere key.at w 0 a answer
  none_gone a (told_by.Wake st) = inl refl
  none_gone a (told_by.Got gots) = refl
  none_gone a told_by.Waiting = refl
  none_gone a told_by.Other = refl

  -- what an actor may do that stands among these, after its turn
  abbrev pub Stands : List Actor → Actor → Type 0
  Stands actors a = IsSoundActor a × (find (is_actor a.number) actors ≡ Some a)

  pub turn_stands : (gone n : ℕ) (answer : Answer) (c : Core) (a : Actor) → IsSound c → actor_numbered n c ≡ Some a → IsWakeWhere key.at w gone a answer → Stands (with_actor c (next a key.at answer).1).actors (next a key.at answer).1 × Sends (IsLater key.at) (next a key.at answer).0
  turn_stands gone n answer c a s h g =
      let sound : IsSoundActor a = find_all (is_actor n) IsSoundActor c.actors a s.actors h in
      let x : Acts key.at w gone a (next a key.at answer) = next_acts key.at w gone a answer sound g in
      ((x.sound, actor_back c a (next a key.at answer).1 (actor_own c n a h) x.number), x.sends)

  -- a site that came of another, and then of that
  module _ (from : Core) (gone : ℕ) where
    pub then_core : (c d : Core) → KeepsCore w gone from c → KeepsCore w 0 c d → KeepsCore w gone from d
    then_core c d h k = record { sound = k.sound; fewer = omega (arith, h.fewer, k.fewer) }

    pub then_queue : (c : Core) (q : Queue) → KeepsCore w gone from c → Keeps w 0 c.queue q → KeepsCore w gone from (with_queue c q)
    then_queue c q h k = then_core c (with_queue c q) h (queue_keeps w 0 c q h.sound k)

    -- the law of turns
    abbrev pub moves : TurnLaw key
    moves =
        record {
          Past = Unit {0};
          At = λ _ ls c. KeepsCore w gone from c;
          Goes = λ _ ls f. KeepsEffect key w gone from f;
          after = λ _ _. tt;
          done = λ _ ls f h. record { sound = h.sound; fewer = h.fewer };
          joins = λ _ ls ms f g h k. record { sound = k.sound; fewer = k.fewer; later = All-append (λ (o : Outbound). key.at < o.at) f.sent (g f.core).sent h.later k.later };
          quiet = λ _ ls ms c d rows h r k. with_rows key w gone from d rows k;
          stays = λ _ ls c h. h;
          leaves = λ _ ls c n load h. after_core key w gone from c (came_back key c n (Some load)) h (came_back_keeps key w c n (Some load) h.sound);
          gives = λ _ c max timeout set h. given_same (KeepsCore w gone from) c timeout (give_most c.queue key.at max timeout set) (then_queue c _ h (give_keeps key.at w (timeout_of c.queue timeout) (to_give c.queue max set) c.queue h.sound.queue));
          changes = λ _ c r timeout h. changed_same (KeepsCore w gone from) c timeout (change c.queue key.at r timeout) (then_queue c _ h (change_keeps key.at w c.queue r timeout h.sound.queue));
          deletes = λ _ a c text r h. with_rows key w gone from (with_queue c (delete c.queue key.at r).1) _ (then_queue c _ h (delete_keeps key.at w c.queue c.queue.settings.kind r h.sound.queue));
          sends = λ _ a c body delay group id h.
              let q : Queue = (sends c.queue.settings.kind c.queue key.at body delay group id).1 in
              with_rows key w gone from (with_queue c q) _ (then_queue c q h (sends_keeps c.queue.settings.kind c.queue body delay group id h.sound.queue));
          draws = λ _ c hosts h. record { sound = sound_drawn c (drawn_uniform 0 hosts c.draws).1 h.sound; fewer = h.fewer };
          starts = λ _ c n t i h. let u : Task = record t { move = task_started t.move key.at } in then_core c (with_task c u) h (tasks_keep c n t u h.sound i refl refl (w.past (step_key u) (omega arith)));
          cancels = λ _ c n t i h. let u : Task = record t { move = record t.move { status = Cancelled } } in then_core c (with_task c u) h (tasks_keep c n t u h.sound i refl refl refl);
          Stands = Stands;
          Sent = IsLater key.at;
          turns = λ _ n c a x i h.
              let s = turn_stands 0 n x c a h.sound i (none_gone a x) in
              (then_core c (with_actor c (next a key.at x).1) h (turn_keeps 0 n x c a h.sound i (none_gone a x)), s.0, s.1);
          polls = λ _ a c max wait timeout z s h. then_core c (with_poll key a c max wait timeout) h (with_poll_keeps a c max wait timeout h.sound s.0 s.1 z);
          forwards = λ _ a c id o s h. record { sound = h.sound; fewer = h.fewer; later = All-cons (λ (x : Outbound). key.at < x.at) o [] s (All-nil (λ (x : Outbound). key.at < x.at)) };
        }

    pub without_keeps : (c : Core) → KeepsCore w gone from c → KeepsCore w gone from (without_poll c)
    without_keeps c h = then_core c (without_poll c) h (polls_keep w 0 c (drop 1 c.polls) h.sound (omega (arith, total_drop (poll_weight w) c.polls)))

  pub told_keeps : (n : ℕ) (answer : Answer) (c : Core) → IsSound c → KeepsEffect key w 0 c (told key n answer c)
  told_keeps n answer c s = most_goes key (moves c 0) 3 n answer tt c (same_core w c s)

  -- an actor that wakes at the present
  pub wake_keeps : (n : ℕ) (st : Standing) (c : Core) (a : Actor) → IsSound c → actor_numbered n c ≡ Some a → a.wake ≡ Some key.at → KeepsEffect key w (w.of (wake_key key.at a)) c (told key n (told_by.Wake st) c)
  wake_keeps n st c a s h now =
      let gone : ℕ = w.of (wake_key key.at a) in
      let x : Act × Actor = next a key.at (told_by.Wake st) in
      let t = turn_stands gone n (told_by.Wake st) c a s h (inr (now, refl)) in
      subst (λ (o : Option Actor). KeepsEffect key w gone c (acts_found (acts_most 2 key n) key (told_by.Wake st) c o)) (sym h)
      (next_goes key (moves c gone) (acts_most 2 key n) tt c x.0 x.1 (most_goes key (moves c gone) 2 n) t.0 t.1 (turn_keeps gone n (told_by.Wake st) c a s h (inr (now, refl))))

  pub polls_answered_keep : (ps : List Poll) (c : Core) → IsSound c → KeepsEffect key w 0 c (answer_polls key ps c)
  polls_answered_keep ps c s = polls_go key (moves c 0) (λ _ d h. without_keeps c 0 d h) ps tt c (same_core w c s)
