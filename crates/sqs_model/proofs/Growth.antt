-- The counts of a site only grow, whatever is handled there.
use Rattle.std.specs.Prelude.{Bool, List, Option, Some, [], cond, false, find, length, map, max, take, true, ℕ, ◌+◌, ◌∷◌, ◌≡◌, ◌≤◌}
use Rattle.std.proofs.Common.{ap, arith, refl, sym, ◌∙◌}
use Rattle.std.proofs.lemmas.Bool.{eq-eqb, eqb-true}
use Rattle.sim_clock.specs.declared.key.Key.{Key}
use Rattle.sim_clock.specs.Firsts.{changed}
use Rattle.sim_engine.proofs.Counted.{max_up}
use Rattle.sqs_model.specs.declared.acts.Act.{Act}
use Rattle.sqs_model.specs.declared.acts.Answer.{Answer}
use Rattle.sqs_redrive.specs.declared.answers.Got.{Got}
use Rattle.sqs_redrive.specs.declared.answers.Rest.{Rest}
use Rattle.sqs_redrive.specs.declared.transfers.Load.{Load}
use Rattle.sqs_redrive.specs.declared.settings.TaskStatus.TheVariants.{Cancelled}
use Rattle.sqs_redrive.specs.MoveTasks.{task_started, task_stepped}
use Rattle.sqs_model.specs.Actor.{Actor, next}
use Rattle.sqs_model.specs.Acts.{act_made, with_poll, all_came_back, receive_some}
use Rattle.sqs_model.specs.Available.{all_available}
use Rattle.sqs_model.specs.Calls.{change}
use Rattle.sqs_model.specs.Draw.{Draws, drawn_latency}
use Rattle.sqs_model.specs.Limits.{CountsOnlyGrow}
use Rattle.sqs_model.specs.Counts.{actor_count, greatest, site_count, task_count}
use Rattle.sqs_model.specs.Polls.{acts_most, answer_polls, told}
use Rattle.sqs_model.specs.Queue.{Queue}
use Rattle.sqs_model.specs.Receive.{timeout_of, to_give}
use Rattle.sqs_model.specs.Site.{Core, Effect, Poll, actor_numbered, is_actor, is_task, task_numbered, with_actor, with_queue, with_task}
use Rattle.sqs_model.specs.Step.{handle_step, moves, one_sent}
use Rattle.sqs_model.specs.Task.{Task, take_movable}
use Rattle.sqs_model.proofs.Effects.{latency_words}
use Rattle.sqs_model.proofs.Counts.{find_picked}
use Rattle.sqs_model.proofs.Decisions.{next_decides}
use Rattle.sqs_model.proofs.CoreLaws.{CoreHandlingLaw, CoreTurnLaw, given_at, handles, turns as turns_of}
use Rattle.sqs_model.proofs.Sending.{always_sends}
use Rattle.sqs_model.proofs.Walk.{act_goes, all_back_goes, handled_goes, most_goes, polls_go, some_goes}
use Rattle.sqs_model.proofs.Kept.{give_up, up}
use Rattle.sqs_model.proofs.QueueWalk.{arrived_keeps, change_keeps, changed_keeps, delete_keeps, expired_keeps, released_keeps, sends_keep, take_keeps}

-- the greatest number of a list, where one of it is changed into something no less
changed_up : {A : Type 0} (f : A → ℕ) (p : A → Bool) (y : A) (xs : List A) → ((x : A) → find p xs ≡ Some x → f x ≤ f y) → greatest (map f xs) ≤ greatest (map f (changed p (λ _. y) xs))
changed_up f p y [] h = omega arith
changed_up f p y (x ∷ xs) h =
    elim (p x) as
    (λ b. ((z : _) → cond b (Some x) (find p xs) ≡ Some z → f z ≤ f y) → max (f x) (greatest (map f xs)) ≤ greatest (map f (cond b (y ∷ xs) (x ∷ changed p (λ _. y) xs)))) [
      | true ↦ λ k. max_up (f x) (f y) (greatest (map f xs)) (greatest (map f xs)) (k x refl) (omega arith)
      | false ↦ λ k. max_up (f x) (f x) (greatest (map f xs)) (greatest (map f (changed p (λ _. y) xs))) (omega arith) (changed_up f p y xs k)
    ] h

-- what a test finds where its first pick was changed
pub changed_found : {A : Type 0} (p : A → Bool) (y : A) (xs : List A) (z : A) → p y ≡ true → find p (changed p (λ _. y) xs) ≡ Some z → z ≡ y
changed_found p y [] z t h = cc
changed_found p y (x ∷ xs) z t h =
    elim (p x) as (λ b. p x ≡ b → find p (cond b (y ∷ xs) (x ∷ changed p (λ _. y) xs)) ≡ Some z → z ≡ y) [
      | true ↦ λ e k. let found : Some y ≡ Some z = sym (ap (λ b. cond b (Some y) (find p xs)) t) ∙ k in cc
      | false ↦ λ e k. changed_found p y xs z t (sym (ap (λ b. cond b (Some x) (find p (changed p (λ _. y) xs))) e) ∙ k)
    ] refl h

-- each count of a site is at most that of another
pub record Grows (c d : Core) : Type 0 where
  pub arrivals : c.queue.arrivals ≤ d.queue.arrivals
  pub sent : c.sent ≤ d.sent
  pub words : c.draws.taken ≤ d.draws.taken
  pub samples : c.samples ≤ d.samples
  pub actors : greatest (map actor_count c.actors) ≤ greatest (map actor_count d.actors)
  pub tasks : greatest (map task_count c.tasks) ≤ greatest (map task_count d.tasks)

pub same : (c : Core) → Grows c c
same c =
    record { arrivals = omega arith; sent = omega arith; words = omega arith; samples = omega arith; actors = omega arith; tasks = omega arith }

-- so is the greatest
pub grown : (c d : Core) → Grows c d → site_count c ≤ site_count d
grown c d g =
    let agents : max (greatest (map actor_count c.actors)) (max (greatest (map task_count c.tasks)) 0) ≤ max (greatest (map actor_count d.actors)) (max (greatest (map task_count d.tasks)) 0) =
    max_up _ _ _ _ g.actors (max_up _ _ 0 0 g.tasks (omega arith)) in
    max_up _ _ _ _ g.arrivals (max_up _ _ _ _ g.sent (max_up _ _ _ _ g.words (max_up _ _ _ _ g.samples agents)))

-- an actor after a turn: it keeps its number, and no count of it is less
pub record Turns (a b : Actor) : Type 0 where
  pub number : b.number ≡ a.number
  pub wakes : a.wakes ≤ b.wakes
  pub polls : a.polls ≤ b.polls
  pub sent : a.sent ≤ b.sent
  pub words : a.draws.taken ≤ b.draws.taken

turned : (a b : Actor) → Turns a b → actor_count a ≤ actor_count b
turned a b t = max_up _ _ _ _ t.wakes (max_up _ _ _ _ t.polls (max_up _ _ _ _ t.sent (max_up _ _ 0 0 t.words (omega arith))))

pub next_up : (a : Actor) (now : ℕ) (w : Answer) → Turns a (next a now w).1
next_up a now w = let d = next_decides now a w in record { number = d.number; wakes = d.wakes; polls = omega (arith, d.polls); sent = d.sent; words = d.words }

-- an actor that may stand in the place of the one of its number: no count falls
abbrev pub MayStand : Core → Actor → Type 0
MayStand c a = (x : Actor) → actor_numbered a.number c ≡ Some x → actor_count x ≤ actor_count a

-- one that stands there may
pub stands : (c : Core) (a : Actor) → MayStand (with_actor c a) a
stands c a x h =
    let own : is_actor a.number a ≡ true = eq-eqb a.number a.number refl in
    let e : x ≡ a = changed_found (is_actor a.number) a c.actors x own h in
    rw e (omega arith)

-- a task that may stand in the place of the one of its number
abbrev TaskMayStand : Core → Task → Type 0
TaskMayStand c t = (x : Task) → task_numbered t.number c ≡ Some x → task_count x ≤ task_count t

-- the task of a number, with other counts
task_stands : (c : Core) (n : ℕ) (t u : Task) → task_numbered n c ≡ Some t → u.number ≡ t.number → task_count t ≤ task_count u → TaskMayStand c u
task_stands c n t u h e l x k =
    let own : t.number ≡ n = eqb-true t.number n (find_picked (is_task n) c.tasks t h) in
    let found : Some t ≡ Some x = sym h ∙ ap (λ j. task_numbered j c) (sym (e ∙ own)) ∙ k in
    let is : x ≡ t = cc in
    rw is l

-- an actor that took its turn may stand in its place
pub turn_may_stand : (c : Core) (i : ℕ) (a b : Actor) → actor_numbered i c ≡ Some a → Turns a b → MayStand c b
turn_may_stand c i a b e t x k =
    let own : a.number ≡ i = eqb-true a.number i (find_picked (is_actor i) c.actors a e) in
    let found : Some a ≡ Some x = sym e ∙ ap (λ j. actor_numbered j c) (sym (t.number ∙ own)) ∙ k in
    let is : x ≡ a = cc in
    rw is (turned a b t)

module _ (from : Core) where
  -- what is left after an effect, beside what was there
  abbrev Up : Effect → Type 0
  Up e = Grows from e.core

  queue_to : (c : Core) (q : Queue) → Grows from c → from.queue.arrivals ≤ q.arrivals → Grows from (with_queue c q)
  queue_to c q h k = record { arrivals = k; sent = h.sent; words = h.words; samples = h.samples; actors = h.actors; tasks = h.tasks }

  actor_to : (c : Core) (a : Actor) → Grows from c → MayStand c a → Grows from (with_actor c a)
  actor_to c a h k =
      let up : greatest (map actor_count c.actors) ≤ greatest (map actor_count (changed (is_actor a.number) (λ _. a) c.actors)) = changed_up actor_count (is_actor a.number) a c.actors k in
      record { arrivals = h.arrivals; sent = h.sent; words = h.words; samples = h.samples; actors = omega (arith, h.actors, up); tasks = h.tasks }

  task_to : (c : Core) (t : Task) → Grows from c → TaskMayStand c t → Grows from (with_task c t)
  task_to c t h k =
      let up : greatest (map task_count c.tasks) ≤ greatest (map task_count (changed (is_task t.number) (λ _. t) c.tasks)) = changed_up task_count (is_task t.number) t c.tasks k in
      record { arrivals = h.arrivals; sent = h.sent; words = h.words; samples = h.samples; actors = h.actors; tasks = omega (arith, h.tasks, up) }

  polls_to : (key : Key) (a : Actor) (c : Core) (max wait : ℕ) (timeout : Option ℕ) → MayStand c a → Grows from c → Grows from (with_poll key a c max wait timeout)
  polls_to key a c max wait timeout m h =
      let more : Actor = record a { polls = a.polls + 1 } in
      let up : actor_count a ≤ actor_count more =
      turned a more (record { number = refl; wakes = omega arith; polls = omega arith; sent = omega arith; words = omega arith }) in
      let g : Grows from (with_actor c more) = actor_to c more h (λ x k. let l : actor_count x ≤ actor_count a = m x k in omega (arith, l, up)) in
      record { arrivals = g.arrivals; sent = g.sent; words = g.words; samples = g.samples; actors = g.actors; tasks = g.tasks }

  pub moves_up : (key : Key) (c : Core) (t : Task) (loads : List (ℕ × Load)) → ((moves key c t loads).task.number ≡ t.number) × ((moves key c t loads).task.move ≡ t.move) × (task_count t ≤ task_count (moves key c t loads).task)
  moves_up key c t [] = (refl, refl, omega arith)
  moves_up key c t (x ∷ rest) =
      let drawn : ℕ × Draws = drawn_latency t.move.settings.latency t.draws in
      let u : Task = one_sent t drawn.1 in
      let up : task_count t ≤ task_count u =
      max_up t.move.steps t.move.steps _ _ (omega arith)
      (max_up t.sent (t.sent + 1) _ _ (omega arith)
      (max_up t.draws.taken drawn.1.taken 0 0 (latency_words t.move.settings.latency t.draws.taken t.draws (omega arith)) (omega arith))) in
      let others = moves_up key c u rest in
      (others.0, others.1, omega (arith, up, others.2))

  step_up : (key : Key) (c : Core) (t : Task) → task_numbered key.agent c ≡ Some t → Grows from c → Up (handle_step key c (Some t))
  step_up key c t e h =
      let x : (List (ℕ × Load) × Rest) × Queue = take_movable c.queue t.move.settings.per_second t.move.settings.to in
      let d : Core = with_queue c x.1 in
      let g : Grows from d = queue_to c x.1 h (take_keeps key.at (up from.queue.arrivals key.at) t.move.settings.to (take t.move.settings.per_second (all_available c.queue)) c.queue h.arrivals) in
      let after : Task = (moves key d t x.0.0).task in
      let done : Task = record after { move = task_stepped after.move key.at (length x.0.0) x.0.1 } in
      let m = moves_up key d t x.0.0 in
      let up : task_count after ≤ task_count done = max_up after.move.steps (after.move.steps + 1) _ _ (omega arith) (omega arith) in
      task_to d done g (task_stands d key.agent t done e m.0 (omega (arith, m.2, up)))

  module _ (key : Key) where
    -- the law of turns, and of handlings
    abbrev grows : CoreTurnLaw key
    grows =
        record {
          At = Grows from;
          redrives =
              λ c l h. record { arrivals = h.arrivals; sent = omega (arith, h.sent); words = latency_words l from.draws.taken c.draws h.words; samples = h.samples; actors = h.actors; tasks = h.tasks };
          gives = λ c max timeout set h. queue_to c _ h (give_up from.queue.arrivals key.at (timeout_of c.queue timeout) (to_give c.queue max set) c.queue h.arrivals);
          changes = λ c r timeout h. queue_to c _ h (changed_keeps key.at (up from.queue.arrivals key.at) (change c.queue key.at r timeout) (change_keeps key.at (up from.queue.arrivals key.at) c.queue key.at r timeout h.arrivals));
          deletes = λ c r h. queue_to c _ h (delete_keeps key.at (up from.queue.arrivals key.at) c.queue.settings.kind c.queue key.at r h.arrivals);
          sends = λ c body delay group id h. queue_to c _ h (sends_keep key.at (up from.queue.arrivals key.at) c.queue.settings.kind c.queue body delay group id h.arrivals);
          draws = λ c hosts h. record { arrivals = h.arrivals; sent = h.sent; words = omega (arith, h.words); samples = h.samples; actors = h.actors; tasks = h.tasks };
          starts = λ c n t e h. let u : Task = record t { move = task_started t.move key.at } in task_to c u h (task_stands c n t u e refl (omega arith));
          cancels = λ c n t e h. let u : Task = record t { move = record t.move { status = Cancelled } } in task_to c u h (task_stands c n t u e refl (omega arith));
          Stands = λ actors a. (x : Actor) → find (is_actor a.number) actors ≡ Some x → actor_count x ≤ actor_count a;
          turns = λ n c a w e h. let b : Actor = (next a key.at w).1 in (actor_to c b h (turn_may_stand c n a b e (next_up a key.at w)), stands c b);
          polls = λ a c max wait timeout e s h. polls_to key a c max wait timeout s h;
        }

    abbrev due : CoreHandlingLaw key grows
    due =
        record {
          answers = λ c h. record { arrivals = h.arrivals; sent = h.sent; words = h.words; samples = h.samples; actors = h.actors; tasks = h.tasks };
          ends = λ c h. record { arrivals = h.arrivals; sent = h.sent; words = h.words; samples = h.samples; actors = h.actors; tasks = h.tasks };
          expires = λ c h. queue_to c _ h (expired_keeps key.at (up from.queue.arrivals key.at) c.queue key.at key.number h.arrivals);
          releases = λ c h. queue_to c _ h (released_keeps key.at (up from.queue.arrivals key.at) c.queue key.number h.arrivals).0;
          arrives = λ load c h. queue_to c _ h (arrived_keeps key.at (up from.queue.arrivals key.at) c.queue load tt h.arrivals);
          samples = λ c h. record { arrivals = h.arrivals; sent = h.sent; words = h.words; samples = omega (arith, h.samples); actors = h.actors; tasks = h.tasks };
          steps = λ c t e h. step_up key c t e h;
        }

    pub all_back_up : (gs : List Got) (c : Core) → Grows from c → Up (all_came_back key gs c)
    all_back_up gs c h = all_back_goes key (turns_of key grows) gs tt c h

    pub some_up : (a : Actor) (c : Core) (max wait : ℕ) (timeout : Option ℕ) (q : Queue) (gots : List Got) → MayStand c a → Grows from c → from.queue.arrivals ≤ q.arrivals → Up (receive_some key a c max wait timeout q gots).effect
    some_up a c max wait timeout q gots m h k = some_goes key (turns_of key grows) tt a c max wait timeout (q, gots) m h (given_at key grows c timeout (q, gots) (queue_to c q h k))

    pub act_up : (a : Actor) (c : Core) (x : Act) → MayStand c a → Grows from c → Up (act_made key a c x).effect
    act_up a c x m h = act_goes key (turns_of key grows) tt a c x m (always_sends (λ _. Unit {0}) (λ _. tt) x) h

    pub told_to : (i : ℕ) (w : Answer) (c : Core) → Grows from c → Up (told key i w c)
    told_to i w c h = most_goes key (turns_of key grows) 3 i w tt c h

    pub polls_up : (ps : List Poll) (c : Core) → Grows from c → Up (answer_polls key ps c)
    polls_up ps c h = polls_go key (turns_of key grows) (λ _ c h. due.answers c h) ps tt c h

  pub most_up : (most : ℕ) (key : Key) (i : ℕ) (w : Answer) (c : Core) → Grows from c → Up (acts_most most key i w c)
  most_up most key i w c h = most_goes key (turns_of key (grows key)) most i w tt c h

-- a handling lets counts only grow
pub handled_up : CountsOnlyGrow
handled_up key s = grown s.core _ (handled_goes key (turns_of key (grows s.core key)) (handles key (grows s.core key) (due s.core key)) tt s (λ _. (λ _. tt, same s.core)) (λ _. same s.core))
