-- What happens at a sound site leaves it sound, makes nothing due by the present, and sends only what arrives later.
use Rattle.std.specs.Prelude.{All, Bool, List, None, Option, Some, [], false, nat_lt, true, ℕ, ◌*◌, ◌+◌, ◌<◌, ◌^◌, ◌∷◌, ◌≡◌, ◌≤◌}
use Rattle.std.proofs.Common.{arith, refl, sym}
use Rattle.std.proofs.lemmas.Bool.{eqb-true}
use Rattle.std.proofs.lemmas.List.Elements.{All-append, All-cons, All-head, All-nil, All-tail}
use Rattle.sim_clock.specs.declared.key.Key.{Key}
use Rattle.sqs_message.specs.declared.row.Row.{Row}
use Rattle.sqs_redrive.specs.declared.settings.Latency.{Latency}
use Rattle.sqs_redrive.specs.declared.settings.Policy.{Policy}
use Rattle.sqs_redrive.specs.declared.transfers.Load.{Load}
use Rattle.sqs_redrive.specs.declared.transfers.Outbound.{Outbound}
use Rattle.sqs_model.specs.declared.agents.ConsumerSettings.{ConsumerSettings}
use Rattle.sqs_model.specs.declared.agents.Distribution.{Distribution}
use Rattle.sqs_model.specs.declared.agents.Distribution.TheVariants.{Quantiles, Uniform}
use Rattle.sqs_model.specs.declared.agents.Groups.{Groups}
use Rattle.sqs_model.specs.declared.agents.Groups.TheVariants.{ByWeight, InTurn}
use Rattle.sqs_model.specs.declared.agents.Quantile.{Quantile}
use Rattle.sqs_model.specs.declared.agents.Serving.{Serving}
use Rattle.sqs_model.specs.declared.agents.Serving.TheVariants.{Each, Once}
use Rattle.sqs_model.specs.Actor.{Actor, backoff_drawn, group_of, outcome, service_of}
use Rattle.sqs_model.specs.Acts.{came_back, redrive_by}
use Rattle.sqs_model.specs.Draw.{Draws, drawn_latency, drawn_time, drawn_uniform, next_word, time_at, time_between}
use Rattle.sqs_model.specs.Progress.{IsSound, IsSoundActor, IsSoundDistribution, IsSoundPolicy, TakesTime}
use Rattle.sqs_model.specs.Queue.{Queue}
use Rattle.sqs_model.specs.Site.{Core, Effect, Poll, actor_numbered, and_then, is_actor, is_task, no_effect, says, task_numbered, with_actor, with_queue, with_task}
use Rattle.sqs_model.specs.Task.{Task}
use Rattle.sqs_model.proofs.Counts.{all_changed, ascends_changed, total, total_changed}
use Rattle.sqs_model.proofs.Weights.{Weight, actor_weight, poll_weight, task_weight, weight}
use Rattle.sqs_model.proofs.Branches.{either}
use Rattle.sqs_model.proofs.QueueMoves.{Keeps}

-- what is drawn between two bounds is the least at least
pub uniform_least : (low high : ℕ) (d : Draws) → low ≤ (drawn_uniform low high d).0
uniform_least low high d = omega arith

pub latency_least : (t : Latency) (d : Draws) → t.least ≤ (drawn_latency t d).0
latency_least t d =
    either (λ (x : ℕ × Draws). t.least ≤ x.0) (nat_lt t.least t.greatest) (drawn_uniform t.least t.greatest d) (t.least, d) (uniform_least t.least t.greatest d) (omega arith)

-- a latency takes a word or none
pub latency_words : (l : Latency) (n : ℕ) (d : Draws) → n ≤ d.taken → n ≤ (drawn_latency l d).1.taken
latency_words l n d h =
    either (λ (x : ℕ × Draws). n ≤ x.1.taken) (nat_lt l.least l.greatest) (drawn_uniform l.least l.greatest d) (l.least, d) (omega (arith, h)) h

-- what is drawn by a distribution of a millisecond at least is a millisecond at least, and takes a word
time_some : (qs : List Quantile) (w : ℕ) → All (λ q. 1 ≤ q.time) qs → 1 ≤ time_at qs w
time_some [] w h = omega arith
time_some (p ∷ []) w h = All-head (λ (q : Quantile). 1 ≤ q.time) p [] h
time_some (p ∷ (q ∷ rest)) w h =
    either (λ (n : ℕ). 1 ≤ n) (nat_lt (w * 1000) (q.permille * 2 ^ 32)) (time_between p q w) (time_at (q ∷ rest) w)
    (omega (arith, All-head (λ (x : Quantile). 1 ≤ x.time) p (q ∷ rest) h)) (time_some (q ∷ rest) w (All-tail (λ (x : Quantile). 1 ≤ x.time) p (q ∷ rest) h))

pub time_least : (x : Distribution) (d : Draws) → IsSoundDistribution x → 1 ≤ (drawn_time x d).0
time_least (Uniform low high) d h = omega (arith, uniform_least low high d)
time_least (Quantiles qs) d h = time_some qs (next_word d) h

pub time_words : (x : Distribution) (d : Draws) → (drawn_time x d).1.taken ≡ d.taken + 1
time_words (Uniform low high) d = refl
time_words (Quantiles qs) d = refl

-- so does a service, of however many messages
pub service_words : (s : Serving) (messages : ℕ) (x : Distribution) (d : Draws) → (service_of s messages (drawn_time x d)).1.taken ≡ d.taken + 1
service_words Each messages x d = time_words x d
service_words (Once each) messages x d = time_words x d

-- whether a service that ends fails takes a word if it was not decided when it began
pub outcome_words : (failed : Option ℕ) (a : Actor) (c : ConsumerSettings) (now : ℕ) → a.draws.taken ≤ (outcome failed a c now).1.taken
outcome_words None a c now = omega arith
outcome_words (Some failed) a c now = omega arith

-- a timeout that is drawn takes a word, one that is not takes none
pub backoff_words : (jitter : Bool) (greatest : ℕ) (d : Draws) → d.taken ≤ (backoff_drawn jitter greatest d).1.taken
backoff_words false greatest d = omega arith
backoff_words true greatest d = omega arith

-- a group in turn takes no word, one by weight takes one
pub group_words : (groups : Option Groups) (n : ℕ) (d : Draws) → d.taken ≤ (group_of groups n d).1.taken
group_words None n d = omega arith
group_words (Some (InTurn groups)) n d = omega arith
group_words (Some (ByWeight groups)) n d = omega arith

-- soundness of a site with another queue, and with more drawn and sent
sound_with : (c : Core) (sent : ℕ) (draws : Draws) → IsSound c → IsSound (record c { sent = sent; draws = draws })
sound_with c sent draws s = record { queue = s.queue; actors = s.actors; actors_ordered = s.actors_ordered; tasks = s.tasks; tasks_ordered = s.tasks_ordered }

pub sound_drawn : (c : Core) (draws : Draws) → IsSound c → IsSound (record c { draws = draws })
sound_drawn c draws s = sound_with c c.sent draws s

-- a site that came of another is sound, and so much of what is due is gone
pub record KeepsCore {now : ℕ} (w : Weight now) (gone : ℕ) (c d : Core) : Type 0 where
  pub sound : IsSound d
  pub fewer : weight w d + gone ≤ weight w c

-- and what was sent arrives later
pub record KeepsEffect (key : Key) (w : Weight key.at) (gone : ℕ) (c : Core) (f : Effect) : Type 0 where
  pub sound : IsSound f.core
  pub fewer : weight w f.core + gone ≤ weight w c
  pub later : All (λ o. key.at < o.at) f.sent

module _ {now : ℕ} (w : Weight now) where
  pub same_core : (c : Core) → IsSound c → KeepsCore w 0 c c
  same_core c s = record { sound = s; fewer = omega arith }

  -- a site with another queue, actor, task or other polls
  pub queue_keeps : (gone : ℕ) (c : Core) (q : Queue) → IsSound c → Keeps w gone c.queue q → KeepsCore w gone c (with_queue c q)
  queue_keeps gone c q s k =
      record {
        sound = record { queue = k.sound; actors = s.actors; actors_ordered = s.actors_ordered; tasks = s.tasks; tasks_ordered = s.tasks_ordered };
        fewer = omega arith;
      }

  pub actor_keeps :
      (gone : ℕ) (c : Core) (a b : Actor) → IsSound c → actor_numbered a.number c ≡ Some b → IsSoundActor a
      → actor_weight w a + gone ≤ actor_weight w b → KeepsCore w gone c (with_actor c a)
  actor_keeps gone c a b s h k m =
      record {
        sound = record {
          queue = s.queue;
          actors = all_changed (is_actor a.number) IsSoundActor (λ _. a) (λ _ _. k) c.actors s.actors;
          actors_ordered = ascends_changed (λ x. x.number) (is_actor a.number) (λ _. a) (λ x p. sym (eqb-true x.number a.number p)) 0 c.actors s.actors_ordered;
          tasks = s.tasks;
          tasks_ordered = s.tasks_ordered;
        };
        fewer = omega (arith, total_changed (is_actor a.number) (actor_weight w) (λ _. a) c.actors b h);
      }

  pub task_keeps :
      (gone : ℕ) (c : Core) (t u : Task) → IsSound c → task_numbered t.number c ≡ Some u → TakesTime t.move.settings.latency
      → task_weight w t + gone ≤ task_weight w u → KeepsCore w gone c (with_task c t)
  task_keeps gone c t u s h k m =
      record {
        sound = record {
          queue = s.queue;
          actors = s.actors;
          actors_ordered = s.actors_ordered;
          tasks = all_changed (is_task t.number) (λ x. TakesTime x.move.settings.latency) (λ _. t) (λ _ _. k) c.tasks s.tasks;
          tasks_ordered = ascends_changed (λ x. x.number) (is_task t.number) (λ _. t) (λ x p. sym (eqb-true x.number t.number p)) 0 c.tasks s.tasks_ordered;
        };
        fewer = omega (arith, total_changed (is_task t.number) (task_weight w) (λ _. t) c.tasks u h);
      }

  pub polls_keep : (gone : ℕ) (c : Core) (ps : List Poll) → IsSound c → total (poll_weight w) ps + gone ≤ total (poll_weight w) c.polls → KeepsCore w gone c (record c { polls = ps })
  polls_keep gone c ps s m =
      record {
        sound = record { queue = s.queue; actors = s.actors; actors_ordered = s.actors_ordered; tasks = s.tasks; tasks_ordered = s.tasks_ordered };
        fewer = omega arith;
      }

module _ (key : Key) (w : Weight key.at) where
  pub with_rows : (gone : ℕ) (c d : Core) (rows : List Row) → KeepsCore w gone c d → KeepsEffect key w gone c (record { core = d; rows = rows; sent = [] })
  with_rows gone c d rows k = record { sound = k.sound; fewer = k.fewer; later = All-nil (λ (o : Outbound). key.at < o.at) }

  pub no_effect_keeps : (c : Core) → IsSound c → KeepsEffect key w 0 c (no_effect c)
  no_effect_keeps c s = with_rows 0 c c [] (same_core w c s)

  pub says_keeps : (c : Core) (r : Row) → IsSound c → KeepsEffect key w 0 c (says c r)
  says_keeps c r s = with_rows 0 c c (r ∷ []) (same_core w c s)

  pub and_then_keeps :
      (gone : ℕ) (c : Core) (f : Effect) (g : Core → Effect) → KeepsEffect key w gone c f → ((d : Core) → IsSound d → KeepsEffect key w 0 d (g d))
      → KeepsEffect key w gone c (and_then f g)
  and_then_keeps gone c f g h k =
      let next : KeepsEffect key w 0 f.core (g f.core) = k f.core h.sound in
      record {
        sound = next.sound;
        fewer = omega arith;
        later = All-append (λ o. key.at < o.at) f.sent (g f.core).sent h.later next.later;
      }

  -- an effect of a site that came of another
  pub after_core : (gone : ℕ) (c d : Core) (f : Effect) → KeepsCore w gone c d → KeepsEffect key w 0 d f → KeepsEffect key w gone c f
  after_core gone c d f h k = record { sound = k.sound; fewer = omega arith; later = k.later }

module _ (key : Key) (w : Weight key.at) where
  -- messages that come back, or leave for the dead-letter queue
  redrive_keeps : (c : Core) (p : Option Policy) (n : ℕ) (x : Load) → IsSound c → IsSoundPolicy p → KeepsEffect key w 0 c (redrive_by p key c n x)
  redrive_keeps c None n x s k = no_effect_keeps key w c s
  redrive_keeps c (Some p) n x s k =
      let t : p.latency.least ≤ (drawn_latency p.latency c.draws).0 = latency_least p.latency c.draws in
      let one : 1 ≤ p.latency.least = k in
      record {
        sound = sound_with c (c.sent + 1) (drawn_latency p.latency c.draws).1 s;
        fewer = omega arith;
        later = All-cons (λ o. key.at < o.at) _ [] (omega arith) (All-nil (λ (o : Outbound). key.at < o.at));
      }

  pub came_back_keeps : (c : Core) (n : ℕ) (o : Option Load) → IsSound c → KeepsEffect key w 0 c (came_back key c n o)
  came_back_keeps c n None s = says_keeps key w c _ s
  came_back_keeps c n (Some x) s = redrive_keeps c c.queue.settings.policy n x s s.queue.settings.policy
