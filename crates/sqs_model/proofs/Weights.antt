-- What is due at a site weighs so much, as a sum over its parts.
use Rattle.std.specs.Prelude.{List, None, Option, Some, [], cond, false, flat_map, map, true, ℕ, ◌+◌, ◌++◌, ◌==◌, ◌∷◌, ◌≡◌, ◌<◌, ◌≤◌, if◌then◌else◌}
use Rattle.std.proofs.Common.{arith, refl, ◌∙◌, subst}
use Rattle.sim_clock.specs.declared.key.Key.{Key}
use Rattle.sqs_message.specs.declared.message.Message.{Message}
use Rattle.sqs_model.specs.Actor.{Actor}
use Rattle.sqs_model.specs.Dues.{actor_dues, core_dues, message_dues, poll_key, queue_dues, release_due, sample_dues, task_dues, wake_due, expiry_key, dues}
use Rattle.sqs_model.specs.Queue.{Queue}
use Rattle.sqs_model.specs.Site.{Core, Poll, number_of, Site}
use Rattle.sqs_redrive.specs.MoveTasks.{is_running}
use Rattle.sqs_model.specs.Task.{Task}
use Rattle.sqs_model.proofs.EachDue.{release_key, sample_key, step_key, wake_key}
use Rattle.sqs_model.proofs.Counts.{tick, total, total_append, total_flat, total_map, total_same, tick_past, tick_less}
use Rattle.sqs_redrive.specs.Transfers.{transfer_key}

-- What keys weigh for a site that handles one of a moment: a later key weighs nothing, and none more than one of an earlier moment.
pub record Weight (now : ℕ) : Type 0 where
  pub of : Key → ℕ
  pub site : ℕ
  pub past : (k : Key) → now < k.at → of k ≡ 0
  pub less : (j k : Key) → k.at < j.at → of j ≤ of k

-- one for each key of a moment or before
abbrev pub ticks : (now e site : ℕ) → e ≤ now → Weight now
ticks now e site l =
    record { of = λ k. tick e k.at; site = site; past = λ k m. tick_past e k.at (omega arith); less = λ j k m. tick_less e k.at j.at (omega arith) }

-- of what is due at some moment, if it is
abbrev pub weigh_if : (ℕ → ℕ) → Option ℕ → ℕ
weigh_if f None = 0
weigh_if f (Some at) = f at

module _ {now : ℕ} (w : Weight now) where
  -- what is due of a message, a queue, a poll, an actor, the samples, a task
  abbrev pub release_weight : Message → ℕ
  release_weight m = weigh_if (λ at. w.of (release_key w.site at m)) m.release

  abbrev pub message_weight : ℕ → Message → ℕ
  message_weight retention m = w.of (expiry_key w.site retention m) + release_weight m

  abbrev pub queue_weight : Queue → ℕ
  queue_weight q = total (message_weight q.settings.retention) q.records

  abbrev pub poll_weight : Poll → ℕ
  poll_weight p = w.of (poll_key p)

  abbrev pub actor_weight : Actor → ℕ
  actor_weight a = weigh_if (λ at. w.of (wake_key at a)) a.wake

  abbrev pub sample_weight : ℕ → ℕ → ℕ
  sample_weight sample samples = cond (sample == 0) 0 (w.of (sample_key w.site sample samples))

  abbrev pub task_weight : Task → ℕ
  task_weight t = cond (is_running t.move.status) (w.of (step_key t)) 0

  -- what is due at a site but for arrivals, and with them
  abbrev pub weight : Core → ℕ
  weight c =
      queue_weight c.queue
      + (total poll_weight c.polls + (total actor_weight c.actors + (sample_weight c.sample c.samples + total task_weight c.tasks)))

  abbrev pub site_weight : Site → ℕ
  site_weight s = total (λ o. w.of (transfer_key o)) s.arriving + weight s.core

  release_is : (m : Message) (release : Option ℕ) → total w.of (release_due w.site m release) ≡ weigh_if (λ at. w.of (release_key w.site at m)) release
  release_is m None = refl
  release_is m (Some at) = omega arith

  message_is : (retention : ℕ) (m : Message) → total w.of (message_dues w.site retention m) ≡ message_weight retention m
  message_is retention m = omega (arith, release_is m m.release)

  wake_is : (a : Actor) (wake : Option ℕ) → total w.of (wake_due a wake) ≡ weigh_if (λ at. w.of (wake_key at a)) wake
  wake_is a None = refl
  wake_is a (Some at) = omega arith

  sample_is : (c : Core) → w.site ≡ number_of c → total w.of (sample_dues c) ≡ sample_weight c.sample c.samples
  sample_is c e =
      subst (λ n. total w.of (if c.sample == 0 then [] else sample_key n c.sample c.samples ∷ []) ≡ sample_weight c.sample c.samples) e
      (elim (c.sample == 0) as (λ b. total w.of (if b then [] else sample_key w.site c.sample c.samples ∷ []) ≡ cond b 0 (w.of (sample_key w.site c.sample c.samples))) [
        | true ↦ refl
        | false ↦ omega arith
      ])

  task_is : (t : Task) → total w.of (task_dues t) ≡ task_weight t
  task_is t =
      elim (is_running t.move.status) as (λ b. total w.of (cond b (step_key t ∷ []) []) ≡ cond b (w.of (step_key t)) 0) [
        | true ↦ omega arith
        | false ↦ refl
      ]

  queue_is : (q : Queue) → w.site ≡ q.site → total w.of (queue_dues q) ≡ queue_weight q
  queue_is q e =
      subst (λ n. total w.of (flat_map (message_dues n q.settings.retention) q.records) ≡ queue_weight q) e
      (total_flat w.of (message_dues w.site q.settings.retention) q.records
      ∙ total_same (λ m. total w.of (message_dues w.site q.settings.retention m)) (message_weight q.settings.retention) (message_is q.settings.retention) q.records)

  actors_are : (xs : List Actor) → total w.of (flat_map actor_dues xs) ≡ total actor_weight xs
  actors_are xs = total_flat w.of actor_dues xs ∙ total_same (λ a. total w.of (actor_dues a)) actor_weight (λ a. wake_is a a.wake) xs

  tasks_are : (ts : List Task) → total w.of (flat_map task_dues ts) ≡ total task_weight ts
  tasks_are ts = total_flat w.of task_dues ts ∙ total_same (λ t. total w.of (task_dues t)) task_weight task_is ts

  joined_is : (a b c d f : List Key) → total w.of (a ++ b ++ c ++ d ++ f) ≡ total w.of a + (total w.of b + (total w.of c + (total w.of d + total w.of f)))
  joined_is a b c d f =
      omega (arith, total_append w.of (a ++ b ++ c ++ d) f, total_append w.of (a ++ b ++ c) d, total_append w.of (a ++ b) c, total_append w.of a b)

  weight_is : (c : Core) → w.site ≡ number_of c → total w.of (core_dues c) ≡ weight c
  unfolding core_dues
  weight_is c e =
      let j : total w.of (core_dues c) ≡ _ = joined_is (queue_dues c.queue) (map poll_key c.polls) (flat_map actor_dues c.actors) (sample_dues c) (flat_map task_dues c.tasks) in
      omega (arith, j, queue_is c.queue e, total_map w.of poll_key c.polls, actors_are c.actors, sample_is c e, tasks_are c.tasks)

  pub site_is : (s : Site) → w.site ≡ number_of s.core → total w.of (dues s) ≡ site_weight s
  unfolding dues
  site_is s e =
      omega (arith, total_append w.of (map transfer_key s.arriving) (core_dues s.core), total_map w.of transfer_key s.arriving, weight_is s.core e)
