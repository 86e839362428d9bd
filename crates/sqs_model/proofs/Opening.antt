-- A sound scenario opens with sound sites.
use Rattle.std.specs.List.{enumerate_from}
use Rattle.std.specs.Prelude.{All, Bool, List, [], cond, false, filter, length, map, true, ℕ, ◌+◌, ◌<◌, ◌==◌, ◌∷◌, ◌≡◌, ◌≤◌}
use Rattle.std.proofs.Common.{arith, refl}
use Rattle.std.proofs.lemmas.List.Elements.{All-cons, All-filter, All-head, All-map, All-nil, All-tail, All-weaker}
use Rattle.sqs_message.specs.declared.message.Message.{Message}
use Rattle.sqs_redrive.specs.declared.settings.QueueSettings.{QueueSettings}
use Rattle.sqs_redrive.specs.declared.settings.TaskSettings.{TaskSettings}
use Rattle.sqs_model.specs.declared.agents.ActorSettings.{ActorSettings}
use Rattle.sqs_model.specs.declared.agents.Role.{Role}
use Rattle.sqs_model.specs.declared.agents.Role.TheVariants.{Consumer, Producer, Scaler, Script}
use Rattle.sqs_model.specs.Actor.{Actor}
use Rattle.sqs_model.specs.Progress.{Ascends, IsSound, IsSoundActor, IsSoundRole, IsSoundScenario, IsSoundSettings, OpeningIsSound, TakesTime, WakesFor}
use Rattle.sqs_model.specs.Scenario.{Scenario, numbered_actors, numbered_tasks, opening_actor, opening_core, opening_site, opening_task}
use Rattle.sqs_model.specs.Site.{Site}
use Rattle.sqs_model.specs.Task.{Task}
use Rattle.sqs_model.proofs.Counts.{ascends_lower}

-- elements with their places
pub all_enumerated : {A : Type 0} (P : A → Type 0) (n : ℕ) (xs : List A) → All P xs → All (λ x. P x.1) (enumerate_from n xs)
all_enumerated {A} P n [] a = All-nil (λ (x : ℕ × A). P x.1)
all_enumerated {A} P n (x ∷ xs) a = All-cons (λ (y : ℕ × A). P y.1) (n, x) (enumerate_from (n + 1) xs) (All-head P x xs a) (all_enumerated P (n + 1) xs (All-tail P x xs a))

pub ascends_enumerated : {A : Type 0} (n : ℕ) (xs : List A) → Ascends (λ x. x.0) n (enumerate_from n xs)
ascends_enumerated n [] = tt
ascends_enumerated n (x ∷ xs) = (omega arith, ascends_enumerated (n + 1) xs)

pub ascends_filter : {A : Type 0} (number : A → ℕ) (p : A → Bool) (n : ℕ) (xs : List A) → Ascends number n xs → Ascends number n (filter p xs)
ascends_filter number p n [] a = tt
ascends_filter number p n (x ∷ xs) a =
    let k : n ≤ number x = a.0 in
    elim (p x) as (λ b. Ascends number n (cond b (x ∷ filter p xs) (filter p xs))) [
      | true ↦ (k, ascends_filter number p (number x + 1) xs a.1)
      | false ↦ ascends_lower number n (number x + 1) (filter p xs) (omega arith) (ascends_filter number p (number x + 1) xs a.1)
    ]

pub ascends_map : {A B : Type 0} (number : B → ℕ) (f : A → B) (n : ℕ) (xs : List A) → Ascends (λ x. number (f x)) n xs → Ascends number n (map f xs)
ascends_map number f n [] a = tt
ascends_map number f n (x ∷ xs) a = (a.0, ascends_map number f (number (f x) + 1) xs a.1)

-- an actor's first wake
pub wakes_first : (s : Scenario) (n : ℕ) (settings : ActorSettings) (r : Role) → settings.role ≡ r → WakesFor r (opening_actor s.seed (n, settings))
wakes_first s n settings (Script script) h = rw h refl
wakes_first s n settings (Producer p) h = tt
wakes_first s n settings (Consumer c) h = tt
wakes_first s n settings (Scaler z) h = tt

actor_sound : (s : Scenario) (x : ℕ × ActorSettings) → IsSoundRole x.1.role → IsSoundActor (opening_actor s.seed x)
actor_sound s (n, settings) h = record { role = h; wakes = wakes_first s n settings settings.role refl }

core_sound : (s : Scenario) (n : ℕ) (settings : QueueSettings) → IsSoundScenario s → IsSoundSettings settings → IsSound (opening_core s n settings)
core_sound s n settings h k =
    let actors : All (λ (x : ℕ × ActorSettings). IsSoundRole x.1.role) (numbered_actors s) = all_enumerated (λ (a : ActorSettings). IsSoundRole a.role) (length s.queues) s.actors h.actors in
    let tasks : All (λ (x : ℕ × TaskSettings). TakesTime x.1.latency) (numbered_tasks s) = all_enumerated (λ (t : TaskSettings). TakesTime t.latency) (length s.queues + length s.actors) s.tasks h.tasks in
    record {
      queue = record { settings = k; ordered = tt; given_out = All-nil (λ (m : Message). m.number < 0) };
      actors =
          All-map IsSoundActor (opening_actor s.seed) (filter (λ x. x.1.home == n) (numbered_actors s))
          (All-weaker (λ (x : ℕ × ActorSettings). IsSoundRole x.1.role) (λ x. IsSoundActor (opening_actor s.seed x)) (actor_sound s) (filter (λ x. x.1.home == n) (numbered_actors s))
          (All-filter (λ x. x.1.home == n) (λ (x : ℕ × ActorSettings). IsSoundRole x.1.role) (numbered_actors s) actors));
      actors_ordered =
          ascends_map (λ (a : Actor). a.number) (opening_actor s.seed) 0 (filter (λ x. x.1.home == n) (numbered_actors s))
          (ascends_filter (λ (x : ℕ × ActorSettings). x.0) (λ x. x.1.home == n) 0 (numbered_actors s)
          (ascends_lower (λ (x : ℕ × ActorSettings). x.0) 0 (length s.queues) (numbered_actors s) (omega arith) (ascends_enumerated (length s.queues) s.actors)));
      tasks =
          All-map (λ (t : Task). TakesTime t.move.settings.latency) (opening_task s.seed) (filter (λ x. x.1.home == n) (numbered_tasks s))
          (All-filter (λ x. x.1.home == n) (λ (x : ℕ × TaskSettings). TakesTime x.1.latency) (numbered_tasks s) tasks);
      tasks_ordered =
          ascends_map (λ (t : Task). t.number) (opening_task s.seed) 0 (filter (λ x. x.1.home == n) (numbered_tasks s))
          (ascends_filter (λ (x : ℕ × TaskSettings). x.0) (λ x. x.1.home == n) 0 (numbered_tasks s)
          (ascends_lower (λ (x : ℕ × TaskSettings). x.0) 0 (length s.queues + length s.actors) (numbered_tasks s) (omega arith) (ascends_enumerated (length s.queues + length s.actors) s.tasks)));
    }

-- the law
pub opens_sound : OpeningIsSound
opens_sound s h =
    let queues : All (λ (x : ℕ × QueueSettings). IsSoundSettings x.1) (enumerate_from 0 s.queues) = all_enumerated IsSoundSettings 0 s.queues h.queues in
    All-map (λ (site : Site). IsSound site.core) (opening_site s) (enumerate_from 0 s.queues)
    (All-weaker (λ (x : ℕ × QueueSettings). IsSoundSettings x.1) (λ x. IsSound (opening_site s x).core) (λ x k. core_sound s x.0 x.1 h k) (enumerate_from 0 s.queues) queues)
