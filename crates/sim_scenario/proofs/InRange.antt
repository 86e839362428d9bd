-- What a text says without a fault is in range.
use Rattle.std.proofs.Common.{length-append, ◌++◌, subst, ◌≡◌, ◌∙◌, ◌<◌, length, ℕ, ◌+◌, ◌≤◌, codes, List, map, Option, Some, None, sym, ap, arith}
use Rattle.std.specs.Prelude.{All}
use Rattle.std.proofs.lemmas.List.Elements.{All-map, All-weaker}
use Rattle.sqs_redrive.specs.declared.settings.Policy.{Policy}
use Rattle.sqs_redrive.specs.declared.settings.QueueSettings.{QueueSettings}
use Rattle.sqs_redrive.specs.declared.settings.TaskSettings.{TaskSettings}
use Rattle.sqs_model.specs.declared.agents.ActorSettings.{ActorSettings}
use Rattle.sqs_model.specs.declared.agents.Distribution.{Distribution}
use Rattle.sqs_model.specs.declared.agents.Distribution.TheVariants.{Quantiles, Uniform}
use Rattle.sqs_model.specs.declared.agents.Forwarding.{Forwarding}
use Rattle.sqs_model.specs.declared.agents.Role.{Role}
use Rattle.sqs_model.specs.declared.agents.Role.TheVariants.{Consumer, Producer, Scaler, Script}
use Rattle.sqs_model.specs.Progress.{IsSoundDistribution, IsSoundForward, IsSoundPolicy, IsSoundRole, IsSoundSettings, TakesTime}
use Rattle.sqs_model.specs.Scenario.{LeadsWithin, MayBeWithin, Scenario}
use Rattle.sqs_model.specs.Valid.{Between, IsDistribution, IsQueueSettings, IsTaskSettings, MayBeForward, MayBePolicy}
use Rattle.sqs_formats.specs.Keys.{text_in}
use Rattle.sqs_formats.specs.Outline.{Outline}
use Rattle.sqs_formats.specs.Queues.{queue}
use Rattle.sqs_formats.specs.Actors.{Files}
use Rattle.sqs_formats.specs.Tasks.{task}
use Rattle.sqs_formats.specs.Scenario.{Top, by_number, whole}
use Rattle.std.proofs.lemmas.List.{length-map}
use Rattle.sim_scenario.specs.Ranges.{ForwardsWithin, IsInRange, IsLinked, IsRoleInRange, RoleWithin}
use Rattle.sim_scenario.proofs.Links.{below, each_length}
use Rattle.sim_scenario.proofs.KinRead.{IsOtherKin, queue_says, task_says}
use Rattle.sim_scenario.proofs.ActorsRead.{ForwardKin, IsKin, RoleSays}
use Rattle.sim_scenario.proofs.Copying.{beside}
use Rattle.sim_scenario.proofs.Families.{each_agent}
use Rattle.sim_scenario.proofs.WholeFamilies.{agents_count, agents_few}
use Rattle.sim_scenario.proofs.QueueRanges.{each_holds}
use Rattle.sim_scenario.proofs.Drained.{whole_drains}
use Rattle.sim_scenario.proofs.WholeNames.{whole_named}
use Rattle.sim_scenario.proofs.WholeHomes.{whole_fits}
use Rattle.sim_scenario.proofs.WholeKin.{AreRead, whole_names_kin}
use Rattle.sim_scenario.specs.Tops.{IsTop}

-- what is in range is sound
policy_sound : (p : Option Policy) → MayBePolicy p → IsSoundPolicy p
policy_sound None h = tt
policy_sound (Some p) h = h.latency.least

queue_sound : (q : QueueSettings) → IsQueueSettings q → IsSoundSettings q
queue_sound q h = record { retention = omega (arith, h.retention.0); policy = policy_sound q.policy h.policy }

forward_sound : (f : Option Forwarding) → MayBeForward f → IsSoundForward f
forward_sound None h = tt
forward_sound (Some f) h = h.latency.least

distribution_sound : (d : Distribution) → IsDistribution d → IsSoundDistribution d
distribution_sound (Uniform low high) h = h.0
distribution_sound (Quantiles quantiles) h = All-weaker (λ q. Between 1 86400000 q.time) (λ q. 1 ≤ q.time) (λ q h. h.0) quantiles h.times

role_sound : (r : Role) → IsRoleInRange r → IsSoundRole r
role_sound (Script calls) h = h.ascending
role_sound (Producer p) h = distribution_sound p.gap h.gap
role_sound (Consumer c) h = (distribution_sound c.service h.service, h.idle.0, forward_sound c.forward h.forward)
role_sound (Scaler s) h = h.reading

names_count : (queues : List (List ℕ × QueueSettings)) (actors : List (List ℕ × ActorSettings)) (tasks : List (List ℕ × TaskSettings))
    → length (map (λ x. x.0) queues ++ (map (λ x. x.0) actors ++ map (λ x. x.0) tasks)) ≡ length (map (λ x. x.1) queues) + length (map (λ x. x.1) actors) + length (map (λ x. x.1) tasks)
names_count queues actors tasks = simp (length-append, length-map) (omega arith)

-- whatever names a queue names one of an outline's, and so of the scenario's
other_within : (o : Outline) (home : ℕ) (v : Option ℕ) → IsOtherKin o home v → MayBeWithin (length o.queues) v
other_within o home None h = tt
other_within o home (Some n) h = h.0

forwards_within : (o : Outline) (home : ℕ) (f : Option Forwarding) → ForwardKin o home f → ForwardsWithin (length o.queues) f
forwards_within o home None h = tt
forwards_within o home (Some f) h =
    All-weaker (IsKin o home) (λ n. n < length o.queues) (λ n e. e.0) f.to h

role_within : (o : Outline) (home : ℕ) (r : Role) → RoleSays o home r → RoleWithin (length o.queues) r
role_within o home (Script calls) h = tt
role_within o home (Producer p) h = tt
role_within o home (Consumer c) h = forwards_within o home c.forward h
role_within o home (Scaler s) h = tt

linked_by : (count : ℕ) (s : Scenario) → length s.queues ≡ count
    → All (λ q. LeadsWithin count q.policy) s.queues → All (λ a. (a.home < count) × RoleWithin count a.role) s.actors → All (λ t. (t.home < count) × MayBeWithin count t.to) s.tasks → IsLinked s
linked_by count s same q a t = record {
  policies = subst (λ (n : ℕ). All (λ (q : QueueSettings). LeadsWithin n q.policy) s.queues) (sym same) q;
  actors = subst (λ (n : ℕ). All (λ (a : ActorSettings). (a.home < n) × RoleWithin n a.role) s.actors) (sym same) a;
  tasks = subst (λ (n : ℕ). All (λ (t : TaskSettings). (t.home < n) × MayBeWithin n t.to) s.tasks) (sym same) t;
}

pub whole_in_range : (files : Files) (top : Top) (o : Outline) (queues : List (List ℕ × QueueSettings)) (judged : List (Option ℕ)) (actors : List (List (List ℕ × ActorSettings))) (tasks : List (List ℕ × TaskSettings))
    → IsTop top → AreRead files top o queues judged actors tasks → IsInRange (whole top queues (by_number actors) tasks)
whole_in_range files top o queues judged actors tasks numbers are =
    let outlined : length o.queues ≡ length top.queues = ap (λ (o : Outline). length o.queues) are.outlined ∙ length-map top.queues (text_in (codes "name")) in
    let q = each_holds (λ (x : List ℕ × QueueSettings). IsQueueSettings x.1) (codes "queue") (queue o) 0 top.queues queues (λ n t x e. (queue_says o n t x e).range) are.queues_are in
    let a = each_agent (λ (x : List ℕ × ActorSettings). IsRoleInRange x.1.role) files o top.actors actors are.actors_are (λ t x says. says.range) in
    let t = each_holds (λ (x : List ℕ × TaskSettings). IsTaskSettings x.1) (codes "task") (task o) 0 top.tasks tasks (λ n t x e. (task_says o n t x e).range) are.tasks_are in
    let settings = All-map IsQueueSettings (λ (x : List ℕ × QueueSettings). x.1) queues q in
    let roles = All-map (λ (a : ActorSettings). IsRoleInRange a.role) (λ (x : List ℕ × ActorSettings). x.1) (by_number actors) a in
    let moves = All-map IsTaskSettings (λ (x : List ℕ × TaskSettings). x.1) tasks t in
    let count : ℕ = length o.queues in
    let queue_count : length (map (λ (x : List ℕ × QueueSettings). x.1) queues) ≡ length top.queues =
    length-map queues (λ (x : List ℕ × QueueSettings). x.1) ∙ each_length (codes "queue") (queue o) 0 top.queues queues are.queues_are in
    let actor_count : length (map (λ (x : List ℕ × ActorSettings). x.1) (by_number actors)) ≡ length o.copies + beside o.copies =
    length-map (by_number actors) (λ (x : List ℕ × ActorSettings). x.1) ∙ agents_count files top o queues judged actors tasks are in
    let task_count : length (map (λ (x : List ℕ × TaskSettings). x.1) tasks) ≡ length top.tasks =
    length-map tasks (λ (x : List ℕ × TaskSettings). x.1) ∙ each_length (codes "task") (task o) 0 top.tasks tasks are.tasks_are in
    let some : 1 ≤ length o.queues = omega (arith, numbers.few_queues.0) in
    let lq = each_holds (λ (x : List ℕ × QueueSettings). LeadsWithin count x.1.policy) (codes "queue") (queue o) 0 top.queues queues (λ n t x e. (queue_says o n t x e).leads some) are.queues_are in
    let la = each_agent (λ (x : List ℕ × ActorSettings). (x.1.home < count) × RoleWithin count x.1.role) files o top.actors actors are.actors_are (λ t x says. (below o _ x.1.home says.home, role_within o x.1.home x.1.role says.role)) in
    let lt = each_holds (λ (x : List ℕ × TaskSettings). (x.1.home < count) × MayBeWithin count x.1.to) (codes "task") (task o) 0 top.tasks tasks (λ n t x e. let says = task_says o n t x e in (below o _ x.1.home says.home, other_within o x.1.home x.1.to says.to)) are.tasks_are in
    record {
      horizon = numbers.horizon;
      seed = numbers.seed;
      sample = numbers.sample;
      queues = settings;
      actors = roles;
      tasks = moves;
      sound = record {
        queues = All-weaker IsQueueSettings IsSoundSettings queue_sound _ settings;
        actors = All-weaker (λ (a : ActorSettings). IsRoleInRange a.role) (λ (a : ActorSettings). IsSoundRole a.role) (λ a h. role_sound a.role h) _ roles;
        tasks = All-weaker IsTaskSettings (λ (t : TaskSettings). TakesTime t.latency) (λ t h. h.latency.least) _ moves;
      };
      few_queues = rw queue_count numbers.few_queues;
      few_agents = rw (actor_count, task_count) (agents_few files top o queues judged actors tasks are numbers.few_agents);
      named = names_count queues (by_number actors) tasks;
      linked = linked_by count _ (queue_count ∙ sym outlined)
          (All-map (λ (q : QueueSettings). LeadsWithin count q.policy) (λ (x : List ℕ × QueueSettings). x.1) queues lq)
          (All-map (λ (a : ActorSettings). (a.home < count) × RoleWithin count a.role) (λ (x : List ℕ × ActorSettings). x.1) (by_number actors) la)
          (All-map (λ (t : TaskSettings). (t.home < count) × MayBeWithin count t.to) (λ (x : List ℕ × TaskSettings). x.1) tasks lt);
      kin = whole_names_kin files top o queues judged actors tasks are;
      names = whole_named files top o queues judged actors tasks are;
      drained = whole_drains files top o queues judged actors tasks are;
      at_home = whole_fits files top o queues judged actors tasks are;
    }
