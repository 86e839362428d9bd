-- What a whole text is sure of: its names, and the kinds of the queues that it names.
use Rattle.std.proofs.Common.{◌≡◌, ◌∙◌, ℕ, codes, List, [], Option, Some, None, Ok, refl, sym, ap}
use Rattle.std.specs.Prelude.{get_or, map}
use Rattle.std.specs.List.{enumerate_from}
use Rattle.std.proofs.lemmas.List.Elements.{All-map, All-weaker}
use Rattle.sqs_redrive.specs.declared.settings.QueueSettings.{QueueSettings}
use Rattle.sqs_redrive.specs.declared.settings.TaskSettings.{TaskSettings}
use Rattle.sqs_model.specs.declared.agents.ActorSettings.{ActorSettings}
use Rattle.sqs_model.specs.declared.agents.Forwarding.{Forwarding}
use Rattle.sqs_model.specs.declared.agents.Role.{Role}
use Rattle.sqs_model.specs.declared.agents.Role.TheVariants.{Consumer, Producer, Scaler, Script}
use Rattle.sqs_model.specs.Scenario.{Scenario}
use Rattle.sqs_formats.specs.Keys.{each}
use Rattle.sqs_formats.specs.Names.{is_fifo}
use Rattle.sqs_formats.specs.Outline.{Outline, kind_at, outline_of}
use Rattle.sqs_formats.specs.Queues.{dead_letter, queue}
use Rattle.sqs_formats.specs.Actors.{Files, actor}
use Rattle.sqs_formats.specs.Tasks.{task}
use Rattle.sqs_formats.specs.Scenario.{Top}
use Rattle.sim_scenario.specs.Kinds.{ForwardsToKin, MayBeOtherKin, NamesKin, RoleNamesKin, dead_letter_of, is_fifo_queue}
use Rattle.sqs_formats.specs.Scenario.{by_number, whole}
use Rattle.sim_scenario.proofs.ItemsRead.{each_both, each_named}
use Rattle.sim_scenario.proofs.KinRead.{IsOfNamedKind, IsOtherKin, kinds_are, queue_kin, queue_says, task_says}
use Rattle.sim_scenario.proofs.ActorsRead.{ForwardKin, IsKin, RoleSays}
use Rattle.sim_scenario.proofs.Families.{each_agent}
use Rattle.sim_scenario.proofs.QueueRanges.{each_holds}

-- the agents of a text were read with its outline
pub record AreRead (files : Files) (top : Top) (o : Outline) (queues : List (List ℕ × QueueSettings)) (judged : List (Option ℕ)) (actors : List (List (List ℕ × ActorSettings))) (tasks : List (List ℕ × TaskSettings)) : Type 0 where
  pub outlined : o ≡ outline_of top.version top.queues top.actors top.tasks
  pub queues_are : each (codes "queue") (queue o) 0 top.queues ≡ Ok queues
  pub judged_are : each (codes "queue") (dead_letter o) 0 top.queues ≡ Ok judged
  pub actors_are : each (codes "actor") (actor files o) 0 top.actors ≡ Ok actors
  pub tasks_are : each (codes "task") (task o) 0 top.tasks ≡ Ok tasks

-- a scenario's queues are of the kinds that the outline has
abbrev pub AreOfKinds : Outline → Scenario → Type 0
AreOfKinds o s = (n : ℕ) → is_fifo_queue s n ≡ kind_at o n

kin_by : (o : Outline) (s : Scenario) → AreOfKinds o s → (m n : ℕ) → kind_at o m ≡ kind_at o n → is_fifo_queue s m ≡ is_fifo_queue s n
kin_by o s h m n e = h m ∙ e ∙ sym (h n)

other_kin : (o : Outline) (s : Scenario) → AreOfKinds o s → (home : ℕ) (v : Option ℕ) → IsOtherKin o home v → MayBeOtherKin s home v
other_kin o s h home None k = tt
other_kin o s h home (Some n) k = (k.1, kin_by o s h n home k.2)

forward_to_kin : (o : Outline) (s : Scenario) → AreOfKinds o s → (home : ℕ) (f : Option Forwarding) → ForwardKin o home f → ForwardsToKin s home f
forward_to_kin o s h home None k = tt
forward_to_kin o s h home (Some f) k =
    All-weaker (IsKin o home) (λ n. is_fifo_queue s n ≡ is_fifo_queue s home) (λ n e. kin_by o s h n home e.1) f.to k

role_names_kin : (o : Outline) (s : Scenario) → AreOfKinds o s → (home : ℕ) (r : Role) → RoleSays o home r → RoleNamesKin s home r
role_names_kin o s h home (Script calls) k = tt
role_names_kin o s h home (Producer p) k = tt
role_names_kin o s h home (Consumer c) k = forward_to_kin o s h home c.forward k
role_names_kin o s h home (Scaler z) k = tt

pub whole_kinds : (files : Files) (top : Top) (o : Outline) (queues : List (List ℕ × QueueSettings)) (judged : List (Option ℕ)) (actors : List (List (List ℕ × ActorSettings))) (tasks : List (List ℕ × TaskSettings))
    → AreRead files top o queues judged actors tasks → AreOfKinds o (whole top queues (by_number actors) tasks)
whole_kinds files top o queues judged actors tasks are =
    let named : map (λ (x : List ℕ × QueueSettings). x.0) queues ≡ o.queues =
    each_named (codes "queue") (queue o) 0 top.queues queues (λ n t x e. (queue_says o n t x e).named.text) are.queues_are ∙ ap (λ (o : Outline). o.queues) (sym are.outlined) in
    let by_name = each_holds IsOfNamedKind (codes "queue") (queue o) 0 top.queues queues (λ n t x e. (queue_says o n t x e).kind) are.queues_are in
    λ n. kinds_are queues by_name n ∙ ap (λ (names : List (List ℕ)). is_fifo (get_or names n [])) named

pub whole_names_kin : (files : Files) (top : Top) (o : Outline) (queues : List (List ℕ × QueueSettings)) (judged : List (Option ℕ)) (actors : List (List (List ℕ × ActorSettings))) (tasks : List (List ℕ × TaskSettings))
    → AreRead files top o queues judged actors tasks → NamesKin (whole top queues (by_number actors) tasks)
whole_names_kin files top o queues judged actors tasks are =
    let s : Scenario = whole top queues (by_number actors) tasks in
    let kinds = whole_kinds files top o queues judged actors tasks are in
    let q = each_both (λ n (q : QueueSettings). IsOtherKin o n (dead_letter_of q.policy)) (λ (x : List ℕ × QueueSettings). x.1) (λ n. n) (codes "queue") (queue o) (dead_letter o) 0 top.queues queues judged (λ n. refl)
    (λ n t x v e k. queue_kin o n t x v e k) are.queues_are are.judged_are in
    let a = each_agent (λ (x : List ℕ × ActorSettings). RoleSays o x.1.home x.1.role) files o top.actors actors are.actors_are (λ t x says. says.role) in
    let t = each_holds (λ (x : List ℕ × TaskSettings). IsOtherKin o x.1.home x.1.to) (codes "task") (task o) 0 top.tasks tasks (λ n t x e. (task_says o n t x e).to) are.tasks_are in
    record {
      policies = All-weaker (λ (x : ℕ × QueueSettings). IsOtherKin o x.0 (dead_letter_of x.1.policy)) (λ (x : ℕ × QueueSettings). MayBeOtherKin s x.0 (dead_letter_of x.1.policy))
          (λ x h. other_kin o s kinds x.0 (dead_letter_of x.1.policy) h) (enumerate_from 0 s.queues) q;
      forwards = All-map (λ (a : ActorSettings). RoleNamesKin s a.home a.role) (λ (x : List ℕ × ActorSettings). x.1) (by_number actors)
          (All-weaker (λ (x : List ℕ × ActorSettings). RoleSays o x.1.home x.1.role) (λ (x : List ℕ × ActorSettings). RoleNamesKin s x.1.home x.1.role) (λ x h. role_names_kin o s kinds x.1.home x.1.role h) (by_number actors) a);
      tasks = All-map (λ (t : TaskSettings). MayBeOtherKin s t.home t.to) (λ (x : List ℕ × TaskSettings). x.1) tasks
          (All-weaker (λ (x : List ℕ × TaskSettings). IsOtherKin o x.1.home x.1.to) (λ (x : List ℕ × TaskSettings). MayBeOtherKin s x.1.home x.1.to) (λ x h. other_kin o s kinds x.1.home x.1.to h) tasks t);
    }
