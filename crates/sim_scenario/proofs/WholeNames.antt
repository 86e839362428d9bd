-- The names of a whole text.
use Rattle.std.proofs.Common.{◌≡◌, ◌∙◌, ℕ, ◌+◌, ◌≤◌, true, codes, List, [], ◌++◌, append_assoc, append-nil, length, length-append, Option, sym, subst, ap, arith}
use Rattle.std.specs.Prelude.{All, map}
use Rattle.std.specs.List.{enumerate_from, sum}
use Rattle.std.specs.Str.{bytes_eq}
use Rattle.std.proofs.lemmas.List.{length-map}
use Rattle.std.proofs.lemmas.List.Elements.{All-append, All-map}
use Rattle.sqs_redrive.specs.declared.settings.QueueSettings.{QueueSettings}
use Rattle.sqs_redrive.specs.declared.settings.TaskSettings.{TaskSettings}
use Rattle.sqs_model.specs.declared.agents.ActorSettings.{ActorSettings}
use Rattle.sqs_formats.specs.Copies.{names_taken}
use Rattle.sqs_formats.specs.Keys.{text_in}
use Rattle.sqs_formats.specs.Names.{is_agent_name}
use Rattle.sqs_formats.specs.Outline.{Outline, is_fresh, task_place}
use Rattle.sqs_formats.specs.Queues.{queue}
use Rattle.sqs_formats.specs.Actors.{Files, actor}
use Rattle.sqs_formats.specs.Tasks.{task}
use Rattle.sqs_formats.specs.Scenario.{Top, by_number, whole}
use Rattle.sim_scenario.specs.Naming.{AreNamed, IsNameOf}
use Rattle.sim_scenario.proofs.ActorsRead.{actor_says}
use Rattle.sim_scenario.proofs.Copying.{taken_length}
use Rattle.sim_scenario.proofs.Families.{named_sum, number_all, number_sum}
use Rattle.sim_scenario.proofs.ItemsRead.{each_named, each_numbered}
use Rattle.sim_scenario.proofs.KinRead.{queue_says, task_says}
use Rattle.sim_scenario.proofs.Naming.{drop_named, zip_named}
use Rattle.sim_scenario.proofs.Once.{Once, once_differ, once_listed, tick, times, times_append}
use Rattle.sim_scenario.proofs.QueueRanges.{each_holds}
use Rattle.sim_scenario.proofs.WholeFamilies.{all_names, copies_length, named, queue_names, whole_families}
use Rattle.sim_scenario.proofs.WholeKin.{AreRead}

abbrev IsAgentName : List ℕ → Type 0
IsAgentName name = is_agent_name name ≡ true

pub whole_named : (files : Files) (top : Top) (o : Outline) (queues : List (List ℕ × QueueSettings)) (judged : List (Option ℕ)) (actors : List (List (List ℕ × ActorSettings))) (tasks : List (List ℕ × TaskSettings))
    → AreRead files top o queues judged actors tasks → AreNamed (whole top queues (by_number actors) tasks)
whole_named files top o queues judged actors tasks are =
    let queue_texts : List (List ℕ) = map (λ (x : List ℕ × QueueSettings). x.0) queues in
    let actor_texts : List (List ℕ) = map (λ (x : List ℕ × ActorSettings). x.0) (by_number actors) in
    let task_texts : List (List ℕ) = map (λ (x : List ℕ × TaskSettings). x.0) tasks in
    let taken : List (List ℕ) = names_taken (named top.actors) o.copies in
    let families = whole_families files top o queues judged actors tasks are in
    let names = all_names files top o queues judged actors tasks are in
    let size = copies_length files top o queues judged actors tasks are in
    let q : queue_texts ≡ named top.queues = queue_names files top o queues judged actors tasks are in
    let t : task_texts ≡ named top.tasks = each_named (codes "task") (task o) 0 top.tasks tasks (λ n t x e. (task_says o n t x e).named.text) are.tasks_are in
    let queue_count : length o.queues ≡ length (named top.queues) = ap (λ (o : Outline). length o.queues) are.outlined in
    let wide : length taken ≡ length o.copies + sum o.copies = taken_length (named top.actors) o.copies (length-map top.actors (text_in (codes "name")) ∙ sym size) in
    let before : length (named top.queues ++ taken) ≡ length (named top.queues) + length taken = length-append (named top.queues) taken in
    let first : task_place o 0 ≡ length (named top.queues ++ taken) = omega arith in
    let fresh : All (λ (p : ℕ × List ℕ). is_fresh o p.0 p.1 ≡ true) (enumerate_from (length (named top.queues ++ taken)) (named top.tasks)) =
    subst (λ ns. All (λ (p : ℕ × List ℕ). is_fresh o p.0 p.1 ≡ true) (enumerate_from (length (named top.queues ++ taken)) ns)) t
    (each_numbered {X = List ℕ × TaskSettings} {Z = List ℕ} (λ n name. is_fresh o n name ≡ true) (λ x. x.0) (task_place o) (length (named top.queues ++ taken)) (codes "task") (task o) top.tasks tasks first (λ n. omega arith) (λ n t x e. (task_says o n t x e).named.first) are.tasks_are) in
    let whole_names : o.names ≡ (named top.queues ++ taken) ++ (named top.tasks ++ []) = names ∙ sym (append_assoc (named top.queues) taken (named top.tasks)) ∙ ap (λ ts. (named top.queues ++ taken) ++ ts) (sym (append-nil (named top.tasks))) in
    let all : Once ((named top.queues ++ taken) ++ named top.tasks) = once_listed o (named top.queues ++ taken) (named top.tasks) [] whole_names fresh families.once in
    let fewer : (s : List ℕ) → times s actor_texts ≤ times s taken = λ s. omega (arith, named_sum s (by_number actors), number_sum (λ a. tick (bytes_eq a.0 s)) actors, families.fewer s) in
    let once : Once (named top.queues ++ (actor_texts ++ named top.tasks)) = λ s.
    omega (arith, all s, fewer s, times_append s (named top.queues ++ taken) (named top.tasks), times_append s (named top.queues) taken, times_append s (named top.queues) (actor_texts ++ named top.tasks), times_append s actor_texts (named top.tasks)) in
    let nq = each_holds (λ (x : List ℕ × QueueSettings). IsNameOf x.1 x.0) (codes "queue") (queue o) 0 top.queues queues
    (λ n t x e. let says = queue_says o n t x e in record { form = says.named.form; suffix = sym says.kind }) are.queues_are in
    let na = number_all (λ (x : List ℕ × ActorSettings). IsAgentName x.0) actors (each_holds (λ f. All (λ (x : List ℕ × ActorSettings). IsAgentName x.0) f) (codes "actor") (actor files o) 0 top.actors actors (λ n t f e. (actor_says files o n t f e).formed) are.actors_are) in
    let nt = each_holds (λ (x : List ℕ × TaskSettings). IsAgentName x.0) (codes "task") (task o) 0 top.tasks tasks (λ n t x e. (task_says o n t x e).named.form) are.tasks_are in
    record {
      distinct = once_differ (queue_texts ++ (actor_texts ++ task_texts)) (rw (q, t) once);
      queues = zip_named queues (actor_texts ++ task_texts) nq;
      others = rw (drop_named queues (actor_texts ++ task_texts))
          (All-append IsAgentName actor_texts task_texts (All-map IsAgentName (λ (x : List ℕ × ActorSettings). x.0) (by_number actors) na) (All-map IsAgentName (λ (x : List ℕ × TaskSettings). x.0) tasks nt));
    }
