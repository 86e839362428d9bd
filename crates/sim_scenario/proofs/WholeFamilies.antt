-- The agents of the actors of a whole text.
use Rattle.std.proofs.Common.{◌≡◌, ◌∙◌, ℕ, ◌+◌, ◌≤◌, true, codes, List, [], ◌++◌, length, map, Option, refl, sym, subst, ap, arith}
use Rattle.std.specs.Prelude.{All}
use Rattle.std.specs.List.{enumerate_from}
use Rattle.std.proofs.lemmas.List.{length-map}
use Rattle.toml.specs.Data.{Data}
use Rattle.sqs_redrive.specs.declared.settings.QueueSettings.{QueueSettings}
use Rattle.sqs_redrive.specs.declared.settings.TaskSettings.{TaskSettings}
use Rattle.sqs_model.specs.declared.agents.ActorSettings.{ActorSettings}
use Rattle.sqs_formats.specs.Copies.{copies_asked, names_taken}
use Rattle.sqs_formats.specs.Keys.{text_in}
use Rattle.sqs_formats.specs.Outline.{Outline, actor_place, is_fresh, room_beside}
use Rattle.sqs_formats.specs.Queues.{queue}
use Rattle.sqs_formats.specs.Actors.{Files}
use Rattle.sqs_formats.specs.Scenario.{Top, by_number}
use Rattle.sim_scenario.proofs.Copying.{beside, within_length, within_room}
use Rattle.sim_scenario.proofs.Families.{AreFamilies, families_are, length_sum, number_sum}
use Rattle.sim_scenario.proofs.ItemsRead.{each_named, each_numbered}
use Rattle.sim_scenario.proofs.KinRead.{queue_says}
use Rattle.sim_scenario.proofs.Once.{Once, once_listed}
use Rattle.sim_scenario.proofs.WholeKin.{AreRead}

-- the names of an outline, list by list
abbrev pub named : List Data → List (List ℕ)
named ds = map (text_in (codes "name")) ds

pub copies_length : (files : Files) (top : Top) (o : Outline) (queues : List (List ℕ × QueueSettings)) (judged : List (Option ℕ)) (actors : List (List (List ℕ × ActorSettings))) (tasks : List (List ℕ × TaskSettings))
    → AreRead files top o queues judged actors tasks → length o.copies ≡ length top.actors
copies_length files top o queues judged actors tasks are =
    ap (λ (o : Outline). length o.copies) are.outlined ∙ within_length (room_beside top.actors top.tasks) (map (copies_asked top.version) top.actors) ∙ length-map top.actors (copies_asked top.version)

pub all_names : (files : Files) (top : Top) (o : Outline) (queues : List (List ℕ × QueueSettings)) (judged : List (Option ℕ)) (actors : List (List (List ℕ × ActorSettings))) (tasks : List (List ℕ × TaskSettings))
    → AreRead files top o queues judged actors tasks → o.names ≡ named top.queues ++ (names_taken (named top.actors) o.copies ++ named top.tasks)
all_names files top o queues judged actors tasks are =
    ap (λ (o : Outline). o.names) are.outlined ∙ ap (λ cs. named top.queues ++ (names_taken (named top.actors) cs ++ named top.tasks)) (sym (ap (λ (o : Outline). o.copies) are.outlined))

pub queue_names : (files : Files) (top : Top) (o : Outline) (queues : List (List ℕ × QueueSettings)) (judged : List (Option ℕ)) (actors : List (List (List ℕ × ActorSettings))) (tasks : List (List ℕ × TaskSettings))
    → AreRead files top o queues judged actors tasks → map (λ (x : List ℕ × QueueSettings). x.0) queues ≡ named top.queues
queue_names files top o queues judged actors tasks are = each_named (codes "queue") (queue o) 0 top.queues queues (λ n t x e. (queue_says o n t x e).named.text) are.queues_are

pub whole_families : (files : Files) (top : Top) (o : Outline) (queues : List (List ℕ × QueueSettings)) (judged : List (Option ℕ)) (actors : List (List (List ℕ × ActorSettings))) (tasks : List (List ℕ × TaskSettings))
    → AreRead files top o queues judged actors tasks → AreFamilies (named top.queues) (names_taken (named top.actors) o.copies) o.copies actors
whole_families files top o queues judged actors tasks are =
    let names = all_names files top o queues judged actors tasks are in
    let given = queue_names files top o queues judged actors tasks are in
    let size = copies_length files top o queues judged actors tasks are in
    let queue_count : length o.queues ≡ length (named top.queues) = ap (λ (o : Outline). length o.queues) are.outlined in
    let fresh : All (λ (p : ℕ × List ℕ). is_fresh o p.0 p.1 ≡ true) (enumerate_from 0 (named top.queues)) =
    subst (λ ns. All (λ (p : ℕ × List ℕ). is_fresh o p.0 p.1 ≡ true) (enumerate_from 0 ns)) given
    (each_numbered {X = List ℕ × QueueSettings} {Z = List ℕ} (λ n name. is_fresh o n name ≡ true) (λ x. x.0) (λ n. n) 0 (codes "queue") (queue o) top.queues queues refl (λ n. refl) (λ n t x e. (queue_says o n t x e).named.first) are.queues_are) in
    let once : Once (named top.queues) = once_listed o [] (named top.queues) (names_taken (named top.actors) o.copies ++ named top.tasks) names fresh (λ s. omega arith) in
    let place : actor_place o 0 ≡ length (named top.queues) = omega (arith, queue_count) in
    families_are files o 0 top.actors o.copies actors (named top.queues) (named top.tasks) are.actors_are refl size names place once

pub agents_count : (files : Files) (top : Top) (o : Outline) (queues : List (List ℕ × QueueSettings)) (judged : List (Option ℕ)) (actors : List (List (List ℕ × ActorSettings))) (tasks : List (List ℕ × TaskSettings))
    → AreRead files top o queues judged actors tasks → length (by_number actors) ≡ length o.copies + beside o.copies
agents_count files top o queues judged actors tasks are =
    length_sum (by_number actors) ∙ number_sum (λ x. 1) actors ∙ (whole_families files top o queues judged actors tasks are).count

pub agents_few : (files : Files) (top : Top) (o : Outline) (queues : List (List ℕ × QueueSettings)) (judged : List (Option ℕ)) (actors : List (List (List ℕ × ActorSettings))) (tasks : List (List ℕ × TaskSettings))
    → AreRead files top o queues judged actors tasks → length top.actors + length top.tasks ≤ 10000 → (length o.copies + beside o.copies) + length top.tasks ≤ 10000
agents_few files top o queues judged actors tasks are few =
    let size = copies_length files top o queues judged actors tasks are in
    let room : beside o.copies ≤ room_beside top.actors top.tasks = rw (ap (λ (o : Outline). o.copies) are.outlined) (within_room (room_beside top.actors top.tasks) (map (copies_asked top.version) top.actors)) in
    omega (arith, size)
