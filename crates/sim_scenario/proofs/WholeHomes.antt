-- The actors of a whole text fit their homes.
use Rattle.std.proofs.Common.{◌≡◌, ◌∙◌, ℕ, ◌+◌, codes, List, length, Option, Some, Ok, refl, sym, ap, subst}
use Rattle.std.specs.Prelude.{All, Bool, map}
use Rattle.std.specs.List.{enumerate_from, zip}
use Rattle.std.proofs.lemmas.List.{length-map}
use Rattle.std.proofs.lemmas.List.Elements.{All-map}
use Rattle.toml.specs.Data.{Data}
use Rattle.sqs_message.specs.declared.calls.ScriptCall.{ScriptCall}
use Rattle.sqs_redrive.specs.declared.settings.QueueSettings.{QueueSettings}
use Rattle.sqs_redrive.specs.declared.settings.TaskSettings.{TaskSettings}
use Rattle.sqs_model.specs.declared.agents.ActorSettings.{ActorSettings}
use Rattle.sqs_model.specs.declared.agents.Role.{Role}
use Rattle.sqs_model.specs.declared.agents.Role.TheVariants.{Consumer, Producer, Scaler, Script}
use Rattle.sqs_model.specs.Scenario.{Scenario}
use Rattle.sqs_formats.specs.Keys.{at, each, text_in, text_when}
use Rattle.sqs_formats.specs.Outline.{Outline, first_task, kind_at, queue_number, queue_text}
use Rattle.sqs_formats.specs.Queues.{queue}
use Rattle.sqs_formats.specs.Actors.{Files, home_of}
use Rattle.sqs_formats.specs.Tasks.{task}
use Rattle.sqs_formats.specs.Scenario.{Top}
use Rattle.sim_script.specs.Ranges.{IsCallAt}
use Rattle.sim_scenario.specs.AtHome.{FitsHome, IsSendingAt, tasks_of}
use Rattle.sim_scenario.specs.Kinds.{is_fifo_queue}
use Rattle.sqs_formats.specs.Scenario.{by_number, whole}
use Rattle.sim_scenario.proofs.ActorsRead.{RoleSays}
use Rattle.sim_scenario.proofs.Families.{each_agent}
use Rattle.sim_scenario.proofs.WholeFamilies.{agents_count}
use Rattle.sim_scenario.proofs.Links.{each_length}
use Rattle.sim_scenario.proofs.TasksThere.{by_home, by_text, tasks_there}
use Rattle.sim_scenario.proofs.WholeKin.{AreRead, whole_kinds}

-- the tasks that an outline has at a home
numbers_are : (o : Outline) (home m : ℕ) (name : List ℕ) (ds : List Data) (xs : List (List ℕ × TaskSettings)) → queue_number o name ≡ Some home → each (codes "task") (task o) 0 ds ≡ Ok xs
    → o.tasks ≡ map (text_in (codes "name")) ds → o.task_homes ≡ map (text_in (codes "queue")) ds → m ≡ first_task o
    → map (λ t. t.number) (home_of o home).tasks ≡ by_home home (enumerate_from m (map (λ x. x.1) xs))
numbers_are o home m name ds xs here e names homes count =
    ap (λ (ts : List (List ℕ)). by_text (queue_text o home) (enumerate_from (first_task o) (zip ts o.task_homes))) names
    ∙ ap (λ (hs : List (List ℕ)). by_text (queue_text o home) (enumerate_from (first_task o) (zip (map (text_in (codes "name")) ds) hs))) homes
    ∙ ap (λ (k : ℕ). by_text (queue_text o home) (enumerate_from k (zip (map (text_in (codes "name")) ds) (map (text_in (codes "queue")) ds)))) (sym count)
    ∙ tasks_there o home name m 0 ds xs here e

role_fits : (o : Outline) (s : Scenario) (home : ℕ) (r : Role) → is_fifo_queue s home ≡ kind_at o home → map (λ t. t.number) (home_of o home).tasks ≡ tasks_of s home → RoleSays o home r → FitsHome s home r
role_fits o s home (Script calls) kind numbers h =
    subst (λ (ts : List ℕ). All (λ (c : ScriptCall). IsCallAt (is_fifo_queue s home) ts c.call) calls) numbers
    (subst (λ (b : Bool). All (λ (c : ScriptCall). IsCallAt b (map (λ t. t.number) (home_of o home).tasks) c.call) calls) (sym kind) h)
role_fits o s home (Producer p) kind numbers h = subst (λ (b : Bool). IsSendingAt b p) (sym kind) h
role_fits o s home (Consumer c) kind numbers h = tt
role_fits o s home (Scaler z) kind numbers h = tt

pub whole_fits : (files : Files) (top : Top) (o : Outline) (queues : List (List ℕ × QueueSettings)) (judged : List (Option ℕ)) (actors : List (List (List ℕ × ActorSettings))) (tasks : List (List ℕ × TaskSettings))
    → AreRead files top o queues judged actors tasks → All (λ a. FitsHome (whole top queues (by_number actors) tasks) a.home a.role) (whole top queues (by_number actors) tasks).actors
whole_fits files top o queues judged actors tasks are =
    let s : Scenario = whole top queues (by_number actors) tasks in
    let kinds = whole_kinds files top o queues judged actors tasks are in
    let names : o.tasks ≡ map (text_in (codes "name")) top.tasks = ap (λ (o : Outline). o.tasks) are.outlined in
    let homes : o.task_homes ≡ map (text_in (codes "queue")) top.tasks = ap (λ (o : Outline). o.task_homes) are.outlined in
    let queue_count : length o.queues ≡ length top.queues = ap (λ (o : Outline). length o.queues) are.outlined ∙ length-map top.queues (text_in (codes "name")) in
    let queues_read = length-map queues (λ (x : List ℕ × QueueSettings). x.1) ∙ each_length (codes "queue") (queue o) 0 top.queues queues are.queues_are in
    let actors_read = length-map (by_number actors) (λ (x : List ℕ × ActorSettings). x.1) ∙ agents_count files top o queues judged actors tasks are in
    let count : length s.queues + length s.actors ≡ first_task o = rw (queues_read, actors_read, queue_count) refl in
    All-map (λ (a : ActorSettings). FitsHome s a.home a.role) (λ (x : List ℕ × ActorSettings). x.1) (by_number actors)
    (each_agent (λ (x : List ℕ × ActorSettings). FitsHome s x.1.home x.1.role) files o top.actors actors are.actors_are
    (λ t x says. role_fits o s x.1.home x.1.role (kinds x.1.home)
    (numbers_are o x.1.home (length s.queues + length s.actors) (text_when (at t (codes "queue"))) top.tasks tasks says.home are.tasks_are names homes count) says.role))
