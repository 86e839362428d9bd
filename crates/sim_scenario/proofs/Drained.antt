-- The home of a move task is the dead-letter queue of some queue.
use Rattle.std.proofs.Common.{◌≡◌, ◌∙◌, ℕ, zero, ◌+◌, ◌||◌, Bool, true, false, codes, List, [], ◌∷◌, Option, Some, None, Ok, refl, sym, ap, arith}
use Rattle.std.specs.Prelude.{All, Contains, get_or, map, unwrap_or, ◌≢◌}
use Rattle.std.specs.Str.{bytes_eq}
use Rattle.std.proofs.lemmas.Bool.{true≢false}
use Rattle.std.proofs.lemmas.List.Elements.{All-map}
use Rattle.std.proofs.lemmas.List.Quantifiers.{position-Some}
use Rattle.std.proofs.lemmas.Slice.Eq.{bytes_eq-Decides}
use Rattle.toml.specs.Data.{Data, as_table}
use Rattle.sqs_redrive.specs.declared.settings.Policy.{Policy}
use Rattle.sqs_redrive.specs.declared.settings.QueueSettings.{QueueSettings}
use Rattle.sqs_redrive.specs.declared.settings.TaskSettings.{TaskSettings}
use Rattle.sqs_model.specs.declared.agents.ActorSettings.{ActorSettings}
use Rattle.sqs_formats.specs.Keys.{Table, at, each, is_among, is_there, item_place, item_table, text_in, text_when}
use Rattle.sqs_formats.specs.Names.{is_queue_name}
use Rattle.sqs_formats.specs.Outline.{Outline, place_among, queue_number}
use Rattle.sqs_formats.specs.Queues.{policy, queue}
use Rattle.sqs_formats.specs.Actors.{Files}
use Rattle.sqs_formats.specs.Tasks.{task}
use Rattle.sqs_formats.specs.Scenario.{Top}
use Rattle.sim_scenario.specs.Kinds.{TasksDrain, dead_letter_of}
use Rattle.sqs_formats.specs.Scenario.{by_number, whole}
use Rattle.sim_scenario.proofs.ItemsRead.{each_named, item_text}
use Rattle.sim_script.proofs.Listing.{contains_next}
use Rattle.sim_scenario.proofs.KinRead.{led_to, queue_says, task_says}
use Rattle.sim_scenario.proofs.QueueRanges.{each_holds}
use Rattle.sqs_formats.proofs.Readings.{parts, same_ok}
use Rattle.sim_scenario.proofs.WholeKin.{AreRead}

-- a policy leads to the queue of the text that is given
led_by : (o : Outline) (home : ℕ) (s : List ℕ) (x : Option Data) (t : Table) (p : Option Policy) → queue_number o s ≡ Some home → s ≢ [] → bytes_eq (text_when x) s ≡ true
    → at t (codes "dead_letter") ≡ x → policy o (is_there x) t ≡ Ok p → dead_letter_of p ≡ Some home
unfolding policy
led_by o home s None t p found some same is e = absurd (some (sym ((bytes_eq-Decides [] s).0 same)))
led_by o home s (Some d) t p found some same is e =
    let letter = parts _ _ _ e in
    let most = parts _ _ _ letter.2 in
    let within = parts _ _ _ most.2 in
    let given : text_when (Some d) ≡ s = (bytes_eq-Decides (text_when (Some d)) s).0 same in
    let led : letter.0 ≡ home = sym (led_to o t (Some d) letter.0 is letter.1) ∙ ap (λ (s : List ℕ). unwrap_or (queue_number o s) 0) given ∙ ap (λ (m : Option ℕ). unwrap_or m 0) found in
    rw (← same_ok _ _ within.2) (ap (λ (n : ℕ). Some n) led)

item_led : (o : Outline) (home n : ℕ) (s place : List ℕ) (d : Data) (t : Table) (q : List ℕ × QueueSettings) → queue_number o s ≡ Some home → s ≢ []
    → bytes_eq (text_in (codes "dead_letter") d) s ≡ true → item_table place (as_table d) ≡ Ok t → queue o n t ≡ Ok q → dead_letter_of q.1.policy ≡ Some home
item_led o home n s place d t q found some same table e =
    let text = item_text (codes "dead_letter") place d t table in
    led_by o home s (at t (codes "dead_letter")) t q.1.policy found some (rw text same) refl (queue_says o n t q e).policy

-- it is found among those of the queues
either : (b c : Bool) → (b || c) ≡ true → b ≡ false → c ≡ true
either true c e k = cc k
either false c e k = e

leads_by : (b : Bool) (o : Outline) (home n : ℕ) (s place : List ℕ) (d : Data) (ds : List Data) (t : Table) (q : List ℕ × QueueSettings) (qs : List (List ℕ × QueueSettings))
    → bytes_eq (text_in (codes "dead_letter") d) s ≡ b → queue_number o s ≡ Some home → s ≢ [] → item_table place (as_table d) ≡ Ok t → queue o n t ≡ Ok q
    → (is_among (map (text_in (codes "dead_letter")) ds) s ≡ true → Contains (map (λ q. dead_letter_of q.policy) (map (λ q. q.1) qs)) (Some home))
    → is_among (map (text_in (codes "dead_letter")) (d ∷ ds)) s ≡ true → Contains (map (λ q. dead_letter_of q.policy) (map (λ q. q.1) (q ∷ qs))) (Some home)
leads_by true o home n s place d ds t q qs is found some table here more among = (zero, omega arith, item_led o home n s place d t q found some is table here)
leads_by false o home n s place d ds t q qs is found some table here more among =
    contains_next (Some home) (dead_letter_of q.1.policy) (map (λ q. dead_letter_of q.policy) (map (λ q. q.1) qs)) (more (either _ _ among is))

leads_among : (o : Outline) (home n : ℕ) (s : List ℕ) (ds : List Data) (qs : List (List ℕ × QueueSettings)) → queue_number o s ≡ Some home → s ≢ [] → each (codes "queue") (queue o) n ds ≡ Ok qs
    → is_among (map (text_in (codes "dead_letter")) ds) s ≡ true → Contains (map (λ q. dead_letter_of q.policy) (map (λ q. q.1) qs)) (Some home)
leads_among o home n s [] qs found some e among = cc among
leads_among o home n s (d ∷ ds) qs found some e among =
    let t = parts _ _ _ e in
    let q = parts _ _ _ t.2 in
    let rest = parts _ _ _ q.2 in
    rw (← same_ok _ _ rest.2)
    (leads_by (bytes_eq (text_in (codes "dead_letter") d) s) o home n s (item_place (codes "queue") n) d ds t.0 q.0 rest.0 refl found some t.1 q.1 (λ k. leads_among o home (n + 1) s ds rest.0 found some rest.1 k) among)

-- no queue has an empty name
named_some : (names : List (List ℕ)) (s : List ℕ) (n : ℕ) → All (λ name. is_queue_name name ≡ true) names → place_among names s ≡ Some n → s ≢ []
named_some names s n h e = λ empty.
    let found = position-Some (λ (t : List ℕ). bytes_eq t s) names n [] e in
    let name : get_or names n [] ≡ [] = (bytes_eq-Decides (get_or names n []) s).0 found.1 ∙ empty in
    let form : is_queue_name (get_or names n []) ≡ true = h n [] found.0 in
    true≢false (sym form ∙ ap is_queue_name name)

pub whole_drains : (files : Files) (top : Top) (o : Outline) (queues : List (List ℕ × QueueSettings)) (judged : List (Option ℕ)) (actors : List (List (List ℕ × ActorSettings))) (tasks : List (List ℕ × TaskSettings))
    → AreRead files top o queues judged actors tasks → TasksDrain (whole top queues (by_number actors) tasks)
whole_drains files top o queues judged actors tasks are =
    let leads : List (Option ℕ) = map (λ (q : QueueSettings). dead_letter_of q.policy) (map (λ (q : List ℕ × QueueSettings). q.1) queues) in
    let names : map (λ (q : List ℕ × QueueSettings). q.0) queues ≡ o.queues =
    each_named (codes "queue") (queue o) 0 top.queues queues (λ n t x e. (queue_says o n t x e).named.text) are.queues_are ∙ ap (λ (o : Outline). o.queues) (sym are.outlined) in
    let formed = each_holds (λ (q : List ℕ × QueueSettings). is_queue_name q.0 ≡ true) (codes "queue") (queue o) 0 top.queues queues (λ n t x e. (queue_says o n t x e).named.form) are.queues_are in
    let forms : All (λ (name : List ℕ). is_queue_name name ≡ true) o.queues = rw (← names) (All-map (λ (name : List ℕ). is_queue_name name ≡ true) (λ (q : List ℕ × QueueSettings). q.0) queues formed) in
    let letters : o.dead_letters ≡ map (text_in (codes "dead_letter")) top.queues = ap (λ (o : Outline). o.dead_letters) are.outlined in
    All-map (λ (t : TaskSettings). Contains leads (Some t.home)) (λ (t : List ℕ × TaskSettings). t.1) tasks
    (each_holds (λ (t : List ℕ × TaskSettings). Contains leads (Some t.1.home)) (codes "task") (task o) 0 top.tasks tasks
    (λ n t k e. let says = task_says o n t k e in
    let s : List ℕ = text_when (at t (codes "queue")) in
    leads_among o k.1.home 0 s top.queues queues says.home (named_some o.queues s k.1.home forms says.home) are.queues_are (rw letters at says.source)) are.tasks_are)
