-- How actors and tasks come to their homes, and the world that a scenario opens with.
use Rattle.std.specs.List.{enumerate_from}
use Rattle.std.specs.Prelude.{All, Bool, List, [], cond, false, filter, get_or, length, map, set, true, suc, zero, ℕ, ◌++◌, ◌+◌, ◌<◌, ◌==◌, ◌∷◌, ◌≡◌, ◌≤◌}
use Rattle.std.proofs.Common.{add-one, append_assoc, ap, arith, drop, refl, subst, sym, ◌∙◌}
use Rattle.std.proofs.lemmas.Bool.Decides.{nat_tests}
use Rattle.std.proofs.lemmas.List.{append-nil, get_or-map, length-append, length-map, length-set, map-set}
use Rattle.std.proofs.lemmas.List.Elements.{All-cons, All-filter, All-head, All-map, All-nil, All-tail, All-weaker, filter-append}
use Rattle.std.proofs.Math.Seq.{drop-cons, map-set_same}
use Rattle.sqs_message.specs.declared.calls.Call.{Call}
use Rattle.sqs_message.specs.declared.calls.Call.TheVariants as calls
use Rattle.sqs_message.specs.declared.calls.ScriptCall.{ScriptCall}
use Rattle.sqs_formats.specs.Script.{waits}
use Rattle.sqs_redrive.specs.declared.settings.QueueSettings.{QueueSettings}
use Rattle.sqs_redrive.specs.declared.settings.TaskSettings.{TaskSettings}
use Rattle.sqs_model.specs.declared.agents.ActorSettings.{ActorSettings}
use Rattle.sqs_model.specs.declared.agents.Role.{Role}
use Rattle.sqs_model.specs.declared.agents.Role.TheVariants.{Consumer, Producer, Scaler, Script}
use Rattle.sqs_model.proofs.Counts.{ascends_lower}
use Rattle.sqs_model.proofs.Opening.{all_enumerated, ascends_enumerated, ascends_filter}
use Rattle.sqs_model.specs.Progress.{Ascends}
use Rattle.sqs_model.specs.Scenario.{HasItsQueues, MayBeWithin, Scenario, fresh_core, numbered_actors, numbered_tasks, opening_site}
use Rattle.sqs_model.specs.Site.{Site}
use Rattle.sqs_model.specs.Valid.{IsLatency, IsTaskSettings}
use Rattle.sim_actor.specs.Lives.{IsRole}
use Rattle.sim_scenario.specs.declared.scenario.ScenarioParts.{ScenarioParts}
use Rattle.sim_scenario.specs.Ranges.{IsInRange, IsRoleInRange as IsScenarioRole}
use Rattle.sim_site.specs.Kept.{HasShortWaits, WaitsWithin}
use Rattle.sqs_rehearsal.specs.declared.opening.Home.{Home}
use Rattle.sqs_rehearsal.specs.Homes.{AtHome, IsFit, IsSettled, IsVacant, actors_in, tasks_in}

-- one more agent, with its number
pub enumerate_push : {A : Type 0} (n k : ℕ) (xs : List A) (x : A) → k ≡ n + length xs → enumerate_from n (xs ++ x ∷ []) ≡ enumerate_from n xs ++ (k, x) ∷ []
enumerate_push n k [] x e = let same : n ≡ k = omega arith in ap (λ i. (i, x) ∷ []) same
enumerate_push n k (y ∷ ys) x e = ap (λ t. (n, y) ∷ t) (enumerate_push (n + 1) k ys x (omega arith))

-- agents at their homes
module _ {A : Type 0} (home : A → ℕ) where
  keeps : (n : ℕ) (xs : List (ℕ × A)) (x : ℕ × A) → (home x.1 == n) ≡ false → filter (λ y. home y.1 == n) (xs ++ x ∷ []) ≡ filter (λ y. home y.1 == n) xs
  keeps n xs x h =
      let p : ℕ × A → Bool = λ y. home y.1 == n in
      filter-append p xs (x ∷ []) ∙ ap (λ b. filter p xs ++ cond b (x ∷ []) []) h ∙ append-nil (filter p xs)

  gains : (n : ℕ) (xs : List (ℕ × A)) (x : ℕ × A) → (home x.1 == n) ≡ true → filter (λ y. home y.1 == n) (xs ++ x ∷ []) ≡ filter (λ y. home y.1 == n) xs ++ x ∷ []
  gains n xs x h =
      let p : ℕ × A → Bool = λ y. home y.1 == n in
      filter-append p xs (x ∷ []) ∙ ap (λ b. filter p xs ++ cond b (x ∷ []) []) h

  -- one whose home comes before
  at_home_before : (n : ℕ) (heres : List (List (ℕ × A))) (xs : List (ℕ × A)) (x : ℕ × A) → home x.1 < n → AtHome home n heres xs → AtHome home n heres (xs ++ x ∷ [])
  at_home_before n [] xs x l h = tt
  at_home_before n (here ∷ heres) xs x l h =
      let other : (home x.1 == n) ≡ false = grind (arith, nat_tests) in
      (h.0 ∙ sym (keeps n xs x other), at_home_before (n + 1) heres xs x (omega arith) h.1)

  -- one that is brought home
  pub at_home_more :
      (n i : ℕ) (heres : List (List (ℕ × A))) (xs : List (ℕ × A)) (x : ℕ × A) (d : List (ℕ × A)) → i < length heres → home x.1 ≡ n + i → AtHome home n heres xs
      → AtHome home n (set heres i (get_or heres i d ++ x ∷ [])) (xs ++ x ∷ [])
  at_home_more n i [] xs x d l e h = absurd (omega arith)
  at_home_more n zero (here ∷ heres) xs x d l e h =
      let it : (home x.1 == n) ≡ true = grind (arith, nat_tests) in
      (ap (λ t. t ++ x ∷ []) h.0 ∙ sym (gains n xs x it), at_home_before (n + 1) heres xs x (omega arith) h.1)
  at_home_more n (suc i) (here ∷ heres) xs x d l e h =
      let other : (home x.1 == n) ≡ false = grind (arith, nat_tests) in
      (h.0 ∙ sym (keeps n xs x other), at_home_more (n + 1) i heres xs x d (omega arith) (omega arith) h.1)

  -- the same among homes of which only these agents are looked at
  pub at_home_in :
      (agents : Home → List (ℕ × A)) (homes : List Home) (i : ℕ) (left d : Home) (xs : List (ℕ × A)) (x : ℕ × A) → i < length homes → home x.1 ≡ i → d ≡ get_or homes i d
      → agents left ≡ agents d ++ x ∷ [] → AtHome home 0 (map agents homes) xs → AtHome home 0 (map agents (set homes i left)) (xs ++ x ∷ [])
  at_home_in agents homes i left d xs x l e is new h =
      let heres : List (List (ℕ × A)) = map agents homes in
      let within : i < length heres = rw (length-map homes agents) l in
      let all : AtHome home 0 (set heres i (get_or heres i (agents d) ++ x ∷ [])) (xs ++ x ∷ []) = at_home_more 0 i heres xs x (agents d) within (omega arith) h in
      let old : get_or heres i (agents d) ≡ agents d = get_or-map agents homes i d (agents d) l ∙ ap agents (sym is) in
      let same : map agents (set homes i left) ≡ set heres i (get_or heres i (agents d) ++ x ∷ []) =
      map-set agents homes i left ∙ ap (set heres i) (new ∙ ap (λ t. t ++ x ∷ []) (sym old)) in
      rw same all

  -- nothing is at home in vacant homes
  pub vacant_at_home : (agents : Home → List (ℕ × A)) → ((h : Home) → IsVacant h → agents h ≡ []) → (n : ℕ) (homes : List Home) → All IsVacant homes → AtHome home n (map agents homes) []
  vacant_at_home agents none n [] h = tt
  vacant_at_home agents none n (here ∷ homes) h = (none here (All-head IsVacant here homes h), vacant_at_home agents none (n + 1) homes (All-tail IsVacant here homes h))

-- agents that come home one after another: those so far are there, the rest is to come, and the others stay
pub record Settling {A B : Type 0} (home : A → ℕ) (here : Home → List (ℕ × A)) (others : Home → List (ℕ × B)) (first next : ℕ) (so_far left all : List A) (before after : List Home) : Type 0 where
  pub number : next ≡ first + length so_far
  pub rest : so_far ++ left ≡ all
  pub homes : All (λ a. home a < length before) left
  pub count : length after ≡ length before
  pub kept : map others after ≡ map others before
  pub settled : AtHome home 0 (map here before) [] → AtHome home 0 (map here after) (enumerate_from first so_far)

-- one more of them
pub settles_one :
    {A B : Type 0} (home : A → ℕ) (here : Home → List (ℕ × A)) (others : Home → List (ℕ × B)) (first next : ℕ) (so_far left all : List A) (before homes : List Home) (a : A) (more : List A) (d with_it : Home)
    → Settling home here others first next so_far left all before homes → left ≡ a ∷ more → d ≡ get_or homes (home a) d → here with_it ≡ here d ++ (next, a) ∷ [] → others with_it ≡ others d
    → Settling home here others first (next + 1) (so_far ++ a ∷ []) more all before (set homes (home a) with_it)
settles_one {A} home here others first next so_far left all before homes a more d with_it v steps is new same =
    let bound : List A → Type 0 = All (λ (x : A). home x < length before) in
    let known : bound (a ∷ more) = subst bound steps v.homes in
    let within : home a < length homes = rw v.count (All-head (λ (x : A). home x < length before) a more known) in
    let longer : length (so_far ++ a ∷ []) ≡ length so_far + 1 = length-append so_far (a ∷ []) in
    record {
      number = omega (arith, v.number, longer);
      rest = append_assoc so_far (a ∷ []) more ∙ ap (λ r. so_far ++ r) (sym steps) ∙ v.rest;
      homes = All-tail (λ (x : A). home x < length before) a more known;
      count = length-set homes (home a) with_it ∙ v.count;
      kept = map-set_same others homes (home a) with_it d (same ∙ ap others is) ∙ v.kept;
      settled = λ h. rw (enumerate_push first next so_far a v.number) (at_home_in home here homes (home a) with_it d (enumerate_from first so_far) (next, a) within refl is new (v.settled h));
    }

-- all of them
pub settles_all :
    {A B : Type 0} (home : A → ℕ) (here : Home → List (ℕ × A)) (others : Home → List (ℕ × B)) (first next : ℕ) (so_far left all : List A) (before after : List Home)
    → Settling home here others first next so_far left all before after → left ≡ [] → AtHome home 0 (map here before) [] → AtHome home 0 (map here after) (enumerate_from first all)
settles_all home here others first next so_far left all before after v none h =
    let whole : so_far ≡ all = sym (append-nil so_far) ∙ ap (λ r. so_far ++ r) (sym none) ∙ v.rest in
    subst (λ xs. AtHome home 0 (map here after) (enumerate_from first xs)) whole (v.settled h)

-- roles of a scenario in range
role_in_range : (r : Role) → IsScenarioRole r → IsRole r
role_in_range (Script script) h = h.few
role_in_range (Producer p) h = h
role_in_range (Consumer c) h = h
role_in_range (Scaler s) h = h

waits_within : (call : Call) → waits call ≤ 20 → WaitsWithin call
waits_within (calls.Send body delay group id) h = tt
waits_within (calls.Receive max wait timeout) h = omega arith
waits_within (calls.Delete receipt) h = tt
waits_within (calls.Change receipt timeout) h = tt
waits_within (calls.Start task) h = tt
waits_within (calls.Cancel task) h = tt

waits_shortly : (r : Role) → IsScenarioRole r → HasShortWaits r
waits_shortly (Script script) h = All-weaker (λ (c : ScriptCall). waits c.call ≤ 20) (λ c. WaitsWithin c.call) (λ c k. waits_within c.call k) script h.waiting
waits_shortly (Producer p) h = tt
waits_shortly (Consumer c) h = omega (arith, h.wait)
waits_shortly (Scaler s) h = tt

-- agents with which sites can be set up
record AreFit (roles : List (ℕ × ActorSettings)) (moves : List (ℕ × TaskSettings)) : Type 0 where
  actors : All (λ x. IsScenarioRole x.1.role) roles
  tasks : All (λ t. IsLatency t.1.latency) moves
  numbered : Ascends (λ t. t.0) 0 moves

fit_home : (n : ℕ) (home : Home) (roles : List (ℕ × ActorSettings)) (moves : List (ℕ × TaskSettings)) → AreFit roles moves
    → actors_in home ≡ filter (λ x. x.1.home == n) roles → tasks_in home ≡ filter (λ x. x.1.home == n) moves → IsFit home
fit_home n home roles moves fit actors tasks =
    let here : List (ℕ × ActorSettings) = filter (λ x. x.1.home == n) roles in
    let known : All (λ (x : ℕ × ActorSettings). IsScenarioRole x.1.role) here = All-filter (λ x. x.1.home == n) (λ (x : ℕ × ActorSettings). IsScenarioRole x.1.role) roles fit.actors in
    record {
      roles = rw actors (All-weaker (λ (x : ℕ × ActorSettings). IsScenarioRole x.1.role) (λ x. IsRole x.1.role) (λ x k. role_in_range x.1.role k) here known);
      waits = rw actors (All-map (λ (a : ActorSettings). HasShortWaits a.role) (λ x. x.1) here
          (All-weaker (λ (x : ℕ × ActorSettings). IsScenarioRole x.1.role) (λ x. HasShortWaits x.1.role) (λ x k. waits_shortly x.1.role k) here known));
      latencies = rw tasks (All-filter (λ x. x.1.home == n) (λ (t : ℕ × TaskSettings). IsLatency t.1.latency) moves fit.tasks);
      numbered = rw tasks (ascends_filter (λ (t : ℕ × TaskSettings). t.0) (λ x. x.1.home == n) 0 moves fit.numbered);
    }

fit_from : (n : ℕ) (homes : List Home) (roles : List (ℕ × ActorSettings)) (moves : List (ℕ × TaskSettings)) → AreFit roles moves
    → AtHome (λ a. a.home) n (map actors_in homes) roles → AtHome (λ t. t.home) n (map tasks_in homes) moves → All IsFit homes
fit_from n [] roles moves fit a t = All-nil IsFit
fit_from n (home ∷ homes) roles moves fit a t =
    All-cons IsFit home homes (fit_home n home roles moves fit a.0 t.0) (fit_from (n + 1) homes roles moves fit a.1 t.1)

pub fit_homes : (s : Scenario) (homes : List Home) → IsInRange s → IsSettled homes (numbered_actors s) (numbered_tasks s) → All IsFit homes
fit_homes s homes range settled =
    let first : ℕ = length s.queues + length s.actors in
    let latencies : All (λ (t : TaskSettings). IsLatency t.latency) s.tasks = All-weaker IsTaskSettings (λ t. IsLatency t.latency) (λ t k. k.latency) s.tasks range.tasks in
    fit_from 0 homes (numbered_actors s) (numbered_tasks s)
    record {
      actors = all_enumerated (λ (a : ActorSettings). IsScenarioRole a.role) (length s.queues) s.actors range.actors;
      tasks = all_enumerated (λ (t : TaskSettings). IsLatency t.latency) first s.tasks latencies;
      numbered = ascends_lower (λ (t : ℕ × TaskSettings). t.0) 0 first (numbered_tasks s) (omega arith) (ascends_enumerated first s.tasks);
    } settled.actors settled.tasks

-- sites that are to come, from a number on
abbrev pub to_come : Scenario → ℕ → List QueueSettings → List Site
to_come s n queues = (map (opening_site s) (enumerate_from n (drop n queues)))

pub one_site :
    (s : Scenario) (n : ℕ) (queues : List QueueSettings) (d : QueueSettings) (sites after : List Site) (site : Site)
    → n < length queues → site ≡ (opening_site s (n, get_or queues n d)) → after ≡ sites ++ site ∷ []
    → after ++ to_come s (n + 1) queues ≡ sites ++ to_come s n queues
one_site s n queues d sites after site within made pushed =
    let next : drop n queues ≡ get_or queues n d ∷ drop (n + 1) queues = rw add-one (drop-cons queues n d within) in
    ap (λ t. t ++ to_come s (n + 1) queues) pushed ∙ append_assoc sites (site ∷ []) (to_come s (n + 1) queues)
    ∙ ap (λ t. sites ++ t ∷ to_come s (n + 1) queues) made
    ∙ ap (λ qs. sites ++ (map (opening_site s) (enumerate_from n qs))) (sym next)

-- a site that was made of what is at home at a queue of a scenario
pub opened_with : (s : Scenario) (n : ℕ) (settings : QueueSettings) (actors : List (ℕ × ActorSettings)) (tasks : List (ℕ × TaskSettings)) (seed sample : ℕ) (site : Site)
    → site ≡ record { core = fresh_core n settings actors tasks seed sample; arriving = [] } → s.seed ≡ seed → s.sample ≡ sample
    → actors ≡ filter (λ x. x.1.home == n) (numbered_actors s) → tasks ≡ filter (λ x. x.1.home == n) (numbered_tasks s) → site ≡ (opening_site s (n, settings))
opened_with s n settings actors tasks seed sample site h e f a t =
    let P : List (ℕ × ActorSettings) → List (ℕ × TaskSettings) → ℕ → ℕ → Site = λ x y z w. record { core = fresh_core n settings x y z w; arriving = [] } in
    h ∙ ap (λ x. P x tasks seed sample) a ∙ ap (λ y. P (filter (λ x. x.1.home == n) (numbered_actors s)) y seed sample) t
    ∙ ap (λ z. P (filter (λ x. x.1.home == n) (numbered_actors s)) (filter (λ x. x.1.home == n) (numbered_tasks s)) z sample) (sym e)
    ∙ ap (λ w. P (filter (λ x. x.1.home == n) (numbered_actors s)) (filter (λ x. x.1.home == n) (numbered_tasks s)) s.seed w) (sym f)

-- the scenario of these parts
abbrev pub whole_of : ScenarioParts → Scenario
whole_of p =
    record { horizon = p.horizon; seed = p.seed; sample = p.sample; queues = p.queues.items; actors = p.actors.items; tasks = p.tasks.items; names = p.names.items }

-- what it opens with, at these homes
pub record Opens (s : Scenario) (homes : List Home) : Type 0 where
  pub settled : IsSettled homes (numbered_actors s) (numbered_tasks s)
  pub fit : All IsFit homes

pub opens : (p : ScenarioParts) (whole : Scenario) (n : ℕ) (homes : List Home) → whole_of p ≡ whole → IsInRange whole → n ≡ length p.queues.items
    → IsSettled homes (enumerate_from n p.actors.items) (enumerate_from (n + length p.actors.items) p.tasks.items) → Opens (whole_of p) homes
opens p whole n homes same range count settled =
    let s : Scenario = whole_of p in
    let here : IsInRange s = subst IsInRange (sym same) range in
    let all : IsSettled homes (numbered_actors s) (numbered_tasks s) = subst (λ k. IsSettled homes (enumerate_from k s.actors) (enumerate_from (k + length s.actors) s.tasks)) count settled in
    record { settled = all; fit = fit_homes s homes here all }

-- what a scenario in range names is there
pub has_queues : (s : Scenario) → IsInRange s → HasItsQueues s
has_queues s r =
    record {
      policies = r.linked.policies;
      tasks = All-weaker (λ (t : TaskSettings). (t.home < length s.queues) × MayBeWithin (length s.queues) t.to) (λ t. MayBeWithin (length s.queues) t.to) (λ t h. h.1) s.tasks r.linked.tasks;
    }
