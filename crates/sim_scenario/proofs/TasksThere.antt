-- The move tasks that a home's texts tell are those that take from it.
use Rattle.std.proofs.Common.{◌≡◌, ◌∙◌, ℕ, ◌+◌, ◌==◌, Bool, true, false, codes, List, [], ◌∷◌, Some, Ok, refl, sym, ap}
use Rattle.std.specs.Prelude.{filter, get_or, map}
use Rattle.std.specs.List.{enumerate_from, zip}
use Rattle.std.specs.Str.{bytes_eq}
use Rattle.std.proofs.lemmas.Bool.{true≢false}
use Rattle.std.proofs.lemmas.Bool.Decides.{Decides-eqb}
use Rattle.std.proofs.lemmas.List.Quantifiers.{position-Some}
use Rattle.std.proofs.lemmas.Slice.Eq.{bytes_eq-Decides}
use Rattle.toml.specs.Data.{Data}
use Rattle.sqs_redrive.specs.declared.settings.TaskSettings.{TaskSettings}
use Rattle.sqs_formats.specs.declared.home.HomeTask.{HomeTask}
use Rattle.sqs_formats.specs.Keys.{each, item_place, text_in}
use Rattle.sqs_formats.specs.Outline.{Outline, queue_number, queue_text}
use Rattle.sqs_formats.specs.Actors.{task_there}
use Rattle.sqs_formats.specs.Tasks.{task}
use Rattle.sim_scenario.proofs.ItemsRead.{item_text}
use Rattle.sim_scenario.proofs.KinRead.{task_says}
use Rattle.sqs_formats.proofs.Readings.{parts, same_ok}

-- a text is that of the home exactly where it names the home
same_home : (b : Bool) (o : Outline) (home : ℕ) (name s : List ℕ) (n : ℕ) → bytes_eq s (queue_text o home) ≡ b → queue_number o name ≡ Some home → queue_number o s ≡ Some n → b ≡ (n == home)
same_home true o home name s n is here there =
    let at = position-Some (λ (t : List ℕ). bytes_eq t name) o.queues home [] here in
    let text : s ≡ name = (bytes_eq-Decides s (queue_text o home)).0 is ∙ (bytes_eq-Decides (queue_text o home) name).0 at.1 in
    let both : Some n ≡ Some home = sym there ∙ ap (queue_number o) text ∙ here in
    let same : n ≡ home = cc both in
    sym ((Decides-eqb n home).1 same)
same_home false o home name s n is here there = other (n == home) refl
  where
    other : (c : Bool) → (n == home) ≡ c → false ≡ c
    other false e = refl
    other true e =
        let at = position-Some (λ (t : List ℕ). bytes_eq t s) o.queues n [] there in
        let same : n ≡ home = (Decides-eqb n home).0 e in
        let text : s ≡ queue_text o home = sym ((bytes_eq-Decides (get_or o.queues n []) s).0 at.1) ∙ ap (queue_text o) same in
        absurd (true≢false (sym ((bytes_eq-Decides s (queue_text o home)).1 text) ∙ is))

-- the numbers of the tasks there, by their texts and by their settings
abbrev pub by_text : List ℕ → List (ℕ × (List ℕ × List ℕ)) → List ℕ
by_text home ts = map (λ (t : HomeTask). t.number) (map (λ t. record { number = t.0; name = t.1.0 }) (filter (task_there home) ts))

abbrev pub by_home : ℕ → List (ℕ × TaskSettings) → List ℕ
by_home home ts = map (λ t. t.0) (filter (λ t. t.1.home == home) ts)

both_filters : (b : Bool) (home : ℕ) (text name s : List ℕ) (m : ℕ) (k : TaskSettings) (ts : List (ℕ × (List ℕ × List ℕ))) (ks : List (ℕ × TaskSettings)) → bytes_eq s text ≡ b → (k.home == home) ≡ b
    → by_text text ts ≡ by_home home ks → by_text text ((m, (name, s)) ∷ ts) ≡ by_home home ((m, k) ∷ ks)
both_filters true home text name s m k ts ks is at more = rw (is, at) (ap (λ (ns : List ℕ). m ∷ ns) more)
both_filters false home text name s m k ts ks is at more = rw (is, at) more

pub tasks_there : (o : Outline) (home : ℕ) (name : List ℕ) (m n : ℕ) (ds : List Data) (xs : List (List ℕ × TaskSettings)) → queue_number o name ≡ Some home → each (codes "task") (task o) n ds ≡ Ok xs
    → by_text (queue_text o home) (enumerate_from m (zip (map (text_in (codes "name")) ds) (map (text_in (codes "queue")) ds))) ≡ by_home home (enumerate_from m (map (λ x. x.1) xs))
tasks_there o home name m n [] xs here e = rw (← same_ok _ _ e) refl
tasks_there o home name m n (d ∷ ds) xs here e =
    let t = parts _ _ _ e in
    let x = parts _ _ _ t.2 in
    let rest = parts _ _ _ x.2 in
    let s : List ℕ = text_in (codes "queue") d in
    let there : queue_number o s ≡ Some x.0.1.home = rw (item_text (codes "queue") (item_place (codes "task") n) d t.0 t.1) at (task_says o n t.0 x.0 x.1).home in
    let same = same_home (bytes_eq s (queue_text o home)) o home name s x.0.1.home refl here there in
    rw (← same_ok _ _ rest.2) (both_filters (bytes_eq s (queue_text o home)) home (queue_text o home) (text_in (codes "name") d) s m x.0.1
    (enumerate_from (m + 1) (zip (map (text_in (codes "name")) ds) (map (text_in (codes "queue")) ds))) (enumerate_from (m + 1) (map (λ x. x.1) rest.0)) refl (sym same)
    (tasks_there o home name (m + 1) (n + 1) ds rest.0 here rest.1))
