-- The move tasks at a queue, one by one.
use Rattle.std.proofs.Common.{◌≡◌, ℕ, ◌+◌, ◌<◌, ◌≤◌, true, false, List, [], ◌∷◌, length, get_or, drop, refl, ap, ◌∙◌, ◌⊎◌, inl, inr, arith}
use Rattle.std.proofs.lemmas.List.{drop_more}
use Rattle.std.proofs.lemmas.Bool.{cases_lt}
use Rattle.std.proofs.Math.ListN.{drop_of_length-le}
use Rattle.std.specs.List.{enumerate_from, zip}
use Rattle.std.specs.Str.{bytes_eq}
use Rattle.sqs_formats.specs.declared.home.HomeTask.{HomeTask}
use Rattle.sqs_formats.specs.Actors.{tasks_at}

-- the tasks from a place on
abbrev pub Behind : List ℕ → ℕ → ℕ → List (List ℕ) → List (List ℕ) → List HomeTask
Behind home first i names homes = tasks_at home (enumerate_from (first + i) (zip (drop i names) (drop i homes)))

here : (home : List ℕ) (n : ℕ) (name task_home : List ℕ) (rest : List (ℕ × (List ℕ × List ℕ))) → bytes_eq task_home home ≡ true
    → tasks_at home ((n, (name, task_home)) ∷ rest) ≡ record { number = n; name = name } ∷ tasks_at home rest
here home n name task_home rest e = rw e refl

elsewhere : (home : List ℕ) (n : ℕ) (name task_home : List ℕ) (rest : List (ℕ × (List ℕ × List ℕ))) → bytes_eq task_home home ≡ false
    → tasks_at home ((n, (name, task_home)) ∷ rest) ≡ tasks_at home rest
elsewhere home n name task_home rest e = rw e refl

-- the task at a place stands elsewhere
pub behind_elsewhere : (home : List ℕ) (first i : ℕ) (names homes : List (List ℕ)) (task_home : List ℕ) → i < length names → i < length homes
    → get_or homes i task_home ≡ task_home → bytes_eq task_home home ≡ false
    → Behind home first i names homes ≡ Behind home first (i + 1) names homes
behind_elsewhere home first i names homes task_home h k is_home e =
    let next : first + i + 1 ≡ first + (i + 1) = omega arith in
    rw (drop_more names i [] h, drop_more homes i task_home k, is_home)
    (elsewhere home (first + i) (get_or names i []) task_home (enumerate_from (first + i + 1) (zip (drop (i + 1) names) (drop (i + 1) homes))) e
    ∙ ap (λ n. tasks_at home (enumerate_from n (zip (drop (i + 1) names) (drop (i + 1) homes)))) next)

zip_none : (names : List (List ℕ)) → zip {K = List ℕ} {X = List ℕ} names [] ≡ []
zip_none [] = refl
zip_none (n ∷ ns) = refl

-- no task is left behind the last place
names_end : (home : List ℕ) (first i : ℕ) (names homes : List (List ℕ)) → length names ≤ i → Behind home first i names homes ≡ []
names_end home first i names homes h = rw (drop_of_length-le names h) refl

homes_end : (home : List ℕ) (first i : ℕ) (names homes : List (List ℕ)) → length homes ≤ i → Behind home first i names homes ≡ []
homes_end home first i names homes h = rw (drop_of_length-le homes h, zip_none (drop i names)) refl

behind_by : (home : List ℕ) (first i : ℕ) (names homes : List (List ℕ)) → ((i < length names) → (i < length homes) → ⊥)
    → (i < length names) ⊎ (length names ≤ i) → (i < length homes) ⊎ (length homes ≤ i) → Behind home first i names homes ≡ []
behind_by home first i names homes h (inl a) (inl b) = absurd (h a b)
behind_by home first i names homes h (inl a) (inr b) = homes_end home first i names homes b
behind_by home first i names homes h (inr a) b = names_end home first i names homes a

pub behind_none : (home : List ℕ) (first i : ℕ) (names homes : List (List ℕ)) → ((i < length names) → (i < length homes) → ⊥) → Behind home first i names homes ≡ []
behind_none home first i names homes h = behind_by home first i names homes h (cases_lt i (length names)) (cases_lt i (length homes))
