-- How many names an outline has.
use Rattle.std.specs.Prelude.{ℕ, List, length, map, take, ◌+◌, ◌≡◌, ◌≤◌}
use Rattle.std.specs.List.{range_with_len, sum}

-- for each actor, how many copies the actors before it have
abbrev pub copies_before : List ℕ → List ℕ
copies_before copies = map (λ n. sum (take n copies)) (range_with_len 0 (length copies))

-- the tasks' names stand behind those of the queues, the actors and their copies, and all names are not too many
pub record AreCounted (queues : ℕ) (copies : List ℕ) (first_task_place names : ℕ) : Type 0 where
  pub place : first_task_place ≡ queues + (length copies + sum copies)
  pub within : first_task_place ≤ names
  pub few : names ≤ 32000
