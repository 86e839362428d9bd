-- What a comparison says of the queues that no difference reaches.
use Rattle.std.specs.Prelude.{Bool, List, Some, [], codes, flat_map, if◌then◌else◌, slice_get, true, ℕ, ◌&&◌, ◌∷◌, ◌≡◌}
use Rattle.std.specs.List.{enumerate_from, list_any}
use Rattle.std.specs.Option.{option_eq}
use Rattle.std.specs.Str.{bytes_eq}
use Rattle.sqs_model.specs.Scenario.{Scenario}
use Rattle.sqs_formats.specs.Output.{queue_names}
use Rattle.sqs_formats.specs.Rows.{lines}
use Rattle.sqs_laws.specs.Reach.{AreOutOfReach, RunAlikeAt, is_marked}

-- the line of a queue, by its name and whether it cannot differ
abbrev pub reach_line : List ℕ → Bool → List (List ℕ)
reach_line name same = codes "reach" ∷ name ∷ (if same then codes "same" else codes "may-differ") ∷ []

-- whether the queue of a number has a name, among the names of a scenario's queues
abbrev pub has_name : List (List ℕ) → ℕ → List ℕ → Bool
has_name names n name = option_eq bytes_eq (slice_get names n) (Some name)

-- whether any of them has it
abbrev pub is_name_of : List (List ℕ) → List ℕ → Bool
is_name_of names name = list_any (λ x. bytes_eq x name) names

-- what is said of a numbered queue by the names of another scenario's queues, if one of these has its name: it cannot
-- differ if it is marked, and the other one's queue of its number has its name
abbrev pub said_of : List (List ℕ) → List Bool → ℕ × List ℕ → List (List (List ℕ))
said_of others marks x =
    if is_name_of others x.1 then reach_line x.1 (is_marked marks x.0 && has_name others x.0 x.1) ∷ [] else []

-- the text of all this
abbrev pub reach_text : Scenario → Scenario → List Bool → List ℕ
reach_text s t marks = lines (flat_map (said_of (queue_names t) marks) (enumerate_from 0 (queue_names s)))

-- a text says which queues cannot differ: those that no difference reaches, at which the runs of both scenarios give the
-- same rows and leave the same messages
pub record SaysReach (s t : Scenario) (text : List ℕ) : Type 0 where
  pub marks : List Bool
  pub out_of_reach : AreOutOfReach s t marks
  pub alike : (n : ℕ) → is_marked marks n ≡ true → RunAlikeAt (is_marked marks) s t
  pub says : text ≡ reach_text s t marks
