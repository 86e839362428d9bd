-- The order of keys goes on: handling the least entry due leaves nothing due before it, and makes only later entries
-- due.
use Rattle.std.specs.Ordering.{is_lt}
use Rattle.std.specs.Prelude.{All, Contains, List, false, ◌<◌, ◌≡◌, ◌≤◌, ◌⊎◌}
use Rattle.sim_clock.specs.declared.key.Key.{Key}
use Rattle.sim_clock.specs.Order.{key_cmp}
use Rattle.sqs_model.specs.Dues.{dues}
use Rattle.sqs_model.specs.Progress.{IsSound}
use Rattle.sqs_model.specs.Site.{Site}
use Rattle.sqs_model.specs.Step.{handled}

-- nothing that is due at a site comes before a key
abbrev pub HasNoneBefore : Key → Site → Type 0
HasNoneBefore key s = All (λ due. is_lt (key_cmp due key) ≡ false) (dues s)

-- if nothing due at a sound site comes before a key, nothing does after its handling
abbrev pub HandlingLeavesNoneBefore : Type 0
HandlingLeavesNoneBefore = (key : Key) (s : Site) → IsSound s.core → HasNoneBefore key s → HasNoneBefore key (handled key s).site

-- later than a key, or one of some keys
abbrev pub IsLaterOrIn : Key → List Key → Key → Type 0
IsLaterOrIn key keys due = (key.at < due.at) ⊎ Contains keys due

-- if nothing is due at a sound site before a moment, a handling at that moment makes only later entries due there:
-- all else that is due afterwards was due before
abbrev pub HandlingMakesNothingDueNow : Type 0
HandlingMakesNothingDueNow =
    (key : Key) (s : Site) → IsSound s.core → All (λ due. key.at ≤ due.at) (dues s) → All (IsLaterOrIn key (dues s)) (dues (handled key s).site)
