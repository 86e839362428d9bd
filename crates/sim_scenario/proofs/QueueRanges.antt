-- The ranges of a text's latencies and policies, and what holds of all items of a list.
use Rattle.std.proofs.Common.{◌≡◌, ℕ, ◌+◌, ◌<◌, ◌≤◌, ◌==◌, length, unwrap_or, Bool, true, false, codes, List, [], ◌∷◌, Option, Some, None, Ok, refl, arith}
use Rattle.std.proofs.lemmas.List.Elements.{All-cons, All-nil}
use Rattle.std.specs.Prelude.{All}
use Rattle.toml.specs.Data.{Data}
use Rattle.sqs_redrive.specs.declared.settings.Latency.{Latency}
use Rattle.sqs_redrive.specs.declared.settings.Policy.{Policy}
use Rattle.sqs_formats.specs.Keys.{Says, Table, each}
use Rattle.sqs_formats.specs.Outline.{Outline, dead_letter_named, queue_number}
use Rattle.sqs_formats.specs.Queues.{latency, one_latency, policy, two_bounds}
use Rattle.sqs_model.specs.Scenario.{LeadsWithin}
use Rattle.sqs_model.specs.Valid.{IsLatency, MayBePolicy}
use Rattle.sim_scenario.proofs.Links.{below}
use Rattle.sqs_formats.proofs.Readings.{parts, same_ok}
use Rattle.sim_scenario.proofs.Admits.{Admits, bounds_within, required_admits, required_within}

one_in_range : (t : Table) (l : Latency) → one_latency t ≡ Ok l → IsLatency l
one_in_range t l e =
    let both = parts _ _ _ e in
    let w = required_within 1 900000 t (codes "latency_ms") both.0 both.1 in
    rw (← same_ok _ _ both.2) (record { least = w.0; ordered = omega arith; greatest = w.1 })

two_in_range : (t : Table) (l : Latency) → two_bounds t ≡ Ok l → IsLatency l
two_in_range t l e =
    let both = parts _ _ _ e in
    let w = bounds_within 900000 t (codes "latency_min_ms") (codes "latency_max_ms") both.0 both.1 in
    rw (← same_ok _ _ both.2) (record { least = w.0; ordered = w.1; greatest = w.2 })

latency_by_version : (b : Bool) (version : ℕ) (t : Table) (l : Latency) → (version == 1) ≡ b → latency version t ≡ Ok l → IsLatency l
unfolding latency
latency_by_version true version t l is e = one_in_range t l (rw is at e)
latency_by_version false version t l is e = two_in_range t l (rw is at e)

pub latency_in_range : (version : ℕ) (t : Table) (l : Latency) → latency version t ≡ Ok l → IsLatency l
latency_in_range version t l e = latency_by_version (version == 1) version t l refl e

-- a policy leads to a queue
lead_within : (x : Option ℕ) (m : ℕ) → 1 ≤ m → ((n : ℕ) → x ≡ Some n → n < m) → unwrap_or x 0 < m
lead_within None m h k = omega arith
lead_within (Some n) m h k = k n refl

dead_letter_admits : (o : Outline) → 1 ≤ length o.queues → Admits (λ n. n < length o.queues) (dead_letter_named o)
unfolding dead_letter_named
dead_letter_admits o h place d n e =
    let s = parts _ _ _ e in
    rw (← same_ok _ _ s.2) (lead_within (queue_number o s.0) (length o.queues) h (below o s.0))

pub policy_says : (o : Outline) (b : Bool) (t : Table) (p : Option Policy) → policy o b t ≡ Ok p → MayBePolicy p × (1 ≤ length o.queues → LeadsWithin (length o.queues) p)
unfolding policy
policy_says o false t p e = rw (← same_ok _ _ e) (tt, λ h. tt)
policy_says o true t p e =
    let dead_letter = parts _ _ _ e in
    let most = parts _ _ _ dead_letter.2 in
    let within = parts _ _ _ most.2 in
    rw (← same_ok _ _ within.2) (
      record { receives = required_within 1 1000 t (codes "max_receives") most.0 most.1; latency = latency_in_range o.version t within.0 within.1 },
      λ h. required_admits (λ n. n < length o.queues) (dead_letter_named o) (dead_letter_admits o h) t (codes "dead_letter") dead_letter.0 dead_letter.1,
    )

-- what holds of each item that is read holds of all
pub each_holds : {X : Type 0} (P : X → Type 0) (key : List ℕ) (read : ℕ → Table → Says X) (n : ℕ) (ds : List Data) (xs : List X)
    → ((n : ℕ) (t : Table) (x : X) → read n t ≡ Ok x → P x) → each key read n ds ≡ Ok xs → All P xs
each_holds P key read n [] xs h e = rw (← same_ok _ _ e) (All-nil P)
each_holds P key read n (d ∷ ds) xs h e =
    let t = parts _ _ _ e in
    let x = parts _ _ _ t.2 in
    let rest = parts _ _ _ x.2 in
    rw (← same_ok _ _ rest.2) (All-cons P x.0 rest.0 (h n t.0 x.0 x.1) (each_holds P key read (n + 1) ds rest.0 h rest.1))
