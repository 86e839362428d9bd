-- Outages of a text are in range.
use Rattle.std.proofs.Common.{◌≡◌, ℕ, ◌+◌, ◌<◌, ◌≤◌, Bool, true, false, codes, ◌&&◌, if◌then◌else◌, List, [], ◌∷◌, ◌++◌, ◌∙◌, Ok, ap, arith, suc, zero, get_or, length, lit≤, map, sym, take}
use Rattle.std.specs.List.{enumerate_from}
use Rattle.std.specs.Option.{is_some}
use Rattle.std.specs.Prelude.{All}
use Rattle.toml.specs.Data.{as_array}
use Rattle.std.proofs.lemmas.List.{map-append}
use Rattle.std.proofs.lemmas.List.Elements.{All-append, All-cons, All-head, All-nil, All-tail}
use Rattle.sqs_model.specs.declared.agents.Outage.{Outage}
use Rattle.sqs_model.specs.declared.agents.Stretch.{Stretch}
use Rattle.sqs_model.specs.Valid.{IsOutage}
use Rattle.sqs_formats.specs.Keys.{Table, has, integer}
use Rattle.sqs_formats.specs.Outages.{one_each, one_for_all, one_stretch, outages, outages_in, permille_at, permilles, stretch, stretches, stretches_by}
use Rattle.sqs_formats.proofs.Readings.{parts, same_ok}
use Rattle.sim_scenario.proofs.Admits.{Admits, integer_admits, optional_admits, required_admits, required_within}
use Rattle.sim_scenario.proofs.QuantilesRead.{all_hold, items_hold}

-- a stretch of time that ends within 30 days
record IsInRange (s : Stretch) : Type 0 where
  ordered : s.from ≤ s.to
  ends : s.to ≤ 2592000000

stretch_admits : Admits IsInRange stretch
unfolding stretch
stretch_admits place d s e =
    let both = parts _ _ _ e in
    let from = parts _ _ _ both.2 in
    let to = parts _ _ _ from.2 in
    let within = integer_admits from.0 2592000000 place both.0.1 to.0 to.1 in
    rw (← same_ok _ _ to.2) (record { ordered = within.0; ends = within.1 })

one_in_range : (t : Table) (s : Stretch) → one_stretch t ≡ Ok s → IsInRange s
unfolding one_stretch
one_in_range t s e =
    let from = parts _ _ _ e in
    let to = parts _ _ _ from.2 in
    let within = required_within from.0 2592000000 t (codes "fails_to_ms") to.0 to.1 in
    rw (← same_ok _ _ to.2) (record { ordered = within.0; ends = within.1 })

stretches_in_range : (list one : Bool) (t : Table) (ss : List Stretch) → stretches_by list one t ≡ Ok ss → All IsInRange ss
unfolding stretches_by
stretches_in_range true one t ss e = required_admits (All IsInRange) stretches (all_hold IsInRange stretch stretch_admits 1 32) t (codes "fails_between_ms") ss e
stretches_in_range false true t ss e =
    let one = parts _ _ _ e in
    rw (← same_ok _ _ one.2) (All-cons IsInRange one.0 [] (one_in_range t one.0 one.1) (All-nil IsInRange))
stretches_in_range false false t ss e = rw (← same_ok _ _ e) (All-nil IsInRange)

-- chances of at most 1,000 in a thousand
abbrev AreChances : List ℕ → Type 0
AreChances = All (λ n. n ≤ 1000)

one_each_admits : (outages : ℕ) → Admits AreChances (one_each outages)
unfolding one_each
one_each_admits outages place d ns e =
    let all = parts _ _ _ e in
    let as_many = parts _ _ _ all.2 in
    (items_hold AreChances (λ before. integer 0 1000)
    (λ xs place d x p e. All-append (λ n. n ≤ 1000) xs (x ∷ []) p (All-cons (λ n. n ≤ 1000) x [] (integer_admits 0 1000 place d x e).1 (All-nil (λ n. n ≤ 1000))))
    place [] as_many.0 ns (All-nil (λ n. n ≤ 1000)) as_many.2).0

one_for_all_admits : Admits AreChances one_for_all
unfolding one_for_all
one_for_all_admits place d ns e =
    let read = parts _ _ _ e in
    rw (← same_ok _ _ read.2) (All-cons (λ n. n ≤ 1000) read.0 [] (integer_admits 0 1000 place d read.0 read.1).1 (All-nil (λ n. n ≤ 1000)))

permilles_by_admit : (each : Bool) (outages : ℕ) → Admits AreChances (λ place d. if each then one_each outages place d else one_for_all place d)
permilles_by_admit true outages place d ns e = one_each_admits outages place d ns e
permilles_by_admit false outages place d ns e = one_for_all_admits place d ns e

permilles_admit : (listed : Bool) (outages : ℕ) → Admits AreChances (permilles listed outages)
unfolding permilles
permilles_admit listed outages place d ns e = permilles_by_admit (listed && is_some (as_array d)) outages place d ns e

is_chance : (ps : List ℕ) (i other : ℕ) → other ≤ 1000 → AreChances ps → get_or ps i other ≤ 1000
is_chance [] i other most h = most
is_chance (p ∷ ps) zero other most h = All-head (λ n. n ≤ 1000) p ps h
is_chance (p ∷ ps) (suc i) other most h = is_chance ps i other most (All-tail (λ n. n ≤ 1000) p ps h)

-- the outage in a stretch at a place
abbrev outage_at : List ℕ → ℕ × Stretch → Outage
outage_at ps (i, s) = record { stretch = s; permille = permille_at ps i }

are_outages : (ps : List ℕ) (n : ℕ) (ss : List Stretch) → AreChances ps → All IsInRange ss → All IsOutage (map (outage_at ps) (enumerate_from n ss))
are_outages ps n [] most h = All-nil IsOutage
are_outages ps n (s ∷ ss) most h =
    let first = All-head IsInRange s ss h in
    let chance = is_chance ps n (get_or ps 0 1000) (is_chance ps 0 1000 (lit≤ tt) most) most in
    All-cons IsOutage (outage_at ps (n, s)) (map (outage_at ps) (enumerate_from (n + 1) ss)) (record { ordered = first.ordered; ends = first.ends; failures = chance }) (are_outages ps (n + 1) ss most (All-tail IsInRange s ss h))

-- the outages of a consumer are in range
pub outages_in_range : (t : Table) (os : List Outage) → outages t ≡ Ok os → All IsOutage os
unfolding outages
outages_in_range t os e =
    let read = parts _ _ _ e in
    let chances = parts _ _ _ read.2 in
    let listed = has t (codes "fails_between_ms") in
    let most = optional_admits AreChances [] (permilles listed (length read.0)) (All-nil (λ n. n ≤ 1000)) (permilles_admit listed (length read.0)) t (codes "fails_permille") chances.0 chances.1 in
    let all = stretches_in_range listed (has t (codes "fails_from_ms")) t read.0 read.1 in
    rw (← same_ok _ _ chances.2) (are_outages chances.0 0 read.0 most all)

one_numbered_more : (n : ℕ) (ss : List Stretch) (i j : ℕ) (d : Stretch) → n + i ≡ j → i < length ss → enumerate_from n (take i ss) ++ (j, get_or ss i d) ∷ [] ≡ enumerate_from n (take (i + 1) ss)
one_numbered_more n [] i j d e h = absurd (omega (arith, h))
one_numbered_more n (s ∷ ss) zero j d e h = let same : j ≡ n = omega (arith, e) in ap (λ k. (k, s) ∷ []) same
one_numbered_more n (s ∷ ss) (suc i) j d e h =
    let next : suc i + 1 ≡ suc (i + 1) = omega arith in
    rw next (ap (λ xs. (n, s) ∷ xs) (one_numbered_more (n + 1) ss i j d (omega (arith, e)) (omega (arith, h))))

-- the outage of one stretch more
pub one_outage_more : (ps : List ℕ) (ss : List Stretch) (i : ℕ) (d : Stretch) → i < length ss → outages_in ps (take i ss) ++ record { stretch = get_or ss i d; permille = permille_at ps i } ∷ [] ≡ outages_in ps (take (i + 1) ss)
one_outage_more ps ss i d h = sym (map-append (outage_at ps) (enumerate_from 0 (take i ss)) ((i, get_or ss i d) ∷ [])) ∙ ap (map (outage_at ps)) (one_numbered_more 0 ss i i d (omega arith) h)
