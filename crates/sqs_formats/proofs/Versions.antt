-- Readings of which only the newest version that may be read differs.
use Rattle.std.proofs.Common.{◌≡◌, ◌≤◌, ◌⊎◌, ℕ, ℤ, pos, negsuc, Bool, true, false, List, Result, Ok, Err, codes, inl, inr, refl, ap, nat_le, ⊎_elim}
use Rattle.std.proofs.Math.Nat.{le_trans}
use Rattle.std.proofs.lemmas.Bool.{and_parts, le-leb, leb-true}
use Rattle.toml.specs.Data.{Data, Members, as_integer}
use Rattle.sim_clock.specs.declared.refusal.Refusal.TheVariants.{OutOfRange}
use Rattle.sqs_formats.specs.Actors.{Files}
use Rattle.sqs_formats.specs.Keys.{Table, fault_at, integer, place_of, ranged, required, typed, within}
use Rattle.sqs_formats.specs.Reading.{and_then, needs}
use Rattle.sqs_formats.specs.Scenario.{scenario_in, scenario_upto, top}
use Rattle.sqs_formats.specs.Versions.{VersionsStay, version_fault}

-- the first of two readings has just this fault, or the second is the same
abbrev pub Stays : {F X : Type 0} → F → Result X F → Result X F → Type 0
Stays f old new = (old ≡ Err f) ⊎ (new ≡ old)

-- what is read before changes nothing of that
behind_part : {F X Y : Type 0} (f : F) (part : Result X F) (old new : X → Result Y F) → ((x : X) → Stays f (old x) (new x)) → Stays f (and_then part old) (and_then part new)
unfolding and_then
behind_part f (Ok x) old new s = s x
behind_part f (Err g) old new s = inr refl

-- nor does what is read behind it
before_rest : {F X Y : Type 0} (f : F) (old new : Result X F) (rest : X → Result Y F) → Stays f old new → Stays f (and_then old rest) (and_then new rest)
unfolding and_then
before_rest f old new rest (inl e) = inl (ap (λ r. and_then r rest) e)
before_rest f old new rest (inr e) = inr (ap (λ r. and_then r rest) e)

-- a test that lets more through
more_let_through : {F X : Type 0} (f : F) (b c : Bool) (x : X) → (b ≡ true → c ≡ true) → Stays f (needs b f x) (needs c f x)
more_let_through f true c x more = inr (ap (λ b. needs b f x) (more refl))
more_let_through f false c x more = inl refl

-- a number up to the one is up to a greater one
still_within : (low high higher n : ℕ) → high ≤ higher → within low high n ≡ true → within low higher n ≡ true
still_within low high higher n le h =
    let tests = and_parts (nat_le low n) (nat_le n high) h in
    rw tests.0 (le-leb n higher (le_trans (leb-true n high tests.1) le))

ranged_stays : (low high higher : ℕ) → high ≤ higher → (place : List ℕ) (z : ℤ) → Stays (fault_at OutOfRange place) (ranged low high place z) (ranged low higher place z)
ranged_stays low high higher le place (pos n) = more_let_through (fault_at OutOfRange place) _ _ n (still_within low high higher n le)
ranged_stays low high higher le place (negsuc n) = inr refl

integer_stays : (low high higher : ℕ) → high ≤ higher → (place : List ℕ) (d : Data) → Stays (fault_at OutOfRange place) (integer low high place d) (integer low higher place d)
unfolding integer
integer_stays low high higher le place d = behind_part _ (typed place (as_integer d)) _ _ (ranged_stays low high higher le place)

required_stays : (low high higher : ℕ) → high ≤ higher → (t : Table) (key : List ℕ) → Stays (fault_at OutOfRange (place_of t key)) (required (integer low high) t key) (required (integer low higher) t key)
unfolding required
required_stays low high higher le t key = behind_part _ _ _ _ (integer_stays low high higher le (place_of t key))

top_stays : (newest newer : ℕ) → newest ≤ newer → (t : Table) → Stays (fault_at OutOfRange (place_of t (codes "version"))) (top newest t) (top newer t)
unfolding top
top_stays newest newer le t = behind_part _ _ _ _ (λ known. before_rest _ _ _ _ (required_stays 1 newest newer le t (codes "version")))

scenario_stays : (newest newer : ℕ) → newest ≤ newer → (files : Files) (ms : Members) → Stays version_fault (scenario_in newest files ms) (scenario_in newer files ms)
unfolding scenario_in
scenario_stays newest newer le files ms = before_rest _ _ _ _ (top_stays newest newer le _)

text_stays : (newest newer : ℕ) → newest ≤ newer → (files : Files) (text : List ℕ) → Stays version_fault (scenario_upto newest files text) (scenario_upto newer files text)
unfolding scenario_upto
text_stays newest newer le files text = behind_part _ _ _ _ (λ small. behind_part _ _ _ _ (scenario_stays newest newer le files))

pub versions_stay : VersionsStay
versions_stay newest newer le files text is_other = ⊎_elim (λ e. absurd (is_other e)) (λ e. e) (text_stays newest newer le files text)
