-- The fields of a record by their places.
use Rattle.std.proofs.Common.{◌≡◌, ◌≢◌, ℕ, zero, suc, List, [], ◌∷◌, length, get_or, refl, arith, Some, None}
use Rattle.csv.specs.Records.{field_at}
use Rattle.sqs_formats.specs.declared.home.Home.{Home}
use Rattle.sqs_formats.specs.Script.{call_in, call_of, fields_of, number, timed}
use Rattle.sim_script.specs.ScriptGives.{fields_at}

pub found : (fs : List (List ℕ)) (i : ℕ) (f : List ℕ) → field_at fs i ≡ Some f → f ≡ get_or fs i []
unfolding field_at
found [] i f e = cc e
found (g ∷ fs) zero f e = cc e
found (g ∷ fs) (suc i) f e = found fs i f e

pub missing : (fs : List (List ℕ)) (i : ℕ) → field_at fs i ≡ None → [] ≡ get_or fs i []
unfolding field_at
missing [] i e = refl
missing (g ∷ fs) zero e = cc e
missing (g ∷ fs) (suc i) e = missing fs i e

-- eleven fields, and any other number of them
pub eleven : (fs : List (List ℕ)) → length fs ≡ 11 → fields_of fs ≡ Some (fields_at fs)
eleven [] h = absurd (omega arith)
eleven (a ∷ []) h = absurd (omega arith)
eleven (a ∷ b ∷ []) h = absurd (omega arith)
eleven (a ∷ b ∷ c ∷ []) h = absurd (omega arith)
eleven (a ∷ b ∷ c ∷ d ∷ []) h = absurd (omega arith)
eleven (a ∷ b ∷ c ∷ d ∷ e ∷ []) h = absurd (omega arith)
eleven (a ∷ b ∷ c ∷ d ∷ e ∷ f ∷ []) h = absurd (omega arith)
eleven (a ∷ b ∷ c ∷ d ∷ e ∷ f ∷ g ∷ []) h = absurd (omega arith)
eleven (a ∷ b ∷ c ∷ d ∷ e ∷ f ∷ g ∷ i ∷ []) h = absurd (omega arith)
eleven (a ∷ b ∷ c ∷ d ∷ e ∷ f ∷ g ∷ i ∷ j ∷ []) h = absurd (omega arith)
eleven (a ∷ b ∷ c ∷ d ∷ e ∷ f ∷ g ∷ i ∷ j ∷ k ∷ []) h = absurd (omega arith)
eleven (a ∷ b ∷ c ∷ d ∷ e ∷ f ∷ g ∷ i ∷ j ∷ k ∷ l ∷ []) h = refl
eleven (a ∷ b ∷ c ∷ d ∷ e ∷ f ∷ g ∷ i ∷ j ∷ k ∷ l ∷ m ∷ rest) h = absurd (omega arith)

pub not_eleven : (fs : List (List ℕ)) → length fs ≢ 11 → fields_of fs ≡ None
not_eleven [] h = refl
not_eleven (a ∷ []) h = refl
not_eleven (a ∷ b ∷ []) h = refl
not_eleven (a ∷ b ∷ c ∷ []) h = refl
not_eleven (a ∷ b ∷ c ∷ d ∷ []) h = refl
not_eleven (a ∷ b ∷ c ∷ d ∷ e ∷ []) h = refl
not_eleven (a ∷ b ∷ c ∷ d ∷ e ∷ f ∷ []) h = refl
not_eleven (a ∷ b ∷ c ∷ d ∷ e ∷ f ∷ g ∷ []) h = refl
not_eleven (a ∷ b ∷ c ∷ d ∷ e ∷ f ∷ g ∷ i ∷ []) h = refl
not_eleven (a ∷ b ∷ c ∷ d ∷ e ∷ f ∷ g ∷ i ∷ j ∷ []) h = refl
not_eleven (a ∷ b ∷ c ∷ d ∷ e ∷ f ∷ g ∷ i ∷ j ∷ k ∷ []) h = refl
not_eleven (a ∷ b ∷ c ∷ d ∷ e ∷ f ∷ g ∷ i ∷ j ∷ k ∷ l ∷ []) h = absurd (h refl)
not_eleven (a ∷ b ∷ c ∷ d ∷ e ∷ f ∷ g ∷ i ∷ j ∷ k ∷ l ∷ m ∷ rest) h = refl

-- a record of eleven fields states the call of those, and any other none
pub states : (home : Home) (fs : List (List ℕ)) → length fs ≡ 11 → call_of home fs ≡ timed (number (fields_at fs).at) (call_in home (fields_at fs))
unfolding call_of
states home fs h = rw (eleven fs h) refl

pub states_none : (home : Home) (fs : List (List ℕ)) → length fs ≢ 11 → None ≡ call_of home fs
unfolding call_of
states_none home fs h = rw (not_eleven fs h) refl
