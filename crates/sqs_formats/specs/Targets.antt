-- How many copies a scaler of a scenario's text wants: one for each of so many visible messages, or by steps.
use Rattle.std.specs.Prelude.{ℕ, ◌-◌, Bool, true, false, codes, nat_lt, List, [], ◌∷◌, length, Option, Some, None, Ok, slice_get}
use Rattle.sim_clock.specs.declared.refusal.Refusal.TheVariants.{OutOfRange}
use Rattle.sqs_model.specs.declared.agents.ScalingStep.{ScalingStep}
use Rattle.sqs_model.specs.declared.agents.Target.{Target}
use Rattle.sqs_model.specs.declared.agents.Target.TheVariants.{PerCopy, Steps}
use Rattle.sqs_formats.specs.Reading.{needs, ◌>>=◌}
use Rattle.sqs_formats.specs.Keys.{Says, Table, KeyType, fault_at, has, integer, required}
use Rattle.sqs_formats.specs.Lists.{list_of, pair}

-- whether so many visible messages are more than the step before has, if there is one
abbrev pub is_further : Option ScalingStep → ℕ → Bool
is_further None visible = true
is_further (Some s) visible = nat_lt s.visible visible

-- a step, as [100, 4]: up to 100 visible messages 4 copies
unfoldable pub step : List ScalingStep → KeyType ScalingStep
step before place d = do
  both ← pair place d
  visible ← integer 0 1000000 place both.0
  further ← needs (is_further (slice_get before (length before - 1)) visible) (fault_at OutOfRange place) visible
  copies ← integer 0 1000 place both.1
  Ok (record { visible = visible; copies = copies })

-- 1 to 32 steps
abbrev pub steps : KeyType (List ScalingStep)
steps = list_of 1 32 (λ count. step)

-- what a scaler wants: by its steps if they are there
unfoldable pub target_by : Bool → Table → Says Target
target_by true t = do
  steps ← required steps t (codes "steps")
  Ok (Steps steps)
target_by false t = do
  messages ← required (integer 1 1000000) t (codes "visible_per_copy")
  Ok (PerCopy messages)

abbrev pub target : Table → Says Target
target t = target_by (has t (codes "steps")) t

abbrev pub target_keys : Bool → List (List ℕ)
target_keys true = codes "steps" ∷ []
target_keys false = codes "visible_per_copy" ∷ []
