-- How a call that may return an error agrees with the definitions.
use Rattle.std.specs.Prelude.{Err, IsOk, Ok, Result, ◌≡◌}
use Rattle.sim_clock.specs.declared.refusal.Refusal.{Refusal}
pub use Rattle.sim_engine.specs.Limits.{most_count}
use Rattle.sqs_model.specs.Queue.{Queue}
use Rattle.sim_clock.specs.declared.refusal.Refusal.TheVariants as refusals

-- answer and queue are the definition's; Memory says nothing of them; CountLimit only if the definition would count on
abbrev pub Meets : {A : Type 0} → Type 0 → Result A Refusal → Queue → Result A Refusal × Queue → Type 0
Meets AtLimit (Ok a) new model = model ≡ (Ok a, new)
Meets AtLimit (Err refusals.CountLimit) new model = AtLimit × IsOk model.0
Meets AtLimit (Err refusals.Memory) new model = Unit {0}
Meets AtLimit (Err e) new model = model ≡ (Err e, new)
