-- What follows from the answers of a writer of std.
use Rattle.std.specs.Prelude.{Bool, Err, Ok, Result, not, true, ℕ, ◌&&◌, ◌==◌}
use Rattle.sim_records.specs.declared.answers.Answers.{Answers}

-- whether the answer to a write of some bytes is a failure: an error, or none taken although there were some
abbrev pub write_fails : {E : Type 0} → Result ℕ E → ℕ → Bool
write_fails (Ok taken) bytes = (taken == 0) && not (bytes == 0)
write_fails (Err e) bytes = true

-- whether the last answer was a failure
abbrev pub failed_by : Answers → Bool
failed_by answers = answers.has_failed

-- whether the last answer was that of a flush that did not fail
abbrev pub flushed_by : Answers → Bool
flushed_by answers = answers.is_flushed
