-- The progress of a run, and when it is shown.
use Rattle.std.specs.Prelude.{Bool, not, ℕ, ◌&&◌, ◌*◌, ◌/◌}

-- whether it is shown: the run is not quiet, and standard error is a terminal to which the log does not go
abbrev pub is_shown : Bool → Bool → Bool → Bool
is_shown quiet to_terminal log_to_terminal = not quiet && to_terminal && not log_to_terminal

-- how many hundredths of the horizon a moment is, rounded down
abbrev pub share : ℕ → ℕ → ℕ
share moment horizon = (moment * 100) / horizon
