-- How a rehearsal is split, by its line.
use Rattle.std.specs.Prelude.{Bool, List, None, Option, Some, [], cond, length, nat_lt, option_and_then, option_map, unwrap_or, is_some, min, ℕ, ◌+◌, ◌-◌, ◌&&◌, ◌||◌, ◌==◌, ◌∷◌, ◌^◌}
use Rattle.std.specs.Char.{digit_value}
use Rattle.std.specs.List.{list_all, slice_split}
use Rattle.std.specs.Str.Parse.{digits_value, without_leading_plus}
use Rattle.sim_report.specs.declared.asked.Wanted.{Wanted}
use Rattle.sim_report.specs.declared.stretch.Stretch.{Stretch}
use Rattle.sqs_command_line.specs.declared.asked.RunLine.{RunLine}
use Rattle.sqs_command_line.specs.declared.asked.WantedLine.{WantedLine}
use Rattle.sqs_rehearsal.specs.Options.{Options}

-- one decimal digit or more, and nothing else
abbrev pub is_numeral : List ℕ → Bool
is_numeral ds = nat_lt 0 (length ds) && list_all (λ d. nat_lt (digit_value d) 10) ds

-- the number of 32 bits in a text: digits, with or without a plus before them
abbrev pub number_of : List ℕ → Option ℕ
number_of text =
    let ds = without_leading_plus text in
    cond (is_numeral ds && nat_lt (digits_value 10 ds) (2 ^ 32)) (Some (digits_value 10 ds)) None

-- the numbers in texts, if each has one
abbrev pub numbers_of : List (List ℕ) → Option (List ℕ)
numbers_of [] = Some []
numbers_of (text ∷ rest) = option_and_then (λ n. option_map (λ ns. n ∷ ns) (numbers_of rest)) (number_of text)

-- the list of a map such as 0,1,0: the numbers between the commas; none if one of them is no number
abbrev pub map_of : List ℕ → List ℕ
map_of list = unwrap_or (numbers_of (slice_split (λ b. b == 44) list)) []

-- the stretch of figures: from the first to the last millisecond that a command line gives
abbrev pub stretch_of : WantedLine → Stretch
stretch_of line =
    record { from = unwrap_or line.from 0; until = min (unwrap_or line.to (2 ^ 64 - 1) + 1) (2 ^ 64 - 1) }

-- what a command line wants of figures; more than ten messages that wait are a backlog, and a window has five minutes,
-- unless it says otherwise
abbrev pub wanted_by : WantedLine → Wanted
wanted_by line =
    record {
      stretch = stretch_of line;
      backlog = unwrap_or line.backlog 10;
      window = unwrap_or line.window_figures 300000;
    }

-- whether it has an option of figures
abbrev pub has_option : WantedLine → Bool
has_option line = is_some line.from || is_some line.to || is_some line.backlog || is_some line.window_figures

-- what a rehearsal wants of figures, for which it asks by a word or by one of their options
abbrev pub wanted_of : RunLine → Option Wanted
wanted_of line = cond (line.figures || has_option line.wanted) (Some (wanted_by line.wanted)) None

-- the split of a command line: its numbers as they were read; one worker if it has no number of workers
abbrev pub split_of : RunLine → Options
split_of line = record {
  window = line.window;
  parts = line.parts;
  map = option_map (λ list. map_of list.now) line.map;
  workers = unwrap_or line.workers 1;
  figures = wanted_of line;
}
