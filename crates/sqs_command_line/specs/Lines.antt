-- Which line a subcommand and its arguments are.
use Rattle.std.specs.Prelude.{Bool, Err, List, None, Ok, Option, Result, Some, codes, false, option_map, ℕ, ◌<◌, ◌^◌, ◌||◌, ◌≡◌, ◌⊎◌, true, ⊤}
use Rattle.std.specs.Borrow.{Bor}
use Rattle.std.specs.Str.Parse.{IsNumeral, digits_value, without_leading_plus}
use Rattle.clap.specs.Words.{HasKind, Row, Text, fault_of, first_of, one_of}
use Rattle.sqs_command_line.specs.declared.asked.CheckLine.{CheckLine}
use Rattle.sqs_command_line.specs.declared.asked.CompareLine.{CompareLine}
use Rattle.sqs_command_line.specs.declared.asked.FiguresLine.{FiguresLine}
use Rattle.sqs_command_line.specs.declared.asked.Line.{Line}
use Rattle.sqs_command_line.specs.declared.asked.Line.TheVariants as lines
use Rattle.sqs_command_line.specs.declared.asked.LineFault.{LineFault}
use Rattle.sqs_command_line.specs.declared.asked.LineFault.TheVariants as faults
use Rattle.sqs_command_line.specs.declared.asked.RunLine.{RunLine}
use Rattle.sqs_command_line.specs.declared.asked.WantedLine.{WantedLine}
use Rattle.sqs_command_line.specs.Programs.{program}

-- the text of a borrowed word
abbrev pub told : Option (Bor Text) → Option Text
told o = option_map (λ s. s.now) o

-- the number in a decimal text, if there is one
abbrev pub number_of : Option Text → Option ℕ
number_of o = option_map (λ t. digits_value 10 (without_leading_plus t)) o

-- if there is a text, it is a decimal number of k bits
abbrev pub IsNumber : ℕ → Option Text → Type 0
IsNumber k None = ⊤
IsNumber k (Some t) = IsNumeral 10 (without_leading_plus t) × (digits_value 10 (without_leading_plus t) < 2 ^ k)

-- the number of k bits in a text, or that the text has none
abbrev pub TellsNumber : {E : Type 0} → ℕ → Option Text → Result (Option ℕ) E → Type 0
TellsNumber k text (Ok number) = number ≡ number_of text
TellsNumber k text (Err unread) = ¬ IsNumber k text

-- whether an option without a value was given, by the text that it then has
pub record IsFlag (text : Option Text) (flag : Bool) : Type 0 where
  pub absent : text ≡ None → flag ≡ false
  pub given : text ≡ Some (codes "true") → flag ≡ true
  pub left_out : text ≡ Some (codes "false") → flag ≡ false

-- whether version 3 of scenarios was asked for: by --v3, or by its former name
pub record AsksForThird (rows : List Row) (asked : Bool) : Type 0 where
  pub v3 : Bool
  pub preview : Bool
  pub is_v3 : IsFlag (one_of (codes "v3") rows) v3
  pub is_preview : IsFlag (one_of (codes "preview") rows) preview
  pub either : asked ≡ v3 || preview

-- what is wanted of figures by the arguments
pub record IsWanted (rows : List Row) (l : WantedLine) : Type 0 where
  pub from : l.from ≡ number_of (one_of (codes "from") rows)
  pub to : l.to ≡ number_of (one_of (codes "to") rows)
  pub backlog : l.backlog ≡ number_of (one_of (codes "backlog") rows)
  pub window_figures : l.window_figures ≡ number_of (one_of (codes "window-figures") rows)

-- a rehearsal by its arguments
pub record IsRun (rows : List Row) (l : RunLine) : Type 0 where
  pub window : l.window ≡ number_of (one_of (codes "window") rows)
  pub parts : l.parts ≡ number_of (one_of (codes "parts") rows)
  pub map : told l.map ≡ first_of (codes "map") rows
  pub workers : l.workers ≡ number_of (one_of (codes "workers") rows)
  pub log : told l.log ≡ first_of (codes "log") rows
  pub scripts : told l.scripts ≡ first_of (codes "scripts") rows
  pub figures : IsFlag (one_of (codes "figures") rows) l.figures
  pub wanted : IsWanted rows l.wanted
  pub version_3 : AsksForThird rows l.version_3
  pub quiet : IsFlag (one_of (codes "quiet") rows) l.quiet
  pub scenario : told l.scenario ≡ first_of (codes "scenario") rows

-- a reading by its arguments
pub record IsCheck (rows : List Row) (l : CheckLine) : Type 0 where
  pub scripts : told l.scripts ≡ first_of (codes "scripts") rows
  pub version_3 : AsksForThird rows l.version_3
  pub scenario : told l.scenario ≡ first_of (codes "scenario") rows

-- a comparison by its arguments
pub record IsCompare (rows : List Row) (l : CompareLine) : Type 0 where
  pub scripts : told l.scripts ≡ first_of (codes "scripts") rows
  pub reach : IsFlag (one_of (codes "reach") rows) l.reach
  pub version_3 : AsksForThird rows l.version_3
  pub first : told l.first ≡ first_of (codes "first") rows
  pub second : told l.second ≡ first_of (codes "second") rows

-- figures of a log by their arguments
pub record IsFigures (rows : List Row) (l : FiguresLine) : Type 0 where
  pub scripts : told l.scripts ≡ first_of (codes "scripts") rows
  pub wanted : IsWanted rows l.wanted
  pub version_3 : AsksForThird rows l.version_3
  pub scenario : told l.scenario ≡ first_of (codes "scenario") rows
  pub log : told l.log ≡ first_of (codes "log") rows

-- the numbers of what is wanted of figures can be read
abbrev pub HasWanted : List Row → Type 0
HasWanted rows =
    IsNumber 64 (one_of (codes "from") rows) × IsNumber 64 (one_of (codes "to") rows)
    × IsNumber 64 (one_of (codes "backlog") rows) × IsNumber 64 (one_of (codes "window-figures") rows)

-- the numbers of a rehearsal can be read
abbrev pub HasNumbers : List Row → Type 0
HasNumbers rows =
    IsNumber 64 (one_of (codes "window") rows) × IsNumber 32 (one_of (codes "parts") rows) × IsNumber 32 (one_of (codes "workers") rows)
    × HasWanted rows

-- a line by the subcommand's name and its arguments
abbrev pub IsLine : Text → List Row → Line → Type 0
IsLine name rows (lines.Run l) = (name ≡ codes "run") × IsRun rows l
IsLine name rows (lines.Check l) = (name ≡ codes "check") × IsCheck rows l
IsLine name rows (lines.Compare l) = (name ≡ codes "compare") × IsCompare rows l
IsLine name rows (lines.Figures l) = (name ≡ codes "figures") × IsFigures rows l

-- a line by what was found of the subcommand, which must be there
abbrev pub IsLineOf : Option (Text × List Row) → Line → Type 0
IsLineOf None l = ⊥
IsLineOf (Some p) l = IsLine p.0 p.1 l

-- a subcommand of the program whose numbers can be read
abbrev pub IsReadable : Text × List Row → Type 0
IsReadable p =
    ((p.0 ≡ codes "run") × HasNumbers p.1)
    ⊎ (((p.0 ≡ codes "figures") × HasWanted p.1) ⊎ ((p.0 ≡ codes "check") ⊎ (p.0 ≡ codes "compare")))

abbrev pub IsReadableOf : Option (Text × List Row) → Type 0
IsReadableOf None = ⊥
IsReadableOf (Some p) = IsReadable p

-- why words are no line: a fault that `clap`'s rules find in them, or out of memory
abbrev pub IsFaultOf : List Text → LineFault → Type 0
IsFaultOf words (faults.Words error) = HasKind (fault_of program words) error
