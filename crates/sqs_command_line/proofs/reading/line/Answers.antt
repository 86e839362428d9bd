use Rattle.std.proofs.Common.{[], ap, map, subst, sym, ◌∙◌, ◌≡◌}
use Rattle.clap.specs.Words.{App, HasKind, app_of, fault_of, is_simple, is_simple_and_free, subcommand_of, subcommand_rows_of}
use Rattle.sqs_command_line.specs.Lines.{IsLineOf, IsReadableOf}
use Rattle.sqs_command_line.specs.Programs.{program}
use Rattle.sqs_command_line.proofs.Answered.{handed_fault, program_is_free, program_is_simple}
use Rattle.sqs_command_line.proofs.Readable.{readable}
use Rattle.sqs_command_line.proofs.reading.line.Goals as goal

pub unreachable-requires : goal.unreachable-requires
unreachable-requires c =
    let words = map (λ w. w.now) c.args.words.now in
    let app : app_of c.in-Ok.command ≡ program = c.in-Ok.ensures.app in
    let none : fault_of program words ≡ [] = ap (λ (a : App). fault_of a words) (sym app) ∙ c.in_ok-matches.ensures.kinds (ap is_simple_and_free app ∙ program_is_free) in
    let same : subcommand_rows_of c.in_ok-matches.matches ≡ subcommand_of program words = (c.in_ok-matches.ensures.matches (ap is_simple app ∙ program_is_simple)).1 ∙ ap (λ (a : App). subcommand_of a words) app in
    c.in-Err-line_of.ensures (subst IsReadableOf (sym same) (readable words none))

pub returns-clause-line : goal.returns-clause-line
returns-clause-line c =
    let words = map (λ w. w.now) c.args.words.now in
    let app : app_of c.in-Ok.command ≡ program = c.in-Ok.ensures.app in
    let none : fault_of program words ≡ [] = ap (λ (a : App). fault_of a words) (sym app) ∙ c.in_ok-matches.ensures.kinds (ap is_simple_and_free app ∙ program_is_free) in
    let same : subcommand_rows_of c.in_ok-matches.matches ≡ subcommand_of program words = (c.in_ok-matches.ensures.matches (ap is_simple app ∙ program_is_simple)).1 ∙ ap (λ (a : App). subcommand_of a words) app in
    (none, subst (λ found. IsLineOf found c.in-Ok-line_of.line) same c.in-Ok-line_of.ensures)

pub returns-in_err-matches-clause-fault : goal.returns-in_err-matches-clause-fault
returns-in_err-matches-clause-fault c =
    let words = map (λ w. w.now) c.args.words.now in
    let app : app_of c.in-Ok.command ≡ program = c.in-Ok.ensures.app in
    let e = c.in_err-matches.field-0.0 in
    handed_fault words c.from_residual.result e c.from_residual.ensures.1
    (subst (λ (a : App). HasKind (fault_of a words) e) app (c.in_err-matches.ensures.kinds (ap is_simple_and_free app ∙ program_is_free)))
