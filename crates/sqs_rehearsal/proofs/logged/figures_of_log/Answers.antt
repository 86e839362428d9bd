use Rattle.std.proofs.Common.{◌≡◌, ◌∙◌, [], All, List, ℕ, ap, subst}
use Rattle.sim_logs.specs.Logs.{IsReadUp, IsWritten}
use Rattle.sim_report.proofs.Figuring.{figured-append}
use Rattle.sim_report.specs.Figured.{figured, figures_after}
use Rattle.sqs_formats.specs.Rows.{log_text}
use Rattle.sqs_rehearsal.specs.Wanted.{figures_of}
use Rattle.sqs_rehearsal.proofs.logged.figures_of_log.Goals as goal

pub returns : goal.returns
returns g c =
    let s = c.args.scenario.now in
    let asked = figures_of s c.args.wanted in
    let read = c.in_ok-figures.ensures.read in
    let old = g.R.Read.remaining c.args.log.now in
    let new = g.R.Read.remaining c.read_log.new.log in
    let named : c.new-names.result ≡ s.names = c.new-names.ensures ∙ c.in_ok-copies.ensures ∙ c.names.ensures in
    let figures : c.in_ok-figures.figures ≡ figured asked read.rows = read.figures ∙ ap (figures_after read.rows) c.in_ok-fresh.ensures ∙ figured-append asked [] read.rows in
    record {
      rows = read.rows;
      turns = read.turns;
      written = subst (λ (names : List (List ℕ)). All (IsWritten names) read.rows) named read.written;
      log = subst (λ (names : List (List ℕ)). IsReadUp old new (log_text names read.rows)) named read.log;
      figures = c.in_ok-text.ensures asked read.rows figures;
    }
