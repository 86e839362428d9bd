use Rattle.std.proofs.Common.{◌∙◌, ◌≤◌, length, sym, arith}
use Rattle.std.proofs.lemmas.Bool.{false≢true}
use Rattle.std.proofs.lemmas.Str.{is_utf8-from_IsUtf8}
use Rattle.toml.specs.View.{table_view}
use Rattle.sim_scenario.proofs.Drafted.{document_draft, no_draft}
use Rattle.sim_scenario.proofs.draft.table_of.Goals as goal

pub returns-in-Ok : goal.returns-in-Ok
returns-in-Ok c =
    let small : length c.args.text.now ≤ 16777216 = omega arith in
    let ok = c.in-Ok.ensures.ok in
    sym (document_draft c.args.text.now (table_view c.in-Ok.table) small (is_utf8-from_IsUtf8 c.args.text.now ok.0) ok.1)

pub returns-else-is_memory : goal.returns-else-is_memory
returns-else-is_memory c =
    let small : length c.args.text.now ≤ 16777216 = omega arith in
    sym (no_draft c.args.text.now small (c.in-Err.ensures.refused (λ m. false≢true (sym c.if-is_memory.false ∙ c.is_memory.ensures.1 m))))
