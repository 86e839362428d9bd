-- What a scenario's text is, before its script files are known.
use Rattle.std.specs.Prelude.{Err, List, Result, if◌then◌else◌, ok_or, ℕ, ◌≡◌}
use Rattle.std.specs.Result.{result_map_both}
use Rattle.toml.specs.Data.{Members}
use Rattle.toml.specs.View.{table_view}
use Rattle.sim_clock.specs.declared.refusal.Refusal.{Refusal}
use Rattle.sim_clock.specs.declared.refusal.Refusal.TheVariants.{NotToml, TooMany}
use Rattle.sqs_formats.specs.Scenario.{document, is_small, newest_unasked}
use Rattle.sim_scenario.specs.declared.draft.Draft.{Draft}
use Rattle.sim_scenario.specs.declared.draft.Newest.{Newest}
use Rattle.sim_scenario.specs.declared.draft.Newest.TheVariants.{Second, Third}

-- the number of the newest version that may be read
abbrev pub newest_of : Newest → ℕ
newest_of Second = 2
newest_of Third = 3

-- the document of a text, or why none is read in it
abbrev pub draft_of : List ℕ → Result Members Refusal
draft_of text = if is_small text then ok_or (document text) NotToml else Err TooMany

-- a draft of a text, of which versions up to the newest one may be read: it has the document's table, or that error
pub record IsDraftUpto (newest : ℕ) (text : List ℕ) (draft : Draft) : Type 0 where
  pub upto : draft.newest ≡ newest
  pub table : result_map_both table_view (λ refusal. refusal) draft.table ≡ draft_of text

-- a draft of a text, of which versions 1 and 2 alone may be read
abbrev pub IsDraftOf : List ℕ → Draft → Type 0
IsDraftOf = IsDraftUpto newest_unasked

-- what holds of the text of a draft, and of the newest version that may be read of it
abbrev pub OfDraft : Draft → (ℕ → List ℕ → Type 0) → Type 0
OfDraft draft P = (newest : ℕ) (text : List ℕ) → IsDraftUpto newest text draft → P newest text
