-- What a text states is what its draft says.
use Rattle.std.proofs.Common.{codes, ◌≡◌, ℕ, ◌≤◌, length, Bool, true, false, List, [], Option, Some, None, Result, Ok, Err, if◌then◌else◌, refl, ap, arith}
use Rattle.std.specs.BTreeMap.{BTreeMap}
use Rattle.std.specs.List.{filter_map}
use Rattle.std.specs.Prelude.{String, ok_or}
use Rattle.std.specs.Str.{is_utf8, IsUtf8}
use Rattle.std.specs.declared.alloc.Global.{Global}
use Rattle.std.proofs.lemmas.Str.{IsUtf8-from_is_utf8}
use Rattle.std.proofs.lemmas.Bool.Decides.{nat_tests}
use Rattle.toml.specs.Data.{Members, get_member}
use Rattle.toml.specs.Parse.{parse_document}
use Rattle.toml.specs.View.{table_view}
use Rattle.toml.specs.declared.value.Value.{Value}
use Rattle.sim_clock.specs.declared.refusal.Refusal.{Refusal}
use Rattle.sim_clock.specs.declared.refusal.Refusal.TheVariants.{NotToml, TooMany}
use Rattle.sqs_formats.specs.declared.faults.ScenarioFault.{ScenarioFault}
use Rattle.sqs_formats.specs.Keys.{fault_at}
use Rattle.sqs_formats.specs.Reading.{and_then, needs}
use Rattle.sqs_formats.specs.Actors.{Files}
use Rattle.sqs_formats.specs.Scenario.{actors_in, document, document_when, is_small, names_when, scenario_in, scenario_upto, script_name, script_names}
use Rattle.sqs_model.specs.Scenario.{Scenario}
use Rattle.sim_scenario.specs.Drafts.{IsDraftUpto, draft_of}
use Rattle.sim_scenario.specs.declared.draft.Draft.{Draft}

-- the draft of a document, and of a text that is none
pub document_draft : (text : List ℕ) (ms : Members) → length text ≤ 16777216 → is_utf8 text ≡ true → parse_document text ≡ Some ms → draft_of text ≡ Ok ms
document_draft text ms h u p =
    let yes : is_small text ≡ true = grind (arith, nat_tests) in
    rw (yes, u, p) refl

none_by : (text : List ℕ) (b : Bool) → is_utf8 text ≡ b → (IsUtf8 text → parse_document text ≡ None) → document_when b text ≡ None
none_by text true e h = h (IsUtf8-from_is_utf8 text e)
none_by text false e h = refl

pub no_draft : (text : List ℕ) → length text ≤ 16777216 → (IsUtf8 text → parse_document text ≡ None) → draft_of text ≡ Err NotToml
no_draft text h n =
    let yes : is_small text ≡ true = grind (arith, nat_tests) in
    rw yes (ap (λ (o : Option Members). ok_or o NotToml) (none_by text (is_utf8 text) refl n))

-- the scenario of a draft with its script files, or its first fault
abbrev drafted : ℕ → Files → Result Members Refusal → Result Scenario ScenarioFault
drafted newest files (Ok ms) = scenario_in newest files ms
drafted newest files (Err refusal) = Err (fault_at refusal [])

module _ (newest : ℕ) (files : Files) where
  reads_drafted : (o : Option Members) → and_then (ok_or o (fault_at NotToml [])) (scenario_in newest files) ≡ drafted newest files (ok_or o NotToml)
  unfolding and_then
  reads_drafted None = refl
  reads_drafted (Some ms) = refl

  sized : (b : Bool) (text : List ℕ)
      → and_then (needs b (fault_at TooMany []) text) (λ small. and_then (ok_or (document text) (fault_at NotToml [])) (scenario_in newest files)) ≡ drafted newest files (if b then ok_or (document text) NotToml else Err TooMany)
  unfolding and_then
  sized true text = reads_drafted (document text)
  sized false text = refl

  scenario_of_draft : (text : List ℕ) → scenario_upto newest files text ≡ drafted newest files (draft_of text)
  unfolding scenario_upto
  scenario_of_draft text = sized (is_small text) text

  pub scenario_of_table : (text : List ℕ) (draft : Draft) (table : BTreeMap (String Global) Value) → IsDraftUpto newest text draft → draft.table ≡ Ok table
      → scenario_upto newest files text ≡ scenario_in draft.newest files (table_view table)
  scenario_of_table text draft table of is = rw (scenario_of_draft text, ← of.table, is, of.upto) refl

  pub scenario_refused : (text : List ℕ) (draft : Draft) (refusal : Refusal) → IsDraftUpto newest text draft → draft.table ≡ Err refusal
      → scenario_upto newest files text ≡ Err (fault_at refusal [])
  scenario_refused text draft refusal of is = rw (scenario_of_draft text, ← of.table, is) refl

-- the names of script files that a draft asks for
abbrev asked : Result Members Refusal → List (List ℕ)
asked (Ok ms) = filter_map script_name (actors_in (get_member (codes "actor") ms))
asked (Err refusal) = []

names_asked : (o : Option Members) → names_when o ≡ asked (ok_or o NotToml)
names_asked None = refl
names_asked (Some ms) = refl

names_sized : (b : Bool) (text : List ℕ) → (if b then names_when (document text) else []) ≡ asked (if b then ok_or (document text) NotToml else Err TooMany)
names_sized true text = names_asked (document text)
names_sized false text = refl

pub script_names_of_draft : (text : List ℕ) → script_names text ≡ asked (draft_of text)
unfolding script_names
script_names_of_draft text = names_sized (is_small text) text
