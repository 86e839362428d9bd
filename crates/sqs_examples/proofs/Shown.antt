-- What a text with its script files leads to: a fault, or the output of its one-list run.
use Rattle.std.specs.Prelude.{◌≡◌, ⊤, ℕ, Bool, true, false, List, [], ◌∷◌, ◌++◌, Option, Some, None, Result, Ok, Err, flat_map, filter_map, if◌then◌else◌, ◌==◌}
use Rattle.std.specs.Fmt.{digits}
use Rattle.md5.specs.Md5.{md5}
use Rattle.hex.specs.Hex.{encode_lower, encode_with}
use Rattle.sha2.specs.Sha256.{sha256, first_words, digest_bytes, hash_after, compress, rounds, schedule}
use Rattle.rand_chacha.specs.Block.{block_word, double_rounds, column_round, diagonal_round, quarter_round}
use Rattle.rand_core.specs.Steps.{u32_at}
use Rattle.sim_clock.specs.declared.key.Key.{Key}
use Rattle.sqs_message.specs.declared.ids.Origin.{Origin}
use Rattle.sqs_message.specs.declared.row.Row.{Row}
use Rattle.sqs_model.specs.Draw.{word}
use Rattle.sqs_model.specs.Calls.{body_digest}
use Rattle.sqs_model.specs.Actor.{next}
use Rattle.sqs_model.specs.Dues.{dues, core_dues}
use Rattle.sqs_model.specs.Acts.{act_made}
use Rattle.sqs_model.specs.Step.{handle_class, handled}
use Rattle.sqs_model.specs.Scenario.{Scenario, opening}
use Rattle.sqs_model.specs.Run.{Run, after}
use Rattle.sqs_model.specs.World.{next_due}
use Rattle.sqs_model.specs.Finals.{finals_of}
use Rattle.sqs_model.specs.Accounts.{origin_in, is_first, places}
use Rattle.sqs_formats.specs.Targets.{step, target_by}
use Rattle.sqs_formats.specs.declared.faults.ScenarioFault.{ScenarioFault}
use Rattle.sqs_formats.specs.Actors.{Files}
use Rattle.sqs_formats.specs.Scenario.{newest_unasked, scenario_upto}
use Rattle.sqs_formats.specs.Output.{output_records, fault_line}

-- what a lemma opens to compute a run, but for MD5
unfoldable pub running_on_literals : ⊤
unfolding digits encode_with sha256 first_words digest_bytes hash_after compress rounds schedule block_word double_rounds column_round diagonal_round quarter_round u32_at word body_digest next dues core_dues act_made handle_class handled finals_of step target_by
running_on_literals = tt

-- the MD5 of a body, as it is written
abbrev pub digest : List ℕ → List ℕ
digest body = encode_lower (md5 body)

-- the line of a fault; or the records of the output, whether nothing is due any more, and the accepted origins that stand in no place or in several
pub data Shown : Type 0 where
  refused : List ℕ → Shown
  Ran : Bool → List Origin → List (List (List ℕ)) → Shown

-- a whole run in which each message stands in one place
abbrev pub ran : List (List (List ℕ)) → Shown
ran records = Ran true [] records

abbrev pub is_none : Option Key → Bool
is_none None = true
is_none (Some k) = false

-- the origin that a row accepts, unless it stands in one place
abbrev pub lost_one : Origin → ℕ → Option Origin
lost_one o places = if places == 1 then None else Some o

abbrev pub lost_when : Run → Row → Option Origin → Option Origin
lost_when r row None = None
lost_when r row (Some o) = if is_first o row then lost_one o (places o r.sites r.rows) else None

abbrev pub misplaced : Run → List Origin
misplaced r = filter_map (λ row. lost_when r row (origin_in row row.message)) r.rows

abbrev pub shown_run : Scenario → Run → Shown
shown_run s r = Ran (is_none (next_due s.horizon r.sites)) (misplaced r) (output_records s r)

abbrev pub shown_when : ℕ → Result Scenario ScenarioFault → Shown
shown_when n (Err f) = refused (fault_line f)
shown_when n (Ok s) = shown_run s (after s.horizon n (opening s))

-- what a text leads to in so many handlings, of which versions up to the newest one are read
abbrev pub shown_upto : ℕ → ℕ → Files → List ℕ → Shown
shown_upto newest n files text = shown_when n (scenario_upto newest files text)

-- what a text of version 1 or 2 leads to
abbrev pub shown : ℕ → Files → List ℕ → Shown
shown = shown_upto newest_unasked
