-- Messages that are written some at a time, and counted.
use Rattle.std.proofs.Common.{◌≡◌, ◌∙◌, ℕ, zero, suc, ◌+◌, ◌<◌, false, Err, List, Ok, Result, [], ◌∷◌, ◌++◌, append-nil, append_assoc, ap, arith, drop, flat_map, get_or, length, refl, subst, sym}
use Rattle.csv.proofs.WriteFacts.{appends-more}
use Rattle.std.specs.Io.KnownBytes.{Appends}
use Rattle.std.specs.Result.{IsErrAnd}
use Rattle.sim_clock.specs.declared.refusal.Refusal.{Refusal}
use Rattle.sim_clock.specs.declared.refusal.Refusal.TheVariants as refusals
use Rattle.sim_records.proofs.Writes.{lines-append, prefix_none, several_after, several_handed_on, several_stopped}
use Rattle.sim_records.specs.Writes.{WriterState, WroteSeveral}
use Rattle.sim_report.specs.Left.{lefts}
use Rattle.sim_report.specs.declared.left.Left.{Left}
use Rattle.sim_report.specs.declared.queue.QueueCounts.{QueueCounts}
use Rattle.sqs_formats.specs.Finals.{message_fields}
use Rattle.sqs_formats.specs.Rows.{Names, lines}
use Rattle.sqs_model.specs.Site.{Site}
use Rattle.sqs_model.specs.declared.finals.FinalMessage.{FinalMessage}
use Rattle.sqs_rehearsal.specs.Left.{message_lines}

-- of all messages some are written and counted, and the rest are not
pub record IsWriting (names : Names) (all : List FinalMessage) (old : WriterState) (uncounted : List Left) (rest : List FinalMessage) (now : WriterState) (left : List Left) : Type 0 where
  pub done : List FinalMessage
  pub whole : done ++ rest ≡ all
  pub written : Appends old.held now.held (message_lines names done)
  pub works : now.failed ≡ false
  pub counted : (queues : List QueueCounts) (before : List FinalMessage) → uncounted ≡ lefts queues before → left ≡ lefts queues (before ++ done)

module _ (names : Names) (all : List FinalMessage) (old : WriterState) (uncounted : List Left) where
  abbrev Writing : List FinalMessage → WriterState → List Left → Type 0
  Writing rest now left = IsWriting names all old uncounted rest now left

  -- the next messages are not written whole
  pub writing_stopped : (rest next others : List FinalMessage) (now new : WriterState) (left : List Left) (e : Refusal) (r : Result (Unit {0}) Refusal)
      → Writing rest now left → next ++ others ≡ rest → WroteSeveral now new (message_lines names next) (Err e) → IsErrAnd r (λ met. met ≡ e)
      → WroteSeveral old new (message_lines names all) r
  writing_stopped rest next others now new left e r h parts stopped met =
      let more = several_stopped now new (message_lines names next) (message_lines names others) e stopped in
      let after = several_after old now new (message_lines names h.done) (message_lines names next ++ message_lines names others) (Err e) h.written more in
      let both : message_lines names next ++ message_lines names others ≡ message_lines names rest = sym (lines-append (message_fields names) next others) ∙ ap (message_lines names) parts in
      let is : message_lines names h.done ++ (message_lines names next ++ message_lines names others) ≡ message_lines names all =
      ap (λ t. message_lines names h.done ++ t) both ∙ sym (lines-append (message_fields names) h.done rest) ∙ ap (message_lines names) h.whole in
      several_handed_on old new (message_lines names all) e r met (subst (λ (t : List ℕ). WroteSeveral old new t (Err e)) is after)

  -- memory runs out before more is written
  pub writing_wants_memory : (rest : List FinalMessage) (now : WriterState) (left : List Left) (r : Result (Unit {0}) Refusal)
      → Writing rest now left → IsErrAnd r (λ met. met ≡ refusals.Memory) → WroteSeveral old now (message_lines names all) r
  writing_wants_memory rest now left r h met =
      writing_stopped rest rest [] now now left refusals.Memory r h (append-nil rest) (prefix_none now.held (message_lines names rest), h.works) met

  -- the next messages are written and counted
  pub writing_more : (rest next others : List FinalMessage) (now new : WriterState) (left more : List Left) (u : Unit {0})
      → Writing rest now left → next ++ others ≡ rest → WroteSeveral now new (message_lines names next) (Ok u)
      → ((queues : List QueueCounts) (before : List FinalMessage) → left ≡ lefts queues before → more ≡ lefts queues (before ++ next))
      → Writing others new more
  writing_more rest next others now new left more u h parts wrote adds =
      record {
        done = h.done ++ next;
        whole = append_assoc h.done next others ∙ ap (λ t. h.done ++ t) parts ∙ h.whole;
        written = subst (λ (t : List ℕ). Appends old.held new.held t) (sym (lines-append (message_fields names) h.done next)) (appends-more old.held now.held new.held (message_lines names h.done) (message_lines names next) h.written wrote.0);
        works = wrote.1;
        counted = λ queues before is. adds queues (before ++ h.done) (h.counted queues before is) ∙ ap (lefts queues) (append_assoc before h.done next);
      }

  -- the next messages are written, and then memory runs out
  pub written_wants_memory : (rest next others : List FinalMessage) (now new : WriterState) (left : List Left) (u : Unit {0}) (r : Result (Unit {0}) Refusal)
      → Writing rest now left → next ++ others ≡ rest → WroteSeveral now new (message_lines names next) (Ok u) → IsErrAnd r (λ met. met ≡ refusals.Memory)
      → WroteSeveral old new (message_lines names all) r
  written_wants_memory rest next others now new left u r h parts wrote met =
      let after = several_after now new new (message_lines names next) (message_lines names others) (Err refusals.Memory) wrote.0 (prefix_none new.held (message_lines names others), wrote.1) in
      let all_rest = subst (λ (t : List ℕ). WroteSeveral now new t (Err refusals.Memory)) (sym (lines-append (message_fields names) next others) ∙ ap (message_lines names) parts) after in
      writing_stopped rest rest [] now new left refusals.Memory r h (append-nil rest) all_rest met

-- the lists of a site and of those behind it
pub site_and_others : {X : Type 0} (f : Site → List X) (w : List Site) (i : ℕ) (d : Site) → i < length w → f (get_or w i d) ++ flat_map f (drop (i + 1) w) ≡ flat_map f (drop i w)
site_and_others f [] i d h = absurd (omega (arith, h))
site_and_others f (s ∷ w) zero d h = refl
site_and_others f (s ∷ w) (suc i) d h =
    let n : suc i + 1 ≡ suc (i + 1) = omega arith in
    ap (λ k. f (get_or w i d) ++ flat_map f (drop k (s ∷ w))) n ∙ site_and_others f w i d (omega (arith, h))
