-- How reading goes on from line to line.
use Rattle.std.proofs.Common.{◌≡◌, ◌≢◌, ◌<◌, ◌≤◌, ◌+◌, ℕ, List, [], ◌∷◌, ◌++◌, All, Option, length, map, refl, sym, ap, subst, ◌∙◌, arith, inl, inr}
use Rattle.std.specs.Prelude.{flat_map}
use Rattle.std.specs.Io.KnownBytes.{Consumes, IsAtEnd}
use Rattle.std.proofs.KnownBytes.{Consumes-all, Consumes-trans}
use Rattle.std.proofs.lemmas.List.{append-nil, append_assoc, length-append, map-append}
use Rattle.std.proofs.lemmas.List.Concat.{flat_map-append}
use Rattle.std.proofs.lemmas.List.Elements.{All-nil, All-push}
use Rattle.std.proofs.lemmas.List.Sums.{fold_push}
use Rattle.sqs_message.specs.declared.row.Row.{Row}
use Rattle.sqs_formats.specs.Finals.{message_header}
use Rattle.sqs_formats.specs.Rows.{Names, line, lines, log_header, log_text, row_fields}
use Rattle.sim_report.specs.Facts.{fact_of}
use Rattle.sim_report.specs.Figured.{FiguresState, figures_after, figures_with, last_at}
use Rattle.std.specs.declared.io.ErrorKind.{ErrorKind}
use Rattle.std.specs.declared.io.ErrorKind.TheVariants as kinds
use Rattle.sim_logs.specs.declared.fault.LogFault.{LogFault}
use Rattle.sim_logs.specs.declared.fault.LogFault.TheVariants as faults
use Rattle.sim_logs.specs.Faults.{IsHeaderFault, IsReadFault, fault_of}
use Rattle.sim_logs.specs.Logs.{AreInTurn, IsEarlier, IsFault, IsFaultAt, IsNext, IsRead, IsRowOf, IsStopped, IsWritten, ReadingState}

-- the lines before that with this number were read, and the reader has taken their rows
pub record Reads (names : Names) (before : FiguresState) (old new : Option (List ℕ)) (number : ℕ) (r : ReadingState) : Type 0 where
  pub rows : List Row
  pub turns : AreInTurn 0 rows
  pub written : All (IsWritten names) rows
  pub log : Consumes old new (log_text names rows)
  pub number_is : number ≡ length rows + 2
  pub names_are : r.names ≡ names
  pub figures_are : r.figures ≡ figures_after rows before
  pub latest_is : r.latest ≡ last_at 0 rows

-- one more row in turn
turns_push : (at : ℕ) (rows : List Row) (row : Row) → AreInTurn at rows → last_at at rows ≤ row.key.at → AreInTurn at (rows ++ row ∷ [])
turns_push at [] row turns turn = (turn, tt)
turns_push at (r ∷ rows) row turns turn = (turns.0, turns_push r.key.at rows row turns.1 turn)

-- the log of one more row
log_push : (names : Names) (rows : List Row) (row : Row) → log_text names (rows ++ row ∷ []) ≡ log_text names rows ++ line (row_fields names row)
log_push names rows row =
    ap (λ (rs : List (List (List ℕ))). line log_header ++ flat_map line rs) (map-append (row_fields names) rows (row ∷ []))
    ∙ ap (λ (t : List ℕ). line log_header ++ t) (flat_map-append line (map (row_fields names) rows) (row_fields names row ∷ []))
    ∙ ap (λ (t : List ℕ). line log_header ++ (lines (map (row_fields names) rows) ++ t)) (append-nil (line (row_fields names row)))
    ∙ sym (append_assoc (line log_header) (lines (map (row_fields names) rows)) (line (row_fields names row)))

-- behind the header
pub reads_none : (names : Names) (before : FiguresState) (old new : Option (List ℕ)) (r : ReadingState)
    → Consumes old new (line log_header) → r ≡ record { names = names; figures = before; latest = 0 } → Reads names before old new 2 r
reads_none names before old new r read is =
    record {
      rows = [];
      turns = tt;
      written = All-nil (IsWritten names);
      log = subst (Consumes old new) (sym (append-nil (line log_header))) read;
      number_is = refl;
      names_are = ap (λ (s : ReadingState). s.names) is;
      figures_are = ap (λ (s : ReadingState). s.figures) is;
      latest_is = ap (λ (s : ReadingState). s.latest) is;
    }

-- behind one more row
pub reads_more : (names : Names) (before : FiguresState) (old mid new : Option (List ℕ)) (number : ℕ) (r s : ReadingState) (text : List ℕ)
    → Reads names before old mid number r → Consumes mid new text → IsNext r s text → Reads names before old new (number + 1) s
reads_more names before old mid new number r s text so_far read next =
    let rows = so_far.rows in
    let row = next.row in
    let written : IsWritten names row = subst (λ (ns : Names). IsWritten ns row) so_far.names_are next.is_row.written in
    let text_is : text ≡ line (row_fields names row) = next.is_row.text_is ∙ ap (λ (ns : Names). line (row_fields ns row)) so_far.names_are in
    let turn : last_at 0 rows ≤ row.key.at = subst (λ (n : ℕ). n ≤ row.key.at) so_far.latest_is next.turn in
    record {
      rows = rows ++ row ∷ [];
      turns = turns_push 0 rows row so_far.turns turn;
      written = All-push (IsWritten names) rows row so_far.written written;
      log = subst (Consumes old new) (ap (λ (t : List ℕ). log_text names rows ++ t) text_is ∙ sym (log_push names rows row))
          (Consumes-trans old mid new (log_text names rows) text so_far.log read);
      number_is = omega (arith, so_far.number_is, length-append rows (row ∷ []));
      names_are = next.names_are ∙ so_far.names_are;
      figures_are = next.figures_are ∙ ap (figures_with (fact_of row)) so_far.figures_are
          ∙ sym (fold_push (λ t (r : Row). figures_with (fact_of r) t) before rows row);
      latest_is = next.latest_is ∙ sym (fold_push (λ (at : ℕ) (r : Row). r.key.at) 0 rows row);
    }

-- nothing is left
pub read_to_end : (names : Names) (before : FiguresState) (old mid new : Option (List ℕ)) (number : ℕ) (r : ReadingState)
    → Reads names before old mid number r → IsAtEnd mid → IsRead names before old new r.figures
read_to_end names before old mid new number r so_far end =
    record {
      rows = so_far.rows;
      turns = so_far.turns;
      written = so_far.written;
      log = inl (Consumes-all old mid (log_text names so_far.rows) [] (log_text names so_far.rows) so_far.log end refl);
      figures = so_far.figures_are;
    }

-- the header of the final queues is next
pub read_to_finals : (names : Names) (before : FiguresState) (old mid new : Option (List ℕ)) (number : ℕ) (r : ReadingState) (text : List ℕ)
    → Reads names before old mid number r → Consumes mid new text → text ≡ line message_header → IsRead names before old new r.figures
read_to_finals names before old mid new number r text so_far read is =
    record {
      rows = so_far.rows;
      turns = so_far.turns;
      written = so_far.written;
      log = inr (Consumes-trans old mid new (log_text names so_far.rows) (line message_header) so_far.log (subst (Consumes mid new) is read));
      figures = so_far.figures_are;
    }

-- a line behind that is not taken
pub stopped_at : (names : Names) (before : FiguresState) (old mid new : Option (List ℕ)) (number n : ℕ) (r : ReadingState) (text : List ℕ)
    (Why : List Row → List ℕ → Type 0) (so_far : Reads names before old mid number r) → Consumes mid new text → n ≡ number
    → Why so_far.rows text → IsStopped names old new n Why
stopped_at names before old mid new number n r text Why so_far read is why =
    record {
      rows = so_far.rows;
      turns = so_far.turns;
      written = so_far.written;
      text = text;
      log = Consumes-trans old mid new (log_text names so_far.rows) text so_far.log read;
      number_is = is ∙ so_far.number_is;
      why = why;
    }

-- the fault of a read that failed
pub read_fault : (kind : ErrorKind) → IsReadFault (fault_of kind)
read_fault kinds.OutOfMemory = tt
read_fault kind = tt

-- these faults are those of a whole log
pub fault_of_header : (names : Names) (old new : Option (List ℕ)) (f : LogFault) → IsHeaderFault old f → IsFault names old new f
fault_of_header names old new faults.NoHeader h = h
fault_of_header names old new faults.Memory h = tt
fault_of_header names old new faults.Unreadable h = tt
fault_of_header names old new (faults.NoRow n) h = absurd h
fault_of_header names old new (faults.Earlier n) h = absurd h

pub fault_of_read : (names : Names) (old new : Option (List ℕ)) (f : LogFault) → IsReadFault f → IsFault names old new f
fault_of_read names old new faults.NoHeader h = absurd h
fault_of_read names old new faults.Memory h = tt
fault_of_read names old new faults.Unreadable h = tt
fault_of_read names old new (faults.NoRow n) h = absurd h
fault_of_read names old new (faults.Earlier n) h = absurd h

-- a line that is not taken
pub fault_at : (names : Names) (before : FiguresState) (old mid new : Option (List ℕ)) (number : ℕ) (r : ReadingState) (text : List ℕ) (f : LogFault)
    → Reads names before old mid number r → Consumes mid new text → text ≢ line message_header → IsFaultAt r text number f → IsFault names old new f
fault_at names before old mid new number r text faults.NoHeader so_far read other h = absurd h
fault_at names before old mid new number r text faults.Memory so_far read other h = tt
fault_at names before old mid new number r text faults.Unreadable so_far read other h = tt
fault_at names before old mid new number r text (faults.NoRow n) so_far read other h =
    stopped_at names before old mid new number n r text (λ rows text. text ≢ line message_header) so_far read h other
fault_at names before old mid new number r text (faults.Earlier n) so_far read other h =
    let row = h.1.row in
    let is_row : IsRowOf names text row = subst (λ (ns : Names). IsRowOf ns text row) so_far.names_are h.1.is_row in
    let earlier : row.key.at < last_at 0 so_far.rows = subst (λ (at : ℕ). row.key.at < at) so_far.latest_is h.1.earlier in
    stopped_at names before old mid new number n r text (λ rows text. IsEarlier names (last_at 0 rows) text) so_far read h.0 (record { row = row; is_row = is_row; earlier = earlier })
