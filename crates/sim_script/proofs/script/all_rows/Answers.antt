use Rattle.std.proofs.Common.{Bor, List, ℕ, ◌≡◌, ◌∙◌, sym, refl, rules, inl, inr, true, false, map, Option, Some, ◌∷◌, []}
use Rattle.std.specs.Result.{is_ok}
use Rattle.std.proofs.lemmas.List.{map-append}
use Rattle.std.proofs.lemmas.Bool.{true≢false}
use Rattle.std.specs.declared.io.Error.{Error}
use Rattle.csv.specs.Reading.{ExplainsRead, Reached, default_config, strip_bom}
use Rattle.csv.specs.declared.error.ErrorKind.{ErrorKind}
use Rattle.csv.specs.declared.error.ErrorKind.TheVariants as kind
use Rattle.csv.specs.declared.reader.Reader.{Reader}
use Rattle.csv.specs.Records.{fields_of}
use Rattle.csv.specs.declared.parser.State.TheVariants as st
use Rattle.csv.proofs.ReadFacts.{rows-end, rows-more}
use Rattle.sim_script.proofs.WholeText.{records_are}
use Rattle.sim_script.proofs.script.all_rows.Goals as goal

-- a read of a reader that takes records of any length fails if memory runs out, or since its source fails
no_other : {R : Type 0} (rem : R → Option (List ℕ)) (old new : Reader R) (k : ErrorKind) → ExplainsRead rem old new false k → old.flexible ≡ true
    → (k ≡ kind.OutOfMemory → ⊥) → ((e : Error) → k ≡ kind.Io e → ⊥) → ⊥
no_other rem old new (kind.Io e) h f memory source = source e refl
no_other rem old new kind.OutOfMemory h f memory source = memory refl
no_other rem old new (kind.UnequalLengths pos expected len) h f memory source = true≢false (sym f ∙ h.0)
no_other rem old new (kind.Utf8 pos err) h f memory source = true≢false (sym h.0)
no_other rem old new (kind.Serialize why) h f memory source = h
no_other rem old new (kind.Deserialize pos err) h f memory source = h

pub loop-row-init : goal.loop-row-init
unfolding Reached
loop-row-init c =
    let fr = c.from_reader-rdr.ensures in
    let f = c.flexible.ensures in
    let e = c.has_headers.ensures in
    let start = c.into_iter-row-iterator.ensures.into_iter_gives ∙ refl in
    let rdr = c.into_byte_records-row-items.ensures.rdr in
    let left = c.into_byte_records-row-items.ensures.left in
    rw (start, rdr, c.new-rows.ensures.items) (
      rw f at fr.flexible,
      rw (f, e) at fr.trim ∙ c.new.ensures.trim,
      inr (inr (rw (f, e) at fr.has_headers, fr.headers)),
      left,
      rw (f, e) at fr.config ∙ c.new.ensures.config,
      strip_bom c.args.text.now,
      fr.source,
      (sym fr.state, refl),
    )

pub loop-row-preserved : goal.loop-row-preserved
loop-row-preserved c =
    let inv = c.loop-row.invariant in
    let row = c.in-Ok.row in
    let s = rw (c.in-Some.is, c.in-Ok.is) at ((c.next.ensures.steps inv.3 inv.1).0 inv.2) in
    let good : is_ok c.push.result ≡ true = search rules in
    let items = rw good at c.push.ensures.items in
    let m =
    rows-more (λ (s : Bor (List ℕ)). Some s.now) c.loop-row.row-iterator.rdr c.next.new.self.rdr (fields_of row) default_config st.StartRecord
    (strip_bom c.args.text.now) inv.5 (map fields_of c.loop-row.rows.items) inv.4 inv.6 inv.7 s.0 in
    let flexible = rw (c.in-Some.is, c.in-Ok.is) at (c.next.ensures.steps inv.3 inv.1).3 in
    (flexible ∙ inv.0, s.0.3 ∙ inv.1, inl s.1, s.2, s.0.2 ∙ inv.4, m.0, m.1, rw (items, map-append fields_of c.loop-row.rows.items (row ∷ [])) m.2)

pub returns : goal.returns
returns c =
    let inv = c.loop-row.invariant in
    let s = rw c.in-None.is at ((c.next.ensures.steps inv.3 inv.1).0 inv.2) in
    let last =
    rows-end (λ (s : Bor (List ℕ)). Some s.now) c.loop-row.row-iterator.rdr c.next.new.self.rdr [] default_config inv.5 inv.4 inv.6 s in
    sym (records_are default_config (strip_bom c.args.text.now) _ (c.loop-row.row-iterator.rdr.state, inv.5, inv.7, last))

pub unreachable-requires : goal.unreachable-requires
unreachable-requires c =
    let inv = c.loop-row.invariant in
    let s = rw (c.in-Some.is, c.in-Err.is) at ((c.next.ensures.steps inv.3 inv.1).0 inv.2) in
    no_other (λ (s : Bor (List ℕ)). Some s.now) c.loop-row.row-iterator.rdr c.next.new.self.rdr c.in-Err.error.kind s inv.0
    (λ m. c.in_default.not-OutOfMemory (c.into_kind.ensures ∙ m)) (λ e i. c.in_default.not-Io e (c.into_kind.ensures ∙ i))
