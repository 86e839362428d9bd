-- Receipts: each receive gives a new one, and what a delete by one does follows from the rows before it.
use Rattle.std.specs.Prelude.{All, Bool, Err, List, None, Ok, Option, Result, Some, false, if◌then◌else◌, drop, is_none, nat_le, nat_lt, not, true, ℕ, ◌&&◌, ◌*◌, ◌+◌, ◌<◌, ◌==◌, ◌≡◌, ◌≢◌, ◌≤◌, ◌⊎◌, ◌^◌, ◌||◌}
use Rattle.std.specs.Str.{bytes_eq}
use Rattle.std.proofs.Common.{ap, arith, inl, inr, refl, subst, sym, true≢false, ◌∙◌}
use Rattle.sqs_laws.proofs.Terms.{and_parts, change, change_done, change_found, change_here, delete_as, delete_fifo_here, delete_gone, delete_standard_here, Deleted, either, eq-eqb, eqb-false, eqb-true, Fifo, fits, id_of, in_flight_until, is_in_flight, IsQueueSettings, IsRunOf, Kept, Key, Kind, leb-true, Load, longest_timeout, may_be_given, Message, MessageId, nat_tests, numbered, numbers_in, Queue, read_receipt, Receipt, receipt_text, Refusal, released, removed, returned, Row, RowKind, Run, Scenario, Standard, with_change}
use Rattle.sim_clock.specs.declared.refusal.Refusal.TheVariants as refusals
use Rattle.sqs_message.specs.declared.row.RowAnswer.TheVariants as answers
use Rattle.sqs_message.specs.declared.row.RowKind.TheVariants as kinds
use Rattle.sqs_message.specs.declared.row.RowReceipt.TheVariants as receipts
use Rattle.sqs_laws.specs.Laws.{IsBadIfTooLong, Known, Receipts, change_answer, delete_answer, fifo_at, is_fifo}
use Rattle.sqs_laws.specs.Words.{EachRow, comings, flying, has_left, is_change, is_delete, times}
use Rattle.sqs_laws.specs.Words as words
use Rattle.sqs_laws.proofs.Calls.{found_old}
use Rattle.sqs_laws.proofs.End as end
use Rattle.sqs_laws.proofs.Flights as fly
use Rattle.sqs_laws.proofs.Letters as letter
use Rattle.sqs_laws.proofs.Slots.{of_there}
use Rattle.sqs_laws.proofs.Moves.{Asks, AsksChange, AsksDelete, changed_answer, Does, IsBehind, IsStocked, Move, deleted_answer, as_told}
use Rattle.sqs_laws.proofs.Traces.{fifo_there}
use Rattle.sqs_laws.proofs.Worlds.{RowLaw, both, every_row_by}
use Rattle.sqs_laws.proofs.Flights.{flies_of, rests_of}

-- a receipt that is read counts from 1
read_counts : (text : List ℕ) (r x : Receipt) → (if fits r && bytes_eq (receipt_text r) text then Some r else None) ≡ Some x → 1 ≤ x.count
read_counts text r x e =
    elim (fits r && bytes_eq (receipt_text r) text) as (λ b. (fits r && bytes_eq (receipt_text r) text) ≡ b → (if b then Some r else None) ≡ Some x → 1 ≤ x.count) [
      | true ↦ λ t f.
          let is : r ≡ x = cc in
          let fit : fits r ≡ true = (and_parts (fits r) (bytes_eq (receipt_text r) text) t).0 in
          let least : nat_le 1 r.count ≡ true = (and_parts (nat_lt r.site (2 ^ 32) && nat_lt r.number (2 ^ 62) && nat_lt r.count (2 ^ 62)) (nat_le 1 r.count) fit).1 in
          subst (λ (y : Receipt). 1 ≤ y.count) is (leb-true 1 r.count least)
      | false ↦ λ t f. cc
    ] refl e

counts_from_1 : (text : List ℕ) (x : Receipt) → read_receipt text ≡ Some x → 1 ≤ x.count
counts_from_1 text x e = read_counts text (numbers_in (drop 2 text)) x e

-- what a row of a delete asked
asked_by : (key : Key) (q : Queue) (r : Row) (k : RowKind) → is_delete k ≡ true → Asks key q r k → AsksDelete key q r
asked_by key q r kinds.Delete e a = a
asked_by key q r k e a = cc

-- the answer of a delete of a message that is there
standard_answer : (q : Queue) (now : ℕ) (x : Receipt) (m : Message) (b c d : Bool) → nat_lt m.receives x.count ≡ b → nat_lt x.count m.receives ≡ c → (x.count == m.receives) ≡ d
    → deleted_answer (if b then (Err refusals.ReceiptHandleIsInvalid, q) else (if c then (Ok Kept, q) else removed q now x m)).0
    ≡ (if b then answers.Refused refusals.ReceiptHandleIsInvalid else (if d && true then answers.Deleted else answers.Kept))
standard_answer q now x m true c d e f g = refl
standard_answer q now x m false true true e f g = absurd (let s : x.count ≡ m.receives = eqb-true x.count m.receives g in grind (arith, nat_tests, f, s))
standard_answer q now x m false true false e f g = refl
standard_answer q now x m false false true e f g = refl
standard_answer q now x m false false false e f g = absurd (let s : x.count ≢ m.receives = eqb-false x.count m.receives g in grind (arith, nat_tests, e, f, s))

fifo_answer : (q : Queue) (now : ℕ) (x : Receipt) (m : Message) (flies b d : Bool) → nat_lt m.receives x.count ≡ b → (x.count == m.receives) ≡ d
    → deleted_answer (if d && flies then removed q now x m else (Err refusals.ReceiptHandleIsInvalid, q)).0
    ≡ (if b then answers.Refused refusals.ReceiptHandleIsInvalid else (if d && flies then answers.Deleted else answers.Refused refusals.ReceiptHandleIsInvalid))
fifo_answer q now x m flies true true e g = absurd (let s : x.count ≡ m.receives = eqb-true x.count m.receives g in grind (arith, nat_tests, e, s))
fifo_answer q now x m flies true false e g = refl
fifo_answer q now x m true false true e g = refl
fifo_answer q now x m false false true e g = refl
fifo_answer q now x m flies false false e g = refl

-- the answer by the rows, of a message that is there
answer_there : (fifo : Bool) (rows : List Row) (m : MessageId) (count got : ℕ) (flies : Bool) → has_left m rows ≡ false → times m rows ≡ got → flying m rows ≡ flies
    → delete_answer fifo rows m count
    ≡ (if nat_lt got count then answers.Refused refusals.ReceiptHandleIsInvalid else (if count == got && (not fifo || flies) then answers.Deleted else (if fifo then answers.Refused refusals.ReceiptHandleIsInvalid else answers.Kept)))
answer_there fifo rows m count got flies l t f = rw (l, t, f) refl

module _ (s : Scenario) (v : All IsQueueSettings s.queues) where
  abbrev pub told : RowLaw s
  told = both s (end.the_end s) (both s (letter.letters s v) (fly.flights s))

  module _ (rows : List Row) (key : Key) (q : Queue) (r : Row) (p : Queue) (d : Move key q r p) (o : IsBehind s rows q r p) (k : IsStocked q) (h : told.Holds rows q) where
    pub came : comings r.queue rows ≡ q.arrivals
    came = ap (λ n. comings n rows) d.at_site ∙ h.0.0

    -- a receive
    made_by : Does key q r p → (m : MessageId) → r.message ≡ Some m → words.received r ≡ true → r.receipt ≡ receipts.Made (record { site = r.queue; number = m.number; count = times m rows + 1 })
    made_by y m e t =
        let x = (as_told key q r p y).receives t in
        let i : id_of q x.number ≡ m = let named : Some (id_of q x.number) ≡ Some m = sym x.names.message ∙ e in cc in
        let before : times (id_of q x.number) rows ≡ x.one.receives = (of_there s (letter.letter_law s v) rows q h.1.0 x.number x.one x.names.there).0 in
        x.receipt
        ∙ ap (λ n. receipts.Made (record { site = q.site; number = x.number; count = n + 1 })) (sym before)
        ∙ ap (λ n. receipts.Made (record { site = n; number = x.number; count = times (id_of q x.number) rows + 1 })) (sym d.at_site)
        ∙ ap (λ y. receipts.Made (record { site = r.queue; number = y.number; count = times y rows + 1 })) i

    -- a known receipt, by a text that the row was asked by
    module _ (m : MessageId) (count : ℕ) (x : Known rows r m count) (text : List ℕ) (given : r.receipt ≡ receipts.Given text) where
      pub known_read : read_receipt text ≡ Some (record { site = m.site; number = m.number; count = count })
      known_read = let same : receipts.Given x.text ≡ receipts.Given text = sym x.given ∙ given in let t : x.text ≡ text = cc in ap read_receipt (sym t) ∙ x.read

      pub known_here : m.site ≡ q.site
      known_here = x.here ∙ d.at_site

      pub known_old : m.number < q.arrivals
      known_old = let n : m.number < comings r.queue rows = x.came in omega (arith, came, n)

      pub known_count : 1 ≤ count
      known_count = counts_from_1 text (record { site = m.site; number = m.number; count = count }) known_read

    -- a delete by a receipt that was given, or is yet to come
    module _ (m : MessageId) (count : ℕ) (here : m.site ≡ q.site) (old : m.number < q.arrivals) (first : 1 ≤ count) where
      abbrev by : Receipt
      by = record { site = m.site; number = m.number; count = count }

      pub is_id : id_of q m.number ≡ m
      is_id = ap (λ n. record { site = n; number = m.number }) (sym here)

      left_is : has_left m rows ≡ is_none (numbered m.number q.records)
      left_is = subst (λ x. has_left x rows ≡ is_none (numbered m.number q.records)) is_id (end.left_of s rows q h.0.1 m.number old)

      pub given : may_be_given q by ≡ true
      given = rw here (let one : nat_lt 0 count ≡ true = grind (arith, nat_tests, first) in rw (eq-eqb q.site q.site refl, one) refl)

      there : (one : Message) → numbered m.number q.records ≡ Some one → (fifo : Bool) → delete_answer fifo rows m count
          ≡ (if nat_lt one.receives count then answers.Refused refusals.ReceiptHandleIsInvalid else (if count == one.receives && (not fifo || is_in_flight one) then answers.Deleted else (if fifo then answers.Refused refusals.ReceiptHandleIsInvalid else answers.Kept)))
      there one f fifo =
          answer_there fifo rows m count one.receives (is_in_flight one) (left_is ∙ ap is_none f)
          (subst (λ x. times x rows ≡ one.receives) is_id ((of_there s (letter.letter_law s v) rows q h.1.0 m.number one f).0))
          (subst (λ x. flying x rows ≡ is_in_flight one) is_id (flies_of s rows q h.1.1 m.number one f))

      gone_told : numbered m.number q.records ≡ None → (fifo : Bool) → deleted_answer (delete_gone q by).0 ≡ delete_answer fifo rows m count
      gone_told f fifo =
          let left : has_left m rows ≡ true = left_is ∙ ap is_none f in
          let come : nat_lt m.number q.arrivals ≡ true = grind (arith, nat_tests, old) in
          let one : deleted_answer (delete_gone q by).0 ≡ answers.Gone = rw come refl in
          one ∙ sym (ap (λ b. if b then answers.Gone else (if nat_lt (times m rows) count then answers.Refused refusals.ReceiptHandleIsInvalid
          else (if count == times m rows && (not fifo || flying m rows) then answers.Deleted else (if fifo then answers.Refused refusals.ReceiptHandleIsInvalid else answers.Kept)))) left)

      standard_found : (o : Option Message) → numbered m.number q.records ≡ o
          → deleted_answer (elim o as (λ _. Result Deleted Refusal × Queue) [ None ↦ delete_gone q by | Some one ↦ delete_standard_here q key.at by one ]).0 ≡ delete_answer false rows m count
      standard_found None f = gone_told f false
      standard_found (Some one) f = standard_answer q key.at by one (nat_lt one.receives count) (nat_lt count one.receives) (count == one.receives) refl refl refl ∙ sym (there one f false)

      fifo_found : (o : Option Message) → numbered m.number q.records ≡ o
          → deleted_answer (elim o as (λ _. Result Deleted Refusal × Queue) [ None ↦ delete_gone q by | Some one ↦ delete_fifo_here q key.at by one ]).0 ≡ delete_answer true rows m count
      fifo_found None f = gone_told f true
      fifo_found (Some one) f = fifo_answer q key.at by one (is_in_flight one) (nat_lt one.receives count) (count == one.receives) refl refl ∙ sym (there one f true)

      told_as : (k : Kind) → deleted_answer (delete_as k q key.at by).0 ≡ delete_answer (is_fifo k) rows m count
      told_as (Standard hosts sampled) = ap (λ b. deleted_answer (if b then elim (numbered m.number q.records) as (λ _. Result Deleted Refusal × Queue) [ None ↦ delete_gone q by | Some one ↦ delete_standard_here q key.at by one ] else (Err refusals.ReceiptHandleIsInvalid, q)).0) given ∙ standard_found (numbered m.number q.records) refl
      told_as (Fifo content scope) = ap (λ b. deleted_answer (if b then elim (numbered m.number q.records) as (λ _. Result Deleted Refusal × Queue) [ None ↦ delete_gone q by | Some one ↦ delete_fifo_here q key.at by one ] else (Err refusals.ReceiptHandleIsInvalid, q)).0) given ∙ fifo_found (numbered m.number q.records) refl

    deletes_by : is_delete r.kind ≡ true → (m : MessageId) (count : ℕ) → Known rows r m count → r.answer ≡ delete_answer (fifo_at s r) rows m count
    deletes_by t m count x =
        let a : AsksDelete key q r = asked_by key q r r.kind t d.asked in
        a.by (record { site = m.site; number = m.number; count = count }) (known_read m count x a.text a.given)
        ∙ told_as m count (known_here m count x a.text a.given) (known_old m count x a.text a.given) (known_count m count x a.text a.given) q.settings.kind
        ∙ ap (λ b. delete_answer b rows m count) (sym (fifo_there s r q d.at_site h.1.0.settings))

    -- a change
    module _ (m : MessageId) (count timeout : ℕ) (here : m.site ≡ q.site) (old : m.number < q.arrivals) (first : 1 ≤ count) where
      abbrev with_count : Receipt
      with_count = record { site = m.site; number = m.number; count = count }

      abbrev Answers : Result (Option Load) Refusal × Queue → Type 0
      Answers x = (changed_answer x.0 ≡ change_answer rows m count) ⊎ (changed_answer x.0 ≡ answers.Refused refusals.BadTimeout)

      done_ok : changed_answer (change_done q key.at m.number timeout).0 ≡ answers.Ok
      done_ok = either (λ (x : Result (Option Load) Refusal × Queue). changed_answer x.0 ≡ answers.Ok) (timeout == 0) (returned (released q m.number)) (Ok None, with_change q m.number (in_flight_until (key.at + 1000 * timeout))) refl refl

      -- by the rows, of a message that is there
      there_changed : (one : Message) → numbered m.number q.records ≡ Some one
          → change_answer rows m count ≡ (if nat_lt one.receives count then answers.Refused refusals.ReceiptHandleIsInvalid else (if is_in_flight one && count == one.receives then answers.Ok else answers.Refused refusals.MessageNotInflight))
      there_changed one f =
          let left : has_left m rows ≡ false = left_is m count here old first ∙ ap is_none f in
          let got : times m rows ≡ one.receives = subst (λ x. times x rows ≡ one.receives) (is_id m count here old first) ((of_there s (letter.letter_law s v) rows q h.1.0 m.number one f).0) in
          let flies : flying m rows ≡ is_in_flight one = subst (λ x. flying x rows ≡ is_in_flight one) (is_id m count here old first) (flies_of s rows q h.1.1 m.number one f) in
          rw (left, got, flies) refl

      cases_of : (a b c d e : Bool) → (c ≡ true → e ≡ false) → (a ≡ false → c ≡ false → e ≡ true)
          → (changed_answer (if a then (Err refusals.ReceiptHandleIsInvalid, q) else (if not b || c then (Err refusals.MessageNotInflight, q) else (if d then (Err refusals.BadTimeout, q) else change_done q key.at m.number timeout))).0
          ≡ (if a then answers.Refused refusals.ReceiptHandleIsInvalid else (if b && e then answers.Ok else answers.Refused refusals.MessageNotInflight)))
          ⊎ (changed_answer (if a then (Err refusals.ReceiptHandleIsInvalid, q) else (if not b || c then (Err refusals.MessageNotInflight, q) else (if d then (Err refusals.BadTimeout, q) else change_done q key.at m.number timeout))).0 ≡ answers.Refused refusals.BadTimeout)
      cases_of true b c d e f g = inl refl
      cases_of false false c d e f g = inl refl
      cases_of false true true d true f g = absurd (true≢false (f refl))
      cases_of false true true d false f g = inl refl
      cases_of false true false true e f g = inr refl
      cases_of false true false false true f g = inl done_ok
      cases_of false true false false false f g = absurd (true≢false (sym (g refl refl)))

      older : (n : ℕ) → nat_lt count n ≡ true → (count == n) ≡ false
      older n e = grind (arith, nat_tests, e)

      newest : (n : ℕ) → nat_lt n count ≡ false → nat_lt count n ≡ false → (count == n) ≡ true
      newest n e f = grind (arith, nat_tests, e, f)

      here_answers : (one : Message) → numbered m.number q.records ≡ Some one → Answers (change_here q key.at with_count timeout one)
      here_answers one f =
          subst (λ z. (changed_answer (change_here q key.at with_count timeout one).0 ≡ z) ⊎ (changed_answer (change_here q key.at with_count timeout one).0 ≡ answers.Refused refusals.BadTimeout)) (sym (there_changed one f))
          (cases_of (nat_lt one.receives count) (is_in_flight one) (nat_lt count one.receives) (nat_lt (one.received + 43200000) (key.at + 1000 * timeout)) (count == one.receives)
          (older one.receives) (newest one.receives))

      gone_answers : numbered m.number q.records ≡ None → Answers (change_found q key.at with_count timeout None)
      gone_answers f =
          let left : has_left m rows ≡ true = left_is m count here old first ∙ ap is_none f in
          let rests : flying m rows ≡ false = subst (λ x. flying x rows ≡ false) (is_id m count here old first) (rests_of s rows q h.1.1 m.number f) in
          let come : nat_lt m.number q.arrivals ≡ true = grind (arith, nat_tests, old) in
          let one : changed_answer (change_found q key.at with_count timeout None).0 ≡ answers.Refused refusals.MessageNotInflight = rw come refl in
          let two : change_answer rows m count ≡ answers.Refused refusals.MessageNotInflight = rw (left, rests) refl in
          inl (one ∙ sym two)

      found_answers : (o : Option Message) → numbered m.number q.records ≡ o → Answers (change_found q key.at with_count timeout o)
      found_answers None f = gone_answers f
      found_answers (Some one) f = here_answers one f

      change_answers : Answers (change q key.at with_count timeout)
      change_answers =
          let found : Result (Option Load) Refusal × Queue = change_found q key.at with_count timeout (numbered m.number q.records) in
          let taken : Answers (if may_be_given q with_count then found else (Err refusals.ReceiptHandleIsInvalid, q)) =
          subst (λ b. Answers (if b then found else (Err refusals.ReceiptHandleIsInvalid, q))) (sym (given m count here old first)) (found_answers (numbered m.number q.records) refl) in
          either Answers (nat_lt 43200 timeout) (Err refusals.BadTimeout, q) (if may_be_given q with_count then found else (Err refusals.ReceiptHandleIsInvalid, q)) (inr refl) taken

    -- what was asked of the queue then
    asked_now : (a : AsksChange s q r) (x : Receipt) → read_receipt a.text ≡ Some x → r.answer ≡ changed_answer (change q key.at x a.timeout).0
    asked_now a x e = subst (λ (y : Key). r.answer ≡ changed_answer (change q y.at x a.timeout).0) d.at_key (a.by x e)

    changes_by : is_change r.kind ≡ true → (m : MessageId) (count : ℕ) → Known rows r m count → (r.answer ≡ change_answer rows m count) ⊎ (r.answer ≡ answers.Refused refusals.BadTimeout)
    changes_by t m count x =
        let a : AsksChange s q r = o.asks t in
        let told : r.answer ≡ changed_answer (change q key.at (record { site = m.site; number = m.number; count = count }) a.timeout).0 = asked_now a (record { site = m.site; number = m.number; count = count }) (known_read m count x a.text a.given) in
        elim (change_answers m count a.timeout (known_here m count x a.text a.given) (known_old m count x a.text a.given) (known_count m count x a.text a.given)) as (λ _. (r.answer ≡ change_answer rows m count) ⊎ (r.answer ≡ answers.Refused refusals.BadTimeout)) [
          | inl e ↦ inl (told ∙ e)
          | inr e ↦ inr (told ∙ e)
        ]

    -- any other delete or change is refused
    abbrev IsKnown : Type 0
    IsKnown = (m : MessageId) × (count : ℕ) × Known rows r m count

    abbrev IsRefused : Type 0
    IsRefused = (r.answer ≡ answers.Refused refusals.ReceiptHandleIsInvalid) ⊎ ((is_change r.kind ≡ true) × (r.answer ≡ answers.Refused refusals.BadTimeout))

    foreign : (x : Receipt) → may_be_given q x ≡ false → (k : Kind) → deleted_answer (delete_as k q key.at x).0 ≡ answers.Refused refusals.ReceiptHandleIsInvalid
    foreign x g (Standard hosts sampled) = rw g refl
    foreign x g (Fifo content scope) = rw g refl

    early_by : (here : Message → Result Deleted Refusal × Queue) (x : Receipt) → nat_lt x.number q.arrivals ≡ false → (o : Option Message) → numbered x.number q.records ≡ o
        → deleted_answer (elim o as (λ _. Result Deleted Refusal × Queue) [ None ↦ delete_gone q x | Some one ↦ here one ]).0 ≡ answers.Refused refusals.ReceiptHandleIsInvalid
    early_by here x l None f = rw l refl
    early_by here x l (Some one) f = let old : x.number < q.arrivals = found_old q x.number one k f in absurd (grind (arith, nat_tests, l, old))

    early : (x : Receipt) → may_be_given q x ≡ true → nat_lt x.number q.arrivals ≡ false → (kind : Kind) → deleted_answer (delete_as kind q key.at x).0 ≡ answers.Refused refusals.ReceiptHandleIsInvalid
    early x g l (Standard hosts sampled) = rw g (early_by (delete_standard_here q key.at x) x l (numbered x.number q.records) refl)
    early x g l (Fifo content scope) = rw g (early_by (delete_fifo_here q key.at x) x l (numbered x.number q.records) refl)

    early_found : (x : Receipt) (timeout : ℕ) → nat_lt x.number q.arrivals ≡ false → (o : Option Message) → numbered x.number q.records ≡ o → changed_answer (change_found q key.at x timeout o).0 ≡ answers.Refused refusals.ReceiptHandleIsInvalid
    early_found x timeout l None f = rw l refl
    early_found x timeout l (Some one) f = let old : x.number < q.arrivals = found_old q x.number one k f in absurd (grind (arith, nat_tests, l, old))

    -- a change that no receipt of the queue asks for
    change_refused : (t : is_change r.kind ≡ true) (a : AsksChange s q r) (x : Receipt) → read_receipt a.text ≡ Some x
        → changed_answer (if may_be_given q x then change_found q key.at x a.timeout (numbered x.number q.records) else (Err refusals.ReceiptHandleIsInvalid, q)).0 ≡ answers.Refused refusals.ReceiptHandleIsInvalid → IsRefused
    change_refused t a x e g =
        let found : Result (Option Load) Refusal × Queue = if may_be_given q x then change_found q key.at x a.timeout (numbered x.number q.records) else (Err refusals.ReceiptHandleIsInvalid, q) in
        let either_way : (changed_answer (change q key.at x a.timeout).0 ≡ answers.Refused refusals.ReceiptHandleIsInvalid) ⊎ (changed_answer (change q key.at x a.timeout).0 ≡ answers.Refused refusals.BadTimeout) =
        either (λ (y : Result (Option Load) Refusal × Queue). (changed_answer y.0 ≡ answers.Refused refusals.ReceiptHandleIsInvalid) ⊎ (changed_answer y.0 ≡ answers.Refused refusals.BadTimeout)) (nat_lt 43200 a.timeout) (Err refusals.BadTimeout, q) found (inr refl) (inl g) in
        elim either_way as (λ _. IsRefused) [ inl y ↦ inl (asked_now a x e ∙ y) | inr y ↦ inr (t, asked_now a x e ∙ y) ]

    -- what was asked, by a text
    pub record Asked : Type 0 where
      pub text : List ℕ
      pub given : r.receipt ≡ receipts.Given text
      pub none : read_receipt text ≡ None → IsRefused
      pub foreign : (x : Receipt) → read_receipt text ≡ Some x → may_be_given q x ≡ false → IsRefused
      pub early : (x : Receipt) → read_receipt text ≡ Some x → may_be_given q x ≡ true → nat_lt x.number q.arrivals ≡ false → IsRefused

    asked_delete : is_delete r.kind ≡ true → Asked
    asked_delete t =
        let a : AsksDelete key q r = asked_by key q r r.kind t d.asked in
        record {
          text = a.text;
          given = a.given;
          none = λ e. inl (a.none e);
          foreign = λ x e g. inl (a.by x e ∙ foreign x g q.settings.kind);
          early = λ x e g l. inl (a.by x e ∙ early x g l q.settings.kind);
        }

    asked_change : is_change r.kind ≡ true → Asked
    asked_change t =
        let a : AsksChange s q r = o.asks t in
        record {
          text = a.text;
          given = a.given;
          none = λ e. either (λ f. r.answer ≡ answers.Refused f → IsRefused) (nat_lt longest_timeout a.timeout) refusals.BadTimeout refusals.ReceiptHandleIsInvalid (λ y. inr (t, y)) (λ y. inl y) (a.none e);
          foreign = λ x e g. change_refused t a x e (rw g refl);
          early = λ x e g l. change_refused t a x e (rw g (early_found x a.timeout l (numbered x.number q.records) refl));
        }

    known_as : (a : Asked) (x : Receipt) → read_receipt a.text ≡ Some x → may_be_given q x ≡ true → nat_lt x.number q.arrivals ≡ true → IsKnown
    known_as a x e g l =
        let site : x.site ≡ q.site = eqb-true x.site q.site (and_parts (x.site == q.site) (nat_lt 0 x.count) g).0 in
        let old : x.number < q.arrivals = grind (arith, nat_tests, l) in
        (record { site = x.site; number = x.number }, x.count, record { text = a.text; given = a.given; read = e; here = site ∙ sym d.at_site; came = omega (arith, came, old) })

    other_come : (b : Bool) (a : Asked) (x : Receipt) → read_receipt a.text ≡ Some x → may_be_given q x ≡ true → nat_lt x.number q.arrivals ≡ b → IsKnown ⊎ IsRefused
    other_come true a x e g l = inl (known_as a x e g l)
    other_come false a x e g l = inr (a.early x e g l)

    other_given : (b : Bool) (a : Asked) (x : Receipt) → read_receipt a.text ≡ Some x → may_be_given q x ≡ b → IsKnown ⊎ IsRefused
    other_given true a x e g = other_come (nat_lt x.number q.arrivals) a x e g refl
    other_given false a x e g = inr (a.foreign x e g)

    other_read : (o : Option Receipt) (a : Asked) → read_receipt a.text ≡ o → IsKnown ⊎ IsRefused
    other_read None a e = inr (a.none e)
    other_read (Some x) a e = other_given (may_be_given q x) a x e refl

    others_by : (b : Bool) → is_delete r.kind ≡ b → (is_delete r.kind || is_change r.kind) ≡ true → IsKnown ⊎ IsRefused
    others_by true e t = let a : Asked = asked_delete e in other_read (read_receipt a.text) a refl
    others_by false e t = let a : Asked = asked_change (ap (λ b. b || is_change r.kind) (sym e) ∙ t) in other_read (read_receipt a.text) a refl

  -- the law
  pub receipts_are_known : (x : Run) → IsRunOf s x → EachRow x.rows (λ before r. is_change r.kind ≡ true → IsBadIfTooLong s before r) → Receipts s x.rows
  receipts_are_known x is timeouts =
      record {
        made = every_row_by s told _ (λ rows key q r p now d g k h j. made_by rows key q r p d g k h d.does) x is;
        deletes = every_row_by s told _ (λ rows key q r p now d g k h j. deletes_by rows key q r p d g k h) x is;
        changes = every_row_by s told _ (λ rows key q r p now d g k h j. changes_by rows key q r p d g k h) x is;
        timeouts = timeouts;
        others = every_row_by s told _ (λ rows key q r p now d g k h j t. others_by rows key q r p d g k h (is_delete r.kind) refl t) x is;
      }
