-- Timeouts: a change is BadTimeout just if it asks for more than 12 hours, or would keep its message in flight for longer.
use Rattle.std.specs.Prelude.{All, Bool, Err, List, None, Option, Result, Some, false, if◌then◌else◌, nat_lt, not, slice_get, true, ℕ, ◌*◌, ◌+◌, ◌<◌, ◌==◌, ◌≡◌, ◌⊎◌, ◌||◌}
use Rattle.std.proofs.Common.{ap, arith, inl, inr, refl, subst, sym, true≢false, ◌∙◌}
use Rattle.sqs_laws.proofs.Terms.{and_parts, change, change_found, change_here, either, either_by, eq-eqb, eqb-true, id_of, IsQueueSettings, IsRunOf, is_in_flight, Key, Load, longest_flight, longest_timeout, may_be_given, Message, MessageId, nat_tests, numbered, or_parts, Queue, read_receipt, Receipt, Refusal, released, returned, Row, Run, Scenario}
use Rattle.sim_clock.specs.declared.refusal.Refusal.TheVariants as refusals
use Rattle.sqs_message.specs.declared.row.RowAnswer.TheVariants as answers
use Rattle.sqs_laws.specs.Laws.{IsBadIfTooLong, IsOverLongest}
use Rattle.sqs_laws.specs.Sends.{AsksToChangeAs}
use Rattle.sqs_laws.specs.Words.{EachRow, flying, is_change, received_by, times}
use Rattle.sqs_laws.proofs.Calls.{found_old}
use Rattle.sqs_laws.proofs.Flights.{flies_of, rests_of}
use Rattle.sqs_laws.proofs.Letters as letter
use Rattle.sqs_laws.proofs.Moves.{AsksChange, IsBehind, IsStocked, Move, changed_answer}
use Rattle.sqs_laws.proofs.Receipts as receipt
use Rattle.sqs_laws.proofs.Releases.{receipt_law}
use Rattle.sqs_laws.proofs.Slots.{by_messages, of_there}
use Rattle.sqs_laws.proofs.Worlds.{RowLaw, both, every_row_by}

-- the message of a receipt would be in flight for too long
record IsTooLong (q : Queue) (now : ℕ) (x : Receipt) (timeout : ℕ) (m : Message) : Type 0 where
  pub given : may_be_given q x ≡ true
  pub there : numbered x.number q.records ≡ Some m
  pub flies : is_in_flight m ≡ true
  pub newest : x.count ≡ m.receives
  pub over : m.received + longest_flight < now + 1000 * timeout

is_so : (b : Bool) → not b ≡ false → b ≡ true
is_so true e = refl
is_so false e = cc

-- what a queue answers
module _ (q : Queue) (now : ℕ) (x : Receipt) (timeout : ℕ) where
  abbrev IsBad : Result (Option Load) Refusal × Queue → Type 0
  IsBad y = changed_answer y.0 ≡ answers.Refused refusals.BadTimeout

  abbrev IsOver : Type 0
  IsOver = (nat_lt longest_timeout timeout ≡ true) ⊎ ((m : Message) × IsTooLong q now x timeout m)

  abbrev Tells : Result (Option Load) Refusal × Queue → Type 0
  Tells y = IsBad y → IsOver

  returned_tells : (y : Queue × Option Load) → Tells (returned y)
  returned_tells (p, left) w = cc

  here_tells : may_be_given q x ≡ true → (m : Message) → numbered x.number q.records ≡ Some m → Tells (change_here q now x timeout m)
  here_tells g m f =
      either_by Tells (nat_lt m.receives x.count) (Err refusals.ReceiptHandleIsInvalid, q) _ (λ e w. cc)
      (λ older.
      either_by Tells (not (is_in_flight m) || nat_lt x.count m.receives) (Err refusals.MessageNotInflight, q) _ (λ e w. cc)
      (λ rest.
      either_by Tells (nat_lt (m.received + longest_flight) (now + 1000 * timeout)) (Err refusals.BadTimeout, q) _
      (λ e w.
      let parts = or_parts (not (is_in_flight m)) (nat_lt x.count m.receives) rest in
      let newest : x.count ≡ m.receives = grind (arith, nat_tests, older, parts.1) in
      let over : m.received + longest_flight < now + 1000 * timeout = grind (arith, nat_tests, e) in
      inr (m, record { given = g; there = f; flies = is_so (is_in_flight m) parts.0; newest = newest; over = over }))
      (λ e. either Tells (timeout == 0) (returned (released q x.number)) _ (returned_tells (released q x.number)) (λ w. cc))))

  found_tells : may_be_given q x ≡ true → (o : Option Message) → numbered x.number q.records ≡ o → Tells (change_found q now x timeout o)
  found_tells g None f = either Tells (nat_lt x.number q.arrivals) (Err refusals.MessageNotInflight, q) (Err refusals.ReceiptHandleIsInvalid, q) (λ w. cc) (λ w. cc)
  found_tells g (Some m) f = here_tells g m f

  only_then : Tells (change q now x timeout)
  only_then =
      either_by Tells (nat_lt longest_timeout timeout) (Err refusals.BadTimeout, q) _ (λ e w. inl e)
      (λ e. either_by Tells (may_be_given q x) (change_found q now x timeout (numbered x.number q.records)) (Err refusals.ReceiptHandleIsInvalid, q) (λ g. found_tells g (numbered x.number q.records) refl) (λ g w. cc))

  surely_then : IsOver → IsBad (change q now x timeout)
  surely_then (inl e) = rw e refl
  surely_then (inr (m, t)) =
      let older : nat_lt m.receives x.count ≡ false = grind (arith, nat_tests, t.newest) in
      let newer : nat_lt x.count m.receives ≡ false = grind (arith, nat_tests, t.newest) in
      let over : nat_lt (m.received + 43200000) (now + 1000 * timeout) ≡ true = grind (arith, nat_tests, t.over) in
      either IsBad (nat_lt 43200 timeout) (Err refusals.BadTimeout, q) (if may_be_given q x then change_found q now x timeout (numbered x.number q.records) else (Err refusals.ReceiptHandleIsInvalid, q)) refl
      (rw (t.given, t.there, older, t.flies, newer, over) refl)

module _ (s : Scenario) (v : All IsQueueSettings s.queues) where
  abbrev told : RowLaw s
  told = both s (receipt.told s v) (by_messages s (receipt_law s))

  module _ (rows : List Row) (key : Key) (q : Queue) (r : Row) (p : Queue) (d : Move key q r p) (o : IsBehind s rows q r p) (k : IsStocked q) (h : told.Holds rows q) (a : AsksChange s q r) where
    abbrev IsOut : Type 0
    IsOut = (longest_timeout < a.timeout) ⊎ IsOverLongest rows r a.timeout

    abbrev IsAnswered : Type 0
    IsAnswered = r.answer ≡ answers.Refused refusals.BadTimeout

    -- by the rows, of a message that would be in flight for too long
    over_by : (x : Receipt) → read_receipt a.text ≡ Some x → (m : Message) → IsTooLong q r.key.at x a.timeout m → IsOverLongest rows r a.timeout
    over_by x e m z =
        let i : MessageId = id_of q x.number in
        let site : x.site ≡ q.site = eqb-true x.site q.site (and_parts (x.site == q.site) (nat_lt 0 x.count) z.given).0 in
        let old : x.number < q.arrivals = found_old q x.number m k z.there in
        let got : times i rows ≡ m.receives = (of_there s (letter.letter_law s v) rows q h.0.1.0 x.number m z.there).0 in
        let newest : (x.count == times i rows) ≡ true = eq-eqb x.count (times i rows) (z.newest ∙ sym got) in
        let flies : flying i rows ≡ true = flies_of s rows q h.0.1.1 x.number m z.there ∙ z.flies in
        let last = of_there s (receipt_law s) rows q h.1 x.number m z.there z.flies in
        record {
          message = i;
          count = x.count;
          known = record { text = a.text; given = a.given; read = e ∙ ap (λ n. Some (record { site = n; number = x.number; count = x.count })) site; here = sym d.at_site; came = omega (arith, receipt.came s v rows key q r p d o k h.0, old) };
          newest = rw (flies, newest) refl;
          received = last.0;
          last = last.1;
          over = omega (arith, last.2, z.over);
        }

    unread : (b : Bool) → nat_lt longest_timeout a.timeout ≡ b → answers.Refused (if b then refusals.BadTimeout else refusals.ReceiptHandleIsInvalid) ≡ answers.Refused refusals.BadTimeout → IsOut
    unread true e w = inl (grind (arith, nat_tests, e))
    unread false e w = cc

    bad_by : (x : Option Receipt) → read_receipt a.text ≡ x → IsAnswered → IsOut
    bad_by None e w = unread (nat_lt longest_timeout a.timeout) refl (sym (a.none e) ∙ w)
    bad_by (Some x) e w =
        elim (only_then q r.key.at x a.timeout (sym (a.by x e) ∙ w)) as (λ _. IsOut) [
          | inl f ↦ inl (grind (arith, nat_tests, f))
          | inr z ↦ inr (over_by x e z.0 z.1)
        ]

    -- what asks for more than 12 hours, or would last longer, is BadTimeout
    long_by : (x : Option Receipt) → read_receipt a.text ≡ x → nat_lt longest_timeout a.timeout ≡ true → IsAnswered
    long_by None e t = a.none e ∙ ap (λ b. answers.Refused (if b then refusals.BadTimeout else refusals.ReceiptHandleIsInvalid)) t
    long_by (Some x) e t = a.by x e ∙ surely_then q r.key.at x a.timeout (inl t)

    module _ (z : IsOverLongest rows r a.timeout) where
      abbrev m : MessageId
      m = z.message

      abbrev x : Receipt
      x = record { site = m.site; number = m.number; count = z.count }

      here : m.site ≡ q.site
      here = receipt.known_here s v rows key q r p d o k h.0 m z.count z.known a.text a.given

      read : read_receipt a.text ≡ Some x
      read = receipt.known_read s v rows key q r p d o k h.0 m z.count z.known a.text a.given

      own : id_of q m.number ≡ m
      own = ap (λ n. record { site = n; number = m.number }) (sym here)

      given : may_be_given q x ≡ true
      given = receipt.given s v rows key q r p d o k h.0 m z.count here (receipt.known_old s v rows key q r p d o k h.0 m z.count z.known a.text a.given) (receipt.known_count s v rows key q r p d o k h.0 m z.count z.known a.text a.given)

      over_by_rows : (w : Option Message) → numbered m.number q.records ≡ w → IsAnswered
      over_by_rows None f =
          let flies : flying m rows ≡ true = (and_parts (flying m rows) (z.count == times m rows) z.newest).0 in
          absurd (true≢false (sym flies ∙ subst (λ i. flying i rows ≡ false) own (rests_of s rows q h.0.1.1 m.number f)))
      over_by_rows (Some one) f =
          let parts = and_parts (flying m rows) (z.count == times m rows) z.newest in
          let flies : is_in_flight one ≡ true = sym (flies_of s rows q h.0.1.1 m.number one f) ∙ ap (λ i. flying i rows) own ∙ parts.0 in
          let got : times m rows ≡ one.receives = subst (λ i. times i rows ≡ one.receives) own (of_there s (letter.letter_law s v) rows q h.0.1.0 m.number one f).0 in
          let last = of_there s (receipt_law s) rows q h.1 m.number one f flies in
          let found : Some last.0 ≡ Some z.received = sym last.1 ∙ ap (λ i. received_by i rows) own ∙ z.last in
          let same : last.0 ≡ z.received = cc in
          let at : z.received.key.at ≡ one.received = ap (λ (y : Row). y.key.at) (sym same) ∙ last.2 in
          a.by x read ∙ surely_then q r.key.at x a.timeout (inr (one, record { given = given; there = f; flies = flies; newest = eqb-true z.count (times m rows) parts.1 ∙ got; over = omega (arith, at, z.over) }))

    surely_by : IsOut → IsAnswered
    surely_by (inl l) = long_by (read_receipt a.text) refl (grind (arith, nat_tests, l))
    surely_by (inr z) = over_by_rows z (numbered z.message.number q.records) refl

    answered : IsBadIfTooLong s rows r
    answered = record { text = a.text; given = a.given; seconds = a.timeout; told = a.told; asked = λ y e. let both : Some q.settings ≡ Some y = sym (ap (λ n. slice_get s.queues n) d.at_site ∙ h.1.settings) ∙ e in let is : q.settings ≡ y = cc in subst (λ z. AsksToChangeAs s z r.agent r.key.at a.text a.timeout) is a.own; bad = bad_by (read_receipt a.text) refl; too_long = surely_by }

  -- the law
  pub bad_if_too_long : (x : Run) → IsRunOf s x → EachRow x.rows (λ before r. is_change r.kind ≡ true → IsBadIfTooLong s before r)
  bad_if_too_long x is =
      every_row_by s told (λ rows r. is_change r.kind ≡ true → IsBadIfTooLong s rows r) (λ rows key q r p now d g k h j t. answered rows key q r p d g k h (g.asks t)) x is
