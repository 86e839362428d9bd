-- The rows so far tell the origin of each message of a queue, and since when it counts as enqueued.
use Rattle.std.specs.Prelude.{All, Bool, List, None, Some, [], false, get_or, length, nat_le, nat_lt, not, slice_get, suc, true, zero, ℕ, ◌&&◌, ◌+◌, ◌++◌, ◌<◌, ◌∷◌, ◌≡◌, ◌≤◌, Option, find, cond, ◌⊎◌, ◌==◌, ◌≢◌}
use Rattle.std.proofs.Common.{ap, arith, refl, subst, sym, ◌∙◌, inl, inr, true≢false}
use Rattle.sqs_laws.proofs.Terms.{All-head, All-tail, All-weaker, and-false, and_parts, append-nil, append_assoc, by_cases, enqueued_at, eq-eqb, eqb-true, Fifo, find_all, find_picked, Forward, has_number, id_of, is_first, is_origin, Key, Kind, Load, Message, MessageId, nat_tests, numbered, origin_in, origin_told, Outbound, Queue, Redrive, Row, RowAnswer, RowKind, same_id, Scenario, Standard, tells}
use Rattle.sqs_message.specs.declared.ids.Origin.{Origin}
use Rattle.sqs_message.specs.declared.row.Detail.TheVariants as details
use Rattle.sqs_redrive.specs.declared.transfers.Load.TheVariants.{Move as Moves}
use Rattle.sqs_laws.specs.Laws.{EnqueuedAfter, EnqueuedAt, IsDeadLetter, MayArrive, fifo_at, is_actor_of, is_fifo, keeps_age}
use Rattle.sqs_laws.specs.Words.{came_by, names}
use Rattle.sqs_laws.specs.Words as words
use Rattle.sqs_laws.proofs.Moves.{AreTraced, Chain, Comes, Does, FitsLoad, FitsSender, IsBehind, IsBrought, IsMadeBy, IsStocked, IsTraced, IsUnderWay, Keeps, does_keep, OfGroup, own_origin, as_told, does_all}
use Rattle.sqs_laws.proofs.Naming.{last_as, names_other, names_same, origin_as, names_apart, NamesOwn}
use Rattle.sqs_message.specs.declared.row.RowKind.TheVariants as kinds
use Rattle.std.proofs.lemmas.List.Folds.{find-append}
use Rattle.sqs_message.specs.declared.row.RowAnswer.TheVariants as answers
use Rattle.std.specs.Option.{option_or}

-- the kind of a row's queue
pub fifo_there : (s : Scenario) (r : Row) (q : Queue) → r.queue ≡ q.site → slice_get s.queues q.site ≡ Some q.settings → fifo_at s r ≡ is_fifo q.settings.kind
fifo_there s r q e f = ap (λ x. elim x as (λ _. Bool) [ None ↦ false | Some y ↦ is_fifo y.kind ]) (ap (λ n. slice_get s.queues n) e ∙ f)

-- one more message is found by its number
pub pushed_found : (n : ℕ) (ms : List Message) (m : Message) → m.number ≡ n → All (λ x. x.number < n) ms → numbered n (ms ++ m ∷ []) ≡ Some m
pushed_found n [] m e h = let is : has_number n m ≡ true = grind (arith, nat_tests, e) in rw is refl
pushed_found n (x ∷ xs) m e h =
    let other : has_number n x ≡ false = let l : x.number < n = All-head (λ y. y.number < n) x xs h in grind (arith, nat_tests) in
    rw other (pushed_found n xs m e (All-tail (λ y. y.number < n) x xs h))

-- the first of some rows stays the first
find_more : {A : Type 0} (p : A → Bool) (xs ys : List A) (y : A) → find p xs ≡ Some y → find p (xs ++ ys) ≡ Some y
find_more p xs ys y e = find-append p xs ys ∙ ap (λ o. option_or o (find p ys)) e

find_none : {A : Type 0} (p : A → Bool) (xs : List A) (y : A) (b : Bool) → find p xs ≡ None → p y ≡ b → find p (xs ++ y ∷ []) ≡ cond b (Some y) None
find_none p xs y b e f = find-append p xs (y ∷ []) ∙ ap (λ o. option_or o (find p (y ∷ []))) e ∙ ap (λ x. cond x (Some y) None) f

-- a row that does not name the message of an origin does not accept it
named_first : (a : Option MessageId) (m : MessageId) → same_id a (Some m) ≡ true → same_id (Some m) a ≡ true
named_first None m e = cc
named_first (Some i) m e =
    let both = and_parts (i.site == m.site) (i.number == m.number) e in
    rw (eq-eqb m.site i.site (sym (eqb-true i.site m.site both.0)), eq-eqb m.number i.number (sym (eqb-true i.number m.number both.1))) refl

not_first : (o : Origin) (r : Row) → names (record { site = o.site; number = o.number }) r ≡ false → is_first o r ≡ false
not_first o r e =
    by_cases (same_id r.message (Some (record { site = o.site; number = o.number })))
    (λ t. absurd (true≢false (sym (named_first r.message (record { site = o.site; number = o.number }) t) ∙ e)))
    (λ f. ap (λ b. tells o r && b) f ∙ and-false (tells o r))

none_first : (o : Origin) (r : Row) → words.comes r ≡ false → is_first o r ≡ false
none_first o r e = ap (λ b. b && same_id r.message (Some (record { site = o.site; number = o.number }))) (none_told r.message)
  where
    not_new : (a : RowAnswer) (i : MessageId) → words.is_new a ≡ false → origin_told a r.detail i ≡ None
    not_new answers.New i e = cc
    not_new a i e = refl

    none_told : (m : Option MessageId) → is_origin o (origin_in r m) ≡ false
    none_told None = refl
    none_told (Some i) = ap (is_origin o) (not_new r.answer i e)

-- a message that comes is found after it
pub comes_found : (key : Key) (q : Queue) (r : Row) (p : Queue) → IsStocked q → (d : Comes key q r p) → numbered q.arrivals p.records ≡ Some d.one
comes_found key q r p k d = subst (λ (y : Queue). numbered q.arrivals y.records ≡ Some d.one) d.after (pushed_found q.arrivals q.records d.one d.number k.given_out)

-- a row by which another message comes, or none
pub does_apart : (key : Key) (q : Queue) (r : Row) (p : Queue) → Does key q r p → IsStocked q → All (λ m. (words.comes r && names (id_of q m.number) r) ≡ false) q.records
does_apart key q r p d k =
    λ j x l.
    let n : ℕ = (get_or q.records j x).number in
    let old : n < q.arrivals = k.given_out j x l in
    by_cases (words.comes r)
    (λ t. ap (λ b. words.comes r && b) (names_other (id_of q n) (id_of q q.arrivals) r ((as_told key q r p d).comes t).message (λ e. absurd (omega (arith, old, e)))) ∙ and-false (words.comes r))
    (λ f. rw f refl)

module _ (s : Scenario) where
  -- with more rows, by which it does not come
  letter_later : (rows more before : List Row) (by left : Row) (m : MessageId) → IsDeadLetter s rows before by left m → IsDeadLetter s (rows ++ more) before by left m
  letter_later rows more before by left m d =
      record { after = d.after ++ more; split = ap (λ x. x ++ more) d.split ∙ append_assoc before (left ∷ d.after) more; redriven = d.redriven; named = d.named; from = d.from; to = d.to; late = d.late; origin = d.origin }

  enqueued_later : (times : ℕ) (rows more : List Row) (i : MessageId) (moment : ℕ) → came_by i (rows ++ more) ≡ came_by i rows → EnqueuedAfter s times rows i moment → EnqueuedAfter s times (rows ++ more) i moment
  enqueued_later zero rows more i moment e (by, c, k, w) = (by, e ∙ c, k, w)
  enqueued_later (suc times) rows more i moment e (by, c, k, left, before, m, d, w) = (by, e ∙ c, k, left, before, m, letter_later rows more before by left m d, w)

  pub since_later : (rows : List Row) (r : Row) (i : MessageId) (moment : ℕ) → (words.comes r && names i r) ≡ false → EnqueuedAt s rows i moment → EnqueuedAt s (rows ++ r ∷ []) i moment
  since_later rows r i moment e (times, w) = (times, enqueued_later times rows (r ∷ []) i moment (last_as words.comes i rows r false e) w)

  pub group_later : (rows more : List Row) (o : Origin) (group : Option (List ℕ)) → OfGroup s rows o group → OfGroup s (rows ++ more) o group
  group_later rows more o group (by, e, f) = (by, find_more (is_first o) rows more by e, f)

  pub traced_later : (rows : List Row) (r : Row) (i : MessageId) (m : Message) → (words.comes r && names i r) ≡ false → IsTraced s rows i m → IsTraced s (rows ++ r ∷ []) i m
  traced_later rows r i m e t = record { origin = origin_as i rows r false e ∙ t.origin; enqueued = since_later rows r i m.enqueued e t.enqueued; group = group_later rows (r ∷ []) m.origin m.group t.group }

  -- what is under way
  pub load_later : (rows more : List Row) (o : Outbound) (load : Load) → FitsLoad s rows o load → FitsLoad s (rows ++ more) o load
  load_later rows more o (Redrive id group origin body enqueued) f =
      record { sender = f.sender; left = f.left; before = f.before; after = f.after ++ more; split = ap (λ x. x ++ more) f.split ∙ append_assoc f.before (f.left ∷ f.after) more; redriven = f.redriven; named = f.named; from = f.from; to = f.to; late = f.late; told = f.told; since = f.since; of_group = group_later rows more origin group f.of_group }
  load_later rows more o (Moves id group origin body) f = (f.0, group_later rows more origin group f.1)
  load_later rows more o (Forward id group body) f = f

  pub sent_later : (rows more : List Row) (os : List Outbound) → All (FitsSender s rows) os → All (FitsSender s (rows ++ more)) os
  sent_later rows more os h = All-weaker (FitsSender s rows) (FitsSender s (rows ++ more)) (λ o f. load_later rows more o o.load f) os h

  -- a send is no arrival
  sends_no : (r : Row) → words.is_send r.kind ≡ true → words.is_arrive r.kind ≡ false
  sends_no r e = no_arrival r.kind e
    where
      no_arrival : (k : RowKind) → words.is_send k ≡ true → words.is_arrive k ≡ false
      no_arrival kinds.Send e = refl
      no_arrival k e = cc

  module _ (rows : List Row) (key : Key) (q : Queue) (r : Row) (p : Queue) (at_key : r.key ≡ key) (at_site : r.queue ≡ q.site) (home : slice_get s.queues q.site ≡ Some q.settings) (o : IsBehind s rows q r p) where
    fifo_here : fifo_at s r ≡ is_fifo q.settings.kind
    fifo_here = fifo_there s r q at_site home

    -- one that comes
    module _ (d : Comes key q r p) (found : numbered q.arrivals p.records ≡ Some d.one) where
      abbrev pub i : MessageId
      i = id_of q q.arrivals

      now : came_by i (rows ++ r ∷ []) ≡ Some r
      now = last_as words.comes i rows r true (rw (d.tells.comes_so, names_same i r d.message) refl)

      anew : keeps_age s r ≡ false → d.one.enqueued ≡ r.key.at → EnqueuedAt s (rows ++ r ∷ []) i d.one.enqueued
      anew k e = (0, (r, now, k, e))

      -- one that an actor or a task sent
      no_letter : (n : ℕ) → r.agent ≡ n → length s.queues ≤ n → keeps_age s r ≡ false
      no_letter n e l =
          let late : nat_lt r.agent (length s.queues) ≡ false = grind (arith, nat_tests, e, l) in
          ap (λ b. (words.is_arrive r.kind && b) && not (fifo_at s r)) late ∙ ap (λ b. b && not (fifo_at s r)) (and-false (words.is_arrive r.kind))

      actor_above : (n : ℕ) → is_actor_of s n ≡ true → length s.queues ≤ n
      actor_above n e = grind (arith, nat_tests, (and_parts (nat_le (length s.queues) n) (nat_lt n (length s.queues + length s.actors)) e).0)

      letter_by : (b : IsBrought s rows q r d.one) (id : MessageId) (group : Option (List ℕ)) (origin : Origin) (before : ℕ) (u : IsUnderWay s rows b.transfer id group origin before) → origin ≡ d.one.origin → IsDeadLetter s rows u.before r u.left id
      letter_by b id group origin before u w =
          record {
            after = u.after;
            split = u.split;
            redriven = u.redriven;
            named = u.named;
            from = u.from ∙ b.sender;
            to = u.to ∙ ap (λ n. details.Queue n) (b.to ∙ sym at_site);
            late = λ p x. subst (MayArrive p.latency u.left.key.at) b.at (u.late p x);
            origin = u.told ∙ ap (λ x. Some x) w ∙ sym d.told ∙ ap (origin_in r) (sym d.message);
          }

      letter_since : (b : IsBrought s rows q r d.one) (id : MessageId) (group : Option (List ℕ)) (origin : Origin) (before : ℕ) (k : Kind) → IsUnderWay s rows b.transfer id group origin before → q.settings.kind ≡ k → origin ≡ d.one.origin → d.one.enqueued ≡ enqueued_at k r.key.at before → EnqueuedAt s (rows ++ r ∷ []) i d.one.enqueued
      letter_since b id group origin before (Fifo content scope) u f w e =
          anew (ap (λ x. (words.is_arrive r.kind && nat_lt r.agent (length s.queues)) && not x) (fifo_here ∙ ap is_fifo f) ∙ and-false (words.is_arrive r.kind && nat_lt r.agent (length s.queues))) e
      letter_since b id group origin before (Standard hosts sampled) u f w e =
          let from : nat_lt r.agent (length s.queues) ≡ true = grind (arith, nat_tests, b.sender, u.sender) in
          let keeps : keeps_age s r ≡ true = rw (b.arrives, from, fifo_here, ap is_fifo f) refl in
          let letter : IsDeadLetter s (rows ++ r ∷ []) u.before r u.left id = letter_later rows (r ∷ []) u.before r u.left id (letter_by b id group origin before u w) in
          subst (λ t. EnqueuedAt s (rows ++ r ∷ []) i t) (sym e) (suc u.since.0, (r, now, keeps, u.left, u.before, id, letter, u.since.1))

      -- one that arrives from a queue left it as a dead letter
      pub comes_from : words.is_arrive r.kind ≡ true → r.agent < length s.queues → (left : Row) × (before : List Row) × (id : MessageId) × IsDeadLetter s rows before r left id
      comes_from t l = by_load b.transfer.load b.fits b.made
        where
          sent : words.is_send r.kind ≡ false
          sent = by_cases (words.is_send r.kind) (λ e. absurd (true≢false (sym t ∙ sends_no r e))) (λ e. e)

          b : IsBrought s rows q r d.one
          b = o.brought d.tells.comes_so sent d.one found

          by_load : (load : Load) → FitsLoad s rows b.transfer load → IsMadeBy q r.key.at load d.one → (left : Row) × (before : List Row) × (id : MessageId) × IsDeadLetter s rows before r left id
          by_load (Redrive id group origin body enqueued) u m = (u.left, u.before, id, letter_by b id group origin enqueued u (sym (ap (λ (x : Message). x.origin) m)))
          by_load (Moves id group origin body) u m = absurd (omega (arith, u.0, b.sender, l))
          by_load (Forward id group body) u m = let above : length s.queues ≤ b.transfer.sender = actor_above b.transfer.sender u in absurd (omega (arith, above, b.sender, l))

      brought_since : (b : IsBrought s rows q r d.one) (load : Load) → FitsLoad s rows b.transfer load → IsMadeBy q r.key.at load d.one → EnqueuedAt s (rows ++ r ∷ []) i d.one.enqueued
      brought_since b (Redrive id group origin body enqueued) u m = letter_since b id group origin enqueued q.settings.kind u refl (sym (ap (λ (x : Message). x.origin) m)) (ap (λ (x : Message). x.enqueued) m)
      brought_since b (Moves id group origin body) l m = anew (no_letter b.transfer.sender (sym b.sender) (omega (arith, l.0))) (ap (λ (x : Message). x.enqueued) m)
      brought_since b (Forward id group body) a m = anew (no_letter b.transfer.sender (sym b.sender) (actor_above b.transfer.sender a)) m.0

      pub comes_since : EnqueuedAt s (rows ++ r ∷ []) i d.one.enqueued
      comes_since =
          by_cases (words.is_send r.kind) (λ e. anew (ap (λ b. (b && nat_lt r.agent (length s.queues)) && not (fifo_at s r)) (sends_no r e)) ((d.sent e).0 ∙ sym (ap (λ (x : Key). x.at) at_key)))
          (λ e. let b : IsBrought s rows q r d.one = o.brought d.tells.comes_so e d.one found in brought_since b b.transfer.load b.fits b.made)

      -- it has its own origin, or that of what was under way
      module _ (none : words.accepted_by (own_origin q) rows ≡ None) where
        accepted : d.one.origin ≡ own_origin q → words.accepted_by d.one.origin (rows ++ r ∷ []) ≡ Some r
        accepted e =
            let told : origin_in r r.message ≡ Some (own_origin q) = ap (origin_in r) d.message ∙ d.told ∙ ap (λ x. Some x) e in
            let first : is_first (own_origin q) r ≡ true = rw (told, d.message, eq-eqb q.site q.site refl, eq-eqb q.arrivals q.arrivals refl) refl in
            ap (λ x. words.accepted_by x (rows ++ r ∷ [])) e ∙ find_none (is_first (own_origin q)) rows r true none first

        brought_group : (b : IsBrought s rows q r d.one) (load : Load) → words.is_send r.kind ≡ false → FitsLoad s rows b.transfer load → IsMadeBy q r.key.at load d.one → OfGroup s rows d.one.origin d.one.group ⊎ (d.one.origin ≡ own_origin q)
        brought_group b (Redrive id group origin body enqueued) n u m = inl (subst (λ (x : Message). OfGroup s rows x.origin x.group) (sym m) u.of_group)
        brought_group b (Moves id group origin body) n u m = inl (subst (λ (x : Message). OfGroup s rows x.origin x.group) (sym m) u.1)
        brought_group b (Forward id group body) n u m = inr m.2

        comes_group : OfGroup s (rows ++ r ∷ []) d.one.origin d.one.group
        comes_group =
            by_cases (words.is_send r.kind)
            (λ e. (r, accepted (d.sent e).1, λ t w x g. (o.given (rw (e, d.tells.comes_so) refl) d.one found w x g).group (sym fifo_here ∙ (and_parts (words.is_send r.kind) (fifo_at s r) t).1)))
            (λ e.
            let b : IsBrought s rows q r d.one = o.brought d.tells.comes_so e d.one found in
            elim (brought_group b b.transfer.load e b.fits b.made) as (λ _. OfGroup s (rows ++ r ∷ []) d.one.origin d.one.group) [
              | inl g ↦ group_later rows (r ∷ []) d.one.origin d.one.group g
              | inr own ↦ (r, accepted own, λ t. absurd (true≢false (sym (and_parts (words.is_send r.kind) (fifo_at s r) t).0 ∙ e)))
            ])

        comes_traced : IsTraced s (rows ++ r ∷ []) i d.one
        comes_traced = record { group = comes_group; origin = origin_as i rows r true (rw (d.tells.comes_so, names_same i r d.message) refl) ∙ d.told; enqueued = comes_since }

    -- all messages after a row
    module _ (k : IsStocked q) (h : AreTraced s rows q) (does : Does key q r p) where
      abbrev Now : Message → Type 0
      Now m = IsTraced s (rows ++ r ∷ []) (id_of q m.number) m

      next : (d : Comes key q r p) → Now d.one
      next d = subst (λ n. IsTraced s (rows ++ r ∷ []) (id_of q n) d.one) (sym d.number) (comes_traced d (comes_found key q r p k d) (h.fresh q.arrivals (omega arith)))

      each : All Now p.records
      each =
          does_all key q r p Now
          (record {
            receives = λ t m o. record { origin = o.origin; enqueued = o.enqueued; group = o.group };
            changes = λ t m o. record { origin = o.origin; enqueued = o.enqueued; group = o.group };
            comes_back = λ m o. record { origin = o.origin; enqueued = o.enqueued; group = o.group };
          }) next does (λ j x l. let m : Message = get_or q.records j x in traced_later rows r (id_of q m.number) m (does_apart key q r p does k j x l) (h.each j x l))

      later_first : (n : ℕ) → p.arrivals ≤ n → is_first (record { site = q.site; number = n }) r ≡ false
      later_first n l =
          by_cases (words.comes r)
          (λ t.
          let d : Comes key q r p = (as_told key q r p does).comes t in
          let more : q.arrivals + 1 ≡ p.arrivals = ap (λ (y : Queue). y.arrivals) d.after in
          not_first (record { site = q.site; number = n }) r (names_other (id_of q n) (id_of q q.arrivals) r d.message (λ e. absurd (omega (arith, l, e, more)))))
          (none_first (record { site = q.site; number = n }) r)

      pub does_trace : AreTraced s (rows ++ r ∷ []) p
      does_trace =
          let kept : Keeps q p = does_keep key q r p does k in
          let fresh : (n : ℕ) → p.arrivals ≤ n → words.accepted_by (record { site = q.site; number = n }) (rows ++ r ∷ []) ≡ None = λ n l. find_none (is_first (record { site = q.site; number = n })) rows r false (h.fresh n (omega (arith, l, kept.arrivals))) (later_first n l) in
          record {
            each = subst (λ i. All (λ m. IsTraced s (rows ++ r ∷ []) (record { site = i; number = m.number }) m) p.records) kept.site each;
            fresh = subst (λ i. (n : ℕ) → p.arrivals ≤ n → words.accepted_by (record { site = i; number = n }) (rows ++ r ∷ []) ≡ None) kept.site fresh;
          }

  -- rows of another queue
  pub apart_traced : (rows : List Row) (r : Row) (q : Queue) → r.queue ≢ q.site → NamesOwn r → AreTraced s rows q → AreTraced s (rows ++ r ∷ []) q
  apart_traced rows r q d own h =
      record {
        each = λ j x l. let m : Message = get_or q.records j x in traced_later rows r (id_of q m.number) m (ap (λ b. words.comes r && b) (names_apart (id_of q m.number) r own d) ∙ and-false (words.comes r)) (h.each j x l);
        fresh = λ n l. find_none (is_first (record { site = q.site; number = n })) rows r false (h.fresh n l) (not_first (record { site = q.site; number = n }) r (names_apart (id_of q n) r own d));
      }

  -- a message by its number
  pub traced_of : (rows : List Row) (q : Queue) → AreTraced s rows q → (n : ℕ) (m : Message) → numbered n q.records ≡ Some m → IsTraced s rows (id_of q n) m
  traced_of rows q h n m e =
      subst (λ i. IsTraced s rows (id_of q i) m) (eqb-true m.number n (find_picked (has_number n) q.records m e))
      (find_all (has_number n) (λ x. IsTraced s rows (id_of q x.number) x) q.records m h.each e)

  -- rows that are a chain
  pub chain_traces : (past : List Row) (key : Key) (rs : List Row) (q p : Queue) → slice_get s.queues q.site ≡ Some q.settings → IsStocked q → Chain s past key q rs p → AreTraced s past q → AreTraced s (past ++ rs) p
  chain_traces past key [] q p w k c h = subst (λ x. AreTraced s x p) (sym (append-nil past)) (subst (AreTraced s past) c h)
  chain_traces past key (r ∷ rs) q p w k (x, m, o, c) h =
      let kept : Keeps q x = does_keep key q r x m.does k in
      subst (λ y. AreTraced s y p) (append_assoc past (r ∷ []) rs)
      (chain_traces (past ++ r ∷ []) key rs x p (ap (λ n. slice_get s.queues n) (sym kept.site) ∙ w ∙ ap (λ y. Some y) kept.settings) kept.stocked c (does_trace past key q r x m.at_key m.at_site w o k h m.does))
