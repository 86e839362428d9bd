-- What a site holds of one origin, with what its rows ended and what stands elsewhere, is one where the origin is accepted, and else none.
use Rattle.std.specs.List.{list_any}
use Rattle.std.specs.Prelude.{All, Bool, List, Option, Some, [], false, if◌then◌else◌, true, ℕ, ◌&&◌, ◌+◌, ◌++◌, ◌<◌, ◌==◌, ◌∷◌, ◌≡◌, ◌≢◌, ◌≤◌, ◌||◌}
use Rattle.std.proofs.Common.{ap, arith, refl, subst, sym, ◌∙◌}
use Rattle.std.proofs.Math.Bool.{and-false, and-true, or-false}
use Rattle.std.proofs.lemmas.Bool.{and_parts, eq-eqb, eqb-true, ne_eqb, or_parts}
use Rattle.std.proofs.lemmas.List.Folds.{list_any-append, list_any_none}
use Rattle.std.proofs.lemmas.List.Elements.{All-push, All-weaker}
use Rattle.sim_clock.specs.Firsts.{changed}
use Rattle.sqs_message.specs.declared.ids.MessageId.{MessageId}
use Rattle.sqs_message.specs.declared.ids.Origin.{Origin}
use Rattle.sqs_message.specs.declared.message.Message.{Message}
use Rattle.sqs_message.specs.declared.row.Row.{Row}
use Rattle.sqs_model.specs.Accounts.{is_deleted, is_expired, is_first, same_id, same_origin, tells}
use Rattle.sqs_model.specs.Scenario.{LeadsWithin, MayBeWithin}
use Rattle.sqs_model.specs.Progress.{Ascends}
use Rattle.sqs_model.specs.Queue.{Queue, has_number, numbered, taken_out, with_change}
use Rattle.sqs_model.proofs.Counts.{all_changed, all_without, ascends_changed, ascends_push, ascends_without, total, total_push, total_without}
use Rattle.sqs_model.proofs.Ledger.{IsEnd, IsNews, IsPast, bit, end_of, ended, ended_push, ends_by, ends_same, first_in, first_or, first_push, first_silent, given_by, given_push, given_silent, id_at, marks, same_id_swap}

-- ids of one site with different numbers, and of different sites
past_id : (site n k : ℕ) → n < k → same_id (id_at site n) (id_at site k) ≡ false
past_id site n k l =
    ap (λ b. (site == site) && b) (ne_eqb n k (λ (e : n ≡ k). absurd (omega arith))) ∙ and-false (site == site)

other_id : (site n j k : ℕ) → j ≢ site → same_id (id_at site n) (id_at j k) ≡ false
other_id site n j k h = ap (λ b. b && (n == k)) (ne_eqb site j (λ (e : site ≡ j). h (sym e)))

module _ (o : Origin) (top : ℕ) (base : List Row) where
  -- whether rows, beside those that there were before, say nothing of another site's ids
  pub record AreApart (rows : List Row) (site : ℕ) : Type 0 where
    pub told : (j k : ℕ) → j ≢ site → given_by o rows (id_at j k) ≡ given_by o base (id_at j k)
    pub past : (j n : ℕ) → j ≢ site → All (IsPast o j n) base → All (IsPast o j n) rows

  -- a message whose id was told its origin, and whose source is a queue of the world
  pub record IsFine (rows : List Row) (site arrivals : ℕ) (m : Message) : Type 0 where
    pub told : given_by o rows (id_at site m.number) ≡ same_origin o m.origin
    pub old : m.number < arrivals
    pub source : MayBeWithin top m.source

  -- how many messages of some are of the origin
  abbrev pub held : List Message → ℕ
  held ms = total (λ m. bit (same_origin o m.origin)) ms

  -- a queue in balance with what rows ended and what stands elsewhere
  pub record Holds (rows : List Row) (elsewhere : ℕ) (q : Queue) : Type 0 where
    pub inside : q.site < top
    pub policy : LeadsWithin top q.settings.policy
    pub ordered : Ascends (λ m. m.number) 0 q.records
    pub records : All (IsFine rows q.site q.arrivals) q.records
    pub past : All (IsPast o q.site q.arrivals) rows
    pub apart : AreApart rows q.site
    pub sum : held q.records + ended o rows + elsewhere ≡ first_in o rows

  pub holds_as : (rows : List Row) (a b : ℕ) (q : Queue) → a ≡ b → Holds rows a q → Holds rows b q
  holds_as rows a b q e h = subst (λ n. Holds rows n q) e h

  -- a row that gives no id the origin
  silent_records : (rows : List Row) (r : Row) (site arrivals : ℕ) (ms : List Message) → tells o r ≡ false → All (IsFine rows site arrivals) ms → All (IsFine (rows ++ r ∷ []) site arrivals) ms
  silent_records rows r site arrivals ms s h =
      All-weaker (IsFine rows site arrivals) (IsFine (rows ++ r ∷ []) site arrivals)
      (λ m f. record { told = given_silent o rows r (id_at site m.number) s ∙ f.told; old = f.old; source = f.source }) ms h

  silent_ended : (rows : List Row) (r : Row) (site n : ℕ) → tells o r ≡ false → All (IsPast o site n) rows → ended o (rows ++ r ∷ []) ≡ ended o rows + end_of o rows r
  silent_ended rows r site n s h =
      let same : (x : Row) → end_of o (rows ++ r ∷ []) x ≡ end_of o rows x =
      λ x. ap (λ b. ends_by (is_deleted x.answer) (is_expired x.answer) b) (given_silent o rows r x.message s) in
      let all : All (λ x. end_of o (rows ++ r ∷ []) x ≡ end_of o rows x) rows = All-weaker (IsPast o site n) (λ x. end_of o (rows ++ r ∷ []) x ≡ end_of o rows x) (λ x _. same x) rows h in
      omega (arith, ended_push o rows r all, same r)

  -- a row that says nothing
  pub holds_idle : (rows : List Row) (r : Row) (elsewhere : ℕ) (q : Queue) → marks o r ≡ false → Holds rows elsewhere q → Holds (rows ++ r ∷ []) elsewhere q
  holds_idle rows r elsewhere q m h =
      let parts : (tells o r ≡ false) × ((is_deleted r.answer || is_expired r.answer) ≡ false) = or_parts (tells o r) (is_deleted r.answer || is_expired r.answer) m in
      let ends : (is_deleted r.answer ≡ false) × (is_expired r.answer ≡ false) = or_parts (is_deleted r.answer) (is_expired r.answer) parts.1 in
      let none : end_of o rows r ≡ 0 = rw (ends.0, ends.1) refl in
      let never : (j n : ℕ) → IsPast o j n r = λ j n k l e. cc in
      record {
        inside = h.inside;
        policy = h.policy;
        ordered = h.ordered;
        records = silent_records rows r q.site q.arrivals q.records parts.0 h.records;
        past = All-push (IsPast o q.site q.arrivals) rows r h.past (never q.site q.arrivals);
        apart = record {
          told = λ j k e. given_silent o rows r (id_at j k) parts.0 ∙ h.apart.told j k e;
          past = λ j n e a. All-push (IsPast o j n) rows r (h.apart.past j n e a) (never j n);
        };
        sum = omega (arith, h.sum, none, silent_ended rows r q.site q.arrivals parts.0 h.past, first_silent o rows r parts.0);
      }

  -- what a row marks that has this id, and what it does not
  marked_past : (r : Row) (site number n : ℕ) → r.message ≡ id_at site number → number < n → IsPast o site n r
  marked_past r site number n e l k g m = rw e (past_id site number k (omega arith))

  marked_apart : (r : Row) (site number : ℕ) → r.message ≡ id_at site number → (j n : ℕ) → j ≢ site → IsPast o j n r
  marked_apart r site number e j n d k g m = rw e (other_id site number j k d)

  -- a row that ends a message
  pub holds_end :
      (rows : List Row) (r : Row) (n elsewhere : ℕ) (q : Queue) → IsEnd o r q.site n → n < q.arrivals
      → Holds rows (bit (given_by o rows (id_at q.site n)) + elsewhere) q → Holds (rows ++ r ∷ []) elsewhere q
  holds_end rows r n elsewhere q d l h =
      let one : end_of o rows r ≡ bit (given_by o rows (id_at q.site n)) = d.once (given_by o rows r.message) ∙ ap (λ i. bit (given_by o rows i)) d.message in
      record {
        inside = h.inside;
        policy = h.policy;
        ordered = h.ordered;
        records = silent_records rows r q.site q.arrivals q.records d.silent h.records;
        past = All-push (IsPast o q.site q.arrivals) rows r h.past (marked_past r q.site n q.arrivals d.message l);
        apart = record {
          told = λ j k e. given_silent o rows r (id_at j k) d.silent ∙ h.apart.told j k e;
          past = λ j m e a. All-push (IsPast o j m) rows r (h.apart.past j m e a) (marked_apart r q.site n d.message j m e);
        };
        sum = omega (arith, h.sum, one, silent_ended rows r q.site q.arrivals d.silent h.past, first_silent o rows r d.silent);
      }

  -- a row that gives the next id its origin
  news_told : (rows : List Row) (r : Row) (i j : Option MessageId) → r.message ≡ i → same_id i j ≡ false → given_by o (rows ++ r ∷ []) j ≡ given_by o rows j
  news_told rows r i j e d = given_push o rows r j (ap (λ x. tells o r && same_id x j) e ∙ ap (λ b. tells o r && b) d ∙ and-false (tells o r))

  news_ends : (rows : List Row) (r : Row) (site n : ℕ) → r.message ≡ id_at site n → (x : Row) → IsPast o site n x → end_of o (rows ++ r ∷ []) x ≡ end_of o rows x
  news_ends rows r site n e x p =
      ends_same (is_deleted x.answer) (is_expired x.answer) (given_by o (rows ++ r ∷ []) x.message) (given_by o rows x.message)
      (λ d.
      let m : marks o x ≡ true = rw d (elim (tells o x) as (λ b. (b || true) ≡ true) [ true ↦ refl | false ↦ refl ]) in
      news_told rows r (id_at site n) x.message e (same_id_swap (id_at site n) x.message ∙ p n (omega arith) m))

  pub holds_news :
      (rows : List Row) (r : Row) (p : Origin) (before elsewhere : ℕ) (q : Queue) → IsNews o r q.site q.arrivals p
      → before + first_in o (rows ++ r ∷ []) ≡ bit (same_origin o p) + elsewhere + first_in o rows
      → Holds rows before q → Holds (rows ++ r ∷ []) (bit (same_origin o p) + elsewhere) (record q { arrivals = q.arrivals + 1 })
  holds_news rows r p before elsewhere q d e h =
      let ends : (is_deleted r.answer ≡ false) × (is_expired r.answer ≡ false) = or_parts (is_deleted r.answer) (is_expired r.answer) d.lasts in
      let none : end_of o (rows ++ r ∷ []) r ≡ 0 = rw (ends.0, ends.1) refl in
      let all : All (λ x. end_of o (rows ++ r ∷ []) x ≡ end_of o rows x) rows =
      All-weaker (IsPast o q.site q.arrivals) (λ x. end_of o (rows ++ r ∷ []) x ≡ end_of o rows x) (news_ends rows r q.site q.arrivals d.message) rows h.past in
      let later : (x : Row) → IsPast o q.site q.arrivals x → IsPast o q.site (q.arrivals + 1) x = λ x a k l m. a k (omega arith) m in
      let fine : (m : Message) → IsFine rows q.site q.arrivals m → IsFine (rows ++ r ∷ []) q.site (q.arrivals + 1) m =
      λ m f.
      record {
        told = news_told rows r (id_at q.site q.arrivals) (id_at q.site m.number) d.message
            (same_id_swap (id_at q.site q.arrivals) (id_at q.site m.number) ∙ past_id q.site m.number q.arrivals f.old) ∙ f.told;
        old = let k : m.number < q.arrivals = f.old in omega arith;
        source = f.source;
      } in
      record {
        inside = h.inside;
        policy = h.policy;
        ordered = h.ordered;
        records = All-weaker (IsFine rows q.site q.arrivals) (IsFine (rows ++ r ∷ []) q.site (q.arrivals + 1)) fine q.records h.records;
        past =
            All-push (IsPast o q.site (q.arrivals + 1)) rows r (All-weaker (IsPast o q.site q.arrivals) (IsPast o q.site (q.arrivals + 1)) later rows h.past)
            (marked_past r q.site q.arrivals (q.arrivals + 1) d.message (omega arith));
        apart = record {
          told = λ j k n. news_told rows r (id_at q.site q.arrivals) (id_at j k) d.message (other_id q.site q.arrivals j k n) ∙ h.apart.told j k n;
          past = λ j m n a. All-push (IsPast o j m) rows r (h.apart.past j m n a) (marked_apart r q.site q.arrivals d.message j m n);
        };
        sum = omega (arith, h.sum, e, none, ended_push o rows r all);
      }

  -- no row before it gives the next id an origin
  fresh_one : (site n : ℕ) (x : Row) (b : Bool) → tells o x ≡ b → IsPast o site n x → (b && same_id x.message (id_at site n)) ≡ false
  fresh_one site n x true e p = p n (omega arith) (ap (λ b. b || (is_deleted x.answer || is_expired x.answer)) e)
  fresh_one site n x false e p = refl

  fresh : (rows : List Row) (site n : ℕ) → All (IsPast o site n) rows → given_by o rows (id_at site n) ≡ false
  fresh rows site n h =
      list_any_none (λ x. tells o x && same_id x.message (id_at site n)) rows
      (All-weaker (IsPast o site n) (λ x. (tells o x && same_id x.message (id_at site n)) ≡ false) (λ x p. fresh_one site n x (tells o x) refl p) rows h)

  own_id : (site n : ℕ) → same_id (id_at site n) (id_at site n) ≡ true
  own_id site n = rw (eq-eqb site site refl, eq-eqb n n refl) refl

  -- a row that gives the next id its origin gives it that one
  pub told_new : (rows : List Row) (r : Row) (p : Origin) (site n : ℕ) → IsNews o r site n p → All (IsPast o site n) rows → given_by o (rows ++ r ∷ []) (id_at site n) ≡ same_origin o p
  told_new rows r p site n d h =
      let one : (tells o r && same_id r.message (id_at site n)) ≡ same_origin o p =
      ap (λ i. tells o r && same_id i (id_at site n)) d.message ∙ ap (λ b. tells o r && b) (own_id site n) ∙ and-true (tells o r) ∙ d.told in
      list_any-append (λ x. tells o x && same_id x.message (id_at site n)) rows (r ∷ [])
      ∙ ap (λ b. b || ((tells o r && same_id r.message (id_at site n)) || false)) (fresh rows site n h)
      ∙ or-false (tells o r && same_id r.message (id_at site n)) ∙ one

  -- a message that is accepted
  first_own_by :
      (rows : List Row) (r : Row) (site n elsewhere : ℕ) (b : Bool) → IsNews o r site n (record { site = site; number = n }) → All (IsPast o site n) rows
      → same_origin o (record { site = site; number = n }) ≡ b → elsewhere + first_in o (rows ++ r ∷ []) ≡ bit b + elsewhere + first_in o rows
  first_own_by rows r site n elsewhere true d h e =
      let both : ((o.site == site) ≡ true) × ((o.number == n) ≡ true) = and_parts (o.site == site) (o.number == n) e in
      let sites : o.site ≡ site = eqb-true o.site site both.0 in
      let numbers : o.number ≡ n = eqb-true o.number n both.1 in
      let id : id_at o.site o.number ≡ id_at site n = ap (λ k. id_at k o.number) sites ∙ ap (id_at site) numbers in
      let none : list_any (is_first o) rows ≡ false = ap (given_by o rows) id ∙ fresh rows site n h in
      let one : is_first o r ≡ true = ap (λ b. b && same_id r.message (id_at o.site o.number)) (d.told ∙ e) ∙ ap (λ i. same_id i (id_at o.site o.number)) d.message ∙ ap (same_id (id_at site n)) id ∙ own_id site n in
      let now : first_in o (rows ++ r ∷ []) ≡ 1 = first_or o rows r ∙ ap (λ b. bit (b || is_first o r)) none ∙ ap bit one in
      let before : first_in o rows ≡ 0 = ap bit none in
      omega arith
  first_own_by rows r site n elsewhere false d h e =
      let none : is_first o r ≡ false = ap (λ b. b && same_id r.message (id_at o.site o.number)) (d.told ∙ e) in
      omega (arith, first_push o rows r none)

  pub first_own :
      (rows : List Row) (r : Row) (site n elsewhere : ℕ) → IsNews o r site n (record { site = site; number = n }) → All (IsPast o site n) rows
      → elsewhere + first_in o (rows ++ r ∷ []) ≡ bit (same_origin o (record { site = site; number = n })) + elsewhere + first_in o rows
  first_own rows r site n elsewhere d h = first_own_by rows r site n elsewhere _ d h refl

  -- a message that was accepted before
  first_again_by :
      (rows : List Row) (r : Row) (p : Origin) (site n : ℕ) (b c : Bool) → IsNews o r site n p → same_origin o p ≡ b → list_any (is_first o) rows ≡ c
      → (b ≡ true → 1 ≤ bit c) → first_in o (rows ++ r ∷ []) ≡ first_in o rows
  first_again_by rows r p site n false c d e f h = first_push o rows r (ap (λ b. b && same_id r.message (id_at o.site o.number)) (d.told ∙ e))
  first_again_by rows r p site n true true d e f h = first_or o rows r ∙ ap (λ b. bit (b || is_first o r)) f ∙ sym (ap bit f)
  first_again_by rows r p site n true false d e f h = absurd (omega (arith, h refl))

  pub first_again :
      (rows : List Row) (r : Row) (p : Origin) (elsewhere : ℕ) (q : Queue) → IsNews o r q.site q.arrivals p → Holds rows (bit (same_origin o p) + elsewhere) q
      → first_in o (rows ++ r ∷ []) ≡ first_in o rows
  first_again rows r p elsewhere q d h =
      first_again_by rows r p q.site q.arrivals (same_origin o p) (list_any (is_first o) rows) d refl refl
      (λ e. let one : bit (same_origin o p) ≡ 1 = ap bit e in let s : held q.records + ended o rows + (bit (same_origin o p) + elsewhere) ≡ bit (list_any (is_first o) rows) = h.sum in omega arith)

  -- a message that comes in
  pub holds_pushed :
      (rows : List Row) (m : Message) (elsewhere : ℕ) (q : Queue) → IsFine rows q.site q.arrivals m → All (λ x. x.number < m.number) q.records
      → Holds rows (bit (same_origin o m.origin) + elsewhere) q → Holds rows elsewhere (record q { records = q.records ++ m ∷ [] })
  holds_pushed rows m elsewhere q f b h =
      record {
        inside = h.inside;
        policy = h.policy;
        ordered = ascends_push (λ x. x.number) 0 q.records m h.ordered (omega arith) b;
        records = All-push (IsFine rows q.site q.arrivals) q.records m h.records f;
        past = h.past;
        apart = h.apart;
        sum = omega (arith, h.sum, total_push (λ x. bit (same_origin o x.origin)) q.records m);
      }

  -- a message that leaves
  pub holds_taken :
      (rows : List Row) (n : ℕ) (m : Message) (elsewhere : ℕ) (q : Queue) → numbered n q.records ≡ Some m → Holds rows elsewhere q
      → Holds rows (bit (same_origin o m.origin) + elsewhere) (taken_out q n)
  holds_taken rows n m elsewhere q e h =
      record {
        inside = h.inside;
        policy = h.policy;
        ordered = ascends_without (λ x. x.number) (has_number n) 0 q.records h.ordered;
        records = all_without (has_number n) (IsFine rows q.site q.arrivals) q.records h.records;
        past = h.past;
        apart = h.apart;
        sum = omega (arith, h.sum, total_without (has_number n) (λ x. bit (same_origin o x.origin)) q.records m e);
      }

  -- a message that changes, but for its number, origin and source
  pub record IsSame (f : Message → Message) : Type 0 where
    pub number : (m : Message) → (f m).number ≡ m.number
    pub origin : (m : Message) → (f m).origin ≡ m.origin
    pub source : (m : Message) → (f m).source ≡ m.source

  held_changed : (p : Message → Bool) (f : Message → Message) → IsSame f → (ms : List Message) → held (changed p f ms) ≡ held ms
  held_changed p f s [] = refl
  held_changed p f s (m ∷ ms) =
      let one : bit (same_origin o (f m).origin) ≡ bit (same_origin o m.origin) = ap (λ x. bit (same_origin o x)) (s.origin m) in
      elim (p m) as (λ b. held (if b then f m ∷ ms else m ∷ changed p f ms) ≡ bit (same_origin o m.origin) + held ms) [
        | true ↦ omega arith
        | false ↦ omega (arith, held_changed p f s ms)
      ]

  fine_changed : (rows : List Row) (site arrivals : ℕ) (f : Message → Message) → IsSame f → (m : Message) → IsFine rows site arrivals m → IsFine rows site arrivals (f m)
  fine_changed rows site arrivals f s m h =
      record {
        told = ap (λ n. given_by o rows (id_at site n)) (s.number m) ∙ h.told ∙ ap (same_origin o) (sym (s.origin m));
        old = rw (s.number m) h.old;
        source = rw (s.source m) h.source;
      }

  pub holds_changed : (rows : List Row) (n : ℕ) (f : Message → Message) (elsewhere : ℕ) (q : Queue) → IsSame f → Holds rows elsewhere q → Holds rows elsewhere (with_change q n f)
  holds_changed rows n f elsewhere q s h =
      record {
        inside = h.inside;
        policy = h.policy;
        ordered = ascends_changed (λ x. x.number) (has_number n) f (λ m _. s.number m) 0 q.records h.ordered;
        records = all_changed (has_number n) (IsFine rows q.site q.arrivals) f (fine_changed rows q.site q.arrivals f s) q.records h.records;
        past = h.past;
        apart = h.apart;
        sum = omega (arith, h.sum, held_changed (has_number n) f s q.records);
      }
