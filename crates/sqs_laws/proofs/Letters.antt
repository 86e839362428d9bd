-- Dead letters: a message leaves for the dead-letter queue exactly when it was received as often as the policy says.
use Rattle.std.specs.Prelude.{All, List, None, Option, Some, [], false, slice_get, true, ℕ, ◌&&◌, ◌+◌, ◌++◌, ◌<◌, ◌∷◌, ◌≡◌, ◌≤◌, ◌||◌}
use Rattle.std.proofs.Common.{ap, arith, refl, subst, sym, ◌∙◌}
use Rattle.sqs_laws.proofs.Terms.{and-false, and_parts, bit, id_of, is_in_flight, IsQueueSettings, IsRunOf, Key, leaves, leb-false, leb-true, MayBePolicy, Message, MessageId, Policy, Queue, QueueSettings, Row, Run, Scenario}
use Rattle.sqs_message.specs.declared.row.Detail.TheVariants as details
use Rattle.sqs_laws.specs.Laws.{DeadLetters, HasPolicy}
use Rattle.sqs_laws.specs.Words.{EachRow, is_redrive, is_release, names, times, is_arrive}
use Rattle.sqs_laws.specs.Words as words
use Rattle.sqs_laws.proofs.Moves.{Does, Names, Redrives, changes, comes, ends, receives, redrives, releases, stays, Comes, as_told}
use Rattle.sqs_laws.proofs.Said.{names_same, times_as, none_leaves}
use Rattle.sqs_laws.proofs.Slots.{Holds, MessageLaw, Slot, by_messages, gone, of_there, there, unborn}
use Rattle.sqs_laws.proofs.Worlds.{RowLaw, every_row_by, traces}
use Rattle.sqs_laws.proofs.Calls.{visible_rests}
use Rattle.sqs_laws.proofs.Traces.{comes_from, comes_found}
use Rattle.sqs_laws.proofs.Naming.{at_place}

-- a message that may still be received, or is in flight after as many receives as there may be
pub record IsWithin (most : ℕ) (m : Message) : Type 0 where
  pub receives : m.receives ≤ most
  pub rested : is_in_flight m ≡ false → m.receives < most

module _ (s : Scenario) where
  -- what the rows so far say of a message: how often it was received, and that this was not too often
  abbrev pub IsCounted : QueueSettings → Slot → ℕ → Type 0
  IsCounted q unborn n = n ≡ 0
  IsCounted q gone n = Unit {0}
  IsCounted q (there m) n = (n ≡ m.receives) × ((p : Policy) → q.policy ≡ Some p → IsWithin p.max_receives m)

  -- what the law says of a row
  pub record IsAsTold (before : List Row) (r : Row) (m : MessageId) : Type 0 where
    pub leaves : is_redrive r.kind ≡ true → (p : Policy) × HasPolicy s r p × (times m before ≡ p.max_receives) × (r.detail ≡ details.Queue p.dead_letter)
    pub stays : (is_release r.kind || words.received r) ≡ true → (p : Policy) → HasPolicy s r p → times m before < p.max_receives

  abbrev pub Meets : List Row → Row → Type 0
  Meets before r = (m : MessageId) → r.message ≡ Some m → IsAsTold before r m

  -- a row that is no redrive, no release and no receive
  meets_none : (rows : List Row) (r : Row) → is_redrive r.kind ≡ false → is_release r.kind ≡ false → words.received r ≡ false → Meets rows r
  meets_none rows r a b c m e = record { leaves = λ t. cc; stays = λ t. let none : (is_release r.kind || words.received r) ≡ false = rw (b, c) refl in cc }

  pub same_times : (m : MessageId) (rows : List Row) (r : Row) → (words.received r && names m r) ≡ false → times m (rows ++ r ∷ []) ≡ times m rows
  same_times m rows r e = let one : times m (rows ++ r ∷ []) ≡ times m rows + bit false = times_as m rows r false e in omega (arith, one)

  pub still_counted : (q : QueueSettings) (i : MessageId) (rows : List Row) (r : Row) (x : Slot) → words.received r ≡ false → IsCounted q x (times i rows) → IsCounted q x (times i (rows ++ r ∷ []))
  still_counted q i rows r x e h = subst (IsCounted q x) (sym (same_times i rows r (rw e refl))) h

  pub positive : (o : Option Policy) → MayBePolicy o → (x : Policy) → o ≡ Some x → 1 ≤ x.max_receives
  positive None v x f = cc
  positive (Some y) v x f = let is : y ≡ x = cc in subst (λ (z : Policy). 1 ≤ z.max_receives) is v.receives.0

  pub lasts_by : (o : Option Policy) (m : Message) → leaves o m ≡ false → (x : Policy) → o ≡ Some x → m.receives < x.max_receives
  lasts_by None m l x e = cc
  lasts_by (Some y) m l x e = let is : y ≡ x = cc in subst (λ (z : Policy). m.receives < z.max_receives) is (leb-false y.max_receives m.receives l)

  abbrev pub letter_law : All IsQueueSettings s.queues → MessageLaw s
  letter_law v =
      record {
        Said = λ q rows i x. IsCounted q x (times i rows);
        opens = λ q i. refl;
        other = λ q rows r i x e h. subst (IsCounted q x) (sym (same_times i rows r (ap (λ b. words.received r && b) e ∙ and-false (words.received r)))) h;
        stays = λ rows key q r p a t n e x y h. still_counted q.settings (id_of q n) rows r x t.received_so h;
        comes = λ rows key q r p a d e h. (
          same_times (id_of q q.arrivals) rows r (rw d.tells.received_so refl) ∙ h ∙ sym d.fresh,
          λ x f. let one : 1 ≤ x.max_receives = positive q.settings.policy (at_place IsQueueSettings s.queues q.site q.settings v a.settings).policy x f in record { receives = omega (arith, d.fresh, one); rested = λ _. omega (arith, d.fresh, one) },
        );
        receives = λ rows key q r p a d e h.
            let once : times (id_of q d.number) (rows ++ r ∷ []) ≡ times (id_of q d.number) rows + bit true = times_as (id_of q d.number) rows r true (rw (d.tells.received_so, names_same (id_of q d.number) r d.names.message) refl) in (
              omega (arith, once, h.0),
              λ x f. record { receives = let fewer : d.one.receives < x.max_receives = (h.1 x f).rested (visible_rests d.one.place d.rested) in omega (arith, fewer); rested = λ e. cc },
            );
        changes = λ rows key q r p a d h. let x = still_counted q.settings (id_of q d.number) rows r (there d.one) d.tells.received_so h in (x.0, λ y f. record { receives = (x.1 y f).receives; rested = λ e. cc });
        releases = λ rows key q r p a d h.
            let x = still_counted q.settings (id_of q d.number) rows r (there d.one) d.tells.received_so h in
            (x.0, λ y f. let fewer : d.one.receives < y.max_receives = lasts_by q.settings.policy d.one d.lasts y f in record { receives = omega (arith, fewer); rested = λ _. fewer });
        leaves = λ rows key q r p a t one n d h. tt;
      }

  abbrev pub letters : All IsQueueSettings s.queues → RowLaw s
  letters v = by_messages s (letter_law v)

  module _ (v : All IsQueueSettings s.queues) (rows : List Row) (key : Key) (q : Queue) (r : Row) (p : Queue) (here : r.queue ≡ q.site) (h : Holds s (letter_law v) rows q) where
    -- the policy of the row is the queue's
    own_policy : (x : Policy) → HasPolicy s r x → q.settings.policy ≡ Some x
    own_policy x (settings, e, f) =
        let same : slice_get s.queues r.queue ≡ Some q.settings = ap (λ n. slice_get s.queues n) here ∙ h.settings in
        let is : settings ≡ q.settings = cc in
        ap (λ (y : QueueSettings). y.policy) (sym is) ∙ f

    counted : (one : Message) (n : ℕ) → Names key q r p one n → IsCounted q.settings (there one) (times (id_of q n) rows)
    counted one n d = of_there s (letter_law v) rows q h n one d.there

    -- one that is received or comes back
    fewer_by : (one : Message) (n : ℕ) → Names key q r p one n → words.leaves r ≡ false → ((x : Policy) → q.settings.policy ≡ Some x → one.receives < x.max_receives) → Meets rows r
    fewer_by one n d l w m e =
        let i : id_of q n ≡ m = cc in
        let before : times (id_of q n) rows ≡ one.receives = (counted one n d).0 in
        subst (IsAsTold rows r) i
        (record {
          leaves = λ t. let none : is_redrive r.kind ≡ false = (none_leaves r l).0 in cc;
          stays = λ t x y. let fewer : one.receives < x.max_receives = w x (own_policy x y) in omega (arith, before, fewer);
        })

    redrives_by : Redrives key q r p → Meets rows r
    redrives_by d m e =
        let i : id_of q d.number ≡ m = cc in
        let c = counted d.one d.number d.names in
        let before : times (id_of q d.number) rows ≡ d.one.receives = c.0 in
        let most : d.one.receives ≤ d.policy.max_receives = (c.1 d.policy d.by).receives in
        let least : d.policy.max_receives ≤ d.one.receives = leb-true d.policy.max_receives d.one.receives d.worn in
        let settings : slice_get s.queues r.queue ≡ Some q.settings = ap (λ n. slice_get s.queues n) here ∙ h.settings in
        subst (IsAsTold rows r) i
        (record {
          leaves = λ t. (d.policy, (q.settings, settings, d.by), omega (arith, before, most, least), d.to);
          stays = λ t. let none : (is_release r.kind || words.received r) ≡ false = rw (d.tells.released_so, d.tells.received_so) refl in cc;
        })

    meets_by : Does key q r p → Meets rows r
    meets_by (receives d) = fewer_by d.one d.number d.names d.tells.leaves_so (λ x f. ((counted d.one d.number d.names).1 x f).rested (visible_rests d.one.place d.rested))
    meets_by (releases d) = fewer_by d.one d.number d.names d.tells.leaves_so (lasts_by q.settings.policy d.one d.lasts)
    meets_by (redrives d) = redrives_by d
    meets_by (stays d) = meets_none rows r (none_leaves r d.tells.leaves_so).0 d.tells.released_so d.tells.received_so
    meets_by (comes d) = meets_none rows r (none_leaves r d.tells.leaves_so).0 d.tells.released_so d.tells.received_so
    meets_by (changes d) = meets_none rows r (none_leaves r d.tells.leaves_so).0 d.tells.released_so d.tells.received_so
    meets_by (ends d) = meets_none rows r d.kind d.tells.released_so d.tells.received_so

  -- the law
  pub letters_are_dead : All IsQueueSettings s.queues → (x : Run) → IsRunOf s x → DeadLetters s x.rows
  letters_are_dead v x is =
      let each : EachRow x.rows Meets = every_row_by s (letters v) Meets (λ rows key q r p now d g k h j. meets_by v rows key q r p d.at_site h d.does) x is in
      record {
        leaves = λ before r after e m i t. (each before r after e m i).leaves t;
        stays = λ before r after e m i t y w. (each before r after e m i).stays t y w;
        arrives =
            every_row_by s (traces s) _
            (λ rows key q r p now d g k h j t l.
            let both = and_parts (is_arrive r.kind) (words.comes r) t in
            let x : Comes key q r p = (as_told key q r p d.does).comes both.1 in
            comes_from s rows key q r p d.at_key d.at_site h.0 g x (comes_found key q r p k x) both.0 l) x is;
      }
