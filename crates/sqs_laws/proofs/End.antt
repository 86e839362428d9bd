-- The end is the end: messages are numbered as they come, and none that has left is named as one that is there.
use Rattle.std.specs.Prelude.{Bool, List, None, Option, Some, [], false, is_none, nat_lt, true, ℕ, ◌&&◌, ◌+◌, ◌++◌, ◌<◌, ◌∷◌, ◌≡◌}
use Rattle.std.proofs.Common.{ap, arith, refl, subst, sym, true≢false, ◌∙◌}
use Rattle.sqs_laws.proofs.Terms.{and-false, bit, eq-eqb, id_of, IsFound, IsRunOf, Key, Message, MessageId, nat_tests, ne_eqb, numbered, Queue, Row, Run, Scenario}
use Rattle.sqs_laws.specs.Laws.{TheEnd}
use Rattle.sqs_laws.specs.Words.{EachRow, comes, comings, has_left, is_gone, leaves, may_follow}
use Rattle.sqs_laws.proofs.Calls.{found_old}
use Rattle.sqs_laws.proofs.Moves.{Does, IsStocked, Names, changes, comes as comes_in, ends, receives, redrives, releases, stays}
use Rattle.sqs_laws.proofs.Said.{comings_as, left_now, left_still, new_stays}
use Rattle.sqs_laws.proofs.Slots.{Holds, MessageLaw, Slot, by_messages, gone, of_there, of_unborn, slot_of}
use Rattle.sqs_laws.proofs.Worlds.{RowLaw, both, every_row_by}

-- what the law says of a row
pub record IsAsTold (before : List Row) (r : Row) (m : MessageId) : Type 0 where
  pub numbered : comes r ≡ true → m ≡ record { site = r.queue; number = comings r.queue before }
  pub came : comes r ≡ false → (m.site ≡ r.queue) × (m.number < comings r.queue before)
  pub after : has_left m before ≡ true → may_follow r ≡ true
  pub gone : is_gone r.answer ≡ true → has_left m before ≡ true

abbrev pub Meets : List Row → Row → Type 0
Meets before r = (m : MessageId) → r.message ≡ Some m → IsAsTold before r m

-- what the rows so far say: how many came to a queue, and which of its messages have left
abbrev pub has_gone : Slot → Bool
has_gone gone = true
has_gone x = false

abbrev pub left_law : (s : Scenario) → MessageLaw s
left_law s =
    record {
      Said = λ q rows i x. has_left i rows ≡ has_gone x;
      opens = λ q i. refl;
      other = λ q rows r i x e h. left_still i rows r (ap (λ b. leaves r && b) e ∙ and-false (leaves r)) ∙ h;
      stays = λ rows key q r p a t n e x y h. left_still (id_of q n) rows r (rw t.leaves_so refl) ∙ h;
      comes = λ rows key q r p a d e h. left_still (id_of q q.arrivals) rows r (rw d.tells.leaves_so refl) ∙ h;
      receives = λ rows key q r p a d e h. left_still (id_of q d.number) rows r (rw d.tells.leaves_so refl) ∙ h;
      changes = λ rows key q r p a d h. left_still (id_of q d.number) rows r (rw d.tells.leaves_so refl) ∙ h;
      releases = λ rows key q r p a d h. left_still (id_of q d.number) rows r (rw d.tells.leaves_so refl) ∙ h;
      leaves = λ rows key q r p a t one n d h. left_now (id_of q n) rows r t.leaves_so d.message;
    }

abbrev pub IsCounted : List Row → Queue → Type 0
IsCounted rows q = comings q.site rows ≡ q.arrivals

-- a row that tells of no coming leaves the count
pub same_count : (rows : List Row) (q : Queue) (r : Row) → comes r ≡ false → IsCounted rows q → IsCounted (rows ++ r ∷ []) q
same_count rows q r e h = let one : comings q.site (rows ++ r ∷ []) ≡ comings q.site rows + bit false = comings_as q.site rows r false (rw e refl) in omega (arith, one, h)

pub does_count : (key : Key) (rows : List Row) (q : Queue) (r : Row) (p : Queue) → r.queue ≡ q.site → Does key q r p → IsCounted rows q → IsCounted (rows ++ r ∷ []) p
does_count key rows q r p here (comes_in d) h =
    let one : comings q.site (rows ++ r ∷ []) ≡ comings q.site rows + bit true = comings_as q.site rows r true (rw (d.tells.comes_so, here, eq-eqb q.site q.site refl) refl) in
    subst (IsCounted (rows ++ r ∷ [])) d.after (omega (arith, one, h))
does_count key rows q r p here (stays d) h = subst (IsCounted (rows ++ r ∷ [])) d.same (same_count rows q r d.tells.comes_so h)
does_count key rows q r p here (receives d) h = subst (IsCounted (rows ++ r ∷ [])) d.after (same_count rows q r d.tells.comes_so h)
does_count key rows q r p here (changes d) h = subst (IsCounted (rows ++ r ∷ [])) d.after (same_count rows q r d.tells.comes_so h)
does_count key rows q r p here (releases d) h = subst (IsCounted (rows ++ r ∷ [])) d.after (same_count rows q r d.tells.comes_so h)
does_count key rows q r p here (redrives d) h = subst (IsCounted (rows ++ r ∷ [])) d.after (same_count rows q r d.tells.comes_so h)
does_count key rows q r p here (ends d) h = subst (IsCounted (rows ++ r ∷ [])) d.after (same_count rows q r d.tells.comes_so h)

abbrev pub counts : (s : Scenario) → RowLaw s
counts s =
    record {
      Holds = IsCounted;
      Meets = λ rows r. Unit {0};
      moves = λ rows key q r p by m g k h. (tt, does_count key rows q r p m.at_site m.does h);
      apart = λ rows r q d own h. let one : comings q.site (rows ++ r ∷ []) ≡ comings q.site rows + bit false = comings_as q.site rows r false (ap (λ b. comes r && b) (ne_eqb r.queue q.site d) ∙ and-false (comes r)) in omega (arith, one, h);
      opens = λ n settings e. refl;
    }

abbrev pub the_end : (s : Scenario) → RowLaw s
the_end s = both s (counts s) (by_messages s (left_law s))

left_by : (o : Option Message) → has_gone (slot_of o true) ≡ is_none o
left_by None = refl
left_by (Some m) = refl

pub left_of : (s : Scenario) (rows : List Row) (q : Queue) → Holds s (left_law s) rows q → (n : ℕ) → n < q.arrivals → has_left (id_of q n) rows ≡ is_none (numbered n q.records)
left_of s rows q h n l =
    let born : nat_lt n q.arrivals ≡ true = grind (arith, nat_tests, l) in
    h.each n ∙ ap (λ b. has_gone (slot_of (numbered n q.records) b)) born ∙ left_by (numbered n q.records)

module _ (s : Scenario) (key : Key) (rows : List Row) (q : Queue) (r : Row) (p : Queue) (here : r.queue ≡ q.site) (k : IsStocked q) (h : (the_end s).Holds rows q) where
  count : comings r.queue rows ≡ q.arrivals
  count = ap (λ n. comings n rows) here ∙ h.0

  -- a row that names a message of the queue that is there
  names_there : (one : Message) (n : ℕ) → Names key q r p one n → comes r ≡ false → Meets rows r
  names_there one n d c m e =
      let i : id_of q n ≡ m = cc in
      let old : n < q.arrivals = found_old q n one k d.there in
      let stays_in : has_left (id_of q n) rows ≡ false = of_there s (left_law s) rows q h.1 n one d.there in
      let sure : is_gone r.answer ≡ false = d.sure in
      subst (IsAsTold rows r) i (record { numbered = λ t. cc; came = λ _. (sym here, omega (arith, count, old)); after = λ t. cc; gone = λ t. cc })

  -- a row that leaves all as it is
  may_follow_by : (b : Bool) (o : Option Message) → may_follow r ≡ b → (may_follow r ≡ false → IsFound o) → is_none o ≡ true → may_follow r ≡ true
  may_follow_by true o e f t = e
  may_follow_by false None e f t = absurd (f e)
  may_follow_by false (Some m) e f t = cc

  names_by : Does key q r p → Meets rows r
  names_by (receives d) m e = names_there d.one d.number d.names d.tells.comes_so m e
  names_by (changes d) m e = names_there d.one d.number d.names d.tells.comes_so m e
  names_by (releases d) m e = names_there d.one d.number d.names d.tells.comes_so m e
  names_by (redrives d) m e = names_there d.one d.number d.names d.tells.comes_so m e
  names_by (ends d) m e = names_there d.one d.number d.names d.tells.comes_so m e
  names_by (comes_in d) m e =
      let i : id_of q q.arrivals ≡ m = cc in
      let id : id_of q q.arrivals ≡ record { site = r.queue; number = comings r.queue rows } = ap (λ n. record { site = q.site; number = n }) (sym count) ∙ ap (λ x. record { site = x; number = comings r.queue rows }) (sym here) in
      let sure : is_gone r.answer ≡ false = new_stays r.answer d.tells.comes_so in
      let fresh : has_left (id_of q q.arrivals) rows ≡ false = of_unborn s (left_law s) rows q k h.1 q.arrivals (omega arith) in
      subst (IsAsTold rows r) i (record { numbered = λ _. id; came = λ t. absurd (true≢false (sym d.tells.comes_so ∙ t)); after = λ t. cc; gone = λ t. cc })
  names_by (stays d) m e =
      let i : id_of q m.number ≡ m = ap (λ n. record { site = n; number = m.number }) (sym (d.old m e).0) in
      let left : has_left m rows ≡ is_none (numbered m.number q.records) = subst (λ x. has_left x rows ≡ is_none (numbered m.number q.records)) i (left_of s rows q h.1 m.number (d.old m e).1) in
      record {
        numbered = λ t. absurd (true≢false (sym t ∙ d.tells.comes_so));
        came = λ _. ((d.old m e).0 ∙ sym here, omega (arith, count, (d.old m e).1));
        after = λ t. may_follow_by (may_follow r) (numbered m.number q.records) refl (d.follows m e) (sym left ∙ t);
        gone = λ t. left ∙ ap is_none (d.gone t m e);
      }

-- the law
pub ends_are_ends : (s : Scenario) (x : Run) → IsRunOf s x → TheEnd x.rows
ends_are_ends s x is =
    let each : EachRow x.rows Meets = every_row_by s (the_end s) Meets (λ rows key q r p now d g k h j. names_by s key rows q r p d.at_site k h d.does) x is in
    record {
      numbered = λ before r after e m i t. (each before r after e m i).numbered t;
      came = λ before r after e m i t. (each before r after e m i).came t;
      after = λ before r after e m i t. (each before r after e m i).after t;
      gone = λ before r after e m i t. (each before r after e m i).gone t;
    }
