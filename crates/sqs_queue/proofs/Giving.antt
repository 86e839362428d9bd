-- The giving of a batch, one message after another, and that it is what the definitions give.
use Rattle.std.proofs.Common.{◌≡◌, ℕ, ◌+◌, ◌<◌, Bool, true, false, List, [], ◌∷◌, ◌++◌, Option, Some, None, cond, if◌then◌else◌, length, take, drop, set, map, get_or, arith, refl, subst, sym, ap, ◌∙◌, append_assoc}
use Rattle.std.specs.Prelude.{All, IfSome, IsSome, Ok, find, ◌==◌, ◌≢◌}
use Rattle.std.proofs.lemmas.Bool.Decides.{nat_tests}
use Rattle.std.proofs.lemmas.List.{drop-set-lt, take_more_set, length-set}
use Rattle.std.proofs.lemmas.List.Elements.{All-tail, All-map}
use Rattle.sim_clock.specs.Firsts.{changed}
use Rattle.sqs_message.specs.declared.message.Message.{Message}
use Rattle.sqs_redrive.specs.declared.answers.Got.{Got}
use Rattle.sqs_redrive.specs.declared.transfers.Load.{Load}
use Rattle.sqs_model.specs.Answers.{most_count}
use Rattle.sqs_model.specs.Progress.{Differ}
use Rattle.sqs_model.specs.Queue.{Queue, has_number, numbered, with_change}
use Rattle.sqs_model.specs.Receive.{answered, received, give, give_after, got_first, got_of}
use Rattle.sqs_model.specs.Return.{leaves, released, released_found, released_when, visible_again}
use Rattle.sqs_model.proofs.Counts.{changed_none}
use Rattle.sqs_model.proofs.Chosen.{Stand}
use Rattle.sqs_model.proofs.Numbered.{one_number, other_without}
use Rattle.sqs_model.proofs.Placed.{rest_at}
use Rattle.sqs_queue.specs.Giving.{CanBeGiven, after, gives, gives_all, gives_next, told_of, with_left}

-- another test finds what it found, after a change of the first that a test picks
find_changed_when : {A : Type 0} (p r : A → Bool) (f : A → A) (x : A) (xs : List A) (b : Bool) → p x ≡ b → (b ≡ true → r x ≡ false) → (b ≡ true → r (f x) ≡ false) → find r (changed p f xs) ≡ find r xs → find r (if b then f x ∷ xs else x ∷ changed p f xs) ≡ find r (x ∷ xs)
find_changed_when p r f x xs true e h k ih = ap (λ c. cond c (Some (f x)) (find r xs)) (k refl) ∙ sym (ap (λ c. cond c (Some x) (find r xs)) (h refl))
find_changed_when p r f x xs false e h k ih = ap (λ o. cond (r x) (Some x) o) ih

pub find_changed : {A : Type 0} (p r : A → Bool) (f : A → A) → ((x : A) → p x ≡ true → r x ≡ false) → ((x : A) → p x ≡ true → r (f x) ≡ false) → (xs : List A) → find r (changed p f xs) ≡ find r xs
find_changed p r f h k [] = refl
find_changed p r f h k (x ∷ xs) = find_changed_when p r f x xs (p x) refl (h x) (k x) (find_changed p r f h k xs)

other_changed : (n k : ℕ) (f : Message → Message) (xs : List Message) → ((m : Message) → (f m).number ≡ m.number) → ¬ (k ≡ n) → numbered k (changed (has_number n) f xs) ≡ numbered k xs
other_changed n k f xs same h =
    find_changed (has_number n) (has_number k) f (λ m. one_number n k m h) (λ m e. ap (λ y. y == k) (same m) ∙ one_number n k m h e) xs

-- what a queue keeps of another number as a message comes back
released_when_other : (b : Bool) (q : Queue) (n k : ℕ) (m : Message) → ¬ (k ≡ n) → numbered k (released_when b q n m).0.records ≡ numbered k q.records
released_when_other true q n k m h = other_without n k q.records h
released_when_other false q n k m h = other_changed n k visible_again q.records (λ m. refl) h

released_found_other : (o : Option Message) (q : Queue) (n k : ℕ) → ¬ (k ≡ n) → numbered k (released_found q n o).0.records ≡ numbered k q.records
released_found_other None q n k h = refl
released_found_other (Some m) q n k h = released_when_other (leaves q.settings.policy m) q n k m h

-- the same as it is given
pub gives_other : (q : Queue) (now timeout n k : ℕ) → ¬ (k ≡ n) → numbered k (gives q now timeout n).0.records ≡ numbered k q.records
gives_other q now timeout n k h =
    let taken : Queue = with_change q n (received now timeout) in
    let e : numbered k taken.records ≡ numbered k q.records = other_changed n k (received now timeout) q.records (λ m. refl) h in
    elim (timeout == 0) as (λ b. numbered k (if b then released taken n else (taken, None)).0.records ≡ numbered k q.records) [
      | true ↦ released_found_other (numbered n taken.records) taken n k h ∙ e
      | false ↦ e
    ]

-- and its site
released_when_site : (b : Bool) (q : Queue) (n : ℕ) (m : Message) → (released_when b q n m).0.site ≡ q.site
released_when_site true q n m = refl
released_when_site false q n m = refl

released_found_site : (o : Option Message) (q : Queue) (n : ℕ) → (released_found q n o).0.site ≡ q.site
released_found_site None q n = refl
released_found_site (Some m) q n = released_when_site (leaves q.settings.policy m) q n m

pub gives_site : (q : Queue) (now timeout n : ℕ) → (gives q now timeout n).0.site ≡ q.site
gives_site q now timeout n =
    let taken : Queue = with_change q n (received now timeout) in
    elim (timeout == 0) as (λ b. (if b then released taken n else (taken, None)).0.site ≡ q.site) [
      | true ↦ released_found_site (numbered n taken.records) taken n
      | false ↦ refl
    ]

after_after : (a b : List Got) (x : Queue × List Got) → after a (after b x) ≡ after (a ++ b) x
after_after a b (q, gots) = ap (λ g. (q, g)) (sym (append_assoc a b gots))

after_first : (g : Got) (x : Queue × List Got) → after (g ∷ []) x ≡ got_first g x
after_first g (q, gots) = refl

-- what is told and then given is what the definitions give
given_next :
    (now timeout s : ℕ) (m : Message) (ms : List Message) (x : Queue × Option Load) → x.0.site ≡ s
    → gives_all now timeout (map (told_of s) ms) x.0 ≡ give now timeout ms x.0
    → gives_next (gives_all now timeout (map (told_of s) ms)) (told_of s m) x ≡ give_after (give now timeout ms) m x
given_next now timeout s m ms (q, left) e ih =
    let same : with_left (told_of s m) left ≡ got_of q m left = ap (λ t. with_left (told_of t m) left) (sym e) in
    ap (after (with_left (told_of s m) left ∷ [])) ih ∙ ap (λ g. after (g ∷ []) (give now timeout ms q)) same ∙ after_first (got_of q m left) (give now timeout ms q)

pub gives_all-told : (now timeout s : ℕ) (ms : List Message) (q : Queue) → q.site ≡ s → gives_all now timeout (map (told_of s) ms) q ≡ give now timeout ms q
gives_all-told now timeout s [] q e = refl
gives_all-told now timeout s (m ∷ ms) q e =
    let site : (gives q now timeout m.number).0.site ≡ s = gives_site q now timeout m.number ∙ e in
    given_next now timeout s m ms (gives q now timeout m.number) site (gives_all-told now timeout s ms (gives q now timeout m.number).0 site)

-- after the first of a batch was given, the others can be given
pub can_give_rest : (q after : Queue) (now timeout : ℕ) (left : Option Load) (g : Got) (gots : List Got) → gives q now timeout g.id.number ≡ (after, left) → CanBeGiven q (g ∷ gots) → CanBeGiven after gots
can_give_rest q after now timeout left g gots e h =
    let counted = All-tail (λ o. IfSome (numbered o.id.number q.records) (λ m. m.receives < most_count)) g gots h.counted in
    record {
      apart = h.apart.1;
      counted = λ k d l.
          let n : ℕ = (get_or gots k d).id.number in
          let apart : ¬ (n ≡ g.id.number) = h.apart.0 k d l in
          let same : numbered n after.records ≡ numbered n q.records = ap (λ (x : Queue × Option Load). numbered n x.0.records) (sym e) ∙ gives_other q now timeout g.id.number n apart in
          rw same (counted k d l);
    }

-- a message leaves at once only with a timeout of 0
pub leaves_at_once : (q next : Queue) (now timeout n : ℕ) (left : Option Load) → gives q now timeout n ≡ (next, left) → IsSome left → timeout ≡ 0
leaves_at_once q next now timeout n left given some =
    let taken : Queue = with_change q n (received now timeout) in
    elim (timeout == 0) as (λ b. (timeout == 0) ≡ b → (if b then released taken n else (taken, None)) ≡ (next, left) → timeout ≡ 0) [
      | true ↦ λ zero g. grind (arith, nat_tests)
      | false ↦ λ later g. let none : false ≡ true = subst IsSome (sym (ap (λ (x : Queue × Option Load). x.1) g)) some in cc
    ] refl given

-- a batch given as far as a place
pub record IsGiving (now timeout : ℕ) (whole : Queue × List Got) (count i : ℕ) (q : Queue) (gots : List Got) : Type 0 where
  pub so_far : whole ≡ after (take i gots) (gives_all now timeout (drop i gots) q)
  pub rest : CanBeGiven q (drop i gots)
  pub length : length gots ≡ count

pub giving_more :
    (now timeout : ℕ) (whole : Queue × List Got) (count i : ℕ) (q next : Queue) (gots : List Got) (g : Got) (left : Option Load)
    → i < length gots → g ≡ get_or gots i g → gives q now timeout g.id.number ≡ (next, left)
    → IsGiving now timeout whole count i q gots → IsGiving now timeout whole count (i + 1) next (set gots i (with_left g left))
giving_more now timeout whole count i q next gots g left l e r h =
    let rest = drop (i + 1) gots in
    let told = with_left g left in
    let d : drop i gots ≡ g ∷ rest = rest_at gots i g l e in
    let kept : drop (i + 1) (set gots i told) ≡ rest = drop-set-lt (i + 1) gots i told (omega arith) in
    let first : gives_all now timeout (drop i gots) q ≡ after (told ∷ []) (gives_all now timeout rest next) =
    ap (λ ys. gives_all now timeout ys q) d ∙ ap (gives_next (gives_all now timeout rest) g) r in
    record {
      so_far =
          rw (take_more_set gots i told l, kept)
          (h.so_far ∙ ap (after (take i gots)) first ∙ after_after (take i gots) (told ∷ []) (gives_all now timeout rest next));
      rest = rw kept (can_give_rest q next now timeout left g rest r (rw (← d) h.rest));
      length = length-set gots i told ∙ h.length;
    }

-- what is told of messages that differ, differs
told_all : (site n : ℕ) (ms : List Message) → All (λ m. m.number ≢ n) ms → All (λ g. g.id.number ≢ n) (map (told_of site) ms)
told_all site n ms h = All-map (λ g. g.id.number ≢ n) (told_of site) ms h

told_differ : (site : ℕ) (ms : List Message) → Differ (λ m. m.number) ms → Differ (λ g. g.id.number) (map (told_of site) ms)
told_differ site [] h = tt
told_differ site (m ∷ ms) h = (told_all site m.number ms h.0, told_differ site ms h.1)

-- what a queue tells of can be given
pub can_be_given : (q : Queue) (ms : List Message) → Stand q ms → Differ (λ m. m.number) ms → All (λ m. m.receives < most_count) ms → CanBeGiven q (map (told_of q.site) ms)
can_be_given q ms found apart below =
    record {
      apart = told_differ q.site ms apart;
      counted =
          All-map (λ g. IfSome (numbered g.id.number q.records) (λ m. m.receives < most_count)) (told_of q.site) ms
          (λ k d l. rw (found k d l) (below k d l));
    }

-- where there is no message of a number, nothing is given
pub gives_none : (q : Queue) (now timeout n : ℕ) → numbered n q.records ≡ None → gives q now timeout n ≡ (q, None)
gives_none q now timeout n e =
    let taken : Queue = with_change q n (received now timeout) in
    let same : taken ≡ q = ap (λ r. record q { records = r }) (changed_none (has_number n) (received now timeout) q.records e) in
    elim (timeout == 0) as (λ b. (if b then released taken n else (taken, None)) ≡ (q, None)) [
      | true ↦ ap (λ t. released t n) same ∙ ap (released_found q n) e
      | false ↦ ap (λ t. (t, None)) same
    ]

-- a batch that was told of and then given is what the definitions give
pub answered_given :
    (q next : Queue) (now wait : ℕ) (ms : List Message) (batch gots : List Got) → batch ≡ map (told_of q.site) ms → gives_all now wait batch q ≡ (next, gots) → answered (give now wait ms q) ≡ (Ok gots, next)
answered_given q next now wait ms batch gots told given =
    ap answered (sym (gives_all-told now wait q.site ms q refl) ∙ ap (λ b. gives_all now wait b q) (sym told) ∙ given)
