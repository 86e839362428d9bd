-- The taking of a queue's messages by their numbers, one after another.
use Rattle.std.proofs.Common.{◌≡◌, ℕ, ◌+◌, List, [], ◌∷◌, ◌++◌, Option, Some, None, true, length, drop, get_or, arith, refl, subst, sym, ap, ◌∙◌, append_assoc, ◌<◌, ◌≤◌}
use Rattle.std.specs.List.{cons_option}
use Rattle.std.specs.Prelude.{All, suc, zero, ◌≢◌}
use Rattle.std.proofs.lemmas.List.{drop_more, length-append}
use Rattle.std.proofs.lemmas.List.Elements.{All-head, All-tail}
use Rattle.sqs_message.specs.declared.message.Message.{Message}
use Rattle.sqs_redrive.specs.declared.transfers.Load.{Load}
use Rattle.sqs_redrive.specs.declared.transfers.Load.TheVariants as loads
use Rattle.sqs_model.specs.Progress.{Differ}
use Rattle.sqs_model.specs.Queue.{Entry, IsFramed, Queue, numbered, taken_out}
use Rattle.sqs_model.specs.Task.{Taken, destination, take_each, taken_one}
use Rattle.sqs_model.proofs.Numbered.{other_without}
use Rattle.sqs_queue.specs.Picked.{messages_of}
use Rattle.sqs_queue.proofs.Numbers.{found_number}

-- what was taken, before what is taken
abbrev pub taken_before : List (ℕ × Load) → Taken → Taken
taken_before taken t = record t { loads = taken ++ t.loads }

-- what a move carries of a message of a site
abbrev pub moved_from : ℕ → Message → Load
moved_from site m = loads.Move (record { site = site; number = m.number }) m.group m.origin m.body

-- the taking of a message and of others, by where it goes
abbrev takes_when : Queue → Option ℕ → Message → List Message → Option ℕ → Taken
takes_when q to m ms o =
    elim o as (λ _. Taken) [
      | None ↦ record { queue = q; loads = []; stuck = true }
      | Some d ↦ taken_one q m d (take_each (taken_out q m.number) to ms)
    ]

takes_found : (q : Queue) (to : Option ℕ) (m : Message) (ms : List Message) (d : ℕ) → destination to m ≡ Some d → take_each q to (m ∷ ms) ≡ taken_one q m d (take_each (taken_out q m.number) to ms)
takes_found q to m ms d e = ap (takes_when q to m ms) e

before_one : (taken : List (ℕ × Load)) (site : ℕ) (q : Queue) (m : Message) (d : ℕ) (t : Taken) → q.site ≡ site → taken_before taken (taken_one q m d t) ≡ taken_before (taken ++ (d, moved_from site m) ∷ []) t
before_one taken site q m d t e =
    ap (λ s. record t { loads = taken ++ (d, moved_from s m) ∷ t.loads }) e
    ∙ ap (λ l. record t { loads = l }) (sym (append_assoc taken ((d, moved_from site m) ∷ []) t.loads))

-- messages of other numbers are found as before, after one left
others_stay : (q : Queue) (n : ℕ) (numbers : List ℕ) → All (λ k. k ≢ n) numbers → messages_of (taken_out q n).records numbers ≡ messages_of q.records numbers
others_stay q n [] h = refl
others_stay q n (k ∷ ks) h =
    let P : ℕ → Type 0 = λ k. k ≢ n in
    ap (λ (o : Option Message). cons_option o (messages_of (taken_out q n).records ks)) (other_without n k q.records (All-head P k ks h))
    ∙ ap (cons_option (numbered k q.records)) (others_stay q n ks (All-tail P k ks h))

-- numbers that differ, from a place on: the first of them and the others
pub differ_from : (numbers : List ℕ) (i : ℕ) → i < length numbers → Differ (λ n. n) numbers → All (λ k. k ≢ get_or numbers i 0) (drop (i + 1) numbers)
differ_from [] i l h = absurd (omega (arith, l))
differ_from (n ∷ ns) zero l h = h.0
differ_from (n ∷ ns) (suc i) l h =
    let e : suc i + 1 ≡ suc (i + 1) = omega arith in
    subst (λ j. All (λ k. k ≢ get_or (n ∷ ns) (suc i) 0) (drop j (n ∷ ns))) (sym e) (differ_from ns i (omega (arith, l)) h.1)

-- a taking as far as a number
pub record IsTaking (whole : Taken) (home : ℕ) (to : Option ℕ) (numbers : List ℕ) (i : ℕ) (q : Queue) (taken : List (ℕ × Load)) : Type 0 where
  pub site : q.site ≡ home
  pub so_far : whole ≡ taken_before taken (take_each q to (messages_of q.records (drop i numbers)))
  pub room : length taken ≤ i

module _ (whole : Taken) (site : ℕ) (to : Option ℕ) (numbers : List ℕ) (i : ℕ) (q : Queue) (taken : List (ℕ × Load)) where
  from_here : i < length numbers → messages_of q.records (drop i numbers) ≡ cons_option (numbered (get_or numbers i 0) q.records) (messages_of q.records (drop (i + 1) numbers))
  from_here l = ap (messages_of q.records) (drop_more numbers i 0 l)

  -- a number that is not there
  pub taking_none : i < length numbers → numbered (get_or numbers i 0) q.records ≡ None → IsTaking whole site to numbers i q taken → IsTaking whole site to numbers (i + 1) q taken
  taking_none l none h =
      let rest = messages_of q.records (drop (i + 1) numbers) in
      let same : messages_of q.records (drop i numbers) ≡ rest = from_here l ∙ ap (λ (o : Option Message). cons_option o rest) none in
      record {
        site = h.site;
        so_far = h.so_far ∙ ap (λ ms. taken_before taken (take_each q to ms)) same;
        room = omega (arith, h.room);
      }

  module _ (m : Message) (l : i < length numbers) (found : numbered (get_or numbers i 0) q.records ≡ Some m) (h : IsTaking whole site to numbers i q taken) where
    meets : messages_of q.records (drop i numbers) ≡ m ∷ messages_of q.records (drop (i + 1) numbers)
    meets = from_here l ∙ ap (λ (o : Option Message). cons_option o (messages_of q.records (drop (i + 1) numbers))) found

    -- one that is taken
    pub taking_more : (d : ℕ) → destination to m ≡ Some d → Differ (λ n. n) numbers → IsTaking whole site to numbers (i + 1) (taken_out q (get_or numbers i 0)) (taken ++ (d, moved_from site m) ∷ [])
    taking_more d to_there apart =
        let n : ℕ = get_or numbers i 0 in
        let rest : List Message = messages_of q.records (drop (i + 1) numbers) in
        let number : m.number ≡ n = found_number n q.records m found in
        let others : messages_of (taken_out q n).records (drop (i + 1) numbers) ≡ rest = others_stay q n (drop (i + 1) numbers) (differ_from numbers i l apart) in
        let one : take_each q to (messages_of q.records (drop i numbers)) ≡ taken_one q m d (take_each (taken_out q n) to (messages_of (taken_out q n).records (drop (i + 1) numbers))) =
        ap (take_each q to) meets ∙ takes_found q to m rest d to_there ∙ ap (λ k. taken_one q m d (take_each (taken_out q k) to rest)) number
        ∙ ap (λ ms. taken_one q m d (take_each (taken_out q n) to ms)) (sym others) in
        record {
          site = h.site;
          so_far = h.so_far ∙ ap (taken_before taken) one ∙ before_one taken site q m d (take_each (taken_out q n) to (messages_of (taken_out q n).records (drop (i + 1) numbers))) h.site;
          room = let more : length (taken ++ (d, moved_from site m) ∷ []) ≡ length taken + 1 = length-append taken ((d, moved_from site m) ∷ []) in omega (arith, more, h.room);
        }

pub none_some : {A : Type 0} {B : Type 0} (a : A) → None ≡ Some a → B
none_some a e = cc

-- entries have no part in it
pub take_entries : (es : List Entry) (to : Option ℕ) (ms : List Message) (q : Queue) → take_each (record q { entries = es }) to ms ≡ record (take_each q to ms) { queue = record (take_each q to ms).queue { entries = es } }
take_entries es to [] q = refl
take_entries es to (m ∷ ms) q = by (destination to m) (take_entries es to ms (taken_out q m.number))
  where
    by :
        (o : Option ℕ) → take_each (record (taken_out q m.number) { entries = es }) to ms ≡ record (take_each (taken_out q m.number) to ms) { queue = record (take_each (taken_out q m.number) to ms).queue { entries = es } }
        → takes_when (record q { entries = es }) to m ms o ≡ record (takes_when q to m ms o) { queue = record (takes_when q to m ms o).queue { entries = es } }
    by None ih = refl
    by (Some d) ih = ap (taken_one q m d) ih

-- number and settings stay
pub take_framed : (to : Option ℕ) (ms : List Message) (q : Queue) → IsFramed q (take_each q to ms).queue
take_framed to [] q = record { site = refl; settings = refl }
take_framed to (m ∷ ms) q = by (destination to m) (take_framed to ms (taken_out q m.number))
  where
    by : (o : Option ℕ) → IsFramed (taken_out q m.number) (take_each (taken_out q m.number) to ms).queue → IsFramed q (takes_when q to m ms o).queue
    by None ih = record { site = refl; settings = refl }
    by (Some d) ih = record { site = ih.site; settings = ih.settings }
