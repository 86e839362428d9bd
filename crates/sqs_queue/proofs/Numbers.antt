-- Messages by their numbers.
use Rattle.std.proofs.Common.{◌≡◌, ℕ, ◌+◌, ◌<◌, Bool, true, false, List, [], ◌∷◌, ◌++◌, Option, Some, cond, length, take, drop, map, get_or, refl, subst, sym, ap, ◌∙◌}
use Rattle.std.specs.List.{cons_option, filter_map}
use Rattle.std.specs.Prelude.{All, ◌≢◌}
use Rattle.std.proofs.lemmas.Bool.{eqb-true}
use Rattle.std.proofs.lemmas.List.{drop_more, take-append-drop, take_more}
use Rattle.std.proofs.lemmas.List.Elements.{All-head, All-map, All-tail, filter_map-append}
use Rattle.sqs_message.specs.declared.message.Message.{Message}
use Rattle.sqs_model.specs.Available.{available}
use Rattle.sqs_model.specs.Progress.{Ascends, Differ}
use Rattle.sqs_model.specs.Queue.{Queue, has_number, numbered}
use Rattle.sqs_model.proofs.Chosen.{first_apart, first_stand}
use Rattle.sqs_queue.specs.Picked.{messages_of}

-- what is found under a number has it
found_when : (n : ℕ) (x m : Message) (rest : Option Message) (b : Bool) → has_number n x ≡ b → (rest ≡ Some m → m.number ≡ n) → cond b (Some x) rest ≡ Some m → m.number ≡ n
found_when n x m rest true h ih e = let same : x ≡ m = cc in ap (λ (y : Message). y.number) (sym same) ∙ eqb-true x.number n h
found_when n x m rest false h ih e = ih e

pub found_number : (n : ℕ) (records : List Message) (m : Message) → numbered n records ≡ Some m → m.number ≡ n
found_number n [] m e = cc
found_number n (x ∷ xs) m e = found_when n x m (numbered n xs) (has_number n x) refl (found_number n xs m) e

-- messages are those of their numbers, where each is found under its own
pub of_numbers : (records ms : List Message) → All (λ m. numbered m.number records ≡ Some m) ms → messages_of records (map (λ m. m.number) ms) ≡ ms
of_numbers records [] h = refl
of_numbers records (m ∷ ms) h =
    let P : Message → Type 0 = λ x. numbered x.number records ≡ Some x in
    ap (λ (o : Option Message). cons_option o (messages_of records (map (λ x. x.number) ms))) (All-head P m ms h)
    ∙ ap (λ ys. m ∷ ys) (of_numbers records ms (All-tail P m ms h))

-- one more number
pub numbers_more : (records : List Message) (numbers : List ℕ) (i : ℕ) → i < length numbers → messages_of records (take (i + 1) numbers) ≡ messages_of records (take i numbers) ++ cons_option (numbered (get_or numbers i 0) records) []
numbers_more records numbers i l =
    let h : ℕ → Option Message = λ n. numbered n records in
    ap (messages_of records) (take_more numbers i 0 l) ∙ filter_map-append h (take i numbers) (get_or numbers i 0 ∷ [])

-- the numbers from one on
pub numbers_from : (records : List Message) (numbers : List ℕ) (i : ℕ) → i < length numbers → messages_of records (drop i numbers) ≡ cons_option (numbered (get_or numbers i 0) records) (messages_of records (drop (i + 1) numbers))
numbers_from records numbers i l = ap (messages_of records) (drop_more numbers i 0 l)

-- those before a number, and from it on
pub numbers_split : (records : List Message) (numbers : List ℕ) (i : ℕ) → messages_of records numbers ≡ messages_of records (take i numbers) ++ messages_of records (drop i numbers)
numbers_split records numbers i =
    let h : ℕ → Option Message = λ n. numbered n records in
    ap (filter_map h) (sym (take-append-drop i numbers)) ∙ filter_map-append h (take i numbers) (drop i numbers)

-- the numbers of the first messages that a queue may give stand for these
pub chosen_messages :
    (q : Queue) (hosts most : ℕ) (numbers : List ℕ) → Ascends (λ m. m.number) 0 q.records → numbers ≡ map (λ m. m.number) (take most (available q hosts))
    → messages_of q.records numbers ≡ take most (available q hosts)
chosen_messages q hosts most numbers ordered e =
    ap (messages_of q.records) e ∙ of_numbers q.records (take most (available q hosts)) (first_stand q hosts most ordered)

-- and differ
differ_map : (ms : List Message) → Differ (λ m. m.number) ms → Differ (λ n. n) (map (λ m. m.number) ms)
differ_map [] h = tt
differ_map (m ∷ ms) h = (All-map (λ n. n ≢ m.number) (λ x. x.number) ms h.0, differ_map ms h.1)

pub chosen_differ :
    (q : Queue) (hosts most : ℕ) (numbers : List ℕ) → Ascends (λ m. m.number) 0 q.records → numbers ≡ map (λ m. m.number) (take most (available q hosts)) → Differ (λ n. n) numbers
chosen_differ q hosts most numbers ordered e =
    subst (λ (ns : List ℕ). Differ (λ n. n) ns) (sym e) (differ_map (take most (available q hosts)) (first_apart q hosts most ordered))
