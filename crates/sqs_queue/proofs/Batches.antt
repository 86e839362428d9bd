-- What a batch tells of, message by message.
use Rattle.std.proofs.Common.{◌≡◌, ℕ, ◌+◌, ◌<◌, List, [], ◌∷◌, ◌++◌, Option, None, Some, length, take, drop, map, get_or, arith, refl, sym, ap, ◌∙◌, append-nil}
use Rattle.std.specs.List.{cons_option}
use Rattle.std.specs.Prelude.{All, Any}
use Rattle.std.proofs.lemmas.List.{get_or_at, length-append, map_push}
use Rattle.std.proofs.lemmas.List.Elements.{All-push}
use Rattle.sqs_message.specs.declared.message.Message.{Message}
use Rattle.sqs_redrive.specs.declared.answers.Got.{Got}
use Rattle.sqs_model.specs.Answers.{most_count}
use Rattle.sqs_model.specs.Queue.{numbered}
use Rattle.sqs_queue.specs.Giving.{told_of}
use Rattle.sqs_queue.specs.Picked.{messages_of}
use Rattle.sqs_queue.proofs.Numbers.{numbers_from, numbers_more, numbers_split}

-- a batch so far: what it tells, and that each may be received once more
pub record IsTold (site : ℕ) (records : List Message) (numbers : List ℕ) (i : ℕ) (batch : List Got) : Type 0 where
  pub told : batch ≡ map (told_of site) (messages_of records (take i numbers))
  pub below : All (λ m. m.receives < most_count) (messages_of records (take i numbers))

-- one more
pub told_more :
    (site : ℕ) (records : List Message) (numbers : List ℕ) (i : ℕ) (batch : List Got) (m : Message) → i < length numbers → numbered (get_or numbers i 0) records ≡ Some m → m.receives < most_count
    → IsTold site records numbers i batch → IsTold site records numbers (i + 1) (batch ++ told_of site m ∷ [])
told_more site records numbers i batch m l found r h =
    let front = messages_of records (take i numbers) in
    let more : messages_of records (take (i + 1) numbers) ≡ front ++ m ∷ [] = numbers_more records numbers i l ∙ ap (λ (o : Option Message). front ++ cons_option o []) found in
    record {
      told = rw more (ap (λ b. b ++ told_of site m ∷ []) h.told ∙ sym (map_push (told_of site) front m));
      below = rw more (All-push (λ x. x.receives < most_count) front m h.below r);
    }

-- a number that is not there
pub told_none :
    (site : ℕ) (records : List Message) (numbers : List ℕ) (i : ℕ) (batch : List Got) → i < length numbers → numbered (get_or numbers i 0) records ≡ None
    → IsTold site records numbers i batch → IsTold site records numbers (i + 1) batch
told_none site records numbers i batch l none h =
    let front = messages_of records (take i numbers) in
    let same : messages_of records (take (i + 1) numbers) ≡ front = numbers_more records numbers i l ∙ ap (λ (o : Option Message). front ++ cons_option o []) none ∙ append-nil front in
    record { told = rw same h.told; below = rw same h.below }

-- a message at the limit is one of those that it is to tell of
pub told_limit :
    (records : List Message) (numbers : List ℕ) (i : ℕ) (m : Message) → i < length numbers → numbered (get_or numbers i 0) records ≡ Some m → m.receives ≡ most_count
    → Any (λ x. x.receives ≡ most_count) (messages_of records numbers)
told_limit records numbers i m l found r =
    let front = messages_of records (take i numbers) in
    let back = messages_of records (drop (i + 1) numbers) in
    let from : messages_of records (drop i numbers) ≡ m ∷ back = numbers_from records numbers i l ∙ ap (λ (o : Option Message). cons_option o back) found in
    let whole : messages_of records numbers ≡ front ++ m ∷ back = numbers_split records numbers i ∙ ap (λ ys. front ++ ys) from in
    let long : length (messages_of records numbers) ≡ length front + length (m ∷ back) = ap length whole ∙ length-append front (m ∷ back) in
    let within : length front < length (messages_of records numbers) = omega (arith, long) in
    let there : get_or (messages_of records numbers) (length front) m ≡ m = ap (λ ys. get_or ys (length front) m) whole ∙ get_or_at front m back m (length front) refl in
    (length front, m, within, there, r)
