-- The queues of which figures are asked for, one after another.
use Rattle.std.proofs.Common.{◌≡◌, ℕ, suc, zero, ◌+◌, ◌<◌, ◌∷◌, ◌++◌, ◌∙◌, [], List, ap, get_or, length, map, refl, sym, take, zip, arith}
use Rattle.std.proofs.lemmas.List.{take_all, take_more}
use Rattle.sim_report.specs.declared.asked.QueueAsked.{QueueAsked}
use Rattle.sqs_redrive.specs.declared.settings.QueueSettings.{QueueSettings}
use Rattle.sqs_rehearsal.specs.Wanted.{queue_asked}

-- all of them
abbrev pub all_asked : List (List ℕ) → List QueueSettings → List QueueAsked
all_asked names settings = map queue_asked (zip names settings)

length-asked : (names : List (List ℕ)) (settings : List QueueSettings) → length names ≡ length settings → length (all_asked names settings) ≡ length settings
length-asked [] [] e = refl
length-asked [] (s ∷ ss) e = absurd (omega arith)
length-asked (n ∷ ns) [] e = absurd (omega arith)
length-asked (n ∷ ns) (s ∷ ss) e =
    let rest = length-asked ns ss (omega arith) in
    omega arith

asked-at : (names : List (List ℕ)) (settings : List QueueSettings) (i : ℕ) (n : List ℕ) (s : QueueSettings) (d : QueueAsked) → i < length names → i < length settings
    → get_or (all_asked names settings) i d ≡ queue_asked (get_or names i n, get_or settings i s)
asked-at [] ss i n s d h g = absurd (omega arith)
asked-at (x ∷ xs) [] i n s d h g = absurd (omega arith)
asked-at (x ∷ xs) (y ∷ ys) zero n s d h g = refl
asked-at (x ∷ xs) (y ∷ ys) (suc i) n s d h g = asked-at xs ys i n s d (omega arith) (omega arith)

-- one more of them
pub asked-more : (names : List (List ℕ)) (settings : List QueueSettings) (i : ℕ) (n : List ℕ) (s : QueueSettings)
    → length names ≡ length settings → i < length settings
    → take (i + 1) (all_asked names settings) ≡ take i (all_asked names settings) ++ queue_asked (get_or names i n, get_or settings i s) ∷ []
asked-more names settings i n s e h =
    let d = queue_asked (n, s) in
    let long = length-asked names settings e in
    take_more (all_asked names settings) i d (omega arith)
    ∙ ap (λ (q : QueueAsked). take i (all_asked names settings) ++ q ∷ []) (asked-at names settings i n s d (omega arith) h)

-- the same as one more is put behind those before
pub asked-at_end : (names : List (List ℕ)) (settings : List QueueSettings) (i : ℕ) (n : List ℕ) (s : QueueSettings)
    → length names ≡ length settings → i < length settings → (name : List ℕ) → name ≡ get_or names i n
    → (old : List QueueAsked) → old ≡ take i (all_asked names settings)
    → (new : List QueueAsked) → new ≡ old ++ record { name = name; quota = (get_or settings i s).in_flight_limit } ∷ []
    → new ≡ take (i + 1) (all_asked names settings)
asked-at_end names settings i n s e h name is old before new pushed =
    let named : List ℕ → QueueAsked = λ x. record { name = x; quota = (get_or settings i s).in_flight_limit } in
    pushed ∙ ap (λ (qs : List QueueAsked). qs ++ named name ∷ []) before
    ∙ ap (λ (x : List ℕ). take i (all_asked names settings) ++ named x ∷ []) is
    ∙ sym (asked-more names settings i n s e h)

-- the whole
pub asked-all : (names : List (List ℕ)) (settings : List QueueSettings) (i : ℕ) → length names ≡ length settings → length settings ≡ i
    → take i (all_asked names settings) ≡ all_asked names settings
asked-all names settings i e h =
    let long = length-asked names settings e in
    take_all i (all_asked names settings) (omega arith)
