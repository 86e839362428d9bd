-- Marks that are taken away along ways.
use Rattle.std.proofs.Common.{Bool, List, [], arith, ap, false, length, refl, set, sym, true, true≢false, zero, suc, zip, ℕ, ◌+◌, ◌<◌, ◌∙◌, ◌∷◌, ◌≡◌, ◌≢◌}
use Rattle.std.specs.List.{enumerate_from, range_with_len}
use Rattle.std.proofs.lemmas.List.{get_or-set_other}
use Rattle.sim_engine.specs.declared.edge.Edge.{Edge}
use Rattle.sqs_laws.specs.Reach.{is_marked}
use Rattle.sqs_rehearsal.specs.Reaching.{AreMarked, marked_count}

-- a mark that is left was there before
pub still_marked : (marks : List Bool) (k n : ℕ) → is_marked (set marks k false) n ≡ true → is_marked marks n ≡ true
still_marked [] k n h = h
still_marked (m ∷ marks) zero zero h = absurd (true≢false (sym h))
still_marked (m ∷ marks) zero (suc n) h = h
still_marked (m ∷ marks) (suc k) zero h = h
still_marked (m ∷ marks) (suc k) (suc n) h = still_marked marks k n h

unmarked : (b : Bool) → (b ≢ true) → b ≡ false
unmarked true f = absurd (f refl)
unmarked false f = refl

-- none of some queues to which no way leads loses its mark
pub none_needed : (among : ℕ → Bool) (marks : List Bool) (way : Edge) → (among way.from ≡ false → among way.to ≡ false)
    → AreMarked among marks → is_marked marks way.from ≡ false → AreMarked among (set marks way.to false)
none_needed among marks way leads all none n h =
    let away : among way.to ≡ false = leads (unmarked (among way.from) (λ t. true≢false (sym (all way.from t) ∙ none))) in
    get_or-set_other marks way.to n false false (λ e. true≢false (sym h ∙ ap among e ∙ away)) ∙ all n h

-- there is one mark less
pub count_falls : (marks : List Bool) (k : ℕ) → is_marked marks k ≡ true → marked_count (set marks k false) < marked_count marks
count_falls [] k h = absurd (true≢false (sym h))
count_falls (true ∷ marks) zero h = omega arith
count_falls (false ∷ marks) zero h = absurd (true≢false (sym h))
count_falls (true ∷ marks) (suc k) h = let l : marked_count (set marks k false) < marked_count marks = count_falls marks k h in omega arith
count_falls (false ∷ marks) (suc k) h = count_falls marks k h

-- a list with its numbers
pub numbered : {A : Type 0} (n : ℕ) (xs : List A) → zip (range_with_len n (length xs)) xs ≡ enumerate_from n xs
numbered n [] = refl
numbered n (x ∷ xs) = ap (λ zs. (n, x) ∷ zs) (numbered (n + 1) xs)
