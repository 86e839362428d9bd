-- The three parts of a receive's messages.
use Rattle.std.proofs.Common.{false, true, IfNone, IfSome, IsSome, List, MatchOption, None, OnSome, Option, Some, [], add-one, ap, arith, drop, get_or, length, option_to_list, refl, suc, sym, take, ℕ, ◌↔◌, ◌++◌, ◌+◌, ◌-◌, ◌<◌, ◌∙◌, ◌∷◌, ◌≡◌, ◌≤◌}
use Rattle.std.specs.Borrow.{Bor}
use Rattle.std.specs.List.{remove}
use Rattle.std.specs.Option.{is_some, option_copied}
use Rattle.std.proofs.Math.Seq.{drop-append-add, drop-append_seam, take-append_seam}
use Rattle.std.proofs.Math.ListN.{drop_of_length-le}
use Rattle.std.proofs.lemmas.List.{append-nil, append_assoc, drop-drop, drop_more, length-append, length-drop, length-take-le, take-append-drop}
use Rattle.sqs_redrive.specs.declared.answers.Got.{Got}
use Rattle.sim_actor.specs.Holdings.{Holding, first_of}

-- what follows where nothing was taken
pub on_none : {A B : Type 0} (o : Option Got) → (A → B) → IfNone o A → IfNone o B
on_none None f h = f h
on_none (Some g) f h = h

-- messages of which the first have failed, the next are done, and the others are held
abbrev pub parted : ℕ → ℕ → List Got → Holding
parted failed done gots = record { failed = take failed gots; done = take done (drop failed gots); held = drop (failed + done) gots }

-- three parts one behind the other are these parts
pub parts_are : (f d h gots : List Got) → gots ≡ f ++ (d ++ h) → parted (length f) (length d) gots ≡ record { failed = f; done = d; held = h }
parts_are f d h gots is =
    let failed : take (length f) gots ≡ f = rw is (take-append_seam f (d ++ h)) in
    let after : drop (length f) gots ≡ d ++ h = rw is (drop-append_seam f (d ++ h)) in
    let done : take (length d) (drop (length f) gots) ≡ d = rw after (take-append_seam d h) in
    let held : drop (length f + length d) gots ≡ h = rw is (drop-append-add f (d ++ h) (length d) ∙ drop-append_seam d h) in
    rw (failed, done, held) refl

-- with their lengths known
pub parted_is : (failed done : ℕ) (f d h gots : List Got) → length f ≡ failed → length d ≡ done → gots ≡ f ++ (d ++ h) → parted failed done gots ≡ record { failed = f; done = d; held = h }
parted_is failed done f d h gots a b is = rw (← a, ← b) (parts_are f d h gots is)

-- the first of a list is the first of the first n of it
take_first : (n : ℕ) (g : Got) (gs xs : List Got) → 1 ≤ n → xs ≡ g ∷ gs → take n xs ≡ g ∷ take (n - 1) gs
take_first n g gs xs some is =
    let one : n ≡ suc (n - 1) = omega arith in
    rw is (ap (λ (k : ℕ). take k (g ∷ gs)) one)

-- a list without the one behind some others
removed_at : (f : List Got) (g : Got) (gs gots : List Got) (n : ℕ) → length f ≡ n → gots ≡ f ++ g ∷ gs → remove gots n ≡ f ++ gs
removed_at f g gs gots n count is =
    let before : take (length f) gots ≡ f = rw is (take-append_seam f (g ∷ gs)) in
    let after : drop (length f + 1) gots ≡ gs = rw is (drop-append-add f (g ∷ gs) 1) in
    rw (← count, ← add-one) (rw (before, after) refl)

-- messages and their parts
module _ (failed done : ℕ) (gots : List Got) (within : failed + done ≤ length gots) where
  abbrev pub now : Holding
  now = parted failed done gots

  pub failed_length : length now.failed ≡ failed
  failed_length = length-take-le failed gots (omega arith)

  pub done_length : length now.done ≡ done
  done_length = length-take-le done (drop failed gots) (omega (arith, length-drop failed gots))

  pub all_parts : gots ≡ now.failed ++ (now.done ++ now.held)
  all_parts =
      let rest : now.done ++ now.held ≡ drop failed gots =
      ap (λ (xs : List Got). now.done ++ xs) (sym (drop-drop done failed gots)) ∙ take-append-drop done (drop failed gots) in
      sym (ap (λ (xs : List Got). now.failed ++ xs) rest ∙ take-append-drop failed gots)

  -- one more is done
  pub one_served : (g : Got) (gs : List Got) → now.held ≡ g ∷ gs → parted failed (done + 1) gots ≡ record now { done = now.done ++ g ∷ []; held = gs }
  one_served g gs e =
      parted_is failed (done + 1) now.failed (now.done ++ g ∷ []) gs gots failed_length (length-append now.done (g ∷ []) ∙ ap (λ (n : ℕ). n + 1) done_length)
      (all_parts ∙ ap (λ (xs : List Got). now.failed ++ (now.done ++ xs)) e ∙ ap (λ (xs : List Got). now.failed ++ xs) (sym (append_assoc now.done (g ∷ []) gs)))

  -- the first ones up to one more have failed
  pub one_failed : (g : Got) (gs : List Got) → now.held ≡ g ∷ gs → parted (failed + (done + 1)) 0 gots ≡ record { failed = now.failed ++ (now.done ++ g ∷ []); done = []; held = gs }
  one_failed g gs e =
      let first : List Got = now.failed ++ (now.done ++ g ∷ []) in
      let count : length first ≡ failed + (done + 1) = omega (arith, length-append now.failed (now.done ++ g ∷ []), length-append now.done (g ∷ []), failed_length, done_length) in
      parted_is (failed + (done + 1)) 0 first [] gs gots count refl
      (all_parts ∙ ap (λ (xs : List Got). now.failed ++ (now.done ++ xs)) e ∙ ap (λ (xs : List Got). now.failed ++ xs) (sym (append_assoc now.done (g ∷ []) gs)) ∙ sym (append_assoc now.failed (now.done ++ g ∷ []) gs))

  -- all have failed
  pub all_failed : parted (length gots) 0 gots ≡ record { failed = now.failed ++ (now.done ++ now.held); done = []; held = [] }
  all_failed = parted_is (length gots) 0 (now.failed ++ (now.done ++ now.held)) [] [] gots (ap length (sym all_parts)) refl (all_parts ∙ sym (append-nil (now.failed ++ (now.done ++ now.held))))

  -- the others are let go
  pub others_gone : parted failed 0 (take failed gots) ≡ record now { done = []; held = [] }
  others_gone = parted_is failed 0 now.failed [] [] (take failed gots) failed_length refl (sym (append-nil now.failed))

  -- what the first of those that are held leaves
  pub held_removed : (g : Got) (gs : List Got) → now.held ≡ g ∷ gs → parted failed done (remove gots (failed + done)) ≡ record now { held = gs }
  held_removed g gs e =
      let both : List Got = now.failed ++ now.done in
      let count : length both ≡ failed + done = omega (arith, length-append now.failed now.done, failed_length, done_length) in
      let all : gots ≡ both ++ g ∷ gs =
      all_parts ∙ ap (λ (xs : List Got). now.failed ++ (now.done ++ xs)) e ∙ sym (append_assoc now.failed now.done (g ∷ gs)) in
      let left : remove gots (failed + done) ≡ both ++ gs = removed_at both g gs gots (failed + done) count all in
      parted_is failed done now.failed now.done gs (remove gots (failed + done)) failed_length done_length (left ∙ append_assoc now.failed now.done gs)

  -- what the first of those that are done leaves
  pub done_removed : (g : Got) (gs : List Got) → now.done ≡ g ∷ gs → parted failed (done - 1) (remove gots failed) ≡ record now { done = gs }
  done_removed g gs e =
      let count : length gs ≡ done - 1 = let one : length (g ∷ gs) ≡ done = ap length (sym e) ∙ done_length in omega arith in
      let all : gots ≡ now.failed ++ g ∷ (gs ++ now.held) = all_parts ∙ ap (λ (xs : List Got). now.failed ++ (xs ++ now.held)) e in
      parted_is failed (done - 1) now.failed gs now.held (remove gots failed) failed_length count (removed_at now.failed g (gs ++ now.held) gots failed failed_length all)

  -- what the first of those that failed leaves
  pub failed_removed : (g : Got) (gs others : List Got) → now.failed ≡ g ∷ gs → gots ≡ g ∷ others → parted (failed - 1) done others ≡ record now { failed = gs }
  failed_removed g gs others e first =
      let count : length gs ≡ failed - 1 = let one : length (g ∷ gs) ≡ failed = ap length (sym e) ∙ failed_length in omega arith in
      let all : g ∷ others ≡ g ∷ (gs ++ (now.done ++ now.held)) = sym first ∙ all_parts ∙ ap (λ (xs : List Got). xs ++ (now.done ++ now.held)) e in
      parted_is (failed - 1) done gs now.done now.held others count done_length cc

  -- the list from an index on, by what is there
  from_index : (n : ℕ) (g : Got) → n < length gots → g ≡ get_or gots n g → drop n gots ≡ g ∷ drop (n + 1) gots
  from_index n g l e = drop_more gots n g l ∙ ap (λ (x : Got). x ∷ drop (n + 1) gots) (sym e)

  none_beyond : (n len : ℕ) → len ≡ length gots → (n < len → ⊥) → length gots ≤ n
  none_beyond n len all h = grind arith

  -- the first of those that are held is taken
  pub held_taken :
      (len : ℕ) (o : Option Got) (left : List Got) → len ≡ length gots → (IsSome o ↔ (failed + done < len)) → OnSome o (left ≡ remove gots (failed + done)) → IfSome o (λ y. y ≡ get_or gots (failed + done) y)
      → IfNone o (left ≡ gots) → MatchOption o ((now.held ≡ []) × (parted failed done left ≡ now)) (λ got. now ≡ record (parted failed done left) { held = got ∷ (parted failed done left).held })
  held_taken len None left all there is at same =
      (drop_of_length-le gots (none_beyond (failed + done) len all (λ h. let none = there.1 h in cc)), ap (parted failed done) same)
  held_taken len (Some g) left all there is at same =
      let held : now.held ≡ g ∷ drop (failed + done + 1) gots = from_index (failed + done) g (omega (arith, there.0 refl)) at in
      let rest : parted failed done left ≡ record now { held = drop (failed + done + 1) gots } = rw is (held_removed g (drop (failed + done + 1) gots) held) in
      ap (λ (xs : List Got). record now { held = xs }) held ∙ ap (λ (h : Holding). record h { held = g ∷ h.held }) (sym rest)

  -- the first of those that are done is taken
  pub done_taken :
      (len : ℕ) (o : Option Got) (left : List Got) → len ≡ length gots → 1 ≤ done → (IsSome o ↔ (failed < len)) → OnSome o (left ≡ remove gots failed) → IfSome o (λ y. y ≡ get_or gots failed y)
      → MatchOption o ((now.done ≡ []) × (parted failed (done - 1) left ≡ now)) (λ got. now ≡ record (parted failed (done - 1) left) { done = got ∷ (parted failed (done - 1) left).done })
  done_taken len None left all some there is at = absurd (let none = there.1 (omega arith) in cc)
  done_taken len (Some g) left all some there is at =
      let rest : List Got = take (done - 1) (drop (failed + 1) gots) in
      let from : drop failed gots ≡ g ∷ drop (failed + 1) gots = from_index failed g (omega (arith, there.0 refl)) at in
      let done_is : now.done ≡ g ∷ rest = take_first done g (drop (failed + 1) gots) (drop failed gots) some from in
      let left_is : parted failed (done - 1) left ≡ record now { done = rest } = rw is (done_removed g rest done_is) in
      ap (λ (xs : List Got). record now { done = xs }) done_is ∙ ap (λ (h : Holding). record h { done = g ∷ h.done }) (sym left_is)

  -- the first of those that failed is taken
  pub failed_taken :
      (len : ℕ) (o : Option Got) (left : List Got) → len ≡ length gots → 1 ≤ failed → (IsSome o ↔ (0 < len)) → gots ≡ option_to_list o ++ left
      → MatchOption o ((now.failed ≡ []) × (parted (failed - 1) done left ≡ now)) (λ got. now ≡ record (parted (failed - 1) done left) { failed = got ∷ (parted (failed - 1) done left).failed })
  failed_taken len None left all some there is = absurd (let none = there.1 (omega arith) in cc)
  failed_taken len (Some g) left all some there is =
      let failed_is : now.failed ≡ g ∷ take (failed - 1) left = take_first failed g left gots some is in
      let left_is : parted (failed - 1) done left ≡ record now { failed = take (failed - 1) left } = failed_removed g (take (failed - 1) left) left failed_is is in
      ap (λ (xs : List Got). record now { failed = xs }) failed_is ∙ ap (λ (h : Holding). record h { failed = g ∷ h.failed }) (sym left_is)

-- the first of all messages is the one with index 0
pub popped :
    (n : ℕ) (gots : List Got) (o : Option Got) (left : List Got) → n ≡ 0 → gots ≡ option_to_list o ++ left
    → OnSome o (left ≡ remove gots n) × IfSome o (λ y. y ≡ get_or gots n y) × IfNone o (left ≡ gots)
popped n gots None left zero is = (tt, tt, sym is)
popped n gots (Some g) left zero is = rw (zero, is) (refl, refl, tt)

-- the first of some messages, if there is one
pub none_first : (gots : List Got) → None ≡ first_of gots → gots ≡ []
none_first [] e = refl
none_first (g ∷ gs) e = cc

pub some_first : (gots : List Got) (g : Got) → Some g ≡ first_of gots → (gs : List Got) × (gots ≡ g ∷ gs)
some_first [] g e = cc
some_first (x ∷ xs) g e = let same : x ≡ g = cc in (xs, ap (λ (y : Got). y ∷ xs) same)

pub no_first : (o : Option (Bor Got)) (gots : List Got) → false ≡ is_some o → option_copied o ≡ first_of gots → gots ≡ []
no_first None gots n e = none_first gots e
no_first (Some x) gots n e = cc

pub has_first : (o : Option (Bor Got)) (gots : List Got) → is_some o ≡ true → option_copied o ≡ first_of gots → (g : Got) × (gs : List Got) × (gots ≡ g ∷ gs)
has_first None gots n e = cc
has_first (Some x) [] n e = cc
has_first (Some x) (g ∷ gs) n e = (g, gs, refl)
