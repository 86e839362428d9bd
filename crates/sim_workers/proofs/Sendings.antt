-- One more partition at the end of those that were offered or collected, and what all of them come to.
use Rattle.std.proofs.Common.{◌≡◌, ◌≢◌, ℕ, suc, ◌+◌, ◌<◌, ◌≤◌, List, [], ◌∷◌, ◌++◌, get_or, length, sym, ap, subst}
use Rattle.std.proofs.Common.{◌∙◌, refl, arith, Option, Some, None, MatchOption, Result, Ok, Err}
use Rattle.std.proofs.lemmas.List.{length-append}
use Rattle.sim_clock.specs.declared.refusal.Refusal.{Refusal}
use Rattle.sim_engine.specs.Engine.{Engine}
use Rattle.sim_engine.specs.Laws.{Conditions}
use Rattle.sim_handoff.specs.declared.records.PartyRecord.{PartyRecord}
use Rattle.sim_handoff.specs.Place.{IsFree, last_of, place_record}
use Rattle.sim_windows.specs.declared.lent.Came.{Came}
use Rattle.sim_workers.specs.Owners.{AreCollected, AreResting, AreSentOut, Home, IsCollected, IsSentOut}
use Rattle.sim_windows.specs.Rounds.{AllCome, Comes}
use Rattle.sim_workers.specs.Rounds.{gravest_from, gravest_of}

-- the length with one more
pub one_more : {B : Type 0} (ys : List B) (y : B) → length (ys ++ y ∷ []) ≡ length ys + 1
one_more ys y = length-append ys (y ∷ [])

-- two lists with one more at the end of each
pub grown : {A B : Type 0} (zs xs : List A) (ys : List B) (x : A) (y : B) → zs ≡ xs ++ x ∷ [] → length xs ≡ length ys
    → length zs ≡ length (ys ++ y ∷ [])
grown zs xs ys x y e same = ap length e ∙ one_more xs x ∙ ap (λ n. n + 1) same ∙ sym (one_more ys y)

-- one less is left
pub less_left : {B : Type 0} (ys : List B) (y : B) (left left' all : ℕ) → length ys + left ≡ all → left' + 1 ≡ left
    → length (ys ++ y ∷ []) + left' ≡ all
less_left ys y left left' all e f = let h = one_more ys y in omega (arith, h)

-- one place further
pub further : {B : Type 0} (ys : List B) (y : B) (place : ℕ) → length (ys ++ y ∷ []) ≤ place → length ys < place
further ys y place low = let h = one_more ys y in omega (arith, h)

-- a place before one more is that one, or before
pub at_or_before : {B : Type 0} (ys : List B) (y : B) (place : ℕ) → place < length (ys ++ y ∷ []) → place ≤ length ys
at_or_before ys y place low = let h = one_more ys y in omega (arith, h)

module _
    {P Site Row Transfer : Type 0} (engine : Engine Site Row Transfer) (conditions : Conditions Site Transfer)
    (packed : P → Result (List Site) Refusal × ℕ) (owner after : PartyRecord P) (bounds : List ℕ) where
  -- what is sent out from one place stays so where the owner's record of it does
  sent_still : (place bound : ℕ) (part : Result (List Site) Refusal) (home : Home Site Row Transfer)
      → place_record after place ≡ place_record owner place → IsSentOut engine conditions packed owner place bound part home
      → IsSentOut engine conditions packed after place bound part home
  sent_still place bound part None e s = (s.0, (s.1.0, ap (λ r. last_of r.offers) e ∙ s.1.1, s.1.2))
  sent_still place bound part (Some outcome) e s = (s.0, ap (λ r. r.pending) e ∙ s.1, s.2)

  -- one more is sent out
  pub sent_more : (place : ℕ) (parts : List (Result (List Site) Refusal)) (homes : List (Home Site Row Transfer))
      (part : Result (List Site) Refusal) (home : Home Site Row Transfer) (here : ℕ)
      → here ≡ place + length parts
      → ((other : ℕ) → other ≢ here → place_record after other ≡ place_record owner other)
      → AreSentOut engine conditions packed owner place bounds parts homes
      → IsSentOut engine conditions packed after here (get_or bounds here 0) part home
      → AreSentOut engine conditions packed after place bounds (parts ++ part ∷ []) (homes ++ home ∷ [])
  sent_more place [] [] part home here e else all one = (
    let at : here ≡ place = omega arith in
        subst (λ k. IsSentOut engine conditions packed after k (get_or bounds k 0) part home) at one,
    tt,
  )
  sent_more place [] (h ∷ hs) part home here e else all one = absurd all
  sent_more place (p ∷ ps) [] part home here e else all one = absurd all
  sent_more place (p ∷ ps) (h ∷ hs) part home here e else all one = (
    let ne : place ≢ here = omega arith in sent_still place (get_or bounds place 0) p h (else place ne) all.0,
    let e' : here ≡ place + 1 + length ps = omega arith in sent_more (place + 1) ps hs part home here e' else all.1 one,
  )

module _
    {P Site Row Transfer : Type 0} (engine : Engine Site Row Transfer) (conditions : Conditions Site Transfer)
    (packed : P → Result (List Site) Refusal × ℕ) (owner : PartyRecord P) (bounds : List ℕ) where
  -- the places of those that are at home are free
  pub resting_of : (place : ℕ) (parts : List (Result (List Site) Refusal)) (homes : List (Home Site Row Transfer))
      → AreSentOut engine conditions packed owner place bounds parts homes → AreResting owner place homes
  resting_of place [] [] all = tt
  resting_of place [] (h ∷ hs) all = absurd all
  resting_of place (p ∷ ps) [] all = absurd all
  resting_of place (p ∷ ps) (None ∷ hs) all = (tt, resting_of (place + 1) ps hs all.1)
  resting_of place (p ∷ ps) (Some h ∷ hs) all = (all.0.1, resting_of (place + 1) ps hs all.1)

  -- there is a home for each partition
  pub as_many_homes : (place : ℕ) (parts : List (Result (List Site) Refusal)) (homes : List (Home Site Row Transfer))
      → AreSentOut engine conditions packed owner place bounds parts homes → length homes ≡ length parts
  as_many_homes place [] [] all = refl
  as_many_homes place [] (h ∷ hs) all = absurd all
  as_many_homes place (p ∷ ps) [] all = absurd all
  as_many_homes place (p ∷ ps) (h ∷ hs) all = ap suc (as_many_homes (place + 1) ps hs all.1)

-- a place stays free where the owner's record of it is the same
pub free_still : {P : Type 0} (owner after : PartyRecord P) (place : ℕ)
    → place_record after place ≡ place_record owner place → IsFree owner place → IsFree after place
free_still owner after place same free = ap (λ r. r.pending) same ∙ free

-- places that rest go on to where the owner's record of them is the same
pub resting_still : {P Site Row Transfer : Type 0} (owner after : PartyRecord P) (place : ℕ)
    (homes : List (Home Site Row Transfer))
    → ((other : ℕ) → place ≤ other → place_record after other ≡ place_record owner other) → AreResting owner place homes
    → AreResting after place homes
resting_still owner after place [] same all = tt
resting_still owner after place (None ∷ hs) same all =
    (tt, resting_still owner after (place + 1) hs (λ other low. same other (omega arith)) all.1)
resting_still owner after place (Some h ∷ hs) same all = (
  free_still owner after place (same place (omega arith)) all.0,
  resting_still owner after (place + 1) hs (λ other low. same other (omega arith)) all.1,
)

module _
    {P Site Row Transfer : Type 0} (engine : Engine Site Row Transfer) (conditions : Conditions Site Transfer)
    (packed : P → Result (List Site) Refusal × ℕ) (owner : PartyRecord P) where
  -- what is collected at a place is so where the owner's record of it is the same
  pub collected_still : (before : PartyRecord P) (place : ℕ) (home : Home Site Row Transfer)
      (outcome : Result (Came Site Row Transfer) Refusal)
      → place_record owner place ≡ place_record before place → IsCollected engine conditions packed owner place home outcome
      → IsCollected engine conditions packed before place home outcome
  collected_still before place None outcome e came = (came.0, ap (λ r. last_of r.offers) (sym e) ∙ came.1, came.2)
  collected_still before place (Some home) outcome e came = came

  -- something is collected for each
  pub as_many_outcomes : (place : ℕ) (homes : List (Home Site Row Transfer))
      (outcomes : List (Result (Came Site Row Transfer) Refusal))
      → AreCollected engine conditions packed owner place homes outcomes → length outcomes ≡ length homes
  as_many_outcomes place [] [] all = refl
  as_many_outcomes place [] (o ∷ os) all = absurd all
  as_many_outcomes place (h ∷ hs) [] all = absurd all
  as_many_outcomes place (h ∷ hs) (o ∷ os) all = ap suc (as_many_outcomes (place + 1) hs os all.1)

  -- one more is collected
  pub collected_more : (place : ℕ) (homes : List (Home Site Row Transfer))
      (outcomes : List (Result (Came Site Row Transfer) Refusal)) (home : Home Site Row Transfer)
      (outcome : Result (Came Site Row Transfer) Refusal) (here : ℕ)
      → here ≡ place + length homes
      → AreCollected engine conditions packed owner place homes outcomes
      → IsCollected engine conditions packed owner here home outcome
      → AreCollected engine conditions packed owner place (homes ++ home ∷ []) (outcomes ++ outcome ∷ [])
  collected_more place [] [] home outcome here e all one = (
    let at : here ≡ place = omega arith in
        subst (λ k. IsCollected engine conditions packed owner k home outcome) at one,
    tt,
  )
  collected_more place [] (o ∷ os) home outcome here e all one = absurd all
  collected_more place (h ∷ hs) [] home outcome here e all one = absurd all
  collected_more place (h ∷ hs) (o ∷ os) home outcome here e all one = (
    all.0,
    let e' : here ≡ place + 1 + length hs = omega arith in
        collected_more (place + 1) hs os home outcome here e' all.1 one,
  )

-- two names of one last offer
same_offer : {P : Type 0} (a : Option P) (x y : P) → a ≡ Some x → a ≡ Some y → x ≡ y
same_offer a x y e f = cc

module _
    {P Site Row Transfer : Type 0} (engine : Engine Site Row Transfer) (conditions : Conditions Site Transfer)
    (packed : P → Result (List Site) Refusal × ℕ) (owner : PartyRecord P) (bounds : List ℕ) where
  -- what is collected of a partition that was offered, or stayed, is what may come of it
  come_of : (place bound : ℕ) (part : Result (List Site) Refusal) (home : Home Site Row Transfer)
      (outcome : Result (Came Site Row Transfer) Refusal)
      → IsSentOut engine conditions packed owner place bound part home → IsCollected engine conditions packed owner place home outcome
      → Comes engine conditions bound part outcome
  come_of place bound part None outcome out came =
      let same : packed came.0 ≡ (part, bound) = ap packed (same_offer _ came.0 out.1.0 came.1 out.1.1) ∙ out.1.2 in
      subst (λ (of : Result (List Site) Refusal × ℕ). Comes engine conditions of.1 of.0 outcome) same came.2
  come_of place bound part (Some home) outcome out came =
      subst (λ (o : Result (Came Site Row Transfer) Refusal). Comes engine conditions bound part o) (sym came) out.2

  -- what is collected of the partitions from a place on is what may come of them
  all_come_of : (place : ℕ) (rest : List ℕ) (parts : List (Result (List Site) Refusal))
      (homes : List (Home Site Row Transfer)) (outcomes : List (Result (Came Site Row Transfer) Refusal))
      → length rest ≡ length parts → ((k : ℕ) → get_or rest k 0 ≡ get_or bounds (place + k) 0)
      → AreSentOut engine conditions packed owner place bounds parts homes
      → AreCollected engine conditions packed owner place homes outcomes → AllCome engine conditions rest parts outcomes
  all_come_of place [] [] [] [] e same out all = tt
  all_come_of place [] [] [] (o ∷ os) e same out all = absurd all
  all_come_of place [] [] (h ∷ hs) outcomes e same out all = absurd out
  all_come_of place [] (p ∷ ps) homes outcomes e same out all = absurd (omega arith)
  all_come_of place (b ∷ bs) [] homes outcomes e same out all = absurd (omega arith)
  all_come_of place (b ∷ bs) (p ∷ ps) [] outcomes e same out all = absurd out
  all_come_of place (b ∷ bs) (p ∷ ps) (h ∷ hs) [] e same out all = absurd all
  all_come_of place (b ∷ bs) (p ∷ ps) (h ∷ hs) (o ∷ os) e same out all =
      let here : place + 0 ≡ place = omega arith in
      let bound : get_or bounds place 0 ≡ b = sym (same 0 ∙ ap (λ i. get_or bounds i 0) here) in
      let as_many : length bs ≡ length ps = omega arith in
      let further : (k : ℕ) → place + suc k ≡ place + 1 + k = λ k. omega arith in (
        come_of place b p h o (subst (λ n. IsSentOut engine conditions packed owner place n p h) bound out.0) all.0,
        all_come_of (place + 1) bs ps hs os as_many
            (λ k. same (suc k) ∙ ap (λ i. get_or bounds i 0) (further k)) out.1 all.1,
      )

  -- what is collected of all partitions makes a round
  pub round_of : (parts : List (Result (List Site) Refusal)) (homes : List (Home Site Row Transfer))
      (outcomes : List (Result (Came Site Row Transfer) Refusal))
      → length bounds ≡ length parts
      → AreSentOut engine conditions packed owner 0 bounds parts homes → AreCollected engine conditions packed owner 0 homes outcomes
      → AllCome engine conditions bounds parts outcomes
  round_of parts homes outcomes e out all =
      let first : (k : ℕ) → k ≡ 0 + k = λ k. omega arith in
      all_come_of 0 bounds parts homes outcomes e (λ k. ap (λ i. get_or bounds i 0) (first k)) out all

-- what some outcomes come to with one more
pub gravest_ok : {C : Type 0} (before : Option Refusal) (outcomes : List (Result C Refusal)) (came : C)
    → gravest_from before (outcomes ++ Ok came ∷ []) ≡ gravest_from before outcomes
gravest_ok before [] came = refl
gravest_ok before (Ok c ∷ rest) came = gravest_ok before rest came
gravest_ok before (Err e ∷ rest) came = gravest_ok (Some (gravest_of before e)) rest came

pub gravest_err : {C : Type 0} (before : Option Refusal) (outcomes : List (Result C Refusal)) (refusal : Refusal)
    → gravest_from before (outcomes ++ Err refusal ∷ []) ≡ Some (gravest_of (gravest_from before outcomes) refusal)
gravest_err before [] refusal = refl
gravest_err before (Ok c ∷ rest) refusal = gravest_err before rest refusal
gravest_err before (Err e ∷ rest) refusal = gravest_err (Some (gravest_of before e)) rest refusal

-- what holds while nothing is refused
pub unless_refused : {A B : Type 0} (refused : Option Refusal) → (A → B) → MatchOption refused A (λ _. Unit {0})
    → MatchOption refused B (λ _. Unit {0})
unless_refused None f p = f p
unless_refused (Some refusal) f p = tt
