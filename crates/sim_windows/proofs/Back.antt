-- What came back of each partition.
use Rattle.std.specs.Prelude.{Err, List, Ok, Result, [], drop, get_or, length, set, suc, ℕ, ◌++◌, ◌+◌, ◌<◌, ◌∷◌, ◌≡◌}
use Rattle.std.proofs.Common.{ap, arith, append_assoc, length-append, refl, sym, ◌∙◌}
use Rattle.std.proofs.lemmas.List.{drop_more, get_or_at, set_at}
use Rattle.sim_clock.specs.declared.refusal.Refusal.{Refusal}
use Rattle.sim_windows.specs.Rounds.{CameBack, Comes, HaveCome}
use Rattle.sim_windows.specs.declared.lent.Came.{Came}
use Rattle.sim_engine.specs.Engine.{Engine}
use Rattle.sim_engine.specs.Laws.{Conditions, SiteLaws}

module _ {Site Row Transfer : Type 0} {engine : Engine Site Row Transfer} {conditions : Conditions Site Transfer} (basics : SiteLaws engine conditions) where
  -- a partition that lived, and came back
  pub record Back (bound : ℕ) (part : Result (List Site) Refusal) (c : Came Site Row Transfer) : Type 0 where
    pub sites : List Site
    pub lived : part ≡ Ok sites
    pub came : CameBack engine conditions bound sites c

  lived_of : (b : ℕ) (p : Result (List Site) Refusal) (c : Came Site Row Transfer) → Comes engine conditions b p (Ok c) → Back b p c
  lived_of b (Ok w) c h = record { sites = w; lived = refl; came = h }
  lived_of b (Err e) c h = absurd h

  -- the one after some others
  pub record Next (bs : List ℕ) (ps : List (Result (List Site) Refusal)) (place : ℕ) (d : Result (List Site) Refusal) (c : Came Site Row Transfer) : Type 0 where
    pub within : place < length ps
    pub back : Back (get_or bs place 0) (get_or ps place d) c

  pub next_back : (bs : List ℕ) (ps : List (Result (List Site) Refusal)) (ys : List (Came Site Row Transfer)) (c : Came Site Row Transfer) (more : List (Came Site Row Transfer)) (d : Result (List Site) Refusal) → HaveCome engine conditions bs ps (ys ++ c ∷ more) → Next bs ps (length ys) d c
  next_back [] [] [] c more d h = absurd h
  next_back [] [] (y ∷ ys) c more d h = absurd h
  next_back [] (p ∷ ps) [] c more d h = absurd h
  next_back [] (p ∷ ps) (y ∷ ys) c more d h = absurd h
  next_back (b ∷ bs) [] [] c more d h = absurd h
  next_back (b ∷ bs) [] (y ∷ ys) c more d h = absurd h
  next_back (b ∷ bs) (p ∷ ps) [] c more d h = record { within = omega arith; back = lived_of b p c h.0 }
  next_back (b ∷ bs) (p ∷ ps) (y ∷ ys) c more d h = let n : Next bs ps (length ys) d c = next_back bs ps ys c more d h.1 in record { within = omega (arith, n.within); back = n.back }

  -- as many came as there are
  pub many_back : (bs : List ℕ) (ps : List (Result (List Site) Refusal)) (cs : List (Came Site Row Transfer)) → HaveCome engine conditions bs ps cs → length cs ≡ length ps
  many_back [] [] [] h = refl
  many_back (b ∷ bs) (p ∷ ps) (c ∷ cs) h = ap suc (many_back bs ps cs h.1)
  many_back _ _ _ h = absurd h

-- some that came back, and the others as they were
module _ {Site : Type 0} (xs ps : List (Result (List Site) Refusal)) (place : ℕ) (d : Result (List Site) Refusal) (at : length xs ≡ place) (l : place < length ps) where
  pub next_part : get_or (xs ++ drop place ps) place d ≡ get_or ps place d
  next_part = ap (λ ys. get_or (xs ++ ys) place d) (drop_more ps place d l) ∙ get_or_at xs (get_or ps place d) (drop (place + 1) ps) d place at

  pub next_set : (y : Result (List Site) Refusal) → set (xs ++ drop place ps) place y ≡ xs ++ y ∷ [] ++ drop (place + 1) ps
  next_set y =
      ap (λ ys. set (xs ++ ys) place y) (drop_more ps place d l) ∙ set_at xs (get_or ps place d) (drop (place + 1) ps) y place at
      ∙ sym (append_assoc xs (y ∷ []) (drop (place + 1) ps))

-- among some, one and others
module _ {A : Type 0} where
  -- one is among all
  pub before_all : (ys more all : List A) (c : A) → ys ++ c ∷ more ≡ all → length ys < length all
  before_all ys more all c e = let n = length-append ys (c ∷ more) in omega (arith, n, ap (λ xs. length xs) e)

  -- those so far, the next and the others are all
  pub in_order : (ys rest more all : List A) (c : A) → ys ++ rest ≡ all → rest ≡ c ∷ more → ys ++ c ∷ more ≡ all
  in_order ys rest more all c e f = ap (λ r. ys ++ r) (sym f) ∙ e
