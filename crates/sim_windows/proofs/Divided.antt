-- The partitions of the world that a setting opens with.
use Rattle.std.specs.List.{range_with_len}
use Rattle.std.specs.Prelude.{All, Bool, List, None, Ok, Option, Result, Some, Vec, [], cond, false, filter, map, suc, true, zero, ℕ, ◌+◌, ◌∷◌, ◌≡◌, ◌≤◌}
use Rattle.std.proofs.Common.{Global, ap, arith, refl, subst, sym, ◌∙◌}
use Rattle.std.proofs.lemmas.List.Elements.{All-cons, All-head, All-nil, All-tail}
use Rattle.sim_clock.specs.declared.key.Key.{Key}
use Rattle.sim_clock.specs.declared.refusal.Refusal.{Refusal}
use Rattle.sim_engine.specs.Engine.{Engine}
use Rattle.sim_engine.specs.Laws.{Conditions, SiteLaws}
use Rattle.sim_engine.specs.Members.{Ascends}
use Rattle.sim_engine.specs.Parts.{is_of, part_of}
use Rattle.sim_engine.specs.Setting.{IsNumbered, Setting}
use Rattle.sim_engine.specs.Simulated.{IsSimulated}
use Rattle.sim_engine.specs.World.{world_due}
use Rattle.sim_engine.proofs.OneList.{part_none}
use Rattle.sim_partition.specs.Sites.{IsPart}
use Rattle.sim_partition.proofs.Moments.{past_from}
use Rattle.sim_windows.proofs.Beginning.{all_picked}
use Rattle.sim_windows.proofs.Later.{from_none}
use Rattle.sim_windows.proofs.Places.{over}

module _ {Site Row Transfer : Type 0} {engine : Engine Site Row Transfer} {conditions : Conditions Site Transfer} (basics : SiteLaws engine conditions) where
  open engine use {number}
  open conditions use {Sound, Past}

  -- numbers that ascend, and those of some of them
  picked_ascend : (f : Site → Bool) (low n : ℕ) (w : List Site) → low ≤ n → IsNumbered engine n w → Ascends number low (filter f w)
  picked_ascend f low n [] l h = tt
  picked_ascend f low n (s ∷ ss) l h =
      let here : number s ≡ n = h.0 in
      elim (f s) as (λ b. Ascends number low (cond b (s ∷ filter f ss) (filter f ss))) [
        | true ↦ (omega arith, picked_ascend f (number s + 1) (n + 1) ss (omega arith) h.1)
        | false ↦ picked_ascend f low (n + 1) ss (omega arith) h.1
      ]

  -- the sites of each partition make one
  pub opens_part : (s : Setting Site) → IsSimulated engine conditions s → (owner : ℕ → ℕ) (p : ℕ) → IsPart engine conditions (part_of engine owner p s.opening)
  opens_part s sound owner p =
      let v : List Site = part_of engine owner p s.opening in
      record {
        ascends = picked_ascend (is_of engine owner p) 0 0 s.opening (omega arith) sound.numbered;
        sound = all_picked Sound (is_of engine owner p) s.opening sound.sound;
        past =
            past_from basics sound.begun v (world_due engine v) (from_none sound.begun (world_due engine v) (part_none basics owner sound.begun p s.opening sound.none))
            (all_picked (Past sound.begun) (is_of engine owner p) s.opening sound.past);
      }

-- what holds of each list
module _ {A : Type 0} (P : List A → Type 0) where
  of_range : (f : ℕ → List A) (a n : ℕ) → ((p : ℕ) → P (f p)) → All P (map f (range_with_len a n))
  of_range f a zero h = All-nil P
  of_range f a (suc n) h = All-cons P (f a) (map f (range_with_len (a + 1) n)) (h a) (of_range f (a + 1) n h)

  of_items : (xs : List (Vec A Global)) → All P (map (λ v. v.items) xs) → All (λ v. P v.items) xs
  of_items [] h = All-nil (λ (v : Vec A Global). P v.items)
  of_items (x ∷ xs) h =
      All-cons (λ (v : Vec A Global). P v.items) x xs (All-head P x.items (map (λ v. v.items) xs) h) (of_items xs (All-tail P x.items (map (λ v. v.items) xs) h))

  pub of_lists : (xs : List (Vec A Global)) (f : ℕ → List A) (n : ℕ) → map (λ v. v.items) xs ≡ map f (range_with_len 0 n) → ((p : ℕ) → P (f p)) → All (λ v. P v.items) xs
  of_lists xs f n e h = of_items xs (subst (All P) (sym e) (of_range f 0 n h))

over_lists : {A B : Type 0} (f : List A → B) (xs : List (Vec A Global)) → map (λ v. f v.items) xs ≡ map f (map (λ v. v.items) xs)
over_lists f [] = refl
over_lists f (x ∷ xs) = ap (λ z. f x.items ∷ z) (over_lists f xs)

-- the partitions that are made of such lists
pub made_of :
    {A : Type 0} (f : ℕ → List A) (n : ℕ) (lists : List (Vec A Global)) (parts : List (Result (List A) Refusal))
    → map (λ v. v.items) lists ≡ map f (range_with_len 0 n) → parts ≡ map (λ v. Ok v.items) lists → parts ≡ map (λ p. Ok (f p)) (range_with_len 0 n)
made_of f n lists parts e h =
    let one : List _ → Result (List _) Refusal = λ v. Ok v in
    h ∙ over_lists one lists ∙ ap (map one) e ∙ over one f 0 n
