-- How far partitions may run.
use Rattle.std.specs.List.{range_with_len}
use Rattle.std.specs.Prelude.{All, List, [], get_or, map, min, suc, zero, ℕ, ◌+◌, ◌∷◌, ◌≡◌, ◌≤◌}
use Rattle.std.proofs.Common.{ap, arith, subst, sym, ◌∙◌}
use Rattle.std.proofs.lemmas.List.Elements.{All-cons, All-head, All-nil, All-tail}
use Rattle.std.proofs.lemmas.List.{get_or-map}
use Rattle.sim_engine.specs.Machine.{Machine}
use Rattle.sim_engine.specs.declared.picks.Pick.{Pick}
use Rattle.sim_windows.specs.Rounds.{AreWithin}
use Rattle.sim_windows.specs.Stages.{Standing, Stands, machine_in}
use Rattle.sim_windows.proofs.Standing.{keeps}
use Rattle.sim_engine.specs.Limits.{most_count}
use Rattle.sim_engine.specs.Setting.{Setting}
use Rattle.sim_engine.specs.Engine.{Engine}
use Rattle.sim_engine.specs.Laws.{Conditions, SiteLaws}

all_range : {A : Type 0} (P : A → Type 0) (f : ℕ → A) (a n : ℕ) → ((p : ℕ) → P (f p)) → All P (map f (range_with_len a n))
all_range P f a zero h = All-nil P
all_range P f a (suc n) h = All-cons P (f a) (map f (range_with_len (a + 1) n)) (h a) (all_range P f (a + 1) n h)

all_cut : (cut k : ℕ) (bs : List ℕ) → All (λ b. b ≤ k) bs → All (λ b. b ≤ k) (map (λ b. min b cut) bs)
all_cut cut k [] h = All-nil (λ b. b ≤ k)
all_cut cut k (b ∷ bs) h =
    let l : b ≤ k = All-head (λ x. x ≤ k) b bs h in
    All-cons (λ x. x ≤ k) (min b cut) (map (λ x. min x cut) bs) (omega arith) (all_cut cut k bs (All-tail (λ x. x ≤ k) b bs h))

-- no end of a round is past its bound
pub ends_within : (cut : ℕ) (ends bounds : List ℕ) → ends ≡ map (λ b. min b cut) bounds → AreWithin ends bounds
ends_within cut ends bounds e p l = subst (λ z. z ≤ get_or bounds p 0) (sym (ap (λ z. get_or z p 0) e ∙ get_or-map (λ b. min b cut) bounds p 0 0 l)) (omega arith)

module _ {Site Row Transfer : Type 0} {engine : Engine Site Row Transfer} {conditions : Conditions Site Transfer} (basics : SiteLaws engine conditions) where
  -- no bound is later than the moment after the longest horizon
  pub short_bounds : (s : Setting Site) (done : List Pick) (g : Standing Site Row Transfer) → Stands engine conditions s done g → All (λ b. b ≤ most_count + 1) g.bounds
  short_bounds s done g st =
      let m : Machine engine = machine_in engine g.layout g.distances s done in
      subst (All (λ b. b ≤ most_count + 1)) (sym st.shows.bounds)
      (all_range (λ b. b ≤ most_count + 1) m.bounds 0 g.layout.parts
      (λ p. let capped : m.bounds p ≤ s.horizon + 1 = (keeps basics s done g st).capped p in omega (arith, st.range, st.horizon)))

  -- nor is the end of a round that is cut
  pub short_ends : (s : Setting Site) (done : List Pick) (g : Standing Site Row Transfer) → Stands engine conditions s done g → (cut : ℕ) (ends : List ℕ) → ends ≡ map (λ b. min b cut) g.bounds → All (λ b. b ≤ most_count + 1) ends
  short_ends s done g st cut ends e = subst (All (λ b. b ≤ most_count + 1)) (sym e) (all_cut cut (most_count + 1) g.bounds (short_bounds s done g st))
