-- Each kind of step keeps what stands of its place.
use Rattle.std.proofs.Common.{Bool, ◌≡◌, ◌≢◌, ◌<◌, None, ℕ, suc, true, false, List, length, set, sym, refl, ap, subst, ◌∙◌, ⊎_elim, arith, Some}
use mathlib.Core.Option.{Option as Maybe, none, some}
use mathlib.Core.Logic.{dite}
use native.Mathlib.Decide.{ℕ_discrete}
use lib.ListN.{get_elem?}
use Rattle.atomic_table.proofs.Lists.{at_set, set_here, set_else}
use Rattle.sim_handoff.specs.declared.records.Slot.{Slot}
use Rattle.sim_handoff.specs.declared.records.Slot.TheVariants.{Nothing, Piece, Answer}
use Rattle.sim_handoff.specs.declared.records.PlaceRecord.{PlaceRecord}
use Rattle.sim_handoff.specs.Place.{last_of, vacant, Fits, IsClaimed, IsDone, IsOwned, Stands}
use Rattle.sim_handoff.specs.Steps.{raised, lowered, offered, taken, claimed, set_down, picked_up, returned, knowing}
use Rattle.sim_handoff.proofs.Lists.{within, one}

-- what the owner knows of an empty place
pub owned_empty :
    {P D : Type 0} {does : P → D → Type 0} (word : ℕ) (home : Maybe (Slot P D)) (owner : PlaceRecord P)
    → word ≡ 0 → home ≡ vacant owner.lifted → (owner.held ≡ None) × (owner.out ≡ false) → owner.pending ≡ false → IsOwned does word home owner
owned_empty word home owner e away idle shut =
    record {
      idle = idle;
      small = omega arith;
      shut = λ _. shut;
      opened = λ g. absurd (g e);
      empty = λ _. away;
      offered = λ g. absurd (omega arith);
      done = λ g. absurd (omega arith);
    }

module _ {P D : Type 0} (does : P → D → Type 0) (n : ℕ) (h : Maybe (Slot P D)) (col : List (PlaceRecord P)) (S : Stands does n h col) where
  -- what the owner knows of a place that is claimed or done, and was not empty
  owned_out : (word : ℕ) (home : Maybe (Slot P D)) → 1 < word → word < 4 → n ≢ 0 → (word ≡ 3 → IsDone does home S.owner.offers) → IsOwned does word home S.owner
  owned_out word home past small full done =
      record {
        idle = S.idle;
        small = small;
        shut = λ g. absurd (omega arith);
        opened = λ _. S.opened full;
        empty = λ g. absurd (omega arith);
        offered = λ g. absurd (omega arith);
        done = done;
      }

  -- the seats after a step of the seat id, from the seats before
  pub each : (n' holder' count' id : ℕ) (t : PlaceRecord P) → Fits n' holder' count' id t
      → ((j : ℕ) (s : PlaceRecord P) → j ≢ id → get_elem? col j ≡ some s → Fits n S.holder (length S.owner.offers) j s → Fits n' holder' count' j s)
      → (j : ℕ) (s : PlaceRecord P) → get_elem? (set col id t) j ≡ some s → Fits n' holder' count' j s
  each n' holder' count' id t here there j s e =
      ⊎_elim (λ (m : (j ≡ id) × (t ≡ s)). subst (λ (y : ℕ × PlaceRecord P). Fits n' holder' count' y.0 y.1) (λ i. (sym m.0 i, m.1 i)) here)
      (λ (m : (j ≢ id) × (get_elem? col j ≡ some s)). there j s m.0 m.1 (S.all j s m.1)) (at_set col id j t s e)

  -- the owner's record after its change
  owner_here : (t : PlaceRecord P) → get_elem? (set col 0 t) 0 ≡ some t
  owner_here t = set_here col 0 t (within col 0 S.owner S.at_owner)

  -- what the owner knows fits
  mine : Fits n S.holder (length S.owner.offers) 0 S.owner
  mine = S.all 0 S.owner S.at_owner

  -- where the owner has nothing to collect the place is empty
  pub unpending : S.owner.pending ≡ false → n ≡ 0
  unpending e = dite (ℕ_discrete n 0) (λ y. y) (λ (g : n ≢ 0). let o = (S.opened g).0 in absurd (cc))

  -- where the owner has the slot the place is empty
  unlifted : S.owner.lifted ≡ true → n ≡ 0
  unlifted e = dite (ℕ_discrete n 0) (λ y. y) (λ (g : n ≢ 0). let o = (S.opened g).1 in absurd (cc))

  -- the owner takes or puts back the slot of an empty place
  lifts : (lifted : Bool) → n ≡ 0 → Stands does n (vacant lifted) (set col 0 (record S.owner { lifted = lifted }))
  lifts lifted e0 =
      let t : PlaceRecord P = record S.owner { lifted = lifted } in
      record {
        owner = t;
        holder = S.holder;
        at_owner = owner_here t;
        owned = owned_empty n (vacant lifted) t e0 refl S.idle (S.shut e0);
        claimed = λ g. absurd (omega arith);
        all = each n S.holder (length S.owner.offers) 0 t record { held = mine.held; out = mine.out; known = mine.known; seen = mine.seen } (λ j s _ _ f. f);
      }

  -- the owner takes the slot of an empty place
  pub raises : S.owner.pending ≡ false → Stands does n none (set col 0 (raised S.owner))
  raises e = lifts true (unpending e)

  -- the owner puts back the slot of an empty place
  pub lowers : S.owner.lifted ≡ true → Stands does n (some Nothing) (set col 0 (lowered S.owner))
  lowers e = lifts false (unlifted e)

  -- the owner gives back the slot with a piece
  pub offers : (x : P) → S.owner.lifted ≡ true → Stands does 1 (some (Piece x)) (set col 0 (offered x S.owner))
  offers x e =
      let e0 : n ≡ 0 = unlifted e in
      let fit : (j : ℕ) (s : PlaceRecord P) (k : ℕ) → Fits n S.holder (length S.owner.offers) j s → k ≡ suc (length S.owner.offers) → Fits 1 S.holder k j s
      = λ j s k f ek. record { held = λ y g. absurd (let t : n ≡ 2 = (f.held y g).0 in omega arith); out = λ g. absurd (let t : n ≡ 2 = (f.out g).0 in omega arith); known = let t = f.known in omega arith; seen = λ _. let t = f.known in omega arith } in
      let own = fit 0 S.owner (suc (length S.owner.offers)) mine refl in
      record {
        owner = offered x S.owner;
        holder = S.holder;
        at_owner = owner_here (offered x S.owner);
        owned = record {
          idle = S.idle;
          small = omega arith;
          shut = λ g. absurd (omega arith);
          opened = λ _. (refl, refl);
          empty = λ g. absurd (omega arith);
          offered = λ _. (x, refl, refl);
          done = λ g. absurd (omega arith);
        };
        claimed = λ g. absurd (omega arith);
        all = each 1 S.holder (suc (length S.owner.offers)) 0 (offered x S.owner) record { held = own.held; out = own.out; known = own.known; seen = own.seen }
            (λ j s _ _ f. fit j s (suc (length S.owner.offers)) f refl);
      }

  -- nobody holds the place
  free : (j : ℕ) (s : PlaceRecord P) (n' k : ℕ) → n ≢ 2 → n' ≢ 1 → Fits n S.holder k j s → Fits n' S.holder k j s
  free j s n' k nay two f = record { held = λ y g. absurd (nay (f.held y g).0); out = λ g. absurd (nay (f.out g).0); known = f.known; seen = λ g. absurd (two g) }

  -- the owner takes the slot of a done place
  pub collects : n ≡ 3 → Stands does 0 none (set col 0 (taken S.owner))
  collects e =
      let nay : n ≢ 2 = λ g. omega arith in
      let own = free 0 S.owner 0 (length S.owner.offers) nay (λ g. omega arith) mine in
      record {
        owner = taken S.owner;
        holder = S.holder;
        at_owner = owner_here (taken S.owner);
        owned = owned_empty 0 none (taken S.owner) refl refl S.idle refl;
        claimed = λ g. absurd (omega arith);
        all = each 0 S.holder (length S.owner.offers) 0 (taken S.owner) record { held = own.held; out = own.out; known = own.known; seen = own.seen }
            (λ j s _ _ f. free j s 0 (length S.owner.offers) nay (λ g. omega arith) f);
      }

  module _ (id : ℕ) (s : PlaceRecord P) (other : id ≢ 0) (at_id : get_elem? col id ≡ some s) where
    -- what the hand knows fits
    fits : Fits n S.holder (length S.owner.offers) id s
    fits = S.all id s at_id

    -- the hand's record after its change
    here : (t : PlaceRecord P) → get_elem? (set col id t) id ≡ some t
    here t = set_here col id t (within col id s at_id)

    -- the owner's record after a hand's change
    owner_still : (t : PlaceRecord P) → get_elem? (set col id t) 0 ≡ some S.owner
    owner_still t = set_else col id 0 t (λ g. other (sym g)) ∙ S.at_owner

    -- a hand takes the slot of an offered place
    pub claims : n ≡ 1 → (x : P) → last_of S.owner.offers ≡ Some x → Stands does 2 none (set col id (claimed x s))
    claims e x last = let fit = fits in record {
      owner = S.owner;
      holder = id;
      at_owner = owner_still (claimed x s);
      owned = owned_out 2 none (omega arith) (omega arith) (λ g. omega arith) (λ g. absurd (omega arith));
      claimed = λ _. (claimed x s, x, here (claimed x s), refl, last, refl);
      all = each 2 id (length S.owner.offers) id (claimed x s) record { held = λ y g. (refl, refl); out = λ g. (refl, refl); known = fit.known; seen = λ g. absurd (omega arith) }
          (λ j w _ _ f. record { held = λ y g. absurd (let t : n ≡ 2 = (f.held y g).0 in omega arith); out = λ g. absurd (let t : n ≡ 2 = (f.out g).0 in omega arith); known = f.known; seen = λ g. absurd (omega arith) });
    }

    -- the seat looked, and the place was not offered
    pub notes : n ≢ 1 → Stands does n h (set col id (knowing (length S.owner.offers) s))
    notes nay = let fit = fits in let t = knowing (length S.owner.offers) s in record {
      owner = S.owner;
      holder = S.holder;
      at_owner = owner_still t;
      owned = S.owned;
      claimed = λ e. let c = S.claimed e in dite (ℕ_discrete S.holder id)
          (λ g. let same : c.0 ≡ s = one col id c.0 s (subst (λ k. get_elem? col k ≡ some c.0) g c.2) at_id in
          (t, c.1, subst (λ k. get_elem? (set col id t) k ≡ some t) (sym g) (here t), ap (λ (w : PlaceRecord P). w.held) (sym same) ∙ c.3, c.4, c.5 ∙ ap (λ (w : PlaceRecord P). vacant w.out) same))
          (λ g. (c.0, c.1, set_else col id S.holder t g ∙ c.2, c.3, c.4, c.5));
      all = each n S.holder (length S.owner.offers) id t record { held = fit.held; out = fit.out; known = omega arith; seen = λ g. absurd (nay g) } (λ j w _ _ f. f);
    }

    module _ (x : P) (holds : s.held ≡ Some x) where
      -- the hand that holds a piece is the holder of a claimed place
      now : (n ≡ 2) × (id ≡ S.holder)
      now = fits.held x holds

      -- the holder's claim
      theirs : IsClaimed h col S.owner.offers S.holder
      theirs = S.claimed now.0

      -- the holder's record is the hand's
      same : theirs.0 ≡ s
      same = one col id theirs.0 s (subst (λ k. get_elem? col k ≡ some theirs.0) (sym now.1) theirs.2) at_id

      -- what the hand holds is the last offer
      pub last : last_of S.owner.offers ≡ Some x
      last = theirs.4 ∙ (sym theirs.3 ∙ ap (λ (w : PlaceRecord P). w.held) same) ∙ holds

      -- the slot of a claimed place is at home, or with the hand
      pub is_home : h ≡ vacant s.out
      is_home = theirs.5 ∙ ap (λ (w : PlaceRecord P). vacant w.out) same

      -- the hand that holds a piece takes or puts back the slot
      grips : (h' : Maybe (Slot P D)) (t : PlaceRecord P) → t.held ≡ s.held → t.known ≡ s.known → h' ≡ vacant t.out → Stands does n h' (set col id t)
      grips h' t keeps knows home = let fit = fits in let two = now in let kn = fit.known in record {
        owner = S.owner;
        holder = S.holder;
        at_owner = owner_still t;
        owned = owned_out n h' (omega arith) (omega arith) (λ g. omega arith) (λ g. absurd (omega arith));
        claimed = λ _. (t, x, subst (λ k. get_elem? (set col id t) k ≡ some t) two.1 (here t), keeps ∙ holds, last, home);
        all = each n S.holder (length S.owner.offers) id t record { held = λ _ _. two; out = λ _. two; known = omega arith; seen = λ g. absurd (omega arith) } (λ j w _ _ f. f);
      }

      -- a hand puts back the slot of a place that it claimed
      pub sets_down : Stands does n (some Nothing) (set col id (set_down s))
      sets_down = grips (some Nothing) (set_down s) refl refl refl

      -- a hand takes the slot of a place that it claimed
      pub picks_up : Stands does n none (set col id (picked_up s))
      picks_up = grips none (picked_up s) refl refl refl

      -- a hand gives back the slot with an answer
      pub gives_back : (d : D) → does x d → Stands does 3 (some (Answer d)) (set col id (returned s))
      gives_back d ok = let fit = fits in let two = now in record {
        owner = S.owner;
        holder = S.holder;
        at_owner = owner_still (returned s);
        owned = owned_out 3 (some (Answer d)) (omega arith) (omega arith) (λ g. omega arith) (λ _. (x, d, last, refl, ok));
        claimed = λ g. absurd (omega arith);
        all = each 3 S.holder (length S.owner.offers) id (returned s) record { held = λ y g. absurd (cc); out = λ g. absurd (cc); known = fit.known; seen = λ g. absurd (omega arith) }
            (λ j w ne _ f. record { held = λ y g. absurd (ne ((f.held y g).1 ∙ sym two.1)); out = λ g. absurd (ne ((f.out g).1 ∙ sym two.1)); known = f.known; seen = λ g. absurd (omega arith) });
      }
