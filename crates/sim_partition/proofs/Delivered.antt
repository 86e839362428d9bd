-- What is delivered to sites.
use Rattle.std.specs.List.Sorted.{IsBinarySearchResult}
use Rattle.std.specs.Ordering.{is_lt, nat_cmp}
use Rattle.std.specs.Prelude.{All, Bool, Err, List, is_ok, None, Ok, Option, Result, Some, [], false, if◌then◌else◌, length, map, suc, true, zero, ℕ, ◌+◌, ◌++◌, ◌<◌, ◌==◌, ◌∷◌, ◌≡◌, ◌⊎◌, ◌≤◌}
use Rattle.std.proofs.Common.{ap, arith, inl, inr, refl, subst, sym, ◌∙◌}
use Rattle.std.proofs.lemmas.List.Elements.{All-head, All-map, All-tail, All-weaker}
use Rattle.sim_clock.specs.declared.key.Key.{Key}
use Rattle.sim_clock.specs.Order.{key_cmp, lesser}
use Rattle.sim_index.proofs.Spans.{lesser_assoc, lesser_self, swapped}
use Rattle.sim_engine.specs.Engine.{Engine}
use Rattle.sim_engine.specs.Laws.{Conditions, SiteLaws}
use Rattle.sim_engine.specs.Members.{Ascends}
use Rattle.sim_engine.specs.World.{arrival, delivered, delivered_one, least_due, world_due}
use Rattle.sim_engine.proofs.Branches.{either}
use Rattle.sim_engine.proofs.Parts.{one_number}
use Rattle.sim_engine.proofs.WorldMoves.{delivered_sound}
use Rattle.sim_partition.proofs.Numbers.{absent, found_nowhere, found_there, number_there, same_number}
use Rattle.sim_partition.specs.Sites.{AreOfPast, IsPart}

-- what holds of two dues holds of the lesser
lesser_holds : (P : Option Key → Type 0) (a b : Option Key) → P a → P b → P (lesser a b)
lesser_holds P None b p q = q
lesser_holds P (Some a) None p q = p
lesser_holds P (Some a) (Some b) p q =
    elim (is_lt (key_cmp b a)) as (λ c. P (if c then Some b else Some a)) [ true ↦ q | false ↦ p ]

ok_is : (r : Result ℕ ℕ) → is_ok r ≡ true → (i : ℕ) × (r ≡ Ok i)
ok_is (Ok i) h = (i, refl)
ok_is (Err i) h = cc

err_is : (r : Result ℕ ℕ) → is_ok r ≡ false → (i : ℕ) × (r ≡ Err i)
err_is (Ok i) h = cc
err_is (Err i) h = (i, refl)

module _ {Site Row Transfer : Type 0} {engine : Engine Site Row Transfer} {conditions : Conditions Site Transfer} (basics : SiteLaws engine conditions) where
  open engine use {number, accepted, transfer_key, to}
  open conditions use {Sound, Past, Timely}
  open basics use {due_accepted, past_accepted}

  ascends_one : (o : Transfer) (n : ℕ) (w : List Site) → Ascends number n w → Ascends number n (map (delivered_one engine o) w)
  ascends_one o n [] h = tt
  ascends_one o n (s ∷ ss) h =
      subst (λ k. (n ≤ k) × Ascends number (k + 1) (map (delivered_one engine o) ss)) (sym (one_number basics o s)) (h.0, ascends_one o (number s + 1) ss h.1)

  pub ascends_delivered : (os : List Transfer) (n : ℕ) (w : List Site) → Ascends number n w → Ascends number n (delivered engine os w)
  ascends_delivered [] n w h = h
  ascends_delivered (o ∷ os) n w h = ascends_delivered os n (map (delivered_one engine o) w) (ascends_one o n w h)

  numbers_one : (o : Transfer) (w : List Site) → map number (map (delivered_one engine o) w) ≡ map number w
  numbers_one o [] = refl
  numbers_one o (s ∷ ss) = ap (λ k. k ∷ map number (map (delivered_one engine o) ss)) (one_number basics o s) ∙ ap (λ ks. number s ∷ ks) (numbers_one o ss)

  pub numbers_delivered : (os : List Transfer) (w : List Site) → map number (delivered engine os w) ≡ map number w
  numbers_delivered [] w = refl
  numbers_delivered (o ∷ os) w = numbers_delivered os (map (delivered_one engine o) w) ∙ numbers_one o w

  -- one more delivered after others
  pub delivered_more : (os : List Transfer) (o : Transfer) (w : List Site) → delivered engine (os ++ o ∷ []) w ≡ map (delivered_one engine o) (delivered engine os w)
  delivered_more [] o w = refl
  delivered_more (x ∷ os) o w = delivered_more os o (map (delivered_one engine x) w)

  -- what is delivered is from no later than what is there
  past_one : (now : ℕ) (o : Transfer) → Timely o → (s : Site) → Past now s → Past now (delivered_one engine o s)
  past_one now o t s h = either (Past now) (to o == number s) (accepted o s) s (past_accepted now o s t h) h

  pub past_delivered : (now : ℕ) (os : List Transfer) (w : List Site) → All Timely os → All (Past now) w → All (Past now) (delivered engine os w)
  past_delivered now [] w t h = h
  past_delivered now (o ∷ os) w t h =
      past_delivered now os (map (delivered_one engine o) w) (All-tail Timely o os t)
      (All-map (Past now) (delivered_one engine o) w (All-weaker (Past now) (λ s. Past now (delivered_one engine o s)) (past_one now o (All-head Timely o os t)) w h))

  -- the least due of some sites with a transfer on its way: as it was, or the lesser of that and the transfer's
  abbrev IsDueWith : Transfer → Option Key → Option Key → Type 0
  IsDueWith o before after = (after ≡ before) ⊎ (after ≡ lesser (Some (transfer_key o)) before)

  due_first : (o : Transfer) (s : Site) (ss : List Site) (rest : Option Key) → IsDueWith o (world_due engine ss) rest → lesser (least_due engine (accepted o s)) rest ≡ lesser (Some (transfer_key o)) (lesser (least_due engine s) (world_due engine ss))
  due_first o s ss rest h =
      let k : Option Key = Some (transfer_key o) in
      let d : Option Key = least_due engine s in
      let w : Option Key = world_due engine ss in
      let one : lesser (lesser k d) w ≡ lesser k (lesser d w) = lesser_assoc k d w in
      ap (λ x. lesser x rest) (due_accepted o s)
      ∙ (elim h as (λ _. lesser (lesser k d) rest ≡ lesser k (lesser d w)) [
        | inl e ↦ ap (lesser (lesser k d)) e ∙ one
        | inr e ↦
            ap (lesser (lesser k d)) e ∙ lesser_assoc k d (lesser k w) ∙ ap (lesser k) (swapped d k w) ∙ sym (lesser_assoc k k (lesser d w)) ∙ ap (λ x. lesser x (lesser d w)) (lesser_self k)
      ])

  due_next : (o : Transfer) (s : Site) (ss : List Site) (rest : Option Key) → IsDueWith o (world_due engine ss) rest → IsDueWith o (lesser (least_due engine s) (world_due engine ss)) (lesser (least_due engine s) rest)
  due_next o s ss rest (inl e) = inl (ap (lesser (least_due engine s)) e)
  due_next o s ss rest (inr e) = inr (ap (lesser (least_due engine s)) e ∙ swapped (least_due engine s) (Some (transfer_key o)) (world_due engine ss))

  due_with : (o : Transfer) (w : List Site) → IsDueWith o (world_due engine w) (world_due engine (map (delivered_one engine o) w))
  due_with o [] = inl refl
  due_with o (s ∷ ss) =
      let rest : Option Key = world_due engine (map (delivered_one engine o) ss) in
      let h : IsDueWith o (world_due engine ss) rest = due_with o ss in
      elim (to o == number s) as (λ b. IsDueWith o (lesser (least_due engine s) (world_due engine ss)) (lesser (least_due engine (if b then accepted o s else s)) rest)) [
        | true ↦ inr (due_first o s ss rest h)
        | false ↦ due_next o s ss rest h
      ]

  -- one to the number at a place makes the lesser the least due
  due_handed_by :
      (o : Transfer) (s : Site) (ss : List Site) (i : ℕ) (b : Bool) → (to o == number s) ≡ b → i < length (s ∷ ss) → number_there engine (s ∷ ss) i ≡ to o
      → ((j : ℕ) → j < length ss → number_there engine ss j ≡ to o → world_due engine (map (delivered_one engine o) ss) ≡ lesser (Some (transfer_key o)) (world_due engine ss))
      → world_due engine (map (delivered_one engine o) (s ∷ ss)) ≡ lesser (Some (transfer_key o)) (world_due engine (s ∷ ss))
  due_handed_by o s ss i true e l h rest =
      let others : Option Key = world_due engine (map (delivered_one engine o) ss) in
      ap (λ b. lesser (least_due engine (if b then accepted o s else s)) others) e ∙ due_first o s ss others (due_with o ss)
  due_handed_by o s ss zero false e l h rest = let same : (to o == number s) ≡ true = same_number (to o) (number s) (sym h) in cc
  due_handed_by o s ss (suc i) false e l h rest =
      let others : Option Key = world_due engine (map (delivered_one engine o) ss) in
      ap (λ b. lesser (least_due engine (if b then accepted o s else s)) others) e
      ∙ ap (lesser (least_due engine s)) (rest i (omega arith) h)
      ∙ swapped (least_due engine s) (Some (transfer_key o)) (world_due engine ss)

  due_handed :
      (o : Transfer) (w : List Site) (i : ℕ) → i < length w → number_there engine w i ≡ to o
      → world_due engine (map (delivered_one engine o) w) ≡ lesser (Some (transfer_key o)) (world_due engine w)
  due_handed o [] i l h = absurd (omega arith)
  due_handed o (s ∷ ss) i l h = due_handed_by o s ss i (to o == number s) refl l h (λ j u g. due_handed o ss j u g)

  -- what is due next after one more is delivered, by what a search for its destination finds
  module _ (os : List Transfer) (o : Transfer) (w : List Site) (due : Option Key) (is : due ≡ world_due engine (delivered engine os w))
      (numbers : List ℕ) (x : ℕ) (r : Result ℕ ℕ) (ascends : Ascends number 0 w) (are : numbers ≡ map number w) (for : x ≡ to o) (search : IsBinarySearchResult (λ y. nat_cmp y x) numbers r) where
    abbrev reached : List Site
    reached = delivered engine os w

    ascend : Ascends number 0 reached
    ascend = ascends_delivered os 0 w ascends

    same : numbers ≡ map number reached
    same = are ∙ sym (numbers_delivered os w)

    pub due_found : is_ok r ≡ true → lesser (Some (transfer_key o)) due ≡ world_due engine (delivered engine (os ++ o ∷ []) w)
    due_found h =
        let place : (i : ℕ) × (r ≡ Ok i) = ok_is r h in
        let there = found_there engine x 0 reached ascend numbers same r search place.0 place.1 in
        ap (lesser (Some (transfer_key o))) is ∙ sym (due_handed o reached place.0 there.0 (there.1 ∙ for)) ∙ sym (ap (world_due engine) (delivered_more os o w))

    pub due_unfound : is_ok r ≡ false → due ≡ world_due engine (delivered engine (os ++ o ∷ []) w)
    due_unfound h =
        let place : (i : ℕ) × (r ≡ Err i) = err_is r h in
        let nowhere = found_nowhere engine x 0 reached ascend numbers same r search place.0 place.1 in
        is ∙ sym (ap (world_due engine) (delivered_more os o w ∙ absent engine o reached (λ k l h. nowhere k l (h ∙ sym for))))

  due_delivered : (P : Option Key → Type 0) (os : List Transfer) (w : List Site) → All (λ o. P (Some (transfer_key o))) os → P (world_due engine w) → P (world_due engine (delivered engine os w))
  due_delivered P [] w h p = p
  due_delivered P (o ∷ os) w h p =
      let Q : Transfer → Type 0 = λ x. P (Some (transfer_key x)) in
      due_delivered P os (map (delivered_one engine o) w) (All-tail Q o os h)
      (elim (due_with o w) as (λ _. P (world_due engine (map (delivered_one engine o) w))) [
        | inl e ↦ subst P (sym e) p
        | inr e ↦ subst P (sym e) (lesser_holds P (Some (transfer_key o)) (world_due engine w) (All-head Q o os h) p)
      ])

  past_by : (os : List Transfer) (w v : List Site) (o : Option Key) → ((now : ℕ) → All (Past now) w → All (Past now) v) → AreOfPast conditions w o → AreOfPast conditions v o
  past_by os w v None f h = tt
  past_by os w v (Some k) f h = f k.at h

  -- nothing is from after what is due next once transfers are delivered
  pub past_due_delivered :
      (os : List Transfer) (w : List Site) → AreOfPast conditions w (world_due engine w) → All (λ o. All (Past (arrival engine o)) w) os → All Timely os
      → AreOfPast conditions (delivered engine os w) (world_due engine (delivered engine os w))
  past_due_delivered os w h p t =
      let v : List Site = delivered engine os w in
      past_by os w v (world_due engine v) (λ now k. past_delivered now os w t k) (due_delivered (AreOfPast conditions w) os w p h)

  -- what is left is a partition again
  pub part_delivered :
      (os : List Transfer) (w : List Site) → IsPart engine conditions w → All (λ o. All (Past (arrival engine o)) w) os → All Timely os
      → IsPart engine conditions (delivered engine os w)
  part_delivered os w h p t =
      record {
        ascends = ascends_delivered os 0 w h.ascends;
        sound = delivered_sound basics os w h.sound;
        past = past_due_delivered os w h.past p t;
      }
