-- What sites leave, one site after another.
use Rattle.std.proofs.Common.{◌≡◌, ℕ, zero, suc, ◌+◌, ◌<◌, List, false, true, [], ◌∷◌, ◌++◌, append_assoc, append-nil, arith, flat_map, get_or, length, map, refl, sym, ap, take, ◌∙◌}
use Rattle.std.proofs.lemmas.Cmp.{nat_cmp_total, on_total}
use Rattle.std.proofs.lemmas.List.{map-append}
use Rattle.std.specs.Cmp.{IsTotalOrder}
use Rattle.std.specs.Ordering.{is_lt, nat_cmp, on}
use Rattle.std.specs.Prelude.{if◌then◌else◌}
use Rattle.std.specs.declared.cmp.Ordering.{Ordering}
use Rattle.sim_clock.specs.Order.{inserted_by, key_cmp, key_cmp_total}
use Rattle.sim_clock.specs.declared.key.Key.{Key}
use Rattle.sqs_model.specs.Finals.{final_task, final_transfer, in_key_order, in_number_order}
use Rattle.sqs_model.specs.Task.{Task}
use Rattle.sqs_model.specs.declared.finals.FinalTask.{FinalTask}
use Rattle.sqs_model.specs.declared.finals.FinalTransfer.{FinalTransfer}
use Rattle.sqs_redrive.specs.declared.transfers.Outbound.{Outbound}
use Rattle.sqs_rehearsal.proofs.Sorting.{in_order}
use Rattle.sqs_rehearsal.specs.Left.{keyed}
use Rattle.sqs_model.specs.Site.{Site}

-- what one more of a list leaves, behind what those before it leave
one_more : {X : Type 0} (f : Site → List X) (w : List Site) (i : ℕ) (d : Site) → i < length w → flat_map f (take (i + 1) w) ≡ flat_map f (take i w) ++ f (get_or w i d)
one_more f [] i d h = absurd (omega (arith, h))
one_more f (s ∷ w) zero d h = append-nil (f s)
one_more f (s ∷ w) (suc i) d h =
    let n : suc i + 1 ≡ suc (i + 1) = omega arith in
    ap (λ k. flat_map f (take k (s ∷ w))) n ∙ ap (λ t. f s ++ t) (one_more f w i d (omega (arith, h))) ∙ sym (append_assoc (f s) (flat_map f (take i w)) (f (get_or w i d)))

pub site_added : {X : Type 0} (f : Site → List X) (w : List Site) (i : ℕ) (d x : Site) (old new part : List X)
    → i < length w → x ≡ get_or w i d → part ≡ f x → old ≡ flat_map f (take i w) → new ≡ old ++ part → new ≡ flat_map f (take (i + 1) w)
site_added f w i d x old new part h is p o n =
    n ∙ ap (λ t. t ++ part) o ∙ ap (λ t. flat_map f (take i w) ++ t) (p ∙ ap f is) ∙ sym (one_more f w i d h)

-- the order by a part of each
pub by_key : IsTotalOrder (on (λ (p : Key × FinalTransfer). p.0) key_cmp)
by_key = on_total (λ p. p.0) key_cmp_total

pub by_number : IsTotalOrder (on (λ (t : FinalTask). t.task) nat_cmp)
by_number = on_total (λ t. t.task) nat_cmp_total

map_inserted : {A B : Type 0} (f : A → B) (R : B → B → Ordering) (x : A) (zs : List A) → map f (inserted_by (λ a b. R (f a) (f b)) x zs) ≡ inserted_by R (f x) (map f zs)
map_inserted f R x [] = refl
map_inserted f R x (z ∷ zs) =
    elim (is_lt (R (f x) (f z))) as (λ b. map f (if b then x ∷ (z ∷ zs) else z ∷ inserted_by (λ a b. R (f a) (f b)) x zs) ≡ (if b then f x ∷ (f z ∷ map f zs) else f z ∷ inserted_by R (f x) (map f zs)))
    [ true ↦ refl | false ↦ ap (λ t. f z ∷ t) (map_inserted f R x zs) ]

pub keys_in_order : (os : List Outbound) → map keyed (in_key_order os) ≡ in_order by_key (map keyed os)
keys_in_order [] = refl
keys_in_order (o ∷ os) =
    map_inserted keyed (on (λ (p : Key × FinalTransfer). p.0) key_cmp) o (in_key_order os) ∙ ap (inserted_by (on (λ (p : Key × FinalTransfer). p.0) key_cmp) (keyed o)) (keys_in_order os)

pub numbers_in_order : (ts : List Task) → map final_task (in_number_order ts) ≡ in_order by_number (map final_task ts)
numbers_in_order [] = refl
numbers_in_order (t ∷ ts) =
    map_inserted final_task (on (λ (t : FinalTask). t.task) nat_cmp) t (in_number_order ts) ∙ ap (inserted_by (on (λ (t : FinalTask). t.task) nat_cmp) (final_task t)) (numbers_in_order ts)

pub map_flat : {A B : Type 0} (f : A → B) (g : Site → List A) (w : List Site) → flat_map (λ s. map f (g s)) w ≡ map f (flat_map g w)
map_flat f g [] = refl
map_flat f g (s ∷ w) = ap (λ t. map f (g s) ++ t) (map_flat f g w) ∙ sym (map-append f (g s) (flat_map g w))

pub without_keys : (os : List Outbound) → map (λ (p : Key × FinalTransfer). p.1) (map keyed os) ≡ map final_transfer os
without_keys [] = refl
without_keys (o ∷ os) = ap (λ t. final_transfer o ∷ t) (without_keys os)

-- what is made of the items of a list, one after another: those of the items so far stand behind others
pub record IsAdding {A B : Type 0} (f : A → B) (xs : List A) (before : List B) (rest : List A) (now : List B) : Type 0 where
  pub done : List A
  pub whole : done ++ rest ≡ xs
  pub added : now ≡ before ++ map f done

module _ {A B : Type 0} (f : A → B) (xs : List A) (before : List B) where
  pub adding_none : (rest : List A) → rest ≡ xs → IsAdding f xs before rest before
  adding_none rest e = record { done = []; whole = e; added = sym (append-nil before) }

  pub adding_more : (rest after : List A) (x : A) (y : B) (old new : List B) → rest ≡ x ∷ after → y ≡ f x → new ≡ old ++ y ∷ [] → IsAdding f xs before rest old → IsAdding f xs before after new
  adding_more rest after x y old new e is n h =
      record {
        done = h.done ++ x ∷ [];
        whole = append_assoc h.done (x ∷ []) after ∙ ap (λ r. h.done ++ r) (sym e) ∙ h.whole;
        added =
            n ∙ ap (λ t. t ++ y ∷ []) h.added ∙ append_assoc before (map f h.done) (y ∷ [])
            ∙ ap (λ t. before ++ t) (ap (λ z. map f h.done ++ z ∷ []) is ∙ sym (map-append f h.done (x ∷ [])));
      }

  pub adding_all : (rest : List A) (now : List B) → rest ≡ [] → IsAdding f xs before rest now → now ≡ before ++ map f xs
  adding_all rest now e h =
      let all : h.done ≡ xs = sym (append-nil h.done) ∙ ap (λ r. h.done ++ r) (sym e) ∙ h.whole in
      h.added ∙ ap (λ ms. before ++ map f ms) all
