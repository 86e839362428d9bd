-- The laws of every site, of those of SQS.
use Rattle.std.specs.Ordering.{is_lt, on}
use Rattle.std.specs.Prelude.{List, [], false, if◌then◌else◌, map, true, ℕ, ◌+◌, ◌++◌, ◌<◌, ◌∷◌, ◌≡◌, ◌≤◌, ◌⊎◌}
use Rattle.std.specs.declared.cmp.Ordering.{Ordering}
use Rattle.std.proofs.Common.{ap, arith, inl, inr, refl, subst, ◌∙◌}
use Rattle.std.proofs.lemmas.List.Elements.{All-weaker}
use Rattle.sim_clock.specs.declared.key.Key.{Key}
use Rattle.sim_clock.specs.Order.{inserted_by, key_cmp}
use Rattle.sim_clock.proofs.Lists.{all_inserted}
use Rattle.sim_engine.specs.Laws.{SiteLaws}
use Rattle.sqs_message.specs.declared.message.Message.{Message}
use Rattle.sqs_redrive.specs.declared.transfers.Outbound.{Outbound}
use Rattle.sqs_redrive.specs.Transfers.{transfer_key}
use Rattle.sqs_model.specs.Dues.{core_dues, dues}
use Rattle.sqs_model.specs.Progress.{KeepsTime, WasEnqueuedBy, count_due}
use Rattle.sqs_model.specs.Queue.{Entry}
use Rattle.sqs_model.specs.Site.{Site, accepted, number_of}
use Rattle.sqs_model.specs.Step.{handled}
use Rattle.sqs_model.proofs.Counts.{tick, tick_now, tick_past, total}
use Rattle.sqs_model.proofs.Delivery.{accepted_sorted, accepted_swap, handled_accepted, handled_sorted, least_due_accepted}
use Rattle.sqs_model.proofs.Kept.{handled_number, handled_recent}
use Rattle.sqs_model.specs.Members.{In}
use Rattle.sqs_model.proofs.Members.{From, In, in_append, in_left, in_map, in_right, into_map}
use Rattle.sqs_model.proofs.SiteMoves.{Falls, count_as, site_from}
use Rattle.sqs_model.proofs.Times.{handled_timely}
use Rattle.sqs_model.specs.Conditions.{IsOfPast, sqs_conditions}
use Rattle.sqs_model.specs.Sqs.{sqs}

-- what is due after a transfer is accepted
inserted_in : {A : Type 0} (R : A → A → Ordering) (x : A) (xs : List A) (y : A) → In (inserted_by R x xs) y → (x ≡ y) ⊎ In xs y
inserted_in R x [] y h = h
inserted_in R x (z ∷ zs) y h =
    elim (is_lt (R x z)) as (λ b. In (if b then x ∷ (z ∷ zs) else z ∷ inserted_by R x zs) y → (x ≡ y) ⊎ In (z ∷ zs) y) [
      | true ↦ λ i. i
      | false ↦ λ i.
          elim i as (λ _. (x ≡ y) ⊎ In (z ∷ zs) y) [
            | inl e ↦ inr (inl e)
            | inr k ↦ elim (inserted_in R x zs y k) as (λ _. (x ≡ y) ⊎ In (z ∷ zs) y) [ inl e ↦ inl e | inr l ↦ inr (inr l) ]
          ]
    ] h

accepted_in : (o : Outbound) (s : Site) (j : Key) → In (dues (accepted o s)) j → (transfer_key o ≡ j) ⊎ In (dues s) j
unfolding dues
accepted_in o s j h =
    elim (in_append (map transfer_key (accepted o s).arriving) (core_dues s.core) j h) as (λ _. (transfer_key o ≡ j) ⊎ In (map transfer_key s.arriving ++ core_dues s.core) j) [
      | inr k ↦ inr (in_right (map transfer_key s.arriving) (core_dues s.core) j k)
      | inl k ↦
          let f : From (accepted o s).arriving (λ x. transfer_key x ≡ j) = in_map transfer_key (accepted o s).arriving j k in
          elim (inserted_in (on transfer_key key_cmp) o s.arriving f.one f.within) as (λ _. (transfer_key o ≡ j) ⊎ In (map transfer_key s.arriving ++ core_dues s.core) j) [
            | inl e ↦ inl (ap transfer_key e ∙ f.gives)
            | inr l ↦ inr (in_left (map transfer_key s.arriving) (core_dues s.core) j (subst (In (map transfer_key s.arriving)) f.gives (into_map transfer_key s.arriving f.one l)))
          ]
    ]

pub total_inserted : {A : Type 0} (f : A → ℕ) (R : A → A → Ordering) (x : A) (xs : List A) → total f (inserted_by R x xs) ≡ f x + total f xs
total_inserted f R x [] = refl
total_inserted f R x (y ∷ ys) =
    elim (is_lt (R x y)) as (λ b. total f (if b then x ∷ (y ∷ ys) else y ∷ inserted_by R x ys) ≡ f x + (f y + total f ys)) [
      | true ↦ refl
      | false ↦ omega (arith, total_inserted f R x ys)
    ]

accepted_count : (e : ℕ) (o : Outbound) (s : Site) → e < o.at → count_due e (dues (accepted o s)) ≤ count_due e (dues s)
accepted_count e o s l =
    let f : Outbound → ℕ = λ x. tick e (transfer_key x).at in
    let t : total f (inserted_by (on transfer_key key_cmp) o s.arriving) ≡ tick e o.at + total f s.arriving = total_inserted f (on transfer_key key_cmp) o s.arriving in
    let z : tick e o.at ≡ 0 = tick_past e o.at l in
    omega (arith, count_as e e (omega arith) (number_of s.core) s refl, count_as e e (omega arith) (number_of s.core) (accepted o s) refl)

later_site : (a b : ℕ) → a ≤ b → (s : Site) → IsOfPast a s → IsOfPast b s
later_site a b l s p =
    record {
      recent = All-weaker (λ (e : Entry). e.end ≤ a + 300000) (λ e. e.end ≤ b + 300000) (λ e m. omega arith) s.core.queue.entries p.recent;
      filled = All-weaker (λ (m : Message). m.enqueued ≤ a) (λ m. m.enqueued ≤ b) (λ m n. omega arith) s.core.queue.records p.filled;
      arriving = p.arriving;
    }

pub sqs_laws : SiteLaws sqs sqs_conditions
sqs_laws =
    record {
      number_handled = λ key s. handled_number key s;
      number_accepted = λ o s. refl;
      sorted_handled = λ key s w. handled_sorted key s w;
      sorted_accepted = λ o s w. accepted_sorted o s w;
      swapped = λ o p s n. accepted_swap o p s n;
      handled_apart = λ key o s n w. handled_accepted key o s n w;
      due_accepted = λ o s. least_due_accepted o s;
      in_accepted = accepted_in;
      count_accepted = λ e o s l. accepted_count e o s l;
      kept_core = λ o s. refl;
      moving = λ key s h i.
          let now : Falls key key.at s (handled key s) = site_from s key h i key.at (omega arith) in
          record {
            sound = now.sound;
            before = λ e l. let f : Falls key e s (handled key s) = site_from s key h i e (omega arith) in omega (arith, f.fewer, tick_past e key.at l);
            falls = omega (arith, now.fewer, tick_now key.at key.at (omega arith));
            sent_later = now.later;
          };
      sound_accepted = λ o s h. h;
      past_later = λ a b s l p. later_site a b l s p;
      past_handled = λ key s h. let k : KeepsTime key (handled key s) = handled_timely key s h.filled h.arriving in record { recent = handled_recent key s h.recent; filled = k.filled; arriving = k.arriving };
      sent_timely = λ key s h. (handled_timely key s h.filled h.arriving).sent;
      past_accepted = λ now o s t h. record { recent = h.recent; filled = h.filled; arriving = all_inserted (λ (x : Outbound). WasEnqueuedBy x.at x.load) (on transfer_key key_cmp) o s.arriving t h.arriving };
    }
