-- Why a request is refused before anything is written.
use Rattle.std.proofs.Common.{◌≡◌, None, Option, Some, false, true, inl, inr, length, subst, sym, ℕ}
use Rattle.std.specs.Prelude.{if◌then◌else◌, nat_lt}
use Rattle.sim_clock.specs.declared.refusal.Refusal.{Refusal}
use Rattle.sim_exchange.specs.Layout.{is_layout}
use Rattle.sqs_model.specs.Scenario.{Scenario, least_latency}
use Rattle.sqs_rehearsal.specs.Rehearsals.{Bars, Request, Stated}
use Rattle.sqs_rehearsal.specs.Options.{Options, is_within, layout_of, or_else, split_fault, window_fault, workers_fault}
use Rattle.sqs_rehearsal.specs.Splits.{IsUnsplit}
use Rattle.sqs_rehearsal.specs.declared.rehearsal.Fault.TheVariants as faults
use Rattle.sim_clock.specs.declared.refusal.Refusal.TheVariants as refusals
use Rattle.std.proofs.lemmas.Option.{same_Some}

none-some : {A X : Type 0} (x : A) → None ≡ Some x → X
none-some x e = cc

-- what holds of each fault that a split may have holds of the one that it has
module _ (P : Refusal → Type 0) where
  of_window : (least : ℕ) (w : Option ℕ) (e : Refusal) → ((w : ℕ) → P (refusals.WindowTooLong w least)) → window_fault least w ≡ Some e → P e
  of_window least None e p h = none-some e h
  of_window least (Some w) e p h =
      (elim (nat_lt least w) as (λ b. (if b then Some (refusals.WindowTooLong w least) else None) ≡ Some e → P e) [
        | true ↦ λ h. subst P (same_Some (refusals.WindowTooLong w least) e h) (p w)
        | false ↦ λ h. none-some e h
      ]) h

  of_workers : (n : ℕ) (e : Refusal) → P refusals.BadWorkers → workers_fault n ≡ Some e → P e
  of_workers n e p h =
      (elim (is_within 1 64 n) as (λ b. (if b then None else Some refusals.BadWorkers) ≡ Some e → P e) [
        | true ↦ λ h. none-some e h
        | false ↦ λ h. subst P (same_Some refusals.BadWorkers e h) p
      ]) h

  of_both : (a b : Option Refusal) (e : Refusal) → (a ≡ Some e → P e) → (b ≡ Some e → P e) → or_else a b ≡ Some e → P e
  of_both None b e p q h = q h
  of_both (Some r) b e p q h = p h

  of_split : (s : Scenario) (o : Options) (e : Refusal) → P refusals.BadMap → ((w : ℕ) → P (refusals.WindowTooLong w (least_latency s))) → P refusals.BadWorkers
      → split_fault s o ≡ Some e → P e
  of_split s o e m w k h =
      (elim (is_layout (length s.queues) (layout_of (length s.queues) o)) as (λ b. (if b then or_else (window_fault (least_latency s) o.window) (workers_fault o.workers) else Some refusals.BadMap) ≡ Some e → P e) [
        | true ↦ λ h. of_both (window_fault (least_latency s) o.window) (workers_fault o.workers) e (of_window (least_latency s) o.window e w) (of_workers o.workers e k) h
        | false ↦ λ h. subst P (same_Some refusals.BadMap e h) m
      ]) h

-- why it can't be split so
pub split_bars : (q : Request) (s : Stated q) (e : Refusal) → IsUnsplit s.scenario q.options e → Bars q (faults.Refused e)
split_bars q s e (inl memory) = subst (λ (r : Refusal). Bars q (faults.Refused r)) (sym memory) tt
split_bars q s e (inr found) =
    of_split (λ r. split_fault s.scenario q.options ≡ Some r → Bars q (faults.Refused r)) s.scenario q.options e (λ h. (s, h)) (λ w h. (s, h)) (λ h. (s, h)) found found
