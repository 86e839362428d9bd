-- A handling makes nothing due at its own moment or before, and what it handled is due no more.
use Rattle.std.specs.Prelude.{All, Some, false, find, true, ℕ, ◌+◌, ◌<◌, ◌==◌, ◌≡◌, ◌≤◌, Option}
use Rattle.std.proofs.Common.{ap, arith, refl, sym, ◌∙◌}
use Rattle.sim_clock.specs.declared.key.Key.{Key}
use Rattle.sim_clock.proofs.Least.{key_tied}
use Rattle.sim_clock.proofs.Orderings.{key_self}
use Rattle.sqs_message.specs.declared.message.Message.{Message}
use Rattle.sqs_redrive.specs.declared.transfers.Outbound.{Outbound}
use Rattle.sqs_redrive.specs.Transfers.{transfer_key}
use Rattle.sqs_model.specs.Actor.{Actor}
use Rattle.sqs_model.specs.Dues.{dues, expiry_key, poll_key}
use Rattle.sqs_model.specs.Progress.{HandlingMovesOn, IsSound, count_due}
use Rattle.sqs_model.specs.Site.{number_of, Effect, Poll, Site, has_key, task_numbered}
use Rattle.sqs_model.specs.Step.{Handled, handle_arrival, handle_class, handle_expiry, handle_poll_end, handle_release, handle_sample, handle_step, handle_wake, handled, left_with, with_polls}
use Rattle.sqs_redrive.specs.MoveTasks.{is_running}
use Rattle.sqs_model.specs.Task.{Task}
use Rattle.sqs_model.proofs.Counts.{count_is, find_picked, tick, tick_now, total_without}
use Rattle.sqs_model.proofs.Members.{From, In, in_contains, in_found}
use Rattle.sqs_model.proofs.EachDue.{of_site, release_key, sample_key, step_key, wake_key}
use Rattle.sqs_model.proofs.Kept.{handled_number}
use Rattle.sqs_model.proofs.Weights.{Weight, site_is, site_weight, ticks}
use Rattle.sqs_model.proofs.Effects.{KeepsEffect}
use Rattle.sqs_model.proofs.StepMoves.{arrival_keeps, expiry_falls, poll_end_falls, release_falls, sample_falls, step_falls, wake_falls, with_polls_keep}

-- a handling that takes its key away, by weights and by the keys of a moment or before
record Weighs (key : Key) (w : Weight key.at) (s : Site) (h : Handled) : Type 0 where
  pub sound : IsSound h.site.core
  pub fewer : site_weight w h.site + w.of key ≤ site_weight w s
  pub later : All (λ o. key.at < o.at) h.sent

pub record Falls (key : Key) (e : ℕ) (s : Site) (h : Handled) : Type 0 where
  pub sound : IsSound h.site.core
  pub fewer : count_due e (dues h.site) + tick e key.at ≤ count_due e (dues s)
  pub later : All (λ o. key.at < o.at) h.sent

-- the same by every weight
abbrev FallsBy : Site → Key → Type 0
FallsBy s key = (w : Weight key.at) → w.site ≡ number_of s.core → Weighs key w s (handled key s)

from_core : (key : Key) (w : Weight key.at) (s : Site) (f : Effect) → KeepsEffect key w (w.of key) s.core f → Weighs key w s (left_with s.arriving (with_polls key f))
from_core key w s f k =
    let g : KeepsEffect key w (w.of key) s.core (with_polls key f) = with_polls_keep key w (w.of key) s.core f k in
    record { sound = g.sound; fewer = omega (arith, g.fewer); later = g.later }

expiry_case : (s : Site) (m : Message) → IsSound s.core → In s.core.queue.records m → FallsBy s (expiry_key s.core.queue.site s.core.queue.settings.retention m)
unfolding handled handle_class
expiry_case s m h i w p =
    let key : Key = expiry_key s.core.queue.site s.core.queue.settings.retention m in
    from_core key w s (handle_expiry key s.core) (expiry_falls key w s.core m h i (ap (λ n. expiry_key n s.core.queue.settings.retention m) (sym p)))

release_case : (s : Site) (m : Message) (at : ℕ) → IsSound s.core → In s.core.queue.records m → m.release ≡ Some at → FallsBy s (release_key s.core.queue.site at m)
unfolding handled handle_class
release_case s m at h i r w p =
    let key : Key = release_key s.core.queue.site at m in
    from_core key w s (handle_release key s.core) (release_falls key w s.core m h i (ap (λ n. release_key n at m) (sym p)) r)

poll_case : (s : Site) (p : Poll) → IsSound s.core → In s.core.polls p → FallsBy s (poll_key p)
unfolding handled handle_class
poll_case s p h i w n = from_core (poll_key p) w s (handle_poll_end (poll_key p) s.core) (poll_end_falls (poll_key p) w s.core p h i refl)

wake_case : (s : Site) (a : Actor) (at : ℕ) → IsSound s.core → In s.core.actors a → a.wake ≡ Some at → FallsBy s (wake_key at a)
unfolding handled handle_class
wake_case s a at h i e w p = from_core (wake_key at a) w s (handle_wake (wake_key at a) s.core) (wake_falls (wake_key at a) w s.core a h i refl e)

sample_case : (s : Site) → IsSound s.core → (s.core.sample == 0) ≡ false → FallsBy s (sample_key (number_of s.core) s.core.sample s.core.samples)
unfolding handled handle_class
sample_case s h z w p =
    let key : Key = sample_key (number_of s.core) s.core.sample s.core.samples in
    from_core key w s (handle_sample key s.core) (sample_falls key w s.core h z (ap (λ n. sample_key n s.core.sample s.core.samples) (sym p)))

step_case : (s : Site) (t : Task) → IsSound s.core → In s.core.tasks t → is_running t.move.status ≡ true → FallsBy s (step_key t)
unfolding handled handle_class
step_case s t h i r w p = from_core (step_key t) w s (handle_step (step_key t) s.core (task_numbered t.number s.core)) (step_falls (step_key t) w s.core t h i refl r)

arrival_case : (s : Site) (o : Outbound) → IsSound s.core → In s.arriving o → FallsBy s (transfer_key o)
unfolding handled
arrival_case s o h i w p =
    let key : Key = transfer_key o in
    let f : From s.arriving (λ x. find (has_key key) s.arriving ≡ Some x) = in_found (has_key key) s.arriving o i (key_self key) in
    let u : w.of key ≡ w.of (transfer_key f.one) = ap w.of (key_tied key (transfer_key f.one) (find_picked (has_key key) s.arriving f.one f.gives)) in
    let came : Option Outbound = find (has_key key) s.arriving in
    let g : KeepsEffect key w 0 s.core (with_polls key (handle_arrival key came s.core)) = with_polls_keep key w 0 s.core (handle_arrival key came s.core) (arrival_keeps key w s.core came h) in
    record { sound = g.sound; fewer = omega (arith, g.fewer, u, total_without (has_key key) (λ x. w.of (transfer_key x)) s.arriving f.one f.gives); later = g.later }

-- each key that is due
site_weighs : (s : Site) (key : Key) → IsSound s.core → In (dues s) key → FallsBy s key
site_weighs s key h =
    of_site (FallsBy s) key s (λ o. arrival_case s o h)
    (record {
      expiry = λ m. expiry_case s m h;
      release = λ m at. release_case s m at h;
      poll = λ p. poll_case s p h;
      wake = λ a at. wake_case s a at h;
      sample = sample_case s h;
      step = λ t. step_case s t h;
    })

-- how many dues of a site there are by a moment
pub count_as : (now e : ℕ) (l : e ≤ now) (n : ℕ) (s : Site) → n ≡ number_of s.core → count_due e (dues s) ≡ site_weight (ticks now e n l) s
count_as now e l n s p = count_is e (dues s) ∙ site_is (ticks now e n l) s p

pub site_from : (s : Site) (key : Key) → IsSound s.core → In (dues s) key → (e : ℕ) → e ≤ key.at → Falls key e s (handled key s)
site_from s key h i e l =
    let n : ℕ = number_of s.core in
    let x : Weighs key (ticks key.at e n l) s (handled key s) = site_weighs s key h i (ticks key.at e n l) refl in
    record { sound = x.sound; fewer = omega (arith, x.fewer, count_as key.at e l n s refl, count_as key.at e l n (handled key s).site (sym (handled_number key s))); later = x.later }

-- the law
pub moves_on : HandlingMovesOn
moves_on key s h c =
    let f = site_from s key h (in_contains (dues s) key c) in
    let now : Falls key key.at s (handled key s) = f key.at (omega arith) in
    let one : tick key.at key.at ≡ 1 = tick_now key.at key.at (omega arith) in
    record {
      sound = now.sound;
      before = λ moment m. let g : Falls key moment s (handled key s) = f moment (omega arith) in omega (arith, g.fewer);
      falls = omega (arith, now.fewer);
      sent_later = now.later;
    }
