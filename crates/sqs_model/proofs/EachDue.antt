-- What holds of each key that is due at a site, by what the key is of.
use Rattle.std.specs.Prelude.{List, None, Option, Some, [], false, flat_map, map, true, ℕ, ◌*◌, ◌+◌, ◌++◌, ◌==◌, ◌∷◌, ◌≡◌}
use Rattle.std.proofs.Common.{inl, inr, refl, subst}
use Rattle.sim_clock.specs.declared.key.Class.TheVariants.{Release, Sample, Step, Wake}
use Rattle.sim_clock.specs.declared.key.Key.{Key}
use Rattle.sqs_message.specs.declared.message.Message.{Message}
use Rattle.sqs_redrive.specs.declared.transfers.Outbound.{Outbound}
use Rattle.sqs_redrive.specs.MoveTasks.{is_running}
use Rattle.sqs_redrive.specs.Transfers.{transfer_key}
use Rattle.sqs_model.specs.Actor.{Actor}
use Rattle.sqs_model.specs.Dues.{actor_dues, core_dues, dues, expiry_key, message_dues, poll_key, queue_dues, release_due, sample_dues, task_dues, wake_due}
use Rattle.sqs_model.specs.Site.{Core, Poll, Site, number_of}
use Rattle.sqs_model.specs.Task.{Task}
use Rattle.sqs_model.proofs.Branches.{either_by}
use Rattle.sqs_model.proofs.Members.{In, in_append, in_flat, in_map}

-- keys by what they are of
abbrev pub release_key : ℕ → ℕ → Message → Key
release_key site at m = record { at = at; agent = site; class = Release; number = m.number }

abbrev pub wake_key : ℕ → Actor → Key
wake_key at a = record { at = at; agent = a.number; class = Wake; number = a.wakes }

abbrev pub sample_key : ℕ → ℕ → ℕ → Key
sample_key site sample samples = record { at = sample * (samples + 1); agent = site; class = Sample; number = samples }

abbrev pub step_key : Task → Key
step_key t = record { at = t.move.step_at; agent = t.number; class = Step; number = t.move.steps }

-- what holds of each key that is due at a site but for arrivals
pub record EachDue (P : Key → Type 0) (c : Core) : Type 0 where
  pub expiry : (m : Message) → In c.queue.records m → P (expiry_key c.queue.site c.queue.settings.retention m)
  pub release : (m : Message) (at : ℕ) → In c.queue.records m → m.release ≡ Some at → P (release_key c.queue.site at m)
  pub poll : (p : Poll) → In c.polls p → P (poll_key p)
  pub wake : (a : Actor) (at : ℕ) → In c.actors a → a.wake ≡ Some at → P (wake_key at a)
  pub sample : (c.sample == 0) ≡ false → P (sample_key (number_of c) c.sample c.samples)
  pub step : (t : Task) → In c.tasks t → is_running t.move.status ≡ true → P (step_key t)

module _ (P : Key → Type 0) (key : Key) where
  -- a key that is alone
  alone : (k : Key) → P k → In (k ∷ []) key → P key
  alone k p (inl e) = subst P e p
  alone k p (inr e) = absurd e

  -- a key of one list or another
  of_either : (ks js : List Key) → (In ks key → P key) → (In js key → P key) → In (ks ++ js) key → P key
  of_either ks js f g i = elim (in_append ks js key i) as (λ _. P key) [ inl k ↦ f k | inr k ↦ g k ]

  release_due_by : (c : Core) (m : Message) (o : Option ℕ) → EachDue P c → In c.queue.records m → m.release ≡ o → In (release_due c.queue.site m o) key → P key
  release_due_by c m None h i r k = absurd k
  release_due_by c m (Some at) h i r k = alone (release_key c.queue.site at m) (h.release m at i r) k

  message_due : (c : Core) (m : Message) → EachDue P c → In c.queue.records m → In (message_dues c.queue.site c.queue.settings.retention m) key → P key
  message_due c m h i (inl e) = subst P e (h.expiry m i)
  message_due c m h i (inr k) = release_due_by c m m.release h i refl k

  wake_due_by : (c : Core) (a : Actor) (o : Option ℕ) → EachDue P c → In c.actors a → a.wake ≡ o → In (wake_due a o) key → P key
  wake_due_by c a None h i w k = absurd k
  wake_due_by c a (Some at) h i w k = alone (wake_key at a) (h.wake a at i w) k

  pub of_core : (c : Core) → EachDue P c → In (core_dues c) key → P key
  unfolding core_dues
  of_core c h =
      let Of : List Key → Type 0 = λ ks. In ks key → P key in
      let messages : Of (queue_dues c.queue) =
      λ k. let f = in_flat (message_dues c.queue.site c.queue.settings.retention) c.queue.records key k in message_due c f.one h f.within f.gives in
      let polls : Of (map poll_key c.polls) = λ k. let f = in_map poll_key c.polls key k in subst P f.gives (h.poll f.one f.within) in
      let wakes : Of (flat_map actor_dues c.actors) = λ k. let f = in_flat actor_dues c.actors key k in wake_due_by c f.one f.one.wake h f.within refl f.gives in
      let next : Key = sample_key (number_of c) c.sample c.samples in
      let sample : Of (sample_dues c) = either_by Of (c.sample == 0) [] (next ∷ []) (λ e k. absurd k) (λ e. alone next (h.sample e)) in
      let step : (t : Task) → In c.tasks t → Of (task_dues t) =
      λ t i. either_by Of (is_running t.move.status) (step_key t ∷ []) [] (λ e. alone (step_key t) (h.step t i e)) (λ e k. absurd k) in
      let steps : Of (flat_map task_dues c.tasks) = λ k. let f = in_flat task_dues c.tasks key k in step f.one f.within f.gives in
      of_either _ (flat_map task_dues c.tasks)
      (of_either _ (sample_dues c) (of_either _ (flat_map actor_dues c.actors) (of_either _ (map poll_key c.polls) messages polls) wakes) sample) steps

  pub of_site : (s : Site) → ((o : Outbound) → In s.arriving o → P (transfer_key o)) → EachDue P s.core → In (dues s) key → P key
  unfolding dues
  of_site s f h =
      of_either (map transfer_key s.arriving) (core_dues s.core)
      (λ k. let t = in_map transfer_key s.arriving key k in subst P t.gives (f t.one t.within)) (of_core s.core h)
