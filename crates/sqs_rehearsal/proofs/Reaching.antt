-- The marks that are left when nothing spreads any more.
use Rattle.std.proofs.Common.{Bool, List, None, Option, Some, [], ap, arith, false, flat_map, get_or, inl, inr, length, map, nat_lt, refl, slice_get, suc, sym, true, true≢false, zero, ℕ, ◌&&◌, ◌+◌, ◌++◌, ◌<◌, ◌∙◌, ◌∷◌, ◌≡◌, ◌≤◌, ◌⊎◌}
use Rattle.std.proofs.lemmas.Bool.Decides.{nat_tests}
use Rattle.std.proofs.lemmas.Option.{slice_get-get_or, slice_get_past}
use Rattle.sim_engine.specs.Members.{In}
use Rattle.sim_engine.specs.declared.edge.Edge.{Edge}
use Rattle.sqs_redrive.specs.declared.settings.QueueSettings.{QueueSettings}
use Rattle.std.specs.List.{enumerate_from}
use Rattle.sqs_redrive.specs.declared.settings.Latency.{Latency}
use Rattle.sqs_redrive.specs.declared.settings.Policy.{Policy}
use Rattle.sqs_redrive.specs.declared.settings.TaskSettings.{TaskSettings}
use Rattle.sqs_model.specs.declared.agents.ActorSettings.{ActorSettings}
use Rattle.sqs_model.specs.declared.agents.Forwarding.{Forwarding}
use Rattle.sqs_model.specs.declared.agents.Role.{Role}
use Rattle.sqs_model.specs.declared.agents.Role.TheVariants.{Consumer, Producer, Scaler, Script}
use Rattle.sim_scenario.specs.Ranges.{IsLinked, RoleWithin}
use Rattle.sqs_model.specs.Scenario.{MayBeWithin, Scenario, edge, edges, forward_edges, policy_edges, role_edges, task_edges, task_goals}
use Rattle.sqs_model.proofs.Members.{in_append, in_flat, in_left, in_map, in_right, of_all}
use Rattle.sqs_laws.specs.Reach.{AreOutOfReach, DifferOutOfReach, NoneLeadsTo, is_marked}
use Rattle.sqs_rehearsal.specs.Reaching.{AreMarked, MayStay}

-- what is marked is within the marks
pub marked_within : (marks : List Bool) (n : ℕ) → is_marked marks n ≡ true → n < length marks
marked_within [] n h = absurd (true≢false (sym h))
marked_within (m ∷ marks) zero h = omega arith
marked_within (m ∷ marks) (suc n) h = let l : n < length marks = marked_within marks n h in omega arith

first_true : (a b : Bool) → (a && b) ≡ true → a ≡ true
first_true true b h = refl
first_true false b h = h

second_true : (a b : Bool) → (a && b) ≡ true → b ≡ true
second_true true b h = h
second_true false b h = absurd (true≢false (sym h))

either_false : (a b : Bool) → (a && b) ≡ false → (a ≡ false) ⊎ ((a ≡ true) × (b ≡ false))
either_false true b h = inr (refl, h)
either_false false b h = inl refl

-- the ways of a scenario begin at its queues
abbrev pub BeginWithin : Scenario → Type 0
BeginWithin s = (e : Edge) → In (edges s) e → e.from < length s.queues

begin_policy : (n : ℕ) (policy : Option Policy) (e : Edge) → In (policy_edges n policy) e → e.from ≡ n
begin_policy n None e i = absurd i
begin_policy n (Some p) e (inl i) = sym (ap (λ (w : Edge). w.from) i)
begin_policy n (Some p) e (inr i) = absurd i

abbrev policies_from : ℕ → List QueueSettings → List Edge
policies_from k qs = flat_map (λ x. policy_edges x.0 x.1.policy) (enumerate_from k qs)

abbrev actor_ways : Scenario → List Edge
actor_ways s = flat_map (λ a. role_edges a.home a.role) s.actors

abbrev task_ways : Scenario → List Edge
task_ways s = flat_map (task_edges s) s.tasks

begin_policies : (k : ℕ) (qs : List QueueSettings) (e : Edge) → In (policies_from k qs) e → e.from < k + length qs
begin_policies k [] e i = absurd i
begin_policies k (q ∷ qs) e i = by (in_append (policy_edges k q.policy) (policies_from (k + 1) qs) e i) (begin_policies (k + 1) qs e)
  where
    by : In (policy_edges k q.policy) e ⊎ In (policies_from (k + 1) qs) e → (In (policies_from (k + 1) qs) e → e.from < k + 1 + length qs) → e.from < k + length (q ∷ qs)
    by (inl j) rest = let from : e.from ≡ k = begin_policy k q.policy e j in omega arith
    by (inr j) rest = let from : e.from < k + 1 + length qs = rest j in omega arith

begin_each : (n : ℕ) (l : Latency) (goals : List ℕ) (e : Edge) → In (map (λ to. edge n to l) goals) e → e.from ≡ n
begin_each n l goals e i = let one = in_map (λ to. edge n to l) goals e i in sym (ap (λ (w : Edge). w.from) one.gives)

begin_role : (n : ℕ) (role : Role) (e : Edge) → In (role_edges n role) e → e.from ≡ n
begin_role n (Script script) e i = absurd i
begin_role n (Producer p) e i = absurd i
begin_role n (Scaler s) e i = absurd i
begin_role n (Consumer c) e i = by c.forward i
  where
    by : (f : Option Forwarding) → In (forward_edges n f) e → e.from ≡ n
    by None j = absurd j
    by (Some f) j = begin_each n f.latency f.to e j

-- the ways of a scenario that was read begin at its queues
pub begin_within : (s : Scenario) → IsLinked s → BeginWithin s
begin_within s linked e i = by (in_append (policies_from 0 s.queues ++ actor_ways s) (task_ways s) e i)
  where
    by_front : In (policies_from 0 s.queues) e ⊎ In (actor_ways s) e → e.from < length s.queues
    by_front (inl j) = let from : e.from < 0 + length s.queues = begin_policies 0 s.queues e j in omega arith
    by_front (inr j) =
        let one = in_flat (λ (a : ActorSettings). role_edges a.home a.role) s.actors e j in
        let home : one.one.home < length s.queues = (of_all (λ (a : ActorSettings). (a.home < length s.queues) × RoleWithin (length s.queues) a.role) s.actors one.one linked.actors one.within).0 in
        let from : e.from ≡ one.one.home = begin_role one.one.home one.one.role e one.gives in omega arith

    by : In (policies_from 0 s.queues ++ actor_ways s) e ⊎ In (task_ways s) e → e.from < length s.queues
    by (inl j) = by_front (in_append (policies_from 0 s.queues) (actor_ways s) e j)
    by (inr j) =
        let one = in_flat (task_edges s) s.tasks e j in
        let home : one.one.home < length s.queues = (of_all (λ (t : TaskSettings). (t.home < length s.queues) × MayBeWithin (length s.queues) t.to) s.tasks one.one linked.tasks one.within).0 in
        let from : e.from ≡ one.one.home = begin_each one.one.home one.one.latency (task_goals s one.one one.one.to) e one.gives in omega arith

-- a queue that a scenario has is none of those that another one has and are the same in both
none_there : (xs ys : List QueueSettings) (n : ℕ) → slice_get xs n ≡ slice_get ys n → length xs ≤ n → n < length ys → ⊥
none_there xs [] n same l k = omega arith
none_there xs (y ∷ ys) n same l k =
    let none : None ≡ Some (get_or (y ∷ ys) n y) = sym (slice_get_past xs n l) ∙ same ∙ slice_get-get_or (y ∷ ys) n y k in cc

below : (m n : ℕ) → nat_lt m n ≡ true → m < n
below m n h = grind (arith, nat_tests)

is_below : (m n : ℕ) → m < n → nat_lt m n ≡ true
is_below m n l = grind (arith, nat_tests)

not_below : (m n : ℕ) → nat_lt m n ≡ false → n ≤ m
not_below m n h = grind (arith, nat_tests)

module _ (s t : Scenario) (hs : BeginWithin s) (ht : BeginWithin t) (among : ℕ → Bool) (d : DifferOutOfReach among s t) where
  -- those of the queues that the first scenario has
  abbrev within : ℕ → Bool
  within n = among n && nat_lt n (length s.queues)

  not_within : (n : ℕ) → among n ≡ false → within n ≡ false
  not_within n h = rw h refl

  none_leads : NoneLeadsTo within (edges s ++ edges t)
  none_leads e i h = not_within e.to (leads (in_append (edges s) (edges t) e i) (either_false (among e.from) (nat_lt e.from (length s.queues)) h))
    where
      leads : In (edges s) e ⊎ In (edges t) e → (among e.from ≡ false) ⊎ ((among e.from ≡ true) × (nat_lt e.from (length s.queues) ≡ false)) → among e.to ≡ false
      leads (inl j) (inl k) = d.ways.0 e j k
      leads (inr j) (inl k) = d.ways.1 e j k
      leads (inl j) (inr k) = let l : e.from < length s.queues = hs e j in absurd (omega (arith, not_below _ _ k.1))
      leads (inr j) (inr k) = absurd (none_there s.queues t.queues e.from (d.same e.from k.0).queue (not_below _ _ k.1) (ht e j))

  all_stay : (n : ℕ) → within n ≡ true → (n < length s.queues) × MayStay s t n
  all_stay n h = (
    below n (length s.queues) (second_true (among n) _ h),
    (record { horizon = d.horizon; seed = d.seed; sample = d.sample }, d.same n (first_true (among n) _ h)),
  )

-- marks are right if they are of queues that may stay and of all that are needed, and no way leads to these
pub are_right : (s t : Scenario) (marks : List Bool) → BeginWithin s → BeginWithin t
    → length marks ≡ length s.queues
    → ((n : ℕ) → is_marked marks n ≡ true → MayStay s t n)
    → ((among : ℕ → Bool) → NoneLeadsTo among (edges s ++ edges t) → ((n : ℕ) → among n ≡ true → (n < length s.queues) × MayStay s t n) → AreMarked among marks)
    → NoneLeadsTo (is_marked marks) (edges s ++ edges t)
    → AreOutOfReach s t marks
are_right s t marks hs ht many stay needed closed = record {
  many = many;
  differ = λ n h. record {
    horizon = (stay n h).0.horizon;
    seed = (stay n h).0.seed;
    sample = (stay n h).0.sample;
    same = λ m k. (stay m k).1;
    ways = (λ e i. closed e (in_left (edges s) (edges t) e i), λ e i. closed e (in_right (edges s) (edges t) e i));
  };
  most = λ among d n l h.
      needed (within s t hs ht among d) (none_leads s t hs ht among d) (all_stay s t hs ht among d) n (rw (h, is_below n (length s.queues) l) refl);
}
