-- Two scenarios that differ only out of reach of some queues run alike there.
use Rattle.sqs_laws.proofs.Terms.{Edge, edges, enumerate_from, filter-append, final_message, IsFine, IsRunOf, IsSoundScenario, IsSoundSetting, Message, messages_at, opening, opening_site, Queue, QueueSettings, Row, Run, Scenario, setting_of, Site, sound_setting, sources, sqs, sqs_laws}
use Rattle.std.specs.Prelude.{Bool, List, None, Some, [], false, filter, flat_map, if◌then◌else◌, map, slice_get, suc, true, ℕ, ◌+◌, ◌++◌, ◌<◌, ◌==◌, ◌∷◌, ◌≡◌}
use Rattle.std.proofs.Common.{ap, arith, refl, subst, sym, ◌∙◌}
use Rattle.sim_engine.specs.Members.{In}
use Rattle.sim_engine.specs.Parts.{is_of, part_of}
use Rattle.sim_engine.specs.World.{IsWholeRun}
use Rattle.sim_engine.proofs.Branches.{by_cases}
use Rattle.sim_engine.proofs.Premises.{Premises}
use Rattle.sqs_model.specs.declared.finals.FinalMessage.{FinalMessage}
use Rattle.sqs_model.specs.Conditions.{sqs_conditions}
use Rattle.sqs_model.specs.Finals.{finals_of}
use Rattle.sqs_model.specs.Ways.{FitsWays, Leads, home_of}
use Rattle.sqs_laws.specs.Reach.{DifferOutOfReach, IsSameAt, NoWayLeadsTo, left_at, rows_at}
use Rattle.sqs_laws.proofs.Apart.{one_whole, part_is_run, part_run}

filter_same : {A : Type 0} (p q : A → Bool) (xs : List A) → ((x : A) → p x ≡ q x) → filter p xs ≡ filter q xs
filter_same p q [] h = refl
filter_same p q (x ∷ xs) h = rw (h x, filter_same p q xs h) refl

module _ (among : ℕ → Bool) where
  -- the queues as the partition 0, the others as another
  abbrev pub owner : ℕ → ℕ
  owner n = if among n then 0 else 1

  pub owned_by : (b : Bool) → (if b then 0 else 1) < 2
  owned_by true = omega arith
  owned_by false = omega arith

  is_among_by : (b : Bool) → ((if b then 0 else 1) == 0) ≡ b
  is_among_by true = refl
  is_among_by false = refl

  is_among : (n : ℕ) → (owner n == 0) ≡ among n
  is_among n = is_among_by (among n)

  -- what the laws of partitions stand on
  abbrev pub premises : (s : Scenario) → IsSoundScenario s → Premises sqs sqs_conditions
  premises s h =
      let sound : IsSoundSetting sqs sqs_conditions (home_of s) (IsFine (edges s) (home_of s) (sources s)) (FitsWays (Leads s)) (setting_of s) = sound_setting s h in
      record {
        basics = sqs_laws;
        setting = setting_of s;
        home = home_of s;
        Fine = IsFine (edges s) (home_of s) (sources s);
        Fits = FitsWays (Leads s);
        sound = record { laws = sound.laws; opens = sound.opens; numbered = sound.numbered };
        owner = owner;
        parts = 2;
        owned = λ n. owned_by (among n);
      }

  closed : (s : Scenario) → NoWayLeadsTo among s → (e : Edge) → In (edges s) e → (owner e.from == 0) ≡ false → (owner e.to == 0) ≡ false
  closed s h e i f = is_among e.to ∙ h e i (sym (is_among e.from) ∙ f)

  -- they begin alike
  module _ (s t : Scenario) (d : DifferOutOfReach among s t) where
    begins_alike : (n : ℕ) (q : QueueSettings) → IsSameAt s t n → opening_site s (n, q) ≡ opening_site t (n, q)
    begins_alike n q same = rw (same.actors, same.tasks, d.seed, d.sample) refl

    there : (u : Scenario) (n : ℕ) (q : QueueSettings) → among n ≡ true → is_of sqs owner 0 (opening_site u (n, q)) ≡ true
    there u n q e = is_among n ∙ e

    away : (u : Scenario) (n : ℕ) (q : QueueSettings) → among n ≡ false → is_of sqs owner 0 (opening_site u (n, q)) ≡ false
    away u n q e = is_among n ∙ e

    same_from : (n : ℕ) (xs ys : List QueueSettings) → ((i : ℕ) → among (n + i) ≡ true → slice_get xs i ≡ slice_get ys i)
        → part_of sqs owner 0 (map (opening_site s) (enumerate_from n xs)) ≡ part_of sqs owner 0 (map (opening_site t) (enumerate_from n ys))
    same_from n [] [] f = refl
    same_from n [] (y ∷ ys) f =
        by_cases (among n) (λ e. let none : None ≡ Some y = f 0 (let is : n + 0 ≡ n = omega arith in ap among is ∙ e) in cc)
        (λ e. rw (away t n y e) (same_from (n + 1) [] ys (λ i k. f (suc i) (let is : n + suc i ≡ n + 1 + i = omega arith in ap among is ∙ k))))
    same_from n (x ∷ xs) [] f =
        by_cases (among n) (λ e. let none : Some x ≡ None = f 0 (let is : n + 0 ≡ n = omega arith in ap among is ∙ e) in cc)
        (λ e. rw (away s n x e) (same_from (n + 1) xs [] (λ i k. f (suc i) (let is : n + suc i ≡ n + 1 + i = omega arith in ap among is ∙ k))))
    same_from n (x ∷ xs) (y ∷ ys) f =
        let rest : part_of sqs owner 0 (map (opening_site s) (enumerate_from (n + 1) xs)) ≡ part_of sqs owner 0 (map (opening_site t) (enumerate_from (n + 1) ys)) =
        same_from (n + 1) xs ys (λ i k. f (suc i) (let is : n + suc i ≡ n + 1 + i = omega arith in ap among is ∙ k)) in
        by_cases (among n)
        (λ e.
        let both : Some x ≡ Some y = f 0 (let is : n + 0 ≡ n = omega arith in ap among is ∙ e) in
        let one : x ≡ y = cc in
        let first : opening_site s (n, x) ≡ opening_site t (n, y) = ap (λ q. opening_site s (n, q)) one ∙ begins_alike n y (d.same n e) in
        rw (there s n x e) (ap (λ z. z ∷ part_of sqs owner 0 (map (opening_site s) (enumerate_from (n + 1) xs))) first ∙ ap (λ zs. opening_site t (n, y) ∷ zs) rest))
        (λ e. rw (away s n x e) rest)

    same_opening : part_of sqs owner 0 (opening s) ≡ part_of sqs owner 0 (opening t)
    same_opening = same_from 0 s.queues t.queues (λ i k. (d.same i (let is : 0 + i ≡ i = omega arith in ap among (sym is) ∙ k)).queue)

    -- they run alike
    same_part : (hs : IsSoundScenario s) (ht : IsSoundScenario t) (r x : Run) → IsRunOf s r → IsRunOf t x → part_run (premises s hs) r ≡ part_run (premises t ht) x
    same_part hs ht r x a b =
        let one : IsWholeRun sqs s.horizon (part_of sqs owner 0 (opening s)) (part_run (premises s hs) r) = part_is_run (premises s hs) (closed s d.ways.0) r a in
        let two : IsWholeRun sqs t.horizon (part_of sqs owner 0 (opening t)) (part_run (premises t ht) x) = part_is_run (premises t ht) (closed t d.ways.1) x b in
        let again : IsWholeRun sqs s.horizon (part_of sqs owner 0 (opening s)) (part_run (premises t ht) x) =
        subst (λ h. IsWholeRun sqs h (part_of sqs owner 0 (opening s)) (part_run (premises t ht) x)) (sym d.horizon)
        (subst (λ w. IsWholeRun sqs t.horizon w (part_run (premises t ht) x)) (sym same_opening) two) in
        one_whole sqs s.horizon (part_of sqs owner 0 (opening s)) (part_run (premises s hs) r) (part_run (premises t ht) x) one again

  -- what is left at a site has its number
  left_of : (q : Queue) (b : Bool) (ms : List Message) → among q.site ≡ b → filter (λ (m : FinalMessage). among m.id.site) (map (final_message q) ms) ≡ (if b then map (final_message q) ms else [])
  left_of q true [] e = refl
  left_of q false [] e = refl
  left_of q true (m ∷ ms) e = rw e (ap (λ z. final_message q m ∷ z) (left_of q true ms e))
  left_of q false (m ∷ ms) e = rw e (left_of q false ms e)

  left_in : (sites : List Site) → filter (λ (m : FinalMessage). among m.id.site) (flat_map messages_at sites) ≡ flat_map messages_at (part_of sqs owner 0 sites)
  left_in [] = refl
  left_in (x ∷ xs) =
      filter-append (λ (m : FinalMessage). among m.id.site) (messages_at x) (flat_map messages_at xs)
      ∙ by_cases (among x.core.queue.site)
      (λ e. rw (is_among x.core.queue.site ∙ e, left_of x.core.queue true x.core.queue.records e) (ap (λ z. messages_at x ++ z) (left_in xs)))
      (λ e. rw (is_among x.core.queue.site ∙ e, left_of x.core.queue false x.core.queue.records e) (left_in xs))

  -- the law
  pub changes_stay : (s t : Scenario) → IsSoundScenario s → IsSoundScenario t → DifferOutOfReach among s t → (r x : Run) → IsRunOf s r → IsRunOf t x → (rows_at among r ≡ rows_at among x) × (left_at among r ≡ left_at among x)
  unfolding finals_of
  changes_stay s t hs ht d r x a b =
      let same : part_run (premises s hs) r ≡ part_run (premises t ht) x = same_part s t d hs ht r x a b in
      let rows : (u : Run) → filter (λ (y : Row). among y.queue) u.rows ≡ filter (λ (y : Row). owner y.queue == 0) u.rows = λ u. filter_same (λ (y : Row). among y.queue) (λ (y : Row). owner y.queue == 0) u.rows (λ y. sym (is_among y.queue)) in (
        rows r ∙ ap (λ (y : Run). y.rows) same ∙ sym (rows x),
        left_in r.sites ∙ ap (λ (y : Run). flat_map messages_at y.sites) same ∙ sym (left_in x.sites),
      )
