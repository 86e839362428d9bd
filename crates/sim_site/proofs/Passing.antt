-- Where a part of an effect takes a count past the limit, the whole does.
use Rattle.std.specs.Prelude.{Bool, Err, IfErr, IsErrAnd, List, MatchResult, Ok, Result, Some, [], cond, false, find, map, max, true, ℕ, ◌++◌, ◌<◌, ◌∷◌, ◌≡◌, ◌≤◌}
use Rattle.std.proofs.Common.{arith, subst, sym}
use Rattle.std.proofs.Math.Nat.{le-max_left, le-max_right, max-le}
use Rattle.sim_clock.specs.declared.refusal.Refusal.{Refusal}
use Rattle.sim_clock.specs.declared.refusal.Refusal.TheVariants as refusals
use Rattle.sim_clock.specs.Firsts.{changed}
use Rattle.sqs_message.specs.declared.row.Row.{Row}
use Rattle.sqs_model.specs.Actor.{Actor}
use Rattle.sqs_model.specs.Answers.{most_count}
use Rattle.sqs_model.specs.Limits.{PassesCount, rows_count}
use Rattle.sqs_model.specs.Counts.{actor_count, greatest, receipt_count, site_count, task_count}
use Rattle.sqs_model.specs.Site.{Core, Effect, actor_numbered, and_then, is_actor, is_task, task_numbered, with_actor, with_task}
use Rattle.sqs_model.specs.Task.{Task}
use Rattle.sqs_model.proofs.Growth.{Grows, grown}
use Rattle.sim_site.specs.Effects.{Did, Effects, Remains, Stops}
use Rattle.sim_engine.specs.Limits.{StopsWhere}

-- the receives that rows tell, with rows before them or after them
pub rows_after : (xs ys : List Row) → rows_count ys ≤ rows_count (xs ++ ys)
rows_after [] ys = omega arith
rows_after (x ∷ xs) ys = omega (arith, rows_after xs ys, le-max_right (receipt_count x.receipt) (rows_count (xs ++ ys)))

pub rows_before : (xs ys : List Row) → rows_count xs ≤ rows_count (xs ++ ys)
rows_before [] ys = omega arith
rows_before (x ∷ xs) ys =
    let n : ℕ = receipt_count x.receipt in
    let k : ℕ = rows_count (xs ++ ys) in
    let l : rows_count xs ≤ max n k = omega (arith, rows_before xs ys, le-max_right n k) in
    max-le (le-max_left n k) l

-- greater counts pass it too
pub more_passes : (a b c d : ℕ) → a ≤ c → b ≤ d → most_count < max a b → most_count < max c d
more_passes a b c d h k p =
    let up : max a b ≤ max c d = max-le (omega (arith, h, le-max_left c d)) (omega (arith, k, le-max_right c d)) in omega (arith, up, p)

-- what comes after something
pub passes_after : (e : Effect) (f : Core → Effect) → PassesCount (f e.core) → PassesCount (and_then e f)
passes_after e f p =
    let g : Effect = f e.core in
    more_passes (site_count g.core) (rows_count g.rows) (site_count g.core) (rows_count (e.rows ++ g.rows)) (omega arith) (rows_after e.rows g.rows) p

-- something before what comes after it
pub passes_before : (e : Effect) (f : Core → Effect) → Grows e.core (f e.core).core → PassesCount e → PassesCount (and_then e f)
passes_before e f u p =
    let g : Effect = f e.core in
    more_passes (site_count e.core) (rows_count e.rows) (site_count g.core) (rows_count (e.rows ++ g.rows)) (grown e.core g.core u) (rows_before e.rows g.rows) p

-- a count of the site after an effect that is past the limit
pub site_passes : (e : Effect) (n : ℕ) → most_count < n → n ≤ site_count e.core → PassesCount e
site_passes e n p l = let m = le-max_left (site_count e.core) (rows_count e.rows) in omega (arith, p, l, m)

-- receives that its rows tell
pub rows_pass : (e : Effect) → most_count < rows_count e.rows → PassesCount e
rows_pass e p = let m = le-max_right (site_count e.core) (rows_count e.rows) in omega (arith, p, m)

-- the counts of a site
module _ (c : Core) where
  pub words_within : c.draws.taken ≤ site_count c
  words_within = let a : c.draws.taken ≤ greatest (c.draws.taken ∷ c.samples ∷ greatest (map actor_count c.actors) ∷ greatest (map task_count c.tasks) ∷ []) = le-max_left _ _ in
      let d : greatest (c.draws.taken ∷ c.samples ∷ greatest (map actor_count c.actors) ∷ greatest (map task_count c.tasks) ∷ []) ≤ greatest (c.sent ∷ c.draws.taken ∷ c.samples ∷ greatest (map actor_count c.actors) ∷ greatest (map task_count c.tasks) ∷ []) = le-max_right _ _ in
      let b : greatest (c.sent ∷ c.draws.taken ∷ c.samples ∷ greatest (map actor_count c.actors) ∷ greatest (map task_count c.tasks) ∷ []) ≤ site_count c = le-max_right _ _ in omega (arith, a, b, d)

  agents_within : greatest (greatest (map actor_count c.actors) ∷ greatest (map task_count c.tasks) ∷ []) ≤ site_count c
  agents_within =
      let a : greatest (greatest (map actor_count c.actors) ∷ greatest (map task_count c.tasks) ∷ []) ≤ greatest (c.samples ∷ greatest (map actor_count c.actors) ∷ greatest (map task_count c.tasks) ∷ []) = le-max_right _ _ in
      let e : greatest (c.samples ∷ greatest (map actor_count c.actors) ∷ greatest (map task_count c.tasks) ∷ []) ≤ greatest (c.draws.taken ∷ c.samples ∷ greatest (map actor_count c.actors) ∷ greatest (map task_count c.tasks) ∷ []) = le-max_right _ _ in
      let d : greatest (c.draws.taken ∷ c.samples ∷ greatest (map actor_count c.actors) ∷ greatest (map task_count c.tasks) ∷ []) ≤ greatest (c.sent ∷ c.draws.taken ∷ c.samples ∷ greatest (map actor_count c.actors) ∷ greatest (map task_count c.tasks) ∷ []) = le-max_right _ _ in
      let b : greatest (c.sent ∷ c.draws.taken ∷ c.samples ∷ greatest (map actor_count c.actors) ∷ greatest (map task_count c.tasks) ∷ []) ≤ site_count c = le-max_right _ _ in omega (arith, a, b, d, e)

  pub actors_within : greatest (map actor_count c.actors) ≤ site_count c
  actors_within = let a : greatest (map actor_count c.actors) ≤ greatest (greatest (map actor_count c.actors) ∷ greatest (map task_count c.tasks) ∷ []) = le-max_left _ _ in omega (arith, a, agents_within)

  pub tasks_within : greatest (map task_count c.tasks) ≤ site_count c
  tasks_within =
      let a : greatest (map task_count c.tasks) ≤ greatest (greatest (map task_count c.tasks) ∷ []) = le-max_left _ _ in
      let b : greatest (greatest (map task_count c.tasks) ∷ []) ≤ greatest (greatest (map actor_count c.actors) ∷ greatest (map task_count c.tasks) ∷ []) = le-max_right _ _ in omega (arith, a, b, agents_within)

-- one that stands in the place of another is counted
counted_there : {A : Type 0} (f : A → ℕ) (p : A → Bool) (x y : A) (xs : List A) → find p xs ≡ Some x → f y ≤ greatest (map f (changed p (λ _. y) xs))
counted_there f p x y [] h = absurd cc
counted_there f p x y (z ∷ zs) h =
    elim (p z) as (λ b. cond b (Some z) (find p zs) ≡ Some x → f y ≤ greatest (map f (cond b (y ∷ zs) (z ∷ changed p (λ _. y) zs)))) [
      | true ↦ λ k. le-max_left (f y) (greatest (map f zs))
      | false ↦ λ k. let l = le-max_right (f z) (greatest (map f (changed p (λ _. y) zs))) in omega (arith, l, counted_there f p x y zs k)
    ] h

pub actor_passes : (c : Core) (a b : Actor) → actor_numbered b.number c ≡ Some a → most_count < actor_count b → most_count < site_count (with_actor c b)
actor_passes c a b h p = let l = counted_there actor_count (is_actor b.number) a b c.actors h in omega (arith, p, l, actors_within (with_actor c b))

pub task_passes : (c : Core) (t u : Task) → task_numbered u.number c ≡ Some t → most_count < task_count u → most_count < site_count (with_task c u)
task_passes c t u h p = let l = counted_there task_count (is_task u.number) t u c.tasks h in omega (arith, p, l, tasks_within (with_task c u))

-- a site after the part of an effect that counts
pub passes_site : (c : Core) (e : Effect) → Grows c e.core → most_count < site_count c → PassesCount e
passes_site c e g p = site_passes e (site_count c) p (grown c e.core g)

-- refusals
pub stops_for : (L M : Type 0) (x : Refusal) → (L → M) → StopsWhere L x → StopsWhere M x
stops_for L M refusals.CountLimit f h = f h
stops_for L M refusals.Memory f h = tt
stops_for L M x f h = h

pub stops_if : {A : Type 0} (L M : Type 0) (r : Result A Refusal) → (L → M) → IfErr r (StopsWhere L) → IfErr r (StopsWhere M)
stops_if L M (Ok a) f h = tt
stops_if L M (Err x) f h = stops_for L M x f h

-- what comes after an effect that was carried out
pub stops_then : {A : Type 0} (r : Result A Refusal) (a b : Effects) (c : Core) (e : Effect) (f : Core → Effect) → Did a b c e → IfErr r (Stops (f c)) → IfErr r (Stops (and_then e f))
stops_then r a b c e f did h =
    let k : IfErr r (Stops (f e.core)) = subst (λ x. IfErr r (Stops (f x))) did.core h in
    stops_if (PassesCount (f e.core)) (PassesCount (and_then e f)) r (passes_after e f) k

-- `?` passes a refusal up as it is
pub stops_up :
    {A : Type 0} (P : A → Type 0) (L M : Type 0) (r : Result A Refusal) (x : Refusal) → IsErrAnd r (λ y. y ≡ x) → (L → M) → StopsWhere L x
    → MatchResult r P (StopsWhere M)
stops_up P L M (Ok a) x e f h = elim e [ ]
stops_up P L M (Err y) x e f h = subst (StopsWhere M) (sym e) (stops_for L M x f h)

-- what remains of an effect
pub passes_rest : (a b : Effects) (rest whole : Effect) → Remains a b rest whole → PassesCount rest → PassesCount whole
passes_rest a b rest whole m p =
    more_passes (site_count rest.core) (rows_count rest.rows) (site_count whole.core) (rows_count whole.rows) (subst (λ d. site_count rest.core ≤ site_count d) m.core (omega arith)) m.told p
