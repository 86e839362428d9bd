-- Nothing that a queue holds back should have come back before: at a handling, and at the end of a run.
use Rattle.sqs_laws.proofs.Terms.{actor_dues, All-cons, All-nil, all_in, by_cases, Core, expiry_key, find_all, has_number, id_of, In, in_left, in_right, into_flat, is_lt, Key, key_cmp, least, least_due, lesser, Message, message_dues, numbered, poll_key, Queue, queue_dues, QueueSettings, release_due, release_key, Row, sample_dues, Site, task_dues, transfer_key, world_due}
use Rattle.std.specs.Prelude.{All, Bool, List, None, Option, Some, [], false, flat_map, if◌then◌else◌, map, true, ℕ, ◌+◌, ◌==◌, ◌∷◌, ◌≡◌, ◌≤◌, ◌*◌, get_or, ◌++◌, ◌&&◌, ◌⊎◌}
use Rattle.std.proofs.Common.{ap, arith, inl, inr, refl, subst, sym, ◌∙◌}
use Rattle.sim_clock.proofs.Orderings.{key_less, key_not_less}
use Rattle.sqs_model.specs.Dues.{core_dues, dues}
use Rattle.sqs_laws.proofs.Moves.{Does, Waits, CameNow, IsStocked, Keeps, does_keep, does_all, Comes}
use Rattle.sqs_laws.proofs.Naming.{last_as, names_same}
use Rattle.sqs_laws.specs.Words.{names}
use Rattle.sqs_laws.specs.Words as words
use Rattle.sqs_laws.proofs.Traces.{does_apart}

-- what is due, if anything, is due from a moment on
abbrev pub IsFrom : ℕ → Option Key → Type 0
IsFrom at None = Unit {0}
IsFrom at (Some k) = at ≤ k.at

from_by : (at : ℕ) (a b : Key) (c : Bool) → is_lt (key_cmp b a) ≡ c → IsFrom at (if c then Some b else Some a) → (at ≤ a.at) × (at ≤ b.at)
from_by at a b true e h = let l : b.at ≤ a.at = key_less b a e in (omega (arith, h, l), h)
from_by at a b false e h = let l : a.at ≤ b.at = key_not_less b a e in (h, omega (arith, h, l))

from_both : (at : ℕ) (a b : Option Key) → IsFrom at (lesser a b) → IsFrom at a × IsFrom at b
from_both at None b h = (tt, h)
from_both at (Some a) None h = (h, tt)
from_both at (Some a) (Some b) h = from_by at a b _ refl h

pub from_each : (at : ℕ) (ks : List Key) → IsFrom at (least ks) → (k : Key) → In ks k → at ≤ k.at
from_each at [] h k i = absurd i
from_each at (x ∷ xs) h k (inl e) = subst (λ (y : Key). at ≤ y.at) e (from_both at (Some x) (least xs) h).0
from_each at (x ∷ xs) h k (inr i) = from_each at xs (from_both at (Some x) (least xs) h).1 k i

pub from_sites : (at : ℕ) (sites : List Site) → IsFrom at (world_due sites) → All (λ s. IsFrom at (least_due s)) sites
from_sites at [] h = All-nil (λ s. IsFrom at (least_due s))
from_sites at (s ∷ ss) h = let x = from_both at (least_due s) (world_due ss) h in All-cons (λ y. IsFrom at (least_due y)) s ss x.0 (from_sites at ss x.1)

-- what is due of a queue is due at its site
queue_due : (s : Site) (k : Key) → In (queue_dues s.core.queue) k → In (dues s) k
unfolding dues core_dues
queue_due s k i =
    let c : Core = s.core in
    in_right (map transfer_key s.arriving) (core_dues c) k (in_left _ (flat_map task_dues c.tasks) k (in_left _ (sample_dues c) k (in_left _ (flat_map actor_dues c.actors) k (in_left (queue_dues c.queue) (map poll_key c.polls) k i))))

message_due : (s : Site) (m : Message) (k : Key) → In s.core.queue.records m → In (message_dues s.core.queue.site s.core.queue.settings.retention m) k → In (dues s) k
message_due s m k i e = queue_due s k (into_flat (message_dues s.core.queue.site s.core.queue.settings.retention) s.core.queue.records m k i e)

site_releases : (s : Site) (m : Message) (t : ℕ) → In s.core.queue.records m → m.release ≡ Some t → In (dues s) (release_key s.core.queue.site t m)
site_releases s m t i r = message_due s m (release_key s.core.queue.site t m) i (inr (subst (λ o. In (release_due s.core.queue.site m o) (release_key s.core.queue.site t m)) (sym r) (inl refl)))

-- nothing that a queue holds back should have come back before a moment
abbrev pub IsTimely : ℕ → Queue → Type 0
IsTimely at q = All (λ m. (t : ℕ) → m.release ≡ Some t → at ≤ t) q.records

pub due_timely : (at : ℕ) (s : Site) → IsFrom at (least_due s) → IsTimely at s.core.queue
due_timely at s h =
    all_in (λ m. (t : ℕ) → m.release ≡ Some t → at ≤ t) s.core.queue.records
    (λ m i t r. from_each at (dues s) h (release_key s.core.queue.site t m) (site_releases s m t i r))

pub timely_at : (at : ℕ) (q : Queue) (n : ℕ) (m : Message) (t : ℕ) → IsTimely at q → numbered n q.records ≡ Some m → m.release ≡ Some t → at ≤ t
timely_at at q n m t h e f = find_all (has_number n) (λ (x : Message). (u : ℕ) → x.release ≡ Some u → at ≤ u) q.records m h e t f

-- so it is behind each row of a handling
waits_timely : (at delay : ℕ) (m : Message) → Waits at delay m → (t : ℕ) → m.release ≡ Some t → at ≤ t
waits_timely at delay m w t r =
    by_cases (delay == 0) (λ e. let none : m.release ≡ None = w.release ∙ ap (λ b. if b then None else Some (at + delay)) e in cc)
    (λ e. let some : m.release ≡ Some (at + delay) = w.release ∙ ap (λ b. if b then None else Some (at + delay)) e in let is : at + delay ≡ t = cc in omega (arith, is))

pub does_timely : (key : Key) (q : Queue) (r : Row) (p : Queue) → Does key q r p → IsTimely key.at q → IsTimely key.at p
does_timely key q r p d h =
    does_all key q r p (λ m. (t : ℕ) → m.release ≡ Some t → key.at ≤ t)
    (record {
      receives = λ u m l t e. let is : key.at + u ≡ t = cc in omega (arith, is);
      changes = λ u m l t e. let is : key.at + 1000 * u ≡ t = cc in omega (arith, is);
      comes_back = λ m l t e. cc;
    }) (λ c. waits_timely key.at c.delay c.one c.waits) d h

-- the retention of no message was over before a moment, but of what comes now
abbrev pub IsOpen : List Row → ℕ → Queue → Type 0
IsOpen rows at q = All (λ m. (at ≤ m.enqueued + q.settings.retention) ⊎ CameNow rows (id_of q m.number) at) q.records

pub due_lasts : (at : ℕ) (s : Site) → IsFrom at (least_due s) → All (λ m. at ≤ m.enqueued + s.core.queue.settings.retention) s.core.queue.records
due_lasts at s h = all_in (λ m. at ≤ m.enqueued + s.core.queue.settings.retention) s.core.queue.records (λ m i. from_each at (dues s) h (expiry_key s.core.queue.site s.core.queue.settings.retention m) (message_due s m (expiry_key s.core.queue.site s.core.queue.settings.retention m) i (inl refl)))

pub due_open : (rows : List Row) (at : ℕ) (s : Site) → IsFrom at (least_due s) → IsOpen rows at s.core.queue
due_open rows at s h = λ j x l. inl (due_lasts at s h j x l)

-- so it is behind each row of a handling
pub does_open : (rows : List Row) (key : Key) (q : Queue) (r : Row) (p : Queue) → r.key ≡ key → Does key q r p → IsStocked q → IsOpen rows key.at q → IsOpen (rows ++ r ∷ []) key.at p
does_open rows key q r p at_key does k h =
    let kept : Keeps q p = does_keep key q r p does k in
    subst (λ n. All (λ m. (key.at ≤ m.enqueued + p.settings.retention) ⊎ CameNow (rows ++ r ∷ []) (record { site = n; number = m.number }) key.at) p.records) kept.site
    (subst (λ (z : QueueSettings). All (λ m. (key.at ≤ m.enqueued + z.retention) ⊎ CameNow (rows ++ r ∷ []) (id_of q m.number) key.at) p.records) kept.settings
    (does_all key q r p Open (record { receives = λ t m o. o; changes = λ t m o. o; comes_back = λ m o. o }) now does (λ j x l. later (get_or q.records j x) (does_apart key q r p does k j x l) (h j x l))))
  where
    Open : Message → Type 0
    Open m = (key.at ≤ m.enqueued + q.settings.retention) ⊎ CameNow (rows ++ r ∷ []) (id_of q m.number) key.at

    later : (m : Message) → (words.comes r && names (id_of q m.number) r) ≡ false → (key.at ≤ m.enqueued + q.settings.retention) ⊎ CameNow rows (id_of q m.number) key.at → Open m
    later m e (inl l) = inl l
    later m e (inr (by, c, w)) = inr (by, last_as words.comes (id_of q m.number) rows r false e ∙ c, w)

    now : (d : Comes key q r p) → Open d.one
    now d = inr (subst (λ n. CameNow (rows ++ r ∷ []) (id_of q n) key.at) (sym d.number) (r, last_as words.comes (id_of q q.arrivals) rows r true (rw (d.tells.comes_so, names_same (id_of q q.arrivals) r d.message) refl), ap (λ (x : Key). x.at) at_key))
