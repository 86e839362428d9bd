-- A law that each single move keeps holds of all rows of a run.
use Rattle.sqs_laws.proofs.Terms.{accepted, Actor, ActorSettings, after, All-cons, All-filter, All-head, All-map, All-nil, All-tail, All-weaker, all_inserted, append-nil, append_assoc, ascends_enumerated, ascends_filter, ascends_lower, ascends_map, delivered, delivered_one, due_by, dues, either, either_by, Entry, enumerate_from, eqb-true, Handled, handled, handled_among, handled_here, handled_there, In, is_due, IsRunOf, Key, key_cmp, least_due, leb-true, Message, next_due, number_of, numbered_actors, numbered_tasks, on, opening, opening_actor, opening_site, opening_task, Outbound, Queue, QueueSettings, Row, Run, Scenario, Site, Stepped, stepped_at, Task, transfer_key, world_due}
use Rattle.std.specs.Prelude.{All, List, None, Option, Some, [], false, filter, get_or, if◌then◌else◌, length, map, nat_le, slice_get, suc, true, zero, ℕ, ◌+◌, ◌-◌, ◌++◌, ◌<◌, ◌==◌, ◌∷◌, ◌≡◌, ◌≢◌, ◌≤◌}
use Rattle.std.proofs.Common.{ap, arith, refl, subst, sym, ◌∙◌}
use Rattle.sqs_model.proofs.WorldAccounts.{due_fits}
use Rattle.sqs_model.proofs.WorldMoves.{is_due_least, least_in}
use Rattle.sqs_laws.specs.Words.{EachRow}
use Rattle.sqs_laws.proofs.Chains.{IsInOrder, IsMoved, arriving_fits, handled_moves, order_later, AreComing}
use Rattle.sqs_laws.proofs.Gives.{AreOfScenario, Fits, due_awake, first_fits}
use Rattle.sqs_laws.proofs.Holding.{IsInformed}
use Rattle.sqs_laws.proofs.Moments.{IsFrom, IsTimely, does_timely, due_timely, IsOpen, does_open, due_open}
use Rattle.sqs_laws.proofs.Numbers.{due_over}
use Rattle.sqs_laws.proofs.Polled.{IsPolled, due_polls}
use Rattle.sqs_redrive.specs.declared.settings.TaskSettings.{TaskSettings}
use Rattle.sqs_laws.proofs.Moves.{FitsSender, Chain, IsBehind, IsStocked, Keeps, Move, chain_keeps, does_keep, moves_own, AreTraced, IsTraced}
use Rattle.sqs_laws.proofs.Naming.{NamesOwn}
use Rattle.sqs_laws.proofs.Traces.{does_trace, load_later, apart_traced}

-- what holds of a queue before each row of a handling: it is by the horizon, nothing should have come back before, and no retention
-- was over before, but of what comes now
pub record IsNow (s : Scenario) (rows : List Row) (key : Key) (q : Queue) : Type 0 where
  pub within : key.at ≤ s.horizon
  pub timely : IsTimely key.at q
  pub lasts : IsOpen rows key.at q

-- A law of rows. `Holds rows queue` is what holds of a queue after all rows of a run so far. A move at the queue keeps it and its
-- row meets the law; rows of other queues leave it.
pub record RowLaw (s : Scenario) : Type 1 where
  pub Holds : List Row → Queue → Type 0
  pub Meets : List Row → Row → Type 0
  pub moves : (rows : List Row) (key : Key) (q : Queue) (r : Row) (p : Queue) → IsNow s rows key q → Move key q r p → IsBehind s rows q r p → IsStocked q → Holds rows q → Meets rows r × Holds (rows ++ r ∷ []) p
  pub apart : (rows : List Row) (r : Row) (q : Queue) → r.queue ≢ q.site → NamesOwn r → Holds rows q → Holds (rows ++ r ∷ []) q
  pub opens : (n : ℕ) (settings : QueueSettings) → slice_get s.queues n ≡ Some settings → Holds [] (record { site = n; settings = settings; records = []; entries = []; arrivals = 0 })

-- two laws as one
abbrev pub both : (s : Scenario) → RowLaw s → RowLaw s → RowLaw s
both s a b =
    record {
      Holds = λ rows q. a.Holds rows q × b.Holds rows q;
      Meets = λ rows r. a.Meets rows r × b.Meets rows r;
      moves = λ rows key q r p by m g k h.
          let x = a.moves rows key q r p by m g k h.0 in
          let y = b.moves rows key q r p by m g k h.1 in
          ((x.0, y.0), (x.1, y.1));
      apart = λ rows r q d own h. (a.apart rows r q d own h.0, b.apart rows r q d own h.1);
      opens = λ n settings e. (a.opens n settings e, b.opens n settings e);
    }

-- queues of the scenario, whose messages are traced by the rows so far
abbrev pub IsPlaced : Scenario → List Row → Queue → Type 0
IsPlaced s rows q = (slice_get s.queues q.site ≡ Some q.settings) × AreTraced s rows q

abbrev pub traces : (s : Scenario) → RowLaw s
traces s =
    record {
      Holds = IsPlaced s;
      Meets = λ rows r. Unit {0};
      moves = λ rows key q r p by m g k h.
          let kept : Keeps q p = does_keep key q r p m.does k in
          (tt, (ap (λ n. slice_get s.queues n) (sym kept.site) ∙ h.0 ∙ ap (λ y. Some y) kept.settings, does_trace s rows key q r p m.at_key m.at_site h.0 g k h.1 m.does));
      apart = λ rows r q d own h. (h.0, apart_traced s rows r q d own h.1);
      opens = λ n settings e. (e, record { each = All-nil (λ (m : Message). IsTraced s [] (record { site = n; number = m.number }) m); fresh = λ k l. refl });
    }

-- what holds of each of some rows, with all rows before it
abbrev pub EachAfter : (List Row → Row → Type 0) → List Row → List Row → Type 0
EachAfter P before [] = Unit {0}
EachAfter P before (r ∷ rs) = P before r × EachAfter P (before ++ r ∷ []) rs

pub each_append : (P : List Row → Row → Type 0) (before xs ys : List Row) → EachAfter P before xs → EachAfter P (before ++ xs) ys → EachAfter P before (xs ++ ys)
each_append P before [] ys h k = subst (λ b. EachAfter P b ys) (append-nil before) k
each_append P before (x ∷ xs) ys h k = (h.0, each_append P (before ++ x ∷ []) xs ys h.1 (subst (λ b. EachAfter P b ys) (sym (append_assoc before (x ∷ []) xs)) k))

each_row_from : (P : List Row → Row → Type 0) (done rs before : List Row) (r : Row) (after : List Row) → EachAfter P done rs → rs ≡ before ++ (r ∷ after) → P (done ++ before) r
each_row_from P done [] [] r after h e = cc
each_row_from P done [] (b ∷ bs) r after h e = cc
each_row_from P done (x ∷ xs) [] r after h e =
    let is : x ≡ r = cc in subst (λ d. P d r) (sym (append-nil done)) (subst (P done) is h.0)
each_row_from P done (x ∷ xs) (b ∷ bs) r after h e =
    let is : x ≡ b = cc in
    let rest : xs ≡ bs ++ (r ∷ after) = cc in
    let one : P ((done ++ x ∷ []) ++ bs) r = each_row_from P (done ++ x ∷ []) xs bs r after h.1 rest in
    subst (λ d. P d r) (append_assoc done (x ∷ []) bs ∙ ap (λ y. done ++ (y ∷ bs)) is) one

pub each_row : (P : List Row → Row → Type 0) (rows : List Row) → EachAfter P [] rows → EachRow rows P
each_row P rows h before r after e = each_row_from P [] rows before r after h e

module _ (scenario : Scenario) (law : RowLaw scenario) where
  open law use {Holds, Meets}

  -- the rows of a handling
  record Passes (rows rs : List Row) (q p : Queue) : Type 0 where
    pub each : EachAfter Meets rows rs
    pub here : Holds (rows ++ rs) p
    pub apart : (t : Queue) → t.site ≢ q.site → Holds rows t → Holds (rows ++ rs) t

  chain_passes : (key : Key) (rs rows : List Row) (q p : Queue) → IsNow scenario rows key q → Chain scenario rows key q rs p → IsStocked q → Holds rows q → Passes rows rs q p
  chain_passes key [] rows q p by c s h =
      record {
        each = tt;
        here = subst (λ r. Holds r p) (sym (append-nil rows)) (subst (Holds rows) c h);
        apart = λ t d k. subst (λ r. Holds r t) (sym (append-nil rows)) k;
      }
  chain_passes key (r ∷ rs) rows q p by (x, m, g, c) s h =
      let one : Meets rows r × Holds (rows ++ r ∷ []) x = law.moves rows key q r x by m g s h in
      let keeps : Keeps q x = does_keep key q r x m.does s in
      let rest : Passes (rows ++ r ∷ []) rs x p = chain_passes key rs (rows ++ r ∷ []) x p (record { within = by.within; timely = does_timely key q r x m.does by.timely; lasts = does_open rows key q r x m.at_key m.does s by.lasts }) c keeps.stocked one.1 in
      let own : NamesOwn r = moves_own key q r x m in
      let same : (rows ++ r ∷ []) ++ rs ≡ rows ++ (r ∷ rs) = append_assoc rows (r ∷ []) rs in
      record {
        each = (one.0, rest.each);
        here = subst (λ y. Holds y p) same rest.here;
        apart = λ t d k.
            subst (λ y. Holds y t) same (rest.apart t (λ e. d (e ∙ sym keeps.site)) (law.apart rows r t (λ e. d (sym e ∙ m.at_site)) own k));
      }

  -- a site of a run
  pub record IsGood (rows : List Row) (s : Site) : Type 0 where
    pub order : IsInOrder scenario rows s.core
    pub holds : Holds rows s.core.queue
    pub arriving : AreComing scenario rows s

-- sites of a world are numbered
abbrev pub AreNumbered : ℕ → List Site → Type 0
AreNumbered n [] = Unit {0}
AreNumbered n (s ∷ ss) = (number_of s.core ≡ n) × AreNumbered (n + 1) ss

-- what is on its way, with more rows
coming_later : (s : Scenario) (rows more : List Row) (x : Site) (site : ℕ) → x.core.queue.site ≡ site → AreComing s rows x → All (λ o. FitsSender s (rows ++ more) o × (o.to ≡ site)) x.arriving
coming_later s rows more x site e h = All-weaker (λ o. FitsSender s rows o × (o.to ≡ x.core.queue.site)) (λ o. FitsSender s (rows ++ more) o × (o.to ≡ site)) (λ o f. (load_later s rows more o o.load f.0, f.1 ∙ e)) x.arriving h

-- a law from which it follows that queues are placed
module _ (scenario : Scenario) (law : RowLaw scenario) (placed : (rows : List Row) (q : Queue) → law.Holds rows q → IsPlaced scenario rows q) where
  open law use {Holds, Meets}

  abbrev IsFine : List Row → Site → Type 0
  IsFine = IsGood scenario law

  above : (n : ℕ) (sites : List Site) → AreNumbered n sites → All (λ s. n ≤ number_of s.core) sites
  above n [] h = All-nil (λ (s : Site). n ≤ number_of s.core)
  above n (s ∷ ss) h =
      All-cons (λ x. n ≤ number_of x.core) s ss (omega (arith, h.0))
      (All-weaker (λ x. n + 1 ≤ number_of x.core) (λ x. n ≤ number_of x.core) (λ x l. omega (arith, l)) ss (above (n + 1) ss h.1))

  record Steps (rows : List Row) (n : ℕ) (t : Stepped) : Type 0 where
    pub each : EachAfter Meets rows t.rows
    pub good : All (IsFine (rows ++ t.rows)) t.sites
    pub numbers : AreNumbered n t.sites
    pub sent : All (FitsSender scenario (rows ++ t.rows)) t.sent
    pub before : (q : Queue) → q.site < n → Holds rows q → Holds (rows ++ t.rows) q

  here_steps : (key : Key) → key.at ≤ scenario.horizon → (rows : List Row) (n : ℕ) (s : Site) (ss : List Site) → All (IsFine rows) (s ∷ ss) → AreNumbered n (s ∷ ss) → least_due s ≡ Some key → Steps rows n (handled_here (handled key s) ss)
  here_steps key by rows n s ss g a d =
      let one : IsFine rows s = All-head (IsFine rows) s ss g in
      let h : Handled = handled key s in
      let from : IsFrom key.at (least_due s) = subst (IsFrom key.at) (sym d) (let same : key.at ≤ key.at = omega arith in same) in
      let due : In (dues s) key = least_in (dues s) key d in
      let moved : IsMoved scenario rows key s.core h.rows h.site.core h.sent = handled_moves scenario rows key s one.order (placed rows s.core.queue one.holds).0 (placed rows s.core.queue one.holds).1 one.arriving (due_polls key.at s from) (λ _. due_fits s key due) (due_over key s one.order.stocked due) (due_awake key s one.order.numbers.climb due) in
      let p : Passes scenario law rows h.rows s.core.queue h.site.core.queue = chain_passes scenario law key h.rows rows s.core.queue h.site.core.queue (record { within = by; timely = due_timely key.at s from; lasts = due_open rows key.at s from }) moved.chain one.order.stocked one.holds in
      let site : number_of s.core ≡ number_of h.site.core = (chain_keeps scenario rows key h.rows s.core.queue h.site.core.queue moved.chain one.order.stocked).site in
      let others : All (λ x. n + 1 ≤ number_of x.core) ss = above (n + 1) ss a.1 in
      let rest : All (IsFine rows) ss = All-tail (IsFine rows) s ss g in
      record {
        each = p.each;
        good =
            All-cons (IsFine (rows ++ h.rows)) h.site ss (record { order = moved.order; holds = p.here; arriving = arriving_fits (λ o. FitsSender scenario (rows ++ h.rows) o × (o.to ≡ number_of h.site.core)) key s (coming_later scenario rows h.rows s (number_of h.site.core) site one.arriving) })
            (λ i e l.
            let x : Site = get_or ss i e in
            let far : n + 1 ≤ number_of x.core = others i e l in
            record { order = order_later scenario rows h.rows x.core (rest i e l).order; arriving = coming_later scenario rows h.rows x x.core.queue.site refl (rest i e l).arriving; holds = p.apart x.core.queue (λ y. absurd (omega (arith, far, y, a.0))) (rest i e l).holds });
        numbers = (sym site ∙ a.0, a.1);
        sent = moved.sent;
        before = λ q l k. p.apart q (λ y. absurd (omega (arith, l, y, a.0))) k;
      }

  there_steps : (rows : List Row) (n : ℕ) (s : Site) (ss : List Site) (t : Stepped) → All (IsFine rows) (s ∷ ss) → AreNumbered n (s ∷ ss) → Steps rows (n + 1) t → Steps rows n (handled_there s t)
  there_steps rows n s ss t g a h =
      let one : IsFine rows s = All-head (IsFine rows) s ss g in
      record {
        each = h.each;
        good = All-cons (IsFine (rows ++ t.rows)) s t.sites (record { order = order_later scenario rows t.rows s.core one.order; holds = h.before s.core.queue (omega (arith, a.0)) one.holds; arriving = coming_later scenario rows t.rows s s.core.queue.site refl one.arriving }) h.good;
        numbers = (a.0, h.numbers);
        sent = h.sent;
        before = λ q l k. h.before q (omega (arith, l)) k;
      }

  among_steps : (key : Key) → key.at ≤ scenario.horizon → (sites : List Site) (rows : List Row) (n : ℕ) → All (IsFine rows) sites → AreNumbered n sites → Steps rows n (handled_among key sites)
  among_steps key by [] rows n g a =
      record {
        each = tt;
        good = All-nil (IsFine (rows ++ []));
        numbers = tt;
        sent = All-nil (FitsSender scenario (rows ++ []));
        before = λ q l k. subst (λ r. Holds r q) (sym (append-nil rows)) k;
      }
  among_steps key by (s ∷ ss) rows n g a =
      elim (is_due key (least_due s)) as
      (λ b. is_due key (least_due s) ≡ b → Steps rows n (if b then handled_here (handled key s) ss else handled_there s (handled_among key ss))) [
        | true ↦ λ i. here_steps key by rows n s ss g a (is_due_least key (least_due s) i)
        | false ↦ λ i. there_steps rows n s ss (handled_among key ss) g a (among_steps key by ss rows (n + 1) (All-tail (IsFine rows) s ss g) a.1)
      ] refl

  -- delivery
  one_good : (rows : List Row) (o : Outbound) (s : Site) → FitsSender scenario rows o → IsFine rows s → IsFine rows (delivered_one o s)
  one_good rows o s f g =
      either_by (IsFine rows) (o.to == number_of s.core) (accepted o s) s
      (λ e. record { order = g.order; holds = g.holds; arriving = all_inserted (λ x. FitsSender scenario rows x × (x.to ≡ number_of s.core)) (on transfer_key key_cmp) o s.arriving (f, eqb-true o.to (number_of s.core) e) g.arriving }) (λ _. g)

  one_number : (o : Outbound) (s : Site) → number_of (delivered_one o s).core ≡ number_of s.core
  one_number o s = either (λ (y : Site). number_of y.core ≡ number_of s.core) (o.to == number_of s.core) (accepted o s) s refl refl

  map_numbers : (o : Outbound) (n : ℕ) (sites : List Site) → AreNumbered n sites → AreNumbered n (map (delivered_one o) sites)
  map_numbers o n [] a = tt
  map_numbers o n (s ∷ ss) a = (one_number o s ∙ a.0, map_numbers o (n + 1) ss a.1)

  delivers : (rows : List Row) (os : List Outbound) (sites : List Site) → All (FitsSender scenario rows) os → All (IsFine rows) sites → AreNumbered 0 sites → All (IsFine rows) (delivered os sites) × AreNumbered 0 (delivered os sites)
  delivers rows [] sites f g a = (g, a)
  delivers rows (o ∷ os) sites f g a =
      delivers rows os (map (delivered_one o) sites) (All-tail (FitsSender scenario rows) o os f)
      (All-map (IsFine rows) (delivered_one o) sites (All-weaker (IsFine rows) (λ s. IsFine rows (delivered_one o s)) (λ s. one_good rows o s (All-head (FitsSender scenario rows) o os f)) sites g)) (map_numbers o 0 sites a)

  -- a run
  record IsLawful (r : Run) : Type 0 where
    pub each : EachAfter Meets [] r.rows
    pub good : All (IsFine r.rows) r.sites
    pub numbers : AreNumbered 0 r.sites

  -- what is due next is due by the horizon
  due_within : (o : Option Key) (key : Key) → due_by scenario.horizon o ≡ Some key → key.at ≤ scenario.horizon
  due_within None key e = cc
  due_within (Some k) key e =
      elim (nat_le k.at scenario.horizon) as (λ b. nat_le k.at scenario.horizon ≡ b → (if b then Some k else None) ≡ Some key → key.at ≤ scenario.horizon) [
        | true ↦ λ t f. let is : k ≡ key = cc in subst (λ (x : Key). x.at ≤ scenario.horizon) is (leb-true k.at scenario.horizon t)
        | false ↦ λ t f. cc
      ] refl e

  stepped_lawful : (r : Run) (due : Option Key) → ((key : Key) → due ≡ Some key → key.at ≤ scenario.horizon) → IsLawful r → IsLawful (stepped_at r due)
  stepped_lawful r None w h = h
  stepped_lawful r (Some key) w h =
      let t : Stepped = handled_among key r.sites in
      let s : Steps r.rows 0 t = among_steps key (w key refl) r.sites r.rows 0 h.good h.numbers in
      let d = delivers (r.rows ++ t.rows) t.sent t.sites s.sent s.good s.numbers in
      record { each = each_append Meets [] r.rows t.rows h.each s.each; good = d.0; numbers = d.1 }

  after_lawful : (n : ℕ) (start : List Site) → IsLawful (record { sites = start; rows = [] }) → IsLawful (after scenario.horizon n start)
  after_lawful zero start h = h
  after_lawful (suc n) start h =
      let r : Run = after scenario.horizon n start in stepped_lawful r (next_due scenario.horizon r.sites) (due_within (world_due r.sites)) (after_lawful n start h)

  -- the opening
  fits_first : (n : ℕ) (actors : List ActorSettings) → ((i : ℕ) (a : ActorSettings) → slice_get actors i ≡ Some a → slice_get scenario.actors (n - length scenario.queues + i) ≡ Some a) → length scenario.queues ≤ n → All (λ x. Fits scenario (opening_actor scenario.seed x)) (enumerate_from n actors)
  fits_first n [] f l = All-nil (λ (x : ℕ × ActorSettings). Fits scenario (opening_actor scenario.seed x))
  fits_first n (a ∷ others) f l =
      let own : slice_get scenario.actors (n - length scenario.queues) ≡ Some a = let same : n - length scenario.queues + 0 ≡ n - length scenario.queues = omega arith in subst (λ k. slice_get scenario.actors k ≡ Some a) same (f 0 a refl) in
      All-cons (λ (x : ℕ × ActorSettings). Fits scenario (opening_actor scenario.seed x)) (n, a) (enumerate_from (n + 1) others) (first_fits scenario n a own l)
      (fits_first (n + 1) others (λ i x e. let same : n + 1 - length scenario.queues + i ≡ n - length scenario.queues + suc i = omega (arith, l) in subst (λ k. slice_get scenario.actors k ≡ Some x) (sym same) (f (suc i) x e)) (omega (arith, l)))

  opening_numbers : (n : ℕ) → AreOfScenario scenario (map (opening_actor scenario.seed) (filter (λ x. x.1.home == n) (numbered_actors scenario)))
  opening_numbers n =
      let those : List (ℕ × ActorSettings) = filter (λ x. x.1.home == n) (numbered_actors scenario) in
      let all : All (λ x. Fits scenario (opening_actor scenario.seed x)) (numbered_actors scenario) =
      fits_first (length scenario.queues) scenario.actors (λ i a e. let same : i ≡ length scenario.queues - length scenario.queues + i = omega arith in subst (λ k. slice_get scenario.actors k ≡ Some a) same e) (omega arith) in
      record {
        fit = All-map (Fits scenario) (opening_actor scenario.seed) those (All-filter (λ x. x.1.home == n) (λ (x : ℕ × ActorSettings). Fits scenario (opening_actor scenario.seed x)) (numbered_actors scenario) all);
        climb =
            ascends_map (λ (a : Actor). a.number) (opening_actor scenario.seed) 0 those
            (ascends_filter (λ (x : ℕ × ActorSettings). x.0) (λ x. x.1.home == n) 0 (numbered_actors scenario)
            (ascends_lower (λ (x : ℕ × ActorSettings). x.0) 0 (length scenario.queues) (numbered_actors scenario) (omega arith) (ascends_enumerated (length scenario.queues) scenario.actors)));
      }

  after_actors : (n : ℕ) (tasks : List TaskSettings) → length scenario.queues + length scenario.actors ≤ n → All (λ x. length scenario.queues + length scenario.actors ≤ x.0) (enumerate_from n tasks)
  after_actors n [] l = All-nil (λ (x : ℕ × TaskSettings). length scenario.queues + length scenario.actors ≤ x.0)
  after_actors n (t ∷ ts) l = All-cons (λ (x : ℕ × TaskSettings). length scenario.queues + length scenario.actors ≤ x.0) (n, t) (enumerate_from (n + 1) ts) l (after_actors (n + 1) ts (omega (arith, l)))

  opening_tasks : (n : ℕ) → All (λ t. length scenario.queues + length scenario.actors ≤ t.number) (map (opening_task scenario.seed) (filter (λ x. x.1.home == n) (numbered_tasks scenario)))
  opening_tasks n =
      All-map (λ (t : Task). length scenario.queues + length scenario.actors ≤ t.number) (opening_task scenario.seed) (filter (λ x. x.1.home == n) (numbered_tasks scenario))
      (All-filter (λ x. x.1.home == n) (λ (x : ℕ × TaskSettings). length scenario.queues + length scenario.actors ≤ x.0) (numbered_tasks scenario) (after_actors (length scenario.queues + length scenario.actors) scenario.tasks (omega arith)))

  opening_order : (x : ℕ × QueueSettings) → IsInOrder scenario [] (opening_site scenario x).core
  opening_order (n, settings) =
      record {
        stocked = record { ordered = tt; given_out = All-nil (λ (m : Message). m.number < 0); entries = All-nil (λ (e : Entry). e.number < 0) };
        numbers = opening_numbers n;
        actors =
            All-map (IsInformed n 0) (opening_actor scenario.seed) (filter (λ x. x.1.home == n) (numbered_actors scenario))
            (λ i e l. record { held = tt; done = tt; failed = tt });
        polls = All-nil (IsPolled scenario []);
        tasks = opening_tasks n;
      }

  opens : (n : ℕ) (queues : List QueueSettings) → ((i : ℕ) (q : QueueSettings) → slice_get queues i ≡ Some q → slice_get scenario.queues (n + i) ≡ Some q) → All (IsFine []) (map (opening_site scenario) (enumerate_from n queues)) × AreNumbered n (map (opening_site scenario) (enumerate_from n queues))
  opens n [] f = (All-nil (IsFine []), tt)
  opens n (q ∷ qs) f =
      let rest = opens (n + 1) qs (λ i x e. let same : n + 1 + i ≡ n + suc i = omega arith in subst (λ k. slice_get scenario.queues k ≡ Some x) (sym same) (f (suc i) x e)) in
      let own : slice_get scenario.queues n ≡ Some q = let same : n + 0 ≡ n = omega arith in subst (λ k. slice_get scenario.queues k ≡ Some q) same (f 0 q refl) in
      (All-cons (IsFine []) _ _ (record { order = opening_order (n, q); holds = law.opens n q own; arriving = All-nil (λ o. FitsSender scenario [] o × (o.to ≡ n)) }) rest.0, (refl, rest.1))

  run_lawful : (r : Run) → IsRunOf scenario r → IsLawful r
  run_lawful r is =
      let o = opens 0 scenario.queues (λ i q e. let same : i ≡ 0 + i = omega arith in subst (λ k. slice_get scenario.queues k ≡ Some q) same e) in
      subst IsLawful is.reached (after_lawful is.steps (opening scenario) (record { each = tt; good = o.0; numbers = o.1 }))

  every_row_of : (r : Run) → IsRunOf scenario r → EachRow r.rows Meets
  every_row_of r is = each_row Meets r.rows (run_lawful r is).each

module _ (s : Scenario) (law : RowLaw s) where
  lawful : (r : Run) → IsRunOf s r → IsLawful s (both s law (traces s)) (λ rows q h. h.1) r
  lawful r is = run_lawful s (both s law (traces s)) (λ rows q h. h.1) r is

  pub every_row : (r : Run) → IsRunOf s r → EachRow r.rows law.Meets
  every_row r is before x after e = (every_row_of s (both s law (traces s)) (λ rows q h. h.1) r is before x after e).0

  -- what holds of each site at the end
  pub every_site : (r : Run) → IsRunOf s r → All (IsGood s law r.rows) r.sites × AreNumbered 0 r.sites
  every_site r is = let l = lawful r is in (All-weaker (IsGood s (both s law (traces s)) r.rows) (IsGood s law r.rows) (λ x g. record { order = g.order; holds = g.holds.0; arriving = g.arriving }) r.sites l.good, l.numbers)

-- what a law says of each row, by its move
pub every_row_by :
    (s : Scenario) (law : RowLaw s) (P : List Row → Row → Type 0)
    → ((rows : List Row) (key : Key) (q : Queue) (r : Row) (p : Queue) → IsNow s rows key q → Move key q r p → IsBehind s rows q r p → IsStocked q → law.Holds rows q → law.Holds (rows ++ r ∷ []) p → P rows r)
    → (r : Run) → IsRunOf s r → EachRow r.rows P
every_row_by s law P meets r is =
    every_row s
    (record {
      Holds = law.Holds;
      Meets = P;
      moves = λ rows key q x p by m g k h. let after = (law.moves rows key q x p by m g k h).1 in (meets rows key q x p by m g k h after, after);
      apart = law.apart;
      opens = law.opens;
    }) r is
