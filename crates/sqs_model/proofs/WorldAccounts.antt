-- Every message accepted stands in exactly one place, at every step of a run.
use Rattle.std.specs.List.{count_by, enumerate_from, sum_by}
use Rattle.std.specs.Ordering.{on}
use Rattle.std.specs.Prelude.{All, Bool, List, None, Option, Some, [], false, filter, find, get_or, if◌then◌else◌, length, map, suc, true, zero, ℕ, ◌&&◌, ◌+◌, ◌++◌, ◌<◌, ◌==◌, ◌∷◌, ◌≡◌, ◌≢◌, ◌≤◌}
use Rattle.std.proofs.Common.{ap, arith, refl, subst, sym, ◌∙◌}
use Rattle.std.proofs.lemmas.Bool.{eq-eqb, eqb-false, eqb-true, ne_eqb}
use Rattle.std.proofs.lemmas.List.{append-nil}
use Rattle.std.proofs.lemmas.List.Elements.{All-cons, All-filter, All-head, All-map, All-nil, All-tail, All-weaker}
use Rattle.std.proofs.lemmas.List.Sums.{sum_by-cons}
use Rattle.sim_clock.specs.declared.key.Key.{Key}
use Rattle.sim_clock.specs.Firsts.{without}
use Rattle.sim_clock.specs.Order.{key_cmp}
use Rattle.sim_clock.proofs.Lists.{absent_without, all_inserted}
use Rattle.sqs_message.specs.declared.ids.Origin.{Origin}
use Rattle.sqs_message.specs.declared.message.Message.{Message}
use Rattle.sqs_message.specs.declared.row.Row.{Row}
use Rattle.sqs_redrive.specs.declared.settings.QueueSettings.{QueueSettings}
use Rattle.sqs_redrive.specs.declared.settings.TaskSettings.{TaskSettings}
use Rattle.sqs_redrive.specs.declared.transfers.Outbound.{Outbound}
use Rattle.sqs_redrive.specs.Transfers.{transfer_key}
use Rattle.sqs_model.specs.Accounts.{EachKeepsOnePlace, NoOtherComesIn, carries, ended_by, is_deleted, is_expired, is_told, places, queued, same_origin, under_way}
use Rattle.sqs_model.specs.Dues.{dues, least_due}
use Rattle.sqs_model.specs.Progress.{Ascends}
use Rattle.sqs_model.specs.Queue.{has_number, numbered}
use Rattle.sqs_model.specs.Run.{Run, after}
use Rattle.sqs_model.specs.World.{Stepped, delivered, delivered_one, handled_among, handled_here, handled_there, is_due, next_due, run_on, stepped_at}
use Rattle.sqs_model.specs.Scenario.{HasItsQueues, LeadsWithin, MayBeWithin, Scenario, numbered_tasks, opening, opening_site, opening_task}
use Rattle.sqs_model.specs.Site.{Effect, Site, accepted, has_key, number_of}
use Rattle.sqs_model.specs.Step.{Handled, handle_arrival, handled, handled_when, is_arrival, left_with, with_polls}
use Rattle.sqs_model.proofs.Balance.{AreApart, Holds, IsFine}
use Rattle.sqs_model.proofs.Branches.{either}
use Rattle.sqs_model.proofs.Counts.{all_without, find_all, total, total_same, total_without}
use Rattle.sqs_model.proofs.EachDue.{of_site}
use Rattle.sqs_model.proofs.Kept.{handled_number}
use Rattle.sqs_model.proofs.Ledger.{IsPast, bit, ended, first_in, given_by, id_at}
use Rattle.sqs_model.proofs.Members.{From, In, in_found}
use Rattle.sqs_model.proofs.Opening.{all_enumerated}
use Rattle.sqs_model.proofs.QueueAccounts.{carried}
use Rattle.sqs_model.proofs.SiteAccounts.{At, Goes, IsBound, IsFound, Leads, IsDueThere, come_goes, due_goes, none_come, sent_bits}
use Rattle.sqs_model.proofs.WorldMoves.{is_due_least, least_in}
use Rattle.sqs_model.proofs.Instance.{total_inserted}

-- sums
total_plus : {A : Type 0} (f g : A → ℕ) (xs : List A) → total (λ x. f x + g x) xs ≡ total f xs + total g xs
total_plus f g [] = refl
total_plus f g (x ∷ xs) = omega (arith, total_plus f g xs)

sum_is : {A : Type 0} (f : A → ℕ) (xs : List A) → sum_by f xs ≡ total f xs
sum_is f [] = refl
sum_is f (x ∷ xs) = omega (arith, sum_by-cons f x xs, sum_is f xs)

count_total : {A : Type 0} (p : A → Bool) (xs : List A) → count_by p xs ≡ total (λ x. bit (p x)) xs
count_total p xs = sum_is (λ x. bit (p x)) xs

-- a message that is due is there
module _ (s : Site) where
  abbrev pub Fits : Key → Type 0
  Fits key = IsDueThere key key.class s.core

  message_there : (m : Message) → In s.core.queue.records m → IsFound (numbered m.number s.core.queue.records)
  message_there m i =
      let f : From s.core.queue.records (λ x. find (has_number m.number) s.core.queue.records ≡ Some x) = in_found (has_number m.number) s.core.queue.records m i (eq-eqb m.number m.number refl) in
      subst IsFound (sym f.gives) tt

  pub due_fits : (key : Key) → In (dues s) key → Fits key
  due_fits key =
      of_site Fits key s (λ o i. tt)
      (record { expiry = λ m i. message_there m i; release = λ m at i e. message_there m i; poll = λ p i. tt; wake = λ a at i e. tt; sample = λ e. tt; step = λ t i e. tt })

module _ (o : Origin) (top : ℕ) where
  -- how many of the origin stand at a site or are on their way to it
  abbrev stock : Site → ℕ
  stock s = total (λ m. bit (same_origin o m.origin)) s.core.queue.records + sent_bits o top s.arriving

  abbrev stocks : List Site → ℕ
  stocks sites = total stock sites

  -- sites of a world are numbered
  abbrev AreNumbered : ℕ → List Site → Type 0
  AreNumbered n [] = n ≡ top
  AreNumbered n (s ∷ ss) = (number_of s.core ≡ n) × AreNumbered (n + 1) ss

  -- a site whose messages had their origins told by rows
  record IsKept (rows : List Row) (s : Site) : Type 0 where
    pub inside : s.core.queue.site < top
    pub policy : LeadsWithin top s.core.queue.settings.policy
    pub ordered : Ascends (λ m. m.number) 0 s.core.queue.records
    pub records : All (IsFine o top [] rows s.core.queue.site s.core.queue.arrivals) s.core.queue.records
    pub past : All (IsPast o s.core.queue.site s.core.queue.arrivals) rows
    pub tasks : All (Leads o top) s.core.tasks
    pub arriving : All (IsBound o top) s.arriving

  -- more rows say the same of a site's ids
  record IsLike (rows more : List Row) (site : ℕ) : Type 0 where
    pub told : (n : ℕ) → given_by o more (id_at site n) ≡ given_by o rows (id_at site n)
    pub past : (n : ℕ) → All (IsPast o site n) rows → All (IsPast o site n) more

  fine_base : (base other rows : List Row) (site n : ℕ) (m : Message) → IsFine o top base rows site n m → IsFine o top other rows site n m
  fine_base base other rows site n m f = record { told = f.told; old = f.old; source = f.source }

  kept_like : (rows more : List Row) (s : Site) → IsLike rows more s.core.queue.site → IsKept rows s → IsKept more s
  kept_like rows more s l k =
      let site : ℕ = s.core.queue.site in
      let n : ℕ = s.core.queue.arrivals in
      record {
        inside = k.inside;
        policy = k.policy;
        ordered = k.ordered;
        records =
            All-weaker (IsFine o top [] rows site n) (IsFine o top [] more site n)
            (λ m f. record { told = l.told m.number ∙ f.told; old = f.old; source = f.source }) s.core.queue.records k.records;
        past = l.past n k.past;
        tasks = k.tasks;
        arriving = k.arriving;
      }

  -- a site before and after what happens there
  at_site : (rows : List Row) (elsewhere : ℕ) (s : Site) → IsKept rows s → total (λ m. bit (same_origin o m.origin)) s.core.queue.records + ended o rows + elsewhere ≡ first_in o rows → At o top rows rows elsewhere s.core
  at_site rows elsewhere s k e = (
    record {
      inside = k.inside;
      policy = k.policy;
      ordered = k.ordered;
      records = All-weaker (IsFine o top [] rows s.core.queue.site s.core.queue.arrivals) (IsFine o top rows rows s.core.queue.site s.core.queue.arrivals) (fine_base [] rows rows s.core.queue.site s.core.queue.arrivals) s.core.queue.records k.records;
      past = k.past;
      apart = record { told = λ j n d. refl; past = λ j n d h. h };
      sum = e;
    },
    k.tasks,
  )

  record Stays (rows : List Row) (elsewhere : ℕ) (h : Handled) : Type 0 where
    pub kept : IsKept (rows ++ h.rows) h.site
    pub sum : stock h.site + sent_bits o top h.sent + ended o (rows ++ h.rows) + elsewhere ≡ first_in o (rows ++ h.rows)
    pub sent : All (IsBound o top) h.sent
    pub apart : AreApart o top rows (rows ++ h.rows) (number_of h.site.core)

  left_stays : (rows : List Row) (elsewhere : ℕ) (arriving : List Outbound) (e : Effect) → All (IsBound o top) arriving → Goes o top rows rows (sent_bits o top arriving + elsewhere) e → Stays rows elsewhere (left_with arriving e)
  left_stays rows elsewhere arriving e a g =
      let h : Holds o top rows (rows ++ e.rows) (sent_bits o top e.sent + (sent_bits o top arriving + elsewhere)) e.core.queue = g.at.0 in
      let q = e.core.queue in
      record {
        kept = record {
          inside = h.inside;
          policy = h.policy;
          ordered = h.ordered;
          records = All-weaker (IsFine o top rows (rows ++ e.rows) q.site q.arrivals) (IsFine o top [] (rows ++ e.rows) q.site q.arrivals) (fine_base rows [] (rows ++ e.rows) q.site q.arrivals) q.records h.records;
          past = h.past;
          tasks = g.at.1;
          arriving = a;
        };
        sum = omega (arith, h.sum);
        sent = g.sent;
        apart = h.apart;
      }

  -- a handling
  came_stays :
      (key : Key) (rows : List Row) (elsewhere : ℕ) (s : Site) (f : Option Outbound) → find (has_key key) s.arriving ≡ f → IsKept rows s
      → stock s + ended o rows + elsewhere ≡ first_in o rows → Stays rows elsewhere (left_with (without (has_key key) s.arriving) (with_polls key (handle_arrival key f s.core)))
  came_stays key rows elsewhere s None e k h =
      let left : List Outbound = without (has_key key) s.arriving in
      let same : sent_bits o top left ≡ sent_bits o top s.arriving = ap (sent_bits o top) (absent_without (has_key key) s.arriving e) in
      left_stays rows elsewhere left _ (all_without (has_key key) (IsBound o top) s.arriving k.arriving)
      (none_come o top rows key rows (sent_bits o top left + elsewhere) s.core (at_site rows (sent_bits o top left + elsewhere) s k (omega (arith, h, same))))
  came_stays key rows elsewhere s (Some x) e k h =
      let left : List Outbound = without (has_key key) s.arriving in
      let less : sent_bits o top left + carried o x.load ≡ sent_bits o top s.arriving = total_without (has_key key) (λ (y : Outbound). carried o y.load) s.arriving x e in
      let bound : IsBound o top x = find_all (has_key key) (IsBound o top) s.arriving x k.arriving e in
      left_stays rows elsewhere left _ (all_without (has_key key) (IsBound o top) s.arriving k.arriving)
      (come_goes o top rows key rows (sent_bits o top left + elsewhere) x s.core bound (at_site rows (carried o x.load + (sent_bits o top left + elsewhere)) s k (omega (arith, h, less))))

  when_stays : (b : Bool) (key : Key) (rows : List Row) (elsewhere : ℕ) (s : Site) → IsDueThere key key.class s.core → IsKept rows s → stock s + ended o rows + elsewhere ≡ first_in o rows → Stays rows elsewhere (handled_when b key s)
  when_stays true key rows elsewhere s m k h = came_stays key rows elsewhere s (find (has_key key) s.arriving) refl k h
  when_stays false key rows elsewhere s m k h =
      left_stays rows elsewhere s.arriving _ k.arriving (due_goes o top rows key key.class rows (sent_bits o top s.arriving + elsewhere) s.core m (at_site rows (sent_bits o top s.arriving + elsewhere) s k (omega (arith, h))))

  handled_stays : (key : Key) (rows : List Row) (elsewhere : ℕ) (s : Site) → least_due s ≡ Some key → IsKept rows s → stock s + ended o rows + elsewhere ≡ first_in o rows → Stays rows elsewhere (handled key s)
  unfolding handled
  handled_stays key rows elsewhere s d k h = when_stays (is_arrival key.class) key rows elsewhere s (due_fits s key (least_in (dues s) key d)) k h

  -- a world
  record Steps (rows : List Row) (elsewhere n : ℕ) (t : Stepped) : Type 0 where
    pub kept : All (IsKept (rows ++ t.rows)) t.sites
    pub numbers : AreNumbered n t.sites
    pub sum : stocks t.sites + sent_bits o top t.sent + ended o (rows ++ t.rows) + elsewhere ≡ first_in o (rows ++ t.rows)
    pub sent : All (IsBound o top) t.sent
    pub before : (j : ℕ) → j < n → IsLike rows (rows ++ t.rows) j

  apart_like : (rows more : List Row) (site j : ℕ) → j ≢ site → AreApart o top rows more site → IsLike rows more j
  apart_like rows more site j d a = record { told = λ n. a.told j n d; past = λ n h. a.past j n d h }

  above : (n : ℕ) (sites : List Site) → AreNumbered n sites → All (λ s. n ≤ number_of s.core) sites
  above n [] h = All-nil (λ (s : Site). n ≤ number_of s.core)
  above n (s ∷ ss) h =
      All-cons (λ x. n ≤ number_of x.core) s ss (omega (arith, h.0))
      (All-weaker (λ x. n + 1 ≤ number_of x.core) (λ x. n ≤ number_of x.core) (λ x l. omega (arith, l)) ss (above (n + 1) ss h.1))

  here_steps : (key : Key) (rows : List Row) (elsewhere n : ℕ) (s : Site) (ss : List Site) → All (IsKept rows) (s ∷ ss) → AreNumbered n (s ∷ ss) → Stays rows (stocks ss + elsewhere) (handled key s) → Steps rows elsewhere n (handled_here (handled key s) ss)
  here_steps key rows elsewhere n s ss k a h =
      let e : Handled = handled key s in
      let own : number_of e.site.core ≡ n = handled_number key s ∙ a.0 in
      let more : List Row = rows ++ e.rows in
      let others : All (λ x. n + 1 ≤ number_of x.core) ss = above (n + 1) ss a.1 in
      let like : (j : ℕ) → j ≢ n → IsLike rows more j = λ j d. apart_like rows more (number_of e.site.core) j (λ y. d (y ∙ own)) h.apart in
      let rest : All (IsKept rows) ss = All-tail (IsKept rows) s ss k in
      record {
        kept =
            All-cons (IsKept more) e.site ss h.kept
            (λ i d l.
            let x : Site = get_or ss i d in
            let far : n + 1 ≤ number_of x.core = others i d l in
            kept_like rows more x (like (number_of x.core) (λ y. absurd (omega (arith, far, y)))) (rest i d l));
        numbers = (own, a.1);
        sum = omega (arith, h.sum);
        sent = h.sent;
        before = λ j l. like j (λ y. absurd (omega (arith, l, y)));
      }

  there_steps : (rows : List Row) (elsewhere n : ℕ) (s : Site) (ss : List Site) (t : Stepped) → All (IsKept rows) (s ∷ ss) → AreNumbered n (s ∷ ss) → Steps rows (stock s + elsewhere) (n + 1) t → Steps rows elsewhere n (handled_there s t)
  there_steps rows elsewhere n s ss t k a h =
      let more : List Row = rows ++ t.rows in
      record {
        kept = All-cons (IsKept more) s t.sites (kept_like rows more s (h.before (number_of s.core) (omega (arith, a.0))) (All-head (IsKept rows) s ss k)) h.kept;
        numbers = (a.0, h.numbers);
        sum = omega (arith, h.sum);
        sent = h.sent;
        before = λ j l. h.before j (omega (arith, l));
      }

  among_steps : (key : Key) (sites : List Site) (rows : List Row) (elsewhere n : ℕ) → All (IsKept rows) sites → AreNumbered n sites → stocks sites + ended o rows + elsewhere ≡ first_in o rows → Steps rows elsewhere n (handled_among key sites)
  among_steps key [] rows elsewhere n k a h =
      let same : rows ≡ rows ++ [] = sym (append-nil rows) in
      record {
        kept = All-nil (IsKept (rows ++ []));
        numbers = a;
        sum = subst (λ r. 0 + 0 + ended o r + elsewhere ≡ first_in o r) same (omega (arith, h));
        sent = All-nil (IsBound o top);
        before = λ j l. subst (λ r. IsLike rows r j) same (record { told = λ m. refl; past = λ m p. p });
      }
  among_steps key (s ∷ ss) rows elsewhere n k a h =
      elim (is_due key (least_due s)) as
      (λ b. is_due key (least_due s) ≡ b → Steps rows elsewhere n (if b then handled_here (handled key s) ss else handled_there s (handled_among key ss))) [
        | true ↦ λ i. here_steps key rows elsewhere n s ss k a (handled_stays key rows (stocks ss + elsewhere) s (is_due_least key (least_due s) i) (All-head (IsKept rows) s ss k) (omega (arith, h)))
        | false ↦ λ i. there_steps rows elsewhere n s ss (handled_among key ss) k a (among_steps key ss rows (stock s + elsewhere) (n + 1) (All-tail (IsKept rows) s ss k) a.1 (omega (arith, h)))
      ] refl

  -- delivery
  accepted_stock : (x : Outbound) (s : Site) → stock (accepted x s) ≡ stock s + carried o x.load
  accepted_stock x s = omega (arith, total_inserted (λ (y : Outbound). carried o y.load) (on transfer_key key_cmp) x s.arriving)

  one_kept : (rows : List Row) (x : Outbound) (s : Site) → IsBound o top x → IsKept rows s → IsKept rows (delivered_one x s)
  one_kept rows x s b k =
      either (IsKept rows) (x.to == number_of s.core) (accepted x s) s
      (record {
        inside = k.inside;
        policy = k.policy;
        ordered = k.ordered;
        records = k.records;
        past = k.past;
        tasks = k.tasks;
        arriving = all_inserted (IsBound o top) (on transfer_key key_cmp) x s.arriving b k.arriving;
      }) k

  one_number : (x : Outbound) (s : Site) → number_of (delivered_one x s).core ≡ number_of s.core
  one_number x s = either (λ (y : Site). number_of y.core ≡ number_of s.core) (x.to == number_of s.core) (accepted x s) s refl refl

  map_numbers : (x : Outbound) (n : ℕ) (sites : List Site) → AreNumbered n sites → AreNumbered n (map (delivered_one x) sites)
  map_numbers x n [] a = a
  map_numbers x n (s ∷ ss) a = (one_number x s ∙ a.0, map_numbers x (n + 1) ss a.1)

  -- one that goes to no site of these
  one_past : (x : Outbound) (s : Site) → x.to ≢ number_of s.core → delivered_one x s ≡ s
  one_past x s d = ap (λ b. if b then accepted x s else s) (ne_eqb x.to (number_of s.core) d)

  map_past : (x : Outbound) (n : ℕ) (sites : List Site) → AreNumbered n sites → x.to < n → stocks (map (delivered_one x) sites) ≡ stocks sites
  map_past x n [] a l = refl
  map_past x n (s ∷ ss) a l =
      omega (arith, ap stock (one_past x s (λ e. absurd (omega (arith, l, e, a.0)))), map_past x (n + 1) ss a.1 (omega (arith, l)))

  -- one that goes to one of them
  map_to : (x : Outbound) (n : ℕ) (sites : List Site) → AreNumbered n sites → n ≤ x.to → x.to < top → stocks (map (delivered_one x) sites) ≡ stocks sites + carried o x.load
  map_to x n [] a l t = absurd (omega (arith, a, l, t))
  map_to x n (s ∷ ss) a l t =
      elim (x.to == number_of s.core) as (λ b. (x.to == number_of s.core) ≡ b → stock (if b then accepted x s else s) + stocks (map (delivered_one x) ss) ≡ stock s + stocks ss + carried o x.load) [
        | true ↦ λ e.
            let is : x.to ≡ number_of s.core = eqb-true x.to (number_of s.core) e in
            omega (arith, accepted_stock x s, map_past x (n + 1) ss a.1 (omega (arith, is, a.0)))
        | false ↦ λ e.
            let far : n + 1 ≤ x.to = grind (arith, eqb-false x.to (number_of s.core) e, a.0, l) in
            omega (arith, map_to x (n + 1) ss a.1 far t)
      ] refl

  -- one that carries none
  map_none : (x : Outbound) (sites : List Site) → carried o x.load ≡ 0 → stocks (map (delivered_one x) sites) ≡ stocks sites
  map_none x [] z = refl
  map_none x (s ∷ ss) z =
      let one : stock (delivered_one x s) ≡ stock s = either (λ (y : Site). stock y ≡ stock s) (x.to == number_of s.core) (accepted x s) s (omega (arith, accepted_stock x s, z)) refl in
      omega (arith, one, map_none x ss z)

  map_stocks : (x : Outbound) (sites : List Site) → IsBound o top x → AreNumbered 0 sites → stocks (map (delivered_one x) sites) ≡ stocks sites + carried o x.load
  map_stocks x sites b a =
      elim (carries o x.load) as (λ c. carries o x.load ≡ c → stocks (map (delivered_one x) sites) ≡ stocks sites + bit c) [
        | true ↦ λ e. let one : carried o x.load ≡ 1 = ap bit e in omega (arith, map_to x 0 sites a (omega arith) (b.there e), one)
        | false ↦ λ e. let zero_bits : carried o x.load ≡ 0 = ap bit e in omega (arith, map_none x sites zero_bits)
      ] refl

  record AreDelivered (rows : List Row) (os : List Outbound) (sites : List Site) : Type 0 where
    pub kept : All (IsKept rows) (delivered os sites)
    pub numbers : AreNumbered 0 (delivered os sites)
    pub sum : stocks (delivered os sites) ≡ stocks sites + sent_bits o top os

  delivers : (rows : List Row) (os : List Outbound) (sites : List Site) → All (IsBound o top) os → All (IsKept rows) sites → AreNumbered 0 sites → AreDelivered rows os sites
  delivers rows [] sites b k a = record { kept = k; numbers = a; sum = omega arith }
  delivers rows (x ∷ xs) sites b k a =
      let bound : IsBound o top x = All-head (IsBound o top) x xs b in
      let kept : All (IsKept rows) (map (delivered_one x) sites) =
      All-map (IsKept rows) (delivered_one x) sites (All-weaker (IsKept rows) (λ s. IsKept rows (delivered_one x s)) (λ s. one_kept rows x s bound) sites k) in
      let rest : AreDelivered rows xs (map (delivered_one x) sites) = delivers rows xs (map (delivered_one x) sites) (All-tail (IsBound o top) x xs b) kept (map_numbers x 0 sites a) in
      record { kept = rest.kept; numbers = rest.numbers; sum = omega (arith, rest.sum, map_stocks x sites bound a) }

  -- a run in balance
  record IsBalanced (r : Run) : Type 0 where
    pub kept : All (IsKept r.rows) r.sites
    pub numbers : AreNumbered 0 r.sites
    pub sum : stocks r.sites + ended o r.rows ≡ first_in o r.rows

  run_on_balanced : (key : Key) (r : Run) → IsBalanced r → IsBalanced (run_on r.rows (handled_among key r.sites))
  run_on_balanced key r b =
      let t : Stepped = handled_among key r.sites in
      let s : Steps r.rows 0 0 t = among_steps key r.sites r.rows 0 0 b.kept b.numbers (omega (arith, b.sum)) in
      let d : AreDelivered (r.rows ++ t.rows) t.sent t.sites = delivers (r.rows ++ t.rows) t.sent t.sites s.sent s.kept s.numbers in
      record { kept = d.kept; numbers = d.numbers; sum = omega (arith, d.sum, s.sum) }

  stepped_balanced : (r : Run) (due : Option Key) → IsBalanced r → IsBalanced (stepped_at r due)
  stepped_balanced r None b = b
  stepped_balanced r (Some key) b = run_on_balanced key r b

  after_balanced : (horizon n : ℕ) (start : List Site) → IsBalanced (record { sites = start; rows = [] }) → IsBalanced (after horizon n start)
  after_balanced horizon zero start b = b
  after_balanced horizon (suc n) start b = let r : Run = after horizon n start in stepped_balanced r (next_due horizon r.sites) (after_balanced horizon n start b)

  -- the opening
  record Opens (n : ℕ) (sites : List Site) : Type 0 where
    pub kept : All (IsKept []) sites
    pub numbers : AreNumbered n sites
    pub none : stocks sites ≡ 0

  opens : (s : Scenario) (n : ℕ) (queues : List QueueSettings) → All (λ t. MayBeWithin top t.to) s.tasks → All (λ q. LeadsWithin top q.policy) queues → n + length queues ≡ top → Opens n (map (opening_site s) (enumerate_from n queues))
  opens s n [] t p e = record { kept = All-nil (IsKept []); numbers = omega (arith, e); none = refl }
  opens s n (q ∷ qs) t p e =
      let rest : Opens (n + 1) (map (opening_site s) (enumerate_from (n + 1) qs)) = opens s (n + 1) qs t (All-tail (λ x. LeadsWithin top x.policy) q qs p) (omega (arith, e)) in
      let from : ℕ = length s.queues + length s.actors in
      let leads : All (λ (x : ℕ × TaskSettings). MayBeWithin top x.1.to) (numbered_tasks s) = all_enumerated (λ (x : TaskSettings). MayBeWithin top x.to) from s.tasks t in
      let one : IsKept [] (opening_site s (n, q)) =
      record {
        inside = omega (arith, e);
        policy = All-head (λ x. LeadsWithin top x.policy) q qs p;
        ordered = tt;
        records = All-nil (IsFine o top [] [] n 0);
        past = All-nil (IsPast o n 0);
        tasks =
            All-map (Leads o top) (opening_task s.seed) (filter (λ x. x.1.home == n) (numbered_tasks s))
            (All-filter (λ x. x.1.home == n) (λ (x : ℕ × TaskSettings). MayBeWithin top x.1.to) (numbered_tasks s) leads);
        arriving = All-nil (IsBound o top);
      } in
      record { kept = All-cons (IsKept []) _ _ one rest.kept; numbers = (refl, rest.numbers); none = omega (arith, rest.none) }

  -- places
  places_are : (sites : List Site) (rows : List Row) → places o sites rows ≡ stocks sites + ended o rows
  places_are sites rows =
      let held : Site → ℕ = λ s. total (λ m. bit (same_origin o m.origin)) s.core.queue.records in
      let coming : Site → ℕ = λ s. sent_bits o top s.arriving in
      let a : queued o sites ≡ total held sites =
      sum_is (λ s. count_by (λ m. same_origin o m.origin) s.core.queue.records) sites
      ∙ total_same (λ s. count_by (λ m. same_origin o m.origin) s.core.queue.records) held (λ s. count_total (λ m. same_origin o m.origin) s.core.queue.records) sites in
      let b : under_way o sites ≡ total coming sites =
      sum_is (λ s. count_by (λ t. carries o t.load) s.arriving) sites
      ∙ total_same (λ s. count_by (λ t. carries o t.load) s.arriving) coming (λ s. count_total (λ t. carries o t.load) s.arriving) sites in
      let c : ended_by is_deleted o rows ≡ total (λ r. bit (is_deleted r.answer && is_told o rows r)) rows = count_total (λ r. is_deleted r.answer && is_told o rows r) rows in
      let d : ended_by is_expired o rows ≡ total (λ r. bit (is_expired r.answer && is_told o rows r)) rows = count_total (λ r. is_expired r.answer && is_told o rows r) rows in
      omega (arith, a, b, c, d, total_plus held coming sites, total_plus (λ r. bit (is_deleted r.answer && is_told o rows r)) (λ r. bit (is_expired r.answer && is_told o rows r)) rows)

-- in how many places a message stands: in one where it was accepted, and else in none
counted : (s : Scenario) → HasItsQueues s → (n : ℕ) (o : Origin) → places o (after s.horizon n (opening s)).sites (after s.horizon n (opening s)).rows ≡ first_in o (after s.horizon n (opening s)).rows
counted s h n o =
    let top : ℕ = length s.queues in
    let r : Run = after s.horizon n (opening s) in
    let open_at : Opens o top 0 (opening s) = opens o top s 0 s.queues h.tasks h.policies (omega arith) in
    let start : IsBalanced o top (record { sites = opening s; rows = [] }) = record { kept = open_at.kept; numbers = open_at.numbers; sum = omega (arith, open_at.none) } in
    let b : IsBalanced o top r = after_balanced o top s.horizon n (opening s) start in
    omega (arith, places_are o top r.sites r.rows, b.sum)

-- the laws
pub each_keeps : EachKeepsOnePlace
each_keeps s h n o a = counted s h n o ∙ ap bit a

pub no_other : NoOtherComesIn
no_other s h n o a = counted s h n o ∙ ap bit a
