-- The log tells each journey of a message from queue to queue.
use Rattle.sqs_laws.proofs.Terms.{after, All-nil, bit, Core, count_by, dues, Edge, edges, enumerate_from, final_load, final_transfer, Forward, handled, in_key_order, IsFine, IsRunOf, IsSentBy, IsSoundScenario, IsSoundSetting, Key, key_cmp, least_among, least_latency, least_of, leb-true, length-map, Load, Move, number_of, on, opening, opening_site, Outbound, QueueSettings, Redrive, Row, Run, Scenario, setting_of, Site, sound_setting, sources, sqs, total, total_flat, total_inserted, total_map, total_same, transfer_key}
use Rattle.std.specs.Prelude.{Bool, List, None, Option, Some, [], false, flat_map, length, map, nat_le, true, ℕ, ◌&&◌, ◌+◌, ◌<◌, ◌==◌, ◌∷◌, ◌≡◌, ◌≤◌}
use Rattle.std.proofs.Common.{ap, arith, inl, inr, le-leb, refl, subst, ◌∙◌, sym}
use Rattle.std.proofs.lemmas.List.FromFn.{length-enumerate_from}
use Rattle.sim_engine.specs.Members.{Each, In}
use Rattle.sim_engine.proofs.Parts.{each_weaker}
use Rattle.sqs_message.specs.declared.row.RowKind.TheVariants as kinds
use Rattle.sqs_model.specs.declared.finals.FinalTransfer.{FinalTransfer}
use Rattle.sqs_model.specs.Conditions.{sqs_conditions}
use Rattle.sqs_model.specs.Finals.{finals_of}
use Rattle.sqs_model.specs.Ways.{FitsWays, Leads, home_of}
use Rattle.sqs_laws.specs.Laws.{Journeys}
use Rattle.sqs_laws.specs.Words.{arrives_at, goes_to, is_arrive, sends_on}
use Rattle.sqs_laws.proofs.Apart.{projected}
use Rattle.sqs_laws.proofs.Journeys.{Handles, Holds, IsForSite, came, holds_after}
use Rattle.sqs_laws.proofs.Reach.{premises}
use Rattle.sqs_laws.proofs.Said.{count_total}
use Rattle.sqs_laws.proofs.Sent.{IsComing, IsSending, handling_weighs}

-- no way is shorter than the least latency
least_most : (most : ℕ) (es : List Edge) → least_of most es ≤ most
least_most most [] = omega arith
least_most most (e ∷ es) = omega (arith, least_most most es)

least_in_of : (most : ℕ) (es : List Edge) (e : Edge) → In es e → least_of most es ≤ e.least
least_in_of most [] e i = absurd i
least_in_of most (x ∷ es) e (inl is) = let same : x.least ≡ e.least = ap (λ (y : Edge). y.least) is in omega (arith, same)
least_in_of most (x ∷ es) e (inr i) = omega (arith, least_in_of most es e i)

least_way : (past : ℕ) (es : List Edge) (e : Edge) → In es e → least_among past es ≤ e.least
least_way past [] e i = absurd i
least_way past (x ∷ es) e (inl is) = let same : x.least ≡ e.least = ap (λ (y : Edge). y.least) is in omega (arith, same, least_most x.least es)
least_way past (x ∷ es) e (inr i) = least_in_of x.least es e i

-- what is by a moment is by a later one
earlier : (a : Bool) (x y moment : ℕ) → x ≤ y → bit (a && nat_le y moment) ≤ bit (a && nat_le x moment)
earlier false x y moment l = omega arith
earlier true x y moment l = by_one (nat_le y moment) refl
  where
    by_one : (b : Bool) → nat_le y moment ≡ b → bit b ≤ bit (nat_le x moment)
    by_one false e = omega arith
    by_one true e = let up : nat_le x moment ≡ true = le-leb x moment (let k : y ≤ moment = leb-true y moment e in omega (arith, l, k)) in rw up (omega arith)

total_less : (f g : Outbound → ℕ) (os : List Outbound) → Each (λ o. f o ≤ g o) os → total f os ≤ total g os
total_less f g [] h = omega arith
total_less f g (o ∷ os) h = omega (arith, h.0, total_less f g os h.1)

-- nothing is expected of a weight that is always nothing
no_coming : (key : Key) (o : Option Outbound) (c : Core) → IsComing key (λ _. 0) 0 o c
no_coming key None c = refl
no_coming key (Some o) c = λ r a b d. refl

-- a final transfer goes where the transfer went
final_to : (o : Outbound) (load : Load) → (final_load o load).to ≡ o.to
final_to o (Redrive id group origin body enqueued) = refl
final_to o (Move id group origin body) = refl
final_to o (Forward id group body) = refl

total_ordered : (h : Outbound → ℕ) (os : List Outbound) → total h (in_key_order os) ≡ total h os
total_ordered h [] = refl
total_ordered h (o ∷ os) = omega (arith, total_inserted h (on transfer_key key_cmp) o (in_key_order os), total_ordered h os)

module _ (s : Scenario) (sound : IsSoundScenario s) (n : ℕ) (within : n < length s.queues) where
  abbrev Fine : Site → Type 0
  Fine = IsFine (edges s) (home_of s) (sources s)

  setting : IsSoundSetting sqs sqs_conditions (home_of s) Fine (FitsWays (Leads s)) (setting_of s)
  setting = sound_setting s sound

  fine_after : (m : ℕ) → Each Fine (after s.horizon m (opening s)).sites
  fine_after m = (projected (premises (λ _. true) s sound) (λ e i f. cc) m).fine

  -- nothing is under way at the opening
  opening_for : (xs : List (ℕ × QueueSettings)) → Each IsForSite (map (opening_site s) xs)
  opening_for [] = tt
  opening_for (x ∷ xs) = (All-nil (λ (o : Outbound). o.to ≡ x.0), opening_for xs)

  opening_bare : (h : Outbound → ℕ) (xs : List (ℕ × QueueSettings)) → total (λ (x : Site). total h x.arriving) (map (opening_site s) xs) ≡ 0
  opening_bare h [] = refl
  opening_bare h (x ∷ xs) = omega (arith, opening_bare h xs)

  all_queues : length (opening s) ≡ length s.queues
  all_queues = length-map (enumerate_from 0 s.queues) (opening_site s) ∙ length-enumerate_from 0 s.queues

  -- what holds of two weights at the end of a run
  module _ (h : Outbound → ℕ) (elsewhere : (o : Outbound) → (o.to == n) ≡ false → h o ≡ 0) (f g : Row → ℕ) (R : ℕ → ℕ → Type 0) (nought : R 0 0) (adds : (a b c d : ℕ) → R a b → R c d → R (a + c) (b + d))
      (handles : (key : Key) (x : Site) → Fine x → IsForSite x → In (dues x) key → Handles n h elsewhere f g R nought adds key x) where
    abbrev All : Run → Type 0
    All r = Holds n h elsewhere f g R nought adds Fine handles r

    at_end : (r : Run) → IsRunOf s r → All r
    at_end r is =
        let none : 0 + total (λ (x : Site). total h x.arriving) (opening s) ≡ 0 = let bare : total (λ (x : Site). total h x.arriving) (opening s) ≡ 0 = opening_bare h (enumerate_from 0 s.queues) in omega (arith, bare) in
        subst All is.reached
        (holds_after n h elsewhere f g R nought adds Fine handles s.horizon (opening s) fine_after
        (record { for = opening_for (enumerate_from 0 s.queues); numbers = setting.numbered; within = omega (arith, all_queues, within); sum = subst (λ m. R m 0) (sym none) nought }) is.steps)

  -- all that is sent on to the queue
  abbrev goes : Row → ℕ
  goes r = bit (goes_to n r)

  abbrev arrives : Row → ℕ
  arrives r = bit (arrives_at n r)

  abbrev waits : Outbound → ℕ
  waits o = bit (o.to == n)

  elsewhere : (o : Outbound) → (o.to == n) ≡ false → waits o ≡ 0
  elsewhere o e = rw e refl

  goes_plain : (r : Row) → sends_on r.kind ≡ false → goes r ≡ 0
  goes_plain r e = rw e refl

  arrives_apart : (r : Row) → is_arrive r.kind ≡ false → arrives r ≡ 0
  arrives_apart r e = rw e refl

  goes_pair : (key : Key) (r : Row) (o : Outbound) → IsSending key r o → waits o ≡ goes r
  goes_pair key r o i = rw (i.kind, i.to) refl

  weighs : (key : Key) (r : Row) (o : Outbound) → r.key ≡ key → r.queue ≡ o.to → r.kind ≡ kinds.Arrive → transfer_key o ≡ key → arrives r ≡ waits o
  weighs key r o k q a t = rw (a, q) refl

  equal : (a b c d : ℕ) → a ≡ b → c ≡ d → a + c ≡ b + d
  equal a b c d e f = omega (arith, e, f)

  handles : (key : Key) (x : Site) → Fine x → IsForSite x → In (dues x) key → Handles n waits elsewhere goes arrives (λ a b. a ≡ b) refl equal key x
  handles key x fine i d =
      record {
        sent = (handling_weighs key goes (λ _. 0) waits goes_plain (λ r e. refl) (goes_pair key) x 0 (λ _. refl) (λ _. no_coming key _ x.core)).sent;
        come = came n waits elsewhere key arrives x i (weighs key) (λ p a b. (handling_weighs key (λ _. 0) arrives (λ _. 0) (λ r e. refl) arrives_apart (λ r o j. refl) x p a b).come);
      }

  -- so all arrives or is under way
  all_told : (r : Run) → IsRunOf s r → count_by (goes_to n) r.rows ≡ count_by (arrives_at n) r.rows + count_by (λ t. t.to == n) (finals_of r.sites).transfers
  unfolding finals_of
  all_told r is =
      let end = at_end waits elsewhere goes arrives (λ a b. a ≡ b) refl equal handles r is in
      let left : List Outbound = flat_map (λ (x : Site). x.arriving) r.sites in
      let to : total (λ (t : FinalTransfer). bit (t.to == n)) (map final_transfer (in_key_order left)) ≡ total waits (in_key_order left) =
      total_map (λ (t : FinalTransfer). bit (t.to == n)) final_transfer (in_key_order left) ∙ total_same (λ o. bit ((final_transfer o).to == n)) waits (λ o. ap (λ m. bit (m == n)) (final_to o o.load)) (in_key_order left) in
      omega (
        arith,
        count_total (goes_to n) r.rows,
        count_total (arrives_at n) r.rows,
        count_total (λ (t : FinalTransfer). t.to == n) (map final_transfer (in_key_order left)),
        to,
        total_ordered waits left,
        total_flat waits (λ (x : Site). x.arriving) r.sites,
        end.sum,
      )

  module _ (moment : ℕ) where
    -- what was sent on, arrived and is due there by a moment
    abbrev least : ℕ
    least = least_latency s

    abbrev went : Row → ℕ
    went r = bit (goes_to n r && nat_le (r.key.at + least) moment)

    abbrev arrived : Row → ℕ
    arrived r = bit (arrives_at n r && nat_le r.key.at moment)

    abbrev awaited : Outbound → ℕ
    awaited o = bit ((o.to == n) && nat_le o.at moment)

    -- what a handling sends on by its key
    abbrev sent_by : Key → Outbound → ℕ
    sent_by key o = bit ((o.to == n) && nat_le (key.at + least) moment)

    other : (o : Outbound) → (o.to == n) ≡ false → awaited o ≡ 0
    other o e = rw e refl

    went_plain : (r : Row) → sends_on r.kind ≡ false → went r ≡ 0
    went_plain r e = rw e refl

    arrived_apart : (r : Row) → is_arrive r.kind ≡ false → arrived r ≡ 0
    arrived_apart r e = rw e refl

    went_pair : (key : Key) (r : Row) (o : Outbound) → IsSending key r o → sent_by key o ≡ went r
    went_pair key r o i = rw (i.kind, i.to, i.at_key) refl

    arrived_weighs : (key : Key) (r : Row) (o : Outbound) → r.key ≡ key → r.queue ≡ o.to → r.kind ≡ kinds.Arrive → transfer_key o ≡ key → arrived r ≡ awaited o
    arrived_weighs key r o k q a t =
        let at : o.at ≡ key.at = ap (λ (y : Key). y.at) t in rw (a, q, k, at) refl

    takes_time : (key : Key) (x : Site) (o : Outbound) → IsSentBy sqs (edges s) (home_of s) key (number_of x.core) o → awaited o ≤ sent_by key o
    takes_time key x o sent =
        let way : least ≤ sent.way.least = least_way (s.horizon + 1) (edges s) sent.way sent.there in
        let late : key.at + sent.way.least ≤ o.at = sent.late in
        earlier (o.to == n) (key.at + least) o.at moment (omega (arith, way, late))

    nought : 0 ≤ 0
    nought = omega arith

    up : (a b c d : ℕ) → a ≤ b → c ≤ d → a + c ≤ b + d
    up a b c d e f = omega (arith, e, f)

    handles_by : (key : Key) (x : Site) → Fine x → IsForSite x → In (dues x) key → Handles n awaited other went arrived (λ a b. a ≤ b) nought up key x
    handles_by key x fine i d =
        let rows : total (sent_by key) (handled key x).sent ≡ total went (handled key x).rows =
        (handling_weighs key went (λ _. 0) (sent_by key) went_plain (λ r e. refl) (went_pair key) x 0 (λ _. refl) (λ _. no_coming key _ x.core)).sent in
        let less : total awaited (handled key x).sent ≤ total (sent_by key) (handled key x).sent =
        total_less awaited (sent_by key) (handled key x).sent
        (each_weaker (IsSentBy sqs (edges s) (home_of s) key (number_of x.core)) (λ o. awaited o ≤ sent_by key o) (takes_time key x) (handled key x).sent (setting.laws.sending key x fine d)) in
        record {
          sent = omega (arith, rows, less);
          come = came n awaited other key arrived x i (arrived_weighs key) (λ p a b. (handling_weighs key (λ _. 0) arrived (λ _. 0) (λ r e. refl) arrived_apart (λ r o j. refl) x p a b).come);
        }

    -- so nothing arrives too soon
    in_time_told : (r : Run) → IsRunOf s r → count_by (λ (x : Row). arrives_at n x && nat_le x.key.at moment) r.rows ≤ count_by (λ (x : Row). goes_to n x && nat_le (x.key.at + least) moment) r.rows
    in_time_told r is =
        let end = at_end awaited other went arrived (λ a b. a ≤ b) nought up handles_by r is in
        omega (
          arith,
          count_total (λ (x : Row). arrives_at n x && nat_le x.key.at moment) r.rows,
          count_total (λ (x : Row). goes_to n x && nat_le (x.key.at + least) moment) r.rows,
          end.sum,
        )

-- the law
pub journeys_told : (s : Scenario) → IsSoundScenario s → (r : Run) → IsRunOf s r → Journeys s r.rows (finals_of r.sites).transfers
journeys_told s sound r is = record { all = λ n w. all_told s sound n w r is; in_time = λ n moment w. in_time_told s sound n w moment r is }
