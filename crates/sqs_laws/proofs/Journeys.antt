-- Journeys: what is sent on to a queue arrives there, or is still under way.
use Rattle.sqs_laws.proofs.Terms.{absent_without, accepted, after, all_inserted, all_without, by_cases, delivered, delivered_one, dues, either, eqb-false, eqb-true, find_all, find_picked, handled_among, handled_here, handled_there, handled_when, has_key, is_arrival, is_due, Key, key_cmp, least_due, length-map, ne_eqb, next_due, number_of, on, Outbound, Row, Run, Site, sqs, Stepped, stepped_at, total, total_append, total_inserted, total_without, transfer_key, without}
use Rattle.std.specs.Prelude.{All, Bool, List, None, Option, Some, [], false, find, if◌then◌else◌, length, map, suc, true, zero, ℕ, ◌+◌, ◌++◌, ◌<◌, ◌==◌, ◌∷◌, ◌≡◌, ◌≢◌, ◌≤◌}
use Rattle.std.proofs.Common.{ap, arith, refl, subst, sym, ◌∙◌}
use Rattle.sim_clock.proofs.Least.{key_tied}
use Rattle.sim_engine.specs.Members.{Each, In}
use Rattle.sim_engine.specs.Setting.{IsNumbered}
use Rattle.sqs_message.specs.declared.row.RowKind.TheVariants as kinds
use Rattle.sqs_model.specs.Step.{handled}
use Rattle.sqs_model.proofs.Kept.{handled_number}
use Rattle.sqs_model.proofs.WorldMoves.{is_due_least, least_in}
use Rattle.sqs_laws.proofs.Left.{same_among, same_delivered}
use Rattle.sqs_laws.proofs.Sent.{IsComing}

-- what is on its way to a site is for it
abbrev pub IsForSite : Site → Type 0
IsForSite x = All (λ o. o.to ≡ number_of x.core) x.arriving

-- the numbers of sites stay
among_numbered : (key : Key) (m : ℕ) (w : List Site) → IsNumbered sqs m w → IsNumbered sqs m (handled_among key w).sites
among_numbered key m [] a = tt
among_numbered key m (x ∷ xs) a =
    either (λ (t : Stepped). IsNumbered sqs m t.sites) (is_due key (least_due x)) (handled_here (handled key x) xs) (handled_there x (handled_among key xs))
    (handled_number key x ∙ a.0, a.1) (a.0, among_numbered key (m + 1) xs a.1)

map_numbered : (o : Outbound) (m : ℕ) (w : List Site) → IsNumbered sqs m w → IsNumbered sqs m (map (delivered_one o) w)
map_numbered o m [] a = tt
map_numbered o m (x ∷ xs) a =
    (either (λ (y : Site). number_of y.core ≡ m) (o.to == number_of x.core) (accepted o x) x a.0 a.0, map_numbered o (m + 1) xs a.1)

all_numbered : (os : List Outbound) (m : ℕ) (w : List Site) → IsNumbered sqs m w → IsNumbered sqs m (delivered os w)
all_numbered [] m w a = a
all_numbered (o ∷ os) m w a = all_numbered os m (map (delivered_one o) w) (map_numbered o m w a)

-- what is delivered is for the site
one_for : (o : Outbound) (x : Site) (b : Bool) → (o.to == number_of x.core) ≡ b → IsForSite x → IsForSite (if b then accepted o x else x)
one_for o x true e h = all_inserted (λ y. y.to ≡ number_of x.core) (on transfer_key key_cmp) o x.arriving (eqb-true o.to (number_of x.core) e) h
one_for o x false e h = h

map_for : (o : Outbound) (w : List Site) → Each IsForSite w → Each IsForSite (map (delivered_one o) w)
map_for o [] h = tt
map_for o (x ∷ xs) h = (one_for o x (o.to == number_of x.core) refl h.0, map_for o xs h.1)

all_for : (os : List Outbound) (w : List Site) → Each IsForSite w → Each IsForSite (delivered os w)
all_for [] w h = h
all_for (o ∷ os) w h = all_for os (map (delivered_one o) w) (map_for o w h)

-- what is on its way after a handling
arriving_after : (key : Key) (x : Site) → (handled key x).site.arriving ≡ (if is_arrival key.class then without (has_key key) x.arriving else x.arriving)
unfolding handled
arriving_after key x =
    elim (is_arrival key.class) as (λ b. (handled_when b key x).site.arriving ≡ (if b then without (has_key key) x.arriving else x.arriving)) [ true ↦ refl | false ↦ refl ]

-- a weight of what is under way to a queue
module _ (n : ℕ) (h : Outbound → ℕ) (elsewhere : (o : Outbound) → (o.to == n) ≡ false → h o ≡ 0) where
  abbrev pub under_way : List Site → ℕ
  under_way w = total (λ x. total h x.arriving) w

  more : (o : Outbound) (x : Site) → total h (accepted o x).arriving ≡ h o + total h x.arriving
  more o x = total_inserted h (on transfer_key key_cmp) o x.arriving

  -- what is for another queue weighs nothing
  zero_delivered : (o : Outbound) → h o ≡ 0 → (w : List Site) → under_way (map (delivered_one o) w) ≡ under_way w
  zero_delivered o e [] = refl
  zero_delivered o e (x ∷ xs) =
      let one : total h (delivered_one o x).arriving ≡ total h x.arriving =
      either (λ (y : Site). total h y.arriving ≡ total h x.arriving) (o.to == number_of x.core) (accepted o x) x (omega (arith, more o x, e)) refl in
      omega (arith, one, zero_delivered o e xs)

  -- what is for this one is delivered once
  none_delivered : (o : Outbound) (m : ℕ) (w : List Site) → IsNumbered sqs m w → o.to < m → under_way (map (delivered_one o) w) ≡ under_way w
  none_delivered o m [] a l = refl
  none_delivered o m (x ∷ xs) a l =
      let off : (o.to == number_of x.core) ≡ false = ne_eqb o.to (number_of x.core) (λ y. absurd (omega (arith, a.0, y, l))) in
      let rest : under_way (map (delivered_one o) xs) ≡ under_way xs = none_delivered o (m + 1) xs a.1 (omega (arith, l)) in
      rw off (omega (arith, rest))

  once_delivered : (o : Outbound) (m : ℕ) (w : List Site) → IsNumbered sqs m w → m ≤ o.to → o.to < m + length w → under_way (map (delivered_one o) w) ≡ under_way w + h o
  once_delivered o m [] a k l = absurd (omega (arith, k, l))
  once_delivered o m (x ∷ xs) a k l =
      by_cases (o.to == number_of x.core)
      (λ e.
      let is : o.to ≡ number_of x.core = eqb-true o.to (number_of x.core) e in
      let rest : under_way (map (delivered_one o) xs) ≡ under_way xs = none_delivered o (m + 1) xs a.1 (omega (arith, is, a.0)) in
      rw e (omega (arith, more o x, rest)))
      (λ e.
      let far : o.to ≢ number_of x.core = eqb-false o.to (number_of x.core) e in
      let rest : under_way (map (delivered_one o) xs) ≡ under_way xs + h o = once_delivered o (m + 1) xs a.1 (grind (arith, far, a.0, k)) (omega (arith, l)) in
      rw e (omega (arith, rest)))

  all_delivered : (os : List Outbound) (w : List Site) → IsNumbered sqs 0 w → n < length w → under_way (delivered os w) ≡ under_way w + total h os
  all_delivered [] w a l = omega arith
  all_delivered (o ∷ os) w a l =
      let one : under_way (map (delivered_one o) w) ≡ under_way w + h o =
      by_cases (o.to == n)
      (λ e. let is : o.to ≡ n = eqb-true o.to n e in once_delivered o 0 w a (omega arith) (omega (arith, is, l)))
      (λ e. let none : h o ≡ 0 = elsewhere o e in omega (arith, none, zero_delivered o none w)) in
      let rest : under_way (delivered os (map (delivered_one o) w)) ≡ under_way (map (delivered_one o) w) + total h os =
      all_delivered os (map (delivered_one o) w) (map_numbered o 0 w a) (let same : length (map (delivered_one o) w) ≡ length w = length-map w (delivered_one o) in omega (arith, same, l)) in
      omega (arith, one, rest)

  -- weights of rows: of those that send a message on there, and of those by which one arrives
  module _ (f g : Row → ℕ) (R : ℕ → ℕ → Type 0) (nought : R 0 0) (adds : (a b c d : ℕ) → R a b → R c d → R (a + c) (b + d)) where
    -- what a handling does at a site
    pub record Handles (key : Key) (x : Site) : Type 0 where
      pub sent : R (total h (handled key x).sent) (total f (handled key x).rows)
      pub come : total g (handled key x).rows + total h (handled key x).site.arriving ≡ total h x.arriving

    -- so does each of fine sites
    module _ (Fine : Site → Type 0) (handles : (key : Key) (x : Site) → Fine x → IsForSite x → In (dues x) key → Handles key x) where
      record Among (w : List Site) (t : Stepped) : Type 0 where
        pub sent : R (total h t.sent) (total f t.rows)
        pub come : total g t.rows + under_way t.sites ≡ under_way w
        pub for : Each IsForSite t.sites

      handled_for : (key : Key) (x : Site) → IsForSite x → IsForSite (handled key x).site
      handled_for key x i =
          let same : number_of x.core ≡ number_of (handled key x).site.core = sym (handled_number key x) in
          let left : All (λ o. o.to ≡ number_of x.core) (handled key x).site.arriving =
          subst (All (λ o. o.to ≡ number_of x.core)) (sym (arriving_after key x))
          (either (All (λ o. o.to ≡ number_of x.core)) (is_arrival key.class) (without (has_key key) x.arriving) x.arriving (all_without (has_key key) (λ o. o.to ≡ number_of x.core) x.arriving i) i) in
          subst (λ m. All (λ o. o.to ≡ m) (handled key x).site.arriving) same left

      among : (key : Key) (w : List Site) → Each Fine w → Each IsForSite w → Among w (handled_among key w)
      among key [] fine i = record { sent = nought; come = refl; for = tt }
      among key (x ∷ xs) fine i =
          elim (is_due key (least_due x)) as (λ b. is_due key (least_due x) ≡ b → Among (x ∷ xs) (if b then handled_here (handled key x) xs else handled_there x (handled_among key xs))) [
            | true ↦ λ e.
                let one : Handles key x = handles key x fine.0 i.0 (least_in (dues x) key (is_due_least key (least_due x) e)) in
                record { sent = one.sent; come = omega (arith, one.come); for = (handled_for key x i.0, i.1) }
            | false ↦ λ e.
                let rest : Among xs (handled_among key xs) = among key xs fine.1 i.1 in
                record { sent = rest.sent; come = omega (arith, rest.come); for = (i.0, rest.for) }
          ] refl

      -- a run so far
      pub record Holds (r : Run) : Type 0 where
        pub for : Each IsForSite r.sites
        pub numbers : IsNumbered sqs 0 r.sites
        pub within : n < length r.sites
        pub sum : R (total g r.rows + under_way r.sites) (total f r.rows)

      pub holds_on : (r : Run) (due : Option Key) → Each Fine r.sites → Holds r → Holds (stepped_at r due)
      holds_on r None fine k = k
      holds_on r (Some key) fine k =
          let t : Stepped = handled_among key r.sites in
          let a : Among r.sites t = among key r.sites fine k.for in
          let numbers : IsNumbered sqs 0 t.sites = among_numbered key 0 r.sites k.numbers in
          let many : length t.sites ≡ length r.sites = same_among key r.sites in
          let there : under_way (delivered t.sent t.sites) ≡ under_way t.sites + total h t.sent = all_delivered t.sent t.sites numbers (omega (arith, many, k.within)) in
          let come : total g (r.rows ++ t.rows) + under_way (delivered t.sent t.sites) ≡ total g r.rows + under_way r.sites + total h t.sent =
          omega (arith, total_append g r.rows t.rows, there, a.come) in
          let rows : total f (r.rows ++ t.rows) ≡ total f r.rows + total f t.rows = total_append f r.rows t.rows in
          let both : R (total g r.rows + under_way r.sites + total h t.sent) (total f r.rows + total f t.rows) =
          adds (total g r.rows + under_way r.sites) (total f r.rows) (total h t.sent) (total f t.rows) k.sum a.sent in
          record {
            for = all_for t.sent t.sites a.for;
            numbers = all_numbered t.sent 0 t.sites numbers;
            within = let all : length (delivered t.sent t.sites) ≡ length t.sites = same_delivered t.sent t.sites in omega (arith, all, many, k.within);
            sum = subst (λ m. R m (total f (r.rows ++ t.rows))) (sym come) (subst (R (total g r.rows + under_way r.sites + total h t.sent)) (sym rows) both);
          }

      pub holds_after : (horizon : ℕ) (start : List Site) → ((m : ℕ) → Each Fine (after horizon m start).sites) → Holds (record { sites = start; rows = [] }) → (m : ℕ) → Holds (after horizon m start)
      holds_after horizon start fine k zero = k
      holds_after horizon start fine k (suc m) =
          let r : Run = after horizon m start in holds_on r (next_due horizon r.sites) (fine m) (holds_after horizon start fine k m)

  -- what came at a site is no longer on its way
  pub came : (key : Key) (g : Row → ℕ) (x : Site) → IsForSite x → ((r : Row) (o : Outbound) → r.key ≡ key → r.queue ≡ o.to → r.kind ≡ kinds.Arrive → transfer_key o ≡ key → g r ≡ h o)
      → ((p : ℕ) → (is_arrival key.class ≡ false → p ≡ 0) → (is_arrival key.class ≡ true → IsComing key g p (find (has_key key) x.arriving) x.core) → total g (handled key x).rows ≡ p)
      → total g (handled key x).rows + total h (handled key x).site.arriving ≡ total h x.arriving
  came key g x i weighs rows =
      elim (is_arrival key.class) as
      (λ b. is_arrival key.class ≡ b → (handled key x).site.arriving ≡ (if b then without (has_key key) x.arriving else x.arriving) → total g (handled key x).rows + total h (handled key x).site.arriving ≡ total h x.arriving) [
        | true ↦ λ e same. arrived_by (find (has_key key) x.arriving) refl e same
        | false ↦ λ e same.
            let none : total g (handled key x).rows ≡ 0 = rows 0 (λ _. refl) (λ t. cc) in
            let kept : total h (handled key x).site.arriving ≡ total h x.arriving = ap (total h) same in
            omega (arith, none, kept)
      ] refl (arriving_after key x)
    where
      arrived_by :
          (o : Option Outbound) → find (has_key key) x.arriving ≡ o → is_arrival key.class ≡ true → (handled key x).site.arriving ≡ without (has_key key) x.arriving
          → total g (handled key x).rows + total h (handled key x).site.arriving ≡ total h x.arriving
      arrived_by None f e same =
          let none : total g (handled key x).rows ≡ 0 = rows 0 (λ _. refl) (λ _. subst (λ o. IsComing key g 0 o x.core) (sym f) refl) in
          let kept : total h (handled key x).site.arriving ≡ total h x.arriving = ap (total h) (same ∙ absent_without (has_key key) x.arriving f) in
          omega (arith, none, kept)
      arrived_by (Some o) f e same =
          let is : transfer_key o ≡ key = sym (key_tied key (transfer_key o) (find_picked (has_key key) x.arriving o f)) in
          let to : o.to ≡ number_of x.core = find_all (has_key key) (λ y. y.to ≡ number_of x.core) x.arriving o i f in
          let coming : IsComing key g (h o) (Some o) x.core = λ r k q a. weighs r o k (q ∙ sym to) a is in
          let one : total g (handled key x).rows ≡ h o = rows (h o) (λ t. cc) (λ _. subst (λ y. IsComing key g (h o) y x.core) (sym f) coming) in
          let left : total h (handled key x).site.arriving ≡ total h (without (has_key key) x.arriving) = ap (total h) same in
          omega (arith, one, left, total_without (has_key key) h x.arriving o f)
