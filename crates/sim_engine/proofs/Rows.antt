-- The rows of the one-list run are in order, by key and site.
use Rattle.std.specs.Cmp.{IsTotalOrder}
use Rattle.std.specs.Ordering.{is_eq, is_lt, nat_cmp, on, ordering_then, then_cmp}
use Rattle.std.specs.Prelude.{Bool, List, Some, [], false, if◌then◌else◌, map, true, ℕ, ◌+◌, ◌++◌, ◌<◌, ◌∷◌, ◌≡◌, ◌≤◌}
use Rattle.std.specs.declared.cmp.Ordering.{Ordering}
use Rattle.std.proofs.Common.{Equal, Greater, Less, ap, arith, inl, inr, refl, subst, sym, ◌∙◌, true≢false}
use Rattle.std.proofs.lemmas.Cmp.{nat_cmp_total, on_total, then_total}
use Rattle.sim_clock.specs.declared.key.Key.{Key}
use Rattle.sim_clock.specs.Order.{IsInOrder, key_cmp, key_cmp_total, least, lesser}
use Rattle.sim_clock.proofs.Inserted.{upto_before}
use Rattle.sim_clock.proofs.Least.{key_tied}
use Rattle.sim_clock.proofs.Orderings.{key_self}
use Rattle.sim_engine.specs.World.{least_due, world_due, Run, Stepped, delivered, delivered_one, handled_among, handled_here, handled_there, is_due, run_on}
use Rattle.sim_engine.specs.Members.{Ascends, In, Each}
use Rattle.sim_engine.specs.Laws.{Conditions, IsRowOf, SiteLaws}
use Rattle.sim_engine.proofs.WorldMoves.{DueIn, is_due_least, least_in, world_in}
use Rattle.sim_engine.specs.Merge.{row_cmp}
use Rattle.sim_engine.proofs.OneList.{NotLess, all_not_less, first_least, joined, not_self, parts, second_least}
use Rattle.sim_engine.proofs.Parts.{each_append, each_weaker, one_number}
use Rattle.sim_engine.specs.Engine.{Engine}
use Rattle.sim_engine.proofs.Premises.{Premises}
use Rattle.sim_engine.proofs.MergedLists.{later}
use Rattle.sim_engine.proofs.Branches.{by_cases, by_either}

-- where something is due: its key and the number of the site
pub record Spot : Type 0 where
  pub key : Key
  pub site : ℕ

abbrev pub spot : Key → ℕ → Spot
spot key site = record { key = key; site = site }

abbrev pub spot_cmp : Spot → Spot → Ordering
spot_cmp = then_cmp (on (λ p. p.key) key_cmp) (on (λ p. p.site) nat_cmp)

pub spot_total : IsTotalOrder spot_cmp
spot_total = then_total (on_total (λ p. p.key) key_cmp_total) (on_total (λ p. p.site) nat_cmp_total)

-- one that does not come before another
abbrev pub NotBefore : Spot → Spot → Type 0
NotBefore p q = is_lt (spot_cmp p q) ≡ false

not_before_from : (p q r : Spot) → NotBefore p q → NotBefore q r → NotBefore p r
not_before_from p q r h k = upto_before spot_total r q p k h

by_key : (o p : Ordering) → is_lt o ≡ false → is_eq o ≡ false → is_lt (ordering_then o p) ≡ false
by_key Less p h e = h
by_key Equal p h e = cc
by_key Greater p h e = refl

by_site : (o : Ordering) (n m : ℕ) → is_lt o ≡ false → m ≤ n → is_lt (ordering_then o (nat_cmp n m)) ≡ false
by_site Less n m h l = h
by_site Equal n m h l = grind (arith)
by_site Greater n m h l = refl

-- later keys, and keys not before at sites not before
spot_key : (j k : Key) (n m : ℕ) → is_lt (key_cmp j k) ≡ false → is_eq (key_cmp j k) ≡ false → NotBefore (spot j n) (spot k m)
spot_key j k n m h e = by_key (key_cmp j k) (nat_cmp n m) h e

spot_site : (j k : Key) (n m : ℕ) → is_lt (key_cmp j k) ≡ false → m ≤ n → NotBefore (spot j n) (spot k m)
spot_site j k n m h l = by_site (key_cmp j k) n m h l

later_lt : (j k : Key) → k.at < j.at → is_lt (key_cmp j k) ≡ false
later_lt j k l = grind (arith)

later_eq : (j k : Key) → k.at < j.at → is_eq (key_cmp j k) ≡ false
later_eq j k l = by_cases (is_eq (key_cmp j k)) (λ e. let u : j.at ≡ k.at = ap (λ (x : Key). x.at) (key_tied j k e) in absurd (omega arith)) (λ e. e)

least_not_less : (key : Key) (ks : List Key) → ((j : Key) → In ks j → is_lt (key_cmp j key) ≡ false) → NotLess key (least ks)
least_not_less key [] f = tt
least_not_less key (k ∷ ks) f = joined key (Some k) (least ks) (f k (inl refl)) (least_not_less key ks (λ j i. f j (inr i)))

-- the least of some keys of which none comes before one of them
least_of_in : (key : Key) (ks : List Key) → ((j : Key) → In ks j → is_lt (key_cmp j key) ≡ false) → In ks key → least ks ≡ Some key
least_of_in key [] f i = absurd i
least_of_in key (k ∷ ks) f (inl e) = subst (λ (x : Key). lesser (Some x) (least ks) ≡ Some key) (sym e) (first_least key (least ks) (least_not_less key ks (λ j i. f j (inr i))))
least_of_in key (k ∷ ks) f (inr i) = ap (lesser (Some k)) (least_of_in key ks (λ j h. f j (inr h)) i) ∙ second_least key (Some k) (f k (inl refl))

-- dues of a site of which none comes before a key
not_less_in : (key : Key) (ks : List Key) → NotLess key (least ks) → (j : Key) → In ks j → is_lt (key_cmp j key) ≡ false
not_less_in key [] h j i = absurd i
not_less_in key (k ∷ ks) h j (inl e) = subst (λ (x : Key). is_lt (key_cmp x key) ≡ false) e (parts key (Some k) (least ks) h).0
not_less_in key (k ∷ ks) h j (inr i) = not_less_in key ks (parts key (Some k) (least ks) h).1 j i

module _ {Site Row Transfer : Type 0} {engine : Engine Site Row Transfer} {conditions : Conditions Site Transfer} (basics : SiteLaws engine conditions) where
  open engine use {number, dues, handled, accepted, transfer_key, row_key, row_site}
  open basics use {number_handled, number_accepted, in_accepted}

  pub row_total : IsTotalOrder (row_cmp engine)
  row_total = then_total (on_total row_key key_cmp_total) (on_total row_site nat_cmp_total)

  -- the spot of a row
  abbrev pub spot_of : Row → Spot
  spot_of r = spot (row_key r) (row_site r)

  -- what is due at a site is not before a spot
  abbrev pub SiteFrom : Spot → Site → Type 0
  SiteFrom p s = (j : Key) → In (dues s) j → NotBefore (spot j (number s)) p

  abbrev pub WorldFrom : Spot → List Site → Type 0
  WorldFrom p w = Each (SiteFrom p) w

  one_from : (p : Spot) (o : Transfer) (s : Site) (b : Bool) → p.key.at < (transfer_key o).at → SiteFrom p s → SiteFrom p (if b then accepted o s else s)
  one_from p o s false l h = h
  one_from p o s true l h =
      λ j i.
      subst (λ n. NotBefore (spot j n) p) (sym (number_accepted o s)) (
      by_either (in_accepted o s j i) (λ e. subst (λ (x : Key). NotBefore (spot x (number s)) p) e (spot_key (transfer_key o) p.key (number s) p.site (later_lt (transfer_key o) p.key l) (later_eq (transfer_key o) p.key l))) (λ k. h j k))

  map_from : (p : Spot) (o : Transfer) (w : List Site) → p.key.at < (transfer_key o).at → WorldFrom p w → WorldFrom p (map (delivered_one engine o) w)
  map_from p o [] l h = tt
  map_from p o (s ∷ ss) l h = (one_from p o s _ l h.0, map_from p o ss l h.1)

  delivered_from : (p : Spot) (os : List Transfer) (w : List Site) → Each (λ o. p.key.at < (transfer_key o).at) os → WorldFrom p w → WorldFrom p (delivered engine os w)
  delivered_from p [] w l h = h
  delivered_from p (o ∷ os) w l h = delivered_from p os (map (delivered_one engine o) w) l.1 (map_from p o w l.0 h)

  -- sites by number
  abbrev pub AreNumbered : ℕ → List Site → Type 0
  AreNumbered low w = Ascends (λ s. number s) low w

  numbered_map : (o : Transfer) (low : ℕ) (w : List Site) → AreNumbered low w → AreNumbered low (map (delivered_one engine o) w)
  numbered_map o low [] h = tt
  numbered_map o low (s ∷ ss) h =
      let e : number (delivered_one engine o s) ≡ number s = one_number basics o s in
      let l : low ≤ number s = h.0 in
      (omega arith, subst (λ n. AreNumbered (n + 1) (map (delivered_one engine o) ss)) (sym e) (numbered_map o (number s + 1) ss h.1))

  pub numbered_delivered : (os : List Transfer) (low : ℕ) (w : List Site) → AreNumbered low w → AreNumbered low (delivered engine os w)
  numbered_delivered [] low w h = h
  numbered_delivered (o ∷ os) low w h = numbered_delivered os low (map (delivered_one engine o) w) (numbered_map o low w h)

module _ {Site Row Transfer : Type 0} {engine : Engine Site Row Transfer} {conditions : Conditions Site Transfer} (given : Premises engine conditions) where
  open engine use {number, dues, handled, accepted, transfer_key, row_key, row_site}
  open given use {basics, Fine, sound}

  -- the handling of the least due of some sites
  record Told (key : Key) (low : ℕ) (w : List Site) (t : Stepped engine) : Type 0 where
    pub site : ℕ
    pub low_site : low ≤ site
    pub due : (p : Spot) → WorldFrom basics p w → NotBefore (spot key site) p
    pub rows : Each (IsRowOf engine key site) t.rows
    pub from : WorldFrom basics (spot key site) t.sites
    pub numbered : AreNumbered basics low t.sites

  higher : (key : Key) (n low : ℕ) (w : List Site) → n ≤ low → AreNumbered basics low w → Each (λ s. NotLess key (least_due engine s)) w → WorldFrom basics (spot key n) w
  higher key n low [] l a h = tt
  higher key n low (s ∷ ss) l a h =
      let k : low ≤ number s = a.0 in
      (λ j i. spot_site j key (number s) n (not_less_in key (dues s) h.0 j i) (omega arith), higher key n (number s + 1) ss (omega arith) a.1 h.1)

  not_tied : (key : Key) (s : Site) → NotLess key (least_due engine s) → is_due key (least_due engine s) ≡ false → (j : Key) → In (dues s) j → is_eq (key_cmp j key) ≡ false
  not_tied key s h e j i =
      by_cases (is_eq (key_cmp j key))
      (λ f.
      let k : In (dues s) key = subst (In (dues s)) (key_tied j key f) i in
      let d : least_due engine s ≡ Some key = least_of_in key (dues s) (not_less_in key (dues s) h) k in
      let u : is_due key (least_due engine s) ≡ true = ap (is_due key) d ∙ key_self key in absurd (true≢false (sym u ∙ e)))
      (λ f. f)

  told : (key : Key) (low : ℕ) (w : List Site) → Each Fine w → AreNumbered basics low w → Each (λ s. NotLess key (least_due engine s)) w → DueIn basics key w → Told key low w (handled_among engine key w)
  told key low [] f a h d = absurd d
  told key low (s ∷ ss) f a h d =
      elim (is_due key (least_due engine s)) as (λ b. is_due key (least_due engine s) ≡ b → Told key low (s ∷ ss) (if b then handled_here engine (handled key s) ss else handled_there engine s (handled_among engine key ss))) [
        | true ↦ λ e.
            let n : ℕ = number s in
            let x : Site = (handled key s).site in
            let same : number x ≡ n = basics.number_handled key s in
            let own : In (dues s) key = least_in (dues s) key (is_due_least key (least_due engine s) e) in
            let rest : (j : Key) → In (dues x) j → is_lt (key_cmp j key) ≡ false = sound.laws.remaining key s f.0 (not_less_in key (dues s) h.0) in
            record {
              site = n;
              low_site = a.0;
              due = λ p k. k.0 key own;
              rows = sound.laws.rows key s f.0;
              from = (λ j i. spot_site j key (number x) n (rest j i) (omega arith), higher key n (n + 1) ss (omega arith) a.1 h.1);
              numbered = (let l : low ≤ n = a.0 in omega arith, subst (λ m. AreNumbered basics (m + 1) ss) (sym same) a.1);
            }
        | false ↦ λ e.
            elim d as (λ _. Told key low (s ∷ ss) (handled_there engine s (handled_among engine key ss))) [
              | inl k ↦ absurd (let t : is_due key (least_due engine s) ≡ true = ap (is_due key) k ∙ key_self key in let x : true ≡ false = sym t ∙ e in cc)
              | inr k ↦
                  let i : Told key (number s + 1) ss (handled_among engine key ss) = told key (number s + 1) ss f.1 a.1 h.1 k in
                  let l : low ≤ number s = a.0 in
                  let m : number s + 1 ≤ i.site = i.low_site in
                  record {
                    site = i.site;
                    low_site = omega arith;
                    due = λ p g. i.due p g.1;
                    rows = i.rows;
                    from = (λ j u. spot_key j key (number s) i.site (not_less_in key (dues s) h.0 j u) (not_tied key s h.0 e j u), i.from);
                    numbered = (l, i.numbered);
                  }
            ]
      ] refl

  -- rows in order, and nothing due in the world before any of them
  pub record InOrder (r : Run engine) : Type 0 where
    pub order : IsInOrder (row_cmp engine) r.rows
    pub ahead : Each (λ x. WorldFrom basics (spot_of basics x) r.sites) r.rows
    pub numbered : AreNumbered basics 0 r.sites

  -- rows of one spot are in order
  same_order : (p : Spot) (rs : List Row) → Each (IsRowOf engine p.key p.site) rs → IsInOrder (row_cmp engine) rs
  same_order p [] h = tt
  same_order p (r ∷ []) h = (tt, tt)
  same_order p (r ∷ (x ∷ xs)) h =
      let k : (row_key r) ≡ (row_key x) = h.0.key_is ∙ sym h.1.0.key_is in
      let n : (row_site r) ≡ (row_site x) = h.0.site_is ∙ sym h.1.0.site_is in
      (spot_site (row_key x) (row_key r) (row_site x) (row_site r) (subst (λ (j : Key). is_lt (key_cmp (row_key x) j) ≡ false) (sym k) (not_self (row_key x))) (omega arith), same_order p (x ∷ xs) h.1)

  order_append : (xs ys : List Row) → IsInOrder (row_cmp engine) xs → IsInOrder (row_cmp engine) ys → Each (λ x. Each (λ y. is_lt (row_cmp engine y x) ≡ false) ys) xs → IsInOrder (row_cmp engine) (xs ++ ys)
  order_append [] ys h k l = k
  order_append (x ∷ []) [] h k l = h
  order_append (x ∷ []) (y ∷ ys) h k l = (l.0.0, k)
  order_append (x ∷ (z ∷ zs)) ys h k l = (h.0, order_append (z ∷ zs) ys h.1 k l.1)

  -- what comes from a spot comes from an earlier one
  site_earlier : (p q : Spot) (s : Site) → NotBefore p q → SiteFrom basics p s → SiteFrom basics q s
  site_earlier p q s h f j i = not_before_from (spot j (number s)) p q (f j i) h

  world_earlier : (p q : Spot) (w : List Site) → NotBefore p q → WorldFrom basics p w → WorldFrom basics q w
  world_earlier p q w h f = each_weaker (SiteFrom basics p) (SiteFrom basics q) (λ s x. site_earlier p q s h x) w f

  -- a row of a spot
  row_at : (p : Spot) (r : Row) → IsRowOf engine p.key p.site r → spot_of basics r ≡ p
  row_at p r h = ap (λ (k : Key). spot k (row_site r)) h.key_is ∙ ap (spot p.key) h.site_is

  pub next_order : (key : Key) (r : Run engine) → Each Fine r.sites → Each (λ o. key.at < (transfer_key o).at) (handled_among engine key r.sites).sent → world_due engine r.sites ≡ Some key → InOrder r → InOrder (run_on engine r.rows (handled_among engine key r.sites))
  next_order key r f later d i =
      let w : List Site = r.sites in
      let h : Each (λ s. NotLess key (least_due engine s)) w = all_not_less basics key w (subst (NotLess key) (sym d) (not_self key)) in
      let t : Told key 0 w (handled_among engine key w) = told key 0 w f i.numbered h (world_in basics key w d) in
      let p : Spot = spot key t.site in
      let x : List Site = delivered engine (handled_among engine key w).sent (handled_among engine key w).sites in
      let new : List Row = (handled_among engine key w).rows in
      let from : WorldFrom basics p x = delivered_from basics p (handled_among engine key w).sent (handled_among engine key w).sites later t.from in
      let past : Each (λ y. NotBefore p (spot_of basics y)) r.rows = each_weaker (λ (y : Row). WorldFrom basics (spot_of basics y) w) (λ y. NotBefore p (spot_of basics y)) (λ y k. t.due (spot_of basics y) k) r.rows i.ahead in
      record {
        order =
            order_append r.rows new i.order (same_order p new t.rows)
            (each_weaker (λ (y : Row). NotBefore p (spot_of basics y)) (λ y. Each (λ z. is_lt (row_cmp engine z y) ≡ false) new)
            (λ y k. each_weaker (IsRowOf engine key t.site) (λ z. is_lt (row_cmp engine z y) ≡ false) (λ z e. subst (λ (q : Spot). NotBefore q (spot_of basics y)) (sym (row_at p z e)) k) new t.rows) r.rows past);
        ahead =
            each_append (λ y. WorldFrom basics (spot_of basics y) x) r.rows new
            (each_weaker (λ (y : Row). NotBefore p (spot_of basics y)) (λ y. WorldFrom basics (spot_of basics y) x) (λ y k. world_earlier p (spot_of basics y) x k from) r.rows past)
            (each_weaker (IsRowOf engine key t.site) (λ z. WorldFrom basics (spot_of basics z) x) (λ z e. subst (λ (q : Spot). WorldFrom basics q x) (sym (row_at p z e)) from) new t.rows);
        numbered = numbered_delivered basics (handled_among engine key w).sent 0 (handled_among engine key w).sites t.numbered;
      }
