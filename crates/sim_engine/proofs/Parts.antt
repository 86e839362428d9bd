-- Handlings in partitions, beside handlings in others and beside deliveries.
use Rattle.std.specs.Prelude.{Bool, List, None, Option, Some, [], cond, false, if◌then◌else◌, map, nat_lt, true, ℕ, ◌&&◌, ◌++◌, ◌<◌, ◌==◌, ◌∷◌, ◌≡◌, ◌≤◌}
use Rattle.std.proofs.Common.{ap, arith, refl, subst, sym, ◌∙◌}
use Rattle.std.proofs.lemmas.Bool.{and_left, eqb-false, eqb-true, ltb-false, ltb-true}
use Rattle.std.specs.Ordering.{is_lt}
use Rattle.sim_clock.specs.declared.key.Key.{Key}
use Rattle.sim_clock.specs.Order.{due_before, key_cmp, lesser, same_key}
use Rattle.sim_clock.proofs.Least.{key_tied}
use Rattle.sim_clock.proofs.Orderings.{key_less, key_not_less}
use Rattle.sim_engine.specs.World.{least_due, world_due, Stepped, delivered, delivered_one, handled_among, handled_here, handled_there, is_due, has_key}
use Rattle.sim_engine.specs.Engine.{Engine}
use Rattle.sim_engine.specs.Laws.{Conditions, SiteLaws}
use Rattle.sim_engine.proofs.Branches.{either, by_cases}
use Rattle.sim_engine.proofs.Delivery.{due_before_accepted, sites_swap}
use Rattle.sim_engine.specs.Parts.{handled_in, has_due, is_of, part_due, part_of}
use Rattle.sim_engine.specs.Members.{Each}

pub each_weaker : {A : Type 0} (P Q : A → Type 0) → ((x : A) → P x → Q x) → (xs : List A) → Each P xs → Each Q xs
each_weaker P Q f [] h = tt
each_weaker P Q f (x ∷ xs) h = (f x h.0, each_weaker P Q f xs h.1)

pub each_append : {A : Type 0} (P : A → Type 0) (xs ys : List A) → Each P xs → Each P ys → Each P (xs ++ ys)
each_append P [] ys h k = k
each_append P (x ∷ xs) ys h k = (h.0, each_append P xs ys h.1 k)

not_both : (e x y : ℕ) → y ≤ x → nat_lt x e ≡ true → nat_lt y e ≡ false → ⊥
not_both e x y l h k = absurd (grind (arith, ltb-true x e h, ltb-false y e k))

module _ {Site Row Transfer : Type 0} {engine : Engine Site Row Transfer} {conditions : Conditions Site Transfer} (basics : SiteLaws engine conditions) where
  open engine use {number, handled, accepted, transfer_key, to}
  open conditions use {Sorted}
  open basics use {number_handled, number_accepted, sorted_accepted, handled_apart, due_accepted}

  -- delivery, site by site
  pub one_number : (o : Transfer) (s : Site) → number (delivered_one engine o s) ≡ number s
  one_number o s = either (λ (x : Site). number x ≡ number s) ((to o) == number s) (accepted o s) s (number_accepted o s) refl

  pub one_sorted : (o : Transfer) (s : Site) → Sorted s → Sorted (delivered_one engine o s)
  one_sorted o s h = either Sorted ((to o) == number s) (accepted o s) s (sorted_accepted o s h) h

  pub map_sorted : (o : Transfer) (sites : List Site) → Each Sorted sites → Each Sorted (map (delivered_one engine o) sites)
  map_sorted o [] h = tt
  map_sorted o (s ∷ ss) h = (one_sorted o s h.0, map_sorted o ss h.1)

  module _ (owner : ℕ → ℕ) where
    -- whether a site is of a partition depends on its number alone
    pub handled_of : (q : ℕ) (key : Key) (s : Site) → is_of engine owner q (handled key s).site ≡ is_of engine owner q s
    handled_of q key s = ap (λ n. owner n == q) (number_handled key s)

    pub one_of : (q : ℕ) (o : Transfer) (s : Site) → is_of engine owner q (delivered_one engine o s) ≡ is_of engine owner q s
    one_of q o s = ap (λ n. owner n == q) (one_number o s)

    pub accepted_of : (q : ℕ) (o : Transfer) (s : Site) → is_of engine owner q (accepted o s) ≡ is_of engine owner q s
    accepted_of q o s = ap (λ n. owner n == q) (number_accepted o s)

    -- one partition's site is not another's
    pub other_of : (p q : ℕ) (s : Site) → (p == q) ≡ false → is_of engine owner p s ≡ true → is_of engine owner q s ≡ false
    other_of p q s n h =
        by_cases (is_of engine owner q s) (λ e. absurd (grind (arith, eqb-true _ _ h, eqb-true _ _ e, eqb-false p q n))) (λ e. e)

    pub and_first : (a b : Bool) → (a && b) ≡ true → a ≡ true
    and_first true b h = refl
    and_first false b h = cc

    and_second : (a b : Bool) → (a && b) ≡ true → b ≡ true
    and_second true b h = h
    and_second false b h = cc

    pub has_of : (p : ℕ) (key : Key) (s : Site) → has_due engine owner p key s ≡ true → is_of engine owner p s ≡ true
    has_of p key s h = and_first (is_of engine owner p s) (is_due key (least_due engine s)) h

    pub has_is : (p : ℕ) (key : Key) (s : Site) → has_due engine owner p key s ≡ true → is_due key (least_due engine s) ≡ true
    has_is p key s h = and_second (is_of engine owner p s) (is_due key (least_due engine s)) h

    pub not_of : (p : ℕ) (key : Key) (s : Site) → is_of engine owner p s ≡ false → has_due engine owner p key s ≡ false
    not_of p key s h = and_left (is_of engine owner p s) (is_due key (least_due engine s)) h

    pub here : (p : ℕ) (key : Key) (s : Site) (ss : List Site) → has_due engine owner p key s ≡ true → handled_in engine owner p key (s ∷ ss) ≡ handled_here engine (handled key s) ss
    here p key s ss h = ap (λ b. if b then handled_here engine (handled key s) ss else handled_there engine s (handled_in engine owner p key ss)) h

    pub there : (p : ℕ) (key : Key) (s : Site) (ss : List Site) → has_due engine owner p key s ≡ false → handled_in engine owner p key (s ∷ ss) ≡ handled_there engine s (handled_in engine owner p key ss)
    there p key s ss h = ap (λ b. if b then handled_here engine (handled key s) ss else handled_there engine s (handled_in engine owner p key ss)) h

    -- 1. beside a handling in another partition
    -- a handling after one elsewhere: the same rows and transfers; and the sites in either order
    pub record Beside (p q : ℕ) (k j : Key) (w : List Site) : Type 0 where
      pub rows : (handled_in engine owner q j (handled_in engine owner p k w).sites).rows ≡ (handled_in engine owner q j w).rows
      pub sent : (handled_in engine owner q j (handled_in engine owner p k w).sites).sent ≡ (handled_in engine owner q j w).sent
      pub sites : (handled_in engine owner q j (handled_in engine owner p k w).sites).sites ≡ (handled_in engine owner p k (handled_in engine owner q j w).sites).sites

    first_here : (p q : ℕ) (k j : Key) (s : Site) (ss : List Site) → (p == q) ≡ false → has_due engine owner p k s ≡ true → Beside p q k j (s ∷ ss)
    first_here p q k j s ss n h =
        let off : is_of engine owner q s ≡ false = other_of p q s n (has_of p k s h) in
        let g : has_due engine owner q j s ≡ false = not_of q j s off in
        let c : has_due engine owner q j (handled k s).site ≡ false = not_of q j (handled k s).site (handled_of q k s ∙ off) in
        record { rows = rw (h, c, g) refl; sent = rw (h, c, g) refl; sites = rw (h, c, g, h) refl }

    second_here : (p q : ℕ) (k j : Key) (s : Site) (ss : List Site) → (q == p) ≡ false → has_due engine owner p k s ≡ false → has_due engine owner q j s ≡ true → Beside p q k j (s ∷ ss)
    second_here p q k j s ss n g h =
        let c : has_due engine owner p k (handled j s).site ≡ false = not_of p k (handled j s).site (handled_of p j s ∙ other_of q p s n (has_of q j s h)) in
        record { rows = rw (g, h) refl; sent = rw (g, h) refl; sites = rw (g, h, c) refl }

    both_there : (p q : ℕ) (k j : Key) (s : Site) (ss : List Site) → has_due engine owner p k s ≡ false → has_due engine owner q j s ≡ false → Beside p q k j ss → Beside p q k j (s ∷ ss)
    both_there p q k j s ss g h i = record { rows = rw (g, h) i.rows; sent = rw (g, h) i.sent; sites = rw (g, h, g) (ap (λ z. s ∷ z) i.sites) }

    pub beside : (p q : ℕ) (k j : Key) (w : List Site) → (p == q) ≡ false → (q == p) ≡ false → Beside p q k j w
    beside p q k j [] n m = record { rows = refl; sent = refl; sites = refl }
    beside p q k j (s ∷ ss) n m =
        by_cases (has_due engine owner p k s) (λ e. first_here p q k j s ss n e)
        (λ e. by_cases (has_due engine owner q j s) (λ f. second_here p q k j s ss m e f) (λ f. both_there p q k j s ss e f (beside p q k j ss n m)))

    -- 2. beside a delivery of what comes later
    -- a handling with one more transfer delivered after it
    abbrev with_delivered : Transfer → Stepped engine → Stepped engine
    with_delivered o t = record t { sites = map (delivered_one engine o) t.sites }

    -- whether a transfer to a partition comes after a key
    abbrev pub ComesAfter : ℕ → ℕ → Transfer → Type 0
    ComesAfter q at o = (owner (to o) == q) ≡ true → at < (transfer_key o).at

    not_same : (k : Key) (o : Transfer) → k.at < (transfer_key o).at → has_key engine k o ≡ false
    not_same k o l =
        by_cases (has_key engine k o) (λ e. let u : k.at ≡ (transfer_key o).at = ap (λ (x : Key). x.at) (key_tied k (transfer_key o) e) in absurd (omega arith)) (λ e. e)

    -- a key that is due is due with a later one beside it, and one that is not is not
    module _ (k i : Key) (n : same_key k i ≡ false) where
      at_other : (j : Key) (b : Bool) → is_lt (key_cmp j i) ≡ b → (same_key k j ≡ true → b ≡ true) → is_due k (if b then Some j else Some i) ≡ same_key k j
      at_other j true e f = refl
      at_other j false e f =
          elim (same_key k j) as (λ c. same_key k j ≡ c → same_key k i ≡ c) [
            | true ↦ λ g. absurd (let x : false ≡ true = f g in cc)
            | false ↦ λ g. n
          ] refl

    lt_at : (a b : Key) → a.at < b.at → is_lt (key_cmp a b) ≡ true
    lt_at a b l = grind (arith)

    due_beside : (k i : Key) (m : Option Key) → k.at < i.at → same_key k i ≡ false → is_due k (lesser (Some i) m) ≡ is_due k m
    due_beside k i None l n = n
    due_beside k i (Some j) l n =
        at_other k i n j (is_lt (key_cmp j i)) refl
        (λ e. let t : k ≡ j = key_tied k j e in subst (λ (x : Key). is_lt (key_cmp x i) ≡ true) t (lt_at k i l))

    is_due_accepted : (k : Key) (o : Transfer) (s : Site) → k.at < (transfer_key o).at → is_due k (least_due engine (accepted o s)) ≡ is_due k (least_due engine s)
    is_due_accepted k o s l = ap (is_due k) (due_accepted o s) ∙ due_beside k (transfer_key o) (least_due engine s) l (not_same k o l)

    -- at a site to which it goes, or not
    here_delivered : (q : ℕ) (k : Key) (o : Transfer) (s : Site) (ss : List Site) → ((to o) == number s) ≡ true → Sorted s → k.at < (transfer_key o).at → has_due engine owner q k s ≡ true
        → handled_in engine owner q k (map (delivered_one engine o) (s ∷ ss)) ≡ with_delivered o (handled_in engine owner q k (s ∷ ss))
    here_delivered q k o s ss e w l h =
        let n : ((to o) == number (handled k s).site) ≡ true = ap (λ m. (to o) == m) (number_handled k s) ∙ e in
        let u : has_due engine owner q k (accepted o s) ≡ true = ap (λ c. c && is_due k (least_due engine (accepted o s))) (accepted_of q o s) ∙ ap (λ c. is_of engine owner q s && c) (is_due_accepted k o s l) ∙ h in
        rw (e, u, h, handled_apart k o s (not_same k o l) w, n) refl

    here_off : (q : ℕ) (k : Key) (o : Transfer) (s : Site) (ss : List Site) → ((to o) == number s) ≡ false → has_due engine owner q k s ≡ true
        → handled_in engine owner q k (map (delivered_one engine o) (s ∷ ss)) ≡ with_delivered o (handled_in engine owner q k (s ∷ ss))
    here_off q k o s ss e h = let n : ((to o) == number (handled k s).site) ≡ false = ap (λ m. (to o) == m) (number_handled k s) ∙ e in rw (e, h, n) refl

    -- whether it goes to a site of the partition
    pub goes : (q : ℕ) (o : Transfer) (s : Site) → ((to o) == number s) ≡ true → is_of engine owner q s ≡ true → (owner (to o) == q) ≡ true
    goes q o s e h = ap (λ n. owner n == q) (eqb-true (to o) (number s) e) ∙ h

    has_delivered : (q : ℕ) (k : Key) (o : Transfer) (s : Site) (b c : Bool) → ((to o) == number s) ≡ b → is_of engine owner q s ≡ c → ComesAfter q k.at o → has_due engine owner q k (delivered_one engine o s) ≡ has_due engine owner q k s
    has_delivered q k o s false c e h l = ap (λ x. has_due engine owner q k (if x then accepted o s else s)) e
    has_delivered q k o s true false e h l = not_of q k (delivered_one engine o s) (one_of q o s ∙ h) ∙ sym (not_of q k s h)
    has_delivered q k o s true true e h l =
        ap (λ x. has_due engine owner q k (if x then accepted o s else s)) e ∙ ap (λ c. c && is_due k (least_due engine (accepted o s))) (accepted_of q o s) ∙ ap (λ x. is_of engine owner q s && x) (is_due_accepted k o s (l (goes q o s e h)))

    -- a partition's handling, and the delivery of one transfer
    pub map_beside : (q : ℕ) (k : Key) (o : Transfer) (w : List Site) → Each Sorted w → ComesAfter q k.at o → handled_in engine owner q k (map (delivered_one engine o) w) ≡ with_delivered o (handled_in engine owner q k w)
    map_beside q k o [] h l = refl
    map_beside q k o (s ∷ ss) h l =
        by_cases (has_due engine owner q k s)
        (λ e. by_cases ((to o) == number s) (λ f. here_delivered q k o s ss f h.0 (l (goes q o s f (has_of q k s e))) e) (λ f. here_off q k o s ss f e))
        (λ e. rw (has_delivered q k o s _ _ refl refl l ∙ e, e) (ap (handled_there engine (delivered_one engine o s)) (map_beside q k o ss h.1 l)))

    -- a partition's handling after the delivery of some transfers
    abbrev pub with_landed : List Transfer → Stepped engine → Stepped engine
    with_landed os t = record t { sites = delivered engine os t.sites }

    pub landed_beside : (q : ℕ) (k : Key) (os : List Transfer) (w : List Site) → Each Sorted w → Each (ComesAfter q k.at) os → handled_in engine owner q k (delivered engine os w) ≡ with_landed os (handled_in engine owner q k w)
    landed_beside q k [] w h l = refl
    landed_beside q k (o ∷ os) w h l =
        landed_beside q k os (map (delivered_one engine o) w) (map_sorted o w h) l.1
        ∙ ap (with_landed os) (map_beside q k o w h l.0)

    -- 3. what a partition has due
    pub part_map : (q : ℕ) (o : Transfer) (w : List Site) → part_of engine owner q (map (delivered_one engine o) w) ≡ map (delivered_one engine o) (part_of engine owner q w)
    part_map q o [] = refl
    part_map q o (s ∷ ss) = rw (one_of q o s, part_map q o ss) (elim (is_of engine owner q s) as (λ b. cond b (delivered_one engine o s ∷ map (delivered_one engine o) (part_of engine owner q ss)) (map (delivered_one engine o) (part_of engine owner q ss)) ≡ map (delivered_one engine o) (cond b (s ∷ part_of engine owner q ss) (part_of engine owner q ss))) [ true ↦ refl | false ↦ refl ])

    pub part_delivered : (q : ℕ) (os : List Transfer) (w : List Site) → part_of engine owner q (delivered engine os w) ≡ delivered engine os (part_of engine owner q w)
    part_delivered q [] w = refl
    part_delivered q (o ∷ os) w = part_delivered q os (map (delivered_one engine o) w) ∙ ap (delivered engine os) (part_map q o w)

    -- a partition's handling is one among its own sites
    pub record Own (q : ℕ) (k : Key) (w : List Site) : Type 0 where
      pub sites : part_of engine owner q (handled_in engine owner q k w).sites ≡ (handled_among engine k (part_of engine owner q w)).sites
      pub rows : (handled_in engine owner q k w).rows ≡ (handled_among engine k (part_of engine owner q w)).rows
      pub sent : (handled_in engine owner q k w).sent ≡ (handled_among engine k (part_of engine owner q w)).sent

    pub own : (q : ℕ) (k : Key) (w : List Site) → Own q k w
    own q k [] = record { sites = refl; rows = refl; sent = refl }
    own q k (s ∷ ss) =
        let i : Own q k ss = own q k ss in
        by_cases (is_of engine owner q s)
        (λ e.
        by_cases (is_due k (least_due engine s))
        (λ f.
        let h : has_due engine owner q k s ≡ true = ap (λ c. c && is_due k (least_due engine s)) e ∙ f in
        record { sites = rw (h, handled_of q k s, e, f) refl; rows = rw (h, e, f) refl; sent = rw (h, e, f) refl })
        (λ f.
        let h : has_due engine owner q k s ≡ false = ap (λ c. c && is_due k (least_due engine s)) e ∙ f in
        record { sites = rw (h, e, f) (ap (λ z. s ∷ z) i.sites); rows = rw (h, e, f) i.rows; sent = rw (h, e, f) i.sent }))
        (λ e. let n : has_due engine owner q k s ≡ false = not_of q k s e in record { sites = rw (n, e) i.sites; rows = rw (n, e) i.rows; sent = rw (n, e) i.sent })

    -- another partition stays as it was
    pub others : (q r : ℕ) (k : Key) (w : List Site) → (q == r) ≡ false → part_of engine owner r (handled_in engine owner q k w).sites ≡ part_of engine owner r w
    others q r k [] n = refl
    others q r k (s ∷ ss) n =
        by_cases (has_due engine owner q k s) (λ e. let off : is_of engine owner r s ≡ false = other_of q r s n (has_of q k s e) in rw (e, handled_of r k s, off) refl)
        (λ e. rw e (ap (λ z. cond (is_of engine owner r s) (s ∷ z) z) (others q r k ss n)))

  -- dues before a moment
  before_by : (e : ℕ) (a b : Key) (c x y : Bool) → is_lt (key_cmp b a) ≡ c → nat_lt a.at e ≡ x → nat_lt b.at e ≡ y
      → due_before e (if c then Some b else Some a) ≡ lesser (if x then Some a else None) (if y then Some b else None)
  before_by e a b true true true h i j = rw (j, h) refl
  before_by e a b false true true h i j = rw (i, h) refl
  before_by e a b true true false h i j = absurd (not_both e a.at b.at (key_less b a h) i j)
  before_by e a b false true false h i j = rw i refl
  before_by e a b true false true h i j = rw j refl
  before_by e a b false false true h i j = absurd (not_both e b.at a.at (key_not_less b a h) j i)
  before_by e a b true false false h i j = rw j refl
  before_by e a b false false false h i j = rw i refl

  -- what is due before a moment of two is the lesser of what is due before it of each
  pub before_lesser : (e : ℕ) (a b : Option Key) → due_before e (lesser a b) ≡ lesser (due_before e a) (due_before e b)
  before_lesser e None b = refl
  before_lesser e (Some a) None = elim (nat_lt a.at e) as (λ x. (if x then Some a else None) ≡ lesser (if x then Some a else None) None) [ true ↦ refl | false ↦ refl ]
  before_lesser e (Some a) (Some b) = before_by e a b _ _ _ refl refl refl

  -- a transfer to some sites that comes at a moment or later
  abbrev pub ComesFrom : ℕ → Transfer → Site → Type 0
  ComesFrom e o s = ((to o) == number s) ≡ true → e ≤ (transfer_key o).at

  before_one : (e : ℕ) (o : Transfer) (s : Site) → ComesFrom e o s → due_before e (least_due engine (delivered_one engine o s)) ≡ due_before e (least_due engine s)
  before_one e o s h =
      by_cases ((to o) == number s) (λ f. rw f (due_before_accepted basics e o s (h f))) (λ f. rw f refl)

  before_map : (e : ℕ) (o : Transfer) (w : List Site) → Each (ComesFrom e o) w → due_before e (world_due engine (map (delivered_one engine o) w)) ≡ due_before e (world_due engine w)
  before_map e o [] h = refl
  before_map e o (s ∷ ss) h =
      before_lesser e (least_due engine (delivered_one engine o s)) (world_due engine (map (delivered_one engine o) ss))
      ∙ ap (λ z. lesser z (due_before e (world_due engine (map (delivered_one engine o) ss)))) (before_one e o s h.0)
      ∙ ap (lesser (due_before e (least_due engine s))) (before_map e o ss h.1)
      ∙ sym (before_lesser e (least_due engine s) (world_due engine ss))

  module _ (owner : ℕ → ℕ) where
    -- a transfer that comes to a partition, if it does, at a moment or later
    abbrev pub ComesBy : ℕ → ℕ → Transfer → Type 0
    ComesBy q e o = (owner (to o) == q) ≡ true → e ≤ (transfer_key o).at

    comes_to : (q e : ℕ) (o : Transfer) (w : List Site) → ComesBy q e o → Each (ComesFrom e o) (part_of engine owner q w)
    comes_to q e o [] h = tt
    comes_to q e o (s ∷ ss) h =
        by_cases (is_of engine owner q s) (λ f. rw f (λ g. h (goes owner q o s g f), comes_to q e o ss h)) (λ f. rw f (comes_to q e o ss h))

    -- what is due of a partition before a moment is the same after the delivery of what comes later
    pub before_delivered : (q e : ℕ) (os : List Transfer) (w : List Site) → Each (ComesBy q e) os → due_before e (part_due engine owner q (delivered engine os w)) ≡ due_before e (part_due engine owner q w)
    before_delivered q e [] w h = refl
    before_delivered q e (o ∷ os) w h =
        before_delivered q e os (map (delivered_one engine o) w) h.1
        ∙ ap (λ z. due_before e (world_due engine z)) (part_map owner q o w)
        ∙ before_map e o (part_of engine owner q w) (comes_to q e o w h.0)

  -- 4. deliveries in either order
  -- whether two transfers have different keys
  abbrev pub Differs : Transfer → Transfer → Type 0
  Differs o p = same_key (transfer_key o) (transfer_key p) ≡ false

  pub map_delivered : (o : Transfer) (os : List Transfer) (w : List Site) → Each (Differs o) os → map (delivered_one engine o) (delivered engine os w) ≡ delivered engine os (map (delivered_one engine o) w)
  map_delivered o [] w h = refl
  map_delivered o (p ∷ os) w h = map_delivered o os (map (delivered_one engine p) w) h.1 ∙ ap (delivered engine os) (sites_swap basics o p w h.0)

  pub delivered_either : (os ps : List Transfer) (w : List Site) → Each (λ o. Each (Differs o) ps) os → delivered engine os (delivered engine ps w) ≡ delivered engine ps (delivered engine os w)
  delivered_either [] ps w h = refl
  delivered_either (o ∷ os) ps w h = ap (delivered engine os) (map_delivered o ps w h.0) ∙ delivered_either os ps (map (delivered_one engine o) w) h.1

  pub delivered_append : (os ps : List Transfer) (w : List Site) → delivered engine (os ++ ps) w ≡ delivered engine ps (delivered engine os w)
  delivered_append [] ps w = refl
  delivered_append (o ∷ os) ps w = delivered_append os ps (map (delivered_one engine o) w)
