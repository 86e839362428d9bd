-- A tree in which the mark of a place is new, while the nodes above that place are brought in order.
use Rattle.std.proofs.Common.{◌≡◌, ◌≢◌, ◌⊎◌, ℕ, zero, suc, ◌+◌, ◌*◌, ◌-◌, ◌/◌, ◌<◌, ◌≤◌, List, Option, length, set, inl, inr, arith, refl, ap, sym, subst, ◌∙◌}
use Rattle.std.proofs.lemmas.Bool.{cases_eq, cases_lt}
use Rattle.std.proofs.lemmas.List.{get_or-set_other, get_or-set_same, length-set}
use Rattle.sim_clock.specs.declared.key.Key.{Key}
use Rattle.sim_index.specs.declared.mark.Mark.{Mark}
use Rattle.sim_index.specs.declared.marks.Node.{Node}
use Rattle.sim_index.specs.Marks.{AreLeaves, IsBoth, IsFirstOf, IsPower, IsRanked, IsTree, IsTreeBut, no_mark, no_node, node, node_in, rank_of, told_by}

-- the node so many rows above another
abbrev pub half : ℕ → ℕ → ℕ
half n zero = n
half n (suc k) = half n k / 2

half_more : (n a b : ℕ) → half n (b + a) ≡ half (half n a) b
half_more n a zero = ap (half n) (let e : 0 + a ≡ a = omega arith in e)
half_more n a (suc b) = ap (half n) (let e : suc b + a ≡ suc (b + a) = omega arith in e) ∙ ap (λ (m : ℕ). m / 2) (half_more n a b)

half_below : (n k : ℕ) → half n (suc k) ≤ n / 2
half_below n zero = omega arith
half_below n (suc k) = omega (arith, half_below n k)

half_within : (n k : ℕ) → half n k ≤ n
half_within n zero = omega arith
half_within n (suc k) = omega (arith, half_within n k)

-- a node that stands above another
abbrev Above : ℕ → ℕ → Type 0
Above n m = (k : ℕ) × (n ≡ half m (suc k))

above_by : (n a b : ℕ) → a < b → Above (half n b) (half n a)
above_by n a b l = (b - a - 1, ap (half n) (let e : b ≡ suc (b - a - 1) + a = omega arith in e) ∙ half_more n a (suc (b - a - 1)))

above_low : (n m : ℕ) → Above n m → n ≤ m / 2
above_low n m (k, e) = omega (arith, e, half_below m k)

-- of two nodes on the way up from a third
on_one_way : (n a b : ℕ) → ((a ≡ b) ⊎ (Above (half n b) (half n a))) ⊎ Above (half n a) (half n b)
on_one_way n a b =
    elim (cases_lt a b) [
      | inl l ↦ inl (inr (above_by n a b l))
      | inr l ↦ elim (cases_lt b a) [ inl m ↦ inr (above_by n b a m) | inr m ↦ inl (inl (omega arith)) ]
    ]

-- two of them are one, if the same node is right above both
one_of_pair : (n a b i j : ℕ) → i ≡ half n a → j ≡ half n b → i / 2 ≡ j / 2 → 1 ≤ j / 2 → i ≡ j
one_of_pair n a b i j e f pair some =
    elim (on_one_way n a b) [
      | inl (inl g) ↦ e ∙ ap (half n) g ∙ sym f
      | inl (inr g) ↦ absurd (omega (arith, above_low _ _ g, e, f, pair, some))
      | inr g ↦ absurd (omega (arith, above_low _ _ g, e, f, pair, some))
    ]

-- a tree, in which one place is looked at
module _ (marks : List Mark) (nodes : List Node) (tree : IsTree marks nodes) where
  -- a node stands on the way up from the place that it tells of
  place_below : (fuel n : ℕ) → length nodes ≤ n + fuel → 1 ≤ n → n < length nodes → (k : ℕ) × (n ≡ half (length marks + (node_in nodes n).place) k)
  place_below zero n enough some within = absurd (omega arith)
  place_below (suc fuel) n enough some within =
      elim (cases_lt n (length marks)) [
        | inl l ↦
            let both : IsBoth marks (node_in nodes (2 * n)) (node_in nodes (2 * n + 1)) (node_in nodes n) = tree.pairs n some (omega (arith, tree.leaves.long, l)) in
            elim both.place [
              | inl p ↦
                  let below = place_below fuel (2 * n) (omega (arith, enough, some)) (omega (arith, some)) (omega (arith, tree.leaves.long, l)) in
                  (suc below.0, let up : n ≡ 2 * n / 2 = omega arith in up ∙ ap (λ (m : ℕ). m / 2) below.1 ∙ ap (λ (p : ℕ). half (length marks + p) below.0 / 2) (sym p.1))
              | inr p ↦
                  let below = place_below fuel (2 * n + 1) (omega (arith, enough, some)) (omega (arith, some)) (omega (arith, tree.leaves.long, l)) in
                  (suc below.0, let up : n ≡ (2 * n + 1) / 2 = omega arith in up ∙ ap (λ (m : ℕ). m / 2) below.1 ∙ ap (λ (p : ℕ). half (length marks + p) below.0 / 2) (sym p.1))
            ]
        | inr l ↦
            let place : (node_in nodes n).place ≡ n - length marks =
            ap (λ (k : ℕ). (node_in nodes k).place) (let e : n ≡ length marks + (n - length marks) = omega arith in e)
            ∙ ap (λ (m : Node). m.place) (tree.leaves.single (n - length marks) (omega (arith, within, l, tree.leaves.long))) in
            (0, omega (arith, place, l))
      ]

  told_of : (place n : ℕ) → 1 ≤ n → n < length nodes → (node_in nodes n).place ≡ place → (k : ℕ) × (n ≡ half (length marks + place) k)
  told_of place n some within e = subst (λ (p : ℕ). (k : ℕ) × (n ≡ half (length marks + p) k)) e (place_below (length nodes) n (omega arith) some within)

  -- where a node tells of a place, each node between the two does
  told_between : (place n j k : ℕ) → n ≡ half (length marks + place) j → 1 ≤ half n k → n < length nodes → (node_in nodes (half n k)).place ≡ place → (node_in nodes n).place ≡ place
  told_between place n j zero way some within e = e
  told_between place n j (suc k) way some within e =
      let d : ℕ = half n k in
      let small : d ≤ n = half_within n k in
      let here : ℕ = half n (suc k) in
      let way_d : d ≡ half (length marks + place) (k + j) = ap (λ (m : ℕ). half m k) way ∙ sym (half_more (length marks + place) j k) in
      let both : IsBoth marks (node_in nodes (2 * here)) (node_in nodes (2 * here + 1)) (node_in nodes here) = tree.pairs here some (omega (arith, small, within)) in
      let by : (child : ℕ) → (child ≡ 2 * here) ⊎ (child ≡ 2 * here + 1) → (node_in nodes child).place ≡ place → (node_in nodes n).place ≡ place = λ child is told.
      let bounds : (2 * here ≤ child) × (child ≤ 2 * here + 1) = elim is [ inl h ↦ (omega (arith, h), omega (arith, h)) | inr h ↦ (omega (arith, h), omega (arith, h)) ] in
      let way_c = told_of place child (omega (arith, some, bounds.0)) (omega (arith, small, within, bounds.1, tree.leaves.long)) told in
      let same : child ≡ d = one_of_pair (length marks + place) way_c.0 (k + j) child d way_c.1 way_d (omega (arith, bounds.0, bounds.1)) some in
      told_between place n j k way (omega (arith, some)) within (ap (λ (m : ℕ). (node_in nodes m).place) (sym same) ∙ told) in
      elim both.place [
        | inl p ↦ by (2 * here) (inl refl) (sym p.1 ∙ e)
        | inr p ↦ by (2 * here + 1) (inr refl) (sym p.1 ∙ e)
      ]

-- two nodes that tell of other places than one whose mark is new
due_kept : (marks : List Mark) (place : ℕ) (mark : Mark) (n : Node) → n.place ≢ place → (told_by (set marks place mark) n).due ≡ (told_by marks n).due
due_kept marks place mark n other = ap (λ (m : Mark). m.due) (get_or-set_other marks place n.place mark no_mark other)

both_kept : (marks : List Mark) (place : ℕ) (mark : Mark) (a b n : Node) → a.place ≢ place → b.place ≢ place → IsBoth marks a b n → IsBoth (set marks place mark) a b n
both_kept marks place mark a b n left right h =
    record {
      place =
          subst (λ (o : Option Key). IsFirstOf o (told_by (set marks place mark) b).due a.place b.place n.place) (sym (due_kept marks place mark a left))
          (subst (λ (o : Option Key). IsFirstOf (told_by marks a).due o a.place b.place n.place) (sym (due_kept marks place mark b right)) h.place);
      flags = h.flags;
      rank = h.rank ∙ ap rank_of (sym (due_kept marks place mark n (λ e. elim h.place [ inl p ↦ left (sym p.1 ∙ e) | inr p ↦ right (sym p.1 ∙ e) ])));
    }

-- nodes behind one that are in order have the ranks of what is due at their places
pub ranked : (marks : List Mark) (now : List Node) (at c : ℕ) → AreLeaves marks now → ((i : ℕ) → at < i → 2 * i + 1 < length now → IsBoth marks (node_in now (2 * i)) (node_in now (2 * i + 1)) (node_in now i)) → at < c → c < length now
    → IsRanked marks (node_in now c)
ranked marks now at c leaves done behind within =
    elim (cases_lt c (length marks)) [
      | inl l ↦ (done c behind (omega (arith, l, leaves.long))).rank
      | inr l ↦
          let leaf : c ≡ length marks + (c - length marks) = omega arith in
          let is = ap (node_in now) leaf ∙ leaves.single (c - length marks) (omega (arith, l, within, leaves.long)) in
          ap (λ (n : Node). n.rank) is ∙ sym (ap (λ (n : Node). rank_of (node marks n.place).due) is)
    ]

-- the nodes from one on up are as they were, and those behind it are in order
pub record Mending (marks : List Mark) (start now : List Node) (place at : ℕ) : Type 0 where
  pub was : IsTreeBut marks start place
  pub way : (k : ℕ) × (at ≡ half (length marks + place) (suc k))
  pub same : (i : ℕ) → i / 2 < at → node_in now i ≡ node_in was.nodes_before i
  pub done : (i : ℕ) → at < i → 2 * i + 1 < length now → IsBoth marks (node_in now (2 * i)) (node_in now (2 * i + 1)) (node_in now i)
  pub leaves : AreLeaves marks now

module _ (marks : List Mark) (start : List Node) (place : ℕ) (was : IsTreeBut marks start place) where
  abbrev before : List Node
  before = was.nodes_before

  as_many : length marks ≡ length was.marks_before
  as_many = ap length was.marks_now ∙ length-set was.marks_before place was.mark

  long_before : length before ≡ 2 * length marks
  long_before = omega (arith, was.tree.leaves.long, as_many)

  -- where two nodes below one told of other places before, it tells still what they do
  still_both : (i : ℕ) → 1 ≤ i → 2 * i + 1 < length before → (node_in before (2 * i)).place ≢ place → (node_in before (2 * i + 1)).place ≢ place → IsBoth marks (node_in before (2 * i)) (node_in before (2 * i + 1)) (node_in before i)
  still_both i some within left right =
      subst (λ (ms : List Mark). IsBoth ms (node_in before (2 * i)) (node_in before (2 * i + 1)) (node_in before i)) (sym was.marks_now)
      (both_kept was.marks_before place was.mark (node_in before (2 * i)) (node_in before (2 * i + 1)) (node_in before i) left right (was.tree.pairs i some within))

  way_of : (n : ℕ) → 1 ≤ n → n < length before → (node_in before n).place ≡ place → (k : ℕ) × (n ≡ half (length marks + place) k)
  way_of n some within e = subst (λ (m : ℕ). (k : ℕ) × (n ≡ half (m + place) k)) (sym as_many) (told_of was.marks_before before was.tree place n some within e)

  -- nodes whose pair stands between two others of the way tell of other places
  beside : (k n : ℕ) → 2 ≤ n → n < length before → half (length marks + place) (suc k) < n / 2 → n / 2 < half (length marks + place) k → (node_in before n).place ≢ place
  beside k n some within low high e =
      let way = way_of n (omega (arith, some)) within e in
      elim (on_one_way (length marks + place) way.0 k) [
        | inl (inl f) ↦ absurd (omega (arith, way.1, low, ap (λ (j : ℕ). half (length marks + place) j / 2) f))
        | inl (inr f) ↦ absurd (omega (arith, way.1, high, above_low _ _ f))
        | inr f ↦ absurd (omega (arith, way.1, low, above_low _ _ f))
      ]

  -- and so do those before a node of the way that does
  before_one : (k n : ℕ) → 2 ≤ n → n < length before → half (length marks + place) k < length before → n / 2 < half (length marks + place) k → (node_in before (half (length marks + place) k)).place ≢ place → (node_in before n).place ≢ place
  before_one k n some within fits high other e =
      let way = way_of n (omega (arith, some)) within e in
      elim (on_one_way (length marks + place) way.0 k) [
        | inl (inl f) ↦ other (ap (λ (j : ℕ). (node_in before j).place) (ap (half (length marks + place)) (sym f) ∙ sym way.1) ∙ e)
        | inl (inr f) ↦ absurd (omega (arith, way.1, high, above_low _ _ f))
        | inr f ↦
            other
            (told_between was.marks_before before was.tree place (half (length marks + place) k) k (suc f.0) (ap (λ (m : ℕ). half (m + place) k) as_many) (omega (arith, some, way.1, f.1)) fits
            (ap (λ (j : ℕ). (node_in before j).place) (sym f.1 ∙ sym way.1) ∙ e))
      ]

-- where it begins, the node of the place itself is new
pub begun : (marks : List Mark) (start : List Node) (place : ℕ) → IsTreeBut marks start place → Mending marks start start place ((length marks + place) / 2)
begun marks start place was =
    let before : List Node = was.nodes_before in
    let leaf : ℕ = length marks + place in
    let new : Node = record { rank = rank_of was.mark.due; place = place; flags = was.mark.flags } in
    let many : length marks ≡ length was.marks_before = as_many marks start place was in
    let long : length before ≡ 2 * length marks = long_before marks start place was in
    let as_long : length start ≡ length before = ap length was.nodes_now ∙ length-set before leaf new in
    let others : (i : ℕ) → i ≢ leaf → node_in start i ≡ node_in before i = λ i e. ap (λ (ns : List Node). node_in ns i) was.nodes_now ∙ get_or-set_other before leaf i new no_node e in
    let here : (i : ℕ) → i ≡ place → was.mark ≡ node marks i = λ i e. sym (get_or-set_same was.marks_before place was.mark no_mark was.within) ∙ (λ h. node (sym was.marks_now h) (sym e h)) in
    let own : node_in start leaf ≡ new = ap (λ (ns : List Node). node_in ns leaf) was.nodes_now ∙ get_or-set_same before leaf new no_node (omega (arith, long, many, was.within)) in
    record {
      was = was;
      way = (0, refl);
      same = λ i l. others i (λ e. omega (arith, e, l));
      done = λ i l h.
          let apart : (n : ℕ) → 2 ≤ n → n < length before → leaf / 2 < n / 2 → (node_in before n).place ≢ place = λ n some within low e.
          let way = way_of marks start place was n (omega (arith, some)) within e in
          absurd (omega (arith, low, way.1, half_within leaf way.0)) in
          subst (λ (n : Node). IsBoth marks (node_in start (2 * i)) (node_in start (2 * i + 1)) n) (sym (others i (λ e. omega (arith, e, h, as_long, long))))
          (subst (λ (n : Node). IsBoth marks (node_in start (2 * i)) n (node_in before i)) (sym (others (2 * i + 1) (λ e. omega (arith, e, l))))
          (subst (λ (n : Node). IsBoth marks n (node_in before (2 * i + 1)) (node_in before i)) (sym (others (2 * i) (λ e. omega (arith, e, l))))
          (still_both marks start place was i (omega (arith, l)) (omega (arith, h, as_long)) (apart (2 * i) (omega (arith, l)) (omega (arith, h, as_long)) (omega (arith, l))) (apart (2 * i + 1) (omega (arith, l)) (omega (arith, h, as_long)) (omega (arith, l))))));
      leaves =
          record {
            long = omega (arith, as_long, long);
            there = λ i l.
                elim (cases_eq i leaf) [
                  | inl e ↦ omega (arith, ap (λ (k : ℕ). (node_in start k).place) e, ap (λ (n : Node). n.place) own, was.within, many)
                  | inr n ↦ omega (arith, ap (λ (n : Node). n.place) (others i n), was.tree.leaves.there i (omega (arith, l, as_long)), many)
                ];
            single = λ i l.
                elim (cases_eq i place) [
                  | inl e ↦
                      ap (λ (k : ℕ). node_in start (length marks + k)) e
                      ∙ own
                      ∙ (λ j. record {
                        rank = ap (λ (m : Mark). rank_of m.due) (here i e) j;
                        place = sym e j;
                        flags = ap (λ (m : Mark). m.flags) (here i e) j;
                      })
                  | inr n ↦
                      others (length marks + i) (λ e. n (omega (arith, e)))
                      ∙ ap (λ (k : ℕ). node_in before (k + i)) many
                      ∙ was.tree.leaves.single i (omega (arith, l, many))
                      ∙ ap (λ (m : Mark). record { rank = rank_of m.due; place = i; flags = m.flags }) (sym (get_or-set_other was.marks_before place i was.mark no_mark n) ∙ ap (λ (ms : List Mark). node ms i) (sym was.marks_now))
                ];
          };
    }

module _ (marks : List Mark) (start now : List Node) (place at : ℕ) (m : Mending marks start now place at) where
  pub low : at < length marks
  low = omega (arith, m.way.1, half_below (length marks + place) m.way.0, m.was.within, as_many marks start place m.was)

  as_long : length now ≡ length m.was.nodes_before
  as_long = omega (arith, m.leaves.long, long_before marks start place m.was)

  -- a pair before it, whose nodes told of other places
  pair_before : (i : ℕ) → 1 ≤ i → i < at → (node_in m.was.nodes_before (2 * i)).place ≢ place → (node_in m.was.nodes_before (2 * i + 1)).place ≢ place → IsBoth marks (node_in now (2 * i)) (node_in now (2 * i + 1)) (node_in now i)
  pair_before i some l left right =
      subst (λ (n : Node). IsBoth marks (node_in now (2 * i)) (node_in now (2 * i + 1)) n) (sym (m.same i (omega (arith, l, some))))
      (subst (λ (n : Node). IsBoth marks (node_in now (2 * i)) n (node_in m.was.nodes_before i)) (sym (m.same (2 * i + 1) (omega (arith, l))))
      (subst (λ (n : Node). IsBoth marks n (node_in m.was.nodes_before (2 * i + 1)) (node_in m.was.nodes_before i)) (sym (m.same (2 * i) (omega (arith, l))))
      (still_both marks start place m.was i some (omega (arith, l, low, as_long, m.leaves.long)) left right)))

  power : 1 ≤ length marks → IsPower (length marks)
  power some = subst IsPower (sym (as_many marks start place m.was)) (m.was.tree.power (omega (arith, some, as_many marks start place m.was)))

-- one node more is written
pub mended : (marks : List Mark) (start now : List Node) (place at : ℕ) (n : Node) → Mending marks start now place at → 1 ≤ at → IsBoth marks (node_in now (2 * at)) (node_in now (2 * at + 1)) n → n.place < length marks
    → Mending marks start (set now at n) place (at / 2)
mended marks start now place at n m some both there =
    let small : at < length marks = low marks start now place at m in
    let long : length (set now at n) ≡ length now = length-set now at n in
    let others : (i : ℕ) → i ≢ at → node_in (set now at n) i ≡ node_in now i = λ i e. get_or-set_other now at i n no_node e in
    let own : node_in (set now at n) at ≡ n = get_or-set_same now at n no_node (omega (arith, small, m.leaves.long)) in
    let before : ℕ → ℕ = λ i. (node_in m.was.nodes_before i).place in
    let in_now : (i : ℕ) → at / 2 < i → 2 * i + 1 < length now → i ≢ at → IsBoth marks (node_in now (2 * i)) (node_in now (2 * i + 1)) (node_in now i) = λ i l h e.
    elim (cases_lt at i) [
      | inl u ↦ m.done i u h
      | inr u ↦
          let side : (c : ℕ) → 2 ≤ c → c < length m.was.nodes_before → c / 2 ≡ i → (node_in m.was.nodes_before c).place ≢ place = λ c two within half_is.
          beside marks start place m.was (suc m.way.0) c two within (omega (arith, half_is, l, m.way.1)) (omega (arith, half_is, u, e, m.way.1)) in
          pair_before marks start now place at m i (omega (arith, l)) (omega (arith, u, e)) (side (2 * i) (omega (arith, l)) (omega (arith, h, as_long marks start now place at m)) (omega arith))
          (side (2 * i + 1) (omega (arith, l)) (omega (arith, h, as_long marks start now place at m)) (omega arith))
    ] in
    record {
      was = m.was;
      way = (suc m.way.0, ap (λ (k : ℕ). k / 2) m.way.1);
      same = λ i l. others i (λ e. omega (arith, e, l)) ∙ m.same i (omega (arith, l));
      done = λ i l h.
          subst (λ (a : Node). IsBoth marks a (node_in (set now at n) (2 * i + 1)) (node_in (set now at n) i)) (sym (others (2 * i) (λ e. omega (arith, e, l))))
          (subst (λ (b : Node). IsBoth marks (node_in now (2 * i)) b (node_in (set now at n) i)) (sym (others (2 * i + 1) (λ e. omega (arith, e, l))))
          (elim (cases_eq i at) [
            | inl e ↦ subst (λ (k : ℕ). IsBoth marks (node_in now (2 * k)) (node_in now (2 * k + 1)) (node_in (set now at n) k)) (sym e) (subst (IsBoth marks (node_in now (2 * at)) (node_in now (2 * at + 1))) (sym own) both)
            | inr e ↦ subst (IsBoth marks (node_in now (2 * i)) (node_in now (2 * i + 1))) (sym (others i e)) (in_now i l (omega (arith, h, long)) e)
          ]));
      leaves =
          record {
            long = omega (arith, long, m.leaves.long);
            there = λ i l.
                elim (cases_eq i at) [
                  | inl e ↦ omega (arith, ap (λ (k : ℕ). (node_in (set now at n) k).place) e, ap (λ (x : Node). x.place) own, there)
                  | inr e ↦ omega (arith, ap (λ (x : Node). x.place) (others i e), m.leaves.there i (omega (arith, l, long)))
                ];
            single = λ i l. others (length marks + i) (λ e. omega (arith, e, small)) ∙ m.leaves.single i l;
          };
    }

-- it is in order where all nodes are done
pub ended : (marks : List Mark) (start now : List Node) (place at : ℕ) → Mending marks start now place at → at ≡ 0 → IsTree marks now
ended marks start now place at m none = record { power = power marks start now place at m; leaves = m.leaves; pairs = λ i some within. m.done i (omega (arith, some, none)) within }

-- and where a node stays as it was that tells of another place
pub stopped : (marks : List Mark) (start now : List Node) (place at : ℕ) (n : Node) → Mending marks start now place at → 1 ≤ at → IsBoth marks (node_in now (2 * at)) (node_in now (2 * at + 1)) n → node_in now at ≡ n → n.place ≢ place
    → IsTree marks now
stopped marks start now place at n m some both is other =
    let small : at < length marks = low marks start now place at m in
    let fits : at < length m.was.nodes_before = omega (arith, small, as_long marks start now place at m, m.leaves.long) in
    let was : (node_in m.was.nodes_before at).place ≢ place = λ e. other (ap (λ (x : Node). x.place) (sym is ∙ m.same at (omega (arith, some))) ∙ e) in
    let there : (node_in m.was.nodes_before (half (length marks + place) (suc m.way.0))).place ≢ place = λ e. was (ap (λ (k : ℕ). (node_in m.was.nodes_before k).place) m.way.1 ∙ e) in
    record {
      power = power marks start now place at m;
      leaves = m.leaves;
      pairs = λ i low_i within.
          elim (cases_lt at i) [
            | inl u ↦ m.done i u within
            | inr u ↦
                elim (cases_eq i at) [
                  | inl e ↦ subst (λ (k : ℕ). IsBoth marks (node_in now (2 * k)) (node_in now (2 * k + 1)) (node_in now k)) (sym e) (subst (IsBoth marks (node_in now (2 * at)) (node_in now (2 * at + 1))) (sym is) both)
                  | inr e ↦
                      let side : (c : ℕ) → 2 ≤ c → c < length m.was.nodes_before → c / 2 ≡ i → (node_in m.was.nodes_before c).place ≢ place = λ c two within_c half_is.
                      before_one marks start place m.was (suc m.way.0) c two within_c (omega (arith, fits, m.way.1)) (omega (arith, half_is, u, e, m.way.1)) there in
                      pair_before marks start now place at m i low_i (omega (arith, u, e)) (side (2 * i) (omega (arith, low_i)) (omega (arith, within, as_long marks start now place at m)) (omega arith))
                      (side (2 * i + 1) (omega (arith, low_i)) (omega (arith, within, as_long marks start now place at m)) (omega arith))
                ]
          ];
    }
