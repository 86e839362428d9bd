-- A tree of nodes, by the marks that its nodes tell.
use Rattle.std.proofs.Common.{◌≡◌, ◌≢◌, true, ℕ, zero, suc, ◌+◌, ◌*◌, ◌-◌, ◌<◌, ◌≤◌, List, [], ◌∷◌, None, drop, length, map, inl, inr, arith, refl, ap, sym, subst, ◌∙◌}
use Rattle.std.specs.Prelude.{get_or, nat_lt}
use Rattle.std.proofs.lemmas.Bool.{cases_lt, ltb-true}
use Rattle.std.proofs.lemmas.List.{get_or-drop, get_or-map, get_or_default, get_or_read_under, length-drop, length-map, same_lists}
use Rattle.sim_clock.specs.Order.{lesser}
use Rattle.sim_index.specs.declared.mark.Mark.{Mark}
use Rattle.sim_index.specs.declared.marks.Node.{Node}
use Rattle.sim_index.specs.Marks.{ArePairs, IsBoth, IsFirstOf, IsNextIn, IsPlaceOfLeast, IsTree, NoneIn, bare, meets, joined, least_of, no_mark, no_node, node, node_in, told_by, tells}
use Rattle.std.specs.List.{list_any}
use Rattle.sim_index.proofs.Rows.{IsPaired, next_of_leaves, none_of_leaves}
use Rattle.sim_index.proofs.Told.{root_any}
use Rattle.sim_index.proofs.Spans.{IsFirstInRow, Below, first_below, first_leaf, first_root, leaf_least, root_least}

-- the marks that nodes tell
abbrev pub shown : List Mark → List Node → List Mark
shown marks nodes = map (told_by marks) nodes

pub shown_at : (marks : List Mark) (nodes : List Node) (i : ℕ) → i < length nodes → node (shown marks nodes) i ≡ told_by marks (node_in nodes i)
shown_at marks nodes i l = get_or-map (told_by marks) nodes i no_node no_mark l

-- of flags they tell the same whatever is due
pub tells_shown : (marks : List Mark) (nodes : List Node) (flags i : ℕ) → tells (shown marks nodes) flags i ≡ tells (bare nodes) flags i
tells_shown marks [] flags i = refl
tells_shown marks (n ∷ ns) flags zero = refl
tells_shown marks (n ∷ ns) flags (suc i) = tells_shown marks ns flags i

pub long_bare : (nodes : List Node) → length (bare nodes) ≡ length nodes
long_bare nodes = length-map nodes (told_by [])

-- a node of two others tells what their marks tell together
due_of_both : (marks : List Mark) (a b n : Node) → IsBoth marks a b n → (told_by marks n).due ≡ lesser (told_by marks a).due (told_by marks b).due
due_of_both marks a b n h =
    elim h.place [
      | inl p ↦ ap (λ (k : ℕ). (node marks k).due) p.1 ∙ sym p.0
      | inr p ↦ ap (λ (k : ℕ). (node marks k).due) p.1 ∙ sym p.0
    ]

both_joined : (marks : List Mark) (a b n : Node) → IsBoth marks a b n → told_by marks n ≡ joined (told_by marks a) (told_by marks b)
both_joined marks a b n h = (λ j. record { due = due_of_both marks a b n h j; flags = h.flags j })

both_bare : (marks : List Mark) (a b n : Node) → IsBoth marks a b n → told_by [] n ≡ joined (told_by [] a) (told_by [] b)
both_bare marks a b n h = (λ j. record { due = None; flags = h.flags j })

module _ (marks : List Mark) (nodes : List Node) (tree : IsTree marks nodes) where
  pub long_shown : length (shown marks nodes) ≡ 2 * length marks
  long_shown = length-map nodes (told_by marks) ∙ tree.leaves.long

  pairs_by : (other : List Mark) → ((a b n : Node) → IsBoth marks a b n → told_by other n ≡ joined (told_by other a) (told_by other b)) → ArePairs (shown other nodes)
  pairs_by other by i some within =
      let long : length (shown other nodes) ≡ length nodes = length-map nodes (told_by other) in
      shown_at other nodes i (omega (arith, long, within))
      ∙ by (node_in nodes (2 * i)) (node_in nodes (2 * i + 1)) (node_in nodes i) (tree.pairs i some (omega (arith, long, within)))
      ∙ (λ j. joined (sym (shown_at other nodes (2 * i) (omega (arith, long, within))) j) (sym (shown_at other nodes (2 * i + 1) (omega (arith, long, within))) j))

  pub pairs_bare : ArePairs (bare nodes)
  pairs_bare = pairs_by [] (both_bare marks)

  pub paired : IsPaired (shown marks nodes) (length marks)
  paired = record { power = tree.power; long = long_shown; pairs = pairs_by marks (both_joined marks) }

  single_shown : (i : ℕ) → i < length marks → node (shown marks nodes) (length marks + i) ≡ node marks i
  single_shown i l = shown_at marks nodes (length marks + i) (omega (arith, tree.leaves.long, l)) ∙ ap (told_by marks) (tree.leaves.single i l)

  -- the marks of the places are the second half
  pub places_shown : drop (length marks) (shown marks nodes) ≡ marks
  places_shown =
      same_lists (drop (length marks) (shown marks nodes)) marks (omega (arith, length-drop (length marks) (shown marks nodes), long_shown))
      (λ i d l.
      get_or_default (drop (length marks) (shown marks nodes)) i d no_mark l
      ∙ get_or-drop (length marks) (shown marks nodes) i no_mark
      ∙ single_shown i (omega (arith, length-drop (length marks) (shown marks nodes), long_shown, l))
      ∙ sym (get_or_default marks i d no_mark (omega (arith, length-drop (length marks) (shown marks nodes), long_shown, l))))

  -- the place of the first node, where there is one
  root : 1 ≤ length marks → node (shown marks nodes) 1 ≡ told_by marks (node_in nodes 1)
  root some = shown_at marks nodes 1 (omega (arith, tree.leaves.long, some))

  pub least_at_root : 1 ≤ length marks → (node marks (node_in nodes 1).place).due ≡ least_of marks
  least_at_root some = ap (λ (m : Mark). m.due) (sym (root some)) ∙ root_least (shown marks nodes) (length marks) paired ∙ ap least_of places_shown

  -- the way down from a node to its place
  way_down : (fuel at : ℕ) → 2 * length marks ≤ at + fuel → 1 ≤ at → at < 2 * length marks → (node (shown marks nodes) 1).due ≢ None → (node (shown marks nodes) at).due ≡ (node (shown marks nodes) 1).due → IsFirstInRow (shown marks nodes) at
      → (node_in nodes at).place < length marks → IsFirstInRow (shown marks nodes) (length marks + (node_in nodes at).place)
  way_down zero at enough some within due told first there = absurd (omega arith)
  way_down (suc fuel) at enough some within due told first there =
      elim (cases_lt at (length marks)) [
        | inl l ↦
            let both : IsBoth marks (node_in nodes (2 * at)) (node_in nodes (2 * at + 1)) (node_in nodes at) = tree.pairs at some (omega (arith, tree.leaves.long, l)) in
            let left : node (shown marks nodes) (2 * at) ≡ told_by marks (node_in nodes (2 * at)) = shown_at marks nodes (2 * at) (omega (arith, tree.leaves.long, l)) in
            let right : node (shown marks nodes) (2 * at + 1) ≡ told_by marks (node_in nodes (2 * at + 1)) = shown_at marks nodes (2 * at + 1) (omega (arith, tree.leaves.long, l)) in
            let go : (next : ℕ) → IsFirstOf (told_by marks (node_in nodes (2 * at))).due (told_by marks (node_in nodes (2 * at + 1))).due (2 * at) (2 * at + 1) next → 2 * at ≤ next → (node_in nodes at).place ≡ (node_in nodes next).place
            → IsFirstInRow (shown marks nodes) (length marks + (node_in nodes at).place) = λ next is more same.
            let below : Below (shown marks nodes) (length marks) next =
            first_below (shown marks nodes) (length marks) at next paired.pairs long_shown some l due told first
            (subst (λ (m : Mark). IsFirstOf m.due (node (shown marks nodes) (2 * at + 1)).due (2 * at) (2 * at + 1) next) (sym left)
            (subst (λ (m : Mark). IsFirstOf (told_by marks (node_in nodes (2 * at))).due m.due (2 * at) (2 * at + 1) next) (sym right) is)) in
            subst (λ (k : ℕ). IsFirstInRow (shown marks nodes) (length marks + k)) (sym same)
            (way_down fuel next (omega (arith, enough, more, some)) below.some below.within due below.due below.first (omega (arith, same, there))) in
            elim both.place [
              | inl p ↦ go (2 * at) (inl (p.0, refl)) (omega arith) p.1
              | inr p ↦ go (2 * at + 1) (inr (p.0, refl, p.2)) (omega arith) p.1
            ]
        | inr l ↦
            let place : (node_in nodes at).place ≡ at - length marks =
            ap (λ (k : ℕ). (node_in nodes k).place) (omega arith) ∙ ap (λ (n : Node). n.place) (tree.leaves.single (at - length marks) (omega (arith, within, l))) in
            subst (IsFirstInRow (shown marks nodes)) (omega (arith, place, l)) first
      ]

  pub place_at_root : 1 ≤ length marks → (node marks (node_in nodes 1).place).due ≢ None → IsPlaceOfLeast marks (node_in nodes 1).place
  place_at_root some due =
      let place : ℕ = (node_in nodes 1).place in
      let there : place < length marks = tree.leaves.there 1 (omega (arith, tree.leaves.long, some)) in
      let told : (node (shown marks nodes) 1).due ≡ (node marks place).due = ap (λ (m : Mark). m.due) (root some) in
      let some_due : (node (shown marks nodes) 1).due ≢ None = λ e. due (sym told ∙ e) in
      let leaf : (node (shown marks nodes) (length marks + place)).due ≡ (node (shown marks nodes) 1).due = ap (λ (m : Mark). m.due) (single_shown place there) ∙ sym told in
      let back : length marks + place - length marks ≡ place = omega arith in
      let first : IsFirstInRow (shown marks nodes) (length marks + place) = way_down (2 * length marks) 1 (omega arith) (omega arith) (omega (arith, some)) some_due refl (first_root (shown marks nodes)) there in
      subst (IsPlaceOfLeast marks) back
      (subst (λ (ms : List Mark). IsPlaceOfLeast ms (length marks + place - length marks)) places_shown
      (leaf_least (shown marks nodes) (length marks) (length marks + place) paired (omega arith) (omega (arith, there)) some_due leaf
      (first_leaf (shown marks nodes) (length marks) (length marks + place) (tree.power some) (omega arith) (omega (arith, there)) first)))

  -- the first node has one of these flags exactly where a place does
  pub root_tells : (flags : ℕ) → tells (bare nodes) flags 1 ≡ list_any (meets flags) marks
  root_tells flags = sym (tells_shown marks nodes flags 1) ∙ root_any (shown marks nodes) (length marks) flags paired ∙ ap (list_any (meets flags)) places_shown

  -- what nodes tell from one on, the places do
  bare_none : (flags from end : ℕ) → NoneIn (bare nodes) flags from end → NoneIn (shown marks nodes) flags from end
  bare_none flags from end none i l u = tells_shown marks nodes flags i ∙ none i l u

  pub none_of_places : (flags from : ℕ) → NoneIn (bare nodes) flags (length marks + from) (2 * length marks) → NoneIn marks flags from (length marks)
  none_of_places flags from none = none_of_leaves (shown marks nodes) marks (length marks) flags paired places_shown from (bare_none flags (length marks + from) (2 * length marks) none)

  pub next_of_places : (flags from n : ℕ) → IsNextIn (bare nodes) flags (length marks + from) (2 * length marks) n → IsNextIn marks flags from (length marks) (n - length marks)
  next_of_places flags from n next =
      next_of_leaves (shown marks nodes) marks (length marks) flags paired places_shown from n
      (record { past = next.past; within = next.within; found = tells_shown marks nodes flags n ∙ next.found; none_before = bare_none flags (length marks + from) n next.none_before })

  -- the first node, where it is found
  pub root_read : (seen : List Node) (root : Node) → seen ≡ nodes → (true ≡ nat_lt 1 (length seen)) × (root ≡ get_or seen 1 root) → (1 ≤ length marks) × (root ≡ node_in nodes 1) × (root.place < length marks)
  root_read seen root same (within, is) =
      let long : 1 < length nodes = omega (arith, ltb-true 1 (length seen) (sym within), ap length same) in
      let here : root ≡ node_in nodes 1 = get_or_read_under nodes 1 (length nodes) root no_node (is ∙ ap (λ (ns : List Node). get_or ns 1 root) same) long refl in
      (omega (arith, long, tree.leaves.long), here, omega (arith, ap (λ (n : Node). n.place) here, tree.leaves.there 1 long))

  -- what is read of it
  pub least_read : (root : Node) (mark : Mark) → 1 ≤ length marks → root ≡ node_in nodes 1 → mark ≡ node marks root.place → mark.due ≡ least_of marks
  least_read root mark some is read = ap (λ (m : Mark). m.due) (read ∙ ap (λ (n : Node). node marks n.place) is) ∙ least_at_root some

  pub place_read : (root : Node) (mark : Mark) → 1 ≤ length marks → root ≡ node_in nodes 1 → mark ≡ node marks root.place → mark.due ≢ None → IsPlaceOfLeast marks root.place
  place_read root mark some is read due =
      subst (λ (n : Node). IsPlaceOfLeast marks n.place) (sym is) (place_at_root some (λ e. due (ap (λ (m : Mark). m.due) (read ∙ ap (λ (n : Node). node marks n.place) is) ∙ e)))
