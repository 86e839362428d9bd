-- Marks: what is kept of the places of a list, and of pairs, fours and so on of them.
use Rattle.std.specs.Prelude.{◌≡◌, ◌⊎◌, Bool, List, [], ◌∷◌, Option, Some, None, bit_and, bit_or, false, true, get_or, length, map, not, set, if◌then◌else◌, min, nat_lt, ℕ, ◌*◌, ◌+◌, ◌-◌, ◌/◌, ◌<◌, ◌==◌, ◌^◌, ◌≢◌, ◌≤◌}
use Rattle.sim_clock.specs.Order.{lesser}
use Rattle.sim_clock.specs.declared.key.Key.{Key}
use Rattle.sim_index.specs.declared.mark.Mark.{Mark}
use Rattle.sim_index.specs.declared.marks.Node.{Node}

-- the mark of an empty place
abbrev pub no_mark : Mark
no_mark = record { due = None; flags = 0 }

-- the mark of what two marks stand for, together
abbrev pub joined : Mark → Mark → Mark
joined a b = record { due = lesser a.due b.due; flags = bit_or a.flags b.flags }

-- whether a mark has one of these flags
abbrev pub meets : ℕ → Mark → Bool
meets set m = not (bit_and m.flags set == 0)

-- the mark of a node, and whether it has one of these flags
abbrev pub node : List Mark → ℕ → Mark
node nodes i = get_or nodes i no_mark

abbrev pub tells : List Mark → ℕ → ℕ → Bool
tells nodes set i = meets set (node nodes i)

-- whether a node's mark is that of its two children together
abbrev pub IsPair : List Mark → ℕ → Type 0
IsPair nodes i = node nodes i ≡ joined (node nodes (2 * i)) (node nodes (2 * i + 1))

-- whether each node's is that has two below it
abbrev pub ArePairs : List Mark → Type 0
ArePairs nodes = (i : ℕ) → 1 ≤ i → 2 * i + 1 < length nodes → IsPair nodes i

-- a power of two
abbrev pub IsPower : ℕ → Type 0
IsPower n = (k : ℕ) × (n ≡ 2 ^ k)

-- no node has one of these flags from one on, before another
abbrev pub NoneIn : List Mark → ℕ → ℕ → ℕ → Type 0
NoneIn nodes set from end = (i : ℕ) → from ≤ i → i < end → tells nodes set i ≡ false

-- the first node from one on, before another, that has one of these flags
pub record IsNextIn (nodes : List Mark) (set from end place : ℕ) : Type 0 where
  pub past : from ≤ place
  pub within : place < end
  pub found : tells nodes set place ≡ true
  pub none_before : NoneIn nodes set from place

-- the node before which the pair of a node ends
abbrev pub beyond : ℕ → ℕ
beyond i = 2 * (i / 2 + 1)

-- the node of no places, and the node at a place of a list
abbrev pub no_node : Node
no_node = record { rank = 0; place = 0; flags = 0 }

abbrev pub node_in : List Node → ℕ → Node
node_in nodes i = get_or nodes i no_node

-- the mark of a node, by the marks of the places: what is due at its place, and its flags
abbrev pub told_by : List Mark → Node → Mark
told_by marks n = record { due = (node marks n.place).due; flags = n.flags }

-- the rank of what is due, a number that rises with keys: of a key before 2^32 - 1 ms its time and agent in one number, of each
-- later key the same late rank, and behind all of these the rank of nothing
abbrev pub rank_of : Option Key → ℕ
rank_of None = 2 ^ 64 - 1
rank_of (Some key) = if nat_lt key.at (2 ^ 32 - 1) then 2 ^ 32 * key.at + min key.agent (2 ^ 32 - 1) else 2 ^ 64 - 2

-- a node has the rank of what is due at its place
abbrev pub IsRanked : List Mark → Node → Type 0
IsRanked marks n = n.rank ≡ rank_of (told_by marks n).due

-- the flags of nodes alone
abbrev pub bare : List Node → List Mark
bare nodes = map (told_by []) nodes

-- of two places, with what is due at each, the first at which the least of both is due
abbrev pub IsFirstOf : Option Key → Option Key → ℕ → ℕ → ℕ → Type 0
IsFirstOf first second a b place =
    ((lesser first second ≡ first) × (place ≡ a)) ⊎ ((lesser first second ≡ second) × (place ≡ b) × (first ≡ second → second ≡ None))

-- the node of what two others stand for, together
pub record IsBoth (marks : List Mark) (a b n : Node) : Type 0 where
  pub place : IsFirstOf (told_by marks a).due (told_by marks b).due a.place b.place n.place
  pub flags : n.flags ≡ bit_or a.flags b.flags
  pub rank : IsRanked marks n

-- whether each node does of the two below it
abbrev pub AreBoth : List Mark → List Node → Type 0
AreBoth marks nodes = (i : ℕ) → 1 ≤ i → 2 * i + 1 < length nodes → IsBoth marks (node_in nodes (2 * i)) (node_in nodes (2 * i + 1)) (node_in nodes i)

-- nodes of which the second half are those of single places, and all refer to places that exist
pub record AreLeaves (marks : List Mark) (nodes : List Node) : Type 0 where
  pub long : length nodes ≡ 2 * length marks
  pub there : (i : ℕ) → i < length nodes → (node_in nodes i).place < length marks
  pub single : (i : ℕ) → i < length marks → node_in nodes (length marks + i) ≡ record { rank = rank_of (node marks i).due; place = i; flags = (node marks i).flags }

-- a tree over the marks of places, of which there are a power of two
pub record IsTree (marks : List Mark) (nodes : List Node) : Type 0 where
  pub power : 1 ≤ length marks → IsPower (length marks)
  pub leaves : AreLeaves marks nodes
  pub pairs : AreBoth marks nodes

-- a tree in which a place has got another mark, with its own node alone
pub record IsTreeBut (marks : List Mark) (nodes : List Node) (place : ℕ) : Type 0 where
  pub marks_before : List Mark
  pub nodes_before : List Node
  pub mark : Mark
  pub tree : IsTree marks_before nodes_before
  pub within : place < length marks_before
  pub marks_now : marks ≡ set marks_before place mark
  pub nodes_now : nodes ≡ set nodes_before (length marks + place) (record { rank = rank_of mark.due; place = place; flags = mark.flags })

-- the least key due in some marks
abbrev pub least_of : List Mark → Option Key
least_of [] = None
least_of (m ∷ ms) = lesser m.due (least_of ms)

-- the first place at which the least is due
pub record IsPlaceOfLeast (marks : List Mark) (place : ℕ) : Type 0 where
  pub some : least_of marks ≢ None
  pub within : place < length marks
  pub due : (node marks place).due ≡ least_of marks
  pub first : (k : ℕ) → k < place → (node marks k).due ≢ least_of marks
