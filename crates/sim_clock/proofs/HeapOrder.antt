-- The order by which the agenda's heap compares: that of the definitions, the other way round.
use Rattle.std.proofs.Common.{◌≡◌, List, ap, subst, rules}
use Rattle.std.specs.BinaryHeap.{IsHeap, IsUpperBound, KeepsHeap}
use Rattle.std.specs.Ordering.{nat_cmp, ordering_then}
use Rattle.std.specs.declared.cmp.Ordering.{Ordering}
use Rattle.std.specs.declared.cmp.Reverse.{Reverse}
use Rattle.sim_clock.specs.declared.key.Key.{Key}
use Rattle.sim_clock.specs.declared.key.Class.{Class}
use Rattle.sim_clock.specs.contracts.key.KeyOrd.TheImpl.{ghosts as of_keys}
use Rattle.sim_clock.specs.contracts.key.ClassOrd.TheImpl.{ghosts as of_classes}
use Rattle.sim_clock.specs.Order.{class_rank, key_cmp}

classes_compare : (a b : Class) → of_classes.cmp a b ≡ nat_cmp (class_rank a) (class_rank b)
classes_compare a b = search rules

pub keys_compare : (a b : Key) → of_keys.cmp a b ≡ key_cmp a b
keys_compare a b =
    ap (λ class. ordering_then (nat_cmp a.at b.at) (ordering_then (nat_cmp a.agent b.agent) (ordering_then class (nat_cmp a.number b.number))))
    (classes_compare a.class b.class)

-- the order of keys, greatest first
abbrev pub backward : Reverse Key → Reverse Key → Ordering
backward a b = key_cmp b.0 a.0

-- the same, as the heap computes it
abbrev pub computed : Reverse Key → Reverse Key → Ordering
computed a b = of_keys.cmp b.0 a.0

compares : computed ≡ backward
compares i a b = keys_compare b.0 a.0 i

pub is_heap : (xs : List (Reverse Key)) → IsHeap computed xs → IsHeap backward xs
is_heap xs = subst (λ R. IsHeap R xs) compares

pub keeps_heap : (xs ys : List (Reverse Key)) → KeepsHeap computed xs ys → KeepsHeap backward xs ys
keeps_heap xs ys = subst (λ R. KeepsHeap R xs ys) compares

pub is_bound :
    (xs : List (Reverse Key)) (x : Reverse Key) (ys : List (Reverse Key)) → (IsHeap computed xs → IsUpperBound computed x ys)
    → IsHeap backward xs → IsUpperBound backward x ys
is_bound xs x ys = subst (λ R. IsHeap R xs → IsUpperBound R x ys) compares
