-- The least of a list with one more, and dues before a moment.
use Rattle.std.proofs.Common.{Less, Equal, Greater, ◌≡◌, ℕ, zero, suc, ◌≤◌, nat_lt, sym, Bool, true, false, not, List, [], ◌∷◌, ◌++◌, Option, Some, None, refl, ap, map, if◌then◌else◌, ◌∙◌, arith}
use Rattle.std.specs.Cmp.{IsTotalOrder}
use Rattle.std.specs.declared.cmp.Ordering.{Ordering}
use Rattle.std.specs.Ordering.{is_lt, is_eq, on, nat_cmp, ordering_then}
use Rattle.sim_clock.specs.declared.key.Key.{Key}
use Rattle.sim_clock.specs.declared.key.Class.{Class}
use Rattle.sim_clock.specs.declared.key.Class.TheVariants.{Expiry, Release, Arrival, PollEnd, Wake, Sample, Step}
use Rattle.sim_clock.specs.Order.{class_rank, key_cmp, lesser, lesser_by, least_by, inserted_by, due_before}
use Rattle.sim_clock.proofs.Inserted.{exactly, upto_before}
use Rattle.sim_clock.proofs.Orderings.{nat_not_less, nat_tied, then_not_less}

module _ {A : Type 0} {R : A → A → Ordering} (total : IsTotalOrder R) (tied : (x y : A) → is_eq (R x y) ≡ true → x ≡ y) where
  two_by : (a b : A) (c : Bool) → is_eq (R a b) ≡ c → (if is_lt (R b a) then Some b else Some a) ≡ (if is_lt (R a b) then Some a else Some b)
  two_by a b true e = let t : a ≡ b = tied a b e in rw t refl
  two_by a b false e =
      rw (exactly total a b e)
      (elim (is_lt (R a b)) as (λ c. (if not c then Some b else Some a) ≡ (if c then Some a else Some b)) [ true ↦ refl | false ↦ refl ])

  two : (a b : A) → (if is_lt (R b a) then Some b else Some a) ≡ (if is_lt (R a b) then Some a else Some b)
  two a b = two_by a b _ refl

  between_by : (a b c : A) (d : Bool) → is_lt (R a b) ≡ d → is_lt (R c b) ≡ true → is_lt (R c a) ≡ false → is_lt (R a b) ≡ true
  between_by a b c true e h k = e
  between_by a b c false e h k = let n : is_lt (R c b) ≡ false = upto_before total b a c e k in cc

  three :
      (a b c : A) (h k : Bool) → is_lt (R c b) ≡ h → is_lt (R c a) ≡ k
      → lesser_by R (Some a) (if h then Some c else Some b) ≡ lesser_by R (Some b) (if k then Some c else Some a)
  three a b c true true h k = rw (h, k) refl
  three a b c true false h k = rw (k, between_by a b c _ refl h k) refl
  three a b c false true h k = rw (h, between_by b a c _ refl k h) refl
  three a b c false false h k = two a b

  pub lesser_swap : (a b : A) (m : Option A) → lesser_by R (Some a) (lesser_by R (Some b) m) ≡ lesser_by R (Some b) (lesser_by R (Some a) m)
  lesser_swap a b None = two a b
  lesser_swap a b (Some c) = three a b c _ _ refl refl

  -- the least of a list with one more inserted is the lesser of the two
  pub least_inserted :
      {B : Type 0} (f : B → A) (o : B) (xs : List B) (ys : List A)
      → least_by R (map f (inserted_by (on f R) o xs) ++ ys) ≡ lesser_by R (Some (f o)) (least_by R (map f xs ++ ys))
  least_inserted f o [] ys = refl
  least_inserted f o (x ∷ xs) ys =
      elim (is_lt (R (f o) (f x))) as
      (λ b. least_by R (map f (if b then o ∷ (x ∷ xs) else x ∷ inserted_by (on f R) o xs) ++ ys) ≡ lesser_by R (Some (f o)) (lesser_by R (Some (f x)) (least_by R (map f xs ++ ys)))) [
        | true ↦ refl
        | false ↦ ap (lesser_by R (Some (f x))) (least_inserted f o xs ys) ∙ lesser_swap (f x) (f o) (least_by R (map f xs ++ ys))
      ]

both : (o p : Ordering) → is_eq (ordering_then o p) ≡ true → (is_eq o ≡ true) × (is_eq p ≡ true)
both Less p h = (cc, cc)
both Equal p h = (refl, h)
both Greater p h = (cc, cc)

-- classes of one rank are one
abbrev class_at : ℕ → Class
class_at zero = Expiry
class_at (suc zero) = Release
class_at (suc (suc zero)) = Arrival
class_at (suc (suc (suc zero))) = PollEnd
class_at (suc (suc (suc (suc zero)))) = Wake
class_at (suc (suc (suc (suc (suc zero))))) = Sample
class_at (suc (suc (suc (suc (suc (suc n)))))) = Step

class_back : (c : Class) → class_at (class_rank c) ≡ c
class_back Expiry = refl
class_back Release = refl
class_back Arrival = refl
class_back PollEnd = refl
class_back Wake = refl
class_back Sample = refl
class_back Step = refl

class_tied : (a b : Class) → class_rank a ≡ class_rank b → a ≡ b
class_tied a b h = sym (class_back a) ∙ ap class_at h ∙ class_back b

abbrev key_of : ℕ → ℕ → Class → ℕ → Key
key_of at agent class number = record { at = at; agent = agent; class = class; number = number }

pub key_tied : (a b : Key) → is_eq (key_cmp a b) ≡ true → a ≡ b
key_tied a b h =
    let at : (is_eq (nat_cmp a.at b.at) ≡ true) × _ = both _ _ h in
    let agent : (is_eq (nat_cmp a.agent b.agent) ≡ true) × _ = both _ _ at.1 in
    let class : (is_eq (nat_cmp (class_rank a.class) (class_rank b.class)) ≡ true) × _ = both _ _ agent.1 in
    let e : a.at ≡ b.at = nat_tied _ _ at.0 in
    let f : a.agent ≡ b.agent = nat_tied _ _ agent.0 in
    let g : a.class ≡ b.class = class_tied _ _ (nat_tied _ _ class.0) in
    let n : a.number ≡ b.number = nat_tied _ _ class.1 in
    let same : key_of a.at a.agent a.class a.number ≡ key_of b.at b.agent b.class b.number = cc in same

not_before : (e at : ℕ) → e ≤ at → nat_lt at e ≡ false
not_before e at l = grind (arith)

-- one that is due at a moment or later changes nothing of what is due before it
later_by :
    (e : ℕ) (k c : Key) (b : Bool) → is_lt (key_cmp c k) ≡ b → e ≤ k.at
    → due_before e (if b then Some c else Some k) ≡ due_before e (Some c)
later_by e k c true h l = refl
later_by e k c false h l =
    let n : k.at ≤ c.at = nat_not_less c.at k.at (then_not_less _ _ h) in rw (not_before e k.at l, not_before e c.at (omega arith)) refl

none_by : (e : ℕ) (k : Key) → e ≤ k.at → due_before e (Some k) ≡ None
none_by e k l = rw (not_before e k.at l) refl

pub due_before_lesser : (e : ℕ) (k : Key) (m : Option Key) → e ≤ k.at → due_before e (lesser (Some k) m) ≡ due_before e m
due_before_lesser e k None l = none_by e k l
due_before_lesser e k (Some c) l = later_by e k c _ refl l
