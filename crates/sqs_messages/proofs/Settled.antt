-- Groups after a change of one of their messages.
use Rattle.std.proofs.Common.{◌≡◌, ℕ, ◌+◌, ◌<◌, Bool, true, false, List, [], ◌∷◌, Option, map, ◌&&◌, refl, ap, sym, subst, ◌∙◌}
use Rattle.std.specs.Prelude.{All}
use Rattle.sim_clock.specs.declared.key.Key.{Key}
use Rattle.sqs_message.specs.declared.message.Message.{Message}
use Rattle.sqs_model.specs.Queue.{same_text}
use Rattle.sqs_model.specs.Texts.{decided_symm, same_text_decides}
use Rattle.sqs_messages.specs.Heads.{AreLed, IsLedBut, of_group, told}
use Rattle.sqs_messages.specs.Slots.{Shelved, held}
use Rattle.sqs_messages.specs.Groups.{IsGrouped, Kept, bit, out_of}
use Rattle.sqs_messages.specs.Marked.{unhosted}
use Rattle.sqs_messages.proofs.Grouped.{grouped_same}

-- what a change of a message of group g leaves of the groups
pub record IsSettled (items after : List Shelved) (g : Option (List ℕ)) (was is : Bool) (old new : Option (List ℕ) → Kept) : Type 0 where
  pub kept : map unhosted after ≡ map unhosted items
  pub others : (h : Option (List ℕ)) → same_text g h ≡ false → new h ≡ old h
  pub out : (new g).out + bit was ≡ (old g).out + bit is
  pub held_as : held items (new g).numbers ≡ held items (old g).numbers
  pub below : (n : ℕ) → All (λ k. k < n) (old g).numbers → All (λ k. k < n) (new g).numbers
  pub led : All (IsLedBut items g) items → held items (old g).numbers ≡ of_group g (told items) → (new g).out ≡ out_of g (told items) → AreLed after

pub told_kept : (items after : List Shelved) → map unhosted after ≡ map unhosted items → told after ≡ told items
told_kept items after e = sym (firsts after) ∙ ap (map (λ (p : Message × Option Key × ℕ). p.0)) e ∙ firsts items
  where
    firsts : (xs : List Shelved) → map (λ (p : Message × Option Key × ℕ). p.0) (map unhosted xs) ≡ told xs
    firsts [] = refl
    firsts (x ∷ xs) = ap (λ ys. x.message ∷ ys) (firsts xs)

module _ (items after : List Shelved) (next : ℕ) (g : Option (List ℕ)) (was is : Bool) (old new : Option (List ℕ) → Kept) (s : IsSettled items after g was is old new)
    (mid : (h : Option (List ℕ)) (k : Kept) → k.numbers ≡ (old h).numbers → k.out + bit (same_text h g && was) ≡ (old h).out + bit (same_text h g && is) → IsGrouped items next h k) where
  counted : (h : Option (List ℕ)) (b : Bool) → same_text h g ≡ b → (new h).out + bit (b && was) ≡ (old h).out + bit (b && is)
  counted h true e = let one : h ≡ g = (same_text_decides h g).0 e in subst (λ x. (new x).out + bit was ≡ (old x).out + bit is) (sym one) s.out
  counted h false e = ap (λ (k : Kept). k.out + 0) (s.others h (decided_symm same_text same_text_decides g h ∙ e))

  grouped_middle : (h : Option (List ℕ)) → IsGrouped items next h (record { numbers = (old h).numbers; out = (new h).out })
  grouped_middle h = mid h (record { numbers = (old h).numbers; out = (new h).out }) refl (counted h (same_text h g) refl)

  -- each group's list and count are right again
  pub settled : (h : Option (List ℕ)) → IsGrouped after next h (new h)
  settled h = by (same_text g h) refl
    where
      from : held items (new h).numbers ≡ held items (old h).numbers → ((n : ℕ) → All (λ k. k < n) (old h).numbers → All (λ k. k < n) (new h).numbers) → IsGrouped after next h (new h)
      from same below = grouped_same h next items after (record { numbers = (old h).numbers; out = (new h).out }) (new h) (told_kept items after s.kept) (grouped_middle h) same (below next (grouped_middle h).below) refl

      by : (b : Bool) → same_text g h ≡ b → IsGrouped after next h (new h)
      by true e =
          let one : g ≡ h = (same_text_decides g h).0 e in
          from (subst (λ x. held items (new x).numbers ≡ held items (old x).numbers) one s.held_as) (subst (λ x. (n : ℕ) → All (λ k. k < n) (old x).numbers → All (λ k. k < n) (new x).numbers) one s.below)
      by false e =
          let same : new h ≡ old h = s.others h e in
          from (ap (λ (k : Kept). held items k.numbers) same) (λ n a. subst (λ (k : Kept). All (λ j. j < n) k.numbers) (sym same) a)

  -- and so are the marks of leaders
  pub settled_led : All (IsLedBut items g) items → AreLed after
  settled_led but = s.led but (grouped_middle g).listed (grouped_middle g).counted
