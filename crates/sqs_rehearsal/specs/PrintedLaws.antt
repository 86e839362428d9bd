-- What a recorder took of printed rows in several calls it took together.
use Rattle.std.specs.Prelude.{List, [], map, ◌++◌, ◌∷◌, ◌≡◌}
use Rattle.std.proofs.Common.{ap, arith, inl, inr, refl, subst, sym, ◌∙◌}
use Rattle.std.proofs.Math.Nat.{max-le}
use Rattle.sim_clock.specs.declared.refusal.Refusal.{Refusal}
use Rattle.sim_records.specs.Writes.{WriterState}
use Rattle.sqs_message.specs.declared.row.Row.{Row}
use Rattle.sqs_rehearsal.specs.LimitLaws.{passed_after, rows_joined}
use Rattle.sqs_rehearsal.specs.Printed.{BrokeCounted, BrokePrinted, Printed, TookCounted, TookPrinted, printed}
use Rattle.sqs_rehearsal.specs.SinkLaws.{recorded_both, recorded_none, stopped_later}
use Rattle.sqs_rehearsal.specs.Sinks.{Recorded}
use Rattle.sqs_rehearsal.specs.declared.recorder.Recorder.{Recorder}

-- a list whose two parts are known is mapped from two parts
pub record Parts {A B : Type 0} (f : A → B) (xs ys : List B) (zs : List A) : Type 0 where
  pub first : List A
  pub others : List A
  pub joined : first ++ others ≡ zs
  pub first_is : xs ≡ map f first
  pub others_are : ys ≡ map f others

pub parts_of : {A B : Type 0} (f : A → B) (xs ys : List B) (zs : List A) → xs ++ ys ≡ map f zs → Parts f xs ys zs
parts_of f [] ys zs e = record { first = []; others = zs; joined = refl; first_is = refl; others_are = e }
parts_of f (x ∷ xs) ys [] e = absurd (let g : x ∷ (xs ++ ys) ≡ [] = e in cc)
parts_of f (x ∷ xs) ys (z ∷ zs) e =
    let head : x ≡ f z = cc in
    let tail : xs ++ ys ≡ map f zs = cc in
    let p : Parts f xs ys zs = parts_of f xs ys zs tail in
    record {
      first = z ∷ p.first;
      others = p.others;
      joined = ap (λ ws. z ∷ ws) p.joined;
      first_is = ap (λ w. w ∷ xs) head ∙ ap (λ ws. f z ∷ ws) p.first_is;
      others_are = p.others_are;
    }

module _ {W P : Type 0} (state : W → WriterState) where
  pub printed_none : (recorder : Recorder W P) → TookPrinted state recorder [] recorder
  printed_none recorder [] e = record { taken = recorded_none state recorder; within = omega arith }
  printed_none recorder (r ∷ rows) e = absurd (let g : [] ≡ printed recorder.names.now r ∷ map (printed recorder.names.now) rows = e in cc)

  counted_both : (a b c : Recorder W P) (xs ys : List Row) → TookCounted state a xs b → TookCounted state b ys c → TookCounted state a (xs ++ ys) c
  counted_both a b c xs ys first second =
      record { taken = recorded_both state a b c xs ys first.taken second.taken; within = rw (rows_joined xs ys) (max-le first.within second.within) }

  counted_later : (a b c : Recorder W P) (xs ys : List Row) (refusal : Refusal) → TookCounted state a xs b → BrokeCounted state b ys refusal c → BrokeCounted state a (xs ++ ys) refusal c
  counted_later a b c xs ys refusal first second =
      elim second as (λ _. BrokeCounted state a (xs ++ ys) refusal c) [
        | inl h ↦ inl (stopped_later state a b c xs ys refusal first.taken h)
        | inr h ↦ inr (passed_after (Recorded state) (recorded_both state) a b c xs ys refusal first.taken h)
      ]

  module _ (a b c : Recorder W P) (xs ys : List Printed) (first : TookPrinted state a xs b) (rows : List Row) (e : xs ++ ys ≡ map (printed a.names.now) rows) where
    -- the rows that were taken first, and the others, by the names of the recorder that took the first
    two_parts : Parts (printed a.names.now) xs ys rows
    two_parts = parts_of (printed a.names.now) xs ys rows e

    one : TookCounted state a two_parts.first b
    one = first two_parts.first two_parts.first_is

    others : ys ≡ map (printed b.names.now) two_parts.others
    others = subst (λ names. ys ≡ map (printed names) two_parts.others) (sym one.taken.same.names) two_parts.others_are

  pub printed_both : (a b c : Recorder W P) (xs ys : List Printed) → TookPrinted state a xs b → TookPrinted state b ys c → TookPrinted state a (xs ++ ys) c
  printed_both a b c xs ys first second rows e =
      let p = two_parts a b c xs ys first rows e in
      subst (λ (zs : List Row). TookCounted state a zs c) p.joined
      (counted_both a b c p.first p.others (one a b c xs ys first rows e) (second p.others (others a b c xs ys first rows e)))

  pub broke_printed_later : (a b c : Recorder W P) (xs ys : List Printed) (refusal : Refusal)
      → TookPrinted state a xs b → BrokePrinted state b ys refusal c → BrokePrinted state a (xs ++ ys) refusal c
  broke_printed_later a b c xs ys refusal first second rows e =
      let p = two_parts a b c xs ys first rows e in
      subst (λ (zs : List Row). BrokeCounted state a zs refusal c) p.joined
      (counted_later a b c p.first p.others refusal (one a b c xs ys first rows e) (second p.others (others a b c xs ys first rows e)))
