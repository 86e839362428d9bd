-- A sink that checks rows for counts past the limit: what it took in several calls it took together.
use Rattle.std.specs.List.{list_all}
use Rattle.std.specs.Prelude.{Bool, List, [], false, max, nat_le, true, ◌&&◌, ◌++◌, ◌<◌, ◌∷◌, ◌≡◌, ◌≤◌, ◌⊎◌}
use Rattle.std.proofs.Common.{ap, append_assoc, arith, inl, inr, refl, sym, true≢false, ◌∙◌}
use Rattle.std.proofs.Math.Nat.{le-max_left, le-max_right, max-le}
use Rattle.sim_clock.specs.declared.refusal.Refusal.{Refusal}
use Rattle.sim_clock.specs.declared.refusal.Refusal.TheVariants as refusals
use Rattle.sqs_message.specs.declared.row.Row.{Row}
use Rattle.sqs_model.specs.Answers.{most_count}
use Rattle.sqs_model.specs.Counts.{receipt_count}
use Rattle.sqs_model.specs.Limits.{rows_count}
use Rattle.sqs_rehearsal.specs.Limited.{BrokeWithin, Passed, TookWithin}
use Rattle.sqs_rehearsal.specs.declared.limited.Limited.{Limited}

-- whether a row has no count past the limit
abbrev is_within : Row → Bool
is_within r = nat_le (receipt_count r.receipt) most_count

-- the count of rows is the greater of the counts of two parts of them
pub rows_joined : (xs ys : List Row) → rows_count (xs ++ ys) ≡ max (rows_count xs) (rows_count ys)
rows_joined [] ys = omega arith
rows_joined (x ∷ xs) ys = omega (arith, rows_joined xs ys)

-- rows that are all within the limit, and rows that are not
pub all_within : (rows : List Row) → list_all is_within rows ≡ true → rows_count rows ≤ most_count
all_within [] h = omega arith
all_within (r ∷ rows) h =
    elim (is_within r) as (λ b. is_within r ≡ b → (b && list_all is_within rows) ≡ true → max (receipt_count r.receipt) (rows_count rows) ≤ most_count) [
      | true ↦ λ e k. max-le (grind (arith, e)) (all_within rows k)
      | false ↦ λ e k. absurd (true≢false (sym k))
    ] refl h

pub some_past : (rows : List Row) → list_all is_within rows ≡ false → most_count < rows_count rows
some_past [] h = absurd (true≢false h)
some_past (r ∷ rows) h =
    elim (is_within r) as (λ b. is_within r ≡ b → (b && list_all is_within rows) ≡ false → most_count < max (receipt_count r.receipt) (rows_count rows)) [
      | true ↦ λ e k. omega (arith, some_past rows k, le-max_right (receipt_count r.receipt) (rows_count rows))
      | false ↦ λ e k. grind (arith, e, le-max_left (receipt_count r.receipt) (rows_count rows))
    ] refl h

module _ {K : Type 0} (took : K → List Row → K → Type 0) where
  pub took_none : ((sink : K) → took sink [] sink) → (limited : Limited K) → TookWithin took limited [] limited
  took_none unchanged limited = record { same = refl; taken = unchanged limited.sink.now; within = omega arith }

  -- rows that are not all within the limit are refused before any of them is handed on
  pub past_refused : ((sink : K) → took sink [] sink) → (broke : K → List Row → Refusal → K → Type 0) (limited : Limited K) (rows : List Row) → list_all is_within rows ≡ false
      → BrokeWithin took broke limited rows refusals.CountLimit limited
  past_refused unchanged broke limited rows past =
      record {
        same = refl;
        why = inr (record { limit = refl; prefix = []; rest = rows; rows_are = refl; taken = unchanged limited.sink.now; past = some_past rows past });
      }

  module _ (both : (a b c : K) (xs ys : List Row) → took a xs b → took b ys c → took a (xs ++ ys) c) where
    pub took_after : (a b c : Limited K) (xs ys : List Row) → TookWithin took a xs b → TookWithin took b ys c → TookWithin took a (xs ++ ys) c
    took_after a b c xs ys first second =
        record {
          same = second.same ∙ first.same;
          taken = both a.sink.now b.sink.now c.sink.now xs ys first.taken second.taken;
          within = rw (rows_joined xs ys) (max-le first.within second.within);
        }

    pub passed_after : (a b c : K) (xs ys : List Row) (refusal : Refusal) → took a xs b → Passed took b ys refusal c → Passed took a (xs ++ ys) refusal c
    passed_after a b c xs ys refusal first second =
        record {
          limit = second.limit;
          prefix = xs ++ second.prefix;
          rest = second.rest;
          rows_are = append_assoc xs second.prefix second.rest ∙ ap (λ zs. xs ++ zs) second.rows_are;
          taken = both a b c xs second.prefix first second.taken;
          past = rw (rows_joined xs ys) (omega (arith, second.past, le-max_right (rows_count xs) (rows_count ys)));
        }

    pub broke_after : (broke : K → List Row → Refusal → K → Type 0) → ((a b c : K) (xs ys : List Row) (refusal : Refusal) → took a xs b → broke b ys refusal c → broke a (xs ++ ys) refusal c)
        → (a b c : Limited K) (xs ys : List Row) (refusal : Refusal) → TookWithin took a xs b → BrokeWithin took broke b ys refusal c → BrokeWithin took broke a (xs ++ ys) refusal c
    broke_after broke later a b c xs ys refusal first second =
        record {
          same = second.same ∙ first.same;
          why =
              elim second.why as (λ _. broke a.sink.now (xs ++ ys) refusal c.sink.now ⊎ Passed took a.sink.now (xs ++ ys) refusal c.sink.now) [
                | inl h ↦ inl (later a.sink.now b.sink.now c.sink.now xs ys refusal first.taken h)
                | inr h ↦ inr (passed_after a.sink.now b.sink.now c.sink.now xs ys refusal first.taken h)
              ];
        }
