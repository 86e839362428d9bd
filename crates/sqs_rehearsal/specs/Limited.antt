-- What a sink takes of rows that are looked at for counts past the limit.
use Rattle.std.specs.Prelude.{List, ◌++◌, ◌<◌, ◌≡◌, ◌≤◌, ◌⊎◌}
use Rattle.sim_clock.specs.declared.refusal.Refusal.{Refusal}
use Rattle.sim_clock.specs.declared.refusal.Refusal.TheVariants as refusals
use Rattle.sqs_message.specs.declared.row.Row.{Row}
use Rattle.sqs_model.specs.Answers.{most_count}
use Rattle.sqs_model.specs.Limits.{rows_count}
use Rattle.sqs_rehearsal.specs.declared.limited.Limited.{Limited}

module _ {K : Type 0} (took : K → List Row → K → Type 0) where
  -- the inner sink took these rows, none of which has a count past the limit
  pub record TookWithin (before : Limited K) (rows : List Row) (after : Limited K) : Type 0 where
    pub same : after.sink.ghost_name ≡ before.sink.ghost_name
    pub taken : took before.sink.now rows after.sink.now
    pub within : rows_count rows ≤ most_count

  -- the inner sink took a prefix of these rows, and a count among them is past the limit
  pub record Passed (before : K) (rows : List Row) (refusal : Refusal) (after : K) : Type 0 where
    pub limit : refusal ≡ refusals.CountLimit
    pub prefix : List Row
    pub rest : List Row
    pub rows_are : prefix ++ rest ≡ rows
    pub taken : took before prefix after
    pub past : most_count < rows_count rows

  module _ (broke : K → List Row → Refusal → K → Type 0) where
    -- the inner sink broke at these rows, or a count among them is past the limit
    pub record BrokeWithin (before : Limited K) (rows : List Row) (refusal : Refusal) (after : Limited K) : Type 0 where
      pub same : after.sink.ghost_name ≡ before.sink.ghost_name
      pub why : broke before.sink.now rows refusal after.sink.now ⊎ Passed before.sink.now rows refusal after.sink.now
