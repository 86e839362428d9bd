-- The running counts of one queue.
use Rattle.std.specs.Prelude.{ℕ, ◌+◌, ◌-◌, max, List, map, set, get_or, Option, Some, None, [], sum, ◌∷◌}
use Rattle.sqs_message.specs.declared.row.Row.{Row}
use Rattle.sim_report.specs.declared.column.RowCount.{RowCount}
use Rattle.sim_report.specs.declared.left.Left.{Left}
use Rattle.sim_report.specs.Figures.{rank_in}
use Rattle.sqs_formats.specs.Report.{age_when, ages, ascending, column, count, counted_columns, depth_max, is_column, numbers, put}

-- how many rows each counting column has, how many messages there were at once at most, and the
-- ages at which messages were deleted, in ascending order
pub record TallyState : Type 0 where
  pub counts : List ℕ
  pub depth_max : ℕ
  pub ages : List ℕ

-- the running counts after these rows of the queue
abbrev pub tally_of : List Row → TallyState
tally_of rows =
    record { counts = map (λ n. count n rows) (numbers 0 counted_columns); depth_max = depth_max rows; ages = ascending (ages rows) }

-- the counts with one more row in a column, if the row has one of these columns
abbrev pub counted : Option ℕ → List ℕ → List ℕ
counted None counts = counts
counted (Some c) counts = set counts c (get_or counts c 0 + 1)

-- how many messages came in by these counts, less those that went out
abbrev pub depth_by : List ℕ → ℕ
depth_by counts =
    get_or counts 0 0 + get_or counts 8 0 - (get_or counts 4 0 + get_or counts 5 0 + get_or counts 6 0 + get_or counts 7 0)

-- the age at which a row in this column deleted a message
abbrev pub age_in : Option ℕ → Row → Option ℕ
age_in c row = age_when (is_column 4 c) row.detail

-- the ages in ascending order with one more in its place, if there is one
abbrev pub with_age : Option ℕ → List ℕ → List ℕ
with_age None ages = ages
with_age (Some age) ages = put age ages

-- what a row counts, whose column is known
abbrev pub count_in : Option ℕ → Row → RowCount
count_in c row = record { age = age_in c row; queue = row.queue; column = c }

-- what a row counts
abbrev pub count_of : Row → RowCount
count_of row = count_in (column row.kind row.answer) row

-- the running counts with what one more row counts
abbrev pub tallied_by : RowCount → TallyState → TallyState
tallied_by n t =
    record {
      counts = counted n.column t.counts;
      depth_max = max t.depth_max (depth_by (counted n.column t.counts));
      ages = with_age n.age t.ages;
    }

-- the running counts with a row whose column is known
abbrev pub tallied_in : Option ℕ → Row → TallyState → TallyState
tallied_in c row t = tallied_by (count_in c row) t

-- the running counts with one more row
abbrev pub tallied : Row → TallyState → TallyState
tallied row t = tallied_by (count_of row) t

-- the columns that count no rows: by the greatest depth, what is left, and the ages at deletion
abbrev pub others_by : ℕ → Left → List ℕ → List (Option ℕ)
others_by depth_max l ages =
    Some depth_max ∷ Some l.visible ∷ Some l.in_flight ∷ Some l.delayed ∷ Some (sum ages)
    ∷ rank_in 100 ages ∷ rank_in 50 ages ∷ rank_in 95 ages ∷ rank_in 99 ages ∷ []
