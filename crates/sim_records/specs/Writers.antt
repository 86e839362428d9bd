-- What a clause reads of the writer round one of std.
use Rattle.std.specs.Prelude.{Bool}
use Rattle.sim_records.specs.Answers.{failed_by, flushed_by}
use Rattle.sim_records.specs.declared.to_writer.ToWriter.{ToWriter}

-- the writer of std
abbrev pub inner_of : {W : Type 0} → ToWriter W → W
inner_of w = w.inner

-- whether it has failed
abbrev pub has_failed : {W : Type 0} → ToWriter W → Bool
has_failed w = failed_by w.answers

-- whether it was flushed, and has taken nothing since
abbrev pub is_flushed : {W : Type 0} → ToWriter W → Bool
is_flushed w = flushed_by w.answers
