-- Prefixes of bytes.
use Rattle.std.proofs.Common.{ℕ, List, Option, arith, length}
use Rattle.std.proofs.lemmas.List.{take_all}
use Rattle.std.specs.Io.KnownBytes.{Appends}
use Rattle.sim_records.specs.Writes.{AppendsPrefix}

-- all of some bytes are a prefix of them
pub all_are_prefix : (a b : Option (List ℕ)) (xs : List ℕ) → Appends a b xs → AppendsPrefix a b xs
all_are_prefix a b xs all = (length xs, omega arith, rw (take_all (length xs) xs (omega arith)) all)
