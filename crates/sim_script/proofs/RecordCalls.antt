-- The calls of records.
use Rattle.std.proofs.Common.{◌≡◌, ◌≢◌, ℕ, suc, ◌+◌, ◌<◌, ◌≤◌, ◌&&◌, Bool, true, false, List, [], ◌∷◌, ◌++◌, Result, Ok, length, get_or, drop, map, refl, ap, append-nil, arith}
use Rattle.std.proofs.lemmas.List.{drop_more}
use Rattle.std.proofs.Math.ListN.{drop_of_length-le}
use Rattle.std.specs.Str.{bytes_eq}
use Rattle.csv.specs.Records.{fields_of}
use Rattle.csv.specs.declared.record.ByteRecord.{ByteRecord}
use Rattle.sqs_message.specs.declared.calls.ScriptCall.{ScriptCall}
use Rattle.sqs_formats.specs.declared.faults.ScriptFault.{ScriptFault}
use Rattle.sqs_formats.specs.declared.home.Home.{Home}
use Rattle.sqs_formats.specs.Reading.{and_then}
use Rattle.sqs_formats.specs.Script.{call_at, call_of, calls_from, free_after, same_fields}
use Rattle.sqs_formats.proofs.Readings.{behind, behind_more}
use Rattle.sim_script.specs.ScriptGives.{Fails}
use Rattle.sim_script.specs.declared.script.ScriptError.{ScriptError}
use Rattle.sim_script.specs.declared.script.ScriptError.TheVariants as errors

and_false : (b : Bool) → false ≡ (b && false)
and_false true = refl
and_false false = refl

pub unlike : (xs ys : List (List ℕ)) → length xs ≢ length ys → false ≡ same_fields xs ys
unlike [] [] h = absurd (h refl)
unlike [] (y ∷ ys) h = refl
unlike (x ∷ xs) [] h = refl
unlike (x ∷ xs) (y ∷ ys) h = let no = unlike xs ys (λ e. h (ap suc e)) in rw (← no) (and_false (bytes_eq x y))

-- a row whose call is read
pub row_read : (home : Home) (rs : List ByteRecord) (i : ℕ) (r : ByteRecord) (free : ℕ) (calls : List ScriptCall) (c : ScriptCall) → i < length rs → get_or rs i r ≡ r
    → call_at (i + 2) free (call_of home (fields_of r)) ≡ Ok c
    → behind calls (calls_from home (i + 2) free (map fields_of (drop i rs))) ≡ behind (calls ++ c ∷ []) (calls_from home (i + 1 + 2) (free_after c) (map fields_of (drop (i + 1) rs)))
unfolding and_then
row_read home rs i r free calls c within here e =
    let next : i + 2 + 1 ≡ i + 1 + 2 = omega arith in
    rw (drop_more rs i r within, here, e, next) (behind_more calls c (calls_from home (i + 1 + 2) (free_after c) (map fields_of (drop (i + 1) rs))))

fails_first : {X Y : Type 0} (e : ScriptError) (part : Result X ScriptFault) (rest : X → Result Y ScriptFault) → Fails e part → Fails e (and_then part rest)
unfolding and_then
fails_first errors.Memory part rest h = tt
fails_first (errors.Fault f) part rest h = rw h refl

pub row_fails : (home : Home) (rs : List ByteRecord) (i : ℕ) (r : ByteRecord) (free : ℕ) (calls : List ScriptCall) (e : ScriptError) → i < length rs → get_or rs i r ≡ r
    → Fails e (call_at (i + 2) free (call_of home (fields_of r))) → Fails e (behind calls (calls_from home (i + 2) free (map fields_of (drop i rs))))
row_fails home rs i r free calls e within here h = rw (drop_more rs i r within, here) (fails_first e _ (λ ys. Ok (calls ++ ys)) (fails_first e _ _ h))

pub rows_end : (home : Home) (rs : List ByteRecord) (i n free : ℕ) (calls : List ScriptCall) → length rs ≤ i → behind calls (calls_from home n free (map fields_of (drop i rs))) ≡ Ok calls
unfolding and_then
rows_end home rs i n free calls h = rw (drop_of_length-le rs h) (ap Ok (append-nil calls))
