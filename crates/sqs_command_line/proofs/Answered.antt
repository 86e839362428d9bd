-- What the reading of a line answers, over plain values.
use Rattle.std.proofs.Common.{Bool, Err, IfErr, List, None, Ok, Option, Result, Some, ap, codes, false, refl, subst, true, ℕ, ◌≡◌}
use Rattle.std.specs.Result.{IsErrAnd}
use Rattle.std.specs.Str.Parse.{ExplainsUnsignedError, HasUnsignedDigitsIfOk, ParsesUnsigned}
use Rattle.std.specs.declared.num.ParseIntError.{ParseIntError}
use Rattle.clap.specs.Words.{HasKind, Text, fault_of, is_simple, one_of, one_text, rows_of}
use Rattle.clap.specs.Faults.{is_simple_and_free}
use Rattle.clap.specs.declared.error.Error.{Error}
use Rattle.clap.specs.Matches.{TriesOne}
use Rattle.clap.specs.declared.parser.matches.Found.{Found}
use Rattle.clap.proofs.OnLiterals.{clap_on_literals}
use Rattle.clap.proofs.WalkLemmas.{one_text-rows}
use Rattle.sqs_command_line.specs.Lines.{IsFaultOf, IsFlag, TellsNumber}
use Rattle.sqs_command_line.specs.Programs.{program}
use Rattle.sqs_command_line.specs.declared.asked.LineFault.{LineFault}
use Rattle.sqs_command_line.specs.declared.asked.LineFault.TheVariants as faults

pub program_is_simple : is_simple program ≡ true
unfolding clap_on_literals
program_is_simple = refl

pub program_is_free : is_simple_and_free program ≡ true
unfolding clap_on_literals
program_is_free = refl

-- what the reading of a number of k bits, which has no sign, ensures
abbrev Reads : ℕ → List ℕ → Result ℕ ParseIntError → Type 0
Reads k text r = ParsesUnsigned k 10 text r × ExplainsUnsignedError 10 text r × HasUnsignedDigitsIfOk text r

-- a text that is there is read as a number of k bits, and is an error only where it is none
told_text :
    (k : ℕ) (text : Option Text) (r : Result (Option ℕ) ParseIntError)
    → (text ≡ None → r ≡ Ok None) → ((t : List ℕ) → text ≡ Some t → TriesOne (Reads k) t r)
    → TellsNumber k text r
told_text k None (Ok None) none value = refl
told_text k None (Ok (Some v)) none value = absurd (let e = none refl in cc)
told_text k None (Err e) none value = absurd (let e = none refl in cc)
told_text k (Some t) (Ok (Some v)) none value = ap (λ n. Some n) (value t refl).0.1
told_text k (Some t) (Ok None) none value = absurd (value t refl)
told_text k (Some t) (Err e) none value = λ h. (value t refl).0 h

-- what the text of an option tells
pub told_number :
    (k : ℕ) (found : Found) (id : Text) (r : Result (Option ℕ) ParseIntError)
    → (one_text found id ≡ None → r ≡ Ok None) → ((t : List ℕ) → one_text found id ≡ Some t → TriesOne (Reads k) t r)
    → TellsNumber k (one_of id (rows_of found)) r
told_number k found id r none value = subst (λ (t : Option Text). TellsNumber k t r) (one_text-rows found id) (told_text k (one_text found id) r none value)

-- whether an option without a value was given, by what `get_flag` ensures
pub flag_given :
    (found : Found) (id : Text) (flag : Bool)
    → (one_text found id ≡ None → flag ≡ false) → (one_text found id ≡ Some (codes "true") → flag ≡ true) → (one_text found id ≡ Some (codes "false") → flag ≡ false)
    → IsFlag (one_of id (rows_of found)) flag
flag_given found id flag none value other =
    subst (λ (t : Option Text). IsFlag t flag) (one_text-rows found id) (record { absent = none; given = value; left_out = other })

-- the fault that a `?` hands on is the one that the rules find
pub handed_fault : {X : Type 0} (words : List Text) (r : Result X LineFault) (e : Error) → IsErrAnd r (λ met. met ≡ faults.Words e) → HasKind (fault_of program words) e → IfErr r (IsFaultOf words)
handed_fault words (Ok x) e p k = absurd p
handed_fault words (Err met) e p k = rw p k
