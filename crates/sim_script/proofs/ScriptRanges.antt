-- The ranges of a script's calls.
use Rattle.std.proofs.Common.{◌≡◌, ℕ, zero, ◌+◌, ◌≤◌, ◌&&◌, Bool, true, false, List, [], ◌∷◌, length, Option, Some, None, Ok, nat_le, unwrap_or, refl, arith}
use Rattle.std.specs.Prelude.{All, Contains, find, if◌then◌else◌, is_some, map}
use Rattle.std.specs.Str.{bytes_eq}
use Rattle.std.proofs.lemmas.List.Elements.{All-cons, All-nil, All-weaker}
use Rattle.std.proofs.lemmas.Bool.Decides.{nat_tests}
use Rattle.sim_clock.proofs.Booleans.{and_first, and_second}
use Rattle.csv.specs.Reading.{default_config, records, strip_bom}
use Rattle.sqs_message.specs.declared.calls.Call.{Call}
use Rattle.sqs_message.specs.declared.calls.Call.TheVariants.{Cancel, Start}
use Rattle.sqs_message.specs.declared.calls.ScriptCall.{ScriptCall}
use Rattle.sqs_formats.specs.declared.home.Home.{Home}
use Rattle.sqs_formats.specs.declared.home.HomeTask.{HomeTask}
use Rattle.sqs_formats.specs.Script.{Fields, after_header, are_empty, call_at, call_in, call_of, call_when, calls_from, change_call, digits_value, delete_call, fields_of, free_after, given, is_between, is_number_from, may, number, only_if, receive_call, script, send_call, task_call, task_number, timed, waits}
use Rattle.sim_engine.specs.Members.{Ascends}
use Rattle.sim_script.specs.Ranges.{IsCallAt, IsGroupedAt, IsScriptOf}
use Rattle.sim_script.proofs.Listing.{contains_next}
use Rattle.sqs_formats.proofs.Readings.{parts, picked, same_ok}

-- a call of a home's script: it waits for at most 20 seconds, and is one of a home of this kind with these tasks
abbrev pub IsCallOf : Home → Call → Type 0
IsCallOf home call = (waits call ≤ 20) × IsCallAt home.is_fifo (map (λ t. t.number) home.tasks) call

-- such a call, if there is one
pub record MayCall (home : Home) (o : Option Call) : Type 0 where
  pub is : (c : Call) → o ≡ Some c → IsCallOf home c

only_if_calls : (home : Home) (b : Bool) (call : Call) → (b ≡ true → IsCallOf home call) → MayCall home (only_if b call)
only_if_calls home true call h = record { is = λ c e. let same : call ≡ c = cc e in rw (← same) (h refl) }
only_if_calls home false call h = record { is = λ c e. cc e }

either_calls : (home : Home) (b : Bool) (x y : Option Call) → MayCall home x → MayCall home y → MayCall home (if b then x else y)
either_calls home true x y hx hy = hx
either_calls home false x y hx hy = hy

none_calls : (home : Home) → MayCall home None
none_calls home = record { is = λ c e. cc e }

zero_small : (b : Bool) → unwrap_or (only_if b 0) 0 ≤ 20
zero_small true = omega arith
zero_small false = omega arith

between_small : (o : Option ℕ) → is_between 0 20 o ≡ true → unwrap_or o 0 ≤ 20
between_small None e = omega arith
between_small (Some n) e = let most = and_second (nat_le 0 n) (nat_le n 20) e in grind (arith, nat_tests)

wait_small : (s : List ℕ) → may (is_number_from 0 20) s ≡ true → unwrap_or (number s) 0 ≤ 20
wait_small [] e = zero_small _
wait_small (b ∷ bs) e = between_small (number (b ∷ bs)) e

none_to_wait : 0 ≤ 20
none_to_wait = omega arith

-- a send at a standard home has no group and no id
grouped : (fifo b : Bool) (group id : List ℕ) → (if fifo then b else are_empty (group ∷ id ∷ [])) ≡ true → IsGroupedAt fifo (given group) (given id)
grouped true b group id e = tt
grouped false b [] [] e = (refl, refl)
grouped false b [] (i ∷ is) e = cc e
grouped false b (g ∷ gs) id e = cc e

send_calls : (home : Home) (f : Fields) → MayCall home (send_call home f)
send_calls home f = only_if_calls home _ _ (λ e. (none_to_wait, grouped home.is_fifo _ f.group f.id (and_second _ _ e)))

receive_calls : (home : Home) (f : Fields) → MayCall home (receive_call f)
receive_calls home f = only_if_calls home _ _ (λ e. (wait_small f.wait (and_second _ _ (and_first _ _ (and_first _ _ e))), tt))

delete_calls : (home : Home) (f : Fields) → MayCall home (delete_call f)
delete_calls home f = only_if_calls home _ _ (λ e. (none_to_wait, tt))

change_calls : (home : Home) (f : Fields) → MayCall home (change_call f)
change_calls home f = only_if_calls home _ _ (λ e. (none_to_wait, tt))

-- a task that is found is one of them
found_by : (p : HomeTask → Bool) (b : Bool) (t : HomeTask) (ts : List HomeTask) → p t ≡ b
    → (is_some (task_number (find p ts)) ≡ true → Contains (map (λ t. t.number) ts) (unwrap_or (task_number (find p ts)) 0))
    → is_some (task_number (find p (t ∷ ts))) ≡ true → Contains (map (λ t. t.number) (t ∷ ts)) (unwrap_or (task_number (find p (t ∷ ts))) 0)
found_by p true t ts is more some = rw is (zero, omega arith, refl)
found_by p false t ts is more some = rw is (contains_next (unwrap_or (task_number (find p ts)) 0) t.number (map (λ t. t.number) ts) (more (rw is at some)))

task_found : (p : HomeTask → Bool) (ts : List HomeTask) → is_some (task_number (find p ts)) ≡ true → Contains (map (λ t. t.number) ts) (unwrap_or (task_number (find p ts)) 0)
task_found p [] some = cc some
task_found p (t ∷ ts) some = found_by p (p t) t ts refl (task_found p ts) some

-- a start or a cancel names a task of the home
start_calls : (home : Home) (f : Fields) → MayCall home (task_call home f (λ t. Start t))
start_calls home f = only_if_calls home _ _ (λ e. (none_to_wait, task_found (λ t. bytes_eq t.name f.task) home.tasks (and_second _ _ (and_first _ _ e))))

cancel_calls : (home : Home) (f : Fields) → MayCall home (task_call home f (λ t. Cancel t))
cancel_calls home f = only_if_calls home _ _ (λ e. (none_to_wait, task_found (λ t. bytes_eq t.name f.task) home.tasks (and_second _ _ (and_first _ _ e))))

call_calls : (home : Home) (f : Fields) → MayCall home (call_in home f)
call_calls home f =
    either_calls home _ _ _ (send_calls home f) (either_calls home _ _ _ (receive_calls home f) (either_calls home _ _ _ (delete_calls home f) (either_calls home _ _ _ (change_calls home f)
    (either_calls home _ _ _ (start_calls home f) (either_calls home _ _ _ (cancel_calls home f) (none_calls home))))))

timed_call : (home : Home) (at : Option ℕ) (o : Option Call) (c : ScriptCall) → MayCall home o → timed at o ≡ Some c → IsCallOf home c.call
timed_call home None o c h e = cc e
timed_call home (Some at) None c h e = cc e
timed_call home (Some at) (Some call) c h e =
    let made : ScriptCall = record { at = at; call = call } in
    let same : made ≡ c = cc e in
    rw (← same) (h.is call refl)

when_call : (home : Home) (o : Option Fields) (c : ScriptCall) → call_when home o ≡ Some c → IsCallOf home c.call
when_call home None c e = cc e
when_call home (Some f) c e = timed_call home (number f.at) (call_in home f) c (call_calls home f) e

of_call : (home : Home) (fields : List (List ℕ)) (c : ScriptCall) → call_of home fields ≡ Some c → IsCallOf home c.call
unfolding call_of
of_call home fields c e = when_call home (fields_of fields) c e

few_when : (b : Bool) (m n : ℕ) → nat_le m 4294967295 ≡ b → only_if b m ≡ Some n → n ≤ 4294967295
few_when true m n h e = let same : m ≡ n = cc e in grind (arith, nat_tests)
few_when false m n h e = cc e

-- a number that is read has at most 32 bits
few_bits : (b : Bool) (m n : ℕ) → only_if (b && nat_le m 4294967295) m ≡ Some n → n ≤ 4294967295
few_bits true m n e = few_when (nat_le m 4294967295) m n refl e
few_bits false m n e = cc e

-- the time of a call has at most 32 bits
timed_at : (s : List ℕ) (at : Option ℕ) (o : Option Call) (c : ScriptCall) → number s ≡ at → timed at o ≡ Some c → c.at ≤ 4294967295
timed_at s None o c is e = cc e
timed_at s (Some at) None c is e = cc e
timed_at s (Some at) (Some call) c is e =
    let made : ScriptCall = record { at = at; call = call } in
    let same : made ≡ c = cc e in
    rw (← same) (few_bits _ (digits_value s) at is)

when_at : (home : Home) (o : Option Fields) (c : ScriptCall) → call_when home o ≡ Some c → c.at ≤ 4294967295
when_at home None c e = cc e
when_at home (Some f) c e = timed_at f.at (number f.at) (call_in home f) c refl e

of_call_at : (home : Home) (fields : List (List ℕ)) (c : ScriptCall) → call_of home fields ≡ Some c → c.at ≤ 4294967295
unfolding call_of
of_call_at home fields c e = when_at home (fields_of fields) c e

-- a call in time
one_call : (n free : ℕ) (o : Option ScriptCall) (c : ScriptCall) → call_at n free o ≡ Ok c → (o ≡ Some c) × (free ≤ c.at)
one_call n free None c e = cc e
one_call n free (Some d) c e =
    let w = picked _ _ d c e in
    let later : free ≤ d.at = grind (arith, nat_tests, w.0) in
    rw (← w.1) (refl, later)

-- a call in time has a time of at most 32 bits, and waits for at most 20 seconds
pub call_in_range : (home : Home) (n free : ℕ) (fields : List (List ℕ)) (c : ScriptCall) → call_at n free (call_of home fields) ≡ Ok c → (c.at ≤ 4294967295) × (waits c.call ≤ 20)
call_in_range home n free fields c e = let one = (one_call n free (call_of home fields) c e).0 in (of_call_at home fields c one, (of_call home fields c one).0)

-- a list that ascends from a number does so from each before it
ascends_from : {A : Type 0} (number : A → ℕ) (low from : ℕ) (xs : List A) → low ≤ from → Ascends number from xs → Ascends number low xs
ascends_from number low from [] h a = tt
ascends_from number low from (x ∷ xs) h a = (omega (arith, a.0), a.1)

-- the calls of some records
pub rows_hold : (home : Home) (n free : ℕ) (rows : List (List (List ℕ))) (cs : List ScriptCall) → calls_from home n free rows ≡ Ok cs
    → Ascends (λ c. c.at) free cs × (length cs ≤ length rows) × All (λ c. IsCallOf home c.call) cs
rows_hold home n free [] cs e = rw (← same_ok _ _ e) (tt, omega arith, All-nil (λ (c : ScriptCall). IsCallOf home c.call))
rows_hold home n free (fields ∷ rows) cs e =
    let c = parts _ _ _ e in
    let rest = parts _ _ _ c.2 in
    let one = one_call n free (call_of home fields) c.0 c.1 in
    let below = rows_hold home (n + 1) (free_after c.0) rows rest.0 rest.1 in
    rw (← same_ok _ _ rest.2) (
      (one.1, ascends_from (λ (c : ScriptCall). c.at) (c.0.at + 1) (free_after c.0) rest.0 (omega arith) below.0),
      omega (arith, below.1),
      All-cons (λ (c : ScriptCall). IsCallOf home c.call) c.0 rest.0 (of_call home fields c.0 one.0) below.2,
    )

-- the calls of a script
header_none : (home : Home) (cs : List ScriptCall) → after_header home [] ≡ Ok cs → IsScriptOf home cs
header_none home cs e = cc e

header_holds : (home : Home) (rows : List (List (List ℕ))) (cs : List ScriptCall) → length rows ≤ 100001 → after_header home rows ≡ Ok cs → IsScriptOf home cs
header_holds home [] cs h e = header_none home cs e
header_holds home (names ∷ rows) cs h e =
    let first = parts _ _ _ e in
    let held = rows_hold home 2 0 rows cs first.2 in
    record {
      script = record { few = omega (arith, held.1); ascending = held.0; waiting = All-weaker (λ (c : ScriptCall). IsCallOf home c.call) (λ (c : ScriptCall). waits c.call ≤ 20) (λ c h. h.0) cs held.2 };
      fits = All-weaker (λ (c : ScriptCall). IsCallOf home c.call) (λ (c : ScriptCall). IsCallAt home.is_fifo (map (λ t. t.number) home.tasks) c.call) (λ c h. h.1) cs held.2;
    }

pub script_in_range : (home : Home) (text : List ℕ) (cs : List ScriptCall) → script home text ≡ Ok cs → IsScriptOf home cs
unfolding script
script_in_range home text cs e =
    let small = parts _ _ _ e in
    let few = parts _ _ _ small.2 in
    let utf8 = parts _ _ _ few.2 in
    let all : List (List (List ℕ)) = records default_config (strip_bom text) in
    let p = picked (nat_le (length all) 100001) _ all few.0 few.1 in
    let most : length all ≤ 100001 = grind (arith, nat_tests, p.0) in
    header_holds home all cs most utf8.2
