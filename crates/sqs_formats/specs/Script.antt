-- A script: the calls of its records, or what is wrong with it.
use Rattle.std.specs.Prelude.{ℕ, ◌+◌, ◌-◌, ◌*◌, ◌&&◌, nat_le, Bool, true, false, codes, if◌then◌else◌, List, [], ◌∷◌, length, fold, find, Option, Some, None, Result, Ok, Err, is_some, unwrap_or}
use Rattle.std.specs.List.{list_all}
use Rattle.std.specs.Fmt.{decimal}
use Rattle.std.specs.Str.{bytes_eq, is_utf8}
use Rattle.csv.specs.Reading.{default_config, records, strip_bom}
use Rattle.sim_clock.specs.declared.refusal.Refusal.{Refusal}
use Rattle.sim_clock.specs.declared.refusal.Refusal.TheVariants.{TooMany, BadScript}
use Rattle.sqs_message.specs.declared.calls.Call.{Call}
use Rattle.sqs_message.specs.declared.calls.Call.TheVariants.{Send, Receive, Delete, Change, Start, Cancel}
use Rattle.sqs_message.specs.declared.calls.ScriptCall.{ScriptCall}
use Rattle.sqs_formats.specs.declared.faults.ScriptFault.{ScriptFault}
use Rattle.sqs_formats.specs.declared.home.Home.{Home}
use Rattle.sqs_formats.specs.declared.home.HomeTask.{HomeTask}
use Rattle.sqs_formats.specs.Reading.{needs, ◌>>=◌}
use Rattle.sqs_formats.specs.Names.{has_length}

-- something, if a test holds
abbrev pub only_if : {X : Type 0} → Bool → X → Option X
only_if true x = Some x
only_if false x = None

-- a number is written in decimal without leading zeros
abbrev pub digits_value : List ℕ → ℕ
digits_value s = fold (λ n b. 10 * n + (b - 48)) 0 s

-- a number of at most 32 bits
abbrev pub number : List ℕ → Option ℕ
number s = let n = digits_value s in only_if (bytes_eq (decimal n) s && nat_le n 4294967295) n

-- tests of a field that is not empty
abbrev pub is_number : List ℕ → Bool
is_number s = is_some (number s)

-- whether a number is from the one to the other
abbrev pub is_between : ℕ → ℕ → Option ℕ → Bool
is_between low high None = false
is_between low high (Some n) = nat_le low n && nat_le n high

-- whether a field is a number between two
abbrev pub is_number_from : ℕ → ℕ → List ℕ → Bool
is_number_from low high s = is_between low high (number s)

-- whether a field is a body
abbrev pub is_body : List ℕ → Bool
is_body s = has_length 1 1024 s

-- whether a byte is printed ASCII and no space
abbrev pub is_printed : ℕ → Bool
is_printed b = nat_le 33 b && nat_le b 126

-- whether a field is an id, a group or a receipt
abbrev pub is_token : ℕ → List ℕ → Bool
is_token most s = has_length 1 most s && list_all is_printed s

-- a field that may be empty, and one that has to be
abbrev pub may : (List ℕ → Bool) → List ℕ → Bool
may test [] = true
may test (b ∷ bs) = test (b ∷ bs)

-- whether fields are empty
abbrev pub are_empty : List (List ℕ) → Bool
are_empty fields = list_all (may (λ s. false)) fields

-- what an empty field says
abbrev pub given : List ℕ → Option (List ℕ)
given [] = None
given (b ∷ bs) = Some (b ∷ bs)

-- whether a field is not empty
abbrev pub is_given : List ℕ → Bool
is_given s = is_some (given s)

-- the tasks of the home, by their names
abbrev pub task_number : Option HomeTask → Option ℕ
task_number None = None
task_number (Some t) = Some t.number

-- the number of the task of a name
abbrev pub task_named : Home → List ℕ → Option ℕ
task_named home s = task_number (find (λ t. bytes_eq t.name s) home.tasks)

-- the fields of a record
pub record Fields : Type 0 where
  pub at : List ℕ
  pub call : List ℕ
  pub body : List ℕ
  pub group : List ℕ
  pub id : List ℕ
  pub delay : List ℕ
  pub receipt : List ℕ
  pub max : List ℕ
  pub wait : List ℕ
  pub timeout : List ℕ
  pub task : List ℕ

-- the fields of a record of eleven
abbrev pub fields_of : List (List ℕ) → Option Fields
fields_of (at ∷ call ∷ body ∷ group ∷ id ∷ delay ∷ receipt ∷ max ∷ wait ∷ timeout ∷ task ∷ []) =
    Some (record { at = at; call = call; body = body; group = group; id = id; delay = delay; receipt = receipt; max = max; wait = wait; timeout = timeout; task = task })
fields_of _ = None

-- the first record
abbrev pub header : List (List ℕ)
header =
    codes "at" ∷ codes "call" ∷ codes "body" ∷ codes "group" ∷ codes "id" ∷ codes "delay" ∷ codes "receipt" ∷ codes "max" ∷ codes "wait"
    ∷ codes "timeout" ∷ codes "task" ∷ []

-- the calls: what each needs and may have; other fields are empty
abbrev pub send_call : Home → Fields → Option Call
send_call home f =
    only_if (is_body f.body && may is_number f.delay && are_empty (f.receipt ∷ f.max ∷ f.wait ∷ f.timeout ∷ f.task ∷ [])
    && (if home.is_fifo then may (is_token 128) f.group && may (is_token 128) f.id else are_empty (f.group ∷ f.id ∷ [])))
    (Send f.body (number f.delay) (given f.group) (given f.id))

-- a receive
abbrev pub receive_call : Fields → Option Call
receive_call f =
    only_if (may (is_number_from 1 10) f.max && may (is_number_from 0 20) f.wait && may is_number f.timeout
    && are_empty (f.body ∷ f.group ∷ f.id ∷ f.delay ∷ f.receipt ∷ f.task ∷ []))
    (Receive (unwrap_or (number f.max) 1) (unwrap_or (number f.wait) 0) (number f.timeout))

-- a delete
abbrev pub delete_call : Fields → Option Call
delete_call f =
    only_if (is_token 100 f.receipt && are_empty (f.body ∷ f.group ∷ f.id ∷ f.delay ∷ f.max ∷ f.wait ∷ f.timeout ∷ f.task ∷ []))
    (Delete f.receipt)

-- a change of visibility
abbrev pub change_call : Fields → Option Call
change_call f =
    only_if (is_token 100 f.receipt && is_number f.timeout && are_empty (f.body ∷ f.group ∷ f.id ∷ f.delay ∷ f.max ∷ f.wait ∷ f.task ∷ []))
    (Change f.receipt (unwrap_or (number f.timeout) 0))

-- a start or cancel
abbrev pub task_call : Home → Fields → (ℕ → Call) → Option Call
task_call home f call =
    only_if (is_given f.task && is_some (task_named home f.task) && are_empty (f.body ∷ f.group ∷ f.id ∷ f.delay ∷ f.receipt ∷ f.max ∷ f.wait ∷ f.timeout ∷ []))
    (call (unwrap_or (task_named home f.task) 0))

-- the call that a record names
abbrev pub call_in : Home → Fields → Option Call
call_in home f =
    if bytes_eq f.call (codes "send") then send_call home f
    else if bytes_eq f.call (codes "receive") then receive_call f
    else if bytes_eq f.call (codes "delete") then delete_call f
    else if bytes_eq f.call (codes "change") then change_call f
    else if bytes_eq f.call (codes "start") then task_call home f (λ t. Start t)
    else if bytes_eq f.call (codes "cancel") then task_call home f (λ t. Cancel t)
    else None

-- a call with its time
abbrev pub timed : Option ℕ → Option Call → Option ScriptCall
timed None call = None
timed (Some at) None = None
timed (Some at) (Some call) = Some (record { at = at; call = call })

-- a call of a record that has eleven fields
abbrev pub call_when : Home → Option Fields → Option ScriptCall
call_when home None = None
call_when home (Some f) = timed (number f.at) (call_in home f)

-- the call that a record states
unfoldable pub call_of : Home → List (List ℕ) → Option ScriptCall
call_of home fields = call_when home (fields_of fields)

-- the seconds that the call after this one has to wait
abbrev pub waits : Call → ℕ
waits (Send body delay group id) = 0
waits (Receive max wait timeout) = wait
waits (Delete receipt) = 0
waits (Change receipt timeout) = 0
waits (Start task) = 0
waits (Cancel task) = 0

-- the first moment that the call after this one may have
abbrev pub free_after : ScriptCall → ℕ
free_after c = c.at + 1000 * waits c.call + 1

-- a fault of a record
abbrev pub at_record : Refusal → ℕ → ScriptFault
at_record r n = record { refusal = r; number = Some n }

-- a fault of the whole script
abbrev pub whole : Refusal → ScriptFault
whole r = record { refusal = r; number = None }

-- the call of a record, which may not be before the moment that is free
abbrev pub call_at : ℕ → ℕ → Option ScriptCall → Result ScriptCall ScriptFault
call_at n free None = Err (at_record BadScript n)
call_at n free (Some c) = needs (nat_le free c.at) (at_record BadScript n) c

-- the calls of the records from a number on, none before the moment that is free
abbrev pub calls_from : Home → ℕ → ℕ → List (List (List ℕ)) → Result (List ScriptCall) ScriptFault
calls_from home n free [] = Ok []
calls_from home n free (fields ∷ rows) = do
  call ← call_at n free (call_of home fields)
  calls ← calls_from home (n + 1) (free_after call) rows
  Ok (call ∷ calls)

-- the first record is the header
abbrev pub same_fields : List (List ℕ) → List (List ℕ) → Bool
same_fields [] [] = true
same_fields (x ∷ xs) (y ∷ ys) = bytes_eq x y && same_fields xs ys
same_fields _ _ = false

-- the calls after the header
abbrev pub after_header : Home → List (List (List ℕ)) → Result (List ScriptCall) ScriptFault
after_header home [] = Err (at_record BadScript 1)
after_header home (names ∷ rows) = do
  named ← needs (same_fields names header) (at_record BadScript 1) names
  calls_from home 2 0 rows

-- the calls of a script's records
abbrev pub calls_of : Home → List ℕ → List (List (List ℕ)) → Result (List ScriptCall) ScriptFault
calls_of home text rows = do
  few ← needs (nat_le (length rows) 100001) (whole TooMany) rows
  utf8 ← needs (is_utf8 text) (whole BadScript) text
  after_header home rows

-- the calls of a script's text
unfoldable pub script : Home → List ℕ → Result (List ScriptCall) ScriptFault
script home text = do
  small ← needs (nat_le (length text) 16777216) (whole TooMany) text
  calls_of home text (records default_config (strip_bom text))
