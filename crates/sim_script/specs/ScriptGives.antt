-- What the reader of a script returns, and the parts of a record as the code takes them.
use Rattle.std.specs.Prelude.{◌≡◌, ℕ, ◌&&◌, Bool, List, [], ◌∷◌, Option, None, Result, Ok, Err, get_or, if◌then◌else◌, codes}
use Rattle.std.specs.Str.{bytes_eq}
use Rattle.sqs_message.specs.declared.calls.Call.{Call}
use Rattle.sqs_message.specs.declared.calls.Call.TheVariants.{Cancel, Start}
use Rattle.sqs_formats.specs.declared.faults.ScriptFault.{ScriptFault}
use Rattle.sqs_formats.specs.declared.home.Home.{Home}
use Rattle.sqs_formats.specs.Script.{Fields, are_empty, task_call, is_body, is_given, is_number, is_number_from, is_token, may, task_named}
use Rattle.sim_script.specs.declared.script.ScriptError.{ScriptError}
use Rattle.sim_script.specs.declared.script.ScriptError.TheVariants as errors
use Rattle.sim_script.specs.declared.records.Record.{Record}

-- an error is that of the reading, or only reports that memory ran out
abbrev pub Fails : {Y : Type 0} → ScriptError → Result Y ScriptFault → Type 0
Fails errors.Memory read = Unit {0}
Fails (errors.Fault f) read = read ≡ Err f

-- what a function returned, seen by view, is what the text says, unless memory ran out
abbrev pub Gives : {X Y : Type 0} → (X → Y) → Result X ScriptError → Result Y ScriptFault → Type 0
Gives view (Ok x) read = read ≡ Ok (view x)
Gives view (Err e) read = Fails e read

-- the fields of a record that the code holds
abbrev pub record_view : Record → Fields
record_view r =
    record {
      at = r.at.now;
      call = r.call.now;
      body = r.body.now;
      group = r.group.now;
      id = r.id.now;
      delay = r.delay.now;
      receipt = r.receipt.now;
      max = r.max.now;
      wait = r.wait.now;
      timeout = r.timeout.now;
      task = r.task.now;
    }

-- eleven fields by their places
abbrev pub fields_at : List (List ℕ) → Fields
fields_at fs =
    record {
      at = get_or fs 0 [];
      call = get_or fs 1 [];
      body = get_or fs 2 [];
      group = get_or fs 3 [];
      id = get_or fs 4 [];
      delay = get_or fs 5 [];
      receipt = get_or fs 6 [];
      max = get_or fs 7 [];
      wait = get_or fs 8 [];
      timeout = get_or fs 9 [];
      task = get_or fs 10 [];
    }

-- what a send asks of its group and id
abbrev pub is_grouped : Home → Fields → Bool
is_grouped home f = if home.is_fifo then may (is_token 128) f.group && may (is_token 128) f.id else are_empty (f.group ∷ f.id ∷ [])

-- what a send asks of its fields
abbrev pub is_send : Home → Fields → Bool
is_send home f =
    is_body f.body && may is_number f.delay && are_empty (f.receipt ∷ f.max ∷ f.wait ∷ f.timeout ∷ f.task ∷ []) && is_grouped home f

-- what a receive asks
abbrev pub is_receive : Fields → Bool
is_receive f =
    may (is_number_from 1 10) f.max && may (is_number_from 0 20) f.wait && may is_number f.timeout
    && are_empty (f.body ∷ f.group ∷ f.id ∷ f.delay ∷ f.receipt ∷ f.task ∷ [])

-- the task of a start or a cancel, if its fields are right
abbrev pub called_task : Home → Fields → Option ℕ
called_task home f =
    if is_given f.task && are_empty (f.body ∷ f.group ∷ f.id ∷ f.delay ∷ f.receipt ∷ f.max ∷ f.wait ∷ f.timeout ∷ []) then task_named home f.task else None

-- the call of a task that a record names
abbrev pub task_call_in : Home → Fields → Option Call
task_call_in home f =
    if bytes_eq f.call (codes "start") then task_call home f (λ t. Start t)
    else if bytes_eq f.call (codes "cancel") then task_call home f (λ t. Cancel t)
    else None
