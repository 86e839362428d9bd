-- What each script that was read keeps to.
use Rattle.std.specs.Prelude.{All, Bool, Contains, List, None, Option, false, length, map, true, ℕ, ◌≡◌, ◌≤◌}
use Rattle.sim_engine.specs.Members.{Ascends}
use Rattle.sqs_message.specs.declared.calls.Call.{Call}
use Rattle.sqs_message.specs.declared.calls.Call.TheVariants.{Cancel, Change, Delete, Receive, Send, Start}
use Rattle.sqs_message.specs.declared.calls.ScriptCall.{ScriptCall}
use Rattle.sqs_formats.specs.declared.home.Home.{Home}
use Rattle.sqs_formats.specs.Script.{waits}

-- at most 100,000 calls, each later than the one before it; a receive waits for at most 20 seconds
pub record IsScript (calls : List ScriptCall) : Type 0 where
  pub few : length calls ≤ 100000
  pub ascending : Ascends (λ c. c.at) 0 calls
  pub waiting : All (λ c. waits c.call ≤ 20) calls

-- a send at a standard home has no group and no id
abbrev pub IsGroupedAt : Bool → Option (List ℕ) → Option (List ℕ) → Type 0
IsGroupedAt true group id = Unit {0}
IsGroupedAt false group id = (group ≡ None) × (id ≡ None)

-- a call at a home of a kind, which names no move task but those of the home
abbrev pub IsCallAt : Bool → List ℕ → Call → Type 0
IsCallAt fifo tasks (Send body delay group id) = IsGroupedAt fifo group id
IsCallAt fifo tasks (Receive max wait timeout) = Unit {0}
IsCallAt fifo tasks (Delete receipt) = Unit {0}
IsCallAt fifo tasks (Change receipt timeout) = Unit {0}
IsCallAt fifo tasks (Start task) = Contains tasks task
IsCallAt fifo tasks (Cancel task) = Contains tasks task

-- a script in range, whose calls fit the home
pub record IsScriptOf (home : Home) (calls : List ScriptCall) : Type 0 where
  pub script : IsScript calls
  pub fits : All (λ c. IsCallAt home.is_fifo (map (λ t. t.number) home.tasks) c.call) calls
