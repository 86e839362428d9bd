-- The numbers and the names of the errors.
use Rattle.std.specs.Prelude.{ℕ, List, codes, [], ◌++◌}
use Rattle.std.specs.Fmt.{decimal}
use Rattle.sim_clock.specs.declared.refusal.Refusal.{Refusal}
use Rattle.sim_clock.specs.declared.refusal.Refusal.TheVariants as refusal

-- the number by which users know an error
abbrev pub refusal_code : Refusal → ℕ
refusal_code refusal.OverLimit = 1
refusal_code refusal.MessageNotInflight = 2
refusal_code refusal.ReceiptHandleIsInvalid = 3
refusal_code refusal.BadTimeout = 4
refusal_code refusal.MissingGroup = 5
refusal_code refusal.MissingDeduplication = 6
refusal_code refusal.BadDelay = 7
refusal_code refusal.TaskRunning = 8
refusal_code refusal.NoTask = 9
refusal_code refusal.NotToml = 10
refusal_code refusal.UnknownKey = 11
refusal_code refusal.MissingKey = 12
refusal_code refusal.WrongType = 13
refusal_code refusal.OutOfRange = 14
refusal_code refusal.BadName = 15
refusal_code refusal.NameTwice = 16
refusal_code refusal.UnknownQueue = 17
refusal_code refusal.KindMismatch = 18
refusal_code refusal.TooMany = 19
refusal_code refusal.BadScript = 20
refusal_code (refusal.WindowTooLong window least) = 30
refusal_code refusal.BadMap = 31
refusal_code refusal.BadWorkers = 32
refusal_code refusal.CountLimit = 33
refusal_code refusal.Memory = 34
refusal_code refusal.NoWorker = 35
refusal_code refusal.Write = 36

-- the name that the log and faults give it
abbrev pub refusal_name : Refusal → List ℕ
refusal_name refusal.OverLimit = codes "OverLimit"
refusal_name refusal.MessageNotInflight = codes "MessageNotInflight"
refusal_name refusal.ReceiptHandleIsInvalid = codes "ReceiptHandleIsInvalid"
refusal_name refusal.BadTimeout = codes "BadTimeout"
refusal_name refusal.MissingGroup = codes "MissingGroup"
refusal_name refusal.MissingDeduplication = codes "MissingDeduplication"
refusal_name refusal.BadDelay = codes "BadDelay"
refusal_name refusal.TaskRunning = codes "TaskRunning"
refusal_name refusal.NoTask = codes "NoTask"
refusal_name refusal.NotToml = codes "NotToml"
refusal_name refusal.UnknownKey = codes "UnknownKey"
refusal_name refusal.MissingKey = codes "MissingKey"
refusal_name refusal.WrongType = codes "WrongType"
refusal_name refusal.OutOfRange = codes "OutOfRange"
refusal_name refusal.BadName = codes "BadName"
refusal_name refusal.NameTwice = codes "NameTwice"
refusal_name refusal.UnknownQueue = codes "UnknownQueue"
refusal_name refusal.KindMismatch = codes "KindMismatch"
refusal_name refusal.TooMany = codes "TooMany"
refusal_name refusal.BadScript = codes "BadScript"
refusal_name (refusal.WindowTooLong window least) = codes "WindowTooLong"
refusal_name refusal.BadMap = codes "BadMap"
refusal_name refusal.BadWorkers = codes "BadWorkers"
refusal_name refusal.CountLimit = codes "CountLimit"
refusal_name refusal.Memory = codes "Memory"
refusal_name refusal.NoWorker = codes "NoWorker"
refusal_name refusal.Write = codes "Write"

-- the values of an error that has any, each after a space
abbrev pub refusal_values : Refusal → List ℕ
refusal_values (refusal.WindowTooLong window least) = codes " " ++ decimal window ++ codes " " ++ decimal least
refusal_values _ = []

-- what it is displayed as: its name and its values
abbrev pub displayed : Refusal → List ℕ
displayed r = refusal_name r ++ refusal_values r
