-- Scenarios with their right output, computed over the definitions. Made by tools/compute_cases.py.
use Rattle.std.proofs.Common.{◌≡◌, ℕ, true, List, [], ◌∷◌, ◌++◌, codes, refl}
use Rattle.sqs_formats.specs.Report.{columns_of}
use Rattle.sqs_formats.proofs.OnLiterals.{reading_on_literals}
use Rattle.sqs_examples.proofs.Shown.{running_on_literals, digest, ran, refused, shown}

-- by-hand/expiry_before_release.toml
case_0_expiry_before_release : shown 3 [] (codes "version = 1\nhorizon = 100000\n[[queue]]\nname = \"q\"\nretention_s = 60\n[[actor]]\nname = \"s\"\nkind = \"script\"\nqueue = \"q\"\ncalls = \"\"\"\nat,call,body,group,id,delay,receipt,max,wait,timeout,task\n0,send,abc,,,,,,,,\n\"\"\"\n[[actor]]\nname = \"t\"\nkind = \"script\"\nqueue = \"q\"\ncalls = \"\"\"\nat,call,body,group,id,delay,receipt,max,wait,timeout,task\n0,receive,,,,,,,,60,\n\"\"\"\n")
    ≡ ran (((codes "at") ∷ (codes "queue") ∷ (codes "agent") ∷ (codes "call") ∷ (codes "answer") ∷ (codes "message") ∷ (codes "receipt") ∷ (codes "detail") ∷ []) ∷
    ((codes "0") ∷ (codes "q") ∷ (codes "s") ∷ (codes "send") ∷ (codes "new") ∷ (codes "m-0-0") ∷ [] ∷ digest (codes "abc") ∷ []) ∷
    ((codes "0") ∷ (codes "q") ∷ (codes "t") ∷ (codes "receive") ∷ (codes "ok") ∷ (codes "m-0-0") ∷ (codes "r-0-0-1") ∷ (codes "o-0-0") ∷ []) ∷
    ((codes "60000") ∷ (codes "q") ∷ (codes "q") ∷ (codes "expire") ∷ (codes "expired") ∷ (codes "m-0-0") ∷ [] ∷ (codes "60000") ∷ []) ∷
    ((codes "final") ∷ (codes "queue") ∷ (codes "message") ∷ (codes "origin") ∷ (codes "place") ∷ (codes "due") ∷ (codes "enqueued") ∷ (codes "receives") ∷ (codes "group") ∷ (codes "md5") ∷ []) ∷
    ((codes "transfer") ∷ (codes "from") ∷ (codes "to") ∷ (codes "kind") ∷ (codes "due") ∷ (codes "number") ∷ (codes "message") ∷ (codes "origin") ∷ (codes "md5") ∷ []) ∷
    ((codes "task") ∷ (codes "name") ∷ (codes "status") ∷ (codes "moved") ∷ []) ∷
    ((codes "report") ∷ (codes "queue") ∷ (codes "sends") ∷ (codes "repeats") ∷ (codes "receives") ∷ (codes "empties") ∷ (codes "deletes") ∷ (codes "expiries") ∷ (codes "redrives") ∷ (codes "moves") ∷ (codes "arrivals") ∷ (codes "OverLimit") ∷ (codes "MessageNotInflight") ∷ (codes "ReceiptHandleIsInvalid") ∷ (codes "BadTimeout") ∷ (codes "MissingGroup") ∷ (codes "MissingDeduplication") ∷ (codes "BadDelay") ∷ (codes "TaskRunning") ∷ (codes "NoTask") ∷ (codes "depth_max") ∷ (codes "visible") ∷ (codes "in_flight") ∷ (codes "delayed") ∷ (codes "age_sum") ∷ (codes "age_max") ∷ (codes "age_p50") ∷ (codes "age_p95") ∷ (codes "age_p99") ∷ []) ∷
    ((codes "report") ∷ (codes "q") ∷ (codes "1") ∷ (codes "0") ∷ (codes "1") ∷ (codes "0") ∷ (codes "0") ∷ (codes "1") ∷ (codes "0") ∷ (codes "0") ∷ (codes "0") ∷ (codes "0") ∷ (codes "0") ∷ (codes "0") ∷ (codes "0") ∷ (codes "0") ∷ (codes "0") ∷ (codes "0") ∷ (codes "0") ∷ (codes "0") ∷ (codes "1") ∷ (codes "0") ∷ (codes "0") ∷ (codes "0") ∷ (codes "0") ∷ [] ∷ [] ∷ [] ∷ [] ∷ []) ∷ [])
unfolding reading_on_literals running_on_literals columns_of
case_0_expiry_before_release = refl

-- by-hand/expiry_in_every_place.toml
case_0_expiry_in_every_place : shown 6 [] (codes "version = 1\nhorizon = 100000\n[[queue]]\nname = \"q\"\nretention_s = 60\n[[actor]]\nname = \"s\"\nkind = \"script\"\nqueue = \"q\"\ncalls = \"\"\"\nat,call,body,group,id,delay,receipt,max,wait,timeout,task\n0,send,abc,,,,,,,,\n5,send,abc,,,900,,,,,\n10,receive,,,,,,,,43200,\n70000,delete,,,,,r-0-0-1,,,,\n\"\"\"\n")
    ≡ ran (((codes "at") ∷ (codes "queue") ∷ (codes "agent") ∷ (codes "call") ∷ (codes "answer") ∷ (codes "message") ∷ (codes "receipt") ∷ (codes "detail") ∷ []) ∷
    ((codes "0") ∷ (codes "q") ∷ (codes "s") ∷ (codes "send") ∷ (codes "new") ∷ (codes "m-0-0") ∷ [] ∷ digest (codes "abc") ∷ []) ∷
    ((codes "5") ∷ (codes "q") ∷ (codes "s") ∷ (codes "send") ∷ (codes "new") ∷ (codes "m-0-1") ∷ [] ∷ digest (codes "abc") ∷ []) ∷
    ((codes "10") ∷ (codes "q") ∷ (codes "s") ∷ (codes "receive") ∷ (codes "ok") ∷ (codes "m-0-0") ∷ (codes "r-0-0-1") ∷ (codes "o-0-0") ∷ []) ∷
    ((codes "60000") ∷ (codes "q") ∷ (codes "q") ∷ (codes "expire") ∷ (codes "expired") ∷ (codes "m-0-0") ∷ [] ∷ (codes "60000") ∷ []) ∷
    ((codes "60005") ∷ (codes "q") ∷ (codes "q") ∷ (codes "expire") ∷ (codes "expired") ∷ (codes "m-0-1") ∷ [] ∷ (codes "60000") ∷ []) ∷
    ((codes "70000") ∷ (codes "q") ∷ (codes "s") ∷ (codes "delete") ∷ (codes "gone") ∷ (codes "m-0-0") ∷ (codes "r-0-0-1") ∷ [] ∷ []) ∷
    ((codes "final") ∷ (codes "queue") ∷ (codes "message") ∷ (codes "origin") ∷ (codes "place") ∷ (codes "due") ∷ (codes "enqueued") ∷ (codes "receives") ∷ (codes "group") ∷ (codes "md5") ∷ []) ∷
    ((codes "transfer") ∷ (codes "from") ∷ (codes "to") ∷ (codes "kind") ∷ (codes "due") ∷ (codes "number") ∷ (codes "message") ∷ (codes "origin") ∷ (codes "md5") ∷ []) ∷
    ((codes "task") ∷ (codes "name") ∷ (codes "status") ∷ (codes "moved") ∷ []) ∷
    ((codes "report") ∷ (codes "queue") ∷ (codes "sends") ∷ (codes "repeats") ∷ (codes "receives") ∷ (codes "empties") ∷ (codes "deletes") ∷ (codes "expiries") ∷ (codes "redrives") ∷ (codes "moves") ∷ (codes "arrivals") ∷ (codes "OverLimit") ∷ (codes "MessageNotInflight") ∷ (codes "ReceiptHandleIsInvalid") ∷ (codes "BadTimeout") ∷ (codes "MissingGroup") ∷ (codes "MissingDeduplication") ∷ (codes "BadDelay") ∷ (codes "TaskRunning") ∷ (codes "NoTask") ∷ (codes "depth_max") ∷ (codes "visible") ∷ (codes "in_flight") ∷ (codes "delayed") ∷ (codes "age_sum") ∷ (codes "age_max") ∷ (codes "age_p50") ∷ (codes "age_p95") ∷ (codes "age_p99") ∷ []) ∷
    ((codes "report") ∷ (codes "q") ∷ (codes "2") ∷ (codes "0") ∷ (codes "1") ∷ (codes "0") ∷ (codes "0") ∷ (codes "2") ∷ (codes "0") ∷ (codes "0") ∷ (codes "0") ∷ (codes "0") ∷ (codes "0") ∷ (codes "0") ∷ (codes "0") ∷ (codes "0") ∷ (codes "0") ∷ (codes "0") ∷ (codes "0") ∷ (codes "0") ∷ (codes "2") ∷ (codes "0") ∷ (codes "0") ∷ (codes "0") ∷ (codes "0") ∷ [] ∷ [] ∷ [] ∷ [] ∷ []) ∷ [])
unfolding reading_on_literals running_on_literals columns_of
case_0_expiry_in_every_place = refl

-- by-hand/failed_service.toml
case_0_failed_service : shown 4 [] (codes "version = 1\nhorizon = 1000\n[[queue]]\nname = \"q\"\n[[actor]]\nname = \"s\"\nkind = \"script\"\nqueue = \"q\"\ncalls = \"\"\"\nat,call,body,group,id,delay,receipt,max,wait,timeout,task\n0,send,abc,,,,,,,,\n\"\"\"\n[[actor]]\nname = \"c\"\nkind = \"consumer\"\nqueue = \"q\"\nstart_ms = 100\nservice_min_ms = 50\nservice_max_ms = 50\nfail_permille = 1000\nidle_ms = 86400000\n")
    ≡ ran (((codes "at") ∷ (codes "queue") ∷ (codes "agent") ∷ (codes "call") ∷ (codes "answer") ∷ (codes "message") ∷ (codes "receipt") ∷ (codes "detail") ∷ []) ∷
    ((codes "0") ∷ (codes "q") ∷ (codes "s") ∷ (codes "send") ∷ (codes "new") ∷ (codes "m-0-0") ∷ [] ∷ digest (codes "abc") ∷ []) ∷
    ((codes "100") ∷ (codes "q") ∷ (codes "c") ∷ (codes "receive") ∷ (codes "ok") ∷ (codes "m-0-0") ∷ (codes "r-0-0-1") ∷ (codes "o-0-0") ∷ []) ∷
    ((codes "150") ∷ (codes "q") ∷ (codes "c") ∷ (codes "fail") ∷ (codes "ok") ∷ (codes "m-0-0") ∷ (codes "r-0-0-1") ∷ [] ∷ []) ∷
    ((codes "151") ∷ (codes "q") ∷ (codes "c") ∷ (codes "receive") ∷ (codes "empty") ∷ [] ∷ [] ∷ [] ∷ []) ∷
    ((codes "final") ∷ (codes "queue") ∷ (codes "message") ∷ (codes "origin") ∷ (codes "place") ∷ (codes "due") ∷ (codes "enqueued") ∷ (codes "receives") ∷ (codes "group") ∷ (codes "md5") ∷ []) ∷
    ((codes "final") ∷ (codes "q") ∷ (codes "m-0-0") ∷ (codes "o-0-0") ∷ (codes "inflight") ∷ (codes "30100") ∷ (codes "0") ∷ (codes "1") ∷ [] ∷ digest (codes "abc") ∷ []) ∷
    ((codes "transfer") ∷ (codes "from") ∷ (codes "to") ∷ (codes "kind") ∷ (codes "due") ∷ (codes "number") ∷ (codes "message") ∷ (codes "origin") ∷ (codes "md5") ∷ []) ∷
    ((codes "task") ∷ (codes "name") ∷ (codes "status") ∷ (codes "moved") ∷ []) ∷
    ((codes "report") ∷ (codes "queue") ∷ (codes "sends") ∷ (codes "repeats") ∷ (codes "receives") ∷ (codes "empties") ∷ (codes "deletes") ∷ (codes "expiries") ∷ (codes "redrives") ∷ (codes "moves") ∷ (codes "arrivals") ∷ (codes "OverLimit") ∷ (codes "MessageNotInflight") ∷ (codes "ReceiptHandleIsInvalid") ∷ (codes "BadTimeout") ∷ (codes "MissingGroup") ∷ (codes "MissingDeduplication") ∷ (codes "BadDelay") ∷ (codes "TaskRunning") ∷ (codes "NoTask") ∷ (codes "depth_max") ∷ (codes "visible") ∷ (codes "in_flight") ∷ (codes "delayed") ∷ (codes "age_sum") ∷ (codes "age_max") ∷ (codes "age_p50") ∷ (codes "age_p95") ∷ (codes "age_p99") ∷ []) ∷
    ((codes "report") ∷ (codes "q") ∷ (codes "1") ∷ (codes "0") ∷ (codes "1") ∷ (codes "1") ∷ (codes "0") ∷ (codes "0") ∷ (codes "0") ∷ (codes "0") ∷ (codes "0") ∷ (codes "0") ∷ (codes "0") ∷ (codes "0") ∷ (codes "0") ∷ (codes "0") ∷ (codes "0") ∷ (codes "0") ∷ (codes "0") ∷ (codes "0") ∷ (codes "1") ∷ (codes "0") ∷ (codes "1") ∷ (codes "0") ∷ (codes "0") ∷ [] ∷ [] ∷ [] ∷ [] ∷ []) ∷ [])
unfolding reading_on_literals running_on_literals columns_of
case_0_failed_service = refl

-- by-hand/fifo_forward_is_delayed.toml
case_0_fifo_forward_is_delayed : shown 7 [] (codes "version = 1\nhorizon = 2000\n[[queue]]\nname = \"a.fifo\"\n[[queue]]\nname = \"b.fifo\"\ndelay_s = 1\n[[actor]]\nname = \"s\"\nkind = \"script\"\nqueue = \"a.fifo\"\ncalls = \"\"\"\nat,call,body,group,id,delay,receipt,max,wait,timeout,task\n0,send,abc,g,x,,,,,,\n\"\"\"\n[[actor]]\nname = \"c\"\nkind = \"consumer\"\nqueue = \"a.fifo\"\nstart_ms = 100\nservice_min_ms = 50\nservice_max_ms = 50\nidle_ms = 86400000\nforward = \"b.fifo\"\nlatency_ms = 10\n")
    ≡ ran (((codes "at") ∷ (codes "queue") ∷ (codes "agent") ∷ (codes "call") ∷ (codes "answer") ∷ (codes "message") ∷ (codes "receipt") ∷ (codes "detail") ∷ []) ∷
    ((codes "0") ∷ (codes "a.fifo") ∷ (codes "s") ∷ (codes "send") ∷ (codes "new") ∷ (codes "m-0-0") ∷ [] ∷ digest (codes "abc") ∷ []) ∷
    ((codes "100") ∷ (codes "a.fifo") ∷ (codes "c") ∷ (codes "receive") ∷ (codes "ok") ∷ (codes "m-0-0") ∷ (codes "r-0-0-1") ∷ (codes "o-0-0") ∷ []) ∷
    ((codes "150") ∷ (codes "a.fifo") ∷ (codes "c") ∷ (codes "forward") ∷ (codes "out") ∷ (codes "m-0-0") ∷ [] ∷ (codes "b.fifo") ∷ []) ∷
    ((codes "150") ∷ (codes "a.fifo") ∷ (codes "c") ∷ (codes "delete") ∷ (codes "deleted") ∷ (codes "m-0-0") ∷ (codes "r-0-0-1") ∷ (codes "150") ∷ []) ∷
    ((codes "151") ∷ (codes "a.fifo") ∷ (codes "c") ∷ (codes "receive") ∷ (codes "empty") ∷ [] ∷ [] ∷ [] ∷ []) ∷
    ((codes "160") ∷ (codes "b.fifo") ∷ (codes "c") ∷ (codes "arrive") ∷ (codes "new") ∷ (codes "m-1-0") ∷ [] ∷ (codes "o-1-0") ∷ []) ∷
    ((codes "1160") ∷ (codes "b.fifo") ∷ (codes "b.fifo") ∷ (codes "release") ∷ (codes "visible") ∷ (codes "m-1-0") ∷ [] ∷ [] ∷ []) ∷
    ((codes "final") ∷ (codes "queue") ∷ (codes "message") ∷ (codes "origin") ∷ (codes "place") ∷ (codes "due") ∷ (codes "enqueued") ∷ (codes "receives") ∷ (codes "group") ∷ (codes "md5") ∷ []) ∷
    ((codes "final") ∷ (codes "b.fifo") ∷ (codes "m-1-0") ∷ (codes "o-1-0") ∷ (codes "visible") ∷ [] ∷ (codes "160") ∷ (codes "0") ∷ (codes "g") ∷ digest (codes "abc") ∷ []) ∷
    ((codes "transfer") ∷ (codes "from") ∷ (codes "to") ∷ (codes "kind") ∷ (codes "due") ∷ (codes "number") ∷ (codes "message") ∷ (codes "origin") ∷ (codes "md5") ∷ []) ∷
    ((codes "task") ∷ (codes "name") ∷ (codes "status") ∷ (codes "moved") ∷ []) ∷
    ((codes "report") ∷ (codes "queue") ∷ (codes "sends") ∷ (codes "repeats") ∷ (codes "receives") ∷ (codes "empties") ∷ (codes "deletes") ∷ (codes "expiries") ∷ (codes "redrives") ∷ (codes "moves") ∷ (codes "arrivals") ∷ (codes "OverLimit") ∷ (codes "MessageNotInflight") ∷ (codes "ReceiptHandleIsInvalid") ∷ (codes "BadTimeout") ∷ (codes "MissingGroup") ∷ (codes "MissingDeduplication") ∷ (codes "BadDelay") ∷ (codes "TaskRunning") ∷ (codes "NoTask") ∷ (codes "depth_max") ∷ (codes "visible") ∷ (codes "in_flight") ∷ (codes "delayed") ∷ (codes "age_sum") ∷ (codes "age_max") ∷ (codes "age_p50") ∷ (codes "age_p95") ∷ (codes "age_p99") ∷ []) ∷
    ((codes "report") ∷ (codes "a.fifo") ∷ (codes "1") ∷ (codes "0") ∷ (codes "1") ∷ (codes "1") ∷ (codes "1") ∷ (codes "0") ∷ (codes "0") ∷ (codes "0") ∷ (codes "0") ∷ (codes "0") ∷ (codes "0") ∷ (codes "0") ∷ (codes "0") ∷ (codes "0") ∷ (codes "0") ∷ (codes "0") ∷ (codes "0") ∷ (codes "0") ∷ (codes "1") ∷ (codes "0") ∷ (codes "0") ∷ (codes "0") ∷ (codes "150") ∷ (codes "150") ∷ (codes "150") ∷ (codes "150") ∷ (codes "150") ∷ []) ∷
    ((codes "report") ∷ (codes "b.fifo") ∷ (codes "0") ∷ (codes "0") ∷ (codes "0") ∷ (codes "0") ∷ (codes "0") ∷ (codes "0") ∷ (codes "0") ∷ (codes "0") ∷ (codes "1") ∷ (codes "0") ∷ (codes "0") ∷ (codes "0") ∷ (codes "0") ∷ (codes "0") ∷ (codes "0") ∷ (codes "0") ∷ (codes "0") ∷ (codes "0") ∷ (codes "1") ∷ (codes "1") ∷ (codes "0") ∷ (codes "0") ∷ (codes "0") ∷ [] ∷ [] ∷ [] ∷ [] ∷ []) ∷ [])
unfolding reading_on_literals running_on_literals columns_of
case_0_fifo_forward_is_delayed = refl

-- by-hand/fifo_poll_takes_one_group.toml
case_0_fifo_poll_takes_one_group : shown 8 [] (codes "version = 1\nhorizon = 2000\n[[queue]]\nname = \"f.fifo\"\nvisibility_s = 1\n[[actor]]\nname = \"a\"\nkind = \"script\"\nqueue = \"f.fifo\"\ncalls = \"\"\"\nat,call,body,group,id,delay,receipt,max,wait,timeout,task\n100,receive,,,,,,,1,,\n\"\"\"\n[[actor]]\nname = \"b\"\nkind = \"script\"\nqueue = \"f.fifo\"\ncalls = \"\"\"\nat,call,body,group,id,delay,receipt,max,wait,timeout,task\n200,receive,,,,,,,5,,\n\"\"\"\n[[actor]]\nname = \"s\"\nkind = \"script\"\nqueue = \"f.fifo\"\ncalls = \"\"\"\nat,call,body,group,id,delay,receipt,max,wait,timeout,task\n300,send,abc,g,x,,,,,,\n400,send,abc,g,y,,,,,,\n500,delete,,,,,r-0-0-1,,,,\n\"\"\"\n")
    ≡ ran (((codes "at") ∷ (codes "queue") ∷ (codes "agent") ∷ (codes "call") ∷ (codes "answer") ∷ (codes "message") ∷ (codes "receipt") ∷ (codes "detail") ∷ []) ∷
    ((codes "100") ∷ (codes "f.fifo") ∷ (codes "a") ∷ (codes "receive") ∷ (codes "wait") ∷ [] ∷ [] ∷ [] ∷ []) ∷
    ((codes "200") ∷ (codes "f.fifo") ∷ (codes "b") ∷ (codes "receive") ∷ (codes "wait") ∷ [] ∷ [] ∷ [] ∷ []) ∷
    ((codes "300") ∷ (codes "f.fifo") ∷ (codes "s") ∷ (codes "send") ∷ (codes "new") ∷ (codes "m-0-0") ∷ [] ∷ digest (codes "abc") ∷ []) ∷
    ((codes "300") ∷ (codes "f.fifo") ∷ (codes "a") ∷ (codes "receive") ∷ (codes "ok") ∷ (codes "m-0-0") ∷ (codes "r-0-0-1") ∷ (codes "o-0-0") ∷ []) ∷
    ((codes "400") ∷ (codes "f.fifo") ∷ (codes "s") ∷ (codes "send") ∷ (codes "new") ∷ (codes "m-0-1") ∷ [] ∷ digest (codes "abc") ∷ []) ∷
    ((codes "500") ∷ (codes "f.fifo") ∷ (codes "s") ∷ (codes "delete") ∷ (codes "deleted") ∷ (codes "m-0-0") ∷ (codes "r-0-0-1") ∷ (codes "200") ∷ []) ∷
    ((codes "500") ∷ (codes "f.fifo") ∷ (codes "b") ∷ (codes "receive") ∷ (codes "ok") ∷ (codes "m-0-1") ∷ (codes "r-0-1-1") ∷ (codes "o-0-1") ∷ []) ∷
    ((codes "1500") ∷ (codes "f.fifo") ∷ (codes "f.fifo") ∷ (codes "release") ∷ (codes "visible") ∷ (codes "m-0-1") ∷ [] ∷ [] ∷ []) ∷
    ((codes "final") ∷ (codes "queue") ∷ (codes "message") ∷ (codes "origin") ∷ (codes "place") ∷ (codes "due") ∷ (codes "enqueued") ∷ (codes "receives") ∷ (codes "group") ∷ (codes "md5") ∷ []) ∷
    ((codes "final") ∷ (codes "f.fifo") ∷ (codes "m-0-1") ∷ (codes "o-0-1") ∷ (codes "visible") ∷ [] ∷ (codes "400") ∷ (codes "1") ∷ (codes "g") ∷ digest (codes "abc") ∷ []) ∷
    ((codes "transfer") ∷ (codes "from") ∷ (codes "to") ∷ (codes "kind") ∷ (codes "due") ∷ (codes "number") ∷ (codes "message") ∷ (codes "origin") ∷ (codes "md5") ∷ []) ∷
    ((codes "task") ∷ (codes "name") ∷ (codes "status") ∷ (codes "moved") ∷ []) ∷
    ((codes "report") ∷ (codes "queue") ∷ (codes "sends") ∷ (codes "repeats") ∷ (codes "receives") ∷ (codes "empties") ∷ (codes "deletes") ∷ (codes "expiries") ∷ (codes "redrives") ∷ (codes "moves") ∷ (codes "arrivals") ∷ (codes "OverLimit") ∷ (codes "MessageNotInflight") ∷ (codes "ReceiptHandleIsInvalid") ∷ (codes "BadTimeout") ∷ (codes "MissingGroup") ∷ (codes "MissingDeduplication") ∷ (codes "BadDelay") ∷ (codes "TaskRunning") ∷ (codes "NoTask") ∷ (codes "depth_max") ∷ (codes "visible") ∷ (codes "in_flight") ∷ (codes "delayed") ∷ (codes "age_sum") ∷ (codes "age_max") ∷ (codes "age_p50") ∷ (codes "age_p95") ∷ (codes "age_p99") ∷ []) ∷
    ((codes "report") ∷ (codes "f.fifo") ∷ (codes "2") ∷ (codes "0") ∷ (codes "2") ∷ (codes "0") ∷ (codes "1") ∷ (codes "0") ∷ (codes "0") ∷ (codes "0") ∷ (codes "0") ∷ (codes "0") ∷ (codes "0") ∷ (codes "0") ∷ (codes "0") ∷ (codes "0") ∷ (codes "0") ∷ (codes "0") ∷ (codes "0") ∷ (codes "0") ∷ (codes "2") ∷ (codes "1") ∷ (codes "0") ∷ (codes "0") ∷ (codes "200") ∷ (codes "200") ∷ (codes "200") ∷ (codes "200") ∷ (codes "200") ∷ []) ∷ [])
unfolding reading_on_literals running_on_literals columns_of
case_0_fifo_poll_takes_one_group = refl

-- by-hand/fifo_redrive_to_a_waiting_poll.toml
case_0_fifo_redrive_to_a_waiting_poll : shown 10 [] (codes "version = 1\nhorizon = 1000\n[[queue]]\nname = \"f.fifo\"\ndead_letter = \"d.fifo\"\nmax_receives = 1\nlatency_ms = 5\n[[queue]]\nname = \"d.fifo\"\n[[actor]]\nname = \"s\"\nkind = \"script\"\nqueue = \"f.fifo\"\ncalls = \"\"\"\nat,call,body,group,id,delay,receipt,max,wait,timeout,task\n0,send,abc,g,x,,,,,,\n1,send,abc,g,y,,,,,,\n10,receive,,,,,,2,,0,\n\"\"\"\n[[actor]]\nname = \"t\"\nkind = \"script\"\nqueue = \"d.fifo\"\ncalls = \"\"\"\nat,call,body,group,id,delay,receipt,max,wait,timeout,task\n5,receive,,,,,,10,1,,\n\"\"\"\n")
    ≡ ran (((codes "at") ∷ (codes "queue") ∷ (codes "agent") ∷ (codes "call") ∷ (codes "answer") ∷ (codes "message") ∷ (codes "receipt") ∷ (codes "detail") ∷ []) ∷
    ((codes "0") ∷ (codes "f.fifo") ∷ (codes "s") ∷ (codes "send") ∷ (codes "new") ∷ (codes "m-0-0") ∷ [] ∷ digest (codes "abc") ∷ []) ∷
    ((codes "1") ∷ (codes "f.fifo") ∷ (codes "s") ∷ (codes "send") ∷ (codes "new") ∷ (codes "m-0-1") ∷ [] ∷ digest (codes "abc") ∷ []) ∷
    ((codes "5") ∷ (codes "d.fifo") ∷ (codes "t") ∷ (codes "receive") ∷ (codes "wait") ∷ [] ∷ [] ∷ [] ∷ []) ∷
    ((codes "10") ∷ (codes "f.fifo") ∷ (codes "s") ∷ (codes "receive") ∷ (codes "ok") ∷ (codes "m-0-0") ∷ (codes "r-0-0-1") ∷ (codes "o-0-0") ∷ []) ∷
    ((codes "10") ∷ (codes "f.fifo") ∷ (codes "s") ∷ (codes "receive") ∷ (codes "ok") ∷ (codes "m-0-1") ∷ (codes "r-0-1-1") ∷ (codes "o-0-1") ∷ []) ∷
    ((codes "10") ∷ (codes "f.fifo") ∷ (codes "f.fifo") ∷ (codes "redrive") ∷ (codes "out") ∷ (codes "m-0-0") ∷ [] ∷ (codes "d.fifo") ∷ []) ∷
    ((codes "10") ∷ (codes "f.fifo") ∷ (codes "f.fifo") ∷ (codes "redrive") ∷ (codes "out") ∷ (codes "m-0-1") ∷ [] ∷ (codes "d.fifo") ∷ []) ∷
    ((codes "15") ∷ (codes "d.fifo") ∷ (codes "f.fifo") ∷ (codes "arrive") ∷ (codes "new") ∷ (codes "m-1-0") ∷ [] ∷ (codes "o-0-0") ∷ []) ∷
    ((codes "15") ∷ (codes "d.fifo") ∷ (codes "t") ∷ (codes "receive") ∷ (codes "ok") ∷ (codes "m-1-0") ∷ (codes "r-1-0-1") ∷ (codes "o-0-0") ∷ []) ∷
    ((codes "15") ∷ (codes "d.fifo") ∷ (codes "f.fifo") ∷ (codes "arrive") ∷ (codes "new") ∷ (codes "m-1-1") ∷ [] ∷ (codes "o-0-1") ∷ []) ∷
    ((codes "final") ∷ (codes "queue") ∷ (codes "message") ∷ (codes "origin") ∷ (codes "place") ∷ (codes "due") ∷ (codes "enqueued") ∷ (codes "receives") ∷ (codes "group") ∷ (codes "md5") ∷ []) ∷
    ((codes "final") ∷ (codes "d.fifo") ∷ (codes "m-1-0") ∷ (codes "o-0-0") ∷ (codes "inflight") ∷ (codes "30015") ∷ (codes "15") ∷ (codes "1") ∷ (codes "g") ∷ digest (codes "abc") ∷ []) ∷
    ((codes "final") ∷ (codes "d.fifo") ∷ (codes "m-1-1") ∷ (codes "o-0-1") ∷ (codes "visible") ∷ [] ∷ (codes "15") ∷ (codes "0") ∷ (codes "g") ∷ digest (codes "abc") ∷ []) ∷
    ((codes "transfer") ∷ (codes "from") ∷ (codes "to") ∷ (codes "kind") ∷ (codes "due") ∷ (codes "number") ∷ (codes "message") ∷ (codes "origin") ∷ (codes "md5") ∷ []) ∷
    ((codes "task") ∷ (codes "name") ∷ (codes "status") ∷ (codes "moved") ∷ []) ∷
    ((codes "report") ∷ (codes "queue") ∷ (codes "sends") ∷ (codes "repeats") ∷ (codes "receives") ∷ (codes "empties") ∷ (codes "deletes") ∷ (codes "expiries") ∷ (codes "redrives") ∷ (codes "moves") ∷ (codes "arrivals") ∷ (codes "OverLimit") ∷ (codes "MessageNotInflight") ∷ (codes "ReceiptHandleIsInvalid") ∷ (codes "BadTimeout") ∷ (codes "MissingGroup") ∷ (codes "MissingDeduplication") ∷ (codes "BadDelay") ∷ (codes "TaskRunning") ∷ (codes "NoTask") ∷ (codes "depth_max") ∷ (codes "visible") ∷ (codes "in_flight") ∷ (codes "delayed") ∷ (codes "age_sum") ∷ (codes "age_max") ∷ (codes "age_p50") ∷ (codes "age_p95") ∷ (codes "age_p99") ∷ []) ∷
    ((codes "report") ∷ (codes "f.fifo") ∷ (codes "2") ∷ (codes "0") ∷ (codes "2") ∷ (codes "0") ∷ (codes "0") ∷ (codes "0") ∷ (codes "2") ∷ (codes "0") ∷ (codes "0") ∷ (codes "0") ∷ (codes "0") ∷ (codes "0") ∷ (codes "0") ∷ (codes "0") ∷ (codes "0") ∷ (codes "0") ∷ (codes "0") ∷ (codes "0") ∷ (codes "2") ∷ (codes "0") ∷ (codes "0") ∷ (codes "0") ∷ (codes "0") ∷ [] ∷ [] ∷ [] ∷ [] ∷ []) ∷
    ((codes "report") ∷ (codes "d.fifo") ∷ (codes "0") ∷ (codes "0") ∷ (codes "1") ∷ (codes "0") ∷ (codes "0") ∷ (codes "0") ∷ (codes "0") ∷ (codes "0") ∷ (codes "2") ∷ (codes "0") ∷ (codes "0") ∷ (codes "0") ∷ (codes "0") ∷ (codes "0") ∷ (codes "0") ∷ (codes "0") ∷ (codes "0") ∷ (codes "0") ∷ (codes "2") ∷ (codes "1") ∷ (codes "1") ∷ (codes "0") ∷ (codes "0") ∷ [] ∷ [] ∷ [] ∷ [] ∷ []) ∷ [])
unfolding reading_on_literals running_on_literals columns_of
case_0_fifo_redrive_to_a_waiting_poll = refl

-- by-hand/fifo_send_refusals_and_group_scope.toml
case_0_fifo_send_refusals_and_group_scope : shown 7 [] (codes "version = 1\nhorizon = 1000\n[[queue]]\nname = \"f.fifo\"\ndedup_scope = \"group\"\n[[actor]]\nname = \"s\"\nkind = \"script\"\nqueue = \"f.fifo\"\ncalls = \"\"\"\nat,call,body,group,id,delay,receipt,max,wait,timeout,task\n0,send,abc,g,x,,,,,,\n1,send,abc,h,x,,,,,,\n2,send,abc,g,x,,,,,,\n3,send,abc,g,y,1,,,,,\n4,send,abc,,y,,,,,,\n5,send,abc,g,,,,,,,\n6,send,abc,g,y,0,,,,,\n\"\"\"\n")
    ≡ ran (((codes "at") ∷ (codes "queue") ∷ (codes "agent") ∷ (codes "call") ∷ (codes "answer") ∷ (codes "message") ∷ (codes "receipt") ∷ (codes "detail") ∷ []) ∷
    ((codes "0") ∷ (codes "f.fifo") ∷ (codes "s") ∷ (codes "send") ∷ (codes "new") ∷ (codes "m-0-0") ∷ [] ∷ digest (codes "abc") ∷ []) ∷
    ((codes "1") ∷ (codes "f.fifo") ∷ (codes "s") ∷ (codes "send") ∷ (codes "new") ∷ (codes "m-0-1") ∷ [] ∷ digest (codes "abc") ∷ []) ∷
    ((codes "2") ∷ (codes "f.fifo") ∷ (codes "s") ∷ (codes "send") ∷ (codes "repeat") ∷ (codes "m-0-0") ∷ [] ∷ digest (codes "abc") ∷ []) ∷
    ((codes "3") ∷ (codes "f.fifo") ∷ (codes "s") ∷ (codes "send") ∷ (codes "BadDelay") ∷ [] ∷ [] ∷ [] ∷ []) ∷
    ((codes "4") ∷ (codes "f.fifo") ∷ (codes "s") ∷ (codes "send") ∷ (codes "MissingGroup") ∷ [] ∷ [] ∷ [] ∷ []) ∷
    ((codes "5") ∷ (codes "f.fifo") ∷ (codes "s") ∷ (codes "send") ∷ (codes "MissingDeduplication") ∷ [] ∷ [] ∷ [] ∷ []) ∷
    ((codes "6") ∷ (codes "f.fifo") ∷ (codes "s") ∷ (codes "send") ∷ (codes "new") ∷ (codes "m-0-2") ∷ [] ∷ digest (codes "abc") ∷ []) ∷
    ((codes "final") ∷ (codes "queue") ∷ (codes "message") ∷ (codes "origin") ∷ (codes "place") ∷ (codes "due") ∷ (codes "enqueued") ∷ (codes "receives") ∷ (codes "group") ∷ (codes "md5") ∷ []) ∷
    ((codes "final") ∷ (codes "f.fifo") ∷ (codes "m-0-0") ∷ (codes "o-0-0") ∷ (codes "visible") ∷ [] ∷ (codes "0") ∷ (codes "0") ∷ (codes "g") ∷ digest (codes "abc") ∷ []) ∷
    ((codes "final") ∷ (codes "f.fifo") ∷ (codes "m-0-1") ∷ (codes "o-0-1") ∷ (codes "visible") ∷ [] ∷ (codes "1") ∷ (codes "0") ∷ (codes "h") ∷ digest (codes "abc") ∷ []) ∷
    ((codes "final") ∷ (codes "f.fifo") ∷ (codes "m-0-2") ∷ (codes "o-0-2") ∷ (codes "visible") ∷ [] ∷ (codes "6") ∷ (codes "0") ∷ (codes "g") ∷ digest (codes "abc") ∷ []) ∷
    ((codes "transfer") ∷ (codes "from") ∷ (codes "to") ∷ (codes "kind") ∷ (codes "due") ∷ (codes "number") ∷ (codes "message") ∷ (codes "origin") ∷ (codes "md5") ∷ []) ∷
    ((codes "task") ∷ (codes "name") ∷ (codes "status") ∷ (codes "moved") ∷ []) ∷
    ((codes "report") ∷ (codes "queue") ∷ (codes "sends") ∷ (codes "repeats") ∷ (codes "receives") ∷ (codes "empties") ∷ (codes "deletes") ∷ (codes "expiries") ∷ (codes "redrives") ∷ (codes "moves") ∷ (codes "arrivals") ∷ (codes "OverLimit") ∷ (codes "MessageNotInflight") ∷ (codes "ReceiptHandleIsInvalid") ∷ (codes "BadTimeout") ∷ (codes "MissingGroup") ∷ (codes "MissingDeduplication") ∷ (codes "BadDelay") ∷ (codes "TaskRunning") ∷ (codes "NoTask") ∷ (codes "depth_max") ∷ (codes "visible") ∷ (codes "in_flight") ∷ (codes "delayed") ∷ (codes "age_sum") ∷ (codes "age_max") ∷ (codes "age_p50") ∷ (codes "age_p95") ∷ (codes "age_p99") ∷ []) ∷
    ((codes "report") ∷ (codes "f.fifo") ∷ (codes "3") ∷ (codes "1") ∷ (codes "0") ∷ (codes "0") ∷ (codes "0") ∷ (codes "0") ∷ (codes "0") ∷ (codes "0") ∷ (codes "0") ∷ (codes "0") ∷ (codes "0") ∷ (codes "0") ∷ (codes "0") ∷ (codes "1") ∷ (codes "1") ∷ (codes "1") ∷ (codes "0") ∷ (codes "0") ∷ (codes "3") ∷ (codes "3") ∷ (codes "0") ∷ (codes "0") ∷ (codes "0") ∷ [] ∷ [] ∷ [] ∷ [] ∷ []) ∷ [])
unfolding reading_on_literals running_on_literals columns_of
case_0_fifo_send_refusals_and_group_scope = refl

-- by-hand/forward_repeated.toml
case_0_forward_repeated : shown 7 [] (codes "version = 1\nhorizon = 1000\n[[queue]]\nname = \"a.fifo\"\n[[queue]]\nname = \"b.fifo\"\n[[actor]]\nname = \"s\"\nkind = \"script\"\nqueue = \"a.fifo\"\ncalls = \"\"\"\nat,call,body,group,id,delay,receipt,max,wait,timeout,task\n0,send,abc,g,x,,,,,,\n\"\"\"\n[[actor]]\nname = \"t\"\nkind = \"script\"\nqueue = \"b.fifo\"\ncalls = \"\"\"\nat,call,body,group,id,delay,receipt,max,wait,timeout,task\n0,send,abc,h,m-0-0,,,,,,\n\"\"\"\n[[actor]]\nname = \"c\"\nkind = \"consumer\"\nqueue = \"a.fifo\"\nstart_ms = 100\nservice_min_ms = 50\nservice_max_ms = 50\nidle_ms = 86400000\nforward = \"b.fifo\"\nlatency_ms = 10\n")
    ≡ ran (((codes "at") ∷ (codes "queue") ∷ (codes "agent") ∷ (codes "call") ∷ (codes "answer") ∷ (codes "message") ∷ (codes "receipt") ∷ (codes "detail") ∷ []) ∷
    ((codes "0") ∷ (codes "a.fifo") ∷ (codes "s") ∷ (codes "send") ∷ (codes "new") ∷ (codes "m-0-0") ∷ [] ∷ digest (codes "abc") ∷ []) ∷
    ((codes "0") ∷ (codes "b.fifo") ∷ (codes "t") ∷ (codes "send") ∷ (codes "new") ∷ (codes "m-1-0") ∷ [] ∷ digest (codes "abc") ∷ []) ∷
    ((codes "100") ∷ (codes "a.fifo") ∷ (codes "c") ∷ (codes "receive") ∷ (codes "ok") ∷ (codes "m-0-0") ∷ (codes "r-0-0-1") ∷ (codes "o-0-0") ∷ []) ∷
    ((codes "150") ∷ (codes "a.fifo") ∷ (codes "c") ∷ (codes "forward") ∷ (codes "out") ∷ (codes "m-0-0") ∷ [] ∷ (codes "b.fifo") ∷ []) ∷
    ((codes "150") ∷ (codes "a.fifo") ∷ (codes "c") ∷ (codes "delete") ∷ (codes "deleted") ∷ (codes "m-0-0") ∷ (codes "r-0-0-1") ∷ (codes "150") ∷ []) ∷
    ((codes "151") ∷ (codes "a.fifo") ∷ (codes "c") ∷ (codes "receive") ∷ (codes "empty") ∷ [] ∷ [] ∷ [] ∷ []) ∷
    ((codes "160") ∷ (codes "b.fifo") ∷ (codes "c") ∷ (codes "arrive") ∷ (codes "repeat") ∷ (codes "m-1-0") ∷ [] ∷ (codes "o-1-0") ∷ []) ∷
    ((codes "final") ∷ (codes "queue") ∷ (codes "message") ∷ (codes "origin") ∷ (codes "place") ∷ (codes "due") ∷ (codes "enqueued") ∷ (codes "receives") ∷ (codes "group") ∷ (codes "md5") ∷ []) ∷
    ((codes "final") ∷ (codes "b.fifo") ∷ (codes "m-1-0") ∷ (codes "o-1-0") ∷ (codes "visible") ∷ [] ∷ (codes "0") ∷ (codes "0") ∷ (codes "h") ∷ digest (codes "abc") ∷ []) ∷
    ((codes "transfer") ∷ (codes "from") ∷ (codes "to") ∷ (codes "kind") ∷ (codes "due") ∷ (codes "number") ∷ (codes "message") ∷ (codes "origin") ∷ (codes "md5") ∷ []) ∷
    ((codes "task") ∷ (codes "name") ∷ (codes "status") ∷ (codes "moved") ∷ []) ∷
    ((codes "report") ∷ (codes "queue") ∷ (codes "sends") ∷ (codes "repeats") ∷ (codes "receives") ∷ (codes "empties") ∷ (codes "deletes") ∷ (codes "expiries") ∷ (codes "redrives") ∷ (codes "moves") ∷ (codes "arrivals") ∷ (codes "OverLimit") ∷ (codes "MessageNotInflight") ∷ (codes "ReceiptHandleIsInvalid") ∷ (codes "BadTimeout") ∷ (codes "MissingGroup") ∷ (codes "MissingDeduplication") ∷ (codes "BadDelay") ∷ (codes "TaskRunning") ∷ (codes "NoTask") ∷ (codes "depth_max") ∷ (codes "visible") ∷ (codes "in_flight") ∷ (codes "delayed") ∷ (codes "age_sum") ∷ (codes "age_max") ∷ (codes "age_p50") ∷ (codes "age_p95") ∷ (codes "age_p99") ∷ []) ∷
    ((codes "report") ∷ (codes "a.fifo") ∷ (codes "1") ∷ (codes "0") ∷ (codes "1") ∷ (codes "1") ∷ (codes "1") ∷ (codes "0") ∷ (codes "0") ∷ (codes "0") ∷ (codes "0") ∷ (codes "0") ∷ (codes "0") ∷ (codes "0") ∷ (codes "0") ∷ (codes "0") ∷ (codes "0") ∷ (codes "0") ∷ (codes "0") ∷ (codes "0") ∷ (codes "1") ∷ (codes "0") ∷ (codes "0") ∷ (codes "0") ∷ (codes "150") ∷ (codes "150") ∷ (codes "150") ∷ (codes "150") ∷ (codes "150") ∷ []) ∷
    ((codes "report") ∷ (codes "b.fifo") ∷ (codes "1") ∷ (codes "1") ∷ (codes "0") ∷ (codes "0") ∷ (codes "0") ∷ (codes "0") ∷ (codes "0") ∷ (codes "0") ∷ (codes "0") ∷ (codes "0") ∷ (codes "0") ∷ (codes "0") ∷ (codes "0") ∷ (codes "0") ∷ (codes "0") ∷ (codes "0") ∷ (codes "0") ∷ (codes "0") ∷ (codes "1") ∷ (codes "1") ∷ (codes "0") ∷ (codes "0") ∷ (codes "0") ∷ [] ∷ [] ∷ [] ∷ [] ∷ []) ∷ [])
unfolding reading_on_literals running_on_literals columns_of
case_0_forward_repeated = refl

-- by-hand/move_and_forward_under_way.toml
case_0_move_and_forward_under_way : shown 12 [] (codes "version = 1\nhorizon = 1500\n[[queue]]\nname = \"a\"\ndead_letter = \"d\"\nmax_receives = 1\nlatency_ms = 5\n[[queue]]\nname = \"d\"\n[[queue]]\nname = \"e\"\n[[actor]]\nname = \"s\"\nkind = \"script\"\nqueue = \"a\"\ncalls = \"\"\"\nat,call,body,group,id,delay,receipt,max,wait,timeout,task\n0,send,abc,,,,,,,,\n10,receive,,,,,,,,0,\n30,send,abc,,,,,,,,\n\"\"\"\n[[actor]]\nname = \"u\"\nkind = \"script\"\nqueue = \"d\"\ncalls = \"\"\"\nat,call,body,group,id,delay,receipt,max,wait,timeout,task\n20,start,,,,,,,,,k\n\"\"\"\n[[actor]]\nname = \"c\"\nkind = \"consumer\"\nqueue = \"a\"\nstart_ms = 100\nservice_min_ms = 1000\nservice_max_ms = 1000\nidle_ms = 86400000\nforward = \"e\"\nlatency_ms = 900\n[[task]]\nname = \"k\"\nqueue = \"d\"\nto = \"e\"\nlatency_ms = 900\n")
    ≡ ran (((codes "at") ∷ (codes "queue") ∷ (codes "agent") ∷ (codes "call") ∷ (codes "answer") ∷ (codes "message") ∷ (codes "receipt") ∷ (codes "detail") ∷ []) ∷
    ((codes "0") ∷ (codes "a") ∷ (codes "s") ∷ (codes "send") ∷ (codes "new") ∷ (codes "m-0-0") ∷ [] ∷ digest (codes "abc") ∷ []) ∷
    ((codes "10") ∷ (codes "a") ∷ (codes "s") ∷ (codes "receive") ∷ (codes "ok") ∷ (codes "m-0-0") ∷ (codes "r-0-0-1") ∷ (codes "o-0-0") ∷ []) ∷
    ((codes "10") ∷ (codes "a") ∷ (codes "a") ∷ (codes "redrive") ∷ (codes "out") ∷ (codes "m-0-0") ∷ [] ∷ (codes "d") ∷ []) ∷
    ((codes "15") ∷ (codes "d") ∷ (codes "a") ∷ (codes "arrive") ∷ (codes "new") ∷ (codes "m-1-0") ∷ [] ∷ (codes "o-0-0") ∷ []) ∷
    ((codes "20") ∷ (codes "d") ∷ (codes "u") ∷ (codes "start") ∷ (codes "ok") ∷ [] ∷ [] ∷ (codes "k") ∷ []) ∷
    ((codes "30") ∷ (codes "a") ∷ (codes "s") ∷ (codes "send") ∷ (codes "new") ∷ (codes "m-0-1") ∷ [] ∷ digest (codes "abc") ∷ []) ∷
    ((codes "100") ∷ (codes "a") ∷ (codes "c") ∷ (codes "receive") ∷ (codes "ok") ∷ (codes "m-0-1") ∷ (codes "r-0-1-1") ∷ (codes "o-0-1") ∷ []) ∷
    ((codes "1020") ∷ (codes "d") ∷ (codes "k") ∷ (codes "move") ∷ (codes "out") ∷ (codes "m-1-0") ∷ [] ∷ (codes "e") ∷ []) ∷
    ((codes "1020") ∷ (codes "d") ∷ (codes "k") ∷ (codes "task") ∷ (codes "Completed") ∷ [] ∷ [] ∷ (codes "1") ∷ []) ∷
    ((codes "1100") ∷ (codes "a") ∷ (codes "c") ∷ (codes "forward") ∷ (codes "out") ∷ (codes "m-0-1") ∷ [] ∷ (codes "e") ∷ []) ∷
    ((codes "1100") ∷ (codes "a") ∷ (codes "c") ∷ (codes "delete") ∷ (codes "deleted") ∷ (codes "m-0-1") ∷ (codes "r-0-1-1") ∷ (codes "1070") ∷ []) ∷
    ((codes "1101") ∷ (codes "a") ∷ (codes "c") ∷ (codes "receive") ∷ (codes "empty") ∷ [] ∷ [] ∷ [] ∷ []) ∷
    ((codes "final") ∷ (codes "queue") ∷ (codes "message") ∷ (codes "origin") ∷ (codes "place") ∷ (codes "due") ∷ (codes "enqueued") ∷ (codes "receives") ∷ (codes "group") ∷ (codes "md5") ∷ []) ∷
    ((codes "transfer") ∷ (codes "from") ∷ (codes "to") ∷ (codes "kind") ∷ (codes "due") ∷ (codes "number") ∷ (codes "message") ∷ (codes "origin") ∷ (codes "md5") ∷ []) ∷
    ((codes "transfer") ∷ (codes "d") ∷ (codes "e") ∷ (codes "move") ∷ (codes "1920") ∷ (codes "0") ∷ (codes "m-1-0") ∷ (codes "o-0-0") ∷ digest (codes "abc") ∷ []) ∷
    ((codes "transfer") ∷ (codes "a") ∷ (codes "e") ∷ (codes "forward") ∷ (codes "2000") ∷ (codes "0") ∷ (codes "m-0-1") ∷ [] ∷ digest (codes "abc") ∷ []) ∷
    ((codes "task") ∷ (codes "name") ∷ (codes "status") ∷ (codes "moved") ∷ []) ∷
    ((codes "task") ∷ (codes "k") ∷ (codes "Completed") ∷ (codes "1") ∷ []) ∷
    ((codes "report") ∷ (codes "queue") ∷ (codes "sends") ∷ (codes "repeats") ∷ (codes "receives") ∷ (codes "empties") ∷ (codes "deletes") ∷ (codes "expiries") ∷ (codes "redrives") ∷ (codes "moves") ∷ (codes "arrivals") ∷ (codes "OverLimit") ∷ (codes "MessageNotInflight") ∷ (codes "ReceiptHandleIsInvalid") ∷ (codes "BadTimeout") ∷ (codes "MissingGroup") ∷ (codes "MissingDeduplication") ∷ (codes "BadDelay") ∷ (codes "TaskRunning") ∷ (codes "NoTask") ∷ (codes "depth_max") ∷ (codes "visible") ∷ (codes "in_flight") ∷ (codes "delayed") ∷ (codes "age_sum") ∷ (codes "age_max") ∷ (codes "age_p50") ∷ (codes "age_p95") ∷ (codes "age_p99") ∷ []) ∷
    ((codes "report") ∷ (codes "a") ∷ (codes "2") ∷ (codes "0") ∷ (codes "2") ∷ (codes "1") ∷ (codes "1") ∷ (codes "0") ∷ (codes "1") ∷ (codes "0") ∷ (codes "0") ∷ (codes "0") ∷ (codes "0") ∷ (codes "0") ∷ (codes "0") ∷ (codes "0") ∷ (codes "0") ∷ (codes "0") ∷ (codes "0") ∷ (codes "0") ∷ (codes "1") ∷ (codes "0") ∷ (codes "0") ∷ (codes "0") ∷ (codes "1070") ∷ (codes "1070") ∷ (codes "1070") ∷ (codes "1070") ∷ (codes "1070") ∷ []) ∷
    ((codes "report") ∷ (codes "d") ∷ (codes "0") ∷ (codes "0") ∷ (codes "0") ∷ (codes "0") ∷ (codes "0") ∷ (codes "0") ∷ (codes "0") ∷ (codes "1") ∷ (codes "1") ∷ (codes "0") ∷ (codes "0") ∷ (codes "0") ∷ (codes "0") ∷ (codes "0") ∷ (codes "0") ∷ (codes "0") ∷ (codes "0") ∷ (codes "0") ∷ (codes "1") ∷ (codes "0") ∷ (codes "0") ∷ (codes "0") ∷ (codes "0") ∷ [] ∷ [] ∷ [] ∷ [] ∷ []) ∷
    ((codes "report") ∷ (codes "e") ∷ (codes "0") ∷ (codes "0") ∷ (codes "0") ∷ (codes "0") ∷ (codes "0") ∷ (codes "0") ∷ (codes "0") ∷ (codes "0") ∷ (codes "0") ∷ (codes "0") ∷ (codes "0") ∷ (codes "0") ∷ (codes "0") ∷ (codes "0") ∷ (codes "0") ∷ (codes "0") ∷ (codes "0") ∷ (codes "0") ∷ (codes "0") ∷ (codes "0") ∷ (codes "0") ∷ (codes "0") ∷ (codes "0") ∷ [] ∷ [] ∷ [] ∷ [] ∷ []) ∷ [])
unfolding reading_on_literals running_on_literals columns_of
case_0_move_and_forward_under_way = refl

-- by-hand/poll_answered_with_timeout_zero.toml
case_0_poll_answered_with_timeout_zero : shown 6 [] (codes "version = 1\nhorizon = 1000\n[[queue]]\nname = \"q\"\n[[actor]]\nname = \"a\"\nkind = \"script\"\nqueue = \"q\"\ncalls = \"\"\"\nat,call,body,group,id,delay,receipt,max,wait,timeout,task\n100,receive,,,,,,,5,0,\n\"\"\"\n[[actor]]\nname = \"b\"\nkind = \"script\"\nqueue = \"q\"\ncalls = \"\"\"\nat,call,body,group,id,delay,receipt,max,wait,timeout,task\n200,receive,,,,,,,5,,\n\"\"\"\n[[actor]]\nname = \"s\"\nkind = \"script\"\nqueue = \"q\"\ncalls = \"\"\"\nat,call,body,group,id,delay,receipt,max,wait,timeout,task\n300,send,abc,,,,,,,,\n\"\"\"\n")
    ≡ ran (((codes "at") ∷ (codes "queue") ∷ (codes "agent") ∷ (codes "call") ∷ (codes "answer") ∷ (codes "message") ∷ (codes "receipt") ∷ (codes "detail") ∷ []) ∷
    ((codes "100") ∷ (codes "q") ∷ (codes "a") ∷ (codes "receive") ∷ (codes "wait") ∷ [] ∷ [] ∷ [] ∷ []) ∷
    ((codes "200") ∷ (codes "q") ∷ (codes "b") ∷ (codes "receive") ∷ (codes "wait") ∷ [] ∷ [] ∷ [] ∷ []) ∷
    ((codes "300") ∷ (codes "q") ∷ (codes "s") ∷ (codes "send") ∷ (codes "new") ∷ (codes "m-0-0") ∷ [] ∷ digest (codes "abc") ∷ []) ∷
    ((codes "300") ∷ (codes "q") ∷ (codes "a") ∷ (codes "receive") ∷ (codes "ok") ∷ (codes "m-0-0") ∷ (codes "r-0-0-1") ∷ (codes "o-0-0") ∷ []) ∷
    ((codes "300") ∷ (codes "q") ∷ (codes "q") ∷ (codes "release") ∷ (codes "visible") ∷ (codes "m-0-0") ∷ [] ∷ [] ∷ []) ∷
    ((codes "300") ∷ (codes "q") ∷ (codes "b") ∷ (codes "receive") ∷ (codes "ok") ∷ (codes "m-0-0") ∷ (codes "r-0-0-2") ∷ (codes "o-0-0") ∷ []) ∷
    ((codes "final") ∷ (codes "queue") ∷ (codes "message") ∷ (codes "origin") ∷ (codes "place") ∷ (codes "due") ∷ (codes "enqueued") ∷ (codes "receives") ∷ (codes "group") ∷ (codes "md5") ∷ []) ∷
    ((codes "final") ∷ (codes "q") ∷ (codes "m-0-0") ∷ (codes "o-0-0") ∷ (codes "inflight") ∷ (codes "30300") ∷ (codes "300") ∷ (codes "2") ∷ [] ∷ digest (codes "abc") ∷ []) ∷
    ((codes "transfer") ∷ (codes "from") ∷ (codes "to") ∷ (codes "kind") ∷ (codes "due") ∷ (codes "number") ∷ (codes "message") ∷ (codes "origin") ∷ (codes "md5") ∷ []) ∷
    ((codes "task") ∷ (codes "name") ∷ (codes "status") ∷ (codes "moved") ∷ []) ∷
    ((codes "report") ∷ (codes "queue") ∷ (codes "sends") ∷ (codes "repeats") ∷ (codes "receives") ∷ (codes "empties") ∷ (codes "deletes") ∷ (codes "expiries") ∷ (codes "redrives") ∷ (codes "moves") ∷ (codes "arrivals") ∷ (codes "OverLimit") ∷ (codes "MessageNotInflight") ∷ (codes "ReceiptHandleIsInvalid") ∷ (codes "BadTimeout") ∷ (codes "MissingGroup") ∷ (codes "MissingDeduplication") ∷ (codes "BadDelay") ∷ (codes "TaskRunning") ∷ (codes "NoTask") ∷ (codes "depth_max") ∷ (codes "visible") ∷ (codes "in_flight") ∷ (codes "delayed") ∷ (codes "age_sum") ∷ (codes "age_max") ∷ (codes "age_p50") ∷ (codes "age_p95") ∷ (codes "age_p99") ∷ []) ∷
    ((codes "report") ∷ (codes "q") ∷ (codes "1") ∷ (codes "0") ∷ (codes "2") ∷ (codes "0") ∷ (codes "0") ∷ (codes "0") ∷ (codes "0") ∷ (codes "0") ∷ (codes "0") ∷ (codes "0") ∷ (codes "0") ∷ (codes "0") ∷ (codes "0") ∷ (codes "0") ∷ (codes "0") ∷ (codes "0") ∷ (codes "0") ∷ (codes "0") ∷ (codes "1") ∷ (codes "0") ∷ (codes "1") ∷ (codes "0") ∷ (codes "0") ∷ [] ∷ [] ∷ [] ∷ [] ∷ []) ∷ [])
unfolding reading_on_literals running_on_literals columns_of
case_0_poll_answered_with_timeout_zero = refl

-- by-hand/poll_ends.toml
case_0_poll_ends : shown 2 [] (codes "version = 1\nhorizon = 3000\n[[queue]]\nname = \"q\"\n[[actor]]\nname = \"a\"\nkind = \"script\"\nqueue = \"q\"\ncalls = \"\"\"\nat,call,body,group,id,delay,receipt,max,wait,timeout,task\n100,receive,,,,,,,2,,\n\"\"\"\n")
    ≡ ran (((codes "at") ∷ (codes "queue") ∷ (codes "agent") ∷ (codes "call") ∷ (codes "answer") ∷ (codes "message") ∷ (codes "receipt") ∷ (codes "detail") ∷ []) ∷
    ((codes "100") ∷ (codes "q") ∷ (codes "a") ∷ (codes "receive") ∷ (codes "wait") ∷ [] ∷ [] ∷ [] ∷ []) ∷
    ((codes "2100") ∷ (codes "q") ∷ (codes "a") ∷ (codes "receive") ∷ (codes "empty") ∷ [] ∷ [] ∷ [] ∷ []) ∷
    ((codes "final") ∷ (codes "queue") ∷ (codes "message") ∷ (codes "origin") ∷ (codes "place") ∷ (codes "due") ∷ (codes "enqueued") ∷ (codes "receives") ∷ (codes "group") ∷ (codes "md5") ∷ []) ∷
    ((codes "transfer") ∷ (codes "from") ∷ (codes "to") ∷ (codes "kind") ∷ (codes "due") ∷ (codes "number") ∷ (codes "message") ∷ (codes "origin") ∷ (codes "md5") ∷ []) ∷
    ((codes "task") ∷ (codes "name") ∷ (codes "status") ∷ (codes "moved") ∷ []) ∷
    ((codes "report") ∷ (codes "queue") ∷ (codes "sends") ∷ (codes "repeats") ∷ (codes "receives") ∷ (codes "empties") ∷ (codes "deletes") ∷ (codes "expiries") ∷ (codes "redrives") ∷ (codes "moves") ∷ (codes "arrivals") ∷ (codes "OverLimit") ∷ (codes "MessageNotInflight") ∷ (codes "ReceiptHandleIsInvalid") ∷ (codes "BadTimeout") ∷ (codes "MissingGroup") ∷ (codes "MissingDeduplication") ∷ (codes "BadDelay") ∷ (codes "TaskRunning") ∷ (codes "NoTask") ∷ (codes "depth_max") ∷ (codes "visible") ∷ (codes "in_flight") ∷ (codes "delayed") ∷ (codes "age_sum") ∷ (codes "age_max") ∷ (codes "age_p50") ∷ (codes "age_p95") ∷ (codes "age_p99") ∷ []) ∷
    ((codes "report") ∷ (codes "q") ∷ (codes "0") ∷ (codes "0") ∷ (codes "0") ∷ (codes "1") ∷ (codes "0") ∷ (codes "0") ∷ (codes "0") ∷ (codes "0") ∷ (codes "0") ∷ (codes "0") ∷ (codes "0") ∷ (codes "0") ∷ (codes "0") ∷ (codes "0") ∷ (codes "0") ∷ (codes "0") ∷ (codes "0") ∷ (codes "0") ∷ (codes "0") ∷ (codes "0") ∷ (codes "0") ∷ (codes "0") ∷ (codes "0") ∷ [] ∷ [] ∷ [] ∷ [] ∷ []) ∷ [])
unfolding reading_on_literals running_on_literals columns_of
case_0_poll_ends = refl

-- by-hand/standard_refusals.toml
case_0_standard_refusals : shown 5 [] (codes "version = 1\nhorizon = 1000\n[[queue]]\nname = \"q\"\n[[actor]]\nname = \"s\"\nkind = \"script\"\nqueue = \"q\"\ncalls = \"\"\"\nat,call,body,group,id,delay,receipt,max,wait,timeout,task\n0,send,abc,,,901,,,,,\n1,send,abc,,,900,,,,,\n2,receive,,,,,,,,43201,\n3,delete,,,,,r-0-0-1,,,,\n4,delete,,,,,hello,,,,\n\"\"\"\n")
    ≡ ran (((codes "at") ∷ (codes "queue") ∷ (codes "agent") ∷ (codes "call") ∷ (codes "answer") ∷ (codes "message") ∷ (codes "receipt") ∷ (codes "detail") ∷ []) ∷
    ((codes "0") ∷ (codes "q") ∷ (codes "s") ∷ (codes "send") ∷ (codes "BadDelay") ∷ [] ∷ [] ∷ [] ∷ []) ∷
    ((codes "1") ∷ (codes "q") ∷ (codes "s") ∷ (codes "send") ∷ (codes "new") ∷ (codes "m-0-0") ∷ [] ∷ digest (codes "abc") ∷ []) ∷
    ((codes "2") ∷ (codes "q") ∷ (codes "s") ∷ (codes "receive") ∷ (codes "BadTimeout") ∷ [] ∷ [] ∷ [] ∷ []) ∷
    ((codes "3") ∷ (codes "q") ∷ (codes "s") ∷ (codes "delete") ∷ (codes "ReceiptHandleIsInvalid") ∷ [] ∷ (codes "r-0-0-1") ∷ [] ∷ []) ∷
    ((codes "4") ∷ (codes "q") ∷ (codes "s") ∷ (codes "delete") ∷ (codes "ReceiptHandleIsInvalid") ∷ [] ∷ (codes "hello") ∷ [] ∷ []) ∷
    ((codes "final") ∷ (codes "queue") ∷ (codes "message") ∷ (codes "origin") ∷ (codes "place") ∷ (codes "due") ∷ (codes "enqueued") ∷ (codes "receives") ∷ (codes "group") ∷ (codes "md5") ∷ []) ∷
    ((codes "final") ∷ (codes "q") ∷ (codes "m-0-0") ∷ (codes "o-0-0") ∷ (codes "delayed") ∷ (codes "900001") ∷ (codes "1") ∷ (codes "0") ∷ [] ∷ digest (codes "abc") ∷ []) ∷
    ((codes "transfer") ∷ (codes "from") ∷ (codes "to") ∷ (codes "kind") ∷ (codes "due") ∷ (codes "number") ∷ (codes "message") ∷ (codes "origin") ∷ (codes "md5") ∷ []) ∷
    ((codes "task") ∷ (codes "name") ∷ (codes "status") ∷ (codes "moved") ∷ []) ∷
    ((codes "report") ∷ (codes "queue") ∷ (codes "sends") ∷ (codes "repeats") ∷ (codes "receives") ∷ (codes "empties") ∷ (codes "deletes") ∷ (codes "expiries") ∷ (codes "redrives") ∷ (codes "moves") ∷ (codes "arrivals") ∷ (codes "OverLimit") ∷ (codes "MessageNotInflight") ∷ (codes "ReceiptHandleIsInvalid") ∷ (codes "BadTimeout") ∷ (codes "MissingGroup") ∷ (codes "MissingDeduplication") ∷ (codes "BadDelay") ∷ (codes "TaskRunning") ∷ (codes "NoTask") ∷ (codes "depth_max") ∷ (codes "visible") ∷ (codes "in_flight") ∷ (codes "delayed") ∷ (codes "age_sum") ∷ (codes "age_max") ∷ (codes "age_p50") ∷ (codes "age_p95") ∷ (codes "age_p99") ∷ []) ∷
    ((codes "report") ∷ (codes "q") ∷ (codes "1") ∷ (codes "0") ∷ (codes "0") ∷ (codes "0") ∷ (codes "0") ∷ (codes "0") ∷ (codes "0") ∷ (codes "0") ∷ (codes "0") ∷ (codes "0") ∷ (codes "0") ∷ (codes "2") ∷ (codes "1") ∷ (codes "0") ∷ (codes "0") ∷ (codes "1") ∷ (codes "0") ∷ (codes "0") ∷ (codes "1") ∷ (codes "0") ∷ (codes "0") ∷ (codes "1") ∷ (codes "0") ∷ [] ∷ [] ∷ [] ∷ [] ∷ []) ∷ [])
unfolding reading_on_literals running_on_literals columns_of
case_0_standard_refusals = refl

-- by-hand/task_fails_after_a_move.toml
case_0_task_fails_after_a_move : shown 9 [] (codes "version = 1\nhorizon = 2000\n[[queue]]\nname = \"a\"\ndead_letter = \"d\"\nmax_receives = 1\nlatency_ms = 5\n[[queue]]\nname = \"d\"\n[[actor]]\nname = \"s\"\nkind = \"script\"\nqueue = \"a\"\ncalls = \"\"\"\nat,call,body,group,id,delay,receipt,max,wait,timeout,task\n0,send,abc,,,,,,,,\n10,receive,,,,,,,,0,\n\"\"\"\n[[actor]]\nname = \"u\"\nkind = \"script\"\nqueue = \"d\"\ncalls = \"\"\"\nat,call,body,group,id,delay,receipt,max,wait,timeout,task\n20,send,abc,,,,,,,,\n30,start,,,,,,,,,k\n\"\"\"\n[[task]]\nname = \"k\"\nqueue = \"d\"\nlatency_ms = 100\n")
    ≡ ran (((codes "at") ∷ (codes "queue") ∷ (codes "agent") ∷ (codes "call") ∷ (codes "answer") ∷ (codes "message") ∷ (codes "receipt") ∷ (codes "detail") ∷ []) ∷
    ((codes "0") ∷ (codes "a") ∷ (codes "s") ∷ (codes "send") ∷ (codes "new") ∷ (codes "m-0-0") ∷ [] ∷ digest (codes "abc") ∷ []) ∷
    ((codes "10") ∷ (codes "a") ∷ (codes "s") ∷ (codes "receive") ∷ (codes "ok") ∷ (codes "m-0-0") ∷ (codes "r-0-0-1") ∷ (codes "o-0-0") ∷ []) ∷
    ((codes "10") ∷ (codes "a") ∷ (codes "a") ∷ (codes "redrive") ∷ (codes "out") ∷ (codes "m-0-0") ∷ [] ∷ (codes "d") ∷ []) ∷
    ((codes "15") ∷ (codes "d") ∷ (codes "a") ∷ (codes "arrive") ∷ (codes "new") ∷ (codes "m-1-0") ∷ [] ∷ (codes "o-0-0") ∷ []) ∷
    ((codes "20") ∷ (codes "d") ∷ (codes "u") ∷ (codes "send") ∷ (codes "new") ∷ (codes "m-1-1") ∷ [] ∷ digest (codes "abc") ∷ []) ∷
    ((codes "30") ∷ (codes "d") ∷ (codes "u") ∷ (codes "start") ∷ (codes "ok") ∷ [] ∷ [] ∷ (codes "k") ∷ []) ∷
    ((codes "1030") ∷ (codes "d") ∷ (codes "k") ∷ (codes "move") ∷ (codes "out") ∷ (codes "m-1-0") ∷ [] ∷ (codes "a") ∷ []) ∷
    ((codes "1030") ∷ (codes "d") ∷ (codes "k") ∷ (codes "task") ∷ (codes "Failed") ∷ [] ∷ [] ∷ (codes "1") ∷ []) ∷
    ((codes "1130") ∷ (codes "a") ∷ (codes "k") ∷ (codes "arrive") ∷ (codes "new") ∷ (codes "m-0-1") ∷ [] ∷ (codes "o-0-0") ∷ []) ∷
    ((codes "final") ∷ (codes "queue") ∷ (codes "message") ∷ (codes "origin") ∷ (codes "place") ∷ (codes "due") ∷ (codes "enqueued") ∷ (codes "receives") ∷ (codes "group") ∷ (codes "md5") ∷ []) ∷
    ((codes "final") ∷ (codes "a") ∷ (codes "m-0-1") ∷ (codes "o-0-0") ∷ (codes "visible") ∷ [] ∷ (codes "1130") ∷ (codes "0") ∷ [] ∷ digest (codes "abc") ∷ []) ∷
    ((codes "final") ∷ (codes "d") ∷ (codes "m-1-1") ∷ (codes "o-1-1") ∷ (codes "visible") ∷ [] ∷ (codes "20") ∷ (codes "0") ∷ [] ∷ digest (codes "abc") ∷ []) ∷
    ((codes "transfer") ∷ (codes "from") ∷ (codes "to") ∷ (codes "kind") ∷ (codes "due") ∷ (codes "number") ∷ (codes "message") ∷ (codes "origin") ∷ (codes "md5") ∷ []) ∷
    ((codes "task") ∷ (codes "name") ∷ (codes "status") ∷ (codes "moved") ∷ []) ∷
    ((codes "task") ∷ (codes "k") ∷ (codes "Failed") ∷ (codes "1") ∷ []) ∷
    ((codes "report") ∷ (codes "queue") ∷ (codes "sends") ∷ (codes "repeats") ∷ (codes "receives") ∷ (codes "empties") ∷ (codes "deletes") ∷ (codes "expiries") ∷ (codes "redrives") ∷ (codes "moves") ∷ (codes "arrivals") ∷ (codes "OverLimit") ∷ (codes "MessageNotInflight") ∷ (codes "ReceiptHandleIsInvalid") ∷ (codes "BadTimeout") ∷ (codes "MissingGroup") ∷ (codes "MissingDeduplication") ∷ (codes "BadDelay") ∷ (codes "TaskRunning") ∷ (codes "NoTask") ∷ (codes "depth_max") ∷ (codes "visible") ∷ (codes "in_flight") ∷ (codes "delayed") ∷ (codes "age_sum") ∷ (codes "age_max") ∷ (codes "age_p50") ∷ (codes "age_p95") ∷ (codes "age_p99") ∷ []) ∷
    ((codes "report") ∷ (codes "a") ∷ (codes "1") ∷ (codes "0") ∷ (codes "1") ∷ (codes "0") ∷ (codes "0") ∷ (codes "0") ∷ (codes "1") ∷ (codes "0") ∷ (codes "1") ∷ (codes "0") ∷ (codes "0") ∷ (codes "0") ∷ (codes "0") ∷ (codes "0") ∷ (codes "0") ∷ (codes "0") ∷ (codes "0") ∷ (codes "0") ∷ (codes "1") ∷ (codes "1") ∷ (codes "0") ∷ (codes "0") ∷ (codes "0") ∷ [] ∷ [] ∷ [] ∷ [] ∷ []) ∷
    ((codes "report") ∷ (codes "d") ∷ (codes "1") ∷ (codes "0") ∷ (codes "0") ∷ (codes "0") ∷ (codes "0") ∷ (codes "0") ∷ (codes "0") ∷ (codes "1") ∷ (codes "1") ∷ (codes "0") ∷ (codes "0") ∷ (codes "0") ∷ (codes "0") ∷ (codes "0") ∷ (codes "0") ∷ (codes "0") ∷ (codes "0") ∷ (codes "0") ∷ (codes "2") ∷ (codes "1") ∷ (codes "0") ∷ (codes "0") ∷ (codes "0") ∷ [] ∷ [] ∷ [] ∷ [] ∷ []) ∷ [])
unfolding reading_on_literals running_on_literals columns_of
case_0_task_fails_after_a_move = refl
