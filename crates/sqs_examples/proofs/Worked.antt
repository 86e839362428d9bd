-- Scenarios with their right output, computed over the definitions. Made by tools/compute_cases.py.
use Rattle.std.proofs.Common.{◌≡◌, ℕ, true, List, [], ◌∷◌, ◌++◌, codes, refl}
use Rattle.sqs_formats.specs.Report.{columns_of}
use Rattle.sqs_formats.proofs.OnLiterals.{reading_on_literals}
use Rattle.sqs_examples.proofs.Shown.{running_on_literals, digest, ran, refused, shown}

-- worked/ages.toml
case_0_ages : shown 12 [] (codes "version = 1\nhorizon = 100\n[[queue]]\nname = '''q'''\n[[actor]]\nname = '''s'''\nkind = '''script'''\nqueue = '''q'''\ncalls = '''at,call,body,group,id,delay,receipt,max,wait,timeout,task\n0,send,abc,,,,,,,,\n1,send,abc,,,,,,,,\n2,send,abc,,,,,,,,\n3,send,abc,,,,,,,,\n5,receive,,,,,,4,,,\n10,delete,,,,,r-0-0-1,,,,\n21,delete,,,,,r-0-1-1,,,,\n32,delete,,,,,r-0-2-1,,,,\n43,delete,,,,,r-0-3-1,,,,\n'''\n")
    ≡ ran (((codes "at") ∷ (codes "queue") ∷ (codes "agent") ∷ (codes "call") ∷ (codes "answer") ∷ (codes "message") ∷ (codes "receipt") ∷ (codes "detail") ∷ []) ∷
    ((codes "0") ∷ (codes "q") ∷ (codes "s") ∷ (codes "send") ∷ (codes "new") ∷ (codes "m-0-0") ∷ [] ∷ digest (codes "abc") ∷ []) ∷
    ((codes "1") ∷ (codes "q") ∷ (codes "s") ∷ (codes "send") ∷ (codes "new") ∷ (codes "m-0-1") ∷ [] ∷ digest (codes "abc") ∷ []) ∷
    ((codes "2") ∷ (codes "q") ∷ (codes "s") ∷ (codes "send") ∷ (codes "new") ∷ (codes "m-0-2") ∷ [] ∷ digest (codes "abc") ∷ []) ∷
    ((codes "3") ∷ (codes "q") ∷ (codes "s") ∷ (codes "send") ∷ (codes "new") ∷ (codes "m-0-3") ∷ [] ∷ digest (codes "abc") ∷ []) ∷
    ((codes "5") ∷ (codes "q") ∷ (codes "s") ∷ (codes "receive") ∷ (codes "ok") ∷ (codes "m-0-0") ∷ (codes "r-0-0-1") ∷ (codes "o-0-0") ∷ []) ∷
    ((codes "5") ∷ (codes "q") ∷ (codes "s") ∷ (codes "receive") ∷ (codes "ok") ∷ (codes "m-0-1") ∷ (codes "r-0-1-1") ∷ (codes "o-0-1") ∷ []) ∷
    ((codes "5") ∷ (codes "q") ∷ (codes "s") ∷ (codes "receive") ∷ (codes "ok") ∷ (codes "m-0-2") ∷ (codes "r-0-2-1") ∷ (codes "o-0-2") ∷ []) ∷
    ((codes "5") ∷ (codes "q") ∷ (codes "s") ∷ (codes "receive") ∷ (codes "ok") ∷ (codes "m-0-3") ∷ (codes "r-0-3-1") ∷ (codes "o-0-3") ∷ []) ∷
    ((codes "10") ∷ (codes "q") ∷ (codes "s") ∷ (codes "delete") ∷ (codes "deleted") ∷ (codes "m-0-0") ∷ (codes "r-0-0-1") ∷ (codes "10") ∷ []) ∷
    ((codes "21") ∷ (codes "q") ∷ (codes "s") ∷ (codes "delete") ∷ (codes "deleted") ∷ (codes "m-0-1") ∷ (codes "r-0-1-1") ∷ (codes "20") ∷ []) ∷
    ((codes "32") ∷ (codes "q") ∷ (codes "s") ∷ (codes "delete") ∷ (codes "deleted") ∷ (codes "m-0-2") ∷ (codes "r-0-2-1") ∷ (codes "30") ∷ []) ∷
    ((codes "43") ∷ (codes "q") ∷ (codes "s") ∷ (codes "delete") ∷ (codes "deleted") ∷ (codes "m-0-3") ∷ (codes "r-0-3-1") ∷ (codes "40") ∷ []) ∷
    ((codes "final") ∷ (codes "queue") ∷ (codes "message") ∷ (codes "origin") ∷ (codes "place") ∷ (codes "due") ∷ (codes "enqueued") ∷ (codes "receives") ∷ (codes "group") ∷ (codes "md5") ∷ []) ∷
    ((codes "transfer") ∷ (codes "from") ∷ (codes "to") ∷ (codes "kind") ∷ (codes "due") ∷ (codes "number") ∷ (codes "message") ∷ (codes "origin") ∷ (codes "md5") ∷ []) ∷
    ((codes "task") ∷ (codes "name") ∷ (codes "status") ∷ (codes "moved") ∷ []) ∷
    ((codes "report") ∷ (codes "queue") ∷ (codes "sends") ∷ (codes "repeats") ∷ (codes "receives") ∷ (codes "empties") ∷ (codes "deletes") ∷ (codes "expiries") ∷ (codes "redrives") ∷ (codes "moves") ∷ (codes "arrivals") ∷ (codes "OverLimit") ∷ (codes "MessageNotInflight") ∷ (codes "ReceiptHandleIsInvalid") ∷ (codes "BadTimeout") ∷ (codes "MissingGroup") ∷ (codes "MissingDeduplication") ∷ (codes "BadDelay") ∷ (codes "TaskRunning") ∷ (codes "NoTask") ∷ (codes "depth_max") ∷ (codes "visible") ∷ (codes "in_flight") ∷ (codes "delayed") ∷ (codes "age_sum") ∷ (codes "age_max") ∷ (codes "age_p50") ∷ (codes "age_p95") ∷ (codes "age_p99") ∷ []) ∷
    ((codes "report") ∷ (codes "q") ∷ (codes "4") ∷ (codes "0") ∷ (codes "4") ∷ (codes "0") ∷ (codes "4") ∷ (codes "0") ∷ (codes "0") ∷ (codes "0") ∷ (codes "0") ∷ (codes "0") ∷ (codes "0") ∷ (codes "0") ∷ (codes "0") ∷ (codes "0") ∷ (codes "0") ∷ (codes "0") ∷ (codes "0") ∷ (codes "0") ∷ (codes "4") ∷ (codes "0") ∷ (codes "0") ∷ (codes "0") ∷ (codes "100") ∷ (codes "40") ∷ (codes "20") ∷ (codes "40") ∷ (codes "40") ∷ []) ∷ [])
unfolding reading_on_literals running_on_literals columns_of
case_0_ages = refl

-- worked/arrival_at_the_end_of_a_window.toml
case_0_arrival_at_the_end_of_a_window : shown 4 [] (codes "version = 1\nhorizon = 2000\n[[queue]]\nname = '''q'''\nvisibility_s = 1\ndead_letter = '''d'''\nmax_receives = 1\nlatency_ms = 500\n[[queue]]\nname = '''d'''\n[[actor]]\nname = '''s'''\nkind = '''script'''\nqueue = '''q'''\ncalls = '''at,call,body,group,id,delay,receipt,max,wait,timeout,task\n0,send,abc,,,,,,,,\n500,receive,,,,,,,,0,\n'''\n")
    ≡ ran (((codes "at") ∷ (codes "queue") ∷ (codes "agent") ∷ (codes "call") ∷ (codes "answer") ∷ (codes "message") ∷ (codes "receipt") ∷ (codes "detail") ∷ []) ∷
    ((codes "0") ∷ (codes "q") ∷ (codes "s") ∷ (codes "send") ∷ (codes "new") ∷ (codes "m-0-0") ∷ [] ∷ digest (codes "abc") ∷ []) ∷
    ((codes "500") ∷ (codes "q") ∷ (codes "s") ∷ (codes "receive") ∷ (codes "ok") ∷ (codes "m-0-0") ∷ (codes "r-0-0-1") ∷ (codes "o-0-0") ∷ []) ∷
    ((codes "500") ∷ (codes "q") ∷ (codes "q") ∷ (codes "redrive") ∷ (codes "out") ∷ (codes "m-0-0") ∷ [] ∷ (codes "d") ∷ []) ∷
    ((codes "1000") ∷ (codes "d") ∷ (codes "q") ∷ (codes "arrive") ∷ (codes "new") ∷ (codes "m-1-0") ∷ [] ∷ (codes "o-0-0") ∷ []) ∷
    ((codes "final") ∷ (codes "queue") ∷ (codes "message") ∷ (codes "origin") ∷ (codes "place") ∷ (codes "due") ∷ (codes "enqueued") ∷ (codes "receives") ∷ (codes "group") ∷ (codes "md5") ∷ []) ∷
    ((codes "final") ∷ (codes "d") ∷ (codes "m-1-0") ∷ (codes "o-0-0") ∷ (codes "visible") ∷ [] ∷ (codes "0") ∷ (codes "0") ∷ [] ∷ digest (codes "abc") ∷ []) ∷
    ((codes "transfer") ∷ (codes "from") ∷ (codes "to") ∷ (codes "kind") ∷ (codes "due") ∷ (codes "number") ∷ (codes "message") ∷ (codes "origin") ∷ (codes "md5") ∷ []) ∷
    ((codes "task") ∷ (codes "name") ∷ (codes "status") ∷ (codes "moved") ∷ []) ∷
    ((codes "report") ∷ (codes "queue") ∷ (codes "sends") ∷ (codes "repeats") ∷ (codes "receives") ∷ (codes "empties") ∷ (codes "deletes") ∷ (codes "expiries") ∷ (codes "redrives") ∷ (codes "moves") ∷ (codes "arrivals") ∷ (codes "OverLimit") ∷ (codes "MessageNotInflight") ∷ (codes "ReceiptHandleIsInvalid") ∷ (codes "BadTimeout") ∷ (codes "MissingGroup") ∷ (codes "MissingDeduplication") ∷ (codes "BadDelay") ∷ (codes "TaskRunning") ∷ (codes "NoTask") ∷ (codes "depth_max") ∷ (codes "visible") ∷ (codes "in_flight") ∷ (codes "delayed") ∷ (codes "age_sum") ∷ (codes "age_max") ∷ (codes "age_p50") ∷ (codes "age_p95") ∷ (codes "age_p99") ∷ []) ∷
    ((codes "report") ∷ (codes "q") ∷ (codes "1") ∷ (codes "0") ∷ (codes "1") ∷ (codes "0") ∷ (codes "0") ∷ (codes "0") ∷ (codes "1") ∷ (codes "0") ∷ (codes "0") ∷ (codes "0") ∷ (codes "0") ∷ (codes "0") ∷ (codes "0") ∷ (codes "0") ∷ (codes "0") ∷ (codes "0") ∷ (codes "0") ∷ (codes "0") ∷ (codes "1") ∷ (codes "0") ∷ (codes "0") ∷ (codes "0") ∷ (codes "0") ∷ [] ∷ [] ∷ [] ∷ [] ∷ []) ∷
    ((codes "report") ∷ (codes "d") ∷ (codes "0") ∷ (codes "0") ∷ (codes "0") ∷ (codes "0") ∷ (codes "0") ∷ (codes "0") ∷ (codes "0") ∷ (codes "0") ∷ (codes "1") ∷ (codes "0") ∷ (codes "0") ∷ (codes "0") ∷ (codes "0") ∷ (codes "0") ∷ (codes "0") ∷ (codes "0") ∷ (codes "0") ∷ (codes "0") ∷ (codes "1") ∷ (codes "1") ∷ (codes "0") ∷ (codes "0") ∷ (codes "0") ∷ [] ∷ [] ∷ [] ∷ [] ∷ []) ∷ [])
unfolding reading_on_literals running_on_literals columns_of
case_0_arrival_at_the_end_of_a_window = refl

-- worked/call_after_a_wait.toml
case_0_call_after_a_wait : shown 3 [] (codes "version = 1\nhorizon = 30000\n[[queue]]\nname = 'q'\n[[actor]]\nname = 'a'\nkind = 'script'\nqueue = 'q'\ncalls = '''\nat,call,body,group,id,delay,receipt,max,wait,timeout,task\n0,receive,,,,,,,20,,\n20001,receive,,,,,,,,,\n'''\n")
    ≡ ran (((codes "at") ∷ (codes "queue") ∷ (codes "agent") ∷ (codes "call") ∷ (codes "answer") ∷ (codes "message") ∷ (codes "receipt") ∷ (codes "detail") ∷ []) ∷
    ((codes "0") ∷ (codes "q") ∷ (codes "a") ∷ (codes "receive") ∷ (codes "wait") ∷ [] ∷ [] ∷ [] ∷ []) ∷
    ((codes "20000") ∷ (codes "q") ∷ (codes "a") ∷ (codes "receive") ∷ (codes "empty") ∷ [] ∷ [] ∷ [] ∷ []) ∷
    ((codes "20001") ∷ (codes "q") ∷ (codes "a") ∷ (codes "receive") ∷ (codes "empty") ∷ [] ∷ [] ∷ [] ∷ []) ∷
    ((codes "final") ∷ (codes "queue") ∷ (codes "message") ∷ (codes "origin") ∷ (codes "place") ∷ (codes "due") ∷ (codes "enqueued") ∷ (codes "receives") ∷ (codes "group") ∷ (codes "md5") ∷ []) ∷
    ((codes "transfer") ∷ (codes "from") ∷ (codes "to") ∷ (codes "kind") ∷ (codes "due") ∷ (codes "number") ∷ (codes "message") ∷ (codes "origin") ∷ (codes "md5") ∷ []) ∷
    ((codes "task") ∷ (codes "name") ∷ (codes "status") ∷ (codes "moved") ∷ []) ∷
    ((codes "report") ∷ (codes "queue") ∷ (codes "sends") ∷ (codes "repeats") ∷ (codes "receives") ∷ (codes "empties") ∷ (codes "deletes") ∷ (codes "expiries") ∷ (codes "redrives") ∷ (codes "moves") ∷ (codes "arrivals") ∷ (codes "OverLimit") ∷ (codes "MessageNotInflight") ∷ (codes "ReceiptHandleIsInvalid") ∷ (codes "BadTimeout") ∷ (codes "MissingGroup") ∷ (codes "MissingDeduplication") ∷ (codes "BadDelay") ∷ (codes "TaskRunning") ∷ (codes "NoTask") ∷ (codes "depth_max") ∷ (codes "visible") ∷ (codes "in_flight") ∷ (codes "delayed") ∷ (codes "age_sum") ∷ (codes "age_max") ∷ (codes "age_p50") ∷ (codes "age_p95") ∷ (codes "age_p99") ∷ []) ∷
    ((codes "report") ∷ (codes "q") ∷ (codes "0") ∷ (codes "0") ∷ (codes "0") ∷ (codes "2") ∷ (codes "0") ∷ (codes "0") ∷ (codes "0") ∷ (codes "0") ∷ (codes "0") ∷ (codes "0") ∷ (codes "0") ∷ (codes "0") ∷ (codes "0") ∷ (codes "0") ∷ (codes "0") ∷ (codes "0") ∷ (codes "0") ∷ (codes "0") ∷ (codes "0") ∷ (codes "0") ∷ (codes "0") ∷ (codes "0") ∷ (codes "0") ∷ [] ∷ [] ∷ [] ∷ [] ∷ []) ∷ [])
unfolding reading_on_literals running_on_literals columns_of
case_0_call_after_a_wait = refl

-- worked/change_of_visibility.toml
case_0_change_of_visibility : shown 8 [] (codes "version = 1\nhorizon = 1000\n[[queue]]\nname = '''q'''\n[[actor]]\nname = '''s'''\nkind = '''script'''\nqueue = '''q'''\ncalls = '''at,call,body,group,id,delay,receipt,max,wait,timeout,task\n0,send,abc,,,,,,,,\n100,receive,,,,,,,,,\n200,change,,,,,r-0-0-1,,,43201,\n250,change,,,,,r-0-0-1,,,43200,\n300,change,,,,,r-0-0-1,,,0,\n400,change,,,,,r-0-0-1,,,10,\n500,change,,,,,r-0-9-1,,,10,\n'''\n")
    ≡ ran (((codes "at") ∷ (codes "queue") ∷ (codes "agent") ∷ (codes "call") ∷ (codes "answer") ∷ (codes "message") ∷ (codes "receipt") ∷ (codes "detail") ∷ []) ∷
    ((codes "0") ∷ (codes "q") ∷ (codes "s") ∷ (codes "send") ∷ (codes "new") ∷ (codes "m-0-0") ∷ [] ∷ digest (codes "abc") ∷ []) ∷
    ((codes "100") ∷ (codes "q") ∷ (codes "s") ∷ (codes "receive") ∷ (codes "ok") ∷ (codes "m-0-0") ∷ (codes "r-0-0-1") ∷ (codes "o-0-0") ∷ []) ∷
    ((codes "200") ∷ (codes "q") ∷ (codes "s") ∷ (codes "change") ∷ (codes "BadTimeout") ∷ [] ∷ (codes "r-0-0-1") ∷ [] ∷ []) ∷
    ((codes "250") ∷ (codes "q") ∷ (codes "s") ∷ (codes "change") ∷ (codes "BadTimeout") ∷ [] ∷ (codes "r-0-0-1") ∷ [] ∷ []) ∷
    ((codes "300") ∷ (codes "q") ∷ (codes "s") ∷ (codes "change") ∷ (codes "ok") ∷ (codes "m-0-0") ∷ (codes "r-0-0-1") ∷ (codes "0") ∷ []) ∷
    ((codes "300") ∷ (codes "q") ∷ (codes "q") ∷ (codes "release") ∷ (codes "visible") ∷ (codes "m-0-0") ∷ [] ∷ [] ∷ []) ∷
    ((codes "400") ∷ (codes "q") ∷ (codes "s") ∷ (codes "change") ∷ (codes "MessageNotInflight") ∷ [] ∷ (codes "r-0-0-1") ∷ [] ∷ []) ∷
    ((codes "500") ∷ (codes "q") ∷ (codes "s") ∷ (codes "change") ∷ (codes "ReceiptHandleIsInvalid") ∷ [] ∷ (codes "r-0-9-1") ∷ [] ∷ []) ∷
    ((codes "final") ∷ (codes "queue") ∷ (codes "message") ∷ (codes "origin") ∷ (codes "place") ∷ (codes "due") ∷ (codes "enqueued") ∷ (codes "receives") ∷ (codes "group") ∷ (codes "md5") ∷ []) ∷
    ((codes "final") ∷ (codes "q") ∷ (codes "m-0-0") ∷ (codes "o-0-0") ∷ (codes "visible") ∷ [] ∷ (codes "0") ∷ (codes "1") ∷ [] ∷ digest (codes "abc") ∷ []) ∷
    ((codes "transfer") ∷ (codes "from") ∷ (codes "to") ∷ (codes "kind") ∷ (codes "due") ∷ (codes "number") ∷ (codes "message") ∷ (codes "origin") ∷ (codes "md5") ∷ []) ∷
    ((codes "task") ∷ (codes "name") ∷ (codes "status") ∷ (codes "moved") ∷ []) ∷
    ((codes "report") ∷ (codes "queue") ∷ (codes "sends") ∷ (codes "repeats") ∷ (codes "receives") ∷ (codes "empties") ∷ (codes "deletes") ∷ (codes "expiries") ∷ (codes "redrives") ∷ (codes "moves") ∷ (codes "arrivals") ∷ (codes "OverLimit") ∷ (codes "MessageNotInflight") ∷ (codes "ReceiptHandleIsInvalid") ∷ (codes "BadTimeout") ∷ (codes "MissingGroup") ∷ (codes "MissingDeduplication") ∷ (codes "BadDelay") ∷ (codes "TaskRunning") ∷ (codes "NoTask") ∷ (codes "depth_max") ∷ (codes "visible") ∷ (codes "in_flight") ∷ (codes "delayed") ∷ (codes "age_sum") ∷ (codes "age_max") ∷ (codes "age_p50") ∷ (codes "age_p95") ∷ (codes "age_p99") ∷ []) ∷
    ((codes "report") ∷ (codes "q") ∷ (codes "1") ∷ (codes "0") ∷ (codes "1") ∷ (codes "0") ∷ (codes "0") ∷ (codes "0") ∷ (codes "0") ∷ (codes "0") ∷ (codes "0") ∷ (codes "0") ∷ (codes "1") ∷ (codes "1") ∷ (codes "2") ∷ (codes "0") ∷ (codes "0") ∷ (codes "0") ∷ (codes "0") ∷ (codes "0") ∷ (codes "1") ∷ (codes "1") ∷ (codes "0") ∷ (codes "0") ∷ (codes "0") ∷ [] ∷ [] ∷ [] ∷ [] ∷ []) ∷ [])
unfolding reading_on_literals running_on_literals columns_of
case_0_change_of_visibility = refl

-- worked/content_deduplication_after_delete.toml
case_0_content_deduplication_after_delete : shown 4 [] (codes "version = 1\nhorizon = 1000\n[[queue]]\nname = '''f.fifo'''\ncontent_dedup = true\n[[actor]]\nname = '''s'''\nkind = '''script'''\nqueue = '''f.fifo'''\ncalls = '''at,call,body,group,id,delay,receipt,max,wait,timeout,task\n0,send,abc,g,,,,,,,\n100,receive,,,,,,,,,\n200,delete,,,,,r-0-0-1,,,,\n300,send,abc,g,,,,,,,\n'''\n")
    ≡ ran (((codes "at") ∷ (codes "queue") ∷ (codes "agent") ∷ (codes "call") ∷ (codes "answer") ∷ (codes "message") ∷ (codes "receipt") ∷ (codes "detail") ∷ []) ∷
    ((codes "0") ∷ (codes "f.fifo") ∷ (codes "s") ∷ (codes "send") ∷ (codes "new") ∷ (codes "m-0-0") ∷ [] ∷ digest (codes "abc") ∷ []) ∷
    ((codes "100") ∷ (codes "f.fifo") ∷ (codes "s") ∷ (codes "receive") ∷ (codes "ok") ∷ (codes "m-0-0") ∷ (codes "r-0-0-1") ∷ (codes "o-0-0") ∷ []) ∷
    ((codes "200") ∷ (codes "f.fifo") ∷ (codes "s") ∷ (codes "delete") ∷ (codes "deleted") ∷ (codes "m-0-0") ∷ (codes "r-0-0-1") ∷ (codes "200") ∷ []) ∷
    ((codes "300") ∷ (codes "f.fifo") ∷ (codes "s") ∷ (codes "send") ∷ (codes "repeat") ∷ (codes "m-0-0") ∷ [] ∷ digest (codes "abc") ∷ []) ∷
    ((codes "final") ∷ (codes "queue") ∷ (codes "message") ∷ (codes "origin") ∷ (codes "place") ∷ (codes "due") ∷ (codes "enqueued") ∷ (codes "receives") ∷ (codes "group") ∷ (codes "md5") ∷ []) ∷
    ((codes "transfer") ∷ (codes "from") ∷ (codes "to") ∷ (codes "kind") ∷ (codes "due") ∷ (codes "number") ∷ (codes "message") ∷ (codes "origin") ∷ (codes "md5") ∷ []) ∷
    ((codes "task") ∷ (codes "name") ∷ (codes "status") ∷ (codes "moved") ∷ []) ∷
    ((codes "report") ∷ (codes "queue") ∷ (codes "sends") ∷ (codes "repeats") ∷ (codes "receives") ∷ (codes "empties") ∷ (codes "deletes") ∷ (codes "expiries") ∷ (codes "redrives") ∷ (codes "moves") ∷ (codes "arrivals") ∷ (codes "OverLimit") ∷ (codes "MessageNotInflight") ∷ (codes "ReceiptHandleIsInvalid") ∷ (codes "BadTimeout") ∷ (codes "MissingGroup") ∷ (codes "MissingDeduplication") ∷ (codes "BadDelay") ∷ (codes "TaskRunning") ∷ (codes "NoTask") ∷ (codes "depth_max") ∷ (codes "visible") ∷ (codes "in_flight") ∷ (codes "delayed") ∷ (codes "age_sum") ∷ (codes "age_max") ∷ (codes "age_p50") ∷ (codes "age_p95") ∷ (codes "age_p99") ∷ []) ∷
    ((codes "report") ∷ (codes "f.fifo") ∷ (codes "1") ∷ (codes "1") ∷ (codes "1") ∷ (codes "0") ∷ (codes "1") ∷ (codes "0") ∷ (codes "0") ∷ (codes "0") ∷ (codes "0") ∷ (codes "0") ∷ (codes "0") ∷ (codes "0") ∷ (codes "0") ∷ (codes "0") ∷ (codes "0") ∷ (codes "0") ∷ (codes "0") ∷ (codes "0") ∷ (codes "1") ∷ (codes "0") ∷ (codes "0") ∷ (codes "0") ∷ (codes "200") ∷ (codes "200") ∷ (codes "200") ∷ (codes "200") ∷ (codes "200") ∷ []) ∷ [])
unfolding reading_on_literals running_on_literals columns_of
case_0_content_deduplication_after_delete = refl

-- worked/dead_letter_expires_as_it_arrives.toml
case_0_dead_letter_expires_as_it_arrives : shown 5 [] (codes "version = 1\nhorizon = 100000\n[[queue]]\nname = '''q'''\ndead_letter = '''d'''\nmax_receives = 1\nlatency_ms = 500\n[[queue]]\nname = '''d'''\nretention_s = 60\n[[actor]]\nname = '''s'''\nkind = '''script'''\nqueue = '''q'''\ncalls = '''at,call,body,group,id,delay,receipt,max,wait,timeout,task\n0,send,abc,,,,,,,,\n100,receive,,,,,,,,60,\n'''\n")
    ≡ ran (((codes "at") ∷ (codes "queue") ∷ (codes "agent") ∷ (codes "call") ∷ (codes "answer") ∷ (codes "message") ∷ (codes "receipt") ∷ (codes "detail") ∷ []) ∷
    ((codes "0") ∷ (codes "q") ∷ (codes "s") ∷ (codes "send") ∷ (codes "new") ∷ (codes "m-0-0") ∷ [] ∷ digest (codes "abc") ∷ []) ∷
    ((codes "100") ∷ (codes "q") ∷ (codes "s") ∷ (codes "receive") ∷ (codes "ok") ∷ (codes "m-0-0") ∷ (codes "r-0-0-1") ∷ (codes "o-0-0") ∷ []) ∷
    ((codes "60100") ∷ (codes "q") ∷ (codes "q") ∷ (codes "redrive") ∷ (codes "out") ∷ (codes "m-0-0") ∷ [] ∷ (codes "d") ∷ []) ∷
    ((codes "60600") ∷ (codes "d") ∷ (codes "q") ∷ (codes "arrive") ∷ (codes "new") ∷ (codes "m-1-0") ∷ [] ∷ (codes "o-0-0") ∷ []) ∷
    ((codes "60600") ∷ (codes "d") ∷ (codes "d") ∷ (codes "expire") ∷ (codes "expired") ∷ (codes "m-1-0") ∷ [] ∷ (codes "60600") ∷ []) ∷
    ((codes "final") ∷ (codes "queue") ∷ (codes "message") ∷ (codes "origin") ∷ (codes "place") ∷ (codes "due") ∷ (codes "enqueued") ∷ (codes "receives") ∷ (codes "group") ∷ (codes "md5") ∷ []) ∷
    ((codes "transfer") ∷ (codes "from") ∷ (codes "to") ∷ (codes "kind") ∷ (codes "due") ∷ (codes "number") ∷ (codes "message") ∷ (codes "origin") ∷ (codes "md5") ∷ []) ∷
    ((codes "task") ∷ (codes "name") ∷ (codes "status") ∷ (codes "moved") ∷ []) ∷
    ((codes "report") ∷ (codes "queue") ∷ (codes "sends") ∷ (codes "repeats") ∷ (codes "receives") ∷ (codes "empties") ∷ (codes "deletes") ∷ (codes "expiries") ∷ (codes "redrives") ∷ (codes "moves") ∷ (codes "arrivals") ∷ (codes "OverLimit") ∷ (codes "MessageNotInflight") ∷ (codes "ReceiptHandleIsInvalid") ∷ (codes "BadTimeout") ∷ (codes "MissingGroup") ∷ (codes "MissingDeduplication") ∷ (codes "BadDelay") ∷ (codes "TaskRunning") ∷ (codes "NoTask") ∷ (codes "depth_max") ∷ (codes "visible") ∷ (codes "in_flight") ∷ (codes "delayed") ∷ (codes "age_sum") ∷ (codes "age_max") ∷ (codes "age_p50") ∷ (codes "age_p95") ∷ (codes "age_p99") ∷ []) ∷
    ((codes "report") ∷ (codes "q") ∷ (codes "1") ∷ (codes "0") ∷ (codes "1") ∷ (codes "0") ∷ (codes "0") ∷ (codes "0") ∷ (codes "1") ∷ (codes "0") ∷ (codes "0") ∷ (codes "0") ∷ (codes "0") ∷ (codes "0") ∷ (codes "0") ∷ (codes "0") ∷ (codes "0") ∷ (codes "0") ∷ (codes "0") ∷ (codes "0") ∷ (codes "1") ∷ (codes "0") ∷ (codes "0") ∷ (codes "0") ∷ (codes "0") ∷ [] ∷ [] ∷ [] ∷ [] ∷ []) ∷
    ((codes "report") ∷ (codes "d") ∷ (codes "0") ∷ (codes "0") ∷ (codes "0") ∷ (codes "0") ∷ (codes "0") ∷ (codes "1") ∷ (codes "0") ∷ (codes "0") ∷ (codes "1") ∷ (codes "0") ∷ (codes "0") ∷ (codes "0") ∷ (codes "0") ∷ (codes "0") ∷ (codes "0") ∷ (codes "0") ∷ (codes "0") ∷ (codes "0") ∷ (codes "1") ∷ (codes "0") ∷ (codes "0") ∷ (codes "0") ∷ (codes "0") ∷ [] ∷ [] ∷ [] ∷ [] ∷ []) ∷ [])
unfolding reading_on_literals running_on_literals columns_of
case_0_dead_letter_expires_as_it_arrives = refl

-- worked/deduplication_interval.toml
case_0_deduplication_interval : shown 3 [] (codes "version = 1\nhorizon = 300000\n[[queue]]\nname = '''f.fifo'''\n[[actor]]\nname = '''s'''\nkind = '''script'''\nqueue = '''f.fifo'''\ncalls = '''at,call,body,group,id,delay,receipt,max,wait,timeout,task\n0,send,abc,g,x,,,,,,\n299999,send,abc,g,x,,,,,,\n300000,send,abc,g,x,,,,,,\n'''\n")
    ≡ ran (((codes "at") ∷ (codes "queue") ∷ (codes "agent") ∷ (codes "call") ∷ (codes "answer") ∷ (codes "message") ∷ (codes "receipt") ∷ (codes "detail") ∷ []) ∷
    ((codes "0") ∷ (codes "f.fifo") ∷ (codes "s") ∷ (codes "send") ∷ (codes "new") ∷ (codes "m-0-0") ∷ [] ∷ digest (codes "abc") ∷ []) ∷
    ((codes "299999") ∷ (codes "f.fifo") ∷ (codes "s") ∷ (codes "send") ∷ (codes "repeat") ∷ (codes "m-0-0") ∷ [] ∷ digest (codes "abc") ∷ []) ∷
    ((codes "300000") ∷ (codes "f.fifo") ∷ (codes "s") ∷ (codes "send") ∷ (codes "new") ∷ (codes "m-0-1") ∷ [] ∷ digest (codes "abc") ∷ []) ∷
    ((codes "final") ∷ (codes "queue") ∷ (codes "message") ∷ (codes "origin") ∷ (codes "place") ∷ (codes "due") ∷ (codes "enqueued") ∷ (codes "receives") ∷ (codes "group") ∷ (codes "md5") ∷ []) ∷
    ((codes "final") ∷ (codes "f.fifo") ∷ (codes "m-0-0") ∷ (codes "o-0-0") ∷ (codes "visible") ∷ [] ∷ (codes "0") ∷ (codes "0") ∷ (codes "g") ∷ digest (codes "abc") ∷ []) ∷
    ((codes "final") ∷ (codes "f.fifo") ∷ (codes "m-0-1") ∷ (codes "o-0-1") ∷ (codes "visible") ∷ [] ∷ (codes "300000") ∷ (codes "0") ∷ (codes "g") ∷ digest (codes "abc") ∷ []) ∷
    ((codes "transfer") ∷ (codes "from") ∷ (codes "to") ∷ (codes "kind") ∷ (codes "due") ∷ (codes "number") ∷ (codes "message") ∷ (codes "origin") ∷ (codes "md5") ∷ []) ∷
    ((codes "task") ∷ (codes "name") ∷ (codes "status") ∷ (codes "moved") ∷ []) ∷
    ((codes "report") ∷ (codes "queue") ∷ (codes "sends") ∷ (codes "repeats") ∷ (codes "receives") ∷ (codes "empties") ∷ (codes "deletes") ∷ (codes "expiries") ∷ (codes "redrives") ∷ (codes "moves") ∷ (codes "arrivals") ∷ (codes "OverLimit") ∷ (codes "MessageNotInflight") ∷ (codes "ReceiptHandleIsInvalid") ∷ (codes "BadTimeout") ∷ (codes "MissingGroup") ∷ (codes "MissingDeduplication") ∷ (codes "BadDelay") ∷ (codes "TaskRunning") ∷ (codes "NoTask") ∷ (codes "depth_max") ∷ (codes "visible") ∷ (codes "in_flight") ∷ (codes "delayed") ∷ (codes "age_sum") ∷ (codes "age_max") ∷ (codes "age_p50") ∷ (codes "age_p95") ∷ (codes "age_p99") ∷ []) ∷
    ((codes "report") ∷ (codes "f.fifo") ∷ (codes "2") ∷ (codes "1") ∷ (codes "0") ∷ (codes "0") ∷ (codes "0") ∷ (codes "0") ∷ (codes "0") ∷ (codes "0") ∷ (codes "0") ∷ (codes "0") ∷ (codes "0") ∷ (codes "0") ∷ (codes "0") ∷ (codes "0") ∷ (codes "0") ∷ (codes "0") ∷ (codes "0") ∷ (codes "0") ∷ (codes "2") ∷ (codes "2") ∷ (codes "0") ∷ (codes "0") ∷ (codes "0") ∷ [] ∷ [] ∷ [] ∷ [] ∷ []) ∷ [])
unfolding reading_on_literals running_on_literals columns_of
case_0_deduplication_interval = refl

-- worked/eight_queues.toml
case_0_eight_queues : shown 8 [] (codes "version = 1\nhorizon = 1000\n[[queue]]\nname = '''q0'''\n[[queue]]\nname = '''q1'''\n[[queue]]\nname = '''q2'''\n[[queue]]\nname = '''q3'''\n[[queue]]\nname = '''q4'''\n[[queue]]\nname = '''q5'''\n[[queue]]\nname = '''q6'''\n[[queue]]\nname = '''q7'''\n[[actor]]\nname = '''s0'''\nkind = '''script'''\nqueue = '''q0'''\ncalls = '''at,call,body,group,id,delay,receipt,max,wait,timeout,task\n0,send,abc,,,,,,,,\n'''\n[[actor]]\nname = '''s1'''\nkind = '''script'''\nqueue = '''q1'''\ncalls = '''at,call,body,group,id,delay,receipt,max,wait,timeout,task\n0,send,abc,,,,,,,,\n'''\n[[actor]]\nname = '''s2'''\nkind = '''script'''\nqueue = '''q2'''\ncalls = '''at,call,body,group,id,delay,receipt,max,wait,timeout,task\n0,send,abc,,,,,,,,\n'''\n[[actor]]\nname = '''s3'''\nkind = '''script'''\nqueue = '''q3'''\ncalls = '''at,call,body,group,id,delay,receipt,max,wait,timeout,task\n0,send,abc,,,,,,,,\n'''\n[[actor]]\nname = '''s4'''\nkind = '''script'''\nqueue = '''q4'''\ncalls = '''at,call,body,group,id,delay,receipt,max,wait,timeout,task\n0,send,abc,,,,,,,,\n'''\n[[actor]]\nname = '''s5'''\nkind = '''script'''\nqueue = '''q5'''\ncalls = '''at,call,body,group,id,delay,receipt,max,wait,timeout,task\n0,send,abc,,,,,,,,\n'''\n[[actor]]\nname = '''s6'''\nkind = '''script'''\nqueue = '''q6'''\ncalls = '''at,call,body,group,id,delay,receipt,max,wait,timeout,task\n0,send,abc,,,,,,,,\n'''\n[[actor]]\nname = '''s7'''\nkind = '''script'''\nqueue = '''q7'''\ncalls = '''at,call,body,group,id,delay,receipt,max,wait,timeout,task\n0,send,abc,,,,,,,,\n'''\n")
    ≡ ran (((codes "at") ∷ (codes "queue") ∷ (codes "agent") ∷ (codes "call") ∷ (codes "answer") ∷ (codes "message") ∷ (codes "receipt") ∷ (codes "detail") ∷ []) ∷
    ((codes "0") ∷ (codes "q0") ∷ (codes "s0") ∷ (codes "send") ∷ (codes "new") ∷ (codes "m-0-0") ∷ [] ∷ digest (codes "abc") ∷ []) ∷
    ((codes "0") ∷ (codes "q1") ∷ (codes "s1") ∷ (codes "send") ∷ (codes "new") ∷ (codes "m-1-0") ∷ [] ∷ digest (codes "abc") ∷ []) ∷
    ((codes "0") ∷ (codes "q2") ∷ (codes "s2") ∷ (codes "send") ∷ (codes "new") ∷ (codes "m-2-0") ∷ [] ∷ digest (codes "abc") ∷ []) ∷
    ((codes "0") ∷ (codes "q3") ∷ (codes "s3") ∷ (codes "send") ∷ (codes "new") ∷ (codes "m-3-0") ∷ [] ∷ digest (codes "abc") ∷ []) ∷
    ((codes "0") ∷ (codes "q4") ∷ (codes "s4") ∷ (codes "send") ∷ (codes "new") ∷ (codes "m-4-0") ∷ [] ∷ digest (codes "abc") ∷ []) ∷
    ((codes "0") ∷ (codes "q5") ∷ (codes "s5") ∷ (codes "send") ∷ (codes "new") ∷ (codes "m-5-0") ∷ [] ∷ digest (codes "abc") ∷ []) ∷
    ((codes "0") ∷ (codes "q6") ∷ (codes "s6") ∷ (codes "send") ∷ (codes "new") ∷ (codes "m-6-0") ∷ [] ∷ digest (codes "abc") ∷ []) ∷
    ((codes "0") ∷ (codes "q7") ∷ (codes "s7") ∷ (codes "send") ∷ (codes "new") ∷ (codes "m-7-0") ∷ [] ∷ digest (codes "abc") ∷ []) ∷
    ((codes "final") ∷ (codes "queue") ∷ (codes "message") ∷ (codes "origin") ∷ (codes "place") ∷ (codes "due") ∷ (codes "enqueued") ∷ (codes "receives") ∷ (codes "group") ∷ (codes "md5") ∷ []) ∷
    ((codes "final") ∷ (codes "q0") ∷ (codes "m-0-0") ∷ (codes "o-0-0") ∷ (codes "visible") ∷ [] ∷ (codes "0") ∷ (codes "0") ∷ [] ∷ digest (codes "abc") ∷ []) ∷
    ((codes "final") ∷ (codes "q1") ∷ (codes "m-1-0") ∷ (codes "o-1-0") ∷ (codes "visible") ∷ [] ∷ (codes "0") ∷ (codes "0") ∷ [] ∷ digest (codes "abc") ∷ []) ∷
    ((codes "final") ∷ (codes "q2") ∷ (codes "m-2-0") ∷ (codes "o-2-0") ∷ (codes "visible") ∷ [] ∷ (codes "0") ∷ (codes "0") ∷ [] ∷ digest (codes "abc") ∷ []) ∷
    ((codes "final") ∷ (codes "q3") ∷ (codes "m-3-0") ∷ (codes "o-3-0") ∷ (codes "visible") ∷ [] ∷ (codes "0") ∷ (codes "0") ∷ [] ∷ digest (codes "abc") ∷ []) ∷
    ((codes "final") ∷ (codes "q4") ∷ (codes "m-4-0") ∷ (codes "o-4-0") ∷ (codes "visible") ∷ [] ∷ (codes "0") ∷ (codes "0") ∷ [] ∷ digest (codes "abc") ∷ []) ∷
    ((codes "final") ∷ (codes "q5") ∷ (codes "m-5-0") ∷ (codes "o-5-0") ∷ (codes "visible") ∷ [] ∷ (codes "0") ∷ (codes "0") ∷ [] ∷ digest (codes "abc") ∷ []) ∷
    ((codes "final") ∷ (codes "q6") ∷ (codes "m-6-0") ∷ (codes "o-6-0") ∷ (codes "visible") ∷ [] ∷ (codes "0") ∷ (codes "0") ∷ [] ∷ digest (codes "abc") ∷ []) ∷
    ((codes "final") ∷ (codes "q7") ∷ (codes "m-7-0") ∷ (codes "o-7-0") ∷ (codes "visible") ∷ [] ∷ (codes "0") ∷ (codes "0") ∷ [] ∷ digest (codes "abc") ∷ []) ∷
    ((codes "transfer") ∷ (codes "from") ∷ (codes "to") ∷ (codes "kind") ∷ (codes "due") ∷ (codes "number") ∷ (codes "message") ∷ (codes "origin") ∷ (codes "md5") ∷ []) ∷
    ((codes "task") ∷ (codes "name") ∷ (codes "status") ∷ (codes "moved") ∷ []) ∷
    ((codes "report") ∷ (codes "queue") ∷ (codes "sends") ∷ (codes "repeats") ∷ (codes "receives") ∷ (codes "empties") ∷ (codes "deletes") ∷ (codes "expiries") ∷ (codes "redrives") ∷ (codes "moves") ∷ (codes "arrivals") ∷ (codes "OverLimit") ∷ (codes "MessageNotInflight") ∷ (codes "ReceiptHandleIsInvalid") ∷ (codes "BadTimeout") ∷ (codes "MissingGroup") ∷ (codes "MissingDeduplication") ∷ (codes "BadDelay") ∷ (codes "TaskRunning") ∷ (codes "NoTask") ∷ (codes "depth_max") ∷ (codes "visible") ∷ (codes "in_flight") ∷ (codes "delayed") ∷ (codes "age_sum") ∷ (codes "age_max") ∷ (codes "age_p50") ∷ (codes "age_p95") ∷ (codes "age_p99") ∷ []) ∷
    ((codes "report") ∷ (codes "q0") ∷ (codes "1") ∷ (codes "0") ∷ (codes "0") ∷ (codes "0") ∷ (codes "0") ∷ (codes "0") ∷ (codes "0") ∷ (codes "0") ∷ (codes "0") ∷ (codes "0") ∷ (codes "0") ∷ (codes "0") ∷ (codes "0") ∷ (codes "0") ∷ (codes "0") ∷ (codes "0") ∷ (codes "0") ∷ (codes "0") ∷ (codes "1") ∷ (codes "1") ∷ (codes "0") ∷ (codes "0") ∷ (codes "0") ∷ [] ∷ [] ∷ [] ∷ [] ∷ []) ∷
    ((codes "report") ∷ (codes "q1") ∷ (codes "1") ∷ (codes "0") ∷ (codes "0") ∷ (codes "0") ∷ (codes "0") ∷ (codes "0") ∷ (codes "0") ∷ (codes "0") ∷ (codes "0") ∷ (codes "0") ∷ (codes "0") ∷ (codes "0") ∷ (codes "0") ∷ (codes "0") ∷ (codes "0") ∷ (codes "0") ∷ (codes "0") ∷ (codes "0") ∷ (codes "1") ∷ (codes "1") ∷ (codes "0") ∷ (codes "0") ∷ (codes "0") ∷ [] ∷ [] ∷ [] ∷ [] ∷ []) ∷
    ((codes "report") ∷ (codes "q2") ∷ (codes "1") ∷ (codes "0") ∷ (codes "0") ∷ (codes "0") ∷ (codes "0") ∷ (codes "0") ∷ (codes "0") ∷ (codes "0") ∷ (codes "0") ∷ (codes "0") ∷ (codes "0") ∷ (codes "0") ∷ (codes "0") ∷ (codes "0") ∷ (codes "0") ∷ (codes "0") ∷ (codes "0") ∷ (codes "0") ∷ (codes "1") ∷ (codes "1") ∷ (codes "0") ∷ (codes "0") ∷ (codes "0") ∷ [] ∷ [] ∷ [] ∷ [] ∷ []) ∷
    ((codes "report") ∷ (codes "q3") ∷ (codes "1") ∷ (codes "0") ∷ (codes "0") ∷ (codes "0") ∷ (codes "0") ∷ (codes "0") ∷ (codes "0") ∷ (codes "0") ∷ (codes "0") ∷ (codes "0") ∷ (codes "0") ∷ (codes "0") ∷ (codes "0") ∷ (codes "0") ∷ (codes "0") ∷ (codes "0") ∷ (codes "0") ∷ (codes "0") ∷ (codes "1") ∷ (codes "1") ∷ (codes "0") ∷ (codes "0") ∷ (codes "0") ∷ [] ∷ [] ∷ [] ∷ [] ∷ []) ∷
    ((codes "report") ∷ (codes "q4") ∷ (codes "1") ∷ (codes "0") ∷ (codes "0") ∷ (codes "0") ∷ (codes "0") ∷ (codes "0") ∷ (codes "0") ∷ (codes "0") ∷ (codes "0") ∷ (codes "0") ∷ (codes "0") ∷ (codes "0") ∷ (codes "0") ∷ (codes "0") ∷ (codes "0") ∷ (codes "0") ∷ (codes "0") ∷ (codes "0") ∷ (codes "1") ∷ (codes "1") ∷ (codes "0") ∷ (codes "0") ∷ (codes "0") ∷ [] ∷ [] ∷ [] ∷ [] ∷ []) ∷
    ((codes "report") ∷ (codes "q5") ∷ (codes "1") ∷ (codes "0") ∷ (codes "0") ∷ (codes "0") ∷ (codes "0") ∷ (codes "0") ∷ (codes "0") ∷ (codes "0") ∷ (codes "0") ∷ (codes "0") ∷ (codes "0") ∷ (codes "0") ∷ (codes "0") ∷ (codes "0") ∷ (codes "0") ∷ (codes "0") ∷ (codes "0") ∷ (codes "0") ∷ (codes "1") ∷ (codes "1") ∷ (codes "0") ∷ (codes "0") ∷ (codes "0") ∷ [] ∷ [] ∷ [] ∷ [] ∷ []) ∷
    ((codes "report") ∷ (codes "q6") ∷ (codes "1") ∷ (codes "0") ∷ (codes "0") ∷ (codes "0") ∷ (codes "0") ∷ (codes "0") ∷ (codes "0") ∷ (codes "0") ∷ (codes "0") ∷ (codes "0") ∷ (codes "0") ∷ (codes "0") ∷ (codes "0") ∷ (codes "0") ∷ (codes "0") ∷ (codes "0") ∷ (codes "0") ∷ (codes "0") ∷ (codes "1") ∷ (codes "1") ∷ (codes "0") ∷ (codes "0") ∷ (codes "0") ∷ [] ∷ [] ∷ [] ∷ [] ∷ []) ∷
    ((codes "report") ∷ (codes "q7") ∷ (codes "1") ∷ (codes "0") ∷ (codes "0") ∷ (codes "0") ∷ (codes "0") ∷ (codes "0") ∷ (codes "0") ∷ (codes "0") ∷ (codes "0") ∷ (codes "0") ∷ (codes "0") ∷ (codes "0") ∷ (codes "0") ∷ (codes "0") ∷ (codes "0") ∷ (codes "0") ∷ (codes "0") ∷ (codes "0") ∷ (codes "1") ∷ (codes "1") ∷ (codes "0") ∷ (codes "0") ∷ (codes "0") ∷ [] ∷ [] ∷ [] ∷ [] ∷ []) ∷ [])
unfolding reading_on_literals running_on_literals columns_of
case_0_eight_queues = refl

-- worked/fifo_dead_letter_is_enqueued_anew.toml
case_0_fifo_dead_letter_is_enqueued_anew : shown 4 [] (codes "version = 1\nhorizon = 100000\n[[queue]]\nname = '''q.fifo'''\ndead_letter = '''d.fifo'''\nmax_receives = 1\nlatency_ms = 500\n[[queue]]\nname = '''d.fifo'''\nretention_s = 60\n[[actor]]\nname = '''s'''\nkind = '''script'''\nqueue = '''q.fifo'''\ncalls = '''at,call,body,group,id,delay,receipt,max,wait,timeout,task\n0,send,abc,g,x,,,,,,\n100,receive,,,,,,,,60,\n'''\n")
    ≡ ran (((codes "at") ∷ (codes "queue") ∷ (codes "agent") ∷ (codes "call") ∷ (codes "answer") ∷ (codes "message") ∷ (codes "receipt") ∷ (codes "detail") ∷ []) ∷
    ((codes "0") ∷ (codes "q.fifo") ∷ (codes "s") ∷ (codes "send") ∷ (codes "new") ∷ (codes "m-0-0") ∷ [] ∷ digest (codes "abc") ∷ []) ∷
    ((codes "100") ∷ (codes "q.fifo") ∷ (codes "s") ∷ (codes "receive") ∷ (codes "ok") ∷ (codes "m-0-0") ∷ (codes "r-0-0-1") ∷ (codes "o-0-0") ∷ []) ∷
    ((codes "60100") ∷ (codes "q.fifo") ∷ (codes "q.fifo") ∷ (codes "redrive") ∷ (codes "out") ∷ (codes "m-0-0") ∷ [] ∷ (codes "d.fifo") ∷ []) ∷
    ((codes "60600") ∷ (codes "d.fifo") ∷ (codes "q.fifo") ∷ (codes "arrive") ∷ (codes "new") ∷ (codes "m-1-0") ∷ [] ∷ (codes "o-0-0") ∷ []) ∷
    ((codes "final") ∷ (codes "queue") ∷ (codes "message") ∷ (codes "origin") ∷ (codes "place") ∷ (codes "due") ∷ (codes "enqueued") ∷ (codes "receives") ∷ (codes "group") ∷ (codes "md5") ∷ []) ∷
    ((codes "final") ∷ (codes "d.fifo") ∷ (codes "m-1-0") ∷ (codes "o-0-0") ∷ (codes "visible") ∷ [] ∷ (codes "60600") ∷ (codes "0") ∷ (codes "g") ∷ digest (codes "abc") ∷ []) ∷
    ((codes "transfer") ∷ (codes "from") ∷ (codes "to") ∷ (codes "kind") ∷ (codes "due") ∷ (codes "number") ∷ (codes "message") ∷ (codes "origin") ∷ (codes "md5") ∷ []) ∷
    ((codes "task") ∷ (codes "name") ∷ (codes "status") ∷ (codes "moved") ∷ []) ∷
    ((codes "report") ∷ (codes "queue") ∷ (codes "sends") ∷ (codes "repeats") ∷ (codes "receives") ∷ (codes "empties") ∷ (codes "deletes") ∷ (codes "expiries") ∷ (codes "redrives") ∷ (codes "moves") ∷ (codes "arrivals") ∷ (codes "OverLimit") ∷ (codes "MessageNotInflight") ∷ (codes "ReceiptHandleIsInvalid") ∷ (codes "BadTimeout") ∷ (codes "MissingGroup") ∷ (codes "MissingDeduplication") ∷ (codes "BadDelay") ∷ (codes "TaskRunning") ∷ (codes "NoTask") ∷ (codes "depth_max") ∷ (codes "visible") ∷ (codes "in_flight") ∷ (codes "delayed") ∷ (codes "age_sum") ∷ (codes "age_max") ∷ (codes "age_p50") ∷ (codes "age_p95") ∷ (codes "age_p99") ∷ []) ∷
    ((codes "report") ∷ (codes "q.fifo") ∷ (codes "1") ∷ (codes "0") ∷ (codes "1") ∷ (codes "0") ∷ (codes "0") ∷ (codes "0") ∷ (codes "1") ∷ (codes "0") ∷ (codes "0") ∷ (codes "0") ∷ (codes "0") ∷ (codes "0") ∷ (codes "0") ∷ (codes "0") ∷ (codes "0") ∷ (codes "0") ∷ (codes "0") ∷ (codes "0") ∷ (codes "1") ∷ (codes "0") ∷ (codes "0") ∷ (codes "0") ∷ (codes "0") ∷ [] ∷ [] ∷ [] ∷ [] ∷ []) ∷
    ((codes "report") ∷ (codes "d.fifo") ∷ (codes "0") ∷ (codes "0") ∷ (codes "0") ∷ (codes "0") ∷ (codes "0") ∷ (codes "0") ∷ (codes "0") ∷ (codes "0") ∷ (codes "1") ∷ (codes "0") ∷ (codes "0") ∷ (codes "0") ∷ (codes "0") ∷ (codes "0") ∷ (codes "0") ∷ (codes "0") ∷ (codes "0") ∷ (codes "0") ∷ (codes "1") ∷ (codes "1") ∷ (codes "0") ∷ (codes "0") ∷ (codes "0") ∷ [] ∷ [] ∷ [] ∷ [] ∷ []) ∷ [])
unfolding reading_on_literals running_on_literals columns_of
case_0_fifo_dead_letter_is_enqueued_anew = refl

-- worked/fifo_delete_after_release.toml
case_0_fifo_delete_after_release : shown 4 [] (codes "version = 1\nhorizon = 2000\n[[queue]]\nname = '''f.fifo'''\nvisibility_s = 1\n[[actor]]\nname = '''s'''\nkind = '''script'''\nqueue = '''f.fifo'''\ncalls = '''at,call,body,group,id,delay,receipt,max,wait,timeout,task\n0,send,abc,g,x,,,,,,\n100,receive,,,,,,,,,\n1200,delete,,,,,r-0-0-1,,,,\n'''\n")
    ≡ ran (((codes "at") ∷ (codes "queue") ∷ (codes "agent") ∷ (codes "call") ∷ (codes "answer") ∷ (codes "message") ∷ (codes "receipt") ∷ (codes "detail") ∷ []) ∷
    ((codes "0") ∷ (codes "f.fifo") ∷ (codes "s") ∷ (codes "send") ∷ (codes "new") ∷ (codes "m-0-0") ∷ [] ∷ digest (codes "abc") ∷ []) ∷
    ((codes "100") ∷ (codes "f.fifo") ∷ (codes "s") ∷ (codes "receive") ∷ (codes "ok") ∷ (codes "m-0-0") ∷ (codes "r-0-0-1") ∷ (codes "o-0-0") ∷ []) ∷
    ((codes "1100") ∷ (codes "f.fifo") ∷ (codes "f.fifo") ∷ (codes "release") ∷ (codes "visible") ∷ (codes "m-0-0") ∷ [] ∷ [] ∷ []) ∷
    ((codes "1200") ∷ (codes "f.fifo") ∷ (codes "s") ∷ (codes "delete") ∷ (codes "ReceiptHandleIsInvalid") ∷ [] ∷ (codes "r-0-0-1") ∷ [] ∷ []) ∷
    ((codes "final") ∷ (codes "queue") ∷ (codes "message") ∷ (codes "origin") ∷ (codes "place") ∷ (codes "due") ∷ (codes "enqueued") ∷ (codes "receives") ∷ (codes "group") ∷ (codes "md5") ∷ []) ∷
    ((codes "final") ∷ (codes "f.fifo") ∷ (codes "m-0-0") ∷ (codes "o-0-0") ∷ (codes "visible") ∷ [] ∷ (codes "0") ∷ (codes "1") ∷ (codes "g") ∷ digest (codes "abc") ∷ []) ∷
    ((codes "transfer") ∷ (codes "from") ∷ (codes "to") ∷ (codes "kind") ∷ (codes "due") ∷ (codes "number") ∷ (codes "message") ∷ (codes "origin") ∷ (codes "md5") ∷ []) ∷
    ((codes "task") ∷ (codes "name") ∷ (codes "status") ∷ (codes "moved") ∷ []) ∷
    ((codes "report") ∷ (codes "queue") ∷ (codes "sends") ∷ (codes "repeats") ∷ (codes "receives") ∷ (codes "empties") ∷ (codes "deletes") ∷ (codes "expiries") ∷ (codes "redrives") ∷ (codes "moves") ∷ (codes "arrivals") ∷ (codes "OverLimit") ∷ (codes "MessageNotInflight") ∷ (codes "ReceiptHandleIsInvalid") ∷ (codes "BadTimeout") ∷ (codes "MissingGroup") ∷ (codes "MissingDeduplication") ∷ (codes "BadDelay") ∷ (codes "TaskRunning") ∷ (codes "NoTask") ∷ (codes "depth_max") ∷ (codes "visible") ∷ (codes "in_flight") ∷ (codes "delayed") ∷ (codes "age_sum") ∷ (codes "age_max") ∷ (codes "age_p50") ∷ (codes "age_p95") ∷ (codes "age_p99") ∷ []) ∷
    ((codes "report") ∷ (codes "f.fifo") ∷ (codes "1") ∷ (codes "0") ∷ (codes "1") ∷ (codes "0") ∷ (codes "0") ∷ (codes "0") ∷ (codes "0") ∷ (codes "0") ∷ (codes "0") ∷ (codes "0") ∷ (codes "0") ∷ (codes "1") ∷ (codes "0") ∷ (codes "0") ∷ (codes "0") ∷ (codes "0") ∷ (codes "0") ∷ (codes "0") ∷ (codes "1") ∷ (codes "1") ∷ (codes "0") ∷ (codes "0") ∷ (codes "0") ∷ [] ∷ [] ∷ [] ∷ [] ∷ []) ∷ [])
unfolding reading_on_literals running_on_literals columns_of
case_0_fifo_delete_after_release = refl

-- worked/fifo_polls_wait_for_room.toml
case_0_fifo_polls_wait_for_room : shown 8 [] (codes "version = 1\nhorizon = 1000\n[[queue]]\nname = '''q.fifo'''\nin_flight = 1\n[[actor]]\nname = '''a'''\nkind = '''script'''\nqueue = '''q.fifo'''\ncalls = '''at,call,body,group,id,delay,receipt,max,wait,timeout,task\n100,receive,,,,,,,20,,\n'''\n[[actor]]\nname = '''b'''\nkind = '''script'''\nqueue = '''q.fifo'''\ncalls = '''at,call,body,group,id,delay,receipt,max,wait,timeout,task\n200,receive,,,,,,,20,,\n'''\n[[actor]]\nname = '''s'''\nkind = '''script'''\nqueue = '''q.fifo'''\ncalls = '''at,call,body,group,id,delay,receipt,max,wait,timeout,task\n300,send,abc,g,x,,,,,,\n400,send,abc,h,y,,,,,,\n500,receive,,,,,,,,,\n600,delete,,,,,r-0-0-1,,,,\n'''\n")
    ≡ ran (((codes "at") ∷ (codes "queue") ∷ (codes "agent") ∷ (codes "call") ∷ (codes "answer") ∷ (codes "message") ∷ (codes "receipt") ∷ (codes "detail") ∷ []) ∷
    ((codes "100") ∷ (codes "q.fifo") ∷ (codes "a") ∷ (codes "receive") ∷ (codes "wait") ∷ [] ∷ [] ∷ [] ∷ []) ∷
    ((codes "200") ∷ (codes "q.fifo") ∷ (codes "b") ∷ (codes "receive") ∷ (codes "wait") ∷ [] ∷ [] ∷ [] ∷ []) ∷
    ((codes "300") ∷ (codes "q.fifo") ∷ (codes "s") ∷ (codes "send") ∷ (codes "new") ∷ (codes "m-0-0") ∷ [] ∷ digest (codes "abc") ∷ []) ∷
    ((codes "300") ∷ (codes "q.fifo") ∷ (codes "a") ∷ (codes "receive") ∷ (codes "ok") ∷ (codes "m-0-0") ∷ (codes "r-0-0-1") ∷ (codes "o-0-0") ∷ []) ∷
    ((codes "400") ∷ (codes "q.fifo") ∷ (codes "s") ∷ (codes "send") ∷ (codes "new") ∷ (codes "m-0-1") ∷ [] ∷ digest (codes "abc") ∷ []) ∷
    ((codes "500") ∷ (codes "q.fifo") ∷ (codes "s") ∷ (codes "receive") ∷ (codes "empty") ∷ [] ∷ [] ∷ [] ∷ []) ∷
    ((codes "600") ∷ (codes "q.fifo") ∷ (codes "s") ∷ (codes "delete") ∷ (codes "deleted") ∷ (codes "m-0-0") ∷ (codes "r-0-0-1") ∷ (codes "300") ∷ []) ∷
    ((codes "600") ∷ (codes "q.fifo") ∷ (codes "b") ∷ (codes "receive") ∷ (codes "ok") ∷ (codes "m-0-1") ∷ (codes "r-0-1-1") ∷ (codes "o-0-1") ∷ []) ∷
    ((codes "final") ∷ (codes "queue") ∷ (codes "message") ∷ (codes "origin") ∷ (codes "place") ∷ (codes "due") ∷ (codes "enqueued") ∷ (codes "receives") ∷ (codes "group") ∷ (codes "md5") ∷ []) ∷
    ((codes "final") ∷ (codes "q.fifo") ∷ (codes "m-0-1") ∷ (codes "o-0-1") ∷ (codes "inflight") ∷ (codes "30600") ∷ (codes "400") ∷ (codes "1") ∷ (codes "h") ∷ digest (codes "abc") ∷ []) ∷
    ((codes "transfer") ∷ (codes "from") ∷ (codes "to") ∷ (codes "kind") ∷ (codes "due") ∷ (codes "number") ∷ (codes "message") ∷ (codes "origin") ∷ (codes "md5") ∷ []) ∷
    ((codes "task") ∷ (codes "name") ∷ (codes "status") ∷ (codes "moved") ∷ []) ∷
    ((codes "report") ∷ (codes "queue") ∷ (codes "sends") ∷ (codes "repeats") ∷ (codes "receives") ∷ (codes "empties") ∷ (codes "deletes") ∷ (codes "expiries") ∷ (codes "redrives") ∷ (codes "moves") ∷ (codes "arrivals") ∷ (codes "OverLimit") ∷ (codes "MessageNotInflight") ∷ (codes "ReceiptHandleIsInvalid") ∷ (codes "BadTimeout") ∷ (codes "MissingGroup") ∷ (codes "MissingDeduplication") ∷ (codes "BadDelay") ∷ (codes "TaskRunning") ∷ (codes "NoTask") ∷ (codes "depth_max") ∷ (codes "visible") ∷ (codes "in_flight") ∷ (codes "delayed") ∷ (codes "age_sum") ∷ (codes "age_max") ∷ (codes "age_p50") ∷ (codes "age_p95") ∷ (codes "age_p99") ∷ []) ∷
    ((codes "report") ∷ (codes "q.fifo") ∷ (codes "2") ∷ (codes "0") ∷ (codes "2") ∷ (codes "1") ∷ (codes "1") ∷ (codes "0") ∷ (codes "0") ∷ (codes "0") ∷ (codes "0") ∷ (codes "0") ∷ (codes "0") ∷ (codes "0") ∷ (codes "0") ∷ (codes "0") ∷ (codes "0") ∷ (codes "0") ∷ (codes "0") ∷ (codes "0") ∷ (codes "2") ∷ (codes "0") ∷ (codes "1") ∷ (codes "0") ∷ (codes "300") ∷ (codes "300") ∷ (codes "300") ∷ (codes "300") ∷ (codes "300") ∷ []) ∷ [])
unfolding reading_on_literals running_on_literals columns_of
case_0_fifo_polls_wait_for_room = refl

-- worked/first_message.toml
case_0_first_message : shown 1 [] (codes "version = 1\nhorizon = 1000\n[[queue]]\nname = \"q\"\n[[actor]]\nname = \"s\"\nkind = \"script\"\nqueue = \"q\"\ncalls = \"\"\"\nat,call,body,group,id,delay,receipt,max,wait,timeout,task\n0,send,abc,,,,,,,,\n\"\"\"\n")
    ≡ ran (((codes "at") ∷ (codes "queue") ∷ (codes "agent") ∷ (codes "call") ∷ (codes "answer") ∷ (codes "message") ∷ (codes "receipt") ∷ (codes "detail") ∷ []) ∷
    ((codes "0") ∷ (codes "q") ∷ (codes "s") ∷ (codes "send") ∷ (codes "new") ∷ (codes "m-0-0") ∷ [] ∷ digest (codes "abc") ∷ []) ∷
    ((codes "final") ∷ (codes "queue") ∷ (codes "message") ∷ (codes "origin") ∷ (codes "place") ∷ (codes "due") ∷ (codes "enqueued") ∷ (codes "receives") ∷ (codes "group") ∷ (codes "md5") ∷ []) ∷
    ((codes "final") ∷ (codes "q") ∷ (codes "m-0-0") ∷ (codes "o-0-0") ∷ (codes "visible") ∷ [] ∷ (codes "0") ∷ (codes "0") ∷ [] ∷ digest (codes "abc") ∷ []) ∷
    ((codes "transfer") ∷ (codes "from") ∷ (codes "to") ∷ (codes "kind") ∷ (codes "due") ∷ (codes "number") ∷ (codes "message") ∷ (codes "origin") ∷ (codes "md5") ∷ []) ∷
    ((codes "task") ∷ (codes "name") ∷ (codes "status") ∷ (codes "moved") ∷ []) ∷
    ((codes "report") ∷ (codes "queue") ∷ (codes "sends") ∷ (codes "repeats") ∷ (codes "receives") ∷ (codes "empties") ∷ (codes "deletes") ∷ (codes "expiries") ∷ (codes "redrives") ∷ (codes "moves") ∷ (codes "arrivals") ∷ (codes "OverLimit") ∷ (codes "MessageNotInflight") ∷ (codes "ReceiptHandleIsInvalid") ∷ (codes "BadTimeout") ∷ (codes "MissingGroup") ∷ (codes "MissingDeduplication") ∷ (codes "BadDelay") ∷ (codes "TaskRunning") ∷ (codes "NoTask") ∷ (codes "depth_max") ∷ (codes "visible") ∷ (codes "in_flight") ∷ (codes "delayed") ∷ (codes "age_sum") ∷ (codes "age_max") ∷ (codes "age_p50") ∷ (codes "age_p95") ∷ (codes "age_p99") ∷ []) ∷
    ((codes "report") ∷ (codes "q") ∷ (codes "1") ∷ (codes "0") ∷ (codes "0") ∷ (codes "0") ∷ (codes "0") ∷ (codes "0") ∷ (codes "0") ∷ (codes "0") ∷ (codes "0") ∷ (codes "0") ∷ (codes "0") ∷ (codes "0") ∷ (codes "0") ∷ (codes "0") ∷ (codes "0") ∷ (codes "0") ∷ (codes "0") ∷ (codes "0") ∷ (codes "1") ∷ (codes "1") ∷ (codes "0") ∷ (codes "0") ∷ (codes "0") ∷ [] ∷ [] ∷ [] ∷ [] ∷ []) ∷ [])
unfolding reading_on_literals running_on_literals columns_of
case_0_first_message = refl

-- worked/forward_between_queues.toml
case_0_forward_between_queues : shown 8 [] (codes "version = 1\nhorizon = 1200\n[[queue]]\nname = '''a'''\n[[queue]]\nname = '''b'''\n[[actor]]\nname = '''p'''\nkind = '''script'''\nqueue = '''a'''\ncalls = '''at,call,body,group,id,delay,receipt,max,wait,timeout,task\n0,send,abc,,,,,,,,\n'''\n[[actor]]\nname = '''z'''\nkind = '''script'''\nqueue = '''a'''\ncalls = '''at,call,body,group,id,delay,receipt,max,wait,timeout,task\n1100,receive,,,,,,,,,\n'''\n[[actor]]\nname = '''s'''\nkind = '''script'''\nqueue = '''b'''\ncalls = '''at,call,body,group,id,delay,receipt,max,wait,timeout,task\n1100,send,abc,,,,,,,,\n'''\n[[actor]]\nname = '''c'''\nkind = '''consumer'''\nqueue = '''a'''\nstart_ms = 100\nservice_min_ms = 500\nservice_max_ms = 500\nforward = '''b'''\nlatency_ms = 500\n")
    ≡ ran (((codes "at") ∷ (codes "queue") ∷ (codes "agent") ∷ (codes "call") ∷ (codes "answer") ∷ (codes "message") ∷ (codes "receipt") ∷ (codes "detail") ∷ []) ∷
    ((codes "0") ∷ (codes "a") ∷ (codes "p") ∷ (codes "send") ∷ (codes "new") ∷ (codes "m-0-0") ∷ [] ∷ digest (codes "abc") ∷ []) ∷
    ((codes "100") ∷ (codes "a") ∷ (codes "c") ∷ (codes "receive") ∷ (codes "ok") ∷ (codes "m-0-0") ∷ (codes "r-0-0-1") ∷ (codes "o-0-0") ∷ []) ∷
    ((codes "600") ∷ (codes "a") ∷ (codes "c") ∷ (codes "forward") ∷ (codes "out") ∷ (codes "m-0-0") ∷ [] ∷ (codes "b") ∷ []) ∷
    ((codes "600") ∷ (codes "a") ∷ (codes "c") ∷ (codes "delete") ∷ (codes "deleted") ∷ (codes "m-0-0") ∷ (codes "r-0-0-1") ∷ (codes "600") ∷ []) ∷
    ((codes "601") ∷ (codes "a") ∷ (codes "c") ∷ (codes "receive") ∷ (codes "empty") ∷ [] ∷ [] ∷ [] ∷ []) ∷
    ((codes "1100") ∷ (codes "a") ∷ (codes "z") ∷ (codes "receive") ∷ (codes "empty") ∷ [] ∷ [] ∷ [] ∷ []) ∷
    ((codes "1100") ∷ (codes "b") ∷ (codes "s") ∷ (codes "send") ∷ (codes "new") ∷ (codes "m-1-0") ∷ [] ∷ digest (codes "abc") ∷ []) ∷
    ((codes "1100") ∷ (codes "b") ∷ (codes "c") ∷ (codes "arrive") ∷ (codes "new") ∷ (codes "m-1-1") ∷ [] ∷ (codes "o-1-1") ∷ []) ∷
    ((codes "final") ∷ (codes "queue") ∷ (codes "message") ∷ (codes "origin") ∷ (codes "place") ∷ (codes "due") ∷ (codes "enqueued") ∷ (codes "receives") ∷ (codes "group") ∷ (codes "md5") ∷ []) ∷
    ((codes "final") ∷ (codes "b") ∷ (codes "m-1-0") ∷ (codes "o-1-0") ∷ (codes "visible") ∷ [] ∷ (codes "1100") ∷ (codes "0") ∷ [] ∷ digest (codes "abc") ∷ []) ∷
    ((codes "final") ∷ (codes "b") ∷ (codes "m-1-1") ∷ (codes "o-1-1") ∷ (codes "visible") ∷ [] ∷ (codes "1100") ∷ (codes "0") ∷ [] ∷ digest (codes "abc") ∷ []) ∷
    ((codes "transfer") ∷ (codes "from") ∷ (codes "to") ∷ (codes "kind") ∷ (codes "due") ∷ (codes "number") ∷ (codes "message") ∷ (codes "origin") ∷ (codes "md5") ∷ []) ∷
    ((codes "task") ∷ (codes "name") ∷ (codes "status") ∷ (codes "moved") ∷ []) ∷
    ((codes "report") ∷ (codes "queue") ∷ (codes "sends") ∷ (codes "repeats") ∷ (codes "receives") ∷ (codes "empties") ∷ (codes "deletes") ∷ (codes "expiries") ∷ (codes "redrives") ∷ (codes "moves") ∷ (codes "arrivals") ∷ (codes "OverLimit") ∷ (codes "MessageNotInflight") ∷ (codes "ReceiptHandleIsInvalid") ∷ (codes "BadTimeout") ∷ (codes "MissingGroup") ∷ (codes "MissingDeduplication") ∷ (codes "BadDelay") ∷ (codes "TaskRunning") ∷ (codes "NoTask") ∷ (codes "depth_max") ∷ (codes "visible") ∷ (codes "in_flight") ∷ (codes "delayed") ∷ (codes "age_sum") ∷ (codes "age_max") ∷ (codes "age_p50") ∷ (codes "age_p95") ∷ (codes "age_p99") ∷ []) ∷
    ((codes "report") ∷ (codes "a") ∷ (codes "1") ∷ (codes "0") ∷ (codes "1") ∷ (codes "2") ∷ (codes "1") ∷ (codes "0") ∷ (codes "0") ∷ (codes "0") ∷ (codes "0") ∷ (codes "0") ∷ (codes "0") ∷ (codes "0") ∷ (codes "0") ∷ (codes "0") ∷ (codes "0") ∷ (codes "0") ∷ (codes "0") ∷ (codes "0") ∷ (codes "1") ∷ (codes "0") ∷ (codes "0") ∷ (codes "0") ∷ (codes "600") ∷ (codes "600") ∷ (codes "600") ∷ (codes "600") ∷ (codes "600") ∷ []) ∷
    ((codes "report") ∷ (codes "b") ∷ (codes "1") ∷ (codes "0") ∷ (codes "0") ∷ (codes "0") ∷ (codes "0") ∷ (codes "0") ∷ (codes "0") ∷ (codes "0") ∷ (codes "1") ∷ (codes "0") ∷ (codes "0") ∷ (codes "0") ∷ (codes "0") ∷ (codes "0") ∷ (codes "0") ∷ (codes "0") ∷ (codes "0") ∷ (codes "0") ∷ (codes "2") ∷ (codes "2") ∷ (codes "0") ∷ (codes "0") ∷ (codes "0") ∷ [] ∷ [] ∷ [] ∷ [] ∷ []) ∷ [])
unfolding reading_on_literals running_on_literals columns_of
case_0_forward_between_queues = refl

-- worked/forward_to_an_earlier_queue.toml
case_0_forward_to_an_earlier_queue : shown 6 [] (codes "version = 1\nhorizon = 1000\n[[queue]]\nname = 'a'\n[[queue]]\nname = 'b'\n[[actor]]\nname = 's'\nkind = 'script'\nqueue = 'b'\ncalls = '''\nat,call,body,group,id,delay,receipt,max,wait,timeout,task\n0,send,abc,,,,,,,,\n'''\n[[actor]]\nname = 'c'\nkind = 'consumer'\nqueue = 'b'\nstart_ms = 100\nservice_min_ms = 50\nservice_max_ms = 50\nidle_ms = 86400000\nforward = 'a'\nlatency_ms = 10\n")
    ≡ ran (((codes "at") ∷ (codes "queue") ∷ (codes "agent") ∷ (codes "call") ∷ (codes "answer") ∷ (codes "message") ∷ (codes "receipt") ∷ (codes "detail") ∷ []) ∷
    ((codes "0") ∷ (codes "b") ∷ (codes "s") ∷ (codes "send") ∷ (codes "new") ∷ (codes "m-1-0") ∷ [] ∷ digest (codes "abc") ∷ []) ∷
    ((codes "100") ∷ (codes "b") ∷ (codes "c") ∷ (codes "receive") ∷ (codes "ok") ∷ (codes "m-1-0") ∷ (codes "r-1-0-1") ∷ (codes "o-1-0") ∷ []) ∷
    ((codes "150") ∷ (codes "b") ∷ (codes "c") ∷ (codes "forward") ∷ (codes "out") ∷ (codes "m-1-0") ∷ [] ∷ (codes "a") ∷ []) ∷
    ((codes "150") ∷ (codes "b") ∷ (codes "c") ∷ (codes "delete") ∷ (codes "deleted") ∷ (codes "m-1-0") ∷ (codes "r-1-0-1") ∷ (codes "150") ∷ []) ∷
    ((codes "151") ∷ (codes "b") ∷ (codes "c") ∷ (codes "receive") ∷ (codes "empty") ∷ [] ∷ [] ∷ [] ∷ []) ∷
    ((codes "160") ∷ (codes "a") ∷ (codes "c") ∷ (codes "arrive") ∷ (codes "new") ∷ (codes "m-0-0") ∷ [] ∷ (codes "o-0-0") ∷ []) ∷
    ((codes "final") ∷ (codes "queue") ∷ (codes "message") ∷ (codes "origin") ∷ (codes "place") ∷ (codes "due") ∷ (codes "enqueued") ∷ (codes "receives") ∷ (codes "group") ∷ (codes "md5") ∷ []) ∷
    ((codes "final") ∷ (codes "a") ∷ (codes "m-0-0") ∷ (codes "o-0-0") ∷ (codes "visible") ∷ [] ∷ (codes "160") ∷ (codes "0") ∷ [] ∷ digest (codes "abc") ∷ []) ∷
    ((codes "transfer") ∷ (codes "from") ∷ (codes "to") ∷ (codes "kind") ∷ (codes "due") ∷ (codes "number") ∷ (codes "message") ∷ (codes "origin") ∷ (codes "md5") ∷ []) ∷
    ((codes "task") ∷ (codes "name") ∷ (codes "status") ∷ (codes "moved") ∷ []) ∷
    ((codes "report") ∷ (codes "queue") ∷ (codes "sends") ∷ (codes "repeats") ∷ (codes "receives") ∷ (codes "empties") ∷ (codes "deletes") ∷ (codes "expiries") ∷ (codes "redrives") ∷ (codes "moves") ∷ (codes "arrivals") ∷ (codes "OverLimit") ∷ (codes "MessageNotInflight") ∷ (codes "ReceiptHandleIsInvalid") ∷ (codes "BadTimeout") ∷ (codes "MissingGroup") ∷ (codes "MissingDeduplication") ∷ (codes "BadDelay") ∷ (codes "TaskRunning") ∷ (codes "NoTask") ∷ (codes "depth_max") ∷ (codes "visible") ∷ (codes "in_flight") ∷ (codes "delayed") ∷ (codes "age_sum") ∷ (codes "age_max") ∷ (codes "age_p50") ∷ (codes "age_p95") ∷ (codes "age_p99") ∷ []) ∷
    ((codes "report") ∷ (codes "a") ∷ (codes "0") ∷ (codes "0") ∷ (codes "0") ∷ (codes "0") ∷ (codes "0") ∷ (codes "0") ∷ (codes "0") ∷ (codes "0") ∷ (codes "1") ∷ (codes "0") ∷ (codes "0") ∷ (codes "0") ∷ (codes "0") ∷ (codes "0") ∷ (codes "0") ∷ (codes "0") ∷ (codes "0") ∷ (codes "0") ∷ (codes "1") ∷ (codes "1") ∷ (codes "0") ∷ (codes "0") ∷ (codes "0") ∷ [] ∷ [] ∷ [] ∷ [] ∷ []) ∷
    ((codes "report") ∷ (codes "b") ∷ (codes "1") ∷ (codes "0") ∷ (codes "1") ∷ (codes "1") ∷ (codes "1") ∷ (codes "0") ∷ (codes "0") ∷ (codes "0") ∷ (codes "0") ∷ (codes "0") ∷ (codes "0") ∷ (codes "0") ∷ (codes "0") ∷ (codes "0") ∷ (codes "0") ∷ (codes "0") ∷ (codes "0") ∷ (codes "0") ∷ (codes "1") ∷ (codes "0") ∷ (codes "0") ∷ (codes "0") ∷ (codes "150") ∷ (codes "150") ∷ (codes "150") ∷ (codes "150") ∷ (codes "150") ∷ []) ∷ [])
unfolding reading_on_literals running_on_literals columns_of
case_0_forward_to_an_earlier_queue = refl

-- worked/forwards_in_a_cycle.toml
case_0_forwards_in_a_cycle : shown 11 [] (codes "version = 1\nhorizon = 100\n[[queue]]\nname = '''a'''\n[[queue]]\nname = '''b'''\n[[actor]]\nname = '''p'''\nkind = '''script'''\nqueue = '''a'''\ncalls = '''at,call,body,group,id,delay,receipt,max,wait,timeout,task\n0,send,abc,,,,,,,,\n'''\n[[actor]]\nname = '''x'''\nkind = '''consumer'''\nqueue = '''a'''\nstart_ms = 1\nservice_min_ms = 14\nservice_max_ms = 14\nidle_ms = 86400000\nforward = '''b'''\nlatency_ms = 10\n[[actor]]\nname = '''y'''\nkind = '''consumer'''\nqueue = '''b'''\nstart_ms = 50\nservice_min_ms = 14\nservice_max_ms = 14\nforward = '''a'''\nlatency_ms = 10\n")
    ≡ ran (((codes "at") ∷ (codes "queue") ∷ (codes "agent") ∷ (codes "call") ∷ (codes "answer") ∷ (codes "message") ∷ (codes "receipt") ∷ (codes "detail") ∷ []) ∷
    ((codes "0") ∷ (codes "a") ∷ (codes "p") ∷ (codes "send") ∷ (codes "new") ∷ (codes "m-0-0") ∷ [] ∷ digest (codes "abc") ∷ []) ∷
    ((codes "1") ∷ (codes "a") ∷ (codes "x") ∷ (codes "receive") ∷ (codes "ok") ∷ (codes "m-0-0") ∷ (codes "r-0-0-1") ∷ (codes "o-0-0") ∷ []) ∷
    ((codes "15") ∷ (codes "a") ∷ (codes "x") ∷ (codes "forward") ∷ (codes "out") ∷ (codes "m-0-0") ∷ [] ∷ (codes "b") ∷ []) ∷
    ((codes "15") ∷ (codes "a") ∷ (codes "x") ∷ (codes "delete") ∷ (codes "deleted") ∷ (codes "m-0-0") ∷ (codes "r-0-0-1") ∷ (codes "15") ∷ []) ∷
    ((codes "16") ∷ (codes "a") ∷ (codes "x") ∷ (codes "receive") ∷ (codes "empty") ∷ [] ∷ [] ∷ [] ∷ []) ∷
    ((codes "25") ∷ (codes "b") ∷ (codes "x") ∷ (codes "arrive") ∷ (codes "new") ∷ (codes "m-1-0") ∷ [] ∷ (codes "o-1-0") ∷ []) ∷
    ((codes "50") ∷ (codes "b") ∷ (codes "y") ∷ (codes "receive") ∷ (codes "ok") ∷ (codes "m-1-0") ∷ (codes "r-1-0-1") ∷ (codes "o-1-0") ∷ []) ∷
    ((codes "64") ∷ (codes "b") ∷ (codes "y") ∷ (codes "forward") ∷ (codes "out") ∷ (codes "m-1-0") ∷ [] ∷ (codes "a") ∷ []) ∷
    ((codes "64") ∷ (codes "b") ∷ (codes "y") ∷ (codes "delete") ∷ (codes "deleted") ∷ (codes "m-1-0") ∷ (codes "r-1-0-1") ∷ (codes "39") ∷ []) ∷
    ((codes "65") ∷ (codes "b") ∷ (codes "y") ∷ (codes "receive") ∷ (codes "empty") ∷ [] ∷ [] ∷ [] ∷ []) ∷
    ((codes "74") ∷ (codes "a") ∷ (codes "y") ∷ (codes "arrive") ∷ (codes "new") ∷ (codes "m-0-1") ∷ [] ∷ (codes "o-0-1") ∷ []) ∷
    ((codes "final") ∷ (codes "queue") ∷ (codes "message") ∷ (codes "origin") ∷ (codes "place") ∷ (codes "due") ∷ (codes "enqueued") ∷ (codes "receives") ∷ (codes "group") ∷ (codes "md5") ∷ []) ∷
    ((codes "final") ∷ (codes "a") ∷ (codes "m-0-1") ∷ (codes "o-0-1") ∷ (codes "visible") ∷ [] ∷ (codes "74") ∷ (codes "0") ∷ [] ∷ digest (codes "abc") ∷ []) ∷
    ((codes "transfer") ∷ (codes "from") ∷ (codes "to") ∷ (codes "kind") ∷ (codes "due") ∷ (codes "number") ∷ (codes "message") ∷ (codes "origin") ∷ (codes "md5") ∷ []) ∷
    ((codes "task") ∷ (codes "name") ∷ (codes "status") ∷ (codes "moved") ∷ []) ∷
    ((codes "report") ∷ (codes "queue") ∷ (codes "sends") ∷ (codes "repeats") ∷ (codes "receives") ∷ (codes "empties") ∷ (codes "deletes") ∷ (codes "expiries") ∷ (codes "redrives") ∷ (codes "moves") ∷ (codes "arrivals") ∷ (codes "OverLimit") ∷ (codes "MessageNotInflight") ∷ (codes "ReceiptHandleIsInvalid") ∷ (codes "BadTimeout") ∷ (codes "MissingGroup") ∷ (codes "MissingDeduplication") ∷ (codes "BadDelay") ∷ (codes "TaskRunning") ∷ (codes "NoTask") ∷ (codes "depth_max") ∷ (codes "visible") ∷ (codes "in_flight") ∷ (codes "delayed") ∷ (codes "age_sum") ∷ (codes "age_max") ∷ (codes "age_p50") ∷ (codes "age_p95") ∷ (codes "age_p99") ∷ []) ∷
    ((codes "report") ∷ (codes "a") ∷ (codes "1") ∷ (codes "0") ∷ (codes "1") ∷ (codes "1") ∷ (codes "1") ∷ (codes "0") ∷ (codes "0") ∷ (codes "0") ∷ (codes "1") ∷ (codes "0") ∷ (codes "0") ∷ (codes "0") ∷ (codes "0") ∷ (codes "0") ∷ (codes "0") ∷ (codes "0") ∷ (codes "0") ∷ (codes "0") ∷ (codes "1") ∷ (codes "1") ∷ (codes "0") ∷ (codes "0") ∷ (codes "15") ∷ (codes "15") ∷ (codes "15") ∷ (codes "15") ∷ (codes "15") ∷ []) ∷
    ((codes "report") ∷ (codes "b") ∷ (codes "0") ∷ (codes "0") ∷ (codes "1") ∷ (codes "1") ∷ (codes "1") ∷ (codes "0") ∷ (codes "0") ∷ (codes "0") ∷ (codes "1") ∷ (codes "0") ∷ (codes "0") ∷ (codes "0") ∷ (codes "0") ∷ (codes "0") ∷ (codes "0") ∷ (codes "0") ∷ (codes "0") ∷ (codes "0") ∷ (codes "1") ∷ (codes "0") ∷ (codes "0") ∷ (codes "0") ∷ (codes "39") ∷ (codes "39") ∷ (codes "39") ∷ (codes "39") ∷ (codes "39") ∷ []) ∷ [])
unfolding reading_on_literals running_on_literals columns_of
case_0_forwards_in_a_cycle = refl

-- worked/forwards_over_three_queues.toml
case_0_forwards_over_three_queues : shown 13 [] (codes "version = 1\nhorizon = 6000\n[[queue]]\nname = '''a'''\n[[queue]]\nname = '''b'''\ndead_letter = '''a'''\nmax_receives = 1000\nlatency_ms = 10\n[[queue]]\nname = '''c'''\n[[actor]]\nname = '''p'''\nkind = '''script'''\nqueue = '''a'''\ncalls = '''at,call,body,group,id,delay,receipt,max,wait,timeout,task\n0,send,abc,,,,,,,,\n'''\n[[actor]]\nname = '''x'''\nkind = '''consumer'''\nqueue = '''a'''\nstart_ms = 100\nservice_min_ms = 100\nservice_max_ms = 100\nidle_ms = 86400000\nforward = '''b'''\nlatency_ms = 10\n[[actor]]\nname = '''y'''\nkind = '''consumer'''\nqueue = '''b'''\nwait_s = 20\nservice_min_ms = 100\nservice_max_ms = 100\nforward = '''c'''\nlatency_ms = 10\n[[actor]]\nname = '''z'''\nkind = '''script'''\nqueue = '''c'''\ncalls = '''at,call,body,group,id,delay,receipt,max,wait,timeout,task\n5000,receive,,,,,,,,,\n'''\n")
    ≡ ran (((codes "at") ∷ (codes "queue") ∷ (codes "agent") ∷ (codes "call") ∷ (codes "answer") ∷ (codes "message") ∷ (codes "receipt") ∷ (codes "detail") ∷ []) ∷
    ((codes "0") ∷ (codes "a") ∷ (codes "p") ∷ (codes "send") ∷ (codes "new") ∷ (codes "m-0-0") ∷ [] ∷ digest (codes "abc") ∷ []) ∷
    ((codes "0") ∷ (codes "b") ∷ (codes "y") ∷ (codes "receive") ∷ (codes "wait") ∷ [] ∷ [] ∷ [] ∷ []) ∷
    ((codes "100") ∷ (codes "a") ∷ (codes "x") ∷ (codes "receive") ∷ (codes "ok") ∷ (codes "m-0-0") ∷ (codes "r-0-0-1") ∷ (codes "o-0-0") ∷ []) ∷
    ((codes "200") ∷ (codes "a") ∷ (codes "x") ∷ (codes "forward") ∷ (codes "out") ∷ (codes "m-0-0") ∷ [] ∷ (codes "b") ∷ []) ∷
    ((codes "200") ∷ (codes "a") ∷ (codes "x") ∷ (codes "delete") ∷ (codes "deleted") ∷ (codes "m-0-0") ∷ (codes "r-0-0-1") ∷ (codes "200") ∷ []) ∷
    ((codes "201") ∷ (codes "a") ∷ (codes "x") ∷ (codes "receive") ∷ (codes "empty") ∷ [] ∷ [] ∷ [] ∷ []) ∷
    ((codes "210") ∷ (codes "b") ∷ (codes "x") ∷ (codes "arrive") ∷ (codes "new") ∷ (codes "m-1-0") ∷ [] ∷ (codes "o-1-0") ∷ []) ∷
    ((codes "210") ∷ (codes "b") ∷ (codes "y") ∷ (codes "receive") ∷ (codes "ok") ∷ (codes "m-1-0") ∷ (codes "r-1-0-1") ∷ (codes "o-1-0") ∷ []) ∷
    ((codes "310") ∷ (codes "b") ∷ (codes "y") ∷ (codes "forward") ∷ (codes "out") ∷ (codes "m-1-0") ∷ [] ∷ (codes "c") ∷ []) ∷
    ((codes "310") ∷ (codes "b") ∷ (codes "y") ∷ (codes "delete") ∷ (codes "deleted") ∷ (codes "m-1-0") ∷ (codes "r-1-0-1") ∷ (codes "100") ∷ []) ∷
    ((codes "311") ∷ (codes "b") ∷ (codes "y") ∷ (codes "receive") ∷ (codes "wait") ∷ [] ∷ [] ∷ [] ∷ []) ∷
    ((codes "320") ∷ (codes "c") ∷ (codes "y") ∷ (codes "arrive") ∷ (codes "new") ∷ (codes "m-2-0") ∷ [] ∷ (codes "o-2-0") ∷ []) ∷
    ((codes "5000") ∷ (codes "c") ∷ (codes "z") ∷ (codes "receive") ∷ (codes "ok") ∷ (codes "m-2-0") ∷ (codes "r-2-0-1") ∷ (codes "o-2-0") ∷ []) ∷
    ((codes "final") ∷ (codes "queue") ∷ (codes "message") ∷ (codes "origin") ∷ (codes "place") ∷ (codes "due") ∷ (codes "enqueued") ∷ (codes "receives") ∷ (codes "group") ∷ (codes "md5") ∷ []) ∷
    ((codes "final") ∷ (codes "c") ∷ (codes "m-2-0") ∷ (codes "o-2-0") ∷ (codes "inflight") ∷ (codes "35000") ∷ (codes "320") ∷ (codes "1") ∷ [] ∷ digest (codes "abc") ∷ []) ∷
    ((codes "transfer") ∷ (codes "from") ∷ (codes "to") ∷ (codes "kind") ∷ (codes "due") ∷ (codes "number") ∷ (codes "message") ∷ (codes "origin") ∷ (codes "md5") ∷ []) ∷
    ((codes "task") ∷ (codes "name") ∷ (codes "status") ∷ (codes "moved") ∷ []) ∷
    ((codes "report") ∷ (codes "queue") ∷ (codes "sends") ∷ (codes "repeats") ∷ (codes "receives") ∷ (codes "empties") ∷ (codes "deletes") ∷ (codes "expiries") ∷ (codes "redrives") ∷ (codes "moves") ∷ (codes "arrivals") ∷ (codes "OverLimit") ∷ (codes "MessageNotInflight") ∷ (codes "ReceiptHandleIsInvalid") ∷ (codes "BadTimeout") ∷ (codes "MissingGroup") ∷ (codes "MissingDeduplication") ∷ (codes "BadDelay") ∷ (codes "TaskRunning") ∷ (codes "NoTask") ∷ (codes "depth_max") ∷ (codes "visible") ∷ (codes "in_flight") ∷ (codes "delayed") ∷ (codes "age_sum") ∷ (codes "age_max") ∷ (codes "age_p50") ∷ (codes "age_p95") ∷ (codes "age_p99") ∷ []) ∷
    ((codes "report") ∷ (codes "a") ∷ (codes "1") ∷ (codes "0") ∷ (codes "1") ∷ (codes "1") ∷ (codes "1") ∷ (codes "0") ∷ (codes "0") ∷ (codes "0") ∷ (codes "0") ∷ (codes "0") ∷ (codes "0") ∷ (codes "0") ∷ (codes "0") ∷ (codes "0") ∷ (codes "0") ∷ (codes "0") ∷ (codes "0") ∷ (codes "0") ∷ (codes "1") ∷ (codes "0") ∷ (codes "0") ∷ (codes "0") ∷ (codes "200") ∷ (codes "200") ∷ (codes "200") ∷ (codes "200") ∷ (codes "200") ∷ []) ∷
    ((codes "report") ∷ (codes "b") ∷ (codes "0") ∷ (codes "0") ∷ (codes "1") ∷ (codes "0") ∷ (codes "1") ∷ (codes "0") ∷ (codes "0") ∷ (codes "0") ∷ (codes "1") ∷ (codes "0") ∷ (codes "0") ∷ (codes "0") ∷ (codes "0") ∷ (codes "0") ∷ (codes "0") ∷ (codes "0") ∷ (codes "0") ∷ (codes "0") ∷ (codes "1") ∷ (codes "0") ∷ (codes "0") ∷ (codes "0") ∷ (codes "100") ∷ (codes "100") ∷ (codes "100") ∷ (codes "100") ∷ (codes "100") ∷ []) ∷
    ((codes "report") ∷ (codes "c") ∷ (codes "0") ∷ (codes "0") ∷ (codes "1") ∷ (codes "0") ∷ (codes "0") ∷ (codes "0") ∷ (codes "0") ∷ (codes "0") ∷ (codes "1") ∷ (codes "0") ∷ (codes "0") ∷ (codes "0") ∷ (codes "0") ∷ (codes "0") ∷ (codes "0") ∷ (codes "0") ∷ (codes "0") ∷ (codes "0") ∷ (codes "1") ∷ (codes "0") ∷ (codes "1") ∷ (codes "0") ∷ (codes "0") ∷ [] ∷ [] ∷ [] ∷ [] ∷ []) ∷ [])
unfolding reading_on_literals running_on_literals columns_of
case_0_forwards_over_three_queues = refl

-- worked/groups_received_in_order.toml
case_0_groups_received_in_order : shown 6 [] (codes "version = 1\nhorizon = 1000\n[[queue]]\nname = '''f.fifo'''\n[[actor]]\nname = '''p'''\nkind = '''producer'''\nqueue = '''f.fifo'''\ncount = 3\ngap_min_ms = 100\ngap_max_ms = 100\nbody = '''{n}'''\ngroups = 2\n[[actor]]\nname = '''s'''\nkind = '''script'''\nqueue = '''f.fifo'''\ncalls = '''at,call,body,group,id,delay,receipt,max,wait,timeout,task\n300,receive,,,,,,10,,,\n'''\n")
    ≡ ran (((codes "at") ∷ (codes "queue") ∷ (codes "agent") ∷ (codes "call") ∷ (codes "answer") ∷ (codes "message") ∷ (codes "receipt") ∷ (codes "detail") ∷ []) ∷
    ((codes "0") ∷ (codes "f.fifo") ∷ (codes "p") ∷ (codes "send") ∷ (codes "new") ∷ (codes "m-0-0") ∷ [] ∷ digest (codes "0") ∷ []) ∷
    ((codes "100") ∷ (codes "f.fifo") ∷ (codes "p") ∷ (codes "send") ∷ (codes "new") ∷ (codes "m-0-1") ∷ [] ∷ digest (codes "1") ∷ []) ∷
    ((codes "200") ∷ (codes "f.fifo") ∷ (codes "p") ∷ (codes "send") ∷ (codes "new") ∷ (codes "m-0-2") ∷ [] ∷ digest (codes "2") ∷ []) ∷
    ((codes "300") ∷ (codes "f.fifo") ∷ (codes "s") ∷ (codes "receive") ∷ (codes "ok") ∷ (codes "m-0-0") ∷ (codes "r-0-0-1") ∷ (codes "o-0-0") ∷ []) ∷
    ((codes "300") ∷ (codes "f.fifo") ∷ (codes "s") ∷ (codes "receive") ∷ (codes "ok") ∷ (codes "m-0-2") ∷ (codes "r-0-2-1") ∷ (codes "o-0-2") ∷ []) ∷
    ((codes "300") ∷ (codes "f.fifo") ∷ (codes "s") ∷ (codes "receive") ∷ (codes "ok") ∷ (codes "m-0-1") ∷ (codes "r-0-1-1") ∷ (codes "o-0-1") ∷ []) ∷
    ((codes "final") ∷ (codes "queue") ∷ (codes "message") ∷ (codes "origin") ∷ (codes "place") ∷ (codes "due") ∷ (codes "enqueued") ∷ (codes "receives") ∷ (codes "group") ∷ (codes "md5") ∷ []) ∷
    ((codes "final") ∷ (codes "f.fifo") ∷ (codes "m-0-0") ∷ (codes "o-0-0") ∷ (codes "inflight") ∷ (codes "30300") ∷ (codes "0") ∷ (codes "1") ∷ (codes "g0") ∷ digest (codes "0") ∷ []) ∷
    ((codes "final") ∷ (codes "f.fifo") ∷ (codes "m-0-1") ∷ (codes "o-0-1") ∷ (codes "inflight") ∷ (codes "30300") ∷ (codes "100") ∷ (codes "1") ∷ (codes "g1") ∷ digest (codes "1") ∷ []) ∷
    ((codes "final") ∷ (codes "f.fifo") ∷ (codes "m-0-2") ∷ (codes "o-0-2") ∷ (codes "inflight") ∷ (codes "30300") ∷ (codes "200") ∷ (codes "1") ∷ (codes "g0") ∷ digest (codes "2") ∷ []) ∷
    ((codes "transfer") ∷ (codes "from") ∷ (codes "to") ∷ (codes "kind") ∷ (codes "due") ∷ (codes "number") ∷ (codes "message") ∷ (codes "origin") ∷ (codes "md5") ∷ []) ∷
    ((codes "task") ∷ (codes "name") ∷ (codes "status") ∷ (codes "moved") ∷ []) ∷
    ((codes "report") ∷ (codes "queue") ∷ (codes "sends") ∷ (codes "repeats") ∷ (codes "receives") ∷ (codes "empties") ∷ (codes "deletes") ∷ (codes "expiries") ∷ (codes "redrives") ∷ (codes "moves") ∷ (codes "arrivals") ∷ (codes "OverLimit") ∷ (codes "MessageNotInflight") ∷ (codes "ReceiptHandleIsInvalid") ∷ (codes "BadTimeout") ∷ (codes "MissingGroup") ∷ (codes "MissingDeduplication") ∷ (codes "BadDelay") ∷ (codes "TaskRunning") ∷ (codes "NoTask") ∷ (codes "depth_max") ∷ (codes "visible") ∷ (codes "in_flight") ∷ (codes "delayed") ∷ (codes "age_sum") ∷ (codes "age_max") ∷ (codes "age_p50") ∷ (codes "age_p95") ∷ (codes "age_p99") ∷ []) ∷
    ((codes "report") ∷ (codes "f.fifo") ∷ (codes "3") ∷ (codes "0") ∷ (codes "3") ∷ (codes "0") ∷ (codes "0") ∷ (codes "0") ∷ (codes "0") ∷ (codes "0") ∷ (codes "0") ∷ (codes "0") ∷ (codes "0") ∷ (codes "0") ∷ (codes "0") ∷ (codes "0") ∷ (codes "0") ∷ (codes "0") ∷ (codes "0") ∷ (codes "0") ∷ (codes "3") ∷ (codes "0") ∷ (codes "3") ∷ (codes "0") ∷ (codes "0") ∷ [] ∷ [] ∷ [] ∷ [] ∷ []) ∷ [])
unfolding reading_on_literals running_on_literals columns_of
case_0_groups_received_in_order = refl

-- worked/idle_time_then_a_redrive.toml
case_0_idle_time_then_a_redrive : shown 1 [] (codes "version = 1\nhorizon = 2000000\n[[queue]]\nname = '''q'''\ndead_letter = '''d'''\nmax_receives = 1\nlatency_ms = 500\n[[queue]]\nname = '''d'''\n[[actor]]\nname = '''s'''\nkind = '''script'''\nqueue = '''q'''\ncalls = '''at,call,body,group,id,delay,receipt,max,wait,timeout,task\n1000000,send,abc,,,,,,,,\n'''\n")
    ≡ ran (((codes "at") ∷ (codes "queue") ∷ (codes "agent") ∷ (codes "call") ∷ (codes "answer") ∷ (codes "message") ∷ (codes "receipt") ∷ (codes "detail") ∷ []) ∷
    ((codes "1000000") ∷ (codes "q") ∷ (codes "s") ∷ (codes "send") ∷ (codes "new") ∷ (codes "m-0-0") ∷ [] ∷ digest (codes "abc") ∷ []) ∷
    ((codes "final") ∷ (codes "queue") ∷ (codes "message") ∷ (codes "origin") ∷ (codes "place") ∷ (codes "due") ∷ (codes "enqueued") ∷ (codes "receives") ∷ (codes "group") ∷ (codes "md5") ∷ []) ∷
    ((codes "final") ∷ (codes "q") ∷ (codes "m-0-0") ∷ (codes "o-0-0") ∷ (codes "visible") ∷ [] ∷ (codes "1000000") ∷ (codes "0") ∷ [] ∷ digest (codes "abc") ∷ []) ∷
    ((codes "transfer") ∷ (codes "from") ∷ (codes "to") ∷ (codes "kind") ∷ (codes "due") ∷ (codes "number") ∷ (codes "message") ∷ (codes "origin") ∷ (codes "md5") ∷ []) ∷
    ((codes "task") ∷ (codes "name") ∷ (codes "status") ∷ (codes "moved") ∷ []) ∷
    ((codes "report") ∷ (codes "queue") ∷ (codes "sends") ∷ (codes "repeats") ∷ (codes "receives") ∷ (codes "empties") ∷ (codes "deletes") ∷ (codes "expiries") ∷ (codes "redrives") ∷ (codes "moves") ∷ (codes "arrivals") ∷ (codes "OverLimit") ∷ (codes "MessageNotInflight") ∷ (codes "ReceiptHandleIsInvalid") ∷ (codes "BadTimeout") ∷ (codes "MissingGroup") ∷ (codes "MissingDeduplication") ∷ (codes "BadDelay") ∷ (codes "TaskRunning") ∷ (codes "NoTask") ∷ (codes "depth_max") ∷ (codes "visible") ∷ (codes "in_flight") ∷ (codes "delayed") ∷ (codes "age_sum") ∷ (codes "age_max") ∷ (codes "age_p50") ∷ (codes "age_p95") ∷ (codes "age_p99") ∷ []) ∷
    ((codes "report") ∷ (codes "q") ∷ (codes "1") ∷ (codes "0") ∷ (codes "0") ∷ (codes "0") ∷ (codes "0") ∷ (codes "0") ∷ (codes "0") ∷ (codes "0") ∷ (codes "0") ∷ (codes "0") ∷ (codes "0") ∷ (codes "0") ∷ (codes "0") ∷ (codes "0") ∷ (codes "0") ∷ (codes "0") ∷ (codes "0") ∷ (codes "0") ∷ (codes "1") ∷ (codes "1") ∷ (codes "0") ∷ (codes "0") ∷ (codes "0") ∷ [] ∷ [] ∷ [] ∷ [] ∷ []) ∷
    ((codes "report") ∷ (codes "d") ∷ (codes "0") ∷ (codes "0") ∷ (codes "0") ∷ (codes "0") ∷ (codes "0") ∷ (codes "0") ∷ (codes "0") ∷ (codes "0") ∷ (codes "0") ∷ (codes "0") ∷ (codes "0") ∷ (codes "0") ∷ (codes "0") ∷ (codes "0") ∷ (codes "0") ∷ (codes "0") ∷ (codes "0") ∷ (codes "0") ∷ (codes "0") ∷ (codes "0") ∷ (codes "0") ∷ (codes "0") ∷ (codes "0") ∷ [] ∷ [] ∷ [] ∷ [] ∷ []) ∷ [])
unfolding reading_on_literals running_on_literals columns_of
case_0_idle_time_then_a_redrive = refl

-- worked/latency_between_bounds.toml
case_0_latency_between_bounds : shown 8 [] (codes "version = 2\nhorizon = 1000\n[[queue]]\nname = '''q'''\ndead_letter = '''d'''\nmax_receives = 1\nlatency_min_ms = 1\nlatency_max_ms = 100\n[[queue]]\nname = '''d'''\n[[actor]]\nname = '''s'''\nkind = '''script'''\nqueue = '''q'''\ncalls = '''at,call,body,group,id,delay,receipt,max,wait,timeout,task\n0,send,abc,,,,,,,,\n1,send,abc,,,,,,,,\n100,receive,,,,,,2,1,0,\n'''\n")
    ≡ ran (((codes "at") ∷ (codes "queue") ∷ (codes "agent") ∷ (codes "call") ∷ (codes "answer") ∷ (codes "message") ∷ (codes "receipt") ∷ (codes "detail") ∷ []) ∷
    ((codes "0") ∷ (codes "q") ∷ (codes "s") ∷ (codes "send") ∷ (codes "new") ∷ (codes "m-0-0") ∷ [] ∷ digest (codes "abc") ∷ []) ∷
    ((codes "1") ∷ (codes "q") ∷ (codes "s") ∷ (codes "send") ∷ (codes "new") ∷ (codes "m-0-1") ∷ [] ∷ digest (codes "abc") ∷ []) ∷
    ((codes "100") ∷ (codes "q") ∷ (codes "s") ∷ (codes "receive") ∷ (codes "ok") ∷ (codes "m-0-0") ∷ (codes "r-0-0-1") ∷ (codes "o-0-0") ∷ []) ∷
    ((codes "100") ∷ (codes "q") ∷ (codes "s") ∷ (codes "receive") ∷ (codes "ok") ∷ (codes "m-0-1") ∷ (codes "r-0-1-1") ∷ (codes "o-0-1") ∷ []) ∷
    ((codes "100") ∷ (codes "q") ∷ (codes "q") ∷ (codes "redrive") ∷ (codes "out") ∷ (codes "m-0-0") ∷ [] ∷ (codes "d") ∷ []) ∷
    ((codes "100") ∷ (codes "q") ∷ (codes "q") ∷ (codes "redrive") ∷ (codes "out") ∷ (codes "m-0-1") ∷ [] ∷ (codes "d") ∷ []) ∷
    ((codes "157") ∷ (codes "d") ∷ (codes "q") ∷ (codes "arrive") ∷ (codes "new") ∷ (codes "m-1-0") ∷ [] ∷ (codes "o-0-1") ∷ []) ∷
    ((codes "168") ∷ (codes "d") ∷ (codes "q") ∷ (codes "arrive") ∷ (codes "new") ∷ (codes "m-1-1") ∷ [] ∷ (codes "o-0-0") ∷ []) ∷
    ((codes "final") ∷ (codes "queue") ∷ (codes "message") ∷ (codes "origin") ∷ (codes "place") ∷ (codes "due") ∷ (codes "enqueued") ∷ (codes "receives") ∷ (codes "group") ∷ (codes "md5") ∷ []) ∷
    ((codes "final") ∷ (codes "d") ∷ (codes "m-1-0") ∷ (codes "o-0-1") ∷ (codes "visible") ∷ [] ∷ (codes "1") ∷ (codes "0") ∷ [] ∷ digest (codes "abc") ∷ []) ∷
    ((codes "final") ∷ (codes "d") ∷ (codes "m-1-1") ∷ (codes "o-0-0") ∷ (codes "visible") ∷ [] ∷ (codes "0") ∷ (codes "0") ∷ [] ∷ digest (codes "abc") ∷ []) ∷
    ((codes "transfer") ∷ (codes "from") ∷ (codes "to") ∷ (codes "kind") ∷ (codes "due") ∷ (codes "number") ∷ (codes "message") ∷ (codes "origin") ∷ (codes "md5") ∷ []) ∷
    ((codes "task") ∷ (codes "name") ∷ (codes "status") ∷ (codes "moved") ∷ []) ∷
    ((codes "report") ∷ (codes "queue") ∷ (codes "sends") ∷ (codes "repeats") ∷ (codes "receives") ∷ (codes "empties") ∷ (codes "deletes") ∷ (codes "expiries") ∷ (codes "redrives") ∷ (codes "moves") ∷ (codes "arrivals") ∷ (codes "OverLimit") ∷ (codes "MessageNotInflight") ∷ (codes "ReceiptHandleIsInvalid") ∷ (codes "BadTimeout") ∷ (codes "MissingGroup") ∷ (codes "MissingDeduplication") ∷ (codes "BadDelay") ∷ (codes "TaskRunning") ∷ (codes "NoTask") ∷ (codes "depth_max") ∷ (codes "visible") ∷ (codes "in_flight") ∷ (codes "delayed") ∷ (codes "age_sum") ∷ (codes "age_max") ∷ (codes "age_p50") ∷ (codes "age_p95") ∷ (codes "age_p99") ∷ []) ∷
    ((codes "report") ∷ (codes "q") ∷ (codes "2") ∷ (codes "0") ∷ (codes "2") ∷ (codes "0") ∷ (codes "0") ∷ (codes "0") ∷ (codes "2") ∷ (codes "0") ∷ (codes "0") ∷ (codes "0") ∷ (codes "0") ∷ (codes "0") ∷ (codes "0") ∷ (codes "0") ∷ (codes "0") ∷ (codes "0") ∷ (codes "0") ∷ (codes "0") ∷ (codes "2") ∷ (codes "0") ∷ (codes "0") ∷ (codes "0") ∷ (codes "0") ∷ [] ∷ [] ∷ [] ∷ [] ∷ []) ∷
    ((codes "report") ∷ (codes "d") ∷ (codes "0") ∷ (codes "0") ∷ (codes "0") ∷ (codes "0") ∷ (codes "0") ∷ (codes "0") ∷ (codes "0") ∷ (codes "0") ∷ (codes "2") ∷ (codes "0") ∷ (codes "0") ∷ (codes "0") ∷ (codes "0") ∷ (codes "0") ∷ (codes "0") ∷ (codes "0") ∷ (codes "0") ∷ (codes "0") ∷ (codes "2") ∷ (codes "2") ∷ (codes "0") ∷ (codes "0") ∷ (codes "0") ∷ [] ∷ [] ∷ [] ∷ [] ∷ []) ∷ [])
unfolding reading_on_literals running_on_literals columns_of
case_0_latency_between_bounds = refl

-- worked/latency_by_the_first_word.toml
case_0_latency_by_the_first_word : shown 4 [] (codes "version = 2\nhorizon = 1000\n[[queue]]\nname = '''q'''\ndead_letter = '''d'''\nmax_receives = 1\nlatency_min_ms = 1\nlatency_max_ms = 100\n[[queue]]\nname = '''d'''\n[[actor]]\nname = '''s'''\nkind = '''script'''\nqueue = '''q'''\ncalls = '''at,call,body,group,id,delay,receipt,max,wait,timeout,task\n0,send,abc,,,,,,,,\n100,receive,,,,,,,,0,\n'''\n")
    ≡ ran (((codes "at") ∷ (codes "queue") ∷ (codes "agent") ∷ (codes "call") ∷ (codes "answer") ∷ (codes "message") ∷ (codes "receipt") ∷ (codes "detail") ∷ []) ∷
    ((codes "0") ∷ (codes "q") ∷ (codes "s") ∷ (codes "send") ∷ (codes "new") ∷ (codes "m-0-0") ∷ [] ∷ digest (codes "abc") ∷ []) ∷
    ((codes "100") ∷ (codes "q") ∷ (codes "s") ∷ (codes "receive") ∷ (codes "ok") ∷ (codes "m-0-0") ∷ (codes "r-0-0-1") ∷ (codes "o-0-0") ∷ []) ∷
    ((codes "100") ∷ (codes "q") ∷ (codes "q") ∷ (codes "redrive") ∷ (codes "out") ∷ (codes "m-0-0") ∷ [] ∷ (codes "d") ∷ []) ∷
    ((codes "157") ∷ (codes "d") ∷ (codes "q") ∷ (codes "arrive") ∷ (codes "new") ∷ (codes "m-1-0") ∷ [] ∷ (codes "o-0-0") ∷ []) ∷
    ((codes "final") ∷ (codes "queue") ∷ (codes "message") ∷ (codes "origin") ∷ (codes "place") ∷ (codes "due") ∷ (codes "enqueued") ∷ (codes "receives") ∷ (codes "group") ∷ (codes "md5") ∷ []) ∷
    ((codes "final") ∷ (codes "d") ∷ (codes "m-1-0") ∷ (codes "o-0-0") ∷ (codes "visible") ∷ [] ∷ (codes "0") ∷ (codes "0") ∷ [] ∷ digest (codes "abc") ∷ []) ∷
    ((codes "transfer") ∷ (codes "from") ∷ (codes "to") ∷ (codes "kind") ∷ (codes "due") ∷ (codes "number") ∷ (codes "message") ∷ (codes "origin") ∷ (codes "md5") ∷ []) ∷
    ((codes "task") ∷ (codes "name") ∷ (codes "status") ∷ (codes "moved") ∷ []) ∷
    ((codes "report") ∷ (codes "queue") ∷ (codes "sends") ∷ (codes "repeats") ∷ (codes "receives") ∷ (codes "empties") ∷ (codes "deletes") ∷ (codes "expiries") ∷ (codes "redrives") ∷ (codes "moves") ∷ (codes "arrivals") ∷ (codes "OverLimit") ∷ (codes "MessageNotInflight") ∷ (codes "ReceiptHandleIsInvalid") ∷ (codes "BadTimeout") ∷ (codes "MissingGroup") ∷ (codes "MissingDeduplication") ∷ (codes "BadDelay") ∷ (codes "TaskRunning") ∷ (codes "NoTask") ∷ (codes "depth_max") ∷ (codes "visible") ∷ (codes "in_flight") ∷ (codes "delayed") ∷ (codes "age_sum") ∷ (codes "age_max") ∷ (codes "age_p50") ∷ (codes "age_p95") ∷ (codes "age_p99") ∷ []) ∷
    ((codes "report") ∷ (codes "q") ∷ (codes "1") ∷ (codes "0") ∷ (codes "1") ∷ (codes "0") ∷ (codes "0") ∷ (codes "0") ∷ (codes "1") ∷ (codes "0") ∷ (codes "0") ∷ (codes "0") ∷ (codes "0") ∷ (codes "0") ∷ (codes "0") ∷ (codes "0") ∷ (codes "0") ∷ (codes "0") ∷ (codes "0") ∷ (codes "0") ∷ (codes "1") ∷ (codes "0") ∷ (codes "0") ∷ (codes "0") ∷ (codes "0") ∷ [] ∷ [] ∷ [] ∷ [] ∷ []) ∷
    ((codes "report") ∷ (codes "d") ∷ (codes "0") ∷ (codes "0") ∷ (codes "0") ∷ (codes "0") ∷ (codes "0") ∷ (codes "0") ∷ (codes "0") ∷ (codes "0") ∷ (codes "1") ∷ (codes "0") ∷ (codes "0") ∷ (codes "0") ∷ (codes "0") ∷ (codes "0") ∷ (codes "0") ∷ (codes "0") ∷ (codes "0") ∷ (codes "0") ∷ (codes "1") ∷ (codes "1") ∷ (codes "0") ∷ (codes "0") ∷ (codes "0") ∷ [] ∷ [] ∷ [] ∷ [] ∷ []) ∷ [])
unfolding reading_on_literals running_on_literals columns_of
case_0_latency_by_the_first_word = refl

-- worked/move_task_brings_back.toml
case_0_move_task_brings_back : shown 26 [] (codes "version = 1\nhorizon = 5000\n[[queue]]\nname = '''a'''\ndead_letter = '''d'''\nmax_receives = 1\nlatency_ms = 5\n[[queue]]\nname = '''b'''\ndead_letter = '''d'''\nmax_receives = 1\nlatency_ms = 5\n[[queue]]\nname = '''d'''\n[[actor]]\nname = '''s'''\nkind = '''script'''\nqueue = '''a'''\ncalls = '''at,call,body,group,id,delay,receipt,max,wait,timeout,task\n0,send,abc,,,,,,,,\n1,send,abc,,,,,,,,\n10,receive,,,,,,2,,0,\n'''\n[[actor]]\nname = '''t'''\nkind = '''script'''\nqueue = '''b'''\ncalls = '''at,call,body,group,id,delay,receipt,max,wait,timeout,task\n0,send,abc,,,,,,,,\n1,send,abc,,,,,,,,\n20,receive,,,,,,2,,0,\n'''\n[[actor]]\nname = '''u'''\nkind = '''script'''\nqueue = '''d'''\ncalls = '''at,call,body,group,id,delay,receipt,max,wait,timeout,task\n100,start,,,,,,,,,k\n200,start,,,,,,,,,k\n1500,cancel,,,,,,,,,k\n1600,cancel,,,,,,,,,k\n'''\n[[task]]\nname = '''k'''\nqueue = '''d'''\nper_second = 3\nlatency_ms = 100\n")
    ≡ ran (((codes "at") ∷ (codes "queue") ∷ (codes "agent") ∷ (codes "call") ∷ (codes "answer") ∷ (codes "message") ∷ (codes "receipt") ∷ (codes "detail") ∷ []) ∷
    ((codes "0") ∷ (codes "a") ∷ (codes "s") ∷ (codes "send") ∷ (codes "new") ∷ (codes "m-0-0") ∷ [] ∷ digest (codes "abc") ∷ []) ∷
    ((codes "0") ∷ (codes "b") ∷ (codes "t") ∷ (codes "send") ∷ (codes "new") ∷ (codes "m-1-0") ∷ [] ∷ digest (codes "abc") ∷ []) ∷
    ((codes "1") ∷ (codes "a") ∷ (codes "s") ∷ (codes "send") ∷ (codes "new") ∷ (codes "m-0-1") ∷ [] ∷ digest (codes "abc") ∷ []) ∷
    ((codes "1") ∷ (codes "b") ∷ (codes "t") ∷ (codes "send") ∷ (codes "new") ∷ (codes "m-1-1") ∷ [] ∷ digest (codes "abc") ∷ []) ∷
    ((codes "10") ∷ (codes "a") ∷ (codes "s") ∷ (codes "receive") ∷ (codes "ok") ∷ (codes "m-0-0") ∷ (codes "r-0-0-1") ∷ (codes "o-0-0") ∷ []) ∷
    ((codes "10") ∷ (codes "a") ∷ (codes "s") ∷ (codes "receive") ∷ (codes "ok") ∷ (codes "m-0-1") ∷ (codes "r-0-1-1") ∷ (codes "o-0-1") ∷ []) ∷
    ((codes "10") ∷ (codes "a") ∷ (codes "a") ∷ (codes "redrive") ∷ (codes "out") ∷ (codes "m-0-0") ∷ [] ∷ (codes "d") ∷ []) ∷
    ((codes "10") ∷ (codes "a") ∷ (codes "a") ∷ (codes "redrive") ∷ (codes "out") ∷ (codes "m-0-1") ∷ [] ∷ (codes "d") ∷ []) ∷
    ((codes "15") ∷ (codes "d") ∷ (codes "a") ∷ (codes "arrive") ∷ (codes "new") ∷ (codes "m-2-0") ∷ [] ∷ (codes "o-0-0") ∷ []) ∷
    ((codes "15") ∷ (codes "d") ∷ (codes "a") ∷ (codes "arrive") ∷ (codes "new") ∷ (codes "m-2-1") ∷ [] ∷ (codes "o-0-1") ∷ []) ∷
    ((codes "20") ∷ (codes "b") ∷ (codes "t") ∷ (codes "receive") ∷ (codes "ok") ∷ (codes "m-1-0") ∷ (codes "r-1-0-1") ∷ (codes "o-1-0") ∷ []) ∷
    ((codes "20") ∷ (codes "b") ∷ (codes "t") ∷ (codes "receive") ∷ (codes "ok") ∷ (codes "m-1-1") ∷ (codes "r-1-1-1") ∷ (codes "o-1-1") ∷ []) ∷
    ((codes "20") ∷ (codes "b") ∷ (codes "b") ∷ (codes "redrive") ∷ (codes "out") ∷ (codes "m-1-0") ∷ [] ∷ (codes "d") ∷ []) ∷
    ((codes "20") ∷ (codes "b") ∷ (codes "b") ∷ (codes "redrive") ∷ (codes "out") ∷ (codes "m-1-1") ∷ [] ∷ (codes "d") ∷ []) ∷
    ((codes "25") ∷ (codes "d") ∷ (codes "b") ∷ (codes "arrive") ∷ (codes "new") ∷ (codes "m-2-2") ∷ [] ∷ (codes "o-1-0") ∷ []) ∷
    ((codes "25") ∷ (codes "d") ∷ (codes "b") ∷ (codes "arrive") ∷ (codes "new") ∷ (codes "m-2-3") ∷ [] ∷ (codes "o-1-1") ∷ []) ∷
    ((codes "100") ∷ (codes "d") ∷ (codes "u") ∷ (codes "start") ∷ (codes "ok") ∷ [] ∷ [] ∷ (codes "k") ∷ []) ∷
    ((codes "200") ∷ (codes "d") ∷ (codes "u") ∷ (codes "start") ∷ (codes "TaskRunning") ∷ [] ∷ [] ∷ (codes "k") ∷ []) ∷
    ((codes "1100") ∷ (codes "d") ∷ (codes "k") ∷ (codes "move") ∷ (codes "out") ∷ (codes "m-2-0") ∷ [] ∷ (codes "a") ∷ []) ∷
    ((codes "1100") ∷ (codes "d") ∷ (codes "k") ∷ (codes "move") ∷ (codes "out") ∷ (codes "m-2-1") ∷ [] ∷ (codes "a") ∷ []) ∷
    ((codes "1100") ∷ (codes "d") ∷ (codes "k") ∷ (codes "move") ∷ (codes "out") ∷ (codes "m-2-2") ∷ [] ∷ (codes "b") ∷ []) ∷
    ((codes "1200") ∷ (codes "a") ∷ (codes "k") ∷ (codes "arrive") ∷ (codes "new") ∷ (codes "m-0-2") ∷ [] ∷ (codes "o-0-0") ∷ []) ∷
    ((codes "1200") ∷ (codes "a") ∷ (codes "k") ∷ (codes "arrive") ∷ (codes "new") ∷ (codes "m-0-3") ∷ [] ∷ (codes "o-0-1") ∷ []) ∷
    ((codes "1200") ∷ (codes "b") ∷ (codes "k") ∷ (codes "arrive") ∷ (codes "new") ∷ (codes "m-1-2") ∷ [] ∷ (codes "o-1-0") ∷ []) ∷
    ((codes "1500") ∷ (codes "d") ∷ (codes "u") ∷ (codes "cancel") ∷ (codes "ok") ∷ [] ∷ [] ∷ (codes "k") ∷ []) ∷
    ((codes "1600") ∷ (codes "d") ∷ (codes "u") ∷ (codes "cancel") ∷ (codes "NoTask") ∷ [] ∷ [] ∷ (codes "k") ∷ []) ∷
    ((codes "final") ∷ (codes "queue") ∷ (codes "message") ∷ (codes "origin") ∷ (codes "place") ∷ (codes "due") ∷ (codes "enqueued") ∷ (codes "receives") ∷ (codes "group") ∷ (codes "md5") ∷ []) ∷
    ((codes "final") ∷ (codes "a") ∷ (codes "m-0-2") ∷ (codes "o-0-0") ∷ (codes "visible") ∷ [] ∷ (codes "1200") ∷ (codes "0") ∷ [] ∷ digest (codes "abc") ∷ []) ∷
    ((codes "final") ∷ (codes "a") ∷ (codes "m-0-3") ∷ (codes "o-0-1") ∷ (codes "visible") ∷ [] ∷ (codes "1200") ∷ (codes "0") ∷ [] ∷ digest (codes "abc") ∷ []) ∷
    ((codes "final") ∷ (codes "b") ∷ (codes "m-1-2") ∷ (codes "o-1-0") ∷ (codes "visible") ∷ [] ∷ (codes "1200") ∷ (codes "0") ∷ [] ∷ digest (codes "abc") ∷ []) ∷
    ((codes "final") ∷ (codes "d") ∷ (codes "m-2-3") ∷ (codes "o-1-1") ∷ (codes "visible") ∷ [] ∷ (codes "1") ∷ (codes "0") ∷ [] ∷ digest (codes "abc") ∷ []) ∷
    ((codes "transfer") ∷ (codes "from") ∷ (codes "to") ∷ (codes "kind") ∷ (codes "due") ∷ (codes "number") ∷ (codes "message") ∷ (codes "origin") ∷ (codes "md5") ∷ []) ∷
    ((codes "task") ∷ (codes "name") ∷ (codes "status") ∷ (codes "moved") ∷ []) ∷
    ((codes "task") ∷ (codes "k") ∷ (codes "Cancelled") ∷ (codes "3") ∷ []) ∷
    ((codes "report") ∷ (codes "queue") ∷ (codes "sends") ∷ (codes "repeats") ∷ (codes "receives") ∷ (codes "empties") ∷ (codes "deletes") ∷ (codes "expiries") ∷ (codes "redrives") ∷ (codes "moves") ∷ (codes "arrivals") ∷ (codes "OverLimit") ∷ (codes "MessageNotInflight") ∷ (codes "ReceiptHandleIsInvalid") ∷ (codes "BadTimeout") ∷ (codes "MissingGroup") ∷ (codes "MissingDeduplication") ∷ (codes "BadDelay") ∷ (codes "TaskRunning") ∷ (codes "NoTask") ∷ (codes "depth_max") ∷ (codes "visible") ∷ (codes "in_flight") ∷ (codes "delayed") ∷ (codes "age_sum") ∷ (codes "age_max") ∷ (codes "age_p50") ∷ (codes "age_p95") ∷ (codes "age_p99") ∷ []) ∷
    ((codes "report") ∷ (codes "a") ∷ (codes "2") ∷ (codes "0") ∷ (codes "2") ∷ (codes "0") ∷ (codes "0") ∷ (codes "0") ∷ (codes "2") ∷ (codes "0") ∷ (codes "2") ∷ (codes "0") ∷ (codes "0") ∷ (codes "0") ∷ (codes "0") ∷ (codes "0") ∷ (codes "0") ∷ (codes "0") ∷ (codes "0") ∷ (codes "0") ∷ (codes "2") ∷ (codes "2") ∷ (codes "0") ∷ (codes "0") ∷ (codes "0") ∷ [] ∷ [] ∷ [] ∷ [] ∷ []) ∷
    ((codes "report") ∷ (codes "b") ∷ (codes "2") ∷ (codes "0") ∷ (codes "2") ∷ (codes "0") ∷ (codes "0") ∷ (codes "0") ∷ (codes "2") ∷ (codes "0") ∷ (codes "1") ∷ (codes "0") ∷ (codes "0") ∷ (codes "0") ∷ (codes "0") ∷ (codes "0") ∷ (codes "0") ∷ (codes "0") ∷ (codes "0") ∷ (codes "0") ∷ (codes "2") ∷ (codes "1") ∷ (codes "0") ∷ (codes "0") ∷ (codes "0") ∷ [] ∷ [] ∷ [] ∷ [] ∷ []) ∷
    ((codes "report") ∷ (codes "d") ∷ (codes "0") ∷ (codes "0") ∷ (codes "0") ∷ (codes "0") ∷ (codes "0") ∷ (codes "0") ∷ (codes "0") ∷ (codes "3") ∷ (codes "4") ∷ (codes "0") ∷ (codes "0") ∷ (codes "0") ∷ (codes "0") ∷ (codes "0") ∷ (codes "0") ∷ (codes "0") ∷ (codes "1") ∷ (codes "1") ∷ (codes "4") ∷ (codes "1") ∷ (codes "0") ∷ (codes "0") ∷ (codes "0") ∷ [] ∷ [] ∷ [] ∷ [] ∷ []) ∷ [])
unfolding reading_on_literals running_on_literals columns_of
case_0_move_task_brings_back = refl

-- worked/move_task_fails.toml
case_0_move_task_fails : shown 19 [] (codes "version = 1\nhorizon = 5000\n[[queue]]\nname = '''a'''\ndead_letter = '''d'''\nmax_receives = 1\nlatency_ms = 5\n[[queue]]\nname = '''b'''\ndead_letter = '''d'''\nmax_receives = 1\nlatency_ms = 5\n[[queue]]\nname = '''d'''\n[[actor]]\nname = '''s'''\nkind = '''script'''\nqueue = '''a'''\ncalls = '''at,call,body,group,id,delay,receipt,max,wait,timeout,task\n0,send,abc,,,,,,,,\n1,send,abc,,,,,,,,\n10,receive,,,,,,2,,0,\n'''\n[[actor]]\nname = '''t'''\nkind = '''script'''\nqueue = '''b'''\ncalls = '''at,call,body,group,id,delay,receipt,max,wait,timeout,task\n0,send,abc,,,,,,,,\n1,send,abc,,,,,,,,\n20,receive,,,,,,2,,0,\n'''\n[[actor]]\nname = '''u'''\nkind = '''script'''\nqueue = '''d'''\ncalls = '''at,call,body,group,id,delay,receipt,max,wait,timeout,task\n0,send,abc,,,,,,,,\n100,start,,,,,,,,,k\n'''\n[[task]]\nname = '''k'''\nqueue = '''d'''\nper_second = 3\nlatency_ms = 100\n")
    ≡ ran (((codes "at") ∷ (codes "queue") ∷ (codes "agent") ∷ (codes "call") ∷ (codes "answer") ∷ (codes "message") ∷ (codes "receipt") ∷ (codes "detail") ∷ []) ∷
    ((codes "0") ∷ (codes "a") ∷ (codes "s") ∷ (codes "send") ∷ (codes "new") ∷ (codes "m-0-0") ∷ [] ∷ digest (codes "abc") ∷ []) ∷
    ((codes "0") ∷ (codes "b") ∷ (codes "t") ∷ (codes "send") ∷ (codes "new") ∷ (codes "m-1-0") ∷ [] ∷ digest (codes "abc") ∷ []) ∷
    ((codes "0") ∷ (codes "d") ∷ (codes "u") ∷ (codes "send") ∷ (codes "new") ∷ (codes "m-2-0") ∷ [] ∷ digest (codes "abc") ∷ []) ∷
    ((codes "1") ∷ (codes "a") ∷ (codes "s") ∷ (codes "send") ∷ (codes "new") ∷ (codes "m-0-1") ∷ [] ∷ digest (codes "abc") ∷ []) ∷
    ((codes "1") ∷ (codes "b") ∷ (codes "t") ∷ (codes "send") ∷ (codes "new") ∷ (codes "m-1-1") ∷ [] ∷ digest (codes "abc") ∷ []) ∷
    ((codes "10") ∷ (codes "a") ∷ (codes "s") ∷ (codes "receive") ∷ (codes "ok") ∷ (codes "m-0-0") ∷ (codes "r-0-0-1") ∷ (codes "o-0-0") ∷ []) ∷
    ((codes "10") ∷ (codes "a") ∷ (codes "s") ∷ (codes "receive") ∷ (codes "ok") ∷ (codes "m-0-1") ∷ (codes "r-0-1-1") ∷ (codes "o-0-1") ∷ []) ∷
    ((codes "10") ∷ (codes "a") ∷ (codes "a") ∷ (codes "redrive") ∷ (codes "out") ∷ (codes "m-0-0") ∷ [] ∷ (codes "d") ∷ []) ∷
    ((codes "10") ∷ (codes "a") ∷ (codes "a") ∷ (codes "redrive") ∷ (codes "out") ∷ (codes "m-0-1") ∷ [] ∷ (codes "d") ∷ []) ∷
    ((codes "15") ∷ (codes "d") ∷ (codes "a") ∷ (codes "arrive") ∷ (codes "new") ∷ (codes "m-2-1") ∷ [] ∷ (codes "o-0-0") ∷ []) ∷
    ((codes "15") ∷ (codes "d") ∷ (codes "a") ∷ (codes "arrive") ∷ (codes "new") ∷ (codes "m-2-2") ∷ [] ∷ (codes "o-0-1") ∷ []) ∷
    ((codes "20") ∷ (codes "b") ∷ (codes "t") ∷ (codes "receive") ∷ (codes "ok") ∷ (codes "m-1-0") ∷ (codes "r-1-0-1") ∷ (codes "o-1-0") ∷ []) ∷
    ((codes "20") ∷ (codes "b") ∷ (codes "t") ∷ (codes "receive") ∷ (codes "ok") ∷ (codes "m-1-1") ∷ (codes "r-1-1-1") ∷ (codes "o-1-1") ∷ []) ∷
    ((codes "20") ∷ (codes "b") ∷ (codes "b") ∷ (codes "redrive") ∷ (codes "out") ∷ (codes "m-1-0") ∷ [] ∷ (codes "d") ∷ []) ∷
    ((codes "20") ∷ (codes "b") ∷ (codes "b") ∷ (codes "redrive") ∷ (codes "out") ∷ (codes "m-1-1") ∷ [] ∷ (codes "d") ∷ []) ∷
    ((codes "25") ∷ (codes "d") ∷ (codes "b") ∷ (codes "arrive") ∷ (codes "new") ∷ (codes "m-2-3") ∷ [] ∷ (codes "o-1-0") ∷ []) ∷
    ((codes "25") ∷ (codes "d") ∷ (codes "b") ∷ (codes "arrive") ∷ (codes "new") ∷ (codes "m-2-4") ∷ [] ∷ (codes "o-1-1") ∷ []) ∷
    ((codes "100") ∷ (codes "d") ∷ (codes "u") ∷ (codes "start") ∷ (codes "ok") ∷ [] ∷ [] ∷ (codes "k") ∷ []) ∷
    ((codes "1100") ∷ (codes "d") ∷ (codes "k") ∷ (codes "task") ∷ (codes "Failed") ∷ [] ∷ [] ∷ (codes "0") ∷ []) ∷
    ((codes "final") ∷ (codes "queue") ∷ (codes "message") ∷ (codes "origin") ∷ (codes "place") ∷ (codes "due") ∷ (codes "enqueued") ∷ (codes "receives") ∷ (codes "group") ∷ (codes "md5") ∷ []) ∷
    ((codes "final") ∷ (codes "d") ∷ (codes "m-2-0") ∷ (codes "o-2-0") ∷ (codes "visible") ∷ [] ∷ (codes "0") ∷ (codes "0") ∷ [] ∷ digest (codes "abc") ∷ []) ∷
    ((codes "final") ∷ (codes "d") ∷ (codes "m-2-1") ∷ (codes "o-0-0") ∷ (codes "visible") ∷ [] ∷ (codes "0") ∷ (codes "0") ∷ [] ∷ digest (codes "abc") ∷ []) ∷
    ((codes "final") ∷ (codes "d") ∷ (codes "m-2-2") ∷ (codes "o-0-1") ∷ (codes "visible") ∷ [] ∷ (codes "1") ∷ (codes "0") ∷ [] ∷ digest (codes "abc") ∷ []) ∷
    ((codes "final") ∷ (codes "d") ∷ (codes "m-2-3") ∷ (codes "o-1-0") ∷ (codes "visible") ∷ [] ∷ (codes "0") ∷ (codes "0") ∷ [] ∷ digest (codes "abc") ∷ []) ∷
    ((codes "final") ∷ (codes "d") ∷ (codes "m-2-4") ∷ (codes "o-1-1") ∷ (codes "visible") ∷ [] ∷ (codes "1") ∷ (codes "0") ∷ [] ∷ digest (codes "abc") ∷ []) ∷
    ((codes "transfer") ∷ (codes "from") ∷ (codes "to") ∷ (codes "kind") ∷ (codes "due") ∷ (codes "number") ∷ (codes "message") ∷ (codes "origin") ∷ (codes "md5") ∷ []) ∷
    ((codes "task") ∷ (codes "name") ∷ (codes "status") ∷ (codes "moved") ∷ []) ∷
    ((codes "task") ∷ (codes "k") ∷ (codes "Failed") ∷ (codes "0") ∷ []) ∷
    ((codes "report") ∷ (codes "queue") ∷ (codes "sends") ∷ (codes "repeats") ∷ (codes "receives") ∷ (codes "empties") ∷ (codes "deletes") ∷ (codes "expiries") ∷ (codes "redrives") ∷ (codes "moves") ∷ (codes "arrivals") ∷ (codes "OverLimit") ∷ (codes "MessageNotInflight") ∷ (codes "ReceiptHandleIsInvalid") ∷ (codes "BadTimeout") ∷ (codes "MissingGroup") ∷ (codes "MissingDeduplication") ∷ (codes "BadDelay") ∷ (codes "TaskRunning") ∷ (codes "NoTask") ∷ (codes "depth_max") ∷ (codes "visible") ∷ (codes "in_flight") ∷ (codes "delayed") ∷ (codes "age_sum") ∷ (codes "age_max") ∷ (codes "age_p50") ∷ (codes "age_p95") ∷ (codes "age_p99") ∷ []) ∷
    ((codes "report") ∷ (codes "a") ∷ (codes "2") ∷ (codes "0") ∷ (codes "2") ∷ (codes "0") ∷ (codes "0") ∷ (codes "0") ∷ (codes "2") ∷ (codes "0") ∷ (codes "0") ∷ (codes "0") ∷ (codes "0") ∷ (codes "0") ∷ (codes "0") ∷ (codes "0") ∷ (codes "0") ∷ (codes "0") ∷ (codes "0") ∷ (codes "0") ∷ (codes "2") ∷ (codes "0") ∷ (codes "0") ∷ (codes "0") ∷ (codes "0") ∷ [] ∷ [] ∷ [] ∷ [] ∷ []) ∷
    ((codes "report") ∷ (codes "b") ∷ (codes "2") ∷ (codes "0") ∷ (codes "2") ∷ (codes "0") ∷ (codes "0") ∷ (codes "0") ∷ (codes "2") ∷ (codes "0") ∷ (codes "0") ∷ (codes "0") ∷ (codes "0") ∷ (codes "0") ∷ (codes "0") ∷ (codes "0") ∷ (codes "0") ∷ (codes "0") ∷ (codes "0") ∷ (codes "0") ∷ (codes "2") ∷ (codes "0") ∷ (codes "0") ∷ (codes "0") ∷ (codes "0") ∷ [] ∷ [] ∷ [] ∷ [] ∷ []) ∷
    ((codes "report") ∷ (codes "d") ∷ (codes "1") ∷ (codes "0") ∷ (codes "0") ∷ (codes "0") ∷ (codes "0") ∷ (codes "0") ∷ (codes "0") ∷ (codes "0") ∷ (codes "4") ∷ (codes "0") ∷ (codes "0") ∷ (codes "0") ∷ (codes "0") ∷ (codes "0") ∷ (codes "0") ∷ (codes "0") ∷ (codes "0") ∷ (codes "0") ∷ (codes "5") ∷ (codes "5") ∷ (codes "0") ∷ (codes "0") ∷ (codes "0") ∷ [] ∷ [] ∷ [] ∷ [] ∷ []) ∷ [])
unfolding reading_on_literals running_on_literals columns_of
case_0_move_task_fails = refl

-- worked/nothing_sent.toml
case_0_nothing_sent : shown 0 [] (codes "version = 1\nhorizon = 1000\n[[queue]]\nname = \"q\"\n")
    ≡ ran (((codes "at") ∷ (codes "queue") ∷ (codes "agent") ∷ (codes "call") ∷ (codes "answer") ∷ (codes "message") ∷ (codes "receipt") ∷ (codes "detail") ∷ []) ∷
    ((codes "final") ∷ (codes "queue") ∷ (codes "message") ∷ (codes "origin") ∷ (codes "place") ∷ (codes "due") ∷ (codes "enqueued") ∷ (codes "receives") ∷ (codes "group") ∷ (codes "md5") ∷ []) ∷
    ((codes "transfer") ∷ (codes "from") ∷ (codes "to") ∷ (codes "kind") ∷ (codes "due") ∷ (codes "number") ∷ (codes "message") ∷ (codes "origin") ∷ (codes "md5") ∷ []) ∷
    ((codes "task") ∷ (codes "name") ∷ (codes "status") ∷ (codes "moved") ∷ []) ∷
    ((codes "report") ∷ (codes "queue") ∷ (codes "sends") ∷ (codes "repeats") ∷ (codes "receives") ∷ (codes "empties") ∷ (codes "deletes") ∷ (codes "expiries") ∷ (codes "redrives") ∷ (codes "moves") ∷ (codes "arrivals") ∷ (codes "OverLimit") ∷ (codes "MessageNotInflight") ∷ (codes "ReceiptHandleIsInvalid") ∷ (codes "BadTimeout") ∷ (codes "MissingGroup") ∷ (codes "MissingDeduplication") ∷ (codes "BadDelay") ∷ (codes "TaskRunning") ∷ (codes "NoTask") ∷ (codes "depth_max") ∷ (codes "visible") ∷ (codes "in_flight") ∷ (codes "delayed") ∷ (codes "age_sum") ∷ (codes "age_max") ∷ (codes "age_p50") ∷ (codes "age_p95") ∷ (codes "age_p99") ∷ []) ∷
    ((codes "report") ∷ (codes "q") ∷ (codes "0") ∷ (codes "0") ∷ (codes "0") ∷ (codes "0") ∷ (codes "0") ∷ (codes "0") ∷ (codes "0") ∷ (codes "0") ∷ (codes "0") ∷ (codes "0") ∷ (codes "0") ∷ (codes "0") ∷ (codes "0") ∷ (codes "0") ∷ (codes "0") ∷ (codes "0") ∷ (codes "0") ∷ (codes "0") ∷ (codes "0") ∷ (codes "0") ∷ (codes "0") ∷ (codes "0") ∷ (codes "0") ∷ [] ∷ [] ∷ [] ∷ [] ∷ []) ∷ [])
unfolding reading_on_literals running_on_literals columns_of
case_0_nothing_sent = refl

-- worked/older_receipt_keeps.toml
case_0_older_receipt_keeps : shown 6 [] (codes "version = 1\nhorizon = 2000\n[[queue]]\nname = '''q'''\nvisibility_s = 1\n[[actor]]\nname = '''s'''\nkind = '''script'''\nqueue = '''q'''\ncalls = '''at,call,body,group,id,delay,receipt,max,wait,timeout,task\n0,send,abc,,,,,,,,\n100,receive,,,,,,,,,\n1200,receive,,,,,,,,,\n1300,delete,,,,,r-0-0-1,,,,\n1400,delete,,,,,r-0-0-2,,,,\n'''\n")
    ≡ ran (((codes "at") ∷ (codes "queue") ∷ (codes "agent") ∷ (codes "call") ∷ (codes "answer") ∷ (codes "message") ∷ (codes "receipt") ∷ (codes "detail") ∷ []) ∷
    ((codes "0") ∷ (codes "q") ∷ (codes "s") ∷ (codes "send") ∷ (codes "new") ∷ (codes "m-0-0") ∷ [] ∷ digest (codes "abc") ∷ []) ∷
    ((codes "100") ∷ (codes "q") ∷ (codes "s") ∷ (codes "receive") ∷ (codes "ok") ∷ (codes "m-0-0") ∷ (codes "r-0-0-1") ∷ (codes "o-0-0") ∷ []) ∷
    ((codes "1100") ∷ (codes "q") ∷ (codes "q") ∷ (codes "release") ∷ (codes "visible") ∷ (codes "m-0-0") ∷ [] ∷ [] ∷ []) ∷
    ((codes "1200") ∷ (codes "q") ∷ (codes "s") ∷ (codes "receive") ∷ (codes "ok") ∷ (codes "m-0-0") ∷ (codes "r-0-0-2") ∷ (codes "o-0-0") ∷ []) ∷
    ((codes "1300") ∷ (codes "q") ∷ (codes "s") ∷ (codes "delete") ∷ (codes "kept") ∷ (codes "m-0-0") ∷ (codes "r-0-0-1") ∷ [] ∷ []) ∷
    ((codes "1400") ∷ (codes "q") ∷ (codes "s") ∷ (codes "delete") ∷ (codes "deleted") ∷ (codes "m-0-0") ∷ (codes "r-0-0-2") ∷ (codes "1400") ∷ []) ∷
    ((codes "final") ∷ (codes "queue") ∷ (codes "message") ∷ (codes "origin") ∷ (codes "place") ∷ (codes "due") ∷ (codes "enqueued") ∷ (codes "receives") ∷ (codes "group") ∷ (codes "md5") ∷ []) ∷
    ((codes "transfer") ∷ (codes "from") ∷ (codes "to") ∷ (codes "kind") ∷ (codes "due") ∷ (codes "number") ∷ (codes "message") ∷ (codes "origin") ∷ (codes "md5") ∷ []) ∷
    ((codes "task") ∷ (codes "name") ∷ (codes "status") ∷ (codes "moved") ∷ []) ∷
    ((codes "report") ∷ (codes "queue") ∷ (codes "sends") ∷ (codes "repeats") ∷ (codes "receives") ∷ (codes "empties") ∷ (codes "deletes") ∷ (codes "expiries") ∷ (codes "redrives") ∷ (codes "moves") ∷ (codes "arrivals") ∷ (codes "OverLimit") ∷ (codes "MessageNotInflight") ∷ (codes "ReceiptHandleIsInvalid") ∷ (codes "BadTimeout") ∷ (codes "MissingGroup") ∷ (codes "MissingDeduplication") ∷ (codes "BadDelay") ∷ (codes "TaskRunning") ∷ (codes "NoTask") ∷ (codes "depth_max") ∷ (codes "visible") ∷ (codes "in_flight") ∷ (codes "delayed") ∷ (codes "age_sum") ∷ (codes "age_max") ∷ (codes "age_p50") ∷ (codes "age_p95") ∷ (codes "age_p99") ∷ []) ∷
    ((codes "report") ∷ (codes "q") ∷ (codes "1") ∷ (codes "0") ∷ (codes "2") ∷ (codes "0") ∷ (codes "1") ∷ (codes "0") ∷ (codes "0") ∷ (codes "0") ∷ (codes "0") ∷ (codes "0") ∷ (codes "0") ∷ (codes "0") ∷ (codes "0") ∷ (codes "0") ∷ (codes "0") ∷ (codes "0") ∷ (codes "0") ∷ (codes "0") ∷ (codes "1") ∷ (codes "0") ∷ (codes "0") ∷ (codes "0") ∷ (codes "1400") ∷ (codes "1400") ∷ (codes "1400") ∷ (codes "1400") ∷ (codes "1400") ∷ []) ∷ [])
unfolding reading_on_literals running_on_literals columns_of
case_0_older_receipt_keeps = refl

-- worked/one_group_in_flight.toml
case_0_one_group_in_flight : shown 35 [] (codes "version = 1\nhorizon = 500\n[[queue]]\nname = '''f.fifo'''\n[[actor]]\nname = '''s'''\nkind = '''script'''\nqueue = '''f.fifo'''\ncalls = '''at,call,body,group,id,delay,receipt,max,wait,timeout,task\n0,send,abc,g,0,,,,,,\n1,send,abc,g,1,,,,,,\n2,send,abc,g,2,,,,,,\n3,send,abc,g,3,,,,,,\n4,send,abc,g,4,,,,,,\n5,send,abc,g,5,,,,,,\n6,send,abc,g,6,,,,,,\n7,send,abc,g,7,,,,,,\n8,send,abc,g,8,,,,,,\n9,send,abc,g,9,,,,,,\n10,send,abc,g,10,,,,,,\n11,send,abc,g,11,,,,,,\n100,receive,,,,,,10,,,\n200,receive,,,,,,10,,,\n301,delete,,,,,r-0-0-1,,,,\n302,delete,,,,,r-0-1-1,,,,\n303,delete,,,,,r-0-2-1,,,,\n304,delete,,,,,r-0-3-1,,,,\n305,delete,,,,,r-0-4-1,,,,\n306,delete,,,,,r-0-5-1,,,,\n307,delete,,,,,r-0-6-1,,,,\n308,delete,,,,,r-0-7-1,,,,\n309,delete,,,,,r-0-8-1,,,,\n310,delete,,,,,r-0-9-1,,,,\n400,receive,,,,,,10,,,\n'''\n")
    ≡ ran (((codes "at") ∷ (codes "queue") ∷ (codes "agent") ∷ (codes "call") ∷ (codes "answer") ∷ (codes "message") ∷ (codes "receipt") ∷ (codes "detail") ∷ []) ∷
    ((codes "0") ∷ (codes "f.fifo") ∷ (codes "s") ∷ (codes "send") ∷ (codes "new") ∷ (codes "m-0-0") ∷ [] ∷ digest (codes "abc") ∷ []) ∷
    ((codes "1") ∷ (codes "f.fifo") ∷ (codes "s") ∷ (codes "send") ∷ (codes "new") ∷ (codes "m-0-1") ∷ [] ∷ digest (codes "abc") ∷ []) ∷
    ((codes "2") ∷ (codes "f.fifo") ∷ (codes "s") ∷ (codes "send") ∷ (codes "new") ∷ (codes "m-0-2") ∷ [] ∷ digest (codes "abc") ∷ []) ∷
    ((codes "3") ∷ (codes "f.fifo") ∷ (codes "s") ∷ (codes "send") ∷ (codes "new") ∷ (codes "m-0-3") ∷ [] ∷ digest (codes "abc") ∷ []) ∷
    ((codes "4") ∷ (codes "f.fifo") ∷ (codes "s") ∷ (codes "send") ∷ (codes "new") ∷ (codes "m-0-4") ∷ [] ∷ digest (codes "abc") ∷ []) ∷
    ((codes "5") ∷ (codes "f.fifo") ∷ (codes "s") ∷ (codes "send") ∷ (codes "new") ∷ (codes "m-0-5") ∷ [] ∷ digest (codes "abc") ∷ []) ∷
    ((codes "6") ∷ (codes "f.fifo") ∷ (codes "s") ∷ (codes "send") ∷ (codes "new") ∷ (codes "m-0-6") ∷ [] ∷ digest (codes "abc") ∷ []) ∷
    ((codes "7") ∷ (codes "f.fifo") ∷ (codes "s") ∷ (codes "send") ∷ (codes "new") ∷ (codes "m-0-7") ∷ [] ∷ digest (codes "abc") ∷ []) ∷
    ((codes "8") ∷ (codes "f.fifo") ∷ (codes "s") ∷ (codes "send") ∷ (codes "new") ∷ (codes "m-0-8") ∷ [] ∷ digest (codes "abc") ∷ []) ∷
    ((codes "9") ∷ (codes "f.fifo") ∷ (codes "s") ∷ (codes "send") ∷ (codes "new") ∷ (codes "m-0-9") ∷ [] ∷ digest (codes "abc") ∷ []) ∷
    ((codes "10") ∷ (codes "f.fifo") ∷ (codes "s") ∷ (codes "send") ∷ (codes "new") ∷ (codes "m-0-10") ∷ [] ∷ digest (codes "abc") ∷ []) ∷
    ((codes "11") ∷ (codes "f.fifo") ∷ (codes "s") ∷ (codes "send") ∷ (codes "new") ∷ (codes "m-0-11") ∷ [] ∷ digest (codes "abc") ∷ []) ∷
    ((codes "100") ∷ (codes "f.fifo") ∷ (codes "s") ∷ (codes "receive") ∷ (codes "ok") ∷ (codes "m-0-0") ∷ (codes "r-0-0-1") ∷ (codes "o-0-0") ∷ []) ∷
    ((codes "100") ∷ (codes "f.fifo") ∷ (codes "s") ∷ (codes "receive") ∷ (codes "ok") ∷ (codes "m-0-1") ∷ (codes "r-0-1-1") ∷ (codes "o-0-1") ∷ []) ∷
    ((codes "100") ∷ (codes "f.fifo") ∷ (codes "s") ∷ (codes "receive") ∷ (codes "ok") ∷ (codes "m-0-2") ∷ (codes "r-0-2-1") ∷ (codes "o-0-2") ∷ []) ∷
    ((codes "100") ∷ (codes "f.fifo") ∷ (codes "s") ∷ (codes "receive") ∷ (codes "ok") ∷ (codes "m-0-3") ∷ (codes "r-0-3-1") ∷ (codes "o-0-3") ∷ []) ∷
    ((codes "100") ∷ (codes "f.fifo") ∷ (codes "s") ∷ (codes "receive") ∷ (codes "ok") ∷ (codes "m-0-4") ∷ (codes "r-0-4-1") ∷ (codes "o-0-4") ∷ []) ∷
    ((codes "100") ∷ (codes "f.fifo") ∷ (codes "s") ∷ (codes "receive") ∷ (codes "ok") ∷ (codes "m-0-5") ∷ (codes "r-0-5-1") ∷ (codes "o-0-5") ∷ []) ∷
    ((codes "100") ∷ (codes "f.fifo") ∷ (codes "s") ∷ (codes "receive") ∷ (codes "ok") ∷ (codes "m-0-6") ∷ (codes "r-0-6-1") ∷ (codes "o-0-6") ∷ []) ∷
    ((codes "100") ∷ (codes "f.fifo") ∷ (codes "s") ∷ (codes "receive") ∷ (codes "ok") ∷ (codes "m-0-7") ∷ (codes "r-0-7-1") ∷ (codes "o-0-7") ∷ []) ∷
    ((codes "100") ∷ (codes "f.fifo") ∷ (codes "s") ∷ (codes "receive") ∷ (codes "ok") ∷ (codes "m-0-8") ∷ (codes "r-0-8-1") ∷ (codes "o-0-8") ∷ []) ∷
    ((codes "100") ∷ (codes "f.fifo") ∷ (codes "s") ∷ (codes "receive") ∷ (codes "ok") ∷ (codes "m-0-9") ∷ (codes "r-0-9-1") ∷ (codes "o-0-9") ∷ []) ∷
    ((codes "200") ∷ (codes "f.fifo") ∷ (codes "s") ∷ (codes "receive") ∷ (codes "empty") ∷ [] ∷ [] ∷ [] ∷ []) ∷
    ((codes "301") ∷ (codes "f.fifo") ∷ (codes "s") ∷ (codes "delete") ∷ (codes "deleted") ∷ (codes "m-0-0") ∷ (codes "r-0-0-1") ∷ (codes "301") ∷ []) ∷
    ((codes "302") ∷ (codes "f.fifo") ∷ (codes "s") ∷ (codes "delete") ∷ (codes "deleted") ∷ (codes "m-0-1") ∷ (codes "r-0-1-1") ∷ (codes "301") ∷ []) ∷
    ((codes "303") ∷ (codes "f.fifo") ∷ (codes "s") ∷ (codes "delete") ∷ (codes "deleted") ∷ (codes "m-0-2") ∷ (codes "r-0-2-1") ∷ (codes "301") ∷ []) ∷
    ((codes "304") ∷ (codes "f.fifo") ∷ (codes "s") ∷ (codes "delete") ∷ (codes "deleted") ∷ (codes "m-0-3") ∷ (codes "r-0-3-1") ∷ (codes "301") ∷ []) ∷
    ((codes "305") ∷ (codes "f.fifo") ∷ (codes "s") ∷ (codes "delete") ∷ (codes "deleted") ∷ (codes "m-0-4") ∷ (codes "r-0-4-1") ∷ (codes "301") ∷ []) ∷
    ((codes "306") ∷ (codes "f.fifo") ∷ (codes "s") ∷ (codes "delete") ∷ (codes "deleted") ∷ (codes "m-0-5") ∷ (codes "r-0-5-1") ∷ (codes "301") ∷ []) ∷
    ((codes "307") ∷ (codes "f.fifo") ∷ (codes "s") ∷ (codes "delete") ∷ (codes "deleted") ∷ (codes "m-0-6") ∷ (codes "r-0-6-1") ∷ (codes "301") ∷ []) ∷
    ((codes "308") ∷ (codes "f.fifo") ∷ (codes "s") ∷ (codes "delete") ∷ (codes "deleted") ∷ (codes "m-0-7") ∷ (codes "r-0-7-1") ∷ (codes "301") ∷ []) ∷
    ((codes "309") ∷ (codes "f.fifo") ∷ (codes "s") ∷ (codes "delete") ∷ (codes "deleted") ∷ (codes "m-0-8") ∷ (codes "r-0-8-1") ∷ (codes "301") ∷ []) ∷
    ((codes "310") ∷ (codes "f.fifo") ∷ (codes "s") ∷ (codes "delete") ∷ (codes "deleted") ∷ (codes "m-0-9") ∷ (codes "r-0-9-1") ∷ (codes "301") ∷ []) ∷
    ((codes "400") ∷ (codes "f.fifo") ∷ (codes "s") ∷ (codes "receive") ∷ (codes "ok") ∷ (codes "m-0-10") ∷ (codes "r-0-10-1") ∷ (codes "o-0-10") ∷ []) ∷
    ((codes "400") ∷ (codes "f.fifo") ∷ (codes "s") ∷ (codes "receive") ∷ (codes "ok") ∷ (codes "m-0-11") ∷ (codes "r-0-11-1") ∷ (codes "o-0-11") ∷ []) ∷
    ((codes "final") ∷ (codes "queue") ∷ (codes "message") ∷ (codes "origin") ∷ (codes "place") ∷ (codes "due") ∷ (codes "enqueued") ∷ (codes "receives") ∷ (codes "group") ∷ (codes "md5") ∷ []) ∷
    ((codes "final") ∷ (codes "f.fifo") ∷ (codes "m-0-10") ∷ (codes "o-0-10") ∷ (codes "inflight") ∷ (codes "30400") ∷ (codes "10") ∷ (codes "1") ∷ (codes "g") ∷ digest (codes "abc") ∷ []) ∷
    ((codes "final") ∷ (codes "f.fifo") ∷ (codes "m-0-11") ∷ (codes "o-0-11") ∷ (codes "inflight") ∷ (codes "30400") ∷ (codes "11") ∷ (codes "1") ∷ (codes "g") ∷ digest (codes "abc") ∷ []) ∷
    ((codes "transfer") ∷ (codes "from") ∷ (codes "to") ∷ (codes "kind") ∷ (codes "due") ∷ (codes "number") ∷ (codes "message") ∷ (codes "origin") ∷ (codes "md5") ∷ []) ∷
    ((codes "task") ∷ (codes "name") ∷ (codes "status") ∷ (codes "moved") ∷ []) ∷
    ((codes "report") ∷ (codes "queue") ∷ (codes "sends") ∷ (codes "repeats") ∷ (codes "receives") ∷ (codes "empties") ∷ (codes "deletes") ∷ (codes "expiries") ∷ (codes "redrives") ∷ (codes "moves") ∷ (codes "arrivals") ∷ (codes "OverLimit") ∷ (codes "MessageNotInflight") ∷ (codes "ReceiptHandleIsInvalid") ∷ (codes "BadTimeout") ∷ (codes "MissingGroup") ∷ (codes "MissingDeduplication") ∷ (codes "BadDelay") ∷ (codes "TaskRunning") ∷ (codes "NoTask") ∷ (codes "depth_max") ∷ (codes "visible") ∷ (codes "in_flight") ∷ (codes "delayed") ∷ (codes "age_sum") ∷ (codes "age_max") ∷ (codes "age_p50") ∷ (codes "age_p95") ∷ (codes "age_p99") ∷ []) ∷
    ((codes "report") ∷ (codes "f.fifo") ∷ (codes "12") ∷ (codes "0") ∷ (codes "12") ∷ (codes "1") ∷ (codes "10") ∷ (codes "0") ∷ (codes "0") ∷ (codes "0") ∷ (codes "0") ∷ (codes "0") ∷ (codes "0") ∷ (codes "0") ∷ (codes "0") ∷ (codes "0") ∷ (codes "0") ∷ (codes "0") ∷ (codes "0") ∷ (codes "0") ∷ (codes "12") ∷ (codes "0") ∷ (codes "2") ∷ (codes "0") ∷ (codes "3010") ∷ (codes "301") ∷ (codes "301") ∷ (codes "301") ∷ (codes "301") ∷ []) ∷ [])
unfolding reading_on_literals running_on_literals columns_of
case_0_one_group_in_flight = refl

-- worked/polls_wait_for_room.toml
case_0_polls_wait_for_room : shown 8 [] (codes "version = 1\nhorizon = 1000\n[[queue]]\nname = '''q'''\nin_flight = 1\n[[actor]]\nname = '''a'''\nkind = '''script'''\nqueue = '''q'''\ncalls = '''at,call,body,group,id,delay,receipt,max,wait,timeout,task\n100,receive,,,,,,,20,,\n'''\n[[actor]]\nname = '''b'''\nkind = '''script'''\nqueue = '''q'''\ncalls = '''at,call,body,group,id,delay,receipt,max,wait,timeout,task\n200,receive,,,,,,,20,,\n'''\n[[actor]]\nname = '''s'''\nkind = '''script'''\nqueue = '''q'''\ncalls = '''at,call,body,group,id,delay,receipt,max,wait,timeout,task\n300,send,abc,,,,,,,,\n400,send,abc,,,,,,,,\n500,receive,,,,,,,,,\n600,delete,,,,,r-0-0-1,,,,\n'''\n")
    ≡ ran (((codes "at") ∷ (codes "queue") ∷ (codes "agent") ∷ (codes "call") ∷ (codes "answer") ∷ (codes "message") ∷ (codes "receipt") ∷ (codes "detail") ∷ []) ∷
    ((codes "100") ∷ (codes "q") ∷ (codes "a") ∷ (codes "receive") ∷ (codes "wait") ∷ [] ∷ [] ∷ [] ∷ []) ∷
    ((codes "200") ∷ (codes "q") ∷ (codes "b") ∷ (codes "receive") ∷ (codes "wait") ∷ [] ∷ [] ∷ [] ∷ []) ∷
    ((codes "300") ∷ (codes "q") ∷ (codes "s") ∷ (codes "send") ∷ (codes "new") ∷ (codes "m-0-0") ∷ [] ∷ digest (codes "abc") ∷ []) ∷
    ((codes "300") ∷ (codes "q") ∷ (codes "a") ∷ (codes "receive") ∷ (codes "ok") ∷ (codes "m-0-0") ∷ (codes "r-0-0-1") ∷ (codes "o-0-0") ∷ []) ∷
    ((codes "400") ∷ (codes "q") ∷ (codes "s") ∷ (codes "send") ∷ (codes "new") ∷ (codes "m-0-1") ∷ [] ∷ digest (codes "abc") ∷ []) ∷
    ((codes "500") ∷ (codes "q") ∷ (codes "s") ∷ (codes "receive") ∷ (codes "OverLimit") ∷ [] ∷ [] ∷ [] ∷ []) ∷
    ((codes "600") ∷ (codes "q") ∷ (codes "s") ∷ (codes "delete") ∷ (codes "deleted") ∷ (codes "m-0-0") ∷ (codes "r-0-0-1") ∷ (codes "300") ∷ []) ∷
    ((codes "600") ∷ (codes "q") ∷ (codes "b") ∷ (codes "receive") ∷ (codes "ok") ∷ (codes "m-0-1") ∷ (codes "r-0-1-1") ∷ (codes "o-0-1") ∷ []) ∷
    ((codes "final") ∷ (codes "queue") ∷ (codes "message") ∷ (codes "origin") ∷ (codes "place") ∷ (codes "due") ∷ (codes "enqueued") ∷ (codes "receives") ∷ (codes "group") ∷ (codes "md5") ∷ []) ∷
    ((codes "final") ∷ (codes "q") ∷ (codes "m-0-1") ∷ (codes "o-0-1") ∷ (codes "inflight") ∷ (codes "30600") ∷ (codes "400") ∷ (codes "1") ∷ [] ∷ digest (codes "abc") ∷ []) ∷
    ((codes "transfer") ∷ (codes "from") ∷ (codes "to") ∷ (codes "kind") ∷ (codes "due") ∷ (codes "number") ∷ (codes "message") ∷ (codes "origin") ∷ (codes "md5") ∷ []) ∷
    ((codes "task") ∷ (codes "name") ∷ (codes "status") ∷ (codes "moved") ∷ []) ∷
    ((codes "report") ∷ (codes "queue") ∷ (codes "sends") ∷ (codes "repeats") ∷ (codes "receives") ∷ (codes "empties") ∷ (codes "deletes") ∷ (codes "expiries") ∷ (codes "redrives") ∷ (codes "moves") ∷ (codes "arrivals") ∷ (codes "OverLimit") ∷ (codes "MessageNotInflight") ∷ (codes "ReceiptHandleIsInvalid") ∷ (codes "BadTimeout") ∷ (codes "MissingGroup") ∷ (codes "MissingDeduplication") ∷ (codes "BadDelay") ∷ (codes "TaskRunning") ∷ (codes "NoTask") ∷ (codes "depth_max") ∷ (codes "visible") ∷ (codes "in_flight") ∷ (codes "delayed") ∷ (codes "age_sum") ∷ (codes "age_max") ∷ (codes "age_p50") ∷ (codes "age_p95") ∷ (codes "age_p99") ∷ []) ∷
    ((codes "report") ∷ (codes "q") ∷ (codes "2") ∷ (codes "0") ∷ (codes "2") ∷ (codes "0") ∷ (codes "1") ∷ (codes "0") ∷ (codes "0") ∷ (codes "0") ∷ (codes "0") ∷ (codes "1") ∷ (codes "0") ∷ (codes "0") ∷ (codes "0") ∷ (codes "0") ∷ (codes "0") ∷ (codes "0") ∷ (codes "0") ∷ (codes "0") ∷ (codes "2") ∷ (codes "0") ∷ (codes "1") ∷ (codes "0") ∷ (codes "300") ∷ (codes "300") ∷ (codes "300") ∷ (codes "300") ∷ (codes "300") ∷ []) ∷ [])
unfolding reading_on_literals running_on_literals columns_of
case_0_polls_wait_for_room = refl

-- worked/producer_of_two_groups.toml
case_0_producer_of_two_groups : shown 3 [] (codes "version = 1\nhorizon = 1000\n[[queue]]\nname = '''f.fifo'''\n[[actor]]\nname = '''p'''\nkind = '''producer'''\nqueue = '''f.fifo'''\ncount = 3\ngap_min_ms = 100\ngap_max_ms = 100\nbody = '''{n}'''\ngroups = 2\n")
    ≡ ran (((codes "at") ∷ (codes "queue") ∷ (codes "agent") ∷ (codes "call") ∷ (codes "answer") ∷ (codes "message") ∷ (codes "receipt") ∷ (codes "detail") ∷ []) ∷
    ((codes "0") ∷ (codes "f.fifo") ∷ (codes "p") ∷ (codes "send") ∷ (codes "new") ∷ (codes "m-0-0") ∷ [] ∷ digest (codes "0") ∷ []) ∷
    ((codes "100") ∷ (codes "f.fifo") ∷ (codes "p") ∷ (codes "send") ∷ (codes "new") ∷ (codes "m-0-1") ∷ [] ∷ digest (codes "1") ∷ []) ∷
    ((codes "200") ∷ (codes "f.fifo") ∷ (codes "p") ∷ (codes "send") ∷ (codes "new") ∷ (codes "m-0-2") ∷ [] ∷ digest (codes "2") ∷ []) ∷
    ((codes "final") ∷ (codes "queue") ∷ (codes "message") ∷ (codes "origin") ∷ (codes "place") ∷ (codes "due") ∷ (codes "enqueued") ∷ (codes "receives") ∷ (codes "group") ∷ (codes "md5") ∷ []) ∷
    ((codes "final") ∷ (codes "f.fifo") ∷ (codes "m-0-0") ∷ (codes "o-0-0") ∷ (codes "visible") ∷ [] ∷ (codes "0") ∷ (codes "0") ∷ (codes "g0") ∷ digest (codes "0") ∷ []) ∷
    ((codes "final") ∷ (codes "f.fifo") ∷ (codes "m-0-1") ∷ (codes "o-0-1") ∷ (codes "visible") ∷ [] ∷ (codes "100") ∷ (codes "0") ∷ (codes "g1") ∷ digest (codes "1") ∷ []) ∷
    ((codes "final") ∷ (codes "f.fifo") ∷ (codes "m-0-2") ∷ (codes "o-0-2") ∷ (codes "visible") ∷ [] ∷ (codes "200") ∷ (codes "0") ∷ (codes "g0") ∷ digest (codes "2") ∷ []) ∷
    ((codes "transfer") ∷ (codes "from") ∷ (codes "to") ∷ (codes "kind") ∷ (codes "due") ∷ (codes "number") ∷ (codes "message") ∷ (codes "origin") ∷ (codes "md5") ∷ []) ∷
    ((codes "task") ∷ (codes "name") ∷ (codes "status") ∷ (codes "moved") ∷ []) ∷
    ((codes "report") ∷ (codes "queue") ∷ (codes "sends") ∷ (codes "repeats") ∷ (codes "receives") ∷ (codes "empties") ∷ (codes "deletes") ∷ (codes "expiries") ∷ (codes "redrives") ∷ (codes "moves") ∷ (codes "arrivals") ∷ (codes "OverLimit") ∷ (codes "MessageNotInflight") ∷ (codes "ReceiptHandleIsInvalid") ∷ (codes "BadTimeout") ∷ (codes "MissingGroup") ∷ (codes "MissingDeduplication") ∷ (codes "BadDelay") ∷ (codes "TaskRunning") ∷ (codes "NoTask") ∷ (codes "depth_max") ∷ (codes "visible") ∷ (codes "in_flight") ∷ (codes "delayed") ∷ (codes "age_sum") ∷ (codes "age_max") ∷ (codes "age_p50") ∷ (codes "age_p95") ∷ (codes "age_p99") ∷ []) ∷
    ((codes "report") ∷ (codes "f.fifo") ∷ (codes "3") ∷ (codes "0") ∷ (codes "0") ∷ (codes "0") ∷ (codes "0") ∷ (codes "0") ∷ (codes "0") ∷ (codes "0") ∷ (codes "0") ∷ (codes "0") ∷ (codes "0") ∷ (codes "0") ∷ (codes "0") ∷ (codes "0") ∷ (codes "0") ∷ (codes "0") ∷ (codes "0") ∷ (codes "0") ∷ (codes "3") ∷ (codes "3") ∷ (codes "0") ∷ (codes "0") ∷ (codes "0") ∷ [] ∷ [] ∷ [] ∷ [] ∷ []) ∷ [])
unfolding reading_on_literals running_on_literals columns_of
case_0_producer_of_two_groups = refl

-- worked/redrive_after_two_receives.toml
case_0_redrive_after_two_receives : shown 6 [] (codes "version = 1\nhorizon = 5000\n[[queue]]\nname = '''q'''\nvisibility_s = 1\ndead_letter = '''d'''\nmax_receives = 2\nlatency_ms = 500\n[[queue]]\nname = '''d'''\n[[actor]]\nname = '''s'''\nkind = '''script'''\nqueue = '''q'''\ncalls = '''at,call,body,group,id,delay,receipt,max,wait,timeout,task\n0,send,abc,,,,,,,,\n100,receive,,,,,,,,,\n1100,receive,,,,,,,,,\n'''\n")
    ≡ ran (((codes "at") ∷ (codes "queue") ∷ (codes "agent") ∷ (codes "call") ∷ (codes "answer") ∷ (codes "message") ∷ (codes "receipt") ∷ (codes "detail") ∷ []) ∷
    ((codes "0") ∷ (codes "q") ∷ (codes "s") ∷ (codes "send") ∷ (codes "new") ∷ (codes "m-0-0") ∷ [] ∷ digest (codes "abc") ∷ []) ∷
    ((codes "100") ∷ (codes "q") ∷ (codes "s") ∷ (codes "receive") ∷ (codes "ok") ∷ (codes "m-0-0") ∷ (codes "r-0-0-1") ∷ (codes "o-0-0") ∷ []) ∷
    ((codes "1100") ∷ (codes "q") ∷ (codes "q") ∷ (codes "release") ∷ (codes "visible") ∷ (codes "m-0-0") ∷ [] ∷ [] ∷ []) ∷
    ((codes "1100") ∷ (codes "q") ∷ (codes "s") ∷ (codes "receive") ∷ (codes "ok") ∷ (codes "m-0-0") ∷ (codes "r-0-0-2") ∷ (codes "o-0-0") ∷ []) ∷
    ((codes "2100") ∷ (codes "q") ∷ (codes "q") ∷ (codes "redrive") ∷ (codes "out") ∷ (codes "m-0-0") ∷ [] ∷ (codes "d") ∷ []) ∷
    ((codes "2600") ∷ (codes "d") ∷ (codes "q") ∷ (codes "arrive") ∷ (codes "new") ∷ (codes "m-1-0") ∷ [] ∷ (codes "o-0-0") ∷ []) ∷
    ((codes "final") ∷ (codes "queue") ∷ (codes "message") ∷ (codes "origin") ∷ (codes "place") ∷ (codes "due") ∷ (codes "enqueued") ∷ (codes "receives") ∷ (codes "group") ∷ (codes "md5") ∷ []) ∷
    ((codes "final") ∷ (codes "d") ∷ (codes "m-1-0") ∷ (codes "o-0-0") ∷ (codes "visible") ∷ [] ∷ (codes "0") ∷ (codes "0") ∷ [] ∷ digest (codes "abc") ∷ []) ∷
    ((codes "transfer") ∷ (codes "from") ∷ (codes "to") ∷ (codes "kind") ∷ (codes "due") ∷ (codes "number") ∷ (codes "message") ∷ (codes "origin") ∷ (codes "md5") ∷ []) ∷
    ((codes "task") ∷ (codes "name") ∷ (codes "status") ∷ (codes "moved") ∷ []) ∷
    ((codes "report") ∷ (codes "queue") ∷ (codes "sends") ∷ (codes "repeats") ∷ (codes "receives") ∷ (codes "empties") ∷ (codes "deletes") ∷ (codes "expiries") ∷ (codes "redrives") ∷ (codes "moves") ∷ (codes "arrivals") ∷ (codes "OverLimit") ∷ (codes "MessageNotInflight") ∷ (codes "ReceiptHandleIsInvalid") ∷ (codes "BadTimeout") ∷ (codes "MissingGroup") ∷ (codes "MissingDeduplication") ∷ (codes "BadDelay") ∷ (codes "TaskRunning") ∷ (codes "NoTask") ∷ (codes "depth_max") ∷ (codes "visible") ∷ (codes "in_flight") ∷ (codes "delayed") ∷ (codes "age_sum") ∷ (codes "age_max") ∷ (codes "age_p50") ∷ (codes "age_p95") ∷ (codes "age_p99") ∷ []) ∷
    ((codes "report") ∷ (codes "q") ∷ (codes "1") ∷ (codes "0") ∷ (codes "2") ∷ (codes "0") ∷ (codes "0") ∷ (codes "0") ∷ (codes "1") ∷ (codes "0") ∷ (codes "0") ∷ (codes "0") ∷ (codes "0") ∷ (codes "0") ∷ (codes "0") ∷ (codes "0") ∷ (codes "0") ∷ (codes "0") ∷ (codes "0") ∷ (codes "0") ∷ (codes "1") ∷ (codes "0") ∷ (codes "0") ∷ (codes "0") ∷ (codes "0") ∷ [] ∷ [] ∷ [] ∷ [] ∷ []) ∷
    ((codes "report") ∷ (codes "d") ∷ (codes "0") ∷ (codes "0") ∷ (codes "0") ∷ (codes "0") ∷ (codes "0") ∷ (codes "0") ∷ (codes "0") ∷ (codes "0") ∷ (codes "1") ∷ (codes "0") ∷ (codes "0") ∷ (codes "0") ∷ (codes "0") ∷ (codes "0") ∷ (codes "0") ∷ (codes "0") ∷ (codes "0") ∷ (codes "0") ∷ (codes "1") ∷ (codes "1") ∷ (codes "0") ∷ (codes "0") ∷ (codes "0") ∷ [] ∷ [] ∷ [] ∷ [] ∷ []) ∷ [])
unfolding reading_on_literals running_on_literals columns_of
case_0_redrive_after_two_receives = refl

-- worked/redrive_at_once.toml
case_0_redrive_at_once : shown 4 [] (codes "version = 1\nhorizon = 5000\n[[queue]]\nname = '''q'''\nvisibility_s = 1\ndead_letter = '''d'''\nmax_receives = 1\nlatency_ms = 500\n[[queue]]\nname = '''d'''\n[[actor]]\nname = '''s'''\nkind = '''script'''\nqueue = '''q'''\ncalls = '''at,call,body,group,id,delay,receipt,max,wait,timeout,task\n0,send,abc,,,,,,,,\n100,receive,,,,,,,,0,\n'''\n")
    ≡ ran (((codes "at") ∷ (codes "queue") ∷ (codes "agent") ∷ (codes "call") ∷ (codes "answer") ∷ (codes "message") ∷ (codes "receipt") ∷ (codes "detail") ∷ []) ∷
    ((codes "0") ∷ (codes "q") ∷ (codes "s") ∷ (codes "send") ∷ (codes "new") ∷ (codes "m-0-0") ∷ [] ∷ digest (codes "abc") ∷ []) ∷
    ((codes "100") ∷ (codes "q") ∷ (codes "s") ∷ (codes "receive") ∷ (codes "ok") ∷ (codes "m-0-0") ∷ (codes "r-0-0-1") ∷ (codes "o-0-0") ∷ []) ∷
    ((codes "100") ∷ (codes "q") ∷ (codes "q") ∷ (codes "redrive") ∷ (codes "out") ∷ (codes "m-0-0") ∷ [] ∷ (codes "d") ∷ []) ∷
    ((codes "600") ∷ (codes "d") ∷ (codes "q") ∷ (codes "arrive") ∷ (codes "new") ∷ (codes "m-1-0") ∷ [] ∷ (codes "o-0-0") ∷ []) ∷
    ((codes "final") ∷ (codes "queue") ∷ (codes "message") ∷ (codes "origin") ∷ (codes "place") ∷ (codes "due") ∷ (codes "enqueued") ∷ (codes "receives") ∷ (codes "group") ∷ (codes "md5") ∷ []) ∷
    ((codes "final") ∷ (codes "d") ∷ (codes "m-1-0") ∷ (codes "o-0-0") ∷ (codes "visible") ∷ [] ∷ (codes "0") ∷ (codes "0") ∷ [] ∷ digest (codes "abc") ∷ []) ∷
    ((codes "transfer") ∷ (codes "from") ∷ (codes "to") ∷ (codes "kind") ∷ (codes "due") ∷ (codes "number") ∷ (codes "message") ∷ (codes "origin") ∷ (codes "md5") ∷ []) ∷
    ((codes "task") ∷ (codes "name") ∷ (codes "status") ∷ (codes "moved") ∷ []) ∷
    ((codes "report") ∷ (codes "queue") ∷ (codes "sends") ∷ (codes "repeats") ∷ (codes "receives") ∷ (codes "empties") ∷ (codes "deletes") ∷ (codes "expiries") ∷ (codes "redrives") ∷ (codes "moves") ∷ (codes "arrivals") ∷ (codes "OverLimit") ∷ (codes "MessageNotInflight") ∷ (codes "ReceiptHandleIsInvalid") ∷ (codes "BadTimeout") ∷ (codes "MissingGroup") ∷ (codes "MissingDeduplication") ∷ (codes "BadDelay") ∷ (codes "TaskRunning") ∷ (codes "NoTask") ∷ (codes "depth_max") ∷ (codes "visible") ∷ (codes "in_flight") ∷ (codes "delayed") ∷ (codes "age_sum") ∷ (codes "age_max") ∷ (codes "age_p50") ∷ (codes "age_p95") ∷ (codes "age_p99") ∷ []) ∷
    ((codes "report") ∷ (codes "q") ∷ (codes "1") ∷ (codes "0") ∷ (codes "1") ∷ (codes "0") ∷ (codes "0") ∷ (codes "0") ∷ (codes "1") ∷ (codes "0") ∷ (codes "0") ∷ (codes "0") ∷ (codes "0") ∷ (codes "0") ∷ (codes "0") ∷ (codes "0") ∷ (codes "0") ∷ (codes "0") ∷ (codes "0") ∷ (codes "0") ∷ (codes "1") ∷ (codes "0") ∷ (codes "0") ∷ (codes "0") ∷ (codes "0") ∷ [] ∷ [] ∷ [] ∷ [] ∷ []) ∷
    ((codes "report") ∷ (codes "d") ∷ (codes "0") ∷ (codes "0") ∷ (codes "0") ∷ (codes "0") ∷ (codes "0") ∷ (codes "0") ∷ (codes "0") ∷ (codes "0") ∷ (codes "1") ∷ (codes "0") ∷ (codes "0") ∷ (codes "0") ∷ (codes "0") ∷ (codes "0") ∷ (codes "0") ∷ (codes "0") ∷ (codes "0") ∷ (codes "0") ∷ (codes "1") ∷ (codes "1") ∷ (codes "0") ∷ (codes "0") ∷ (codes "0") ∷ [] ∷ [] ∷ [] ∷ [] ∷ []) ∷ [])
unfolding reading_on_literals running_on_literals columns_of
case_0_redrive_at_once = refl

-- worked/redrive_under_way_at_the_end.toml
case_0_redrive_under_way_at_the_end : shown 5 [] (codes "version = 1\nhorizon = 2500\n[[queue]]\nname = '''q'''\nvisibility_s = 1\ndead_letter = '''d'''\nmax_receives = 2\nlatency_ms = 500\n[[queue]]\nname = '''d'''\n[[actor]]\nname = '''s'''\nkind = '''script'''\nqueue = '''q'''\ncalls = '''at,call,body,group,id,delay,receipt,max,wait,timeout,task\n0,send,abc,,,,,,,,\n100,receive,,,,,,,,,\n1100,receive,,,,,,,,,\n'''\n")
    ≡ ran (((codes "at") ∷ (codes "queue") ∷ (codes "agent") ∷ (codes "call") ∷ (codes "answer") ∷ (codes "message") ∷ (codes "receipt") ∷ (codes "detail") ∷ []) ∷
    ((codes "0") ∷ (codes "q") ∷ (codes "s") ∷ (codes "send") ∷ (codes "new") ∷ (codes "m-0-0") ∷ [] ∷ digest (codes "abc") ∷ []) ∷
    ((codes "100") ∷ (codes "q") ∷ (codes "s") ∷ (codes "receive") ∷ (codes "ok") ∷ (codes "m-0-0") ∷ (codes "r-0-0-1") ∷ (codes "o-0-0") ∷ []) ∷
    ((codes "1100") ∷ (codes "q") ∷ (codes "q") ∷ (codes "release") ∷ (codes "visible") ∷ (codes "m-0-0") ∷ [] ∷ [] ∷ []) ∷
    ((codes "1100") ∷ (codes "q") ∷ (codes "s") ∷ (codes "receive") ∷ (codes "ok") ∷ (codes "m-0-0") ∷ (codes "r-0-0-2") ∷ (codes "o-0-0") ∷ []) ∷
    ((codes "2100") ∷ (codes "q") ∷ (codes "q") ∷ (codes "redrive") ∷ (codes "out") ∷ (codes "m-0-0") ∷ [] ∷ (codes "d") ∷ []) ∷
    ((codes "final") ∷ (codes "queue") ∷ (codes "message") ∷ (codes "origin") ∷ (codes "place") ∷ (codes "due") ∷ (codes "enqueued") ∷ (codes "receives") ∷ (codes "group") ∷ (codes "md5") ∷ []) ∷
    ((codes "transfer") ∷ (codes "from") ∷ (codes "to") ∷ (codes "kind") ∷ (codes "due") ∷ (codes "number") ∷ (codes "message") ∷ (codes "origin") ∷ (codes "md5") ∷ []) ∷
    ((codes "transfer") ∷ (codes "q") ∷ (codes "d") ∷ (codes "redrive") ∷ (codes "2600") ∷ (codes "0") ∷ (codes "m-0-0") ∷ (codes "o-0-0") ∷ digest (codes "abc") ∷ []) ∷
    ((codes "task") ∷ (codes "name") ∷ (codes "status") ∷ (codes "moved") ∷ []) ∷
    ((codes "report") ∷ (codes "queue") ∷ (codes "sends") ∷ (codes "repeats") ∷ (codes "receives") ∷ (codes "empties") ∷ (codes "deletes") ∷ (codes "expiries") ∷ (codes "redrives") ∷ (codes "moves") ∷ (codes "arrivals") ∷ (codes "OverLimit") ∷ (codes "MessageNotInflight") ∷ (codes "ReceiptHandleIsInvalid") ∷ (codes "BadTimeout") ∷ (codes "MissingGroup") ∷ (codes "MissingDeduplication") ∷ (codes "BadDelay") ∷ (codes "TaskRunning") ∷ (codes "NoTask") ∷ (codes "depth_max") ∷ (codes "visible") ∷ (codes "in_flight") ∷ (codes "delayed") ∷ (codes "age_sum") ∷ (codes "age_max") ∷ (codes "age_p50") ∷ (codes "age_p95") ∷ (codes "age_p99") ∷ []) ∷
    ((codes "report") ∷ (codes "q") ∷ (codes "1") ∷ (codes "0") ∷ (codes "2") ∷ (codes "0") ∷ (codes "0") ∷ (codes "0") ∷ (codes "1") ∷ (codes "0") ∷ (codes "0") ∷ (codes "0") ∷ (codes "0") ∷ (codes "0") ∷ (codes "0") ∷ (codes "0") ∷ (codes "0") ∷ (codes "0") ∷ (codes "0") ∷ (codes "0") ∷ (codes "1") ∷ (codes "0") ∷ (codes "0") ∷ (codes "0") ∷ (codes "0") ∷ [] ∷ [] ∷ [] ∷ [] ∷ []) ∷
    ((codes "report") ∷ (codes "d") ∷ (codes "0") ∷ (codes "0") ∷ (codes "0") ∷ (codes "0") ∷ (codes "0") ∷ (codes "0") ∷ (codes "0") ∷ (codes "0") ∷ (codes "0") ∷ (codes "0") ∷ (codes "0") ∷ (codes "0") ∷ (codes "0") ∷ (codes "0") ∷ (codes "0") ∷ (codes "0") ∷ (codes "0") ∷ (codes "0") ∷ (codes "0") ∷ (codes "0") ∷ (codes "0") ∷ (codes "0") ∷ (codes "0") ∷ [] ∷ [] ∷ [] ∷ [] ∷ []) ∷ [])
unfolding reading_on_literals running_on_literals columns_of
case_0_redrive_under_way_at_the_end = refl

-- worked/repeat_then_one_in_flight.toml
case_0_repeat_then_one_in_flight : shown 7 [] (codes "version = 1\nhorizon = 1000\n[[queue]]\nname = \"q.fifo\"\n[[actor]]\nname = \"s\"\nkind = \"script\"\nqueue = \"q.fifo\"\ncalls = \"\"\"\nat,call,body,group,id,delay,receipt,max,wait,timeout,task\n0,send,abc,g,x,,,,,,\n100,send,abc,g,x,,,,,,\n200,receive,,,,,,,,,\n300,send,abc,g,y,,,,,,\n400,receive,,,,,,,,,\n500,delete,,,,,r-0-0-1,,,,\n600,receive,,,,,,,,,\n\"\"\"\n")
    ≡ ran (((codes "at") ∷ (codes "queue") ∷ (codes "agent") ∷ (codes "call") ∷ (codes "answer") ∷ (codes "message") ∷ (codes "receipt") ∷ (codes "detail") ∷ []) ∷
    ((codes "0") ∷ (codes "q.fifo") ∷ (codes "s") ∷ (codes "send") ∷ (codes "new") ∷ (codes "m-0-0") ∷ [] ∷ digest (codes "abc") ∷ []) ∷
    ((codes "100") ∷ (codes "q.fifo") ∷ (codes "s") ∷ (codes "send") ∷ (codes "repeat") ∷ (codes "m-0-0") ∷ [] ∷ digest (codes "abc") ∷ []) ∷
    ((codes "200") ∷ (codes "q.fifo") ∷ (codes "s") ∷ (codes "receive") ∷ (codes "ok") ∷ (codes "m-0-0") ∷ (codes "r-0-0-1") ∷ (codes "o-0-0") ∷ []) ∷
    ((codes "300") ∷ (codes "q.fifo") ∷ (codes "s") ∷ (codes "send") ∷ (codes "new") ∷ (codes "m-0-1") ∷ [] ∷ digest (codes "abc") ∷ []) ∷
    ((codes "400") ∷ (codes "q.fifo") ∷ (codes "s") ∷ (codes "receive") ∷ (codes "empty") ∷ [] ∷ [] ∷ [] ∷ []) ∷
    ((codes "500") ∷ (codes "q.fifo") ∷ (codes "s") ∷ (codes "delete") ∷ (codes "deleted") ∷ (codes "m-0-0") ∷ (codes "r-0-0-1") ∷ (codes "500") ∷ []) ∷
    ((codes "600") ∷ (codes "q.fifo") ∷ (codes "s") ∷ (codes "receive") ∷ (codes "ok") ∷ (codes "m-0-1") ∷ (codes "r-0-1-1") ∷ (codes "o-0-1") ∷ []) ∷
    ((codes "final") ∷ (codes "queue") ∷ (codes "message") ∷ (codes "origin") ∷ (codes "place") ∷ (codes "due") ∷ (codes "enqueued") ∷ (codes "receives") ∷ (codes "group") ∷ (codes "md5") ∷ []) ∷
    ((codes "final") ∷ (codes "q.fifo") ∷ (codes "m-0-1") ∷ (codes "o-0-1") ∷ (codes "inflight") ∷ (codes "30600") ∷ (codes "300") ∷ (codes "1") ∷ (codes "g") ∷ digest (codes "abc") ∷ []) ∷
    ((codes "transfer") ∷ (codes "from") ∷ (codes "to") ∷ (codes "kind") ∷ (codes "due") ∷ (codes "number") ∷ (codes "message") ∷ (codes "origin") ∷ (codes "md5") ∷ []) ∷
    ((codes "task") ∷ (codes "name") ∷ (codes "status") ∷ (codes "moved") ∷ []) ∷
    ((codes "report") ∷ (codes "queue") ∷ (codes "sends") ∷ (codes "repeats") ∷ (codes "receives") ∷ (codes "empties") ∷ (codes "deletes") ∷ (codes "expiries") ∷ (codes "redrives") ∷ (codes "moves") ∷ (codes "arrivals") ∷ (codes "OverLimit") ∷ (codes "MessageNotInflight") ∷ (codes "ReceiptHandleIsInvalid") ∷ (codes "BadTimeout") ∷ (codes "MissingGroup") ∷ (codes "MissingDeduplication") ∷ (codes "BadDelay") ∷ (codes "TaskRunning") ∷ (codes "NoTask") ∷ (codes "depth_max") ∷ (codes "visible") ∷ (codes "in_flight") ∷ (codes "delayed") ∷ (codes "age_sum") ∷ (codes "age_max") ∷ (codes "age_p50") ∷ (codes "age_p95") ∷ (codes "age_p99") ∷ []) ∷
    ((codes "report") ∷ (codes "q.fifo") ∷ (codes "2") ∷ (codes "1") ∷ (codes "2") ∷ (codes "1") ∷ (codes "1") ∷ (codes "0") ∷ (codes "0") ∷ (codes "0") ∷ (codes "0") ∷ (codes "0") ∷ (codes "0") ∷ (codes "0") ∷ (codes "0") ∷ (codes "0") ∷ (codes "0") ∷ (codes "0") ∷ (codes "0") ∷ (codes "0") ∷ (codes "2") ∷ (codes "0") ∷ (codes "1") ∷ (codes "0") ∷ (codes "500") ∷ (codes "500") ∷ (codes "500") ∷ (codes "500") ∷ (codes "500") ∷ []) ∷ [])
unfolding reading_on_literals running_on_literals columns_of
case_0_repeat_then_one_in_flight = refl

-- worked/sampled_hosts.toml
case_0_sampled_hosts : shown 7 [] (codes "version = 1\nhorizon = 1000\n[[queue]]\nname = '''q'''\nhosts = 4\nsampled = 1\n[[actor]]\nname = '''s'''\nkind = '''script'''\nqueue = '''q'''\ncalls = '''at,call,body,group,id,delay,receipt,max,wait,timeout,task\n0,send,abc,,,,,,,,\n1,send,abc,,,,,,,,\n2,send,abc,,,,,,,,\n100,receive,,,,,,10,,,\n200,receive,,,,,,10,,,\n300,receive,,,,,,10,1,,\n'''\n")
    ≡ ran (((codes "at") ∷ (codes "queue") ∷ (codes "agent") ∷ (codes "call") ∷ (codes "answer") ∷ (codes "message") ∷ (codes "receipt") ∷ (codes "detail") ∷ []) ∷
    ((codes "0") ∷ (codes "q") ∷ (codes "s") ∷ (codes "send") ∷ (codes "new") ∷ (codes "m-0-0") ∷ [] ∷ digest (codes "abc") ∷ []) ∷
    ((codes "1") ∷ (codes "q") ∷ (codes "s") ∷ (codes "send") ∷ (codes "new") ∷ (codes "m-0-1") ∷ [] ∷ digest (codes "abc") ∷ []) ∷
    ((codes "2") ∷ (codes "q") ∷ (codes "s") ∷ (codes "send") ∷ (codes "new") ∷ (codes "m-0-2") ∷ [] ∷ digest (codes "abc") ∷ []) ∷
    ((codes "100") ∷ (codes "q") ∷ (codes "s") ∷ (codes "receive") ∷ (codes "ok") ∷ (codes "m-0-2") ∷ (codes "r-0-2-1") ∷ (codes "o-0-2") ∷ []) ∷
    ((codes "200") ∷ (codes "q") ∷ (codes "s") ∷ (codes "receive") ∷ (codes "empty") ∷ [] ∷ [] ∷ [] ∷ []) ∷
    ((codes "300") ∷ (codes "q") ∷ (codes "s") ∷ (codes "receive") ∷ (codes "ok") ∷ (codes "m-0-0") ∷ (codes "r-0-0-1") ∷ (codes "o-0-0") ∷ []) ∷
    ((codes "300") ∷ (codes "q") ∷ (codes "s") ∷ (codes "receive") ∷ (codes "ok") ∷ (codes "m-0-1") ∷ (codes "r-0-1-1") ∷ (codes "o-0-1") ∷ []) ∷
    ((codes "final") ∷ (codes "queue") ∷ (codes "message") ∷ (codes "origin") ∷ (codes "place") ∷ (codes "due") ∷ (codes "enqueued") ∷ (codes "receives") ∷ (codes "group") ∷ (codes "md5") ∷ []) ∷
    ((codes "final") ∷ (codes "q") ∷ (codes "m-0-0") ∷ (codes "o-0-0") ∷ (codes "inflight") ∷ (codes "30300") ∷ (codes "0") ∷ (codes "1") ∷ [] ∷ digest (codes "abc") ∷ []) ∷
    ((codes "final") ∷ (codes "q") ∷ (codes "m-0-1") ∷ (codes "o-0-1") ∷ (codes "inflight") ∷ (codes "30300") ∷ (codes "1") ∷ (codes "1") ∷ [] ∷ digest (codes "abc") ∷ []) ∷
    ((codes "final") ∷ (codes "q") ∷ (codes "m-0-2") ∷ (codes "o-0-2") ∷ (codes "inflight") ∷ (codes "30100") ∷ (codes "2") ∷ (codes "1") ∷ [] ∷ digest (codes "abc") ∷ []) ∷
    ((codes "transfer") ∷ (codes "from") ∷ (codes "to") ∷ (codes "kind") ∷ (codes "due") ∷ (codes "number") ∷ (codes "message") ∷ (codes "origin") ∷ (codes "md5") ∷ []) ∷
    ((codes "task") ∷ (codes "name") ∷ (codes "status") ∷ (codes "moved") ∷ []) ∷
    ((codes "report") ∷ (codes "queue") ∷ (codes "sends") ∷ (codes "repeats") ∷ (codes "receives") ∷ (codes "empties") ∷ (codes "deletes") ∷ (codes "expiries") ∷ (codes "redrives") ∷ (codes "moves") ∷ (codes "arrivals") ∷ (codes "OverLimit") ∷ (codes "MessageNotInflight") ∷ (codes "ReceiptHandleIsInvalid") ∷ (codes "BadTimeout") ∷ (codes "MissingGroup") ∷ (codes "MissingDeduplication") ∷ (codes "BadDelay") ∷ (codes "TaskRunning") ∷ (codes "NoTask") ∷ (codes "depth_max") ∷ (codes "visible") ∷ (codes "in_flight") ∷ (codes "delayed") ∷ (codes "age_sum") ∷ (codes "age_max") ∷ (codes "age_p50") ∷ (codes "age_p95") ∷ (codes "age_p99") ∷ []) ∷
    ((codes "report") ∷ (codes "q") ∷ (codes "3") ∷ (codes "0") ∷ (codes "3") ∷ (codes "1") ∷ (codes "0") ∷ (codes "0") ∷ (codes "0") ∷ (codes "0") ∷ (codes "0") ∷ (codes "0") ∷ (codes "0") ∷ (codes "0") ∷ (codes "0") ∷ (codes "0") ∷ (codes "0") ∷ (codes "0") ∷ (codes "0") ∷ (codes "0") ∷ (codes "3") ∷ (codes "0") ∷ (codes "3") ∷ (codes "0") ∷ (codes "0") ∷ [] ∷ [] ∷ [] ∷ [] ∷ []) ∷ [])
unfolding reading_on_literals running_on_literals columns_of
case_0_sampled_hosts = refl

-- worked/samples.toml
case_0_samples : shown 4 [] (codes "version = 1\nhorizon = 1000\nsample = 500\n[[queue]]\nname = '''q'''\n[[actor]]\nname = '''s'''\nkind = '''script'''\nqueue = '''q'''\ncalls = '''at,call,body,group,id,delay,receipt,max,wait,timeout,task\n0,send,abc,,,1,,,,,\n'''\n")
    ≡ ran (((codes "at") ∷ (codes "queue") ∷ (codes "agent") ∷ (codes "call") ∷ (codes "answer") ∷ (codes "message") ∷ (codes "receipt") ∷ (codes "detail") ∷ []) ∷
    ((codes "0") ∷ (codes "q") ∷ (codes "s") ∷ (codes "send") ∷ (codes "new") ∷ (codes "m-0-0") ∷ [] ∷ digest (codes "abc") ∷ []) ∷
    ((codes "500") ∷ (codes "q") ∷ (codes "q") ∷ (codes "sample") ∷ (codes "ok") ∷ [] ∷ [] ∷ (codes "0/0/1") ∷ []) ∷
    ((codes "1000") ∷ (codes "q") ∷ (codes "q") ∷ (codes "release") ∷ (codes "visible") ∷ (codes "m-0-0") ∷ [] ∷ [] ∷ []) ∷
    ((codes "1000") ∷ (codes "q") ∷ (codes "q") ∷ (codes "sample") ∷ (codes "ok") ∷ [] ∷ [] ∷ (codes "1/0/0") ∷ []) ∷
    ((codes "final") ∷ (codes "queue") ∷ (codes "message") ∷ (codes "origin") ∷ (codes "place") ∷ (codes "due") ∷ (codes "enqueued") ∷ (codes "receives") ∷ (codes "group") ∷ (codes "md5") ∷ []) ∷
    ((codes "final") ∷ (codes "q") ∷ (codes "m-0-0") ∷ (codes "o-0-0") ∷ (codes "visible") ∷ [] ∷ (codes "0") ∷ (codes "0") ∷ [] ∷ digest (codes "abc") ∷ []) ∷
    ((codes "transfer") ∷ (codes "from") ∷ (codes "to") ∷ (codes "kind") ∷ (codes "due") ∷ (codes "number") ∷ (codes "message") ∷ (codes "origin") ∷ (codes "md5") ∷ []) ∷
    ((codes "task") ∷ (codes "name") ∷ (codes "status") ∷ (codes "moved") ∷ []) ∷
    ((codes "report") ∷ (codes "queue") ∷ (codes "sends") ∷ (codes "repeats") ∷ (codes "receives") ∷ (codes "empties") ∷ (codes "deletes") ∷ (codes "expiries") ∷ (codes "redrives") ∷ (codes "moves") ∷ (codes "arrivals") ∷ (codes "OverLimit") ∷ (codes "MessageNotInflight") ∷ (codes "ReceiptHandleIsInvalid") ∷ (codes "BadTimeout") ∷ (codes "MissingGroup") ∷ (codes "MissingDeduplication") ∷ (codes "BadDelay") ∷ (codes "TaskRunning") ∷ (codes "NoTask") ∷ (codes "depth_max") ∷ (codes "visible") ∷ (codes "in_flight") ∷ (codes "delayed") ∷ (codes "age_sum") ∷ (codes "age_max") ∷ (codes "age_p50") ∷ (codes "age_p95") ∷ (codes "age_p99") ∷ []) ∷
    ((codes "report") ∷ (codes "q") ∷ (codes "1") ∷ (codes "0") ∷ (codes "0") ∷ (codes "0") ∷ (codes "0") ∷ (codes "0") ∷ (codes "0") ∷ (codes "0") ∷ (codes "0") ∷ (codes "0") ∷ (codes "0") ∷ (codes "0") ∷ (codes "0") ∷ (codes "0") ∷ (codes "0") ∷ (codes "0") ∷ (codes "0") ∷ (codes "0") ∷ (codes "1") ∷ (codes "1") ∷ (codes "0") ∷ (codes "0") ∷ (codes "0") ∷ [] ∷ [] ∷ [] ∷ [] ∷ []) ∷ [])
unfolding reading_on_literals running_on_literals columns_of
case_0_samples = refl

-- worked/script_without_calls.toml
case_0_script_without_calls : shown 0 [] (codes "version = 1\nhorizon = 90\n[[queue]]\nname = 'q'\n[[actor]]\nname = 'a'\nkind = 'script'\nqueue = 'q'\ncalls = '''\nat,call,body,group,id,delay,receipt,max,wait,timeout,task\n'''\n")
    ≡ ran (((codes "at") ∷ (codes "queue") ∷ (codes "agent") ∷ (codes "call") ∷ (codes "answer") ∷ (codes "message") ∷ (codes "receipt") ∷ (codes "detail") ∷ []) ∷
    ((codes "final") ∷ (codes "queue") ∷ (codes "message") ∷ (codes "origin") ∷ (codes "place") ∷ (codes "due") ∷ (codes "enqueued") ∷ (codes "receives") ∷ (codes "group") ∷ (codes "md5") ∷ []) ∷
    ((codes "transfer") ∷ (codes "from") ∷ (codes "to") ∷ (codes "kind") ∷ (codes "due") ∷ (codes "number") ∷ (codes "message") ∷ (codes "origin") ∷ (codes "md5") ∷ []) ∷
    ((codes "task") ∷ (codes "name") ∷ (codes "status") ∷ (codes "moved") ∷ []) ∷
    ((codes "report") ∷ (codes "queue") ∷ (codes "sends") ∷ (codes "repeats") ∷ (codes "receives") ∷ (codes "empties") ∷ (codes "deletes") ∷ (codes "expiries") ∷ (codes "redrives") ∷ (codes "moves") ∷ (codes "arrivals") ∷ (codes "OverLimit") ∷ (codes "MessageNotInflight") ∷ (codes "ReceiptHandleIsInvalid") ∷ (codes "BadTimeout") ∷ (codes "MissingGroup") ∷ (codes "MissingDeduplication") ∷ (codes "BadDelay") ∷ (codes "TaskRunning") ∷ (codes "NoTask") ∷ (codes "depth_max") ∷ (codes "visible") ∷ (codes "in_flight") ∷ (codes "delayed") ∷ (codes "age_sum") ∷ (codes "age_max") ∷ (codes "age_p50") ∷ (codes "age_p95") ∷ (codes "age_p99") ∷ []) ∷
    ((codes "report") ∷ (codes "q") ∷ (codes "0") ∷ (codes "0") ∷ (codes "0") ∷ (codes "0") ∷ (codes "0") ∷ (codes "0") ∷ (codes "0") ∷ (codes "0") ∷ (codes "0") ∷ (codes "0") ∷ (codes "0") ∷ (codes "0") ∷ (codes "0") ∷ (codes "0") ∷ (codes "0") ∷ (codes "0") ∷ (codes "0") ∷ (codes "0") ∷ (codes "0") ∷ (codes "0") ∷ (codes "0") ∷ (codes "0") ∷ (codes "0") ∷ [] ∷ [] ∷ [] ∷ [] ∷ []) ∷ [])
unfolding reading_on_literals running_on_literals columns_of
case_0_script_without_calls = refl

-- worked/second_of_two_tasks.toml
case_0_second_of_two_tasks : shown 5 [] (codes "version = 1\nhorizon = 1200\n[[queue]]\nname = 'q'\ndead_letter = 'd'\nmax_receives = 1\nlatency_ms = 5\n[[queue]]\nname = 'd'\n[[actor]]\nname = 'a'\nkind = 'script'\nqueue = 'd'\ncalls = '''\nat,call,body,group,id,delay,receipt,max,wait,timeout,task\n5,send,hi,,,,,,,,\n6,start,,,,,,,,,mover\n'''\n[[task]]\nname = 'other'\nqueue = 'd'\nlatency_ms = 1\n[[task]]\nname = 'mover'\nqueue = 'd'\nto = 'q'\nlatency_ms = 100\n")
    ≡ ran (((codes "at") ∷ (codes "queue") ∷ (codes "agent") ∷ (codes "call") ∷ (codes "answer") ∷ (codes "message") ∷ (codes "receipt") ∷ (codes "detail") ∷ []) ∷
    ((codes "5") ∷ (codes "d") ∷ (codes "a") ∷ (codes "send") ∷ (codes "new") ∷ (codes "m-1-0") ∷ [] ∷ digest (codes "hi") ∷ []) ∷
    ((codes "6") ∷ (codes "d") ∷ (codes "a") ∷ (codes "start") ∷ (codes "ok") ∷ [] ∷ [] ∷ (codes "mover") ∷ []) ∷
    ((codes "1006") ∷ (codes "d") ∷ (codes "mover") ∷ (codes "move") ∷ (codes "out") ∷ (codes "m-1-0") ∷ [] ∷ (codes "q") ∷ []) ∷
    ((codes "1006") ∷ (codes "d") ∷ (codes "mover") ∷ (codes "task") ∷ (codes "Completed") ∷ [] ∷ [] ∷ (codes "1") ∷ []) ∷
    ((codes "1106") ∷ (codes "q") ∷ (codes "mover") ∷ (codes "arrive") ∷ (codes "new") ∷ (codes "m-0-0") ∷ [] ∷ (codes "o-1-0") ∷ []) ∷
    ((codes "final") ∷ (codes "queue") ∷ (codes "message") ∷ (codes "origin") ∷ (codes "place") ∷ (codes "due") ∷ (codes "enqueued") ∷ (codes "receives") ∷ (codes "group") ∷ (codes "md5") ∷ []) ∷
    ((codes "final") ∷ (codes "q") ∷ (codes "m-0-0") ∷ (codes "o-1-0") ∷ (codes "visible") ∷ [] ∷ (codes "1106") ∷ (codes "0") ∷ [] ∷ digest (codes "hi") ∷ []) ∷
    ((codes "transfer") ∷ (codes "from") ∷ (codes "to") ∷ (codes "kind") ∷ (codes "due") ∷ (codes "number") ∷ (codes "message") ∷ (codes "origin") ∷ (codes "md5") ∷ []) ∷
    ((codes "task") ∷ (codes "name") ∷ (codes "status") ∷ (codes "moved") ∷ []) ∷
    ((codes "task") ∷ (codes "other") ∷ (codes "Idle") ∷ (codes "0") ∷ []) ∷
    ((codes "task") ∷ (codes "mover") ∷ (codes "Completed") ∷ (codes "1") ∷ []) ∷
    ((codes "report") ∷ (codes "queue") ∷ (codes "sends") ∷ (codes "repeats") ∷ (codes "receives") ∷ (codes "empties") ∷ (codes "deletes") ∷ (codes "expiries") ∷ (codes "redrives") ∷ (codes "moves") ∷ (codes "arrivals") ∷ (codes "OverLimit") ∷ (codes "MessageNotInflight") ∷ (codes "ReceiptHandleIsInvalid") ∷ (codes "BadTimeout") ∷ (codes "MissingGroup") ∷ (codes "MissingDeduplication") ∷ (codes "BadDelay") ∷ (codes "TaskRunning") ∷ (codes "NoTask") ∷ (codes "depth_max") ∷ (codes "visible") ∷ (codes "in_flight") ∷ (codes "delayed") ∷ (codes "age_sum") ∷ (codes "age_max") ∷ (codes "age_p50") ∷ (codes "age_p95") ∷ (codes "age_p99") ∷ []) ∷
    ((codes "report") ∷ (codes "q") ∷ (codes "0") ∷ (codes "0") ∷ (codes "0") ∷ (codes "0") ∷ (codes "0") ∷ (codes "0") ∷ (codes "0") ∷ (codes "0") ∷ (codes "1") ∷ (codes "0") ∷ (codes "0") ∷ (codes "0") ∷ (codes "0") ∷ (codes "0") ∷ (codes "0") ∷ (codes "0") ∷ (codes "0") ∷ (codes "0") ∷ (codes "1") ∷ (codes "1") ∷ (codes "0") ∷ (codes "0") ∷ (codes "0") ∷ [] ∷ [] ∷ [] ∷ [] ∷ []) ∷
    ((codes "report") ∷ (codes "d") ∷ (codes "1") ∷ (codes "0") ∷ (codes "0") ∷ (codes "0") ∷ (codes "0") ∷ (codes "0") ∷ (codes "0") ∷ (codes "1") ∷ (codes "0") ∷ (codes "0") ∷ (codes "0") ∷ (codes "0") ∷ (codes "0") ∷ (codes "0") ∷ (codes "0") ∷ (codes "0") ∷ (codes "0") ∷ (codes "0") ∷ (codes "1") ∷ (codes "0") ∷ (codes "0") ∷ (codes "0") ∷ (codes "0") ∷ [] ∷ [] ∷ [] ∷ [] ∷ []) ∷ [])
unfolding reading_on_literals running_on_literals columns_of
case_0_second_of_two_tasks = refl

-- worked/standard_delete_after_release.toml
case_0_standard_delete_after_release : shown 4 [] (codes "version = 1\nhorizon = 2000\n[[queue]]\nname = '''q'''\nvisibility_s = 1\n[[actor]]\nname = '''s'''\nkind = '''script'''\nqueue = '''q'''\ncalls = '''at,call,body,group,id,delay,receipt,max,wait,timeout,task\n0,send,abc,,,,,,,,\n100,receive,,,,,,,,,\n1200,delete,,,,,r-0-0-1,,,,\n'''\n")
    ≡ ran (((codes "at") ∷ (codes "queue") ∷ (codes "agent") ∷ (codes "call") ∷ (codes "answer") ∷ (codes "message") ∷ (codes "receipt") ∷ (codes "detail") ∷ []) ∷
    ((codes "0") ∷ (codes "q") ∷ (codes "s") ∷ (codes "send") ∷ (codes "new") ∷ (codes "m-0-0") ∷ [] ∷ digest (codes "abc") ∷ []) ∷
    ((codes "100") ∷ (codes "q") ∷ (codes "s") ∷ (codes "receive") ∷ (codes "ok") ∷ (codes "m-0-0") ∷ (codes "r-0-0-1") ∷ (codes "o-0-0") ∷ []) ∷
    ((codes "1100") ∷ (codes "q") ∷ (codes "q") ∷ (codes "release") ∷ (codes "visible") ∷ (codes "m-0-0") ∷ [] ∷ [] ∷ []) ∷
    ((codes "1200") ∷ (codes "q") ∷ (codes "s") ∷ (codes "delete") ∷ (codes "deleted") ∷ (codes "m-0-0") ∷ (codes "r-0-0-1") ∷ (codes "1200") ∷ []) ∷
    ((codes "final") ∷ (codes "queue") ∷ (codes "message") ∷ (codes "origin") ∷ (codes "place") ∷ (codes "due") ∷ (codes "enqueued") ∷ (codes "receives") ∷ (codes "group") ∷ (codes "md5") ∷ []) ∷
    ((codes "transfer") ∷ (codes "from") ∷ (codes "to") ∷ (codes "kind") ∷ (codes "due") ∷ (codes "number") ∷ (codes "message") ∷ (codes "origin") ∷ (codes "md5") ∷ []) ∷
    ((codes "task") ∷ (codes "name") ∷ (codes "status") ∷ (codes "moved") ∷ []) ∷
    ((codes "report") ∷ (codes "queue") ∷ (codes "sends") ∷ (codes "repeats") ∷ (codes "receives") ∷ (codes "empties") ∷ (codes "deletes") ∷ (codes "expiries") ∷ (codes "redrives") ∷ (codes "moves") ∷ (codes "arrivals") ∷ (codes "OverLimit") ∷ (codes "MessageNotInflight") ∷ (codes "ReceiptHandleIsInvalid") ∷ (codes "BadTimeout") ∷ (codes "MissingGroup") ∷ (codes "MissingDeduplication") ∷ (codes "BadDelay") ∷ (codes "TaskRunning") ∷ (codes "NoTask") ∷ (codes "depth_max") ∷ (codes "visible") ∷ (codes "in_flight") ∷ (codes "delayed") ∷ (codes "age_sum") ∷ (codes "age_max") ∷ (codes "age_p50") ∷ (codes "age_p95") ∷ (codes "age_p99") ∷ []) ∷
    ((codes "report") ∷ (codes "q") ∷ (codes "1") ∷ (codes "0") ∷ (codes "1") ∷ (codes "0") ∷ (codes "1") ∷ (codes "0") ∷ (codes "0") ∷ (codes "0") ∷ (codes "0") ∷ (codes "0") ∷ (codes "0") ∷ (codes "0") ∷ (codes "0") ∷ (codes "0") ∷ (codes "0") ∷ (codes "0") ∷ (codes "0") ∷ (codes "0") ∷ (codes "1") ∷ (codes "0") ∷ (codes "0") ∷ (codes "0") ∷ (codes "1200") ∷ (codes "1200") ∷ (codes "1200") ∷ (codes "1200") ∷ (codes "1200") ∷ []) ∷ [])
unfolding reading_on_literals running_on_literals columns_of
case_0_standard_delete_after_release = refl
