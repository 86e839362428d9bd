-- Scenarios with their right output, computed over the definitions. Made by tools/compute_cases.py.
use Rattle.std.proofs.Common.{◌≡◌, ℕ, true, List, [], ◌∷◌, ◌++◌, codes, refl}
use Rattle.sqs_formats.specs.Report.{columns_of}
use Rattle.sqs_formats.proofs.OnLiterals.{reading_on_literals}
use Rattle.sqs_examples.proofs.Shown.{running_on_literals, digest, ran, refused, shown_upto}

-- version-3/backoff_at_the_last_receive.toml
case_0_backoff_at_the_last_receive : shown_upto 3 72 [] (codes "# After its second and last receive the message fails at 1210 and is changed to 4 s. It stays in flight for them, and\n# leaves for the dead-letter queue at 5210, where it would be visible again.\nversion = 3\nhorizon = 6000\n[[queue]]\nname = \"q\"\ndead_letter = \"d\"\nmax_receives = 2\nlatency_min_ms = 20\nlatency_max_ms = 20\n[[queue]]\nname = \"d\"\n[[actor]]\nname = \"c\"\nkind = \"consumer\"\nqueue = \"q\"\nstart_ms = 10\nwait_s = 20\nservice_min_ms = 100\nservice_max_ms = 100\nfail_permille = 1000\nbackoff_s = [1, 4]\n[[actor]]\nname = \"s\"\nkind = \"script\"\nqueue = \"q\"\ncalls = \"\"\"\nat,call,body,group,id,delay,receipt,max,wait,timeout,task\n0,send,a,,,,,,,,\n\"\"\"\n")
    ≡ ran (((codes "at") ∷ (codes "queue") ∷ (codes "agent") ∷ (codes "call") ∷ (codes "answer") ∷ (codes "message") ∷ (codes "receipt") ∷ (codes "detail") ∷ []) ∷
    ((codes "0") ∷ (codes "q") ∷ (codes "s") ∷ (codes "send") ∷ (codes "new") ∷ (codes "m-0-0") ∷ [] ∷ digest (codes "a") ∷ []) ∷
    ((codes "10") ∷ (codes "q") ∷ (codes "c") ∷ (codes "receive") ∷ (codes "ok") ∷ (codes "m-0-0") ∷ (codes "r-0-0-1") ∷ (codes "o-0-0") ∷ []) ∷
    ((codes "110") ∷ (codes "q") ∷ (codes "c") ∷ (codes "fail") ∷ (codes "ok") ∷ (codes "m-0-0") ∷ (codes "r-0-0-1") ∷ [] ∷ []) ∷
    ((codes "110") ∷ (codes "q") ∷ (codes "c") ∷ (codes "change") ∷ (codes "ok") ∷ (codes "m-0-0") ∷ (codes "r-0-0-1") ∷ (codes "1") ∷ []) ∷
    ((codes "111") ∷ (codes "q") ∷ (codes "c") ∷ (codes "receive") ∷ (codes "wait") ∷ [] ∷ [] ∷ [] ∷ []) ∷
    ((codes "1110") ∷ (codes "q") ∷ (codes "q") ∷ (codes "release") ∷ (codes "visible") ∷ (codes "m-0-0") ∷ [] ∷ [] ∷ []) ∷
    ((codes "1110") ∷ (codes "q") ∷ (codes "c") ∷ (codes "receive") ∷ (codes "ok") ∷ (codes "m-0-0") ∷ (codes "r-0-0-2") ∷ (codes "o-0-0") ∷ []) ∷
    ((codes "1210") ∷ (codes "q") ∷ (codes "c") ∷ (codes "fail") ∷ (codes "ok") ∷ (codes "m-0-0") ∷ (codes "r-0-0-2") ∷ [] ∷ []) ∷
    ((codes "1210") ∷ (codes "q") ∷ (codes "c") ∷ (codes "change") ∷ (codes "ok") ∷ (codes "m-0-0") ∷ (codes "r-0-0-2") ∷ (codes "4") ∷ []) ∷
    ((codes "1211") ∷ (codes "q") ∷ (codes "c") ∷ (codes "receive") ∷ (codes "wait") ∷ [] ∷ [] ∷ [] ∷ []) ∷
    ((codes "5210") ∷ (codes "q") ∷ (codes "q") ∷ (codes "redrive") ∷ (codes "out") ∷ (codes "m-0-0") ∷ [] ∷ (codes "d") ∷ []) ∷
    ((codes "5230") ∷ (codes "d") ∷ (codes "q") ∷ (codes "arrive") ∷ (codes "new") ∷ (codes "m-1-0") ∷ [] ∷ (codes "o-0-0") ∷ []) ∷
    ((codes "final") ∷ (codes "queue") ∷ (codes "message") ∷ (codes "origin") ∷ (codes "place") ∷ (codes "due") ∷ (codes "enqueued") ∷ (codes "receives") ∷ (codes "group") ∷ (codes "md5") ∷ []) ∷
    ((codes "final") ∷ (codes "d") ∷ (codes "m-1-0") ∷ (codes "o-0-0") ∷ (codes "visible") ∷ [] ∷ (codes "0") ∷ (codes "0") ∷ [] ∷ digest (codes "a") ∷ []) ∷
    ((codes "transfer") ∷ (codes "from") ∷ (codes "to") ∷ (codes "kind") ∷ (codes "due") ∷ (codes "number") ∷ (codes "message") ∷ (codes "origin") ∷ (codes "md5") ∷ []) ∷
    ((codes "task") ∷ (codes "name") ∷ (codes "status") ∷ (codes "moved") ∷ []) ∷
    ((codes "report") ∷ (codes "queue") ∷ (codes "sends") ∷ (codes "repeats") ∷ (codes "receives") ∷ (codes "empties") ∷ (codes "deletes") ∷ (codes "expiries") ∷ (codes "redrives") ∷ (codes "moves") ∷ (codes "arrivals") ∷ (codes "OverLimit") ∷ (codes "MessageNotInflight") ∷ (codes "ReceiptHandleIsInvalid") ∷ (codes "BadTimeout") ∷ (codes "MissingGroup") ∷ (codes "MissingDeduplication") ∷ (codes "BadDelay") ∷ (codes "TaskRunning") ∷ (codes "NoTask") ∷ (codes "depth_max") ∷ (codes "visible") ∷ (codes "in_flight") ∷ (codes "delayed") ∷ (codes "age_sum") ∷ (codes "age_max") ∷ (codes "age_p50") ∷ (codes "age_p95") ∷ (codes "age_p99") ∷ []) ∷
    ((codes "report") ∷ (codes "q") ∷ (codes "1") ∷ (codes "0") ∷ (codes "2") ∷ (codes "0") ∷ (codes "0") ∷ (codes "0") ∷ (codes "1") ∷ (codes "0") ∷ (codes "0") ∷ (codes "0") ∷ (codes "0") ∷ (codes "0") ∷ (codes "0") ∷ (codes "0") ∷ (codes "0") ∷ (codes "0") ∷ (codes "0") ∷ (codes "0") ∷ (codes "1") ∷ (codes "0") ∷ (codes "0") ∷ (codes "0") ∷ (codes "0") ∷ [] ∷ [] ∷ [] ∷ [] ∷ []) ∷
    ((codes "report") ∷ (codes "d") ∷ (codes "0") ∷ (codes "0") ∷ (codes "0") ∷ (codes "0") ∷ (codes "0") ∷ (codes "0") ∷ (codes "0") ∷ (codes "0") ∷ (codes "1") ∷ (codes "0") ∷ (codes "0") ∷ (codes "0") ∷ (codes "0") ∷ (codes "0") ∷ (codes "0") ∷ (codes "0") ∷ (codes "0") ∷ (codes "0") ∷ (codes "1") ∷ (codes "1") ∷ (codes "0") ∷ (codes "0") ∷ (codes "0") ∷ [] ∷ [] ∷ [] ∷ [] ∷ []) ∷ [])
unfolding reading_on_literals running_on_literals columns_of
case_0_backoff_at_the_last_receive = refl

-- version-3/backoff_by_receive_count.toml
case_0_backoff_by_receive_count : shown_upto 3 80 [] (codes "# All services fail. After the first receive the timeout is changed to 1 s, after the second to 3 s, and so after all\n# later ones: 110 + 1000 = 1110, 1210 + 3000 = 4210, 4310 + 3000 = 7310.\nversion = 3\nhorizon = 8000\n[[queue]]\nname = \"q\"\n[[actor]]\nname = \"c\"\nkind = \"consumer\"\nqueue = \"q\"\nstart_ms = 10\nwait_s = 20\nservice_min_ms = 100\nservice_max_ms = 100\nfail_permille = 1000\nbackoff_s = [1, 3]\n[[actor]]\nname = \"s\"\nkind = \"script\"\nqueue = \"q\"\ncalls = \"\"\"\nat,call,body,group,id,delay,receipt,max,wait,timeout,task\n0,send,a,,,,,,,,\n\"\"\"\n")
    ≡ ran (((codes "at") ∷ (codes "queue") ∷ (codes "agent") ∷ (codes "call") ∷ (codes "answer") ∷ (codes "message") ∷ (codes "receipt") ∷ (codes "detail") ∷ []) ∷
    ((codes "0") ∷ (codes "q") ∷ (codes "s") ∷ (codes "send") ∷ (codes "new") ∷ (codes "m-0-0") ∷ [] ∷ digest (codes "a") ∷ []) ∷
    ((codes "10") ∷ (codes "q") ∷ (codes "c") ∷ (codes "receive") ∷ (codes "ok") ∷ (codes "m-0-0") ∷ (codes "r-0-0-1") ∷ (codes "o-0-0") ∷ []) ∷
    ((codes "110") ∷ (codes "q") ∷ (codes "c") ∷ (codes "fail") ∷ (codes "ok") ∷ (codes "m-0-0") ∷ (codes "r-0-0-1") ∷ [] ∷ []) ∷
    ((codes "110") ∷ (codes "q") ∷ (codes "c") ∷ (codes "change") ∷ (codes "ok") ∷ (codes "m-0-0") ∷ (codes "r-0-0-1") ∷ (codes "1") ∷ []) ∷
    ((codes "111") ∷ (codes "q") ∷ (codes "c") ∷ (codes "receive") ∷ (codes "wait") ∷ [] ∷ [] ∷ [] ∷ []) ∷
    ((codes "1110") ∷ (codes "q") ∷ (codes "q") ∷ (codes "release") ∷ (codes "visible") ∷ (codes "m-0-0") ∷ [] ∷ [] ∷ []) ∷
    ((codes "1110") ∷ (codes "q") ∷ (codes "c") ∷ (codes "receive") ∷ (codes "ok") ∷ (codes "m-0-0") ∷ (codes "r-0-0-2") ∷ (codes "o-0-0") ∷ []) ∷
    ((codes "1210") ∷ (codes "q") ∷ (codes "c") ∷ (codes "fail") ∷ (codes "ok") ∷ (codes "m-0-0") ∷ (codes "r-0-0-2") ∷ [] ∷ []) ∷
    ((codes "1210") ∷ (codes "q") ∷ (codes "c") ∷ (codes "change") ∷ (codes "ok") ∷ (codes "m-0-0") ∷ (codes "r-0-0-2") ∷ (codes "3") ∷ []) ∷
    ((codes "1211") ∷ (codes "q") ∷ (codes "c") ∷ (codes "receive") ∷ (codes "wait") ∷ [] ∷ [] ∷ [] ∷ []) ∷
    ((codes "4210") ∷ (codes "q") ∷ (codes "q") ∷ (codes "release") ∷ (codes "visible") ∷ (codes "m-0-0") ∷ [] ∷ [] ∷ []) ∷
    ((codes "4210") ∷ (codes "q") ∷ (codes "c") ∷ (codes "receive") ∷ (codes "ok") ∷ (codes "m-0-0") ∷ (codes "r-0-0-3") ∷ (codes "o-0-0") ∷ []) ∷
    ((codes "4310") ∷ (codes "q") ∷ (codes "c") ∷ (codes "fail") ∷ (codes "ok") ∷ (codes "m-0-0") ∷ (codes "r-0-0-3") ∷ [] ∷ []) ∷
    ((codes "4310") ∷ (codes "q") ∷ (codes "c") ∷ (codes "change") ∷ (codes "ok") ∷ (codes "m-0-0") ∷ (codes "r-0-0-3") ∷ (codes "3") ∷ []) ∷
    ((codes "4311") ∷ (codes "q") ∷ (codes "c") ∷ (codes "receive") ∷ (codes "wait") ∷ [] ∷ [] ∷ [] ∷ []) ∷
    ((codes "7310") ∷ (codes "q") ∷ (codes "q") ∷ (codes "release") ∷ (codes "visible") ∷ (codes "m-0-0") ∷ [] ∷ [] ∷ []) ∷
    ((codes "7310") ∷ (codes "q") ∷ (codes "c") ∷ (codes "receive") ∷ (codes "ok") ∷ (codes "m-0-0") ∷ (codes "r-0-0-4") ∷ (codes "o-0-0") ∷ []) ∷
    ((codes "7410") ∷ (codes "q") ∷ (codes "c") ∷ (codes "fail") ∷ (codes "ok") ∷ (codes "m-0-0") ∷ (codes "r-0-0-4") ∷ [] ∷ []) ∷
    ((codes "7410") ∷ (codes "q") ∷ (codes "c") ∷ (codes "change") ∷ (codes "ok") ∷ (codes "m-0-0") ∷ (codes "r-0-0-4") ∷ (codes "3") ∷ []) ∷
    ((codes "7411") ∷ (codes "q") ∷ (codes "c") ∷ (codes "receive") ∷ (codes "wait") ∷ [] ∷ [] ∷ [] ∷ []) ∷
    ((codes "final") ∷ (codes "queue") ∷ (codes "message") ∷ (codes "origin") ∷ (codes "place") ∷ (codes "due") ∷ (codes "enqueued") ∷ (codes "receives") ∷ (codes "group") ∷ (codes "md5") ∷ []) ∷
    ((codes "final") ∷ (codes "q") ∷ (codes "m-0-0") ∷ (codes "o-0-0") ∷ (codes "inflight") ∷ (codes "10410") ∷ (codes "0") ∷ (codes "4") ∷ [] ∷ digest (codes "a") ∷ []) ∷
    ((codes "transfer") ∷ (codes "from") ∷ (codes "to") ∷ (codes "kind") ∷ (codes "due") ∷ (codes "number") ∷ (codes "message") ∷ (codes "origin") ∷ (codes "md5") ∷ []) ∷
    ((codes "task") ∷ (codes "name") ∷ (codes "status") ∷ (codes "moved") ∷ []) ∷
    ((codes "report") ∷ (codes "queue") ∷ (codes "sends") ∷ (codes "repeats") ∷ (codes "receives") ∷ (codes "empties") ∷ (codes "deletes") ∷ (codes "expiries") ∷ (codes "redrives") ∷ (codes "moves") ∷ (codes "arrivals") ∷ (codes "OverLimit") ∷ (codes "MessageNotInflight") ∷ (codes "ReceiptHandleIsInvalid") ∷ (codes "BadTimeout") ∷ (codes "MissingGroup") ∷ (codes "MissingDeduplication") ∷ (codes "BadDelay") ∷ (codes "TaskRunning") ∷ (codes "NoTask") ∷ (codes "depth_max") ∷ (codes "visible") ∷ (codes "in_flight") ∷ (codes "delayed") ∷ (codes "age_sum") ∷ (codes "age_max") ∷ (codes "age_p50") ∷ (codes "age_p95") ∷ (codes "age_p99") ∷ []) ∷
    ((codes "report") ∷ (codes "q") ∷ (codes "1") ∷ (codes "0") ∷ (codes "4") ∷ (codes "0") ∷ (codes "0") ∷ (codes "0") ∷ (codes "0") ∷ (codes "0") ∷ (codes "0") ∷ (codes "0") ∷ (codes "0") ∷ (codes "0") ∷ (codes "0") ∷ (codes "0") ∷ (codes "0") ∷ (codes "0") ∷ (codes "0") ∷ (codes "0") ∷ (codes "1") ∷ (codes "0") ∷ (codes "1") ∷ (codes "0") ∷ (codes "0") ∷ [] ∷ [] ∷ [] ∷ [] ∷ []) ∷ [])
unfolding reading_on_literals running_on_literals columns_of
case_0_backoff_by_receive_count = refl

-- version-3/backoff_closes_a_fifo_group.toml
case_0_backoff_closes_a_fifo_group : shown_upto 3 75 [] (codes "# The poison m-0-0 fails at 110 and is changed to 3 s, until 3110. So long its group is closed, and m-0-1 waits with it.\n# At 3110 the poison comes back and is received again; it has had its last receive, fails at 3210, and with a backoff of\n# 0 leaves at once. The consumer asks at 3211 and gets m-0-1.\nversion = 3\nhorizon = 4000\n[[queue]]\nname = \"q.fifo\"\ndead_letter = \"d.fifo\"\nmax_receives = 2\nlatency_min_ms = 20\nlatency_max_ms = 20\n[[queue]]\nname = \"d.fifo\"\n[[actor]]\nname = \"c\"\nkind = \"consumer\"\nqueue = \"q.fifo\"\nstart_ms = 10\nwait_s = 20\nservice_min_ms = 100\nservice_max_ms = 100\nfails_on = \"bad\"\nbackoff_s = [3, 0]\n[[actor]]\nname = \"s\"\nkind = \"script\"\nqueue = \"q.fifo\"\ncalls = \"\"\"\nat,call,body,group,id,delay,receipt,max,wait,timeout,task\n0,send,bad,g,1,,,,,,\n1,send,a,g,2,,,,,,\n\"\"\"\n")
    ≡ ran (((codes "at") ∷ (codes "queue") ∷ (codes "agent") ∷ (codes "call") ∷ (codes "answer") ∷ (codes "message") ∷ (codes "receipt") ∷ (codes "detail") ∷ []) ∷
    ((codes "0") ∷ (codes "q.fifo") ∷ (codes "s") ∷ (codes "send") ∷ (codes "new") ∷ (codes "m-0-0") ∷ [] ∷ digest (codes "bad") ∷ []) ∷
    ((codes "1") ∷ (codes "q.fifo") ∷ (codes "s") ∷ (codes "send") ∷ (codes "new") ∷ (codes "m-0-1") ∷ [] ∷ digest (codes "a") ∷ []) ∷
    ((codes "10") ∷ (codes "q.fifo") ∷ (codes "c") ∷ (codes "receive") ∷ (codes "ok") ∷ (codes "m-0-0") ∷ (codes "r-0-0-1") ∷ (codes "o-0-0") ∷ []) ∷
    ((codes "110") ∷ (codes "q.fifo") ∷ (codes "c") ∷ (codes "fail") ∷ (codes "ok") ∷ (codes "m-0-0") ∷ (codes "r-0-0-1") ∷ [] ∷ []) ∷
    ((codes "110") ∷ (codes "q.fifo") ∷ (codes "c") ∷ (codes "change") ∷ (codes "ok") ∷ (codes "m-0-0") ∷ (codes "r-0-0-1") ∷ (codes "3") ∷ []) ∷
    ((codes "111") ∷ (codes "q.fifo") ∷ (codes "c") ∷ (codes "receive") ∷ (codes "wait") ∷ [] ∷ [] ∷ [] ∷ []) ∷
    ((codes "3110") ∷ (codes "q.fifo") ∷ (codes "q.fifo") ∷ (codes "release") ∷ (codes "visible") ∷ (codes "m-0-0") ∷ [] ∷ [] ∷ []) ∷
    ((codes "3110") ∷ (codes "q.fifo") ∷ (codes "c") ∷ (codes "receive") ∷ (codes "ok") ∷ (codes "m-0-0") ∷ (codes "r-0-0-2") ∷ (codes "o-0-0") ∷ []) ∷
    ((codes "3210") ∷ (codes "q.fifo") ∷ (codes "c") ∷ (codes "fail") ∷ (codes "ok") ∷ (codes "m-0-0") ∷ (codes "r-0-0-2") ∷ [] ∷ []) ∷
    ((codes "3210") ∷ (codes "q.fifo") ∷ (codes "c") ∷ (codes "change") ∷ (codes "ok") ∷ (codes "m-0-0") ∷ (codes "r-0-0-2") ∷ (codes "0") ∷ []) ∷
    ((codes "3210") ∷ (codes "q.fifo") ∷ (codes "q.fifo") ∷ (codes "redrive") ∷ (codes "out") ∷ (codes "m-0-0") ∷ [] ∷ (codes "d.fifo") ∷ []) ∷
    ((codes "3211") ∷ (codes "q.fifo") ∷ (codes "c") ∷ (codes "receive") ∷ (codes "ok") ∷ (codes "m-0-1") ∷ (codes "r-0-1-1") ∷ (codes "o-0-1") ∷ []) ∷
    ((codes "3230") ∷ (codes "d.fifo") ∷ (codes "q.fifo") ∷ (codes "arrive") ∷ (codes "new") ∷ (codes "m-1-0") ∷ [] ∷ (codes "o-0-0") ∷ []) ∷
    ((codes "3311") ∷ (codes "q.fifo") ∷ (codes "c") ∷ (codes "delete") ∷ (codes "deleted") ∷ (codes "m-0-1") ∷ (codes "r-0-1-1") ∷ (codes "3310") ∷ []) ∷
    ((codes "3312") ∷ (codes "q.fifo") ∷ (codes "c") ∷ (codes "receive") ∷ (codes "wait") ∷ [] ∷ [] ∷ [] ∷ []) ∷
    ((codes "final") ∷ (codes "queue") ∷ (codes "message") ∷ (codes "origin") ∷ (codes "place") ∷ (codes "due") ∷ (codes "enqueued") ∷ (codes "receives") ∷ (codes "group") ∷ (codes "md5") ∷ []) ∷
    ((codes "final") ∷ (codes "d.fifo") ∷ (codes "m-1-0") ∷ (codes "o-0-0") ∷ (codes "visible") ∷ [] ∷ (codes "3230") ∷ (codes "0") ∷ (codes "g") ∷ digest (codes "bad") ∷ []) ∷
    ((codes "transfer") ∷ (codes "from") ∷ (codes "to") ∷ (codes "kind") ∷ (codes "due") ∷ (codes "number") ∷ (codes "message") ∷ (codes "origin") ∷ (codes "md5") ∷ []) ∷
    ((codes "task") ∷ (codes "name") ∷ (codes "status") ∷ (codes "moved") ∷ []) ∷
    ((codes "report") ∷ (codes "queue") ∷ (codes "sends") ∷ (codes "repeats") ∷ (codes "receives") ∷ (codes "empties") ∷ (codes "deletes") ∷ (codes "expiries") ∷ (codes "redrives") ∷ (codes "moves") ∷ (codes "arrivals") ∷ (codes "OverLimit") ∷ (codes "MessageNotInflight") ∷ (codes "ReceiptHandleIsInvalid") ∷ (codes "BadTimeout") ∷ (codes "MissingGroup") ∷ (codes "MissingDeduplication") ∷ (codes "BadDelay") ∷ (codes "TaskRunning") ∷ (codes "NoTask") ∷ (codes "depth_max") ∷ (codes "visible") ∷ (codes "in_flight") ∷ (codes "delayed") ∷ (codes "age_sum") ∷ (codes "age_max") ∷ (codes "age_p50") ∷ (codes "age_p95") ∷ (codes "age_p99") ∷ []) ∷
    ((codes "report") ∷ (codes "q.fifo") ∷ (codes "2") ∷ (codes "0") ∷ (codes "3") ∷ (codes "0") ∷ (codes "1") ∷ (codes "0") ∷ (codes "1") ∷ (codes "0") ∷ (codes "0") ∷ (codes "0") ∷ (codes "0") ∷ (codes "0") ∷ (codes "0") ∷ (codes "0") ∷ (codes "0") ∷ (codes "0") ∷ (codes "0") ∷ (codes "0") ∷ (codes "2") ∷ (codes "0") ∷ (codes "0") ∷ (codes "0") ∷ (codes "3310") ∷ (codes "3310") ∷ (codes "3310") ∷ (codes "3310") ∷ (codes "3310") ∷ []) ∷
    ((codes "report") ∷ (codes "d.fifo") ∷ (codes "0") ∷ (codes "0") ∷ (codes "0") ∷ (codes "0") ∷ (codes "0") ∷ (codes "0") ∷ (codes "0") ∷ (codes "0") ∷ (codes "1") ∷ (codes "0") ∷ (codes "0") ∷ (codes "0") ∷ (codes "0") ∷ (codes "0") ∷ (codes "0") ∷ (codes "0") ∷ (codes "0") ∷ (codes "0") ∷ (codes "1") ∷ (codes "1") ∷ (codes "0") ∷ (codes "0") ∷ (codes "0") ∷ [] ∷ [] ∷ [] ∷ [] ∷ []) ∷ [])
unfolding reading_on_literals running_on_literals columns_of
case_0_backoff_closes_a_fifo_group = refl

-- version-3/backoff_meets_the_end_of_the_timeout.toml
case_0_backoff_meets_the_end_of_the_timeout : shown_upto 3 69 [] (codes "# The service ends at 1010, as does the visibility timeout. The queue has the least number, so the message comes back\n# first, and the change is refused. The consumer asks at 1011 as ever.\nversion = 3\nhorizon = 2011\n[[queue]]\nname = \"q\"\nvisibility_s = 1\n[[actor]]\nname = \"c\"\nkind = \"consumer\"\nqueue = \"q\"\nstart_ms = 10\nwait_s = 20\nservice_min_ms = 1000\nservice_max_ms = 1000\nfail_permille = 1000\nbackoff_s = [9]\n[[actor]]\nname = \"s\"\nkind = \"script\"\nqueue = \"q\"\ncalls = \"\"\"\nat,call,body,group,id,delay,receipt,max,wait,timeout,task\n0,send,a,,,,,,,,\n\"\"\"\n")
    ≡ ran (((codes "at") ∷ (codes "queue") ∷ (codes "agent") ∷ (codes "call") ∷ (codes "answer") ∷ (codes "message") ∷ (codes "receipt") ∷ (codes "detail") ∷ []) ∷
    ((codes "0") ∷ (codes "q") ∷ (codes "s") ∷ (codes "send") ∷ (codes "new") ∷ (codes "m-0-0") ∷ [] ∷ digest (codes "a") ∷ []) ∷
    ((codes "10") ∷ (codes "q") ∷ (codes "c") ∷ (codes "receive") ∷ (codes "ok") ∷ (codes "m-0-0") ∷ (codes "r-0-0-1") ∷ (codes "o-0-0") ∷ []) ∷
    ((codes "1010") ∷ (codes "q") ∷ (codes "q") ∷ (codes "release") ∷ (codes "visible") ∷ (codes "m-0-0") ∷ [] ∷ [] ∷ []) ∷
    ((codes "1010") ∷ (codes "q") ∷ (codes "c") ∷ (codes "fail") ∷ (codes "ok") ∷ (codes "m-0-0") ∷ (codes "r-0-0-1") ∷ [] ∷ []) ∷
    ((codes "1010") ∷ (codes "q") ∷ (codes "c") ∷ (codes "change") ∷ (codes "MessageNotInflight") ∷ [] ∷ (codes "r-0-0-1") ∷ [] ∷ []) ∷
    ((codes "1011") ∷ (codes "q") ∷ (codes "c") ∷ (codes "receive") ∷ (codes "ok") ∷ (codes "m-0-0") ∷ (codes "r-0-0-2") ∷ (codes "o-0-0") ∷ []) ∷
    ((codes "2011") ∷ (codes "q") ∷ (codes "q") ∷ (codes "release") ∷ (codes "visible") ∷ (codes "m-0-0") ∷ [] ∷ [] ∷ []) ∷
    ((codes "2011") ∷ (codes "q") ∷ (codes "c") ∷ (codes "fail") ∷ (codes "ok") ∷ (codes "m-0-0") ∷ (codes "r-0-0-2") ∷ [] ∷ []) ∷
    ((codes "2011") ∷ (codes "q") ∷ (codes "c") ∷ (codes "change") ∷ (codes "MessageNotInflight") ∷ [] ∷ (codes "r-0-0-2") ∷ [] ∷ []) ∷
    ((codes "final") ∷ (codes "queue") ∷ (codes "message") ∷ (codes "origin") ∷ (codes "place") ∷ (codes "due") ∷ (codes "enqueued") ∷ (codes "receives") ∷ (codes "group") ∷ (codes "md5") ∷ []) ∷
    ((codes "final") ∷ (codes "q") ∷ (codes "m-0-0") ∷ (codes "o-0-0") ∷ (codes "visible") ∷ [] ∷ (codes "0") ∷ (codes "2") ∷ [] ∷ digest (codes "a") ∷ []) ∷
    ((codes "transfer") ∷ (codes "from") ∷ (codes "to") ∷ (codes "kind") ∷ (codes "due") ∷ (codes "number") ∷ (codes "message") ∷ (codes "origin") ∷ (codes "md5") ∷ []) ∷
    ((codes "task") ∷ (codes "name") ∷ (codes "status") ∷ (codes "moved") ∷ []) ∷
    ((codes "report") ∷ (codes "queue") ∷ (codes "sends") ∷ (codes "repeats") ∷ (codes "receives") ∷ (codes "empties") ∷ (codes "deletes") ∷ (codes "expiries") ∷ (codes "redrives") ∷ (codes "moves") ∷ (codes "arrivals") ∷ (codes "OverLimit") ∷ (codes "MessageNotInflight") ∷ (codes "ReceiptHandleIsInvalid") ∷ (codes "BadTimeout") ∷ (codes "MissingGroup") ∷ (codes "MissingDeduplication") ∷ (codes "BadDelay") ∷ (codes "TaskRunning") ∷ (codes "NoTask") ∷ (codes "depth_max") ∷ (codes "visible") ∷ (codes "in_flight") ∷ (codes "delayed") ∷ (codes "age_sum") ∷ (codes "age_max") ∷ (codes "age_p50") ∷ (codes "age_p95") ∷ (codes "age_p99") ∷ []) ∷
    ((codes "report") ∷ (codes "q") ∷ (codes "1") ∷ (codes "0") ∷ (codes "2") ∷ (codes "0") ∷ (codes "0") ∷ (codes "0") ∷ (codes "0") ∷ (codes "0") ∷ (codes "0") ∷ (codes "0") ∷ (codes "2") ∷ (codes "0") ∷ (codes "0") ∷ (codes "0") ∷ (codes "0") ∷ (codes "0") ∷ (codes "0") ∷ (codes "0") ∷ (codes "1") ∷ (codes "1") ∷ (codes "0") ∷ (codes "0") ∷ (codes "0") ∷ [] ∷ [] ∷ [] ∷ [] ∷ []) ∷ [])
unfolding reading_on_literals running_on_literals columns_of
case_0_backoff_meets_the_end_of_the_timeout = refl

-- version-3/backoff_of_a_whole_batch.toml
case_0_backoff_of_a_whole_batch : shown_upto 3 82 [] (codes "# m-0-1 fails at 210. All three are changed to 2 s, 1 ms apart, in the order of the receive: m-0-0 that was served well,\n# m-0-1 that failed, m-0-2 that was not served. They come back at 2210, 2211 and 2212. The poll gets m-0-0 alone, which\n# ends well at 2310. Then m-0-1 and m-0-2 are one batch; after their second receive the backoff is 5 s.\nversion = 3\nhorizon = 3000\n[[queue]]\nname = \"q\"\n[[actor]]\nname = \"c\"\nkind = \"consumer\"\nqueue = \"q\"\nstart_ms = 10\nbatch = 3\nwait_s = 20\nservice_min_ms = 100\nservice_max_ms = 100\nfails_on = \"bad\"\nbatch_fails = \"whole\"\nbackoff_s = [2, 5]\n[[actor]]\nname = \"s\"\nkind = \"script\"\nqueue = \"q\"\ncalls = \"\"\"\nat,call,body,group,id,delay,receipt,max,wait,timeout,task\n0,send,a,,,,,,,,\n1,send,bad,,,,,,,,\n2,send,c,,,,,,,,\n\"\"\"\n")
    ≡ ran (((codes "at") ∷ (codes "queue") ∷ (codes "agent") ∷ (codes "call") ∷ (codes "answer") ∷ (codes "message") ∷ (codes "receipt") ∷ (codes "detail") ∷ []) ∷
    ((codes "0") ∷ (codes "q") ∷ (codes "s") ∷ (codes "send") ∷ (codes "new") ∷ (codes "m-0-0") ∷ [] ∷ digest (codes "a") ∷ []) ∷
    ((codes "1") ∷ (codes "q") ∷ (codes "s") ∷ (codes "send") ∷ (codes "new") ∷ (codes "m-0-1") ∷ [] ∷ digest (codes "bad") ∷ []) ∷
    ((codes "2") ∷ (codes "q") ∷ (codes "s") ∷ (codes "send") ∷ (codes "new") ∷ (codes "m-0-2") ∷ [] ∷ digest (codes "c") ∷ []) ∷
    ((codes "10") ∷ (codes "q") ∷ (codes "c") ∷ (codes "receive") ∷ (codes "ok") ∷ (codes "m-0-0") ∷ (codes "r-0-0-1") ∷ (codes "o-0-0") ∷ []) ∷
    ((codes "10") ∷ (codes "q") ∷ (codes "c") ∷ (codes "receive") ∷ (codes "ok") ∷ (codes "m-0-1") ∷ (codes "r-0-1-1") ∷ (codes "o-0-1") ∷ []) ∷
    ((codes "10") ∷ (codes "q") ∷ (codes "c") ∷ (codes "receive") ∷ (codes "ok") ∷ (codes "m-0-2") ∷ (codes "r-0-2-1") ∷ (codes "o-0-2") ∷ []) ∷
    ((codes "210") ∷ (codes "q") ∷ (codes "c") ∷ (codes "fail") ∷ (codes "ok") ∷ (codes "m-0-1") ∷ (codes "r-0-1-1") ∷ [] ∷ []) ∷
    ((codes "210") ∷ (codes "q") ∷ (codes "c") ∷ (codes "change") ∷ (codes "ok") ∷ (codes "m-0-0") ∷ (codes "r-0-0-1") ∷ (codes "2") ∷ []) ∷
    ((codes "211") ∷ (codes "q") ∷ (codes "c") ∷ (codes "change") ∷ (codes "ok") ∷ (codes "m-0-1") ∷ (codes "r-0-1-1") ∷ (codes "2") ∷ []) ∷
    ((codes "212") ∷ (codes "q") ∷ (codes "c") ∷ (codes "change") ∷ (codes "ok") ∷ (codes "m-0-2") ∷ (codes "r-0-2-1") ∷ (codes "2") ∷ []) ∷
    ((codes "213") ∷ (codes "q") ∷ (codes "c") ∷ (codes "receive") ∷ (codes "wait") ∷ [] ∷ [] ∷ [] ∷ []) ∷
    ((codes "2210") ∷ (codes "q") ∷ (codes "q") ∷ (codes "release") ∷ (codes "visible") ∷ (codes "m-0-0") ∷ [] ∷ [] ∷ []) ∷
    ((codes "2210") ∷ (codes "q") ∷ (codes "c") ∷ (codes "receive") ∷ (codes "ok") ∷ (codes "m-0-0") ∷ (codes "r-0-0-2") ∷ (codes "o-0-0") ∷ []) ∷
    ((codes "2211") ∷ (codes "q") ∷ (codes "q") ∷ (codes "release") ∷ (codes "visible") ∷ (codes "m-0-1") ∷ [] ∷ [] ∷ []) ∷
    ((codes "2212") ∷ (codes "q") ∷ (codes "q") ∷ (codes "release") ∷ (codes "visible") ∷ (codes "m-0-2") ∷ [] ∷ [] ∷ []) ∷
    ((codes "2310") ∷ (codes "q") ∷ (codes "c") ∷ (codes "delete") ∷ (codes "deleted") ∷ (codes "m-0-0") ∷ (codes "r-0-0-2") ∷ (codes "2310") ∷ []) ∷
    ((codes "2311") ∷ (codes "q") ∷ (codes "c") ∷ (codes "receive") ∷ (codes "ok") ∷ (codes "m-0-1") ∷ (codes "r-0-1-2") ∷ (codes "o-0-1") ∷ []) ∷
    ((codes "2311") ∷ (codes "q") ∷ (codes "c") ∷ (codes "receive") ∷ (codes "ok") ∷ (codes "m-0-2") ∷ (codes "r-0-2-2") ∷ (codes "o-0-2") ∷ []) ∷
    ((codes "2411") ∷ (codes "q") ∷ (codes "c") ∷ (codes "fail") ∷ (codes "ok") ∷ (codes "m-0-1") ∷ (codes "r-0-1-2") ∷ [] ∷ []) ∷
    ((codes "2411") ∷ (codes "q") ∷ (codes "c") ∷ (codes "change") ∷ (codes "ok") ∷ (codes "m-0-1") ∷ (codes "r-0-1-2") ∷ (codes "5") ∷ []) ∷
    ((codes "2412") ∷ (codes "q") ∷ (codes "c") ∷ (codes "change") ∷ (codes "ok") ∷ (codes "m-0-2") ∷ (codes "r-0-2-2") ∷ (codes "5") ∷ []) ∷
    ((codes "2413") ∷ (codes "q") ∷ (codes "c") ∷ (codes "receive") ∷ (codes "wait") ∷ [] ∷ [] ∷ [] ∷ []) ∷
    ((codes "final") ∷ (codes "queue") ∷ (codes "message") ∷ (codes "origin") ∷ (codes "place") ∷ (codes "due") ∷ (codes "enqueued") ∷ (codes "receives") ∷ (codes "group") ∷ (codes "md5") ∷ []) ∷
    ((codes "final") ∷ (codes "q") ∷ (codes "m-0-1") ∷ (codes "o-0-1") ∷ (codes "inflight") ∷ (codes "7411") ∷ (codes "1") ∷ (codes "2") ∷ [] ∷ digest (codes "bad") ∷ []) ∷
    ((codes "final") ∷ (codes "q") ∷ (codes "m-0-2") ∷ (codes "o-0-2") ∷ (codes "inflight") ∷ (codes "7412") ∷ (codes "2") ∷ (codes "2") ∷ [] ∷ digest (codes "c") ∷ []) ∷
    ((codes "transfer") ∷ (codes "from") ∷ (codes "to") ∷ (codes "kind") ∷ (codes "due") ∷ (codes "number") ∷ (codes "message") ∷ (codes "origin") ∷ (codes "md5") ∷ []) ∷
    ((codes "task") ∷ (codes "name") ∷ (codes "status") ∷ (codes "moved") ∷ []) ∷
    ((codes "report") ∷ (codes "queue") ∷ (codes "sends") ∷ (codes "repeats") ∷ (codes "receives") ∷ (codes "empties") ∷ (codes "deletes") ∷ (codes "expiries") ∷ (codes "redrives") ∷ (codes "moves") ∷ (codes "arrivals") ∷ (codes "OverLimit") ∷ (codes "MessageNotInflight") ∷ (codes "ReceiptHandleIsInvalid") ∷ (codes "BadTimeout") ∷ (codes "MissingGroup") ∷ (codes "MissingDeduplication") ∷ (codes "BadDelay") ∷ (codes "TaskRunning") ∷ (codes "NoTask") ∷ (codes "depth_max") ∷ (codes "visible") ∷ (codes "in_flight") ∷ (codes "delayed") ∷ (codes "age_sum") ∷ (codes "age_max") ∷ (codes "age_p50") ∷ (codes "age_p95") ∷ (codes "age_p99") ∷ []) ∷
    ((codes "report") ∷ (codes "q") ∷ (codes "3") ∷ (codes "0") ∷ (codes "6") ∷ (codes "0") ∷ (codes "1") ∷ (codes "0") ∷ (codes "0") ∷ (codes "0") ∷ (codes "0") ∷ (codes "0") ∷ (codes "0") ∷ (codes "0") ∷ (codes "0") ∷ (codes "0") ∷ (codes "0") ∷ (codes "0") ∷ (codes "0") ∷ (codes "0") ∷ (codes "3") ∷ (codes "0") ∷ (codes "2") ∷ (codes "0") ∷ (codes "2310") ∷ (codes "2310") ∷ (codes "2310") ∷ (codes "2310") ∷ (codes "2310") ∷ []) ∷ [])
unfolding reading_on_literals running_on_literals columns_of
case_0_backoff_of_a_whole_batch = refl

-- version-3/backoff_of_zero.toml
case_0_backoff_of_zero : shown_upto 3 71 [] (codes "# A change to 0 brings the message back at once, after the row of the change: visible after the first receive, to the\n# dead-letter queue after the second, which is the last.\nversion = 3\nhorizon = 300\n[[queue]]\nname = \"q\"\ndead_letter = \"d\"\nmax_receives = 2\nlatency_min_ms = 20\nlatency_max_ms = 20\n[[queue]]\nname = \"d\"\n[[actor]]\nname = \"c\"\nkind = \"consumer\"\nqueue = \"q\"\nstart_ms = 10\nwait_s = 20\nservice_min_ms = 100\nservice_max_ms = 100\nfail_permille = 1000\nbackoff_s = [0]\n[[actor]]\nname = \"s\"\nkind = \"script\"\nqueue = \"q\"\ncalls = \"\"\"\nat,call,body,group,id,delay,receipt,max,wait,timeout,task\n0,send,a,,,,,,,,\n\"\"\"\n")
    ≡ ran (((codes "at") ∷ (codes "queue") ∷ (codes "agent") ∷ (codes "call") ∷ (codes "answer") ∷ (codes "message") ∷ (codes "receipt") ∷ (codes "detail") ∷ []) ∷
    ((codes "0") ∷ (codes "q") ∷ (codes "s") ∷ (codes "send") ∷ (codes "new") ∷ (codes "m-0-0") ∷ [] ∷ digest (codes "a") ∷ []) ∷
    ((codes "10") ∷ (codes "q") ∷ (codes "c") ∷ (codes "receive") ∷ (codes "ok") ∷ (codes "m-0-0") ∷ (codes "r-0-0-1") ∷ (codes "o-0-0") ∷ []) ∷
    ((codes "110") ∷ (codes "q") ∷ (codes "c") ∷ (codes "fail") ∷ (codes "ok") ∷ (codes "m-0-0") ∷ (codes "r-0-0-1") ∷ [] ∷ []) ∷
    ((codes "110") ∷ (codes "q") ∷ (codes "c") ∷ (codes "change") ∷ (codes "ok") ∷ (codes "m-0-0") ∷ (codes "r-0-0-1") ∷ (codes "0") ∷ []) ∷
    ((codes "110") ∷ (codes "q") ∷ (codes "q") ∷ (codes "release") ∷ (codes "visible") ∷ (codes "m-0-0") ∷ [] ∷ [] ∷ []) ∷
    ((codes "111") ∷ (codes "q") ∷ (codes "c") ∷ (codes "receive") ∷ (codes "ok") ∷ (codes "m-0-0") ∷ (codes "r-0-0-2") ∷ (codes "o-0-0") ∷ []) ∷
    ((codes "211") ∷ (codes "q") ∷ (codes "c") ∷ (codes "fail") ∷ (codes "ok") ∷ (codes "m-0-0") ∷ (codes "r-0-0-2") ∷ [] ∷ []) ∷
    ((codes "211") ∷ (codes "q") ∷ (codes "c") ∷ (codes "change") ∷ (codes "ok") ∷ (codes "m-0-0") ∷ (codes "r-0-0-2") ∷ (codes "0") ∷ []) ∷
    ((codes "211") ∷ (codes "q") ∷ (codes "q") ∷ (codes "redrive") ∷ (codes "out") ∷ (codes "m-0-0") ∷ [] ∷ (codes "d") ∷ []) ∷
    ((codes "212") ∷ (codes "q") ∷ (codes "c") ∷ (codes "receive") ∷ (codes "wait") ∷ [] ∷ [] ∷ [] ∷ []) ∷
    ((codes "231") ∷ (codes "d") ∷ (codes "q") ∷ (codes "arrive") ∷ (codes "new") ∷ (codes "m-1-0") ∷ [] ∷ (codes "o-0-0") ∷ []) ∷
    ((codes "final") ∷ (codes "queue") ∷ (codes "message") ∷ (codes "origin") ∷ (codes "place") ∷ (codes "due") ∷ (codes "enqueued") ∷ (codes "receives") ∷ (codes "group") ∷ (codes "md5") ∷ []) ∷
    ((codes "final") ∷ (codes "d") ∷ (codes "m-1-0") ∷ (codes "o-0-0") ∷ (codes "visible") ∷ [] ∷ (codes "0") ∷ (codes "0") ∷ [] ∷ digest (codes "a") ∷ []) ∷
    ((codes "transfer") ∷ (codes "from") ∷ (codes "to") ∷ (codes "kind") ∷ (codes "due") ∷ (codes "number") ∷ (codes "message") ∷ (codes "origin") ∷ (codes "md5") ∷ []) ∷
    ((codes "task") ∷ (codes "name") ∷ (codes "status") ∷ (codes "moved") ∷ []) ∷
    ((codes "report") ∷ (codes "queue") ∷ (codes "sends") ∷ (codes "repeats") ∷ (codes "receives") ∷ (codes "empties") ∷ (codes "deletes") ∷ (codes "expiries") ∷ (codes "redrives") ∷ (codes "moves") ∷ (codes "arrivals") ∷ (codes "OverLimit") ∷ (codes "MessageNotInflight") ∷ (codes "ReceiptHandleIsInvalid") ∷ (codes "BadTimeout") ∷ (codes "MissingGroup") ∷ (codes "MissingDeduplication") ∷ (codes "BadDelay") ∷ (codes "TaskRunning") ∷ (codes "NoTask") ∷ (codes "depth_max") ∷ (codes "visible") ∷ (codes "in_flight") ∷ (codes "delayed") ∷ (codes "age_sum") ∷ (codes "age_max") ∷ (codes "age_p50") ∷ (codes "age_p95") ∷ (codes "age_p99") ∷ []) ∷
    ((codes "report") ∷ (codes "q") ∷ (codes "1") ∷ (codes "0") ∷ (codes "2") ∷ (codes "0") ∷ (codes "0") ∷ (codes "0") ∷ (codes "1") ∷ (codes "0") ∷ (codes "0") ∷ (codes "0") ∷ (codes "0") ∷ (codes "0") ∷ (codes "0") ∷ (codes "0") ∷ (codes "0") ∷ (codes "0") ∷ (codes "0") ∷ (codes "0") ∷ (codes "1") ∷ (codes "0") ∷ (codes "0") ∷ (codes "0") ∷ (codes "0") ∷ [] ∷ [] ∷ [] ∷ [] ∷ []) ∷
    ((codes "report") ∷ (codes "d") ∷ (codes "0") ∷ (codes "0") ∷ (codes "0") ∷ (codes "0") ∷ (codes "0") ∷ (codes "0") ∷ (codes "0") ∷ (codes "0") ∷ (codes "1") ∷ (codes "0") ∷ (codes "0") ∷ (codes "0") ∷ (codes "0") ∷ (codes "0") ∷ (codes "0") ∷ (codes "0") ∷ (codes "0") ∷ (codes "0") ∷ (codes "1") ∷ (codes "1") ∷ (codes "0") ∷ (codes "0") ∷ (codes "0") ∷ [] ∷ [] ∷ [] ∷ [] ∷ []) ∷ [])
unfolding reading_on_literals running_on_literals columns_of
case_0_backoff_of_zero = refl

-- version-3/backoff_past_12_hours.toml
case_0_backoff_past_12_hours : shown_upto 3 65 [] (codes "# At 1000010 a timeout of 43200 s would end later than 12 hours after the receive at 10: refused. The message keeps the\n# end that it has, 10 + 43200000.\nversion = 3\nhorizon = 43200010\n[[queue]]\nname = \"q\"\nvisibility_s = 43200\n[[actor]]\nname = \"c\"\nkind = \"consumer\"\nqueue = \"q\"\nstart_ms = 10\nwait_s = 20\nstop_ms = 1000000\nservice_min_ms = 1000000\nservice_max_ms = 1000000\nfail_permille = 1000\nbackoff_s = [43200]\n[[actor]]\nname = \"s\"\nkind = \"script\"\nqueue = \"q\"\ncalls = \"\"\"\nat,call,body,group,id,delay,receipt,max,wait,timeout,task\n0,send,a,,,,,,,,\n\"\"\"\n")
    ≡ ran (((codes "at") ∷ (codes "queue") ∷ (codes "agent") ∷ (codes "call") ∷ (codes "answer") ∷ (codes "message") ∷ (codes "receipt") ∷ (codes "detail") ∷ []) ∷
    ((codes "0") ∷ (codes "q") ∷ (codes "s") ∷ (codes "send") ∷ (codes "new") ∷ (codes "m-0-0") ∷ [] ∷ digest (codes "a") ∷ []) ∷
    ((codes "10") ∷ (codes "q") ∷ (codes "c") ∷ (codes "receive") ∷ (codes "ok") ∷ (codes "m-0-0") ∷ (codes "r-0-0-1") ∷ (codes "o-0-0") ∷ []) ∷
    ((codes "1000010") ∷ (codes "q") ∷ (codes "c") ∷ (codes "fail") ∷ (codes "ok") ∷ (codes "m-0-0") ∷ (codes "r-0-0-1") ∷ [] ∷ []) ∷
    ((codes "1000010") ∷ (codes "q") ∷ (codes "c") ∷ (codes "change") ∷ (codes "BadTimeout") ∷ [] ∷ (codes "r-0-0-1") ∷ [] ∷ []) ∷
    ((codes "43200010") ∷ (codes "q") ∷ (codes "q") ∷ (codes "release") ∷ (codes "visible") ∷ (codes "m-0-0") ∷ [] ∷ [] ∷ []) ∷
    ((codes "final") ∷ (codes "queue") ∷ (codes "message") ∷ (codes "origin") ∷ (codes "place") ∷ (codes "due") ∷ (codes "enqueued") ∷ (codes "receives") ∷ (codes "group") ∷ (codes "md5") ∷ []) ∷
    ((codes "final") ∷ (codes "q") ∷ (codes "m-0-0") ∷ (codes "o-0-0") ∷ (codes "visible") ∷ [] ∷ (codes "0") ∷ (codes "1") ∷ [] ∷ digest (codes "a") ∷ []) ∷
    ((codes "transfer") ∷ (codes "from") ∷ (codes "to") ∷ (codes "kind") ∷ (codes "due") ∷ (codes "number") ∷ (codes "message") ∷ (codes "origin") ∷ (codes "md5") ∷ []) ∷
    ((codes "task") ∷ (codes "name") ∷ (codes "status") ∷ (codes "moved") ∷ []) ∷
    ((codes "report") ∷ (codes "queue") ∷ (codes "sends") ∷ (codes "repeats") ∷ (codes "receives") ∷ (codes "empties") ∷ (codes "deletes") ∷ (codes "expiries") ∷ (codes "redrives") ∷ (codes "moves") ∷ (codes "arrivals") ∷ (codes "OverLimit") ∷ (codes "MessageNotInflight") ∷ (codes "ReceiptHandleIsInvalid") ∷ (codes "BadTimeout") ∷ (codes "MissingGroup") ∷ (codes "MissingDeduplication") ∷ (codes "BadDelay") ∷ (codes "TaskRunning") ∷ (codes "NoTask") ∷ (codes "depth_max") ∷ (codes "visible") ∷ (codes "in_flight") ∷ (codes "delayed") ∷ (codes "age_sum") ∷ (codes "age_max") ∷ (codes "age_p50") ∷ (codes "age_p95") ∷ (codes "age_p99") ∷ []) ∷
    ((codes "report") ∷ (codes "q") ∷ (codes "1") ∷ (codes "0") ∷ (codes "1") ∷ (codes "0") ∷ (codes "0") ∷ (codes "0") ∷ (codes "0") ∷ (codes "0") ∷ (codes "0") ∷ (codes "0") ∷ (codes "0") ∷ (codes "0") ∷ (codes "1") ∷ (codes "0") ∷ (codes "0") ∷ (codes "0") ∷ (codes "0") ∷ (codes "0") ∷ (codes "1") ∷ (codes "1") ∷ (codes "0") ∷ (codes "0") ∷ (codes "0") ∷ [] ∷ [] ∷ [] ∷ [] ∷ []) ∷ [])
unfolding reading_on_literals running_on_literals columns_of
case_0_backoff_past_12_hours = refl

-- version-3/copies.toml
case_0_copies : shown_upto 3 73 [] (codes "# Agents: q is 0, w-1 is 1 as its table, s is 2, and w-2 is 3, behind all actors of the text. So at 10 w-1 receives\n# first, then s, then w-2. Words of agent 1: 839.344 (939 ms, until 949), 982.301 (chance), 739.102 (839 ms, from 950 to\n# 1789). The first word of agent 3 is 938.159: 100 + 938 = 1038 ms, until 1048.\nversion = 3\nhorizon = 2000\n[[queue]]\nname = \"q\"\n[[actor]]\nname = \"w\"\nkind = \"consumer\"\nqueue = \"q\"\nstart_ms = 10\nwait_s = 20\nservice_min_ms = 100\nservice_max_ms = 1099\ncopies = 2\n[[actor]]\nname = \"s\"\nkind = \"script\"\nqueue = \"q\"\ncalls = \"\"\"\nat,call,body,group,id,delay,receipt,max,wait,timeout,task\n0,send,a,,,,,,,,\n1,send,b,,,,,,,,\n2,send,c,,,,,,,,\n3,send,a,,,,,,,,\n10,receive,,,,,,,,,\n\"\"\"\n")
    ≡ ran (((codes "at") ∷ (codes "queue") ∷ (codes "agent") ∷ (codes "call") ∷ (codes "answer") ∷ (codes "message") ∷ (codes "receipt") ∷ (codes "detail") ∷ []) ∷
    ((codes "0") ∷ (codes "q") ∷ (codes "s") ∷ (codes "send") ∷ (codes "new") ∷ (codes "m-0-0") ∷ [] ∷ digest (codes "a") ∷ []) ∷
    ((codes "1") ∷ (codes "q") ∷ (codes "s") ∷ (codes "send") ∷ (codes "new") ∷ (codes "m-0-1") ∷ [] ∷ digest (codes "b") ∷ []) ∷
    ((codes "2") ∷ (codes "q") ∷ (codes "s") ∷ (codes "send") ∷ (codes "new") ∷ (codes "m-0-2") ∷ [] ∷ digest (codes "c") ∷ []) ∷
    ((codes "3") ∷ (codes "q") ∷ (codes "s") ∷ (codes "send") ∷ (codes "new") ∷ (codes "m-0-3") ∷ [] ∷ digest (codes "a") ∷ []) ∷
    ((codes "10") ∷ (codes "q") ∷ (codes "w-1") ∷ (codes "receive") ∷ (codes "ok") ∷ (codes "m-0-0") ∷ (codes "r-0-0-1") ∷ (codes "o-0-0") ∷ []) ∷
    ((codes "10") ∷ (codes "q") ∷ (codes "s") ∷ (codes "receive") ∷ (codes "ok") ∷ (codes "m-0-1") ∷ (codes "r-0-1-1") ∷ (codes "o-0-1") ∷ []) ∷
    ((codes "10") ∷ (codes "q") ∷ (codes "w-2") ∷ (codes "receive") ∷ (codes "ok") ∷ (codes "m-0-2") ∷ (codes "r-0-2-1") ∷ (codes "o-0-2") ∷ []) ∷
    ((codes "949") ∷ (codes "q") ∷ (codes "w-1") ∷ (codes "delete") ∷ (codes "deleted") ∷ (codes "m-0-0") ∷ (codes "r-0-0-1") ∷ (codes "949") ∷ []) ∷
    ((codes "950") ∷ (codes "q") ∷ (codes "w-1") ∷ (codes "receive") ∷ (codes "ok") ∷ (codes "m-0-3") ∷ (codes "r-0-3-1") ∷ (codes "o-0-3") ∷ []) ∷
    ((codes "1048") ∷ (codes "q") ∷ (codes "w-2") ∷ (codes "delete") ∷ (codes "deleted") ∷ (codes "m-0-2") ∷ (codes "r-0-2-1") ∷ (codes "1046") ∷ []) ∷
    ((codes "1049") ∷ (codes "q") ∷ (codes "w-2") ∷ (codes "receive") ∷ (codes "wait") ∷ [] ∷ [] ∷ [] ∷ []) ∷
    ((codes "1789") ∷ (codes "q") ∷ (codes "w-1") ∷ (codes "delete") ∷ (codes "deleted") ∷ (codes "m-0-3") ∷ (codes "r-0-3-1") ∷ (codes "1786") ∷ []) ∷
    ((codes "1790") ∷ (codes "q") ∷ (codes "w-1") ∷ (codes "receive") ∷ (codes "wait") ∷ [] ∷ [] ∷ [] ∷ []) ∷
    ((codes "final") ∷ (codes "queue") ∷ (codes "message") ∷ (codes "origin") ∷ (codes "place") ∷ (codes "due") ∷ (codes "enqueued") ∷ (codes "receives") ∷ (codes "group") ∷ (codes "md5") ∷ []) ∷
    ((codes "final") ∷ (codes "q") ∷ (codes "m-0-1") ∷ (codes "o-0-1") ∷ (codes "inflight") ∷ (codes "30010") ∷ (codes "1") ∷ (codes "1") ∷ [] ∷ digest (codes "b") ∷ []) ∷
    ((codes "transfer") ∷ (codes "from") ∷ (codes "to") ∷ (codes "kind") ∷ (codes "due") ∷ (codes "number") ∷ (codes "message") ∷ (codes "origin") ∷ (codes "md5") ∷ []) ∷
    ((codes "task") ∷ (codes "name") ∷ (codes "status") ∷ (codes "moved") ∷ []) ∷
    ((codes "report") ∷ (codes "queue") ∷ (codes "sends") ∷ (codes "repeats") ∷ (codes "receives") ∷ (codes "empties") ∷ (codes "deletes") ∷ (codes "expiries") ∷ (codes "redrives") ∷ (codes "moves") ∷ (codes "arrivals") ∷ (codes "OverLimit") ∷ (codes "MessageNotInflight") ∷ (codes "ReceiptHandleIsInvalid") ∷ (codes "BadTimeout") ∷ (codes "MissingGroup") ∷ (codes "MissingDeduplication") ∷ (codes "BadDelay") ∷ (codes "TaskRunning") ∷ (codes "NoTask") ∷ (codes "depth_max") ∷ (codes "visible") ∷ (codes "in_flight") ∷ (codes "delayed") ∷ (codes "age_sum") ∷ (codes "age_max") ∷ (codes "age_p50") ∷ (codes "age_p95") ∷ (codes "age_p99") ∷ []) ∷
    ((codes "report") ∷ (codes "q") ∷ (codes "4") ∷ (codes "0") ∷ (codes "4") ∷ (codes "0") ∷ (codes "3") ∷ (codes "0") ∷ (codes "0") ∷ (codes "0") ∷ (codes "0") ∷ (codes "0") ∷ (codes "0") ∷ (codes "0") ∷ (codes "0") ∷ (codes "0") ∷ (codes "0") ∷ (codes "0") ∷ (codes "0") ∷ (codes "0") ∷ (codes "4") ∷ (codes "0") ∷ (codes "1") ∷ (codes "0") ∷ (codes "3781") ∷ (codes "1786") ∷ (codes "1046") ∷ (codes "1786") ∷ (codes "1786") ∷ []) ∷ [])
unfolding reading_on_literals running_on_literals columns_of
case_0_copies = refl

-- version-3/copies_of_a_producer.toml
case_0_copies_of_a_producer : shown_upto 3 67 [] (codes "# Agents: q.fifo is 0, p-1 is 1 as its table, s is 2, and p-2 is 3, behind all actors of the text. The first word of agent 1\n# is 839.344, and its gap 100 + 839 = 939. That of agent 3 is 938.159: 100 + 938 = 1038. The deduplication ids are 1-0 and\n# 1-1 of p-1, 3-0 and 3-1 of p-2. So all four messages are new, and the script meets two of the ids.\nversion = 3\nhorizon = 1200\n[[queue]]\nname = \"q.fifo\"\n[[actor]]\nname = \"p\"\nkind = \"producer\"\nqueue = \"q.fifo\"\ncount = 2\ngap_min_ms = 100\ngap_max_ms = 1099\nbody = \"x\"\ngroups = 2\ncopies = 2\n[[actor]]\nname = \"s\"\nkind = \"script\"\nqueue = \"q.fifo\"\ncalls = \"\"\"\nat,call,body,group,id,delay,receipt,max,wait,timeout,task\n500,send,a,g0,1-0,,,,,,\n501,send,a,g0,2-0,,,,,,\n502,send,a,g0,3-0,,,,,,\n\"\"\"\n")
    ≡ ran (((codes "at") ∷ (codes "queue") ∷ (codes "agent") ∷ (codes "call") ∷ (codes "answer") ∷ (codes "message") ∷ (codes "receipt") ∷ (codes "detail") ∷ []) ∷
    ((codes "0") ∷ (codes "q.fifo") ∷ (codes "p-1") ∷ (codes "send") ∷ (codes "new") ∷ (codes "m-0-0") ∷ [] ∷ digest (codes "x") ∷ []) ∷
    ((codes "0") ∷ (codes "q.fifo") ∷ (codes "p-2") ∷ (codes "send") ∷ (codes "new") ∷ (codes "m-0-1") ∷ [] ∷ digest (codes "x") ∷ []) ∷
    ((codes "500") ∷ (codes "q.fifo") ∷ (codes "s") ∷ (codes "send") ∷ (codes "repeat") ∷ (codes "m-0-0") ∷ [] ∷ digest (codes "a") ∷ []) ∷
    ((codes "501") ∷ (codes "q.fifo") ∷ (codes "s") ∷ (codes "send") ∷ (codes "new") ∷ (codes "m-0-2") ∷ [] ∷ digest (codes "a") ∷ []) ∷
    ((codes "502") ∷ (codes "q.fifo") ∷ (codes "s") ∷ (codes "send") ∷ (codes "repeat") ∷ (codes "m-0-1") ∷ [] ∷ digest (codes "a") ∷ []) ∷
    ((codes "939") ∷ (codes "q.fifo") ∷ (codes "p-1") ∷ (codes "send") ∷ (codes "new") ∷ (codes "m-0-3") ∷ [] ∷ digest (codes "x") ∷ []) ∷
    ((codes "1038") ∷ (codes "q.fifo") ∷ (codes "p-2") ∷ (codes "send") ∷ (codes "new") ∷ (codes "m-0-4") ∷ [] ∷ digest (codes "x") ∷ []) ∷
    ((codes "final") ∷ (codes "queue") ∷ (codes "message") ∷ (codes "origin") ∷ (codes "place") ∷ (codes "due") ∷ (codes "enqueued") ∷ (codes "receives") ∷ (codes "group") ∷ (codes "md5") ∷ []) ∷
    ((codes "final") ∷ (codes "q.fifo") ∷ (codes "m-0-0") ∷ (codes "o-0-0") ∷ (codes "visible") ∷ [] ∷ (codes "0") ∷ (codes "0") ∷ (codes "g0") ∷ digest (codes "x") ∷ []) ∷
    ((codes "final") ∷ (codes "q.fifo") ∷ (codes "m-0-1") ∷ (codes "o-0-1") ∷ (codes "visible") ∷ [] ∷ (codes "0") ∷ (codes "0") ∷ (codes "g0") ∷ digest (codes "x") ∷ []) ∷
    ((codes "final") ∷ (codes "q.fifo") ∷ (codes "m-0-2") ∷ (codes "o-0-2") ∷ (codes "visible") ∷ [] ∷ (codes "501") ∷ (codes "0") ∷ (codes "g0") ∷ digest (codes "a") ∷ []) ∷
    ((codes "final") ∷ (codes "q.fifo") ∷ (codes "m-0-3") ∷ (codes "o-0-3") ∷ (codes "visible") ∷ [] ∷ (codes "939") ∷ (codes "0") ∷ (codes "g1") ∷ digest (codes "x") ∷ []) ∷
    ((codes "final") ∷ (codes "q.fifo") ∷ (codes "m-0-4") ∷ (codes "o-0-4") ∷ (codes "visible") ∷ [] ∷ (codes "1038") ∷ (codes "0") ∷ (codes "g1") ∷ digest (codes "x") ∷ []) ∷
    ((codes "transfer") ∷ (codes "from") ∷ (codes "to") ∷ (codes "kind") ∷ (codes "due") ∷ (codes "number") ∷ (codes "message") ∷ (codes "origin") ∷ (codes "md5") ∷ []) ∷
    ((codes "task") ∷ (codes "name") ∷ (codes "status") ∷ (codes "moved") ∷ []) ∷
    ((codes "report") ∷ (codes "queue") ∷ (codes "sends") ∷ (codes "repeats") ∷ (codes "receives") ∷ (codes "empties") ∷ (codes "deletes") ∷ (codes "expiries") ∷ (codes "redrives") ∷ (codes "moves") ∷ (codes "arrivals") ∷ (codes "OverLimit") ∷ (codes "MessageNotInflight") ∷ (codes "ReceiptHandleIsInvalid") ∷ (codes "BadTimeout") ∷ (codes "MissingGroup") ∷ (codes "MissingDeduplication") ∷ (codes "BadDelay") ∷ (codes "TaskRunning") ∷ (codes "NoTask") ∷ (codes "depth_max") ∷ (codes "visible") ∷ (codes "in_flight") ∷ (codes "delayed") ∷ (codes "age_sum") ∷ (codes "age_max") ∷ (codes "age_p50") ∷ (codes "age_p95") ∷ (codes "age_p99") ∷ []) ∷
    ((codes "report") ∷ (codes "q.fifo") ∷ (codes "5") ∷ (codes "2") ∷ (codes "0") ∷ (codes "0") ∷ (codes "0") ∷ (codes "0") ∷ (codes "0") ∷ (codes "0") ∷ (codes "0") ∷ (codes "0") ∷ (codes "0") ∷ (codes "0") ∷ (codes "0") ∷ (codes "0") ∷ (codes "0") ∷ (codes "0") ∷ (codes "0") ∷ (codes "0") ∷ (codes "5") ∷ (codes "5") ∷ (codes "0") ∷ (codes "0") ∷ (codes "0") ∷ [] ∷ [] ∷ [] ∷ [] ∷ []) ∷ [])
unfolding reading_on_literals running_on_literals columns_of
case_0_copies_of_a_producer = refl

-- version-3/copies_of_a_producer_and_a_consumer.toml
case_0_copies_of_a_producer_and_a_consumer : shown_upto 3 74 [] (codes "# Agents: q is 0, p-1 is 1 and w-1 is 2, as their tables. Behind all actors of the text p-2 is 3, and w-2 is 4. So at 0 each\n# copy of the consumer gets what the copy of the producer before it has sent. Each copy of the producer sends two messages.\nversion = 3\nhorizon = 400\n[[queue]]\nname = \"q\"\n[[actor]]\nname = \"p\"\nkind = \"producer\"\nqueue = \"q\"\ncount = 2\ngap_min_ms = 50\ngap_max_ms = 50\nbody = \"{n}\"\ncopies = 2\n[[actor]]\nname = \"w\"\nkind = \"consumer\"\nqueue = \"q\"\nservice_min_ms = 100\nservice_max_ms = 100\ncopies = 2\n")
    ≡ ran (((codes "at") ∷ (codes "queue") ∷ (codes "agent") ∷ (codes "call") ∷ (codes "answer") ∷ (codes "message") ∷ (codes "receipt") ∷ (codes "detail") ∷ []) ∷
    ((codes "0") ∷ (codes "q") ∷ (codes "p-1") ∷ (codes "send") ∷ (codes "new") ∷ (codes "m-0-0") ∷ [] ∷ digest (codes "0") ∷ []) ∷
    ((codes "0") ∷ (codes "q") ∷ (codes "w-1") ∷ (codes "receive") ∷ (codes "ok") ∷ (codes "m-0-0") ∷ (codes "r-0-0-1") ∷ (codes "o-0-0") ∷ []) ∷
    ((codes "0") ∷ (codes "q") ∷ (codes "p-2") ∷ (codes "send") ∷ (codes "new") ∷ (codes "m-0-1") ∷ [] ∷ digest (codes "0") ∷ []) ∷
    ((codes "0") ∷ (codes "q") ∷ (codes "w-2") ∷ (codes "receive") ∷ (codes "ok") ∷ (codes "m-0-1") ∷ (codes "r-0-1-1") ∷ (codes "o-0-1") ∷ []) ∷
    ((codes "50") ∷ (codes "q") ∷ (codes "p-1") ∷ (codes "send") ∷ (codes "new") ∷ (codes "m-0-2") ∷ [] ∷ digest (codes "1") ∷ []) ∷
    ((codes "50") ∷ (codes "q") ∷ (codes "p-2") ∷ (codes "send") ∷ (codes "new") ∷ (codes "m-0-3") ∷ [] ∷ digest (codes "1") ∷ []) ∷
    ((codes "100") ∷ (codes "q") ∷ (codes "w-1") ∷ (codes "delete") ∷ (codes "deleted") ∷ (codes "m-0-0") ∷ (codes "r-0-0-1") ∷ (codes "100") ∷ []) ∷
    ((codes "100") ∷ (codes "q") ∷ (codes "w-2") ∷ (codes "delete") ∷ (codes "deleted") ∷ (codes "m-0-1") ∷ (codes "r-0-1-1") ∷ (codes "100") ∷ []) ∷
    ((codes "101") ∷ (codes "q") ∷ (codes "w-1") ∷ (codes "receive") ∷ (codes "ok") ∷ (codes "m-0-2") ∷ (codes "r-0-2-1") ∷ (codes "o-0-2") ∷ []) ∷
    ((codes "101") ∷ (codes "q") ∷ (codes "w-2") ∷ (codes "receive") ∷ (codes "ok") ∷ (codes "m-0-3") ∷ (codes "r-0-3-1") ∷ (codes "o-0-3") ∷ []) ∷
    ((codes "201") ∷ (codes "q") ∷ (codes "w-1") ∷ (codes "delete") ∷ (codes "deleted") ∷ (codes "m-0-2") ∷ (codes "r-0-2-1") ∷ (codes "151") ∷ []) ∷
    ((codes "201") ∷ (codes "q") ∷ (codes "w-2") ∷ (codes "delete") ∷ (codes "deleted") ∷ (codes "m-0-3") ∷ (codes "r-0-3-1") ∷ (codes "151") ∷ []) ∷
    ((codes "202") ∷ (codes "q") ∷ (codes "w-1") ∷ (codes "receive") ∷ (codes "empty") ∷ [] ∷ [] ∷ [] ∷ []) ∷
    ((codes "202") ∷ (codes "q") ∷ (codes "w-2") ∷ (codes "receive") ∷ (codes "empty") ∷ [] ∷ [] ∷ [] ∷ []) ∷
    ((codes "final") ∷ (codes "queue") ∷ (codes "message") ∷ (codes "origin") ∷ (codes "place") ∷ (codes "due") ∷ (codes "enqueued") ∷ (codes "receives") ∷ (codes "group") ∷ (codes "md5") ∷ []) ∷
    ((codes "transfer") ∷ (codes "from") ∷ (codes "to") ∷ (codes "kind") ∷ (codes "due") ∷ (codes "number") ∷ (codes "message") ∷ (codes "origin") ∷ (codes "md5") ∷ []) ∷
    ((codes "task") ∷ (codes "name") ∷ (codes "status") ∷ (codes "moved") ∷ []) ∷
    ((codes "report") ∷ (codes "queue") ∷ (codes "sends") ∷ (codes "repeats") ∷ (codes "receives") ∷ (codes "empties") ∷ (codes "deletes") ∷ (codes "expiries") ∷ (codes "redrives") ∷ (codes "moves") ∷ (codes "arrivals") ∷ (codes "OverLimit") ∷ (codes "MessageNotInflight") ∷ (codes "ReceiptHandleIsInvalid") ∷ (codes "BadTimeout") ∷ (codes "MissingGroup") ∷ (codes "MissingDeduplication") ∷ (codes "BadDelay") ∷ (codes "TaskRunning") ∷ (codes "NoTask") ∷ (codes "depth_max") ∷ (codes "visible") ∷ (codes "in_flight") ∷ (codes "delayed") ∷ (codes "age_sum") ∷ (codes "age_max") ∷ (codes "age_p50") ∷ (codes "age_p95") ∷ (codes "age_p99") ∷ []) ∷
    ((codes "report") ∷ (codes "q") ∷ (codes "4") ∷ (codes "0") ∷ (codes "4") ∷ (codes "2") ∷ (codes "4") ∷ (codes "0") ∷ (codes "0") ∷ (codes "0") ∷ (codes "0") ∷ (codes "0") ∷ (codes "0") ∷ (codes "0") ∷ (codes "0") ∷ (codes "0") ∷ (codes "0") ∷ (codes "0") ∷ (codes "0") ∷ (codes "0") ∷ (codes "4") ∷ (codes "0") ∷ (codes "0") ∷ (codes "0") ∷ (codes "502") ∷ (codes "151") ∷ (codes "100") ∷ (codes "151") ∷ (codes "151") ∷ []) ∷ [])
unfolding reading_on_literals running_on_literals columns_of
case_0_copies_of_a_producer_and_a_consumer = refl

-- version-3/copies_of_a_producer_with_a_timer.toml
case_0_copies_of_a_producer_with_a_timer : shown_upto 3 66 [] (codes "# The messages of both copies are delayed for a second, each from its own send on. Both copies stop at 150, before they have\n# sent five messages.\nversion = 3\nhorizon = 1050\n[[queue]]\nname = \"q\"\n[[actor]]\nname = \"p\"\nkind = \"producer\"\nqueue = \"q\"\ncount = 5\ngap_min_ms = 100\ngap_max_ms = 100\nbody = \"{n}\"\ndelay_s = 1\nstop_ms = 150\ncopies = 2\n")
    ≡ ran (((codes "at") ∷ (codes "queue") ∷ (codes "agent") ∷ (codes "call") ∷ (codes "answer") ∷ (codes "message") ∷ (codes "receipt") ∷ (codes "detail") ∷ []) ∷
    ((codes "0") ∷ (codes "q") ∷ (codes "p-1") ∷ (codes "send") ∷ (codes "new") ∷ (codes "m-0-0") ∷ [] ∷ digest (codes "0") ∷ []) ∷
    ((codes "0") ∷ (codes "q") ∷ (codes "p-2") ∷ (codes "send") ∷ (codes "new") ∷ (codes "m-0-1") ∷ [] ∷ digest (codes "0") ∷ []) ∷
    ((codes "100") ∷ (codes "q") ∷ (codes "p-1") ∷ (codes "send") ∷ (codes "new") ∷ (codes "m-0-2") ∷ [] ∷ digest (codes "1") ∷ []) ∷
    ((codes "100") ∷ (codes "q") ∷ (codes "p-2") ∷ (codes "send") ∷ (codes "new") ∷ (codes "m-0-3") ∷ [] ∷ digest (codes "1") ∷ []) ∷
    ((codes "1000") ∷ (codes "q") ∷ (codes "q") ∷ (codes "release") ∷ (codes "visible") ∷ (codes "m-0-0") ∷ [] ∷ [] ∷ []) ∷
    ((codes "1000") ∷ (codes "q") ∷ (codes "q") ∷ (codes "release") ∷ (codes "visible") ∷ (codes "m-0-1") ∷ [] ∷ [] ∷ []) ∷
    ((codes "final") ∷ (codes "queue") ∷ (codes "message") ∷ (codes "origin") ∷ (codes "place") ∷ (codes "due") ∷ (codes "enqueued") ∷ (codes "receives") ∷ (codes "group") ∷ (codes "md5") ∷ []) ∷
    ((codes "final") ∷ (codes "q") ∷ (codes "m-0-0") ∷ (codes "o-0-0") ∷ (codes "visible") ∷ [] ∷ (codes "0") ∷ (codes "0") ∷ [] ∷ digest (codes "0") ∷ []) ∷
    ((codes "final") ∷ (codes "q") ∷ (codes "m-0-1") ∷ (codes "o-0-1") ∷ (codes "visible") ∷ [] ∷ (codes "0") ∷ (codes "0") ∷ [] ∷ digest (codes "0") ∷ []) ∷
    ((codes "final") ∷ (codes "q") ∷ (codes "m-0-2") ∷ (codes "o-0-2") ∷ (codes "delayed") ∷ (codes "1100") ∷ (codes "100") ∷ (codes "0") ∷ [] ∷ digest (codes "1") ∷ []) ∷
    ((codes "final") ∷ (codes "q") ∷ (codes "m-0-3") ∷ (codes "o-0-3") ∷ (codes "delayed") ∷ (codes "1100") ∷ (codes "100") ∷ (codes "0") ∷ [] ∷ digest (codes "1") ∷ []) ∷
    ((codes "transfer") ∷ (codes "from") ∷ (codes "to") ∷ (codes "kind") ∷ (codes "due") ∷ (codes "number") ∷ (codes "message") ∷ (codes "origin") ∷ (codes "md5") ∷ []) ∷
    ((codes "task") ∷ (codes "name") ∷ (codes "status") ∷ (codes "moved") ∷ []) ∷
    ((codes "report") ∷ (codes "queue") ∷ (codes "sends") ∷ (codes "repeats") ∷ (codes "receives") ∷ (codes "empties") ∷ (codes "deletes") ∷ (codes "expiries") ∷ (codes "redrives") ∷ (codes "moves") ∷ (codes "arrivals") ∷ (codes "OverLimit") ∷ (codes "MessageNotInflight") ∷ (codes "ReceiptHandleIsInvalid") ∷ (codes "BadTimeout") ∷ (codes "MissingGroup") ∷ (codes "MissingDeduplication") ∷ (codes "BadDelay") ∷ (codes "TaskRunning") ∷ (codes "NoTask") ∷ (codes "depth_max") ∷ (codes "visible") ∷ (codes "in_flight") ∷ (codes "delayed") ∷ (codes "age_sum") ∷ (codes "age_max") ∷ (codes "age_p50") ∷ (codes "age_p95") ∷ (codes "age_p99") ∷ []) ∷
    ((codes "report") ∷ (codes "q") ∷ (codes "4") ∷ (codes "0") ∷ (codes "0") ∷ (codes "0") ∷ (codes "0") ∷ (codes "0") ∷ (codes "0") ∷ (codes "0") ∷ (codes "0") ∷ (codes "0") ∷ (codes "0") ∷ (codes "0") ∷ (codes "0") ∷ (codes "0") ∷ (codes "0") ∷ (codes "0") ∷ (codes "0") ∷ (codes "0") ∷ (codes "4") ∷ (codes "2") ∷ (codes "0") ∷ (codes "2") ∷ (codes "0") ∷ [] ∷ [] ∷ [] ∷ [] ∷ []) ∷ [])
unfolding reading_on_literals running_on_literals columns_of
case_0_copies_of_a_producer_with_a_timer = refl

-- version-3/copies_of_two_tables.toml
case_0_copies_of_two_tables : shown_upto 3 65 [] (codes "# Agents: a-1 is 1, b-1 is 2, then a-2 and a-3 are 3 and 4, and b-2 is 5. All ask at 0, in this order.\nversion = 3\nhorizon = 500\n[[queue]]\nname = \"q\"\n[[actor]]\nname = \"a\"\nkind = \"consumer\"\nqueue = \"q\"\nservice_min_ms = 1\nservice_max_ms = 1\ncopies = 3\n[[actor]]\nname = \"b\"\nkind = \"consumer\"\nqueue = \"q\"\nservice_min_ms = 1\nservice_max_ms = 1\ncopies = 2\n")
    ≡ ran (((codes "at") ∷ (codes "queue") ∷ (codes "agent") ∷ (codes "call") ∷ (codes "answer") ∷ (codes "message") ∷ (codes "receipt") ∷ (codes "detail") ∷ []) ∷
    ((codes "0") ∷ (codes "q") ∷ (codes "a-1") ∷ (codes "receive") ∷ (codes "empty") ∷ [] ∷ [] ∷ [] ∷ []) ∷
    ((codes "0") ∷ (codes "q") ∷ (codes "b-1") ∷ (codes "receive") ∷ (codes "empty") ∷ [] ∷ [] ∷ [] ∷ []) ∷
    ((codes "0") ∷ (codes "q") ∷ (codes "a-2") ∷ (codes "receive") ∷ (codes "empty") ∷ [] ∷ [] ∷ [] ∷ []) ∷
    ((codes "0") ∷ (codes "q") ∷ (codes "a-3") ∷ (codes "receive") ∷ (codes "empty") ∷ [] ∷ [] ∷ [] ∷ []) ∷
    ((codes "0") ∷ (codes "q") ∷ (codes "b-2") ∷ (codes "receive") ∷ (codes "empty") ∷ [] ∷ [] ∷ [] ∷ []) ∷
    ((codes "final") ∷ (codes "queue") ∷ (codes "message") ∷ (codes "origin") ∷ (codes "place") ∷ (codes "due") ∷ (codes "enqueued") ∷ (codes "receives") ∷ (codes "group") ∷ (codes "md5") ∷ []) ∷
    ((codes "transfer") ∷ (codes "from") ∷ (codes "to") ∷ (codes "kind") ∷ (codes "due") ∷ (codes "number") ∷ (codes "message") ∷ (codes "origin") ∷ (codes "md5") ∷ []) ∷
    ((codes "task") ∷ (codes "name") ∷ (codes "status") ∷ (codes "moved") ∷ []) ∷
    ((codes "report") ∷ (codes "queue") ∷ (codes "sends") ∷ (codes "repeats") ∷ (codes "receives") ∷ (codes "empties") ∷ (codes "deletes") ∷ (codes "expiries") ∷ (codes "redrives") ∷ (codes "moves") ∷ (codes "arrivals") ∷ (codes "OverLimit") ∷ (codes "MessageNotInflight") ∷ (codes "ReceiptHandleIsInvalid") ∷ (codes "BadTimeout") ∷ (codes "MissingGroup") ∷ (codes "MissingDeduplication") ∷ (codes "BadDelay") ∷ (codes "TaskRunning") ∷ (codes "NoTask") ∷ (codes "depth_max") ∷ (codes "visible") ∷ (codes "in_flight") ∷ (codes "delayed") ∷ (codes "age_sum") ∷ (codes "age_max") ∷ (codes "age_p50") ∷ (codes "age_p95") ∷ (codes "age_p99") ∷ []) ∷
    ((codes "report") ∷ (codes "q") ∷ (codes "0") ∷ (codes "0") ∷ (codes "0") ∷ (codes "5") ∷ (codes "0") ∷ (codes "0") ∷ (codes "0") ∷ (codes "0") ∷ (codes "0") ∷ (codes "0") ∷ (codes "0") ∷ (codes "0") ∷ (codes "0") ∷ (codes "0") ∷ (codes "0") ∷ (codes "0") ∷ (codes "0") ∷ (codes "0") ∷ (codes "0") ∷ (codes "0") ∷ (codes "0") ∷ (codes "0") ∷ (codes "0") ∷ [] ∷ [] ∷ [] ∷ [] ∷ []) ∷ [])
unfolding reading_on_literals running_on_literals columns_of
case_0_copies_of_two_tables = refl

-- version-3/copies_take_time_to_start.toml
case_0_copies_take_time_to_start : shown_upto 3 106 [] (codes "# w-1 is wanted from the start, and asks at once. w-2 is wanted at 1,000 and would ask at 3,500, but by then it is no\n# longer wanted. It is wanted again at 5,000, and asks at 7,500. The scaler counts it all the while.\nversion = 3\nhorizon = 8500\n[[queue]]\nname = \"q\"\n[[actor]]\nname = \"s\"\nkind = \"script\"\nqueue = \"q\"\ncalls = \"\"\"\nat,call,body,group,id,delay,receipt,max,wait,timeout,task\n0,send,a,,,,,,,,\n900,send,b,,,,,,,,\n901,send,c,,,,,,,,\n3701,send,d,,,,,,,,\n3702,send,e,,,,,,,,\n4900,send,f,,,,,,,,\n4901,send,g,,,,,,,,\n5800,send,h,,,,,,,,\n5801,send,i,,,,,,,,\n6950,send,j,,,,,,,,\n6951,send,k,,,,,,,,\n\"\"\"\n[[actor]]\nname = \"x\"\nkind = \"scaler\"\nqueue = \"q\"\nevery_s = 1\nvisible_per_copy = 1\ncopies_max = 2\n[[actor]]\nname = \"w\"\nkind = \"consumer\"\nqueue = \"q\"\nidle_ms = 700\nscaler = \"x\"\nscaler_start_ms = 2500\ncopies = 2\nservice_min_ms = 300\nservice_max_ms = 300\n")
    ≡ ran (((codes "at") ∷ (codes "queue") ∷ (codes "agent") ∷ (codes "call") ∷ (codes "answer") ∷ (codes "message") ∷ (codes "receipt") ∷ (codes "detail") ∷ []) ∷
    ((codes "0") ∷ (codes "q") ∷ (codes "s") ∷ (codes "send") ∷ (codes "new") ∷ (codes "m-0-0") ∷ [] ∷ digest (codes "a") ∷ []) ∷
    ((codes "0") ∷ (codes "q") ∷ (codes "w-1") ∷ (codes "receive") ∷ (codes "ok") ∷ (codes "m-0-0") ∷ (codes "r-0-0-1") ∷ (codes "o-0-0") ∷ []) ∷
    ((codes "300") ∷ (codes "q") ∷ (codes "w-1") ∷ (codes "delete") ∷ (codes "deleted") ∷ (codes "m-0-0") ∷ (codes "r-0-0-1") ∷ (codes "300") ∷ []) ∷
    ((codes "301") ∷ (codes "q") ∷ (codes "w-1") ∷ (codes "receive") ∷ (codes "empty") ∷ [] ∷ [] ∷ [] ∷ []) ∷
    ((codes "900") ∷ (codes "q") ∷ (codes "s") ∷ (codes "send") ∷ (codes "new") ∷ (codes "m-0-1") ∷ [] ∷ digest (codes "b") ∷ []) ∷
    ((codes "901") ∷ (codes "q") ∷ (codes "s") ∷ (codes "send") ∷ (codes "new") ∷ (codes "m-0-2") ∷ [] ∷ digest (codes "c") ∷ []) ∷
    ((codes "1000") ∷ (codes "q") ∷ (codes "x") ∷ (codes "scale") ∷ (codes "ok") ∷ [] ∷ [] ∷ (codes "1/2") ∷ []) ∷
    ((codes "1001") ∷ (codes "q") ∷ (codes "w-1") ∷ (codes "receive") ∷ (codes "ok") ∷ (codes "m-0-1") ∷ (codes "r-0-1-1") ∷ (codes "o-0-1") ∷ []) ∷
    ((codes "1301") ∷ (codes "q") ∷ (codes "w-1") ∷ (codes "delete") ∷ (codes "deleted") ∷ (codes "m-0-1") ∷ (codes "r-0-1-1") ∷ (codes "401") ∷ []) ∷
    ((codes "1302") ∷ (codes "q") ∷ (codes "w-1") ∷ (codes "receive") ∷ (codes "ok") ∷ (codes "m-0-2") ∷ (codes "r-0-2-1") ∷ (codes "o-0-2") ∷ []) ∷
    ((codes "1602") ∷ (codes "q") ∷ (codes "w-1") ∷ (codes "delete") ∷ (codes "deleted") ∷ (codes "m-0-2") ∷ (codes "r-0-2-1") ∷ (codes "701") ∷ []) ∷
    ((codes "1603") ∷ (codes "q") ∷ (codes "w-1") ∷ (codes "receive") ∷ (codes "empty") ∷ [] ∷ [] ∷ [] ∷ []) ∷
    ((codes "2000") ∷ (codes "q") ∷ (codes "x") ∷ (codes "scale") ∷ (codes "ok") ∷ [] ∷ [] ∷ (codes "2/1") ∷ []) ∷
    ((codes "2303") ∷ (codes "q") ∷ (codes "w-1") ∷ (codes "receive") ∷ (codes "empty") ∷ [] ∷ [] ∷ [] ∷ []) ∷
    ((codes "3003") ∷ (codes "q") ∷ (codes "w-1") ∷ (codes "receive") ∷ (codes "empty") ∷ [] ∷ [] ∷ [] ∷ []) ∷
    ((codes "3701") ∷ (codes "q") ∷ (codes "s") ∷ (codes "send") ∷ (codes "new") ∷ (codes "m-0-3") ∷ [] ∷ digest (codes "d") ∷ []) ∷
    ((codes "3702") ∷ (codes "q") ∷ (codes "s") ∷ (codes "send") ∷ (codes "new") ∷ (codes "m-0-4") ∷ [] ∷ digest (codes "e") ∷ []) ∷
    ((codes "3703") ∷ (codes "q") ∷ (codes "w-1") ∷ (codes "receive") ∷ (codes "ok") ∷ (codes "m-0-3") ∷ (codes "r-0-3-1") ∷ (codes "o-0-3") ∷ []) ∷
    ((codes "4003") ∷ (codes "q") ∷ (codes "w-1") ∷ (codes "delete") ∷ (codes "deleted") ∷ (codes "m-0-3") ∷ (codes "r-0-3-1") ∷ (codes "302") ∷ []) ∷
    ((codes "4004") ∷ (codes "q") ∷ (codes "w-1") ∷ (codes "receive") ∷ (codes "ok") ∷ (codes "m-0-4") ∷ (codes "r-0-4-1") ∷ (codes "o-0-4") ∷ []) ∷
    ((codes "4304") ∷ (codes "q") ∷ (codes "w-1") ∷ (codes "delete") ∷ (codes "deleted") ∷ (codes "m-0-4") ∷ (codes "r-0-4-1") ∷ (codes "602") ∷ []) ∷
    ((codes "4305") ∷ (codes "q") ∷ (codes "w-1") ∷ (codes "receive") ∷ (codes "empty") ∷ [] ∷ [] ∷ [] ∷ []) ∷
    ((codes "4900") ∷ (codes "q") ∷ (codes "s") ∷ (codes "send") ∷ (codes "new") ∷ (codes "m-0-5") ∷ [] ∷ digest (codes "f") ∷ []) ∷
    ((codes "4901") ∷ (codes "q") ∷ (codes "s") ∷ (codes "send") ∷ (codes "new") ∷ (codes "m-0-6") ∷ [] ∷ digest (codes "g") ∷ []) ∷
    ((codes "5000") ∷ (codes "q") ∷ (codes "x") ∷ (codes "scale") ∷ (codes "ok") ∷ [] ∷ [] ∷ (codes "1/2") ∷ []) ∷
    ((codes "5005") ∷ (codes "q") ∷ (codes "w-1") ∷ (codes "receive") ∷ (codes "ok") ∷ (codes "m-0-5") ∷ (codes "r-0-5-1") ∷ (codes "o-0-5") ∷ []) ∷
    ((codes "5305") ∷ (codes "q") ∷ (codes "w-1") ∷ (codes "delete") ∷ (codes "deleted") ∷ (codes "m-0-5") ∷ (codes "r-0-5-1") ∷ (codes "405") ∷ []) ∷
    ((codes "5306") ∷ (codes "q") ∷ (codes "w-1") ∷ (codes "receive") ∷ (codes "ok") ∷ (codes "m-0-6") ∷ (codes "r-0-6-1") ∷ (codes "o-0-6") ∷ []) ∷
    ((codes "5606") ∷ (codes "q") ∷ (codes "w-1") ∷ (codes "delete") ∷ (codes "deleted") ∷ (codes "m-0-6") ∷ (codes "r-0-6-1") ∷ (codes "705") ∷ []) ∷
    ((codes "5607") ∷ (codes "q") ∷ (codes "w-1") ∷ (codes "receive") ∷ (codes "empty") ∷ [] ∷ [] ∷ [] ∷ []) ∷
    ((codes "5800") ∷ (codes "q") ∷ (codes "s") ∷ (codes "send") ∷ (codes "new") ∷ (codes "m-0-7") ∷ [] ∷ digest (codes "h") ∷ []) ∷
    ((codes "5801") ∷ (codes "q") ∷ (codes "s") ∷ (codes "send") ∷ (codes "new") ∷ (codes "m-0-8") ∷ [] ∷ digest (codes "i") ∷ []) ∷
    ((codes "6307") ∷ (codes "q") ∷ (codes "w-1") ∷ (codes "receive") ∷ (codes "ok") ∷ (codes "m-0-7") ∷ (codes "r-0-7-1") ∷ (codes "o-0-7") ∷ []) ∷
    ((codes "6607") ∷ (codes "q") ∷ (codes "w-1") ∷ (codes "delete") ∷ (codes "deleted") ∷ (codes "m-0-7") ∷ (codes "r-0-7-1") ∷ (codes "807") ∷ []) ∷
    ((codes "6608") ∷ (codes "q") ∷ (codes "w-1") ∷ (codes "receive") ∷ (codes "ok") ∷ (codes "m-0-8") ∷ (codes "r-0-8-1") ∷ (codes "o-0-8") ∷ []) ∷
    ((codes "6908") ∷ (codes "q") ∷ (codes "w-1") ∷ (codes "delete") ∷ (codes "deleted") ∷ (codes "m-0-8") ∷ (codes "r-0-8-1") ∷ (codes "1107") ∷ []) ∷
    ((codes "6909") ∷ (codes "q") ∷ (codes "w-1") ∷ (codes "receive") ∷ (codes "empty") ∷ [] ∷ [] ∷ [] ∷ []) ∷
    ((codes "6950") ∷ (codes "q") ∷ (codes "s") ∷ (codes "send") ∷ (codes "new") ∷ (codes "m-0-9") ∷ [] ∷ digest (codes "j") ∷ []) ∷
    ((codes "6951") ∷ (codes "q") ∷ (codes "s") ∷ (codes "send") ∷ (codes "new") ∷ (codes "m-0-10") ∷ [] ∷ digest (codes "k") ∷ []) ∷
    ((codes "7500") ∷ (codes "q") ∷ (codes "w-2") ∷ (codes "receive") ∷ (codes "ok") ∷ (codes "m-0-9") ∷ (codes "r-0-9-1") ∷ (codes "o-0-9") ∷ []) ∷
    ((codes "7609") ∷ (codes "q") ∷ (codes "w-1") ∷ (codes "receive") ∷ (codes "ok") ∷ (codes "m-0-10") ∷ (codes "r-0-10-1") ∷ (codes "o-0-10") ∷ []) ∷
    ((codes "7800") ∷ (codes "q") ∷ (codes "w-2") ∷ (codes "delete") ∷ (codes "deleted") ∷ (codes "m-0-9") ∷ (codes "r-0-9-1") ∷ (codes "850") ∷ []) ∷
    ((codes "7801") ∷ (codes "q") ∷ (codes "w-2") ∷ (codes "receive") ∷ (codes "empty") ∷ [] ∷ [] ∷ [] ∷ []) ∷
    ((codes "7909") ∷ (codes "q") ∷ (codes "w-1") ∷ (codes "delete") ∷ (codes "deleted") ∷ (codes "m-0-10") ∷ (codes "r-0-10-1") ∷ (codes "958") ∷ []) ∷
    ((codes "7910") ∷ (codes "q") ∷ (codes "w-1") ∷ (codes "receive") ∷ (codes "empty") ∷ [] ∷ [] ∷ [] ∷ []) ∷
    ((codes "8000") ∷ (codes "q") ∷ (codes "x") ∷ (codes "scale") ∷ (codes "ok") ∷ [] ∷ [] ∷ (codes "2/1") ∷ []) ∷
    ((codes "final") ∷ (codes "queue") ∷ (codes "message") ∷ (codes "origin") ∷ (codes "place") ∷ (codes "due") ∷ (codes "enqueued") ∷ (codes "receives") ∷ (codes "group") ∷ (codes "md5") ∷ []) ∷
    ((codes "transfer") ∷ (codes "from") ∷ (codes "to") ∷ (codes "kind") ∷ (codes "due") ∷ (codes "number") ∷ (codes "message") ∷ (codes "origin") ∷ (codes "md5") ∷ []) ∷
    ((codes "task") ∷ (codes "name") ∷ (codes "status") ∷ (codes "moved") ∷ []) ∷
    ((codes "report") ∷ (codes "queue") ∷ (codes "sends") ∷ (codes "repeats") ∷ (codes "receives") ∷ (codes "empties") ∷ (codes "deletes") ∷ (codes "expiries") ∷ (codes "redrives") ∷ (codes "moves") ∷ (codes "arrivals") ∷ (codes "OverLimit") ∷ (codes "MessageNotInflight") ∷ (codes "ReceiptHandleIsInvalid") ∷ (codes "BadTimeout") ∷ (codes "MissingGroup") ∷ (codes "MissingDeduplication") ∷ (codes "BadDelay") ∷ (codes "TaskRunning") ∷ (codes "NoTask") ∷ (codes "depth_max") ∷ (codes "visible") ∷ (codes "in_flight") ∷ (codes "delayed") ∷ (codes "age_sum") ∷ (codes "age_max") ∷ (codes "age_p50") ∷ (codes "age_p95") ∷ (codes "age_p99") ∷ []) ∷
    ((codes "report") ∷ (codes "q") ∷ (codes "11") ∷ (codes "0") ∷ (codes "11") ∷ (codes "9") ∷ (codes "11") ∷ (codes "0") ∷ (codes "0") ∷ (codes "0") ∷ (codes "0") ∷ (codes "0") ∷ (codes "0") ∷ (codes "0") ∷ (codes "0") ∷ (codes "0") ∷ (codes "0") ∷ (codes "0") ∷ (codes "0") ∷ (codes "0") ∷ (codes "2") ∷ (codes "0") ∷ (codes "0") ∷ (codes "0") ∷ (codes "7138") ∷ (codes "1107") ∷ (codes "701") ∷ (codes "1107") ∷ (codes "1107") ∷ []) ∷ [])
unfolding reading_on_literals running_on_literals columns_of
case_0_copies_take_time_to_start = refl

-- version-3/copy_of_one.toml
case_0_copy_of_one : shown_upto 3 64 [] (codes "# One copy is named w-1 and has the number and the words of its table.\nversion = 3\nhorizon = 1000\n[[queue]]\nname = \"q\"\n[[actor]]\nname = \"w\"\nkind = \"consumer\"\nqueue = \"q\"\nstart_ms = 10\nwait_s = 20\nservice_min_ms = 100\nservice_max_ms = 1099\ncopies = 1\n[[actor]]\nname = \"s\"\nkind = \"script\"\nqueue = \"q\"\ncalls = \"\"\"\nat,call,body,group,id,delay,receipt,max,wait,timeout,task\n0,send,a,,,,,,,,\n\"\"\"\n")
    ≡ ran (((codes "at") ∷ (codes "queue") ∷ (codes "agent") ∷ (codes "call") ∷ (codes "answer") ∷ (codes "message") ∷ (codes "receipt") ∷ (codes "detail") ∷ []) ∷
    ((codes "0") ∷ (codes "q") ∷ (codes "s") ∷ (codes "send") ∷ (codes "new") ∷ (codes "m-0-0") ∷ [] ∷ digest (codes "a") ∷ []) ∷
    ((codes "10") ∷ (codes "q") ∷ (codes "w-1") ∷ (codes "receive") ∷ (codes "ok") ∷ (codes "m-0-0") ∷ (codes "r-0-0-1") ∷ (codes "o-0-0") ∷ []) ∷
    ((codes "949") ∷ (codes "q") ∷ (codes "w-1") ∷ (codes "delete") ∷ (codes "deleted") ∷ (codes "m-0-0") ∷ (codes "r-0-0-1") ∷ (codes "949") ∷ []) ∷
    ((codes "950") ∷ (codes "q") ∷ (codes "w-1") ∷ (codes "receive") ∷ (codes "wait") ∷ [] ∷ [] ∷ [] ∷ []) ∷
    ((codes "final") ∷ (codes "queue") ∷ (codes "message") ∷ (codes "origin") ∷ (codes "place") ∷ (codes "due") ∷ (codes "enqueued") ∷ (codes "receives") ∷ (codes "group") ∷ (codes "md5") ∷ []) ∷
    ((codes "transfer") ∷ (codes "from") ∷ (codes "to") ∷ (codes "kind") ∷ (codes "due") ∷ (codes "number") ∷ (codes "message") ∷ (codes "origin") ∷ (codes "md5") ∷ []) ∷
    ((codes "task") ∷ (codes "name") ∷ (codes "status") ∷ (codes "moved") ∷ []) ∷
    ((codes "report") ∷ (codes "queue") ∷ (codes "sends") ∷ (codes "repeats") ∷ (codes "receives") ∷ (codes "empties") ∷ (codes "deletes") ∷ (codes "expiries") ∷ (codes "redrives") ∷ (codes "moves") ∷ (codes "arrivals") ∷ (codes "OverLimit") ∷ (codes "MessageNotInflight") ∷ (codes "ReceiptHandleIsInvalid") ∷ (codes "BadTimeout") ∷ (codes "MissingGroup") ∷ (codes "MissingDeduplication") ∷ (codes "BadDelay") ∷ (codes "TaskRunning") ∷ (codes "NoTask") ∷ (codes "depth_max") ∷ (codes "visible") ∷ (codes "in_flight") ∷ (codes "delayed") ∷ (codes "age_sum") ∷ (codes "age_max") ∷ (codes "age_p50") ∷ (codes "age_p95") ∷ (codes "age_p99") ∷ []) ∷
    ((codes "report") ∷ (codes "q") ∷ (codes "1") ∷ (codes "0") ∷ (codes "1") ∷ (codes "0") ∷ (codes "1") ∷ (codes "0") ∷ (codes "0") ∷ (codes "0") ∷ (codes "0") ∷ (codes "0") ∷ (codes "0") ∷ (codes "0") ∷ (codes "0") ∷ (codes "0") ∷ (codes "0") ∷ (codes "0") ∷ (codes "0") ∷ (codes "0") ∷ (codes "1") ∷ (codes "0") ∷ (codes "0") ∷ (codes "0") ∷ (codes "949") ∷ (codes "949") ∷ (codes "949") ∷ (codes "949") ∷ (codes "949") ∷ []) ∷ [])
unfolding reading_on_literals running_on_literals columns_of
case_0_copy_of_one = refl

-- version-3/copy_that_is_not_wanted_gathers_on.toml
case_0_copy_that_is_not_wanted_gathers_on : shown_upto 3 81 [] (codes "# w-2 gathers when the scaler takes it away at 1,010. It asks on until its batch is whole, and serves that.\nversion = 3\nhorizon = 5600\n[[queue]]\nname = \"q\"\n[[actor]]\nname = \"s\"\nkind = \"script\"\nqueue = \"q\"\ncalls = \"\"\"\nat,call,body,group,id,delay,receipt,max,wait,timeout,task\n0,send,a,,,,,,,,\n1,send,b,,,,,,,,\n2,send,c,,,,,,,,\n1200,send,d,,,,,,,,\n\"\"\"\n[[actor]]\nname = \"x\"\nkind = \"scaler\"\nqueue = \"q\"\nstart_ms = 10\nevery_s = 1\nvisible_per_copy = 1\ncopies_max = 2\n[[actor]]\nname = \"w\"\nkind = \"consumer\"\nqueue = \"q\"\nstart_ms = 10\nbatch = 2\ngather_ms = 3000\nidle_ms = 500\nscaler = \"x\"\ncopies = 2\nservice_min_ms = 2000\nservice_max_ms = 2000\n")
    ≡ ran (((codes "at") ∷ (codes "queue") ∷ (codes "agent") ∷ (codes "call") ∷ (codes "answer") ∷ (codes "message") ∷ (codes "receipt") ∷ (codes "detail") ∷ []) ∷
    ((codes "0") ∷ (codes "q") ∷ (codes "s") ∷ (codes "send") ∷ (codes "new") ∷ (codes "m-0-0") ∷ [] ∷ digest (codes "a") ∷ []) ∷
    ((codes "1") ∷ (codes "q") ∷ (codes "s") ∷ (codes "send") ∷ (codes "new") ∷ (codes "m-0-1") ∷ [] ∷ digest (codes "b") ∷ []) ∷
    ((codes "2") ∷ (codes "q") ∷ (codes "s") ∷ (codes "send") ∷ (codes "new") ∷ (codes "m-0-2") ∷ [] ∷ digest (codes "c") ∷ []) ∷
    ((codes "10") ∷ (codes "q") ∷ (codes "x") ∷ (codes "scale") ∷ (codes "ok") ∷ [] ∷ [] ∷ (codes "1/2") ∷ []) ∷
    ((codes "10") ∷ (codes "q") ∷ (codes "w-1") ∷ (codes "receive") ∷ (codes "ok") ∷ (codes "m-0-0") ∷ (codes "r-0-0-1") ∷ (codes "o-0-0") ∷ []) ∷
    ((codes "10") ∷ (codes "q") ∷ (codes "w-1") ∷ (codes "receive") ∷ (codes "ok") ∷ (codes "m-0-1") ∷ (codes "r-0-1-1") ∷ (codes "o-0-1") ∷ []) ∷
    ((codes "10") ∷ (codes "q") ∷ (codes "w-2") ∷ (codes "receive") ∷ (codes "ok") ∷ (codes "m-0-2") ∷ (codes "r-0-2-1") ∷ (codes "o-0-2") ∷ []) ∷
    ((codes "11") ∷ (codes "q") ∷ (codes "w-2") ∷ (codes "receive") ∷ (codes "empty") ∷ [] ∷ [] ∷ [] ∷ []) ∷
    ((codes "511") ∷ (codes "q") ∷ (codes "w-2") ∷ (codes "receive") ∷ (codes "empty") ∷ [] ∷ [] ∷ [] ∷ []) ∷
    ((codes "1010") ∷ (codes "q") ∷ (codes "x") ∷ (codes "scale") ∷ (codes "ok") ∷ [] ∷ [] ∷ (codes "2/1") ∷ []) ∷
    ((codes "1011") ∷ (codes "q") ∷ (codes "w-2") ∷ (codes "receive") ∷ (codes "empty") ∷ [] ∷ [] ∷ [] ∷ []) ∷
    ((codes "1200") ∷ (codes "q") ∷ (codes "s") ∷ (codes "send") ∷ (codes "new") ∷ (codes "m-0-3") ∷ [] ∷ digest (codes "d") ∷ []) ∷
    ((codes "1511") ∷ (codes "q") ∷ (codes "w-2") ∷ (codes "receive") ∷ (codes "ok") ∷ (codes "m-0-3") ∷ (codes "r-0-3-1") ∷ (codes "o-0-3") ∷ []) ∷
    ((codes "2010") ∷ (codes "q") ∷ (codes "w-1") ∷ (codes "delete") ∷ (codes "deleted") ∷ (codes "m-0-0") ∷ (codes "r-0-0-1") ∷ (codes "2010") ∷ []) ∷
    ((codes "3511") ∷ (codes "q") ∷ (codes "w-2") ∷ (codes "delete") ∷ (codes "deleted") ∷ (codes "m-0-2") ∷ (codes "r-0-2-1") ∷ (codes "3509") ∷ []) ∷
    ((codes "4010") ∷ (codes "q") ∷ (codes "w-1") ∷ (codes "delete") ∷ (codes "deleted") ∷ (codes "m-0-1") ∷ (codes "r-0-1-1") ∷ (codes "4009") ∷ []) ∷
    ((codes "4011") ∷ (codes "q") ∷ (codes "w-1") ∷ (codes "receive") ∷ (codes "empty") ∷ [] ∷ [] ∷ [] ∷ []) ∷
    ((codes "4511") ∷ (codes "q") ∷ (codes "w-1") ∷ (codes "receive") ∷ (codes "empty") ∷ [] ∷ [] ∷ [] ∷ []) ∷
    ((codes "5011") ∷ (codes "q") ∷ (codes "w-1") ∷ (codes "receive") ∷ (codes "empty") ∷ [] ∷ [] ∷ [] ∷ []) ∷
    ((codes "5511") ∷ (codes "q") ∷ (codes "w-1") ∷ (codes "receive") ∷ (codes "empty") ∷ [] ∷ [] ∷ [] ∷ []) ∷
    ((codes "5511") ∷ (codes "q") ∷ (codes "w-2") ∷ (codes "delete") ∷ (codes "deleted") ∷ (codes "m-0-3") ∷ (codes "r-0-3-1") ∷ (codes "4311") ∷ []) ∷
    ((codes "final") ∷ (codes "queue") ∷ (codes "message") ∷ (codes "origin") ∷ (codes "place") ∷ (codes "due") ∷ (codes "enqueued") ∷ (codes "receives") ∷ (codes "group") ∷ (codes "md5") ∷ []) ∷
    ((codes "transfer") ∷ (codes "from") ∷ (codes "to") ∷ (codes "kind") ∷ (codes "due") ∷ (codes "number") ∷ (codes "message") ∷ (codes "origin") ∷ (codes "md5") ∷ []) ∷
    ((codes "task") ∷ (codes "name") ∷ (codes "status") ∷ (codes "moved") ∷ []) ∷
    ((codes "report") ∷ (codes "queue") ∷ (codes "sends") ∷ (codes "repeats") ∷ (codes "receives") ∷ (codes "empties") ∷ (codes "deletes") ∷ (codes "expiries") ∷ (codes "redrives") ∷ (codes "moves") ∷ (codes "arrivals") ∷ (codes "OverLimit") ∷ (codes "MessageNotInflight") ∷ (codes "ReceiptHandleIsInvalid") ∷ (codes "BadTimeout") ∷ (codes "MissingGroup") ∷ (codes "MissingDeduplication") ∷ (codes "BadDelay") ∷ (codes "TaskRunning") ∷ (codes "NoTask") ∷ (codes "depth_max") ∷ (codes "visible") ∷ (codes "in_flight") ∷ (codes "delayed") ∷ (codes "age_sum") ∷ (codes "age_max") ∷ (codes "age_p50") ∷ (codes "age_p95") ∷ (codes "age_p99") ∷ []) ∷
    ((codes "report") ∷ (codes "q") ∷ (codes "4") ∷ (codes "0") ∷ (codes "4") ∷ (codes "7") ∷ (codes "4") ∷ (codes "0") ∷ (codes "0") ∷ (codes "0") ∷ (codes "0") ∷ (codes "0") ∷ (codes "0") ∷ (codes "0") ∷ (codes "0") ∷ (codes "0") ∷ (codes "0") ∷ (codes "0") ∷ (codes "0") ∷ (codes "0") ∷ (codes "4") ∷ (codes "0") ∷ (codes "0") ∷ (codes "0") ∷ (codes "13839") ∷ (codes "4311") ∷ (codes "3509") ∷ (codes "4311") ∷ (codes "4311") ∷ []) ∷ [])
unfolding reading_on_literals running_on_literals columns_of
case_0_copy_that_is_not_wanted_gathers_on = refl

-- version-3/failed_service_after_gathering.toml
case_0_failed_service_after_gathering : shown_upto 3 66 [] (codes "# The receive of m-0-0 is in the first outage, and the end of its service is in none. It gathers until 510, and the\n# service begins then, in the second outage. So it fails, and takes 70 ms.\nversion = 3\nhorizon = 1000\n[[queue]]\nname = \"q\"\n[[actor]]\nname = \"c\"\nkind = \"consumer\"\nqueue = \"q\"\nstart_ms = 10\nbatch = 2\ngather_ms = 500\nwait_s = 20\nservice_min_ms = 100\nservice_max_ms = 100\nfail_service_ms = 70\nfails_between_ms = [[0, 20], [510, 511]]\n[[actor]]\nname = \"s\"\nkind = \"script\"\nqueue = \"q\"\ncalls = \"\"\"\nat,call,body,group,id,delay,receipt,max,wait,timeout,task\n5,send,a,,,,,,,,\n\"\"\"\n")
    ≡ ran (((codes "at") ∷ (codes "queue") ∷ (codes "agent") ∷ (codes "call") ∷ (codes "answer") ∷ (codes "message") ∷ (codes "receipt") ∷ (codes "detail") ∷ []) ∷
    ((codes "5") ∷ (codes "q") ∷ (codes "s") ∷ (codes "send") ∷ (codes "new") ∷ (codes "m-0-0") ∷ [] ∷ digest (codes "a") ∷ []) ∷
    ((codes "10") ∷ (codes "q") ∷ (codes "c") ∷ (codes "receive") ∷ (codes "ok") ∷ (codes "m-0-0") ∷ (codes "r-0-0-1") ∷ (codes "o-0-0") ∷ []) ∷
    ((codes "11") ∷ (codes "q") ∷ (codes "c") ∷ (codes "receive") ∷ (codes "empty") ∷ [] ∷ [] ∷ [] ∷ []) ∷
    ((codes "510") ∷ (codes "q") ∷ (codes "c") ∷ (codes "receive") ∷ (codes "empty") ∷ [] ∷ [] ∷ [] ∷ []) ∷
    ((codes "580") ∷ (codes "q") ∷ (codes "c") ∷ (codes "fail") ∷ (codes "ok") ∷ (codes "m-0-0") ∷ (codes "r-0-0-1") ∷ [] ∷ []) ∷
    ((codes "581") ∷ (codes "q") ∷ (codes "c") ∷ (codes "receive") ∷ (codes "wait") ∷ [] ∷ [] ∷ [] ∷ []) ∷
    ((codes "final") ∷ (codes "queue") ∷ (codes "message") ∷ (codes "origin") ∷ (codes "place") ∷ (codes "due") ∷ (codes "enqueued") ∷ (codes "receives") ∷ (codes "group") ∷ (codes "md5") ∷ []) ∷
    ((codes "final") ∷ (codes "q") ∷ (codes "m-0-0") ∷ (codes "o-0-0") ∷ (codes "inflight") ∷ (codes "30010") ∷ (codes "5") ∷ (codes "1") ∷ [] ∷ digest (codes "a") ∷ []) ∷
    ((codes "transfer") ∷ (codes "from") ∷ (codes "to") ∷ (codes "kind") ∷ (codes "due") ∷ (codes "number") ∷ (codes "message") ∷ (codes "origin") ∷ (codes "md5") ∷ []) ∷
    ((codes "task") ∷ (codes "name") ∷ (codes "status") ∷ (codes "moved") ∷ []) ∷
    ((codes "report") ∷ (codes "queue") ∷ (codes "sends") ∷ (codes "repeats") ∷ (codes "receives") ∷ (codes "empties") ∷ (codes "deletes") ∷ (codes "expiries") ∷ (codes "redrives") ∷ (codes "moves") ∷ (codes "arrivals") ∷ (codes "OverLimit") ∷ (codes "MessageNotInflight") ∷ (codes "ReceiptHandleIsInvalid") ∷ (codes "BadTimeout") ∷ (codes "MissingGroup") ∷ (codes "MissingDeduplication") ∷ (codes "BadDelay") ∷ (codes "TaskRunning") ∷ (codes "NoTask") ∷ (codes "depth_max") ∷ (codes "visible") ∷ (codes "in_flight") ∷ (codes "delayed") ∷ (codes "age_sum") ∷ (codes "age_max") ∷ (codes "age_p50") ∷ (codes "age_p95") ∷ (codes "age_p99") ∷ []) ∷
    ((codes "report") ∷ (codes "q") ∷ (codes "1") ∷ (codes "0") ∷ (codes "1") ∷ (codes "2") ∷ (codes "0") ∷ (codes "0") ∷ (codes "0") ∷ (codes "0") ∷ (codes "0") ∷ (codes "0") ∷ (codes "0") ∷ (codes "0") ∷ (codes "0") ∷ (codes "0") ∷ (codes "0") ∷ (codes "0") ∷ (codes "0") ∷ (codes "0") ∷ (codes "1") ∷ (codes "0") ∷ (codes "1") ∷ (codes "0") ∷ (codes "0") ∷ [] ∷ [] ∷ [] ∷ [] ∷ []) ∷ [])
unfolding reading_on_literals running_on_literals columns_of
case_0_failed_service_after_gathering = refl

-- version-3/failed_service_draws_at_its_begin.toml
case_0_failed_service_draws_at_its_begin : shown_upto 3 73 [] (codes "# Words of agent 2: 717.678 (a time of 100 + 71 ms, which is not used) and 447.024 (the chance of m-0-0, below 450: it\n# fails, and takes 40 ms), 12.444 (its timeout, 1 s of 0 to 100), 505.346 (the time of m-0-1, 100 + 50) and 192.088 (its\n# chance, not below 100, the one in the outage in which it begins), 387.809 (a time that is not used), 121.336 (m-0-0\n# fails again) and 70.690 (its timeout, 7 s).\nversion = 3\nhorizon = 1100\n[[queue]]\nname = \"q\"\n[[queue]]\nname = \"p\"\n[[actor]]\nname = \"c\"\nkind = \"consumer\"\nqueue = \"q\"\nstart_ms = 10\nbatch = 2\nwait_s = 20\nservice_min_ms = 100\nservice_max_ms = 199\nfail_service_ms = 40\nfail_permille = 450\nfails_from_ms = 50\nfails_to_ms = 51\nfails_permille = 100\nbackoff_s = [100]\nbackoff_jitter = \"full\"\n[[actor]]\nname = \"s\"\nkind = \"script\"\nqueue = \"q\"\ncalls = \"\"\"\nat,call,body,group,id,delay,receipt,max,wait,timeout,task\n0,send,a,,,,,,,,\n1,send,b,,,,,,,,\n\"\"\"\n")
    ≡ ran (((codes "at") ∷ (codes "queue") ∷ (codes "agent") ∷ (codes "call") ∷ (codes "answer") ∷ (codes "message") ∷ (codes "receipt") ∷ (codes "detail") ∷ []) ∷
    ((codes "0") ∷ (codes "q") ∷ (codes "s") ∷ (codes "send") ∷ (codes "new") ∷ (codes "m-0-0") ∷ [] ∷ digest (codes "a") ∷ []) ∷
    ((codes "1") ∷ (codes "q") ∷ (codes "s") ∷ (codes "send") ∷ (codes "new") ∷ (codes "m-0-1") ∷ [] ∷ digest (codes "b") ∷ []) ∷
    ((codes "10") ∷ (codes "q") ∷ (codes "c") ∷ (codes "receive") ∷ (codes "ok") ∷ (codes "m-0-0") ∷ (codes "r-0-0-1") ∷ (codes "o-0-0") ∷ []) ∷
    ((codes "10") ∷ (codes "q") ∷ (codes "c") ∷ (codes "receive") ∷ (codes "ok") ∷ (codes "m-0-1") ∷ (codes "r-0-1-1") ∷ (codes "o-0-1") ∷ []) ∷
    ((codes "50") ∷ (codes "q") ∷ (codes "c") ∷ (codes "fail") ∷ (codes "ok") ∷ (codes "m-0-0") ∷ (codes "r-0-0-1") ∷ [] ∷ []) ∷
    ((codes "50") ∷ (codes "q") ∷ (codes "c") ∷ (codes "change") ∷ (codes "ok") ∷ (codes "m-0-0") ∷ (codes "r-0-0-1") ∷ (codes "1") ∷ []) ∷
    ((codes "200") ∷ (codes "q") ∷ (codes "c") ∷ (codes "delete") ∷ (codes "deleted") ∷ (codes "m-0-1") ∷ (codes "r-0-1-1") ∷ (codes "199") ∷ []) ∷
    ((codes "201") ∷ (codes "q") ∷ (codes "c") ∷ (codes "receive") ∷ (codes "wait") ∷ [] ∷ [] ∷ [] ∷ []) ∷
    ((codes "1050") ∷ (codes "q") ∷ (codes "q") ∷ (codes "release") ∷ (codes "visible") ∷ (codes "m-0-0") ∷ [] ∷ [] ∷ []) ∷
    ((codes "1050") ∷ (codes "q") ∷ (codes "c") ∷ (codes "receive") ∷ (codes "ok") ∷ (codes "m-0-0") ∷ (codes "r-0-0-2") ∷ (codes "o-0-0") ∷ []) ∷
    ((codes "1090") ∷ (codes "q") ∷ (codes "c") ∷ (codes "fail") ∷ (codes "ok") ∷ (codes "m-0-0") ∷ (codes "r-0-0-2") ∷ [] ∷ []) ∷
    ((codes "1090") ∷ (codes "q") ∷ (codes "c") ∷ (codes "change") ∷ (codes "ok") ∷ (codes "m-0-0") ∷ (codes "r-0-0-2") ∷ (codes "7") ∷ []) ∷
    ((codes "1091") ∷ (codes "q") ∷ (codes "c") ∷ (codes "receive") ∷ (codes "wait") ∷ [] ∷ [] ∷ [] ∷ []) ∷
    ((codes "final") ∷ (codes "queue") ∷ (codes "message") ∷ (codes "origin") ∷ (codes "place") ∷ (codes "due") ∷ (codes "enqueued") ∷ (codes "receives") ∷ (codes "group") ∷ (codes "md5") ∷ []) ∷
    ((codes "final") ∷ (codes "q") ∷ (codes "m-0-0") ∷ (codes "o-0-0") ∷ (codes "inflight") ∷ (codes "8090") ∷ (codes "0") ∷ (codes "2") ∷ [] ∷ digest (codes "a") ∷ []) ∷
    ((codes "transfer") ∷ (codes "from") ∷ (codes "to") ∷ (codes "kind") ∷ (codes "due") ∷ (codes "number") ∷ (codes "message") ∷ (codes "origin") ∷ (codes "md5") ∷ []) ∷
    ((codes "task") ∷ (codes "name") ∷ (codes "status") ∷ (codes "moved") ∷ []) ∷
    ((codes "report") ∷ (codes "queue") ∷ (codes "sends") ∷ (codes "repeats") ∷ (codes "receives") ∷ (codes "empties") ∷ (codes "deletes") ∷ (codes "expiries") ∷ (codes "redrives") ∷ (codes "moves") ∷ (codes "arrivals") ∷ (codes "OverLimit") ∷ (codes "MessageNotInflight") ∷ (codes "ReceiptHandleIsInvalid") ∷ (codes "BadTimeout") ∷ (codes "MissingGroup") ∷ (codes "MissingDeduplication") ∷ (codes "BadDelay") ∷ (codes "TaskRunning") ∷ (codes "NoTask") ∷ (codes "depth_max") ∷ (codes "visible") ∷ (codes "in_flight") ∷ (codes "delayed") ∷ (codes "age_sum") ∷ (codes "age_max") ∷ (codes "age_p50") ∷ (codes "age_p95") ∷ (codes "age_p99") ∷ []) ∷
    ((codes "report") ∷ (codes "q") ∷ (codes "2") ∷ (codes "0") ∷ (codes "3") ∷ (codes "0") ∷ (codes "1") ∷ (codes "0") ∷ (codes "0") ∷ (codes "0") ∷ (codes "0") ∷ (codes "0") ∷ (codes "0") ∷ (codes "0") ∷ (codes "0") ∷ (codes "0") ∷ (codes "0") ∷ (codes "0") ∷ (codes "0") ∷ (codes "0") ∷ (codes "2") ∷ (codes "0") ∷ (codes "1") ∷ (codes "0") ∷ (codes "199") ∷ (codes "199") ∷ (codes "199") ∷ (codes "199") ∷ (codes "199") ∷ []) ∷
    ((codes "report") ∷ (codes "p") ∷ (codes "0") ∷ (codes "0") ∷ (codes "0") ∷ (codes "0") ∷ (codes "0") ∷ (codes "0") ∷ (codes "0") ∷ (codes "0") ∷ (codes "0") ∷ (codes "0") ∷ (codes "0") ∷ (codes "0") ∷ (codes "0") ∷ (codes "0") ∷ (codes "0") ∷ (codes "0") ∷ (codes "0") ∷ (codes "0") ∷ (codes "0") ∷ (codes "0") ∷ (codes "0") ∷ (codes "0") ∷ (codes "0") ∷ [] ∷ [] ∷ [] ∷ [] ∷ []) ∷ [])
unfolding reading_on_literals running_on_literals columns_of
case_0_failed_service_draws_at_its_begin = refl

-- version-3/failed_service_in_a_whole_batch.toml
case_0_failed_service_in_a_whole_batch : shown_upto 3 68 [] (codes "# Each message has a service of its own. That of m-0-0 ends well at 110, without a row. That of m-0-1 fails and takes\n# 300 ms, until 410. m-0-2 is not served, and nothing is deleted.\nversion = 3\nhorizon = 1000\n[[queue]]\nname = \"q\"\n[[actor]]\nname = \"c\"\nkind = \"consumer\"\nqueue = \"q\"\nstart_ms = 10\nbatch = 3\nwait_s = 20\nservice_min_ms = 100\nservice_max_ms = 100\nfail_service_ms = 300\nfails_on = \"bad\"\nbatch_fails = \"whole\"\n[[actor]]\nname = \"s\"\nkind = \"script\"\nqueue = \"q\"\ncalls = \"\"\"\nat,call,body,group,id,delay,receipt,max,wait,timeout,task\n0,send,a,,,,,,,,\n1,send,bad,,,,,,,,\n2,send,c,,,,,,,,\n\"\"\"\n")
    ≡ ran (((codes "at") ∷ (codes "queue") ∷ (codes "agent") ∷ (codes "call") ∷ (codes "answer") ∷ (codes "message") ∷ (codes "receipt") ∷ (codes "detail") ∷ []) ∷
    ((codes "0") ∷ (codes "q") ∷ (codes "s") ∷ (codes "send") ∷ (codes "new") ∷ (codes "m-0-0") ∷ [] ∷ digest (codes "a") ∷ []) ∷
    ((codes "1") ∷ (codes "q") ∷ (codes "s") ∷ (codes "send") ∷ (codes "new") ∷ (codes "m-0-1") ∷ [] ∷ digest (codes "bad") ∷ []) ∷
    ((codes "2") ∷ (codes "q") ∷ (codes "s") ∷ (codes "send") ∷ (codes "new") ∷ (codes "m-0-2") ∷ [] ∷ digest (codes "c") ∷ []) ∷
    ((codes "10") ∷ (codes "q") ∷ (codes "c") ∷ (codes "receive") ∷ (codes "ok") ∷ (codes "m-0-0") ∷ (codes "r-0-0-1") ∷ (codes "o-0-0") ∷ []) ∷
    ((codes "10") ∷ (codes "q") ∷ (codes "c") ∷ (codes "receive") ∷ (codes "ok") ∷ (codes "m-0-1") ∷ (codes "r-0-1-1") ∷ (codes "o-0-1") ∷ []) ∷
    ((codes "10") ∷ (codes "q") ∷ (codes "c") ∷ (codes "receive") ∷ (codes "ok") ∷ (codes "m-0-2") ∷ (codes "r-0-2-1") ∷ (codes "o-0-2") ∷ []) ∷
    ((codes "410") ∷ (codes "q") ∷ (codes "c") ∷ (codes "fail") ∷ (codes "ok") ∷ (codes "m-0-1") ∷ (codes "r-0-1-1") ∷ [] ∷ []) ∷
    ((codes "411") ∷ (codes "q") ∷ (codes "c") ∷ (codes "receive") ∷ (codes "wait") ∷ [] ∷ [] ∷ [] ∷ []) ∷
    ((codes "final") ∷ (codes "queue") ∷ (codes "message") ∷ (codes "origin") ∷ (codes "place") ∷ (codes "due") ∷ (codes "enqueued") ∷ (codes "receives") ∷ (codes "group") ∷ (codes "md5") ∷ []) ∷
    ((codes "final") ∷ (codes "q") ∷ (codes "m-0-0") ∷ (codes "o-0-0") ∷ (codes "inflight") ∷ (codes "30010") ∷ (codes "0") ∷ (codes "1") ∷ [] ∷ digest (codes "a") ∷ []) ∷
    ((codes "final") ∷ (codes "q") ∷ (codes "m-0-1") ∷ (codes "o-0-1") ∷ (codes "inflight") ∷ (codes "30010") ∷ (codes "1") ∷ (codes "1") ∷ [] ∷ digest (codes "bad") ∷ []) ∷
    ((codes "final") ∷ (codes "q") ∷ (codes "m-0-2") ∷ (codes "o-0-2") ∷ (codes "inflight") ∷ (codes "30010") ∷ (codes "2") ∷ (codes "1") ∷ [] ∷ digest (codes "c") ∷ []) ∷
    ((codes "transfer") ∷ (codes "from") ∷ (codes "to") ∷ (codes "kind") ∷ (codes "due") ∷ (codes "number") ∷ (codes "message") ∷ (codes "origin") ∷ (codes "md5") ∷ []) ∷
    ((codes "task") ∷ (codes "name") ∷ (codes "status") ∷ (codes "moved") ∷ []) ∷
    ((codes "report") ∷ (codes "queue") ∷ (codes "sends") ∷ (codes "repeats") ∷ (codes "receives") ∷ (codes "empties") ∷ (codes "deletes") ∷ (codes "expiries") ∷ (codes "redrives") ∷ (codes "moves") ∷ (codes "arrivals") ∷ (codes "OverLimit") ∷ (codes "MessageNotInflight") ∷ (codes "ReceiptHandleIsInvalid") ∷ (codes "BadTimeout") ∷ (codes "MissingGroup") ∷ (codes "MissingDeduplication") ∷ (codes "BadDelay") ∷ (codes "TaskRunning") ∷ (codes "NoTask") ∷ (codes "depth_max") ∷ (codes "visible") ∷ (codes "in_flight") ∷ (codes "delayed") ∷ (codes "age_sum") ∷ (codes "age_max") ∷ (codes "age_p50") ∷ (codes "age_p95") ∷ (codes "age_p99") ∷ []) ∷
    ((codes "report") ∷ (codes "q") ∷ (codes "3") ∷ (codes "0") ∷ (codes "3") ∷ (codes "0") ∷ (codes "0") ∷ (codes "0") ∷ (codes "0") ∷ (codes "0") ∷ (codes "0") ∷ (codes "0") ∷ (codes "0") ∷ (codes "0") ∷ (codes "0") ∷ (codes "0") ∷ (codes "0") ∷ (codes "0") ∷ (codes "0") ∷ (codes "0") ∷ (codes "3") ∷ (codes "0") ∷ (codes "3") ∷ (codes "0") ∷ (codes "0") ∷ [] ∷ [] ∷ [] ∷ [] ∷ []) ∷ [])
unfolding reading_on_literals running_on_literals columns_of
case_0_failed_service_in_a_whole_batch = refl

-- version-3/failed_service_is_decided_at_its_begin.toml
case_0_failed_service_is_decided_at_its_begin : shown_upto 3 73 [] (codes "# The outage lasts from 110 to 610. The service of m-0-0 begins before it, and ends well in it. That of m-0-1 begins\n# with the outage, so it fails; it ends with the outage. Those of m-0-2 and m-0-3 begin at its end and later.\nversion = 3\nhorizon = 1000\n[[queue]]\nname = \"q\"\n[[actor]]\nname = \"c\"\nkind = \"consumer\"\nqueue = \"q\"\nstart_ms = 10\nbatch = 4\nwait_s = 20\nservice_min_ms = 100\nservice_max_ms = 100\nfail_service_ms = 500\nfails_from_ms = 110\nfails_to_ms = 610\n[[actor]]\nname = \"s\"\nkind = \"script\"\nqueue = \"q\"\ncalls = \"\"\"\nat,call,body,group,id,delay,receipt,max,wait,timeout,task\n0,send,a,,,,,,,,\n1,send,b,,,,,,,,\n2,send,c,,,,,,,,\n3,send,d,,,,,,,,\n\"\"\"\n")
    ≡ ran (((codes "at") ∷ (codes "queue") ∷ (codes "agent") ∷ (codes "call") ∷ (codes "answer") ∷ (codes "message") ∷ (codes "receipt") ∷ (codes "detail") ∷ []) ∷
    ((codes "0") ∷ (codes "q") ∷ (codes "s") ∷ (codes "send") ∷ (codes "new") ∷ (codes "m-0-0") ∷ [] ∷ digest (codes "a") ∷ []) ∷
    ((codes "1") ∷ (codes "q") ∷ (codes "s") ∷ (codes "send") ∷ (codes "new") ∷ (codes "m-0-1") ∷ [] ∷ digest (codes "b") ∷ []) ∷
    ((codes "2") ∷ (codes "q") ∷ (codes "s") ∷ (codes "send") ∷ (codes "new") ∷ (codes "m-0-2") ∷ [] ∷ digest (codes "c") ∷ []) ∷
    ((codes "3") ∷ (codes "q") ∷ (codes "s") ∷ (codes "send") ∷ (codes "new") ∷ (codes "m-0-3") ∷ [] ∷ digest (codes "d") ∷ []) ∷
    ((codes "10") ∷ (codes "q") ∷ (codes "c") ∷ (codes "receive") ∷ (codes "ok") ∷ (codes "m-0-0") ∷ (codes "r-0-0-1") ∷ (codes "o-0-0") ∷ []) ∷
    ((codes "10") ∷ (codes "q") ∷ (codes "c") ∷ (codes "receive") ∷ (codes "ok") ∷ (codes "m-0-1") ∷ (codes "r-0-1-1") ∷ (codes "o-0-1") ∷ []) ∷
    ((codes "10") ∷ (codes "q") ∷ (codes "c") ∷ (codes "receive") ∷ (codes "ok") ∷ (codes "m-0-2") ∷ (codes "r-0-2-1") ∷ (codes "o-0-2") ∷ []) ∷
    ((codes "10") ∷ (codes "q") ∷ (codes "c") ∷ (codes "receive") ∷ (codes "ok") ∷ (codes "m-0-3") ∷ (codes "r-0-3-1") ∷ (codes "o-0-3") ∷ []) ∷
    ((codes "110") ∷ (codes "q") ∷ (codes "c") ∷ (codes "delete") ∷ (codes "deleted") ∷ (codes "m-0-0") ∷ (codes "r-0-0-1") ∷ (codes "110") ∷ []) ∷
    ((codes "610") ∷ (codes "q") ∷ (codes "c") ∷ (codes "fail") ∷ (codes "ok") ∷ (codes "m-0-1") ∷ (codes "r-0-1-1") ∷ [] ∷ []) ∷
    ((codes "710") ∷ (codes "q") ∷ (codes "c") ∷ (codes "delete") ∷ (codes "deleted") ∷ (codes "m-0-2") ∷ (codes "r-0-2-1") ∷ (codes "708") ∷ []) ∷
    ((codes "810") ∷ (codes "q") ∷ (codes "c") ∷ (codes "delete") ∷ (codes "deleted") ∷ (codes "m-0-3") ∷ (codes "r-0-3-1") ∷ (codes "807") ∷ []) ∷
    ((codes "811") ∷ (codes "q") ∷ (codes "c") ∷ (codes "receive") ∷ (codes "wait") ∷ [] ∷ [] ∷ [] ∷ []) ∷
    ((codes "final") ∷ (codes "queue") ∷ (codes "message") ∷ (codes "origin") ∷ (codes "place") ∷ (codes "due") ∷ (codes "enqueued") ∷ (codes "receives") ∷ (codes "group") ∷ (codes "md5") ∷ []) ∷
    ((codes "final") ∷ (codes "q") ∷ (codes "m-0-1") ∷ (codes "o-0-1") ∷ (codes "inflight") ∷ (codes "30010") ∷ (codes "1") ∷ (codes "1") ∷ [] ∷ digest (codes "b") ∷ []) ∷
    ((codes "transfer") ∷ (codes "from") ∷ (codes "to") ∷ (codes "kind") ∷ (codes "due") ∷ (codes "number") ∷ (codes "message") ∷ (codes "origin") ∷ (codes "md5") ∷ []) ∷
    ((codes "task") ∷ (codes "name") ∷ (codes "status") ∷ (codes "moved") ∷ []) ∷
    ((codes "report") ∷ (codes "queue") ∷ (codes "sends") ∷ (codes "repeats") ∷ (codes "receives") ∷ (codes "empties") ∷ (codes "deletes") ∷ (codes "expiries") ∷ (codes "redrives") ∷ (codes "moves") ∷ (codes "arrivals") ∷ (codes "OverLimit") ∷ (codes "MessageNotInflight") ∷ (codes "ReceiptHandleIsInvalid") ∷ (codes "BadTimeout") ∷ (codes "MissingGroup") ∷ (codes "MissingDeduplication") ∷ (codes "BadDelay") ∷ (codes "TaskRunning") ∷ (codes "NoTask") ∷ (codes "depth_max") ∷ (codes "visible") ∷ (codes "in_flight") ∷ (codes "delayed") ∷ (codes "age_sum") ∷ (codes "age_max") ∷ (codes "age_p50") ∷ (codes "age_p95") ∷ (codes "age_p99") ∷ []) ∷
    ((codes "report") ∷ (codes "q") ∷ (codes "4") ∷ (codes "0") ∷ (codes "4") ∷ (codes "0") ∷ (codes "3") ∷ (codes "0") ∷ (codes "0") ∷ (codes "0") ∷ (codes "0") ∷ (codes "0") ∷ (codes "0") ∷ (codes "0") ∷ (codes "0") ∷ (codes "0") ∷ (codes "0") ∷ (codes "0") ∷ (codes "0") ∷ (codes "0") ∷ (codes "4") ∷ (codes "0") ∷ (codes "1") ∷ (codes "0") ∷ (codes "1625") ∷ (codes "807") ∷ (codes "708") ∷ (codes "807") ∷ (codes "807") ∷ []) ∷ [])
unfolding reading_on_literals running_on_literals columns_of
case_0_failed_service_is_decided_at_its_begin = refl

-- version-3/failed_service_of_a_batch_at_once.toml
case_0_failed_service_of_a_batch_at_once : shown_upto 3 82 [] (codes "# The service of all three messages fails by the second. It takes 50 ms, and no more for each message. All three get\n# their backoff, 1 ms apart. At 1060 m-0-0 comes back alone: its service ends well, and takes 100 ms and 20 for the\n# message. Then m-0-1 and m-0-2 fail in 50 ms.\nversion = 3\nhorizon = 1233\n[[queue]]\nname = \"q\"\n[[actor]]\nname = \"c\"\nkind = \"consumer\"\nqueue = \"q\"\nstart_ms = 10\nbatch = 3\nwait_s = 20\nservice_min_ms = 100\nservice_max_ms = 100\nbatch_service = \"once\"\nservice_each_ms = 20\nfail_service_ms = 50\nfails_on = \"bad\"\nbatch_fails = \"whole\"\nbackoff_s = [1]\n[[actor]]\nname = \"s\"\nkind = \"script\"\nqueue = \"q\"\ncalls = \"\"\"\nat,call,body,group,id,delay,receipt,max,wait,timeout,task\n0,send,a,,,,,,,,\n1,send,bad,,,,,,,,\n2,send,c,,,,,,,,\n\"\"\"\n")
    ≡ ran (((codes "at") ∷ (codes "queue") ∷ (codes "agent") ∷ (codes "call") ∷ (codes "answer") ∷ (codes "message") ∷ (codes "receipt") ∷ (codes "detail") ∷ []) ∷
    ((codes "0") ∷ (codes "q") ∷ (codes "s") ∷ (codes "send") ∷ (codes "new") ∷ (codes "m-0-0") ∷ [] ∷ digest (codes "a") ∷ []) ∷
    ((codes "1") ∷ (codes "q") ∷ (codes "s") ∷ (codes "send") ∷ (codes "new") ∷ (codes "m-0-1") ∷ [] ∷ digest (codes "bad") ∷ []) ∷
    ((codes "2") ∷ (codes "q") ∷ (codes "s") ∷ (codes "send") ∷ (codes "new") ∷ (codes "m-0-2") ∷ [] ∷ digest (codes "c") ∷ []) ∷
    ((codes "10") ∷ (codes "q") ∷ (codes "c") ∷ (codes "receive") ∷ (codes "ok") ∷ (codes "m-0-0") ∷ (codes "r-0-0-1") ∷ (codes "o-0-0") ∷ []) ∷
    ((codes "10") ∷ (codes "q") ∷ (codes "c") ∷ (codes "receive") ∷ (codes "ok") ∷ (codes "m-0-1") ∷ (codes "r-0-1-1") ∷ (codes "o-0-1") ∷ []) ∷
    ((codes "10") ∷ (codes "q") ∷ (codes "c") ∷ (codes "receive") ∷ (codes "ok") ∷ (codes "m-0-2") ∷ (codes "r-0-2-1") ∷ (codes "o-0-2") ∷ []) ∷
    ((codes "60") ∷ (codes "q") ∷ (codes "c") ∷ (codes "fail") ∷ (codes "ok") ∷ (codes "m-0-0") ∷ (codes "r-0-0-1") ∷ [] ∷ []) ∷
    ((codes "60") ∷ (codes "q") ∷ (codes "c") ∷ (codes "change") ∷ (codes "ok") ∷ (codes "m-0-0") ∷ (codes "r-0-0-1") ∷ (codes "1") ∷ []) ∷
    ((codes "61") ∷ (codes "q") ∷ (codes "c") ∷ (codes "change") ∷ (codes "ok") ∷ (codes "m-0-1") ∷ (codes "r-0-1-1") ∷ (codes "1") ∷ []) ∷
    ((codes "62") ∷ (codes "q") ∷ (codes "c") ∷ (codes "change") ∷ (codes "ok") ∷ (codes "m-0-2") ∷ (codes "r-0-2-1") ∷ (codes "1") ∷ []) ∷
    ((codes "63") ∷ (codes "q") ∷ (codes "c") ∷ (codes "receive") ∷ (codes "wait") ∷ [] ∷ [] ∷ [] ∷ []) ∷
    ((codes "1060") ∷ (codes "q") ∷ (codes "q") ∷ (codes "release") ∷ (codes "visible") ∷ (codes "m-0-0") ∷ [] ∷ [] ∷ []) ∷
    ((codes "1060") ∷ (codes "q") ∷ (codes "c") ∷ (codes "receive") ∷ (codes "ok") ∷ (codes "m-0-0") ∷ (codes "r-0-0-2") ∷ (codes "o-0-0") ∷ []) ∷
    ((codes "1061") ∷ (codes "q") ∷ (codes "q") ∷ (codes "release") ∷ (codes "visible") ∷ (codes "m-0-1") ∷ [] ∷ [] ∷ []) ∷
    ((codes "1062") ∷ (codes "q") ∷ (codes "q") ∷ (codes "release") ∷ (codes "visible") ∷ (codes "m-0-2") ∷ [] ∷ [] ∷ []) ∷
    ((codes "1180") ∷ (codes "q") ∷ (codes "c") ∷ (codes "delete") ∷ (codes "deleted") ∷ (codes "m-0-0") ∷ (codes "r-0-0-2") ∷ (codes "1180") ∷ []) ∷
    ((codes "1181") ∷ (codes "q") ∷ (codes "c") ∷ (codes "receive") ∷ (codes "ok") ∷ (codes "m-0-1") ∷ (codes "r-0-1-2") ∷ (codes "o-0-1") ∷ []) ∷
    ((codes "1181") ∷ (codes "q") ∷ (codes "c") ∷ (codes "receive") ∷ (codes "ok") ∷ (codes "m-0-2") ∷ (codes "r-0-2-2") ∷ (codes "o-0-2") ∷ []) ∷
    ((codes "1231") ∷ (codes "q") ∷ (codes "c") ∷ (codes "fail") ∷ (codes "ok") ∷ (codes "m-0-1") ∷ (codes "r-0-1-2") ∷ [] ∷ []) ∷
    ((codes "1231") ∷ (codes "q") ∷ (codes "c") ∷ (codes "change") ∷ (codes "ok") ∷ (codes "m-0-1") ∷ (codes "r-0-1-2") ∷ (codes "1") ∷ []) ∷
    ((codes "1232") ∷ (codes "q") ∷ (codes "c") ∷ (codes "change") ∷ (codes "ok") ∷ (codes "m-0-2") ∷ (codes "r-0-2-2") ∷ (codes "1") ∷ []) ∷
    ((codes "1233") ∷ (codes "q") ∷ (codes "c") ∷ (codes "receive") ∷ (codes "wait") ∷ [] ∷ [] ∷ [] ∷ []) ∷
    ((codes "final") ∷ (codes "queue") ∷ (codes "message") ∷ (codes "origin") ∷ (codes "place") ∷ (codes "due") ∷ (codes "enqueued") ∷ (codes "receives") ∷ (codes "group") ∷ (codes "md5") ∷ []) ∷
    ((codes "final") ∷ (codes "q") ∷ (codes "m-0-1") ∷ (codes "o-0-1") ∷ (codes "inflight") ∷ (codes "2231") ∷ (codes "1") ∷ (codes "2") ∷ [] ∷ digest (codes "bad") ∷ []) ∷
    ((codes "final") ∷ (codes "q") ∷ (codes "m-0-2") ∷ (codes "o-0-2") ∷ (codes "inflight") ∷ (codes "2232") ∷ (codes "2") ∷ (codes "2") ∷ [] ∷ digest (codes "c") ∷ []) ∷
    ((codes "transfer") ∷ (codes "from") ∷ (codes "to") ∷ (codes "kind") ∷ (codes "due") ∷ (codes "number") ∷ (codes "message") ∷ (codes "origin") ∷ (codes "md5") ∷ []) ∷
    ((codes "task") ∷ (codes "name") ∷ (codes "status") ∷ (codes "moved") ∷ []) ∷
    ((codes "report") ∷ (codes "queue") ∷ (codes "sends") ∷ (codes "repeats") ∷ (codes "receives") ∷ (codes "empties") ∷ (codes "deletes") ∷ (codes "expiries") ∷ (codes "redrives") ∷ (codes "moves") ∷ (codes "arrivals") ∷ (codes "OverLimit") ∷ (codes "MessageNotInflight") ∷ (codes "ReceiptHandleIsInvalid") ∷ (codes "BadTimeout") ∷ (codes "MissingGroup") ∷ (codes "MissingDeduplication") ∷ (codes "BadDelay") ∷ (codes "TaskRunning") ∷ (codes "NoTask") ∷ (codes "depth_max") ∷ (codes "visible") ∷ (codes "in_flight") ∷ (codes "delayed") ∷ (codes "age_sum") ∷ (codes "age_max") ∷ (codes "age_p50") ∷ (codes "age_p95") ∷ (codes "age_p99") ∷ []) ∷
    ((codes "report") ∷ (codes "q") ∷ (codes "3") ∷ (codes "0") ∷ (codes "6") ∷ (codes "0") ∷ (codes "1") ∷ (codes "0") ∷ (codes "0") ∷ (codes "0") ∷ (codes "0") ∷ (codes "0") ∷ (codes "0") ∷ (codes "0") ∷ (codes "0") ∷ (codes "0") ∷ (codes "0") ∷ (codes "0") ∷ (codes "0") ∷ (codes "0") ∷ (codes "3") ∷ (codes "0") ∷ (codes "2") ∷ (codes "0") ∷ (codes "1180") ∷ (codes "1180") ∷ (codes "1180") ∷ (codes "1180") ∷ (codes "1180") ∷ []) ∷ [])
unfolding reading_on_literals running_on_literals columns_of
case_0_failed_service_of_a_batch_at_once = refl

-- version-3/failed_service_of_zero.toml
case_0_failed_service_of_zero : shown_upto 3 67 [] (codes "# The service of m-0-0 fails. It takes no time, and ends 1 ms after its begin. The next service begins then.\nversion = 3\nhorizon = 1000\n[[queue]]\nname = \"q\"\n[[actor]]\nname = \"c\"\nkind = \"consumer\"\nqueue = \"q\"\nstart_ms = 10\nbatch = 2\nwait_s = 20\nservice_min_ms = 100\nservice_max_ms = 100\nfail_service_ms = 0\nfails_on = \"bad\"\n[[actor]]\nname = \"s\"\nkind = \"script\"\nqueue = \"q\"\ncalls = \"\"\"\nat,call,body,group,id,delay,receipt,max,wait,timeout,task\n0,send,bad,,,,,,,,\n1,send,a,,,,,,,,\n\"\"\"\n")
    ≡ ran (((codes "at") ∷ (codes "queue") ∷ (codes "agent") ∷ (codes "call") ∷ (codes "answer") ∷ (codes "message") ∷ (codes "receipt") ∷ (codes "detail") ∷ []) ∷
    ((codes "0") ∷ (codes "q") ∷ (codes "s") ∷ (codes "send") ∷ (codes "new") ∷ (codes "m-0-0") ∷ [] ∷ digest (codes "bad") ∷ []) ∷
    ((codes "1") ∷ (codes "q") ∷ (codes "s") ∷ (codes "send") ∷ (codes "new") ∷ (codes "m-0-1") ∷ [] ∷ digest (codes "a") ∷ []) ∷
    ((codes "10") ∷ (codes "q") ∷ (codes "c") ∷ (codes "receive") ∷ (codes "ok") ∷ (codes "m-0-0") ∷ (codes "r-0-0-1") ∷ (codes "o-0-0") ∷ []) ∷
    ((codes "10") ∷ (codes "q") ∷ (codes "c") ∷ (codes "receive") ∷ (codes "ok") ∷ (codes "m-0-1") ∷ (codes "r-0-1-1") ∷ (codes "o-0-1") ∷ []) ∷
    ((codes "11") ∷ (codes "q") ∷ (codes "c") ∷ (codes "fail") ∷ (codes "ok") ∷ (codes "m-0-0") ∷ (codes "r-0-0-1") ∷ [] ∷ []) ∷
    ((codes "111") ∷ (codes "q") ∷ (codes "c") ∷ (codes "delete") ∷ (codes "deleted") ∷ (codes "m-0-1") ∷ (codes "r-0-1-1") ∷ (codes "110") ∷ []) ∷
    ((codes "112") ∷ (codes "q") ∷ (codes "c") ∷ (codes "receive") ∷ (codes "wait") ∷ [] ∷ [] ∷ [] ∷ []) ∷
    ((codes "final") ∷ (codes "queue") ∷ (codes "message") ∷ (codes "origin") ∷ (codes "place") ∷ (codes "due") ∷ (codes "enqueued") ∷ (codes "receives") ∷ (codes "group") ∷ (codes "md5") ∷ []) ∷
    ((codes "final") ∷ (codes "q") ∷ (codes "m-0-0") ∷ (codes "o-0-0") ∷ (codes "inflight") ∷ (codes "30010") ∷ (codes "0") ∷ (codes "1") ∷ [] ∷ digest (codes "bad") ∷ []) ∷
    ((codes "transfer") ∷ (codes "from") ∷ (codes "to") ∷ (codes "kind") ∷ (codes "due") ∷ (codes "number") ∷ (codes "message") ∷ (codes "origin") ∷ (codes "md5") ∷ []) ∷
    ((codes "task") ∷ (codes "name") ∷ (codes "status") ∷ (codes "moved") ∷ []) ∷
    ((codes "report") ∷ (codes "queue") ∷ (codes "sends") ∷ (codes "repeats") ∷ (codes "receives") ∷ (codes "empties") ∷ (codes "deletes") ∷ (codes "expiries") ∷ (codes "redrives") ∷ (codes "moves") ∷ (codes "arrivals") ∷ (codes "OverLimit") ∷ (codes "MessageNotInflight") ∷ (codes "ReceiptHandleIsInvalid") ∷ (codes "BadTimeout") ∷ (codes "MissingGroup") ∷ (codes "MissingDeduplication") ∷ (codes "BadDelay") ∷ (codes "TaskRunning") ∷ (codes "NoTask") ∷ (codes "depth_max") ∷ (codes "visible") ∷ (codes "in_flight") ∷ (codes "delayed") ∷ (codes "age_sum") ∷ (codes "age_max") ∷ (codes "age_p50") ∷ (codes "age_p95") ∷ (codes "age_p99") ∷ []) ∷
    ((codes "report") ∷ (codes "q") ∷ (codes "2") ∷ (codes "0") ∷ (codes "2") ∷ (codes "0") ∷ (codes "1") ∷ (codes "0") ∷ (codes "0") ∷ (codes "0") ∷ (codes "0") ∷ (codes "0") ∷ (codes "0") ∷ (codes "0") ∷ (codes "0") ∷ (codes "0") ∷ (codes "0") ∷ (codes "0") ∷ (codes "0") ∷ (codes "0") ∷ (codes "2") ∷ (codes "0") ∷ (codes "1") ∷ (codes "0") ∷ (codes "110") ∷ (codes "110") ∷ (codes "110") ∷ (codes "110") ∷ (codes "110") ∷ []) ∷ [])
unfolding reading_on_literals running_on_literals columns_of
case_0_failed_service_of_zero = refl

-- version-3/failed_service_takes_its_own_time.toml
case_0_failed_service_takes_its_own_time : shown_upto 3 71 [] (codes "# The poison m-0-1 fails at the begin of its service, which takes 300 ms. The other services take 100 ms as ever.\nversion = 3\nhorizon = 1000\n[[queue]]\nname = \"q\"\n[[actor]]\nname = \"c\"\nkind = \"consumer\"\nqueue = \"q\"\nstart_ms = 10\nbatch = 3\nwait_s = 20\nservice_min_ms = 100\nservice_max_ms = 100\nfail_service_ms = 300\nfails_on = \"bad\"\nbackoff_s = [7]\n[[actor]]\nname = \"s\"\nkind = \"script\"\nqueue = \"q\"\ncalls = \"\"\"\nat,call,body,group,id,delay,receipt,max,wait,timeout,task\n0,send,a,,,,,,,,\n1,send,bad,,,,,,,,\n2,send,c,,,,,,,,\n\"\"\"\n")
    ≡ ran (((codes "at") ∷ (codes "queue") ∷ (codes "agent") ∷ (codes "call") ∷ (codes "answer") ∷ (codes "message") ∷ (codes "receipt") ∷ (codes "detail") ∷ []) ∷
    ((codes "0") ∷ (codes "q") ∷ (codes "s") ∷ (codes "send") ∷ (codes "new") ∷ (codes "m-0-0") ∷ [] ∷ digest (codes "a") ∷ []) ∷
    ((codes "1") ∷ (codes "q") ∷ (codes "s") ∷ (codes "send") ∷ (codes "new") ∷ (codes "m-0-1") ∷ [] ∷ digest (codes "bad") ∷ []) ∷
    ((codes "2") ∷ (codes "q") ∷ (codes "s") ∷ (codes "send") ∷ (codes "new") ∷ (codes "m-0-2") ∷ [] ∷ digest (codes "c") ∷ []) ∷
    ((codes "10") ∷ (codes "q") ∷ (codes "c") ∷ (codes "receive") ∷ (codes "ok") ∷ (codes "m-0-0") ∷ (codes "r-0-0-1") ∷ (codes "o-0-0") ∷ []) ∷
    ((codes "10") ∷ (codes "q") ∷ (codes "c") ∷ (codes "receive") ∷ (codes "ok") ∷ (codes "m-0-1") ∷ (codes "r-0-1-1") ∷ (codes "o-0-1") ∷ []) ∷
    ((codes "10") ∷ (codes "q") ∷ (codes "c") ∷ (codes "receive") ∷ (codes "ok") ∷ (codes "m-0-2") ∷ (codes "r-0-2-1") ∷ (codes "o-0-2") ∷ []) ∷
    ((codes "110") ∷ (codes "q") ∷ (codes "c") ∷ (codes "delete") ∷ (codes "deleted") ∷ (codes "m-0-0") ∷ (codes "r-0-0-1") ∷ (codes "110") ∷ []) ∷
    ((codes "410") ∷ (codes "q") ∷ (codes "c") ∷ (codes "fail") ∷ (codes "ok") ∷ (codes "m-0-1") ∷ (codes "r-0-1-1") ∷ [] ∷ []) ∷
    ((codes "410") ∷ (codes "q") ∷ (codes "c") ∷ (codes "change") ∷ (codes "ok") ∷ (codes "m-0-1") ∷ (codes "r-0-1-1") ∷ (codes "7") ∷ []) ∷
    ((codes "510") ∷ (codes "q") ∷ (codes "c") ∷ (codes "delete") ∷ (codes "deleted") ∷ (codes "m-0-2") ∷ (codes "r-0-2-1") ∷ (codes "508") ∷ []) ∷
    ((codes "511") ∷ (codes "q") ∷ (codes "c") ∷ (codes "receive") ∷ (codes "wait") ∷ [] ∷ [] ∷ [] ∷ []) ∷
    ((codes "final") ∷ (codes "queue") ∷ (codes "message") ∷ (codes "origin") ∷ (codes "place") ∷ (codes "due") ∷ (codes "enqueued") ∷ (codes "receives") ∷ (codes "group") ∷ (codes "md5") ∷ []) ∷
    ((codes "final") ∷ (codes "q") ∷ (codes "m-0-1") ∷ (codes "o-0-1") ∷ (codes "inflight") ∷ (codes "7410") ∷ (codes "1") ∷ (codes "1") ∷ [] ∷ digest (codes "bad") ∷ []) ∷
    ((codes "transfer") ∷ (codes "from") ∷ (codes "to") ∷ (codes "kind") ∷ (codes "due") ∷ (codes "number") ∷ (codes "message") ∷ (codes "origin") ∷ (codes "md5") ∷ []) ∷
    ((codes "task") ∷ (codes "name") ∷ (codes "status") ∷ (codes "moved") ∷ []) ∷
    ((codes "report") ∷ (codes "queue") ∷ (codes "sends") ∷ (codes "repeats") ∷ (codes "receives") ∷ (codes "empties") ∷ (codes "deletes") ∷ (codes "expiries") ∷ (codes "redrives") ∷ (codes "moves") ∷ (codes "arrivals") ∷ (codes "OverLimit") ∷ (codes "MessageNotInflight") ∷ (codes "ReceiptHandleIsInvalid") ∷ (codes "BadTimeout") ∷ (codes "MissingGroup") ∷ (codes "MissingDeduplication") ∷ (codes "BadDelay") ∷ (codes "TaskRunning") ∷ (codes "NoTask") ∷ (codes "depth_max") ∷ (codes "visible") ∷ (codes "in_flight") ∷ (codes "delayed") ∷ (codes "age_sum") ∷ (codes "age_max") ∷ (codes "age_p50") ∷ (codes "age_p95") ∷ (codes "age_p99") ∷ []) ∷
    ((codes "report") ∷ (codes "q") ∷ (codes "3") ∷ (codes "0") ∷ (codes "3") ∷ (codes "0") ∷ (codes "2") ∷ (codes "0") ∷ (codes "0") ∷ (codes "0") ∷ (codes "0") ∷ (codes "0") ∷ (codes "0") ∷ (codes "0") ∷ (codes "0") ∷ (codes "0") ∷ (codes "0") ∷ (codes "0") ∷ (codes "0") ∷ (codes "0") ∷ (codes "3") ∷ (codes "0") ∷ (codes "1") ∷ (codes "0") ∷ (codes "618") ∷ (codes "508") ∷ (codes "110") ∷ (codes "508") ∷ (codes "508") ∷ []) ∷ [])
unfolding reading_on_literals running_on_literals columns_of
case_0_failed_service_takes_its_own_time = refl

-- version-3/failed_service_with_heartbeats.toml
case_0_failed_service_with_heartbeats : shown_upto 3 71 [] (codes "# The service of m-0-0 fails, and takes 2500 ms. Its heartbeats of 1010 and 2010 prolong the timeout to 3010 and 4010.\n# At 2510 it ends. Then m-0-1 is served in 100 ms. At 4010 m-0-0 comes back, and fails once more, until 6510.\nversion = 3\nhorizon = 4500\n[[queue]]\nname = \"q\"\nvisibility_s = 2\n[[actor]]\nname = \"c\"\nkind = \"consumer\"\nqueue = \"q\"\nstart_ms = 10\nwait_s = 20\nservice_min_ms = 100\nservice_max_ms = 100\nfail_service_ms = 2500\nfails_on = \"bad\"\nheartbeat_s = 1\n[[actor]]\nname = \"s\"\nkind = \"script\"\nqueue = \"q\"\ncalls = \"\"\"\nat,call,body,group,id,delay,receipt,max,wait,timeout,task\n0,send,bad,,,,,,,,\n5,send,a,,,,,,,,\n\"\"\"\n")
    ≡ ran (((codes "at") ∷ (codes "queue") ∷ (codes "agent") ∷ (codes "call") ∷ (codes "answer") ∷ (codes "message") ∷ (codes "receipt") ∷ (codes "detail") ∷ []) ∷
    ((codes "0") ∷ (codes "q") ∷ (codes "s") ∷ (codes "send") ∷ (codes "new") ∷ (codes "m-0-0") ∷ [] ∷ digest (codes "bad") ∷ []) ∷
    ((codes "5") ∷ (codes "q") ∷ (codes "s") ∷ (codes "send") ∷ (codes "new") ∷ (codes "m-0-1") ∷ [] ∷ digest (codes "a") ∷ []) ∷
    ((codes "10") ∷ (codes "q") ∷ (codes "c") ∷ (codes "receive") ∷ (codes "ok") ∷ (codes "m-0-0") ∷ (codes "r-0-0-1") ∷ (codes "o-0-0") ∷ []) ∷
    ((codes "1010") ∷ (codes "q") ∷ (codes "c") ∷ (codes "change") ∷ (codes "ok") ∷ (codes "m-0-0") ∷ (codes "r-0-0-1") ∷ (codes "2") ∷ []) ∷
    ((codes "2010") ∷ (codes "q") ∷ (codes "c") ∷ (codes "change") ∷ (codes "ok") ∷ (codes "m-0-0") ∷ (codes "r-0-0-1") ∷ (codes "2") ∷ []) ∷
    ((codes "2510") ∷ (codes "q") ∷ (codes "c") ∷ (codes "fail") ∷ (codes "ok") ∷ (codes "m-0-0") ∷ (codes "r-0-0-1") ∷ [] ∷ []) ∷
    ((codes "2511") ∷ (codes "q") ∷ (codes "c") ∷ (codes "receive") ∷ (codes "ok") ∷ (codes "m-0-1") ∷ (codes "r-0-1-1") ∷ (codes "o-0-1") ∷ []) ∷
    ((codes "2611") ∷ (codes "q") ∷ (codes "c") ∷ (codes "delete") ∷ (codes "deleted") ∷ (codes "m-0-1") ∷ (codes "r-0-1-1") ∷ (codes "2606") ∷ []) ∷
    ((codes "2612") ∷ (codes "q") ∷ (codes "c") ∷ (codes "receive") ∷ (codes "wait") ∷ [] ∷ [] ∷ [] ∷ []) ∷
    ((codes "4010") ∷ (codes "q") ∷ (codes "q") ∷ (codes "release") ∷ (codes "visible") ∷ (codes "m-0-0") ∷ [] ∷ [] ∷ []) ∷
    ((codes "4010") ∷ (codes "q") ∷ (codes "c") ∷ (codes "receive") ∷ (codes "ok") ∷ (codes "m-0-0") ∷ (codes "r-0-0-2") ∷ (codes "o-0-0") ∷ []) ∷
    ((codes "final") ∷ (codes "queue") ∷ (codes "message") ∷ (codes "origin") ∷ (codes "place") ∷ (codes "due") ∷ (codes "enqueued") ∷ (codes "receives") ∷ (codes "group") ∷ (codes "md5") ∷ []) ∷
    ((codes "final") ∷ (codes "q") ∷ (codes "m-0-0") ∷ (codes "o-0-0") ∷ (codes "inflight") ∷ (codes "6010") ∷ (codes "0") ∷ (codes "2") ∷ [] ∷ digest (codes "bad") ∷ []) ∷
    ((codes "transfer") ∷ (codes "from") ∷ (codes "to") ∷ (codes "kind") ∷ (codes "due") ∷ (codes "number") ∷ (codes "message") ∷ (codes "origin") ∷ (codes "md5") ∷ []) ∷
    ((codes "task") ∷ (codes "name") ∷ (codes "status") ∷ (codes "moved") ∷ []) ∷
    ((codes "report") ∷ (codes "queue") ∷ (codes "sends") ∷ (codes "repeats") ∷ (codes "receives") ∷ (codes "empties") ∷ (codes "deletes") ∷ (codes "expiries") ∷ (codes "redrives") ∷ (codes "moves") ∷ (codes "arrivals") ∷ (codes "OverLimit") ∷ (codes "MessageNotInflight") ∷ (codes "ReceiptHandleIsInvalid") ∷ (codes "BadTimeout") ∷ (codes "MissingGroup") ∷ (codes "MissingDeduplication") ∷ (codes "BadDelay") ∷ (codes "TaskRunning") ∷ (codes "NoTask") ∷ (codes "depth_max") ∷ (codes "visible") ∷ (codes "in_flight") ∷ (codes "delayed") ∷ (codes "age_sum") ∷ (codes "age_max") ∷ (codes "age_p50") ∷ (codes "age_p95") ∷ (codes "age_p99") ∷ []) ∷
    ((codes "report") ∷ (codes "q") ∷ (codes "2") ∷ (codes "0") ∷ (codes "3") ∷ (codes "0") ∷ (codes "1") ∷ (codes "0") ∷ (codes "0") ∷ (codes "0") ∷ (codes "0") ∷ (codes "0") ∷ (codes "0") ∷ (codes "0") ∷ (codes "0") ∷ (codes "0") ∷ (codes "0") ∷ (codes "0") ∷ (codes "0") ∷ (codes "0") ∷ (codes "2") ∷ (codes "0") ∷ (codes "1") ∷ (codes "0") ∷ (codes "2606") ∷ (codes "2606") ∷ (codes "2606") ∷ (codes "2606") ∷ (codes "2606") ∷ []) ∷ [])
unfolding reading_on_literals running_on_literals columns_of
case_0_failed_service_with_heartbeats = refl

-- version-3/fails_on_a_text.toml
case_0_fails_on_a_text : shown_upto 3 67 [] (codes "# Words of agent 1: 839.344 (first service: 100 + 839 = 939, so it ends at 949), 982.301 (its chance, which is taken\n# although the body decides), 739.102 (second service: 100 + 739 = 839, from 949 to 1788). Only m-0-0 has \"bad\" in it.\nversion = 3\nhorizon = 3000\n[[queue]]\nname = \"q\"\n[[actor]]\nname = \"c\"\nkind = \"consumer\"\nqueue = \"q\"\nstart_ms = 10\nbatch = 2\nwait_s = 20\nservice_min_ms = 100\nservice_max_ms = 1099\nfails_on = \"bad\"\n[[actor]]\nname = \"s\"\nkind = \"script\"\nqueue = \"q\"\ncalls = \"\"\"\nat,call,body,group,id,delay,receipt,max,wait,timeout,task\n0,send,a bad one,,,,,,,,\n1,send,b,,,,,,,,\n\"\"\"\n")
    ≡ ran (((codes "at") ∷ (codes "queue") ∷ (codes "agent") ∷ (codes "call") ∷ (codes "answer") ∷ (codes "message") ∷ (codes "receipt") ∷ (codes "detail") ∷ []) ∷
    ((codes "0") ∷ (codes "q") ∷ (codes "s") ∷ (codes "send") ∷ (codes "new") ∷ (codes "m-0-0") ∷ [] ∷ digest (codes "a bad one") ∷ []) ∷
    ((codes "1") ∷ (codes "q") ∷ (codes "s") ∷ (codes "send") ∷ (codes "new") ∷ (codes "m-0-1") ∷ [] ∷ digest (codes "b") ∷ []) ∷
    ((codes "10") ∷ (codes "q") ∷ (codes "c") ∷ (codes "receive") ∷ (codes "ok") ∷ (codes "m-0-0") ∷ (codes "r-0-0-1") ∷ (codes "o-0-0") ∷ []) ∷
    ((codes "10") ∷ (codes "q") ∷ (codes "c") ∷ (codes "receive") ∷ (codes "ok") ∷ (codes "m-0-1") ∷ (codes "r-0-1-1") ∷ (codes "o-0-1") ∷ []) ∷
    ((codes "949") ∷ (codes "q") ∷ (codes "c") ∷ (codes "fail") ∷ (codes "ok") ∷ (codes "m-0-0") ∷ (codes "r-0-0-1") ∷ [] ∷ []) ∷
    ((codes "1788") ∷ (codes "q") ∷ (codes "c") ∷ (codes "delete") ∷ (codes "deleted") ∷ (codes "m-0-1") ∷ (codes "r-0-1-1") ∷ (codes "1787") ∷ []) ∷
    ((codes "1789") ∷ (codes "q") ∷ (codes "c") ∷ (codes "receive") ∷ (codes "wait") ∷ [] ∷ [] ∷ [] ∷ []) ∷
    ((codes "final") ∷ (codes "queue") ∷ (codes "message") ∷ (codes "origin") ∷ (codes "place") ∷ (codes "due") ∷ (codes "enqueued") ∷ (codes "receives") ∷ (codes "group") ∷ (codes "md5") ∷ []) ∷
    ((codes "final") ∷ (codes "q") ∷ (codes "m-0-0") ∷ (codes "o-0-0") ∷ (codes "inflight") ∷ (codes "30010") ∷ (codes "0") ∷ (codes "1") ∷ [] ∷ digest (codes "a bad one") ∷ []) ∷
    ((codes "transfer") ∷ (codes "from") ∷ (codes "to") ∷ (codes "kind") ∷ (codes "due") ∷ (codes "number") ∷ (codes "message") ∷ (codes "origin") ∷ (codes "md5") ∷ []) ∷
    ((codes "task") ∷ (codes "name") ∷ (codes "status") ∷ (codes "moved") ∷ []) ∷
    ((codes "report") ∷ (codes "queue") ∷ (codes "sends") ∷ (codes "repeats") ∷ (codes "receives") ∷ (codes "empties") ∷ (codes "deletes") ∷ (codes "expiries") ∷ (codes "redrives") ∷ (codes "moves") ∷ (codes "arrivals") ∷ (codes "OverLimit") ∷ (codes "MessageNotInflight") ∷ (codes "ReceiptHandleIsInvalid") ∷ (codes "BadTimeout") ∷ (codes "MissingGroup") ∷ (codes "MissingDeduplication") ∷ (codes "BadDelay") ∷ (codes "TaskRunning") ∷ (codes "NoTask") ∷ (codes "depth_max") ∷ (codes "visible") ∷ (codes "in_flight") ∷ (codes "delayed") ∷ (codes "age_sum") ∷ (codes "age_max") ∷ (codes "age_p50") ∷ (codes "age_p95") ∷ (codes "age_p99") ∷ []) ∷
    ((codes "report") ∷ (codes "q") ∷ (codes "2") ∷ (codes "0") ∷ (codes "2") ∷ (codes "0") ∷ (codes "1") ∷ (codes "0") ∷ (codes "0") ∷ (codes "0") ∷ (codes "0") ∷ (codes "0") ∷ (codes "0") ∷ (codes "0") ∷ (codes "0") ∷ (codes "0") ∷ (codes "0") ∷ (codes "0") ∷ (codes "0") ∷ (codes "0") ∷ (codes "2") ∷ (codes "0") ∷ (codes "1") ∷ (codes "0") ∷ (codes "1787") ∷ (codes "1787") ∷ (codes "1787") ∷ (codes "1787") ∷ (codes "1787") ∷ []) ∷ [])
unfolding reading_on_literals running_on_literals columns_of
case_0_fails_on_a_text = refl

-- version-3/forward_draws_each_latency.toml
case_0_forward_draws_each_latency : shown_upto 3 82 [] (codes "# Words of agent 2: 717.678 (time of the first service, 100 + 71), 447.024 (its chance, not below 400), then the latencies\n# of three forwards: 12.444 (50 + 1), 505.346 (50 + 50) and 192.088 (50 + 19). 387.809 (time of the second service,\n# 100 + 38) and 121.336 (its chance: it fails, and no latency is drawn). 70.690 (time of the third, 100 + 7), 584.602 (its\n# chance), and 831.091, 396.802 and 696.814 (latencies of 50 + 83, 50 + 39 and 50 + 69).\nversion = 3\nhorizon = 1000\n[[queue]]\nname = \"q\"\n[[queue]]\nname = \"p\"\n[[actor]]\nname = \"c\"\nkind = \"consumer\"\nqueue = \"q\"\nstart_ms = 10\nbatch = 3\nwait_s = 20\nservice_min_ms = 100\nservice_max_ms = 199\nfail_permille = 400\nforward = [\"p\", \"p\", \"p\"]\nlatency_min_ms = 50\nlatency_max_ms = 149\n[[actor]]\nname = \"s\"\nkind = \"script\"\nqueue = \"q\"\ncalls = \"\"\"\nat,call,body,group,id,delay,receipt,max,wait,timeout,task\n0,send,a,,,,,,,,\n1,send,b,,,,,,,,\n2,send,c,,,,,,,,\n\"\"\"\n")
    ≡ ran (((codes "at") ∷ (codes "queue") ∷ (codes "agent") ∷ (codes "call") ∷ (codes "answer") ∷ (codes "message") ∷ (codes "receipt") ∷ (codes "detail") ∷ []) ∷
    ((codes "0") ∷ (codes "q") ∷ (codes "s") ∷ (codes "send") ∷ (codes "new") ∷ (codes "m-0-0") ∷ [] ∷ digest (codes "a") ∷ []) ∷
    ((codes "1") ∷ (codes "q") ∷ (codes "s") ∷ (codes "send") ∷ (codes "new") ∷ (codes "m-0-1") ∷ [] ∷ digest (codes "b") ∷ []) ∷
    ((codes "2") ∷ (codes "q") ∷ (codes "s") ∷ (codes "send") ∷ (codes "new") ∷ (codes "m-0-2") ∷ [] ∷ digest (codes "c") ∷ []) ∷
    ((codes "10") ∷ (codes "q") ∷ (codes "c") ∷ (codes "receive") ∷ (codes "ok") ∷ (codes "m-0-0") ∷ (codes "r-0-0-1") ∷ (codes "o-0-0") ∷ []) ∷
    ((codes "10") ∷ (codes "q") ∷ (codes "c") ∷ (codes "receive") ∷ (codes "ok") ∷ (codes "m-0-1") ∷ (codes "r-0-1-1") ∷ (codes "o-0-1") ∷ []) ∷
    ((codes "10") ∷ (codes "q") ∷ (codes "c") ∷ (codes "receive") ∷ (codes "ok") ∷ (codes "m-0-2") ∷ (codes "r-0-2-1") ∷ (codes "o-0-2") ∷ []) ∷
    ((codes "181") ∷ (codes "q") ∷ (codes "c") ∷ (codes "forward") ∷ (codes "out") ∷ (codes "m-0-0") ∷ [] ∷ (codes "p") ∷ []) ∷
    ((codes "181") ∷ (codes "q") ∷ (codes "c") ∷ (codes "forward") ∷ (codes "out") ∷ (codes "m-0-0") ∷ [] ∷ (codes "p") ∷ []) ∷
    ((codes "181") ∷ (codes "q") ∷ (codes "c") ∷ (codes "forward") ∷ (codes "out") ∷ (codes "m-0-0") ∷ [] ∷ (codes "p") ∷ []) ∷
    ((codes "181") ∷ (codes "q") ∷ (codes "c") ∷ (codes "delete") ∷ (codes "deleted") ∷ (codes "m-0-0") ∷ (codes "r-0-0-1") ∷ (codes "181") ∷ []) ∷
    ((codes "232") ∷ (codes "p") ∷ (codes "c") ∷ (codes "arrive") ∷ (codes "new") ∷ (codes "m-1-0") ∷ [] ∷ (codes "o-1-0") ∷ []) ∷
    ((codes "250") ∷ (codes "p") ∷ (codes "c") ∷ (codes "arrive") ∷ (codes "new") ∷ (codes "m-1-1") ∷ [] ∷ (codes "o-1-1") ∷ []) ∷
    ((codes "281") ∷ (codes "p") ∷ (codes "c") ∷ (codes "arrive") ∷ (codes "new") ∷ (codes "m-1-2") ∷ [] ∷ (codes "o-1-2") ∷ []) ∷
    ((codes "319") ∷ (codes "q") ∷ (codes "c") ∷ (codes "fail") ∷ (codes "ok") ∷ (codes "m-0-1") ∷ (codes "r-0-1-1") ∷ [] ∷ []) ∷
    ((codes "426") ∷ (codes "q") ∷ (codes "c") ∷ (codes "forward") ∷ (codes "out") ∷ (codes "m-0-2") ∷ [] ∷ (codes "p") ∷ []) ∷
    ((codes "426") ∷ (codes "q") ∷ (codes "c") ∷ (codes "forward") ∷ (codes "out") ∷ (codes "m-0-2") ∷ [] ∷ (codes "p") ∷ []) ∷
    ((codes "426") ∷ (codes "q") ∷ (codes "c") ∷ (codes "forward") ∷ (codes "out") ∷ (codes "m-0-2") ∷ [] ∷ (codes "p") ∷ []) ∷
    ((codes "426") ∷ (codes "q") ∷ (codes "c") ∷ (codes "delete") ∷ (codes "deleted") ∷ (codes "m-0-2") ∷ (codes "r-0-2-1") ∷ (codes "424") ∷ []) ∷
    ((codes "427") ∷ (codes "q") ∷ (codes "c") ∷ (codes "receive") ∷ (codes "wait") ∷ [] ∷ [] ∷ [] ∷ []) ∷
    ((codes "515") ∷ (codes "p") ∷ (codes "c") ∷ (codes "arrive") ∷ (codes "new") ∷ (codes "m-1-3") ∷ [] ∷ (codes "o-1-3") ∷ []) ∷
    ((codes "545") ∷ (codes "p") ∷ (codes "c") ∷ (codes "arrive") ∷ (codes "new") ∷ (codes "m-1-4") ∷ [] ∷ (codes "o-1-4") ∷ []) ∷
    ((codes "559") ∷ (codes "p") ∷ (codes "c") ∷ (codes "arrive") ∷ (codes "new") ∷ (codes "m-1-5") ∷ [] ∷ (codes "o-1-5") ∷ []) ∷
    ((codes "final") ∷ (codes "queue") ∷ (codes "message") ∷ (codes "origin") ∷ (codes "place") ∷ (codes "due") ∷ (codes "enqueued") ∷ (codes "receives") ∷ (codes "group") ∷ (codes "md5") ∷ []) ∷
    ((codes "final") ∷ (codes "q") ∷ (codes "m-0-1") ∷ (codes "o-0-1") ∷ (codes "inflight") ∷ (codes "30010") ∷ (codes "1") ∷ (codes "1") ∷ [] ∷ digest (codes "b") ∷ []) ∷
    ((codes "final") ∷ (codes "p") ∷ (codes "m-1-0") ∷ (codes "o-1-0") ∷ (codes "visible") ∷ [] ∷ (codes "232") ∷ (codes "0") ∷ [] ∷ digest (codes "a") ∷ []) ∷
    ((codes "final") ∷ (codes "p") ∷ (codes "m-1-1") ∷ (codes "o-1-1") ∷ (codes "visible") ∷ [] ∷ (codes "250") ∷ (codes "0") ∷ [] ∷ digest (codes "a") ∷ []) ∷
    ((codes "final") ∷ (codes "p") ∷ (codes "m-1-2") ∷ (codes "o-1-2") ∷ (codes "visible") ∷ [] ∷ (codes "281") ∷ (codes "0") ∷ [] ∷ digest (codes "a") ∷ []) ∷
    ((codes "final") ∷ (codes "p") ∷ (codes "m-1-3") ∷ (codes "o-1-3") ∷ (codes "visible") ∷ [] ∷ (codes "515") ∷ (codes "0") ∷ [] ∷ digest (codes "c") ∷ []) ∷
    ((codes "final") ∷ (codes "p") ∷ (codes "m-1-4") ∷ (codes "o-1-4") ∷ (codes "visible") ∷ [] ∷ (codes "545") ∷ (codes "0") ∷ [] ∷ digest (codes "c") ∷ []) ∷
    ((codes "final") ∷ (codes "p") ∷ (codes "m-1-5") ∷ (codes "o-1-5") ∷ (codes "visible") ∷ [] ∷ (codes "559") ∷ (codes "0") ∷ [] ∷ digest (codes "c") ∷ []) ∷
    ((codes "transfer") ∷ (codes "from") ∷ (codes "to") ∷ (codes "kind") ∷ (codes "due") ∷ (codes "number") ∷ (codes "message") ∷ (codes "origin") ∷ (codes "md5") ∷ []) ∷
    ((codes "task") ∷ (codes "name") ∷ (codes "status") ∷ (codes "moved") ∷ []) ∷
    ((codes "report") ∷ (codes "queue") ∷ (codes "sends") ∷ (codes "repeats") ∷ (codes "receives") ∷ (codes "empties") ∷ (codes "deletes") ∷ (codes "expiries") ∷ (codes "redrives") ∷ (codes "moves") ∷ (codes "arrivals") ∷ (codes "OverLimit") ∷ (codes "MessageNotInflight") ∷ (codes "ReceiptHandleIsInvalid") ∷ (codes "BadTimeout") ∷ (codes "MissingGroup") ∷ (codes "MissingDeduplication") ∷ (codes "BadDelay") ∷ (codes "TaskRunning") ∷ (codes "NoTask") ∷ (codes "depth_max") ∷ (codes "visible") ∷ (codes "in_flight") ∷ (codes "delayed") ∷ (codes "age_sum") ∷ (codes "age_max") ∷ (codes "age_p50") ∷ (codes "age_p95") ∷ (codes "age_p99") ∷ []) ∷
    ((codes "report") ∷ (codes "q") ∷ (codes "3") ∷ (codes "0") ∷ (codes "3") ∷ (codes "0") ∷ (codes "2") ∷ (codes "0") ∷ (codes "0") ∷ (codes "0") ∷ (codes "0") ∷ (codes "0") ∷ (codes "0") ∷ (codes "0") ∷ (codes "0") ∷ (codes "0") ∷ (codes "0") ∷ (codes "0") ∷ (codes "0") ∷ (codes "0") ∷ (codes "3") ∷ (codes "0") ∷ (codes "1") ∷ (codes "0") ∷ (codes "605") ∷ (codes "424") ∷ (codes "181") ∷ (codes "424") ∷ (codes "424") ∷ []) ∷
    ((codes "report") ∷ (codes "p") ∷ (codes "0") ∷ (codes "0") ∷ (codes "0") ∷ (codes "0") ∷ (codes "0") ∷ (codes "0") ∷ (codes "0") ∷ (codes "0") ∷ (codes "6") ∷ (codes "0") ∷ (codes "0") ∷ (codes "0") ∷ (codes "0") ∷ (codes "0") ∷ (codes "0") ∷ (codes "0") ∷ (codes "0") ∷ (codes "0") ∷ (codes "6") ∷ (codes "6") ∷ (codes "0") ∷ (codes "0") ∷ (codes "0") ∷ [] ∷ [] ∷ [] ∷ [] ∷ []) ∷ [])
unfolding reading_on_literals running_on_literals columns_of
case_0_forward_draws_each_latency = refl

-- version-3/forward_keeps_fifo_groups.toml
case_0_forward_keeps_fifo_groups : shown_upto 3 79 [] (codes "# At each queue a forward has the group of the served message, and its id as deduplication id. So the second forward to\n# p.fifo is a repeat of the first.\nversion = 3\nhorizon = 1000\n[[queue]]\nname = \"q.fifo\"\n[[queue]]\nname = \"p.fifo\"\n[[queue]]\nname = \"r.fifo\"\n[[actor]]\nname = \"c\"\nkind = \"consumer\"\nqueue = \"q.fifo\"\nstart_ms = 10\nbatch = 2\nwait_s = 20\nservice_min_ms = 50\nservice_max_ms = 50\nforward = [\"p.fifo\", \"r.fifo\", \"p.fifo\"]\nlatency_min_ms = 30\nlatency_max_ms = 30\n[[actor]]\nname = \"s\"\nkind = \"script\"\nqueue = \"q.fifo\"\ncalls = \"\"\"\nat,call,body,group,id,delay,receipt,max,wait,timeout,task\n0,send,a,g,x,,,,,,\n1,send,b,h,y,,,,,,\n\"\"\"\n")
    ≡ ran (((codes "at") ∷ (codes "queue") ∷ (codes "agent") ∷ (codes "call") ∷ (codes "answer") ∷ (codes "message") ∷ (codes "receipt") ∷ (codes "detail") ∷ []) ∷
    ((codes "0") ∷ (codes "q.fifo") ∷ (codes "s") ∷ (codes "send") ∷ (codes "new") ∷ (codes "m-0-0") ∷ [] ∷ digest (codes "a") ∷ []) ∷
    ((codes "1") ∷ (codes "q.fifo") ∷ (codes "s") ∷ (codes "send") ∷ (codes "new") ∷ (codes "m-0-1") ∷ [] ∷ digest (codes "b") ∷ []) ∷
    ((codes "10") ∷ (codes "q.fifo") ∷ (codes "c") ∷ (codes "receive") ∷ (codes "ok") ∷ (codes "m-0-0") ∷ (codes "r-0-0-1") ∷ (codes "o-0-0") ∷ []) ∷
    ((codes "10") ∷ (codes "q.fifo") ∷ (codes "c") ∷ (codes "receive") ∷ (codes "ok") ∷ (codes "m-0-1") ∷ (codes "r-0-1-1") ∷ (codes "o-0-1") ∷ []) ∷
    ((codes "60") ∷ (codes "q.fifo") ∷ (codes "c") ∷ (codes "forward") ∷ (codes "out") ∷ (codes "m-0-0") ∷ [] ∷ (codes "p.fifo") ∷ []) ∷
    ((codes "60") ∷ (codes "q.fifo") ∷ (codes "c") ∷ (codes "forward") ∷ (codes "out") ∷ (codes "m-0-0") ∷ [] ∷ (codes "r.fifo") ∷ []) ∷
    ((codes "60") ∷ (codes "q.fifo") ∷ (codes "c") ∷ (codes "forward") ∷ (codes "out") ∷ (codes "m-0-0") ∷ [] ∷ (codes "p.fifo") ∷ []) ∷
    ((codes "60") ∷ (codes "q.fifo") ∷ (codes "c") ∷ (codes "delete") ∷ (codes "deleted") ∷ (codes "m-0-0") ∷ (codes "r-0-0-1") ∷ (codes "60") ∷ []) ∷
    ((codes "90") ∷ (codes "p.fifo") ∷ (codes "c") ∷ (codes "arrive") ∷ (codes "new") ∷ (codes "m-1-0") ∷ [] ∷ (codes "o-1-0") ∷ []) ∷
    ((codes "90") ∷ (codes "r.fifo") ∷ (codes "c") ∷ (codes "arrive") ∷ (codes "new") ∷ (codes "m-2-0") ∷ [] ∷ (codes "o-2-0") ∷ []) ∷
    ((codes "90") ∷ (codes "p.fifo") ∷ (codes "c") ∷ (codes "arrive") ∷ (codes "repeat") ∷ (codes "m-1-0") ∷ [] ∷ (codes "o-1-0") ∷ []) ∷
    ((codes "110") ∷ (codes "q.fifo") ∷ (codes "c") ∷ (codes "forward") ∷ (codes "out") ∷ (codes "m-0-1") ∷ [] ∷ (codes "p.fifo") ∷ []) ∷
    ((codes "110") ∷ (codes "q.fifo") ∷ (codes "c") ∷ (codes "forward") ∷ (codes "out") ∷ (codes "m-0-1") ∷ [] ∷ (codes "r.fifo") ∷ []) ∷
    ((codes "110") ∷ (codes "q.fifo") ∷ (codes "c") ∷ (codes "forward") ∷ (codes "out") ∷ (codes "m-0-1") ∷ [] ∷ (codes "p.fifo") ∷ []) ∷
    ((codes "110") ∷ (codes "q.fifo") ∷ (codes "c") ∷ (codes "delete") ∷ (codes "deleted") ∷ (codes "m-0-1") ∷ (codes "r-0-1-1") ∷ (codes "109") ∷ []) ∷
    ((codes "111") ∷ (codes "q.fifo") ∷ (codes "c") ∷ (codes "receive") ∷ (codes "wait") ∷ [] ∷ [] ∷ [] ∷ []) ∷
    ((codes "140") ∷ (codes "p.fifo") ∷ (codes "c") ∷ (codes "arrive") ∷ (codes "new") ∷ (codes "m-1-1") ∷ [] ∷ (codes "o-1-1") ∷ []) ∷
    ((codes "140") ∷ (codes "r.fifo") ∷ (codes "c") ∷ (codes "arrive") ∷ (codes "new") ∷ (codes "m-2-1") ∷ [] ∷ (codes "o-2-1") ∷ []) ∷
    ((codes "140") ∷ (codes "p.fifo") ∷ (codes "c") ∷ (codes "arrive") ∷ (codes "repeat") ∷ (codes "m-1-1") ∷ [] ∷ (codes "o-1-1") ∷ []) ∷
    ((codes "final") ∷ (codes "queue") ∷ (codes "message") ∷ (codes "origin") ∷ (codes "place") ∷ (codes "due") ∷ (codes "enqueued") ∷ (codes "receives") ∷ (codes "group") ∷ (codes "md5") ∷ []) ∷
    ((codes "final") ∷ (codes "p.fifo") ∷ (codes "m-1-0") ∷ (codes "o-1-0") ∷ (codes "visible") ∷ [] ∷ (codes "90") ∷ (codes "0") ∷ (codes "g") ∷ digest (codes "a") ∷ []) ∷
    ((codes "final") ∷ (codes "p.fifo") ∷ (codes "m-1-1") ∷ (codes "o-1-1") ∷ (codes "visible") ∷ [] ∷ (codes "140") ∷ (codes "0") ∷ (codes "h") ∷ digest (codes "b") ∷ []) ∷
    ((codes "final") ∷ (codes "r.fifo") ∷ (codes "m-2-0") ∷ (codes "o-2-0") ∷ (codes "visible") ∷ [] ∷ (codes "90") ∷ (codes "0") ∷ (codes "g") ∷ digest (codes "a") ∷ []) ∷
    ((codes "final") ∷ (codes "r.fifo") ∷ (codes "m-2-1") ∷ (codes "o-2-1") ∷ (codes "visible") ∷ [] ∷ (codes "140") ∷ (codes "0") ∷ (codes "h") ∷ digest (codes "b") ∷ []) ∷
    ((codes "transfer") ∷ (codes "from") ∷ (codes "to") ∷ (codes "kind") ∷ (codes "due") ∷ (codes "number") ∷ (codes "message") ∷ (codes "origin") ∷ (codes "md5") ∷ []) ∷
    ((codes "task") ∷ (codes "name") ∷ (codes "status") ∷ (codes "moved") ∷ []) ∷
    ((codes "report") ∷ (codes "queue") ∷ (codes "sends") ∷ (codes "repeats") ∷ (codes "receives") ∷ (codes "empties") ∷ (codes "deletes") ∷ (codes "expiries") ∷ (codes "redrives") ∷ (codes "moves") ∷ (codes "arrivals") ∷ (codes "OverLimit") ∷ (codes "MessageNotInflight") ∷ (codes "ReceiptHandleIsInvalid") ∷ (codes "BadTimeout") ∷ (codes "MissingGroup") ∷ (codes "MissingDeduplication") ∷ (codes "BadDelay") ∷ (codes "TaskRunning") ∷ (codes "NoTask") ∷ (codes "depth_max") ∷ (codes "visible") ∷ (codes "in_flight") ∷ (codes "delayed") ∷ (codes "age_sum") ∷ (codes "age_max") ∷ (codes "age_p50") ∷ (codes "age_p95") ∷ (codes "age_p99") ∷ []) ∷
    ((codes "report") ∷ (codes "q.fifo") ∷ (codes "2") ∷ (codes "0") ∷ (codes "2") ∷ (codes "0") ∷ (codes "2") ∷ (codes "0") ∷ (codes "0") ∷ (codes "0") ∷ (codes "0") ∷ (codes "0") ∷ (codes "0") ∷ (codes "0") ∷ (codes "0") ∷ (codes "0") ∷ (codes "0") ∷ (codes "0") ∷ (codes "0") ∷ (codes "0") ∷ (codes "2") ∷ (codes "0") ∷ (codes "0") ∷ (codes "0") ∷ (codes "169") ∷ (codes "109") ∷ (codes "60") ∷ (codes "109") ∷ (codes "109") ∷ []) ∷
    ((codes "report") ∷ (codes "p.fifo") ∷ (codes "0") ∷ (codes "2") ∷ (codes "0") ∷ (codes "0") ∷ (codes "0") ∷ (codes "0") ∷ (codes "0") ∷ (codes "0") ∷ (codes "2") ∷ (codes "0") ∷ (codes "0") ∷ (codes "0") ∷ (codes "0") ∷ (codes "0") ∷ (codes "0") ∷ (codes "0") ∷ (codes "0") ∷ (codes "0") ∷ (codes "2") ∷ (codes "2") ∷ (codes "0") ∷ (codes "0") ∷ (codes "0") ∷ [] ∷ [] ∷ [] ∷ [] ∷ []) ∷
    ((codes "report") ∷ (codes "r.fifo") ∷ (codes "0") ∷ (codes "0") ∷ (codes "0") ∷ (codes "0") ∷ (codes "0") ∷ (codes "0") ∷ (codes "0") ∷ (codes "0") ∷ (codes "2") ∷ (codes "0") ∷ (codes "0") ∷ (codes "0") ∷ (codes "0") ∷ (codes "0") ∷ (codes "0") ∷ (codes "0") ∷ (codes "0") ∷ (codes "0") ∷ (codes "2") ∷ (codes "2") ∷ (codes "0") ∷ (codes "0") ∷ (codes "0") ∷ [] ∷ [] ∷ [] ∷ [] ∷ []) ∷ [])
unfolding reading_on_literals running_on_literals columns_of
case_0_forward_keeps_fifo_groups = refl

-- version-3/forward_to_a_list_of_one.toml
case_0_forward_to_a_list_of_one : shown_upto 3 66 [] (codes "# A list of one queue is the same as its name.\nversion = 3\nhorizon = 1000\n[[queue]]\nname = \"q\"\n[[queue]]\nname = \"p\"\n[[actor]]\nname = \"c\"\nkind = \"consumer\"\nqueue = \"q\"\nstart_ms = 10\nwait_s = 20\nservice_min_ms = 50\nservice_max_ms = 50\nforward = [\"p\"]\nlatency_min_ms = 30\nlatency_max_ms = 30\n[[actor]]\nname = \"s\"\nkind = \"script\"\nqueue = \"q\"\ncalls = \"\"\"\nat,call,body,group,id,delay,receipt,max,wait,timeout,task\n0,send,a,,,,,,,,\n\"\"\"\n")
    ≡ ran (((codes "at") ∷ (codes "queue") ∷ (codes "agent") ∷ (codes "call") ∷ (codes "answer") ∷ (codes "message") ∷ (codes "receipt") ∷ (codes "detail") ∷ []) ∷
    ((codes "0") ∷ (codes "q") ∷ (codes "s") ∷ (codes "send") ∷ (codes "new") ∷ (codes "m-0-0") ∷ [] ∷ digest (codes "a") ∷ []) ∷
    ((codes "10") ∷ (codes "q") ∷ (codes "c") ∷ (codes "receive") ∷ (codes "ok") ∷ (codes "m-0-0") ∷ (codes "r-0-0-1") ∷ (codes "o-0-0") ∷ []) ∷
    ((codes "60") ∷ (codes "q") ∷ (codes "c") ∷ (codes "forward") ∷ (codes "out") ∷ (codes "m-0-0") ∷ [] ∷ (codes "p") ∷ []) ∷
    ((codes "60") ∷ (codes "q") ∷ (codes "c") ∷ (codes "delete") ∷ (codes "deleted") ∷ (codes "m-0-0") ∷ (codes "r-0-0-1") ∷ (codes "60") ∷ []) ∷
    ((codes "61") ∷ (codes "q") ∷ (codes "c") ∷ (codes "receive") ∷ (codes "wait") ∷ [] ∷ [] ∷ [] ∷ []) ∷
    ((codes "90") ∷ (codes "p") ∷ (codes "c") ∷ (codes "arrive") ∷ (codes "new") ∷ (codes "m-1-0") ∷ [] ∷ (codes "o-1-0") ∷ []) ∷
    ((codes "final") ∷ (codes "queue") ∷ (codes "message") ∷ (codes "origin") ∷ (codes "place") ∷ (codes "due") ∷ (codes "enqueued") ∷ (codes "receives") ∷ (codes "group") ∷ (codes "md5") ∷ []) ∷
    ((codes "final") ∷ (codes "p") ∷ (codes "m-1-0") ∷ (codes "o-1-0") ∷ (codes "visible") ∷ [] ∷ (codes "90") ∷ (codes "0") ∷ [] ∷ digest (codes "a") ∷ []) ∷
    ((codes "transfer") ∷ (codes "from") ∷ (codes "to") ∷ (codes "kind") ∷ (codes "due") ∷ (codes "number") ∷ (codes "message") ∷ (codes "origin") ∷ (codes "md5") ∷ []) ∷
    ((codes "task") ∷ (codes "name") ∷ (codes "status") ∷ (codes "moved") ∷ []) ∷
    ((codes "report") ∷ (codes "queue") ∷ (codes "sends") ∷ (codes "repeats") ∷ (codes "receives") ∷ (codes "empties") ∷ (codes "deletes") ∷ (codes "expiries") ∷ (codes "redrives") ∷ (codes "moves") ∷ (codes "arrivals") ∷ (codes "OverLimit") ∷ (codes "MessageNotInflight") ∷ (codes "ReceiptHandleIsInvalid") ∷ (codes "BadTimeout") ∷ (codes "MissingGroup") ∷ (codes "MissingDeduplication") ∷ (codes "BadDelay") ∷ (codes "TaskRunning") ∷ (codes "NoTask") ∷ (codes "depth_max") ∷ (codes "visible") ∷ (codes "in_flight") ∷ (codes "delayed") ∷ (codes "age_sum") ∷ (codes "age_max") ∷ (codes "age_p50") ∷ (codes "age_p95") ∷ (codes "age_p99") ∷ []) ∷
    ((codes "report") ∷ (codes "q") ∷ (codes "1") ∷ (codes "0") ∷ (codes "1") ∷ (codes "0") ∷ (codes "1") ∷ (codes "0") ∷ (codes "0") ∷ (codes "0") ∷ (codes "0") ∷ (codes "0") ∷ (codes "0") ∷ (codes "0") ∷ (codes "0") ∷ (codes "0") ∷ (codes "0") ∷ (codes "0") ∷ (codes "0") ∷ (codes "0") ∷ (codes "1") ∷ (codes "0") ∷ (codes "0") ∷ (codes "0") ∷ (codes "60") ∷ (codes "60") ∷ (codes "60") ∷ (codes "60") ∷ (codes "60") ∷ []) ∷
    ((codes "report") ∷ (codes "p") ∷ (codes "0") ∷ (codes "0") ∷ (codes "0") ∷ (codes "0") ∷ (codes "0") ∷ (codes "0") ∷ (codes "0") ∷ (codes "0") ∷ (codes "1") ∷ (codes "0") ∷ (codes "0") ∷ (codes "0") ∷ (codes "0") ∷ (codes "0") ∷ (codes "0") ∷ (codes "0") ∷ (codes "0") ∷ (codes "0") ∷ (codes "1") ∷ (codes "1") ∷ (codes "0") ∷ (codes "0") ∷ (codes "0") ∷ [] ∷ [] ∷ [] ∷ [] ∷ []) ∷ [])
unfolding reading_on_literals running_on_literals columns_of
case_0_forward_to_a_list_of_one = refl

-- version-3/forward_to_a_queue_twice.toml
case_0_forward_to_a_queue_twice : shown_upto 3 70 [] (codes "# A standard queue that is named twice gets two messages, which know nothing of each other.\nversion = 3\nhorizon = 1000\n[[queue]]\nname = \"q\"\n[[queue]]\nname = \"p\"\n[[queue]]\nname = \"r\"\n[[actor]]\nname = \"c\"\nkind = \"consumer\"\nqueue = \"q\"\nstart_ms = 10\nwait_s = 20\nservice_min_ms = 50\nservice_max_ms = 50\nforward = [\"p\", \"r\", \"p\"]\nlatency_min_ms = 30\nlatency_max_ms = 30\n[[actor]]\nname = \"s\"\nkind = \"script\"\nqueue = \"q\"\ncalls = \"\"\"\nat,call,body,group,id,delay,receipt,max,wait,timeout,task\n0,send,a,,,,,,,,\n\"\"\"\n")
    ≡ ran (((codes "at") ∷ (codes "queue") ∷ (codes "agent") ∷ (codes "call") ∷ (codes "answer") ∷ (codes "message") ∷ (codes "receipt") ∷ (codes "detail") ∷ []) ∷
    ((codes "0") ∷ (codes "q") ∷ (codes "s") ∷ (codes "send") ∷ (codes "new") ∷ (codes "m-0-0") ∷ [] ∷ digest (codes "a") ∷ []) ∷
    ((codes "10") ∷ (codes "q") ∷ (codes "c") ∷ (codes "receive") ∷ (codes "ok") ∷ (codes "m-0-0") ∷ (codes "r-0-0-1") ∷ (codes "o-0-0") ∷ []) ∷
    ((codes "60") ∷ (codes "q") ∷ (codes "c") ∷ (codes "forward") ∷ (codes "out") ∷ (codes "m-0-0") ∷ [] ∷ (codes "p") ∷ []) ∷
    ((codes "60") ∷ (codes "q") ∷ (codes "c") ∷ (codes "forward") ∷ (codes "out") ∷ (codes "m-0-0") ∷ [] ∷ (codes "r") ∷ []) ∷
    ((codes "60") ∷ (codes "q") ∷ (codes "c") ∷ (codes "forward") ∷ (codes "out") ∷ (codes "m-0-0") ∷ [] ∷ (codes "p") ∷ []) ∷
    ((codes "60") ∷ (codes "q") ∷ (codes "c") ∷ (codes "delete") ∷ (codes "deleted") ∷ (codes "m-0-0") ∷ (codes "r-0-0-1") ∷ (codes "60") ∷ []) ∷
    ((codes "61") ∷ (codes "q") ∷ (codes "c") ∷ (codes "receive") ∷ (codes "wait") ∷ [] ∷ [] ∷ [] ∷ []) ∷
    ((codes "90") ∷ (codes "p") ∷ (codes "c") ∷ (codes "arrive") ∷ (codes "new") ∷ (codes "m-1-0") ∷ [] ∷ (codes "o-1-0") ∷ []) ∷
    ((codes "90") ∷ (codes "r") ∷ (codes "c") ∷ (codes "arrive") ∷ (codes "new") ∷ (codes "m-2-0") ∷ [] ∷ (codes "o-2-0") ∷ []) ∷
    ((codes "90") ∷ (codes "p") ∷ (codes "c") ∷ (codes "arrive") ∷ (codes "new") ∷ (codes "m-1-1") ∷ [] ∷ (codes "o-1-1") ∷ []) ∷
    ((codes "final") ∷ (codes "queue") ∷ (codes "message") ∷ (codes "origin") ∷ (codes "place") ∷ (codes "due") ∷ (codes "enqueued") ∷ (codes "receives") ∷ (codes "group") ∷ (codes "md5") ∷ []) ∷
    ((codes "final") ∷ (codes "p") ∷ (codes "m-1-0") ∷ (codes "o-1-0") ∷ (codes "visible") ∷ [] ∷ (codes "90") ∷ (codes "0") ∷ [] ∷ digest (codes "a") ∷ []) ∷
    ((codes "final") ∷ (codes "p") ∷ (codes "m-1-1") ∷ (codes "o-1-1") ∷ (codes "visible") ∷ [] ∷ (codes "90") ∷ (codes "0") ∷ [] ∷ digest (codes "a") ∷ []) ∷
    ((codes "final") ∷ (codes "r") ∷ (codes "m-2-0") ∷ (codes "o-2-0") ∷ (codes "visible") ∷ [] ∷ (codes "90") ∷ (codes "0") ∷ [] ∷ digest (codes "a") ∷ []) ∷
    ((codes "transfer") ∷ (codes "from") ∷ (codes "to") ∷ (codes "kind") ∷ (codes "due") ∷ (codes "number") ∷ (codes "message") ∷ (codes "origin") ∷ (codes "md5") ∷ []) ∷
    ((codes "task") ∷ (codes "name") ∷ (codes "status") ∷ (codes "moved") ∷ []) ∷
    ((codes "report") ∷ (codes "queue") ∷ (codes "sends") ∷ (codes "repeats") ∷ (codes "receives") ∷ (codes "empties") ∷ (codes "deletes") ∷ (codes "expiries") ∷ (codes "redrives") ∷ (codes "moves") ∷ (codes "arrivals") ∷ (codes "OverLimit") ∷ (codes "MessageNotInflight") ∷ (codes "ReceiptHandleIsInvalid") ∷ (codes "BadTimeout") ∷ (codes "MissingGroup") ∷ (codes "MissingDeduplication") ∷ (codes "BadDelay") ∷ (codes "TaskRunning") ∷ (codes "NoTask") ∷ (codes "depth_max") ∷ (codes "visible") ∷ (codes "in_flight") ∷ (codes "delayed") ∷ (codes "age_sum") ∷ (codes "age_max") ∷ (codes "age_p50") ∷ (codes "age_p95") ∷ (codes "age_p99") ∷ []) ∷
    ((codes "report") ∷ (codes "q") ∷ (codes "1") ∷ (codes "0") ∷ (codes "1") ∷ (codes "0") ∷ (codes "1") ∷ (codes "0") ∷ (codes "0") ∷ (codes "0") ∷ (codes "0") ∷ (codes "0") ∷ (codes "0") ∷ (codes "0") ∷ (codes "0") ∷ (codes "0") ∷ (codes "0") ∷ (codes "0") ∷ (codes "0") ∷ (codes "0") ∷ (codes "1") ∷ (codes "0") ∷ (codes "0") ∷ (codes "0") ∷ (codes "60") ∷ (codes "60") ∷ (codes "60") ∷ (codes "60") ∷ (codes "60") ∷ []) ∷
    ((codes "report") ∷ (codes "p") ∷ (codes "0") ∷ (codes "0") ∷ (codes "0") ∷ (codes "0") ∷ (codes "0") ∷ (codes "0") ∷ (codes "0") ∷ (codes "0") ∷ (codes "2") ∷ (codes "0") ∷ (codes "0") ∷ (codes "0") ∷ (codes "0") ∷ (codes "0") ∷ (codes "0") ∷ (codes "0") ∷ (codes "0") ∷ (codes "0") ∷ (codes "2") ∷ (codes "2") ∷ (codes "0") ∷ (codes "0") ∷ (codes "0") ∷ [] ∷ [] ∷ [] ∷ [] ∷ []) ∷
    ((codes "report") ∷ (codes "r") ∷ (codes "0") ∷ (codes "0") ∷ (codes "0") ∷ (codes "0") ∷ (codes "0") ∷ (codes "0") ∷ (codes "0") ∷ (codes "0") ∷ (codes "1") ∷ (codes "0") ∷ (codes "0") ∷ (codes "0") ∷ (codes "0") ∷ (codes "0") ∷ (codes "0") ∷ (codes "0") ∷ (codes "0") ∷ (codes "0") ∷ (codes "1") ∷ (codes "1") ∷ (codes "0") ∷ (codes "0") ∷ (codes "0") ∷ [] ∷ [] ∷ [] ∷ [] ∷ []) ∷ [])
unfolding reading_on_literals running_on_literals columns_of
case_0_forward_to_a_queue_twice = refl

-- version-3/forward_to_the_home_and_another.toml
case_0_forward_to_the_home_and_another : shown_upto 3 80 [] (codes "# Each service brings one message back to q and sends one to p. At the horizon the last two are under way.\nversion = 3\nhorizon = 390\n[[queue]]\nname = \"q\"\n[[queue]]\nname = \"p\"\n[[actor]]\nname = \"c\"\nkind = \"consumer\"\nqueue = \"q\"\nstart_ms = 10\nwait_s = 20\nservice_min_ms = 100\nservice_max_ms = 100\nforward = [\"q\", \"p\"]\nlatency_min_ms = 30\nlatency_max_ms = 30\n[[actor]]\nname = \"s\"\nkind = \"script\"\nqueue = \"q\"\ncalls = \"\"\"\nat,call,body,group,id,delay,receipt,max,wait,timeout,task\n0,send,a,,,,,,,,\n\"\"\"\n")
    ≡ ran (((codes "at") ∷ (codes "queue") ∷ (codes "agent") ∷ (codes "call") ∷ (codes "answer") ∷ (codes "message") ∷ (codes "receipt") ∷ (codes "detail") ∷ []) ∷
    ((codes "0") ∷ (codes "q") ∷ (codes "s") ∷ (codes "send") ∷ (codes "new") ∷ (codes "m-0-0") ∷ [] ∷ digest (codes "a") ∷ []) ∷
    ((codes "10") ∷ (codes "q") ∷ (codes "c") ∷ (codes "receive") ∷ (codes "ok") ∷ (codes "m-0-0") ∷ (codes "r-0-0-1") ∷ (codes "o-0-0") ∷ []) ∷
    ((codes "110") ∷ (codes "q") ∷ (codes "c") ∷ (codes "forward") ∷ (codes "out") ∷ (codes "m-0-0") ∷ [] ∷ (codes "q") ∷ []) ∷
    ((codes "110") ∷ (codes "q") ∷ (codes "c") ∷ (codes "forward") ∷ (codes "out") ∷ (codes "m-0-0") ∷ [] ∷ (codes "p") ∷ []) ∷
    ((codes "110") ∷ (codes "q") ∷ (codes "c") ∷ (codes "delete") ∷ (codes "deleted") ∷ (codes "m-0-0") ∷ (codes "r-0-0-1") ∷ (codes "110") ∷ []) ∷
    ((codes "111") ∷ (codes "q") ∷ (codes "c") ∷ (codes "receive") ∷ (codes "wait") ∷ [] ∷ [] ∷ [] ∷ []) ∷
    ((codes "140") ∷ (codes "q") ∷ (codes "c") ∷ (codes "arrive") ∷ (codes "new") ∷ (codes "m-0-1") ∷ [] ∷ (codes "o-0-1") ∷ []) ∷
    ((codes "140") ∷ (codes "q") ∷ (codes "c") ∷ (codes "receive") ∷ (codes "ok") ∷ (codes "m-0-1") ∷ (codes "r-0-1-1") ∷ (codes "o-0-1") ∷ []) ∷
    ((codes "140") ∷ (codes "p") ∷ (codes "c") ∷ (codes "arrive") ∷ (codes "new") ∷ (codes "m-1-0") ∷ [] ∷ (codes "o-1-0") ∷ []) ∷
    ((codes "240") ∷ (codes "q") ∷ (codes "c") ∷ (codes "forward") ∷ (codes "out") ∷ (codes "m-0-1") ∷ [] ∷ (codes "q") ∷ []) ∷
    ((codes "240") ∷ (codes "q") ∷ (codes "c") ∷ (codes "forward") ∷ (codes "out") ∷ (codes "m-0-1") ∷ [] ∷ (codes "p") ∷ []) ∷
    ((codes "240") ∷ (codes "q") ∷ (codes "c") ∷ (codes "delete") ∷ (codes "deleted") ∷ (codes "m-0-1") ∷ (codes "r-0-1-1") ∷ (codes "100") ∷ []) ∷
    ((codes "241") ∷ (codes "q") ∷ (codes "c") ∷ (codes "receive") ∷ (codes "wait") ∷ [] ∷ [] ∷ [] ∷ []) ∷
    ((codes "270") ∷ (codes "q") ∷ (codes "c") ∷ (codes "arrive") ∷ (codes "new") ∷ (codes "m-0-2") ∷ [] ∷ (codes "o-0-2") ∷ []) ∷
    ((codes "270") ∷ (codes "q") ∷ (codes "c") ∷ (codes "receive") ∷ (codes "ok") ∷ (codes "m-0-2") ∷ (codes "r-0-2-1") ∷ (codes "o-0-2") ∷ []) ∷
    ((codes "270") ∷ (codes "p") ∷ (codes "c") ∷ (codes "arrive") ∷ (codes "new") ∷ (codes "m-1-1") ∷ [] ∷ (codes "o-1-1") ∷ []) ∷
    ((codes "370") ∷ (codes "q") ∷ (codes "c") ∷ (codes "forward") ∷ (codes "out") ∷ (codes "m-0-2") ∷ [] ∷ (codes "q") ∷ []) ∷
    ((codes "370") ∷ (codes "q") ∷ (codes "c") ∷ (codes "forward") ∷ (codes "out") ∷ (codes "m-0-2") ∷ [] ∷ (codes "p") ∷ []) ∷
    ((codes "370") ∷ (codes "q") ∷ (codes "c") ∷ (codes "delete") ∷ (codes "deleted") ∷ (codes "m-0-2") ∷ (codes "r-0-2-1") ∷ (codes "100") ∷ []) ∷
    ((codes "371") ∷ (codes "q") ∷ (codes "c") ∷ (codes "receive") ∷ (codes "wait") ∷ [] ∷ [] ∷ [] ∷ []) ∷
    ((codes "final") ∷ (codes "queue") ∷ (codes "message") ∷ (codes "origin") ∷ (codes "place") ∷ (codes "due") ∷ (codes "enqueued") ∷ (codes "receives") ∷ (codes "group") ∷ (codes "md5") ∷ []) ∷
    ((codes "final") ∷ (codes "p") ∷ (codes "m-1-0") ∷ (codes "o-1-0") ∷ (codes "visible") ∷ [] ∷ (codes "140") ∷ (codes "0") ∷ [] ∷ digest (codes "a") ∷ []) ∷
    ((codes "final") ∷ (codes "p") ∷ (codes "m-1-1") ∷ (codes "o-1-1") ∷ (codes "visible") ∷ [] ∷ (codes "270") ∷ (codes "0") ∷ [] ∷ digest (codes "a") ∷ []) ∷
    ((codes "transfer") ∷ (codes "from") ∷ (codes "to") ∷ (codes "kind") ∷ (codes "due") ∷ (codes "number") ∷ (codes "message") ∷ (codes "origin") ∷ (codes "md5") ∷ []) ∷
    ((codes "transfer") ∷ (codes "q") ∷ (codes "q") ∷ (codes "forward") ∷ (codes "400") ∷ (codes "4") ∷ (codes "m-0-2") ∷ [] ∷ digest (codes "a") ∷ []) ∷
    ((codes "transfer") ∷ (codes "q") ∷ (codes "p") ∷ (codes "forward") ∷ (codes "400") ∷ (codes "5") ∷ (codes "m-0-2") ∷ [] ∷ digest (codes "a") ∷ []) ∷
    ((codes "task") ∷ (codes "name") ∷ (codes "status") ∷ (codes "moved") ∷ []) ∷
    ((codes "report") ∷ (codes "queue") ∷ (codes "sends") ∷ (codes "repeats") ∷ (codes "receives") ∷ (codes "empties") ∷ (codes "deletes") ∷ (codes "expiries") ∷ (codes "redrives") ∷ (codes "moves") ∷ (codes "arrivals") ∷ (codes "OverLimit") ∷ (codes "MessageNotInflight") ∷ (codes "ReceiptHandleIsInvalid") ∷ (codes "BadTimeout") ∷ (codes "MissingGroup") ∷ (codes "MissingDeduplication") ∷ (codes "BadDelay") ∷ (codes "TaskRunning") ∷ (codes "NoTask") ∷ (codes "depth_max") ∷ (codes "visible") ∷ (codes "in_flight") ∷ (codes "delayed") ∷ (codes "age_sum") ∷ (codes "age_max") ∷ (codes "age_p50") ∷ (codes "age_p95") ∷ (codes "age_p99") ∷ []) ∷
    ((codes "report") ∷ (codes "q") ∷ (codes "1") ∷ (codes "0") ∷ (codes "3") ∷ (codes "0") ∷ (codes "3") ∷ (codes "0") ∷ (codes "0") ∷ (codes "0") ∷ (codes "2") ∷ (codes "0") ∷ (codes "0") ∷ (codes "0") ∷ (codes "0") ∷ (codes "0") ∷ (codes "0") ∷ (codes "0") ∷ (codes "0") ∷ (codes "0") ∷ (codes "1") ∷ (codes "0") ∷ (codes "0") ∷ (codes "0") ∷ (codes "310") ∷ (codes "110") ∷ (codes "100") ∷ (codes "110") ∷ (codes "110") ∷ []) ∷
    ((codes "report") ∷ (codes "p") ∷ (codes "0") ∷ (codes "0") ∷ (codes "0") ∷ (codes "0") ∷ (codes "0") ∷ (codes "0") ∷ (codes "0") ∷ (codes "0") ∷ (codes "2") ∷ (codes "0") ∷ (codes "0") ∷ (codes "0") ∷ (codes "0") ∷ (codes "0") ∷ (codes "0") ∷ (codes "0") ∷ (codes "0") ∷ (codes "0") ∷ (codes "2") ∷ (codes "2") ∷ (codes "0") ∷ (codes "0") ∷ (codes "0") ∷ [] ∷ [] ∷ [] ∷ [] ∷ []) ∷ [])
unfolding reading_on_literals running_on_literals columns_of
case_0_forward_to_the_home_and_another = refl

-- version-3/forward_to_two_queues.toml
case_0_forward_to_two_queues : shown_upto 3 75 [] (codes "# A message goes to each queue of the list, in this order, and both take 30 ms. At 90 and at 140 the transfers arrive by\n# their numbers: the one to r was sent first.\nversion = 3\nhorizon = 1000\n[[queue]]\nname = \"q\"\n[[queue]]\nname = \"p\"\n[[queue]]\nname = \"r\"\n[[actor]]\nname = \"c\"\nkind = \"consumer\"\nqueue = \"q\"\nstart_ms = 10\nbatch = 2\nwait_s = 20\nservice_min_ms = 50\nservice_max_ms = 50\nforward = [\"r\", \"p\"]\nlatency_min_ms = 30\nlatency_max_ms = 30\n[[actor]]\nname = \"s\"\nkind = \"script\"\nqueue = \"q\"\ncalls = \"\"\"\nat,call,body,group,id,delay,receipt,max,wait,timeout,task\n0,send,a,,,,,,,,\n1,send,b,,,,,,,,\n\"\"\"\n")
    ≡ ran (((codes "at") ∷ (codes "queue") ∷ (codes "agent") ∷ (codes "call") ∷ (codes "answer") ∷ (codes "message") ∷ (codes "receipt") ∷ (codes "detail") ∷ []) ∷
    ((codes "0") ∷ (codes "q") ∷ (codes "s") ∷ (codes "send") ∷ (codes "new") ∷ (codes "m-0-0") ∷ [] ∷ digest (codes "a") ∷ []) ∷
    ((codes "1") ∷ (codes "q") ∷ (codes "s") ∷ (codes "send") ∷ (codes "new") ∷ (codes "m-0-1") ∷ [] ∷ digest (codes "b") ∷ []) ∷
    ((codes "10") ∷ (codes "q") ∷ (codes "c") ∷ (codes "receive") ∷ (codes "ok") ∷ (codes "m-0-0") ∷ (codes "r-0-0-1") ∷ (codes "o-0-0") ∷ []) ∷
    ((codes "10") ∷ (codes "q") ∷ (codes "c") ∷ (codes "receive") ∷ (codes "ok") ∷ (codes "m-0-1") ∷ (codes "r-0-1-1") ∷ (codes "o-0-1") ∷ []) ∷
    ((codes "60") ∷ (codes "q") ∷ (codes "c") ∷ (codes "forward") ∷ (codes "out") ∷ (codes "m-0-0") ∷ [] ∷ (codes "r") ∷ []) ∷
    ((codes "60") ∷ (codes "q") ∷ (codes "c") ∷ (codes "forward") ∷ (codes "out") ∷ (codes "m-0-0") ∷ [] ∷ (codes "p") ∷ []) ∷
    ((codes "60") ∷ (codes "q") ∷ (codes "c") ∷ (codes "delete") ∷ (codes "deleted") ∷ (codes "m-0-0") ∷ (codes "r-0-0-1") ∷ (codes "60") ∷ []) ∷
    ((codes "90") ∷ (codes "r") ∷ (codes "c") ∷ (codes "arrive") ∷ (codes "new") ∷ (codes "m-2-0") ∷ [] ∷ (codes "o-2-0") ∷ []) ∷
    ((codes "90") ∷ (codes "p") ∷ (codes "c") ∷ (codes "arrive") ∷ (codes "new") ∷ (codes "m-1-0") ∷ [] ∷ (codes "o-1-0") ∷ []) ∷
    ((codes "110") ∷ (codes "q") ∷ (codes "c") ∷ (codes "forward") ∷ (codes "out") ∷ (codes "m-0-1") ∷ [] ∷ (codes "r") ∷ []) ∷
    ((codes "110") ∷ (codes "q") ∷ (codes "c") ∷ (codes "forward") ∷ (codes "out") ∷ (codes "m-0-1") ∷ [] ∷ (codes "p") ∷ []) ∷
    ((codes "110") ∷ (codes "q") ∷ (codes "c") ∷ (codes "delete") ∷ (codes "deleted") ∷ (codes "m-0-1") ∷ (codes "r-0-1-1") ∷ (codes "109") ∷ []) ∷
    ((codes "111") ∷ (codes "q") ∷ (codes "c") ∷ (codes "receive") ∷ (codes "wait") ∷ [] ∷ [] ∷ [] ∷ []) ∷
    ((codes "140") ∷ (codes "r") ∷ (codes "c") ∷ (codes "arrive") ∷ (codes "new") ∷ (codes "m-2-1") ∷ [] ∷ (codes "o-2-1") ∷ []) ∷
    ((codes "140") ∷ (codes "p") ∷ (codes "c") ∷ (codes "arrive") ∷ (codes "new") ∷ (codes "m-1-1") ∷ [] ∷ (codes "o-1-1") ∷ []) ∷
    ((codes "final") ∷ (codes "queue") ∷ (codes "message") ∷ (codes "origin") ∷ (codes "place") ∷ (codes "due") ∷ (codes "enqueued") ∷ (codes "receives") ∷ (codes "group") ∷ (codes "md5") ∷ []) ∷
    ((codes "final") ∷ (codes "p") ∷ (codes "m-1-0") ∷ (codes "o-1-0") ∷ (codes "visible") ∷ [] ∷ (codes "90") ∷ (codes "0") ∷ [] ∷ digest (codes "a") ∷ []) ∷
    ((codes "final") ∷ (codes "p") ∷ (codes "m-1-1") ∷ (codes "o-1-1") ∷ (codes "visible") ∷ [] ∷ (codes "140") ∷ (codes "0") ∷ [] ∷ digest (codes "b") ∷ []) ∷
    ((codes "final") ∷ (codes "r") ∷ (codes "m-2-0") ∷ (codes "o-2-0") ∷ (codes "visible") ∷ [] ∷ (codes "90") ∷ (codes "0") ∷ [] ∷ digest (codes "a") ∷ []) ∷
    ((codes "final") ∷ (codes "r") ∷ (codes "m-2-1") ∷ (codes "o-2-1") ∷ (codes "visible") ∷ [] ∷ (codes "140") ∷ (codes "0") ∷ [] ∷ digest (codes "b") ∷ []) ∷
    ((codes "transfer") ∷ (codes "from") ∷ (codes "to") ∷ (codes "kind") ∷ (codes "due") ∷ (codes "number") ∷ (codes "message") ∷ (codes "origin") ∷ (codes "md5") ∷ []) ∷
    ((codes "task") ∷ (codes "name") ∷ (codes "status") ∷ (codes "moved") ∷ []) ∷
    ((codes "report") ∷ (codes "queue") ∷ (codes "sends") ∷ (codes "repeats") ∷ (codes "receives") ∷ (codes "empties") ∷ (codes "deletes") ∷ (codes "expiries") ∷ (codes "redrives") ∷ (codes "moves") ∷ (codes "arrivals") ∷ (codes "OverLimit") ∷ (codes "MessageNotInflight") ∷ (codes "ReceiptHandleIsInvalid") ∷ (codes "BadTimeout") ∷ (codes "MissingGroup") ∷ (codes "MissingDeduplication") ∷ (codes "BadDelay") ∷ (codes "TaskRunning") ∷ (codes "NoTask") ∷ (codes "depth_max") ∷ (codes "visible") ∷ (codes "in_flight") ∷ (codes "delayed") ∷ (codes "age_sum") ∷ (codes "age_max") ∷ (codes "age_p50") ∷ (codes "age_p95") ∷ (codes "age_p99") ∷ []) ∷
    ((codes "report") ∷ (codes "q") ∷ (codes "2") ∷ (codes "0") ∷ (codes "2") ∷ (codes "0") ∷ (codes "2") ∷ (codes "0") ∷ (codes "0") ∷ (codes "0") ∷ (codes "0") ∷ (codes "0") ∷ (codes "0") ∷ (codes "0") ∷ (codes "0") ∷ (codes "0") ∷ (codes "0") ∷ (codes "0") ∷ (codes "0") ∷ (codes "0") ∷ (codes "2") ∷ (codes "0") ∷ (codes "0") ∷ (codes "0") ∷ (codes "169") ∷ (codes "109") ∷ (codes "60") ∷ (codes "109") ∷ (codes "109") ∷ []) ∷
    ((codes "report") ∷ (codes "p") ∷ (codes "0") ∷ (codes "0") ∷ (codes "0") ∷ (codes "0") ∷ (codes "0") ∷ (codes "0") ∷ (codes "0") ∷ (codes "0") ∷ (codes "2") ∷ (codes "0") ∷ (codes "0") ∷ (codes "0") ∷ (codes "0") ∷ (codes "0") ∷ (codes "0") ∷ (codes "0") ∷ (codes "0") ∷ (codes "0") ∷ (codes "2") ∷ (codes "2") ∷ (codes "0") ∷ (codes "0") ∷ (codes "0") ∷ [] ∷ [] ∷ [] ∷ [] ∷ []) ∷
    ((codes "report") ∷ (codes "r") ∷ (codes "0") ∷ (codes "0") ∷ (codes "0") ∷ (codes "0") ∷ (codes "0") ∷ (codes "0") ∷ (codes "0") ∷ (codes "0") ∷ (codes "2") ∷ (codes "0") ∷ (codes "0") ∷ (codes "0") ∷ (codes "0") ∷ (codes "0") ∷ (codes "0") ∷ (codes "0") ∷ (codes "0") ∷ (codes "0") ∷ (codes "2") ∷ (codes "2") ∷ (codes "0") ∷ (codes "0") ∷ (codes "0") ∷ [] ∷ [] ∷ [] ∷ [] ∷ []) ∷ [])
unfolding reading_on_literals running_on_literals columns_of
case_0_forward_to_two_queues = refl

-- version-3/gap_by_quantiles.toml
case_0_gap_by_quantiles : shown_upto 3 63 [] (codes "# Words of agent 1: 839.344 is between 800 and 1000: 400 + 39.344 / 200 * 600 = 518.03, so 518. 982.301 likewise: 400 +\n# 182.301 / 200 * 600 = 946.90, so 946. So the sends are at 5, 523 and 1469.\nversion = 3\nhorizon = 3000\n[[queue]]\nname = \"q\"\n[[actor]]\nname = \"p\"\nkind = \"producer\"\nqueue = \"q\"\ncount = 3\nstart_ms = 5\ngap = [[0, 100], [500, 100], [800, 400], [1000, 1000]]\nbody = \"a\"\n")
    ≡ ran (((codes "at") ∷ (codes "queue") ∷ (codes "agent") ∷ (codes "call") ∷ (codes "answer") ∷ (codes "message") ∷ (codes "receipt") ∷ (codes "detail") ∷ []) ∷
    ((codes "5") ∷ (codes "q") ∷ (codes "p") ∷ (codes "send") ∷ (codes "new") ∷ (codes "m-0-0") ∷ [] ∷ digest (codes "a") ∷ []) ∷
    ((codes "523") ∷ (codes "q") ∷ (codes "p") ∷ (codes "send") ∷ (codes "new") ∷ (codes "m-0-1") ∷ [] ∷ digest (codes "a") ∷ []) ∷
    ((codes "1469") ∷ (codes "q") ∷ (codes "p") ∷ (codes "send") ∷ (codes "new") ∷ (codes "m-0-2") ∷ [] ∷ digest (codes "a") ∷ []) ∷
    ((codes "final") ∷ (codes "queue") ∷ (codes "message") ∷ (codes "origin") ∷ (codes "place") ∷ (codes "due") ∷ (codes "enqueued") ∷ (codes "receives") ∷ (codes "group") ∷ (codes "md5") ∷ []) ∷
    ((codes "final") ∷ (codes "q") ∷ (codes "m-0-0") ∷ (codes "o-0-0") ∷ (codes "visible") ∷ [] ∷ (codes "5") ∷ (codes "0") ∷ [] ∷ digest (codes "a") ∷ []) ∷
    ((codes "final") ∷ (codes "q") ∷ (codes "m-0-1") ∷ (codes "o-0-1") ∷ (codes "visible") ∷ [] ∷ (codes "523") ∷ (codes "0") ∷ [] ∷ digest (codes "a") ∷ []) ∷
    ((codes "final") ∷ (codes "q") ∷ (codes "m-0-2") ∷ (codes "o-0-2") ∷ (codes "visible") ∷ [] ∷ (codes "1469") ∷ (codes "0") ∷ [] ∷ digest (codes "a") ∷ []) ∷
    ((codes "transfer") ∷ (codes "from") ∷ (codes "to") ∷ (codes "kind") ∷ (codes "due") ∷ (codes "number") ∷ (codes "message") ∷ (codes "origin") ∷ (codes "md5") ∷ []) ∷
    ((codes "task") ∷ (codes "name") ∷ (codes "status") ∷ (codes "moved") ∷ []) ∷
    ((codes "report") ∷ (codes "queue") ∷ (codes "sends") ∷ (codes "repeats") ∷ (codes "receives") ∷ (codes "empties") ∷ (codes "deletes") ∷ (codes "expiries") ∷ (codes "redrives") ∷ (codes "moves") ∷ (codes "arrivals") ∷ (codes "OverLimit") ∷ (codes "MessageNotInflight") ∷ (codes "ReceiptHandleIsInvalid") ∷ (codes "BadTimeout") ∷ (codes "MissingGroup") ∷ (codes "MissingDeduplication") ∷ (codes "BadDelay") ∷ (codes "TaskRunning") ∷ (codes "NoTask") ∷ (codes "depth_max") ∷ (codes "visible") ∷ (codes "in_flight") ∷ (codes "delayed") ∷ (codes "age_sum") ∷ (codes "age_max") ∷ (codes "age_p50") ∷ (codes "age_p95") ∷ (codes "age_p99") ∷ []) ∷
    ((codes "report") ∷ (codes "q") ∷ (codes "3") ∷ (codes "0") ∷ (codes "0") ∷ (codes "0") ∷ (codes "0") ∷ (codes "0") ∷ (codes "0") ∷ (codes "0") ∷ (codes "0") ∷ (codes "0") ∷ (codes "0") ∷ (codes "0") ∷ (codes "0") ∷ (codes "0") ∷ (codes "0") ∷ (codes "0") ∷ (codes "0") ∷ (codes "0") ∷ (codes "3") ∷ (codes "3") ∷ (codes "0") ∷ (codes "0") ∷ (codes "0") ∷ [] ∷ [] ∷ [] ∷ [] ∷ []) ∷ [])
unfolding reading_on_literals running_on_literals columns_of
case_0_gap_by_quantiles = refl

-- version-3/gathers_and_finds_nothing.toml
case_0_gathers_and_finds_nothing : shown_upto 3 67 [] (codes "# It gathers until 3010. The poll of 11 ends at 2011, two whole seconds later. It rests for 999 ms, until 3010, and asks a\n# last time. Then it serves what it has.\nversion = 3\nhorizon = 3200\n[[queue]]\nname = \"q\"\n[[actor]]\nname = \"c\"\nkind = \"consumer\"\nqueue = \"q\"\nstart_ms = 10\nbatch = 2\ngather_ms = 3000\nwait_s = 20\nservice_min_ms = 100\nservice_max_ms = 100\n[[actor]]\nname = \"s\"\nkind = \"script\"\nqueue = \"q\"\ncalls = \"\"\"\nat,call,body,group,id,delay,receipt,max,wait,timeout,task\n5,send,a,,,,,,,,\n\"\"\"\n")
    ≡ ran (((codes "at") ∷ (codes "queue") ∷ (codes "agent") ∷ (codes "call") ∷ (codes "answer") ∷ (codes "message") ∷ (codes "receipt") ∷ (codes "detail") ∷ []) ∷
    ((codes "5") ∷ (codes "q") ∷ (codes "s") ∷ (codes "send") ∷ (codes "new") ∷ (codes "m-0-0") ∷ [] ∷ digest (codes "a") ∷ []) ∷
    ((codes "10") ∷ (codes "q") ∷ (codes "c") ∷ (codes "receive") ∷ (codes "ok") ∷ (codes "m-0-0") ∷ (codes "r-0-0-1") ∷ (codes "o-0-0") ∷ []) ∷
    ((codes "11") ∷ (codes "q") ∷ (codes "c") ∷ (codes "receive") ∷ (codes "wait") ∷ [] ∷ [] ∷ [] ∷ []) ∷
    ((codes "2011") ∷ (codes "q") ∷ (codes "c") ∷ (codes "receive") ∷ (codes "empty") ∷ [] ∷ [] ∷ [] ∷ []) ∷
    ((codes "3010") ∷ (codes "q") ∷ (codes "c") ∷ (codes "receive") ∷ (codes "empty") ∷ [] ∷ [] ∷ [] ∷ []) ∷
    ((codes "3110") ∷ (codes "q") ∷ (codes "c") ∷ (codes "delete") ∷ (codes "deleted") ∷ (codes "m-0-0") ∷ (codes "r-0-0-1") ∷ (codes "3105") ∷ []) ∷
    ((codes "3111") ∷ (codes "q") ∷ (codes "c") ∷ (codes "receive") ∷ (codes "wait") ∷ [] ∷ [] ∷ [] ∷ []) ∷
    ((codes "final") ∷ (codes "queue") ∷ (codes "message") ∷ (codes "origin") ∷ (codes "place") ∷ (codes "due") ∷ (codes "enqueued") ∷ (codes "receives") ∷ (codes "group") ∷ (codes "md5") ∷ []) ∷
    ((codes "transfer") ∷ (codes "from") ∷ (codes "to") ∷ (codes "kind") ∷ (codes "due") ∷ (codes "number") ∷ (codes "message") ∷ (codes "origin") ∷ (codes "md5") ∷ []) ∷
    ((codes "task") ∷ (codes "name") ∷ (codes "status") ∷ (codes "moved") ∷ []) ∷
    ((codes "report") ∷ (codes "queue") ∷ (codes "sends") ∷ (codes "repeats") ∷ (codes "receives") ∷ (codes "empties") ∷ (codes "deletes") ∷ (codes "expiries") ∷ (codes "redrives") ∷ (codes "moves") ∷ (codes "arrivals") ∷ (codes "OverLimit") ∷ (codes "MessageNotInflight") ∷ (codes "ReceiptHandleIsInvalid") ∷ (codes "BadTimeout") ∷ (codes "MissingGroup") ∷ (codes "MissingDeduplication") ∷ (codes "BadDelay") ∷ (codes "TaskRunning") ∷ (codes "NoTask") ∷ (codes "depth_max") ∷ (codes "visible") ∷ (codes "in_flight") ∷ (codes "delayed") ∷ (codes "age_sum") ∷ (codes "age_max") ∷ (codes "age_p50") ∷ (codes "age_p95") ∷ (codes "age_p99") ∷ []) ∷
    ((codes "report") ∷ (codes "q") ∷ (codes "1") ∷ (codes "0") ∷ (codes "1") ∷ (codes "2") ∷ (codes "1") ∷ (codes "0") ∷ (codes "0") ∷ (codes "0") ∷ (codes "0") ∷ (codes "0") ∷ (codes "0") ∷ (codes "0") ∷ (codes "0") ∷ (codes "0") ∷ (codes "0") ∷ (codes "0") ∷ (codes "0") ∷ (codes "0") ∷ (codes "1") ∷ (codes "0") ∷ (codes "0") ∷ (codes "0") ∷ (codes "3105") ∷ (codes "3105") ∷ (codes "3105") ∷ (codes "3105") ∷ (codes "3105") ∷ []) ∷ [])
unfolding reading_on_literals running_on_literals columns_of
case_0_gathers_and_finds_nothing = refl

-- version-3/gathers_apart_where_two_polls_wait.toml
case_0_gathers_apart_where_two_polls_wait : shown_upto 3 80 [] (codes "# The batch of c-1 fails at 110. At 1010 its messages come back one by one. The poll of c-2 waits since 10 and gets\n# m-0-0, that of c-1 since 111 and gets m-0-1. At 1011 c-1 asks first and gets m-0-2; nothing is left for c-2.\nversion = 3\nhorizon = 1200\n[[queue]]\nname = \"q\"\nvisibility_s = 1\n[[actor]]\nname = \"c\"\nkind = \"consumer\"\nqueue = \"q\"\nstart_ms = 10\nbatch = 3\ngather_ms = 1\nwait_s = 20\nservice_min_ms = 100\nservice_max_ms = 100\nbatch_service = \"once\"\nfails_on = \"bad\"\nbatch_fails = \"whole\"\ncopies = 2\n[[actor]]\nname = \"s\"\nkind = \"script\"\nqueue = \"q\"\ncalls = \"\"\"\nat,call,body,group,id,delay,receipt,max,wait,timeout,task\n0,send,a,,,,,,,,\n1,send,bad,,,,,,,,\n2,send,c,,,,,,,,\n\"\"\"\n")
    ≡ ran (((codes "at") ∷ (codes "queue") ∷ (codes "agent") ∷ (codes "call") ∷ (codes "answer") ∷ (codes "message") ∷ (codes "receipt") ∷ (codes "detail") ∷ []) ∷
    ((codes "0") ∷ (codes "q") ∷ (codes "s") ∷ (codes "send") ∷ (codes "new") ∷ (codes "m-0-0") ∷ [] ∷ digest (codes "a") ∷ []) ∷
    ((codes "1") ∷ (codes "q") ∷ (codes "s") ∷ (codes "send") ∷ (codes "new") ∷ (codes "m-0-1") ∷ [] ∷ digest (codes "bad") ∷ []) ∷
    ((codes "2") ∷ (codes "q") ∷ (codes "s") ∷ (codes "send") ∷ (codes "new") ∷ (codes "m-0-2") ∷ [] ∷ digest (codes "c") ∷ []) ∷
    ((codes "10") ∷ (codes "q") ∷ (codes "c-1") ∷ (codes "receive") ∷ (codes "ok") ∷ (codes "m-0-0") ∷ (codes "r-0-0-1") ∷ (codes "o-0-0") ∷ []) ∷
    ((codes "10") ∷ (codes "q") ∷ (codes "c-1") ∷ (codes "receive") ∷ (codes "ok") ∷ (codes "m-0-1") ∷ (codes "r-0-1-1") ∷ (codes "o-0-1") ∷ []) ∷
    ((codes "10") ∷ (codes "q") ∷ (codes "c-1") ∷ (codes "receive") ∷ (codes "ok") ∷ (codes "m-0-2") ∷ (codes "r-0-2-1") ∷ (codes "o-0-2") ∷ []) ∷
    ((codes "10") ∷ (codes "q") ∷ (codes "c-2") ∷ (codes "receive") ∷ (codes "wait") ∷ [] ∷ [] ∷ [] ∷ []) ∷
    ((codes "110") ∷ (codes "q") ∷ (codes "c-1") ∷ (codes "fail") ∷ (codes "ok") ∷ (codes "m-0-0") ∷ (codes "r-0-0-1") ∷ [] ∷ []) ∷
    ((codes "111") ∷ (codes "q") ∷ (codes "c-1") ∷ (codes "receive") ∷ (codes "wait") ∷ [] ∷ [] ∷ [] ∷ []) ∷
    ((codes "1010") ∷ (codes "q") ∷ (codes "q") ∷ (codes "release") ∷ (codes "visible") ∷ (codes "m-0-0") ∷ [] ∷ [] ∷ []) ∷
    ((codes "1010") ∷ (codes "q") ∷ (codes "c-2") ∷ (codes "receive") ∷ (codes "ok") ∷ (codes "m-0-0") ∷ (codes "r-0-0-2") ∷ (codes "o-0-0") ∷ []) ∷
    ((codes "1010") ∷ (codes "q") ∷ (codes "q") ∷ (codes "release") ∷ (codes "visible") ∷ (codes "m-0-1") ∷ [] ∷ [] ∷ []) ∷
    ((codes "1010") ∷ (codes "q") ∷ (codes "c-1") ∷ (codes "receive") ∷ (codes "ok") ∷ (codes "m-0-1") ∷ (codes "r-0-1-2") ∷ (codes "o-0-1") ∷ []) ∷
    ((codes "1010") ∷ (codes "q") ∷ (codes "q") ∷ (codes "release") ∷ (codes "visible") ∷ (codes "m-0-2") ∷ [] ∷ [] ∷ []) ∷
    ((codes "1011") ∷ (codes "q") ∷ (codes "c-1") ∷ (codes "receive") ∷ (codes "ok") ∷ (codes "m-0-2") ∷ (codes "r-0-2-2") ∷ (codes "o-0-2") ∷ []) ∷
    ((codes "1011") ∷ (codes "q") ∷ (codes "c-2") ∷ (codes "receive") ∷ (codes "empty") ∷ [] ∷ [] ∷ [] ∷ []) ∷
    ((codes "1111") ∷ (codes "q") ∷ (codes "c-1") ∷ (codes "fail") ∷ (codes "ok") ∷ (codes "m-0-1") ∷ (codes "r-0-1-2") ∷ [] ∷ []) ∷
    ((codes "1111") ∷ (codes "q") ∷ (codes "c-2") ∷ (codes "delete") ∷ (codes "deleted") ∷ (codes "m-0-0") ∷ (codes "r-0-0-2") ∷ (codes "1111") ∷ []) ∷
    ((codes "1112") ∷ (codes "q") ∷ (codes "c-1") ∷ (codes "receive") ∷ (codes "wait") ∷ [] ∷ [] ∷ [] ∷ []) ∷
    ((codes "1112") ∷ (codes "q") ∷ (codes "c-2") ∷ (codes "receive") ∷ (codes "wait") ∷ [] ∷ [] ∷ [] ∷ []) ∷
    ((codes "final") ∷ (codes "queue") ∷ (codes "message") ∷ (codes "origin") ∷ (codes "place") ∷ (codes "due") ∷ (codes "enqueued") ∷ (codes "receives") ∷ (codes "group") ∷ (codes "md5") ∷ []) ∷
    ((codes "final") ∷ (codes "q") ∷ (codes "m-0-1") ∷ (codes "o-0-1") ∷ (codes "inflight") ∷ (codes "2010") ∷ (codes "1") ∷ (codes "2") ∷ [] ∷ digest (codes "bad") ∷ []) ∷
    ((codes "final") ∷ (codes "q") ∷ (codes "m-0-2") ∷ (codes "o-0-2") ∷ (codes "inflight") ∷ (codes "2011") ∷ (codes "2") ∷ (codes "2") ∷ [] ∷ digest (codes "c") ∷ []) ∷
    ((codes "transfer") ∷ (codes "from") ∷ (codes "to") ∷ (codes "kind") ∷ (codes "due") ∷ (codes "number") ∷ (codes "message") ∷ (codes "origin") ∷ (codes "md5") ∷ []) ∷
    ((codes "task") ∷ (codes "name") ∷ (codes "status") ∷ (codes "moved") ∷ []) ∷
    ((codes "report") ∷ (codes "queue") ∷ (codes "sends") ∷ (codes "repeats") ∷ (codes "receives") ∷ (codes "empties") ∷ (codes "deletes") ∷ (codes "expiries") ∷ (codes "redrives") ∷ (codes "moves") ∷ (codes "arrivals") ∷ (codes "OverLimit") ∷ (codes "MessageNotInflight") ∷ (codes "ReceiptHandleIsInvalid") ∷ (codes "BadTimeout") ∷ (codes "MissingGroup") ∷ (codes "MissingDeduplication") ∷ (codes "BadDelay") ∷ (codes "TaskRunning") ∷ (codes "NoTask") ∷ (codes "depth_max") ∷ (codes "visible") ∷ (codes "in_flight") ∷ (codes "delayed") ∷ (codes "age_sum") ∷ (codes "age_max") ∷ (codes "age_p50") ∷ (codes "age_p95") ∷ (codes "age_p99") ∷ []) ∷
    ((codes "report") ∷ (codes "q") ∷ (codes "3") ∷ (codes "0") ∷ (codes "6") ∷ (codes "1") ∷ (codes "1") ∷ (codes "0") ∷ (codes "0") ∷ (codes "0") ∷ (codes "0") ∷ (codes "0") ∷ (codes "0") ∷ (codes "0") ∷ (codes "0") ∷ (codes "0") ∷ (codes "0") ∷ (codes "0") ∷ (codes "0") ∷ (codes "0") ∷ (codes "3") ∷ (codes "0") ∷ (codes "2") ∷ (codes "0") ∷ (codes "1111") ∷ (codes "1111") ∷ (codes "1111") ∷ (codes "1111") ∷ (codes "1111") ∷ []) ∷ [])
unfolding reading_on_literals running_on_literals columns_of
case_0_gathers_apart_where_two_polls_wait = refl

-- version-3/gathers_by_a_long_poll.toml
case_0_gathers_by_a_long_poll : shown_upto 3 68 [] (codes "# It gathers until 3010. At 11 two whole seconds are left, so it waits until 2011. The message that comes at 1500 makes\n# the batch whole.\nversion = 3\nhorizon = 1800\n[[queue]]\nname = \"q\"\n[[actor]]\nname = \"c\"\nkind = \"consumer\"\nqueue = \"q\"\nstart_ms = 10\nbatch = 2\ngather_ms = 3000\nwait_s = 20\nservice_min_ms = 100\nservice_max_ms = 100\n[[actor]]\nname = \"s\"\nkind = \"script\"\nqueue = \"q\"\ncalls = \"\"\"\nat,call,body,group,id,delay,receipt,max,wait,timeout,task\n5,send,a,,,,,,,,\n1500,send,b,,,,,,,,\n\"\"\"\n")
    ≡ ran (((codes "at") ∷ (codes "queue") ∷ (codes "agent") ∷ (codes "call") ∷ (codes "answer") ∷ (codes "message") ∷ (codes "receipt") ∷ (codes "detail") ∷ []) ∷
    ((codes "5") ∷ (codes "q") ∷ (codes "s") ∷ (codes "send") ∷ (codes "new") ∷ (codes "m-0-0") ∷ [] ∷ digest (codes "a") ∷ []) ∷
    ((codes "10") ∷ (codes "q") ∷ (codes "c") ∷ (codes "receive") ∷ (codes "ok") ∷ (codes "m-0-0") ∷ (codes "r-0-0-1") ∷ (codes "o-0-0") ∷ []) ∷
    ((codes "11") ∷ (codes "q") ∷ (codes "c") ∷ (codes "receive") ∷ (codes "wait") ∷ [] ∷ [] ∷ [] ∷ []) ∷
    ((codes "1500") ∷ (codes "q") ∷ (codes "s") ∷ (codes "send") ∷ (codes "new") ∷ (codes "m-0-1") ∷ [] ∷ digest (codes "b") ∷ []) ∷
    ((codes "1500") ∷ (codes "q") ∷ (codes "c") ∷ (codes "receive") ∷ (codes "ok") ∷ (codes "m-0-1") ∷ (codes "r-0-1-1") ∷ (codes "o-0-1") ∷ []) ∷
    ((codes "1600") ∷ (codes "q") ∷ (codes "c") ∷ (codes "delete") ∷ (codes "deleted") ∷ (codes "m-0-0") ∷ (codes "r-0-0-1") ∷ (codes "1595") ∷ []) ∷
    ((codes "1700") ∷ (codes "q") ∷ (codes "c") ∷ (codes "delete") ∷ (codes "deleted") ∷ (codes "m-0-1") ∷ (codes "r-0-1-1") ∷ (codes "200") ∷ []) ∷
    ((codes "1701") ∷ (codes "q") ∷ (codes "c") ∷ (codes "receive") ∷ (codes "wait") ∷ [] ∷ [] ∷ [] ∷ []) ∷
    ((codes "final") ∷ (codes "queue") ∷ (codes "message") ∷ (codes "origin") ∷ (codes "place") ∷ (codes "due") ∷ (codes "enqueued") ∷ (codes "receives") ∷ (codes "group") ∷ (codes "md5") ∷ []) ∷
    ((codes "transfer") ∷ (codes "from") ∷ (codes "to") ∷ (codes "kind") ∷ (codes "due") ∷ (codes "number") ∷ (codes "message") ∷ (codes "origin") ∷ (codes "md5") ∷ []) ∷
    ((codes "task") ∷ (codes "name") ∷ (codes "status") ∷ (codes "moved") ∷ []) ∷
    ((codes "report") ∷ (codes "queue") ∷ (codes "sends") ∷ (codes "repeats") ∷ (codes "receives") ∷ (codes "empties") ∷ (codes "deletes") ∷ (codes "expiries") ∷ (codes "redrives") ∷ (codes "moves") ∷ (codes "arrivals") ∷ (codes "OverLimit") ∷ (codes "MessageNotInflight") ∷ (codes "ReceiptHandleIsInvalid") ∷ (codes "BadTimeout") ∷ (codes "MissingGroup") ∷ (codes "MissingDeduplication") ∷ (codes "BadDelay") ∷ (codes "TaskRunning") ∷ (codes "NoTask") ∷ (codes "depth_max") ∷ (codes "visible") ∷ (codes "in_flight") ∷ (codes "delayed") ∷ (codes "age_sum") ∷ (codes "age_max") ∷ (codes "age_p50") ∷ (codes "age_p95") ∷ (codes "age_p99") ∷ []) ∷
    ((codes "report") ∷ (codes "q") ∷ (codes "2") ∷ (codes "0") ∷ (codes "2") ∷ (codes "0") ∷ (codes "2") ∷ (codes "0") ∷ (codes "0") ∷ (codes "0") ∷ (codes "0") ∷ (codes "0") ∷ (codes "0") ∷ (codes "0") ∷ (codes "0") ∷ (codes "0") ∷ (codes "0") ∷ (codes "0") ∷ (codes "0") ∷ (codes "0") ∷ (codes "2") ∷ (codes "0") ∷ (codes "0") ∷ (codes "0") ∷ (codes "1795") ∷ (codes "1595") ∷ (codes "200") ∷ (codes "1595") ∷ (codes "1595") ∷ []) ∷ [])
unfolding reading_on_literals running_on_literals columns_of
case_0_gathers_by_a_long_poll = refl

-- version-3/gathers_no_longer_than_it_may_ask.toml
case_0_gathers_no_longer_than_it_may_ask : shown_upto 3 65 [] (codes "# At 11 it finds nothing. It would ask again at 1010, but stops at 500. So it serves what it has from 11 on.\nversion = 3\nhorizon = 2000\n[[queue]]\nname = \"q\"\n[[actor]]\nname = \"c\"\nkind = \"consumer\"\nqueue = \"q\"\nstart_ms = 10\nbatch = 3\ngather_ms = 1000\nservice_min_ms = 100\nservice_max_ms = 100\nstop_ms = 500\n[[actor]]\nname = \"s\"\nkind = \"script\"\nqueue = \"q\"\ncalls = \"\"\"\nat,call,body,group,id,delay,receipt,max,wait,timeout,task\n5,send,a,,,,,,,,\n\"\"\"\n")
    ≡ ran (((codes "at") ∷ (codes "queue") ∷ (codes "agent") ∷ (codes "call") ∷ (codes "answer") ∷ (codes "message") ∷ (codes "receipt") ∷ (codes "detail") ∷ []) ∷
    ((codes "5") ∷ (codes "q") ∷ (codes "s") ∷ (codes "send") ∷ (codes "new") ∷ (codes "m-0-0") ∷ [] ∷ digest (codes "a") ∷ []) ∷
    ((codes "10") ∷ (codes "q") ∷ (codes "c") ∷ (codes "receive") ∷ (codes "ok") ∷ (codes "m-0-0") ∷ (codes "r-0-0-1") ∷ (codes "o-0-0") ∷ []) ∷
    ((codes "11") ∷ (codes "q") ∷ (codes "c") ∷ (codes "receive") ∷ (codes "empty") ∷ [] ∷ [] ∷ [] ∷ []) ∷
    ((codes "111") ∷ (codes "q") ∷ (codes "c") ∷ (codes "delete") ∷ (codes "deleted") ∷ (codes "m-0-0") ∷ (codes "r-0-0-1") ∷ (codes "106") ∷ []) ∷
    ((codes "112") ∷ (codes "q") ∷ (codes "c") ∷ (codes "receive") ∷ (codes "empty") ∷ [] ∷ [] ∷ [] ∷ []) ∷
    ((codes "final") ∷ (codes "queue") ∷ (codes "message") ∷ (codes "origin") ∷ (codes "place") ∷ (codes "due") ∷ (codes "enqueued") ∷ (codes "receives") ∷ (codes "group") ∷ (codes "md5") ∷ []) ∷
    ((codes "transfer") ∷ (codes "from") ∷ (codes "to") ∷ (codes "kind") ∷ (codes "due") ∷ (codes "number") ∷ (codes "message") ∷ (codes "origin") ∷ (codes "md5") ∷ []) ∷
    ((codes "task") ∷ (codes "name") ∷ (codes "status") ∷ (codes "moved") ∷ []) ∷
    ((codes "report") ∷ (codes "queue") ∷ (codes "sends") ∷ (codes "repeats") ∷ (codes "receives") ∷ (codes "empties") ∷ (codes "deletes") ∷ (codes "expiries") ∷ (codes "redrives") ∷ (codes "moves") ∷ (codes "arrivals") ∷ (codes "OverLimit") ∷ (codes "MessageNotInflight") ∷ (codes "ReceiptHandleIsInvalid") ∷ (codes "BadTimeout") ∷ (codes "MissingGroup") ∷ (codes "MissingDeduplication") ∷ (codes "BadDelay") ∷ (codes "TaskRunning") ∷ (codes "NoTask") ∷ (codes "depth_max") ∷ (codes "visible") ∷ (codes "in_flight") ∷ (codes "delayed") ∷ (codes "age_sum") ∷ (codes "age_max") ∷ (codes "age_p50") ∷ (codes "age_p95") ∷ (codes "age_p99") ∷ []) ∷
    ((codes "report") ∷ (codes "q") ∷ (codes "1") ∷ (codes "0") ∷ (codes "1") ∷ (codes "2") ∷ (codes "1") ∷ (codes "0") ∷ (codes "0") ∷ (codes "0") ∷ (codes "0") ∷ (codes "0") ∷ (codes "0") ∷ (codes "0") ∷ (codes "0") ∷ (codes "0") ∷ (codes "0") ∷ (codes "0") ∷ (codes "0") ∷ (codes "0") ∷ (codes "1") ∷ (codes "0") ∷ (codes "0") ∷ (codes "0") ∷ (codes "106") ∷ (codes "106") ∷ (codes "106") ∷ (codes "106") ∷ (codes "106") ∷ []) ∷ [])
unfolding reading_on_literals running_on_literals columns_of
case_0_gathers_no_longer_than_it_may_ask = refl

-- version-3/gathers_until_its_time_is_over.toml
case_0_gathers_until_its_time_is_over : shown_upto 3 69 [] (codes "# The first message comes at 10, so the consumer gathers until 1010. It asks at 11 and at 1010, by short polls: less than\n# a second is left. The other message is there since 400. Both are served at once from 1010 on.\nversion = 3\nhorizon = 1500\n[[queue]]\nname = \"q\"\n[[actor]]\nname = \"c\"\nkind = \"consumer\"\nqueue = \"q\"\nbatch = 3\ngather_ms = 1000\nwait_s = 20\nservice_min_ms = 100\nservice_max_ms = 100\nbatch_service = \"once\"\n[[actor]]\nname = \"s\"\nkind = \"script\"\nqueue = \"q\"\ncalls = \"\"\"\nat,call,body,group,id,delay,receipt,max,wait,timeout,task\n10,send,a,,,,,,,,\n400,send,b,,,,,,,,\n\"\"\"\n")
    ≡ ran (((codes "at") ∷ (codes "queue") ∷ (codes "agent") ∷ (codes "call") ∷ (codes "answer") ∷ (codes "message") ∷ (codes "receipt") ∷ (codes "detail") ∷ []) ∷
    ((codes "0") ∷ (codes "q") ∷ (codes "c") ∷ (codes "receive") ∷ (codes "wait") ∷ [] ∷ [] ∷ [] ∷ []) ∷
    ((codes "10") ∷ (codes "q") ∷ (codes "s") ∷ (codes "send") ∷ (codes "new") ∷ (codes "m-0-0") ∷ [] ∷ digest (codes "a") ∷ []) ∷
    ((codes "10") ∷ (codes "q") ∷ (codes "c") ∷ (codes "receive") ∷ (codes "ok") ∷ (codes "m-0-0") ∷ (codes "r-0-0-1") ∷ (codes "o-0-0") ∷ []) ∷
    ((codes "11") ∷ (codes "q") ∷ (codes "c") ∷ (codes "receive") ∷ (codes "empty") ∷ [] ∷ [] ∷ [] ∷ []) ∷
    ((codes "400") ∷ (codes "q") ∷ (codes "s") ∷ (codes "send") ∷ (codes "new") ∷ (codes "m-0-1") ∷ [] ∷ digest (codes "b") ∷ []) ∷
    ((codes "1010") ∷ (codes "q") ∷ (codes "c") ∷ (codes "receive") ∷ (codes "ok") ∷ (codes "m-0-1") ∷ (codes "r-0-1-1") ∷ (codes "o-0-1") ∷ []) ∷
    ((codes "1110") ∷ (codes "q") ∷ (codes "c") ∷ (codes "delete") ∷ (codes "deleted") ∷ (codes "m-0-0") ∷ (codes "r-0-0-1") ∷ (codes "1100") ∷ []) ∷
    ((codes "1111") ∷ (codes "q") ∷ (codes "c") ∷ (codes "delete") ∷ (codes "deleted") ∷ (codes "m-0-1") ∷ (codes "r-0-1-1") ∷ (codes "711") ∷ []) ∷
    ((codes "1112") ∷ (codes "q") ∷ (codes "c") ∷ (codes "receive") ∷ (codes "wait") ∷ [] ∷ [] ∷ [] ∷ []) ∷
    ((codes "final") ∷ (codes "queue") ∷ (codes "message") ∷ (codes "origin") ∷ (codes "place") ∷ (codes "due") ∷ (codes "enqueued") ∷ (codes "receives") ∷ (codes "group") ∷ (codes "md5") ∷ []) ∷
    ((codes "transfer") ∷ (codes "from") ∷ (codes "to") ∷ (codes "kind") ∷ (codes "due") ∷ (codes "number") ∷ (codes "message") ∷ (codes "origin") ∷ (codes "md5") ∷ []) ∷
    ((codes "task") ∷ (codes "name") ∷ (codes "status") ∷ (codes "moved") ∷ []) ∷
    ((codes "report") ∷ (codes "queue") ∷ (codes "sends") ∷ (codes "repeats") ∷ (codes "receives") ∷ (codes "empties") ∷ (codes "deletes") ∷ (codes "expiries") ∷ (codes "redrives") ∷ (codes "moves") ∷ (codes "arrivals") ∷ (codes "OverLimit") ∷ (codes "MessageNotInflight") ∷ (codes "ReceiptHandleIsInvalid") ∷ (codes "BadTimeout") ∷ (codes "MissingGroup") ∷ (codes "MissingDeduplication") ∷ (codes "BadDelay") ∷ (codes "TaskRunning") ∷ (codes "NoTask") ∷ (codes "depth_max") ∷ (codes "visible") ∷ (codes "in_flight") ∷ (codes "delayed") ∷ (codes "age_sum") ∷ (codes "age_max") ∷ (codes "age_p50") ∷ (codes "age_p95") ∷ (codes "age_p99") ∷ []) ∷
    ((codes "report") ∷ (codes "q") ∷ (codes "2") ∷ (codes "0") ∷ (codes "2") ∷ (codes "1") ∷ (codes "2") ∷ (codes "0") ∷ (codes "0") ∷ (codes "0") ∷ (codes "0") ∷ (codes "0") ∷ (codes "0") ∷ (codes "0") ∷ (codes "0") ∷ (codes "0") ∷ (codes "0") ∷ (codes "0") ∷ (codes "0") ∷ (codes "0") ∷ (codes "2") ∷ (codes "0") ∷ (codes "0") ∷ (codes "0") ∷ (codes "1811") ∷ (codes "1100") ∷ (codes "711") ∷ (codes "1100") ∷ (codes "1100") ∷ []) ∷ [])
unfolding reading_on_literals running_on_literals columns_of
case_0_gathers_until_its_time_is_over = refl

-- version-3/gathers_what_comes_back_at_one_moment.toml
case_0_gathers_what_comes_back_at_one_moment : shown_upto 3 72 [] (codes "# Two messages come back at 1002. The first answers the poll that waits. The consumer asks for the other one at 1003, and\n# serves both at once.\nversion = 3\nhorizon = 1200\n[[queue]]\nname = \"q\"\nvisibility_s = 1\n[[actor]]\nname = \"c\"\nkind = \"consumer\"\nqueue = \"q\"\nstart_ms = 10\nbatch = 2\ngather_ms = 1\nwait_s = 20\nservice_min_ms = 100\nservice_max_ms = 100\nbatch_service = \"once\"\n[[actor]]\nname = \"s\"\nkind = \"script\"\nqueue = \"q\"\ncalls = \"\"\"\nat,call,body,group,id,delay,receipt,max,wait,timeout,task\n0,send,a,,,,,,,,\n1,send,b,,,,,,,,\n2,receive,,,,,,2,,,\n\"\"\"\n")
    ≡ ran (((codes "at") ∷ (codes "queue") ∷ (codes "agent") ∷ (codes "call") ∷ (codes "answer") ∷ (codes "message") ∷ (codes "receipt") ∷ (codes "detail") ∷ []) ∷
    ((codes "0") ∷ (codes "q") ∷ (codes "s") ∷ (codes "send") ∷ (codes "new") ∷ (codes "m-0-0") ∷ [] ∷ digest (codes "a") ∷ []) ∷
    ((codes "1") ∷ (codes "q") ∷ (codes "s") ∷ (codes "send") ∷ (codes "new") ∷ (codes "m-0-1") ∷ [] ∷ digest (codes "b") ∷ []) ∷
    ((codes "2") ∷ (codes "q") ∷ (codes "s") ∷ (codes "receive") ∷ (codes "ok") ∷ (codes "m-0-0") ∷ (codes "r-0-0-1") ∷ (codes "o-0-0") ∷ []) ∷
    ((codes "2") ∷ (codes "q") ∷ (codes "s") ∷ (codes "receive") ∷ (codes "ok") ∷ (codes "m-0-1") ∷ (codes "r-0-1-1") ∷ (codes "o-0-1") ∷ []) ∷
    ((codes "10") ∷ (codes "q") ∷ (codes "c") ∷ (codes "receive") ∷ (codes "wait") ∷ [] ∷ [] ∷ [] ∷ []) ∷
    ((codes "1002") ∷ (codes "q") ∷ (codes "q") ∷ (codes "release") ∷ (codes "visible") ∷ (codes "m-0-0") ∷ [] ∷ [] ∷ []) ∷
    ((codes "1002") ∷ (codes "q") ∷ (codes "c") ∷ (codes "receive") ∷ (codes "ok") ∷ (codes "m-0-0") ∷ (codes "r-0-0-2") ∷ (codes "o-0-0") ∷ []) ∷
    ((codes "1002") ∷ (codes "q") ∷ (codes "q") ∷ (codes "release") ∷ (codes "visible") ∷ (codes "m-0-1") ∷ [] ∷ [] ∷ []) ∷
    ((codes "1003") ∷ (codes "q") ∷ (codes "c") ∷ (codes "receive") ∷ (codes "ok") ∷ (codes "m-0-1") ∷ (codes "r-0-1-2") ∷ (codes "o-0-1") ∷ []) ∷
    ((codes "1103") ∷ (codes "q") ∷ (codes "c") ∷ (codes "delete") ∷ (codes "deleted") ∷ (codes "m-0-0") ∷ (codes "r-0-0-2") ∷ (codes "1103") ∷ []) ∷
    ((codes "1104") ∷ (codes "q") ∷ (codes "c") ∷ (codes "delete") ∷ (codes "deleted") ∷ (codes "m-0-1") ∷ (codes "r-0-1-2") ∷ (codes "1103") ∷ []) ∷
    ((codes "1105") ∷ (codes "q") ∷ (codes "c") ∷ (codes "receive") ∷ (codes "wait") ∷ [] ∷ [] ∷ [] ∷ []) ∷
    ((codes "final") ∷ (codes "queue") ∷ (codes "message") ∷ (codes "origin") ∷ (codes "place") ∷ (codes "due") ∷ (codes "enqueued") ∷ (codes "receives") ∷ (codes "group") ∷ (codes "md5") ∷ []) ∷
    ((codes "transfer") ∷ (codes "from") ∷ (codes "to") ∷ (codes "kind") ∷ (codes "due") ∷ (codes "number") ∷ (codes "message") ∷ (codes "origin") ∷ (codes "md5") ∷ []) ∷
    ((codes "task") ∷ (codes "name") ∷ (codes "status") ∷ (codes "moved") ∷ []) ∷
    ((codes "report") ∷ (codes "queue") ∷ (codes "sends") ∷ (codes "repeats") ∷ (codes "receives") ∷ (codes "empties") ∷ (codes "deletes") ∷ (codes "expiries") ∷ (codes "redrives") ∷ (codes "moves") ∷ (codes "arrivals") ∷ (codes "OverLimit") ∷ (codes "MessageNotInflight") ∷ (codes "ReceiptHandleIsInvalid") ∷ (codes "BadTimeout") ∷ (codes "MissingGroup") ∷ (codes "MissingDeduplication") ∷ (codes "BadDelay") ∷ (codes "TaskRunning") ∷ (codes "NoTask") ∷ (codes "depth_max") ∷ (codes "visible") ∷ (codes "in_flight") ∷ (codes "delayed") ∷ (codes "age_sum") ∷ (codes "age_max") ∷ (codes "age_p50") ∷ (codes "age_p95") ∷ (codes "age_p99") ∷ []) ∷
    ((codes "report") ∷ (codes "q") ∷ (codes "2") ∷ (codes "0") ∷ (codes "4") ∷ (codes "0") ∷ (codes "2") ∷ (codes "0") ∷ (codes "0") ∷ (codes "0") ∷ (codes "0") ∷ (codes "0") ∷ (codes "0") ∷ (codes "0") ∷ (codes "0") ∷ (codes "0") ∷ (codes "0") ∷ (codes "0") ∷ (codes "0") ∷ (codes "0") ∷ (codes "2") ∷ (codes "0") ∷ (codes "0") ∷ (codes "0") ∷ (codes "2206") ∷ (codes "1103") ∷ (codes "1103") ∷ (codes "1103") ∷ (codes "1103") ∷ []) ∷ [])
unfolding reading_on_literals running_on_literals columns_of
case_0_gathers_what_comes_back_at_one_moment = refl

-- version-3/groups_by_weight.toml
case_0_groups_by_weight : shown_upto 3 66 [] (codes "# The sum of the weights is 20. Words of agent 1: 839.344 gives 16, which is below 4 + 11 + 5: group f. 982.301 is the\n# gap, 100 + 982. 739.102 gives 14, below 4 + 11: group e. 500.913 is the gap, 100 + 500. 203.467 gives 4, which is not\n# below 4, but below 4 + 11: group e. After the last message no gap is drawn. So the sends are at 0, 1082 and 1682. The\n# script shows the groups: m-0-1 is given while m-0-0 is in flight, and m-0-2 is not while m-0-1 is.\nversion = 3\nhorizon = 3000\n[[queue]]\nname = \"q.fifo\"\n[[actor]]\nname = \"p\"\nkind = \"producer\"\nqueue = \"q.fifo\"\ncount = 3\ngap_min_ms = 100\ngap_max_ms = 1099\nbody = \"a\"\nkey_groups = [[\"d\", 4], [\"e\", 11], [\"f\", 5]]\n[[actor]]\nname = \"s\"\nkind = \"script\"\nqueue = \"q.fifo\"\ncalls = \"\"\"\nat,call,body,group,id,delay,receipt,max,wait,timeout,task\n2000,receive,,,,,,1,,,\n2001,receive,,,,,,1,,,\n2002,receive,,,,,,10,,,\n\"\"\"\n")
    ≡ ran (((codes "at") ∷ (codes "queue") ∷ (codes "agent") ∷ (codes "call") ∷ (codes "answer") ∷ (codes "message") ∷ (codes "receipt") ∷ (codes "detail") ∷ []) ∷
    ((codes "0") ∷ (codes "q.fifo") ∷ (codes "p") ∷ (codes "send") ∷ (codes "new") ∷ (codes "m-0-0") ∷ [] ∷ digest (codes "a") ∷ []) ∷
    ((codes "1082") ∷ (codes "q.fifo") ∷ (codes "p") ∷ (codes "send") ∷ (codes "new") ∷ (codes "m-0-1") ∷ [] ∷ digest (codes "a") ∷ []) ∷
    ((codes "1682") ∷ (codes "q.fifo") ∷ (codes "p") ∷ (codes "send") ∷ (codes "new") ∷ (codes "m-0-2") ∷ [] ∷ digest (codes "a") ∷ []) ∷
    ((codes "2000") ∷ (codes "q.fifo") ∷ (codes "s") ∷ (codes "receive") ∷ (codes "ok") ∷ (codes "m-0-0") ∷ (codes "r-0-0-1") ∷ (codes "o-0-0") ∷ []) ∷
    ((codes "2001") ∷ (codes "q.fifo") ∷ (codes "s") ∷ (codes "receive") ∷ (codes "ok") ∷ (codes "m-0-1") ∷ (codes "r-0-1-1") ∷ (codes "o-0-1") ∷ []) ∷
    ((codes "2002") ∷ (codes "q.fifo") ∷ (codes "s") ∷ (codes "receive") ∷ (codes "empty") ∷ [] ∷ [] ∷ [] ∷ []) ∷
    ((codes "final") ∷ (codes "queue") ∷ (codes "message") ∷ (codes "origin") ∷ (codes "place") ∷ (codes "due") ∷ (codes "enqueued") ∷ (codes "receives") ∷ (codes "group") ∷ (codes "md5") ∷ []) ∷
    ((codes "final") ∷ (codes "q.fifo") ∷ (codes "m-0-0") ∷ (codes "o-0-0") ∷ (codes "inflight") ∷ (codes "32000") ∷ (codes "0") ∷ (codes "1") ∷ (codes "f") ∷ digest (codes "a") ∷ []) ∷
    ((codes "final") ∷ (codes "q.fifo") ∷ (codes "m-0-1") ∷ (codes "o-0-1") ∷ (codes "inflight") ∷ (codes "32001") ∷ (codes "1082") ∷ (codes "1") ∷ (codes "e") ∷ digest (codes "a") ∷ []) ∷
    ((codes "final") ∷ (codes "q.fifo") ∷ (codes "m-0-2") ∷ (codes "o-0-2") ∷ (codes "visible") ∷ [] ∷ (codes "1682") ∷ (codes "0") ∷ (codes "e") ∷ digest (codes "a") ∷ []) ∷
    ((codes "transfer") ∷ (codes "from") ∷ (codes "to") ∷ (codes "kind") ∷ (codes "due") ∷ (codes "number") ∷ (codes "message") ∷ (codes "origin") ∷ (codes "md5") ∷ []) ∷
    ((codes "task") ∷ (codes "name") ∷ (codes "status") ∷ (codes "moved") ∷ []) ∷
    ((codes "report") ∷ (codes "queue") ∷ (codes "sends") ∷ (codes "repeats") ∷ (codes "receives") ∷ (codes "empties") ∷ (codes "deletes") ∷ (codes "expiries") ∷ (codes "redrives") ∷ (codes "moves") ∷ (codes "arrivals") ∷ (codes "OverLimit") ∷ (codes "MessageNotInflight") ∷ (codes "ReceiptHandleIsInvalid") ∷ (codes "BadTimeout") ∷ (codes "MissingGroup") ∷ (codes "MissingDeduplication") ∷ (codes "BadDelay") ∷ (codes "TaskRunning") ∷ (codes "NoTask") ∷ (codes "depth_max") ∷ (codes "visible") ∷ (codes "in_flight") ∷ (codes "delayed") ∷ (codes "age_sum") ∷ (codes "age_max") ∷ (codes "age_p50") ∷ (codes "age_p95") ∷ (codes "age_p99") ∷ []) ∷
    ((codes "report") ∷ (codes "q.fifo") ∷ (codes "3") ∷ (codes "0") ∷ (codes "2") ∷ (codes "1") ∷ (codes "0") ∷ (codes "0") ∷ (codes "0") ∷ (codes "0") ∷ (codes "0") ∷ (codes "0") ∷ (codes "0") ∷ (codes "0") ∷ (codes "0") ∷ (codes "0") ∷ (codes "0") ∷ (codes "0") ∷ (codes "0") ∷ (codes "0") ∷ (codes "3") ∷ (codes "1") ∷ (codes "2") ∷ (codes "0") ∷ (codes "0") ∷ [] ∷ [] ∷ [] ∷ [] ∷ []) ∷ [])
unfolding reading_on_literals running_on_literals columns_of
case_0_groups_by_weight = refl

-- version-3/heartbeat.toml
case_0_heartbeat : shown_upto 3 67 [] (codes "# The service takes 7 s from 10 on. Heartbeats at 2010, 4010 and 6010 set the timeout to the queue's 5 s, so it would\n# end at 7010, 9010 and 11010. At 7010 the service ends and the message is deleted in flight.\nversion = 3\nhorizon = 8000\n[[queue]]\nname = \"q\"\nvisibility_s = 5\n[[actor]]\nname = \"c\"\nkind = \"consumer\"\nqueue = \"q\"\nstart_ms = 10\nwait_s = 20\nservice_min_ms = 7000\nservice_max_ms = 7000\nheartbeat_s = 2\n[[actor]]\nname = \"s\"\nkind = \"script\"\nqueue = \"q\"\ncalls = \"\"\"\nat,call,body,group,id,delay,receipt,max,wait,timeout,task\n0,send,a,,,,,,,,\n\"\"\"\n")
    ≡ ran (((codes "at") ∷ (codes "queue") ∷ (codes "agent") ∷ (codes "call") ∷ (codes "answer") ∷ (codes "message") ∷ (codes "receipt") ∷ (codes "detail") ∷ []) ∷
    ((codes "0") ∷ (codes "q") ∷ (codes "s") ∷ (codes "send") ∷ (codes "new") ∷ (codes "m-0-0") ∷ [] ∷ digest (codes "a") ∷ []) ∷
    ((codes "10") ∷ (codes "q") ∷ (codes "c") ∷ (codes "receive") ∷ (codes "ok") ∷ (codes "m-0-0") ∷ (codes "r-0-0-1") ∷ (codes "o-0-0") ∷ []) ∷
    ((codes "2010") ∷ (codes "q") ∷ (codes "c") ∷ (codes "change") ∷ (codes "ok") ∷ (codes "m-0-0") ∷ (codes "r-0-0-1") ∷ (codes "5") ∷ []) ∷
    ((codes "4010") ∷ (codes "q") ∷ (codes "c") ∷ (codes "change") ∷ (codes "ok") ∷ (codes "m-0-0") ∷ (codes "r-0-0-1") ∷ (codes "5") ∷ []) ∷
    ((codes "6010") ∷ (codes "q") ∷ (codes "c") ∷ (codes "change") ∷ (codes "ok") ∷ (codes "m-0-0") ∷ (codes "r-0-0-1") ∷ (codes "5") ∷ []) ∷
    ((codes "7010") ∷ (codes "q") ∷ (codes "c") ∷ (codes "delete") ∷ (codes "deleted") ∷ (codes "m-0-0") ∷ (codes "r-0-0-1") ∷ (codes "7010") ∷ []) ∷
    ((codes "7011") ∷ (codes "q") ∷ (codes "c") ∷ (codes "receive") ∷ (codes "wait") ∷ [] ∷ [] ∷ [] ∷ []) ∷
    ((codes "final") ∷ (codes "queue") ∷ (codes "message") ∷ (codes "origin") ∷ (codes "place") ∷ (codes "due") ∷ (codes "enqueued") ∷ (codes "receives") ∷ (codes "group") ∷ (codes "md5") ∷ []) ∷
    ((codes "transfer") ∷ (codes "from") ∷ (codes "to") ∷ (codes "kind") ∷ (codes "due") ∷ (codes "number") ∷ (codes "message") ∷ (codes "origin") ∷ (codes "md5") ∷ []) ∷
    ((codes "task") ∷ (codes "name") ∷ (codes "status") ∷ (codes "moved") ∷ []) ∷
    ((codes "report") ∷ (codes "queue") ∷ (codes "sends") ∷ (codes "repeats") ∷ (codes "receives") ∷ (codes "empties") ∷ (codes "deletes") ∷ (codes "expiries") ∷ (codes "redrives") ∷ (codes "moves") ∷ (codes "arrivals") ∷ (codes "OverLimit") ∷ (codes "MessageNotInflight") ∷ (codes "ReceiptHandleIsInvalid") ∷ (codes "BadTimeout") ∷ (codes "MissingGroup") ∷ (codes "MissingDeduplication") ∷ (codes "BadDelay") ∷ (codes "TaskRunning") ∷ (codes "NoTask") ∷ (codes "depth_max") ∷ (codes "visible") ∷ (codes "in_flight") ∷ (codes "delayed") ∷ (codes "age_sum") ∷ (codes "age_max") ∷ (codes "age_p50") ∷ (codes "age_p95") ∷ (codes "age_p99") ∷ []) ∷
    ((codes "report") ∷ (codes "q") ∷ (codes "1") ∷ (codes "0") ∷ (codes "1") ∷ (codes "0") ∷ (codes "1") ∷ (codes "0") ∷ (codes "0") ∷ (codes "0") ∷ (codes "0") ∷ (codes "0") ∷ (codes "0") ∷ (codes "0") ∷ (codes "0") ∷ (codes "0") ∷ (codes "0") ∷ (codes "0") ∷ (codes "0") ∷ (codes "0") ∷ (codes "1") ∷ (codes "0") ∷ (codes "0") ∷ (codes "0") ∷ (codes "7010") ∷ (codes "7010") ∷ (codes "7010") ∷ (codes "7010") ∷ (codes "7010") ∷ []) ∷ [])
unfolding reading_on_literals running_on_literals columns_of
case_0_heartbeat = refl

-- version-3/heartbeat_at_the_end_of_the_service.toml
case_0_heartbeat_at_the_end_of_the_service : shown_upto 3 65 [] (codes "# The second heartbeat would be at 4010, where the service ends: it is not made. The timeout is the consumer's 3 s.\nversion = 3\nhorizon = 5000\n[[queue]]\nname = \"q\"\n[[actor]]\nname = \"c\"\nkind = \"consumer\"\nqueue = \"q\"\nstart_ms = 10\nwait_s = 20\ntimeout_s = 3\nservice_min_ms = 4000\nservice_max_ms = 4000\nheartbeat_s = 2\n[[actor]]\nname = \"s\"\nkind = \"script\"\nqueue = \"q\"\ncalls = \"\"\"\nat,call,body,group,id,delay,receipt,max,wait,timeout,task\n0,send,a,,,,,,,,\n\"\"\"\n")
    ≡ ran (((codes "at") ∷ (codes "queue") ∷ (codes "agent") ∷ (codes "call") ∷ (codes "answer") ∷ (codes "message") ∷ (codes "receipt") ∷ (codes "detail") ∷ []) ∷
    ((codes "0") ∷ (codes "q") ∷ (codes "s") ∷ (codes "send") ∷ (codes "new") ∷ (codes "m-0-0") ∷ [] ∷ digest (codes "a") ∷ []) ∷
    ((codes "10") ∷ (codes "q") ∷ (codes "c") ∷ (codes "receive") ∷ (codes "ok") ∷ (codes "m-0-0") ∷ (codes "r-0-0-1") ∷ (codes "o-0-0") ∷ []) ∷
    ((codes "2010") ∷ (codes "q") ∷ (codes "c") ∷ (codes "change") ∷ (codes "ok") ∷ (codes "m-0-0") ∷ (codes "r-0-0-1") ∷ (codes "3") ∷ []) ∷
    ((codes "4010") ∷ (codes "q") ∷ (codes "c") ∷ (codes "delete") ∷ (codes "deleted") ∷ (codes "m-0-0") ∷ (codes "r-0-0-1") ∷ (codes "4010") ∷ []) ∷
    ((codes "4011") ∷ (codes "q") ∷ (codes "c") ∷ (codes "receive") ∷ (codes "wait") ∷ [] ∷ [] ∷ [] ∷ []) ∷
    ((codes "final") ∷ (codes "queue") ∷ (codes "message") ∷ (codes "origin") ∷ (codes "place") ∷ (codes "due") ∷ (codes "enqueued") ∷ (codes "receives") ∷ (codes "group") ∷ (codes "md5") ∷ []) ∷
    ((codes "transfer") ∷ (codes "from") ∷ (codes "to") ∷ (codes "kind") ∷ (codes "due") ∷ (codes "number") ∷ (codes "message") ∷ (codes "origin") ∷ (codes "md5") ∷ []) ∷
    ((codes "task") ∷ (codes "name") ∷ (codes "status") ∷ (codes "moved") ∷ []) ∷
    ((codes "report") ∷ (codes "queue") ∷ (codes "sends") ∷ (codes "repeats") ∷ (codes "receives") ∷ (codes "empties") ∷ (codes "deletes") ∷ (codes "expiries") ∷ (codes "redrives") ∷ (codes "moves") ∷ (codes "arrivals") ∷ (codes "OverLimit") ∷ (codes "MessageNotInflight") ∷ (codes "ReceiptHandleIsInvalid") ∷ (codes "BadTimeout") ∷ (codes "MissingGroup") ∷ (codes "MissingDeduplication") ∷ (codes "BadDelay") ∷ (codes "TaskRunning") ∷ (codes "NoTask") ∷ (codes "depth_max") ∷ (codes "visible") ∷ (codes "in_flight") ∷ (codes "delayed") ∷ (codes "age_sum") ∷ (codes "age_max") ∷ (codes "age_p50") ∷ (codes "age_p95") ∷ (codes "age_p99") ∷ []) ∷
    ((codes "report") ∷ (codes "q") ∷ (codes "1") ∷ (codes "0") ∷ (codes "1") ∷ (codes "0") ∷ (codes "1") ∷ (codes "0") ∷ (codes "0") ∷ (codes "0") ∷ (codes "0") ∷ (codes "0") ∷ (codes "0") ∷ (codes "0") ∷ (codes "0") ∷ (codes "0") ∷ (codes "0") ∷ (codes "0") ∷ (codes "0") ∷ (codes "0") ∷ (codes "1") ∷ (codes "0") ∷ (codes "0") ∷ (codes "0") ∷ (codes "4010") ∷ (codes "4010") ∷ (codes "4010") ∷ (codes "4010") ∷ (codes "4010") ∷ []) ∷ [])
unfolding reading_on_literals running_on_literals columns_of
case_0_heartbeat_at_the_end_of_the_service = refl

-- version-3/heartbeat_by_an_older_receipt.toml
case_0_heartbeat_by_an_older_receipt : shown_upto 3 70 [] (codes "# At 1010 the message comes back, and the poll of d gets it in the same handling. So the heartbeat of c in that moment\n# has an older receipt: refused, though the message is in flight. Its delete at 1510 has it too: kept.\nversion = 3\nhorizon = 1950\n[[queue]]\nname = \"q\"\nvisibility_s = 1\n[[actor]]\nname = \"c\"\nkind = \"consumer\"\nqueue = \"q\"\nstart_ms = 10\nwait_s = 20\nservice_min_ms = 1500\nservice_max_ms = 1500\nheartbeat_s = 1\n[[actor]]\nname = \"d\"\nkind = \"consumer\"\nqueue = \"q\"\nstart_ms = 20\nwait_s = 20\nservice_min_ms = 900\nservice_max_ms = 900\n[[actor]]\nname = \"s\"\nkind = \"script\"\nqueue = \"q\"\ncalls = \"\"\"\nat,call,body,group,id,delay,receipt,max,wait,timeout,task\n0,send,a,,,,,,,,\n\"\"\"\n")
    ≡ ran (((codes "at") ∷ (codes "queue") ∷ (codes "agent") ∷ (codes "call") ∷ (codes "answer") ∷ (codes "message") ∷ (codes "receipt") ∷ (codes "detail") ∷ []) ∷
    ((codes "0") ∷ (codes "q") ∷ (codes "s") ∷ (codes "send") ∷ (codes "new") ∷ (codes "m-0-0") ∷ [] ∷ digest (codes "a") ∷ []) ∷
    ((codes "10") ∷ (codes "q") ∷ (codes "c") ∷ (codes "receive") ∷ (codes "ok") ∷ (codes "m-0-0") ∷ (codes "r-0-0-1") ∷ (codes "o-0-0") ∷ []) ∷
    ((codes "20") ∷ (codes "q") ∷ (codes "d") ∷ (codes "receive") ∷ (codes "wait") ∷ [] ∷ [] ∷ [] ∷ []) ∷
    ((codes "1010") ∷ (codes "q") ∷ (codes "q") ∷ (codes "release") ∷ (codes "visible") ∷ (codes "m-0-0") ∷ [] ∷ [] ∷ []) ∷
    ((codes "1010") ∷ (codes "q") ∷ (codes "d") ∷ (codes "receive") ∷ (codes "ok") ∷ (codes "m-0-0") ∷ (codes "r-0-0-2") ∷ (codes "o-0-0") ∷ []) ∷
    ((codes "1010") ∷ (codes "q") ∷ (codes "c") ∷ (codes "change") ∷ (codes "MessageNotInflight") ∷ [] ∷ (codes "r-0-0-1") ∷ [] ∷ []) ∷
    ((codes "1510") ∷ (codes "q") ∷ (codes "c") ∷ (codes "delete") ∷ (codes "kept") ∷ (codes "m-0-0") ∷ (codes "r-0-0-1") ∷ [] ∷ []) ∷
    ((codes "1511") ∷ (codes "q") ∷ (codes "c") ∷ (codes "receive") ∷ (codes "wait") ∷ [] ∷ [] ∷ [] ∷ []) ∷
    ((codes "1910") ∷ (codes "q") ∷ (codes "d") ∷ (codes "delete") ∷ (codes "deleted") ∷ (codes "m-0-0") ∷ (codes "r-0-0-2") ∷ (codes "1910") ∷ []) ∷
    ((codes "1911") ∷ (codes "q") ∷ (codes "d") ∷ (codes "receive") ∷ (codes "wait") ∷ [] ∷ [] ∷ [] ∷ []) ∷
    ((codes "final") ∷ (codes "queue") ∷ (codes "message") ∷ (codes "origin") ∷ (codes "place") ∷ (codes "due") ∷ (codes "enqueued") ∷ (codes "receives") ∷ (codes "group") ∷ (codes "md5") ∷ []) ∷
    ((codes "transfer") ∷ (codes "from") ∷ (codes "to") ∷ (codes "kind") ∷ (codes "due") ∷ (codes "number") ∷ (codes "message") ∷ (codes "origin") ∷ (codes "md5") ∷ []) ∷
    ((codes "task") ∷ (codes "name") ∷ (codes "status") ∷ (codes "moved") ∷ []) ∷
    ((codes "report") ∷ (codes "queue") ∷ (codes "sends") ∷ (codes "repeats") ∷ (codes "receives") ∷ (codes "empties") ∷ (codes "deletes") ∷ (codes "expiries") ∷ (codes "redrives") ∷ (codes "moves") ∷ (codes "arrivals") ∷ (codes "OverLimit") ∷ (codes "MessageNotInflight") ∷ (codes "ReceiptHandleIsInvalid") ∷ (codes "BadTimeout") ∷ (codes "MissingGroup") ∷ (codes "MissingDeduplication") ∷ (codes "BadDelay") ∷ (codes "TaskRunning") ∷ (codes "NoTask") ∷ (codes "depth_max") ∷ (codes "visible") ∷ (codes "in_flight") ∷ (codes "delayed") ∷ (codes "age_sum") ∷ (codes "age_max") ∷ (codes "age_p50") ∷ (codes "age_p95") ∷ (codes "age_p99") ∷ []) ∷
    ((codes "report") ∷ (codes "q") ∷ (codes "1") ∷ (codes "0") ∷ (codes "2") ∷ (codes "0") ∷ (codes "1") ∷ (codes "0") ∷ (codes "0") ∷ (codes "0") ∷ (codes "0") ∷ (codes "0") ∷ (codes "1") ∷ (codes "0") ∷ (codes "0") ∷ (codes "0") ∷ (codes "0") ∷ (codes "0") ∷ (codes "0") ∷ (codes "0") ∷ (codes "1") ∷ (codes "0") ∷ (codes "0") ∷ (codes "0") ∷ (codes "1910") ∷ (codes "1910") ∷ (codes "1910") ∷ (codes "1910") ∷ (codes "1910") ∷ []) ∷ [])
unfolding reading_on_literals running_on_literals columns_of
case_0_heartbeat_by_an_older_receipt = refl

-- version-3/heartbeat_in_a_whole_batch.toml
case_0_heartbeat_in_a_whole_batch : shown_upto 3 70 [] (codes "# m-0-0 is in service from 10 to 3010, with a heartbeat at 2010: in flight until 7010. m-0-1 has none before its turn,\n# from 3010 to 6010: its timeout ends at 5010, where its first heartbeat is due. It comes back first, and the heartbeat\n# is refused. At 6010 the batch ends well, and both are deleted, 1 ms apart.\nversion = 3\nhorizon = 7000\n[[queue]]\nname = \"q\"\nvisibility_s = 5\n[[actor]]\nname = \"c\"\nkind = \"consumer\"\nqueue = \"q\"\nstart_ms = 10\nbatch = 2\nwait_s = 20\nservice_min_ms = 3000\nservice_max_ms = 3000\nbatch_fails = \"whole\"\nheartbeat_s = 2\n[[actor]]\nname = \"s\"\nkind = \"script\"\nqueue = \"q\"\ncalls = \"\"\"\nat,call,body,group,id,delay,receipt,max,wait,timeout,task\n0,send,a,,,,,,,,\n1,send,b,,,,,,,,\n\"\"\"\n")
    ≡ ran (((codes "at") ∷ (codes "queue") ∷ (codes "agent") ∷ (codes "call") ∷ (codes "answer") ∷ (codes "message") ∷ (codes "receipt") ∷ (codes "detail") ∷ []) ∷
    ((codes "0") ∷ (codes "q") ∷ (codes "s") ∷ (codes "send") ∷ (codes "new") ∷ (codes "m-0-0") ∷ [] ∷ digest (codes "a") ∷ []) ∷
    ((codes "1") ∷ (codes "q") ∷ (codes "s") ∷ (codes "send") ∷ (codes "new") ∷ (codes "m-0-1") ∷ [] ∷ digest (codes "b") ∷ []) ∷
    ((codes "10") ∷ (codes "q") ∷ (codes "c") ∷ (codes "receive") ∷ (codes "ok") ∷ (codes "m-0-0") ∷ (codes "r-0-0-1") ∷ (codes "o-0-0") ∷ []) ∷
    ((codes "10") ∷ (codes "q") ∷ (codes "c") ∷ (codes "receive") ∷ (codes "ok") ∷ (codes "m-0-1") ∷ (codes "r-0-1-1") ∷ (codes "o-0-1") ∷ []) ∷
    ((codes "2010") ∷ (codes "q") ∷ (codes "c") ∷ (codes "change") ∷ (codes "ok") ∷ (codes "m-0-0") ∷ (codes "r-0-0-1") ∷ (codes "5") ∷ []) ∷
    ((codes "5010") ∷ (codes "q") ∷ (codes "q") ∷ (codes "release") ∷ (codes "visible") ∷ (codes "m-0-1") ∷ [] ∷ [] ∷ []) ∷
    ((codes "5010") ∷ (codes "q") ∷ (codes "c") ∷ (codes "change") ∷ (codes "MessageNotInflight") ∷ [] ∷ (codes "r-0-1-1") ∷ [] ∷ []) ∷
    ((codes "6010") ∷ (codes "q") ∷ (codes "c") ∷ (codes "delete") ∷ (codes "deleted") ∷ (codes "m-0-0") ∷ (codes "r-0-0-1") ∷ (codes "6010") ∷ []) ∷
    ((codes "6011") ∷ (codes "q") ∷ (codes "c") ∷ (codes "delete") ∷ (codes "deleted") ∷ (codes "m-0-1") ∷ (codes "r-0-1-1") ∷ (codes "6010") ∷ []) ∷
    ((codes "6012") ∷ (codes "q") ∷ (codes "c") ∷ (codes "receive") ∷ (codes "wait") ∷ [] ∷ [] ∷ [] ∷ []) ∷
    ((codes "final") ∷ (codes "queue") ∷ (codes "message") ∷ (codes "origin") ∷ (codes "place") ∷ (codes "due") ∷ (codes "enqueued") ∷ (codes "receives") ∷ (codes "group") ∷ (codes "md5") ∷ []) ∷
    ((codes "transfer") ∷ (codes "from") ∷ (codes "to") ∷ (codes "kind") ∷ (codes "due") ∷ (codes "number") ∷ (codes "message") ∷ (codes "origin") ∷ (codes "md5") ∷ []) ∷
    ((codes "task") ∷ (codes "name") ∷ (codes "status") ∷ (codes "moved") ∷ []) ∷
    ((codes "report") ∷ (codes "queue") ∷ (codes "sends") ∷ (codes "repeats") ∷ (codes "receives") ∷ (codes "empties") ∷ (codes "deletes") ∷ (codes "expiries") ∷ (codes "redrives") ∷ (codes "moves") ∷ (codes "arrivals") ∷ (codes "OverLimit") ∷ (codes "MessageNotInflight") ∷ (codes "ReceiptHandleIsInvalid") ∷ (codes "BadTimeout") ∷ (codes "MissingGroup") ∷ (codes "MissingDeduplication") ∷ (codes "BadDelay") ∷ (codes "TaskRunning") ∷ (codes "NoTask") ∷ (codes "depth_max") ∷ (codes "visible") ∷ (codes "in_flight") ∷ (codes "delayed") ∷ (codes "age_sum") ∷ (codes "age_max") ∷ (codes "age_p50") ∷ (codes "age_p95") ∷ (codes "age_p99") ∷ []) ∷
    ((codes "report") ∷ (codes "q") ∷ (codes "2") ∷ (codes "0") ∷ (codes "2") ∷ (codes "0") ∷ (codes "2") ∷ (codes "0") ∷ (codes "0") ∷ (codes "0") ∷ (codes "0") ∷ (codes "0") ∷ (codes "1") ∷ (codes "0") ∷ (codes "0") ∷ (codes "0") ∷ (codes "0") ∷ (codes "0") ∷ (codes "0") ∷ (codes "0") ∷ (codes "2") ∷ (codes "0") ∷ (codes "0") ∷ (codes "0") ∷ (codes "12020") ∷ (codes "6010") ∷ (codes "6010") ∷ (codes "6010") ∷ (codes "6010") ∷ []) ∷ [])
unfolding reading_on_literals running_on_literals columns_of
case_0_heartbeat_in_a_whole_batch = refl

-- version-3/heartbeat_meets_the_end_of_the_timeout.toml
case_0_heartbeat_meets_the_end_of_the_timeout : shown_upto 3 67 [] (codes "# Heartbeat and timeout are both 2 s. At 2010 the message comes back first, so the heartbeat is refused, and so is the\n# one at 4010. The service goes on; its delete, by the newest receipt, deletes the visible message.\nversion = 3\nhorizon = 6000\n[[queue]]\nname = \"q\"\nvisibility_s = 2\n[[actor]]\nname = \"c\"\nkind = \"consumer\"\nqueue = \"q\"\nstart_ms = 10\nwait_s = 20\nservice_min_ms = 5000\nservice_max_ms = 5000\nheartbeat_s = 2\n[[actor]]\nname = \"s\"\nkind = \"script\"\nqueue = \"q\"\ncalls = \"\"\"\nat,call,body,group,id,delay,receipt,max,wait,timeout,task\n0,send,a,,,,,,,,\n\"\"\"\n")
    ≡ ran (((codes "at") ∷ (codes "queue") ∷ (codes "agent") ∷ (codes "call") ∷ (codes "answer") ∷ (codes "message") ∷ (codes "receipt") ∷ (codes "detail") ∷ []) ∷
    ((codes "0") ∷ (codes "q") ∷ (codes "s") ∷ (codes "send") ∷ (codes "new") ∷ (codes "m-0-0") ∷ [] ∷ digest (codes "a") ∷ []) ∷
    ((codes "10") ∷ (codes "q") ∷ (codes "c") ∷ (codes "receive") ∷ (codes "ok") ∷ (codes "m-0-0") ∷ (codes "r-0-0-1") ∷ (codes "o-0-0") ∷ []) ∷
    ((codes "2010") ∷ (codes "q") ∷ (codes "q") ∷ (codes "release") ∷ (codes "visible") ∷ (codes "m-0-0") ∷ [] ∷ [] ∷ []) ∷
    ((codes "2010") ∷ (codes "q") ∷ (codes "c") ∷ (codes "change") ∷ (codes "MessageNotInflight") ∷ [] ∷ (codes "r-0-0-1") ∷ [] ∷ []) ∷
    ((codes "4010") ∷ (codes "q") ∷ (codes "c") ∷ (codes "change") ∷ (codes "MessageNotInflight") ∷ [] ∷ (codes "r-0-0-1") ∷ [] ∷ []) ∷
    ((codes "5010") ∷ (codes "q") ∷ (codes "c") ∷ (codes "delete") ∷ (codes "deleted") ∷ (codes "m-0-0") ∷ (codes "r-0-0-1") ∷ (codes "5010") ∷ []) ∷
    ((codes "5011") ∷ (codes "q") ∷ (codes "c") ∷ (codes "receive") ∷ (codes "wait") ∷ [] ∷ [] ∷ [] ∷ []) ∷
    ((codes "final") ∷ (codes "queue") ∷ (codes "message") ∷ (codes "origin") ∷ (codes "place") ∷ (codes "due") ∷ (codes "enqueued") ∷ (codes "receives") ∷ (codes "group") ∷ (codes "md5") ∷ []) ∷
    ((codes "transfer") ∷ (codes "from") ∷ (codes "to") ∷ (codes "kind") ∷ (codes "due") ∷ (codes "number") ∷ (codes "message") ∷ (codes "origin") ∷ (codes "md5") ∷ []) ∷
    ((codes "task") ∷ (codes "name") ∷ (codes "status") ∷ (codes "moved") ∷ []) ∷
    ((codes "report") ∷ (codes "queue") ∷ (codes "sends") ∷ (codes "repeats") ∷ (codes "receives") ∷ (codes "empties") ∷ (codes "deletes") ∷ (codes "expiries") ∷ (codes "redrives") ∷ (codes "moves") ∷ (codes "arrivals") ∷ (codes "OverLimit") ∷ (codes "MessageNotInflight") ∷ (codes "ReceiptHandleIsInvalid") ∷ (codes "BadTimeout") ∷ (codes "MissingGroup") ∷ (codes "MissingDeduplication") ∷ (codes "BadDelay") ∷ (codes "TaskRunning") ∷ (codes "NoTask") ∷ (codes "depth_max") ∷ (codes "visible") ∷ (codes "in_flight") ∷ (codes "delayed") ∷ (codes "age_sum") ∷ (codes "age_max") ∷ (codes "age_p50") ∷ (codes "age_p95") ∷ (codes "age_p99") ∷ []) ∷
    ((codes "report") ∷ (codes "q") ∷ (codes "1") ∷ (codes "0") ∷ (codes "1") ∷ (codes "0") ∷ (codes "1") ∷ (codes "0") ∷ (codes "0") ∷ (codes "0") ∷ (codes "0") ∷ (codes "0") ∷ (codes "2") ∷ (codes "0") ∷ (codes "0") ∷ (codes "0") ∷ (codes "0") ∷ (codes "0") ∷ (codes "0") ∷ (codes "0") ∷ (codes "1") ∷ (codes "0") ∷ (codes "0") ∷ (codes "0") ∷ (codes "5010") ∷ (codes "5010") ∷ (codes "5010") ∷ (codes "5010") ∷ (codes "5010") ∷ []) ∷ [])
unfolding reading_on_literals running_on_literals columns_of
case_0_heartbeat_meets_the_end_of_the_timeout = refl

-- version-3/heartbeat_meets_the_expiry.toml
case_0_heartbeat_meets_the_expiry : shown_upto 3 69 [] (codes "# At 0 the consumer is before the script, so its poll waits and is answered by the send. Heartbeats at 20000 and 40000\n# are made. At 60000 the message expires, before the heartbeat of the same moment, which is then refused. The delete at\n# the end of the service finds it gone.\nversion = 3\nhorizon = 66000\n[[queue]]\nname = \"q\"\nretention_s = 60\n[[actor]]\nname = \"c\"\nkind = \"consumer\"\nqueue = \"q\"\nwait_s = 20\nservice_min_ms = 65000\nservice_max_ms = 65000\nheartbeat_s = 20\n[[actor]]\nname = \"s\"\nkind = \"script\"\nqueue = \"q\"\ncalls = \"\"\"\nat,call,body,group,id,delay,receipt,max,wait,timeout,task\n0,send,a,,,,,,,,\n\"\"\"\n")
    ≡ ran (((codes "at") ∷ (codes "queue") ∷ (codes "agent") ∷ (codes "call") ∷ (codes "answer") ∷ (codes "message") ∷ (codes "receipt") ∷ (codes "detail") ∷ []) ∷
    ((codes "0") ∷ (codes "q") ∷ (codes "c") ∷ (codes "receive") ∷ (codes "wait") ∷ [] ∷ [] ∷ [] ∷ []) ∷
    ((codes "0") ∷ (codes "q") ∷ (codes "s") ∷ (codes "send") ∷ (codes "new") ∷ (codes "m-0-0") ∷ [] ∷ digest (codes "a") ∷ []) ∷
    ((codes "0") ∷ (codes "q") ∷ (codes "c") ∷ (codes "receive") ∷ (codes "ok") ∷ (codes "m-0-0") ∷ (codes "r-0-0-1") ∷ (codes "o-0-0") ∷ []) ∷
    ((codes "20000") ∷ (codes "q") ∷ (codes "c") ∷ (codes "change") ∷ (codes "ok") ∷ (codes "m-0-0") ∷ (codes "r-0-0-1") ∷ (codes "30") ∷ []) ∷
    ((codes "40000") ∷ (codes "q") ∷ (codes "c") ∷ (codes "change") ∷ (codes "ok") ∷ (codes "m-0-0") ∷ (codes "r-0-0-1") ∷ (codes "30") ∷ []) ∷
    ((codes "60000") ∷ (codes "q") ∷ (codes "q") ∷ (codes "expire") ∷ (codes "expired") ∷ (codes "m-0-0") ∷ [] ∷ (codes "60000") ∷ []) ∷
    ((codes "60000") ∷ (codes "q") ∷ (codes "c") ∷ (codes "change") ∷ (codes "MessageNotInflight") ∷ [] ∷ (codes "r-0-0-1") ∷ [] ∷ []) ∷
    ((codes "65000") ∷ (codes "q") ∷ (codes "c") ∷ (codes "delete") ∷ (codes "gone") ∷ (codes "m-0-0") ∷ (codes "r-0-0-1") ∷ [] ∷ []) ∷
    ((codes "65001") ∷ (codes "q") ∷ (codes "c") ∷ (codes "receive") ∷ (codes "wait") ∷ [] ∷ [] ∷ [] ∷ []) ∷
    ((codes "final") ∷ (codes "queue") ∷ (codes "message") ∷ (codes "origin") ∷ (codes "place") ∷ (codes "due") ∷ (codes "enqueued") ∷ (codes "receives") ∷ (codes "group") ∷ (codes "md5") ∷ []) ∷
    ((codes "transfer") ∷ (codes "from") ∷ (codes "to") ∷ (codes "kind") ∷ (codes "due") ∷ (codes "number") ∷ (codes "message") ∷ (codes "origin") ∷ (codes "md5") ∷ []) ∷
    ((codes "task") ∷ (codes "name") ∷ (codes "status") ∷ (codes "moved") ∷ []) ∷
    ((codes "report") ∷ (codes "queue") ∷ (codes "sends") ∷ (codes "repeats") ∷ (codes "receives") ∷ (codes "empties") ∷ (codes "deletes") ∷ (codes "expiries") ∷ (codes "redrives") ∷ (codes "moves") ∷ (codes "arrivals") ∷ (codes "OverLimit") ∷ (codes "MessageNotInflight") ∷ (codes "ReceiptHandleIsInvalid") ∷ (codes "BadTimeout") ∷ (codes "MissingGroup") ∷ (codes "MissingDeduplication") ∷ (codes "BadDelay") ∷ (codes "TaskRunning") ∷ (codes "NoTask") ∷ (codes "depth_max") ∷ (codes "visible") ∷ (codes "in_flight") ∷ (codes "delayed") ∷ (codes "age_sum") ∷ (codes "age_max") ∷ (codes "age_p50") ∷ (codes "age_p95") ∷ (codes "age_p99") ∷ []) ∷
    ((codes "report") ∷ (codes "q") ∷ (codes "1") ∷ (codes "0") ∷ (codes "1") ∷ (codes "0") ∷ (codes "0") ∷ (codes "1") ∷ (codes "0") ∷ (codes "0") ∷ (codes "0") ∷ (codes "0") ∷ (codes "1") ∷ (codes "0") ∷ (codes "0") ∷ (codes "0") ∷ (codes "0") ∷ (codes "0") ∷ (codes "0") ∷ (codes "0") ∷ (codes "1") ∷ (codes "0") ∷ (codes "0") ∷ (codes "0") ∷ (codes "0") ∷ [] ∷ [] ∷ [] ∷ [] ∷ []) ∷ [])
unfolding reading_on_literals running_on_literals columns_of
case_0_heartbeat_meets_the_expiry = refl

-- version-3/heartbeat_then_backoff.toml
case_0_heartbeat_then_backoff : shown_upto 3 67 [] (codes "# Heartbeats at 1010 and 2010 keep the message in flight; at 2510 the service fails, and the timeout is changed to 10 s.\nversion = 3\nhorizon = 3000\n[[queue]]\nname = \"q\"\nvisibility_s = 2\n[[actor]]\nname = \"c\"\nkind = \"consumer\"\nqueue = \"q\"\nstart_ms = 10\nwait_s = 20\nservice_min_ms = 2500\nservice_max_ms = 2500\nfail_permille = 1000\nbackoff_s = [10]\nheartbeat_s = 1\n[[actor]]\nname = \"s\"\nkind = \"script\"\nqueue = \"q\"\ncalls = \"\"\"\nat,call,body,group,id,delay,receipt,max,wait,timeout,task\n0,send,a,,,,,,,,\n\"\"\"\n")
    ≡ ran (((codes "at") ∷ (codes "queue") ∷ (codes "agent") ∷ (codes "call") ∷ (codes "answer") ∷ (codes "message") ∷ (codes "receipt") ∷ (codes "detail") ∷ []) ∷
    ((codes "0") ∷ (codes "q") ∷ (codes "s") ∷ (codes "send") ∷ (codes "new") ∷ (codes "m-0-0") ∷ [] ∷ digest (codes "a") ∷ []) ∷
    ((codes "10") ∷ (codes "q") ∷ (codes "c") ∷ (codes "receive") ∷ (codes "ok") ∷ (codes "m-0-0") ∷ (codes "r-0-0-1") ∷ (codes "o-0-0") ∷ []) ∷
    ((codes "1010") ∷ (codes "q") ∷ (codes "c") ∷ (codes "change") ∷ (codes "ok") ∷ (codes "m-0-0") ∷ (codes "r-0-0-1") ∷ (codes "2") ∷ []) ∷
    ((codes "2010") ∷ (codes "q") ∷ (codes "c") ∷ (codes "change") ∷ (codes "ok") ∷ (codes "m-0-0") ∷ (codes "r-0-0-1") ∷ (codes "2") ∷ []) ∷
    ((codes "2510") ∷ (codes "q") ∷ (codes "c") ∷ (codes "fail") ∷ (codes "ok") ∷ (codes "m-0-0") ∷ (codes "r-0-0-1") ∷ [] ∷ []) ∷
    ((codes "2510") ∷ (codes "q") ∷ (codes "c") ∷ (codes "change") ∷ (codes "ok") ∷ (codes "m-0-0") ∷ (codes "r-0-0-1") ∷ (codes "10") ∷ []) ∷
    ((codes "2511") ∷ (codes "q") ∷ (codes "c") ∷ (codes "receive") ∷ (codes "wait") ∷ [] ∷ [] ∷ [] ∷ []) ∷
    ((codes "final") ∷ (codes "queue") ∷ (codes "message") ∷ (codes "origin") ∷ (codes "place") ∷ (codes "due") ∷ (codes "enqueued") ∷ (codes "receives") ∷ (codes "group") ∷ (codes "md5") ∷ []) ∷
    ((codes "final") ∷ (codes "q") ∷ (codes "m-0-0") ∷ (codes "o-0-0") ∷ (codes "inflight") ∷ (codes "12510") ∷ (codes "0") ∷ (codes "1") ∷ [] ∷ digest (codes "a") ∷ []) ∷
    ((codes "transfer") ∷ (codes "from") ∷ (codes "to") ∷ (codes "kind") ∷ (codes "due") ∷ (codes "number") ∷ (codes "message") ∷ (codes "origin") ∷ (codes "md5") ∷ []) ∷
    ((codes "task") ∷ (codes "name") ∷ (codes "status") ∷ (codes "moved") ∷ []) ∷
    ((codes "report") ∷ (codes "queue") ∷ (codes "sends") ∷ (codes "repeats") ∷ (codes "receives") ∷ (codes "empties") ∷ (codes "deletes") ∷ (codes "expiries") ∷ (codes "redrives") ∷ (codes "moves") ∷ (codes "arrivals") ∷ (codes "OverLimit") ∷ (codes "MessageNotInflight") ∷ (codes "ReceiptHandleIsInvalid") ∷ (codes "BadTimeout") ∷ (codes "MissingGroup") ∷ (codes "MissingDeduplication") ∷ (codes "BadDelay") ∷ (codes "TaskRunning") ∷ (codes "NoTask") ∷ (codes "depth_max") ∷ (codes "visible") ∷ (codes "in_flight") ∷ (codes "delayed") ∷ (codes "age_sum") ∷ (codes "age_max") ∷ (codes "age_p50") ∷ (codes "age_p95") ∷ (codes "age_p99") ∷ []) ∷
    ((codes "report") ∷ (codes "q") ∷ (codes "1") ∷ (codes "0") ∷ (codes "1") ∷ (codes "0") ∷ (codes "0") ∷ (codes "0") ∷ (codes "0") ∷ (codes "0") ∷ (codes "0") ∷ (codes "0") ∷ (codes "0") ∷ (codes "0") ∷ (codes "0") ∷ (codes "0") ∷ (codes "0") ∷ (codes "0") ∷ (codes "0") ∷ (codes "0") ∷ (codes "1") ∷ (codes "0") ∷ (codes "1") ∷ (codes "0") ∷ (codes "0") ∷ [] ∷ [] ∷ [] ∷ [] ∷ []) ∷ [])
unfolding reading_on_literals running_on_literals columns_of
case_0_heartbeat_then_backoff = refl

-- version-3/heartbeat_up_to_12_hours.toml
case_0_heartbeat_up_to_12_hours : shown_upto 3 68 [] (codes "# The receive is at 10, so no timeout may end after 43200010. The heartbeat at 20000010 asks for 23200 s, which ends\n# just then: made. That at 40000010 would end later: refused. At 43200010 the message comes back; at 60000010 it is not\n# in flight. The service ends at 60000021.\nversion = 3\nhorizon = 60000030\n[[queue]]\nname = \"q\"\n[[actor]]\nname = \"c\"\nkind = \"consumer\"\nqueue = \"q\"\nstart_ms = 10\nwait_s = 20\ntimeout_s = 23200\nservice_min_ms = 60000011\nservice_max_ms = 60000011\nheartbeat_s = 20000\n[[actor]]\nname = \"s\"\nkind = \"script\"\nqueue = \"q\"\ncalls = \"\"\"\nat,call,body,group,id,delay,receipt,max,wait,timeout,task\n0,send,a,,,,,,,,\n\"\"\"\n")
    ≡ ran (((codes "at") ∷ (codes "queue") ∷ (codes "agent") ∷ (codes "call") ∷ (codes "answer") ∷ (codes "message") ∷ (codes "receipt") ∷ (codes "detail") ∷ []) ∷
    ((codes "0") ∷ (codes "q") ∷ (codes "s") ∷ (codes "send") ∷ (codes "new") ∷ (codes "m-0-0") ∷ [] ∷ digest (codes "a") ∷ []) ∷
    ((codes "10") ∷ (codes "q") ∷ (codes "c") ∷ (codes "receive") ∷ (codes "ok") ∷ (codes "m-0-0") ∷ (codes "r-0-0-1") ∷ (codes "o-0-0") ∷ []) ∷
    ((codes "20000010") ∷ (codes "q") ∷ (codes "c") ∷ (codes "change") ∷ (codes "ok") ∷ (codes "m-0-0") ∷ (codes "r-0-0-1") ∷ (codes "23200") ∷ []) ∷
    ((codes "40000010") ∷ (codes "q") ∷ (codes "c") ∷ (codes "change") ∷ (codes "BadTimeout") ∷ [] ∷ (codes "r-0-0-1") ∷ [] ∷ []) ∷
    ((codes "43200010") ∷ (codes "q") ∷ (codes "q") ∷ (codes "release") ∷ (codes "visible") ∷ (codes "m-0-0") ∷ [] ∷ [] ∷ []) ∷
    ((codes "60000010") ∷ (codes "q") ∷ (codes "c") ∷ (codes "change") ∷ (codes "MessageNotInflight") ∷ [] ∷ (codes "r-0-0-1") ∷ [] ∷ []) ∷
    ((codes "60000021") ∷ (codes "q") ∷ (codes "c") ∷ (codes "delete") ∷ (codes "deleted") ∷ (codes "m-0-0") ∷ (codes "r-0-0-1") ∷ (codes "60000021") ∷ []) ∷
    ((codes "60000022") ∷ (codes "q") ∷ (codes "c") ∷ (codes "receive") ∷ (codes "wait") ∷ [] ∷ [] ∷ [] ∷ []) ∷
    ((codes "final") ∷ (codes "queue") ∷ (codes "message") ∷ (codes "origin") ∷ (codes "place") ∷ (codes "due") ∷ (codes "enqueued") ∷ (codes "receives") ∷ (codes "group") ∷ (codes "md5") ∷ []) ∷
    ((codes "transfer") ∷ (codes "from") ∷ (codes "to") ∷ (codes "kind") ∷ (codes "due") ∷ (codes "number") ∷ (codes "message") ∷ (codes "origin") ∷ (codes "md5") ∷ []) ∷
    ((codes "task") ∷ (codes "name") ∷ (codes "status") ∷ (codes "moved") ∷ []) ∷
    ((codes "report") ∷ (codes "queue") ∷ (codes "sends") ∷ (codes "repeats") ∷ (codes "receives") ∷ (codes "empties") ∷ (codes "deletes") ∷ (codes "expiries") ∷ (codes "redrives") ∷ (codes "moves") ∷ (codes "arrivals") ∷ (codes "OverLimit") ∷ (codes "MessageNotInflight") ∷ (codes "ReceiptHandleIsInvalid") ∷ (codes "BadTimeout") ∷ (codes "MissingGroup") ∷ (codes "MissingDeduplication") ∷ (codes "BadDelay") ∷ (codes "TaskRunning") ∷ (codes "NoTask") ∷ (codes "depth_max") ∷ (codes "visible") ∷ (codes "in_flight") ∷ (codes "delayed") ∷ (codes "age_sum") ∷ (codes "age_max") ∷ (codes "age_p50") ∷ (codes "age_p95") ∷ (codes "age_p99") ∷ []) ∷
    ((codes "report") ∷ (codes "q") ∷ (codes "1") ∷ (codes "0") ∷ (codes "1") ∷ (codes "0") ∷ (codes "1") ∷ (codes "0") ∷ (codes "0") ∷ (codes "0") ∷ (codes "0") ∷ (codes "0") ∷ (codes "1") ∷ (codes "0") ∷ (codes "1") ∷ (codes "0") ∷ (codes "0") ∷ (codes "0") ∷ (codes "0") ∷ (codes "0") ∷ (codes "1") ∷ (codes "0") ∷ (codes "0") ∷ (codes "0") ∷ (codes "60000021") ∷ (codes "60000021") ∷ (codes "60000021") ∷ (codes "60000021") ∷ (codes "60000021") ∷ []) ∷ [])
unfolding reading_on_literals running_on_literals columns_of
case_0_heartbeat_up_to_12_hours = refl

-- version-3/horizon_while_a_batch_is_decided.toml
case_0_horizon_while_a_batch_is_decided : shown_upto 3 68 [] (codes "# The service of the batch ends at 110. What would be decided after the horizon, at 112, is not: m-0-2 stays in flight.\nversion = 3\nhorizon = 111\n[[queue]]\nname = \"q\"\n[[actor]]\nname = \"c\"\nkind = \"consumer\"\nqueue = \"q\"\nstart_ms = 10\nbatch = 3\nwait_s = 20\nservice_min_ms = 100\nservice_max_ms = 100\nbatch_service = \"once\"\n[[actor]]\nname = \"s\"\nkind = \"script\"\nqueue = \"q\"\ncalls = \"\"\"\nat,call,body,group,id,delay,receipt,max,wait,timeout,task\n0,send,a,,,,,,,,\n1,send,b,,,,,,,,\n2,send,c,,,,,,,,\n\"\"\"\n")
    ≡ ran (((codes "at") ∷ (codes "queue") ∷ (codes "agent") ∷ (codes "call") ∷ (codes "answer") ∷ (codes "message") ∷ (codes "receipt") ∷ (codes "detail") ∷ []) ∷
    ((codes "0") ∷ (codes "q") ∷ (codes "s") ∷ (codes "send") ∷ (codes "new") ∷ (codes "m-0-0") ∷ [] ∷ digest (codes "a") ∷ []) ∷
    ((codes "1") ∷ (codes "q") ∷ (codes "s") ∷ (codes "send") ∷ (codes "new") ∷ (codes "m-0-1") ∷ [] ∷ digest (codes "b") ∷ []) ∷
    ((codes "2") ∷ (codes "q") ∷ (codes "s") ∷ (codes "send") ∷ (codes "new") ∷ (codes "m-0-2") ∷ [] ∷ digest (codes "c") ∷ []) ∷
    ((codes "10") ∷ (codes "q") ∷ (codes "c") ∷ (codes "receive") ∷ (codes "ok") ∷ (codes "m-0-0") ∷ (codes "r-0-0-1") ∷ (codes "o-0-0") ∷ []) ∷
    ((codes "10") ∷ (codes "q") ∷ (codes "c") ∷ (codes "receive") ∷ (codes "ok") ∷ (codes "m-0-1") ∷ (codes "r-0-1-1") ∷ (codes "o-0-1") ∷ []) ∷
    ((codes "10") ∷ (codes "q") ∷ (codes "c") ∷ (codes "receive") ∷ (codes "ok") ∷ (codes "m-0-2") ∷ (codes "r-0-2-1") ∷ (codes "o-0-2") ∷ []) ∷
    ((codes "110") ∷ (codes "q") ∷ (codes "c") ∷ (codes "delete") ∷ (codes "deleted") ∷ (codes "m-0-0") ∷ (codes "r-0-0-1") ∷ (codes "110") ∷ []) ∷
    ((codes "111") ∷ (codes "q") ∷ (codes "c") ∷ (codes "delete") ∷ (codes "deleted") ∷ (codes "m-0-1") ∷ (codes "r-0-1-1") ∷ (codes "110") ∷ []) ∷
    ((codes "final") ∷ (codes "queue") ∷ (codes "message") ∷ (codes "origin") ∷ (codes "place") ∷ (codes "due") ∷ (codes "enqueued") ∷ (codes "receives") ∷ (codes "group") ∷ (codes "md5") ∷ []) ∷
    ((codes "final") ∷ (codes "q") ∷ (codes "m-0-2") ∷ (codes "o-0-2") ∷ (codes "inflight") ∷ (codes "30010") ∷ (codes "2") ∷ (codes "1") ∷ [] ∷ digest (codes "c") ∷ []) ∷
    ((codes "transfer") ∷ (codes "from") ∷ (codes "to") ∷ (codes "kind") ∷ (codes "due") ∷ (codes "number") ∷ (codes "message") ∷ (codes "origin") ∷ (codes "md5") ∷ []) ∷
    ((codes "task") ∷ (codes "name") ∷ (codes "status") ∷ (codes "moved") ∷ []) ∷
    ((codes "report") ∷ (codes "queue") ∷ (codes "sends") ∷ (codes "repeats") ∷ (codes "receives") ∷ (codes "empties") ∷ (codes "deletes") ∷ (codes "expiries") ∷ (codes "redrives") ∷ (codes "moves") ∷ (codes "arrivals") ∷ (codes "OverLimit") ∷ (codes "MessageNotInflight") ∷ (codes "ReceiptHandleIsInvalid") ∷ (codes "BadTimeout") ∷ (codes "MissingGroup") ∷ (codes "MissingDeduplication") ∷ (codes "BadDelay") ∷ (codes "TaskRunning") ∷ (codes "NoTask") ∷ (codes "depth_max") ∷ (codes "visible") ∷ (codes "in_flight") ∷ (codes "delayed") ∷ (codes "age_sum") ∷ (codes "age_max") ∷ (codes "age_p50") ∷ (codes "age_p95") ∷ (codes "age_p99") ∷ []) ∷
    ((codes "report") ∷ (codes "q") ∷ (codes "3") ∷ (codes "0") ∷ (codes "3") ∷ (codes "0") ∷ (codes "2") ∷ (codes "0") ∷ (codes "0") ∷ (codes "0") ∷ (codes "0") ∷ (codes "0") ∷ (codes "0") ∷ (codes "0") ∷ (codes "0") ∷ (codes "0") ∷ (codes "0") ∷ (codes "0") ∷ (codes "0") ∷ (codes "0") ∷ (codes "3") ∷ (codes "0") ∷ (codes "1") ∷ (codes "0") ∷ (codes "220") ∷ (codes "110") ∷ (codes "110") ∷ (codes "110") ∷ (codes "110") ∷ []) ∷ [])
unfolding reading_on_literals running_on_literals columns_of
case_0_horizon_while_a_batch_is_decided = refl

-- version-3/horizon_while_a_batch_is_settled.toml
case_0_horizon_while_a_batch_is_settled : shown_upto 3 68 [] (codes "# The batch is deleted at 310, 311 and 312; the horizon is 311, so m-0-2 stays in flight.\nversion = 3\nhorizon = 311\n[[queue]]\nname = \"q\"\n[[actor]]\nname = \"c\"\nkind = \"consumer\"\nqueue = \"q\"\nstart_ms = 10\nbatch = 3\nservice_min_ms = 100\nservice_max_ms = 100\nbatch_fails = \"whole\"\n[[actor]]\nname = \"s\"\nkind = \"script\"\nqueue = \"q\"\ncalls = \"\"\"\nat,call,body,group,id,delay,receipt,max,wait,timeout,task\n0,send,a,,,,,,,,\n1,send,b,,,,,,,,\n2,send,c,,,,,,,,\n\"\"\"\n")
    ≡ ran (((codes "at") ∷ (codes "queue") ∷ (codes "agent") ∷ (codes "call") ∷ (codes "answer") ∷ (codes "message") ∷ (codes "receipt") ∷ (codes "detail") ∷ []) ∷
    ((codes "0") ∷ (codes "q") ∷ (codes "s") ∷ (codes "send") ∷ (codes "new") ∷ (codes "m-0-0") ∷ [] ∷ digest (codes "a") ∷ []) ∷
    ((codes "1") ∷ (codes "q") ∷ (codes "s") ∷ (codes "send") ∷ (codes "new") ∷ (codes "m-0-1") ∷ [] ∷ digest (codes "b") ∷ []) ∷
    ((codes "2") ∷ (codes "q") ∷ (codes "s") ∷ (codes "send") ∷ (codes "new") ∷ (codes "m-0-2") ∷ [] ∷ digest (codes "c") ∷ []) ∷
    ((codes "10") ∷ (codes "q") ∷ (codes "c") ∷ (codes "receive") ∷ (codes "ok") ∷ (codes "m-0-0") ∷ (codes "r-0-0-1") ∷ (codes "o-0-0") ∷ []) ∷
    ((codes "10") ∷ (codes "q") ∷ (codes "c") ∷ (codes "receive") ∷ (codes "ok") ∷ (codes "m-0-1") ∷ (codes "r-0-1-1") ∷ (codes "o-0-1") ∷ []) ∷
    ((codes "10") ∷ (codes "q") ∷ (codes "c") ∷ (codes "receive") ∷ (codes "ok") ∷ (codes "m-0-2") ∷ (codes "r-0-2-1") ∷ (codes "o-0-2") ∷ []) ∷
    ((codes "310") ∷ (codes "q") ∷ (codes "c") ∷ (codes "delete") ∷ (codes "deleted") ∷ (codes "m-0-0") ∷ (codes "r-0-0-1") ∷ (codes "310") ∷ []) ∷
    ((codes "311") ∷ (codes "q") ∷ (codes "c") ∷ (codes "delete") ∷ (codes "deleted") ∷ (codes "m-0-1") ∷ (codes "r-0-1-1") ∷ (codes "310") ∷ []) ∷
    ((codes "final") ∷ (codes "queue") ∷ (codes "message") ∷ (codes "origin") ∷ (codes "place") ∷ (codes "due") ∷ (codes "enqueued") ∷ (codes "receives") ∷ (codes "group") ∷ (codes "md5") ∷ []) ∷
    ((codes "final") ∷ (codes "q") ∷ (codes "m-0-2") ∷ (codes "o-0-2") ∷ (codes "inflight") ∷ (codes "30010") ∷ (codes "2") ∷ (codes "1") ∷ [] ∷ digest (codes "c") ∷ []) ∷
    ((codes "transfer") ∷ (codes "from") ∷ (codes "to") ∷ (codes "kind") ∷ (codes "due") ∷ (codes "number") ∷ (codes "message") ∷ (codes "origin") ∷ (codes "md5") ∷ []) ∷
    ((codes "task") ∷ (codes "name") ∷ (codes "status") ∷ (codes "moved") ∷ []) ∷
    ((codes "report") ∷ (codes "queue") ∷ (codes "sends") ∷ (codes "repeats") ∷ (codes "receives") ∷ (codes "empties") ∷ (codes "deletes") ∷ (codes "expiries") ∷ (codes "redrives") ∷ (codes "moves") ∷ (codes "arrivals") ∷ (codes "OverLimit") ∷ (codes "MessageNotInflight") ∷ (codes "ReceiptHandleIsInvalid") ∷ (codes "BadTimeout") ∷ (codes "MissingGroup") ∷ (codes "MissingDeduplication") ∷ (codes "BadDelay") ∷ (codes "TaskRunning") ∷ (codes "NoTask") ∷ (codes "depth_max") ∷ (codes "visible") ∷ (codes "in_flight") ∷ (codes "delayed") ∷ (codes "age_sum") ∷ (codes "age_max") ∷ (codes "age_p50") ∷ (codes "age_p95") ∷ (codes "age_p99") ∷ []) ∷
    ((codes "report") ∷ (codes "q") ∷ (codes "3") ∷ (codes "0") ∷ (codes "3") ∷ (codes "0") ∷ (codes "2") ∷ (codes "0") ∷ (codes "0") ∷ (codes "0") ∷ (codes "0") ∷ (codes "0") ∷ (codes "0") ∷ (codes "0") ∷ (codes "0") ∷ (codes "0") ∷ (codes "0") ∷ (codes "0") ∷ (codes "0") ∷ (codes "0") ∷ (codes "3") ∷ (codes "0") ∷ (codes "1") ∷ (codes "0") ∷ (codes "620") ∷ (codes "310") ∷ (codes "310") ∷ (codes "310") ∷ (codes "310") ∷ []) ∷ [])
unfolding reading_on_literals running_on_literals columns_of
case_0_horizon_while_a_batch_is_settled = refl

-- version-3/jitter_between_two_services.toml
case_0_jitter_between_two_services : shown_upto 3 69 [] (codes "# Words of agent 2: 717.678 (time of the first service, 100 + 71), 447.024 (its chance), 12.444 (timeout of m-0-0, from\n# 0 to 89 s: 1 s), 505.346 (time of the second service, 100 + 50), 192.088 (its chance) and 387.809 (timeout of m-0-1:\n# 34 s).\nversion = 3\nhorizon = 1000\n[[queue]]\nname = \"q\"\n[[queue]]\nname = \"p\"\n[[actor]]\nname = \"c\"\nkind = \"consumer\"\nqueue = \"q\"\nstart_ms = 10\nbatch = 2\nwait_s = 20\nservice_min_ms = 100\nservice_max_ms = 199\nfail_permille = 1000\nbackoff_s = [89]\nbackoff_jitter = \"full\"\n[[actor]]\nname = \"s\"\nkind = \"script\"\nqueue = \"q\"\ncalls = \"\"\"\nat,call,body,group,id,delay,receipt,max,wait,timeout,task\n0,send,a,,,,,,,,\n1,send,b,,,,,,,,\n\"\"\"\n")
    ≡ ran (((codes "at") ∷ (codes "queue") ∷ (codes "agent") ∷ (codes "call") ∷ (codes "answer") ∷ (codes "message") ∷ (codes "receipt") ∷ (codes "detail") ∷ []) ∷
    ((codes "0") ∷ (codes "q") ∷ (codes "s") ∷ (codes "send") ∷ (codes "new") ∷ (codes "m-0-0") ∷ [] ∷ digest (codes "a") ∷ []) ∷
    ((codes "1") ∷ (codes "q") ∷ (codes "s") ∷ (codes "send") ∷ (codes "new") ∷ (codes "m-0-1") ∷ [] ∷ digest (codes "b") ∷ []) ∷
    ((codes "10") ∷ (codes "q") ∷ (codes "c") ∷ (codes "receive") ∷ (codes "ok") ∷ (codes "m-0-0") ∷ (codes "r-0-0-1") ∷ (codes "o-0-0") ∷ []) ∷
    ((codes "10") ∷ (codes "q") ∷ (codes "c") ∷ (codes "receive") ∷ (codes "ok") ∷ (codes "m-0-1") ∷ (codes "r-0-1-1") ∷ (codes "o-0-1") ∷ []) ∷
    ((codes "181") ∷ (codes "q") ∷ (codes "c") ∷ (codes "fail") ∷ (codes "ok") ∷ (codes "m-0-0") ∷ (codes "r-0-0-1") ∷ [] ∷ []) ∷
    ((codes "181") ∷ (codes "q") ∷ (codes "c") ∷ (codes "change") ∷ (codes "ok") ∷ (codes "m-0-0") ∷ (codes "r-0-0-1") ∷ (codes "1") ∷ []) ∷
    ((codes "331") ∷ (codes "q") ∷ (codes "c") ∷ (codes "fail") ∷ (codes "ok") ∷ (codes "m-0-1") ∷ (codes "r-0-1-1") ∷ [] ∷ []) ∷
    ((codes "331") ∷ (codes "q") ∷ (codes "c") ∷ (codes "change") ∷ (codes "ok") ∷ (codes "m-0-1") ∷ (codes "r-0-1-1") ∷ (codes "34") ∷ []) ∷
    ((codes "332") ∷ (codes "q") ∷ (codes "c") ∷ (codes "receive") ∷ (codes "wait") ∷ [] ∷ [] ∷ [] ∷ []) ∷
    ((codes "final") ∷ (codes "queue") ∷ (codes "message") ∷ (codes "origin") ∷ (codes "place") ∷ (codes "due") ∷ (codes "enqueued") ∷ (codes "receives") ∷ (codes "group") ∷ (codes "md5") ∷ []) ∷
    ((codes "final") ∷ (codes "q") ∷ (codes "m-0-0") ∷ (codes "o-0-0") ∷ (codes "inflight") ∷ (codes "1181") ∷ (codes "0") ∷ (codes "1") ∷ [] ∷ digest (codes "a") ∷ []) ∷
    ((codes "final") ∷ (codes "q") ∷ (codes "m-0-1") ∷ (codes "o-0-1") ∷ (codes "inflight") ∷ (codes "34331") ∷ (codes "1") ∷ (codes "1") ∷ [] ∷ digest (codes "b") ∷ []) ∷
    ((codes "transfer") ∷ (codes "from") ∷ (codes "to") ∷ (codes "kind") ∷ (codes "due") ∷ (codes "number") ∷ (codes "message") ∷ (codes "origin") ∷ (codes "md5") ∷ []) ∷
    ((codes "task") ∷ (codes "name") ∷ (codes "status") ∷ (codes "moved") ∷ []) ∷
    ((codes "report") ∷ (codes "queue") ∷ (codes "sends") ∷ (codes "repeats") ∷ (codes "receives") ∷ (codes "empties") ∷ (codes "deletes") ∷ (codes "expiries") ∷ (codes "redrives") ∷ (codes "moves") ∷ (codes "arrivals") ∷ (codes "OverLimit") ∷ (codes "MessageNotInflight") ∷ (codes "ReceiptHandleIsInvalid") ∷ (codes "BadTimeout") ∷ (codes "MissingGroup") ∷ (codes "MissingDeduplication") ∷ (codes "BadDelay") ∷ (codes "TaskRunning") ∷ (codes "NoTask") ∷ (codes "depth_max") ∷ (codes "visible") ∷ (codes "in_flight") ∷ (codes "delayed") ∷ (codes "age_sum") ∷ (codes "age_max") ∷ (codes "age_p50") ∷ (codes "age_p95") ∷ (codes "age_p99") ∷ []) ∷
    ((codes "report") ∷ (codes "q") ∷ (codes "2") ∷ (codes "0") ∷ (codes "2") ∷ (codes "0") ∷ (codes "0") ∷ (codes "0") ∷ (codes "0") ∷ (codes "0") ∷ (codes "0") ∷ (codes "0") ∷ (codes "0") ∷ (codes "0") ∷ (codes "0") ∷ (codes "0") ∷ (codes "0") ∷ (codes "0") ∷ (codes "0") ∷ (codes "0") ∷ (codes "2") ∷ (codes "0") ∷ (codes "2") ∷ (codes "0") ∷ (codes "0") ∷ [] ∷ [] ∷ [] ∷ [] ∷ []) ∷
    ((codes "report") ∷ (codes "p") ∷ (codes "0") ∷ (codes "0") ∷ (codes "0") ∷ (codes "0") ∷ (codes "0") ∷ (codes "0") ∷ (codes "0") ∷ (codes "0") ∷ (codes "0") ∷ (codes "0") ∷ (codes "0") ∷ (codes "0") ∷ (codes "0") ∷ (codes "0") ∷ (codes "0") ∷ (codes "0") ∷ (codes "0") ∷ (codes "0") ∷ (codes "0") ∷ (codes "0") ∷ (codes "0") ∷ (codes "0") ∷ (codes "0") ∷ [] ∷ [] ∷ [] ∷ [] ∷ []) ∷ [])
unfolding reading_on_literals running_on_literals columns_of
case_0_jitter_between_two_services = refl

-- version-3/jitter_from_zero_to_zero.toml
case_0_jitter_from_zero_to_zero : shown_upto 3 70 [] (codes "# A timeout from 0 to 0 is 0: the message is back at once. After its second receive the timeout is that of the last\n# entry, also 0.\nversion = 3\nhorizon = 212\n[[queue]]\nname = \"q\"\n[[actor]]\nname = \"c\"\nkind = \"consumer\"\nqueue = \"q\"\nstart_ms = 10\nwait_s = 20\nservice_min_ms = 100\nservice_max_ms = 100\nfail_permille = 1000\nbackoff_s = [0]\nbackoff_jitter = \"full\"\n[[actor]]\nname = \"s\"\nkind = \"script\"\nqueue = \"q\"\ncalls = \"\"\"\nat,call,body,group,id,delay,receipt,max,wait,timeout,task\n0,send,a,,,,,,,,\n\"\"\"\n")
    ≡ ran (((codes "at") ∷ (codes "queue") ∷ (codes "agent") ∷ (codes "call") ∷ (codes "answer") ∷ (codes "message") ∷ (codes "receipt") ∷ (codes "detail") ∷ []) ∷
    ((codes "0") ∷ (codes "q") ∷ (codes "s") ∷ (codes "send") ∷ (codes "new") ∷ (codes "m-0-0") ∷ [] ∷ digest (codes "a") ∷ []) ∷
    ((codes "10") ∷ (codes "q") ∷ (codes "c") ∷ (codes "receive") ∷ (codes "ok") ∷ (codes "m-0-0") ∷ (codes "r-0-0-1") ∷ (codes "o-0-0") ∷ []) ∷
    ((codes "110") ∷ (codes "q") ∷ (codes "c") ∷ (codes "fail") ∷ (codes "ok") ∷ (codes "m-0-0") ∷ (codes "r-0-0-1") ∷ [] ∷ []) ∷
    ((codes "110") ∷ (codes "q") ∷ (codes "c") ∷ (codes "change") ∷ (codes "ok") ∷ (codes "m-0-0") ∷ (codes "r-0-0-1") ∷ (codes "0") ∷ []) ∷
    ((codes "110") ∷ (codes "q") ∷ (codes "q") ∷ (codes "release") ∷ (codes "visible") ∷ (codes "m-0-0") ∷ [] ∷ [] ∷ []) ∷
    ((codes "111") ∷ (codes "q") ∷ (codes "c") ∷ (codes "receive") ∷ (codes "ok") ∷ (codes "m-0-0") ∷ (codes "r-0-0-2") ∷ (codes "o-0-0") ∷ []) ∷
    ((codes "211") ∷ (codes "q") ∷ (codes "c") ∷ (codes "fail") ∷ (codes "ok") ∷ (codes "m-0-0") ∷ (codes "r-0-0-2") ∷ [] ∷ []) ∷
    ((codes "211") ∷ (codes "q") ∷ (codes "c") ∷ (codes "change") ∷ (codes "ok") ∷ (codes "m-0-0") ∷ (codes "r-0-0-2") ∷ (codes "0") ∷ []) ∷
    ((codes "211") ∷ (codes "q") ∷ (codes "q") ∷ (codes "release") ∷ (codes "visible") ∷ (codes "m-0-0") ∷ [] ∷ [] ∷ []) ∷
    ((codes "212") ∷ (codes "q") ∷ (codes "c") ∷ (codes "receive") ∷ (codes "ok") ∷ (codes "m-0-0") ∷ (codes "r-0-0-3") ∷ (codes "o-0-0") ∷ []) ∷
    ((codes "final") ∷ (codes "queue") ∷ (codes "message") ∷ (codes "origin") ∷ (codes "place") ∷ (codes "due") ∷ (codes "enqueued") ∷ (codes "receives") ∷ (codes "group") ∷ (codes "md5") ∷ []) ∷
    ((codes "final") ∷ (codes "q") ∷ (codes "m-0-0") ∷ (codes "o-0-0") ∷ (codes "inflight") ∷ (codes "30212") ∷ (codes "0") ∷ (codes "3") ∷ [] ∷ digest (codes "a") ∷ []) ∷
    ((codes "transfer") ∷ (codes "from") ∷ (codes "to") ∷ (codes "kind") ∷ (codes "due") ∷ (codes "number") ∷ (codes "message") ∷ (codes "origin") ∷ (codes "md5") ∷ []) ∷
    ((codes "task") ∷ (codes "name") ∷ (codes "status") ∷ (codes "moved") ∷ []) ∷
    ((codes "report") ∷ (codes "queue") ∷ (codes "sends") ∷ (codes "repeats") ∷ (codes "receives") ∷ (codes "empties") ∷ (codes "deletes") ∷ (codes "expiries") ∷ (codes "redrives") ∷ (codes "moves") ∷ (codes "arrivals") ∷ (codes "OverLimit") ∷ (codes "MessageNotInflight") ∷ (codes "ReceiptHandleIsInvalid") ∷ (codes "BadTimeout") ∷ (codes "MissingGroup") ∷ (codes "MissingDeduplication") ∷ (codes "BadDelay") ∷ (codes "TaskRunning") ∷ (codes "NoTask") ∷ (codes "depth_max") ∷ (codes "visible") ∷ (codes "in_flight") ∷ (codes "delayed") ∷ (codes "age_sum") ∷ (codes "age_max") ∷ (codes "age_p50") ∷ (codes "age_p95") ∷ (codes "age_p99") ∷ []) ∷
    ((codes "report") ∷ (codes "q") ∷ (codes "1") ∷ (codes "0") ∷ (codes "3") ∷ (codes "0") ∷ (codes "0") ∷ (codes "0") ∷ (codes "0") ∷ (codes "0") ∷ (codes "0") ∷ (codes "0") ∷ (codes "0") ∷ (codes "0") ∷ (codes "0") ∷ (codes "0") ∷ (codes "0") ∷ (codes "0") ∷ (codes "0") ∷ (codes "0") ∷ (codes "1") ∷ (codes "0") ∷ (codes "1") ∷ (codes "0") ∷ (codes "0") ∷ [] ∷ [] ∷ [] ∷ [] ∷ []) ∷ [])
unfolding reading_on_literals running_on_literals columns_of
case_0_jitter_from_zero_to_zero = refl

-- version-3/jitter_of_a_whole_batch.toml
case_0_jitter_of_a_whole_batch : shown_upto 3 69 [] (codes "# Words of agent 2: 717.678 and 447.024 (time and chance of the service), 12.444 (timeout of m-0-0, from 0 to 9 s: 0)\n# and 505.346 (that of m-0-1: 5 s). The first is back at once, after the row of the change.\nversion = 3\nhorizon = 112\n[[queue]]\nname = \"q\"\n[[queue]]\nname = \"p\"\n[[actor]]\nname = \"c\"\nkind = \"consumer\"\nqueue = \"q\"\nstart_ms = 10\nbatch = 2\nwait_s = 20\nservice_min_ms = 100\nservice_max_ms = 100\nbatch_service = \"once\"\nfail_permille = 1000\nbatch_fails = \"whole\"\nbackoff_s = [9]\nbackoff_jitter = \"full\"\n[[actor]]\nname = \"s\"\nkind = \"script\"\nqueue = \"q\"\ncalls = \"\"\"\nat,call,body,group,id,delay,receipt,max,wait,timeout,task\n0,send,a,,,,,,,,\n1,send,b,,,,,,,,\n\"\"\"\n")
    ≡ ran (((codes "at") ∷ (codes "queue") ∷ (codes "agent") ∷ (codes "call") ∷ (codes "answer") ∷ (codes "message") ∷ (codes "receipt") ∷ (codes "detail") ∷ []) ∷
    ((codes "0") ∷ (codes "q") ∷ (codes "s") ∷ (codes "send") ∷ (codes "new") ∷ (codes "m-0-0") ∷ [] ∷ digest (codes "a") ∷ []) ∷
    ((codes "1") ∷ (codes "q") ∷ (codes "s") ∷ (codes "send") ∷ (codes "new") ∷ (codes "m-0-1") ∷ [] ∷ digest (codes "b") ∷ []) ∷
    ((codes "10") ∷ (codes "q") ∷ (codes "c") ∷ (codes "receive") ∷ (codes "ok") ∷ (codes "m-0-0") ∷ (codes "r-0-0-1") ∷ (codes "o-0-0") ∷ []) ∷
    ((codes "10") ∷ (codes "q") ∷ (codes "c") ∷ (codes "receive") ∷ (codes "ok") ∷ (codes "m-0-1") ∷ (codes "r-0-1-1") ∷ (codes "o-0-1") ∷ []) ∷
    ((codes "110") ∷ (codes "q") ∷ (codes "c") ∷ (codes "fail") ∷ (codes "ok") ∷ (codes "m-0-0") ∷ (codes "r-0-0-1") ∷ [] ∷ []) ∷
    ((codes "110") ∷ (codes "q") ∷ (codes "c") ∷ (codes "change") ∷ (codes "ok") ∷ (codes "m-0-0") ∷ (codes "r-0-0-1") ∷ (codes "0") ∷ []) ∷
    ((codes "110") ∷ (codes "q") ∷ (codes "q") ∷ (codes "release") ∷ (codes "visible") ∷ (codes "m-0-0") ∷ [] ∷ [] ∷ []) ∷
    ((codes "111") ∷ (codes "q") ∷ (codes "c") ∷ (codes "change") ∷ (codes "ok") ∷ (codes "m-0-1") ∷ (codes "r-0-1-1") ∷ (codes "5") ∷ []) ∷
    ((codes "112") ∷ (codes "q") ∷ (codes "c") ∷ (codes "receive") ∷ (codes "ok") ∷ (codes "m-0-0") ∷ (codes "r-0-0-2") ∷ (codes "o-0-0") ∷ []) ∷
    ((codes "final") ∷ (codes "queue") ∷ (codes "message") ∷ (codes "origin") ∷ (codes "place") ∷ (codes "due") ∷ (codes "enqueued") ∷ (codes "receives") ∷ (codes "group") ∷ (codes "md5") ∷ []) ∷
    ((codes "final") ∷ (codes "q") ∷ (codes "m-0-0") ∷ (codes "o-0-0") ∷ (codes "inflight") ∷ (codes "30112") ∷ (codes "0") ∷ (codes "2") ∷ [] ∷ digest (codes "a") ∷ []) ∷
    ((codes "final") ∷ (codes "q") ∷ (codes "m-0-1") ∷ (codes "o-0-1") ∷ (codes "inflight") ∷ (codes "5111") ∷ (codes "1") ∷ (codes "1") ∷ [] ∷ digest (codes "b") ∷ []) ∷
    ((codes "transfer") ∷ (codes "from") ∷ (codes "to") ∷ (codes "kind") ∷ (codes "due") ∷ (codes "number") ∷ (codes "message") ∷ (codes "origin") ∷ (codes "md5") ∷ []) ∷
    ((codes "task") ∷ (codes "name") ∷ (codes "status") ∷ (codes "moved") ∷ []) ∷
    ((codes "report") ∷ (codes "queue") ∷ (codes "sends") ∷ (codes "repeats") ∷ (codes "receives") ∷ (codes "empties") ∷ (codes "deletes") ∷ (codes "expiries") ∷ (codes "redrives") ∷ (codes "moves") ∷ (codes "arrivals") ∷ (codes "OverLimit") ∷ (codes "MessageNotInflight") ∷ (codes "ReceiptHandleIsInvalid") ∷ (codes "BadTimeout") ∷ (codes "MissingGroup") ∷ (codes "MissingDeduplication") ∷ (codes "BadDelay") ∷ (codes "TaskRunning") ∷ (codes "NoTask") ∷ (codes "depth_max") ∷ (codes "visible") ∷ (codes "in_flight") ∷ (codes "delayed") ∷ (codes "age_sum") ∷ (codes "age_max") ∷ (codes "age_p50") ∷ (codes "age_p95") ∷ (codes "age_p99") ∷ []) ∷
    ((codes "report") ∷ (codes "q") ∷ (codes "2") ∷ (codes "0") ∷ (codes "3") ∷ (codes "0") ∷ (codes "0") ∷ (codes "0") ∷ (codes "0") ∷ (codes "0") ∷ (codes "0") ∷ (codes "0") ∷ (codes "0") ∷ (codes "0") ∷ (codes "0") ∷ (codes "0") ∷ (codes "0") ∷ (codes "0") ∷ (codes "0") ∷ (codes "0") ∷ (codes "2") ∷ (codes "0") ∷ (codes "2") ∷ (codes "0") ∷ (codes "0") ∷ [] ∷ [] ∷ [] ∷ [] ∷ []) ∷
    ((codes "report") ∷ (codes "p") ∷ (codes "0") ∷ (codes "0") ∷ (codes "0") ∷ (codes "0") ∷ (codes "0") ∷ (codes "0") ∷ (codes "0") ∷ (codes "0") ∷ (codes "0") ∷ (codes "0") ∷ (codes "0") ∷ (codes "0") ∷ (codes "0") ∷ (codes "0") ∷ (codes "0") ∷ (codes "0") ∷ (codes "0") ∷ (codes "0") ∷ (codes "0") ∷ (codes "0") ∷ (codes "0") ∷ (codes "0") ∷ (codes "0") ∷ [] ∷ [] ∷ [] ∷ [] ∷ []) ∷ [])
unfolding reading_on_literals running_on_literals columns_of
case_0_jitter_of_a_whole_batch = refl

-- version-3/jitter_of_none.toml
case_0_jitter_of_none : shown_upto 3 65 [] (codes "# With backoff_jitter = \"none\" the timeout is the entry, as without the key.\nversion = 3\nhorizon = 1000\n[[queue]]\nname = \"q\"\n[[actor]]\nname = \"c\"\nkind = \"consumer\"\nqueue = \"q\"\nstart_ms = 10\nwait_s = 20\nservice_min_ms = 100\nservice_max_ms = 100\nfail_permille = 1000\nbackoff_s = [9]\nbackoff_jitter = \"none\"\n[[actor]]\nname = \"s\"\nkind = \"script\"\nqueue = \"q\"\ncalls = \"\"\"\nat,call,body,group,id,delay,receipt,max,wait,timeout,task\n0,send,a,,,,,,,,\n\"\"\"\n")
    ≡ ran (((codes "at") ∷ (codes "queue") ∷ (codes "agent") ∷ (codes "call") ∷ (codes "answer") ∷ (codes "message") ∷ (codes "receipt") ∷ (codes "detail") ∷ []) ∷
    ((codes "0") ∷ (codes "q") ∷ (codes "s") ∷ (codes "send") ∷ (codes "new") ∷ (codes "m-0-0") ∷ [] ∷ digest (codes "a") ∷ []) ∷
    ((codes "10") ∷ (codes "q") ∷ (codes "c") ∷ (codes "receive") ∷ (codes "ok") ∷ (codes "m-0-0") ∷ (codes "r-0-0-1") ∷ (codes "o-0-0") ∷ []) ∷
    ((codes "110") ∷ (codes "q") ∷ (codes "c") ∷ (codes "fail") ∷ (codes "ok") ∷ (codes "m-0-0") ∷ (codes "r-0-0-1") ∷ [] ∷ []) ∷
    ((codes "110") ∷ (codes "q") ∷ (codes "c") ∷ (codes "change") ∷ (codes "ok") ∷ (codes "m-0-0") ∷ (codes "r-0-0-1") ∷ (codes "9") ∷ []) ∷
    ((codes "111") ∷ (codes "q") ∷ (codes "c") ∷ (codes "receive") ∷ (codes "wait") ∷ [] ∷ [] ∷ [] ∷ []) ∷
    ((codes "final") ∷ (codes "queue") ∷ (codes "message") ∷ (codes "origin") ∷ (codes "place") ∷ (codes "due") ∷ (codes "enqueued") ∷ (codes "receives") ∷ (codes "group") ∷ (codes "md5") ∷ []) ∷
    ((codes "final") ∷ (codes "q") ∷ (codes "m-0-0") ∷ (codes "o-0-0") ∷ (codes "inflight") ∷ (codes "9110") ∷ (codes "0") ∷ (codes "1") ∷ [] ∷ digest (codes "a") ∷ []) ∷
    ((codes "transfer") ∷ (codes "from") ∷ (codes "to") ∷ (codes "kind") ∷ (codes "due") ∷ (codes "number") ∷ (codes "message") ∷ (codes "origin") ∷ (codes "md5") ∷ []) ∷
    ((codes "task") ∷ (codes "name") ∷ (codes "status") ∷ (codes "moved") ∷ []) ∷
    ((codes "report") ∷ (codes "queue") ∷ (codes "sends") ∷ (codes "repeats") ∷ (codes "receives") ∷ (codes "empties") ∷ (codes "deletes") ∷ (codes "expiries") ∷ (codes "redrives") ∷ (codes "moves") ∷ (codes "arrivals") ∷ (codes "OverLimit") ∷ (codes "MessageNotInflight") ∷ (codes "ReceiptHandleIsInvalid") ∷ (codes "BadTimeout") ∷ (codes "MissingGroup") ∷ (codes "MissingDeduplication") ∷ (codes "BadDelay") ∷ (codes "TaskRunning") ∷ (codes "NoTask") ∷ (codes "depth_max") ∷ (codes "visible") ∷ (codes "in_flight") ∷ (codes "delayed") ∷ (codes "age_sum") ∷ (codes "age_max") ∷ (codes "age_p50") ∷ (codes "age_p95") ∷ (codes "age_p99") ∷ []) ∷
    ((codes "report") ∷ (codes "q") ∷ (codes "1") ∷ (codes "0") ∷ (codes "1") ∷ (codes "0") ∷ (codes "0") ∷ (codes "0") ∷ (codes "0") ∷ (codes "0") ∷ (codes "0") ∷ (codes "0") ∷ (codes "0") ∷ (codes "0") ∷ (codes "0") ∷ (codes "0") ∷ (codes "0") ∷ (codes "0") ∷ (codes "0") ∷ (codes "0") ∷ (codes "1") ∷ (codes "0") ∷ (codes "1") ∷ (codes "0") ∷ (codes "0") ∷ [] ∷ [] ∷ [] ∷ [] ∷ []) ∷ [])
unfolding reading_on_literals running_on_literals columns_of
case_0_jitter_of_none = refl

-- version-3/no_copy_asks_until_a_message_is_visible.toml
case_0_no_copy_asks_until_a_message_is_visible : shown_upto 3 76 [] (codes "# Two consumers go by one scaler, with copies_min = 0. At 1,000 w comes before the scaler, by its number: it goes by what was\n# decided before, and looks again 1 ms later. v comes behind it, and is 1 ms ahead.\nversion = 3\nhorizon = 4100\n[[queue]]\nname = \"q\"\n[[actor]]\nname = \"w\"\nkind = \"consumer\"\nqueue = \"q\"\nidle_ms = 300\nscaler = \"x\"\nservice_min_ms = 200\nservice_max_ms = 200\n[[actor]]\nname = \"x\"\nkind = \"scaler\"\nqueue = \"q\"\nevery_s = 1\nvisible_per_copy = 5\ncopies_min = 0\ncopies_max = 1\n[[actor]]\nname = \"v\"\nkind = \"consumer\"\nqueue = \"q\"\nidle_ms = 300\nscaler = \"x\"\nservice_min_ms = 200\nservice_max_ms = 200\n[[actor]]\nname = \"s\"\nkind = \"script\"\nqueue = \"q\"\ncalls = \"\"\"\nat,call,body,group,id,delay,receipt,max,wait,timeout,task\n0,send,a,,,,,,,,\n3500,send,b,,,,,,,,\n\"\"\"\n")
    ≡ ran (((codes "at") ∷ (codes "queue") ∷ (codes "agent") ∷ (codes "call") ∷ (codes "answer") ∷ (codes "message") ∷ (codes "receipt") ∷ (codes "detail") ∷ []) ∷
    ((codes "0") ∷ (codes "q") ∷ (codes "s") ∷ (codes "send") ∷ (codes "new") ∷ (codes "m-0-0") ∷ [] ∷ digest (codes "a") ∷ []) ∷
    ((codes "1000") ∷ (codes "q") ∷ (codes "x") ∷ (codes "scale") ∷ (codes "ok") ∷ [] ∷ [] ∷ (codes "0/1") ∷ []) ∷
    ((codes "1001") ∷ (codes "q") ∷ (codes "v") ∷ (codes "receive") ∷ (codes "ok") ∷ (codes "m-0-0") ∷ (codes "r-0-0-1") ∷ (codes "o-0-0") ∷ []) ∷
    ((codes "1002") ∷ (codes "q") ∷ (codes "w") ∷ (codes "receive") ∷ (codes "empty") ∷ [] ∷ [] ∷ [] ∷ []) ∷
    ((codes "1201") ∷ (codes "q") ∷ (codes "v") ∷ (codes "delete") ∷ (codes "deleted") ∷ (codes "m-0-0") ∷ (codes "r-0-0-1") ∷ (codes "1201") ∷ []) ∷
    ((codes "1202") ∷ (codes "q") ∷ (codes "v") ∷ (codes "receive") ∷ (codes "empty") ∷ [] ∷ [] ∷ [] ∷ []) ∷
    ((codes "1302") ∷ (codes "q") ∷ (codes "w") ∷ (codes "receive") ∷ (codes "empty") ∷ [] ∷ [] ∷ [] ∷ []) ∷
    ((codes "1502") ∷ (codes "q") ∷ (codes "v") ∷ (codes "receive") ∷ (codes "empty") ∷ [] ∷ [] ∷ [] ∷ []) ∷
    ((codes "1602") ∷ (codes "q") ∷ (codes "w") ∷ (codes "receive") ∷ (codes "empty") ∷ [] ∷ [] ∷ [] ∷ []) ∷
    ((codes "1802") ∷ (codes "q") ∷ (codes "v") ∷ (codes "receive") ∷ (codes "empty") ∷ [] ∷ [] ∷ [] ∷ []) ∷
    ((codes "1902") ∷ (codes "q") ∷ (codes "w") ∷ (codes "receive") ∷ (codes "empty") ∷ [] ∷ [] ∷ [] ∷ []) ∷
    ((codes "2000") ∷ (codes "q") ∷ (codes "x") ∷ (codes "scale") ∷ (codes "ok") ∷ [] ∷ [] ∷ (codes "1/0") ∷ []) ∷
    ((codes "3500") ∷ (codes "q") ∷ (codes "s") ∷ (codes "send") ∷ (codes "new") ∷ (codes "m-0-1") ∷ [] ∷ digest (codes "b") ∷ []) ∷
    ((codes "4000") ∷ (codes "q") ∷ (codes "x") ∷ (codes "scale") ∷ (codes "ok") ∷ [] ∷ [] ∷ (codes "0/1") ∷ []) ∷
    ((codes "4001") ∷ (codes "q") ∷ (codes "v") ∷ (codes "receive") ∷ (codes "ok") ∷ (codes "m-0-1") ∷ (codes "r-0-1-1") ∷ (codes "o-0-1") ∷ []) ∷
    ((codes "4002") ∷ (codes "q") ∷ (codes "w") ∷ (codes "receive") ∷ (codes "empty") ∷ [] ∷ [] ∷ [] ∷ []) ∷
    ((codes "final") ∷ (codes "queue") ∷ (codes "message") ∷ (codes "origin") ∷ (codes "place") ∷ (codes "due") ∷ (codes "enqueued") ∷ (codes "receives") ∷ (codes "group") ∷ (codes "md5") ∷ []) ∷
    ((codes "final") ∷ (codes "q") ∷ (codes "m-0-1") ∷ (codes "o-0-1") ∷ (codes "inflight") ∷ (codes "34001") ∷ (codes "3500") ∷ (codes "1") ∷ [] ∷ digest (codes "b") ∷ []) ∷
    ((codes "transfer") ∷ (codes "from") ∷ (codes "to") ∷ (codes "kind") ∷ (codes "due") ∷ (codes "number") ∷ (codes "message") ∷ (codes "origin") ∷ (codes "md5") ∷ []) ∷
    ((codes "task") ∷ (codes "name") ∷ (codes "status") ∷ (codes "moved") ∷ []) ∷
    ((codes "report") ∷ (codes "queue") ∷ (codes "sends") ∷ (codes "repeats") ∷ (codes "receives") ∷ (codes "empties") ∷ (codes "deletes") ∷ (codes "expiries") ∷ (codes "redrives") ∷ (codes "moves") ∷ (codes "arrivals") ∷ (codes "OverLimit") ∷ (codes "MessageNotInflight") ∷ (codes "ReceiptHandleIsInvalid") ∷ (codes "BadTimeout") ∷ (codes "MissingGroup") ∷ (codes "MissingDeduplication") ∷ (codes "BadDelay") ∷ (codes "TaskRunning") ∷ (codes "NoTask") ∷ (codes "depth_max") ∷ (codes "visible") ∷ (codes "in_flight") ∷ (codes "delayed") ∷ (codes "age_sum") ∷ (codes "age_max") ∷ (codes "age_p50") ∷ (codes "age_p95") ∷ (codes "age_p99") ∷ []) ∷
    ((codes "report") ∷ (codes "q") ∷ (codes "2") ∷ (codes "0") ∷ (codes "2") ∷ (codes "8") ∷ (codes "1") ∷ (codes "0") ∷ (codes "0") ∷ (codes "0") ∷ (codes "0") ∷ (codes "0") ∷ (codes "0") ∷ (codes "0") ∷ (codes "0") ∷ (codes "0") ∷ (codes "0") ∷ (codes "0") ∷ (codes "0") ∷ (codes "0") ∷ (codes "1") ∷ (codes "0") ∷ (codes "1") ∷ (codes "0") ∷ (codes "1201") ∷ (codes "1201") ∷ (codes "1201") ∷ (codes "1201") ∷ (codes "1201") ∷ []) ∷ [])
unfolding reading_on_literals running_on_literals columns_of
case_0_no_copy_asks_until_a_message_is_visible = refl

-- version-3/nothing_new.toml
case_0_nothing_new : shown_upto 3 68 [] (codes "# A text of version 3 with none of its keys, as version 2 has it: m-0-0 fails by fail_permille, is received once more as\n# its timeout ends, and so on.\nversion = 3\nhorizon = 1500\n[[queue]]\nname = \"q\"\nvisibility_s = 1\n[[actor]]\nname = \"c\"\nkind = \"consumer\"\nqueue = \"q\"\nstart_ms = 10\nwait_s = 20\nservice_min_ms = 100\nservice_max_ms = 100\nfail_permille = 1000\n[[actor]]\nname = \"p\"\nkind = \"producer\"\nqueue = \"q\"\ncount = 1\ngap_min_ms = 1\ngap_max_ms = 1\nbody = \"a\"\n")
    ≡ ran (((codes "at") ∷ (codes "queue") ∷ (codes "agent") ∷ (codes "call") ∷ (codes "answer") ∷ (codes "message") ∷ (codes "receipt") ∷ (codes "detail") ∷ []) ∷
    ((codes "0") ∷ (codes "q") ∷ (codes "p") ∷ (codes "send") ∷ (codes "new") ∷ (codes "m-0-0") ∷ [] ∷ digest (codes "a") ∷ []) ∷
    ((codes "10") ∷ (codes "q") ∷ (codes "c") ∷ (codes "receive") ∷ (codes "ok") ∷ (codes "m-0-0") ∷ (codes "r-0-0-1") ∷ (codes "o-0-0") ∷ []) ∷
    ((codes "110") ∷ (codes "q") ∷ (codes "c") ∷ (codes "fail") ∷ (codes "ok") ∷ (codes "m-0-0") ∷ (codes "r-0-0-1") ∷ [] ∷ []) ∷
    ((codes "111") ∷ (codes "q") ∷ (codes "c") ∷ (codes "receive") ∷ (codes "wait") ∷ [] ∷ [] ∷ [] ∷ []) ∷
    ((codes "1010") ∷ (codes "q") ∷ (codes "q") ∷ (codes "release") ∷ (codes "visible") ∷ (codes "m-0-0") ∷ [] ∷ [] ∷ []) ∷
    ((codes "1010") ∷ (codes "q") ∷ (codes "c") ∷ (codes "receive") ∷ (codes "ok") ∷ (codes "m-0-0") ∷ (codes "r-0-0-2") ∷ (codes "o-0-0") ∷ []) ∷
    ((codes "1110") ∷ (codes "q") ∷ (codes "c") ∷ (codes "fail") ∷ (codes "ok") ∷ (codes "m-0-0") ∷ (codes "r-0-0-2") ∷ [] ∷ []) ∷
    ((codes "1111") ∷ (codes "q") ∷ (codes "c") ∷ (codes "receive") ∷ (codes "wait") ∷ [] ∷ [] ∷ [] ∷ []) ∷
    ((codes "final") ∷ (codes "queue") ∷ (codes "message") ∷ (codes "origin") ∷ (codes "place") ∷ (codes "due") ∷ (codes "enqueued") ∷ (codes "receives") ∷ (codes "group") ∷ (codes "md5") ∷ []) ∷
    ((codes "final") ∷ (codes "q") ∷ (codes "m-0-0") ∷ (codes "o-0-0") ∷ (codes "inflight") ∷ (codes "2010") ∷ (codes "0") ∷ (codes "2") ∷ [] ∷ digest (codes "a") ∷ []) ∷
    ((codes "transfer") ∷ (codes "from") ∷ (codes "to") ∷ (codes "kind") ∷ (codes "due") ∷ (codes "number") ∷ (codes "message") ∷ (codes "origin") ∷ (codes "md5") ∷ []) ∷
    ((codes "task") ∷ (codes "name") ∷ (codes "status") ∷ (codes "moved") ∷ []) ∷
    ((codes "report") ∷ (codes "queue") ∷ (codes "sends") ∷ (codes "repeats") ∷ (codes "receives") ∷ (codes "empties") ∷ (codes "deletes") ∷ (codes "expiries") ∷ (codes "redrives") ∷ (codes "moves") ∷ (codes "arrivals") ∷ (codes "OverLimit") ∷ (codes "MessageNotInflight") ∷ (codes "ReceiptHandleIsInvalid") ∷ (codes "BadTimeout") ∷ (codes "MissingGroup") ∷ (codes "MissingDeduplication") ∷ (codes "BadDelay") ∷ (codes "TaskRunning") ∷ (codes "NoTask") ∷ (codes "depth_max") ∷ (codes "visible") ∷ (codes "in_flight") ∷ (codes "delayed") ∷ (codes "age_sum") ∷ (codes "age_max") ∷ (codes "age_p50") ∷ (codes "age_p95") ∷ (codes "age_p99") ∷ []) ∷
    ((codes "report") ∷ (codes "q") ∷ (codes "1") ∷ (codes "0") ∷ (codes "2") ∷ (codes "0") ∷ (codes "0") ∷ (codes "0") ∷ (codes "0") ∷ (codes "0") ∷ (codes "0") ∷ (codes "0") ∷ (codes "0") ∷ (codes "0") ∷ (codes "0") ∷ (codes "0") ∷ (codes "0") ∷ (codes "0") ∷ (codes "0") ∷ (codes "0") ∷ (codes "1") ∷ (codes "0") ∷ (codes "1") ∷ (codes "0") ∷ (codes "0") ∷ [] ∷ [] ∷ [] ∷ [] ∷ []) ∷ [])
unfolding reading_on_literals running_on_literals columns_of
case_0_nothing_new = refl

-- version-3/once_and_each_by_itself.toml
case_0_once_and_each_by_itself : shown_upto 3 71 [] (codes "# One service of all three messages ends at 110. Each is then decided by itself, 1 ms apart: m-0-0 is deleted, the\n# poison m-0-1 fails and gets its backoff in the same moment, m-0-2 is deleted.\nversion = 3\nhorizon = 1000\n[[queue]]\nname = \"q\"\n[[actor]]\nname = \"c\"\nkind = \"consumer\"\nqueue = \"q\"\nstart_ms = 10\nbatch = 3\nwait_s = 20\nservice_min_ms = 100\nservice_max_ms = 100\nbatch_service = \"once\"\nfails_on = \"bad\"\nbackoff_s = [7]\n[[actor]]\nname = \"s\"\nkind = \"script\"\nqueue = \"q\"\ncalls = \"\"\"\nat,call,body,group,id,delay,receipt,max,wait,timeout,task\n0,send,a,,,,,,,,\n1,send,bad,,,,,,,,\n2,send,c,,,,,,,,\n\"\"\"\n")
    ≡ ran (((codes "at") ∷ (codes "queue") ∷ (codes "agent") ∷ (codes "call") ∷ (codes "answer") ∷ (codes "message") ∷ (codes "receipt") ∷ (codes "detail") ∷ []) ∷
    ((codes "0") ∷ (codes "q") ∷ (codes "s") ∷ (codes "send") ∷ (codes "new") ∷ (codes "m-0-0") ∷ [] ∷ digest (codes "a") ∷ []) ∷
    ((codes "1") ∷ (codes "q") ∷ (codes "s") ∷ (codes "send") ∷ (codes "new") ∷ (codes "m-0-1") ∷ [] ∷ digest (codes "bad") ∷ []) ∷
    ((codes "2") ∷ (codes "q") ∷ (codes "s") ∷ (codes "send") ∷ (codes "new") ∷ (codes "m-0-2") ∷ [] ∷ digest (codes "c") ∷ []) ∷
    ((codes "10") ∷ (codes "q") ∷ (codes "c") ∷ (codes "receive") ∷ (codes "ok") ∷ (codes "m-0-0") ∷ (codes "r-0-0-1") ∷ (codes "o-0-0") ∷ []) ∷
    ((codes "10") ∷ (codes "q") ∷ (codes "c") ∷ (codes "receive") ∷ (codes "ok") ∷ (codes "m-0-1") ∷ (codes "r-0-1-1") ∷ (codes "o-0-1") ∷ []) ∷
    ((codes "10") ∷ (codes "q") ∷ (codes "c") ∷ (codes "receive") ∷ (codes "ok") ∷ (codes "m-0-2") ∷ (codes "r-0-2-1") ∷ (codes "o-0-2") ∷ []) ∷
    ((codes "110") ∷ (codes "q") ∷ (codes "c") ∷ (codes "delete") ∷ (codes "deleted") ∷ (codes "m-0-0") ∷ (codes "r-0-0-1") ∷ (codes "110") ∷ []) ∷
    ((codes "111") ∷ (codes "q") ∷ (codes "c") ∷ (codes "fail") ∷ (codes "ok") ∷ (codes "m-0-1") ∷ (codes "r-0-1-1") ∷ [] ∷ []) ∷
    ((codes "111") ∷ (codes "q") ∷ (codes "c") ∷ (codes "change") ∷ (codes "ok") ∷ (codes "m-0-1") ∷ (codes "r-0-1-1") ∷ (codes "7") ∷ []) ∷
    ((codes "112") ∷ (codes "q") ∷ (codes "c") ∷ (codes "delete") ∷ (codes "deleted") ∷ (codes "m-0-2") ∷ (codes "r-0-2-1") ∷ (codes "110") ∷ []) ∷
    ((codes "113") ∷ (codes "q") ∷ (codes "c") ∷ (codes "receive") ∷ (codes "wait") ∷ [] ∷ [] ∷ [] ∷ []) ∷
    ((codes "final") ∷ (codes "queue") ∷ (codes "message") ∷ (codes "origin") ∷ (codes "place") ∷ (codes "due") ∷ (codes "enqueued") ∷ (codes "receives") ∷ (codes "group") ∷ (codes "md5") ∷ []) ∷
    ((codes "final") ∷ (codes "q") ∷ (codes "m-0-1") ∷ (codes "o-0-1") ∷ (codes "inflight") ∷ (codes "7111") ∷ (codes "1") ∷ (codes "1") ∷ [] ∷ digest (codes "bad") ∷ []) ∷
    ((codes "transfer") ∷ (codes "from") ∷ (codes "to") ∷ (codes "kind") ∷ (codes "due") ∷ (codes "number") ∷ (codes "message") ∷ (codes "origin") ∷ (codes "md5") ∷ []) ∷
    ((codes "task") ∷ (codes "name") ∷ (codes "status") ∷ (codes "moved") ∷ []) ∷
    ((codes "report") ∷ (codes "queue") ∷ (codes "sends") ∷ (codes "repeats") ∷ (codes "receives") ∷ (codes "empties") ∷ (codes "deletes") ∷ (codes "expiries") ∷ (codes "redrives") ∷ (codes "moves") ∷ (codes "arrivals") ∷ (codes "OverLimit") ∷ (codes "MessageNotInflight") ∷ (codes "ReceiptHandleIsInvalid") ∷ (codes "BadTimeout") ∷ (codes "MissingGroup") ∷ (codes "MissingDeduplication") ∷ (codes "BadDelay") ∷ (codes "TaskRunning") ∷ (codes "NoTask") ∷ (codes "depth_max") ∷ (codes "visible") ∷ (codes "in_flight") ∷ (codes "delayed") ∷ (codes "age_sum") ∷ (codes "age_max") ∷ (codes "age_p50") ∷ (codes "age_p95") ∷ (codes "age_p99") ∷ []) ∷
    ((codes "report") ∷ (codes "q") ∷ (codes "3") ∷ (codes "0") ∷ (codes "3") ∷ (codes "0") ∷ (codes "2") ∷ (codes "0") ∷ (codes "0") ∷ (codes "0") ∷ (codes "0") ∷ (codes "0") ∷ (codes "0") ∷ (codes "0") ∷ (codes "0") ∷ (codes "0") ∷ (codes "0") ∷ (codes "0") ∷ (codes "0") ∷ (codes "0") ∷ (codes "3") ∷ (codes "0") ∷ (codes "1") ∷ (codes "0") ∷ (codes "220") ∷ (codes "110") ∷ (codes "110") ∷ (codes "110") ∷ (codes "110") ∷ []) ∷ [])
unfolding reading_on_literals running_on_literals columns_of
case_0_once_and_each_by_itself = refl

-- version-3/once_and_each_forwards_to_several_queues.toml
case_0_once_and_each_forwards_to_several_queues : shown_upto 3 75 [] (codes "# Words of agent 3: 938.159 (time of the service, 100 + 93), 262.075 (the chance of m-0-0), 74.403 and 109.451 (its\n# latencies, 50 + 7 and 50 + 10), 677.823 (the chance of m-0-1), 659.465 and 182.163 (its latencies, 50 + 65 and 50 + 18).\n# The service ends at 10 + 193 + 2 * 5 = 213, and how that of the second message ended is decided at 214.\nversion = 3\nhorizon = 1000\n[[queue]]\nname = \"q\"\n[[queue]]\nname = \"out\"\n[[queue]]\nname = \"far\"\n[[actor]]\nname = \"c\"\nkind = \"consumer\"\nqueue = \"q\"\nstart_ms = 10\nbatch = 2\nwait_s = 20\nservice_min_ms = 100\nservice_max_ms = 199\nfail_permille = 100\nforward = [\"out\", \"far\"]\nlatency_min_ms = 50\nlatency_max_ms = 149\nbatch_service = \"once\"\nservice_each_ms = 5\nbatch_fails = \"each\"\n[[actor]]\nname = \"s\"\nkind = \"script\"\nqueue = \"q\"\ncalls = \"\"\"\nat,call,body,group,id,delay,receipt,max,wait,timeout,task\n0,send,a,,,,,,,,\n1,send,b,,,,,,,,\n\"\"\"\n")
    ≡ ran (((codes "at") ∷ (codes "queue") ∷ (codes "agent") ∷ (codes "call") ∷ (codes "answer") ∷ (codes "message") ∷ (codes "receipt") ∷ (codes "detail") ∷ []) ∷
    ((codes "0") ∷ (codes "q") ∷ (codes "s") ∷ (codes "send") ∷ (codes "new") ∷ (codes "m-0-0") ∷ [] ∷ digest (codes "a") ∷ []) ∷
    ((codes "1") ∷ (codes "q") ∷ (codes "s") ∷ (codes "send") ∷ (codes "new") ∷ (codes "m-0-1") ∷ [] ∷ digest (codes "b") ∷ []) ∷
    ((codes "10") ∷ (codes "q") ∷ (codes "c") ∷ (codes "receive") ∷ (codes "ok") ∷ (codes "m-0-0") ∷ (codes "r-0-0-1") ∷ (codes "o-0-0") ∷ []) ∷
    ((codes "10") ∷ (codes "q") ∷ (codes "c") ∷ (codes "receive") ∷ (codes "ok") ∷ (codes "m-0-1") ∷ (codes "r-0-1-1") ∷ (codes "o-0-1") ∷ []) ∷
    ((codes "213") ∷ (codes "q") ∷ (codes "c") ∷ (codes "forward") ∷ (codes "out") ∷ (codes "m-0-0") ∷ [] ∷ (codes "out") ∷ []) ∷
    ((codes "213") ∷ (codes "q") ∷ (codes "c") ∷ (codes "forward") ∷ (codes "out") ∷ (codes "m-0-0") ∷ [] ∷ (codes "far") ∷ []) ∷
    ((codes "213") ∷ (codes "q") ∷ (codes "c") ∷ (codes "delete") ∷ (codes "deleted") ∷ (codes "m-0-0") ∷ (codes "r-0-0-1") ∷ (codes "213") ∷ []) ∷
    ((codes "214") ∷ (codes "q") ∷ (codes "c") ∷ (codes "forward") ∷ (codes "out") ∷ (codes "m-0-1") ∷ [] ∷ (codes "out") ∷ []) ∷
    ((codes "214") ∷ (codes "q") ∷ (codes "c") ∷ (codes "forward") ∷ (codes "out") ∷ (codes "m-0-1") ∷ [] ∷ (codes "far") ∷ []) ∷
    ((codes "214") ∷ (codes "q") ∷ (codes "c") ∷ (codes "delete") ∷ (codes "deleted") ∷ (codes "m-0-1") ∷ (codes "r-0-1-1") ∷ (codes "213") ∷ []) ∷
    ((codes "215") ∷ (codes "q") ∷ (codes "c") ∷ (codes "receive") ∷ (codes "wait") ∷ [] ∷ [] ∷ [] ∷ []) ∷
    ((codes "270") ∷ (codes "out") ∷ (codes "c") ∷ (codes "arrive") ∷ (codes "new") ∷ (codes "m-1-0") ∷ [] ∷ (codes "o-1-0") ∷ []) ∷
    ((codes "273") ∷ (codes "far") ∷ (codes "c") ∷ (codes "arrive") ∷ (codes "new") ∷ (codes "m-2-0") ∷ [] ∷ (codes "o-2-0") ∷ []) ∷
    ((codes "282") ∷ (codes "far") ∷ (codes "c") ∷ (codes "arrive") ∷ (codes "new") ∷ (codes "m-2-1") ∷ [] ∷ (codes "o-2-1") ∷ []) ∷
    ((codes "329") ∷ (codes "out") ∷ (codes "c") ∷ (codes "arrive") ∷ (codes "new") ∷ (codes "m-1-1") ∷ [] ∷ (codes "o-1-1") ∷ []) ∷
    ((codes "final") ∷ (codes "queue") ∷ (codes "message") ∷ (codes "origin") ∷ (codes "place") ∷ (codes "due") ∷ (codes "enqueued") ∷ (codes "receives") ∷ (codes "group") ∷ (codes "md5") ∷ []) ∷
    ((codes "final") ∷ (codes "out") ∷ (codes "m-1-0") ∷ (codes "o-1-0") ∷ (codes "visible") ∷ [] ∷ (codes "270") ∷ (codes "0") ∷ [] ∷ digest (codes "a") ∷ []) ∷
    ((codes "final") ∷ (codes "out") ∷ (codes "m-1-1") ∷ (codes "o-1-1") ∷ (codes "visible") ∷ [] ∷ (codes "329") ∷ (codes "0") ∷ [] ∷ digest (codes "b") ∷ []) ∷
    ((codes "final") ∷ (codes "far") ∷ (codes "m-2-0") ∷ (codes "o-2-0") ∷ (codes "visible") ∷ [] ∷ (codes "273") ∷ (codes "0") ∷ [] ∷ digest (codes "a") ∷ []) ∷
    ((codes "final") ∷ (codes "far") ∷ (codes "m-2-1") ∷ (codes "o-2-1") ∷ (codes "visible") ∷ [] ∷ (codes "282") ∷ (codes "0") ∷ [] ∷ digest (codes "b") ∷ []) ∷
    ((codes "transfer") ∷ (codes "from") ∷ (codes "to") ∷ (codes "kind") ∷ (codes "due") ∷ (codes "number") ∷ (codes "message") ∷ (codes "origin") ∷ (codes "md5") ∷ []) ∷
    ((codes "task") ∷ (codes "name") ∷ (codes "status") ∷ (codes "moved") ∷ []) ∷
    ((codes "report") ∷ (codes "queue") ∷ (codes "sends") ∷ (codes "repeats") ∷ (codes "receives") ∷ (codes "empties") ∷ (codes "deletes") ∷ (codes "expiries") ∷ (codes "redrives") ∷ (codes "moves") ∷ (codes "arrivals") ∷ (codes "OverLimit") ∷ (codes "MessageNotInflight") ∷ (codes "ReceiptHandleIsInvalid") ∷ (codes "BadTimeout") ∷ (codes "MissingGroup") ∷ (codes "MissingDeduplication") ∷ (codes "BadDelay") ∷ (codes "TaskRunning") ∷ (codes "NoTask") ∷ (codes "depth_max") ∷ (codes "visible") ∷ (codes "in_flight") ∷ (codes "delayed") ∷ (codes "age_sum") ∷ (codes "age_max") ∷ (codes "age_p50") ∷ (codes "age_p95") ∷ (codes "age_p99") ∷ []) ∷
    ((codes "report") ∷ (codes "q") ∷ (codes "2") ∷ (codes "0") ∷ (codes "2") ∷ (codes "0") ∷ (codes "2") ∷ (codes "0") ∷ (codes "0") ∷ (codes "0") ∷ (codes "0") ∷ (codes "0") ∷ (codes "0") ∷ (codes "0") ∷ (codes "0") ∷ (codes "0") ∷ (codes "0") ∷ (codes "0") ∷ (codes "0") ∷ (codes "0") ∷ (codes "2") ∷ (codes "0") ∷ (codes "0") ∷ (codes "0") ∷ (codes "426") ∷ (codes "213") ∷ (codes "213") ∷ (codes "213") ∷ (codes "213") ∷ []) ∷
    ((codes "report") ∷ (codes "out") ∷ (codes "0") ∷ (codes "0") ∷ (codes "0") ∷ (codes "0") ∷ (codes "0") ∷ (codes "0") ∷ (codes "0") ∷ (codes "0") ∷ (codes "2") ∷ (codes "0") ∷ (codes "0") ∷ (codes "0") ∷ (codes "0") ∷ (codes "0") ∷ (codes "0") ∷ (codes "0") ∷ (codes "0") ∷ (codes "0") ∷ (codes "2") ∷ (codes "2") ∷ (codes "0") ∷ (codes "0") ∷ (codes "0") ∷ [] ∷ [] ∷ [] ∷ [] ∷ []) ∷
    ((codes "report") ∷ (codes "far") ∷ (codes "0") ∷ (codes "0") ∷ (codes "0") ∷ (codes "0") ∷ (codes "0") ∷ (codes "0") ∷ (codes "0") ∷ (codes "0") ∷ (codes "2") ∷ (codes "0") ∷ (codes "0") ∷ (codes "0") ∷ (codes "0") ∷ (codes "0") ∷ (codes "0") ∷ (codes "0") ∷ (codes "0") ∷ (codes "0") ∷ (codes "2") ∷ (codes "2") ∷ (codes "0") ∷ (codes "0") ∷ (codes "0") ∷ [] ∷ [] ∷ [] ∷ [] ∷ []) ∷ [])
unfolding reading_on_literals running_on_literals columns_of
case_0_once_and_each_forwards_to_several_queues = refl

-- version-3/once_draws_a_chance_for_each.toml
case_0_once_draws_a_chance_for_each : shown_upto 3 67 [] (codes "# Words of agent 2: 717.678 (the time of the service, 100 + 71), 447.024 (the chance of m-0-0, not below 100) and 12.444\n# (that of m-0-1, which fails). No time is drawn between the two. The service ends at 10 + 171 + 2 * 5 = 191.\nversion = 3\nhorizon = 1000\n[[queue]]\nname = \"q\"\n[[queue]]\nname = \"p\"\n[[actor]]\nname = \"c\"\nkind = \"consumer\"\nqueue = \"q\"\nstart_ms = 10\nbatch = 2\nwait_s = 20\nservice_min_ms = 100\nservice_max_ms = 199\nbatch_service = \"once\"\nservice_each_ms = 5\nfail_permille = 100\n[[actor]]\nname = \"s\"\nkind = \"script\"\nqueue = \"q\"\ncalls = \"\"\"\nat,call,body,group,id,delay,receipt,max,wait,timeout,task\n0,send,a,,,,,,,,\n1,send,b,,,,,,,,\n\"\"\"\n")
    ≡ ran (((codes "at") ∷ (codes "queue") ∷ (codes "agent") ∷ (codes "call") ∷ (codes "answer") ∷ (codes "message") ∷ (codes "receipt") ∷ (codes "detail") ∷ []) ∷
    ((codes "0") ∷ (codes "q") ∷ (codes "s") ∷ (codes "send") ∷ (codes "new") ∷ (codes "m-0-0") ∷ [] ∷ digest (codes "a") ∷ []) ∷
    ((codes "1") ∷ (codes "q") ∷ (codes "s") ∷ (codes "send") ∷ (codes "new") ∷ (codes "m-0-1") ∷ [] ∷ digest (codes "b") ∷ []) ∷
    ((codes "10") ∷ (codes "q") ∷ (codes "c") ∷ (codes "receive") ∷ (codes "ok") ∷ (codes "m-0-0") ∷ (codes "r-0-0-1") ∷ (codes "o-0-0") ∷ []) ∷
    ((codes "10") ∷ (codes "q") ∷ (codes "c") ∷ (codes "receive") ∷ (codes "ok") ∷ (codes "m-0-1") ∷ (codes "r-0-1-1") ∷ (codes "o-0-1") ∷ []) ∷
    ((codes "191") ∷ (codes "q") ∷ (codes "c") ∷ (codes "delete") ∷ (codes "deleted") ∷ (codes "m-0-0") ∷ (codes "r-0-0-1") ∷ (codes "191") ∷ []) ∷
    ((codes "192") ∷ (codes "q") ∷ (codes "c") ∷ (codes "fail") ∷ (codes "ok") ∷ (codes "m-0-1") ∷ (codes "r-0-1-1") ∷ [] ∷ []) ∷
    ((codes "193") ∷ (codes "q") ∷ (codes "c") ∷ (codes "receive") ∷ (codes "wait") ∷ [] ∷ [] ∷ [] ∷ []) ∷
    ((codes "final") ∷ (codes "queue") ∷ (codes "message") ∷ (codes "origin") ∷ (codes "place") ∷ (codes "due") ∷ (codes "enqueued") ∷ (codes "receives") ∷ (codes "group") ∷ (codes "md5") ∷ []) ∷
    ((codes "final") ∷ (codes "q") ∷ (codes "m-0-1") ∷ (codes "o-0-1") ∷ (codes "inflight") ∷ (codes "30010") ∷ (codes "1") ∷ (codes "1") ∷ [] ∷ digest (codes "b") ∷ []) ∷
    ((codes "transfer") ∷ (codes "from") ∷ (codes "to") ∷ (codes "kind") ∷ (codes "due") ∷ (codes "number") ∷ (codes "message") ∷ (codes "origin") ∷ (codes "md5") ∷ []) ∷
    ((codes "task") ∷ (codes "name") ∷ (codes "status") ∷ (codes "moved") ∷ []) ∷
    ((codes "report") ∷ (codes "queue") ∷ (codes "sends") ∷ (codes "repeats") ∷ (codes "receives") ∷ (codes "empties") ∷ (codes "deletes") ∷ (codes "expiries") ∷ (codes "redrives") ∷ (codes "moves") ∷ (codes "arrivals") ∷ (codes "OverLimit") ∷ (codes "MessageNotInflight") ∷ (codes "ReceiptHandleIsInvalid") ∷ (codes "BadTimeout") ∷ (codes "MissingGroup") ∷ (codes "MissingDeduplication") ∷ (codes "BadDelay") ∷ (codes "TaskRunning") ∷ (codes "NoTask") ∷ (codes "depth_max") ∷ (codes "visible") ∷ (codes "in_flight") ∷ (codes "delayed") ∷ (codes "age_sum") ∷ (codes "age_max") ∷ (codes "age_p50") ∷ (codes "age_p95") ∷ (codes "age_p99") ∷ []) ∷
    ((codes "report") ∷ (codes "q") ∷ (codes "2") ∷ (codes "0") ∷ (codes "2") ∷ (codes "0") ∷ (codes "1") ∷ (codes "0") ∷ (codes "0") ∷ (codes "0") ∷ (codes "0") ∷ (codes "0") ∷ (codes "0") ∷ (codes "0") ∷ (codes "0") ∷ (codes "0") ∷ (codes "0") ∷ (codes "0") ∷ (codes "0") ∷ (codes "0") ∷ (codes "2") ∷ (codes "0") ∷ (codes "1") ∷ (codes "0") ∷ (codes "191") ∷ (codes "191") ∷ (codes "191") ∷ (codes "191") ∷ (codes "191") ∷ []) ∷
    ((codes "report") ∷ (codes "p") ∷ (codes "0") ∷ (codes "0") ∷ (codes "0") ∷ (codes "0") ∷ (codes "0") ∷ (codes "0") ∷ (codes "0") ∷ (codes "0") ∷ (codes "0") ∷ (codes "0") ∷ (codes "0") ∷ (codes "0") ∷ (codes "0") ∷ (codes "0") ∷ (codes "0") ∷ (codes "0") ∷ (codes "0") ∷ (codes "0") ∷ (codes "0") ∷ (codes "0") ∷ (codes "0") ∷ (codes "0") ∷ (codes "0") ∷ [] ∷ [] ∷ [] ∷ [] ∷ []) ∷ [])
unfolding reading_on_literals running_on_literals columns_of
case_0_once_draws_a_chance_for_each = refl

-- version-3/once_forwards_a_whole_batch.toml
case_0_once_forwards_a_whole_batch : shown_upto 3 71 [] (codes "# Words of agent 2: 717.678 (the time of the service, 100 + 71), 447.024 (its chance), 12.444 (latency of m-0-0 at its\n# delete, 50 + 1) and 505.346 (latency of m-0-1, 50 + 50). The service ends at 10 + 171 + 2 * 5 = 191; the forwards\n# arrive at 191 + 51 and 192 + 100.\nversion = 3\nhorizon = 1000\n[[queue]]\nname = \"q\"\n[[queue]]\nname = \"out\"\n[[actor]]\nname = \"c\"\nkind = \"consumer\"\nqueue = \"q\"\nstart_ms = 10\nbatch = 2\nwait_s = 20\nservice_min_ms = 100\nservice_max_ms = 199\nforward = \"out\"\nlatency_min_ms = 50\nlatency_max_ms = 149\nbatch_service = \"once\"\nservice_each_ms = 5\nbatch_fails = \"whole\"\n[[actor]]\nname = \"s\"\nkind = \"script\"\nqueue = \"q\"\ncalls = \"\"\"\nat,call,body,group,id,delay,receipt,max,wait,timeout,task\n0,send,a,,,,,,,,\n1,send,b,,,,,,,,\n\"\"\"\n")
    ≡ ran (((codes "at") ∷ (codes "queue") ∷ (codes "agent") ∷ (codes "call") ∷ (codes "answer") ∷ (codes "message") ∷ (codes "receipt") ∷ (codes "detail") ∷ []) ∷
    ((codes "0") ∷ (codes "q") ∷ (codes "s") ∷ (codes "send") ∷ (codes "new") ∷ (codes "m-0-0") ∷ [] ∷ digest (codes "a") ∷ []) ∷
    ((codes "1") ∷ (codes "q") ∷ (codes "s") ∷ (codes "send") ∷ (codes "new") ∷ (codes "m-0-1") ∷ [] ∷ digest (codes "b") ∷ []) ∷
    ((codes "10") ∷ (codes "q") ∷ (codes "c") ∷ (codes "receive") ∷ (codes "ok") ∷ (codes "m-0-0") ∷ (codes "r-0-0-1") ∷ (codes "o-0-0") ∷ []) ∷
    ((codes "10") ∷ (codes "q") ∷ (codes "c") ∷ (codes "receive") ∷ (codes "ok") ∷ (codes "m-0-1") ∷ (codes "r-0-1-1") ∷ (codes "o-0-1") ∷ []) ∷
    ((codes "191") ∷ (codes "q") ∷ (codes "c") ∷ (codes "forward") ∷ (codes "out") ∷ (codes "m-0-0") ∷ [] ∷ (codes "out") ∷ []) ∷
    ((codes "191") ∷ (codes "q") ∷ (codes "c") ∷ (codes "delete") ∷ (codes "deleted") ∷ (codes "m-0-0") ∷ (codes "r-0-0-1") ∷ (codes "191") ∷ []) ∷
    ((codes "192") ∷ (codes "q") ∷ (codes "c") ∷ (codes "forward") ∷ (codes "out") ∷ (codes "m-0-1") ∷ [] ∷ (codes "out") ∷ []) ∷
    ((codes "192") ∷ (codes "q") ∷ (codes "c") ∷ (codes "delete") ∷ (codes "deleted") ∷ (codes "m-0-1") ∷ (codes "r-0-1-1") ∷ (codes "191") ∷ []) ∷
    ((codes "193") ∷ (codes "q") ∷ (codes "c") ∷ (codes "receive") ∷ (codes "wait") ∷ [] ∷ [] ∷ [] ∷ []) ∷
    ((codes "242") ∷ (codes "out") ∷ (codes "c") ∷ (codes "arrive") ∷ (codes "new") ∷ (codes "m-1-0") ∷ [] ∷ (codes "o-1-0") ∷ []) ∷
    ((codes "292") ∷ (codes "out") ∷ (codes "c") ∷ (codes "arrive") ∷ (codes "new") ∷ (codes "m-1-1") ∷ [] ∷ (codes "o-1-1") ∷ []) ∷
    ((codes "final") ∷ (codes "queue") ∷ (codes "message") ∷ (codes "origin") ∷ (codes "place") ∷ (codes "due") ∷ (codes "enqueued") ∷ (codes "receives") ∷ (codes "group") ∷ (codes "md5") ∷ []) ∷
    ((codes "final") ∷ (codes "out") ∷ (codes "m-1-0") ∷ (codes "o-1-0") ∷ (codes "visible") ∷ [] ∷ (codes "242") ∷ (codes "0") ∷ [] ∷ digest (codes "a") ∷ []) ∷
    ((codes "final") ∷ (codes "out") ∷ (codes "m-1-1") ∷ (codes "o-1-1") ∷ (codes "visible") ∷ [] ∷ (codes "292") ∷ (codes "0") ∷ [] ∷ digest (codes "b") ∷ []) ∷
    ((codes "transfer") ∷ (codes "from") ∷ (codes "to") ∷ (codes "kind") ∷ (codes "due") ∷ (codes "number") ∷ (codes "message") ∷ (codes "origin") ∷ (codes "md5") ∷ []) ∷
    ((codes "task") ∷ (codes "name") ∷ (codes "status") ∷ (codes "moved") ∷ []) ∷
    ((codes "report") ∷ (codes "queue") ∷ (codes "sends") ∷ (codes "repeats") ∷ (codes "receives") ∷ (codes "empties") ∷ (codes "deletes") ∷ (codes "expiries") ∷ (codes "redrives") ∷ (codes "moves") ∷ (codes "arrivals") ∷ (codes "OverLimit") ∷ (codes "MessageNotInflight") ∷ (codes "ReceiptHandleIsInvalid") ∷ (codes "BadTimeout") ∷ (codes "MissingGroup") ∷ (codes "MissingDeduplication") ∷ (codes "BadDelay") ∷ (codes "TaskRunning") ∷ (codes "NoTask") ∷ (codes "depth_max") ∷ (codes "visible") ∷ (codes "in_flight") ∷ (codes "delayed") ∷ (codes "age_sum") ∷ (codes "age_max") ∷ (codes "age_p50") ∷ (codes "age_p95") ∷ (codes "age_p99") ∷ []) ∷
    ((codes "report") ∷ (codes "q") ∷ (codes "2") ∷ (codes "0") ∷ (codes "2") ∷ (codes "0") ∷ (codes "2") ∷ (codes "0") ∷ (codes "0") ∷ (codes "0") ∷ (codes "0") ∷ (codes "0") ∷ (codes "0") ∷ (codes "0") ∷ (codes "0") ∷ (codes "0") ∷ (codes "0") ∷ (codes "0") ∷ (codes "0") ∷ (codes "0") ∷ (codes "2") ∷ (codes "0") ∷ (codes "0") ∷ (codes "0") ∷ (codes "382") ∷ (codes "191") ∷ (codes "191") ∷ (codes "191") ∷ (codes "191") ∷ []) ∷
    ((codes "report") ∷ (codes "out") ∷ (codes "0") ∷ (codes "0") ∷ (codes "0") ∷ (codes "0") ∷ (codes "0") ∷ (codes "0") ∷ (codes "0") ∷ (codes "0") ∷ (codes "2") ∷ (codes "0") ∷ (codes "0") ∷ (codes "0") ∷ (codes "0") ∷ (codes "0") ∷ (codes "0") ∷ (codes "0") ∷ (codes "0") ∷ (codes "0") ∷ (codes "2") ∷ (codes "2") ∷ (codes "0") ∷ (codes "0") ∷ (codes "0") ∷ [] ∷ [] ∷ [] ∷ [] ∷ []) ∷ [])
unfolding reading_on_literals running_on_literals columns_of
case_0_once_forwards_a_whole_batch = refl

-- version-3/once_forwards_to_several_queues.toml
case_0_once_forwards_to_several_queues : shown_upto 3 75 [] (codes "# Words of agent 3: 938.159 (time of the service, 100 + 93), 262.075 (its chance), 74.403 and 109.451 (latencies of m-0-0,\n# 50 + 7 and 50 + 10), 677.823 and 659.465 (those of m-0-1, 50 + 67 and 50 + 65). The service ends at\n# 10 + 193 + 2 * 5 = 213. The second message is settled at 214, without a chance of its own.\nversion = 3\nhorizon = 1000\n[[queue]]\nname = \"q\"\n[[queue]]\nname = \"out\"\n[[queue]]\nname = \"far\"\n[[actor]]\nname = \"c\"\nkind = \"consumer\"\nqueue = \"q\"\nstart_ms = 10\nbatch = 2\nwait_s = 20\nservice_min_ms = 100\nservice_max_ms = 199\nfail_permille = 100\nforward = [\"out\", \"far\"]\nlatency_min_ms = 50\nlatency_max_ms = 149\nbatch_service = \"once\"\nservice_each_ms = 5\nbatch_fails = \"whole\"\n[[actor]]\nname = \"s\"\nkind = \"script\"\nqueue = \"q\"\ncalls = \"\"\"\nat,call,body,group,id,delay,receipt,max,wait,timeout,task\n0,send,a,,,,,,,,\n1,send,b,,,,,,,,\n\"\"\"\n")
    ≡ ran (((codes "at") ∷ (codes "queue") ∷ (codes "agent") ∷ (codes "call") ∷ (codes "answer") ∷ (codes "message") ∷ (codes "receipt") ∷ (codes "detail") ∷ []) ∷
    ((codes "0") ∷ (codes "q") ∷ (codes "s") ∷ (codes "send") ∷ (codes "new") ∷ (codes "m-0-0") ∷ [] ∷ digest (codes "a") ∷ []) ∷
    ((codes "1") ∷ (codes "q") ∷ (codes "s") ∷ (codes "send") ∷ (codes "new") ∷ (codes "m-0-1") ∷ [] ∷ digest (codes "b") ∷ []) ∷
    ((codes "10") ∷ (codes "q") ∷ (codes "c") ∷ (codes "receive") ∷ (codes "ok") ∷ (codes "m-0-0") ∷ (codes "r-0-0-1") ∷ (codes "o-0-0") ∷ []) ∷
    ((codes "10") ∷ (codes "q") ∷ (codes "c") ∷ (codes "receive") ∷ (codes "ok") ∷ (codes "m-0-1") ∷ (codes "r-0-1-1") ∷ (codes "o-0-1") ∷ []) ∷
    ((codes "213") ∷ (codes "q") ∷ (codes "c") ∷ (codes "forward") ∷ (codes "out") ∷ (codes "m-0-0") ∷ [] ∷ (codes "out") ∷ []) ∷
    ((codes "213") ∷ (codes "q") ∷ (codes "c") ∷ (codes "forward") ∷ (codes "out") ∷ (codes "m-0-0") ∷ [] ∷ (codes "far") ∷ []) ∷
    ((codes "213") ∷ (codes "q") ∷ (codes "c") ∷ (codes "delete") ∷ (codes "deleted") ∷ (codes "m-0-0") ∷ (codes "r-0-0-1") ∷ (codes "213") ∷ []) ∷
    ((codes "214") ∷ (codes "q") ∷ (codes "c") ∷ (codes "forward") ∷ (codes "out") ∷ (codes "m-0-1") ∷ [] ∷ (codes "out") ∷ []) ∷
    ((codes "214") ∷ (codes "q") ∷ (codes "c") ∷ (codes "forward") ∷ (codes "out") ∷ (codes "m-0-1") ∷ [] ∷ (codes "far") ∷ []) ∷
    ((codes "214") ∷ (codes "q") ∷ (codes "c") ∷ (codes "delete") ∷ (codes "deleted") ∷ (codes "m-0-1") ∷ (codes "r-0-1-1") ∷ (codes "213") ∷ []) ∷
    ((codes "215") ∷ (codes "q") ∷ (codes "c") ∷ (codes "receive") ∷ (codes "wait") ∷ [] ∷ [] ∷ [] ∷ []) ∷
    ((codes "270") ∷ (codes "out") ∷ (codes "c") ∷ (codes "arrive") ∷ (codes "new") ∷ (codes "m-1-0") ∷ [] ∷ (codes "o-1-0") ∷ []) ∷
    ((codes "273") ∷ (codes "far") ∷ (codes "c") ∷ (codes "arrive") ∷ (codes "new") ∷ (codes "m-2-0") ∷ [] ∷ (codes "o-2-0") ∷ []) ∷
    ((codes "329") ∷ (codes "far") ∷ (codes "c") ∷ (codes "arrive") ∷ (codes "new") ∷ (codes "m-2-1") ∷ [] ∷ (codes "o-2-1") ∷ []) ∷
    ((codes "331") ∷ (codes "out") ∷ (codes "c") ∷ (codes "arrive") ∷ (codes "new") ∷ (codes "m-1-1") ∷ [] ∷ (codes "o-1-1") ∷ []) ∷
    ((codes "final") ∷ (codes "queue") ∷ (codes "message") ∷ (codes "origin") ∷ (codes "place") ∷ (codes "due") ∷ (codes "enqueued") ∷ (codes "receives") ∷ (codes "group") ∷ (codes "md5") ∷ []) ∷
    ((codes "final") ∷ (codes "out") ∷ (codes "m-1-0") ∷ (codes "o-1-0") ∷ (codes "visible") ∷ [] ∷ (codes "270") ∷ (codes "0") ∷ [] ∷ digest (codes "a") ∷ []) ∷
    ((codes "final") ∷ (codes "out") ∷ (codes "m-1-1") ∷ (codes "o-1-1") ∷ (codes "visible") ∷ [] ∷ (codes "331") ∷ (codes "0") ∷ [] ∷ digest (codes "b") ∷ []) ∷
    ((codes "final") ∷ (codes "far") ∷ (codes "m-2-0") ∷ (codes "o-2-0") ∷ (codes "visible") ∷ [] ∷ (codes "273") ∷ (codes "0") ∷ [] ∷ digest (codes "a") ∷ []) ∷
    ((codes "final") ∷ (codes "far") ∷ (codes "m-2-1") ∷ (codes "o-2-1") ∷ (codes "visible") ∷ [] ∷ (codes "329") ∷ (codes "0") ∷ [] ∷ digest (codes "b") ∷ []) ∷
    ((codes "transfer") ∷ (codes "from") ∷ (codes "to") ∷ (codes "kind") ∷ (codes "due") ∷ (codes "number") ∷ (codes "message") ∷ (codes "origin") ∷ (codes "md5") ∷ []) ∷
    ((codes "task") ∷ (codes "name") ∷ (codes "status") ∷ (codes "moved") ∷ []) ∷
    ((codes "report") ∷ (codes "queue") ∷ (codes "sends") ∷ (codes "repeats") ∷ (codes "receives") ∷ (codes "empties") ∷ (codes "deletes") ∷ (codes "expiries") ∷ (codes "redrives") ∷ (codes "moves") ∷ (codes "arrivals") ∷ (codes "OverLimit") ∷ (codes "MessageNotInflight") ∷ (codes "ReceiptHandleIsInvalid") ∷ (codes "BadTimeout") ∷ (codes "MissingGroup") ∷ (codes "MissingDeduplication") ∷ (codes "BadDelay") ∷ (codes "TaskRunning") ∷ (codes "NoTask") ∷ (codes "depth_max") ∷ (codes "visible") ∷ (codes "in_flight") ∷ (codes "delayed") ∷ (codes "age_sum") ∷ (codes "age_max") ∷ (codes "age_p50") ∷ (codes "age_p95") ∷ (codes "age_p99") ∷ []) ∷
    ((codes "report") ∷ (codes "q") ∷ (codes "2") ∷ (codes "0") ∷ (codes "2") ∷ (codes "0") ∷ (codes "2") ∷ (codes "0") ∷ (codes "0") ∷ (codes "0") ∷ (codes "0") ∷ (codes "0") ∷ (codes "0") ∷ (codes "0") ∷ (codes "0") ∷ (codes "0") ∷ (codes "0") ∷ (codes "0") ∷ (codes "0") ∷ (codes "0") ∷ (codes "2") ∷ (codes "0") ∷ (codes "0") ∷ (codes "0") ∷ (codes "426") ∷ (codes "213") ∷ (codes "213") ∷ (codes "213") ∷ (codes "213") ∷ []) ∷
    ((codes "report") ∷ (codes "out") ∷ (codes "0") ∷ (codes "0") ∷ (codes "0") ∷ (codes "0") ∷ (codes "0") ∷ (codes "0") ∷ (codes "0") ∷ (codes "0") ∷ (codes "2") ∷ (codes "0") ∷ (codes "0") ∷ (codes "0") ∷ (codes "0") ∷ (codes "0") ∷ (codes "0") ∷ (codes "0") ∷ (codes "0") ∷ (codes "0") ∷ (codes "2") ∷ (codes "2") ∷ (codes "0") ∷ (codes "0") ∷ (codes "0") ∷ [] ∷ [] ∷ [] ∷ [] ∷ []) ∷
    ((codes "report") ∷ (codes "far") ∷ (codes "0") ∷ (codes "0") ∷ (codes "0") ∷ (codes "0") ∷ (codes "0") ∷ (codes "0") ∷ (codes "0") ∷ (codes "0") ∷ (codes "2") ∷ (codes "0") ∷ (codes "0") ∷ (codes "0") ∷ (codes "0") ∷ (codes "0") ∷ (codes "0") ∷ (codes "0") ∷ (codes "0") ∷ (codes "0") ∷ (codes "2") ∷ (codes "2") ∷ (codes "0") ∷ (codes "0") ∷ (codes "0") ∷ [] ∷ [] ∷ [] ∷ [] ∷ []) ∷ [])
unfolding reading_on_literals running_on_literals columns_of
case_0_once_forwards_to_several_queues = refl

-- version-3/once_grows_with_the_batch.toml
case_0_once_grows_with_the_batch : shown_upto 3 71 [] (codes "# The waiting poll gets one message: its service takes 100 + 50 ms. The next receive gives two: 100 + 2 * 50 ms.\nversion = 3\nhorizon = 400\n[[queue]]\nname = \"q\"\n[[actor]]\nname = \"c\"\nkind = \"consumer\"\nqueue = \"q\"\nbatch = 3\nwait_s = 20\nservice_min_ms = 100\nservice_max_ms = 100\nbatch_service = \"once\"\nservice_each_ms = 50\n[[actor]]\nname = \"s\"\nkind = \"script\"\nqueue = \"q\"\ncalls = \"\"\"\nat,call,body,group,id,delay,receipt,max,wait,timeout,task\n1,send,a,,,,,,,,\n2,send,b,,,,,,,,\n3,send,c,,,,,,,,\n\"\"\"\n")
    ≡ ran (((codes "at") ∷ (codes "queue") ∷ (codes "agent") ∷ (codes "call") ∷ (codes "answer") ∷ (codes "message") ∷ (codes "receipt") ∷ (codes "detail") ∷ []) ∷
    ((codes "0") ∷ (codes "q") ∷ (codes "c") ∷ (codes "receive") ∷ (codes "wait") ∷ [] ∷ [] ∷ [] ∷ []) ∷
    ((codes "1") ∷ (codes "q") ∷ (codes "s") ∷ (codes "send") ∷ (codes "new") ∷ (codes "m-0-0") ∷ [] ∷ digest (codes "a") ∷ []) ∷
    ((codes "1") ∷ (codes "q") ∷ (codes "c") ∷ (codes "receive") ∷ (codes "ok") ∷ (codes "m-0-0") ∷ (codes "r-0-0-1") ∷ (codes "o-0-0") ∷ []) ∷
    ((codes "2") ∷ (codes "q") ∷ (codes "s") ∷ (codes "send") ∷ (codes "new") ∷ (codes "m-0-1") ∷ [] ∷ digest (codes "b") ∷ []) ∷
    ((codes "3") ∷ (codes "q") ∷ (codes "s") ∷ (codes "send") ∷ (codes "new") ∷ (codes "m-0-2") ∷ [] ∷ digest (codes "c") ∷ []) ∷
    ((codes "151") ∷ (codes "q") ∷ (codes "c") ∷ (codes "delete") ∷ (codes "deleted") ∷ (codes "m-0-0") ∷ (codes "r-0-0-1") ∷ (codes "150") ∷ []) ∷
    ((codes "152") ∷ (codes "q") ∷ (codes "c") ∷ (codes "receive") ∷ (codes "ok") ∷ (codes "m-0-1") ∷ (codes "r-0-1-1") ∷ (codes "o-0-1") ∷ []) ∷
    ((codes "152") ∷ (codes "q") ∷ (codes "c") ∷ (codes "receive") ∷ (codes "ok") ∷ (codes "m-0-2") ∷ (codes "r-0-2-1") ∷ (codes "o-0-2") ∷ []) ∷
    ((codes "352") ∷ (codes "q") ∷ (codes "c") ∷ (codes "delete") ∷ (codes "deleted") ∷ (codes "m-0-1") ∷ (codes "r-0-1-1") ∷ (codes "350") ∷ []) ∷
    ((codes "353") ∷ (codes "q") ∷ (codes "c") ∷ (codes "delete") ∷ (codes "deleted") ∷ (codes "m-0-2") ∷ (codes "r-0-2-1") ∷ (codes "350") ∷ []) ∷
    ((codes "354") ∷ (codes "q") ∷ (codes "c") ∷ (codes "receive") ∷ (codes "wait") ∷ [] ∷ [] ∷ [] ∷ []) ∷
    ((codes "final") ∷ (codes "queue") ∷ (codes "message") ∷ (codes "origin") ∷ (codes "place") ∷ (codes "due") ∷ (codes "enqueued") ∷ (codes "receives") ∷ (codes "group") ∷ (codes "md5") ∷ []) ∷
    ((codes "transfer") ∷ (codes "from") ∷ (codes "to") ∷ (codes "kind") ∷ (codes "due") ∷ (codes "number") ∷ (codes "message") ∷ (codes "origin") ∷ (codes "md5") ∷ []) ∷
    ((codes "task") ∷ (codes "name") ∷ (codes "status") ∷ (codes "moved") ∷ []) ∷
    ((codes "report") ∷ (codes "queue") ∷ (codes "sends") ∷ (codes "repeats") ∷ (codes "receives") ∷ (codes "empties") ∷ (codes "deletes") ∷ (codes "expiries") ∷ (codes "redrives") ∷ (codes "moves") ∷ (codes "arrivals") ∷ (codes "OverLimit") ∷ (codes "MessageNotInflight") ∷ (codes "ReceiptHandleIsInvalid") ∷ (codes "BadTimeout") ∷ (codes "MissingGroup") ∷ (codes "MissingDeduplication") ∷ (codes "BadDelay") ∷ (codes "TaskRunning") ∷ (codes "NoTask") ∷ (codes "depth_max") ∷ (codes "visible") ∷ (codes "in_flight") ∷ (codes "delayed") ∷ (codes "age_sum") ∷ (codes "age_max") ∷ (codes "age_p50") ∷ (codes "age_p95") ∷ (codes "age_p99") ∷ []) ∷
    ((codes "report") ∷ (codes "q") ∷ (codes "3") ∷ (codes "0") ∷ (codes "3") ∷ (codes "0") ∷ (codes "3") ∷ (codes "0") ∷ (codes "0") ∷ (codes "0") ∷ (codes "0") ∷ (codes "0") ∷ (codes "0") ∷ (codes "0") ∷ (codes "0") ∷ (codes "0") ∷ (codes "0") ∷ (codes "0") ∷ (codes "0") ∷ (codes "0") ∷ (codes "3") ∷ (codes "0") ∷ (codes "0") ∷ (codes "0") ∷ (codes "850") ∷ (codes "350") ∷ (codes "350") ∷ (codes "350") ∷ (codes "350") ∷ []) ∷ [])
unfolding reading_on_literals running_on_literals columns_of
case_0_once_grows_with_the_batch = refl

-- version-3/once_in_a_whole_batch.toml
case_0_once_in_a_whole_batch : shown_upto 3 70 [] (codes "# The service is of all three messages. It takes 100 ms, and 20 ms for each of them, and ends at 170. Then the batch is\n# deleted, 1 ms apart, and 1 ms after the last delete the consumer asks.\nversion = 3\nhorizon = 1000\n[[queue]]\nname = \"q\"\n[[actor]]\nname = \"c\"\nkind = \"consumer\"\nqueue = \"q\"\nstart_ms = 10\nbatch = 3\nwait_s = 20\nservice_min_ms = 100\nservice_max_ms = 100\nbatch_service = \"once\"\nservice_each_ms = 20\nbatch_fails = \"whole\"\n[[actor]]\nname = \"s\"\nkind = \"script\"\nqueue = \"q\"\ncalls = \"\"\"\nat,call,body,group,id,delay,receipt,max,wait,timeout,task\n0,send,a,,,,,,,,\n1,send,b,,,,,,,,\n2,send,c,,,,,,,,\n\"\"\"\n")
    ≡ ran (((codes "at") ∷ (codes "queue") ∷ (codes "agent") ∷ (codes "call") ∷ (codes "answer") ∷ (codes "message") ∷ (codes "receipt") ∷ (codes "detail") ∷ []) ∷
    ((codes "0") ∷ (codes "q") ∷ (codes "s") ∷ (codes "send") ∷ (codes "new") ∷ (codes "m-0-0") ∷ [] ∷ digest (codes "a") ∷ []) ∷
    ((codes "1") ∷ (codes "q") ∷ (codes "s") ∷ (codes "send") ∷ (codes "new") ∷ (codes "m-0-1") ∷ [] ∷ digest (codes "b") ∷ []) ∷
    ((codes "2") ∷ (codes "q") ∷ (codes "s") ∷ (codes "send") ∷ (codes "new") ∷ (codes "m-0-2") ∷ [] ∷ digest (codes "c") ∷ []) ∷
    ((codes "10") ∷ (codes "q") ∷ (codes "c") ∷ (codes "receive") ∷ (codes "ok") ∷ (codes "m-0-0") ∷ (codes "r-0-0-1") ∷ (codes "o-0-0") ∷ []) ∷
    ((codes "10") ∷ (codes "q") ∷ (codes "c") ∷ (codes "receive") ∷ (codes "ok") ∷ (codes "m-0-1") ∷ (codes "r-0-1-1") ∷ (codes "o-0-1") ∷ []) ∷
    ((codes "10") ∷ (codes "q") ∷ (codes "c") ∷ (codes "receive") ∷ (codes "ok") ∷ (codes "m-0-2") ∷ (codes "r-0-2-1") ∷ (codes "o-0-2") ∷ []) ∷
    ((codes "170") ∷ (codes "q") ∷ (codes "c") ∷ (codes "delete") ∷ (codes "deleted") ∷ (codes "m-0-0") ∷ (codes "r-0-0-1") ∷ (codes "170") ∷ []) ∷
    ((codes "171") ∷ (codes "q") ∷ (codes "c") ∷ (codes "delete") ∷ (codes "deleted") ∷ (codes "m-0-1") ∷ (codes "r-0-1-1") ∷ (codes "170") ∷ []) ∷
    ((codes "172") ∷ (codes "q") ∷ (codes "c") ∷ (codes "delete") ∷ (codes "deleted") ∷ (codes "m-0-2") ∷ (codes "r-0-2-1") ∷ (codes "170") ∷ []) ∷
    ((codes "173") ∷ (codes "q") ∷ (codes "c") ∷ (codes "receive") ∷ (codes "wait") ∷ [] ∷ [] ∷ [] ∷ []) ∷
    ((codes "final") ∷ (codes "queue") ∷ (codes "message") ∷ (codes "origin") ∷ (codes "place") ∷ (codes "due") ∷ (codes "enqueued") ∷ (codes "receives") ∷ (codes "group") ∷ (codes "md5") ∷ []) ∷
    ((codes "transfer") ∷ (codes "from") ∷ (codes "to") ∷ (codes "kind") ∷ (codes "due") ∷ (codes "number") ∷ (codes "message") ∷ (codes "origin") ∷ (codes "md5") ∷ []) ∷
    ((codes "task") ∷ (codes "name") ∷ (codes "status") ∷ (codes "moved") ∷ []) ∷
    ((codes "report") ∷ (codes "queue") ∷ (codes "sends") ∷ (codes "repeats") ∷ (codes "receives") ∷ (codes "empties") ∷ (codes "deletes") ∷ (codes "expiries") ∷ (codes "redrives") ∷ (codes "moves") ∷ (codes "arrivals") ∷ (codes "OverLimit") ∷ (codes "MessageNotInflight") ∷ (codes "ReceiptHandleIsInvalid") ∷ (codes "BadTimeout") ∷ (codes "MissingGroup") ∷ (codes "MissingDeduplication") ∷ (codes "BadDelay") ∷ (codes "TaskRunning") ∷ (codes "NoTask") ∷ (codes "depth_max") ∷ (codes "visible") ∷ (codes "in_flight") ∷ (codes "delayed") ∷ (codes "age_sum") ∷ (codes "age_max") ∷ (codes "age_p50") ∷ (codes "age_p95") ∷ (codes "age_p99") ∷ []) ∷
    ((codes "report") ∷ (codes "q") ∷ (codes "3") ∷ (codes "0") ∷ (codes "3") ∷ (codes "0") ∷ (codes "3") ∷ (codes "0") ∷ (codes "0") ∷ (codes "0") ∷ (codes "0") ∷ (codes "0") ∷ (codes "0") ∷ (codes "0") ∷ (codes "0") ∷ (codes "0") ∷ (codes "0") ∷ (codes "0") ∷ (codes "0") ∷ (codes "0") ∷ (codes "3") ∷ (codes "0") ∷ (codes "0") ∷ (codes "0") ∷ (codes "510") ∷ (codes "170") ∷ (codes "170") ∷ (codes "170") ∷ (codes "170") ∷ []) ∷ [])
unfolding reading_on_literals running_on_literals columns_of
case_0_once_in_a_whole_batch = refl

-- version-3/once_lets_a_batch_go.toml
case_0_once_lets_a_batch_go : shown_upto 3 72 [] (codes "# Without a backoff a batch that fails is let go: 1 ms after the row the consumer asks. At 1010 the messages come back\n# by their timeout, and the poll gets the first.\nversion = 3\nhorizon = 1100\n[[queue]]\nname = \"q\"\nvisibility_s = 1\n[[actor]]\nname = \"c\"\nkind = \"consumer\"\nqueue = \"q\"\nstart_ms = 10\nbatch = 3\nwait_s = 20\nservice_min_ms = 100\nservice_max_ms = 100\nbatch_service = \"once\"\nservice_each_ms = 1\nfails_on = \"bad\"\nbatch_fails = \"whole\"\n[[actor]]\nname = \"s\"\nkind = \"script\"\nqueue = \"q\"\ncalls = \"\"\"\nat,call,body,group,id,delay,receipt,max,wait,timeout,task\n0,send,a,,,,,,,,\n1,send,bad,,,,,,,,\n2,send,c,,,,,,,,\n\"\"\"\n")
    ≡ ran (((codes "at") ∷ (codes "queue") ∷ (codes "agent") ∷ (codes "call") ∷ (codes "answer") ∷ (codes "message") ∷ (codes "receipt") ∷ (codes "detail") ∷ []) ∷
    ((codes "0") ∷ (codes "q") ∷ (codes "s") ∷ (codes "send") ∷ (codes "new") ∷ (codes "m-0-0") ∷ [] ∷ digest (codes "a") ∷ []) ∷
    ((codes "1") ∷ (codes "q") ∷ (codes "s") ∷ (codes "send") ∷ (codes "new") ∷ (codes "m-0-1") ∷ [] ∷ digest (codes "bad") ∷ []) ∷
    ((codes "2") ∷ (codes "q") ∷ (codes "s") ∷ (codes "send") ∷ (codes "new") ∷ (codes "m-0-2") ∷ [] ∷ digest (codes "c") ∷ []) ∷
    ((codes "10") ∷ (codes "q") ∷ (codes "c") ∷ (codes "receive") ∷ (codes "ok") ∷ (codes "m-0-0") ∷ (codes "r-0-0-1") ∷ (codes "o-0-0") ∷ []) ∷
    ((codes "10") ∷ (codes "q") ∷ (codes "c") ∷ (codes "receive") ∷ (codes "ok") ∷ (codes "m-0-1") ∷ (codes "r-0-1-1") ∷ (codes "o-0-1") ∷ []) ∷
    ((codes "10") ∷ (codes "q") ∷ (codes "c") ∷ (codes "receive") ∷ (codes "ok") ∷ (codes "m-0-2") ∷ (codes "r-0-2-1") ∷ (codes "o-0-2") ∷ []) ∷
    ((codes "113") ∷ (codes "q") ∷ (codes "c") ∷ (codes "fail") ∷ (codes "ok") ∷ (codes "m-0-0") ∷ (codes "r-0-0-1") ∷ [] ∷ []) ∷
    ((codes "114") ∷ (codes "q") ∷ (codes "c") ∷ (codes "receive") ∷ (codes "wait") ∷ [] ∷ [] ∷ [] ∷ []) ∷
    ((codes "1010") ∷ (codes "q") ∷ (codes "q") ∷ (codes "release") ∷ (codes "visible") ∷ (codes "m-0-0") ∷ [] ∷ [] ∷ []) ∷
    ((codes "1010") ∷ (codes "q") ∷ (codes "c") ∷ (codes "receive") ∷ (codes "ok") ∷ (codes "m-0-0") ∷ (codes "r-0-0-2") ∷ (codes "o-0-0") ∷ []) ∷
    ((codes "1010") ∷ (codes "q") ∷ (codes "q") ∷ (codes "release") ∷ (codes "visible") ∷ (codes "m-0-1") ∷ [] ∷ [] ∷ []) ∷
    ((codes "1010") ∷ (codes "q") ∷ (codes "q") ∷ (codes "release") ∷ (codes "visible") ∷ (codes "m-0-2") ∷ [] ∷ [] ∷ []) ∷
    ((codes "final") ∷ (codes "queue") ∷ (codes "message") ∷ (codes "origin") ∷ (codes "place") ∷ (codes "due") ∷ (codes "enqueued") ∷ (codes "receives") ∷ (codes "group") ∷ (codes "md5") ∷ []) ∷
    ((codes "final") ∷ (codes "q") ∷ (codes "m-0-0") ∷ (codes "o-0-0") ∷ (codes "inflight") ∷ (codes "2010") ∷ (codes "0") ∷ (codes "2") ∷ [] ∷ digest (codes "a") ∷ []) ∷
    ((codes "final") ∷ (codes "q") ∷ (codes "m-0-1") ∷ (codes "o-0-1") ∷ (codes "visible") ∷ [] ∷ (codes "1") ∷ (codes "1") ∷ [] ∷ digest (codes "bad") ∷ []) ∷
    ((codes "final") ∷ (codes "q") ∷ (codes "m-0-2") ∷ (codes "o-0-2") ∷ (codes "visible") ∷ [] ∷ (codes "2") ∷ (codes "1") ∷ [] ∷ digest (codes "c") ∷ []) ∷
    ((codes "transfer") ∷ (codes "from") ∷ (codes "to") ∷ (codes "kind") ∷ (codes "due") ∷ (codes "number") ∷ (codes "message") ∷ (codes "origin") ∷ (codes "md5") ∷ []) ∷
    ((codes "task") ∷ (codes "name") ∷ (codes "status") ∷ (codes "moved") ∷ []) ∷
    ((codes "report") ∷ (codes "queue") ∷ (codes "sends") ∷ (codes "repeats") ∷ (codes "receives") ∷ (codes "empties") ∷ (codes "deletes") ∷ (codes "expiries") ∷ (codes "redrives") ∷ (codes "moves") ∷ (codes "arrivals") ∷ (codes "OverLimit") ∷ (codes "MessageNotInflight") ∷ (codes "ReceiptHandleIsInvalid") ∷ (codes "BadTimeout") ∷ (codes "MissingGroup") ∷ (codes "MissingDeduplication") ∷ (codes "BadDelay") ∷ (codes "TaskRunning") ∷ (codes "NoTask") ∷ (codes "depth_max") ∷ (codes "visible") ∷ (codes "in_flight") ∷ (codes "delayed") ∷ (codes "age_sum") ∷ (codes "age_max") ∷ (codes "age_p50") ∷ (codes "age_p95") ∷ (codes "age_p99") ∷ []) ∷
    ((codes "report") ∷ (codes "q") ∷ (codes "3") ∷ (codes "0") ∷ (codes "4") ∷ (codes "0") ∷ (codes "0") ∷ (codes "0") ∷ (codes "0") ∷ (codes "0") ∷ (codes "0") ∷ (codes "0") ∷ (codes "0") ∷ (codes "0") ∷ (codes "0") ∷ (codes "0") ∷ (codes "0") ∷ (codes "0") ∷ (codes "0") ∷ (codes "0") ∷ (codes "3") ∷ (codes "2") ∷ (codes "1") ∷ (codes "0") ∷ (codes "0") ∷ [] ∷ [] ∷ [] ∷ [] ∷ []) ∷ [])
unfolding reading_on_literals running_on_literals columns_of
case_0_once_lets_a_batch_go = refl

-- version-3/once_outlives_its_timeouts.toml
case_0_once_outlives_its_timeouts : shown_upto 3 73 [] (codes "# The service of the batch ends at 1009. m-0-0 is deleted then. At 1010 the timeouts end: m-0-1 and m-0-2 are visible\n# again. A FIFO queue refuses a delete of a message that is not in flight, at 1010 and at 1011. At 1012 the consumer\n# gets both again.\nversion = 3\nhorizon = 1500\n[[queue]]\nname = \"q.fifo\"\nvisibility_s = 1\n[[actor]]\nname = \"c\"\nkind = \"consumer\"\nqueue = \"q.fifo\"\nstart_ms = 10\nbatch = 3\nwait_s = 20\nservice_min_ms = 999\nservice_max_ms = 999\nbatch_service = \"once\"\nbatch_fails = \"whole\"\n[[actor]]\nname = \"s\"\nkind = \"script\"\nqueue = \"q.fifo\"\ncalls = \"\"\"\nat,call,body,group,id,delay,receipt,max,wait,timeout,task\n0,send,a,g,1,,,,,,\n1,send,b,h,2,,,,,,\n2,send,c,k,3,,,,,,\n\"\"\"\n")
    ≡ ran (((codes "at") ∷ (codes "queue") ∷ (codes "agent") ∷ (codes "call") ∷ (codes "answer") ∷ (codes "message") ∷ (codes "receipt") ∷ (codes "detail") ∷ []) ∷
    ((codes "0") ∷ (codes "q.fifo") ∷ (codes "s") ∷ (codes "send") ∷ (codes "new") ∷ (codes "m-0-0") ∷ [] ∷ digest (codes "a") ∷ []) ∷
    ((codes "1") ∷ (codes "q.fifo") ∷ (codes "s") ∷ (codes "send") ∷ (codes "new") ∷ (codes "m-0-1") ∷ [] ∷ digest (codes "b") ∷ []) ∷
    ((codes "2") ∷ (codes "q.fifo") ∷ (codes "s") ∷ (codes "send") ∷ (codes "new") ∷ (codes "m-0-2") ∷ [] ∷ digest (codes "c") ∷ []) ∷
    ((codes "10") ∷ (codes "q.fifo") ∷ (codes "c") ∷ (codes "receive") ∷ (codes "ok") ∷ (codes "m-0-0") ∷ (codes "r-0-0-1") ∷ (codes "o-0-0") ∷ []) ∷
    ((codes "10") ∷ (codes "q.fifo") ∷ (codes "c") ∷ (codes "receive") ∷ (codes "ok") ∷ (codes "m-0-1") ∷ (codes "r-0-1-1") ∷ (codes "o-0-1") ∷ []) ∷
    ((codes "10") ∷ (codes "q.fifo") ∷ (codes "c") ∷ (codes "receive") ∷ (codes "ok") ∷ (codes "m-0-2") ∷ (codes "r-0-2-1") ∷ (codes "o-0-2") ∷ []) ∷
    ((codes "1009") ∷ (codes "q.fifo") ∷ (codes "c") ∷ (codes "delete") ∷ (codes "deleted") ∷ (codes "m-0-0") ∷ (codes "r-0-0-1") ∷ (codes "1009") ∷ []) ∷
    ((codes "1010") ∷ (codes "q.fifo") ∷ (codes "q.fifo") ∷ (codes "release") ∷ (codes "visible") ∷ (codes "m-0-1") ∷ [] ∷ [] ∷ []) ∷
    ((codes "1010") ∷ (codes "q.fifo") ∷ (codes "q.fifo") ∷ (codes "release") ∷ (codes "visible") ∷ (codes "m-0-2") ∷ [] ∷ [] ∷ []) ∷
    ((codes "1010") ∷ (codes "q.fifo") ∷ (codes "c") ∷ (codes "delete") ∷ (codes "ReceiptHandleIsInvalid") ∷ [] ∷ (codes "r-0-1-1") ∷ [] ∷ []) ∷
    ((codes "1011") ∷ (codes "q.fifo") ∷ (codes "c") ∷ (codes "delete") ∷ (codes "ReceiptHandleIsInvalid") ∷ [] ∷ (codes "r-0-2-1") ∷ [] ∷ []) ∷
    ((codes "1012") ∷ (codes "q.fifo") ∷ (codes "c") ∷ (codes "receive") ∷ (codes "ok") ∷ (codes "m-0-1") ∷ (codes "r-0-1-2") ∷ (codes "o-0-1") ∷ []) ∷
    ((codes "1012") ∷ (codes "q.fifo") ∷ (codes "c") ∷ (codes "receive") ∷ (codes "ok") ∷ (codes "m-0-2") ∷ (codes "r-0-2-2") ∷ (codes "o-0-2") ∷ []) ∷
    ((codes "final") ∷ (codes "queue") ∷ (codes "message") ∷ (codes "origin") ∷ (codes "place") ∷ (codes "due") ∷ (codes "enqueued") ∷ (codes "receives") ∷ (codes "group") ∷ (codes "md5") ∷ []) ∷
    ((codes "final") ∷ (codes "q.fifo") ∷ (codes "m-0-1") ∷ (codes "o-0-1") ∷ (codes "inflight") ∷ (codes "2012") ∷ (codes "1") ∷ (codes "2") ∷ (codes "h") ∷ digest (codes "b") ∷ []) ∷
    ((codes "final") ∷ (codes "q.fifo") ∷ (codes "m-0-2") ∷ (codes "o-0-2") ∷ (codes "inflight") ∷ (codes "2012") ∷ (codes "2") ∷ (codes "2") ∷ (codes "k") ∷ digest (codes "c") ∷ []) ∷
    ((codes "transfer") ∷ (codes "from") ∷ (codes "to") ∷ (codes "kind") ∷ (codes "due") ∷ (codes "number") ∷ (codes "message") ∷ (codes "origin") ∷ (codes "md5") ∷ []) ∷
    ((codes "task") ∷ (codes "name") ∷ (codes "status") ∷ (codes "moved") ∷ []) ∷
    ((codes "report") ∷ (codes "queue") ∷ (codes "sends") ∷ (codes "repeats") ∷ (codes "receives") ∷ (codes "empties") ∷ (codes "deletes") ∷ (codes "expiries") ∷ (codes "redrives") ∷ (codes "moves") ∷ (codes "arrivals") ∷ (codes "OverLimit") ∷ (codes "MessageNotInflight") ∷ (codes "ReceiptHandleIsInvalid") ∷ (codes "BadTimeout") ∷ (codes "MissingGroup") ∷ (codes "MissingDeduplication") ∷ (codes "BadDelay") ∷ (codes "TaskRunning") ∷ (codes "NoTask") ∷ (codes "depth_max") ∷ (codes "visible") ∷ (codes "in_flight") ∷ (codes "delayed") ∷ (codes "age_sum") ∷ (codes "age_max") ∷ (codes "age_p50") ∷ (codes "age_p95") ∷ (codes "age_p99") ∷ []) ∷
    ((codes "report") ∷ (codes "q.fifo") ∷ (codes "3") ∷ (codes "0") ∷ (codes "5") ∷ (codes "0") ∷ (codes "1") ∷ (codes "0") ∷ (codes "0") ∷ (codes "0") ∷ (codes "0") ∷ (codes "0") ∷ (codes "0") ∷ (codes "2") ∷ (codes "0") ∷ (codes "0") ∷ (codes "0") ∷ (codes "0") ∷ (codes "0") ∷ (codes "0") ∷ (codes "3") ∷ (codes "0") ∷ (codes "2") ∷ (codes "0") ∷ (codes "1009") ∷ (codes "1009") ∷ (codes "1009") ∷ (codes "1009") ∷ (codes "1009") ∷ []) ∷ [])
unfolding reading_on_literals running_on_literals columns_of
case_0_once_outlives_its_timeouts = refl

-- version-3/once_with_poison_in_second_place.toml
case_0_once_with_poison_in_second_place : shown_upto 3 82 [] (codes "# m-0-1 is poison. The service of the batch ends at 110 and fails as a whole; the row is of the first message. The\n# backoff of 1 s is set for all three, 1 ms apart. They come back at 1110, 1111 and 1112. The poll gets m-0-0 alone,\n# whose service ends well at 1210. Then m-0-1 and m-0-2 are one batch, which fails at 1311; the row is of m-0-1.\nversion = 3\nhorizon = 1313\n[[queue]]\nname = \"q\"\n[[actor]]\nname = \"c\"\nkind = \"consumer\"\nqueue = \"q\"\nstart_ms = 10\nbatch = 3\nwait_s = 20\nservice_min_ms = 100\nservice_max_ms = 100\nbatch_service = \"once\"\nfails_on = \"bad\"\nbatch_fails = \"whole\"\nbackoff_s = [1]\n[[actor]]\nname = \"s\"\nkind = \"script\"\nqueue = \"q\"\ncalls = \"\"\"\nat,call,body,group,id,delay,receipt,max,wait,timeout,task\n0,send,a,,,,,,,,\n1,send,bad,,,,,,,,\n2,send,c,,,,,,,,\n\"\"\"\n")
    ≡ ran (((codes "at") ∷ (codes "queue") ∷ (codes "agent") ∷ (codes "call") ∷ (codes "answer") ∷ (codes "message") ∷ (codes "receipt") ∷ (codes "detail") ∷ []) ∷
    ((codes "0") ∷ (codes "q") ∷ (codes "s") ∷ (codes "send") ∷ (codes "new") ∷ (codes "m-0-0") ∷ [] ∷ digest (codes "a") ∷ []) ∷
    ((codes "1") ∷ (codes "q") ∷ (codes "s") ∷ (codes "send") ∷ (codes "new") ∷ (codes "m-0-1") ∷ [] ∷ digest (codes "bad") ∷ []) ∷
    ((codes "2") ∷ (codes "q") ∷ (codes "s") ∷ (codes "send") ∷ (codes "new") ∷ (codes "m-0-2") ∷ [] ∷ digest (codes "c") ∷ []) ∷
    ((codes "10") ∷ (codes "q") ∷ (codes "c") ∷ (codes "receive") ∷ (codes "ok") ∷ (codes "m-0-0") ∷ (codes "r-0-0-1") ∷ (codes "o-0-0") ∷ []) ∷
    ((codes "10") ∷ (codes "q") ∷ (codes "c") ∷ (codes "receive") ∷ (codes "ok") ∷ (codes "m-0-1") ∷ (codes "r-0-1-1") ∷ (codes "o-0-1") ∷ []) ∷
    ((codes "10") ∷ (codes "q") ∷ (codes "c") ∷ (codes "receive") ∷ (codes "ok") ∷ (codes "m-0-2") ∷ (codes "r-0-2-1") ∷ (codes "o-0-2") ∷ []) ∷
    ((codes "110") ∷ (codes "q") ∷ (codes "c") ∷ (codes "fail") ∷ (codes "ok") ∷ (codes "m-0-0") ∷ (codes "r-0-0-1") ∷ [] ∷ []) ∷
    ((codes "110") ∷ (codes "q") ∷ (codes "c") ∷ (codes "change") ∷ (codes "ok") ∷ (codes "m-0-0") ∷ (codes "r-0-0-1") ∷ (codes "1") ∷ []) ∷
    ((codes "111") ∷ (codes "q") ∷ (codes "c") ∷ (codes "change") ∷ (codes "ok") ∷ (codes "m-0-1") ∷ (codes "r-0-1-1") ∷ (codes "1") ∷ []) ∷
    ((codes "112") ∷ (codes "q") ∷ (codes "c") ∷ (codes "change") ∷ (codes "ok") ∷ (codes "m-0-2") ∷ (codes "r-0-2-1") ∷ (codes "1") ∷ []) ∷
    ((codes "113") ∷ (codes "q") ∷ (codes "c") ∷ (codes "receive") ∷ (codes "wait") ∷ [] ∷ [] ∷ [] ∷ []) ∷
    ((codes "1110") ∷ (codes "q") ∷ (codes "q") ∷ (codes "release") ∷ (codes "visible") ∷ (codes "m-0-0") ∷ [] ∷ [] ∷ []) ∷
    ((codes "1110") ∷ (codes "q") ∷ (codes "c") ∷ (codes "receive") ∷ (codes "ok") ∷ (codes "m-0-0") ∷ (codes "r-0-0-2") ∷ (codes "o-0-0") ∷ []) ∷
    ((codes "1111") ∷ (codes "q") ∷ (codes "q") ∷ (codes "release") ∷ (codes "visible") ∷ (codes "m-0-1") ∷ [] ∷ [] ∷ []) ∷
    ((codes "1112") ∷ (codes "q") ∷ (codes "q") ∷ (codes "release") ∷ (codes "visible") ∷ (codes "m-0-2") ∷ [] ∷ [] ∷ []) ∷
    ((codes "1210") ∷ (codes "q") ∷ (codes "c") ∷ (codes "delete") ∷ (codes "deleted") ∷ (codes "m-0-0") ∷ (codes "r-0-0-2") ∷ (codes "1210") ∷ []) ∷
    ((codes "1211") ∷ (codes "q") ∷ (codes "c") ∷ (codes "receive") ∷ (codes "ok") ∷ (codes "m-0-1") ∷ (codes "r-0-1-2") ∷ (codes "o-0-1") ∷ []) ∷
    ((codes "1211") ∷ (codes "q") ∷ (codes "c") ∷ (codes "receive") ∷ (codes "ok") ∷ (codes "m-0-2") ∷ (codes "r-0-2-2") ∷ (codes "o-0-2") ∷ []) ∷
    ((codes "1311") ∷ (codes "q") ∷ (codes "c") ∷ (codes "fail") ∷ (codes "ok") ∷ (codes "m-0-1") ∷ (codes "r-0-1-2") ∷ [] ∷ []) ∷
    ((codes "1311") ∷ (codes "q") ∷ (codes "c") ∷ (codes "change") ∷ (codes "ok") ∷ (codes "m-0-1") ∷ (codes "r-0-1-2") ∷ (codes "1") ∷ []) ∷
    ((codes "1312") ∷ (codes "q") ∷ (codes "c") ∷ (codes "change") ∷ (codes "ok") ∷ (codes "m-0-2") ∷ (codes "r-0-2-2") ∷ (codes "1") ∷ []) ∷
    ((codes "1313") ∷ (codes "q") ∷ (codes "c") ∷ (codes "receive") ∷ (codes "wait") ∷ [] ∷ [] ∷ [] ∷ []) ∷
    ((codes "final") ∷ (codes "queue") ∷ (codes "message") ∷ (codes "origin") ∷ (codes "place") ∷ (codes "due") ∷ (codes "enqueued") ∷ (codes "receives") ∷ (codes "group") ∷ (codes "md5") ∷ []) ∷
    ((codes "final") ∷ (codes "q") ∷ (codes "m-0-1") ∷ (codes "o-0-1") ∷ (codes "inflight") ∷ (codes "2311") ∷ (codes "1") ∷ (codes "2") ∷ [] ∷ digest (codes "bad") ∷ []) ∷
    ((codes "final") ∷ (codes "q") ∷ (codes "m-0-2") ∷ (codes "o-0-2") ∷ (codes "inflight") ∷ (codes "2312") ∷ (codes "2") ∷ (codes "2") ∷ [] ∷ digest (codes "c") ∷ []) ∷
    ((codes "transfer") ∷ (codes "from") ∷ (codes "to") ∷ (codes "kind") ∷ (codes "due") ∷ (codes "number") ∷ (codes "message") ∷ (codes "origin") ∷ (codes "md5") ∷ []) ∷
    ((codes "task") ∷ (codes "name") ∷ (codes "status") ∷ (codes "moved") ∷ []) ∷
    ((codes "report") ∷ (codes "queue") ∷ (codes "sends") ∷ (codes "repeats") ∷ (codes "receives") ∷ (codes "empties") ∷ (codes "deletes") ∷ (codes "expiries") ∷ (codes "redrives") ∷ (codes "moves") ∷ (codes "arrivals") ∷ (codes "OverLimit") ∷ (codes "MessageNotInflight") ∷ (codes "ReceiptHandleIsInvalid") ∷ (codes "BadTimeout") ∷ (codes "MissingGroup") ∷ (codes "MissingDeduplication") ∷ (codes "BadDelay") ∷ (codes "TaskRunning") ∷ (codes "NoTask") ∷ (codes "depth_max") ∷ (codes "visible") ∷ (codes "in_flight") ∷ (codes "delayed") ∷ (codes "age_sum") ∷ (codes "age_max") ∷ (codes "age_p50") ∷ (codes "age_p95") ∷ (codes "age_p99") ∷ []) ∷
    ((codes "report") ∷ (codes "q") ∷ (codes "3") ∷ (codes "0") ∷ (codes "6") ∷ (codes "0") ∷ (codes "1") ∷ (codes "0") ∷ (codes "0") ∷ (codes "0") ∷ (codes "0") ∷ (codes "0") ∷ (codes "0") ∷ (codes "0") ∷ (codes "0") ∷ (codes "0") ∷ (codes "0") ∷ (codes "0") ∷ (codes "0") ∷ (codes "0") ∷ (codes "3") ∷ (codes "0") ∷ (codes "2") ∷ (codes "0") ∷ (codes "1210") ∷ (codes "1210") ∷ (codes "1210") ∷ (codes "1210") ∷ (codes "1210") ∷ []) ∷ [])
unfolding reading_on_literals running_on_literals columns_of
case_0_once_with_poison_in_second_place = refl

-- version-3/one_step_up_to_a_million.toml
case_0_one_step_up_to_a_million : shown_upto 3 62 [] (codes "# Whatever is visible is in the only step, which asks for 1,000 copies: the scaler wants 5. It adds two at once, and none\n# within two seconds after 0 and after a change. Nobody goes by this scaler.\nversion = 3\nhorizon = 4000\n[[queue]]\nname = \"q\"\n[[actor]]\nname = \"x\"\nkind = \"scaler\"\nqueue = \"q\"\nevery_s = 1\nsteps = [[1000000, 1000]]\ncopies_max = 5\nadded_max = 2\ncooldown_out_s = 2\n")
    ≡ ran (((codes "at") ∷ (codes "queue") ∷ (codes "agent") ∷ (codes "call") ∷ (codes "answer") ∷ (codes "message") ∷ (codes "receipt") ∷ (codes "detail") ∷ []) ∷
    ((codes "2000") ∷ (codes "q") ∷ (codes "x") ∷ (codes "scale") ∷ (codes "ok") ∷ [] ∷ [] ∷ (codes "1/3") ∷ []) ∷
    ((codes "4000") ∷ (codes "q") ∷ (codes "x") ∷ (codes "scale") ∷ (codes "ok") ∷ [] ∷ [] ∷ (codes "3/5") ∷ []) ∷
    ((codes "final") ∷ (codes "queue") ∷ (codes "message") ∷ (codes "origin") ∷ (codes "place") ∷ (codes "due") ∷ (codes "enqueued") ∷ (codes "receives") ∷ (codes "group") ∷ (codes "md5") ∷ []) ∷
    ((codes "transfer") ∷ (codes "from") ∷ (codes "to") ∷ (codes "kind") ∷ (codes "due") ∷ (codes "number") ∷ (codes "message") ∷ (codes "origin") ∷ (codes "md5") ∷ []) ∷
    ((codes "task") ∷ (codes "name") ∷ (codes "status") ∷ (codes "moved") ∷ []) ∷
    ((codes "report") ∷ (codes "queue") ∷ (codes "sends") ∷ (codes "repeats") ∷ (codes "receives") ∷ (codes "empties") ∷ (codes "deletes") ∷ (codes "expiries") ∷ (codes "redrives") ∷ (codes "moves") ∷ (codes "arrivals") ∷ (codes "OverLimit") ∷ (codes "MessageNotInflight") ∷ (codes "ReceiptHandleIsInvalid") ∷ (codes "BadTimeout") ∷ (codes "MissingGroup") ∷ (codes "MissingDeduplication") ∷ (codes "BadDelay") ∷ (codes "TaskRunning") ∷ (codes "NoTask") ∷ (codes "depth_max") ∷ (codes "visible") ∷ (codes "in_flight") ∷ (codes "delayed") ∷ (codes "age_sum") ∷ (codes "age_max") ∷ (codes "age_p50") ∷ (codes "age_p95") ∷ (codes "age_p99") ∷ []) ∷
    ((codes "report") ∷ (codes "q") ∷ (codes "0") ∷ (codes "0") ∷ (codes "0") ∷ (codes "0") ∷ (codes "0") ∷ (codes "0") ∷ (codes "0") ∷ (codes "0") ∷ (codes "0") ∷ (codes "0") ∷ (codes "0") ∷ (codes "0") ∷ (codes "0") ∷ (codes "0") ∷ (codes "0") ∷ (codes "0") ∷ (codes "0") ∷ (codes "0") ∷ (codes "0") ∷ (codes "0") ∷ (codes "0") ∷ (codes "0") ∷ (codes "0") ∷ [] ∷ [] ∷ [] ∷ [] ∷ []) ∷ [])
unfolding reading_on_literals running_on_literals columns_of
case_0_one_step_up_to_a_million = refl

-- version-3/outage.toml
case_0_outage : shown_upto 3 74 [] (codes "# Services of c end at 200 (the outage begins: fails), 300 (fails) and 400 (the outage is over). That of d ends at 199.\nversion = 3\nhorizon = 1000\n[[queue]]\nname = \"q\"\n[[queue]]\nname = \"p\"\n[[actor]]\nname = \"c\"\nkind = \"consumer\"\nqueue = \"q\"\nstart_ms = 100\nbatch = 3\nwait_s = 20\nservice_min_ms = 100\nservice_max_ms = 100\nfails_from_ms = 200\nfails_to_ms = 400\n[[actor]]\nname = \"d\"\nkind = \"consumer\"\nqueue = \"p\"\nstart_ms = 99\nwait_s = 20\nservice_min_ms = 100\nservice_max_ms = 100\nfails_from_ms = 200\nfails_to_ms = 400\n[[actor]]\nname = \"s\"\nkind = \"script\"\nqueue = \"q\"\ncalls = \"\"\"\nat,call,body,group,id,delay,receipt,max,wait,timeout,task\n0,send,a,,,,,,,,\n1,send,b,,,,,,,,\n2,send,c,,,,,,,,\n\"\"\"\n[[actor]]\nname = \"t\"\nkind = \"script\"\nqueue = \"p\"\ncalls = \"\"\"\nat,call,body,group,id,delay,receipt,max,wait,timeout,task\n0,send,a,,,,,,,,\n\"\"\"\n")
    ≡ ran (((codes "at") ∷ (codes "queue") ∷ (codes "agent") ∷ (codes "call") ∷ (codes "answer") ∷ (codes "message") ∷ (codes "receipt") ∷ (codes "detail") ∷ []) ∷
    ((codes "0") ∷ (codes "q") ∷ (codes "s") ∷ (codes "send") ∷ (codes "new") ∷ (codes "m-0-0") ∷ [] ∷ digest (codes "a") ∷ []) ∷
    ((codes "0") ∷ (codes "p") ∷ (codes "t") ∷ (codes "send") ∷ (codes "new") ∷ (codes "m-1-0") ∷ [] ∷ digest (codes "a") ∷ []) ∷
    ((codes "1") ∷ (codes "q") ∷ (codes "s") ∷ (codes "send") ∷ (codes "new") ∷ (codes "m-0-1") ∷ [] ∷ digest (codes "b") ∷ []) ∷
    ((codes "2") ∷ (codes "q") ∷ (codes "s") ∷ (codes "send") ∷ (codes "new") ∷ (codes "m-0-2") ∷ [] ∷ digest (codes "c") ∷ []) ∷
    ((codes "99") ∷ (codes "p") ∷ (codes "d") ∷ (codes "receive") ∷ (codes "ok") ∷ (codes "m-1-0") ∷ (codes "r-1-0-1") ∷ (codes "o-1-0") ∷ []) ∷
    ((codes "100") ∷ (codes "q") ∷ (codes "c") ∷ (codes "receive") ∷ (codes "ok") ∷ (codes "m-0-0") ∷ (codes "r-0-0-1") ∷ (codes "o-0-0") ∷ []) ∷
    ((codes "100") ∷ (codes "q") ∷ (codes "c") ∷ (codes "receive") ∷ (codes "ok") ∷ (codes "m-0-1") ∷ (codes "r-0-1-1") ∷ (codes "o-0-1") ∷ []) ∷
    ((codes "100") ∷ (codes "q") ∷ (codes "c") ∷ (codes "receive") ∷ (codes "ok") ∷ (codes "m-0-2") ∷ (codes "r-0-2-1") ∷ (codes "o-0-2") ∷ []) ∷
    ((codes "199") ∷ (codes "p") ∷ (codes "d") ∷ (codes "delete") ∷ (codes "deleted") ∷ (codes "m-1-0") ∷ (codes "r-1-0-1") ∷ (codes "199") ∷ []) ∷
    ((codes "200") ∷ (codes "q") ∷ (codes "c") ∷ (codes "fail") ∷ (codes "ok") ∷ (codes "m-0-0") ∷ (codes "r-0-0-1") ∷ [] ∷ []) ∷
    ((codes "200") ∷ (codes "p") ∷ (codes "d") ∷ (codes "receive") ∷ (codes "wait") ∷ [] ∷ [] ∷ [] ∷ []) ∷
    ((codes "300") ∷ (codes "q") ∷ (codes "c") ∷ (codes "fail") ∷ (codes "ok") ∷ (codes "m-0-1") ∷ (codes "r-0-1-1") ∷ [] ∷ []) ∷
    ((codes "400") ∷ (codes "q") ∷ (codes "c") ∷ (codes "delete") ∷ (codes "deleted") ∷ (codes "m-0-2") ∷ (codes "r-0-2-1") ∷ (codes "398") ∷ []) ∷
    ((codes "401") ∷ (codes "q") ∷ (codes "c") ∷ (codes "receive") ∷ (codes "wait") ∷ [] ∷ [] ∷ [] ∷ []) ∷
    ((codes "final") ∷ (codes "queue") ∷ (codes "message") ∷ (codes "origin") ∷ (codes "place") ∷ (codes "due") ∷ (codes "enqueued") ∷ (codes "receives") ∷ (codes "group") ∷ (codes "md5") ∷ []) ∷
    ((codes "final") ∷ (codes "q") ∷ (codes "m-0-0") ∷ (codes "o-0-0") ∷ (codes "inflight") ∷ (codes "30100") ∷ (codes "0") ∷ (codes "1") ∷ [] ∷ digest (codes "a") ∷ []) ∷
    ((codes "final") ∷ (codes "q") ∷ (codes "m-0-1") ∷ (codes "o-0-1") ∷ (codes "inflight") ∷ (codes "30100") ∷ (codes "1") ∷ (codes "1") ∷ [] ∷ digest (codes "b") ∷ []) ∷
    ((codes "transfer") ∷ (codes "from") ∷ (codes "to") ∷ (codes "kind") ∷ (codes "due") ∷ (codes "number") ∷ (codes "message") ∷ (codes "origin") ∷ (codes "md5") ∷ []) ∷
    ((codes "task") ∷ (codes "name") ∷ (codes "status") ∷ (codes "moved") ∷ []) ∷
    ((codes "report") ∷ (codes "queue") ∷ (codes "sends") ∷ (codes "repeats") ∷ (codes "receives") ∷ (codes "empties") ∷ (codes "deletes") ∷ (codes "expiries") ∷ (codes "redrives") ∷ (codes "moves") ∷ (codes "arrivals") ∷ (codes "OverLimit") ∷ (codes "MessageNotInflight") ∷ (codes "ReceiptHandleIsInvalid") ∷ (codes "BadTimeout") ∷ (codes "MissingGroup") ∷ (codes "MissingDeduplication") ∷ (codes "BadDelay") ∷ (codes "TaskRunning") ∷ (codes "NoTask") ∷ (codes "depth_max") ∷ (codes "visible") ∷ (codes "in_flight") ∷ (codes "delayed") ∷ (codes "age_sum") ∷ (codes "age_max") ∷ (codes "age_p50") ∷ (codes "age_p95") ∷ (codes "age_p99") ∷ []) ∷
    ((codes "report") ∷ (codes "q") ∷ (codes "3") ∷ (codes "0") ∷ (codes "3") ∷ (codes "0") ∷ (codes "1") ∷ (codes "0") ∷ (codes "0") ∷ (codes "0") ∷ (codes "0") ∷ (codes "0") ∷ (codes "0") ∷ (codes "0") ∷ (codes "0") ∷ (codes "0") ∷ (codes "0") ∷ (codes "0") ∷ (codes "0") ∷ (codes "0") ∷ (codes "3") ∷ (codes "0") ∷ (codes "2") ∷ (codes "0") ∷ (codes "398") ∷ (codes "398") ∷ (codes "398") ∷ (codes "398") ∷ (codes "398") ∷ []) ∷
    ((codes "report") ∷ (codes "p") ∷ (codes "1") ∷ (codes "0") ∷ (codes "1") ∷ (codes "0") ∷ (codes "1") ∷ (codes "0") ∷ (codes "0") ∷ (codes "0") ∷ (codes "0") ∷ (codes "0") ∷ (codes "0") ∷ (codes "0") ∷ (codes "0") ∷ (codes "0") ∷ (codes "0") ∷ (codes "0") ∷ (codes "0") ∷ (codes "0") ∷ (codes "1") ∷ (codes "0") ∷ (codes "0") ∷ (codes "0") ∷ (codes "199") ∷ (codes "199") ∷ (codes "199") ∷ (codes "199") ∷ (codes "199") ∷ []) ∷ [])
unfolding reading_on_literals running_on_literals columns_of
case_0_outage = refl

-- version-3/outage_in_a_whole_batch.toml
case_0_outage_in_a_whole_batch : shown_upto 3 73 [] (codes "# The service of m-0-0 ends at 110, before the outage; that of m-0-1 ends at 210, within it, so the batch fails. m-0-0\n# comes back with it and is served once more.\nversion = 3\nhorizon = 2000\n[[queue]]\nname = \"q\"\nvisibility_s = 1\n[[actor]]\nname = \"c\"\nkind = \"consumer\"\nqueue = \"q\"\nstart_ms = 10\nbatch = 2\nwait_s = 20\nservice_min_ms = 100\nservice_max_ms = 100\nfails_from_ms = 200\nfails_to_ms = 300\nbatch_fails = \"whole\"\n[[actor]]\nname = \"s\"\nkind = \"script\"\nqueue = \"q\"\ncalls = \"\"\"\nat,call,body,group,id,delay,receipt,max,wait,timeout,task\n0,send,a,,,,,,,,\n1,send,b,,,,,,,,\n\"\"\"\n")
    ≡ ran (((codes "at") ∷ (codes "queue") ∷ (codes "agent") ∷ (codes "call") ∷ (codes "answer") ∷ (codes "message") ∷ (codes "receipt") ∷ (codes "detail") ∷ []) ∷
    ((codes "0") ∷ (codes "q") ∷ (codes "s") ∷ (codes "send") ∷ (codes "new") ∷ (codes "m-0-0") ∷ [] ∷ digest (codes "a") ∷ []) ∷
    ((codes "1") ∷ (codes "q") ∷ (codes "s") ∷ (codes "send") ∷ (codes "new") ∷ (codes "m-0-1") ∷ [] ∷ digest (codes "b") ∷ []) ∷
    ((codes "10") ∷ (codes "q") ∷ (codes "c") ∷ (codes "receive") ∷ (codes "ok") ∷ (codes "m-0-0") ∷ (codes "r-0-0-1") ∷ (codes "o-0-0") ∷ []) ∷
    ((codes "10") ∷ (codes "q") ∷ (codes "c") ∷ (codes "receive") ∷ (codes "ok") ∷ (codes "m-0-1") ∷ (codes "r-0-1-1") ∷ (codes "o-0-1") ∷ []) ∷
    ((codes "210") ∷ (codes "q") ∷ (codes "c") ∷ (codes "fail") ∷ (codes "ok") ∷ (codes "m-0-1") ∷ (codes "r-0-1-1") ∷ [] ∷ []) ∷
    ((codes "211") ∷ (codes "q") ∷ (codes "c") ∷ (codes "receive") ∷ (codes "wait") ∷ [] ∷ [] ∷ [] ∷ []) ∷
    ((codes "1010") ∷ (codes "q") ∷ (codes "q") ∷ (codes "release") ∷ (codes "visible") ∷ (codes "m-0-0") ∷ [] ∷ [] ∷ []) ∷
    ((codes "1010") ∷ (codes "q") ∷ (codes "c") ∷ (codes "receive") ∷ (codes "ok") ∷ (codes "m-0-0") ∷ (codes "r-0-0-2") ∷ (codes "o-0-0") ∷ []) ∷
    ((codes "1010") ∷ (codes "q") ∷ (codes "q") ∷ (codes "release") ∷ (codes "visible") ∷ (codes "m-0-1") ∷ [] ∷ [] ∷ []) ∷
    ((codes "1110") ∷ (codes "q") ∷ (codes "c") ∷ (codes "delete") ∷ (codes "deleted") ∷ (codes "m-0-0") ∷ (codes "r-0-0-2") ∷ (codes "1110") ∷ []) ∷
    ((codes "1111") ∷ (codes "q") ∷ (codes "c") ∷ (codes "receive") ∷ (codes "ok") ∷ (codes "m-0-1") ∷ (codes "r-0-1-2") ∷ (codes "o-0-1") ∷ []) ∷
    ((codes "1211") ∷ (codes "q") ∷ (codes "c") ∷ (codes "delete") ∷ (codes "deleted") ∷ (codes "m-0-1") ∷ (codes "r-0-1-2") ∷ (codes "1210") ∷ []) ∷
    ((codes "1212") ∷ (codes "q") ∷ (codes "c") ∷ (codes "receive") ∷ (codes "wait") ∷ [] ∷ [] ∷ [] ∷ []) ∷
    ((codes "final") ∷ (codes "queue") ∷ (codes "message") ∷ (codes "origin") ∷ (codes "place") ∷ (codes "due") ∷ (codes "enqueued") ∷ (codes "receives") ∷ (codes "group") ∷ (codes "md5") ∷ []) ∷
    ((codes "transfer") ∷ (codes "from") ∷ (codes "to") ∷ (codes "kind") ∷ (codes "due") ∷ (codes "number") ∷ (codes "message") ∷ (codes "origin") ∷ (codes "md5") ∷ []) ∷
    ((codes "task") ∷ (codes "name") ∷ (codes "status") ∷ (codes "moved") ∷ []) ∷
    ((codes "report") ∷ (codes "queue") ∷ (codes "sends") ∷ (codes "repeats") ∷ (codes "receives") ∷ (codes "empties") ∷ (codes "deletes") ∷ (codes "expiries") ∷ (codes "redrives") ∷ (codes "moves") ∷ (codes "arrivals") ∷ (codes "OverLimit") ∷ (codes "MessageNotInflight") ∷ (codes "ReceiptHandleIsInvalid") ∷ (codes "BadTimeout") ∷ (codes "MissingGroup") ∷ (codes "MissingDeduplication") ∷ (codes "BadDelay") ∷ (codes "TaskRunning") ∷ (codes "NoTask") ∷ (codes "depth_max") ∷ (codes "visible") ∷ (codes "in_flight") ∷ (codes "delayed") ∷ (codes "age_sum") ∷ (codes "age_max") ∷ (codes "age_p50") ∷ (codes "age_p95") ∷ (codes "age_p99") ∷ []) ∷
    ((codes "report") ∷ (codes "q") ∷ (codes "2") ∷ (codes "0") ∷ (codes "4") ∷ (codes "0") ∷ (codes "2") ∷ (codes "0") ∷ (codes "0") ∷ (codes "0") ∷ (codes "0") ∷ (codes "0") ∷ (codes "0") ∷ (codes "0") ∷ (codes "0") ∷ (codes "0") ∷ (codes "0") ∷ (codes "0") ∷ (codes "0") ∷ (codes "0") ∷ (codes "2") ∷ (codes "0") ∷ (codes "0") ∷ (codes "0") ∷ (codes "2320") ∷ (codes "1210") ∷ (codes "1110") ∷ (codes "1210") ∷ (codes "1210") ∷ []) ∷ [])
unfolding reading_on_literals running_on_literals columns_of
case_0_outage_in_a_whole_batch = refl

-- version-3/outage_while_a_batch_is_decided.toml
case_0_outage_while_a_batch_is_decided : shown_upto 3 70 [] (codes "# The service of the batch ends at 110. Its messages are decided at 110, 111 and 112, each by its own moment: the outage\n# is at 111 alone.\nversion = 3\nhorizon = 1000\n[[queue]]\nname = \"q\"\n[[actor]]\nname = \"c\"\nkind = \"consumer\"\nqueue = \"q\"\nstart_ms = 10\nbatch = 3\nwait_s = 20\nservice_min_ms = 100\nservice_max_ms = 100\nbatch_service = \"once\"\nfails_between_ms = [[111, 112]]\n[[actor]]\nname = \"s\"\nkind = \"script\"\nqueue = \"q\"\ncalls = \"\"\"\nat,call,body,group,id,delay,receipt,max,wait,timeout,task\n0,send,a,,,,,,,,\n1,send,b,,,,,,,,\n2,send,c,,,,,,,,\n\"\"\"\n")
    ≡ ran (((codes "at") ∷ (codes "queue") ∷ (codes "agent") ∷ (codes "call") ∷ (codes "answer") ∷ (codes "message") ∷ (codes "receipt") ∷ (codes "detail") ∷ []) ∷
    ((codes "0") ∷ (codes "q") ∷ (codes "s") ∷ (codes "send") ∷ (codes "new") ∷ (codes "m-0-0") ∷ [] ∷ digest (codes "a") ∷ []) ∷
    ((codes "1") ∷ (codes "q") ∷ (codes "s") ∷ (codes "send") ∷ (codes "new") ∷ (codes "m-0-1") ∷ [] ∷ digest (codes "b") ∷ []) ∷
    ((codes "2") ∷ (codes "q") ∷ (codes "s") ∷ (codes "send") ∷ (codes "new") ∷ (codes "m-0-2") ∷ [] ∷ digest (codes "c") ∷ []) ∷
    ((codes "10") ∷ (codes "q") ∷ (codes "c") ∷ (codes "receive") ∷ (codes "ok") ∷ (codes "m-0-0") ∷ (codes "r-0-0-1") ∷ (codes "o-0-0") ∷ []) ∷
    ((codes "10") ∷ (codes "q") ∷ (codes "c") ∷ (codes "receive") ∷ (codes "ok") ∷ (codes "m-0-1") ∷ (codes "r-0-1-1") ∷ (codes "o-0-1") ∷ []) ∷
    ((codes "10") ∷ (codes "q") ∷ (codes "c") ∷ (codes "receive") ∷ (codes "ok") ∷ (codes "m-0-2") ∷ (codes "r-0-2-1") ∷ (codes "o-0-2") ∷ []) ∷
    ((codes "110") ∷ (codes "q") ∷ (codes "c") ∷ (codes "delete") ∷ (codes "deleted") ∷ (codes "m-0-0") ∷ (codes "r-0-0-1") ∷ (codes "110") ∷ []) ∷
    ((codes "111") ∷ (codes "q") ∷ (codes "c") ∷ (codes "fail") ∷ (codes "ok") ∷ (codes "m-0-1") ∷ (codes "r-0-1-1") ∷ [] ∷ []) ∷
    ((codes "112") ∷ (codes "q") ∷ (codes "c") ∷ (codes "delete") ∷ (codes "deleted") ∷ (codes "m-0-2") ∷ (codes "r-0-2-1") ∷ (codes "110") ∷ []) ∷
    ((codes "113") ∷ (codes "q") ∷ (codes "c") ∷ (codes "receive") ∷ (codes "wait") ∷ [] ∷ [] ∷ [] ∷ []) ∷
    ((codes "final") ∷ (codes "queue") ∷ (codes "message") ∷ (codes "origin") ∷ (codes "place") ∷ (codes "due") ∷ (codes "enqueued") ∷ (codes "receives") ∷ (codes "group") ∷ (codes "md5") ∷ []) ∷
    ((codes "final") ∷ (codes "q") ∷ (codes "m-0-1") ∷ (codes "o-0-1") ∷ (codes "inflight") ∷ (codes "30010") ∷ (codes "1") ∷ (codes "1") ∷ [] ∷ digest (codes "b") ∷ []) ∷
    ((codes "transfer") ∷ (codes "from") ∷ (codes "to") ∷ (codes "kind") ∷ (codes "due") ∷ (codes "number") ∷ (codes "message") ∷ (codes "origin") ∷ (codes "md5") ∷ []) ∷
    ((codes "task") ∷ (codes "name") ∷ (codes "status") ∷ (codes "moved") ∷ []) ∷
    ((codes "report") ∷ (codes "queue") ∷ (codes "sends") ∷ (codes "repeats") ∷ (codes "receives") ∷ (codes "empties") ∷ (codes "deletes") ∷ (codes "expiries") ∷ (codes "redrives") ∷ (codes "moves") ∷ (codes "arrivals") ∷ (codes "OverLimit") ∷ (codes "MessageNotInflight") ∷ (codes "ReceiptHandleIsInvalid") ∷ (codes "BadTimeout") ∷ (codes "MissingGroup") ∷ (codes "MissingDeduplication") ∷ (codes "BadDelay") ∷ (codes "TaskRunning") ∷ (codes "NoTask") ∷ (codes "depth_max") ∷ (codes "visible") ∷ (codes "in_flight") ∷ (codes "delayed") ∷ (codes "age_sum") ∷ (codes "age_max") ∷ (codes "age_p50") ∷ (codes "age_p95") ∷ (codes "age_p99") ∷ []) ∷
    ((codes "report") ∷ (codes "q") ∷ (codes "3") ∷ (codes "0") ∷ (codes "3") ∷ (codes "0") ∷ (codes "2") ∷ (codes "0") ∷ (codes "0") ∷ (codes "0") ∷ (codes "0") ∷ (codes "0") ∷ (codes "0") ∷ (codes "0") ∷ (codes "0") ∷ (codes "0") ∷ (codes "0") ∷ (codes "0") ∷ (codes "0") ∷ (codes "0") ∷ (codes "3") ∷ (codes "0") ∷ (codes "1") ∷ (codes "0") ∷ (codes "220") ∷ (codes "110") ∷ (codes "110") ∷ (codes "110") ∷ (codes "110") ∷ []) ∷ [])
unfolding reading_on_literals running_on_literals columns_of
case_0_outage_while_a_batch_is_decided = refl

-- version-3/outage_with_a_chance_of_zero.toml
case_0_outage_with_a_chance_of_zero : shown_upto 3 70 [] (codes "# Services end at 100, 150 and 200. In the outage, from 100 to 199, none fails by chance, but the poison fails. At 200\n# all fail.\nversion = 3\nhorizon = 1000\n[[queue]]\nname = \"q\"\n[[actor]]\nname = \"c\"\nkind = \"consumer\"\nqueue = \"q\"\nstart_ms = 50\nbatch = 3\nwait_s = 20\nservice_min_ms = 50\nservice_max_ms = 50\nfail_permille = 1000\nfails_on = \"bad\"\nfails_from_ms = 100\nfails_to_ms = 200\nfails_permille = 0\n[[actor]]\nname = \"s\"\nkind = \"script\"\nqueue = \"q\"\ncalls = \"\"\"\nat,call,body,group,id,delay,receipt,max,wait,timeout,task\n0,send,a,,,,,,,,\n1,send,bad,,,,,,,,\n2,send,c,,,,,,,,\n\"\"\"\n")
    ≡ ran (((codes "at") ∷ (codes "queue") ∷ (codes "agent") ∷ (codes "call") ∷ (codes "answer") ∷ (codes "message") ∷ (codes "receipt") ∷ (codes "detail") ∷ []) ∷
    ((codes "0") ∷ (codes "q") ∷ (codes "s") ∷ (codes "send") ∷ (codes "new") ∷ (codes "m-0-0") ∷ [] ∷ digest (codes "a") ∷ []) ∷
    ((codes "1") ∷ (codes "q") ∷ (codes "s") ∷ (codes "send") ∷ (codes "new") ∷ (codes "m-0-1") ∷ [] ∷ digest (codes "bad") ∷ []) ∷
    ((codes "2") ∷ (codes "q") ∷ (codes "s") ∷ (codes "send") ∷ (codes "new") ∷ (codes "m-0-2") ∷ [] ∷ digest (codes "c") ∷ []) ∷
    ((codes "50") ∷ (codes "q") ∷ (codes "c") ∷ (codes "receive") ∷ (codes "ok") ∷ (codes "m-0-0") ∷ (codes "r-0-0-1") ∷ (codes "o-0-0") ∷ []) ∷
    ((codes "50") ∷ (codes "q") ∷ (codes "c") ∷ (codes "receive") ∷ (codes "ok") ∷ (codes "m-0-1") ∷ (codes "r-0-1-1") ∷ (codes "o-0-1") ∷ []) ∷
    ((codes "50") ∷ (codes "q") ∷ (codes "c") ∷ (codes "receive") ∷ (codes "ok") ∷ (codes "m-0-2") ∷ (codes "r-0-2-1") ∷ (codes "o-0-2") ∷ []) ∷
    ((codes "100") ∷ (codes "q") ∷ (codes "c") ∷ (codes "delete") ∷ (codes "deleted") ∷ (codes "m-0-0") ∷ (codes "r-0-0-1") ∷ (codes "100") ∷ []) ∷
    ((codes "150") ∷ (codes "q") ∷ (codes "c") ∷ (codes "fail") ∷ (codes "ok") ∷ (codes "m-0-1") ∷ (codes "r-0-1-1") ∷ [] ∷ []) ∷
    ((codes "200") ∷ (codes "q") ∷ (codes "c") ∷ (codes "fail") ∷ (codes "ok") ∷ (codes "m-0-2") ∷ (codes "r-0-2-1") ∷ [] ∷ []) ∷
    ((codes "201") ∷ (codes "q") ∷ (codes "c") ∷ (codes "receive") ∷ (codes "wait") ∷ [] ∷ [] ∷ [] ∷ []) ∷
    ((codes "final") ∷ (codes "queue") ∷ (codes "message") ∷ (codes "origin") ∷ (codes "place") ∷ (codes "due") ∷ (codes "enqueued") ∷ (codes "receives") ∷ (codes "group") ∷ (codes "md5") ∷ []) ∷
    ((codes "final") ∷ (codes "q") ∷ (codes "m-0-1") ∷ (codes "o-0-1") ∷ (codes "inflight") ∷ (codes "30050") ∷ (codes "1") ∷ (codes "1") ∷ [] ∷ digest (codes "bad") ∷ []) ∷
    ((codes "final") ∷ (codes "q") ∷ (codes "m-0-2") ∷ (codes "o-0-2") ∷ (codes "inflight") ∷ (codes "30050") ∷ (codes "2") ∷ (codes "1") ∷ [] ∷ digest (codes "c") ∷ []) ∷
    ((codes "transfer") ∷ (codes "from") ∷ (codes "to") ∷ (codes "kind") ∷ (codes "due") ∷ (codes "number") ∷ (codes "message") ∷ (codes "origin") ∷ (codes "md5") ∷ []) ∷
    ((codes "task") ∷ (codes "name") ∷ (codes "status") ∷ (codes "moved") ∷ []) ∷
    ((codes "report") ∷ (codes "queue") ∷ (codes "sends") ∷ (codes "repeats") ∷ (codes "receives") ∷ (codes "empties") ∷ (codes "deletes") ∷ (codes "expiries") ∷ (codes "redrives") ∷ (codes "moves") ∷ (codes "arrivals") ∷ (codes "OverLimit") ∷ (codes "MessageNotInflight") ∷ (codes "ReceiptHandleIsInvalid") ∷ (codes "BadTimeout") ∷ (codes "MissingGroup") ∷ (codes "MissingDeduplication") ∷ (codes "BadDelay") ∷ (codes "TaskRunning") ∷ (codes "NoTask") ∷ (codes "depth_max") ∷ (codes "visible") ∷ (codes "in_flight") ∷ (codes "delayed") ∷ (codes "age_sum") ∷ (codes "age_max") ∷ (codes "age_p50") ∷ (codes "age_p95") ∷ (codes "age_p99") ∷ []) ∷
    ((codes "report") ∷ (codes "q") ∷ (codes "3") ∷ (codes "0") ∷ (codes "3") ∷ (codes "0") ∷ (codes "1") ∷ (codes "0") ∷ (codes "0") ∷ (codes "0") ∷ (codes "0") ∷ (codes "0") ∷ (codes "0") ∷ (codes "0") ∷ (codes "0") ∷ (codes "0") ∷ (codes "0") ∷ (codes "0") ∷ (codes "0") ∷ (codes "0") ∷ (codes "3") ∷ (codes "0") ∷ (codes "2") ∷ (codes "0") ∷ (codes "100") ∷ (codes "100") ∷ (codes "100") ∷ (codes "100") ∷ (codes "100") ∷ []) ∷ [])
unfolding reading_on_literals running_on_literals columns_of
case_0_outage_with_a_chance_of_zero = refl

-- version-3/outage_with_dead_letters.toml
case_0_outage_with_dead_letters : shown_upto 3 81 [] (codes "# During the outage, from 0 to 3000, m-0-0 fails twice and leaves for the dead-letter queue at 2210. m-0-1 of 2500 fails\n# once, at 2600; its second service ends at 3700, after the outage.\nversion = 3\nhorizon = 4000\n[[queue]]\nname = \"q\"\ndead_letter = \"d\"\nmax_receives = 2\nlatency_min_ms = 20\nlatency_max_ms = 20\n[[queue]]\nname = \"d\"\n[[actor]]\nname = \"c\"\nkind = \"consumer\"\nqueue = \"q\"\nstart_ms = 10\nwait_s = 20\nservice_min_ms = 100\nservice_max_ms = 100\nfails_from_ms = 0\nfails_to_ms = 3000\nbackoff_s = [1]\n[[actor]]\nname = \"s\"\nkind = \"script\"\nqueue = \"q\"\ncalls = \"\"\"\nat,call,body,group,id,delay,receipt,max,wait,timeout,task\n0,send,a,,,,,,,,\n2500,send,b,,,,,,,,\n\"\"\"\n")
    ≡ ran (((codes "at") ∷ (codes "queue") ∷ (codes "agent") ∷ (codes "call") ∷ (codes "answer") ∷ (codes "message") ∷ (codes "receipt") ∷ (codes "detail") ∷ []) ∷
    ((codes "0") ∷ (codes "q") ∷ (codes "s") ∷ (codes "send") ∷ (codes "new") ∷ (codes "m-0-0") ∷ [] ∷ digest (codes "a") ∷ []) ∷
    ((codes "10") ∷ (codes "q") ∷ (codes "c") ∷ (codes "receive") ∷ (codes "ok") ∷ (codes "m-0-0") ∷ (codes "r-0-0-1") ∷ (codes "o-0-0") ∷ []) ∷
    ((codes "110") ∷ (codes "q") ∷ (codes "c") ∷ (codes "fail") ∷ (codes "ok") ∷ (codes "m-0-0") ∷ (codes "r-0-0-1") ∷ [] ∷ []) ∷
    ((codes "110") ∷ (codes "q") ∷ (codes "c") ∷ (codes "change") ∷ (codes "ok") ∷ (codes "m-0-0") ∷ (codes "r-0-0-1") ∷ (codes "1") ∷ []) ∷
    ((codes "111") ∷ (codes "q") ∷ (codes "c") ∷ (codes "receive") ∷ (codes "wait") ∷ [] ∷ [] ∷ [] ∷ []) ∷
    ((codes "1110") ∷ (codes "q") ∷ (codes "q") ∷ (codes "release") ∷ (codes "visible") ∷ (codes "m-0-0") ∷ [] ∷ [] ∷ []) ∷
    ((codes "1110") ∷ (codes "q") ∷ (codes "c") ∷ (codes "receive") ∷ (codes "ok") ∷ (codes "m-0-0") ∷ (codes "r-0-0-2") ∷ (codes "o-0-0") ∷ []) ∷
    ((codes "1210") ∷ (codes "q") ∷ (codes "c") ∷ (codes "fail") ∷ (codes "ok") ∷ (codes "m-0-0") ∷ (codes "r-0-0-2") ∷ [] ∷ []) ∷
    ((codes "1210") ∷ (codes "q") ∷ (codes "c") ∷ (codes "change") ∷ (codes "ok") ∷ (codes "m-0-0") ∷ (codes "r-0-0-2") ∷ (codes "1") ∷ []) ∷
    ((codes "1211") ∷ (codes "q") ∷ (codes "c") ∷ (codes "receive") ∷ (codes "wait") ∷ [] ∷ [] ∷ [] ∷ []) ∷
    ((codes "2210") ∷ (codes "q") ∷ (codes "q") ∷ (codes "redrive") ∷ (codes "out") ∷ (codes "m-0-0") ∷ [] ∷ (codes "d") ∷ []) ∷
    ((codes "2230") ∷ (codes "d") ∷ (codes "q") ∷ (codes "arrive") ∷ (codes "new") ∷ (codes "m-1-0") ∷ [] ∷ (codes "o-0-0") ∷ []) ∷
    ((codes "2500") ∷ (codes "q") ∷ (codes "s") ∷ (codes "send") ∷ (codes "new") ∷ (codes "m-0-1") ∷ [] ∷ digest (codes "b") ∷ []) ∷
    ((codes "2500") ∷ (codes "q") ∷ (codes "c") ∷ (codes "receive") ∷ (codes "ok") ∷ (codes "m-0-1") ∷ (codes "r-0-1-1") ∷ (codes "o-0-1") ∷ []) ∷
    ((codes "2600") ∷ (codes "q") ∷ (codes "c") ∷ (codes "fail") ∷ (codes "ok") ∷ (codes "m-0-1") ∷ (codes "r-0-1-1") ∷ [] ∷ []) ∷
    ((codes "2600") ∷ (codes "q") ∷ (codes "c") ∷ (codes "change") ∷ (codes "ok") ∷ (codes "m-0-1") ∷ (codes "r-0-1-1") ∷ (codes "1") ∷ []) ∷
    ((codes "2601") ∷ (codes "q") ∷ (codes "c") ∷ (codes "receive") ∷ (codes "wait") ∷ [] ∷ [] ∷ [] ∷ []) ∷
    ((codes "3600") ∷ (codes "q") ∷ (codes "q") ∷ (codes "release") ∷ (codes "visible") ∷ (codes "m-0-1") ∷ [] ∷ [] ∷ []) ∷
    ((codes "3600") ∷ (codes "q") ∷ (codes "c") ∷ (codes "receive") ∷ (codes "ok") ∷ (codes "m-0-1") ∷ (codes "r-0-1-2") ∷ (codes "o-0-1") ∷ []) ∷
    ((codes "3700") ∷ (codes "q") ∷ (codes "c") ∷ (codes "delete") ∷ (codes "deleted") ∷ (codes "m-0-1") ∷ (codes "r-0-1-2") ∷ (codes "1200") ∷ []) ∷
    ((codes "3701") ∷ (codes "q") ∷ (codes "c") ∷ (codes "receive") ∷ (codes "wait") ∷ [] ∷ [] ∷ [] ∷ []) ∷
    ((codes "final") ∷ (codes "queue") ∷ (codes "message") ∷ (codes "origin") ∷ (codes "place") ∷ (codes "due") ∷ (codes "enqueued") ∷ (codes "receives") ∷ (codes "group") ∷ (codes "md5") ∷ []) ∷
    ((codes "final") ∷ (codes "d") ∷ (codes "m-1-0") ∷ (codes "o-0-0") ∷ (codes "visible") ∷ [] ∷ (codes "0") ∷ (codes "0") ∷ [] ∷ digest (codes "a") ∷ []) ∷
    ((codes "transfer") ∷ (codes "from") ∷ (codes "to") ∷ (codes "kind") ∷ (codes "due") ∷ (codes "number") ∷ (codes "message") ∷ (codes "origin") ∷ (codes "md5") ∷ []) ∷
    ((codes "task") ∷ (codes "name") ∷ (codes "status") ∷ (codes "moved") ∷ []) ∷
    ((codes "report") ∷ (codes "queue") ∷ (codes "sends") ∷ (codes "repeats") ∷ (codes "receives") ∷ (codes "empties") ∷ (codes "deletes") ∷ (codes "expiries") ∷ (codes "redrives") ∷ (codes "moves") ∷ (codes "arrivals") ∷ (codes "OverLimit") ∷ (codes "MessageNotInflight") ∷ (codes "ReceiptHandleIsInvalid") ∷ (codes "BadTimeout") ∷ (codes "MissingGroup") ∷ (codes "MissingDeduplication") ∷ (codes "BadDelay") ∷ (codes "TaskRunning") ∷ (codes "NoTask") ∷ (codes "depth_max") ∷ (codes "visible") ∷ (codes "in_flight") ∷ (codes "delayed") ∷ (codes "age_sum") ∷ (codes "age_max") ∷ (codes "age_p50") ∷ (codes "age_p95") ∷ (codes "age_p99") ∷ []) ∷
    ((codes "report") ∷ (codes "q") ∷ (codes "2") ∷ (codes "0") ∷ (codes "4") ∷ (codes "0") ∷ (codes "1") ∷ (codes "0") ∷ (codes "1") ∷ (codes "0") ∷ (codes "0") ∷ (codes "0") ∷ (codes "0") ∷ (codes "0") ∷ (codes "0") ∷ (codes "0") ∷ (codes "0") ∷ (codes "0") ∷ (codes "0") ∷ (codes "0") ∷ (codes "1") ∷ (codes "0") ∷ (codes "0") ∷ (codes "0") ∷ (codes "1200") ∷ (codes "1200") ∷ (codes "1200") ∷ (codes "1200") ∷ (codes "1200") ∷ []) ∷
    ((codes "report") ∷ (codes "d") ∷ (codes "0") ∷ (codes "0") ∷ (codes "0") ∷ (codes "0") ∷ (codes "0") ∷ (codes "0") ∷ (codes "0") ∷ (codes "0") ∷ (codes "1") ∷ (codes "0") ∷ (codes "0") ∷ (codes "0") ∷ (codes "0") ∷ (codes "0") ∷ (codes "0") ∷ (codes "0") ∷ (codes "0") ∷ (codes "0") ∷ (codes "1") ∷ (codes "1") ∷ (codes "0") ∷ (codes "0") ∷ (codes "0") ∷ [] ∷ [] ∷ [] ∷ [] ∷ []) ∷ [])
unfolding reading_on_literals running_on_literals columns_of
case_0_outage_with_dead_letters = refl

-- version-3/outages_decided_at_the_begin.toml
case_0_outages_decided_at_the_begin : shown_upto 3 73 [] (codes "# With fail_service_ms the outage is that in which a service begins. The first begins at 10 and fails after 20 ms. Those\n# that begin at 30 and at 80, in the second outage, end well. The last begins at 130, in none, and fails.\nversion = 3\nhorizon = 1000\n[[queue]]\nname = \"q\"\n[[actor]]\nname = \"c\"\nkind = \"consumer\"\nqueue = \"q\"\nstart_ms = 10\nbatch = 4\nwait_s = 20\nservice_min_ms = 50\nservice_max_ms = 50\nfail_service_ms = 20\nfail_permille = 1000\nfails_between_ms = [[0, 30], [30, 130]]\nfails_permille = [1000, 0]\n[[actor]]\nname = \"s\"\nkind = \"script\"\nqueue = \"q\"\ncalls = \"\"\"\nat,call,body,group,id,delay,receipt,max,wait,timeout,task\n0,send,a,,,,,,,,\n1,send,b,,,,,,,,\n2,send,c,,,,,,,,\n3,send,a,,,,,,,,\n\"\"\"\n")
    ≡ ran (((codes "at") ∷ (codes "queue") ∷ (codes "agent") ∷ (codes "call") ∷ (codes "answer") ∷ (codes "message") ∷ (codes "receipt") ∷ (codes "detail") ∷ []) ∷
    ((codes "0") ∷ (codes "q") ∷ (codes "s") ∷ (codes "send") ∷ (codes "new") ∷ (codes "m-0-0") ∷ [] ∷ digest (codes "a") ∷ []) ∷
    ((codes "1") ∷ (codes "q") ∷ (codes "s") ∷ (codes "send") ∷ (codes "new") ∷ (codes "m-0-1") ∷ [] ∷ digest (codes "b") ∷ []) ∷
    ((codes "2") ∷ (codes "q") ∷ (codes "s") ∷ (codes "send") ∷ (codes "new") ∷ (codes "m-0-2") ∷ [] ∷ digest (codes "c") ∷ []) ∷
    ((codes "3") ∷ (codes "q") ∷ (codes "s") ∷ (codes "send") ∷ (codes "new") ∷ (codes "m-0-3") ∷ [] ∷ digest (codes "a") ∷ []) ∷
    ((codes "10") ∷ (codes "q") ∷ (codes "c") ∷ (codes "receive") ∷ (codes "ok") ∷ (codes "m-0-0") ∷ (codes "r-0-0-1") ∷ (codes "o-0-0") ∷ []) ∷
    ((codes "10") ∷ (codes "q") ∷ (codes "c") ∷ (codes "receive") ∷ (codes "ok") ∷ (codes "m-0-1") ∷ (codes "r-0-1-1") ∷ (codes "o-0-1") ∷ []) ∷
    ((codes "10") ∷ (codes "q") ∷ (codes "c") ∷ (codes "receive") ∷ (codes "ok") ∷ (codes "m-0-2") ∷ (codes "r-0-2-1") ∷ (codes "o-0-2") ∷ []) ∷
    ((codes "10") ∷ (codes "q") ∷ (codes "c") ∷ (codes "receive") ∷ (codes "ok") ∷ (codes "m-0-3") ∷ (codes "r-0-3-1") ∷ (codes "o-0-3") ∷ []) ∷
    ((codes "30") ∷ (codes "q") ∷ (codes "c") ∷ (codes "fail") ∷ (codes "ok") ∷ (codes "m-0-0") ∷ (codes "r-0-0-1") ∷ [] ∷ []) ∷
    ((codes "80") ∷ (codes "q") ∷ (codes "c") ∷ (codes "delete") ∷ (codes "deleted") ∷ (codes "m-0-1") ∷ (codes "r-0-1-1") ∷ (codes "79") ∷ []) ∷
    ((codes "130") ∷ (codes "q") ∷ (codes "c") ∷ (codes "delete") ∷ (codes "deleted") ∷ (codes "m-0-2") ∷ (codes "r-0-2-1") ∷ (codes "128") ∷ []) ∷
    ((codes "150") ∷ (codes "q") ∷ (codes "c") ∷ (codes "fail") ∷ (codes "ok") ∷ (codes "m-0-3") ∷ (codes "r-0-3-1") ∷ [] ∷ []) ∷
    ((codes "151") ∷ (codes "q") ∷ (codes "c") ∷ (codes "receive") ∷ (codes "wait") ∷ [] ∷ [] ∷ [] ∷ []) ∷
    ((codes "final") ∷ (codes "queue") ∷ (codes "message") ∷ (codes "origin") ∷ (codes "place") ∷ (codes "due") ∷ (codes "enqueued") ∷ (codes "receives") ∷ (codes "group") ∷ (codes "md5") ∷ []) ∷
    ((codes "final") ∷ (codes "q") ∷ (codes "m-0-0") ∷ (codes "o-0-0") ∷ (codes "inflight") ∷ (codes "30010") ∷ (codes "0") ∷ (codes "1") ∷ [] ∷ digest (codes "a") ∷ []) ∷
    ((codes "final") ∷ (codes "q") ∷ (codes "m-0-3") ∷ (codes "o-0-3") ∷ (codes "inflight") ∷ (codes "30010") ∷ (codes "3") ∷ (codes "1") ∷ [] ∷ digest (codes "a") ∷ []) ∷
    ((codes "transfer") ∷ (codes "from") ∷ (codes "to") ∷ (codes "kind") ∷ (codes "due") ∷ (codes "number") ∷ (codes "message") ∷ (codes "origin") ∷ (codes "md5") ∷ []) ∷
    ((codes "task") ∷ (codes "name") ∷ (codes "status") ∷ (codes "moved") ∷ []) ∷
    ((codes "report") ∷ (codes "queue") ∷ (codes "sends") ∷ (codes "repeats") ∷ (codes "receives") ∷ (codes "empties") ∷ (codes "deletes") ∷ (codes "expiries") ∷ (codes "redrives") ∷ (codes "moves") ∷ (codes "arrivals") ∷ (codes "OverLimit") ∷ (codes "MessageNotInflight") ∷ (codes "ReceiptHandleIsInvalid") ∷ (codes "BadTimeout") ∷ (codes "MissingGroup") ∷ (codes "MissingDeduplication") ∷ (codes "BadDelay") ∷ (codes "TaskRunning") ∷ (codes "NoTask") ∷ (codes "depth_max") ∷ (codes "visible") ∷ (codes "in_flight") ∷ (codes "delayed") ∷ (codes "age_sum") ∷ (codes "age_max") ∷ (codes "age_p50") ∷ (codes "age_p95") ∷ (codes "age_p99") ∷ []) ∷
    ((codes "report") ∷ (codes "q") ∷ (codes "4") ∷ (codes "0") ∷ (codes "4") ∷ (codes "0") ∷ (codes "2") ∷ (codes "0") ∷ (codes "0") ∷ (codes "0") ∷ (codes "0") ∷ (codes "0") ∷ (codes "0") ∷ (codes "0") ∷ (codes "0") ∷ (codes "0") ∷ (codes "0") ∷ (codes "0") ∷ (codes "0") ∷ (codes "0") ∷ (codes "4") ∷ (codes "0") ∷ (codes "2") ∷ (codes "0") ∷ (codes "207") ∷ (codes "128") ∷ (codes "79") ∷ (codes "128") ∷ (codes "128") ∷ []) ∷ [])
unfolding reading_on_literals running_on_literals columns_of
case_0_outages_decided_at_the_begin = refl

-- version-3/outages_of_different_chances.toml
case_0_outages_of_different_chances : shown_upto 3 79 [] (codes "# Services end at 100, 150, 200, 250, 300 and 350. In the first outage none fails, in the second each, and in the fourth\n# none. The third is empty, so no service has its chance. At 250 and 350, out of all of them, each fails.\nversion = 3\nhorizon = 1000\n[[queue]]\nname = \"q\"\n[[actor]]\nname = \"c\"\nkind = \"consumer\"\nqueue = \"q\"\nstart_ms = 50\nbatch = 6\nwait_s = 20\nservice_min_ms = 50\nservice_max_ms = 50\nfail_permille = 1000\nfails_between_ms = [[100, 200], [200, 250], [300, 300], [300, 350]]\nfails_permille = [0, 1000, 1000, 0]\n[[actor]]\nname = \"s\"\nkind = \"script\"\nqueue = \"q\"\ncalls = \"\"\"\nat,call,body,group,id,delay,receipt,max,wait,timeout,task\n0,send,a,,,,,,,,\n1,send,b,,,,,,,,\n2,send,c,,,,,,,,\n3,send,a,,,,,,,,\n4,send,b,,,,,,,,\n5,send,c,,,,,,,,\n\"\"\"\n")
    ≡ ran (((codes "at") ∷ (codes "queue") ∷ (codes "agent") ∷ (codes "call") ∷ (codes "answer") ∷ (codes "message") ∷ (codes "receipt") ∷ (codes "detail") ∷ []) ∷
    ((codes "0") ∷ (codes "q") ∷ (codes "s") ∷ (codes "send") ∷ (codes "new") ∷ (codes "m-0-0") ∷ [] ∷ digest (codes "a") ∷ []) ∷
    ((codes "1") ∷ (codes "q") ∷ (codes "s") ∷ (codes "send") ∷ (codes "new") ∷ (codes "m-0-1") ∷ [] ∷ digest (codes "b") ∷ []) ∷
    ((codes "2") ∷ (codes "q") ∷ (codes "s") ∷ (codes "send") ∷ (codes "new") ∷ (codes "m-0-2") ∷ [] ∷ digest (codes "c") ∷ []) ∷
    ((codes "3") ∷ (codes "q") ∷ (codes "s") ∷ (codes "send") ∷ (codes "new") ∷ (codes "m-0-3") ∷ [] ∷ digest (codes "a") ∷ []) ∷
    ((codes "4") ∷ (codes "q") ∷ (codes "s") ∷ (codes "send") ∷ (codes "new") ∷ (codes "m-0-4") ∷ [] ∷ digest (codes "b") ∷ []) ∷
    ((codes "5") ∷ (codes "q") ∷ (codes "s") ∷ (codes "send") ∷ (codes "new") ∷ (codes "m-0-5") ∷ [] ∷ digest (codes "c") ∷ []) ∷
    ((codes "50") ∷ (codes "q") ∷ (codes "c") ∷ (codes "receive") ∷ (codes "ok") ∷ (codes "m-0-0") ∷ (codes "r-0-0-1") ∷ (codes "o-0-0") ∷ []) ∷
    ((codes "50") ∷ (codes "q") ∷ (codes "c") ∷ (codes "receive") ∷ (codes "ok") ∷ (codes "m-0-1") ∷ (codes "r-0-1-1") ∷ (codes "o-0-1") ∷ []) ∷
    ((codes "50") ∷ (codes "q") ∷ (codes "c") ∷ (codes "receive") ∷ (codes "ok") ∷ (codes "m-0-2") ∷ (codes "r-0-2-1") ∷ (codes "o-0-2") ∷ []) ∷
    ((codes "50") ∷ (codes "q") ∷ (codes "c") ∷ (codes "receive") ∷ (codes "ok") ∷ (codes "m-0-3") ∷ (codes "r-0-3-1") ∷ (codes "o-0-3") ∷ []) ∷
    ((codes "50") ∷ (codes "q") ∷ (codes "c") ∷ (codes "receive") ∷ (codes "ok") ∷ (codes "m-0-4") ∷ (codes "r-0-4-1") ∷ (codes "o-0-4") ∷ []) ∷
    ((codes "50") ∷ (codes "q") ∷ (codes "c") ∷ (codes "receive") ∷ (codes "ok") ∷ (codes "m-0-5") ∷ (codes "r-0-5-1") ∷ (codes "o-0-5") ∷ []) ∷
    ((codes "100") ∷ (codes "q") ∷ (codes "c") ∷ (codes "delete") ∷ (codes "deleted") ∷ (codes "m-0-0") ∷ (codes "r-0-0-1") ∷ (codes "100") ∷ []) ∷
    ((codes "150") ∷ (codes "q") ∷ (codes "c") ∷ (codes "delete") ∷ (codes "deleted") ∷ (codes "m-0-1") ∷ (codes "r-0-1-1") ∷ (codes "149") ∷ []) ∷
    ((codes "200") ∷ (codes "q") ∷ (codes "c") ∷ (codes "fail") ∷ (codes "ok") ∷ (codes "m-0-2") ∷ (codes "r-0-2-1") ∷ [] ∷ []) ∷
    ((codes "250") ∷ (codes "q") ∷ (codes "c") ∷ (codes "fail") ∷ (codes "ok") ∷ (codes "m-0-3") ∷ (codes "r-0-3-1") ∷ [] ∷ []) ∷
    ((codes "300") ∷ (codes "q") ∷ (codes "c") ∷ (codes "delete") ∷ (codes "deleted") ∷ (codes "m-0-4") ∷ (codes "r-0-4-1") ∷ (codes "296") ∷ []) ∷
    ((codes "350") ∷ (codes "q") ∷ (codes "c") ∷ (codes "fail") ∷ (codes "ok") ∷ (codes "m-0-5") ∷ (codes "r-0-5-1") ∷ [] ∷ []) ∷
    ((codes "351") ∷ (codes "q") ∷ (codes "c") ∷ (codes "receive") ∷ (codes "wait") ∷ [] ∷ [] ∷ [] ∷ []) ∷
    ((codes "final") ∷ (codes "queue") ∷ (codes "message") ∷ (codes "origin") ∷ (codes "place") ∷ (codes "due") ∷ (codes "enqueued") ∷ (codes "receives") ∷ (codes "group") ∷ (codes "md5") ∷ []) ∷
    ((codes "final") ∷ (codes "q") ∷ (codes "m-0-2") ∷ (codes "o-0-2") ∷ (codes "inflight") ∷ (codes "30050") ∷ (codes "2") ∷ (codes "1") ∷ [] ∷ digest (codes "c") ∷ []) ∷
    ((codes "final") ∷ (codes "q") ∷ (codes "m-0-3") ∷ (codes "o-0-3") ∷ (codes "inflight") ∷ (codes "30050") ∷ (codes "3") ∷ (codes "1") ∷ [] ∷ digest (codes "a") ∷ []) ∷
    ((codes "final") ∷ (codes "q") ∷ (codes "m-0-5") ∷ (codes "o-0-5") ∷ (codes "inflight") ∷ (codes "30050") ∷ (codes "5") ∷ (codes "1") ∷ [] ∷ digest (codes "c") ∷ []) ∷
    ((codes "transfer") ∷ (codes "from") ∷ (codes "to") ∷ (codes "kind") ∷ (codes "due") ∷ (codes "number") ∷ (codes "message") ∷ (codes "origin") ∷ (codes "md5") ∷ []) ∷
    ((codes "task") ∷ (codes "name") ∷ (codes "status") ∷ (codes "moved") ∷ []) ∷
    ((codes "report") ∷ (codes "queue") ∷ (codes "sends") ∷ (codes "repeats") ∷ (codes "receives") ∷ (codes "empties") ∷ (codes "deletes") ∷ (codes "expiries") ∷ (codes "redrives") ∷ (codes "moves") ∷ (codes "arrivals") ∷ (codes "OverLimit") ∷ (codes "MessageNotInflight") ∷ (codes "ReceiptHandleIsInvalid") ∷ (codes "BadTimeout") ∷ (codes "MissingGroup") ∷ (codes "MissingDeduplication") ∷ (codes "BadDelay") ∷ (codes "TaskRunning") ∷ (codes "NoTask") ∷ (codes "depth_max") ∷ (codes "visible") ∷ (codes "in_flight") ∷ (codes "delayed") ∷ (codes "age_sum") ∷ (codes "age_max") ∷ (codes "age_p50") ∷ (codes "age_p95") ∷ (codes "age_p99") ∷ []) ∷
    ((codes "report") ∷ (codes "q") ∷ (codes "6") ∷ (codes "0") ∷ (codes "6") ∷ (codes "0") ∷ (codes "3") ∷ (codes "0") ∷ (codes "0") ∷ (codes "0") ∷ (codes "0") ∷ (codes "0") ∷ (codes "0") ∷ (codes "0") ∷ (codes "0") ∷ (codes "0") ∷ (codes "0") ∷ (codes "0") ∷ (codes "0") ∷ (codes "0") ∷ (codes "6") ∷ (codes "0") ∷ (codes "3") ∷ (codes "0") ∷ (codes "545") ∷ (codes "296") ∷ (codes "149") ∷ (codes "296") ∷ (codes "296") ∷ []) ∷ [])
unfolding reading_on_literals running_on_literals columns_of
case_0_outages_of_different_chances = refl

-- version-3/outages_one_after_another.toml
case_0_outages_one_after_another : shown_upto 3 79 [] (codes "# Without fails_permille each service that ends in an outage fails. At 200 the first outage is over and the second\n# begins. The third is empty.\nversion = 3\nhorizon = 1000\n[[queue]]\nname = \"q\"\n[[actor]]\nname = \"c\"\nkind = \"consumer\"\nqueue = \"q\"\nstart_ms = 50\nbatch = 6\nwait_s = 20\nservice_min_ms = 50\nservice_max_ms = 50\nfails_between_ms = [[150, 200], [200, 250], [300, 300]]\n[[actor]]\nname = \"s\"\nkind = \"script\"\nqueue = \"q\"\ncalls = \"\"\"\nat,call,body,group,id,delay,receipt,max,wait,timeout,task\n0,send,a,,,,,,,,\n1,send,b,,,,,,,,\n2,send,c,,,,,,,,\n3,send,a,,,,,,,,\n4,send,b,,,,,,,,\n5,send,c,,,,,,,,\n\"\"\"\n")
    ≡ ran (((codes "at") ∷ (codes "queue") ∷ (codes "agent") ∷ (codes "call") ∷ (codes "answer") ∷ (codes "message") ∷ (codes "receipt") ∷ (codes "detail") ∷ []) ∷
    ((codes "0") ∷ (codes "q") ∷ (codes "s") ∷ (codes "send") ∷ (codes "new") ∷ (codes "m-0-0") ∷ [] ∷ digest (codes "a") ∷ []) ∷
    ((codes "1") ∷ (codes "q") ∷ (codes "s") ∷ (codes "send") ∷ (codes "new") ∷ (codes "m-0-1") ∷ [] ∷ digest (codes "b") ∷ []) ∷
    ((codes "2") ∷ (codes "q") ∷ (codes "s") ∷ (codes "send") ∷ (codes "new") ∷ (codes "m-0-2") ∷ [] ∷ digest (codes "c") ∷ []) ∷
    ((codes "3") ∷ (codes "q") ∷ (codes "s") ∷ (codes "send") ∷ (codes "new") ∷ (codes "m-0-3") ∷ [] ∷ digest (codes "a") ∷ []) ∷
    ((codes "4") ∷ (codes "q") ∷ (codes "s") ∷ (codes "send") ∷ (codes "new") ∷ (codes "m-0-4") ∷ [] ∷ digest (codes "b") ∷ []) ∷
    ((codes "5") ∷ (codes "q") ∷ (codes "s") ∷ (codes "send") ∷ (codes "new") ∷ (codes "m-0-5") ∷ [] ∷ digest (codes "c") ∷ []) ∷
    ((codes "50") ∷ (codes "q") ∷ (codes "c") ∷ (codes "receive") ∷ (codes "ok") ∷ (codes "m-0-0") ∷ (codes "r-0-0-1") ∷ (codes "o-0-0") ∷ []) ∷
    ((codes "50") ∷ (codes "q") ∷ (codes "c") ∷ (codes "receive") ∷ (codes "ok") ∷ (codes "m-0-1") ∷ (codes "r-0-1-1") ∷ (codes "o-0-1") ∷ []) ∷
    ((codes "50") ∷ (codes "q") ∷ (codes "c") ∷ (codes "receive") ∷ (codes "ok") ∷ (codes "m-0-2") ∷ (codes "r-0-2-1") ∷ (codes "o-0-2") ∷ []) ∷
    ((codes "50") ∷ (codes "q") ∷ (codes "c") ∷ (codes "receive") ∷ (codes "ok") ∷ (codes "m-0-3") ∷ (codes "r-0-3-1") ∷ (codes "o-0-3") ∷ []) ∷
    ((codes "50") ∷ (codes "q") ∷ (codes "c") ∷ (codes "receive") ∷ (codes "ok") ∷ (codes "m-0-4") ∷ (codes "r-0-4-1") ∷ (codes "o-0-4") ∷ []) ∷
    ((codes "50") ∷ (codes "q") ∷ (codes "c") ∷ (codes "receive") ∷ (codes "ok") ∷ (codes "m-0-5") ∷ (codes "r-0-5-1") ∷ (codes "o-0-5") ∷ []) ∷
    ((codes "100") ∷ (codes "q") ∷ (codes "c") ∷ (codes "delete") ∷ (codes "deleted") ∷ (codes "m-0-0") ∷ (codes "r-0-0-1") ∷ (codes "100") ∷ []) ∷
    ((codes "150") ∷ (codes "q") ∷ (codes "c") ∷ (codes "fail") ∷ (codes "ok") ∷ (codes "m-0-1") ∷ (codes "r-0-1-1") ∷ [] ∷ []) ∷
    ((codes "200") ∷ (codes "q") ∷ (codes "c") ∷ (codes "fail") ∷ (codes "ok") ∷ (codes "m-0-2") ∷ (codes "r-0-2-1") ∷ [] ∷ []) ∷
    ((codes "250") ∷ (codes "q") ∷ (codes "c") ∷ (codes "delete") ∷ (codes "deleted") ∷ (codes "m-0-3") ∷ (codes "r-0-3-1") ∷ (codes "247") ∷ []) ∷
    ((codes "300") ∷ (codes "q") ∷ (codes "c") ∷ (codes "delete") ∷ (codes "deleted") ∷ (codes "m-0-4") ∷ (codes "r-0-4-1") ∷ (codes "296") ∷ []) ∷
    ((codes "350") ∷ (codes "q") ∷ (codes "c") ∷ (codes "delete") ∷ (codes "deleted") ∷ (codes "m-0-5") ∷ (codes "r-0-5-1") ∷ (codes "345") ∷ []) ∷
    ((codes "351") ∷ (codes "q") ∷ (codes "c") ∷ (codes "receive") ∷ (codes "wait") ∷ [] ∷ [] ∷ [] ∷ []) ∷
    ((codes "final") ∷ (codes "queue") ∷ (codes "message") ∷ (codes "origin") ∷ (codes "place") ∷ (codes "due") ∷ (codes "enqueued") ∷ (codes "receives") ∷ (codes "group") ∷ (codes "md5") ∷ []) ∷
    ((codes "final") ∷ (codes "q") ∷ (codes "m-0-1") ∷ (codes "o-0-1") ∷ (codes "inflight") ∷ (codes "30050") ∷ (codes "1") ∷ (codes "1") ∷ [] ∷ digest (codes "b") ∷ []) ∷
    ((codes "final") ∷ (codes "q") ∷ (codes "m-0-2") ∷ (codes "o-0-2") ∷ (codes "inflight") ∷ (codes "30050") ∷ (codes "2") ∷ (codes "1") ∷ [] ∷ digest (codes "c") ∷ []) ∷
    ((codes "transfer") ∷ (codes "from") ∷ (codes "to") ∷ (codes "kind") ∷ (codes "due") ∷ (codes "number") ∷ (codes "message") ∷ (codes "origin") ∷ (codes "md5") ∷ []) ∷
    ((codes "task") ∷ (codes "name") ∷ (codes "status") ∷ (codes "moved") ∷ []) ∷
    ((codes "report") ∷ (codes "queue") ∷ (codes "sends") ∷ (codes "repeats") ∷ (codes "receives") ∷ (codes "empties") ∷ (codes "deletes") ∷ (codes "expiries") ∷ (codes "redrives") ∷ (codes "moves") ∷ (codes "arrivals") ∷ (codes "OverLimit") ∷ (codes "MessageNotInflight") ∷ (codes "ReceiptHandleIsInvalid") ∷ (codes "BadTimeout") ∷ (codes "MissingGroup") ∷ (codes "MissingDeduplication") ∷ (codes "BadDelay") ∷ (codes "TaskRunning") ∷ (codes "NoTask") ∷ (codes "depth_max") ∷ (codes "visible") ∷ (codes "in_flight") ∷ (codes "delayed") ∷ (codes "age_sum") ∷ (codes "age_max") ∷ (codes "age_p50") ∷ (codes "age_p95") ∷ (codes "age_p99") ∷ []) ∷
    ((codes "report") ∷ (codes "q") ∷ (codes "6") ∷ (codes "0") ∷ (codes "6") ∷ (codes "0") ∷ (codes "4") ∷ (codes "0") ∷ (codes "0") ∷ (codes "0") ∷ (codes "0") ∷ (codes "0") ∷ (codes "0") ∷ (codes "0") ∷ (codes "0") ∷ (codes "0") ∷ (codes "0") ∷ (codes "0") ∷ (codes "0") ∷ (codes "0") ∷ (codes "6") ∷ (codes "0") ∷ (codes "2") ∷ (codes "0") ∷ (codes "988") ∷ (codes "345") ∷ (codes "247") ∷ (codes "345") ∷ (codes "345") ∷ []) ∷ [])
unfolding reading_on_literals running_on_literals columns_of
case_0_outages_one_after_another = refl

-- version-3/outages_that_overlap.toml
case_0_outages_that_overlap : shown_upto 3 79 [] (codes "# Services end at 100, 150, 200, 250, 300 and 350. A moment in several outages has the chance of the first of them in the\n# list: at 150 and 200 that of the first, at 100 and 250 that of the second, and at 300 and 350 that of the third.\nversion = 3\nhorizon = 1000\n[[queue]]\nname = \"q\"\n[[actor]]\nname = \"c\"\nkind = \"consumer\"\nqueue = \"q\"\nstart_ms = 50\nbatch = 6\nwait_s = 20\nservice_min_ms = 50\nservice_max_ms = 50\nfail_permille = 1000\nfails_between_ms = [[150, 250], [100, 300], [200, 400]]\nfails_permille = [0, 1000, 0]\n[[actor]]\nname = \"s\"\nkind = \"script\"\nqueue = \"q\"\ncalls = \"\"\"\nat,call,body,group,id,delay,receipt,max,wait,timeout,task\n0,send,a,,,,,,,,\n1,send,b,,,,,,,,\n2,send,c,,,,,,,,\n3,send,a,,,,,,,,\n4,send,b,,,,,,,,\n5,send,c,,,,,,,,\n\"\"\"\n")
    ≡ ran (((codes "at") ∷ (codes "queue") ∷ (codes "agent") ∷ (codes "call") ∷ (codes "answer") ∷ (codes "message") ∷ (codes "receipt") ∷ (codes "detail") ∷ []) ∷
    ((codes "0") ∷ (codes "q") ∷ (codes "s") ∷ (codes "send") ∷ (codes "new") ∷ (codes "m-0-0") ∷ [] ∷ digest (codes "a") ∷ []) ∷
    ((codes "1") ∷ (codes "q") ∷ (codes "s") ∷ (codes "send") ∷ (codes "new") ∷ (codes "m-0-1") ∷ [] ∷ digest (codes "b") ∷ []) ∷
    ((codes "2") ∷ (codes "q") ∷ (codes "s") ∷ (codes "send") ∷ (codes "new") ∷ (codes "m-0-2") ∷ [] ∷ digest (codes "c") ∷ []) ∷
    ((codes "3") ∷ (codes "q") ∷ (codes "s") ∷ (codes "send") ∷ (codes "new") ∷ (codes "m-0-3") ∷ [] ∷ digest (codes "a") ∷ []) ∷
    ((codes "4") ∷ (codes "q") ∷ (codes "s") ∷ (codes "send") ∷ (codes "new") ∷ (codes "m-0-4") ∷ [] ∷ digest (codes "b") ∷ []) ∷
    ((codes "5") ∷ (codes "q") ∷ (codes "s") ∷ (codes "send") ∷ (codes "new") ∷ (codes "m-0-5") ∷ [] ∷ digest (codes "c") ∷ []) ∷
    ((codes "50") ∷ (codes "q") ∷ (codes "c") ∷ (codes "receive") ∷ (codes "ok") ∷ (codes "m-0-0") ∷ (codes "r-0-0-1") ∷ (codes "o-0-0") ∷ []) ∷
    ((codes "50") ∷ (codes "q") ∷ (codes "c") ∷ (codes "receive") ∷ (codes "ok") ∷ (codes "m-0-1") ∷ (codes "r-0-1-1") ∷ (codes "o-0-1") ∷ []) ∷
    ((codes "50") ∷ (codes "q") ∷ (codes "c") ∷ (codes "receive") ∷ (codes "ok") ∷ (codes "m-0-2") ∷ (codes "r-0-2-1") ∷ (codes "o-0-2") ∷ []) ∷
    ((codes "50") ∷ (codes "q") ∷ (codes "c") ∷ (codes "receive") ∷ (codes "ok") ∷ (codes "m-0-3") ∷ (codes "r-0-3-1") ∷ (codes "o-0-3") ∷ []) ∷
    ((codes "50") ∷ (codes "q") ∷ (codes "c") ∷ (codes "receive") ∷ (codes "ok") ∷ (codes "m-0-4") ∷ (codes "r-0-4-1") ∷ (codes "o-0-4") ∷ []) ∷
    ((codes "50") ∷ (codes "q") ∷ (codes "c") ∷ (codes "receive") ∷ (codes "ok") ∷ (codes "m-0-5") ∷ (codes "r-0-5-1") ∷ (codes "o-0-5") ∷ []) ∷
    ((codes "100") ∷ (codes "q") ∷ (codes "c") ∷ (codes "fail") ∷ (codes "ok") ∷ (codes "m-0-0") ∷ (codes "r-0-0-1") ∷ [] ∷ []) ∷
    ((codes "150") ∷ (codes "q") ∷ (codes "c") ∷ (codes "delete") ∷ (codes "deleted") ∷ (codes "m-0-1") ∷ (codes "r-0-1-1") ∷ (codes "149") ∷ []) ∷
    ((codes "200") ∷ (codes "q") ∷ (codes "c") ∷ (codes "delete") ∷ (codes "deleted") ∷ (codes "m-0-2") ∷ (codes "r-0-2-1") ∷ (codes "198") ∷ []) ∷
    ((codes "250") ∷ (codes "q") ∷ (codes "c") ∷ (codes "fail") ∷ (codes "ok") ∷ (codes "m-0-3") ∷ (codes "r-0-3-1") ∷ [] ∷ []) ∷
    ((codes "300") ∷ (codes "q") ∷ (codes "c") ∷ (codes "delete") ∷ (codes "deleted") ∷ (codes "m-0-4") ∷ (codes "r-0-4-1") ∷ (codes "296") ∷ []) ∷
    ((codes "350") ∷ (codes "q") ∷ (codes "c") ∷ (codes "delete") ∷ (codes "deleted") ∷ (codes "m-0-5") ∷ (codes "r-0-5-1") ∷ (codes "345") ∷ []) ∷
    ((codes "351") ∷ (codes "q") ∷ (codes "c") ∷ (codes "receive") ∷ (codes "wait") ∷ [] ∷ [] ∷ [] ∷ []) ∷
    ((codes "final") ∷ (codes "queue") ∷ (codes "message") ∷ (codes "origin") ∷ (codes "place") ∷ (codes "due") ∷ (codes "enqueued") ∷ (codes "receives") ∷ (codes "group") ∷ (codes "md5") ∷ []) ∷
    ((codes "final") ∷ (codes "q") ∷ (codes "m-0-0") ∷ (codes "o-0-0") ∷ (codes "inflight") ∷ (codes "30050") ∷ (codes "0") ∷ (codes "1") ∷ [] ∷ digest (codes "a") ∷ []) ∷
    ((codes "final") ∷ (codes "q") ∷ (codes "m-0-3") ∷ (codes "o-0-3") ∷ (codes "inflight") ∷ (codes "30050") ∷ (codes "3") ∷ (codes "1") ∷ [] ∷ digest (codes "a") ∷ []) ∷
    ((codes "transfer") ∷ (codes "from") ∷ (codes "to") ∷ (codes "kind") ∷ (codes "due") ∷ (codes "number") ∷ (codes "message") ∷ (codes "origin") ∷ (codes "md5") ∷ []) ∷
    ((codes "task") ∷ (codes "name") ∷ (codes "status") ∷ (codes "moved") ∷ []) ∷
    ((codes "report") ∷ (codes "queue") ∷ (codes "sends") ∷ (codes "repeats") ∷ (codes "receives") ∷ (codes "empties") ∷ (codes "deletes") ∷ (codes "expiries") ∷ (codes "redrives") ∷ (codes "moves") ∷ (codes "arrivals") ∷ (codes "OverLimit") ∷ (codes "MessageNotInflight") ∷ (codes "ReceiptHandleIsInvalid") ∷ (codes "BadTimeout") ∷ (codes "MissingGroup") ∷ (codes "MissingDeduplication") ∷ (codes "BadDelay") ∷ (codes "TaskRunning") ∷ (codes "NoTask") ∷ (codes "depth_max") ∷ (codes "visible") ∷ (codes "in_flight") ∷ (codes "delayed") ∷ (codes "age_sum") ∷ (codes "age_max") ∷ (codes "age_p50") ∷ (codes "age_p95") ∷ (codes "age_p99") ∷ []) ∷
    ((codes "report") ∷ (codes "q") ∷ (codes "6") ∷ (codes "0") ∷ (codes "6") ∷ (codes "0") ∷ (codes "4") ∷ (codes "0") ∷ (codes "0") ∷ (codes "0") ∷ (codes "0") ∷ (codes "0") ∷ (codes "0") ∷ (codes "0") ∷ (codes "0") ∷ (codes "0") ∷ (codes "0") ∷ (codes "0") ∷ (codes "0") ∷ (codes "0") ∷ (codes "6") ∷ (codes "0") ∷ (codes "2") ∷ (codes "0") ∷ (codes "988") ∷ (codes "345") ∷ (codes "198") ∷ (codes "345") ∷ (codes "345") ∷ []) ∷ [])
unfolding reading_on_literals running_on_literals columns_of
case_0_outages_that_overlap = refl

-- version-3/outages_with_a_chance_of_zero.toml
case_0_outages_with_a_chance_of_zero : shown_upto 3 79 [] (codes "# Services end at 100, 150, 200, 250, 300 and 350. In the outages, which are from 100 to 199 and from 300 to 349, none\n# fails. At the other moments each fails.\nversion = 3\nhorizon = 1000\n[[queue]]\nname = \"q\"\n[[actor]]\nname = \"c\"\nkind = \"consumer\"\nqueue = \"q\"\nstart_ms = 50\nbatch = 6\nwait_s = 20\nservice_min_ms = 50\nservice_max_ms = 50\nfail_permille = 1000\nfails_between_ms = [[100, 200], [300, 350]]\nfails_permille = 0\n[[actor]]\nname = \"s\"\nkind = \"script\"\nqueue = \"q\"\ncalls = \"\"\"\nat,call,body,group,id,delay,receipt,max,wait,timeout,task\n0,send,a,,,,,,,,\n1,send,b,,,,,,,,\n2,send,c,,,,,,,,\n3,send,a,,,,,,,,\n4,send,b,,,,,,,,\n5,send,c,,,,,,,,\n\"\"\"\n")
    ≡ ran (((codes "at") ∷ (codes "queue") ∷ (codes "agent") ∷ (codes "call") ∷ (codes "answer") ∷ (codes "message") ∷ (codes "receipt") ∷ (codes "detail") ∷ []) ∷
    ((codes "0") ∷ (codes "q") ∷ (codes "s") ∷ (codes "send") ∷ (codes "new") ∷ (codes "m-0-0") ∷ [] ∷ digest (codes "a") ∷ []) ∷
    ((codes "1") ∷ (codes "q") ∷ (codes "s") ∷ (codes "send") ∷ (codes "new") ∷ (codes "m-0-1") ∷ [] ∷ digest (codes "b") ∷ []) ∷
    ((codes "2") ∷ (codes "q") ∷ (codes "s") ∷ (codes "send") ∷ (codes "new") ∷ (codes "m-0-2") ∷ [] ∷ digest (codes "c") ∷ []) ∷
    ((codes "3") ∷ (codes "q") ∷ (codes "s") ∷ (codes "send") ∷ (codes "new") ∷ (codes "m-0-3") ∷ [] ∷ digest (codes "a") ∷ []) ∷
    ((codes "4") ∷ (codes "q") ∷ (codes "s") ∷ (codes "send") ∷ (codes "new") ∷ (codes "m-0-4") ∷ [] ∷ digest (codes "b") ∷ []) ∷
    ((codes "5") ∷ (codes "q") ∷ (codes "s") ∷ (codes "send") ∷ (codes "new") ∷ (codes "m-0-5") ∷ [] ∷ digest (codes "c") ∷ []) ∷
    ((codes "50") ∷ (codes "q") ∷ (codes "c") ∷ (codes "receive") ∷ (codes "ok") ∷ (codes "m-0-0") ∷ (codes "r-0-0-1") ∷ (codes "o-0-0") ∷ []) ∷
    ((codes "50") ∷ (codes "q") ∷ (codes "c") ∷ (codes "receive") ∷ (codes "ok") ∷ (codes "m-0-1") ∷ (codes "r-0-1-1") ∷ (codes "o-0-1") ∷ []) ∷
    ((codes "50") ∷ (codes "q") ∷ (codes "c") ∷ (codes "receive") ∷ (codes "ok") ∷ (codes "m-0-2") ∷ (codes "r-0-2-1") ∷ (codes "o-0-2") ∷ []) ∷
    ((codes "50") ∷ (codes "q") ∷ (codes "c") ∷ (codes "receive") ∷ (codes "ok") ∷ (codes "m-0-3") ∷ (codes "r-0-3-1") ∷ (codes "o-0-3") ∷ []) ∷
    ((codes "50") ∷ (codes "q") ∷ (codes "c") ∷ (codes "receive") ∷ (codes "ok") ∷ (codes "m-0-4") ∷ (codes "r-0-4-1") ∷ (codes "o-0-4") ∷ []) ∷
    ((codes "50") ∷ (codes "q") ∷ (codes "c") ∷ (codes "receive") ∷ (codes "ok") ∷ (codes "m-0-5") ∷ (codes "r-0-5-1") ∷ (codes "o-0-5") ∷ []) ∷
    ((codes "100") ∷ (codes "q") ∷ (codes "c") ∷ (codes "delete") ∷ (codes "deleted") ∷ (codes "m-0-0") ∷ (codes "r-0-0-1") ∷ (codes "100") ∷ []) ∷
    ((codes "150") ∷ (codes "q") ∷ (codes "c") ∷ (codes "delete") ∷ (codes "deleted") ∷ (codes "m-0-1") ∷ (codes "r-0-1-1") ∷ (codes "149") ∷ []) ∷
    ((codes "200") ∷ (codes "q") ∷ (codes "c") ∷ (codes "fail") ∷ (codes "ok") ∷ (codes "m-0-2") ∷ (codes "r-0-2-1") ∷ [] ∷ []) ∷
    ((codes "250") ∷ (codes "q") ∷ (codes "c") ∷ (codes "fail") ∷ (codes "ok") ∷ (codes "m-0-3") ∷ (codes "r-0-3-1") ∷ [] ∷ []) ∷
    ((codes "300") ∷ (codes "q") ∷ (codes "c") ∷ (codes "delete") ∷ (codes "deleted") ∷ (codes "m-0-4") ∷ (codes "r-0-4-1") ∷ (codes "296") ∷ []) ∷
    ((codes "350") ∷ (codes "q") ∷ (codes "c") ∷ (codes "fail") ∷ (codes "ok") ∷ (codes "m-0-5") ∷ (codes "r-0-5-1") ∷ [] ∷ []) ∷
    ((codes "351") ∷ (codes "q") ∷ (codes "c") ∷ (codes "receive") ∷ (codes "wait") ∷ [] ∷ [] ∷ [] ∷ []) ∷
    ((codes "final") ∷ (codes "queue") ∷ (codes "message") ∷ (codes "origin") ∷ (codes "place") ∷ (codes "due") ∷ (codes "enqueued") ∷ (codes "receives") ∷ (codes "group") ∷ (codes "md5") ∷ []) ∷
    ((codes "final") ∷ (codes "q") ∷ (codes "m-0-2") ∷ (codes "o-0-2") ∷ (codes "inflight") ∷ (codes "30050") ∷ (codes "2") ∷ (codes "1") ∷ [] ∷ digest (codes "c") ∷ []) ∷
    ((codes "final") ∷ (codes "q") ∷ (codes "m-0-3") ∷ (codes "o-0-3") ∷ (codes "inflight") ∷ (codes "30050") ∷ (codes "3") ∷ (codes "1") ∷ [] ∷ digest (codes "a") ∷ []) ∷
    ((codes "final") ∷ (codes "q") ∷ (codes "m-0-5") ∷ (codes "o-0-5") ∷ (codes "inflight") ∷ (codes "30050") ∷ (codes "5") ∷ (codes "1") ∷ [] ∷ digest (codes "c") ∷ []) ∷
    ((codes "transfer") ∷ (codes "from") ∷ (codes "to") ∷ (codes "kind") ∷ (codes "due") ∷ (codes "number") ∷ (codes "message") ∷ (codes "origin") ∷ (codes "md5") ∷ []) ∷
    ((codes "task") ∷ (codes "name") ∷ (codes "status") ∷ (codes "moved") ∷ []) ∷
    ((codes "report") ∷ (codes "queue") ∷ (codes "sends") ∷ (codes "repeats") ∷ (codes "receives") ∷ (codes "empties") ∷ (codes "deletes") ∷ (codes "expiries") ∷ (codes "redrives") ∷ (codes "moves") ∷ (codes "arrivals") ∷ (codes "OverLimit") ∷ (codes "MessageNotInflight") ∷ (codes "ReceiptHandleIsInvalid") ∷ (codes "BadTimeout") ∷ (codes "MissingGroup") ∷ (codes "MissingDeduplication") ∷ (codes "BadDelay") ∷ (codes "TaskRunning") ∷ (codes "NoTask") ∷ (codes "depth_max") ∷ (codes "visible") ∷ (codes "in_flight") ∷ (codes "delayed") ∷ (codes "age_sum") ∷ (codes "age_max") ∷ (codes "age_p50") ∷ (codes "age_p95") ∷ (codes "age_p99") ∷ []) ∷
    ((codes "report") ∷ (codes "q") ∷ (codes "6") ∷ (codes "0") ∷ (codes "6") ∷ (codes "0") ∷ (codes "3") ∷ (codes "0") ∷ (codes "0") ∷ (codes "0") ∷ (codes "0") ∷ (codes "0") ∷ (codes "0") ∷ (codes "0") ∷ (codes "0") ∷ (codes "0") ∷ (codes "0") ∷ (codes "0") ∷ (codes "0") ∷ (codes "0") ∷ (codes "6") ∷ (codes "0") ∷ (codes "3") ∷ (codes "0") ∷ (codes "545") ∷ (codes "296") ∷ (codes "149") ∷ (codes "296") ∷ (codes "296") ∷ []) ∷ [])
unfolding reading_on_literals running_on_literals columns_of
case_0_outages_with_a_chance_of_zero = refl

-- version-3/outages_with_drawn_chances.toml
case_0_outages_with_drawn_chances : shown_upto 3 79 [] (codes "# Services end at 100, 150, 200, 250, 300 and 350. Of the words of agent 1 each second one is a chance: 982.301 (below 983:\n# it fails), 500.913 (not below 500), 672.884 and 195.525 (both below 673), 237.877 and 330.205 (neither below 237).\nversion = 3\nhorizon = 1000\n[[queue]]\nname = \"q\"\n[[actor]]\nname = \"c\"\nkind = \"consumer\"\nqueue = \"q\"\nstart_ms = 50\nbatch = 6\nwait_s = 20\nservice_min_ms = 50\nservice_max_ms = 50\nfails_between_ms = [[100, 150], [150, 200], [200, 300], [300, 400]]\nfails_permille = [983, 500, 673, 237]\n[[actor]]\nname = \"s\"\nkind = \"script\"\nqueue = \"q\"\ncalls = \"\"\"\nat,call,body,group,id,delay,receipt,max,wait,timeout,task\n0,send,a,,,,,,,,\n1,send,b,,,,,,,,\n2,send,c,,,,,,,,\n3,send,a,,,,,,,,\n4,send,b,,,,,,,,\n5,send,c,,,,,,,,\n\"\"\"\n")
    ≡ ran (((codes "at") ∷ (codes "queue") ∷ (codes "agent") ∷ (codes "call") ∷ (codes "answer") ∷ (codes "message") ∷ (codes "receipt") ∷ (codes "detail") ∷ []) ∷
    ((codes "0") ∷ (codes "q") ∷ (codes "s") ∷ (codes "send") ∷ (codes "new") ∷ (codes "m-0-0") ∷ [] ∷ digest (codes "a") ∷ []) ∷
    ((codes "1") ∷ (codes "q") ∷ (codes "s") ∷ (codes "send") ∷ (codes "new") ∷ (codes "m-0-1") ∷ [] ∷ digest (codes "b") ∷ []) ∷
    ((codes "2") ∷ (codes "q") ∷ (codes "s") ∷ (codes "send") ∷ (codes "new") ∷ (codes "m-0-2") ∷ [] ∷ digest (codes "c") ∷ []) ∷
    ((codes "3") ∷ (codes "q") ∷ (codes "s") ∷ (codes "send") ∷ (codes "new") ∷ (codes "m-0-3") ∷ [] ∷ digest (codes "a") ∷ []) ∷
    ((codes "4") ∷ (codes "q") ∷ (codes "s") ∷ (codes "send") ∷ (codes "new") ∷ (codes "m-0-4") ∷ [] ∷ digest (codes "b") ∷ []) ∷
    ((codes "5") ∷ (codes "q") ∷ (codes "s") ∷ (codes "send") ∷ (codes "new") ∷ (codes "m-0-5") ∷ [] ∷ digest (codes "c") ∷ []) ∷
    ((codes "50") ∷ (codes "q") ∷ (codes "c") ∷ (codes "receive") ∷ (codes "ok") ∷ (codes "m-0-0") ∷ (codes "r-0-0-1") ∷ (codes "o-0-0") ∷ []) ∷
    ((codes "50") ∷ (codes "q") ∷ (codes "c") ∷ (codes "receive") ∷ (codes "ok") ∷ (codes "m-0-1") ∷ (codes "r-0-1-1") ∷ (codes "o-0-1") ∷ []) ∷
    ((codes "50") ∷ (codes "q") ∷ (codes "c") ∷ (codes "receive") ∷ (codes "ok") ∷ (codes "m-0-2") ∷ (codes "r-0-2-1") ∷ (codes "o-0-2") ∷ []) ∷
    ((codes "50") ∷ (codes "q") ∷ (codes "c") ∷ (codes "receive") ∷ (codes "ok") ∷ (codes "m-0-3") ∷ (codes "r-0-3-1") ∷ (codes "o-0-3") ∷ []) ∷
    ((codes "50") ∷ (codes "q") ∷ (codes "c") ∷ (codes "receive") ∷ (codes "ok") ∷ (codes "m-0-4") ∷ (codes "r-0-4-1") ∷ (codes "o-0-4") ∷ []) ∷
    ((codes "50") ∷ (codes "q") ∷ (codes "c") ∷ (codes "receive") ∷ (codes "ok") ∷ (codes "m-0-5") ∷ (codes "r-0-5-1") ∷ (codes "o-0-5") ∷ []) ∷
    ((codes "100") ∷ (codes "q") ∷ (codes "c") ∷ (codes "fail") ∷ (codes "ok") ∷ (codes "m-0-0") ∷ (codes "r-0-0-1") ∷ [] ∷ []) ∷
    ((codes "150") ∷ (codes "q") ∷ (codes "c") ∷ (codes "delete") ∷ (codes "deleted") ∷ (codes "m-0-1") ∷ (codes "r-0-1-1") ∷ (codes "149") ∷ []) ∷
    ((codes "200") ∷ (codes "q") ∷ (codes "c") ∷ (codes "fail") ∷ (codes "ok") ∷ (codes "m-0-2") ∷ (codes "r-0-2-1") ∷ [] ∷ []) ∷
    ((codes "250") ∷ (codes "q") ∷ (codes "c") ∷ (codes "fail") ∷ (codes "ok") ∷ (codes "m-0-3") ∷ (codes "r-0-3-1") ∷ [] ∷ []) ∷
    ((codes "300") ∷ (codes "q") ∷ (codes "c") ∷ (codes "delete") ∷ (codes "deleted") ∷ (codes "m-0-4") ∷ (codes "r-0-4-1") ∷ (codes "296") ∷ []) ∷
    ((codes "350") ∷ (codes "q") ∷ (codes "c") ∷ (codes "delete") ∷ (codes "deleted") ∷ (codes "m-0-5") ∷ (codes "r-0-5-1") ∷ (codes "345") ∷ []) ∷
    ((codes "351") ∷ (codes "q") ∷ (codes "c") ∷ (codes "receive") ∷ (codes "wait") ∷ [] ∷ [] ∷ [] ∷ []) ∷
    ((codes "final") ∷ (codes "queue") ∷ (codes "message") ∷ (codes "origin") ∷ (codes "place") ∷ (codes "due") ∷ (codes "enqueued") ∷ (codes "receives") ∷ (codes "group") ∷ (codes "md5") ∷ []) ∷
    ((codes "final") ∷ (codes "q") ∷ (codes "m-0-0") ∷ (codes "o-0-0") ∷ (codes "inflight") ∷ (codes "30050") ∷ (codes "0") ∷ (codes "1") ∷ [] ∷ digest (codes "a") ∷ []) ∷
    ((codes "final") ∷ (codes "q") ∷ (codes "m-0-2") ∷ (codes "o-0-2") ∷ (codes "inflight") ∷ (codes "30050") ∷ (codes "2") ∷ (codes "1") ∷ [] ∷ digest (codes "c") ∷ []) ∷
    ((codes "final") ∷ (codes "q") ∷ (codes "m-0-3") ∷ (codes "o-0-3") ∷ (codes "inflight") ∷ (codes "30050") ∷ (codes "3") ∷ (codes "1") ∷ [] ∷ digest (codes "a") ∷ []) ∷
    ((codes "transfer") ∷ (codes "from") ∷ (codes "to") ∷ (codes "kind") ∷ (codes "due") ∷ (codes "number") ∷ (codes "message") ∷ (codes "origin") ∷ (codes "md5") ∷ []) ∷
    ((codes "task") ∷ (codes "name") ∷ (codes "status") ∷ (codes "moved") ∷ []) ∷
    ((codes "report") ∷ (codes "queue") ∷ (codes "sends") ∷ (codes "repeats") ∷ (codes "receives") ∷ (codes "empties") ∷ (codes "deletes") ∷ (codes "expiries") ∷ (codes "redrives") ∷ (codes "moves") ∷ (codes "arrivals") ∷ (codes "OverLimit") ∷ (codes "MessageNotInflight") ∷ (codes "ReceiptHandleIsInvalid") ∷ (codes "BadTimeout") ∷ (codes "MissingGroup") ∷ (codes "MissingDeduplication") ∷ (codes "BadDelay") ∷ (codes "TaskRunning") ∷ (codes "NoTask") ∷ (codes "depth_max") ∷ (codes "visible") ∷ (codes "in_flight") ∷ (codes "delayed") ∷ (codes "age_sum") ∷ (codes "age_max") ∷ (codes "age_p50") ∷ (codes "age_p95") ∷ (codes "age_p99") ∷ []) ∷
    ((codes "report") ∷ (codes "q") ∷ (codes "6") ∷ (codes "0") ∷ (codes "6") ∷ (codes "0") ∷ (codes "3") ∷ (codes "0") ∷ (codes "0") ∷ (codes "0") ∷ (codes "0") ∷ (codes "0") ∷ (codes "0") ∷ (codes "0") ∷ (codes "0") ∷ (codes "0") ∷ (codes "0") ∷ (codes "0") ∷ (codes "0") ∷ (codes "0") ∷ (codes "6") ∷ (codes "0") ∷ (codes "3") ∷ (codes "0") ∷ (codes "790") ∷ (codes "345") ∷ (codes "296") ∷ (codes "345") ∷ (codes "345") ∷ []) ∷ [])
unfolding reading_on_literals running_on_literals columns_of
case_0_outages_with_drawn_chances = refl

-- version-3/past_the_last_step.toml
case_0_past_the_last_step : shown_upto 3 74 [] (codes "# At 1,000 three messages are visible, which are past the last step: all three copies are wanted. At 2,000 none is there,\n# and the first step wants no copy. The copies go by the scaler as by one without steps.\nversion = 3\nhorizon = 2500\n[[queue]]\nname = \"q\"\n[[actor]]\nname = \"s\"\nkind = \"script\"\nqueue = \"q\"\ncalls = \"\"\"\nat,call,body,group,id,delay,receipt,max,wait,timeout,task\n500,send,a,,,,,,,,\n501,send,b,,,,,,,,\n502,send,c,,,,,,,,\n\"\"\"\n[[actor]]\nname = \"x\"\nkind = \"scaler\"\nqueue = \"q\"\nevery_s = 1\nsteps = [[0, 0], [2, 1]]\ncopies_min = 0\ncopies_max = 3\n[[actor]]\nname = \"w\"\nkind = \"consumer\"\nqueue = \"q\"\nidle_ms = 2000\nscaler = \"x\"\ncopies = 3\nservice_min_ms = 100\nservice_max_ms = 100\n")
    ≡ ran (((codes "at") ∷ (codes "queue") ∷ (codes "agent") ∷ (codes "call") ∷ (codes "answer") ∷ (codes "message") ∷ (codes "receipt") ∷ (codes "detail") ∷ []) ∷
    ((codes "500") ∷ (codes "q") ∷ (codes "s") ∷ (codes "send") ∷ (codes "new") ∷ (codes "m-0-0") ∷ [] ∷ digest (codes "a") ∷ []) ∷
    ((codes "501") ∷ (codes "q") ∷ (codes "s") ∷ (codes "send") ∷ (codes "new") ∷ (codes "m-0-1") ∷ [] ∷ digest (codes "b") ∷ []) ∷
    ((codes "502") ∷ (codes "q") ∷ (codes "s") ∷ (codes "send") ∷ (codes "new") ∷ (codes "m-0-2") ∷ [] ∷ digest (codes "c") ∷ []) ∷
    ((codes "1000") ∷ (codes "q") ∷ (codes "x") ∷ (codes "scale") ∷ (codes "ok") ∷ [] ∷ [] ∷ (codes "0/3") ∷ []) ∷
    ((codes "1001") ∷ (codes "q") ∷ (codes "w-1") ∷ (codes "receive") ∷ (codes "ok") ∷ (codes "m-0-0") ∷ (codes "r-0-0-1") ∷ (codes "o-0-0") ∷ []) ∷
    ((codes "1001") ∷ (codes "q") ∷ (codes "w-2") ∷ (codes "receive") ∷ (codes "ok") ∷ (codes "m-0-1") ∷ (codes "r-0-1-1") ∷ (codes "o-0-1") ∷ []) ∷
    ((codes "1001") ∷ (codes "q") ∷ (codes "w-3") ∷ (codes "receive") ∷ (codes "ok") ∷ (codes "m-0-2") ∷ (codes "r-0-2-1") ∷ (codes "o-0-2") ∷ []) ∷
    ((codes "1101") ∷ (codes "q") ∷ (codes "w-1") ∷ (codes "delete") ∷ (codes "deleted") ∷ (codes "m-0-0") ∷ (codes "r-0-0-1") ∷ (codes "601") ∷ []) ∷
    ((codes "1101") ∷ (codes "q") ∷ (codes "w-2") ∷ (codes "delete") ∷ (codes "deleted") ∷ (codes "m-0-1") ∷ (codes "r-0-1-1") ∷ (codes "600") ∷ []) ∷
    ((codes "1101") ∷ (codes "q") ∷ (codes "w-3") ∷ (codes "delete") ∷ (codes "deleted") ∷ (codes "m-0-2") ∷ (codes "r-0-2-1") ∷ (codes "599") ∷ []) ∷
    ((codes "1102") ∷ (codes "q") ∷ (codes "w-1") ∷ (codes "receive") ∷ (codes "empty") ∷ [] ∷ [] ∷ [] ∷ []) ∷
    ((codes "1102") ∷ (codes "q") ∷ (codes "w-2") ∷ (codes "receive") ∷ (codes "empty") ∷ [] ∷ [] ∷ [] ∷ []) ∷
    ((codes "1102") ∷ (codes "q") ∷ (codes "w-3") ∷ (codes "receive") ∷ (codes "empty") ∷ [] ∷ [] ∷ [] ∷ []) ∷
    ((codes "2000") ∷ (codes "q") ∷ (codes "x") ∷ (codes "scale") ∷ (codes "ok") ∷ [] ∷ [] ∷ (codes "3/0") ∷ []) ∷
    ((codes "final") ∷ (codes "queue") ∷ (codes "message") ∷ (codes "origin") ∷ (codes "place") ∷ (codes "due") ∷ (codes "enqueued") ∷ (codes "receives") ∷ (codes "group") ∷ (codes "md5") ∷ []) ∷
    ((codes "transfer") ∷ (codes "from") ∷ (codes "to") ∷ (codes "kind") ∷ (codes "due") ∷ (codes "number") ∷ (codes "message") ∷ (codes "origin") ∷ (codes "md5") ∷ []) ∷
    ((codes "task") ∷ (codes "name") ∷ (codes "status") ∷ (codes "moved") ∷ []) ∷
    ((codes "report") ∷ (codes "queue") ∷ (codes "sends") ∷ (codes "repeats") ∷ (codes "receives") ∷ (codes "empties") ∷ (codes "deletes") ∷ (codes "expiries") ∷ (codes "redrives") ∷ (codes "moves") ∷ (codes "arrivals") ∷ (codes "OverLimit") ∷ (codes "MessageNotInflight") ∷ (codes "ReceiptHandleIsInvalid") ∷ (codes "BadTimeout") ∷ (codes "MissingGroup") ∷ (codes "MissingDeduplication") ∷ (codes "BadDelay") ∷ (codes "TaskRunning") ∷ (codes "NoTask") ∷ (codes "depth_max") ∷ (codes "visible") ∷ (codes "in_flight") ∷ (codes "delayed") ∷ (codes "age_sum") ∷ (codes "age_max") ∷ (codes "age_p50") ∷ (codes "age_p95") ∷ (codes "age_p99") ∷ []) ∷
    ((codes "report") ∷ (codes "q") ∷ (codes "3") ∷ (codes "0") ∷ (codes "3") ∷ (codes "3") ∷ (codes "3") ∷ (codes "0") ∷ (codes "0") ∷ (codes "0") ∷ (codes "0") ∷ (codes "0") ∷ (codes "0") ∷ (codes "0") ∷ (codes "0") ∷ (codes "0") ∷ (codes "0") ∷ (codes "0") ∷ (codes "0") ∷ (codes "0") ∷ (codes "3") ∷ (codes "0") ∷ (codes "0") ∷ (codes "0") ∷ (codes "1800") ∷ (codes "601") ∷ (codes "600") ∷ (codes "601") ∷ (codes "601") ∷ []) ∷ [])
unfolding reading_on_literals running_on_literals columns_of
case_0_past_the_last_step = refl

-- version-3/poison_in_a_fifo_group.toml
case_0_poison_in_a_fifo_group : shown_upto 3 77 [] (codes "# The poison m-0-0 is first in group g and closes it while it is in flight. So at 111 the consumer gets m-0-2 of group\n# h. m-0-0 fails again at 1110 and leaves for the dead-letter queue at 2010. That opens the group: the waiting poll gets\n# m-0-1 in the same handling.\nversion = 3\nhorizon = 3000\n[[queue]]\nname = \"q.fifo\"\nvisibility_s = 1\ndead_letter = \"d.fifo\"\nmax_receives = 2\nlatency_min_ms = 20\nlatency_max_ms = 20\n[[queue]]\nname = \"d.fifo\"\n[[actor]]\nname = \"c\"\nkind = \"consumer\"\nqueue = \"q.fifo\"\nstart_ms = 10\nwait_s = 20\nservice_min_ms = 100\nservice_max_ms = 100\nfails_on = \"bad\"\n[[actor]]\nname = \"s\"\nkind = \"script\"\nqueue = \"q.fifo\"\ncalls = \"\"\"\nat,call,body,group,id,delay,receipt,max,wait,timeout,task\n0,send,bad,g,1,,,,,,\n1,send,a,g,2,,,,,,\n2,send,b,h,3,,,,,,\n\"\"\"\n")
    ≡ ran (((codes "at") ∷ (codes "queue") ∷ (codes "agent") ∷ (codes "call") ∷ (codes "answer") ∷ (codes "message") ∷ (codes "receipt") ∷ (codes "detail") ∷ []) ∷
    ((codes "0") ∷ (codes "q.fifo") ∷ (codes "s") ∷ (codes "send") ∷ (codes "new") ∷ (codes "m-0-0") ∷ [] ∷ digest (codes "bad") ∷ []) ∷
    ((codes "1") ∷ (codes "q.fifo") ∷ (codes "s") ∷ (codes "send") ∷ (codes "new") ∷ (codes "m-0-1") ∷ [] ∷ digest (codes "a") ∷ []) ∷
    ((codes "2") ∷ (codes "q.fifo") ∷ (codes "s") ∷ (codes "send") ∷ (codes "new") ∷ (codes "m-0-2") ∷ [] ∷ digest (codes "b") ∷ []) ∷
    ((codes "10") ∷ (codes "q.fifo") ∷ (codes "c") ∷ (codes "receive") ∷ (codes "ok") ∷ (codes "m-0-0") ∷ (codes "r-0-0-1") ∷ (codes "o-0-0") ∷ []) ∷
    ((codes "110") ∷ (codes "q.fifo") ∷ (codes "c") ∷ (codes "fail") ∷ (codes "ok") ∷ (codes "m-0-0") ∷ (codes "r-0-0-1") ∷ [] ∷ []) ∷
    ((codes "111") ∷ (codes "q.fifo") ∷ (codes "c") ∷ (codes "receive") ∷ (codes "ok") ∷ (codes "m-0-2") ∷ (codes "r-0-2-1") ∷ (codes "o-0-2") ∷ []) ∷
    ((codes "211") ∷ (codes "q.fifo") ∷ (codes "c") ∷ (codes "delete") ∷ (codes "deleted") ∷ (codes "m-0-2") ∷ (codes "r-0-2-1") ∷ (codes "209") ∷ []) ∷
    ((codes "212") ∷ (codes "q.fifo") ∷ (codes "c") ∷ (codes "receive") ∷ (codes "wait") ∷ [] ∷ [] ∷ [] ∷ []) ∷
    ((codes "1010") ∷ (codes "q.fifo") ∷ (codes "q.fifo") ∷ (codes "release") ∷ (codes "visible") ∷ (codes "m-0-0") ∷ [] ∷ [] ∷ []) ∷
    ((codes "1010") ∷ (codes "q.fifo") ∷ (codes "c") ∷ (codes "receive") ∷ (codes "ok") ∷ (codes "m-0-0") ∷ (codes "r-0-0-2") ∷ (codes "o-0-0") ∷ []) ∷
    ((codes "1110") ∷ (codes "q.fifo") ∷ (codes "c") ∷ (codes "fail") ∷ (codes "ok") ∷ (codes "m-0-0") ∷ (codes "r-0-0-2") ∷ [] ∷ []) ∷
    ((codes "1111") ∷ (codes "q.fifo") ∷ (codes "c") ∷ (codes "receive") ∷ (codes "wait") ∷ [] ∷ [] ∷ [] ∷ []) ∷
    ((codes "2010") ∷ (codes "q.fifo") ∷ (codes "q.fifo") ∷ (codes "redrive") ∷ (codes "out") ∷ (codes "m-0-0") ∷ [] ∷ (codes "d.fifo") ∷ []) ∷
    ((codes "2010") ∷ (codes "q.fifo") ∷ (codes "c") ∷ (codes "receive") ∷ (codes "ok") ∷ (codes "m-0-1") ∷ (codes "r-0-1-1") ∷ (codes "o-0-1") ∷ []) ∷
    ((codes "2030") ∷ (codes "d.fifo") ∷ (codes "q.fifo") ∷ (codes "arrive") ∷ (codes "new") ∷ (codes "m-1-0") ∷ [] ∷ (codes "o-0-0") ∷ []) ∷
    ((codes "2110") ∷ (codes "q.fifo") ∷ (codes "c") ∷ (codes "delete") ∷ (codes "deleted") ∷ (codes "m-0-1") ∷ (codes "r-0-1-1") ∷ (codes "2109") ∷ []) ∷
    ((codes "2111") ∷ (codes "q.fifo") ∷ (codes "c") ∷ (codes "receive") ∷ (codes "wait") ∷ [] ∷ [] ∷ [] ∷ []) ∷
    ((codes "final") ∷ (codes "queue") ∷ (codes "message") ∷ (codes "origin") ∷ (codes "place") ∷ (codes "due") ∷ (codes "enqueued") ∷ (codes "receives") ∷ (codes "group") ∷ (codes "md5") ∷ []) ∷
    ((codes "final") ∷ (codes "d.fifo") ∷ (codes "m-1-0") ∷ (codes "o-0-0") ∷ (codes "visible") ∷ [] ∷ (codes "2030") ∷ (codes "0") ∷ (codes "g") ∷ digest (codes "bad") ∷ []) ∷
    ((codes "transfer") ∷ (codes "from") ∷ (codes "to") ∷ (codes "kind") ∷ (codes "due") ∷ (codes "number") ∷ (codes "message") ∷ (codes "origin") ∷ (codes "md5") ∷ []) ∷
    ((codes "task") ∷ (codes "name") ∷ (codes "status") ∷ (codes "moved") ∷ []) ∷
    ((codes "report") ∷ (codes "queue") ∷ (codes "sends") ∷ (codes "repeats") ∷ (codes "receives") ∷ (codes "empties") ∷ (codes "deletes") ∷ (codes "expiries") ∷ (codes "redrives") ∷ (codes "moves") ∷ (codes "arrivals") ∷ (codes "OverLimit") ∷ (codes "MessageNotInflight") ∷ (codes "ReceiptHandleIsInvalid") ∷ (codes "BadTimeout") ∷ (codes "MissingGroup") ∷ (codes "MissingDeduplication") ∷ (codes "BadDelay") ∷ (codes "TaskRunning") ∷ (codes "NoTask") ∷ (codes "depth_max") ∷ (codes "visible") ∷ (codes "in_flight") ∷ (codes "delayed") ∷ (codes "age_sum") ∷ (codes "age_max") ∷ (codes "age_p50") ∷ (codes "age_p95") ∷ (codes "age_p99") ∷ []) ∷
    ((codes "report") ∷ (codes "q.fifo") ∷ (codes "3") ∷ (codes "0") ∷ (codes "4") ∷ (codes "0") ∷ (codes "2") ∷ (codes "0") ∷ (codes "1") ∷ (codes "0") ∷ (codes "0") ∷ (codes "0") ∷ (codes "0") ∷ (codes "0") ∷ (codes "0") ∷ (codes "0") ∷ (codes "0") ∷ (codes "0") ∷ (codes "0") ∷ (codes "0") ∷ (codes "3") ∷ (codes "0") ∷ (codes "0") ∷ (codes "0") ∷ (codes "2318") ∷ (codes "2109") ∷ (codes "209") ∷ (codes "2109") ∷ (codes "2109") ∷ []) ∷
    ((codes "report") ∷ (codes "d.fifo") ∷ (codes "0") ∷ (codes "0") ∷ (codes "0") ∷ (codes "0") ∷ (codes "0") ∷ (codes "0") ∷ (codes "0") ∷ (codes "0") ∷ (codes "1") ∷ (codes "0") ∷ (codes "0") ∷ (codes "0") ∷ (codes "0") ∷ (codes "0") ∷ (codes "0") ∷ (codes "0") ∷ (codes "0") ∷ (codes "0") ∷ (codes "1") ∷ (codes "1") ∷ (codes "0") ∷ (codes "0") ∷ (codes "0") ∷ [] ∷ [] ∷ [] ∷ [] ∷ []) ∷ [])
unfolding reading_on_literals running_on_literals columns_of
case_0_poison_in_a_fifo_group = refl

-- version-3/poison_in_a_whole_batch.toml
case_0_poison_in_a_whole_batch : shown_upto 3 81 [] (codes "# The poison m-0-0 fails at 110, and so does its batch. At 1010 all come back one after another. Group g is open when\n# m-0-1 is back as well: the poll then gets m-0-0 and m-0-1, but not m-0-2, which comes back a handling later. They fail\n# at 1110, and both have had all their receives: at 2010 the innocent m-0-1 leaves with the poison. m-0-2 is deleted.\nversion = 3\nhorizon = 3000\n[[queue]]\nname = \"q.fifo\"\nvisibility_s = 1\ndead_letter = \"d.fifo\"\nmax_receives = 2\nlatency_min_ms = 20\nlatency_max_ms = 20\n[[queue]]\nname = \"d.fifo\"\n[[actor]]\nname = \"c\"\nkind = \"consumer\"\nqueue = \"q.fifo\"\nstart_ms = 10\nbatch = 3\nwait_s = 20\nservice_min_ms = 100\nservice_max_ms = 100\nfails_on = \"bad\"\nbatch_fails = \"whole\"\n[[actor]]\nname = \"s\"\nkind = \"script\"\nqueue = \"q.fifo\"\ncalls = \"\"\"\nat,call,body,group,id,delay,receipt,max,wait,timeout,task\n0,send,bad,g,1,,,,,,\n1,send,a,g,2,,,,,,\n2,send,b,h,3,,,,,,\n\"\"\"\n")
    ≡ ran (((codes "at") ∷ (codes "queue") ∷ (codes "agent") ∷ (codes "call") ∷ (codes "answer") ∷ (codes "message") ∷ (codes "receipt") ∷ (codes "detail") ∷ []) ∷
    ((codes "0") ∷ (codes "q.fifo") ∷ (codes "s") ∷ (codes "send") ∷ (codes "new") ∷ (codes "m-0-0") ∷ [] ∷ digest (codes "bad") ∷ []) ∷
    ((codes "1") ∷ (codes "q.fifo") ∷ (codes "s") ∷ (codes "send") ∷ (codes "new") ∷ (codes "m-0-1") ∷ [] ∷ digest (codes "a") ∷ []) ∷
    ((codes "2") ∷ (codes "q.fifo") ∷ (codes "s") ∷ (codes "send") ∷ (codes "new") ∷ (codes "m-0-2") ∷ [] ∷ digest (codes "b") ∷ []) ∷
    ((codes "10") ∷ (codes "q.fifo") ∷ (codes "c") ∷ (codes "receive") ∷ (codes "ok") ∷ (codes "m-0-0") ∷ (codes "r-0-0-1") ∷ (codes "o-0-0") ∷ []) ∷
    ((codes "10") ∷ (codes "q.fifo") ∷ (codes "c") ∷ (codes "receive") ∷ (codes "ok") ∷ (codes "m-0-1") ∷ (codes "r-0-1-1") ∷ (codes "o-0-1") ∷ []) ∷
    ((codes "10") ∷ (codes "q.fifo") ∷ (codes "c") ∷ (codes "receive") ∷ (codes "ok") ∷ (codes "m-0-2") ∷ (codes "r-0-2-1") ∷ (codes "o-0-2") ∷ []) ∷
    ((codes "110") ∷ (codes "q.fifo") ∷ (codes "c") ∷ (codes "fail") ∷ (codes "ok") ∷ (codes "m-0-0") ∷ (codes "r-0-0-1") ∷ [] ∷ []) ∷
    ((codes "111") ∷ (codes "q.fifo") ∷ (codes "c") ∷ (codes "receive") ∷ (codes "wait") ∷ [] ∷ [] ∷ [] ∷ []) ∷
    ((codes "1010") ∷ (codes "q.fifo") ∷ (codes "q.fifo") ∷ (codes "release") ∷ (codes "visible") ∷ (codes "m-0-0") ∷ [] ∷ [] ∷ []) ∷
    ((codes "1010") ∷ (codes "q.fifo") ∷ (codes "q.fifo") ∷ (codes "release") ∷ (codes "visible") ∷ (codes "m-0-1") ∷ [] ∷ [] ∷ []) ∷
    ((codes "1010") ∷ (codes "q.fifo") ∷ (codes "c") ∷ (codes "receive") ∷ (codes "ok") ∷ (codes "m-0-0") ∷ (codes "r-0-0-2") ∷ (codes "o-0-0") ∷ []) ∷
    ((codes "1010") ∷ (codes "q.fifo") ∷ (codes "c") ∷ (codes "receive") ∷ (codes "ok") ∷ (codes "m-0-1") ∷ (codes "r-0-1-2") ∷ (codes "o-0-1") ∷ []) ∷
    ((codes "1010") ∷ (codes "q.fifo") ∷ (codes "q.fifo") ∷ (codes "release") ∷ (codes "visible") ∷ (codes "m-0-2") ∷ [] ∷ [] ∷ []) ∷
    ((codes "1110") ∷ (codes "q.fifo") ∷ (codes "c") ∷ (codes "fail") ∷ (codes "ok") ∷ (codes "m-0-0") ∷ (codes "r-0-0-2") ∷ [] ∷ []) ∷
    ((codes "1111") ∷ (codes "q.fifo") ∷ (codes "c") ∷ (codes "receive") ∷ (codes "ok") ∷ (codes "m-0-2") ∷ (codes "r-0-2-2") ∷ (codes "o-0-2") ∷ []) ∷
    ((codes "1211") ∷ (codes "q.fifo") ∷ (codes "c") ∷ (codes "delete") ∷ (codes "deleted") ∷ (codes "m-0-2") ∷ (codes "r-0-2-2") ∷ (codes "1209") ∷ []) ∷
    ((codes "1212") ∷ (codes "q.fifo") ∷ (codes "c") ∷ (codes "receive") ∷ (codes "wait") ∷ [] ∷ [] ∷ [] ∷ []) ∷
    ((codes "2010") ∷ (codes "q.fifo") ∷ (codes "q.fifo") ∷ (codes "redrive") ∷ (codes "out") ∷ (codes "m-0-0") ∷ [] ∷ (codes "d.fifo") ∷ []) ∷
    ((codes "2010") ∷ (codes "q.fifo") ∷ (codes "q.fifo") ∷ (codes "redrive") ∷ (codes "out") ∷ (codes "m-0-1") ∷ [] ∷ (codes "d.fifo") ∷ []) ∷
    ((codes "2030") ∷ (codes "d.fifo") ∷ (codes "q.fifo") ∷ (codes "arrive") ∷ (codes "new") ∷ (codes "m-1-0") ∷ [] ∷ (codes "o-0-0") ∷ []) ∷
    ((codes "2030") ∷ (codes "d.fifo") ∷ (codes "q.fifo") ∷ (codes "arrive") ∷ (codes "new") ∷ (codes "m-1-1") ∷ [] ∷ (codes "o-0-1") ∷ []) ∷
    ((codes "final") ∷ (codes "queue") ∷ (codes "message") ∷ (codes "origin") ∷ (codes "place") ∷ (codes "due") ∷ (codes "enqueued") ∷ (codes "receives") ∷ (codes "group") ∷ (codes "md5") ∷ []) ∷
    ((codes "final") ∷ (codes "d.fifo") ∷ (codes "m-1-0") ∷ (codes "o-0-0") ∷ (codes "visible") ∷ [] ∷ (codes "2030") ∷ (codes "0") ∷ (codes "g") ∷ digest (codes "bad") ∷ []) ∷
    ((codes "final") ∷ (codes "d.fifo") ∷ (codes "m-1-1") ∷ (codes "o-0-1") ∷ (codes "visible") ∷ [] ∷ (codes "2030") ∷ (codes "0") ∷ (codes "g") ∷ digest (codes "a") ∷ []) ∷
    ((codes "transfer") ∷ (codes "from") ∷ (codes "to") ∷ (codes "kind") ∷ (codes "due") ∷ (codes "number") ∷ (codes "message") ∷ (codes "origin") ∷ (codes "md5") ∷ []) ∷
    ((codes "task") ∷ (codes "name") ∷ (codes "status") ∷ (codes "moved") ∷ []) ∷
    ((codes "report") ∷ (codes "queue") ∷ (codes "sends") ∷ (codes "repeats") ∷ (codes "receives") ∷ (codes "empties") ∷ (codes "deletes") ∷ (codes "expiries") ∷ (codes "redrives") ∷ (codes "moves") ∷ (codes "arrivals") ∷ (codes "OverLimit") ∷ (codes "MessageNotInflight") ∷ (codes "ReceiptHandleIsInvalid") ∷ (codes "BadTimeout") ∷ (codes "MissingGroup") ∷ (codes "MissingDeduplication") ∷ (codes "BadDelay") ∷ (codes "TaskRunning") ∷ (codes "NoTask") ∷ (codes "depth_max") ∷ (codes "visible") ∷ (codes "in_flight") ∷ (codes "delayed") ∷ (codes "age_sum") ∷ (codes "age_max") ∷ (codes "age_p50") ∷ (codes "age_p95") ∷ (codes "age_p99") ∷ []) ∷
    ((codes "report") ∷ (codes "q.fifo") ∷ (codes "3") ∷ (codes "0") ∷ (codes "6") ∷ (codes "0") ∷ (codes "1") ∷ (codes "0") ∷ (codes "2") ∷ (codes "0") ∷ (codes "0") ∷ (codes "0") ∷ (codes "0") ∷ (codes "0") ∷ (codes "0") ∷ (codes "0") ∷ (codes "0") ∷ (codes "0") ∷ (codes "0") ∷ (codes "0") ∷ (codes "3") ∷ (codes "0") ∷ (codes "0") ∷ (codes "0") ∷ (codes "1209") ∷ (codes "1209") ∷ (codes "1209") ∷ (codes "1209") ∷ (codes "1209") ∷ []) ∷
    ((codes "report") ∷ (codes "d.fifo") ∷ (codes "0") ∷ (codes "0") ∷ (codes "0") ∷ (codes "0") ∷ (codes "0") ∷ (codes "0") ∷ (codes "0") ∷ (codes "0") ∷ (codes "2") ∷ (codes "0") ∷ (codes "0") ∷ (codes "0") ∷ (codes "0") ∷ (codes "0") ∷ (codes "0") ∷ (codes "0") ∷ (codes "0") ∷ (codes "0") ∷ (codes "2") ∷ (codes "2") ∷ (codes "0") ∷ (codes "0") ∷ (codes "0") ∷ [] ∷ [] ∷ [] ∷ [] ∷ []) ∷ [])
unfolding reading_on_literals running_on_literals columns_of
case_0_poison_in_a_whole_batch = refl

-- version-3/poll_goes_on_of_a_copy_that_is_not_wanted.toml
case_0_poll_goes_on_of_a_copy_that_is_not_wanted : shown_upto 3 84 [] (codes "# w-2 waits when the scaler takes it away at 1,010. Its poll gets the next message all the same, before that of w-1, which\n# is younger. Only then w-2 asks no more.\nversion = 3\nhorizon = 4000\n[[queue]]\nname = \"q\"\n[[actor]]\nname = \"s\"\nkind = \"script\"\nqueue = \"q\"\ncalls = \"\"\"\nat,call,body,group,id,delay,receipt,max,wait,timeout,task\n0,send,a,,,,,,,,\n1,send,b,,,,,,,,\n2,send,c,,,,,,,,\n2000,send,d,,,,,,,,\n3000,send,e,,,,,,,,\n3500,send,f,,,,,,,,\n\"\"\"\n[[actor]]\nname = \"x\"\nkind = \"scaler\"\nqueue = \"q\"\nstart_ms = 10\nevery_s = 1\nvisible_per_copy = 1\ncopies_max = 2\n[[actor]]\nname = \"w\"\nkind = \"consumer\"\nqueue = \"q\"\nstart_ms = 10\nwait_s = 4\nscaler = \"x\"\ncopies = 2\nservice_min_ms = 100\nservice_max_ms = 100\n")
    ≡ ran (((codes "at") ∷ (codes "queue") ∷ (codes "agent") ∷ (codes "call") ∷ (codes "answer") ∷ (codes "message") ∷ (codes "receipt") ∷ (codes "detail") ∷ []) ∷
    ((codes "0") ∷ (codes "q") ∷ (codes "s") ∷ (codes "send") ∷ (codes "new") ∷ (codes "m-0-0") ∷ [] ∷ digest (codes "a") ∷ []) ∷
    ((codes "1") ∷ (codes "q") ∷ (codes "s") ∷ (codes "send") ∷ (codes "new") ∷ (codes "m-0-1") ∷ [] ∷ digest (codes "b") ∷ []) ∷
    ((codes "2") ∷ (codes "q") ∷ (codes "s") ∷ (codes "send") ∷ (codes "new") ∷ (codes "m-0-2") ∷ [] ∷ digest (codes "c") ∷ []) ∷
    ((codes "10") ∷ (codes "q") ∷ (codes "x") ∷ (codes "scale") ∷ (codes "ok") ∷ [] ∷ [] ∷ (codes "1/2") ∷ []) ∷
    ((codes "10") ∷ (codes "q") ∷ (codes "w-1") ∷ (codes "receive") ∷ (codes "ok") ∷ (codes "m-0-0") ∷ (codes "r-0-0-1") ∷ (codes "o-0-0") ∷ []) ∷
    ((codes "10") ∷ (codes "q") ∷ (codes "w-2") ∷ (codes "receive") ∷ (codes "ok") ∷ (codes "m-0-1") ∷ (codes "r-0-1-1") ∷ (codes "o-0-1") ∷ []) ∷
    ((codes "110") ∷ (codes "q") ∷ (codes "w-1") ∷ (codes "delete") ∷ (codes "deleted") ∷ (codes "m-0-0") ∷ (codes "r-0-0-1") ∷ (codes "110") ∷ []) ∷
    ((codes "110") ∷ (codes "q") ∷ (codes "w-2") ∷ (codes "delete") ∷ (codes "deleted") ∷ (codes "m-0-1") ∷ (codes "r-0-1-1") ∷ (codes "109") ∷ []) ∷
    ((codes "111") ∷ (codes "q") ∷ (codes "w-1") ∷ (codes "receive") ∷ (codes "ok") ∷ (codes "m-0-2") ∷ (codes "r-0-2-1") ∷ (codes "o-0-2") ∷ []) ∷
    ((codes "111") ∷ (codes "q") ∷ (codes "w-2") ∷ (codes "receive") ∷ (codes "wait") ∷ [] ∷ [] ∷ [] ∷ []) ∷
    ((codes "211") ∷ (codes "q") ∷ (codes "w-1") ∷ (codes "delete") ∷ (codes "deleted") ∷ (codes "m-0-2") ∷ (codes "r-0-2-1") ∷ (codes "209") ∷ []) ∷
    ((codes "212") ∷ (codes "q") ∷ (codes "w-1") ∷ (codes "receive") ∷ (codes "wait") ∷ [] ∷ [] ∷ [] ∷ []) ∷
    ((codes "1010") ∷ (codes "q") ∷ (codes "x") ∷ (codes "scale") ∷ (codes "ok") ∷ [] ∷ [] ∷ (codes "2/1") ∷ []) ∷
    ((codes "2000") ∷ (codes "q") ∷ (codes "s") ∷ (codes "send") ∷ (codes "new") ∷ (codes "m-0-3") ∷ [] ∷ digest (codes "d") ∷ []) ∷
    ((codes "2000") ∷ (codes "q") ∷ (codes "w-2") ∷ (codes "receive") ∷ (codes "ok") ∷ (codes "m-0-3") ∷ (codes "r-0-3-1") ∷ (codes "o-0-3") ∷ []) ∷
    ((codes "2100") ∷ (codes "q") ∷ (codes "w-2") ∷ (codes "delete") ∷ (codes "deleted") ∷ (codes "m-0-3") ∷ (codes "r-0-3-1") ∷ (codes "100") ∷ []) ∷
    ((codes "3000") ∷ (codes "q") ∷ (codes "s") ∷ (codes "send") ∷ (codes "new") ∷ (codes "m-0-4") ∷ [] ∷ digest (codes "e") ∷ []) ∷
    ((codes "3000") ∷ (codes "q") ∷ (codes "w-1") ∷ (codes "receive") ∷ (codes "ok") ∷ (codes "m-0-4") ∷ (codes "r-0-4-1") ∷ (codes "o-0-4") ∷ []) ∷
    ((codes "3100") ∷ (codes "q") ∷ (codes "w-1") ∷ (codes "delete") ∷ (codes "deleted") ∷ (codes "m-0-4") ∷ (codes "r-0-4-1") ∷ (codes "100") ∷ []) ∷
    ((codes "3101") ∷ (codes "q") ∷ (codes "w-1") ∷ (codes "receive") ∷ (codes "wait") ∷ [] ∷ [] ∷ [] ∷ []) ∷
    ((codes "3500") ∷ (codes "q") ∷ (codes "s") ∷ (codes "send") ∷ (codes "new") ∷ (codes "m-0-5") ∷ [] ∷ digest (codes "f") ∷ []) ∷
    ((codes "3500") ∷ (codes "q") ∷ (codes "w-1") ∷ (codes "receive") ∷ (codes "ok") ∷ (codes "m-0-5") ∷ (codes "r-0-5-1") ∷ (codes "o-0-5") ∷ []) ∷
    ((codes "3600") ∷ (codes "q") ∷ (codes "w-1") ∷ (codes "delete") ∷ (codes "deleted") ∷ (codes "m-0-5") ∷ (codes "r-0-5-1") ∷ (codes "100") ∷ []) ∷
    ((codes "3601") ∷ (codes "q") ∷ (codes "w-1") ∷ (codes "receive") ∷ (codes "wait") ∷ [] ∷ [] ∷ [] ∷ []) ∷
    ((codes "final") ∷ (codes "queue") ∷ (codes "message") ∷ (codes "origin") ∷ (codes "place") ∷ (codes "due") ∷ (codes "enqueued") ∷ (codes "receives") ∷ (codes "group") ∷ (codes "md5") ∷ []) ∷
    ((codes "transfer") ∷ (codes "from") ∷ (codes "to") ∷ (codes "kind") ∷ (codes "due") ∷ (codes "number") ∷ (codes "message") ∷ (codes "origin") ∷ (codes "md5") ∷ []) ∷
    ((codes "task") ∷ (codes "name") ∷ (codes "status") ∷ (codes "moved") ∷ []) ∷
    ((codes "report") ∷ (codes "queue") ∷ (codes "sends") ∷ (codes "repeats") ∷ (codes "receives") ∷ (codes "empties") ∷ (codes "deletes") ∷ (codes "expiries") ∷ (codes "redrives") ∷ (codes "moves") ∷ (codes "arrivals") ∷ (codes "OverLimit") ∷ (codes "MessageNotInflight") ∷ (codes "ReceiptHandleIsInvalid") ∷ (codes "BadTimeout") ∷ (codes "MissingGroup") ∷ (codes "MissingDeduplication") ∷ (codes "BadDelay") ∷ (codes "TaskRunning") ∷ (codes "NoTask") ∷ (codes "depth_max") ∷ (codes "visible") ∷ (codes "in_flight") ∷ (codes "delayed") ∷ (codes "age_sum") ∷ (codes "age_max") ∷ (codes "age_p50") ∷ (codes "age_p95") ∷ (codes "age_p99") ∷ []) ∷
    ((codes "report") ∷ (codes "q") ∷ (codes "6") ∷ (codes "0") ∷ (codes "6") ∷ (codes "0") ∷ (codes "6") ∷ (codes "0") ∷ (codes "0") ∷ (codes "0") ∷ (codes "0") ∷ (codes "0") ∷ (codes "0") ∷ (codes "0") ∷ (codes "0") ∷ (codes "0") ∷ (codes "0") ∷ (codes "0") ∷ (codes "0") ∷ (codes "0") ∷ (codes "3") ∷ (codes "0") ∷ (codes "0") ∷ (codes "0") ∷ (codes "728") ∷ (codes "209") ∷ (codes "100") ∷ (codes "209") ∷ (codes "209") ∷ []) ∷ [])
unfolding reading_on_literals running_on_literals columns_of
case_0_poll_goes_on_of_a_copy_that_is_not_wanted = refl

-- version-3/scaler_adds_and_takes_some_at_once.toml
case_0_scaler_adds_and_takes_some_at_once : shown_upto 3 87 [] (codes "# Twelve messages are six copies. A decision adds two copies at most, and takes three away at most.\nversion = 3\nhorizon = 7000\n[[queue]]\nname = \"q\"\n[[actor]]\nname = \"p\"\nkind = \"producer\"\nqueue = \"q\"\ncount = 12\ngap_min_ms = 1\ngap_max_ms = 1\nbody = \"{n}\"\n[[actor]]\nname = \"x\"\nkind = \"scaler\"\nqueue = \"q\"\nevery_s = 1\nvisible_per_copy = 2\ncopies_max = 7\nadded_max = 2\ntaken_max = 3\n[[actor]]\nname = \"s\"\nkind = \"script\"\nqueue = \"q\"\ncalls = \"\"\"\nat,call,body,group,id,delay,receipt,max,wait,timeout,task\n4500,receive,,,,,,10,,,\n\"\"\"\n")
    ≡ ran (((codes "at") ∷ (codes "queue") ∷ (codes "agent") ∷ (codes "call") ∷ (codes "answer") ∷ (codes "message") ∷ (codes "receipt") ∷ (codes "detail") ∷ []) ∷
    ((codes "0") ∷ (codes "q") ∷ (codes "p") ∷ (codes "send") ∷ (codes "new") ∷ (codes "m-0-0") ∷ [] ∷ digest (codes "0") ∷ []) ∷
    ((codes "1") ∷ (codes "q") ∷ (codes "p") ∷ (codes "send") ∷ (codes "new") ∷ (codes "m-0-1") ∷ [] ∷ digest (codes "1") ∷ []) ∷
    ((codes "2") ∷ (codes "q") ∷ (codes "p") ∷ (codes "send") ∷ (codes "new") ∷ (codes "m-0-2") ∷ [] ∷ digest (codes "2") ∷ []) ∷
    ((codes "3") ∷ (codes "q") ∷ (codes "p") ∷ (codes "send") ∷ (codes "new") ∷ (codes "m-0-3") ∷ [] ∷ digest (codes "3") ∷ []) ∷
    ((codes "4") ∷ (codes "q") ∷ (codes "p") ∷ (codes "send") ∷ (codes "new") ∷ (codes "m-0-4") ∷ [] ∷ digest (codes "4") ∷ []) ∷
    ((codes "5") ∷ (codes "q") ∷ (codes "p") ∷ (codes "send") ∷ (codes "new") ∷ (codes "m-0-5") ∷ [] ∷ digest (codes "5") ∷ []) ∷
    ((codes "6") ∷ (codes "q") ∷ (codes "p") ∷ (codes "send") ∷ (codes "new") ∷ (codes "m-0-6") ∷ [] ∷ digest (codes "6") ∷ []) ∷
    ((codes "7") ∷ (codes "q") ∷ (codes "p") ∷ (codes "send") ∷ (codes "new") ∷ (codes "m-0-7") ∷ [] ∷ digest (codes "7") ∷ []) ∷
    ((codes "8") ∷ (codes "q") ∷ (codes "p") ∷ (codes "send") ∷ (codes "new") ∷ (codes "m-0-8") ∷ [] ∷ digest (codes "8") ∷ []) ∷
    ((codes "9") ∷ (codes "q") ∷ (codes "p") ∷ (codes "send") ∷ (codes "new") ∷ (codes "m-0-9") ∷ [] ∷ digest (codes "9") ∷ []) ∷
    ((codes "10") ∷ (codes "q") ∷ (codes "p") ∷ (codes "send") ∷ (codes "new") ∷ (codes "m-0-10") ∷ [] ∷ digest (codes "10") ∷ []) ∷
    ((codes "11") ∷ (codes "q") ∷ (codes "p") ∷ (codes "send") ∷ (codes "new") ∷ (codes "m-0-11") ∷ [] ∷ digest (codes "11") ∷ []) ∷
    ((codes "1000") ∷ (codes "q") ∷ (codes "x") ∷ (codes "scale") ∷ (codes "ok") ∷ [] ∷ [] ∷ (codes "1/3") ∷ []) ∷
    ((codes "2000") ∷ (codes "q") ∷ (codes "x") ∷ (codes "scale") ∷ (codes "ok") ∷ [] ∷ [] ∷ (codes "3/5") ∷ []) ∷
    ((codes "3000") ∷ (codes "q") ∷ (codes "x") ∷ (codes "scale") ∷ (codes "ok") ∷ [] ∷ [] ∷ (codes "5/6") ∷ []) ∷
    ((codes "4500") ∷ (codes "q") ∷ (codes "s") ∷ (codes "receive") ∷ (codes "ok") ∷ (codes "m-0-0") ∷ (codes "r-0-0-1") ∷ (codes "o-0-0") ∷ []) ∷
    ((codes "4500") ∷ (codes "q") ∷ (codes "s") ∷ (codes "receive") ∷ (codes "ok") ∷ (codes "m-0-1") ∷ (codes "r-0-1-1") ∷ (codes "o-0-1") ∷ []) ∷
    ((codes "4500") ∷ (codes "q") ∷ (codes "s") ∷ (codes "receive") ∷ (codes "ok") ∷ (codes "m-0-2") ∷ (codes "r-0-2-1") ∷ (codes "o-0-2") ∷ []) ∷
    ((codes "4500") ∷ (codes "q") ∷ (codes "s") ∷ (codes "receive") ∷ (codes "ok") ∷ (codes "m-0-3") ∷ (codes "r-0-3-1") ∷ (codes "o-0-3") ∷ []) ∷
    ((codes "4500") ∷ (codes "q") ∷ (codes "s") ∷ (codes "receive") ∷ (codes "ok") ∷ (codes "m-0-4") ∷ (codes "r-0-4-1") ∷ (codes "o-0-4") ∷ []) ∷
    ((codes "4500") ∷ (codes "q") ∷ (codes "s") ∷ (codes "receive") ∷ (codes "ok") ∷ (codes "m-0-5") ∷ (codes "r-0-5-1") ∷ (codes "o-0-5") ∷ []) ∷
    ((codes "4500") ∷ (codes "q") ∷ (codes "s") ∷ (codes "receive") ∷ (codes "ok") ∷ (codes "m-0-6") ∷ (codes "r-0-6-1") ∷ (codes "o-0-6") ∷ []) ∷
    ((codes "4500") ∷ (codes "q") ∷ (codes "s") ∷ (codes "receive") ∷ (codes "ok") ∷ (codes "m-0-7") ∷ (codes "r-0-7-1") ∷ (codes "o-0-7") ∷ []) ∷
    ((codes "4500") ∷ (codes "q") ∷ (codes "s") ∷ (codes "receive") ∷ (codes "ok") ∷ (codes "m-0-8") ∷ (codes "r-0-8-1") ∷ (codes "o-0-8") ∷ []) ∷
    ((codes "4500") ∷ (codes "q") ∷ (codes "s") ∷ (codes "receive") ∷ (codes "ok") ∷ (codes "m-0-9") ∷ (codes "r-0-9-1") ∷ (codes "o-0-9") ∷ []) ∷
    ((codes "5000") ∷ (codes "q") ∷ (codes "x") ∷ (codes "scale") ∷ (codes "ok") ∷ [] ∷ [] ∷ (codes "6/3") ∷ []) ∷
    ((codes "6000") ∷ (codes "q") ∷ (codes "x") ∷ (codes "scale") ∷ (codes "ok") ∷ [] ∷ [] ∷ (codes "3/1") ∷ []) ∷
    ((codes "final") ∷ (codes "queue") ∷ (codes "message") ∷ (codes "origin") ∷ (codes "place") ∷ (codes "due") ∷ (codes "enqueued") ∷ (codes "receives") ∷ (codes "group") ∷ (codes "md5") ∷ []) ∷
    ((codes "final") ∷ (codes "q") ∷ (codes "m-0-0") ∷ (codes "o-0-0") ∷ (codes "inflight") ∷ (codes "34500") ∷ (codes "0") ∷ (codes "1") ∷ [] ∷ digest (codes "0") ∷ []) ∷
    ((codes "final") ∷ (codes "q") ∷ (codes "m-0-1") ∷ (codes "o-0-1") ∷ (codes "inflight") ∷ (codes "34500") ∷ (codes "1") ∷ (codes "1") ∷ [] ∷ digest (codes "1") ∷ []) ∷
    ((codes "final") ∷ (codes "q") ∷ (codes "m-0-2") ∷ (codes "o-0-2") ∷ (codes "inflight") ∷ (codes "34500") ∷ (codes "2") ∷ (codes "1") ∷ [] ∷ digest (codes "2") ∷ []) ∷
    ((codes "final") ∷ (codes "q") ∷ (codes "m-0-3") ∷ (codes "o-0-3") ∷ (codes "inflight") ∷ (codes "34500") ∷ (codes "3") ∷ (codes "1") ∷ [] ∷ digest (codes "3") ∷ []) ∷
    ((codes "final") ∷ (codes "q") ∷ (codes "m-0-4") ∷ (codes "o-0-4") ∷ (codes "inflight") ∷ (codes "34500") ∷ (codes "4") ∷ (codes "1") ∷ [] ∷ digest (codes "4") ∷ []) ∷
    ((codes "final") ∷ (codes "q") ∷ (codes "m-0-5") ∷ (codes "o-0-5") ∷ (codes "inflight") ∷ (codes "34500") ∷ (codes "5") ∷ (codes "1") ∷ [] ∷ digest (codes "5") ∷ []) ∷
    ((codes "final") ∷ (codes "q") ∷ (codes "m-0-6") ∷ (codes "o-0-6") ∷ (codes "inflight") ∷ (codes "34500") ∷ (codes "6") ∷ (codes "1") ∷ [] ∷ digest (codes "6") ∷ []) ∷
    ((codes "final") ∷ (codes "q") ∷ (codes "m-0-7") ∷ (codes "o-0-7") ∷ (codes "inflight") ∷ (codes "34500") ∷ (codes "7") ∷ (codes "1") ∷ [] ∷ digest (codes "7") ∷ []) ∷
    ((codes "final") ∷ (codes "q") ∷ (codes "m-0-8") ∷ (codes "o-0-8") ∷ (codes "inflight") ∷ (codes "34500") ∷ (codes "8") ∷ (codes "1") ∷ [] ∷ digest (codes "8") ∷ []) ∷
    ((codes "final") ∷ (codes "q") ∷ (codes "m-0-9") ∷ (codes "o-0-9") ∷ (codes "inflight") ∷ (codes "34500") ∷ (codes "9") ∷ (codes "1") ∷ [] ∷ digest (codes "9") ∷ []) ∷
    ((codes "final") ∷ (codes "q") ∷ (codes "m-0-10") ∷ (codes "o-0-10") ∷ (codes "visible") ∷ [] ∷ (codes "10") ∷ (codes "0") ∷ [] ∷ digest (codes "10") ∷ []) ∷
    ((codes "final") ∷ (codes "q") ∷ (codes "m-0-11") ∷ (codes "o-0-11") ∷ (codes "visible") ∷ [] ∷ (codes "11") ∷ (codes "0") ∷ [] ∷ digest (codes "11") ∷ []) ∷
    ((codes "transfer") ∷ (codes "from") ∷ (codes "to") ∷ (codes "kind") ∷ (codes "due") ∷ (codes "number") ∷ (codes "message") ∷ (codes "origin") ∷ (codes "md5") ∷ []) ∷
    ((codes "task") ∷ (codes "name") ∷ (codes "status") ∷ (codes "moved") ∷ []) ∷
    ((codes "report") ∷ (codes "queue") ∷ (codes "sends") ∷ (codes "repeats") ∷ (codes "receives") ∷ (codes "empties") ∷ (codes "deletes") ∷ (codes "expiries") ∷ (codes "redrives") ∷ (codes "moves") ∷ (codes "arrivals") ∷ (codes "OverLimit") ∷ (codes "MessageNotInflight") ∷ (codes "ReceiptHandleIsInvalid") ∷ (codes "BadTimeout") ∷ (codes "MissingGroup") ∷ (codes "MissingDeduplication") ∷ (codes "BadDelay") ∷ (codes "TaskRunning") ∷ (codes "NoTask") ∷ (codes "depth_max") ∷ (codes "visible") ∷ (codes "in_flight") ∷ (codes "delayed") ∷ (codes "age_sum") ∷ (codes "age_max") ∷ (codes "age_p50") ∷ (codes "age_p95") ∷ (codes "age_p99") ∷ []) ∷
    ((codes "report") ∷ (codes "q") ∷ (codes "12") ∷ (codes "0") ∷ (codes "10") ∷ (codes "0") ∷ (codes "0") ∷ (codes "0") ∷ (codes "0") ∷ (codes "0") ∷ (codes "0") ∷ (codes "0") ∷ (codes "0") ∷ (codes "0") ∷ (codes "0") ∷ (codes "0") ∷ (codes "0") ∷ (codes "0") ∷ (codes "0") ∷ (codes "0") ∷ (codes "12") ∷ (codes "2") ∷ (codes "10") ∷ (codes "0") ∷ (codes "0") ∷ [] ∷ [] ∷ [] ∷ [] ∷ []) ∷ [])
unfolding reading_on_literals running_on_literals columns_of
case_0_scaler_adds_and_takes_some_at_once = refl

-- version-3/scaler_adds_copies_and_takes_them_away.toml
case_0_scaler_adds_copies_and_takes_them_away : shown_upto 3 84 [] (codes "# Of three copies one asks at first. At 1,000 five messages are visible, which are three copies of two messages each. At\n# 2,000 two are left, so the scaler wants one copy: the other two serve what they have, and then ask no more.\nversion = 3\nhorizon = 8000\n[[queue]]\nname = \"q\"\n[[actor]]\nname = \"s\"\nkind = \"script\"\nqueue = \"q\"\ncalls = \"\"\"\nat,call,body,group,id,delay,receipt,max,wait,timeout,task\n0,send,a,,,,,,,,\n1,send,b,,,,,,,,\n2,send,c,,,,,,,,\n3,send,d,,,,,,,,\n4,send,e,,,,,,,,\n5,send,f,,,,,,,,\n\"\"\"\n[[actor]]\nname = \"x\"\nkind = \"scaler\"\nqueue = \"q\"\nevery_s = 1\nvisible_per_copy = 2\ncopies_max = 3\n[[actor]]\nname = \"w\"\nkind = \"consumer\"\nqueue = \"q\"\nidle_ms = 500\nscaler = \"x\"\ncopies = 3\nservice_min_ms = 1500\nservice_max_ms = 1500\n")
    ≡ ran (((codes "at") ∷ (codes "queue") ∷ (codes "agent") ∷ (codes "call") ∷ (codes "answer") ∷ (codes "message") ∷ (codes "receipt") ∷ (codes "detail") ∷ []) ∷
    ((codes "0") ∷ (codes "q") ∷ (codes "s") ∷ (codes "send") ∷ (codes "new") ∷ (codes "m-0-0") ∷ [] ∷ digest (codes "a") ∷ []) ∷
    ((codes "0") ∷ (codes "q") ∷ (codes "w-1") ∷ (codes "receive") ∷ (codes "ok") ∷ (codes "m-0-0") ∷ (codes "r-0-0-1") ∷ (codes "o-0-0") ∷ []) ∷
    ((codes "1") ∷ (codes "q") ∷ (codes "s") ∷ (codes "send") ∷ (codes "new") ∷ (codes "m-0-1") ∷ [] ∷ digest (codes "b") ∷ []) ∷
    ((codes "2") ∷ (codes "q") ∷ (codes "s") ∷ (codes "send") ∷ (codes "new") ∷ (codes "m-0-2") ∷ [] ∷ digest (codes "c") ∷ []) ∷
    ((codes "3") ∷ (codes "q") ∷ (codes "s") ∷ (codes "send") ∷ (codes "new") ∷ (codes "m-0-3") ∷ [] ∷ digest (codes "d") ∷ []) ∷
    ((codes "4") ∷ (codes "q") ∷ (codes "s") ∷ (codes "send") ∷ (codes "new") ∷ (codes "m-0-4") ∷ [] ∷ digest (codes "e") ∷ []) ∷
    ((codes "5") ∷ (codes "q") ∷ (codes "s") ∷ (codes "send") ∷ (codes "new") ∷ (codes "m-0-5") ∷ [] ∷ digest (codes "f") ∷ []) ∷
    ((codes "1000") ∷ (codes "q") ∷ (codes "x") ∷ (codes "scale") ∷ (codes "ok") ∷ [] ∷ [] ∷ (codes "1/3") ∷ []) ∷
    ((codes "1001") ∷ (codes "q") ∷ (codes "w-2") ∷ (codes "receive") ∷ (codes "ok") ∷ (codes "m-0-1") ∷ (codes "r-0-1-1") ∷ (codes "o-0-1") ∷ []) ∷
    ((codes "1001") ∷ (codes "q") ∷ (codes "w-3") ∷ (codes "receive") ∷ (codes "ok") ∷ (codes "m-0-2") ∷ (codes "r-0-2-1") ∷ (codes "o-0-2") ∷ []) ∷
    ((codes "1500") ∷ (codes "q") ∷ (codes "w-1") ∷ (codes "delete") ∷ (codes "deleted") ∷ (codes "m-0-0") ∷ (codes "r-0-0-1") ∷ (codes "1500") ∷ []) ∷
    ((codes "1501") ∷ (codes "q") ∷ (codes "w-1") ∷ (codes "receive") ∷ (codes "ok") ∷ (codes "m-0-3") ∷ (codes "r-0-3-1") ∷ (codes "o-0-3") ∷ []) ∷
    ((codes "2000") ∷ (codes "q") ∷ (codes "x") ∷ (codes "scale") ∷ (codes "ok") ∷ [] ∷ [] ∷ (codes "3/1") ∷ []) ∷
    ((codes "2501") ∷ (codes "q") ∷ (codes "w-2") ∷ (codes "delete") ∷ (codes "deleted") ∷ (codes "m-0-1") ∷ (codes "r-0-1-1") ∷ (codes "2500") ∷ []) ∷
    ((codes "2501") ∷ (codes "q") ∷ (codes "w-3") ∷ (codes "delete") ∷ (codes "deleted") ∷ (codes "m-0-2") ∷ (codes "r-0-2-1") ∷ (codes "2499") ∷ []) ∷
    ((codes "3001") ∷ (codes "q") ∷ (codes "w-1") ∷ (codes "delete") ∷ (codes "deleted") ∷ (codes "m-0-3") ∷ (codes "r-0-3-1") ∷ (codes "2998") ∷ []) ∷
    ((codes "3002") ∷ (codes "q") ∷ (codes "w-1") ∷ (codes "receive") ∷ (codes "ok") ∷ (codes "m-0-4") ∷ (codes "r-0-4-1") ∷ (codes "o-0-4") ∷ []) ∷
    ((codes "4502") ∷ (codes "q") ∷ (codes "w-1") ∷ (codes "delete") ∷ (codes "deleted") ∷ (codes "m-0-4") ∷ (codes "r-0-4-1") ∷ (codes "4498") ∷ []) ∷
    ((codes "4503") ∷ (codes "q") ∷ (codes "w-1") ∷ (codes "receive") ∷ (codes "ok") ∷ (codes "m-0-5") ∷ (codes "r-0-5-1") ∷ (codes "o-0-5") ∷ []) ∷
    ((codes "6003") ∷ (codes "q") ∷ (codes "w-1") ∷ (codes "delete") ∷ (codes "deleted") ∷ (codes "m-0-5") ∷ (codes "r-0-5-1") ∷ (codes "5998") ∷ []) ∷
    ((codes "6004") ∷ (codes "q") ∷ (codes "w-1") ∷ (codes "receive") ∷ (codes "empty") ∷ [] ∷ [] ∷ [] ∷ []) ∷
    ((codes "6504") ∷ (codes "q") ∷ (codes "w-1") ∷ (codes "receive") ∷ (codes "empty") ∷ [] ∷ [] ∷ [] ∷ []) ∷
    ((codes "7004") ∷ (codes "q") ∷ (codes "w-1") ∷ (codes "receive") ∷ (codes "empty") ∷ [] ∷ [] ∷ [] ∷ []) ∷
    ((codes "7504") ∷ (codes "q") ∷ (codes "w-1") ∷ (codes "receive") ∷ (codes "empty") ∷ [] ∷ [] ∷ [] ∷ []) ∷
    ((codes "final") ∷ (codes "queue") ∷ (codes "message") ∷ (codes "origin") ∷ (codes "place") ∷ (codes "due") ∷ (codes "enqueued") ∷ (codes "receives") ∷ (codes "group") ∷ (codes "md5") ∷ []) ∷
    ((codes "transfer") ∷ (codes "from") ∷ (codes "to") ∷ (codes "kind") ∷ (codes "due") ∷ (codes "number") ∷ (codes "message") ∷ (codes "origin") ∷ (codes "md5") ∷ []) ∷
    ((codes "task") ∷ (codes "name") ∷ (codes "status") ∷ (codes "moved") ∷ []) ∷
    ((codes "report") ∷ (codes "queue") ∷ (codes "sends") ∷ (codes "repeats") ∷ (codes "receives") ∷ (codes "empties") ∷ (codes "deletes") ∷ (codes "expiries") ∷ (codes "redrives") ∷ (codes "moves") ∷ (codes "arrivals") ∷ (codes "OverLimit") ∷ (codes "MessageNotInflight") ∷ (codes "ReceiptHandleIsInvalid") ∷ (codes "BadTimeout") ∷ (codes "MissingGroup") ∷ (codes "MissingDeduplication") ∷ (codes "BadDelay") ∷ (codes "TaskRunning") ∷ (codes "NoTask") ∷ (codes "depth_max") ∷ (codes "visible") ∷ (codes "in_flight") ∷ (codes "delayed") ∷ (codes "age_sum") ∷ (codes "age_max") ∷ (codes "age_p50") ∷ (codes "age_p95") ∷ (codes "age_p99") ∷ []) ∷
    ((codes "report") ∷ (codes "q") ∷ (codes "6") ∷ (codes "0") ∷ (codes "6") ∷ (codes "4") ∷ (codes "6") ∷ (codes "0") ∷ (codes "0") ∷ (codes "0") ∷ (codes "0") ∷ (codes "0") ∷ (codes "0") ∷ (codes "0") ∷ (codes "0") ∷ (codes "0") ∷ (codes "0") ∷ (codes "0") ∷ (codes "0") ∷ (codes "0") ∷ (codes "6") ∷ (codes "0") ∷ (codes "0") ∷ (codes "0") ∷ (codes "19993") ∷ (codes "5998") ∷ (codes "2500") ∷ (codes "5998") ∷ (codes "5998") ∷ []) ∷ [])
unfolding reading_on_literals running_on_literals columns_of
case_0_scaler_adds_copies_and_takes_them_away = refl

-- version-3/scaler_decides_by_an_old_number.toml
case_0_scaler_decides_by_an_old_number : shown_upto 3 82 [] (codes "# It reads at 500, 3,500, 6,500 and 9,500, and decides a second later by what it read. At 4,500 that is one message, though\n# none is visible by then. The copy wakes when its scaler reads and when it decides.\nversion = 3\nhorizon = 11000\n[[queue]]\nname = \"q\"\n[[actor]]\nname = \"s\"\nkind = \"script\"\nqueue = \"q\"\ncalls = \"\"\"\nat,call,body,group,id,delay,receipt,max,wait,timeout,task\n0,send,a,,,,,,,,\n1000,send,b,,,,,,,,\n3499,send,c,,,,,,,,\n8000,send,d,,,,,,,,\n\"\"\"\n[[actor]]\nname = \"x\"\nkind = \"scaler\"\nqueue = \"q\"\nstart_ms = 500\nevery_s = 3\nreading_s = 1\nvisible_per_copy = 1\ncopies_min = 0\ncopies_max = 5\n[[actor]]\nname = \"w\"\nkind = \"consumer\"\nqueue = \"q\"\nscaler = \"x\"\nservice_min_ms = 100\nservice_max_ms = 100\n")
    ≡ ran (((codes "at") ∷ (codes "queue") ∷ (codes "agent") ∷ (codes "call") ∷ (codes "answer") ∷ (codes "message") ∷ (codes "receipt") ∷ (codes "detail") ∷ []) ∷
    ((codes "0") ∷ (codes "q") ∷ (codes "s") ∷ (codes "send") ∷ (codes "new") ∷ (codes "m-0-0") ∷ [] ∷ digest (codes "a") ∷ []) ∷
    ((codes "1000") ∷ (codes "q") ∷ (codes "s") ∷ (codes "send") ∷ (codes "new") ∷ (codes "m-0-1") ∷ [] ∷ digest (codes "b") ∷ []) ∷
    ((codes "1500") ∷ (codes "q") ∷ (codes "x") ∷ (codes "scale") ∷ (codes "ok") ∷ [] ∷ [] ∷ (codes "0/1") ∷ []) ∷
    ((codes "1501") ∷ (codes "q") ∷ (codes "w") ∷ (codes "receive") ∷ (codes "ok") ∷ (codes "m-0-0") ∷ (codes "r-0-0-1") ∷ (codes "o-0-0") ∷ []) ∷
    ((codes "1601") ∷ (codes "q") ∷ (codes "w") ∷ (codes "delete") ∷ (codes "deleted") ∷ (codes "m-0-0") ∷ (codes "r-0-0-1") ∷ (codes "1601") ∷ []) ∷
    ((codes "1602") ∷ (codes "q") ∷ (codes "w") ∷ (codes "receive") ∷ (codes "ok") ∷ (codes "m-0-1") ∷ (codes "r-0-1-1") ∷ (codes "o-0-1") ∷ []) ∷
    ((codes "1702") ∷ (codes "q") ∷ (codes "w") ∷ (codes "delete") ∷ (codes "deleted") ∷ (codes "m-0-1") ∷ (codes "r-0-1-1") ∷ (codes "702") ∷ []) ∷
    ((codes "1703") ∷ (codes "q") ∷ (codes "w") ∷ (codes "receive") ∷ (codes "empty") ∷ [] ∷ [] ∷ [] ∷ []) ∷
    ((codes "2703") ∷ (codes "q") ∷ (codes "w") ∷ (codes "receive") ∷ (codes "empty") ∷ [] ∷ [] ∷ [] ∷ []) ∷
    ((codes "3499") ∷ (codes "q") ∷ (codes "s") ∷ (codes "send") ∷ (codes "new") ∷ (codes "m-0-2") ∷ [] ∷ digest (codes "c") ∷ []) ∷
    ((codes "3703") ∷ (codes "q") ∷ (codes "w") ∷ (codes "receive") ∷ (codes "ok") ∷ (codes "m-0-2") ∷ (codes "r-0-2-1") ∷ (codes "o-0-2") ∷ []) ∷
    ((codes "3803") ∷ (codes "q") ∷ (codes "w") ∷ (codes "delete") ∷ (codes "deleted") ∷ (codes "m-0-2") ∷ (codes "r-0-2-1") ∷ (codes "304") ∷ []) ∷
    ((codes "3804") ∷ (codes "q") ∷ (codes "w") ∷ (codes "receive") ∷ (codes "empty") ∷ [] ∷ [] ∷ [] ∷ []) ∷
    ((codes "4804") ∷ (codes "q") ∷ (codes "w") ∷ (codes "receive") ∷ (codes "empty") ∷ [] ∷ [] ∷ [] ∷ []) ∷
    ((codes "5804") ∷ (codes "q") ∷ (codes "w") ∷ (codes "receive") ∷ (codes "empty") ∷ [] ∷ [] ∷ [] ∷ []) ∷
    ((codes "6804") ∷ (codes "q") ∷ (codes "w") ∷ (codes "receive") ∷ (codes "empty") ∷ [] ∷ [] ∷ [] ∷ []) ∷
    ((codes "7500") ∷ (codes "q") ∷ (codes "x") ∷ (codes "scale") ∷ (codes "ok") ∷ [] ∷ [] ∷ (codes "1/0") ∷ []) ∷
    ((codes "8000") ∷ (codes "q") ∷ (codes "s") ∷ (codes "send") ∷ (codes "new") ∷ (codes "m-0-3") ∷ [] ∷ digest (codes "d") ∷ []) ∷
    ((codes "10500") ∷ (codes "q") ∷ (codes "x") ∷ (codes "scale") ∷ (codes "ok") ∷ [] ∷ [] ∷ (codes "0/1") ∷ []) ∷
    ((codes "10501") ∷ (codes "q") ∷ (codes "w") ∷ (codes "receive") ∷ (codes "ok") ∷ (codes "m-0-3") ∷ (codes "r-0-3-1") ∷ (codes "o-0-3") ∷ []) ∷
    ((codes "10601") ∷ (codes "q") ∷ (codes "w") ∷ (codes "delete") ∷ (codes "deleted") ∷ (codes "m-0-3") ∷ (codes "r-0-3-1") ∷ (codes "2601") ∷ []) ∷
    ((codes "10602") ∷ (codes "q") ∷ (codes "w") ∷ (codes "receive") ∷ (codes "empty") ∷ [] ∷ [] ∷ [] ∷ []) ∷
    ((codes "final") ∷ (codes "queue") ∷ (codes "message") ∷ (codes "origin") ∷ (codes "place") ∷ (codes "due") ∷ (codes "enqueued") ∷ (codes "receives") ∷ (codes "group") ∷ (codes "md5") ∷ []) ∷
    ((codes "transfer") ∷ (codes "from") ∷ (codes "to") ∷ (codes "kind") ∷ (codes "due") ∷ (codes "number") ∷ (codes "message") ∷ (codes "origin") ∷ (codes "md5") ∷ []) ∷
    ((codes "task") ∷ (codes "name") ∷ (codes "status") ∷ (codes "moved") ∷ []) ∷
    ((codes "report") ∷ (codes "queue") ∷ (codes "sends") ∷ (codes "repeats") ∷ (codes "receives") ∷ (codes "empties") ∷ (codes "deletes") ∷ (codes "expiries") ∷ (codes "redrives") ∷ (codes "moves") ∷ (codes "arrivals") ∷ (codes "OverLimit") ∷ (codes "MessageNotInflight") ∷ (codes "ReceiptHandleIsInvalid") ∷ (codes "BadTimeout") ∷ (codes "MissingGroup") ∷ (codes "MissingDeduplication") ∷ (codes "BadDelay") ∷ (codes "TaskRunning") ∷ (codes "NoTask") ∷ (codes "depth_max") ∷ (codes "visible") ∷ (codes "in_flight") ∷ (codes "delayed") ∷ (codes "age_sum") ∷ (codes "age_max") ∷ (codes "age_p50") ∷ (codes "age_p95") ∷ (codes "age_p99") ∷ []) ∷
    ((codes "report") ∷ (codes "q") ∷ (codes "4") ∷ (codes "0") ∷ (codes "4") ∷ (codes "7") ∷ (codes "4") ∷ (codes "0") ∷ (codes "0") ∷ (codes "0") ∷ (codes "0") ∷ (codes "0") ∷ (codes "0") ∷ (codes "0") ∷ (codes "0") ∷ (codes "0") ∷ (codes "0") ∷ (codes "0") ∷ (codes "0") ∷ (codes "0") ∷ (codes "2") ∷ (codes "0") ∷ (codes "0") ∷ (codes "0") ∷ (codes "5208") ∷ (codes "2601") ∷ (codes "702") ∷ (codes "2601") ∷ (codes "2601") ∷ []) ∷ [])
unfolding reading_on_literals running_on_literals columns_of
case_0_scaler_decides_by_an_old_number = refl

-- version-3/scaler_of_a_fixed_number.toml
case_0_scaler_of_a_fixed_number : shown_upto 3 76 [] (codes "# Two of three copies ask, whatever is visible: the log is that of two consumers.\nversion = 3\nhorizon = 1000\n[[queue]]\nname = \"q\"\n[[actor]]\nname = \"s\"\nkind = \"script\"\nqueue = \"q\"\ncalls = \"\"\"\nat,call,body,group,id,delay,receipt,max,wait,timeout,task\n0,send,a,,,,,,,,\n1,send,b,,,,,,,,\n2,send,c,,,,,,,,\n3,send,d,,,,,,,,\n\"\"\"\n[[actor]]\nname = \"w\"\nkind = \"consumer\"\nqueue = \"q\"\nstart_ms = 10\nidle_ms = 400\nscaler = \"x\"\nscaler_start_ms = 500\ncopies = 3\nservice_min_ms = 100\nservice_max_ms = 100\n[[actor]]\nname = \"x\"\nkind = \"scaler\"\nqueue = \"q\"\nevery_s = 1\nvisible_per_copy = 1\ncopies_min = 2\ncopies_max = 2\n")
    ≡ ran (((codes "at") ∷ (codes "queue") ∷ (codes "agent") ∷ (codes "call") ∷ (codes "answer") ∷ (codes "message") ∷ (codes "receipt") ∷ (codes "detail") ∷ []) ∷
    ((codes "0") ∷ (codes "q") ∷ (codes "s") ∷ (codes "send") ∷ (codes "new") ∷ (codes "m-0-0") ∷ [] ∷ digest (codes "a") ∷ []) ∷
    ((codes "1") ∷ (codes "q") ∷ (codes "s") ∷ (codes "send") ∷ (codes "new") ∷ (codes "m-0-1") ∷ [] ∷ digest (codes "b") ∷ []) ∷
    ((codes "2") ∷ (codes "q") ∷ (codes "s") ∷ (codes "send") ∷ (codes "new") ∷ (codes "m-0-2") ∷ [] ∷ digest (codes "c") ∷ []) ∷
    ((codes "3") ∷ (codes "q") ∷ (codes "s") ∷ (codes "send") ∷ (codes "new") ∷ (codes "m-0-3") ∷ [] ∷ digest (codes "d") ∷ []) ∷
    ((codes "10") ∷ (codes "q") ∷ (codes "w-1") ∷ (codes "receive") ∷ (codes "ok") ∷ (codes "m-0-0") ∷ (codes "r-0-0-1") ∷ (codes "o-0-0") ∷ []) ∷
    ((codes "10") ∷ (codes "q") ∷ (codes "w-2") ∷ (codes "receive") ∷ (codes "ok") ∷ (codes "m-0-1") ∷ (codes "r-0-1-1") ∷ (codes "o-0-1") ∷ []) ∷
    ((codes "110") ∷ (codes "q") ∷ (codes "w-1") ∷ (codes "delete") ∷ (codes "deleted") ∷ (codes "m-0-0") ∷ (codes "r-0-0-1") ∷ (codes "110") ∷ []) ∷
    ((codes "110") ∷ (codes "q") ∷ (codes "w-2") ∷ (codes "delete") ∷ (codes "deleted") ∷ (codes "m-0-1") ∷ (codes "r-0-1-1") ∷ (codes "109") ∷ []) ∷
    ((codes "111") ∷ (codes "q") ∷ (codes "w-1") ∷ (codes "receive") ∷ (codes "ok") ∷ (codes "m-0-2") ∷ (codes "r-0-2-1") ∷ (codes "o-0-2") ∷ []) ∷
    ((codes "111") ∷ (codes "q") ∷ (codes "w-2") ∷ (codes "receive") ∷ (codes "ok") ∷ (codes "m-0-3") ∷ (codes "r-0-3-1") ∷ (codes "o-0-3") ∷ []) ∷
    ((codes "211") ∷ (codes "q") ∷ (codes "w-1") ∷ (codes "delete") ∷ (codes "deleted") ∷ (codes "m-0-2") ∷ (codes "r-0-2-1") ∷ (codes "209") ∷ []) ∷
    ((codes "211") ∷ (codes "q") ∷ (codes "w-2") ∷ (codes "delete") ∷ (codes "deleted") ∷ (codes "m-0-3") ∷ (codes "r-0-3-1") ∷ (codes "208") ∷ []) ∷
    ((codes "212") ∷ (codes "q") ∷ (codes "w-1") ∷ (codes "receive") ∷ (codes "empty") ∷ [] ∷ [] ∷ [] ∷ []) ∷
    ((codes "212") ∷ (codes "q") ∷ (codes "w-2") ∷ (codes "receive") ∷ (codes "empty") ∷ [] ∷ [] ∷ [] ∷ []) ∷
    ((codes "612") ∷ (codes "q") ∷ (codes "w-1") ∷ (codes "receive") ∷ (codes "empty") ∷ [] ∷ [] ∷ [] ∷ []) ∷
    ((codes "612") ∷ (codes "q") ∷ (codes "w-2") ∷ (codes "receive") ∷ (codes "empty") ∷ [] ∷ [] ∷ [] ∷ []) ∷
    ((codes "final") ∷ (codes "queue") ∷ (codes "message") ∷ (codes "origin") ∷ (codes "place") ∷ (codes "due") ∷ (codes "enqueued") ∷ (codes "receives") ∷ (codes "group") ∷ (codes "md5") ∷ []) ∷
    ((codes "transfer") ∷ (codes "from") ∷ (codes "to") ∷ (codes "kind") ∷ (codes "due") ∷ (codes "number") ∷ (codes "message") ∷ (codes "origin") ∷ (codes "md5") ∷ []) ∷
    ((codes "task") ∷ (codes "name") ∷ (codes "status") ∷ (codes "moved") ∷ []) ∷
    ((codes "report") ∷ (codes "queue") ∷ (codes "sends") ∷ (codes "repeats") ∷ (codes "receives") ∷ (codes "empties") ∷ (codes "deletes") ∷ (codes "expiries") ∷ (codes "redrives") ∷ (codes "moves") ∷ (codes "arrivals") ∷ (codes "OverLimit") ∷ (codes "MessageNotInflight") ∷ (codes "ReceiptHandleIsInvalid") ∷ (codes "BadTimeout") ∷ (codes "MissingGroup") ∷ (codes "MissingDeduplication") ∷ (codes "BadDelay") ∷ (codes "TaskRunning") ∷ (codes "NoTask") ∷ (codes "depth_max") ∷ (codes "visible") ∷ (codes "in_flight") ∷ (codes "delayed") ∷ (codes "age_sum") ∷ (codes "age_max") ∷ (codes "age_p50") ∷ (codes "age_p95") ∷ (codes "age_p99") ∷ []) ∷
    ((codes "report") ∷ (codes "q") ∷ (codes "4") ∷ (codes "0") ∷ (codes "4") ∷ (codes "4") ∷ (codes "4") ∷ (codes "0") ∷ (codes "0") ∷ (codes "0") ∷ (codes "0") ∷ (codes "0") ∷ (codes "0") ∷ (codes "0") ∷ (codes "0") ∷ (codes "0") ∷ (codes "0") ∷ (codes "0") ∷ (codes "0") ∷ (codes "0") ∷ (codes "4") ∷ (codes "0") ∷ (codes "0") ∷ (codes "0") ∷ (codes "636") ∷ (codes "209") ∷ (codes "110") ∷ (codes "209") ∷ (codes "209") ∷ []) ∷ [])
unfolding reading_on_literals running_on_literals columns_of
case_0_scaler_of_a_fixed_number = refl

-- version-3/scaler_waits_for_its_cooldowns.toml
case_0_scaler_waits_for_its_cooldowns : shown_upto 3 71 [] (codes "# No copy is added within 2 seconds of a change, and none taken away within 3. Before the first change that counts from 0.\n# At the end of a cooldown it is over. Nobody goes by this scaler.\nversion = 3\nhorizon = 10000\n[[queue]]\nname = \"q\"\n[[actor]]\nname = \"x\"\nkind = \"scaler\"\nqueue = \"q\"\nevery_s = 1\nvisible_per_copy = 1\ncopies_min = 0\ncopies_max = 9\nadded_max = 1\ncooldown_out_s = 2\ncooldown_in_s = 3\n[[actor]]\nname = \"s\"\nkind = \"script\"\nqueue = \"q\"\ncalls = \"\"\"\nat,call,body,group,id,delay,receipt,max,wait,timeout,task\n500,send,a,,,,,,,,\n501,send,b,,,,,,,,\n502,send,c,,,,,,,,\n4500,receive,,,,,,3,,,\n7500,send,d,,,,,,,,\n\"\"\"\n")
    ≡ ran (((codes "at") ∷ (codes "queue") ∷ (codes "agent") ∷ (codes "call") ∷ (codes "answer") ∷ (codes "message") ∷ (codes "receipt") ∷ (codes "detail") ∷ []) ∷
    ((codes "500") ∷ (codes "q") ∷ (codes "s") ∷ (codes "send") ∷ (codes "new") ∷ (codes "m-0-0") ∷ [] ∷ digest (codes "a") ∷ []) ∷
    ((codes "501") ∷ (codes "q") ∷ (codes "s") ∷ (codes "send") ∷ (codes "new") ∷ (codes "m-0-1") ∷ [] ∷ digest (codes "b") ∷ []) ∷
    ((codes "502") ∷ (codes "q") ∷ (codes "s") ∷ (codes "send") ∷ (codes "new") ∷ (codes "m-0-2") ∷ [] ∷ digest (codes "c") ∷ []) ∷
    ((codes "2000") ∷ (codes "q") ∷ (codes "x") ∷ (codes "scale") ∷ (codes "ok") ∷ [] ∷ [] ∷ (codes "0/1") ∷ []) ∷
    ((codes "4000") ∷ (codes "q") ∷ (codes "x") ∷ (codes "scale") ∷ (codes "ok") ∷ [] ∷ [] ∷ (codes "1/2") ∷ []) ∷
    ((codes "4500") ∷ (codes "q") ∷ (codes "s") ∷ (codes "receive") ∷ (codes "ok") ∷ (codes "m-0-0") ∷ (codes "r-0-0-1") ∷ (codes "o-0-0") ∷ []) ∷
    ((codes "4500") ∷ (codes "q") ∷ (codes "s") ∷ (codes "receive") ∷ (codes "ok") ∷ (codes "m-0-1") ∷ (codes "r-0-1-1") ∷ (codes "o-0-1") ∷ []) ∷
    ((codes "4500") ∷ (codes "q") ∷ (codes "s") ∷ (codes "receive") ∷ (codes "ok") ∷ (codes "m-0-2") ∷ (codes "r-0-2-1") ∷ (codes "o-0-2") ∷ []) ∷
    ((codes "7000") ∷ (codes "q") ∷ (codes "x") ∷ (codes "scale") ∷ (codes "ok") ∷ [] ∷ [] ∷ (codes "2/0") ∷ []) ∷
    ((codes "7500") ∷ (codes "q") ∷ (codes "s") ∷ (codes "send") ∷ (codes "new") ∷ (codes "m-0-3") ∷ [] ∷ digest (codes "d") ∷ []) ∷
    ((codes "9000") ∷ (codes "q") ∷ (codes "x") ∷ (codes "scale") ∷ (codes "ok") ∷ [] ∷ [] ∷ (codes "0/1") ∷ []) ∷
    ((codes "final") ∷ (codes "queue") ∷ (codes "message") ∷ (codes "origin") ∷ (codes "place") ∷ (codes "due") ∷ (codes "enqueued") ∷ (codes "receives") ∷ (codes "group") ∷ (codes "md5") ∷ []) ∷
    ((codes "final") ∷ (codes "q") ∷ (codes "m-0-0") ∷ (codes "o-0-0") ∷ (codes "inflight") ∷ (codes "34500") ∷ (codes "500") ∷ (codes "1") ∷ [] ∷ digest (codes "a") ∷ []) ∷
    ((codes "final") ∷ (codes "q") ∷ (codes "m-0-1") ∷ (codes "o-0-1") ∷ (codes "inflight") ∷ (codes "34500") ∷ (codes "501") ∷ (codes "1") ∷ [] ∷ digest (codes "b") ∷ []) ∷
    ((codes "final") ∷ (codes "q") ∷ (codes "m-0-2") ∷ (codes "o-0-2") ∷ (codes "inflight") ∷ (codes "34500") ∷ (codes "502") ∷ (codes "1") ∷ [] ∷ digest (codes "c") ∷ []) ∷
    ((codes "final") ∷ (codes "q") ∷ (codes "m-0-3") ∷ (codes "o-0-3") ∷ (codes "visible") ∷ [] ∷ (codes "7500") ∷ (codes "0") ∷ [] ∷ digest (codes "d") ∷ []) ∷
    ((codes "transfer") ∷ (codes "from") ∷ (codes "to") ∷ (codes "kind") ∷ (codes "due") ∷ (codes "number") ∷ (codes "message") ∷ (codes "origin") ∷ (codes "md5") ∷ []) ∷
    ((codes "task") ∷ (codes "name") ∷ (codes "status") ∷ (codes "moved") ∷ []) ∷
    ((codes "report") ∷ (codes "queue") ∷ (codes "sends") ∷ (codes "repeats") ∷ (codes "receives") ∷ (codes "empties") ∷ (codes "deletes") ∷ (codes "expiries") ∷ (codes "redrives") ∷ (codes "moves") ∷ (codes "arrivals") ∷ (codes "OverLimit") ∷ (codes "MessageNotInflight") ∷ (codes "ReceiptHandleIsInvalid") ∷ (codes "BadTimeout") ∷ (codes "MissingGroup") ∷ (codes "MissingDeduplication") ∷ (codes "BadDelay") ∷ (codes "TaskRunning") ∷ (codes "NoTask") ∷ (codes "depth_max") ∷ (codes "visible") ∷ (codes "in_flight") ∷ (codes "delayed") ∷ (codes "age_sum") ∷ (codes "age_max") ∷ (codes "age_p50") ∷ (codes "age_p95") ∷ (codes "age_p99") ∷ []) ∷
    ((codes "report") ∷ (codes "q") ∷ (codes "4") ∷ (codes "0") ∷ (codes "3") ∷ (codes "0") ∷ (codes "0") ∷ (codes "0") ∷ (codes "0") ∷ (codes "0") ∷ (codes "0") ∷ (codes "0") ∷ (codes "0") ∷ (codes "0") ∷ (codes "0") ∷ (codes "0") ∷ (codes "0") ∷ (codes "0") ∷ (codes "0") ∷ (codes "0") ∷ (codes "4") ∷ (codes "1") ∷ (codes "3") ∷ (codes "0") ∷ (codes "0") ∷ [] ∷ [] ∷ [] ∷ [] ∷ []) ∷ [])
unfolding reading_on_literals running_on_literals columns_of
case_0_scaler_waits_for_its_cooldowns = refl

-- version-3/scalers_of_two_queues.toml
case_0_scalers_of_two_queues : shown_upto 3 86 [] (codes "# Each scaler counts what is visible in its own queue. Messages served at q go to p, where v-1 rests until 5,000.\nversion = 3\nhorizon = 3000\n[[queue]]\nname = \"q\"\n[[queue]]\nname = \"p\"\n[[actor]]\nname = \"s\"\nkind = \"script\"\nqueue = \"q\"\ncalls = \"\"\"\nat,call,body,group,id,delay,receipt,max,wait,timeout,task\n0,send,a,,,,,,,,\n1,send,b,,,,,,,,\n2,send,c,,,,,,,,\n\"\"\"\n[[actor]]\nname = \"x\"\nkind = \"scaler\"\nqueue = \"q\"\nevery_s = 1\nvisible_per_copy = 1\ncopies_max = 2\n[[actor]]\nname = \"y\"\nkind = \"scaler\"\nqueue = \"p\"\nstart_ms = 500\nevery_s = 1\nvisible_per_copy = 2\ncopies_max = 2\n[[actor]]\nname = \"w\"\nkind = \"consumer\"\nqueue = \"q\"\nstart_ms = 10\nidle_ms = 5000\nforward = \"p\"\nlatency_min_ms = 500\nlatency_max_ms = 500\nscaler = \"x\"\ncopies = 2\nservice_min_ms = 300\nservice_max_ms = 300\n[[actor]]\nname = \"v\"\nkind = \"consumer\"\nqueue = \"p\"\nidle_ms = 5000\nscaler = \"y\"\ncopies = 2\nservice_min_ms = 300\nservice_max_ms = 300\n")
    ≡ ran (((codes "at") ∷ (codes "queue") ∷ (codes "agent") ∷ (codes "call") ∷ (codes "answer") ∷ (codes "message") ∷ (codes "receipt") ∷ (codes "detail") ∷ []) ∷
    ((codes "0") ∷ (codes "q") ∷ (codes "s") ∷ (codes "send") ∷ (codes "new") ∷ (codes "m-0-0") ∷ [] ∷ digest (codes "a") ∷ []) ∷
    ((codes "0") ∷ (codes "p") ∷ (codes "v-1") ∷ (codes "receive") ∷ (codes "empty") ∷ [] ∷ [] ∷ [] ∷ []) ∷
    ((codes "1") ∷ (codes "q") ∷ (codes "s") ∷ (codes "send") ∷ (codes "new") ∷ (codes "m-0-1") ∷ [] ∷ digest (codes "b") ∷ []) ∷
    ((codes "2") ∷ (codes "q") ∷ (codes "s") ∷ (codes "send") ∷ (codes "new") ∷ (codes "m-0-2") ∷ [] ∷ digest (codes "c") ∷ []) ∷
    ((codes "10") ∷ (codes "q") ∷ (codes "w-1") ∷ (codes "receive") ∷ (codes "ok") ∷ (codes "m-0-0") ∷ (codes "r-0-0-1") ∷ (codes "o-0-0") ∷ []) ∷
    ((codes "310") ∷ (codes "q") ∷ (codes "w-1") ∷ (codes "forward") ∷ (codes "out") ∷ (codes "m-0-0") ∷ [] ∷ (codes "p") ∷ []) ∷
    ((codes "310") ∷ (codes "q") ∷ (codes "w-1") ∷ (codes "delete") ∷ (codes "deleted") ∷ (codes "m-0-0") ∷ (codes "r-0-0-1") ∷ (codes "310") ∷ []) ∷
    ((codes "311") ∷ (codes "q") ∷ (codes "w-1") ∷ (codes "receive") ∷ (codes "ok") ∷ (codes "m-0-1") ∷ (codes "r-0-1-1") ∷ (codes "o-0-1") ∷ []) ∷
    ((codes "611") ∷ (codes "q") ∷ (codes "w-1") ∷ (codes "forward") ∷ (codes "out") ∷ (codes "m-0-1") ∷ [] ∷ (codes "p") ∷ []) ∷
    ((codes "611") ∷ (codes "q") ∷ (codes "w-1") ∷ (codes "delete") ∷ (codes "deleted") ∷ (codes "m-0-1") ∷ (codes "r-0-1-1") ∷ (codes "610") ∷ []) ∷
    ((codes "612") ∷ (codes "q") ∷ (codes "w-1") ∷ (codes "receive") ∷ (codes "ok") ∷ (codes "m-0-2") ∷ (codes "r-0-2-1") ∷ (codes "o-0-2") ∷ []) ∷
    ((codes "810") ∷ (codes "p") ∷ (codes "w-1") ∷ (codes "arrive") ∷ (codes "new") ∷ (codes "m-1-0") ∷ [] ∷ (codes "o-1-0") ∷ []) ∷
    ((codes "912") ∷ (codes "q") ∷ (codes "w-1") ∷ (codes "forward") ∷ (codes "out") ∷ (codes "m-0-2") ∷ [] ∷ (codes "p") ∷ []) ∷
    ((codes "912") ∷ (codes "q") ∷ (codes "w-1") ∷ (codes "delete") ∷ (codes "deleted") ∷ (codes "m-0-2") ∷ (codes "r-0-2-1") ∷ (codes "910") ∷ []) ∷
    ((codes "913") ∷ (codes "q") ∷ (codes "w-1") ∷ (codes "receive") ∷ (codes "empty") ∷ [] ∷ [] ∷ [] ∷ []) ∷
    ((codes "1111") ∷ (codes "p") ∷ (codes "w-1") ∷ (codes "arrive") ∷ (codes "new") ∷ (codes "m-1-1") ∷ [] ∷ (codes "o-1-1") ∷ []) ∷
    ((codes "1412") ∷ (codes "p") ∷ (codes "w-1") ∷ (codes "arrive") ∷ (codes "new") ∷ (codes "m-1-2") ∷ [] ∷ (codes "o-1-2") ∷ []) ∷
    ((codes "1500") ∷ (codes "p") ∷ (codes "y") ∷ (codes "scale") ∷ (codes "ok") ∷ [] ∷ [] ∷ (codes "1/2") ∷ []) ∷
    ((codes "1501") ∷ (codes "p") ∷ (codes "v-2") ∷ (codes "receive") ∷ (codes "ok") ∷ (codes "m-1-0") ∷ (codes "r-1-0-1") ∷ (codes "o-1-0") ∷ []) ∷
    ((codes "1801") ∷ (codes "p") ∷ (codes "v-2") ∷ (codes "delete") ∷ (codes "deleted") ∷ (codes "m-1-0") ∷ (codes "r-1-0-1") ∷ (codes "991") ∷ []) ∷
    ((codes "1802") ∷ (codes "p") ∷ (codes "v-2") ∷ (codes "receive") ∷ (codes "ok") ∷ (codes "m-1-1") ∷ (codes "r-1-1-1") ∷ (codes "o-1-1") ∷ []) ∷
    ((codes "2102") ∷ (codes "p") ∷ (codes "v-2") ∷ (codes "delete") ∷ (codes "deleted") ∷ (codes "m-1-1") ∷ (codes "r-1-1-1") ∷ (codes "991") ∷ []) ∷
    ((codes "2103") ∷ (codes "p") ∷ (codes "v-2") ∷ (codes "receive") ∷ (codes "ok") ∷ (codes "m-1-2") ∷ (codes "r-1-2-1") ∷ (codes "o-1-2") ∷ []) ∷
    ((codes "2403") ∷ (codes "p") ∷ (codes "v-2") ∷ (codes "delete") ∷ (codes "deleted") ∷ (codes "m-1-2") ∷ (codes "r-1-2-1") ∷ (codes "991") ∷ []) ∷
    ((codes "2404") ∷ (codes "p") ∷ (codes "v-2") ∷ (codes "receive") ∷ (codes "empty") ∷ [] ∷ [] ∷ [] ∷ []) ∷
    ((codes "2500") ∷ (codes "p") ∷ (codes "y") ∷ (codes "scale") ∷ (codes "ok") ∷ [] ∷ [] ∷ (codes "2/1") ∷ []) ∷
    ((codes "final") ∷ (codes "queue") ∷ (codes "message") ∷ (codes "origin") ∷ (codes "place") ∷ (codes "due") ∷ (codes "enqueued") ∷ (codes "receives") ∷ (codes "group") ∷ (codes "md5") ∷ []) ∷
    ((codes "transfer") ∷ (codes "from") ∷ (codes "to") ∷ (codes "kind") ∷ (codes "due") ∷ (codes "number") ∷ (codes "message") ∷ (codes "origin") ∷ (codes "md5") ∷ []) ∷
    ((codes "task") ∷ (codes "name") ∷ (codes "status") ∷ (codes "moved") ∷ []) ∷
    ((codes "report") ∷ (codes "queue") ∷ (codes "sends") ∷ (codes "repeats") ∷ (codes "receives") ∷ (codes "empties") ∷ (codes "deletes") ∷ (codes "expiries") ∷ (codes "redrives") ∷ (codes "moves") ∷ (codes "arrivals") ∷ (codes "OverLimit") ∷ (codes "MessageNotInflight") ∷ (codes "ReceiptHandleIsInvalid") ∷ (codes "BadTimeout") ∷ (codes "MissingGroup") ∷ (codes "MissingDeduplication") ∷ (codes "BadDelay") ∷ (codes "TaskRunning") ∷ (codes "NoTask") ∷ (codes "depth_max") ∷ (codes "visible") ∷ (codes "in_flight") ∷ (codes "delayed") ∷ (codes "age_sum") ∷ (codes "age_max") ∷ (codes "age_p50") ∷ (codes "age_p95") ∷ (codes "age_p99") ∷ []) ∷
    ((codes "report") ∷ (codes "q") ∷ (codes "3") ∷ (codes "0") ∷ (codes "3") ∷ (codes "1") ∷ (codes "3") ∷ (codes "0") ∷ (codes "0") ∷ (codes "0") ∷ (codes "0") ∷ (codes "0") ∷ (codes "0") ∷ (codes "0") ∷ (codes "0") ∷ (codes "0") ∷ (codes "0") ∷ (codes "0") ∷ (codes "0") ∷ (codes "0") ∷ (codes "3") ∷ (codes "0") ∷ (codes "0") ∷ (codes "0") ∷ (codes "1830") ∷ (codes "910") ∷ (codes "610") ∷ (codes "910") ∷ (codes "910") ∷ []) ∷
    ((codes "report") ∷ (codes "p") ∷ (codes "0") ∷ (codes "0") ∷ (codes "3") ∷ (codes "2") ∷ (codes "3") ∷ (codes "0") ∷ (codes "0") ∷ (codes "0") ∷ (codes "3") ∷ (codes "0") ∷ (codes "0") ∷ (codes "0") ∷ (codes "0") ∷ (codes "0") ∷ (codes "0") ∷ (codes "0") ∷ (codes "0") ∷ (codes "0") ∷ (codes "3") ∷ (codes "0") ∷ (codes "0") ∷ (codes "0") ∷ (codes "2973") ∷ (codes "991") ∷ (codes "991") ∷ (codes "991") ∷ (codes "991") ∷ []) ∷ [])
unfolding reading_on_literals running_on_literals columns_of
case_0_scalers_of_two_queues = refl

-- version-3/service_between_two_permilles.toml
case_0_service_between_two_permilles : shown_upto 3 64 [] (codes "# The first word of agent 1 has the position 839.344021, which is between the permilles 839 and 840: 10 + 0.344021 *\n# 1000 = 354.02, so the service takes 354 ms and ends at 364.\nversion = 3\nhorizon = 400\n[[queue]]\nname = \"q\"\n[[actor]]\nname = \"c\"\nkind = \"consumer\"\nqueue = \"q\"\nstart_ms = 10\nwait_s = 20\nservice = [[0, 1], [839, 10], [840, 1010], [1000, 1010]]\n[[actor]]\nname = \"s\"\nkind = \"script\"\nqueue = \"q\"\ncalls = \"\"\"\nat,call,body,group,id,delay,receipt,max,wait,timeout,task\n0,send,a,,,,,,,,\n\"\"\"\n")
    ≡ ran (((codes "at") ∷ (codes "queue") ∷ (codes "agent") ∷ (codes "call") ∷ (codes "answer") ∷ (codes "message") ∷ (codes "receipt") ∷ (codes "detail") ∷ []) ∷
    ((codes "0") ∷ (codes "q") ∷ (codes "s") ∷ (codes "send") ∷ (codes "new") ∷ (codes "m-0-0") ∷ [] ∷ digest (codes "a") ∷ []) ∷
    ((codes "10") ∷ (codes "q") ∷ (codes "c") ∷ (codes "receive") ∷ (codes "ok") ∷ (codes "m-0-0") ∷ (codes "r-0-0-1") ∷ (codes "o-0-0") ∷ []) ∷
    ((codes "364") ∷ (codes "q") ∷ (codes "c") ∷ (codes "delete") ∷ (codes "deleted") ∷ (codes "m-0-0") ∷ (codes "r-0-0-1") ∷ (codes "364") ∷ []) ∷
    ((codes "365") ∷ (codes "q") ∷ (codes "c") ∷ (codes "receive") ∷ (codes "wait") ∷ [] ∷ [] ∷ [] ∷ []) ∷
    ((codes "final") ∷ (codes "queue") ∷ (codes "message") ∷ (codes "origin") ∷ (codes "place") ∷ (codes "due") ∷ (codes "enqueued") ∷ (codes "receives") ∷ (codes "group") ∷ (codes "md5") ∷ []) ∷
    ((codes "transfer") ∷ (codes "from") ∷ (codes "to") ∷ (codes "kind") ∷ (codes "due") ∷ (codes "number") ∷ (codes "message") ∷ (codes "origin") ∷ (codes "md5") ∷ []) ∷
    ((codes "task") ∷ (codes "name") ∷ (codes "status") ∷ (codes "moved") ∷ []) ∷
    ((codes "report") ∷ (codes "queue") ∷ (codes "sends") ∷ (codes "repeats") ∷ (codes "receives") ∷ (codes "empties") ∷ (codes "deletes") ∷ (codes "expiries") ∷ (codes "redrives") ∷ (codes "moves") ∷ (codes "arrivals") ∷ (codes "OverLimit") ∷ (codes "MessageNotInflight") ∷ (codes "ReceiptHandleIsInvalid") ∷ (codes "BadTimeout") ∷ (codes "MissingGroup") ∷ (codes "MissingDeduplication") ∷ (codes "BadDelay") ∷ (codes "TaskRunning") ∷ (codes "NoTask") ∷ (codes "depth_max") ∷ (codes "visible") ∷ (codes "in_flight") ∷ (codes "delayed") ∷ (codes "age_sum") ∷ (codes "age_max") ∷ (codes "age_p50") ∷ (codes "age_p95") ∷ (codes "age_p99") ∷ []) ∷
    ((codes "report") ∷ (codes "q") ∷ (codes "1") ∷ (codes "0") ∷ (codes "1") ∷ (codes "0") ∷ (codes "1") ∷ (codes "0") ∷ (codes "0") ∷ (codes "0") ∷ (codes "0") ∷ (codes "0") ∷ (codes "0") ∷ (codes "0") ∷ (codes "0") ∷ (codes "0") ∷ (codes "0") ∷ (codes "0") ∷ (codes "0") ∷ (codes "0") ∷ (codes "1") ∷ (codes "0") ∷ (codes "0") ∷ (codes "0") ∷ (codes "364") ∷ (codes "364") ∷ (codes "364") ∷ (codes "364") ∷ (codes "364") ∷ []) ∷ [])
unfolding reading_on_literals running_on_literals columns_of
case_0_service_between_two_permilles = refl

-- version-3/service_by_quantiles.toml
case_0_service_by_quantiles : shown_upto 3 70 [] (codes "# Words of agent 1, as positions in a thousand: 839.344 (first service), 982.301 (chance), 739.102 (second service),\n# 500.913 (chance), 203.467 (third service). 839.344 is between 800 and 1000: 400 + 39.344 / 200 * 600 = 518.03, so 518.\n# From 10 on it ends at 528. 739.102 is between 500 and 800: 100 + 239.102 / 300 * 300 = 339.10, so 339. It ends at 867.\n# 203.467 is between 0 and 500, where both times are 100. It ends at 967.\nversion = 3\nhorizon = 2000\n[[queue]]\nname = \"q\"\n[[actor]]\nname = \"c\"\nkind = \"consumer\"\nqueue = \"q\"\nstart_ms = 10\nbatch = 3\nwait_s = 20\nservice = [[0, 100], [500, 100], [800, 400], [1000, 1000]]\n[[actor]]\nname = \"s\"\nkind = \"script\"\nqueue = \"q\"\ncalls = \"\"\"\nat,call,body,group,id,delay,receipt,max,wait,timeout,task\n0,send,a,,,,,,,,\n1,send,b,,,,,,,,\n2,send,c,,,,,,,,\n\"\"\"\n")
    ≡ ran (((codes "at") ∷ (codes "queue") ∷ (codes "agent") ∷ (codes "call") ∷ (codes "answer") ∷ (codes "message") ∷ (codes "receipt") ∷ (codes "detail") ∷ []) ∷
    ((codes "0") ∷ (codes "q") ∷ (codes "s") ∷ (codes "send") ∷ (codes "new") ∷ (codes "m-0-0") ∷ [] ∷ digest (codes "a") ∷ []) ∷
    ((codes "1") ∷ (codes "q") ∷ (codes "s") ∷ (codes "send") ∷ (codes "new") ∷ (codes "m-0-1") ∷ [] ∷ digest (codes "b") ∷ []) ∷
    ((codes "2") ∷ (codes "q") ∷ (codes "s") ∷ (codes "send") ∷ (codes "new") ∷ (codes "m-0-2") ∷ [] ∷ digest (codes "c") ∷ []) ∷
    ((codes "10") ∷ (codes "q") ∷ (codes "c") ∷ (codes "receive") ∷ (codes "ok") ∷ (codes "m-0-0") ∷ (codes "r-0-0-1") ∷ (codes "o-0-0") ∷ []) ∷
    ((codes "10") ∷ (codes "q") ∷ (codes "c") ∷ (codes "receive") ∷ (codes "ok") ∷ (codes "m-0-1") ∷ (codes "r-0-1-1") ∷ (codes "o-0-1") ∷ []) ∷
    ((codes "10") ∷ (codes "q") ∷ (codes "c") ∷ (codes "receive") ∷ (codes "ok") ∷ (codes "m-0-2") ∷ (codes "r-0-2-1") ∷ (codes "o-0-2") ∷ []) ∷
    ((codes "528") ∷ (codes "q") ∷ (codes "c") ∷ (codes "delete") ∷ (codes "deleted") ∷ (codes "m-0-0") ∷ (codes "r-0-0-1") ∷ (codes "528") ∷ []) ∷
    ((codes "867") ∷ (codes "q") ∷ (codes "c") ∷ (codes "delete") ∷ (codes "deleted") ∷ (codes "m-0-1") ∷ (codes "r-0-1-1") ∷ (codes "866") ∷ []) ∷
    ((codes "967") ∷ (codes "q") ∷ (codes "c") ∷ (codes "delete") ∷ (codes "deleted") ∷ (codes "m-0-2") ∷ (codes "r-0-2-1") ∷ (codes "965") ∷ []) ∷
    ((codes "968") ∷ (codes "q") ∷ (codes "c") ∷ (codes "receive") ∷ (codes "wait") ∷ [] ∷ [] ∷ [] ∷ []) ∷
    ((codes "final") ∷ (codes "queue") ∷ (codes "message") ∷ (codes "origin") ∷ (codes "place") ∷ (codes "due") ∷ (codes "enqueued") ∷ (codes "receives") ∷ (codes "group") ∷ (codes "md5") ∷ []) ∷
    ((codes "transfer") ∷ (codes "from") ∷ (codes "to") ∷ (codes "kind") ∷ (codes "due") ∷ (codes "number") ∷ (codes "message") ∷ (codes "origin") ∷ (codes "md5") ∷ []) ∷
    ((codes "task") ∷ (codes "name") ∷ (codes "status") ∷ (codes "moved") ∷ []) ∷
    ((codes "report") ∷ (codes "queue") ∷ (codes "sends") ∷ (codes "repeats") ∷ (codes "receives") ∷ (codes "empties") ∷ (codes "deletes") ∷ (codes "expiries") ∷ (codes "redrives") ∷ (codes "moves") ∷ (codes "arrivals") ∷ (codes "OverLimit") ∷ (codes "MessageNotInflight") ∷ (codes "ReceiptHandleIsInvalid") ∷ (codes "BadTimeout") ∷ (codes "MissingGroup") ∷ (codes "MissingDeduplication") ∷ (codes "BadDelay") ∷ (codes "TaskRunning") ∷ (codes "NoTask") ∷ (codes "depth_max") ∷ (codes "visible") ∷ (codes "in_flight") ∷ (codes "delayed") ∷ (codes "age_sum") ∷ (codes "age_max") ∷ (codes "age_p50") ∷ (codes "age_p95") ∷ (codes "age_p99") ∷ []) ∷
    ((codes "report") ∷ (codes "q") ∷ (codes "3") ∷ (codes "0") ∷ (codes "3") ∷ (codes "0") ∷ (codes "3") ∷ (codes "0") ∷ (codes "0") ∷ (codes "0") ∷ (codes "0") ∷ (codes "0") ∷ (codes "0") ∷ (codes "0") ∷ (codes "0") ∷ (codes "0") ∷ (codes "0") ∷ (codes "0") ∷ (codes "0") ∷ (codes "0") ∷ (codes "3") ∷ (codes "0") ∷ (codes "0") ∷ (codes "0") ∷ (codes "2359") ∷ (codes "965") ∷ (codes "866") ∷ (codes "965") ∷ (codes "965") ∷ []) ∷ [])
unfolding reading_on_literals running_on_literals columns_of
case_0_service_by_quantiles = refl

-- version-3/service_of_each_message.toml
case_0_service_of_each_message : shown_upto 3 70 [] (codes "# With batch_service = \"each\" the services are as without the key, and service_each_ms has no effect: they end at 110,\n# 210 and 310.\nversion = 3\nhorizon = 1000\n[[queue]]\nname = \"q\"\n[[actor]]\nname = \"c\"\nkind = \"consumer\"\nqueue = \"q\"\nstart_ms = 10\nbatch = 3\nwait_s = 20\nservice_min_ms = 100\nservice_max_ms = 100\nbatch_service = \"each\"\nservice_each_ms = 20\n[[actor]]\nname = \"s\"\nkind = \"script\"\nqueue = \"q\"\ncalls = \"\"\"\nat,call,body,group,id,delay,receipt,max,wait,timeout,task\n0,send,a,,,,,,,,\n1,send,b,,,,,,,,\n2,send,c,,,,,,,,\n\"\"\"\n")
    ≡ ran (((codes "at") ∷ (codes "queue") ∷ (codes "agent") ∷ (codes "call") ∷ (codes "answer") ∷ (codes "message") ∷ (codes "receipt") ∷ (codes "detail") ∷ []) ∷
    ((codes "0") ∷ (codes "q") ∷ (codes "s") ∷ (codes "send") ∷ (codes "new") ∷ (codes "m-0-0") ∷ [] ∷ digest (codes "a") ∷ []) ∷
    ((codes "1") ∷ (codes "q") ∷ (codes "s") ∷ (codes "send") ∷ (codes "new") ∷ (codes "m-0-1") ∷ [] ∷ digest (codes "b") ∷ []) ∷
    ((codes "2") ∷ (codes "q") ∷ (codes "s") ∷ (codes "send") ∷ (codes "new") ∷ (codes "m-0-2") ∷ [] ∷ digest (codes "c") ∷ []) ∷
    ((codes "10") ∷ (codes "q") ∷ (codes "c") ∷ (codes "receive") ∷ (codes "ok") ∷ (codes "m-0-0") ∷ (codes "r-0-0-1") ∷ (codes "o-0-0") ∷ []) ∷
    ((codes "10") ∷ (codes "q") ∷ (codes "c") ∷ (codes "receive") ∷ (codes "ok") ∷ (codes "m-0-1") ∷ (codes "r-0-1-1") ∷ (codes "o-0-1") ∷ []) ∷
    ((codes "10") ∷ (codes "q") ∷ (codes "c") ∷ (codes "receive") ∷ (codes "ok") ∷ (codes "m-0-2") ∷ (codes "r-0-2-1") ∷ (codes "o-0-2") ∷ []) ∷
    ((codes "110") ∷ (codes "q") ∷ (codes "c") ∷ (codes "delete") ∷ (codes "deleted") ∷ (codes "m-0-0") ∷ (codes "r-0-0-1") ∷ (codes "110") ∷ []) ∷
    ((codes "210") ∷ (codes "q") ∷ (codes "c") ∷ (codes "delete") ∷ (codes "deleted") ∷ (codes "m-0-1") ∷ (codes "r-0-1-1") ∷ (codes "209") ∷ []) ∷
    ((codes "310") ∷ (codes "q") ∷ (codes "c") ∷ (codes "delete") ∷ (codes "deleted") ∷ (codes "m-0-2") ∷ (codes "r-0-2-1") ∷ (codes "308") ∷ []) ∷
    ((codes "311") ∷ (codes "q") ∷ (codes "c") ∷ (codes "receive") ∷ (codes "wait") ∷ [] ∷ [] ∷ [] ∷ []) ∷
    ((codes "final") ∷ (codes "queue") ∷ (codes "message") ∷ (codes "origin") ∷ (codes "place") ∷ (codes "due") ∷ (codes "enqueued") ∷ (codes "receives") ∷ (codes "group") ∷ (codes "md5") ∷ []) ∷
    ((codes "transfer") ∷ (codes "from") ∷ (codes "to") ∷ (codes "kind") ∷ (codes "due") ∷ (codes "number") ∷ (codes "message") ∷ (codes "origin") ∷ (codes "md5") ∷ []) ∷
    ((codes "task") ∷ (codes "name") ∷ (codes "status") ∷ (codes "moved") ∷ []) ∷
    ((codes "report") ∷ (codes "queue") ∷ (codes "sends") ∷ (codes "repeats") ∷ (codes "receives") ∷ (codes "empties") ∷ (codes "deletes") ∷ (codes "expiries") ∷ (codes "redrives") ∷ (codes "moves") ∷ (codes "arrivals") ∷ (codes "OverLimit") ∷ (codes "MessageNotInflight") ∷ (codes "ReceiptHandleIsInvalid") ∷ (codes "BadTimeout") ∷ (codes "MissingGroup") ∷ (codes "MissingDeduplication") ∷ (codes "BadDelay") ∷ (codes "TaskRunning") ∷ (codes "NoTask") ∷ (codes "depth_max") ∷ (codes "visible") ∷ (codes "in_flight") ∷ (codes "delayed") ∷ (codes "age_sum") ∷ (codes "age_max") ∷ (codes "age_p50") ∷ (codes "age_p95") ∷ (codes "age_p99") ∷ []) ∷
    ((codes "report") ∷ (codes "q") ∷ (codes "3") ∷ (codes "0") ∷ (codes "3") ∷ (codes "0") ∷ (codes "3") ∷ (codes "0") ∷ (codes "0") ∷ (codes "0") ∷ (codes "0") ∷ (codes "0") ∷ (codes "0") ∷ (codes "0") ∷ (codes "0") ∷ (codes "0") ∷ (codes "0") ∷ (codes "0") ∷ (codes "0") ∷ (codes "0") ∷ (codes "3") ∷ (codes "0") ∷ (codes "0") ∷ (codes "0") ∷ (codes "627") ∷ (codes "308") ∷ (codes "209") ∷ (codes "308") ∷ (codes "308") ∷ []) ∷ [])
unfolding reading_on_literals running_on_literals columns_of
case_0_service_of_each_message = refl

-- version-3/service_of_up_to_a_day.toml
case_0_service_of_up_to_a_day : shown_upto 3 65 [] (codes "# The longest range: the first word of agent 1 is 3604955119, and 3604955119 * 86399999 / 2^32 is 72519322.5. So the\n# service takes 1 + 72519322 ms and ends at 72519333. Its numerator, with the 1000 of the permille, has 69 bits. The\n# visibility timeout of 12 hours ends at 43200010; the message is then visible, and the newest receipt still deletes.\nversion = 3\nhorizon = 72519400\n[[queue]]\nname = \"q\"\nvisibility_s = 43200\n[[actor]]\nname = \"c\"\nkind = \"consumer\"\nqueue = \"q\"\nstart_ms = 10\nwait_s = 20\nservice = [[0, 1], [1000, 86400000]]\n[[actor]]\nname = \"s\"\nkind = \"script\"\nqueue = \"q\"\ncalls = \"\"\"\nat,call,body,group,id,delay,receipt,max,wait,timeout,task\n0,send,a,,,,,,,,\n\"\"\"\n")
    ≡ ran (((codes "at") ∷ (codes "queue") ∷ (codes "agent") ∷ (codes "call") ∷ (codes "answer") ∷ (codes "message") ∷ (codes "receipt") ∷ (codes "detail") ∷ []) ∷
    ((codes "0") ∷ (codes "q") ∷ (codes "s") ∷ (codes "send") ∷ (codes "new") ∷ (codes "m-0-0") ∷ [] ∷ digest (codes "a") ∷ []) ∷
    ((codes "10") ∷ (codes "q") ∷ (codes "c") ∷ (codes "receive") ∷ (codes "ok") ∷ (codes "m-0-0") ∷ (codes "r-0-0-1") ∷ (codes "o-0-0") ∷ []) ∷
    ((codes "43200010") ∷ (codes "q") ∷ (codes "q") ∷ (codes "release") ∷ (codes "visible") ∷ (codes "m-0-0") ∷ [] ∷ [] ∷ []) ∷
    ((codes "72519333") ∷ (codes "q") ∷ (codes "c") ∷ (codes "delete") ∷ (codes "deleted") ∷ (codes "m-0-0") ∷ (codes "r-0-0-1") ∷ (codes "72519333") ∷ []) ∷
    ((codes "72519334") ∷ (codes "q") ∷ (codes "c") ∷ (codes "receive") ∷ (codes "wait") ∷ [] ∷ [] ∷ [] ∷ []) ∷
    ((codes "final") ∷ (codes "queue") ∷ (codes "message") ∷ (codes "origin") ∷ (codes "place") ∷ (codes "due") ∷ (codes "enqueued") ∷ (codes "receives") ∷ (codes "group") ∷ (codes "md5") ∷ []) ∷
    ((codes "transfer") ∷ (codes "from") ∷ (codes "to") ∷ (codes "kind") ∷ (codes "due") ∷ (codes "number") ∷ (codes "message") ∷ (codes "origin") ∷ (codes "md5") ∷ []) ∷
    ((codes "task") ∷ (codes "name") ∷ (codes "status") ∷ (codes "moved") ∷ []) ∷
    ((codes "report") ∷ (codes "queue") ∷ (codes "sends") ∷ (codes "repeats") ∷ (codes "receives") ∷ (codes "empties") ∷ (codes "deletes") ∷ (codes "expiries") ∷ (codes "redrives") ∷ (codes "moves") ∷ (codes "arrivals") ∷ (codes "OverLimit") ∷ (codes "MessageNotInflight") ∷ (codes "ReceiptHandleIsInvalid") ∷ (codes "BadTimeout") ∷ (codes "MissingGroup") ∷ (codes "MissingDeduplication") ∷ (codes "BadDelay") ∷ (codes "TaskRunning") ∷ (codes "NoTask") ∷ (codes "depth_max") ∷ (codes "visible") ∷ (codes "in_flight") ∷ (codes "delayed") ∷ (codes "age_sum") ∷ (codes "age_max") ∷ (codes "age_p50") ∷ (codes "age_p95") ∷ (codes "age_p99") ∷ []) ∷
    ((codes "report") ∷ (codes "q") ∷ (codes "1") ∷ (codes "0") ∷ (codes "1") ∷ (codes "0") ∷ (codes "1") ∷ (codes "0") ∷ (codes "0") ∷ (codes "0") ∷ (codes "0") ∷ (codes "0") ∷ (codes "0") ∷ (codes "0") ∷ (codes "0") ∷ (codes "0") ∷ (codes "0") ∷ (codes "0") ∷ (codes "0") ∷ (codes "0") ∷ (codes "1") ∷ (codes "0") ∷ (codes "0") ∷ (codes "0") ∷ (codes "72519333") ∷ (codes "72519333") ∷ (codes "72519333") ∷ (codes "72519333") ∷ (codes "72519333") ∷ []) ∷ [])
unfolding reading_on_literals running_on_literals columns_of
case_0_service_of_up_to_a_day = refl

-- version-3/steps_one_after_another.toml
case_0_steps_one_after_another : shown_upto 3 70 [] (codes "# Up to 1 visible message the scaler wants no copy, up to 3 two copies, and up to 5 five. At 1,000 there is 1, at 2,000 2,\n# at 3,000 3, at 4,000 4, and at 5,000 1 again. Nobody goes by this scaler.\nversion = 3\nhorizon = 5500\n[[queue]]\nname = \"q\"\n[[actor]]\nname = \"x\"\nkind = \"scaler\"\nqueue = \"q\"\nevery_s = 1\nsteps = [[1, 0], [3, 2], [5, 5]]\ncopies_min = 0\ncopies_max = 7\n[[actor]]\nname = \"s\"\nkind = \"script\"\nqueue = \"q\"\ncalls = \"\"\"\nat,call,body,group,id,delay,receipt,max,wait,timeout,task\n500,send,a,,,,,,,,\n1500,send,b,,,,,,,,\n2500,send,c,,,,,,,,\n3500,send,d,,,,,,,,\n4500,receive,,,,,,3,,,\n\"\"\"\n")
    ≡ ran (((codes "at") ∷ (codes "queue") ∷ (codes "agent") ∷ (codes "call") ∷ (codes "answer") ∷ (codes "message") ∷ (codes "receipt") ∷ (codes "detail") ∷ []) ∷
    ((codes "500") ∷ (codes "q") ∷ (codes "s") ∷ (codes "send") ∷ (codes "new") ∷ (codes "m-0-0") ∷ [] ∷ digest (codes "a") ∷ []) ∷
    ((codes "1500") ∷ (codes "q") ∷ (codes "s") ∷ (codes "send") ∷ (codes "new") ∷ (codes "m-0-1") ∷ [] ∷ digest (codes "b") ∷ []) ∷
    ((codes "2000") ∷ (codes "q") ∷ (codes "x") ∷ (codes "scale") ∷ (codes "ok") ∷ [] ∷ [] ∷ (codes "0/2") ∷ []) ∷
    ((codes "2500") ∷ (codes "q") ∷ (codes "s") ∷ (codes "send") ∷ (codes "new") ∷ (codes "m-0-2") ∷ [] ∷ digest (codes "c") ∷ []) ∷
    ((codes "3500") ∷ (codes "q") ∷ (codes "s") ∷ (codes "send") ∷ (codes "new") ∷ (codes "m-0-3") ∷ [] ∷ digest (codes "d") ∷ []) ∷
    ((codes "4000") ∷ (codes "q") ∷ (codes "x") ∷ (codes "scale") ∷ (codes "ok") ∷ [] ∷ [] ∷ (codes "2/5") ∷ []) ∷
    ((codes "4500") ∷ (codes "q") ∷ (codes "s") ∷ (codes "receive") ∷ (codes "ok") ∷ (codes "m-0-0") ∷ (codes "r-0-0-1") ∷ (codes "o-0-0") ∷ []) ∷
    ((codes "4500") ∷ (codes "q") ∷ (codes "s") ∷ (codes "receive") ∷ (codes "ok") ∷ (codes "m-0-1") ∷ (codes "r-0-1-1") ∷ (codes "o-0-1") ∷ []) ∷
    ((codes "4500") ∷ (codes "q") ∷ (codes "s") ∷ (codes "receive") ∷ (codes "ok") ∷ (codes "m-0-2") ∷ (codes "r-0-2-1") ∷ (codes "o-0-2") ∷ []) ∷
    ((codes "5000") ∷ (codes "q") ∷ (codes "x") ∷ (codes "scale") ∷ (codes "ok") ∷ [] ∷ [] ∷ (codes "5/0") ∷ []) ∷
    ((codes "final") ∷ (codes "queue") ∷ (codes "message") ∷ (codes "origin") ∷ (codes "place") ∷ (codes "due") ∷ (codes "enqueued") ∷ (codes "receives") ∷ (codes "group") ∷ (codes "md5") ∷ []) ∷
    ((codes "final") ∷ (codes "q") ∷ (codes "m-0-0") ∷ (codes "o-0-0") ∷ (codes "inflight") ∷ (codes "34500") ∷ (codes "500") ∷ (codes "1") ∷ [] ∷ digest (codes "a") ∷ []) ∷
    ((codes "final") ∷ (codes "q") ∷ (codes "m-0-1") ∷ (codes "o-0-1") ∷ (codes "inflight") ∷ (codes "34500") ∷ (codes "1500") ∷ (codes "1") ∷ [] ∷ digest (codes "b") ∷ []) ∷
    ((codes "final") ∷ (codes "q") ∷ (codes "m-0-2") ∷ (codes "o-0-2") ∷ (codes "inflight") ∷ (codes "34500") ∷ (codes "2500") ∷ (codes "1") ∷ [] ∷ digest (codes "c") ∷ []) ∷
    ((codes "final") ∷ (codes "q") ∷ (codes "m-0-3") ∷ (codes "o-0-3") ∷ (codes "visible") ∷ [] ∷ (codes "3500") ∷ (codes "0") ∷ [] ∷ digest (codes "d") ∷ []) ∷
    ((codes "transfer") ∷ (codes "from") ∷ (codes "to") ∷ (codes "kind") ∷ (codes "due") ∷ (codes "number") ∷ (codes "message") ∷ (codes "origin") ∷ (codes "md5") ∷ []) ∷
    ((codes "task") ∷ (codes "name") ∷ (codes "status") ∷ (codes "moved") ∷ []) ∷
    ((codes "report") ∷ (codes "queue") ∷ (codes "sends") ∷ (codes "repeats") ∷ (codes "receives") ∷ (codes "empties") ∷ (codes "deletes") ∷ (codes "expiries") ∷ (codes "redrives") ∷ (codes "moves") ∷ (codes "arrivals") ∷ (codes "OverLimit") ∷ (codes "MessageNotInflight") ∷ (codes "ReceiptHandleIsInvalid") ∷ (codes "BadTimeout") ∷ (codes "MissingGroup") ∷ (codes "MissingDeduplication") ∷ (codes "BadDelay") ∷ (codes "TaskRunning") ∷ (codes "NoTask") ∷ (codes "depth_max") ∷ (codes "visible") ∷ (codes "in_flight") ∷ (codes "delayed") ∷ (codes "age_sum") ∷ (codes "age_max") ∷ (codes "age_p50") ∷ (codes "age_p95") ∷ (codes "age_p99") ∷ []) ∷
    ((codes "report") ∷ (codes "q") ∷ (codes "4") ∷ (codes "0") ∷ (codes "3") ∷ (codes "0") ∷ (codes "0") ∷ (codes "0") ∷ (codes "0") ∷ (codes "0") ∷ (codes "0") ∷ (codes "0") ∷ (codes "0") ∷ (codes "0") ∷ (codes "0") ∷ (codes "0") ∷ (codes "0") ∷ (codes "0") ∷ (codes "0") ∷ (codes "0") ∷ (codes "4") ∷ (codes "1") ∷ (codes "3") ∷ (codes "0") ∷ (codes "0") ∷ [] ∷ [] ∷ [] ∷ [] ∷ []) ∷ [])
unfolding reading_on_literals running_on_literals columns_of
case_0_steps_one_after_another = refl

-- version-3/steps_outside_of_the_bounds.toml
case_0_steps_outside_of_the_bounds : shown_upto 3 68 [] (codes "# No visible message asks for no copy, but copies_min is 2. One or two ask for four copies, but copies_max is 3. Steps need\n# not ascend in copies: three messages ask for one copy, of which copies_min makes two again. Nobody goes by this scaler.\nversion = 3\nhorizon = 3500\n[[queue]]\nname = \"q\"\n[[actor]]\nname = \"x\"\nkind = \"scaler\"\nqueue = \"q\"\nevery_s = 1\nsteps = [[0, 0], [2, 4], [9, 1]]\ncopies_min = 2\ncopies_max = 3\n[[actor]]\nname = \"s\"\nkind = \"script\"\nqueue = \"q\"\ncalls = \"\"\"\nat,call,body,group,id,delay,receipt,max,wait,timeout,task\n500,send,a,,,,,,,,\n1500,send,b,,,,,,,,\n1501,send,c,,,,,,,,\n2500,receive,,,,,,10,,,\n\"\"\"\n")
    ≡ ran (((codes "at") ∷ (codes "queue") ∷ (codes "agent") ∷ (codes "call") ∷ (codes "answer") ∷ (codes "message") ∷ (codes "receipt") ∷ (codes "detail") ∷ []) ∷
    ((codes "500") ∷ (codes "q") ∷ (codes "s") ∷ (codes "send") ∷ (codes "new") ∷ (codes "m-0-0") ∷ [] ∷ digest (codes "a") ∷ []) ∷
    ((codes "1000") ∷ (codes "q") ∷ (codes "x") ∷ (codes "scale") ∷ (codes "ok") ∷ [] ∷ [] ∷ (codes "2/3") ∷ []) ∷
    ((codes "1500") ∷ (codes "q") ∷ (codes "s") ∷ (codes "send") ∷ (codes "new") ∷ (codes "m-0-1") ∷ [] ∷ digest (codes "b") ∷ []) ∷
    ((codes "1501") ∷ (codes "q") ∷ (codes "s") ∷ (codes "send") ∷ (codes "new") ∷ (codes "m-0-2") ∷ [] ∷ digest (codes "c") ∷ []) ∷
    ((codes "2000") ∷ (codes "q") ∷ (codes "x") ∷ (codes "scale") ∷ (codes "ok") ∷ [] ∷ [] ∷ (codes "3/2") ∷ []) ∷
    ((codes "2500") ∷ (codes "q") ∷ (codes "s") ∷ (codes "receive") ∷ (codes "ok") ∷ (codes "m-0-0") ∷ (codes "r-0-0-1") ∷ (codes "o-0-0") ∷ []) ∷
    ((codes "2500") ∷ (codes "q") ∷ (codes "s") ∷ (codes "receive") ∷ (codes "ok") ∷ (codes "m-0-1") ∷ (codes "r-0-1-1") ∷ (codes "o-0-1") ∷ []) ∷
    ((codes "2500") ∷ (codes "q") ∷ (codes "s") ∷ (codes "receive") ∷ (codes "ok") ∷ (codes "m-0-2") ∷ (codes "r-0-2-1") ∷ (codes "o-0-2") ∷ []) ∷
    ((codes "final") ∷ (codes "queue") ∷ (codes "message") ∷ (codes "origin") ∷ (codes "place") ∷ (codes "due") ∷ (codes "enqueued") ∷ (codes "receives") ∷ (codes "group") ∷ (codes "md5") ∷ []) ∷
    ((codes "final") ∷ (codes "q") ∷ (codes "m-0-0") ∷ (codes "o-0-0") ∷ (codes "inflight") ∷ (codes "32500") ∷ (codes "500") ∷ (codes "1") ∷ [] ∷ digest (codes "a") ∷ []) ∷
    ((codes "final") ∷ (codes "q") ∷ (codes "m-0-1") ∷ (codes "o-0-1") ∷ (codes "inflight") ∷ (codes "32500") ∷ (codes "1500") ∷ (codes "1") ∷ [] ∷ digest (codes "b") ∷ []) ∷
    ((codes "final") ∷ (codes "q") ∷ (codes "m-0-2") ∷ (codes "o-0-2") ∷ (codes "inflight") ∷ (codes "32500") ∷ (codes "1501") ∷ (codes "1") ∷ [] ∷ digest (codes "c") ∷ []) ∷
    ((codes "transfer") ∷ (codes "from") ∷ (codes "to") ∷ (codes "kind") ∷ (codes "due") ∷ (codes "number") ∷ (codes "message") ∷ (codes "origin") ∷ (codes "md5") ∷ []) ∷
    ((codes "task") ∷ (codes "name") ∷ (codes "status") ∷ (codes "moved") ∷ []) ∷
    ((codes "report") ∷ (codes "queue") ∷ (codes "sends") ∷ (codes "repeats") ∷ (codes "receives") ∷ (codes "empties") ∷ (codes "deletes") ∷ (codes "expiries") ∷ (codes "redrives") ∷ (codes "moves") ∷ (codes "arrivals") ∷ (codes "OverLimit") ∷ (codes "MessageNotInflight") ∷ (codes "ReceiptHandleIsInvalid") ∷ (codes "BadTimeout") ∷ (codes "MissingGroup") ∷ (codes "MissingDeduplication") ∷ (codes "BadDelay") ∷ (codes "TaskRunning") ∷ (codes "NoTask") ∷ (codes "depth_max") ∷ (codes "visible") ∷ (codes "in_flight") ∷ (codes "delayed") ∷ (codes "age_sum") ∷ (codes "age_max") ∷ (codes "age_p50") ∷ (codes "age_p95") ∷ (codes "age_p99") ∷ []) ∷
    ((codes "report") ∷ (codes "q") ∷ (codes "3") ∷ (codes "0") ∷ (codes "3") ∷ (codes "0") ∷ (codes "0") ∷ (codes "0") ∷ (codes "0") ∷ (codes "0") ∷ (codes "0") ∷ (codes "0") ∷ (codes "0") ∷ (codes "0") ∷ (codes "0") ∷ (codes "0") ∷ (codes "0") ∷ (codes "0") ∷ (codes "0") ∷ (codes "0") ∷ (codes "3") ∷ (codes "0") ∷ (codes "3") ∷ (codes "0") ∷ (codes "0") ∷ [] ∷ [] ∷ [] ∷ [] ∷ []) ∷ [])
unfolding reading_on_literals running_on_literals columns_of
case_0_steps_outside_of_the_bounds = refl

-- version-3/stop_before_a_failure.toml
case_0_stop_before_a_failure : shown_upto 3 65 [] (codes "# The service that goes on at the stop of 50 fails at 110, and its message gets the backoff. It comes back at 1110, and\n# nobody asks for it.\nversion = 3\nhorizon = 3000\n[[queue]]\nname = \"q\"\n[[actor]]\nname = \"c\"\nkind = \"consumer\"\nqueue = \"q\"\nstart_ms = 10\nservice_min_ms = 100\nservice_max_ms = 100\nfail_permille = 1000\nstop_ms = 50\nbackoff_s = [1]\n[[actor]]\nname = \"s\"\nkind = \"script\"\nqueue = \"q\"\ncalls = \"\"\"\nat,call,body,group,id,delay,receipt,max,wait,timeout,task\n0,send,a,,,,,,,,\n\"\"\"\n")
    ≡ ran (((codes "at") ∷ (codes "queue") ∷ (codes "agent") ∷ (codes "call") ∷ (codes "answer") ∷ (codes "message") ∷ (codes "receipt") ∷ (codes "detail") ∷ []) ∷
    ((codes "0") ∷ (codes "q") ∷ (codes "s") ∷ (codes "send") ∷ (codes "new") ∷ (codes "m-0-0") ∷ [] ∷ digest (codes "a") ∷ []) ∷
    ((codes "10") ∷ (codes "q") ∷ (codes "c") ∷ (codes "receive") ∷ (codes "ok") ∷ (codes "m-0-0") ∷ (codes "r-0-0-1") ∷ (codes "o-0-0") ∷ []) ∷
    ((codes "110") ∷ (codes "q") ∷ (codes "c") ∷ (codes "fail") ∷ (codes "ok") ∷ (codes "m-0-0") ∷ (codes "r-0-0-1") ∷ [] ∷ []) ∷
    ((codes "110") ∷ (codes "q") ∷ (codes "c") ∷ (codes "change") ∷ (codes "ok") ∷ (codes "m-0-0") ∷ (codes "r-0-0-1") ∷ (codes "1") ∷ []) ∷
    ((codes "1110") ∷ (codes "q") ∷ (codes "q") ∷ (codes "release") ∷ (codes "visible") ∷ (codes "m-0-0") ∷ [] ∷ [] ∷ []) ∷
    ((codes "final") ∷ (codes "queue") ∷ (codes "message") ∷ (codes "origin") ∷ (codes "place") ∷ (codes "due") ∷ (codes "enqueued") ∷ (codes "receives") ∷ (codes "group") ∷ (codes "md5") ∷ []) ∷
    ((codes "final") ∷ (codes "q") ∷ (codes "m-0-0") ∷ (codes "o-0-0") ∷ (codes "visible") ∷ [] ∷ (codes "0") ∷ (codes "1") ∷ [] ∷ digest (codes "a") ∷ []) ∷
    ((codes "transfer") ∷ (codes "from") ∷ (codes "to") ∷ (codes "kind") ∷ (codes "due") ∷ (codes "number") ∷ (codes "message") ∷ (codes "origin") ∷ (codes "md5") ∷ []) ∷
    ((codes "task") ∷ (codes "name") ∷ (codes "status") ∷ (codes "moved") ∷ []) ∷
    ((codes "report") ∷ (codes "queue") ∷ (codes "sends") ∷ (codes "repeats") ∷ (codes "receives") ∷ (codes "empties") ∷ (codes "deletes") ∷ (codes "expiries") ∷ (codes "redrives") ∷ (codes "moves") ∷ (codes "arrivals") ∷ (codes "OverLimit") ∷ (codes "MessageNotInflight") ∷ (codes "ReceiptHandleIsInvalid") ∷ (codes "BadTimeout") ∷ (codes "MissingGroup") ∷ (codes "MissingDeduplication") ∷ (codes "BadDelay") ∷ (codes "TaskRunning") ∷ (codes "NoTask") ∷ (codes "depth_max") ∷ (codes "visible") ∷ (codes "in_flight") ∷ (codes "delayed") ∷ (codes "age_sum") ∷ (codes "age_max") ∷ (codes "age_p50") ∷ (codes "age_p95") ∷ (codes "age_p99") ∷ []) ∷
    ((codes "report") ∷ (codes "q") ∷ (codes "1") ∷ (codes "0") ∷ (codes "1") ∷ (codes "0") ∷ (codes "0") ∷ (codes "0") ∷ (codes "0") ∷ (codes "0") ∷ (codes "0") ∷ (codes "0") ∷ (codes "0") ∷ (codes "0") ∷ (codes "0") ∷ (codes "0") ∷ (codes "0") ∷ (codes "0") ∷ (codes "0") ∷ (codes "0") ∷ (codes "1") ∷ (codes "1") ∷ (codes "0") ∷ (codes "0") ∷ (codes "0") ∷ [] ∷ [] ∷ [] ∷ [] ∷ []) ∷ [])
unfolding reading_on_literals running_on_literals columns_of
case_0_stop_before_a_failure = refl

-- version-3/stop_in_the_moment_of_a_wake.toml
case_0_stop_in_the_moment_of_a_wake : shown_upto 3 65 [] (codes "# c stops at 1010, in the moment of its second wake: it does not ask then. d stops 1 ms later: it asks. e stops as it\n# starts: it never asks. The poll of f ends at 1010, where it stops: its row is made, and it does not ask again.\nversion = 3\nhorizon = 4000\n[[queue]]\nname = \"q\"\n[[actor]]\nname = \"c\"\nkind = \"consumer\"\nqueue = \"q\"\nstart_ms = 10\nservice_min_ms = 100\nservice_max_ms = 100\nstop_ms = 1010\n[[actor]]\nname = \"d\"\nkind = \"consumer\"\nqueue = \"q\"\nstart_ms = 10\nservice_min_ms = 100\nservice_max_ms = 100\nstop_ms = 1011\n[[actor]]\nname = \"e\"\nkind = \"consumer\"\nqueue = \"q\"\nstart_ms = 10\nservice_min_ms = 100\nservice_max_ms = 100\nstop_ms = 10\n[[actor]]\nname = \"f\"\nkind = \"consumer\"\nqueue = \"q\"\nstart_ms = 10\nwait_s = 1\nservice_min_ms = 100\nservice_max_ms = 100\nstop_ms = 1010\n")
    ≡ ran (((codes "at") ∷ (codes "queue") ∷ (codes "agent") ∷ (codes "call") ∷ (codes "answer") ∷ (codes "message") ∷ (codes "receipt") ∷ (codes "detail") ∷ []) ∷
    ((codes "10") ∷ (codes "q") ∷ (codes "c") ∷ (codes "receive") ∷ (codes "empty") ∷ [] ∷ [] ∷ [] ∷ []) ∷
    ((codes "10") ∷ (codes "q") ∷ (codes "d") ∷ (codes "receive") ∷ (codes "empty") ∷ [] ∷ [] ∷ [] ∷ []) ∷
    ((codes "10") ∷ (codes "q") ∷ (codes "f") ∷ (codes "receive") ∷ (codes "wait") ∷ [] ∷ [] ∷ [] ∷ []) ∷
    ((codes "1010") ∷ (codes "q") ∷ (codes "d") ∷ (codes "receive") ∷ (codes "empty") ∷ [] ∷ [] ∷ [] ∷ []) ∷
    ((codes "1010") ∷ (codes "q") ∷ (codes "f") ∷ (codes "receive") ∷ (codes "empty") ∷ [] ∷ [] ∷ [] ∷ []) ∷
    ((codes "final") ∷ (codes "queue") ∷ (codes "message") ∷ (codes "origin") ∷ (codes "place") ∷ (codes "due") ∷ (codes "enqueued") ∷ (codes "receives") ∷ (codes "group") ∷ (codes "md5") ∷ []) ∷
    ((codes "transfer") ∷ (codes "from") ∷ (codes "to") ∷ (codes "kind") ∷ (codes "due") ∷ (codes "number") ∷ (codes "message") ∷ (codes "origin") ∷ (codes "md5") ∷ []) ∷
    ((codes "task") ∷ (codes "name") ∷ (codes "status") ∷ (codes "moved") ∷ []) ∷
    ((codes "report") ∷ (codes "queue") ∷ (codes "sends") ∷ (codes "repeats") ∷ (codes "receives") ∷ (codes "empties") ∷ (codes "deletes") ∷ (codes "expiries") ∷ (codes "redrives") ∷ (codes "moves") ∷ (codes "arrivals") ∷ (codes "OverLimit") ∷ (codes "MessageNotInflight") ∷ (codes "ReceiptHandleIsInvalid") ∷ (codes "BadTimeout") ∷ (codes "MissingGroup") ∷ (codes "MissingDeduplication") ∷ (codes "BadDelay") ∷ (codes "TaskRunning") ∷ (codes "NoTask") ∷ (codes "depth_max") ∷ (codes "visible") ∷ (codes "in_flight") ∷ (codes "delayed") ∷ (codes "age_sum") ∷ (codes "age_max") ∷ (codes "age_p50") ∷ (codes "age_p95") ∷ (codes "age_p99") ∷ []) ∷
    ((codes "report") ∷ (codes "q") ∷ (codes "0") ∷ (codes "0") ∷ (codes "0") ∷ (codes "4") ∷ (codes "0") ∷ (codes "0") ∷ (codes "0") ∷ (codes "0") ∷ (codes "0") ∷ (codes "0") ∷ (codes "0") ∷ (codes "0") ∷ (codes "0") ∷ (codes "0") ∷ (codes "0") ∷ (codes "0") ∷ (codes "0") ∷ (codes "0") ∷ (codes "0") ∷ (codes "0") ∷ (codes "0") ∷ (codes "0") ∷ (codes "0") ∷ [] ∷ [] ∷ [] ∷ [] ∷ []) ∷ [])
unfolding reading_on_literals running_on_literals columns_of
case_0_stop_in_the_moment_of_a_wake = refl

-- version-3/stop_of_a_producer.toml
case_0_stop_of_a_producer : shown_upto 3 65 [] (codes "# o stops at 250, between two sends, and p at 200, in the moment of a send, which is not made.\nversion = 3\nhorizon = 3000\n[[queue]]\nname = \"q\"\n[[actor]]\nname = \"o\"\nkind = \"producer\"\nqueue = \"q\"\ncount = 10\ngap_min_ms = 100\ngap_max_ms = 100\nbody = \"a\"\nstop_ms = 250\n[[actor]]\nname = \"p\"\nkind = \"producer\"\nqueue = \"q\"\ncount = 10\ngap_min_ms = 100\ngap_max_ms = 100\nbody = \"b\"\nstop_ms = 200\n")
    ≡ ran (((codes "at") ∷ (codes "queue") ∷ (codes "agent") ∷ (codes "call") ∷ (codes "answer") ∷ (codes "message") ∷ (codes "receipt") ∷ (codes "detail") ∷ []) ∷
    ((codes "0") ∷ (codes "q") ∷ (codes "o") ∷ (codes "send") ∷ (codes "new") ∷ (codes "m-0-0") ∷ [] ∷ digest (codes "a") ∷ []) ∷
    ((codes "0") ∷ (codes "q") ∷ (codes "p") ∷ (codes "send") ∷ (codes "new") ∷ (codes "m-0-1") ∷ [] ∷ digest (codes "b") ∷ []) ∷
    ((codes "100") ∷ (codes "q") ∷ (codes "o") ∷ (codes "send") ∷ (codes "new") ∷ (codes "m-0-2") ∷ [] ∷ digest (codes "a") ∷ []) ∷
    ((codes "100") ∷ (codes "q") ∷ (codes "p") ∷ (codes "send") ∷ (codes "new") ∷ (codes "m-0-3") ∷ [] ∷ digest (codes "b") ∷ []) ∷
    ((codes "200") ∷ (codes "q") ∷ (codes "o") ∷ (codes "send") ∷ (codes "new") ∷ (codes "m-0-4") ∷ [] ∷ digest (codes "a") ∷ []) ∷
    ((codes "final") ∷ (codes "queue") ∷ (codes "message") ∷ (codes "origin") ∷ (codes "place") ∷ (codes "due") ∷ (codes "enqueued") ∷ (codes "receives") ∷ (codes "group") ∷ (codes "md5") ∷ []) ∷
    ((codes "final") ∷ (codes "q") ∷ (codes "m-0-0") ∷ (codes "o-0-0") ∷ (codes "visible") ∷ [] ∷ (codes "0") ∷ (codes "0") ∷ [] ∷ digest (codes "a") ∷ []) ∷
    ((codes "final") ∷ (codes "q") ∷ (codes "m-0-1") ∷ (codes "o-0-1") ∷ (codes "visible") ∷ [] ∷ (codes "0") ∷ (codes "0") ∷ [] ∷ digest (codes "b") ∷ []) ∷
    ((codes "final") ∷ (codes "q") ∷ (codes "m-0-2") ∷ (codes "o-0-2") ∷ (codes "visible") ∷ [] ∷ (codes "100") ∷ (codes "0") ∷ [] ∷ digest (codes "a") ∷ []) ∷
    ((codes "final") ∷ (codes "q") ∷ (codes "m-0-3") ∷ (codes "o-0-3") ∷ (codes "visible") ∷ [] ∷ (codes "100") ∷ (codes "0") ∷ [] ∷ digest (codes "b") ∷ []) ∷
    ((codes "final") ∷ (codes "q") ∷ (codes "m-0-4") ∷ (codes "o-0-4") ∷ (codes "visible") ∷ [] ∷ (codes "200") ∷ (codes "0") ∷ [] ∷ digest (codes "a") ∷ []) ∷
    ((codes "transfer") ∷ (codes "from") ∷ (codes "to") ∷ (codes "kind") ∷ (codes "due") ∷ (codes "number") ∷ (codes "message") ∷ (codes "origin") ∷ (codes "md5") ∷ []) ∷
    ((codes "task") ∷ (codes "name") ∷ (codes "status") ∷ (codes "moved") ∷ []) ∷
    ((codes "report") ∷ (codes "queue") ∷ (codes "sends") ∷ (codes "repeats") ∷ (codes "receives") ∷ (codes "empties") ∷ (codes "deletes") ∷ (codes "expiries") ∷ (codes "redrives") ∷ (codes "moves") ∷ (codes "arrivals") ∷ (codes "OverLimit") ∷ (codes "MessageNotInflight") ∷ (codes "ReceiptHandleIsInvalid") ∷ (codes "BadTimeout") ∷ (codes "MissingGroup") ∷ (codes "MissingDeduplication") ∷ (codes "BadDelay") ∷ (codes "TaskRunning") ∷ (codes "NoTask") ∷ (codes "depth_max") ∷ (codes "visible") ∷ (codes "in_flight") ∷ (codes "delayed") ∷ (codes "age_sum") ∷ (codes "age_max") ∷ (codes "age_p50") ∷ (codes "age_p95") ∷ (codes "age_p99") ∷ []) ∷
    ((codes "report") ∷ (codes "q") ∷ (codes "5") ∷ (codes "0") ∷ (codes "0") ∷ (codes "0") ∷ (codes "0") ∷ (codes "0") ∷ (codes "0") ∷ (codes "0") ∷ (codes "0") ∷ (codes "0") ∷ (codes "0") ∷ (codes "0") ∷ (codes "0") ∷ (codes "0") ∷ (codes "0") ∷ (codes "0") ∷ (codes "0") ∷ (codes "0") ∷ (codes "5") ∷ (codes "5") ∷ (codes "0") ∷ (codes "0") ∷ (codes "0") ∷ [] ∷ [] ∷ [] ∷ [] ∷ []) ∷ [])
unfolding reading_on_literals running_on_literals columns_of
case_0_stop_of_a_producer = refl

-- version-3/stop_while_a_batch_is_decided.toml
case_0_stop_while_a_batch_is_decided : shown_upto 3 69 [] (codes "# The service of the batch ends at 110. Its messages are decided and settled until 112, beyond the stop at 111. Then\n# nothing is asked.\nversion = 3\nhorizon = 1000\n[[queue]]\nname = \"q\"\n[[actor]]\nname = \"c\"\nkind = \"consumer\"\nqueue = \"q\"\nstart_ms = 10\nbatch = 3\nwait_s = 20\nservice_min_ms = 100\nservice_max_ms = 100\nstop_ms = 111\nbatch_service = \"once\"\nfails_on = \"bad\"\n[[actor]]\nname = \"s\"\nkind = \"script\"\nqueue = \"q\"\ncalls = \"\"\"\nat,call,body,group,id,delay,receipt,max,wait,timeout,task\n0,send,a,,,,,,,,\n1,send,bad,,,,,,,,\n2,send,c,,,,,,,,\n\"\"\"\n")
    ≡ ran (((codes "at") ∷ (codes "queue") ∷ (codes "agent") ∷ (codes "call") ∷ (codes "answer") ∷ (codes "message") ∷ (codes "receipt") ∷ (codes "detail") ∷ []) ∷
    ((codes "0") ∷ (codes "q") ∷ (codes "s") ∷ (codes "send") ∷ (codes "new") ∷ (codes "m-0-0") ∷ [] ∷ digest (codes "a") ∷ []) ∷
    ((codes "1") ∷ (codes "q") ∷ (codes "s") ∷ (codes "send") ∷ (codes "new") ∷ (codes "m-0-1") ∷ [] ∷ digest (codes "bad") ∷ []) ∷
    ((codes "2") ∷ (codes "q") ∷ (codes "s") ∷ (codes "send") ∷ (codes "new") ∷ (codes "m-0-2") ∷ [] ∷ digest (codes "c") ∷ []) ∷
    ((codes "10") ∷ (codes "q") ∷ (codes "c") ∷ (codes "receive") ∷ (codes "ok") ∷ (codes "m-0-0") ∷ (codes "r-0-0-1") ∷ (codes "o-0-0") ∷ []) ∷
    ((codes "10") ∷ (codes "q") ∷ (codes "c") ∷ (codes "receive") ∷ (codes "ok") ∷ (codes "m-0-1") ∷ (codes "r-0-1-1") ∷ (codes "o-0-1") ∷ []) ∷
    ((codes "10") ∷ (codes "q") ∷ (codes "c") ∷ (codes "receive") ∷ (codes "ok") ∷ (codes "m-0-2") ∷ (codes "r-0-2-1") ∷ (codes "o-0-2") ∷ []) ∷
    ((codes "110") ∷ (codes "q") ∷ (codes "c") ∷ (codes "delete") ∷ (codes "deleted") ∷ (codes "m-0-0") ∷ (codes "r-0-0-1") ∷ (codes "110") ∷ []) ∷
    ((codes "111") ∷ (codes "q") ∷ (codes "c") ∷ (codes "fail") ∷ (codes "ok") ∷ (codes "m-0-1") ∷ (codes "r-0-1-1") ∷ [] ∷ []) ∷
    ((codes "112") ∷ (codes "q") ∷ (codes "c") ∷ (codes "delete") ∷ (codes "deleted") ∷ (codes "m-0-2") ∷ (codes "r-0-2-1") ∷ (codes "110") ∷ []) ∷
    ((codes "final") ∷ (codes "queue") ∷ (codes "message") ∷ (codes "origin") ∷ (codes "place") ∷ (codes "due") ∷ (codes "enqueued") ∷ (codes "receives") ∷ (codes "group") ∷ (codes "md5") ∷ []) ∷
    ((codes "final") ∷ (codes "q") ∷ (codes "m-0-1") ∷ (codes "o-0-1") ∷ (codes "inflight") ∷ (codes "30010") ∷ (codes "1") ∷ (codes "1") ∷ [] ∷ digest (codes "bad") ∷ []) ∷
    ((codes "transfer") ∷ (codes "from") ∷ (codes "to") ∷ (codes "kind") ∷ (codes "due") ∷ (codes "number") ∷ (codes "message") ∷ (codes "origin") ∷ (codes "md5") ∷ []) ∷
    ((codes "task") ∷ (codes "name") ∷ (codes "status") ∷ (codes "moved") ∷ []) ∷
    ((codes "report") ∷ (codes "queue") ∷ (codes "sends") ∷ (codes "repeats") ∷ (codes "receives") ∷ (codes "empties") ∷ (codes "deletes") ∷ (codes "expiries") ∷ (codes "redrives") ∷ (codes "moves") ∷ (codes "arrivals") ∷ (codes "OverLimit") ∷ (codes "MessageNotInflight") ∷ (codes "ReceiptHandleIsInvalid") ∷ (codes "BadTimeout") ∷ (codes "MissingGroup") ∷ (codes "MissingDeduplication") ∷ (codes "BadDelay") ∷ (codes "TaskRunning") ∷ (codes "NoTask") ∷ (codes "depth_max") ∷ (codes "visible") ∷ (codes "in_flight") ∷ (codes "delayed") ∷ (codes "age_sum") ∷ (codes "age_max") ∷ (codes "age_p50") ∷ (codes "age_p95") ∷ (codes "age_p99") ∷ []) ∷
    ((codes "report") ∷ (codes "q") ∷ (codes "3") ∷ (codes "0") ∷ (codes "3") ∷ (codes "0") ∷ (codes "2") ∷ (codes "0") ∷ (codes "0") ∷ (codes "0") ∷ (codes "0") ∷ (codes "0") ∷ (codes "0") ∷ (codes "0") ∷ (codes "0") ∷ (codes "0") ∷ (codes "0") ∷ (codes "0") ∷ (codes "0") ∷ (codes "0") ∷ (codes "3") ∷ (codes "0") ∷ (codes "1") ∷ (codes "0") ∷ (codes "220") ∷ (codes "110") ∷ (codes "110") ∷ (codes "110") ∷ (codes "110") ∷ []) ∷ [])
unfolding reading_on_literals running_on_literals columns_of
case_0_stop_while_a_batch_is_decided = refl

-- version-3/stop_while_a_batch_is_settled.toml
case_0_stop_while_a_batch_is_settled : shown_upto 3 69 [] (codes "# The batch ends well at 310 and is deleted until 312, beyond the stop at 311. Then nothing is asked.\nversion = 3\nhorizon = 1000\n[[queue]]\nname = \"q\"\n[[actor]]\nname = \"c\"\nkind = \"consumer\"\nqueue = \"q\"\nstart_ms = 10\nbatch = 3\nservice_min_ms = 100\nservice_max_ms = 100\nstop_ms = 311\nbatch_fails = \"whole\"\n[[actor]]\nname = \"s\"\nkind = \"script\"\nqueue = \"q\"\ncalls = \"\"\"\nat,call,body,group,id,delay,receipt,max,wait,timeout,task\n0,send,a,,,,,,,,\n1,send,b,,,,,,,,\n2,send,c,,,,,,,,\n\"\"\"\n")
    ≡ ran (((codes "at") ∷ (codes "queue") ∷ (codes "agent") ∷ (codes "call") ∷ (codes "answer") ∷ (codes "message") ∷ (codes "receipt") ∷ (codes "detail") ∷ []) ∷
    ((codes "0") ∷ (codes "q") ∷ (codes "s") ∷ (codes "send") ∷ (codes "new") ∷ (codes "m-0-0") ∷ [] ∷ digest (codes "a") ∷ []) ∷
    ((codes "1") ∷ (codes "q") ∷ (codes "s") ∷ (codes "send") ∷ (codes "new") ∷ (codes "m-0-1") ∷ [] ∷ digest (codes "b") ∷ []) ∷
    ((codes "2") ∷ (codes "q") ∷ (codes "s") ∷ (codes "send") ∷ (codes "new") ∷ (codes "m-0-2") ∷ [] ∷ digest (codes "c") ∷ []) ∷
    ((codes "10") ∷ (codes "q") ∷ (codes "c") ∷ (codes "receive") ∷ (codes "ok") ∷ (codes "m-0-0") ∷ (codes "r-0-0-1") ∷ (codes "o-0-0") ∷ []) ∷
    ((codes "10") ∷ (codes "q") ∷ (codes "c") ∷ (codes "receive") ∷ (codes "ok") ∷ (codes "m-0-1") ∷ (codes "r-0-1-1") ∷ (codes "o-0-1") ∷ []) ∷
    ((codes "10") ∷ (codes "q") ∷ (codes "c") ∷ (codes "receive") ∷ (codes "ok") ∷ (codes "m-0-2") ∷ (codes "r-0-2-1") ∷ (codes "o-0-2") ∷ []) ∷
    ((codes "310") ∷ (codes "q") ∷ (codes "c") ∷ (codes "delete") ∷ (codes "deleted") ∷ (codes "m-0-0") ∷ (codes "r-0-0-1") ∷ (codes "310") ∷ []) ∷
    ((codes "311") ∷ (codes "q") ∷ (codes "c") ∷ (codes "delete") ∷ (codes "deleted") ∷ (codes "m-0-1") ∷ (codes "r-0-1-1") ∷ (codes "310") ∷ []) ∷
    ((codes "312") ∷ (codes "q") ∷ (codes "c") ∷ (codes "delete") ∷ (codes "deleted") ∷ (codes "m-0-2") ∷ (codes "r-0-2-1") ∷ (codes "310") ∷ []) ∷
    ((codes "final") ∷ (codes "queue") ∷ (codes "message") ∷ (codes "origin") ∷ (codes "place") ∷ (codes "due") ∷ (codes "enqueued") ∷ (codes "receives") ∷ (codes "group") ∷ (codes "md5") ∷ []) ∷
    ((codes "transfer") ∷ (codes "from") ∷ (codes "to") ∷ (codes "kind") ∷ (codes "due") ∷ (codes "number") ∷ (codes "message") ∷ (codes "origin") ∷ (codes "md5") ∷ []) ∷
    ((codes "task") ∷ (codes "name") ∷ (codes "status") ∷ (codes "moved") ∷ []) ∷
    ((codes "report") ∷ (codes "queue") ∷ (codes "sends") ∷ (codes "repeats") ∷ (codes "receives") ∷ (codes "empties") ∷ (codes "deletes") ∷ (codes "expiries") ∷ (codes "redrives") ∷ (codes "moves") ∷ (codes "arrivals") ∷ (codes "OverLimit") ∷ (codes "MessageNotInflight") ∷ (codes "ReceiptHandleIsInvalid") ∷ (codes "BadTimeout") ∷ (codes "MissingGroup") ∷ (codes "MissingDeduplication") ∷ (codes "BadDelay") ∷ (codes "TaskRunning") ∷ (codes "NoTask") ∷ (codes "depth_max") ∷ (codes "visible") ∷ (codes "in_flight") ∷ (codes "delayed") ∷ (codes "age_sum") ∷ (codes "age_max") ∷ (codes "age_p50") ∷ (codes "age_p95") ∷ (codes "age_p99") ∷ []) ∷
    ((codes "report") ∷ (codes "q") ∷ (codes "3") ∷ (codes "0") ∷ (codes "3") ∷ (codes "0") ∷ (codes "3") ∷ (codes "0") ∷ (codes "0") ∷ (codes "0") ∷ (codes "0") ∷ (codes "0") ∷ (codes "0") ∷ (codes "0") ∷ (codes "0") ∷ (codes "0") ∷ (codes "0") ∷ (codes "0") ∷ (codes "0") ∷ (codes "0") ∷ (codes "3") ∷ (codes "0") ∷ (codes "0") ∷ (codes "0") ∷ (codes "930") ∷ (codes "310") ∷ (codes "310") ∷ (codes "310") ∷ (codes "310") ∷ []) ∷ [])
unfolding reading_on_literals running_on_literals columns_of
case_0_stop_while_a_batch_is_settled = refl

-- version-3/stop_while_a_poll_waits.toml
case_0_stop_while_a_poll_waits : shown_upto 3 65 [] (codes "# The poll of 10 goes on beyond the stop at 100 and gets the message of 500, which is served. Then nothing is asked.\nversion = 3\nhorizon = 2000\n[[queue]]\nname = \"q\"\n[[actor]]\nname = \"c\"\nkind = \"consumer\"\nqueue = \"q\"\nstart_ms = 10\nwait_s = 1\nservice_min_ms = 100\nservice_max_ms = 100\nstop_ms = 100\n[[actor]]\nname = \"s\"\nkind = \"script\"\nqueue = \"q\"\ncalls = \"\"\"\nat,call,body,group,id,delay,receipt,max,wait,timeout,task\n500,send,a,,,,,,,,\n700,send,b,,,,,,,,\n\"\"\"\n")
    ≡ ran (((codes "at") ∷ (codes "queue") ∷ (codes "agent") ∷ (codes "call") ∷ (codes "answer") ∷ (codes "message") ∷ (codes "receipt") ∷ (codes "detail") ∷ []) ∷
    ((codes "10") ∷ (codes "q") ∷ (codes "c") ∷ (codes "receive") ∷ (codes "wait") ∷ [] ∷ [] ∷ [] ∷ []) ∷
    ((codes "500") ∷ (codes "q") ∷ (codes "s") ∷ (codes "send") ∷ (codes "new") ∷ (codes "m-0-0") ∷ [] ∷ digest (codes "a") ∷ []) ∷
    ((codes "500") ∷ (codes "q") ∷ (codes "c") ∷ (codes "receive") ∷ (codes "ok") ∷ (codes "m-0-0") ∷ (codes "r-0-0-1") ∷ (codes "o-0-0") ∷ []) ∷
    ((codes "600") ∷ (codes "q") ∷ (codes "c") ∷ (codes "delete") ∷ (codes "deleted") ∷ (codes "m-0-0") ∷ (codes "r-0-0-1") ∷ (codes "100") ∷ []) ∷
    ((codes "700") ∷ (codes "q") ∷ (codes "s") ∷ (codes "send") ∷ (codes "new") ∷ (codes "m-0-1") ∷ [] ∷ digest (codes "b") ∷ []) ∷
    ((codes "final") ∷ (codes "queue") ∷ (codes "message") ∷ (codes "origin") ∷ (codes "place") ∷ (codes "due") ∷ (codes "enqueued") ∷ (codes "receives") ∷ (codes "group") ∷ (codes "md5") ∷ []) ∷
    ((codes "final") ∷ (codes "q") ∷ (codes "m-0-1") ∷ (codes "o-0-1") ∷ (codes "visible") ∷ [] ∷ (codes "700") ∷ (codes "0") ∷ [] ∷ digest (codes "b") ∷ []) ∷
    ((codes "transfer") ∷ (codes "from") ∷ (codes "to") ∷ (codes "kind") ∷ (codes "due") ∷ (codes "number") ∷ (codes "message") ∷ (codes "origin") ∷ (codes "md5") ∷ []) ∷
    ((codes "task") ∷ (codes "name") ∷ (codes "status") ∷ (codes "moved") ∷ []) ∷
    ((codes "report") ∷ (codes "queue") ∷ (codes "sends") ∷ (codes "repeats") ∷ (codes "receives") ∷ (codes "empties") ∷ (codes "deletes") ∷ (codes "expiries") ∷ (codes "redrives") ∷ (codes "moves") ∷ (codes "arrivals") ∷ (codes "OverLimit") ∷ (codes "MessageNotInflight") ∷ (codes "ReceiptHandleIsInvalid") ∷ (codes "BadTimeout") ∷ (codes "MissingGroup") ∷ (codes "MissingDeduplication") ∷ (codes "BadDelay") ∷ (codes "TaskRunning") ∷ (codes "NoTask") ∷ (codes "depth_max") ∷ (codes "visible") ∷ (codes "in_flight") ∷ (codes "delayed") ∷ (codes "age_sum") ∷ (codes "age_max") ∷ (codes "age_p50") ∷ (codes "age_p95") ∷ (codes "age_p99") ∷ []) ∷
    ((codes "report") ∷ (codes "q") ∷ (codes "2") ∷ (codes "0") ∷ (codes "1") ∷ (codes "0") ∷ (codes "1") ∷ (codes "0") ∷ (codes "0") ∷ (codes "0") ∷ (codes "0") ∷ (codes "0") ∷ (codes "0") ∷ (codes "0") ∷ (codes "0") ∷ (codes "0") ∷ (codes "0") ∷ (codes "0") ∷ (codes "0") ∷ (codes "0") ∷ (codes "1") ∷ (codes "1") ∷ (codes "0") ∷ (codes "0") ∷ (codes "100") ∷ (codes "100") ∷ (codes "100") ∷ (codes "100") ∷ (codes "100") ∷ []) ∷ [])
unfolding reading_on_literals running_on_literals columns_of
case_0_stop_while_a_poll_waits = refl

-- version-3/stop_while_it_holds.toml
case_0_stop_while_it_holds : shown_upto 3 67 [] (codes "# At 150 the consumer stops. It holds two messages and serves both, the second until 210. At 211 it asks for nothing,\n# and m-0-2 stays.\nversion = 3\nhorizon = 5000\n[[queue]]\nname = \"q\"\n[[actor]]\nname = \"c\"\nkind = \"consumer\"\nqueue = \"q\"\nstart_ms = 10\nbatch = 2\nwait_s = 20\nservice_min_ms = 100\nservice_max_ms = 100\nstop_ms = 150\n[[actor]]\nname = \"s\"\nkind = \"script\"\nqueue = \"q\"\ncalls = \"\"\"\nat,call,body,group,id,delay,receipt,max,wait,timeout,task\n0,send,a,,,,,,,,\n1,send,b,,,,,,,,\n2,send,c,,,,,,,,\n\"\"\"\n")
    ≡ ran (((codes "at") ∷ (codes "queue") ∷ (codes "agent") ∷ (codes "call") ∷ (codes "answer") ∷ (codes "message") ∷ (codes "receipt") ∷ (codes "detail") ∷ []) ∷
    ((codes "0") ∷ (codes "q") ∷ (codes "s") ∷ (codes "send") ∷ (codes "new") ∷ (codes "m-0-0") ∷ [] ∷ digest (codes "a") ∷ []) ∷
    ((codes "1") ∷ (codes "q") ∷ (codes "s") ∷ (codes "send") ∷ (codes "new") ∷ (codes "m-0-1") ∷ [] ∷ digest (codes "b") ∷ []) ∷
    ((codes "2") ∷ (codes "q") ∷ (codes "s") ∷ (codes "send") ∷ (codes "new") ∷ (codes "m-0-2") ∷ [] ∷ digest (codes "c") ∷ []) ∷
    ((codes "10") ∷ (codes "q") ∷ (codes "c") ∷ (codes "receive") ∷ (codes "ok") ∷ (codes "m-0-0") ∷ (codes "r-0-0-1") ∷ (codes "o-0-0") ∷ []) ∷
    ((codes "10") ∷ (codes "q") ∷ (codes "c") ∷ (codes "receive") ∷ (codes "ok") ∷ (codes "m-0-1") ∷ (codes "r-0-1-1") ∷ (codes "o-0-1") ∷ []) ∷
    ((codes "110") ∷ (codes "q") ∷ (codes "c") ∷ (codes "delete") ∷ (codes "deleted") ∷ (codes "m-0-0") ∷ (codes "r-0-0-1") ∷ (codes "110") ∷ []) ∷
    ((codes "210") ∷ (codes "q") ∷ (codes "c") ∷ (codes "delete") ∷ (codes "deleted") ∷ (codes "m-0-1") ∷ (codes "r-0-1-1") ∷ (codes "209") ∷ []) ∷
    ((codes "final") ∷ (codes "queue") ∷ (codes "message") ∷ (codes "origin") ∷ (codes "place") ∷ (codes "due") ∷ (codes "enqueued") ∷ (codes "receives") ∷ (codes "group") ∷ (codes "md5") ∷ []) ∷
    ((codes "final") ∷ (codes "q") ∷ (codes "m-0-2") ∷ (codes "o-0-2") ∷ (codes "visible") ∷ [] ∷ (codes "2") ∷ (codes "0") ∷ [] ∷ digest (codes "c") ∷ []) ∷
    ((codes "transfer") ∷ (codes "from") ∷ (codes "to") ∷ (codes "kind") ∷ (codes "due") ∷ (codes "number") ∷ (codes "message") ∷ (codes "origin") ∷ (codes "md5") ∷ []) ∷
    ((codes "task") ∷ (codes "name") ∷ (codes "status") ∷ (codes "moved") ∷ []) ∷
    ((codes "report") ∷ (codes "queue") ∷ (codes "sends") ∷ (codes "repeats") ∷ (codes "receives") ∷ (codes "empties") ∷ (codes "deletes") ∷ (codes "expiries") ∷ (codes "redrives") ∷ (codes "moves") ∷ (codes "arrivals") ∷ (codes "OverLimit") ∷ (codes "MessageNotInflight") ∷ (codes "ReceiptHandleIsInvalid") ∷ (codes "BadTimeout") ∷ (codes "MissingGroup") ∷ (codes "MissingDeduplication") ∷ (codes "BadDelay") ∷ (codes "TaskRunning") ∷ (codes "NoTask") ∷ (codes "depth_max") ∷ (codes "visible") ∷ (codes "in_flight") ∷ (codes "delayed") ∷ (codes "age_sum") ∷ (codes "age_max") ∷ (codes "age_p50") ∷ (codes "age_p95") ∷ (codes "age_p99") ∷ []) ∷
    ((codes "report") ∷ (codes "q") ∷ (codes "3") ∷ (codes "0") ∷ (codes "2") ∷ (codes "0") ∷ (codes "2") ∷ (codes "0") ∷ (codes "0") ∷ (codes "0") ∷ (codes "0") ∷ (codes "0") ∷ (codes "0") ∷ (codes "0") ∷ (codes "0") ∷ (codes "0") ∷ (codes "0") ∷ (codes "0") ∷ (codes "0") ∷ (codes "0") ∷ (codes "3") ∷ (codes "1") ∷ (codes "0") ∷ (codes "0") ∷ (codes "319") ∷ (codes "209") ∷ (codes "110") ∷ (codes "209") ∷ (codes "209") ∷ []) ∷ [])
unfolding reading_on_literals running_on_literals columns_of
case_0_stop_while_it_holds = refl

-- version-3/whole_batch_ends_well.toml
case_0_whole_batch_ends_well : shown_upto 3 70 [] (codes "# Services end at 110, 210 and 310. The first two make no row. At 310 the batch is deleted, 1 ms apart, and 1 ms after\n# the last delete the consumer asks.\nversion = 3\nhorizon = 1000\n[[queue]]\nname = \"q\"\n[[actor]]\nname = \"c\"\nkind = \"consumer\"\nqueue = \"q\"\nstart_ms = 10\nbatch = 3\nwait_s = 20\nservice_min_ms = 100\nservice_max_ms = 100\nbatch_fails = \"whole\"\n[[actor]]\nname = \"s\"\nkind = \"script\"\nqueue = \"q\"\ncalls = \"\"\"\nat,call,body,group,id,delay,receipt,max,wait,timeout,task\n0,send,a,,,,,,,,\n1,send,b,,,,,,,,\n2,send,c,,,,,,,,\n\"\"\"\n")
    ≡ ran (((codes "at") ∷ (codes "queue") ∷ (codes "agent") ∷ (codes "call") ∷ (codes "answer") ∷ (codes "message") ∷ (codes "receipt") ∷ (codes "detail") ∷ []) ∷
    ((codes "0") ∷ (codes "q") ∷ (codes "s") ∷ (codes "send") ∷ (codes "new") ∷ (codes "m-0-0") ∷ [] ∷ digest (codes "a") ∷ []) ∷
    ((codes "1") ∷ (codes "q") ∷ (codes "s") ∷ (codes "send") ∷ (codes "new") ∷ (codes "m-0-1") ∷ [] ∷ digest (codes "b") ∷ []) ∷
    ((codes "2") ∷ (codes "q") ∷ (codes "s") ∷ (codes "send") ∷ (codes "new") ∷ (codes "m-0-2") ∷ [] ∷ digest (codes "c") ∷ []) ∷
    ((codes "10") ∷ (codes "q") ∷ (codes "c") ∷ (codes "receive") ∷ (codes "ok") ∷ (codes "m-0-0") ∷ (codes "r-0-0-1") ∷ (codes "o-0-0") ∷ []) ∷
    ((codes "10") ∷ (codes "q") ∷ (codes "c") ∷ (codes "receive") ∷ (codes "ok") ∷ (codes "m-0-1") ∷ (codes "r-0-1-1") ∷ (codes "o-0-1") ∷ []) ∷
    ((codes "10") ∷ (codes "q") ∷ (codes "c") ∷ (codes "receive") ∷ (codes "ok") ∷ (codes "m-0-2") ∷ (codes "r-0-2-1") ∷ (codes "o-0-2") ∷ []) ∷
    ((codes "310") ∷ (codes "q") ∷ (codes "c") ∷ (codes "delete") ∷ (codes "deleted") ∷ (codes "m-0-0") ∷ (codes "r-0-0-1") ∷ (codes "310") ∷ []) ∷
    ((codes "311") ∷ (codes "q") ∷ (codes "c") ∷ (codes "delete") ∷ (codes "deleted") ∷ (codes "m-0-1") ∷ (codes "r-0-1-1") ∷ (codes "310") ∷ []) ∷
    ((codes "312") ∷ (codes "q") ∷ (codes "c") ∷ (codes "delete") ∷ (codes "deleted") ∷ (codes "m-0-2") ∷ (codes "r-0-2-1") ∷ (codes "310") ∷ []) ∷
    ((codes "313") ∷ (codes "q") ∷ (codes "c") ∷ (codes "receive") ∷ (codes "wait") ∷ [] ∷ [] ∷ [] ∷ []) ∷
    ((codes "final") ∷ (codes "queue") ∷ (codes "message") ∷ (codes "origin") ∷ (codes "place") ∷ (codes "due") ∷ (codes "enqueued") ∷ (codes "receives") ∷ (codes "group") ∷ (codes "md5") ∷ []) ∷
    ((codes "transfer") ∷ (codes "from") ∷ (codes "to") ∷ (codes "kind") ∷ (codes "due") ∷ (codes "number") ∷ (codes "message") ∷ (codes "origin") ∷ (codes "md5") ∷ []) ∷
    ((codes "task") ∷ (codes "name") ∷ (codes "status") ∷ (codes "moved") ∷ []) ∷
    ((codes "report") ∷ (codes "queue") ∷ (codes "sends") ∷ (codes "repeats") ∷ (codes "receives") ∷ (codes "empties") ∷ (codes "deletes") ∷ (codes "expiries") ∷ (codes "redrives") ∷ (codes "moves") ∷ (codes "arrivals") ∷ (codes "OverLimit") ∷ (codes "MessageNotInflight") ∷ (codes "ReceiptHandleIsInvalid") ∷ (codes "BadTimeout") ∷ (codes "MissingGroup") ∷ (codes "MissingDeduplication") ∷ (codes "BadDelay") ∷ (codes "TaskRunning") ∷ (codes "NoTask") ∷ (codes "depth_max") ∷ (codes "visible") ∷ (codes "in_flight") ∷ (codes "delayed") ∷ (codes "age_sum") ∷ (codes "age_max") ∷ (codes "age_p50") ∷ (codes "age_p95") ∷ (codes "age_p99") ∷ []) ∷
    ((codes "report") ∷ (codes "q") ∷ (codes "3") ∷ (codes "0") ∷ (codes "3") ∷ (codes "0") ∷ (codes "3") ∷ (codes "0") ∷ (codes "0") ∷ (codes "0") ∷ (codes "0") ∷ (codes "0") ∷ (codes "0") ∷ (codes "0") ∷ (codes "0") ∷ (codes "0") ∷ (codes "0") ∷ (codes "0") ∷ (codes "0") ∷ (codes "0") ∷ (codes "3") ∷ (codes "0") ∷ (codes "0") ∷ (codes "0") ∷ (codes "930") ∷ (codes "310") ∷ (codes "310") ∷ (codes "310") ∷ (codes "310") ∷ []) ∷ [])
unfolding reading_on_literals running_on_literals columns_of
case_0_whole_batch_ends_well = refl

-- version-3/whole_batch_fails.toml
case_0_whole_batch_fails : shown_upto 3 77 [] (codes "# m-0-0 is served well until 110, m-0-1 fails at 210, m-0-2 is not served. Nothing is deleted. All come back at 1010,\n# one handling after another: the waiting poll is answered in the first, with m-0-0 alone. That is a batch of one, which\n# ends well at 1110. The next batch is m-0-1 and m-0-2; its first message fails at 1211.\nversion = 3\nhorizon = 1300\n[[queue]]\nname = \"q\"\nvisibility_s = 1\n[[actor]]\nname = \"c\"\nkind = \"consumer\"\nqueue = \"q\"\nstart_ms = 10\nbatch = 3\nwait_s = 20\nservice_min_ms = 100\nservice_max_ms = 100\nfails_on = \"bad\"\nbatch_fails = \"whole\"\n[[actor]]\nname = \"s\"\nkind = \"script\"\nqueue = \"q\"\ncalls = \"\"\"\nat,call,body,group,id,delay,receipt,max,wait,timeout,task\n0,send,a,,,,,,,,\n1,send,bad,,,,,,,,\n2,send,c,,,,,,,,\n\"\"\"\n")
    ≡ ran (((codes "at") ∷ (codes "queue") ∷ (codes "agent") ∷ (codes "call") ∷ (codes "answer") ∷ (codes "message") ∷ (codes "receipt") ∷ (codes "detail") ∷ []) ∷
    ((codes "0") ∷ (codes "q") ∷ (codes "s") ∷ (codes "send") ∷ (codes "new") ∷ (codes "m-0-0") ∷ [] ∷ digest (codes "a") ∷ []) ∷
    ((codes "1") ∷ (codes "q") ∷ (codes "s") ∷ (codes "send") ∷ (codes "new") ∷ (codes "m-0-1") ∷ [] ∷ digest (codes "bad") ∷ []) ∷
    ((codes "2") ∷ (codes "q") ∷ (codes "s") ∷ (codes "send") ∷ (codes "new") ∷ (codes "m-0-2") ∷ [] ∷ digest (codes "c") ∷ []) ∷
    ((codes "10") ∷ (codes "q") ∷ (codes "c") ∷ (codes "receive") ∷ (codes "ok") ∷ (codes "m-0-0") ∷ (codes "r-0-0-1") ∷ (codes "o-0-0") ∷ []) ∷
    ((codes "10") ∷ (codes "q") ∷ (codes "c") ∷ (codes "receive") ∷ (codes "ok") ∷ (codes "m-0-1") ∷ (codes "r-0-1-1") ∷ (codes "o-0-1") ∷ []) ∷
    ((codes "10") ∷ (codes "q") ∷ (codes "c") ∷ (codes "receive") ∷ (codes "ok") ∷ (codes "m-0-2") ∷ (codes "r-0-2-1") ∷ (codes "o-0-2") ∷ []) ∷
    ((codes "210") ∷ (codes "q") ∷ (codes "c") ∷ (codes "fail") ∷ (codes "ok") ∷ (codes "m-0-1") ∷ (codes "r-0-1-1") ∷ [] ∷ []) ∷
    ((codes "211") ∷ (codes "q") ∷ (codes "c") ∷ (codes "receive") ∷ (codes "wait") ∷ [] ∷ [] ∷ [] ∷ []) ∷
    ((codes "1010") ∷ (codes "q") ∷ (codes "q") ∷ (codes "release") ∷ (codes "visible") ∷ (codes "m-0-0") ∷ [] ∷ [] ∷ []) ∷
    ((codes "1010") ∷ (codes "q") ∷ (codes "c") ∷ (codes "receive") ∷ (codes "ok") ∷ (codes "m-0-0") ∷ (codes "r-0-0-2") ∷ (codes "o-0-0") ∷ []) ∷
    ((codes "1010") ∷ (codes "q") ∷ (codes "q") ∷ (codes "release") ∷ (codes "visible") ∷ (codes "m-0-1") ∷ [] ∷ [] ∷ []) ∷
    ((codes "1010") ∷ (codes "q") ∷ (codes "q") ∷ (codes "release") ∷ (codes "visible") ∷ (codes "m-0-2") ∷ [] ∷ [] ∷ []) ∷
    ((codes "1110") ∷ (codes "q") ∷ (codes "c") ∷ (codes "delete") ∷ (codes "deleted") ∷ (codes "m-0-0") ∷ (codes "r-0-0-2") ∷ (codes "1110") ∷ []) ∷
    ((codes "1111") ∷ (codes "q") ∷ (codes "c") ∷ (codes "receive") ∷ (codes "ok") ∷ (codes "m-0-1") ∷ (codes "r-0-1-2") ∷ (codes "o-0-1") ∷ []) ∷
    ((codes "1111") ∷ (codes "q") ∷ (codes "c") ∷ (codes "receive") ∷ (codes "ok") ∷ (codes "m-0-2") ∷ (codes "r-0-2-2") ∷ (codes "o-0-2") ∷ []) ∷
    ((codes "1211") ∷ (codes "q") ∷ (codes "c") ∷ (codes "fail") ∷ (codes "ok") ∷ (codes "m-0-1") ∷ (codes "r-0-1-2") ∷ [] ∷ []) ∷
    ((codes "1212") ∷ (codes "q") ∷ (codes "c") ∷ (codes "receive") ∷ (codes "wait") ∷ [] ∷ [] ∷ [] ∷ []) ∷
    ((codes "final") ∷ (codes "queue") ∷ (codes "message") ∷ (codes "origin") ∷ (codes "place") ∷ (codes "due") ∷ (codes "enqueued") ∷ (codes "receives") ∷ (codes "group") ∷ (codes "md5") ∷ []) ∷
    ((codes "final") ∷ (codes "q") ∷ (codes "m-0-1") ∷ (codes "o-0-1") ∷ (codes "inflight") ∷ (codes "2111") ∷ (codes "1") ∷ (codes "2") ∷ [] ∷ digest (codes "bad") ∷ []) ∷
    ((codes "final") ∷ (codes "q") ∷ (codes "m-0-2") ∷ (codes "o-0-2") ∷ (codes "inflight") ∷ (codes "2111") ∷ (codes "2") ∷ (codes "2") ∷ [] ∷ digest (codes "c") ∷ []) ∷
    ((codes "transfer") ∷ (codes "from") ∷ (codes "to") ∷ (codes "kind") ∷ (codes "due") ∷ (codes "number") ∷ (codes "message") ∷ (codes "origin") ∷ (codes "md5") ∷ []) ∷
    ((codes "task") ∷ (codes "name") ∷ (codes "status") ∷ (codes "moved") ∷ []) ∷
    ((codes "report") ∷ (codes "queue") ∷ (codes "sends") ∷ (codes "repeats") ∷ (codes "receives") ∷ (codes "empties") ∷ (codes "deletes") ∷ (codes "expiries") ∷ (codes "redrives") ∷ (codes "moves") ∷ (codes "arrivals") ∷ (codes "OverLimit") ∷ (codes "MessageNotInflight") ∷ (codes "ReceiptHandleIsInvalid") ∷ (codes "BadTimeout") ∷ (codes "MissingGroup") ∷ (codes "MissingDeduplication") ∷ (codes "BadDelay") ∷ (codes "TaskRunning") ∷ (codes "NoTask") ∷ (codes "depth_max") ∷ (codes "visible") ∷ (codes "in_flight") ∷ (codes "delayed") ∷ (codes "age_sum") ∷ (codes "age_max") ∷ (codes "age_p50") ∷ (codes "age_p95") ∷ (codes "age_p99") ∷ []) ∷
    ((codes "report") ∷ (codes "q") ∷ (codes "3") ∷ (codes "0") ∷ (codes "6") ∷ (codes "0") ∷ (codes "1") ∷ (codes "0") ∷ (codes "0") ∷ (codes "0") ∷ (codes "0") ∷ (codes "0") ∷ (codes "0") ∷ (codes "0") ∷ (codes "0") ∷ (codes "0") ∷ (codes "0") ∷ (codes "0") ∷ (codes "0") ∷ (codes "0") ∷ (codes "3") ∷ (codes "0") ∷ (codes "2") ∷ (codes "0") ∷ (codes "1110") ∷ (codes "1110") ∷ (codes "1110") ∷ (codes "1110") ∷ (codes "1110") ∷ []) ∷ [])
unfolding reading_on_literals running_on_literals columns_of
case_0_whole_batch_fails = refl

-- version-3/whole_batch_forwards.toml
case_0_whole_batch_forwards : shown_upto 3 71 [] (codes "# Words of agent 2: 717.678 and 447.024 (first service, chance), 12.444 and 505.346 (second service, chance), 192.088\n# (latency of m-0-0 at its delete, 50 + 19 = 69), 387.809 (latency of m-0-1 at its delete, 50 + 38 = 88). So the\n# forwards arrive at 210 + 69 = 279 and 211 + 88 = 299.\nversion = 3\nhorizon = 1000\n[[queue]]\nname = \"q\"\n[[queue]]\nname = \"out\"\n[[actor]]\nname = \"c\"\nkind = \"consumer\"\nqueue = \"q\"\nstart_ms = 10\nbatch = 2\nwait_s = 20\nservice_min_ms = 100\nservice_max_ms = 100\nforward = \"out\"\nlatency_min_ms = 50\nlatency_max_ms = 149\nbatch_fails = \"whole\"\n[[actor]]\nname = \"s\"\nkind = \"script\"\nqueue = \"q\"\ncalls = \"\"\"\nat,call,body,group,id,delay,receipt,max,wait,timeout,task\n0,send,a,,,,,,,,\n1,send,b,,,,,,,,\n\"\"\"\n")
    ≡ ran (((codes "at") ∷ (codes "queue") ∷ (codes "agent") ∷ (codes "call") ∷ (codes "answer") ∷ (codes "message") ∷ (codes "receipt") ∷ (codes "detail") ∷ []) ∷
    ((codes "0") ∷ (codes "q") ∷ (codes "s") ∷ (codes "send") ∷ (codes "new") ∷ (codes "m-0-0") ∷ [] ∷ digest (codes "a") ∷ []) ∷
    ((codes "1") ∷ (codes "q") ∷ (codes "s") ∷ (codes "send") ∷ (codes "new") ∷ (codes "m-0-1") ∷ [] ∷ digest (codes "b") ∷ []) ∷
    ((codes "10") ∷ (codes "q") ∷ (codes "c") ∷ (codes "receive") ∷ (codes "ok") ∷ (codes "m-0-0") ∷ (codes "r-0-0-1") ∷ (codes "o-0-0") ∷ []) ∷
    ((codes "10") ∷ (codes "q") ∷ (codes "c") ∷ (codes "receive") ∷ (codes "ok") ∷ (codes "m-0-1") ∷ (codes "r-0-1-1") ∷ (codes "o-0-1") ∷ []) ∷
    ((codes "210") ∷ (codes "q") ∷ (codes "c") ∷ (codes "forward") ∷ (codes "out") ∷ (codes "m-0-0") ∷ [] ∷ (codes "out") ∷ []) ∷
    ((codes "210") ∷ (codes "q") ∷ (codes "c") ∷ (codes "delete") ∷ (codes "deleted") ∷ (codes "m-0-0") ∷ (codes "r-0-0-1") ∷ (codes "210") ∷ []) ∷
    ((codes "211") ∷ (codes "q") ∷ (codes "c") ∷ (codes "forward") ∷ (codes "out") ∷ (codes "m-0-1") ∷ [] ∷ (codes "out") ∷ []) ∷
    ((codes "211") ∷ (codes "q") ∷ (codes "c") ∷ (codes "delete") ∷ (codes "deleted") ∷ (codes "m-0-1") ∷ (codes "r-0-1-1") ∷ (codes "210") ∷ []) ∷
    ((codes "212") ∷ (codes "q") ∷ (codes "c") ∷ (codes "receive") ∷ (codes "wait") ∷ [] ∷ [] ∷ [] ∷ []) ∷
    ((codes "279") ∷ (codes "out") ∷ (codes "c") ∷ (codes "arrive") ∷ (codes "new") ∷ (codes "m-1-0") ∷ [] ∷ (codes "o-1-0") ∷ []) ∷
    ((codes "299") ∷ (codes "out") ∷ (codes "c") ∷ (codes "arrive") ∷ (codes "new") ∷ (codes "m-1-1") ∷ [] ∷ (codes "o-1-1") ∷ []) ∷
    ((codes "final") ∷ (codes "queue") ∷ (codes "message") ∷ (codes "origin") ∷ (codes "place") ∷ (codes "due") ∷ (codes "enqueued") ∷ (codes "receives") ∷ (codes "group") ∷ (codes "md5") ∷ []) ∷
    ((codes "final") ∷ (codes "out") ∷ (codes "m-1-0") ∷ (codes "o-1-0") ∷ (codes "visible") ∷ [] ∷ (codes "279") ∷ (codes "0") ∷ [] ∷ digest (codes "a") ∷ []) ∷
    ((codes "final") ∷ (codes "out") ∷ (codes "m-1-1") ∷ (codes "o-1-1") ∷ (codes "visible") ∷ [] ∷ (codes "299") ∷ (codes "0") ∷ [] ∷ digest (codes "b") ∷ []) ∷
    ((codes "transfer") ∷ (codes "from") ∷ (codes "to") ∷ (codes "kind") ∷ (codes "due") ∷ (codes "number") ∷ (codes "message") ∷ (codes "origin") ∷ (codes "md5") ∷ []) ∷
    ((codes "task") ∷ (codes "name") ∷ (codes "status") ∷ (codes "moved") ∷ []) ∷
    ((codes "report") ∷ (codes "queue") ∷ (codes "sends") ∷ (codes "repeats") ∷ (codes "receives") ∷ (codes "empties") ∷ (codes "deletes") ∷ (codes "expiries") ∷ (codes "redrives") ∷ (codes "moves") ∷ (codes "arrivals") ∷ (codes "OverLimit") ∷ (codes "MessageNotInflight") ∷ (codes "ReceiptHandleIsInvalid") ∷ (codes "BadTimeout") ∷ (codes "MissingGroup") ∷ (codes "MissingDeduplication") ∷ (codes "BadDelay") ∷ (codes "TaskRunning") ∷ (codes "NoTask") ∷ (codes "depth_max") ∷ (codes "visible") ∷ (codes "in_flight") ∷ (codes "delayed") ∷ (codes "age_sum") ∷ (codes "age_max") ∷ (codes "age_p50") ∷ (codes "age_p95") ∷ (codes "age_p99") ∷ []) ∷
    ((codes "report") ∷ (codes "q") ∷ (codes "2") ∷ (codes "0") ∷ (codes "2") ∷ (codes "0") ∷ (codes "2") ∷ (codes "0") ∷ (codes "0") ∷ (codes "0") ∷ (codes "0") ∷ (codes "0") ∷ (codes "0") ∷ (codes "0") ∷ (codes "0") ∷ (codes "0") ∷ (codes "0") ∷ (codes "0") ∷ (codes "0") ∷ (codes "0") ∷ (codes "2") ∷ (codes "0") ∷ (codes "0") ∷ (codes "0") ∷ (codes "420") ∷ (codes "210") ∷ (codes "210") ∷ (codes "210") ∷ (codes "210") ∷ []) ∷
    ((codes "report") ∷ (codes "out") ∷ (codes "0") ∷ (codes "0") ∷ (codes "0") ∷ (codes "0") ∷ (codes "0") ∷ (codes "0") ∷ (codes "0") ∷ (codes "0") ∷ (codes "2") ∷ (codes "0") ∷ (codes "0") ∷ (codes "0") ∷ (codes "0") ∷ (codes "0") ∷ (codes "0") ∷ (codes "0") ∷ (codes "0") ∷ (codes "0") ∷ (codes "2") ∷ (codes "2") ∷ (codes "0") ∷ (codes "0") ∷ (codes "0") ∷ [] ∷ [] ∷ [] ∷ [] ∷ []) ∷ [])
unfolding reading_on_literals running_on_literals columns_of
case_0_whole_batch_forwards = refl

-- version-3/whole_batch_outlives_its_timeouts.toml
case_0_whole_batch_outlives_its_timeouts : shown_upto 3 73 [] (codes "# Both timeouts end at 1010, in the midst of the batch. The poll of d gets m-0-0 as it comes back; m-0-1 stays visible.\n# At 1610 c deletes m-0-0 by a receipt that is older than that of d: kept. At 1611 it deletes m-0-1 by the newest one,\n# which deletes a visible message of a standard queue. At 1810 d deletes m-0-0.\nversion = 3\nhorizon = 2000\n[[queue]]\nname = \"q\"\nvisibility_s = 1\n[[actor]]\nname = \"c\"\nkind = \"consumer\"\nqueue = \"q\"\nstart_ms = 10\nbatch = 2\nwait_s = 20\nservice_min_ms = 800\nservice_max_ms = 800\nbatch_fails = \"whole\"\n[[actor]]\nname = \"d\"\nkind = \"consumer\"\nqueue = \"q\"\nstart_ms = 20\nwait_s = 20\nservice_min_ms = 800\nservice_max_ms = 800\n[[actor]]\nname = \"s\"\nkind = \"script\"\nqueue = \"q\"\ncalls = \"\"\"\nat,call,body,group,id,delay,receipt,max,wait,timeout,task\n0,send,a,,,,,,,,\n1,send,b,,,,,,,,\n\"\"\"\n")
    ≡ ran (((codes "at") ∷ (codes "queue") ∷ (codes "agent") ∷ (codes "call") ∷ (codes "answer") ∷ (codes "message") ∷ (codes "receipt") ∷ (codes "detail") ∷ []) ∷
    ((codes "0") ∷ (codes "q") ∷ (codes "s") ∷ (codes "send") ∷ (codes "new") ∷ (codes "m-0-0") ∷ [] ∷ digest (codes "a") ∷ []) ∷
    ((codes "1") ∷ (codes "q") ∷ (codes "s") ∷ (codes "send") ∷ (codes "new") ∷ (codes "m-0-1") ∷ [] ∷ digest (codes "b") ∷ []) ∷
    ((codes "10") ∷ (codes "q") ∷ (codes "c") ∷ (codes "receive") ∷ (codes "ok") ∷ (codes "m-0-0") ∷ (codes "r-0-0-1") ∷ (codes "o-0-0") ∷ []) ∷
    ((codes "10") ∷ (codes "q") ∷ (codes "c") ∷ (codes "receive") ∷ (codes "ok") ∷ (codes "m-0-1") ∷ (codes "r-0-1-1") ∷ (codes "o-0-1") ∷ []) ∷
    ((codes "20") ∷ (codes "q") ∷ (codes "d") ∷ (codes "receive") ∷ (codes "wait") ∷ [] ∷ [] ∷ [] ∷ []) ∷
    ((codes "1010") ∷ (codes "q") ∷ (codes "q") ∷ (codes "release") ∷ (codes "visible") ∷ (codes "m-0-0") ∷ [] ∷ [] ∷ []) ∷
    ((codes "1010") ∷ (codes "q") ∷ (codes "d") ∷ (codes "receive") ∷ (codes "ok") ∷ (codes "m-0-0") ∷ (codes "r-0-0-2") ∷ (codes "o-0-0") ∷ []) ∷
    ((codes "1010") ∷ (codes "q") ∷ (codes "q") ∷ (codes "release") ∷ (codes "visible") ∷ (codes "m-0-1") ∷ [] ∷ [] ∷ []) ∷
    ((codes "1610") ∷ (codes "q") ∷ (codes "c") ∷ (codes "delete") ∷ (codes "kept") ∷ (codes "m-0-0") ∷ (codes "r-0-0-1") ∷ [] ∷ []) ∷
    ((codes "1611") ∷ (codes "q") ∷ (codes "c") ∷ (codes "delete") ∷ (codes "deleted") ∷ (codes "m-0-1") ∷ (codes "r-0-1-1") ∷ (codes "1610") ∷ []) ∷
    ((codes "1612") ∷ (codes "q") ∷ (codes "c") ∷ (codes "receive") ∷ (codes "wait") ∷ [] ∷ [] ∷ [] ∷ []) ∷
    ((codes "1810") ∷ (codes "q") ∷ (codes "d") ∷ (codes "delete") ∷ (codes "deleted") ∷ (codes "m-0-0") ∷ (codes "r-0-0-2") ∷ (codes "1810") ∷ []) ∷
    ((codes "1811") ∷ (codes "q") ∷ (codes "d") ∷ (codes "receive") ∷ (codes "wait") ∷ [] ∷ [] ∷ [] ∷ []) ∷
    ((codes "final") ∷ (codes "queue") ∷ (codes "message") ∷ (codes "origin") ∷ (codes "place") ∷ (codes "due") ∷ (codes "enqueued") ∷ (codes "receives") ∷ (codes "group") ∷ (codes "md5") ∷ []) ∷
    ((codes "transfer") ∷ (codes "from") ∷ (codes "to") ∷ (codes "kind") ∷ (codes "due") ∷ (codes "number") ∷ (codes "message") ∷ (codes "origin") ∷ (codes "md5") ∷ []) ∷
    ((codes "task") ∷ (codes "name") ∷ (codes "status") ∷ (codes "moved") ∷ []) ∷
    ((codes "report") ∷ (codes "queue") ∷ (codes "sends") ∷ (codes "repeats") ∷ (codes "receives") ∷ (codes "empties") ∷ (codes "deletes") ∷ (codes "expiries") ∷ (codes "redrives") ∷ (codes "moves") ∷ (codes "arrivals") ∷ (codes "OverLimit") ∷ (codes "MessageNotInflight") ∷ (codes "ReceiptHandleIsInvalid") ∷ (codes "BadTimeout") ∷ (codes "MissingGroup") ∷ (codes "MissingDeduplication") ∷ (codes "BadDelay") ∷ (codes "TaskRunning") ∷ (codes "NoTask") ∷ (codes "depth_max") ∷ (codes "visible") ∷ (codes "in_flight") ∷ (codes "delayed") ∷ (codes "age_sum") ∷ (codes "age_max") ∷ (codes "age_p50") ∷ (codes "age_p95") ∷ (codes "age_p99") ∷ []) ∷
    ((codes "report") ∷ (codes "q") ∷ (codes "2") ∷ (codes "0") ∷ (codes "3") ∷ (codes "0") ∷ (codes "2") ∷ (codes "0") ∷ (codes "0") ∷ (codes "0") ∷ (codes "0") ∷ (codes "0") ∷ (codes "0") ∷ (codes "0") ∷ (codes "0") ∷ (codes "0") ∷ (codes "0") ∷ (codes "0") ∷ (codes "0") ∷ (codes "0") ∷ (codes "2") ∷ (codes "0") ∷ (codes "0") ∷ (codes "0") ∷ (codes "3420") ∷ (codes "1810") ∷ (codes "1610") ∷ (codes "1810") ∷ (codes "1810") ∷ []) ∷ [])
unfolding reading_on_literals running_on_literals columns_of
case_0_whole_batch_outlives_its_timeouts = refl
