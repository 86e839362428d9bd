-- A script that stands in a file, and the comparison of two runs.
use Rattle.std.proofs.Common.{◌≡◌, ℕ, true, List, [], ◌∷◌, ◌++◌, codes, refl, map}
use Rattle.std.specs.Prelude.{Result, Ok, Err}
use Rattle.sqs_model.specs.Scenario.{Scenario, opening}
use Rattle.sqs_model.specs.Run.{Run, after}
use Rattle.sqs_formats.specs.declared.faults.ScenarioFault.{ScenarioFault}
use Rattle.sqs_formats.specs.Scenario.{scenario_of, script_names}
use Rattle.sqs_formats.specs.Report.{Column, columns_of}
use Rattle.sqs_formats.specs.Comparison.{comparison}
use Rattle.sqs_formats.specs.Output.{report_of, log_of, ending_of}
use Rattle.sqs_formats.proofs.OnLiterals.{reading_on_literals, writing_on_literals}
use Rattle.sqs_examples.proofs.Shown.{running_on_literals, digest, ran, shown}

abbrev with_file : List ℕ
with_file = codes "version = 1\nhorizon = 1000\n[[queue]]\nname = \"q\"\n[[actor]]\nname = \"s\"\nkind = \"script\"\nqueue = \"q\"\nscript = \"a\"\n"

abbrev calls : List ℕ
calls = codes "at,call,body,group,id,delay,receipt,max,wait,timeout,task\n0,send,abc,,,,,,,,\n"

abbrev nothing_sent : List ℕ
nothing_sent = codes "version = 1\nhorizon = 1000\n[[queue]]\nname = \"q\"\n"

-- the files that a text asks for
asked_for : script_names with_file ≡ codes "a" ∷ []
unfolding reading_on_literals
asked_for = refl

-- a script in a file does what the same script does in the text
abbrev report_after : ℕ → Result Scenario ScenarioFault → List Column
report_after n (Err f) = []
report_after n (Ok s) = report_of s (after s.horizon n (opening s))

abbrev log_after : ℕ → Result Scenario ScenarioFault → List ℕ
log_after n (Err f) = []
log_after n (Ok s) = log_of s (after s.horizon n (opening s))

abbrev ending_after : ℕ → Result Scenario ScenarioFault → List ℕ
ending_after n (Err f) = []
ending_after n (Ok s) = ending_of s (after s.horizon n (opening s))

-- the very bytes of a run in which nothing is sent
log_of_nothing : log_after 1 (scenario_of [] nothing_sent) ≡ codes "at,queue,agent,call,answer,message,receipt,detail\n"
unfolding reading_on_literals writing_on_literals running_on_literals
log_of_nothing = refl

ending_of_nothing :
    ending_after 1 (scenario_of [] nothing_sent)
    ≡ codes "final,queue,message,origin,place,due,enqueued,receives,group,md5\ntransfer,from,to,kind,due,number,message,origin,md5\ntask,name,status,moved\nreport,queue,sends,repeats,receives,empties,deletes,expiries,redrives,moves,arrivals,OverLimit,MessageNotInflight,ReceiptHandleIsInvalid,BadTimeout,MissingGroup,MissingDeduplication,BadDelay,TaskRunning,NoTask,depth_max,visible,in_flight,delayed,age_sum,age_max,age_p50,age_p95,age_p99\nreport,q,0,0,0,0,0,0,0,0,0,0,0,0,0,0,0,0,0,0,0,0,0,0,0,,,,\n"
unfolding reading_on_literals writing_on_literals running_on_literals
ending_of_nothing = refl

-- a run with one message compared with one without
compared :
    comparison (report_after 1 (scenario_of ((codes "a", calls) ∷ []) with_file)) (report_after 1 (scenario_of [] nothing_sent))
    ≡ codes "compare,q,sends,1,0,-1\ncompare,q,repeats,0,0,0\ncompare,q,receives,0,0,0\ncompare,q,empties,0,0,0\ncompare,q,deletes,0,0,0\ncompare,q,expiries,0,0,0\ncompare,q,redrives,0,0,0\ncompare,q,moves,0,0,0\ncompare,q,arrivals,0,0,0\ncompare,q,OverLimit,0,0,0\ncompare,q,MessageNotInflight,0,0,0\ncompare,q,ReceiptHandleIsInvalid,0,0,0\ncompare,q,BadTimeout,0,0,0\ncompare,q,MissingGroup,0,0,0\ncompare,q,MissingDeduplication,0,0,0\ncompare,q,BadDelay,0,0,0\ncompare,q,TaskRunning,0,0,0\ncompare,q,NoTask,0,0,0\ncompare,q,depth_max,1,0,-1\ncompare,q,visible,1,0,-1\ncompare,q,in_flight,0,0,0\ncompare,q,delayed,0,0,0\ncompare,q,age_sum,0,0,0\ncompare,q,age_max,,,\ncompare,q,age_p50,,,\ncompare,q,age_p95,,,\ncompare,q,age_p99,,,\n"
unfolding reading_on_literals writing_on_literals running_on_literals
compared = refl
