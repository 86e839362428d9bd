-- Scenarios with their right output, computed over the definitions. Made by tools/compute_cases.py.
use Rattle.std.proofs.Common.{◌≡◌, ℕ, true, List, [], ◌∷◌, ◌++◌, codes, refl}
use Rattle.sqs_formats.specs.Report.{columns_of}
use Rattle.sqs_formats.proofs.OnLiterals.{reading_on_literals}
use Rattle.sqs_examples.proofs.Shown.{running_on_literals, digest, ran, refused, shown}

-- faults/actor_named_as_a_queue.toml
case_0_actor_named_as_a_queue : shown 0 [] (codes "version = 1\nhorizon = 1000\n[[queue]]\nname = \"q\"\n[[actor]]\nname = \"q\"\nkind = \"script\"\nqueue = \"q\"\ncalls = \"\"\"\nat,call,body,group,id,delay,receipt,max,wait,timeout,task\n0,send,abc,,,,,,,,\n\"\"\"\n")
    ≡ refused (codes "refused 16 NameTwice at actor[0].name\n")
unfolding reading_on_literals running_on_literals columns_of
case_0_actor_named_as_a_queue = refl

-- faults/call_before_a_wait_ends.toml
case_0_call_before_a_wait_ends : shown 0 [] (codes "version = 1\nhorizon = 90\n[[queue]]\nname = 'q'\n[[actor]]\nname = 'a'\nkind = 'script'\nqueue = 'q'\ncalls = '''\nat,call,body,group,id,delay,receipt,max,wait,timeout,task\n0,receive,,,,,,,20,,\n20000,receive,,,,,,,,,\n'''\n")
    ≡ refused (codes "refused 20 BadScript at actor[0].calls:3\n")
unfolding reading_on_literals running_on_literals columns_of
case_0_call_before_a_wait_ends = refl

-- faults/calls_and_script.toml
case_0_calls_and_script : shown 0 [] (codes "version = 1\nhorizon = 1000\n[[queue]]\nname = \"q\"\n[[actor]]\nname = \"s\"\nkind = \"script\"\nscript = \"a\"\nqueue = \"q\"\ncalls = \"\"\"\nat,call,body,group,id,delay,receipt,max,wait,timeout,task\n0,send,abc,,,,,,,,\n\"\"\"\n")
    ≡ refused (codes "refused 11 UnknownKey at actor[0].script\n")
unfolding reading_on_literals running_on_literals columns_of
case_0_calls_and_script = refl

-- faults/cut_in_a_name.toml
case_0_cut_in_a_name : shown 0 [] (codes "version = 1\nhorizon = 1000\n[[queue]]\nname = \"q")
    ≡ refused (codes "refused 10 NotToml\n")
unfolding reading_on_literals running_on_literals columns_of
case_0_cut_in_a_name = refl

-- faults/cut_in_the_horizon.toml
case_0_cut_in_the_horizon : shown 0 [] (codes "version = 1\nhorizon = 10")
    ≡ refused (codes "refused 12 MissingKey at queue\n")
unfolding reading_on_literals running_on_literals columns_of
case_0_cut_in_the_horizon = refl

-- faults/dead_letter_queue_of_the_other_kind.toml
case_0_dead_letter_queue_of_the_other_kind : shown 0 [] (codes "version = 1\nhorizon = 90\n[[queue]]\nname = 'q'\ndead_letter = 'd.fifo'\nmax_receives = 3\nlatency_ms = 5\n[[queue]]\nname = 'd.fifo'\n")
    ≡ refused (codes "refused 18 KindMismatch at queue[0].dead_letter\n")
unfolding reading_on_literals running_on_literals columns_of
case_0_dead_letter_queue_of_the_other_kind = refl

-- faults/delay_too_long.toml
case_0_delay_too_long : shown 0 [] (codes "version = 1\nhorizon = 1000\n[[queue]]\nname = \"q\"\ndelay_s = 901\n[[actor]]\nname = \"s\"\nkind = \"script\"\nqueue = \"q\"\ncalls = \"\"\"\nat,call,body,group,id,delay,receipt,max,wait,timeout,task\n0,send,abc,,,,,,,,\n\"\"\"\n")
    ≡ refused (codes "refused 14 OutOfRange at queue[0].delay_s\n")
unfolding reading_on_literals running_on_literals columns_of
case_0_delay_too_long = refl

-- faults/dot_in_a_name.toml
case_0_dot_in_a_name : shown 0 [] (codes "version = 1\nhorizon = 90\n[[queue]]\nname = 'a.b'\n")
    ≡ refused (codes "refused 15 BadName at queue[0].name\n")
unfolding reading_on_literals running_on_literals columns_of
case_0_dot_in_a_name = refl

-- faults/empty_list_of_queues.toml
case_0_empty_list_of_queues : shown 0 [] (codes "version = 1\nhorizon = 90\nqueue = []\n")
    ≡ refused (codes "refused 14 OutOfRange at queue\n")
unfolding reading_on_literals running_on_literals columns_of
case_0_empty_list_of_queues = refl

-- faults/empty_text.toml
case_0_empty_text : shown 0 [] []
    ≡ refused (codes "refused 12 MissingKey at version\n")
unfolding reading_on_literals running_on_literals columns_of
case_0_empty_text = refl

-- faults/group_at_a_standard_queue.toml
case_0_group_at_a_standard_queue : shown 0 [] (codes "version = 1\nhorizon = 90\n[[queue]]\nname = 'q'\n[[actor]]\nname = 'a'\nkind = 'script'\nqueue = 'q'\ncalls = '''\nat,call,body,group,id,delay,receipt,max,wait,timeout,task\n5,send,hi,g,,,,,,,\n'''\n")
    ≡ refused (codes "refused 20 BadScript at actor[0].calls:2\n")
unfolding reading_on_literals running_on_literals columns_of
case_0_group_at_a_standard_queue = refl

-- faults/hosts_of_a_fifo_queue.toml
case_0_hosts_of_a_fifo_queue : shown 0 [] (codes "version = 1\nhorizon = 90\n[[queue]]\nname = 'q.fifo'\nhosts = 2\n")
    ≡ refused (codes "refused 11 UnknownKey at queue[0].hosts\n")
unfolding reading_on_literals running_on_literals columns_of
case_0_hosts_of_a_fifo_queue = refl

-- faults/key_without_a_value.toml
case_0_key_without_a_value : shown 0 [] (codes "version")
    ≡ refused (codes "refused 10 NotToml\n")
unfolding reading_on_literals running_on_literals columns_of
case_0_key_without_a_value = refl

-- faults/latency_bounds_turned.toml
case_0_latency_bounds_turned : shown 0 [] (codes "version = 2\nhorizon = 1000\n[[queue]]\nname = '''q'''\ndead_letter = '''d'''\nmax_receives = 1\nlatency_min_ms = 5\nlatency_max_ms = 4\n[[queue]]\nname = '''d'''\n[[actor]]\nname = '''s'''\nkind = '''script'''\nqueue = '''q'''\ncalls = '''at,call,body,group,id,delay,receipt,max,wait,timeout,task\n0,send,abc,,,,,,,,\n1,send,abc,,,,,,,,\n100,receive,,,,,,2,1,0,\n'''\n")
    ≡ refused (codes "refused 14 OutOfRange at queue[0].latency_max_ms\n")
unfolding reading_on_literals running_on_literals columns_of
case_0_latency_bounds_turned = refl

-- faults/more_sampled_than_hosts.toml
case_0_more_sampled_than_hosts : shown 0 [] (codes "version = 1\nhorizon = 90\n[[queue]]\nname = 'q'\nhosts = 2\nsampled = 3\n")
    ≡ refused (codes "refused 14 OutOfRange at queue[0].sampled\n")
unfolding reading_on_literals running_on_literals columns_of
case_0_more_sampled_than_hosts = refl

-- faults/number_in_the_list_of_queues.toml
case_0_number_in_the_list_of_queues : shown 0 [] (codes "version = 1\nhorizon = 90\nqueue = [3]\n")
    ≡ refused (codes "refused 13 WrongType at queue[0]\n")
unfolding reading_on_literals running_on_literals columns_of
case_0_number_in_the_list_of_queues = refl

-- faults/one_latency_in_version_two.toml
case_0_one_latency_in_version_two : shown 0 [] (codes "version = 2\nhorizon = 1000\n[[queue]]\nname = '''q'''\ndead_letter = '''d'''\nmax_receives = 1\nlatency_ms = 5\nlatency_min_ms = 1\nlatency_max_ms = 100\n[[queue]]\nname = '''d'''\n[[actor]]\nname = '''s'''\nkind = '''script'''\nqueue = '''q'''\ncalls = '''at,call,body,group,id,delay,receipt,max,wait,timeout,task\n0,send,abc,,,,,,,,\n1,send,abc,,,,,,,,\n100,receive,,,,,,2,1,0,\n'''\n")
    ≡ refused (codes "refused 11 UnknownKey at queue[0].latency_ms\n")
unfolding reading_on_literals running_on_literals columns_of
case_0_one_latency_in_version_two = refl

-- faults/producer_of_an_empty_body.toml
case_0_producer_of_an_empty_body : shown 0 [] (codes "version = 1\nhorizon = 90\n[[queue]]\nname = 'q'\n[[actor]]\nname = 'p'\nkind = 'producer'\nqueue = 'q'\ncount = 2\ngap_min_ms = 1\ngap_max_ms = 1\nbody = ''\n")
    ≡ refused (codes "refused 14 OutOfRange at actor[0].body\n")
unfolding reading_on_literals running_on_literals columns_of
case_0_producer_of_an_empty_body = refl

-- faults/queue_keys_before_dead_letters.toml
case_0_queue_keys_before_dead_letters : shown 0 [] (codes "version = 1\nhorizon = 1000\n[[queue]]\nname = \"q\"\ndead_letter = \"x\"\nmax_receives = 1\nlatency_ms = 1\n[[queue]]\nname = \"d\"\ndelay_s = 901\n[[actor]]\nname = \"s\"\nkind = \"script\"\nqueue = \"q\"\ncalls = \"\"\"\nat,call,body,group,id,delay,receipt,max,wait,timeout,task\n0,send,abc,,,,,,,,\n\"\"\"\n")
    ≡ refused (codes "refused 14 OutOfRange at queue[1].delay_s\n")
unfolding reading_on_literals running_on_literals columns_of
case_0_queue_keys_before_dead_letters = refl

-- faults/queue_without_a_name.toml
case_0_queue_without_a_name : shown 0 [] (codes "version = 1\nhorizon = 90\n[[queue]]\ndelay_s = 3\n")
    ≡ refused (codes "refused 12 MissingKey at queue[0].name\n")
unfolding reading_on_literals running_on_literals columns_of
case_0_queue_without_a_name = refl

-- faults/script_actor_without_calls.toml
case_0_script_actor_without_calls : shown 0 [] (codes "version = 1\nhorizon = 90\n[[queue]]\nname = 'q'\n[[actor]]\nname = 'a'\nkind = 'script'\nqueue = 'q'\n")
    ≡ refused (codes "refused 12 MissingKey at actor[0].calls\n")
unfolding reading_on_literals running_on_literals columns_of
case_0_script_actor_without_calls = refl

-- faults/script_without_a_file.toml
case_0_script_without_a_file : shown 0 [] (codes "version = 1\nhorizon = 1000\n[[queue]]\nname = \"q\"\n[[actor]]\nname = \"s\"\nkind = \"script\"\nqueue = \"q\"\nscript = \"a\"\n")
    ≡ refused (codes "refused 20 BadScript at actor[0].script\n")
unfolding reading_on_literals running_on_literals columns_of
case_0_script_without_a_file = refl

-- faults/send_of_an_empty_body.toml
case_0_send_of_an_empty_body : shown 0 [] (codes "version = 1\nhorizon = 90\n[[queue]]\nname = 'q'\n[[actor]]\nname = 'a'\nkind = 'script'\nqueue = 'q'\ncalls = '''\nat,call,body,group,id,delay,receipt,max,wait,timeout,task\n5,send,,,,,,,,,\n'''\n")
    ≡ refused (codes "refused 20 BadScript at actor[0].calls:2\n")
unfolding reading_on_literals running_on_literals columns_of
case_0_send_of_an_empty_body = refl

-- faults/space_in_a_name.toml
case_0_space_in_a_name : shown 0 [] (codes "version = 1\nhorizon = 1000\n[[queue]]\nname = \"q q\"\n[[actor]]\nname = \"s\"\nkind = \"script\"\nqueue = \"q\"\ncalls = \"\"\"\nat,call,body,group,id,delay,receipt,max,wait,timeout,task\n0,send,abc,,,,,,,,\n\"\"\"\n")
    ≡ refused (codes "refused 15 BadName at queue[0].name\n")
unfolding reading_on_literals running_on_literals columns_of
case_0_space_in_a_name = refl

-- faults/start_of_an_unknown_task.toml
case_0_start_of_an_unknown_task : shown 0 [] (codes "version = 1\nhorizon = 90\n[[queue]]\nname = 'q'\n[[actor]]\nname = 'a'\nkind = 'script'\nqueue = 'q'\ncalls = '''\nat,call,body,group,id,delay,receipt,max,wait,timeout,task\n0,start,,,,,,,,,other\n'''\n")
    ≡ refused (codes "refused 20 BadScript at actor[0].calls:2\n")
unfolding reading_on_literals running_on_literals columns_of
case_0_start_of_an_unknown_task = refl

-- faults/task_at_no_dead_letter_queue.toml
case_0_task_at_no_dead_letter_queue : shown 0 [] (codes "version = 1\nhorizon = 1000\n[[queue]]\nname = \"q\"\n[[actor]]\nname = \"s\"\nkind = \"script\"\nqueue = \"q\"\ncalls = \"\"\"\nat,call,body,group,id,delay,receipt,max,wait,timeout,task\n0,send,abc,,,,,,,,\n\"\"\"\n[[task]]\nname = \"k\"\nqueue = \"q\"\nlatency_ms = 1\n")
    ≡ refused (codes "refused 17 UnknownQueue at task[0].queue\n")
unfolding reading_on_literals running_on_literals columns_of
case_0_task_at_no_dead_letter_queue = refl

-- faults/text_for_a_delay.toml
case_0_text_for_a_delay : shown 0 [] (codes "version = 1\nhorizon = 90\n[[queue]]\nname = 'q'\ndelay_s = 'x'\n")
    ≡ refused (codes "refused 13 WrongType at queue[0].delay_s\n")
unfolding reading_on_literals running_on_literals columns_of
case_0_text_for_a_delay = refl

-- faults/time_with_a_leading_zero.toml
case_0_time_with_a_leading_zero : shown 0 [] (codes "version = 1\nhorizon = 90\n[[queue]]\nname = 'q'\n[[actor]]\nname = 'a'\nkind = 'script'\nqueue = 'q'\ncalls = '''\nat,call,body,group,id,delay,receipt,max,wait,timeout,task\n05,send,hi,,,,,,,,\n'''\n")
    ≡ refused (codes "refused 20 BadScript at actor[0].calls:2\n")
unfolding reading_on_literals running_on_literals columns_of
case_0_time_with_a_leading_zero = refl

-- faults/two_calls_at_once.toml
case_0_two_calls_at_once : shown 0 [] (codes "version = 1\nhorizon = 1000\n[[queue]]\nname = \"q\"\n[[actor]]\nname = \"s\"\nkind = \"script\"\nqueue = \"q\"\ncalls = \"\"\"\nat,call,body,group,id,delay,receipt,max,wait,timeout,task\n0,send,abc,,,,,,,,\n0,send,abc,,,,,,,,\n\"\"\"\n")
    ≡ refused (codes "refused 20 BadScript at actor[0].calls:3\n")
unfolding reading_on_literals running_on_literals columns_of
case_0_two_calls_at_once = refl

-- faults/two_queues_of_one_name.toml
case_0_two_queues_of_one_name : shown 0 [] (codes "version = 1\nhorizon = 90\n[[queue]]\nname = 'q'\n[[queue]]\nname = 'q'\n")
    ≡ refused (codes "refused 16 NameTwice at queue[1].name\n")
unfolding reading_on_literals running_on_literals columns_of
case_0_two_queues_of_one_name = refl

-- faults/unknown_dead_letter_queue.toml
case_0_unknown_dead_letter_queue : shown 0 [] (codes "version = 1\nhorizon = 90\n[[queue]]\nname = 'q'\ndead_letter = 'd'\nmax_receives = 3\nlatency_ms = 5\n")
    ≡ refused (codes "refused 17 UnknownQueue at queue[0].dead_letter\n")
unfolding reading_on_literals running_on_literals columns_of
case_0_unknown_dead_letter_queue = refl

-- faults/unknown_key.toml
case_0_unknown_key : shown 0 [] (codes "version = 1\nhorizon = 1000\n[[queue]]\nname = \"q\"\nvisiblity_s = 5\n[[actor]]\nname = \"s\"\nkind = \"script\"\nqueue = \"q\"\ncalls = \"\"\"\nat,call,body,group,id,delay,receipt,max,wait,timeout,task\n0,send,abc,,,,,,,,\n\"\"\"\n")
    ≡ refused (codes "refused 11 UnknownKey at queue[0].visiblity_s\n")
unfolding reading_on_literals running_on_literals columns_of
case_0_unknown_key = refl

-- faults/unknown_kind_of_actor.toml
case_0_unknown_kind_of_actor : shown 0 [] (codes "version = 1\nhorizon = 1000\n[[queue]]\nname = \"q\"\n[[actor]]\nname = \"s\"\nkind = \"robot\"\nspeed = 1\nqueue = \"q\"\ncalls = \"\"\"\nat,call,body,group,id,delay,receipt,max,wait,timeout,task\n0,send,abc,,,,,,,,\n\"\"\"\n")
    ≡ refused (codes "refused 14 OutOfRange at actor[0].kind\n")
unfolding reading_on_literals running_on_literals columns_of
case_0_unknown_kind_of_actor = refl

-- faults/version_alone.toml
case_0_version_alone : shown 0 [] (codes "version = 1\n")
    ≡ refused (codes "refused 12 MissingKey at horizon\n")
unfolding reading_on_literals running_on_literals columns_of
case_0_version_alone = refl

-- faults/version_three.toml
case_0_version_three : shown 0 [] (codes "version = 3\nhorizon = 1000\n[[queue]]\nname = \"q\"\n[[actor]]\nname = \"s\"\nkind = \"script\"\nqueue = \"q\"\ncalls = \"\"\"\nat,call,body,group,id,delay,receipt,max,wait,timeout,task\n0,send,abc,,,,,,,,\n\"\"\"\n")
    ≡ refused (codes "refused 14 OutOfRange at version\n")
unfolding reading_on_literals running_on_literals columns_of
case_0_version_three = refl
