-- Scenarios with their right output, computed over the definitions. Made by tools/compute_cases.py.
use Rattle.std.proofs.Common.{◌≡◌, ℕ, true, List, [], ◌∷◌, ◌++◌, codes, refl}
use Rattle.sqs_formats.specs.Report.{columns_of}
use Rattle.sqs_formats.proofs.OnLiterals.{reading_on_literals}
use Rattle.sqs_examples.proofs.Shown.{running_on_literals, digest, ran, refused, shown_upto}

-- faults-3/actor_named_as_a_copy.toml
case_0_actor_named_as_a_copy : shown_upto 3 0 [] (codes "version = 3\nhorizon = 1000\n[[queue]]\nname = \"q\"\n[[queue]]\nname = \"f.fifo\"\n[[actor]]\nname = \"c\"\nkind = \"consumer\"\nqueue = \"q\"\nservice_min_ms = 1\nservice_max_ms = 1\ncopies = 2\n[[actor]]\nname = \"c-2\"\nkind = \"consumer\"\nqueue = \"q\"\nservice_min_ms = 1\nservice_max_ms = 1\n")
    ≡ refused (codes "refused 16 NameTwice at actor[1].name\n")
unfolding reading_on_literals running_on_literals columns_of
case_0_actor_named_as_a_copy = refl

-- faults-3/actor_named_as_a_copy_of_a_producer.toml
case_0_actor_named_as_a_copy_of_a_producer : shown_upto 3 0 [] (codes "version = 3\nhorizon = 1000\n[[queue]]\nname = \"q\"\n[[queue]]\nname = \"f.fifo\"\n[[actor]]\nname = \"p\"\nkind = \"producer\"\nqueue = \"q\"\ncount = 1\nbody = \"m\"\ngap_min_ms = 1\ngap_max_ms = 1\ncopies = 2\n[[actor]]\nname = \"p-1\"\nkind = \"producer\"\nqueue = \"q\"\ncount = 1\nbody = \"m\"\ngap_min_ms = 1\ngap_max_ms = 1\n")
    ≡ refused (codes "refused 16 NameTwice at actor[1].name\n")
unfolding reading_on_literals running_on_literals columns_of
case_0_actor_named_as_a_copy_of_a_producer = refl

-- faults-3/actor_named_as_a_table_with_copies.toml
case_0_actor_named_as_a_table_with_copies : shown_upto 3 0 [] (codes "version = 3\nhorizon = 1000\n[[queue]]\nname = \"q\"\n[[queue]]\nname = \"f.fifo\"\n[[actor]]\nname = \"c\"\nkind = \"consumer\"\nqueue = \"q\"\nservice_min_ms = 1\nservice_max_ms = 1\ncopies = 2\n[[actor]]\nname = \"c\"\nkind = \"consumer\"\nqueue = \"q\"\nservice_min_ms = 1\nservice_max_ms = 1\n")
    ≡ refused (codes "refused 16 NameTwice at actor[1].name\n")
unfolding reading_on_literals running_on_literals columns_of
case_0_actor_named_as_a_table_with_copies = refl

-- faults-3/backoff_over_12_hours.toml
case_0_backoff_over_12_hours : shown_upto 3 0 [] (codes "version = 3\nhorizon = 1000\n[[queue]]\nname = \"q\"\n[[queue]]\nname = \"f.fifo\"\n[[actor]]\nname = \"c\"\nkind = \"consumer\"\nqueue = \"q\"\nservice_min_ms = 1\nservice_max_ms = 1\nbackoff_s = [43200, 43201]\n")
    ≡ refused (codes "refused 14 OutOfRange at actor[0].backoff_s[1]\n")
unfolding reading_on_literals running_on_literals columns_of
case_0_backoff_over_12_hours = refl

-- faults-3/batch_service_after_the_service.toml
case_0_batch_service_after_the_service : shown_upto 3 0 [] (codes "version = 3\nhorizon = 1000\n[[queue]]\nname = \"q\"\n[[queue]]\nname = \"f.fifo\"\n[[actor]]\nname = \"c\"\nkind = \"consumer\"\nqueue = \"q\"\nservice_min_ms = 1\nservice_max_ms = 0\nbatch_service = \"twice\"\n")
    ≡ refused (codes "refused 14 OutOfRange at actor[0].service_max_ms\n")
unfolding reading_on_literals running_on_literals columns_of
case_0_batch_service_after_the_service = refl

-- faults-3/batch_service_in_version_two.toml
case_0_batch_service_in_version_two : shown_upto 3 0 [] (codes "version = 2\nhorizon = 1000\n[[queue]]\nname = \"q\"\n[[queue]]\nname = \"f.fifo\"\n[[actor]]\nname = \"c\"\nkind = \"consumer\"\nqueue = \"q\"\nservice_min_ms = 1\nservice_max_ms = 1\nbatch_service = \"once\"\n")
    ≡ refused (codes "refused 11 UnknownKey at actor[0].batch_service\n")
unfolding reading_on_literals running_on_literals columns_of
case_0_batch_service_in_version_two = refl

-- faults-3/batch_service_of_another_word.toml
case_0_batch_service_of_another_word : shown_upto 3 0 [] (codes "version = 3\nhorizon = 1000\n[[queue]]\nname = \"q\"\n[[queue]]\nname = \"f.fifo\"\n[[actor]]\nname = \"c\"\nkind = \"consumer\"\nqueue = \"q\"\nservice_min_ms = 1\nservice_max_ms = 1\nbatch_service = \"twice\"\n")
    ≡ refused (codes "refused 14 OutOfRange at actor[0].batch_service\n")
unfolding reading_on_literals running_on_literals columns_of
case_0_batch_service_of_another_word = refl

-- faults-3/batch_service_that_is_no_text.toml
case_0_batch_service_that_is_no_text : shown_upto 3 0 [] (codes "version = 3\nhorizon = 1000\n[[queue]]\nname = \"q\"\n[[queue]]\nname = \"f.fifo\"\n[[actor]]\nname = \"c\"\nkind = \"consumer\"\nqueue = \"q\"\nservice_min_ms = 1\nservice_max_ms = 1\nbatch_service = 1\n")
    ≡ refused (codes "refused 13 WrongType at actor[0].batch_service\n")
unfolding reading_on_literals running_on_literals columns_of
case_0_batch_service_that_is_no_text = refl

-- faults-3/batch_that_fails_in_part.toml
case_0_batch_that_fails_in_part : shown_upto 3 0 [] (codes "version = 3\nhorizon = 1000\n[[queue]]\nname = \"q\"\n[[queue]]\nname = \"f.fifo\"\n[[actor]]\nname = \"c\"\nkind = \"consumer\"\nqueue = \"q\"\nservice_min_ms = 1\nservice_max_ms = 1\nbatch_fails = \"some\"\n")
    ≡ refused (codes "refused 14 OutOfRange at actor[0].batch_fails\n")
unfolding reading_on_literals running_on_literals columns_of
case_0_batch_that_fails_in_part = refl

-- faults-3/bounds_beside_quantiles.toml
case_0_bounds_beside_quantiles : shown_upto 3 0 [] (codes "version = 3\nhorizon = 1000\n[[queue]]\nname = \"q\"\n[[queue]]\nname = \"f.fifo\"\n[[actor]]\nname = \"c\"\nkind = \"consumer\"\nqueue = \"q\"\nservice_min_ms = 1\nservice_max_ms = 1\nservice = [[0, 1], [1000, 2]]\n")
    ≡ refused (codes "refused 11 UnknownKey at actor[0].service_max_ms\n")
unfolding reading_on_literals running_on_literals columns_of
case_0_bounds_beside_quantiles = refl

-- faults-3/bounds_of_a_gap_beside_quantiles.toml
case_0_bounds_of_a_gap_beside_quantiles : shown_upto 3 0 [] (codes "version = 3\nhorizon = 1000\n[[queue]]\nname = \"q\"\n[[queue]]\nname = \"f.fifo\"\n[[actor]]\nname = \"p\"\nkind = \"producer\"\nqueue = \"q\"\ncount = 1\nbody = \"m\"\ngap_min_ms = 1\ngap_max_ms = 1\ngap = 7\n")
    ≡ refused (codes "refused 11 UnknownKey at actor[0].gap_max_ms\n")
unfolding reading_on_literals running_on_literals columns_of
case_0_bounds_of_a_gap_beside_quantiles = refl

-- faults-3/chance_of_an_outage_over_1000.toml
case_0_chance_of_an_outage_over_1000 : shown_upto 3 0 [] (codes "version = 3\nhorizon = 1000\n[[queue]]\nname = \"q\"\n[[queue]]\nname = \"f.fifo\"\n[[actor]]\nname = \"c\"\nkind = \"consumer\"\nqueue = \"q\"\nservice_min_ms = 1\nservice_max_ms = 1\nfails_from_ms = 1\nfails_to_ms = 2\nfails_permille = 1001\n")
    ≡ refused (codes "refused 14 OutOfRange at actor[0].fails_permille\n")
unfolding reading_on_literals running_on_literals columns_of
case_0_chance_of_an_outage_over_1000 = refl

-- faults-3/chance_of_an_outage_without_one.toml
case_0_chance_of_an_outage_without_one : shown_upto 3 0 [] (codes "version = 3\nhorizon = 1000\n[[queue]]\nname = \"q\"\n[[queue]]\nname = \"f.fifo\"\n[[actor]]\nname = \"c\"\nkind = \"consumer\"\nqueue = \"q\"\nservice_min_ms = 1\nservice_max_ms = 1\nfails_permille = 500\nfail_permille = 5\n")
    ≡ refused (codes "refused 11 UnknownKey at actor[0].fails_permille\n")
unfolding reading_on_literals running_on_literals columns_of
case_0_chance_of_an_outage_without_one = refl

-- faults-3/chance_of_outages_over_1000.toml
case_0_chance_of_outages_over_1000 : shown_upto 3 0 [] (codes "version = 3\nhorizon = 1000\n[[queue]]\nname = \"q\"\n[[queue]]\nname = \"f.fifo\"\n[[actor]]\nname = \"c\"\nkind = \"consumer\"\nqueue = \"q\"\nservice_min_ms = 1\nservice_max_ms = 1\nfails_between_ms = [[1, 2]]\nfails_permille = 1001\nbatch_fails = \"some\"\n")
    ≡ refused (codes "refused 14 OutOfRange at actor[0].fails_permille\n")
unfolding reading_on_literals running_on_literals columns_of
case_0_chance_of_outages_over_1000 = refl

-- faults-3/chances_beside_one_outage.toml
case_0_chances_beside_one_outage : shown_upto 3 0 [] (codes "version = 3\nhorizon = 1000\n[[queue]]\nname = \"q\"\n[[queue]]\nname = \"f.fifo\"\n[[actor]]\nname = \"c\"\nkind = \"consumer\"\nqueue = \"q\"\nservice_min_ms = 1\nservice_max_ms = 1\nfails_from_ms = 5\nfails_to_ms = 6\nfails_permille = [500]\n")
    ≡ refused (codes "refused 13 WrongType at actor[0].fails_permille\n")
unfolding reading_on_literals running_on_literals columns_of
case_0_chances_beside_one_outage = refl

-- faults-3/chances_of_another_number.toml
case_0_chances_of_another_number : shown_upto 3 0 [] (codes "version = 3\nhorizon = 1000\n[[queue]]\nname = \"q\"\n[[queue]]\nname = \"f.fifo\"\n[[actor]]\nname = \"c\"\nkind = \"consumer\"\nqueue = \"q\"\nservice_min_ms = 1\nservice_max_ms = 1\nfails_between_ms = [[0, 1000], [5000, 6000]]\nfails_permille = [500, 1000, \"x\"]\n")
    ≡ refused (codes "refused 14 OutOfRange at actor[0].fails_permille\n")
unfolding reading_on_literals running_on_literals columns_of
case_0_chances_of_another_number = refl

-- faults-3/chances_of_outages_over_1000.toml
case_0_chances_of_outages_over_1000 : shown_upto 3 0 [] (codes "version = 3\nhorizon = 1000\n[[queue]]\nname = \"q\"\n[[queue]]\nname = \"f.fifo\"\n[[actor]]\nname = \"c\"\nkind = \"consumer\"\nqueue = \"q\"\nservice_min_ms = 1\nservice_max_ms = 1\nfails_between_ms = [[0, 1000], [5000, 6000]]\nfails_permille = [500, 1001]\n")
    ≡ refused (codes "refused 14 OutOfRange at actor[0].fails_permille[1]\n")
unfolding reading_on_literals running_on_literals columns_of
case_0_chances_of_outages_over_1000 = refl

-- faults-3/chances_that_are_none.toml
case_0_chances_that_are_none : shown_upto 3 0 [] (codes "version = 3\nhorizon = 1000\n[[queue]]\nname = \"q\"\n[[queue]]\nname = \"f.fifo\"\n[[actor]]\nname = \"c\"\nkind = \"consumer\"\nqueue = \"q\"\nservice_min_ms = 1\nservice_max_ms = 1\nfails_between_ms = [[0, 1000]]\nfails_permille = []\n")
    ≡ refused (codes "refused 14 OutOfRange at actor[0].fails_permille\n")
unfolding reading_on_literals running_on_literals columns_of
case_0_chances_that_are_none = refl

-- faults-3/copies_after_the_other_keys.toml
case_0_copies_after_the_other_keys : shown_upto 3 0 [] (codes "version = 3\nhorizon = 1000\n[[queue]]\nname = \"q\"\n[[queue]]\nname = \"f.fifo\"\n[[actor]]\nname = \"c\"\nkind = \"consumer\"\nqueue = \"q\"\nservice_min_ms = 1\nservice_max_ms = 1\ncopies = 0\nheartbeat_s = 0\n")
    ≡ refused (codes "refused 14 OutOfRange at actor[0].heartbeat_s\n")
unfolding reading_on_literals running_on_literals columns_of
case_0_copies_after_the_other_keys = refl

-- faults-3/copies_in_version_two.toml
case_0_copies_in_version_two : shown_upto 3 0 [] (codes "version = 2\nhorizon = 1000\n[[queue]]\nname = \"q\"\n[[queue]]\nname = \"f.fifo\"\n[[actor]]\nname = \"c\"\nkind = \"consumer\"\nqueue = \"q\"\nservice_min_ms = 1\nservice_max_ms = 1\ncopies = 2\n")
    ≡ refused (codes "refused 11 UnknownKey at actor[0].copies\n")
unfolding reading_on_literals running_on_literals columns_of
case_0_copies_in_version_two = refl

-- faults-3/copies_of_a_producer_after_its_stop.toml
case_0_copies_of_a_producer_after_its_stop : shown_upto 3 0 [] (codes "version = 3\nhorizon = 1000\n[[queue]]\nname = \"q\"\n[[queue]]\nname = \"f.fifo\"\n[[actor]]\nname = \"p\"\nkind = \"producer\"\nqueue = \"q\"\ncount = 1\nbody = \"m\"\ngap_min_ms = 1\ngap_max_ms = 1\nstart_ms = 5\nstop_ms = 4\ncopies = 0\n")
    ≡ refused (codes "refused 14 OutOfRange at actor[0].stop_ms\n")
unfolding reading_on_literals running_on_literals columns_of
case_0_copies_of_a_producer_after_its_stop = refl

-- faults-3/copies_of_a_producer_in_version_two.toml
case_0_copies_of_a_producer_in_version_two : shown_upto 3 0 [] (codes "version = 2\nhorizon = 1000\n[[queue]]\nname = \"q\"\n[[queue]]\nname = \"f.fifo\"\n[[actor]]\nname = \"p\"\nkind = \"producer\"\nqueue = \"q\"\ncount = 1\nbody = \"m\"\ngap_min_ms = 1\ngap_max_ms = 1\ncopies = 2\n")
    ≡ refused (codes "refused 11 UnknownKey at actor[0].copies\n")
unfolding reading_on_literals running_on_literals columns_of
case_0_copies_of_a_producer_in_version_two = refl

-- faults-3/copies_of_a_producer_of_zero.toml
case_0_copies_of_a_producer_of_zero : shown_upto 3 0 [] (codes "version = 3\nhorizon = 1000\n[[queue]]\nname = \"q\"\n[[queue]]\nname = \"f.fifo\"\n[[actor]]\nname = \"p\"\nkind = \"producer\"\nqueue = \"q\"\ncount = 1\nbody = \"m\"\ngap_min_ms = 1\ngap_max_ms = 1\ncopies = 0\n")
    ≡ refused (codes "refused 14 OutOfRange at actor[0].copies\n")
unfolding reading_on_literals running_on_literals columns_of
case_0_copies_of_a_producer_of_zero = refl

-- faults-3/copies_of_a_script.toml
case_0_copies_of_a_script : shown_upto 3 0 [] (codes "version = 3\nhorizon = 1000\n[[queue]]\nname = \"q\"\n[[queue]]\nname = \"f.fifo\"\n[[actor]]\nname = \"s\"\nkind = \"script\"\nqueue = \"q\"\ncalls = \"\"\ncopies = 2\n")
    ≡ refused (codes "refused 11 UnknownKey at actor[0].copies\n")
unfolding reading_on_literals running_on_literals columns_of
case_0_copies_of_a_script = refl

-- faults-3/copies_of_zero.toml
case_0_copies_of_zero : shown_upto 3 0 [] (codes "version = 3\nhorizon = 1000\n[[queue]]\nname = \"q\"\n[[queue]]\nname = \"f.fifo\"\n[[actor]]\nname = \"c\"\nkind = \"consumer\"\nqueue = \"q\"\nservice_min_ms = 1\nservice_max_ms = 1\ncopies = 0\n")
    ≡ refused (codes "refused 14 OutOfRange at actor[0].copies\n")
unfolding reading_on_literals running_on_literals columns_of
case_0_copies_of_zero = refl

-- faults-3/copies_over_a_thousand.toml
case_0_copies_over_a_thousand : shown_upto 3 0 [] (codes "version = 3\nhorizon = 1000\n[[queue]]\nname = \"q\"\n[[queue]]\nname = \"f.fifo\"\n[[actor]]\nname = \"c\"\nkind = \"consumer\"\nqueue = \"q\"\nservice_min_ms = 1\nservice_max_ms = 1\ncopies = 1001\n")
    ≡ refused (codes "refused 14 OutOfRange at actor[0].copies\n")
unfolding reading_on_literals running_on_literals columns_of
case_0_copies_over_a_thousand = refl

-- faults-3/copies_with_long_names.toml
case_0_copies_with_long_names : shown_upto 3 0 [] (codes "version = 3\nhorizon = 1000\n[[queue]]\nname = \"q\"\n[[queue]]\nname = \"f.fifo\"\n[[actor]]\nname = \"cccccccccccccccccccccccccccccccccccccccccccccccccccccccccccccccccccccccccccccc\"\nkind = \"consumer\"\nqueue = \"q\"\nservice_min_ms = 1\nservice_max_ms = 1\ncopies = 10\n")
    ≡ refused (codes "refused 15 BadName at actor[0].copies\n")
unfolding reading_on_literals running_on_literals columns_of
case_0_copies_with_long_names = refl

-- faults-3/copy_named_as_a_queue.toml
case_0_copy_named_as_a_queue : shown_upto 3 0 [] (codes "version = 3\nhorizon = 1000\n[[queue]]\nname = \"q\"\n[[queue]]\nname = \"c-2\"\n[[queue]]\nname = \"f.fifo\"\n[[actor]]\nname = \"c\"\nkind = \"consumer\"\nqueue = \"q\"\nservice_min_ms = 1\nservice_max_ms = 1\ncopies = 2\n")
    ≡ refused (codes "refused 16 NameTwice at actor[0].copies\n")
unfolding reading_on_literals running_on_literals columns_of
case_0_copy_named_as_a_queue = refl

-- faults-3/copy_named_as_an_earlier_actor.toml
case_0_copy_named_as_an_earlier_actor : shown_upto 3 0 [] (codes "version = 3\nhorizon = 1000\n[[queue]]\nname = \"q\"\n[[queue]]\nname = \"f.fifo\"\n[[actor]]\nname = \"c-2\"\nkind = \"consumer\"\nqueue = \"q\"\nservice_min_ms = 1\nservice_max_ms = 1\n[[actor]]\nname = \"c\"\nkind = \"consumer\"\nqueue = \"q\"\nservice_min_ms = 1\nservice_max_ms = 1\ncopies = 2\n")
    ≡ refused (codes "refused 16 NameTwice at actor[1].copies\n")
unfolding reading_on_literals running_on_literals columns_of
case_0_copy_named_as_an_earlier_actor = refl

-- faults-3/copy_of_a_producer_named_as_an_earlier_actor.toml
case_0_copy_of_a_producer_named_as_an_earlier_actor : shown_upto 3 0 [] (codes "version = 3\nhorizon = 1000\n[[queue]]\nname = \"q\"\n[[queue]]\nname = \"f.fifo\"\n[[actor]]\nname = \"p-2\"\nkind = \"producer\"\nqueue = \"q\"\ncount = 1\nbody = \"m\"\ngap_min_ms = 1\ngap_max_ms = 1\n[[actor]]\nname = \"p\"\nkind = \"producer\"\nqueue = \"q\"\ncount = 1\nbody = \"m\"\ngap_min_ms = 1\ngap_max_ms = 1\ncopies = 2\n")
    ≡ refused (codes "refused 16 NameTwice at actor[1].copies\n")
unfolding reading_on_literals running_on_literals columns_of
case_0_copy_of_a_producer_named_as_an_earlier_actor = refl

-- faults-3/end_of_an_outage_beside_outages.toml
case_0_end_of_an_outage_beside_outages : shown_upto 3 0 [] (codes "version = 3\nhorizon = 1000\n[[queue]]\nname = \"q\"\n[[queue]]\nname = \"f.fifo\"\n[[actor]]\nname = \"c\"\nkind = \"consumer\"\nqueue = \"q\"\nservice_min_ms = 1\nservice_max_ms = 1\nfails_between_ms = [[1, 2]]\nfails_to_ms = 1\n")
    ≡ refused (codes "refused 11 UnknownKey at actor[0].fails_to_ms\n")
unfolding reading_on_literals running_on_literals columns_of
case_0_end_of_an_outage_beside_outages = refl

-- faults-3/equal_permilles.toml
case_0_equal_permilles : shown_upto 3 0 [] (codes "version = 3\nhorizon = 1000\n[[queue]]\nname = \"q\"\n[[queue]]\nname = \"f.fifo\"\n[[actor]]\nname = \"c\"\nkind = \"consumer\"\nqueue = \"q\"\nservice = [[0, 1], [500, 1], [500, 2], [1000, 3]]\n")
    ≡ refused (codes "refused 14 OutOfRange at actor[0].service[2]\n")
unfolding reading_on_literals running_on_literals columns_of
case_0_equal_permilles = refl

-- faults-3/failed_service_after_the_time_of_each.toml
case_0_failed_service_after_the_time_of_each : shown_upto 3 0 [] (codes "version = 3\nhorizon = 1000\n[[queue]]\nname = \"q\"\n[[queue]]\nname = \"f.fifo\"\n[[actor]]\nname = \"c\"\nkind = \"consumer\"\nqueue = \"q\"\nservice_min_ms = 1\nservice_max_ms = 1\nbatch_service = \"once\"\nservice_each_ms = -1\nfail_service_ms = -1\nbatch_fails = \"whole\"\n")
    ≡ refused (codes "refused 14 OutOfRange at actor[0].service_each_ms\n")
unfolding reading_on_literals running_on_literals columns_of
case_0_failed_service_after_the_time_of_each = refl

-- faults-3/failed_service_before_the_chance.toml
case_0_failed_service_before_the_chance : shown_upto 3 0 [] (codes "version = 3\nhorizon = 1000\n[[queue]]\nname = \"q\"\n[[queue]]\nname = \"f.fifo\"\n[[actor]]\nname = \"c\"\nkind = \"consumer\"\nqueue = \"q\"\nservice_min_ms = 1\nservice_max_ms = 1\nfail_service_ms = -1\nfail_permille = -1\n")
    ≡ refused (codes "refused 14 OutOfRange at actor[0].fail_service_ms\n")
unfolding reading_on_literals running_on_literals columns_of
case_0_failed_service_before_the_chance = refl

-- faults-3/failed_service_beside_single_services.toml
case_0_failed_service_beside_single_services : shown_upto 3 0 [] (codes "version = 3\nhorizon = 1000\n[[queue]]\nname = \"q\"\n[[queue]]\nname = \"f.fifo\"\n[[actor]]\nname = \"c\"\nkind = \"consumer\"\nqueue = \"q\"\nservice_min_ms = 1\nservice_max_ms = 1\nbatch_service = \"each\"\nfail_service_ms = 43200001\nbatch_fails = \"each\"\n")
    ≡ refused (codes "refused 14 OutOfRange at actor[0].fail_service_ms\n")
unfolding reading_on_literals running_on_literals columns_of
case_0_failed_service_beside_single_services = refl

-- faults-3/failed_service_in_version_two.toml
case_0_failed_service_in_version_two : shown_upto 3 0 [] (codes "version = 2\nhorizon = 1000\n[[queue]]\nname = \"q\"\n[[queue]]\nname = \"f.fifo\"\n[[actor]]\nname = \"c\"\nkind = \"consumer\"\nqueue = \"q\"\nservice_min_ms = 1\nservice_max_ms = 1\nfail_service_ms = 1\n")
    ≡ refused (codes "refused 11 UnknownKey at actor[0].fail_service_ms\n")
unfolding reading_on_literals running_on_literals columns_of
case_0_failed_service_in_version_two = refl

-- faults-3/failed_service_of_a_batch_by_another_word.toml
case_0_failed_service_of_a_batch_by_another_word : shown_upto 3 0 [] (codes "version = 3\nhorizon = 1000\n[[queue]]\nname = \"q\"\n[[queue]]\nname = \"f.fifo\"\n[[actor]]\nname = \"c\"\nkind = \"consumer\"\nqueue = \"q\"\nservice_min_ms = 1\nservice_max_ms = 1\nbatch_service = \"once\"\nfail_service_ms = 1\nbatch_fails = \"all\"\n")
    ≡ refused (codes "refused 11 UnknownKey at actor[0].fail_service_ms\n")
unfolding reading_on_literals running_on_literals columns_of
case_0_failed_service_of_a_batch_by_another_word = refl

-- faults-3/failed_service_of_a_batch_without_its_word.toml
case_0_failed_service_of_a_batch_without_its_word : shown_upto 3 0 [] (codes "version = 3\nhorizon = 1000\n[[queue]]\nname = \"q\"\n[[queue]]\nname = \"f.fifo\"\n[[actor]]\nname = \"c\"\nkind = \"consumer\"\nqueue = \"q\"\nservice_min_ms = 1\nservice_max_ms = 1\nbatch_service = \"once\"\nfail_service_ms = 1\n")
    ≡ refused (codes "refused 11 UnknownKey at actor[0].fail_service_ms\n")
unfolding reading_on_literals running_on_literals columns_of
case_0_failed_service_of_a_batch_without_its_word = refl

-- faults-3/failed_service_of_a_producer.toml
case_0_failed_service_of_a_producer : shown_upto 3 0 [] (codes "version = 3\nhorizon = 1000\n[[queue]]\nname = \"q\"\n[[queue]]\nname = \"f.fifo\"\n[[actor]]\nname = \"p\"\nkind = \"producer\"\nqueue = \"q\"\ncount = 1\nbody = \"m\"\ngap_min_ms = 1\ngap_max_ms = 1\nfail_service_ms = 1\n")
    ≡ refused (codes "refused 11 UnknownKey at actor[0].fail_service_ms\n")
unfolding reading_on_literals running_on_literals columns_of
case_0_failed_service_of_a_producer = refl

-- faults-3/failed_service_over_12_hours.toml
case_0_failed_service_over_12_hours : shown_upto 3 0 [] (codes "version = 3\nhorizon = 1000\n[[queue]]\nname = \"q\"\n[[queue]]\nname = \"f.fifo\"\n[[actor]]\nname = \"c\"\nkind = \"consumer\"\nqueue = \"q\"\nservice_min_ms = 1\nservice_max_ms = 1\nfail_service_ms = 43200001\n")
    ≡ refused (codes "refused 14 OutOfRange at actor[0].fail_service_ms\n")
unfolding reading_on_literals running_on_literals columns_of
case_0_failed_service_over_12_hours = refl

-- faults-3/failed_service_that_is_no_number.toml
case_0_failed_service_that_is_no_number : shown_upto 3 0 [] (codes "version = 3\nhorizon = 1000\n[[queue]]\nname = \"q\"\n[[queue]]\nname = \"f.fifo\"\n[[actor]]\nname = \"c\"\nkind = \"consumer\"\nqueue = \"q\"\nservice_min_ms = 1\nservice_max_ms = 1\nfail_service_ms = \"1\"\n")
    ≡ refused (codes "refused 13 WrongType at actor[0].fail_service_ms\n")
unfolding reading_on_literals running_on_literals columns_of
case_0_failed_service_that_is_no_number = refl

-- faults-3/failed_service_where_each_message_is_decided.toml
case_0_failed_service_where_each_message_is_decided : shown_upto 3 0 [] (codes "version = 3\nhorizon = 1000\n[[queue]]\nname = \"q\"\n[[queue]]\nname = \"f.fifo\"\n[[actor]]\nname = \"c\"\nkind = \"consumer\"\nqueue = \"q\"\nservice_min_ms = 1\nservice_max_ms = 1\nbatch_service = \"once\"\nfail_service_ms = 1\nbatch_fails = \"each\"\n")
    ≡ refused (codes "refused 11 UnknownKey at actor[0].fail_service_ms\n")
unfolding reading_on_literals running_on_literals columns_of
case_0_failed_service_where_each_message_is_decided = refl

-- faults-3/failing_text_at_a_producer.toml
case_0_failing_text_at_a_producer : shown_upto 3 0 [] (codes "version = 3\nhorizon = 1000\n[[queue]]\nname = \"q\"\n[[queue]]\nname = \"f.fifo\"\n[[actor]]\nname = \"p\"\nkind = \"producer\"\nqueue = \"q\"\ncount = 1\nbody = \"m\"\ngap_min_ms = 1\ngap_max_ms = 1\nfails_on = \"m\"\n")
    ≡ refused (codes "refused 11 UnknownKey at actor[0].fails_on\n")
unfolding reading_on_literals running_on_literals columns_of
case_0_failing_text_at_a_producer = refl

-- faults-3/failing_text_empty.toml
case_0_failing_text_empty : shown_upto 3 0 [] (codes "version = 3\nhorizon = 1000\n[[queue]]\nname = \"q\"\n[[queue]]\nname = \"f.fifo\"\n[[actor]]\nname = \"c\"\nkind = \"consumer\"\nqueue = \"q\"\nservice_min_ms = 1\nservice_max_ms = 1\nfails_on = \"\"\n")
    ≡ refused (codes "refused 14 OutOfRange at actor[0].fails_on\n")
unfolding reading_on_literals running_on_literals columns_of
case_0_failing_text_empty = refl

-- faults-3/failing_text_of_129_bytes.toml
case_0_failing_text_of_129_bytes : shown_upto 3 0 [] (codes "version = 3\nhorizon = 1000\n[[queue]]\nname = \"q\"\n[[queue]]\nname = \"f.fifo\"\n[[actor]]\nname = \"c\"\nkind = \"consumer\"\nqueue = \"q\"\nservice_min_ms = 1\nservice_max_ms = 1\nfails_on = \"" ++ (195 ∷ []) ++ (169 ∷ []) ++ (195 ∷ []) ++ (169 ∷ []) ++ (195 ∷ []) ++ (169 ∷ []) ++ (195 ∷ []) ++ (169 ∷ []) ++ (195 ∷ []) ++ (169 ∷ []) ++ (195 ∷ []) ++ (169 ∷ []) ++ (195 ∷ []) ++ (169 ∷ []) ++ (195 ∷ []) ++ (169 ∷ []) ++ (195 ∷ []) ++ (169 ∷ []) ++ (195 ∷ []) ++ (169 ∷ []) ++ (195 ∷ []) ++ (169 ∷ []) ++ (195 ∷ []) ++ (169 ∷ []) ++ (195 ∷ []) ++ (169 ∷ []) ++ (195 ∷ []) ++ (169 ∷ []) ++ (195 ∷ []) ++ (169 ∷ []) ++ (195 ∷ []) ++ (169 ∷ []) ++ (195 ∷ []) ++ (169 ∷ []) ++ (195 ∷ []) ++ (169 ∷ []) ++ (195 ∷ []) ++ (169 ∷ []) ++ (195 ∷ []) ++ (169 ∷ []) ++ (195 ∷ []) ++ (169 ∷ []) ++ (195 ∷ []) ++ (169 ∷ []) ++ (195 ∷ []) ++ (169 ∷ []) ++ (195 ∷ []) ++ (169 ∷ []) ++ (195 ∷ []) ++ (169 ∷ []) ++ (195 ∷ []) ++ (169 ∷ []) ++ (195 ∷ []) ++ (169 ∷ []) ++ (195 ∷ []) ++ (169 ∷ []) ++ (195 ∷ []) ++ (169 ∷ []) ++ (195 ∷ []) ++ (169 ∷ []) ++ (195 ∷ []) ++ (169 ∷ []) ++ (195 ∷ []) ++ (169 ∷ []) ++ (195 ∷ []) ++ (169 ∷ []) ++ (195 ∷ []) ++ (169 ∷ []) ++ (195 ∷ []) ++ (169 ∷ []) ++ (195 ∷ []) ++ (169 ∷ []) ++ (195 ∷ []) ++ (169 ∷ []) ++ (195 ∷ []) ++ (169 ∷ []) ++ (195 ∷ []) ++ (169 ∷ []) ++ (195 ∷ []) ++ (169 ∷ []) ++ (195 ∷ []) ++ (169 ∷ []) ++ (195 ∷ []) ++ (169 ∷ []) ++ (195 ∷ []) ++ (169 ∷ []) ++ (195 ∷ []) ++ (169 ∷ []) ++ (195 ∷ []) ++ (169 ∷ []) ++ (195 ∷ []) ++ (169 ∷ []) ++ (195 ∷ []) ++ (169 ∷ []) ++ (195 ∷ []) ++ (169 ∷ []) ++ (195 ∷ []) ++ (169 ∷ []) ++ (195 ∷ []) ++ (169 ∷ []) ++ (195 ∷ []) ++ (169 ∷ []) ++ (195 ∷ []) ++ (169 ∷ []) ++ (195 ∷ []) ++ (169 ∷ []) ++ (195 ∷ []) ++ (169 ∷ []) ++ (195 ∷ []) ++ (169 ∷ []) ++ (195 ∷ []) ++ (169 ∷ []) ++ (195 ∷ []) ++ (169 ∷ []) ++ (195 ∷ []) ++ (169 ∷ []) ++ (195 ∷ []) ++ (169 ∷ []) ++ (195 ∷ []) ++ (169 ∷ []) ++ (195 ∷ []) ++ (169 ∷ []) ++ (195 ∷ []) ++ (169 ∷ []) ++ (195 ∷ []) ++ (169 ∷ []) ++ (195 ∷ []) ++ (169 ∷ []) ++ codes "x\"\n")
    ≡ refused (codes "refused 14 OutOfRange at actor[0].fails_on\n")
unfolding reading_on_literals running_on_literals columns_of
case_0_failing_text_of_129_bytes = refl

-- faults-3/first_permille_not_zero.toml
case_0_first_permille_not_zero : shown_upto 3 0 [] (codes "version = 3\nhorizon = 1000\n[[queue]]\nname = \"q\"\n[[queue]]\nname = \"f.fifo\"\n[[actor]]\nname = \"p\"\nkind = \"producer\"\nqueue = \"q\"\ncount = 1\nbody = \"m\"\ngap = [[1, 1], [1000, 1]]\n")
    ≡ refused (codes "refused 14 OutOfRange at actor[0].gap[0]\n")
unfolding reading_on_literals running_on_literals columns_of
case_0_first_permille_not_zero = refl

-- faults-3/forward_to_a_list_in_version_two.toml
case_0_forward_to_a_list_in_version_two : shown_upto 3 0 [] (codes "version = 2\nhorizon = 1000\n[[queue]]\nname = \"q\"\n[[queue]]\nname = \"f.fifo\"\n[[actor]]\nname = \"c\"\nkind = \"consumer\"\nqueue = \"q\"\nservice_min_ms = 1\nservice_max_ms = 1\nforward = [\"q\"]\nlatency_min_ms = 1\nlatency_max_ms = 9\n")
    ≡ refused (codes "refused 13 WrongType at actor[0].forward\n")
unfolding reading_on_literals running_on_literals columns_of
case_0_forward_to_a_list_in_version_two = refl

-- faults-3/forward_to_a_number_in_a_list.toml
case_0_forward_to_a_number_in_a_list : shown_upto 3 0 [] (codes "version = 3\nhorizon = 1000\n[[queue]]\nname = \"q\"\n[[queue]]\nname = \"f.fifo\"\n[[actor]]\nname = \"c\"\nkind = \"consumer\"\nqueue = \"q\"\nservice_min_ms = 1\nservice_max_ms = 1\nforward = [\"q\", 1]\nlatency_min_ms = 0\n")
    ≡ refused (codes "refused 13 WrongType at actor[0].forward[1]\n")
unfolding reading_on_literals running_on_literals columns_of
case_0_forward_to_a_number_in_a_list = refl

-- faults-3/forward_to_a_table.toml
case_0_forward_to_a_table : shown_upto 3 0 [] (codes "version = 3\nhorizon = 1000\n[[queue]]\nname = \"q\"\n[[queue]]\nname = \"f.fifo\"\n[[actor]]\nname = \"c\"\nkind = \"consumer\"\nqueue = \"q\"\nservice_min_ms = 1\nservice_max_ms = 1\nforward = { a = \"q\" }\nlatency_min_ms = 1\nlatency_max_ms = 9\n")
    ≡ refused (codes "refused 13 WrongType at actor[0].forward\n")
unfolding reading_on_literals running_on_literals columns_of
case_0_forward_to_a_table = refl

-- faults-3/forward_to_an_unknown_queue_in_a_list.toml
case_0_forward_to_an_unknown_queue_in_a_list : shown_upto 3 0 [] (codes "version = 3\nhorizon = 1000\n[[queue]]\nname = \"q\"\n[[queue]]\nname = \"f.fifo\"\n[[actor]]\nname = \"c\"\nkind = \"consumer\"\nqueue = \"q\"\nservice_min_ms = 1\nservice_max_ms = 1\nforward = [\"p\", \"f.fifo\"]\nlatency_min_ms = 1\nlatency_max_ms = 9\n")
    ≡ refused (codes "refused 17 UnknownQueue at actor[0].forward[0]\n")
unfolding reading_on_literals running_on_literals columns_of
case_0_forward_to_an_unknown_queue_in_a_list = refl

-- faults-3/forward_to_eleven_queues.toml
case_0_forward_to_eleven_queues : shown_upto 3 0 [] (codes "version = 3\nhorizon = 1000\n[[queue]]\nname = \"q\"\n[[queue]]\nname = \"f.fifo\"\n[[actor]]\nname = \"c\"\nkind = \"consumer\"\nqueue = \"q\"\nservice_min_ms = 1\nservice_max_ms = 1\nforward = [\"q\", \"q\", \"q\", \"q\", \"q\", \"q\", \"q\", \"q\", \"q\", \"q\", 1]\nlatency_min_ms = 1\nlatency_max_ms = 9\n")
    ≡ refused (codes "refused 19 TooMany at actor[0].forward\n")
unfolding reading_on_literals running_on_literals columns_of
case_0_forward_to_eleven_queues = refl

-- faults-3/forward_to_no_queue.toml
case_0_forward_to_no_queue : shown_upto 3 0 [] (codes "version = 3\nhorizon = 1000\n[[queue]]\nname = \"q\"\n[[queue]]\nname = \"f.fifo\"\n[[actor]]\nname = \"c\"\nkind = \"consumer\"\nqueue = \"q\"\nservice_min_ms = 1\nservice_max_ms = 1\nforward = []\nlatency_min_ms = 1\nlatency_max_ms = 9\n")
    ≡ refused (codes "refused 14 OutOfRange at actor[0].forward\n")
unfolding reading_on_literals running_on_literals columns_of
case_0_forward_to_no_queue = refl

-- faults-3/forward_to_the_other_kind_in_a_list.toml
case_0_forward_to_the_other_kind_in_a_list : shown_upto 3 0 [] (codes "version = 3\nhorizon = 1000\n[[queue]]\nname = \"q\"\n[[queue]]\nname = \"f.fifo\"\n[[actor]]\nname = \"c\"\nkind = \"consumer\"\nqueue = \"q\"\nservice_min_ms = 1\nservice_max_ms = 1\nforward = [\"q\", \"f.fifo\", \"p\"]\nlatency_min_ms = 1\nlatency_max_ms = 9\n")
    ≡ refused (codes "refused 18 KindMismatch at actor[0].forward[1]\n")
unfolding reading_on_literals running_on_literals columns_of
case_0_forward_to_the_other_kind_in_a_list = refl

-- faults-3/fraction_for_a_permille.toml
case_0_fraction_for_a_permille : shown_upto 3 0 [] (codes "version = 3\nhorizon = 1000\n[[queue]]\nname = \"q\"\n[[queue]]\nname = \"f.fifo\"\n[[actor]]\nname = \"c\"\nkind = \"consumer\"\nqueue = \"q\"\nservice = [[0, 1], [99.5, 2], [1000, 3]]\n")
    ≡ refused (codes "refused 13 WrongType at actor[0].service[1]\n")
unfolding reading_on_literals running_on_literals columns_of
case_0_fraction_for_a_permille = refl

-- faults-3/gap_at_a_consumer.toml
case_0_gap_at_a_consumer : shown_upto 3 0 [] (codes "version = 3\nhorizon = 1000\n[[queue]]\nname = \"q\"\n[[queue]]\nname = \"f.fifo\"\n[[actor]]\nname = \"c\"\nkind = \"consumer\"\nqueue = \"q\"\nservice_min_ms = 1\nservice_max_ms = 1\ngap = [[0, 1], [1000, 1]]\n")
    ≡ refused (codes "refused 11 UnknownKey at actor[0].gap\n")
unfolding reading_on_literals running_on_literals columns_of
case_0_gap_at_a_consumer = refl

-- faults-3/gather_after_the_batch.toml
case_0_gather_after_the_batch : shown_upto 3 0 [] (codes "version = 3\nhorizon = 1000\n[[queue]]\nname = \"q\"\n[[queue]]\nname = \"f.fifo\"\n[[actor]]\nname = \"c\"\nkind = \"consumer\"\nqueue = \"q\"\nservice_min_ms = 1\nservice_max_ms = 1\ngather_ms = -1\nbatch = 11\n")
    ≡ refused (codes "refused 14 OutOfRange at actor[0].batch\n")
unfolding reading_on_literals running_on_literals columns_of
case_0_gather_after_the_batch = refl

-- faults-3/gather_before_the_wait.toml
case_0_gather_before_the_wait : shown_upto 3 0 [] (codes "version = 3\nhorizon = 1000\n[[queue]]\nname = \"q\"\n[[queue]]\nname = \"f.fifo\"\n[[actor]]\nname = \"c\"\nkind = \"consumer\"\nqueue = \"q\"\nservice_min_ms = 1\nservice_max_ms = 1\ngather_ms = -1\nwait_s = 21\n")
    ≡ refused (codes "refused 14 OutOfRange at actor[0].gather_ms\n")
unfolding reading_on_literals running_on_literals columns_of
case_0_gather_before_the_wait = refl

-- faults-3/gather_in_version_two.toml
case_0_gather_in_version_two : shown_upto 3 0 [] (codes "version = 2\nhorizon = 1000\n[[queue]]\nname = \"q\"\n[[queue]]\nname = \"f.fifo\"\n[[actor]]\nname = \"c\"\nkind = \"consumer\"\nqueue = \"q\"\nservice_min_ms = 1\nservice_max_ms = 1\ngather_ms = 1\n")
    ≡ refused (codes "refused 11 UnknownKey at actor[0].gather_ms\n")
unfolding reading_on_literals running_on_literals columns_of
case_0_gather_in_version_two = refl

-- faults-3/gather_over_five_minutes.toml
case_0_gather_over_five_minutes : shown_upto 3 0 [] (codes "version = 3\nhorizon = 1000\n[[queue]]\nname = \"q\"\n[[queue]]\nname = \"f.fifo\"\n[[actor]]\nname = \"c\"\nkind = \"consumer\"\nqueue = \"q\"\nservice_min_ms = 1\nservice_max_ms = 1\ngather_ms = 300001\n")
    ≡ refused (codes "refused 14 OutOfRange at actor[0].gather_ms\n")
unfolding reading_on_literals running_on_literals columns_of
case_0_gather_over_five_minutes = refl

-- faults-3/gather_that_is_no_number.toml
case_0_gather_that_is_no_number : shown_upto 3 0 [] (codes "version = 3\nhorizon = 1000\n[[queue]]\nname = \"q\"\n[[queue]]\nname = \"f.fifo\"\n[[actor]]\nname = \"c\"\nkind = \"consumer\"\nqueue = \"q\"\nservice_min_ms = 1\nservice_max_ms = 1\ngather_ms = \"1\"\n")
    ≡ refused (codes "refused 13 WrongType at actor[0].gather_ms\n")
unfolding reading_on_literals running_on_literals columns_of
case_0_gather_that_is_no_number = refl

-- faults-3/group_of_129_bytes.toml
case_0_group_of_129_bytes : shown_upto 3 0 [] (codes "version = 3\nhorizon = 1000\n[[queue]]\nname = \"q\"\n[[queue]]\nname = \"f.fifo\"\n[[actor]]\nname = \"p\"\nkind = \"producer\"\nqueue = \"f.fifo\"\ncount = 1\nbody = \"m\"\ngap_min_ms = 1\ngap_max_ms = 1\nkey_groups = [[\"ggggggggggggggggggggggggggggggggggggggggggggggggggggggggggggggggggggggggggggggggggggggggggggggggggggggggggggggggggggggggggggggggg\", 1]]\n")
    ≡ refused (codes "refused 14 OutOfRange at actor[0].key_groups[0]\n")
unfolding reading_on_literals running_on_literals columns_of
case_0_group_of_129_bytes = refl

-- faults-3/group_with_a_space.toml
case_0_group_with_a_space : shown_upto 3 0 [] (codes "version = 3\nhorizon = 1000\n[[queue]]\nname = \"q\"\n[[queue]]\nname = \"f.fifo\"\n[[actor]]\nname = \"p\"\nkind = \"producer\"\nqueue = \"f.fifo\"\ncount = 1\nbody = \"m\"\ngap_min_ms = 1\ngap_max_ms = 1\nkey_groups = [[\"g\", 1], [\"g h\", 1]]\n")
    ≡ refused (codes "refused 14 OutOfRange at actor[0].key_groups[1]\n")
unfolding reading_on_literals running_on_literals columns_of
case_0_group_with_a_space = refl

-- faults-3/group_without_a_weight.toml
case_0_group_without_a_weight : shown_upto 3 0 [] (codes "version = 3\nhorizon = 1000\n[[queue]]\nname = \"q\"\n[[queue]]\nname = \"f.fifo\"\n[[actor]]\nname = \"p\"\nkind = \"producer\"\nqueue = \"f.fifo\"\ncount = 1\nbody = \"m\"\ngap_min_ms = 1\ngap_max_ms = 1\nkey_groups = [[\"g\", 1], [\"h\"]]\n")
    ≡ refused (codes "refused 14 OutOfRange at actor[0].key_groups[1]\n")
unfolding reading_on_literals running_on_literals columns_of
case_0_group_without_a_weight = refl

-- faults-3/groups_beside_weights.toml
case_0_groups_beside_weights : shown_upto 3 0 [] (codes "version = 3\nhorizon = 1000\n[[queue]]\nname = \"q\"\n[[queue]]\nname = \"f.fifo\"\n[[actor]]\nname = \"p\"\nkind = \"producer\"\nqueue = \"f.fifo\"\ncount = 1\nbody = \"m\"\ngap_min_ms = 1\ngap_max_ms = 1\ngroups = 1\nkey_groups = [[\"g\", 1]]\n")
    ≡ refused (codes "refused 11 UnknownKey at actor[0].groups\n")
unfolding reading_on_literals running_on_literals columns_of
case_0_groups_beside_weights = refl

-- faults-3/heartbeat_beside_a_batch_service.toml
case_0_heartbeat_beside_a_batch_service : shown_upto 3 0 [] (codes "version = 3\nhorizon = 1000\n[[queue]]\nname = \"q\"\n[[queue]]\nname = \"f.fifo\"\n[[actor]]\nname = \"c\"\nkind = \"consumer\"\nqueue = \"q\"\nservice_min_ms = 1\nservice_max_ms = 1\nbatch_service = \"each\"\nheartbeat_s = 1\n")
    ≡ refused (codes "refused 11 UnknownKey at actor[0].heartbeat_s\n")
unfolding reading_on_literals running_on_literals columns_of
case_0_heartbeat_beside_a_batch_service = refl

-- faults-3/heartbeat_of_zero.toml
case_0_heartbeat_of_zero : shown_upto 3 0 [] (codes "version = 3\nhorizon = 1000\n[[queue]]\nname = \"q\"\n[[queue]]\nname = \"f.fifo\"\n[[actor]]\nname = \"c\"\nkind = \"consumer\"\nqueue = \"q\"\nservice_min_ms = 1\nservice_max_ms = 1\nheartbeat_s = 0\n")
    ≡ refused (codes "refused 14 OutOfRange at actor[0].heartbeat_s\n")
unfolding reading_on_literals running_on_literals columns_of
case_0_heartbeat_of_zero = refl

-- faults-3/heartbeat_over_12_hours.toml
case_0_heartbeat_over_12_hours : shown_upto 3 0 [] (codes "version = 3\nhorizon = 1000\n[[queue]]\nname = \"q\"\n[[queue]]\nname = \"f.fifo\"\n[[actor]]\nname = \"c\"\nkind = \"consumer\"\nqueue = \"q\"\nservice_min_ms = 1\nservice_max_ms = 1\nheartbeat_s = 43201\n")
    ≡ refused (codes "refused 14 OutOfRange at actor[0].heartbeat_s\n")
unfolding reading_on_literals running_on_literals columns_of
case_0_heartbeat_over_12_hours = refl

-- faults-3/jitter_after_its_backoff.toml
case_0_jitter_after_its_backoff : shown_upto 3 0 [] (codes "version = 3\nhorizon = 1000\n[[queue]]\nname = \"q\"\n[[queue]]\nname = \"f.fifo\"\n[[actor]]\nname = \"c\"\nkind = \"consumer\"\nqueue = \"q\"\nservice_min_ms = 1\nservice_max_ms = 1\nbackoff_s = [-1]\nbackoff_jitter = \"equal\"\n")
    ≡ refused (codes "refused 14 OutOfRange at actor[0].backoff_s[0]\n")
unfolding reading_on_literals running_on_literals columns_of
case_0_jitter_after_its_backoff = refl

-- faults-3/jitter_before_the_heartbeat.toml
case_0_jitter_before_the_heartbeat : shown_upto 3 0 [] (codes "version = 3\nhorizon = 1000\n[[queue]]\nname = \"q\"\n[[queue]]\nname = \"f.fifo\"\n[[actor]]\nname = \"c\"\nkind = \"consumer\"\nqueue = \"q\"\nservice_min_ms = 1\nservice_max_ms = 1\nbackoff_s = [1]\nbackoff_jitter = \"equal\"\nheartbeat_s = 0\n")
    ≡ refused (codes "refused 14 OutOfRange at actor[0].backoff_jitter\n")
unfolding reading_on_literals running_on_literals columns_of
case_0_jitter_before_the_heartbeat = refl

-- faults-3/jitter_of_another_word.toml
case_0_jitter_of_another_word : shown_upto 3 0 [] (codes "version = 3\nhorizon = 1000\n[[queue]]\nname = \"q\"\n[[queue]]\nname = \"f.fifo\"\n[[actor]]\nname = \"c\"\nkind = \"consumer\"\nqueue = \"q\"\nservice_min_ms = 1\nservice_max_ms = 1\nbackoff_s = [1]\nbackoff_jitter = \"equal\"\n")
    ≡ refused (codes "refused 14 OutOfRange at actor[0].backoff_jitter\n")
unfolding reading_on_literals running_on_literals columns_of
case_0_jitter_of_another_word = refl

-- faults-3/jitter_without_a_backoff.toml
case_0_jitter_without_a_backoff : shown_upto 3 0 [] (codes "version = 3\nhorizon = 1000\n[[queue]]\nname = \"q\"\n[[queue]]\nname = \"f.fifo\"\n[[actor]]\nname = \"c\"\nkind = \"consumer\"\nqueue = \"q\"\nservice_min_ms = 1\nservice_max_ms = 1\nbackoff_jitter = \"full\"\n")
    ≡ refused (codes "refused 11 UnknownKey at actor[0].backoff_jitter\n")
unfolding reading_on_literals running_on_literals columns_of
case_0_jitter_without_a_backoff = refl

-- faults-3/last_permille_not_a_thousand.toml
case_0_last_permille_not_a_thousand : shown_upto 3 0 [] (codes "version = 3\nhorizon = 1000\n[[queue]]\nname = \"q\"\n[[queue]]\nname = \"f.fifo\"\n[[actor]]\nname = \"c\"\nkind = \"consumer\"\nqueue = \"q\"\nservice = [[0, 1], [999, 2]]\n")
    ≡ refused (codes "refused 14 OutOfRange at actor[0].service[1]\n")
unfolding reading_on_literals running_on_literals columns_of
case_0_last_permille_not_a_thousand = refl

-- faults-3/neither_groups_nor_weights.toml
case_0_neither_groups_nor_weights : shown_upto 3 0 [] (codes "version = 3\nhorizon = 1000\n[[queue]]\nname = \"q\"\n[[queue]]\nname = \"f.fifo\"\n[[actor]]\nname = \"p\"\nkind = \"producer\"\nqueue = \"f.fifo\"\ncount = 1\nbody = \"m\"\ngap_min_ms = 1\ngap_max_ms = 1\n")
    ≡ refused (codes "refused 12 MissingKey at actor[0].groups\n")
unfolding reading_on_literals running_on_literals columns_of
case_0_neither_groups_nor_weights = refl

-- faults-3/neither_quantiles_nor_bounds.toml
case_0_neither_quantiles_nor_bounds : shown_upto 3 0 [] (codes "version = 3\nhorizon = 1000\n[[queue]]\nname = \"q\"\n[[queue]]\nname = \"f.fifo\"\n[[actor]]\nname = \"c\"\nkind = \"consumer\"\nqueue = \"q\"\n")
    ≡ refused (codes "refused 12 MissingKey at actor[0].service_min_ms\n")
unfolding reading_on_literals running_on_literals columns_of
case_0_neither_quantiles_nor_bounds = refl

-- faults-3/no_backoffs.toml
case_0_no_backoffs : shown_upto 3 0 [] (codes "version = 3\nhorizon = 1000\n[[queue]]\nname = \"q\"\n[[queue]]\nname = \"f.fifo\"\n[[actor]]\nname = \"c\"\nkind = \"consumer\"\nqueue = \"q\"\nservice_min_ms = 1\nservice_max_ms = 1\nbackoff_s = []\n")
    ≡ refused (codes "refused 14 OutOfRange at actor[0].backoff_s\n")
unfolding reading_on_literals running_on_literals columns_of
case_0_no_backoffs = refl

-- faults-3/no_quantiles.toml
case_0_no_quantiles : shown_upto 3 0 [] (codes "version = 3\nhorizon = 1000\n[[queue]]\nname = \"q\"\n[[queue]]\nname = \"f.fifo\"\n[[actor]]\nname = \"p\"\nkind = \"producer\"\nqueue = \"q\"\ncount = 1\nbody = \"m\"\ngap = []\n")
    ≡ refused (codes "refused 14 OutOfRange at actor[0].gap\n")
unfolding reading_on_literals running_on_literals columns_of
case_0_no_quantiles = refl

-- faults-3/no_weights.toml
case_0_no_weights : shown_upto 3 0 [] (codes "version = 3\nhorizon = 1000\n[[queue]]\nname = \"q\"\n[[queue]]\nname = \"f.fifo\"\n[[actor]]\nname = \"p\"\nkind = \"producer\"\nqueue = \"f.fifo\"\ncount = 1\nbody = \"m\"\ngap_min_ms = 1\ngap_max_ms = 1\nkey_groups = []\n")
    ≡ refused (codes "refused 14 OutOfRange at actor[0].key_groups\n")
unfolding reading_on_literals running_on_literals columns_of
case_0_no_weights = refl

-- faults-3/number_for_a_failing_text.toml
case_0_number_for_a_failing_text : shown_upto 3 0 [] (codes "version = 3\nhorizon = 1000\n[[queue]]\nname = \"q\"\n[[queue]]\nname = \"f.fifo\"\n[[actor]]\nname = \"c\"\nkind = \"consumer\"\nqueue = \"q\"\nservice_min_ms = 1\nservice_max_ms = 1\nfails_on = 5\n")
    ≡ refused (codes "refused 13 WrongType at actor[0].fails_on\n")
unfolding reading_on_literals running_on_literals columns_of
case_0_number_for_a_failing_text = refl

-- faults-3/number_for_a_group.toml
case_0_number_for_a_group : shown_upto 3 0 [] (codes "version = 3\nhorizon = 1000\n[[queue]]\nname = \"q\"\n[[queue]]\nname = \"f.fifo\"\n[[actor]]\nname = \"p\"\nkind = \"producer\"\nqueue = \"f.fifo\"\ncount = 1\nbody = \"m\"\ngap_min_ms = 1\ngap_max_ms = 1\nkey_groups = [[1, 1]]\n")
    ≡ refused (codes "refused 13 WrongType at actor[0].key_groups[0]\n")
unfolding reading_on_literals running_on_literals columns_of
case_0_number_for_a_group = refl

-- faults-3/number_for_a_pair.toml
case_0_number_for_a_pair : shown_upto 3 0 [] (codes "version = 3\nhorizon = 1000\n[[queue]]\nname = \"q\"\n[[queue]]\nname = \"f.fifo\"\n[[actor]]\nname = \"c\"\nkind = \"consumer\"\nqueue = \"q\"\nservice = [0, 1000]\n")
    ≡ refused (codes "refused 13 WrongType at actor[0].service[0]\n")
unfolding reading_on_literals running_on_literals columns_of
case_0_number_for_a_pair = refl

-- faults-3/number_for_backoffs.toml
case_0_number_for_backoffs : shown_upto 3 0 [] (codes "version = 3\nhorizon = 1000\n[[queue]]\nname = \"q\"\n[[queue]]\nname = \"f.fifo\"\n[[actor]]\nname = \"c\"\nkind = \"consumer\"\nqueue = \"q\"\nservice_min_ms = 1\nservice_max_ms = 1\nbackoff_s = 5\n")
    ≡ refused (codes "refused 13 WrongType at actor[0].backoff_s\n")
unfolding reading_on_literals running_on_literals columns_of
case_0_number_for_backoffs = refl

-- faults-3/number_for_quantiles.toml
case_0_number_for_quantiles : shown_upto 3 0 [] (codes "version = 3\nhorizon = 1000\n[[queue]]\nname = \"q\"\n[[queue]]\nname = \"f.fifo\"\n[[actor]]\nname = \"c\"\nkind = \"consumer\"\nqueue = \"q\"\nservice = 5\n")
    ≡ refused (codes "refused 13 WrongType at actor[0].service\n")
unfolding reading_on_literals running_on_literals columns_of
case_0_number_for_quantiles = refl

-- faults-3/one_bound_of_a_gap.toml
case_0_one_bound_of_a_gap : shown_upto 3 0 [] (codes "version = 3\nhorizon = 1000\n[[queue]]\nname = \"q\"\n[[queue]]\nname = \"f.fifo\"\n[[actor]]\nname = \"p\"\nkind = \"producer\"\nqueue = \"q\"\ncount = 1\nbody = \"m\"\ngap_min_ms = 1\n")
    ≡ refused (codes "refused 12 MissingKey at actor[0].gap_max_ms\n")
unfolding reading_on_literals running_on_literals columns_of
case_0_one_bound_of_a_gap = refl

-- faults-3/one_latency_in_version_three.toml
case_0_one_latency_in_version_three : shown_upto 3 0 [] (codes "version = 3\nhorizon = 1000\n[[queue]]\nname = \"q\"\n[[queue]]\nname = \"f.fifo\"\n[[actor]]\nname = \"c\"\nkind = \"consumer\"\nqueue = \"q\"\nservice_min_ms = 1\nservice_max_ms = 1\nforward = \"q\"\nlatency_ms = 5\n")
    ≡ refused (codes "refused 11 UnknownKey at actor[0].latency_ms\n")
unfolding reading_on_literals running_on_literals columns_of
case_0_one_latency_in_version_three = refl

-- faults-3/one_quantile.toml
case_0_one_quantile : shown_upto 3 0 [] (codes "version = 3\nhorizon = 1000\n[[queue]]\nname = \"q\"\n[[queue]]\nname = \"f.fifo\"\n[[actor]]\nname = \"c\"\nkind = \"consumer\"\nqueue = \"q\"\nservice = [[0, 1]]\n")
    ≡ refused (codes "refused 14 OutOfRange at actor[0].service\n")
unfolding reading_on_literals running_on_literals columns_of
case_0_one_quantile = refl

-- faults-3/outage_beside_outages.toml
case_0_outage_beside_outages : shown_upto 3 0 [] (codes "version = 3\nhorizon = 1000\n[[queue]]\nname = \"q\"\n[[queue]]\nname = \"f.fifo\"\n[[actor]]\nname = \"c\"\nkind = \"consumer\"\nqueue = \"q\"\nservice_min_ms = 1\nservice_max_ms = 1\nfails_between_ms = [[1, 2]]\nfails_from_ms = 1\n")
    ≡ refused (codes "refused 11 UnknownKey at actor[0].fails_from_ms\n")
unfolding reading_on_literals running_on_literals columns_of
case_0_outage_beside_outages = refl

-- faults-3/outage_of_a_list_before_0.toml
case_0_outage_of_a_list_before_0 : shown_upto 3 0 [] (codes "version = 3\nhorizon = 1000\n[[queue]]\nname = \"q\"\n[[queue]]\nname = \"f.fifo\"\n[[actor]]\nname = \"c\"\nkind = \"consumer\"\nqueue = \"q\"\nservice_min_ms = 1\nservice_max_ms = 1\nfails_between_ms = [[-1, 5]]\n")
    ≡ refused (codes "refused 14 OutOfRange at actor[0].fails_between_ms[0]\n")
unfolding reading_on_literals running_on_literals columns_of
case_0_outage_of_a_list_before_0 = refl

-- faults-3/outage_of_a_list_of_one_number.toml
case_0_outage_of_a_list_of_one_number : shown_upto 3 0 [] (codes "version = 3\nhorizon = 1000\n[[queue]]\nname = \"q\"\n[[queue]]\nname = \"f.fifo\"\n[[actor]]\nname = \"c\"\nkind = \"consumer\"\nqueue = \"q\"\nservice_min_ms = 1\nservice_max_ms = 1\nfails_between_ms = [[1, 2], [5]]\n")
    ≡ refused (codes "refused 14 OutOfRange at actor[0].fails_between_ms[1]\n")
unfolding reading_on_literals running_on_literals columns_of
case_0_outage_of_a_list_of_one_number = refl

-- faults-3/outage_of_a_list_past_30_days.toml
case_0_outage_of_a_list_past_30_days : shown_upto 3 0 [] (codes "version = 3\nhorizon = 1000\n[[queue]]\nname = \"q\"\n[[queue]]\nname = \"f.fifo\"\n[[actor]]\nname = \"c\"\nkind = \"consumer\"\nqueue = \"q\"\nservice_min_ms = 1\nservice_max_ms = 1\nfails_between_ms = [[0, 2592000001]]\n")
    ≡ refused (codes "refused 14 OutOfRange at actor[0].fails_between_ms[0]\n")
unfolding reading_on_literals running_on_literals columns_of
case_0_outage_of_a_list_past_30_days = refl

-- faults-3/outage_of_a_list_that_ends_before_it_begins.toml
case_0_outage_of_a_list_that_ends_before_it_begins : shown_upto 3 0 [] (codes "version = 3\nhorizon = 1000\n[[queue]]\nname = \"q\"\n[[queue]]\nname = \"f.fifo\"\n[[actor]]\nname = \"c\"\nkind = \"consumer\"\nqueue = \"q\"\nservice_min_ms = 1\nservice_max_ms = 1\nfails_between_ms = [[1, 2], [9, 8]]\n")
    ≡ refused (codes "refused 14 OutOfRange at actor[0].fails_between_ms[1]\n")
unfolding reading_on_literals running_on_literals columns_of
case_0_outage_of_a_list_that_ends_before_it_begins = refl

-- faults-3/outage_that_ends_before_it_begins.toml
case_0_outage_that_ends_before_it_begins : shown_upto 3 0 [] (codes "version = 3\nhorizon = 1000\n[[queue]]\nname = \"q\"\n[[queue]]\nname = \"f.fifo\"\n[[actor]]\nname = \"c\"\nkind = \"consumer\"\nqueue = \"q\"\nservice_min_ms = 1\nservice_max_ms = 1\nfails_from_ms = 5\nfails_to_ms = 4\n")
    ≡ refused (codes "refused 14 OutOfRange at actor[0].fails_to_ms\n")
unfolding reading_on_literals running_on_literals columns_of
case_0_outage_that_ends_before_it_begins = refl

-- faults-3/outage_without_a_begin.toml
case_0_outage_without_a_begin : shown_upto 3 0 [] (codes "version = 3\nhorizon = 1000\n[[queue]]\nname = \"q\"\n[[queue]]\nname = \"f.fifo\"\n[[actor]]\nname = \"c\"\nkind = \"consumer\"\nqueue = \"q\"\nservice_min_ms = 1\nservice_max_ms = 1\nfails_to_ms = 5\n")
    ≡ refused (codes "refused 11 UnknownKey at actor[0].fails_to_ms\n")
unfolding reading_on_literals running_on_literals columns_of
case_0_outage_without_a_begin = refl

-- faults-3/outage_without_an_end.toml
case_0_outage_without_an_end : shown_upto 3 0 [] (codes "version = 3\nhorizon = 1000\n[[queue]]\nname = \"q\"\n[[queue]]\nname = \"f.fifo\"\n[[actor]]\nname = \"c\"\nkind = \"consumer\"\nqueue = \"q\"\nservice_min_ms = 1\nservice_max_ms = 1\nfails_from_ms = 5\n")
    ≡ refused (codes "refused 12 MissingKey at actor[0].fails_to_ms\n")
unfolding reading_on_literals running_on_literals columns_of
case_0_outage_without_an_end = refl

-- faults-3/outages_before_their_chance.toml
case_0_outages_before_their_chance : shown_upto 3 0 [] (codes "version = 3\nhorizon = 1000\n[[queue]]\nname = \"q\"\n[[queue]]\nname = \"f.fifo\"\n[[actor]]\nname = \"c\"\nkind = \"consumer\"\nqueue = \"q\"\nservice_min_ms = 1\nservice_max_ms = 1\nfails_permille = -1\nfails_between_ms = [[2, 1]]\n")
    ≡ refused (codes "refused 14 OutOfRange at actor[0].fails_between_ms[0]\n")
unfolding reading_on_literals running_on_literals columns_of
case_0_outages_before_their_chance = refl

-- faults-3/outages_in_version_two.toml
case_0_outages_in_version_two : shown_upto 3 0 [] (codes "version = 2\nhorizon = 1000\n[[queue]]\nname = \"q\"\n[[queue]]\nname = \"f.fifo\"\n[[actor]]\nname = \"c\"\nkind = \"consumer\"\nqueue = \"q\"\nservice_min_ms = 1\nservice_max_ms = 1\nfails_between_ms = [[1, 2]]\n")
    ≡ refused (codes "refused 11 UnknownKey at actor[0].fails_between_ms\n")
unfolding reading_on_literals running_on_literals columns_of
case_0_outages_in_version_two = refl

-- faults-3/outages_of_33.toml
case_0_outages_of_33 : shown_upto 3 0 [] (codes "version = 3\nhorizon = 1000\n[[queue]]\nname = \"q\"\n[[queue]]\nname = \"f.fifo\"\n[[actor]]\nname = \"c\"\nkind = \"consumer\"\nqueue = \"q\"\nservice_min_ms = 1\nservice_max_ms = 1\nfails_between_ms = [[1, 2], [1, 2], [1, 2], [1, 2], [1, 2], [1, 2], [1, 2], [1, 2], [1, 2], [1, 2], [1, 2], [1, 2], [1, 2], [1, 2], [1, 2], [1, 2], [1, 2], [1, 2], [1, 2], [1, 2], [1, 2], [1, 2], [1, 2], [1, 2], [1, 2], [1, 2], [1, 2], [1, 2], [1, 2], [1, 2], [1, 2], [1, 2], [1, 2]]\n")
    ≡ refused (codes "refused 19 TooMany at actor[0].fails_between_ms\n")
unfolding reading_on_literals running_on_literals columns_of
case_0_outages_of_33 = refl

-- faults-3/outages_that_are_no_list.toml
case_0_outages_that_are_no_list : shown_upto 3 0 [] (codes "version = 3\nhorizon = 1000\n[[queue]]\nname = \"q\"\n[[queue]]\nname = \"f.fifo\"\n[[actor]]\nname = \"c\"\nkind = \"consumer\"\nqueue = \"q\"\nservice_min_ms = 1\nservice_max_ms = 1\nfails_between_ms = 5\n")
    ≡ refused (codes "refused 13 WrongType at actor[0].fails_between_ms\n")
unfolding reading_on_literals running_on_literals columns_of
case_0_outages_that_are_no_list = refl

-- faults-3/outages_that_are_none.toml
case_0_outages_that_are_none : shown_upto 3 0 [] (codes "version = 3\nhorizon = 1000\n[[queue]]\nname = \"q\"\n[[queue]]\nname = \"f.fifo\"\n[[actor]]\nname = \"c\"\nkind = \"consumer\"\nqueue = \"q\"\nservice_min_ms = 1\nservice_max_ms = 1\nfails_between_ms = []\n")
    ≡ refused (codes "refused 14 OutOfRange at actor[0].fails_between_ms\n")
unfolding reading_on_literals running_on_literals columns_of
case_0_outages_that_are_none = refl

-- faults-3/pair_of_three_values.toml
case_0_pair_of_three_values : shown_upto 3 0 [] (codes "version = 3\nhorizon = 1000\n[[queue]]\nname = \"q\"\n[[queue]]\nname = \"f.fifo\"\n[[actor]]\nname = \"c\"\nkind = \"consumer\"\nqueue = \"q\"\nservice = [[0, 1], [500, 2, 3], [1000, 4]]\n")
    ≡ refused (codes "refused 14 OutOfRange at actor[0].service[1]\n")
unfolding reading_on_literals running_on_literals columns_of
case_0_pair_of_three_values = refl

-- faults-3/permille_before_the_type_of_its_time.toml
case_0_permille_before_the_type_of_its_time : shown_upto 3 0 [] (codes "version = 3\nhorizon = 1000\n[[queue]]\nname = \"q\"\n[[queue]]\nname = \"f.fifo\"\n[[actor]]\nname = \"c\"\nkind = \"consumer\"\nqueue = \"q\"\nservice = [[1, \"1\"], [1000, 1]]\n")
    ≡ refused (codes "refused 14 OutOfRange at actor[0].service[0]\n")
unfolding reading_on_literals running_on_literals columns_of
case_0_permille_before_the_type_of_its_time = refl

-- faults-3/quantiles_in_version_two.toml
case_0_quantiles_in_version_two : shown_upto 3 0 [] (codes "version = 2\nhorizon = 1000\n[[queue]]\nname = \"q\"\n[[queue]]\nname = \"f.fifo\"\n[[actor]]\nname = \"c\"\nkind = \"consumer\"\nqueue = \"q\"\nservice = [[0, 1], [1000, 2]]\n")
    ≡ refused (codes "refused 11 UnknownKey at actor[0].service\n")
unfolding reading_on_literals running_on_literals columns_of
case_0_quantiles_in_version_two = refl

-- faults-3/scaler_at_another_queue.toml
case_0_scaler_at_another_queue : shown_upto 3 0 [] (codes "version = 3\nhorizon = 1000\n[[queue]]\nname = \"q\"\n[[queue]]\nname = \"p\"\n[[actor]]\nname = \"x\"\nkind = \"scaler\"\nqueue = \"p\"\nevery_s = 60\nvisible_per_copy = 10\ncopies_max = 5\n[[actor]]\nname = \"c\"\nkind = \"consumer\"\nqueue = \"q\"\nservice_min_ms = 1\nservice_max_ms = 1\nscaler = \"x\"\n")
    ≡ refused (codes "refused 17 UnknownQueue at actor[1].scaler\n")
unfolding reading_on_literals running_on_literals columns_of
case_0_scaler_at_another_queue = refl

-- faults-3/scaler_in_version_two.toml
case_0_scaler_in_version_two : shown_upto 3 0 [] (codes "version = 2\nhorizon = 1000\n[[queue]]\nname = \"q\"\n[[queue]]\nname = \"p\"\n[[actor]]\nname = \"x\"\nkind = \"scaler\"\nqueue = \"q\"\nevery_s = 60\nvisible_per_copy = 10\ncopies_max = 5\n")
    ≡ refused (codes "refused 14 OutOfRange at actor[0].kind\n")
unfolding reading_on_literals running_on_literals columns_of
case_0_scaler_in_version_two = refl

-- faults-3/scaler_named_after_the_stop.toml
case_0_scaler_named_after_the_stop : shown_upto 3 0 [] (codes "version = 3\nhorizon = 1000\n[[queue]]\nname = \"q\"\n[[queue]]\nname = \"p\"\n[[actor]]\nname = \"c\"\nkind = \"consumer\"\nqueue = \"q\"\nservice_min_ms = 1\nservice_max_ms = 1\nstart_ms = 5\nstop_ms = 4\nscaler = \"y\"\n[[actor]]\nname = \"x\"\nkind = \"scaler\"\nqueue = \"q\"\nevery_s = 60\nvisible_per_copy = 10\ncopies_max = 5\n")
    ≡ refused (codes "refused 14 OutOfRange at actor[0].stop_ms\n")
unfolding reading_on_literals running_on_literals columns_of
case_0_scaler_named_after_the_stop = refl

-- faults-3/scaler_of_a_producer.toml
case_0_scaler_of_a_producer : shown_upto 3 0 [] (codes "version = 3\nhorizon = 1000\n[[queue]]\nname = \"q\"\n[[queue]]\nname = \"p\"\n[[actor]]\nname = \"x\"\nkind = \"scaler\"\nqueue = \"q\"\nevery_s = 60\nvisible_per_copy = 10\ncopies_max = 5\n[[actor]]\nname = \"p1\"\nkind = \"producer\"\nqueue = \"q\"\ncount = 1\ngap_min_ms = 1\ngap_max_ms = 1\nbody = \"b\"\nscaler = \"x\"\n")
    ≡ refused (codes "refused 11 UnknownKey at actor[1].scaler\n")
unfolding reading_on_literals running_on_literals columns_of
case_0_scaler_of_a_producer = refl

-- faults-3/scaler_that_is_a_producer.toml
case_0_scaler_that_is_a_producer : shown_upto 3 0 [] (codes "version = 3\nhorizon = 1000\n[[queue]]\nname = \"q\"\n[[queue]]\nname = \"p\"\n[[actor]]\nname = \"c\"\nkind = \"consumer\"\nqueue = \"q\"\nservice_min_ms = 1\nservice_max_ms = 1\nscaler = \"x\"\nfails_on = \"\"\n[[actor]]\nname = \"x\"\nkind = \"producer\"\nqueue = \"q\"\ncount = 1\ngap_min_ms = 1\ngap_max_ms = 1\nbody = \"b\"\n")
    ≡ refused (codes "refused 17 UnknownQueue at actor[0].scaler\n")
unfolding reading_on_literals running_on_literals columns_of
case_0_scaler_that_is_a_producer = refl

-- faults-3/scaler_that_is_no_text.toml
case_0_scaler_that_is_no_text : shown_upto 3 0 [] (codes "version = 3\nhorizon = 1000\n[[queue]]\nname = \"q\"\n[[queue]]\nname = \"p\"\n[[actor]]\nname = \"x\"\nkind = \"scaler\"\nqueue = \"q\"\nevery_s = 60\nvisible_per_copy = 10\ncopies_max = 5\n[[actor]]\nname = \"c\"\nkind = \"consumer\"\nqueue = \"q\"\nservice_min_ms = 1\nservice_max_ms = 1\nscaler = 1\nscaler_start_ms = -1\n")
    ≡ refused (codes "refused 13 WrongType at actor[1].scaler\n")
unfolding reading_on_literals running_on_literals columns_of
case_0_scaler_that_is_no_text = refl

-- faults-3/scaler_that_reads_as_late_as_it_reads_again.toml
case_0_scaler_that_reads_as_late_as_it_reads_again : shown_upto 3 0 [] (codes "version = 3\nhorizon = 1000\n[[queue]]\nname = \"q\"\n[[queue]]\nname = \"p\"\n[[actor]]\nname = \"x\"\nkind = \"scaler\"\nqueue = \"q\"\nreading_s = 60\nevery_s = 60\nvisible_per_copy = 10\ncopies_max = 5\n")
    ≡ refused (codes "refused 14 OutOfRange at actor[0].reading_s\n")
unfolding reading_on_literals running_on_literals columns_of
case_0_scaler_that_reads_as_late_as_it_reads_again = refl

-- faults-3/scaler_whose_greatest_number_is_below_the_least.toml
case_0_scaler_whose_greatest_number_is_below_the_least : shown_upto 3 0 [] (codes "version = 3\nhorizon = 1000\n[[queue]]\nname = \"q\"\n[[queue]]\nname = \"p\"\n[[actor]]\nname = \"x\"\nkind = \"scaler\"\nqueue = \"q\"\nevery_s = 60\nvisible_per_copy = 10\ncopies_max = 5\ncopies_min = 6\n")
    ≡ refused (codes "refused 14 OutOfRange at actor[0].copies_max\n")
unfolding reading_on_literals running_on_literals columns_of
case_0_scaler_whose_greatest_number_is_below_the_least = refl

-- faults-3/scaler_with_copies.toml
case_0_scaler_with_copies : shown_upto 3 0 [] (codes "version = 3\nhorizon = 1000\n[[queue]]\nname = \"q\"\n[[queue]]\nname = \"p\"\n[[actor]]\nname = \"x\"\nkind = \"scaler\"\nqueue = \"q\"\nevery_s = 60\nvisible_per_copy = 10\ncopies_max = 5\ncopies = 2\nevery = 5\n")
    ≡ refused (codes "refused 11 UnknownKey at actor[0].copies\n")
unfolding reading_on_literals running_on_literals columns_of
case_0_scaler_with_copies = refl

-- faults-3/scaler_without_its_greatest_number.toml
case_0_scaler_without_its_greatest_number : shown_upto 3 0 [] (codes "version = 3\nhorizon = 1000\n[[queue]]\nname = \"q\"\n[[queue]]\nname = \"p\"\n[[actor]]\nname = \"x\"\nkind = \"scaler\"\nqueue = \"q\"\nevery_s = 60\nvisible_per_copy = 10\ntaken_max = 0\n")
    ≡ refused (codes "refused 12 MissingKey at actor[0].copies_max\n")
unfolding reading_on_literals running_on_literals columns_of
case_0_scaler_without_its_greatest_number = refl

-- faults-3/scaler_without_steps_or_a_number.toml
case_0_scaler_without_steps_or_a_number : shown_upto 3 0 [] (codes "version = 3\nhorizon = 1000\n[[queue]]\nname = \"q\"\n[[queue]]\nname = \"p\"\n[[actor]]\nname = \"x\"\nkind = \"scaler\"\nqueue = \"q\"\nevery_s = 60\ncopies_max = 5\n")
    ≡ refused (codes "refused 12 MissingKey at actor[0].visible_per_copy\n")
unfolding reading_on_literals running_on_literals columns_of
case_0_scaler_without_steps_or_a_number = refl

-- faults-3/start_of_a_copy_over_a_day.toml
case_0_start_of_a_copy_over_a_day : shown_upto 3 0 [] (codes "version = 3\nhorizon = 1000\n[[queue]]\nname = \"q\"\n[[queue]]\nname = \"p\"\n[[actor]]\nname = \"c\"\nkind = \"consumer\"\nqueue = \"q\"\nservice_min_ms = 1\nservice_max_ms = 1\ncopies = 0\nscaler = \"x\"\nscaler_start_ms = 86400001\n[[actor]]\nname = \"x\"\nkind = \"scaler\"\nqueue = \"q\"\nevery_s = 60\nvisible_per_copy = 10\ncopies_max = 5\n")
    ≡ refused (codes "refused 14 OutOfRange at actor[0].scaler_start_ms\n")
unfolding reading_on_literals running_on_literals columns_of
case_0_start_of_a_copy_over_a_day = refl

-- faults-3/start_of_a_copy_without_a_scaler.toml
case_0_start_of_a_copy_without_a_scaler : shown_upto 3 0 [] (codes "version = 3\nhorizon = 1000\n[[queue]]\nname = \"q\"\n[[queue]]\nname = \"p\"\n[[actor]]\nname = \"x\"\nkind = \"scaler\"\nqueue = \"q\"\nevery_s = 60\nvisible_per_copy = 10\ncopies_max = 5\n[[actor]]\nname = \"c\"\nkind = \"consumer\"\nqueue = \"q\"\nservice_min_ms = 1\nservice_max_ms = 1\ncopies = 2\nscaler_start_ms = 5\n")
    ≡ refused (codes "refused 11 UnknownKey at actor[1].scaler_start_ms\n")
unfolding reading_on_literals running_on_literals columns_of
case_0_start_of_a_copy_without_a_scaler = refl

-- faults-3/step_below_zero.toml
case_0_step_below_zero : shown_upto 3 0 [] (codes "version = 3\nhorizon = 1000\n[[queue]]\nname = \"q\"\n[[queue]]\nname = \"p\"\n[[actor]]\nname = \"x\"\nkind = \"scaler\"\nqueue = \"q\"\nevery_s = 60\nsteps = [[-1, 1]]\ncopies_max = 5\n")
    ≡ refused (codes "refused 14 OutOfRange at actor[0].steps[0]\n")
unfolding reading_on_literals running_on_literals columns_of
case_0_step_below_zero = refl

-- faults-3/step_of_1001_copies.toml
case_0_step_of_1001_copies : shown_upto 3 0 [] (codes "version = 3\nhorizon = 1000\n[[queue]]\nname = \"q\"\n[[queue]]\nname = \"p\"\n[[actor]]\nname = \"x\"\nkind = \"scaler\"\nqueue = \"q\"\nevery_s = 60\nsteps = [[1, 1000], [2, 1001]]\ncopies_max = 5\n")
    ≡ refused (codes "refused 14 OutOfRange at actor[0].steps[1]\n")
unfolding reading_on_literals running_on_literals columns_of
case_0_step_of_1001_copies = refl

-- faults-3/step_of_a_text_for_copies.toml
case_0_step_of_a_text_for_copies : shown_upto 3 0 [] (codes "version = 3\nhorizon = 1000\n[[queue]]\nname = \"q\"\n[[queue]]\nname = \"p\"\n[[actor]]\nname = \"x\"\nkind = \"scaler\"\nqueue = \"q\"\nevery_s = 60\nsteps = [[1, \"1\"]]\ncopies_max = 5\n")
    ≡ refused (codes "refused 13 WrongType at actor[0].steps[0]\n")
unfolding reading_on_literals running_on_literals columns_of
case_0_step_of_a_text_for_copies = refl

-- faults-3/step_of_fewer_than_no_copies.toml
case_0_step_of_fewer_than_no_copies : shown_upto 3 0 [] (codes "version = 3\nhorizon = 1000\n[[queue]]\nname = \"q\"\n[[queue]]\nname = \"p\"\n[[actor]]\nname = \"x\"\nkind = \"scaler\"\nqueue = \"q\"\nevery_s = 60\nsteps = [[1, -1]]\ncopies_max = 5\n")
    ≡ refused (codes "refused 14 OutOfRange at actor[0].steps[0]\n")
unfolding reading_on_literals running_on_literals columns_of
case_0_step_of_fewer_than_no_copies = refl

-- faults-3/step_of_no_whole_number.toml
case_0_step_of_no_whole_number : shown_upto 3 0 [] (codes "version = 3\nhorizon = 1000\n[[queue]]\nname = \"q\"\n[[queue]]\nname = \"p\"\n[[actor]]\nname = \"x\"\nkind = \"scaler\"\nqueue = \"q\"\nevery_s = 60\nsteps = [[1.5, 1]]\ncopies_max = 5\n")
    ≡ refused (codes "refused 13 WrongType at actor[0].steps[0]\n")
unfolding reading_on_literals running_on_literals columns_of
case_0_step_of_no_whole_number = refl

-- faults-3/step_of_one_number.toml
case_0_step_of_one_number : shown_upto 3 0 [] (codes "version = 3\nhorizon = 1000\n[[queue]]\nname = \"q\"\n[[queue]]\nname = \"p\"\n[[actor]]\nname = \"x\"\nkind = \"scaler\"\nqueue = \"q\"\nevery_s = 60\nsteps = [[1, 1], [2]]\ncopies_max = 5\n")
    ≡ refused (codes "refused 14 OutOfRange at actor[0].steps[1]\n")
unfolding reading_on_literals running_on_literals columns_of
case_0_step_of_one_number = refl

-- faults-3/step_of_three_numbers.toml
case_0_step_of_three_numbers : shown_upto 3 0 [] (codes "version = 3\nhorizon = 1000\n[[queue]]\nname = \"q\"\n[[queue]]\nname = \"p\"\n[[actor]]\nname = \"x\"\nkind = \"scaler\"\nqueue = \"q\"\nevery_s = 60\nsteps = [[1, 1, 1]]\ncopies_max = 5\n")
    ≡ refused (codes "refused 14 OutOfRange at actor[0].steps[0]\n")
unfolding reading_on_literals running_on_literals columns_of
case_0_step_of_three_numbers = refl

-- faults-3/step_over_a_million.toml
case_0_step_over_a_million : shown_upto 3 0 [] (codes "version = 3\nhorizon = 1000\n[[queue]]\nname = \"q\"\n[[queue]]\nname = \"p\"\n[[actor]]\nname = \"x\"\nkind = \"scaler\"\nqueue = \"q\"\nevery_s = 60\nsteps = [[1000000, 1], [1000001, 2]]\ncopies_max = 5\n")
    ≡ refused (codes "refused 14 OutOfRange at actor[0].steps[1]\n")
unfolding reading_on_literals running_on_literals columns_of
case_0_step_over_a_million = refl

-- faults-3/step_that_is_no_list.toml
case_0_step_that_is_no_list : shown_upto 3 0 [] (codes "version = 3\nhorizon = 1000\n[[queue]]\nname = \"q\"\n[[queue]]\nname = \"p\"\n[[actor]]\nname = \"x\"\nkind = \"scaler\"\nqueue = \"q\"\nevery_s = 60\nsteps = [[1, 1], 2]\ncopies_max = 5\n")
    ≡ refused (codes "refused 13 WrongType at actor[0].steps[1]\n")
unfolding reading_on_literals running_on_literals columns_of
case_0_step_that_is_no_list = refl

-- faults-3/steps_after_the_reading.toml
case_0_steps_after_the_reading : shown_upto 3 0 [] (codes "version = 3\nhorizon = 1000\n[[queue]]\nname = \"q\"\n[[queue]]\nname = \"p\"\n[[actor]]\nname = \"x\"\nkind = \"scaler\"\nqueue = \"q\"\nevery_s = 60\nreading_s = 60\nsteps = []\ncopies_max = 5\n")
    ≡ refused (codes "refused 14 OutOfRange at actor[0].reading_s\n")
unfolding reading_on_literals running_on_literals columns_of
case_0_steps_after_the_reading = refl

-- faults-3/steps_before_the_fewest_copies.toml
case_0_steps_before_the_fewest_copies : shown_upto 3 0 [] (codes "version = 3\nhorizon = 1000\n[[queue]]\nname = \"q\"\n[[queue]]\nname = \"p\"\n[[actor]]\nname = \"x\"\nkind = \"scaler\"\nqueue = \"q\"\nevery_s = 60\nsteps = [[2, 1001]]\ncopies_min = 1001\n")
    ≡ refused (codes "refused 14 OutOfRange at actor[0].steps[0]\n")
unfolding reading_on_literals running_on_literals columns_of
case_0_steps_before_the_fewest_copies = refl

-- faults-3/steps_beside_one_number.toml
case_0_steps_beside_one_number : shown_upto 3 0 [] (codes "version = 3\nhorizon = 1000\n[[queue]]\nname = \"q\"\n[[queue]]\nname = \"p\"\n[[actor]]\nname = \"x\"\nkind = \"scaler\"\nqueue = \"q\"\nevery_s = 60\nsteps = []\nvisible_per_copy = 10\ncopies_max = 5\n")
    ≡ refused (codes "refused 11 UnknownKey at actor[0].visible_per_copy\n")
unfolding reading_on_literals running_on_literals columns_of
case_0_steps_beside_one_number = refl

-- faults-3/steps_of_33.toml
case_0_steps_of_33 : shown_upto 3 0 [] (codes "version = 3\nhorizon = 1000\n[[queue]]\nname = \"q\"\n[[queue]]\nname = \"p\"\n[[actor]]\nname = \"x\"\nkind = \"scaler\"\nqueue = \"q\"\nevery_s = 60\nsteps = [[0, 0], [1, 1], [2, 2], [3, 3], [4, 4], [5, 5], [6, 6], [7, 7], [8, 8], [9, 9], [10, 10], [11, 11], [12, 12], [13, 13], [14, 14], [15, 15], [16, 16], [17, 17], [18, 18], [19, 19], [20, 20], [21, 21], [22, 22], [23, 23], [24, 24], [25, 25], [26, 26], [27, 27], [28, 28], [29, 29], [30, 30], [31, 31], [32, 32]]\ncopies_max = 5\n")
    ≡ refused (codes "refused 19 TooMany at actor[0].steps\n")
unfolding reading_on_literals running_on_literals columns_of
case_0_steps_of_33 = refl

-- faults-3/steps_of_a_consumer.toml
case_0_steps_of_a_consumer : shown_upto 3 0 [] (codes "version = 3\nhorizon = 1000\n[[queue]]\nname = \"q\"\n[[queue]]\nname = \"f.fifo\"\n[[actor]]\nname = \"c\"\nkind = \"consumer\"\nqueue = \"q\"\nservice_min_ms = 1\nservice_max_ms = 1\nsteps = [[1, 1]]\n")
    ≡ refused (codes "refused 11 UnknownKey at actor[0].steps\n")
unfolding reading_on_literals running_on_literals columns_of
case_0_steps_of_a_consumer = refl

-- faults-3/steps_of_equal_numbers.toml
case_0_steps_of_equal_numbers : shown_upto 3 0 [] (codes "version = 3\nhorizon = 1000\n[[queue]]\nname = \"q\"\n[[queue]]\nname = \"p\"\n[[actor]]\nname = \"x\"\nkind = \"scaler\"\nqueue = \"q\"\nevery_s = 60\nsteps = [[0, 0], [5, 1], [5, \"2\"]]\ncopies_max = 5\n")
    ≡ refused (codes "refused 14 OutOfRange at actor[0].steps[2]\n")
unfolding reading_on_literals running_on_literals columns_of
case_0_steps_of_equal_numbers = refl

-- faults-3/steps_that_are_no_list.toml
case_0_steps_that_are_no_list : shown_upto 3 0 [] (codes "version = 3\nhorizon = 1000\n[[queue]]\nname = \"q\"\n[[queue]]\nname = \"p\"\n[[actor]]\nname = \"x\"\nkind = \"scaler\"\nqueue = \"q\"\nevery_s = 60\nsteps = 10\ncopies_max = 5\n")
    ≡ refused (codes "refused 13 WrongType at actor[0].steps\n")
unfolding reading_on_literals running_on_literals columns_of
case_0_steps_that_are_no_list = refl

-- faults-3/steps_that_are_none.toml
case_0_steps_that_are_none : shown_upto 3 0 [] (codes "version = 3\nhorizon = 1000\n[[queue]]\nname = \"q\"\n[[queue]]\nname = \"p\"\n[[actor]]\nname = \"x\"\nkind = \"scaler\"\nqueue = \"q\"\nevery_s = 60\nsteps = []\ncopies_max = 5\n")
    ≡ refused (codes "refused 14 OutOfRange at actor[0].steps\n")
unfolding reading_on_literals running_on_literals columns_of
case_0_steps_that_are_none = refl

-- faults-3/steps_that_descend.toml
case_0_steps_that_descend : shown_upto 3 0 [] (codes "version = 3\nhorizon = 1000\n[[queue]]\nname = \"q\"\n[[queue]]\nname = \"p\"\n[[actor]]\nname = \"x\"\nkind = \"scaler\"\nqueue = \"q\"\nevery_s = 60\nsteps = [[5, 1], [4, 2]]\ncopies_max = 5\n")
    ≡ refused (codes "refused 14 OutOfRange at actor[0].steps[1]\n")
unfolding reading_on_literals running_on_literals columns_of
case_0_steps_that_descend = refl

-- faults-3/stop_after_the_other_keys.toml
case_0_stop_after_the_other_keys : shown_upto 3 0 [] (codes "version = 3\nhorizon = 1000\n[[queue]]\nname = \"q\"\n[[queue]]\nname = \"f.fifo\"\n[[actor]]\nname = \"c\"\nkind = \"consumer\"\nqueue = \"q\"\nservice_min_ms = 1\nservice_max_ms = 1\nidle_ms = 0\nstop_ms = -1\n")
    ≡ refused (codes "refused 14 OutOfRange at actor[0].idle_ms\n")
unfolding reading_on_literals running_on_literals columns_of
case_0_stop_after_the_other_keys = refl

-- faults-3/stop_before_the_start.toml
case_0_stop_before_the_start : shown_upto 3 0 [] (codes "version = 3\nhorizon = 1000\n[[queue]]\nname = \"q\"\n[[queue]]\nname = \"f.fifo\"\n[[actor]]\nname = \"c\"\nkind = \"consumer\"\nqueue = \"q\"\nservice_min_ms = 1\nservice_max_ms = 1\nstart_ms = 5\nstop_ms = 4\n")
    ≡ refused (codes "refused 14 OutOfRange at actor[0].stop_ms\n")
unfolding reading_on_literals running_on_literals columns_of
case_0_stop_before_the_start = refl

-- faults-3/stop_in_version_two.toml
case_0_stop_in_version_two : shown_upto 3 0 [] (codes "version = 2\nhorizon = 1000\n[[queue]]\nname = \"q\"\n[[queue]]\nname = \"f.fifo\"\n[[actor]]\nname = \"p\"\nkind = \"producer\"\nqueue = \"q\"\ncount = 1\nbody = \"m\"\ngap_min_ms = 1\ngap_max_ms = 1\nstop_ms = 9\n")
    ≡ refused (codes "refused 11 UnknownKey at actor[0].stop_ms\n")
unfolding reading_on_literals running_on_literals columns_of
case_0_stop_in_version_two = refl

-- faults-3/stop_of_a_producer_before_its_start.toml
case_0_stop_of_a_producer_before_its_start : shown_upto 3 0 [] (codes "version = 3\nhorizon = 1000\n[[queue]]\nname = \"q\"\n[[queue]]\nname = \"f.fifo\"\n[[actor]]\nname = \"p\"\nkind = \"producer\"\nqueue = \"q\"\ncount = 1\nbody = \"m\"\ngap_min_ms = 1\ngap_max_ms = 1\nstart_ms = 2\nstop_ms = 1\n")
    ≡ refused (codes "refused 14 OutOfRange at actor[0].stop_ms\n")
unfolding reading_on_literals running_on_literals columns_of
case_0_stop_of_a_producer_before_its_start = refl

-- faults-3/text_for_a_backoff.toml
case_0_text_for_a_backoff : shown_upto 3 0 [] (codes "version = 3\nhorizon = 1000\n[[queue]]\nname = \"q\"\n[[queue]]\nname = \"f.fifo\"\n[[actor]]\nname = \"c\"\nkind = \"consumer\"\nqueue = \"q\"\nservice_min_ms = 1\nservice_max_ms = 1\nbackoff_s = [\"5\", -1]\n")
    ≡ refused (codes "refused 13 WrongType at actor[0].backoff_s[0]\n")
unfolding reading_on_literals running_on_literals columns_of
case_0_text_for_a_backoff = refl

-- faults-3/text_for_a_chance_of_outages.toml
case_0_text_for_a_chance_of_outages : shown_upto 3 0 [] (codes "version = 3\nhorizon = 1000\n[[queue]]\nname = \"q\"\n[[queue]]\nname = \"f.fifo\"\n[[actor]]\nname = \"c\"\nkind = \"consumer\"\nqueue = \"q\"\nservice_min_ms = 1\nservice_max_ms = 1\nfails_between_ms = [[0, 1000], [5000, 6000]]\nfails_permille = [\"500\", 1001]\n")
    ≡ refused (codes "refused 13 WrongType at actor[0].fails_permille[0]\n")
unfolding reading_on_literals running_on_literals columns_of
case_0_text_for_a_chance_of_outages = refl

-- faults-3/text_for_a_permille.toml
case_0_text_for_a_permille : shown_upto 3 0 [] (codes "version = 3\nhorizon = 1000\n[[queue]]\nname = \"q\"\n[[queue]]\nname = \"f.fifo\"\n[[actor]]\nname = \"c\"\nkind = \"consumer\"\nqueue = \"q\"\nservice = [[\"0\", 1], [1000, 1]]\n")
    ≡ refused (codes "refused 13 WrongType at actor[0].service[0]\n")
unfolding reading_on_literals running_on_literals columns_of
case_0_text_for_a_permille = refl

-- faults-3/text_for_copies.toml
case_0_text_for_copies : shown_upto 3 0 [] (codes "version = 3\nhorizon = 1000\n[[queue]]\nname = \"q\"\n[[queue]]\nname = \"f.fifo\"\n[[actor]]\nname = \"c\"\nkind = \"consumer\"\nqueue = \"q\"\nservice_min_ms = 1\nservice_max_ms = 1\ncopies = \"2\"\n")
    ≡ refused (codes "refused 13 WrongType at actor[0].copies\n")
unfolding reading_on_literals running_on_literals columns_of
case_0_text_for_copies = refl

-- faults-3/text_for_the_begin_of_an_outage.toml
case_0_text_for_the_begin_of_an_outage : shown_upto 3 0 [] (codes "version = 3\nhorizon = 1000\n[[queue]]\nname = \"q\"\n[[queue]]\nname = \"f.fifo\"\n[[actor]]\nname = \"c\"\nkind = \"consumer\"\nqueue = \"q\"\nservice_min_ms = 1\nservice_max_ms = 1\nfails_from_ms = \"5\"\nfails_to_ms = -1\n")
    ≡ refused (codes "refused 13 WrongType at actor[0].fails_from_ms\n")
unfolding reading_on_literals running_on_literals columns_of
case_0_text_for_the_begin_of_an_outage = refl

-- faults-3/text_for_weights.toml
case_0_text_for_weights : shown_upto 3 0 [] (codes "version = 3\nhorizon = 1000\n[[queue]]\nname = \"q\"\n[[queue]]\nname = \"f.fifo\"\n[[actor]]\nname = \"p\"\nkind = \"producer\"\nqueue = \"f.fifo\"\ncount = 1\nbody = \"m\"\ngap_min_ms = 1\ngap_max_ms = 1\nkey_groups = \"g\"\n")
    ≡ refused (codes "refused 13 WrongType at actor[0].key_groups\n")
unfolding reading_on_literals running_on_literals columns_of
case_0_text_for_weights = refl

-- faults-3/thirteen_backoffs.toml
case_0_thirteen_backoffs : shown_upto 3 0 [] (codes "version = 3\nhorizon = 1000\n[[queue]]\nname = \"q\"\n[[queue]]\nname = \"f.fifo\"\n[[actor]]\nname = \"c\"\nkind = \"consumer\"\nqueue = \"q\"\nservice_min_ms = 1\nservice_max_ms = 1\nbackoff_s = [-1, -1, -1, -1, -1, -1, -1, -1, -1, -1, -1, -1, -1]\n")
    ≡ refused (codes "refused 19 TooMany at actor[0].backoff_s\n")
unfolding reading_on_literals running_on_literals columns_of
case_0_thirteen_backoffs = refl

-- faults-3/thirty_three_quantiles.toml
case_0_thirty_three_quantiles : shown_upto 3 0 [] (codes "version = 3\nhorizon = 1000\n[[queue]]\nname = \"q\"\n[[queue]]\nname = \"f.fifo\"\n[[actor]]\nname = \"c\"\nkind = \"consumer\"\nqueue = \"q\"\nservice = [[0, 1], [1, 1], [2, 1], [3, 1], [4, 1], [5, 1], [6, 1], [7, 1], [8, 1], [9, 1], [10, 1], [11, 1], [12, 1], [13, 1], [14, 1], [15, 1], [16, 1], [17, 1], [18, 1], [19, 1], [20, 1], [21, 1], [22, 1], [23, 1], [24, 1], [25, 1], [26, 1], [27, 1], [28, 1], [29, 1], [30, 1], [31, 1], [1000, 1]]\n")
    ≡ refused (codes "refused 19 TooMany at actor[0].service\n")
unfolding reading_on_literals running_on_literals columns_of
case_0_thirty_three_quantiles = refl

-- faults-3/thousand_before_the_last_permille.toml
case_0_thousand_before_the_last_permille : shown_upto 3 0 [] (codes "version = 3\nhorizon = 1000\n[[queue]]\nname = \"q\"\n[[queue]]\nname = \"f.fifo\"\n[[actor]]\nname = \"c\"\nkind = \"consumer\"\nqueue = \"q\"\nservice = [[0, 1], [1000, 1], [1000, 2]]\n")
    ≡ refused (codes "refused 14 OutOfRange at actor[0].service[1]\n")
unfolding reading_on_literals running_on_literals columns_of
case_0_thousand_before_the_last_permille = refl

-- faults-3/time_of_each_before_the_chance.toml
case_0_time_of_each_before_the_chance : shown_upto 3 0 [] (codes "version = 3\nhorizon = 1000\n[[queue]]\nname = \"q\"\n[[queue]]\nname = \"f.fifo\"\n[[actor]]\nname = \"c\"\nkind = \"consumer\"\nqueue = \"q\"\nservice_min_ms = 1\nservice_max_ms = 1\nfail_permille = 1001\nbatch_service = \"once\"\nservice_each_ms = -1\n")
    ≡ refused (codes "refused 14 OutOfRange at actor[0].service_each_ms\n")
unfolding reading_on_literals running_on_literals columns_of
case_0_time_of_each_before_the_chance = refl

-- faults-3/time_of_each_over_a_day.toml
case_0_time_of_each_over_a_day : shown_upto 3 0 [] (codes "version = 3\nhorizon = 1000\n[[queue]]\nname = \"q\"\n[[queue]]\nname = \"f.fifo\"\n[[actor]]\nname = \"c\"\nkind = \"consumer\"\nqueue = \"q\"\nservice_min_ms = 1\nservice_max_ms = 1\nbatch_service = \"once\"\nservice_each_ms = 86400001\n")
    ≡ refused (codes "refused 14 OutOfRange at actor[0].service_each_ms\n")
unfolding reading_on_literals running_on_literals columns_of
case_0_time_of_each_over_a_day = refl

-- faults-3/time_of_each_without_a_batch_service.toml
case_0_time_of_each_without_a_batch_service : shown_upto 3 0 [] (codes "version = 3\nhorizon = 1000\n[[queue]]\nname = \"q\"\n[[queue]]\nname = \"f.fifo\"\n[[actor]]\nname = \"c\"\nkind = \"consumer\"\nqueue = \"q\"\nservice_min_ms = 1\nservice_max_ms = 1\nservice_each_ms = 1\n")
    ≡ refused (codes "refused 11 UnknownKey at actor[0].service_each_ms\n")
unfolding reading_on_literals running_on_literals columns_of
case_0_time_of_each_without_a_batch_service = refl

-- faults-3/time_of_zero.toml
case_0_time_of_zero : shown_upto 3 0 [] (codes "version = 3\nhorizon = 1000\n[[queue]]\nname = \"q\"\n[[queue]]\nname = \"f.fifo\"\n[[actor]]\nname = \"c\"\nkind = \"consumer\"\nqueue = \"q\"\nservice = [[0, 0], [1000, 1]]\n")
    ≡ refused (codes "refused 14 OutOfRange at actor[0].service[0]\n")
unfolding reading_on_literals running_on_literals columns_of
case_0_time_of_zero = refl

-- faults-3/time_over_a_day.toml
case_0_time_over_a_day : shown_upto 3 0 [] (codes "version = 3\nhorizon = 1000\n[[queue]]\nname = \"q\"\n[[queue]]\nname = \"f.fifo\"\n[[actor]]\nname = \"c\"\nkind = \"consumer\"\nqueue = \"q\"\nservice = [[0, 1], [1000, 86400001]]\n")
    ≡ refused (codes "refused 14 OutOfRange at actor[0].service[1]\n")
unfolding reading_on_literals running_on_literals columns_of
case_0_time_over_a_day = refl

-- faults-3/times_that_fall.toml
case_0_times_that_fall : shown_upto 3 0 [] (codes "version = 3\nhorizon = 1000\n[[queue]]\nname = \"q\"\n[[queue]]\nname = \"f.fifo\"\n[[actor]]\nname = \"p\"\nkind = \"producer\"\nqueue = \"q\"\ncount = 1\nbody = \"m\"\ngap = [[0, 2], [1000, 1]]\n")
    ≡ refused (codes "refused 14 OutOfRange at actor[0].gap[1]\n")
unfolding reading_on_literals running_on_literals columns_of
case_0_times_that_fall = refl

-- faults-3/truth_for_batch_fails.toml
case_0_truth_for_batch_fails : shown_upto 3 0 [] (codes "version = 3\nhorizon = 1000\n[[queue]]\nname = \"q\"\n[[queue]]\nname = \"f.fifo\"\n[[actor]]\nname = \"c\"\nkind = \"consumer\"\nqueue = \"q\"\nservice_min_ms = 1\nservice_max_ms = 1\nbatch_fails = true\n")
    ≡ refused (codes "refused 13 WrongType at actor[0].batch_fails\n")
unfolding reading_on_literals running_on_literals columns_of
case_0_truth_for_batch_fails = refl

-- faults-3/weight_of_zero.toml
case_0_weight_of_zero : shown_upto 3 0 [] (codes "version = 3\nhorizon = 1000\n[[queue]]\nname = \"q\"\n[[queue]]\nname = \"f.fifo\"\n[[actor]]\nname = \"p\"\nkind = \"producer\"\nqueue = \"f.fifo\"\ncount = 1\nbody = \"m\"\ngap_min_ms = 1\ngap_max_ms = 1\nkey_groups = [[\"g\", 0]]\n")
    ≡ refused (codes "refused 14 OutOfRange at actor[0].key_groups[0]\n")
unfolding reading_on_literals running_on_literals columns_of
case_0_weight_of_zero = refl

-- faults-3/weight_over_a_million.toml
case_0_weight_over_a_million : shown_upto 3 0 [] (codes "version = 3\nhorizon = 1000\n[[queue]]\nname = \"q\"\n[[queue]]\nname = \"f.fifo\"\n[[actor]]\nname = \"p\"\nkind = \"producer\"\nqueue = \"f.fifo\"\ncount = 1\nbody = \"m\"\ngap_min_ms = 1\ngap_max_ms = 1\nkey_groups = [[\"g\", 1000001]]\n")
    ≡ refused (codes "refused 14 OutOfRange at actor[0].key_groups[0]\n")
unfolding reading_on_literals running_on_literals columns_of
case_0_weight_over_a_million = refl

-- faults-3/weights_at_a_standard_queue.toml
case_0_weights_at_a_standard_queue : shown_upto 3 0 [] (codes "version = 3\nhorizon = 1000\n[[queue]]\nname = \"q\"\n[[queue]]\nname = \"f.fifo\"\n[[actor]]\nname = \"p\"\nkind = \"producer\"\nqueue = \"q\"\ncount = 1\nbody = \"m\"\ngap_min_ms = 1\ngap_max_ms = 1\nkey_groups = [[\"g\", 1]]\n")
    ≡ refused (codes "refused 11 UnknownKey at actor[0].key_groups\n")
unfolding reading_on_literals running_on_literals columns_of
case_0_weights_at_a_standard_queue = refl

-- faults-3/weights_before_ids.toml
case_0_weights_before_ids : shown_upto 3 0 [] (codes "version = 3\nhorizon = 1000\n[[queue]]\nname = \"q\"\n[[queue]]\nname = \"f.fifo\"\n[[actor]]\nname = \"p\"\nkind = \"producer\"\nqueue = \"f.fifo\"\ncount = 1\nbody = \"m\"\ngap_min_ms = 1\ngap_max_ms = 1\nkey_groups = [[\"g\", 1]]\nids = 1\nstop_ms = -1\n")
    ≡ refused (codes "refused 13 WrongType at actor[0].ids\n")
unfolding reading_on_literals running_on_literals columns_of
case_0_weights_before_ids = refl

-- faults-3/weights_in_version_two.toml
case_0_weights_in_version_two : shown_upto 3 0 [] (codes "version = 2\nhorizon = 1000\n[[queue]]\nname = \"q\"\n[[queue]]\nname = \"f.fifo\"\n[[actor]]\nname = \"p\"\nkind = \"producer\"\nqueue = \"f.fifo\"\ncount = 1\nbody = \"m\"\ngap_min_ms = 1\ngap_max_ms = 1\nkey_groups = [[\"g\", 1]]\n")
    ≡ refused (codes "refused 11 UnknownKey at actor[0].key_groups\n")
unfolding reading_on_literals running_on_literals columns_of
case_0_weights_in_version_two = refl

-- faults-3/weights_of_101_groups.toml
case_0_weights_of_101_groups : shown_upto 3 0 [] (codes "version = 3\nhorizon = 1000\n[[queue]]\nname = \"q\"\n[[queue]]\nname = \"f.fifo\"\n[[actor]]\nname = \"p\"\nkind = \"producer\"\nqueue = \"f.fifo\"\ncount = 1\nbody = \"m\"\ngap_min_ms = 1\ngap_max_ms = 1\nkey_groups = [[\"g\", 1], [\"g\", 1], [\"g\", 1], [\"g\", 1], [\"g\", 1], [\"g\", 1], [\"g\", 1], [\"g\", 1], [\"g\", 1], [\"g\", 1], [\"g\", 1], [\"g\", 1], [\"g\", 1], [\"g\", 1], [\"g\", 1], [\"g\", 1], [\"g\", 1], [\"g\", 1], [\"g\", 1], [\"g\", 1], [\"g\", 1], [\"g\", 1], [\"g\", 1], [\"g\", 1], [\"g\", 1], [\"g\", 1], [\"g\", 1], [\"g\", 1], [\"g\", 1], [\"g\", 1], [\"g\", 1], [\"g\", 1], [\"g\", 1], [\"g\", 1], [\"g\", 1], [\"g\", 1], [\"g\", 1], [\"g\", 1], [\"g\", 1], [\"g\", 1], [\"g\", 1], [\"g\", 1], [\"g\", 1], [\"g\", 1], [\"g\", 1], [\"g\", 1], [\"g\", 1], [\"g\", 1], [\"g\", 1], [\"g\", 1], [\"g\", 1], [\"g\", 1], [\"g\", 1], [\"g\", 1], [\"g\", 1], [\"g\", 1], [\"g\", 1], [\"g\", 1], [\"g\", 1], [\"g\", 1], [\"g\", 1], [\"g\", 1], [\"g\", 1], [\"g\", 1], [\"g\", 1], [\"g\", 1], [\"g\", 1], [\"g\", 1], [\"g\", 1], [\"g\", 1], [\"g\", 1], [\"g\", 1], [\"g\", 1], [\"g\", 1], [\"g\", 1], [\"g\", 1], [\"g\", 1], [\"g\", 1], [\"g\", 1], [\"g\", 1], [\"g\", 1], [\"g\", 1], [\"g\", 1], [\"g\", 1], [\"g\", 1], [\"g\", 1], [\"g\", 1], [\"g\", 1], [\"g\", 1], [\"g\", 1], [\"g\", 1], [\"g\", 1], [\"g\", 1], [\"g\", 1], [\"g\", 1], [\"g\", 1], [\"g\", 1], [\"g\", 1], [\"g\", 1], [\"g\", 1], [\"g\", 1]]\n")
    ≡ refused (codes "refused 19 TooMany at actor[0].key_groups\n")
unfolding reading_on_literals running_on_literals columns_of
case_0_weights_of_101_groups = refl
