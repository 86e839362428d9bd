-- The names of the model and of lists that many of these proofs speak of.
pub use Rattle.sim_clock.proofs.Lists.{absent_without, all_inserted}
pub use Rattle.sim_clock.specs.Firsts.{changed, kept_when, without}
pub use Rattle.sim_clock.specs.Order.{IsInOrder, due_before, key_cmp, least, lesser}
pub use Rattle.sim_clock.specs.declared.key.Class.TheVariants.{Arrival, Expiry, PollEnd, Release, Sample, Step, Wake}
pub use Rattle.sim_clock.specs.declared.key.Key.{Key}
pub use Rattle.sim_clock.specs.declared.refusal.Refusal.{Refusal}
pub use Rattle.sim_engine.specs.Laws.{Conditions, IsRowOf, IsSentBy, IsSoundSetting}
pub use Rattle.sim_engine.specs.declared.edge.Edge.{Edge}
pub use Rattle.sqs_message.specs.Ids.{fits, id_text, numbers_in, read_receipt, receipt_text}
pub use Rattle.sqs_message.specs.declared.calls.ScriptCall.{ScriptCall}
pub use Rattle.sqs_message.specs.declared.ids.MessageId.{MessageId}
pub use Rattle.sqs_message.specs.declared.ids.Receipt.{Receipt}
pub use Rattle.sqs_message.specs.declared.message.Message.{Message}
pub use Rattle.sqs_message.specs.declared.message.Place.{Place}
pub use Rattle.sqs_message.specs.declared.row.Row.{Row}
pub use Rattle.sqs_message.specs.declared.row.RowAnswer.{RowAnswer}
pub use Rattle.sqs_message.specs.declared.row.RowKind.{RowKind}
pub use Rattle.sqs_model.proofs.Branches.{by_cases, either, either_by}
pub use Rattle.sqs_model.proofs.CallWalk.{CallLaw, DueLaw, IsDone, IsNameless, IsTold, TellsOfNone, effect_of, handled_goes}
pub use Rattle.sqs_model.proofs.Chosen.{Stand, first_apart, first_stand}
pub use Rattle.sqs_model.proofs.Counts.{all_changed, all_without, ascends_changed, ascends_lower, ascends_push, ascends_without, changed_twice, find_all, find_changed, find_picked, total, total_append, total_changed, total_flat, total_map, total_push, total_same, total_without, without_changed}
pub use Rattle.sqs_model.proofs.EachDue.{of_site, release_key}
pub use Rattle.sqs_model.proofs.Instance.{sqs_laws, total_inserted}
pub use Rattle.sqs_model.proofs.Ledger.{bit}
pub use Rattle.sqs_model.proofs.Members.{In, all_each, all_in, found_by_number, in_append, in_found, in_left, in_right, into_filter, into_flat, into_map, of_all}
pub use Rattle.sqs_model.proofs.Numbered.{Apart, Climbs, all_above, each_is_numbered, one_number, other_without}
pub use Rattle.sqs_model.proofs.Opening.{ascends_enumerated, ascends_filter, ascends_map, wakes_first}
pub use Rattle.sqs_model.proofs.SiteAccounts.{IsDueThere, IsFound}
pub use Rattle.sqs_model.proofs.Sites.{IsFine, each_all, sound_setting, sound_simulated}
pub use Rattle.sqs_model.specs.Accounts.{is_deleted, is_expired, is_first, is_origin, origin_in, origin_told, same_id, tells}
pub use Rattle.sqs_model.specs.Actor.{Actor, Asked, Beat, Ended, Failed, Gathered, LastAct, Served, act_of, after_failure, begins_by, begins_next, changed_at, consumer_told, consumer_wake, copies_after, copies_by, copy_rests, copy_wake, ends_by, ends_service, ends_well, ends_whole, first_at, gathers_on, goes_on, got_more, group_of, has_come, has_failed, has_forwarded, has_nothing, id_given, is_gathered, is_gathering, is_parked, is_wanted, next, next_as, outcome, producer_sends, producer_sent, producer_wake, read_before, reads_or_scales, rest_after, rests, scales, script_wake, sent_one, served_all, serves, serves_on, service_of, serving, settles, wakes_after, wanted_for, woken}
pub use Rattle.sqs_model.specs.Acts.{act_made, all_came_back, came_back, change_answered, change_made, change_row, delete_done, delete_made, forward_made, forwards_made, given, got_row, receive_row, redrive_by, redrive_row, send_made, sends, serve_made, with_poll}
pub use Rattle.sqs_model.specs.Arrive.{arrived, brought, enqueued_at, expired, expired_found, forwarded, forwarded_group, is_too_old, sent_of, settled_when}
pub use Rattle.sqs_model.specs.Available.{all_available, all_hosts, available, available_at, firsts, has_host, is_open, open_from}
pub use Rattle.sqs_model.specs.Calls.{change, change_done, change_found, change_here, deduplication_id, delay_of, delete, delete_as, delete_fifo_here, delete_gone, delete_standard_here, in_flight_until, is_bad_delay, living, living_entries, may_be_given, new_message, removed, returned, scope_of, send_unless, send_with, with_entry, with_message}
pub use Rattle.sqs_model.specs.Draw.{Draws, drawn_latency, drawn_time, drawn_uniform}
pub use Rattle.sqs_model.specs.Dues.{actor_dues, core_dues, dues, expiry_key, least_due, message_dues, poll_key, queue_dues, release_due, sample_dues, task_dues}
pub use Rattle.sqs_model.specs.Finals.{final_load, final_message, final_transfer, finals_of, in_key_order, messages_at}
pub use Rattle.sqs_model.specs.Longest.{deduplication_interval, longest_flight, longest_timeout}
pub use Rattle.sqs_model.specs.Progress.{Ascends, IsSoundDistribution, IsSoundRole, IsSoundScenario, IsSoundSettings, WakesFor}
pub use Rattle.sqs_model.specs.Queue.{Entry, Queue, has_number, id_of, in_flight, is_delayed, is_in_flight, is_visible, numbered, room, same_group, same_text, taken_out, with_change, with_records}
pub use Rattle.sqs_model.specs.Receive.{give, give_most, got_of, received, timeout_of, to_give}
pub use Rattle.sqs_model.specs.Return.{leaves, redrive_of, released, released_found, released_when, visible_again}
pub use Rattle.sqs_model.specs.Run.{IsRunOf, Run, after, setting_of}
pub use Rattle.sqs_model.specs.Scenario.{Scenario, edges, first_wake, least_among, least_latency, least_of, numbered_actors, numbered_tasks, opening, opening_actor, opening_draws, opening_site, opening_task, sources}
pub use Rattle.sqs_model.specs.Site.{Core, Effect, Poll, Site, accepted, actor_numbered, and_then, has_key, is_actor, is_task, no_effect, number_of, says, task_numbered, with_actor, with_queue, with_task}
pub use Rattle.sqs_model.specs.Sqs.{sqs}
pub use Rattle.sqs_model.specs.Step.{Handled, Moved, arrival_done, arrival_row, end_row, ends_at, expiry_done, expiry_row, handle_expiry, handle_step, handle_taken, handled, handled_when, is_arrival, load_age, load_origin, move_out, move_row, moves, one_sent, release_done, step_done}
pub use Rattle.sqs_model.specs.Task.{Taken, Task, destination, take_each, take_movable, taken_one}
pub use Rattle.sqs_model.specs.Texts.{same_text_decides}
pub use Rattle.sqs_model.specs.Valid.{IsQueueSettings, MayBePolicy}
pub use Rattle.sqs_model.specs.World.{Stepped, delivered, delivered_one, due_by, handled_among, handled_here, handled_there, is_due, next_due, stepped_at, world_due}
pub use Rattle.sqs_model.specs.declared.acts.Act.{Act}
pub use Rattle.sqs_model.specs.declared.acts.Answer.{Answer}
pub use Rattle.sqs_model.specs.declared.acts.Standing.{Standing}
pub use Rattle.sqs_model.specs.declared.agents.ActorSettings.{ActorSettings}
pub use Rattle.sqs_model.specs.declared.agents.Role.{Role}
pub use Rattle.sqs_model.specs.declared.agents.Role.TheVariants.{Consumer, Producer, Scaler, Script}
pub use Rattle.sqs_redrive.specs.MoveTasks.{is_worn, task_stepped}
pub use Rattle.sqs_redrive.specs.Transfers.{transfer_key}
pub use Rattle.sqs_redrive.specs.declared.answers.Deleted.{Deleted}
pub use Rattle.sqs_redrive.specs.declared.answers.Deleted.TheVariants.{Gone, Kept, Removed}
pub use Rattle.sqs_redrive.specs.declared.answers.Got.{Got}
pub use Rattle.sqs_redrive.specs.declared.answers.Sent.{Sent}
pub use Rattle.sqs_redrive.specs.declared.settings.Kind.{Kind}
pub use Rattle.sqs_redrive.specs.declared.settings.Kind.TheVariants.{Fifo, Standard}
pub use Rattle.sqs_redrive.specs.declared.settings.Policy.{Policy}
pub use Rattle.sqs_redrive.specs.declared.settings.QueueSettings.{QueueSettings}
pub use Rattle.sqs_redrive.specs.declared.transfers.Load.{Load}
pub use Rattle.sqs_redrive.specs.declared.transfers.Load.TheVariants.{Forward, Move, Redrive}
pub use Rattle.sqs_redrive.specs.declared.transfers.Outbound.{Outbound}
pub use Rattle.std.proofs.Math.Bool.{and-false, or-false, or-true}
pub use Rattle.std.proofs.lemmas.Bool.{and_parts, cases_order, eq-eqb, eqb-false, eqb-true, leb-false, leb-true, ne_eqb, or_parts}
pub use Rattle.std.proofs.lemmas.Bool.Decides.{nat_tests}
pub use Rattle.std.proofs.lemmas.List.{append-nil, append_assoc, length-map, length-take, map-append}
pub use Rattle.std.proofs.lemmas.List.Elements.{All-append, All-cons, All-drop, All-filter, All-get_or, All-head, All-map, All-nil, All-push, All-tail, All-take, All-weaker, filter-append}
pub use Rattle.std.proofs.lemmas.List.Sums.{fold-append, length-filter, sum_by-append, sum_by-cons}
pub use Rattle.std.proofs.lemmas.Option.{get_or_from_slice_get, slice_get_within}
pub use Rattle.std.specs.List.{count_by, enumerate_from, list_any, range_with_len}
pub use Rattle.std.specs.Ordering.{is_lt, nat_cmp, on}
