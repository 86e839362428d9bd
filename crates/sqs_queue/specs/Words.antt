-- The words with which contracts speak of the calls of a queue of one kind.
pub use Rattle.sim_clock.specs.Firsts.{is_empty}
pub use Rattle.sim_clock.specs.Order.{least}
pub use Rattle.sqs_model.specs.Acts.{sends}
pub use Rattle.sqs_model.specs.Answers.{Meets, most_count}
pub use Rattle.sqs_model.specs.Arrive.{arrived, expired}
pub use Rattle.sqs_model.specs.Available.{all_available}
pub use Rattle.sqs_model.specs.Calls.{change, delete_fifo, delete_standard, returned, send_standard}
pub use Rattle.sqs_model.specs.Dues.{queue_dues}
pub use Rattle.sqs_model.specs.Progress.{IsRecent, WasEnqueuedBy}
pub use Rattle.sqs_model.specs.Queue.{IsFramed, is_delayed, is_in_flight, is_visible}
pub use Rattle.sqs_model.specs.Receive.{receive, to_give}
pub use Rattle.sqs_model.specs.Return.{released}
pub use Rattle.sqs_model.specs.Task.{take_movable}
pub use Rattle.sqs_queue.specs.Calls.{MeetsArrival, MeetsOneMore, MeetsReceive, MeetsSend, PassesSend, TakesMovable, never_refused}
pub use Rattle.sqs_queue.specs.Looking.{without_messages}
pub use Rattle.sqs_queue.specs.Kinds.{IsFifoSettings, IsStandardSettings}
