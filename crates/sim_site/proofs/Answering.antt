-- Where the answer to a waiting poll is refused because of a count, its effect takes that count past the limit.
use Rattle.sqs_model.specs.Limits.{PassesCount}
use Rattle.std.specs.Prelude.{Any, IsOk, List, drop, false, length, true, ℕ, ◌+◌, ◌<◌, ◌≡◌}
use Rattle.std.proofs.Common.{get_or, subst, sym}
use Rattle.sim_clock.specs.declared.key.Key.{Key}
use Rattle.sqs_redrive.specs.declared.answers.Got.{Got}
use Rattle.sqs_model.specs.declared.acts.Answer.TheVariants as told_by
use Rattle.sqs_model.specs.Acts.{given}
use Rattle.sqs_model.specs.Answers.{most_count}
use Rattle.sqs_model.specs.Available.{all_hosts}
use Rattle.sqs_model.specs.Polls.{answer_polls, can_give, poll_answered, poll_given, told, without_poll}
use Rattle.sqs_model.specs.Queue.{Queue}
use Rattle.sqs_model.specs.Receive.{give_most, receive}
use Rattle.sqs_model.specs.Site.{Core, Effect, Poll}
use Rattle.sqs_model.proofs.Growth.{polls_up, same, told_to}
use Rattle.sqs_model.specs.Receive.{to_give}
use Rattle.sim_site.proofs.Limiting.{counts_of, given_passes, most_past}
use Rattle.sim_site.proofs.Passing.{passes_before}
use Rattle.sim_site.proofs.Polling.{polls_go}

-- what a poll is given stops, and so its answer does
given_limited : (key : Key) (p : Poll) (c : Core) (q : Queue) (gots : List Got) → PassesCount (given key (without_poll c) p.actor p.timeout (q, gots)) → PassesCount (poll_answered key p c (q, gots))
given_limited key p c q gots h =
    let e : Effect = given key (without_poll c) p.actor p.timeout (q, gots) in
    passes_before e (told key p.actor (told_by.Got gots)) (told_to e.core key p.actor (told_by.Got gots) e.core (same e.core)) h

counted_limited : (key : Key) (p : Poll) (c : Core) (x : Queue × List Got) → most_count < counts_of x.1 → PassesCount (poll_answered key p c x)
counted_limited key p c (q, gots) h = given_limited key p c q gots (given_passes key (without_poll c) p.actor p.timeout q gots h)

-- one that would be given a message that can be received no more
pub poll_passes :
    (key : Key) (p : Poll) (c : Core) (set : ℕ) → all_hosts c.queue.settings.kind ≡ set
    → Any (λ m. m.receives ≡ most_count) (to_give c.queue p.max set) × IsOk (receive c.queue key.at p.max p.timeout set false).0
    → PassesCount (poll_answered key p c (poll_given key p c.queue))
poll_passes key p c set all (any, ok) =
    let past : most_count < counts_of (give_most c.queue key.at p.max p.timeout set).1 = most_past c.queue key.at p.max p.timeout set any in
    counted_limited key p c (poll_given key p c.queue) (subst (λ s. most_count < counts_of (give_most c.queue key.at p.max p.timeout s).1) (sym all) past)

-- the answers to polls, of which the first stops
pub polls_limited :
    (key : Key) (c : Core) (ps : List Poll) (i : ℕ) (p : Poll) → i < length ps → p ≡ get_or ps i p → can_give c.queue ≡ true
    → PassesCount (poll_answered key p c (poll_given key p c.queue)) → PassesCount (answer_polls key (drop i ps) c)
polls_limited key c ps i p l e g h =
    let first : Effect = poll_answered key p c (poll_given key p c.queue) in
    let more : List Poll = drop (i + 1) ps in
    subst PassesCount (sym (polls_go key c ps i p l e g)) (passes_before first (answer_polls key more) (polls_up first.core key more first.core (same first.core)) h)
