-- What an actor does at its site, act after act, and the answers to waiting polls.
use Rattle.std.specs.Prelude.{Bool, List, None, Option, Some, [], drop, false, nat_lt, not, suc, true, zero, ℕ, ◌&&◌, ◌∷◌}
use Rattle.sim_clock.specs.declared.key.Key.{Key}
use Rattle.sqs_model.specs.declared.acts.Act.{Act}
use Rattle.sqs_model.specs.declared.acts.Answer.{Answer}
use Rattle.sqs_redrive.specs.declared.answers.Got.{Got}
use Rattle.sim_clock.specs.Firsts.{is_empty}
use Rattle.sqs_model.specs.Actor.{Actor, next}
use Rattle.sqs_model.specs.Acts.{Made, act_made, given}
use Rattle.sqs_model.specs.Available.{all_available, all_hosts}
use Rattle.sqs_model.specs.Queue.{Queue, room}
use Rattle.sqs_model.specs.Receive.{give_most}
use Rattle.sqs_model.specs.Site.{Core, Effect, Poll, actor_numbered, and_then, no_effect, with_actor}
use Rattle.sqs_model.specs.declared.acts.Act.TheVariants as acts
use Rattle.sqs_model.specs.declared.acts.Answer.TheVariants as told_by

-- what is made, and then what its answer leads to
abbrev pub continued : (Answer → Core → Effect) → Made → Effect
continued more m = and_then m.effect (more m.answer)

-- an act with what follows from it, if there is one
abbrev pub acts_next : (Answer → Core → Effect) → Key → Core → Act × Actor → Effect
acts_next more key c (acts.Nothing, a) = no_effect (with_actor c a)
acts_next more key c (act, a) = continued more (act_made key a (with_actor c a) act)

-- the same if the actor is there
abbrev pub acts_found : (Answer → Core → Effect) → Key → Answer → Core → Option Actor → Effect
acts_found more key answer c None = no_effect c
acts_found more key answer c (Some a) = acts_next more key c (next a key.at answer)

-- an actor gets an answer and acts, a limited number of times; it then gets the answer to each act in turn
abbrev pub acts_most : ℕ → Key → ℕ → Answer → Core → Effect
acts_most zero key n answer c = no_effect c
acts_most (suc most) key n answer c = acts_found (acts_most most key n) key answer c (actor_numbered n c)

-- the same to the end: the most that one wake leads to are the end of a service, the delete, and the next wake
abbrev pub told : Key → ℕ → Answer → Core → Effect
told key n answer c = acts_most 3 key n answer c

-- whether a queue has a message to give and room in flight for it
abbrev pub can_give : Queue → Bool
can_give q = not (is_empty (all_available q)) && nat_lt 0 (room q)

-- a poll that is answered leaves the list of those that wait
abbrev pub without_poll : Core → Core
without_poll c = record c { polls = drop 1 c.polls }

-- a poll that is answered, and what its actor then does
abbrev pub poll_answered : Key → Poll → Core → Queue × List Got → Effect
poll_answered key p c (q, gots) =
    and_then (given key (without_poll c) p.actor p.timeout (q, gots)) (told key p.actor (told_by.Got gots))

-- what a poll is given
abbrev pub poll_given : Key → Poll → Queue → Queue × List Got
poll_given key p q = give_most q key.at p.max p.timeout (all_hosts q.settings.kind)

-- the first poll is answered, and the others after it, if there is something to give
abbrev pub answer_when : Bool → Key → Poll → (Core → Effect) → Core → Effect
answer_when true key p others c = and_then (poll_answered key p c (poll_given key p c.queue)) others
answer_when false key p others c = no_effect c

-- waiting polls are answered, oldest first, while there is something to give
abbrev pub answer_polls : Key → List Poll → Core → Effect
answer_polls key [] c = no_effect c
answer_polls key (p ∷ ps) c = answer_when (can_give c.queue) key p (answer_polls key ps) c
