use Rattle.std.proofs.Common.{◌≡◌, List, ap, arith, length, map, subst, sym, take, ◌∙◌}
use Rattle.std.proofs.lemmas.List.{length-map}
use Rattle.std.proofs.lemmas.Result.{err_from_is_err_and}
use Rattle.std.specs.Prelude.{All, Any, Err, ◌<◌}
use Rattle.sim_clock.specs.declared.refusal.Refusal.TheVariants as refusals
use Rattle.sqs_message.specs.declared.message.Message.{Message}
use Rattle.sqs_model.specs.Answers.{most_count}
use Rattle.sqs_model.specs.Available.{available}
use Rattle.sqs_model.specs.Queue.{Queue}
use Rattle.sqs_model.proofs.Chosen.{first_apart, first_stand}
use Rattle.sqs_queue.specs.Giving.{CanBeGiven, told_of}
use Rattle.sqs_queue.proofs.Giving.{can_be_given}
use Rattle.sqs_queue.proofs.Numbers.{chosen_messages}
use Rattle.sqs_queue.proofs.queue.Queue.batch.Goals as goal

pub returns-clause-told : goal.returns-clause-told
returns-clause-told c =
    let q : Queue = c.self.inside.messages in
    let same = chosen_messages q c.args.hosts c.args.most c.deref.result.now c.in_ok-choice.ensures.ordered (c.deref.ensures ∙ c.in_ok-choice.ensures.numbers) in
    c.in_ok-messages.ensures.told
    ∙ ap (map (told_of q.site)) same
    ∙ ap (λ (r : Queue). map (told_of r.site) (take c.args.most (available r c.args.hosts))) c.self.view_is

pub returns-clause-given : goal.returns-clause-given
returns-clause-given c =
    let q : Queue = c.self.inside.messages in
    let before : Queue = record q { entries = c.self.inside.entries } in
    let ms : List Message = take c.args.most (available q c.args.hosts) in
    let same = chosen_messages q c.args.hosts c.args.most c.deref.result.now c.in_ok-choice.ensures.ordered (c.deref.ensures ∙ c.in_ok-choice.ensures.numbers) in
    let told = c.in_ok-messages.ensures.told ∙ ap (map (told_of q.site)) same in
    let below = subst (λ (xs : List Message). All (λ m. m.receives < most_count) xs) same c.in_ok-messages.ensures.below in
    let given = can_be_given before ms (first_stand q c.args.hosts c.args.most c.in_ok-choice.ensures.ordered) (first_apart q c.args.hosts c.args.most c.in_ok-choice.ensures.ordered) below in
    subst (λ (r : Queue). CanBeGiven r c.in_ok-messages.messages.items) c.self.view_is (subst (CanBeGiven before) (sym told) given)

pub returns-clause-read : goal.returns-clause-read
returns-clause-read c =
    let q : Queue = c.self.inside.messages in
    let ms : List Message = take c.args.most (available q c.args.hosts) in
    let same = chosen_messages q c.args.hosts c.args.most c.deref.result.now c.in_ok-choice.ensures.ordered (c.deref.ensures ∙ c.in_ok-choice.ensures.numbers) in
    let told : length c.in_ok-messages.messages.items ≡ length ms = ap length (c.in_ok-messages.ensures.told ∙ ap (map (told_of q.site)) same) ∙ length-map ms (told_of q.site) in
    let chosen : length c.in_ok-choice.choice.numbers.items ≡ length ms = ap length c.in_ok-choice.ensures.numbers ∙ length-map ms (λ m. m.number) in
    omega (arith, told, chosen, c.in_ok-choice.ensures.read)

pub returns-clause-below : goal.returns-clause-below
returns-clause-below c =
    let q : Queue = c.self.inside.messages in
    let same = chosen_messages q c.args.hosts c.args.most c.deref.result.now c.in_ok-choice.ensures.ordered (c.deref.ensures ∙ c.in_ok-choice.ensures.numbers) in
    let below = subst (λ (xs : List Message). All (λ m. m.receives < most_count) xs) same c.in_ok-messages.ensures.below in
    subst (λ (r : Queue). All (λ m. m.receives < most_count) (take c.args.most (available r c.args.hosts))) c.self.view_is below

pub returns-in_err-messages-clause-at_limit : goal.returns-in_err-messages-clause-at_limit
returns-in_err-messages-clause-at_limit c =
    let q : Queue = c.self.inside.messages in
    let same = chosen_messages q c.args.hosts c.args.most c.deref.result.now c.in_ok-choice.ensures.ordered (c.deref.ensures ∙ c.in_ok-choice.ensures.numbers) in
    let refused = err_from_is_err_and c.from_residual-in_err-messages.result c.from_residual-in_err-messages.ensures.1 in
    rw (refused.1, refused.2)
    (λ e.
    let limit : c.in_err-messages.field-0.0 ≡ refusals.CountLimit = cc in
    let found = subst (λ (xs : List Message). Any (λ m. m.receives ≡ most_count) xs) same (c.in_err-messages.ensures.at_limit (ap Err limit)) in
    subst (λ (r : Queue). Any (λ m. m.receives ≡ most_count) (take c.args.most (available r c.args.hosts))) c.self.view_is found)
