use Rattle.std.proofs.Common.{◌==◌, ◌≡◌, ◌∙◌, List, [], ap, arith, length, sym, true, vec_len}
use Rattle.std.proofs.lemmas.Bool.Decides.{nat_tests}
use Rattle.std.proofs.lemmas.List.{nil_from_length}
use Rattle.sim_clock.specs.Order.{least}
use Rattle.sqs_model.specs.Actor.{Actor}
use Rattle.sqs_model.specs.Dues.{sample_dues}
use Rattle.sqs_model.specs.Site.{Core}
use Rattle.sim_site.specs.contracts.state.Core.{the_view}
use Rattle.sim_site.proofs.Least.{bare_least, core_least}
use Rattle.sim_site.proofs.state.Core.least_due.Goals as goal

pub returns-then-is_empty-clause-due : goal.returns-then-is_empty-clause-due
returns-then-is_empty-clause-due c =
    let core : Core = c.args.self.now in
    let queue : c.self.inside.queue ≡ core.queue = ap (λ (x : Core). x.queue) c.self.view_is in
    let polls : c.self.inside.polls ≡ core.polls = ap (λ (x : Core). x.polls) c.self.view_is in
    let actors : c.self.inside.actors ≡ core.actors = ap (λ (x : Core). x.actors) c.self.view_is in
    let sample : core.sample ≡ 0 = ap (λ (x : Core). x.sample) (sym c.self.view_is) ∙ c.if-self-eq0.true in
    let test : (vec_len c.self.inside.tasks == 0) ≡ true = sym c.is_empty.ensures ∙ c.if-is_empty.true in
    let none : length c.self.inside.tasks.items ≡ 0 = grind (arith, nat_tests) in
    let tasks : core.tasks ≡ [] = ap (λ (x : Core). x.tasks) (sym c.self.view_is) ∙ nil_from_length c.self.inside.tasks.items none in
    rw (c.lesser_of-best.ensures, c.lesser_of-of_queue.ensures, c.least_due.ensures, c.least_end.ensures, c.least_wake-wake.ensures.wake, queue, polls, actors) (bare_least core sample tasks)

pub returns-clause-due : goal.returns-clause-due
returns-clause-due c =
    let core : Core = c.args.self.now in
    let queue : c.self.inside.queue ≡ core.queue = ap (λ (x : Core). x.queue) c.self.view_is in
    let polls : c.self.inside.polls ≡ core.polls = ap (λ (x : Core). x.polls) c.self.view_is in
    let actors : c.self.inside.actors ≡ core.actors = ap (λ (x : Core). x.actors) c.self.view_is in
    let tasks : c.deref.result.now ≡ core.tasks = c.deref.ensures.value ∙ ap (λ (x : Core). x.tasks) c.self.view_is in
    let kept : record (the_view c.self.inside) { actors = c.least_wake-wake.new.self } ≡ core = ap (λ (xs : List Actor). record (the_view c.self.inside) { actors = xs }) c.least_wake-wake.ensures.same ∙ c.self.view_is in
    let sample : c.sample_due.result ≡ least (sample_dues core) = c.sample_due.ensures ∙ ap (λ (x : Core). least (sample_dues x)) kept in
    rw (c.lesser.ensures, c.lesser-best.ensures, c.lesser_of-best.ensures, c.lesser_of-of_queue.ensures, c.least_due.ensures, c.least_end.ensures, c.least_wake-wake.ensures.wake, sample, c.least_step.ensures, queue, polls, actors, tasks) (core_least core)
