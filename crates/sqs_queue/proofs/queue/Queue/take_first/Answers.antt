use Rattle.std.proofs.Common.{◌≡◌, ap, subst, sym, take, ◌∙◌}
use Rattle.sqs_model.specs.Available.{all_available, all_hosts, available}
use Rattle.sqs_model.specs.Queue.{IsFramed, Queue}
use Rattle.sqs_model.specs.Task.{Taken, take_each}
use Rattle.sqs_queue.specs.Picked.{messages_of}
use Rattle.sqs_queue.proofs.Numbers.{chosen_differ, chosen_messages}
use Rattle.sqs_queue.proofs.Taking.{take_entries, take_framed}
use Rattle.sqs_queue.proofs.queue.Queue.take_first.Goals as goal

pub take_each-stuck-requires-clause-apart : goal.take_each-stuck-requires-clause-apart
take_each-stuck-requires-clause-apart c =
    chosen_differ c.self.inside.messages c.all_hosts.result c.args.most c.deref.result.now c.in_ok-choice.ensures.ordered (c.deref.ensures ∙ c.in_ok-choice.ensures.numbers)

pub returns-clause-taken : goal.returns-clause-taken
returns-clause-taken c =
    let q : Queue = c.self.inside.messages in
    let before : Queue = record q { entries = c.self.inside.entries } in
    let hosts : all_hosts q.settings.kind ≡ c.all_hosts.result = ap (λ (r : Queue). all_hosts r.settings.kind) c.self.view_is ∙ sym c.all_hosts.ensures in
    let same = chosen_messages q c.all_hosts.result c.args.most c.deref.result.now c.in_ok-choice.ensures.ordered (c.deref.ensures ∙ c.in_ok-choice.ensures.numbers) in
    ap (λ (r : Queue). take_each r c.args.to (take c.args.most (all_available r))) (sym c.self.view_is)
    ∙ ap (λ h. take_each before c.args.to (take c.args.most (available q h))) hosts
    ∙ ap (take_each before c.args.to) (sym same)
    ∙ take_entries c.self.inside.entries c.args.to (messages_of q.records c.deref.result.now) q
    ∙ ap (λ (t : Taken). record t { queue = record t.queue { entries = c.self.inside.entries } }) c.take_each-stuck.ensures

pub returns-clause-framed : goal.returns-clause-framed
returns-clause-framed c =
    let q : Queue = c.self.inside.messages in
    let framed : IsFramed q c.take_each-stuck.new.messages = subst (IsFramed q) (ap (λ (t : Taken). t.queue) c.take_each-stuck.ensures) (take_framed c.args.to (messages_of q.records c.deref.result.now) q) in
    record {
      site = framed.site ∙ ap (λ (r : Queue). r.site) c.self.view_is;
      settings = framed.settings ∙ ap (λ (r : Queue). r.settings) c.self.view_is;
    }
