use Rattle.std.proofs.Common.{ap, map, subst, sym, ◌∙◌}
use Rattle.sqs_messages.specs.Heads.{AreLed}
use Rattle.sqs_messages.specs.Slots.{is_numbered}
use Rattle.sqs_messages.specs.Groups.{front_of}
use Rattle.sqs_messages.specs.Marked.{unhosted}
use Rattle.sqs_messages.proofs.Fronts.{front_led, none_led, unhosted_changed}
use Rattle.sqs_messages.proofs.groups.front.refresh.Goals as goal

pub returns-in_default-clause-led : goal.returns-in_default-clause-led
returns-in_default-clause-led c g led listed count =
    none_led g c.args.shelf.now.items led (ap front_of (sym listed) ∙ ap front_of (sym c.in_default.ensures.held) ∙ sym c.in_default.ensures.front)

pub returns-clause-kept : goal.returns-clause-kept
returns-clause-kept c = ap (map unhosted) c.mark.ensures.items ∙ unhosted_changed (is_numbered c.in-Some.number) c.leader_hosts-hosts.result c.args.shelf.now.items

pub returns-clause-led : goal.returns-clause-led
returns-clause-led c g led listed count =
    subst AreLed (sym c.mark.ensures.items)
    (front_led g c.args.shelf.now.items c.in-Some.number c.in-Some.visible c.args.members.now.out c.leader_hosts-hosts.result c.number-next.ensures.ordered led
    (ap front_of (sym listed) ∙ ap front_of (sym c.in-Some.ensures.held) ∙ sym c.in-Some.ensures.front) count c.leader_hosts-hosts.ensures)
