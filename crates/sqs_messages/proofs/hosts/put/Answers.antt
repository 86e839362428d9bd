use Rattle.std.proofs.Common.{ap, map, refl, subst, sym, ◌∙◌}
use Rattle.std.specs.Prelude.{All}
use Rattle.sim_index.specs.declared.mark.Mark.{Mark}
use Rattle.sqs_messages.proofs.Hosting.{put_hosted}
use Rattle.sqs_messages.proofs.Kept.{unhosted_alike}
use Rattle.sqs_messages.specs.Marked.{IsHosted, restamped, unhosted}
use Rattle.sqs_messages.specs.Slots.{Shelved, is_numbered, restated}
use Rattle.sqs_messages.proofs.hosts.put.Goals as goal

pub returns-clause-hosted : goal.returns-clause-hosted
returns-clause-hosted c =
    let mark : Mark = record { due = c.args.due; flags = c.host_bit-host.result } in
    record {
      some = c.requires.hosted.some;
      few = c.requires.hosted.few;
      hosted = subst (All (IsHosted c.args.hosts)) (sym c.put-found.ensures.items) (put_hosted c.args.hosts c.args.number c.args.state mark c.args.shelf.now.items c.host_bit-host.ensures c.requires.hosted.hosted);
    }

pub returns-clause-changed : goal.returns-clause-changed
returns-clause-changed c =
    let mark : Mark = record { due = c.args.due; flags = c.host_bit-host.result } in
    ap (map unhosted) c.put-found.ensures.items
    ∙ unhosted_alike (is_numbered c.args.number) (λ (s : Shelved). let t : Shelved = record s { message = restated c.args.state s.message; mark = mark } in t) (restamped c.args.state c.args.due) (λ s. refl) c.args.shelf.now.items
