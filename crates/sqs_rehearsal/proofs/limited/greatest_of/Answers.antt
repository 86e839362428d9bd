use Rattle.std.proofs.Common.{ap, get_or, max, sym, take, ◌≡◌, ◌∙◌}
use Rattle.std.proofs.Math.Nat.{max-le}
use Rattle.sim_site.proofs.Greatest.{greatest_take}
use Rattle.sqs_model.specs.Counts.{site_count}
use Rattle.sqs_model.specs.Limits.{sites_count}
use Rattle.sqs_model.specs.Site.{Site}
use Rattle.sqs_rehearsal.proofs.limited.greatest_of.Goals as goal

pub loop-site-preserved : goal.loop-site-preserved
loop-site-preserved c =
    let xs = c.args.sites.now in
    let i = c.loop-site.site-index in
    let x = c.site-item.result in
    let count : Site → _ = λ s. site_count s.core in
    let here : x ≡ get_or xs i x = c.site-item.is in
    record {
      most =
          c.max-most.ensures ∙ ap (λ n. max n c.loop-site.most) c.greatest_count.ensures.count ∙ ap (max (count x)) c.loop-site.invariant.most
          ∙ ap (λ (y : Site). max (count y) (sites_count (take i xs))) here ∙ sym (greatest_take count xs i x c.loop-site-test.true);
      limit = rw c.max-most.ensures (max-le c.greatest_count.ensures.limit c.loop-site.invariant.limit);
    }
