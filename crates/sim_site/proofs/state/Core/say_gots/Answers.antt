use Rattle.std.proofs.Common.{◌≡◌, ◌∙◌, ◌++◌, ◌∷◌, [], ap, append_assoc, map, sym, take}
use Rattle.std.proofs.lemmas.List.{map_more}
use Rattle.sqs_redrive.specs.declared.answers.Got.{Got}
use Rattle.sqs_model.specs.Acts.{got_row}
use Rattle.sqs_model.specs.Site.{Core}
use Rattle.sim_site.proofs.state.Core.say_gots.Goals as goal

pub loop-i-preserved : goal.loop-i-preserved
loop-i-preserved c =
    let handling = c.args.handling.now in
    let on = c.loop-i.invariant.on in
    let f = got_row handling.key c.args.self.now handling.agent in
    let got : Got = c.index-gots-i.result in
    let site = ap (λ (x : Core). x.queue.site) (sym c.self.view_is) ∙ sym c.site-site.ensures in
    let row : c.got_row-row.result ≡ f got =
    c.got_row-row.ensures c.args.self.now site ∙ ap (λ k. got_row k c.args.self.now c.loop-i.handling.agent got) on.key ∙ ap (λ n. got_row handling.key c.args.self.now n got) on.agent in
    record {
      on = record { key = on.key; agent = on.agent; effects = on.effects };
      rows =
          c.in_ok-say.ensures.rows ∙ ap (λ r. r ++ c.got_row-row.result ∷ []) c.loop-i.invariant.rows
          ∙ append_assoc handling.effects.now.rows.items (map f (take c.loop-i.i c.args.gots.now)) (c.got_row-row.result ∷ [])
          ∙ ap (λ r. handling.effects.now.rows.items ++ r) (ap (λ y. map f (take c.loop-i.i c.args.gots.now) ++ y ∷ []) (row ∙ ap f c.index-gots-i.is) ∙ sym (map_more f c.args.gots.now c.loop-i.i got c.loop-i-test.true));
      sent = c.in_ok-say.ensures.sent ∙ c.loop-i.invariant.sent;
    }
