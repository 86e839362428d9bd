use Rattle.std.proofs.Common.{ap, sym, take, ◌∙◌, ◌≡◌, ◌+◌, ◌++◌, ◌∷◌, []}
use Rattle.std.specs.Prelude.{Some}
use Rattle.std.proofs.lemmas.List.{take_more}
use Rattle.sim_clock.specs.Order.{lesser}
use Rattle.sim_engine.specs.World.{delivered, world_due}
use Rattle.sim_partition.proofs.Delivered.{due_found, due_unfound}
use Rattle.sim_partition.proofs.Spent.{held, not_spent, now_lives, numbered}
use Rattle.sim_partition.specs.Sites.{due_in}
use Rattle.sim_partition.proofs.roster.Roster.least_due_after.Goals as goal
use Rattle.sim_partition.proofs.roster.Roster.least_due_after.Goals.{else-is_ok, then-is_ok}

pub loop-transfer-init : goal.loop-transfer-init
loop-transfer-init g c =
    let e = g.S.Site.engine in
    let i = c.self.inside in
    let lives = now_lives i.spent i.sites.values c.args.self.now (not_spent i.spent (sym c.is_some.ensures ∙ c.if-is_some.false)) c.self.view_is in
    c.least_due-due.ensures.due ∙ ap (due_in e) lives

pub loop-transfer-preserved : goal.loop-transfer-preserved
loop-transfer-preserved g c =
    let e = g.S.Site.engine in
    let i = c.self.inside in
    let w = i.sites.values in
    let lives = sym c.is_some.ensures ∙ c.if-is_some.false in
    let kept = held e g.S.Site.conditions i.spent i.sites lives c.self.invariant.0 in
    let numbers = c.deref.ensures.value ∙ numbered e i.spent i.numbers.items i.sites lives c.self.invariant.1 in
    let o = c.transfer-item.result in
    let n = c.loop-transfer.transfer-index in
    let before = take n c.args.transfers.now in
    let more : take (n + 1) c.args.transfers.now ≡ before ++ o ∷ [] = take_more c.args.transfers.now n o c.loop-transfer-test.true ∙ ap (λ x. before ++ x ∷ []) (sym c.transfer-item.is) in
    let on = sym (ap (λ os. world_due e (delivered e os w)) more) in
    elim c.if-is_ok.branch [
      | then-is_ok t ↦
          t.due-is ∙ t.lesser-due.ensures ∙ ap (λ k. lesser (Some k) c.loop-transfer.due) t.transfer_key.ensures
          ∙ due_found g.met.S.Site.laws before o w c.loop-transfer.due c.loop-transfer.invariant c.deref.result.now c.to.result c.binary_search.result kept.part.ascends numbers c.to.ensures c.binary_search.ensures.position
          (sym c.is_ok.ensures.value ∙ t.if-is_ok.true)
          ∙ on
      | else-is_ok t ↦
          t.due-is
          ∙ due_unfound g.met.S.Site.laws before o w c.loop-transfer.due c.loop-transfer.invariant c.deref.result.now c.to.result c.binary_search.result kept.part.ascends numbers c.to.ensures c.binary_search.ensures.position
          (sym c.is_ok.ensures.value ∙ t.if-is_ok.false)
          ∙ on
    ]
