use Rattle.std.proofs.Common.{Err, Ok, Result, subst, sym, ◌≡◌}
use Rattle.std.specs.Prelude.{OnOk}
use Rattle.sim_engine.specs.World.{delivered}
use Rattle.sim_index.specs.Marked.{AreMarked}
use Rattle.sim_partition.specs.Sites.{IsKept, IsPart, mark_of}
use Rattle.sim_partition.proofs.Delivered.{part_delivered}
use Rattle.sim_partition.proofs.delivery.deliver_all.Goals as goal

on_both : {A E : Type 0} (r : Result A E) (P Q R : Type 0) → (P → Q → R) → OnOk r P → OnOk r Q → OnOk r R
on_both (Ok a) P Q R f p q = f p q
on_both (Err e) P Q R f p q = tt

pub returns-clause-kept : goal.returns-clause-kept
returns-clause-kept g c =
    let e = g.S.Site.engine in
    let w = c.args.sites.now.values in
    let v = c.deliver_each.new.sites in
    on_both c.deliver_each.result (v.values ≡ delivered e c.args.transfers.items w) (AreMarked (mark_of e) v) (IsKept e g.S.Site.conditions v)
    (λ same marked. record { part = subst (IsPart e g.S.Site.conditions) (sym same) (part_delivered g.met.S.Site.laws c.args.transfers.items w c.requires.kept.part c.requires.past c.requires.timely); marked = marked })
    c.deliver_each.ensures.delivered c.deliver_each.ensures.marked
