use Rattle.std.proofs.Common.{rules, subst, ◌≡◌, ◌++◌}
use Rattle.std.specs.Ordering.{on}
use Rattle.std.specs.Prelude.{OnOk}
use Rattle.sim_clock.specs.Order.{inserted_by, key_cmp}
use Rattle.sqs_redrive.specs.Transfers.{transfer_key}
use Rattle.sim_site.specs.Arrivals.{ComesBehind, ComesFirst}
use Rattle.sim_site.proofs.Rings.{back_in_order, front_in_order, more_among, more_behind, none_more, still_in_order}
use Rattle.sim_site.proofs.arrivals.Arrivals.insert.Goals as goal

pub comes_first-requires : goal.comes_first-requires
comes_first-requires c = back_in_order c.self.inside.soon.items c.self.inside.later c.self.invariant

pub insert_soon-requires : goal.insert_soon-requires
insert_soon-requires c = front_in_order c.self.inside.soon.items c.self.inside.later c.self.invariant

pub invariant_of-self : goal.invariant_of-self
invariant_of-self c =
    let behind : ComesBehind (transfer_key c.args.transfer) c.self.inside.later = subst (λ k. ComesBehind k c.self.inside.later) c.key.ensures (search rules) in
    still_in_order c.insert.result c.args.transfer (c.self.inside.soon.items ++ c.self.inside.later) (c.self.inside.soon.items ++ c.insert.new.self) c.self.invariant
    (more_behind c.insert.result c.args.transfer c.self.inside.soon.items c.self.inside.later c.insert.new.self c.self.invariant behind c.insert.ensures.added)
    (none_more c.insert.result (λ ws. c.self.inside.soon.items ++ ws) c.self.inside.later c.insert.new.self c.insert.ensures.same)

pub invariant_of-self-then-len-lt-SOON : goal.invariant_of-self-then-len-lt-SOON
invariant_of-self-then-len-lt-SOON c =
    let first : ComesFirst (transfer_key c.args.transfer) c.self.inside.later = subst (λ k. ComesFirst k c.self.inside.later) c.key.ensures (search rules) in
    still_in_order c.insert_soon.result c.args.transfer (c.self.inside.soon.items ++ c.self.inside.later) (c.insert_soon.new.soon.items ++ c.self.inside.later) c.self.invariant
    (more_among c.insert_soon.result c.args.transfer c.self.inside.soon.items c.self.inside.later c.insert_soon.new.soon.items first c.insert_soon.ensures.added)
    (none_more c.insert_soon.result (λ ws. ws ++ c.self.inside.later) c.self.inside.soon.items c.insert_soon.new.soon.items c.insert_soon.ensures.same)

pub invariant_of-self-else-len-lt-SOON : goal.invariant_of-self-else-len-lt-SOON
invariant_of-self-else-len-lt-SOON c =
    still_in_order c.insert_into_full.result c.args.transfer (c.self.inside.soon.items ++ c.self.inside.later) (c.insert_into_full.new.soon.items ++ c.insert_into_full.new.later) c.self.invariant
    c.insert_into_full.ensures.added c.insert_into_full.ensures.same

pub returns-then-not-comes_first : goal.returns-then-not-comes_first
returns-then-not-comes_first c =
    record {
      added =
          let behind : ComesBehind (transfer_key c.args.transfer) c.self.inside.later = subst (λ k. ComesBehind k c.self.inside.later) c.key.ensures (search rules) in
          subst (λ ts. OnOk c.insert.result (c.self.inside.soon.items ++ c.insert.new.self ≡ inserted_by (on transfer_key key_cmp) c.args.transfer ts)) c.self.view_is
          (more_behind c.insert.result c.args.transfer c.self.inside.soon.items c.self.inside.later c.insert.new.self c.self.invariant behind c.insert.ensures.added);
      same = search rules;
    }

pub returns-then-len-lt-SOON : goal.returns-then-len-lt-SOON
returns-then-len-lt-SOON c =
    record {
      added =
          let first : ComesFirst (transfer_key c.args.transfer) c.self.inside.later = subst (λ k. ComesFirst k c.self.inside.later) c.key.ensures (search rules) in
          subst (λ ts. OnOk c.insert_soon.result (c.insert_soon.new.soon.items ++ c.self.inside.later ≡ inserted_by (on transfer_key key_cmp) c.args.transfer ts)) c.self.view_is
          (more_among c.insert_soon.result c.args.transfer c.self.inside.soon.items c.self.inside.later c.insert_soon.new.soon.items first c.insert_soon.ensures.added);
      same = search rules;
    }
