use Rattle.std.proofs.Common.{◌++◌, ◌+◌, ◌∙◌, List, ℕ, ap, arith, drop, get_or, sym}
use Rattle.std.proofs.lemmas.List.{append_assoc}
use Rattle.std.proofs.lemmas.List.Sums.{prefix_len-le-length}
use Rattle.sqs_formats.specs.Report.{ascending}
use Rattle.sim_report.specs.Ages.{EachOnce, ages_of, expanded}
use Rattle.sim_report.specs.declared.age_counts.AgeCount.{AgeCount}
use Rattle.std.proofs.lemmas.List.Sorted.{IsNonDecreasingBy-drop}
use Rattle.sim_report.proofs.Ascending.{Ascends-ascending, IsNonDecreasing-from}
use Rattle.sim_report.proofs.Counted.{merge-ascends, merge-done, merge-next}
use Rattle.sim_report.proofs.age_counts.AgeCounts.merged.Goals as goal

pub split_at-requires : goal.split_at-requires
split_at-requires c = rw c.below.ensures (prefix_len-le-length _ _)

pub add_each-requires : goal.add_each-requires
add_each-requires c =
    let none : AgeCount = record { age = 0; count = 0 } in
    let counts = c.deref-count-items.result.now in
    let place = c.loop-count.count-index in
    let all = c.loop-count.all in
    let rest = c.loop-count.rest.now in
    let whole = expanded counts ++ c.args.more.now in
    let once : EachOnce counts = rw c.deref-count-items.ensures.value c.self.invariant.0 in
    let next = merge-next counts place none all rest c.split_at.result.0.now (ascending whole) c.below.result once (omega arith) c.loop-count.invariant.ascends c.loop-count.invariant.so_far c.below.ensures c.split_at.ensures.front in
    let added = all ++ c.split_at.result.0.now in
    let one = ages_of (get_or counts place none) in
    let last = ascending (expanded (drop (place + 1) counts) ++ drop c.below.result rest) in
    merge-ascends added (one ++ last) whole (sym (append_assoc added one last) ∙ next)

pub add-requires-clause-some : goal.add-requires-clause-some
add-requires-clause-some c =
    let none : AgeCount = record { age = 0; count = 0 } in
    let once : EachOnce c.deref-count-items.result.now = rw c.deref-count-items.ensures.value c.self.invariant.0 in
    once.some c.loop-count.count-index none (omega arith)

pub add-requires-clause-ascends : goal.add-requires-clause-ascends
add-requires-clause-ascends c =
    let none : AgeCount = record { age = 0; count = 0 } in
    let counts = c.deref-count-items.result.now in
    let place = c.loop-count.count-index in
    let all = c.loop-count.all in
    let rest = c.loop-count.rest.now in
    let whole = expanded counts ++ c.args.more.now in
    let once : EachOnce counts = rw c.deref-count-items.ensures.value c.self.invariant.0 in
    let next = merge-next counts place none all rest c.split_at.result.0.now (ascending whole) c.below.result once (omega arith) c.loop-count.invariant.ascends c.loop-count.invariant.so_far c.below.ensures c.split_at.ensures.front in
    let added = (all ++ c.split_at.result.0.now) ++ ages_of (get_or counts place none) in
    rw c.in_ok-add_each.ensures (merge-ascends added (ascending (expanded (drop (place + 1) counts) ++ drop c.below.result rest)) whole next)

pub loop-count-preserved : goal.loop-count-preserved
loop-count-preserved c =
    let none : AgeCount = record { age = 0; count = 0 } in
    let counts = c.deref-count-items.result.now in
    let place = c.loop-count.count-index in
    let all = c.loop-count.all in
    let rest = c.loop-count.rest.now in
    let whole = expanded counts ++ c.args.more.now in
    let once : EachOnce counts = rw c.deref-count-items.ensures.value c.self.invariant.0 in
    let next = merge-next counts place none all rest c.split_at.result.0.now (ascending whole) c.below.result once (omega arith) c.loop-count.invariant.ascends c.loop-count.invariant.so_far c.below.ensures c.split_at.ensures.front in
    record {
      ascends = rw c.split_at.ensures.back (IsNonDecreasingBy-drop (λ n. n) c.below.result rest c.loop-count.invariant.ascends);
      so_far = rw (c.in_ok-add.ensures, c.in_ok-add_each.ensures, c.split_at.ensures.back) next;
    }

pub add_each-requires-2 : goal.add_each-requires-2
add_each-requires-2 c =
    let counts = c.deref-count-items.result.now in
    let place = c.loop-count.count-index in
    let all = c.loop-count.all in
    let rest = c.loop-count.rest.now in
    let whole = expanded counts ++ c.args.more.now in
    let done = merge-done counts place all rest (ascending whole) (omega (arith, c.loop-count-test.false)) c.loop-count.invariant.ascends c.loop-count.invariant.so_far in
    rw done (IsNonDecreasing-from (ascending whole) (Ascends-ascending whole))

pub returns : goal.returns
returns c =
    let counts = c.deref-count-items.result.now in
    let place = c.loop-count.count-index in
    let all = c.loop-count.all in
    let rest = c.loop-count.rest.now in
    let whole = expanded counts ++ c.args.more.now in
    let done = merge-done counts place all rest (ascending whole) (omega (arith, c.loop-count-test.false)) c.loop-count.invariant.ascends c.loop-count.invariant.so_far in
    let own = ap expanded c.deref-count-items.ensures.value ∙ c.self.view_is in
    c.in_ok-add_each-2.ensures ∙ done ∙ ap (λ (ns : List ℕ). ascending (ns ++ c.args.more.now)) own
