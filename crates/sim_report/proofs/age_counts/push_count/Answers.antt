use Rattle.std.proofs.Common.{◌≡◌, ◌+◌, ◌-◌, ◌<◌, ◌≤◌, ℕ, suc, ap, arith, sym, ◌∙◌, get_or, length}
use Rattle.std.proofs.lemmas.List.{get_or_default}
use Rattle.sim_report.specs.declared.age_counts.AgeCount.{AgeCount}
use Rattle.sim_report.proofs.Counted.{EachOnce-push, EachOnce-set, expanded-set, last-le-more}
use Rattle.sim_report.proofs.age_counts.push_count.Goals as goal
use Rattle.sim_report.proofs.age_counts.push_count.Goals.{else-len-gt0-via-then-len-gt0+else-index-more, else-len-gt0-via-else-len-gt0}

pub returns-then-index-more-clause-added : goal.returns-then-index-more-clause-added
returns-then-index-more-clause-added c =
    let counts = c.args.counts.now.items in
    let place = c.len-len.result - 1 in
    let last = c.index_mut.result.now in
    let read : c.index.result.now ≡ get_or counts place last = c.index.ensures ∙ get_or_default counts place c.index.result.now last (omega (arith, c.len-len.ensures, c.args.counts.now.ok)) in
    let age : last.age ≡ c.args.more.age = ap (λ (x : AgeCount). x.age) (c.index_mut.ensures.value ∙ sym read) ∙ c.if-index-more.true in
    expanded-set place counts last c.args.more (omega (arith, c.len-len.ensures, c.args.counts.now.ok)) c.index_mut.ensures.value age

pub returns-then-index-more-clause-once : goal.returns-then-index-more-clause-once
returns-then-index-more-clause-once c =
    let last = c.index_mut.result.now in
    EachOnce-set c.args.counts.now.items (c.len-len.result - 1) (last.count + c.args.more.count) last c.requires.once (omega (arith, c.len-len.ensures, c.args.counts.now.ok)) c.index_mut.ensures.value (omega (arith, c.requires.some))

pub returns-clause-once : goal.returns-clause-once
returns-clause-once c =
    let counts = c.args.counts.now.items in
    let more = c.args.more in
    let larger : (i : ℕ) → suc i ≡ length counts → (get_or counts i more).age < more.age = λ i long. elim c.else-len-gt0.branch as (λ b. (get_or counts i more).age < more.age) [
      | else-len-gt0-via-then-len-gt0+else-index-more w ↦
          let at : (get_or counts i more).age ≤ more.age = last-le-more i counts more more long (c.requires.once.some i more (omega arith)) c.requires.some c.requires.ascends in
          let here : i ≡ c.len-len.result - 1 = omega (arith, c.len-len.ensures, c.args.counts.now.ok) in
          let read : w.index.result.now ≡ get_or counts i more = w.index.ensures ∙ ap (λ (n : ℕ). get_or counts n w.index.result.now) (sym here) ∙ get_or_default counts i w.index.result.now more (omega arith) in
          let age : w.index.result.now.age ≡ (get_or counts i more).age = ap (λ (x : AgeCount). x.age) read in
          omega (arith, w.if-index-more.false)
      | else-len-gt0-via-else-len-gt0 w ↦ absurd (omega (arith, w.if-len-gt0.false, c.len-len.ensures, c.args.counts.now.ok))
    ] in
    rw c.in_ok-push.ensures.items (EachOnce-push counts more c.requires.once c.requires.some larger)
