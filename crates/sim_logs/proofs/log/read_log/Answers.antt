use Rattle.std.proofs.Common.{rules, ◌≡◌, ◌≢◌, ◌∙◌, List, ℕ, false, sym, subst}
use Rattle.std.proofs.lemmas.Result.{err_from_is_err_and}
use Rattle.sim_logs.specs.Logs.{IsFaultAt, IsNext}
use Rattle.sim_logs.proofs.LogReads.{fault_at, read_to_end, read_to_finals, reads_more}
use Rattle.sim_logs.proofs.log.read_log.Goals as goal
use Rattle.sim_logs.proofs.log.read_log.Goals.{then-not-branch-via-then-not-branch, then-not-branch-via-else-not-branch+then-eq}

pub returns-then-not-branch-clause-read : goal.returns-then-not-branch-clause-read
returns-then-not-branch-clause-read g c =
    let so_far = c.loop-line.invariant.reads in
    rw c.into_figures.ensures
    (elim c.then-not-branch.branch [
      | then-not-branch-via-then-not-branch w ↦
          (let none : c.in_ok-next_line.field-0 ≡ false = search rules in
          read_to_end _ _ _ _ _ _ _ so_far (c.in_ok-next_line.ensures.end none))
      | then-not-branch-via-else-not-branch+then-eq w ↦
          (let same : c.next_line.new.text.items ≡ c.in_ok-last.last.items = search rules in
          read_to_finals _ _ _ _ _ _ _ _ so_far c.in_ok-next_line.ensures.read (same ∙ c.loop-line.invariant.last))
    ])

pub returns-in_err-take-clause-fault : goal.returns-in_err-take-clause-fault
returns-in_err-take-clause-fault g c =
    let so_far = c.loop-line.invariant.reads in
    let differs : c.next_line.new.text.items ≢ c.in_ok-last.last.items = search rules in
    let fault = subst (λ (t : List ℕ). IsFaultAt c.loop-line.reading t c.loop-line.line c.in_err-take.field-0.0) c.as_slice-in-loop-line.ensures.value c.in_err-take.ensures.fault in
    let p = err_from_is_err_and c.from_residual-in_err-take.result c.from_residual-in_err-take.ensures.1 in
    rw (p.1, p.2) (fault_at _ _ _ _ _ _ _ _ _ so_far c.in_ok-next_line.ensures.read (λ e. differs (e ∙ sym {A = List ℕ} c.loop-line.invariant.last)) fault)

pub loop-line-preserved : goal.loop-line-preserved
loop-line-preserved g c =
    let next = subst (λ (t : List ℕ). IsNext c.loop-line.reading c.take.new.self t) c.as_slice-in-loop-line.ensures.value c.in_ok-take.ensures.next in
    record {
      reads = reads_more _ _ _ _ _ _ _ _ _ c.loop-line.invariant.reads c.in_ok-next_line.ensures.read next;
      last = c.loop-line.invariant.last;
    }
