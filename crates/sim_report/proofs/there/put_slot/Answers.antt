use Rattle.std.proofs.Common.{rules, ◌≡◌, ◌≤◌, ◌+◌, ◌-◌, ◌∙◌, ◌++◌, ℕ, List, Option, None, length, length-append, replicate, take, ap, sym, arith}
use Rattle.std.specs.BTreeMap.{insert_entry}
use Rattle.std.specs.Ordering.{nat_cmp}
use Rattle.std.proofs.lemmas.List.{append-nil, length-replicate, take_all}
use Rattle.sim_report.specs.Numbered.{placed}
use Rattle.sim_report.proofs.Placed.{insert-at, insert-past, placed-trail}
use Rattle.sim_report.proofs.there.put_slot.Goals as goal
use Rattle.sim_report.proofs.there.put_slot.Goals.{then-len-place+in_ok-resize, else-len-place}

pub returns-then-place-len-clause-put : goal.returns-then-place-len-clause-put
returns-then-place-len-clause-put c = λ n.
    sym (insert-at c.args.place (n + c.args.place) c.args.came n c.args.slots.now.items (omega arith) (omega (arith, c.if-place-len.true, c.len.ensures)))

pub returns-clause-put : goal.returns-clause-put
returns-clause-put c = λ n.
    let old = c.args.slots.now.items in
    let place = c.args.place in
    let grown = c.if-len-place.slots.items in
    let none : Option ℕ = None in
    let more = replicate (place - length old) none in
    let past : length old ≤ place = omega (arith, c.if-place-len.false, c.len.ensures) in
    let made : (grown ≡ old ++ more) × (length grown ≡ place) = elim c.if-len-place.branch as (λ b. (grown ≡ old ++ more) × (length grown ≡ place)) [
      | then-len-place+in_ok-resize w ↦
          let items : w.resize.new.self.items ≡ take place old ++ more = search rules in
          let all : w.resize.new.self.items ≡ old ++ more = items ∙ ap (λ (xs : List (Option ℕ)). xs ++ more) (take_all place old past) in
          rw w.slots-is (all, ap (λ (xs : List (Option ℕ)). length xs) all ∙ omega (arith, length-append old more, length-replicate (place - length old) none))
      | else-len-place w ↦
          let exact : length old ≡ place = omega (arith, w.if-len-place.false) in
          let zero : place - length old ≡ 0 = omega arith in
          rw (w.slots-is, zero) (sym (append-nil old), exact)
    ] in
    ap (placed n) c.in_ok-push_back.ensures.items
    ∙ sym (insert-past (n + place) c.args.came n grown (omega (arith, made.1)))
    ∙ ap (λ (ms : List (ℕ × ℕ)). insert_entry nat_cmp ms (n + place) c.args.came) (ap (placed n) made.0 ∙ placed-trail (place - length old) n old)
