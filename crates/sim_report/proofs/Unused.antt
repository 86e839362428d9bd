-- The unused receipts, with those of a first receive apart.
use Rattle.std.proofs.Common.{Ordering, Less, Equal, Greater, ◌≡◌, ◌==◌, ℕ, Bool, true, false, cond, Option, Some, None, List, [], ◌∷◌, ◌++◌, filter_map, fold, refl, ap, ◌∙◌, arith}
use Rattle.std.specs.BTreeMap.{is_at}
use Rattle.std.specs.Cmp.{IsTotalOrder, then_total}
use Rattle.std.specs.Ordering.{nat_cmp, ordering_then}
use Rattle.std.proofs.lemmas.Bool.Decides.{nat_tests}
use Rattle.std.proofs.lemmas.Cmp.{nat_cmp_total, on_total}
use Rattle.std.proofs.lemmas.List.Sums.{fold_push}
use Rattle.std.proofs.lemmas.Map.Lookups.{exact_unsigned}
use Rattle.sqs_message.specs.declared.row.Row.{Row}
use Rattle.sim_report.specs.declared.fact.Use.{Use}
use Rattle.sim_report.specs.declared.fact.Use.TheVariants.{Calls, Deletes, Fails, Gives, Passes}
use Rattle.sim_report.specs.Figured.{Unused, first_receipt, handled_in, later_receipt, unused_next, unused_parts}
use Rattle.sim_report.specs.Figures.{is_handled, own_receipt, receipt_cmp, unused, unused_with, use_of}
use Rattle.sim_report.proofs.Kept.{AreOrdered, Keeps, any-keeps, insert-keeps, insert-skips, ordered-insert, ordered-remove, remove-keeps, remove-skips}
use Rattle.sim_report.proofs.Marked.{any-is}

receipts_total : IsTotalOrder receipt_cmp
receipts_total = then_total (on_total (λ (r : ℕ × ℕ). r.0) nat_cmp_total) (on_total (λ (r : ℕ × ℕ). r.1) nat_cmp_total)

-- two receipts are equal if both their numbers are
equal-then : (a b : Ordering) → ordering_then a b ≡ Equal → (a ≡ Equal) × (b ≡ Equal)
equal-then Less b e = absurd (cc)
equal-then Equal b e = (refl, e)
equal-then Greater b e = absurd (cc)

equal-count : (r q : ℕ × ℕ) → receipt_cmp r q ≡ Equal → r ≡ q
equal-count r q e =
    let parts = equal-then (nat_cmp r.0 q.0) (nat_cmp r.1 q.1) e in
    let number = exact_unsigned r.0 q.0 parts.0 in
    let count = exact_unsigned r.1 q.1 parts.1 in
    ap (λ (n : ℕ). (n, r.1)) number ∙ ap (λ (n : ℕ). (q.0, n)) count

then-equal : (o : Ordering) → ordering_then o Equal ≡ o
then-equal Less = refl
then-equal Equal = refl
then-equal Greater = refl

-- receipts of a first receive are in the order of their messages
some-first : (r : ℕ × ℕ) (n : ℕ) → first_receipt r ≡ Some n → (r.1 ≡ 1) × (r.0 ≡ n)
some-first r n e = go (r.1 == 1) refl e
  where
    go : (b : Bool) → (r.1 == 1) ≡ b → cond b (Some r.0) None ≡ Some n → (r.1 ≡ 1) × (r.0 ≡ n)
    go true f g = (grind (arith, nat_tests), cc)
    go false f g = absurd (cc)

first-agree : (r q : ℕ × ℕ) (n m : ℕ) → first_receipt r ≡ Some n → first_receipt q ≡ Some m → receipt_cmp r q ≡ nat_cmp n m
first-agree r q n m e f =
    let a = some-first r n e in
    let b = some-first q m f in
    ap (λ c. ordering_then (nat_cmp r.0 q.0) (nat_cmp c q.1)) a.0 ∙ ap (λ c. ordering_then (nat_cmp r.0 q.0) (nat_cmp 1 c)) b.0
    ∙ then-equal (nat_cmp r.0 q.0) ∙ ap (λ k. nat_cmp k q.0) a.1 ∙ ap (λ k. nat_cmp n k) b.1

firsts : Keeps receipt_cmp nat_cmp first_receipt
firsts = record { total = receipts_total; agree = first-agree; alike = λ r q e. ap first_receipt (equal-count r q e) }

some-later : (r q : ℕ × ℕ) → later_receipt r ≡ Some q → r ≡ q
some-later r q e = go (r.1 == 1) e
  where
    go : (b : Bool) → cond b None (Some r) ≡ Some q → r ≡ q
    go true g = absurd (cc)
    go false g = cc

laters : Keeps receipt_cmp receipt_cmp later_receipt
laters =
    record {
      total = receipts_total;
      agree = λ r q s t e f. ap (λ x. receipt_cmp x q) (some-later r s e) ∙ ap (λ x. receipt_cmp s x) (some-later q t f);
      alike = λ r q e. ap later_receipt (equal-count r q e);
    }

-- the unused receipts are in their order
ordered-with : (what : Use) (receipt : Option (ℕ × ℕ)) (rs : List (ℕ × ℕ)) → AreOrdered receipt_cmp rs → AreOrdered receipt_cmp (unused_with what receipt rs)
ordered-with what None rs o = o
ordered-with Gives (Some r) rs o = ordered-insert receipt_cmp receipts_total rs r o
ordered-with Passes (Some r) rs o = o
ordered-with Deletes (Some r) rs o = ordered-remove receipt_cmp (is_at (receipt_cmp r)) rs o
ordered-with Calls (Some r) rs o = ordered-remove receipt_cmp (is_at (receipt_cmp r)) rs o
ordered-with Fails (Some r) rs o = ordered-remove receipt_cmp (is_at (receipt_cmp r)) rs o

ordered-after : (rs : List (ℕ × ℕ)) (rows : List Row) → AreOrdered receipt_cmp rs
    → AreOrdered receipt_cmp (fold (λ rs (row : Row). unused_with (use_of row.kind row.answer) (own_receipt row) rs) rs rows)
ordered-after rs [] o = o
ordered-after rs (row ∷ rows) o =
    let what = use_of row.kind row.answer in
    ordered-after (unused_with what (own_receipt row) rs) rows (ordered-with what (own_receipt row) rs o)

-- both parts after one more row
parts-given : (r : ℕ × ℕ) (rs : List (ℕ × ℕ)) (b : Bool) → (r.1 == 1) ≡ b → AreOrdered receipt_cmp rs
    → unused_parts (unused_with Gives (Some r) rs) ≡ unused_next Gives (Some r) (unused_parts rs)
parts-given r rs true e o =
    let here : first_receipt r ≡ Some r.0 = ap (λ b. cond b (Some r.0) None) e in
    let no : later_receipt r ≡ None = ap (λ b. cond b None (Some r)) e in
    rw (insert-keeps firsts rs r r.0 here o, insert-skips laters rs r no, e) refl
parts-given r rs false e o =
    let no : first_receipt r ≡ None = ap (λ b. cond b (Some r.0) None) e in
    let here : later_receipt r ≡ Some r = ap (λ b. cond b None (Some r)) e in
    rw (insert-skips firsts rs r no, insert-keeps laters rs r r here o, e) refl

parts-used : (r : ℕ × ℕ) (rs : List (ℕ × ℕ)) (b : Bool) → (r.1 == 1) ≡ b
    → unused_parts (unused_with Fails (Some r) rs) ≡ unused_next Fails (Some r) (unused_parts rs)
parts-used r rs true e =
    let here : first_receipt r ≡ Some r.0 = ap (λ b. cond b (Some r.0) None) e in
    let no : later_receipt r ≡ None = ap (λ b. cond b None (Some r)) e in
    rw (remove-keeps firsts rs r r.0 here, remove-skips laters rs r no, e) refl
parts-used r rs false e =
    let no : first_receipt r ≡ None = ap (λ b. cond b (Some r.0) None) e in
    let here : later_receipt r ≡ Some r = ap (λ b. cond b None (Some r)) e in
    rw (remove-skips firsts rs r no, remove-keeps laters rs r r here, e) refl

parts-kept : (b : Bool) (u : Unused) → u ≡ cond b u u
parts-kept true u = refl
parts-kept false u = refl

parts-with : (what : Use) (receipt : Option (ℕ × ℕ)) (rs : List (ℕ × ℕ)) → AreOrdered receipt_cmp rs
    → unused_parts (unused_with what receipt rs) ≡ unused_next what receipt (unused_parts rs)
parts-with what None rs o = refl
parts-with Gives (Some r) rs o = parts-given r rs (r.1 == 1) refl o
parts-with Passes (Some r) rs o = parts-kept (r.1 == 1) (unused_parts rs)
parts-with Deletes (Some r) rs o = parts-used r rs (r.1 == 1) refl
parts-with Calls (Some r) rs o = parts-used r rs (r.1 == 1) refl
parts-with Fails (Some r) rs o = parts-used r rs (r.1 == 1) refl

pub parts-push : (rows : List Row) (row : Row) → unused_parts (unused (rows ++ row ∷ [])) ≡ unused_next (use_of row.kind row.answer) (own_receipt row) (unused_parts (unused rows))
parts-push rows row =
    ap unused_parts (fold_push (λ rs (r : Row). unused_with (use_of r.kind r.answer) (own_receipt r) rs) [] rows row)
    ∙ parts-with (use_of row.kind row.answer) (own_receipt row) (unused rows) (ordered-after [] rows tt)

-- whether a receive is handled, by both parts
has-parts : (r : ℕ × ℕ) (rs : List (ℕ × ℕ)) (b : Bool) → (r.1 == 1) ≡ b → is_handled Calls (Some r) rs ≡ handled_in Calls (Some r) (unused_parts rs)
has-parts r rs true e =
    let here : first_receipt r ≡ Some r.0 = ap (λ b. cond b (Some r.0) None) e in
    rw (any-keeps firsts rs r r.0 here, any-is r.0 (filter_map first_receipt rs), e) refl
has-parts r rs false e =
    let here : later_receipt r ≡ Some r = ap (λ b. cond b None (Some r)) e in
    rw (any-keeps laters rs r r here, e) refl

pub handled-parts : (what : Use) (receipt : Option (ℕ × ℕ)) (rs : List (ℕ × ℕ)) → is_handled what receipt rs ≡ handled_in what receipt (unused_parts rs)
handled-parts Calls (Some r) rs = has-parts r rs (r.1 == 1) refl
handled-parts Calls None rs = refl
handled-parts Deletes (Some r) rs = refl
handled-parts Deletes None rs = refl
handled-parts Gives receipt rs = refl
handled-parts Fails receipt rs = refl
handled-parts Passes receipt rs = refl
