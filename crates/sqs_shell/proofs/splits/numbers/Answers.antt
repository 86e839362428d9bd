use Rattle.std.proofs.Common.{Bor, List, [], ap, drop, get_or, map, rules, sym, ℕ, ◌+◌, ◌++◌, ◌∙◌, ◌≡◌}
use Rattle.std.specs.Prelude.{None, option_map}
use Rattle.sqs_shell.specs.Splits.{numbers_of}
use Rattle.sqs_shell.proofs.Numbers.{no_more, one_more, texts_at}
use Rattle.sqs_shell.proofs.splits.numbers.Goals as goal

abbrev none : Bor (List ℕ)
none = record { ref_ptr = (0, 0); now = [] }

abbrev later : List (Bor (List ℕ)) → ℕ → List (List ℕ)
later texts i = map (λ t. t.now) (drop i texts)

pub returns-in-None : goal.returns-in-None
returns-in-None c =
    let at = texts_at c.args.texts.now c.loop-text.text-index none c.loop-text-test.true in
    let whole : numbers_of (map (λ t. t.now) c.args.texts.now) ≡ None =
    c.loop-text.invariant ∙ ap (λ l. option_map (λ ns. c.loop-text.numbers.items ++ ns) (numbers_of l)) at
    ∙ no_more c.loop-text.numbers.items (get_or c.args.texts.now c.loop-text.text-index none).now (later c.args.texts.now (c.loop-text.text-index + 1)) (sym c.in-None.ensures) in
    rw whole (search rules)

pub loop-text-preserved : goal.loop-text-preserved
loop-text-preserved c =
    let at = texts_at c.args.texts.now c.loop-text.text-index none c.loop-text-test.true in
    c.loop-text.invariant ∙ ap (λ l. option_map (λ ns. c.loop-text.numbers.items ++ ns) (numbers_of l)) at
    ∙ one_more c.loop-text.numbers.items (get_or c.args.texts.now c.loop-text.text-index none).now (later c.args.texts.now (c.loop-text.text-index + 1)) c.in-Some.number (sym c.in-Some.ensures)
    ∙ ap (λ (l : List ℕ). option_map (λ ns. l ++ ns) (numbers_of (later c.args.texts.now (c.loop-text.text-index + 1)))) (sym c.in_ok-push-in-Some.ensures.items)
