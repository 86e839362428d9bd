use Rattle.std.proofs.Common.{List, ℕ, ◌≡◌, ◌+◌, ◌-◌, ◌≤◌, ◌++◌, ◌∙◌, ap, arith, drop, take}
use Rattle.std.proofs.lemmas.List.{drop-drop, drop-take}
use Rattle.sim_records.proofs.Plain.{put_tail}
use Rattle.sim_records.proofs.word.put_again.Goals as goal

-- the last of sixteen bytes
last_of : (text : List ℕ) (from len : ℕ) → len ≤ 16 → 16 ≤ from → drop (16 - len) (take (from + len - (from + len - 16)) (drop (from + len - 16) text)) ≡ take len (drop from text)
last_of text from len short far =
    let all : from + len - (from + len - 16) ≡ (16 - len) + len = omega (arith, short, far) in
    ap (λ (n : ℕ). drop (16 - len) (take n (drop (from + len - 16) text))) all
    ∙ drop-take (16 - len) len (drop (from + len - 16) text)
    ∙ ap (take len) (drop-drop (16 - len) (from + len - 16) text ∙ ap (λ (n : ℕ). drop n text) (omega (arith, short, far)))

pub returns-clause-written : goal.returns-clause-written
returns-clause-written c =
    let put = c.copy_from_slice.new.self in
    put_tail c.args.text.now c.put_bytes.new.text put c.args.end c.args.len c.requires.room c.requires.short c.put_bytes.ensures.long c.put_bytes.ensures.written
    ∙ ap (λ t. drop (16 - c.args.len) t ++ drop c.args.end c.args.text.now) c.copy_from_slice.ensures.after
    ∙ ap (λ t. t ++ drop c.args.end c.args.text.now) (last_of c.args.text.now c.args.from c.args.len c.requires.short (omega (arith, c.requires.room, c.requires.behind)))
