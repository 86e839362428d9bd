use Rattle.std.proofs.Common.{◌≡◌, ◌+◌, ◌++◌, ◌∷◌, [], List, ℕ, Vec, None, true, length, length-take, take, arith, ap, sym, subst, ◌∙◌, is_some}
use Rattle.std.specs.Global.{Global}
use Rattle.std.specs.Map.{lookup}
use Rattle.std.proofs.lemmas.List.{take_more}
use Rattle.std.specs.Str.{bytes_eq}
use Rattle.indexmap.proofs.CallerLemmas.{insert_entry-new}
use Rattle.sim_scenario.specs.Firsts.{AreFirsts}
use Rattle.sim_scenario.proofs.Firsts.{firsts_known, firsts_new, lacks}
use Rattle.std.proofs.lemmas.List.{take_all}
use Rattle.sqs_formats.specs.Outline.{place_among}
use Rattle.sim_scenario.proofs.roster.firsts_of.Goals as goal

pub loop-place-preserved-then-contains_key : goal.loop-place-preserved-then-contains_key
loop-place-preserved-then-contains_key c =
    let texts = c.args.texts.now in
    let place = c.loop-place.place in
    let text = c.index-texts-place.result in
    let entries : List (Vec ℕ Global × ℕ) = c.loop-place.firsts.entries in
    let more : take (place + 1) texts ≡ take place texts ++ text ∷ [] = take_more texts place text (omega (arith, c.loop-place-test.true)) ∙ ap (λ t. take place texts ++ t ∷ []) (sym c.index-texts-place.is) in
    let known : is_some (lookup (λ (k : Vec ℕ Global). bytes_eq text k.items) entries) ≡ true =
    ap (λ t. is_some (lookup (λ (k : Vec ℕ Global). bytes_eq t k.items) entries)) (sym c.as_bytes-bytes.ensures) ∙ sym c.contains_key.ensures ∙ c.if-contains_key.true in
    subst (AreFirsts entries) (sym more) (firsts_known entries (take place texts) text c.loop-place.invariant known)

pub loop-place-preserved : goal.loop-place-preserved
loop-place-preserved c =
    let texts = c.args.texts.now in
    let place = c.loop-place.place in
    let text = c.index-texts-place.result in
    let key = c.in_ok-key.key in
    let entries : List (Vec ℕ Global × ℕ) = c.loop-place.firsts.entries in
    let more : take (place + 1) texts ≡ take place texts ++ text ∷ [] = take_more texts place text (omega (arith, c.loop-place-test.true)) ∙ ap (λ t. take place texts ++ t ∷ []) (sym c.index-texts-place.is) in
    let is_text : key.items ≡ text = c.in_ok-key.ensures.items_if_clones_equal (λ x y e. e) ∙ c.as_bytes-bytes.ensures in
    let none : lookup (λ (k : Vec ℕ Global). bytes_eq key.items k.items) entries ≡ None =
    lacks (lookup (λ (k : Vec ℕ Global). bytes_eq key.items k.items) entries)
    (ap (λ t. is_some (lookup (λ (k : Vec ℕ Global). bytes_eq t k.items) entries)) (c.in_ok-key.ensures.items_if_clones_equal (λ x y e. e)) ∙ sym c.contains_key.ensures ∙ c.if-contains_key.false) in
    let at : length (take place texts) ≡ place = omega (arith, length-take place texts, c.loop-place-test.true) in
    let added : c.insert.new.self.entries ≡ entries ++ (key, length (take place texts)) ∷ [] =
    c.in_ok-insert.ensures.entries ∙ insert_entry-new (λ (x y : Vec ℕ Global). bytes_eq x.items y.items) c.loop-place.firsts key place none ∙ ap (λ n. entries ++ (key, n) ∷ []) (sym at) in
    subst (λ ts. AreFirsts c.insert.new.self.entries ts) (sym more)
    (subst (λ es. AreFirsts es (take place texts ++ text ∷ [])) (sym added) (firsts_new entries (take place texts) text key c.loop-place.invariant is_text))

pub returns : goal.returns
returns c = λ s. c.loop-place.invariant s ∙ ap (λ texts. place_among texts s) (take_all c.loop-place.place c.args.texts.now c.loop-place-test.false)
