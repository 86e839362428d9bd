use Rattle.std.proofs.Common.{List, ap, arith, length, refl, rules, set, sym, ◌∙◌, ◌≡◌}
use Rattle.std.proofs.lemmas.List.{get_or_read_under, set-get_or}
use Rattle.sim_index.specs.declared.mark.Mark.{Mark}
use Rattle.sim_index.specs.Marks.{no_mark, node}
use Rattle.sim_index.proofs.marks.Marks.put.Goals as goal

pub returns-then-eq : goal.returns-then-eq
returns-then-eq c =
    let marks : List Mark = c.self.inside.marks.items in
    let read : c.index-then-index-rank.result.now ≡ node marks c.args.place = get_or_read_under marks c.args.place (length marks) c.index-then-index-rank.result.now no_mark c.index-then-index-rank.ensures (omega (arith, c.requires, ap length c.self.view_is)) refl in
    let same : c.index-then-index-rank.result.now ≡ c.args.mark.now = search rules in
    let there : node c.args.self.now c.args.place ≡ c.args.mark.now = ap (λ (ms : List Mark). node ms c.args.place) (sym c.self.view_is) ∙ sym read ∙ same in
    sym (set-get_or c.args.self.now c.args.place no_mark) ∙ ap (set c.args.self.now c.args.place) there
