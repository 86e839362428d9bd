-- Queues from which others can be reached.
use Rattle.std.proofs.Common.{◌≡◌, ◌&&◌, ◌+◌, ◌<◌, not, ℕ, zero, suc, Bool, true, false, cond, List, [], ◌∷◌, fold, get_or, length, take, refl, sym, ap, ◌∙◌, arith}
use Rattle.std.proofs.Math.Seq.{take-suc}
use Rattle.std.proofs.lemmas.List.Sums.{fold_push}
use Rattle.sim_report.specs.declared.asked.Way.{Way}
use Rattle.sim_report.specs.Doors.{reach, reach_by}
use Rattle.sim_report.specs.Running.{changed}

-- a mark that is there
pub marked-again : (n : ℕ) (marks : List Bool) → get_or marks n false ≡ true → changed (λ m. true) n marks ≡ marks
marked-again n [] e = refl
marked-again zero (m ∷ marks) e = ap (λ (b : Bool). b ∷ marks) (sym e)
marked-again (suc n) (m ∷ marks) e = ap (λ (ms : List Bool). m ∷ ms) (marked-again n marks e)

-- a way that marks no more
pub no-more : (marks : List Bool) (way : Way) (b c : Bool) → get_or marks way.to false ≡ b → get_or marks way.from false ≡ c → (b && not c) ≡ false → reach_by marks way ≡ marks
no-more marks way false c d e h = ap (λ (b : Bool). cond b (changed (λ m. true) way.from marks) marks) d
no-more marks way true true d e h = ap (λ (b : Bool). cond b (changed (λ m. true) way.from marks) marks) d ∙ marked-again way.from marks e
no-more marks way true false d e h = cc

-- ways that mark no more, with one that does not either
pub closed-further : (marks : List Bool) (ways : List Way) (i : ℕ) (d : Way) → i < length ways → fold reach_by marks (take i ways) ≡ marks
    → (get_or marks (get_or ways i d).to false && not (get_or marks (get_or ways i d).from false)) ≡ false
    → fold reach_by marks (take (i + 1) ways) ≡ marks
closed-further marks ways i d h e t =
    let way = get_or ways i d in
    let next : i + 1 ≡ suc i = omega arith in
    ap (λ k. fold reach_by marks (take k ways)) next ∙ ap (fold reach_by marks) (take-suc ways i d h) ∙ fold_push reach_by marks (take i ways) way
    ∙ ap (λ (ms : List Bool). reach_by ms way) e ∙ no-more marks way (get_or marks way.to false) (get_or marks way.from false) refl refl t

-- marks that do not grow stay as they are
pub reach-same : (n : ℕ) (ways : List Way) (marks : List Bool) → fold reach_by marks ways ≡ marks → reach n ways marks ≡ marks
reach-same zero ways marks e = refl
reach-same (suc n) ways marks e = ap (reach n ways) e ∙ reach-same n ways marks e
