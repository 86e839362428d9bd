use Rattle.std.proofs.Common.{◌≡◌, ◌∷◌, map, take}
use Rattle.std.specs.Prelude.{codes}
use Rattle.sim_report.proofs.writing.header_fields.Given as goal

abbrev pub invariant-loop-name : goal.invariant-loop-name
invariant-loop-name l = map (λ f. f.now) l.fields.items ≡ codes "report" ∷ codes "queue" ∷ map (λ n. n.now) (take l.name-index l.name-items)
