use Rattle.std.proofs.Common.{ap, arith, drop, replicate, rules, ◌*◌, ◌-◌, ◌∙◌, ◌≡◌, ℕ}
use Rattle.std.proofs.lemmas.List.{drop-replicate}
use Rattle.sim_exchange.specs.Heads.{no_head}
use Rattle.sim_exchange.proofs.heads.Heads.new.Goals as goal

pub returns : goal.returns
returns c =
    let twice : c.in_ok-size.size ≡ c.args.width * 2 = search rules in
    let whole : c.in_ok-nodes.nodes.items ≡ replicate c.in_ok-size.size (no_head 0) = search rules in
    let half : c.in_ok-size.size - c.args.width ≡ c.args.width = omega (arith, twice) in
    ap (drop c.args.width) whole ∙ drop-replicate c.args.width c.in_ok-size.size (no_head 0) ∙ ap (λ (n : ℕ). replicate n (no_head 0)) half
