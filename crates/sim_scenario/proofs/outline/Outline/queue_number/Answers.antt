use Rattle.std.proofs.Common.{◌≡◌, ◌++◌, ◌∙◌, ℕ, List, Option, None, Some, ap, arith, drop, length-take, position, sym, take}
use Rattle.std.proofs.lemmas.List.{take-append-drop}
use Rattle.std.specs.Str.{bytes_eq}
use Rattle.sqs_formats.specs.Outline.{place_among}
use Rattle.sim_scenario.proofs.Firsts.{front_has, front_lacks, front_misses}
use Rattle.sim_scenario.proofs.outline.Outline.queue_number.Goals as goal

-- the first place among all names, those of the queues in front
among_all : (name : List ℕ) (names : List (List ℕ)) (count : ℕ) (place r : Option ℕ) → place ≡ place_among names name → place ≡ r → position (λ t. bytes_eq t name) (take count names ++ drop count names) ≡ r
among_all name names count place r e is = ap (λ ns. place_among ns name) (take-append-drop count names) ∙ sym e ∙ is

pub returns-in_err-number : goal.returns-in_err-number
returns-in_err-number c =
    let o = c.self.inside in
    let name = c.args.name.now in
    let all = among_all name o.names o.queue_count c.place.result None c.place.ensures c.in_err-number.was in
    c.from_residual.ensures ∙ sym (front_lacks (λ t. bytes_eq t name) (take o.queue_count o.names) (drop o.queue_count o.names) all) ∙ ap (λ q. place_among q.queues name) c.self.view_is

pub returns-then-number-self : goal.returns-then-number-self
returns-then-number-self c =
    let all = among_all c.args.name.now c.self.inside.names c.self.inside.queue_count c.place.result (Some c.in_ok-number.number) c.place.ensures c.in_ok-number.was in
    sym (front_has (λ t. bytes_eq t c.args.name.now) _ (drop c.self.inside.queue_count c.self.inside.names) c.in_ok-number.number all (omega (arith, length-take c.self.inside.queue_count c.self.inside.names, c.self.invariant, c.if-number-self.true)))
    ∙ ap (λ q. place_among q.queues c.args.name.now) c.self.view_is

pub returns-else-number-self : goal.returns-else-number-self
returns-else-number-self c =
    let all = among_all c.args.name.now c.self.inside.names c.self.inside.queue_count c.place.result (Some c.in_ok-number.number) c.place.ensures c.in_ok-number.was in
    sym (front_misses (λ t. bytes_eq t c.args.name.now) _ (drop c.self.inside.queue_count c.self.inside.names) c.in_ok-number.number all (omega (arith, length-take c.self.inside.queue_count c.self.inside.names, c.self.invariant, c.if-number-self.false)))
    ∙ ap (λ q. place_among q.queues c.args.name.now) c.self.view_is
