use Rattle.std.proofs.Common.{[], ap, arith, map, sym, ◌++◌, ◌∙◌, ◌∷◌}
use Rattle.std.proofs.lemmas.List.{map_push}
use Rattle.std.proofs.lemmas.List.FromFn.{map-range_with_len_more}
use Rattle.sim_engine.specs.Exchange.{to_part}
use Rattle.sim_exchange.proofs.transfers.no_lists.Goals as goal

pub loop-part-preserved : goal.loop-part-preserved
loop-part-preserved g c = λ owner.
    ap (map (λ v. v.items)) c.in_ok-push.ensures.items ∙ map_push (λ v. v.items) c.loop-part.lists.items c.new.result
    ∙ ap (λ z. map (λ v. v.items) c.loop-part.lists.items ++ z ∷ []) c.new.ensures.items
    ∙ ap (λ z. z ++ [] ∷ []) (c.loop-part.invariant owner)
    ∙ sym (map-range_with_len_more (λ p. to_part g.S.Site.engine owner p []) 0 c.loop-part._part c.loop-part._part (omega arith))
