use Rattle.std.proofs.Common.{[], ap, map, ◌++◌, ◌∙◌, ◌∷◌}
use Rattle.sim_windows.proofs.parting.list_alone.Goals as goal

pub returns : goal.returns
returns given c =
    ap (map (λ l. l.items)) (c.in_ok-push.ensures.items ∙ ap (λ z. z ++ c.args.sites ∷ []) c.in_ok-lists.ensures.items)
