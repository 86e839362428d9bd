use Rattle.std.proofs.Common.{◌∙◌, ap, append-nil, map}
use Rattle.sqs_formats.specs.Targets.{target_keys}
use Rattle.sim_scenario.proofs.scalers.known_scaler_keys.Goals as goal

pub returns : goal.returns
returns c =
    let own = append-nil (map (λ k. k.now) c.target_keys-own.result.now) ∙ (c.target_keys-own.ensures ∙ ap target_keys c.has.ensures) in
    rw own at c.only.ensures
