use Rattle.std.proofs.Common.{◌∙◌, ap}
use Rattle.sqs_formats.specs.Keys.{is_among}
use Rattle.sim_scenario.proofs.Firsts.{firsts_among}
use Rattle.sim_scenario.proofs.roster.Roster.has.Goals as goal

pub returns : goal.returns
returns c =
    c.contains_key.ensures
    ∙ firsts_among c.self.inside.firsts.entries c.self.inside.texts.items c.args.bytes.now c.self.invariant
    ∙ ap (λ texts. is_among texts c.args.bytes.now) c.self.view_is
