use Rattle.std.proofs.Common.{List, arith, refl, subst, sym, ◌≡◌}
use Rattle.std.proofs.lemmas.Result.{IfOk-weaker}
use Rattle.sim_scenario.specs.declared.scenario.ScenarioParts.{ScenarioParts}
use Rattle.sqs_redrive.specs.declared.settings.QueueSettings.{QueueSettings}
use Rattle.sqs_model.specs.Scenario.{HasItsQueues, Scenario, numbered_actors, numbered_tasks, opening}
use Rattle.sqs_model.specs.Site.{Site}
use Rattle.sqs_rehearsal.specs.declared.opening.Home.{Home}
use Rattle.sqs_rehearsal.specs.Homes.{IsSettled}
use Rattle.sqs_rehearsal.proofs.Openings.{Opens, has_queues, opens, whole_of}
use Rattle.sqs_rehearsal.proofs.opening.opening_sites.Goals as goal

-- what is told of the sites of these homes
abbrev AreOpened : ScenarioParts → List QueueSettings → List Home → List Site → Type 0
AreOpened parts queues homes sites =
    (s : Scenario) → s.seed ≡ parts.seed → s.sample ≡ parts.sample → s.queues ≡ queues → IsSettled homes (numbered_actors s) (numbered_tasks s) → sites ≡ opening s

-- they are those that the scenario opens with
opened_all : (parts : ScenarioParts) (queues : List QueueSettings) (homes : List Home) (whole : Scenario) (sites : List Site)
    → Opens (whole_of parts) homes → queues ≡ parts.queues.items → whole_of parts ≡ whole → AreOpened parts queues homes sites → sites ≡ opening whole
opened_all parts queues homes whole sites o q same told = subst (λ s. sites ≡ opening s) same (told (whole_of parts) refl refl (sym q) o.settled)

pub open_sites-requires-clause-homes : goal.open_sites-requires-clause-homes
open_sites-requires-clause-homes c =
    let parts = c.into_parts-parts in
    (opens parts.result c.args.scenario c.len.result c.in_ok-homes.homes.items parts.ensures.value parts.ensures.range (omega (arith, c.len.ensures)) c.in_ok-homes.ensures.settled).fit

pub returns-clause-opened : goal.returns-clause-opened
returns-clause-opened c =
    let parts = c.into_parts-parts in
    let homes : List Home = c.in_ok-homes.homes.items in
    let o : Opens (whole_of parts.result) homes = opens parts.result c.args.scenario c.len.result homes parts.ensures.value parts.ensures.range (omega (arith, c.len.ensures)) c.in_ok-homes.ensures.settled in
    IfOk-weaker c.open_sites.result (λ sites. AreOpened parts.result c.as_slice.result.now homes sites.items) (λ sites. sites.items ≡ opening c.args.scenario)
    (λ sites told. opened_all parts.result c.as_slice.result.now homes c.args.scenario sites.items o c.as_slice.ensures.value parts.ensures.value told) c.open_sites.ensures.opened

pub returns-clause-has_queues : goal.returns-clause-has_queues
returns-clause-has_queues c =
    let parts = c.into_parts-parts in
    IfOk-weaker c.open_sites.result (λ sites. AreOpened parts.result c.as_slice.result.now c.in_ok-homes.homes.items sites.items) (λ _. HasItsQueues c.args.scenario)
    (λ _ _. has_queues c.args.scenario parts.ensures.range) c.open_sites.ensures.opened
