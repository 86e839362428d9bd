-- What a page asks for, by the options that it hands over.
use Rattle.std.specs.Prelude.{Bool, None, Option, Some, if◌then◌else◌}
use Rattle.sim_report.specs.declared.asked.Wanted.{Wanted}
use Rattle.sim_scenario.specs.declared.draft.Newest.{Newest}
use Rattle.sim_scenario.specs.declared.draft.Newest.TheVariants.{Second, Third}
use Rattle.sqs_page.specs.declared.asked.Asked.{Asked}
use Rattle.sqs_page.specs.declared.asked.PageOptions.{PageOptions}

-- the newest version of scenarios that a page reads: version 3 if it asks for it
abbrev pub newest_if : Bool → Newest
newest_if version_3 = if version_3 then Third else Second

-- what is wanted of figures, if they are wanted
abbrev pub wanted_by : PageOptions → Option Wanted
wanted_by o =
    if o.figures
    then Some (record {
      stretch = record { from = o.from; until = o.until };
      backlog = o.backlog;
      window = o.window;
    })
    else None

-- what options ask of a rehearsal
abbrev pub asked_by : PageOptions → Asked
asked_by o = record { newest = newest_if o.version_3; figures = wanted_by o }

-- what is asked of it without options: version 1 or 2, and no figures
abbrev pub plain : Asked
plain = record { newest = Second; figures = None }
