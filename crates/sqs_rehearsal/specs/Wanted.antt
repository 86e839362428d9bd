-- What is asked of the figures of a scenario.
use Rattle.std.specs.Prelude.{ℕ, ◌+◌, List, drop, length, map, min, zip}
use Rattle.sim_engine.specs.declared.edge.Edge.{Edge}
use Rattle.sim_report.specs.Figures.{FiguresAsked}
use Rattle.sim_report.specs.declared.asked.QueueAsked.{QueueAsked}
use Rattle.sim_report.specs.declared.asked.Wanted.{Wanted}
use Rattle.sim_report.specs.declared.asked.Way.{Way}
use Rattle.sim_report.specs.declared.stretch.Stretch.{Stretch}
use Rattle.sqs_redrive.specs.declared.settings.QueueSettings.{QueueSettings}
use Rattle.sqs_formats.specs.Output.{queue_names}
use Rattle.sqs_model.specs.Scenario.{Scenario, edges}

-- the names of a scenario's agents that are no queues
abbrev pub actor_names : Scenario → List (List ℕ)
actor_names s = drop (length s.queues) s.names

-- a queue by its name and its settings
abbrev pub queue_asked : List ℕ × QueueSettings → QueueAsked
queue_asked q = record { name = q.0; quota = q.1.in_flight_limit }

-- the way along an edge
abbrev pub way_of : Edge → Way
way_of e = record { from = e.from; to = e.to }

-- the part of a stretch that lies in a scenario's run
abbrev pub in_run : Scenario → Stretch → Stretch
in_run s stretch = record { from = stretch.from; until = min stretch.until (s.horizon + 1) }

-- what is asked of the figures of a scenario
abbrev pub figures_of : Scenario → Wanted → FiguresAsked
figures_of s w =
    record {
      queues = map queue_asked (zip (queue_names s) s.queues);
      actors = actor_names s;
      ways = map way_of (edges s);
      wanted = record w { stretch = in_run s w.stretch };
    }
