-- The top table that the code holds.
use Rattle.std.specs.Prelude.{◌≤◌, ◌+◌, length, map}
use Rattle.toml.specs.View.{view}
use Rattle.sqs_formats.specs.Scenario.{Top}
use Rattle.sqs_model.specs.Valid.{Between}
use Rattle.sim_scenario.specs.declared.top.Top.{Top as Held}
use Rattle.sqs_formats.specs.Outline.{Outline, outline_of}

-- as the definitions have it
abbrev pub top_view : Held → Top
top_view h =
    record {
      version = h.version;
      horizon = h.horizon;
      seed = h.seed;
      sample = h.sample;
      queues = map view h.queues.now;
      actors = map view h.actors.now;
      tasks = map view h.tasks.now;
    }

-- the numbers of the top table are in range
pub record IsTop (t : Top) : Type 0 where
  pub horizon : Between 1 2592000000 t.horizon
  pub seed : t.seed ≤ 9223372036854775807
  pub sample : t.sample ≤ 2592000000
  pub few_queues : Between 1 1000 (length t.queues)
  pub few_agents : length t.actors + length t.tasks ≤ 10000

-- the outline of its lists
abbrev pub outline_of_top : Top → Outline
outline_of_top t = outline_of t.version t.queues t.actors t.tasks
