use Rattle.std.proofs.Common.{subst}
use Rattle.std.specs.Prelude.{MatchOption}
use Rattle.sim_clock.specs.Places.{IsAbsent, Stands, place_from_position}
use Rattle.sim_site.specs.Marked.{place_ends_at}
use Rattle.sim_site.proofs.Ending.{least_matched}
use Rattle.sim_site.proofs.polls.place_of_end.Goals as goal

pub returns-then-is_least : goal.returns-then-is_least
returns-then-is_least c = least_matched c.args.key c.args.places.now c.requires c.place_of_least.result (c.is_least.ensures c.if-is_least.true) c.place_of_least.ensures.first c.place_of_least.ensures.there

pub returns : goal.returns
returns c =
    subst (λ xs. MatchOption c.first_ending.result (IsAbsent (place_ends_at c.args.key) xs) (Stands (place_ends_at c.args.key) xs)) c.values.ensures.values
    (place_from_position (place_ends_at c.args.key) c.values.result.now _ c.first_ending.ensures)
