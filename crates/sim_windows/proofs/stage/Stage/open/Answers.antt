use Rattle.std.specs.List.{range_with_len}
use Rattle.std.specs.Prelude.{List, Ok, Result, Vec, [], length, map, ℕ, ◌≡◌, ◌≤◌}
use Rattle.std.proofs.Common.{Global, ap, subst, sym, ◌∙◌}
use Rattle.std.proofs.lemmas.List.FromFn.{length-map-range_with_len}
use Rattle.sim_clock.specs.declared.refusal.Refusal.{Refusal}
use Rattle.sim_engine.specs.Bounds.{AreDistances}
use Rattle.sim_engine.specs.Engine.{Engine}
use Rattle.sim_engine.specs.declared.edge.Edge.{Edge}
use Rattle.sim_windows.specs.declared.kept.Kept.{Kept}
use Rattle.sim_engine.specs.Laws.{Conditions, SiteLaws}
use Rattle.sim_engine.specs.Limits.{most_count}
use Rattle.sim_engine.specs.Parts.{part_of}
use Rattle.sim_engine.specs.Setting.{IsNumbered, Setting}
use Rattle.sim_engine.specs.Simulated.{IsSimulated}
use Rattle.sim_exchange.specs.Layout.{IsLayout, Layout, owner_of}
use Rattle.sim_exchange.specs.Table.{Table, distance_in}
use Rattle.sim_partition.specs.Sites.{IsPart}
use Rattle.sim_windows.specs.Stages.{Stands, TakeTime, opened, standing_of}
use Rattle.sim_windows.proofs.Beginning.{opens, take_time}
use Rattle.sim_windows.proofs.Divided.{made_of, of_lists, opens_part}
use Rattle.sim_windows.proofs.stage.Stage.open.Goals as goal

pub open_parts-requires : goal.open_parts-requires
open_parts-requires g c =
    let engine = g.S.Site.engine in
    let inside = c.world.inside in
    let s : Setting _ = record { horizon = inside.horizon; opening = inside.sites.items; edges = inside.edges.items } in
    let sound : IsSimulated engine g.S.Site.conditions s = subst (IsSimulated engine g.S.Site.conditions) (sym c.world.view_is) c.requires.simulated in
    let owner = owner_of c.args.layout in
    of_lists (IsPart engine g.S.Site.conditions) c.in_ok-lists.lists.items (λ p. part_of engine owner p inside.sites.items) c.args.layout.parts (c.in_ok-lists.ensures sound.numbered) (λ p. opens_part g.met.S.Site.laws s sound owner p)

pub opened-requires-clause-parts : goal.opened-requires-clause-parts
opened-requires-clause-parts g c =
    let engine = g.S.Site.engine in
    let inside = c.world.inside in
    let s : Setting _ = record { horizon = inside.horizon; opening = inside.sites.items; edges = inside.edges.items } in
    let sound : IsSimulated engine g.S.Site.conditions s = subst (IsSimulated engine g.S.Site.conditions) (sym c.world.view_is) c.requires.simulated in
    let part : ℕ → List _ = λ p. part_of engine (owner_of c.args.layout) p inside.sites.items in
    let parts = made_of part c.args.layout.parts c.in_ok-lists.lists.items c.in_ok-parts.parts.items (c.in_ok-lists.ensures sound.numbered) c.in_ok-parts.ensures in
    ap (λ xs. length xs) c.deref-2.ensures.value ∙ ap (λ xs. length xs) parts
    ∙ length-map-range_with_len (λ p. let x : Result (List _) Refusal = Ok (part p) in x) 0 c.args.layout.parts ∙ sym c.in_ok-distances.ensures.parts

module _ {Site Row Transfer : Type 0} {engine : Engine Site Row Transfer} {conditions : Conditions Site Transfer} (basics : SiteLaws engine conditions) where
  -- what was made is a stage at which nothing was done
  opens_so :
      (s world : Setting Site) → s ≡ world → IsSimulated engine conditions world → world.horizon ≤ most_count → TakeTime world.edges
      → (l layout : Layout) → l ≡ layout → IsLayout l → (table : Table) → table.parts ≡ layout.parts
      → (ways : List Edge) → ways ≡ s.edges → AreDistances (owner_of layout) ways (distance_in table)
      → (lists : List (Vec Site Global)) (now parts : List (Result (List Site) Refusal)) → (IsNumbered engine 0 s.opening → map (λ l. l.items) lists ≡ map (λ p. part_of engine (owner_of layout) p s.opening) (range_with_len 0 layout.parts)) → parts ≡ map (λ l. Ok l.items) lists
      → now ≡ parts → (kept : Kept Site Row Transfer) → standing_of kept now ≡ opened engine layout table s.horizon now → Stands engine conditions world [] (standing_of kept parts)
  opens_so s world is simulated short ways l layout laid ok table many edges are distances lists now parts split parted read kept opens_as =
      let sound : IsSimulated engine conditions s = subst (IsSimulated engine conditions) (sym is) simulated in
      let range : s.horizon ≤ most_count = subst (λ (x : Setting Site). x.horizon ≤ most_count) (sym is) short in
      let timed : TakeTime s.edges = subst (λ (x : Setting Site). TakeTime x.edges) (sym is) ways in
      let apart : AreDistances (owner_of layout) s.edges (distance_in table) = subst (λ es. AreDistances (owner_of layout) es (distance_in table)) are distances in
      let opened_so : standing_of kept parts ≡ opened engine layout table s.horizon parts = subst (λ ps. standing_of kept ps ≡ opened engine layout table s.horizon ps) read opens_as in
      let all = made_of (λ p. part_of engine (owner_of layout) p s.opening) layout.parts lists parts (split sound.numbered) parted in
      subst (λ (x : Setting Site). Stands engine conditions x [] (standing_of kept parts)) is
      (subst (Stands engine conditions s []) (sym opened_so) (opens basics s sound layout (subst IsLayout laid ok) table many apart timed range parts all))

pub invariant_of-result : goal.invariant_of-result
invariant_of-result g c =
    let inside = c.world.inside in
    let s : Setting _ = record { horizon = inside.horizon; opening = inside.sites.items; edges = inside.edges.items } in
    let stands =
    opens_so g.met.S.Site.laws s c.args.world c.world.view_is c.requires.simulated c.requires.horizon (take_time c.args.world.edges c.requires.ways)
    _ c.args.layout c.layout.view_is c.layout.invariant c.in_ok-distances.distances c.in_ok-distances.ensures.parts _ c.deref.ensures.value c.in_ok-distances.ensures.distances
    c.in_ok-lists.lists.items _ c.in_ok-parts.parts.items c.in_ok-lists.ensures c.in_ok-parts.ensures c.deref-2.ensures.value c.in_ok-kept.kept c.in_ok-kept.ensures in
    record { setting = c.args.world; picks = []; stands = stands }

pub returns-clause-stands : goal.returns-clause-stands
returns-clause-stands g c =
    let inside = c.world.inside in
    let s : Setting _ = record { horizon = inside.horizon; opening = inside.sites.items; edges = inside.edges.items } in
    opens_so g.met.S.Site.laws s c.args.world c.world.view_is c.requires.simulated c.requires.horizon (take_time c.args.world.edges c.requires.ways)
    _ c.args.layout c.layout.view_is c.layout.invariant c.in_ok-distances.distances c.in_ok-distances.ensures.parts _ c.deref.ensures.value c.in_ok-distances.ensures.distances
    c.in_ok-lists.lists.items _ c.in_ok-parts.parts.items c.in_ok-lists.ensures c.in_ok-parts.ensures c.deref-2.ensures.value c.in_ok-kept.kept c.in_ok-kept.ensures
