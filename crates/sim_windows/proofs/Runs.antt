-- How a run goes on, handling by handling.
use Rattle.std.specs.Prelude.{All, IsNone, List, None, Option, Some, suc, zero, ℕ, ◌++◌, ◌+◌, ◌-◌, ◌<◌, ◌≡◌, ◌≤◌}
use Rattle.std.proofs.Common.{[], ap, append_assoc, arith, refl, sym, ◌∙◌}
use Rattle.std.proofs.lemmas.Bool.{lt-leb}
use Rattle.std.proofs.lemmas.List.{append-nil}
use Rattle.sim_clock.specs.declared.key.Key.{Key}
use Rattle.sim_engine.specs.Engine.{Engine}
use Rattle.sim_engine.specs.Laws.{Conditions, SiteLaws}
use Rattle.sim_engine.specs.World.{Run, after, handled_among, next_due, run_on, stepped, stepped_at, world_due}
use Rattle.sim_engine.proofs.Ends.{Stepping, next_is, step_falls}
use Rattle.sim_engine.proofs.Counts.{tick, tick_now, tick_past}
use Rattle.sim_engine.proofs.WorldMoves.{tick_key, world_count, world_none}
use Rattle.sim_partition.specs.Sites.{IsFrom, IsLater}
use Rattle.sim_partition.proofs.Moments.{from_by}
use Rattle.sim_windows.specs.Worlds.{due_at, sites_after}

module _ {Site Row Transfer : Type 0} {engine : Engine Site Row Transfer} {conditions : Conditions Site Transfer} (basics : SiteLaws engine conditions) where
  open engine use {transfer_key}
  open conditions use {Sound}

  -- where something is due by its moment, less is afterwards
  pub smaller :
      (key : Key) (moment : ℕ) (w x : List Site) → moment ≤ key.at → key.at ≤ moment → All Sound w → world_due engine w ≡ Some key
      → x ≡ sites_after engine key w → world_count basics moment x < world_count basics moment w
  smaller key moment w x l m h d e =
      let f : Stepping basics key moment w (sites_after engine key w) = step_falls basics key moment w l h d in
      let n : world_count basics moment (sites_after engine key w) + tick moment key.at ≤ world_count basics moment w = f.fewer in
      let t : tick moment key.at ≡ 1 = tick_now moment key.at m in
      rw e (omega arith)

  -- nothing is due before the present, and nothing comes to be
  none_before : (moment e : ℕ) (sites : List Site) (o : Option Key) → world_due engine sites ≡ o → IsFrom moment o → e < moment → world_count basics e sites ≡ 0
  none_before moment e sites None d f l = world_none basics e sites (ap (tick_key e) d)
  none_before moment e sites (Some k) d f l = world_none basics e sites (ap (tick_key e) d ∙ tick_past e k.at (omega (arith, f)))

  pub from_after :
      (key : Key) (moment : ℕ) (w x : List Site) → moment ≤ key.at → All Sound w → world_due engine w ≡ Some key → IsFrom moment (world_due engine w)
      → x ≡ sites_after engine key w → IsFrom moment (world_due engine x)
  from_after key moment w x l h d f e =
      let y : List Site = sites_after engine key w in
      let s : Stepping basics key 0 w y = step_falls basics key 0 w (omega arith) h d in
      rw e (from_by basics moment y (world_due engine y) refl s.sound
      (λ i k.
      let z : world_count basics i w ≡ 0 = none_before moment i w (world_due engine w) refl f k in
      let g : Stepping basics key i w y = step_falls basics key i w (omega arith) h d in
      let n : world_count basics i y + tick i key.at ≤ world_count basics i w = g.fewer in omega arith))

  -- the run of one handling
  pub one_after : (horizon : ℕ) (key : Key) (w : List Site) → world_due engine w ≡ Some key → key.at ≤ horizon → after engine horizon (suc zero) w ≡ run_on engine [] (handled_among engine key w)
  one_after horizon key w d l = next_is basics horizon w key (after engine horizon zero w) d l

  -- a run with rows before its own
  abbrev pub behind : List Row → Run engine → Run engine
  behind rows r = record { sites = r.sites; rows = rows ++ r.rows }

  behind_at : (rows : List Row) (r : Run engine) (o : Option Key) → stepped_at engine (behind rows r) o ≡ behind rows (stepped_at engine r o)
  behind_at rows r None = refl
  behind_at rows r (Some key) =
      let x : Run engine = run_on engine r.rows (handled_among engine key r.sites) in
      let run : List Row → Run engine = λ xs. record { sites = x.sites; rows = xs } in ap run (append_assoc rows r.rows (handled_among engine key r.sites).rows)

  -- handlings after handlings
  pub joined : (horizon m n : ℕ) (start : List Site) → after engine horizon (m + n) start ≡ behind (after engine horizon n start).rows (after engine horizon m (after engine horizon n start).sites)
  joined horizon zero n start =
      let e : 0 + n ≡ n = omega arith in
      let x : Run engine = after engine horizon n start in
      let run : List Row → Run engine = λ xs. record { sites = x.sites; rows = xs } in
      ap (λ k. after engine horizon k start) e ∙ ap run (sym (append-nil x.rows))
  joined horizon (suc m) n start =
      let e : suc m + n ≡ suc (m + n) = omega arith in
      let x : Run engine = after engine horizon n start in
      let y : Run engine = after engine horizon m x.sites in
      ap (λ k. after engine horizon k start) e ∙ ap (stepped engine horizon) (joined horizon m n start) ∙ behind_at x.rows y (next_due engine horizon y.sites)

  -- where nothing is due any more nothing changes
  stays_at : (r : Run engine) (o : Option Key) → IsNone o → stepped_at engine r o ≡ r
  stays_at r None h = refl
  stays_at r (Some key) h = cc

  -- a run that has come to its end stays there
  pub stays : (horizon k m : ℕ) (start : List Site) → IsNone (next_due engine horizon (after engine horizon m start).sites) → after engine horizon (k + m) start ≡ after engine horizon m start
  stays horizon zero m start h = let e : 0 + m ≡ m = omega arith in ap (λ i. after engine horizon i start) e
  stays horizon (suc k) m start h =
      let e : suc k + m ≡ suc (k + m) = omega arith in
      ap (λ i. after engine horizon i start) e ∙ ap (stepped engine horizon) (stays horizon k m start h) ∙ stays_at (after engine horizon m start) (next_due engine horizon (after engine horizon m start).sites) h

  -- nothing is due by a horizon that the least is past
  pub none_by : (horizon : ℕ) (key : Key) (w : List Site) → world_due engine w ≡ Some key → horizon < key.at → next_due engine horizon w ≡ None
  none_by horizon key w d l = rw (d, lt-leb key.at horizon l) refl

  -- what is due later is sooner to a horizon
  sooner_by : (horizon : ℕ) (key : Key) (o : Option Key) → key.at ≤ horizon → IsLater key.at o → horizon + 1 - due_at horizon o < horizon + 1 - key.at
  sooner_by horizon key None l h = omega arith
  sooner_by horizon key (Some k) l h = omega (arith, h)

  pub sooner : (horizon : ℕ) (key : Key) (w : List Site) (o : Option Key) → world_due engine w ≡ Some key → key.at ≤ horizon → IsLater key.at o → horizon + 1 - due_at horizon o < horizon + 1 - due_at horizon (world_due engine w)
  sooner horizon key w o d l h = rw d (sooner_by horizon key o l h)
