-- A finished machine has the last world of the one-list run, and each partition's handlings told what they told there.
use Rattle.std.specs.List.{list_all}
use Rattle.std.specs.Option.{is_some}
use Rattle.std.specs.Prelude.{IsNone, List, None, Option, Some, [], length, nat_le, not, true, ℕ, ◌+◌, ◌++◌, ◌<◌, ◌∷◌, ◌≡◌}
use Rattle.std.proofs.Common.{ap, append-nil, arith, refl, subst, sym, ◌∙◌}
use Rattle.std.proofs.lemmas.Bool.{and_parts}
use Rattle.sim_clock.specs.declared.key.Key.{Key}
use Rattle.sim_clock.specs.Order.{due_before}
use Rattle.sim_engine.specs.World.{world_due, Run, due_by, next_due}
use Rattle.sim_engine.specs.Machine.{Machine, flushed, is_finished, of_name}
use Rattle.sim_engine.specs.Parts.{Entry, part_due}
use Rattle.sim_engine.proofs.Landing.{part_stepped, told_by}
use Rattle.sim_engine.proofs.Confluence.{Joined}
use Rattle.sim_engine.proofs.Machines.{Follows}
use Rattle.sim_engine.proofs.OneList.{IsTurns, ended_before, ended_run, part_none, world_none_of}
use Rattle.sim_engine.proofs.Parts.{ComesBy, before_delivered, each_weaker}
use Rattle.sim_engine.specs.Members.{Each}
use Rattle.sim_engine.proofs.Worlds.{apart, IsRunBy, May, meet, run_log, run_world}
use Rattle.sim_engine.specs.Laws.{Conditions, SiteLaws}
use Rattle.sim_engine.specs.Engine.{Engine}
use Rattle.sim_engine.proofs.Premises.{Premises}

not_some_none : (d : Option Key) → not (is_some d) ≡ true → IsNone d
not_some_none None h = refl
not_some_none (Some k) h = cc

past_one : (horizon at : ℕ) → not (nat_le at horizon) ≡ true → horizon < at
past_one horizon at h = grind (arith, h)

by_before : (horizon : ℕ) (d : Option Key) → due_before (horizon + 1) d ≡ None → IsNone (due_by horizon d)
by_before horizon None h = refl
by_before horizon (Some k) h = grind (arith, h)

module _ {Site Row Transfer : Type 0} {engine : Engine Site Row Transfer} {conditions : Conditions Site Transfer} (basics : SiteLaws engine conditions) where
  open engine use {transfer_key}

  all_past : (horizon : ℕ) (os : List Transfer) → list_all (λ o. not (nat_le (transfer_key o).at horizon)) os ≡ true → Each (λ o. horizon < (transfer_key o).at) os
  all_past horizon [] h = tt
  all_past horizon (o ∷ os) h =
      let b : (not (nat_le (transfer_key o).at horizon) ≡ true) × (list_all (λ o. not (nat_le (transfer_key o).at horizon)) os ≡ true) = and_parts _ _ h in
      (past_one horizon (transfer_key o).at b.0, all_past horizon os b.1)

module _ {Site Row Transfer : Type 0} {engine : Engine Site Row Transfer} {conditions : Conditions Site Transfer} (given : Premises engine conditions) where
  open engine use {transfer_key}
  open given use {basics, setting, Fine, owner}

  -- nothing is left of a finished machine's world
  flushed_ends : (m : Machine engine) → is_finished engine setting.horizon m ≡ true → IsNone (next_due engine setting.horizon (flushed engine m))
  flushed_ends m h =
      let b : (not (is_some (next_due engine setting.horizon m.sites)) ≡ true) × (list_all (λ o. not (nat_le (transfer_key o).at setting.horizon)) m.waiting ≡ true) = and_parts _ _ h in
      let n : due_before (setting.horizon + 1) (world_due engine m.sites) ≡ None = ended_before given m.sites (not_some_none (next_due engine setting.horizon m.sites) b.0) in
      let past : Each (λ o. setting.horizon < (transfer_key o).at) m.waiting = all_past basics setting.horizon m.waiting b.1 in
      let each : (p : ℕ) → due_before (setting.horizon + 1) (part_due engine owner p (flushed engine m)) ≡ None =
      λ p.
      before_delivered basics owner p (setting.horizon + 1) m.waiting m.sites (each_weaker (λ (o : Transfer). setting.horizon < (transfer_key o).at) (ComesBy basics owner p (setting.horizon + 1)) (λ o l e. omega arith) m.waiting past)
      ∙ part_none basics owner (setting.horizon + 1) p m.sites n in
      by_before setting.horizon (world_due engine (flushed engine m)) (world_none_of basics owner (setting.horizon + 1) (flushed engine m) each (world_due engine (flushed engine m)) refl)

  -- a machine has come to the end of the one-list run
  pub record HasWhole (r : Run engine) (told : List (ℕ × Entry engine)) (m : Machine engine) : Type 0 where
    pub sites : flushed engine m ≡ r.sites
    pub parts : (p : ℕ) → of_name p m.told ≡ of_name p told

  log_length : (ps : List ℕ) (w : List Site) → length (run_log given ps w) ≡ length ps
  log_length [] w = refl
  log_length (p ∷ ps) w = omega (arith, log_length ps (part_stepped basics owner p w))

  -- the handlings that lead a machine to the end of the one-list run
  pub record Leads (r : Run engine) (told : List (ℕ × Entry engine)) (m : Machine engine) : Type 0 where
    pub names : List ℕ
    pub runs : IsRunBy given names (flushed engine m)
    pub sites : run_world given names (flushed engine m) ≡ r.sites
    pub tells : (p : ℕ) → of_name p m.told ++ of_name p (run_log given names (flushed engine m)) ≡ of_name p told
    pub count : length m.told + length names ≡ length told

  pub leads : (r : Run engine) (told : List (ℕ × Entry engine)) (m : Machine engine) → IsNone (next_due engine setting.horizon r.sites) → IsTurns given told r → Follows given m → Leads r told m
  leads r told m ended t f =
      let w : List Site = setting.opening in
      let j : Joined (part_stepped basics owner) (told_by basics owner) (May given) (apart given) f.names t.names w = meet given f.names t.names w f.runs t.runs in
      let y : j.second ≡ [] = ended_run given j.second (run_world given t.names w) (subst (λ z. IsNone (next_due engine setting.horizon z)) (sym t.sites) ended) j.second_runs in
      let c : length f.names + length j.first ≡ length t.names + length j.second = j.count in
      let cy : length j.second ≡ 0 = ap (λ l. length l) y in
      let mf : length (run_log given f.names w) ≡ length m.told = ap (λ l. length l) f.told in
      let mt : length (run_log given t.names w) ≡ length told = ap (λ l. length l) t.told in
      record {
        names = j.first;
        runs = subst (IsRunBy given j.first) f.sites j.first_runs;
        sites = ap (run_world given j.first) (sym f.sites) ∙ j.meets ∙ ap (λ l. run_world given l (run_world given t.names w)) y ∙ t.sites;
        tells = λ p.
            ap (λ l. of_name p l ++ of_name p (run_log given j.first (flushed engine m))) (sym f.told)
            ∙ ap (λ z. of_name p (run_log given f.names w) ++ of_name p (run_log given j.first z)) (sym f.sites)
            ∙ j.tells p
            ∙ ap (λ l. of_name p (run_log given t.names w) ++ of_name p (run_log given l (run_world given t.names w))) y
            ∙ append-nil (of_name p (run_log given t.names w))
            ∙ ap (of_name p) t.told;
        count = omega (arith, log_length f.names w, log_length t.names w);
      }

  -- a finished machine is there
  pub finished_whole : (r : Run engine) (told : List (ℕ × Entry engine)) (m : Machine engine) → is_finished engine setting.horizon m ≡ true → Leads r told m → HasWhole r told m
  finished_whole r told m h l =
      let x : l.names ≡ [] = ended_run given l.names (flushed engine m) (flushed_ends m h) l.runs in
      record {
        sites = ap (λ z. run_world given z (flushed engine m)) (sym x) ∙ l.sites;
        parts = λ p. sym (append-nil (of_name p m.told)) ∙ ap (λ z. of_name p m.told ++ of_name p (run_log given z (flushed engine m))) (sym x) ∙ l.tells p;
      }
