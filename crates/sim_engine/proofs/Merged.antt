-- The rows of a finished machine's partitions, merged, are those of the one-list run.
use Rattle.std.specs.List.{range_with_len}
use Rattle.std.specs.Ordering.{is_eq, ordering_then}
use Rattle.std.specs.declared.cmp.Ordering.{Ordering}
use Rattle.std.specs.Prelude.{Bool, List, None, Option, Some, [], false, filter, map, suc, true, zero, ℕ, ◌++◌, ◌<◌, ◌==◌, ◌∷◌, ◌≡◌, ◌≤◌}
use Rattle.std.proofs.Common.{Equal, Greater, Less, ap, arith, refl, subst, sym, ◌∙◌}
use Rattle.std.proofs.lemmas.Bool.{eq-eqb, eqb-true}
use Rattle.std.proofs.lemmas.List.Elements.{filter-append}
use Rattle.sim_clock.specs.declared.key.Key.{Key}
use Rattle.sim_clock.specs.Order.{IsInOrder}
use Rattle.sim_clock.proofs.Orderings.{nat_tied}
use Rattle.sim_engine.specs.World.{world_due, Run, Stepped, handled_among, next_due, stepped_at}
use Rattle.sim_engine.specs.Laws.{Conditions, IsRowOf, SiteLaws}
use Rattle.sim_engine.specs.Machine.{of_name}
use Rattle.sim_engine.specs.Merge.{merged_all, row_cmp}
use Rattle.sim_engine.specs.Parts.{Entry, handled_in, has_due}
use Rattle.sim_engine.proofs.Landing.{part_stepped, told_at}
use Rattle.sim_engine.specs.Theorems.{rows_by, rows_of}
use Rattle.sim_engine.proofs.Merge.{merged_whole}
use Rattle.sim_engine.proofs.OneList.{IsTurns, Turn, due_is, turn, turns, run_after}
use Rattle.sim_engine.specs.Members.{Each}
use Rattle.sim_engine.proofs.Parts.{each_weaker, has_of}
use Rattle.sim_engine.proofs.Rows.{InOrder, next_order, row_total}
use Rattle.sim_engine.proofs.Worlds.{GoesOn, May, SentFrom, goes_on, IsRunBy, run_log}
use Rattle.sim_engine.specs.Engine.{Engine}
use Rattle.sim_engine.proofs.Premises.{Premises}
use Rattle.sim_engine.specs.Setting.{IsRunOf}
use Rattle.sim_engine.proofs.Numbered.{numbered_ascends}
use Rattle.sim_engine.proofs.Branches.{by_cases}

-- two rows that tie are of one site
both_eq : (o p : Ordering) → is_eq (ordering_then o p) ≡ true → is_eq p ≡ true
both_eq Less p h = cc
both_eq Equal p h = h
both_eq Greater p h = cc

module _ {Site Row Transfer : Type 0} {engine : Engine Site Row Transfer} {conditions : Conditions Site Transfer} (basics : SiteLaws engine conditions) where
  open engine use {number, handled, transfer_key, row_site}

  pub tied_site : (a b : Row) → is_eq (row_cmp engine a b) ≡ true → (row_site a) ≡ (row_site b)
  tied_site a b h = nat_tied (row_site a) (row_site b) (both_eq _ _ h)

module _ {Site Row Transfer : Type 0} {engine : Engine Site Row Transfer} {conditions : Conditions Site Transfer} (given : Premises engine conditions) where
  open engine use {number, handled, transfer_key, row_site}
  open given use {basics, setting, Fine, sound, owner, parts, owned}

  -- 1. the rows of the one-list run are in order
  pub sent_later : (p : ℕ) (k : Key) (o : Transfer) → SentFrom given p k o → k.at < (transfer_key o).at
  sent_later p k o f = let l : 1 ≤ f.sent.way.least = sound.laws.takes_time f.sent.way f.sent.there in omega (arith, f.sent.late)

  all_later : (key : Key) (w : List Site) → Each Fine w → world_due engine w ≡ Some key → Each (λ o. key.at < (transfer_key o).at) (handled_among engine key w).sent
  all_later key w h d =
      let t : Turn basics owner key w = turn basics owner key w d in
      let g : GoesOn given t.part key (handled_in engine owner t.part key w) = goes_on given t.part key w h in
      subst (λ (x : Stepped engine). Each (λ o. key.at < (transfer_key o).at) x.sent) t.same
      (each_weaker (SentFrom given t.part key) (λ o. key.at < (transfer_key o).at) (sent_later t.part key) (handled_in engine owner t.part key w).sent g.sent)

  step_order : (r : Run engine) (d : Option Key) → Each Fine r.sites → next_due engine setting.horizon r.sites ≡ d → InOrder given r → InOrder given (stepped_at engine r d)
  step_order r None f e i = i
  step_order r (Some key) f e i =
      let x : (world_due engine r.sites ≡ Some key) × (key.at ≤ setting.horizon) = due_is basics setting.horizon (world_due engine r.sites) key e in
      next_order given key r f (all_later key r.sites f x.0) x.0 i

  run_order : (n : ℕ) → InOrder given (run_after given n)
  run_order zero = record { order = tt; ahead = tt; numbered = numbered_ascends engine 0 setting.opening sound.numbered }
  run_order (suc n) = step_order (run_after given n) _ (turns given n).fine refl (run_order n)

  pub rows_ordered : (r : Run engine) → IsRunOf engine setting r → IsInOrder (row_cmp engine) r.rows
  rows_ordered r w = subst (λ (x : Run engine). IsInOrder (row_cmp engine) x.rows) w.reached (run_order w.steps).order

  -- 2. the rows of a partition are those of its sites
  abbrev pub IsOf : ℕ → Row → Type 0
  IsOf p r = owner (row_site r) ≡ p

  rows_own : (p : ℕ) (k : Key) (w : List Site) → Each Fine w → Each (IsOf p) (handled_in engine owner p k w).rows
  rows_own p k [] h = tt
  rows_own p k (s ∷ ss) h =
      by_cases (has_due engine owner p k s)
      (λ e.
      let o : owner (number s) ≡ p = eqb-true (owner (number s)) p (has_of basics owner p k s e) in
      rw e (each_weaker (IsRowOf engine k (number s)) (IsOf p) (λ r x. ap owner x.site_is ∙ o) (handled k s).rows (sound.laws.rows k s h.0)))
      (λ e. rw e (rows_own p k ss h.1))

  -- whether each entry's rows are of its partition
  abbrev pub Owned : ℕ × Entry engine → Type 0
  Owned x = Each (IsOf x.0) x.1.rows

  pub log_owned : (ps : List ℕ) (w : List Site) → IsRunBy given ps w → Each Owned (run_log given ps w)
  log_owned [] w h = tt
  log_owned (p ∷ ps) w h =
      let m : May given p w = h.0 in
      (subst (λ (d : Option Key). Each (IsOf p) (told_at basics owner p w d).rows) (sym m.due) (rows_own p m.key w m.fine), log_owned ps (part_stepped basics owner p w) h.1)

  abbrev pub of_part : ℕ → Row → Bool
  of_part p r = owner (row_site r) == p

  all_kept : (p : ℕ) (rs : List Row) → Each (IsOf p) rs → filter (of_part p) rs ≡ rs
  all_kept p [] h = refl
  all_kept p (r ∷ rs) h = rw (eq-eqb (owner (row_site r)) p h.0, all_kept p rs h.1) refl

  none_kept : (p q : ℕ) (rs : List Row) → (q == p) ≡ false → Each (IsOf q) rs → filter (of_part p) rs ≡ []
  none_kept p q [] n h = refl
  none_kept p q (r ∷ rs) n h = rw (ap (λ k. k == p) h.0 ∙ n) (none_kept p q rs n h.1)

  pub part_rows : (p : ℕ) (l : List (ℕ × Entry engine)) → Each Owned l → filter (of_part p) (rows_of engine l) ≡ rows_of engine (of_name p l)
  part_rows p [] h = refl
  part_rows p (x ∷ xs) h =
      filter-append (of_part p) x.1.rows (rows_of engine xs)
      ∙ ap (λ z. filter (of_part p) x.1.rows ++ z) (part_rows p xs h.1)
      ∙ by_cases (x.0 == p) (λ e. rw (e, all_kept p x.1.rows (each_weaker (IsOf x.0) (IsOf p) (λ r k. k ∙ eqb-true x.0 p e) x.1.rows h.0)) refl)
      (λ e. rw (e, none_kept p x.0 x.1.rows e h.0) refl)

  -- what the one-list run told has the rows of each partition by its name
  pub told_rows : (r : Run engine) (told : List (ℕ × Entry engine)) → IsTurns given told r → (p : ℕ) → rows_by engine told p ≡ filter (of_part p) r.rows
  told_rows r told t p =
      sym (part_rows p told (subst (Each Owned) t.told (log_owned t.names setting.opening t.runs))) ∙ ap (filter (of_part p)) (ap (rows_of engine) (sym t.told) ∙ t.rows)

  -- 3. rows in order, given by partitions, are those of the partitions merged
  below : (rs : List Row) → Each (λ r. owner (row_site r) < parts) rs
  below [] = tt
  below (r ∷ rs) = (owned (row_site r), below rs)

  map_same : {A B : Type 0} (f g : A → B) → ((x : A) → f x ≡ g x) → (xs : List A) → map f xs ≡ map g xs
  map_same f g e [] = refl
  map_same f g e (x ∷ xs) = ap (λ y. y ∷ map f xs) (e x) ∙ ap (λ z. g x ∷ z) (map_same f g e xs)

  pub merged_parts : (rows : List Row) (by : ℕ → List Row) → IsInOrder (row_cmp engine) rows → ((p : ℕ) → by p ≡ filter (of_part p) rows) → merged_all (row_cmp engine) (map by (range_with_len 0 parts)) ≡ rows
  merged_parts rows by order same =
      ap (merged_all (row_cmp engine)) (map_same by (λ p. filter (of_part p) rows) same (range_with_len 0 parts))
      ∙ merged_whole (row_total basics) (λ x. owner (row_site x)) (λ x y e. ap owner (tied_site basics x y e)) parts rows order (below rows)
