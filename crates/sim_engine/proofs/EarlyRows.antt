-- Where no partition may go on, the rows from before all bounds are those of the one-list run.
use Rattle.sim_engine.specs.World.{world_due, Run, Stepped}
use Rattle.std.specs.List.{range_with_len}
use Rattle.std.specs.Ordering.{is_lt, nat_cmp}
use Rattle.std.specs.Prelude.{Bool, List, None, Option, [], cond, false, filter, true, ℕ, ◌++◌, ◌<◌, ◌==◌, ◌∷◌, ◌≡◌, ◌≤◌, not, ◌&&◌, map}
use Rattle.std.proofs.Common.{ap, append-nil, append_assoc, arith, refl, subst, sym, ◌∙◌, true≢false}
use Rattle.std.proofs.lemmas.Bool.{le-ltb, ltb-false, cases_lt, ne_eqb}
use Rattle.std.proofs.lemmas.List.Elements.{filter-append}
use Rattle.sim_clock.specs.declared.key.Key.{Key}
use Rattle.sim_clock.specs.Order.{IsBefore, IsInOrder, due_before, key_cmp}
use Rattle.sim_clock.proofs.Orderings.{key_not_less, then_not_less}
use Rattle.std.proofs.Math.Bool.{and-true}
use Rattle.sim_engine.specs.Laws.{Conditions, IsRowOf, SiteLaws}
use Rattle.sim_engine.specs.Machine.{Machine, flushed, of_name}
use Rattle.sim_engine.specs.Merge.{merged_all, row_cmp}
use Rattle.sim_engine.specs.Parts.{Entry, handled_in, has_due, part_due, part_of}
use Rattle.sim_engine.proofs.Landing.{part_stepped, told_at}
use Rattle.sim_engine.specs.Prefixes.{IsThrough, is_before}
use Rattle.sim_engine.specs.Theorems.{rows_by, rows_of}
use Rattle.sim_engine.proofs.Machines.{Follows, early_before}
use Rattle.sim_engine.proofs.Merge.{after_first, each_filter}
use Rattle.sim_engine.proofs.Merged.{merged_parts, of_part, rows_ordered, told_rows, sent_later}
use Rattle.sim_engine.proofs.OneList.{IsTurns, run_told, whole_turns}
use Rattle.sim_engine.proofs.Parts.{ComesBy, before_delivered, each_weaker}
use Rattle.sim_engine.specs.Members.{Each}
use Rattle.sim_engine.proofs.Rows.{row_total}
use Rattle.sim_engine.proofs.Whole.{HasWhole, Leads, leads}
use Rattle.sim_engine.proofs.Worlds.{GoesOn, SentFrom, goes_on, left_later, not_before, stepped_is, IsRunBy, May, run_log}
use Rattle.sim_engine.specs.Engine.{Engine}
use Rattle.sim_engine.proofs.Premises.{Premises}
use Rattle.sim_engine.specs.Setting.{IsRunOf}
use Rattle.sim_engine.proofs.Branches.{by_cases, by_either}

module _ {Site Row Transfer : Type 0} {engine : Engine Site Row Transfer} {conditions : Conditions Site Transfer} (basics : SiteLaws engine conditions) where
  open engine use {number, handled, transfer_key, to, row_key, row_site}

  -- past the partitions there is none
  pub part_empty : (owner : ℕ → ℕ) (parts p : ℕ) → ((n : ℕ) → owner n < parts) → parts ≤ p → (w : List Site) → part_of engine owner p w ≡ []
  part_empty owner parts p o l [] = refl
  part_empty owner parts p o l (s ∷ ss) =
      let k : owner (number s) < parts = o (number s) in
      ap (λ b. cond b (s ∷ part_of engine owner p ss) (part_of engine owner p ss)) (ne_eqb (owner (number s)) p (λ e. absurd (omega arith))) ∙ part_empty owner parts p o l ss

  -- a list in order, of which some are picked
  before_each : (x : Row) (xs : List Row) → Each (λ y. is_lt (row_cmp engine y x) ≡ false) xs → IsBefore (row_cmp engine) x xs
  before_each x [] h = tt
  before_each x (y ∷ ys) h = h.0

  order_filter : (p : Row → Bool) (xs : List Row) → IsInOrder (row_cmp engine) xs → IsInOrder (row_cmp engine) (filter p xs)
  order_filter p [] h = tt
  order_filter p (x ∷ xs) h =
      let i : IsInOrder (row_cmp engine) (filter p xs) = order_filter p xs h.1 in
      let b : Each (λ y. is_lt (row_cmp engine y x) ≡ false) (filter p xs) = each_filter (row_total basics) (λ y. is_lt (row_cmp engine y x) ≡ false) p xs (after_first (row_total basics) x xs h.0 h.1) in
      elim (p x) as (λ c. IsInOrder (row_cmp engine) (cond c (x ∷ filter p xs) (filter p xs))) [ true ↦ (before_each x (filter p xs) b, i) | false ↦ i ]

  filter_swap : (p q : Row → Bool) (xs : List Row) → filter p (filter q xs) ≡ filter q (filter p xs)
  filter_swap p q [] = refl
  filter_swap p q (x ∷ xs) =
      by_cases (q x) (λ e. by_cases (p x) (λ f. rw (e, f, e) (ap (λ z. x ∷ z) (filter_swap p q xs))) (λ f. rw (e, f) (filter_swap p q xs)))
      (λ e. by_cases (p x) (λ f. rw (e, f, e) (filter_swap p q xs)) (λ f. rw (e, f) (filter_swap p q xs)))

  row_more : (y x : Row) → is_lt (row_cmp engine y x) ≡ false → (row_key x).at ≤ (row_key y).at
  row_more y x h = key_not_less (row_key y) (row_key x) (then_not_less (key_cmp (row_key y) (row_key x)) (nat_cmp (row_site y) (row_site x)) h)

  none_picked : (p : Row → Bool) (xs : List Row) → Each (λ x. p x ≡ false) xs → filter p xs ≡ []
  none_picked p [] h = refl
  none_picked p (x ∷ xs) h = rw h.0 (none_picked p xs h.1)

  pub rows_append : (l m : List (ℕ × Entry engine)) → rows_of engine (l ++ m) ≡ rows_of engine l ++ rows_of engine m
  rows_append [] m = refl
  rows_append (x ∷ xs) m = ap (λ z. x.1.rows ++ z) (rows_append xs m) ∙ sym (append_assoc x.1.rows (rows_of engine xs) (rows_of engine m))

module _ {Site Row Transfer : Type 0} {engine : Engine Site Row Transfer} {conditions : Conditions Site Transfer} (given : Premises engine conditions) where
  open engine use {number, handled, transfer_key, to, row_key, row_site}
  open given use {basics, setting, Fine, sound, owner, parts, owned}

  module _ (moment : ℕ) where
    -- nothing of any partition is due before the moment
    abbrev pub AllFrom : List Site → Type 0
    AllFrom w = (p : ℕ) → due_before moment (part_due engine owner p w) ≡ None

    abbrev IsLate : Row → Type 0
    IsLate r = is_before engine moment r ≡ false

    pub late_key : (q : ℕ) (w : List Site) (m : May given q w) → AllFrom w → moment ≤ m.key.at
    late_key q w m h = not_before moment m.key (ap (due_before moment) (sym m.due) ∙ h q)

    pub step_from : (q : ℕ) (w : List Site) → May given q w → AllFrom w → AllFrom (part_stepped basics owner q w)
    step_from q w m h r =
        let t : Stepped engine = handled_in engine owner q m.key w in
        let g : GoesOn given q m.key t = goes_on given q m.key w m.fine in
        let l : moment ≤ m.key.at = late_key q w m h in
        let by : Each (ComesBy basics owner r moment) t.sent =
        each_weaker (SentFrom given q m.key) (ComesBy basics owner r moment) (λ o f e. let n : m.key.at < (transfer_key o).at = sent_later given q m.key o f in omega arith) t.sent g.sent in
        ap (λ z. due_before moment (part_due engine owner r z)) (stepped_is given q m.key w m.due)
        ∙ before_delivered basics owner r moment t.sent t.sites by
        ∙ left_later given q r moment m.key w (q == r) refl m.fine m.due (h r)

    pub rows_keyed : (q : ℕ) (k : Key) (w : List Site) → moment ≤ k.at → Each Fine w → Each IsLate (handled_in engine owner q k w).rows
    rows_keyed q k [] l h = tt
    rows_keyed q k (s ∷ ss) l h =
        by_cases (has_due engine owner q k s)
        (λ e. rw e (each_weaker (IsRowOf engine k (number s)) IsLate (λ r x. let f : (row_key r).at ≡ k.at = ap (λ (j : Key). j.at) x.key_is in le-ltb (row_key r).at moment (omega arith)) (handled k s).rows (sound.laws.rows k s h.0)))
        (λ e. rw e (rows_keyed q k ss l h.1))

    abbrev LateEntry : ℕ × Entry engine → Type 0
    LateEntry x = Each IsLate x.1.rows

    run_late : (ps : List ℕ) (w : List Site) → IsRunBy given ps w → AllFrom w → Each LateEntry (run_log given ps w)
    run_late [] w r h = tt
    run_late (q ∷ qs) w r h =
        let m : May given q w = r.0 in (
          subst (λ (d : Option Key). Each IsLate (told_at basics owner q w d).rows) (sym m.due) (rows_keyed q m.key w (late_key q w m h) m.fine),
          run_late qs (part_stepped basics owner q w) r.1 (step_from q w m h),
        )

    module _ (f : Row → Bool) (within : (r : Row) → f r ≡ true → is_before engine moment r ≡ true) where
      late_not : (r : Row) → is_before engine moment r ≡ false → f r ≡ false
      late_not r h =
          by_cases (f r) (λ e. absurd (true≢false (sym (within r e) ∙ h))) (λ e. e)

      late_rows : (p : ℕ) (l : List (ℕ × Entry engine)) → Each LateEntry l → filter f (rows_by engine l p) ≡ []
      late_rows p [] h = refl
      late_rows p (x ∷ xs) h =
          by_cases (x.0 == p)
          (λ e. rw (e, filter-append f x.1.rows (rows_of engine (of_name p xs)), none_picked basics f x.1.rows (each_weaker IsLate (λ r. f r ≡ false) late_not x.1.rows h.0)) (late_rows p xs h.1))
          (λ e. rw e (late_rows p xs h.1))

      -- where nothing is due before the moment and no bound is before it, rows that a test picks from before it are those of the one-list run
      pub picked_rows : (r : Run engine) → IsRunOf engine setting r → (m : Machine engine) → Follows given m → IsThrough engine owner parts moment m → merged_all (row_cmp engine) (map (λ p. filter f (rows_by engine m.told p)) (range_with_len 0 parts)) ≡ filter f r.rows
      picked_rows r w m g through =
          let told : List (ℕ × Entry engine) = run_told given w.steps in
          let t : IsTurns given told r = whole_turns given r w in
          let l : Leads given r told m = leads given r told m w.ended t g in
          let rest : List (ℕ × Entry engine) = run_log given l.names (flushed engine m) in
          let from : AllFrom (flushed engine m) =
          λ p.
          by_either (cases_lt p parts) (λ k. early_before given m p moment (through.bounds p k) g.late ∙ through.none p k)
          (λ k. ap (λ z. due_before moment (world_due engine z)) (part_empty basics owner parts p owned k (flushed engine m))) in
          merged_parts given (filter f r.rows) (λ p. filter f (rows_by engine m.told p)) (order_filter basics f r.rows (rows_ordered given r w))
          (λ p.
          sym (append-nil (filter f (rows_by engine m.told p)))
          ∙ ap (λ z. filter f (rows_by engine m.told p) ++ z) (sym (late_rows p rest (run_late l.names (flushed engine m) l.runs from)))
          ∙ sym (filter-append f (rows_by engine m.told p) (rows_by engine rest p))
          ∙ ap (filter f) (sym (rows_append basics (of_name p m.told) (of_name p rest)) ∙ ap (rows_of engine) (l.tells p) ∙ told_rows given r told t p)
          ∙ filter_swap basics f (of_part given p) r.rows)

module _ {Site Row Transfer : Type 0} {engine : Engine Site Row Transfer} {conditions : Conditions Site Transfer} (basics : SiteLaws engine conditions) where
  open engine use {number, handled, transfer_key, to, row_key, row_site}

  -- rows in order up to a moment are those up to an earlier one, and those from then on
  from_first : (from : ℕ) (x : Row) (xs : List Row) → is_before engine from x ≡ false → Each (λ y. is_lt (row_cmp engine y x) ≡ false) xs → Each (λ y. is_before engine from y ≡ false) xs
  from_first from x xs h k =
      each_weaker (λ (y : Row). is_lt (row_cmp engine y x) ≡ false) (λ y. is_before engine from y ≡ false)
      (λ y g. let l : (row_key x).at ≤ (row_key y).at = row_more basics y x g in let n : from ≤ (row_key x).at = ltb-false (row_key x).at from h in le-ltb (row_key y).at from (omega arith)) xs k

  rest_kept : (from : ℕ) (p : Row → Bool) (xs : List Row) → Each (λ y. is_before engine from y ≡ false) xs → filter (λ r. p r && not (is_before engine from r)) xs ≡ filter p xs
  rest_kept from p [] h = refl
  rest_kept from p (x ∷ xs) h = rw (h.0, and-true (p x), rest_kept from p xs h.1) refl

  pub rows_split : (from : ℕ) (p : Row → Bool) → ((r : Row) → is_before engine from r ≡ true → p r ≡ true) → (xs : List Row) → IsInOrder (row_cmp engine) xs
      → filter (is_before engine from) xs ++ filter (λ r. p r && not (is_before engine from r)) xs ≡ filter p xs
  rows_split from p within [] h = refl
  rows_split from p within (x ∷ xs) h =
      by_cases (is_before engine from x) (λ e. rw (e, within x e) (ap (λ z. x ∷ z) (rows_split from p within xs h.1)))
      (λ e.
      let late : Each (λ y. is_before engine from y ≡ false) (x ∷ xs) = (e, from_first from x xs e (after_first (row_total basics) x xs h.0 h.1)) in
      ap (λ w. w ++ filter (λ r. p r && not (is_before engine from r)) (x ∷ xs)) (none_picked basics (is_before engine from) (x ∷ xs) late) ∙ rest_kept from p (x ∷ xs) late)

  pub keep_all : (xs : List Row) → filter (λ r. true) xs ≡ xs
  keep_all [] = refl
  keep_all (x ∷ xs) = ap (λ z. x ∷ z) (keep_all xs)

module _ {Site Row Transfer : Type 0} {engine : Engine Site Row Transfer} {conditions : Conditions Site Transfer} (given : Premises engine conditions) where
  open engine use {number, handled, transfer_key, to, row_key, row_site}
  open given use {basics, setting, Fine, owner, parts, owned}

  -- the rows that a test picks of a finished machine's partitions are those of the one-list run
  pub picked_whole : (f : Row → Bool) (r : Run engine) (w : IsRunOf engine setting r) (m : Machine engine) → HasWhole given r (run_told given w.steps) m → merged_all (row_cmp engine) (map (λ p. filter f (rows_by engine m.told p)) (range_with_len 0 parts)) ≡ filter f r.rows
  picked_whole f r w m h =
      merged_parts given (filter f r.rows) (λ p. filter f (rows_by engine m.told p)) (order_filter basics f r.rows (rows_ordered given r w))
      (λ p. ap (filter f) (ap (rows_of engine) (h.parts p) ∙ told_rows given r (run_told given w.steps) (whole_turns given r w) p) ∙ filter_swap basics f (of_part given p) r.rows)
