-- Rows that are settled while partitions are lent follow those that were settled before.
use Rattle.std.specs.Prelude.{List, None, Option, Result, Some, [], filter, get_or, length, ℕ, ◌++◌, ◌+◌, ◌∷◌, ◌≡◌}
use Rattle.std.proofs.Common.{ap, append_assoc, arith, inl, inr, length-append, refl, subst, sym, ◌∙◌}
use Rattle.std.proofs.lemmas.List.{append-nil}
use Rattle.sim_clock.specs.declared.refusal.Refusal.{Refusal}
use Rattle.sim_engine.specs.Engine.{Engine}
use Rattle.sim_engine.specs.Laws.{Conditions, SiteLaws}
use Rattle.sim_engine.specs.Limits.{IsOver, StopsWhere}
use Rattle.std.specs.declared.cmp.Ordering.{Ordering}
use Rattle.sim_engine.specs.Merge.{merged_all}
use Rattle.sim_engine.specs.Prefixes.{is_before}
use Rattle.sim_exchange.proofs.Merging.{merged_single}
use Rattle.sim_engine.specs.Setting.{Setting}
use Rattle.sim_windows.specs.Sinks.{StopsAt}
use Rattle.sim_windows.specs.Stages.{AreNext, Follows, Settles, Standing, Stands, StandsOn, lower_bound_in, with_parts}
use Rattle.sim_windows.proofs.Stepped.{on}
use Rattle.sim_workers.specs.Paces.{word_of}
use Rattle.sim_workers.specs.Runs.{AreHanded, HandsOn, StopsAmong, StopsHanding, StopsNext, TellsNext}

-- one list by itself is merged
pub alone :
    {A : Type 0} (R : A → A → Ordering) (lists : List (List A)) (l : List A) → length lists ≡ 1 → l ≡ get_or lists 0 l → l ≡ merged_all R lists
alone R [] l one at = absurd (omega (arith, one))
alone R (w ∷ []) l one at = at ∙ merged_single R (w ∷ []) [] w refl (omega arith)
alone R (w ∷ x ∷ lists) l one at = absurd (omega (arith, one))

-- a sink took the first of some rows, and these are left
pub record IsHanding {Row K : Type 0} (took : K → List Row → K → Type 0) (all : List Row) (before now : K) (left : List Row) : Type 0 where
  pub told : List Row
  pub parts : told ++ left ≡ all
  pub taken : took before told now

-- so many of some rows were handed on, as far as a word counts, and these are left
pub record IsCounted {Row : Type 0} (all : List Row) (count : ℕ) (left : List Row) : Type 0 where
  pub first : ℕ
  pub whole : first + length left ≡ length all
  pub word : count ≡ word_of first

-- the same with so many more
pub counted_more : {Row : Type 0} (all rows left : List Row) (count : ℕ) → IsCounted all count (rows ++ left) → IsCounted all (word_of (count + length rows)) left
counted_more all rows left count i =
    record { first = i.first + length rows; whole = omega (arith, length-append rows left, i.whole); word = ap (λ n. word_of (n + length rows)) i.word ∙ omega arith }

-- and with all
pub counted_all : {Row : Type 0} (all rows : List Row) (count : ℕ) → IsCounted all count (rows ++ []) → word_of (count + length rows) ≡ word_of (length all)
counted_all all rows count i =
    let same : i.first + length rows ≡ length all = omega (arith, length-append rows [], i.whole) in
    ap (λ n. word_of (n + length rows)) i.word ∙ subst (λ n. word_of (word_of i.first + length rows) ≡ word_of n) same (omega arith)

module _ {Site Row Transfer : Type 0} (engine : Engine Site Row Transfer) {K : Type 0} (took : K → List Row → K → Type 0) (all : List Row) (before now : K) where
  pub same_left : (left more : List Row) → left ≡ more → IsHanding took all before now left → IsHanding took all before now more
  same_left left more e i = subst (IsHanding took all before now) e i

  -- one more is at hand
  pub one_more :
      (rows merged more left : List Row) (row : Row) → merged ≡ row ∷ left → more ≡ rows ++ row ∷ [] → IsHanding took all before now (rows ++ merged)
      → IsHanding took all before now (more ++ left)
  one_more rows merged more left row next pushed i =
      same_left (rows ++ merged) (more ++ left) (ap (λ z. rows ++ z) next ∙ sym (append_assoc rows (row ∷ []) left) ∙ ap (λ z. z ++ left) (sym pushed)) i

  module _ (broke : K → List Row → Refusal → K → Type 0) (e : Refusal) (left : List Row) (i : IsHanding took all before now left) where
    pub stops_there : (Stops : Refusal → Type 0) → Stops e → StopsAmong engine took broke Stops all before e now
    stops_there Stops h = (i.told, (left, (i.parts, inl (i.taken, h))))

    -- the sink breaks at those at hand
    pub breaks_there :
        (broke_later : (a b c : K) (xs ys : List Row) (e : Refusal) → took a xs b → broke b ys e c → broke a (xs ++ ys) e c) (Stops : Refusal → Type 0)
        (rows rest : List Row) (after : K) → left ≡ rows ++ rest → broke now rows e after → StopsAmong engine took broke Stops all before e after
    breaks_there broke_later Stops rows rest after are broken =
        (i.told ++ rows, (rest, (append_assoc i.told rows rest ∙ ap (λ z. i.told ++ z) (sym are) ∙ i.parts, inr (broke_later before now after i.told rows e i.taken broken))))

  -- it takes them
  pub takes_there :
      (took_both : (a b c : K) (xs ys : List Row) → took a xs b → took b ys c → took a (xs ++ ys) c)
      (rows rest : List Row) (after : K) → IsHanding took all before now (rows ++ rest) → took now rows after → IsHanding took all before after rest
  takes_there took_both rows rest after i taken =
      record { told = i.told ++ rows; parts = append_assoc i.told rows rest ∙ i.parts; taken = took_both before now after i.told rows i.taken taken }

module _ {Site Row Transfer : Type 0} {engine : Engine Site Row Transfer} {conditions : Conditions Site Transfer} (basics : SiteLaws engine conditions) where
  -- some rows are settled, and it stands as it did
  pub record Passed (g h : Standing Site Row Transfer) (rows : List Row) : Type 0 where
    pub follows : Follows engine conditions g h []
    pub bounds : h.bounds ≡ g.bounds
    pub horizon : h.horizon ≡ g.horizon
    pub next : (s : Setting Site) → StandsOn engine conditions s g → AreNext engine s g.settled h.settled rows

  none_passed : (g : Standing Site Row Transfer) → Passed g g []
  none_passed g =
      record {
        follows = record {
          stands = λ s picks st. subst (λ ps. Stands engine conditions s ps g) (sym (append-nil picks)) st;
          same = record { layout = refl; distances = refl };
          count = refl;
        };
        bounds = refl;
        horizon = refl;
        next = λ s on r w. append-nil _;
      }

  some_passed : (g h : Standing Site Row Transfer) (rows : List Row) → Settles engine conditions g h rows → Passed g h rows
  some_passed g h rows settles =
      record { follows = settles.follows; bounds = ap (λ (x : Standing Site Row Transfer). x.bounds) settles.is; horizon = ap (λ (x : Standing Site Row Transfer). x.horizon) settles.is; next = settles.next }

  -- what is handed on
  passed :
      (moment : Option ℕ) (parts : List (Result (List Site) Refusal)) (lent now : Standing Site Row Transfer) (rows : List Row)
      → ((m : ℕ) → moment ≡ Some m → m ≡ lower_bound_in engine (with_parts parts lent)) → AreHanded engine conditions moment lent now rows
      → Passed (with_parts parts lent) (with_parts parts now) rows
  passed None parts lent now rows at (same, none) =
      subst (λ xs. Passed (with_parts parts lent) (with_parts parts now) xs) (sym none)
      (subst (λ (x : Standing Site Row Transfer). Passed (with_parts parts lent) (with_parts parts x) []) (sym same) (none_passed (with_parts parts lent)))
  passed (Some m) parts lent now rows at handed = some_passed (with_parts parts lent) (with_parts parts now) rows (handed parts (at m refl))

  -- the same of a stage that lent its partitions
  pub went_on :
      (g : Standing Site Row Transfer) (moment : Option ℕ) (lent now : Standing Site Row Transfer) (rows : List Row) → lent ≡ with_parts [] g
      → ((m : ℕ) → moment ≡ Some m → m ≡ lower_bound_in engine g) → AreHanded engine conditions moment lent now rows → Passed g (with_parts g.parts now) rows
  went_on g moment lent now rows is at handed =
      subst (λ (x : Standing Site Row Transfer). Passed (with_parts g.parts x) (with_parts g.parts now) rows) is
      (passed moment g.parts lent now rows (λ m some. at m some ∙ sym (ap (λ (x : Standing Site Row Transfer). lower_bound_in engine (with_parts g.parts x)) is)) handed)

  -- where no more is settled a sink takes nothing
  pub tells_none :
      {K : Type 0} (took : K → List Row → K → Type 0) (g h : Standing Site Row Transfer) (before now : K)
      → h.settled ≡ g.settled → took before [] now → TellsNext engine conditions took g before h now
  tells_none took g h before now same none s on =
      ([], (λ r w. append-nil _ ∙ ap (λ n. filter (is_before engine n) r.rows) (sym same), none))

  module _ {K : Type 0} (took : K → List Row → K → Type 0) (broke : K → List Row → Refusal → K → Type 0) (before : K) (e : Refusal) (now : K) where
    -- a weaker reason
    weaker_at : (P Q : Refusal → Type 0) (rows : List Row) → (P e → Q e) → StopsAt engine took broke P rows before e now → StopsAt engine took broke Q rows before e now
    weaker_at P Q rows to (inl (taken, h)) = inl (taken, to h)
    weaker_at P Q rows to (inr broken) = inr broken

    weaker : (P Q : Refusal → Type 0) (all : List Row) → (P e → Q e) → StopsAmong engine took broke P all before e now → StopsAmong engine took broke Q all before e now
    weaker P Q all to (rows, (rest, (is, stops))) = (rows, (rest, (is, weaker_at P Q rows to stops)))

    pub handing_weaker :
        (P Q : Refusal → Type 0) (moment : Option ℕ) (lent : Standing Site Row Transfer) → (P e → Q e)
        → StopsHanding engine conditions took broke P moment lent before e now → StopsHanding engine conditions took broke Q moment lent before e now
    handing_weaker P Q moment lent to (inl (h, none)) = inl (to h, none)
    handing_weaker P Q moment lent to (inr (after, (rows, (handed, stops)))) = inr (after, (rows, (handed, weaker P Q rows to stops)))

    -- all of the rows were taken
    pub stops_after : (Stops : Refusal → Type 0) (all : List Row) → took before all now → Stops e → StopsAmong engine took broke Stops all before e now
    stops_after Stops all taken h = (all, ([], (append-nil all, inl (taken, h))))

    module _ (g : Standing Site Row Transfer) where
      -- a run stops, and nothing was handed on
      pub stops_before : took before [] now → ((s : Setting Site) → StandsOn engine conditions s g → StopsWhere (IsOver engine s) e) → StopsNext engine conditions took broke g before e now
      stops_before none over s on = (g.settled, ([], (λ r w. append-nil _, stops_after (StopsWhere (IsOver engine s)) [] none (over s on))))

      -- or it stops while rows are
      pub stops_handing :
          (Stops : Refusal → Type 0) (moment : Option ℕ) (lent : Standing Site Row Transfer) → lent ≡ with_parts [] g
          → ((m : ℕ) → moment ≡ Some m → m ≡ lower_bound_in engine g) → ((s : Setting Site) → StandsOn engine conditions s g → Stops e → StopsWhere (IsOver engine s) e)
          → StopsHanding engine conditions took broke Stops moment lent before e now → StopsNext engine conditions took broke g before e now
      stops_handing Stops moment lent is at over (inl (h, none)) = stops_before none (λ s on. over s on h)
      stops_handing Stops moment lent is at over (inr (after, (rows, (handed, stops)))) = λ s on.
          let went : Passed g (with_parts g.parts after) rows = went_on g moment lent after rows is at handed in
          (after.settled, (rows, (went.next s on, weaker Stops (StopsWhere (IsOver engine s)) rows (over s on) stops)))

      -- or once they are
      pub stops_handed :
          (moment : Option ℕ) (lent after : Standing Site Row Transfer) (count : ℕ) → lent ≡ with_parts [] g
          → ((m : ℕ) → moment ≡ Some m → m ≡ lower_bound_in engine g) → ((s : Setting Site) → StandsOn engine conditions s g → StopsWhere (IsOver engine s) e)
          → HandsOn engine conditions took moment lent before after now count → StopsNext engine conditions took broke g before e now
      stops_handed moment lent after count is at over handed = λ s on.
          let went : Passed g (with_parts g.parts after) handed.rows = went_on g moment lent after handed.rows is at handed.are in
          (after.settled, (handed.rows, (went.next s on, stops_after (StopsWhere (IsOver engine s)) handed.rows handed.taken (over s on))))
