-- The sites of partitions: what is taken of a world so far, and what is left of it.
use Rattle.std.specs.List.{range_with_len}
use Rattle.std.specs.Prelude.{IfOk, List, Ok, Result, [], cond, drop, false, get_or, length, map, reverse, set, suc, take, true, zero, ℕ, ◌++◌, ◌+◌, ◌<◌, ◌==◌, ◌∷◌, ◌≡◌}
use Rattle.std.proofs.Common.{ap, arith, refl, subst, sym, ◌∙◌}
use Rattle.std.proofs.lemmas.Bool.Decides.{nat_tests}
use Rattle.std.proofs.lemmas.List.{append-nil, get_or-map, length-map, map-set, reverse-append, reverse-reverse, take-append-drop}
use Rattle.std.proofs.lemmas.List.FromFn.{length-map-range_with_len}
use Rattle.std.proofs.lemmas.List.Elements.{filter-append}
use Rattle.sim_clock.specs.declared.refusal.Refusal.{Refusal}
use Rattle.sim_engine.specs.Parts.{is_of, part_of}
use Rattle.sim_engine.specs.Engine.{Engine}
use Rattle.sim_engine.specs.Setting.{IsNumbered}
use Rattle.sim_windows.proofs.Places.{at_place, map_push, over, set_from}

module _ {Site Row Transfer : Type 0} (engine : Engine Site Row Transfer) where
  open engine use {number}

  -- the site that follows so many of a world
  pub record Follows (at n : ℕ) (w : List Site) (site : Site) : Type 0 where
    pub one : Site
    pub is : site ≡ one
    pub numbered : number one ≡ at
    pub taken : take (suc n) w ≡ take n w ++ one ∷ []
    pub left : drop n w ≡ one ∷ drop (suc n) w

  -- the same with one more before it
  follows_on : (at n : ℕ) (w : List Site) (site : Site) (s : Site) → Follows at n w site → Follows at (suc n) (s ∷ w) site
  follows_on at n w site s f = record { one = f.one; is = f.is; numbered = f.numbered; taken = ap (λ z. s ∷ z) f.taken; left = f.left }

  pub follows : (first n at : ℕ) (before : List Site) (site : Site) (more : List Site) (w : List Site)
      → before ++ site ∷ more ≡ w → IsNumbered engine first w → n ≡ length before → at ≡ first + n → Follows at n w site
  follows first n at [] site more [] e h k l = absurd (cc)
  follows first zero at [] site more (s ∷ w) e h k l = record { one = s; is = cc; numbered = omega (arith, h.0); taken = refl; left = refl }
  follows first (suc n) at [] site more (s ∷ w) e h k l = absurd (omega arith)
  follows first n at (x ∷ before) site more [] e h k l = absurd (cc)
  follows first zero at (x ∷ before) site more (s ∷ w) e h k l = absurd (omega arith)
  follows first (suc n) at (x ∷ before) site more (s ∷ w) e h k l =
      let rest : before ++ site ∷ more ≡ w = cc in
      follows_on at n w site s (follows (first + 1) n at before site more w rest h.1 (omega arith) (omega arith))

  -- the sites of a partition, with one more of a world
  module _ (owner : ℕ → ℕ) where
    pub part_gains : (p : ℕ) (w : List Site) (s : Site) → (owner (number s) == p) ≡ true → part_of engine owner p (w ++ s ∷ []) ≡ part_of engine owner p w ++ s ∷ []
    part_gains p w s h = filter-append (is_of engine owner p) w (s ∷ []) ∙ ap (λ b. part_of engine owner p w ++ cond b (s ∷ []) []) h

    pub part_keeps : (p : ℕ) (w : List Site) (s : Site) → (owner (number s) == p) ≡ false → part_of engine owner p (w ++ s ∷ []) ≡ part_of engine owner p w
    part_keeps p w s h = filter-append (is_of engine owner p) w (s ∷ []) ∙ ap (λ b. part_of engine owner p w ++ cond b (s ∷ []) []) h ∙ append-nil (part_of engine owner p w)

    -- all of a world are of the one partition that there is
    pub part_alone : ((n : ℕ) → owner n < 1) → (w : List Site) → part_of engine owner 0 w ≡ w
    part_alone h [] = refl
    part_alone h (s ∷ w) =
        let here : (owner (number s) == 0) ≡ true = (let l : owner (number s) < 1 = h (number s) in grind (arith, nat_tests)) in
        ap (λ b. cond b (s ∷ part_of engine owner 0 w) (part_of engine owner 0 w)) here ∙ ap (λ z. s ∷ z) (part_alone h w)

  -- the lists of the partitions' sites, of so many of a world
  abbrev pub lists_so_far : (ℕ → ℕ) → ℕ → ℕ → List Site → List (List Site)
  lists_so_far owner parts n w = map (λ p. part_of engine owner p (take n w)) (range_with_len 0 parts)

  -- one more of them
  pub split_one :
      (owner : ℕ → ℕ) (parts n : ℕ) (w : List Site) (site : Site) (d : List Site) → Follows n n w site → owner n < parts
      → set (lists_so_far owner parts n w) (owner n) (get_or (lists_so_far owner parts n w) (owner n) d ++ site ∷ []) ≡ lists_so_far owner parts (suc n) w
  split_one owner parts n w site d f l =
      let i : ℕ = owner n in
      let now : ℕ → List Site = λ p. part_of engine owner p (take n w) in
      let then : ℕ → List Site = λ p. part_of engine owner p (take (suc n) w) in
      let at : get_or (map now (range_with_len 0 parts)) i d ≡ now i = at_place now parts i d l in
      let same : owner (number f.one) ≡ i = ap owner f.numbered in
      let here : (owner (number f.one) == i) ≡ true = grind (arith, nat_tests) in
      set_from now then (get_or (map now (range_with_len 0 parts)) i d ++ site ∷ []) 0 parts i i l (omega arith)
      (ap (λ z. z ++ site ∷ []) at ∙ ap (λ z. now i ++ z ∷ []) f.is ∙ sym (part_gains owner i (take n w) f.one here)
      ∙ ap (part_of engine owner i) (sym f.taken))
      (λ q o.
      let other : (owner (number f.one) == q) ≡ false = ap (λ z. z == q) same ∙ o in
      sym (part_keeps owner q (take n w) f.one other) ∙ ap (part_of engine owner q) (sym f.taken))

  -- the same of what has such lists
  pub split_next :
      {V : Type 0} (items : V → List Site) (lists : List V) (d pushed : V) (i : ℕ) (owner : ℕ → ℕ) (parts n : ℕ) (w : List Site) (site : Site)
      → Follows n n w site → i < parts → i ≡ owner n → length lists ≡ parts → d ≡ get_or lists i d → items pushed ≡ items d ++ site ∷ [] → map items lists ≡ lists_so_far owner parts n w
      → map items (set lists i pushed) ≡ lists_so_far owner parts (n + 1) w
  split_next items lists d pushed i owner parts n w site f l own count is new v =
      let within : i < length lists = omega arith in
      let below : owner n < parts = omega arith in
      let next : suc n ≡ n + 1 = omega arith in
      let old : items d ≡ get_or (map items lists) i (items d) = ap items is ∙ sym (get_or-map items lists i d (items d) within) in
      map-set items lists i pushed ∙ ap (set (map items lists) i) (new ∙ ap (λ z. z ++ site ∷ []) old)
      ∙ ap (λ z. set z i (get_or z i (items d) ++ site ∷ [])) v
      ∙ ap (λ j. set (lists_so_far owner parts n w) j (get_or (lists_so_far owner parts n w) j (items d) ++ site ∷ [])) own
      ∙ split_one owner parts n w site (items d) f below
      ∙ ap (λ k. lists_so_far owner parts k w) next

  -- the sites of a partition, the last of them first
  abbrev pub turned : List Site → List Site
  turned w = reverse w

  -- the lists of the partitions' sites that are left after so many of a world, the last of them first
  abbrev pub lists_left : (ℕ → ℕ) → ℕ → ℕ → List Site → List (List Site)
  lists_left owner parts n w = map (λ p. turned (part_of engine owner p (drop n w))) (range_with_len 0 parts)

  -- a partition that lives
  abbrev pub lives : List Site → Result (List Site) Refusal
  lives w = Ok w

  -- the sites of no partitions
  pub none_turned : (ws : List (List Site)) → [] ≡ map lives ws → [] ≡ map turned ws
  none_turned [] e = refl
  none_turned (w ∷ ws) e = absurd (cc)

  -- partitions that live, and the last of them
  record Last (before : List (Result (List Site) Refusal)) (part : Result (List Site) Refusal) (ws : List (List Site)) : Type 0 where
    earlier : List (List Site)
    last : List Site
    whole : earlier ++ last ∷ [] ≡ ws
    those : before ≡ map lives earlier
    this : part ≡ lives last

  last_on : (before : List (Result (List Site) Refusal)) (part : Result (List Site) Refusal) (ws : List (List Site)) (x : Result (List Site) Refusal) (w : List Site) → x ≡ lives w → Last before part ws → Last (x ∷ before) part (w ∷ ws)
  last_on before part ws x w e r =
      record { earlier = w ∷ r.earlier; last = r.last; whole = ap (λ z. w ∷ z) r.whole; those = ap (λ y. y ∷ before) e ∙ ap (λ z. lives w ∷ z) r.those; this = r.this }

  last_part : (before : List (Result (List Site) Refusal)) (part : Result (List Site) Refusal) (ws : List (List Site)) → before ++ part ∷ [] ≡ map lives ws → Last before part ws
  last_part [] part [] e = absurd (cc)
  last_part [] part (w ∷ []) e = record { earlier = []; last = w; whole = refl; those = refl; this = cc }
  last_part [] part (w ∷ v ∷ ws) e = absurd (cc)
  last_part (x ∷ before) part [] e = absurd (cc)
  last_part (x ∷ before) part (w ∷ ws) e =
      let more : before ++ part ∷ [] ≡ map lives ws = cc in
      let first : x ≡ lives w = cc in
      last_on before part ws x w first (last_part before part ws more)

  -- one more list of a partition's sites
  pub turned_one :
      {V : Type 0} (items : V → List Site) (lists after : List V) (now : V) (before : List (Result (List Site) Refusal)) (part : Result (List Site) Refusal) (sites : List Site)
      → after ≡ lists ++ now ∷ [] → items now ≡ reverse sites → IfOk part (λ w. sites ≡ w)
      → ((vs : List (List Site)) → before ≡ map lives vs → map items lists ≡ map turned vs)
      → (ws : List (List Site)) → before ++ part ∷ [] ≡ map lives ws → map items after ≡ map turned ws
  turned_one items lists after now before part sites pushed new of so_far ws e =
      let r : Last before part ws = last_part before part ws e in
      let those : sites ≡ r.last = subst (λ p. IfOk p (λ w. sites ≡ w)) r.this of in
      ap (map items) pushed ∙ map_push items lists now
      ∙ ap (λ z. map items lists ++ z ∷ []) (new ∙ ap reverse those)
      ∙ ap (λ z. z ++ turned r.last ∷ []) (so_far r.earlier r.those)
      ∙ sym (map_push turned r.earlier r.last) ∙ ap (map turned) r.whole

  -- before any is taken, each list has all of a partition's
  pub left_first :
      {V : Type 0} (items : V → List Site) (lists : List V) (owner : ℕ → ℕ) (parts : ℕ) (w : List Site) (ps : List (Result (List Site) Refusal))
      → ((ws : List (List Site)) → ps ≡ map lives ws → map items lists ≡ map turned ws)
      → ps ≡ map (λ p. Ok (part_of engine owner p w)) (range_with_len 0 parts) → map items lists ≡ lists_left owner parts 0 w
  left_first items lists owner parts w ps h e =
      let of : ℕ → List Site = λ p. part_of engine owner p w in
      h (map of (range_with_len 0 parts)) (e ∙ sym (over lives of 0 parts)) ∙ over turned of 0 parts

  pub many_left : {V : Type 0} (items : V → List Site) (lists : List V) (owner : ℕ → ℕ) (parts n : ℕ) (w : List Site) → map items lists ≡ lists_left owner parts n w → length lists ≡ parts
  many_left items lists owner parts n w e =
      let of : ℕ → List Site = λ p. turned (part_of engine owner p (drop n w)) in
      sym (length-map lists items) ∙ ap (λ z. length z) e ∙ length-map-range_with_len of 0 parts

  -- the sites after so many have the numbers after them
  numbered_after : (first n k : ℕ) (w : List Site) → k ≡ first + n → IsNumbered engine first w → IsNumbered engine k (drop n w)
  numbered_after first zero k w e h = let same : first ≡ k = omega arith in subst (λ j. IsNumbered engine j w) same h
  numbered_after first (suc n) k [] e h = tt
  numbered_after first (suc n) k (s ∷ w) e h = numbered_after (first + 1) n k w (omega arith) h.1

  -- the site after so many, and those after it
  record Cut (n : ℕ) (w : List Site) (s : Site) (ss : List Site) : Type 0 where
    taken : take (suc n) w ≡ take n w ++ s ∷ []
    left : drop (suc n) w ≡ ss

  cut_next : (n : ℕ) (w : List Site) (s : Site) (ss : List Site) → drop n w ≡ s ∷ ss → Cut n w s ss
  cut_next zero [] s ss e = absurd (cc)
  cut_next (suc n) [] s ss e = absurd (cc)
  cut_next zero (x ∷ w) s ss e =
      let same : x ≡ s = cc in
      let rest : w ≡ ss = cc in
      record { taken = ap (λ y. y ∷ []) same; left = rest }
  cut_next (suc n) (x ∷ w) s ss e = let r : Cut n w s ss = cut_next n w s ss e in record { taken = ap (λ z. x ∷ z) r.taken; left = r.left }

  -- the first site that is left is in the list of its partition
  owned_first : (owner : ℕ → ℕ) (n i : ℕ) (s : Site) (ss : List Site) → number s ≡ n → i ≡ owner n → part_of engine owner i (s ∷ ss) ≡ s ∷ part_of engine owner i ss
  owned_first owner n i s ss told own =
      let same : owner (number s) ≡ i = ap owner told ∙ sym own in
      let here : (owner (number s) == i) ≡ true = grind (arith, nat_tests) in
      ap (λ b. cond b (s ∷ part_of engine owner i ss) (part_of engine owner i ss)) here

  -- a site that is taken from the end of the list of the partition that owns the next number, and what is left of that list
  pub record Taken (owner : ℕ → ℕ) (n i : ℕ) (w : List Site) (site : Site) (rest : List Site) : Type 0 where
    pub one : Site
    pub is : site ≡ one
    pub numbered : number one ≡ n
    pub taken : take (suc n) w ≡ take n w ++ one ∷ []
    pub left : drop n w ≡ one ∷ drop (suc n) w
    pub those : rest ≡ turned (part_of engine owner i (drop (suc n) w))

  taken_at :
      (owner : ℕ → ℕ) (n i : ℕ) (w : List Site) (site : Site) (rest : List Site) (ds : List Site)
      → drop n w ≡ ds → IsNumbered engine n ds → i ≡ owner n → site ∷ reverse rest ≡ part_of engine owner i ds → Taken owner n i w site rest
  taken_at owner n i w site rest [] e h own p = absurd (cc)
  taken_at owner n i w site rest (s ∷ ss) e h own p =
      let both : site ∷ reverse rest ≡ s ∷ part_of engine owner i ss = p ∙ owned_first owner n i s ss h.0 own in
      let this : site ≡ s = cc in
      let back : reverse rest ≡ part_of engine owner i ss = cc in
      let cut : Cut n w s ss = cut_next n w s ss e in
      record {
        one = s;
        is = this;
        numbered = h.0;
        taken = cut.taken;
        left = e ∙ ap (λ z. s ∷ z) (sym cut.left);
        those = sym (reverse-reverse rest) ∙ ap reverse back ∙ ap (λ z. turned (part_of engine owner i z)) (sym cut.left);
      }

  pub taken_next :
      (owner : ℕ → ℕ) (n i : ℕ) (w : List Site) (site : Site) (rest : List Site) → IsNumbered engine 0 w → i ≡ owner n
      → rest ++ site ∷ [] ≡ turned (part_of engine owner i (drop n w)) → Taken owner n i w site rest
  taken_next owner n i w site rest h own e =
      taken_at owner n i w site rest (drop n w) refl (numbered_after 0 n n w (omega arith) h) own
      (sym (reverse-append rest (site ∷ [])) ∙ ap reverse e ∙ reverse-reverse (part_of engine owner i (drop n w)))

  -- where the list of the partition that owns the next number is empty, none is left
  none_at : (owner : ℕ → ℕ) (n i : ℕ) (ds : List Site) → IsNumbered engine n ds → i ≡ owner n → [] ≡ turned (part_of engine owner i ds) → ds ≡ []
  none_at owner n i [] h own e = refl
  none_at owner n i (s ∷ ss) h own e =
      let none : [] ≡ s ∷ part_of engine owner i ss =
      ap reverse e ∙ reverse-reverse (part_of engine owner i (s ∷ ss)) ∙ owned_first owner n i s ss h.0 own in
      absurd (cc)

  -- where the partition that owns the next number has none, all are taken
  pub all_taken : (owner : ℕ → ℕ) (n i : ℕ) (w : List Site) → IsNumbered engine 0 w → i ≡ owner n → [] ≡ turned (part_of engine owner i (drop n w)) → take n w ≡ w
  all_taken owner n i w h own e =
      let none : drop n w ≡ [] = none_at owner n i (drop n w) (numbered_after 0 n n w (omega arith) h) own e in
      sym (append-nil (take n w)) ∙ ap (λ z. take n w ++ z) (sym none) ∙ take-append-drop n w

  -- what is in the list of a partition
  pub left_at :
      {V : Type 0} (items : V → List Site) (lists : List V) (d : V) (i : ℕ) (owner : ℕ → ℕ) (parts n : ℕ) (w : List Site)
      → i < parts → length lists ≡ parts → d ≡ get_or lists i d → map items lists ≡ lists_left owner parts n w → items d ≡ turned (part_of engine owner i (drop n w))
  left_at items lists d i owner parts n w l count is v =
      let within : i < length lists = omega arith in
      let of : ℕ → List Site = λ p. turned (part_of engine owner p (drop n w)) in
      ap items is ∙ sym (get_or-map items lists i d (items d) within) ∙ ap (λ z. get_or z i (items d)) v ∙ at_place of parts i (items d) l

  -- the lists without the site that is taken
  pub left_next :
      {V : Type 0} (items : V → List Site) (lists : List V) (popped : V) (i : ℕ) (owner : ℕ → ℕ) (parts n : ℕ) (w : List Site) (site : Site)
      → Taken owner n i w site (items popped) → i < parts → i ≡ owner n → map items lists ≡ lists_left owner parts n w → map items (set lists i popped) ≡ lists_left owner parts (n + 1) w
  left_next items lists popped i owner parts n w site t l own v =
      let now : ℕ → List Site = λ p. turned (part_of engine owner p (drop n w)) in
      let then : ℕ → List Site = λ p. turned (part_of engine owner p (drop (suc n) w)) in
      let same : owner (number t.one) ≡ i = ap owner t.numbered ∙ sym own in
      let next : suc n ≡ n + 1 = omega arith in
      map-set items lists i popped ∙ ap (λ z. set z i (items popped)) v
      ∙ set_from now then (items popped) 0 parts i i l (omega arith) t.those
      (λ q o.
      let other : (owner (number t.one) == q) ≡ false = ap (λ z. z == q) same ∙ o in
      ap (λ z. turned (part_of engine owner q z)) t.left
      ∙ ap (λ b. turned (cond b (t.one ∷ part_of engine owner q (drop (suc n) w)) (part_of engine owner q (drop (suc n) w)))) other)
      ∙ ap (λ k. lists_left owner parts k w) next
