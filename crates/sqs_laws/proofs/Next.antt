-- Each message that a receive of a FIFO queue gives is the next of its group, behind the rows of those given before it.
use Rattle.std.specs.Prelude.{Bool, List, Some, [], false, true, ℕ, ◌++◌, ◌<◌, ◌==◌, ◌∷◌, ◌≡◌, ◌≢◌, ◌⊎◌}
use Rattle.std.proofs.Common.{ap, arith, inl, inr, refl, subst, sym, ◌∙◌}
use Rattle.sqs_laws.proofs.Terms.{All-head, All-tail, Apart, Core, eqb-false, eqb-true, find_picked, Got, got_row, has_number, id_of, In, is_in_flight, Key, Message, numbered, Queue, received, Row, same_group, same_text, Stand, with_change}
use Rattle.sqs_laws.specs.Sends.{IsByCall}
use Rattle.sqs_laws.specs.Laws.{is_fifo}
use Rattle.sqs_laws.specs.Words.{flight}
use Rattle.sqs_laws.proofs.Calls.{AreNext, AreToldOf, other_changed, own_changed, received_stand}
use Rattle.sqs_laws.proofs.Moves.{IsNext}
use Rattle.sqs_laws.proofs.Naming.{found_in, flight_begins, flight_stays, names_other}
use Rattle.sqs_laws.proofs.Turns.{EachTurn, IsTurn}

module _ (key : Key) (c : Core) (agent timeout : ℕ) (first : Queue) where
  -- what a message was when the receive began
  record Was (done : List Message) (i : ℕ) (m : Message) : Type 0 where
    pub one : Message
    pub there : numbered i first.records ≡ Some one
    pub group : one.group ≡ m.group
    pub flies : is_in_flight m ≡ true → (is_in_flight one ≡ true) ⊎ In done one

  -- the row by which one of them was received
  record Given (past : List Row) (z : Message) : Type 0 where
    pub row : Row
    pub by : flight (id_of first z.number) past ≡ Some row
    pub by_agent : row.agent ≡ agent
    pub at_key : row.key ≡ key

  -- a queue that gave these messages
  record Gave (done : List Message) (past : List Row) (q : Queue) : Type 0 where
    pub site : q.site ≡ first.site
    pub each : (i : ℕ) (m : Message) → numbered i q.records ≡ Some m → Was done i m
    pub rows : (z : Message) → In done z → Given past z

  module _ (done : List Message) (past : List Row) (q : Queue) (m : Message) (g : Got) (id : g.id ≡ record { site = first.site; number = m.number }) (h : Gave done past q) (stands : numbered m.number q.records ≡ Some m) where
    abbrev r : Row
    r = got_row key c agent g

    -- those of its group
    alike : (i : ℕ) (x : Message) (w : Was done i x) → same_group m x ≡ true → (In first.records w.one) × (same_group m w.one ≡ true) × (w.one.number ≡ i)
    alike i x w t = (
      found_in (has_number i) first.records w.one w.there,
      ap (λ o. same_text m.group o) w.group ∙ t,
      eqb-true w.one.number i (find_picked (has_number i) first.records w.one w.there),
    )

    by_call : (i : ℕ) (z : Message) → z.number ≡ i → Given past z → IsByCall r (flight (id_of q i) past)
    by_call i z e w =
        let at : flight (id_of q i) past ≡ Some w.row = ap (λ s. flight (record { site = s; number = i }) past) h.site ∙ ap (λ n. flight (id_of first n) past) (sym e) ∙ w.by in
        subst (IsByCall r) (sym at) (w.by_agent, ap (λ (k : Key). k.at) w.at_key)

    is_next : IsTurn first.records done m → IsNext past q r m.number m
    is_next t =
        record {
          before = λ i x f s l.
              let w : Was done i x = h.each i x f in
              let a = alike i x w s in
              by_call i w.one a.2 (h.rows w.one (t.before w.one a.0 a.1 (omega (arith, a.2, l))));
          after = λ i x f s l.
              let w : Was done i x = h.each i x f in
              let a = alike i x w s in
              elim (is_in_flight x) as (λ b. is_in_flight x ≡ b → b ≡ false) [
                | true ↦ λ e.
                    elim (w.flies e) as (λ _. true ≡ false) [
                      | inl y ↦ sym y ∙ t.alone w.one a.0 a.1
                      | inr y ↦ absurd (let less : w.one.number < m.number = t.after w.one y a.1 in omega (arith, less, a.2, l))
                    ]
                | false ↦ λ e. refl
              ] refl;
        }

    -- the queue and the rows with it
    later : (i : ℕ) (x : Message) → Was done i x → Was (m ∷ done) i x
    later i x w = record { one = w.one; there = w.there; group = w.group; flies = λ e. elim (w.flies e) as (λ _. (is_in_flight w.one ≡ true) ⊎ In (m ∷ done) w.one) [ inl y ↦ inl y | inr y ↦ inr (inr y) ] }

    each_by : (b : Bool) (i : ℕ) (x : Message) → (i == m.number) ≡ b → numbered i (with_change q m.number (received key.at timeout)).records ≡ Some x → numbered m.number first.records ≡ Some m → Was (m ∷ done) i x
    each_by true i x e f s =
        let is : i ≡ m.number = eqb-true i m.number e in
        let own : numbered i (with_change q m.number (received key.at timeout)).records ≡ Some (received key.at timeout m) =
        ap (λ n. numbered n (with_change q m.number (received key.at timeout)).records) is ∙ own_changed m.number (received key.at timeout) (λ y. refl) q.records m stands in
        let which : received key.at timeout m ≡ x = cc in
        record { one = m; there = ap (λ n. numbered n first.records) is ∙ s; group = ap (λ (y : Message). y.group) which; flies = λ y. inr (inl refl) }
    each_by false i x e f s = later i x (h.each i x (sym (other_changed i m.number (received key.at timeout) (λ y. refl) (eqb-false i m.number e) q.records) ∙ f))

    rows_by : (b : Bool) (z : Message) → (z.number == m.number) ≡ b → (In done z → Given past z) → In (m ∷ done) z → Given (past ++ r ∷ []) z
    rows_by true z e f i =
        let is : m.number ≡ z.number = sym (eqb-true z.number m.number e) in
        let named : r.message ≡ Some (id_of first z.number) = ap (λ y. Some y) id ∙ ap (λ n. Some (id_of first n)) is in
        record { row = r; by = flight_begins (id_of first z.number) past r named refl; by_agent = refl; at_key = refl }
    rows_by false z e f (inl is) = absurd (eqb-false z.number m.number e (ap (λ (y : Message). y.number) (sym is)))
    rows_by false z e f (inr i) =
        let w : Given past z = f i in
        let far : z.number ≢ m.number = eqb-false z.number m.number e in
        record { row = w.row; by = flight_stays (id_of first z.number) past r (names_other (id_of first z.number) (id_of first m.number) r (ap (λ y. Some y) id) far) ∙ w.by; by_agent = w.by_agent; at_key = w.at_key }

    gave_more : numbered m.number first.records ≡ Some m → Gave (m ∷ done) (past ++ r ∷ []) (with_change q m.number (received key.at timeout))
    gave_more s =
        record {
          site = h.site;
          each = λ i x f. each_by (i == m.number) i x refl f s;
          rows = λ z i. rows_by (z.number == m.number) z refl (h.rows z) i;
        }

  next_by : (ms : List Message) (gots : List Got) (done : List Message) (past : List Row) (q : Queue) → AreToldOf first.site ms gots → Gave done past q → Apart ms → Stand first ms → Stand q ms → (is_fifo q.settings.kind ≡ true → EachTurn first.records done ms) → AreNext key c agent timeout past ms gots q
  next_by [] gots done past q t h a s d k = tt
  next_by (m ∷ ms) [] done past q t h a s d k = tt
  next_by (m ∷ ms) (g ∷ gs) done past q t h a s d k =
      let here : numbered m.number q.records ≡ Some m = All-head (λ y. numbered y.number q.records ≡ Some y) m ms d in
      let was : numbered m.number first.records ≡ Some m = All-head (λ y. numbered y.number first.records ≡ Some y) m ms s in
      let more : Gave (m ∷ done) (past ++ got_row key c agent g ∷ []) (with_change q m.number (received key.at timeout)) = gave_more done past q m g t.0.id h here was in
      let stand : Stand (with_change q m.number (received key.at timeout)) ms = received_stand key timeout q m ms a.0 (All-tail (λ y. numbered y.number q.records ≡ Some y) m ms d) in (
        λ f. is_next done past q m g t.0.id h here (k f).0,
        next_by ms gs (m ∷ done) (past ++ got_row key c agent g ∷ []) (with_change q m.number (received key.at timeout)) t.1 more a.1 (All-tail (λ y. numbered y.number first.records ≡ Some y) m ms s) stand (λ f. (k f).1),
      )

  -- each of them
  pub all_next : (ms : List Message) (gots : List Got) (past : List Row) → AreToldOf first.site ms gots → Apart ms → Stand first ms → (is_fifo first.settings.kind ≡ true → EachTurn first.records [] ms) → AreNext key c agent timeout past ms gots first
  all_next ms gots past t a s k =
      next_by ms gots [] past first t
      (record { site = refl; each = λ i m f. record { one = m; there = f; group = refl; flies = λ e. inl e }; rows = λ z i. absurd i }) a s s k
