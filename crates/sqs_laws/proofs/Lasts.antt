-- The queues at the end of a run: what a law says of each, and that nothing is due there by the horizon.
use Rattle.std.specs.Prelude.{All, IsNone, List, None, Option, Some, [], if◌then◌else◌, length, nat_le, slice_get, ℕ, ◌+◌, ◌<◌, ◌==◌, ◌∷◌, ◌≡◌, ◌≤◌}
use Rattle.std.proofs.Common.{arith, inl, inr, refl, ap, ◌∙◌, sym}
use Rattle.sqs_laws.proofs.Terms.{by_cases, due_by, eqb-false, eqb-true, In, IsRunOf, Key, least_due, leb-false, number_of, of_all, QueueSettings, Run, Scenario, Site, slice_get_within, world_due}
use Rattle.sqs_laws.proofs.Left.{all_sites}
use Rattle.sqs_laws.proofs.Moments.{IsFrom, IsTimely, due_lasts, due_timely, from_sites}
use Rattle.sqs_laws.proofs.Worlds.{AreNumbered, IsGood, RowLaw, every_site}

-- what is due after a run is due after the horizon
past_horizon : (horizon : ℕ) (o : Option Key) → IsNone (due_by horizon o) → IsFrom (horizon + 1) o
past_horizon horizon None h = tt
past_horizon horizon (Some k) h =
    by_cases (nat_le k.at horizon) (λ e. let same : due_by horizon (Some k) ≡ Some k = ap (λ b. if b then Some k else None) e in cc)
    (λ e. let less : horizon < k.at = leb-false k.at horizon e in omega (arith, less))

module _ (s : Scenario) (law : RowLaw s) where
  -- one of the sites, by its number
  pub record IsThere (sites : List Site) (n : ℕ) : Type 0 where
    pub site : Site
    pub within : In sites site
    pub number : number_of site.core ≡ n

  there : (sites : List Site) (low n : ℕ) → AreNumbered low sites → low ≤ n → n < low + length sites → IsThere sites n
  there [] low n a l k = absurd (omega (arith, l, k))
  there (x ∷ xs) low n a l k =
      by_cases (n == low) (λ e. record { site = x; within = inl refl; number = a.0 ∙ sym (eqb-true n low e) })
      (λ e.
      let far : low + 1 ≤ n = grind (arith, eqb-false n low e, l) in
      let y : IsThere xs n = there xs (low + 1) n a.1 far (omega (arith, k)) in
      record { site = y.site; within = inr y.within; number = y.number })

  -- the queue of a number at the end of a run
  pub record IsLast (r : Run) (n : ℕ) : Type 0 where
    pub site : Site
    pub number : number_of site.core ≡ n
    pub good : IsGood s law r.rows site
    pub timely : IsTimely (s.horizon + 1) site.core.queue
    pub lasts : All (λ m. s.horizon + 1 ≤ m.enqueued + site.core.queue.settings.retention) site.core.queue.records

  pub last_of : (r : Run) → IsRunOf s r → (n : ℕ) (q : QueueSettings) → slice_get s.queues n ≡ Some q → IsLast r n
  last_of r is n q e =
      let all = every_site s law r is in
      let inside : n < length s.queues = slice_get_within s.queues n q e in
      let many : length r.sites ≡ length s.queues = all_sites s r is in
      let x : IsThere r.sites n = there r.sites 0 n all.1 (omega arith) (omega (arith, inside, many)) in
      let from : All (λ y. IsFrom (s.horizon + 1) (least_due y)) r.sites = from_sites (s.horizon + 1) r.sites (past_horizon s.horizon (world_due r.sites) is.ended) in
      record {
        site = x.site;
        number = x.number;
        good = of_all (IsGood s law r.rows) r.sites x.site all.0 x.within;
        timely = due_timely (s.horizon + 1) x.site (of_all (λ y. IsFrom (s.horizon + 1) (least_due y)) r.sites x.site from x.within);
        lasts = due_lasts (s.horizon + 1) x.site (of_all (λ y. IsFrom (s.horizon + 1) (least_due y)) r.sites x.site from x.within);
      }
