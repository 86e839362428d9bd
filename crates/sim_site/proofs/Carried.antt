-- Effects one after another.
use Rattle.sqs_message.specs.declared.row.Row.{Row}
use Rattle.sqs_redrive.specs.declared.transfers.Outbound.{Outbound}
use Rattle.std.proofs.Common.{Global, Vec, ◌≡◌, [], ◌∷◌, ◌++◌, append_assoc, append-nil, arith, refl, ap, subst, sym, ◌∙◌, ◌≤◌}
use Rattle.sqs_model.specs.Limits.{rows_count}
use Rattle.sqs_model.specs.Site.{Core, Effect, and_then, no_effect, says}
use Rattle.sim_site.specs.Effects.{Did, Effects, Remains}
use Rattle.sim_site.proofs.Passing.{rows_after}

-- one effect, and then what comes of the site that it leaves
pub did_then :
    (a b d : Effects) (c e : Core) (f : Effect) (g : Core → Effect) → Did a b c f → Did b d e (g c) → Did a d e (and_then f g)
did_then a b d c e f g p q =
    record {
      core = q.core ∙ ap (λ x. (g x).core) p.core;
      rows = q.rows ∙ ap (λ r. r ++ (g c).rows) p.rows ∙ append_assoc a.rows.items f.rows (g c).rows ∙ ap (λ x. a.rows.items ++ (f.rows ++ (g x).rows)) p.core;
      sent = q.sent ∙ ap (λ r. r ++ (g c).sent) p.sent ∙ append_assoc a.sent.items f.sent (g c).sent ∙ ap (λ x. a.sent.items ++ (f.sent ++ (g x).sent)) p.core;
    }

-- nothing was done
pub did_nothing : (a : Effects) (c : Core) → Did a a c (no_effect c)
did_nothing a c = record { core = refl; rows = sym (append-nil a.rows.items); sent = sym (append-nil a.sent.items) }

-- a row was added, and nothing else
pub did_say : (a b : Effects) (c d : Core) (x y : Row) → b.rows.items ≡ a.rows.items ++ x ∷ [] → b.sent ≡ a.sent → c ≡ d → x ≡ y → Did a b c (says d y)
did_say a b c d x y rows sent same row =
    record {
      core = same;
      rows = rows ∙ ap (λ z. a.rows.items ++ z ∷ []) row;
      sent = ap (λ (v : Vec Outbound Global). v.items) sent ∙ sym (append-nil a.sent.items);
    }

-- all of an effect remains before anything is done
pub remains_all : (a : Effects) (f : Effect) → Remains a a f f
remains_all a f = record { core = refl; rows = refl; sent = refl; told = omega arith }

-- the first of what remains is done
pub remains_then :
    (a b d : Effects) (c : Core) (rest whole f : Effect) (g : Core → Effect)
    → Remains a b rest whole → rest ≡ and_then f g → Did b d c f → Remains a d (g c) whole
remains_then a b d c rest whole f g m e p =
    let core : rest.core ≡ (g f.core).core = ap (λ (x : Effect). x.core) e in
    let rows : rest.rows ≡ f.rows ++ (g f.core).rows = ap (λ (x : Effect). x.rows) e in
    let sent : rest.sent ≡ f.sent ++ (g f.core).sent = ap (λ (x : Effect). x.sent) e in
    record {
      core = ap (λ x. (g x).core) p.core ∙ sym core ∙ m.core;
      rows =
          ap (λ r. r ++ (g c).rows) p.rows ∙ append_assoc b.rows.items f.rows (g c).rows ∙ ap (λ x. b.rows.items ++ (f.rows ++ (g x).rows)) p.core
          ∙ ap (λ r. b.rows.items ++ r) (sym rows) ∙ m.rows;
      sent =
          ap (λ r. r ++ (g c).sent) p.sent ∙ append_assoc b.sent.items f.sent (g c).sent ∙ ap (λ x. b.sent.items ++ (f.sent ++ (g x).sent)) p.core
          ∙ ap (λ r. b.sent.items ++ r) (sym sent) ∙ m.sent;
      told =
          let less : rows_count (g c).rows ≤ rows_count (f.rows ++ (g f.core).rows) = subst (λ x. rows_count (g c).rows ≤ rows_count (f.rows ++ (g x).rows)) p.core (rows_after f.rows (g c).rows) in
          let same : rows_count rest.rows ≡ rows_count (f.rows ++ (g f.core).rows) = ap rows_count rows in
          omega (arith, less, same, m.told);
    }

-- nothing remains
pub remains_none : (a b : Effects) (c : Core) (rest whole : Effect) → Remains a b rest whole → rest ≡ no_effect c → Did a b c whole
remains_none a b c rest whole m e =
    let core : rest.core ≡ c = ap (λ (x : Effect). x.core) e in
    record {
      core = sym core ∙ m.core;
      rows = sym (append-nil b.rows.items) ∙ ap (λ (x : Effect). b.rows.items ++ x.rows) (sym e) ∙ m.rows;
      sent = sym (append-nil b.sent.items) ∙ ap (λ (x : Effect). b.sent.items ++ x.sent) (sym e) ∙ m.sent;
    }
