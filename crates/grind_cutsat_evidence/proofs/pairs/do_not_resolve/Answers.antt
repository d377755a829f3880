use Rattle.std.proofs.Common.{◌≡◌, ◌↔◌, ◌⊎◌, inl, inr, ℕ, List, [], ◌∷◌, Option, Some, None, ℤ, IsTrue, pos, refl, sym, ap, ◌∙◌, subst}
use Rattle.std.proofs.lemmas.Bool.{false≢true}
use Rattle.grind_claims.specs.declared.claim.Claim.TheVariants.{AtMost}
use Rattle.grind_cutsat_evidence.proofs.PairLemmas.{iff_via, none_by_leads, by_leads}
use Rattle.grind_cutsat_evidence.proofs.pairs.do_not_resolve.Goals as goal

pub returns-in_default : goal.returns-in_default
returns-in_default c =
    (λ yes. absurd (false≢true yes), λ h. absurd (none_by_leads c.args.upper.now c.args.lower.now c.in_default.ensures h))

pub returns : goal.returns
returns c =
    iff_via c.in_ok-unresolved.ensures
    (by_leads c.args.upper.now c.args.lower.now c.in-Some.leads.over c.in-Some.leads.under c.in-Some.ensures)
