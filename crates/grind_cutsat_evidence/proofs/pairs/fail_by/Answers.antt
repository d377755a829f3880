use Rattle.std.proofs.lemmas.Int.{to_z-of_z}
use Rattle.std.specs.Int.{w128}
use Rattle.std.proofs.Common.{rules, FitsSigned, ◌≡◌, ◌↔◌, ◌⊎◌, inl, inr, ℕ, List, [], ◌∷◌, Option, Some, None, ℤ, IsTrue, pos, refl, sym, ap, ◌∙◌, subst}
use Rattle.std.proofs.lemmas.Bool.{false≢true}
use Rattle.grind_claims.specs.declared.claim.Claim.TheVariants.{AtMost}
use Rattle.grind_cutsat_evidence.proofs.PairLemmas.{iff_via, fail_by_factors, fail_by_sum}
use Rattle.grind_cutsat_evidence.proofs.pairs.fail_by.Goals as goal

pub returns-in_default : goal.returns-in_default
returns-in_default c =
    let one : FitsSigned w128 c.args.leads.over = search rules in
    let two : FitsSigned w128 c.args.leads.under = search rules in
    let are = simp (to_z-of_z w128 c.args.leads.over one, to_z-of_z w128 c.args.leads.under two) at c.in_default.ensures in
    (λ yes. fail_by_factors c.args.upper.now c.args.lower.now c.args.leads.over c.args.leads.under are, λ h. refl)

pub returns : goal.returns
returns c =
    let one : FitsSigned w128 c.args.leads.over = search rules in
    let two : FitsSigned w128 c.args.leads.under = search rules in
    let are = simp (to_z-of_z w128 c.args.leads.over one, to_z-of_z w128 c.args.leads.under two) at c.in-Some.ensures in
    iff_via c.in_ok-fail.ensures
    (fail_by_sum c.args.upper.now c.args.lower.now c.args.leads.over c.args.leads.under c.in-Some.factors.first c.in-Some.factors.second
    c.requires.under are)
