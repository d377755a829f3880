use Rattle.std.proofs.Common.{FitsSigned, rules}
use Rattle.std.specs.Int.{w128}
use Rattle.std.proofs.lemmas.Int.{to_z-of_z}
use Rattle.grind_cutsat_cuts.proofs.FactorLemmas.{no_fitting}
use Rattle.grind_cutsat_cuts.proofs.ResolveLemmas.{none_opposite, none_factors, none_cut}
use Rattle.grind_cutsat_cuts.proofs.units.resolves_two_bounds.resolved.Goals as goal

pub returns-in_default : goal.returns-in_default
returns-in_default c = none_opposite c.args.facts.now c.args.bounds.now.upper.now c.args.bounds.now.lower.now c.in_default.ensures

pub returns-in_default-factors_of : goal.returns-in_default-factors_of
returns-in_default-factors_of c =
    let over : FitsSigned w128 c.in-Some.leads.over = search rules in
    let under : FitsSigned w128 c.in-Some.leads.under = search rules in
    let half = simp (to_z-of_z w128 c.in-Some.leads.over over) at c.in_default-factors_of.ensures in
    let whole = simp (to_z-of_z w128 c.in-Some.leads.under under) at half in
    none_factors c.args.facts.now c.args.bounds.now.upper.now c.args.bounds.now.lower.now c.in-Some.leads.over c.in-Some.leads.under
    c.in-Some.ensures (no_fitting c.in-Some.leads.over c.in-Some.leads.under c.in-Some.ensures.negative whole)

pub returns-in_default-cut : goal.returns-in_default-cut
returns-in_default-cut c =
    let over : FitsSigned w128 c.in-Some.leads.over = search rules in
    let under : FitsSigned w128 c.in-Some.leads.under = search rules in
    let half = simp (to_z-of_z w128 c.in-Some.leads.over over) at c.in-Some-factors_of.ensures in
    let whole = simp (to_z-of_z w128 c.in-Some.leads.under under) at half in
    none_cut c.args.facts.now c.args.bounds.now.upper.now c.args.bounds.now.lower.now c.in-Some.leads.over c.in-Some.leads.under
    c.in-Some.ensures c.in-Some-factors_of.factors.first c.in-Some-factors_of.factors.second whole
    (rw c.in_default-cut.is at c.in_ok-cut.ensures)
