use Rattle.std.proofs.Common.{◌≡◌, FitsSigned, rules, sym, ◌∙◌}
use Rattle.std.specs.Int.{w128}
use Rattle.std.proofs.lemmas.Int.{to_z-of_z}
use Rattle.grind_cutsat_cuts.specs.declared.units.resolves_two_bounds.Leads.{Leads}
use Rattle.grind_cutsat_cuts.proofs.ResolveLemmas.{opposite_found}
use Rattle.grind_cutsat_cuts.proofs.units.resolves_two_bounds.leads_of.Goals as goal

pub returns : goal.returns
returns c =
    let first : FitsSigned w128 c.in-Some.first.now.coefficient = search rules in
    let second : FitsSigned w128 c.in-Some-split_first.second.now.coefficient = search rules in
    let same : c.in-Some.first.now.node ≡ c.in-Some-split_first.second.now.node = search rules in
    let half = simp (to_z-of_z w128 c.in-Some.first.now.coefficient first) at c.opposite.ensures in
    let whole = simp (to_z-of_z w128 c.in-Some-split_first.second.now.coefficient second) at half in
    opposite_found c.args.upper.now c.args.lower.now c.in-Some.first.now c.in-Some-split_first.second.now
    c.in-Some.field-0-1.now c.in-Some-split_first.field-0-1.now
    (sym c.parts.ensures.value ∙ c.in-Some.ensures.cases.0)
    (sym c.parts-2.ensures.value ∙ c.in-Some-split_first.ensures.cases.0)
    Leads (λ (it : Leads). it.over) (λ (it : Leads). it.under) same c.opposite.result whole
