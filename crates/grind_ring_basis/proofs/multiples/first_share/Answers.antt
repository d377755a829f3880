use Rattle.std.proofs.Common.{FitsSigned, rules, sym, ap, ◌∙◌}
use Rattle.std.specs.Int.{w128}
use Rattle.std.proofs.lemmas.Int.{to_z-of_z}
use Rattle.grind_normal_forms.specs.Pairs.{divided_by, lead_coefficient}
use Rattle.grind_ring_basis.proofs.MultipleLemmas.{quotient_nonzero, first_is}
use Rattle.grind_ring_basis.proofs.multiples.first_share.Goals as goal

pub multiple_by-requires : goal.multiple_by-requires
multiple_by-requires c =
    let fits : FitsSigned w128 c.lead_coefficient.result = search rules in
    let fits_k : FitsSigned w128 c.divided-coefficient.result = search rules in
    let is = simp (to_z-of_z w128 c.lead_coefficient.result fits) at c.divided-coefficient.ensures
    ∙ ap (divided_by c.args.leads.now.divisor) c.lead_coefficient.ensures.value in
    let some = c.lead_coefficient.ensures.nonzero c.requires.second in
    λ e. quotient_nonzero c.args.leads.now.divisor (lead_coefficient c.args.leads.now.second.now) c.divided-coefficient.result is
    c.requires.divisor.1 (λ none. some (c.lead_coefficient.ensures.value ∙ none)) (sym (to_z-of_z w128 c.divided-coefficient.result fits_k) ∙ e)

pub returns : goal.returns
returns c =
    let fits : FitsSigned w128 c.lead_coefficient.result = search rules in
    let fits_k : FitsSigned w128 c.divided-coefficient.result = search rules in
    let is = simp (to_z-of_z w128 c.lead_coefficient.result fits) at c.divided-coefficient.ensures
    ∙ ap (divided_by c.args.leads.now.divisor) c.lead_coefficient.ensures.value in
    let multiple = simp (to_z-of_z w128 c.divided-coefficient.result fits_k) at c.in_ok-multiple.ensures in
    first_is c.args.factor.now c.args.own.now c.in_ok-multiple.multiple c.args.leads.now.first.now c.args.leads.now.second.now
    c.args.leads.now.divisor c.divided-coefficient.result c.in_ok-more.more c.in_ok-more.ensures is multiple
