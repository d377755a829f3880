use Rattle.std.proofs.Common.{FitsSigned, rules, sym, ◌∙◌}
use Rattle.std.specs.Int.{w128}
use Rattle.std.proofs.lemmas.Int.{to_z-of_z}
use Rattle.grind_normal_forms.specs.Pairs.{lead_coefficient}
use Rattle.grind_ring_basis.proofs.MultipleLemmas.{turned_nonzero, second_is, second_none}
use Rattle.grind_ring_basis.proofs.multiples.second_share.Goals as goal

pub returns-in_default : goal.returns-in_default
returns-in_default c =
    second_none c.args.factor.now c.args.own.now c.args.leads.now.first.now c.args.leads.now.second.now c.args.leads.now.divisor
    c.in_default.ensures.fits

pub multiple_by-requires : goal.multiple_by-requires
multiple_by-requires c =
    let fits_k : FitsSigned w128 c.in-Some.coefficient = search rules in
    λ e. turned_nonzero c.args.leads.now.divisor (lead_coefficient c.args.leads.now.first.now) c.in-Some.coefficient
    c.in-Some.ensures.fits c.requires.divisor.0 (c.turned.ensures.nonzero c.requires.first)
    (sym (to_z-of_z w128 c.in-Some.coefficient fits_k) ∙ e)

pub returns : goal.returns
returns c =
    let fits_k : FitsSigned w128 c.in-Some.coefficient = search rules in
    let multiple = simp (to_z-of_z w128 c.in-Some.coefficient fits_k) at c.in_ok-multiple.ensures in
    second_is c.args.factor.now c.args.own.now c.in_ok-multiple.multiple c.args.leads.now.first.now c.args.leads.now.second.now
    c.args.leads.now.divisor c.in-Some.coefficient c.in_ok-more.more c.in_ok-more.ensures
    c.in-Some.ensures.fits multiple
