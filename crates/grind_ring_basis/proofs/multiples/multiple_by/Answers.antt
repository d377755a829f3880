use Rattle.std.proofs.Common.{subst, refl, ◌∙◌}
use Rattle.grind_monomials.specs.Monomials.{IsMonomial, least_common_multiple}
use Rattle.grind_normal_forms.proofs.PairLemmas.{mono-cofactor}
use Rattle.grind_ring_basis.proofs.multiples.multiple_by.Goals as goal

pub one_term-requires-clause-monomial : goal.one_term-requires-clause-monomial
one_term-requires-clause-monomial c =
    mono-cofactor c.args.leads.now.first.now c.args.leads.now.second.now c.in_ok-whole.whole c.as_slice.result.now c.lead_monomial.result.now
    c.in_ok-monomial.monomial c.in_ok-monomial.monomial
    (subst IsMonomial c.lead_monomial-first.ensures.value c.lead_monomial-first.ensures.keeps)
    (subst IsMonomial c.lead_monomial-second.ensures.value c.lead_monomial-second.ensures.keeps)
    (c.in_ok-whole.ensures ∙ (λ i. least_common_multiple (c.lead_monomial-first.ensures.value i) (c.lead_monomial-second.ensures.value i)))
    c.as_slice.ensures.value c.in_ok-monomial.ensures refl
