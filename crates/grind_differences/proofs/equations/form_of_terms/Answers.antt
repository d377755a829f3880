use Rattle.std.proofs.Common.{rules, FitsSigned, List, ℕ, length, pos, sym, ap, ◌∙◌}
use Rattle.std.specs.Int.{w128}
use Rattle.std.proofs.lemmas.Int.{to_z-of_z}
use Rattle.grind_linear_forms.specs.Forms.{form_data}
use Rattle.grind_differences.proofs.FormLemmas.{form_of_is, so_far_end, so_far_number}
use Rattle.grind_differences.proofs.equations.form_of_terms.Goals as goal

pub invariant_of-result : goal.invariant_of-result
invariant_of-result c =
    form_of_is c.args.terms.now (form_data c.loop-term.parts c.in-Some.term.now.coefficient) c.requires
    (so_far_number c.args.terms.now c.loop-term.parts c.loop-term.rest.now c.loop-term.invariant.0 c.in-Some.term.now c.in-Some.tail.now
    c.in-Some.ensures.cases.0 c.loop-term.invariant.1 (ap (λ (nodes : List ℕ). length nodes) (sym c.as_slice.ensures.value) ∙ c.in_default-split_first.ensures.cases))

pub returns-in_default-split_first : goal.returns-in_default-split_first
returns-in_default-split_first c =
    let fits : FitsSigned w128 c.in-Some.term.now.coefficient = search rules in
    simp (to_z-of_z w128 c.in-Some.term.now.coefficient fits)
    (sym (so_far_number c.args.terms.now c.loop-term.parts c.loop-term.rest.now c.loop-term.invariant.0 c.in-Some.term.now c.in-Some.tail.now
    c.in-Some.ensures.cases.0 c.loop-term.invariant.1 (ap (λ (nodes : List ℕ). length nodes) (sym c.as_slice.ensures.value) ∙ c.in_default-split_first.ensures.cases)))

pub invariant_of-result-2 : goal.invariant_of-result-2
invariant_of-result-2 c =
    form_of_is c.args.terms.now (form_data c.loop-term.parts (pos 0)) c.requires
    (so_far_end c.args.terms.now c.loop-term.parts c.loop-term.rest.now c.loop-term.invariant.0 c.in_default.ensures.cases)
