use Rattle.std.proofs.Common.{ap, subst, Err, None}
use Rattle.grind_grammar.specs.Keeps.{term_of}
use Rattle.grind_resolution.specs.Scopes.{Gives}
use Rattle.grind_annotations.specs.Written.{annotations_of}
use Rattle.grind_theory.specs.Headings.{name_in, bounds_in}
use Rattle.grind_theory.specs.Asking.{FaultOfTerms}
use Rattle.grind_theory.proofs.FunTaking.{same_Err}
use Rattle.grind_theory.proofs.TheoremTaking.{theorem-binders, theorem-variables, theorem-faulty, theorem-added}
use Rattle.grind_theory.proofs.theorems.read_theorem.Goals as goal

pub returns-in-Err-clause-faulty : goal.returns-in-Err-clause-faulty
returns-in-Err-clause-faulty c = λ fault e.
    let text = c.args.heading.now.text.now in
    theorem-binders c.args.signature.now (name_in c.args.heading.now) (bounds_in c.args.heading.now) (annotations_of text c.args.annots.now) (term_of text c.args.body.now) fault
    (c.in-Err.ensures.faulty fault (ap Err (same_Err _ _ e)))

pub theorem_in-requires-clause-variables : goal.theorem_in-requires-clause-variables
theorem_in-requires-clause-variables c =
    let text = c.args.heading.now.text.now in
    theorem-variables c.args.signature.now (name_in c.args.heading.now) (bounds_in c.args.heading.now) (annotations_of text c.args.annots.now) (term_of text c.args.body.now)
    c.in-Ok.scope c.in-Ok.ensures.ok c.in-Ok-sorts_of_binders.vars c.in-Ok-sorts_of_binders.ensures

pub theorem_in-requires-clause-sorted : goal.theorem_in-requires-clause-sorted
theorem_in-requires-clause-sorted c =
    let text = c.args.heading.now.text.now in
    let f = subst (FaultOfTerms (Gives c.args.signature.now c.in-Ok.scope) c.as_slice-sorts.result.now (annotations_of text c.args.annots.now) (term_of text c.args.body.now))
    c.in_default.is c.fault_of_terms.ensures in
    ((f.2).2)

pub theorem_in-requires-clause-formula : goal.theorem_in-requires-clause-formula
theorem_in-requires-clause-formula c =
    let text = c.args.heading.now.text.now in
    let f = subst (FaultOfTerms (Gives c.args.signature.now c.in-Ok.scope) c.as_slice-sorts.result.now (annotations_of text c.args.annots.now) (term_of text c.args.body.now))
    c.in_default.is c.fault_of_terms.ensures in
    ((f.2).1)

pub returns-in-Ok-theorem_in-clause-ok : goal.returns-in-Ok-theorem_in-clause-ok
returns-in-Ok-theorem_in-clause-ok c =
    let text = c.args.heading.now.text.now in
    let f = subst (FaultOfTerms (Gives c.args.signature.now c.in-Ok.scope) c.as_slice-sorts.result.now (annotations_of text c.args.annots.now) (term_of text c.args.body.now))
    c.in_default.is c.fault_of_terms.ensures in
    let asked = subst (λ v. FaultOfTerms (Gives c.args.signature.now c.in-Ok.scope) v (annotations_of text c.args.annots.now) (term_of text c.args.body.now) None) c.as_slice-sorts.ensures.value f in
    theorem-added c.args.signature.now (name_in c.args.heading.now) (bounds_in c.args.heading.now) (annotations_of text c.args.annots.now) (term_of text c.args.body.now)
    c.in-Ok.scope c.in-Ok.ensures.ok c.in-Ok-sorts_of_binders.vars c.in-Ok-sorts_of_binders.ensures asked c.in-Ok-theorem_in.theorem c.in-Ok-theorem_in.ensures.ok

pub returns-clause-faulty : goal.returns-clause-faulty
returns-clause-faulty c = λ fault e.
    let text = c.args.heading.now.text.now in
    let f = subst (FaultOfTerms (Gives c.args.signature.now c.in-Ok.scope) c.as_slice-sorts.result.now (annotations_of text c.args.annots.now) (term_of text c.args.body.now))
    c.in_default.is c.fault_of_terms.ensures in
    let asked = subst (λ v. FaultOfTerms (Gives c.args.signature.now c.in-Ok.scope) v (annotations_of text c.args.annots.now) (term_of text c.args.body.now) None) c.as_slice-sorts.ensures.value f in
    theorem-faulty c.args.signature.now (name_in c.args.heading.now) (bounds_in c.args.heading.now) (annotations_of text c.args.annots.now) (term_of text c.args.body.now)
    c.in-Ok.scope c.in-Ok.ensures.ok c.in-Ok-sorts_of_binders.vars c.in-Ok-sorts_of_binders.ensures asked fault (c.in-Err-theorem_in.ensures.faulty fault (ap Err (same_Err _ _ e)))
