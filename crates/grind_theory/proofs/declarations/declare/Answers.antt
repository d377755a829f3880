use Rattle.std.proofs.Common.{sym, ap, ◌∙◌}
use Rattle.grind_grammar.specs.Terms.{Theorem, Goal}
use Rattle.grind_grammar.specs.Keeps.{term_of, name_of}
use Rattle.grind_annotations.specs.Written.{terms_of, annotations_of}
use Rattle.grind_theory.specs.Kept.{bounds_of, declaration_of}
use Rattle.grind_theory.proofs.DeclTaking.{taken_as, fault_as}
use Rattle.grind_theory.proofs.declarations.declare.Goals as goal

pub returns-in-Theorem-clause-ok : goal.returns-in-Theorem-clause-ok
returns-in-Theorem-clause-ok c =
    let text = c.args.text.now in
    taken_as text c.args.decl.now (Theorem (name_of text c.in-Theorem.name) (bounds_of text c.as_slice.result.now) (annotations_of text c.as_slice-marks.result.now) (term_of text c.in-Theorem.body)) c.args.building.now
    (ap (declaration_of text) c.in-Theorem.is
    ∙ (λ i. Theorem (name_of text c.in-Theorem.name) (bounds_of text ((sym c.as_slice.ensures.value) i)) (annotations_of text ((sym c.as_slice-marks.ensures.value) i)) (term_of text c.in-Theorem.body))) c.declare_theorem.result c.declare_theorem.new.building c.declare_theorem.ensures.ok

pub returns-in-Theorem-clause-faulty : goal.returns-in-Theorem-clause-faulty
returns-in-Theorem-clause-faulty c =
    let text = c.args.text.now in
    λ fault e. fault_as text c.args.decl.now (Theorem (name_of text c.in-Theorem.name) (bounds_of text c.as_slice.result.now) (annotations_of text c.as_slice-marks.result.now) (term_of text c.in-Theorem.body)) c.args.building.now
    (ap (declaration_of text) c.in-Theorem.is
    ∙ (λ i. Theorem (name_of text c.in-Theorem.name) (bounds_of text ((sym c.as_slice.ensures.value) i)) (annotations_of text ((sym c.as_slice-marks.ensures.value) i)) (term_of text c.in-Theorem.body))) fault (c.declare_theorem.ensures.faulty fault e)

pub returns-in-Goal-clause-ok : goal.returns-in-Goal-clause-ok
returns-in-Goal-clause-ok c =
    let text = c.args.text.now in
    taken_as text c.args.decl.now (Goal (name_of text c.in-Goal.name) (bounds_of text c.as_slice-in-Goal.result.now) (terms_of text c.as_slice-trees.result.now) (term_of text c.in-Goal.show)) c.args.building.now
    (ap (declaration_of text) c.in-Goal.is
    ∙ (λ i. Goal (name_of text c.in-Goal.name) (bounds_of text ((sym c.as_slice-in-Goal.ensures.value) i)) (terms_of text ((sym c.as_slice-trees.ensures.value) i)) (term_of text c.in-Goal.show))) c.declare_goal.result c.declare_goal.new.building c.declare_goal.ensures.ok

pub returns-in-Goal-clause-faulty : goal.returns-in-Goal-clause-faulty
returns-in-Goal-clause-faulty c =
    let text = c.args.text.now in
    λ fault e. fault_as text c.args.decl.now (Goal (name_of text c.in-Goal.name) (bounds_of text c.as_slice-in-Goal.result.now) (terms_of text c.as_slice-trees.result.now) (term_of text c.in-Goal.show)) c.args.building.now
    (ap (declaration_of text) c.in-Goal.is
    ∙ (λ i. Goal (name_of text c.in-Goal.name) (bounds_of text ((sym c.as_slice-in-Goal.ensures.value) i)) (terms_of text ((sym c.as_slice-trees.ensures.value) i)) (term_of text c.in-Goal.show))) fault (c.declare_goal.ensures.faulty fault e)
