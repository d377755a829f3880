use Rattle.std.proofs.Common.{◌≢◌, ℕ}
use Rattle.std.specs.List.{AllByRecursion}
use Rattle.std.proofs.lemmas.List.Elements.{recursion_from_All}
use Rattle.grind_term_graph.specs.Terms.{prop}
use Rattle.grind_grammar.specs.Keeps.{term_of}
use Rattle.grind_resolution.specs.Contexts.{gives_in}
use Rattle.grind_resolution.specs.Sorting.{IsSorted}
use Rattle.grind_annotations.specs.Asking.{IsFormulaTerm}
use Rattle.grind_annotations.specs.Written.{written, annotation_of}
use Rattle.grind_annotations.proofs.ItemLemmas.{none_behind, all_behind, false_with, also}
use Rattle.grind_theory.proofs.theorem_faults.are_terms_sorted.Goals as goal

pub returns-then-not-annots_answer : goal.returns-then-not-annots_answer
returns-then-not-annots_answer c =
    let gives = gives_in c.args.context.now in
    false_with (AllByRecursion (λ (sort : ℕ). sort ≢ prop) c.args.vars.now) _ _
    (none_behind (annotation_of c.args.context.now.text.now) (λ annotation. AllByRecursion (IsSorted gives) (written annotation)) c.args.annots.now (IsFormulaTerm gives (term_of c.args.context.now.text.now c.args.body.now))
    c.annots_answer.result c.annots_answer.ensures c.if-not-annots_answer.true)

pub returns : goal.returns
returns c =
    let gives = gives_in c.args.context.now in
    also (AllByRecursion (λ (sort : ℕ). sort ≢ prop) c.args.vars.now) _ _ c.answers.result
    (recursion_from_All (λ (sort : ℕ). sort ≢ prop) c.args.vars.now (c.has_no_formulas.ensures.0 c.if-not-has_no_formulas.false))
    (all_behind (annotation_of c.args.context.now.text.now) (λ annotation. AllByRecursion (IsSorted gives) (written annotation)) c.args.annots.now (IsFormulaTerm gives (term_of c.args.context.now.text.now c.args.body.now))
    c.annots_answer.result c.annots_answer.ensures c.if-not-annots_answer.false c.answers.result c.answers.ensures)
