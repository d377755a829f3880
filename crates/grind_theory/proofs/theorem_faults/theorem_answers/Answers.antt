use Rattle.std.specs.List.{AllByRecursion}
use Rattle.grind_grammar.specs.Keeps.{term_of}
use Rattle.grind_resolution.specs.Contexts.{gives_in}
use Rattle.grind_annotations.specs.Asking.{Answers}
use Rattle.grind_annotations.specs.Written.{written, annotation_of}
use Rattle.grind_annotations.proofs.ItemLemmas.{none_behind, all_behind}
use Rattle.grind_theory.proofs.theorem_faults.theorem_answers.Goals as goal

pub returns-then-not-annots_answer : goal.returns-then-not-annots_answer
returns-then-not-annots_answer c =
    let context = c.args.context.now in
    let asked = Answers c.args.question (gives_in context) in
    none_behind (annotation_of context.text.now) (λ annotation. AllByRecursion asked (written annotation)) c.args.annots.now (asked (term_of context.text.now c.args.body.now))
    c.annots_answer.result c.annots_answer.ensures c.if-not-annots_answer.true

pub returns : goal.returns
returns c =
    let context = c.args.context.now in
    let asked = Answers c.args.question (gives_in context) in
    all_behind (annotation_of context.text.now) (λ annotation. AllByRecursion asked (written annotation)) c.args.annots.now (asked (term_of context.text.now c.args.body.now))
    c.annots_answer.result c.annots_answer.ensures c.if-not-annots_answer.false c.answers.result c.answers.ensures
