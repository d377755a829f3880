use Rattle.std.proofs.Common.{sym, ap, subst, ◌∙◌, ◌↔◌, IsTrue}
use Rattle.std.specs.List.{AllByRecursion}
use Rattle.grind_grammar.specs.Terms.{Pattern}
use Rattle.grind_grammar.specs.Keeps.{term_of}
use Rattle.grind_resolution.specs.Contexts.{gives_in}
use Rattle.grind_annotations.specs.Written.{written, terms_of, annotation_of}
use Rattle.grind_annotations.specs.Asking.{Answers}
use Rattle.grind_annotations.proofs.ItemLemmas.{only_all}
use Rattle.grind_annotations.proofs.questions.annot_answers.Goals as goal

pub returns-in-Pattern : goal.returns-in-Pattern
returns-in-Pattern c =
    let text = c.args.context.now.text.now in
    let gives = gives_in c.args.context.now in
    let made = ap (annotation_of text) c.in-Pattern.is ∙ ap (λ trees. Pattern (terms_of text trees)) (sym c.as_slice-terms.ensures.value) in
    subst (λ a. IsTrue c.all_answer.result ↔ AllByRecursion (Answers c.args.question gives) (written a)) (sym made)
    (only_all (term_of text) (Answers c.args.question gives) c.as_slice-terms.result.now c.all_answer.result c.all_answer.ensures)
