use Rattle.grind_grammar.specs.Keeps.{term_of}
use Rattle.grind_resolution.specs.Contexts.{gives_in}
use Rattle.grind_annotations.specs.Asking.{Answers}
use Rattle.grind_annotations.proofs.ItemLemmas.{none_of_both, all_of_both}
use Rattle.grind_theory.proofs.goal_faults.goal_answers.Goals as goal

pub returns-then-not-all_answer : goal.returns-then-not-all_answer
returns-then-not-all_answer c =
    let context = c.args.context.now in
    none_of_both (term_of context.text.now) (Answers c.args.question (gives_in context)) c.args.hyps.now
    (Answers c.args.question (gives_in context) (term_of context.text.now c.args.show.now))
    c.all_answer.result c.all_answer.ensures c.if-not-all_answer.true

pub returns : goal.returns
returns c =
    let context = c.args.context.now in
    all_of_both (term_of context.text.now) (Answers c.args.question (gives_in context)) c.args.hyps.now
    (Answers c.args.question (gives_in context) (term_of context.text.now c.args.show.now))
    c.all_answer.result c.all_answer.ensures c.if-not-all_answer.false c.answers.result c.answers.ensures
