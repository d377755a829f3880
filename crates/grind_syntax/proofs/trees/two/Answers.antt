use Rattle.std.proofs.Common.{◌∙◌, ap, sym, Some}
use Rattle.grind_grammar.specs.Terms as terms
use Rattle.grind_grammar.specs.Keeps.{term_of}
use Rattle.grind_grammar.specs.Reading.{fit, two}
use Rattle.grind_syntax.specs.Built.{term_given}
use Rattle.grind_syntax.proofs.TreeLemmas.{two_none, two_half, two_some}
use Rattle.grind_syntax.proofs.trees.two.Goals as goal

pub returns-in_default-clause-is : goal.returns-in_default-clause-is
returns-in_default-clause-is c = λ text. rw c.in_default.is (sym (two_none 200 c.args.op (term_given text c.args.right)))

pub returns-in_default-right-clause-is : goal.returns-in_default-right-clause-is
returns-in_default-right-clause-is c = λ text. rw c.in_default-right.is (sym (two_half 200 c.args.op (term_given text c.args.left)))

pub returns-clause-is : goal.returns-clause-is
returns-clause-is c = λ text.
    c.fit.ensures.is text
    ∙ ap (λ t. fit 200 (terms.Two c.args.op (term_of text t) (term_of text c.in_ok-right_tree.right_tree.value))) c.in_ok-left_tree.ensures
    ∙ ap (λ t. fit 200 (terms.Two c.args.op (term_of text c.in-Some.left.tree) (term_of text t))) c.in_ok-right_tree.ensures
    ∙ sym (ap (λ p. two 200 c.args.op (term_given text p) (term_given text c.args.right)) c.in-Some.is
    ∙ ap (λ p. two 200 c.args.op (Some (term_of text c.in-Some.left.tree)) (term_given text p)) c.in-Some-right.is
    ∙ two_some 200 c.args.op (term_of text c.in-Some.left.tree) (term_of text c.in-Some-right.right.tree))
