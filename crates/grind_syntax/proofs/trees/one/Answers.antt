use Rattle.std.proofs.Common.{◌∙◌, ap, sym}
use Rattle.grind_grammar.specs.Terms as terms
use Rattle.grind_grammar.specs.Keeps.{term_of}
use Rattle.grind_grammar.specs.Reading.{fit, one}
use Rattle.grind_syntax.specs.Built.{term_given}
use Rattle.grind_syntax.proofs.TreeLemmas.{one_none, one_some}
use Rattle.grind_syntax.proofs.trees.one.Goals as goal

pub returns-in_default-clause-is : goal.returns-in_default-clause-is
returns-in_default-clause-is c = λ text. rw c.in_default.is (sym (one_none 200 c.args.op))

pub returns-clause-is : goal.returns-clause-is
returns-clause-is c = λ text.
    c.fit.ensures.is text ∙ ap (λ t. fit 200 (terms.One c.args.op (term_of text t))) c.in_ok-tree.ensures
    ∙ sym (ap (λ p. one 200 c.args.op (term_given text p)) c.in-Some.is ∙ one_some 200 c.args.op (term_of text c.in-Some.part.tree))
