use Rattle.std.proofs.Common.{sym}
use Rattle.std.specs.Prelude.{map}
use Rattle.grind_grammar.specs.Keeps.{name_of, term_of}
use Rattle.grind_syntax.specs.Places.{bound_of}
use Rattle.grind_syntax.specs.Built.{term_given}
use Rattle.grind_syntax.proofs.DeclarationLemmas.{goal_lost, goal_half, goal_whole}
use Rattle.grind_syntax.proofs.kept.goal_with.Goals as goal

pub returns-in_default-clause-is : goal.returns-in_default-clause-is
returns-in_default-clause-is c = λ text. rw c.in_default.is (sym (goal_lost (name_of text c.args.name) (map (bound_of text) c.args.binders) (term_given text c.args.show)))

pub returns-in_default-show-clause-is : goal.returns-in_default-show-clause-is
returns-in_default-show-clause-is c = λ text. rw c.in_default-show.is (sym (goal_half (name_of text c.args.name) (map (bound_of text) c.args.binders) _))

pub returns-clause-is : goal.returns-clause-is
returns-clause-is c = λ text.
    rw (c.in-Some.is, c.in-Some-show.is) (sym (goal_whole (name_of text c.args.name) (map (bound_of text) c.args.binders) (map (term_of text) c.in-Some.hyps) (term_of text c.in-Some-show.show.tree)))
