use Rattle.std.proofs.Common.{sym}
use Rattle.std.specs.Prelude.{map}
use Rattle.grind_grammar.specs.Keeps.{name_of, term_of}
use Rattle.grind_syntax.specs.Places.{bound_of}
use Rattle.grind_syntax.specs.Built.{term_given}
use Rattle.grind_syntax.specs.Annotated.{annotation_of}
use Rattle.grind_syntax.proofs.DeclarationLemmas.{theorem_lost, theorem_half, theorem_whole}
use Rattle.grind_syntax.proofs.kept.theorem_with.Goals as goal

pub returns-in_default-clause-is : goal.returns-in_default-clause-is
returns-in_default-clause-is c = λ text. rw c.in_default.is (sym (theorem_lost (name_of text c.args.name) (map (bound_of text) c.args.binders) (term_given text c.args.body)))

pub returns-in_default-body-clause-is : goal.returns-in_default-body-clause-is
returns-in_default-body-clause-is c = λ text. rw c.in_default-body.is (sym (theorem_half (name_of text c.args.name) (map (bound_of text) c.args.binders) _))

pub returns-clause-is : goal.returns-clause-is
returns-clause-is c = λ text.
    rw (c.in-Some.is, c.in-Some-body.is) (sym (theorem_whole (name_of text c.args.name) (map (bound_of text) c.args.binders) (map (annotation_of text) c.in-Some.annots) (term_of text c.in-Some-body.body.tree)))
