-- The declaration of a heading and what follows it.
use Rattle.std.specs.Prelude.{ℕ, List}
use Rattle.grind_grammar.specs.declared.syntax.Annot.{Annot}
use Rattle.grind_grammar.specs.declared.syntax.Tree.{Tree}
use Rattle.grind_grammar.specs.Terms.{Bound, Declaration, Theorem, Goal}
use Rattle.grind_grammar.specs.Keeps.{name_of, term_of}
use Rattle.grind_annotations.specs.Written.{terms_of, annotations_of}
use Rattle.grind_theory.specs.declared.heading.Heading.{Heading}
use Rattle.grind_theory.specs.Kept.{bounds_of}

-- its name and its binders
abbrev pub name_in : Heading → List ℕ
name_in heading = name_of heading.text.now heading.name

abbrev pub bounds_in : Heading → List Bound
bounds_in heading = bounds_of heading.text.now heading.binders.now

-- the theorem of these annotations and this body
abbrev pub theorem_under : Heading → List Annot → Tree → Declaration
theorem_under heading annots body =
    Theorem (name_in heading) (bounds_in heading) (annotations_of heading.text.now annots) (term_of heading.text.now body)

-- the goal of these hypotheses and this conclusion
abbrev pub goal_under : Heading → List Tree → Tree → Declaration
goal_under heading hyps show =
    Goal (name_in heading) (bounds_in heading) (terms_of heading.text.now hyps) (term_of heading.text.now show)
