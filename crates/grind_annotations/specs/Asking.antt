-- What is asked of terms.
use Rattle.std.specs.Prelude.{ℕ, List}
use Rattle.grind_term_graph.specs.Terms.{prop}
use Rattle.grind_grammar.specs.Terms.{Term}
use Rattle.grind_resolution.specs.Scopes.{Given}
use Rattle.grind_resolution.specs.Sorting.{Known, Counted, HasSort, IsSorted}
use Rattle.grind_annotations.specs.declared.questions.Question.{Question}
use Rattle.grind_annotations.specs.declared.questions.Question.TheVariants as questions

-- the term is a formula
abbrev pub IsFormulaTerm : (List ℕ → Given → Type 0) → Term → Type 0
IsFormulaTerm gives t = HasSort gives t prop

-- the term is known, counted, of a sort, or a formula
abbrev pub Answers : Question → (List ℕ → Given → Type 0) → Term → Type 0
Answers questions.Known gives t = Known gives t
Answers questions.Counted gives t = Counted gives t
Answers questions.Sorted gives t = IsSorted gives t
Answers questions.Formula gives t = IsFormulaTerm gives t
