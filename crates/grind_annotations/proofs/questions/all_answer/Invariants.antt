use Rattle.std.proofs.Common.{ℕ, ◌<◌, slice_index_or}
use Rattle.grind_grammar.specs.declared.syntax.Tree.{Tree}
use Rattle.grind_grammar.specs.Keeps.{term_of}
use Rattle.grind_resolution.specs.Contexts.{gives_in}
use Rattle.grind_annotations.specs.Asking.{Answers}
use Rattle.grind_annotations.proofs.questions.all_answer.Given as goal

-- it is so of each term so far
abbrev pub invariant-loop-tree : goal.invariant-loop-tree
invariant-loop-tree l =
    (k : ℕ) (d : Tree) → k < l.tree-index → Answers l.question (gives_in l.context) (term_of l.context.text.now (slice_index_or l.trees k d))
