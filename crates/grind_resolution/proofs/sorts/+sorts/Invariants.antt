use Rattle.std.proofs.Common.{ℕ, ◌<◌, slice_index_or}
use Rattle.grind_grammar.specs.declared.syntax.Tree.{Tree}
use Rattle.grind_grammar.specs.Keeps.{term_of}
use Rattle.grind_resolution.specs.Contexts.{gives_in}
use Rattle.grind_resolution.specs.Sorting.{HasSort}
use Rattle.grind_resolution.proofs.sorts.+sorts.Given as goal

-- each part so far has the sort at its place
abbrev pub invariant-have_sorts-loop-place : goal.invariant-have_sorts-loop-place
invariant-have_sorts-loop-place l =
    (k : ℕ) (d : Tree) (e : ℕ) → k < l.place
    → HasSort (gives_in l.context) (term_of l.context.text.now (slice_index_or l.parts k d)) (slice_index_or l.sorts k e)
