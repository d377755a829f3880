use Rattle.std.proofs.Common.{ℕ, ◌<◌, slice_index_or}
use Rattle.grind_grammar.specs.declared.syntax.Tree.{Tree}
use Rattle.grind_grammar.specs.Keeps.{term_of}
use Rattle.grind_resolution.specs.Contexts.{gives_in}
use Rattle.grind_resolution.specs.Sorting.{Counted}
use Rattle.grind_resolution.proofs.counted.+counted.Given as goal

-- each part so far is counted
abbrev pub invariant-are_counted-loop-part : goal.invariant-are_counted-loop-part
invariant-are_counted-loop-part l =
    (k : ℕ) (d : Tree) → k < l.part-index → Counted (gives_in l.context) (term_of l.context.text.now (slice_index_or l.parts k d))
