use Rattle.std.proofs.Common.{ℕ, ◌<◌, slice_index_or}
use Rattle.grind_grammar.specs.declared.syntax.Tree.{Tree}
use Rattle.grind_grammar.specs.Keeps.{term_of}
use Rattle.grind_resolution.specs.Contexts.{gives_in}
use Rattle.grind_resolution.specs.Sorting.{Known}
use Rattle.grind_resolution.proofs.known.+known.Given as goal

-- each part so far is known
abbrev pub invariant-are_known-loop-part : goal.invariant-are_known-loop-part
invariant-are_known-loop-part l =
    (k : ℕ) (d : Tree) → k < l.part-index → Known (gives_in l.context) (term_of l.context.text.now (slice_index_or l.parts k d))
