use Rattle.std.proofs.Common.{◌≡◌, All, length}
use Rattle.grind_term_graph.specs.Terms.{prop}
use Rattle.grind_grammar.specs.Keeps.{IsPlacedTree, term_of}
use Rattle.grind_resolution.specs.Contexts.{gives_in}
use Rattle.grind_resolution.specs.Sorting.{HasSort}
use Rattle.grind_annotations.specs.Written.{terms_of}
use Rattle.grind_theory.proofs.Interning.{IsPutting}
use Rattle.grind_theory.proofs.goals.intern_formulas.Given as goal

-- the formulas that are left stand in the text, and what is put of them completes what is put of all
abbrev pub invariant-loop-tree : goal.invariant-loop-tree
invariant-loop-tree l = record {
  placed : All (IsPlacedTree l.context.text.now) l.rest;
  formulas : All (λ tree. HasSort (gives_in l.context) (term_of l.context.text.now tree) prop) l.rest;
  limit : l.table.limit ≡ l.fn.table.limit;
  putting : IsPutting (gives_in l.context) l.fn.table.nodes (terms_of l.context.text.now l.fn.trees) (terms_of l.context.text.now l.rest) l.table.nodes l.ids;
}

abbrev pub decreases-loop-tree : goal.decreases-loop-tree
decreases-loop-tree l = length l.rest
