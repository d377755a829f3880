use Rattle.std.proofs.Common.{◌≡◌, ◌++◌, take, All}
use Rattle.grind_term_graph.specs.declared.node.Node.{Node}
use Rattle.grind_report.specs.Report.{spelled, indexed_lines, TermFits}
use Rattle.grind_report.specs.Naming.{node_words, term_of}
use Rattle.grind_report.proofs.report.block.put_terms.Given as goal

abbrev pub invariant-loop-index : goal.invariant-loop-index
invariant-loop-index l =
    (l.out ≡ l.initial.out ++ spelled (indexed_lines (node_words l.signature l.constants) 0 (take l.index l.terms.nodes)))
    × All (λ (node : Node). TermFits (term_of l.signature l.constants node)) (take l.index l.terms.nodes)
