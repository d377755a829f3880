use Rattle.std.proofs.Common.{◌≡◌, ◌<◌, length, get_or, slice_get, Some, sym, subst, arith}
use Rattle.std.proofs.lemmas.Option.{get_or_from_slice_get}
use Rattle.std.proofs.lemmas.List.Elements.{All-more}
use Rattle.grind_term_graph.specs.declared.node.Node.{Node}
use Rattle.grind_report.specs.Report.{TermFits}
use Rattle.grind_report.specs.Naming.{node_words, term_of}
use Rattle.grind_report.proofs.PrintedLines.{next_line}
use Rattle.grind_report.proofs.report.block.put_terms.Goals as goal

pub loop-index-preserved : goal.loop-index-preserved
loop-index-preserved c =
    let found : slice_get c.args.terms.now.nodes c.loop-index.index ≡ Some c.node.result.now = cc in
    let here : c.node.result.now ≡ get_or c.args.terms.now.nodes c.loop-index.index c.node.result.now = sym (get_or_from_slice_get c.args.terms.now.nodes c.loop-index.index c.node.result.now c.node.result.now found) in
    let low : c.loop-index.index < length c.args.terms.now.nodes = omega arith in
    let P : Node → Type 0 = λ node. TermFits (term_of c.args.signature.now c.args.constants.now node) in (
      next_line (node_words c.args.signature.now c.args.constants.now) 0 c.loop-index.index c.args.terms.now.nodes c.loop-index.index c.node.result.now c.put_count.new.out c.loop-index.out c.put_term_line.new.out
          low here c.loop-index.invariant.0 (omega arith) c.in_ok-put_term_line.ensures.text,
      All-more P c.args.terms.now.nodes c.loop-index.index c.node.result.now low c.loop-index.invariant.1 (subst P here c.in_ok-put_term_line.ensures.fits),
    )
