-- The block is the one that the printed terms and lines spell.
use Rattle.std.proofs.Common.{length, All, arith}
use Rattle.grind_term_graph.specs.declared.node.Node.{Node}
use Rattle.grind_report.specs.Report.{TermFits, IsShort}
use Rattle.grind_report.specs.Naming.{term_of}
use Rattle.grind_report.proofs.NamedNodes.{all_have_terms, raw_proof_of, closed_fits}
use Rattle.grind_report.proofs.report.render_closed.Goals as goal

pub put_closed-requires-clause-named : goal.put_closed-requires-clause-named
put_closed-requires-clause-named c =
    rw c.constants_of-constants.ensures
    (all_have_terms c.args.signature.now c.args.goal.now.constants c.args.proof.now.terms.nodes c.len-terms.ensures.table c.requires.declared)

pub returns-in_err-put_closed-clause-proof : goal.returns-in_err-put_closed-clause-proof
returns-in_err-put_closed-clause-proof c = raw_proof_of c.args.signature.now c.args.goal.now c.args.proof.now c.requires c.len-terms.ensures.table

pub returns-clause-fits : goal.returns-clause-fits
returns-clause-fits c =
    let terms : All (λ (node : Node). TermFits (term_of c.args.signature.now c.args.goal.now.constants node)) c.args.proof.now.terms.nodes =
    rw c.constants_of-constants.ensures at c.in_ok-put_closed.ensures.terms in
    let few : IsShort (length c.args.proof.now.terms.nodes) = omega (arith, c.len-terms.ensures.bound, c.len-terms.ensures.limit) in
    closed_fits c.args.signature.now c.args.goal.now.constants c.args.goal.now.name c.args.proof.now c.name-name.ensures.keeps.name
    terms c.in_ok-put_closed.ensures.branches c.in_ok-put_closed.ensures.lines few c.len-branches.ensures.bound c.len-lines.ensures.bound

pub returns-clause-proof : goal.returns-clause-proof
returns-clause-proof c = raw_proof_of c.args.signature.now c.args.goal.now c.args.proof.now c.requires c.len-terms.ensures.table
