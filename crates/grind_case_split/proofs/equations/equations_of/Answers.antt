use Rattle.std.specs.Prelude.{List}
use Rattle.std.proofs.Common.{sym, subst}
use Rattle.grind_term_graph.specs.declared.node.Node.{Node}
use Rattle.grind_congruence.specs.Congruence.{Fits}
use Rattle.grind_given_lines.proofs.LineLemmas.{rooted_terms, rooted_ready}
use Rattle.grind_case_split.proofs.RefutationLemmas.{reasons}
use Rattle.grind_case_split.proofs.equations.equations_of.Goals as goal

pub returns-clause-fits : goal.returns-clause-fits
returns-clause-fits c =
    subst (λ (nodes : List Node). Fits c.in_ok-given.field-0.closure nodes)
    (sym (rooted_terms c.args.lemmas.now c.args.goal.now c.in_ok-proof.field-0.proof c.in_ok-proof.ensures.ledger.rooted))
    c.in_ok-given.ensures.closure.built.fits

pub returns-clause-ready : goal.returns-clause-ready
returns-clause-ready c =
    rooted_ready c.args.lemmas.now c.args.goal.now c.in_ok-proof.field-0.proof c.in_ok-proof.ensures.ledger.rooted

pub returns-clause-reasons : goal.returns-clause-reasons
returns-clause-reasons c = λ count.
    reasons c.args.lemmas.now c.args.goal.now c.in_ok-proof.field-0.proof c.in_ok-proof.field-0.whys c.in_ok-given.field-0.given
    c.in_ok-given.field-0.closure.edges count c.in_ok-proof.ensures.ledger c.in_ok-given.ensures.closure.built.founded
