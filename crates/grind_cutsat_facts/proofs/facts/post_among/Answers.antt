use Rattle.std.proofs.Common.{sym, ◌∙◌}
use Rattle.std.proofs.lemmas.Bool.{false≢true}
use Rattle.grind_cutsat_facts.proofs.FactLemmas.{said_here, passed_over, said_nowhere}
use Rattle.grind_cutsat_facts.proofs.facts.post_among.Goals as goal

pub returns-then-is_same_claim-clause-found : goal.returns-then-is_same_claim-clause-found
returns-then-is_same_claim-clause-found c =
    said_here c.args.facts.now c.loop-fact.rest.now c.in-Some.tail.now c.in-Some.fact.now c.args.claim.now
    c.in-Some.ensures.cases.0 (c.is_same_claim.ensures.0 c.if-is_same_claim.true) c.loop-fact.invariant

pub loop-fact-preserved : goal.loop-fact-preserved
loop-fact-preserved c =
    passed_over c.args.facts.now c.loop-fact.rest.now c.in-Some.tail.now c.in-Some.fact.now c.args.claim.now
    c.in-Some.ensures.cases.0 (λ same. false≢true (sym c.if-is_same_claim.false ∙ c.is_same_claim.ensures.1 same))
    c.loop-fact.invariant

pub returns-clause-none : goal.returns-clause-none
returns-clause-none c = λ _.
    said_nowhere c.args.facts.now c.loop-fact.rest.now c.args.claim.now c.in_default.ensures.cases c.loop-fact.invariant
