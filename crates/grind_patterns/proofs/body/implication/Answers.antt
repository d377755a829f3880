use Rattle.grind_patterns.proofs.BodyLemmas.{if_both, implication_hyps, implication_conclusion, implication_no_hyps, implication_no_more}
use Rattle.grind_patterns.proofs.body.implication.Goals as goal

pub returns-in-Apply-clause-hyps : goal.returns-in-Apply-clause-hyps
returns-in-Apply-clause-hyps c =
    if_both c.implied.result _ _ _ (λ parts head is. implication_hyps c.in-Apply.head c.in-Apply.sort c.in-Apply.args c.args.formula.now c.deref.result.now
    c.in-Apply.is c.deref.ensures.value
    parts.0.now parts.1.now head is) c.implied.ensures.head c.implied.ensures.args

pub returns-in-Apply-clause-conclusion : goal.returns-in-Apply-clause-conclusion
returns-in-Apply-clause-conclusion c =
    if_both c.implied.result _ _ _ (λ parts head is. implication_conclusion c.in-Apply.head c.in-Apply.sort c.in-Apply.args c.args.formula.now c.deref.result.now
    c.in-Apply.is c.deref.ensures.value
    parts.0.now parts.1.now head is) c.implied.ensures.head c.implied.ensures.args

pub returns-in-Apply-clause-no_hyps : goal.returns-in-Apply-clause-no_hyps
returns-in-Apply-clause-no_hyps c = λ none.
    implication_no_hyps c.in-Apply.head c.in-Apply.sort c.in-Apply.args c.args.formula.now c.deref.result.now
    c.in-Apply.is c.deref.ensures.value
    (c.implied.ensures.none none)

pub returns-in-Apply-clause-no_more : goal.returns-in-Apply-clause-no_more
returns-in-Apply-clause-no_more c = λ none.
    implication_no_more c.in-Apply.head c.in-Apply.sort c.in-Apply.args c.args.formula.now c.deref.result.now
    c.in-Apply.is c.deref.ensures.value
    (c.implied.ensures.none none)
