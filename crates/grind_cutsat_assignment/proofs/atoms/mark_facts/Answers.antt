use Rattle.grind_cutsat_assignment.specs.Walks.{TakenByClaim, TakenAmong}
use Rattle.grind_cutsat_assignment.proofs.AtomLemmas.{marking_first, marking_next, marking_last, facts_split, facts_none, forms_next, forms_last}
use Rattle.grind_cutsat_assignment.proofs.atoms.mark_facts.Goals as goal

pub loop-fact-init : goal.loop-fact-init
loop-fact-init c = record {
  marks = marking_first c.args.marks.now (TakenAmong c.args.facts.now);
  forms = λ h. h;
}

pub loop-fact-preserved : goal.loop-fact-preserved
loop-fact-preserved c = record {
  marks = marking_next c.args.marks.now c.loop-fact.marks c.mark_claim.new.marks (TakenAmong c.loop-fact.rest.now)
      (TakenByClaim c.in-Some.fact.now.claim) (TakenAmong c.in-Some.tail.now) (TakenAmong c.args.facts.now)
      (facts_split c.loop-fact.rest.now c.in-Some.tail.now c.in-Some.fact.now c.in-Some.ensures.cases.0)
      c.mark_claim.ensures.marks c.loop-fact.invariant.marks;
  forms = forms_next c.args.facts.now c.loop-fact.rest.now c.in-Some.tail.now c.in-Some.fact.now c.in-Some.ensures.cases.0
      c.mark_claim.ensures.form c.loop-fact.invariant.forms;
}

pub returns-clause-marks : goal.returns-clause-marks
returns-clause-marks c =
    marking_last c.args.marks.now c.loop-fact.marks (TakenAmong c.loop-fact.rest.now) (TakenAmong c.args.facts.now)
    (facts_none c.loop-fact.rest.now c.in_default.ensures.cases) c.loop-fact.invariant.marks

pub returns-clause-forms : goal.returns-clause-forms
returns-clause-forms c = forms_last c.args.facts.now c.loop-fact.rest.now c.in_default.ensures.cases c.loop-fact.invariant.forms
