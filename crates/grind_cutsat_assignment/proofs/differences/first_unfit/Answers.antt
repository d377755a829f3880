use Rattle.std.proofs.Common.{◌≡◌, sym, ◌∙◌, subst}
use Rattle.std.proofs.lemmas.Bool.{false≢true}
use Rattle.grind_cutsat_bounds.specs.Evaluations.{value_of}
use Rattle.grind_cutsat_assignment.specs.Judgements.{IsJudged, AreUnfit}
use Rattle.grind_cutsat_assignment.specs.declared.differences.Judgement.{Judgement}
use Rattle.grind_cutsat_assignment.specs.declared.differences.Judgement.TheVariants as judgements
use Rattle.grind_cutsat_assignment.proofs.DifferLemmas.{read_here, read_later, later, found_here, passed, none_left, fit_unless}
use Rattle.grind_cutsat_assignment.proofs.differences.first_unfit.Goals as goal

pub judged-requires : goal.judged-requires
judged-requires c =
    read_here c.args.readings.now.terms.now.nodes c.loop-fact.rest.now c.in-Some.tail.now c.in-Some.fact.now
    c.in-Some.ensures.cases.0 c.args.readings.now.forms.now c.loop-fact.invariant.read

pub loop-fact-preserved : goal.loop-fact-preserved
loop-fact-preserved c =
    let other : c.judged.result ≡ judgements.Unfit → ⊥ = λ e. false≢true (sym c.if-is_unfit.false ∙ c.is_unfit.ensures.1 e) in record {
      read = read_later c.args.readings.now.terms.now.nodes c.loop-fact.rest.now c.in-Some.tail.now c.in-Some.fact.now
          c.in-Some.ensures.cases.0 c.args.readings.now.forms.now c.loop-fact.invariant.read;
      within = λ post a b says. c.loop-fact.invariant.within post a b
          (later c.args.readings.now.terms.now.nodes c.loop-fact.rest.now c.in-Some.tail.now c.in-Some.fact.now c.in-Some.ensures.cases.0
          post a b says);
      none = passed c.args.readings.now.terms.now.nodes c.loop-fact.rest.now c.in-Some.tail.now c.in-Some.fact.now
          c.in-Some.ensures.cases.0 c.args.facts.now
          (AreUnfit c.args.readings.now.terms.now.nodes (value_of c.args.values.now)) c.loop-fact.invariant.none
          (fit_unless c.args.readings.now.terms.now.nodes (value_of c.args.values.now) c.in-Some.fact.now.claim c.judged.result other
          c.judged.ensures);
    }

pub returns-then-is_unfit-clause-found : goal.returns-then-is_unfit-clause-found
returns-then-is_unfit-clause-found c =
    found_here c.args.readings.now.terms.now.nodes c.loop-fact.rest.now c.in-Some.tail.now c.in-Some.fact.now c.in-Some.ensures.cases.0
    c.args.facts.now (AreUnfit c.args.readings.now.terms.now.nodes (value_of c.args.values.now)) c.loop-fact.invariant.within
    (subst (λ (it : Judgement). IsJudged c.args.readings.now.terms.now.nodes (value_of c.args.values.now) c.in-Some.fact.now.claim it)
    (c.is_unfit.ensures.0 c.if-is_unfit.true) c.judged.ensures)

pub returns-clause-none : goal.returns-clause-none
returns-clause-none c = λ _.
    none_left c.args.readings.now.terms.now.nodes c.loop-fact.rest.now c.args.facts.now
    (AreUnfit c.args.readings.now.terms.now.nodes (value_of c.args.values.now)) c.in_default.ensures.cases c.loop-fact.invariant.none
