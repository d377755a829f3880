use Rattle.std.proofs.Common.{◌≡◌, List, All, refl, sym, ◌∙◌, subst}
use Rattle.std.proofs.lemmas.List.Elements.{All-head, All-tail}
use Rattle.grind_claims.specs.Claims.{IsFormed}
use Rattle.grind_cutsat_facts.specs.declared.facts.Fact.{Fact}
use Rattle.grind_cutsat_assignment.specs.Assignments.{chosen_value}
use Rattle.grind_cutsat_assignment.specs.Judgements.{AreApart}
use Rattle.grind_cutsat_splits.specs.declared.judging.Judgement.{Judgement}
use Rattle.grind_cutsat_splits.specs.declared.judging.Judgement.TheVariants as judgements
use Rattle.grind_cutsat_splits.specs.Judging.{PartsOnly, AreFit, IsJudged}
use Rattle.grind_cutsat_splits.proofs.JudgeLemmas.{passing_first, passing_here, passing_next, passing_last, apart_unless}
use Rattle.grind_cutsat_splits.proofs.judging.first_split.Goals as goal

pub judged-requires : goal.judged-requires
judged-requires c =
    let All-formed = λ (facts : List Fact). All (λ (fact : Fact). IsFormed c.args.scene.now.terms.now.nodes fact.claim) facts in
    All-head (λ (fact : Fact). IsFormed c.args.scene.now.terms.now.nodes fact.claim) c.in-Some.fact.now c.in-Some.tail.now
    (subst All-formed c.in-Some.ensures.cases.0 c.loop-fact.invariant.formed)

pub loop-fact-init : goal.loop-fact-init
loop-fact-init c = record {
  formed = c.requires.formed;
  passed = passing_first (PartsOnly c.args.scene.now.terms.now.nodes (AreApart c.args.scene.now.terms.now.nodes (chosen_value c.args.scene.now.values.now))) c.args.facts.now c.args.facts.now refl;
  fit = c.requires.fit;
}

pub loop-fact-preserved : goal.loop-fact-preserved
loop-fact-preserved c = record {
  formed = All-tail (λ (fact : Fact). IsFormed c.args.scene.now.terms.now.nodes fact.claim) c.in-Some.fact.now c.in-Some.tail.now
      (subst (λ (facts : List Fact). All (λ (fact : Fact). IsFormed c.args.scene.now.terms.now.nodes fact.claim) facts) c.in-Some.ensures.cases.0
      c.loop-fact.invariant.formed);
  passed = passing_next (PartsOnly c.args.scene.now.terms.now.nodes (AreApart c.args.scene.now.terms.now.nodes (chosen_value c.args.scene.now.values.now))) c.args.facts.now c.loop-fact.rest.now c.in-Some.tail.now c.in-Some.fact.now
      c.in-Some.ensures.cases.0 c.loop-fact.invariant.passed
      (apart_unless c.args.scene.now.terms.now.nodes (chosen_value c.args.scene.now.values.now) c.in-Some.fact.now.claim c.in_ok-judgement.judgement c.in_default-judgement.not-Split
      (c.loop-fact.invariant.fit c.in-Some.fact.now.post c.in-Some.fact.now.claim
      (passing_here (PartsOnly c.args.scene.now.terms.now.nodes (AreApart c.args.scene.now.terms.now.nodes (chosen_value c.args.scene.now.values.now))) c.args.facts.now c.loop-fact.rest.now c.in-Some.tail.now c.in-Some.fact.now c.in-Some.ensures.cases.0
      c.loop-fact.invariant.passed)) c.in_ok-judgement.ensures);
  fit = c.loop-fact.invariant.fit;
}

pub returns-in-Split : goal.returns-in-Split
returns-in-Split c = (
  c.in-Some.fact.now.post,
  (
    c.in-Some.fact.now.claim,
    passing_here (PartsOnly c.args.scene.now.terms.now.nodes (AreApart c.args.scene.now.terms.now.nodes (chosen_value c.args.scene.now.values.now))) c.args.facts.now c.loop-fact.rest.now c.in-Some.tail.now c.in-Some.fact.now c.in-Some.ensures.cases.0
        c.loop-fact.invariant.passed,
    subst (λ (it : Judgement). IsJudged c.args.scene.now.terms.now.nodes (chosen_value c.args.scene.now.values.now) c.in-Some.fact.now.claim it) c.in-Split.is c.in_ok-judgement.ensures,
  ),
)

pub returns : goal.returns
returns c = passing_last (PartsOnly c.args.scene.now.terms.now.nodes (AreApart c.args.scene.now.terms.now.nodes (chosen_value c.args.scene.now.values.now))) c.args.facts.now c.loop-fact.rest.now c.in_default.ensures.cases c.loop-fact.invariant.passed
