use Rattle.std.proofs.Common.{List, All, inl, subst}
use Rattle.std.proofs.lemmas.List.Elements.{All-head, All-tail}
use Rattle.grind_claims.specs.Claims.{IsFormed}
use Rattle.grind_cutsat_facts.specs.declared.facts.Fact.{Fact}
use Rattle.grind_cutsat_assignment.proofs.ReadingLemmas.{leaves_next, leaves_none}
use Rattle.grind_cutsat_assignment.proofs.readings.add_differing.Goals as goal

pub add_sides-requires-clause-formed : goal.add_sides-requires-clause-formed
add_sides-requires-clause-formed c =
    let All-formed = λ (facts : List Fact). All (λ (fact : Fact). IsFormed c.args.terms.now.nodes fact.claim) facts in
    All-head (λ (fact : Fact). IsFormed c.args.terms.now.nodes fact.claim) c.in-Some.fact.now c.in-Some.tail.now
    (subst All-formed c.in-Some.ensures.cases.0 c.loop-fact.invariant.formed)

pub loop-fact-init : goal.loop-fact-init
loop-fact-init c = record {
  formed = c.requires.formed;
  ints = c.requires.ints;
  keeps = λ n has. has;
  leaves = λ post a b says. inl says;
}

pub loop-fact-preserved : goal.loop-fact-preserved
loop-fact-preserved c =
    let All-formed = λ (facts : List Fact). All (λ (fact : Fact). IsFormed c.args.terms.now.nodes fact.claim) facts in record {
      formed = All-tail (λ (fact : Fact). IsFormed c.args.terms.now.nodes fact.claim) c.in-Some.fact.now c.in-Some.tail.now
          (subst All-formed c.in-Some.ensures.cases.0 c.loop-fact.invariant.formed);
      ints = c.in_ok-add_sides.ensures.ints;
      keeps = λ n has. c.in_ok-add_sides.ensures.keeps n (c.loop-fact.invariant.keeps n has);
      leaves = leaves_next c.args.terms.now.nodes c.args.facts.now c.loop-fact.rest.now c.in-Some.tail.now c.in-Some.fact.now
          c.in-Some.ensures.cases.0 c.loop-fact.ids c.add_sides.new.ids c.in_ok-add_sides.ensures.keeps
          c.in_ok-add_sides.ensures.has c.loop-fact.invariant.leaves;
    }

pub returns-clause-has : goal.returns-clause-has
returns-clause-has c =
    leaves_none c.args.terms.now.nodes c.args.facts.now c.loop-fact.rest.now c.loop-fact.ids c.in_default.ensures.cases
    c.loop-fact.invariant.leaves
