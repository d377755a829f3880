use Rattle.std.proofs.Common.{List, Option, sym, subst}
use Rattle.grind_cutsat_facts.specs.declared.facts.Fact.{Fact}
use Rattle.grind_cutsat_terms.specs.Settling.{WriteGives}
use Rattle.grind_cutsat_units.specs.declared.types.Draft.{Draft}
use Rattle.grind_cutsat_units.specs.Posts.{IsFound}
use Rattle.grind_cutsat_units.specs.Passing.{IsPassed}
use Rattle.grind_cutsat_units.proofs.PassingLemmas.{passed_first, here, found_here, passed_next, passed_last}
use Rattle.grind_cutsat_terms.proofs.units.settles_a_comparison.written_from_some.Goals as goal

pub written_from-requires : goal.written_from-requires
written_from-requires c = (
  c.in-Some.fact.now.post,
  here (WriteGives c.args.view.now.terms.now.nodes c.args.literal.now) c.args.view.now.facts.now c.loop-fact.rest.now
      c.in-Some.tail.now c.in-Some.fact.now c.in-Some.ensures.cases.0 c.loop-fact.invariant,
)

pub loop-fact-init : goal.loop-fact-init
loop-fact-init c =
    subst (λ (rest : List Fact). IsPassed (WriteGives c.args.view.now.terms.now.nodes c.args.literal.now) c.args.view.now.facts.now rest)
    (sym c.as_slice-rest.ensures.value) (passed_first (WriteGives c.args.view.now.terms.now.nodes c.args.literal.now) c.args.view.now.facts.now)

pub loop-fact-preserved : goal.loop-fact-preserved
loop-fact-preserved c =
    passed_next (WriteGives c.args.view.now.terms.now.nodes c.args.literal.now) c.args.view.now.facts.now c.loop-fact.rest.now
    c.in-Some.tail.now c.in-Some.fact.now c.in-Some.ensures.cases.0 c.loop-fact.invariant
    (subst (λ (found : Option (List Draft)). IsFound c.args.view.now.facts.now c.args.view.now.next
    (WriteGives c.args.view.now.terms.now.nodes c.args.literal.now c.in-Some.fact.now.claim) found) c.in_default-found.is c.in_ok-found.ensures)

pub returns-in-Some-found : goal.returns-in-Some-found
returns-in-Some-found c =
    found_here (WriteGives c.args.view.now.terms.now.nodes c.args.literal.now) c.args.view.now.facts.now c.loop-fact.rest.now
    c.in-Some.tail.now c.in-Some.fact.now c.in-Some.ensures.cases.0 c.loop-fact.invariant c.args.view.now.next
    c.in-Some-found.drafts
    (subst (λ (found : Option (List Draft)). IsFound c.args.view.now.facts.now c.args.view.now.next
    (WriteGives c.args.view.now.terms.now.nodes c.args.literal.now c.in-Some.fact.now.claim) found) c.in-Some-found.is c.in_ok-found.ensures)

pub returns : goal.returns
returns c =
    passed_last (WriteGives c.args.view.now.terms.now.nodes c.args.literal.now) c.args.view.now.facts.now c.loop-fact.rest.now
    c.in_default.ensures.cases c.loop-fact.invariant
