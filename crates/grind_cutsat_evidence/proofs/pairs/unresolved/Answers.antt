use Rattle.std.proofs.Common.{ℕ, List, sym, ◌∙◌, subst}
use Rattle.grind_cutsat_facts.specs.declared.facts.Fact.{Fact}
use Rattle.grind_cutsat_assignment.specs.Given.{given}
use Rattle.grind_cutsat_units.specs.Passing.{IsWithout}
use Rattle.grind_cutsat_units.proofs.PassingLemmas.{without_first, said_at_hand, without_next, without_last}
use Rattle.grind_cutsat_evidence.specs.Pairs.{IsUnresolvedBy}
use Rattle.grind_cutsat_evidence.proofs.PairLemmas.{unresolved_at, claim_above}
use Rattle.grind_cutsat_evidence.proofs.pairs.unresolved.Goals as goal

pub loop-fact-init : goal.loop-fact-init
loop-fact-init c =
    subst (λ (rest : List Fact). IsWithout (λ claim. (below : ℕ) × IsUnresolvedBy c.args.view.now.facts.now below claim)
    c.args.view.now.facts.now rest) (sym c.as_slice-rest.ensures.value)
    (without_first (λ claim. (below : ℕ) × IsUnresolvedBy c.args.view.now.facts.now below claim) c.args.view.now.facts.now)

pub loop-fact-preserved : goal.loop-fact-preserved
loop-fact-preserved c =
    without_next (λ claim. (below : ℕ) × IsUnresolvedBy c.args.view.now.facts.now below claim) c.args.view.now.facts.now
    c.loop-fact.rest.now c.in-Some.tail.now c.in-Some.fact.now c.in-Some.ensures.cases.0 c.loop-fact.invariant
    (λ h. (rw c.in_default-found.is at c.in_ok-found.ensures) h.0 h.1)

pub returns-in-Some-found : goal.returns-in-Some-found
returns-in-Some-found c =
    unresolved_at (given c.args.view.now.facts.now c.args.view.now.terms.now.nodes c.args.view.now.classes.now.lists)
    c.in-Some.fact.now.post c.in-Some-found.second c.in-Some.fact.now.claim
    (said_at_hand (λ claim. (below : ℕ) × IsUnresolvedBy c.args.view.now.facts.now below claim) c.args.view.now.facts.now
    c.loop-fact.rest.now c.in-Some.tail.now c.in-Some.fact.now c.in-Some.ensures.cases.0 c.loop-fact.invariant)
    (rw c.in-Some-found.is at c.in_ok-found.ensures)

pub returns : goal.returns
returns c = λ above below h.
    let of = claim_above (given c.args.view.now.facts.now c.args.view.now.terms.now.nodes c.args.view.now.classes.now.lists) above below h in
    without_last (λ claim. (below : ℕ) × IsUnresolvedBy c.args.view.now.facts.now below claim) c.args.view.now.facts.now
    c.loop-fact.rest.now c.in_default.ensures.cases c.loop-fact.invariant above of.0 of.1 (below, of.2)
