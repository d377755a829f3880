use Rattle.std.proofs.Common.{List, sym, ◌∙◌, subst}
use Rattle.std.proofs.lemmas.Bool.{false≢true}
use Rattle.grind_cutsat_facts.specs.declared.facts.Fact.{Fact}
use Rattle.grind_cutsat_assignment.specs.Given.{given}
use Rattle.grind_cutsat_units.specs.Passing.{IsWithout}
use Rattle.grind_cutsat_units.proofs.PassingLemmas.{without_first, said_at_hand, without_next, without_last}
use Rattle.grind_cutsat_evidence.specs.Unread.{IsUnread}
use Rattle.grind_cutsat_evidence.proofs.UnreadLemmas.{claim_of, unread_at}
use Rattle.grind_cutsat_evidence.proofs.unread.unreadable.Goals as goal

pub loop-fact-init : goal.loop-fact-init
loop-fact-init c =
    subst (λ (rest : List Fact). IsWithout (IsUnread c.args.view.now.terms.now.nodes) c.args.view.now.facts.now rest)
    (sym c.as_slice-rest.ensures.value) (without_first (IsUnread c.args.view.now.terms.now.nodes) c.args.view.now.facts.now)

pub loop-fact-preserved : goal.loop-fact-preserved
loop-fact-preserved c =
    without_next (IsUnread c.args.view.now.terms.now.nodes) c.args.view.now.facts.now c.loop-fact.rest.now c.in-Some.tail.now c.in-Some.fact.now
    c.in-Some.ensures.cases.0 c.loop-fact.invariant (λ unread. false≢true (sym c.if-unread.false ∙ c.in_ok-unread.ensures.1 unread))

pub returns-then-unread : goal.returns-then-unread
returns-then-unread c =
    unread_at (given c.args.view.now.facts.now c.args.view.now.terms.now.nodes c.args.view.now.classes.now.lists)
    c.in-Some.fact.now.post c.in-Some.fact.now.claim
    (said_at_hand (IsUnread c.args.view.now.terms.now.nodes) c.args.view.now.facts.now c.loop-fact.rest.now c.in-Some.tail.now
    c.in-Some.fact.now c.in-Some.ensures.cases.0 c.loop-fact.invariant)
    (c.in_ok-unread.ensures.0 c.if-unread.true)

pub returns : goal.returns
returns c = λ post h.
    let of = claim_of (given c.args.view.now.facts.now c.args.view.now.terms.now.nodes c.args.view.now.classes.now.lists) post h in
    without_last (IsUnread c.args.view.now.terms.now.nodes) c.args.view.now.facts.now c.loop-fact.rest.now
    c.in_default.ensures.cases c.loop-fact.invariant post of.0 of.1 of.2
