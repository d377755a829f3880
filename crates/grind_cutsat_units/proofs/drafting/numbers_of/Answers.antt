use Rattle.std.proofs.Common.{List, All, subst}
use Rattle.std.proofs.lemmas.List.Elements.{All-tail}
use Rattle.grind_claims.specs.declared.claim.Claim.{Claim}
use Rattle.grind_cutsat_facts.specs.Facts.{Stands}
use Rattle.grind_cutsat_units.specs.Drafting.{with_drafts}
use Rattle.grind_cutsat_units.proofs.DraftingLemmas.{said_next, said_last}
use Rattle.grind_cutsat_units.proofs.drafting.numbers_of.Goals as goal

pub loop-claim-preserved : goal.loop-claim-preserved
loop-claim-preserved c = record {
  stand = All-tail (Stands (with_drafts c.args.view.now.facts.now c.args.view.now.next c.args.drafts.now)) c.in-Some.claim.now
      c.in-Some.tail.now
      (subst (λ (claims : List Claim). All (Stands (with_drafts c.args.view.now.facts.now c.args.view.now.next c.args.drafts.now)) claims)
      c.in-Some.ensures.cases.0 c.loop-claim.invariant.stand);
  completes = said_next (with_drafts c.args.view.now.facts.now c.args.view.now.next c.args.drafts.now) c.args.claims.now
      c.loop-claim.rest.now c.in-Some.tail.now c.in-Some.claim.now c.loop-claim.from c.push.new.self c.in_ok-number.number
      c.in-Some.ensures.cases.0 c.in_ok-number.ensures c.in_ok-push.ensures.ok c.loop-claim.invariant.completes;
}

pub returns : goal.returns
returns c =
    said_last (with_drafts c.args.view.now.facts.now c.args.view.now.next c.args.drafts.now) c.args.claims.now
    c.loop-claim.rest.now c.loop-claim.from c.in_default.ensures.cases c.loop-claim.invariant.completes
