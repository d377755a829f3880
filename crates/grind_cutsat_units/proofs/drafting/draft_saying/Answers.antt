use Rattle.std.proofs.Common.{rules, ◌≡◌, ◌↔◌, ℕ, ◌+◌, sym, ◌∙◌, subst}
use Rattle.std.proofs.lemmas.Bool.{false≢true}
use Rattle.grind_cutsat_facts.specs.Facts.{IsSaid}
use Rattle.grind_cutsat_units.specs.Drafting.{facts_of}
use Rattle.grind_cutsat_units.proofs.DraftingLemmas.{draft_here, drafts_next, drafts_last}
use Rattle.grind_cutsat_units.proofs.drafting.draft_saying.Goals as goal

pub returns-then-is_same_claim : goal.returns-then-is_same_claim
returns-then-is_same_claim c =
    draft_here (facts_of c.args.next c.args.drafts.now) c.loop-draft.number c.loop-draft.rest.now c.in-Some.tail.now c.in-Some.draft.now
    c.args.claim.now c.in-Some.ensures.cases.0 (c.is_same_claim.ensures.0 c.if-is_same_claim.true) c.loop-draft.invariant

pub loop-draft-preserved : goal.loop-draft-preserved
loop-draft-preserved c =
    let next : c.in-Some-checked_add.following ≡ c.loop-draft.number + 1 = search rules in
    subst (λ (number : ℕ). (post : ℕ) → IsSaid (facts_of number c.in-Some.tail.now) post c.args.claim.now
    ↔ IsSaid (facts_of c.args.next c.args.drafts.now) post c.args.claim.now) (sym next)
    (drafts_next (facts_of c.args.next c.args.drafts.now) c.loop-draft.number c.loop-draft.rest.now c.in-Some.tail.now
    c.in-Some.draft.now c.args.claim.now c.in-Some.ensures.cases.0
    (λ same. false≢true (sym c.if-is_same_claim.false ∙ c.is_same_claim.ensures.1 same)) c.loop-draft.invariant)

pub returns : goal.returns
returns c =
    drafts_last (facts_of c.args.next c.args.drafts.now) c.loop-draft.number c.loop-draft.rest.now c.args.claim.now
    c.in_default.ensures.cases c.loop-draft.invariant
