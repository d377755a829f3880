use Rattle.std.proofs.Common.{ℕ, refl}
use Rattle.grind_cutsat_facts.specs.Facts.{IsSaid, Stands}
use Rattle.grind_cutsat_units.specs.Drafting.{facts_of, with_drafts}
use Rattle.grind_cutsat_units.proofs.DraftingLemmas.{match_map, said_by_draft, said_by_neither}
use Rattle.grind_cutsat_units.proofs.drafting.number_of.Goals as goal

pub returns : goal.returns
returns c =
    match_map c.in_ok-found.found
    ((post : ℕ) → ¬ IsSaid (facts_of c.args.view.now.next c.args.drafts.now) post c.args.claim.now)
    (¬ Stands (with_drafts c.args.view.now.facts.now c.args.view.now.next c.args.drafts.now) c.args.claim.now)
    (λ post. IsSaid (facts_of c.args.view.now.next c.args.drafts.now) post c.args.claim.now)
    (λ post. IsSaid (with_drafts c.args.view.now.facts.now c.args.view.now.next c.args.drafts.now) post c.args.claim.now)
    (said_by_neither c.args.view.now.facts.now (facts_of c.args.view.now.next c.args.drafts.now) c.args.claim.now
    (c.in_default.ensures.none refl))
    (said_by_draft c.args.view.now.facts.now (facts_of c.args.view.now.next c.args.drafts.now) c.args.claim.now)
    c.in_ok-found.ensures
