use Rattle.std.proofs.Common.{List, All, sym, subst}
use Rattle.grind_claims.specs.declared.claim.Claim.{Claim}
use Rattle.grind_cutsat_facts.specs.Facts.{Stands}
use Rattle.grind_cutsat_units.specs.declared.types.Draft.{Draft}
use Rattle.grind_cutsat_units.specs.Drafting.{with_drafts}
use Rattle.grind_cutsat_units.proofs.drafting.put.Goals as goal

pub numbers_of-requires : goal.numbers_of-requires
numbers_of-requires c =
    subst (λ (drafts : List Draft). All (Stands (with_drafts c.args.view.now.facts.now c.args.view.now.next drafts)) c.as_slice-3.result.now)
    (sym c.as_slice-2.ensures.value)
    (subst (λ (claims : List Claim). All (Stands (with_drafts c.args.view.now.facts.now c.args.view.now.next c.args.drafts.now)) claims)
    (sym c.as_slice-3.ensures.value) c.requires)
