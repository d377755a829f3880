use Rattle.std.proofs.Common.{subst}
use Rattle.grind_claims.specs.declared.claim.Claim.{Claim}
use Rattle.grind_cutsat_facts.specs.Facts.{Stands}
use Rattle.grind_cutsat_cuts.proofs.ResolveLemmas.{found_upper}
use Rattle.grind_cutsat_cuts.proofs.units.resolves_two_bounds.upper_at.Goals as goal

pub lower_of_some-requires : goal.lower_of_some-requires
lower_of_some-requires c = subst (λ (claim : Claim). Stands c.args.view.now.facts.now claim) c.in-AtMost.is c.requires

pub returns : goal.returns
returns c =
    found_upper c.args.view.now.facts.now c.args.claim.now c.in-AtMost.upper c.in-AtMost.is c.args.view.now.next c.in_ok-found.found c.in_ok-found.ensures
