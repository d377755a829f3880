use Rattle.std.proofs.Common.{◌⊎◌, List, Option, inl, inr, subst}
use Rattle.grind_claims.specs.declared.claim.Claim.TheVariants.{Holds, Fails}
use Rattle.grind_cutsat_units.specs.declared.types.Draft.{Draft}
use Rattle.grind_cutsat_units.specs.declared.types.Planned.{Planned}
use Rattle.grind_cutsat_units.specs.Posts.{IsFound}
use Rattle.grind_cutsat_terms.specs.Settling.{LiteralGives, NodeParts}
use Rattle.grind_cutsat_terms.proofs.SettleLemmas.{second_found}
use Rattle.grind_cutsat_terms.proofs.units.settles.node_settled.Goals as goal

pub returns-in-Some-fails : goal.returns-in-Some-fails
returns-in-Some-fails c =
    let has = subst (λ (found : Option (List Draft)). IsFound c.args.view.now.facts.now c.args.view.now.next (LiteralGives c.args.view.now.terms.now.nodes c.args.view.now.facts.now (Fails c.args.node)) found) c.in-Some-fails.is c.in_ok-fails.ensures in
    (has.0, inr (inl has.1), has.2)

pub returns : goal.returns
returns c =
    second_found c.args.view.now.facts.now c.args.view.now.next (LiteralGives c.args.view.now.terms.now.nodes c.args.view.now.facts.now (Holds c.args.node))
    (λ (posts : List Planned). LiteralGives c.args.view.now.terms.now.nodes c.args.view.now.facts.now (Fails c.args.node) posts ⊎ NodeParts c.args.view.now.terms.now.nodes c.args.view.now.facts.now c.args.node posts)
    (subst (λ (found : Option (List Draft)). IsFound c.args.view.now.facts.now c.args.view.now.next (LiteralGives c.args.view.now.terms.now.nodes c.args.view.now.facts.now (Holds c.args.node)) found) c.in_default.is c.in_ok-holds.ensures)
    c.in_ok-parts.parts
    (second_found c.args.view.now.facts.now c.args.view.now.next (LiteralGives c.args.view.now.terms.now.nodes c.args.view.now.facts.now (Fails c.args.node)) (NodeParts c.args.view.now.terms.now.nodes c.args.view.now.facts.now c.args.node)
    (subst (λ (found : Option (List Draft)). IsFound c.args.view.now.facts.now c.args.view.now.next (LiteralGives c.args.view.now.terms.now.nodes c.args.view.now.facts.now (Fails c.args.node)) found) c.in_default-fails.is c.in_ok-fails.ensures)
    c.in_ok-parts.parts c.in_ok-parts.ensures)
