use Rattle.std.proofs.Common.{[], ◌∷◌, sym, subst}
use Rattle.grind_linear_forms.specs.Forms.{FormData}
use Rattle.grind_claims.specs.declared.claim.Claim.{Claim}
use Rattle.grind_claims.specs.declared.claim.Claim.TheVariants.{AtMost}
use Rattle.grind_arithmetic_rules.specs.LinearRules.{IsRead}
use Rattle.grind_cutsat_units.specs.Sides.{IsHeldBound}
use Rattle.grind_cutsat_units.proofs.DraftingLemmas.{match_map}
use Rattle.grind_cutsat_units.proofs.ReadingLemmas.{read_of_holds, reads_held}
use Rattle.grind_cutsat_units.proofs.sides.form_read.Goals as goal

pub returns-in_ok-found-in-Holds : goal.returns-in_ok-found-in-Holds
returns-in_ok-found-in-Holds c =
    match_map c.in_ok-found-in-Holds.found
    ((form : FormData) → ¬ IsHeldBound c.args.terms.now.nodes c.in-Holds.node form)
    ((form : FormData) → ¬ IsRead c.args.terms.now.nodes (c.args.literal.now ∷ []) (AtMost form))
    (λ form. IsHeldBound c.args.terms.now.nodes c.in-Holds.node form)
    (λ form. IsRead c.args.terms.now.nodes (c.args.literal.now ∷ []) (AtMost form))
    (λ none form read. none form (read_of_holds c.args.terms.now.nodes c.in-Holds.node form
    (subst (λ (claim : Claim). IsRead c.args.terms.now.nodes (claim ∷ []) (AtMost form)) c.in-Holds.is read)))
    (λ form held. subst (λ (claim : Claim). IsRead c.args.terms.now.nodes (claim ∷ []) (AtMost form)) (sym c.in-Holds.is)
    (reads_held c.args.terms.now.nodes c.in-Holds.node form held))
    c.in_ok-found-in-Holds.ensures
