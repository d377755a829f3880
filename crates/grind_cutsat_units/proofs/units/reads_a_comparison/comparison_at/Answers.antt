use Rattle.std.proofs.Common.{List, [], ◌∷◌, Option, refl, ◌∙◌, subst}
use Rattle.std.specs.Prelude.{MatchOption}
use Rattle.grind_linear_forms.specs.Forms.{FormData}
use Rattle.grind_claims.specs.declared.claim.Claim.TheVariants.{AtMost}
use Rattle.grind_claims.specs.declared.proof.Rule.TheVariants.{Read}
use Rattle.grind_arithmetic_rules.specs.LinearRules.{IsRead}
use Rattle.grind_cutsat_units.specs.declared.types.Planned.{Planned}
use Rattle.grind_cutsat_units.specs.Posts.{planned, AllStand, IsCaseOf}
use Rattle.grind_cutsat_units.specs.Comparisons.{ComparisonGives}
use Rattle.grind_cutsat_units.proofs.PassingLemmas.{found_by}
use Rattle.grind_cutsat_units.proofs.ReadingLemmas.{comparison_posts}
use Rattle.grind_cutsat_units.proofs.units.reads_a_comparison.comparison_at.Goals as goal

pub returns-in_default : goal.returns-in_default
returns-in_default c =
    let none = subst (λ (found : Option FormData). MatchOption found
    ((form : FormData) → ¬ IsRead c.args.view.now.terms.now.nodes (c.args.literal.now ∷ []) (AtMost form))
    (λ form. IsRead c.args.view.now.terms.now.nodes (c.args.literal.now ∷ []) (AtMost form))) c.in_default.is c.in_ok-form.ensures in
    λ posts gives. absurd (none gives.0 gives.1)

pub returns : goal.returns
returns c =
    let read = subst (λ (found : Option FormData). MatchOption found
    ((form : FormData) → ¬ IsRead c.args.view.now.terms.now.nodes (c.args.literal.now ∷ []) (AtMost form))
    (λ form. IsRead c.args.view.now.terms.now.nodes (c.args.literal.now ∷ []) (AtMost form))) c.in-Some.is c.in_ok-form.ensures in
    found_by c.args.view.now.facts.now c.args.view.now.next (ComparisonGives c.args.view.now.terms.now.nodes c.args.literal.now)
    (planned (AtMost c.in-Some.form) Read (c.args.literal.now ∷ []) ∷ []) (c.in-Some.form, read, refl)
    (λ others gives. comparison_posts c.args.view.now.terms.now.nodes c.args.literal.now c.in-Some.form others read gives)
    c.in_ok-drafts.drafts
    (subst (λ (posts : List Planned). MatchOption c.in_ok-drafts.drafts (AllStand c.args.view.now.facts.now posts)
    (λ drafts. IsCaseOf c.args.view.now.facts.now c.args.view.now.next posts drafts)) (c.as_slice.ensures.value ∙ c.in_ok-posts.ensures)
    c.in_ok-drafts.ensures)
