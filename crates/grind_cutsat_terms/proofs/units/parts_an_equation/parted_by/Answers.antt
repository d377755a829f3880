use Rattle.std.proofs.Common.{List, [], ◌∷◌, Option, sym, ap, ◌∙◌, subst}
use Rattle.std.specs.Prelude.{MatchOption}
use Rattle.std.proofs.lemmas.Bool.{false≢true}
use Rattle.grind_linear_forms.specs.Forms.{FormData}
use Rattle.grind_claims.specs.declared.claim.Claim.TheVariants.{Differ, AtMost}
use Rattle.grind_claims.specs.declared.proof.Rule.TheVariants.{Apart}
use Rattle.grind_arithmetic_rules.specs.LinearRules.{IsRead}
use Rattle.grind_cutsat_units.specs.declared.types.Planned.{Planned}
use Rattle.grind_cutsat_units.specs.Posts.{planned, Rest, AllStand, IsCaseOf}
use Rattle.grind_cutsat_units.proofs.PassingLemmas.{found_by}
use Rattle.grind_cutsat_terms.specs.Settling.{ApartGives}
use Rattle.grind_cutsat_terms.proofs.SettleLemmas.{rests_on, unless_apart, apart_case, apart_once}
use Rattle.grind_cutsat_terms.proofs.units.parts_an_equation.parted_by.Goals as goal
use Rattle.grind_claims.specs.declared.claim.Claim.{Claim}
use Rattle.grind_cutsat_facts.specs.Facts.{Stands}

pub drafted-requires : goal.drafted-requires
drafted-requires c =
    subst (λ (posts : List Planned). Rest c.args.view.now.facts.now [] posts) (sym (c.as_slice.ensures.value ∙ c.in_ok-posts.ensures))
    (subst (λ (premises : List Claim). Rest c.args.view.now.facts.now [] (planned (Differ c.args.sides.now.left c.args.sides.now.right) Apart premises ∷ []))
    (sym c.in_ok-premises.ensures)
    (rests_on c.args.view.now.facts.now (Differ c.args.sides.now.left c.args.sides.now.right) (AtMost c.in-AtMost.form) Apart
    (subst (λ (claim : Claim). Stands c.args.view.now.facts.now claim) c.in-AtMost.is c.requires)))

pub returns-then-not-apart : goal.returns-then-not-apart
returns-then-not-apart c = λ posts gives.
    absurd (unless_apart c.args.view.now.terms.now.nodes c.args.claim.now c.in-AtMost.form c.in-AtMost.is c.args.sides.now.left c.args.sides.now.right
    (λ apart. false≢true (sym c.if-not-apart.true ∙ c.in_ok-apart.ensures.1 apart)) posts gives)

pub returns : goal.returns
returns c =
    found_by c.args.view.now.facts.now c.args.view.now.next
    (ApartGives c.args.view.now.terms.now.nodes c.args.sides.now.left c.args.sides.now.right c.args.claim.now)
    (planned (Differ c.args.sides.now.left c.args.sides.now.right) Apart (AtMost c.in-AtMost.form ∷ []) ∷ [])
    (apart_case c.args.view.now.terms.now.nodes c.args.claim.now c.in-AtMost.form c.in-AtMost.is c.args.sides.now.left c.args.sides.now.right
    (c.in_ok-apart.ensures.0 c.if-not-apart.false))
    (apart_once c.args.view.now.terms.now.nodes c.args.claim.now c.in-AtMost.form c.in-AtMost.is c.args.sides.now.left c.args.sides.now.right)
    c.in_ok-drafts.drafts
    (subst (λ (posts : List Planned). MatchOption c.in_ok-drafts.drafts (AllStand c.args.view.now.facts.now posts)
    (λ drafts. IsCaseOf c.args.view.now.facts.now c.args.view.now.next posts drafts)) (c.as_slice.ensures.value ∙ c.in_ok-posts.ensures ∙ ap (λ (premises : List Claim). planned (Differ c.args.sides.now.left c.args.sides.now.right) Apart premises ∷ []) c.in_ok-premises.ensures)
    c.in_ok-drafts.ensures)
