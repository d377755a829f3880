use Rattle.std.proofs.Common.{List, [], ◌∷◌, Option, sym, ap, ◌∙◌, subst}
use Rattle.std.specs.Prelude.{MatchOption}
use Rattle.std.proofs.lemmas.Bool.{false≢true}
use Rattle.grind_linear_forms.specs.Forms.{FormData}
use Rattle.grind_claims.specs.declared.claim.Claim.{Claim}
use Rattle.grind_claims.specs.declared.claim.Claim.TheVariants.{Differ, AtMost}
use Rattle.grind_claims.specs.declared.proof.Rule.TheVariants.{Apart}
use Rattle.grind_arithmetic_rules.specs.LinearRules.{IsRead}
use Rattle.grind_cutsat_units.specs.declared.types.Planned.{Planned}
use Rattle.grind_cutsat_units.specs.Posts.{planned, Rest, AllStand, IsCaseOf}
use Rattle.grind_cutsat_units.proofs.PassingLemmas.{found_by}
use Rattle.grind_cutsat_terms.specs.Settling.{ApartAlone}
use Rattle.grind_cutsat_terms.proofs.SettleLemmas.{rests_on_nothing, alone_case, alone_once}
use Rattle.grind_cutsat_terms.proofs.units.parts_an_equation.parted_alone.Goals as goal

pub drafted-requires : goal.drafted-requires
drafted-requires c =
    subst (λ (posts : List Planned). Rest c.args.view.now.facts.now [] posts) (sym (c.as_slice.ensures.value ∙ c.in_ok-posts.ensures))
    (subst (λ (premises : List Claim). Rest c.args.view.now.facts.now [] (planned (Differ c.args.sides.now.left c.args.sides.now.right) Apart premises ∷ []))
    (sym c.new.ensures)
    (rests_on_nothing c.args.view.now.facts.now (Differ c.args.sides.now.left c.args.sides.now.right) Apart))

pub returns-then-not-apart : goal.returns-then-not-apart
returns-then-not-apart c = λ posts gives.
    absurd (false≢true (sym c.if-not-apart.true ∙ c.in_ok-apart.ensures.1 gives.0))

pub returns : goal.returns
returns c =
    found_by c.args.view.now.facts.now c.args.view.now.next
    (ApartAlone c.args.view.now.terms.now.nodes c.args.sides.now.left c.args.sides.now.right)
    (planned (Differ c.args.sides.now.left c.args.sides.now.right) Apart [] ∷ [])
    (alone_case c.args.view.now.terms.now.nodes c.args.sides.now.left c.args.sides.now.right (c.in_ok-apart.ensures.0 c.if-not-apart.false))
    (alone_once c.args.view.now.terms.now.nodes c.args.sides.now.left c.args.sides.now.right)
    c.in_ok-drafts.drafts
    (subst (λ (posts : List Planned). MatchOption c.in_ok-drafts.drafts (AllStand c.args.view.now.facts.now posts)
    (λ drafts. IsCaseOf c.args.view.now.facts.now c.args.view.now.next posts drafts)) (c.as_slice.ensures.value ∙ c.in_ok-posts.ensures
    ∙ ap (λ (premises : List Claim). planned (Differ c.args.sides.now.left c.args.sides.now.right) Apart premises ∷ []) c.new.ensures)
    c.in_ok-drafts.ensures)
