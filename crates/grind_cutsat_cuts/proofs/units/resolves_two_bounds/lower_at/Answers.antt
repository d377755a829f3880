use Rattle.std.proofs.Common.{List, [], ◌∷◌, sym, ◌∙◌, subst}
use Rattle.grind_claims.specs.declared.claim.Claim.TheVariants.{AtMost}
use Rattle.grind_claims.specs.declared.proof.Rule.TheVariants.{Combine}
use Rattle.grind_cutsat_units.specs.declared.types.Planned.{Planned}
use Rattle.grind_cutsat_units.specs.Posts.{Rest}
use Rattle.grind_cutsat_cuts.proofs.CutLemmas.{rests_on_two}
use Rattle.grind_cutsat_cuts.proofs.ResolveLemmas.{none_lower, found_lower}
use Rattle.grind_cutsat_cuts.proofs.units.resolves_two_bounds.lower_at.Goals as goal

pub drafted-requires : goal.drafted-requires
drafted-requires c =
    subst (λ (posts : List Planned). Rest c.args.view.now.facts.now [] posts) (sym (c.as_slice.ensures.value ∙ c.in_ok-posts.ensures))
    (rests_on_two c.args.view.now.facts.now (AtMost c.in-Some.found.cut.form) (AtMost c.args.upper.now) c.args.claim.now
    (Combine c.in-Some.found.cut.divisor (c.in-Some.found.factors.first ∷ c.in-Some.found.factors.second ∷ []))
    c.requires.upper c.requires.lower)

pub returns-in_default-found : goal.returns-in_default-found
returns-in_default-found c = λ posts gives.
    absurd (none_lower c.args.view.now.facts.now c.args.upper.now c.args.claim.now c.in-AtMost.lower c.in-AtMost.is
    (rw c.in_default-found.is at c.in_ok-found.ensures) posts gives)

pub returns : goal.returns
returns c =
    found_lower c.args.view.now.facts.now c.args.upper.now c.args.claim.now c.in-AtMost.lower c.in-AtMost.is c.one_cut.ensures
    c.in-Some.found.factors.first c.in-Some.found.factors.second c.in-Some.found.cut.divisor c.in-Some.found.cut.form
    (rw c.in-Some.is at c.in_ok-found.ensures) c.args.view.now.next c.as_slice.result.now c.in_ok-drafts.drafts
    (c.as_slice.ensures.value ∙ c.in_ok-posts.ensures) c.in_ok-drafts.ensures
