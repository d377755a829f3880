use Rattle.std.proofs.Common.{List, [], ◌∷◌, pos, sym, ◌∙◌, subst}
use Rattle.grind_claims.specs.declared.claim.Claim.TheVariants.{AtMost}
use Rattle.grind_claims.specs.declared.proof.Rule.TheVariants.{Combine}
use Rattle.grind_cutsat_units.specs.declared.types.Planned.{Planned}
use Rattle.grind_cutsat_units.specs.Posts.{Rest}
use Rattle.grind_cutsat_cuts.proofs.CutLemmas.{rests_on_one, none_gives, found_cut}
use Rattle.grind_cutsat_cuts.proofs.units.cuts_a_bound.cut_at.Goals as goal

pub drafted-requires : goal.drafted-requires
drafted-requires c =
    subst (λ (posts : List Planned). Rest c.args.view.now.facts.now [] posts) (sym (c.as_slice.ensures.value ∙ c.in_ok-posts.ensures))
    (rests_on_one c.args.view.now.facts.now (AtMost c.in-Some.cut.form) c.args.claim.now (Combine c.in-Some.cut.divisor (pos 1 ∷ [])) c.requires)

pub returns-in_default-cut : goal.returns-in_default-cut
returns-in_default-cut c = λ posts gives.
    absurd (none_gives c.args.view.now.facts.now c.args.claim.now c.in-AtMost.form c.in-AtMost.is (rw c.in_default-cut.is at c.in_ok-cut.ensures) posts gives)

pub returns : goal.returns
returns c =
    found_cut c.args.view.now.facts.now c.args.claim.now c.in-AtMost.form c.in-AtMost.is c.one_cut.ensures c.in-Some.cut.divisor
    c.in-Some.cut.form (rw c.in-Some.is at c.in_ok-cut.ensures) c.args.view.now.next c.as_slice.result.now c.in_ok-drafts.drafts
    (c.as_slice.ensures.value ∙ c.in_ok-posts.ensures) c.in_ok-drafts.ensures
