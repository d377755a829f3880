use Rattle.std.proofs.Common.{List, [], sym, ◌∙◌, subst}
use Rattle.grind_claims.specs.declared.claim.Claim.{Claim}
use Rattle.grind_cutsat_facts.specs.Facts.{Stands}
use Rattle.grind_cutsat_units.specs.declared.types.Planned.{Planned}
use Rattle.grind_cutsat_units.specs.Posts.{Rest}
use Rattle.grind_cutsat_units.proofs.EqualityLemmas.{equality_rests}
use Rattle.grind_cutsat_units.proofs.units.reads_an_equality.equality_at.Goals as goal

pub drafted-requires : goal.drafted-requires
drafted-requires c =
    subst (λ (posts : List Planned). Rest c.args.view.now.facts.now [] posts) (sym (c.as_slice.ensures.value ∙ c.in_ok-posts.ensures))
    (equality_rests c.args.view.now.facts.now c.in-Same.a c.in-Same.b c.in-Some.one c.in-Some-other.other
    (subst (λ (claim : Claim). Stands c.args.view.now.facts.now claim) c.in-Same.is c.requires))
