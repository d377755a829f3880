use Rattle.std.proofs.Common.{◌≡◌, List, [], ℤ, pos, FitsSigned, sym, ap, ◌∙◌, subst}
use Rattle.std.specs.Int.{w128}
use Rattle.std.specs.Prelude.{MatchOption}
use Rattle.std.proofs.lemmas.Bool.{false≢true}
use Rattle.grind_linear_forms.specs.Forms.{FormData}
use Rattle.grind_differences.specs.Bounds.{plus}
use Rattle.grind_claims.specs.declared.claim.Claim.TheVariants.{Differ, AtMost}
use Rattle.grind_cutsat_facts.specs.Covering.{IsCovered}
use Rattle.grind_cutsat_units.specs.declared.types.Planned.{Planned}
use Rattle.grind_cutsat_units.specs.Posts.{Rest, AllStand, IsCaseOf}
use Rattle.grind_cutsat_units.specs.Strictness.{BoundGives}
use Rattle.grind_cutsat_units.proofs.PassingLemmas.{found_by}
use Rattle.grind_cutsat_units.proofs.StrictLemmas.{strict_rests, unless_covered, strict_posts, strict_case, strict_once, same_posts}
use Rattle.grind_cutsat_units.proofs.units.strengthens_a_bound.bound_at.Goals as goal

pub drafted-requires : goal.drafted-requires
drafted-requires c =
    subst (λ (posts : List Planned). Rest c.args.view.now.facts.now [] posts) (sym (c.as_slice.ensures.value ∙ c.in_ok-posts.ensures))
    (strict_rests c.args.view.now.facts.now (AtMost c.in-Some.stricter) (Differ c.args.sides.now.left c.args.sides.now.right) c.args.claim.now
    c.requires.differ c.requires.bound)

pub returns-then-covers : goal.returns-then-covers
returns-then-covers c = λ posts gives.
    let more : c.in-Some.stricter ≡ plus c.in-AtMost.form (pos 1) =
    c.in-Some.ensures.0 ∙ ap (λ (it : FormData). plus it (pos 1)) c.in_ok-copy.ensures in
    absurd (unless_covered c.args.view.now.terms.now.nodes c.args.view.now.facts.now c.args.sides.now.left c.args.sides.now.right
    c.args.claim.now c.in-AtMost.form c.in-AtMost.is
    (subst (λ (it : FormData). IsCovered c.args.view.now.facts.now it) more (c.covers.ensures.0 c.if-covers.true)) posts gives)

pub returns : goal.returns
returns c =
    let more : c.in-Some.stricter ≡ plus c.in-AtMost.form (pos 1) =
    c.in-Some.ensures.0 ∙ ap (λ (it : FormData). plus it (pos 1)) c.in_ok-copy.ensures in
    let bounds = c.in_ok-bounds.ensures.0 c.if-not-bounds.false in
    let fits = subst (λ (z : ℤ). FitsSigned w128 z) (ap (λ (it : FormData). it.constant) more) c.in-Some.ensures.1 in
    found_by c.args.view.now.facts.now c.args.view.now.next
    (BoundGives c.args.view.now.terms.now.nodes c.args.view.now.facts.now c.args.sides.now.left c.args.sides.now.right c.args.claim.now)
    (strict_posts c.args.view.now.terms.now.nodes c.args.view.now.facts.now c.args.sides.now.left c.args.sides.now.right
    c.args.claim.now c.in-AtMost.form c.in-AtMost.is)
    (strict_case c.args.view.now.terms.now.nodes c.args.view.now.facts.now c.args.sides.now.left c.args.sides.now.right
    c.args.claim.now c.in-AtMost.form c.in-AtMost.is bounds fits
    (λ covered. false≢true (sym c.if-covers.false ∙ c.covers.ensures.1
    (subst (λ (it : FormData). IsCovered c.args.view.now.facts.now it) (sym more) covered))))
    (strict_once c.args.view.now.terms.now.nodes c.args.view.now.facts.now c.args.sides.now.left c.args.sides.now.right
    c.args.claim.now c.in-AtMost.form c.in-AtMost.is)
    c.in_ok-drafts.drafts
    (subst (λ (posts : List Planned). MatchOption c.in_ok-drafts.drafts (AllStand c.args.view.now.facts.now posts)
    (λ drafts. IsCaseOf c.args.view.now.facts.now c.args.view.now.next posts drafts))
    (c.as_slice.ensures.value ∙ c.in_ok-posts.ensures ∙ same_posts c.args.view.now.terms.now.nodes c.args.view.now.facts.now
    c.args.sides.now.left c.args.sides.now.right c.args.claim.now c.in-AtMost.form c.in-AtMost.is c.in-Some.stricter more)
    c.in_ok-drafts.ensures)
