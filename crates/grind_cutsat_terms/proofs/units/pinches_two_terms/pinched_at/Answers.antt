use Rattle.std.proofs.Common.{ℕ, Option, refl, subst}
use Rattle.std.specs.Prelude.{MatchOption}
use Rattle.grind_cutsat_assignment.specs.Given.{Given, given}
use Rattle.grind_cutsat_terms.specs.Pinching.{BoundsDifference}
use Rattle.grind_cutsat_terms.proofs.PinchLemmas.{unpinched_known, unpinched_above, unpinched_below, pinched_by}
use Rattle.grind_cutsat_terms.proofs.units.pinches_two_terms.pinched_at.Goals as goal

pub returns-then-not-is_new_pair : goal.returns-then-not-is_new_pair
returns-then-not-is_new_pair c =
    let it : Given = given c.args.view.now.facts.now c.args.view.now.terms.now.nodes c.args.view.now.classes.now.lists in
    unpinched_known it c.args.left c.args.right (c.is_new_pair.ensures.no c.if-not-is_new_pair.true)

pub returns-in_default : goal.returns-in_default
returns-in_default c =
    let it : Given = given c.args.view.now.facts.now c.args.view.now.terms.now.nodes c.args.view.now.classes.now.lists in
    unpinched_above it c.args.left c.args.right
    (subst (λ (found : Option ℕ). MatchOption found ((post : ℕ) → ¬ BoundsDifference it c.args.left c.args.right post)
    (λ post. BoundsDifference it c.args.left c.args.right post)) c.in_default.is c.in_ok-above.ensures)

pub returns-in_default-below : goal.returns-in_default-below
returns-in_default-below c =
    let it : Given = given c.args.view.now.facts.now c.args.view.now.terms.now.nodes c.args.view.now.classes.now.lists in
    unpinched_below it c.args.left c.args.right
    (subst (λ (found : Option ℕ). MatchOption found ((post : ℕ) → ¬ BoundsDifference it c.args.right c.args.left post)
    (λ post. BoundsDifference it c.args.right c.args.left post)) c.in_default-below.is c.in_ok-below.ensures)

pub returns : goal.returns
returns c =
    let it : Given = given c.args.view.now.facts.now c.args.view.now.terms.now.nodes c.args.view.now.classes.now.lists in
    pinched_by it c.args.left c.args.right c.in-Some.first c.in-Some-below.second
    (c.is_new_pair.ensures.yes c.if-not-is_new_pair.false)
    (subst (λ (found : Option ℕ). MatchOption found ((post : ℕ) → ¬ BoundsDifference it c.args.left c.args.right post)
    (λ post. BoundsDifference it c.args.left c.args.right post)) c.in-Some.is c.in_ok-above.ensures)
    (subst (λ (found : Option ℕ). MatchOption found ((post : ℕ) → ¬ BoundsDifference it c.args.right c.args.left post)
    (λ post. BoundsDifference it c.args.right c.args.left post)) c.in-Some-below.is c.in_ok-below.ensures)
