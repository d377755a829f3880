use Rattle.std.specs.Prelude.{◌⊎◌, refl}
use Rattle.std.proofs.Common.{inr}
use Rattle.std.proofs.lemmas.Bool.{false≢true}
use Rattle.grind_classes.specs.Classes.{AreTogether}
use Rattle.grind_truth_prop.specs.Given.{IsKnown}
use Rattle.grind_truth_prop.specs.Equations.{AreNotParted}
use Rattle.grind_truth_prop.proofs.TermLemmas.{sides_active}
use Rattle.grind_truth_prop.proofs.UnitLemmas.{no_equation_at}
use Rattle.grind_truth_prop.proofs.units.equations.equated_at.Goals as goal

pub same-requires-clause-first : goal.same-requires-clause-first
same-requires-clause-first c = (sides_active c.args.known.now c.args.classes.now.lists c.args.n c.in-Some.sides.left c.in-Some.sides.right c.requires.fits (c.if-not-is_active.ensures.value.0 refl) c.in-Some.ensures.found).0

pub same-requires-clause-second : goal.same-requires-clause-second
same-requires-clause-second c = (sides_active c.args.known.now c.args.classes.now.lists c.args.n c.in-Some.sides.left c.in-Some.sides.right c.requires.fits (c.if-not-is_active.ensures.value.0 refl) c.in-Some.ensures.found).1

pub parted_place-requires-clause-left : goal.parted_place-requires-clause-left
parted_place-requires-clause-left c = (sides_active c.args.known.now c.args.classes.now.lists c.args.n c.in-Some.sides.left c.in-Some.sides.right c.requires.fits (c.if-not-is_active.ensures.value.0 refl) c.in-Some.ensures.found).0

pub parted_place-requires-clause-right : goal.parted_place-requires-clause-right
parted_place-requires-clause-right c = (sides_active c.args.known.now c.args.classes.now.lists c.args.n c.in-Some.sides.left c.in-Some.sides.right c.requires.fits (c.if-not-is_active.ensures.value.0 refl) c.in-Some.ensures.found).1

pub returns-in_default-parted_place-clause-none : goal.returns-in_default-parted_place-clause-none
returns-in_default-parted_place-clause-none c = λ _ a b active is.
    no_equation_at c.args.known.now c.args.classes.now.lists c.args.n c.in-Some.sides.left c.in-Some.sides.right c.in-Some.ensures.found
    (λ x y. IsKnown c.args.known.now c.args.n
    ⊎ (¬ AreTogether c.args.classes.now.lists x y × AreNotParted c.args.known.now c.args.classes.now.lists x y))
    (inr (λ t. false≢true (c.if-same.ensures.1 t), c.in_default-parted_place.ensures.none refl)) a b is
