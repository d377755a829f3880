use Rattle.std.specs.Prelude.{true, false, refl}
use Rattle.std.proofs.lemmas.Bool.{false≢true}
use Rattle.grind_truth_prop.specs.declared.ways.Place.TheVariants.{Whole}
use Rattle.grind_truth_prop.proofs.WayLemmas.{must_be_false, must_be_true}
use Rattle.grind_truth_prop.proofs.PairLemmas.{if_some_of}
use Rattle.grind_truth_prop.proofs.UnitLemmas.{fixed_by_marks, unfixed}
use Rattle.grind_truth_prop.specs.Splits.{IsUnfixed}
use Rattle.grind_truth_prop.proofs.units.splits.unfixed_at.Goals as goal

pub returns-then-not-can_have-clause-none : goal.returns-then-not-can_have-clause-none
returns-then-not-can_have-clause-none c = λ _.
    fixed_by_marks c.args.known.now c.args.classes.now.lists c.args.n c.in-Some.it c.requires.fits c.requires.known c.in-Some.ensures.found
    c.arguments_of-joint.result c.arguments_of-joint.ensures.joint c.arguments_of-joint.ensures.blank false
    (must_be_false c.arguments_of-joint.result Whole (λ h. false≢true (c.if-not-can_have.ensures.1 h)))

pub returns-then-not-can_have-2-clause-none : goal.returns-then-not-can_have-2-clause-none
returns-then-not-can_have-2-clause-none c = λ _.
    fixed_by_marks c.args.known.now c.args.classes.now.lists c.args.n c.in-Some.it c.requires.fits c.requires.known c.in-Some.ensures.found
    c.arguments_of-joint.result c.arguments_of-joint.ensures.joint c.arguments_of-joint.ensures.blank true
    (must_be_true c.arguments_of-joint.result Whole (λ h. false≢true (c.if-not-can_have-2.ensures.1 h)))

pub returns-clause-found : goal.returns-clause-found
returns-clause-found c =
    if_some_of c.first_unknown.result c.first_unknown.ensures.found (IsUnfixed c.args.known.now c.args.classes.now.lists c.args.n)
    (unfixed c.args.known.now c.args.classes.now.lists c.args.n c.in-Some.it c.requires.fits c.requires.known c.in-Some.ensures.found
    c.arguments_of-joint.result c.arguments_of-joint.ensures.joint c.arguments_of-joint.ensures.blank
    (c.if-not-can_have.ensures.0 refl) (c.if-not-can_have-2.ensures.0 refl) (λ h. false≢true (c.if-has_sides_together.ensures.1 h)))
