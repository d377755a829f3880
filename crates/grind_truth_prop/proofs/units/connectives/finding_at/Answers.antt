use Rattle.std.specs.Prelude.{refl}
use Rattle.std.proofs.lemmas.Bool.{false≢true}
use Rattle.grind_truth_prop.proofs.UnitLemmas.{contradicted_at, settles_nothing, fixed_at}
use Rattle.grind_truth_prop.proofs.units.connectives.finding_at.Goals as goal

pub returns-then-not-has_way-clause-found : goal.returns-then-not-has_way-clause-found
returns-then-not-has_way-clause-found c =
    contradicted_at c.args.known.now c.args.classes.now.lists c.args.n c.in-Some.it c.joint_of-joint.result c.requires.fits
    (c.if-not-is_active.ensures.value.0 refl) c.in-Some.ensures.found c.joint_of-joint.ensures.joint c.joint_of-joint.ensures.whole
    (λ h. false≢true (c.if-not-has_way.ensures.1 h))

pub returns-in_default-forced_among-clause-none : goal.returns-in_default-forced_among-clause-none
returns-in_default-forced_among-clause-none c = λ _.
    settles_nothing c.args.known.now c.args.classes.now.lists c.args.n c.in-Some.it c.joint_of-joint.result c.requires.fits
    (c.if-not-is_active.ensures.value.0 refl) c.in-Some.ensures.found c.joint_of-joint.ensures.joint c.joint_of-joint.ensures.whole
    (c.if-not-has_way.ensures.0 refl) (c.in_default-forced_among.ensures.none refl)

pub returns-clause-found : goal.returns-clause-found
returns-clause-found c =
    fixed_at c.args.known.now c.args.classes.now.lists c.args.n c.in-Some.it c.joint_of-joint.result c.requires.fits
    (c.if-not-is_active.ensures.value.0 refl) c.in-Some.ensures.found c.joint_of-joint.ensures.joint c.joint_of-joint.ensures.whole
    c.in-Some-forced_among.forced.node c.in-Some-forced_among.forced.value c.in-Some-forced_among.ensures.found
