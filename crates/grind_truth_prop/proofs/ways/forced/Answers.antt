use Rattle.std.specs.Prelude.{refl}
use Rattle.std.proofs.lemmas.Bool.{false≢true}
use Rattle.grind_truth_prop.specs.Ways.{CanHave}
use Rattle.grind_truth_prop.proofs.WayLemmas.{false_is_left, must_be_true, of_both}
use Rattle.grind_truth_prop.proofs.ways.forced.Goals as goal

pub returns-then-not-can_have-clause-can : goal.returns-then-not-can_have-clause-can
returns-then-not-can_have-clause-can c =
    false_is_left c.args.joint.now c.args.place c.requires (λ h. false≢true (c.if-not-can_have.ensures.1 h))

pub returns-then-not-can_have-2-clause-must : goal.returns-then-not-can_have-2-clause-must
returns-then-not-can_have-2-clause-must c =
    must_be_true c.args.joint.now c.args.place (λ h. false≢true (c.if-not-can_have-2.ensures.1 h))

pub returns-clause-none : goal.returns-clause-none
returns-clause-none c = λ _.
    of_both (CanHave c.args.joint.now c.args.place) (c.if-not-can_have.ensures.0 refl) (c.if-not-can_have-2.ensures.0 refl)
