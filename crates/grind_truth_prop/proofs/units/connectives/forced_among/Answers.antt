use Rattle.std.specs.Prelude.{refl}
use Rattle.grind_truth_prop.specs.Findings.{IsOpenIn, node_in}
use Rattle.grind_truth_prop.proofs.UnitLemmas.{of_places}
use Rattle.grind_truth_prop.proofs.units.connectives.forced_among.Goals as goal

pub returns-clause-none : goal.returns-clause-none
returns-clause-none c = λ _.
    of_places (λ place. IsOpenIn c.args.known.now c.args.joint.now place (node_in place c.args.n c.args.it.now))
    (c.in_default.ensures.none refl) (c.in_default-forced_at.ensures.none refl) (c.in_default-forced_at-2.ensures.none refl)
