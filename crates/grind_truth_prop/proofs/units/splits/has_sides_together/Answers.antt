use Rattle.grind_truth_prop.proofs.UnitLemmas.{first_side_active, second_side_active}
use Rattle.grind_truth_prop.proofs.units.splits.has_sides_together.Goals as goal

pub same-requires-clause-first : goal.same-requires-clause-first
same-requires-clause-first c =
    first_side_active c.args.known.now c.args.classes.now.lists c.args.n c.args.it.now c.requires.fits c.requires.active c.requires.connective

pub same-requires-clause-second : goal.same-requires-clause-second
same-requires-clause-second c =
    second_side_active c.args.known.now c.args.classes.now.lists c.args.n c.args.it.now c.requires.fits c.requires.active c.requires.connective
