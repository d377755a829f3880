use Rattle.std.specs.Prelude.{refl}
use Rattle.std.proofs.Common.{inl, inr}
use Rattle.std.proofs.lemmas.Bool.{not-false}
use Rattle.grind_truth_prop.proofs.TermLemmas.{sides_active}
use Rattle.grind_truth_prop.proofs.units.sides.has_to_join.Goals as goal

pub same-requires-clause-first : goal.same-requires-clause-first
same-requires-clause-first c = (sides_active c.args.known.now c.args.classes.now.lists c.args.n c.args.sides.now.left c.args.sides.now.right c.requires.fits (c.requires.fits.known_active c.args.n (inl (c.if-not-holds.ensures.0 refl))) c.requires.equation).0

pub same-requires-clause-second : goal.same-requires-clause-second
same-requires-clause-second c = (sides_active c.args.known.now c.args.classes.now.lists c.args.n c.args.sides.now.left c.args.sides.now.right c.requires.fits (c.requires.fits.known_active c.args.n (inl (c.if-not-holds.ensures.0 refl))) c.requires.equation).1

pub returns-clause-no : goal.returns-clause-no
returns-clause-no c = λ no _.
    inr (rw c.as_slice.ensures.value at (c.stands_in.ensures.0 (not-false c.stands_in.result no)))
