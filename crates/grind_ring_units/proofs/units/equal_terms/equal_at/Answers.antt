use Rattle.std.proofs.Common.{refl}
use Rattle.grind_ring_units.proofs.EqualLemmas.{no_line}
use Rattle.grind_ring_units.proofs.units.equal_terms.equal_at.Goals as goal

pub returns-in_default : goal.returns-in_default
returns-in_default c = λ equal. (rw c.in_default.is at c.in_ok-found.ensures) equal.0 equal.3.alike

pub returns-in_default-line : goal.returns-in_default-line
returns-in_default-line c =
    no_line c.args.setting.now.state.now c.args.setting.now.terms.now.nodes c.args.setting.now.classes.now.lists
    c.args.pair.now.first.now.node c.args.pair.now.second.now.node c.in-Some.poly (rw c.in-Some.is at c.in_ok-found.ensures)
    (rw c.in_default-line.is at c.in_ok-line.ensures)

pub returns : goal.returns
returns c = (
  refl,
  refl,
  record { alike = rw c.in-Some.is at c.in_ok-found.ensures; line_is = rw c.in-Some-line.is at c.in_ok-line.ensures },
)
