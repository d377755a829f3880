use Rattle.std.proofs.Common.{◌≡◌}
use Rattle.grind_cutsat_assignment.specs.Walks.{TakesPart}
use Rattle.grind_cutsat_assignment.proofs.AtomLemmas.{marking_first, marking_next, marking_last, parts_split, parts_none}
use Rattle.grind_cutsat_assignment.proofs.atoms.mark_parts.Goals as goal

pub loop-part-init : goal.loop-part-init
loop-part-init c = marking_first c.args.marks.now (TakesPart c.args.parts.now)

pub loop-part-preserved : goal.loop-part-preserved
loop-part-preserved c =
    marking_next c.args.marks.now c.loop-part.marks c.mark.new.marks (TakesPart c.loop-part.rest.now)
    (λ n. n ≡ c.in-Some.part.now.node) (TakesPart c.in-Some.tail.now) (TakesPart c.args.parts.now)
    (parts_split c.loop-part.rest.now c.in-Some.tail.now c.in-Some.part.now c.in-Some.ensures.cases.0) c.mark.ensures
    c.loop-part.invariant

pub returns : goal.returns
returns c =
    marking_last c.args.marks.now c.loop-part.marks (TakesPart c.loop-part.rest.now) (TakesPart c.args.parts.now)
    (parts_none c.loop-part.rest.now c.in_default.ensures.cases) c.loop-part.invariant
