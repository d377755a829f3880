use Rattle.std.proofs.Common.{◌∙◌}
use Rattle.grind_reach.proofs.WalkLemmas.{read-marked}
use Rattle.grind_reach.proofs.walk.read_marked.Goals as goal

pub returns-clause-read : goal.returns-clause-read
returns-clause-read g c = λ marked.
    c.in_ok-reading.ensures
    ∙ read-marked g.R.Algebra.operations c.args.course.now.table.now.nodes c.args.course.now.roots.now c.args.course.now.marks.now
    c.args.course.now.uses.now c.requires.course c.args.list.now c.args.n c.node.result.now c.node.ensures.value c.node.ensures.lower
    c.requires.count c.requires.known marked
