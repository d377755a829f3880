use Rattle.std.proofs.Common.{rules, ◌≡◌, length}
use Rattle.grind_reach.proofs.WalkLemmas.{roots-read, roots-held}
use Rattle.grind_reach.proofs.walk.read_along.Goals as goal

pub returns-clause-read : goal.returns-clause-read
returns-clause-read g c =
    let whole : length c.loop-number.list ≡ length c.args.course.now.marks.now = search rules in
    roots-read g.R.Algebra.operations c.args.course.now.table.now.nodes c.args.course.now.roots.now c.args.course.now.marks.now
    c.args.course.now.uses.now c.loop-number.list c.requires whole c.loop-number.invariant.known

pub returns-clause-only : goal.returns-clause-only
returns-clause-only g c =
    let whole : length c.loop-number.list ≡ length c.args.course.now.marks.now = search rules in
    roots-held c.args.course.now.table.now.nodes c.args.course.now.roots.now c.args.course.now.marks.now
    c.args.course.now.uses.now c.requires c.loop-number.list whole c.loop-number.invariant.held
