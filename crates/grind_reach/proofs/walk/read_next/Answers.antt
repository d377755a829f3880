use Rattle.std.proofs.Common.{◌≡◌, ℕ, List, All, Some, None, slice_get, subst}
use Rattle.grind_reach.specs.Marks.{reader_at}
use Rattle.grind_reach.proofs.WalkLemmas.{read-on, held-on}
use Rattle.grind_reach.proofs.walk.read_next.Goals as goal

pub returns-clause-known : goal.returns-clause-known
returns-clause-known g c =
    read-on g.R.Algebra.operations c.args.course.now.table.now.nodes c.args.course.now.roots.now c.args.course.now.marks.now
    c.args.course.now.uses.now c.requires.course c.args.n c.args.list.now c.push.new.self c.let_go.new.list c.in_ok-reading.reading
    c.requires.count c.requires.known c.in_ok-reading.ensures.read c.in_ok-push.ensures.ok c.let_go.ensures.size c.let_go.ensures.kept

pub returns-clause-held : goal.returns-clause-held
returns-clause-held g c =
    held-on c.args.course.now.table.now.nodes c.args.course.now.roots.now c.args.course.now.marks.now c.args.course.now.uses.now
    c.requires.course c.args.n c.node.result.now c.node.ensures.value c.requires.within c.args.list.now c.push.new.self c.let_go.new.list
    c.in_ok-reading.reading c.requires.count c.requires.held c.in_ok-reading.ensures.only c.in_ok-push.ensures.ok c.let_go.ensures.size
    c.let_go.ensures.kept
    (subst (λ (args : List ℕ). All (λ arg. reader_at c.args.course.now.uses.now arg ≡ c.args.n → slice_get c.let_go.new.list arg ≡ Some None) args)
    c.as_slice-2.ensures.value c.let_go.ensures.gone)
