use Rattle.grind_reach.proofs.WalkLemmas.{let_go-within, let_go-goes_on}
use Rattle.grind_reach.proofs.walk.let_go.Goals as goal

pub let_one_go-requires-clause-within : goal.let_one_go-requires-clause-within
let_one_go-requires-clause-within g c =
    let_go-within c.args.uses.now c.args.n c.args.list.now c.loop-arg.list c.args.args.now c.loop-arg.rest.now c.in-Some.tail.now
    c.in-Some.arg.now c.in-Some.ensures.cases.0 c.loop-arg.invariant c.requires.within

pub loop-arg-preserved : goal.loop-arg-preserved
loop-arg-preserved g c =
    let_go-goes_on c.args.uses.now c.args.n c.args.list.now c.loop-arg.list c.args.args.now c.loop-arg.rest.now c.in-Some.tail.now
    c.in-Some.arg.now c.in-Some.ensures.cases.0 c.loop-arg.invariant c.let_one_go.new.list c.let_one_go.ensures.size
    c.let_one_go.ensures.kept c.let_one_go.ensures.gone
