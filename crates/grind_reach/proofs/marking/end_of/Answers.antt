use Rattle.std.proofs.Common.{rules, ◌≡◌, length}
use Rattle.grind_reach.proofs.MarkLemmas.{end-goes_on, end-ends}
use Rattle.grind_reach.proofs.marking.end_of.Goals as goal

pub loop-number-preserved : goal.loop-number-preserved
loop-number-preserved c =
    end-goes_on c.args.numbers.now c.loop-number.rest.now c.in-Some.tail.now c.in-Some.number.now c.loop-number.end c.past-end.result
    c.in-Some.ensures.cases.0 c.past-end.ensures.end c.past-end.ensures.node c.past-end.ensures.least c.loop-number.invariant

pub returns-clause-above : goal.returns-clause-above
returns-clause-above c =
    let none : length c.loop-number.rest.now ≡ 0 = search rules in
    end-ends c.args.numbers.now c.loop-number.rest.now c.loop-number.end none c.loop-number.invariant
